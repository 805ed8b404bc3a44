-- A scan of one dot that is done on a flatbed here.
use Rattle.std.proofs.Common.{◌≡◌, ◌∙◌, ℕ, List, [], ◌∷◌, ◌++◌, Option, Some, None, Bool, true, false, refl, sym, ap, subst, inl, inr, ◌/◌, ◌%◌, arith}
use Rattle.std.specs.Prelude.{IsSomeAnd, Ok, ⊤, ◌==◌}
use Rattle.std.specs.Io.KnownBytes.{Appends}
use Rattle.std.proofs.lemmas.List.{append-nil}
use Rattle.sane_fixed.specs.declared.byte_order.ByteOrder.TheVariants.{Big}
use Rattle.frame_join.specs.PictureText.{IsPictureFile}
use Rattle.page_picture.specs.Meaning.{meaning_of}
use Rattle.page_picture.specs.Source.{SourceState}
use Rattle.page_picture.specs.declared.scene.DeviceKind.TheVariants.{Flatbed}
use Rattle.scan_frames.specs.declared.setup.Setup.{Setup}
use Rattle.device_api.specs.InForce.{Placement, in_force}
use Rattle.device_api.specs.State.{DeviceState, after_reset, with_setup}
use Rattle.device_api.specs.Values.{defaults}
use Rattle.virtual_scanner.specs.New.{new_scanner}
use Rattle.dispatch.specs.Table.{Table, unplug_answer}
use Rattle.scan_job.specs.declared.job.Task.{Task}
use Rattle.scan_job.specs.declared.job.Task.TheVariants.{Scan}
use Rattle.scan_job.specs.declared.report.Report.{Report}
use Rattle.scan_laws.specs.SetInfo.{has_bit}
use Rattle.local_job.specs.FrameReading.{IsScanned}
use Rattle.local_job.specs.LocalRun.{Writes, settings_put, with_file}
use Rattle.local_job.specs.SettingReports.{IsReported, SettingsAreReported}
use Rattle.scanimage_cli.specs.Doing.{DoesJob}
use Rattle.scanimage_cli.specs.Printing.{TakesOrFails, printed_table}
use Rattle.recorded.specs.Names.{IsNamed, named_behind}
use Rattle.scanimage_cli.specs.Programs.DoesPlanned.{ToOutput, ToPath, ToFolder}
use Rattle.scanimage_cli.specs.Programs.{AskedHere, DoesPlanned, HasDoneHere, ProgramOutputs, job_part}
use Rattle.scanimage_cli.specs.declared.planning.Destination.{Destination}
use Rattle.scanimage_cli.specs.declared.planning.Destination.TheVariants.{StandardOutput, Path}
use Rattle.scanimage_cli.proofs.Destinations.{IsFolder, IsOut, IsPath, path_of}
use Rattle.scanimage_cli.specs.RoundedLines.{report_line, rounded_text}
use Rattle.scanimage_cli.specs.declared.printed.Printout.{Printout}
use Rattle.worked_programs.proofs.Basics.{ok_is, some_is}
use Rattle.worked_programs.proofs.Flatbeds.{dot_forced, dot_on_flatbed, dot_options, dot_placed}

-- ---- no line of a setting that was given as it was asked for

abbrev pub AreExact : List Placement → Type 0
AreExact [] = ⊤
AreExact (p ∷ ps) = (p.given ≡ p.asked) × AreExact ps

no_bit : (n : ℕ) → (n / 1 % 2 == 1) ≡ false → (n % 2 == 1) ≡ false
no_bit n e = rw (let same : n / 1 ≡ n = omega arith in same) at e

is_false : (b : Bool) → (b ≡ true → ⊥) → b ≡ false
is_false true never = absurd (never refl)
is_false false never = refl

not_rounded : (s : Setup) (setting : List ℕ × List ℕ) (p : Placement) (report : Report) → IsReported s setting p report → p.given ≡ p.asked
    → report_line report ≡ []
not_rounded s setting p report is exact =
    let bit : has_bit report.info 1 ≡ false = is_false (has_bit report.info 1) (λ set. is.info.inexact.0 set exact) in
    rw (no_bit report.info.0 bit) refl

pub none_rounded : (s : Setup) (settings : List (List ℕ × List ℕ)) (placed : List Placement) (reports : List Report)
    → SettingsAreReported s settings placed reports → AreExact placed → rounded_text reports ≡ []
none_rounded s [] [] [] told exact = refl
none_rounded s (setting ∷ settings) (p ∷ ps) (report ∷ reports) told exact =
    ap (λ (line : List ℕ). line ++ rounded_text reports) (not_rounded s setting p report told.0 exact.0)
    ∙ none_rounded p.setup settings ps reports told.1 exact.1
none_rounded s [] [] (report ∷ reports) told exact = absurd told
none_rounded s [] (p ∷ ps) reports told exact = absurd told
none_rounded s (setting ∷ settings) [] reports told exact = absurd told
none_rounded s (setting ∷ settings) (p ∷ ps) [] told exact = absurd told

dot_exact : AreExact dot_placed
dot_exact = (refl, (refl, (refl, tt)))

-- ---- what is told of outputs

pub took_on : (x bs : List ℕ) (a b : Option (List ℕ)) → a ≡ Some x → Appends a b bs → b ≡ Some (x ++ bs)
took_on x bs a b first p = on b (subst (λ o. Appends o b bs) first p)
  where
    on : (b : Option (List ℕ)) → Appends (Some x) b bs → b ≡ Some (x ++ bs)
    on None p = absurd p
    on (Some y) p = ap Some p

pub took_none : (x : List ℕ) (a b : Option (List ℕ)) → a ≡ Some x → Appends a b [] → b ≡ Some x
took_none x a b first p = took_on x [] a b first p ∙ ap Some (append-nil x)

pub failed_none : (x : List ℕ) (a b : Option (List ℕ)) (failed : Bool) → a ≡ Some x → TakesOrFails a b [] failed → b ≡ Some x
failed_none x a b failed first (inl p) = took_none x a b first p
failed_none x a b failed first (inr p) = absurd (omega (arith, p.1))

-- ---- the scan

pub record HasScanned (source : SourceState) (x : List ℕ) (behind : Option (List ℕ)) (printed : Printout) : Type 0 where
  pub text : List ℕ
  pub taken : behind ≡ Some (x ++ text)
  pub meant : IsSomeAnd (meaning_of source.page dot_on_flatbed.scene) (IsPictureFile text)
  pub table : printed.table.items ≡ []
  pub rounded : printed.rounded.items ≡ []

pub record HasPrinted (source : SourceState) (was now : ProgramOutputs) : Type 0 where
  pub text : List ℕ
  pub meant : IsSomeAnd (meaning_of source.page dot_on_flatbed.scene) (IsPictureFile text)
  pub out : now.out ≡ Some text
  pub err : now.err ≡ Some []
  pub files : now.files ≡ was.files

pub record HasFiled (source : SourceState) (path : List ℕ) (was now : ProgramOutputs) : Type 0 where
  pub text : List ℕ
  pub meant : IsSomeAnd (meaning_of source.page dot_on_flatbed.scene) (IsPictureFile text)
  pub named : now.files.named ≡ Some (named_behind [] path ++ text)
  pub stock : now.files.stock ≡ was.files.stock
  pub out : now.out ≡ Some []
  pub err : now.err ≡ Some []

pub named_after : (x name : List ℕ) (a b : Option (List ℕ)) → a ≡ Some x → IsNamed name a b → b ≡ Some (named_behind x name)
named_after x name a b first p = on b (subst (λ o. IsNamed name o b) first p)
  where
    on : (b : Option (List ℕ)) → IsNamed name (Some x) b → b ≡ Some (named_behind x name)
    on None p = absurd p
    on (Some y) p = ap Some p

of_scan : (task : Task) (s : DeviceState) (before now : Option (List ℕ)) → task ≡ Scan → Writes task s before now → Writes Scan s before now
of_scan task s before now is writes = subst (λ t. Writes t s before now) is writes

module _ (table : Table) (asked : AskedHere) (was now : ProgramOutputs) (name : List ℕ) (source : SourceState) (h : HasDoneHere table asked was now)
    (own : h.job.device ≡ name)
    (there : unplug_answer table name ≡ Ok (new_scanner Flatbed name source Big)) (scan : asked.plan.task ≡ Scan)
    (settings : asked.plan.settings.items ≡ dot_options) (steady : source.steady ≡ true) where
  old_is : h.old ≡ new_scanner Flatbed name source Big
  old_is = ok_is _ _ (sym h.found ∙ ap (λ (n : List ℕ). unplug_answer table n) own ∙ there)

  task_is : h.job.task ≡ Scan
  task_is = h.asked_for.task ∙ scan

  items_are : h.job.settings.items ≡ dot_options
  items_are = ap (λ s. s.items) h.asked_for.settings_are ∙ settings

  in_force_is : in_force h.old.setup.scene.kind h.old.setup.order (settings_put h.job.task h.job.settings.items) ≡ in_force Flatbed Big dot_options
  unfolding defaults
  in_force_is =
      ap (λ (s : DeviceState). in_force s.setup.scene.kind s.setup.order (settings_put h.job.task h.job.settings.items)) old_is
      ∙ ap (λ (t : Task). in_force Flatbed Big (settings_put t h.job.settings.items)) task_is
      ∙ ap (λ (xs : List (List ℕ × List ℕ)). in_force Flatbed Big xs) items_are

  module _ (before behind : Option (List ℕ)) (x : List ℕ) (first : before ≡ Some x)
      (does : DoesJob h.job (with_file h.old before) (with_file h.new behind) h.printed) where
    forced_is : ◌≡◌ {A = Setup × List Placement} (does.done.setup, does.done.placed) (dot_on_flatbed, dot_placed)
    forced_is = some_is _ _ (sym does.done.put.put ∙ in_force_is ∙ dot_forced)

    setup_is : does.done.setup ≡ dot_on_flatbed
    setup_is = ap (λ (f : Setup × List Placement). f.0) forced_is

    scanned : IsScanned (with_setup (after_reset (new_scanner Flatbed name source Big)) dot_on_flatbed) before behind
    scanned =
        let empty : Appends before before [] = subst (λ o. Appends o o []) (sym first) (sym (append-nil x)) in
        let file = of_scan h.job.task _ before behind task_is does.done.output before empty in
        subst (λ (s : DeviceState). IsScanned s before behind)
        (ap (λ (s : DeviceState). with_setup (after_reset s) does.done.setup) old_is
        ∙ ap (λ (u : Setup). with_setup (after_reset (new_scanner Flatbed name source Big)) u) setup_is) file

    no_lines : rounded_text does.reports.settings ≡ []
    no_lines = none_rounded _ _ does.done.placed does.reports.settings does.done.told
        (subst AreExact (sym (ap (λ (f : Setup × List Placement). f.1) forced_is)) dot_exact)

    pub has_scanned : HasScanned source x behind h.printed
    has_scanned = record {
      text = scanned.text;
      taken = took_on x scanned.text before behind first scanned.taken;
      meant = scanned.picture steady;
      table = does.prints.table ∙ ap (λ (t : Task). printed_table t [] h.job.device does.reports) task_is;
      rounded = does.prints.rounded ∙ no_lines;
    }

  -- ---- printed, or in the file that was named

  prints_on : (destination : Destination) → destination ≡ StandardOutput → was.out ≡ Some [] → was.err ≡ Some []
      → DoesPlanned destination h.job (h.old, h.new) (job_part was) (record { out = h.behind; files = now.files }) h.printed → HasPrinted source was now
  prints_on destination at out err (ToOutput there does same) =
      let s = has_scanned was.out h.behind [] out does in
      record {
        text = s.text;
        meant = s.meant;
        out = took_none s.text h.behind now.out s.taken (subst (λ (t : List ℕ). Appends h.behind now.out t) s.table h.printed_out);
        err = failed_none [] was.err now.err now.failed err (subst (λ (t : List ℕ). TakesOrFails was.err now.err t now.failed) s.rounded h.rounded);
        files = same;
      }
  prints_on destination at out err (ToPath path there begun named does same stock) = absurd (subst IsPath (sym there ∙ at) tt)
  prints_on destination at out err (ToFolder there does same named) = absurd (subst IsFolder (sym there ∙ at) tt)

  pub printed_scan : asked.plan.destination ≡ StandardOutput → was.out ≡ Some [] → was.err ≡ Some [] → HasPrinted source was now
  printed_scan at out err = prints_on asked.plan.destination at out err h.does

  files_on : (destination : Destination) (path : List ℕ) → destination ≡ Path path → was.files.named ≡ Some [] → was.out ≡ Some [] → was.err ≡ Some []
      → DoesPlanned destination h.job (h.old, h.new) (job_part was) (record { out = h.behind; files = now.files }) h.printed → HasFiled source path was now
  files_on destination path at none out err (ToOutput there does same) = absurd (subst IsOut (sym there ∙ at) tt)
  files_on destination path at none out err (ToPath own there begun named does same stock) =
      let same_path : own ≡ path = ap path_of (sym there ∙ at) in
      let begun_is : begun ≡ Some (named_behind [] path) = named_after [] path was.files.named begun none
      (subst (λ (p : List ℕ). IsNamed p was.files.named begun) same_path named) in
      let s = has_scanned begun now.files.named (named_behind [] path) begun_is does in
      record {
        text = s.text;
        meant = s.meant;
        named = s.taken;
        stock = stock;
        out = took_none [] h.behind now.out (same ∙ out) (subst (λ (t : List ℕ). Appends h.behind now.out t) s.table h.printed_out);
        err = failed_none [] was.err now.err now.failed err (subst (λ (t : List ℕ). TakesOrFails was.err now.err t now.failed) s.rounded h.rounded);
      }
  files_on destination path at none out err (ToFolder there does same named) = absurd (subst IsFolder (sym there ∙ at) tt)

  pub filed_scan : (path : List ℕ) → asked.plan.destination ≡ Path path → was.files.named ≡ Some [] → was.out ≡ Some [] → was.err ≡ Some []
      → HasFiled source path was now
  filed_scan path at none out err = files_on asked.plan.destination path at none out err h.does

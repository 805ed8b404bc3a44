-- What a plan that is carried out has written.
use Rattle.std.proofs.Common.{ℕ, ◌≡◌, ◌≢◌, ◌⊎◌, inl, inr, ◌∙◌, ap, sym, refl, subst, Option, Some, None, List, [], ◌++◌}
use Rattle.std.proofs.lemmas.List.{append-nil}
use Rattle.std.specs.Prelude.{◌<◌, length}
use Rattle.std.specs.Io.KnownBytes.{Appends}
use Rattle.device_api.specs.State.{DeviceState, after_reset, with_setup}
use Rattle.recorded.specs.Names.{IsNamed, named_behind, stock_of}
use Rattle.scan_job.specs.FileOutputs.{TakesBack}
use Rattle.scan_job.specs.Shelves.{ReturnedOutput, Stock}
use Rattle.scan_job.specs.declared.job.Task.{Task}
use Rattle.scan_job.specs.declared.job.Task.TheVariants.{List as ListTask, Show, SetOnly, Scan, Batch}
use Rattle.net_jobs.specs.Batches.{pages_of}
use Rattle.net_jobs.specs.Outputs.{page_outputs_from, texts_of}
use Rattle.local_job.specs.LocalPages.{after_pages, outputs_from, with_shelf}
use Rattle.local_job.specs.LocalRun.{Writes, with_file}
use Rattle.dispatch.specs.Table.{Table}
use Rattle.scanimage_cli.specs.DeviceList.{net_prefix}
use Rattle.scanimage_cli.specs.Doing.{DoesBatch, DoesJob}
use Rattle.scanimage_cli.specs.Printing.{printed_table}
use Rattle.scanimage_cli.specs.Programs.DoesPlanned.{ToOutput, ToPath, ToFolder}
use Rattle.scanimage_cli.specs.Programs.{AskedHere, AskedThere, DoesPlanned, GaveFile, GavePlanned, HasDoneHere, IsDoneHere, IsDoneThere, ProgramOutputs, asked_here, asked_there, job_part}
use Rattle.scanimage_cli.specs.Host.{DialsBetween, dials_between}
use Rattle.scanimage_cli.specs.Whole.{IsDoneAt, ProgramState}
use Rattle.scanimage_cli.specs.Written.{AreFilesHere, AreFilesThere, CarriedOutIsWritten, HaveTaken, IsFileHere, IsFileThere, IsWritten, JobThere, TakenOutputs, planned_at}
use Rattle.scanimage_cli.specs.declared.planning.Destination.{Destination}
use Rattle.scanimage_cli.specs.declared.planning.Destination.TheVariants.{StandardOutput, Path, Folder}
use Rattle.scanimage_cli.specs.declared.planning.JobPlan.{JobPlan}
use Rattle.scanimage_cli.specs.declared.planning.Location.{Location}
use Rattle.scanimage_cli.specs.declared.planning.Location.TheVariants.{Here, There}
use Rattle.scanimage_cli.specs.declared.planning.Remote.{Remote}
use Rattle.scanimage_cli.proofs.Carried.{batch_prints_none, scan_prints_none}
use Rattle.scanimage_cli.proofs.Destinations.{IsFolder, IsListing, IsOut, IsPath, path_of}
use Rattle.scanimage_cli.proofs.PageTexts.{outputs_of_pages}

-- ---- what is told

pub appended : (x y bs : List ℕ) (a b : Option (List ℕ)) → a ≡ Some x → b ≡ Some y → Appends a b bs → y ≡ x ++ bs
appended x y bs a b first last p = subst (λ o. Appends (Some x) o bs) last (subst (λ o. Appends o b bs) first p)

pub appended_none : (x y : List ℕ) (a b : Option (List ℕ)) → a ≡ Some x → b ≡ Some y → Appends a b [] → y ≡ x
appended_none x y a b first last p = appended x y [] a b first last p ∙ append-nil x

pub told_on : (x bs : List ℕ) (b : Option (List ℕ)) → Appends (Some x) b bs → b ≡ Some (x ++ bs)
told_on x bs None p = absurd p
told_on x bs (Some y) p = ap Some p

pub begun_is : (x bs : List ℕ) (a b : Option (List ℕ)) → a ≡ Some x → Appends a b bs → b ≡ Some (x ++ bs)
begun_is x bs a b first p = told_on x bs b (subst (λ o. Appends o b bs) first p)

named_on : (x name : List ℕ) (b : Option (List ℕ)) → IsNamed name (Some x) b → b ≡ Some (named_behind x name)
named_on x name None p = absurd p
named_on x name (Some y) p = ap Some p

named_is : (x name : List ℕ) (a b : Option (List ℕ)) → a ≡ Some x → IsNamed name a b → b ≡ Some (named_behind x name)
named_is x name a b first p = named_on x name b (subst (λ o. IsNamed name o b) first p)

abbrev text_of : Option (List ℕ) → List ℕ
text_of None = []
text_of (Some text) = text

pub same_text : (x y : List ℕ) (a b : Option (List ℕ)) → a ≡ Some x → b ≡ Some y → b ≡ a → y ≡ x
same_text x y a b first last same = ap text_of (sym last ∙ (same ∙ first))

abbrev returned_of : Option Stock → List ReturnedOutput
returned_of None = []
returned_of (Some stock) = stock.taken

pub same_stock : (x y : List ReturnedOutput) (n m : ℕ) (a b : Option Stock) → a ≡ Some (stock_of n x) → b ≡ Some (stock_of m y) → b ≡ a → y ≡ x
same_stock x y n m a b first last same = ap returned_of (sym last ∙ (same ∙ first))

pub taken_back : (x y outputs : List ReturnedOutput) (n m : ℕ) (a b : Option Stock) → a ≡ Some (stock_of n x) → b ≡ Some (stock_of m y) → TakesBack a outputs b → y ≡ x ++ outputs
taken_back x y outputs n m a b first last p = subst (λ o. TakesBack (Some (stock_of n x)) outputs o) last (subst (λ o. TakesBack o outputs b) first p)

-- ---- the files that were asked for here

of_scan : (task : Task) (s : DeviceState) (before now : Option (List ℕ)) → task ≡ Scan → Writes task s before now → Writes Scan s before now
of_scan task s before now is writes = subst (λ t. Writes t s before now) is writes

-- a scan that was done has its file
module _ (table : Table) (asked : AskedHere) (was now : ProgramOutputs) (h : HasDoneHere table asked was now) where
  file_here : (before behind : Option (List ℕ)) (x : List ℕ) → before ≡ Some x → asked.plan.task ≡ Scan → DoesJob h.job (with_file h.old before) (with_file h.new behind) h.printed
      → (text : List ℕ) × IsFileHere table asked text × Appends before behind text
  file_here before behind x first is does =
      let empty : Appends before before [] = subst (λ o. Appends o o []) (sym first) (sym (append-nil x)) in
      let file = of_scan h.job.task _ before behind (h.asked_for.task ∙ is) does.done.output before empty in (
        file.text,
        record {
          here = record { job = h.job; asked_for = h.asked_for; named = h.named; device = h.old; found = h.found; setup = does.done.setup; placed = does.done.placed };
          put = does.done.put;
          file = record { whole = file.whole; picture = file.picture };
        },
        file.taken,
      )

  files_here : (before behind : Option Stock) → DoesBatch h.job (with_shelf h.old before) (with_shelf h.new behind) h.printed
      → (texts : List (List ℕ)) × AreFilesHere table asked texts × TakesBack before (outputs_from 1 texts) behind
  files_here before behind does =
      let scanned = does.done.scanned in
      let from = with_setup (after_reset h.old) does.done.setup in (
        scanned.files,
        record {
          here = record { job = h.job; asked_for = h.asked_for; named = h.named; device = h.old; found = h.found; setup = does.done.setup; placed = does.done.placed };
          put = does.done.put;
          files = scanned.pages;
          all = all_pages (length scanned.files) _ h.new from scanned.left scanned.all;
        },
        scanned.outputs,
      )
    where
      all_pages : (n count : ℕ) (new from : DeviceState) → new ≡ after_pages n from → (n ≡ count) ⊎ ((0 < n) × (n < count) × (new.pages ≡ [])) → (n ≡ count) ⊎ ((0 < n) × (n < count) × ((after_pages n from).pages ≡ []))
      all_pages n count new from left (inl all) = inl all
      all_pages n count new from left (inr few) = inr (few.0, few.1, ap (λ d. d.pages) (sym left) ∙ few.2)

-- ---- done here

module _ (table : Table) (device : Option (List ℕ)) (plan : JobPlan) (password : List ℕ) (was now : ProgramOutputs) (old new : TakenOutputs) (first : HaveTaken was old) (last : HaveTaken now new) where
  abbrev HereIsWritten : Type 0
  HereIsWritten = IsWritten (planned_at (Here device) table plan password) old new

  module _ (h : HasDoneHere table (asked_here device plan password) was now) where
    abbrev Does : Destination → Type 0
    Does destination = DoesPlanned destination h.job (h.old, h.new) (job_part was) (record { out = h.behind; files = now.files }) h.printed

    none_of_scan : (destination : Destination) → plan.task ≡ Scan → Does destination → Appends h.behind now.out []
    none_of_scan destination is does = subst (λ t. Appends h.behind now.out t) (scan_prints_none destination h.job _ _ _ h.printed (h.asked_for.task ∙ is) does) h.printed_out

    here_out : (destination : Destination) → plan.task ≡ Scan → destination ≡ StandardOutput → Does destination
        → ((text : List ℕ) × IsFileHere table (asked_here device plan password) text × (new.out ≡ old.out ++ text)) × (new.named ≡ old.named) × (new.returned ≡ old.returned)
    here_out destination is at (ToOutput there x same) =
        let file = file_here table (asked_here device plan password) was now h was.out h.behind old.out first.out is x in
        let behind = begun_is old.out file.0 was.out h.behind first.out file.2 in
        let out = appended_none (old.out ++ file.0) new.out h.behind now.out behind last.out (none_of_scan destination is (ToOutput there x same)) in
        ((file.0, file.1, out), same_text old.named new.named _ _ first.named last.named (ap (λ f. f.named) same), same_stock old.returned new.returned _ _ _ _ first.stock last.stock (ap (λ f. f.stock) same))
    here_out destination is at (ToPath path there begun named x out stock) = absurd (subst IsPath (sym there ∙ at) tt)
    here_out destination is at (ToFolder there x out named) = absurd (subst IsFolder (sym there ∙ at) tt)

    here_path : (destination : Destination) (path : List ℕ) → plan.task ≡ Scan → destination ≡ Path path → Does destination
        → ((text : List ℕ) × IsFileHere table (asked_here device plan password) text × (new.named ≡ named_behind old.named path ++ text)) × (new.out ≡ old.out) × (new.returned ≡ old.returned)
    here_path destination path is at (ToOutput there x same) = absurd (subst IsOut (sym there ∙ at) tt)
    here_path destination path is at (ToPath path0 there begun named x out stock) =
        let same_path : path0 ≡ path = ap path_of (sym there ∙ at) in
        let begun_at = named_is old.named path _ begun first.named (subst (λ (p : List ℕ). IsNamed p was.files.named begun) same_path named) in
        let file = file_here table (asked_here device plan password) was now h begun now.files.named (named_behind old.named path) begun_at is x in
        let text = appended (named_behind old.named path) new.named file.0 begun now.files.named begun_at last.named file.2 in
        let none = appended_none old.out new.out h.behind now.out (out ∙ first.out) last.out (none_of_scan destination is (ToPath path0 there begun named x out stock)) in
        ((file.0, file.1, text), none, same_stock old.returned new.returned _ _ _ _ first.stock last.stock stock)
    here_path destination path is at (ToFolder there x out named) = absurd (subst IsFolder (sym there ∙ at) tt)

    here_folder : (destination : Destination) (count : ℕ) → plan.task ≡ Batch count → destination ≡ Folder → Does destination
        → ((texts : List (List ℕ)) × AreFilesHere table (asked_here device plan password) texts × (new.returned ≡ old.returned ++ outputs_from 1 texts)) × (new.out ≡ old.out) × (new.named ≡ old.named)
    here_folder destination count is at (ToOutput there x same) = absurd (subst IsOut (sym there ∙ at) tt)
    here_folder destination count is at (ToPath path0 there begun named x out stock) = absurd (subst IsPath (sym there ∙ at) tt)
    here_folder destination count is at (ToFolder there x out named) =
        let files = files_here table (asked_here device plan password) was now h was.files.stock now.files.stock x in
        let back = taken_back old.returned new.returned (outputs_from 1 files.0) _ _ _ _ first.stock last.stock files.2 in
        let printed = subst (λ t. Appends h.behind now.out t) (batch_prints_none destination h.job _ _ _ h.printed count (h.asked_for.task ∙ is) (ToFolder there x out named)) h.printed_out in
        let none = appended_none old.out new.out h.behind now.out (out ∙ first.out) last.out printed in
        ((files.0, files.1, back), none, same_text old.named new.named _ _ first.named last.named named)

    here_none : (destination : Destination) → destination ≡ StandardOutput → Does destination → (new.named ≡ old.named) × (new.returned ≡ old.returned)
    here_none destination at (ToOutput there x same) = (same_text old.named new.named _ _ first.named last.named (ap (λ f. f.named) same), same_stock old.returned new.returned _ _ _ _ first.stock last.stock (ap (λ f. f.stock) same))
    here_none destination at (ToPath path0 there begun named x out stock) = absurd (subst IsPath (sym there ∙ at) tt)
    here_none destination at (ToFolder there x out named) = absurd (subst IsFolder (sym there ∙ at) tt)

    here_written : HereIsWritten
    here_written = record {
      to_output = λ is at. here_out plan.destination is at h.does;
      to_file = λ path is at. here_path plan.destination path is at h.does;
      to_folder = λ count is at. here_folder plan.destination count is at h.does;
      to_none = λ _ at. here_none plan.destination at h.does;
    }

  listed_written : plan.task ≡ ListTask → now.files ≡ was.files → HereIsWritten
  listed_written is same =
      let kept : (new.named ≡ old.named) × (new.returned ≡ old.returned) = (same_text old.named new.named _ _ first.named last.named (ap (λ f. f.named) same), same_stock old.returned new.returned _ _ _ _ first.stock last.stock (ap (λ f. f.stock) same)) in
      record {
        to_output = λ scan at. absurd (subst IsListing (sym is ∙ scan) tt);
        to_file = λ path scan at. absurd (subst IsListing (sym is ∙ scan) tt);
        to_folder = λ count batch at. absurd (subst IsListing (sym is ∙ batch) tt);
        to_none = λ _ at. kept;
      }

-- ---- done at a host

module _ (table : Table) (remote : Remote) (plan : JobPlan) (password : List ℕ) (was now : ProgramOutputs) (old new : TakenOutputs) (first : HaveTaken was old) (last : HaveTaken now new) (dials : DialsBetween) (d : IsDoneThere (asked_there remote plan password) dials was now) where
  abbrev AskedOfIt : AskedThere
  AskedOfIt = asked_there remote plan password

  abbrev Gave : Destination → Type 0
  Gave destination = GavePlanned destination d.job d.ran.loop (job_part was) (record { out = d.behind; files = now.files })

  abbrev of_job : JobThere AskedOfIt
  of_job = record { job = d.job; asked_for = d.asked_for; device = d.device; fits = d.fits; loop = d.ran.loop }

  none_there : (task : Task) → plan.task ≡ task → printed_table task (net_prefix remote.host) d.job.device d.ran.loop.reports ≡ [] → Appends d.behind now.out []
  none_there task is nothing = subst (λ t. Appends d.behind now.out t) (d.ran.prints.table ∙ (ap (λ t. printed_table t (net_prefix remote.host) d.job.device d.ran.loop.reports) (d.asked_for.task ∙ is) ∙ nothing)) d.printed_out

  file_there : (before behind : Option (List ℕ)) → plan.task ≡ Scan → GaveFile d.job d.ran.loop before behind → (text : List ℕ) × IsFileThere AskedOfIt text × Appends before behind text
  file_there before behind is gave =
      let file = gave.file (d.asked_for.task ∙ is) in
      (gave.text, record { there = of_job; went_out = gave.went_out; picture = file.0; shows = file.1; file = file.2 }, gave.taken)

  there_out : (destination : Destination) → plan.task ≡ Scan → destination ≡ StandardOutput → Gave destination
      → ((text : List ℕ) × IsFileThere AskedOfIt text × (new.out ≡ old.out ++ text)) × (new.named ≡ old.named) × (new.returned ≡ old.returned)
  there_out StandardOutput is at gave =
      let file = file_there was.out d.behind is gave.0 in
      let told = begun_is old.out file.0 was.out d.behind first.out file.2 in
      let out = appended_none (old.out ++ file.0) new.out d.behind now.out told last.out (none_there Scan is refl) in
      ((file.0, file.1, out), same_text old.named new.named _ _ first.named last.named (ap (λ f. f.named) gave.1), same_stock old.returned new.returned _ _ _ _ first.stock last.stock (ap (λ f. f.stock) gave.1))
  there_out (Path path) is at gave = absurd (subst IsPath at tt)
  there_out Folder is at gave = absurd (subst IsFolder at tt)

  there_path : (destination : Destination) (path : List ℕ) → plan.task ≡ Scan → destination ≡ Path path → Gave destination
      → ((text : List ℕ) × IsFileThere AskedOfIt text × (new.named ≡ named_behind old.named path ++ text)) × (new.out ≡ old.out) × (new.returned ≡ old.returned)
  there_path StandardOutput path is at gave = absurd (subst IsOut at tt)
  there_path (Path path0) path is at gave =
      let begun_at = named_is old.named path _ gave.0.0 first.named (subst (λ (p : List ℕ). IsNamed p was.files.named gave.0.0) (ap path_of at) gave.0.1) in
      let file = file_there gave.0.0 now.files.named is gave.0.2 in
      let text = appended (named_behind old.named path) new.named file.0 gave.0.0 now.files.named begun_at last.named file.2 in
      let none = appended_none old.out new.out d.behind now.out (gave.1 ∙ first.out) last.out (none_there Scan is refl) in
      ((file.0, file.1, text), none, same_stock old.returned new.returned _ _ _ _ first.stock last.stock gave.2)
  there_path Folder path is at gave = absurd (subst IsFolder at tt)

  there_folder : (destination : Destination) (count : ℕ) → plan.task ≡ Batch count → destination ≡ Folder → Gave destination
      → ((texts : List (List ℕ)) × AreFilesThere AskedOfIt texts × (new.returned ≡ old.returned ++ outputs_from 1 texts)) × (new.out ≡ old.out) × (new.named ≡ old.named)
  there_folder StandardOutput count is at gave = absurd (subst IsOut at tt)
  there_folder (Path path) count is at gave = absurd (subst IsPath at tt)
  there_folder Folder count is at gave =
      let pages = pages_of d.ran.loop.trace in
      let back = taken_back old.returned new.returned (page_outputs_from 1 pages) _ _ _ _ first.stock last.stock gave.0.outputs in
      let none = appended_none old.out new.out d.behind now.out (gave.1 ∙ first.out) last.out (none_there (Batch count) is refl) in
      let files : AreFilesThere AskedOfIt (texts_of pages) = record { there = of_job; count = gave.0.count; files = gave.0.files; went_out = gave.0.went_out; texts_are = refl } in
      ((texts_of pages, files, back ∙ ap (λ more. old.returned ++ more) (outputs_of_pages 1 pages)), none, same_text old.named new.named _ _ first.named last.named gave.2)

  there_none : (destination : Destination) → destination ≡ StandardOutput → Gave destination → (new.named ≡ old.named) × (new.returned ≡ old.returned)
  there_none StandardOutput at gave = (same_text old.named new.named _ _ first.named last.named (ap (λ f. f.named) gave.1), same_stock old.returned new.returned _ _ _ _ first.stock last.stock (ap (λ f. f.stock) gave.1))
  there_none (Path path) at gave = absurd (subst IsPath at tt)
  there_none Folder at gave = absurd (subst IsFolder at tt)

  there_written : IsWritten (planned_at (There remote) table plan password) old new
  there_written = record {
    to_output = λ is at. there_out plan.destination is at d.ran.gave;
    to_file = λ path is at. there_path plan.destination path is at d.ran.gave;
    to_folder = λ count is at. there_folder plan.destination count is at d.ran.gave;
    to_none = λ _ at. there_none plan.destination at d.ran.gave;
  }

-- ---- a plan

is_list_or_not : (task : Task) → (task ≡ ListTask) ⊎ (task ≢ ListTask)
is_list_or_not ListTask = inl refl
is_list_or_not Show = inr (λ is. absurd (subst IsListing (sym is) tt))
is_list_or_not SetOnly = inr (λ is. absurd (subst IsListing (sym is) tt))
is_list_or_not Scan = inr (λ is. absurd (subst IsListing (sym is) tt))
is_list_or_not (Batch count) = inr (λ is. absurd (subst IsListing (sym is) tt))

done_here : (table : Table) (device : Option (List ℕ)) (plan : JobPlan) (password : List ℕ) (was now : ProgramOutputs) (old new : TakenOutputs) → HaveTaken was old → HaveTaken now new → IsDoneHere table (asked_here device plan password) was now
    → (plan.task ≡ ListTask) ⊎ (plan.task ≢ ListTask) → IsWritten (planned_at (Here device) table plan password) old new
done_here table device plan password was now old new first last done (inl is) = listed_written table device plan password was now old new first last is (done.list is).2
done_here table device plan password was now old new first last done (inr other) = here_written table device plan password was now old new first last (done.job other)

done_at : (location : Location) (table : Table) (plan : JobPlan) (password : List ℕ) (was now : ProgramState) (old new : TakenOutputs) → HaveTaken was.outputs old → HaveTaken now.outputs new → IsDoneAt location table plan password was now → IsWritten (planned_at location table plan password) old new
done_at (Here device) table plan password was now old new first last done = done_here table device plan password was.outputs now.outputs old new first last done.0 (is_list_or_not plan.task)
done_at (There remote) table plan password was now old new first last done = there_written table remote plan password was.outputs now.outputs old new first last (dials_between was.ports now.ports) done

pub carried_out_is_written : CarriedOutIsWritten
carried_out_is_written plan table was now old new first last carried = done_at plan.location table plan.job carried.password was now old new first last carried.does

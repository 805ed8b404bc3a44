-- A setting that is rounded, and told.
use Rattle.std.proofs.Common.{◌≡◌, ◌≢◌, ◌∙◌, ℕ, List, [], ◌∷◌, Bool, true, false, refl, sym, ap, subst, ◌/◌, ◌%◌, arith, inl, inr, Option, Some, None}
use Rattle.std.specs.Prelude.{codes, decimal, pos, ◌==◌}
use Rattle.std.specs.Fmt.{digits}
use Rattle.std.specs.List.{concat}
use Rattle.std.specs.Io.KnownBytes.{Appends}
use Rattle.std.proofs.lemmas.List.{append-nil}
use Rattle.std.proofs.lemmas.List.Elements.{All-from_recursion}
use Rattle.sane_fixed.specs.declared.byte_order.ByteOrder.TheVariants.{Big}
use Rattle.constraint.specs.NearestComputed.{nearest_in_range}
use Rattle.page_picture.specs.Source.{SourceState}
use Rattle.page_picture.specs.declared.scene.DeviceKind.TheVariants.{Flatbed}
use Rattle.option_desc.specs.Put.{resolve}
use Rattle.option_desc.specs.Reads.{integer_of, read_value}
use Rattle.option_desc.specs.ShownText.{shown_text}
use Rattle.option_desc.specs.declared.value.Value.{Value}
use Rattle.option_desc.specs.declared.value.Value.TheVariants.{Int}
use Rattle.scan_frames.specs.declared.setup.Setup.{Setup}
use Rattle.device_api.specs.InForce.{Placement, in_force, placement}
use Rattle.device_api.specs.Options.{descriptor_of, option_at}
use Rattle.device_api.specs.State.{DeviceState}
use Rattle.device_api.specs.Values.{defaults, setup_after, with_value}
use Rattle.dispatch.specs.Table.{fresh_table, unplug_answer}
use Rattle.scan_job.specs.JobSize.{IsJobText}
use Rattle.scan_job.specs.declared.job.Task.{Task}
use Rattle.scan_job.specs.declared.job.Task.TheVariants.{List as ListTask, Show, SetOnly, Scan}
use Rattle.scan_job.specs.declared.report.Report.{Report}
use Rattle.local_job.specs.LocalRun.{Writes, settings_put, with_file}
use Rattle.local_job.specs.SettingReports.{IsReported, SettingsAreReported}
use Rattle.scanimage_cli.specs.Causes.{EndsHere, MayPrint}
use Rattle.scanimage_cli.specs.Causes.EndsHere.{ByMemory, ByDevice, ByJob, ByPrinting}
use Rattle.scanimage_cli.specs.Doing.{DoesJob}
use Rattle.scanimage_cli.specs.Printing.{TakesOrFails, printed_table}
use Rattle.scanimage_cli.specs.Programs.DoesPlanned.{ToOutput, ToPath, ToFolder}
use Rattle.scanimage_cli.specs.Programs.{DoesPlanned, HasDoneHere, IsDoneHere, ProgramOutputs, asked_here, job_part}
use Rattle.scanimage_cli.specs.RoundedLines.{report_line, reported_option, rounded_text}
use Rattle.scanimage_cli.specs.Rounding.{is_rounded}
use Rattle.scanimage_cli.specs.ScanimageOptions.{value_after}
use Rattle.scanimage_cli.specs.WordCut.{cut_step, item_with, long_part, option_named, part_of_word, split_of, window_settings}
use Rattle.scanimage_cli.specs.declared.ending.Ending.{Ending}
use Rattle.scanimage_cli.specs.declared.planning.Destination.{Destination}
use Rattle.scanimage_cli.specs.declared.planning.Destination.TheVariants.{StandardOutput}
use Rattle.scanimage_cli.specs.declared.planning.JobPlan.{JobPlan}
use Rattle.scanimage_cli.proofs.Destinations.{IsFolder, IsPath}
use Rattle.worked_programs.specs.Begun.{no_first_line}
use Rattle.worked_programs.specs.DemoDot.{demo_config}
use Rattle.worked_programs.specs.RoundedSetting.{RoundedIsMissed, RoundedIsTold, round_words, rounded_told}
use Rattle.worked_programs.proofs.Basics.{ok_is, some_is}
use Rattle.worked_programs.proofs.ConfigTexts.{one_line}
use Rattle.worked_programs.proofs.DemoDot.{HasOneFlatbed, demo_digits, demo_good, demo_good_page, demo_line, demo_lines, demo_page, demo_telling, one_flatbed}
use Rattle.worked_programs.proofs.DotMissed.{some_device}
use Rattle.worked_programs.proofs.DotPrinted.{first_named, the_flatbed, there_is}
use Rattle.worked_programs.proofs.DoneScans.{took_none, took_on}
use Rattle.worked_programs.proofs.EndedScans.{MemoryOrOutput}
use Rattle.worked_programs.proofs.Jobs.{AreShort, AsksFor, asks_for, job_items, job_taken, job_task, one_on_output, plain_end}
use Rattle.worked_programs.proofs.LostPages.{one_lacks_memory}
use Rattle.worked_programs.proofs.Plans.{AskHere, PlansOnly, none_named, options_in, plans_only}
use Rattle.worked_programs.proofs.SmallPages.{two_dots}
use Rattle.worked_programs.proofs.Steps.{done_of}
use Rattle.worked_programs.proofs.Wants.{Ways, ends_in_want, one_refused}

-- ---- the words

round_program : List (List ℕ)
round_program = codes "--config=-" ∷ codes "--dont-scan" ∷ []

abbrev round_options : List (List ℕ × List ℕ)
round_options = (codes "resolution", codes "5000") ∷ []

round_split : split_of round_words ≡ Some (round_program, round_options)
unfolding split_of cut_step item_with part_of_word option_named long_part window_settings round_program
round_split = refl

round_asks : AskHere round_program None round_options None round_options SetOnly StandardOutput
unfolding value_after round_program
round_asks = record {
  port = refl;
  counted = refl;
  config = refl;
  password_file = refl;
  user = refl;
  device = refl;
  of_none = none_named (options_in round_program None) refl refl;
  kept = refl;
  task_is = refl;
  destination_is = refl;
}

round_plans : PlansOnly round_words None round_options SetOnly StandardOutput
round_plans = plans_only round_words round_program None round_options None round_options SetOnly StandardOutput round_split round_asks

-- ---- the setting in force

abbrev at_most : Setup
at_most = record (defaults Flatbed Big) { scene = record (defaults Flatbed Big).scene { resolution = 1200 } }

abbrev at_most_placed : List Placement
at_most_placed = record { setup = at_most; asked = Int (pos 5000); given = Int (pos 1200) } ∷ []

round_forced : in_force Flatbed Big round_options ≡ Some (at_most, at_most_placed)
unfolding placement defaults setup_after with_value descriptor_of option_at resolve read_value integer_of nearest_in_range
round_forced = refl

-- ---- the line of a rounded number

bit_of : (n : ℕ) → (n / 1 % 2 == 1) ≡ true → (n % 2 == 1) ≡ true
bit_of n e = rw (let same : n / 1 ≡ n = omega arith in same) at e

not_equal : (a g : ℕ) → (a ≡ g → ⊥) → Int (pos g) ≡ Int (pos a) → ⊥
not_equal a g other same = other (let back : a ≡ g = cc in back)

abbrev line_with : Report → List ℕ → Value → Value → List ℕ
line_with report name asked given =
    concat (codes "scanimage: rounded value of " ∷ name ∷ codes " from " ∷ shown_text (reported_option report) asked ∷ codes " to " ∷ shown_text
    (reported_option report) given ∷ codes "\n" ∷ [])

rounded_is : (s : Setup) (setting : List ℕ × List ℕ) (p : Placement) (report : Report) (asked given : ℕ) → IsReported s setting p report
    → p.asked ≡ Int (pos asked) → p.given ≡ Int (pos given) → (asked ≡ given → ⊥)
    → report_line report ≡ concat
    (codes "scanimage: rounded value of " ∷ setting.0 ∷ codes " from " ∷ decimal asked ∷ codes " to " ∷ decimal given ∷ codes "\n" ∷ [])
rounded_is s setting p report asked given is asked_is given_is other =
    let differ : p.given ≢ p.asked = λ same. not_equal asked given other (sym given_is ∙ same ∙ asked_is) in
    let bit : is_rounded report ≡ true = bit_of report.info.0 (is.info.inexact.1 differ) in
    rw bit (
    ap (λ (n : List ℕ). line_with report n report.asked report.given) is.name
    ∙ ap (λ (v : Value). line_with report setting.0 v report.given) (is.asked ∙ asked_is)
    ∙ ap (λ (v : Value). line_with report setting.0 (Int (pos asked)) v) (is.given ∙ given_is)
    )

one_report : (s : Setup) (setting : List ℕ × List ℕ) (p : Placement) (reports : List Report) → SettingsAreReported s (setting ∷ []) (p ∷ []) reports
    → (report : Report) × (reports ≡ report ∷ []) × IsReported s setting p report
one_report s setting p [] told = absurd told
one_report s setting p (report ∷ []) told = (report, refl, told.0)
one_report s setting p (report ∷ other ∷ reports) told = absurd told.1

round_line : concat
    (codes "scanimage: rounded value of " ∷ codes "resolution" ∷ codes " from " ∷ decimal 5000 ∷ codes " to " ∷ decimal 1200 ∷ codes "\n" ∷ []) ≡ rounded_told
unfolding digits
round_line = refl

rounded_once : (s : Setup) (reports : List Report) → SettingsAreReported s round_options at_most_placed reports → rounded_text reports ≡ rounded_told
rounded_once s reports told =
    let one = one_report s (codes "resolution", codes "5000") (record { setup = at_most; asked = Int (pos 5000); given = Int (pos 1200) }) reports told in
    ap rounded_text one.1 ∙ append-nil (report_line one.0) ∙ rounded_is s (codes "resolution", codes "5000") _ one.0 5000 1200 one.2 refl refl
    (λ same. omega (arith, same)) ∙ round_line

-- ---- where it is done

taken_or_failed : (line : List ℕ) (a b : Option (List ℕ)) (failed : Bool) → a ≡ Some [] → TakesOrFails a b line failed → failed ≡ false → b ≡ Some line
taken_or_failed line a b failed first (inl p) well = took_on [] line a b first p
taken_or_failed line a b failed first (inr p) well = absurd (let clash : true ≡ false = sym p.3 ∙ well in cc)

of_set : (task : Task) (s : DeviceState) (before now : Option (List ℕ)) → task ≡ SetOnly → Writes task s before now → now ≡ before
of_set task s before now is writes = subst (λ t. Writes t s before now) is writes

module _ (source : SourceState) (plan : JobPlan) (was now : ProgramOutputs) (task : plan.task ≡ SetOnly) (settings : plan.settings.items ≡ round_options)
    (h : HasDoneHere (fresh_table (the_flatbed source ∷ [])) (asked_here None plan []) was now) where
  old_is : h.old ≡ the_flatbed source
  old_is = ok_is _ _ (sym h.found ∙ ap (λ (n : List ℕ). unplug_answer (fresh_table (the_flatbed source ∷ [])) n) (first_named source h.job.device h.named)
      ∙ there_is source)

  task_is : h.job.task ≡ SetOnly
  task_is = h.asked_for.task ∙ task

  items_are : h.job.settings.items ≡ round_options
  items_are = ap (λ s. s.items) h.asked_for.settings_are ∙ settings

  forced_is : (setup : Setup) (placed : List Placement) → in_force h.old.setup.scene.kind h.old.setup.order
      (settings_put h.job.task h.job.settings.items) ≡ Some (setup, placed) → placed ≡ at_most_placed
  unfolding defaults
  forced_is setup placed put =
      let at : in_force h.old.setup.scene.kind h.old.setup.order (settings_put h.job.task h.job.settings.items) ≡ in_force Flatbed Big round_options =
      ap (λ (s : DeviceState). in_force s.setup.scene.kind s.setup.order (settings_put h.job.task h.job.settings.items)) old_is
      ∙ ap (λ (t : Task). in_force Flatbed Big (settings_put t h.job.settings.items)) task_is
      ∙ ap (λ (xs : List (List ℕ × List ℕ)). in_force Flatbed Big xs) items_are in
      ap (λ (f : Setup × List Placement). f.1) (some_is _ _ (sym put ∙ at ∙ round_forced))

  lines_are : (before behind : Option (List ℕ)) → DoesJob h.job (with_file h.old before) (with_file h.new behind) h.printed
      → h.printed.rounded.items ≡ rounded_told
  lines_are before behind does =
      let first = defaults h.old.setup.scene.kind h.old.setup.order in
      let told : SettingsAreReported first (settings_put h.job.task h.job.settings.items) at_most_placed does.reports.settings =
      subst (λ (ps : List Placement). SettingsAreReported first (settings_put h.job.task h.job.settings.items) ps does.reports.settings)
      (forced_is does.done.setup does.done.placed does.done.put.put) does.done.told in
      let here : SettingsAreReported first round_options at_most_placed does.reports.settings =
      subst (λ (xs : List (List ℕ × List ℕ)). SettingsAreReported first xs at_most_placed does.reports.settings)
      (ap (λ (t : Task). settings_put t h.job.settings.items) task_is ∙ items_are) told in
      does.prints.rounded ∙ rounded_once first does.reports.settings here

  sets_on : (destination : Destination) → destination ≡ StandardOutput → was.out ≡ Some [] → was.err ≡ Some []
      → DoesPlanned destination h.job (h.old, h.new) (job_part was) (record { out = h.behind; files = now.files }) h.printed
      → (now.failed ≡ false → now.err ≡ Some rounded_told) × (now.out ≡ Some []) × (now.files ≡ was.files)
  sets_on destination at out err (ToOutput there does same) =
      let behind : h.behind ≡ was.out = of_set h.job.task _ was.out h.behind task_is does.done.output in
      let none : h.printed.table.items ≡ [] = does.prints.table ∙ ap (λ (t : Task). printed_table t [] h.job.device does.reports) task_is in (
        taken_or_failed rounded_told was.err now.err now.failed err
            (subst (λ (t : List ℕ). TakesOrFails was.err now.err t now.failed) (lines_are was.out h.behind does) h.rounded),
        took_none [] h.behind now.out (behind ∙ out) (subst (λ (t : List ℕ). Appends h.behind now.out t) none h.printed_out),
        same,
      )
  sets_on destination at out err (ToPath path there begun named does same stock) = absurd (subst IsPath (sym there ∙ at) tt)
  sets_on destination at out err (ToFolder there does same named) = absurd (subst IsFolder (sym there ∙ at) tt)

set_no_list : (task : Task) → task ≡ SetOnly → task ≢ ListTask
set_no_list task is list = let clash : SetOnly ≡ ListTask = sym is ∙ list in cc

pub rounded_is_told : RoundedIsTold
rounded_is_told was now begun given h =
    let d = done_of round_words demo_config None round_options SetOnly StandardOutput was now round_plans refl given h in
    let one : HasOneFlatbed d.devices = one_flatbed d.lines d.texts d.devices d.tells d.of_lines in
    let does : IsDoneHere (fresh_table (the_flatbed one.source ∷ [])) (asked_here None d.plan.job []) was.outputs now.outputs =
    subst (λ (ds : List DeviceState). IsDoneHere (fresh_table ds) (asked_here None d.plan.job []) was.outputs now.outputs) one.are d.does in
    let h = does.job (set_no_list d.plan.job.task d.plans.task_is) in
    let all =
    sets_on one.source d.plan.job was.outputs now.outputs d.plans.task_is d.plans.settings_are h d.plan.job.destination
    d.plans.destination_is begun.out begun.err h.does in
    record { err = all.0; out = all.1; files = all.2; ports = d.ports }

-- ---- where it is missed

round_short : AreShort round_options
round_short = (
  omega arith,
  All-from_recursion (λ (setting : List ℕ × List ℕ). IsJobText setting.0 × IsJobText setting.1) round_options
      ((omega arith, omega arith), tt),
)

set_no_print : (task : Task) → task ≡ SetOnly → MayPrint task → ⊥
set_no_print task is (inl list) = let clash : SetOnly ≡ ListTask = sym is ∙ list in cc
set_no_print task is (inr show) = let clash : SetOnly ≡ Show = sym is ∙ show in cc

set_put : (source : SourceState) (old : DeviceState) (task : Task) (items : List (List ℕ × List ℕ)) → old ≡ the_flatbed source → task ≡ SetOnly
    → items ≡ round_options → in_force old.setup.scene.kind old.setup.order (settings_put task items) ≡ Some (at_most, at_most_placed)
unfolding defaults
set_put source old task items same is are =
    ap (λ (s : DeviceState). in_force s.setup.scene.kind s.setup.order (settings_put task items)) same
    ∙ ap (λ (t : Task). in_force Flatbed Big (settings_put t items)) is ∙ ap (λ (xs : List (List ℕ × List ℕ)). in_force Flatbed Big xs) are ∙ round_forced

ended_set : (source : SourceState) (plan : JobPlan) (was now : ProgramOutputs) (ending : Ending)
    → AsksFor (asked_here None plan []) (codes "flatbed:0") SetOnly round_options → plan.destination ≡ StandardOutput
    → EndsHere (fresh_table (the_flatbed source ∷ [])) (asked_here None plan []) was now ending → MemoryOrOutput ending
ended_set source plan was now ending for at (ByMemory told wants same) = inl told
ended_set source plan was now ending for at (ByDevice told none same) = absurd (some_device source none)
ended_set source plan was now ending for at (ByJob job own named device found begun ends) =
    let called = first_named source job.device named in
    let old : device.0 ≡ the_flatbed source = ok_is _ _ (sym found ∙ ap (λ (n : List ℕ). unplug_answer (fresh_table (the_flatbed source ∷ [])) n) called
    ∙ there_is source) in
    let task = job_task (asked_here None plan []) (codes "flatbed:0") SetOnly round_options for job own called in
    let items = job_items (asked_here None plan []) (codes "flatbed:0") SetOnly round_options for job own called in
    let not_scan : job.task ≢ Scan = λ scan. let clash : SetOnly ≡ Scan = sym task ∙ scan in cc in
    inl (plain_end job device.0 device.1 (at_most, at_most_placed) ending
    (job_taken (asked_here None plan []) (codes "flatbed:0") SetOnly round_options for job own called (λ batch. batch))
    (set_put source device.0 job.task job.settings.items old task items) not_scan
    (one_on_output plan.destination at job device (job_part was) (job_part now) ending ends))
ended_set source plan was now ending for at (ByPrinting told failed prints) = absurd (set_no_print plan.task for.task_is prints)

round_ways : Ways round_words demo_config None round_options SetOnly StandardOutput (no_first_line ∷ []) MemoryOrOutput
round_ways = record {
  plans = round_plans;
  by_line = one_refused demo_config demo_line Flatbed 0 26 (demo_page ∷ []) demo_lines demo_good;
  by_page = λ told tells before behind why none.
      let one = one_line demo_config demo_line told Flatbed 0 26 (demo_page ∷ []) demo_telling demo_good tells in
      one_lacks_memory Flatbed refl one.0 1 0 26 demo_page demo_digits (two_dots 10 200) one.2 refl demo_good_page told before behind why one.1 none;
  by_task = λ plan p told tells texts devices made was now ending ends.
      let one : HasOneFlatbed devices = one_flatbed told texts devices tells made in
      let here : EndsHere (fresh_table (the_flatbed one.source ∷ [])) (asked_here None plan.job []) was now ending = subst
      (λ (ds : List DeviceState). EndsHere (fresh_table ds) (asked_here None plan.job []) was now ending) one.are ends in
      ended_set one.source plan.job was now ending
      (asks_for plan None round_options SetOnly StandardOutput (codes "flatbed:0") p (omega arith) round_short) p.destination_is here;
}

pub rounded_missed : RoundedIsMissed
rounded_missed was now status errors begun read ended = ends_in_want round_words demo_config None round_options SetOnly StandardOutput
    (no_first_line ∷ []) round_ways was now status errors begun read ended

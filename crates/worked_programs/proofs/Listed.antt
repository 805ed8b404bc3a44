-- The list of a flatbed and a hand scanner.
use Rattle.std.proofs.Common.{◌≡◌, ◌≢◌, ◌∙◌, ℕ, List, [], ◌∷◌, true, refl, sym, ap, subst, ◌≤◌, length, arith, inl, inr, Some, None}
use Rattle.std.specs.Prelude.{All, IsTrue, Ok, codes}
use Rattle.std.specs.Fmt.{digits}
use Rattle.hex.specs.Hex.{decode_of, decode_pairs}
use Rattle.sane_fixed.specs.declared.byte_order.ByteOrder.TheVariants.{Big}
use Rattle.sane_fixed.specs.declared.device_info.DeviceInfo.{DeviceInfo}
use Rattle.text_lines.specs.Lines.{lines_of}
use Rattle.page_picture.specs.Source.{SourceState}
use Rattle.page_picture.specs.declared.scene.DeviceKind.TheVariants.{Flatbed, Hand}
use Rattle.device_api.specs.State.{DeviceState}
use Rattle.device_api.specs.Values.{defaults}
use Rattle.virtual_scanner.specs.New.{new_scanner}
use Rattle.dispatch.specs.ConfigLines.{TellsConfig, fields_of}
use Rattle.dispatch.specs.Table.{fresh_table, held_at, listed_infos, unplug_answer}
use Rattle.dispatch.specs.declared.config_line.ConfigLine.{ConfigLine}
use Rattle.scan_job.specs.declared.job.Task.{Task}
use Rattle.scan_job.specs.declared.job.Task.TheVariants.{List as ListTask, Scan}
use Rattle.scan_job.specs.JobSize.{IsBatch}
use Rattle.config_pages.specs.Devices.{AreDevicesOf}
use Rattle.config_pages.specs.InputTexts.{InputTexts}
use Rattle.scanimage_cli.specs.Asked.{IsAskedOf}
use Rattle.scanimage_cli.specs.Causes.{EndsHere, HasNoDevice}
use Rattle.scanimage_cli.specs.Causes.EndsHere.{ByMemory, ByDevice, ByJob, ByPrinting}
use Rattle.scanimage_cli.specs.DeviceList.{device_lines}
use Rattle.scanimage_cli.specs.Programs.{IsDeviceNamed, IsDoneHere, ProgramOutputs, asked_here, job_part}
use Rattle.scanimage_cli.specs.ScanimageOptions.{value_after}
use Rattle.scanimage_cli.specs.WordCut.{cut_step, item_with, long_part, option_named, part_of_word, split_of, window_settings}
use Rattle.scanimage_cli.specs.declared.ending.Ending.{Ending}
use Rattle.scanimage_cli.specs.declared.options.Options.{Options}
use Rattle.scanimage_cli.specs.declared.planning.Destination.TheVariants.{StandardOutput}
use Rattle.scanimage_cli.specs.declared.planning.JobPlan.{JobPlan}
use Rattle.worked_programs.specs.Begun.{no_first_line, no_second_line}
use Rattle.worked_programs.specs.TwoListed.{TwoAreListed, TwoAreMissed, list_words, two_kinds_config, two_kinds_list}
use Rattle.worked_programs.proofs.Basics.{not_empty, not_none, some_is}
use Rattle.worked_programs.proofs.ConfigTexts.{IsGoodLine, line_bytes, telling_lines}
use Rattle.worked_programs.proofs.DemoDot.{demo_digits, demo_good, demo_good_page, demo_line, demo_page}
use Rattle.worked_programs.proofs.DoneScans.{took_on}
use Rattle.worked_programs.proofs.EndedScans.{MemoryOrOutput}
use Rattle.worked_programs.proofs.Flatbeds.{one_of_flatbed, one_of_hand}
use Rattle.worked_programs.proofs.Jobs.{AsksFor, asks_for, job_taken, job_task, one_on_output, plain_end}
use Rattle.worked_programs.proofs.LostPages.{IsGoodPage, lacks_memory, two_lack_memory}
use Rattle.worked_programs.proofs.Plans.{AskHere, PlansOnly, options_in, plans_only}
use Rattle.worked_programs.proofs.SmallPages.{good_page, two_dots}
use Rattle.worked_programs.proofs.Steps.{done_of}
use Rattle.worked_programs.proofs.TwoLines.{two_lines}
use Rattle.worked_programs.proofs.TwoScanners.{IsPagedLine, PagedLine, two_scanners}
use Rattle.worked_programs.proofs.Wants.{Ways, ends_in_want, two_refused}

-- ---- the words

list_program : List (List ℕ)
list_program = codes "--config=-" ∷ codes "--list-devices" ∷ []

list_split : split_of list_words ≡ Some (list_program, [])
unfolding split_of cut_step item_with part_of_word option_named long_part window_settings list_program
list_split = refl

-- nobody at a host is asked for a list without a host
none_listed : (o : Options) → o.list_devices ≡ true → o.net ≡ None → (host device : List ℕ) → IsAskedOf o host device → ⊥
none_listed o list none host device asked = let net = asked.list (subst IsTrue (sym list) refl) in not_none host (sym none ∙ net.0)

list_asks : AskHere list_program None [] None [] ListTask StandardOutput
unfolding value_after list_program
list_asks = record {
  port = refl;
  counted = refl;
  config = refl;
  password_file = refl;
  user = refl;
  device = refl;
  of_none = none_listed (options_in list_program None) refl refl;
  kept = refl;
  task_is = refl;
  destination_is = refl;
}

list_plans : PlansOnly list_words None [] ListTask StandardOutput
list_plans = plans_only list_words list_program None [] None [] ListTask StandardOutput list_split list_asks

-- ---- the config

abbrev flat_line : PagedLine
flat_line = record { line = demo_line; kind = Flatbed; index = 0; page = demo_page; digits = demo_digits }

abbrev hand_line : PagedLine
hand_line = record {
  line = codes "hand 3 26 hex:50350a3220310a3235350ac80a";
  kind = Hand;
  index = 3;
  page = codes "hex:50350a3220310a3235350ac80a";
  digits = codes "50350a3220310a3235350ac80a";
}

flat_is : IsPagedLine flat_line
flat_is = record { good = demo_good; one_page = one_of_flatbed; spelled = refl }

hand_good : IsGoodLine hand_line.line Hand 3 26 (hand_line.page ∷ [])
unfolding fields_of digits
hand_good = record {
  size = omega arith;
  bytes = line_bytes hand_line.line refl;
  fields = refl;
  few = omega arith;
  some_dots = omega arith;
  coarse = omega arith;
  count = record { some = omega arith; most = omega arith };
}

hand_is : IsPagedLine hand_line
hand_is = record { good = hand_good; one_page = one_of_hand; spelled = refl }

hand_decoded : decode_of hand_line.digits ≡ Ok (two_dots 200 10)
unfolding decode_pairs
hand_decoded = refl

hand_page : IsGoodPage hand_line.digits (two_dots 200 10) 26
hand_page = good_page hand_line.digits 200 10 hand_decoded (omega arith) (omega arith)

kinds_lines : lines_of two_kinds_config ≡ demo_line ∷ hand_line.line ∷ []
unfolding lines_of
kinds_lines = refl

kinds_telling : telling_lines two_kinds_config ≡ (1, demo_line) ∷ (2, hand_line.line) ∷ []
unfolding lines_of
kinds_telling = refl

-- ---- the table

abbrev two_devices : SourceState → SourceState → List DeviceState
two_devices one other = new_scanner Flatbed (codes "flatbed:0") one Big ∷ new_scanner Hand (codes "hand:3") other Big ∷ []

two_made : (lines : List ConfigLine) (texts : InputTexts) (devices : List DeviceState) → TellsConfig two_kinds_config lines
    → AreDevicesOf texts Big lines devices → (one other : SourceState) × (devices ≡ two_devices one other)
unfolding digits
two_made lines texts devices tells made =
    let two = two_scanners two_kinds_config flat_line hand_line lines texts devices kinds_telling flat_is hand_is tells made in
    (two.source, two.other, two.are)

list_of_two : (one other : SourceState) → device_lines [] (listed_infos (fresh_table (two_devices one other))) ≡ two_kinds_list
unfolding device_lines
list_of_two one other = refl

pub two_listed : TwoAreListed
two_listed was now begun given h =
    let d = done_of list_words two_kinds_config None [] ListTask StandardOutput was now list_plans refl given h in
    let two = two_made d.lines d.texts d.devices d.tells d.of_lines in
    let does : IsDoneHere (fresh_table (two_devices two.0 two.1)) (asked_here None d.plan.job []) was.outputs now.outputs =
    subst (λ (ds : List DeviceState). IsDoneHere (fresh_table ds) (asked_here None d.plan.job []) was.outputs now.outputs) two.2 d.does in
    let listed = does.list d.plans.task_is in
    record {
      out = took_on [] _ was.outputs.out now.outputs.out begun.out listed.0 ∙ ap Some (list_of_two two.0 two.1);
      err = listed.1 ∙ begun.err;
      files = listed.2;
      ports = d.ports;
    }

-- ---- where it is missed

first_of_two : (one other : SourceState) (device : List ℕ) → IsDeviceNamed None (listed_infos (fresh_table (two_devices one other))) device
    → device ≡ codes "flatbed:0"
first_of_two one other device named = named.2 ∙ ap (λ (i : DeviceInfo). i.name) (some_is _ _ (sym named.1))

there_first : (one other : SourceState) → unplug_answer (fresh_table (two_devices one other)) (codes "flatbed:0") ≡ Ok
    (new_scanner Flatbed (codes "flatbed:0") one Big)
unfolding unplug_answer held_at defaults
there_first one other = refl

some_of_two : (one other : SourceState) → HasNoDevice (fresh_table (two_devices one other)) None → ⊥
some_of_two one other (inl none) = not_empty _ _ (sym none.1)
some_of_two one other (inr (name, named, none)) = none (new_scanner Flatbed (codes "flatbed:0") one Big)
    (ap (λ (n : List ℕ). unplug_answer (fresh_table (two_devices one other)) n) (first_of_two one other name named) ∙ there_first one other)

ended_list : (one other : SourceState) (plan : JobPlan) (was now : ProgramOutputs) (ending : Ending)
    → AsksFor (asked_here None plan []) (codes "flatbed:0") ListTask [] → plan.destination ≡ StandardOutput
    → EndsHere (fresh_table (two_devices one other)) (asked_here None plan []) was now ending → MemoryOrOutput ending
ended_list one other plan was now ending for at (ByMemory told wants same) = inl told
ended_list one other plan was now ending for at (ByDevice told none same) = absurd (some_of_two one other none)
ended_list one other plan was now ending for at (ByJob job own named device found begun ends) =
    let called = first_of_two one other job.device named in
    let task = job_task (asked_here None plan []) (codes "flatbed:0") ListTask [] for job own called in
    let not_scan : job.task ≢ Scan = λ scan. let clash : ListTask ≡ Scan = sym task ∙ scan in cc in
    let put : Rattle.device_api.specs.InForce.in_force device.0.setup.scene.kind device.0.setup.order
    (Rattle.local_job.specs.LocalRun.settings_put job.task job.settings.items) ≡ Some (defaults device.0.setup.scene.kind device.0.setup.order, []) =
    ap (λ (t : Task). Rattle.device_api.specs.InForce.in_force device.0.setup.scene.kind device.0.setup.order
    (Rattle.local_job.specs.LocalRun.settings_put t job.settings.items)) task in
    inl (plain_end job device.0 device.1 (defaults device.0.setup.scene.kind device.0.setup.order, []) ending
    (job_taken (asked_here None plan []) (codes "flatbed:0") ListTask [] for job own called (λ batch. batch)) put not_scan
    (one_on_output plan.destination at job device (job_part was) (job_part now) ending ends))
ended_list one other plan was now ending for at (ByPrinting told failed prints) = inr told

no_settings : (length {A = List ℕ × List ℕ} [] ≤ 64) × All (λ
    (setting : List ℕ × List ℕ). Rattle.scan_job.specs.JobSize.IsJobText setting.0 × Rattle.scan_job.specs.JobSize.IsJobText setting.1) []
no_settings = (omega arith, λ k d few. absurd (omega (arith, few)))

not_same : Flatbed ≡ Hand → ◌≡◌ {A = ℕ} 0 3 → ⊥
not_same kind index = omega (arith, index)

list_ways : Ways list_words two_kinds_config None [] ListTask StandardOutput (no_first_line ∷ no_second_line ∷ []) MemoryOrOutput
list_ways = record {
  plans = list_plans;
  by_line = two_refused two_kinds_config demo_line hand_line.line Flatbed Hand 0 26 3 26 (demo_page ∷ [])
      (hand_line.page ∷ []) kinds_lines refl not_same demo_good hand_good;
  by_page = λ told tells before behind why none.
      let two = two_lines two_kinds_config demo_line hand_line.line told Flatbed Hand 0 26 3 26 (demo_page ∷ [])
      (hand_line.page ∷ []) kinds_telling demo_good hand_good tells in
      two_lack_memory two.0 two.1 (lacks_memory Flatbed refl two.0 1 0 26 demo_page demo_digits (two_dots 10 200) two.3 refl demo_good_page)
      (lacks_memory Hand refl two.1 2 3 26 hand_line.page hand_line.digits (two_dots 200 10) two.4 refl hand_page) told before behind why two.2 none;
  by_task = λ plan p told tells texts devices made was now ending ends.
      let two = two_made told texts devices tells made in
      let here : EndsHere (fresh_table (two_devices two.0 two.1)) (asked_here None plan.job []) was now ending = subst
      (λ (ds : List DeviceState). EndsHere (fresh_table ds) (asked_here None plan.job []) was now ending) two.2 ends in
      ended_list two.0 two.1 plan.job was now ending
      (asks_for plan None [] ListTask StandardOutput (codes "flatbed:0") p (omega arith) no_settings) p.destination_is here;
}

pub two_missed : TwoAreMissed
two_missed was now status errors begun read ended = ends_in_want list_words two_kinds_config None [] ListTask StandardOutput
    (no_first_line ∷ no_second_line ∷ []) list_ways was now status errors begun read ended

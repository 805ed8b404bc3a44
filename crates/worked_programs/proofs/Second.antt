-- A dot on the second of two flatbeds.
use Rattle.std.proofs.Common.{◌≡◌, ◌∙◌, ℕ, List, [], ◌∷◌, true, refl, sym, ap, subst, ◌*◌, ◌/◌, arith, inl, inr, Some, None}
use Rattle.std.specs.Prelude.{Ok, codes}
use Rattle.std.specs.Fmt.{digits}
use Rattle.hex.specs.Hex.{decode_of, decode_pairs}
use Rattle.sane_fixed.specs.declared.byte_order.ByteOrder.TheVariants.{Big}
use Rattle.text_lines.specs.Lines.{lines_of}
use Rattle.page_picture.specs.Source.{SourceState}
use Rattle.page_picture.specs.declared.scene.DeviceKind.TheVariants.{Flatbed}
use Rattle.device_api.specs.State.{DeviceState}
use Rattle.device_api.specs.Values.{defaults, identity}
use Rattle.virtual_scanner.specs.New.{new_scanner}
use Rattle.dispatch.specs.ConfigLines.{TellsConfig, fields_of}
use Rattle.dispatch.specs.Table.{fresh_table, held_at, unplug_answer}
use Rattle.dispatch.specs.declared.config_line.ConfigLine.{ConfigLine}
use Rattle.scan_job.specs.declared.job.Task.TheVariants.{Scan}
use Rattle.config_pages.specs.Devices.{AreDevicesOf}
use Rattle.config_pages.specs.InputTexts.{InputTexts}
use Rattle.config_pages.specs.Pages.{GivesSpelled}
use Rattle.scanimage_cli.specs.Causes.{EndsHere, HasNoDevice}
use Rattle.scanimage_cli.specs.Programs.{IsDoneHere, asked_here}
use Rattle.scanimage_cli.specs.ScanimageOptions.{value_after}
use Rattle.scanimage_cli.specs.WordCut.{cut_step, item_with, long_part, option_named, part_of_word, split_of, window_settings}
use Rattle.scanimage_cli.specs.declared.planning.Destination.TheVariants.{StandardOutput}
use Rattle.worked_programs.specs.Begun.{no_first_line, no_second_line}
use Rattle.worked_programs.specs.SecondDot.{SecondIsMissed, SecondIsPrinted, second_words, two_flatbeds_config}
use Rattle.worked_programs.proofs.Basics.{not_empty, some_is}
use Rattle.worked_programs.proofs.ConfigTexts.{IsGoodLine, line_bytes, telling_lines}
use Rattle.worked_programs.proofs.DemoDot.{demo_digits, demo_good, demo_good_page, demo_line, demo_page}
use Rattle.worked_programs.proofs.DotMissed.{none_printed}
use Rattle.worked_programs.proofs.DotPrinted.{no_list}
use Rattle.worked_programs.proofs.DoneScans.{printed_scan}
use Rattle.worked_programs.proofs.EndedScans.{MemoryOrOutput, dot_short, ended_scan}
use Rattle.worked_programs.proofs.Flatbeds.{dot_options, dot_text, one_of_flatbed, shade}
use Rattle.worked_programs.proofs.Jobs.{asks_for, one_on_output}
use Rattle.worked_programs.proofs.LostPages.{IsGoodPage, lacks_memory, two_lack_memory}
use Rattle.worked_programs.proofs.Plans.{AskHere, PlansOnly, none_of_net, options_in, plans_only}
use Rattle.worked_programs.proofs.SmallPages.{good_page, two_dots, two_grays}
use Rattle.worked_programs.proofs.Steps.{done_of}
use Rattle.worked_programs.proofs.TwoLines.{two_lines}
use Rattle.worked_programs.proofs.TwoScanners.{IsPagedLine, PagedLine, two_scanners}
use Rattle.worked_programs.proofs.Wants.{Ways, ends_in_want, two_refused}

-- ---- the words

second_program : List (List ℕ)
second_program = codes "--config=-" ∷ codes "--device-name=flatbed:1" ∷ []

second_split : split_of second_words ≡ Some (second_program, dot_options)
unfolding split_of cut_step item_with part_of_word option_named long_part window_settings second_program
second_split = refl

second_asks : AskHere second_program None dot_options (Some (codes "flatbed:1")) dot_options Scan StandardOutput
unfolding value_after second_program
second_asks = record {
  port = refl;
  counted = refl;
  config = refl;
  password_file = refl;
  user = refl;
  device = refl;
  of_none = none_of_net (options_in second_program None) _ _ refl refl (λ same. omega (arith, same));
  kept = refl;
  task_is = refl;
  destination_is = refl;
}

second_plans : PlansOnly second_words (Some (codes "flatbed:1")) dot_options Scan StandardOutput
second_plans = plans_only second_words second_program None dot_options (Some (codes "flatbed:1")) dot_options Scan StandardOutput second_split second_asks

-- ---- the config

abbrev first_paged : PagedLine
first_paged = record { line = demo_line; kind = Flatbed; index = 0; page = demo_page; digits = demo_digits }

abbrev second_paged : PagedLine
second_paged = record {
  line = codes "flatbed 1 26 hex:50350a3220310a3235350ac80a";
  kind = Flatbed;
  index = 1;
  page = codes "hex:50350a3220310a3235350ac80a";
  digits = codes "50350a3220310a3235350ac80a";
}

first_is : IsPagedLine first_paged
first_is = record { good = demo_good; one_page = one_of_flatbed; spelled = refl }

second_good : IsGoodLine second_paged.line Flatbed 1 26 (second_paged.page ∷ [])
unfolding fields_of digits
second_good = record {
  size = omega arith;
  bytes = line_bytes second_paged.line refl;
  fields = refl;
  few = omega arith;
  some_dots = omega arith;
  coarse = omega arith;
  count = record { some = omega arith; most = omega arith };
}

second_is : IsPagedLine second_paged
second_is = record { good = second_good; one_page = one_of_flatbed; spelled = refl }

second_decoded : decode_of second_paged.digits ≡ Ok (two_dots 200 10)
unfolding decode_pairs
second_decoded = refl

second_page : IsGoodPage second_paged.digits (two_dots 200 10) 26
second_page = good_page second_paged.digits 200 10 second_decoded (omega arith) (omega arith)

flatbeds_lines : lines_of two_flatbeds_config ≡ demo_line ∷ second_paged.line ∷ []
unfolding lines_of
flatbeds_lines = refl

flatbeds_telling : telling_lines two_flatbeds_config ≡ (1, demo_line) ∷ (2, second_paged.line) ∷ []
unfolding lines_of
flatbeds_telling = refl

-- ---- the table

abbrev two_flatbeds : SourceState → SourceState → List DeviceState
two_flatbeds one other = new_scanner Flatbed (codes "flatbed:0") one Big ∷ new_scanner Flatbed (codes "flatbed:1") other Big ∷ []

two_made : (lines : List ConfigLine) (texts : InputTexts) (devices : List DeviceState) → TellsConfig two_flatbeds_config lines
    → AreDevicesOf texts Big lines devices
    → (one other : SourceState) × GivesSpelled second_paged.digits 26 other × (devices ≡ two_flatbeds one other)
unfolding digits
two_made lines texts devices tells made =
    let two = two_scanners two_flatbeds_config first_paged second_paged lines texts devices flatbeds_telling first_is second_is tells made in
    (two.source, two.other, two.other_gives, two.are)

there_second : (one other : SourceState) → unplug_answer (fresh_table (two_flatbeds one other)) (codes "flatbed:1") ≡ Ok
    (new_scanner Flatbed (codes "flatbed:1") other Big)
unfolding unplug_answer held_at defaults
there_second one other = refl

second_shade : shade (200 * 65535 / 255) (200 * 65535 / 255) (200 * 65535 / 255) ≡ 200
unfolding identity
second_shade = refl

pub second_printed : SecondIsPrinted
second_printed was now begun given h =
    let d = done_of second_words two_flatbeds_config (Some (codes "flatbed:1")) dot_options Scan StandardOutput was now second_plans refl given h in
    let two = two_made d.lines d.texts d.devices d.tells d.of_lines in
    let does : IsDoneHere (fresh_table (two_flatbeds two.0 two.1)) (asked_here (Some (codes "flatbed:1")) d.plan.job []) was.outputs now.outputs =
    subst (λ (ds : List DeviceState). IsDoneHere (fresh_table ds)
    (asked_here (Some (codes "flatbed:1")) d.plan.job []) was.outputs now.outputs) two.3 d.does in
    let h = does.job (no_list d.plan.job.task d.plans.task_is) in
    let steady : two.1.steady ≡ true = ap (λ (s : SourceState). s.steady) two.2.begun in
    let p = printed_scan (fresh_table (two_flatbeds two.0 two.1)) (asked_here (Some (codes "flatbed:1")) d.plan.job []) was.outputs now.outputs
    (codes "flatbed:1") two.1 h h.named (there_second two.0 two.1) d.plans.task_is d.plans.settings_are steady
    d.plans.destination_is begun.out begun.err in
    record {
      out = p.out ∙ ap Some (dot_text two.1.page 200 10 200 p.text (two_grays second_paged.digits 200 10 two.1 second_decoded two.2) second_shade p.meant);
      err = p.err;
      files = p.files;
      ports = d.ports;
    }

-- ---- where it is missed

some_second : (one other : SourceState) → HasNoDevice (fresh_table (two_flatbeds one other)) (Some (codes "flatbed:1")) → ⊥
some_second one other (inl none) = Rattle.worked_programs.proofs.Basics.not_none _ (sym none.0)
some_second one other (inr (name, named, none)) = none (new_scanner Flatbed (codes "flatbed:1") other Big)
    (ap (λ (n : List ℕ). unplug_answer (fresh_table (two_flatbeds one other)) n) named ∙ there_second one other)

not_same : Flatbed ≡ Flatbed → ◌≡◌ {A = ℕ} 0 1 → ⊥
not_same kind index = omega (arith, index)

second_ways : Ways second_words two_flatbeds_config (Some (codes "flatbed:1")) dot_options Scan StandardOutput
    (no_first_line ∷ no_second_line ∷ []) MemoryOrOutput
second_ways = record {
  plans = second_plans;
  by_line = two_refused two_flatbeds_config demo_line second_paged.line Flatbed Flatbed 0 26 1 26 (demo_page ∷ [])
      (second_paged.page ∷ []) flatbeds_lines refl not_same demo_good second_good;
  by_page = λ told tells before behind why none.
      let two = two_lines two_flatbeds_config demo_line second_paged.line told Flatbed Flatbed 0 26 1 26 (demo_page ∷ [])
      (second_paged.page ∷ []) flatbeds_telling demo_good second_good tells in
      two_lack_memory two.0 two.1 (lacks_memory Flatbed refl two.0 1 0 26 demo_page demo_digits (two_dots 10 200) two.3 refl demo_good_page)
      (lacks_memory Flatbed refl two.1 2 1 26 second_paged.page second_paged.digits
      (two_dots 200 10) two.4 refl second_page) told before behind why two.2 none;
  by_task = λ plan p told tells texts devices made was now ending ends.
      let two = two_made told texts devices tells made in
      let here : EndsHere (fresh_table (two_flatbeds two.0 two.1)) (asked_here (Some (codes "flatbed:1")) plan.job []) was now ending =
      subst (λ (ds : List DeviceState). EndsHere (fresh_table ds) (asked_here (Some (codes "flatbed:1")) plan.job []) was now ending) two.3 ends in
      let sure : two.1.infallible ≡ true = ap (λ (s : SourceState). s.infallible) two.2.begun in
      ended_scan (asked_here (Some (codes "flatbed:1")) plan.job []) (codes "flatbed:1") two.1
      (asks_for plan (Some (codes "flatbed:1")) dot_options Scan StandardOutput (codes "flatbed:1") p (omega arith) dot_short) sure
      (fresh_table (two_flatbeds two.0 two.1)) was now ending (λ device named. named) (there_second two.0 two.1) (some_second two.0 two.1)
      (one_on_output plan.job.destination p.destination_is) here;
}

pub second_missed : SecondIsMissed
second_missed was now status errors begun read ended = record {
  want = ends_in_want second_words two_flatbeds_config (Some (codes "flatbed:1")) dot_options Scan StandardOutput
      (no_first_line ∷ no_second_line ∷ []) second_ways was now status errors begun read ended;
  no_file = none_printed second_words (Some (codes "flatbed:1")) dot_options 200 (omega arith) second_plans was now begun ended.no_file;
}

-- That the scan of `make demo` is printed, or is missed.
use Rattle.std.proofs.Common.{◌≡◌, ◌≢◌, ◌∙◌, ℕ, List, [], ◌∷◌, true, refl, sym, ap, subst, Some, None}
use Rattle.std.specs.Prelude.{Ok, codes}
use Rattle.sane_fixed.specs.declared.byte_order.ByteOrder.TheVariants.{Big}
use Rattle.page_picture.specs.Source.{SourceState}
use Rattle.page_picture.specs.declared.scene.DeviceKind.TheVariants.{Flatbed}
use Rattle.device_api.specs.State.{DeviceState}
use Rattle.device_api.specs.Values.{defaults}
use Rattle.virtual_scanner.specs.New.{new_scanner}
use Rattle.dispatch.specs.Table.{fresh_table, held_at, listed_infos, unplug_answer}
use Rattle.scan_job.specs.declared.job.Task.{Task}
use Rattle.scan_job.specs.declared.job.Task.TheVariants.{List as ListTask, Scan}
use Rattle.sane_fixed.specs.declared.device_info.DeviceInfo.{DeviceInfo}
use Rattle.scanimage_cli.specs.Programs.{IsDeviceNamed, IsDoneHere, asked_here}
use Rattle.scanimage_cli.specs.ScanimageOptions.{value_after}
use Rattle.scanimage_cli.specs.Whole.{HasRunFor, ProgramState}
use Rattle.scanimage_cli.specs.WordCut.{cut_step, item_with, long_part, option_named, part_of_word, split_of, window_settings}
use Rattle.scanimage_cli.specs.declared.planning.Destination.TheVariants.{StandardOutput}
use Rattle.worked_programs.specs.Begun.WasGivenText.{IsThere}
use Rattle.worked_programs.specs.DemoDot.{DotIsPrinted, demo_config, demo_file, demo_words}
use Rattle.worked_programs.proofs.Basics.{some_is}
use Rattle.worked_programs.proofs.DemoDot.{HasOneFlatbed, demo_grays, demo_shade, one_flatbed}
use Rattle.worked_programs.proofs.DoneScans.{printed_scan}
use Rattle.worked_programs.proofs.Flatbeds.{dot_options, dot_text}
use Rattle.worked_programs.proofs.Plans.{AskHere, PlansOnly, none_named, options_in, plans_only}
use Rattle.worked_programs.proofs.Steps.{done_of}

-- ---- the words

abbrev demo_program : List (List ℕ)
demo_program = codes "--config=-" ∷ []

demo_split : split_of demo_words ≡ Some (demo_program, dot_options)
unfolding split_of cut_step item_with part_of_word option_named long_part window_settings
demo_split = refl

demo_asks : AskHere demo_program None dot_options None dot_options Scan StandardOutput
unfolding value_after
demo_asks = record {
  port = refl;
  counted = refl;
  config = refl;
  password_file = refl;
  user = refl;
  device = refl;
  of_none = none_named (options_in demo_program None) refl refl;
  kept = refl;
  task_is = refl;
  destination_is = refl;
}

pub demo_plans : PlansOnly demo_words None dot_options Scan StandardOutput
demo_plans = plans_only demo_words demo_program None dot_options None dot_options Scan StandardOutput demo_split demo_asks

-- ---- the table

abbrev pub the_flatbed : SourceState → DeviceState
the_flatbed source = new_scanner Flatbed (codes "flatbed:0") source Big

pub there_is : (source : SourceState) → unplug_answer (fresh_table (the_flatbed source ∷ [])) (codes "flatbed:0") ≡ Ok (the_flatbed source)
unfolding unplug_answer held_at defaults
there_is source = refl

-- the first device is this one
pub first_named : (source : SourceState) (device : List ℕ) → IsDeviceNamed None (listed_infos (fresh_table (the_flatbed source ∷ []))) device
    → device ≡ codes "flatbed:0"
first_named source device named = named.2 ∙ ap (λ (i : DeviceInfo). i.name) (some_is _ _ (sym named.1))

-- ---- where it is done

pub no_list : (task : Task) → task ≡ Scan → task ≢ ListTask
no_list task is list = let clash : Scan ≡ ListTask = sym is ∙ list in cc

pub dot_printed : DotIsPrinted
dot_printed was now begun given h =
    let d = done_of demo_words demo_config None dot_options Scan StandardOutput was now demo_plans refl given h in
    let one : HasOneFlatbed d.devices = one_flatbed d.lines d.texts d.devices d.tells d.of_lines in
    let does : IsDoneHere (fresh_table (the_flatbed one.source ∷ [])) (asked_here None d.plan.job []) was.outputs now.outputs =
    subst (λ (ds : List DeviceState). IsDoneHere (fresh_table ds) (asked_here None d.plan.job []) was.outputs now.outputs) one.are d.does in
    let h = does.job (no_list d.plan.job.task d.plans.task_is) in
    let steady : one.source.steady ≡ true = ap (λ (s : SourceState). s.steady) one.gives.begun in
    let p = printed_scan (fresh_table (the_flatbed one.source ∷ [])) (asked_here None d.plan.job []) was.outputs now.outputs
    (codes "flatbed:0") one.source h (first_named one.source h.job.device h.named) (there_is one.source) d.plans.task_is d.plans.settings_are steady
    d.plans.destination_is begun.out begun.err in
    record {
      out = p.out ∙ ap Some (dot_text one.source.page 10 200 10 p.text (demo_grays one.source one.gives) demo_shade p.meant);
      err = p.err;
      files = p.files;
      ports = d.ports;
    }

-- ---- of a run

pub scan_printed : (words : List (List ℕ)) (was now : ProgramState) → words ≡ demo_words → was.inputs.texts.standard ≡ Some demo_config
    → was.outputs.out ≡ Some [] → was.outputs.err ≡ Some [] → HasRunFor words was now → now.outputs.out ≡ Some demo_file
scan_printed words was now own there out err ran =
    let printed = dot_printed was now (record { out = out; err = err }) (IsThere there)
    (subst (λ (ws : List (List ℕ)). HasRunFor ws was now) own ran) in
    printed.out

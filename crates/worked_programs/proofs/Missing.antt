-- A device that the config does not have.
use Rattle.std.proofs.Common.{◌≡◌, ◌∙◌, ℕ, List, [], ◌∷◌, refl, sym, ap, subst, arith, inl, inr, ◌⊎◌, Some, None, Result}
use Rattle.std.specs.Prelude.{Err, Ok, codes}
use Rattle.sane_fixed.specs.declared.status.Status.{Status}
use Rattle.sane_fixed.specs.declared.status.Status.TheVariants as statuses
use Rattle.page_picture.specs.Source.{SourceState}
use Rattle.page_picture.specs.declared.scene.DeviceKind.TheVariants.{Flatbed}
use Rattle.device_api.specs.State.{DeviceState}
use Rattle.dispatch.specs.Table.{fresh_table, held_at, unplug_answer}
use Rattle.scan_job.specs.declared.job.Task.TheVariants.{Scan}
use Rattle.scan_job.specs.declared.outcome.Why.TheVariants as whys
use Rattle.scanimage_cli.specs.Causes.{EndsHere}
use Rattle.scanimage_cli.specs.Causes.EndsHere.{ByMemory, ByDevice, ByJob, ByPrinting}
use Rattle.scanimage_cli.specs.Ending.{ending_line, exit_status}
use Rattle.scanimage_cli.specs.Programs.{IsDoneHere, ProgramOutputs, asked_here}
use Rattle.scanimage_cli.specs.ScanimageOptions.{value_after}
use Rattle.scanimage_cli.specs.WordCut.{cut_step, item_with, long_part, option_named, part_of_word, split_of, window_settings}
use Rattle.scanimage_cli.specs.declared.ending.Ending.{Ending}
use Rattle.scanimage_cli.specs.declared.ending.Ending.TheVariants.{Ended}
use Rattle.scanimage_cli.specs.declared.planning.Destination.TheVariants.{StandardOutput}
use Rattle.scanimage_cli.specs.declared.planning.JobPlan.{JobPlan}
use Rattle.worked_programs.specs.BadLine.{IsNeverDone}
use Rattle.worked_programs.specs.Begun.{HoldsLine, no_first_line}
use Rattle.worked_programs.specs.DemoDot.{demo_config}
use Rattle.worked_programs.specs.MissingDevice.{MissingIsTold, missing_words}
use Rattle.worked_programs.proofs.ConfigTexts.{one_line}
use Rattle.worked_programs.proofs.DemoDot.{HasOneFlatbed, demo_digits, demo_good, demo_good_page, demo_line, demo_lines, demo_page, demo_telling, one_flatbed}
use Rattle.worked_programs.proofs.DotPrinted.{no_list, the_flatbed}
use Rattle.worked_programs.proofs.EndedScans.{no_print}
use Rattle.worked_programs.proofs.Flatbeds.{dot_options}
use Rattle.worked_programs.proofs.LostPages.{one_lacks_memory}
use Rattle.worked_programs.proofs.Plans.{AskHere, PlansOnly, none_of_net, options_in, plans_only}
use Rattle.worked_programs.proofs.SmallPages.{two_dots}
use Rattle.worked_programs.proofs.Steps.{done_of}
use Rattle.worked_programs.proofs.Wants.{Ways, ends_by, one_refused, tells, told_want}

abbrev hand_7 : List ℕ
hand_7 = codes "hand:7"

missing_program : List (List ℕ)
missing_program = codes "--config=-" ∷ codes "--device-name=hand:7" ∷ []

missing_split : split_of missing_words ≡ Some (missing_program, dot_options)
unfolding split_of cut_step item_with part_of_word option_named long_part window_settings missing_program
missing_split = refl

missing_asks : AskHere missing_program None dot_options (Some hand_7) dot_options Scan StandardOutput
unfolding value_after missing_program
missing_asks = record {
  port = refl;
  counted = refl;
  config = refl;
  password_file = refl;
  user = refl;
  device = refl;
  of_none = none_of_net (options_in missing_program None) _ _ refl refl (λ same. omega (arith, same));
  kept = refl;
  task_is = refl;
  destination_is = refl;
}

missing_plans : PlansOnly missing_words (Some hand_7) dot_options Scan StandardOutput
missing_plans = plans_only missing_words missing_program None dot_options (Some hand_7) dot_options Scan StandardOutput missing_split missing_asks

none_there : (source : SourceState) → unplug_answer (fresh_table (the_flatbed source ∷ [])) hand_7 ≡ Err statuses.Inval
unfolding unplug_answer held_at
none_there source = refl

not_found : (source : SourceState) (name : List ℕ) (device : DeviceState) → name ≡ hand_7
    → unplug_answer (fresh_table (the_flatbed source ∷ [])) name ≡ Ok device → ⊥
not_found source name device is found =
    let clash : ◌≡◌ {A = Result DeviceState Status} (Err statuses.Inval) (Ok device) = sym (none_there source)
    ∙ ap (λ (n : List ℕ). unplug_answer (fresh_table (the_flatbed source ∷ [])) n) (sym is) ∙ found in cc

pub missing_never : IsNeverDone missing_words demo_config
missing_never was now given h =
    let d = done_of missing_words demo_config (Some hand_7) dot_options Scan StandardOutput was now missing_plans refl given h in
    let one : HasOneFlatbed d.devices = one_flatbed d.lines d.texts d.devices d.tells d.of_lines in
    let does : IsDoneHere (fresh_table (the_flatbed one.source ∷ [])) (asked_here (Some hand_7) d.plan.job []) was.outputs now.outputs =
    subst (λ (ds : List DeviceState). IsDoneHere (fresh_table ds) (asked_here (Some hand_7) d.plan.job []) was.outputs now.outputs) one.are d.does in
    let h = does.job (no_list d.plan.job.task d.plans.task_is) in
    not_found one.source h.job.device h.old h.named h.found

-- out of memory, or there is no such device
abbrev NoneOrMemory : Ending → Type 0
NoneOrMemory ending = (ending ≡ Ended statuses.NoMem whys.Memory) ⊎ (ending ≡ Ended statuses.Inval whys.Setting)

ended_missing : (source : SourceState) (plan : JobPlan) (was now : ProgramOutputs) (ending : Ending) → plan.task ≡ Scan
    → EndsHere (fresh_table (the_flatbed source ∷ [])) (asked_here (Some hand_7) plan []) was now ending → NoneOrMemory ending
ended_missing source plan was now ending scan (ByMemory told wants same) = inl told
ended_missing source plan was now ending scan (ByDevice told none same) = inr told
ended_missing source plan was now ending scan (ByJob job own named device found begun ends) = absurd (not_found source job.device device.0 named found)
ended_missing source plan was now ending scan (ByPrinting told failed prints) = absurd (no_print plan.task scan prints)

missing_ways : Ways missing_words demo_config (Some hand_7) dot_options Scan StandardOutput (no_first_line ∷ []) NoneOrMemory
missing_ways = record {
  plans = missing_plans;
  by_line = one_refused demo_config demo_line Flatbed 0 26 (demo_page ∷ []) demo_lines demo_good;
  by_page = λ told tells before behind why none.
      let one = one_line demo_config demo_line told Flatbed 0 26 (demo_page ∷ []) demo_telling demo_good tells in
      one_lacks_memory Flatbed refl one.0 1 0 26 demo_page demo_digits (two_dots 10 200) one.2 refl demo_good_page told before behind why one.1 none;
  by_task = λ plan p told tells texts devices made was now ending ends.
      let one : HasOneFlatbed devices = one_flatbed told texts devices tells made in
      let here : EndsHere (fresh_table (the_flatbed one.source ∷ [])) (asked_here (Some hand_7) plan.job []) was now ending =
      subst (λ (ds : List DeviceState). EndsHere (fresh_table ds) (asked_here (Some hand_7) plan.job []) was now ending) one.are ends in
      ended_missing one.source plan.job was now ending p.task_is here;
}

pub missing_is_told : MissingIsTold
missing_is_told was now status errors begun read ended =
    elim (ends_by missing_words demo_config (Some hand_7) dot_options Scan StandardOutput
    (no_first_line ∷ []) NoneOrMemory missing_ways was now status errors read ended) [
      | inl (inl memory) ↦ inr (told_want missing_words (no_first_line ∷ []) was now status errors begun ended (inl (inl memory)))
      | inl (inr none) ↦ inl (
        ended.status_is ∙ ap exit_status none,
        subst (λ (l : List ℕ). HoldsLine l now errors) (ap ending_line none)
            (tells was now (ending_line ended.ending) errors begun ended.told),
      )
      | inr want ↦ inr (told_want missing_words (no_first_line ∷ []) was now status errors begun ended want)
    ]

-- A batch of two pages on a feeder with three.
use Rattle.std.specs.Prelude.{codes, ◌≢◌, ◌<◌}
use Rattle.std.proofs.Common.{◌≡◌, ℕ, true, List, [], ◌∷◌, Some, None, inl, inr, refl, sym, subst, arith}
use Rattle.std.proofs.lemmas.List.Elements.{All-from_recursion}
use Rattle.page_picture.specs.Meaning.{meaning_of}
use Rattle.page_picture.specs.Page.{PageView}
use Rattle.page_picture.specs.Source.{SourceState}
use Rattle.page_picture.specs.declared.scene.DeviceKind.TheVariants.{Feeder}
use Rattle.device_api.specs.State.{DeviceState}
use Rattle.scan_job.specs.declared.job.Job.{Job}
use Rattle.scan_job.specs.declared.job.Task.TheVariants as tasks
use Rattle.scan_job.specs.declared.outcome.Outcome.TheVariants.{Done}
use Rattle.scan_job.specs.declared.report.Reports.{Reports}
use Rattle.event_world.specs.declared.world_fault.WorldFault.{WorldFault}
use Rattle.event_world.specs.declared.world_fault.WorldFault.TheVariants as faults
use Rattle.event_world.specs.Worlds.{HasFaultAmong, WorldCore}
use Rattle.scan_world.specs.Calls.{ForEach, RunsOut, outcome_at}
use Rattle.scan_world.specs.Clear.{ClearsUp, FeederIsClear, IsClear}
use Rattle.scan_world.specs.Histories.{History, LedTo, begun}
use Rattle.scan_world.specs.Trays.{BatchIsCounted}
use Rattle.worked_worlds.specs.DotFiles.{CameOff, FedDotIsOneByte, IsDotJob, dot_file, dot_setup, feeder_of_three, one_dot}
use Rattle.worked_worlds.specs.Inside.{HasNotTwo, HasTwoFiles}
use Rattle.worked_worlds.specs.Worked.{memory_source}
use Rattle.worked_worlds.specs.declared.surely.NoFile.{NoFile}
use Rattle.worked_worlds.proofs.GrayDots.{allowed_here, dot_fits, fed_means, fed_puts}
use Rattle.worked_worlds.proofs.Trays.{fed_scan, own_tray}
use Rattle.worked_worlds.proofs.TwoFlatbeds.{off_of}
use Rattle.worked_worlds.proofs.Worked.{Moved, at_there, history_of, moved, only_memory}

abbrev three_dots : ℕ → ℕ → ℕ → List PageView
three_dots first second third = one_dot first ∷ one_dot second ∷ one_dot third ∷ []

-- by next moves of its one job
moved_there : (first second third : ℕ) (seed : List ℕ) (jobs : List Job) (job : Job) (old new : WorldCore) → jobs ≡ job ∷ [] → LedTo (begun (feeder_of_three first second third ∷ []) [] seed jobs) old → ((h : History) → LedTo h old → RunsOut h old new) → Moved (feeder_of_three first second third ∷ []) [] seed job new
moved_there first second third seed jobs job old new own led ran = moved (feeder_of_three first second third ∷ []) [] seed job old new (subst (λ (js : List Job). LedTo (begun (feeder_of_three first second third ∷ []) [] seed js) old) own led) ran

pub first_of_three : FedDotIsOneByte → (first second third : ℕ) (seed : List ℕ) (jobs : List Job) (job : Job) (old new : WorldCore) (one two : List ℕ) → first < 256 → jobs ≡ job ∷ [] → IsDotJob (codes "feeder:0") (tasks.Batch 2) job → LedTo (begun (feeder_of_three first second third ∷ []) [] seed jobs) old → ((h : History) → LedTo h old → RunsOut h old new) → HasTwoFiles new one two → one ≡ dot_file first
first_of_three byte first second third seed jobs job old new one two low own is led ran files =
    byte first job one low is.settings_are (fed_scan (codes "feeder:0") (three_dots first second third) [] seed job new 1 (one_dot first) one (moved_there first second third seed jobs job old new own led ran) refl files.first_kept)

pub second_of_three : FedDotIsOneByte → (first second third : ℕ) (seed : List ℕ) (jobs : List Job) (job : Job) (old new : WorldCore) (one two : List ℕ) → second < 256 → jobs ≡ job ∷ [] → IsDotJob (codes "feeder:0") (tasks.Batch 2) job → LedTo (begun (feeder_of_three first second third ∷ []) [] seed jobs) old → ((h : History) → LedTo h old → RunsOut h old new) → HasTwoFiles new one two → two ≡ dot_file second
second_of_three byte first second third seed jobs job old new one two low own is led ran files =
    byte second job two low is.settings_are (fed_scan (codes "feeder:0") (three_dots first second third) [] seed job new 2 (one_dot second) two (moved_there first second third seed jobs job old new own led ran) refl files.second_kept)

-- it is done with as many as it wanted
two_finished : (first second third : ℕ) (seed : List ℕ) (job : Job) (new : WorldCore) (reports : Reports) (finished : ℕ) → Moved (feeder_of_three first second third ∷ []) [] seed job new → IsDotJob (codes "feeder:0") (tasks.Batch 2) job → ForEach new 0 (λ h job. BatchIsCounted h new 0 job finished) → outcome_at new 0 ≡ Some (Done reports) → finished ≡ 2
two_finished first second third seed job new reports finished m is counted done =
    let devices = feeder_of_three first second third ∷ [] in
    let h = history_of devices [] seed job new m.came in
    (counted h job (at_there devices [] seed job new m.came) 2 reports is.does done).fed (own_tray (codes "feeder:0") (three_dots first second third) [] seed job new m.came (sym is.named))

clear_there : FeederIsClear → (first second third : ℕ) (seed : List ℕ) (job : Job) → IsDotJob (codes "feeder:0") (tasks.Batch 2) job → IsClear (begun (feeder_of_three first second third ∷ []) [] seed (job ∷ [])) 0 job (λ (j : ℕ). j ≡ 0)
clear_there loaded first second third seed job is =
    let sources = memory_source (one_dot first) ∷ memory_source (one_dot second) ∷ memory_source (one_dot third) ∷ [] in
    loaded (codes "feeder:0") sources [] seed job (dot_setup Feeder) is.named (fed_puts job.settings.items is.settings_are) some
    (All-from_recursion (λ (s : SourceState). s.infallible ≡ true) sources (refl, (refl, (refl, tt))))
    (All-from_recursion (λ (s : SourceState). meaning_of s.page (dot_setup Feeder).scene ≢ None) sources (fed_means first, (fed_means second, (fed_means third, tt))))
    (allowed_here job)
  where
    some : memory_source (one_dot first) ∷ memory_source (one_dot second) ∷ memory_source (one_dot third) ∷ [] ≡ [] → ⊥
    some none = cc

pub three_off : FeederIsClear → (first second third : ℕ) (seed : List ℕ) (jobs : List Job) (job : Job) (old new : WorldCore) (why : NoFile) → jobs ≡ job ∷ [] → IsDotJob (codes "feeder:0") (tasks.Batch 2) job → LedTo (begun (feeder_of_three first second third ∷ []) [] seed jobs) old → ((h : History) → LedTo h old → RunsOut h old new) → ClearsUp old new → HasNotTwo new why → CameOff (feeder_of_three first second third ∷ []) why
three_off loaded first second third seed jobs job old new why own is led ran clears (inl none) =
    off_of (feeder_of_three first second third ∷ []) seed (job ∷ []) old new 0 job why refl (clear_there loaded first second third seed job is) (subst (λ (js : List Job). LedTo (begun (feeder_of_three first second third ∷ []) [] seed js) old) own led) clears none
three_off loaded first second third seed jobs job old new why own is led ran clears (inr (reports, done, finished, not_two, counted)) =
    absurd (not_two (two_finished first second third seed job new reports finished (moved_there first second third seed jobs job old new own led ran) is counted done))

pub three_refused : (device : DeviceState) (jobs : List Job) (job : Job) (f : WorldFault) → jobs ≡ job ∷ [] → IsDotJob (codes "feeder:0") (tasks.Batch 2) job → HasFaultAmong f (device ∷ []) jobs → f ≡ faults.NoMem
three_refused device jobs job f own is fault = only_memory f device job (dot_fits (codes "feeder:0") (tasks.Batch 2) job (omega arith) (omega arith, omega arith) is) (subst (HasFaultAmong f (device ∷ [])) own fault)

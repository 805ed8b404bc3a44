-- A scan of one dot on a flatbed here that ended otherwise.
use Rattle.std.proofs.Common.{◌≡◌, ◌∙◌, ℕ, List, true, false, refl, sym, ap, subst, arith, inl, inr, ◌⊎◌, Option, Some, None}
use Rattle.std.specs.Prelude.{Ok}
use Rattle.std.proofs.lemmas.List.Elements.{All-from_recursion}
use Rattle.sane_fixed.specs.declared.byte_order.ByteOrder.TheVariants.{Big}
use Rattle.sane_fixed.specs.declared.status.Status.{Status}
use Rattle.sane_fixed.specs.declared.status.Status.TheVariants as statuses
use Rattle.page_picture.specs.Source.{SourceState}
use Rattle.page_picture.specs.declared.scene.DeviceKind.TheVariants.{Flatbed}
use Rattle.scan_frames.specs.Frames.{has_picture}
use Rattle.device_api.specs.InForce.{in_force}
use Rattle.device_api.specs.State.{DeviceState, after_reset, page_of, with_setup}
use Rattle.device_api.specs.Values.{defaults}
use Rattle.virtual_scanner.specs.New.{new_scanner}
use Rattle.dispatch.specs.Table.{Table, listed_infos, unplug_answer}
use Rattle.scan_job.specs.JobSize.{IsBatch, IsJobText}
use Rattle.scan_job.specs.declared.job.Job.{Job}
use Rattle.scan_job.specs.declared.job.Task.{Task}
use Rattle.scan_job.specs.declared.job.Task.TheVariants.{List as ListTask, Show, Scan}
use Rattle.scan_job.specs.declared.outcome.Why.{Why}
use Rattle.scan_job.specs.declared.outcome.Why.TheVariants as whys
use Rattle.local_job.specs.LocalRun.{IsPut, settings_put}
use Rattle.local_job.specs.ScanCauses.{IsCause, ScannerAnswers}
use Rattle.scanimage_cli.specs.Causes.{EndsHere, HasNoDevice, MayPrint}
use Rattle.scanimage_cli.specs.Causes.EndsHere.{ByMemory, ByDevice, ByJob, ByPrinting}
use Rattle.scanimage_cli.specs.Doing.{EndsJob}
use Rattle.scanimage_cli.specs.Programs.{AskedHere, IsDeviceNamed, IsJobOf, ProgramOutputs, job_part}
use Rattle.scanimage_cli.specs.declared.ending.Ending.{Ending}
use Rattle.scanimage_cli.specs.declared.ending.Ending.TheVariants.{Ended}
use Rattle.worked_programs.proofs.Basics.{not_empty, not_none, ok_is}
use Rattle.worked_programs.proofs.Jobs.{AreShort, AsksFor, IsOne, job_items, job_task, job_taken}
use Rattle.worked_programs.proofs.Flatbeds.{dot_forced, dot_on_flatbed, dot_options, dot_placed}

-- out of memory, or an output that failed
abbrev pub MemoryOrOutput : Ending → Type 0
MemoryOrOutput ending = (ending ≡ Ended statuses.NoMem whys.Memory) ⊎ (ending ≡ Ended statuses.IoError whys.Sink)

-- ---- what ends a scan on a page that cannot fail, where no answer is told

not_told : (told : Option Status) (status : Status) → told ≡ None → told ≡ Some status → ⊥
not_told told status none some = not_none status (sym none ∙ some)

no_answer : (old new : DeviceState) (status : Status) → old.setup.told ≡ None → Rattle.device_api.specs.State.is_infallible old ≡ true
    → ScannerAnswers old new status → ⊥
no_answer old new status none sure (inl told) = not_told old.setup.told status none told.0
no_answer old new status none sure (inr failed) = let clash : true ≡ false = sym sure ∙ failed.1.can_fail in cc

cause_is : (why : Why) (status : Status) (old new : DeviceState) → old.setup.told ≡ None → Rattle.device_api.specs.State.is_infallible old ≡ true
    → IsCause why status old new → MemoryOrOutput (Ended status why)
cause_is whys.Answer status old new none sure is = absurd (no_answer old new status none sure is)
cause_is whys.Cancelled status old new none sure is = absurd is
cause_is whys.Lost status old new none sure is = absurd is
cause_is whys.Malformed status old new none sure is = absurd is
cause_is whys.Short status old new none sure is = absurd (not_told old.setup.told _ none is.1)
cause_is whys.Long status old new none sure is = absurd is
cause_is whys.Setting status old new none sure is = absurd is
cause_is whys.Plain status old new none sure is = absurd is
cause_is whys.Memory status old new none sure is = inl (ap (λ (s : Status). Ended s whys.Memory) is)
cause_is whys.Sink status old new none sure is = inr (ap (λ (s : Status). Ended s whys.Sink) is)

-- ---- its job

pub dot_short : AreShort dot_options
dot_short = (
  omega arith,
  All-from_recursion (λ (setting : List ℕ × List ℕ). IsJobText setting.0 × IsJobText setting.1) dot_options
      ((omega arith, omega arith), ((omega arith, omega arith), ((omega arith, omega arith), tt))),
)

dot_told : dot_on_flatbed.told ≡ None
unfolding defaults
dot_told = refl

dot_pictured : (name : List ℕ) (source : SourceState) → has_picture dot_on_flatbed (page_of (after_reset (new_scanner Flatbed name source Big))) ≡ true
unfolding defaults
dot_pictured name source = refl

no_batch : IsBatch Scan → ⊥
no_batch batch = batch

pub no_print : (task : Task) → task ≡ Scan → MayPrint task → ⊥
no_print task is (inl list) = let clash : Scan ≡ ListTask = sym is ∙ list in cc
no_print task is (inr show) = let clash : Scan ≡ Show = sym is ∙ show in cc

module _ (asked : AskedHere) (name : List ℕ) (source : SourceState) (for : AsksFor asked name Scan dot_options) (sure : source.infallible ≡ true) where
  is_put : (job : Job) → IsJobOf asked.plan asked.password job → job.device ≡ name
      → IsPut (new_scanner Flatbed name source Big) job (dot_on_flatbed, dot_placed)
  unfolding defaults
  is_put job own called = record {
    taken = job_taken asked name Scan dot_options for job own called no_batch;
    put = ap (λ (t : Task). in_force Flatbed Big (settings_put t job.settings.items)) (job_task asked name Scan dot_options for job own called)
        ∙ ap (λ (xs : List (List ℕ × List ℕ)). in_force Flatbed Big xs) (job_items asked name Scan dot_options for job own called) ∙ dot_forced;
  }

  stops : (job : Job) → IsJobOf asked.plan asked.password job → job.device ≡ name → (new : DeviceState) (ending : Ending)
      → EndsJob (new_scanner Flatbed name source Big) job new ending → MemoryOrOutput ending
  stops job own called new ending ends =
      let cause = ends.reason.scan (dot_on_flatbed, dot_placed) (is_put job own called) (job_task asked name Scan dot_options for job own called)
      (λ none. not_empty _ _ (sym none)) (dot_pictured name source) in
      subst MemoryOrOutput (sym ends.told) (cause_is ends.stop.why ends.stop.status _ new dot_told sure cause)

  pub ended_scan : (table : Table) (was now : ProgramOutputs) (ending : Ending)
      → ((device : List ℕ) → IsDeviceNamed asked.device (listed_infos table) device → device ≡ name)
      → unplug_answer table name ≡ Ok (new_scanner Flatbed name source Big) → (HasNoDevice table asked.device → ⊥) → IsOne asked.plan.destination
      → EndsHere table asked was now ending → MemoryOrOutput ending
  ended_scan table was now ending called there some one (ByMemory told wants same) = inl told
  ended_scan table was now ending called there some one (ByDevice told none same) = absurd (some none)
  ended_scan table was now ending called there some one (ByJob job own named device found begun ends) =
      let at = called job.device named in
      let old : device.0 ≡ new_scanner Flatbed name source Big = ok_is _ _ (sym found ∙ ap (λ (n : List ℕ). unplug_answer table n) at ∙ there) in
      stops job own at device.1 ending (subst (λ (d : DeviceState). EndsJob d job device.1 ending) old
      (one job device (job_part was) (job_part now) ending ends))
  ended_scan table was now ending called there some one (ByPrinting told failed prints) = absurd (no_print asked.plan.task for.task_is prints)

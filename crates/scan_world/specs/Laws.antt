-- The laws, of every history.
use Rattle.std.specs.Prelude.{ℕ}
use Rattle.scan_job.specs.declared.job.Job.{Job}
use Rattle.event_world.specs.Worlds.{WorldCore}
use Rattle.system_model.specs.ModelPromises.{CausesAreGrounded, HistoriesKeepInvariant, MarksAreEnabled, NotesAreTrue}
use Rattle.system_model.specs.ModelPromises.{OutcomesLast}
use Rattle.system_model.specs.Settings.{SettingsMeanTheSame}
use Rattle.world_refines.specs.NewWorlds.{NewWorldsRefine}
use Rattle.world_refines.specs.MainTheorem.{AllIsKept, EventsFollow}
use Rattle.world_refines.specs.WorldPromises.{LossesAreExplained, OutcomesAreRight, PagesAreMeant, ScansAreMeant}
use Rattle.strangers.specs.Together.{AllIsKeptAmongStrangers, JobsGoOn, StrangersKeepWorlds}
use Rattle.scan_world.specs.Histories.{History}
use Rattle.scan_world.specs.Promise.{JobAnswers, JobIsKept}
use Rattle.scan_world.specs.Calls.{AnswersAre, IsJobAt}

-- the laws of the crates below on which they rest
pub record Below : Type 0 where
  pub kept : AllIsKeptAmongStrangers
  pub alone : AllIsKept
  pub new : NewWorldsRefine
  pub notes : NotesAreTrue
  pub histories : HistoriesKeepInvariant
  pub marks : MarksAreEnabled
  pub last : OutcomesLast
  pub grounds : CausesAreGrounded
  pub same : SettingsMeanTheSame
  pub follows : EventsFollow
  pub goes : JobsGoOn
  pub acts : StrangersKeepWorlds
  pub outcomes : OutcomesAreRight
  pub losses : LossesAreExplained
  pub scans : ScansAreMeant
  pub pages : PagesAreMeant

-- what the calls of a world answer of a job is kept
abbrev pub AllIsRight : Type 0
AllIsRight =
    (h : History) (w : WorldCore) (i : ℕ) (job : Job) (a : JobAnswers) → IsJobAt h w i job → AnswersAre w i a
    → JobIsKept h w i job a

-- they follow from those below
abbrev pub AllFollow : Type 0
AllFollow = Below → AllIsRight

-- What private functions alone promise.
use Rattle.std.specs.Prelude.{◌≡◌, ℕ, false, Some, None, Err, List, [], ◌∷◌}
use Rattle.sane_fixed.specs.declared.status.Status.TheVariants.{DeviceBusy}
use Rattle.dispatch.specs.Table.{unplug_answer}
use Rattle.saned_requests.specs.RequestAnswers.{own_version}
use Rattle.saned_core.specs.DaemonStates.{Core}
use Rattle.saned_core.specs.declared.session_slot.Fed.TheVariants.{Over, Standing}
use Rattle.saned_serve.specs.SessionActions.{ActsOn}
use Rattle.saned_serve.specs.SessionActions.SessionAction.{Feed, Leaves, Opens}
use Rattle.wire_message.specs.declared.message.Request.TheVariants as requests
use Rattle.wire_writing.specs.RequestWriting.{write_request}
use Rattle.system_model.specs.ModelPromises.{HistoriesKeepInvariant, NotesAreTrue}
use Rattle.system_model.specs.MoveRuns.{HistoryMarksAreEnabled}
use Rattle.world_refines.specs.MainTheorem.{EventsFollow}
use Rattle.world_refines.specs.WorldPromises.{ScansAreMeant}
use Rattle.strangers.specs.Among.{StrangerAct}
use Rattle.strangers.specs.Together.{AllIsKeptAmongStrangers, JobsGoOn}
use Rattle.worked_strangers.specs.Visits.{AreBytesSaid, garbage, until_gone, until_taken}

-- acts for sessions of a daemon, one after another
abbrev pub ActsAt : List StrangerAct → Core → Core → Type 0
ActsAt [] d e = e ≡ d
ActsAt (a ∷ acts) d e = (mid : Core) × ActsOn a.session d a.act mid × ActsAt acts mid e

-- the device of that name is out, and the daemon as it was
pub record IsLeft (name : List ℕ) (d e : Core) : Type 0 where
  pub out : unplug_answer d.registry name ≡ Err DeviceBusy
  pub same : e ≡ d

-- one came who said garbage, and is lost
abbrev pub HasGarbled : Core → Core → Type 0
HasGarbled d e = (first : Core) × (said : Core) × ActsOn d.opened d (Opens 1) first
    × ActsOn d.opened first (Feed garbage Over false) said × ActsOn d.opened said (Leaves 1 None) e

-- the session of that number was opened, and greeted
pub record CameGreeting (n : ℕ) (d e : Core) : Type 0 where
  pub greeting : List ℕ
  pub greets : write_request.text (requests.Init own_version []) ≡ Some greeting
  pub opened : Core
  pub comes : ActsOn n d (Opens 1) opened
  pub says : ActsOn n opened (Feed greeting Standing false) e

-- it opened the device of that name, which is out
pub record HasOpened (n : ℕ) (name : List ℕ) (d e : Core) : Type 0 where
  pub opening : List ℕ
  pub opens : write_request.text (requests.Open name) ≡ Some opening
  pub says : ActsOn n d (Feed opening Standing false) e
  pub out : unplug_answer e.registry name ≡ Err DeviceBusy

-- the first two strangers came, and the device of that name is out
pub record HasLeased (name : List ℕ) (d e : Core) : Type 0 where
  pub greeting : List ℕ
  pub opening : List ℕ
  pub said : AreBytesSaid name greeting opening
  pub acts : ActsAt (until_taken greeting opening) d e
  pub out : unplug_answer e.registry name ≡ Err DeviceBusy

-- the second one is lost, and a third one came
pub record HasGone (d e : Core) : Type 0 where
  pub greeting : List ℕ
  pub greets : write_request.text (requests.Init own_version []) ≡ Some greeting
  pub acts : ActsAt (until_gone greeting) d e

-- the laws of the crates below on which a job's file rests
pub record LawsBelow : Type 0 where
  pub kept : AllIsKeptAmongStrangers
  pub goes : JobsGoOn
  pub follow : EventsFollow
  pub scans : ScansAreMeant
  pub notes : NotesAreTrue
  pub invariant : HistoriesKeepInvariant
  pub marks : HistoryMarksAreEnabled

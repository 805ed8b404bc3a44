-- What an event does to what stands: its steps by the model, and the bytes that it moves.
use Rattle.std.specs.Prelude.{ℕ, ◌≡◌, ◌≢◌, ◌<◌, ◌⊎◌, ◌++◌, true, false, Option, Some, None, IsSome, option_map, List}
use Rattle.std.specs.Prelude.{[], ◌∷◌}
use Rattle.sane_fixed.specs.declared.status.Status.{Status}
use Rattle.sane_fixed.specs.declared.status.Status.TheVariants as codes
use Rattle.sane_fixed.specs.Status.{status_code}
use Rattle.data_records.specs.Records.{counted_record, end_record}
use Rattle.sane_fixed.specs.declared.device_info.DeviceInfo.{DeviceInfo}
use Rattle.system_model.specs.Devices.{Make}
use Rattle.system_model.specs.Client.{Idle, abstract_farewell}
use Rattle.system_model.specs.Daemon.{Waiting, Streaming, Ending}
use Rattle.system_model.specs.Actions as actions
use Rattle.page_picture.specs.Source.{SourceState}
use Rattle.device_api.specs.Kinds.{Page, has_room}
use Rattle.system_model.specs.AbstractDevices.{Resting}
use Rattle.system_model.specs.Transitions.{Transition, By, Loads, Unplugs, IsHistory, IsImaging, IsUnderWay, after_all}
use Rattle.saned_core.specs.Loading.{core_after_load}
use Rattle.dispatch.specs.Table.{after_unplug}
use Rattle.event_world.specs.declared.event.JobEvent.{JobEvent}
use Rattle.event_world.specs.declared.event.JobEvent.TheVariants.{Connect, ToDaemon, ToClient, DataConnect, DataTurn}
use Rattle.event_world.specs.declared.event.JobEvent.TheVariants.{DataToClient, LoseControl, LoseImage, Cancel}
use Rattle.world_refines.specs.GhostStates.{Ghost, Wires, name_at, job_state, wires, wired_then}
use Rattle.world_refines.specs.Wires.{SpellsAsked}
use Rattle.event_world.specs.Worlds.{AtEndpoint, WorldCore}
use Rattle.world_refines.specs.WorldRefinement.{WorldRefines, client_at_greeting}
use Rattle.daemon_refines.specs.ContextRefinement.{HasSource}
use Rattle.device_api.specs.ScannerLimits.{IsHeldPage}
use Rattle.device_api.specs.State.{held_from}

-- ---- when it can happen

abbrev pub HasSomeBytes : Option (List ℕ) → Type 0
HasSomeBytes None = ⊥
HasSomeBytes (Some bytes) = bytes ≢ []

-- **can, takes, leads (`GhostCan`, `GhostTakes`, `EventRefines`)**: when an event can happen, in the words of the
-- model; its steps, which are enabled, and the bytes that it moves. Whatever a world stands for, the event makes of it
-- a world that stands for what these steps lead to.
abbrev pub GhostCan : Ghost → ℕ → JobEvent → Type 0
GhostCan t i Connect = (i < t.count) × ((job_state t i).client.stage ≡ Idle)
GhostCan t i (ToDaemon n) = ((job_state t i).linked ≡ true) × ((wires t i).up ≢ []) × (0 < n)
GhostCan t i (ToClient n) = ((job_state t i).linked ≡ true) × ((wires t i).down ≢ []) × (0 < n)
GhostCan t i DataConnect = ((job_state t i).session.transfer ≡ Waiting) × IsImaging (job_state t i).client.stage
GhostCan t i DataTurn = IsSome (wires t i).image
    × (((job_state t i).session.transfer ≡ Streaming) ⊎ ((job_state t i).session.transfer ≡ Ending))
GhostCan t i (DataToClient n) = HasSomeBytes (wires t i).image × (0 < n)
GhostCan t i LoseControl = (job_state t i).linked ≡ true
GhostCan t i LoseImage = IsSome (wires t i).image × ((job_state t i).linked ≡ true)
GhostCan t i Cancel = (i < t.count) × IsUnderWay (job_state t i).client.stage

-- ---- what it does

-- it takes these steps, and then the bytes of the job's connections are these
pub record GhostTakes (t : Ghost) (i : ℕ) (steps : List Transition) (x : Wires) (u : Ghost) : Type 0 where
  pub legal : IsHistory t.system steps
  pub then_is : u ≡ wired_then t i steps x

-- no byte is on the way from the daemon any more, or to its session
abbrev pub wires_without_down : Wires → Wires
wires_without_down x = record x { asking = []; down = []; image = None }

abbrev pub wires_with_image : Option (List ℕ) → Wires → Wires
wires_with_image image x = record x { image = image }

-- a session is opened for the client, or there is none for lack of memory, and the connection is lost
abbrev pub GhostConnects : Ghost → ℕ → List Transition → Ghost → Type 0
GhostConnects t i steps u =
    ((steps ≡ By i actions.Connects ∷ []) × GhostTakes t i steps (wires t i) u)
    ⊎ ((steps ≡ By i actions.Connects ∷ By i (actions.Loses true) ∷ [])
    × GhostTakes t i steps (wires_without_down (wires t i)) u)

abbrev pub Dials : Ghost → ℕ → List Transition → Ghost → Type 0
Dials t i steps u = (steps ≡ By i actions.Dials ∷ []) × GhostTakes t i steps (wires_with_image (Some []) (wires t i)) u

abbrev pub LosesControl : Ghost → ℕ → List Transition → Ghost → Type 0
LosesControl t i steps u = (steps ≡ By i (actions.Loses false) ∷ [])
    × GhostTakes t i steps (wires_without_down (wires t i)) u

abbrev pub LosesImage : Ghost → ℕ → List Transition → Ghost → Type 0
LosesImage t i steps u = (steps ≡ By i (actions.LosesImage false) ∷ [])
    × GhostTakes t i steps (wires_with_image None (wires t i)) u

-- the record that a turn sends: these bytes behind their number, or the end with its status
abbrev pub IsRecordOf : actions.Action → List ℕ → Type 0
IsRecordOf (actions.Turns bytes) text = text ≡ counted_record bytes
IsRecordOf actions.TurnsLast text = text ≡ end_record (status_code codes.Eof)
IsRecordOf actions.TurnsShort text = text ≡ end_record (status_code codes.Eof)
IsRecordOf (actions.TurnsNamed status) text = (code : Status) × (code ≡ status)
    × (text ≡ end_record (status_code code))
IsRecordOf (actions.TurnsFault fault) text = text ≡ end_record (status_code codes.IoError)
IsRecordOf actions.TurnsOff text = text ≡ end_record (status_code codes.Cancelled)
IsRecordOf action text = ⊥

abbrev pub with_record : List ℕ → Wires → Wires
with_record text x = wires_with_image (option_map (λ bytes. bytes ++ text) x.image) x

-- it comes onto the data connection, or there is no memory for it and the connection is lost
abbrev pub GhostSends : Ghost → ℕ → actions.Action → List ℕ → List Transition → Ghost → Type 0
GhostSends t i action text steps u =
    ((steps ≡ By i action ∷ []) × GhostTakes t i steps (with_record text (wires t i)) u)
    ⊎ ((steps ≡ By i action ∷ By i (actions.LosesImage true) ∷ [])
    × GhostTakes t i steps (wires_with_image None (wires t i)) u)

pub record GhostTurns (t : Ghost) (i : ℕ) (steps : List Transition) (u : Ghost) : Type 0 where
  pub action : actions.Action
  pub text : List ℕ
  pub is : IsRecordOf action text
  pub sends : GhostSends t i action text steps u

-- the client says farewell
pub record GivesUp (t : Ghost) (i : ℕ) (steps : List Transition) (u : Ghost) : Type 0 where
  pub text : List ℕ
  pub spells
      : SpellsAsked (t.jobs i) (job_state t i).client
      (abstract_farewell (client_at_greeting (job_state t i).client.stage (job_state t i).client).stage) text
  pub steps_are : steps ≡ By i actions.Stops ∷ []
  pub takes : GhostTakes t i steps (record (wires t i) { up = (wires t i).up ++ text }) u

-- ---- what it leads to

-- it can happen and does that, or it changes nothing
pub record GhostHappens (May Done : Type 0) (t : Ghost) (steps : List Transition) (u : Ghost) : Type 0 where
  pub either : May ⊎ (May → ⊥)
  pub does : May → Done
  pub cannot : (May → ⊥) → (steps ≡ []) × (u ≡ t)

-- whatever a world stands for, what the event makes of it stands for what these steps lead to
pub record GhostLeadsTo (May : Type 0) (Does : List Transition → Ghost → Type 0) (t : Ghost)
    (v : WorldCore) : Type 0 where
  pub steps : List Transition
  pub ghost_then : Ghost
  pub happens : GhostHappens May (Does steps ghost_then) t steps ghost_then
  pub stands : WorldRefines ghost_then v

abbrev pub GhostLeads : JobEvent → (Ghost → ℕ → List Transition → Ghost → Type 0) → Ghost → ℕ → WorldCore → Type 0
GhostLeads action Does t i v = GhostLeadsTo (GhostCan t i action) (Does t i) t v

abbrev pub EventRefines : JobEvent → (Ghost → ℕ → List Transition → Ghost → Type 0) → Type 0
EventRefines action Does = (t : Ghost) (i : ℕ) (w v : WorldCore) → WorldRefines t w → AtEndpoint w i action v
    → GhostLeads action Does t i v

-- ---- what comes to a device

-- the place of that name has a device that is listed and that nobody holds
pub record CanUnplug (t : Ghost) (name : List ℕ) : Type 0 where
  pub place : ℕ
  pub named : name_at t.infos place ≡ Some name
  pub listed : (t.system.device place).listed ≡ true
  pub free : (t.system.device place).holder ≡ None

-- it is listed no more
pub record TakesOut (t : Ghost) (name : List ℕ) (steps : List Transition) (u : Ghost) : Type 0 where
  pub place : ℕ
  pub named : name_at t.infos place ≡ Some name
  pub steps_are : steps ≡ Unplugs place ∷ []
  pub legal : IsHistory t.system steps
  pub then_is : u ≡ record t { system = after_all t.system steps }

abbrev pub UnplugsFollow : Type 0
UnplugsFollow =
    (t : Ghost) (w : WorldCore) (name : List ℕ) → WorldRefines t w
    → GhostLeadsTo (CanUnplug t name) (TakesOut t name) t
    (record w { daemon = record w.daemon { registry = after_unplug w.daemon.registry name } })

-- **a page is laid in (`CanLoad`, `LaysIn`)**: the place of that name has a device that is listed, at rest and has
-- room; then it has the page.
pub record CanLoad (t : Ghost) (name : List ℕ) : Type 0 where
  pub place : ℕ
  pub named : name_at t.infos place ≡ Some name
  pub listed : (t.system.device place).listed ≡ true
  pub at_rest : (t.system.device place).phase ≡ Resting
  pub room : has_room (t.system.make place).model (t.system.device place).tray ≡ true

-- it has the page
pub record LaysIn (t : Ghost) (name : List ℕ) (page : Page) (steps : List Transition) (u : Ghost) : Type 0 where
  pub place : ℕ
  pub named : name_at t.infos place ≡ Some name
  pub steps_are : steps ≡ Loads place page ∷ []
  pub legal : IsHistory t.system steps
  pub then_is : u ≡ record t { system = after_all t.system steps }

-- a source comes to that name only where it is such as is said of those in its place
abbrev pub MayHaveSource : List DeviceInfo → (ℕ → Make) → List ℕ → SourceState → Type 0
MayHaveSource infos make name source = (k : ℕ) → name_at infos k ≡ Some name → HasSource (make k) (held_from source)

-- of a page within its limits
abbrev pub LoadsFollow : Type 0
LoadsFollow =
    (t : Ghost) (w : WorldCore) (name : List ℕ) (source : SourceState) → IsHeldPage (held_from source)
    → MayHaveSource t.infos t.system.make name source → WorldRefines t w →
    GhostLeadsTo (CanLoad t name) (LaysIn t name source.page) t
    (record w { daemon = core_after_load w.daemon name source })

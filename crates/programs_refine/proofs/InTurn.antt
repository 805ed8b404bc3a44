-- A job that runs and has a request to send has heard all that was said to it.
use Rattle.std.specs.Prelude.{map}
use Rattle.std.proofs.Common.{◌≡◌, ◌∙◌, ◌⊎◌, inl, inr, ℕ, true, Some, None, List, [], ◌++◌, sym, subst}
use Rattle.page_sources.specs.SourceView.{source_state}
use Rattle.frame_join.specs.FrameHistory.{JoinHistory}
use Rattle.client_replies.specs.ProtocolStates.{target_of}
use Rattle.net_client.specs.ClientStates.{protocol_of}
use Rattle.system_model.specs.AbstractDevices.{AbstractDevice}
use Rattle.system_model.specs.AbstractMessages.{AbstractReply, AbstractRequest}
use Rattle.system_model.specs.Client.{JobStage, Idle, Running, Done, Ended}
use Rattle.system_model.specs.Devices.{Make}
use Rattle.system_model.specs.Invariants.{StageInvariant}
use Rattle.system_model.specs.SystemStates.{JobState, device_for, make_for}
use Rattle.system_model.specs.Transitions.{IsUnderWay}
use Rattle.event_world.specs.declared.endpoint.Endpoint.{Endpoint}
use Rattle.event_world.specs.Worlds.{WorldCore}
use Rattle.world_refines.specs.GhostStates.{Ghost, place_of_info}
use Rattle.world_refines.specs.MainTheorem.{EventsFollow}
use Rattle.world_refines.specs.NewWorlds.{IsNewDaemon, NewWorldsRefine, initial_ghost}
use Rattle.world_refines.specs.Wires.{SpellsAsked, SpellsReplies}
use Rattle.world_refines.specs.WorldRefinement.{WorldRefines}
use Rattle.world_refines.proofs.replies.Heeded.{nothing_said}
use Rattle.world_refines.proofs.state.GhostClients.{runs_under}
use Rattle.world_refines.proofs.state.ListEntries.{nil_both}
use Rattle.programs_refine.specs.Keeping.{WorldsHearInTurn}
use Rattle.programs_refine.specs.WorldHistory.{HearsInTurn}
use Rattle.programs_refine.proofs.Keeping.{any_source, have_any, no_loads, none_to_fit}

-- no reply is due, or all that was asked is answered
abbrev IsAnswered : JobState → Type 0
IsAnswered p = (p.due ≡ []) ⊎ ((p.todo ≡ []) × (p.served ≡ true))

answered_by : (i : ℕ) (k : Make) (p : JobState) (dev : AbstractDevice) (st : JobStage) → IsUnderWay st → (st ≡ Idle → ⊥) → StageInvariant i k p dev st → IsAnswered p
answered_by i k p dev Idle u n h = absurd (n (let same : Idle ≡ Idle = cc in same))
answered_by i k p dev (Running g) u n (inl asks) = inl asks.due
answered_by i k p dev (Running g) u n (inr (inl told)) = inr (told.todo, told.served)
answered_by i k p dev (Running g) u n (inr (inr dead)) = inl dead.due
answered_by i k p dev Done u n h = absurd u
answered_by i k p dev (Ended status why) u n h = absurd u

said_all : (t : Ghost) (i : ℕ) (p : Endpoint) → (t.system.job i).due ≡ [] → SpellsReplies (place_of_info t.infos) p.client.progress (t.system.job i).due ((t.wires i).telling ++ (t.wires i).down) → (t.wires i).telling ≡ []
said_all t i p none spelled = (nil_both (t.wires i).telling (t.wires i).down (subst (λ (due : List AbstractReply). SpellsReplies (place_of_info t.infos) p.client.progress due ((t.wires i).telling ++ (t.wires i).down)) none spelled)).0

asked_all : (t : Ghost) (i : ℕ) → (t.system.job i).todo ≡ [] → SpellsAsked (t.jobs i) (t.system.job i).client (t.system.job i).todo ((t.wires i).asking ++ (t.wires i).up) → (t.wires i).up ≡ []
asked_all t i none spelled =
    (nil_both (t.wires i).asking (t.wires i).up (nothing_said (target_of (t.jobs i)) ((t.wires i).asking ++ (t.wires i).up) (subst (λ (todo : List AbstractRequest). SpellsAsked (t.jobs i) (t.system.job i).client todo ((t.wires i).asking ++ (t.wires i).up)) none spelled))).1

pub in_turn : (t : Ghost) (w : WorldCore) → WorldRefines t w → HearsInTurn w
in_turn t w h i p id at link runs early =
    let s = h.endpoints i p at in
    let me = t.system.job i in
    let under = runs_under (place_of_info t.infos) (target_of (t.jobs i)) me.session.job (map (λ (q : JoinHistory). q.ended) (t.pages i)) (protocol_of p.client (t.history i)) me.client s.exchanges.reads runs in
    let begun : me.client.stage ≡ Idle → ⊥ = λ idle. (let clash : None ≡ Some id = sym (s.means.before (s.exchanges.idle idle)).0 ∙ link in cc) in
    by s.carries.telling s.carries.up (s.means.down under) s.means.up (answered_by i (make_for t.system i) me (device_for t.system i) me.client.stage under begun (h.sound.exchanges i))
  where
    by : p.client.input.rest ≡ (t.wires i).telling → p.client.out ≡ (t.wires i).up → SpellsReplies (place_of_info t.infos) p.client.progress (t.system.job i).due ((t.wires i).telling ++ (t.wires i).down)
        → ((t.system.job i).served ≡ true → SpellsAsked (t.jobs i) (t.system.job i).client (t.system.job i).todo ((t.wires i).asking ++ (t.wires i).up)) → IsAnswered (t.system.job i) → ⊥
    by rest out down up (inl none) = early.1 (rest ∙ said_all t i p none down)
    by rest out down up (inr answered) = early.0 (out ∙ asked_all t i answered.0 (up answered.1))

pub always_in_turn : NewWorldsRefine → EventsFollow → WorldsHearInTurn
always_in_turn new follows devices jobs other d w fit is events v leads =
    let first = new any_source jobs other devices w is.endpoints (subst (IsNewDaemon devices) (sym is.daemon) fit.daemon) fit.names fit.limits (have_any devices) fit.fit in
    let t = initial_ghost any_source jobs other devices w.daemon.users w.endpoints in
    let run = follows source_state events t w v first (no_loads events leads.are) (none_to_fit t.infos t.system.make events leads.are) leads.runs in
    in_turn run.ghost_then v run.stands

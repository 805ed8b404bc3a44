-- With the delivery that a request is answered in, its last byte came.
use Rattle.std.specs.Prelude.{◌++◌}
use Rattle.std.proofs.Common.{◌≡◌, ◌∙◌, ℕ, List, [], Bool, true, false, Option, Some, None, refl, sym, subst}
use Rattle.device_api.specs.State.{DeviceState}
use Rattle.saned_requests.specs.declared.session.Session.{Session}
use Rattle.saned_core.specs.declared.session_slot.SessionId.{SessionId}
use Rattle.saned_core.specs.DaemonStates.{Core, session_of, session_in}
use Rattle.client_replies.specs.ProtocolStates.{target_of}
use Rattle.system_model.specs.AbstractMessages.{AbstractRequest}
use Rattle.system_model.specs.AbstractDevices.{AbstractDevice}
use Rattle.system_model.specs.AbstractSessions.{AbstractSession}
use Rattle.system_model.specs.Devices.{Make}
use Rattle.event_world.specs.Worlds.{WorldCore}
use Rattle.world_refines.specs.GhostStates.{Ghost}
use Rattle.world_refines.specs.Wires.{SpellsAsked}
use Rattle.world_refines.specs.WorldRefinement.{IsServed, WorldRefines, session_by, slot_of_link}
use Rattle.world_refines.proofs.replies.Heeded.{nothing_said}
use Rattle.world_refines.proofs.state.ListEntries.{nil_both}
use Rattle.scan_world.specs.Sessions.{SessionAt}

-- a session that stands goes on by the model
served_on : (i : ℕ) (make : ℕ → Make) (core : Core) (link : Option SessionId) (served : Bool) (device : ℕ → AbstractDevice) (s : AbstractSession) → IsServed i make core link served device s → (id : SessionId) → link ≡ Some id → (session : Session DeviceState) → session_of core id.number ≡ Some session → served ≡ true
served_on i make core link true device s h id linked session stands = refl
served_on i make core link false device s h id linked session stands =
    absurd (let clash : None ≡ Some session = sym (subst (λ (l : Option SessionId). session_in (slot_of_link core l) ≡ None) linked h.0) ∙ stands in cc)

-- where no request is left to answer, nothing that its client wrote is left
pub all_sent : (t : Ghost) (w : WorldCore) (i : ℕ) → WorldRefines t w → (t.system.job i).todo ≡ [] → (s : Session DeviceState) (now : SessionAt w i s) → now.endpoint.client.out ≡ []
all_sent t w i h none s at =
    let e = h.endpoints i at.endpoint at.is_there in
    let x = t.wires i in
    let me = t.system.job i in
    let on = served_on i t.system.make w.daemon at.endpoint.link me.served t.system.device (session_by i t.system.device me) e.served at.id at.linked s at.stands in
    let quiet : x.asking ++ x.up ≡ [] = nothing_said (target_of (t.jobs i)) (x.asking ++ x.up) (subst (λ (todo : List AbstractRequest). SpellsAsked (t.jobs i) me.client todo (x.asking ++ x.up)) none (e.means.up on)) in
    e.carries.up ∙ (nil_both x.asking x.up quiet).1

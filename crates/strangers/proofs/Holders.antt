-- No two sessions hold one device.
use Rattle.std.proofs.Common.{◌≡◌, ◌≢◌, ◌∙◌, ◌⊎◌, inl, inr, ℕ, ◌+◌, ◌<◌, List, Bool, true, false, Option, Some, None, refl, sym, ap, subst, length, slice_get, arith}
use Rattle.std.proofs.lemmas.Option.{slice_get_within}
use Rattle.device_api.specs.State.{DeviceState}
use Rattle.dispatch.specs.declared.table.place.Lease.{Lease}
use Rattle.saned_requests.specs.declared.session.Session.{Session as RequestSession}
use Rattle.saned_requests.specs.Holding.{held_by}
use Rattle.saned_core.specs.declared.session_slot.SessionId.{SessionId}
use Rattle.saned_core.specs.DaemonStates.{session_in, session_of}
use Rattle.system_model.specs.AbstractDevices.{AbstractDevice}
use Rattle.system_model.specs.AbstractSessions.{AbstractSession}
use Rattle.daemon_refines.specs.Cores.{SessionRefines}
use Rattle.event_world.specs.declared.endpoint.Endpoint.{Endpoint}
use Rattle.event_world.specs.Worlds.{WorldCore}
use Rattle.world_refines.specs.GhostStates.{Ghost}
use Rattle.world_refines.specs.WorldRefinement.{IsLinked, IsNobodys, IsServed, WorldRefines, session_by, slot_of_link, stranger_of}
use Rattle.world_refines.proofs.state.Strangers.{whose_is}
use Rattle.strangers.specs.Together.{Leases, OneHolderAmong}

unsome : {X : Type 0} (a b : X) → Some a ≡ Some b → a ≡ b
unsome a b e = cc

-- who holds the device by the model: a job by its number, or a stranger
record IsJobs (w : WorldCore) (i n : ℕ) : Type 0 where
  endpoint : Endpoint
  id : SessionId
  at : slice_get w.endpoints i ≡ Some endpoint
  link : endpoint.link ≡ Some id
  number : id.number ≡ n

record Holder (t : Ghost) (w : WorldCore) (n place : ℕ) : Type 0 where
  i : ℕ
  holds : (t.system.device place).holder ≡ Some i
  who : IsJobs w i n ⊎ (i ≡ stranger_of w n)

holds_it : (t : Ghost) (w : WorldCore) (i n place : ℕ) (s : AbstractSession) → SessionRefines i t.system.make w.daemon n t.system.device s → Leases w n place → (t.system.device place).holder ≡ Some i
holds_it t w i n place s shows l =
    let same : shows.session ≡ l.session = unsome shows.session l.session (sym shows.stands ∙ l.stands) in
    let lease = shows.shows.devices.leases l.word l.lease (ap (λ (x : RequestSession DeviceState). held_by x.held l.word) same ∙ l.held) in
    subst (λ (k : ℕ). (t.system.device k).holder ≡ Some i) l.of_place (ap (λ (d : AbstractDevice). d.holder) lease.device)

by_served : (t : Ghost) (w : WorldCore) (i n place : ℕ) (endpoint : Endpoint) (id : SessionId) (b : Bool) → slice_get w.endpoints i ≡ Some endpoint → endpoint.link ≡ Some id → id.number ≡ n → IsServed i t.system.make w.daemon (Some id) b t.system.device (session_by i t.system.device (t.system.job i)) → Leases w n place → Holder t w n place
by_served t w i n place endpoint id false at link number served l =
    absurd (let clash : None ≡ Some l.session = sym served.0 ∙ (ap (session_of w.daemon) number ∙ l.stands) in cc)
by_served t w i n place endpoint id true at link number served l =
    let shows = subst (λ (k : ℕ). SessionRefines i t.system.make w.daemon k t.system.device (session_by i t.system.device (t.system.job i))) number served in
    record { i = i; holds = holds_it t w i n place (session_by i t.system.device (t.system.job i)) shows l; who = inl (record { endpoint = endpoint; id = id; at = at; link = link; number = number }) }

holder_of : (t : Ghost) (w : WorldCore) (n place : ℕ) → WorldRefines t w → Leases w n place → IsLinked w.endpoints n ⊎ IsNobodys w n → Holder t w n place
holder_of t w n place h l (inl x) =
    let served = subst (λ (o : Option SessionId). IsServed x.place t.system.make w.daemon o (t.system.job x.place).served t.system.device (session_by x.place t.system.device (t.system.job x.place))) x.link (h.endpoints x.place x.endpoint x.at).served in
    by_served t w x.place n place x.endpoint x.id (t.system.job x.place).served x.at x.link x.number served l
holder_of t w n place h l (inr nobodys) =
    let s = (h.strangers n).sits l.session l.stands nobodys in
    record { i = stranger_of w n; holds = holds_it t w (stranger_of w n) n place s.0 s.1 l; who = inr refl }

one_number : (w : WorldCore) (i j m n : ℕ) → i ≡ j → IsJobs w i m ⊎ (i ≡ stranger_of w m) → IsJobs w j n ⊎ (j ≡ stranger_of w n) → m ≡ n
one_number w i j m n same (inl a) (inl b) =
    let one : a.endpoint ≡ b.endpoint = unsome a.endpoint b.endpoint (sym a.at ∙ (ap (slice_get w.endpoints) same ∙ b.at)) in
    let id : a.id ≡ b.id = unsome a.id b.id (sym a.link ∙ (ap (λ (x : Endpoint). x.link) one ∙ b.link)) in
    sym a.number ∙ (ap (λ (x : SessionId). x.number) id ∙ b.number)
one_number w i j m n same (inl a) (inr b) = let low = slice_get_within w.endpoints i a.endpoint a.at in let far : j ≡ length w.endpoints + n = b in absurd (omega (arith, low, far, same))
one_number w i j m n same (inr a) (inl b) = let low = slice_get_within w.endpoints j b.endpoint b.at in let far : i ≡ length w.endpoints + m = a in absurd (omega (arith, low, far, same))
one_number w i j m n same (inr a) (inr b) = let first : i ≡ length w.endpoints + m = a in let second : j ≡ length w.endpoints + n = b in omega (arith, first, second, same)

pub one_holder : OneHolderAmong
one_holder t w m n place h a b =
    let x = holder_of t w m place h.refines a (whose_is w m) in
    let y = holder_of t w n place h.refines b (whose_is w n) in
    one_number w x.i y.i m n (unsome x.i y.i (sym x.holds ∙ y.holds)) x.who y.who

-- A request to a device word that leaves the word.
use Rattle.std.proofs.Common.{inl, ◌≡◌, ◌≢◌, ◌∙◌, ℕ, Bool, true, false, Option, Some, None, option_map, refl, sym, ap, subst, eqb, eqb-true, cond, length, slice_get}
use Rattle.std.proofs.lemmas.Bool.{eqb-false}
use Rattle.sane_fixed.specs.declared.device_info.DeviceInfo.{DeviceInfo}
use Rattle.device_api.specs.State.{DeviceState}
use Rattle.dispatch.specs.declared.table.place.Slot.TheVariants.{Out}
use Rattle.dispatch.specs.declared.table.place.Lease.{Lease}
use Rattle.dispatch.specs.Table.{Table, IsLeaseOf}
use Rattle.saned_requests.specs.declared.session.AwaitedAuthorization.{AwaitedAuthorization}
use Rattle.saned_requests.specs.Holding.{held_by}
use Rattle.saned_requests.specs.RequestAnswers.{RequestContext}
use Rattle.system_model.specs.AbstractMessages.{Challenge}
use Rattle.system_model.specs.Devices.{Make}
use Rattle.system_model.specs.AbstractDevices.{AbstractDevice}
use Rattle.system_model.specs.SystemStates.{with_entry}
use Rattle.system_model.specs.AbstractSessions.{AbstractSession}
use Rattle.daemon_refines.specs.ContextRefinement.{abstract_device, IsMade, TransferRefines, IsAwaited, LeaseRefines, TableRefines, ContextRefines, FrameIsRead}
use Rattle.daemon_refines.proofs.Changes.{Held, changed, shown_as}

put_by_test : {X : Type 0} (f : ℕ → X) (k : ℕ) (x : X) (j : ℕ) (b : Bool) → eqb j k ≡ b → j ≢ k → with_entry f k x j ≡ f j
put_by_test f k x j true e n = absurd (n (eqb-true j k e))
put_by_test f k x j false e n = ap (λ (b : Bool). cond b x (f j)) e

pub put_elsewhere : {X : Type 0} (f : ℕ → X) (k : ℕ) (x : X) (j : ℕ) → j ≢ k → with_entry f k x j ≡ f j
put_elsewhere f k x j n = put_by_test f k x j (eqb j k) refl n

own_by_test : (k : ℕ) (b : Bool) → eqb k k ≡ b → eqb k k ≡ true
own_by_test k true e = e
own_by_test k false e = absurd (eqb-false k k e refl)

pub own : (k : ℕ) → eqb k k ≡ true
own k = own_by_test k (eqb k k) refl

pub put_there : {X : Type 0} (f : ℕ → X) (k : ℕ) (x : X) → with_entry f k x k ≡ x
put_there f k x = ap (λ (b : Bool). cond b x (f k)) (own k)

pub nothing_awaited : (held : Held) (registry : Table) (table : ℕ → AbstractDevice) (a : Option AwaitedAuthorization) (sent : Option (Challenge × ℕ)) → a ≡ None → sent ≡ None → IsAwaited held registry table a sent
nothing_awaited held registry table None sent e h = h
nothing_awaited held registry table (Some a) sent e h = absurd (let clash : Some a ≡ None = e in cc)

pub unsome : {X : Type 0} (a b : X) → Some a ≡ Some b → a ≡ b
unsome a b e = cc

abbrev pub place_in : Option (Lease DeviceState) → Option ℕ
place_in h = option_map (λ (n : Lease DeviceState). n.place) h

place_same : (old new : Held) (w : ℕ) (l m : Lease DeviceState) → held_by old w ≡ Some l → held_by new w ≡ Some m → m.place ≡ l.place → ((v : ℕ) → v ≢ w → held_by new v ≡ held_by old v) →
    (v : ℕ) (b : Bool) → eqb v w ≡ b → place_in (held_by old v) ≡ place_in (held_by new v)
place_same old new w l m was is place others v true e =
    let here : v ≡ w = eqb-true v w e in
    ap (λ (x : ℕ). place_in (held_by old x)) here ∙ ap place_in was ∙ ap (λ (p : ℕ). Some p) (sym place) ∙ sym (ap (λ (x : ℕ). place_in (held_by new x)) here ∙ ap place_in is)
place_same old new w l m was is place others v false e = ap place_in (sym (others v (eqb-false v w e)))

-- what stands at a device word that keeps its place
pub record Stays (i : ℕ) (make : ℕ → Make) (d : RequestContext) (w : ℕ) (l : Lease DeviceState) (new : RequestContext) (dev : AbstractDevice) : Type 0 where
  pub lease : Lease DeviceState
  pub registry : new.registry ≡ d.registry
  pub four : length new.session.held ≡ length d.session.held
  pub others : (v : ℕ) → v ≢ w → held_by new.session.held v ≡ held_by d.session.held v
  pub is : held_by new.session.held w ≡ Some lease
  pub place : lease.place ≡ l.place
  pub info : lease.device.info ≡ l.device.info
  pub device : dev ≡ abstract_device (Some i) lease.device
  pub made : IsMade (make l.place) lease.device

-- and its session
pub record StaysIn (d : RequestContext) (s : AbstractSession) (new : RequestContext) (u : AbstractSession) : Type 0 where
  pub awaited : new.session.awaited ≡ None
  pub words : (v : ℕ) → u.words v ≡ s.words v
  pub transfer : TransferRefines new.session.transfer u.transfer u.framed
  pub frame : FrameIsRead new.session.transfer new.session.held
  pub sent : u.awaited ≡ None

-- the lease of a device in the same place
moved_lease : (old new : Table) (l m : Lease DeviceState) → new ≡ old → m.place ≡ l.place → m.device.info ≡ l.device.info → IsLeaseOf l old → IsLeaseOf m new
moved_lease old new l m same place info own =
    record {
      place = own.place;
      at = ap (λ (t : Table). slice_get t m.place) same ∙ ap (slice_get old) place ∙ own.at;
      out = own.out;
      name = ap (λ (x : DeviceInfo). x.name) info ∙ own.name;
    }

-- the word has a device in the same place behind it
pub moved_words : (i : ℕ) (make : ℕ → Make) (d : RequestContext) (table : ℕ → AbstractDevice) (s : AbstractSession) (w : ℕ) (l : Lease DeviceState) → ContextRefines i make d table s → held_by d.session.held w ≡ Some l →
    (new : RequestContext) (dev : AbstractDevice) → Stays i make d w l new dev → (v : ℕ) → s.words v ≡ place_in (held_by new.session.held v)
moved_words i make d table s w l old stands new dev c v = old.words v ∙ place_same d.session.held new.session.held w l c.lease stands c.is c.place c.others v (eqb v w) refl

pub moved_table : (i : ℕ) (make : ℕ → Make) (d : RequestContext) (table : ℕ → AbstractDevice) (s : AbstractSession) (w : ℕ) (l : Lease DeviceState) → ContextRefines i make d table s → held_by d.session.held w ≡ Some l →
    (new : RequestContext) (dev : AbstractDevice) → Stays i make d w l new dev → TableRefines i make new.session.held new.registry (with_entry table l.place dev)
moved_table i make d table s w l old stands new dev c =
    let shown = old.devices.leases w l stands in
    let m = c.lease in
    let there : with_entry table l.place dev l.place ≡ abstract_device (Some i) m.device = put_there table l.place dev ∙ c.device in
    let lease : IsLeaseOf m new.registry = moved_lease d.registry new.registry l m c.registry c.place c.info shown.own in
    let at : slice_get new.registry l.place ≡ Some lease.place = ap (slice_get new.registry) (sym c.place) ∙ lease.at in
    changed i make d.session.held d.registry table w l.place new.session.held new.registry (with_entry table l.place dev) old.devices (record {
      others = c.others;
      alone = λ v n away e same_place. away (old.devices.apart v w n l e stands same_place);
      was = λ n e. ap (λ (x : Lease DeviceState). x.place) (unsome n l (sym e ∙ stands));
      tables = λ k away. put_elsewhere table l.place dev k away;
      slots = λ k away. ap (λ (t : Table). slice_get t k) c.registry;
      now = λ n e. subst (λ (x : Lease DeviceState). (x.place ≡ l.place) × LeaseRefines i make new.registry (with_entry table l.place dev) x) (unsome m n (sym c.is ∙ e)) (
        c.place,
        record {
          device = ap (with_entry table l.place dev) c.place ∙ there;
          made = subst (λ (k : ℕ). IsMade (make k) m.device) (sym c.place) c.made;
          own = lease;
        },
      );
      here = shown_as i (make l.place) new.session.held l.place (with_entry table l.place dev l.place) (slice_get new.registry l.place) lease.place Out at lease.out
          (ap (λ (x : AbstractDevice). x.listed) there, inl (record { word = w; lease = m; stands = c.is; place = c.place }));
    })

pub moved : (i : ℕ) (make : ℕ → Make) (d : RequestContext) (table : ℕ → AbstractDevice) (s : AbstractSession) (w : ℕ) (l : Lease DeviceState) → ContextRefines i make d table s → held_by d.session.held w ≡ Some l →
    (new : RequestContext) (dev : AbstractDevice) (u : AbstractSession) → Stays i make d w l new dev → StaysIn d s new u → ContextRefines i make new (with_entry table l.place dev) u
moved i make d table s w l old stands new dev u c h =
    record {
      words = λ v. h.words v ∙ moved_words i make d table s w l old stands new dev c v;
      four = c.four ∙ old.four;
      transfer = h.transfer;
      awaited = nothing_awaited new.session.held new.registry (with_entry table l.place dev) new.session.awaited u.awaited h.awaited h.sent;
      frame = h.frame;
      devices = moved_table i make d table s w l old stands new dev c;
    }

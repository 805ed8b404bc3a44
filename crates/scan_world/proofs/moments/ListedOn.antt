-- What is listed changes only where a device is taken out.
use Rattle.std.specs.Prelude.{eqb, if◌then◌else◌, length, map, not, slice_get, ◌≤◌}
use Rattle.std.specs.List.{list_any}
use Rattle.std.proofs.Common.{◌≡◌, ◌≢◌, ◌∙◌, ℕ, zero, suc, List, [], ◌∷◌, ◌⊎◌, inl, inr, Bool, true, false, Option, Some, None, refl, sym, ap, subst, arith, eqb-true}
use Rattle.page_picture.specs.Source.{SourceState}
use Rattle.page_sources.specs.SourceView.{source_state}
use Rattle.sane_fixed.specs.declared.device_info.DeviceInfo.{DeviceInfo}
use Rattle.device_api.specs.State.{DeviceState}
use Rattle.dispatch.specs.declared.table.place.Lease.{Lease}
use Rattle.dispatch.specs.declared.table.place.Place.{Place}
use Rattle.dispatch.specs.declared.table.place.Slot.{Slot}
use Rattle.dispatch.specs.declared.table.place.Slot.TheVariants.{In as Lies, Out, Gone}
use Rattle.dispatch.specs.Table.{Table, find_name, is_gone, listed_infos, loaded_at, loaded_slot, table_after_load, with_loaded}
use Rattle.saned_core.specs.DaemonStates.{Core}
use Rattle.saned_core.specs.Loading.{core_after_load, holds, on_first, slot_with_page}
use Rattle.scan_job.specs.declared.job.Job.{Job}
use Rattle.system_model.specs.AbstractDevices.{AbstractDevice}
use Rattle.system_model.specs.Actions.{Action, device_after}
use Rattle.system_model.specs.Devices.{Make}
use Rattle.system_model.specs.SystemStates.{SystemState, device_for, listed_devices, make_for, wanted_place}
use Rattle.system_model.specs.Transitions.{By, IsEnabled, IsHistory, Loads, Transition, Unplugs, Uses, after_all, after_transition}
use Rattle.system_model.proofs.Treats.{Treats, treats}
use Rattle.daemon_refines.specs.ContextRefinement.{PlaceRefines, SlotRefines}
use Rattle.event_world.specs.declared.endpoint.Endpoint.{Endpoint}
use Rattle.event_world.specs.declared.event.Event.{Event}
use Rattle.event_world.specs.declared.event.Event.TheVariants.{Connect, ToDaemon, ToClient, DataConnect, DataTurn, DataToClient, LoseControl, LoseImage, Cancel, Load, Unplug}
use Rattle.event_world.specs.declared.event.JobEvent.{JobEvent}
use Rattle.event_world.specs.Worlds.{AtEndpoint, Leads, WorldCore}
use Rattle.world_refines.specs.GhostStates.{Ghost}
use Rattle.world_refines.specs.MainTheorem.{EventsFollow}
use Rattle.world_refines.specs.WorldRefinement.{WorldRefines, info_at}
use Rattle.scan_world.specs.Calls.{ListStays}
use Rattle.scan_world.specs.Histories.{History, LedTo}
use Rattle.scan_world.specs.Laws.{Below}
use Rattle.scan_world.proofs.Scanned.{kept_by}
use Rattle.scan_world.proofs.Traced.{AreOf, StepOf, no_use}
use Rattle.scan_world.proofs.moments.HeldOn.{Moved, moved}
use Rattle.scan_world.proofs.moments.Holder.{no_endpoints}
use Rattle.scan_world.proofs.moments.Holding.{apart, there}
use Rattle.scan_world.proofs.moments.Stands.{table_of}

-- ---- a page that is laid in

gone_same : (slot : Slot DeviceState) (source : SourceState) → is_gone (loaded_slot slot source) ≡ is_gone slot
gone_same (Lies s) source = refl
gone_same Out source = refl
gone_same Gone source = refl

loaded_same : (ps : Table) (k : ℕ) (source : SourceState) → listed_infos (with_loaded ps k source) ≡ listed_infos ps
unfolding with_loaded
loaded_same [] k source = refl
loaded_same (p ∷ ps) zero source = ap (λ (b : Bool). if b then listed_infos ps else p.info ∷ listed_infos ps) (gone_same p.slot source)
loaded_same (p ∷ ps) (suc k) source = ap (λ (rest : List DeviceInfo). if is_gone p.slot then rest else p.info ∷ rest) (loaded_same ps k source)

loaded_at_same : (t : Table) (o : Option ℕ) (source : SourceState) → listed_infos (loaded_at t o source) ≡ listed_infos t
loaded_at_same t None source = refl
loaded_at_same t (Some k) source = loaded_same t k source

table_same : (t : Table) (name : List ℕ) (source : SourceState) → listed_infos (table_after_load t name source) ≡ listed_infos t
unfolding table_after_load
table_same t name source = loaded_at_same t (find_name name t) source

core_same : (d : Core) (name : List ℕ) (source : SourceState) (b : Bool) → listed_infos (if b then record d { slots = on_first (holds name) (slot_with_page name source) d.slots } else record d { registry = table_after_load d.registry name source }).registry ≡ listed_infos d.registry
core_same d name source true = refl
core_same d name source false = table_same d.registry name source

laid_same : (w v : WorldCore) (name : List ℕ) (source : SourceState) → v ≡ record w { daemon = core_after_load w.daemon name source } → listed_infos v.daemon.registry ≡ listed_infos w.daemon.registry
laid_same w v name source led = ap (λ (y : WorldCore). listed_infos y.daemon.registry) led ∙ core_same w.daemon name source (list_any (holds name) w.daemon.slots)

-- ---- by the model

treated : (i : ℕ) (k : Make) (dev new : AbstractDevice) → Treats i k dev new → new.listed ≡ dev.listed
treated i k dev new (inl same) = ap (λ (x : AbstractDevice). x.listed) same
treated i k dev new (inr (inl taken)) = ap (λ (x : AbstractDevice). x.listed) taken.1
treated i k dev new (inr (inr (inl used))) = ap (λ (x : AbstractDevice). x.listed) used.is
treated i k dev new (inr (inr (inr given))) = ap (λ (x : AbstractDevice). x.listed) given.1

-- no step of the event takes a device out
abbrev TakesNone : List DeviceInfo → Event → Type 0
TakesNone infos e = (d : ℕ) → StepOf infos e (Unplugs d) → ⊥

step_listed : (infos : List DeviceInfo) (e : Event) (s : SystemState) (x : Transition) (k : ℕ) → StepOf infos e x → TakesNone infos e → IsEnabled s x → ((after_transition s x).device k).listed ≡ (s.device k).listed
step_listed infos e s (By j x) k of none may = by (eqb k (wanted_place s j)) refl
  where
    by : (b : Bool) → eqb k (wanted_place s j) ≡ b → ((after_transition s (By j x)).device k).listed ≡ (s.device k).listed
    by false e = ap (λ (dev : AbstractDevice). dev.listed) (apart s j x k e)
    by true e = ap (λ (dev : AbstractDevice). dev.listed) (there s j x k e)
        ∙ (treated j (make_for s j) (device_for s j) (device_after j (make_for s j) (listed_devices s) (s.job j) (device_for s j) x) (treats j (make_for s j) (listed_devices s) (s.job j) (device_for s j) x may)
        ∙ ap (λ (n : ℕ). (s.device n).listed) (sym (eqb-true k (wanted_place s j) e)))
step_listed infos e s (Loads d page) k of none may = by (eqb k d) refl
  where
    by : (b : Bool) → eqb k d ≡ b → ((after_transition s (Loads d page)).device k).listed ≡ (s.device k).listed
    by false e = rw e refl
    by true e = rw e (ap (λ (n : ℕ). (s.device n).listed) (sym (eqb-true k d e)))
step_listed infos e s (Unplugs d) k of none may = absurd (none d of)
step_listed infos e s (Uses u d shown left) k of none may = absurd (no_use infos e u d shown left of)

steps_listed : (infos : List DeviceInfo) (e : Event) (xs : List Transition) (s : SystemState) (k : ℕ) → AreOf infos e xs → TakesNone infos e → IsHistory s xs → ((after_all s xs).device k).listed ≡ (s.device k).listed
steps_listed infos e [] s k of none may = refl
steps_listed infos e (x ∷ xs) s k of none may = steps_listed infos e xs (after_transition s x) k of.1 none may.1 ∙ step_listed infos e s x k of.0 none may.0

-- ---- in the tables

gone_is : (i : ℕ) (make : Make) (held : List (Option (Lease DeviceState))) (k : ℕ) (dev : AbstractDevice) (name : List ℕ) (slot : Slot DeviceState) → SlotRefines i make held k dev name slot → is_gone slot ≡ not dev.listed
gone_is i make held k dev name (Lies s) r = sym (ap (λ (x : AbstractDevice). not x.listed) r.0)
gone_is i make held k dev name Out r = sym (ap not r.0)
gone_is i make held k dev name Gone r = sym (ap not r.0)

flag_at : (t : Ghost) (w : WorldCore) (k : ℕ) (p : Place DeviceState) → WorldRefines t w → slice_get w.daemon.registry k ≡ Some p → is_gone p.slot ≡ not (t.system.device k).listed
flag_at t w k p h at =
    let tab = table_of t w 0 (slice_get w.endpoints 0) refl h in
    gone_is 0 (t.system.make k) tab.0 k (t.system.device k) p.info.name p.slot (subst (λ (o : Option (Place DeviceState)). PlaceRefines 0 (t.system.make k) tab.0 k (t.system.device k) o) at (tab.1.places k))

pick_same : (b c : Bool) (x y : DeviceInfo) (xs ys : List DeviceInfo) → b ≡ c → x ≡ y → xs ≡ ys → (if b then xs else x ∷ xs) ≡ (if c then ys else y ∷ ys)
pick_same b c x y xs ys e f g = rw (e, f, g) refl

first_same : (p q : Place DeviceState) (ps qs : Table) → map info_at (p ∷ ps) ≡ map info_at (q ∷ qs) → p.info ≡ q.info
first_same p q ps qs e = cc

rest_same : (p q : Place DeviceState) (ps qs : Table) → map info_at (p ∷ ps) ≡ map info_at (q ∷ qs) → map info_at ps ≡ map info_at qs
rest_same p q ps qs e = cc

same_listing : (ps qs : Table) → map info_at ps ≡ map info_at qs → ((j : ℕ) (p q : Place DeviceState) → slice_get ps j ≡ Some p → slice_get qs j ≡ Some q → is_gone p.slot ≡ is_gone q.slot) → listed_infos ps ≡ listed_infos qs
same_listing [] [] e flags = refl
same_listing [] (q ∷ qs) e flags = absurd (let clash : [] ≡ map info_at (q ∷ qs) = e in cc)
same_listing (p ∷ ps) [] e flags = absurd (let clash : map info_at (p ∷ ps) ≡ [] = e in cc)
same_listing (p ∷ ps) (q ∷ qs) e flags =
    pick_same (is_gone p.slot) (is_gone q.slot) p.info q.info (listed_infos ps) (listed_infos qs) (flags 0 p q refl refl) (first_same p q ps qs e) (same_listing ps qs (rest_same p q ps qs e) (λ j x y at there. flags (suc j) x y at there))

same_listed : (t : Ghost) (e : Event) (w v : WorldCore) → WorldRefines t w → Moved t e w v → TakesNone t.infos e → listed_infos v.daemon.registry ≡ listed_infos w.daemon.registry
same_listed t e w v h m none = same_listing v.daemon.registry w.daemon.registry (sym m.stands.is_of.infos ∙ (m.infos ∙ h.is_of.infos)) (λ j p q at there.
    flag_at m.ghost_then v j p m.stands at
    ∙ (ap not (ap (λ (s : SystemState). (s.device j).listed) m.rules_are ∙ steps_listed t.infos e m.steps t.system j m.of none m.legal)
    ∙ sym (flag_at t w j q h there)))

stays : EventsFollow → (t : Ghost) (e : Event) (w v : WorldCore) → WorldRefines t w → Leads source_state e w v → ((name : List ℕ) → e ≢ Unplug name) → listed_infos v.daemon.registry ≡ listed_infos w.daemon.registry
stays follows t (Connect j) w v h leads none = same_listed t (Connect j) w v h (moved follows t (Connect j) w v h (tt, tt) (tt, tt) leads) (λ d of. of)
stays follows t (ToDaemon j n) w v h leads none = same_listed t (ToDaemon j n) w v h (moved follows t (ToDaemon j n) w v h (tt, tt) (tt, tt) leads) (λ d of. of)
stays follows t (ToClient j n) w v h leads none = same_listed t (ToClient j n) w v h (moved follows t (ToClient j n) w v h (tt, tt) (tt, tt) leads) (λ d of. of)
stays follows t (DataConnect j) w v h leads none = same_listed t (DataConnect j) w v h (moved follows t (DataConnect j) w v h (tt, tt) (tt, tt) leads) (λ d of. of)
stays follows t (DataTurn j) w v h leads none = same_listed t (DataTurn j) w v h (moved follows t (DataTurn j) w v h (tt, tt) (tt, tt) leads) (λ d of. of)
stays follows t (DataToClient j n) w v h leads none = same_listed t (DataToClient j n) w v h (moved follows t (DataToClient j n) w v h (tt, tt) (tt, tt) leads) (λ d of. of)
stays follows t (LoseControl j) w v h leads none = same_listed t (LoseControl j) w v h (moved follows t (LoseControl j) w v h (tt, tt) (tt, tt) leads) (λ d of. of)
stays follows t (LoseImage j) w v h leads none = same_listed t (LoseImage j) w v h (moved follows t (LoseImage j) w v h (tt, tt) (tt, tt) leads) (λ d of. of)
stays follows t (Cancel j) w v h leads none = same_listed t (Cancel j) w v h (moved follows t (Cancel j) w v h (tt, tt) (tt, tt) leads) (λ d of. of)
stays follows t (Load name source) w v h leads none = laid_same w v name (source_state source) leads
stays follows t (Unplug name) w v h leads none = absurd (none name refl)

-- where there is no job no event comes to one
nobody : (j : ℕ) (x : JobEvent) (w v : WorldCore) → w.endpoints ≡ [] → AtEndpoint w j x v → listed_infos v.daemon.registry ≡ listed_infos w.daemon.registry
nobody j x w v none a = ap (λ (y : WorldCore). listed_infos y.daemon.registry) (a.beyond (subst (λ (ps : List Endpoint). length ps ≤ j) (sym none) (omega arith)))

stays_empty : (e : Event) (w v : WorldCore) → w.endpoints ≡ [] → Leads source_state e w v → ((name : List ℕ) → e ≢ Unplug name) → listed_infos v.daemon.registry ≡ listed_infos w.daemon.registry
stays_empty (Connect j) w v empty leads none = nobody j _ w v empty leads
stays_empty (ToDaemon j n) w v empty leads none = nobody j _ w v empty leads
stays_empty (ToClient j n) w v empty leads none = nobody j _ w v empty leads
stays_empty (DataConnect j) w v empty leads none = nobody j _ w v empty leads
stays_empty (DataTurn j) w v empty leads none = nobody j _ w v empty leads
stays_empty (DataToClient j n) w v empty leads none = nobody j _ w v empty leads
stays_empty (LoseControl j) w v empty leads none = nobody j _ w v empty leads
stays_empty (LoseImage j) w v empty leads none = nobody j _ w v empty leads
stays_empty (Cancel j) w v empty leads none = nobody j _ w v empty leads
stays_empty (Load name source) w v empty leads none = laid_same w v name (source_state source) leads
stays_empty (Unplug name) w v empty leads none = absurd (none name refl)

by_jobs : Below → (h : History) (e : Event) (w v : WorldCore) (l : LedTo h w) → Leads source_state e w v → (jobs : List Job) → h.jobs ≡ jobs → ListStays e w v
by_jobs below h e w v l leads [] is = stays_empty e w v (no_endpoints h w l is) leads
by_jobs below h e w v l leads (job ∷ jobs) is =
    let k = kept_by below.kept h w job l in
    stays below.follows k.run.ghost_then e w v k.run.stands leads

pub list_stays : Below → (h : History) (e : Event) (w v : WorldCore) → LedTo h w → Leads source_state e w v → ListStays e w v
list_stays below h e w v l leads = by_jobs below h e w v l leads h.jobs refl

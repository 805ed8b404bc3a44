-- Where no event took a device out, all are listed, once, in their order.
use Rattle.std.specs.Prelude.{if◌then◌else◌, map, option_map, slice_get}
use Rattle.std.proofs.Common.{◌≡◌, ◌∙◌, ℕ, zero, suc, List, [], ◌∷◌, Bool, true, false, Option, Some, None, refl, sym, ap, subst}
use Rattle.sane_fixed.specs.declared.device_info.DeviceInfo.{DeviceInfo}
use Rattle.device_api.specs.State.{DeviceState}
use Rattle.dispatch.specs.Table.{is_gone, listed_infos}
use Rattle.dispatch.specs.declared.table.place.Lease.{Lease}
use Rattle.dispatch.specs.declared.table.place.Place.{Place}
use Rattle.dispatch.specs.declared.table.place.Slot.{Slot}
use Rattle.dispatch.specs.declared.table.place.Slot.TheVariants.{In as Lies, Out, Gone}
use Rattle.daemon_refines.specs.ContextRefinement.{PlaceRefines, SlotRefines}
use Rattle.daemon_refines.specs.Cores.{fresh_device}
use Rattle.scan_job.specs.declared.job.Job.{Job}
use Rattle.system_model.specs.AbstractDevices.{AbstractDevice}
use Rattle.system_model.specs.Devices.{Make}
use Rattle.system_model.specs.Marks.{device_view}
use Rattle.system_model.specs.MoveRuns.{all_marks}
use Rattle.system_model.specs.SystemStates.{SystemState}
use Rattle.system_model.specs.Transitions.{after_all}
use Rattle.event_world.specs.declared.event.Event.TheVariants.{Unplug}
use Rattle.event_world.specs.Worlds.{WorldCore}
use Rattle.world_refines.specs.GhostStates.{name_at}
use Rattle.world_refines.specs.WorldRefinement.{info_at}
use Rattle.world_refines.proofs.job_events.Constant.{Fixed}
use Rattle.scan_world.specs.Clear.{AllAreListed}
use Rattle.scan_world.specs.Histories.{History, LedTo}
use Rattle.scan_world.specs.Laws.{Below}
use Rattle.strangers.specs.Together.JointEvent.{OfJobs}
use Rattle.scan_world.proofs.Joint.{all_fixed_by, each_of_any}
use Rattle.scan_world.proofs.Lists.{In, contains_in}
use Rattle.scan_world.proofs.OfJobs.{all_of_jobs}
use Rattle.scan_world.proofs.Pages.{all_of_one, name_there}
use Rattle.scan_world.proofs.Scanned.{at_first, infos_of, kept_by, untouched_at_first}
use Rattle.scan_world.proofs.Sources.{named_at}
use Rattle.scan_world.proofs.Unhindered.{all_stay, listed_stays}
use Rattle.scan_world.proofs.moments.Stands.{table_of}

-- by the model
listed_at : (below : Below) (h : History) (w : WorldCore) (job : Job) (l : LedTo h w) (d : ℕ) (device : DeviceState) → slice_get h.devices d ≡ Some device → (In (OfJobs (Unplug device.info.name)) h.events → ⊥) → ((kept_by below.kept h w job l).run.ghost_then.system.device d).listed ≡ true
listed_at below h w job l d device at none =
    let k = kept_by below.kept h w job l in
    let t = at_first h w job l in
    let u = k.run.ghost_then in
    let steps = k.run.steps in
    let is : name_at (infos_of h) d ≡ Some device.info.name = name_there h.devices d device at in
    let of = all_of_one h steps (each_of_any h.events t steps u k.run.comes) (all_of_jobs h.events t steps u (untouched_at_first h w job l) k.run.comes) in
    let first : (t.system.device d).listed ≡ true = ap (λ (o : Option DeviceState). (fresh_device o).listed) at in
    let on : ((after_all t.system steps).device d).listed ≡ true = listed_stays (all_marks d t.system steps) (device_view (t.system.make d) (t.system.device d)) (device_view (t.system.make d) ((after_all t.system steps).device d)) (k.run.marks d) (all_stay h d device.info.name steps t.system is none of) first in
    subst (λ (s : SystemState). (s.device d).listed ≡ true) (sym k.run.rules_are) on

-- and so in the table
not_gone : (i : ℕ) (make : Make) (held : List (Option (Lease DeviceState))) (k : ℕ) (dev : AbstractDevice) (name : List ℕ) (slot : Slot DeviceState) → SlotRefines i make held k dev name slot → dev.listed ≡ true → is_gone slot ≡ false
not_gone i make held k dev name (Lies s) r on = refl
not_gone i make held k dev name Out r on = refl
not_gone i make held k dev name Gone r on = absurd (let clash : true ≡ false = sym on ∙ r.0 in cc)

pick_if : (b : Bool) (rest : List DeviceInfo) (info : DeviceInfo) → b ≡ false → (if b then rest else info ∷ rest) ≡ info ∷ rest
pick_if false rest info e = refl
pick_if true rest info e = absurd (let clash : true ≡ false = e in cc)

all_listed : (ps : List (Place DeviceState)) → ((k : ℕ) (p : Place DeviceState) → slice_get ps k ≡ Some p → is_gone p.slot ≡ false) → listed_infos ps ≡ map info_at ps
all_listed [] here = refl
all_listed (p ∷ ps) here = pick_if (is_gone p.slot) (listed_infos ps) p.info (here 0 p refl) ∙ ap (λ (rest : List DeviceInfo). p.info ∷ rest) (all_listed ps (λ k q at. here (suc k) q at))

mapped_at : (ps : List (Place DeviceState)) (k : ℕ) (p : Place DeviceState) → slice_get ps k ≡ Some p → name_at (map info_at ps) k ≡ Some p.info.name
mapped_at [] k p e = absurd (let clash : None ≡ Some p = e in cc)
mapped_at (q ∷ ps) zero p e = ap (option_map (λ (x : Place DeviceState). x.info.name)) e
mapped_at (q ∷ ps) (suc k) p e = mapped_at ps k p e

pub all_are_listed : Below → AllAreListed
all_are_listed below h w i job at none =
    let l = at.led in
    let k = kept_by below.kept h w job l in
    let t = at_first h w job l in
    let u = k.run.ghost_then in
    let infos : u.infos ≡ infos_of h = ap (λ (f : Fixed). f.1) (all_fixed_by h.events t k.run.steps u k.run.comes) in
    let table = table_of u w 0 (slice_get w.endpoints 0) refl k.run.stands in
    let here : (n : ℕ) (p : Place DeviceState) → slice_get w.daemon.registry n ≡ Some p → is_gone p.slot ≡ false = λ n p is. (
    let name : name_at (infos_of h) n ≡ Some p.info.name = ap (λ (x : List DeviceInfo). name_at x n) (sym infos ∙ k.run.stands.is_of.infos) ∙ mapped_at w.daemon.registry n p is in
    let d = named_at h.devices n p.info.name name in
    let on = listed_at below h w job l n d.0 d.1 (λ among. none d.0.info.name (contains_in h.events (OfJobs (Unplug d.0.info.name)) among)) in
    not_gone 0 (u.system.make n) table.0 n (u.system.device n) p.info.name p.slot (subst (λ (o : Option (Place DeviceState)). PlaceRefines 0 (u.system.make n) table.0 n (u.system.device n) o) is (table.1.places n)) on) in
    all_listed w.daemon.registry here ∙ (sym k.run.stands.is_of.infos ∙ infos)

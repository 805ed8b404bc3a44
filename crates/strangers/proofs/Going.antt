-- What comes to a job among strangers, and what a stranger does among jobs.
use Rattle.std.proofs.Common.{◌≡◌, ◌≢◌, ◌∙◌, inl, ℕ, zero, suc, ◌≤◌, ◌<◌, List, [], ◌∷◌, false, Option, Some, None, refl, sym, ap, subst, length, slice_get, arith}
use Rattle.std.proofs.lemmas.Option.{slice_get_past}
use Rattle.page_picture.specs.Source.{SourceState}
use Rattle.page_sources.specs.declared.kinds.Source.{Source}
use Rattle.device_api.specs.State.{DeviceState}
use Rattle.saned_requests.specs.declared.session.Session.{Session as RequestSession}
use Rattle.saned_core.specs.declared.session_slot.SessionSlot.{SessionSlot}
use Rattle.saned_core.specs.DaemonLimits.{HaveOwnNumbers, IsFree}
use Rattle.saned_core.specs.DaemonStates.{Core, session_of}
use Rattle.saned_serve.specs.SessionActions.{ActsOn, SessionAction}
use Rattle.system_model.specs.AbstractDevices.{AbstractDevice}
use Rattle.system_model.specs.SystemStates.{JobState, SystemState, device_for}
use Rattle.system_model.specs.Transitions.{HasNoJob, IsUnderWay, after_all}
use Rattle.system_model.specs.Variant.{control_variant}
use Rattle.event_world.specs.declared.endpoint.Endpoint.{Endpoint}
use Rattle.event_world.specs.declared.event.Event.{Event}
use Rattle.event_world.specs.declared.event.Event.TheVariants as events
use Rattle.event_world.specs.declared.event.JobEvent.{JobEvent}
use Rattle.event_world.specs.declared.event.JobEvent.TheVariants.{Connect, ToDaemon, ToClient, DataConnect, DataTurn, DataToClient, LoseControl, LoseImage, Cancel}
use Rattle.event_world.specs.Worlds.{AtEndpoint, Leads, WorldCore}
use Rattle.world_refines.specs.Costs.{Pays, counted_at}
use Rattle.world_refines.specs.GhostStates.{Ghost, job_state, wires}
use Rattle.world_refines.specs.WorldRefinement.{HaveDifferentNumbers, IsNobodys, WorldRefines, stranger_of}
use Rattle.world_refines.proofs.job_events.Constant.{Fixed, stays_fixed}
use Rattle.world_refines.proofs.job_events.Followed.{one_event}
use Rattle.world_refines.proofs.job_events.LeftAlone.{at_left, event_limits}
use Rattle.world_refines.proofs.state.Strangers.{far_from}
use Rattle.strangers.specs.Among.{ActLeaves, MayHaveStrangers}
use Rattle.strangers.specs.LeavingJobs.{ghost_behind, ghost_with, with_devices}
use Rattle.strangers.specs.Together.{JobsGoOn, LaysNoPage, StrangerIsLeft, StrangersKeepWorlds, WorldStays}
use Rattle.strangers.proofs.Acting.{at_daemon, below, by_session, same_world}
use Rattle.strangers.proofs.Coming.{may_come}
use Rattle.strangers.proofs.Leaving.{AllLeft}
use Rattle.strangers.proofs.Stepping.{all_his, all_legal, jobs_stay, leads_there, moves_stay, none_past, nowhere_still, uses_below}
use Rattle.strangers.proofs.Steadying.{act_steady}

-- ---- a stranger's act

abbrev Slots : Type 0
Slots = List (Option (SessionSlot DeviceState))

free_at : (n : ℕ) (slots : Slots) (k : ℕ) (slot : SessionSlot DeviceState) → IsFree n slots → slice_get slots k ≡ Some (Some slot) → slot.number ≢ n
free_at n [] k slot free at = absurd (let clash : None ≡ Some (Some slot) = at in cc)
free_at n (None ∷ slots) zero slot free at = absurd (let clash : Some None ≡ Some (Some slot) = at in cc)
free_at n (Some own ∷ slots) zero slot free at = let same : own ≡ slot = (let both : Some (Some own) ≡ Some (Some slot) = at in cc) in subst (λ (x : SessionSlot DeviceState). x.number ≢ n) same free.0
free_at n (x ∷ slots) (suc k) slot free at = free_at n slots k slot free.1 at

-- each has its own number, so no two have one
different : (opened : ℕ) (slots : Slots) → HaveOwnNumbers opened slots → HaveDifferentNumbers slots
different opened [] own j k a b at_j at_k same = absurd (let clash : None ≡ Some (Some a) = at_j in cc)
different opened (None ∷ slots) own zero k a b at_j at_k same = absurd (let clash : Some None ≡ Some (Some a) = at_j in cc)
different opened (None ∷ slots) own (suc j) zero a b at_j at_k same = absurd (let clash : Some None ≡ Some (Some b) = at_k in cc)
different opened (None ∷ slots) own (suc j) (suc k) a b at_j at_k same = ap suc (different opened slots own j k a b at_j at_k same)
different opened (Some slot ∷ slots) own zero zero a b at_j at_k same = refl
different opened (Some slot ∷ slots) own zero (suc k) a b at_j at_k same =
    let one : slot ≡ a = (let both : Some (Some slot) ≡ Some (Some a) = at_j in cc) in
    absurd (free_at slot.number slots k b own.1 at_k (sym same ∙ ap (λ (x : SessionSlot DeviceState). x.number) (sym one)))
different opened (Some slot ∷ slots) own (suc j) zero a b at_j at_k same =
    let one : slot ≡ b = (let both : Some (Some slot) ≡ Some (Some b) = at_k in cc) in
    absurd (free_at slot.number slots j a own.1 at_j (same ∙ ap (λ (x : SessionSlot DeviceState). x.number) (sym one)))
different opened (Some slot ∷ slots) own (suc j) (suc k) a b at_j at_k same = ap suc (different opened slots own.2 j k a b at_j at_k same)

-- past the last place nothing is
beyond_all : (t : Ghost) (w : WorldCore) (n : ℕ) (device : ℕ → AbstractDevice) → WorldRefines t w → IsNobodys w n → AllLeft (stranger_of w n) t.system.make t.system.device device → (k : ℕ) → length w.daemon.registry ≤ k → device k ≡ t.system.device k
beyond_all t w n device h nobodys left k high = by (session_of w.daemon n) refl
  where
    by : (o : Option (RequestSession DeviceState)) → session_of w.daemon n ≡ o → device k ≡ t.system.device k
    by None is =
        let shows = (h.strangers n).rests (inl is) in
        none_past (stranger_of w n) k (t.system.make k) [] (t.system.device k) (device k) (slice_get w.daemon.registry k) (slice_get_past w.daemon.registry k high) (shows.places k) (left k)
    by (Some session) is =
        let sits = ((h.strangers n).sits session is nobodys).1 in
        none_past (stranger_of w n) k (t.system.make k) sits.session.held (t.system.device k) (device k) (slice_get w.daemon.registry k) (slice_get_past w.daemon.registry k high) (sits.shows.devices.places k) (left k)

has_no_job : (t : Ghost) (w : WorldCore) (n : ℕ) → MayHaveStrangers t w → HasNoJob t.system (stranger_of w n)
has_no_job t w n h =
    let high : length w.endpoints ≤ stranger_of w n = omega arith in
    let b = h.refines.beyond (stranger_of w n) high in
    record { idle = b.stage; linked = b.linked; nowhere = h.nowhere (stranger_of w n) high }

stands_at : (t : Ghost) (w : WorldCore) (n : ℕ) (act : SessionAction) (e : Core) → MayHaveStrangers t w → ActsOn n w.daemon act e → (a : ActLeaves t w (at_daemon w e) n) → MayHaveStrangers (ghost_with a.device t) (at_daemon w e)
stands_at t w n act e h acts a =
    let s = act_steady n act w.daemon e acts in
    let r = h.refines in
    record {
      refines = record {
        sound = a.stands.jobs.sound;
        asks = a.stands.jobs.asks;
        shown = r.shown;
        is_of = record {
          count = r.is_of.count;
          users = r.is_of.users ∙ sym s.users;
          infos = r.is_of.infos ∙ sym s.infos;
          apart = r.is_of.apart;
          places = r.is_of.places;
          counts = r.is_of.counts;
        };
        endpoints = a.stands.jobs.endpoints;
        beyond = λ j high. let b = r.beyond j high in record { stage = b.stage; linked = b.linked; transfer = b.transfer; image = b.image };
        strangers = a.stands.strangers;
        own = r.own;
        links = a.stands.links;
        slots = below e.opened e.slots a.stands.limits.1;
        apart = different e.opened e.slots a.stands.limits.1;
        faithful = s.faithful r.faithful;
        begun = r.begun;
      };
      limits = a.stands.limits;
      nowhere = λ i high.
          let far = far_from (length w.endpoints) i high in
          subst (λ (x : ℕ). (device_for (ghost_with a.device t).system x).listed ≡ false) (sym far.1) (a.stands.nowhere far.0);
    }

stays_at : (t : Ghost) (w : WorldCore) (n : ℕ) (act : SessionAction) (e : Core) → MayHaveStrangers t w → IsNobodys w n → ActsOn n w.daemon act e → WorldStays t w (at_daemon w e) n
stays_at t w n act e h nobodys acts =
    let a = by_session t w n act e (session_of w.daemon n) (may_come t w h) nobodys refl acts in
    let i = stranger_of w n in
    let s = t.system in
    let many = length w.daemon.registry in
    let steps = uses_below i s.make s.device a.device a.uses many in
    let there : after_all s steps ≡ with_devices a.device s = leads_there i a.device many s a.uses (beyond_all t w n a.device h.refines nobodys a.uses) in
    record {
      steps = steps;
      uses = all_his i s.make s.device a.device a.uses many;
      legal = all_legal i s.make s.device a.device a.uses many s refl (has_no_job t w n h) (λ k low. refl);
      stands = subst (λ (x : SystemState). MayHaveStrangers (record t { system = x }) (at_daemon w e)) (sym there) (stands_at t w n act e h acts a);
      slots = a.slots;
      held = λ k j off is. ap (λ (x : SystemState). x.device k) there ∙ a.held k j off is;
    }

pub keeps_worlds : StrangersKeepWorlds
keeps_worlds t w v n act h a = subst (λ (x : WorldCore). WorldStays t w x n) (sym (same_world w v a.rest)) (stays_at t w n act v.daemon h a.nobodys a.acts)

-- and the moves that sufficed suffice
pub act_pays : (t : Ghost) (w v : WorldCore) (n : ℕ) → MayHaveStrangers t w → v.endpoints ≡ w.endpoints → (s : WorldStays t w v n) → Pays t w → Pays (ghost_behind s.steps t) v
act_pays t w v n h same s pays j endpoint at under =
    let there : slice_get w.endpoints j ≡ Some endpoint = ap (λ (ps : List Endpoint). slice_get ps j) (sym same) ∙ at in
    let jobs : (after_all t.system s.steps).job ≡ t.system.job = jobs_stay (stranger_of w n) t.system s.steps s.uses in
    let moves : control_variant (after_all t.system s.steps) j ≡ control_variant t.system j = moves_stay (stranger_of w n) j t.system s.steps h.refines.sound s.legal s.uses in
    let was : IsUnderWay (job_state t j).client.stage = subst (λ (f : ℕ → JobState). IsUnderWay (f j).client.stage) jobs under in
    let same_bytes : counted_at ((after_all t.system s.steps).job j).client.stage (wires t j) ≡ counted_at (job_state t j).client.stage (wires t j) = ap (λ (f : ℕ → JobState). counted_at (f j).client.stage (wires t j)) jobs in
    let paid = pays j endpoint there was in
    omega (arith, moves, same_bytes, paid)

-- ---- a job's event

left_at : (t : Ghost) (w v : WorldCore) (i : ℕ) (x : JobEvent) → WorldRefines t w → AtEndpoint w i x v → (n : ℕ) → n < w.daemon.opened → IsNobodys w n → StrangerIsLeft w v n
left_at t w v i x h at n low nobodys = let l = at_left t w v i n x h at nobodys low in record { nobodys = l.nobodys; slot = l.kept }

left_by : (source : Source → SourceState) (e : Event) (t : Ghost) (w v : WorldCore) → WorldRefines t w → Leads source e w v → LaysNoPage e → (n : ℕ) → n < w.daemon.opened → IsNobodys w n → StrangerIsLeft w v n
left_by source (events.Connect i) t w v h at own m low nobodys = left_at t w v i Connect h at m low nobodys
left_by source (events.ToDaemon i n) t w v h at own m low nobodys = left_at t w v i (ToDaemon n) h at m low nobodys
left_by source (events.ToClient i n) t w v h at own m low nobodys = left_at t w v i (ToClient n) h at m low nobodys
left_by source (events.DataConnect i) t w v h at own m low nobodys = left_at t w v i DataConnect h at m low nobodys
left_by source (events.DataTurn i) t w v h at own m low nobodys = left_at t w v i DataTurn h at m low nobodys
left_by source (events.DataToClient i n) t w v h at own m low nobodys = left_at t w v i (DataToClient n) h at m low nobodys
left_by source (events.LoseControl i) t w v h at own m low nobodys = left_at t w v i LoseControl h at m low nobodys
left_by source (events.LoseImage i) t w v h at own m low nobodys = left_at t w v i LoseImage h at m low nobodys
left_by source (events.Cancel i) t w v h at own m low nobodys = left_at t w v i Cancel h at m low nobodys
left_by source (events.Load name page) t w v h at own m low nobodys = absurd own
left_by source (events.Unplug name) t w v h at own m low nobodys = subst (λ (x : WorldCore). StrangerIsLeft w x m) (sym at) (record { nobodys = nobodys; slot = refl })

pub jobs_go : JobsGoOn
jobs_go source e t w v h loads fits leads =
    let b = one_event source e t w v h.refines loads fits leads in
    let u = b.ghost_then in
    let count : u.count ≡ t.count = ap (λ (f : Fixed). f.2) (stays_fixed source e t b.steps u b.comes) in
    let same : length v.endpoints ≡ length w.endpoints = sym b.stands.is_of.count ∙ (count ∙ h.refines.is_of.count) in
    record {
      steps = b.steps;
      ghost_then = u;
      comes = b.comes;
      legal = b.leads.legal;
      rules_are = b.leads.rules_are;
      stands = record {
        refines = b.stands;
        limits = event_limits source e w v leads h.limits;
        nowhere = λ i high.
            subst (λ (s : SystemState). (device_for s i).listed ≡ false) (sym b.leads.rules_are)
            (nowhere_still t.system b.steps i b.leads.legal (h.nowhere i (subst (λ (x : ℕ). x ≤ i) same high)));
      };
      strangers = left_by source e t w v h.refines leads;
      pays = b.pays;
    }

-- Two clients never hold one device, whatever led to the world.
use Rattle.std.specs.Prelude.{slice_get, length, ◌≤◌}
use Rattle.std.proofs.Common.{◌≡◌, ◌∙◌, ℕ, List, [], ◌∷◌, Some, None, refl, sym, ap, subst, arith}
use Rattle.page_sources.specs.SourceView.{source_state}
use Rattle.device_api.specs.State.{DeviceState}
use Rattle.scan_job.specs.declared.job.Job.{Job}
use Rattle.event_world.specs.declared.endpoint.Endpoint.{Endpoint}
use Rattle.event_world.specs.declared.event.Event.{Event}
use Rattle.event_world.specs.declared.event.Event.TheVariants.{Connect, ToDaemon, ToClient, DataConnect, DataTurn, DataToClient, LoseControl, LoseImage, Cancel, Load, Unplug}
use Rattle.event_world.specs.declared.event.JobEvent.{JobEvent}
use Rattle.event_world.specs.Worlds.{AreNew, AtEndpoint, Leads, WorldCore}
use Rattle.strangers.specs.Together.{AllIsKeptAmongStrangers, JointEvent, RunsAmong}
use Rattle.strangers.specs.Together.JointEvent.{OfJobs, OfStranger}
use Rattle.scan_world.specs.Histories.{History, LedTo}
use Rattle.scan_world.proofs.Scanned.{kept_by}
use Rattle.scan_world.specs.Calls.{OneHolder}
use Rattle.scan_world.specs.Sessions.{Has}
use Rattle.scan_world.proofs.moments.Stands.{one_has}

-- ---- a world of no jobs has no endpoints

nowhere : (i : ℕ) (x : JobEvent) (w u : WorldCore) → AtEndpoint w i x u → w.endpoints ≡ [] → u.endpoints ≡ []
nowhere i x w u a none = ap (λ (y : WorldCore). y.endpoints) (a.beyond (subst (λ (ps : List Endpoint). length ps ≤ i) (sym none) (omega arith))) ∙ none

empty_then : (e : Event) (w u : WorldCore) → Leads source_state e w u → w.endpoints ≡ [] → u.endpoints ≡ []
empty_then (Connect i) w u a none = nowhere i _ w u a none
empty_then (ToDaemon i n) w u a none = nowhere i _ w u a none
empty_then (ToClient i n) w u a none = nowhere i _ w u a none
empty_then (DataConnect i) w u a none = nowhere i _ w u a none
empty_then (DataTurn i) w u a none = nowhere i _ w u a none
empty_then (DataToClient i n) w u a none = nowhere i _ w u a none
empty_then (LoseControl i) w u a none = nowhere i _ w u a none
empty_then (LoseImage i) w u a none = nowhere i _ w u a none
empty_then (Cancel i) w u a none = nowhere i _ w u a none
empty_then (Load name source) w u a none = ap (λ (y : WorldCore). y.endpoints) a ∙ none
empty_then (Unplug name) w u a none = ap (λ (y : WorldCore). y.endpoints) a ∙ none

empty_all : (es : List JointEvent) (w v : WorldCore) → RunsAmong source_state es w v → w.endpoints ≡ [] → v.endpoints ≡ []
empty_all [] w v run none = ap (λ (y : WorldCore). y.endpoints) run ∙ none
empty_all (OfJobs e ∷ es) w v (u, leads, rest) none = empty_all es u v rest (empty_then e w u leads none)
empty_all (OfStranger a ∷ es) w v (u, acts, rest) none = empty_all es u v rest (acts.rest ∙ none)

none_new : (endpoints : List Endpoint) → AreNew [] endpoints → endpoints ≡ []
none_new [] new = refl
none_new (p ∷ endpoints) new = absurd new

pub no_endpoints : (h : History) (v : WorldCore) (l : LedTo h v) → h.jobs ≡ [] → v.endpoints ≡ []
no_endpoints h v l is = empty_all h.events l.first v l.runs (none_new l.first.endpoints (subst (λ (jobs : List Job). AreNew jobs l.first.endpoints) is l.endpoints))

-- ---- one holder

by_jobs : AllIsKeptAmongStrangers → (h : History) (v : WorldCore) (l : LedTo h v) (jobs : List Job) → h.jobs ≡ jobs → (i j : ℕ) (name : List ℕ) (a b : DeviceState) → Has v i name a → Has v j name b → i ≡ j
by_jobs all h v l [] is i j name a b x y =
    let none : v.endpoints ≡ [] = no_endpoints h v l is in
    absurd (let clash : None ≡ Some x.at.endpoint = ap (λ (ps : List Endpoint). slice_get ps i) (sym none) ∙ x.at.is_there in cc)
by_jobs all h v l (job ∷ jobs) is i j name a b x y =
    let k = kept_by all h v job l in
    one_has k.run.ghost_then v i j name a b k.run.stands x y

pub one_holder : AllIsKeptAmongStrangers → (h : History) (v : WorldCore) → LedTo h v → OneHolder v
one_holder all h v l i j name a b x y = by_jobs all h v l h.jobs refl i j name a b x y

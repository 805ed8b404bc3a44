-- The loss of the data connection of a job that runs ends it.
use Rattle.std.specs.Prelude.{IsSome, option_map, slice_get}
use Rattle.std.proofs.Common.{◌≡◌, ◌∙◌, ℕ, List, [], ◌∷◌, true, false, Option, Some, None, refl, sym, ap, subst}
use Rattle.page_sources.specs.SourceView.{source_state}
use Rattle.sane_fixed.specs.declared.status.Status.TheVariants.{IoError}
use Rattle.client_replies.specs.ProtocolStates.{is_lost_by}
use Rattle.client_replies.specs.declared.progress.Link.TheVariants as links
use Rattle.saned_core.specs.declared.session_slot.SessionId.{SessionId}
use Rattle.scan_job.specs.declared.job.Job.{Job}
use Rattle.scan_job.specs.declared.outcome.Outcome.{Outcome}
use Rattle.scan_job.specs.declared.outcome.Outcome.TheVariants.{Running, Ended}
use Rattle.scan_job.specs.declared.outcome.Why.TheVariants as whys
use Rattle.system_model.specs.Transitions.{IsUnderWay}
use Rattle.event_world.specs.declared.endpoint.Endpoint.{Endpoint}
use Rattle.event_world.specs.declared.endpoint.Image.{Image}
use Rattle.event_world.specs.declared.event.Event.{Event}
use Rattle.event_world.specs.declared.event.Event.TheVariants as events
use Rattle.event_world.specs.declared.event.JobEvent.TheVariants.{LoseImage}
use Rattle.event_world.specs.JobEvents.{IfLinked}
use Rattle.event_world.specs.Worlds.{AtEndpoint, Runs, WorldCore}
use Rattle.world_refines.specs.GhostStates.{Ghost, place_of_info}
use Rattle.world_refines.specs.MainTheorem.{AreTrueLoads}
use Rattle.world_refines.specs.WorldPromises.{IsOutcome}
use Rattle.world_refines.specs.WorldRefinement.{WorldRefines, image_bytes}
use Rattle.world_refines.proofs.frames.Unimaged.{image_counts}
use Rattle.strangers.specs.Together.{AllIsKeptAmongStrangers}
use Rattle.scan_world.specs.Calls.{ImageLossEnds, outcome_at}
use Rattle.scan_world.specs.Histories.{History, LedTo, and_then}
use Rattle.scan_world.specs.Sessions.{CanAt}
use Rattle.scan_world.proofs.Led.{first_runs, led_then, loads_front, runs_split}
use Rattle.scan_world.proofs.Over.{ended_stays, lost_runs}
use Rattle.scan_world.proofs.Scanned.{kept_by}
use Rattle.scan_world.proofs.moments.Entries.{set_here, unsome}
use Rattle.scan_world.proofs.moments.Holder.{no_endpoints}

some_text : (o : Option Image) (x : Option (List ℕ)) → option_map image_bytes o ≡ x → IsSome o → IsSome x
some_text None x e is = absurd (let clash : false ≡ true = is in cc)
some_text (Some image) x e is = subst IsSome e refl

-- while a job runs it has a data connection for the data of a frame alone, and its loss counts
pub counts_there : (u : Ghost) (w : WorldCore) (i : ℕ) (p : Endpoint) → WorldRefines u w → slice_get w.endpoints i ≡ Some p → IsUnderWay (u.system.job i).client.stage → IsSome p.image → is_lost_by links.Image p.client.outcome p.client.progress ≡ true
counts_there u w i p h at on image =
    let s = h.endpoints i p at in
    image_counts (place_of_info u.infos) (u.jobs i) (u.history i) (u.pages i) (u.wires i) (u.system.job i) p s.exchanges s.means (some_text p.image (u.wires i).image s.carries.image image) on

lost_by : {A : Type 0} (link : Option SessionId) (P : ℕ → Type 0) → IfLinked link P → ((k : ℕ) → P k → A) → A
lost_by None P h then_is = absurd h
lost_by (Some id) P h then_is = then_is id.number h

image_by : (w v : WorldCore) (i : ℕ) (p : Endpoint) → slice_get w.endpoints i ≡ Some p → is_lost_by links.Image p.client.outcome p.client.progress ≡ true → AtEndpoint w i LoseImage v → IsSome p.image → IsSome p.link → outcome_at v i ≡ Some (Ended IoError whys.Lost)
image_by w v i p at counts a image link =
    let h = a.happens p at in
    let now : slice_get v.endpoints i ≡ Some h.0 = ap (λ (ps : List Endpoint). slice_get ps i) h.2 ∙ set_here w.endpoints i p h.0 at in
    lost_by p.link _ (h.1.does (image, link)) (λ k it.
    ap (option_map (λ (q : Endpoint). q.client.outcome)) now ∙ (ap (λ (q : Endpoint). Some q.client.outcome) it.1 ∙ ap (λ (o : Outcome). Some o) (lost_runs (is_lost_by links.Image p.client.outcome p.client.progress) p.client counts)))

by_jobs : AllIsKeptAmongStrangers → (h : History) (w v : WorldCore) (i : ℕ) (l : LedTo h w) → outcome_at w i ≡ Some Running → (can : CanAt w i LoseImage) → AtEndpoint w i LoseImage v → (jobs : List Job) → h.jobs ≡ jobs → outcome_at v i ≡ Some (Ended IoError whys.Lost)
by_jobs all h w v i l runs can a [] is = absurd (let clash : None ≡ Some can.0 = ap (λ (ps : List Endpoint). slice_get ps i) (sym (no_endpoints h w l is)) ∙ can.1 in cc)
by_jobs all h w v i l runs can a (job ∷ jobs) is =
    let k = kept_by all h w job l in
    let u = k.run.ghost_then in
    let ran : can.0.client.outcome ≡ Running = unsome can.0.client.outcome Running (sym (ap (option_map (λ (q : Endpoint). q.client.outcome)) can.1) ∙ runs) in
    let on : IsUnderWay (u.system.job i).client.stage = subst (IsOutcome u i) ran (k.promises.outcomes i can.0 can.1) in
    image_by w v i can.0 can.1 (counts_there u w i can.0 k.run.stands can.1 on can.2.0) a can.2.0 can.2.1

pub image_loss_ends : AllIsKeptAmongStrangers → (h : History) (es : List Event) (w v : WorldCore) → LedTo h w → AreTrueLoads source_state es → Runs source_state es w v → ImageLossEnds es w v
image_loss_ends all h es w v l loads run i front back split =
    let s = runs_split front (events.LoseImage i ∷ back) w v (subst (λ (xs : List Event). Runs source_state xs w v) split run) in
    let led = led_then h front w s.0 l (loads_front front (events.LoseImage i ∷ back) (subst (AreTrueLoads source_state) split loads)) s.1 in
    (s.0, s.1, s.2, λ runs can. first_runs (λ (y : WorldCore). outcome_at y i ≡ Some (Ended IoError whys.Lost)) (events.LoseImage i) back s.0 v s.2 (λ x one rest. ended_stays back x v i IoError whys.Lost rest (by_jobs all (and_then h front) s.0 x i led runs can one (and_then h front).jobs refl)))

-- An event that can happen to a job that runs changes the world, and a job that is under way by the model runs.
use Rattle.std.specs.Prelude.{◌<◌, eqb, map, slice_get}
use Rattle.std.proofs.Common.{◌≡◌, ◌∙◌, ℕ, zero, suc, arith, List, [], ◌∷◌, Bool, true, false, Some, refl, sym, ap, subst, eqb-true}
use Rattle.page_picture.specs.Shows.{Frame}
use Rattle.page_sources.specs.SourceView.{source_state}
use Rattle.sane_fixed.specs.declared.device_info.DeviceInfo.{DeviceInfo}
use Rattle.frame_join.specs.FrameHistory.{JoinHistory}
use Rattle.client_replies.specs.ProtocolStates.{is_running, target_of}
use Rattle.client_replies.specs.declared.progress.JobTarget.{JobTarget}
use Rattle.client_replies.specs.declared.progress.Notes.{Notes}
use Rattle.client_replies.specs.declared.progress.Progress.{Progress}
use Rattle.client_refines.specs.ClientRefinement.{OutcomeRefines}
use Rattle.scan_job.specs.declared.job.Job.{Job}
use Rattle.scan_job.specs.declared.outcome.Outcome.{Outcome}
use Rattle.scan_job.specs.declared.outcome.Outcome.TheVariants as outcomes
use Rattle.system_model.specs.Actions.{Action}
use Rattle.system_model.specs.Client as model
use Rattle.system_model.specs.Client.{ClientView, JobStage, Idle, Running, Done, Ended}
use Rattle.system_model.specs.ModelPromises.{OutcomesLast}
use Rattle.system_model.specs.SystemStates.{JobState, SystemState}
use Rattle.system_model.specs.Transitions.{By, IsEnabled, IsUnderWay, Loads, Transition, Unplugs, Uses, after_transition}
use Rattle.event_world.specs.declared.endpoint.Endpoint.{Endpoint}
use Rattle.event_world.specs.declared.event.JobEvent.{JobEvent}
use Rattle.event_world.specs.JobEvents.{job_event_of}
use Rattle.event_world.specs.JobMoves.{moves_left_of}
use Rattle.event_world.specs.Worlds.{Leads, Runs, WorldCore}
use Rattle.world_refines.specs.GhostStates.{Ghost, place_of_info}
use Rattle.world_refines.specs.WorldRefinement.{WorldRefines, client_at_greeting}
use Rattle.strangers.specs.Together.{AllIsKeptAmongStrangers}
use Rattle.scan_world.specs.Calls.{left_at, moves_answered}
use Rattle.scan_world.specs.Histories.{History, LedTo}
use Rattle.scan_world.specs.Sessions.{CameAsItRan, CanAt}
use Rattle.scan_world.proofs.Begun.{party_stays}
use Rattle.scan_world.proofs.Over.{move_lowers}
use Rattle.scan_world.proofs.Rows.{RunsAt}
use Rattle.scan_world.proofs.Scanned.{kept_by}

-- ---- a job that is under way runs

woken_on : (stage : JobStage) (m : ClientView) → m.stage ≡ stage → IsUnderWay stage → IsUnderWay (client_at_greeting stage m).stage
woken_on Idle m e on = tt
woken_on (Running g) m e on = subst IsUnderWay (sym e) tt
woken_on Done m e on = absurd on
woken_on (Ended status why) m e on = absurd on

runs_by : (place : DeviceInfo → ℕ) (target : JobTarget) (job : model.AbstractJob) (pages : List (List Frame)) (o : Outcome) (progress : Progress) (notes : Notes) (past : JoinHistory) (m : ClientView) → IsUnderWay m.stage → OutcomeRefines place target job pages o progress notes past m → o ≡ outcomes.Running
runs_by place target job pages outcomes.Running progress notes past m on h = refl
runs_by place target job pages (outcomes.Done reports) progress notes past m on h = absurd (subst IsUnderWay h.stage on)
runs_by place target job pages (outcomes.Ended status why) progress notes past m on h = absurd (subst IsUnderWay h on)

pub runs_there : (t : Ghost) (w : WorldCore) (i : ℕ) (p : Endpoint) → WorldRefines t w → slice_get w.endpoints i ≡ Some p → IsUnderWay (t.system.job i).client.stage → RunsAt w i
runs_there t w i p h at on =
    let reads = (h.endpoints i p at).exchanges.reads in
    let me = t.system.job i in
    (p, at, runs_by (place_of_info t.infos) (target_of (t.jobs i)) me.session.job (map (λ (q : JoinHistory). q.ended) (t.pages i)) p.client.outcome p.client.progress p.client.notes (t.history i) (client_at_greeting me.client.stage me.client) (woken_on me.client.stage me.client refl on) reads.stands)

-- ---- what can happen to it changes the world

some_left : (n : ℕ) → (n ≡ 0 → ⊥) → 0 < n
some_left zero none = absurd (none refl)
some_left (suc n) none = omega arith

not_less : (n : ℕ) → n < n → ⊥
not_less n h = omega (arith, h)

pub came_there : AllIsKeptAmongStrangers → (h : History) (other : Job) (u v : WorldCore) (i : ℕ) (x : JobEvent) → LedTo h u → Runs source_state (job_event_of i x ∷ []) u v → CanAt u i x → RunsAt u i → CameAsItRan i u v
came_there all h other u v i x l run can ran =
    let k = kept_by all h u other l in
    let left : left_at u i ≡ moves_left_of ran.0 = ap moves_answered ran.1 in
    let some : 0 < left_at u i = some_left (left_at u i) (λ none.
    let off = k.promises.left i ran.0 ran.1 (sym left ∙ none) in
    let clash : true ≡ false = sym (ap is_running ran.2) ∙ off in cc) in
    let less = move_lowers (job_event_of i x) u v (subst (Leads source_state (job_event_of i x) u) (sym run.2) run.1) i x refl can some in
    (ran, λ same. not_less (left_at u i) (subst (λ (w : WorldCore). left_at w i < left_at u i) same less))

-- ---- who is under way was so before

abbrev pub WereOn : SystemState → SystemState → Type 0
WereOn t s = (i : ℕ) → IsUnderWay (s.job i).client.stage → IsUnderWay (t.job i).client.stage

on_or_not : (stage now : JobStage) → IsUnderWay now → ((IsUnderWay stage → ⊥) → now ≡ stage) → IsUnderWay stage
on_or_not Idle now on off = tt
on_or_not (Running g) now on off = tt
on_or_not Done now on off = subst IsUnderWay (off (λ x. x)) on
on_or_not (Ended status why) now on off = subst IsUnderWay (off (λ x. x)) on

pub on_by : OutcomesLast → (s : SystemState) (j : ℕ) (x : Action) → IsEnabled s (By j x) → (i : ℕ) (b : Bool) → eqb i j ≡ b → IsUnderWay ((after_transition s (By j x)).job i).client.stage → IsUnderWay (s.job i).client.stage
on_by last s j x may i false e on = subst (λ (p : JobState). IsUnderWay p.client.stage) (party_stays s j x i e) on
on_by last s j x may i true e on =
    let same : i ≡ j = eqb-true i j e in
    let here : IsUnderWay ((after_transition s (By j x)).job j).client.stage = subst (λ (k : ℕ). IsUnderWay ((after_transition s (By j x)).job k).client.stage) same on in
    let was : IsUnderWay (s.job j).client.stage = on_or_not (s.job j).client.stage ((after_transition s (By j x)).job j).client.stage here (λ off. ap (λ (m : ClientView). m.stage) (last s j x may off)) in
    subst (λ (k : ℕ). IsUnderWay (s.job k).client.stage) (sym same) was

pub were_on : OutcomesLast → (t s : SystemState) (x : Transition) → IsEnabled s x → WereOn t s → WereOn t (after_transition s x)
were_on last t s (By j x) may before i on = before i (on_by last s j x may i (eqb i j) refl on)
were_on last t s (Loads d page) may before i on = before i on
were_on last t s (Unplugs d) may before i on = before i on
were_on last t s (Uses u d shown left) may before i on = before i on

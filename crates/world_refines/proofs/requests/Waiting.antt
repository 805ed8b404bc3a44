-- What a client waits for, by the request that is on its way.
use Rattle.std.specs.Prelude.{map, slice_get, length, ◌≤◌}
use Rattle.std.proofs.Common.{◌≡◌, ◌∙◌, ℕ, zero, suc, arith, List, [], ◌∷◌, Option, Some, None, inl, inr, refl, sym, ap, subst}
use Rattle.frame_join.specs.FrameHistory.{JoinHistory}
use Rattle.page_picture.specs.Shows.{Frame}
use Rattle.sane_fixed.specs.declared.device_info.DeviceInfo.{DeviceInfo}
use Rattle.scan_job.specs.declared.outcome.Outcome.{Outcome}
use Rattle.scan_job.specs.declared.outcome.Outcome.TheVariants as outcomes
use Rattle.client_replies.specs.ProtocolStates.{target_of}
use Rattle.client_replies.specs.declared.progress.JobTarget.{JobTarget}
use Rattle.client_replies.specs.declared.progress.Notes.{Notes}
use Rattle.client_replies.specs.declared.progress.Progress.{Progress}
use Rattle.client_replies.specs.declared.progress.Progress.TheVariants as stages
use Rattle.client_refines.specs.ClientRefinement.{OutcomeRefines, WaitsAs, requested_setting}
use Rattle.system_model.specs.AbstractDevices.{AbstractDevice}
use Rattle.system_model.specs.AbstractMessages.{AbstractRequest, Init, GetDevices, Open, Authorize, Describe, Get, Set, Parameters, Start}
use Rattle.system_model.specs.Client.{AbstractJob, AbstractProgress, JobStage, Idle, Running, Done, Ended, Greeting, Listing, Opening, Allowing, Describing, Putting, Getting, Starting, Shaping, Imaging, ClientView, request_awaited}
use Rattle.system_model.specs.Devices.{Make}
use Rattle.system_model.specs.Invariants.{StageInvariant}
use Rattle.system_model.specs.SystemStates.{JobState, device_for, make_for}
use Rattle.system_model.specs.Transitions.{IsUnderWay}
use Rattle.event_world.specs.declared.endpoint.Endpoint.{Endpoint}
use Rattle.event_world.specs.Worlds.{WorldCore}
use Rattle.world_refines.specs.GhostStates.{Ghost, place_of_info}
use Rattle.world_refines.specs.WorldRefinement.{WorldRefines, client_at_greeting}

pub end_of : {X : Type 0} (xs : List X) (j : ℕ) → slice_get xs j ≡ None → length xs ≤ j
end_of [] j e = omega arith
end_of (x ∷ xs) zero e = absurd (let clash : Some x ≡ None = e in cc)
end_of (x ∷ xs) (suc j) e = omega (arith, end_of xs j e)

-- the client waits for the answer to that request of the model
abbrev pub AwaitsAnswer : AbstractRequest → Progress → Type 0
AwaitsAnswer Init stages.Greeting = Unit {0}
AwaitsAnswer GetDevices stages.Listing = Unit {0}
AwaitsAnswer Open stages.Opening = Unit {0}
AwaitsAnswer (Authorize challenge) (stages.Allowing resource answer) = Unit {0}
AwaitsAnswer Describe stages.Describing = Unit {0}
AwaitsAnswer (Set n value) (stages.Putting m kind name asked) = Unit {0}
AwaitsAnswer (Get n) (stages.Getting m kind size) = Unit {0}
AwaitsAnswer Start (stages.Starting first) = Unit {0}
AwaitsAnswer Parameters (stages.Shaping port order) = Unit {0}
AwaitsAnswer q progress = ⊥

by_ask : (progress : Progress) (q r : AbstractRequest) (rest : List AbstractRequest) → q ∷ rest ≡ r ∷ [] → AwaitsAnswer r progress → AwaitsAnswer q progress
by_ask progress q r rest e waits = let same : r ≡ q = cc in subst (λ (x : AbstractRequest). AwaitsAnswer x progress) same waits

-- the request that is awaited by the model, where the stage is this one
asks : (m : ClientView) (g h : AbstractProgress) (q : AbstractRequest) (rest : List AbstractRequest) → m.stage ≡ Running g → m.stage ≡ Running h → q ∷ rest ≡ request_awaited g → q ∷ rest ≡ request_awaited h
asks m g h q rest at is e = let same : g ≡ h = (let both : Running g ≡ Running h = sym at ∙ is in cc) in e ∙ ap request_awaited same

abbrev pub Silent : Progress → Type 0
Silent progress = progress ≡ stages.Reopening → ⊥

abbrev pub Unturned : Progress → Type 0
Unturned progress = progress ≡ stages.Turning → ⊥

waits_for : (job : AbstractJob) (progress : Progress) (notes : Notes) (past : JoinHistory) (m : ClientView) (g : AbstractProgress) (q : AbstractRequest) (rest : List AbstractRequest) → m.stage ≡ Running g → q ∷ rest ≡ request_awaited g → Silent progress → Unturned progress → WaitsAs job progress notes past m → AwaitsAnswer q progress
waits_for job stages.Greeting notes past m g q rest at e silent unturned h = by_ask stages.Greeting q _ rest (asks m g Greeting q rest at h.0 e) tt
waits_for job stages.Listing notes past m g q rest at e silent unturned h = by_ask stages.Listing q _ rest (asks m g Listing q rest at h.0 e) tt
waits_for job stages.Opening notes past m g q rest at e silent unturned h = by_ask stages.Opening q _ rest (asks m g Opening q rest at h.0 e) tt
waits_for job (stages.Allowing resource answer) notes past m g q rest at e silent unturned h = by_ask (stages.Allowing resource answer) q _ rest (asks m g (Allowing h.0.0) q rest at h.0.1.0 e) tt
waits_for job stages.Reopening notes past m g q rest at e silent unturned h = absurd (silent refl)
waits_for job stages.Describing notes past m g q rest at e silent unturned h = by_ask stages.Describing q _ rest (asks m g (Describing (map requested_setting notes.left)) q rest at h.0 e) tt
waits_for job (stages.Putting n kind name asked) notes past m g q rest at e silent unturned h =
    by_ask (stages.Putting n kind name asked) q (Set n asked) rest (asks m g (Putting n asked h.0.0 (map requested_setting notes.left)) q rest at h.0.1.0 e) tt
waits_for job (stages.Getting n kind size) notes past m g q rest at e silent unturned h = by_ask (stages.Getting n kind size) q _ rest (asks m g (Getting n h.0.0) q rest at h.0.1.0 e) tt
waits_for job (stages.Starting first) notes past m g q rest at e silent unturned h = by_ask (stages.Starting first) q _ rest (asks m g Starting q rest at h.0 e) tt
waits_for job (stages.Shaping port order) notes past m g q rest at e silent unturned h = by_ask (stages.Shaping port order) q _ rest (asks m g Shaping q rest at h.0 e) tt
waits_for job (stages.Imaging port made) notes past m g q rest at e silent unturned h =
    absurd (let clash : q ∷ rest ≡ [] = asks m g (Imaging h.params h.payload) q rest at h.stage e in cc)
waits_for job stages.Turning notes past m g q rest at e silent unturned h = absurd (unturned refl)
waits_for job stages.Over notes past m g q rest at e silent unturned h = absurd h

outcome_waits : (place : DeviceInfo → ℕ) (target : JobTarget) (job : AbstractJob) (pages : List (List Frame)) (o : Outcome) (progress : Progress) (notes : Notes) (past : JoinHistory) (m : ClientView) (g : AbstractProgress) (q : AbstractRequest) (rest : List AbstractRequest) → m.stage ≡ Running g → q ∷ rest ≡ request_awaited g → Silent progress → Unturned progress → OutcomeRefines place target job pages o progress notes past m → AwaitsAnswer q progress
outcome_waits place target job pages outcomes.Running progress notes past m g q rest at e silent unturned h = waits_for job progress notes past m g q rest at e silent unturned h.1
outcome_waits place target job pages (outcomes.Done reports) progress notes past m g q rest at e silent unturned h = absurd (let clash : Done ≡ Running g = sym h.stage ∙ at in cc)
outcome_waits place target job pages (outcomes.Ended status why) progress notes past m g q rest at e silent unturned h = absurd (let clash : Ended status why ≡ Running g = sym h ∙ at in cc)

-- ---- of a job that is under way

-- it runs, and that is its request
pub record Runs (p : JobState) (q : AbstractRequest) (rest : List AbstractRequest) : Type 0 where
  pub progress : AbstractProgress
  pub stage : p.client.stage ≡ Running progress
  pub asked : q ∷ rest ≡ request_awaited progress

pub none_asked : {A : Type 0} (todo rest : List AbstractRequest) (q : AbstractRequest) → todo ≡ [] → todo ≡ q ∷ rest → A
none_asked todo rest q none e = absurd (let clash : [] ≡ q ∷ rest = sym none ∙ e in cc)

pub runs_by : (i : ℕ) (k : Make) (p : JobState) (dev : AbstractDevice) (stage : JobStage) (q : AbstractRequest) (rest : List AbstractRequest) → p.client.stage ≡ stage → IsUnderWay stage → StageInvariant i k p dev stage → p.todo ≡ q ∷ rest → Runs p q rest
runs_by i k p dev Idle q rest at on h e = none_asked p.todo rest q h.1 e
runs_by i k p dev (Running g) q rest at on (inl h) e = record { progress = g; stage = at; asked = sym e ∙ h.todo }
runs_by i k p dev (Running g) q rest at on (inr (inl h)) e = none_asked p.todo rest q h.todo e
runs_by i k p dev (Running g) q rest at on (inr (inr h)) e = none_asked p.todo rest q h.todo e
runs_by i k p dev Done q rest at on h e = absurd on
runs_by i k p dev (Ended status why) q rest at on h e = absurd on

pub woken : (stage : JobStage) (m : ClientView) (g : AbstractProgress) → stage ≡ Running g → m.stage ≡ stage → (client_at_greeting stage m).stage ≡ Running g
woken Idle m g e at = absurd (let clash : Idle ≡ Running g = e in cc)
woken (Running g) m h e at = at ∙ e
woken Done m g e at = at ∙ e
woken (Ended status why) m g e at = at ∙ e

-- the client of that endpoint waits so
abbrev pub WaitsSo : WorldCore → ℕ → AbstractRequest → Type 0
WaitsSo w i q = (p : Endpoint) × (slice_get w.endpoints i ≡ Some p) × AwaitsAnswer q p.client.progress

waits_at : (t : Ghost) (w : WorldCore) (i : ℕ) (q : AbstractRequest) (rest : List AbstractRequest) (o : Option Endpoint) → slice_get w.endpoints i ≡ o → WorldRefines t w → (t.system.job i).todo ≡ q ∷ rest → Runs (t.system.job i) q rest → WaitsSo w i q
waits_at t w i q rest None at h todo r = absurd (let clash : Idle ≡ Running r.progress = sym (h.beyond i (end_of w.endpoints i at)).stage ∙ r.stage in cc)
waits_at t w i q rest (Some p) at h todo r =
    let s = h.endpoints i p at in
    let me = t.system.job i in
    let silent : Silent p.client.progress = λ e. none_asked me.todo rest q (s.waits.silent e) todo in
    (p, at, outcome_waits (place_of_info t.infos) (target_of (t.jobs i)) me.session.job (map (λ (x : JoinHistory). x.ended) (t.pages i)) p.client.outcome p.client.progress p.client.notes (t.history i) (client_at_greeting me.client.stage me.client) r.progress q rest (woken me.client.stage me.client r.progress r.stage refl) r.asked silent s.waits.unturned s.exchanges.reads.stands)

-- in the world in front of an answer its client waits for that
pub waits_there : (t : Ghost) (w : WorldCore) (i : ℕ) (q : AbstractRequest) (rest : List AbstractRequest) → WorldRefines t w → IsUnderWay (t.system.job i).client.stage → (t.system.job i).todo ≡ q ∷ rest → WaitsSo w i q
waits_there t w i q rest h on todo =
    waits_at t w i q rest (slice_get w.endpoints i) refl h todo (runs_by i (make_for t.system i) (t.system.job i) (device_for t.system i) (t.system.job i).client.stage q rest refl on (h.sound.exchanges i) todo)

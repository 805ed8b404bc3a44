-- What answers leave of what stands: all but the requests, the replies and the session of the client that is answered.
use Rattle.std.proofs.Common.{◌≡◌, ◌≢◌, ◌⊎◌, inl, inr, ◌∙◌, ℕ, List, [], ◌∷◌, ◌++◌, Option, None, false, refl, sym, subst}
use Rattle.sane_fixed.specs.declared.status.Status.{Status}
use Rattle.system_model.specs.AbstractMessages.{Challenge, AbstractRequest}
use Rattle.system_model.specs.Devices.{Make}
use Rattle.system_model.specs.AbstractDevices.{AbstractDevice}
use Rattle.system_model.specs.Causes.{Cause, IsCauseAmong, LinkOutOfMemory, WasUnsaid}
use Rattle.system_model.specs.Daemon.{Environment, TransferState, Quiet, Waiting, Streaming, Ending, FailureCounts, answer}
use Rattle.system_model.specs.Actions as actions
use Rattle.system_model.specs.Actions.{answer_next, break_causes, job_after_action}
use Rattle.system_model.specs.Deliveries.{Chance, answers}
use Rattle.system_model.specs.Grounds.{HaveGrounds}
use Rattle.system_model.specs.Invariants.{IsCalm}
use Rattle.system_model.specs.SystemStates.{JobState, SystemState, listed_devices, make_for, device_for}
use Rattle.system_model.specs.Transitions.{By, after_transition, after_all}
use Rattle.system_model.proofs.Calm.{calm_answer}
use Rattle.system_model.proofs.Grounds.{causes_grounded}
use Rattle.daemon_refines.proofs.Moved.{put_elsewhere, put_there}
use Rattle.world_refines.specs.WorldRefinement.{HasNoEnd}

-- ---- a frame's end

calm_end : (c : TransferState) (ending : Option Status) → IsCalm c → HasNoEnd c ending
calm_end Quiet ending calm = tt
calm_end Waiting ending calm = tt
calm_end Streaming ending calm = absurd calm
calm_end Ending ending calm = absurd calm

none_end : (c : TransferState) (ending : Option Status) → ending ≡ None → HasNoEnd c ending
none_end Quiet ending e = tt
none_end Waiting ending e = tt
none_end Streaming ending e = e
none_end Ending ending e = e

no_end : (c d : TransferState) (ending : Option Status) → (IsCalm c → IsCalm d) → HasNoEnd c ending → HasNoEnd d ending
no_end Quiet d ending calm h = calm_end d ending (calm tt)
no_end Waiting d ending calm h = calm_end d ending (calm tt)
no_end Streaming d ending calm h = none_end d ending h
no_end Ending d ending calm h = none_end d ending h

-- a frame that has no end has none behind an answer
pub unended_answer : (i : ℕ) (k : Make) (dev : AbstractDevice) (c : TransferState) (awaited : Option Challenge) (x : Environment) (q : AbstractRequest) (ending : Option Status) → HasNoEnd c ending → HasNoEnd (answer i k dev c awaited x q).transfer ending
unended_answer i k dev c awaited x q ending h = no_end c (answer i k dev c awaited x q).transfer ending (calm_answer i k dev c awaited x q) h

-- ---- causes

next_met : (c : Cause) (causes met : List Cause) → IsCauseAmong LinkOutOfMemory causes ⊎ IsCauseAmong LinkOutOfMemory met → IsCauseAmong LinkOutOfMemory (c ∷ causes) ⊎ IsCauseAmong LinkOutOfMemory met
next_met c causes met (inl m) = inl (inr m)
next_met c causes met (inr m) = inr m

met_either : (causes met : List Cause) → IsCauseAmong LinkOutOfMemory (causes ++ met) → IsCauseAmong LinkOutOfMemory causes ⊎ IsCauseAmong LinkOutOfMemory met
met_either [] met h = inr h
met_either (c ∷ causes) met (inl e) = inl (inl e)
met_either (c ∷ causes) met (inr h) = next_met c causes met (met_either causes met h)

not_grounded : (i : ℕ) (k : Make) (dev : AbstractDevice) (awaited : Option Challenge) (x : Environment) (causes : List Cause) → HaveGrounds i k dev awaited x causes → IsCauseAmong LinkOutOfMemory causes → ⊥
not_grounded i k dev awaited x [] g m = m
not_grounded i k dev awaited x (LinkOutOfMemory ∷ causes) g (inl e) = g.0
not_grounded i k dev awaited x (c ∷ causes) g (inl e) = absurd (cc)
not_grounded i k dev awaited x (c ∷ causes) g (inr m) = not_grounded i k dev awaited x causes g.1 m

-- no answer is for lack of memory
answer_not_starved : (i : ℕ) (k : Make) (dev : AbstractDevice) (c : TransferState) (awaited : Option Challenge) (x : Environment) (q : AbstractRequest) (met : List Cause) → IsCauseAmong LinkOutOfMemory ((answer i k dev c awaited x q).causes ++ met) → IsCauseAmong LinkOutOfMemory met
answer_not_starved i k dev c awaited x q met h = by_either (met_either (answer i k dev c awaited x q).causes met h)
  where
    by_either : IsCauseAmong LinkOutOfMemory (answer i k dev c awaited x q).causes ⊎ IsCauseAmong LinkOutOfMemory met → IsCauseAmong LinkOutOfMemory met
    by_either (inl m) = absurd (not_grounded i k dev awaited x (answer i k dev c awaited x q).causes (causes_grounded i k dev c awaited x q) m)
    by_either (inr m) = m

pub not_breaking : (met : List Cause) → IsCauseAmong LinkOutOfMemory (break_causes false ++ met) → IsCauseAmong LinkOutOfMemory met
not_breaking met (inl e) = absurd (let clash : LinkOutOfMemory ≡ WasUnsaid = e in cc)
not_breaking met (inr m) = m

-- ---- a job that is answered

pub record StaysSo (old new : JobState) : Type 0 where
  pub client : new.client ≡ old.client
  pub linked : new.linked ≡ old.linked
  pub image : new.image ≡ old.image
  pub job : new.session.job ≡ old.session.job
  pub flight : new.session.flight ≡ old.session.flight
  pub ending : new.session.ending ≡ old.session.ending
  pub unended : HasNoEnd old.session.transfer old.session.ending → HasNoEnd new.session.transfer new.session.ending
  pub starved : IsCauseAmong LinkOutOfMemory new.session.met → IsCauseAmong LinkOutOfMemory old.session.met

stays_none : (p : JobState) → StaysSo p p
stays_none p = record { client = refl; linked = refl; image = refl; job = refl; flight = refl; ending = refl; unended = λ h. h; starved = λ h. h }

stays_then : (p q r : JobState) → StaysSo p q → StaysSo q r → StaysSo p r
stays_then p q r a b =
    record {
      client = b.client ∙ a.client;
      linked = b.linked ∙ a.linked;
      image = b.image ∙ a.image;
      job = b.job ∙ a.job;
      flight = b.flight ∙ a.flight;
      ending = b.ending ∙ a.ending;
      unended = λ h. b.unended (a.unended h);
      starved = λ h. a.starved (b.starved h);
    }

stays_answered : (i : ℕ) (k : Make) (ds : List ℕ) (p : JobState) (dev : AbstractDevice) (challenge : Challenge) (fault : Option FailureCounts) (todo : List AbstractRequest) → StaysSo p (answer_next i k ds p dev challenge fault todo)
stays_answered i k ds p dev challenge fault [] = stays_none p
stays_answered i k ds p dev challenge fault (q ∷ rest) =
    record {
      client = refl;
      linked = refl;
      image = refl;
      job = refl;
      flight = refl;
      ending = refl;
      unended = unended_answer i k dev p.session.transfer p.session.awaited _ q p.session.ending;
      starved = answer_not_starved i k dev p.session.transfer p.session.awaited _ q p.session.met;
    }

-- ---- what stands behind answers

pub record Stays (i : ℕ) (old new : SystemState) : Type 0 where
  pub make : new.make ≡ old.make
  pub places : new.places ≡ old.places
  pub job : (j : ℕ) → j ≢ i → new.job j ≡ old.job j
  pub own : StaysSo (old.job i) (new.job i)

stays_at_one : (i : ℕ) (s : SystemState) (chance : Chance) → Stays i s (after_transition s (By i (actions.Answers chance.0 chance.1)))
stays_at_one i s chance =
    let next = job_after_action i (make_for s i) (listed_devices s) (s.job i) (device_for s i) (actions.Answers chance.0 chance.1) in
    record {
      make = refl;
      places = refl;
      job = λ j n. put_elsewhere s.job i next j n;
      own = subst (StaysSo (s.job i)) (sym (put_there s.job i next)) (stays_answered i (make_for s i) (listed_devices s) (s.job i) (device_for s i) chance.0 chance.1 (s.job i).todo);
    }

stays_on : (i : ℕ) (a b c : SystemState) → Stays i a b → Stays i b c → Stays i a c
stays_on i a b c x y =
    record {
      make = y.make ∙ x.make;
      places = y.places ∙ x.places;
      job = λ j n. y.job j n ∙ x.job j n;
      own = stays_then (a.job i) (b.job i) (c.job i) x.own y.own;
    }

pub stays : (i : ℕ) (s : SystemState) (chances : List Chance) → Stays i s (after_all s (answers i chances))
stays i s [] = record { make = refl; places = refl; job = λ j n. refl; own = stays_none (s.job i) }
stays i s (chance ∷ chances) =
    let next = after_transition s (By i (actions.Answers chance.0 chance.1)) in
    stays_on i s next (after_all next (answers i chances)) (stays_at_one i s chance) (stays i next chances)

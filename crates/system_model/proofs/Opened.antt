-- OPEN AND AUTHORIZE: a client in sync is right to hear what they come to.
use Rattle.std.proofs.Common.{◌≡◌, ◌∙◌, ◌≢◌, ℕ, [], ◌∷◌, Bool, true, false, Option, Some, None, refl, sym, subst, ap, inl, inr, eqb}
use Rattle.std.proofs.lemmas.Bool.{eq-eqb, ne_eqb}
use Rattle.scan_job.specs.declared.outcome.Why.TheVariants.{Answer}
use Rattle.sane_fixed.specs.declared.status.Status.{Status}
use Rattle.sane_fixed.specs.declared.status.Status.TheVariants.{DeviceBusy, Inval}
use Rattle.system_model.specs.AbstractMessages.{same_text, Refused, Challenge, AbstractRequest, Opened, Challenged}
use Rattle.system_model.specs.Devices.{Make, default_options}
use Rattle.system_model.specs.AbstractInForce.{abstract_force}
use Rattle.system_model.specs.Client.{List_, ClientView, Running, with_ending, AbstractProgress, Opening, Allowing, Describing}
use Rattle.system_model.specs.ClientReplies.{hear_at}
use Rattle.system_model.specs.AbstractDevices.{AbstractDevice, is_held_by}
use Rattle.system_model.specs.Daemon.{TransferState, Environment, AnswerEffect, answer, serve, refuse, hand_out_device, take_listed, open_listed, allow}
use Rattle.system_model.specs.SystemStates.{SessionView}
use Rattle.system_model.specs.Sync.{NotYet, IsPermitted}
use Rattle.system_model.proofs.Settled.{Answers, onto_nil, right_at}

-- THE ANSWER TO A CLIENT THAT HOLDS ITS DEVICE, AND TO ONE THAT DOES NOT
pub held_answer : (i : ℕ) (k : Make) (dev : AbstractDevice) (c : TransferState) (a : Option Challenge) (x : Environment) (q : AbstractRequest) → a ≡ None → dev.holder ≡ Some i → answer i k dev c a x q ≡ serve i k dev c x q
held_answer i k dev c a x q n h = let e : is_held_by i dev.holder ≡ true = rw h (eq-eqb i i refl) in rw (n, e) refl

pub held_other : (i : ℕ) (h : Option ℕ) → h ≢ Some i → is_held_by i h ≡ false
held_other i None n = refl
held_other i (Some j) n = ne_eqb j i (λ e. n (ap Some e))

-- the one request that is awaited
pub asked_is : (x q : AbstractRequest) → x ∷ [] ≡ q ∷ [] → q ≡ x
asked_is x q e = cc

pub free_answer : (i : ℕ) (k : Make) (dev : AbstractDevice) (c : TransferState) (a : Option Challenge) (x : Environment) (q : AbstractRequest) → a ≡ None → dev.holder ≢ Some i → answer i k dev c a x q ≡ refuse i k dev c x q
free_answer i k dev c a x q e n = rw (e, held_other i dev.holder n) refl

pub as_served : (i : ℕ) (k : Make) (b : SessionView) (m : ClientView) (g : AbstractProgress) (v w : AnswerEffect) → v ≡ w → Answers i k b m g w → Answers i k b m g v
as_served i k b m g v w e h = subst (λ (x : AnswerEffect). Answers i k b m g x) (sym e) h

-- OPEN AND AUTHORIZE
-- a device is handed out to a client that waits for it, by OPEN or by AUTHORIZE
abbrev Takes : ClientView → AbstractProgress → SessionView → Type 0
Takes m g b = (hear_at g b.job m Opened ≡ record m { stage = Running (Describing b.job.settings) }) × ((s : Status) → hear_at g b.job m (Refused s) ≡ with_ending s Answer m)

take_right : (i : ℕ) (k : Make) (b : SessionView) (m : ClientView) (dev : AbstractDevice) (a : Option Challenge) (g : AbstractProgress) (h : Option ℕ) → dev.holder ≡ h → NotYet i b m dev a → b.job.task ≢ List_ →
    IsPermitted b.job b.sent → Takes m g b → Answers i k b m g (hand_out_device i k dev b.transfer h)
take_right i k b m dev a g None e n o p t = (
  refl,
  (
    Opened,
    refl,
    right_at i k _ _ _ _ t.0 (
      default_options k,
      record {
        held = record { mine = refl; options_are = refl; phase_is = refl };
        still = record { transfer = n.transfer; flight = n.flight; ending = n.ending; awaited = refl };
        so_far = rw n.reports (sym (onto_nil (abstract_force b.job.settings k (default_options k))));
        permitted = p;
        opens = o;
        started = rw n.started refl;
        values = n.values;
        frames = n.frames;
        pages = n.pages;
      },
    ),
  ),
)
take_right i k b m dev a g (Some j) e n o p t =
    let f : eqb j i ≡ false = ne_eqb j i (λ z. n.free (e ∙ ap Some z)) in
    (refl, (_, refl, right_at i k _ _ _ _ (t.1 DeviceBusy) (rw f (inl (inl (refl, refl))))))

take_listed_right : (i : ℕ) (k : Make) (b : SessionView) (m : ClientView) (dev : AbstractDevice) (a : Option Challenge) (g : AbstractProgress) (listed : Bool) → NotYet i b m dev a → b.job.task ≢ List_ →
    IsPermitted b.job b.sent → Takes m g b → Answers i k b m g (take_listed i k dev b.transfer listed)
take_listed_right i k b m dev a g false n o p t = (refl, (_, refl, right_at i k _ _ _ _ (t.1 Inval) (inl (inl (refl, refl)))))
take_listed_right i k b m dev a g true n o p t = take_right i k b m dev a g dev.holder refl n o p t

pub open_right : (i : ℕ) (k : Make) (b : SessionView) (m : ClientView) (dev : AbstractDevice) (c : Challenge) (listed guarded : Bool) → b.job.guarded ≡ guarded → NotYet i b m dev None → b.job.task ≢ List_ →
    Answers i k b m Opening (open_listed i k dev b.transfer c listed guarded)
open_right i k b m dev c false guarded e n o = (refl, (_, refl, inl (inl (refl, refl))))
open_right i k b m dev c true true e n o = (
  refl,
  (
    Challenged c,
    refl,
    (
      record {
        free = n.free;
        transfer = n.transfer;
        flight = n.flight;
        ending = n.ending;
        awaits = refl;
        sent = rw n.sent refl;
        started = rw n.started refl;
        shown = rw n.shown refl;
        reports = n.reports;
        values = n.values;
        frames = n.frames;
        pages = n.pages;
      },
      o,
    ),
  ),
)
open_right i k b m dev c true false e n o = take_right i k b m dev None Opening dev.holder refl n o (inl e) (refl, λ s. refl)

pub allow_right : (i : ℕ) (k : Make) (b : SessionView) (m : ClientView) (dev : AbstractDevice) (c : Challenge) (allowed : Bool) → b.job.allows c ≡ allowed → NotYet i b m dev (Some c) → b.job.task ≢ List_ →
    Answers i k b m (Allowing c) (allow i k dev b.transfer true allowed)
allow_right i k b m dev c true e n o = take_listed_right i k b m dev (Some c) (Allowing c) dev.listed n o (inr (c, n.sent, e)) (refl, λ z. refl)
allow_right i k b m dev c false e n o = (refl, (_, refl, inl (inl (refl, refl))))

pub same_same : (xs : Challenge) → same_text xs xs ≡ true
same_same [] = refl
same_same (x ∷ xs) = let e : eqb x x ≡ true = eq-eqb x x refl in rw e (same_same xs)

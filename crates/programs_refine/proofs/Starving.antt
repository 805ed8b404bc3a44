-- Behind the end of a session for lack of memory nothing is given out of it.
use Rattle.std.specs.Prelude.{◌<◌}
use Rattle.std.specs.Option.{option_and_then}
use Rattle.std.proofs.Common.{◌≡◌, ◌≢◌, ◌∙◌, ◌⊎◌, inl, inr, ℕ, zero, suc, true, false, Option, Some, None, List, [], ◌∷◌, length, take, refl, sym, ap, subst, arith}
use Rattle.saned_requests.specs.declared.session.Session.{Session}
use Rattle.device_api.specs.State.{DeviceState}
use Rattle.saned_core.specs.declared.session_slot.Fed.{Fed}
use Rattle.saned_core.specs.declared.session_slot.Fed.TheVariants.{Starved}
use Rattle.saned_core.specs.declared.session_slot.DataStep.{DataStep}
use Rattle.saned_core.specs.declared.session_slot.DataStep.TheVariants.{Idle}
use Rattle.saned_core.specs.DaemonLimits.{HasDaemonLimits}
use Rattle.saned_core.specs.DaemonStates.{Core, after_connected, after_end_session, after_lost, after_open_session, after_taken, frame_in, is_waiting, new_session_slot, no_more, on_session, on_session_slot, replies_in, session_in, session_slot_of, with_session}
use Rattle.saned_core.specs.Feeding.{Feeds}
use Rattle.saned_core.specs.Turns.{Turns, TurnsSessions}
use Rattle.saned_core.proofs.Apart.{apart}
use Rattle.saned_core.proofs.DaemonLimits.{limits_connected, limits_ended, limits_fed, limits_lost, limits_opened, limits_taken, limits_turned}
use Rattle.saned_serve.specs.SessionActions.{ActsOn, SessionAction, written_by}
use Rattle.saned_serve.specs.SessionActions.SessionAction.{Opens, Hears, Feed, Forgets, Take, Says, Looks, Misses, Connect, Turn, Shows, Lose, HangsUp, Leaves}
use Rattle.saned_serve.specs.Journal.{DaemonRuns, LoopAction, Steps}
use Rattle.saned_serve.specs.Journal.LoopAction.{Of, Full, Waits, Refuses, Turned, Stops}
use Rattle.in_flight.proofs.Alike.{keeps_none, keeps_on, keeps_taken, keeps_with}
use Rattle.in_flight.proofs.Slots.{Change, KeepsNumber, Slot, decide, opened_other, own_slot}
use Rattle.interleaving.specs.HandingOn.{HaveOneSession, Owner}
use Rattle.interleaving.specs.Orders.{GivesJobNothing, GivesNothing}

-- ---- the limits of a daemon stay

same_limits : (d e : Core) → e ≡ d → HasDaemonLimits d → HasDaemonLimits e
same_limits d e is l = subst HasDaemonLimits (sym is) l

act_limits : (n : ℕ) (act : SessionAction) (d e : Core) → ActsOn n d act e → HasDaemonLimits d → HasDaemonLimits e
act_limits n (Opens port) d e a l = subst HasDaemonLimits (sym a.after) (limits_opened d port l)
act_limits n (Hears got room bytes) d e a l = same_limits d e a l
act_limits n (Feed piece fed begins) d e a l = limits_fed n d piece fed e a.0 l
act_limits n (Forgets told port) d e a l = same_limits d e a l
act_limits n (Take room bytes) d e a l = subst HasDaemonLimits (sym a.after) (limits_taken d n (length bytes) l)
act_limits n (Says got bytes) d e a l = same_limits d e a l
act_limits n (Looks frame) d e a l = same_limits d e a.1 l
act_limits n (Misses port) d e a l = same_limits d e a.1 l
act_limits n (Connect port) d e a l = subst HasDaemonLimits (sym a.after) (limits_connected d n l)
act_limits n (Turn room step bytes) d e a l = limits_turned n d step e a.buffer a.turns l
act_limits n (Shows got bytes) d e a l = same_limits d e a l
act_limits n Lose d e a l = subst HasDaemonLimits (sym a) (limits_lost d n l)
act_limits n (HangsUp trace) d e a l = same_limits d e a l
act_limits n (Leaves port trace) d e a l = subst HasDaemonLimits (sym a) (limits_ended d n l)

step_limits : (action : LoopAction) (d e : Core) → Steps d action e → HasDaemonLimits d → HasDaemonLimits e
step_limits (Of n act) d e s l = act_limits n act d e s l
step_limits Full d e s l = same_limits d e s l
step_limits Waits d e s l = same_limits d e s l
step_limits (Refuses port trace) d e s l = same_limits d e s.1 l
step_limits Turned d e s l = same_limits d e s l
step_limits Stops d e s l = same_limits d e s l

pub limits_behind : (journal : List LoopAction) (d e : Core) → HasDaemonLimits d → DaemonRuns d journal e → HasDaemonLimits e
limits_behind [] d e l runs = same_limits d e runs l
limits_behind (action ∷ past) d e l runs = step_limits action runs.0 e runs.2 (limits_behind past d runs.0 l runs.1)

-- ---- a session that is gone stays gone

pub record IsGone (d : Core) (k : ℕ) : Type 0 where
  pub none : session_slot_of d.slots k ≡ None
  pub low : k < d.opened
  pub limits : HasDaemonLimits d

on_none : (f : Change) (n k : ℕ) (d : Core) → KeepsNumber f → HasDaemonLimits d → session_slot_of d.slots k ≡ None → session_slot_of (on_session_slot f n d.slots) k ≡ None
on_none f n k d keeps l none = by (decide k n)
  where
    by : (k ≡ n) ⊎ (k ≢ n) → session_slot_of (on_session_slot f n d.slots) k ≡ None
    by (inl on) =
        ap (session_slot_of (on_session_slot f n d.slots)) on ∙ own_slot f n d.opened d.slots keeps l.1 ∙ ap (option_and_then f) (ap (session_slot_of d.slots) (sym on) ∙ none)
    by (inr off) = apart d.slots f n k keeps (λ same. off (sym same)) ∙ none

changed_none : (f : Change) (n k : ℕ) (d e : Core) → KeepsNumber f → e.slots ≡ on_session_slot f n d.slots → e.opened ≡ d.opened → HasDaemonLimits e → IsGone d k → IsGone e k
changed_none f n k d e keeps slots same l g = record { none = ap (λ (s : List (Option Slot)). session_slot_of s k) slots ∙ on_none f n k d keeps g.limits g.none; low = (let low = g.low in omega (arith, low, same)); limits = l }

same_gone : (k : ℕ) (d e : Core) → e ≡ d → IsGone d k → IsGone e k
same_gone k d e is g = subst (λ (x : Core). IsGone x k) (sym is) g

fed_gone : (n k : ℕ) (d e : Core) (piece : List ℕ) (fed : Fed) → Feeds n d piece fed e → IsGone d k → IsGone e k
fed_gone n k d e piece fed h g = by (decide k n)
  where
    by : (k ≡ n) ⊎ (k ≢ n) → IsGone e k
    by (inl on) = same_gone k d e (h.idle (ap session_in (ap (session_slot_of d.slots) (sym on) ∙ g.none))).1 g
    by (inr off) = record { none = h.others.slots k off ∙ g.none; low = subst (λ (x : Core). k < x.opened) (sym h.others.rest) g.low; limits = limits_fed n d piece fed e h g.limits }

turned_gone : (n k : ℕ) (d e : Core) (step : DataStep) (buf : List ℕ) → Turns n d step e buf → IsGone d k → IsGone e k
turned_gone n k d e step buf t g = by (session_in (session_slot_of d.slots n)) t.slots
  where
    same : e.opened ≡ d.opened
    same = ap (λ (x : Core). x.opened) t.others

    by : (o : Option (Session DeviceState)) → TurnsSessions o n d.slots step e.slots buf → IsGone e k
    by None x = record { none = ap (λ (s : List (Option Slot)). session_slot_of s k) x.1 ∙ g.none; low = (let low = g.low in omega (arith, low, same)); limits = limits_turned n d step e buf t g.limits }
    by (Some s) x = changed_none (with_session x.0) n k d e (keeps_with x.0) x.2 same (limits_turned n d step e buf t g.limits) g

opened_gone : (port k : ℕ) (d e : Core) → e ≡ after_open_session d port → IsGone d k → IsGone e k
opened_gone port k d e is g =
    subst (λ (x : Core). IsGone x k) (sym is)
    (record { none = opened_other d.slots (new_session_slot d.strings d.opened port) k (λ same. (let low = g.low in omega (arith, low, same))) ∙ g.none; low = (let low = g.low in omega (arith, low)); limits = limits_opened d port g.limits })

pub gone_acts : (n k : ℕ) (act : SessionAction) (d e : Core) → ActsOn n d act e → IsGone d k → IsGone e k
gone_acts n k (Opens port) d e a g = opened_gone port k d e a.after g
gone_acts n k (Hears got room bytes) d e a g = same_gone k d e a g
gone_acts n k (Feed piece fed begins) d e a g = fed_gone n k d e piece fed a.0 g
gone_acts n k (Forgets told port) d e a g = same_gone k d e a g
gone_acts n k (Take room bytes) d e a g = changed_none (after_taken (length bytes)) n k d e (keeps_taken (length bytes)) (ap (λ (x : Core). x.slots) a.after) (ap (λ (x : Core). x.opened) a.after) (act_limits n (Take room bytes) d e a g.limits) g
gone_acts n k (Says got bytes) d e a g = same_gone k d e a g
gone_acts n k (Looks frame) d e a g = same_gone k d e a.1 g
gone_acts n k (Misses port) d e a g = same_gone k d e a.1 g
gone_acts n k (Connect port) d e a g = changed_none (on_session after_connected) n k d e (keeps_on after_connected) (ap (λ (x : Core). x.slots) a.after) (ap (λ (x : Core). x.opened) a.after) (act_limits n (Connect port) d e a g.limits) g
gone_acts n k (Turn room step bytes) d e a g = turned_gone n k d e step a.buffer a.turns g
gone_acts n k (Shows got bytes) d e a g = same_gone k d e a g
gone_acts n k Lose d e a g = changed_none (on_session after_lost) n k d e (keeps_on after_lost) (ap (λ (x : Core). x.slots) a) (ap (λ (x : Core). x.opened) a) (act_limits n Lose d e a g.limits) g
gone_acts n k (HangsUp trace) d e a g = same_gone k d e a g
gone_acts n k (Leaves port trace) d e a g = changed_none no_more n k d e keeps_none (ap (λ (x : Core). x.slots) a) (ap (λ (x : Core). x.opened) a) (act_limits n (Leaves port trace) d e a g.limits) g

pub gone_steps : (k : ℕ) (action : LoopAction) (d e : Core) → Steps d action e → IsGone d k → IsGone e k
gone_steps k (Of n act) d e s g = gone_acts n k act d e s g
gone_steps k Full d e s g = same_gone k d e s g
gone_steps k Waits d e s g = same_gone k d e s g
gone_steps k (Refuses port trace) d e s g = same_gone k d e s.1 g
gone_steps k Turned d e s g = same_gone k d e s g
gone_steps k Stops d e s g = same_gone k d e s g

pub starved_gone : (k : ℕ) (d e : Core) (piece : List ℕ) → HasDaemonLimits d → k < d.opened → Feeds k d piece Starved e → IsGone e k
starved_gone k d e piece l low h =
    let w = h.out_of_memory refl in
    record {
      none = ap (λ (s : List (Option Slot)). session_slot_of s k) w.slots ∙ own_slot no_more k d.opened d.slots keeps_none l.1 ∙ none_left (session_slot_of d.slots k);
      low = subst (λ (x : Core). k < x.opened) (sym h.others.rest) low;
      limits = limits_fed k d piece Starved e h l;
    }
  where
    none_left : (slot : Option Slot) → option_and_then no_more slot ≡ None
    none_left None = refl
    none_left (Some slot) = refl

pub left_gone : (k : ℕ) (d e : Core) → HasDaemonLimits d → k < d.opened → e ≡ after_end_session d k → IsGone e k
left_gone k d e l low is =
    subst (λ (x : Core). IsGone x k) (sym is) (record { none = own_slot no_more k d.opened d.slots keeps_none l.1 ∙ none_after (session_slot_of d.slots k); low = low; limits = limits_ended d k l })
  where
    none_after : (slot : Option Slot) → option_and_then no_more slot ≡ None
    none_after None = refl
    none_after (Some slot) = refl

-- ---- and gives nothing

abbrev none_there : Option Slot
none_there = None

take_none : (n : ℕ) (bytes : List ℕ) → bytes ≡ [] → take n bytes ≡ []
take_none zero bytes none = refl
take_none (suc n) [] none = refl
take_none (suc n) (b ∷ bytes) none = absurd (let wrong : b ∷ bytes ≡ [] = none in cc)

idle_by : (n : ℕ) (d e : Core) (step : DataStep) (buf : List ℕ) → session_slot_of d.slots n ≡ None → Turns n d step e buf → step ≡ Idle
idle_by n d e step buf none t = by (session_in (session_slot_of d.slots n)) (ap session_in none) t.slots
  where
    by : (o : Option (Session DeviceState)) → o ≡ None → TurnsSessions o n d.slots step e.slots buf → step ≡ Idle
    by None at x = x.0
    by (Some s) at x = absurd (let wrong : Some s ≡ None = at in cc)

gone_gives : (owner : Owner) (i k : ℕ) (act : SessionAction) (d e : Core) → ActsOn k d act e → IsGone d k → GivesNothing owner i k act
gone_gives owner i k (Opens port) d e a g = absurd (let low = g.low in let numbered = a.numbered in omega (arith, low, numbered))
gone_gives owner i k (Hears got room bytes) d e a g = tt
gone_gives owner i k (Feed piece fed begins) d e a g = tt
gone_gives owner i k (Forgets told port) d e a g = tt
gone_gives owner i k (Take room bytes) d e a g = inr (a.front ∙ ap (λ (s : Option Slot). take (length bytes) (replies_in s)) g.none ∙ take_none (length bytes) (replies_in none_there) refl)
gone_gives owner i k (Says got bytes) d e a g = tt
gone_gives owner i k (Looks frame) d e a g = tt
gone_gives owner i k (Misses port) d e a g = tt
gone_gives owner i k (Connect port) d e a g = absurd (let wrong : false ≡ true = sym (ap (λ (s : Option Slot). is_waiting (frame_in (session_in s))) g.none) ∙ a.waits in cc)
gone_gives owner i k (Turn room step bytes) d e a g = inr (a.front ∙ ap (λ (v : DataStep). take (written_by v) a.buffer) (idle_by k d e step a.buffer g.none a.turns))
gone_gives owner i k (Shows got bytes) d e a g = tt
gone_gives owner i k Lose d e a g = tt
gone_gives owner i k (HangsUp trace) d e a g = tt
gone_gives owner i k (Leaves port trace) d e a g = tt

pub nothing_given : (owner : Owner) (i n : ℕ) (act : SessionAction) → owner n ≢ Some i → GivesNothing owner i n act
nothing_given owner i n (Opens port) off = off
nothing_given owner i n (Hears got room bytes) off = tt
nothing_given owner i n (Feed piece fed begins) off = tt
nothing_given owner i n (Forgets told port) off = tt
nothing_given owner i n (Take room bytes) off = inl off
nothing_given owner i n (Says got bytes) off = tt
nothing_given owner i n (Looks frame) off = tt
nothing_given owner i n (Misses port) off = tt
nothing_given owner i n (Connect port) off = off
nothing_given owner i n (Turn room step bytes) off = inl off
nothing_given owner i n (Shows got bytes) off = tt
nothing_given owner i n Lose off = tt
nothing_given owner i n (HangsUp trace) off = tt
nothing_given owner i n (Leaves port trace) off = tt

-- of the job whose one session it was
pub gone_gives_job : (owner : Owner) (i k : ℕ) (action : LoopAction) (d e : Core) → HaveOneSession owner → owner k ≡ Some i → Steps d action e → IsGone d k → GivesJobNothing owner i action
gone_gives_job owner i k (Of n act) d e one own s g = by (decide n k)
  where
    by : (n ≡ k) ⊎ (n ≢ k) → GivesNothing owner i n act
    by (inl same) = subst (λ (m : ℕ). GivesNothing owner i m act) (sym same) (gone_gives owner i k act d e (subst (λ (m : ℕ). ActsOn m d act e) same s) g)
    by (inr off) = nothing_given owner i n act (λ theirs. off (one n k i theirs own))
gone_gives_job owner i k Full d e one own s g = tt
gone_gives_job owner i k Waits d e one own s g = tt
gone_gives_job owner i k (Refuses port trace) d e one own s g = tt
gone_gives_job owner i k Turned d e one own s g = tt
gone_gives_job owner i k Stops d e one own s g = tt

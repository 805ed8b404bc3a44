-- Behind the loss of a data connection no frame flows on it, so a turn gives no byte.
use Rattle.std.specs.Option.{option_and_then}
use Rattle.std.proofs.Common.{◌≡◌, ◌≢◌, ◌∙◌, ◌⊎◌, inl, inr, ℕ, true, false, Option, Some, None, List, [], ◌∷◌, length, take, drop, refl, sym, ap, subst}
use Rattle.device_api.specs.State.{DeviceState}
use Rattle.saned_requests.specs.declared.session.Session.{Session}
use Rattle.saned_core.specs.declared.session_slot.DataStep.{DataStep}
use Rattle.saned_core.specs.DaemonLimits.{HasDaemonLimits}
use Rattle.saned_core.specs.DaemonStates.{Core, after_connected, after_end_session, after_lost, after_taken, frame_in, new_session_slot, no_more, on_session, on_session_slot, session_in, session_slot_of, slot_if_open}
use Rattle.saned_core.specs.Turns.{Turns}
use Rattle.saned_serve.specs.SessionActions.{ActsOn, SessionAction, written_by}
use Rattle.saned_serve.specs.SessionActions.SessionAction.{Opens, Hears, Feed, Forgets, Take, Says, Looks, Misses, Connect, Turn, Shows, Lose, HangsUp, Leaves}
use Rattle.saned_serve.specs.Journal.{DaemonRuns, LoopAction}
use Rattle.saned_serve.specs.Journal.LoopAction.{Of, Full, Waits, Refuses, Turned, Stops}
use Rattle.in_flight.proofs.Alike.{keeps_none, keeps_taken}
use Rattle.in_flight.proofs.Slots.{Slot, decide, opened_other, own_slot}
use Rattle.event_world.specs.JobEvents.{IsFlowing, frame_state_at}
use Rattle.programs_refine.proofs.Flowing.{feeds_flow, flows_or_not, frame_apart, frame_same, lost_ends, on_number, turn_apart, turns_nothing}
use Rattle.programs_refine.proofs.Outgoing.{never_both}
use Rattle.programs_refine.proofs.Passed.{Passed, passed_after, passed_first, passed_of, passes_full, passes_other, passes_own, passes_refuses, passes_stops, passes_turned, passes_waits}
use Rattle.programs_refine.proofs.Starving.{limits_behind}

abbrev pub FlowsAt : Core → ℕ → Type 0
FlowsAt d k = IsFlowing (frame_state_at d k)

-- ---- replies that are taken leave the frame as it is

abbrev slot_flows : Option Slot → Type 0
slot_flows slot = IsFlowing (frame_in (session_in slot))

kept_flows : (slot : Slot) (replies : List ℕ) → slot_flows (slot_if_open slot.session replies slot) → slot_flows (Some slot)
kept_flows slot replies flows = by slot.session replies flows
  where
    by : (o : Option (Session DeviceState)) (left : List ℕ) → slot_flows (slot_if_open o left slot) → slot_flows (Some slot)
    by (Some session) left f = f
    by None [] f = absurd f
    by None (b ∷ bytes) f = f

taken_flows : (count : ℕ) (slot : Option Slot) → slot_flows (option_and_then (after_taken count) slot) → slot_flows slot
taken_flows count None flows = flows
taken_flows count (Some slot) flows = kept_flows (record slot { replies = drop count slot.replies }) (drop count slot.replies) flows

-- ---- an act for another session

other_frame : (n k : ℕ) (act : SessionAction) (d e : Core) → k ≢ n → HasDaemonLimits d → ActsOn n d act e → frame_state_at e k ≡ frame_state_at d k
other_frame n k (Opens port) d e off l a =
    ap (λ (z : Core). frame_state_at z k) a.after ∙ ap (λ (z : Option Slot). frame_in (session_in z)) (opened_other d.slots (new_session_slot d.strings d.opened port) k (λ same. off (same ∙ sym a.numbered)))
other_frame n k (Feed piece fed begins) d e off l a = frame_same d e k (a.0.others.slots k off)
other_frame n k (Take room bytes) d e off l a = frame_apart (after_taken (length bytes)) n k d e (keeps_taken (length bytes)) (λ same. off (sym same)) (ap (λ (z : Core). z.slots) a.after)
other_frame n k (Connect port) d e off l a = frame_apart (on_session after_connected) n k d e (on_number after_connected) (λ same. off (sym same)) (ap (λ (z : Core). z.slots) a.after)
other_frame n k (Turn room step bytes) d e off l a = turn_apart n k d e step a.buffer (λ same. off (sym same)) a.turns
other_frame n k Lose d e off l a = frame_apart (on_session after_lost) n k d e (on_number after_lost) (λ same. off (sym same)) (ap (λ (z : Core). z.slots) a)
other_frame n k (Leaves port trace) d e off l a = frame_apart no_more n k d e keeps_none (λ same. off (sym same)) (ap (λ (z : Core). z.slots) a)
other_frame n k (Hears got room bytes) d e off l a = ap (λ (z : Core). frame_state_at z k) a
other_frame n k (Forgets told port) d e off l a = ap (λ (z : Core). frame_state_at z k) a
other_frame n k (Says got bytes) d e off l a = ap (λ (z : Core). frame_state_at z k) a
other_frame n k (Looks frame) d e off l a = ap (λ (z : Core). frame_state_at z k) a.1
other_frame n k (Misses port) d e off l a = ap (λ (z : Core). frame_state_at z k) a.1
other_frame n k (Shows got bytes) d e off l a = ap (λ (z : Core). frame_state_at z k) a
other_frame n k (HangsUp trace) d e off l a = ap (λ (z : Core). frame_state_at z k) a

-- ---- and one for its own

same_flows : (n : ℕ) (d e : Core) → e ≡ d → FlowsAt e n → FlowsAt d n
same_flows n d e same flows = subst (λ (z : Core). FlowsAt z n) same flows

took_flows : (n count : ℕ) (d e : Core) → HasDaemonLimits d → e ≡ record d { slots = on_session_slot (after_taken count) n d.slots } → FlowsAt e n → FlowsAt d n
took_flows n count d e l same flows =
    taken_flows count (session_slot_of d.slots n) (subst slot_flows (own_slot (after_taken count) n d.opened d.slots (keeps_taken count) l.1) (subst (λ (z : Core). FlowsAt z n) same flows))

left_flows : (n : ℕ) (d e : Core) → HasDaemonLimits d → e ≡ after_end_session d n → FlowsAt e n → ⊥
left_flows n d e l same flows = by (session_slot_of d.slots n) (subst slot_flows (own_slot no_more n d.opened d.slots keeps_none l.1) (subst (λ (z : Core). FlowsAt z n) same flows))
  where
    by : (slot : Option Slot) → slot_flows (option_and_then no_more slot) → ⊥
    by None f = f
    by (Some slot) f = f

turned_flows : (n : ℕ) (d e : Core) (step : DataStep) (buf : List ℕ) → HasDaemonLimits d → Turns n d step e buf → FlowsAt e n → FlowsAt d n
turned_flows n d e step buf l t flows = by (flows_or_not (frame_state_at d n))
  where
    by : FlowsAt d n ⊎ (FlowsAt d n → ⊥) → FlowsAt d n
    by (inl f) = f
    by (inr off) = subst IsFlowing (frame_same d e n ((turns_nothing n d e step buf l.1 off t).slots n)) flows

-- with which its data connection is told as lost, or was before
own_quiet : (n : ℕ) (act : SessionAction) (x : Passed) (d e : Core) → HasDaemonLimits d → ActsOn n d act e → (x.dropped ≡ true → FlowsAt d n → ⊥) → (passed_after act x).dropped ≡ true → FlowsAt e n → ⊥
own_quiet n (Opens port) x d e l a before told flows = never_both false told refl
own_quiet n (Hears got room bytes) x d e l a before told flows = before told (same_flows n d e a flows)
own_quiet n (Feed piece fed begins) x d e l a before told flows = before told (feeds_flow n d piece fed e l.1 a.0 flows)
own_quiet n (Forgets out port) x d e l a before told flows = before told (same_flows n d e a flows)
own_quiet n (Take room bytes) x d e l a before told flows = before told (took_flows n (length bytes) d e l a.after flows)
own_quiet n (Says got bytes) x d e l a before told flows = before told (same_flows n d e a flows)
own_quiet n (Looks frame) x d e l a before told flows = before told (same_flows n d e a.1 flows)
own_quiet n (Misses port) x d e l a before told flows = before told (same_flows n d e a.1 flows)
own_quiet n (Connect port) x d e l a before told flows = never_both false told refl
own_quiet n (Turn room step bytes) x d e l a before told flows = before told (turned_flows n d e step a.buffer l a.turns flows)
own_quiet n (Shows got bytes) x d e l a before told flows = before told (same_flows n d e a flows)
own_quiet n Lose x d e l a before told flows = lost_ends n d e l.1 (ap (λ (z : Core). z.slots) a) flows
own_quiet n (HangsUp trace) x d e l a before told flows = before told (same_flows n d e a flows)
own_quiet n (Leaves port trace) x d e l a before told flows = left_flows n d e l a flows

-- ---- behind all acts

act_quiet : (n k : ℕ) (act : SessionAction) (past : List LoopAction) (d e : Core) → HasDaemonLimits d → ActsOn n d act e → ((passed_of past k).dropped ≡ true → FlowsAt d k → ⊥) → (passed_of (Of n act ∷ past) k).dropped ≡ true → FlowsAt e k → ⊥
act_quiet n k act past d e l a before told flows = by (decide k n)
  where
    by : (k ≡ n) ⊎ (k ≢ n) → ⊥
    by (inl on) =
        own_quiet n act (passed_of past n) d e l a (subst (λ (m : ℕ). (passed_of past m).dropped ≡ true → FlowsAt d m → ⊥) on before)
        (sym (ap (λ (x : Passed). x.dropped) (passes_own n act past)) ∙ sym (ap (λ (m : ℕ). (passed_of (Of n act ∷ past) m).dropped) on) ∙ told) (subst (FlowsAt e) on flows)
    by (inr off) = before (sym (ap (λ (x : Passed). x.dropped) (passes_other n k act past (λ same. off (sym same)))) ∙ told) (subst IsFlowing (other_frame n k act d e off l a) flows)

same_quiet : (k : ℕ) (action : LoopAction) (past : List LoopAction) (d e : Core) → passed_of (action ∷ past) k ≡ passed_of past k → e ≡ d → ((passed_of past k).dropped ≡ true → FlowsAt d k → ⊥) → (passed_of (action ∷ past) k).dropped ≡ true → FlowsAt e k → ⊥
same_quiet k action past d e passed same before told flows = before (sym (ap (λ (x : Passed). x.dropped) passed) ∙ told) (same_flows k d e same flows)

-- no frame flows on a data connection that the daemon was told is lost
pub quiet_behind : (journal : List LoopAction) (first d : Core) (k : ℕ) → HasDaemonLimits first → DaemonRuns first journal d → (passed_of journal k).dropped ≡ true → FlowsAt d k → ⊥
quiet_behind [] first d k l runs told flows = never_both (passed_of [] k).dropped told (ap (λ (x : Passed). x.dropped) (passed_first k))
quiet_behind (Of n act ∷ past) first d k l runs told flows = act_quiet n k act past runs.0 d (limits_behind past first runs.0 l runs.1) runs.2 (quiet_behind past first runs.0 k l runs.1) told flows
quiet_behind (Full ∷ past) first d k l runs told flows = same_quiet k Full past runs.0 d (passes_full k past) runs.2 (quiet_behind past first runs.0 k l runs.1) told flows
quiet_behind (Waits ∷ past) first d k l runs told flows = same_quiet k Waits past runs.0 d (passes_waits k past) runs.2 (quiet_behind past first runs.0 k l runs.1) told flows
quiet_behind (Refuses port trace ∷ past) first d k l runs told flows = same_quiet k (Refuses port trace) past runs.0 d (passes_refuses k port trace past) runs.2.1 (quiet_behind past first runs.0 k l runs.1) told flows
quiet_behind (Turned ∷ past) first d k l runs told flows = same_quiet k Turned past runs.0 d (passes_turned k past) runs.2 (quiet_behind past first runs.0 k l runs.1) told flows
quiet_behind (Stops ∷ past) first d k l runs told flows = same_quiet k Stops past runs.0 d (passes_stops k past) runs.2 (quiet_behind past first runs.0 k l runs.1) told flows

-- so a turn gives no byte
pub no_bytes_behind : (journal : List LoopAction) (first d e : Core) (k room : ℕ) (step : DataStep) (bytes : List ℕ) → HasDaemonLimits first → DaemonRuns first journal d → (passed_of journal k).dropped ≡ true → ActsOn k d (Turn room step bytes) e → bytes ≡ []
no_bytes_behind journal first d e k room step bytes l runs told a =
    let none = turns_nothing k d e step a.buffer (limits_behind journal first d l runs).1 (quiet_behind journal first d k l runs told) a.turns in
    a.front ∙ ap (λ (v : DataStep). take (written_by v) a.buffer) none.idle

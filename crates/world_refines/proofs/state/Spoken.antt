-- What a session has of its client's requests, where the session changes in something else.
use Rattle.std.proofs.Common.{◌≡◌, ◌∙◌, ℕ, List, [], ◌∷◌, ◌++◌, Option, Some, None, option_map, Bool, true, false, refl, sym, ap, subst}
use Rattle.device_api.specs.State.{DeviceState}
use Rattle.saned_requests.specs.declared.session.AwaitedAuthorization.{AwaitedAuthorization}
use Rattle.saned_requests.specs.declared.session.DataPhase.{DataPhase as WordCarriage}
use Rattle.saned_requests.specs.declared.session.DataPhase.TheVariants as word
use Rattle.saned_requests.specs.declared.session.Session.{Session}
use Rattle.saned_core.specs.declared.session_slot.DataStep.{DataStep}
use Rattle.saned_core.specs.declared.session_slot.SessionSlot.{SessionSlot}
use Rattle.saned_core.specs.DaemonStates.{after_connected, after_lost, lost_from, on_session_slot, on_session, session_slot_of, session_in}
use Rattle.saned_core.specs.Turns.{StreamsFrom, StreamsIn}
use Rattle.saned_requests.specs.Holding.{held_by}
use Rattle.dispatch.specs.declared.table.place.Lease.{Lease}
use Rattle.std.specs.Option.{option_and_then}
use Rattle.system_model.specs.AbstractMessages.{Challenge, AbstractRequest}
use Rattle.system_model.specs.SystemStates.{JobState}
use Rattle.world_refines.specs.Speaks.{Awaits, IsGreeted, Speaks, SpeaksAs}
use Rattle.world_refines.proofs.state.CoreCallsKeep.{found_on}

-- both were greeted or not, and await the same
pub record IsSame (old new : Session DeviceState) : Type 0 where
  pub greeted : new.greeted ≡ old.greeted
  pub awaited : new.awaited ≡ old.awaited

abbrev pub AreSame : Option (Session DeviceState) → Option (Session DeviceState) → Type 0
AreSame old None = Unit {0}
AreSame None (Some new) = ⊥
AreSame (Some old) (Some new) = IsSame old new

pub same_as : (o : Option (Session DeviceState)) → AreSame o o
same_as None = tt
same_as (Some s) = record { greeted = refl; awaited = refl }

same_map : (g : Session DeviceState → Session DeviceState) → ((s : Session DeviceState) → IsSame s (g s)) → (o : Option (Session DeviceState)) → AreSame o (option_map g o)
same_map g h None = tt
same_map g h (Some s) = h s

same_slot : (g : Session DeviceState → Session DeviceState) → ((s : Session DeviceState) → IsSame s (g s)) → (o : Option (SessionSlot DeviceState)) → AreSame (session_in o) (session_in (option_and_then (on_session g) o))
same_slot g h None = tt
same_slot g h (Some slot) = same_map g h slot.session

-- a call that changes the session of a number
pub same_on : (g : Session DeviceState → Session DeviceState) → ((s : Session DeviceState) → IsSame s (g s)) → (n : ℕ) (slots : List (Option (SessionSlot DeviceState))) → AreSame (session_in (session_slot_of slots n)) (session_in (session_slot_of (on_session_slot (on_session g) n slots) n))
same_on g h n slots = subst (λ (o : Option (SessionSlot DeviceState)). AreSame (session_in (session_slot_of slots n)) (session_in o)) (sym (found_on g n slots)) (same_slot g h (session_slot_of slots n))

pub same_connected : (s : Session DeviceState) → IsSame s (after_connected s)
same_connected s = record { greeted = refl; awaited = refl }

lost_same : (c : WordCarriage) (s : Session DeviceState) → IsSame s (lost_from c s)
lost_same word.Quiet s = record { greeted = refl; awaited = refl }
lost_same (word.Waiting w) s = record { greeted = refl; awaited = refl }
lost_same (word.Streaming w) s = record { greeted = refl; awaited = refl }
lost_same word.Ending s = record { greeted = refl; awaited = refl }

pub same_lost : (s : Session DeviceState) → IsSame s (after_lost s)
same_lost s = lost_same s.transfer s

-- a turn of its data connection
same_is : (old now new : Session DeviceState) → new ≡ now → IsSame old now → IsSame old new
same_is old now new e h = record { greeted = ap (λ (s : Session DeviceState). s.greeted) e ∙ h.greeted; awaited = ap (λ (s : Session DeviceState). s.awaited) e ∙ h.awaited }

streams_from : (o : Option (Lease DeviceState)) (w : ℕ) (old new : Session DeviceState) (step : DataStep) (buf : List ℕ) → StreamsFrom o w old step new buf → IsSame old new
streams_from None w old new step buf g = same_is old old new g.1 (record { greeted = refl; awaited = refl })
streams_from (Some l) w old new step buf g = same_is old _ new g.new_is (record { greeted = refl; awaited = refl })

pub same_streamed : (c : WordCarriage) (old new : Session DeviceState) (step : DataStep) (buf : List ℕ) → StreamsIn c old step new buf → IsSame old new
same_streamed word.Quiet old new step buf g = same_is old old new g.1 (record { greeted = refl; awaited = refl })
same_streamed (word.Waiting w) old new step buf g = same_is old old new g.1 (record { greeted = refl; awaited = refl })
same_streamed (word.Streaming w) old new step buf g = streams_from (held_by old.held w) w old new step buf g
same_streamed word.Ending old new step buf g = same_is old _ new g.1 (record { greeted = refl; awaited = refl })

-- ---- what it has of the requests

greeted_as : (a b : Bool) (todo : List AbstractRequest) → b ≡ a → IsGreeted a todo → IsGreeted b todo
greeted_as a b todo e h = subst (λ (x : Bool). IsGreeted x todo) (sym e) h

greeted_more : (b : Bool) (todo more : List AbstractRequest) → IsGreeted b todo → IsGreeted b (todo ++ more)
greeted_more true todo more h = tt
greeted_more false todo more h = (h.0 ++ more, ap (λ (x : List AbstractRequest). x ++ more) h.1)

awaits_as : (name : List ℕ) (a b : Option AwaitedAuthorization) (sent : Option Challenge) → b ≡ a → Awaits name a sent → Awaits name b sent
awaits_as name a b sent e h = subst (λ (x : Option AwaitedAuthorization). Awaits name x sent) (sym e) h

speaks_by : (name : List ℕ) (p q : JobState) (more : List AbstractRequest) (old new : Session DeviceState) → q.todo ≡ p.todo ++ more → q.session.awaited ≡ p.session.awaited → IsSame old new → SpeaksAs name p old → SpeaksAs name q new
speaks_by name p q more old new todo awaited same h =
    record {
      greeted = subst (IsGreeted new.greeted) (sym todo) (greeted_more new.greeted p.todo more (greeted_as old.greeted new.greeted p.todo same.greeted h.greeted));
      awaits = subst (Awaits name new.awaited) (sym awaited) (awaits_as name old.awaited new.awaited p.session.awaited same.awaited h.awaits);
    }

-- more requests were sent, or none
pub speaks_more : (name : List ℕ) (p q : JobState) (more : List AbstractRequest) (old new : Option (Session DeviceState)) → q.todo ≡ p.todo ++ more → q.session.awaited ≡ p.session.awaited → AreSame old new → Speaks name p old → Speaks name q new
speaks_more name p q more old None todo awaited same h = tt
speaks_more name p q more None (Some new) todo awaited same h = absurd same
speaks_more name p q more (Some old) (Some new) todo awaited same h = speaks_by name p q more old new todo awaited same h

append_none : (todo : List AbstractRequest) → todo ≡ todo ++ []
append_none [] = refl
append_none (q ∷ todo) = ap (λ (x : List AbstractRequest). q ∷ x) (append_none todo)

pub speaks_still : (name : List ℕ) (p q : JobState) (old new : Option (Session DeviceState)) → q.todo ≡ p.todo → q.session.awaited ≡ p.session.awaited → AreSame old new → Speaks name p old → Speaks name q new
speaks_still name p q old new todo awaited same h = speaks_more name p q [] old new (todo ∙ append_none p.todo) awaited same h

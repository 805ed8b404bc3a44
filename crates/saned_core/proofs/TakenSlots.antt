-- What a piece does to one of many slots.
use Rattle.std.proofs.Common.{◌≡◌, ◌∙◌, ℕ, List, Option, Some, None, refl, ap, subst, sym}
use Rattle.std.specs.Prelude.{slice_index_or, slice_set}
use Rattle.std.specs.Option.{option_map, option_and_then}
use Rattle.rand_chacha.specs.ChaCha.{ChaCha}
use Rattle.md5_auth.specs.declared.users.Entry.{Entry}
use Rattle.device_api.specs.State.{DeviceState}
use Rattle.dispatch.specs.declared.table.place.Place.{Place}
use Rattle.dispatch.specs.Table.{table}
use Rattle.saned_requests.specs.Holding.{seen_session}
use Rattle.saned_requests.specs.declared.session.Session.{Session}
use Rattle.saned_core.specs.declared.session_slot.Fed.{Fed}
use Rattle.saned_core.specs.declared.session_slot.Fed.TheVariants.{Over}
use Rattle.saned_core.specs.declared.session_slot.SessionSlot.{SessionSlot}
use Rattle.saned_core.specs.DaemonStates.{kept_if_open, seen_session_slot, seen_session_slots, session_in}
use Rattle.saned_core.specs.Inside.{IsFirstSlot, FeedsAmong, FeedsIf, FeedsPlace, place_state, slot_after_feed, slot_or_none_after_feed}
use Rattle.saned_core.specs.Feeding.{input_in}
use Rattle.saned_core.proofs.SlotNumbers.{first_slot, on_first_slot, same_slot, standing-seen}

kept_after : (g : SessionSlot DeviceState → SessionSlot DeviceState) (o : Option (SessionSlot DeviceState)) → option_and_then kept_if_open (option_map g o) ≡ option_and_then (λ (slot : SessionSlot DeviceState). kept_if_open (g slot)) o
kept_after g None = refl
kept_after g (Some slot) = refl

-- the session of the first place of a number
pub fed_among : {D : Type 0} (f : D → DeviceState) (users : List Entry) (n : ℕ) (slots : List (Option (SessionSlot D))) (k : ℕ) (here new : Option (SessionSlot D)) (registry registry_new : List (Place D)) (stream stream_new : ChaCha) (piece : List ℕ) (fed : Fed)
    → IsFirstSlot n slots k → here ≡ slice_index_or slots k here → FeedsPlace users (place_state f here registry stream) piece fed (place_state f new registry_new stream_new)
    → FeedsAmong n (record { users = users; slots = seen_session_slots f slots; registry = table f registry; stream = stream }) piece fed (record { users = users; slots = seen_session_slots f (slice_set slots k (option_and_then kept_if_open new)); registry = table f registry_new; stream = stream_new })
fed_among f users n slots k here new registry registry_new stream stream_new piece fed i e t =
    let there = option_map (seen_session_slot f) here in
    let after = slot_after_feed fed t.context.session t.rest t.text in
    let own : option_map (seen_session_slot f) (option_and_then kept_if_open new) ≡ option_and_then (slot_or_none_after_feed fed t.context t.rest t.text) there =
    standing-seen f new ∙ ap (option_and_then kept_if_open) t.slot ∙ kept_after after there in
    subst (λ (x : Option (SessionSlot DeviceState)). FeedsIf (session_in x) users n (input_in x) (seen_session_slots f slots) (table f registry) stream piece fed (seen_session_slots f (slice_set slots k (option_and_then kept_if_open new))) (table f registry_new) stream_new)
    (sym (first_slot f n slots k here i e))
    (subst (λ (o : Option (Session DeviceState)). FeedsIf o users n (input_in there) (seen_session_slots f slots) (table f registry) stream piece fed (seen_session_slots f (slice_set slots k (option_and_then kept_if_open new))) (table f registry_new) stream_new)
    (sym t.stood)
    (record { context = t.context; rest = t.rest; text = t.text; feeds = t.feeds; slots_is = on_first_slot f n slots k here (option_and_then kept_if_open new) (slot_or_none_after_feed fed t.context t.rest t.text) i e own; registry_is = t.registry; stream_is = t.stream }))

-- one that is over is as it was
over_seen : {D : Type 0} (f : D → DeviceState) (place : Option (SessionSlot D)) → session_in place ≡ None → session_in (option_map (seen_session_slot f) place) ≡ None
over_seen f None e = refl
over_seen f (Some slot) e = ap (option_map (seen_session f)) e

pub over_among : {D : Type 0} (f : D → DeviceState) (users : List Entry) (n : ℕ) (slots : List (Option (SessionSlot D))) (k : ℕ) (here new : Option (SessionSlot D)) (registry registry_new : List (Place D)) (stream stream_new : ChaCha) (piece : List ℕ)
    → IsFirstSlot n slots k → here ≡ slice_index_or slots k here → session_in here ≡ None → new ≡ here → registry_new ≡ registry → stream_new ≡ stream
    → FeedsAmong n (record { users = users; slots = seen_session_slots f slots; registry = table f registry; stream = stream }) piece Over (record { users = users; slots = seen_session_slots f (slice_set slots k new); registry = table f registry_new; stream = stream_new })
over_among f users n slots k here new registry registry_new stream stream_new piece i e over same tables streams =
    subst (λ (x : Option (SessionSlot DeviceState)). FeedsIf (session_in x) users n (input_in x) (seen_session_slots f slots) (table f registry) stream piece Over (seen_session_slots f (slice_set slots k new)) (table f registry_new) stream_new)
    (sym (first_slot f n slots k here i e))
    (subst (λ (o : Option (Session DeviceState)). FeedsIf o users n (input_in (option_map (seen_session_slot f) here)) (seen_session_slots f slots) (table f registry) stream piece Over (seen_session_slots f (slice_set slots k new)) (table f registry_new) stream_new)
    (sym (over_seen f here over))
    (refl, same_slot f slots k here new e (ap (option_map (seen_session_slot f)) same), ap (table f) tables, streams))

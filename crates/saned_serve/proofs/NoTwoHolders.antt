-- No call of a daemon makes two words stand for one device.
use Rattle.std.proofs.Common.{◌≡◌, ◌≢◌, ◌⊎◌, inl, inr, ℕ, zero, suc, Bool, true, false, Option, None, Some, List, [], ◌∷◌, ◌++◌, length, refl, sym, ap, ◌∙◌, subst}
use Rattle.std.specs.Option.{option_and_then, option_map}
use Rattle.device_api.specs.State.{DeviceState, after_cancel}
use Rattle.device_api.proofs.SameLaws.{cancel_same, read_same}
use Rattle.dispatch.specs.declared.table.place.Lease.{Lease}
use Rattle.dispatch.specs.Table.{Table, TableInvariant}
use Rattle.saned_requests.specs.declared.session.DataPhase.{DataPhase}
use Rattle.saned_requests.specs.declared.session.DataPhase.TheVariants.{Quiet, Waiting, Streaming, Ending}
use Rattle.saned_requests.specs.declared.session.Session.{Session}
use Rattle.saned_requests.specs.declared.session.StringSize.{StringSize}
use Rattle.saned_requests.specs.Holding.{held_by, on_word, cancelled_lease, with_cancelled, given_back, fresh_session}
use Rattle.saned_requests.specs.LeaseLaws.{HoldsWell, IsElsewhere, KeepsLeases}
use Rattle.saned_requests.specs.RequestAnswers.{RequestContext, RequestOutOfMemory}
use Rattle.saned_requests.specs.RequestAnswers.RequestOutOfMemory.{Under, All}
use Rattle.saned_requests.proofs.Keeping.{Moves, at_word, keeps_leases}
use Rattle.saned_requests.proofs.Keeping.Moves.{Moved}
use Rattle.saned_requests.proofs.Moving.{answers_moves, falters_moves}
use Rattle.saned_requests.proofs.Returning.{sound_all, lasts_all}
use Rattle.saned_requests.proofs.LeaseWords.{on_word-none}
use Rattle.saned_core.specs.declared.session_slot.SessionSlot.{SessionSlot}
use Rattle.saned_core.specs.declared.session_slot.Fed.{Fed}
use Rattle.saned_core.specs.declared.session_slot.Fed.TheVariants.{Standing, Over, Starved}
use Rattle.saned_core.specs.declared.session_slot.DataStep.{DataStep}
use Rattle.saned_core.specs.DaemonStates.{Core, is_slot_number, session_slot_of, session_in, session_of, on_session_slot, on_session, with_session, with_session_slot, slot_if_open, after_taken, after_reply_bytes, no_more, new_session_slot, after_connected, after_lost, lost_from, after_open_session, session_let_go}
use Rattle.saned_core.specs.Feeding.{AnswersAll, AnsweredSoFar, FeedEndsSession, Feeds, OutOfMemoryNext, core_context, input_of, table_let_go}
use Rattle.saned_core.specs.Inside.{FeedsContext, slot_or_none_after_feed, slot_after_feed, registry_after}
use Rattle.saned_core.specs.Feeding.FeedEndsSession.{Garbled, Ended}
use Rattle.saned_core.specs.Turns.{TurnsSessions, StreamsIn, StreamsFrom}
use Rattle.saned_core.proofs.FeedCases.{feeds_in}
use Rattle.saned_serve.specs.SessionActions.{SessionAction, ActsOn}
use Rattle.saned_serve.specs.SessionActions.SessionAction.{Opens, Hears, Feed, Forgets, Take, Says, Looks, Misses, Connect, Turn, Shows, Lose, HangsUp, Leaves}
use Rattle.saned_serve.specs.Journal.{LoopAction, Steps, DaemonRuns}
use Rattle.saned_serve.specs.Journal.LoopAction.{Of, Full, Waits, Refuses, Turned, Stops}
use Rattle.saned_serve.specs.HeldLeases.{held_of, held_in, leases_at, AreHeldApart, HoldsApart}
use Rattle.saned_serve.proofs.SlotCounts.{decide}

abbrev Held : Type 0
Held = List (Option (Lease DeviceState))

abbrev Place : Type 0
Place = Option (SessionSlot DeviceState)

-- ---- what one session does to its leases and to the table

record Keeps (t : Table) (h : Held) (u : Table) (i : Held) : Type 0 where
  pub own : HoldsWell t h → HoldsWell u i
  pub others : (m : Lease DeviceState) → HoldsWell t h → IsElsewhere m t h → IsElsewhere m u i

keeps_still : (t : Table) (h i : Held) → i ≡ h → Keeps t h t i
keeps_still t h i same = subst (λ x. Keeps t h t x) (sym same) (record { own = λ well. well; others = λ m well there. there })

keeps_then : {t u v : Table} {h i j : Held} → Keeps t h u i → Keeps u i v j → Keeps t h v j
keeps_then a b = record { own = λ well. b.own (a.own well); others = λ m well there. b.others m (a.own well) (a.others m well there) }

keeps_context : (d e : RequestContext) → KeepsLeases d e → Keeps d.registry d.session.held e.registry e.session.held
keeps_context d e keeps = record { own = keeps.own; others = keeps.others }

no_lease : {A : Type 0} (w : ℕ) (l : Lease DeviceState) → held_by [] w ≡ Some l → A
unfolding held_by
no_lease w l e = absurd (let wrong : None ≡ Some l = e in cc)

-- all goes back
keeps_back : (t : Table) (h : Held) → Keeps t h (given_back t h) []
keeps_back t h = record {
  own = λ well. record { sound = sound_all t h well; leases = λ w l e. no_lease w l e; apart = λ v w l m e f. no_lease v l e };
  others = λ m well there. record { lease = lasts_all t h m well there; apart = λ w l e. no_lease w l e };
}

-- no word stands for anything
abbrev IsBare : Held → Type 0
IsBare h = (w : ℕ) (l : Lease DeviceState) → held_by h w ≡ Some l → ⊥

keeps_bare : (t : Table) (h i : Held) → IsBare i → Keeps t h t i
keeps_bare t h i bare = record {
  own = λ well. record { sound = well.sound; leases = λ w l e. absurd (bare w l e); apart = λ v w l m e f. absurd (bare v l e) };
  others = λ m well there. record { lease = there.lease; apart = λ w l e. absurd (bare w l e) };
}

-- ---- one place of the daemon

held_apart : (t : Table) (slots : List Place) (u : Table) (slots' : List Place) (k : ℕ) → Keeps t (leases_at slots k) u (leases_at slots' k) → ((j : ℕ) → j ≢ k → leases_at slots' j ≡ leases_at slots j) → AreHeldApart t slots → AreHeldApart u slots'
held_apart t slots u slots' k keeps off was = record {
  sound = mine.sound;
  own = λ j. own j (decide j k);
  apart = λ i j w l differ e. apart i j w l differ e (decide i k) (decide j k);
}
  where
    mine : HoldsWell u (leases_at slots' k)
    mine = keeps.own (was.own k)

    -- a lease of another place
    there : (i w : ℕ) (l : Lease DeviceState) → i ≢ k → held_by (leases_at slots' i) w ≡ Some l → IsElsewhere l u (leases_at slots' k)
    there i w l differ e = keeps.others l (was.own k) (was.apart i k w l differ (sym (ap (λ h. held_by h w) (off i differ)) ∙ e))

    old : (i w : ℕ) (l : Lease DeviceState) → i ≢ k → held_by (leases_at slots' i) w ≡ Some l → held_by (leases_at slots i) w ≡ Some l
    old i w l differ e = sym (ap (λ h. held_by h w) (off i differ)) ∙ e

    own : (j : ℕ) → (j ≡ k) ⊎ (j ≢ k) → HoldsWell u (leases_at slots' j)
    own j (inl same) = subst (λ i. HoldsWell u (leases_at slots' i)) (sym same) mine
    own j (inr differ) = record {
      sound = mine.sound;
      leases = λ w l e. (there j w l differ e).lease;
      apart = λ v w l m e f n. (was.own j).apart v w l m (old j v l differ e) (old j w m differ f) n;
    }

    apart : (i j w : ℕ) (l : Lease DeviceState) → i ≢ j → held_by (leases_at slots' i) w ≡ Some l → (i ≡ k) ⊎ (i ≢ k) → (j ≡ k) ⊎ (j ≢ k) → IsElsewhere l u (leases_at slots' j)
    apart i j w l differ e (inl a) (inl b) = absurd (differ (a ∙ sym b))
    apart i j w l differ e (inr a) (inl b) = subst (λ x. IsElsewhere l u (leases_at slots' x)) (sym b) (there i w l a e)
    apart i j w l differ e (inl a) (inr b) = record {
      lease = mine.leases w l (subst (λ x. held_by (leases_at slots' x) w ≡ Some l) a e);
      apart = λ v m f same. (there j v m b f).apart w l (subst (λ x. held_by (leases_at slots' x) w ≡ Some l) a e) (sym same);
    }
    apart i j w l differ e (inr a) (inr b) = record {
      lease = (there i w l a e).lease;
      apart = λ v m f. (was.apart i j w l differ (old i w l a e)).apart v m (old j v m b f);
    }

-- where the slot of a number is
record IsAt (f : SessionSlot DeviceState → Place) (n : ℕ) (slots : List Place) : Type 0 where
  pub place : ℕ
  pub was : leases_at slots place ≡ held_in (session_slot_of slots n)
  pub now : leases_at (on_session_slot f n slots) place ≡ held_in (option_and_then f (session_slot_of slots n))
  pub off : (j : ℕ) → j ≢ place → leases_at (on_session_slot f n slots) j ≡ leases_at slots j

is_at_by : (f : SessionSlot DeviceState → Place) (n : ℕ) (slot : Place) (slots : List Place) (b : Bool) → is_slot_number n slot ≡ b → IsAt f n slots → IsAt f n (slot ∷ slots)
unfolding on_session_slot session_slot_of
is_at_by f n slot slots true e rest = record {
  place = 0;
  was = rw e refl;
  now = rw e refl;
  off = λ j differ. by_place j differ;
}
  where
    by_place : (j : ℕ) → j ≢ 0 → leases_at (on_session_slot f n (slot ∷ slots)) j ≡ leases_at (slot ∷ slots) j
    by_place zero differ = absurd (differ refl)
    by_place (suc j) differ = rw e refl
is_at_by f n slot slots false e rest = record {
  place = suc rest.place;
  was = rw e rest.was;
  now = rw e rest.now;
  off = λ j differ. by_place j differ;
}
  where
    by_place : (j : ℕ) → j ≢ suc rest.place → leases_at (on_session_slot f n (slot ∷ slots)) j ≡ leases_at (slot ∷ slots) j
    by_place zero differ = rw e refl
    by_place (suc j) differ = rw e (rest.off j (λ same. differ (ap suc same)))

is_at : (f : SessionSlot DeviceState → Place) (n : ℕ) (slots : List Place) → IsAt f n slots
unfolding on_session_slot session_slot_of
is_at f n [] = record { place = 0; was = refl; now = refl; off = λ j differ. refl }
is_at f n (slot ∷ slots) = is_at_by f n slot slots (is_slot_number n slot) refl (is_at f n slots)

-- something else is done to the slot of a number
on_apart : (t u : Table) (slots : List Place) (f : SessionSlot DeviceState → Place) (n : ℕ) → Keeps t (held_in (session_slot_of slots n)) u (held_in (option_and_then f (session_slot_of slots n))) → AreHeldApart t slots → AreHeldApart u (on_session_slot f n slots)
on_apart t u slots f n keeps was =
    let at = is_at f n slots in
    held_apart t slots u (on_session_slot f n slots) at.place (subst (λ i. Keeps t (leases_at slots at.place) u i) (sym at.now) (subst (λ h. Keeps t h u (held_in (option_and_then f (session_slot_of slots n)))) (sym at.was) keeps)) at.off was

-- ---- each call

-- a session is opened
record TakesSlot (slots : List Place) (new : SessionSlot DeviceState) : Type 0 where
  pub place : ℕ
  pub now : (leases_at (with_session_slot slots new) place ≡ []) ⊎ (leases_at (with_session_slot slots new) place ≡ held_in (Some new))
  pub off : (j : ℕ) → j ≢ place → leases_at (with_session_slot slots new) j ≡ leases_at slots j

slots_new : (slots : List Place) (new : SessionSlot DeviceState) → TakesSlot slots new
unfolding with_session_slot
slots_new [] new = record { place = 0; now = inl refl; off = λ j differ. refl }
slots_new (None ∷ slots) new = record { place = 0; now = inr refl; off = λ j differ. by_place j differ }
  where
    by_place : (j : ℕ) → j ≢ 0 → leases_at (Some new ∷ slots) j ≡ leases_at (None ∷ slots) j
    by_place zero differ = absurd (differ refl)
    by_place (suc j) differ = refl
slots_new (Some slot ∷ slots) new =
    let rest = slots_new slots new in
    record { place = suc rest.place; now = rest.now; off = λ j differ. by_place rest j differ }
  where
    by_place : (rest : TakesSlot slots new) (j : ℕ) → j ≢ suc rest.place → leases_at (Some slot ∷ with_session_slot slots new) j ≡ leases_at (Some slot ∷ slots) j
    by_place rest zero differ = refl
    by_place rest (suc j) differ = rest.off j (λ same. differ (ap suc same))

bare_none : IsBare []
bare_none w l e = no_lease w l e

bare_fresh : (strings : StringSize) (port : ℕ) → IsBare (fresh_session strings port).held
unfolding held_by
bare_fresh strings port zero l e = let wrong : None ≡ Some l = e in cc
bare_fresh strings port (suc zero) l e = let wrong : None ≡ Some l = e in cc
bare_fresh strings port (suc (suc zero)) l e = let wrong : None ≡ Some l = e in cc
bare_fresh strings port (suc (suc (suc zero))) l e = let wrong : None ≡ Some l = e in cc
bare_fresh strings port (suc (suc (suc (suc w)))) l e = let wrong : None ≡ Some l = e in cc

opened_apart : (d : Core) (port : ℕ) → HoldsApart d → HoldsApart (after_open_session d port)
opened_apart d port was =
    let new = new_session_slot d.strings d.opened port in
    let at = slots_new d.slots new in
    held_apart d.registry d.slots d.registry (with_session_slot d.slots new) at.place (keeps_bare d.registry (leases_at d.slots at.place) (leases_at (with_session_slot d.slots new) at.place) (bare at)) at.off was
  where
    bare : (at : TakesSlot d.slots (new_session_slot d.strings d.opened port)) → IsBare (leases_at (with_session_slot d.slots (new_session_slot d.strings d.opened port)) at.place)
    bare at = elim at.now [ inl none ↦ subst (λ h. IsBare h) (sym none) bare_none | inr some ↦ subst (λ h. IsBare h) (sym some) (bare_fresh d.strings port) ]

-- requests are answered
all_answered : (users : _) (d : RequestContext) (requests : _) (told : _) (e : RequestContext) → AnswersAll users d requests told e → Keeps d.registry d.session.held e.registry e.session.held
all_answered users d [] told e answers = subst (λ x. Keeps d.registry d.session.held x.registry x.session.held) (sym answers.1) (keeps_still d.registry d.session.held d.session.held refl)
all_answered users d (q ∷ qs) told e answers =
    keeps_then (keeps_context d answers.1 (keeps_leases d answers.1 (answers_moves users d answers.1 q answers.0 answers.3))) (all_answered users answers.1 qs answers.2 e answers.5)

closed : (users : _) (d : RequestContext) (rest : List ℕ) (told : _) (e : RequestContext) → FeedEndsSession users d rest told e → Keeps d.registry d.session.held e.registry e.session.held
closed users d rest told e (Garbled bad nothing same) = subst (λ x. Keeps d.registry d.session.held x.registry x.session.held) (sym same) (keeps_still d.registry d.session.held d.session.held refl)
closed users d rest told e (Ended left q said takes answers ends) = keeps_context d e (keeps_leases d e (answers_moves users d e q said answers))

faltered : (users : _) (d : RequestContext) (q : _) (e : RequestContext) → RequestOutOfMemory users d q e → Keeps d.registry d.session.held e.registry e.session.held
faltered users d q e (Under at) = keeps_context d e (keeps_leases d e (falters_moves d e q at))
faltered users d q e (All said answers) = keeps_context d e (keeps_leases d e (answers_moves users d e q said answers))

ran_out : (users : _) (d : RequestContext) (rest : List ℕ) (e : RequestContext) → (e ≡ d) ⊎ OutOfMemoryNext users d rest e → Keeps d.registry d.session.held e.registry e.session.held
ran_out users d rest e (inl same) = subst (λ x. Keeps d.registry d.session.held x.registry x.session.held) (sym same) (keeps_still d.registry d.session.held d.session.held refl)
ran_out users d rest e (inr next) = faltered users d next.request e next.out_of_memory

went_on : (users : _) (d : RequestContext) (old piece rest : List ℕ) (mid : RequestContext) (text : List ℕ) → AnsweredSoFar (record { users = users; context = d; before = old; piece = piece }) (record { context = mid; rest = rest; text = text }) → Keeps d.registry d.session.held mid.registry mid.session.held
went_on users d old piece rest mid text progress = all_answered users d progress.requests progress.told mid progress.answers

fed_context : (fed : Fed) (users : _) (d : RequestContext) (old piece rest : List ℕ) (e : RequestContext) (text : List ℕ) → FeedsContext fed (record { users = users; context = d; before = old; piece = piece }) (record { context = e; rest = rest; text = text }) → Keeps d.registry d.session.held e.registry e.session.held
fed_context Standing users d old piece rest e text feeds = went_on users d old piece rest e text feeds.so_far
fed_context Over users d old piece rest e text feeds = keeps_then (went_on users d old piece feeds.rest feeds.mid feeds.front feeds.so_far) (closed users feeds.mid feeds.rest feeds.last e feeds.closes)
fed_context Starved users d old piece rest e text feeds = keeps_then (went_on users d old piece feeds.rest feeds.mid feeds.text feeds.so_far) (ran_out users feeds.mid feeds.rest e feeds.out_of_memory)

-- a slot without a session holds nothing, whether it stands or not
none_stands : (replies : List ℕ) (slot : SessionSlot DeviceState) → slot.session ≡ None → held_in (slot_if_open None replies slot) ≡ []
none_stands [] slot none = refl
none_stands (byte ∷ bytes) slot none = ap held_of none

slot_held : (fed : Fed) (d : RequestContext) (rest text : List ℕ) (slot : SessionSlot DeviceState) → Keeps d.registry d.session.held (registry_after fed d) (held_in (slot_or_none_after_feed fed d rest text slot))
slot_held Standing d rest text slot = keeps_still d.registry d.session.held d.session.held refl
slot_held Over d rest text slot = subst (λ h. Keeps d.registry d.session.held (table_let_go d) h) (sym (none_stands (slot_after_feed Over d.session rest text slot).replies (slot_after_feed Over d.session rest text slot) refl)) (keeps_back d.registry d.session.held)
slot_held Starved d rest text slot = subst (λ h. Keeps d.registry d.session.held (table_let_go d) h) (sym (none_stands [] (slot_after_feed Starved d.session rest text slot) refl)) (keeps_back d.registry d.session.held)

-- of the slot of a number whose session goes on
with_own : (slot : Place) (s : Session DeviceState) (t u : Table) (f : SessionSlot DeviceState → Place) → session_in slot ≡ Some s → ((slot : SessionSlot DeviceState) → Keeps t s.held u (held_in (f slot))) → Keeps t (held_in slot) u (held_in (option_and_then f slot))
with_own None s t u f is keeps = absurd (let wrong : None ≡ Some s = is in cc)
with_own (Some slot) s t u f is keeps = subst (λ h. Keeps t h u (held_in (f slot))) (sym (ap held_of is)) (keeps slot)

fed_if : (o : Option (Session DeviceState)) (d : Core) (n : ℕ) (piece : List ℕ) (fed : Fed) (e : Core) → session_of d n ≡ o → Feeds n d piece fed e → HoldsApart d → HoldsApart e
fed_if None d n piece fed e is feeds was = subst HoldsApart (sym (feeds.idle is).1) was
fed_if (Some s) d n piece fed e is feeds was =
    let at = feeds_in n d piece fed e s is feeds in
    let keeps = fed_context fed d.users (core_context d s) (input_of d n) piece at.rest at.context at.text at.feeds in
    let now = on_apart d.registry (registry_after fed at.context) d.slots (slot_or_none_after_feed fed at.context at.rest at.text) n
    (with_own (session_slot_of d.slots n) s d.registry (registry_after fed at.context) (slot_or_none_after_feed fed at.context at.rest at.text) is (λ slot. keeps_then keeps (slot_held fed at.context at.rest at.text slot))) was in
    subst (λ t. AreHeldApart t e.slots) (sym at.registry_is) (subst (λ xs. AreHeldApart (registry_after fed at.context) xs) (sym at.slots_is) now)

-- nothing of the leases changes
same_apart : (d : Core) (f : SessionSlot DeviceState → Place) (n : ℕ) → ((slot : SessionSlot DeviceState) → held_in (f slot) ≡ held_in (Some slot)) → HoldsApart d → AreHeldApart d.registry (on_session_slot f n d.slots)
same_apart d f n same was = on_apart d.registry d.registry d.slots f n (keeps (session_slot_of d.slots n)) was
  where
    keeps : (slot : Place) → Keeps d.registry (held_in slot) d.registry (held_in (option_and_then f slot))
    keeps None = keeps_still d.registry [] [] refl
    keeps (Some slot) = keeps_still d.registry (held_in (Some slot)) (held_in (f slot)) (same slot)

taken_by : (o : Option (Session DeviceState)) (replies : List ℕ) (slot : SessionSlot DeviceState) → slot.session ≡ o → held_in (slot_if_open o replies slot) ≡ held_of o
taken_by (Some session) replies slot e = ap held_of e
taken_by None replies slot e = none_stands replies slot e

taken_same : (count : ℕ) (slot : SessionSlot DeviceState) → held_in (after_taken count slot) ≡ held_in (Some slot)
taken_same count slot = taken_by slot.session (after_reply_bytes count slot).replies (after_reply_bytes count slot) refl

connected_by : (o : Option (Session DeviceState)) → held_of (option_map after_connected o) ≡ held_of o
connected_by None = refl
connected_by (Some s) = refl

-- ---- a device of a word changes

keeps_moves : (from : Core) (s : Session DeviceState) (t u : Table) (i : Held) → Moves s.held t i u → Keeps t s.held u i
keeps_moves from s t u i moves =
    let d : RequestContext = record { session = s; registry = t; stream = from.stream } in
    let e : RequestContext = record { session = record s { held = i }; registry = u; stream = from.stream } in
    keeps_context d e (keeps_leases d e moves)

cancelled : (from : Core) (s : Session DeviceState) (t : Table) (w : ℕ) (o : Option (Lease DeviceState)) → held_by s.held w ≡ o → Keeps t s.held t (with_cancelled s.held w)
cancelled from s t w None e =
    keeps_still t s.held (with_cancelled s.held w) (at_word cancelled_lease s.held w ∙ ap (λ (x : Option (Lease DeviceState)). on_word (λ _. cancelled_lease x) s.held w) e ∙ on_word-none s.held w e)
cancelled from s t w (Some l) e =
    let written = at_word cancelled_lease s.held w ∙ ap (λ (x : Option (Lease DeviceState)). on_word (λ _. cancelled_lease x) s.held w) e in
    keeps_moves from s t t (with_cancelled s.held w) (Moved w l (after_cancel l.device) e (cancel_same l.device).info written refl)

lost_by : (from : Core) (c : DataPhase) (s : Session DeviceState) (t : Table) → Keeps t s.held t (lost_from c s).held
lost_by from Quiet s t = keeps_still t s.held s.held refl
lost_by from (Waiting word) s t = keeps_still t s.held s.held refl
lost_by from (Streaming word) s t = cancelled from s t word (held_by s.held word) refl
lost_by from Ending s t = keeps_still t s.held s.held refl

lost_in : (from : Core) (o : Option (Session DeviceState)) (t : Table) → Keeps t (held_of o) t (held_of (option_map after_lost o))
lost_in from None t = keeps_still t [] [] refl
lost_in from (Some s) t = lost_by from s.transfer s t

lost_apart : (d : Core) (n : ℕ) → HoldsApart d → AreHeldApart d.registry (on_session_slot (on_session after_lost) n d.slots)
lost_apart d n was = on_apart d.registry d.registry d.slots (on_session after_lost) n (keeps (session_slot_of d.slots n)) was
  where
    keeps : (slot : Place) → Keeps d.registry (held_in slot) d.registry (held_in (option_and_then (on_session after_lost) slot))
    keeps None = keeps_still d.registry [] [] refl
    keeps (Some slot) = lost_in d slot.session d.registry

-- a record is taken
from_keeps : (from : Core) (s t : Session DeviceState) (r : Table) (o : Option (Lease DeviceState)) (word : ℕ) (step : DataStep) (buf : List ℕ) → held_by s.held word ≡ o → StreamsFrom o word s step t buf → Keeps r s.held r t.held
from_keeps from s t r None word step buf e streams = keeps_still r s.held t.held (ap (λ (x : Session DeviceState). x.held) streams.1)
from_keeps from s t r (Some lease) word step buf e streams =
    keeps_moves from s r r t.held (Moved word lease streams.after e (read_same lease.device streams.after streams.answer streams.window streams.reads).info (ap (λ (x : Session DeviceState). x.held) streams.new_is) refl)

streams_keep : (from : Core) (c : DataPhase) (s t : Session DeviceState) (r : Table) (step : DataStep) (buf : List ℕ) → StreamsIn c s step t buf → Keeps r s.held r t.held
streams_keep from Quiet s t r step buf streams = keeps_still r s.held t.held (ap (λ (x : Session DeviceState). x.held) streams.1)
streams_keep from (Waiting word) s t r step buf streams = keeps_still r s.held t.held (ap (λ (x : Session DeviceState). x.held) streams.1)
streams_keep from (Streaming word) s t r step buf streams = from_keeps from s t r (held_by s.held word) word step buf refl streams
streams_keep from Ending s t r step buf streams = keeps_still r s.held t.held (ap (λ (x : Session DeviceState). x.held) streams.1)

turned_by : (o : Option (Session DeviceState)) (d : Core) (n : ℕ) (step : DataStep) (slots : List Place) (buf : List ℕ) → session_in (session_slot_of d.slots n) ≡ o → TurnsSessions o n d.slots step slots buf → HoldsApart d → AreHeldApart d.registry slots
turned_by None d n step slots buf is turns was = subst (λ xs. AreHeldApart d.registry xs) (sym turns.1) was
turned_by (Some s) d n step slots buf is turns was =
    let keeps = streams_keep d s.transfer s turns.0 d.registry step buf turns.1 in
    subst (λ xs. AreHeldApart d.registry xs) (sym turns.2) (on_apart d.registry d.registry d.slots (with_session turns.0) n (with_own (session_slot_of d.slots n) s d.registry d.registry (with_session turns.0) is (λ slot. keeps)) was)

-- a session ends
gone_there : (slot : Place) → held_in (option_and_then no_more slot) ≡ []
gone_there None = refl
gone_there (Some slot) = refl

ended_by : (o : Option (Session DeviceState)) (d : Core) (n : ℕ) → session_of d n ≡ o → HoldsApart d → AreHeldApart (session_let_go d.registry o) (on_session_slot no_more n d.slots)
ended_by None d n is was =
    on_apart d.registry d.registry d.slots no_more n (keeps_still d.registry (held_in (session_slot_of d.slots n)) (held_in (option_and_then no_more (session_slot_of d.slots n))) (gone_there (session_slot_of d.slots n) ∙ sym (ap held_of is))) was
ended_by (Some s) d n is was =
    let keeps = subst (λ h. Keeps d.registry h (given_back d.registry s.held) []) (sym (ap held_of is)) (keeps_back d.registry s.held) in
    on_apart d.registry (given_back d.registry s.held) d.slots no_more n (subst (λ i. Keeps d.registry (held_in (session_slot_of d.slots n)) (given_back d.registry s.held) i) (sym (gone_there (session_slot_of d.slots n))) keeps) was

-- ---- a journal

does_apart : (act : SessionAction) (id : ℕ) (d e : Core) → ActsOn id d act e → HoldsApart d → HoldsApart e
does_apart (Opens port) id d e does was = subst (λ x. HoldsApart x) (sym does.after) (opened_apart d port was)
does_apart (Hears got room bytes) id d e does was = subst (λ x. HoldsApart x) (sym does) was
does_apart (Feed piece fed begins) id d e does was = fed_if (session_of d id) d id piece fed e refl does.0 was
does_apart (Forgets told port) id d e does was = subst (λ x. HoldsApart x) (sym does) was
does_apart (Take room bytes) id d e does was = subst (λ x. HoldsApart x) (sym does.after) (same_apart d (after_taken (length bytes)) id (taken_same (length bytes)) was)
does_apart (Says got bytes) id d e does was = subst (λ x. HoldsApart x) (sym does) was
does_apart (Looks frame) id d e does was = subst (λ x. HoldsApart x) (sym does.1) was
does_apart (Misses port) id d e does was = subst (λ x. HoldsApart x) (sym does.1) was
does_apart (Connect port) id d e does was = subst (λ x. HoldsApart x) (sym does.after) (same_apart d (on_session after_connected) id (λ slot. connected_by slot.session) was)
does_apart (Turn room step bytes) id d e does was =
    subst (λ x. HoldsApart x) (sym does.turns.others) (turned_by (session_in (session_slot_of d.slots id)) d id step e.slots does.buffer refl does.turns.slots was)
does_apart (Shows got bytes) id d e does was = subst (λ x. HoldsApart x) (sym does) was
does_apart Lose id d e does was = subst (λ x. HoldsApart x) (sym does) (lost_apart d id was)
does_apart (HangsUp trace) id d e does was = subst (λ x. HoldsApart x) (sym does) was
does_apart (Leaves port trace) id d e does was = subst (λ x. HoldsApart x) (sym does) (ended_by (session_of d id) d id refl was)

steps_apart : (action : LoopAction) (d e : Core) → Steps d action e → HoldsApart d → HoldsApart e
steps_apart (Of id act) d e steps was = does_apart act id d e steps was
steps_apart Full d e steps was = subst (λ x. HoldsApart x) (sym steps) was
steps_apart Waits d e steps was = subst (λ x. HoldsApart x) (sym steps) was
steps_apart (Refuses port trace) d e steps was = subst (λ x. HoldsApart x) (sym steps.1) was
steps_apart Turned d e steps was = subst (λ x. HoldsApart x) (sym steps) was
steps_apart Stops d e steps was = subst (λ x. HoldsApart x) (sym steps) was

pub runs_apart : (journal : List LoopAction) (d e : Core) → DaemonRuns d journal e → HoldsApart d → HoldsApart e
runs_apart [] d e runs was = subst (λ x. HoldsApart x) (sym runs) was
runs_apart (action ∷ past) d e runs was = steps_apart action runs.0 e runs.2 (runs_apart past d runs.0 runs.1 was)

pub within_apart : (since past : List LoopAction) (d e : Core) → DaemonRuns d (since ++ past) e → HoldsApart d → (mid : Core) × DaemonRuns d past mid × HoldsApart mid
within_apart [] past d e runs was = (e, runs, runs_apart past d e runs was)
within_apart (action ∷ since) past d e runs was = within_apart since past d runs.0 runs.1 was

-- ---- a new daemon

none_at : (k : ℕ) → leases_at (None ∷ None ∷ None ∷ None ∷ None ∷ None ∷ None ∷ None ∷ []) k ≡ []
none_at zero = refl
none_at (suc zero) = refl
none_at (suc (suc zero)) = refl
none_at (suc (suc (suc zero))) = refl
none_at (suc (suc (suc (suc zero)))) = refl
none_at (suc (suc (suc (suc (suc zero))))) = refl
none_at (suc (suc (suc (suc (suc (suc zero)))))) = refl
none_at (suc (suc (suc (suc (suc (suc (suc zero))))))) = refl
none_at (suc (suc (suc (suc (suc (suc (suc (suc k)))))))) = refl

pub new_apart : (d : Core) → TableInvariant d.registry → d.slots ≡ None ∷ None ∷ None ∷ None ∷ None ∷ None ∷ None ∷ None ∷ [] → HoldsApart d
new_apart d sound none = record {
  sound = sound;
  own = λ k. record { sound = sound; leases = λ w l e. absurd (bare k w l e); apart = λ v w l m e f. absurd (bare k v l e) };
  apart = λ j k w l differ e. absurd (bare j w l e);
}
  where
    bare : (k : ℕ) → IsBare (leases_at d.slots k)
    bare k = subst (λ h. IsBare h) (sym (ap (λ xs. leases_at xs k) none ∙ none_at k)) bare_none

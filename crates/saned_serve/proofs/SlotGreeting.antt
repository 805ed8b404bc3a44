-- Slots one by one.
use Rattle.std.proofs.Common.{◌≡◌, ◌≢◌, ◌≤◌, ◌<◌, ◌⊎◌, inl, inr, ℕ, zero, suc, ◌+◌, ◌-◌, Bool, true, false, ◌||◌, cond, Option, None, Some, unwrap_or, List, [], ◌∷◌, ◌++◌, length, take, get_or, slice_set, refl, sym, ap, ◌∙◌, subst, arith}
use Rattle.std.proofs.Math.Dec.{eqb}
use Rattle.std.proofs.lemmas.Bool.{eq-eqb}
use Rattle.saned_core.specs.DaemonStates.{Core}
use Rattle.saned_serve.specs.ConnectionTraces.{ConnectionTrace, lost_in, trace_bytes_written}
use Rattle.saned_serve.specs.ListenerTraces.{ListenerTrace}
use Rattle.saned_serve.specs.Journal.{LoopAction, SessionProjection, projection_of, JournalLeads, tally_of, after_tally, empty_projection, has_stopped, has_asked, open_sessions, most_sessions, IsBehindItsTurn}
use Rattle.saned_serve.specs.Inside.{tally_with, ImageTraceMatchesIn, LinkMatches, HasGoneOn, JournalGoesOn, LeavesSession, SessionHasEnded, IsDue, link_at, one_link, links_below, HadTurn, LoopInvariant, WentOn, TookTurn, HasTakenTurns, HasTakenAllTurns, Shuts, KeepsSession, IsToBeLeft, Empties, HasGreeted, Greets, ClosesAll, session_turn, serving_state}
use Rattle.saned_serve.specs.Journal.LoopAction.{Full, Turned, Stops}
use Rattle.saned_serve.specs.Inside.TurnPhase.{Fresh, Due, Shown}
use Rattle.saned_serve.specs.Serving.{most_turns, HasServed}
use Rattle.saned_serve.specs.declared.link.SessionLink.{SessionLink}
use Rattle.saned_serve.specs.declared.link_slots.LinkSlot.{LinkSlot}
use Rattle.saned_serve.specs.declared.serving.ServeEnd.TheVariants.{Sessions, Idle, Turns, NoMem}
use Rattle.saned_serve.proofs.SlotCounts.{decide, links_same, links_change, links_all, links_fewer, links_empty}
use Rattle.saned_serve.proofs.ActionSteps.{eqb_off, extends_then, counted_then, counted_none, or_false, not_both, tells_at, life_at, life_off, append_front}

pub same_some : {A : Type 0} (a b : A) → Some a ≡ Some b → a ≡ b
same_some a b e = ap (λ o. unwrap_or o a) e

pub link_at_set : {C : Type 0} (slots : List (LinkSlot C)) (i : ℕ) (slot : LinkSlot C) → i < length slots → link_at (slice_set slots i slot) i ≡ slot.link
link_at_set [] i slot h = absurd (let wrong : i < 0 = h in omega (arith, wrong))
link_at_set (s ∷ slots) zero slot h = refl
link_at_set (s ∷ slots) (suc i) slot h = link_at_set slots i slot (omega arith)

pub link_at_off : {C : Type 0} (slots : List (LinkSlot C)) (i : ℕ) (slot : LinkSlot C) (j : ℕ) → j ≢ i → link_at (slice_set slots i slot) j ≡ link_at slots j
link_at_off [] zero slot j h = refl
link_at_off [] (suc i) slot j h = refl
link_at_off (s ∷ slots) zero slot zero h = absurd (h refl)
link_at_off (s ∷ slots) zero slot (suc j) h = refl
link_at_off (s ∷ slots) (suc i) slot zero h = refl
link_at_off (s ∷ slots) (suc i) slot (suc j) h = link_at_off slots i slot j (λ e. h (ap suc e))

pub link_at_get : {C : Type 0} (slots : List (LinkSlot C)) (i : ℕ) (slot : LinkSlot C) → i < length slots → link_at slots i ≡ (get_or slots i slot).link
link_at_get [] i slot h = absurd (let wrong : i < 0 = h in omega (arith, wrong))
link_at_get (s ∷ slots) zero slot h = refl
link_at_get (s ∷ slots) (suc i) slot h = link_at_get slots i slot (omega arith)

-- what the slot that changed has now
abbrev pub New : {C : Type 0} → (C → Option ConnectionTrace) → (ℕ → ℕ) → ℕ → ℕ → SessionProjection → Option (SessionLink C) → Type 0
New history place i id projection None = (projection.is_open ≡ false) × (projection.imaging ≡ false)
New history place i id projection (Some k) = (k.id.number ≡ id) × (place id ≡ i) × LinkMatches history Fresh projection k

new_each : {C : Type 0} (history : C → Option ConnectionTrace) (place : ℕ → ℕ) (i id : ℕ) (journal : List LoopAction) (p : Option (SessionLink C)) (x : SessionLink C) → p ≡ Some x → New history place i id (projection_of id journal) p → (place x.id.number ≡ i) × LinkMatches history Fresh (projection_of x.id.number journal) x
new_each history place i id journal None x e new = cc
new_each history place i id journal (Some k) x e new =
    let same = same_some k x e in
    let number = sym (ap (λ l. l.id.number) same) ∙ new.0 in
    (ap place number ∙ new.1, subst (λ l. LinkMatches history Fresh (projection_of l.id.number journal) l) same (subst (λ j. LinkMatches history Fresh (projection_of j journal) k) (sym new.0) new.2))

new_all : {C : Type 0} (history : C → Option ConnectionTrace) (place : ℕ → ℕ) (i id : ℕ) (journal : List LoopAction) (p : Option (SessionLink C)) → New history place i id (projection_of id journal) p → (projection_of id journal).is_open ≡ true → (k : SessionLink C) × (p ≡ Some k) × (k.id.number ≡ id) × (place id ≡ i)
new_all history place i id journal None new standing = absurd (let wrong : true ≡ false = sym standing ∙ new.0 in cc)
new_all history place i id journal (Some k) new standing = (k, refl, new.0, new.1)

new_dark : {C : Type 0} (history : C → Option ConnectionTrace) (place : ℕ → ℕ) (i id : ℕ) (journal : List LoopAction) (p : Option (SessionLink C)) → New history place i id (projection_of id journal) p → (projection_of id journal).is_open ≡ false → (projection_of id journal).imaging ≡ false
new_dark history place i id journal None new gone = new.1
new_dark history place i id journal (Some k) new gone = absurd (let wrong : true ≡ false = sym (new.2.is_open) ∙ gone in cc)

pub stands_change : {C : Type 0} (history : C → Option ConnectionTrace) (d0 : Core) (n0 : Option ListenerTrace) (past : List LoopAction) (d : Core) (n : Option ListenerTrace) (h : ℕ) (slots : List (LinkSlot C)) (was : LoopInvariant history (record { daemon = d0; listeners = n0 }) past (serving_state d n h slots))
    (e : Core) (m : Option ListenerTrace) (h' : ℕ) (slots' : List (LinkSlot C)) (journal : List LoopAction) (id i : ℕ) (p : Option (SessionLink C)) (place : ℕ → ℕ)
    → JournalLeads d0 n0 journal e m
    → ((j : ℕ) → j ≢ id → projection_of j journal ≡ projection_of j past)
    → link_at slots' i ≡ p
    → ((j : ℕ) → j ≢ i → link_at slots' j ≡ link_at slots j)
    → ((j : ℕ) → j ≢ id → place j ≡ was.place j)
    → ((l : SessionLink C) → link_at slots i ≡ Some l → l.id.number ≡ id)
    → ((j : ℕ) (l : SessionLink C) → j ≢ i → link_at slots j ≡ Some l → l.id.number ≢ id)
    → New history place i id (projection_of id journal) p
    → ((j : ℕ) → j ≢ i → j < h' → j < h)
    → ((j : ℕ) → j ≢ i → h' ≤ j → h ≤ j)
    → ((k : SessionLink C) → p ≡ Some k → i < h' → HadTurn journal k)
    → ((k : SessionLink C) → p ≡ Some k → h' ≤ i → IsDue (projection_of k.id.number journal))
    → ((k : SessionLink C) → p ≡ Some k → i < most_sessions)
    → open_sessions journal ≡ links_below most_sessions slots'
    → LoopInvariant history (record { daemon = d0; listeners = n0 }) journal (serving_state e m h' slots')
stands_change {C} history d0 n0 past d n h slots was e m h' slots' journal id i p place leads others at off placed own only new below above mine fresh room count = record {
  leads = leads;
  place = place;
  each = λ j x f. each j x f (decide j i);
  all = λ j f. all j f (decide j id);
  dark = λ j f. dark j f (decide j id);
  turned = λ j x f few. turned j x f few (decide j i);
  due = λ j x f much. due j x f much (decide j i);
  inside = λ j x f. inside j x f (decide j i);
  count = count;
}
  where
    due : (j : ℕ) (x : SessionLink C) → link_at slots' j ≡ Some x → h' ≤ j → (j ≡ i) ⊎ (j ≢ i) → IsDue (projection_of x.id.number journal)
    due j x f much (inl same) = fresh x (sym at ∙ subst (λ k. link_at slots' k ≡ Some x) same f) (subst (λ k. h' ≤ k) same much)
    due j x f much (inr differ) =
        let f2 = sym (off j differ) ∙ f in
        subst (λ v. IsDue v) (sym (others x.id.number (only j x differ f2))) (was.due j x f2 (above j differ much))

    inside : (j : ℕ) (x : SessionLink C) → link_at slots' j ≡ Some x → (j ≡ i) ⊎ (j ≢ i) → j < most_sessions
    inside j x f (inl same) = subst (λ k. k < most_sessions) (sym same) (room x (sym at ∙ subst (λ k. link_at slots' k ≡ Some x) same f))
    inside j x f (inr differ) = was.inside j x (sym (off j differ) ∙ f)

    each : (j : ℕ) (x : SessionLink C) → link_at slots' j ≡ Some x → (j ≡ i) ⊎ (j ≢ i) → (place x.id.number ≡ j) × LinkMatches history Fresh (projection_of x.id.number journal) x
    each j x f (inl same) =
        let found = new_each history place i id journal p x (sym at ∙ subst (λ k. link_at slots' k ≡ Some x) same f) new in
        (found.0 ∙ sym same, found.1)
    each j x f (inr differ) =
        let f2 = sym (off j differ) ∙ f in
        let apart = only j x differ f2 in
        let before = was.each j x f2 in
        (placed x.id.number apart ∙ before.0, subst (λ v. LinkMatches history Fresh v x) (sym (others x.id.number apart)) before.1)

    all : (j : ℕ) → (projection_of j journal).is_open ≡ true → (j ≡ id) ⊎ (j ≢ id) → (l : SessionLink C) × (link_at slots' (place j) ≡ Some l) × (l.id.number ≡ j)
    all j f (inl same) =
        let found = new_all history place i id journal p new (subst (λ k. (projection_of k journal).is_open ≡ true) same f) in
        (found.0, ap (link_at slots') (ap place same ∙ found.3) ∙ at ∙ found.1, found.2 ∙ sym same)
    all j f (inr differ) =
        let found = was.all j (sym (ap (λ v. v.is_open) (others j differ)) ∙ f) in
        let apart : was.place j ≢ i = λ same. differ (sym found.2 ∙ own found.0 (sym (ap (link_at slots) same) ∙ found.1)) in
        (found.0, ap (link_at slots') (placed j differ) ∙ off (was.place j) apart ∙ found.1, found.2)

    dark : (j : ℕ) → (projection_of j journal).is_open ≡ false → (j ≡ id) ⊎ (j ≢ id) → (projection_of j journal).imaging ≡ false
    dark j f (inl same) =
        ap (λ k. (projection_of k journal).imaging) same ∙ new_dark history place i id journal p new (sym (ap (λ k. (projection_of k journal).is_open) same) ∙ f)
    dark j f (inr differ) =
        ap (λ v. v.imaging) (others j differ) ∙ was.dark j (sym (ap (λ v. v.is_open) (others j differ)) ∙ f)

    turned : (j : ℕ) (x : SessionLink C) → link_at slots' j ≡ Some x → j < h' → (j ≡ i) ⊎ (j ≢ i) → HadTurn journal x
    turned j x f few (inl same) = mine x (sym at ∙ subst (λ k. link_at slots' k ≡ Some x) same f) (subst (λ k. k < h') same few)
    turned j x f few (inr differ) =
        let f2 = sym (off j differ) ∙ f in
        let projection = others x.id.number (only j x differ f2) in
        let before = was.turned j x f2 (below j differ few) in
        (ap (λ v. v.visited) projection ∙ before.0, (λ over. ap (λ v. v.drained) projection ∙ before.1 (sym (ap (λ v. v.over) projection) ∙ over)), ap (λ v. v.tended) projection ∙ before.2)

pub stands_same : {C : Type 0} (history : C → Option ConnectionTrace) (d0 : Core) (n0 : Option ListenerTrace) (past : List LoopAction) (d : Core) (n : Option ListenerTrace) (h : ℕ) (slots : List (LinkSlot C)) → LoopInvariant history (record { daemon = d0; listeners = n0 }) past (serving_state d n h slots)
    → (e : Core) (m : Option ListenerTrace) (h' : ℕ) (slots' : List (LinkSlot C)) → e ≡ d → m ≡ n → ((j : ℕ) → link_at slots' j ≡ link_at slots j) → ((j : ℕ) (x : SessionLink C) → link_at slots j ≡ Some x → j < h' → j < h) → ((j : ℕ) → h' ≤ j → h ≤ j) → LoopInvariant history (record { daemon = d0; listeners = n0 }) past (serving_state e m h' slots')
stands_same history d0 n0 past d n h slots was e m h' slots' same net off below above = record {
  leads = subst (λ x. JournalLeads d0 n0 past x m) (sym same) (subst (λ x. JournalLeads d0 n0 past d x) (sym net) was.leads);
  place = was.place;
  each = λ j x f. was.each j x (sym (off j) ∙ f);
  all = λ j f. let found = was.all j f in (found.0, off (was.place j) ∙ found.1, found.2);
  dark = was.dark;
  turned = λ j x f few. was.turned j x (sym (off j) ∙ f) (below j x (sym (off j) ∙ f) few);
  due = λ j x f much. was.due j x (sym (off j) ∙ f) (above j much);
  inside = λ j x f. was.inside j x (sym (off j) ∙ f);
  count = was.count ∙ sym (links_same most_sessions slots slots' (λ j. ap one_link (off j)));
}

-- the journal did not go on
pub stays : {C : Type 0} (history : C → Option ConnectionTrace) (d0 : Core) (n0 : Option ListenerTrace) (past : List LoopAction) (e : Core) (m : Option ListenerTrace) (h : ℕ) (slots : List (LinkSlot C)) → has_asked past ≡ true → LoopInvariant history (record { daemon = d0; listeners = n0 }) past (serving_state e m h slots) → WentOn history (record { daemon = d0; listeners = n0 }) past (record { has_moved = false; left = 0 }) (serving_state e m h slots)
stays history d0 n0 past e m h slots asked stands = record { journal = past; more = ([], refl); stands = stands; tally = counted_none (tally_of past); asked = asked }

-- one after the other
pub then_on : {C : Type 0} (history : C → Option ConnectionTrace) (d0 : Core) (n0 : Option ListenerTrace) (past : List LoopAction) (left more : ℕ) (x y : Bool) (e : Core) (m : Option ListenerTrace) (h : ℕ) (slots : List (LinkSlot C)) (f : Core) (o : Option ListenerTrace) (h' : ℕ) (slots' : List (LinkSlot C))
    → WentOn history (record { daemon = d0; listeners = n0 }) past (record { has_moved = x; left = left }) (serving_state e m h slots) → ((journal : List LoopAction) → has_asked journal ≡ true → LoopInvariant history (record { daemon = d0; listeners = n0 }) journal (serving_state e m h slots) → WentOn history (record { daemon = d0; listeners = n0 }) journal (record { has_moved = y; left = more }) (serving_state f o h' slots')) → WentOn history (record { daemon = d0; listeners = n0 }) past (record { has_moved = (x || y); left = (left + more) }) (serving_state f o h' slots')
then_on history d0 n0 past left more x y e m h slots f o h' slots' first then =
    let next = then first.journal first.asked first.stands in
    record {
      journal = next.journal;
      more = extends_then past first.journal next.journal first.more next.more;
      stands = next.stands;
      tally = next.tally ∙ ap (tally_with more y) first.tally ∙ counted_then left more x y (tally_of past);
      asked = next.asked;
    }

nobody : (id : ℕ) → projection_of id [] ≡ empty_projection
unfolding projection_of
nobody id = refl

-- a link that sits at a place is the only one with its number
own_at : {C : Type 0} (history : C → Option ConnectionTrace) (d0 : Core) (n0 : Option ListenerTrace) (past : List LoopAction) (d : Core) (n : Option ListenerTrace) (h : ℕ) (slots : List (LinkSlot C)) → LoopInvariant history (record { daemon = d0; listeners = n0 }) past (serving_state d n h slots) → (i : ℕ) (l : SessionLink C) → link_at slots i ≡ Some l
    → (k : SessionLink C) → link_at slots i ≡ Some k → k.id.number ≡ l.id.number
own_at history d0 n0 past d n h slots was i l at k f = ap (λ x. x.id.number) (same_some k l (sym f ∙ at))

only_at : {C : Type 0} (history : C → Option ConnectionTrace) (d0 : Core) (n0 : Option ListenerTrace) (past : List LoopAction) (d : Core) (n : Option ListenerTrace) (h : ℕ) (slots : List (LinkSlot C)) → LoopInvariant history (record { daemon = d0; listeners = n0 }) past (serving_state d n h slots) → (i : ℕ) (l : SessionLink C) → link_at slots i ≡ Some l
    → (j : ℕ) (k : SessionLink C) → j ≢ i → link_at slots j ≡ Some k → k.id.number ≢ l.id.number
only_at history d0 n0 past d n h slots was i l at j k differ f same =
    differ (sym (was.each j k f).0 ∙ ap was.place same ∙ (was.each i l at).0)

below_next : (i j : ℕ) → j ≢ i → j < i + 1 → j < i
below_next i j off few = omega (arith, off, few)

above_next : (i j : ℕ) → i + 1 ≤ j → i ≤ j
above_next i j much = omega (arith, much)

none_past : {A : Type 0} (i : ℕ) → i + 1 ≤ i → A
none_past i much = absurd (omega (arith, much))

-- a turn that begins
begins : {C : Type 0} {history : C → Option ConnectionTrace} {projection : SessionProjection} {l : SessionLink C} → LinkMatches history Fresh projection l → IsDue projection → LinkMatches history Due projection l
begins tells due = tells_at tells (tells.at, due)

-- a session had its turn, and stays
pub stands_goes : {C : Type 0} (history : C → Option ConnectionTrace) (d0 : Core) (n0 : Option ListenerTrace) (past : List LoopAction) (d : Core) (n : Option ListenerTrace) (slots : List (LinkSlot C)) (i : ℕ) → has_asked past ≡ true → LoopInvariant history (record { daemon = d0; listeners = n0 }) past (serving_state d n i slots)
    → (stir : Bool) (e : Core) (m : Option ListenerTrace) (slots' : List (LinkSlot C)) (l k : SessionLink C) → link_at slots i ≡ Some l → JournalGoesOn history (session_turn Due d n l) stir (session_turn Shown e m k) → k.is_done ≡ false → link_at slots' i ≡ Some k → ((j : ℕ) → j ≢ i → link_at slots' j ≡ link_at slots j) → WentOn history (record { daemon = d0; listeners = n0 }) past (record { has_moved = stir; left = 0 }) (serving_state e m (i + 1) slots')
stands_goes {C} history d0 n0 past d n slots i asked was stir e m slots' l k at goes alive now off =
    let had = was.each i l at in
    let w = goes.goes d0 n0 past was.leads (begins had.1 (was.due i l at (omega arith))) in
    let fresh = tells_at {from = Shown} {to = Fresh} w.tells alive in
    let number = ap (λ x. x.number) goes.same in
    let stands = stands_change history d0 n0 past d n i slots was e m (i + 1) slots' w.journal l.id.number i (Some k) was.place w.leads w.others now off (λ j differ. refl)
    (own_at history d0 n0 past d n i slots was i l at) (only_at history d0 n0 past d n i slots was i l at)
    (number, had.0, fresh) (λ j differ few. below_next i j differ few) (λ j differ much. above_next i j much) (λ x same few. mine w x (same_some k x same) number) (λ x same much. none_past i much)
    (λ x same. was.inside i l at) (w.crowd ∙ was.count ∙ sym (links_same most_sessions slots slots' (λ j. one j (decide j i)))) in
    record { journal = w.journal; more = w.more; stands = stands; tally = w.tally; asked = w.asked ∙ asked }
  where
    one : (j : ℕ) → (j ≡ i) ⊎ (j ≢ i) → one_link (link_at slots' j) ≡ one_link (link_at slots j)
    one j (inl same) = ap one_link (ap (link_at slots') same ∙ now) ∙ sym (ap one_link (ap (link_at slots) same ∙ at))
    one j (inr differ) = ap one_link (off j differ)

    drained : (projection : SessionProjection) → (k.is_done ≡ true) ⊎ (projection.drained ≡ false) → projection.drained ≡ false
    drained projection (inl done) = absurd (not_both done alive)
    drained projection (inr left) = left

    turn : (projection : SessionProjection) → LinkMatches history Shown projection k → (projection.visited ≡ true) × (projection.over ≡ true → projection.drained ≡ false) × (projection.tended ≡ true)
    turn projection tells = (tells.at.0.1, (λ over. drained projection (tells.at.0.2 over)), tells.at.1)

    mine : (w : HasGoneOn history Shown d0 n0 past l.id.number stir e m k) (x : SessionLink C) → k ≡ x → k.id.number ≡ l.id.number → HadTurn w.journal x
    mine w x same number = subst (λ y. HadTurn w.journal y) same (turn (projection_of k.id.number w.journal) (subst (λ j. LinkMatches history Shown (projection_of j w.journal) k) (sym number) w.tells))

-- a session is gone from its slot
stands_ended : {C : Type 0} (history : C → Option ConnectionTrace) (d0 : Core) (n0 : Option ListenerTrace) (past : List LoopAction) (d : Core) (n : Option ListenerTrace) (h : ℕ) (slots : List (LinkSlot C)) (was : LoopInvariant history (record { daemon = d0; listeners = n0 }) past (serving_state d n h slots))
    → (stir : Bool) (e : Core) (m : Option ListenerTrace) (h' : ℕ) (slots' : List (LinkSlot C)) (i : ℕ) (l : SessionLink C) → link_at slots i ≡ Some l → (w : SessionHasEnded d0 n0 past l.id.number stir e m) → link_at slots' i ≡ None → ((j : ℕ) → j ≢ i → link_at slots' j ≡ link_at slots j) → ((j : ℕ) → j ≢ i → j < h' → j < h) → ((j : ℕ) → j ≢ i → h' ≤ j → h ≤ j)
    → LoopInvariant history (record { daemon = d0; listeners = n0 }) w.journal (serving_state e m h' slots')
stands_ended history d0 n0 past d n h slots was stir e m h' slots' i l at w now off below above =
    stands_change history d0 n0 past d n h slots was e m h' slots' w.journal l.id.number i None was.place w.leads w.others now off (λ j differ. refl)
    (own_at history d0 n0 past d n h slots was i l at) (only_at history d0 n0 past d n h slots was i l at)
    (w.gone, w.dark) below above (λ k e. absurd (let wrong : None ≡ Some k = e in cc)) (λ k e. absurd (let wrong : None ≡ Some k = e in cc)) (λ k e. absurd (let wrong : None ≡ Some k = e in cc)) fewer
  where
    fewer : open_sessions w.journal ≡ links_below most_sessions slots'
    fewer =
        let change = links_change most_sessions i slots slots' (was.inside i l at) off in
        let before = ap one_link at in
        let after = ap one_link now in
        let left = w.crowd in
        let count = was.count in
        omega (arith, change, before, after, left, count)

-- a session had its turn, and is left
pub stands_leaves : {C : Type 0} (history : C → Option ConnectionTrace) (d0 : Core) (n0 : Option ListenerTrace) (past : List LoopAction) (d : Core) (n : Option ListenerTrace) (slots : List (LinkSlot C)) (i : ℕ) → has_asked past ≡ true → LoopInvariant history (record { daemon = d0; listeners = n0 }) past (serving_state d n i slots)
    → (stir : Bool) (e : Core) (m : Option ListenerTrace) (f : Core) (o : Option ListenerTrace) (slots' : List (LinkSlot C)) (l k : SessionLink C) → link_at slots i ≡ Some l → JournalGoesOn history (session_turn Due d n l) stir (session_turn Shown e m k) → k.is_done ≡ true → LeavesSession history (record { daemon = e; listeners = m }) k (record { daemon = f; listeners = o }) → link_at slots' i ≡ None → ((j : ℕ) → j ≢ i → link_at slots' j ≡ link_at slots j) → WentOn history (record { daemon = d0; listeners = n0 }) past (record { has_moved = stir; left = 1 }) (serving_state f o (i + 1) slots')
stands_leaves {C} history d0 n0 past d n slots i asked was stir e m f o slots' l k at goes done parts now off =
    let had = was.each i l at in
    let w = goes.goes d0 n0 past was.leads (begins had.1 (was.due i l at (omega arith))) in
    let number = ap (λ x. x.number) goes.same in
    let tells = subst (λ j. LinkMatches history Shown (projection_of j w.journal) k) (sym number) w.tells in
    let v = parts.goes Shown d0 n0 w.journal w.leads tells (inl (tells.at.0.0 done)) in
    let ended = after w k.id.number number v.0 in
    record { journal = ended.journal; more = ended.more; stands = stands_ended history d0 n0 past d n i slots was stir f o (i + 1) slots' i l at ended now off (λ j differ few. below_next i j differ few) (λ j differ much. above_next i j much); tally = ended.tally; asked = ended.asked ∙ asked }
  where
    after : (w : HasGoneOn history Shown d0 n0 past l.id.number stir e m k) (id : ℕ) → id ≡ l.id.number → SessionHasEnded d0 n0 w.journal id false f o → SessionHasEnded d0 n0 past l.id.number stir f o
    after w id same v = record {
      journal = v.journal;
      more = extends_then past w.journal v.journal w.more v.more;
      leads = v.leads;
      gone = subst (λ j. (projection_of j v.journal).is_open ≡ false) same v.gone;
      dark = subst (λ j. (projection_of j v.journal).imaging ≡ false) same v.dark;
      others = λ j off. v.others j (λ x. off (x ∙ same)) ∙ w.others j off;
      tally = v.tally ∙ ap (tally_with 1 false) w.tally ∙ counted_then 0 1 stir false (tally_of past) ∙ ap (λ b. tally_with 1 b (tally_of past)) (or_false stir);
      stopped = v.stopped ∙ w.stopped;
      asked = v.asked ∙ w.asked;
      crowd = v.crowd ∙ ap (λ k. k - 1) w.crowd;
    }

-- the slot at i had its turn, and nobody leaves
pub stands_keeps : {C : Type 0} (history : C → Option ConnectionTrace) (d0 : Core) (n0 : Option ListenerTrace) (past : List LoopAction) (d : Core) (n : Option ListenerTrace) (slots : List (LinkSlot C)) (i : ℕ) → has_asked past ≡ true → LoopInvariant history (record { daemon = d0; listeners = n0 }) past (serving_state d n i slots)
    → (stir : Bool) (e : Core) (m : Option ListenerTrace) (slots' : List (LinkSlot C)) (o p : Option (SessionLink C)) → link_at slots i ≡ o → KeepsSession history (record { daemon = d; listeners = n; link = o }) stir (record { daemon = e; listeners = m; link = p }) → IsToBeLeft false p → link_at slots' i ≡ p → ((j : ℕ) → j ≢ i → link_at slots' j ≡ link_at slots j) → WentOn history (record { daemon = d0; listeners = n0 }) past (record { has_moved = stir; left = 0 }) (serving_state e m (i + 1) slots')
stands_keeps {C} history d0 n0 past d n slots i asked was stir e m slots' None None at keeps left now off =
    subst (λ b. WentOn history (record { daemon = d0; listeners = n0 }) past (record { has_moved = b; left = 0 }) (serving_state e m (i + 1) slots')) (sym keeps.2)
    (stays history d0 n0 past e m (i + 1) slots' asked (stands_same history d0 n0 past d n i slots was e m (i + 1) slots' keeps.0 keeps.1 (λ j. each_off j (decide j i)) (λ j x f few. below j x f few (decide j i)) (λ j much. above_next i j much)))
  where
    each_off : (j : ℕ) → (j ≡ i) ⊎ (j ≢ i) → link_at slots' j ≡ link_at slots j
    each_off j (inl same) = ap (link_at slots') same ∙ (now ∙ sym at) ∙ sym (ap (link_at slots) same)
    each_off j (inr differ) = off j differ

    below : (j : ℕ) (x : SessionLink C) → link_at slots j ≡ Some x → j < i + 1 → (j ≡ i) ⊎ (j ≢ i) → j < i
    below j x f few (inl same) = absurd (let wrong : None ≡ Some x = sym at ∙ sym (ap (link_at slots) same) ∙ f in cc)
    below j x f few (inr differ) = below_next i j differ few
stands_keeps history d0 n0 past d n slots i asked was stir e m slots' None (Some k) at keeps left now off = absurd keeps
stands_keeps history d0 n0 past d n slots i asked was stir e m slots' (Some l) None at keeps left now off = absurd keeps
stands_keeps history d0 n0 past d n slots i asked was stir e m slots' (Some l) (Some k) at keeps left now off =
    stands_goes history d0 n0 past d n slots i asked was stir e m slots' l k at keeps (sym left) now off

-- the slot at i had its turn, and its session is left
pub stands_empties : {C : Type 0} (history : C → Option ConnectionTrace) (d0 : Core) (n0 : Option ListenerTrace) (past : List LoopAction) (d : Core) (n : Option ListenerTrace) (slots : List (LinkSlot C)) (i : ℕ) → has_asked past ≡ true → LoopInvariant history (record { daemon = d0; listeners = n0 }) past (serving_state d n i slots)
    → (stir : Bool) (e : Core) (m : Option ListenerTrace) (f : Core) (q : Option ListenerTrace) (slots' : List (LinkSlot C)) (o p : Option (SessionLink C)) → link_at slots i ≡ o → KeepsSession history (record { daemon = d; listeners = n; link = o }) stir (record { daemon = e; listeners = m; link = p }) → IsToBeLeft true p → Empties history (record { daemon = e; listeners = m }) p (record { daemon = f; listeners = q }) → link_at slots' i ≡ None → ((j : ℕ) → j ≢ i → link_at slots' j ≡ link_at slots j) → WentOn history (record { daemon = d0; listeners = n0 }) past (record { has_moved = stir; left = 1 }) (serving_state f q (i + 1) slots')
stands_empties history d0 n0 past d n slots i asked was stir e m f q slots' o None at keeps left empties now off = absurd (let wrong : true ≡ false = left in cc)
stands_empties history d0 n0 past d n slots i asked was stir e m f q slots' None (Some k) at keeps left empties now off = absurd keeps
stands_empties history d0 n0 past d n slots i asked was stir e m f q slots' (Some l) (Some k) at keeps left empties now off =
    stands_leaves history d0 n0 past d n slots i asked was stir e m f q slots' l k at keeps (sym left) empties now off

pub stands_greets : {C : Type 0} (history : C → Option ConnectionTrace) (d0 : Core) (n0 : Option ListenerTrace) (past : List LoopAction) (d : Core) (n : Option ListenerTrace) (slots : List (LinkSlot C)) → has_asked past ≡ false → LoopInvariant history (record { daemon = d0; listeners = n0 }) past (serving_state d n 0 slots)
    → (stir : Bool) (e : Core) (m : Option ListenerTrace) (slots' : List (LinkSlot C)) (i : ℕ) (p : Option (SessionLink C)) → i < most_sessions → link_at slots i ≡ None → Greets history (record { daemon = d; listeners = n }) stir (record { daemon = e; listeners = m }) p → link_at slots' i ≡ p → ((j : ℕ) → j ≢ i → link_at slots' j ≡ link_at slots j) → WentOn history (record { daemon = d0; listeners = n0 }) past (record { has_moved = stir; left = 0 }) (serving_state e m 0 slots')
stands_greets {C} history d0 n0 past d n slots anew was stir e m slots' i p room at greets now off =
    let met = greets.greets d0 n0 past was.leads (anew, subst (λ k. k < most_sessions) (sym was.count) (links_fewer most_sessions i slots room at)) in
    record { journal = met.journal; more = met.more; stands = by_link p met now; tally = met.tally; asked = met.asked }
  where
    none_below : {A : Type 0} (j : ℕ) → j < 0 → A
    none_below j few = absurd (omega (arith, few))

    number_new : (j : ℕ) (l : SessionLink C) → link_at slots j ≡ Some l → projection_of d.opened past ≡ empty_projection → l.id.number ≢ d.opened
    number_new j l f none same =
        let standing = (was.each j l f).1.is_open in
        let here = subst (λ k. (projection_of k past).is_open ≡ true) same standing in
        not_both here (ap (λ v. v.is_open) none)

    new_due : (l k : SessionLink C) (met : HasGreeted history d0 n0 past stir e m d.opened (Some l)) → Some l ≡ Some k → IsDue (projection_of k.id.number met.journal)
    new_due l k met same = subst (λ x. IsDue (projection_of x.id.number met.journal)) (same_some l k same) (subst (λ j. IsDue (projection_of j met.journal)) (sym met.met.0) met.met.3)

    same_count : {a : ℕ} → a ≡ open_sessions past + 0 → links_below most_sessions slots' ≡ links_below most_sessions slots → a ≡ links_below most_sessions slots'
    same_count crowd same = let count = was.count in omega (arith, crowd, same, count)

    more_count : {a b : ℕ} → a ≡ open_sessions past + 1 → links_below most_sessions slots' + one_link (link_at slots i) ≡ links_below most_sessions slots + b → b ≡ 1 → a ≡ links_below most_sessions slots'
    more_count crowd change one = let count = was.count in let before = ap one_link at in omega (arith, crowd, change, one, count, before)

    by_link : (p : Option (SessionLink C)) (met : HasGreeted history d0 n0 past stir e m d.opened p) → link_at slots' i ≡ p → LoopInvariant history (record { daemon = d0; listeners = n0 }) met.journal (serving_state e m 0 slots')
    by_link None met now =
        let lives : (j : ℕ) → projection_of j met.journal ≡ projection_of j past = λ j. elim (decide j d.opened) [ inl same ↦ subst (λ k. projection_of k met.journal ≡ projection_of k past) (sym same) met.met | inr differ ↦ met.others j differ ] in
        let links : (j : ℕ) → link_at slots' j ≡ link_at slots j = λ j. elim (decide j i) [ inl same ↦ subst (λ k. link_at slots' k ≡ link_at slots k) (sym same) (now ∙ sym at) | inr differ ↦ off j differ ] in
        record {
          leads = met.leads;
          place = was.place;
          each = λ j x f. let before = was.each j x (sym (links j) ∙ f) in (before.0, subst (λ v. LinkMatches history Fresh v x) (sym (lives x.id.number)) before.1);
          all = λ j f. let found = was.all j (sym (ap (λ v. v.is_open) (lives j)) ∙ f) in (found.0, links (was.place j) ∙ found.1, found.2);
          dark = λ j f. ap (λ v. v.imaging) (lives j) ∙ was.dark j (sym (ap (λ v. v.is_open) (lives j)) ∙ f);
          turned = λ j x f few. none_below j few;
          due = λ j x f much. let before = was.due j x (sym (links j) ∙ f) much in subst (λ v. IsDue v) (sym (lives x.id.number)) before;
          inside = λ j x f. was.inside j x (sym (links j) ∙ f);
          count = same_count met.crowd (links_same most_sessions slots slots' (λ j. ap one_link (links j)));
        }
    by_link (Some l) met now =
        stands_change history d0 n0 past d n 0 slots was e m 0 slots' met.journal d.opened i (Some l) (λ j. cond (eqb j d.opened) i (was.place j)) met.leads met.others now off
        (λ j differ. ap (λ b. cond b i (was.place j)) (eqb_off j d.opened differ))
        (λ k f. absurd (let wrong : None ≡ Some k = sym at ∙ f in cc))
        (λ j k differ f. number_new j k f met.met.1)
        (met.met.0, ap (λ b. cond b i (was.place d.opened)) (eq-eqb d.opened d.opened refl), met.met.2)
        (λ j differ few. few) (λ j differ much. much) (λ k same few. none_below i few) (λ k same much. new_due l k met same)
        (λ k same. room) (more_count met.crowd (links_change most_sessions i slots slots' room off) (ap one_link now))

-- ---- a turn ends

-- the projection of each that stands is settled where all slots had their turn
settled : {C : Type 0} (history : C → Option ConnectionTrace) (projection : SessionProjection) (l : SessionLink C) → LinkMatches history Fresh projection l → (projection.visited ≡ true) × (projection.over ≡ true → projection.drained ≡ false) × (projection.tended ≡ true) → IsBehindItsTurn projection
settled {C} history projection l tells turned = record {
  visited = turned.0;
  held = tells.held tells.at;
  replies = turned.1;
  tended = turned.2;
  shows = λ imaging. shows imaging l.image refl tells.carries;
}
  where
    shows : projection.imaging ≡ true → (image : Option C) → l.image ≡ image → ImageTraceMatchesIn history image l.is_last l.records projection → (lost_in projection.image ≡ false) × (projection.last ≡ true → trace_bytes_written projection.image ≢ projection.shown)
    shows imaging None was carries = absurd (not_both imaging carries)
    shows imaging (Some conn) was carries = (carries.held, λ last. λ all. carries.more (carries.last ∙ last) (append_front (trace_bytes_written projection.image) l.records projection.shown carries.shown all))

pub stands_turned : {C : Type 0} (history : C → Option ConnectionTrace) (d0 : Core) (n0 : Option ListenerTrace) (past : List LoopAction) (d : Core) (n : Option ListenerTrace) (h : ℕ) (slots : List (LinkSlot C)) → has_asked past ≡ true → LoopInvariant history (record { daemon = d0; listeners = n0 }) past (serving_state d n h slots) → ((j : ℕ) (l : SessionLink C) → link_at slots j ≡ Some l → j < h) → LoopInvariant history (record { daemon = d0; listeners = n0 }) (Turned ∷ past) (serving_state d n 0 slots)
stands_turned {C} history d0 n0 past d n h slots asked was full = record {
  leads = record {
    is_journal = (was.leads.is_journal, (asked, λ id standing. by_link id (was.all id standing)));
    run = (d, was.leads.run, refl);
    net = was.leads.net;
    unused = λ id f. life_at id Turned past refl ∙ ap (λ (v : SessionProjection). record v { visited = false; spoken = false; tended = false }) (was.leads.unused id f);
  };
  place = was.place;
  each = λ j l f. let before = was.each j l f in (before.0, subst (λ v. LinkMatches history Fresh v l) (sym (life_at l.id.number Turned past refl)) (anew (projection_of l.id.number past) l before.1));
  all = λ id f. was.all id (sym (ap (λ (v : SessionProjection). v.is_open) (life_at id Turned past refl)) ∙ f);
  dark = λ id f. ap (λ (v : SessionProjection). v.imaging) (life_at id Turned past refl) ∙ was.dark id (sym (ap (λ (v : SessionProjection). v.is_open) (life_at id Turned past refl)) ∙ f);
  turned = λ j l f few. absurd (omega (arith, few));
  due = λ j l f much. subst (λ (v : SessionProjection). IsDue v) (sym (life_at l.id.number Turned past refl)) (refl, refl, refl);
  inside = was.inside;
  count = was.count;
}
  where
    by_link : (id : ℕ) → (l : SessionLink C) × (link_at slots (was.place id) ≡ Some l) × (l.id.number ≡ id) → IsBehindItsTurn (projection_of id past)
    by_link id found =
        let l = found.0 in
        let tells = (was.each (was.place id) l found.1).1 in
        let had = was.turned (was.place id) l found.1 (full (was.place id) l found.1) in
        subst (λ j. IsBehindItsTurn (projection_of j past)) found.2 (settled history (projection_of l.id.number past) l tells had)

    carries : (projection : SessionProjection) (image : Option C) (last : Bool) (records : List ℕ) → ImageTraceMatchesIn history image last records projection → ImageTraceMatchesIn history image last records (record projection { visited = false; spoken = false; tended = false })
    carries projection None last records c = c
    carries projection (Some conn) last records c = record { imaging = c.imaging; told = c.told; shown = c.shown; last = c.last; more = c.more; held = c.held }

    anew : (projection : SessionProjection) (l : SessionLink C) → LinkMatches history Fresh projection l → LinkMatches history Fresh (record projection { visited = false; spoken = false; tended = false }) l
    anew projection l tells = record {
      is_open = tells.is_open;
      port = tells.port;
      over = tells.over;
      told = tells.told;
      heard = tells.heard;
      said = tells.said;
      waits = tells.waits;
      quiet = tells.quiet;
      held = tells.held;
      carries = carries projection l.image l.is_last l.records tells.carries;
      at = tells.at;
    }

-- one more slot at the end
pub link_at_last : {C : Type 0} (slots : List (LinkSlot C)) (slot : LinkSlot C) → link_at (slots ++ slot ∷ []) (length slots) ≡ slot.link
link_at_last [] slot = refl
link_at_last (s ∷ slots) slot = link_at_last slots slot

pub link_at_end : {C : Type 0} (slots : List (LinkSlot C)) → link_at slots (length slots) ≡ None
link_at_end [] = refl
link_at_end (s ∷ slots) = link_at_end slots

pub link_at_before : {C : Type 0} (slots : List (LinkSlot C)) (slot : LinkSlot C) (j : ℕ) → j ≢ length slots → link_at slots j ≡ link_at (slots ++ slot ∷ []) j
link_at_before [] slot zero h = absurd (h refl)
link_at_before [] slot (suc j) h = refl
link_at_before (s ∷ slots) slot zero h = refl
link_at_before (s ∷ slots) slot (suc j) h = link_at_before slots slot j (λ e. h (ap suc e))

-- an empty slot more
pub link_at_empty : {C : Type 0} (slots : List (LinkSlot C)) (slot : LinkSlot C) → slot.link ≡ None → ((j : ℕ) → link_at slots j ≡ None) → (j : ℕ) → link_at (slots ++ slot ∷ []) j ≡ None
link_at_empty slots slot none all j = elim (decide j (length slots)) [ inl same ↦ ap (link_at (slots ++ slot ∷ [])) same ∙ link_at_last slots slot ∙ none | inr differ ↦ sym (link_at_before slots slot j differ) ∙ all j ]

-- nothing was done
pub shuts_here : {C : Type 0} (history : C → Option ConnectionTrace) (d0 : Core) (n0 : Option ListenerTrace) (past : List LoopAction) (e : Core) (m : Option ListenerTrace) (slots : List (LinkSlot C)) → has_stopped past ≡ true → LoopInvariant history (record { daemon = d0; listeners = n0 }) past (serving_state e m 0 slots) → Shuts history d0 n0 past e m slots
shuts_here history d0 n0 past e m slots stopped stands = record { journal = past; closing = ([], tt, refl); stands = stands; stopped = stopped }

-- the last slot is emptied and taken away
pub stands_pops : {C : Type 0} (history : C → Option ConnectionTrace) (d0 : Core) (n0 : Option ListenerTrace) (past : List LoopAction) (d : Core) (n : Option ListenerTrace) (slots : List (LinkSlot C)) (slot : LinkSlot C) → has_stopped past ≡ true → LoopInvariant history (record { daemon = d0; listeners = n0 }) past (serving_state d n 0 (slots ++ slot ∷ []))
    → (e : Core) (m : Option ListenerTrace) (o : Option (SessionLink C)) → slot.link ≡ o → Empties history (record { daemon = d; listeners = n }) o (record { daemon = e; listeners = m }) → Shuts history d0 n0 past e m slots
stands_pops history d0 n0 past d n slots slot stopped was e m None at empties =
    shuts_here history d0 n0 past e m slots stopped (stands_same history d0 n0 past d n 0 (slots ++ slot ∷ []) was e m 0 slots empties.0 empties.1
    (λ j. elim (decide j (length slots)) [ inl same ↦ ap (link_at slots) same ∙ link_at_end slots ∙ sym (ap (link_at (slots ++ slot ∷ [])) same ∙ link_at_last slots slot ∙ at) | inr differ ↦ link_at_before slots slot j differ ]) (λ j x f few. few) (λ j much. much))
stands_pops history d0 n0 past d n slots slot stopped was e m (Some l) at empties =
    let link = link_at_last slots slot ∙ at in
    let left = empties.goes Fresh d0 n0 past was.leads (was.each (length slots) l link).1 (inr stopped) in
    record {
      journal = left.0.journal;
      closing = left.1;
      stands = stands_ended history d0 n0 past d n 0 (slots ++ slot ∷ []) was false e m 0 slots (length slots) l link left.0 (link_at_end slots) (link_at_before slots slot) (λ j differ few. few) (λ j differ much. much);
      stopped = left.0.stopped ∙ stopped;
    }

-- all slots are empty
pub stands_begins : {C : Type 0} (history : C → Option ConnectionTrace) (d : Core) (n : Option ListenerTrace) (slots : List (LinkSlot C)) → ((j : ℕ) → link_at slots j ≡ None) → LoopInvariant history (record { daemon = d; listeners = n }) [] (serving_state d n 0 slots)
stands_begins history d n slots none = record {
  leads = record { is_journal = tt; run = refl; net = refl; unused = λ id h. nobody id };
  place = λ j. j;
  each = λ j l h. absurd (let wrong : None ≡ Some l = sym (none j) ∙ h in cc);
  all = λ j h. absurd (let wrong : true ≡ false = sym h ∙ ap (λ v. v.is_open) (nobody j) in cc);
  dark = λ j h. ap (λ v. v.imaging) (nobody j);
  turned = λ j l f few. absurd (omega (arith, few));
  due = λ j l h much. absurd (let wrong : None ≡ Some l = sym (none j) ∙ h in cc);
  inside = λ j l h. absurd (let wrong : None ≡ Some l = sym (none j) ∙ h in cc);
  count = sym (links_empty most_sessions slots none);
}

-- all turns are over
pub stands_stops : {C : Type 0} (history : C → Option ConnectionTrace) (d0 : Core) (n0 : Option ListenerTrace) (past : List LoopAction) (d : Core) (n : Option ListenerTrace) (slots : List (LinkSlot C)) → LoopInvariant history (record { daemon = d0; listeners = n0 }) past (serving_state d n 0 slots) → LoopInvariant history (record { daemon = d0; listeners = n0 }) (Stops ∷ past) (serving_state d n 0 slots)
stands_stops history d0 n0 past d n slots was = record {
  leads = record {
    is_journal = (was.leads.is_journal, tt);
    run = (d, was.leads.run, refl);
    net = was.leads.net;
    unused = λ id f. life_off id Stops past refl ∙ was.leads.unused id f;
  };
  place = was.place;
  each = λ j l f. let before = was.each j l f in (before.0, subst (λ v. LinkMatches history Fresh v l) (sym (life_off l.id.number Stops past refl)) before.1);
  all = λ id f. was.all id (sym (ap (λ (v : SessionProjection). v.is_open) (life_off id Stops past refl)) ∙ f);
  dark = λ id f. ap (λ (v : SessionProjection). v.imaging) (life_off id Stops past refl) ∙ was.dark id (sym (ap (λ (v : SessionProjection). v.is_open) (life_off id Stops past refl)) ∙ f);
  turned = λ j l f few. absurd (omega (arith, few));
  due = λ j l f much. subst (λ (v : SessionProjection). IsDue v) (sym (life_off l.id.number Stops past refl)) (was.due j l f much);
  inside = was.inside;
  count = was.count;
}

-- all slots have a session
pub stands_full : {C : Type 0} (history : C → Option ConnectionTrace) (d0 : Core) (n0 : Option ListenerTrace) (past : List LoopAction) (d : Core) (n : Option ListenerTrace) (slots : List (LinkSlot C)) → has_asked past ≡ false → LoopInvariant history (record { daemon = d0; listeners = n0 }) past (serving_state d n 0 slots)
    → ((j : ℕ) → j < most_sessions → one_link (link_at slots j) ≡ 1) → WentOn history (record { daemon = d0; listeners = n0 }) past (record { has_moved = false; left = 0 }) (serving_state d n 0 slots)
stands_full history d0 n0 past d n slots anew was all = record {
  journal = Full ∷ past;
  more = (Full ∷ [], refl);
  stands = record {
    leads = record {
      is_journal = (was.leads.is_journal, (anew, was.count ∙ links_all most_sessions slots all));
      run = (d, was.leads.run, refl);
      net = was.leads.net;
      unused = λ id f. life_off id Full past refl ∙ was.leads.unused id f;
    };
    place = was.place;
    each = λ j l f. let before = was.each j l f in (before.0, subst (λ v. LinkMatches history Fresh v l) (sym (life_off l.id.number Full past refl)) before.1);
    all = λ id f. was.all id (sym (ap (λ (v : SessionProjection). v.is_open) (life_off id Full past refl)) ∙ f);
    dark = λ id f. ap (λ (v : SessionProjection). v.imaging) (life_off id Full past refl) ∙ was.dark id (sym (ap (λ (v : SessionProjection). v.is_open) (life_off id Full past refl)) ∙ f);
    turned = λ j l f few. absurd (omega (arith, few));
    due = λ j l f much. subst (λ (v : SessionProjection). IsDue v) (sym (life_off l.id.number Full past refl)) (was.due j l f much);
    inside = was.inside;
    count = was.count;
  };
  tally = counted_none (tally_of past);
  asked = refl;
}

-- no slot is left
pub stands_ends : {C : Type 0} (history : C → Option ConnectionTrace) (d0 : Core) (n0 : Option ListenerTrace) (past : List LoopAction) (d : Core) (n : Option ListenerTrace) → Shuts {C = C} history d0 n0 past d n [] → ClosesAll (record { daemon = d0; listeners = n0 }) past (record { daemon = d; listeners = n })
stands_ends {C} history d0 n0 past d n turned = record {
  journal = turned.journal;
  closing = turned.closing;
  leads = turned.stands.leads;
  over = record {
    gone = λ id. gone id (projection_of id turned.journal).is_open refl;
    dark = λ id. turned.stands.dark id (gone id (projection_of id turned.journal).is_open refl);
  };
}
  where
    gone : (id : ℕ) (v : Bool) → (projection_of id turned.journal).is_open ≡ v → (projection_of id turned.journal).is_open ≡ false
    gone id true e = let found = turned.stands.all id e in absurd (let wrong : None ≡ Some found.0 = found.1 in cc)
    gone id false e = e

pub link_inside : {C : Type 0} (slots : List (LinkSlot C)) (j : ℕ) (l : SessionLink C) → link_at slots j ≡ Some l → j < length slots
link_inside [] j l e = absurd (let wrong : None ≡ Some l = e in cc)
link_inside (s ∷ slots) zero l e = omega arith
link_inside (s ∷ slots) (suc j) l e = let inside = link_inside slots j l e in omega (arith, inside)

-- all slots had their turn
pub took_turn : {C : Type 0} (history : C → Option ConnectionTrace) (d0 : Core) (n0 : Option ListenerTrace) (past : List LoopAction) (left : ℕ) (stir : Bool) (e : Core) (m : Option ListenerTrace) (h : ℕ) (slots : List (LinkSlot C)) → length slots ≤ h → WentOn history (record { daemon = d0; listeners = n0 }) past (record { has_moved = stir; left = left }) (serving_state e m h slots) → TookTurn history (record { daemon = d0; listeners = n0 }) past (record { has_moved = stir; left = left }) (serving_state e m 0 slots)
took_turn history d0 n0 past left stir e m h slots all on = record {
  journal = on.journal;
  more = on.more;
  stands = stands_turned history d0 n0 on.journal e m h slots on.asked on.stands (λ j l f. let inside = link_inside slots j l f in omega (arith, inside, all));
  tally = on.tally;
}

-- one turn more
pub took_next : {C : Type 0} (history : C → Option ConnectionTrace) (d0 : Core) (n0 : Option ListenerTrace) (left turns idle more : ℕ) (stir : Bool) (d : Core) (n : Option ListenerTrace) (slots : List (LinkSlot C)) (e : Core) (m : Option ListenerTrace) (slots' : List (LinkSlot C)) → HasTakenTurns history d0 n0 left turns idle d n slots
    → ((past : List LoopAction) → has_asked past ≡ false → LoopInvariant history (record { daemon = d0; listeners = n0 }) past (serving_state d n 0 slots) → TookTurn history (record { daemon = d0; listeners = n0 }) past (record { has_moved = stir; left = more }) (serving_state e m 0 slots')) → HasTakenTurns history d0 n0 (left + more) (turns + 1) (cond stir 0 (idle + 1)) e m slots'
took_next history d0 n0 left turns idle more stir d n slots e m slots' took turn =
    let next = turn took.journal took.anew took.stands in
    record { journal = Turned ∷ next.journal; stands = next.stands; anew = refl; tally = ap (after_tally Turned) (next.tally ∙ ap (tally_with more stir) took.tally) }

pub took_none : {C : Type 0} (history : C → Option ConnectionTrace) (d0 : Core) (n0 : Option ListenerTrace) (d : Core) (n : Option ListenerTrace) (slots : List (LinkSlot C)) → LoopInvariant history (record { daemon = d0; listeners = n0 }) [] (serving_state d n 0 slots) → HasTakenTurns history d0 n0 0 0 0 d n slots
took_none history d0 n0 d n slots stands = record { journal = []; stands = stands; tally = refl; anew = refl }

pub ran_sessions : {C : Type 0} (history : C → Option ConnectionTrace) (d0 : Core) (n0 : Option ListenerTrace) (left turns idle sessions waits : ℕ) (e : Core) (m : Option ListenerTrace) (slots : List (LinkSlot C)) → HasTakenTurns history d0 n0 left turns idle e m slots → 0 < sessions → sessions ≤ left → left < sessions + most_sessions → HasTakenAllTurns history (record { daemon = d0; listeners = n0 }) (record { sessions = sessions; idle_turns = waits }) Sessions (serving_state e m 0 slots)
ran_sessions history d0 n0 left turns idle sessions waits e m slots took some most few =
    let same = ap (λ t. t.left) took.tally in
    record { journal = took.journal; stands = took.stands; ends = (some, subst (λ k. sessions ≤ k) (sym same) most, subst (λ k. k < sessions + most_sessions) (sym same) few) }

pub ran_idle : {C : Type 0} (history : C → Option ConnectionTrace) (d0 : Core) (n0 : Option ListenerTrace) (left turns idle sessions waits : ℕ) (e : Core) (m : Option ListenerTrace) (slots : List (LinkSlot C)) → HasTakenTurns history d0 n0 left turns idle e m slots → (0 < sessions → left < sessions) → waits ≤ idle → HasTakenAllTurns history (record { daemon = d0; listeners = n0 }) (record { sessions = sessions; idle_turns = waits }) Idle (serving_state e m 0 slots)
ran_idle history d0 n0 left turns idle sessions waits e m slots took few long =
    record { journal = took.journal; stands = took.stands; ends = ((λ some. subst (λ k. k < sessions) (sym (ap (λ t. t.left) took.tally)) (few some)), subst (λ k. waits ≤ k) (sym (ap (λ t. t.idle) took.tally)) long) }

pub ran_turns : {C : Type 0} (history : C → Option ConnectionTrace) (d0 : Core) (n0 : Option ListenerTrace) (left turns idle sessions waits : ℕ) (e : Core) (m : Option ListenerTrace) (slots : List (LinkSlot C)) → HasTakenTurns history d0 n0 left turns idle e m slots → (0 < sessions → left < sessions) → idle < waits → turns ≡ most_turns → HasTakenAllTurns history (record { daemon = d0; listeners = n0 }) (record { sessions = sessions; idle_turns = waits }) Turns (serving_state e m 0 slots)
ran_turns history d0 n0 left turns idle sessions waits e m slots took few short all =
    record { journal = took.journal; stands = took.stands; ends = ((λ some. subst (λ k. k < sessions) (sym (ap (λ t. t.left) took.tally)) (few some)), subst (λ k. k < waits) (sym (ap (λ t. t.idle) took.tally)) short, ap (λ t. t.turns) took.tally ∙ all) }

-- nothing was done
pub served_none : (d : Core) (n : Option ListenerTrace) (sessions waits : ℕ) → HasServed (record { sessions = sessions; idle_turns = waits }) (record { daemon = d; listeners = n }) (record { daemon = d; listeners = n }) NoMem
served_none d n sessions waits = record {
  turns = [];
  journal = Stops ∷ [];
  closing = ([], tt, refl);
  leads = record { is_journal = (tt, tt); run = (d, refl, refl); net = refl; unused = λ id h. none id };
  over = record {
    gone = λ id. ap (λ (v : SessionProjection). v.is_open) (none id);
    dark = λ id. ap (λ (v : SessionProjection). v.imaging) (none id);
  };
  ends = refl;
}
  where
    none : (id : ℕ) → projection_of id (Stops ∷ []) ≡ empty_projection
    none id = life_off id Stops [] refl ∙ nobody id

pub take_front : {A : Type 0} (xs ys : List A) → take (length xs) (xs ++ ys) ≡ xs
take_front [] ys = refl
take_front (x ∷ xs) ys = ap (λ zs. x ∷ zs) (take_front xs ys)

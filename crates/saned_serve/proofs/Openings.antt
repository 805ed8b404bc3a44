-- A number is one session's: nobody acts for it behind its end. And how many sessions stand.
use Rattle.std.specs.Prelude.{nat_eq}
use Rattle.std.specs.Set.{is_member}
use Rattle.std.proofs.Common.{◌≡◌, ◌≤◌, ◌<◌, ◌⊎◌, inl, inr, ℕ, ◌+◌, ◌-◌, Bool, true, false, ◌||◌, cond, Option, List, [], ◌∷◌, ◌++◌, length, refl, sym, ap, ◌∙◌, subst, arith}
use Rattle.std.proofs.Math.Dec.{eqb}
use Rattle.std.proofs.lemmas.Bool.{eq-eqb, eqb-true}
use Rattle.std.proofs.lemmas.Bool.Decides.{Decides-eqb}
use Rattle.std.proofs.lemmas.Map.Made.{is_member-Decides}
use Rattle.saned_core.specs.DaemonStates.{Core}
use Rattle.saned_serve.specs.ConnectionTraces.{ConnectionTrace}
use Rattle.saned_serve.specs.SessionActions.{SessionAction, ActsOn, leaves, opens_session}
use Rattle.saned_serve.specs.SessionActions.SessionAction.{Opens, Hears, Feed, Forgets, Take, Says, Looks, Misses, Connect, Turn, Shows, Lose, HangsUp, Leaves}
use Rattle.saned_serve.specs.Journal.{LoopAction, SessionProjection, concerns, projection_after, projection_of, has_stopped, open_sessions, MayDo, IsJournal, DaemonRuns, Steps, most_sessions}
use Rattle.saned_serve.specs.Journal.LoopAction.{Of, Full, Waits, Refuses, Turned, Stops}
use Rattle.saned_serve.specs.JournalSummary.{AreOpenSessions, IsInJournal}
use Rattle.saned_serve.proofs.ActionSteps.{life_at, life_off, not_both, opened_by, stands_for}
use Rattle.saned_serve.proofs.Summing.{nobody}

-- ---- the count of sessions that were opened

opens_next : (act : SessionAction) (d e : Core) (id : ℕ) → opens_session act ≡ true → ActsOn id d act e → (id ≡ d.opened) × (e.opened ≡ d.opened + 1)
opens_next (Opens port) d e id opens does = (does.numbered, ap (λ (c : Core). c.opened) does.after)
opens_next (Hears got room bytes) d e id opens does = cc
opens_next (Feed piece fed begins) d e id opens does = cc
opens_next (Forgets told port) d e id opens does = cc
opens_next (Take room bytes) d e id opens does = cc
opens_next (Says got bytes) d e id opens does = cc
opens_next (Looks frame) d e id opens does = cc
opens_next (Misses port) d e id opens does = cc
opens_next (Connect port) d e id opens does = cc
opens_next (Turn room step bytes) d e id opens does = cc
opens_next (Shows got bytes) d e id opens does = cc
opens_next Lose d e id opens does = cc
opens_next (HangsUp trace) d e id opens does = cc
opens_next (Leaves port trace) d e id opens does = cc

never_fewer_by : (act : SessionAction) (d e : Core) (id : ℕ) (b : Bool) → opens_session act ≡ b → ActsOn id d act e → d.opened ≤ e.opened
never_fewer_by act d e id true opens does = let next = (opens_next act d e id opens does).1 in omega (arith, next)
never_fewer_by act d e id false plain does = let same = opened_by act d e id plain does in omega (arith, same)

same_count : (d e : Core) → e ≡ d → d.opened ≤ e.opened
same_count d e is = let same = ap (λ (c : Core). c.opened) is in omega (arith, same)

never_fewer : (action : LoopAction) (d e : Core) → Steps d action e → d.opened ≤ e.opened
never_fewer (Of id act) d e steps = never_fewer_by act d e id (opens_session act) refl steps
never_fewer Full d e steps = same_count d e steps
never_fewer Waits d e steps = same_count d e steps
never_fewer (Refuses port trace) d e steps = same_count d e steps.1
never_fewer Turned d e steps = same_count d e steps
never_fewer Stops d e steps = same_count d e steps

-- ---- who stands

-- an act that opens none leaves open what it finds open, and no other
was_open : (act : SessionAction) (projection : SessionProjection) → opens_session act ≡ false → (projection_after act projection).is_open ≡ true → projection.is_open ≡ true
was_open (Opens port) projection plain on = cc
was_open (Hears got room bytes) projection plain on = on
was_open (Feed piece fed begins) projection plain on = on
was_open (Forgets told port) projection plain on = on
was_open (Take room bytes) projection plain on = on
was_open (Says got bytes) projection plain on = on
was_open (Looks frame) projection plain on = on
was_open (Misses port) projection plain on = on
was_open (Connect port) projection plain on = on
was_open (Turn room step bytes) projection plain on = on
was_open (Shows got bytes) projection plain on = on
was_open Lose projection plain on = on
was_open (HangsUp trace) projection plain on = on
was_open (Leaves port trace) projection plain on = cc

none_open : (id : ℕ) → (projection_of id []).is_open ≡ false
none_open id = ap (λ (v : SessionProjection). v.is_open) (nobody id)

open_at : (id : ℕ) (act : SessionAction) (past : List LoopAction) → (projection_of id (Of id act ∷ past)).is_open ≡ (projection_after act (projection_of id past)).is_open
open_at id act past = ap (λ (v : SessionProjection). v.is_open) (life_at id (Of id act) past (eq-eqb id id refl))

open_off : (id : ℕ) (action : LoopAction) (past : List LoopAction) → concerns action id ≡ false → (projection_of id (action ∷ past)).is_open ≡ (projection_of id past).is_open
open_off id action past off = ap (λ (v : SessionProjection). v.is_open) (life_off id action past off)

open_turned : (id : ℕ) (past : List LoopAction) → (projection_of id (Turned ∷ past)).is_open ≡ (projection_of id past).is_open
open_turned id past = ap (λ (v : SessionProjection). v.is_open) (life_at id Turned past refl)

-- one that stands has a number below the count
abbrev IsBelowCount : ℕ → List LoopAction → Core → Type 0
IsBelowCount id journal e = (projection_of id journal).is_open ≡ true → id < e.opened

below_as_before : (id : ℕ) (action : LoopAction) (past : List LoopAction) (d e : Core) → (projection_of id (action ∷ past)).is_open ≡ (projection_of id past).is_open → Steps d action e → IsBelowCount id past d → IsBelowCount id (action ∷ past) e
below_as_before id action past d e same steps before on = let few = before (sym same ∙ on) in let more = never_fewer action d e steps in omega (arith, few, more)

below_act : (act : SessionAction) (number id : ℕ) (past : List LoopAction) (d e : Core) (b o : Bool) → eqb number id ≡ b → opens_session act ≡ o → ActsOn number d act e → IsBelowCount id past d → IsBelowCount id (Of number act ∷ past) e
below_act act number id past d e true true at opens does before on = let same = eqb-true number id at in let next = opens_next act d e number opens does in omega (arith, same, next.0, next.1)
below_act act number id past d e true false at plain does before on =
    let few = before (was_open act (projection_of id past) plain (sym (open_at id act past) ∙ subst (λ n. (projection_of id (Of n act ∷ past)).is_open ≡ true) (eqb-true number id at) on)) in
    let more = never_fewer (Of number act) d e does in
    omega (arith, few, more)
below_act act number id past d e false o off kind does before on = below_as_before id (Of number act) past d e (open_off id (Of number act) past off) does before on

pub below_count : (journal : List LoopAction) (id : ℕ) (d e : Core) → DaemonRuns d journal e → IsBelowCount id journal e
below_count [] id d e runs = λ on. absurd (not_both on (none_open id))
below_count (Of number act ∷ past) id d e runs = below_act act number id past runs.0 e (eqb number id) (opens_session act) refl refl runs.2 (below_count past id d runs.0 runs.1)
below_count (Full ∷ past) id d e runs = below_as_before id Full past runs.0 e (open_off id Full past refl) runs.2 (below_count past id d runs.0 runs.1)
below_count (Waits ∷ past) id d e runs = below_as_before id Waits past runs.0 e (open_off id Waits past refl) runs.2 (below_count past id d runs.0 runs.1)
below_count (Refuses port trace ∷ past) id d e runs = below_as_before id (Refuses port trace) past runs.0 e (open_off id (Refuses port trace) past refl) runs.2 (below_count past id d runs.0 runs.1)
below_count (Turned ∷ past) id d e runs = below_as_before id Turned past runs.0 e (open_turned id past) runs.2 (below_count past id d runs.0 runs.1)
below_count (Stops ∷ past) id d e runs = below_as_before id Stops past runs.0 e (open_off id Stops past refl) runs.2 (below_count past id d runs.0 runs.1)

-- ---- behind the end of a session

record IsGone (id : ℕ) (since journal : List LoopAction) (e : Core) : Type 0 where
  shut : (projection_of id journal).is_open ≡ false
  used : id < e.opened
  quiet : (act : SessionAction) → IsInJournal (Of id act) since → ⊥

not_again : (act : SessionAction) (id : ℕ) (past : List LoopAction) (stopped b : Bool) (d e : Core) → opens_session act ≡ b → (projection_of id past).is_open ≡ false → id < d.opened → MayDo act (projection_of id past) stopped → ActsOn id d act e → ⊥
not_again act id past stopped true d e opens shut used may does = let next = (opens_next act d e id opens does).0 in omega (arith, next, used)
not_again act id past stopped false d e plain shut used may does = not_both (stands_for act (projection_of id past) stopped plain may) shut

passes : (id : ℕ) (action : LoopAction) (since journal : List LoopAction) (d e : Core) → concerns action id ≡ false → Steps d action e → IsGone id since journal d → IsGone id (action ∷ since) (action ∷ journal) e
passes id action since journal d e off steps gone = record {
  shut = open_off id action journal off ∙ gone.shut;
  used = (let more = never_fewer action d e steps in let few = gone.used in omega (arith, more, few));
  quiet = λ act held. among act held;
}
  where
    among : (act : SessionAction) → (action ≡ Of id act) ⊎ IsInJournal (Of id act) since → ⊥
    among act (inl here) = not_both (ap (λ a. concerns a id) here ∙ eq-eqb id id refl) off
    among act (inr before) = gone.quiet act before

gone_turned : (id : ℕ) (since journal : List LoopAction) (d e : Core) → e ≡ d → IsGone id since journal d → IsGone id (Turned ∷ since) (Turned ∷ journal) e
gone_turned id since journal d e same gone = record {
  shut = open_turned id journal ∙ gone.shut;
  used = subst (λ (c : Core). id < c.opened) (sym same) gone.used;
  quiet = λ act held. among act held;
}
  where
    among : (act : SessionAction) → (Turned ≡ Of id act) ⊎ IsInJournal (Of id act) since → ⊥
    among act (inl here) = let wrong : Turned ≡ Of id act = here in cc
    among act (inr before) = gone.quiet act before

gone_since : (since past : List LoopAction) (id port : ℕ) (trace : Option ConnectionTrace) (d e : Core) → IsJournal (since ++ Of id (Leaves port trace) ∷ past) → DaemonRuns d (since ++ Of id (Leaves port trace) ∷ past) e → IsGone id since (since ++ Of id (Leaves port trace) ∷ past) e
gone_since [] past id port trace d e is_journal runs = record {
  shut = open_at id (Leaves port trace) past;
  used = (let before = below_count past id d runs.0 runs.1 is_journal.1.0.0 in let more = never_fewer (Of id (Leaves port trace)) runs.0 e runs.2 in omega (arith, before, more));
  quiet = λ act held. held;
}
gone_since (Of number act ∷ since) past id port trace d e is_journal runs = by (eqb number id) refl (gone_since since past id port trace d runs.0 is_journal.0 runs.1)
  where
    journal : List LoopAction
    journal = since ++ Of id (Leaves port trace) ∷ past

    by : (b : Bool) → eqb number id ≡ b → IsGone id since journal runs.0 → IsGone id (Of number act ∷ since) (Of number act ∷ journal) e
    by true at gone =
        let same = eqb-true number id at in
        absurd (not_again act id journal (has_stopped journal) (opens_session act) runs.0 e refl gone.shut gone.used (subst (λ n. MayDo act (projection_of n journal) (has_stopped journal)) same is_journal.1.0) (subst (λ n. ActsOn n runs.0 act e) same runs.2))
    by false off gone = passes id (Of number act) since journal runs.0 e off runs.2 gone
gone_since (Full ∷ since) past id port trace d e is_journal runs =
    passes id Full since (since ++ Of id (Leaves port trace) ∷ past) runs.0 e refl runs.2 (gone_since since past id port trace d runs.0 is_journal.0 runs.1)
gone_since (Waits ∷ since) past id port trace d e is_journal runs =
    passes id Waits since (since ++ Of id (Leaves port trace) ∷ past) runs.0 e refl runs.2 (gone_since since past id port trace d runs.0 is_journal.0 runs.1)
gone_since (Refuses to told ∷ since) past id port trace d e is_journal runs =
    passes id (Refuses to told) since (since ++ Of id (Leaves port trace) ∷ past) runs.0 e refl runs.2 (gone_since since past id port trace d runs.0 is_journal.0 runs.1)
gone_since (Turned ∷ since) past id port trace d e is_journal runs =
    gone_turned id since (since ++ Of id (Leaves port trace) ∷ past) runs.0 e runs.2 (gone_since since past id port trace d runs.0 is_journal.0 runs.1)
gone_since (Stops ∷ since) past id port trace d e is_journal runs =
    passes id Stops since (since ++ Of id (Leaves port trace) ∷ past) runs.0 e refl runs.2 (gone_since since past id port trace d runs.0 is_journal.0 runs.1)

pub nobody_acts : (since past : List LoopAction) (id port : ℕ) (trace : Option ConnectionTrace) (act : SessionAction) (d e : Core) → IsJournal (since ++ Of id (Leaves port trace) ∷ past) → DaemonRuns d (since ++ Of id (Leaves port trace) ∷ past) e → IsInJournal (Of id act) since → ⊥
nobody_acts since past id port trace act d e is_journal runs held = (gone_since since past id port trace d e is_journal runs).quiet act held

-- ---- how many stand

abbrev without : ℕ → List ℕ → List ℕ
without n [] = []
without n (m ∷ ms) = cond (nat_eq n m) ms (m ∷ without n ms)

some_member : (n : ℕ) (ms : List ℕ) → is_member nat_eq ms n ≡ true → (length ms - 1) + 1 ≡ length ms
some_member n [] is = cc
some_member n (m ∷ ms) is = omega arith

length_by : (n m : ℕ) (ms : List ℕ) (b : Bool) → (b || is_member nat_eq ms n) ≡ true → (is_member nat_eq ms n ≡ true → length (without n ms) ≡ length ms - 1) → length (cond b ms (m ∷ without n ms)) ≡ length (m ∷ ms) - 1
length_by n m ms true is more = omega arith
length_by n m ms false is more = let shorter = more is in let long = some_member n ms is in omega (arith, shorter, long)

length_without : (n : ℕ) (ms : List ℕ) → is_member nat_eq ms n ≡ true → length (without n ms) ≡ length ms - 1
length_without n [] is = cc
length_without n (m ∷ ms) is = length_by n m ms (nat_eq n m) is (λ at. length_without n ms at)

later_member : (n q m : ℕ) (ms : List ℕ) (b : Bool) → nat_eq q m ≡ b → n ≡ m → eqb n q ≡ false → (b || is_member nat_eq ms q) ≡ true → is_member nat_eq ms q ≡ true
later_member n q m ms true e same off is = absurd (not_both (eq-eqb n q (same ∙ sym ((Decides-eqb q m).0 e))) off)
later_member n q m ms false e same off is = is

kept_member : (q : ℕ) (ms left : List ℕ) (b : Bool) → (b || is_member nat_eq ms q) ≡ true → (is_member nat_eq ms q ≡ true → is_member nat_eq left q ≡ true) → (b || is_member nat_eq left q) ≡ true
kept_member q ms left true is more = refl
kept_member q ms left false is more = more is

member_by : (n q m : ℕ) (ms : List ℕ) (b : Bool) → nat_eq n m ≡ b → eqb n q ≡ false → (nat_eq q m || is_member nat_eq ms q) ≡ true → (is_member nat_eq ms q ≡ true → is_member nat_eq (without n ms) q ≡ true) → is_member nat_eq (cond b ms (m ∷ without n ms)) q ≡ true
member_by n q m ms true e off is more = later_member n q m ms (nat_eq q m) refl ((Decides-eqb n m).0 e) off is
member_by n q m ms false e off is more = kept_member q ms (without n ms) (nat_eq q m) is more

member_without : (n q : ℕ) (ms : List ℕ) → eqb n q ≡ false → is_member nat_eq ms q ≡ true → is_member nat_eq (without n ms) q ≡ true
member_without n q [] off is = is
member_without n q (m ∷ ms) off is = member_by n q m ms (nat_eq n m) refl off is (λ at. member_without n q ms off at)

-- numbers of all that stand, as many as are counted
record Counted (journal : List LoopAction) : Type 0 where
  numbers : List ℕ
  count : length numbers ≡ open_sessions journal
  all : (id : ℕ) → (projection_of id journal).is_open ≡ true → is_member nat_eq numbers id ≡ true

none_less : (n : ℕ) → n - 0 ≡ n
none_less n = omega arith

plain_count : (act : SessionAction) (number : ℕ) (past : List LoopAction) → opens_session act ≡ false → open_sessions (Of number act ∷ past) ≡ open_sessions past - leaves act
plain_count act number past plain = ap (λ b. cond b (open_sessions past + 1) (open_sessions past) - leaves act) plain

plain_open : (act : SessionAction) (number id : ℕ) (past : List LoopAction) → opens_session act ≡ false → (projection_of id (Of number act ∷ past)).is_open ≡ true → (projection_of id past).is_open ≡ true
plain_open act number id past plain on = by (eqb number id) refl
  where
    by : (b : Bool) → eqb number id ≡ b → (projection_of id past).is_open ≡ true
    by true at =
        let same = subst (λ n. (projection_of id (Of n act ∷ past)).is_open ≡ true) (eqb-true number id at) on in
        was_open act (projection_of id past) plain (sym (open_at id act past) ∙ same)
    by false off = sym (open_off id (Of number act) past off) ∙ on

counted_plain : (act : SessionAction) (number : ℕ) (past : List LoopAction) → opens_session act ≡ false → leaves act ≡ 0 → Counted past → Counted (Of number act ∷ past)
counted_plain act number past plain none c = record {
  numbers = c.numbers;
  count = c.count ∙ sym (plain_count act number past plain ∙ ap (λ n. open_sessions past - n) none ∙ none_less (open_sessions past));
  all = λ id on. c.all id (plain_open act number id past plain on);
}

or_more : (a b : Bool) → b ≡ true → (a || b) ≡ true
or_more true b e = refl
or_more false b e = e

counted_opens : (port number : ℕ) (past : List LoopAction) → Counted past → Counted (Of number (Opens port) ∷ past)
counted_opens port number past c = record {
  numbers = number ∷ c.numbers;
  count = (let same = c.count in omega (arith, same));
  all = λ id on. by id (eqb number id) refl on;
}
  where
    by : (id : ℕ) (b : Bool) → eqb number id ≡ b → (projection_of id (Of number (Opens port) ∷ past)).is_open ≡ true → (nat_eq id number || is_member nat_eq c.numbers id) ≡ true
    by id true at on = ap (λ b. b || is_member nat_eq c.numbers id) ((Decides-eqb id number).1 (sym (eqb-true number id at)))
    by id false off on = or_more (nat_eq id number) (is_member nat_eq c.numbers id) (c.all id (sym (open_off id (Of number (Opens port)) past off) ∙ on))

counted_leaves : (port : ℕ) (trace : Option ConnectionTrace) (number : ℕ) (past : List LoopAction) → (projection_of number past).is_open ≡ true → Counted past → Counted (Of number (Leaves port trace) ∷ past)
counted_leaves port trace number past was c = record {
  numbers = without number c.numbers;
  count = length_without number c.numbers (c.all number was) ∙ ap (λ n. n - 1) c.count;
  all = λ id on. by id (eqb number id) refl on;
}
  where
    by : (id : ℕ) (b : Bool) → eqb number id ≡ b → (projection_of id (Of number (Leaves port trace) ∷ past)).is_open ≡ true → is_member nat_eq (without number c.numbers) id ≡ true
    by id true at on = absurd (not_both (subst (λ n. (projection_of n (Of number (Leaves port trace) ∷ past)).is_open ≡ true) (sym (eqb-true number id at)) on) (open_at number (Leaves port trace) past))
    by id false off on = member_without number id c.numbers off (c.all id (sym (open_off id (Of number (Leaves port trace)) past off) ∙ on))

counted_act : (act : SessionAction) (number : ℕ) (past : List LoopAction) (stopped : Bool) → MayDo act (projection_of number past) stopped → Counted past → Counted (Of number act ∷ past)
counted_act (Opens port) number past stopped may c = counted_opens port number past c
counted_act (Hears got room bytes) number past stopped may c = counted_plain (Hears got room bytes) number past refl refl c
counted_act (Feed piece fed begins) number past stopped may c = counted_plain (Feed piece fed begins) number past refl refl c
counted_act (Forgets told port) number past stopped may c = counted_plain (Forgets told port) number past refl refl c
counted_act (Take room bytes) number past stopped may c = counted_plain (Take room bytes) number past refl refl c
counted_act (Says got bytes) number past stopped may c = counted_plain (Says got bytes) number past refl refl c
counted_act (Looks frame) number past stopped may c = counted_plain (Looks frame) number past refl refl c
counted_act (Misses port) number past stopped may c = counted_plain (Misses port) number past refl refl c
counted_act (Connect port) number past stopped may c = counted_plain (Connect port) number past refl refl c
counted_act (Turn room step bytes) number past stopped may c = counted_plain (Turn room step bytes) number past refl refl c
counted_act (Shows got bytes) number past stopped may c = counted_plain (Shows got bytes) number past refl refl c
counted_act Lose number past stopped may c = counted_plain Lose number past refl refl c
counted_act (HangsUp trace) number past stopped may c = counted_plain (HangsUp trace) number past refl refl c
counted_act (Leaves port trace) number past stopped may c = counted_leaves port trace number past may.0 c

counted_off : (action : LoopAction) (past : List LoopAction) → open_sessions (action ∷ past) ≡ open_sessions past → ((id : ℕ) → (projection_of id (action ∷ past)).is_open ≡ (projection_of id past).is_open) → Counted past → Counted (action ∷ past)
counted_off action past count same c = record { numbers = c.numbers; count = c.count ∙ sym count; all = λ id on. c.all id (sym (same id) ∙ on) }

counted : (journal : List LoopAction) → IsJournal journal → Counted journal
counted [] is_journal = record { numbers = []; count = refl; all = λ id on. absurd (not_both on (none_open id)) }
counted (Of number act ∷ past) is_journal = counted_act act number past (has_stopped past) is_journal.1.0 (counted past is_journal.0)
counted (Full ∷ past) is_journal = counted_off Full past refl (λ id. open_off id Full past refl) (counted past is_journal.0)
counted (Waits ∷ past) is_journal = counted_off Waits past refl (λ id. open_off id Waits past refl) (counted past is_journal.0)
counted (Refuses port trace ∷ past) is_journal = counted_off (Refuses port trace) past refl (λ id. open_off id (Refuses port trace) past refl) (counted past is_journal.0)
counted (Turned ∷ past) is_journal = counted_off Turned past refl (λ id. open_turned id past) (counted past is_journal.0)
counted (Stops ∷ past) is_journal = counted_off Stops past refl (λ id. open_off id Stops past refl) (counted past is_journal.0)

pub open_counted : (journal : List LoopAction) → IsJournal journal → (numbers : List ℕ) × AreOpenSessions journal numbers
open_counted journal is_journal =
    let c = counted journal is_journal in
    (c.numbers, record { count = c.count; all = λ id on. (is_member-Decides Decides-eqb c.numbers id).0 (c.all id on) })

pub few_at_open : (past : List LoopAction) (id port : ℕ) → IsJournal (Of id (Opens port) ∷ past) → open_sessions past < most_sessions
few_at_open past id port is_journal = (is_journal.1.1 refl).1

-- What holds of the projection of a session in every journal.
use Rattle.std.proofs.Common.{◌≡◌, ◌⊎◌, inl, inr, ℕ, Bool, true, false, List, [], ◌∷◌, ◌++◌, take, drop, refl, sym, ap, ◌∙◌, subst, append_assoc, append-nil}
use Rattle.std.proofs.Math.Dec.{eqb}
use Rattle.std.proofs.lemmas.Bool.{eq-eqb, eqb-true}
use Rattle.saned_serve.specs.ConnectionTraces.{trace_bytes_read, trace_bytes_written, bytes_moved, IsTrace}
use Rattle.saned_serve.specs.SessionActions.{SessionAction}
use Rattle.saned_serve.specs.SessionActions.SessionAction.{Opens, Hears, Feed, Forgets, Take, Says, Looks, Misses, Connect, Turn, Shows, Lose, HangsUp, Leaves}
use Rattle.saned_serve.specs.Journal.{LoopAction, SessionProjection, empty_projection, projection_after, projection_of, has_stopped, MayDo, IsJournal, IsFront}
use Rattle.saned_serve.specs.Journal.LoopAction.{Of, Full, Waits, Refuses, Turned, Stops}
use Rattle.saned_serve.specs.JournalSummary.{IsInJournal, WasLeft}
use Rattle.saned_serve.proofs.ActionSteps.{life_at, life_off, not_both, rest_after}

pub record Sums (projection : SessionProjection) : Type 0 where
  pub fed : IsFront projection.heard (trace_bytes_read projection.control)
  pub all : projection.is_open ≡ false → trace_bytes_read projection.control ≡ projection.heard
  pub said : IsFront (trace_bytes_written projection.control) projection.said
  pub shown : IsFront (trace_bytes_written projection.image) projection.shown

front_same : (xs ys : List ℕ) → ys ≡ xs → IsFront xs ys
front_same xs ys e = ([], e ∙ sym (append-nil xs))

front_more : (xs ys zs : List ℕ) → IsFront xs ys → IsFront xs (ys ++ zs)
front_more xs ys zs front = (front.0 ++ zs, ap (λ ws. ws ++ zs) front.1 ∙ append_assoc xs front.0 zs)

front_taken : (xs rest all : List ℕ) (n : ℕ) → xs ++ rest ≡ all → IsFront (xs ++ take n rest) all
front_taken xs rest all n e = (drop n rest, sym (rest_after xs rest all n e))

stands : {A : Type 0} {b : Bool} → b ≡ true → b ≡ false → A
stands on off = absurd (not_both on off)

-- an act leaves what holds
sums_act : (act : SessionAction) (projection : SessionProjection) (stopped : Bool) → MayDo act projection stopped → Sums projection → Sums (projection_after act projection)
sums_act (Opens port) projection stopped may s = record { fed = ([], refl); all = λ off. stands refl off; said = ([], refl); shown = ([], refl) }
sums_act (Hears got room bytes) projection stopped may s = record { fed = front_more projection.heard (trace_bytes_read projection.control) bytes s.fed; all = λ off. stands may.0 off; said = s.said; shown = s.shown }
sums_act (Feed piece fed begins) projection stopped may s = record { fed = front_same (projection.heard ++ piece) (trace_bytes_read projection.control) (sym may.1); all = λ off. sym may.1; said = s.said; shown = s.shown }
sums_act (Forgets told port) projection stopped may s = record { fed = s.fed; all = s.all; said = s.said; shown = s.shown }
sums_act (Take room bytes) projection stopped may s = record { fed = s.fed; all = s.all; said = front_more (trace_bytes_written projection.control) projection.said bytes s.said; shown = s.shown }
sums_act (Says got bytes) projection stopped may s = record { fed = s.fed; all = s.all; said = front_taken (trace_bytes_written projection.control) bytes projection.said (bytes_moved got) may.2; shown = s.shown }
sums_act (Looks frame) projection stopped may s = record { fed = s.fed; all = s.all; said = s.said; shown = s.shown }
sums_act (Misses port) projection stopped may s = record { fed = s.fed; all = s.all; said = s.said; shown = s.shown }
sums_act (Connect port) projection stopped may s = record { fed = s.fed; all = s.all; said = s.said; shown = ([], refl) }
sums_act (Turn room step bytes) projection stopped may s = record { fed = s.fed; all = s.all; said = s.said; shown = front_more (trace_bytes_written projection.image) projection.shown bytes s.shown }
sums_act (Shows got bytes) projection stopped may s = record { fed = s.fed; all = s.all; said = s.said; shown = front_taken (trace_bytes_written projection.image) bytes projection.shown (bytes_moved got) may.3 }
sums_act Lose projection stopped may s = record { fed = s.fed; all = s.all; said = s.said; shown = s.shown }
sums_act (HangsUp trace) projection stopped may s = record { fed = s.fed; all = s.all; said = s.said; shown = s.shown }
sums_act (Leaves port trace) projection stopped may s = record { fed = s.fed; all = λ off. may.4; said = s.said; shown = s.shown }

pub nobody : (id : ℕ) → projection_of id [] ≡ empty_projection
unfolding projection_of
nobody id = refl

sums_none : Sums empty_projection
sums_none = record { fed = ([], refl); all = λ off. refl; said = ([], refl); shown = ([], refl) }

-- of any session
pub sums : (journal : List LoopAction) (id : ℕ) → IsJournal journal → Sums (projection_of id journal)
sums [] id is_journal = subst (λ v. Sums v) (sym (nobody id)) sums_none
sums (Of number act ∷ past) id is_journal = by_number (eqb number id) refl (sums past id is_journal.0)
  where
    by_number : (v : Bool) → eqb number id ≡ v → Sums (projection_of id past) → Sums (projection_of id (Of number act ∷ past))
    by_number false e s = subst (λ v. Sums v) (sym (life_off id (Of number act) past e)) s
    by_number true e s =
        let may = subst (λ j. MayDo act (projection_of j past) (has_stopped past)) (eqb-true number id e) is_journal.1.0 in
        subst (λ v. Sums v) (sym (life_at id (Of number act) past e)) (sums_act act (projection_of id past) (has_stopped past) may s)
sums (Full ∷ past) id is_journal = subst (λ v. Sums v) (sym (life_off id Full past refl)) (sums past id is_journal.0)
sums (Waits ∷ past) id is_journal = subst (λ v. Sums v) (sym (life_off id Waits past refl)) (sums past id is_journal.0)
sums (Refuses port trace ∷ past) id is_journal = subst (λ v. Sums v) (sym (life_off id (Refuses port trace) past refl)) (sums past id is_journal.0)
sums (Turned ∷ past) id is_journal = let s = sums past id is_journal.0 in subst (λ v. Sums v) (sym (life_at id Turned past refl)) (record { fed = s.fed; all = s.all; said = s.said; shown = s.shown })
sums (Stops ∷ past) id is_journal = subst (λ v. Sums v) (sym (life_off id Stops past refl)) (sums past id is_journal.0)

-- ---- who was left

abbrev Fate : ℕ → List LoopAction → Type 0
Fate id journal = ((projection_of id journal).is_open ≡ true) ⊎ WasLeft id journal

-- an action of no session, or of another one
fate_off : (id : ℕ) (action : LoopAction) (past : List LoopAction) → projection_of id (action ∷ past) ≡ projection_of id past → Fate id past → Fate id (action ∷ past)
fate_off id action past same (inl on) = inl (ap (λ v. v.is_open) same ∙ on)
fate_off id action past same (inr left) = inr (record { port = left.port; trace = left.trace; held = inr left.held; told = subst (λ v. IsTrace left.trace v.control) (sym same) left.told })

fate_turned : (id : ℕ) (past : List LoopAction) → Fate id past → Fate id (Turned ∷ past)
fate_turned id past (inl on) = inl (ap (λ (v : SessionProjection). v.is_open) (life_at id Turned past refl) ∙ on)
fate_turned id past (inr left) = inr (record { port = left.port; trace = left.trace; held = inr left.held; told = subst (λ (v : SessionProjection). IsTrace left.trace v.control) (sym (life_at id Turned past refl)) left.told })

-- an action of its own
fate_act : (act : SessionAction) (id : ℕ) (past : List LoopAction) → MayDo act (projection_of id past) (has_stopped past) → Fate id (Of id act ∷ past)
fate_act (Opens port) id past may = inl (ap (λ (v : SessionProjection). v.is_open) (life_at id (Of id (Opens port)) past (eq-eqb id id refl)))
fate_act (Hears got room bytes) id past may = inl (ap (λ (v : SessionProjection). v.is_open) (life_at id (Of id (Hears got room bytes)) past (eq-eqb id id refl)) ∙ may.0)
fate_act (Feed piece fed begins) id past may = inl (ap (λ (v : SessionProjection). v.is_open) (life_at id (Of id (Feed piece fed begins)) past (eq-eqb id id refl)) ∙ may.0)
fate_act (Forgets told port) id past may = inl (ap (λ (v : SessionProjection). v.is_open) (life_at id (Of id (Forgets told port)) past (eq-eqb id id refl)) ∙ may.0)
fate_act (Take room bytes) id past may = inl (ap (λ (v : SessionProjection). v.is_open) (life_at id (Of id (Take room bytes)) past (eq-eqb id id refl)) ∙ may.0)
fate_act (Says got bytes) id past may = inl (ap (λ (v : SessionProjection). v.is_open) (life_at id (Of id (Says got bytes)) past (eq-eqb id id refl)) ∙ may.0)
fate_act (Looks frame) id past may = inl (ap (λ (v : SessionProjection). v.is_open) (life_at id (Of id (Looks frame)) past (eq-eqb id id refl)) ∙ may.0)
fate_act (Misses port) id past may = inl (ap (λ (v : SessionProjection). v.is_open) (life_at id (Of id (Misses port)) past (eq-eqb id id refl)) ∙ may.0)
fate_act (Connect port) id past may = inl (ap (λ (v : SessionProjection). v.is_open) (life_at id (Of id (Connect port)) past (eq-eqb id id refl)) ∙ may.0)
fate_act (Turn room step bytes) id past may = inl (ap (λ (v : SessionProjection). v.is_open) (life_at id (Of id (Turn room step bytes)) past (eq-eqb id id refl)) ∙ may.0)
fate_act (Shows got bytes) id past may = inl (ap (λ (v : SessionProjection). v.is_open) (life_at id (Of id (Shows got bytes)) past (eq-eqb id id refl)) ∙ may.0)
fate_act Lose id past may = inl (ap (λ (v : SessionProjection). v.is_open) (life_at id (Of id Lose) past (eq-eqb id id refl)) ∙ may.0)
fate_act (HangsUp trace) id past may = inl (ap (λ (v : SessionProjection). v.is_open) (life_at id (Of id (HangsUp trace)) past (eq-eqb id id refl)) ∙ may.0)
fate_act (Leaves port trace) id past may = inr (record {
  port = port;
  trace = trace;
  held = inl refl;
  told = subst (λ (v : SessionProjection). IsTrace trace v.control) (sym (life_at id (Of id (Leaves port trace)) past (eq-eqb id id refl))) may.3;
})

abbrev number_in : LoopAction → ℕ → ℕ
number_in (Of number act) none = number
number_in Full none = none
number_in Waits none = none
number_in (Refuses port trace) none = none
number_in Turned none = none
number_in Stops none = none

pub fate : (journal : List LoopAction) (id port : ℕ) → IsJournal journal → IsInJournal (Of id (Opens port)) journal → Fate id journal
fate [] id port is_journal held = absurd held
fate (Of number act ∷ past) id port is_journal held = by_number (eqb number id) refl held (λ before. fate past id port is_journal.0 before)
  where
    by_number : (v : Bool) → eqb number id ≡ v → (Of number act ≡ Of id (Opens port)) ⊎ IsInJournal (Of id (Opens port)) past → (IsInJournal (Of id (Opens port)) past → Fate id past) → Fate id (Of number act ∷ past)
    by_number true e held on =
        let same = eqb-true number id e in
        subst (λ j. Fate id (Of j act ∷ past)) (sym same) (fate_act act id past (subst (λ j. MayDo act (projection_of j past) (has_stopped past)) same is_journal.1.0))
    by_number false e (inl here) on = absurd (not_both (eq-eqb number id (ap (λ d. number_in d id) here)) e)
    by_number false e (inr before) on = fate_off id (Of number act) past (life_off id (Of number act) past e) (on before)
fate (Full ∷ past) id port is_journal (inl here) = absurd (let wrong : Full ≡ Of id (Opens port) = here in cc)
fate (Full ∷ past) id port is_journal (inr before) = fate_off id Full past (life_off id Full past refl) (fate past id port is_journal.0 before)
fate (Waits ∷ past) id port is_journal (inl here) = absurd (let wrong : Waits ≡ Of id (Opens port) = here in cc)
fate (Waits ∷ past) id port is_journal (inr before) = fate_off id Waits past (life_off id Waits past refl) (fate past id port is_journal.0 before)
fate (Refuses to trace ∷ past) id port is_journal (inl here) = absurd (let wrong : Refuses to trace ≡ Of id (Opens port) = here in cc)
fate (Refuses to trace ∷ past) id port is_journal (inr before) = fate_off id (Refuses to trace) past (life_off id (Refuses to trace) past refl) (fate past id port is_journal.0 before)
fate (Turned ∷ past) id port is_journal (inl here) = absurd (let wrong : Turned ≡ Of id (Opens port) = here in cc)
fate (Turned ∷ past) id port is_journal (inr before) = fate_turned id past (fate past id port is_journal.0 before)
fate (Stops ∷ past) id port is_journal (inl here) = absurd (let wrong : Stops ≡ Of id (Opens port) = here in cc)
fate (Stops ∷ past) id port is_journal (inr before) = fate_off id Stops past (life_off id Stops past refl) (fate past id port is_journal.0 before)

pub was_left : (journal : List LoopAction) (id port : ℕ) → IsJournal journal → IsInJournal (Of id (Opens port)) journal → (projection_of id journal).is_open ≡ false → WasLeft id journal
was_left journal id port is_journal held off = by_fate (fate journal id port is_journal held)
  where
    by_fate : Fate id journal → WasLeft id journal
    by_fate (inl on) = absurd (not_both on off)
    by_fate (inr left) = left

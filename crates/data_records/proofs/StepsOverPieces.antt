-- Steps over pieces are one step over all of them.
use Rattle.std.proofs.Common.{◌≡◌, ℕ, List, [], ◌∷◌, ◌++◌, refl, sym, ap, subst, ◌∙◌, append_assoc}
use Rattle.std.proofs.lemmas.List.{append-nil}
use Rattle.data_records.specs.declared.records.RecordPhase.{RecordPhase}
use Rattle.data_records.specs.declared.records.RecordPhase.TheVariants as phases
use Rattle.data_records.specs.Records.{end_record, all_counted, IsRecords, RecordsContinue, CarriesRecords, Piece, AreSteps, all_used, all_given}

no_step : (old new : RecordPhase) → old ≡ new → CarriesRecords old new [] []
no_step old new same text payload status = (
  λ c. (payload, refl, subst (λ (p : RecordPhase). RecordsContinue p text payload status) same c),
  λ m. subst (λ (x : List ℕ). RecordsContinue old text x status) (sym m.1) (subst (λ (p : RecordPhase). RecordsContinue p text m.0 status) (sym same) m.2),
)

two_steps : (old between new : RecordPhase) (u v g h : List ℕ) → CarriesRecords old between u g → CarriesRecords between new v h → CarriesRecords old new (u ++ v) (g ++ h)
two_steps old between new u v g h first next text payload status = (
  λ c.
      let a = (first (v ++ text) payload status).0 (subst (λ (t : List ℕ). RecordsContinue old t payload status) (append_assoc u v text) c) in
      let b = (next text a.0 status).0 a.2 in
      (b.0, a.1 ∙ ap (λ (t : List ℕ). g ++ t) b.1 ∙ sym (append_assoc g h b.0), b.2),
  λ m.
      let b = (next text (h ++ m.0) status).1 (m.0, refl, m.2) in
      let a = (first (v ++ text) payload status).1 (h ++ m.0, m.1 ∙ append_assoc g h m.0, b) in
      subst (λ (t : List ℕ). RecordsContinue old t payload status) (sym (append_assoc u v text)) a,
)

all_steps : (pieces : List Piece) (old new : RecordPhase) → AreSteps old pieces new → CarriesRecords old new (all_used pieces) (all_given pieces)
all_steps [] old new s = no_step old new s
all_steps (piece ∷ pieces) old new s = two_steps old s.0 new piece.used (all_used pieces) piece.given (all_given pieces) s.1 (all_steps pieces s.0 new s.2)

-- where the steps ended, what they used is the records of what they gave out
pub ended : (pieces : List Piece) (status : ℕ) → AreSteps phases.Head pieces (phases.Ended status) → IsRecords (all_used pieces) (all_given pieces) status
ended pieces status s =
    let c = (all_steps pieces phases.Head (phases.Ended status) s [] (all_given pieces) status).1 ([], sym (append-nil (all_given pieces)), (refl, refl, refl)) in
    subst (λ (t : List ℕ). IsRecords t (all_given pieces) status) (append-nil (all_used pieces)) c

not_empty : (text payload : List ℕ) (status : ℕ) → IsRecords text payload status → text ≡ [] → ⊥
not_empty text payload status r e = no_bodies r.bodies (sym r.text_is ∙ e)
  where
    no_bodies : (bodies : List (List ℕ)) → all_counted bodies ++ end_record status ≡ [] → ⊥
    no_bodies [] h = absurd (cc h)
    no_bodies (b ∷ bodies) h = absurd (cc h)

-- only the end has nothing behind it
only_end : (new : RecordPhase) (more : List ℕ) (status : ℕ) → RecordsContinue new [] more status → (new ≡ phases.Ended status) × (more ≡ [])
only_end phases.Head more status c = absurd (not_empty [] more status c refl)
only_end (phases.Head1 a) more status c = absurd (one_head a c.bodies c.text_is)
  where
    one_head : (a : ℕ) (bodies : List (List ℕ)) → a ∷ [] ≡ all_counted bodies ++ end_record status → ⊥
    one_head a [] h = absurd (cc h)
    one_head a (b ∷ bodies) h = absurd (cc h)
only_end (phases.Head2 a b) more status c = absurd (two_head a b c.bodies c.text_is)
  where
    two_head : (a b : ℕ) (bodies : List (List ℕ)) → a ∷ b ∷ [] ≡ all_counted bodies ++ end_record status → ⊥
    two_head a b [] h = absurd (cc h)
    two_head a b (x ∷ bodies) h = absurd (cc h)
only_end (phases.Head3 a b d) more status c = absurd (three_head a b d c.bodies c.text_is)
  where
    three_head : (a b d : ℕ) (bodies : List (List ℕ)) → a ∷ b ∷ d ∷ [] ≡ all_counted bodies ++ end_record status → ⊥
    three_head a b d [] h = absurd (cc h)
    three_head a b d (x ∷ bodies) h = absurd (cc h)
only_end (phases.Body left) more status c = absurd (not_empty c.rest c.other status c.behind (rest_empty c.body c.rest c.text_is))
  where
    rest_empty : (body rest : List ℕ) → [] ≡ body ++ rest → rest ≡ []
    rest_empty [] rest h = sym h
    rest_empty (b ∷ body) rest h = absurd (cc h)
only_end phases.Status more status c = absurd (cc (c.0))
only_end (phases.Ended found) more status c = (ap (λ (n : ℕ). phases.Ended n) (sym c.2), c.1)

-- steps that used the records have ended, and gave out their payload
pub used_all : (pieces : List Piece) (new : RecordPhase) (payload : List ℕ) (status : ℕ) → AreSteps phases.Head pieces new → IsRecords (all_used pieces) payload status
    → (new ≡ phases.Ended status) × (all_given pieces ≡ payload)
used_all pieces new payload status s r =
    let m = (all_steps pieces phases.Head new s [] payload status).0 (subst (λ (t : List ℕ). IsRecords t payload status) (sym (append-nil (all_used pieces))) r) in
    let e = only_end new m.0 status m.2 in
    (e.0, sym (m.1 ∙ ap (λ (t : List ℕ). all_given pieces ++ t) e.1 ∙ append-nil (all_given pieces)))

-- What is left on the way of a frame's data, behind a piece of it.
use Rattle.std.proofs.Common.{◌≡◌, ◌∙◌, ℕ, ◌+◌, ◌≤◌, List, [], ◌∷◌, ◌++◌, Option, Some, None, refl, sym, ap, subst, length, append-nil, append_assoc, length-append, arith}
use Rattle.sane_fixed.specs.declared.status.Status.{Status}
use Rattle.sane_fixed.specs.declared.status.Status.TheVariants as codes
use Rattle.sane_fixed.specs.Status.{status_code, status_of}
use Rattle.data_records.specs.declared.records.RecordPhase.{RecordPhase}
use Rattle.data_records.specs.declared.records.RecordPhase.TheVariants as phases
use Rattle.data_records.specs.Records.{CarriesRecords, RecordsContinue, HasEnded, IsRecords, all_counted, end_record}
use Rattle.world_refines.specs.Wires.{CarriesFlight}
use Rattle.world_refines.specs.DataDeliveries.{open_still}

-- ---- lists

pub same_back : (xs ys zs : List ℕ) → xs ++ ys ≡ xs ++ zs → ys ≡ zs
same_back [] ys zs e = e
same_back (x ∷ xs) ys zs e = same_back xs ys zs (let same : x ∷ (xs ++ ys) ≡ x ∷ (xs ++ zs) = e in cc)

not_none : (xs : List ℕ) (y : ℕ) (ys : List ℕ) → xs ++ y ∷ ys ≡ [] → ⊥
not_none [] y ys e = let clash : y ∷ ys ≡ [] = e in absurd (cc)
not_none (x ∷ xs) y ys e = let clash : x ∷ (xs ++ y ∷ ys) ≡ [] = e in absurd (cc)

-- ---- what is left

-- of what was on the way so much is left behind these bytes
pub record IsLeft (new : RecordPhase) (more flight given : List ℕ) (closing : Option Status) : Type 0 where
  pub rest : List ℕ
  pub flight_is : flight ≡ given ++ rest
  pub carried : CarriesFlight new more rest closing

-- the end alone
end_alone : (status : ℕ) → IsRecords (end_record status) [] status
end_alone status = record { bodies = []; short = tt; text_is = refl; payload_is = refl }

pub left_behind : (old new : RecordPhase) (used more flight given : List ℕ) (closing : Option Status) → CarriesRecords old new used given → CarriesFlight old (used ++ more) flight closing → IsLeft new more flight given closing
left_behind old new used more flight given (Some status) step c =
    let a = (step more flight (status_code c.0)).0 c.2 in
    record { rest = a.0; flight_is = a.1; carried = (c.0, c.1, a.2) }
left_behind old new used more flight given None step c =
    let all : RecordsContinue old ((used ++ more) ++ end_record 0) flight 0 = (c (end_record 0) flight 0).1 ([], sym (append-nil flight), end_alone 0) in
    let a = (step (more ++ end_record 0) flight 0).0 (subst (λ (t : List ℕ). RecordsContinue old t flight 0) (append_assoc used more (end_record 0)) all) in
    record {
      rest = a.0;
      flight_is = a.1;
      carried = λ text payload status. (
        λ k.
            let back = (step (more ++ text) (given ++ payload) status).1 (payload, refl, k) in
            let b = (c text (given ++ payload) status).0 (subst (λ (t : List ℕ). RecordsContinue old t (given ++ payload) status) (sym (append_assoc used more text)) back) in
            (b.0, same_back given payload (a.0 ++ b.0) (b.1 ∙ (ap (λ (l : List ℕ). l ++ b.0) a.1 ∙ append_assoc given a.0 b.0)), b.2),
        λ m.
            let whole = (c text (flight ++ m.0) status).1 (m.0, refl, m.2) in
            let b = (step (more ++ text) (flight ++ m.0) status).0 (subst (λ (t : List ℕ). RecordsContinue old t (flight ++ m.0) status) (append_assoc used more text) whole) in
            let is : b.0 ≡ payload = same_back given b.0 payload (sym b.1 ∙ (ap (λ (l : List ℕ). l ++ m.0) a.1 ∙ (append_assoc given a.0 m.0 ∙ ap (λ (l : List ℕ). given ++ l) (sym m.1)))) in
            subst (λ (l : List ℕ). RecordsContinue new (more ++ text) l status) is b.2,
      );
    }

-- ---- the end

-- a reader that stands behind an end has read all of it
pub record IsAtEnd (n : ℕ) (more flight given : List ℕ) (closing : Option Status) : Type 0 where
  pub code : Status
  pub closing_is : closing ≡ Some code
  pub number : n ≡ status_code code
  pub more_is : more ≡ []
  pub flight_is : flight ≡ given

at_end_by : (n : ℕ) (more flight given rest : List ℕ) (closing : Option Status) → flight ≡ given ++ rest → CarriesFlight (phases.Ended n) more rest closing → IsAtEnd n more flight given closing
at_end_by n more flight given rest (Some status) e c =
    let at : (more ≡ []) × (rest ≡ []) × (status_code c.0 ≡ n) = c.2 in
    record {
      code = c.0;
      closing_is = ap (λ (s : Status). Some s) (sym c.1);
      number = sym at.2;
      more_is = at.0;
      flight_is = e ∙ (ap (λ (l : List ℕ). given ++ l) at.1 ∙ append-nil given);
    }
at_end_by n more flight given rest None e c =
    let at : (more ++ end_record 0 ≡ []) × (rest ≡ []) × (0 ≡ n) = (c (end_record 0) rest 0).1 ([], sym (append-nil rest), end_alone 0) in
    absurd (not_none more 255 (255 ∷ 255 ∷ 255 ∷ 0 ∷ []) at.0)

pub at_end : (old : RecordPhase) (n : ℕ) (used more flight given : List ℕ) (closing : Option Status) → CarriesRecords old (phases.Ended n) used given → CarriesFlight old (used ++ more) flight closing → IsAtEnd n more flight given closing
at_end old n used more flight given closing step c = let l = left_behind old (phases.Ended n) used more flight given closing step c in at_end_by n more flight given l.rest closing l.flight_is l.carried

-- the status of its number
pub code_at : (code : Status) → status_of (status_code code) ≡ Some code
code_at codes.Good = refl
code_at codes.Unsupported = refl
code_at codes.Cancelled = refl
code_at codes.DeviceBusy = refl
code_at codes.Inval = refl
code_at codes.Eof = refl
code_at codes.Jammed = refl
code_at codes.NoDocs = refl
code_at codes.CoverOpen = refl
code_at codes.IoError = refl
code_at codes.NoMem = refl
code_at codes.AccessDenied = refl

-- ---- a reader that has not ended waits for more where an end is on the way

long_records : (text payload : List ℕ) (status : ℕ) → IsRecords text payload status → 5 ≤ length text
long_records text payload status r =
    let e : length text ≡ length (all_counted r.bodies) + length (end_record status) = ap (λ (l : List ℕ). length l) r.text_is ∙ length-append (all_counted r.bodies) (end_record status) in
    omega (arith, e)

no_end_yet : (new : RecordPhase) (rest : List ℕ) (n : ℕ) → (HasEnded new → ⊥) → RecordsContinue new [] rest n → ⊥
no_end_yet phases.Head rest n going c = omega (arith, long_records [] rest n c)
no_end_yet (phases.Head1 a) rest n going c = omega (arith, long_records (a ∷ []) rest n c)
no_end_yet (phases.Head2 a b) rest n going c = omega (arith, long_records (a ∷ b ∷ []) rest n c)
no_end_yet (phases.Head3 a b d) rest n going c = omega (arith, long_records (a ∷ b ∷ d ∷ []) rest n c)
no_end_yet (phases.Body left) rest n going c =
    let long = long_records c.rest c.other n c.behind in
    let none : 0 ≡ length c.body + length c.rest = ap (λ (l : List ℕ). length l) c.text_is ∙ length-append c.body c.rest in
    omega (arith, long, none)
no_end_yet phases.Status rest n going c = let clash : [] ≡ n ∷ [] = c.0 in absurd (cc)
no_end_yet (phases.Ended found) rest n going c = going tt

-- so the connection is there
pub still_there : (new : RecordPhase) (more rest : List ℕ) (closing : Option Status) → (HasEnded new → ⊥) → CarriesFlight new more rest closing → open_still closing more ≡ Some more
still_there new more rest None going c = refl
still_there new [] rest (Some status) going c = absurd (no_end_yet new rest (status_code c.0) going c.2)
still_there new (x ∷ more) rest (Some status) going c = refl

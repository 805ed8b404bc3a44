-- What stands behind a head, and behind a part of a body.
use Rattle.std.proofs.Common.{◌≡◌, ℕ, zero, suc, ◌-◌, ◌^◌, ◌≤◌, ◌<◌, true, false, eqb, List, [], ◌∷◌, ◌++◌, length, get_or, take, drop, refl, sym, ap, subst, ◌∙◌, append_assoc, arith, inl, inr}
use Rattle.std.specs.Prelude.{slice_range, min}
use Rattle.std.specs.List.{AllByRecursion}
use Rattle.std.specs.Int.{w32, to_be_bytes, from_be_bytes}
use Rattle.std.proofs.lemmas.Bool.{cases_eq, eq-eqb, ne_eqb}
use Rattle.std.proofs.lemmas.List.{nil_from_length, length-append, length-take, length-drop, take-append-drop, take-append-le, drop-append-le, take_at, drop_at}
use Rattle.std.proofs.lemmas.Nat.{be_bytes_4, from_be_bytes-to_be_bytes_4}
use Rattle.data_records.specs.declared.records.RecordPhase.{RecordPhase}
use Rattle.data_records.specs.declared.records.RecordPhase.TheVariants as phases
use Rattle.data_records.specs.Records.{end_record, all_counted, joined_bodies, IsRecords, IsInBody, RecordsContinue, CarriesRecords, head_phase, rest_of_body}

-- a record in front of others
one_more : (body rest other : List ℕ) (status : ℕ) → length body < 4294967295 → IsRecords rest other status → IsRecords (to_be_bytes w32 (length body) ++ (body ++ rest)) (body ++ other) status
one_more body rest other status short r = record {
  bodies = body ∷ r.bodies;
  short = (short, r.short);
  text_is = ap (λ (t : List ℕ). to_be_bytes w32 (length body) ++ (body ++ t)) r.text_is ∙ simp append_assoc;
  payload_is = ap (λ (t : List ℕ). body ++ t) r.payload_is;
}

-- what stands behind a whole head
data Behind (n : ℕ) (text payload : List ℕ) (status : ℕ) : Type 0 where
  AtEnd : n ≡ 4294967295 → text ≡ status ∷ [] → payload ≡ [] → Behind n text payload status
  AtBody : n < 4294967295 → IsInBody n text payload status → Behind n text payload status

same_head : (a b c d e f g h : ℕ) (s t : List ℕ) → a ∷ b ∷ c ∷ d ∷ s ≡ e ∷ f ∷ g ∷ h ∷ t → (a ∷ b ∷ c ∷ d ∷ [] ≡ e ∷ f ∷ g ∷ h ∷ []) × (s ≡ t)
same_head a b c d e f g h s t e1 = (ap (take 4) e1, ap (drop 4) e1)

behind_bodies : (a b c d : ℕ) (text payload : List ℕ) (status : ℕ) (bodies : List (List ℕ)) → AllByRecursion (λ body. length body < 4294967295) bodies → a ∷ b ∷ c ∷ d ∷ text ≡ all_counted bodies ++ end_record status → payload ≡ joined_bodies bodies
    → Behind (from_be_bytes w32 (a ∷ b ∷ c ∷ d ∷ [])) text payload status
behind_bodies a b c d text payload status [] short text_is payload_is =
    let e = same_head a b c d 255 255 255 255 text (status ∷ []) text_is in
    AtEnd (ap (from_be_bytes w32) e.0) e.1 payload_is
behind_bodies a b c d text payload status (x ∷ xs) short text_is payload_is =
    let shown : a ∷ b ∷ c ∷ d ∷ text ≡ to_be_bytes w32 (length x) ++ (x ++ (all_counted xs ++ end_record status)) = text_is ∙ simp append_assoc in
    let head : a ∷ b ∷ c ∷ d ∷ [] ≡ to_be_bytes w32 (length x) = ap (take 4) shown in
    let tail : text ≡ x ++ (all_counted xs ++ end_record status) = ap (drop 4) shown in
    let n : from_be_bytes w32 (a ∷ b ∷ c ∷ d ∷ []) ≡ length x = ap (from_be_bytes w32) head ∙ from_be_bytes-to_be_bytes_4 (length x) (omega (arith, short.0)) in
    AtBody (omega (arith, n, short.0)) (record {
      body = x;
      other = joined_bodies xs;
      rest = all_counted xs ++ end_record status;
      long = sym n;
      text_is = tail;
      payload_is = payload_is;
      behind = record { bodies = xs; short = short.1; text_is = refl; payload_is = refl };
    })

behind_head : (a b c d : ℕ) (text payload : List ℕ) (status : ℕ) → IsRecords (a ∷ b ∷ c ∷ d ∷ text) payload status → Behind (from_be_bytes w32 (a ∷ b ∷ c ∷ d ∷ [])) text payload status
behind_head a b c d text payload status r = behind_bodies a b c d text payload status r.bodies r.short r.text_is r.payload_is

-- and back
from_behind : (a b c d : ℕ) (text payload : List ℕ) (status : ℕ) → ((i : ℕ) → get_or (a ∷ b ∷ c ∷ d ∷ []) i 0 < 256) → Behind (from_be_bytes w32 (a ∷ b ∷ c ∷ d ∷ [])) text payload status → IsRecords (a ∷ b ∷ c ∷ d ∷ text) payload status
from_behind a b c d text payload status fits (AtEnd n t p) =
    let head : to_be_bytes w32 4294967295 ≡ a ∷ b ∷ c ∷ d ∷ [] = be_bytes_4 (a ∷ b ∷ c ∷ d ∷ []) 4294967295 refl fits (sym n) in
    record { bodies = []; short = tt; text_is = ap (λ (h : List ℕ). h ++ text) (sym head) ∙ ap (λ (s : List ℕ). 255 ∷ 255 ∷ 255 ∷ 255 ∷ s) t; payload_is = p }
from_behind a b c d text payload status fits (AtBody short i) =
    let head : to_be_bytes w32 (length i.body) ≡ a ∷ b ∷ c ∷ d ∷ [] = be_bytes_4 (a ∷ b ∷ c ∷ d ∷ []) (length i.body) refl fits i.long in
    let whole : a ∷ b ∷ c ∷ d ∷ text ≡ to_be_bytes w32 (length i.body) ++ (i.body ++ i.rest) = ap (λ (h : List ℕ). h ++ text) (sym head) ∙ ap (λ (s : List ℕ). to_be_bytes w32 (length i.body) ++ s) i.text_is in
    let made = one_more i.body i.rest i.other status (omega (arith, i.long, short)) i.behind in
    subst (λ (p : List ℕ). IsRecords (a ∷ b ∷ c ∷ d ∷ text) p status) (sym i.payload_is) (subst (λ (t : List ℕ). IsRecords t (i.body ++ i.other) status) (sym whole) made)

-- a body of which nothing is left
empty_body : (text payload : List ℕ) (status : ℕ) → IsInBody 0 text payload status → IsRecords text payload status
empty_body text payload status i =
    let none : i.body ≡ [] = nil_from_length i.body i.long in
    let t : text ≡ i.rest = i.text_is ∙ ap (λ (b : List ℕ). b ++ i.rest) none in
    let p : payload ≡ i.other = i.payload_is ∙ ap (λ (b : List ℕ). b ++ i.other) none in
    rw (t, p) i.behind

no_body : (text payload : List ℕ) (status : ℕ) → IsRecords text payload status → IsInBody 0 text payload status
no_body text payload status r = record { body = []; other = payload; rest = text; long = refl; text_is = refl; payload_is = refl; behind = r }

body_place : (left : ℕ) (text payload : List ℕ) (status : ℕ) → IsInBody left text payload status → RecordsContinue (rest_of_body left) text payload status
body_place zero text payload status i = empty_body text payload status i
body_place (suc left) text payload status i = i

place_body : (left : ℕ) (text payload : List ℕ) (status : ℕ) → RecordsContinue (rest_of_body left) text payload status → IsInBody left text payload status
place_body zero text payload status r = no_body text payload status r
place_body (suc left) text payload status i = i

head_place : (n : ℕ) (text payload : List ℕ) (status : ℕ) → Behind n text payload status → RecordsContinue (head_phase n) text payload status
head_place zero text payload status (AtEnd e t p) = absurd (omega arith)
head_place zero text payload status (AtBody lt i) = empty_body text payload status i
head_place (suc n) text payload status (AtEnd e t p) =
    let is : eqb (suc n) 4294967295 ≡ true = eq-eqb _ _ e in
    rw is (t, p)
head_place (suc n) text payload status (AtBody lt i) =
    let is : eqb (suc n) 4294967295 ≡ false = ne_eqb _ _ (omega arith) in
    rw is i

place_head : (n : ℕ) (text payload : List ℕ) (status : ℕ) → n < 2 ^ 32 → RecordsContinue (head_phase n) text payload status → Behind n text payload status
place_head zero text payload status fits r = AtBody (omega arith) (no_body text payload status r)
place_head (suc n) text payload status fits r =
    elim (cases_eq (suc n) 4294967295) [
      | inl e ↦
          let is : eqb (suc n) 4294967295 ≡ true = eq-eqb _ _ e in
          let at = rw is at r in
          AtEnd e at.0 at.1
      | inr e ↦
          let is : eqb (suc n) 4294967295 ≡ false = ne_eqb _ _ e in
          AtBody (omega arith) (rw is at r)
    ]

four : (a b c d : ℕ) → a < 256 → b < 256 → c < 256 → d < 256 → (i : ℕ) → get_or (a ∷ b ∷ c ∷ d ∷ []) i 0 < 256
four a b c d fa fb fc fd zero = fa
four a b c d fa fb fc fd (suc zero) = fb
four a b c d fa fb fc fd (suc (suc zero)) = fc
four a b c d fa fb fc fd (suc (suc (suc zero))) = fd
four a b c d fa fb fc fd (suc (suc (suc (suc i)))) = omega arith

pub head_carries : (a b c d : ℕ) → ((i : ℕ) → get_or (a ∷ b ∷ c ∷ d ∷ []) i 0 < 256) → CarriesRecords (phases.Head3 a b c) (head_phase (from_be_bytes w32 (a ∷ b ∷ c ∷ d ∷ []))) (d ∷ []) []
head_carries a b c d fits text payload status = (
  λ r. (payload, refl, head_place _ text payload status (behind_head a b c d text payload status r)),
  λ m. subst (λ (p : List ℕ). IsRecords (a ∷ b ∷ c ∷ d ∷ text) p status) (sym m.1) (from_behind a b c d text m.0 status fits (place_head _ text m.0 status (omega (arith, fits 0, fits 1, fits 2, fits 3)) m.2)),
)

pub body_carries : (left : ℕ) (used : List ℕ) → length used ≤ left → CarriesRecords (phases.Body left) (rest_of_body (left - length used)) used used
body_carries left used le text payload status = (
  λ i.
      let k = length used in
      let e : used ++ text ≡ i.body ++ i.rest = i.text_is in
      let front : used ≡ take (length used) i.body = sym (take_at used text (length used) refl) ∙ ap (take (length used)) e ∙ take-append-le (length used) i.body i.rest (omega (arith, i.long)) in
      let behind : text ≡ drop (length used) i.body ++ i.rest = sym (drop_at used text (length used) refl) ∙ ap (drop (length used)) e ∙ drop-append-le (length used) i.body i.rest (omega (arith, i.long)) in
      let split : i.body ≡ used ++ drop (length used) i.body = sym (take-append-drop (length used) i.body) ∙ ap (λ (t : List ℕ). t ++ drop (length used) i.body) (sym front) in
      let more : List ℕ = drop (length used) i.body ++ i.other in (
        drop (length used) i.body ++ i.other,
        i.payload_is ∙ ap (λ (b : List ℕ). b ++ i.other) split ∙ append_assoc used (drop (length used) i.body) i.other,
        body_place _ text (drop (length used) i.body ++ i.other) status (record { body = drop (length used) i.body; other = i.other; rest = i.rest; long = omega (arith, i.long, length-drop (length used) i.body); text_is = behind; payload_is = refl; behind = i.behind }),
      ),
  λ m.
      let i = place_body _ text m.0 status m.2 in
      record {
        body = used ++ i.body;
        other = i.other;
        rest = i.rest;
        long = omega (arith, i.long, length-append used i.body);
        text_is = ap (λ (t : List ℕ). used ++ t) i.text_is ∙ sym (append_assoc used i.body i.rest);
        payload_is = m.1 ∙ ap (λ (t : List ℕ). used ++ t) i.payload_is ∙ sym (append_assoc used i.body i.other);
        behind = i.behind;
      },
)

first_of : (piece : List ℕ) (d : ℕ) → take 1 piece ≡ d ∷ [] → get_or piece 0 0 ≡ d
first_of [] d e = absurd cc
first_of (x ∷ piece) d e = ap (λ (t : List ℕ). get_or t 0 0) e

pub head_step : (old new : RecordPhase) (a b c d n : ℕ) (piece : List ℕ) → old ≡ phases.Head3 a b c → new ≡ head_phase n → n ≡ from_be_bytes w32 (a ∷ b ∷ c ∷ d ∷ []) → take 1 piece ≡ d ∷ []
    → a < 256 → b < 256 → c < 256 → ((i : ℕ) → get_or piece i 0 < 256) → CarriesRecords old new (take 1 piece) []
head_step old new a b c d n piece is to number front fa fb fc fits =
    let fd : d < 256 = subst (λ (x : ℕ). x < 256) (first_of piece d front) (fits 0) in
    rw (is, to, number, front) (head_carries a b c d (four a b c d fa fb fc fd))

pub body_step : (old new : RecordPhase) (left k : ℕ) (piece : List ℕ) → old ≡ phases.Body left → new ≡ rest_of_body (left - k) → k ≡ min left (length piece)
    → CarriesRecords old new (take k piece) (slice_range piece 0 k)
body_step old new left k piece is to count =
    let long : length (take k piece) ≡ k = omega (arith, length-take k piece) in
    let c = body_carries left (take k piece) (omega arith) in
    let same : slice_range piece 0 k ≡ take k piece = grind arith in
    rw (is, to, same) (subst (λ (m : ℕ). CarriesRecords (phases.Body left) (rest_of_body (left - m)) (take k piece) (take k piece)) long c)

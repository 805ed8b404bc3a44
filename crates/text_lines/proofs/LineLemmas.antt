-- A text is cut into lines in one way, which the standard library's `lines` computes.
use Rattle.std.proofs.Common.{◌≡◌, ◌≢◌, ℕ, zero, suc, ◌+◌, ◌-◌, ◌<◌, ◌≤◌, ◌==◌, Bool, true, false, cond, List, [], ◌∷◌, ◌++◌, length, take, drop, get_or, arith, refl, sym, ap, ◌∙◌, subst, inl, inr, ◌⊎◌, length-append}
use Rattle.std.specs.Prelude.{Contains}
use Rattle.std.specs.List.{All, position_or_len, slice_split}
use Rattle.std.specs.Str.Lines.{strip_carriage_return, lines_of_parts}
use Rattle.std.proofs.lemmas.Bool.{eqb-true, eqb-false, eq-eqb, ne_eqb, cases_lt}
use Rattle.std.proofs.lemmas.List.{take_more, take_all, get_or_push, get_or_default, take_at, append_assoc, length_push, append-nil, length-take, get_or-take, nil_from_length}
use Rattle.std.proofs.lemmas.List.Elements.{Contains-append_left, Contains-append_cases}
use Rattle.std.proofs.lemmas.List.Splits.{slice_split_at, slice_split_none, length-slice_split}
use Rattle.std.proofs.lemmas.List.Sums.{split_at_first, fails_before_first, passes_at_first}
use Rattle.text_lines.specs.Lines.{SplitsAtFirst, LineEnding, lf, cr_lf, text_end, ending_bytes, MayEnd, IsFirstLine, AreLines, lines_of, AllAfter}

-- ---- a CR at the end

last_is_cr : (l : List ℕ) → (get_or l (length l - 1) 0 == 13) ≡ true → l ≡ take (length l - 1) l ++ 13 ∷ []
last_is_cr [] h = absurd (let e : 0 ≡ 13 = eqb-true 0 13 h in omega arith)
last_is_cr (b ∷ bs) h =
    let l = b ∷ bs in
    let i = length l - 1 in
    let e : get_or l i 0 ≡ 13 = eqb-true (get_or l i 0) 13 h in
    let all : take (i + 1) l ≡ l = take_all (i + 1) l (omega arith) in
    let more : take (i + 1) l ≡ take i l ++ get_or l i 0 ∷ [] = take_more l i 0 (omega arith) in
    sym all ∙ more ∙ ap (λ x. take i l ++ x ∷ []) e

ends_in_cr : (front : List ℕ) → get_or (front ++ 13 ∷ []) (length (front ++ 13 ∷ []) - 1) 0 ≡ 13
ends_in_cr front =
    let n = length_push front 13 in
    get_or_push front 13 0 (length (front ++ 13 ∷ []) - 1) (omega arith)

strip-cr : (front : List ℕ) → strip_carriage_return (front ++ 13 ∷ []) ≡ front
strip-cr front =
    let test : (get_or (front ++ 13 ∷ []) (length (front ++ 13 ∷ []) - 1) 0 == 13) ≡ true = eq-eqb _ 13 (ends_in_cr front) in
    let n = length_push front 13 in
    rw test (take_at front (13 ∷ []) (length (front ++ 13 ∷ []) - 1) (omega arith))

strip-none : (line : List ℕ) → ((front : List ℕ) → line ≢ front ++ 13 ∷ []) → strip_carriage_return line ≡ line
strip-none line none =
    let test : (get_or line (length line - 1) 0 == 13) ≡ false =
    elim (get_or line (length line - 1) 0 == 13) as (λ t. (get_or line (length line - 1) 0 == 13) ≡ t → t ≡ false) [
      | true ↦ λ e. absurd (none (take (length line - 1) line) (last_is_cr line e))
      | false ↦ λ e. refl
    ] refl in
    rw test refl

-- ---- the lines as the parts between LFs

no_lf_fails : (bytes : List ℕ) → ¬ Contains bytes 10 → All (λ b. (b == 10) ≡ false) bytes
no_lf_fails bytes none k d in_range =
    ne_eqb (get_or bytes k d) 10 (λ e. none (k, in_range, get_or_default bytes k 10 d in_range ∙ e))

lines_of_parts-cons : (x : List ℕ) (parts : List (List ℕ)) → 0 < length parts → lines_of_parts (x ∷ parts) ≡ strip_carriage_return x ∷ lines_of_parts parts
lines_of_parts-cons x [] some = absurd (omega arith)
lines_of_parts-cons x (y ∷ more) some = refl

lines_of-split : (before after : List ℕ) → ¬ Contains before 10 → lines_of (before ++ 10 ∷ after) ≡ strip_carriage_return before ∷ lines_of after
unfolding lines_of
lines_of-split before after none =
    let parts : slice_split (λ b. b == 10) (before ++ 10 ∷ after) ≡ before ∷ slice_split (λ b. b == 10) after = slice_split_at (λ b. b == 10) before 10 after (no_lf_fails before none) refl in
    let some : 0 < length (slice_split (λ b. b == 10) after) = omega (arith, length-slice_split (λ b. b == 10) after) in
    ap lines_of_parts parts ∙ lines_of_parts-cons before (slice_split (λ b. b == 10) after) some

pub lines_of-nil : lines_of [] ≡ []
unfolding lines_of
lines_of-nil = refl

lines_of-whole : (text : List ℕ) → ¬ Contains text 10 → text ≢ [] → lines_of text ≡ text ∷ []
unfolding lines_of
lines_of-whole [] none some = absurd (some refl)
lines_of-whole (b ∷ bs) none some =
    let test : (length (b ∷ bs) == 0) ≡ false = ne_eqb (length (b ∷ bs)) 0 (λ e. omega arith) in
    ap lines_of_parts (slice_split_none (λ b. b == 10) (b ∷ bs) (no_lf_fails (b ∷ bs) none)) ∙ rw test refl

-- ---- the first line

cr_is_no_lf : ¬ Contains {X = ℕ} (13 ∷ []) 10
cr_is_no_lf c =
    let at : c.0 ≡ 0 = omega arith in
    let same : ◌≡◌ {A = ℕ} 13 10 = subst (λ (k : ℕ). get_or (13 ∷ []) k 10 ≡ 10) at c.2 in
    absurd (omega arith)

no_lf_before_cr : (line : List ℕ) → ¬ Contains line 10 → ¬ Contains (line ++ 13 ∷ []) 10
no_lf_before_cr line none h =
    elim (Contains-append_cases line (13 ∷ []) 10 h) [
      | inl c ↦ none c
      | inr c ↦ cr_is_no_lf c
    ]

lines_of-by : (e : LineEnding) (line rest : List ℕ) → ¬ Contains line 10 → MayEnd e line rest → lines_of (line ++ (ending_bytes e ++ rest)) ≡ line ∷ lines_of rest
lines_of-by lf line rest none may = lines_of-split line rest none ∙ ap (λ l. l ∷ lines_of rest) (strip-none line may)
lines_of-by cr_lf line rest none may =
    ap lines_of (sym (append_assoc line (13 ∷ []) (10 ∷ rest)))
    ∙ lines_of-split (line ++ 13 ∷ []) rest (no_lf_before_cr line none)
    ∙ ap (λ l. l ∷ lines_of rest) (strip-cr line)
lines_of-by text_end line rest none may =
    rw may.1 (ap lines_of (append-nil line) ∙ lines_of-whole line none may.0 ∙ ap (λ l. line ∷ l) (sym lines_of-nil))

-- the lines of a text are its first line and the lines of the rest
pub lines_of-first : (text line rest : List ℕ) → IsFirstLine text line rest → lines_of text ≡ line ∷ lines_of rest
lines_of-first text line rest h = ap lines_of h.text_is ∙ lines_of-by h.ending line rest h.no_lf h.may_end

-- a line that LF ends
pub first_by_lf : (text before after : List ℕ) → SplitsAtFirst 10 text before after → IsFirstLine text (strip_carriage_return before) after
first_by_lf text before after h =
    let P : Bool → Type 0 = λ t. (get_or before (length before - 1) 0 == 13) ≡ t → IsFirstLine text (cond t (take (length before - 1) before) before) after in
    elim (get_or before (length before - 1) 0 == 13) as P [
      | true ↦ λ e.
          let front = take (length before - 1) before in
          let whole : before ≡ front ++ 13 ∷ [] = last_is_cr before e in
          record {
            ending = cr_lf;
            text_is = h.bytes_are ∙ ap (λ l. l ++ 10 ∷ after) whole ∙ append_assoc front (13 ∷ []) (10 ∷ after);
            no_lf = λ c. h.first (subst (λ (l : List ℕ). Contains l 10) (sym whole) (Contains-append_left front (13 ∷ []) 10 c));
            may_end = tt;
          }
      | false ↦ λ e. record {
        ending = lf;
        text_is = h.bytes_are;
        no_lf = h.first;
        may_end = λ front whole. eqb-false (get_or before (length before - 1) 0) 13 e (subst (λ (l : List ℕ). get_or l (length l - 1) 0 ≡ 13) (sym whole) (ends_in_cr front));
      }
    ] refl

-- a line that the end of the text ends
pub first_by_end : (text rest : List ℕ) → ¬ Contains text 10 → text ≢ [] → rest ≡ [] → IsFirstLine text text rest
first_by_end text rest none some end = record {
  ending = text_end;
  text_is = rw end (sym (append-nil text));
  no_lf = none;
  may_end = (some, end);
}

-- ---- the whole text

before_is_free : (text : List ℕ) → ¬ Contains (take (position_or_len (λ b. b == 10) text) text) 10
before_is_free text c =
    let i = position_or_len (λ b. b == 10) text in
    let in_front : c.0 < i = omega (arith, length-take i text) in
    eqb-false (get_or text c.0 10) 10 (fails_before_first (λ b. b == 10) text c.0 10 in_front) (sym (get_or-take i text c.0 10 in_front) ∙ c.2)

none_is_free : (text : List ℕ) → length text ≤ position_or_len (λ b. b == 10) text → ¬ Contains text 10
none_is_free text none c =
    let in_front : c.0 < position_or_len (λ b. b == 10) text = omega arith in
    eqb-false (get_or text c.0 10) 10 (fails_before_first (λ b. b == 10) text c.0 10 in_front) c.2

split_at_lf : (text : List ℕ) → position_or_len (λ b. b == 10) text < length text → (before : List ℕ) × (after : List ℕ) × SplitsAtFirst 10 text before after
split_at_lf text found =
    let i = position_or_len (λ b. b == 10) text in
    let at : get_or text i 0 ≡ 10 = eqb-true (get_or text i 0) 10 (passes_at_first (λ b. b == 10) text 0 found) in (
      take i text,
      drop (i + 1) text,
      record {
        bytes_are = subst (λ (x : ℕ). text ≡ take i text ++ x ∷ drop (i + 1) text) at (split_at_first (λ b. b == 10) text 0 found);
        first = before_is_free text;
      },
    )

first_in : (text : List ℕ) → text ≢ [] → (line : List ℕ) × (rest : List ℕ) × IsFirstLine text line rest
first_in text some =
    elim (cases_lt (position_or_len (λ b. b == 10) text) (length text)) [
      | inl found ↦ let split = split_at_lf text found in (strip_carriage_return split.0, split.1, first_by_lf text split.0 split.1 split.2)
      | inr none ↦ (text, [], first_by_end text [] (none_is_free text none) some refl)
    ]

first_of : (text : List ℕ) → (text ≡ []) ⊎ ((line : List ℕ) × (rest : List ℕ) × IsFirstLine text line rest)
first_of [] = inl refl
first_of (b ∷ bs) = inr (first_in (b ∷ bs) (λ e. (cc)))

ending_takes : (e : LineEnding) (line rest : List ℕ) → MayEnd e line rest → length rest < length line + (length (ending_bytes e) + length rest)
ending_takes lf line rest may = omega arith
ending_takes cr_lf line rest may = omega arith
ending_takes text_end [] rest may = absurd (may.0 refl)
ending_takes text_end (b ∷ bs) rest may = let none : length rest ≡ 0 = ap length may.1 in omega arith

shorter_rest : (text line rest : List ℕ) → IsFirstLine text line rest → length rest < length text
shorter_rest text line rest h =
    omega (arith, ending_takes h.ending line rest h.may_end, ap length h.text_is, length-append line (ending_bytes h.ending ++ rest), length-append (ending_bytes h.ending) rest)

cut_none : (text : List ℕ) → text ≡ [] → AreLines (lines_of text) text
cut_none text e = subst (λ (l : List (List ℕ)). AreLines l text) (sym (ap lines_of e ∙ lines_of-nil)) e

cut_within : (n : ℕ) (text : List ℕ) → length text ≤ n → AreLines (lines_of text) text
cut_within zero text bound = cut_none text (nil_from_length text (omega arith))
cut_within (suc n) text bound =
    elim (first_of text) [
      | inl none ↦ cut_none text none
      | inr first ↦
          let shorter = shorter_rest text first.0 first.1 first.2 in
          subst (λ (l : List (List ℕ)). AreLines l text) (sym (lines_of-first text first.0 first.1 first.2)) (first.1, first.2, cut_within n first.1 (omega arith))
    ]

pub cut_so : (text : List ℕ) → AreLines (lines_of text) text
cut_so text = cut_within (length text) text (omega arith)

pub cut_in_one_way : (text : List ℕ) (cut : List (List ℕ)) → AreLines cut text → cut ≡ lines_of text
cut_in_one_way text [] h = sym (ap lines_of h ∙ lines_of-nil)
cut_in_one_way text (line ∷ more) h = ap (λ l. line ∷ l) (cut_in_one_way h.0 more h.2) ∙ sym (lines_of-first text line h.0 h.1)

-- one good line more
pub AllAfter-push : (Good : List (List ℕ) → List ℕ → Type 0) (front ls : List (List ℕ)) (line : List ℕ) → AllAfter Good front ls → Good (front ++ ls) line → AllAfter Good front (ls ++ line ∷ [])
AllAfter-push Good front [] line all good = (subst (λ (l : List (List ℕ)). Good l line) (append-nil front) good, tt)
AllAfter-push Good front (l ∷ ls) line all good =
    (all.0, AllAfter-push Good (front ++ l ∷ []) ls line all.1 (subst (λ (x : List (List ℕ)). Good x line) (sym (append_assoc front (l ∷ []) ls)) good))

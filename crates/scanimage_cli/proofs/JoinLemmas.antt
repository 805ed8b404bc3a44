-- Pieces that are put together, and texts that are joined by `|`.
use Rattle.std.proofs.Common.{◌≡◌, ◌∙◌, ◌≤◌, ℕ, ℤ, pos, List, [], ◌∷◌, ◌++◌, ◌-◌, take, drop, length, get_or, sym, ap, arith}
use Rattle.std.specs.Prelude.{map}
use Rattle.std.specs.List.{concat, join_with_byte}
use Rattle.std.proofs.lemmas.List.{append-nil, append_assoc, take_all}
use Rattle.scanimage_cli.specs.Inside.{behind_bars}

-- joined texts are the first, and the others each behind a `|`
pub joined_by_bars : (text : List ℕ) (more : List (List ℕ)) → join_with_byte 124 (text ∷ more) ≡ text ++ behind_bars more
joined_by_bars text [] = sym (append-nil text)
joined_by_bars text (next ∷ more) = ap (λ (x : List ℕ). text ++ (124 ∷ x)) (joined_by_bars next more)

pub added_then : (old mid new a b : List ℕ) → mid ≡ old ++ a → new ≡ mid ++ b → new ≡ old ++ (a ++ b)
added_then old mid new a b first next = next ∙ ap (λ (l : List ℕ). l ++ b) first ∙ append_assoc old a b

-- what stands behind the first
rest_of : {A : Type 0} (x : A) (more : List A) → take (length (x ∷ more) - 1) (drop 1 (x ∷ more)) ≡ more
rest_of x more = take_all _ _ (let n : ℕ = length more in omega arith)

pub joined_texts : (old mid new text : List ℕ) (texts : List (List ℕ)) → 1 ≤ length texts → text ≡ get_or texts 0 text → mid ≡ old ++ text
    → new ≡ mid ++ behind_bars (take (length texts - 1) (drop 1 texts)) → new ≡ old ++ join_with_byte 124 texts
joined_texts old mid new text [] some is first next = absurd (omega (arith, some))
joined_texts old mid new text (t ∷ more) some is first next =
    let whole : new ≡ mid ++ behind_bars more = next ∙ ap (λ (l : List (List ℕ)). mid ++ behind_bars l) (rest_of t more) in
    added_then old mid new t (behind_bars more) (first ∙ ap (λ (l : List ℕ). old ++ l) is) whole ∙ ap (λ (l : List ℕ). old ++ l) (sym (joined_by_bars t more))

pub joined_words : (f : ℤ → List ℕ) (old mid new text : List ℕ) (words : List ℤ) → 1 ≤ length words → text ≡ f (get_or words 0 (pos 0)) → mid ≡ old ++ text
    → new ≡ mid ++ behind_bars (map f (take (length words - 1) (drop 1 words))) → new ≡ old ++ join_with_byte 124 (map f words)
joined_words f old mid new text [] some is first next = absurd (omega (arith, some))
joined_words f old mid new text (w ∷ more) some is first next =
    let whole : new ≡ mid ++ behind_bars (map f more) = next ∙ ap (λ (l : List ℤ). mid ++ behind_bars (map f l)) (rest_of w more) in
    added_then old mid new (f w) (behind_bars (map f more)) (first ∙ ap (λ (l : List ℕ). old ++ l) is) whole ∙ ap (λ (l : List ℕ). old ++ l) (sym (joined_by_bars (f w) (map f more)))

pub more_lines : {A : Type 0} (f : A → List ℕ) (done new : List ℕ) (left rest : List A) (x : A) (whole : List ℕ)
    → left ≡ x ∷ rest → new ≡ done ++ f x → done ++ concat (map f left) ≡ whole → new ++ concat (map f rest) ≡ whole
more_lines {A = A} f done new left rest x whole cut is before =
    ap (λ (l : List ℕ). l ++ concat (map f rest)) is ∙ append_assoc done (f x) (concat (map f rest)) ∙ ap (λ (l : List A). done ++ concat (map f l)) (sym cut) ∙ before

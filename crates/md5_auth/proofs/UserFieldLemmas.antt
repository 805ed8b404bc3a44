-- The fields of a line, and its colons.
use Rattle.std.proofs.Common.{◌≡◌, ◌≢◌, ℕ, ◌+◌, ◌≤◌, ◌==◌, true, cond, List, [], ◌∷◌, ◌++◌, get_or, arith, refl, sym, ap, ◌∙◌, subst}
use Rattle.std.specs.Prelude.{Contains, All, count_by}
use Rattle.std.proofs.lemmas.Bool.{ne_eqb, eq-eqb}
use Rattle.std.proofs.lemmas.List.{get_or_default}
use Rattle.std.proofs.lemmas.List.Elements.{All-contains, Contains-append_left, Contains-append_right}
use Rattle.std.proofs.lemmas.List.Sums.{sum_by-cons, sum_by-append, sum_by-le, get_or-le-sum_by}
use Rattle.sane_fixed.specs.Text.{IsText}
use Rattle.text_lines.specs.Lines.{SplitsAtFirst}
use Rattle.md5_auth.specs.UserLines.{IsPrintable, HasTwoColons, AreFields, AreEntryFields}

abbrev pub colons : List ℕ → ℕ
colons bytes = count_by (λ byte. byte == 58) bytes

-- ---- colons

pub colons-free : (bytes : List ℕ) → ¬ Contains bytes 58 → colons bytes ≡ 0
colons-free bytes none =
    let each : All (λ b. cond (b == 58) 1 0 ≤ 0) bytes = λ k d in_range.
    rw (ne_eqb (get_or bytes k d) 58 (λ e. none (k, in_range, get_or_default bytes k 58 d in_range ∙ e))) (omega arith) in
    omega (arith, sum_by-le (λ b. cond (b == 58) 1 0) 0 bytes each)

pub colons-split : (bytes before after : List ℕ) → SplitsAtFirst 58 bytes before after → colons bytes ≡ 1 + colons after
colons-split bytes before after h =
    omega (arith, ap colons h.bytes_are, sum_by-append (λ b. cond (b == 58) 1 0) before (58 ∷ after), colons-free before h.first, sum_by-cons (λ b. cond (b == 58) 1 0) 58 after)

pub colons-some : (bytes : List ℕ) → Contains bytes 58 → 1 ≤ colons bytes
colons-some bytes c =
    let test : (get_or bytes c.0 58 == 58) ≡ true = eq-eqb _ 58 c.2 in
    let one : ◌≡◌ {A = ℕ} (cond (get_or bytes c.0 58 == 58) 1 0) 1 = rw test refl in
    omega (arith, one, get_or-le-sum_by (λ b. cond (b == 58) 1 0) bytes c.0 58 c.1)

pub no_colon : (line : List ℕ) → ¬ Contains line 58 → ¬ HasTwoColons line
no_colon line none two = absurd (omega (arith, colons-free line none, two))

pub one_colon : (line before after : List ℕ) → SplitsAtFirst 58 line before after → ¬ Contains after 58 → ¬ HasTwoColons line
one_colon line before after h none two = absurd (omega (arith, colons-split line before after h, colons-free after none, two))

pub three_colons : (line before after middle last : List ℕ) → SplitsAtFirst 58 line before after → SplitsAtFirst 58 after middle last → Contains last 58 → ¬ HasTwoColons line
three_colons line before after middle last h g some two =
    absurd (omega (arith, colons-split line before after h, colons-split after middle last g, colons-some last some, two))

-- ---- texts

printable_text : (line bytes : List ℕ) → All IsPrintable line → (Contains bytes 0 → Contains line 0) → IsText bytes
printable_text line bytes all within c =
    let zero_printable : IsPrintable 0 = All-contains IsPrintable line 0 all (within c) in
    absurd (omega (arith, zero_printable.0))

pub password_text : (line user password backend : List ℕ) → All IsPrintable line → AreFields line user password backend → IsText password
password_text line user password backend all f =
    printable_text line password all (λ c. subst (λ (l : List ℕ). Contains l 0) (sym f.line_is)
    (Contains-append_right user (58 ∷ (password ++ 58 ∷ backend)) 0 (Contains-append_right (58 ∷ []) (password ++ 58 ∷ backend) 0 (Contains-append_left password (58 ∷ backend) 0 c))))

pub backend_text : (line user password backend : List ℕ) → All IsPrintable line → AreFields line user password backend → IsText backend
backend_text line user password backend all f =
    printable_text line backend all (λ c. subst (λ (l : List ℕ). Contains l 0) (sym f.line_is)
    (Contains-append_right user (58 ∷ (password ++ 58 ∷ backend)) 0 (Contains-append_right (58 ∷ []) (password ++ 58 ∷ backend) 0 (Contains-append_right password (58 ∷ backend) 0 (Contains-append_right (58 ∷ []) backend 0 c)))))

-- a line with a user is not empty
pub entry_line_some : (line user password backend : List ℕ) → AreEntryFields line user password backend → line ≢ []
entry_line_some line [] password backend h e = h.user_some refl
entry_line_some line (b ∷ bs) password backend h e = let f = sym h.fields.line_is ∙ e in (cc)

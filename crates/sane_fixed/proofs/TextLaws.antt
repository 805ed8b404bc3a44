-- Texts have no NUL: joined texts, digits and decimal texts.
use Rattle.std.proofs.Common.{◌≢◌, ℕ, ◌<◌, Bool, true, false, inl, inr, List, [], ◌∷◌, ◌++◌, arith, subst, sym}
use Rattle.std.specs.Char.{digit_value}
use Rattle.std.specs.Str.Parse.{AllDigits}
use Rattle.std.proofs.lemmas.Bool.Decides.{nat_tests}
use Rattle.std.proofs.lemmas.List.Elements.{Contains-append_cases, Contains-push_cases}
use Rattle.sane_fixed.specs.Text.{IsText}
use Rattle.sane_fixed.specs.Decimal.{sign_text, fraction_text, IsDecimal}

pub IsText-none : IsText []
IsText-none = λ c. let h : c.0 < 0 = c.1 in omega arith

pub IsText-append : (xs ys : List ℕ) → IsText xs → IsText ys → IsText (xs ++ ys)
IsText-append xs ys x y = λ c. elim (Contains-append_cases xs ys 0 c) [ inl l ↦ x l | inr r ↦ y r ]

pub IsText-one : (b : ℕ) → b ≢ 0 → IsText (b ∷ [])
IsText-one b some = λ c. elim (Contains-push_cases [] b 0 c) [ inl l ↦ IsText-none l | inr r ↦ some r ]

pub IsText-cons : (b : ℕ) (bs : List ℕ) → b ≢ 0 → IsText bs → IsText (b ∷ bs)
IsText-cons b bs some rest = IsText-append (b ∷ []) bs (IsText-one b some) rest

digit-some : (d : ℕ) → digit_value d < 10 → d ≢ 0
digit-some d h = grind (arith, nat_tests)

pub IsText-digits : (ds : List ℕ) → AllDigits 10 ds → IsText ds
IsText-digits [] all = IsText-none
IsText-digits (d ∷ ds) all = IsText-cons d ds (digit-some d all.0) (IsText-digits ds all.1)

IsText-sign : (negative : Bool) → IsText (sign_text negative)
IsText-sign true = IsText-one 45 (omega arith)
IsText-sign false = IsText-none

IsText-fraction : (ds : List ℕ) → AllDigits 10 ds → IsText (fraction_text ds)
IsText-fraction [] all = IsText-none
IsText-fraction (d ∷ ds) all = IsText-cons 46 (d ∷ ds) (omega arith) (IsText-digits (d ∷ ds) all)

pub IsText-decimal : (text : List ℕ) (negative : Bool) (whole fraction : List ℕ) → IsDecimal text negative whole fraction → IsText text
IsText-decimal text negative whole fraction d =
    subst IsText (sym d.text_is) (IsText-append (sign_text negative) (whole ++ fraction_text fraction) (IsText-sign negative) (IsText-append whole (fraction_text fraction) (IsText-digits whole d.whole_digits) (IsText-fraction fraction d.fraction_digits)))

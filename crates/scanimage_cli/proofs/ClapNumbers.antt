-- Numbers as the program's words write them, and as `clap` reads them.
use Rattle.std.proofs.Common.{arith, ℕ, ◌≡◌, ◌∙◌, ◌<◌, ◌≤◌, ◌+◌, ◌-◌, subst, Bool, true, false, List, [], ◌∷◌, Option, Some, None, refl, sym, ap, ap₂, suc}
use Rattle.std.specs.Prelude.{◌==◌, pos, cond, decimal, nat_lt, option_map, slice_index, unwrap_or, zero, ℤ, if◌then◌else◌}
use Rattle.std.specs.Char.{digit_value}
use Rattle.std.specs.Str.Parse.{IsNumeral, digits_value, signed_digits_value, starts_with_minus, without_leading_sign}
use Rattle.std.proofs.lemmas.Fmt.{decimal_is_IsNumeral}
use Rattle.std.proofs.lemmas.Option.{none-some}
use Rattle.clap.specs.Lexer.{without_minus}
use Rattle.clap.specs.Values.{IsSignedIn}
use Rattle.std.specs.Prelude.{FitsSigned, ◌≤ℤ◌}
use Rattle.std.specs.Int.{w64}
use Rattle.std.proofs.lemmas.Bool.{le-leb}
use lib.Signed.{le_z_yes}
use lib.Dec.{T}
use Rattle.std.specs.Fmt.{digits}
use Rattle.clap.specs.Takes.{values_pass}
use Rattle.clap.specs.declared.builder.value_parser.ValueParser.TheVariants.{Signed}
use Rattle.clap.proofs.ValueTestLemmas.{Accepts-accepts}
use Rattle.scanimage_cli.specs.ScanimageOptions.{IsPort, count_named, digit_to}
use Rattle.scanimage_cli.specs.declared.program_option.ProgramOption.TheVariants.{Port, BatchCount}
use Rattle.scanimage_cli.proofs.ClapWalk.{rule_of_option}

pub same_some : {A : Type 0} (a b : A) → Some a ≡ Some b → a ≡ b
same_some a b is = ap (λ o. unwrap_or o a) is

-- a first digit is no sign
digit_from : (c : ℕ) → digit_value c < 10 → 48 ≤ c
digit_from c lt = go (nat_lt c 48) refl lt
  where
    go : (b : Bool) → nat_lt c 48 ≡ b → digit_value c < 10 → 48 ≤ c
    go true under lt =
        let wrong : 36 < 10 = rw under at lt in
        absurd (omega arith)
    go false over lt = grind arith

no_minus : (ds : List ℕ) → IsNumeral 10 ds → starts_with_minus ds ≡ false
no_minus [] is = refl
no_minus (c ∷ cs) is =
    let from : 48 ≤ c = digit_from c is.1.0 in
    grind arith

no_plus : (ds : List ℕ) → IsNumeral 10 ds → (slice_index ds 0 == 43) ≡ false
no_plus [] is = refl
no_plus (c ∷ cs) is =
    let from : 48 ≤ c = digit_from c is.1.0 in
    grind arith

no_minus_off : (ds : List ℕ) → IsNumeral 10 ds → without_minus ds ≡ ds
no_minus_off [] is = refl
no_minus_off (c ∷ cs) is =
    let from : 48 ≤ c = digit_from c is.1.0 in
    let other : (c == 45) ≡ false = grind arith in
    rw other refl

unsigned : (ds : List ℕ) → IsNumeral 10 ds → without_leading_sign ds ≡ ds
unsigned ds is = rw (no_minus ds is, no_plus ds is) refl

pub decimal_unsigned : (n : ℕ) → n ≤ 65535 → without_minus (decimal n) ≡ decimal n
decimal_unsigned n most =
    let is : IsNumeral 10 (decimal n) = (decimal_is_IsNumeral n (omega (arith, most))).0 in
    no_minus_off (decimal n) is

cond_false : {A : Type 0} (b : Bool) (x y : A) → b ≡ false → cond b x y ≡ y
cond_false b x y is = rw is refl

range_of : (ds : List ℕ) (z low high : ℤ) → without_leading_sign ds ≡ ds → signed_digits_value 10 ds ≡ z → IsNumeral 10 ds
    → FitsSigned w64 z × (low ≤ℤ z) × (z ≤ℤ high) → IsSignedIn low high ds
range_of ds z low high same value numeral fits =
    let rest = subst (λ (v : ℤ). FitsSigned w64 v × (low ≤ℤ v) × (v ≤ℤ high)) (sym value) fits in
    (subst (IsNumeral 10) (sym same) numeral, rest.0, rest.1, rest.2)

ordered : (a b : ℕ) → a ≤ b → pos a ≤ℤ pos b
ordered a b least = le_z_yes (subst T (sym (le-leb a b least)) tt)

in_range : (n high : ℕ) → 1 ≤ n → n ≤ high → high ≤ 65535 → IsSignedIn (pos 1) (pos high) (decimal n)
in_range n high least most bound =
    let numeral = decimal_is_IsNumeral n (omega (arith, most, bound)) in
    let same = unsigned (decimal n) numeral.0 in
    let value : signed_digits_value 10 (decimal n) ≡ pos n = cond_false (starts_with_minus (decimal n)) _ _ (no_minus (decimal n) numeral.0)
    ∙ ap pos (ap (digits_value 10) same ∙ numeral.1) in
    range_of (decimal n) (pos n) (pos 1) (pos high) same value numeral.0
    (record { sfits = omega (arith, most, bound) }, ordered 1 n least, ordered n high most)

pub port_passes : (n : ℕ) → IsPort n → values_pass (rule_of_option Port) (decimal n ∷ []) ≡ true
port_passes n port =
    let is = Accepts-accepts false (Signed (pos 1) (pos 65535)) (decimal n) (in_range n 65535 port.0 port.1 (omega arith)) in
    rw is refl

pub count_passes : (n : ℕ) → 1 ≤ n → n ≤ 16 → values_pass (rule_of_option BatchCount) (decimal n ∷ []) ≡ true
count_passes n least most =
    let is = Accepts-accepts false (Signed (pos 1) (pos 16)) (decimal n) (in_range n 16 least most (omega arith)) in
    rw is refl

-- ---- a count

small : (n : ℕ) → 1 ≤ n → n ≤ 9 → decimal n ≡ (48 + n) ∷ []
unfolding digits
small zero least most = absurd (omega (arith, least))
small (suc zero) least most = refl
small (suc (suc zero)) least most = refl
small (suc (suc (suc zero))) least most = refl
small (suc (suc (suc (suc zero)))) least most = refl
small (suc (suc (suc (suc (suc zero))))) least most = refl
small (suc (suc (suc (suc (suc (suc zero)))))) least most = refl
small (suc (suc (suc (suc (suc (suc (suc zero))))))) least most = refl
small (suc (suc (suc (suc (suc (suc (suc (suc zero)))))))) least most = refl
small (suc (suc (suc (suc (suc (suc (suc (suc (suc zero))))))))) least most = refl
small (suc (suc (suc (suc (suc (suc (suc (suc (suc (suc n)))))))))) least most = absurd (omega (arith, most))

teen : (n : ℕ) → n ≤ 6 → decimal (10 + n) ≡ 49 ∷ (48 + n) ∷ []
unfolding digits
teen zero most = refl
teen (suc zero) most = refl
teen (suc (suc zero)) most = refl
teen (suc (suc (suc zero))) most = refl
teen (suc (suc (suc (suc zero)))) most = refl
teen (suc (suc (suc (suc (suc zero))))) most = refl
teen (suc (suc (suc (suc (suc (suc zero)))))) most = refl
teen (suc (suc (suc (suc (suc (suc (suc n))))))) most = absurd (omega (arith, most))

digit_is : (last d n : ℕ) → digit_to last d ≡ Some n → (d ≡ 48 + n) × (d ≤ last)
digit_is last d n is = go (nat_lt d 48) (nat_lt last d) refl refl
  where
    go : (less more : Bool) → nat_lt d 48 ≡ less → nat_lt last d ≡ more → (d ≡ 48 + n) × (d ≤ last)
    go true more l m = absurd (none-some n (rw l at is))
    go false true l m = absurd (none-some n (rw (l, m) at is))
    go false false l m =
        let same : d - 48 ≡ n = same_some _ _ (rw (l, m) at is) in
        let from : 48 ≤ d = grind arith in
        let most : d ≤ last = grind arith in
        (omega (arith, from, same), most)

one_digit : (d n : ℕ) (b : Bool) → (d == 48) ≡ b → (if d == 48 then None else digit_to 57 d) ≡ Some n → (d ∷ [] ≡ decimal n) × (1 ≤ n) × (n ≤ 16)
one_digit d n true nought is = absurd (none-some n (rw nought at is))
one_digit d n false other is =
    let digit = digit_is 57 d n (rw other at is) in
    let same : d ≡ 48 + n = digit.0 in
    let least : 1 ≤ n = grind arith in
    let most : n ≤ 9 = omega (arith, digit.1, same) in
    (ap (λ c. c ∷ []) same ∙ sym (small n least most), least, omega (arith, most))

two_digits : (d e n : ℕ) (b : Bool) → (d == 49) ≡ b → (if d == 49 then option_map (λ n. 10 + n) (digit_to 54 e) else None) ≡ Some n
    → (d ∷ e ∷ [] ≡ decimal n) × (1 ≤ n) × (n ≤ 16)
two_digits d e n false other is = absurd (none-some n (rw other at is))
two_digits d e n true one is = go (digit_to 54 e) refl (rw one at is)
  where
    go : (digit : Option ℕ) → digit_to 54 e ≡ digit → option_map (λ n. 10 + n) digit ≡ Some n → (d ∷ e ∷ [] ≡ decimal n) × (1 ≤ n) × (n ≤ 16)
    go None none is = absurd (none-some n is)
    go (Some m) some is =
        let digit = digit_is 54 e m some in
        let most : m ≤ 6 = omega (arith, digit.0, digit.1) in
        let first : d ≡ 49 = grind arith in
        let sum : 10 + m ≡ n = same_some _ _ is in
        (ap₂ (λ a b. a ∷ b ∷ []) first digit.0 ∙ (sym (teen m most) ∙ ap decimal sum), omega (arith, sum), omega (arith, sum, most))

pub count_is : (text : List ℕ) (n : ℕ) → count_named text ≡ Some n → (text ≡ decimal n) × (1 ≤ n) × (n ≤ 16)
count_is [] n is = absurd (none-some n is)
count_is (d ∷ []) n is = one_digit d n (d == 48) refl is
count_is (d ∷ e ∷ []) n is = two_digits d e n (d == 49) refl is
count_is (c ∷ d ∷ e ∷ more) n is = absurd (none-some n is)

-- A text names ports as `FROM-TO` in one way.
use Rattle.std.proofs.Common.{◌≡◌, ◌≢◌, ℕ, zero, suc, ◌<◌, ◌≤◌, ◌^◌, ◌⊎◌, inl, inr, List, [], ◌∷◌, ◌++◌, Option, Some, None, arith, refl, sym, ◌∙◌, subst}
use Rattle.std.specs.Prelude.{decimal, Contains, IfNone}
use Rattle.std.specs.Str.Parse.{AllDigits}
use Rattle.std.specs.Char.{digit_value}
use Rattle.std.proofs.lemmas.Fmt.{decimal_is_IsNumeral, decimal_injective}
use Rattle.text_lines.specs.Lines.{SplitsAtFirst}
use Rattle.saned_cli.specs.declared.data_ports.PortRange.{PortRange}
use Rattle.saned_cli.specs.DataPorts.{IsPortRange}

-- a dash is no digit
no_dash : (text : List ℕ) → AllDigits 10 text → ¬ Contains text 45
no_dash [] digits at = omega (arith, at.1)
no_dash (c ∷ text) digits (zero, inside, is) = let dash : digit_value 45 < 10 = subst (λ (k : ℕ). digit_value k < 10) is digits.0 in omega arith
no_dash (c ∷ text) digits (suc k, inside, is) = no_dash text digits.1 (k, omega arith, is)

no_dash_in : (n : ℕ) → n < 2 ^ 64 → ¬ Contains (decimal n) 45
no_dash_in n few = no_dash (decimal n) (decimal_is_IsNumeral n few).0.1

-- the dash stands in it
has_dash : (front back : List ℕ) → Contains (front ++ (45 ∷ back)) 45
has_dash [] back = (0, omega arith, refl)
has_dash (c ∷ front) back = let at = has_dash front back in (suc at.0, omega (arith, at.1), at.2)

pub no_split : (text : List ℕ) → ¬ Contains text 45 → (ports : PortRange) → ¬ IsPortRange text ports
no_split text none ports range = none (subst (λ (t : List ℕ). Contains t 45) (sym range.spelled) (has_dash (decimal ports.first) (decimal ports.last)))

-- what stands before the first dash, and behind it
first_of : (a b c d : List ℕ) → ¬ Contains a 45 → ¬ Contains c 45 → a ++ (45 ∷ b) ≡ c ++ (45 ∷ d) → (a ≡ c) × (b ≡ d)
first_of [] b [] d na nc e = (refl, cc)
first_of [] b (x ∷ c) d na nc e = absurd (nc (0, omega arith, cc))
first_of (x ∷ a) b [] d na nc e = absurd (na (0, omega arith, cc))
first_of (x ∷ a) b (y ∷ c) d na nc e =
    let first : x ≡ y = cc in
    let rest : a ++ (45 ∷ b) ≡ c ++ (45 ∷ d) = cc in
    let same = first_of a b c d (λ (at : Contains a 45). na (suc at.0, omega (arith, at.1), at.2)) (λ (at : Contains c 45). nc (suc at.0, omega (arith, at.1), at.2)) rest in
    (cc (first, same.0), same.1)

pub parts : (text before after : List ℕ) (ports : PortRange) → SplitsAtFirst 45 text before after → IsPortRange text ports
    → (before ≡ decimal ports.first) × (after ≡ decimal ports.last)
parts text before after ports cut range =
    first_of before after (decimal ports.first) (decimal ports.last) cut.first (no_dash_in ports.first (omega (arith, range.ordered, range.most))) (sym cut.bytes_are ∙ range.spelled)

-- ---- numbers

pub other_port : (text : List ℕ) (n : ℕ) → n < 2 ^ 64 → text ≡ decimal n → (n < 1) ⊎ (65535 < n) → (m : ℕ) → 1 ≤ m → m ≤ 65535 → text ≢ decimal m
other_port text n few is (inl low) m some most e = let same : n ≡ m = decimal_injective n m few (omega arith) (sym is ∙ e) in omega arith
other_port text n few is (inr high) m some most e = let same : n ≡ m = decimal_injective n m few (omega arith) (sym is ∙ e) in omega arith

pub if_none : {A P : Type 0} (r : Option A) → P → IfNone r P
if_none None p = p
if_none (Some a) p = tt

pub no_first : (text before after : List ℕ) → SplitsAtFirst 45 text before after → ((n : ℕ) → 1 ≤ n → n ≤ 65535 → before ≢ decimal n) → (ports : PortRange) → ¬ IsPortRange text ports
no_first text before after cut none ports range = none ports.first range.least (omega (arith, range.ordered, range.most)) (parts text before after ports cut range).0

pub no_last : (text before after : List ℕ) → SplitsAtFirst 45 text before after → ((n : ℕ) → 1 ≤ n → n ≤ 65535 → after ≢ decimal n) → (ports : PortRange) → ¬ IsPortRange text ports
no_last text before after cut none ports range = none ports.last (omega (arith, range.least, range.ordered)) range.most (parts text before after ports cut range).1

pub not_ordered : (text before after : List ℕ) (first last : ℕ) → SplitsAtFirst 45 text before after → before ≡ decimal first → after ≡ decimal last → first < 2 ^ 16 → last < 2 ^ 16 → last < first
    → (ports : PortRange) → ¬ IsPortRange text ports
not_ordered text before after first last cut first_is last_is few fewer falls ports range =
    let both = parts text before after ports cut range in
    let same : first ≡ ports.first = decimal_injective first ports.first (omega arith) (omega (arith, range.ordered, range.most)) (sym first_is ∙ both.0) in
    let equal : last ≡ ports.last = decimal_injective last ports.last (omega arith) (omega (arith, range.most)) (sym last_is ∙ both.1) in
    omega (arith, same, equal, range.ordered, falls)

-- The word computed for a range is the nearest one, and the only one.
use Rattle.std.proofs.Common.{FitsSigned, w32, w64, to_z, of_z, ◌^◌, ◌≡◌, ◌≢◌, ℕ, ◌<◌, ◌≤◌, ◌+◌, ◌-◌, ◌*◌, ◌/◌, ◌⊎◌, inl, inr, min, max, arith, refl, sym, ap, ◌∙◌, subst, pos, negsuc, ℤ, ◌%◌, zero, suc, mul-one, div-add-mod', mod-lt, mul-le-mul_right, div-mul-le_self, ◌+ℤ◌, ◌-ℤ◌, ◌*ℤ◌, ◌≤ℤ◌}
use Rattle.std.specs.Prelude.{unsigned_abs}
use Rattle.std.proofs.lemmas.Int.{ints, by_lt_z}
use Rattle.std.proofs.lemmas.Bool.{cases_order, cases_lt}
use Rattle.std.proofs.lemmas.Nat.{le-div}
use Rattle.sane_fixed.specs.Decimal.{rounded_quotient}
use Rattle.constraint.specs.Admitted.{Bounds, IsRange, AdmittedByRange}
use Rattle.constraint.specs.Nearest.{distance, NearestInRange}
use Rattle.constraint.specs.NearestComputed.{height, step_of, steps_to, nearest_in_range}

-- ---- distances

unsigned_abs-neg : (d : ℤ) (n : ℕ) → (d +ℤ pos n) ≡ pos 0 → unsigned_abs d ≡ n
unsigned_abs-neg (pos m) n e = let h : pos (m + n) ≡ pos 0 = e in omega (arith, ints)
unsigned_abs-neg (negsuc m) n e = omega (arith, ints)

distance-above : (asked word : ℤ) (n : ℕ) → word ≡ (asked +ℤ pos n) → distance asked word ≡ n
distance-above asked word n e = unsigned_abs-neg (asked -ℤ word) n (omega (arith, ints))

distance-below : (asked word : ℤ) (n : ℕ) → asked ≡ (word +ℤ pos n) → distance asked word ≡ n
distance-below asked word n e = ap unsigned_abs (let d : (asked -ℤ word) ≡ pos n = omega (arith, ints) in d)

by_order : (a b : ℤ) → (a ≤ℤ b) ⊎ (b ≤ℤ a)
by_order a b = by_lt_z a b (λ h. inl (omega (arith, ints))) (λ h. inr h)

-- ---- the nearest step, in natural numbers

gap : ℕ → ℕ → ℕ
gap a b = (a - b) + (b - a)

nearer_above : (d q w k : ℕ) → 1 ≤ q → 2 * d < 2 * w + q → w + q ≤ k → gap d w < gap d k
unfolding gap
nearer_above d q w k some high more = omega arith

nearer_below : (d q w k : ℕ) → 1 ≤ q → 2 * w ≤ 2 * d + q → k + q ≤ w → gap d w ≤ gap d k
unfolding gap
nearer_below d q w k some low less = omega arith

-- r is d / q rounded, halves up
record Rounds (d q r : ℕ) : Type 0 where
  pub low : 2 * (r * q) ≤ 2 * d + q
  pub high : 2 * d < 2 * (r * q) + q

rounds : (d q : ℕ) → 1 ≤ q → Rounds d q (rounded_quotient d q)
rounds d q some =
    let twice : 0 < 2 * q = omega arith in
    let parts : (2 * d + q) / (2 * q) * (2 * q) + (2 * d + q) % (2 * q) ≡ 2 * d + q = div-add-mod' (2 * d + q) (2 * q) in
    let rest : (2 * d + q) % (2 * q) < 2 * q = mod-lt (2 * d + q) twice in
    record { low = omega (arith, parts); high = omega (arith, parts, rest) }

-- the step that is taken, among those up to the top
record NearStep (d q s k : ℕ) : Type 0 where
  pub closest : gap d (s * q) ≤ gap d (k * q)
  pub greater : gap d (k * q) ≡ gap d (s * q) → k ≤ s

next_multiple : (a b q : ℕ) → a < b → a * q + q ≤ b * q
next_multiple a b q h = omega (arith, mul-le-mul_right q (let l : suc a ≤ b = omega arith in l))

near_step_at : (d q r top k s : ℕ) → 1 ≤ q → k ≤ top → Rounds d q r → s ≡ min r top → NearStep d q s k
near_step_at d q r top k s some within round is = elim (cases_order k s) [
  | inl same ↦ rw same (record { closest = omega arith; greater = λ e. omega arith })
  | inr rest ↦ elim rest [
    | inl less ↦
        let sr : s ≤ r = omega arith in
        let srq : s * q ≤ r * q = mul-le-mul_right q sr in
        let low : 2 * (s * q) ≤ 2 * d + q = omega (arith, srq, round.low) in
        record { closest = nearer_below d q (s * q) (k * q) some low (next_multiple k s q less); greater = λ e. omega arith }
    | inr more ↦
        let e : r ≡ s = omega arith in
        let high : 2 * d < 2 * (s * q) + q = subst (λ n. 2 * d < 2 * (n * q) + q) e round.high in
        let far : gap d (s * q) < gap d (k * q) = nearer_above d q (s * q) (k * q) some high (next_multiple s k q more) in
        record { closest = omega (arith, far); greater = λ same. absurd (omega (arith, far)) }
  ]
]

near_step : (d q top k : ℕ) → 1 ≤ q → k ≤ top → NearStep d q (min (rounded_quotient d q) top) k
near_step d q top k some within = near_step_at d q (rounded_quotient d q) top k (min (rounded_quotient d q) top) some within (rounds d q some) refl

-- ---- an admitted word is min and so many steps

step_of-some : (range : Bounds) → 1 ≤ step_of range
step_of-some range = omega arith

record AtStep (range : Bounds) (word : ℤ) : Type 0 where
  pub k : ℕ
  pub is : word ≡ (range.min +ℤ pos (k * step_of range))
  pub within : k ≤ height (range.max -ℤ range.min) / step_of range

reach_at : (d low top word : ℤ) (n : ℕ) → d ≡ (top -ℤ low) → word ≤ℤ top → word ≡ (low +ℤ pos n) → n ≤ height d
reach_at (pos m) low top word n e below is = omega (arith, ints)
reach_at (negsuc m) low top word n e below is = absurd (omega (arith, ints))

height-is_at : (d low word : ℤ) → d ≡ (word -ℤ low) → low ≤ℤ word → word ≡ (low +ℤ pos (height d))
height-is_at (pos m) low word e h = omega (arith, ints)
height-is_at (negsuc m) low word e h = absurd (omega (arith, ints))

height-none_at : (d low word : ℤ) → d ≡ (low -ℤ word) → low ≤ℤ word → height d ≡ 0
height-none_at (pos m) low word e h = omega (arith, ints)
height-none_at (negsuc m) low word e h = refl

height-none : (low word : ℤ) → low ≤ℤ word → height (low -ℤ word) ≡ 0
height-none low word h = height-none_at (low -ℤ word) low word refl h

reach : (low top word : ℤ) (n : ℕ) → word ≤ℤ top → word ≡ (low +ℤ pos n) → n ≤ height (top -ℤ low)
reach low top word n below is = reach_at (top -ℤ low) low top word n refl below is

height-is : (low word : ℤ) → low ≤ℤ word → word ≡ (low +ℤ pos (height (word -ℤ low)))
height-is low word h = height-is_at (word -ℤ low) low word refl h

steps_within : (range : Bounds) (word : ℤ) (k : ℕ) → word ≤ℤ range.max → word ≡ (range.min +ℤ pos (k * step_of range)) → AtStep range word
steps_within range word k below is = record {
  k = k;
  is = is;
  within = le-div k (height (range.max -ℤ range.min)) (step_of range) (step_of-some range) (reach range.min range.max word (k * step_of range) below is);
}

-- the step where quant is not 0
quant-is : (quant : ℤ) → pos 0 ≤ℤ quant → quant ≢ pos 0 → quant ≡ pos (max (unsigned_abs quant) 1)
quant-is (pos n) back some = ap pos (let h : n ≢ 0 = (λ e. some (ap pos e)) in let g : n ≡ max n 1 = omega arith in g)
quant-is (negsuc n) back some = absurd (omega (arith, ints))

zero_or_some : (quant : ℤ) → (quant ≡ pos 0) ⊎ (quant ≢ pos 0)
zero_or_some (pos zero) = inl refl
zero_or_some (pos (suc n)) = inr (λ e. omega (arith, ints))
zero_or_some (negsuc n) = inr (λ e. omega (arith, ints))

step_of-none : (range : Bounds) → range.quant ≡ pos 0 → step_of range ≡ 1
step_of-none range none = ap (λ q. max (unsigned_abs q) 1) none

step_of-quant : (range : Bounds) → IsRange range → range.quant ≢ pos 0 → range.quant ≡ pos (step_of range)
step_of-quant range keeps some = quant-is range.quant keeps.no_step_back some

all_words : (range : Bounds) (word : ℤ) → word ≤ℤ range.max → range.min ≤ℤ word → range.quant ≡ pos 0 → AtStep range word
all_words range word below above none =
    let one : height (word -ℤ range.min) * step_of range ≡ height (word -ℤ range.min) = ap (λ q. height (word -ℤ range.min) * q) (step_of-none range none) ∙ mul-one (height (word -ℤ range.min)) in
    steps_within range word (height (word -ℤ range.min)) below (height-is range.min word above ∙ ap (λ n. range.min +ℤ pos n) (sym one))

no_steps : (range : Bounds) (word : ℤ) (k : ℕ) → word ≤ℤ range.max → word ≡ (range.min +ℤ (pos k *ℤ range.quant)) → range.quant ≡ pos 0 → AtStep range word
no_steps range word k below is none =
    steps_within range word 0 below (is ∙ ap (λ q. range.min +ℤ (pos k *ℤ q)) none ∙ ap (λ n. range.min +ℤ pos n) (let e : k * 0 ≡ 0 * step_of range = omega arith in e))

some_steps : (range : Bounds) (word : ℤ) (k : ℕ) → word ≤ℤ range.max → word ≡ (range.min +ℤ (pos k *ℤ range.quant)) → range.quant ≡ pos (step_of range) → AtStep range word
some_steps range word k below is some = steps_within range word k below (is ∙ ap (λ q. range.min +ℤ (pos k *ℤ q)) some)

at_step : (range : Bounds) (word : ℤ) → IsRange range → AdmittedByRange range word → AtStep range word
at_step range word keeps admitted = elim (zero_or_some range.quant) [
  | inl none ↦ elim admitted.1 [
    | inl all ↦ all_words range word admitted.0 all.1 none
    | inr step ↦ no_steps range word step.0 admitted.0 step.1 none
  ]
  | inr some ↦ elim admitted.1 [
    | inl all ↦ absurd (some all.0)
    | inr step ↦ some_steps range word step.0 admitted.0 step.1 (step_of-quant range keeps some)
  ]
]

admitted_step : (range : Bounds) (word : ℤ) (k : ℕ) → IsRange range → word ≡ (range.min +ℤ pos (k * step_of range)) → k ≤ height (range.max -ℤ range.min) / step_of range → AdmittedByRange range word
admitted_step range word k keeps is within =
    let top : ℕ = height (range.max -ℤ range.min) in
    let q : ℕ = step_of range in
    let steps : k * q ≤ top / q * q = mul-le-mul_right q within in
    let room : top / q * q ≤ top = div-mul-le_self top q in
    let max_is : range.max ≡ (range.min +ℤ pos top) = height-is range.min range.max keeps.ordered in
    let below : word ≤ℤ range.max = omega (arith, ints, is, max_is, steps, room) in
    elim (zero_or_some range.quant) [
      | inl none ↦ (below, inl (none, omega (arith, ints, is)))
      | inr some ↦ (below, inr (k, is ∙ ap (λ z. range.min +ℤ (pos k *ℤ z)) (sym (step_of-quant range keeps some))))
    ]

-- ---- the distance of a step, in natural numbers

-- how far the range begins above the word asked for
abbrev missing : Bounds → ℤ → ℕ
missing range asked = height (range.min -ℤ asked)

distance-step : (range : Bounds) (asked word : ℤ) (n : ℕ) → word ≡ (range.min +ℤ pos n) → distance asked word ≡ missing range asked + gap (height (asked -ℤ range.min)) n
unfolding gap
distance-step range asked word n is = elim (by_order range.min asked) [
  | inl above ↦
      let d : ℕ = height (asked -ℤ range.min) in
      let asked_is : asked ≡ (range.min +ℤ pos d) = height-is range.min asked above in
      let none : missing range asked ≡ 0 = height-none range.min asked above in
      elim (cases_lt d n) [
        | inl less ↦ distance-above asked word (n - d) (omega (arith, ints, is, asked_is, less)) ∙ omega (arith, none, less)
        | inr more ↦ distance-below asked word (d - n) (omega (arith, ints, is, asked_is, more)) ∙ omega (arith, none, more)
      ]
  | inr below ↦
      let min_is : range.min ≡ (asked +ℤ pos (missing range asked)) = height-is asked range.min below in
      let none : height (asked -ℤ range.min) ≡ 0 = height-none asked range.min below in
      distance-above asked word (missing range asked + n) (omega (arith, ints, is, min_is)) ∙ omega (arith, none)
]

-- ---- the nearest word

pub NearestInRange-nearest_in_range : (range : Bounds) (asked : ℤ) → IsRange range → NearestInRange range asked (nearest_in_range range asked)
unfolding nearest_in_range
NearestInRange-nearest_in_range range asked keeps =
    let d : ℕ = height (asked -ℤ range.min) in
    let q : ℕ = step_of range in
    let top : ℕ = height (range.max -ℤ range.min) / q in
    let s : ℕ = steps_to range asked in
    let own = distance-step range asked (nearest_in_range range asked) (s * q) refl in
    record {
      admitted = admitted_step range (nearest_in_range range asked) s keeps refl (let h : s ≤ top = omega arith in h);
      closest = λ other admitted.
          let step = at_step range other keeps admitted in
          let at = distance-step range asked other (step.k * q) step.is in
          let near = near_step d q top step.k (step_of-some range) step.within in
          omega (arith, own, at, near.closest);
      greater = λ other admitted same.
          let step = at_step range other keeps admitted in
          let at = distance-step range asked other (step.k * q) step.is in
          let near = near_step d q top step.k (step_of-some range) step.within in
          let less : step.k ≤ s = near.greater (omega (arith, own, at, same)) in
          let steps : step.k * q ≤ s * q = mul-le-mul_right q less in
          omega (arith, ints, step.is, steps);
    }

same_distance : (a b : ℕ) → a ≤ b → b ≤ a → a ≡ b
same_distance a b h g = omega arith

same_word : (a b : ℤ) → a ≤ℤ b → b ≤ℤ a → a ≡ b
same_word a b h g = omega (arith, ints)

pub NearestInRange-unique : (range : Bounds) (asked a b : ℤ) → NearestInRange range asked a → NearestInRange range asked b → a ≡ b
NearestInRange-unique range asked a b x y =
    let same : distance asked a ≡ distance asked b = same_distance _ _ (x.closest b y.admitted) (y.closest a x.admitted) in
    same_word a b (y.greater a x.admitted same) (x.greater b y.admitted (sym same))

-- ---- in 32 bits

pub fits_between : (min max : ℤ) (n : ℕ) → FitsSigned w32 min → FitsSigned w32 max → min ≤ℤ max → n ≤ height (max -ℤ min) → FitsSigned w32 (min +ℤ pos n)
fits_between min max n low high ordered within =
    let is : max ≡ (min +ℤ pos (height (max -ℤ min))) = height-is min max ordered in
    omega (arith, ints, is, within)

pub height-lt : (low word : ℤ) → FitsSigned w32 low → FitsSigned w32 word → height (word -ℤ low) < 2 ^ 32
height-lt low word l w = elim (by_order low word) [
  | inl above ↦ let is : word ≡ (low +ℤ pos (height (word -ℤ low))) = height-is low word above in omega (arith, ints, is)
  | inr below ↦ let none : height (word -ℤ low) ≡ 0 = height-none word low below in omega (arith, none)
]

pub added : (min from : ℤ) (n : ℕ) → FitsSigned w32 min → from ≡ to_z w32 (of_z w32 min) → n < 2 ^ 32 → (to_z w64 (of_z w64 from) +ℤ to_z w64 n) ≡ (min +ℤ pos n)
added min from n fits is small = omega (arith, ints, is)

pub added_fits : (min : ℤ) (n : ℕ) → FitsSigned w32 min → n < 2 ^ 32 → FitsSigned w64 (min +ℤ pos n)
added_fits min n fits small = omega (arith, ints)

pub added_back : (z : ℤ) → FitsSigned w32 z → to_z w32 (of_z w32 (to_z w64 (of_z w64 z))) ≡ z
added_back z fits = omega (arith, ints)

pub in_64 : (z : ℤ) → FitsSigned w32 z → to_z w64 (of_z w64 z) ≡ z
in_64 z fits = omega (arith, ints)

-- the steps that are computed from the heights
pub steps_reach : (range : Bounds) (asked : ℤ) → steps_to range asked * step_of range ≤ height (range.max -ℤ range.min)
steps_reach range asked =
    let q : ℕ = step_of range in
    let top : ℕ = height (range.max -ℤ range.min) in
    let less : steps_to range asked ≤ top / q = omega arith in
    let steps : steps_to range asked * q ≤ top / q * q = mul-le-mul_right q less in
    let room : top / q * q ≤ top = div-mul-le_self top q in
    omega (arith, steps, room)

pub record IsOffset (range : Bounds) (asked : ℤ) (offset : ℕ) : Type 0 where
  pub value : offset ≡ steps_to range asked * step_of range
  pub fits : FitsSigned w32 (range.min +ℤ pos offset)
  pub below : offset < 2 ^ 32

pub IsOffset-computed : (range now : Bounds) (asked : ℤ) (offset step wanted room : ℕ) → range ≡ now → IsRange range → FitsSigned w32 range.min → FitsSigned w32 range.max → step ≡ step_of range → wanted ≡ height (asked -ℤ range.min) → room ≡ height (range.max -ℤ range.min) → offset ≡ min ((2 * wanted + step) / (2 * step)) (room / step) * step → IsOffset now asked offset
IsOffset-computed range now asked offset step wanted room same keeps low high s w r o =
    let value : offset ≡ steps_to range asked * step_of range = o ∙ rw (s, w, r) refl in
    let within : offset ≤ height (range.max -ℤ range.min) = rw value (steps_reach range asked) in
    subst (λ b. IsOffset b asked offset) same (record {
      value = value;
      fits = fits_between range.min range.max offset low high keeps.ordered within;
      below = omega (arith, within, height-lt range.min range.max low high);
    })

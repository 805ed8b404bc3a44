-- The tests of what fits say what fits.
use Rattle.std.proofs.Common.{◌≡◌, ◌<◌, ◌≤◌, ◌+◌, ◌/◌, ◌==◌, ◌&&◌, ℕ, Bool, true, false, ℤ, ◌⊎◌, inl, inr, List, length, arith, refl, Decides, nat_lt}
use Rattle.std.proofs.lemmas.Bool.{false≢true, and_parts}
use Rattle.std.proofs.lemmas.Bool.Decides.{nat_tests}
use Rattle.sane_fixed.specs.declared.fixed.Fixed.{Fixed as Number}
use Rattle.sane_fixed.specs.declared.kind.Kind.{Kind}
use Rattle.sane_fixed.specs.declared.kind.Kind.TheVariants as kind
use Rattle.option_desc.specs.declared.descriptor.Constraint.{Constraint}
use Rattle.option_desc.specs.declared.descriptor.Constraint.TheVariants.{Free, Span, Words as WordsOf, Strings}
use Rattle.option_desc.specs.declared.descriptor.Descriptor.{Descriptor}
use Rattle.option_desc.specs.declared.value.Value.{Value}
use Rattle.option_desc.specs.declared.value.Value.TheVariants.{Flag, Int, Fixed, Words, Text}
use Rattle.option_desc.specs.Fits.{HasRoomFor, has_room_for, Fits, fits_as, fits_of}

eq-Decides : (a b : ℕ) → Decides (a == b) (a ≡ b)
eq-Decides a b = (λ e. grind (arith, nat_tests), λ e. grind (arith, nat_tests))

below-Decides : (n size : ℕ) → Decides (nat_lt n size) (n + 1 ≤ size)
below-Decides n size = (λ e. grind (arith, nat_tests), λ e. grind (arith, nat_tests))

words_true : (size n : ℕ) → (nat_lt 4 size && (n == size / 4)) ≡ true → (4 < size) × (n ≡ size / 4)
words_true size n e = let p = and_parts (nat_lt 4 size) (n == size / 4) e in (grind (arith, nat_tests), grind (arith, nat_tests))

words_is : (size n : ℕ) → (4 < size) × (n ≡ size / 4) → (nat_lt 4 size && (n == size / 4)) ≡ true
words_is size n p =
    let a : nat_lt 4 size ≡ true = grind (arith, nat_tests) in
    let b : (n == size / 4) ≡ true = grind (arith, nat_tests) in
    rw (a, b) refl

words-Decides : (size n : ℕ) → Decides (nat_lt 4 size && (n == size / 4)) ((4 < size) × (n ≡ size / 4))
words-Decides size n = (words_true size n, words_is size n)

has_room_for-Decides : (c : Constraint) (size : ℕ) (text : List ℕ) → Decides (has_room_for c size text) (HasRoomFor c size text)
has_room_for-Decides Free size text = below-Decides (length text) size
has_room_for-Decides (Span r) size text = below-Decides (length text) size
has_room_for-Decides (WordsOf ws) size text = below-Decides (length text) size
has_room_for-Decides (Strings ts) size text = (λ e. tt, λ e. refl)

-- what fits, with the option's kind apart
abbrev FitsAs : Kind → ℕ → Constraint → Value → Type 0
FitsAs k size c (Flag _) = (k ≡ kind.Bool) × (size / 4 ≡ 1)
FitsAs k size c (Int _) = (k ≡ kind.Int) × (size ≡ 4)
FitsAs k size c (Fixed _) = (k ≡ kind.Fixed) × (size ≡ 4)
FitsAs k size c (Words words) = ((k ≡ kind.Int) ⊎ (k ≡ kind.Fixed)) × (4 < size) × (length words ≡ size / 4)
FitsAs k size c (Text text) = (k ≡ kind.String) × HasRoomFor c size text

no : {P : Type 0} → (P → ⊥) → Decides false P
no f = (λ e. absurd (false≢true e), λ p. absurd (f p))

flag_as : (k : Kind) (size : ℕ) (c : Constraint) (b : Bool) → Decides (fits_as k size c (Flag b)) (FitsAs k size c (Flag b))
flag_as kind.Bool size c b = let d = eq-Decides (size / 4) 1 in (λ e. (refl, d.0 e), λ p. d.1 p.1)
flag_as kind.Int size c b = no (λ p. (cc))
flag_as kind.Fixed size c b = no (λ p. (cc))
flag_as kind.String size c b = no (λ p. (cc))
flag_as kind.Button size c b = no (λ p. (cc))
flag_as kind.Group size c b = no (λ p. (cc))

int_as : (k : Kind) (size : ℕ) (c : Constraint) (v : ℤ) → Decides (fits_as k size c (Int v)) (FitsAs k size c (Int v))
int_as kind.Bool size c v = no (λ p. (cc))
int_as kind.Int size c v = let d = eq-Decides size 4 in (λ e. (refl, d.0 e), λ p. d.1 p.1)
int_as kind.Fixed size c v = no (λ p. (cc))
int_as kind.String size c v = no (λ p. (cc))
int_as kind.Button size c v = no (λ p. (cc))
int_as kind.Group size c v = no (λ p. (cc))

fixed_as : (k : Kind) (size : ℕ) (c : Constraint) (v : Number) → Decides (fits_as k size c (Fixed v)) (FitsAs k size c (Fixed v))
fixed_as kind.Bool size c v = no (λ p. (cc))
fixed_as kind.Int size c v = no (λ p. (cc))
fixed_as kind.Fixed size c v = let d = eq-Decides size 4 in (λ e. (refl, d.0 e), λ p. d.1 p.1)
fixed_as kind.String size c v = no (λ p. (cc))
fixed_as kind.Button size c v = no (λ p. (cc))
fixed_as kind.Group size c v = no (λ p. (cc))

words_as : (k : Kind) (size : ℕ) (c : Constraint) (v : List ℤ) → Decides (fits_as k size c (Words v)) (FitsAs k size c (Words v))
words_as kind.Bool size c v = no (λ p. elim p.0 [ inl e ↦ (cc) | inr e ↦ (cc) ])
words_as kind.Int size c v = let d = words-Decides size (length v) in (λ e. (inl refl, (d.0 e).0, (d.0 e).1), λ p. d.1 (p.1, p.2))
words_as kind.Fixed size c v = let d = words-Decides size (length v) in (λ e. (inr refl, (d.0 e).0, (d.0 e).1), λ p. d.1 (p.1, p.2))
words_as kind.String size c v = no (λ p. elim p.0 [ inl e ↦ (cc) | inr e ↦ (cc) ])
words_as kind.Button size c v = no (λ p. elim p.0 [ inl e ↦ (cc) | inr e ↦ (cc) ])
words_as kind.Group size c v = no (λ p. elim p.0 [ inl e ↦ (cc) | inr e ↦ (cc) ])

text_as : (k : Kind) (size : ℕ) (c : Constraint) (v : List ℕ) → Decides (fits_as k size c (Text v)) (FitsAs k size c (Text v))
text_as kind.Bool size c v = no (λ p. (cc))
text_as kind.Int size c v = no (λ p. (cc))
text_as kind.Fixed size c v = no (λ p. (cc))
text_as kind.String size c v = let d = has_room_for-Decides c size v in (λ e. (refl, d.0 e), λ p. d.1 p.1)
text_as kind.Button size c v = no (λ p. (cc))
text_as kind.Group size c v = no (λ p. (cc))

pub fits_of-Decides : (desc : Descriptor) (value : Value) → Decides (fits_of desc value) (Fits desc value)
fits_of-Decides desc (Flag v) = flag_as desc.kind desc.size desc.constraint v
fits_of-Decides desc (Int v) = int_as desc.kind desc.size desc.constraint v
fits_of-Decides desc (Fixed v) = fixed_as desc.kind desc.size desc.constraint v
fits_of-Decides desc (Words v) = words_as desc.kind desc.size desc.constraint v
fits_of-Decides desc (Text v) = text_as desc.kind desc.size desc.constraint v

-- Gray dots, and rows of them.
use Rattle.std.proofs.Common.{◌≡◌, ℕ, ◌+◌, ◌-◌, ◌*◌, ◌/◌, ◌%◌, ◌<◌, ◌≤◌, ◌⊎◌, inl, inr, Bool, true, false, List, length, arith, refl, sym, ap, ◌∙◌, subst}
use Rattle.std.specs.Prelude.{slice_index, ◌&&◌, ◌==◌, nat_lt, if◌then◌else◌}
use Rattle.std.proofs.lemmas.Bool.Decides.{nat_tests}
use Rattle.netpbm.specs.FileText.{binary}
use Rattle.page_picture.specs.Tone.{tone, brightness, in_channel}
use Rattle.std.proofs.lemmas.Bool.{cases_lt}
use Rattle.page_picture.specs.declared.scene.Scene.{Scene}
use Rattle.page_picture.specs.declared.scene.Mode.{Mode}
use Rattle.page_picture.specs.declared.scene.Mode.TheVariants.{Gray}
use Rattle.scan_frames.specs.declared.setup.Packing.TheVariants.{Bits, Bytes, Words}
use Rattle.scan_frames.specs.Line.{packing_of}
use Rattle.scan_frames.specs.Inside.{IsSame, IsGrayDot, IsGrayRow, bit_in, bits_in, dark, gray_in, sample_in_row}
use Rattle.scan_frames.proofs.Lines.{binary_same}

-- the gray of a dot whose three samples are the same is that sample
pub gray_of_even : (row : List ℕ) (p : ℕ) → IsGrayDot row p → gray_in row p ≡ slice_index row (3 * p)
gray_of_even row p same = omega (arith, same.0, same.1)

-- each of n samples from a dot's first on is as the one beside it, if that is of its dot
abbrev pub AreAsNext : List ℕ → ℕ → ℕ → Type 0
AreAsNext row dot n = (i : ℕ) → i < n → (i % 3 ≡ 2 → ⊥) → slice_index row (3 * dot + i) ≡ slice_index row (3 * dot + i + 1)

both : (a b : Bool) → (a && b) ≡ true → (a ≡ true) × (b ≡ true)
both true true e = (refl, refl)
both true false e = cc
both false b e = cc

either : (a b : Bool) → (a && b) ≡ false → (a ≡ false) ⊎ (b ≡ false)
either true b e = inr e
either false b e = inl refl

pub one_more : (row : List ℕ) (dot n : ℕ) (a b : Bool) → (a ≡ true → AreAsNext row dot n) → (b ≡ true → (n % 3 ≡ 2 → ⊥) → slice_index row (3 * dot + n) ≡ slice_index row (3 * dot + n + 1)) → (a && b) ≡ true → AreAsNext row dot (n + 1)
one_more row dot n a b before here e i less not =
    elim (cases_lt i n) as (λ _. slice_index row (3 * dot + i) ≡ slice_index row (3 * dot + i + 1)) [
      | inl lower ↦ before (both a b e).0 i lower not
      | inr upper ↦
          let same : i ≡ n = omega arith in
          subst (λ (t : ℕ). (t % 3 ≡ 2 → ⊥) → slice_index row (3 * dot + t) ≡ slice_index row (3 * dot + t + 1)) (sym same) (here (both a b e).1) not
    ]

-- the dot of a sample, and the sample's place in it
of_dot : (row : List ℕ) (p r : ℕ) → IsGrayDot row p → r < 2 → slice_index row (3 * p + r) ≡ slice_index row (3 * p + r + 1)
of_dot row p r dot less =
    elim (cases_lt r 1) as (λ _. slice_index row (3 * p + r) ≡ slice_index row (3 * p + r + 1)) [
      | inl none ↦
          let first : 3 * p + r ≡ 3 * p = omega arith in
          let second : 3 * p + r + 1 ≡ 3 * p + 1 = omega arith in
          ap (slice_index row) first ∙ (sym dot.0 ∙ sym (ap (slice_index row) second))
      | inr one ↦
          let second : 3 * p + r ≡ 3 * p + 1 = omega arith in
          let third : 3 * p + r + 1 ≡ 3 * p + 2 = omega arith in
          ap (slice_index row) second ∙ (dot.0 ∙ (sym dot.1 ∙ sym (ap (slice_index row) third)))
    ]

pub as_next_in : (row : List ℕ) (dot i : ℕ) → 3 * dot + 24 < length row → i < 24 → IsGrayRow row → (i % 3 ≡ 2 → ⊥) → slice_index row (3 * dot + i) ≡ slice_index row (3 * dot + i + 1)
as_next_in row dot i room less gray not =
    let place : 3 * (dot + i / 3) + i % 3 ≡ 3 * dot + i = omega arith in
    let few : i % 3 < 2 = elim (cases_lt (i % 3) 2) as (λ _. i % 3 < 2) [ inl few ↦ few | inr more ↦ let last : i % 3 ≡ 2 = omega arith in absurd (not last) ] in
    subst (λ (t : ℕ). slice_index row t ≡ slice_index row (t + 1)) place (of_dot row (dot + i / 3) (i % 3) (gray (dot + i / 3) (omega arith)) few)

pub not_gray_then : (row : List ℕ) (dot i : ℕ) (a b : Bool) → 3 * dot + 24 < length row → i < 24 → (a ≡ false → IsGrayRow row → ⊥) → (b ≡ false → (i % 3 ≡ 2 → ⊥) × (slice_index row (3 * dot + i) ≡ slice_index row (3 * dot + i + 1) → ⊥)) → (a && b) ≡ false → IsGrayRow row → ⊥
not_gray_then row dot i a b room less before here e gray =
    elim (either a b e) as (λ _. ⊥) [
      | inl first ↦ before first gray
      | inr second ↦ (here second).1 (as_next_in row dot i room less gray (here second).0)
    ]

-- eight dots whose samples are as the ones beside them
pub dots_as_next : (row : List ℕ) (dot p : ℕ) → AreAsNext row dot 24 → dot ≤ p → p < dot + 8 → IsGrayDot row p
dots_as_next row dot p same low high =
    let at : 3 * dot + 3 * (p - dot) ≡ 3 * p = omega arith in
    let next : 3 * dot + (3 * (p - dot) + 1) ≡ 3 * p + 1 = omega arith in
    let first = subst (λ (t : ℕ). slice_index row t ≡ slice_index row (t + 1)) at (same (3 * (p - dot)) (omega arith) (λ e. omega (arith, e))) in
    let second = subst (λ (t : ℕ). slice_index row t ≡ slice_index row (t + 1)) next (same (3 * (p - dot) + 1) (omega arith) (λ e. omega (arith, e))) in
    let third : 3 * p + 1 + 1 ≡ 3 * p + 2 = omega arith in
    (sym first, sym (first ∙ (second ∙ ap (slice_index row) third)))

-- the tone of a bit
pub tone_of_bits : (depth : ℕ) (table : List ℕ) (v : ℕ) → packing_of depth ≡ Bits → tone depth table v ≡ (if nat_lt (slice_index table (v / 256)) 128 then 1 else 0)
tone_of_bits depth table v bits =
    let P : Bool → Bool → Type 0 = λ a b. (if a then Words else (if b then Bytes else Bits)) ≡ Bits → (if a then v else (if b then slice_index table (v / 256) else (if nat_lt (slice_index table (v / 256)) 128 then 1 else 0))) ≡ (if nat_lt (slice_index table (v / 256)) 128 then 1 else 0) in
    elim (depth == 16) as (λ a. P a (depth == 8)) [
      | true ↦ λ e. cc
      | false ↦ elim (depth == 8) as (λ b. P false b) [ true ↦ λ e. cc | false ↦ λ e. refl ]
    ] bits

half_of_byte : (t v : ℕ) → t ≡ v / 256 → (if nat_lt t 128 then 1 else 0) ≡ dark v
half_of_byte t v same = grind (arith, nat_tests)

bit_inside : (b : Bool) (v : ℕ) → b ≡ true → (if b then v else 0) ≡ v
bit_inside true v e = refl
bit_inside false v e = cc

inside : (x n : ℕ) → x < n → nat_lt x n ≡ true
inside x n less = grind (arith, nat_tests)

value_in_gray : (scene : Scene) (row : List ℕ) (place k : ℕ) → scene.mode ≡ Gray → sample_in_row scene row place k ≡ tone scene.depth scene.gamma (gray_in row place)
value_in_gray scene row place k mode =
    let by_mode = ap (λ (m : Mode). in_channel m scene.depth scene.channel_gamma k (tone scene.depth scene.gamma (brightness m (λ i. slice_index row (3 * place + i)) k))) mode in
    let at : 3 * place + 0 ≡ 3 * place = omega arith in
    by_mode ∙ ap (λ (j : ℕ). tone scene.depth scene.gamma ((299 * slice_index row j + 587 * slice_index row (3 * place + 1) + 114 * slice_index row (3 * place + 2)) / 1000)) at

-- the bit of a dark dot, where the table leaves each byte as it is
pub dark_is_bit : (scene : Scene) (row places : List ℕ) (k first x : ℕ) → packing_of scene.depth ≡ Bits → scene.mode ≡ Gray → IsSame scene.gamma → IsGrayDot row (first + x)
    → slice_index places x ≡ first + x → x < length places → slice_index row (3 * (first + x)) < 65536 → bit_in scene row places k x ≡ dark (slice_index row (3 * (first + x)))
unfolding bit_in
dark_is_bit scene row places k first x depth mode same even run less small =
    let v = slice_index row (3 * (first + x)) in
    let entry : slice_index scene.gamma (v / 256) ≡ v / 256 = same (v / 256) (omega (arith, small)) in
    bit_inside (nat_lt x (length places)) (sample_in_row scene row (slice_index places x) k) (inside x (length places) less)
    ∙ (ap (λ p. sample_in_row scene row p k) run
    ∙ (value_in_gray scene row (first + x) k mode
    ∙ (ap (tone scene.depth scene.gamma) (gray_of_even row (first + x) even)
    ∙ (tone_of_bits scene.depth scene.gamma v depth ∙ half_of_byte (slice_index scene.gamma (v / 256)) v entry))))

-- the byte of eight such dots
pub darks_are_bits : (scene : Scene) (row places : List ℕ) (k first b : ℕ) → packing_of scene.depth ≡ Bits → scene.mode ≡ Gray → IsSame scene.gamma → IsGrayRow row
    → ((x : ℕ) → x < length places → slice_index places x ≡ first + x) → ((x : ℕ) → x < length places → 3 * slice_index places x + 2 < length row)
    → ((j : ℕ) → slice_index row j < 65536) → 8 * b + 8 ≤ length places → binary (λ j. dark (slice_index row (3 * first + 24 * b + 3 * j))) 8 ≡ bits_in scene row places k b
unfolding bits_in
darks_are_bits scene row places k first b depth mode same even run room small many =
    binary_same (λ j. dark (slice_index row (3 * first + 24 * b + 3 * j))) (λ j. bit_in scene row places k (8 * b + j)) 8 (λ j less.
    let x = 8 * b + j in
    let within : x < length places = omega (arith, less, many) in
    let at : 3 * first + 24 * b + 3 * j ≡ 3 * (first + x) = omega arith in
    let shown = run x within in
    let dot : 3 * (first + x) + 2 < length row = omega (arith, room x within, shown) in
    ap (λ i. dark (slice_index row i)) at ∙ sym (dark_is_bit scene row places k first x depth mode same (even (first + x) dot) shown within (small (3 * (first + x)))))

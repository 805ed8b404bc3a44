-- The digits of a stream's words, one word after another.
use Rattle.std.proofs.Common.{◌≡◌, ℕ, zero, suc, ◌+◌, ◌-◌, ◌*◌, ◌%◌, ◌^◌, ◌<◌, ◌≤◌, List, [], ◌++◌, length, take, arith, refl, ap, ◌∙◌, inl, inr, add-one, length-append, length-take, length-drop}
use borrow.Rule.Slice.PartMut.{put_mid}
use Rattle.std.specs.Int.{w32, to_be_bytes}
use Rattle.std.proofs.lemmas.List.Elements.{Contains-append_cases}
use Rattle.std.proofs.lemmas.Slice.{take-put_mid}
use Rattle.hex.specs.Hex.{lower_digits}
use Rattle.hex.proofs.HexLemmas.{length-encode_with}
use Rattle.rand_chacha.specs.ChaCha.{ChaCha, word_at, key_of}
use Rattle.sane_fixed.specs.Text.{IsText}
use Rattle.md5_auth.specs.Challenges.{word_digits, digits_from, challenge_at}
use Rattle.md5_auth.proofs.DigestLemmas.{IsBytes-to_be_bytes, IsText-encode_lower}

pub digits_from-none : (key : List ℕ) (stream place : ℕ) → digits_from key stream place 0 ≡ []
unfolding digits_from
digits_from-none key stream place = refl

length-word_digits : (part : List ℕ) (word : ℕ) → part ≡ word_digits word → length part ≡ 8
length-word_digits part word is = ap length is ∙ length-encode_with lower_digits (to_be_bytes w32 word)

pub length-written : (digits part : List ℕ) (i word : ℕ) → length digits ≡ 32 → i < 4 → part ≡ word_digits word → length (put_mid (8 * i) (8 * i + 8 - 8 * i) digits part) ≡ 32
length-written digits part i word size few is =
    let n = length-word_digits part word is in
    simp (length-append, length-take, length-drop) (omega arith)

-- one word more, written after the others
pub digits_from-more : (key digits part : List ℕ) (stream place i word : ℕ) → take (8 * i) digits ≡ digits_from key stream place i → 8 * i ≤ length digits
    → part ≡ word_digits word → word ≡ word_at 10 key stream ((place + i) % 2 ^ 68)
    → take (8 * (i + 1)) (put_mid (8 * i) (8 * i + 8 - 8 * i) digits part) ≡ digits_from key stream place (i + 1)
unfolding digits_from
digits_from-more key digits part stream place i word so_far room is at =
    let size = length-word_digits part word is in
    let n : 8 * (i + 1) ≡ 8 * i + length part = omega arith in
    let last : part ≡ word_digits (word_at 10 key stream ((place + i) % 2 ^ 68)) = is ∙ ap word_digits at in
    rw (take-put_mid (8 * i) (8 * i + 8 - 8 * i) digits part (8 * (i + 1)) n room, so_far, last, add-one) refl

pub IsText-digits_from : (key : List ℕ) (stream place n : ℕ) → IsText (digits_from key stream place n)
unfolding digits_from
IsText-digits_from key stream place zero c = absurd (let k : c.0 < 0 = c.1 in omega arith)
IsText-digits_from key stream place (suc n) c =
    let word = word_at 10 key stream ((place + n) % 2 ^ 68) in
    elim (Contains-append_cases (digits_from key stream place n) (word_digits word) 0 c) [
      | inl h ↦ IsText-digits_from key stream place n h
      | inr h ↦ IsText-encode_lower (to_be_bytes w32 word) (IsBytes-to_be_bytes word) h
    ]

added_mod : (place n : ℕ) → (place % 2 ^ 68 + n) % 2 ^ 68 ≡ (place + n) % 2 ^ 68
added_mod place n = omega arith

-- a generator after one word more
pub next_place : (g h next : ChaCha) (i : ℕ) → h ≡ record g { word_pos = (g.word_pos + i) % 2 ^ 68 } → next ≡ record h { word_pos = (h.word_pos + 1) % 2 ^ 68 }
    → next ≡ record g { word_pos = (g.word_pos + (i + 1)) % 2 ^ 68 }
next_place g h next i is step =
    let place : ((g.word_pos + i) % 2 ^ 68 + 1) % 2 ^ 68 ≡ (g.word_pos + (i + 1)) % 2 ^ 68 = omega arith in
    step ∙ ap (λ (x : ChaCha). record x { word_pos = (x.word_pos + 1) % 2 ^ 68 }) is ∙ ap (λ (p : ℕ). record g { word_pos = p }) place

-- the word that a generator gives at a place
pub word_there : (g h : ChaCha) (i word : ℕ) → h ≡ record g { word_pos = (g.word_pos + i) % 2 ^ 68 } → word ≡ word_at 10 h.key h.stream h.word_pos → word ≡ word_at 10 g.key g.stream ((g.word_pos + i) % 2 ^ 68)
word_there g h i word is step = step ∙ ap (λ (x : ChaCha). word_at 10 x.key x.stream x.word_pos) is

-- a stream begins anew after 2 ^ 68 words
pub digits_from-anew : (key : List ℕ) (stream place n : ℕ) → digits_from key stream (place % 2 ^ 68) n ≡ digits_from key stream place n
unfolding digits_from
digits_from-anew key stream place zero = refl
digits_from-anew key stream place (suc n) =
    let same = added_mod place n in
    ap (λ (l : List ℕ). l ++ word_digits (word_at 10 key stream ((place % 2 ^ 68 + n) % 2 ^ 68))) (digits_from-anew key stream place n)
    ∙ ap (λ (p : ℕ). digits_from key stream place n ++ word_digits (word_at 10 key stream p)) same

pub challenge_from : (seed : List ℕ) (k : ℕ) (g : ChaCha) → g ≡ record { key = key_of seed; stream = 0; word_pos = 4 * k % 2 ^ 68 } → digits_from g.key g.stream g.word_pos 4 ≡ challenge_at seed k
challenge_from seed k g is = ap (λ (g : ChaCha). digits_from g.key g.stream g.word_pos 4) is ∙ digits_from-anew (key_of seed) 0 (4 * k) 4

-- Reading a header one byte at a time agrees with reading it from the whole text.
use Rattle.std.proofs.Common.{◌≡◌, ℕ, ◌+◌, ◌*◌, ◌<◌, ◌&&◌, Bool, true, false, List, [], ◌∷◌, length, take, drop, cond, suc, arith, refl, sym, ap, ◌∙◌, subst}
use Rattle.std.specs.Prelude.{Option, Some, None, nat_le}
use Rattle.std.specs.Char.{is_ascii_digit, digit_value}
use Rattle.std.specs.Str.Parse.{digits_value, digits_value_after}
use Rattle.std.proofs.lemmas.List.{drop-drop}
use Rattle.std.proofs.lemmas.Bool.Decides.{nat_tests}
use Rattle.sane_fixed.specs.Digits.{digit_count}
use Rattle.netpbm.specs.declared.format.PnmFormat.{PnmFormat}
use Rattle.netpbm.specs.declared.format.PnmFormat.TheVariants.{Pbm, Pgm, Ppm}
use Rattle.netpbm.specs.HeaderReading.{format_of, number_at, maxval_at, header_at}
use Rattle.page_sources.specs.PageFile.{IsPageFormat}
use Rattle.page_sources.specs.Inside.{from_hand, digit_in, more_digits, number_end, header_from}

-- one byte was taken from what is left
pub byte_taken : (new old : Bool) (after text : List ℕ) (at b : ℕ) (front more : List ℕ) → new ≡ old → after ≡ text → (old ≡ true → drop at text ≡ front) → (hand : Option ℕ) → hand ≡ Some b → (old ≡ true → front ≡ from_hand hand more) → new ≡ true → drop (at + 1) after ≡ more
byte_taken new old after text at b front more e same before hand is taken h =
    let kept : old ≡ true = sym e ∙ h in
    let first : from_hand hand more ≡ b ∷ more = ap (λ (o : Option ℕ). from_hand o more) is in
    ap (drop (at + 1)) same ∙ sym (drop-drop 1 at text) ∙ ap (drop 1) (before kept ∙ taken kept ∙ first)

-- and the bytes are one fewer
pub byte_counted : (new old : Bool) (after text : List ℕ) (at b : ℕ) (front more : List ℕ) → new ≡ old → after ≡ text → (old ≡ true → at + length front ≡ length text) → (hand : Option ℕ) → hand ≡ Some b → (old ≡ true → front ≡ from_hand hand more) → new ≡ true → (at + 1) + length more ≡ length after
byte_counted new old after text at b front more e same before hand is taken h =
    let kept : old ≡ true = sym e ∙ h in
    let first : from_hand hand more ≡ b ∷ more = ap (λ (o : Option ℕ). from_hand o more) is in
    let size : length front ≡ suc (length more) = ap length (taken kept ∙ first) in
    let whole : at + length front ≡ length text = before kept in
    let all : length after ≡ length text = ap length same in
    omega arith

-- ---- numbers

pub more_digits-is : (c v : ℕ) (bytes : List ℕ) → more_digits c v bytes ≡ number_end (c + digit_count bytes) (digits_value_after 10 v (take (digit_count bytes) bytes)) (drop (digit_count bytes) bytes)
more_digits-is c v [] = let none : c ≡ c + 0 = omega arith in ap (λ n. number_end n v []) none
more_digits-is c v (b ∷ bytes) =
    let n = digit_count bytes in
    let count : (c + 1) + n ≡ c + suc n = omega arith in
    let none : c ≡ c + 0 = omega arith in
    let P : Bool → Type 0 = λ t. cond t (more_digits (c + 1) (v * 10 + digit_value b) bytes) (number_end c v (b ∷ bytes)) ≡ number_end (c + cond t (suc n) 0) (digits_value_after 10 v (take (cond t (suc n) 0) (b ∷ bytes))) (drop (cond t (suc n) 0) (b ∷ bytes)) in
    elim (is_ascii_digit b) as P [
      | true ↦ more_digits-is (c + 1) (v * 10 + digit_value b) bytes ∙ ap (λ k. number_end k (digits_value_after 10 (v * 10 + digit_value b) (take n bytes)) (drop n bytes)) count
      | false ↦ ap (λ k. number_end k v (b ∷ bytes)) none
    ]

pub more_digits-number_at : (bytes : List ℕ) → more_digits 0 0 bytes ≡ number_at bytes
unfolding number_at
more_digits-number_at bytes =
    let same : 0 + digit_count bytes ≡ digit_count bytes = omega arith in
    more_digits-is 0 0 bytes ∙ ap (λ k. number_end k (digits_value 10 (take (digit_count bytes) bytes)) (drop (digit_count bytes) bytes)) same

-- eleven digits are too many
pub more_digits-many : (c v : ℕ) (bytes : List ℕ) → 10 < c → more_digits c v bytes ≡ None
more_digits-many c v bytes many =
    let k = c + digit_count bytes in
    let large : nat_le k 10 ≡ false = grind (arith, nat_tests) in
    let rest : ℕ × List ℕ = (digits_value_after 10 v (take (digit_count bytes) bytes), drop (digit_count bytes) bytes) in
    let P : Bool → Type 0 = λ t. cond (t && nat_le k 10) (Some rest) None ≡ None in
    let Q : Bool → Type 0 = λ t. cond t (Some rest) None ≡ None in
    let full : cond (nat_le k 10) (Some rest) None ≡ None = subst Q (sym large) refl in
    more_digits-is c v bytes ∙ elim (nat_le 1 k) as P [ true ↦ full | false ↦ refl ]

-- ---- a number, digit by digit

pub no_digit : (c v : ℕ) (hand : Option ℕ) (rest : List ℕ) → digit_in hand ≡ None → more_digits c v (from_hand hand rest) ≡ number_end c v (from_hand hand rest)
no_digit c v None rest e = refl
no_digit c v (Some b) rest e =
    let P : Bool → Type 0 = λ t. cond t (Some (digit_value b)) None ≡ None → cond t (more_digits (c + 1) (v * 10 + digit_value b) rest) (number_end c v (b ∷ rest)) ≡ number_end c v (b ∷ rest) in
    elim (is_ascii_digit b) as P [ true ↦ λ some. cc some | false ↦ λ none. refl ] e

pub one_digit : (c v d : ℕ) (hand : Option ℕ) (rest : List ℕ) → digit_in hand ≡ Some d → more_digits c v (from_hand hand rest) ≡ more_digits (c + 1) (v * 10 + d) rest
one_digit c v d None rest e = cc e
one_digit c v d (Some b) rest e =
    let P : Bool → Type 0 = λ t. cond t (Some (digit_value b)) None ≡ Some d → cond t (more_digits (c + 1) (v * 10 + digit_value b) rest) (number_end c v (b ∷ rest)) ≡ more_digits (c + 1) (v * 10 + d) rest in
    elim (is_ascii_digit b) as P [
      | true ↦ λ some. let same : digit_value b ≡ d = cc some in ap (λ n. more_digits (c + 1) (v * 10 + n) rest) same
      | false ↦ λ none. cc none
    ] e

pub number_none : (c v : ℕ) (hand : Option ℕ) (rest bytes : List ℕ) → c ≡ 0 → digit_in hand ≡ None → more_digits c v (from_hand hand rest) ≡ more_digits 0 0 bytes → number_at bytes ≡ None
number_none c v hand rest bytes first none e =
    sym (more_digits-number_at bytes) ∙ sym e ∙ no_digit c v hand rest none ∙ ap (λ k. number_end k v (from_hand hand rest)) first

pub number_some : (c v : ℕ) (hand : Option ℕ) (rest bytes : List ℕ) → 0 < c → c < 11 → digit_in hand ≡ None → more_digits c v (from_hand hand rest) ≡ more_digits 0 0 bytes → number_at bytes ≡ Some (v, from_hand hand rest)
number_some c v hand rest bytes some few none e =
    let low : nat_le 1 c ≡ true = grind (arith, nat_tests) in
    let high : nat_le c 10 ≡ true = grind (arith, nat_tests) in
    let full : number_end c v (from_hand hand rest) ≡ Some (v, from_hand hand rest) = rw low (rw high refl) in
    sym (more_digits-number_at bytes) ∙ sym e ∙ no_digit c v hand rest none ∙ full

pub number_many : (c v : ℕ) (rest bytes : List ℕ) → 10 < c → more_digits c v rest ≡ more_digits 0 0 bytes → number_at bytes ≡ None
number_many c v rest bytes many e = sym (more_digits-number_at bytes) ∙ sym e ∙ more_digits-many c v rest many

-- ---- the header

pub header_at-from : (text : List ℕ) (f : PnmFormat) → format_of text ≡ Some f → IsPageFormat (Some f) → header_at text ≡ header_from f (drop 2 text)
unfolding header_at header_from maxval_at
header_at-from text Pbm e is = absurd is
header_at-from text Pgm e is = rw e refl
header_at-from text Ppm e is = rw e refl

-- a header that is read after the format is the one of the whole text
pub header_at-start : (text : List ℕ) (at : ℕ) (f : PnmFormat) (start : List ℕ) → at ≡ 0 → Some f ≡ format_of (drop at text) → IsPageFormat (Some f) → start ≡ drop 2 (drop at text) → header_at text ≡ header_from f start
header_at-start text at f start first is page e =
    let whole : drop at text ≡ text = ap (λ n. drop n text) first in
    header_at-from text f (sym (is ∙ ap format_of whole)) page ∙ ap (header_from f) (sym (e ∙ ap (drop 2) whole))

pub page_format : (text : List ℕ) (at : ℕ) (f : PnmFormat) → at ≡ 0 → Some f ≡ format_of (drop at text) → IsPageFormat (Some f) → IsPageFormat (format_of text)
page_format text at f first is page =
    let whole : drop at text ≡ text = ap (λ n. drop n text) first in
    subst (λ (o : Option PnmFormat). IsPageFormat o) (is ∙ ap format_of whole) page

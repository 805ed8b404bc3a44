-- Reading a header from the left finds what the grammar says, and nothing else.
use Rattle.std.proofs.Common.{◌≡◌, ℕ, ◌<◌, ◌≤◌, ◌==◌, ◌&&◌, Bool, true, false, List, [], ◌∷◌, ◌++◌, length, take, drop, arith, cond, refl, sym, ap, ◌∙◌, append_assoc, subst, Bor, option_map, IfSome, IfNone}
use Rattle.std.specs.Prelude.{Option, Some, None, nat_le}
use Rattle.std.specs.Char.{is_ascii_digit, digit_value}
use Rattle.std.specs.Str.Parse.{digits_value}
use Rattle.std.proofs.lemmas.Bool.Decides.{nat_tests}
use Rattle.std.proofs.lemmas.List.{take_at, drop_at, take-append-drop, length-take}
use Rattle.std.proofs.lemmas.Option.{cond_some, option_and_then_some, some_pair_parts}
use Rattle.std.proofs.lemmas.Bool.{and_parts}
use Rattle.netpbm.specs.declared.format.PnmFormat.{PnmFormat}
use Rattle.netpbm.specs.declared.format.PnmFormat.TheVariants.{Pbm, Pgm, Ppm}
use Rattle.netpbm.specs.declared.format.Header.{Header}
use Rattle.netpbm.specs.Pnm.{is_white, ends_comment, NoneEnds, IsFiller, nothing, white, comment, IsGap, IsNumber, IsField, IsHeader, IsMaxval, magic, Begins}
use Rattle.netpbm.specs.HeaderReading.{format_of, after_filler, number_at, field_at, end_at, maxval_at, header_at}
use Rattle.sane_fixed.specs.Digits.{digit_count}
use Rattle.sane_fixed.proofs.DigitLemmas.{AllDigits-take-digit_count, digit_count-digits, digit_count-le}

-- ---- the filler

-- inside a comment everything up to its end is passed over
after_filler-inside : (inside : List ℕ) (last : ℕ) (more : List ℕ) → NoneEnds inside → ends_comment last ≡ true → after_filler true (inside ++ (last ∷ more)) ≡ after_filler false more
after_filler-inside [] last more none ends = rw ends refl
after_filler-inside (b ∷ inside) last more none ends = rw (none.0) (after_filler-inside inside last more none.1 ends)

pub after_filler-filler : (filler : List ℕ) (d : ℕ) (more : List ℕ) → IsFiller filler → is_white d ≡ false → (d == 35) ≡ false → after_filler false (filler ++ d ∷ more) ≡ d ∷ more
after_filler-filler _ d more nothing w c = rw (w, c) refl
after_filler-filler _ d more (white b rest is r) w c = rw is (after_filler-filler rest d more r w c)
after_filler-filler _ d more (comment inside last rest none ends r) w c =
    rw (append_assoc inside (last ∷ rest) (d ∷ more)) (after_filler-inside inside last (rest ++ d ∷ more) none ends ∙ after_filler-filler rest d more r w c)

pub record FoundFiller (bytes rest : List ℕ) : Type 0 where
  pub filler : List ℕ
  pub bytes_are : bytes ≡ filler ++ rest
  pub is_filler : IsFiller filler

-- what stands from inside a comment on
record FoundInside (bytes rest : List ℕ) : Type 0 where
  pub inside : List ℕ
  pub last : ℕ
  pub filler : List ℕ
  pub bytes_are : bytes ≡ inside ++ (last ∷ (filler ++ rest))
  pub none : NoneEnds inside
  pub ends : ends_comment last ≡ true
  pub is_filler : IsFiller filler

is_hash : (b : ℕ) → (b == 35) ≡ true → b ≡ 35
is_hash b h = grind (arith, nat_tests)

-- a white space byte before a filler
white_found : (b : ℕ) (bs rest : List ℕ) → is_white b ≡ true → FoundFiller bs rest → FoundFiller (b ∷ bs) rest
white_found b bs rest w r = record { filler = b ∷ r.filler; bytes_are = ap (λ l. b ∷ l) r.bytes_are; is_filler = white b r.filler w r.is_filler }

-- a comment before a filler
comment_found : (b : ℕ) (bs rest : List ℕ) → b ≡ 35 → FoundInside bs rest → FoundFiller (b ∷ bs) rest
comment_found b bs rest e r = record {
  filler = 35 ∷ (r.inside ++ (r.last ∷ r.filler));
  bytes_are = rw e (ap (λ l. 35 ∷ l) (r.bytes_are ∙ sym (append_assoc r.inside (r.last ∷ r.filler) rest)));
  is_filler = comment r.inside r.last r.filler r.none r.ends r.is_filler;
}

end_of_comment : (b : ℕ) (bs rest : List ℕ) → ends_comment b ≡ true → FoundFiller bs rest → FoundInside (b ∷ bs) rest
end_of_comment b bs rest e r = record { inside = []; last = b; filler = r.filler; bytes_are = ap (λ l. b ∷ l) r.bytes_are; none = tt; ends = e; is_filler = r.is_filler }

more_of_comment : (b : ℕ) (bs rest : List ℕ) → ends_comment b ≡ false → FoundInside bs rest → FoundInside (b ∷ bs) rest
more_of_comment b bs rest e r = record { inside = b ∷ r.inside; last = r.last; filler = r.filler; bytes_are = ap (λ l. b ∷ l) r.bytes_are; none = (e, r.none); ends = r.ends; is_filler = r.is_filler }

-- what passing over the bytes from outside a comment, or from inside one, has found
abbrev Found : Bool → List ℕ → List ℕ → Type 0
Found false bytes rest = FoundFiller bytes rest
Found true bytes rest = FoundInside bytes rest

found : (in_comment : Bool) (bytes : List ℕ) (d : ℕ) (more : List ℕ) → after_filler in_comment bytes ≡ d ∷ more → Found in_comment bytes (d ∷ more)
found false [] d more e = absurd (cc)
found true [] d more e = absurd (cc)
found false (b ∷ bs) d more e =
    let P : Bool → Type 0 = λ t. is_white b ≡ t → cond t (after_filler false bs) (cond (b == 35) (after_filler true bs) (b ∷ bs)) ≡ d ∷ more → FoundFiller (b ∷ bs) (d ∷ more) in
    let Q : Bool → Type 0 = λ t. (b == 35) ≡ t → cond t (after_filler true bs) (b ∷ bs) ≡ d ∷ more → FoundFiller (b ∷ bs) (d ∷ more) in
    elim (is_white b) as P [
      | true ↦ λ w g. white_found b bs (d ∷ more) w (found false bs d more g)
      | false ↦ λ w g. elim (b == 35) as Q [
        | true ↦ λ q g2. comment_found b bs (d ∷ more) (is_hash b q) (found true bs d more g2)
        | false ↦ λ q g2. record { filler = []; bytes_are = g2; is_filler = nothing }
      ] refl g
    ] refl e
found true (b ∷ bs) d more e =
    let P : Bool → Type 0 = λ t. ends_comment b ≡ t → cond t (after_filler false bs) (after_filler true bs) ≡ d ∷ more → FoundInside (b ∷ bs) (d ∷ more) in
    elim (ends_comment b) as P [
      | true ↦ λ w g. end_of_comment b bs (d ∷ more) w (found false bs d more g)
      | false ↦ λ w g. more_of_comment b bs (d ∷ more) w (found true bs d more g)
    ] refl e

pub filler_found : (bytes : List ℕ) (d : ℕ) (more : List ℕ) → after_filler false bytes ≡ d ∷ more → FoundFiller bytes (d ∷ more)
filler_found bytes d more e = found false bytes d more e

-- ---- numbers

pub white_is_no_digit : (b : ℕ) → is_white b ≡ true → is_ascii_digit b ≡ false
white_is_no_digit b h = grind (arith, nat_tests)

pub digit_is_no_white : (b : ℕ) → digit_value b < 10 → is_white b ≡ false
digit_is_no_white b h = grind (arith, nat_tests)

pub digit_is_no_hash : (b : ℕ) → digit_value b < 10 → (b == 35) ≡ false
digit_is_no_hash b h = grind (arith, nat_tests)

-- ---- a number of 1 to 10 digits

pub number_at-number : (digits rest : List ℕ) (n : ℕ) → IsNumber digits n → digit_count rest ≡ 0 → number_at (digits ++ rest) ≡ Some (n, rest)
unfolding number_at
number_at-number digits rest n is none =
    let count : digit_count (digits ++ rest) ≡ length digits = digit_count-digits digits rest is.all_digits none in
    let low : nat_le 1 (length digits) ≡ true = grind (arith, nat_tests) in
    let high : nat_le (length digits) 10 ≡ true = grind (arith, nat_tests) in
    rw (count, low, high, take_at digits rest (length digits) refl, drop_at digits rest (length digits) refl) (rw (sym is.value) refl)

pub record FoundNumber (bytes : List ℕ) (n : ℕ) (rest : List ℕ) : Type 0 where
  pub number : List ℕ
  pub bytes_are : bytes ≡ number ++ rest
  pub is_number : IsNumber number n

pub number_found : (bytes : List ℕ) (n : ℕ) (rest : List ℕ) → number_at bytes ≡ Some (n, rest) → FoundNumber bytes n rest
unfolding number_at
number_found bytes n rest e =
    let found = cond_some (nat_le 1 (digit_count bytes) && nat_le (digit_count bytes) 10) (digits_value 10 (take (digit_count bytes) bytes), drop (digit_count bytes) bytes) (n, rest) e in
    let tests = and_parts (nat_le 1 (digit_count bytes)) (nat_le (digit_count bytes) 10) found.0 in
    let low : 1 ≤ digit_count bytes = grind (arith, nat_tests) in
    let high : digit_count bytes ≤ 10 = grind (arith, nat_tests) in
    let value : digits_value 10 (take (digit_count bytes) bytes) ≡ n = ap (λ (p : ℕ × List ℕ). p.0) found.1 in
    let after : drop (digit_count bytes) bytes ≡ rest = ap (λ (p : ℕ × List ℕ). p.1) found.1 in
    let size : length (take (digit_count bytes) bytes) ≡ digit_count bytes = omega (arith, length-take (digit_count bytes) bytes, digit_count-le bytes) in
    record {
      number = take (digit_count bytes) bytes;
      bytes_are = rw (sym after) (sym (take-append-drop (digit_count bytes) bytes));
      is_number = record { all_digits = AllDigits-take-digit_count bytes; some = omega arith; most = omega arith; value = sym value };
    }

-- ---- a gap and a number

pub digit_count-gap : (gap more : List ℕ) → IsGap gap → digit_count (gap ++ more) ≡ 0
digit_count-gap gap more h = rw (h.bytes_are, white_is_no_digit h.first h.is_first) refl

pub digit_count-field : (field more : List ℕ) (n : ℕ) → IsField field n → digit_count (field ++ more) ≡ 0
digit_count-field field more n is =
    rw (is.bytes_are, append_assoc is.gap is.number more) (digit_count-gap is.gap (is.number ++ more) is.is_gap)

pub field_at-parts : (gap number rest : List ℕ) (n : ℕ) → IsGap gap → IsNumber number n → digit_count rest ≡ 0 → field_at (gap ++ (number ++ rest)) ≡ Some (n, rest)
unfolding field_at
field_at-parts gap [] rest n g is none = absurd (let h : 1 ≤ 0 = is.some in omega arith)
field_at-parts gap (d ∷ ds) rest n g is none =
    rw (g.bytes_are, g.is_first, after_filler-filler g.filler d (ds ++ rest) g.is_filler (digit_is_no_white d is.all_digits.0) (digit_is_no_hash d is.all_digits.0)) (number_at-number (d ∷ ds) rest n is none)

pub field_at-field : (field rest : List ℕ) (n : ℕ) → IsField field n → digit_count rest ≡ 0 → field_at (field ++ rest) ≡ Some (n, rest)
field_at-field field rest n is none =
    rw (is.bytes_are, append_assoc is.gap is.number rest) (field_at-parts is.gap is.number rest n is.is_gap is.is_number none)

pub record FoundField (bytes : List ℕ) (n : ℕ) (rest : List ℕ) : Type 0 where
  pub field : List ℕ
  pub bytes_are : bytes ≡ field ++ rest
  pub is_field : IsField field n

-- what `number_at` reads is not empty
pub not_none : {A : Type 0} (x : A) → ◌≡◌ {A = Option A} None (Some x) → ⊥
not_none x e = (cc)

pub field_from_filler : (b : ℕ) (bytes after : List ℕ) (n : ℕ) (rest : List ℕ) → is_white b ≡ true → after_filler false bytes ≡ after → number_at after ≡ Some (n, rest) → FoundField (b ∷ bytes) n rest
unfolding number_at
field_from_filler b bytes [] n rest w e found = absurd (not_none _ found)
field_from_filler b bytes (d ∷ more) n rest w e found =
    let f = filler_found bytes d more e in
    let g = number_found (d ∷ more) n rest found in
    record {
      field = (b ∷ f.filler) ++ g.number;
      bytes_are = ap (λ l. b ∷ l) (f.bytes_are ∙ (ap (λ l. f.filler ++ l) g.bytes_are ∙ sym (append_assoc f.filler g.number rest)));
      is_field = record { gap = b ∷ f.filler; number = g.number; bytes_are = refl; is_gap = record { first = b; filler = f.filler; bytes_are = refl; is_first = w; is_filler = f.is_filler }; is_number = g.is_number };
    }

pub field_found : (bytes : List ℕ) (n : ℕ) (rest : List ℕ) → field_at bytes ≡ Some (n, rest) → FoundField bytes n rest
unfolding field_at
field_found [] n rest e = absurd (not_none _ e)
field_found (b ∷ bytes) n rest e =
    let P : Bool → Type 0 = λ t. is_white b ≡ t → cond t (number_at (after_filler false bytes)) None ≡ Some (n, rest) → FoundField (b ∷ bytes) n rest in
    elim (is_white b) as P [
      | true ↦ λ w g. field_from_filler b bytes (after_filler false bytes) n rest w refl g
      | false ↦ λ w g. absurd (not_none _ g)
    ] refl e

-- ---- the header

-- the numbers that a header may have
pub record InLimits (width height maxval : ℕ) : Type 0 where
  pub width_some : 1 ≤ width
  pub width_most : width ≤ 65536
  pub height_some : 1 ≤ height
  pub height_most : height ≤ 65536
  pub maxval_some : 1 ≤ maxval
  pub maxval_most : maxval ≤ 65535

abbrev within : ℕ → ℕ → ℕ → Bool
within w h m = (nat_le 1 w && nat_le w 65536) && ((nat_le 1 h && nat_le h 65536) && (nat_le 1 m && nat_le m 65535))

within_limits : (w h m : ℕ) → InLimits w h m → within w h m ≡ true
within_limits w h m is =
    let a : nat_le 1 w ≡ true = grind (arith, nat_tests) in
    let b : nat_le w 65536 ≡ true = grind (arith, nat_tests) in
    let c : nat_le 1 h ≡ true = grind (arith, nat_tests) in
    let d : nat_le h 65536 ≡ true = grind (arith, nat_tests) in
    let e : nat_le 1 m ≡ true = grind (arith, nat_tests) in
    let f : nat_le m 65535 ≡ true = grind (arith, nat_tests) in
    rw (a, b, c, d, e, f) refl

limits_within : (w h m : ℕ) → within w h m ≡ true → InLimits w h m
limits_within w h m t =
    let p = and_parts (nat_le 1 w && nat_le w 65536) ((nat_le 1 h && nat_le h 65536) && (nat_le 1 m && nat_le m 65535)) t in
    let q = and_parts (nat_le 1 h && nat_le h 65536) (nat_le 1 m && nat_le m 65535) p.1 in
    let a = and_parts (nat_le 1 w) (nat_le w 65536) p.0 in
    let b = and_parts (nat_le 1 h) (nat_le h 65536) q.0 in
    let c = and_parts (nat_le 1 m) (nat_le m 65535) q.1 in
    record {
      width_some = grind (arith, nat_tests);
      width_most = grind (arith, nat_tests);
      height_some = grind (arith, nat_tests);
      height_most = grind (arith, nat_tests);
      maxval_some = grind (arith, nat_tests);
      maxval_most = grind (arith, nat_tests);
    }

-- the steps of reading a header
pub record Steps (text : List ℕ) (h : Header) (raster : List ℕ) : Type 0 where
  pub after_width : List ℕ
  pub after_height : List ℕ
  pub after_maxval : List ℕ
  pub format : format_of text ≡ Some h.format
  pub width : field_at (drop 2 text) ≡ Some (h.width, after_width)
  pub height : field_at after_width ≡ Some (h.height, after_height)
  pub maxval : maxval_at h.format after_height ≡ Some (h.maxval, after_maxval)
  pub last : end_at after_maxval ≡ Some raster
  pub limits : InLimits h.width h.height h.maxval

pub header_at-steps : (text : List ℕ) (h : Header) (raster : List ℕ) → Steps text h raster → header_at text ≡ Some (h, raster)
unfolding header_at
header_at-steps text h raster s =
    rw (s.format, s.width, s.height, s.maxval, s.last, within_limits h.width h.height h.maxval s.limits) refl

pub steps_found : (text : List ℕ) (h : Header) (raster : List ℕ) → header_at text ≡ Some (h, raster) → Steps text h raster
unfolding header_at
steps_found text h raster e =
    option_and_then_some _ (format_of text) (h, raster) e (λ f ef e1.
    option_and_then_some _ (field_at (drop 2 text)) (h, raster) e1 (λ w ew e2.
    option_and_then_some _ (field_at w.1) (h, raster) e2 (λ v ev e3.
    option_and_then_some _ (maxval_at f v.1) (h, raster) e3 (λ m em e4.
    option_and_then_some _ (end_at m.1) (h, raster) e4 (λ r er e5.
    let found = cond_some (within w.0 v.0 m.0) (record { format = f; width = w.0; height = v.0; maxval = m.0 }, r) (h, raster) e5 in
    let head : ◌≡◌ {A = Header} (record { format = f; width = w.0; height = v.0; maxval = m.0 }) h = ap (λ (p : Header × List ℕ). p.0) found.1 in
    let rest : r ≡ raster = ap (λ (p : Header × List ℕ). p.1) found.1 in
    let P : Header → Type 0 = λ g. Steps text g raster in
    subst P head (record {
      after_width = w.1;
      after_height = v.1;
      after_maxval = m.1;
      format = ef;
      width = ew;
      height = ev;
      maxval = em;
      last = er ∙ ap (λ l. Some l) rest;
      limits = limits_within w.0 v.0 m.0 found.0;
    }))))))

-- a header of the grammar is read, whatever follows it
pub maxval_at-grammar : (f : PnmFormat) (field rest : List ℕ) (m : ℕ) → IsMaxval f field m → digit_count rest ≡ 0 → maxval_at f (field ++ rest) ≡ Some (m, rest)
unfolding maxval_at
maxval_at-grammar Pbm field rest m is none = rw (is.0, is.1) refl
maxval_at-grammar Pgm field rest m is none = field_at-field field rest m is.0 none
maxval_at-grammar Ppm field rest m is none = field_at-field field rest m is.0 none

maxval_limits : (f : PnmFormat) (field : List ℕ) (m : ℕ) → IsMaxval f field m → (1 ≤ m) × (m ≤ 65535)
maxval_limits Pbm field m is = (omega (arith, is.1), omega (arith, is.1))
maxval_limits Pgm field m is = (is.1, is.2)
maxval_limits Ppm field m is = (is.1, is.2)

digit_count-maxval : (f : PnmFormat) (field rest : List ℕ) (m : ℕ) → IsMaxval f field m → digit_count rest ≡ 0 → digit_count (field ++ rest) ≡ 0
digit_count-maxval Pbm field rest m is none = rw (is.0) none
digit_count-maxval Pgm field rest m is none = digit_count-field field rest m is.0
digit_count-maxval Ppm field rest m is none = digit_count-field field rest m is.0

format_of-magic : (f : PnmFormat) (rest : List ℕ) → format_of (magic f ++ rest) ≡ Some f
format_of-magic Pbm rest = refl
format_of-magic Pgm rest = refl
format_of-magic Ppm rest = refl

drop-magic : (f : PnmFormat) (rest : List ℕ) → drop 2 (magic f ++ rest) ≡ rest
drop-magic Pbm rest = refl
drop-magic Pgm rest = refl
drop-magic Ppm rest = refl

end_at-white : (b : ℕ) (rest : List ℕ) → is_white b ≡ true → end_at (b ∷ rest) ≡ Some rest
unfolding end_at
end_at-white b rest w = rw w refl

-- the parts of a head, grouped from the right
regroup : (a b c d e rest : List ℕ) → (a ++ (b ++ (c ++ (d ++ e)))) ++ rest ≡ a ++ (b ++ (c ++ (d ++ (e ++ rest))))
regroup a b c d e rest = simp append_assoc

pub steps_from_header : (head : List ℕ) (h : Header) (raster : List ℕ) → IsHeader head h → Steps (head ++ raster) h raster
steps_from_header head h raster is =
    let tail = is.last ∷ raster in
    let text : head ++ raster ≡ magic h.format ++ (is.width_field ++ (is.height_field ++ (is.maxval_field ++ (is.last ∷ raster)))) =
    ap (λ l. l ++ raster) is.bytes ∙ regroup (magic h.format) is.width_field is.height_field is.maxval_field (is.last ∷ []) raster in
    let none : digit_count (is.last ∷ raster) ≡ 0 = rw (white_is_no_digit is.last is.is_last) refl in
    let none2 : digit_count (is.maxval_field ++ (is.last ∷ raster)) ≡ 0 = digit_count-maxval h.format is.maxval_field (is.last ∷ raster) h.maxval is.is_maxval none in
    let none3 : digit_count (is.height_field ++ (is.maxval_field ++ (is.last ∷ raster))) ≡ 0 = digit_count-field is.height_field (is.maxval_field ++ (is.last ∷ raster)) h.height is.is_height in
    let m = maxval_limits h.format is.maxval_field h.maxval is.is_maxval in
    record {
      after_width = is.height_field ++ (is.maxval_field ++ (is.last ∷ raster));
      after_height = is.maxval_field ++ (is.last ∷ raster);
      after_maxval = is.last ∷ raster;
      format = rw text (format_of-magic h.format _);
      width = rw (text, drop-magic h.format (is.width_field ++ (is.height_field ++ (is.maxval_field ++ (is.last ∷ raster))))) (field_at-field is.width_field _ h.width is.is_width none3);
      height = field_at-field is.height_field _ h.height is.is_height none2;
      maxval = maxval_at-grammar h.format is.maxval_field (is.last ∷ raster) h.maxval is.is_maxval none;
      last = end_at-white is.last raster is.is_last;
      limits = record { width_some = is.width_some; width_most = is.width_most; height_some = is.height_some; height_most = is.height_most; maxval_some = m.0; maxval_most = m.1 };
    }

-- what the grammar has is read so
pub header_at-begins : (text : List ℕ) (h : Header) (raster : List ℕ) → Begins text h raster → header_at text ≡ Some (h, raster)
header_at-begins text h raster b =
    rw (b.text_is) (header_at-steps (b.head ++ raster) h raster (steps_from_header b.head h raster b.is_header))

-- the first two bytes
pub format_found : (text : List ℕ) (f : PnmFormat) → format_of text ≡ Some f → text ≡ magic f ++ drop 2 text
format_found [] f e = absurd (not_none _ e)
format_found (p ∷ []) f e = absurd (not_none _ e)
format_found (p ∷ k ∷ rest) f e =
    let P : Bool → Type 0 = λ t. (p == 80) ≡ t → cond t (cond (k == 52) (Some Pbm) (cond (k == 53) (Some Pgm) (cond (k == 54) (Some Ppm) None))) None ≡ Some f → p ∷ k ∷ rest ≡ magic f ++ rest in
    let Q : Bool → Type 0 = λ t. (k == 52) ≡ t → p ≡ 80 → cond t (Some Pbm) (cond (k == 53) (Some Pgm) (cond (k == 54) (Some Ppm) None)) ≡ Some f → p ∷ k ∷ rest ≡ magic f ++ rest in
    let R : Bool → Type 0 = λ t. (k == 53) ≡ t → p ≡ 80 → cond t (Some Pgm) (cond (k == 54) (Some Ppm) None) ≡ Some f → p ∷ k ∷ rest ≡ magic f ++ rest in
    let S : Bool → Type 0 = λ t. (k == 54) ≡ t → p ≡ 80 → cond t (Some Ppm) None ≡ Some f → p ∷ k ∷ rest ≡ magic f ++ rest in
    elim (p == 80) as P [
      | true ↦ λ a g. elim (k == 52) as Q [
        | true ↦ λ b c d. told p k 52 Pbm f rest c (is_byte k 52 b) refl d
        | false ↦ λ b c d. elim (k == 53) as R [
          | true ↦ λ b c d. told p k 53 Pgm f rest c (is_byte k 53 b) refl d
          | false ↦ λ b c d. elim (k == 54) as S [
            | true ↦ λ b c d. told p k 54 Ppm f rest c (is_byte k 54 b) refl d
            | false ↦ λ b c d. absurd (not_none _ d)
          ] refl c d
        ] refl c d
      ] refl (is_byte p 80 a) g
      | false ↦ λ a g. absurd (not_none _ g)
    ] refl e
  where
    is_byte : (b n : ℕ) → (b == n) ≡ true → b ≡ n
    is_byte b n h = grind (arith, nat_tests)

    told : (p k n : ℕ) (x f : PnmFormat) (rest : List ℕ) → p ≡ 80 → k ≡ n → magic x ≡ 80 ∷ n ∷ [] → ◌≡◌ {A = Option PnmFormat} (Some x) (Some f) → p ∷ k ∷ rest ≡ magic f ++ rest
    told p k n x f rest a b m e =
        let same : x ≡ f = (cc) in
        let magic_is : magic f ≡ 80 ∷ n ∷ [] = ap magic (sym same) ∙ m in
        rw (a, b, magic_is) refl

-- what is read is in the grammar
pub record FoundMaxval (f : PnmFormat) (bytes : List ℕ) (m : ℕ) (rest : List ℕ) : Type 0 where
  pub field : List ℕ
  pub bytes_are : bytes ≡ field ++ rest
  pub is_maxval : IsMaxval f field m

maxval_found : (f : PnmFormat) (bytes : List ℕ) (m : ℕ) (rest : List ℕ) → maxval_at f bytes ≡ Some (m, rest) → 1 ≤ m → m ≤ 65535 → FoundMaxval f bytes m rest
unfolding maxval_at
maxval_found Pbm bytes m rest e low high =
    let p = some_pair_parts 1 m bytes rest e in
    record { field = []; bytes_are = p.1; is_maxval = (refl, sym p.0) }
maxval_found Pgm bytes m rest e low high =
    let f = field_found bytes m rest e in
    record { field = f.field; bytes_are = f.bytes_are; is_maxval = (f.is_field, low, high) }
maxval_found Ppm bytes m rest e low high =
    let f = field_found bytes m rest e in
    record { field = f.field; bytes_are = f.bytes_are; is_maxval = (f.is_field, low, high) }

pub record FoundEnd (bytes rest : List ℕ) : Type 0 where
  pub last : ℕ
  pub bytes_are : bytes ≡ last ∷ rest
  pub is_last : is_white last ≡ true

end_found : (bytes rest : List ℕ) → end_at bytes ≡ Some rest → FoundEnd bytes rest
unfolding end_at
end_found [] rest e = absurd (not_none _ e)
end_found (b ∷ bytes) rest e =
    let f = cond_some (is_white b) bytes rest e in
    record { last = b; bytes_are = ap (λ l. b ∷ l) f.1; is_last = f.0 }

pub begins_from_steps : (text : List ℕ) (h : Header) (raster : List ℕ) → Steps text h raster → Begins text h raster
begins_from_steps text h raster s =
    let w = field_found (drop 2 text) h.width s.after_width s.width in
    let v = field_found s.after_width h.height s.after_height s.height in
    let m = maxval_found h.format s.after_height h.maxval s.after_maxval s.maxval s.limits.maxval_some s.limits.maxval_most in
    let l = end_found s.after_maxval raster s.last in
    let after : drop 2 text ≡ w.field ++ (v.field ++ (m.field ++ (l.last ∷ raster))) =
    w.bytes_are ∙ ap (λ x. w.field ++ x) (v.bytes_are ∙ ap (λ x. v.field ++ x) (m.bytes_are ∙ ap (λ x. m.field ++ x) l.bytes_are)) in
    record {
      head = magic h.format ++ (w.field ++ (v.field ++ (m.field ++ (l.last ∷ []))));
      text_is = format_found text h.format s.format ∙ (ap (λ x. magic h.format ++ x) after ∙ sym (regroup (magic h.format) w.field v.field m.field (l.last ∷ []) raster));
      is_header = record {
        width_field = w.field;
        height_field = v.field;
        maxval_field = m.field;
        last = l.last;
        bytes = refl;
        is_width = w.is_field;
        is_height = v.is_field;
        is_maxval = m.is_maxval;
        is_last = l.is_last;
        width_some = s.limits.width_some;
        width_most = s.limits.width_most;
        height_some = s.limits.height_some;
        height_most = s.limits.height_most;
      };
    }

pub begins_from_header_at : (text : List ℕ) (h : Header) (raster : List ℕ) → header_at text ≡ Some (h, raster) → Begins text h raster
begins_from_header_at text h raster e = begins_from_steps text h raster (steps_found text h raster e)

pub no_header_at : (text : List ℕ) → header_at text ≡ None → (h : Header) (raster : List ℕ) → Begins text h raster → ⊥
no_header_at text e h raster b = not_none _ (sym e ∙ header_at-begins text h raster b)

-- what a reader answers, from what reading the bytes gives
pub found_from_value : (r : Option (Header × Bor (List ℕ))) (text : List ℕ) → option_map (λ (f : Header × Bor (List ℕ)). (f.0, f.1.now)) r ≡ header_at text → IfSome r (λ f. Begins text f.0 f.1.now)
found_from_value None text e = tt
found_from_value (Some f) text e = begins_from_header_at text f.0 f.1.now (sym e)

pub none_from_value : (r : Option (Header × Bor (List ℕ))) (text : List ℕ) → option_map (λ (f : Header × Bor (List ℕ)). (f.0, f.1.now)) r ≡ header_at text → IfNone r ((h : Header) (raster : List ℕ) → Begins text h raster → ⊥)
none_from_value None text e = no_header_at text (sym e)
none_from_value (Some f) text e = tt

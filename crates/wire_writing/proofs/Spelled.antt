-- What is written of a request is a spelling, and what is refused has none.
use Rattle.std.proofs.Common.{◌≡◌, ℕ, zero, suc, ◌*◌, ◌/◌, ◌%◌, ◌^◌, ◌≤◌, ◌<◌, true, false, cond, List, [], ◌∷◌, ◌++◌, length, Ok, Option, Some, None, refl, sym, ap, subst, ◌∙◌, arith, inl, inr}
use Rattle.std.specs.Prelude.{nat_lt}
use Rattle.std.specs.Int.{w32, to_be_bytes}
use Rattle.std.proofs.lemmas.Bool.{cases_lt, le-ltb, lt-ltb, eq-eqb}
use Rattle.std.proofs.lemmas.Bool.Decides.{nat_tests}
use Rattle.std.proofs.lemmas.List.{append-nil}
use Rattle.wire_format.specs.declared.fault.Fault.TheVariants.{BadValue, TooLong}
use Rattle.wire_format.specs.Format.{map_format, places, byte_between, run, IsByteRun}
use Rattle.wire_format.specs.WordKinds.{between}
use Rattle.wire_format.specs.Writer.{WritesFormat, append_text, IsFirstPart, IsMadeOf, write_by, write_places, write_byte, write_run}
use Rattle.wire_format.proofs.Combining.{places-laws}
use Rattle.wire_format.proofs.Loops.{places_length}
use Rattle.wire_format.proofs.Writers.{after-writes, only-part, made-writes, places-writes, word-writes, between-number, byte-writes, run-writes}
use Rattle.sane_fixed.specs.declared.kind.Kind.{Kind}
use Rattle.sane_fixed.specs.declared.kind.Kind.TheVariants as kinds
use Rattle.wire_message.specs.declared.message.WireValue.{WireValue}
use Rattle.wire_message.specs.declared.message.WireValue.TheVariants as values
use Rattle.wire_message.specs.Kinds.{words_size}
use Rattle.wire_message.specs.Message.{from_to, word, up_to, text_format_of, string, words_value, bytes_value, value_of}
use Rattle.wire_writing.specs.RequestWriting.{write_any, write_up_to, write_text_of, write_string, write_resource, value_long, words_text, bytes_text, write_value}
use Rattle.wire_message.proofs.Messages.{word_laws}

-- ---- words

some_is : (s t : List ℕ) → Some s ≡ Some t → s ≡ t
some_is s t e = cc

pub any-writes : (n : ℕ) → WritesFormat word write_any n
any-writes n = word-writes (between 0 4294967295 BadValue) (λ n. n) (between-number 0 4294967295 BadValue (omega arith)) n

pub any_short : (n : ℕ) → write_any.long n ≡ false
any_short n = grind (arith, nat_tests)

pub up-writes : (high : ℕ) → high < 2 ^ 32 → (n : ℕ) → WritesFormat (up_to high) (write_up_to high) n
up-writes high small n = word-writes (between 0 high TooLong) (λ n. n) (between-number 0 high TooLong small) n

-- ---- strings

-- a string is long where it has more than 1,023 bytes
pub string_long : (text : List ℕ) → write_string.long text ≡ nat_lt 1023 (length text)
unfolding write_string
string_long text =
    let low : nat_lt (suc (length text)) 0 ≡ false = le-ltb (suc (length text)) 0 (omega arith) in
    elim (cases_lt 1023 (length text)) [
      | inl h ↦
          let t : nat_lt 1024 (suc (length text)) ≡ true = lt-ltb 1024 (suc (length text)) (omega (arith, h)) in
          let u : nat_lt 1023 (length text) ≡ true = lt-ltb 1023 (length text) h in
          rw (low, t, u) refl
      | inr h ↦
          let t : nat_lt 1024 (suc (length text)) ≡ false = le-ltb 1024 (suc (length text)) (omega (arith, h)) in
          let u : nat_lt 1023 (length text) ≡ false = le-ltb 1023 (length text) h in
          rw (low, t, u) refl
    ]

nul_made : (text : List ℕ) → IsMadeOf (λ (t : List ℕ). 0) (byte_between 0 0) (λ nul. text) text
nul_made text = record { again = refl; own = λ spelling a s e. (0 ∷ [], record { text_is = refl; fits = omega arith; from = omega arith; to = omega arith }) }

pub text-writes : (n : ℕ) (text : List ℕ) → WritesFormat (text_format_of (suc n)) (write_text_of (suc n)) text
unfolding text_format_of
text-writes n text =
    after-writes (λ (t : List ℕ). t) (run 1 n) (λ t. map_format (λ nul. t) (byte_between 0 0)) (write_run 1 n) (λ t. write_by (λ (u : List ℕ). 0) (write_byte 0 0)) text
    (run-writes 1 n text)
    (made-writes (λ (t : List ℕ). 0) (byte_between 0 0) (λ nul. text) (write_byte 0 0) text (byte-writes 0 0 (omega arith) 0) (nul_made text))
    (only-part (λ (t : List ℕ). t) (run 1 n) (λ t. map_format (λ nul. t) (byte_between 0 0)) text (λ a back s. sym s.behind.1))

pub text_length : (n : ℕ) (back text : List ℕ) → (text_format_of (suc n)).spells back text → length text ≡ n
unfolding text_format_of
text_length n back text s = ap length s.behind.behind.1 ∙ ap length s.in_front.is ∙ s.in_front.long

no_text : (back text : List ℕ) → (text_format_of 0).spells back text → text ≡ []
unfolding text_format_of
no_text back text s = s.1

-- the length that is written is that of the text with its NUL
string_part : (text : List ℕ) → IsFirstPart (λ (t : List ℕ). suc (length t)) (up_to 1024) text_format_of text
string_part text zero front back s t =
    let empty : text ≡ [] = no_text back text t in
    let one : (own : List ℕ) × (up_to 1024).spells own 1 = (to_be_bytes w32 1, (up-writes 1024 (omega arith) 1).spelled (to_be_bytes w32 1) refl) in
    let nul : (own : List ℕ) × (text_format_of 1).spells own [] = (0 ∷ [], (text-writes 0 []).spelled (0 ∷ []) refl) in
    rw empty (one, nul)
string_part text (suc n) front back s t =
    let long : suc n ≡ suc (length text) = ap suc (sym (text_length n back text t)) in
    ((front, subst (λ (m : ℕ). (up_to 1024).spells front m) long s), (back, subst (λ (m : ℕ). (text_format_of m).spells back text) long t))

pub string-writes : (text : List ℕ) → WritesFormat string write_string text
unfolding string write_string
string-writes text =
    after-writes (λ (t : List ℕ). suc (length t)) (up_to 1024) text_format_of (write_up_to 1024) write_text_of text (up-writes 1024 (omega arith) (suc (length text))) (text-writes (length text) text) (string_part text)

-- an empty resource is spelled without its NUL
pub resource-writes : (text : List ℕ) → WritesFormat string write_resource text
unfolding string text_format_of write_string
resource-writes [] = record {
  spelled = λ text e. record {
    first = 0;
    front = text;
    back = [];
    whole = sym (append-nil text);
    in_front = record { n = 0; text_is = sym (some_is (to_be_bytes w32 0) text e); fits = omega arith; is = refl };
    behind = (refl, refl);
  };
  past = λ e. let no = sym (string_long []) ∙ e in absurd (cc no);
  none = λ short e text s. absurd cc;
}
resource-writes (b ∷ bytes) = let w = string-writes (b ∷ bytes) in record { spelled = w.spelled; past = w.past; none = w.none }

-- ---- values

spelled_length : (n : ℕ) (text : List ℕ) (all : List ℕ) → (places n word).spells text all → length all ≡ n
spelled_length n text all s = places_length word n (text ++ []) [] all ((places-laws n word word_laws).reads.complete text [] all s)

size_judge : (n : ℕ) → n ≤ 1024 → words_size.judge (n * 4) ≡ Ok (n * 4)
size_judge n le = rw (le-ltb 4096 (n * 4) (omega arith), eq-eqb (n * 4 % 4) 0 (omega arith)) refl

pub exact : (low n : ℕ) → n < 2 ^ 32 → low ≡ n → (from_to low low).spells (to_be_bytes w32 n) n
exact low n fits is = record { n = n; text_is = refl; fits = fits; is = judge }
  where
    judge : (between low low BadValue).judge n ≡ Ok n
    judge = rw (le-ltb n low (omega (arith, is)), le-ltb low n (omega (arith, is))) refl

-- a front that is there, and what stands behind it
joined_front : (front : List ℕ) (back : Option (List ℕ)) (text : List ℕ) → append_text (Some front) back ≡ Some text → (t : List ℕ) × (back ≡ Some t) × (text ≡ front ++ t)
joined_front front None text e = absurd cc
joined_front front (Some t) text e = (t, refl, sym (some_is (front ++ t) text e))

joined_none : (front : List ℕ) (back : Option (List ℕ)) → append_text (Some front) back ≡ None → back ≡ None
joined_none front None e = refl
joined_none front (Some t) e = absurd cc

words_are : (v w : List ℕ) → values.Words v ≡ values.Words w → v ≡ w
words_are v w e = cc

bytes_are : (v w : List ℕ) → values.Bytes v ≡ values.Bytes w → v ≡ w
bytes_are v w e = cc

words_spelled : (all text : List ℕ) → length all ≤ 1024 → (write_places (length all) write_any).text all ≡ Some text
    → words_value.spells (to_be_bytes w32 (length all * 4) ++ (to_be_bytes w32 (length all) ++ text)) (values.Words all)
unfolding words_value
words_spelled all text le e = record {
  first = length all * 4;
  front = to_be_bytes w32 (length all * 4);
  back = to_be_bytes w32 (length all) ++ text;
  whole = refl;
  in_front = record { n = length all * 4; text_is = refl; fits = omega (arith, le); is = size_judge (length all) le };
  behind = record {
    first = length all;
    front = to_be_bytes w32 (length all);
    back = text;
    whole = refl;
    in_front = exact (length all * 4 / 4) (length all) (omega (arith, le)) (omega arith);
    behind = record { first = all; front = text; back = []; whole = sym (append-nil text); in_front = (places-writes (length all) word write_any any-writes all).spelled text e; behind = (refl, refl) };
  };
}

no_words : (all : List ℕ) → (write_places (length all) write_any).text all ≡ None → (write_places (length all) write_any).long all ≡ false → (text : List ℕ) → words_value.spells text (values.Words all) → ⊥
unfolding words_value
no_words all e short text s =
    let made_part = s.behind.behind in
    let is : all ≡ made_part.first = words_are all made_part.first made_part.behind.1 in
    let here : (places s.behind.first word).spells made_part.front all = subst (λ (w : List ℕ). (places s.behind.first word).spells made_part.front w) (sym is) made_part.in_front in
    let count : s.behind.first ≡ length all = sym (spelled_length s.behind.first made_part.front all here) in
    (places-writes (length all) word write_any any-writes all).none short e made_part.front (subst (λ (n : ℕ). (places n word).spells made_part.front all) count here)

no_bytes_as_words : (bytes text : List ℕ) → words_value.spells text (values.Bytes bytes) → ⊥
unfolding words_value
no_bytes_as_words bytes text s = let e = s.behind.behind.behind.1 in absurd (cc e)

all_short : (n : ℕ) (all : List ℕ) → (write_places n write_any).long all ≡ false
unfolding write_places
all_short zero all = refl
all_short (suc n) [] = refl
all_short (suc n) (a ∷ others) = rw (any_short a, all_short n others) refl

long_is_none : (all : List ℕ) → nat_lt 1024 (length all) ≡ true → (own : Option (List ℕ)) → cond (nat_lt 1024 (length all)) None own ≡ None
long_is_none all e own = rw e refl

words-writes : (value : WireValue) → WritesFormat words_value (record { long = value_long; text = words_text }) value
words-writes (values.Words all) = record {
  spelled = λ text e.
      elim (cases_lt 1024 (length all)) [
        | inl h ↦ let t : nat_lt 1024 (length all) ≡ true = lt-ltb 1024 (length all) h in let none_here = rw t at e in absurd (cc none_here)
        | inr le ↦
            let f : nat_lt 1024 (length all) ≡ false = le-ltb 1024 (length all) le in
            let some_here = rw f at e in
            let a = joined_front (to_be_bytes w32 (length all * 4)) _ text some_here in
            let b = joined_front (to_be_bytes w32 (length all)) _ a.0 a.1 in
            rw (a.2, b.2) (words_spelled all b.0 le b.1)
      ];
  past = λ e. long_is_none all e _;
  none = λ short e text s.
      let own = rw short at e in
      no_words all (joined_none (to_be_bytes w32 (length all)) _ (joined_none (to_be_bytes w32 (length all * 4)) _ own)) (all_short (length all) all) text s;
}
words-writes (values.Bytes bytes) = record {
  spelled = λ text e. absurd cc;
  past = λ e. refl;
  none = λ short e text s. no_bytes_as_words bytes text s;
}

bytes_spelled : (bytes text : List ℕ) → length bytes ≤ 1024 → (write_run 0 (length bytes)).text bytes ≡ Some text
    → bytes_value.spells (to_be_bytes w32 (length bytes) ++ (to_be_bytes w32 (length bytes) ++ text)) (values.Bytes bytes)
unfolding bytes_value
bytes_spelled bytes text le e = record {
  first = length bytes;
  front = to_be_bytes w32 (length bytes);
  back = to_be_bytes w32 (length bytes) ++ text;
  whole = refl;
  in_front = record { n = length bytes; text_is = refl; fits = omega (arith, le); is = judge };
  behind = record {
    first = length bytes;
    front = to_be_bytes w32 (length bytes);
    back = text;
    whole = refl;
    in_front = exact (length bytes) (length bytes) (omega (arith, le)) refl;
    behind = record { first = bytes; front = text; back = []; whole = sym (append-nil text); in_front = (run-writes 0 (length bytes) bytes).spelled text e; behind = (refl, refl) };
  };
}
  where
    judge : (between 0 1024 TooLong).judge (length bytes) ≡ Ok (length bytes)
    judge = rw (le-ltb (length bytes) 0 (omega arith), le-ltb 1024 (length bytes) le) refl

no_bytes : (bytes : List ℕ) → (write_run 0 (length bytes)).text bytes ≡ None → (text : List ℕ) → bytes_value.spells text (values.Bytes bytes) → ⊥
unfolding bytes_value
no_bytes bytes e text s =
    let made_part = s.behind.behind in
    let is : bytes ≡ made_part.first = bytes_are bytes made_part.first made_part.behind.1 in
    let here : IsByteRun 0 s.behind.first made_part.front bytes = subst (λ (w : List ℕ). IsByteRun 0 s.behind.first made_part.front w) (sym is) made_part.in_front in
    let count : s.behind.first ≡ length bytes = sym (ap length here.is ∙ here.long) in
    (run-writes 0 (length bytes) bytes).none refl e made_part.front (subst (λ (n : ℕ). IsByteRun 0 n made_part.front bytes) count here)

no_words_as_bytes : (all text : List ℕ) → bytes_value.spells text (values.Words all) → ⊥
unfolding bytes_value
no_words_as_bytes all text s = let e = s.behind.behind.behind.1 in absurd (cc e)

bytes-writes : (value : WireValue) → WritesFormat bytes_value (record { long = value_long; text = bytes_text }) value
bytes-writes (values.Bytes bytes) = record {
  spelled = λ text e.
      elim (cases_lt 1024 (length bytes)) [
        | inl h ↦ let t : nat_lt 1024 (length bytes) ≡ true = lt-ltb 1024 (length bytes) h in let none_here = rw t at e in absurd (cc none_here)
        | inr le ↦
            let f : nat_lt 1024 (length bytes) ≡ false = le-ltb 1024 (length bytes) le in
            let some_here = rw f at e in
            let a = joined_front (to_be_bytes w32 (length bytes)) _ text some_here in
            let b = joined_front (to_be_bytes w32 (length bytes)) _ a.0 a.1 in
            rw (a.2, b.2) (bytes_spelled bytes b.0 le b.1)
      ];
  past = λ e. long_is_none bytes e _;
  none = λ short e text s.
      let own = rw short at e in
      no_bytes bytes (joined_none (to_be_bytes w32 (length bytes)) _ (joined_none (to_be_bytes w32 (length bytes)) _ own)) text s;
}
bytes-writes (values.Words all) = record {
  spelled = λ text e. absurd cc;
  past = λ e. refl;
  none = λ short e text s. no_words_as_bytes all text s;
}

no-value-writes : (value : WireValue) → WritesFormat (value_of kinds.Button) (write_value kinds.Button) value
no-value-writes value = record { spelled = λ text e. absurd cc; past = λ e. refl; none = λ short e text s. s }

pub value-writes : (kind : Kind) (value : WireValue) → WritesFormat (value_of kind) (write_value kind) value
value-writes kinds.Bool value = let w = words-writes value in record { spelled = w.spelled; past = w.past; none = w.none }
value-writes kinds.Int value = let w = words-writes value in record { spelled = w.spelled; past = w.past; none = w.none }
value-writes kinds.Fixed value = let w = words-writes value in record { spelled = w.spelled; past = w.past; none = w.none }
value-writes kinds.String value = let w = bytes-writes value in record { spelled = w.spelled; past = w.past; none = w.none }
value-writes kinds.Button value = no-value-writes value
value-writes kinds.Group value = record { spelled = λ text e. absurd cc; past = λ e. refl; none = λ short e text s. s }

-- What the writers write is spelled, and they refuse exactly what is not.
use Rattle.std.proofs.Common.{◌≡◌, ℕ, zero, suc, ◌^◌, ◌≤◌, ◌<◌, Bool, true, false, cond, eqb, ◌&&◌, ◌||◌, List, [], ◌∷◌, ◌++◌, length, Result, Ok, Err, Option, Some, None, refl, sym, ap, subst, ◌∙◌, arith, ◌⊎◌, inl, inr}
use Rattle.std.specs.Prelude.{nat_lt}
use Rattle.std.specs.List.{list_all, AllByRecursion}
use Rattle.std.specs.Int.{w32, to_be_bytes}
use Rattle.std.proofs.lemmas.Bool.{cases_lt, ltb-true, le-ltb, lt-ltb, eqb-true, eq-eqb}
use Rattle.std.proofs.lemmas.Bool.Decides.{nat_tests}
use Rattle.std.proofs.lemmas.List.{append-nil}
use Rattle.wire_format.specs.declared.fault.Fault.{Fault}
use Rattle.wire_format.specs.declared.fault.Fault.TheVariants as faults
use Rattle.wire_format.specs.Format.{Format, IsBytes, pure_format, fail_format, after, map_format, places, byte_between, run, is_from}
use Rattle.wire_format.specs.WordKinds.{WordKind, word_of_kind, between}
use Rattle.wire_format.specs.Limit.{limited_format}
use Rattle.wire_format.specs.Writer.{Writer, WritesFormat, encoding_or_fault, text_or_fault, append_text, IsFirstPart, write_nothing, write_none, write_after, write_by, IsMadeOf, write_places, write_word, bytes_of_word, is_too_long, IsNumbering, write_byte, write_run, may_run, write_limited, exceeds}

-- each byte of a slice may stand in a run where it is not below the least
pub bytes_may_run : (least : ℕ) (bytes : List ℕ) → IsBytes bytes → list_all (may_run least) bytes ≡ list_all (is_from least) bytes
bytes_may_run least [] fits = refl
bytes_may_run least (b ∷ bytes) fits =
    let small : nat_lt b 256 ≡ true = lt-ltb b 256 (fits 0) in
    rw (small, bytes_may_run least bytes (λ i. fits (suc i))) (ap (λ (t : Bool). t && list_all (is_from least) bytes) (and_true (is_from least b)))
  where
    and_true : (a : Bool) → (a && true) ≡ a
    and_true true = refl
    and_true false = refl

-- ---- tests and texts

or_true : (a b : Bool) → (a || b) ≡ true → (a ≡ true) ⊎ (b ≡ true)
or_true true b e = inl refl
or_true false b e = inr e

or_false : (a b : Bool) → (a || b) ≡ false → (a ≡ false) × (b ≡ false)
or_false true b e = absurd cc
or_false false b e = (refl, e)

and_true : (a b : Bool) → (a && b) ≡ true → (a ≡ true) × (b ≡ true)
and_true true b e = (refl, e)
and_true false b e = absurd cc

some_is : (s t : List ℕ) → Some s ≡ Some t → s ≡ t
some_is s t e = cc

joined_some : (front back : Option (List ℕ)) (text : List ℕ) → append_text front back ≡ Some text → (s : List ℕ) × (t : List ℕ) × (front ≡ Some s) × (back ≡ Some t) × (text ≡ s ++ t)
joined_some None back text e = absurd cc
joined_some (Some s) None text e = absurd cc
joined_some (Some s) (Some t) text e = (s, t, refl, refl, sym (some_is (s ++ t) text e))

joined_none : (front back : Option (List ℕ)) → append_text front back ≡ None → (front ≡ None) ⊎ (back ≡ None)
joined_none None back e = inl refl
joined_none (Some s) None e = inr refl
joined_none (Some s) (Some t) e = absurd cc

none_joined : (front back : Option (List ℕ)) → (front ≡ None) ⊎ (back ≡ None) → append_text front back ≡ None
none_joined None back h = refl
none_joined (Some s) None h = refl
none_joined (Some s) (Some t) h = elim h [ inl e ↦ absurd cc | inr e ↦ absurd cc ]

-- ---- nothing

pub nothing-writes : {A : Type 0} (a : A) → WritesFormat (pure_format a) write_nothing a
nothing-writes a = record {
  spelled = λ text e. (sym (some_is [] text e), refl);
  past = λ e. absurd cc;
  none = λ short e text s. absurd cc;
}

pub none-writes : {A : Type 0} (fault : Fault) (a : A) → WritesFormat (fail_format fault) write_none a
none-writes fault a = record { spelled = λ text e. absurd cc; past = λ e. refl; none = λ short e text s. s }

-- ---- one after another

pub after-writes : {A B : Type 0} (part : B → A) (F : Format A) (G : A → Format B) (W : Writer A) (V : A → Writer B) (b : B) → WritesFormat F W (part b) → WritesFormat (G (part b)) (V (part b)) b → IsFirstPart part F G b
    → WritesFormat (after F G) (write_after part W V) b
after-writes part F G W V b f g own = record {
  spelled = λ text e.
      let j = joined_some (W.text (part b)) ((V (part b)).text b) text e in
      record { first = part b; front = j.0; back = j.1; whole = j.4; in_front = f.spelled j.0 j.2; behind = g.spelled j.1 j.3 };
  past = λ e. none_joined (W.text (part b)) ((V (part b)).text b) (elim (or_true (W.long (part b)) ((V (part b)).long b) e) [ inl h ↦ inl (f.past h) | inr h ↦ inr (g.past h) ]);
  none = λ short e text s.
      let fits = or_false (W.long (part b)) ((V (part b)).long b) short in
      let p = own s.first s.front s.back s.in_front s.behind in
      elim (joined_none (W.text (part b)) ((V (part b)).text b) e) [
        | inl h ↦ f.none fits.0 h p.0.0 p.0.1
        | inr h ↦ g.none fits.1 h p.1.0 p.1.1
      ];
}

-- where the value behind determines the first part, it is a value's own
pub only-part : {A B : Type 0} (part : B → A) (F : Format A) (G : A → Format B) (b : B) → ((a : A) (back : List ℕ) → (G a).spells back b → a ≡ part b) → IsFirstPart part F G b
only-part {A = A} part F G b only a front back s t =
    let is : a ≡ part b = only a back t in
    ((front, subst (λ (x : A). F.spells front x) is s), (back, subst (λ (x : A). (G x).spells back b) is t))

-- ---- a value that is made of another

pub made-writes : {A B : Type 0} (part : B → A) (F : Format A) (make : A → B) (W : Writer A) (b : B) → WritesFormat F W (part b) → IsMadeOf part F make b → WritesFormat (map_format make F) (write_by part W) b
made-writes part F make W b f own = record {
  spelled = λ text e. record { first = part b; front = text; back = []; whole = sym (append-nil text); in_front = f.spelled text e; behind = (refl, sym own.again) };
  past = f.past;
  none = λ short e text s. let p = own.own s.front s.first s.in_front s.behind.1 in f.none short e p.0 p.1;
}

-- ---- a value at each place

uncons : {A : Type 0} (x y : A) (a b : List A) → x ∷ a ≡ y ∷ b → (x ≡ y) × (a ≡ b)
uncons x y a b e = (cc, cc)

pub places-writes : {A : Type 0} (n : ℕ) (F : Format A) (W : Writer A) → ((a : A) → WritesFormat F W a) → (all : List A) → WritesFormat (places n F) (write_places n W) all
unfolding places write_places
places-writes zero F W f [] = record { spelled = λ text e. (sym (some_is [] text e), refl); past = λ e. absurd cc; none = λ short e text s. absurd cc }
places-writes zero F W f (a ∷ others) = record { spelled = λ text e. absurd cc; past = λ e. refl; none = λ short e text s. let is = s.1 in absurd (cc is) }
places-writes (suc n) F W f [] = record {
  spelled = λ text e. absurd cc;
  past = λ e. absurd cc;
  none = λ short e text s. let is = s.behind.behind.1 in absurd (cc is);
}
places-writes {A = A} (suc n) F W f (a ∷ others) =
    let rest = places-writes n F W f others in
    record {
      spelled = λ text e.
          let j = joined_some (W.text a) ((write_places n W).text others) text e in
          record {
            first = a;
            front = j.0;
            back = j.1;
            whole = j.4;
            in_front = (f a).spelled j.0 j.2;
            behind = record { first = others; front = j.1; back = []; whole = sym (append-nil j.1); in_front = rest.spelled j.1 j.3; behind = (refl, refl) };
          };
      past = λ e. none_joined (W.text a) ((write_places n W).text others)
          (elim (or_true (W.long a) ((write_places n W).long others) e) [ inl h ↦ inl ((f a).past h) | inr h ↦ inr (rest.past h) ]);
      none = λ short e text s.
          let fits = or_false (W.long a) ((write_places n W).long others) short in
          let is = uncons a s.first others s.behind.first s.behind.behind.1 in
          elim (joined_none (W.text a) ((write_places n W).text others) e) [
            | inl h ↦ (f a).none fits.0 h s.front (subst (λ (x : A). F.spells s.front x) (sym is.0) s.in_front)
            | inr h ↦ rest.none fits.1 h s.behind.front (subst (λ (x : List A). (places n F).spells s.behind.front x) (sym is.1) s.behind.in_front)
          ];
    }

-- ---- a word

text_some : {A : Type 0} (n : ℕ) (r : Result A Fault) (text : List ℕ) → bytes_of_word n r ≡ Some text → (b : A) × (r ≡ Ok b) × (text ≡ to_be_bytes w32 n)
text_some n (Ok b) text e = (b, refl, sym (some_is (to_be_bytes w32 n) text e))
text_some n (Err fault) text e = absurd cc

long_none : {A : Type 0} (n : ℕ) (r : Result A Fault) → is_too_long r ≡ true → bytes_of_word n r ≡ None
long_none n (Ok b) e = absurd cc
long_none n (Err fault) e = refl

text_none : {A : Type 0} (n : ℕ) (r : Result A Fault) (a : A) → bytes_of_word n r ≡ None → r ≡ Ok a → ⊥
text_none n (Ok b) a e h = absurd cc
text_none n (Err fault) a e h = absurd cc

pub word-writes : {A : Type 0} (K : WordKind A) (number : A → ℕ) → IsNumbering K number → (a : A) → WritesFormat (word_of_kind K) (write_word K number) a
word-writes {A = A} K number k a = record {
  spelled = λ text e.
      let t = text_some (number a) (K.judge (number a)) text e in
      let b = k.back a t.0 t.1 in
      record { n = number a; text_is = t.2; fits = b.0; is = subst (λ (x : A). K.judge (number a) ≡ Ok x) b.1 t.1 };
  past = λ e. long_none (number a) (K.judge (number a)) e;
  none = λ short e text s. text_none (number a) (K.judge (number a)) a e (k.all s.n a s.fits s.is);
}

between_back : (low high : ℕ) (fault : Fault) → high < 2 ^ 32 → (a b : ℕ) → (between low high fault).judge a ≡ Ok b → (a < 2 ^ 32) × (b ≡ a)
between_back low high fault small a b e = (grind (arith, nat_tests), grind (arith, nat_tests))

between_all : (low high : ℕ) (fault : Fault) (n a : ℕ) → n < 2 ^ 32 → (between low high fault).judge n ≡ Ok a → (between low high fault).judge a ≡ Ok a
between_all low high fault n a fits e = grind (arith, nat_tests)

pub between-number : (low high : ℕ) (fault : Fault) → high < 2 ^ 32 → IsNumbering (between low high fault) (λ n. n)
between-number low high fault small = record { back = between_back low high fault small; all = between_all low high fault }

-- ---- a byte, and a run

byte_some : (low high b : ℕ) (text : List ℕ) → (write_byte low high).text b ≡ Some text → (low ≤ b) × (b ≤ high) × (text ≡ b ∷ [])
byte_some low high b text e =
    elim (cases_lt b low) [
      | inl h ↦ let t = lt-ltb b low h in let no = rw t at e in absurd (cc no)
      | inr from ↦ elim (cases_lt high b) [
        | inl h ↦ let t = lt-ltb high b h in let f = le-ltb b low from in let no = rw (f, t) at e in absurd (cc no)
        | inr to ↦ let t = le-ltb high b to in let f = le-ltb b low from in let is = rw (f, t) at e in (from, to, sym (some_is (b ∷ []) text is))
      ]
    ]

byte_none : (low high b : ℕ) → (write_byte low high).text b ≡ None → low ≤ b → b ≤ high → ⊥
byte_none low high b e from to = let f = le-ltb b low from in let t = le-ltb high b to in let no = rw (f, t) at e in absurd (cc no)

pub byte-writes : (low high : ℕ) → high < 256 → (b : ℕ) → WritesFormat (byte_between low high) (write_byte low high) b
byte-writes low high small b = record {
  spelled = λ text e. let t = byte_some low high b text e in record { text_is = t.2; fits = omega (arith, t.1); from = t.0; to = t.1 };
  past = λ e. absurd cc;
  none = λ short e text s. byte_none low high b e s.from s.to;
}

runs_true : (least : ℕ) (bytes : List ℕ) → list_all (may_run least) bytes ≡ true → AllByRecursion (λ b. least ≤ b) bytes × IsBytes bytes
runs_true least [] e = (tt, λ i. omega arith)
runs_true least (b ∷ bytes) e =
    let p = and_true (may_run least b) (list_all (may_run least) bytes) e in
    let q = and_true (is_from least b) (nat_lt b 256) p.0 in
    let rest = runs_true least bytes p.1 in
    ((is_least q.0, rest.0), cons_bytes (ltb-true b 256 q.1) rest.1)
  where
    is_least : is_from least b ≡ true → least ≤ b
    is_least h = elim (cases_lt b least) [ inl lt ↦ let t = lt-ltb b least lt in let no = rw t at h in absurd (cc no) | inr le ↦ le ]

    cons_bytes : b < 256 → IsBytes bytes → IsBytes (b ∷ bytes)
    cons_bytes fits h zero = fits
    cons_bytes fits h (suc i) = h i

true_runs : (least : ℕ) (bytes : List ℕ) → AllByRecursion (λ b. least ≤ b) bytes → IsBytes bytes → list_all (may_run least) bytes ≡ true
true_runs least [] from fits = refl
true_runs least (b ∷ bytes) from fits =
    let low : nat_lt b least ≡ false = le-ltb b least from.0 in
    let small : nat_lt b 256 ≡ true = lt-ltb b 256 (fits 0) in
    rw (low, small, true_runs least bytes from.1 (λ i. fits (suc i))) refl

choose_some : (t : Bool) (bytes text : List ℕ) → cond t (Some bytes) None ≡ Some text → (t ≡ true) × (text ≡ bytes)
choose_some true bytes text e = (refl, sym (some_is bytes text e))
choose_some false bytes text e = absurd cc

choose_none : (t : Bool) (bytes : List ℕ) → cond t (Some bytes) None ≡ None → t ≡ false
choose_none true bytes e = absurd cc
choose_none false bytes e = refl

pub run-writes : (least count : ℕ) (bytes : List ℕ) → WritesFormat (run least count) (write_run least count) bytes
run-writes least count bytes = record {
  spelled = λ text e.
      let c = choose_some (list_all (may_run least) bytes && eqb (length bytes) count) bytes text e in
      let b = and_true (list_all (may_run least) bytes) (eqb (length bytes) count) c.0 in
      let r = runs_true least bytes b.0 in
      let long : length bytes ≡ count = eqb-true (length bytes) count b.1 in
      record { is = sym c.1; fits = subst IsBytes (sym c.1) r.1; long = ap length c.1 ∙ long; from = subst (AllByRecursion (λ b. least ≤ b)) (sym c.1) r.0 };
  past = λ e. absurd cc;
  none = λ short e text s.
      let c = choose_none (list_all (may_run least) bytes && eqb (length bytes) count) bytes e in
      let good : list_all (may_run least) bytes ≡ true = ap (list_all (may_run least)) s.is ∙ true_runs least text s.from s.fits in
      let long : eqb (length bytes) count ≡ true = eq-eqb (length bytes) count (ap length s.is ∙ s.long) in
      let no = rw (good, long) at c in
      absurd (cc no);
}

-- ---- at most so many bytes

over_some : (n : ℕ) (own : Option (List ℕ)) (text : List ℕ) → cond (exceeds n own) None own ≡ Some text → (own ≡ Some text) × (length text ≤ n)
over_some n None text e = absurd cc
over_some n (Some own) text e =
    elim (cases_lt n (length own)) [
      | inl h ↦ let t = lt-ltb n (length own) h in let no = rw t at e in absurd (cc no)
      | inr le ↦ let f = le-ltb n (length own) le in let is = rw f at e in (is, omega (arith, le, ap length (some_is own text is)))
    ]

over_none : (n : ℕ) (own : Option (List ℕ)) → exceeds n own ≡ false → cond (exceeds n own) None own ≡ None → own ≡ None
over_none n None o e = refl
over_none n (Some own) o e = let no = rw o at e in absurd (cc no)

over_past : (n : ℕ) (own : Option (List ℕ)) → (own ≡ None) ⊎ (exceeds n own ≡ true) → cond (exceeds n own) None own ≡ None
over_past n None h = refl
over_past n (Some own) h = elim h [ inl e ↦ absurd cc | inr e ↦ rw e refl ]

pub limited-writes : {A : Type 0} (n : ℕ) (F : Format A) (W : Writer A) (a : A) → WritesFormat F W a → WritesFormat (limited_format n F) (write_limited n W) a
unfolding limited_format
limited-writes n F W a f = record {
  spelled = λ text e. let o = over_some n (W.text a) text e in (o.1, f.spelled text o.0);
  past = λ e. over_past n (W.text a) (elim (or_true (W.long a) (exceeds n (W.text a)) e) [ inl h ↦ inl (f.past h) | inr h ↦ inr h ]);
  none = λ short e text s. let b = or_false (W.long a) (exceeds n (W.text a)) short in f.none b.0 (over_none n (W.text a) b.1 e) text s.1;
}

-- ---- what is answered

answer_ok : (long : Bool) (own : Option (List ℕ)) (text : List ℕ) → cond long (Err faults.TooLong) (text_or_fault own) ≡ Ok text → own ≡ Some text
answer_ok true own text e = absurd cc
answer_ok false None text e = absurd cc
answer_ok false (Some own) text e = ap (λ (t : List ℕ). Some t) cc

answer_long : (long : Bool) (own : Option (List ℕ)) → cond long (Err faults.TooLong) (text_or_fault own) ≡ Err faults.TooLong → long ≡ true
answer_long true own e = refl
answer_long false None e = absurd cc
answer_long false (Some own) e = absurd cc

answer_bad : (long : Bool) (own : Option (List ℕ)) (fault : Fault) → cond long (Err faults.TooLong) (text_or_fault own) ≡ Err fault → (fault ≡ faults.TooLong → ⊥) → (fault ≡ faults.BadValue) × (long ≡ false) × (own ≡ None)
answer_bad true own fault e other = absurd (other cc)
answer_bad false None fault e other = (cc, refl, refl)
answer_bad false (Some own) fault e other = absurd cc

pub answers_spelling : {A : Type 0} (F : Format A) (W : Writer A) (a : A) → WritesFormat F W a → (text : List ℕ) → encoding_or_fault W a ≡ Ok text → F.spells text a
answers_spelling F W a f text e = f.spelled text (answer_ok (W.long a) (W.text a) text e)

pub answers_too_long : {A : Type 0} (W : Writer A) (a : A) → encoding_or_fault W a ≡ Err faults.TooLong → W.long a ≡ true
answers_too_long W a e = answer_long (W.long a) (W.text a) e

pub too_long_answers : {A : Type 0} (W : Writer A) (a : A) → W.long a ≡ true → encoding_or_fault W a ≡ Err faults.TooLong
too_long_answers W a e = rw e refl

pub answers_bad : {A : Type 0} (F : Format A) (W : Writer A) (a : A) → WritesFormat F W a → (fault : Fault) → encoding_or_fault W a ≡ Err fault → (fault ≡ faults.TooLong → ⊥)
    → (fault ≡ faults.BadValue) × ((text : List ℕ) → F.spells text a → ⊥)
answers_bad F W a f fault e other = let b = answer_bad (W.long a) (W.text a) fault e other in (b.0, f.none b.1 b.2)

-- where the answer of a writer with a limit is BadValue, no limit is passed, and nothing spells the value, of any length
pub limited_bad_value : {A : Type 0} (n : ℕ) (F : Format A) (W : Writer A) (a : A) → WritesFormat F W a → encoding_or_fault (write_limited n W) a ≡ Err faults.BadValue
    → ((write_limited n W).long a ≡ false) × ((text : List ℕ) → F.spells text a → ⊥)
limited_bad_value n F W a f e =
    let b = answer_bad ((write_limited n W).long a) ((write_limited n W).text a) faults.BadValue e (λ x. absurd (cc x)) in
    let o = or_false (W.long a) (exceeds n (W.text a)) b.1 in
    (b.1, f.none o.0 (over_none n (W.text a) o.1 b.2))

pub answers_no_code : {A : Type 0} (W : Writer A) (a : A) → encoding_or_fault W a ≡ Err faults.BadCode → ⊥
answers_no_code W a e = let b = answer_bad (W.long a) (W.text a) faults.BadCode e (λ x. absurd (cc x)) in absurd (cc (b.0))

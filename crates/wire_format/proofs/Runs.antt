-- The laws of a byte and of a run of bytes.
use Rattle.std.proofs.Common.{◌≡◌, ℕ, zero, suc, ◌+◌, ◌-◌, ◌≤◌, ◌<◌, Bool, true, false, cond, not, ◌&&◌, ◌||◌, List, [], ◌∷◌, ◌++◌, length, take, drop, Result, Ok, Err, refl, sym, ap, subst, ◌∙◌, append_assoc, arith, ◌⊎◌, inl, inr}
use Rattle.std.specs.Prelude.{nat_lt}
use Rattle.std.specs.List.{list_all, AllByRecursion}
use Rattle.std.proofs.lemmas.Bool.{cases_lt, ltb-false, ltb-true, le-ltb, lt-ltb}
use Rattle.std.proofs.lemmas.List.{take-append-drop, take_all, take_at, drop_at, length-append, length-take}
use Rattle.std.proofs.Math.Seq.{take-append-add}
use Rattle.wire_format.specs.declared.fault.Fault.{Fault}
use Rattle.wire_format.specs.declared.fault.Fault.TheVariants.{BadValue}
use Rattle.wire_format.specs.declared.fault.MissingBytes.{MissingBytes}
use Rattle.wire_format.specs.declared.fault.ReadStop.{ReadStop}
use Rattle.wire_format.specs.declared.fault.ReadStop.TheVariants.{More, Bad}
use Rattle.wire_format.specs.Format.{IsBytes, one_byte, IsByteBetween, IsNoByteBetween, byte_between, byte_at, IsByteRun, IsNoByteRun, is_from, run_at, run}
use Rattle.wire_format.specs.Lawful.{SpellsFront, BeginsSpelling, HasSpoiledFront, IsStillWaiting, still_missing, Lawful}
use Rattle.wire_format.proofs.Combining.{IsBytes-front, IsBytes-append, read_as, ok_value, ok_rest, failed, err_is}
use Rattle.wire_format.proofs.Words.{one_waits}

-- a test of both ends
or_false : (a b : Bool) → (a || b) ≡ false → (a ≡ false) × (b ≡ false)
or_false true b e = absurd cc
or_false false b e = (refl, e)

or_true : (a b : Bool) → (a || b) ≡ true → (a ≡ true) ⊎ (b ≡ true)
or_true true b e = inl refl
or_true false b e = inr e

both_false : (a b : Bool) → a ≡ false → b ≡ false → (a || b) ≡ false
both_false a b p q = rw (p, q) refl

one_true : (a b : Bool) → (a ≡ true) ⊎ (b ≡ true) → (a || b) ≡ true
one_true true b h = refl
one_true false b h = elim h [ inl e ↦ absurd cc | inr e ↦ e ]

guard_ok : {A : Type 0} (b : Bool) (fault : Fault) (x y : A × List ℕ) → cond b (failed (A × List ℕ) (Bad fault)) (read_as x.0 x.1) ≡ read_as y.0 y.1 → (b ≡ false) × (read_as x.0 x.1 ≡ read_as y.0 y.1)
guard_ok true fault x y e = absurd cc
guard_ok false fault x y e = (refl, e)

guard_err : {A : Type 0} (b : Bool) (fault : Fault) (x : A × List ℕ) (stop : ReadStop) → cond b (failed (A × List ℕ) (Bad fault)) (read_as x.0 x.1) ≡ failed (A × List ℕ) stop → (b ≡ true) × (stop ≡ Bad fault)
guard_err {A = A} true fault x stop e = (refl, sym (err_is {B = A × List ℕ} (Bad fault) stop e))
guard_err false fault x stop e = absurd cc

-- ---- a byte

byte_sound : (low high : ℕ) (bytes rest : List ℕ) (b : ℕ) → IsBytes bytes → byte_at low high bytes ≡ Ok (b, rest) → SpellsFront (byte_between low high) bytes rest b
byte_sound low high [] rest b fits e = absurd cc
byte_sound low high (x ∷ bytes) rest b fits e =
    let g = guard_ok (nat_lt x low || nat_lt high x) BadValue (x, bytes) (b, rest) e in
    let inside = or_false _ _ g.0 in
    let same : x ≡ b = ok_value x b bytes rest g.1 in
    let behind : bytes ≡ rest = ok_rest x b bytes rest g.1 in
    let here : x < 256 = fits 0 in
    let from : low ≤ x = ltb-false _ _ inside.0 in
    let to : x ≤ high = ltb-false _ _ inside.1 in
    record { text = b ∷ []; whole = rw (same, behind) refl; spelled = record { text_is = refl; fits = omega arith; from = omega arith; to = omega arith } }

byte_complete : (low high : ℕ) (text rest : List ℕ) (b : ℕ) → IsByteBetween low high text b → byte_at low high (text ++ rest) ≡ Ok (b, rest)
byte_complete low high text rest b s =
    let inside : (nat_lt b low || nat_lt high b) ≡ false = both_false _ _ (le-ltb _ _ s.from) (le-ltb _ _ s.to) in
    ap (λ (t : List ℕ). byte_at low high (t ++ rest)) s.text_is ∙ rw inside refl

-- where more is wanted there was no byte
byte_wanted : (low high : ℕ) (bytes : List ℕ) (wanted : MissingBytes) → byte_at low high bytes ≡ Err (More wanted) → (bytes ≡ []) × (wanted ≡ one_byte)
byte_wanted low high [] wanted e = (refl, cc)
byte_wanted low high (x ∷ bytes) wanted e =
    let g = guard_err (nat_lt x low || nat_lt high x) BadValue (x, bytes) (More wanted) e in
    absurd (cc (g.1))

byte_some : (low high : ℕ) → low ≤ high → high < 256 → BeginsSpelling (byte_between low high) []
byte_some low high ordered small = record { behind = low ∷ []; value = low; spelled = record { text_is = refl; fits = omega arith; from = omega arith; to = ordered } }

byte_wants : (low high : ℕ) (bytes behind : List ℕ) (wanted : MissingBytes) (b : ℕ) → byte_at low high bytes ≡ Err (More wanted) → IsByteBetween low high (bytes ++ behind) b → wanted.count ≤ length behind
byte_wants low high bytes behind wanted b e s =
    let w = byte_wanted low high bytes wanted e in
    let count : wanted.count ≡ 1 = ap (λ (v : MissingBytes). v.count) w.1 in
    let long : length (bytes ++ behind) ≡ 1 = ap length s.text_is in
    let none : length bytes ≡ 0 = ap length w.0 in
    omega (arith, count, long, none, length-append bytes behind)

byte_bad : (low high : ℕ) (bytes : List ℕ) (fault : Fault) → IsBytes bytes → byte_at low high bytes ≡ Err (Bad fault) → HasSpoiledFront (byte_between low high) bytes fault
byte_bad low high [] fault fits e = absurd cc
byte_bad low high (x ∷ bytes) fault fits e =
    let g = guard_err (nat_lt x low || nat_lt high x) BadValue (x, bytes) (Bad fault) e in
    let given : fault ≡ BadValue = cc (g.1) in
    let out : (x < low) ⊎ (high < x) = elim (or_true _ _ g.0) [ inl h ↦ inl (ltb-true _ _ h) | inr h ↦ inr (ltb-true _ _ h) ] in
    record { front = x ∷ []; rest = bytes; whole = refl; spoiled = record { given_is = given; byte = x; text_is = refl; outside = out } }

byte_spoiled : (low high : ℕ) (text rest : List ℕ) (fault : Fault) → IsBytes (text ++ rest) → IsNoByteBetween low high text fault → byte_at low high (text ++ rest) ≡ Err (Bad fault)
byte_spoiled low high text rest fault fits s =
    let out : (nat_lt s.byte low || nat_lt high s.byte) ≡ true = one_true _ _ (elim s.outside [ inl h ↦ inl (lt-ltb s.byte low h) | inr h ↦ inr (lt-ltb high s.byte h) ]) in
    ap (λ (t : List ℕ). byte_at low high (t ++ rest)) s.text_is ∙ rw (out, s.given_is) refl

IsBytes-one : (b : ℕ) → b < 256 → IsBytes (b ∷ [])
IsBytes-one b fits zero = fits
IsBytes-one b fits (suc i) = omega arith

pub byte-laws : (low high : ℕ) → low ≤ high → high < 256 → Lawful (byte_between low high)
byte-laws low high ordered small = record {
  reads = record {
    sound = byte_sound low high;
    complete = byte_complete low high;
    more = λ bytes wanted fits e. subst (BeginsSpelling (byte_between low high)) (sym (byte_wanted low high bytes wanted e).0) (byte_some low high ordered small);
    wants = λ bytes behind wanted b fits e s. byte_wants low high bytes behind wanted b e s;
    waits = λ bytes more wanted fits e still. one_waits {A = ℕ} (byte_at low high) bytes more wanted e (byte_wanted low high bytes wanted e).1 still;
    bad = byte_bad low high;
    spoiled = byte_spoiled low high;
    bytes = λ text b s. subst IsBytes (sym s.text_is) (IsBytes-one b s.fits);
  };
  some = byte_some low high ordered small;
}

-- ---- a run

from_true : (least b : ℕ) → is_from least b ≡ true → least ≤ b
from_true least b e = elim (cases_lt b least) [ inl h ↦ let t = lt-ltb b least h in absurd (cc (e, t)) | inr h ↦ h ]

true_from : (least b : ℕ) → least ≤ b → is_from least b ≡ true
true_from least b h = rw (le-ltb b least h) refl

pub all_true : (least : ℕ) (bytes : List ℕ) → list_all (is_from least) bytes ≡ true → AllByRecursion (λ b. least ≤ b) bytes
all_true least [] e = tt
all_true least (b ∷ bytes) e =
    let p = and_true (is_from least b) (list_all (is_from least) bytes) e in
    (from_true least b p.0, all_true least bytes p.1)
  where
    and_true : (a b : Bool) → (a && b) ≡ true → (a ≡ true) × (b ≡ true)
    and_true true b e = (refl, e)
    and_true false b e = absurd cc

true_all : (least : ℕ) (bytes : List ℕ) → AllByRecursion (λ b. least ≤ b) bytes → list_all (is_from least) bytes ≡ true
true_all least [] h = refl
true_all least (b ∷ bytes) h = rw (true_from least b h.0, true_all least bytes h.1) refl

-- the first byte below the least
record FirstBelow (least : ℕ) (bytes : List ℕ) : Type 0 where
  pub front : List ℕ
  pub byte : ℕ
  pub rest : List ℕ
  pub whole : bytes ≡ front ++ byte ∷ rest
  pub from : AllByRecursion (λ b. least ≤ b) front
  pub below : byte < least

first_below : (least : ℕ) (bytes : List ℕ) → list_all (is_from least) bytes ≡ false → FirstBelow least bytes
first_below least [] e = absurd cc
first_below least (b ∷ bytes) e =
    elim (cases_lt b least) [
      | inl h ↦ record { front = []; byte = b; rest = bytes; whole = refl; from = tt; below = h }
      | inr h ↦
          let behind : list_all (is_from least) bytes ≡ false = rw (true_from least b h) at e in
          let p = first_below least bytes behind in
          record { front = b ∷ p.front; byte = p.byte; rest = p.rest; whole = ap (λ (t : List ℕ). b ∷ t) p.whole; from = (h, p.from); below = p.below }
    ]

-- the cases of reading a run: a byte is below the least, bytes are missing, or the run stands
abbrev cases : {A : Type 0} → Bool → Bool → MissingBytes → A → List ℕ → Result (A × List ℕ) ReadStop
cases all missing wanted value rest = cond (not all) (Err (Bad BadValue)) (cond missing (Err (More wanted)) (Ok (value, rest)))

case_ok : {A : Type 0} (all missing : Bool) (wanted : MissingBytes) (value v : A) (rest r : List ℕ) → cases all missing wanted value rest ≡ read_as v r → (all ≡ true) × (missing ≡ false) × (value ≡ v) × (rest ≡ r)
case_ok false missing wanted value v rest r e = absurd cc
case_ok true true wanted value v rest r e = absurd cc
case_ok true false wanted value v rest r e = (refl, refl, ok_value value v rest r e, ok_rest value v rest r e)

case_more : {A : Type 0} (all missing : Bool) (wanted w : MissingBytes) (value : A) (rest : List ℕ) → cases all missing wanted value rest ≡ failed (A × List ℕ) (More w) → (all ≡ true) × (missing ≡ true) × (w ≡ wanted)
case_more false missing wanted w value rest e = absurd cc
case_more true true wanted w value rest e = (refl, refl, cc)
case_more true false wanted w value rest e = absurd cc

case_bad : {A : Type 0} (all missing : Bool) (wanted : MissingBytes) (fault : Fault) (value : A) (rest : List ℕ) → cases all missing wanted value rest ≡ failed (A × List ℕ) (Bad fault) → (all ≡ false) × (fault ≡ BadValue)
case_bad false missing wanted fault value rest e = (refl, cc)
case_bad true true wanted fault value rest e = absurd cc
case_bad true false wanted fault value rest e = absurd cc

IsBytes-take : (n : ℕ) (bytes : List ℕ) → IsBytes bytes → IsBytes (take n bytes)
IsBytes-take n bytes h = IsBytes-front (take n bytes) (drop n bytes) (subst IsBytes (sym (take-append-drop n bytes)) h)

run_sound : (least count : ℕ) (bytes rest value : List ℕ) → IsBytes bytes → run_at least count bytes ≡ Ok (value, rest) → SpellsFront (run least count) bytes rest value
run_sound least count bytes rest value fits e =
    let c = case_ok (list_all (is_from least) (take count bytes)) (nat_lt (length bytes) count) (record { count = count - length bytes; least = least }) (take count bytes) value (drop count bytes) rest e in
    let le : count ≤ length bytes = ltb-false _ _ c.1 in
    record {
      text = take count bytes;
      whole = sym (take-append-drop count bytes) ∙ ap (λ (t : List ℕ). take count bytes ++ t) c.3;
      spelled = record { is = sym c.2; fits = IsBytes-take count bytes fits; long = omega (arith, le, length-take count bytes); from = all_true least (take count bytes) c.0 };
    }

run_complete : (least count : ℕ) (text rest value : List ℕ) → IsByteRun least count text value → run_at least count (text ++ rest) ≡ Ok (value, rest)
run_complete least count text rest value s =
    let front : take count (text ++ rest) ≡ text = take_at text rest count s.long in
    let behind : drop count (text ++ rest) ≡ rest = drop_at text rest count s.long in
    let enough : nat_lt (length (text ++ rest)) count ≡ false = le-ltb _ _ (omega (arith, s.long, length-append text rest)) in
    rw (front, behind, enough, true_all least text s.from, s.is) refl

zeros : ℕ → ℕ → List ℕ
zeros zero least = []
zeros (suc n) least = least ∷ zeros n least

zeros_length : (n least : ℕ) → length (zeros n least) ≡ n
unfolding zeros
zeros_length zero least = refl
zeros_length (suc n) least = ap suc (zeros_length n least)

zeros_from : (n least : ℕ) → AllByRecursion (λ b. least ≤ b) (zeros n least)
unfolding zeros
zeros_from zero least = tt
zeros_from (suc n) least = (omega arith, zeros_from n least)

zeros_bytes : (n least : ℕ) → least < 256 → IsBytes (zeros n least)
unfolding zeros
zeros_bytes zero least fits i = omega arith
zeros_bytes (suc n) least fits zero = fits
zeros_bytes (suc n) least fits (suc i) = zeros_bytes n least fits i

all-append : (least : ℕ) (front back : List ℕ) → AllByRecursion (λ b. least ≤ b) front → AllByRecursion (λ b. least ≤ b) back → AllByRecursion (λ b. least ≤ b) (front ++ back)
all-append least [] back f b = b
all-append least (x ∷ front) back f b = (f.0, all-append least front back f.1 b)

-- bytes that are too few, and none below the least
run_begun : (least count : ℕ) (bytes : List ℕ) (wanted : MissingBytes) → run_at least count bytes ≡ Err (More wanted) → AllByRecursion (λ b. least ≤ b) bytes × (length bytes < count) × (wanted ≡ record { count = count - length bytes; least = least })
run_begun least count bytes wanted e =
    let c = case_more (list_all (is_from least) (take count bytes)) (nat_lt (length bytes) count) (record { count = count - length bytes; least = least }) wanted (take count bytes) (drop count bytes) e in
    let lt : length bytes < count = ltb-true _ _ c.1 in
    let all : take count bytes ≡ bytes = take_all count bytes (omega (arith, lt)) in
    (subst (AllByRecursion (λ b. least ≤ b)) all (all_true least (take count bytes) c.0), lt, c.2)

run_more : (least count : ℕ) → least < 256 → (bytes : List ℕ) (wanted : MissingBytes) → IsBytes bytes → run_at least count bytes ≡ Err (More wanted) → BeginsSpelling (run least count) bytes
run_more least count small bytes wanted fits e =
    let b = run_begun least count bytes wanted e in
    let k = count - length bytes in
    record {
      behind = zeros (count - length bytes) least;
      value = bytes ++ zeros (count - length bytes) least;
      spelled = record {
        is = refl;
        fits = IsBytes-append bytes (zeros (count - length bytes) least) fits (zeros_bytes (count - length bytes) least small);
        long = omega (arith, b.1, length-append bytes (zeros (count - length bytes) least), zeros_length (count - length bytes) least);
        from = all-append least bytes (zeros (count - length bytes) least) b.0 (zeros_from (count - length bytes) least);
      };
    }

run_wants : (least count : ℕ) (bytes behind : List ℕ) (wanted : MissingBytes) (value : List ℕ) → run_at least count bytes ≡ Err (More wanted) → IsByteRun least count (bytes ++ behind) value → wanted.count ≤ length behind
run_wants least count bytes behind wanted value e s =
    let b = run_begun least count bytes wanted e in
    let is : wanted.count ≡ count - length bytes = ap (λ (v : MissingBytes). v.count) b.2 in
    omega (arith, b.1, is, s.long, length-append bytes behind)

run_waits : (least count : ℕ) (bytes more : List ℕ) (wanted : MissingBytes) → run_at least count bytes ≡ Err (More wanted) → IsStillWaiting wanted more → run_at least count (bytes ++ more) ≡ Err (More (still_missing wanted (length more)))
run_waits least count bytes more wanted e still =
    let b = run_begun least count bytes wanted e in
    let is : wanted.count ≡ count - length bytes = ap (λ (v : MissingBytes). v.count) b.2 in
    let low : wanted.least ≡ least = ap (λ (v : MissingBytes). v.least) b.2 in
    let long = length-append bytes more in
    let fewer : length (bytes ++ more) < count = omega (arith, b.1, is, long, still.fewer) in
    let all : take count (bytes ++ more) ≡ bytes ++ more = take_all count (bytes ++ more) (omega (arith, fewer)) in
    let from : AllByRecursion (λ b. least ≤ b) more = subst (λ (l : ℕ). AllByRecursion (λ b. l ≤ b) more) low still.from in
    let good : list_all (is_from least) (bytes ++ more) ≡ true = true_all least (bytes ++ more) (all-append least bytes more b.0 from) in
    let missing : nat_lt (length (bytes ++ more)) count ≡ true = lt-ltb _ _ fewer in
    let left : count - length (bytes ++ more) ≡ wanted.count - length more = omega (arith, is, long) in
    rw (all, good, missing, left, low) refl

run_bad : (least count : ℕ) (bytes : List ℕ) (fault : Fault) → run_at least count bytes ≡ Err (Bad fault) → HasSpoiledFront (run least count) bytes fault
run_bad least count bytes fault e =
    let c = case_bad (list_all (is_from least) (take count bytes)) (nat_lt (length bytes) count) (record { count = count - length bytes; least = least }) fault (take count bytes) (drop count bytes) e in
    let p = first_below least (take count bytes) c.0 in
    let long : length (take count bytes) ≡ length p.front + suc (length p.rest) = ap length p.whole ∙ length-append p.front (p.byte ∷ p.rest) in
    record {
      front = p.front ++ p.byte ∷ [];
      rest = p.rest ++ drop count bytes;
      whole = sym (take-append-drop count bytes) ∙ ap (λ (t : List ℕ). t ++ drop count bytes) p.whole ∙ simp append_assoc;
      spoiled = record { given_is = c.1; front = p.front; byte = p.byte; text_is = refl; inside = omega (arith, long, length-take count bytes); from = p.from; below = p.below };
    }

spoiled_all : (least : ℕ) (front rest : List ℕ) (byte : ℕ) → byte < least → list_all (is_from least) (front ++ byte ∷ rest) ≡ false
spoiled_all least [] rest byte below = rw (lt-ltb byte least below) refl
spoiled_all least (b ∷ front) rest byte below = rw (spoiled_all least front rest byte below) (no_and (is_from least b))
  where
    no_and : (a : Bool) → (a && false) ≡ false
    no_and true = refl
    no_and false = refl

run_spoiled : (least count : ℕ) (text rest : List ℕ) (fault : Fault) → IsNoByteRun least count text fault → run_at least count (text ++ rest) ≡ Err (Bad fault)
run_spoiled least count text rest fault s =
    let shown : text ++ rest ≡ (s.front ++ s.byte ∷ []) ++ rest = ap (λ (t : List ℕ). t ++ rest) s.text_is in
    let k : count ≡ length (s.front ++ s.byte ∷ []) + (count - length (s.front ++ s.byte ∷ [])) = omega (arith, s.inside, length-append s.front (s.byte ∷ [])) in
    let front : take count (text ++ rest) ≡ (s.front ++ s.byte ∷ []) ++ take (count - length (s.front ++ s.byte ∷ [])) rest =
    ap (take count) shown ∙ ap (λ (n : ℕ). take n ((s.front ++ s.byte ∷ []) ++ rest)) k ∙ take-append-add (s.front ++ s.byte ∷ []) rest (count - length (s.front ++ s.byte ∷ [])) in
    let tail = take (count - length (s.front ++ s.byte ∷ [])) rest in
    let regrouped : take count (text ++ rest) ≡ s.front ++ s.byte ∷ take (count - length (s.front ++ s.byte ∷ [])) rest = front ∙ simp append_assoc in
    let no : list_all (is_from least) (take count (text ++ rest)) ≡ false = ap (list_all (is_from least)) regrouped ∙ spoiled_all least s.front (take (count - length (s.front ++ s.byte ∷ [])) rest) s.byte s.below in
    rw (no, s.given_is) refl

run_some : (least count : ℕ) → least < 256 → BeginsSpelling (run least count) []
run_some least count small = record {
  behind = zeros count least;
  value = zeros count least;
  spelled = record { is = refl; fits = zeros_bytes count least small; long = zeros_length count least; from = zeros_from count least };
}

pub run-laws : (least count : ℕ) → least < 256 → Lawful (run least count)
run-laws least count small = record {
  reads = record {
    sound = run_sound least count;
    complete = run_complete least count;
    more = run_more least count small;
    wants = λ bytes behind wanted value fits e s. run_wants least count bytes behind wanted value e s;
    waits = λ bytes more wanted fits e still. run_waits least count bytes more wanted e still;
    bad = λ bytes fault fits e. run_bad least count bytes fault e;
    spoiled = λ text rest fault fits s. run_spoiled least count text rest fault s;
    bytes = λ text value s. s.fits;
  };
  some = run_some least count small;
}

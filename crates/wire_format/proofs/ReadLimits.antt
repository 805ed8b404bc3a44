-- What reading at most so many bytes says.
use Rattle.std.proofs.Common.{◌≡◌, ℕ, suc, ◌+◌, ◌-◌, ◌≤◌, ◌<◌, Bool, true, false, List, [], ◌∷◌, ◌++◌, length, take, drop, Result, Ok, Err, refl, sym, ap, subst, ◌∙◌, append_assoc, arith, ◌⊎◌, inl, inr}
use Rattle.std.specs.Prelude.{nat_lt}
use Rattle.std.proofs.lemmas.Bool.{cases_lt, ltb-false, ltb-true, le-ltb}
use Rattle.std.proofs.lemmas.List.{append-nil, take-append-drop, take_all, length-append, length-take, drop-append-le}
use Rattle.std.proofs.Math.Seq.{take-append-add}
use Rattle.wire_format.specs.declared.fault.Fault.{Fault}
use Rattle.wire_format.specs.declared.fault.Fault.TheVariants.{TooLong}
use Rattle.wire_format.specs.declared.fault.MissingBytes.{MissingBytes}
use Rattle.wire_format.specs.declared.fault.ReadStop.{ReadStop}
use Rattle.wire_format.specs.declared.fault.ReadStop.TheVariants.{More, Bad}
use Rattle.wire_format.specs.declared.fault.ReadError.{ReadError}
use Rattle.wire_format.specs.declared.fault.ReadError.TheVariants as errors
use Rattle.wire_format.specs.Format.{Format, ReadingFails, IsBytes}
use Rattle.wire_format.specs.Lawful.{SpellsFront, IsStillWaiting, still_missing, ReaderIsExact}
use Rattle.wire_format.specs.Limit.{past_limit_error, on_rest, limited_format, NeedsMore, NoneStarts, BeginNone, IsFirstFault}
use Rattle.wire_format.proofs.Combining.{IsBytes-front, stays, read_as, failed, ok_value, ok_rest}

rest_cases : {A : Type 0} (behind : List ℕ) (past : Bool) (r : Result (A × List ℕ) ReadStop) (x : A × List ℕ) → on_rest behind past r ≡ read_as x.0 x.1
    → (rest : List ℕ) × (r ≡ read_as x.0 rest) × (x.1 ≡ rest ++ behind)
rest_cases behind past (Ok y) x e =
    (y.1, ap (λ a. read_as a y.1) (ok_value y.0 x.0 (y.1 ++ behind) x.1 e), sym (ok_rest y.0 x.0 (y.1 ++ behind) x.1 e))
rest_cases behind past (Err stop) x e = absurd cc

more_cases : {A : Type 0} (behind : List ℕ) (past : Bool) (r : Result (A × List ℕ) ReadStop) (wanted : MissingBytes) → on_rest behind past r ≡ failed (A × List ℕ) (More wanted)
    → (past ≡ false) × (r ≡ failed (A × List ℕ) (More wanted))
more_cases behind past (Ok y) wanted e = absurd cc
more_cases behind true (Err (More w)) wanted e = absurd cc
more_cases behind false (Err (More w)) wanted e = (refl, e)
more_cases behind past (Err (Bad fault)) wanted e = absurd cc

bad_cases : {A : Type 0} (behind : List ℕ) (past : Bool) (r : Result (A × List ℕ) ReadStop) (fault : Fault) → on_rest behind past r ≡ failed (A × List ℕ) (Bad fault)
    → (r ≡ failed (A × List ℕ) (Bad fault)) ⊎ ((wanted : MissingBytes) × (fault ≡ TooLong) × (past ≡ true) × (r ≡ failed (A × List ℕ) (More wanted)))
bad_cases behind past (Ok y) fault e = absurd cc
bad_cases behind true (Err (More w)) fault e = inr (w, cc, refl, refl)
bad_cases behind false (Err (More w)) fault e = absurd cc
bad_cases behind past (Err (Bad g)) fault e = inl e

IsBytes-take : (n : ℕ) (bytes : List ℕ) → IsBytes bytes → IsBytes (take n bytes)
IsBytes-take n bytes h = IsBytes-front (take n bytes) (drop n bytes) (subst IsBytes (sym (take-append-drop n bytes)) h)

-- what is read is a spelling, and the rest stands behind it
pub limited_sound : {A : Type 0} (n : ℕ) (F : Format A) → ReaderIsExact F → (bytes rest : List ℕ) (a : A) → IsBytes bytes → (limited_format n F).read bytes ≡ Ok (a, rest) → SpellsFront (limited_format n F) bytes rest a
unfolding limited_format
limited_sound n F f bytes rest a fits e =
    let c = rest_cases (drop n bytes) (nat_lt n (length bytes)) (F.read (take n bytes)) (a, rest) e in
    let p = f.sound (take n bytes) c.0 a (IsBytes-take n bytes fits) c.1 in
    record {
      text = p.text;
      whole = sym (take-append-drop n bytes) ∙ ap (λ (t : List ℕ). t ++ drop n bytes) p.whole ∙ append_assoc p.text c.0 (drop n bytes) ∙ ap (λ (t : List ℕ). p.text ++ t) (sym c.2);
      spelled = (omega (arith, ap length p.whole, length-append p.text c.0, length-take n bytes), p.spelled);
    }

some_length : {A : Type 0} (l : List A) → (l ≡ [] → ⊥) → 0 < length l
some_length [] h = absurd (h refl)
some_length (x ∷ l) h = omega arith

-- more bytes are wanted where they are no more than the limit, and begin a spelling
pub limited_more : {A : Type 0} (n : ℕ) (F : Format A) → ReaderIsExact F → (bytes : List ℕ) (wanted : MissingBytes) → IsBytes bytes → (limited_format n F).read bytes ≡ Err (More wanted) → NeedsMore n F bytes
unfolding limited_format
limited_more {A = A} n F f bytes wanted fits e =
    let c = more_cases (drop n bytes) (nat_lt n (length bytes)) (F.read (take n bytes)) wanted e in
    let le : length bytes ≤ n = ltb-false _ _ c.0 in
    let all : take n bytes ≡ bytes = take_all n bytes le in
    let read = ap F.read (sym all) ∙ c.1 in
    let p = f.more bytes wanted fits read in
    record {
      within = le;
      behind = p.behind;
      value = p.value;
      spelled = p.spelled;
      proper = some_length p.behind (λ none.
          let whole : (bytes ++ p.behind) ++ [] ≡ bytes = append-nil (bytes ++ p.behind) ∙ ap (λ (t : List ℕ). bytes ++ t) none ∙ append-nil bytes in
          let no : failed (A × List ℕ) (More wanted) ≡ read_as p.value [] = sym read ∙ ap F.read (sym whole) ∙ f.complete (bytes ++ p.behind) [] p.value p.spelled in
          absurd (cc no));
    }

-- and the same stands until as many have come, within the limit
pub limited_waits : {A : Type 0} (n : ℕ) (F : Format A) → ReaderIsExact F → (bytes more : List ℕ) (wanted : MissingBytes) → IsBytes (bytes ++ more) → (limited_format n F).read bytes ≡ Err (More wanted) → IsStillWaiting wanted more
    → length (bytes ++ more) ≤ n → (limited_format n F).read (bytes ++ more) ≡ Err (More (still_missing wanted (length more)))
unfolding limited_format
limited_waits {A = A} n F f bytes more wanted fits e still within =
    let c = more_cases (drop n bytes) (nat_lt n (length bytes)) (F.read (take n bytes)) wanted e in
    let read = ap F.read (sym (take_all n bytes (ltb-false _ _ c.0))) ∙ c.1 in
    let here = f.waits bytes more wanted fits read still in
    let all : take n (bytes ++ more) ≡ bytes ++ more = take_all n (bytes ++ more) within in
    let not_past : nat_lt n (length (bytes ++ more)) ≡ false = le-ltb _ _ within in
    rw (all, here, not_past) refl

-- the front of a text with a spelling at its front is read
front_read : {A : Type 0} (n : ℕ) (F : Format A) → ReaderIsExact F → (bytes text rest : List ℕ) (a : A) → bytes ≡ text ++ rest → length text ≤ n → F.spells text a → F.read (take n bytes) ≡ Ok (a, take (n - length text) rest)
front_read n F f bytes text rest a e le s =
    let k : n ≡ length text + (n - length text) = omega arith in
    let shown : take n bytes ≡ text ++ take (n - length text) rest = ap (λ (t : List ℕ). take n t) e ∙ ap (λ (m : ℕ). take m (text ++ rest)) k ∙ take-append-add text rest (n - length text) in
    ap F.read shown ∙ f.complete text (take (n - length text) rest) a s

-- a fault comes where no front is a spelling, and the bytes are past the limit or begin no spelling
pub limited_bad : {A : Type 0} (n : ℕ) (F : Format A) → ReaderIsExact F → (bytes : List ℕ) (fault : Fault) → (limited_format n F).read bytes ≡ Err (Bad fault)
    → NoneStarts (limited_format n F) bytes × ((n < length bytes) ⊎ BeginNone F bytes)
unfolding limited_format
limited_bad {A = A} n F f bytes fault e =
    elim (bad_cases (drop n bytes) (nat_lt n (length bytes)) (F.read (take n bytes)) fault e) [
      | inl h ↦ (
        λ text rest a w s.
            let r = front_read n F f bytes text rest a w s.0 s.1 in
            let no : failed (A × List ℕ) (Bad fault) ≡ read_as a (take (n - length text) rest) = sym h ∙ r in
            absurd (cc no),
        elim (cases_lt n (length bytes)) [
          | inl lt ↦ inl lt
          | inr le ↦ inr (λ behind a s.
              let all : take n bytes ≡ bytes = take_all n bytes le in
              let r = stays F f bytes behind fault (f.bytes (bytes ++ behind) a s) (ap F.read (sym all) ∙ h) in
              let t = ap F.read (append-nil (bytes ++ behind)) in
              let no : failed (A × List ℕ) (Bad fault) ≡ read_as a [] = sym r ∙ sym t ∙ f.complete (bytes ++ behind) [] a s in
              absurd (cc no))
        ],
      )
      | inr h ↦ (
        λ text rest a w s.
            let r = front_read n F f bytes text rest a w s.0 s.1 in
            let no : failed (A × List ℕ) (More h.0) ≡ read_as a (take (n - length text) rest) = sym h.3 ∙ r in
            absurd (cc no),
        inl (ltb-true _ _ h.2),
      )
    ]

-- and it is that of the first word or byte at which no spelling stands
pub limited_first : {A : Type 0} (n : ℕ) (F : Format A) → ReaderIsExact F → (bytes : List ℕ) (fault : Fault) → IsBytes bytes → (limited_format n F).read bytes ≡ Err (Bad fault) → IsFirstFault n F bytes fault
unfolding limited_format
limited_first n F f bytes fault fits e =
    elim (bad_cases (drop n bytes) (nat_lt n (length bytes)) (F.read (take n bytes)) fault e) [
      | inl h ↦ inl (f.bad (take n bytes) fault (IsBytes-take n bytes fits) h)
      | inr h ↦ inr (h.1, ltb-true _ _ h.2, f.more (take n bytes) h.0 (IsBytes-take n bytes fits) h.3)
    ]

-- what is spelled within the limit is read, whatever follows
pub limited_complete : {A : Type 0} (n : ℕ) (F : Format A) → ReaderIsExact F → (text rest : List ℕ) (a : A) → (limited_format n F).spells text a → (limited_format n F).read (text ++ rest) ≡ Ok (a, rest)
unfolding limited_format
limited_complete {A = A} n F f text rest a s =
    let r = front_read n F f (text ++ rest) text rest a refl s.0 s.1 in
    let k : n ≡ length text + (n - length text) = omega (arith, s.0) in
    let behind : drop n (text ++ rest) ≡ drop (n - length text) rest = ap (λ (m : ℕ). drop m (text ++ rest)) k ∙ drop_behind text rest (n - length text) in
    rw (r, behind) (ap (λ (t : List ℕ). read_as a t) (take-append-drop (n - length text) rest))
  where
    drop_behind : (text rest : List ℕ) (m : ℕ) → drop (length text + m) (text ++ rest) ≡ drop m rest
    drop_behind [] rest m = let e : 0 + m ≡ m = omega arith in rw e refl
    drop_behind (b ∷ text) rest m = let e : suc (length text) + m ≡ suc (length text + m) = omega arith in rw e (drop_behind text rest m)

-- ---- steps of a decoder

pub limited_fails : {A : Type 0} (n : ℕ) (F : Format A) (bytes : List ℕ) (e : ReadError) → ReadingFails e (F.read (take n bytes)) → ReadingFails (past_limit_error (nat_lt n (length bytes)) e) ((limited_format n F).read bytes)
unfolding limited_format
limited_fails n F bytes errors.Memory h = tt
limited_fails n F bytes (errors.Stop stop) h = rw h refl

-- a front of the bytes and the rest of it
pub taken : {A : Type 0} (F : Format A) → ReaderIsExact F → (bytes rest : List ℕ) (a : A) → IsBytes bytes → F.read bytes ≡ Ok (a, rest) → (text : List ℕ) × (bytes ≡ text ++ rest)
taken F f bytes rest a fits e = let p = f.sound bytes rest a fits e in (p.text, p.whole)

pub first_ok : {A : Type 0} (n : ℕ) (F : Format A) (bytes window rest : List ℕ) (a : A) (used : ℕ) → window ≡ take n bytes → F.read window ≡ Ok (a, rest) → used ≤ length window → drop used window ≡ rest
    → (limited_format n F).read bytes ≡ Ok (a, drop used bytes)
unfolding limited_format
first_ok n F bytes window rest a used w e le d =
    let whole : bytes ≡ window ++ drop n bytes = sym (take-append-drop n bytes) ∙ ap (λ (t : List ℕ). t ++ drop n bytes) (sym w) in
    let behind : drop used bytes ≡ rest ++ drop n bytes = ap (drop used) whole ∙ drop-append-le used window (drop n bytes) le ∙ ap (λ (t : List ℕ). t ++ drop n bytes) d in
    let read : F.read (take n bytes) ≡ Ok (a, rest) = ap F.read (sym w) ∙ e in
    rw (read, behind) refl

pub first_used : (n : ℕ) (bytes window : List ℕ) (used : ℕ) → window ≡ take n bytes → used ≤ length window → used ≤ length bytes
first_used n bytes window used w le = omega (arith, ap length w, length-take n bytes)

pub first_fails : {A : Type 0} (n : ℕ) (F : Format A) (bytes window : List ℕ) (e result : ReadError) → window ≡ take n bytes → ReadingFails e (F.read window) → result ≡ past_limit_error (nat_lt n (length bytes)) e → ReadingFails result ((limited_format n F).read bytes)
first_fails n F bytes window e result w h r =
    rw r (limited_fails n F bytes e (subst (λ (t : List ℕ). ReadingFails e (F.read t)) w h))

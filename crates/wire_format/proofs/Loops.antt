-- Values at places, read one after another as a loop does.
use Rattle.std.proofs.Common.{◌≡◌, ℕ, zero, suc, ◌-◌, ◌+◌, ◌≤◌, ◌<◌, Bool, true, false, ◌||◌, List, [], ◌∷◌, ◌++◌, length, get_or, drop, Result, Ok, Err, Option, Some, None, refl, sym, ap, ◌∙◌, append_assoc, arith}
use Rattle.std.proofs.lemmas.List.{append-nil, drop_more, drop_all}
use Rattle.wire_format.specs.declared.fault.ReadStop.{ReadStop}
use Rattle.wire_format.specs.declared.fault.ReadError.{ReadError}
use Rattle.wire_format.specs.declared.fault.ReadError.TheVariants as errors
use Rattle.wire_format.specs.Format.{◌>>=◌, ReadingFails, Format, places}
use Rattle.wire_format.specs.declared.fault.WriteError.{WriteError}
use Rattle.wire_format.specs.declared.fault.WriteError.TheVariants as write_errors
use Rattle.wire_format.proofs.Combining.{ok_value}
use Rattle.wire_format.specs.Writer.{Writer, append_text, behind, PutsBehind, write_places}

-- what was read before, and what is still read
abbrev pub with_front : {A : Type 0} → List A → Result (List A × List ℕ) ReadStop → Result (List A × List ℕ) ReadStop
with_front front read = read >>= λ x. Ok (front ++ x.0, x.1)

regroup : {A : Type 0} (front : List A) (a : A) (read : Result (List A × List ℕ) ReadStop) → with_front front (read >>= λ x. Ok (a ∷ x.0, x.1)) ≡ with_front (front ++ a ∷ []) read
regroup {A = A} front a (Ok x) = ap (λ (ns : List A). Ok (ns, x.1)) (simp append_assoc)
regroup front a (Err f) = refl

-- a value was read
pub goes_on : {A : Type 0} (F : Format A) (front : List A) (count i : ℕ) (bytes : List ℕ) (a : A) (rest : List ℕ) (total : Result (List A × List ℕ) ReadStop) → i < count → F.read bytes ≡ Ok (a, rest)
    → with_front front ((places (count - i) F).read bytes) ≡ total → with_front (front ++ a ∷ []) ((places (count - (i + 1)) F).read rest) ≡ total
unfolding places
goes_on F front count i bytes a rest total lt h so_far =
    let k : count - i ≡ suc (count - (i + 1)) = omega arith in
    let one : with_front front ((places (count - i) F).read bytes) ≡ with_front (front ++ a ∷ []) ((places (count - (i + 1)) F).read rest) = rw (k, h) (regroup front a ((places (count - (i + 1)) F).read rest)) in
    sym one ∙ so_far

-- there was none
pub ends : {A : Type 0} (F : Format A) (e : ReadError) (front : List A) (count i : ℕ) (bytes : List ℕ) (total : Result (List A × List ℕ) ReadStop) → i < count → ReadingFails e (F.read bytes)
    → with_front front ((places (count - i) F).read bytes) ≡ total → ReadingFails e total
unfolding places
ends F errors.Memory front count i bytes total lt h so_far = tt
ends F (errors.Stop s) front count i bytes total lt h so_far =
    let k : count - i ≡ suc (count - (i + 1)) = omega arith in
    let one : with_front front ((places (count - i) F).read bytes) ≡ Err s = rw (k, h) refl in
    sym so_far ∙ one

-- all were read
pub is_done : {A : Type 0} (F : Format A) (front : List A) (count i : ℕ) (bytes : List ℕ) (total : Result (List A × List ℕ) ReadStop) → count ≤ i → with_front front ((places (count - i) F).read bytes) ≡ total → total ≡ Ok (front, bytes)
unfolding places
is_done {A = A} F front count i bytes total le so_far =
    let k : count - i ≡ 0 = omega arith in
    let one : with_front front ((places (count - i) F).read bytes) ≡ Ok (front ++ [], bytes) = rw k refl in
    sym so_far ∙ one ∙ ap (λ (l : List A). Ok (l, bytes)) (append-nil front)

-- nothing was read before
pub no_front : {A : Type 0} (read : Result (List A × List ℕ) ReadStop) → with_front [] read ≡ read
no_front (Ok x) = refl
no_front (Err s) = refl

-- ---- values written one after another

-- the texts of values, one behind the other
abbrev pub texts : {A : Type 0} → Writer A → List A → Option (List ℕ)
texts W [] = Some []
texts W (a ∷ others) = append_text (W.text a) (texts W others)

pub texts_are : {A : Type 0} (W : Writer A) (all : List A) → (write_places (length all) W).text all ≡ texts W all
unfolding write_places
texts_are W [] = refl
texts_are W (a ∷ others) = ap (append_text (W.text a)) (texts_are W others)

behind_joined : (old : List ℕ) (first next : Option (List ℕ)) (new : List ℕ) → behind old first ≡ Some new → behind old (append_text first next) ≡ behind new next
behind_joined old None next new e = absurd cc
behind_joined old (Some s) None new e = refl
behind_joined old (Some s) (Some t) new e = let is : old ++ s ≡ new = cc in ap (λ (l : List ℕ). Some l) (sym (append_assoc old s t) ∙ ap (λ (l : List ℕ). l ++ t) is)

-- a value was written
pub puts_more : {A : Type 0} (W : Writer A) (all : List A) (i : ℕ) (a : A) (old new : List ℕ) (total : Option (List ℕ)) → i < length all → get_or all i a ≡ a → behind old (W.text a) ≡ Some new
    → behind old (texts W (drop i all)) ≡ total → behind new (texts W (drop (i + 1) all)) ≡ total
puts_more {A = A} W all i a old new total lt is put so_far =
    sym (behind_joined old (W.text a) (texts W (drop (i + 1) all)) new put)
    ∙ ap (λ (x : A). behind old (append_text (W.text x) (texts W (drop (i + 1) all)))) (sym is)
    ∙ ap (λ (l : List A). behind old (texts W l)) (sym (drop_more all i a lt))
    ∙ so_far

-- a value has no text
pub puts_none : {A : Type 0} (W : Writer A) (all : List A) (i : ℕ) (a : A) (old : List ℕ) (total : Option (List ℕ)) → i < length all → get_or all i a ≡ a → W.text a ≡ None
    → behind old (texts W (drop i all)) ≡ total → total ≡ None
puts_none {A = A} W all i a old total lt is none so_far =
    sym so_far
    ∙ ap (λ (l : List A). behind old (texts W l)) (drop_more all i a lt)
    ∙ ap (λ (x : A). behind old (append_text (W.text x) (texts W (drop (i + 1) all)))) is
    ∙ rw none refl

-- all are written
pub puts_all : {A : Type 0} (W : Writer A) (all : List A) (i : ℕ) (old : List ℕ) (total : Option (List ℕ)) → length all ≤ i → behind old (texts W (drop i all)) ≡ total → total ≡ Some old
puts_all {A = A} W all i old total le so_far =
    sym so_far ∙ ap (λ (l : List A). behind old (texts W l)) (drop_all i all le) ∙ ap (λ (l : List ℕ). Some l) (append-nil old)

behind_none : (old : List ℕ) (text : Option (List ℕ)) → behind old text ≡ None → text ≡ None
behind_none old None e = refl
behind_none old (Some text) e = absurd cc

-- an error of one value is the error of all
pub puts_error : {A : Type 0} (W : Writer A) (all : List A) (i : ℕ) (a : A) (old first new : List ℕ) (e : WriteError) → i < length all → get_or all i a ≡ a
    → PutsBehind {U = Unit {0}} (Err e) old new (W.text a) → behind old (texts W (drop i all)) ≡ behind first (texts W all) → PutsBehind {U = Unit {0}} (Err e) first new (texts W all)
puts_error W all i a old first new write_errors.Memory lt is put so_far = tt
puts_error W all i a old first new write_errors.Unspelled lt is put so_far =
    behind_none first (texts W all) (puts_none W all i a old (behind first (texts W all)) lt is put so_far)

-- ---- whether a value is long

abbrev pub any_long : {A : Type 0} → Writer A → List A → Bool
any_long W [] = false
any_long W (a ∷ others) = W.long a || any_long W others

pub any_long_is : {A : Type 0} (W : Writer A) (all : List A) → (write_places (length all) W).long all ≡ any_long W all
unfolding write_places
any_long_is W [] = refl
any_long_is W (a ∷ others) = ap (λ (b : Bool). W.long a || b) (any_long_is W others)

pub long_more : {A : Type 0} (W : Writer A) (all : List A) (i : ℕ) (a : A) (total : Bool) → i < length all → get_or all i a ≡ a → W.long a ≡ false → any_long W (drop i all) ≡ total → any_long W (drop (i + 1) all) ≡ total
long_more {A = A} W all i a total lt is short so_far =
    let here : any_long W (drop i all) ≡ (W.long a || any_long W (drop (i + 1) all)) = ap (any_long W) (drop_more all i a lt) ∙ ap (λ (x : A). W.long x || any_long W (drop (i + 1) all)) is in
    let not_long : (W.long a || any_long W (drop (i + 1) all)) ≡ any_long W (drop (i + 1) all) = rw short refl in
    sym not_long ∙ sym here ∙ so_far

pub long_here : {A : Type 0} (W : Writer A) (all : List A) (i : ℕ) (a : A) (total : Bool) → i < length all → get_or all i a ≡ a → W.long a ≡ true → any_long W (drop i all) ≡ total → true ≡ total
long_here {A = A} W all i a total lt is long so_far =
    let here : any_long W (drop i all) ≡ (W.long a || any_long W (drop (i + 1) all)) = ap (any_long W) (drop_more all i a lt) ∙ ap (λ (x : A). W.long x || any_long W (drop (i + 1) all)) is in
    let is_long : (W.long a || any_long W (drop (i + 1) all)) ≡ true = rw long refl in
    sym is_long ∙ sym here ∙ so_far

pub long_none : {A : Type 0} (W : Writer A) (all : List A) (i : ℕ) (total : Bool) → length all ≤ i → any_long W (drop i all) ≡ total → false ≡ total
long_none W all i total le so_far = sym (ap (any_long W) (drop_all i all le)) ∙ so_far

-- ---- as many values as places

abbrev pushed : {A : Type 0} → A → List A × List ℕ → Result (List A × List ℕ) ReadStop
pushed a x = Ok (a ∷ x.0, x.1)

push_cases : {A : Type 0} (a : A) (r : Result (List A × List ℕ) ReadStop) (all : List A) (rest : List ℕ) → (r >>= pushed a) ≡ Ok (all, rest) → (others : List A) × (left : List ℕ) × (r ≡ Ok (others, left)) × (length all ≡ suc (length others))
push_cases {A = A} a (Ok x) all rest e = (x.0, x.1, refl, ap length (sym (ok_value (a ∷ x.0) all x.1 rest e)))
push_cases a (Err s) all rest e = absurd cc

value_cases : {A B : Type 0} (r : Result (A × List ℕ) ReadStop) (f : A × List ℕ → Result B ReadStop) (y : B) → (r >>= f) ≡ Ok y → (x : A × List ℕ) × (f x ≡ Ok y)
value_cases (Ok x) f y e = (x, e)
value_cases (Err s) f y e = absurd cc

pub places_length : {A : Type 0} (F : Format A) (n : ℕ) (bytes rest : List ℕ) (all : List A) → (places n F).read bytes ≡ Ok (all, rest) → length all ≡ n
unfolding places
places_length {A = A} F zero bytes rest all e = ap length (sym (ok_value [] all bytes rest e))
places_length {A = A} F (suc n) bytes rest all e =
    let v = value_cases (F.read bytes) (λ x. (places n F).read x.1 >>= pushed x.0) (all, rest) e in
    let p = push_cases v.0.0 ((places n F).read v.0.1) all rest v.1 in
    p.3 ∙ ap suc (places_length F n v.0.1 p.1 p.0 p.2)

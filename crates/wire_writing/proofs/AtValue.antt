-- Writing at one value: whether it passes a limit, and its text.
use Rattle.std.proofs.Common.{◌≡◌, ℕ, suc, ◌≤◌, ◌<◌, ◌^◌, Bool, true, false, cond, ◌||◌, List, [], ◌∷◌, ◌++◌, length, Option, Some, None, Ok, refl, sym, ap, subst, arith, append_assoc, inl, inr}
use Rattle.std.specs.Prelude.{nat_lt}
use Rattle.std.specs.Int.{w32, to_be_bytes}
use Rattle.std.proofs.lemmas.Bool.{cases_lt, lt-ltb, le-ltb}
use Rattle.std.proofs.lemmas.List.{append-nil}
use Rattle.std.proofs.lemmas.Bool.Decides.{nat_tests}
use Rattle.wire_format.specs.declared.fault.Fault.TheVariants.{BadValue}
use Rattle.wire_format.specs.Format.{Format, after, map_format, places}
use Rattle.wire_format.specs.WordKinds.{between}
use Rattle.wire_format.specs.Writer.{Writer, WritesFormat, append_text, write_places}
use Rattle.wire_format.proofs.Writers.{after-writes, only-part, places-writes}
use Rattle.wire_message.specs.Message.{from_to, word}

abbrev pub At : {A : Type 0} → Format A → Bool → Option (List ℕ) → A → Type 0
At {A = A} F long text a = WritesFormat F (record { long = λ (b : A). long; text = λ (b : A). text }) a

pub at_value : {A : Type 0} (F : Format A) (W : Writer A) (a : A) → WritesFormat F W a → At F (W.long a) (W.text a) a
at_value F W a w = record { spelled = w.spelled; past = w.past; none = w.none }

pub by_value : {A : Type 0} (F : Format A) (W : Writer A) (a : A) → At F (W.long a) (W.text a) a → WritesFormat F W a
by_value F W a w = record { spelled = w.spelled; past = w.past; none = w.none }

pub same_at : {A : Type 0} (F : Format A) (l m : Bool) (s t : Option (List ℕ)) (a : A) → At F l s a → l ≡ m → s ≡ t → At F m t a
same_at F l m s t a w long text = subst (λ (b : Bool). At F b t a) long (subst (λ (u : Option (List ℕ)). At F l u a) text w)

some_is : (s t : List ℕ) → Some s ≡ Some t → s ≡ t
some_is s t e = cc

-- a text that is there
pub there : {A : Type 0} (F : Format A) (text : List ℕ) (a : A) → F.spells text a → At F false (Some text) a
there F text a s = record { spelled = λ t e. subst (λ (u : List ℕ). F.spells u a) (some_is text t e) s; past = λ e. absurd cc; none = λ short e t u. absurd cc }

-- no text where nothing spells the value
pub nowhere : {A : Type 0} (F : Format A) (long : Bool) (a : A) → ((text : List ℕ) → F.spells text a → ⊥) → At F long None a
nowhere F long a none = record { spelled = λ t e. absurd cc; past = λ e. refl; none = λ short e t s. none t s }

-- ---- one after another

pub joined_front : (front : List ℕ) (back : Option (List ℕ)) (text : List ℕ) → append_text (Some front) back ≡ Some text → (t : List ℕ) × (back ≡ Some t) × (text ≡ front ++ t)
joined_front front None text e = absurd cc
joined_front front (Some t) text e = (t, refl, sym (some_is (front ++ t) text e))

pub joined_none : (front : List ℕ) (back : Option (List ℕ)) → append_text (Some front) back ≡ None → back ≡ None
joined_none front None e = refl
joined_none front (Some t) e = absurd cc

-- behind a front that spells the value's own first part
pub behind_front : {A B : Type 0} (F : Format A) (G : A → Format B) (front : List ℕ) (a : A) (b : B) (long : Bool) (text : Option (List ℕ)) → F.spells front a → At (G a) long text b
    → ((x : A) (f k : List ℕ) → F.spells f x → (G x).spells k b → (own : List ℕ) × (G a).spells own b) → At (after F G) long (append_text (Some front) text) b
behind_front F G front a b long text f g own = record {
  spelled = λ t e. let j = joined_front front text t e in record { first = a; front = front; back = j.0; whole = j.2; in_front = f; behind = g.spelled j.0 j.1 };
  past = λ e. rw (g.past e) refl;
  none = λ short e t s. let o = own s.first s.front s.back s.in_front s.behind in g.none short (joined_none front text e) o.0 o.1;
}

-- the same where what stands behind tells the first part
pub behind_only : {A B : Type 0} (F : Format A) (G : A → Format B) (front : List ℕ) (a : A) (b : B) (long : Bool) (text : Option (List ℕ)) → F.spells front a → At (G a) long text b
    → ((x : A) (k : List ℕ) → (G x).spells k b → x ≡ a) → At (after F G) long (append_text (Some front) text) b
behind_only {A = A} F G front a b long text f g only = behind_front F G front a b long text f g (λ x f k s t. (k, subst (λ (y : A). (G y).spells k b) (only x k t) t))

pub first_at : {A B : Type 0} (F : Format A) (G : A → Format B) (a : A) (b : B) (l m : Bool) (s t : Option (List ℕ)) → At F l s a → At (G a) m t b
    → ((x : A) (k : List ℕ) → (G x).spells k b → x ≡ a) → At (after F G) (l || m) (append_text s t) b
first_at {A = A} {B = B} F G a b l m s t f g only =
    let w = after-writes (λ (y : B). a) F G (record { long = λ (x : A). l; text = λ (x : A). s }) (λ (x : A). record { long = λ (y : B). m; text = λ (y : B). t }) b
    f g (only-part (λ (y : B). a) F G b only) in
    record { spelled = w.spelled; past = w.past; none = w.none }

pub made_at : {A B : Type 0} (make : A → B) (F : Format A) (a : A) (l : Bool) (s : Option (List ℕ)) → At F l s a → ((x : A) → make a ≡ make x → x ≡ a) → At (map_format make F) l s (make a)
made_at {A = A} make F a l s f same = record {
  spelled = λ t e. record { first = a; front = t; back = []; whole = sym (append-nil t); in_front = f.spelled t e; behind = (refl, refl) };
  past = f.past;
  none = λ short e t u. f.none short e u.front (subst (λ (x : A). F.spells u.front x) (same u.first u.behind.1) u.in_front);
}

pub joined_assoc : (a b : List ℕ) (t : Option (List ℕ)) → append_text (Some (a ++ b)) t ≡ append_text (Some a) (append_text (Some b) t)
joined_assoc a b None = refl
joined_assoc a b (Some t) = ap (λ (l : List ℕ). Some l) (append_assoc a b t)

-- ---- codes

pub code_at_most : (low high : ℕ) (text : List ℕ) (n : ℕ) → (from_to low high).spells text n → n ≤ high
code_at_most low high text n s = value s.n s.is
  where
    value : (m : ℕ) → (between low high BadValue).judge m ≡ Ok n → n ≤ high
    value m e = grind (arith, nat_tests)

pub word_fits : (text : List ℕ) (n : ℕ) → word.spells text n → n < 2 ^ 32
word_fits text n s = let le = code_at_most 0 4294967295 text n s in omega (arith, le)

pub word_spelled : (low high n : ℕ) → low ≤ n → n ≤ high → n < 2 ^ 32 → (from_to low high).spells (to_be_bytes w32 n) n
word_spelled low high n from to fits = record { n = n; text_is = refl; fits = fits; is = judge }
  where
    judge : (between low high BadValue).judge n ≡ Ok n
    judge = rw (le-ltb n low from, le-ltb high n to) refl

pub coded : {A : Type 0} (make : ℕ → A) (high code : ℕ) (a : A) → code ≤ high → code < 2 ^ 32 → make code ≡ a → (map_format make (from_to 0 high)).spells (to_be_bytes w32 code) a
coded make high code a le fits is = record {
  first = code;
  front = to_be_bytes w32 code;
  back = [];
  whole = sym (append-nil (to_be_bytes w32 code));
  in_front = word_spelled 0 high code (omega arith) le fits;
  behind = (refl, sym is);
}

-- ---- not too many

pub if_few : {A : Type 0} (F : Format A) (most n : ℕ) (long : Bool) (text : Option (List ℕ)) (a : A) → (n ≤ most → At F long text a) → At F (nat_lt most n || long) (cond (nat_lt most n) None text) a
if_few F most n long text a f =
    elim (cases_lt most n) [
      | inl h ↦
          let t : nat_lt most n ≡ true = lt-ltb most n h in
          rw t (record { spelled = λ u e. absurd cc; past = λ e. refl; none = λ short e u s. absurd cc })
      | inr le ↦ let t : nat_lt most n ≡ false = le-ltb most n le in rw t (f le)
    ]

-- ---- lists

-- each of them has a spelling
abbrev pub AllSpelled : {A : Type 0} → Format A → List A → Type 0
AllSpelled F [] = Unit {0}
AllSpelled F (a ∷ others) = ((text : List ℕ) × F.spells text a) × AllSpelled F others

pub places_all : {A : Type 0} (n : ℕ) (F : Format A) (text : List ℕ) (all : List A) → (places n F).spells text all → AllSpelled F all
unfolding places
places_all ℕ.zero F text all s = subst (AllSpelled F) (sym s.1) tt
places_all (suc n) F text all s = subst (AllSpelled F) (sym s.behind.behind.1) ((s.front, s.in_front), places_all n F s.behind.front s.behind.first s.behind.in_front)

pub all_places : {A : Type 0} (F : Format A) (all : List A) → AllSpelled F all → (text : List ℕ) × (places (length all) F).spells text all
unfolding places
all_places F [] h = ([], (refl, refl))
all_places F (a ∷ others) h =
    let rest = all_places F others h.1 in (
      h.0.0 ++ rest.0,
      record {
        first = a;
        front = h.0.0;
        back = rest.0;
        whole = refl;
        in_front = h.0.1;
        behind = record { first = others; front = rest.0; back = []; whole = sym (append-nil rest.0); in_front = rest.1; behind = (refl, refl) };
      },
    )

pub all_append : {A : Type 0} (F : Format A) (front back : List A) → AllSpelled F front → AllSpelled F back → AllSpelled F (front ++ back)
all_append F [] back f b = b
all_append F (a ∷ front) back f b = (f.0, all_append F front back f.1 b)

-- values behind a front
pub counted_at : {A : Type 0} (F : Format (List A)) (E : Format A) (W : Writer A) (all : List A) (front : List ℕ) → ((a : A) → WritesFormat E W a)
    → ((text : List ℕ) → (places (length all) E).spells text all → F.spells (front ++ text) all) → ((text : List ℕ) → F.spells text all → AllSpelled E all)
    → At F ((write_places (length all) W).long all) (append_text (Some front) ((write_places (length all) W).text all)) all
counted_at F E W all front each spelled each_spelled =
    let w = places-writes (length all) E W each all in
    record {
      spelled = λ t e. let j = joined_front front ((write_places (length all) W).text all) t e in rw j.2 (spelled j.0 (w.spelled j.0 j.1));
      past = λ e. rw (w.past e) refl;
      none = λ short e t s. let own = all_places E all (each_spelled t s) in w.none short (joined_none front ((write_places (length all) W).text all) e) own.0 own.1;
    }

with_tail : (text : Option (List ℕ)) (tail t : List ℕ) → append_text text (Some tail) ≡ Some t → (s : List ℕ) × (text ≡ Some s) × (t ≡ s ++ tail)
with_tail None tail t e = absurd cc
with_tail (Some s) tail t e = (s, refl, sym (some_is (s ++ tail) t e))

no_tail : (text : Option (List ℕ)) (tail : List ℕ) → append_text text (Some tail) ≡ None → text ≡ None
no_tail None tail e = refl
no_tail (Some s) tail e = absurd cc

-- and a tail behind them
pub ended_at : {A : Type 0} (F : Format (List A)) (E : Format A) (W : Writer A) (all : List A) (front tail : List ℕ) → ((a : A) → WritesFormat E W a)
    → ((text : List ℕ) → (places (length all) E).spells text all → F.spells (front ++ (text ++ tail)) all) → ((text : List ℕ) → F.spells text all → AllSpelled E all)
    → At F ((write_places (length all) W).long all) (append_text (Some front) (append_text ((write_places (length all) W).text all) (Some tail))) all
ended_at F E W all front tail each spelled each_spelled =
    let w = places-writes (length all) E W each all in
    record {
      spelled = λ t e.
          let j = joined_front front (append_text ((write_places (length all) W).text all) (Some tail)) t e in
          let k = with_tail ((write_places (length all) W).text all) tail j.0 j.1 in
          rw (j.2, k.2) (spelled k.0 (w.spelled k.0 k.1));
      past = λ e. rw (w.past e) refl;
      none = λ short e t s.
          let own = all_places E all (each_spelled t s) in
          w.none short (no_tail ((write_places (length all) W).text all) tail (joined_none front (append_text ((write_places (length all) W).text all) (Some tail)) e)) own.0 own.1;
    }

-- The laws of a format are kept by each way of putting formats together.
use Rattle.std.proofs.Common.{◌≡◌, ℕ, zero, suc, ◌≤◌, List, [], ◌∷◌, ◌++◌, length, Result, Ok, Err, refl, sym, ap, subst, ◌∙◌, append_assoc, arith, ◌⊎◌, inl, inr}
use Rattle.std.proofs.lemmas.List.{append-nil, length-append}
use Rattle.wire_format.specs.declared.fault.Fault.{Fault}
use Rattle.wire_format.specs.declared.fault.MissingBytes.{MissingBytes}
use Rattle.wire_format.specs.declared.fault.ReadStop.{ReadStop}
use Rattle.wire_format.specs.declared.fault.ReadStop.TheVariants.{More, Bad}
use Rattle.wire_format.specs.Format.{◌>>=◌, Format, pure_format, after, places, fail_format, IsBytes}
use Rattle.wire_format.specs.Lawful.{ReaderIsExact, Lawful}

-- bytes, in parts

pub IsBytes-behind : (front back : List ℕ) → IsBytes (front ++ back) → IsBytes back
IsBytes-behind [] back h i = h i
IsBytes-behind (b ∷ front) back h i = IsBytes-behind front back (λ k. h (suc k)) i

pub IsBytes-front : (front back : List ℕ) → IsBytes (front ++ back) → IsBytes front
IsBytes-front [] back h i = omega arith
IsBytes-front (b ∷ front) back h zero = h zero
IsBytes-front (b ∷ front) back h (suc i) = IsBytes-front front back (λ k. h (suc k)) i

pub IsBytes-append : (front back : List ℕ) → IsBytes front → IsBytes back → IsBytes (front ++ back)
IsBytes-append [] back f b i = b i
IsBytes-append (x ∷ front) back f b zero = f zero
IsBytes-append (x ∷ front) back f b (suc i) = IsBytes-append front back (λ k. f (suc k)) b i

-- what a reading is

abbrev pub failed : (A : Type 0) → ReadStop → Result A ReadStop
failed A s = Err s

abbrev pub read_as : {A : Type 0} → A → List ℕ → Result (A × List ℕ) ReadStop
read_as a rest = Ok (a, rest)

pub err_is : {B : Type 0} (s t : ReadStop) → failed B s ≡ failed B t → s ≡ t
err_is s t e = cc

ok_is : {A : Type 0} (x y : A × List ℕ) → read_as x.0 x.1 ≡ read_as y.0 y.1 → x ≡ y
ok_is x y e = cc

pub ok_value : {A : Type 0} (a b : A) (r s : List ℕ) → read_as a r ≡ read_as b s → a ≡ b
ok_value {A = A} a b r s e = ap (λ (p : A × List ℕ). p.0) (ok_is (a, r) (b, s) e)

pub ok_rest : {A : Type 0} (a b : A) (r s : List ℕ) → read_as a r ≡ read_as b s → r ≡ s
ok_rest {A = A} a b r s e = ap (λ (p : A × List ℕ). p.1) (ok_is (a, r) (b, s) e)

bind_ok : {A B : Type 0} (r : Result A ReadStop) (f : A → Result B ReadStop) (y : B) → (r >>= f) ≡ Ok y → (x : A) × (r ≡ Ok x) × (f x ≡ Ok y)
bind_ok (Ok x) f y e = (x, refl, e)
bind_ok (Err d) f y e = absurd cc

bind_err : {A B : Type 0} (r : Result A ReadStop) (f : A → Result B ReadStop) (stop : ReadStop) → (r >>= f) ≡ Err stop → (r ≡ Err stop) ⊎ ((x : A) × (r ≡ Ok x) × (f x ≡ Err stop))
bind_err (Ok x) f stop e = inr (x, refl, e)
bind_err {A = A} (Err d) f stop e = inl (ap (λ (s : ReadStop). failed A s) (err_is d stop e))

-- what follows from the laws

-- more bytes change nothing of what was read
pub reads_on : {A : Type 0} (F : Format A) → ReaderIsExact F → (bytes rest more : List ℕ) (a : A) → IsBytes bytes → F.read bytes ≡ Ok (a, rest) → F.read (bytes ++ more) ≡ Ok (a, rest ++ more)
reads_on F f bytes rest more a fits e =
    let p = f.sound bytes rest a fits e in
    ap F.read (ap (λ (t : List ℕ). t ++ more) p.whole ∙ append_assoc p.text rest more) ∙ f.complete p.text (rest ++ more) a p.spelled

-- a fault on fewer bytes stays on more
pub stays : {A : Type 0} (F : Format A) → ReaderIsExact F → (bytes rest : List ℕ) (fault : Fault) → IsBytes (bytes ++ rest) → F.read bytes ≡ Err (Bad fault) → F.read (bytes ++ rest) ≡ Err (Bad fault)
stays F f bytes rest fault fits e =
    let p = f.bad bytes fault (IsBytes-front bytes rest fits) e in
    let regrouped : bytes ++ rest ≡ p.front ++ (p.rest ++ rest) = ap (λ (t : List ℕ). t ++ rest) p.whole ∙ append_assoc p.front p.rest rest in
    ap F.read regrouped ∙ f.spoiled p.front (p.rest ++ rest) fault (subst IsBytes regrouped fits) p.spoiled

-- one text spells at most one value
pub one_value : {A : Type 0} (F : Format A) → ReaderIsExact F → (text : List ℕ) (a b : A) → F.spells text a → F.spells text b → a ≡ b
one_value F f text a b s t = ok_value a b [] [] (sym (f.complete text [] a s) ∙ f.complete text [] b t)

-- no spelling is a proper prefix of another
pub no_prefix : {A : Type 0} (F : Format A) → ReaderIsExact F → (text more : List ℕ) (a b : A) → F.spells text a → F.spells (text ++ more) b → more ≡ []
no_prefix F f text more a b s t =
    ok_rest a b more [] (sym (f.complete text more a s) ∙ ap F.read (sym (append-nil (text ++ more))) ∙ f.complete (text ++ more) [] b t)

same_fault : (g h : Fault) → Bad g ≡ Bad h → g ≡ h
same_fault g h e = cc

-- fronts of the same bytes are spoiled by the same fault
pub one_fault : {A : Type 0} (F : Format A) → ReaderIsExact F → (front rest front2 rest2 : List ℕ) (g h : Fault) → IsBytes (front ++ rest) → front ++ rest ≡ front2 ++ rest2 → F.spoils front g → F.spoils front2 h → g ≡ h
one_fault {A = A} F f front rest front2 rest2 g h fits e s t =
    let a = f.spoiled front rest g fits s in
    let b = ap F.read e ∙ f.spoiled front2 rest2 h (subst IsBytes e fits) t in
    same_fault g h (err_is {B = A × List ℕ} (Bad g) (Bad h) (sym a ∙ b))

-- nothing

pub refused-reads : {A : Type 0} (fault : Fault) → ReaderIsExact (fail_format {A = A} fault)
refused-reads fault = record {
  sound = λ bytes rest a fits e. absurd cc;
  complete = λ text rest a s. absurd s;
  more = λ bytes wanted fits e. absurd cc;
  wants = λ bytes behind wanted a fits e s. absurd s;
  waits = λ bytes more wanted fits e still. absurd cc;
  bad = λ bytes g fits e. record { front = []; rest = bytes; whole = refl; spoiled = (refl, cc) };
  spoiled = λ text rest g fits s. rw s.1 refl;
  bytes = λ text a s. absurd s;
}

pub done-laws : {A : Type 0} (a : A) → Lawful (pure_format a)
done-laws {A = A} a = record {
  reads = record {
    sound = λ bytes rest b fits e. record { text = []; whole = ok_rest a b bytes rest e; spelled = (refl, sym (ok_value a b bytes rest e)) };
    complete = λ text rest b s. rw (s.0, s.1) refl;
    more = λ bytes wanted fits e. absurd cc;
    wants = λ bytes behind wanted b fits e s. absurd cc;
    waits = λ bytes more wanted fits e still. absurd cc;
    bad = λ bytes fault fits e. absurd cc;
    spoiled = λ text rest fault fits s. absurd s;
    bytes = λ text b s i. rw s.0 (omega arith);
  };
  some = record { behind = []; value = a; spelled = (refl, refl) };
}

-- one after another

uncons : (x y : ℕ) (a b : List ℕ) → x ∷ a ≡ y ∷ b → (x ≡ y) × (a ≡ b)
uncons x y a b e = (cc, cc)

-- of two fronts of a list, the second goes on behind the first, or ends inside it
split_either : (a b c d : List ℕ) → a ++ b ≡ c ++ d → ((x : List ℕ) × (c ≡ a ++ x) × (b ≡ x ++ d)) ⊎ ((y : List ℕ) × (a ≡ c ++ y))
split_either [] b c d e = inl (c, refl, e)
split_either (x ∷ a) b [] d e = inr (x ∷ a, refl)
split_either (x ∷ a) b (y ∷ c) d e =
    let p = uncons x y (a ++ b) (c ++ d) e in
    elim (split_either a b c d p.1) [
      | inl t ↦ inl (t.0, ap (λ (k : ℕ). k ∷ c) (sym p.0) ∙ ap (λ (l : List ℕ). x ∷ l) t.1, t.2)
      | inr t ↦ inr (t.0, ap (λ (k : ℕ). k ∷ a) p.0 ∙ ap (λ (l : List ℕ). y ∷ l) t.1)
    ]

-- the first format stops inside a word or a text that goes on
first_wants : {A : Type 0} (F : Format A) → ReaderIsExact F → (bytes behind front back : List ℕ) (wanted : MissingBytes) (a : A) → IsBytes bytes → F.read bytes ≡ Err (More wanted)
    → bytes ++ behind ≡ front ++ back → F.spells front a → wanted.count ≤ length behind
first_wants {A = A} F f bytes behind front back wanted a fits e whole s =
    elim (split_either bytes behind front back whole) [
      | inl t ↦
          let least = f.wants bytes t.0 wanted a fits e (subst (λ (l : List ℕ). F.spells l a) t.1 s) in
          omega (arith, least, ap length t.2, length-append t.0 back)
      | inr t ↦
          let no : failed (A × List ℕ) (More wanted) ≡ read_as a t.0 = sym e ∙ ap F.read t.1 ∙ f.complete front t.0 a s in
          absurd (cc no)
    ]

pub after-spelled-laws : {A B : Type 0} (F : Format A) (G : A → Format B) → Lawful F → ((text : List ℕ) (a : A) → F.spells text a → Lawful (G a)) → Lawful (after F G)
after-spelled-laws {A = A} {B = B} F G lawful g =
    let f : ReaderIsExact F = lawful.reads in
    record {
      reads = record {
        sound = λ bytes rest b fits e.
            let s = bind_ok (F.read bytes) (λ x. (G x.0).read x.1) (b, rest) e in
            let p = f.sound bytes s.0.1 s.0.0 fits s.1 in
            let q = (g p.text s.0.0 p.spelled).reads.sound s.0.1 rest b (IsBytes-behind p.text s.0.1 (subst IsBytes p.whole fits)) s.2 in
            record {
              text = p.text ++ q.text;
              whole = p.whole ∙ ap (λ (t : List ℕ). p.text ++ t) q.whole ∙ sym (append_assoc p.text q.text rest);
              spelled = record { first = s.0.0; front = p.text; back = q.text; whole = refl; in_front = p.spelled; behind = q.spelled };
            };
        complete = λ text rest b s.
            let read : F.read (text ++ rest) ≡ Ok (s.first, s.back ++ rest) =
            ap F.read (ap (λ (t : List ℕ). t ++ rest) s.whole ∙ append_assoc s.front s.back rest) ∙ f.complete s.front (s.back ++ rest) s.first s.in_front in
            rw read ((g s.front s.first s.in_front).reads.complete s.back rest b s.behind);
        more = λ bytes wanted fits e.
            elim (bind_err (F.read bytes) (λ x. (G x.0).read x.1) (More wanted) e) [
              | inl h ↦
                  let p = f.more bytes wanted fits h in
                  let q = (g (bytes ++ p.behind) p.value p.spelled).some in
                  record {
                    behind = p.behind ++ q.behind;
                    value = q.value;
                    spelled = record { first = p.value; front = bytes ++ p.behind; back = q.behind; whole = sym (append_assoc bytes p.behind q.behind); in_front = p.spelled; behind = q.spelled };
                  }
              | inr h ↦
                  let p = f.sound bytes h.0.1 h.0.0 fits h.1 in
                  let q = (g p.text h.0.0 p.spelled).reads.more h.0.1 wanted (IsBytes-behind p.text h.0.1 (subst IsBytes p.whole fits)) h.2 in
                  record {
                    behind = q.behind;
                    value = q.value;
                    spelled = record { first = h.0.0; front = p.text; back = h.0.1 ++ q.behind; whole = ap (λ (t : List ℕ). t ++ q.behind) p.whole ∙ append_assoc p.text h.0.1 q.behind; in_front = p.spelled; behind = q.spelled };
                  }
            ];
        wants = λ bytes behind wanted b fits e s.
            elim (bind_err (F.read bytes) (λ x. (G x.0).read x.1) (More wanted) e) [
              | inl h ↦ first_wants F f bytes behind s.front s.back wanted s.first fits h s.whole s.in_front
              | inr h ↦
                  let p = f.sound bytes h.0.1 h.0.0 fits h.1 in
                  let on = reads_on F f bytes h.0.1 behind h.0.0 fits h.1 in
                  let same : read_as s.first s.back ≡ read_as h.0.0 (h.0.1 ++ behind) = sym (f.complete s.front s.back s.first s.in_front) ∙ ap F.read (sym s.whole) ∙ on in
                  let here : (G h.0.0).spells (h.0.1 ++ behind) b =
                  subst (λ (a : A). (G a).spells (h.0.1 ++ behind) b) (ok_value s.first h.0.0 s.back (h.0.1 ++ behind) same)
                  (subst (λ (t : List ℕ). (G s.first).spells t b) (ok_rest s.first h.0.0 s.back (h.0.1 ++ behind) same) s.behind) in
                  (g p.text h.0.0 p.spelled).reads.wants h.0.1 behind wanted b (IsBytes-behind p.text h.0.1 (subst IsBytes p.whole fits)) h.2 here
            ];
        waits = λ bytes more wanted fits e still.
            elim (bind_err (F.read bytes) (λ x. (G x.0).read x.1) (More wanted) e) [
              | inl h ↦ rw (f.waits bytes more wanted fits h still) refl
              | inr h ↦
                  let here : IsBytes bytes = IsBytes-front bytes more fits in
                  let p = f.sound bytes h.0.1 h.0.0 here h.1 in
                  let regrouped : bytes ++ more ≡ p.text ++ (h.0.1 ++ more) = ap (λ (t : List ℕ). t ++ more) p.whole ∙ append_assoc p.text h.0.1 more in
                  let on = reads_on F f bytes h.0.1 more h.0.0 here h.1 in
                  rw on ((g p.text h.0.0 p.spelled).reads.waits h.0.1 more wanted (IsBytes-behind p.text (h.0.1 ++ more) (subst IsBytes regrouped fits)) h.2 still)
            ];
        bad = λ bytes fault fits e.
            elim (bind_err (F.read bytes) (λ x. (G x.0).read x.1) (Bad fault) e) [
              | inl h ↦
                  let p = f.bad bytes fault fits h in
                  record { front = p.front; rest = p.rest; whole = p.whole; spoiled = inl p.spoiled }
              | inr h ↦
                  let p = f.sound bytes h.0.1 h.0.0 fits h.1 in
                  let q = (g p.text h.0.0 p.spelled).reads.bad h.0.1 fault (IsBytes-behind p.text h.0.1 (subst IsBytes p.whole fits)) h.2 in
                  record {
                    front = p.text ++ q.front;
                    rest = q.rest;
                    whole = p.whole ∙ ap (λ (t : List ℕ). p.text ++ t) q.whole ∙ sym (append_assoc p.text q.front q.rest);
                    spoiled = inr (record { first = h.0.0; front = p.text; back = q.front; whole = refl; in_front = p.spelled; behind = q.spoiled });
                  }
            ];
        spoiled = λ text rest fault fits s.
            elim s [
              | inl h ↦ rw (f.spoiled text rest fault fits h) refl
              | inr h ↦
                  let regrouped : text ++ rest ≡ h.front ++ (h.back ++ rest) = ap (λ (t : List ℕ). t ++ rest) h.whole ∙ append_assoc h.front h.back rest in
                  let read : F.read (text ++ rest) ≡ Ok (h.first, h.back ++ rest) = ap F.read regrouped ∙ f.complete h.front (h.back ++ rest) h.first h.in_front in
                  rw read ((g h.front h.first h.in_front).reads.spoiled h.back rest fault (IsBytes-behind h.front (h.back ++ rest) (subst IsBytes regrouped fits)) h.behind)
            ];
        bytes = λ text b s. subst IsBytes (sym s.whole) (IsBytes-append s.front s.back (f.bytes s.front s.first s.in_front) ((g s.front s.first s.in_front).reads.bytes s.back b s.behind));
      };
      some =
          let p = lawful.some in
          let q = (g p.behind p.value p.spelled).some in
          record {
            behind = p.behind ++ q.behind;
            value = q.value;
            spelled = record { first = p.value; front = p.behind; back = q.behind; whole = refl; in_front = p.spelled; behind = q.spelled };
          };
    }

pub after-laws : {A B : Type 0} (F : Format A) (G : A → Format B) → Lawful F → ((a : A) → Lawful (G a)) → Lawful (after F G)
after-laws F G f g = after-spelled-laws F G f (λ text a s. g a)

-- a value at each of n places

pub places-laws : {A : Type 0} (n : ℕ) (F : Format A) → Lawful F → Lawful (places n F)
unfolding places
places-laws zero F f = done-laws []
places-laws (suc n) F f = after-laws F _ f (λ a. after-laws (places n F) _ (places-laws n F f) (λ others. done-laws (a ∷ others)))

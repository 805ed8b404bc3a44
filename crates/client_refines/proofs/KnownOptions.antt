-- The options that a client was told of: those whose values are wanted, and the values so far.
use Rattle.std.proofs.Common.{arith, ◌≡◌, ◌∙◌, ◌<◌, ◌+◌, ℕ, zero, suc, Option, Some, None, Bool, true, false, not, ◌&&◌, cond, List, [], ◌∷◌, ◌++◌, refl, sym, ap, subst, length, map}
use Rattle.std.specs.Prelude.{if◌then◌else◌, position, slice_get, slice_set, is_none}
use Rattle.std.specs.List.{position_from}
use Rattle.std.proofs.lemmas.Iterator.Adapters.{position_from-zero}
use Rattle.std.proofs.lemmas.Bool.{and_parts, both_ways}
use Rattle.std.proofs.Math.Bool.{and-true}
use Rattle.sane_fixed.specs.declared.kind.Kind.{Kind}
use Rattle.sane_fixed.specs.declared.kind.Kind.TheVariants as kinds
use Rattle.option_desc.specs.declared.descriptor.Descriptor.{Descriptor}
use Rattle.option_desc.specs.declared.value.Value.{Value}
use Rattle.sane_fixed.specs.Cap.{has_cap}
use Rattle.scan_job.specs.KnownValues.{has_one_value, tells_value, with_known_value}
use Rattle.client_replies.specs.ReplyTurns.{wants_value, with_no_value}
use Rattle.system_model.specs.Devices.{is_single, is_readable, readable_from}
use Rattle.client_refines.specs.ClientRefinement.{descs, shown_by, known_values, AreBlank, OnlyReadableHaveValues, values_wanted_from, Behind, AreFilled}

-- ---- the first that is wanted

abbrev pub head : List ℕ → Option ℕ
head [] = None
head (n ∷ more) = Some n

first_if : (b : Bool) (k : ℕ) (rest : List ℕ) (found : Option ℕ) → found ≡ head rest → cond b (Some k) found ≡ head (if b then k ∷ rest else rest)
first_if true k rest found e = refl
first_if false k rest found e = e

first_from : (k : ℕ) (known : List (Descriptor × Option Value)) → position_from wants_value k known ≡ head (values_wanted_from k known)
first_from k [] = refl
first_from k (o ∷ more) = first_if (wants_value o) k (values_wanted_from (k + 1) more) (position_from wants_value (k + 1) more) (first_from (k + 1) more)

pub first : (known : List (Descriptor × Option Value)) → position wants_value known ≡ head (values_wanted_from 0 known)
first known = position_from-zero wants_value known ∙ first_from 0 known

pub record IsNext (k : ℕ) (known : List (Descriptor × Option Value)) (n : ℕ) : Type 0 where
  pub place : ℕ
  pub number : n ≡ k + place
  pub below : place < length known
  pub option : Descriptor × Option Value
  pub stands : slice_get known place ≡ Some option

next_more : (k : ℕ) (o : Descriptor × Option Value) (more : List (Descriptor × Option Value)) (n : ℕ) → IsNext (k + 1) more n → IsNext k (o ∷ more) n
next_more k o more n i =
    let e : n ≡ k + 1 + i.place = i.number in
    let b : i.place < length more = i.below in
    record { place = suc i.place; number = omega arith; below = omega arith; option = i.option; stands = i.stands }

next_if : (b : Bool) (k : ℕ) (o : Descriptor × Option Value) (more : List (Descriptor × Option Value)) (n : ℕ) (left : List ℕ)
    → ((n : ℕ) (left : List ℕ) → values_wanted_from (k + 1) more ≡ n ∷ left → IsNext (k + 1) more n)
    → (if b then k ∷ values_wanted_from (k + 1) more else values_wanted_from (k + 1) more) ≡ n ∷ left → IsNext k (o ∷ more) n
next_if true k o more n left h e =
    let same : k ≡ n = cc in
    record { place = 0; number = omega arith; below = omega arith; option = o; stands = refl }
next_if false k o more n left h e = next_more k o more n (h n left e)

pub next_wanted : (k : ℕ) (known : List (Descriptor × Option Value)) (n : ℕ) (left : List ℕ) → values_wanted_from k known ≡ n ∷ left → IsNext k known n
next_wanted k [] n left e = absurd (let clash : [] ≡ n ∷ left = e in cc)
next_wanted k (o ∷ more) n left e = next_if (wants_value o) k o more n left (λ n left. next_wanted (k + 1) more n left) e

-- ---- no value was told

both : (a b c : Bool) → (not a && (b && c)) ≡ (b && (not a && c))
both true true true = refl
both true true false = refl
both true false true = refl
both true false false = refl
both false true true = refl
both false true false = refl
both false false true = refl
both false false false = refl

single : (kind : Kind) (size : ℕ) → has_one_value kind size ≡ is_single kind size
single kinds.Bool size = refl
single kinds.Int size = refl
single kinds.Fixed size = refl
single kinds.String size = refl
single kinds.Button size = refl
single kinds.Group size = refl

-- the client asks for the values that the model asks for
pub told_alike : (d : Descriptor) → tells_value d ≡ is_readable d
told_alike d =
    both (has_cap d.caps.0 32) (has_cap d.caps.0 4) (has_one_value d.kind d.size)
    ∙ ap (λ (b : Bool). has_cap d.caps.0 4 && (not (has_cap d.caps.0 32) && b)) (single d.kind d.size)

blank_wants : (o : Descriptor × Option Value) → o.1 ≡ None → wants_value o ≡ is_readable o.0
blank_wants o e = ap (λ (v : Option Value). tells_value o.0 && is_none v) e ∙ and-true (tells_value o.0) ∙ told_alike o.0

pub blank_wanted : (k : ℕ) (known : List (Descriptor × Option Value)) → AreBlank known → values_wanted_from k known ≡ readable_from k (descs known)
blank_wanted k [] b = refl
blank_wanted k (o ∷ more) b =
    ap (λ (t : Bool). if t then k ∷ values_wanted_from (k + 1) more else values_wanted_from (k + 1) more) (blank_wants o b.0)
    ∙ ap (λ (ns : List ℕ). if is_readable o.0 then k ∷ ns else ns) (blank_wanted (k + 1) more b.1)

pub blank_shown : (known : List (Descriptor × Option Value)) → AreBlank known → known_values known ≡ []
blank_shown [] b = refl
blank_shown (o ∷ more) b = ap (λ (v : Option Value). shown_by v (known_values more)) b.0 ∙ blank_shown more b.1

pub blank_tells : (known : List (Descriptor × Option Value)) → AreBlank known → OnlyReadableHaveValues known
blank_tells [] b = tt
blank_tells (o ∷ more) b = (λ e. b.0, blank_tells more b.1)

behind : (t : Bool) (more : List (Descriptor × Option Value)) → AreBlank more → AreFilled more → Behind t (AreBlank more) (AreFilled more)
behind true more b f = b
behind false more b f = f

pub blank_filled : (known : List (Descriptor × Option Value)) → AreBlank known → AreFilled known
blank_filled [] b = tt
blank_filled (o ∷ more) b = behind (wants_value o) more b.1 (blank_filled more b.1)

pub told_blank : (descriptors : List Descriptor) → AreBlank (map with_no_value descriptors)
told_blank [] = tt
told_blank (d ∷ more) = (refl, told_blank more)

pub told_descs : (descriptors : List Descriptor) → descs (map with_no_value descriptors) ≡ descriptors
told_descs [] = refl
told_descs (d ∷ more) = ap (λ (ds : List Descriptor). d ∷ ds) (told_descs more)

pub told_length : (descriptors : List Descriptor) → length (map with_no_value descriptors) ≡ length descriptors
told_length [] = refl
told_length (d ∷ more) = ap suc (told_length more)

-- ---- a value is told

pub record IsSet (k : ℕ) (known after : List (Descriptor × Option Value)) (left : List ℕ) (v : Value) : Type 0 where
  pub wanted : values_wanted_from k after ≡ left
  pub values : known_values after ≡ known_values known ++ v ∷ []
  pub filled : AreFilled after
  pub only : OnlyReadableHaveValues known → OnlyReadableHaveValues after
  pub same : descs after ≡ descs known
  pub long : length after ≡ length known

never : (b : Bool) → (b && false) ≡ false
never true = refl
never false = refl

wants_none : (b : Bool) (v : Option Value) → (b && is_none v) ≡ true → v ≡ None
wants_none b None e = refl
wants_none b (Some v) e = absurd (let clash : false ≡ true = sym (never b) ∙ e in cc)

shown_after : (o : Option Value) (values : List Value) (v : Value) → shown_by o (values ++ v ∷ []) ≡ shown_by o values ++ v ∷ []
shown_after None values v = refl
shown_after (Some w) values v = refl

set_here : (k : ℕ) (o : Descriptor × Option Value) (more : List (Descriptor × Option Value)) (left : List ℕ) (v : Value) → wants_value o ≡ true → AreBlank more → values_wanted_from (k + 1) more ≡ left
    → IsSet k (o ∷ more) ((o.0, Some v) ∷ more) left v
set_here k o more left v w b e =
    let n : wants_value (o.0, Some v) ≡ false = never (tells_value o.0) in
    let s : known_values more ≡ [] = blank_shown more b in
    record {
      wanted = ap (λ (t : Bool). if t then k ∷ values_wanted_from (k + 1) more else values_wanted_from (k + 1) more) n ∙ e;
      values = ap (λ (vs : List Value). v ∷ vs) s ∙ sym (ap (λ (x : Option Value). shown_by x (known_values more) ++ v ∷ []) (wants_none (tells_value o.0) o.1 w) ∙ ap (λ (vs : List Value). vs ++ v ∷ []) s);
      filled = subst (λ (t : Bool). Behind t (AreBlank more) (AreFilled more)) (sym n) (blank_filled more b);
      only = λ t. (λ none. absurd (both_ways (tells_value o.0) none (and_parts (tells_value o.0) (is_none o.1) w).0), t.1);
      same = refl;
      long = refl;
    }

set_there : (k : ℕ) (o : Descriptor × Option Value) (more after : List (Descriptor × Option Value)) (left : List ℕ) (v : Value) → wants_value o ≡ false → IsSet (k + 1) more after left v
    → IsSet k (o ∷ more) (o ∷ after) left v
set_there k o more after left v w s = record {
  wanted = ap (λ (t : Bool). if t then k ∷ values_wanted_from (k + 1) after else values_wanted_from (k + 1) after) w ∙ s.wanted;
  values = ap (λ (vs : List Value). shown_by o.1 vs) s.values ∙ shown_after o.1 (known_values more) v;
  filled = subst (λ (t : Bool). Behind t (AreBlank after) (AreFilled after)) (sym w) s.filled;
  only = λ t. (t.0, s.only t.1);
  same = ap (λ (ds : List Descriptor). o.0 ∷ ds) s.same;
  long = ap suc s.long;
}

value_behind : (i : ℕ) (v : Value) (o : Descriptor × Option Value) (more : List (Descriptor × Option Value)) (found : Option (Descriptor × Option Value))
    → elim found [ None ↦ o ∷ more | Some x ↦ slice_set (o ∷ more) (suc i) (x.0, Some v) ] ≡ o ∷ elim found [ None ↦ more | Some x ↦ slice_set more i (x.0, Some v) ]
value_behind i v o more None = refl
value_behind i v o more (Some x) = refl

set_if : (b : Bool) (k place : ℕ) (o : Descriptor × Option Value) (more : List (Descriptor × Option Value)) (n : ℕ) (left : List ℕ) (v : Value) → wants_value o ≡ b → Behind b (AreBlank more) (AreFilled more)
    → n ≡ k + place → (if b then k ∷ values_wanted_from (k + 1) more else values_wanted_from (k + 1) more) ≡ n ∷ left
    → ((i : ℕ) → AreFilled more → n ≡ k + 1 + i → values_wanted_from (k + 1) more ≡ n ∷ left → IsSet (k + 1) more (with_known_value i v more) left v)
    → IsSet k (o ∷ more) (with_known_value place v (o ∷ more)) left v
set_if true k zero o more n left v w b p e h = set_here k o more left v w b (cc)
set_if true k (suc i) o more n left v w b p e h = absurd (let same : k ≡ n = cc in omega arith)
set_if false k zero o more n left v w b p e h =
    let next = next_wanted (k + 1) more n left e in
    absurd (let m : n ≡ k + 1 + next.place = next.number in omega arith)
set_if false k (suc i) o more n left v w b p e h =
    subst (λ (after : List (Descriptor × Option Value)). IsSet k (o ∷ more) after left v) (sym (value_behind i v o more (slice_get more i)))
    (set_there k o more (with_known_value i v more) left v w (h i b (omega arith) e))

pub set_wanted : (k : ℕ) (known : List (Descriptor × Option Value)) (place n : ℕ) (left : List ℕ) (v : Value) → AreFilled known → n ≡ k + place → values_wanted_from k known ≡ n ∷ left
    → IsSet k known (with_known_value place v known) left v
set_wanted k [] place n left v f p e = absurd (let clash : [] ≡ n ∷ left = e in cc)
set_wanted k (o ∷ more) place n left v f p e = set_if (wants_value o) k place o more n left v refl f p e (λ i f p e. set_wanted (k + 1) more i n left v f p e)

-- ---- the option of a name

pub named_alike : (test : Descriptor → Bool) (k : ℕ) (known : List (Descriptor × Option Value)) → position_from (λ (o : Descriptor × Option Value). test o.0) k known ≡ position_from test k (descs known)
named_alike test k [] = refl
named_alike test k (o ∷ more) = ap (λ (r : Option ℕ). cond (test o.0) (Some k) r) (named_alike test (k + 1) more)

below_if : (b : Bool) (k : ℕ) (size : ℕ) (found : Option ℕ) (n : ℕ) → ((n : ℕ) → found ≡ Some n → n < k + 1 + size) → cond b (Some k) found ≡ Some n → n < k + suc size
below_if true k size found n h e = let same : k ≡ n = cc in omega arith
below_if false k size found n h e = let b = h n e in omega arith

pub place_below : (test : Descriptor → Bool) (k : ℕ) (ds : List Descriptor) (n : ℕ) → position_from test k ds ≡ Some n → n < k + length ds
place_below test k [] n e = absurd (let clash : None ≡ Some n = e in cc)
place_below test k (d ∷ more) n e = below_if (test d) k (length more) (position_from test (k + 1) more) n (λ n e. place_below test (k + 1) more n e) e

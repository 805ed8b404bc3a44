-- What is computed of a text is the value that it reads as, and the only one.
use Rattle.std.proofs.Common.{◌≡◌, ◌≢◌, ◌<◌, ◌≤◌, ◌==◌, ◌||◌, ℕ, ℤ, Bool, true, false, cond, List, [], ◌∷◌, length, arith, refl, sym, ap, ◌∙◌, subst}
use Rattle.std.specs.Prelude.{Option, Some, None, option_map, nat_lt, Contains, codes, IsSome, is_some}
use Rattle.std.specs.List.{list_any}
use Rattle.std.specs.Str.{bytes_eq}
use Rattle.std.proofs.lemmas.Bool.{false≢true}
use Rattle.std.proofs.lemmas.Bool.Decides.{nat_tests}
use Rattle.std.proofs.lemmas.List.Elements.{Contains-append_left, Contains-append_right, Contains-push}
use Rattle.std.proofs.lemmas.Slice.Eq.{bytes_eq-Decides}
use Rattle.sane_fixed.specs.declared.kind.Kind.{Kind}
use Rattle.sane_fixed.specs.declared.kind.Kind.TheVariants as kind
use Rattle.sane_fixed.specs.Text.{IsText}
use Rattle.sane_fixed.proofs.TextLaws.{IsText-none, IsText-cons}
use Rattle.option_desc.specs.declared.descriptor.Descriptor.{Descriptor}
use Rattle.option_desc.specs.declared.value.Value.{Value}
use Rattle.option_desc.specs.declared.value.Value.TheVariants.{Flag, Int, Fixed, Words, Text}
use Rattle.option_desc.specs.Reads.{SpellsInteger, SpellsWord, SpellsEach, SpellsWords, ReadsAsValue, flag_of, word_in, words_in, pieces_of, one_word, number_of, text_value_of, read_as, read_value}
use Rattle.option_desc.proofs.ReadsLaws.{some_is, no_some, word_found, word_is, spells_found, spells_is}

-- ---- a NUL

abbrev is_nul : ℕ → Bool
is_nul b = b == 0

nul_here : (b : ℕ) (bytes : List ℕ) → b ≡ 0 → Contains (b ∷ bytes) 0
nul_here b bytes e = subst (λ n. Contains (n ∷ bytes) 0) (sym e) (Contains-append_left (0 ∷ []) bytes 0 (Contains-push [] 0))

zero_is : (b : ℕ) → (b == 0) ≡ true → b ≡ 0
zero_is b e = grind (arith, nat_tests)

zero_not : (b : ℕ) → (b == 0) ≡ false → b ≢ 0
zero_not b e = grind (arith, nat_tests)

has_nul : (text : List ℕ) → list_any is_nul text ≡ true → Contains text 0
has_nul [] e = absurd (false≢true e)
has_nul (b ∷ bytes) e =
    let P : Bool → Type 0 = λ t. (b == 0) ≡ t → (t || list_any is_nul bytes) ≡ true → Contains (b ∷ bytes) 0 in
    elim (b == 0) as P [
      | true ↦ λ z e. nul_here b bytes (zero_is b z)
      | false ↦ λ z e. Contains-append_right (b ∷ []) bytes 0 (has_nul bytes e)
    ] refl e

no_nul : (text : List ℕ) → list_any is_nul text ≡ false → IsText text
no_nul [] e = IsText-none
no_nul (b ∷ bytes) e =
    let P : Bool → Type 0 = λ t. (b == 0) ≡ t → (t || list_any is_nul bytes) ≡ false → IsText (b ∷ bytes) in
    elim (b == 0) as P [
      | true ↦ λ z e. absurd (false≢true (sym e))
      | false ↦ λ z e. IsText-cons b bytes (zero_not b z) (no_nul bytes e)
    ] refl e

one_of : (t : Bool) → (t ≡ true → ⊥) → t ≡ false
one_of true f = absurd (f refl)
one_of false f = refl

pub text_is_text : (text : List ℕ) → IsText text → list_any is_nul text ≡ false
text_is_text text own = one_of (list_any is_nul text) (λ e. own (has_nul text e))

-- ---- by the option's kind

abbrev ReadsAs : Kind → ℕ → List ℕ → Value → Type 0
ReadsAs k size text (Flag true) = (k ≡ kind.Bool) × (text ≡ codes "yes")
ReadsAs k size text (Flag false) = (k ≡ kind.Bool) × (text ≡ codes "no")
ReadsAs k size text (Int word) = (k ≡ kind.Int) × (size ≡ 4) × SpellsInteger text word
ReadsAs k size text (Fixed fixed) = (k ≡ kind.Fixed) × (size ≡ 4) × SpellsWord kind.Fixed text fixed.0
ReadsAs k size text (Words words) = (4 < size) × SpellsWords k text words
ReadsAs k size text (Text own) = (k ≡ kind.String) × (own ≡ text) × IsText text

flag_at : (text : List ℕ) (size : ℕ) (first second : Bool) (value : Value) → bytes_eq text (codes "yes") ≡ first → bytes_eq text (codes "no") ≡ second → cond first (Some (Flag true)) (cond second (Some (Flag false)) None) ≡ Some value → ReadsAs kind.Bool size text value
flag_at text size true second value isyes isno e = subst (ReadsAs kind.Bool size text) (some_is (Flag true) value e) (refl, (bytes_eq-Decides text (codes "yes")).0 isyes)
flag_at text size false true value isyes isno e = subst (ReadsAs kind.Bool size text) (some_is (Flag false) value e) (refl, (bytes_eq-Decides text (codes "no")).0 isno)
flag_at text size false false value isyes isno e = absurd (no_some value e)

flag_found : (text : List ℕ) (size : ℕ) (value : Value) → flag_of text ≡ Some value → ReadsAs kind.Bool size text value
flag_found text size value e = flag_at text size (bytes_eq text (codes "yes")) (bytes_eq text (codes "no")) value refl refl e

four : (size : ℕ) → (size == 4) ≡ true → size ≡ 4
four size e = grind (arith, nat_tests)

above_four : (size : ℕ) → nat_lt 4 size ≡ true → 4 < size
above_four size e = grind (arith, nat_tests)

abbrev IsNumber : Kind → Type 0
IsNumber k = (size : ℕ) (text : List ℕ) (word : ℤ) → size ≡ 4 → SpellsWord k text word → ReadsAs k size text (one_word k word)

one_at : (k : Kind) (size : ℕ) (text : List ℕ) (value : Value) (o : Option ℤ) → IsNumber k → size ≡ 4 → word_in k text ≡ o → option_map (one_word k) o ≡ Some value → ReadsAs k size text value
one_at k size text value None number is e f = absurd (no_some value f)
one_at k size text value (Some word) number is e f = subst (ReadsAs k size text) (some_is (one_word k word) value f) (number size text word is (word_found k text word e))

more_at : (k : Kind) (size : ℕ) (text : List ℕ) (value : Value) (o : Option (List ℤ)) → 4 < size → words_in k (pieces_of text) ≡ o → option_map (λ words. Words words) o ≡ Some value → ReadsAs k size text value
more_at k size text value None is e f = absurd (no_some value f)
more_at k size text value (Some words) is e f = subst (ReadsAs k size text) (some_is (Words words) value f) (is, spells_found k text words e)

number_at : (k : Kind) (size : ℕ) (text : List ℕ) (value : Value) (one more : Bool) → IsNumber k → (size == 4) ≡ one → nat_lt 4 size ≡ more → cond one (option_map (one_word k) (word_in k text)) (cond more (option_map (λ words. Words words) (words_in k (pieces_of text))) None) ≡ Some value → ReadsAs k size text value
number_at k size text value true more number o m e = one_at k size text value (word_in k text) number (four size o) refl e
number_at k size text value false true number o m e = more_at k size text value (words_in k (pieces_of text)) (above_four size m) refl e
number_at k size text value false false number o m e = absurd (no_some value e)

text_found : (text : List ℕ) (size : ℕ) (value : Value) → text_value_of text ≡ Some value → ReadsAs kind.String size text value
text_found text size value e =
    let P : Bool → Type 0 = λ t. list_any is_nul text ≡ t → cond t None (Some (Text text)) ≡ Some value → ReadsAs kind.String size text value in
    elim (list_any is_nul text) as P [
      | true ↦ λ n e. absurd (no_some value e)
      | false ↦ λ n e. subst (ReadsAs kind.String size text) (some_is (Text text) value e) (refl, refl, no_nul text n)
    ] refl e

as_found : (k : Kind) (size : ℕ) (text : List ℕ) (value : Value) → read_as k size text ≡ Some value → ReadsAs k size text value
as_found kind.Bool size text value e = flag_found text size value e
as_found kind.Int size text value e = number_at kind.Int size text value (size == 4) (nat_lt 4 size) (λ size text word is s. (refl, is, s)) refl refl e
as_found kind.Fixed size text value e = number_at kind.Fixed size text value (size == 4) (nat_lt 4 size) (λ size text word is s. (refl, is, s)) refl refl e
as_found kind.String size text value e = text_found text size value e
as_found kind.Button size text value e = absurd (no_some value e)
as_found kind.Group size text value e = absurd (no_some value e)

-- ---- and back

words_as : (k : Kind) (size : ℕ) (text : List ℕ) (words : List ℤ) → 4 < size → words_in k (pieces_of text) ≡ Some words → number_of k size text ≡ Some (Words words)
words_as k size text words more e =
    let one : (size == 4) ≡ false = grind (arith, nat_tests) in
    let some : nat_lt 4 size ≡ true = grind (arith, nat_tests) in
    rw (one, some, e) refl

none_each : (k : Kind) (pieces : List (List ℕ)) (words : List ℤ) → 1 ≤ length pieces → SpellsEach k pieces words → ((text : List ℕ) (word : ℤ) → SpellsWord k text word → ⊥) → ⊥
none_each k [] words some each none = (let h : 1 ≤ 0 = some in omega arith)
none_each k (piece ∷ pieces) [] some each none = each
none_each k (piece ∷ pieces) (word ∷ words) some each none = none piece word each.0

no_words : (k : Kind) (text : List ℕ) (words : List ℤ) → SpellsWords k text words → ((text : List ℕ) (word : ℤ) → SpellsWord k text word → ⊥) → ⊥
no_words k text words s none = none_each k s.pieces words s.some s.each none

words_back : (k : Kind) (size : ℕ) (text : List ℕ) (words : List ℤ) → 4 < size → SpellsWords k text words → read_as k size text ≡ Some (Words words)
words_back kind.Bool size text words more s = absurd (no_words kind.Bool text words s (λ t w f. f))
words_back kind.Int size text words more s = words_as kind.Int size text words more (spells_is kind.Int text words s)
words_back kind.Fixed size text words more s = words_as kind.Fixed size text words more (spells_is kind.Fixed text words s)
words_back kind.String size text words more s = absurd (no_words kind.String text words s (λ t w f. f))
words_back kind.Button size text words more s = absurd (no_words kind.Button text words s (λ t w f. f))
words_back kind.Group size text words more s = absurd (no_words kind.Group text words s (λ t w f. f))

as_is : (k : Kind) (size : ℕ) (text : List ℕ) (value : Value) → ReadsAs k size text value → read_as k size text ≡ Some value
as_is k size text (Flag true) r = rw (r.0, r.1) refl
as_is k size text (Flag false) r = rw (r.0, r.1) refl
as_is k size text (Int word) r = rw (r.0, r.1) (ap (option_map (one_word kind.Int)) (word_is kind.Int text word r.2))
as_is k size text (Fixed fixed) r = rw (r.0, r.1) (ap (option_map (one_word kind.Fixed)) (word_is kind.Fixed text fixed.0 r.2))
as_is k size text (Words words) r = words_back k size text words r.0 r.1
as_is k size text (Text own) r = rw (r.0, text_is_text text r.2, r.1) refl

same_reads : (desc : Descriptor) (text : List ℕ) (value : Value) → ReadsAs desc.kind desc.size text value → ReadsAsValue desc text value
same_reads desc text (Flag true) r = r
same_reads desc text (Flag false) r = r
same_reads desc text (Int word) r = r
same_reads desc text (Fixed fixed) r = r
same_reads desc text (Words words) r = r
same_reads desc text (Text own) r = r

same_reads_as : (desc : Descriptor) (text : List ℕ) (value : Value) → ReadsAsValue desc text value → ReadsAs desc.kind desc.size text value
same_reads_as desc text (Flag true) r = r
same_reads_as desc text (Flag false) r = r
same_reads_as desc text (Int word) r = r
same_reads_as desc text (Fixed fixed) r = r
same_reads_as desc text (Words words) r = r
same_reads_as desc text (Text own) r = r

pub Reads-read : (desc : Descriptor) (text : List ℕ) (value : Value) → read_value desc text ≡ Some value → ReadsAsValue desc text value
unfolding read_value
Reads-read desc text value e = same_reads desc text value (as_found desc.kind desc.size text value e)

pub read-Reads : (desc : Descriptor) (text : List ℕ) (value : Value) → ReadsAsValue desc text value → read_value desc text ≡ Some value
unfolding read_value
read-Reads desc text value r = as_is desc.kind desc.size text value (same_reads_as desc text value r)

pub read-none : (desc : Descriptor) (text : List ℕ) → read_value desc text ≡ None → (value : Value) → ReadsAsValue desc text value → ⊥
read-none desc text e value r = no_some value (sym e ∙ read-Reads desc text value r)

pub Reads-unique : (desc : Descriptor) (text : List ℕ) (a b : Value) → ReadsAsValue desc text a → ReadsAsValue desc text b → a ≡ b
Reads-unique desc text a b x y = some_is a b (sym (read-Reads desc text a x) ∙ read-Reads desc text b y)

-- ---- a text is taken over

pub text_taken : (text own : List ℕ) → own ≡ text → ((IsText text → ⊥) → ⊥) → text_value_of text ≡ Some (Text own)
text_taken text own same clean =
    let none : list_any is_nul text ≡ false = one_of (list_any is_nul text) (λ e. clean (λ is. is (has_nul text e))) in
    rw (none, same) refl

pub text_some : (text : List ℕ) → ((IsText text → ⊥) → ⊥) → IsSome (text_value_of text)
text_some text clean = ap is_some (text_taken text text refl clean)

-- The value computed is the one that is put, and the only one.
use Rattle.std.proofs.Common.{◌≡◌, ℤ, ℕ, Bool, true, false, cond, List, [], ◌∷◌, map, get_or, inl, inr, refl, sym, ap, ◌∙◌, subst}
use Rattle.std.specs.Prelude.{Option, Some, None, IfSome, option_map, option_and_then, slice_get}
use Rattle.std.proofs.lemmas.Option.{option_and_then_some, get_or_from_slice_get}
use Rattle.constraint.specs.Nearest.{PlaceByPlace, NearestEntry, FlagsDifference}
use Rattle.constraint.specs.NearestComputed.{nearest_entry}
use Rattle.constraint.proofs.RangeLaws.{NearestInRange-nearest_in_range, NearestInRange-unique}
use Rattle.constraint.proofs.ListLaws.{NearestInList-nearest_in_list, NearestInList-unique, PlaceByPlace-map, PlaceByPlace-unique}
use Rattle.constraint.proofs.EntryLaws.{NearestEntry-nearest_entry, nearest_entry-is}
use Rattle.option_desc.specs.declared.descriptor.Constraint.{Constraint}
use Rattle.option_desc.specs.declared.descriptor.Constraint.TheVariants.{Free, Span, Words as WordsOf, Strings}
use Rattle.option_desc.specs.declared.descriptor.Descriptor.{Descriptor}
use Rattle.option_desc.specs.declared.value.Value.{Value}
use Rattle.option_desc.specs.declared.value.Value.TheVariants.{Flag, Int, Fixed, Words, Text}
use Rattle.option_desc.specs.WellFormed.{IsWellFormed}
use Rattle.option_desc.specs.Fits.{fits_of}
use Rattle.option_desc.specs.Put.{NearestWord, NearestText, NearestValue, Puts, nearest_word, nearest_text, nearest_value, resolve}
use Rattle.option_desc.proofs.FitsLaws.{fits_of-Decides}

some_is : {X : Type 0} (a b : X) → ◌≡◌ {A = Option X} (Some a) (Some b) → a ≡ b
some_is a b e = (cc)

no_some : {X : Type 0} (a : X) → ◌≡◌ {A = Option X} None (Some a) → ⊥
no_some a e = (cc)

-- ---- words

pub NearestWord-nearest_word : (c : Constraint) (asked : ℤ) → IsWellFormed c → NearestWord c asked (nearest_word c asked)
NearestWord-nearest_word Free asked sound = refl
NearestWord-nearest_word (Span range) asked sound = NearestInRange-nearest_in_range range asked sound
NearestWord-nearest_word (WordsOf entries) asked sound = NearestInList-nearest_in_list entries asked sound.some
NearestWord-nearest_word (Strings texts) asked sound = refl

NearestWord-unique : (c : Constraint) (asked a b : ℤ) → NearestWord c asked a → NearestWord c asked b → a ≡ b
NearestWord-unique Free asked a b x y = x ∙ sym y
NearestWord-unique (Span range) asked a b x y = NearestInRange-unique range asked a b x y
NearestWord-unique (WordsOf entries) asked a b x y = NearestInList-unique entries asked a b x y
NearestWord-unique (Strings texts) asked a b x y = x ∙ sym y

-- ---- texts

NearestText-found : (c : Constraint) (asked text : List ℕ) → nearest_text c asked ≡ Some text → NearestText c asked text
NearestText-found Free asked text e = sym (some_is asked text e)
NearestText-found (Span range) asked text e = sym (some_is asked text e)
NearestText-found (WordsOf entries) asked text e = sym (some_is asked text e)
NearestText-found (Strings entries) asked text e =
    option_and_then_some (slice_get entries) (nearest_entry entries asked) text e (λ place at is. (place, NearestEntry-nearest_entry entries asked place at, is))

NearestText-is : (c : Constraint) (asked text : List ℕ) → NearestText c asked text → nearest_text c asked ≡ Some text
NearestText-is Free asked text n = ap Some (sym n)
NearestText-is (Span range) asked text n = ap Some (sym n)
NearestText-is (WordsOf entries) asked text n = ap Some (sym n)
NearestText-is (Strings entries) asked text n = ap (option_and_then (slice_get entries)) (nearest_entry-is entries asked n.0 n.1) ∙ n.2

-- ---- values

text_found : (c : Constraint) (asked : List ℕ) (given : Value) (o : Option (List ℕ)) → nearest_text c asked ≡ o → option_map (λ text. Text text) o ≡ Some given → NearestValue c (Text asked) given
text_found c asked given None e f = absurd (no_some given f)
text_found c asked given (Some text) e f = (text, NearestText-found c asked text e, sym (some_is (Text text) given f))

NearestValue-found : (c : Constraint) (asked given : Value) → IsWellFormed c → nearest_value c asked ≡ Some given → NearestValue c asked given
NearestValue-found c (Flag b) given sound e = sym (some_is (Flag b) given e)
NearestValue-found c (Int v) given sound e = (nearest_word c v, NearestWord-nearest_word c v sound, sym (some_is (Int (nearest_word c v)) given e))
NearestValue-found c (Fixed v) given sound e = (nearest_word c v.0, NearestWord-nearest_word c v.0 sound, sym (some_is (Fixed (record { 0 = nearest_word c v.0 })) given e))
NearestValue-found c (Words vs) given sound e = (map (nearest_word c) vs, PlaceByPlace-map (NearestWord c) (nearest_word c) vs (λ v. NearestWord-nearest_word c v sound), sym (some_is (Words (map (nearest_word c) vs)) given e))
NearestValue-found c (Text t) given sound e = text_found c t given (nearest_text c t) refl e

word_is : (c : Constraint) (v w : ℤ) → IsWellFormed c → NearestWord c v w → nearest_word c v ≡ w
word_is c v w sound n = NearestWord-unique c v (nearest_word c v) w (NearestWord-nearest_word c v sound) n

words_are : (c : Constraint) (vs ws : List ℤ) → IsWellFormed c → PlaceByPlace (NearestWord c) vs ws → map (nearest_word c) vs ≡ ws
words_are c vs ws sound n = PlaceByPlace-unique (NearestWord c) vs (map (nearest_word c) vs) ws (NearestWord-unique c) (PlaceByPlace-map (NearestWord c) (nearest_word c) vs (λ v. NearestWord-nearest_word c v sound)) n

NearestValue-is : (c : Constraint) (asked given : Value) → IsWellFormed c → NearestValue c asked given → nearest_value c asked ≡ Some given
NearestValue-is c (Flag b) given sound n = ap Some (sym n)
NearestValue-is c (Int v) given sound n = ap (λ w. Some (Int w)) (word_is c v n.0 sound n.1) ∙ ap Some (sym n.2)
NearestValue-is c (Fixed v) given sound n = ap (λ w. Some (Fixed (record { 0 = w }))) (word_is c v.0 n.0 sound n.1) ∙ ap Some (sym n.2)
NearestValue-is c (Words vs) given sound n = ap (λ ws. Some (Words ws)) (words_are c vs n.0 sound n.1) ∙ ap Some (sym n.2)
NearestValue-is c (Text t) given sound n = ap (option_map (λ text. Text text)) (NearestText-is c t n.0 n.1) ∙ ap Some (sym n.2)

pub NearestValue-unique : (c : Constraint) (asked a b : Value) → NearestValue c asked a → NearestValue c asked b → a ≡ b
NearestValue-unique c (Flag v) a b x y = x ∙ sym y
NearestValue-unique c (Int v) a b x y = x.2 ∙ ap (λ w. Int w) (NearestWord-unique c v x.0 y.0 x.1 y.1) ∙ sym y.2
NearestValue-unique c (Fixed v) a b x y = x.2 ∙ ap (λ w. Fixed (record { 0 = w })) (NearestWord-unique c v.0 x.0 y.0 x.1 y.1) ∙ sym y.2
NearestValue-unique c (Words vs) a b x y = x.2 ∙ ap (λ ws. Words ws) (PlaceByPlace-unique (NearestWord c) vs x.0 y.0 (NearestWord-unique c) x.1 y.1) ∙ sym y.2
NearestValue-unique c (Text t) a b x y = x.2 ∙ ap (λ u. Text u) (some_is x.0 y.0 (sym (NearestText-is c t x.0 x.1) ∙ NearestText-is c t y.0 y.1)) ∙ sym y.2

-- ---- what is put

pub Puts-resolve : (desc : Descriptor) (asked given : Value) → IsWellFormed desc.constraint → resolve desc asked ≡ Some given → Puts desc asked given
unfolding resolve
Puts-resolve desc asked given sound e =
    let P : Bool → Type 0 = λ t. fits_of desc asked ≡ t → cond t (nearest_value desc.constraint asked) None ≡ Some given → Puts desc asked given in
    elim (fits_of desc asked) as P [
      | true ↦ λ f e. record { fits = (fits_of-Decides desc asked).0 f; nearest = NearestValue-found desc.constraint asked given sound e }
      | false ↦ λ f e. absurd (no_some given e)
    ] refl e

pub resolve-Puts : (desc : Descriptor) (asked given : Value) → IsWellFormed desc.constraint → Puts desc asked given → resolve desc asked ≡ Some given
unfolding resolve
resolve-Puts desc asked given sound p = rw ((fits_of-Decides desc asked).1 p.fits) (NearestValue-is desc.constraint asked given sound p.nearest)

pub resolve-none : (desc : Descriptor) (asked : Value) → IsWellFormed desc.constraint → resolve desc asked ≡ None → (given : Value) → Puts desc asked given → ⊥
resolve-none desc asked sound e given p = no_some given (sym e ∙ resolve-Puts desc asked given sound p)

pub resolve-fits : (desc : Descriptor) (asked : Value) → fits_of desc asked ≡ true → resolve desc asked ≡ nearest_value desc.constraint asked
unfolding resolve
resolve-fits desc asked f = rw f refl

pub resolve-misfit : (desc : Descriptor) (asked : Value) → fits_of desc asked ≡ false → resolve desc asked ≡ None
unfolding resolve
resolve-misfit desc asked f = rw f refl

heads : (x y : ℤ) (xs ys : List ℤ) → x ≡ y → xs ≡ ys → x ∷ xs ≡ y ∷ ys
heads x y xs ys e f = (cc)

pub unbound : (c : Constraint) (words : List ℤ) (free : Constraint) → c ≡ free → ((word : ℤ) → nearest_word free word ≡ word) → words ≡ map (nearest_word c) words
unbound c [] free is same = refl
unbound c (word ∷ words) free is same = heads word (nearest_word c word) words (map (nearest_word c) words) (sym (ap (λ k. nearest_word k word) is ∙ same word)) (unbound c words free is same)

-- ---- the entry that a text is matched with

entry_place : (entries : List (List ℕ)) (asked : List ℕ) (place : ℕ) → NearestEntry entries asked place → (entry : List ℕ) × (slice_get entries place ≡ Some entry)
entry_place entries asked place n = elim n [ inl f ↦ (asked, f.equal) | inr o ↦ (o.begins.0, o.begins.1) ]

read_at : (entries : List (List ℕ)) (place : ℕ) (entry own : List ℕ) → slice_get entries place ≡ Some entry → own ≡ get_or entries place own → entry ≡ own
read_at entries place entry own at is = sym (get_or_from_slice_get entries place entry own at) ∙ sym is

pub given_entry : (entries list : List (List ℕ)) (asked : List ℕ) (place : ℕ) (own given : List ℕ) → list ≡ entries → NearestEntry entries asked place → own ≡ get_or list place own → given ≡ own → slice_get entries place ≡ Some given
given_entry entries list asked place own given same n is copy =
    let at = entry_place entries asked place n in
    at.1 ∙ ap Some (read_at entries place at.0 own at.1 (is ∙ ap (λ l. get_or l place own) same) ∙ sym copy)

pub given_text : (c : Constraint) (entries : List (List ℕ)) (asked : List ℕ) (place : ℕ) (given : List ℕ) → c ≡ Strings entries → Some place ≡ nearest_entry entries asked → slice_get entries place ≡ Some given → nearest_text c asked ≡ Some given
given_text c entries asked place given is at found =
    ap (λ k. nearest_text k asked) is ∙ ap (option_and_then (slice_get entries)) (sym at) ∙ found

pub given_differs : (entries : List (List ℕ)) (asked : List ℕ) (place : ℕ) (given : List ℕ) (differs : Bool) → slice_get entries place ≡ Some given → IfSome (slice_get entries place) (FlagsDifference differs asked) → FlagsDifference differs asked given
given_differs entries asked place given differs at tells = subst (λ o. IfSome o (FlagsDifference differs asked)) at tells

-- The value of a SET that a client sends: it is read again as what was asked for, or it fits no option of that kind and size.
use Rattle.std.specs.Prelude.{FitsSigned, neg_ℤ, option_and_then, ◌==◌, ◌&&◌, ◌*◌, ◌^◌, if◌then◌else◌, nat_le, nat_lt, position, take, codes, not, Err, ◌||◌, replicate}
use Rattle.std.specs.Int.{w32, cast_signed, cast_unsigned}
use Rattle.std.specs.List.{list_any, position_or_len}
use Rattle.std.specs.Str.{bytes_eq}
use Rattle.std.specs.Str.Parse.{digits_value}
use Rattle.std.proofs.Common.{◌≡◌, ◌≢◌, ◌⊎◌, inl, inr, ◌∙◌, ℕ, zero, suc, ℤ, pos, negsuc, ◌<◌, ◌≤◌, ◌+◌, ◌-◌, List, [], ◌∷◌, ◌++◌, Option, Some, None, option_map, Bool, true, false, cond, eqb, eqb-true, refl, sym, ap, subst, map, length, slice_get, arith}
use Rattle.std.proofs.lemmas.Bool.{eq-eqb, lt-ltb, ne_eqb}
use Rattle.std.proofs.lemmas.Bool.Decides.{nat_tests}
use Rattle.std.proofs.lemmas.Int.{to_z-of_z}
use Rattle.std.proofs.lemmas.List.{length-append, length-map, take-append-le}
use Rattle.std.proofs.lemmas.List.Folds.{position_or_len_push}
use Rattle.sane_fixed.specs.Kind.{kind_code}
use Rattle.sane_fixed.specs.Digits.{digit_count}
use Rattle.sane_fixed.specs.Decimal.{magnitude_of, word_of}
use Rattle.sane_fixed.specs.DecimalReading.{fixed_of, fraction_in, sign_at, whole_at}
use Rattle.sane_fixed.specs.declared.kind.Kind.{Kind}
use Rattle.sane_fixed.specs.declared.kind.Kind.TheVariants as kinds
use Rattle.option_desc.specs.declared.descriptor.Constraint.{Constraint}
use Rattle.option_desc.specs.declared.descriptor.Descriptor.{Descriptor}
use Rattle.option_desc.specs.declared.value.Value.{Value}
use Rattle.option_desc.specs.declared.value.Value.TheVariants.{Flag, Int, Fixed, Words, Text}
use Rattle.option_desc.specs.Fits.{fits_as, fits_of}
use Rattle.option_desc.specs.Reads.{integer_of, pieces_of, read_value, read_as, word_in, words_in}
use Rattle.wire_message.specs.declared.message.WireValue.{WireValue}
use Rattle.client_replies.specs.GivenValues.{given_like, wire_value_in}
use Rattle.wire_message.specs.WireValues.{text_in, wire_of}
use Rattle.saned_requests.specs.OptionValues.{asked_of, value_asked}
use Rattle.saned_requests.specs.OptionValues as daemon
use Rattle.saned_requests.specs.declared.session.StringSize.{StringSize}
use Rattle.saned_requests.specs.declared.session.StringSize.TheVariants.{OfText, OfOption}
use Rattle.device_api.specs.declared.scan_option.ScanOption.{ScanOption}
use Rattle.device_api.proofs.OptionForms.{OptionForm, form_of}
use Rattle.device_api.proofs.OptionForms.OptionForm.{OneInt, OneFixed, OneFlag, OneText, Table}
use Rattle.device_api.specs.Options.{descriptor_of, descriptors_of, is_active, option_at, option_caps, option_kind, option_size, options_of}
use Rattle.sane_fixed.specs.Cap.{has_cap}
use Rattle.device_api.specs.Values.{option_set, option_to_set, option_passing, put_answer, set_to}
use Rattle.scan_frames.specs.declared.setup.Setup.{Setup}
use Rattle.sane_fixed.specs.declared.status.Status.TheVariants as statuses
use Rattle.option_desc.specs.Put.{nearest_value, resolve}
use Rattle.system_model.specs.Devices.{Make, accept_value}
use Rattle.daemon_refines.proofs.Moved.{own, unsome}
use Rattle.daemon_refines.proofs.Scanning.{put_is}

-- ---- words fit in 32 bits

minus_fits : (m : ℕ) (b : Bool) → nat_le m (2 ^ 31) ≡ b → (w : ℤ) → (if b then Some (neg_ℤ (pos m)) else None) ≡ Some w → FitsSigned w32 w
minus_fits zero true e w h = subst (FitsSigned w32) (unsome (pos zero) w h) (record { sfits = omega arith })
minus_fits (suc m) true e w h = let low : suc m ≤ 2 ^ 31 = grind (arith, nat_tests, e) in subst (FitsSigned w32) (unsome (negsuc m) w h) (record { sfits = omega (arith, low) })
minus_fits m false e w h = absurd (let clash : None ≡ Some w = h in cc)

plus_fits : (m : ℕ) (b : Bool) → nat_lt m (2 ^ 31) ≡ b → (w : ℤ) → (if b then Some (pos m) else None) ≡ Some w → FitsSigned w32 w
plus_fits m true e w h = let low : m < 2 ^ 31 = grind (arith, nat_tests, e) in subst (FitsSigned w32) (unsome (pos m) w h) (record { sfits = omega (arith, low) })
plus_fits m false e w h = absurd (let clash : None ≡ Some w = h in cc)

word_fits : (negative : Bool) (m : ℕ) (w : ℤ) → word_of negative m ≡ Some w → FitsSigned w32 w
word_fits true m w e = minus_fits m (nat_le m (2 ^ 31)) refl w e
word_fits false m w e = plus_fits m (nat_lt m (2 ^ 31)) refl w e

integer_by : (b negative : Bool) (m : ℕ) (w : ℤ) → (if b then word_of negative m else None) ≡ Some w → FitsSigned w32 w
integer_by true negative m w e = word_fits negative m w e
integer_by false negative m w e = absurd (let clash : None ≡ Some w = e in cc)

integer_fits : (text : List ℕ) (w : ℤ) → integer_of text ≡ Some w → FitsSigned w32 w
unfolding integer_of
integer_fits text w e =
    integer_by ((digit_count (sign_at text).1 == length (sign_at text).1) && (nat_le 1 (length (sign_at text).1) && nat_le (length (sign_at text).1) 10)) (sign_at text).0 (digits_value 10 (sign_at text).1) w e

fraction_fits : (negative : Bool) (whole : List ℕ) (o : Option (List ℕ)) (w : ℤ) → option_and_then (λ fraction. word_of negative (magnitude_of whole fraction)) o ≡ Some w → FitsSigned w32 w
fraction_fits negative whole None w e = absurd (let clash : None ≡ Some w = e in cc)
fraction_fits negative whole (Some fraction) w e = word_fits negative (magnitude_of whole fraction) w e

fixed_by : (negative : Bool) (o : Option (List ℕ × List ℕ)) (w : ℤ) → option_and_then (λ whole. option_and_then (λ fraction. word_of negative (magnitude_of whole.0 fraction)) (fraction_in whole.1)) o ≡ Some w → FitsSigned w32 w
fixed_by negative None w e = absurd (let clash : None ≡ Some w = e in cc)
fixed_by negative (Some whole) w e = fraction_fits negative whole.0 (fraction_in whole.1) w e

fixed_fits : (text : List ℕ) (w : ℤ) → fixed_of text ≡ Some w → FitsSigned w32 w
unfolding fixed_of
fixed_fits text w e = fixed_by (sign_at text).0 (whole_at (sign_at text).1) w e

pub word_in_fits : (kind : Kind) (text : List ℕ) (w : ℤ) → word_in kind text ≡ Some w → FitsSigned w32 w
word_in_fits kinds.Int text w e = integer_fits text w e
word_in_fits kinds.Fixed text w e = fixed_fits text w e
word_in_fits kinds.Bool text w e = absurd (let clash : None ≡ Some w = e in cc)
word_in_fits kinds.String text w e = absurd (let clash : None ≡ Some w = e in cc)
word_in_fits kinds.Button text w e = absurd (let clash : None ≡ Some w = e in cc)
word_in_fits kinds.Group text w e = absurd (let clash : None ≡ Some w = e in cc)

pub again : (w : ℤ) → FitsSigned w32 w → cast_signed w32 (cast_unsigned w32 w) ≡ w
again w f = to_z-of_z w32 w f

abbrev sent_again : List ℤ → List ℤ
sent_again words = map (cast_signed w32) (map (cast_unsigned w32) words)

more_again : (kind : Kind) (text : List ℕ) (o : Option ℤ) (p : Option (List ℤ)) (words : List ℤ) → word_in kind text ≡ o → ((ws : List ℤ) → p ≡ Some ws → sent_again ws ≡ ws) → option_and_then (λ word. option_map (λ words. word ∷ words) p) o ≡ Some words → sent_again words ≡ words
more_again kind text None p words e more h = absurd (let clash : None ≡ Some words = h in cc)
more_again kind text (Some w) None words e more h = absurd (let clash : None ≡ Some words = h in cc)
more_again kind text (Some w) (Some ws) words e more h =
    let is : w ∷ ws ≡ words = unsome (w ∷ ws) words h in
    let same : sent_again (w ∷ ws) ≡ w ∷ ws = ap (λ (x : ℤ). x ∷ sent_again ws) (again w (word_in_fits kind text w e)) ∙ ap (λ (x : List ℤ). w ∷ x) (more ws refl) in
    subst (λ (x : List ℤ). sent_again x ≡ x) is same

words_again : (kind : Kind) (pieces : List (List ℕ)) (words : List ℤ) → words_in kind pieces ≡ Some words → sent_again words ≡ words
words_again kind [] words e = subst (λ (x : List ℤ). sent_again x ≡ x) (unsome [] words e) refl
words_again kind (piece ∷ pieces) words e = more_again kind piece (word_in kind piece) (words_in kind pieces) words refl (λ ws h. words_again kind pieces ws h) e

-- ---- a text ends at its NUL

either_false : (a b : Bool) → (a || b) ≡ false → (a ≡ false) × (b ≡ false)
either_false true b e = absurd (let clash : true ≡ false = e in cc)
either_false false b e = (refl, e)

no_nul : (text : List ℕ) → list_any (λ b. b == 0) text ≡ false → position_or_len (λ b. b == 0) text ≡ length text
no_nul [] e = refl
no_nul (c ∷ text) e =
    let parts = either_false (c == 0) (list_any (λ b. b == 0) text) e in
    let more = no_nul text parts.1 in
    let total : 1 + position_or_len (λ b. b == 0) text ≡ suc (length text) = omega (arith, more) in
    ap (λ (x : Bool). cond (not x) (1 + position_or_len (λ b. b == 0) text) 0) parts.0 ∙ total

take_front : (text more : List ℕ) → take (length text) (text ++ more) ≡ text
take_front [] more = refl
take_front (c ∷ text) more = ap (λ (x : List ℕ). c ∷ x) (take_front text more)

pub text_again : (text : List ℕ) → list_any (λ b. b == 0) text ≡ false → text_in (text ++ 0 ∷ []) ≡ Some text
text_again text e =
    let long : length (text ++ 0 ∷ []) ≡ length text + 1 = length-append text (0 ∷ []) in
    let same : eqb (length text) (length text) ≡ true = own (length text) in
    let at : position_or_len (λ b. b == 0) (text ++ 0 ∷ []) ≡ length text =
    position_or_len_push (λ b. b == 0) text 0 ∙ ap (λ (n : ℕ). cond (eqb n (length text)) (length text + 0) n) (no_nul text e) ∙ ap (λ (b : Bool). cond b (length text + 0) (length text)) same ∙ (let plain : length text + 0 ≡ length text = omega arith in plain) in
    let within : nat_lt (length text) (length (text ++ 0 ∷ [])) ≡ true = lt-ltb (length text) (length (text ++ 0 ∷ [])) (omega (arith, long)) in
    let found : position (λ b. b == 0) (text ++ 0 ∷ []) ≡ Some (length text) =
    ap (λ (n : ℕ). cond (nat_lt n (length (text ++ 0 ∷ []))) (Some n) None) at ∙ ap (λ (b : Bool). cond b (Some (length text)) None) within in
    ap (option_map (λ n. take n (text ++ 0 ∷ []))) found ∙ ap (λ (x : List ℕ). Some x) (take_front text (0 ∷ []))

-- ---- by an option's kind and size

-- what comes of it at an option of that kind and size: it is asked for, or it does not fit
abbrev pub Comes : Kind → ℕ → Constraint → Value → Option Value → Type 0
Comes kind size constraint asked o = (o ≡ Some asked) ⊎ ((o ≡ None) × (fits_as kind size constraint asked ≡ false))

abbrev described : Kind → ℕ → Descriptor → Descriptor
described kind size desc = record desc { kind = kind; size = size }

-- one word
one_int : (desc : Descriptor) (text : List ℕ) (asked : Value) (o : Option ℤ) → word_in kinds.Int text ≡ o → option_map (λ word. Int word) o ≡ Some asked → asked_of (described kinds.Int 4 desc) (wire_of asked) ≡ Some asked
one_int desc text asked None e h = absurd (let clash : None ≡ Some asked = h in cc)
one_int desc text asked (Some w) e h =
    subst (λ (v : Value). asked_of (described kinds.Int 4 desc) (wire_of v) ≡ Some v) (unsome (Int w) asked h) (ap (λ (x : ℤ). Some (Int x)) (again w (word_in_fits kinds.Int text w e)))

one_fixed : (desc : Descriptor) (text : List ℕ) (asked : Value) (o : Option ℤ) → word_in kinds.Fixed text ≡ o → option_map (λ word. Fixed (record { 0 = word })) o ≡ Some asked → asked_of (described kinds.Fixed 4 desc) (wire_of asked) ≡ Some asked
one_fixed desc text asked None e h = absurd (let clash : None ≡ Some asked = h in cc)
one_fixed desc text asked (Some w) e h =
    subst (λ (v : Value). asked_of (described kinds.Fixed 4 desc) (wire_of v) ≡ Some v) (unsome (Fixed (record { 0 = w })) asked h) (ap (λ (x : ℤ). Some (Fixed (record { 0 = x }))) (again w (word_in_fits kinds.Fixed text w e)))

-- 256 words, or another number
ints_again : (words : List ℤ) (n : ℕ) → length words ≡ suc (suc n) → sent_again words ≡ words → daemon.ints_of (map (cast_unsigned w32) words) ≡ Words words
ints_again [] n e h = absurd (let clash : zero ≡ suc (suc n) = e in omega (arith, clash))
ints_again (w ∷ []) n e h = absurd (let clash : 1 ≡ suc (suc n) = e in omega (arith, clash))
ints_again (w ∷ v ∷ words) n e h = ap (λ (x : List ℤ). Words x) h

words_by : (desc : Descriptor) (words : List ℤ) (b : Bool) → (length (map (cast_unsigned w32) words) * 4 == 1024) ≡ b → sent_again words ≡ words → Comes kinds.Int 1024 desc.constraint (Words words) (asked_of (described kinds.Int 1024 desc) (wire_of (Words words)))
words_by desc words true e h =
    let many : length (map (cast_unsigned w32) words) * 4 ≡ 1024 = eqb-true (length (map (cast_unsigned w32) words) * 4) 1024 e in
    let same : length (map (cast_unsigned w32) words) ≡ length words = length-map words (cast_unsigned w32) in
    let count : length words ≡ suc (suc 254) = omega (arith, many, same) in
    inl (ap (λ (b : Bool). if b then Some (daemon.ints_of (map (cast_unsigned w32) words)) else None) e ∙ ap (λ (v : Value). Some v) (ints_again words 254 count h))
words_by desc words false e h =
    let same : length (map (cast_unsigned w32) words) ≡ length words = length-map words (cast_unsigned w32) in
    let few : length words ≢ 256 = λ is. let whole : (length (map (cast_unsigned w32) words) * 4 == 1024) ≡ true = eq-eqb (length (map (cast_unsigned w32) words) * 4) 1024 (omega (arith, is, same)) in let clash : true ≡ false = sym whole ∙ e in absurd (cc) in
    inr (ap (λ (b : Bool). if b then Some (daemon.ints_of (map (cast_unsigned w32) words)) else None) e, ne_eqb (length words) 256 few)

many_ints : (desc : Descriptor) (text : List ℕ) (asked : Value) (o : Option (List ℤ)) → words_in kinds.Int (pieces_of text) ≡ o → option_map (λ words. Words words) o ≡ Some asked → Comes kinds.Int 1024 desc.constraint asked (asked_of (described kinds.Int 1024 desc) (wire_of asked))
many_ints desc text asked None e h = absurd (let clash : None ≡ Some asked = h in cc)
many_ints desc text asked (Some words) e h =
    subst (λ (v : Value). Comes kinds.Int 1024 desc.constraint v (asked_of (described kinds.Int 1024 desc) (wire_of v))) (unsome (Words words) asked h)
    (words_by desc words (length (map (cast_unsigned w32) words) * 4 == 1024) refl (words_again kinds.Int (pieces_of text) words e))

-- a flag
flags : (desc : Descriptor) (asked : Value) (a b : Bool) → (if a then Some (Flag true) else (if b then Some (Flag false) else None)) ≡ Some asked → asked_of (described kinds.Bool 4 desc) (wire_of asked) ≡ Some asked
flags desc asked true b h = subst (λ (v : Value). asked_of (described kinds.Bool 4 desc) (wire_of v) ≡ Some v) (unsome (Flag true) asked h) refl
flags desc asked false true h = subst (λ (v : Value). asked_of (described kinds.Bool 4 desc) (wire_of v) ≡ Some v) (unsome (Flag false) asked h) refl
flags desc asked false false h = absurd (let clash : None ≡ Some asked = h in cc)

-- a text
texts : (desc : Descriptor) (size : ℕ) (text : List ℕ) (asked : Value) (b : Bool) → list_any (λ c. c == 0) text ≡ b → (if b then None else Some (Text text)) ≡ Some asked → asked_of (described kinds.String size desc) (wire_of asked) ≡ Some asked
texts desc size text asked true e h = absurd (let clash : None ≡ Some asked = h in cc)
texts desc size text asked false e h =
    subst (λ (v : Value). asked_of (described kinds.String size desc) (wire_of v) ≡ Some v) (unsome (Text text) asked h) (ap (option_map (λ text. Text text)) (text_again text e))

abbrev IsComing : Kind → ℕ → Descriptor → List ℕ → Value → Type 0
IsComing kind size desc text asked = read_as kind size text ≡ Some asked → Comes kind size desc.constraint asked (asked_of (described kind size desc) (wire_of asked))

coming_at : (kind own : Kind) (size n : ℕ) (desc : Descriptor) (text : List ℕ) (asked : Value) → kind ≡ own → size ≡ n → IsComing own n desc text asked → IsComing kind size desc text asked
coming_at kind own size n desc text asked k s h = subst (λ (x : Kind). IsComing x size desc text asked) (sym k) (subst (λ (x : ℕ). IsComing own x desc text asked) (sym s) h)

by_form : (kind : Kind) (size : ℕ) (desc : Descriptor) (text : List ℕ) (asked : Value) → OptionForm kind size → IsComing kind size desc text asked
by_form kind size desc text asked (OneInt k s) = coming_at kind kinds.Int size 4 desc text asked k s (λ e. inl (one_int desc text asked (word_in kinds.Int text) refl e))
by_form kind size desc text asked (OneFixed k s) = coming_at kind kinds.Fixed size 4 desc text asked k s (λ e. inl (one_fixed desc text asked (word_in kinds.Fixed text) refl e))
by_form kind size desc text asked (OneFlag k s) = coming_at kind kinds.Bool size 4 desc text asked k s (λ e. inl (flags desc asked (bytes_eq text (codes "yes")) (bytes_eq text (codes "no")) e))
by_form kind size desc text asked (OneText k) = coming_at kind kinds.String size size desc text asked k refl (λ e. inl (texts desc size text asked (list_any (λ c. c == 0) text) refl e))
by_form kind size desc text asked (Table k s) = coming_at kind kinds.Int size 1024 desc text asked k s (λ e. many_ints desc text asked (words_in kinds.Int (pieces_of text)) refl e)

-- ---- the descriptors of a device

-- a descriptor of the table is one of an option
pub record IsOption (setup : Setup) (n : ℕ) (desc : Descriptor) : Type 0 where
  pub option : ScanOption
  pub at : slice_get (options_of setup.scene.kind) n ≡ Some option
  pub is : desc ≡ descriptor_of setup option

option_in : (setup : Setup) (options : List ScanOption) (n : ℕ) (desc : Descriptor) → slice_get (map (descriptor_of setup) options) n ≡ Some desc → (o : ScanOption) × (slice_get options n ≡ Some o) × (desc ≡ descriptor_of setup o)
option_in setup [] n desc e = absurd (let clash : None ≡ Some desc = e in cc)
option_in setup (o ∷ options) zero desc e = (o, refl, sym (unsome (descriptor_of setup o) desc e))
option_in setup (o ∷ options) (suc n) desc e = option_in setup options n desc e

pub is_option : (setup : Setup) (n : ℕ) (desc : Descriptor) → slice_get (descriptors_of setup) n ≡ Some desc → IsOption setup n desc
is_option setup n desc e = let o = option_in setup (options_of setup.scene.kind) n desc e in record { option = o.0; at = o.1; is = o.2 }

same_kind : (kind : Kind) (desc : Descriptor) (value : WireValue) → desc.kind ≡ kind → value_asked desc kind value ≡ asked_of desc value
same_kind kind desc value e = ap (λ (b : Bool). if b then asked_of desc value else None) (eq-eqb (kind_code kind) (kind_code desc.kind) (ap kind_code (sym e)))

of_option : (setup : Setup) (o : ScanOption) (text : List ℕ) (asked : Value) → read_value (descriptor_of setup o) text ≡ Some asked → Comes (option_kind o) (option_size o) (descriptor_of setup o).constraint asked (value_asked (descriptor_of setup o) (descriptor_of setup o).kind (wire_of asked))
unfolding read_value descriptor_of
of_option setup o text asked e =
    subst (Comes (option_kind o) (option_size o) (descriptor_of setup o).constraint asked) (sym (same_kind (option_kind o) (descriptor_of setup o) (wire_of asked) refl)) (by_form (option_kind o) (option_size o) (descriptor_of setup o) text asked (form_of o) e)

-- what is not of an option's form is refused
resolves_none : (desc : Descriptor) (asked : Value) → fits_of desc asked ≡ false → resolve desc asked ≡ None
unfolding resolve
resolves_none desc asked e = ap (λ (b : Bool). if b then nearest_value desc.constraint asked else None) e

set_none : (setup : Setup) (o : Option ScanOption) (asked : Value) → ((p : ScanOption) → o ≡ Some p → resolve (descriptor_of setup p) asked ≡ None) → set_to setup o asked ≡ Err statuses.Inval
set_none setup None asked h = refl
set_none setup (Some o) asked h = ap (put_answer setup o asked) (h o refl)

pub passing_is : (test : ScanOption → Bool) (o : Option ScanOption) (p : ScanOption) → option_passing test o ≡ Some p → o ≡ Some p
passing_is test None p e = absurd (let clash : None ≡ Some p = e in cc)
passing_is test (Some q) p e = by_test (test q) e
  where
    by_test : (b : Bool) → (if b then Some q else None) ≡ Some p → Some q ≡ Some p
    by_test true h = h
    by_test false h = absurd (let clash : None ≡ Some p = h in cc)

pub at_number : (setup : Setup) (n : ℕ) (o p : ScanOption) → slice_get (options_of setup.scene.kind) n ≡ Some o → option_at setup.scene.kind n ≡ Some p → p ≡ o
unfolding option_at
at_number setup n o p e f = unsome p o (sym f ∙ e)

set_refused : (setup : Setup) (n : ℕ) (o : ScanOption) (asked : Value) → slice_get (options_of setup.scene.kind) n ≡ Some o → fits_of (descriptor_of setup o) asked ≡ false → option_set setup n asked ≡ Err statuses.Inval
unfolding option_set
set_refused setup n o asked e h =
    set_none setup (option_to_set setup n) asked (λ p is.
    let same = at_number setup n o p e (passing_is (λ o. is_active setup o && has_cap (option_caps o) 1) (option_at setup.scene.kind n) p is) in
    resolves_none (descriptor_of setup p) asked (ap (λ (x : ScanOption). fits_of (descriptor_of setup x) asked) same ∙ h))

put_refused : (make : Make) (setup : Setup) (n : ℕ) (asked : Value) → option_set setup n asked ≡ Err statuses.Inval → accept_value make setup n asked ≡ None
put_refused make setup n asked e = put_is make setup n asked (Err statuses.Inval) e

fits_option : (setup : Setup) (o : ScanOption) (asked : Value) → fits_as (option_kind o) (option_size o) (descriptor_of setup o).constraint asked ≡ false → fits_of (descriptor_of setup o) asked ≡ false
unfolding descriptor_of
fits_option setup o asked e = e

-- it is asked for again, or the daemon and the model refuses it
pub record IsAsked (make : Make) (setup : Setup) (n : ℕ) (desc : Descriptor) (asked : Value) : Type 0 where
  pub comes : (value_asked desc desc.kind (wire_of asked) ≡ Some asked) ⊎ ((value_asked desc desc.kind (wire_of asked) ≡ None) × (accept_value make setup n asked ≡ None))

option_comes : (make : Make) (setup : Setup) (n : ℕ) (o : ScanOption) (text : List ℕ) (asked : Value) → slice_get (options_of setup.scene.kind) n ≡ Some o → Comes (option_kind o) (option_size o) (descriptor_of setup o).constraint asked (value_asked (descriptor_of setup o) (descriptor_of setup o).kind (wire_of asked)) →
    IsAsked make setup n (descriptor_of setup o) asked
option_comes make setup n o text asked at (inl e) = record { comes = inl e }
option_comes make setup n o text asked at (inr e) = record { comes = inr (e.0, put_refused make setup n asked (set_refused setup n o asked at (fits_option setup o asked e.1))) }

pub asked_again : (make : Make) (setup : Setup) (n : ℕ) (desc : Descriptor) (text : List ℕ) (asked : Value) → slice_get (descriptors_of setup) n ≡ Some desc → read_value desc text ≡ Some asked → IsAsked make setup n desc asked
asked_again make setup n desc text asked at reads =
    let o = is_option setup n desc at in
    subst (λ (d : Descriptor). IsAsked make setup n d asked) (sym o.is) (option_comes make setup n o.option text asked o.at (of_option setup o.option text asked (subst (λ (d : Descriptor). read_value d text ≡ Some asked) o.is reads)))

-- ---- what stands behind a text's NUL is not read

abbrev is_nul : ℕ → Bool
is_nul b = b == 0

first_same : (text more : List ℕ) → position_or_len is_nul ((text ++ 0 ∷ []) ++ more) ≡ position_or_len is_nul (text ++ 0 ∷ [])
first_same [] more = refl
first_same (c ∷ text) more = ap (λ (n : ℕ). cond (not (is_nul c)) (1 + n) 0) (first_same text more)

first_by : (b : Bool) (n m : ℕ) → n < m → cond (not b) (1 + n) 0 < suc m
first_by true n m h = omega arith
first_by false n m h = omega (arith, h)

first_within : (text : List ℕ) → position_or_len is_nul (text ++ 0 ∷ []) < length (text ++ 0 ∷ [])
first_within [] = omega arith
first_within (c ∷ text) = first_by (is_nul c) (position_or_len is_nul (text ++ 0 ∷ [])) (length (text ++ 0 ∷ [])) (first_within text)

nul_found : (bytes : List ℕ) (n : ℕ) → position_or_len is_nul bytes ≡ n → n < length bytes → position is_nul bytes ≡ Some n
nul_found bytes n e h = ap (λ (k : ℕ). cond (nat_lt k (length bytes)) (Some k) None) e ∙ ap (λ (b : Bool). cond b (Some n) None) (lt-ltb n (length bytes) h)

pub text_alone : (text more : List ℕ) → text_in ((text ++ 0 ∷ []) ++ more) ≡ text_in (text ++ 0 ∷ [])
text_alone text more =
    let bytes : List ℕ = text ++ 0 ∷ [] in
    let n : ℕ = position_or_len is_nul bytes in
    let within : n < length bytes = first_within text in
    let long : length (bytes ++ more) ≡ length bytes + length more = length-append bytes more in
    let longer : n < length (bytes ++ more) = omega (arith, within, long) in
    let below : n ≤ length bytes = omega (arith, within) in
    ap (option_map (λ k. take k (bytes ++ more))) (nul_found (bytes ++ more) n (first_same text more) longer)
    ∙ ap (λ (x : List ℕ). Some x) (take-append-le n bytes more below)
    ∙ sym (ap (option_map (λ k. take k bytes)) (nul_found bytes n refl within))

-- So a value is read alike, however long string values are sent: as what is given in place of another, and as what is told.
pub given_alike : (strings : StringSize) (size : ℕ) (asked value : Value) → given_like asked (daemon.sent_as strings size value) ≡ given_like asked (wire_of value)
given_alike OfText size asked value = refl
given_alike OfOption size asked (Flag b) = refl
given_alike OfOption size asked (Int n) = refl
given_alike OfOption size asked (Fixed f) = refl
given_alike OfOption size asked (Words words) = refl
given_alike OfOption size (Flag b) (Text text) = refl
given_alike OfOption size (Int n) (Text text) = refl
given_alike OfOption size (Fixed f) (Text text) = refl
given_alike OfOption size (Words words) (Text text) = refl
given_alike OfOption size (Text asked) (Text text) = ap (option_map (λ t. Text t)) (text_alone text (replicate (size - length (text ++ 0 ∷ [])) 0))

pub told_alike : (strings : StringSize) (size : ℕ) (kind : Kind) (value : Value) → wire_value_in kind (daemon.sent_as strings size value) ≡ wire_value_in kind (wire_of value)
told_alike OfText size kind value = refl
told_alike OfOption size kind (Flag b) = refl
told_alike OfOption size kind (Int n) = refl
told_alike OfOption size kind (Fixed f) = refl
told_alike OfOption size kind (Words words) = refl
told_alike OfOption size kinds.Bool (Text text) = refl
told_alike OfOption size kinds.Int (Text text) = refl
told_alike OfOption size kinds.Fixed (Text text) = refl
told_alike OfOption size kinds.String (Text text) = ap (option_map (λ t. Text t)) (text_alone text (replicate (size - length (text ++ 0 ∷ [])) 0))
told_alike OfOption size kinds.Button (Text text) = refl
told_alike OfOption size kinds.Group (Text text) = refl

-- The values that a device gives and tells come back from the wire as they are.
use Rattle.std.specs.Prelude.{FitsSigned, ◌==◌, if◌then◌else◌}
use Rattle.std.specs.Int.{w32, cast_signed, cast_unsigned}
use Rattle.std.specs.List.{AllByRecursion, list_any}
use Rattle.std.proofs.Common.{◌≡◌, ◌∙◌, ℕ, suc, ℤ, List, [], ◌∷◌, Some, None, option_map, Bool, true, false, refl, sym, ap, subst, map, length}
use Rattle.std.proofs.lemmas.Bool.{eq-eqb}
use Rattle.std.proofs.lemmas.List.{length-map}
use Rattle.sane_fixed.specs.declared.kind.Kind.{Kind}
use Rattle.sane_fixed.specs.declared.kind.Kind.TheVariants as kinds
use Rattle.constraint.specs.Nearest.{PlaceByPlace}
use Rattle.option_desc.specs.declared.descriptor.Constraint.{Constraint}
use Rattle.option_desc.specs.declared.value.Value.{Value}
use Rattle.option_desc.specs.declared.value.Value.TheVariants.{Flag, Int, Fixed, Words, Text}
use Rattle.option_desc.specs.Put.{NearestValue, NearestWord}
use Rattle.page_picture.specs.declared.scene.DeviceKind.{DeviceKind}
use Rattle.scan_frames.specs.declared.setup.Setup.{Setup}
use Rattle.device_api.specs.ScannerLimits.{IsAllowed}
use Rattle.device_api.specs.declared.scan_option.ScanOption.{ScanOption}
use Rattle.device_api.specs.Options.{option_constraint, option_kind, option_size}
use Rattle.device_api.specs.Values.{option_value}
use Rattle.client_replies.specs.GivenValues.{given_like, wire_value_in}
use Rattle.wire_message.specs.WireValues.{wire_of}
use Rattle.scan_job.specs.KnownValues.{has_one_value}
use Rattle.device_api.proofs.SentOptions.{HeldValue, NearestFits, held_value, texts_have_no_nul, words_fit}
use Rattle.device_api.proofs.SentOptions.HeldValue.{HeldInt, HeldFixed, HeldFlag, HeldText, HeldTable}
use Rattle.world_refines.proofs.requests.SentValues.{again, text_again}

-- ---- a value that is given

-- what was asked for is held: words fit, and a text has no NUL
abbrev pub IsSent : Value → Type 0
IsSent (Flag b) = Unit {0}
IsSent (Int w) = FitsSigned w32 w
IsSent (Fixed f) = FitsSigned w32 f.0
IsSent (Words words) = AllByRecursion (FitsSigned w32) words
IsSent (Text text) = list_any (λ b. b == 0) text ≡ false

places_again : (constraint : Constraint) → NearestFits constraint → (asked words : List ℤ) → AllByRecursion (FitsSigned w32) asked → PlaceByPlace (NearestWord constraint) asked words → (length words ≡ length asked) × (map (cast_signed w32) (map (cast_unsigned w32) words) ≡ words)
places_again constraint b [] [] h n = (refl, refl)
places_again constraint b [] (w ∷ words) h n = absurd n
places_again constraint b (a ∷ asked) [] h n = absurd n
places_again constraint b (a ∷ asked) (w ∷ words) h n =
    let more = places_again constraint b asked words h.1 n.1 in
    (ap suc more.0, ap (λ (x : ℤ). x ∷ map (cast_signed w32) (map (cast_unsigned w32) words)) (again w (b a w h.0 n.0)) ∙ ap (λ (x : List ℤ). w ∷ x) more.1)

words_like_same : (asked words : List ℤ) → length words ≡ length asked → map (cast_signed w32) (map (cast_unsigned w32) words) ≡ words → given_like (Words asked) (wire_of (Words words)) ≡ Some (Words words)
words_like_same asked words count h =
    let same : length (map (cast_unsigned w32) words) ≡ length asked = length-map words (cast_unsigned w32) ∙ count in
    ap (λ (b : Bool). if b then Some (Words (map (cast_signed w32) (map (cast_unsigned w32) words))) else None) (eq-eqb (length (map (cast_unsigned w32) words)) (length asked) same) ∙ ap (λ (x : List ℤ). Some (Words x)) h

flag_again : (b : Bool) → given_like (Flag b) (wire_of (Flag b)) ≡ Some (Flag b)
flag_again true = refl
flag_again false = refl

pub given_again : (kind : DeviceKind) (o : ScanOption) (asked given : Value) → IsSent asked → NearestValue (option_constraint kind o) asked given → given_like asked (wire_of given) ≡ Some given
given_again kind o (Flag b) given s n = subst (λ (v : Value). given_like (Flag b) (wire_of v) ≡ Some v) (sym n) (flag_again b)
given_again kind o (Int w) given s n =
    subst (λ (v : Value). given_like (Int w) (wire_of v) ≡ Some v) (sym n.2) (ap (λ (x : ℤ). Some (Int x)) (again n.0 (words_fit kind o w n.0 s n.1)))
given_again kind o (Fixed f) given s n =
    subst (λ (v : Value). given_like (Fixed f) (wire_of v) ≡ Some v) (sym n.2) (ap (λ (x : ℤ). Some (Fixed (record { 0 = x }))) (again n.0 (words_fit kind o f.0 n.0 s n.1)))
given_again kind o (Words words) given s n =
    let p = places_again (option_constraint kind o) (words_fit kind o) words n.0 s n.1 in
    subst (λ (v : Value). given_like (Words words) (wire_of v) ≡ Some v) (sym n.2) (words_like_same words n.0 p.0 p.1)
given_again kind o (Text text) given s n =
    subst (λ (v : Value). given_like (Text text) (wire_of v) ≡ Some v) (sym n.2) (ap (option_map (λ t. Text t)) (text_again n.0 (texts_have_no_nul kind o text n.0 s n.1)))

-- ---- a value that is told

no_table : (A : Type 0) → has_one_value kinds.Int 1024 ≡ true → A
no_table A e = absurd (let clash : false ≡ true = e in cc)

flag_told : (b : Bool) → wire_value_in kinds.Bool (wire_of (Flag b)) ≡ Some (Flag b)
flag_told true = refl
flag_told false = refl

abbrev IsToldAgain : Kind → ℕ → Value → Type 0
IsToldAgain kind size value = has_one_value kind size ≡ true → wire_value_in kind (wire_of value) ≡ Some value

told_at : (kind own : Kind) (size : ℕ) (value held : Value) → kind ≡ own → value ≡ held → IsToldAgain own size held → IsToldAgain kind size value
told_at kind own size value held k v h = subst (λ (x : Kind). IsToldAgain x size value) (sym k) (subst (λ (x : Value). IsToldAgain own size x) (sym v) h)

told_by : (kind : Kind) (size : ℕ) (value : Value) → HeldValue kind size value → IsToldAgain kind size value
told_by kind size value (HeldInt k word v fits) = told_at kind kinds.Int size value (Int word) k v (λ one. ap (λ (x : ℤ). Some (Int x)) (again word fits))
told_by kind size value (HeldFixed k length v fits) = told_at kind kinds.Fixed size value (Fixed length) k v (λ one. ap (λ (x : ℤ). Some (Fixed (record { 0 = x }))) (again length.0 fits))
told_by kind size value (HeldFlag k flag v) = told_at kind kinds.Bool size value (Flag flag) k v (λ one. flag_told flag)
told_by kind size value (HeldText k text v clear) = told_at kind kinds.String size value (Text text) k v (λ one. ap (option_map (λ t. Text t)) (text_again text clear))
told_by kind size value (HeldTable k n) = λ one. no_table _ (subst (λ (x : Kind). has_one_value x 1024 ≡ true) k (subst (λ (x : ℕ). has_one_value kind x ≡ true) n one))

pub told_again : (s : Setup) (o : ScanOption) → IsAllowed s → IsToldAgain (option_kind o) (option_size o) (option_value s o)
told_again s o a = told_by (option_kind o) (option_size o) (option_value s o) (held_value s o a)

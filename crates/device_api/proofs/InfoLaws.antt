-- What a set tells.
use Rattle.std.proofs.Common.{◌≡◌, ◌∙◌, sym, ap, refl, ℕ, ℤ, Bool, true, false, not, Decides}
use Rattle.std.specs.Prelude.{Some, Ok}
use Rattle.std.proofs.lemmas.Bool.{false≢true}
use Rattle.std.specs.Cmp.{signed_Decides}
use Rattle.std.specs.Cmp.Rules.{signed_items}
use Rattle.std.proofs.lemmas.Slice.Eq.{bytes_eq-Decides}
use Rattle.constraint.specs.Nearest.{FlagsDifference}
use Rattle.option_desc.specs.declared.value.Value.{Value}
use Rattle.option_desc.specs.declared.value.Value.TheVariants.{Flag, Int, Fixed, Words, Text}
use Rattle.sane_fixed.specs.declared.info.Info.{Info}
use Rattle.option_desc.specs.Put.{resolve}
use Rattle.scan_frames.specs.declared.setup.Setup.{Setup}
use Rattle.device_api.specs.declared.scan_option.ScanOption.{ScanOption}
use Rattle.device_api.specs.Options.{descriptor_of}
use Rattle.device_api.specs.Values.{same_value, with_value, option_to_set, option_set, set_to, put_answer, setup_after, with_given, info_bits, info_of, reloads, bears_on_params}

flags_same : (a b : Bool) → Decides (same_value (Flag a) (Flag b)) (Flag a ≡ Flag b)
flags_same true true = (λ e. refl, λ p. refl)
flags_same true false = (λ e. absurd (false≢true e), λ p. absurd (cc))
flags_same false true = (λ e. absurd (false≢true e), λ p. absurd (cc))
flags_same false false = (λ e. refl, λ p. refl)

apart : {P : Type 0} → (P → ⊥) → Decides false P
apart f = (λ e. absurd (false≢true e), λ p. absurd (f p))

pub same_value-Decides : (a b : Value) → Decides (same_value a b) (a ≡ b)
same_value-Decides (Flag a) (Flag b) = flags_same a b
same_value-Decides (Int a) (Int b) = (λ e. ap (λ w. Int w) ((signed_Decides a b).0 e), λ p. (signed_Decides a b).1 (cc))
same_value-Decides (Fixed a) (Fixed b) = (λ e. ap (λ w. Fixed (record { 0 = w })) ((signed_Decides a.0 b.0).0 e), λ p. (signed_Decides a.0 b.0).1 (ap word p))
  where
    word : Value → ℤ
    word (Fixed f) = f.0
    word _ = a.0
same_value-Decides (Words a) (Words b) = (λ e. ap (λ w. Words w) ((signed_items a b).0 e), λ p. (signed_items a b).1 (cc))
same_value-Decides (Text a) (Text b) = (λ e. ap (λ t. Text t) ((bytes_eq-Decides a b).0 e), λ p. (bytes_eq-Decides a b).1 (cc))
same_value-Decides (Flag a) (Int b) = apart (λ p. (cc))
same_value-Decides (Flag a) (Fixed b) = apart (λ p. (cc))
same_value-Decides (Flag a) (Words b) = apart (λ p. (cc))
same_value-Decides (Flag a) (Text b) = apart (λ p. (cc))
same_value-Decides (Int a) (Flag b) = apart (λ p. (cc))
same_value-Decides (Int a) (Fixed b) = apart (λ p. (cc))
same_value-Decides (Int a) (Words b) = apart (λ p. (cc))
same_value-Decides (Int a) (Text b) = apart (λ p. (cc))
same_value-Decides (Fixed a) (Flag b) = apart (λ p. (cc))
same_value-Decides (Fixed a) (Int b) = apart (λ p. (cc))
same_value-Decides (Fixed a) (Words b) = apart (λ p. (cc))
same_value-Decides (Fixed a) (Text b) = apart (λ p. (cc))
same_value-Decides (Words a) (Flag b) = apart (λ p. (cc))
same_value-Decides (Words a) (Int b) = apart (λ p. (cc))
same_value-Decides (Words a) (Fixed b) = apart (λ p. (cc))
same_value-Decides (Words a) (Text b) = apart (λ p. (cc))
same_value-Decides (Text a) (Flag b) = apart (λ p. (cc))
same_value-Decides (Text a) (Int b) = apart (λ p. (cc))
same_value-Decides (Text a) (Fixed b) = apart (λ p. (cc))
same_value-Decides (Text a) (Words b) = apart (λ p. (cc))

same_case : (asked given : Value) (same differs : Bool) → Decides same (asked ≡ given) → FlagsDifference differs asked given → differs ≡ not same
same_case asked given true true d t = absurd (t (sym (d.0 refl)))
same_case asked given true false d t = refl
same_case asked given false true d t = refl
same_case asked given false false d t = absurd (false≢true (d.1 (sym t)))

-- the flag of a put is INEXACT
pub inexact_is : (asked given : Value) (differs : Bool) → FlagsDifference differs asked given → differs ≡ not (same_value asked given)
inexact_is asked given differs t = same_case asked given (same_value asked given) differs (same_value-Decides asked given) t

-- the answer of a set that put a value
pub set_gives : (s new : Setup) (n : ℕ) (o : ScanOption) (asked given : Value) (differs reload params : Bool) (info : Info) → option_to_set s n ≡ Some o → resolve (descriptor_of s o) asked ≡ Some given → FlagsDifference differs asked given → new ≡ with_value s o given → reload ≡ reloads s new → params ≡ bears_on_params o → info ≡ info_bits differs reload params → Ok (given, info) ≡ option_set s n asked
unfolding option_set
set_gives s new n o asked given differs reload params info found put differs_is new_is reload_is params_is info_is =
    let inexact : differs ≡ not (same_value asked given) = inexact_is asked given differs differs_is in
    let reload_after : reload ≡ reloads s (with_value s o given) = reload_is ∙ ap (λ t. reloads s t) new_is in
    let told : info ≡ info_of s o asked given =
    info_is ∙ ap (λ b. info_bits b reload params) inexact ∙ ap (λ b. info_bits (not (same_value asked given)) b params) reload_after
    ∙ ap (λ b. info_bits (not (same_value asked given)) (reloads s (with_value s o given)) b) params_is in
    ap (λ i. Ok (given, i)) told ∙ sym (ap (λ x. set_to s x asked) found ∙ ap (λ x. put_answer s o asked x) put)

pub after_is : (s new : Setup) (n : ℕ) (o : ScanOption) (given : Value) → option_to_set s n ≡ Some o → new ≡ with_value s o given → new ≡ setup_after s n given
unfolding setup_after
after_is s new n o given found new_is = new_is ∙ sym (ap (λ x. with_given s x given) found)

-- A value that is put leaves the values of the other options.
use Rattle.std.proofs.Common.{◌≡◌, ◌≢◌, refl, ℕ, Bool, true, false, cond, List, [], ◌∷◌, map}
use Rattle.std.specs.Prelude.{Some, unsigned_abs}
use Rattle.std.specs.List.{AllByRecursion}
use Rattle.std.specs.Str.{bytes_eq}
use Rattle.sane_fixed.specs.declared.fixed.Fixed.{Fixed as Length}
use Rattle.option_desc.specs.declared.value.Value.{Value}
use Rattle.option_desc.specs.declared.value.Value.TheVariants.{Flag, Int, Fixed, Words, Text}
use Rattle.scan_frames.specs.declared.setup.Setup.{Setup}
use Rattle.device_api.specs.declared.choice.Choice.{Choice}
use Rattle.device_api.specs.declared.choice.Choice.TheVariants as choice
use Rattle.device_api.specs.declared.scan_option.ScanOption.{ScanOption}
use Rattle.device_api.specs.declared.scan_option.ScanOption.TheVariants.{Mode, Depth, Resolution, TlX, TlY, BrX, BrY, GammaTable, RedGammaTable, GreenGammaTable, BlueGammaTable, ThreePassOrder, PplLoss, ReadLimitSize, ReadReturnValue}
use Rattle.device_api.specs.Options.{choice_text, choices_of}
use Rattle.device_api.specs.Values.{option_value, with_value, with_number, with_length, with_table, with_choice, with_chosen, choice_of}
use Rattle.device_api.proofs.BackLaws.{belongs, all_belong}

number_other : (s : Setup) (o p : ScanOption) (n : ℕ) → o ≢ p → option_value (with_number s o n) p ≡ option_value s p
unfolding option_value
number_other s Depth Depth n apart = absurd (apart refl)
number_other s Depth _ n apart = refl
number_other s Resolution Resolution n apart = absurd (apart refl)
number_other s Resolution _ n apart = refl
number_other s PplLoss PplLoss n apart = absurd (apart refl)
number_other s PplLoss _ n apart = refl
number_other s ReadLimitSize ReadLimitSize n apart = absurd (apart refl)
number_other s ReadLimitSize _ n apart = refl
number_other s _ p n apart = refl

length_other : (s : Setup) (o p : ScanOption) (l : Length) → o ≢ p → option_value (with_length s o l) p ≡ option_value s p
unfolding option_value
length_other s TlX TlX l apart = absurd (apart refl)
length_other s TlX _ l apart = refl
length_other s TlY TlY l apart = absurd (apart refl)
length_other s TlY _ l apart = refl
length_other s BrX BrX l apart = absurd (apart refl)
length_other s BrX _ l apart = refl
length_other s BrY BrY l apart = absurd (apart refl)
length_other s BrY _ l apart = refl
length_other s _ p l apart = refl

table_other : (s : Setup) (o p : ScanOption) (t : List ℕ) → o ≢ p → option_value (with_table s o t) p ≡ option_value s p
unfolding option_value
table_other s GammaTable GammaTable t apart = absurd (apart refl)
table_other s GammaTable _ t apart = refl
table_other s RedGammaTable RedGammaTable t apart = absurd (apart refl)
table_other s RedGammaTable _ t apart = refl
table_other s GreenGammaTable GreenGammaTable t apart = absurd (apart refl)
table_other s GreenGammaTable _ t apart = refl
table_other s BlueGammaTable BlueGammaTable t apart = absurd (apart refl)
table_other s BlueGammaTable _ t apart = refl
table_other s _ p t apart = refl

choice_other : (s : Setup) (o p : ScanOption) (c : Choice) → belongs o c → o ≢ p → option_value (with_choice s c) p ≡ option_value s p
unfolding option_value
choice_other s Mode Mode (choice.Mode m) b apart = absurd (apart refl)
choice_other s Mode _ (choice.Mode m) b apart = refl
choice_other s ThreePassOrder ThreePassOrder (choice.Passes q) b apart = absurd (apart refl)
choice_other s ThreePassOrder _ (choice.Passes q) b apart = refl
choice_other s ReadReturnValue ReadReturnValue (choice.ReadStatus t) b apart = absurd (apart refl)
choice_other s ReadReturnValue _ (choice.ReadStatus t) b apart = refl
choice_other s _ p _ b apart = absurd b

chosen_other : (s : Setup) (o p : ScanOption) (cs : List Choice) (t : List ℕ) → AllByRecursion (belongs o) cs → o ≢ p → option_value (with_chosen s (choice_of cs t)) p ≡ option_value s p
chosen_other s o p [] t all apart = refl
chosen_other s o p (c ∷ cs) t all apart = pick (bytes_eq (choice_text c) t) (choice_other s o p c all.0 apart) (chosen_other s o p cs t all.1 apart)
  where
    pick : (b : Bool) → option_value (with_choice s c) p ≡ option_value s p → option_value (with_chosen s (choice_of cs t)) p ≡ option_value s p → option_value (with_chosen s (cond b (Some c) (choice_of cs t))) p ≡ option_value s p
    pick true here rest = here
    pick false here rest = rest

pub value_other : (s : Setup) (o p : ScanOption) (v : Value) → o ≢ p → option_value (with_value s o v) p ≡ option_value s p
unfolding with_value
value_other s o p (Flag _) apart = refl
value_other s o p (Int w) apart = number_other s o p (unsigned_abs w) apart
value_other s o p (Fixed l) apart = length_other s o p l apart
value_other s o p (Words ws) apart = table_other s o p (map (λ word. unsigned_abs word) ws) apart
value_other s o p (Text t) apart = chosen_other s o p (choices_of o) t (all_belong o) apart

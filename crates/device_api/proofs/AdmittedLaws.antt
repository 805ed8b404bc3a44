-- What is put is admitted.
use Rattle.std.proofs.Common.{◌≡◌, ◌≤◌, ◌+◌, ◌*◌, inl, inr, ◌∙◌, sym, subst, refl, ℕ, ℤ, pos, Bool, true, false, cond, List, [], ◌∷◌, ◌++◌, length, map, All, arith}
use Rattle.std.specs.Prelude.{Option, Some, None, option_map, ◌-ℤ◌}
use Rattle.std.specs.List.{AllByRecursion}
use Rattle.std.proofs.lemmas.List.{length-map}
use Rattle.std.proofs.lemmas.List.Elements.{All-nil, All-cons}
use Rattle.std.proofs.lemmas.Bool.Decides.{Decides-eqb}
use Rattle.sane_fixed.specs.declared.fixed.Fixed.{Fixed as Length}
use Rattle.constraint.specs.Admitted.{Bounds}
use Rattle.constraint.specs.NearestComputed.{height, step_of, steps_to, nearest_in_range, nearest_in_list}
use Rattle.constraint.proofs.RangeLaws.{steps_reach}
use Rattle.constraint.proofs.ListLaws.{NearestInList-nearest_in_list}
use Rattle.option_desc.specs.declared.value.Value.{Value}
use Rattle.option_desc.specs.declared.value.Value.TheVariants.{Flag, Int, Fixed, Words, Text}
use Rattle.option_desc.specs.Fits.{fits_of}
use Rattle.option_desc.specs.Put.{resolve, nearest_value, nearest_text, nearest_word}
use Rattle.page_picture.specs.declared.scene.DeviceKind.{DeviceKind}
use Rattle.page_picture.specs.declared.scene.DeviceKind.TheVariants.{Hand, ThreePass}
use Rattle.scan_frames.specs.declared.setup.Setup.{Setup}
use Rattle.device_api.specs.declared.scan_option.ScanOption.{ScanOption}
use Rattle.device_api.specs.declared.scan_option.ScanOption.TheVariants.{Depth, Resolution, TlX, TlY, BrX, BrY, GammaTable, RedGammaTable, GreenGammaTable, BlueGammaTable, PplLoss, ReadLimitSize}
use Rattle.device_api.specs.Options.{depths_of, resolutions_of, option_constraint, descriptor_of}
use Rattle.device_api.specs.Kinds.{greatest_resolution}
use Rattle.device_api.specs.ScannerLimits.{IsBetween, IsOnBed}
use Rattle.device_api.specs.AdmittedOptions.{IsByte, IsAdmittedNumber, IsAdmittedTable, IsAdmitted}

pub in_range : (low high quant room : ℕ) (asked : ℤ) → low + room ≤ high → height (pos high -ℤ pos low) ≡ room → IsBetween low high (nearest_in_range (record { min = pos low; max = pos high; quant = pos quant }) asked)
unfolding nearest_in_range
in_range low high quant room asked fits room_is =
    let range : Bounds = record { min = pos low; max = pos high; quant = pos quant } in
    let steps : ℕ = steps_to range asked * step_of range in
    let reach : steps ≤ height (pos high -ℤ pos low) = steps_reach range asked in
    record { number = low + steps; is = refl; low_is = omega arith; high_is = omega arith }

all_middle : (P : ℤ → Type 0) (before : List ℤ) (word : ℤ) (after : List ℤ) → AllByRecursion P (before ++ word ∷ after) → P word
all_middle P [] word after all = all.0
all_middle P (b ∷ before) word after all = all_middle P before word after all.1

in_list : (P : ℤ → Type 0) (entries : List ℤ) (asked : ℤ) → 1 ≤ length entries → AllByRecursion P entries → P (nearest_in_list entries asked)
in_list P entries asked some all =
    let n = NearestInList-nearest_in_list entries asked some in
    all_middle P n.before (nearest_in_list entries asked) n.after (subst (AllByRecursion P) n.listed all)

depth_in : (k : DeviceKind) (asked : ℤ) → IsAdmittedNumber k Depth (nearest_in_list (depths_of k) asked)
depth_in Hand asked = in_list (IsAdmittedNumber Hand Depth) (depths_of Hand) asked (omega arith) (inl refl, (inr (inl refl), tt))
depth_in ThreePass asked = in_list (IsAdmittedNumber ThreePass Depth) (depths_of ThreePass) asked (omega arith) (inr (inl refl), (inr (inr refl), tt))
depth_in k asked = in_list (IsAdmittedNumber k Depth) (depths_of k) asked (omega arith) (inl refl, (inr (inl refl), (inr (inr refl), tt)))

between : (low high n : ℕ) → low ≤ n → n ≤ high → IsBetween low high (pos n)
between low high n l h = record { number = n; is = refl; low_is = l; high_is = h }

resolution_in : (k : DeviceKind) (asked : ℤ) → IsBetween 1 (greatest_resolution k) (nearest_word (resolutions_of k) asked)
resolution_in Hand asked =
    in_list (IsBetween 1 300) (pos 75 ∷ pos 100 ∷ pos 150 ∷ pos 300 ∷ []) asked (omega arith)
    (between 1 300 75 (omega arith) (omega arith), (between 1 300 100 (omega arith) (omega arith), (between 1 300 150 (omega arith) (omega arith), (between 1 300 300 (omega arith) (omega arith), tt))))
resolution_in _ asked = in_range 1 1200 1 1199 asked (omega arith) refl

number_in : (k : DeviceKind) (o : ScanOption) (asked : ℤ) → IsAdmittedNumber k o (nearest_word (option_constraint k o) asked)
number_in k Depth asked = depth_in k asked
number_in k Resolution asked = resolution_in k asked
number_in k PplLoss asked = in_range 0 64 1 64 asked (omega arith) refl
number_in k ReadLimitSize asked = in_range 1 65536 1 65535 asked (omega arith) refl
number_in k _ asked = tt

on_bed : (asked : ℤ) → IsOnBed (record { 0 = nearest_in_range (record { min = pos 0; max = pos (200 * 65536); quant = pos 65536 }) asked })
on_bed asked = in_range 0 (200 * 65536) 65536 (200 * 65536) asked (omega arith) refl

length_in : (k : DeviceKind) (o : ScanOption) (asked : Length) → IsAdmitted k o (Fixed (record { 0 = nearest_word (option_constraint k o) asked.0 }))
length_in k TlX asked = on_bed asked.0
length_in k TlY asked = on_bed asked.0
length_in k BrX asked = on_bed asked.0
length_in k BrY asked = on_bed asked.0
length_in k _ asked = tt

bytes_in : (words : List ℤ) → All IsByte (map (nearest_in_range (record { min = pos 0; max = pos 255; quant = pos 1 })) words)
bytes_in [] = All-nil IsByte
bytes_in (w ∷ words) = All-cons IsByte _ (map (nearest_in_range (record { min = pos 0; max = pos 255; quant = pos 1 })) words) (in_range 0 255 1 255 w (omega arith) refl) (bytes_in words)

table_in : (k : DeviceKind) (o : ScanOption) (words : List ℤ) (s : Setup) → fits_of (descriptor_of s o) (Words words) ≡ true → IsAdmittedTable o (map (nearest_word (option_constraint k o)) words)
unfolding descriptor_of
table_in k GammaTable words s fits = (length-map words _ ∙ (Decides-eqb (length words) 256).0 fits, bytes_in words)
table_in k RedGammaTable words s fits = (length-map words _ ∙ (Decides-eqb (length words) 256).0 fits, bytes_in words)
table_in k GreenGammaTable words s fits = (length-map words _ ∙ (Decides-eqb (length words) 256).0 fits, bytes_in words)
table_in k BlueGammaTable words s fits = (length-map words _ ∙ (Decides-eqb (length words) 256).0 fits, bytes_in words)
table_in k _ words s fits = tt

pub some_is : (a b : Value) → Some a ≡ Some b → b ≡ a
some_is a b e = (cc)

no_some : {P : Type 0} (a : Value) → None ≡ Some a → P
no_some a e = absurd (cc)

text_given : (k : DeviceKind) (o : ScanOption) (given : Value) (t : Option (List ℕ)) → option_map (λ t. Text t) t ≡ Some given → IsAdmitted k o given
text_given k o given None e = no_some given e
text_given k o given (Some t) e = subst (IsAdmitted k o) (sym (some_is (Text t) given e)) tt

put_in : (s : Setup) (o : ScanOption) (asked given : Value) (fits : Bool) → fits_of (descriptor_of s o) asked ≡ fits → cond fits (nearest_value (option_constraint s.scene.kind o) asked) None ≡ Some given → IsAdmitted s.scene.kind o given
put_in s o asked given false f e = no_some given e
put_in s o (Flag b) given true f e = subst (IsAdmitted s.scene.kind o) (sym (some_is (Flag b) given e)) tt
put_in s o (Int w) given true f e =
    subst (IsAdmitted s.scene.kind o) (sym (some_is (Int (nearest_word (option_constraint s.scene.kind o) w)) given e)) (number_in s.scene.kind o w)
put_in s o (Fixed l) given true f e =
    subst (IsAdmitted s.scene.kind o) (sym (some_is (Fixed (record { 0 = nearest_word (option_constraint s.scene.kind o) l.0 })) given e)) (length_in s.scene.kind o l)
put_in s o (Words ws) given true f e =
    subst (IsAdmitted s.scene.kind o) (sym (some_is (Words (map (nearest_word (option_constraint s.scene.kind o)) ws)) given e)) (table_in s.scene.kind o ws s f)
put_in s o (Text t) given true f e = text_given s.scene.kind o given (nearest_text (option_constraint s.scene.kind o) t) e

pub admitted : (s : Setup) (o : ScanOption) (asked given : Value) → resolve (descriptor_of s o) asked ≡ Some given → IsAdmitted s.scene.kind o given
unfolding resolve descriptor_of
admitted s o asked given e = put_in s o asked given (fits_of (descriptor_of s o) asked) refl e

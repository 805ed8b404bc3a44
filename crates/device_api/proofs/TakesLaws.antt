-- Which values an option takes.
use Rattle.std.proofs.Common.{◌≡◌, ◌==◌, inl, inr, ap, refl, ℕ, ℤ, Bool, true, false, cond, List, length, map}
use Rattle.std.specs.Prelude.{Option, Some, None, is_some, option_map, option_and_then, slice_get}
use Rattle.sane_fixed.specs.declared.fixed.Fixed.{Fixed as Length}
use Rattle.constraint.specs.Nearest.{NearestEntry}
use Rattle.constraint.specs.NearestComputed.{nearest_entry}
use Rattle.constraint.proofs.EntryLaws.{NearestEntry-nearest_entry}
use Rattle.option_desc.specs.declared.value.Value.{Value}
use Rattle.option_desc.specs.declared.value.Value.TheVariants.{Flag, Int, Fixed, Words, Text}
use Rattle.option_desc.specs.Put.{resolve}
use Rattle.scan_frames.specs.declared.setup.Setup.{Setup}
use Rattle.device_api.specs.declared.scan_option.ScanOption.{ScanOption}
use Rattle.device_api.specs.declared.scan_option.ScanOption.TheVariants.{NumOptions, Mode, GammaTable, RedGammaTable, GreenGammaTable, BlueGammaTable, ThreePassOrder, ReadReturnValue, HandScanner}
use Rattle.device_api.specs.Options.{choice_text, choices_of, descriptor_of}
use Rattle.device_api.specs.AdmittedOptions.{takes, takes_flag, takes_number, takes_length, takes_words}

flag_taken : (s : Setup) (o : ScanOption) (b : Bool) → is_some (resolve (descriptor_of s o) (Flag b)) ≡ takes_flag o
unfolding resolve descriptor_of
flag_taken s NumOptions b = refl
flag_taken s HandScanner b = refl
flag_taken s _ b = refl

number_taken : (s : Setup) (o : ScanOption) (w : ℤ) → is_some (resolve (descriptor_of s o) (Int w)) ≡ takes_number o
unfolding resolve descriptor_of
number_taken s NumOptions w = refl
number_taken s _ w = refl

length_taken : (s : Setup) (o : ScanOption) (l : Length) → is_some (resolve (descriptor_of s o) (Fixed l)) ≡ takes_length o
unfolding resolve descriptor_of
length_taken s NumOptions l = refl
length_taken s _ l = refl

is_some-if : {A : Type 0} (b : Bool) (x : A) → is_some (cond b (Some x) None) ≡ b
is_some-if true x = refl
is_some-if false x = refl

words_taken : (s : Setup) (o : ScanOption) (ws : List ℤ) → is_some (resolve (descriptor_of s o) (Words ws)) ≡ takes_words o (length ws)
unfolding resolve descriptor_of
words_taken s GammaTable ws = is_some-if (length ws == 256) _
words_taken s RedGammaTable ws = is_some-if (length ws == 256) _
words_taken s GreenGammaTable ws = is_some-if (length ws == 256) _
words_taken s BlueGammaTable ws = is_some-if (length ws == 256) _
words_taken s _ ws = refl

-- the place of an entry is one of the list
entry_there : (entries : List (List ℕ)) (text : List ℕ) (p : ℕ) → NearestEntry entries text p → is_some (slice_get entries p) ≡ true
entry_there entries text p (inl e) = ap is_some e.equal
entry_there entries text p (inr e) = ap is_some e.begins.1

text_found : (entries : List (List ℕ)) (text : List ℕ) (o : Option ℕ) → nearest_entry entries text ≡ o → is_some (option_map (λ t. Text t) (option_and_then (slice_get entries) o)) ≡ is_some o
text_found entries text None e = refl
text_found entries text (Some p) e = there (slice_get entries p) (entry_there entries text p (NearestEntry-nearest_entry entries text p e))
  where
    there : (o : Option (List ℕ)) → is_some o ≡ true → is_some (option_map (λ t. Text t) o) ≡ true
    there (Some t) h = refl
    there None h = h

text_taken : (s : Setup) (o : ScanOption) (text : List ℕ) → is_some (resolve (descriptor_of s o) (Text text)) ≡ is_some (nearest_entry (map choice_text (choices_of o)) text)
unfolding resolve descriptor_of nearest_entry
text_taken s Mode text = text_found (map choice_text (choices_of Mode)) text (nearest_entry (map choice_text (choices_of Mode)) text) refl
text_taken s ThreePassOrder text = text_found (map choice_text (choices_of ThreePassOrder)) text (nearest_entry (map choice_text (choices_of ThreePassOrder)) text) refl
text_taken s ReadReturnValue text = text_found (map choice_text (choices_of ReadReturnValue)) text (nearest_entry (map choice_text (choices_of ReadReturnValue)) text) refl
text_taken s _ text = refl

-- an option takes just the values that it has a nearest one for
pub taken : (s : Setup) (o : ScanOption) (v : Value) → is_some (resolve (descriptor_of s o) v) ≡ takes o v
taken s o (Flag b) = flag_taken s o b
taken s o (Int w) = number_taken s o w
taken s o (Fixed l) = length_taken s o l
taken s o (Words ws) = words_taken s o ws
taken s o (Text text) = text_taken s o text

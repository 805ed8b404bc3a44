-- FACTS OF THE OPTION TABLE: what an option admits, and what it holds, can be sent: words fit in 32 bits, and texts have no NUL.
use Rattle.std.specs.Prelude.{FitsSigned, ◌==◌, ◌^◌, ◌*◌, ◌+ℤ◌, ◌*ℤ◌, ◌≤ℤ◌, Option, Some, None, slice_get}
use Rattle.std.specs.Int.{w32}
use Rattle.std.specs.List.{AllByRecursion, list_any}
use Rattle.std.proofs.Common.{◌≡◌, ◌⊎◌, inl, inr, ℕ, zero, suc, ℤ, pos, negsuc, ◌<◌, ◌≤◌, List, [], ◌∷◌, ◌++◌, Bool, true, false, refl, sym, subst, map, length, arith}
use Rattle.std.proofs.lemmas.Int.{ints}
use Rattle.sane_fixed.specs.declared.fixed.Fixed.{Fixed as Length}
use Rattle.sane_fixed.specs.declared.kind.Kind.{Kind}
use Rattle.sane_fixed.specs.declared.kind.Kind.TheVariants as kinds
use Rattle.sane_fixed.specs.declared.status.Status.{Status as Code}
use Rattle.sane_fixed.specs.declared.status.Status.TheVariants as statuses
use Rattle.constraint.specs.Admitted.{AdmittedByRange}
use Rattle.option_desc.specs.declared.descriptor.Constraint.{Constraint}
use Rattle.option_desc.specs.declared.descriptor.Constraint.TheVariants.{Free, Span, Strings, Words as WordsOf}
use Rattle.option_desc.specs.declared.value.Value.{Value}
use Rattle.option_desc.specs.declared.value.Value.TheVariants.{Flag, Int, Fixed, Text}
use Rattle.option_desc.specs.Put.{NearestText, NearestWord}
use Rattle.page_picture.specs.declared.scene.DeviceKind.{DeviceKind}
use Rattle.page_picture.specs.declared.scene.DeviceKind.TheVariants.{Hand, ThreePass}
use Rattle.page_picture.specs.declared.scene.Mode.TheVariants.{Gray, Color}
use Rattle.scan_frames.specs.declared.setup.PassOrder.TheVariants.{Rgb, Rbg, Gbr, Grb, Brg, Bgr}
use Rattle.scan_frames.specs.declared.setup.Setup.{Setup}
use Rattle.device_api.specs.ScannerLimits.{IsAllowed, IsBetween}
use Rattle.device_api.specs.declared.choice.Choice.TheVariants as choice
use Rattle.device_api.specs.declared.scan_option.ScanOption.{ScanOption}
use Rattle.device_api.specs.declared.scan_option.ScanOption.TheVariants.{NumOptions, Mode, Depth, Resolution, TlX, TlY, BrX, BrY, GammaTable, RedGammaTable, GreenGammaTable, BlueGammaTable, ThreePassOrder, PplLoss, ReadLimitSize, ReadReturnValue, HandScanner}
use Rattle.device_api.specs.Options.{choice_text, choices_of, depths_of, lengths, option_constraint, option_kind, option_size, options_of, resolutions_of, tones}
use Rattle.device_api.specs.Values.{option_value}

some_is : {A : Type 0} (a b : A) → ◌≡◌ {A = Option A} (Some a) (Some b) → a ≡ b
some_is a b e = cc

-- ---- words that an option admits fit in 32 bits

abbrev pub NearestFits : Constraint → Type 0
NearestFits constraint = (asked word : ℤ) → FitsSigned w32 asked → NearestWord constraint asked word → FitsSigned w32 word

step_fits : (low quant high k : ℕ) (word : ℤ) → high < 2 ^ 31 → word ≡ (pos low +ℤ (pos k *ℤ pos quant)) → word ≤ℤ pos high → FitsSigned w32 word
step_fits low quant high k word small is most = at_word word is most
  where
    at_word : (w : ℤ) → w ≡ (pos low +ℤ (pos k *ℤ pos quant)) → w ≤ℤ pos high → FitsSigned w32 w
    at_word (pos n) e m = record { sfits = omega (arith, ints, m, small) }
    at_word (negsuc n) e m = absurd (omega (arith, ints, e))

free_bounded : NearestFits Free
free_bounded asked word fits e = subst (FitsSigned w32) (sym e) fits

span_bounded : (low quant high : ℕ) → high < 2 ^ 31 → 1 ≤ quant → NearestFits (Span (record { min = pos low; max = pos high; quant = pos quant }))
span_bounded low quant high small some asked word fits h = by_admitted h.admitted
  where
    by_admitted : AdmittedByRange (record { min = pos low; max = pos high; quant = pos quant }) word → FitsSigned w32 word
    by_admitted (most, inl none) = absurd (omega (arith, ints, none.0, some))
    by_admitted (most, inr step) = step_fits low quant high step.0 word small step.1 most

listed_fits : (entries before after : List ℤ) (word : ℤ) → AllByRecursion (FitsSigned w32) entries → entries ≡ before ++ word ∷ after → FitsSigned w32 word
listed_fits [] [] after word h e = absurd (let clash : [] ≡ word ∷ after = e in cc)
listed_fits [] (b ∷ before) after word h e = absurd (let clash : [] ≡ b ∷ (before ++ word ∷ after) = e in cc)
listed_fits (x ∷ entries) [] after word h e = let same : x ≡ word = cc in subst (FitsSigned w32) same h.0
listed_fits (x ∷ entries) (b ∷ before) after word h e = let same : entries ≡ before ++ word ∷ after = cc in listed_fits entries before after word h.1 same

words_bounded : (entries : List ℤ) → AllByRecursion (FitsSigned w32) entries → NearestFits (WordsOf entries)
words_bounded entries h asked word fits n = listed_fits entries n.before n.after word h n.listed

strings_bounded : (entries : List (List ℕ)) → NearestFits (Strings entries)
strings_bounded entries asked word fits e = subst (FitsSigned w32) (sym e) fits

small : (n : ℕ) → n < 2 ^ 31 → FitsSigned w32 (pos n)
small n low = record { sfits = omega (arith, low) }

depths_bounded : (kind : DeviceKind) → NearestFits (WordsOf (depths_of kind))
depths_bounded Hand = words_bounded (depths_of Hand) (small 1 (omega arith), (small 8 (omega arith), tt))
depths_bounded ThreePass = words_bounded (depths_of ThreePass) (small 8 (omega arith), (small 16 (omega arith), tt))
depths_bounded kind = words_bounded (depths_of kind) (small 1 (omega arith), (small 8 (omega arith), (small 16 (omega arith), tt)))

resolutions_bounded : (kind : DeviceKind) → NearestFits (resolutions_of kind)
resolutions_bounded Hand = words_bounded (pos 75 ∷ pos 100 ∷ pos 150 ∷ pos 300 ∷ []) (small 75 (omega arith), (small 100 (omega arith), (small 150 (omega arith), (small 300 (omega arith), tt))))
resolutions_bounded _ = span_bounded 1 1 1200 (omega arith) (omega arith)

lengths_bounded : NearestFits lengths
lengths_bounded = span_bounded 0 65536 (200 * 65536) (omega arith) (omega arith)

tones_bounded : NearestFits tones
tones_bounded = span_bounded 0 1 255 (omega arith) (omega arith)

pub words_fit : (kind : DeviceKind) (o : ScanOption) → NearestFits (option_constraint kind o)
words_fit kind NumOptions = free_bounded
words_fit kind Mode = strings_bounded (map choice_text (choices_of Mode))
words_fit kind Depth = depths_bounded kind
words_fit kind Resolution = resolutions_bounded kind
words_fit kind TlX = lengths_bounded
words_fit kind TlY = lengths_bounded
words_fit kind BrX = lengths_bounded
words_fit kind BrY = lengths_bounded
words_fit kind GammaTable = tones_bounded
words_fit kind RedGammaTable = tones_bounded
words_fit kind GreenGammaTable = tones_bounded
words_fit kind BlueGammaTable = tones_bounded
words_fit kind ThreePassOrder = strings_bounded (map choice_text (choices_of ThreePassOrder))
words_fit kind PplLoss = span_bounded 0 1 64 (omega arith) (omega arith)
words_fit kind ReadLimitSize = span_bounded 1 1 65536 (omega arith) (omega arith)
words_fit kind ReadReturnValue = strings_bounded (map choice_text (choices_of ReadReturnValue))
words_fit kind HandScanner = free_bounded

-- ---- texts that an option admits have no NUL

abbrev pub HasNoNul : List ℕ → Type 0
HasNoNul text = list_any (λ b. b == 0) text ≡ false

abbrev pub NearestHasNoNul : Constraint → Type 0
NearestHasNoNul constraint = (asked text : List ℕ) → HasNoNul asked → NearestText constraint asked text → HasNoNul text

entry_clear : (entries : List (List ℕ)) (place : ℕ) (text : List ℕ) → AllByRecursion HasNoNul entries → slice_get entries place ≡ Some text → HasNoNul text
entry_clear [] place text h e = absurd (let clash : None ≡ Some text = e in cc)
entry_clear (entry ∷ entries) zero text h e = subst HasNoNul (some_is entry text e) h.0
entry_clear (entry ∷ entries) (suc place) text h e = entry_clear entries place text h.1 e

strings_clear : (entries : List (List ℕ)) → AllByRecursion HasNoNul entries → NearestHasNoNul (Strings entries)
strings_clear entries h asked text fine n = entry_clear entries n.0 text h n.2

same_clear : (asked text : List ℕ) → HasNoNul asked → text ≡ asked → HasNoNul text
same_clear asked text fine e = subst HasNoNul (sym e) fine

resolutions_clear : (kind : DeviceKind) → NearestHasNoNul (resolutions_of kind)
resolutions_clear Hand = same_clear
resolutions_clear _ = same_clear

pub texts_have_no_nul : (kind : DeviceKind) (o : ScanOption) → NearestHasNoNul (option_constraint kind o)
texts_have_no_nul kind NumOptions = same_clear
texts_have_no_nul kind Mode = strings_clear (map choice_text (choices_of Mode)) (refl, (refl, tt))
texts_have_no_nul kind Depth = same_clear
texts_have_no_nul kind Resolution = resolutions_clear kind
texts_have_no_nul kind TlX = same_clear
texts_have_no_nul kind TlY = same_clear
texts_have_no_nul kind BrX = same_clear
texts_have_no_nul kind BrY = same_clear
texts_have_no_nul kind GammaTable = same_clear
texts_have_no_nul kind RedGammaTable = same_clear
texts_have_no_nul kind GreenGammaTable = same_clear
texts_have_no_nul kind BlueGammaTable = same_clear
texts_have_no_nul kind ThreePassOrder = strings_clear (map choice_text (choices_of ThreePassOrder)) (refl, (refl, (refl, (refl, (refl, (refl, tt))))))
texts_have_no_nul kind PplLoss = same_clear
texts_have_no_nul kind ReadLimitSize = same_clear
texts_have_no_nul kind ReadReturnValue = strings_clear (map choice_text (choices_of ReadReturnValue)) (refl, (refl, (refl, (refl, (refl, (refl, (refl, (refl, (refl, (refl, (refl, (refl, tt))))))))))))
texts_have_no_nul kind HandScanner = same_clear

-- ---- what an option holds

between_fits : (low high : ℕ) (w : ℤ) → high < 2 ^ 31 → IsBetween low high w → FitsSigned w32 w
between_fits low high w most h = let top : h.number < 2 ^ 31 = omega (arith, most, h.high_is) in subst (FitsSigned w32) (sym h.is) (small h.number top)

options_few : (kind : DeviceKind) → length (options_of kind) < 2 ^ 31
options_few Hand = omega arith
options_few _ = omega arith

depth_low : (n : ℕ) → (n ≡ 1) ⊎ ((n ≡ 8) ⊎ (n ≡ 16)) → n < 2 ^ 31
depth_low n (inl e) = omega (arith, e)
depth_low n (inr (inl e)) = omega (arith, e)
depth_low n (inr (inr e)) = omega (arith, e)

mode_clear : (c : Rattle.page_picture.specs.declared.scene.Mode.Mode) → HasNoNul (choice_text (choice.Mode c))
mode_clear Gray = refl
mode_clear Color = refl

passes_clear : (c : Rattle.scan_frames.specs.declared.setup.PassOrder.PassOrder) → HasNoNul (choice_text (choice.Passes c))
passes_clear Rgb = refl
passes_clear Rbg = refl
passes_clear Gbr = refl
passes_clear Grb = refl
passes_clear Brg = refl
passes_clear Bgr = refl

told_clear : (c : Option Code) → HasNoNul (choice_text (choice.ReadStatus c))
told_clear None = refl
told_clear (Some statuses.Good) = refl
told_clear (Some statuses.Unsupported) = refl
told_clear (Some statuses.Cancelled) = refl
told_clear (Some statuses.DeviceBusy) = refl
told_clear (Some statuses.Inval) = refl
told_clear (Some statuses.Eof) = refl
told_clear (Some statuses.Jammed) = refl
told_clear (Some statuses.NoDocs) = refl
told_clear (Some statuses.CoverOpen) = refl
told_clear (Some statuses.IoError) = refl
told_clear (Some statuses.NoMem) = refl
told_clear (Some statuses.AccessDenied) = refl

-- the value of an option, by its kind: words fit in 32 bits, and a text has no NUL; nothing is said of a table
pub data HeldValue (kind : Kind) (size : ℕ) (value : Value) : Type 0 where
  HeldInt : kind ≡ kinds.Int → (word : ℤ) → value ≡ Int word → FitsSigned w32 word → HeldValue kind size value
  HeldFixed : kind ≡ kinds.Fixed → (length : Length) → value ≡ Fixed length → FitsSigned w32 length.0 → HeldValue kind size value
  HeldFlag : kind ≡ kinds.Bool → (flag : Bool) → value ≡ Flag flag → HeldValue kind size value
  HeldText : kind ≡ kinds.String → (text : List ℕ) → value ≡ Text text → HasNoNul text → HeldValue kind size value
  HeldTable : kind ≡ kinds.Int → size ≡ 1024 → HeldValue kind size value

held_int : (size n : ℕ) → n < 2 ^ 31 → HeldValue kinds.Int size (Int (pos n))
held_int size n low = HeldInt refl (pos n) refl (small n low)

held_length : (size : ℕ) (length : Length) → IsBetween 0 (200 * 65536) length.0 → HeldValue kinds.Fixed size (Fixed length)
held_length size length h = HeldFixed refl length refl (between_fits 0 (200 * 65536) length.0 (omega arith) h)

held_text : (size : ℕ) (text : List ℕ) → HasNoNul text → HeldValue kinds.String size (Text text)
held_text size text h = HeldText refl text refl h

pub held_value : (s : Setup) (o : ScanOption) → IsAllowed s → HeldValue (option_kind o) (option_size o) (option_value s o)
unfolding option_value
held_value s NumOptions a = held_int 4 (length (options_of s.scene.kind)) (options_few s.scene.kind)
held_value s Mode a = held_text 6 (choice_text (choice.Mode s.scene.mode)) (mode_clear s.scene.mode)
held_value s Depth a = held_int 4 s.scene.depth (depth_low s.scene.depth a.limits.depth)
held_value s Resolution a = held_int 4 s.scene.resolution (omega (arith, a.limits.resolution_most))
held_value s TlX a = held_length 4 s.scene.tl_x a.tl_x
held_value s TlY a = held_length 4 s.scene.tl_y a.tl_y
held_value s BrX a = held_length 4 s.scene.br_x a.br_x
held_value s BrY a = held_length 4 s.scene.br_y a.br_y
held_value s GammaTable a = HeldTable refl refl
held_value s RedGammaTable a = HeldTable refl refl
held_value s GreenGammaTable a = HeldTable refl refl
held_value s BlueGammaTable a = HeldTable refl refl
held_value s ThreePassOrder a = held_text 4 (choice_text (choice.Passes s.passes)) (passes_clear s.passes)
held_value s PplLoss a = held_int 4 s.loss (omega (arith, a.limits.loss))
held_value s ReadLimitSize a = held_int 4 s.limit (omega (arith, a.limits.limit_most))
held_value s ReadReturnValue a = held_text 26 (choice_text (choice.ReadStatus s.told)) (told_clear s.told)
held_value s HandScanner a = HeldFlag refl true refl

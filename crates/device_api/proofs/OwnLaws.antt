-- An option that a kind of scanner does not have keeps its default.
use Rattle.std.proofs.Common.{◌≡◌, ◌&&◌, sym, subst, refl, ℕ, zero, suc, Bool, true, false, cond, List, [], ◌∷◌, map}
use Rattle.std.specs.Prelude.{Option, Some, None, slice_get, unsigned_abs}
use Rattle.std.specs.List.{AllByRecursion}
use Rattle.std.specs.Str.{bytes_eq}
use Rattle.sane_fixed.specs.declared.byte_order.ByteOrder.{ByteOrder}
use Rattle.sane_fixed.specs.declared.fixed.Fixed.{Fixed as Length}
use Rattle.option_desc.specs.declared.value.Value.{Value}
use Rattle.option_desc.specs.declared.value.Value.TheVariants.{Flag, Int, Fixed, Words, Text}
use Rattle.page_picture.specs.declared.scene.DeviceKind.{DeviceKind}
use Rattle.page_picture.specs.declared.scene.DeviceKind.TheVariants.{Hand, ThreePass}
use Rattle.scan_frames.specs.declared.setup.Setup.{Setup}
use Rattle.device_api.specs.declared.choice.Choice.{Choice}
use Rattle.device_api.specs.declared.choice.Choice.TheVariants as choice
use Rattle.device_api.specs.declared.scan_option.ScanOption.{ScanOption}
use Rattle.device_api.specs.declared.scan_option.ScanOption.TheVariants.{NumOptions, Mode, Depth, Resolution, TlX, TlY, BrX, BrY, GammaTable, RedGammaTable, GreenGammaTable, BlueGammaTable, ThreePassOrder, PplLoss, ReadLimitSize, ReadReturnValue, HandScanner}
use Rattle.device_api.specs.Options.{options_of, option_at, choices_of, choice_text, is_active, option_caps}
use Rattle.sane_fixed.specs.Cap.{has_cap}
use Rattle.device_api.specs.Values.{defaults, with_number, with_length, with_table, with_choice, choice_of, with_chosen, with_value, with_given, option_passing, setup_after}
use Rattle.device_api.proofs.SameLaws.{value_same}
use Rattle.device_api.specs.OwnOptions.{HasOwnAlone, IsOwn}

-- ---- the defaults

pub defaults_own : (k : DeviceKind) (order : ByteOrder) → IsOwn (defaults k order)
unfolding defaults
defaults_own Hand order = (refl, record { loss = refl; limit = refl; told = refl }, record { gamma = refl; channels = refl; tl_x = refl; tl_y = refl; br_x = refl; br_y = refl })
defaults_own ThreePass order = record { loss = refl; limit = refl; told = refl }
defaults_own _ order = refl

-- ---- which options a kind has

has : DeviceKind → ScanOption → Bool
has Hand NumOptions = true
has Hand Mode = true
has Hand Depth = true
has Hand Resolution = true
has Hand HandScanner = true
has Hand _ = false
has ThreePass PplLoss = false
has ThreePass ReadLimitSize = false
has ThreePass ReadReturnValue = false
has ThreePass HandScanner = false
has ThreePass _ = true
has _ ThreePassOrder = false
has _ HandScanner = false
has _ _ = true

all_had : (k : DeviceKind) → AllByRecursion (λ o. has k o ≡ true) (options_of k)
unfolding has
all_had Hand = (refl, (refl, (refl, (refl, (refl, tt)))))
all_had ThreePass = (refl, (refl, (refl, (refl, (refl, (refl, (refl, (refl, (refl, (refl, (refl, (refl, (refl, tt)))))))))))))
all_had _ = (refl, (refl, (refl, (refl, (refl, (refl, (refl, (refl, (refl, (refl, (refl, (refl, (refl, (refl, (refl, tt)))))))))))))))

at_place : {A : Type 0} (P : A → Type 0) (xs : List A) (n : ℕ) (x : A) → AllByRecursion P xs → slice_get xs n ≡ Some x → P x
at_place P [] n x all e = absurd (let clash : None ≡ Some x = e in cc)
at_place P (y ∷ ys) zero x all e = subst P (let same : y ≡ x = cc in same) all.0
at_place P (y ∷ ys) (suc n) x all e = at_place P ys n x all.1 e

-- ---- a value that is put into one of them

number_own : (k : DeviceKind) (s : Setup) (o : ScanOption) (n : ℕ) → has k o ≡ true → HasOwnAlone k s → HasOwnAlone k (with_number s o n)
unfolding has
number_own Hand s Depth n e h = (h.0, record { loss = h.1.loss; limit = h.1.limit; told = h.1.told }, record { gamma = h.2.gamma; channels = h.2.channels; tl_x = h.2.tl_x; tl_y = h.2.tl_y; br_x = h.2.br_x; br_y = h.2.br_y })
number_own Hand s Resolution n e h = (h.0, record { loss = h.1.loss; limit = h.1.limit; told = h.1.told }, record { gamma = h.2.gamma; channels = h.2.channels; tl_x = h.2.tl_x; tl_y = h.2.tl_y; br_x = h.2.br_x; br_y = h.2.br_y })
number_own Hand s PplLoss n e h = absurd cc
number_own Hand s ReadLimitSize n e h = absurd cc
number_own Hand s _ n e h = h
number_own ThreePass s Depth n e h = record { loss = h.loss; limit = h.limit; told = h.told }
number_own ThreePass s Resolution n e h = record { loss = h.loss; limit = h.limit; told = h.told }
number_own ThreePass s PplLoss n e h = absurd cc
number_own ThreePass s ReadLimitSize n e h = absurd cc
number_own ThreePass s _ n e h = h
number_own _ s Depth n e h = h
number_own _ s Resolution n e h = h
number_own _ s PplLoss n e h = h
number_own _ s ReadLimitSize n e h = h
number_own _ s _ n e h = h

length_own : (k : DeviceKind) (s : Setup) (o : ScanOption) (l : Length) → has k o ≡ true → HasOwnAlone k s → HasOwnAlone k (with_length s o l)
unfolding has
length_own Hand s TlX l e h = absurd cc
length_own Hand s TlY l e h = absurd cc
length_own Hand s BrX l e h = absurd cc
length_own Hand s BrY l e h = absurd cc
length_own Hand s _ l e h = h
length_own ThreePass s TlX l e h = record { loss = h.loss; limit = h.limit; told = h.told }
length_own ThreePass s TlY l e h = record { loss = h.loss; limit = h.limit; told = h.told }
length_own ThreePass s BrX l e h = record { loss = h.loss; limit = h.limit; told = h.told }
length_own ThreePass s BrY l e h = record { loss = h.loss; limit = h.limit; told = h.told }
length_own ThreePass s _ l e h = h
length_own _ s TlX l e h = h
length_own _ s TlY l e h = h
length_own _ s BrX l e h = h
length_own _ s BrY l e h = h
length_own _ s _ l e h = h

table_own : (k : DeviceKind) (s : Setup) (o : ScanOption) (t : List ℕ) → has k o ≡ true → HasOwnAlone k s → HasOwnAlone k (with_table s o t)
unfolding has
table_own Hand s GammaTable t e h = absurd cc
table_own Hand s RedGammaTable t e h = absurd cc
table_own Hand s GreenGammaTable t e h = absurd cc
table_own Hand s BlueGammaTable t e h = absurd cc
table_own Hand s _ t e h = h
table_own ThreePass s GammaTable t e h = record { loss = h.loss; limit = h.limit; told = h.told }
table_own ThreePass s RedGammaTable t e h = record { loss = h.loss; limit = h.limit; told = h.told }
table_own ThreePass s GreenGammaTable t e h = record { loss = h.loss; limit = h.limit; told = h.told }
table_own ThreePass s BlueGammaTable t e h = record { loss = h.loss; limit = h.limit; told = h.told }
table_own ThreePass s _ t e h = h
table_own _ s GammaTable t e h = h
table_own _ s RedGammaTable t e h = h
table_own _ s GreenGammaTable t e h = h
table_own _ s BlueGammaTable t e h = h
table_own _ s _ t e h = h

-- a choice that is of an option of the kind
abbrev IsChoice : DeviceKind → Choice → Type 0
IsChoice k (choice.Mode _) = Unit {0}
IsChoice k (choice.Passes _) = k ≡ ThreePass
IsChoice k (choice.ReadStatus _) = has k ReadReturnValue ≡ true

choice_own : (k : DeviceKind) (s : Setup) (c : Choice) → IsChoice k c → HasOwnAlone k s → HasOwnAlone k (with_choice s c)
unfolding has
choice_own Hand s (choice.Mode m) i h = (h.0, record { loss = h.1.loss; limit = h.1.limit; told = h.1.told }, record { gamma = h.2.gamma; channels = h.2.channels; tl_x = h.2.tl_x; tl_y = h.2.tl_y; br_x = h.2.br_x; br_y = h.2.br_y })
choice_own Hand s (choice.Passes p) i h = absurd cc
choice_own Hand s (choice.ReadStatus t) i h = absurd cc
choice_own ThreePass s (choice.Mode m) i h = record { loss = h.loss; limit = h.limit; told = h.told }
choice_own ThreePass s (choice.Passes p) i h = record { loss = h.loss; limit = h.limit; told = h.told }
choice_own ThreePass s (choice.ReadStatus t) i h = absurd cc
choice_own _ s (choice.Mode m) i h = h
choice_own _ s (choice.Passes p) i h = absurd cc
choice_own _ s (choice.ReadStatus t) i h = h

chosen_own : (k : DeviceKind) (s : Setup) (cs : List Choice) (text : List ℕ) → AllByRecursion (IsChoice k) cs → HasOwnAlone k s → HasOwnAlone k (with_chosen s (choice_of cs text))
chosen_own k s [] text all h = h
chosen_own k s (c ∷ cs) text all h = pick (bytes_eq (choice_text c) text) (choice_own k s c all.0 h) (chosen_own k s cs text all.1 h)
  where
    pick : (b : Bool) → HasOwnAlone k (with_choice s c) → HasOwnAlone k (with_chosen s (choice_of cs text)) → HasOwnAlone k (with_chosen s (cond b (Some c) (choice_of cs text)))
    pick true first rest = first
    pick false first rest = rest

own_choices : (k : DeviceKind) (o : ScanOption) → has k o ≡ true → AllByRecursion (IsChoice k) (choices_of o)
unfolding has
own_choices k Mode e = (tt, (tt, tt))
own_choices Hand ThreePassOrder e = absurd cc
own_choices ThreePass ThreePassOrder e = (refl, (refl, (refl, (refl, (refl, (refl, tt))))))
own_choices Hand ReadReturnValue e = absurd cc
own_choices ThreePass ReadReturnValue e = absurd cc
own_choices _ ThreePassOrder e = absurd cc
own_choices _ ReadReturnValue e = (refl, (refl, (refl, (refl, (refl, (refl, (refl, (refl, (refl, (refl, (refl, (refl, tt))))))))))))
own_choices k _ e = tt

value_own : (k : DeviceKind) (s : Setup) (o : ScanOption) (v : Value) → has k o ≡ true → HasOwnAlone k s → HasOwnAlone k (with_value s o v)
unfolding with_value
value_own k s o (Flag _) e h = h
value_own k s o (Int w) e h = number_own k s o (unsigned_abs w) e h
value_own k s o (Fixed l) e h = length_own k s o l e h
value_own k s o (Words ws) e h = table_own k s o (map (λ w. unsigned_abs w) ws) e h
value_own k s o (Text t) e h = chosen_own k s (choices_of o) t (own_choices k o e) h

given_own : (s : Setup) (v : Value) (o : Option ScanOption) (b : ScanOption → Bool) → ((x : ScanOption) → o ≡ Some x → has s.scene.kind x ≡ true) → IsOwn s → IsOwn (with_given s (option_passing b o) v)
given_own s v None b all h = h
given_own s v (Some o) b all h = pick (b o)
  where
    pick : (t : Bool) → IsOwn (with_given s (cond t (Some o) None) v)
    pick false = h
    pick true = subst (λ (k : DeviceKind). HasOwnAlone k (with_value s o v)) (sym (value_same s o v).kind) (value_own s.scene.kind s o v (all o refl) h)

pub set_own : (s : Setup) (n : ℕ) (v : Value) → IsOwn s → IsOwn (setup_after s n v)
unfolding setup_after option_at
set_own s n v h =
    given_own s v (option_at s.scene.kind n) (λ o. is_active s o && has_cap (option_caps o) 1)
    (λ o e. at_place (λ x. has s.scene.kind x ≡ true) (options_of s.scene.kind) n o (all_had s.scene.kind) e) h

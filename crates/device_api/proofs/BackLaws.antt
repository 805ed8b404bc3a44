-- What is put is what is read.
use Rattle.std.proofs.Common.{◌≡◌, ◌⊎◌, inl, inr, ◌∙◌, sym, ap, subst, refl, ℕ, zero, suc, ℤ, pos, Bool, true, false, cond, ◌&&◌, List, [], ◌∷◌, length, map, All, arith}
use Rattle.std.specs.Prelude.{Option, Some, None, Ok, Err, is_some, option_map, option_and_then, slice_get, unsigned_abs, Result}
use Rattle.std.specs.List.{AllByRecursion}
use Rattle.std.specs.Str.{bytes_eq}
use Rattle.std.proofs.lemmas.Bool.{false≢true}
use Rattle.std.proofs.lemmas.Slice.Eq.{bytes_eq-Decides}
use Rattle.std.proofs.lemmas.List.Elements.{All-tail}
use Rattle.sane_fixed.specs.declared.fixed.Fixed.{Fixed as Length}
use Rattle.sane_fixed.specs.declared.info.Info.{Info}
use Rattle.sane_fixed.specs.declared.status.Status.{Status}
use Rattle.sane_fixed.specs.declared.status.Status.TheVariants.{Inval}
use Rattle.constraint.specs.NearestComputed.{nearest_entry}
use Rattle.option_desc.specs.declared.value.Value.{Value}
use Rattle.option_desc.specs.declared.value.Value.TheVariants.{Flag, Int, Fixed, Words, Text}
use Rattle.option_desc.specs.Fits.{fits_of}
use Rattle.option_desc.specs.Put.{resolve, nearest_text, nearest_word, nearest_value}
use Rattle.scan_frames.specs.declared.setup.Setup.{Setup}
use Rattle.device_api.specs.declared.choice.Choice.{Choice}
use Rattle.device_api.specs.declared.choice.Choice.TheVariants as choice
use Rattle.device_api.specs.declared.scan_option.ScanOption.{ScanOption}
use Rattle.device_api.specs.declared.scan_option.ScanOption.TheVariants.{NumOptions, Mode, Depth, Resolution, TlX, TlY, BrX, BrY, GammaTable, RedGammaTable, GreenGammaTable, BlueGammaTable, ThreePassOrder, PplLoss, ReadLimitSize, ReadReturnValue, HandScanner}
use Rattle.device_api.specs.Options.{choice_text, choices_of, option_constraint, option_caps, is_active, option_at, descriptor_of}
use Rattle.sane_fixed.specs.Cap.{has_cap}
use Rattle.device_api.specs.Values.{option_value, with_value, with_choice, with_chosen, choice_of, option_passing, get_result, option_got, option_set, set_to, with_given, setup_after}
use Rattle.device_api.specs.Kinds.{greatest_resolution}
use Rattle.device_api.specs.ScannerLimits.{IsBetween}
use Rattle.device_api.specs.AdmittedOptions.{IsByte, IsAdmittedNumber, IsAdmittedTable, IsAdmitted, takes, takes_flag, takes_number, takes_length, takes_words}
use Rattle.device_api.proofs.SameLaws.{value_same}
use Rattle.device_api.proofs.TableLaws.{answer_with, set_is}
use Rattle.device_api.proofs.TakesLaws.{taken}
use Rattle.device_api.proofs.AdmittedLaws.{admitted, some_is}
use Rattle.device_api.proofs.OptionForms.{all_readable}

-- a number that is put is read again
number_back : (low high : ℕ) (word : ℤ) → IsBetween low high word → pos (unsigned_abs word) ≡ word
number_back low high word b = ap (λ w. pos (unsigned_abs w)) b.is ∙ sym b.is

depth_back : (word : ℤ) → (word ≡ pos 1) ⊎ ((word ≡ pos 8) ⊎ (word ≡ pos 16)) → pos (unsigned_abs word) ≡ word
depth_back word (inl e) = ap (λ w. pos (unsigned_abs w)) e ∙ sym e
depth_back word (inr (inl e)) = ap (λ w. pos (unsigned_abs w)) e ∙ sym e
depth_back word (inr (inr e)) = ap (λ w. pos (unsigned_abs w)) e ∙ sym e

table_back : (words : List ℤ) → All IsByte words → map (λ b. pos b) (map (λ w. unsigned_abs w) words) ≡ words
table_back [] all = refl
table_back (w ∷ ws) all =
    ap (λ x. x ∷ map (λ b. pos b) (map (λ w. unsigned_abs w) ws)) (number_back 0 255 w (all 0 w (omega arith)))
    ∙ ap (λ xs. w ∷ xs) (table_back ws (All-tail IsByte w ws all))

-- a choice of the option's own list
abbrev pub belongs : ScanOption → Choice → Type 0
belongs Mode (choice.Mode _) = Unit {0}
belongs ThreePassOrder (choice.Passes _) = Unit {0}
belongs ReadReturnValue (choice.ReadStatus _) = Unit {0}
belongs _ _ = ⊥

choice_read : (s : Setup) (o : ScanOption) (c : Choice) → belongs o c → option_value (with_choice s c) o ≡ Text (choice_text c)
unfolding option_value
choice_read s Mode (choice.Mode m) b = refl
choice_read s ThreePassOrder (choice.Passes p) b = refl
choice_read s ReadReturnValue (choice.ReadStatus t) b = refl
choice_read s _ _ b = absurd b

pub all_belong : (o : ScanOption) → AllByRecursion (belongs o) (choices_of o)
all_belong Mode = (tt, (tt, tt))
all_belong ThreePassOrder = (tt, (tt, (tt, (tt, (tt, (tt, tt))))))
all_belong ReadReturnValue = (tt, (tt, (tt, (tt, (tt, (tt, (tt, (tt, (tt, (tt, (tt, (tt, tt))))))))))))
all_belong _ = tt

-- a text of the list is that of some choice
choice_there : (o : ScanOption) (cs : List Choice) (p : ℕ) (text : List ℕ) → AllByRecursion (belongs o) cs → slice_get (map choice_text cs) p ≡ Some text → (c : Choice) × (choice_of cs text ≡ Some c) × (choice_text c ≡ text) × belongs o c
choice_there o [] zero text all e = absurd (cc)
choice_there o [] (suc p) text all e = absurd (cc)
choice_there o (c ∷ cs) p text all e = pick (bytes_eq (choice_text c) text) refl p e (λ q f. choice_there o cs q text all.1 f)
  where
    pick : (b : Bool) → bytes_eq (choice_text c) text ≡ b → (p : ℕ) → slice_get (map choice_text (c ∷ cs)) p ≡ Some text → ((q : ℕ) → slice_get (map choice_text cs) q ≡ Some text → (d : Choice) × (choice_of cs text ≡ Some d) × (choice_text d ≡ text) × belongs o d) → (d : Choice) × (cond b (Some c) (choice_of cs text) ≡ Some d) × (choice_text d ≡ text) × belongs o d
    pick true h p e more = (c, refl, (bytes_eq-Decides (choice_text c) text).0 h, all.0)
    pick false h zero e more = absurd (false≢true (sym h ∙ (bytes_eq-Decides (choice_text c) text).1 (let same : Some (choice_text c) ≡ Some text = e in (cc))))
    pick false h (suc p) e more = more p e

pub text_back : (s : Setup) (o : ScanOption) (p : ℕ) (text : List ℕ) → slice_get (map choice_text (choices_of o)) p ≡ Some text → option_value (with_chosen s (choice_of (choices_of o) text)) o ≡ Text text
text_back s o p text e =
    let c = choice_there o (choices_of o) p text (all_belong o) e in
    ap (λ x. option_value (with_chosen s x) o) c.1 ∙ choice_read s o c.0 c.3 ∙ ap (λ t. Text t) c.2

-- the entry that a text is matched with
text_entry : (entries : List (List ℕ)) (asked text : List ℕ) (place : Option ℕ) → option_and_then (slice_get entries) place ≡ Some text → (p : ℕ) × (slice_get entries p ≡ Some text)
text_entry entries asked text None e = absurd (let none : None ≡ Some text = e in (cc))
text_entry entries asked text (Some p) e = (p, e)

number_read : (s : Setup) (o : ScanOption) (w : ℤ) → has_cap (option_caps o) 1 ≡ true → takes_number o ≡ true → IsAdmittedNumber s.scene.kind o w → option_value (with_value s o (Int w)) o ≡ Int w
unfolding option_value with_value
number_read s NumOptions w caps t a = absurd (false≢true caps)
number_read s Depth w caps t a = ap (λ z. Int z) (depth_back w a)
number_read s Resolution w caps t a = ap (λ z. Int z) (number_back 1 (greatest_resolution s.scene.kind) w a)
number_read s PplLoss w caps t a = ap (λ z. Int z) (number_back 0 64 w a)
number_read s ReadLimitSize w caps t a = ap (λ z. Int z) (number_back 1 65536 w a)
number_read s _ w caps t a = absurd (false≢true t)

length_read : (s : Setup) (o : ScanOption) (l : Length) → takes_length o ≡ true → option_value (with_value s o (Fixed l)) o ≡ Fixed l
unfolding option_value with_value
length_read s TlX l t = refl
length_read s TlY l t = refl
length_read s BrX l t = refl
length_read s BrY l t = refl
length_read s _ l t = absurd (false≢true t)

words_read : (s : Setup) (o : ScanOption) (ws : List ℤ) (n : ℕ) → takes_words o n ≡ true → IsAdmittedTable o ws → option_value (with_value s o (Words ws)) o ≡ Words ws
unfolding option_value with_value
words_read s GammaTable ws n t a = ap (λ xs. Words xs) (table_back ws a.1)
words_read s RedGammaTable ws n t a = ap (λ xs. Words xs) (table_back ws a.1)
words_read s GreenGammaTable ws n t a = ap (λ xs. Words xs) (table_back ws a.1)
words_read s BlueGammaTable ws n t a = ap (λ xs. Words xs) (table_back ws a.1)
words_read s _ ws n t a = absurd (false≢true t)

flag_read : (s : Setup) (o : ScanOption) (b : Bool) → has_cap (option_caps o) 1 ≡ true → takes_flag o ≡ true → option_value (with_value s o (Flag b)) o ≡ Flag b
flag_read s HandScanner b caps t = absurd (false≢true caps)
flag_read s _ b caps t = absurd (false≢true t)

text_in : (s : Setup) (o : ScanOption) (asked text : List ℕ) → option_and_then (slice_get (map choice_text (choices_of o))) (nearest_entry (map choice_text (choices_of o)) asked) ≡ Some text → option_value (with_value s o (Text text)) o ≡ Text text
unfolding with_value
text_in s o asked text e =
    let entry = text_entry (map choice_text (choices_of o)) asked text (nearest_entry (map choice_text (choices_of o)) asked) e in
    text_back s o entry.0 text entry.1

text_read : (s : Setup) (o : ScanOption) (asked text : List ℕ) → is_some (nearest_entry (map choice_text (choices_of o)) asked) ≡ true → nearest_text (option_constraint s.scene.kind o) asked ≡ Some text → option_value (with_value s o (Text text)) o ≡ Text text
unfolding nearest_entry
text_read s Mode asked text t e = text_in s Mode asked text e
text_read s ThreePassOrder asked text t e = text_in s ThreePassOrder asked text e
text_read s ReadReturnValue asked text t e = text_in s ReadReturnValue asked text e
text_read s _ asked text t e = absurd (false≢true t)

text_given : (s : Setup) (o : ScanOption) (asked : List ℕ) (given : Value) (r : Option (List ℕ)) → nearest_text (option_constraint s.scene.kind o) asked ≡ r → option_map (λ t. Text t) r ≡ Some given → is_some (nearest_entry (map choice_text (choices_of o)) asked) ≡ true → option_value (with_value s o given) o ≡ given
text_given s o asked given None f e t = absurd (let none : None ≡ Some given = e in (cc))
text_given s o asked given (Some text) f e t =
    subst (λ v. option_value (with_value s o v) o ≡ v) (sym (some_is (Text text) given e)) (text_read s o asked text t f)

put_read : (s : Setup) (o : ScanOption) (asked given : Value) (fits : Bool) → cond fits (nearest_value (option_constraint s.scene.kind o) asked) None ≡ Some given → has_cap (option_caps o) 1 ≡ true → takes o asked ≡ true → IsAdmitted s.scene.kind o given → option_value (with_value s o given) o ≡ given
put_read s o asked given false e caps t a = absurd (let none : None ≡ Some given = e in (cc))
put_read s o (Flag b) given true e caps t a =
    subst (λ v. option_value (with_value s o v) o ≡ v) (sym (some_is (Flag b) given e)) (flag_read s o b caps t)
put_read s o (Int w) given true e caps t a =
    let near : ℤ = nearest_word (option_constraint s.scene.kind o) w in
    let is : given ≡ Int near = some_is (Int near) given e in
    subst (λ v. option_value (with_value s o v) o ≡ v) (sym is) (number_read s o near caps t (subst (IsAdmitted s.scene.kind o) is a))
put_read s o (Fixed l) given true e caps t a =
    let near : Length = record { 0 = nearest_word (option_constraint s.scene.kind o) l.0 } in
    subst (λ v. option_value (with_value s o v) o ≡ v) (sym (some_is (Fixed near) given e)) (length_read s o near t)
put_read s o (Words ws) given true e caps t a =
    let near : List ℤ = map (nearest_word (option_constraint s.scene.kind o)) ws in
    let is : given ≡ Words near = some_is (Words near) given e in
    subst (λ v. option_value (with_value s o v) o ≡ v) (sym is) (words_read s o near (length ws) t (subst (IsAdmitted s.scene.kind o) is a))
put_read s o (Text x) given true e caps t a = text_given s o x given (nearest_text (option_constraint s.scene.kind o) x) refl e t

-- the value that is put is the option's value
pub value_read : (s : Setup) (o : ScanOption) (asked given : Value) → has_cap (option_caps o) 1 ≡ true → resolve (descriptor_of s o) asked ≡ Some given → option_value (with_value s o given) o ≡ given
unfolding resolve descriptor_of
value_read s o asked given caps e =
    let t : takes o asked ≡ true = sym (taken s o asked) ∙ ap is_some e in
    put_read s o asked given (fits_of (descriptor_of s o) asked) e caps t (admitted s o asked given e)

-- an option that is put stays active
order_active : (s : Setup) (cs : List Choice) (t : List ℕ) → AllByRecursion (belongs ThreePassOrder) cs → is_active (with_chosen s (choice_of cs t)) ThreePassOrder ≡ is_active s ThreePassOrder
order_active s [] t all = refl
order_active s (choice.Passes q ∷ cs) t all = pick (bytes_eq (choice_text (choice.Passes q)) t) (order_active s cs t all.1)
  where
    pick : (b : Bool) → is_active (with_chosen s (choice_of cs t)) ThreePassOrder ≡ is_active s ThreePassOrder → is_active (with_chosen s (cond b (Some (choice.Passes q)) (choice_of cs t))) ThreePassOrder ≡ is_active s ThreePassOrder
    pick true e = refl
    pick false e = e
order_active s (choice.Mode m ∷ cs) t all = absurd all.0
order_active s (choice.ReadStatus st ∷ cs) t all = absurd all.0

still_active : (s : Setup) (o : ScanOption) (v : Value) → is_active (with_value s o v) o ≡ is_active s o
unfolding with_value
still_active s GammaTable (Flag _) = refl
still_active s GammaTable (Int _) = refl
still_active s GammaTable (Fixed _) = refl
still_active s GammaTable (Words _) = refl
still_active s GammaTable (Text _) = refl
still_active s RedGammaTable (Flag _) = refl
still_active s RedGammaTable (Int _) = refl
still_active s RedGammaTable (Fixed _) = refl
still_active s RedGammaTable (Words _) = refl
still_active s RedGammaTable (Text _) = refl
still_active s GreenGammaTable (Flag _) = refl
still_active s GreenGammaTable (Int _) = refl
still_active s GreenGammaTable (Fixed _) = refl
still_active s GreenGammaTable (Words _) = refl
still_active s GreenGammaTable (Text _) = refl
still_active s BlueGammaTable (Flag _) = refl
still_active s BlueGammaTable (Int _) = refl
still_active s BlueGammaTable (Fixed _) = refl
still_active s BlueGammaTable (Words _) = refl
still_active s BlueGammaTable (Text _) = refl
still_active s ThreePassOrder (Flag _) = refl
still_active s ThreePassOrder (Int _) = refl
still_active s ThreePassOrder (Fixed _) = refl
still_active s ThreePassOrder (Words _) = refl
still_active s ThreePassOrder (Text t) = order_active s (choices_of ThreePassOrder) t (all_belong ThreePassOrder)
still_active s _ v = refl

first_true : (a b : Bool) → (a && b) ≡ true → a ≡ true
first_true true b e = refl
first_true false b e = e

second_true : (a b : Bool) → (a && b) ≡ true → b ≡ true
second_true true b e = e
second_true false b e = absurd (false≢true e)

-- what a get answers of an option that was put
get_after : (s : Setup) (n : ℕ) (o : ScanOption) (asked given : Value) → option_at s.scene.kind n ≡ Some o → (is_active s o && has_cap (option_caps o) 1) ≡ true → resolve (descriptor_of s o) asked ≡ Some given → option_got (with_value s o given) n ≡ Ok given
unfolding option_got
get_after s n o asked given at may put =
    let t : Setup = with_value s o given in
    let there : option_at t.scene.kind n ≡ Some o = ap (λ k. option_at k n) (value_same s o given).kind ∙ at in
    let active : is_active t o ≡ true = still_active s o given ∙ first_true (is_active s o) (has_cap (option_caps o) 1) may in
    let readable : (is_active t o && has_cap (option_caps o) 4) ≡ true = ap (λ b. b && has_cap (option_caps o) 4) active ∙ all_readable o in
    ap (λ x. get_result t (option_passing (λ o. is_active t o && has_cap (option_caps o) 4) x)) there
    ∙ ap (λ b. get_result t (cond b (Some o) None)) readable
    ∙ ap (λ v. Ok v) (value_read s o asked given (second_true (is_active s o) (has_cap (option_caps o) 1) may) put)

abbrev value_in : Value → Result (Value × Info) Status → Value
value_in other (Ok answer) = answer.0
value_in other (Err _) = other

given_in : (s : Setup) (n : ℕ) (o : ScanOption) (asked given : Value) (info : Info) (b : Bool) (r : Option Value) → option_at s.scene.kind n ≡ Some o → (is_active s o && has_cap (option_caps o) 1) ≡ b → resolve (descriptor_of s o) asked ≡ r → answer_with s o asked b r ≡ Ok (given, info) → option_got (with_given s (cond b (Some o) None) given) n ≡ Ok given
given_in s n o asked given info false r at may put e = absurd (let err : Err Inval ≡ Ok (given, info) = e in (cc))
given_in s n o asked given info true None at may put e = absurd (let err : Err Inval ≡ Ok (given, info) = e in (cc))
given_in s n o asked given info true (Some g) at may put e =
    let same : g ≡ given = ap (value_in given) e in
    get_after s n o asked given at may (put ∙ ap (λ v. Some v) same)

set_in : (s : Setup) (n : ℕ) (asked given : Value) (info : Info) (oo : Option ScanOption) → option_at s.scene.kind n ≡ oo → set_to s (option_passing (λ o. is_active s o && has_cap (option_caps o) 1) oo) asked ≡ Ok (given, info) → option_got (with_given s (option_passing (λ o. is_active s o && has_cap (option_caps o) 1) oo) given) n ≡ Ok given
set_in s n asked given info None at e = absurd (let err : Err Inval ≡ Ok (given, info) = e in (cc))
set_in s n asked given info (Some o) at e =
    given_in s n o asked given info (is_active s o && has_cap (option_caps o) 1) (resolve (descriptor_of s o) asked) at refl refl
    (sym (set_is s o asked (is_active s o && has_cap (option_caps o) 1)) ∙ e)

-- what a set gave, a get gives
pub set_read : (s : Setup) (n : ℕ) (asked given : Value) (info : Info) → option_set s n asked ≡ Ok (given, info) → option_got (setup_after s n given) n ≡ Ok given
unfolding option_set setup_after
set_read s n asked given info e = set_in s n asked given info (option_at s.scene.kind n) refl e

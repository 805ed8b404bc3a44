-- What the options say stays within its limits.
use Rattle.std.proofs.Common.{◌≡◌, ◌≢◌, ◌<◌, ◌≤◌, ◌+◌, ◌*◌, ◌^◌, ◌⊎◌, inl, inr, sym, ap, subst, refl, ℕ, zero, suc, length, All, ℤ, pos, Bool, true, false, cond, List, [], ◌∷◌, map, arith}
use Rattle.std.specs.Prelude.{Option, Some, unsigned_abs, slice_index, get_or, nat_lt}
use Rattle.std.proofs.lemmas.Bool.Decides.{nat_tests}
use Rattle.std.proofs.lemmas.List.{get_or_past}
use Rattle.std.proofs.lemmas.List.Elements.{All-tail}
use Rattle.std.proofs.lemmas.List.FromFn.{get_or-range_with_len, length-range_with_len}
use Rattle.std.specs.List.{AllByRecursion, range_with_len}
use Rattle.std.specs.Str.{bytes_eq}
use Rattle.sane_fixed.specs.declared.byte_order.ByteOrder.{ByteOrder}
use Rattle.sane_fixed.specs.declared.fixed.Fixed.{Fixed as Length}
use Rattle.sane_fixed.specs.declared.status.Status.TheVariants as status
use Rattle.option_desc.specs.declared.value.Value.{Value}
use Rattle.option_desc.specs.declared.value.Value.TheVariants.{Flag, Int, Fixed, Words, Text}
use Rattle.page_picture.specs.declared.scene.DeviceKind.{DeviceKind}
use Rattle.page_picture.specs.declared.scene.DeviceKind.TheVariants.{Hand}
use Rattle.scan_frames.specs.Frames.{IsSetup}
use Rattle.scan_frames.specs.declared.setup.Setup.{Setup}
use Rattle.device_api.specs.declared.choice.Choice.{Choice}
use Rattle.device_api.specs.declared.choice.Choice.TheVariants as choice
use Rattle.device_api.specs.declared.scan_option.ScanOption.{ScanOption}
use Rattle.device_api.specs.declared.scan_option.ScanOption.TheVariants.{Mode, Depth, Resolution, TlX, TlY, BrX, BrY, GammaTable, RedGammaTable, GreenGammaTable, BlueGammaTable, ThreePassOrder, PplLoss, ReadLimitSize, ReadReturnValue}
use Rattle.device_api.specs.Options.{choices_of, choice_text}
use Rattle.device_api.specs.Values.{identity, default_resolution, defaults, with_number, with_length, with_channels, with_table, channel_table, with_choice, choice_of, with_chosen, with_value}
use Rattle.device_api.specs.Kinds.{greatest_resolution}
use Rattle.device_api.specs.ScannerLimits.{IsOnBed, IsAllowed}
use Rattle.device_api.specs.AdmittedOptions.{IsByte, IsAdmittedNumber, IsAdmittedTable, IsAdmitted}

most : (k : DeviceKind) → greatest_resolution k ≤ 1200
most Hand = omega arith
most _ = omega arith

depth_is : (w : ℤ) → (w ≡ pos 1) ⊎ ((w ≡ pos 8) ⊎ (w ≡ pos 16)) → (unsigned_abs w ≡ 1) ⊎ ((unsigned_abs w ≡ 8) ⊎ (unsigned_abs w ≡ 16))
depth_is w (inl e) = inl (ap unsigned_abs e)
depth_is w (inr (inl e)) = inr (inl (ap unsigned_abs e))
depth_is w (inr (inr e)) = inr (inr (ap unsigned_abs e))

number_allowed : (s : Setup) (o : ScanOption) (w : ℤ) → IsAllowed s → IsAdmittedNumber s.scene.kind o w → IsAllowed (with_number s o (unsigned_abs w))
number_allowed s Depth w a h = record {
  limits = record { depth = depth_is w h; resolution_some = a.limits.resolution_some; resolution_most = a.limits.resolution_most; loss = a.limits.loss; limit_some = a.limits.limit_some; limit_most = a.limits.limit_most };
  resolution = a.resolution;
  tl_x = a.tl_x;
  tl_y = a.tl_y;
  br_x = a.br_x;
  br_y = a.br_y;
  gamma = a.gamma;
  channel_gamma = a.channel_gamma;
  told = a.told;
}
number_allowed s Resolution w a h =
    let e : unsigned_abs w ≡ h.number = ap unsigned_abs h.is in
    let low : 1 ≤ h.number = h.low_is in
    let high : h.number ≤ greatest_resolution s.scene.kind = h.high_is in
    let top : greatest_resolution s.scene.kind ≤ 1200 = most s.scene.kind in
    record {
      limits = record { depth = a.limits.depth; resolution_some = omega arith; resolution_most = omega arith; loss = a.limits.loss; limit_some = a.limits.limit_some; limit_most = a.limits.limit_most };
      resolution = omega arith;
      tl_x = a.tl_x;
      tl_y = a.tl_y;
      br_x = a.br_x;
      br_y = a.br_y;
      gamma = a.gamma;
      channel_gamma = a.channel_gamma;
      told = a.told;
    }
number_allowed s PplLoss w a h =
    let e : unsigned_abs w ≡ h.number = ap unsigned_abs h.is in
    let high : h.number ≤ 64 = h.high_is in
    record {
      limits = record { depth = a.limits.depth; resolution_some = a.limits.resolution_some; resolution_most = a.limits.resolution_most; loss = omega arith; limit_some = a.limits.limit_some; limit_most = a.limits.limit_most };
      resolution = a.resolution;
      tl_x = a.tl_x;
      tl_y = a.tl_y;
      br_x = a.br_x;
      br_y = a.br_y;
      gamma = a.gamma;
      channel_gamma = a.channel_gamma;
      told = a.told;
    }
number_allowed s ReadLimitSize w a h =
    let e : unsigned_abs w ≡ h.number = ap unsigned_abs h.is in
    let low : 1 ≤ h.number = h.low_is in
    let high : h.number ≤ 65536 = h.high_is in
    record {
      limits = record { depth = a.limits.depth; resolution_some = a.limits.resolution_some; resolution_most = a.limits.resolution_most; loss = a.limits.loss; limit_some = omega arith; limit_most = omega arith };
      resolution = a.resolution;
      tl_x = a.tl_x;
      tl_y = a.tl_y;
      br_x = a.br_x;
      br_y = a.br_y;
      gamma = a.gamma;
      channel_gamma = a.channel_gamma;
      told = a.told;
    }
number_allowed s _ w a h = a

-- the same limits where only other fields differ
same_limits : (s t : Setup) → t.scene.depth ≡ s.scene.depth → t.scene.resolution ≡ s.scene.resolution → t.loss ≡ s.loss → t.limit ≡ s.limit → IsSetup s → IsSetup t
same_limits s t d r l m a = record {
  depth = subst (λ n. (n ≡ 1) ⊎ ((n ≡ 8) ⊎ (n ≡ 16))) (sym d) a.depth;
  resolution_some = subst (λ n. 1 ≤ n) (sym r) a.resolution_some;
  resolution_most = subst (λ n. n ≤ 1200) (sym r) a.resolution_most;
  loss = subst (λ n. n ≤ 64) (sym l) a.loss;
  limit_some = subst (λ n. 1 ≤ n) (sym m) a.limit_some;
  limit_most = subst (λ n. n ≤ 65536) (sym m) a.limit_most;
}

length_allowed : (s : Setup) (o : ScanOption) (l : Length) → IsAllowed s → IsAdmitted s.scene.kind o (Fixed l) → IsAllowed (with_length s o l)
length_allowed s TlX l a h = record { limits = same_limits s (with_length s TlX l) refl refl refl refl a.limits; resolution = a.resolution; tl_x = h; tl_y = a.tl_y; br_x = a.br_x; br_y = a.br_y; gamma = a.gamma; channel_gamma = a.channel_gamma; told = a.told }
length_allowed s TlY l a h = record { limits = same_limits s (with_length s TlY l) refl refl refl refl a.limits; resolution = a.resolution; tl_x = a.tl_x; tl_y = h; br_x = a.br_x; br_y = a.br_y; gamma = a.gamma; channel_gamma = a.channel_gamma; told = a.told }
length_allowed s BrX l a h = record { limits = same_limits s (with_length s BrX l) refl refl refl refl a.limits; resolution = a.resolution; tl_x = a.tl_x; tl_y = a.tl_y; br_x = h; br_y = a.br_y; gamma = a.gamma; channel_gamma = a.channel_gamma; told = a.told }
length_allowed s BrY l a h = record { limits = same_limits s (with_length s BrY l) refl refl refl refl a.limits; resolution = a.resolution; tl_x = a.tl_x; tl_y = a.tl_y; br_x = a.br_x; br_y = h; gamma = a.gamma; channel_gamma = a.channel_gamma; told = a.told }
length_allowed s _ l a h = a

-- words of 0 to 255 are bytes
bytes_of_words : (words : List ℤ) → All IsByte words → (i : ℕ) → slice_index (map (λ word. unsigned_abs word) words) i < 2 ^ 8
bytes_of_words [] all i = omega arith
bytes_of_words (w ∷ ws) all zero =
    let byte : IsByte w = all 0 w (omega arith) in
    let is : unsigned_abs w ≡ byte.number = ap unsigned_abs byte.is in
    let high : byte.number ≤ 255 = byte.high_is in
    let small : unsigned_abs w < 256 = omega arith in
    small
bytes_of_words (w ∷ ws) all (suc i) = bytes_of_words ws (All-tail IsByte w ws all) i

-- three tables of bytes
three_tables : (red green blue : List ℕ) → ((i : ℕ) → slice_index red i < 2 ^ 8) → ((i : ℕ) → slice_index green i < 2 ^ 8) → ((i : ℕ) → slice_index blue i < 2 ^ 8) → (k i : ℕ) → slice_index (get_or (red ∷ green ∷ blue ∷ []) k []) i < 2 ^ 8
three_tables red green blue a b c zero i = a i
three_tables red green blue a b c (suc zero) i = b i
three_tables red green blue a b c (suc (suc zero)) i = c i
three_tables red green blue a b c (suc (suc (suc k))) i = omega arith

channels_allowed : (s : Setup) (red green blue : List ℕ) → IsAllowed s → ((i : ℕ) → slice_index red i < 2 ^ 8) → ((i : ℕ) → slice_index green i < 2 ^ 8) → ((i : ℕ) → slice_index blue i < 2 ^ 8) → IsAllowed (with_channels s red green blue)
channels_allowed s red green blue a r g b = record {
  limits = same_limits s (with_channels s red green blue) refl refl refl refl a.limits;
  resolution = a.resolution;
  tl_x = a.tl_x;
  tl_y = a.tl_y;
  br_x = a.br_x;
  br_y = a.br_y;
  gamma = a.gamma;
  channel_gamma = three_tables red green blue r g b;
  told = a.told;
}

table_allowed : (s : Setup) (o : ScanOption) (words : List ℤ) → IsAllowed s → IsAdmittedTable o words → IsAllowed (with_table s o (map (λ word. unsigned_abs word) words))
table_allowed s GammaTable words a h = record { limits = same_limits s (with_table s GammaTable (map (λ word. unsigned_abs word) words)) refl refl refl refl a.limits; resolution = a.resolution; tl_x = a.tl_x; tl_y = a.tl_y; br_x = a.br_x; br_y = a.br_y; gamma = bytes_of_words words h.1; channel_gamma = a.channel_gamma; told = a.told }
table_allowed s RedGammaTable words a h = channels_allowed s (map (λ word. unsigned_abs word) words) (channel_table s 1) (channel_table s 2) a (bytes_of_words words h.1) (a.channel_gamma 1) (a.channel_gamma 2)
table_allowed s GreenGammaTable words a h = channels_allowed s (channel_table s 0) (map (λ word. unsigned_abs word) words) (channel_table s 2) a (a.channel_gamma 0) (bytes_of_words words h.1) (a.channel_gamma 2)
table_allowed s BlueGammaTable words a h = channels_allowed s (channel_table s 0) (channel_table s 1) (map (λ word. unsigned_abs word) words) a (a.channel_gamma 0) (a.channel_gamma 1) (bytes_of_words words h.1)
table_allowed s _ words a h = a

-- no choice tells GOOD
abbrev IsPlain : Choice → Type 0
IsPlain (choice.Mode _) = Unit {0}
IsPlain (choice.Passes _) = Unit {0}
IsPlain (choice.ReadStatus t) = t ≢ Some status.Good

choice_allowed : (s : Setup) (c : Choice) → IsAllowed s → IsPlain c → IsAllowed (with_choice s c)
choice_allowed s (choice.Mode m) a p = record { limits = same_limits s (with_choice s (choice.Mode m)) refl refl refl refl a.limits; resolution = a.resolution; tl_x = a.tl_x; tl_y = a.tl_y; br_x = a.br_x; br_y = a.br_y; gamma = a.gamma; channel_gamma = a.channel_gamma; told = a.told }
choice_allowed s (choice.Passes q) a p = record { limits = same_limits s (with_choice s (choice.Passes q)) refl refl refl refl a.limits; resolution = a.resolution; tl_x = a.tl_x; tl_y = a.tl_y; br_x = a.br_x; br_y = a.br_y; gamma = a.gamma; channel_gamma = a.channel_gamma; told = a.told }
choice_allowed s (choice.ReadStatus t) a p = record { limits = same_limits s (with_choice s (choice.ReadStatus t)) refl refl refl refl a.limits; resolution = a.resolution; tl_x = a.tl_x; tl_y = a.tl_y; br_x = a.br_x; br_y = a.br_y; gamma = a.gamma; channel_gamma = a.channel_gamma; told = p }

chosen_allowed : (s : Setup) (cs : List Choice) (text : List ℕ) → IsAllowed s → AllByRecursion IsPlain cs → IsAllowed (with_chosen s (choice_of cs text))
chosen_allowed s [] text a all = a
chosen_allowed s (c ∷ cs) text a all = pick s c (choice_of cs text) (bytes_eq (choice_text c) text) a all.0 (chosen_allowed s cs text a all.1)
  where
    pick : (s : Setup) (c : Choice) (o : Option Choice) (b : Bool) → IsAllowed s → IsPlain c → IsAllowed (with_chosen s o) → IsAllowed (with_chosen s (cond b (Some c) o))
    pick s c o true a p rest = choice_allowed s c a p
    pick s c o false a p rest = rest

plain : (o : ScanOption) → AllByRecursion IsPlain (choices_of o)
plain Mode = (tt, (tt, tt))
plain ThreePassOrder = (tt, (tt, (tt, (tt, (tt, (tt, tt))))))
plain ReadReturnValue = (λ e. (cc), (λ e. (cc), (λ e. (cc), (λ e. (cc), (λ e. (cc), (λ e. (cc), (λ e. (cc), (λ e. (cc), (λ e. (cc), (λ e. (cc), (λ e. (cc), (λ e. (cc), tt))))))))))))
plain _ = tt

pub value_allowed : (s : Setup) (o : ScanOption) (v : Value) → IsAllowed s → IsAdmitted s.scene.kind o v → IsAllowed (with_value s o v)
unfolding with_value
value_allowed s o (Flag _) a h = a
value_allowed s o (Int w) a h = number_allowed s o w a h
value_allowed s o (Fixed l) a h = length_allowed s o l a h
value_allowed s o (Words ws) a h = table_allowed s o ws a h
value_allowed s o (Text t) a h = chosen_allowed s (choices_of o) t a (plain o)

fresh : (n : ℕ) → n ≤ 200 * 65536 → IsOnBed (record { 0 = pos n })
fresh n h = record { number = n; is = refl; low_is = omega arith; high_is = h }

some_default : (k : DeviceKind) → 1 ≤ default_resolution k
some_default Hand = omega arith
some_default _ = omega arith

most_default : (k : DeviceKind) → default_resolution k ≤ greatest_resolution k
most_default Hand = omega arith
most_default _ = omega arith

few_default : (k : DeviceKind) → default_resolution k ≤ 1200
few_default Hand = omega arith
few_default _ = omega arith

identity_bytes : (i : ℕ) → slice_index identity i < 2 ^ 8
unfolding identity
identity_bytes i = pick (nat_lt i 256) refl
  where
    pick : (b : Bool) → nat_lt i 256 ≡ b → slice_index (range_with_len 0 256) i < 2 ^ 8
    pick true e =
        let within : i < 256 = grind (arith, nat_tests) in
        let at : slice_index (range_with_len 0 256) i ≡ 0 + i = get_or-range_with_len 0 256 i 0 within in
        omega arith
    pick false e =
        let beyond : 256 ≤ i = grind (arith, nat_tests) in
        let size : length (range_with_len 0 256) ≡ 256 = length-range_with_len 0 256 in
        let long : length (range_with_len 0 256) ≤ i = omega arith in
        let at : slice_index (range_with_len 0 256) i ≡ 0 = get_or_past (range_with_len 0 256) i 0 long in
        omega arith

pub defaults_allowed : (k : DeviceKind) (order : ByteOrder) → IsAllowed (defaults k order)
unfolding defaults
defaults_allowed k order = record {
  limits = record { depth = inr (inl refl); resolution_some = some_default k; resolution_most = few_default k; loss = omega arith; limit_some = omega arith; limit_most = omega arith };
  resolution = most_default k;
  tl_x = fresh 0 (omega arith);
  tl_y = fresh 0 (omega arith);
  br_x = fresh 5242880 (omega arith);
  br_y = fresh 6553600 (omega arith);
  gamma = identity_bytes;
  channel_gamma = three_tables identity identity identity identity_bytes identity_bytes identity_bytes;
  told = λ e. (cc);
}

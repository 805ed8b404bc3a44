-- What is written of devices is a spelling of them, and what is refused has none.
use Rattle.std.proofs.Common.{◌≡◌, ℕ, zero, suc, ◌≤◌, Bool, true, false, ◌||◌, List, [], ◌++◌, length, Ok, refl, sym, ap, subst, arith}
use Rattle.std.specs.Int.{w32, to_be_bytes}
use Rattle.std.proofs.lemmas.Bool.{le-ltb}
use Rattle.std.proofs.lemmas.List.{append-nil}
use Rattle.wire_format.specs.declared.fault.Fault.TheVariants.{TooLong}
use Rattle.wire_format.specs.Format.{after, map_format, places}
use Rattle.wire_format.specs.WordKinds.{between}
use Rattle.wire_format.specs.Writer.{WritesFormat, append_text}
use Rattle.sane_fixed.specs.declared.device_info.DeviceInfo.{DeviceInfo}
use Rattle.wire_message.specs.Message.{from_to, up_to, string, device, next_device, last_device_of, last_device, devices_of, devices}
use Rattle.wire_writing.specs.RequestWriting.{write_string, write_resource, code_text}
use Rattle.wire_writing.specs.ReplyWriting.{device_text, write_device, write_devices}
use Rattle.wire_writing.proofs.Spelled.{string-writes, resource-writes}
use Rattle.wire_writing.proofs.AtValue.{At, at_value, by_value, same_at, behind_front, first_at, made_at, word_spelled, if_few, AllSpelled, places_all, all_append, ended_at}

pub string_at : (text : List ℕ) → At string (write_string.long text) (write_string.text text) text
string_at text = at_value string write_string text (string-writes text)

pub resource_at : (text : List ℕ) → At string (write_resource.long text) (write_resource.text text) text
resource_at text = at_value string write_resource text (resource-writes text)

-- the length of an array
pub length_spelled : (n : ℕ) → n ≤ 1024 → (up_to 1024).spells (to_be_bytes w32 n) n
length_spelled n le = record { n = n; text_is = refl; fits = omega (arith, le); is = judge }
  where
    judge : (between 0 1024 TooLong).judge n ≡ Ok n
    judge = rw (le-ltb n 0 (omega arith), le-ltb 1024 n le) refl

pub or_assoc : (a b c : Bool) → (a || b || c) ≡ (a || (b || c))
or_assoc true b c = refl
or_assoc false b c = refl

or_four : (a b c d : Bool) → (a || (b || (c || d))) ≡ (a || b || c || d)
or_four true b c d = refl
or_four false true c d = refl
or_four false false c d = refl

abbrev four_long : DeviceInfo → Bool
four_long d = write_string.long d.name || (write_string.long d.vendor || (write_string.long d.model || write_string.long d.class))

device_at : (d : DeviceInfo) → At device (four_long d) (device_text d) d
unfolding device
device_at d =
    first_at string (λ name. after string (λ vendor. after string (λ model. map_format (λ class. record { name = name; vendor = vendor; model = model; class = class }) string))) d.name d _ _ _ _ (string_at d.name)
    (first_at string (λ vendor. after string (λ model. map_format (λ class. record { name = d.name; vendor = vendor; model = model; class = class }) string)) d.vendor d _ _ _ _ (string_at d.vendor)
    (first_at string (λ model. map_format (λ class. record { name = d.name; vendor = d.vendor; model = model; class = class }) string) d.model d _ _ _ _ (string_at d.model)
    (made_at (λ (class : List ℕ). record { name = d.name; vendor = d.vendor; model = d.model; class = class }) string d.class _ _ (string_at d.class) (λ x e. sym (ap (λ (y : DeviceInfo). y.class) e)))
    (λ x k s. sym (ap (λ (y : DeviceInfo). y.model) s.behind.1)))
    (λ x k s. sym (ap (λ (y : DeviceInfo). y.vendor) s.behind.behind.1)))
    (λ x k s. sym (ap (λ (y : DeviceInfo). y.name) s.behind.behind.behind.1))

next_device_at : (d : DeviceInfo) → At next_device (four_long d) (append_text (code_text 0) (device_text d)) d
unfolding next_device
next_device_at d = behind_front (from_to 0 0) (λ pointer. device) (to_be_bytes w32 0) 0 d (four_long d) (device_text d) (word_spelled 0 0 0 (omega arith) (omega arith) (omega arith)) (device_at d) (λ x f k s t. (k, t))

next-device-writes : (d : DeviceInfo) → WritesFormat next_device write_device d
next-device-writes d = by_value next_device write_device d
    (same_at next_device (four_long d) (write_device.long d) (write_device.text d) (write_device.text d) d (next_device_at d) (or_four (write_string.long d.name) (write_string.long d.vendor) (write_string.long d.model) (write_string.long d.class)) refl)

-- ---- the array

pointed : (text : List ℕ) (d : DeviceInfo) → device.spells text d → (own : List ℕ) × next_device.spells own d
unfolding next_device
pointed text d s = (to_be_bytes w32 0 ++ text, record { first = 0; front = to_be_bytes w32 0; back = text; whole = refl; in_front = word_spelled 0 0 0 (omega arith) (omega arith) (omega arith); behind = s })

last_spelled : (pointer : ℕ) (text : List ℕ) (last : List DeviceInfo) → (last_device_of pointer).spells text last → AllSpelled next_device last
last_spelled zero text last s = subst (AllSpelled next_device) (sym s.behind.1) (pointed s.front s.first s.in_front, tt)
last_spelled (suc pointer) text last s = subst (AllSpelled next_device) (sym s.1) tt

each_of : (n : ℕ) (text : List ℕ) (all : List DeviceInfo) → (devices_of n).spells text all → AllSpelled next_device all
unfolding devices_of last_device
each_of zero text all s = subst (AllSpelled next_device) (sym s.1) tt
each_of (suc n) text all s =
    subst (AllSpelled next_device) (sym s.behind.behind.1)
    (all_append next_device s.first s.behind.first (places_all n next_device s.front s.first s.in_front)
    (last_spelled s.behind.in_front.first s.behind.in_front.back s.behind.first s.behind.in_front.behind))

each_spelled : (text : List ℕ) (all : List DeviceInfo) → devices.spells text all → AllSpelled next_device all
unfolding devices
each_spelled text all s = each_of s.first s.back all s.behind

null_last : last_device.spells (to_be_bytes w32 1) []
unfolding last_device
null_last = record { first = 1; front = to_be_bytes w32 1; back = []; whole = sym (append-nil (to_be_bytes w32 1)); in_front = word_spelled 0 4294967295 1 (omega arith) (omega arith) (omega arith); behind = (refl, refl) }

array_spelled : (all : List DeviceInfo) → length all ≤ 1023 → (text : List ℕ) → (places (length all) next_device).spells text all
    → devices.spells (to_be_bytes w32 (suc (length all)) ++ (text ++ to_be_bytes w32 1)) all
unfolding devices devices_of
array_spelled all le text s = record {
  first = suc (length all);
  front = to_be_bytes w32 (suc (length all));
  back = text ++ to_be_bytes w32 1;
  whole = refl;
  in_front = length_spelled (suc (length all)) (omega (arith, le));
  behind = record {
    first = all;
    front = text;
    back = to_be_bytes w32 1;
    whole = refl;
    in_front = s;
    behind = record { first = []; front = to_be_bytes w32 1; back = []; whole = sym (append-nil (to_be_bytes w32 1)); in_front = null_last; behind = (refl, sym (append-nil all)) };
  };
}

pub devices_at : (all : List DeviceInfo) → At devices (write_devices.long all) (write_devices.text all) all
devices_at all =
    if_few devices 1023 (length all) _ _ all (λ le.
    ended_at devices next_device write_device all (to_be_bytes w32 (suc (length all))) (to_be_bytes w32 1) next-device-writes (array_spelled all le) (λ text s. each_spelled text all s))

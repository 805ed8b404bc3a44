-- Elements of an array that were read are not read again.
use Rattle.std.proofs.Common.{◌≡◌, ℕ, zero, suc, ◌+◌, ◌-◌, ◌≤◌, ◌<◌, List, [], ◌∷◌, ◌++◌, length, take, drop, Option, Some, None, Result, Ok, Err, refl, sym, ap, subst, ◌∙◌, append_assoc, arith}
use Rattle.std.specs.Prelude.{IfOk, IfSome}
use Rattle.std.proofs.lemmas.List.{append-nil, take-append-drop, take-append-le, length-append, length-take, length-drop}
use Rattle.std.proofs.Math.Seq.{drop-append_seam, take-append_seam, drop-append-add, take-append-add}
use Rattle.wire_format.specs.declared.fault.ReadStop.{ReadStop}
use Rattle.wire_format.specs.declared.fault.ReadError.{ReadError}
use Rattle.wire_format.specs.declared.fault.ReadError.TheVariants as errors
use Rattle.wire_format.specs.Format.{◌>>=◌, Format, ReadingFails, Gives, IsBytes, places}
use Rattle.wire_format.specs.Lawful.{SpellsFront, ReaderIsExact}
use Rattle.wire_format.proofs.Loops.{with_front, no_front}
use Rattle.wire_codec.specs.declared.begun.Elements.{Elements}
use Rattle.wire_codec.specs.declared.begun.ArraysSoFar.{ArraysSoFar}
use Rattle.wire_message.specs.declared.message.Reply.{Reply}
use Rattle.wire_message.specs.declared.message.Reply.TheVariants as replies
use Rattle.wire_message.specs.declared.message.Procedure.TheVariants as procedures
use Rattle.wire_message.specs.Message.{message_limit, up_to, status, next_device, last_device, devices_of, devices, next_descriptor, descriptors, reply}
use Rattle.wire_codec.specs.Arrays.{devices_format, rest_of_array, array_end, devices_end, options_end, IsReadSoFar, DevicesBegun, OptionsBegun, ArraysAreReadSoFar, ReadsElements}
use Rattle.wire_message.proofs.Messages.{up_to_laws, status_laws}
use Rattle.wire_format.proofs.Combining.{IsBytes-behind}
use Rattle.sane_fixed.specs.declared.status.Status.{Status}
use Rattle.sane_fixed.specs.declared.device_info.DeviceInfo.{DeviceInfo}
use Rattle.option_desc.specs.declared.descriptor.Descriptor.{Descriptor}

-- ---- parts of bytes

part_of : (u : ℕ) (bytes text rest : List ℕ) → u ≤ length bytes → drop u bytes ≡ text ++ rest → (drop (u + length text) bytes ≡ rest) × (take (u + length text) bytes ≡ take u bytes ++ text) × (u + length text ≤ length bytes)
part_of u bytes text rest le e =
    let whole : bytes ≡ take u bytes ++ (text ++ rest) = sym (take-append-drop u bytes) ∙ ap (λ (l : List ℕ). take u bytes ++ l) e in
    let long : length (take u bytes) ≡ u = omega (arith, le, length-take u bytes) in (
      ap (drop (u + length text)) whole ∙ ap (λ (n : ℕ). drop (n + length text) (take u bytes ++ (text ++ rest))) (sym long) ∙ drop-append-add (take u bytes) (text ++ rest) (length text) ∙ drop-append_seam text rest,
      ap (take (u + length text)) whole ∙ ap (λ (n : ℕ). take (n + length text) (take u bytes ++ (text ++ rest))) (sym long) ∙ take-append-add (take u bytes) (text ++ rest) (length text) ∙ ap (λ (l : List ℕ). take u bytes ++ l) (take-append_seam text rest),
      omega (arith, ap length whole, length-append (take u bytes) (text ++ rest), length-append text rest, long),
    )

-- ---- values at places

places_one : {A : Type 0} (F : Format A) (text : List ℕ) (a : A) → F.spells text a → (places 1 F).spells text (a ∷ [])
unfolding places
places_one F text a s = record { first = a; front = text; back = []; whole = sym (append-nil text); in_front = s; behind = record { first = []; front = []; back = []; whole = refl; in_front = (refl, refl); behind = (refl, refl) } }

places_append : {A : Type 0} (F : Format A) (n m : ℕ) (text more : List ℕ) (front back : List A) → (places n F).spells text front → (places m F).spells more back → (places (n + m) F).spells (text ++ more) (front ++ back)
unfolding places
places_append {A = A} F zero m text more front back s t =
    let count : zero + m ≡ m = omega arith in
    rw (count, s.0, s.1) t
places_append {A = A} F (suc n) m text more front back s t =
    let count : suc n + m ≡ suc (n + m) = omega arith in
    let inner = s.behind in
    let rest = places_append F n m inner.front more inner.first back inner.in_front t in
    let bytes : text ++ more ≡ s.front ++ (inner.front ++ more) =
    ap (λ (l : List ℕ). l ++ more) (s.whole ∙ ap (λ (l : List ℕ). s.front ++ l) (inner.whole ∙ ap (λ (l : List ℕ). inner.front ++ l) inner.behind.0 ∙ append-nil inner.front)) ∙ append_assoc s.front inner.front more in
    rw (count, inner.behind.1, bytes) (record {
      first = s.first;
      front = s.front;
      back = inner.front ++ more;
      whole = refl;
      in_front = s.in_front;
      behind = record { first = inner.first ++ back; front = inner.front ++ more; back = []; whole = sym (append-nil (inner.front ++ more)); in_front = rest; behind = (refl, refl) };
    })

regroup : {A : Type 0} (a : A) (some : List A) (r : Result (List A × List ℕ) ReadStop) → (with_front some r >>= λ y. Ok (a ∷ y.0, y.1)) ≡ with_front (a ∷ some) r
regroup a some (Ok x) = refl
regroup a some (Err s) = refl

-- what is spelled is read first
places_split : {A : Type 0} (F : Format A) → ReaderIsExact F → (n m : ℕ) (text back : List ℕ) (some : List A) → (places n F).spells text some → (places (n + m) F).read (text ++ back) ≡ with_front some ((places m F).read back)
unfolding places
places_split F f zero m text back some s =
    let count : zero + m ≡ m = omega arith in
    rw (count, s.0, s.1) (sym (no_front ((places m F).read back)))
places_split {A = A} F f (suc n) m text back some s =
    let count : suc n + m ≡ suc (n + m) = omega arith in
    let inner = s.behind in
    let bytes : text ++ back ≡ s.front ++ (inner.front ++ back) =
    ap (λ (l : List ℕ). l ++ back) (s.whole ∙ ap (λ (l : List ℕ). s.front ++ l) (inner.whole ∙ ap (λ (l : List ℕ). inner.front ++ l) inner.behind.0 ∙ append-nil inner.front)) ∙ append_assoc s.front inner.front back in
    let first : F.read (s.front ++ (inner.front ++ back)) ≡ Ok (s.first, inner.front ++ back) = f.complete s.front (inner.front ++ back) s.first s.in_front in
    let others = places_split F f n m inner.front back inner.first inner.in_front in
    rw (count, bytes, first, others, inner.behind.1) (regroup s.first inner.first ((places m F).read back))

-- ---- elements

reads_none : {A : Type 0} (E : Format A) (bytes : List ℕ) (old new : Elements A) → old.used ≤ length bytes → new.used ≡ old.used → new.left ≡ old.left → new.front.items ≡ old.front.items → ReadsElements E bytes old new
unfolding places
reads_none {A = A} E bytes old new le used left front = record {
  text = [];
  some = [];
  bytes_are = ap (λ (n : ℕ). drop n bytes) (sym used);
  used_is = omega (arith, used);
  within = omega (arith, used, le);
  left_is = omega (arith, left);
  front_is = front ∙ sym (append-nil old.front.items);
  spelled = (refl, refl);
}

pub reads_same : {A : Type 0} (E : Format A) (bytes : List ℕ) (old : Elements A) → old.used ≤ length bytes → ReadsElements E bytes old old
reads_same E bytes old le = reads_none E bytes old old le refl refl refl

pub reads_kept : {A : Type 0} (E : Format A) (bytes : List ℕ) (old new : Elements A) → old.used ≤ length bytes → new.used ≡ old.used → new.left ≡ old.left → new.front.items ≡ old.front.items → ReadsElements E bytes old new
reads_kept E bytes old new le used left front = reads_none E bytes old new le used left front

pub reads_one : {A : Type 0} (E : Format A) (bytes rest : List ℕ) (a : A) (count : ℕ) (old new : Elements A) → old.used ≤ length bytes → 0 < old.left → SpellsFront E (drop old.used bytes) rest a → count ≤ length (drop old.used bytes)
    → drop count (drop old.used bytes) ≡ rest → new.used ≡ old.used + count → new.left ≡ old.left - 1 → new.front.items ≡ old.front.items ++ a ∷ [] → ReadsElements E bytes old new
reads_one E bytes rest a count old new le some t small behind_is used left front =
    let is : count ≡ length t.text = omega (arith, small, ap length t.whole, length-append t.text rest, ap length behind_is, length-drop count (drop old.used bytes)) in
    let p = part_of old.used bytes t.text rest le t.whole in
    let at : new.used ≡ old.used + length t.text = used ∙ ap (λ (n : ℕ). old.used + n) is in
    record {
      text = t.text;
      some = a ∷ [];
      bytes_are = t.whole ∙ ap (λ (l : List ℕ). t.text ++ l) (sym p.0 ∙ ap (λ (n : ℕ). drop n bytes) (sym at));
      used_is = at;
      within = omega (arith, at, p.2);
      left_is = omega (arith, left, some);
      front_is = front;
      spelled = places_one E t.text a t.spelled;
    }

pub reads_then : {A : Type 0} (E : Format A) (bytes : List ℕ) (old between new : Elements A) → ReadsElements E bytes old between → ReadsElements E bytes between new → ReadsElements E bytes old new
reads_then {A = A} E bytes old between new first next = record {
  text = first.text ++ next.text;
  some = first.some ++ next.some;
  bytes_are = first.bytes_are ∙ ap (λ (l : List ℕ). first.text ++ l) next.bytes_are ∙ sym (append_assoc first.text next.text (drop new.used bytes));
  used_is = omega (arith, first.used_is, next.used_is, length-append first.text next.text);
  within = next.within;
  left_is = omega (arith, first.left_is, next.left_is, length-append first.some next.some);
  front_is = next.front_is ∙ ap (λ (l : List A). l ++ next.some) first.front_is ∙ append_assoc old.front.items first.some next.some;
  spelled =
      subst (λ (n : ℕ). (places n E).spells (first.text ++ next.text) (first.some ++ next.some)) (sym (length-append first.some next.some))
      (places_append E (length first.some) (length next.some) first.text next.text first.some next.some first.spelled next.spelled);
}

-- ---- a reply in part

behind_regroup : {A : Type 0} (T : List A → Format Reply) (front some : List A) (r : Result (List A × List ℕ) ReadStop) → (with_front some r >>= λ x. (T (front ++ x.0)).read x.1) ≡ (r >>= λ x. (T ((front ++ some) ++ x.0)).read x.1)
behind_regroup {A = A} T front some (Ok x) = ap (λ (l : List A). (T l).read x.1) (sym (append_assoc front some x.0))
behind_regroup T front some (Err s) = refl

behind_on : {A : Type 0} (E : Format A) → ReaderIsExact E → (T : List A → Format Reply) (front some : List A) (left : ℕ) (text back : List ℕ) → (places (length some) E).spells text some
    → (rest_of_array E T front (length some + left)).read (text ++ back) ≡ (rest_of_array E T (front ++ some) left).read back
behind_on {A = A} E e T front some left text back s =
    ap (λ (r : Result (List A × List ℕ) ReadStop). r >>= λ x. (T (front ++ x.0)).read x.1) (places_split E e (length some) left text back some s) ∙ behind_regroup T front some ((places left E).read back)

pub begun_on : {A : Type 0} (F : Format Reply) (E : Format A) → ReaderIsExact E → (T : List A → Format Reply) (bytes : List ℕ) (old new : Elements A) → length bytes ≤ message_limit
    → IsReadSoFar F (rest_of_array E T old.front.items old.left) old.used bytes → ReadsElements E bytes old new → IsReadSoFar F (rest_of_array E T new.front.items new.left) new.used bytes
begun_on {A = A} F E e T bytes old new short b r = record {
  within = r.within;
  short = omega (arith, r.within, short);
  goes = λ back.
      let p = part_of old.used bytes r.text (drop new.used bytes) b.within r.bytes_are in
      let seen : take new.used bytes ≡ take old.used bytes ++ r.text = ap (λ (n : ℕ). take n bytes) r.used_is ∙ p.1 in
      let there : F.read (take new.used bytes ++ back) ≡ (rest_of_array E T old.front.items old.left).read (r.text ++ back) =
      ap (λ (l : List ℕ). F.read (l ++ back)) seen ∙ ap F.read (append_assoc (take old.used bytes) r.text back) ∙ b.goes (r.text ++ back) in
      there ∙ ap (λ (n : ℕ). (rest_of_array E T old.front.items n).read (r.text ++ back)) r.left_is ∙ behind_on E e T old.front.items r.some new.left r.text back r.spelled
      ∙ ap (λ (l : List A). (rest_of_array E T l new.left).read back) (sym r.front_is);
}

-- reading all of the bytes is reading on
pub begun_read : (F G : Format Reply) (used : ℕ) (bytes : List ℕ) → IsReadSoFar F G used bytes → F.read bytes ≡ G.read (drop used bytes)
begun_read F G used bytes b = ap F.read (sym (take-append-drop used bytes)) ∙ b.goes (drop used bytes)

-- an element that is not read is the reply's error
pub begun_fails : {A : Type 0} (F : Format Reply) (E : Format A) (T : List A → Format Reply) (front : List A) (left used : ℕ) (bytes : List ℕ) (e : ReadError) → IsReadSoFar F (rest_of_array E T front left) used bytes
    → 0 < left → ReadingFails e (E.read (drop used bytes)) → ReadingFails e (F.read bytes)
unfolding places
begun_fails F E T front left used bytes errors.Memory b some h = tt
begun_fails F E T front zero used bytes (errors.Stop s) b some h = absurd (omega (arith, some))
begun_fails F E T front (suc left) used bytes (errors.Stop s) b some h = begun_read F (rest_of_array E T front (suc left)) used bytes b ∙ rw h refl

-- where none is left, the end is
pub begun_end : {A : Type 0} (F : Format Reply) (E : Format A) (T : List A → Format Reply) (front : List A) (left used : ℕ) (bytes : List ℕ) → IsReadSoFar F (rest_of_array E T front left) used bytes → left ≡ 0 → F.read bytes ≡ (T front).read (drop used bytes)
unfolding places
begun_end {A = A} F E T front left used bytes b none =
    begun_read F (rest_of_array E T front left) used bytes b ∙ ap (λ (n : ℕ). (rest_of_array E T front n).read (drop used bytes)) none ∙ ap (λ (l : List A). (T l).read (drop used bytes)) (append-nil front)

-- ---- how a reply begins

-- so many bytes stand before the rest
front_of : (bytes text rest : List ℕ) (used : ℕ) → bytes ≡ text ++ rest → used ≤ length bytes → drop used bytes ≡ rest → take used bytes ≡ text
front_of bytes text rest used whole le behind_is =
    let count : used ≡ length text = omega (arith, le, ap length whole, length-append text rest, ap length behind_is, length-drop used bytes) in
    ap (λ (n : ℕ). take n bytes) count ∙ ap (take (length text)) whole ∙ take-append_seam text rest

abbrev told : {A : Type 0} → (A → Reply) → A × List ℕ → Result (Reply × List ℕ) ReadStop
told make x = Ok (make x.0, x.1)

abbrev put_behind : List DeviceInfo → List DeviceInfo × List ℕ → Result (List DeviceInfo × List ℕ) ReadStop
put_behind front x = Ok (front ++ x.0, x.1)

last_told : (s : Status) (front : List DeviceInfo) (r : Result (List DeviceInfo × List ℕ) ReadStop) → ((r >>= put_behind front) >>= told (λ all. replies.GetDevices s all)) ≡ (r >>= told (λ last. replies.GetDevices s (front ++ last)))
last_told s front (Ok x) = refl
last_told s front (Err e) = refl

abbrev with_end : List DeviceInfo × List ℕ → Result (List DeviceInfo × List ℕ) ReadStop
with_end x = last_device.read x.1 >>= put_behind x.0

all_told : (s : Status) (r : Result (List DeviceInfo × List ℕ) ReadStop) → ((r >>= with_end) >>= told (λ all. replies.GetDevices s all)) ≡ (r >>= λ x. (devices_end s 1 ([] ++ x.0)).read x.1)
all_told s (Ok x) = last_told s x.0 (last_device.read x.1)
all_told s (Err e) = refl

devices_begin : (s : Status) (count : ℕ) (back : List ℕ) → ((devices_of count).read back >>= told (λ all. replies.GetDevices s all)) ≡ (rest_of_array next_device (devices_end s count) [] (count - 1)).read back
unfolding devices_of places
devices_begin s zero back = refl
devices_begin s (suc n) back = let less : suc n - 1 ≡ n = omega arith in rw less (all_told s ((places n next_device).read back))

pub devices_front : (bytes behind_status rest : List ℕ) (s : Status) (count : ℕ) → IsBytes bytes → status.read bytes ≡ Ok (s, behind_status) → (up_to 1024).read behind_status ≡ Ok (count, rest) → (text : List ℕ) × (bytes ≡ text ++ rest)
devices_front bytes behind_status rest s count fits first next =
    let p = status_laws.reads.sound bytes behind_status s fits first in
    let q = (up_to_laws 1024).reads.sound behind_status rest count (IsBytes-behind p.text behind_status (subst IsBytes p.whole fits)) next in
    (p.text ++ q.text, p.whole ∙ ap (λ (l : List ℕ). p.text ++ l) q.whole ∙ sym (append_assoc p.text q.text rest))

pub devices_start : (bytes behind_status rest : List ℕ) (s : Status) (count used : ℕ) → IsBytes bytes → length bytes ≤ message_limit → status.read bytes ≡ Ok (s, behind_status) → (up_to 1024).read behind_status ≡ Ok (count, rest)
    → used ≤ length bytes → drop used bytes ≡ rest → IsReadSoFar devices_format (rest_of_array next_device (devices_end s count) [] (count - 1)) used bytes
unfolding reply devices
devices_start bytes behind_status rest s count used fits short first next le behind_is =
    let p = status_laws.reads.sound bytes behind_status s fits first in
    let q = (up_to_laws 1024).reads.sound behind_status rest count (IsBytes-behind p.text behind_status (subst IsBytes p.whole fits)) next in
    let whole : bytes ≡ (p.text ++ q.text) ++ rest = p.whole ∙ ap (λ (l : List ℕ). p.text ++ l) q.whole ∙ sym (append_assoc p.text q.text rest) in
    let seen = front_of bytes (p.text ++ q.text) rest used whole le behind_is in
    record {
      within = le;
      short = omega (arith, le, short);
      goes = λ back.
          let regrouped : take used bytes ++ back ≡ p.text ++ (q.text ++ back) = ap (λ (l : List ℕ). l ++ back) seen ∙ append_assoc p.text q.text back in
          let one : status.read (p.text ++ (q.text ++ back)) ≡ Ok (s, q.text ++ back) = status_laws.reads.complete p.text (q.text ++ back) s p.spelled in
          let two : (up_to 1024).read (q.text ++ back) ≡ Ok (count, back) = (up_to_laws 1024).reads.complete q.text back count q.spelled in
          rw (regrouped, one, two) (devices_begin s count back);
    }

options_begin : (count : ℕ) (back : List ℕ) → ((places count next_descriptor).read back >>= told (λ all. replies.GetOptionDescriptors all)) ≡ (rest_of_array next_descriptor options_end [] count).read back
options_begin count back = by ((places count next_descriptor).read back)
  where
    by : (r : Result (List Descriptor × List ℕ) ReadStop) → (r >>= told (λ all. replies.GetOptionDescriptors all)) ≡ (r >>= λ x. (options_end ([] ++ x.0)).read x.1)
    by (Ok x) = refl
    by (Err s) = refl

pub options_start : (bytes rest : List ℕ) (count used : ℕ) → IsBytes bytes → length bytes ≤ message_limit → (up_to 1024).read bytes ≡ Ok (count, rest)
    → used ≤ length bytes → drop used bytes ≡ rest → IsReadSoFar (reply procedures.GetOptionDescriptors) (rest_of_array next_descriptor options_end [] count) used bytes
unfolding reply descriptors
options_start bytes rest count used fits short first le behind_is =
    let p = (up_to_laws 1024).reads.sound bytes rest count fits first in
    let seen = front_of bytes p.text rest used p.whole le behind_is in
    record {
      within = le;
      short = omega (arith, le, short);
      goes = λ back.
          let regrouped : take used bytes ++ back ≡ p.text ++ back = ap (λ (l : List ℕ). l ++ back) seen in
          let one : (up_to 1024).read (p.text ++ back) ≡ Ok (count, back) = (up_to_laws 1024).reads.complete p.text back count p.spelled in
          rw (regrouped, one) (options_begin count back);
    }

-- ---- what was read is a spelling

pub gives_takes : {X A : Type 0} (value : X → A) (rest : X → List ℕ) (F : Format A) → ReaderIsExact F → (bytes : List ℕ) → IsBytes bytes → (result : Result X ReadError) → Gives (λ x. (value x, rest x)) result (F.read bytes)
    → IfOk result (λ x. SpellsFront F bytes (rest x) (value x))
gives_takes value rest F f bytes fits (Ok x) h = f.sound bytes (rest x) (value x) fits h
gives_takes value rest F f bytes fits (Err e) h = tt

-- ---- how a reply ends

pub devices_told : (bytes rest : List ℕ) (s : Status) (count left used : ℕ) (front last : List DeviceInfo) → IsReadSoFar devices_format (rest_of_array next_device (devices_end s count) front left) used bytes → left ≡ 0
    → (array_end count).read (drop used bytes) ≡ Ok (last, rest) → devices_format.read bytes ≡ Ok (replies.GetDevices s (front ++ last), rest)
devices_told bytes rest s count left used front last b none h = begun_end devices_format next_device (devices_end s count) front left used bytes b none ∙ rw h refl

pub devices_fail : (bytes : List ℕ) (s : Status) (count left used : ℕ) (front : List DeviceInfo) (e : ReadError) → IsReadSoFar devices_format (rest_of_array next_device (devices_end s count) front left) used bytes → left ≡ 0
    → ReadingFails e ((array_end count).read (drop used bytes)) → ReadingFails e (devices_format.read bytes)
devices_fail bytes s count left used front errors.Memory b none h = tt
devices_fail bytes s count left used front (errors.Stop stop) b none h = begun_end devices_format next_device (devices_end s count) front left used bytes b none ∙ rw h refl

-- ---- more bytes, and the first of them

begun_same : (F G : Format Reply) (used : ℕ) (old new : List ℕ) → IsReadSoFar F G used old → used ≤ length new → take used old ≡ take used new → IsReadSoFar F G used new
begun_same F G used old new b le same = record { within = le; short = b.short; goes = λ back. ap (λ (l : List ℕ). F.read (l ++ back)) (sym same) ∙ b.goes back }

begun_more : (F G : Format Reply) (used : ℕ) (front back : List ℕ) → IsReadSoFar F G used front → IsReadSoFar F G used (front ++ back)
begun_more F G used front back b = begun_same F G used front (front ++ back) b (omega (arith, b.within, length-append front back)) (sym (take-append-le used front back b.within))

begun_fewer : (F G : Format Reply) (used : ℕ) (front back : List ℕ) → used ≤ length front → IsReadSoFar F G used (front ++ back) → IsReadSoFar F G used front
begun_fewer F G used front back le b = begun_same F G used (front ++ back) front b le (take-append-le used front back le)

begun_window : (F G : Format Reply) (used : ℕ) (bytes : List ℕ) → IsReadSoFar F G used bytes → IsReadSoFar F G used (take message_limit bytes)
begun_window F G used bytes b =
    begun_fewer F G used (take message_limit bytes) (drop message_limit bytes) (omega (arith, b.within, b.short, length-take message_limit bytes)) (subst (IsReadSoFar F G used) (sym (take-append-drop message_limit bytes)) b)

begun_all : (F G : Format Reply) (used : ℕ) (bytes : List ℕ) → IsReadSoFar F G used (take message_limit bytes) → IsReadSoFar F G used bytes
begun_all F G used bytes b = subst (IsReadSoFar F G used) (take-append-drop message_limit bytes) (begun_more F G used (take message_limit bytes) (drop message_limit bytes) b)

if_some : {A : Type 0} (o : Option A) (P Q : A → Type 0) → ((a : A) → P a → Q a) → IfSome o P → IfSome o Q
if_some None P Q f h = tt
if_some (Some a) P Q f h = f a h

has_by : (old new : List ℕ) (b : ArraysSoFar) → ((F G : Format Reply) (used : ℕ) → IsReadSoFar F G used old → IsReadSoFar F G used new) → ArraysAreReadSoFar old b → ArraysAreReadSoFar new b
has_by old new b f h = (if_some b.devices (DevicesBegun old) (DevicesBegun new) (λ d. f _ _ d.elements.used) h.0, if_some b.options (OptionsBegun old) (OptionsBegun new) (λ e. f _ _ e.used) h.1)

pub has_window : (bytes : List ℕ) (b : ArraysSoFar) → ArraysAreReadSoFar bytes b → ArraysAreReadSoFar (take message_limit bytes) b
has_window bytes b h = has_by bytes (take message_limit bytes) b (λ F G used. begun_window F G used bytes) h

pub has_all : (bytes : List ℕ) (b : ArraysSoFar) → ArraysAreReadSoFar (take message_limit bytes) b → ArraysAreReadSoFar bytes b
has_all bytes b h = has_by (take message_limit bytes) bytes b (λ F G used. begun_all F G used bytes) h

pub has_more : (bytes more : List ℕ) (b : ArraysSoFar) → ArraysAreReadSoFar bytes b → ArraysAreReadSoFar (bytes ++ more) b
has_more bytes more b h = has_by bytes (bytes ++ more) b (λ F G used. begun_more F G used bytes more) h

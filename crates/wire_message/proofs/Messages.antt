-- The formats of the messages are lawful.
use Rattle.std.proofs.Common.{◌≡◌, ℕ, zero, suc, ◌-◌, ◌/◌, ◌^◌, ◌≤◌, ◌<◌, List, Ok, arith}
use Rattle.std.proofs.lemmas.Bool.Decides.{nat_tests}
use Rattle.wire_format.specs.declared.fault.Fault.TheVariants.{BadCode, BadValue, TooLong}
use Rattle.wire_format.specs.Format.{Format, map_format}
use Rattle.wire_format.specs.WordKinds.{between}
use Rattle.wire_format.specs.Lawful.{ReaderIsExact, Lawful}
use Rattle.wire_format.proofs.Combining.{refused-reads, done-laws, after-laws, after-spelled-laws, places-laws}
use Rattle.wire_format.proofs.Words.{kind-laws, between-kind}
use Rattle.wire_format.proofs.Runs.{byte-laws, run-laws}
use Rattle.wire_message.specs.declared.message.Procedure.{Procedure}
use Rattle.wire_message.specs.declared.message.Procedure.TheVariants as procedures
use Rattle.wire_message.specs.Kinds.{length_from, words_size, at_least, order}
use Rattle.wire_message.specs.Message.{from_to, word, up_to, signed_word, status, text_format_of, string, device, next_device, last_device_of, last_device, devices_of, devices, range, word_list, entry, last_entry_of, last_entry, only_entry, no_entry, Last, Entry, Null, Either, last_of, last_in, string_list, constraint_of, constraint, descriptor, next_descriptor, descriptors, words_value, bytes_value, value_of, kind_at, arguments, procedure_at, request, params, reply}
use Rattle.wire_message.proofs.TheKinds.{length_kind, size_kind, at_least_kind, order_kind}

made-laws : {A B : Type 0} (make : A → B) (F : Format A) → Lawful F → Lawful (map_format make F)
made-laws make F f = after-laws F _ f (λ a. done-laws (make a))

from_to_laws : (low high : ℕ) → low ≤ high → low < 2 ^ 32 → Lawful (from_to low high)
from_to_laws low high ordered fits = kind-laws (between low high BadValue) (between-kind low high BadValue ordered fits)

pub word_laws : Lawful word
word_laws = from_to_laws 0 4294967295 (omega arith) (omega arith)

null_laws : Lawful (from_to 0 0)
null_laws = from_to_laws 0 0 (omega arith) (omega arith)

pub up_to_laws : (high : ℕ) → Lawful (up_to high)
up_to_laws high = kind-laws (between 0 high TooLong) (between-kind 0 high TooLong (omega arith) (omega arith))

pub status_laws : Lawful status
status_laws = made-laws _ _ (from_to_laws 0 11 (omega arith) (omega arith))

text_laws : (n : ℕ) → Lawful (text_format_of n)
unfolding text_format_of
text_laws zero = done-laws _
text_laws (suc n) = after-laws _ _ (run-laws 1 n (omega arith)) (λ text. made-laws _ _ (byte-laws 0 0 (omega arith) (omega arith)))

string_laws : Lawful string
unfolding string
string_laws = after-laws _ _ (up_to_laws 1024) text_laws

device_laws : Lawful device
unfolding device
device_laws = after-laws _ _ string_laws (λ name. after-laws _ _ string_laws (λ vendor. after-laws _ _ string_laws (λ model. made-laws _ _ string_laws)))

pub next_device_laws : Lawful next_device
unfolding next_device
next_device_laws = after-laws _ _ null_laws (λ pointer. device_laws)

last_device_of_laws : (pointer : ℕ) → Lawful (last_device_of pointer)
last_device_of_laws zero = made-laws _ _ device_laws
last_device_of_laws (suc pointer) = done-laws _

devices_of_laws : (n : ℕ) → Lawful (devices_of n)
unfolding devices_of last_device
devices_of_laws zero = done-laws _
devices_of_laws (suc n) = after-laws _ _ (places-laws n next_device next_device_laws) (λ front. made-laws _ _ (after-laws _ _ word_laws last_device_of_laws))

devices_laws : Lawful devices
unfolding devices
devices_laws = after-laws _ _ (up_to_laws 1024) devices_of_laws

word_fits : (text : List ℕ) (n : ℕ) → word.spells text n → n < 2 ^ 32
word_fits text n s = fits s.n n s.fits s.is
  where
    fits : (m n : ℕ) → m < 2 ^ 32 → (between 0 4294967295 BadValue).judge m ≡ Ok n → n < 2 ^ 32
    fits m n small e = grind (arith, nat_tests)

range_laws : Lawful range
unfolding range
range_laws = after-laws _ _ null_laws (λ pointer. after-spelled-laws _ _ word_laws (λ text min s. after-laws _ _ (kind-laws (at_least min) (at_least_kind min (word_fits text min s)))
    (λ max. made-laws _ _ (from_to_laws 0 2147483647 (omega arith) (omega arith)))))

length_value : (low n x : ℕ) → low ≤ 1024 → (length_from low).judge n ≡ Ok x → x ≤ 1024
length_value low n x small e = grind (arith, nat_tests)

word_list_laws : Lawful word_list
unfolding word_list
word_list_laws = after-spelled-laws _ _ (kind-laws (length_from 2) (length_kind 2 (omega arith))) (λ text n s.
    after-laws _ _ (from_to_laws (n - 1) (n - 1) (omega arith) (omega (arith, length_value 2 s.n n (omega arith) s.is))) (λ count. places-laws count signed_word (made-laws _ _ word_laws)))

entry_laws : Lawful entry
unfolding entry
entry_laws = after-laws _ _ (kind-laws (length_from 1) (length_kind 1 (omega arith))) text_laws

last_entry_of_laws : (n : ℕ) → Lawful (last_entry_of n)
last_entry_of_laws zero = done-laws _
last_entry_of_laws (suc n) = made-laws _ _ (text_laws (suc n))

last_laws : (last : Last) → Lawful (last_of last)
unfolding only_entry no_entry last_entry
last_laws Entry = made-laws _ _ entry_laws
last_laws Null = made-laws _ _ null_laws
last_laws Either = after-laws _ _ (up_to_laws 1024) last_entry_of_laws

string_list_laws : Lawful string_list
unfolding string_list
string_list_laws = after-laws _ _ (kind-laws (length_from 1) (length_kind 1 (omega arith))) (λ n. after-laws _ _ (places-laws (n - 1) entry entry_laws) (λ front. made-laws _ _ (last_laws (last_in n))))

constraint_of_laws : (n : ℕ) → Lawful (constraint_of n)
constraint_of_laws zero = done-laws _
constraint_of_laws (suc zero) = made-laws _ _ range_laws
constraint_of_laws (suc (suc zero)) = made-laws _ _ word_list_laws
constraint_of_laws (suc (suc (suc n))) = made-laws _ _ string_list_laws

constraint_laws : Lawful constraint
unfolding constraint
constraint_laws = after-laws _ _ (from_to_laws 0 3 (omega arith) (omega arith)) constraint_of_laws

descriptor_laws : Lawful descriptor
unfolding descriptor
descriptor_laws = after-laws _ _ string_laws (λ name. after-laws _ _ string_laws (λ title. after-laws _ _ string_laws (λ about. after-laws _ _ (from_to_laws 0 5 (omega arith) (omega arith)) (λ k.
    after-laws _ _ (from_to_laws 0 6 (omega arith) (omega arith)) (λ u. after-laws _ _ word_laws (λ size. after-laws _ _ word_laws (λ caps. made-laws _ _ constraint_laws)))))))

pub next_descriptor_laws : Lawful next_descriptor
unfolding next_descriptor
next_descriptor_laws = after-laws _ _ null_laws (λ pointer. descriptor_laws)

descriptors_laws : Lawful descriptors
unfolding descriptors
descriptors_laws = after-laws _ _ (up_to_laws 1024) (λ n. places-laws n next_descriptor next_descriptor_laws)

size_value : (n x : ℕ) → words_size.judge n ≡ Ok x → x ≤ 4096
size_value n x e = grind (arith, nat_tests)

words_value_laws : Lawful words_value
unfolding words_value
words_value_laws = after-spelled-laws _ _ (kind-laws words_size size_kind) (λ text size s.
    after-laws _ _ (from_to_laws (size / 4) (size / 4) (omega arith) (omega (arith, size_value s.n size s.is))) (λ count. made-laws _ _ (places-laws count word word_laws)))

up_value : (high n x : ℕ) → (between 0 high TooLong).judge n ≡ Ok x → x ≤ high
up_value high n x e = grind (arith, nat_tests)

bytes_value_laws : Lawful bytes_value
unfolding bytes_value
bytes_value_laws = after-spelled-laws _ _ (up_to_laws 1024) (λ text size s.
    after-laws _ _ (from_to_laws size size (omega arith) (omega (arith, up_value 1024 s.n size s.is))) (λ count. made-laws _ _ (run-laws 0 count (omega arith))))

value_laws : (n : ℕ) → n ≤ 3 → Lawful (value_of (kind_at n))
value_laws zero le = words_value_laws
value_laws (suc zero) le = words_value_laws
value_laws (suc (suc zero)) le = words_value_laws
value_laws (suc (suc (suc zero))) le = bytes_value_laws
value_laws (suc (suc (suc (suc n)))) le = absurd (omega arith)

from_to_value : (low high : ℕ) (text : List ℕ) (x : ℕ) → (from_to low high).spells text x → x ≤ high
from_to_value low high text x s = fits s.n s.is
  where
    fits : (n : ℕ) → (between low high BadValue).judge n ≡ Ok x → x ≤ high
    fits n e = grind (arith, nat_tests)

kind_laws : Lawful (from_to 0 3)
kind_laws = from_to_laws 0 3 (omega arith) (omega arith)

arguments_laws : (p : Procedure) → Lawful (arguments p)
arguments_laws procedures.Init = after-laws _ _ word_laws (λ version. made-laws _ _ string_laws)
arguments_laws procedures.Open = made-laws _ _ string_laws
arguments_laws procedures.Close = made-laws _ _ word_laws
arguments_laws procedures.GetOptionDescriptors = made-laws _ _ word_laws
arguments_laws procedures.ControlOption = after-laws _ _ word_laws (λ device. after-laws _ _ word_laws (λ option. after-laws _ _ (from_to_laws 0 1 (omega arith) (omega arith)) (λ action.
    after-spelled-laws _ _ kind_laws (λ text kind s. made-laws _ _ (value_laws kind (from_to_value 0 3 text kind s))))))
arguments_laws procedures.GetParameters = made-laws _ _ word_laws
arguments_laws procedures.Start = made-laws _ _ word_laws
arguments_laws procedures.Cancel = made-laws _ _ word_laws
arguments_laws procedures.Authorize = after-laws _ _ string_laws (λ resource. after-laws _ _ string_laws (λ user. made-laws _ _ string_laws))
arguments_laws q = done-laws _

pub request_laws : Lawful request
unfolding request
request_laws = after-laws _ _ (kind-laws (between 0 10 BadCode) (between-kind 0 10 BadCode (omega arith) (omega arith))) (λ code. arguments_laws (procedure_at code))

params_laws : Lawful params
unfolding params
params_laws = after-laws _ _ (from_to_laws 0 4 (omega arith) (omega arith)) (λ format. after-laws _ _ word_laws (λ last. after-laws _ _ word_laws (λ bytes. after-laws _ _ word_laws (λ pixels.
    after-laws _ _ word_laws (λ lines. made-laws _ _ word_laws)))))

pub reply_reads : (p : Procedure) → ReaderIsExact (reply p)
unfolding reply
reply_reads procedures.Init = (after-laws _ _ status_laws (λ s. made-laws _ _ word_laws)).reads
reply_reads procedures.GetDevices = (after-laws _ _ status_laws (λ s. made-laws _ _ devices_laws)).reads
reply_reads procedures.Open = (after-laws _ _ status_laws (λ s. after-laws _ _ word_laws (λ device. made-laws _ _ string_laws))).reads
reply_reads procedures.GetOptionDescriptors = (made-laws _ _ descriptors_laws).reads
reply_reads procedures.ControlOption = (after-laws _ _ status_laws (λ s. after-laws _ _ word_laws (λ info. after-spelled-laws _ _ kind_laws (λ text kind t.
    after-laws _ _ (value_laws kind (from_to_value 0 3 text kind t)) (λ value. made-laws _ _ string_laws))))).reads
reply_reads procedures.GetParameters = (after-laws _ _ status_laws (λ s. made-laws _ _ params_laws)).reads
reply_reads procedures.Start = (after-laws _ _ status_laws (λ s. after-laws _ _ (from_to_laws 0 65535 (omega arith) (omega arith)) (λ port. after-laws _ _ (kind-laws order order_kind) (λ o. made-laws _ _ string_laws)))).reads
reply_reads procedures.Exit = refused-reads BadCode
reply_reads q = (made-laws _ _ word_laws).reads

-- No request is longer than a message may be.
use Rattle.std.proofs.Common.{◌≡◌, ◌∙◌, ℕ, zero, suc, ◌+◌, ◌*◌, ◌/◌, ◌≤◌, List, Ok, ap, length, length-append, arith}
use Rattle.std.proofs.lemmas.Bool.Decides.{nat_tests}
use Rattle.wire_format.specs.declared.fault.Fault.TheVariants.{BadCode, BadValue, TooLong}
use Rattle.wire_format.specs.declared.fault.Fault.{Fault}
use Rattle.wire_format.specs.Format.{Format, after, pure_format, map_format, places, fail_format, run}
use Rattle.wire_format.specs.WordKinds.{WordKind, between, word_of_kind}
use Rattle.sane_fixed.specs.declared.kind.Kind.{Kind as ValueKind}
use Rattle.sane_fixed.specs.declared.kind.Kind.TheVariants as kinds
use Rattle.wire_message.specs.declared.message.Procedure.{Procedure}
use Rattle.wire_message.specs.declared.message.Procedure.TheVariants as procedures
use Rattle.wire_message.specs.declared.message.Request.{Request}
use Rattle.wire_message.specs.Kinds.{words_size}
use Rattle.wire_message.specs.Message.{arguments, bytes_value, from_to, message_limit, procedure_at, request, string, text_format_of, up_to, value_of, word, words_value}

-- each of its texts has at most so many bytes
AtMost : {A : Type 0} → ℕ → Format A → Type 0
AtMost {A = A} n F = (text : List ℕ) (a : A) → F.spells text a → length text ≤ n

word_within : {A : Type 0} (K : WordKind A) → AtMost 4 (word_of_kind K)
unfolding AtMost
word_within K text a s = let four : length text ≡ 4 = ap length s.text_is in omega (arith, four)

done_within : {A : Type 0} (a : A) → AtMost 0 (pure_format a)
unfolding AtMost
done_within a text b s = let none : length text ≡ 0 = ap length s.0 in omega (arith, none)

after_within : {A B : Type 0} (n m : ℕ) (F : Format A) (G : A → Format B) → AtMost n F → ((text : List ℕ) (a : A) → F.spells text a → AtMost m (G a)) → AtMost (n + m) (after F G)
unfolding AtMost
after_within n m F G f g text b s =
    let front : length s.front ≤ n = f s.front s.first s.in_front in
    let back : length s.back ≤ m = g s.front s.first s.in_front s.back b s.behind in
    let whole : length text ≡ length s.front + length s.back = ap length s.whole ∙ length-append s.front s.back in
    omega (arith, front, back, whole)

made_within : {A B : Type 0} (n : ℕ) (make : A → B) (F : Format A) → AtMost n F → AtMost n (map_format make F)
unfolding AtMost
made_within n make F f text b s =
    let front : length s.front ≤ n = f s.front s.first s.in_front in
    let back : length s.back ≡ 0 = ap length s.behind.0 in
    let whole : length text ≡ length s.front + length s.back = ap length s.whole ∙ length-append s.front s.back in
    omega (arith, front, back, whole)

less_within : {A : Type 0} (n m : ℕ) (F : Format A) → n ≤ m → AtMost n F → AtMost m F
unfolding AtMost
less_within n m F le f text a s = let short : length text ≤ n = f text a s in omega (arith, short, le)

-- ---- numbers

between_is : (low high n m : ℕ) → (between low high BadValue).judge m ≡ Ok n → n ≤ high
between_is low high n m e = grind (arith, nat_tests)

length_is : (high n m : ℕ) → (between 0 high TooLong).judge m ≡ Ok n → n ≤ high
length_is high n m e = grind (arith, nat_tests)

size_is : (n m : ℕ) → words_size.judge m ≡ Ok n → n ≤ 4096
size_is n m e = grind (arith, nat_tests)

-- ---- strings

text_within : (n : ℕ) → AtMost n (text_format_of n)
unfolding text_format_of AtMost
text_within zero text a s = let none : length text ≡ 0 = ap length s.0 in omega (arith, none)
text_within (suc n) text a s =
    let front : length s.front ≡ n = s.in_front.long in
    let nul : length s.behind.front ≡ 1 = ap length s.behind.in_front.text_is in
    let end : length s.behind.back ≡ 0 = ap length s.behind.behind.0 in
    let back : length s.back ≡ length s.behind.front + length s.behind.back = ap length s.behind.whole ∙ length-append s.behind.front s.behind.back in
    let whole : length text ≡ length s.front + length s.back = ap length s.whole ∙ length-append s.front s.back in
    omega (arith, front, nul, end, back, whole)

string_within : AtMost 1028 string
unfolding string
string_within = after_within 4 1024 (up_to 1024) text_format_of (word_within (between 0 1024 TooLong)) (λ text n s. less_within n 1024 (text_format_of n) (length_is 1024 n s.n s.is) (text_within n))

-- ---- values

places_within : (n : ℕ) → AtMost (n * 4) (places n word)
unfolding places AtMost
places_within zero text a s = let none : length text ≡ 0 = ap length s.0 in omega (arith, none)
places_within (suc n) text a s =
    let front : length s.front ≡ 4 = ap length s.in_front.text_is in
    let more : length s.behind.front ≤ n * 4 = places_within n s.behind.front s.behind.first s.behind.in_front in
    let end : length s.behind.back ≡ 0 = ap length s.behind.behind.0 in
    let back : length s.back ≡ length s.behind.front + length s.behind.back = ap length s.behind.whole ∙ length-append s.behind.front s.behind.back in
    let whole : length text ≡ length s.front + length s.back = ap length s.whole ∙ length-append s.front s.back in
    omega (arith, front, more, end, back, whole)

quarter : (size count : ℕ) → size ≤ 4096 → count ≤ size / 4 → count * 4 ≤ 4096
quarter size count le c = grind arith

words_within : AtMost 4104 words_value
unfolding words_value
words_within =
    after_within 4 4100 (word_of_kind words_size) _ (word_within words_size)
    (λ text size s.
    after_within 4 4096 (from_to (size / 4) (size / 4)) _ (word_within (between (size / 4) (size / 4) BadValue))
    (λ more count t. made_within 4096 _ (places count word) (less_within (count * 4) 4096 (places count word) (quarter size count (size_is size s.n s.is) (between_is (size / 4) (size / 4) count t.n t.is)) (places_within count))))

run_within : (least n : ℕ) → AtMost n (run least n)
unfolding AtMost
run_within least n text a s = let long : length text ≡ n = s.long in omega (arith, long)

bytes_within : AtMost 4104 bytes_value
unfolding bytes_value
bytes_within =
    after_within 4 4100 (up_to 1024) _ (word_within (between 0 1024 TooLong))
    (λ text size s.
    after_within 4 4096 (from_to size size) _ (word_within (between size size BadValue))
    (λ more count t.
    let short : size ≤ 1024 = length_is 1024 size s.n s.is in
    let same : count ≤ size = between_is size size count t.n t.is in
    made_within 4096 _ (run 0 count) (less_within count 4096 (run 0 count) (omega (arith, short, same)) (run_within 0 count))))

refused_within : (A : Type 0) (n : ℕ) (fault : Fault) → AtMost n (fail_format {A = A} fault)
unfolding AtMost
refused_within A n fault text a s = absurd s

value_within : (kind : ValueKind) → AtMost 4104 (value_of kind)
value_within kinds.Bool = words_within
value_within kinds.Int = words_within
value_within kinds.Fixed = words_within
value_within kinds.String = bytes_within
value_within kinds.Button = refused_within _ 4104 BadValue
value_within kinds.Group = refused_within _ 4104 BadValue

-- ---- requests

any : AtMost 4 word
any = word_within _

arguments_within : (p : Procedure) → AtMost 5000 (arguments p)
arguments_within procedures.Init = less_within 1032 5000 _ (omega arith) (after_within 4 1028 word _ any (λ text version s. made_within 1028 _ string string_within))
arguments_within procedures.Open = less_within 1028 5000 _ (omega arith) (made_within 1028 _ string string_within)
arguments_within procedures.Close = less_within 4 5000 _ (omega arith) (made_within 4 _ word any)
arguments_within procedures.GetOptionDescriptors = less_within 4 5000 _ (omega arith) (made_within 4 _ word any)
arguments_within procedures.ControlOption =
    less_within 4120 5000 _ (omega arith)
    (after_within 4 4116 word _ any
    (λ text device s.
    after_within 4 4112 word _ any
    (λ text option s.
    after_within 4 4108 (from_to 0 1) _ (word_within (between 0 1 BadValue))
    (λ text action s. after_within 4 4104 (from_to 0 3) _ (word_within (between 0 3 BadValue)) (λ text kind s. made_within 4104 _ (value_of _) (value_within _))))))
arguments_within procedures.GetParameters = less_within 4 5000 _ (omega arith) (made_within 4 _ word any)
arguments_within procedures.Start = less_within 4 5000 _ (omega arith) (made_within 4 _ word any)
arguments_within procedures.Cancel = less_within 4 5000 _ (omega arith) (made_within 4 _ word any)
arguments_within procedures.Authorize =
    less_within 3084 5000 _ (omega arith) (after_within 1028 2056 string _ string_within (λ text resource s. after_within 1028 1028 string _ string_within (λ text user s. made_within 1028 _ string string_within)))
arguments_within q = less_within 0 5000 _ (omega arith) (done_within _)

pub request_within : (text : List ℕ) (q : Request) → request.spells text q → length text ≤ message_limit
unfolding request AtMost
request_within text q s =
    let all : AtMost 5004 request = after_within 4 5000 (word_of_kind (between 0 10 BadCode)) (λ code. arguments (procedure_at code)) (word_within (between 0 10 BadCode)) (λ front code f. arguments_within (procedure_at code)) in
    let short : length text ≤ 5004 = all text q s in
    omega (arith, short)

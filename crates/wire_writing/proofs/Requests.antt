-- What is written of a request is a spelling of it, and what is refused has none.
use Rattle.std.proofs.Common.{◌≡◌, ℕ, zero, suc, ◌≤◌, ◌<◌, ◌^◌, Bool, true, false, ◌||◌, List, Ok, refl, sym, ap, subst, ◌∙◌, arith}
use Rattle.std.proofs.lemmas.Bool.Decides.{nat_tests}
use Rattle.wire_format.specs.declared.fault.Fault.TheVariants.{BadCode, BadValue}
use Rattle.wire_format.specs.Format.{Format, after, map_format}
use Rattle.wire_format.specs.WordKinds.{word_of_kind, between}
use Rattle.wire_format.specs.Writer.{Writer, WritesFormat, append_text, IsFirstPart, write_nothing, write_after, write_by, write_word}
use Rattle.wire_format.proofs.Writers.{nothing-writes, after-writes, only-part, made-writes, word-writes, between-number}
use Rattle.sane_fixed.specs.declared.kind.Kind.{Kind}
use Rattle.sane_fixed.specs.declared.kind.Kind.TheVariants as kinds
use Rattle.sane_fixed.specs.Kind.{kind_code}
use Rattle.wire_message.specs.declared.message.ControlAction.{ControlAction}
use Rattle.wire_message.specs.declared.message.ControlAction.TheVariants as actions
use Rattle.wire_message.specs.declared.message.Procedure.{Procedure}
use Rattle.wire_message.specs.declared.message.Procedure.TheVariants as procedures
use Rattle.wire_message.specs.declared.message.WireValue.{WireValue}
use Rattle.wire_message.specs.declared.message.Request.{Request}
use Rattle.wire_message.specs.declared.message.Request.TheVariants as requests
use Rattle.wire_message.specs.Message.{from_to, word, string, value_of, kind_at, action_at, arguments, procedure_at, request}
use Rattle.wire_writing.specs.RequestWriting.{write_from_to, write_any, write_string, write_resource, write_value, value_text, action_code, code_text, write_request}
use Rattle.wire_writing.proofs.Spelled.{any-writes, any_short, string-writes, resource-writes, value-writes}

-- the same text and the same limits by another writer
as_writes : {A : Type 0} (F : Format A) (W V : Writer A) (a : A) → WritesFormat F W a → V.long a ≡ W.long a → V.text a ≡ W.text a → WritesFormat F V a
as_writes F W V a f long text = record {
  spelled = λ t e. f.spelled t (sym text ∙ e);
  past = λ e. text ∙ f.past (sym long ∙ e);
  none = λ short e t s. f.none (sym long ∙ short) (sym text ∙ e) t s;
}

-- ---- the code

procedure_of : Request → Procedure
procedure_of (requests.Init version user) = procedures.Init
procedure_of requests.GetDevices = procedures.GetDevices
procedure_of (requests.Open name) = procedures.Open
procedure_of (requests.Close device) = procedures.Close
procedure_of (requests.GetOptionDescriptors device) = procedures.GetOptionDescriptors
procedure_of (requests.ControlOption device option action kind value) = procedures.ControlOption
procedure_of (requests.GetParameters device) = procedures.GetParameters
procedure_of (requests.Start device) = procedures.Start
procedure_of (requests.Cancel device) = procedures.Cancel
procedure_of (requests.Authorize resource user password) = procedures.Authorize
procedure_of requests.Exit = procedures.Exit

number_of : Procedure → ℕ
number_of procedures.Init = 0
number_of procedures.GetDevices = 1
number_of procedures.Open = 2
number_of procedures.Close = 3
number_of procedures.GetOptionDescriptors = 4
number_of procedures.ControlOption = 5
number_of procedures.GetParameters = 6
number_of procedures.Start = 7
number_of procedures.Cancel = 8
number_of procedures.Authorize = 9
number_of procedures.Exit = 10

number_at : (n : ℕ) → n ≤ 10 → number_of (procedure_at n) ≡ n
unfolding number_of
number_at zero le = refl
number_at (suc zero) le = refl
number_at (suc (suc zero)) le = refl
number_at (suc (suc (suc zero))) le = refl
number_at (suc (suc (suc (suc zero)))) le = refl
number_at (suc (suc (suc (suc (suc zero))))) le = refl
number_at (suc (suc (suc (suc (suc (suc zero)))))) le = refl
number_at (suc (suc (suc (suc (suc (suc (suc zero))))))) le = refl
number_at (suc (suc (suc (suc (suc (suc (suc (suc zero)))))))) le = refl
number_at (suc (suc (suc (suc (suc (suc (suc (suc (suc zero))))))))) le = refl
number_at (suc (suc (suc (suc (suc (suc (suc (suc (suc (suc zero)))))))))) le = refl
number_at (suc (suc (suc (suc (suc (suc (suc (suc (suc (suc (suc n))))))))))) le = absurd (omega arith)

-- the arguments of a procedure spell a request to it
is_to : (p : Procedure) (text : List ℕ) (r : Request) → (arguments p).spells text r → procedure_of r ≡ p
unfolding procedure_of
is_to procedures.Init text r s = ap procedure_of s.behind.behind.1
is_to procedures.Open text r s = ap procedure_of s.behind.1
is_to procedures.Close text r s = ap procedure_of s.behind.1
is_to procedures.GetOptionDescriptors text r s = ap procedure_of s.behind.1
is_to procedures.ControlOption text r s = ap procedure_of s.behind.behind.behind.behind.behind.1
is_to procedures.GetParameters text r s = ap procedure_of s.behind.1
is_to procedures.Start text r s = ap procedure_of s.behind.1
is_to procedures.Cancel text r s = ap procedure_of s.behind.1
is_to procedures.Authorize text r s = ap procedure_of s.behind.behind.behind.1
is_to q text r s = ap procedure_of s.1

code_value : (text : List ℕ) (n : ℕ) → (word_of_kind (between 0 10 BadCode)).spells text n → n ≤ 10
code_value text n s = value s.n s.is
  where
    value : (m : ℕ) → (between 0 10 BadCode).judge m ≡ Ok n → n ≤ 10
    value m e = grind (arith, nat_tests)

-- a code and its arguments
behind_code : (code : ℕ) (V : Writer Request) (r : Request) → number_of (procedure_of r) ≡ code → WritesFormat (arguments (procedure_at code)) V r
    → WritesFormat request (write_after (λ (q : Request). code) (write_word (between 0 10 BadCode) (λ n. n)) (λ n. V)) r
unfolding request
behind_code code V r number f =
    after-writes (λ (q : Request). code) (word_of_kind (between 0 10 BadCode)) (λ n. arguments (procedure_at n)) (write_word (between 0 10 BadCode) (λ n. n)) (λ n. V) r
    (word-writes (between 0 10 BadCode) (λ n. n) (between-number 0 10 BadCode (omega arith)) code) f part
  where
    part : IsFirstPart (λ (q : Request). code) (word_of_kind (between 0 10 BadCode)) (λ n. arguments (procedure_at n)) r
    part a front back s t =
        let is : a ≡ code = sym (number_at a (code_value front a s)) ∙ ap number_of (sym (is_to (procedure_at a) back r t)) ∙ number in
        ((front, subst (λ (n : ℕ). (word_of_kind (between 0 10 BadCode)).spells front n) is s), (back, subst (λ (n : ℕ). (arguments (procedure_at n)).spells back r) is t))

-- ---- arguments of one string, one word, or none

one_string : (make : List ℕ → Request) (text : List ℕ) → ((a : List ℕ) → make text ≡ make a → a ≡ text) → WritesFormat (map_format make string) (write_by (λ (r : Request). text) write_string) (make text)
one_string make text same =
    made-writes (λ (r : Request). text) string make write_string (make text) (string-writes text)
    (record { again = refl; own = λ spelling a s e. (spelling, subst (λ (t : List ℕ). string.spells spelling t) (same a e) s) })

one_word : (make : ℕ → Request) (n : ℕ) → ((a : ℕ) → make n ≡ make a → a ≡ n) → WritesFormat (map_format make word) (write_by (λ (r : Request). n) write_any) (make n)
one_word make n same =
    made-writes (λ (r : Request). n) word make write_any (make n) (any-writes n)
    (record { again = refl; own = λ spelling a s e. (spelling, subst (λ (m : ℕ). word.spells spelling m) (same a e) s) })

-- ---- three strings

or_assoc : (a b c : Bool) → (a || b || c) ≡ (a || (b || c))
or_assoc true b c = refl
or_assoc false b c = refl

authorize-writes : (resource user password : List ℕ) → WritesFormat request write_request (requests.Authorize resource user password)
unfolding number_of procedure_of
authorize-writes resource user password =
    let r : Request = requests.Authorize resource user password in
    as_writes request _ write_request (requests.Authorize resource user password)
    (behind_code 9 (write_after (λ (r : Request). resource) write_resource (λ x. write_after (λ (r : Request). user) write_string (λ y. write_by (λ (r : Request). password) write_string))) (requests.Authorize resource user password) refl
    (after-writes (λ (r : Request). resource) string (λ x. after string (λ y. map_format (λ z. requests.Authorize x y z) string)) write_resource (λ x. write_after (λ (r : Request). user) write_string (λ y. write_by (λ (r : Request). password) write_string)) (requests.Authorize resource user password)
    (resource-writes resource)
    (after-writes (λ (r : Request). user) string (λ y. map_format (λ z. requests.Authorize resource y z) string) write_string (λ y. write_by (λ (r : Request). password) write_string) (requests.Authorize resource user password)
    (string-writes user) (one_string (λ z. requests.Authorize resource user z) password (λ a e. cc))
    (only-part (λ (r : Request). user) string (λ y. map_format (λ z. requests.Authorize resource y z) string) (requests.Authorize resource user password) (λ a back s. let e = s.behind.1 in cc)))
    (only-part (λ (r : Request). resource) string (λ x. after string (λ y. map_format (λ z. requests.Authorize x y z) string)) (requests.Authorize resource user password) (λ a back s. let e = s.behind.behind.1 in cc))))
    (or_assoc (write_resource.long resource) (write_string.long user) (write_string.long password)) refl

-- ---- the value of an option

code-writes : (high n : ℕ) → high < 2 ^ 32 → WritesFormat (from_to 0 high) (write_from_to 0 high) n
code-writes high n small = word-writes (between 0 high BadValue) (λ m. m) (between-number 0 high BadValue small) n

option_of : Request → ℕ
option_of (requests.ControlOption device option action kind value) = option
option_of _ = 0

device_of : Request → ℕ
device_of (requests.ControlOption device option action kind value) = device
device_of _ = 0

action_of : Request → ℕ
action_of (requests.ControlOption device option action kind value) = action_code action
action_of _ = 0

kind_of : Request → ℕ
kind_of (requests.ControlOption device option action kind value) = kind_code kind
kind_of _ = 0

value_is : (device option : ℕ) (action : ControlAction) (kind : Kind) (v w : WireValue) → requests.ControlOption device option action kind v ≡ requests.ControlOption device option action kind w → v ≡ w
value_is device option action kind v w e = cc

action_number : (n : ℕ) → n ≤ 1 → action_code (action_at n) ≡ n
action_number zero le = refl
action_number (suc zero) le = refl
action_number (suc (suc n)) le = absurd (omega arith)

kind_number : (n : ℕ) → n ≤ 3 → kind_code (kind_at n) ≡ n
kind_number zero le = refl
kind_number (suc zero) le = refl
kind_number (suc (suc zero)) le = refl
kind_number (suc (suc (suc zero))) le = refl
kind_number (suc (suc (suc (suc n)))) le = absurd (omega arith)

code_at_most : (high : ℕ) (text : List ℕ) (n : ℕ) → (from_to 0 high).spells text n → n ≤ high
code_at_most high text n s = value s.n s.is
  where
    value : (m : ℕ) → (between 0 high BadValue).judge m ≡ Ok n → n ≤ high
    value m e = grind (arith, nat_tests)

-- the value behind the words
value_behind : (device option : ℕ) (action : ControlAction) (k : ℕ) (value : WireValue)
    → WritesFormat (map_format (λ v. requests.ControlOption device option action (kind_at k) v) (value_of (kind_at k))) (write_by (λ (r : Request). value) (write_value (kind_at k))) (requests.ControlOption device option action (kind_at k) value)
value_behind device option action k value =
    made-writes (λ (r : Request). value) (value_of (kind_at k)) (λ v. requests.ControlOption device option action (kind_at k) v) (write_value (kind_at k)) (requests.ControlOption device option action (kind_at k) value)
    (value-writes (kind_at k) value)
    (record { again = refl; own = λ spelling v s e. (spelling, subst (λ (w : WireValue). (value_of (kind_at k)).spells spelling w) (sym (value_is device option action (kind_at k) value v e)) s) })

kind_behind : (device option : ℕ) (action : ControlAction) (k : ℕ) (value : WireValue) → kind_code (kind_at k) ≡ k
    → WritesFormat (after (from_to 0 3) (λ n. map_format (λ v. requests.ControlOption device option action (kind_at n) v) (value_of (kind_at n)))) (write_after (λ (r : Request). k) (write_from_to 0 3) (λ n. write_by (λ (r : Request). value) (write_value (kind_at n))))
    (requests.ControlOption device option action (kind_at k) value)
unfolding kind_of
kind_behind device option action k value number =
    after-writes (λ (r : Request). k) (from_to 0 3) (λ n. map_format (λ v. requests.ControlOption device option action (kind_at n) v) (value_of (kind_at n))) (write_from_to 0 3) (λ n. write_by (λ (r : Request). value) (write_value (kind_at n)))
    (requests.ControlOption device option action (kind_at k) value) (code-writes 3 k (omega arith)) (value_behind device option action k value)
    (λ a front back s t.
    let is : a ≡ k = sym (kind_number a (code_at_most 3 front a s)) ∙ sym (ap kind_of t.behind.1) ∙ number in (
      (front, subst (λ (n : ℕ). (from_to 0 3).spells front n) is s),
      (back, subst (λ (n : ℕ). (map_format (λ v. requests.ControlOption device option action (kind_at n) v) (value_of (kind_at n))).spells back (requests.ControlOption device option action (kind_at k) value)) is t),
    ))

abbrev behind_action : ℕ → ℕ → ℕ → Format Request
behind_action device option a = after (from_to 0 3) (λ n. map_format (λ v. requests.ControlOption device option (action_at a) (kind_at n) v) (value_of (kind_at n)))

abbrev kind_writer : ℕ → WireValue → Writer Request
kind_writer k value = write_after (λ (r : Request). k) (write_from_to 0 3) (λ n. write_by (λ (r : Request). value) (write_value (kind_at n)))

action_behind : (device option a k : ℕ) (value : WireValue) → action_code (action_at a) ≡ a → kind_code (kind_at k) ≡ k
    → WritesFormat (after (from_to 0 1) (λ n. behind_action device option n)) (write_after (λ (r : Request). a) (write_from_to 0 1) (λ n. kind_writer k value)) (requests.ControlOption device option (action_at a) (kind_at k) value)
unfolding action_of
action_behind device option a k value number kind_number =
    after-writes (λ (r : Request). a) (from_to 0 1) (λ n. behind_action device option n) (write_from_to 0 1) (λ n. kind_writer k value)
    (requests.ControlOption device option (action_at a) (kind_at k) value) (code-writes 1 a (omega arith)) (kind_behind device option (action_at a) k value kind_number)
    (λ n front back s t.
    let is : n ≡ a = sym (action_number n (code_at_most 1 front n s)) ∙ sym (ap action_of t.behind.behind.1) ∙ number in (
      (front, subst (λ (m : ℕ). (from_to 0 1).spells front m) is s),
      (back, subst (λ (m : ℕ). (behind_action device option m).spells back (requests.ControlOption device option (action_at a) (kind_at k) value)) is t),
    ))

abbrev action_writer : ℕ → ℕ → WireValue → Writer Request
action_writer a k value = write_after (λ (r : Request). a) (write_from_to 0 1) (λ n. kind_writer k value)

abbrev option_writer : ℕ → ℕ → ℕ → WireValue → Writer Request
option_writer option a k value = write_after (λ (r : Request). option) write_any (λ n. action_writer a k value)

option_behind : (device option a k : ℕ) (value : WireValue) → action_code (action_at a) ≡ a → kind_code (kind_at k) ≡ k
    → WritesFormat (after word (λ o. after (from_to 0 1) (λ n. behind_action device o n))) (option_writer option a k value) (requests.ControlOption device option (action_at a) (kind_at k) value)
unfolding option_of
option_behind device option a k value action_is kind_is =
    after-writes (λ (r : Request). option) word (λ o. after (from_to 0 1) (λ n. behind_action device o n)) write_any (λ n. action_writer a k value)
    (requests.ControlOption device option (action_at a) (kind_at k) value) (any-writes option) (action_behind device option a k value action_is kind_is)
    (only-part (λ (r : Request). option) word (λ o. after (from_to 0 1) (λ n. behind_action device o n)) (requests.ControlOption device option (action_at a) (kind_at k) value) (λ n back t. sym (ap option_of t.behind.behind.behind.1)))

device_behind : (device option a k : ℕ) (value : WireValue) → action_code (action_at a) ≡ a → kind_code (kind_at k) ≡ k
    → WritesFormat (arguments procedures.ControlOption) (write_after (λ (r : Request). device) write_any (λ d. option_writer option a k value)) (requests.ControlOption device option (action_at a) (kind_at k) value)
unfolding device_of
device_behind device option a k value action_is kind_is =
    after-writes (λ (r : Request). device) word (λ d. after word (λ o. after (from_to 0 1) (λ n. behind_action d o n))) write_any (λ d. option_writer option a k value)
    (requests.ControlOption device option (action_at a) (kind_at k) value) (any-writes device) (option_behind device option a k value action_is kind_is)
    (only-part (λ (r : Request). device) word (λ d. after word (λ o. after (from_to 0 1) (λ n. behind_action d o n))) (requests.ControlOption device option (action_at a) (kind_at k) value) (λ n back t. sym (ap device_of t.behind.behind.behind.behind.1)))

control : (device option a k : ℕ) (value : WireValue) → action_code (action_at a) ≡ a → kind_code (kind_at k) ≡ k
    → (write_from_to 0 1).long a ≡ false → (write_from_to 0 3).long k ≡ false → (write_from_to 0 1).text a ≡ code_text (action_code (action_at a))
    → append_text ((write_from_to 0 3).text k) (value_text (kind_at k) value) ≡ append_text (code_text (kind_code (kind_at k))) (value_text (kind_at k) value)
    → WritesFormat request write_request (requests.ControlOption device option (action_at a) (kind_at k) value)
unfolding number_of procedure_of
control device option a k value action_is kind_is short_a short_k text_a text_k =
    as_writes request _ write_request (requests.ControlOption device option (action_at a) (kind_at k) value)
    (behind_code 5 (write_after (λ (r : Request). device) write_any (λ d. option_writer option a k value)) (requests.ControlOption device option (action_at a) (kind_at k) value) refl (device_behind device option a k value action_is kind_is))
    (rw (any_short device, any_short option, short_a, short_k) refl) (rw (text_a, text_k) refl)

control-writes : (device option : ℕ) (action : ControlAction) (kind : Kind) (value : WireValue) → WritesFormat request write_request (requests.ControlOption device option action kind value)
control-writes device option actions.GetValue kinds.Bool value = control device option 0 0 value refl refl refl refl refl refl
control-writes device option actions.GetValue kinds.Int value = control device option 0 1 value refl refl refl refl refl refl
control-writes device option actions.GetValue kinds.Fixed value = control device option 0 2 value refl refl refl refl refl refl
control-writes device option actions.GetValue kinds.String value = control device option 0 3 value refl refl refl refl refl refl
control-writes device option actions.GetValue kinds.Button value = control device option 0 4 value refl refl refl refl refl refl
control-writes device option actions.GetValue kinds.Group value = control device option 0 5 value refl refl refl refl refl refl
control-writes device option actions.SetValue kinds.Bool value = control device option 1 0 value refl refl refl refl refl refl
control-writes device option actions.SetValue kinds.Int value = control device option 1 1 value refl refl refl refl refl refl
control-writes device option actions.SetValue kinds.Fixed value = control device option 1 2 value refl refl refl refl refl refl
control-writes device option actions.SetValue kinds.String value = control device option 1 3 value refl refl refl refl refl refl
control-writes device option actions.SetValue kinds.Button value = control device option 1 4 value refl refl refl refl refl refl
control-writes device option actions.SetValue kinds.Group value = control device option 1 5 value refl refl refl refl refl refl

pub request-writes : (r : Request) → WritesFormat request write_request r
unfolding number_of procedure_of
request-writes (requests.Init version user) =
    as_writes request _ write_request (requests.Init version user)
    (behind_code 0 (write_after (λ (r : Request). version) write_any (λ v. write_by (λ (r : Request). user) write_string)) (requests.Init version user) refl
    (after-writes (λ (r : Request). version) word (λ v. map_format (λ u. requests.Init v u) string) write_any (λ v. write_by (λ (r : Request). user) write_string) (requests.Init version user)
    (any-writes version) (one_string (λ u. requests.Init version u) user (λ a e. cc))
    (only-part (λ (r : Request). version) word (λ v. map_format (λ u. requests.Init v u) string) (requests.Init version user) (λ a back s. let e = s.behind.1 in cc))))
    (rw (any_short version) refl) refl
request-writes requests.GetDevices =
    as_writes request _ write_request requests.GetDevices (behind_code 1 write_nothing requests.GetDevices refl (nothing-writes requests.GetDevices)) refl refl
request-writes (requests.Open name) =
    as_writes request _ write_request (requests.Open name) (behind_code 2 (write_by (λ (r : Request). name) write_string) (requests.Open name) refl (one_string (λ t. requests.Open t) name (λ a e. cc))) refl refl
request-writes (requests.Close device) =
    as_writes request _ write_request (requests.Close device) (behind_code 3 (write_by (λ (r : Request). device) write_any) (requests.Close device) refl (one_word (λ n. requests.Close n) device (λ a e. cc))) (sym (any_short device)) refl
request-writes (requests.GetOptionDescriptors device) =
    as_writes request _ write_request (requests.GetOptionDescriptors device) (behind_code 4 (write_by (λ (r : Request). device) write_any) (requests.GetOptionDescriptors device) refl (one_word (λ n. requests.GetOptionDescriptors n) device (λ a e. cc))) (sym (any_short device)) refl
request-writes (requests.ControlOption device option action kind value) = control-writes device option action kind value
request-writes (requests.GetParameters device) =
    as_writes request _ write_request (requests.GetParameters device) (behind_code 6 (write_by (λ (r : Request). device) write_any) (requests.GetParameters device) refl (one_word (λ n. requests.GetParameters n) device (λ a e. cc))) (sym (any_short device)) refl
request-writes (requests.Start device) =
    as_writes request _ write_request (requests.Start device) (behind_code 7 (write_by (λ (r : Request). device) write_any) (requests.Start device) refl (one_word (λ n. requests.Start n) device (λ a e. cc))) (sym (any_short device)) refl
request-writes (requests.Cancel device) =
    as_writes request _ write_request (requests.Cancel device) (behind_code 8 (write_by (λ (r : Request). device) write_any) (requests.Cancel device) refl (one_word (λ n. requests.Cancel n) device (λ a e. cc))) (sym (any_short device)) refl
request-writes (requests.Authorize resource user password) = authorize-writes resource user password
request-writes requests.Exit =
    as_writes request _ write_request requests.Exit (behind_code 10 write_nothing requests.Exit refl (nothing-writes requests.Exit)) refl refl

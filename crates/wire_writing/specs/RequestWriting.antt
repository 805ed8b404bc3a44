-- The one way of writing each message.
use Rattle.std.specs.Prelude.{ℕ, zero, suc, ◌*◌, ◌||◌, nat_lt, Bool, false, List, [], ◌∷◌, length, Option, Some, None}
use Rattle.std.specs.Prelude.{if◌then◌else◌}
use Rattle.std.specs.Prelude.{Result, Ok, Err, ◌≡◌}
use Rattle.std.specs.Int.{w32, to_be_bytes}
use Rattle.wire_format.specs.declared.fault.Fault.{Fault}
use Rattle.wire_message.specs.declared.message_fault.WireFault.{WireFault}
use Rattle.wire_message.specs.declared.message_fault.WireFault.TheVariants as wire
use Rattle.wire_format.specs.declared.fault.Fault.TheVariants.{BadCode, BadValue, TooLong}
use Rattle.wire_format.specs.WordKinds.{between}
use Rattle.wire_format.specs.Writer.{Writer, append_text, write_nothing, write_after, write_by, write_places}
use Rattle.wire_format.specs.Writer.{write_word, write_byte, write_run}
use Rattle.sane_fixed.specs.declared.kind.Kind.{Kind}
use Rattle.sane_fixed.specs.declared.kind.Kind.TheVariants as kinds
use Rattle.sane_fixed.specs.Kind.{kind_code}
use Rattle.wire_message.specs.declared.message.ControlAction.{ControlAction}
use Rattle.wire_message.specs.declared.message.ControlAction.TheVariants as actions
use Rattle.wire_message.specs.declared.message.WireValue.{WireValue}
use Rattle.wire_message.specs.declared.message.WireValue.TheVariants as values
use Rattle.wire_message.specs.declared.message.Request.{Request}
use Rattle.wire_message.specs.declared.message.Request.TheVariants as requests

abbrev pub write_from_to : ℕ → ℕ → Writer ℕ
write_from_to low high = write_word (between low high BadValue) (λ n. n)

abbrev pub write_any : Writer ℕ
write_any = write_from_to 0 4294967295

abbrev pub write_up_to : ℕ → Writer ℕ
write_up_to high = write_word (between 0 high TooLong) (λ n. n)

abbrev pub code_text : ℕ → Option (List ℕ)
code_text code = Some (to_be_bytes w32 code)

-- ---- strings

-- what stands behind a string's length
abbrev pub write_text_of : ℕ → Writer (List ℕ)
write_text_of zero = write_nothing
write_text_of (suc n) = write_after (λ text. text) (write_run 1 n) (λ text. write_by (λ text. 0) (write_byte 0 0))

-- the length counts the NUL
unfoldable pub write_string : Writer (List ℕ)
write_string = write_after (λ text. suc (length text)) (write_up_to 1024) write_text_of

-- an empty resource is written without its NUL
abbrev pub resource_text : List ℕ → Option (List ℕ)
resource_text [] = code_text 0
resource_text (b ∷ bytes) = write_string.text (b ∷ bytes)

abbrev pub write_resource : Writer (List ℕ)
write_resource = record { long = write_string.long; text = resource_text }

-- ---- values

abbrev pub value_long : WireValue → Bool
value_long (values.Words words) = nat_lt 1024 (length words)
value_long (values.Bytes bytes) = nat_lt 1024 (length bytes)

-- a size, a length, and the words or the bytes
abbrev pub words_text : WireValue → Option (List ℕ)
words_text (values.Words words) = if nat_lt 1024 (length words) then None else
    append_text (Some (to_be_bytes w32 (length words * 4)))
    (append_text (Some (to_be_bytes w32 (length words))) ((write_places (length words) write_any).text words))
words_text (values.Bytes bytes) = None

abbrev pub bytes_text : WireValue → Option (List ℕ)
bytes_text (values.Words words) = None
bytes_text (values.Bytes bytes) = if nat_lt 1024 (length bytes) then None else
    append_text (Some (to_be_bytes w32 (length bytes)))
    (append_text (Some (to_be_bytes w32 (length bytes))) ((write_run 0 (length bytes)).text bytes))

-- by the kind of the value
abbrev pub value_text : Kind → WireValue → Option (List ℕ)
value_text kinds.Bool value = words_text value
value_text kinds.Int value = words_text value
value_text kinds.Fixed value = words_text value
value_text kinds.String value = bytes_text value
value_text kinds.Button value = None
value_text kinds.Group value = None

abbrev pub write_value : Kind → Writer WireValue
write_value kind = record { long = value_long; text = value_text kind }

-- ---- requests

abbrev pub action_code : ControlAction → ℕ
action_code actions.GetValue = 0
action_code actions.SetValue = 1

abbrev pub request_long : Request → Bool
request_long (requests.Init version user) = write_string.long user
request_long requests.GetDevices = false
request_long (requests.Open name) = write_string.long name
request_long (requests.Close device) = false
request_long (requests.GetOptionDescriptors device) = false
request_long (requests.ControlOption device option action kind value) = value_long value
request_long (requests.GetParameters device) = false
request_long (requests.Start device) = false
request_long (requests.Cancel device) = false
request_long (requests.Authorize resource user password) =
    write_resource.long resource || write_string.long user || write_string.long password
request_long requests.Exit = false

-- a code and a word
abbrev pub code_and_word_text : ℕ → ℕ → Option (List ℕ)
code_and_word_text code n = append_text (code_text code) (write_any.text n)

abbrev pub request_text : Request → Option (List ℕ)
request_text (requests.Init version user) =
    append_text (code_text 0) (append_text (write_any.text version) (write_string.text user))
request_text requests.GetDevices = code_text 1
request_text (requests.Open name) = append_text (code_text 2) (write_string.text name)
request_text (requests.Close device) = code_and_word_text 3 device
request_text (requests.GetOptionDescriptors device) = code_and_word_text 4 device
request_text (requests.ControlOption device option action kind value) =
    append_text (code_text 5)
    (append_text (write_any.text device)
    (append_text (write_any.text option)
    (append_text (code_text (action_code action))
    (append_text (code_text (kind_code kind)) (value_text kind value)))))
request_text (requests.GetParameters device) = code_and_word_text 6 device
request_text (requests.Start device) = code_and_word_text 7 device
request_text (requests.Cancel device) = code_and_word_text 8 device
request_text (requests.Authorize resource user password) =
    append_text (code_text 9)
    (append_text (write_resource.text resource) (append_text (write_string.text user) (write_string.text password)))
request_text requests.Exit = code_text 10

-- **the text of a request or a reply (`write_request`, `write_reply`, `replied_procedure`)**: the one way of writing
-- it, and whether it passes a limit; the procedure that a reply answers.
abbrev pub write_request : Writer Request
write_request = record { long = request_long; text = request_text }

-- ---- what an encoder answers

-- what is answered, seen by view, is the text, or the fault, unless memory ran out
abbrev pub EncodesAs : {V : Type 0} → (V → List ℕ) → Result V WireFault → Result (List ℕ) Fault → Type 0
EncodesAs view (Ok bytes) answer = answer ≡ Ok (view bytes)
EncodesAs view (Err wire.BadCode) answer = answer ≡ Err BadCode
EncodesAs view (Err wire.BadValue) answer = answer ≡ Err BadValue
EncodesAs view (Err wire.TooLong) answer = answer ≡ Err TooLong
EncodesAs view (Err wire.NoMem) answer = Unit {0}

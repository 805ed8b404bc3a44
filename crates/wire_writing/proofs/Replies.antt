-- What is written of a reply is a spelling of it, and what is refused has none.
use Rattle.std.proofs.Common.{◌≡◌, ℕ, zero, suc, ◌≤◌, false, ◌||◌, List, [], None, refl, sym, ap, subst, ◌∙◌, arith}
use Rattle.std.specs.Int.{w32, to_be_bytes}
use Rattle.std.proofs.lemmas.Bool.Decides.{nat_tests}
use Rattle.wire_format.specs.declared.fault.Fault.TheVariants.{BadValue}
use Rattle.wire_format.specs.WordKinds.{word_of_kind, between}
use Rattle.wire_format.proofs.Writers.{word-writes, between-number}
use Rattle.sane_fixed.specs.declared.byte_order.ByteOrder.{ByteOrder}
use Rattle.sane_fixed.specs.declared.byte_order.ByteOrder.TheVariants.{Little, Big}
use Rattle.wire_message.specs.Kinds.{order}
use Rattle.wire_format.specs.Format.{Format, after, map_format}
use Rattle.wire_format.specs.Writer.{WritesFormat, append_text}
use Rattle.sane_fixed.specs.Kind.{kind_code}
use Rattle.sane_fixed.specs.declared.kind.Kind.{Kind}
use Rattle.sane_fixed.specs.declared.kind.Kind.TheVariants as kinds
use Rattle.sane_fixed.specs.declared.info.Info.{Info}
use Rattle.wire_message.specs.declared.message.WireValue.{WireValue}
use Rattle.sane_fixed.specs.Status.{status_code, status_at}
use Rattle.sane_fixed.specs.declared.status.Status.{Status}
use Rattle.sane_fixed.specs.declared.status.Status.TheVariants as statuses
use Rattle.wire_message.specs.declared.message.Procedure.TheVariants as procedures
use Rattle.wire_message.specs.declared.message.Reply.{Reply}
use Rattle.wire_message.specs.declared.message.Reply.TheVariants as replies
use Rattle.wire_message.specs.Message.{from_to, word, string, devices, descriptors, kind_at, value_of, params, status, reply}
use Rattle.wire_writing.specs.RequestWriting.{write_from_to, write_any, write_resource, value_long, value_text, write_value, code_text}
use Rattle.wire_writing.specs.ReplyWriting.{write_devices, write_descriptors, params_text, order_code, replied_procedure, write_reply}
use Rattle.wire_writing.proofs.Spelled.{value-writes}
use Rattle.std.proofs.lemmas.List.{append-nil}
use Rattle.wire_writing.proofs.Descriptors.{any_at, kind_number, descriptors_at, params_at}
use Rattle.wire_writing.proofs.Devices.{resource_at, devices_at}
use Rattle.wire_writing.proofs.AtValue.{At, at_value, by_value, same_at, there, nowhere, behind_only, first_at, made_at, word_spelled, code_at_most, behind_front, coded}

status_spelled : (s : Status) → status.spells (to_be_bytes w32 (status_code s)) s
status_spelled statuses.Good = coded status_at 11 0 statuses.Good (omega arith) (omega arith) refl
status_spelled statuses.Unsupported = coded status_at 11 1 statuses.Unsupported (omega arith) (omega arith) refl
status_spelled statuses.Cancelled = coded status_at 11 2 statuses.Cancelled (omega arith) (omega arith) refl
status_spelled statuses.DeviceBusy = coded status_at 11 3 statuses.DeviceBusy (omega arith) (omega arith) refl
status_spelled statuses.Inval = coded status_at 11 4 statuses.Inval (omega arith) (omega arith) refl
status_spelled statuses.Eof = coded status_at 11 5 statuses.Eof (omega arith) (omega arith) refl
status_spelled statuses.Jammed = coded status_at 11 6 statuses.Jammed (omega arith) (omega arith) refl
status_spelled statuses.NoDocs = coded status_at 11 7 statuses.NoDocs (omega arith) (omega arith) refl
status_spelled statuses.CoverOpen = coded status_at 11 8 statuses.CoverOpen (omega arith) (omega arith) refl
status_spelled statuses.IoError = coded status_at 11 9 statuses.IoError (omega arith) (omega arith) refl
status_spelled statuses.NoMem = coded status_at 11 10 statuses.NoMem (omega arith) (omega arith) refl
status_spelled statuses.AccessDenied = coded status_at 11 11 statuses.AccessDenied (omega arith) (omega arith) refl

-- ---- replies

ignored-writes : (r : Reply) → (map_format (λ (n : ℕ). r) word).spells (to_be_bytes w32 0) r
ignored-writes r = record { first = 0; front = to_be_bytes w32 0; back = []; whole = sym (append-nil (to_be_bytes w32 0)); in_front = word_spelled 0 4294967295 0 (omega arith) (omega arith) (omega arith); behind = (refl, refl) }

order_spelled : (o : ByteOrder) → (word_of_kind order).spells (to_be_bytes w32 (order_code o)) o
order_spelled Little = record { n = 4660; text_is = refl; fits = omega arith; is = refl }
order_spelled Big = record { n = 17185; text_is = refl; fits = omega arith; is = refl }

port_at : (n : ℕ) → At (from_to 0 65535) false ((write_from_to 0 65535).text n) n
port_at n = same_at (from_to 0 65535) ((write_from_to 0 65535).long n) false ((write_from_to 0 65535).text n) ((write_from_to 0 65535).text n) n
    (at_value (from_to 0 65535) (write_from_to 0 65535) n (word-writes (between 0 65535 BadValue) (λ m. m) (between-number 0 65535 BadValue (omega arith)) n)) (grind (arith, nat_tests)) refl

open_at : (s : Status) (device : ℕ) (resource : List ℕ) → At (reply procedures.Open) (write_resource.long resource) (write_reply.text (replies.Open s device resource)) (replies.Open s device resource)
unfolding reply
open_at s device resource =
    behind_only status (λ x. after word (λ d. map_format (λ r. replies.Open x d r) string)) (to_be_bytes w32 (status_code s)) s (replies.Open s device resource) (write_resource.long resource) (append_text (write_any.text device) (write_resource.text resource)) (status_spelled s)
    (first_at word (λ d. map_format (λ r. replies.Open s d r) string) device (replies.Open s device resource) false (write_resource.long resource) (write_any.text device) (write_resource.text resource) (any_at device)
    (made_at (λ r. replies.Open s device r) string resource (write_resource.long resource) (write_resource.text resource) (resource_at resource) (λ x e. cc))
    (λ x k t. let e = t.behind.1 in cc))
    (λ x k t. let e = t.behind.behind.1 in cc)

start_at : (s : Status) (port : ℕ) (o : ByteOrder) (resource : List ℕ) → At (reply procedures.Start) (write_resource.long resource) (write_reply.text (replies.Start s port o resource)) (replies.Start s port o resource)
unfolding reply
start_at s port o resource =
    behind_only status (λ x. after (from_to 0 65535) (λ p. after (word_of_kind order) (λ y. map_format (λ r. replies.Start x p y r) string))) (to_be_bytes w32 (status_code s)) s (replies.Start s port o resource) (write_resource.long resource)
    (append_text ((write_from_to 0 65535).text port) (append_text (code_text (order_code o)) (write_resource.text resource))) (status_spelled s)
    (first_at (from_to 0 65535) (λ p. after (word_of_kind order) (λ y. map_format (λ r. replies.Start s p y r) string)) port (replies.Start s port o resource) false (write_resource.long resource)
    ((write_from_to 0 65535).text port) (append_text (code_text (order_code o)) (write_resource.text resource)) (port_at port)
    (behind_only (word_of_kind order) (λ y. map_format (λ r. replies.Start s port y r) string) (to_be_bytes w32 (order_code o)) o (replies.Start s port o resource) (write_resource.long resource) (write_resource.text resource) (order_spelled o)
    (made_at (λ r. replies.Start s port o r) string resource (write_resource.long resource) (write_resource.text resource) (resource_at resource) (λ x e. cc))
    (λ x k t. let e = t.behind.1 in cc))
    (λ x k t. let e = t.behind.behind.1 in cc))
    (λ x k t. let e = t.behind.behind.behind.1 in cc)

-- ---- the value of an option

abbrev behind_info : Status → ℕ → ℕ → Format Reply
behind_info s info n = after (value_of (kind_at n)) (λ value. map_format (λ resource. replies.ControlOption s (record { 0 = info }) (kind_at n) value resource) string)

value_at : (s : Status) (info : ℕ) (kind : Kind) (value : WireValue) (resource : List ℕ)
    → At (after (value_of kind) (λ v. map_format (λ r. replies.ControlOption s (record { 0 = info }) kind v r) string)) (value_long value || write_resource.long resource) (append_text (value_text kind value) (write_resource.text resource))
    (replies.ControlOption s (record { 0 = info }) kind value resource)
value_at s info kind value resource =
    first_at (value_of kind) (λ v. map_format (λ r. replies.ControlOption s (record { 0 = info }) kind v r) string) value (replies.ControlOption s (record { 0 = info }) kind value resource)
    (value_long value) (write_resource.long resource) (value_text kind value) (write_resource.text resource) (at_value (value_of kind) (write_value kind) value (value-writes kind value))
    (made_at (λ r. replies.ControlOption s (record { 0 = info }) kind value r) string resource (write_resource.long resource) (write_resource.text resource) (resource_at resource) (λ x e. cc))
    (λ x k t. let e = t.behind.1 in cc)

kind_of : Reply → Kind
kind_of (replies.ControlOption s info kind value resource) = kind
kind_of _ = kinds.Bool

info_of : Reply → ℕ
info_of (replies.ControlOption s info kind value resource) = info.0
info_of _ = 0

-- behind a kind that has values
with_value : (s : Status) (info n : ℕ) (value : WireValue) (resource : List ℕ) → n ≤ 3
    → At (after (from_to 0 3) (behind_info s info)) (value_long value || write_resource.long resource) (append_text (code_text n) (append_text (value_text (kind_at n) value) (write_resource.text resource)))
    (replies.ControlOption s (record { 0 = info }) (kind_at n) value resource)
unfolding kind_of
with_value s info n value resource le =
    behind_front (from_to 0 3) (behind_info s info) (to_be_bytes w32 n) n (replies.ControlOption s (record { 0 = info }) (kind_at n) value resource) (value_long value || write_resource.long resource) (append_text (value_text (kind_at n) value) (write_resource.text resource))
    (word_spelled 0 3 n (omega arith) le (omega (arith, le))) (value_at s info (kind_at n) value resource)
    (λ x f k t u.
    let small = code_at_most 0 3 f x t in
    let same : x ≡ n = sym (kind_number x (omega (arith, small))) ∙ ap kind_code (sym (ap kind_of u.behind.behind.1)) ∙ kind_number n (omega (arith, le)) in
    (k, subst (λ (m : ℕ). (behind_info s info m).spells k (replies.ControlOption s (record { 0 = info }) (kind_at n) value resource)) same u))

-- and a kind that has none
without_value : (s : Status) (info : ℕ) (kind : Kind) (value : WireValue) (resource : List ℕ) → ((n : ℕ) → n ≤ 3 → kind_at n ≡ kind → ⊥)
    → At (after (from_to 0 3) (behind_info s info)) (value_long value || write_resource.long resource) None (replies.ControlOption s (record { 0 = info }) kind value resource)
unfolding kind_of
without_value s info kind value resource none =
    nowhere (after (from_to 0 3) (behind_info s info)) (value_long value || write_resource.long resource) (replies.ControlOption s (record { 0 = info }) kind value resource)
    (λ text t. none t.first (code_at_most 0 3 t.front t.first t.in_front) (sym (ap kind_of t.behind.behind.behind.1)))

no_button : (n : ℕ) → n ≤ 3 → kind_at n ≡ kinds.Button → ⊥
no_button zero le e = absurd (cc e)
no_button (suc zero) le e = absurd (cc e)
no_button (suc (suc zero)) le e = absurd (cc e)
no_button (suc (suc (suc zero))) le e = absurd (cc e)
no_button (suc (suc (suc (suc n)))) le e = absurd (omega (arith, le))

no_group : (n : ℕ) → n ≤ 3 → kind_at n ≡ kinds.Group → ⊥
no_group zero le e = absurd (cc e)
no_group (suc zero) le e = absurd (cc e)
no_group (suc (suc zero)) le e = absurd (cc e)
no_group (suc (suc (suc zero))) le e = absurd (cc e)
no_group (suc (suc (suc (suc n)))) le e = absurd (omega (arith, le))

kind_at_value : (s : Status) (info : ℕ) (kind : Kind) (value : WireValue) (resource : List ℕ)
    → At (after (from_to 0 3) (behind_info s info)) (value_long value || write_resource.long resource) (append_text (code_text (kind_code kind)) (append_text (value_text kind value) (write_resource.text resource)))
    (replies.ControlOption s (record { 0 = info }) kind value resource)
kind_at_value s info kinds.Bool value resource = with_value s info 0 value resource (omega arith)
kind_at_value s info kinds.Int value resource = with_value s info 1 value resource (omega arith)
kind_at_value s info kinds.Fixed value resource = with_value s info 2 value resource (omega arith)
kind_at_value s info kinds.String value resource = with_value s info 3 value resource (omega arith)
kind_at_value s info kinds.Button value resource = without_value s info kinds.Button value resource no_button
kind_at_value s info kinds.Group value resource = without_value s info kinds.Group value resource no_group

control_at : (s : Status) (info : Info) (kind : Kind) (value : WireValue) (resource : List ℕ)
    → At (reply procedures.ControlOption) (value_long value || write_resource.long resource) (write_reply.text (replies.ControlOption s info kind value resource)) (replies.ControlOption s info kind value resource)
unfolding reply info_of
control_at s info kind value resource =
    behind_only status (λ x. after word (λ n. after (from_to 0 3) (behind_info x n))) (to_be_bytes w32 (status_code s)) s (replies.ControlOption s info kind value resource) (value_long value || write_resource.long resource)
    (append_text (write_any.text info.0) (append_text (code_text (kind_code kind)) (append_text (value_text kind value) (write_resource.text resource)))) (status_spelled s)
    (first_at word (λ n. after (from_to 0 3) (behind_info s n)) info.0 (replies.ControlOption s info kind value resource) false (value_long value || write_resource.long resource)
    (write_any.text info.0) (append_text (code_text (kind_code kind)) (append_text (value_text kind value) (write_resource.text resource))) (any_at info.0) (kind_at_value s info.0 kind value resource)
    (λ x k t. sym (ap info_of t.behind.behind.behind.1)))
    (λ x k t. let e = t.behind.behind.behind.behind.1 in cc)

pub reply-writes : (r : Reply) → WritesFormat (reply (replied_procedure r)) write_reply r
unfolding reply
reply-writes (replies.Init s version) =
    by_value (reply procedures.Init) write_reply (replies.Init s version)
    (behind_only status (λ x. map_format (λ v. replies.Init x v) word) (to_be_bytes w32 (status_code s)) s (replies.Init s version) false (write_any.text version) (status_spelled s)
    (made_at (λ v. replies.Init s v) word version false (write_any.text version) (any_at version) (λ x e. cc))
    (λ x k t. let e = t.behind.1 in cc))
reply-writes (replies.GetDevices s all) =
    by_value (reply procedures.GetDevices) write_reply (replies.GetDevices s all)
    (behind_only status (λ x. map_format (λ d. replies.GetDevices x d) devices) (to_be_bytes w32 (status_code s)) s (replies.GetDevices s all) (write_devices.long all) (write_devices.text all) (status_spelled s)
    (made_at (λ d. replies.GetDevices s d) devices all (write_devices.long all) (write_devices.text all) (devices_at all) (λ x e. cc))
    (λ x k t. let e = t.behind.1 in cc))
reply-writes replies.Close = by_value (reply procedures.Close) write_reply replies.Close (there (reply procedures.Close) (to_be_bytes w32 0) replies.Close (ignored-writes replies.Close))
reply-writes replies.Cancel = by_value (reply procedures.Cancel) write_reply replies.Cancel (there (reply procedures.Cancel) (to_be_bytes w32 0) replies.Cancel (ignored-writes replies.Cancel))
reply-writes replies.Authorize = by_value (reply procedures.Authorize) write_reply replies.Authorize (there (reply procedures.Authorize) (to_be_bytes w32 0) replies.Authorize (ignored-writes replies.Authorize))
reply-writes replies.Exit = by_value (reply procedures.Exit) write_reply replies.Exit (nowhere (reply procedures.Exit) false replies.Exit (λ text s. s))
reply-writes (replies.Open s device resource) = by_value (reply procedures.Open) write_reply (replies.Open s device resource) (open_at s device resource)
reply-writes (replies.Start s port o resource) = by_value (reply procedures.Start) write_reply (replies.Start s port o resource) (start_at s port o resource)
reply-writes (replies.GetOptionDescriptors all) =
    by_value (reply procedures.GetOptionDescriptors) write_reply (replies.GetOptionDescriptors all)
    (made_at (λ d. replies.GetOptionDescriptors d) descriptors all (write_descriptors.long all) (write_descriptors.text all) (descriptors_at all) (λ x e. cc))
reply-writes (replies.ControlOption s info kind value resource) = by_value (reply procedures.ControlOption) write_reply (replies.ControlOption s info kind value resource) (control_at s info kind value resource)
reply-writes (replies.GetParameters s p) =
    by_value (reply procedures.GetParameters) write_reply (replies.GetParameters s p)
    (behind_only status (λ x. map_format (λ q. replies.GetParameters x q) params) (to_be_bytes w32 (status_code s)) s (replies.GetParameters s p) false (params_text p) (status_spelled s)
    (made_at (λ q. replies.GetParameters s q) params p false (params_text p) (params_at p) (λ x e. cc))
    (λ x k t. let e = t.behind.1 in cc))

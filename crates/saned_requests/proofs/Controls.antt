-- CONTROL_OPTION of what a word stands for, in all that a session holds.
use Rattle.std.proofs.Common.{◌≡◌, ℕ, ◌<◌, ◌≤◌, List, length, Option, None, Result, Ok, Err, refl, ap, ◌∙◌, sym, inl, inr, slice_set, slice_index_or}
use Rattle.std.specs.Option.{option_map}
use Rattle.sane_fixed.specs.declared.kind.Kind.{Kind}
use Rattle.sane_fixed.specs.declared.no_mem.NoMem.{NoMem}
use Rattle.sane_fixed.specs.declared.status.Status.TheVariants.{Inval}
use Rattle.device_api.specs.State.{DeviceState}
use Rattle.dispatch.specs.declared.table.place.Lease.{Lease}
use Rattle.dispatch.specs.Table.{seen_lease}
use Rattle.wire_message.specs.declared.message.ControlAction.{ControlAction}
use Rattle.wire_message.specs.declared.message.WireValue.{WireValue}
use Rattle.wire_message.specs.declared.message.Reply.{Reply}
use Rattle.saned_requests.specs.declared.session.StringSize.{StringSize}
use Rattle.saned_requests.specs.Holding.{seen_held, held_by, on_word}
use Rattle.saned_requests.specs.RequestAnswers.{GivesReply, control_lease, control_held, refused_control}
use Rattle.saned_requests.proofs.LeaseWords.{held_by-seen, held_by-past, on_word-seen, on_word-past, on_word-same}

in_place : (strings : StringSize) (held : List (Option (Lease DeviceState))) (word n : ℕ) (action : ControlAction) (kind : Kind) (value : WireValue) (h new : Option (Lease DeviceState)) (result : Result Reply NoMem) → held_by held word ≡ h
    → GivesReply (control_lease strings h n action kind value) result h new → GivesReply (control_held strings held word n action kind value) result held (on_word (λ _. new) held word)
in_place strings held word n action kind value h new (Ok reply) e t = (
  t.0 ∙ sym (ap (λ (x : Option (Lease DeviceState)). (control_lease strings x n action kind value).0) e),
  ap (λ (x : Option (Lease DeviceState)). on_word (λ _. x) held word) (t.1 ∙ sym (ap (λ (x : Option (Lease DeviceState)). (control_lease strings x n action kind value).1) e)),
)
in_place strings held word n action kind value h new (Err err) e (inl same) =
    inl (ap (λ (x : Option (Lease DeviceState)). on_word (λ _. x) held word) same ∙ on_word-same held word h e)
in_place strings held word n action kind value h new (Err err) e (inr all) =
    inr (ap (λ (x : Option (Lease DeviceState)). on_word (λ _. x) held word) (all ∙ sym (ap (λ (x : Option (Lease DeviceState)). (control_lease strings x n action kind value).1) e)))

pub controls : {D : Type 0} (strings : StringSize) (f : D → DeviceState) (held : List (Option (Lease D))) (word : ℕ) (h new : Option (Lease D)) (n : ℕ) (action : ControlAction) (kind : Kind) (value : WireValue) (result : Result Reply NoMem)
    → word < length held → h ≡ slice_index_or held word h
    → GivesReply (control_lease strings (option_map (seen_lease f) h) n action kind value) result (option_map (seen_lease f) h) (option_map (seen_lease f) new)
    → GivesReply (control_held strings (seen_held f held) word n action kind value) result (seen_held f held) (seen_held f (slice_set held word new))
controls strings f held word h new n action kind value result within e t =
    let seen = in_place strings (seen_held f held) word n action kind value (option_map (seen_lease f) h) (option_map (seen_lease f) new) result (held_by-seen f held word h within e) t in
    rw (on_word-seen f (λ _. option_map (seen_lease f) new) held word h new within e refl) seen

pub controls_nothing : {D : Type 0} (strings : StringSize) (f : D → DeviceState) (held : List (Option (Lease D))) (word n : ℕ) (action : ControlAction) (kind : Kind) (value : WireValue) (reply : Reply)
    → length held ≤ word → reply ≡ refused_control Inval kind value → GivesReply (control_held strings (seen_held f held) word n action kind value) (Ok reply) (seen_held f held) (seen_held f held)
controls_nothing strings f held word n action kind value reply past e =
    let none : held_by (seen_held f held) word ≡ None = held_by-past f held word past in
    (e ∙ sym (ap (λ (x : Option (Lease DeviceState)). (control_lease strings x n action kind value).0) none), sym (on_word-past f _ held word past))

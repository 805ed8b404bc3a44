-- What a call does to a slot it does to the other one.
use Rattle.std.specs.Option.{option_and_then, option_map}
use Rattle.std.proofs.Common.{◌≡◌, ◌∙◌, ℕ, zero, suc, List, [], ◌∷◌, ◌++◌, append_assoc, Option, Some, None, length, take, drop, take-append-drop, refl, sym, ap}
use Rattle.std.proofs.Math.Seq.{drop-append_seam}
use Rattle.device_api.specs.State.{DeviceState}
use Rattle.saned_requests.specs.declared.session.Session.{Session}
use Rattle.saned_requests.specs.RequestAnswers.{RequestContext}
use Rattle.saned_core.specs.declared.session_slot.Fed.{Fed}
use Rattle.saned_core.specs.declared.session_slot.Fed.TheVariants.{Standing, Over, Starved}
use Rattle.saned_core.specs.DaemonStates.{after_reply_bytes, after_taken, kept_if_open, no_more, on_session, replies_in, session_in, slot_if_open, with_session}
use Rattle.saned_core.specs.Feeding.{input_in}
use Rattle.saned_core.specs.Inside.{slot_after_feed, slot_or_none_after_feed}
use Rattle.in_flight.specs.InFlight.{SlotDiffersInFlight, undelivered_after_feed}
use Rattle.in_flight.proofs.Slots.{KeepsNumber, Slot}

-- ---- a slot that stands as long as its session goes on or replies wait

session_kept : (slot : Slot) → session_in (kept_if_open slot) ≡ slot.session
session_kept slot = by slot.session slot.replies refl
  where
    by : (o : Option (Session DeviceState)) (replies : List ℕ) → slot.session ≡ o → session_in (slot_if_open o replies slot) ≡ o
    by (Some s) replies e = e
    by None [] e = refl
    by None (b ∷ bytes) e = e

replies_kept : (slot : Slot) → replies_in (kept_if_open slot) ≡ slot.replies
replies_kept slot = by slot.session slot.replies refl
  where
    by : (o : Option (Session DeviceState)) (replies : List ℕ) → slot.replies ≡ replies → replies_in (slot_if_open o replies slot) ≡ replies
    by (Some s) replies e = e
    by None [] e = refl
    by None (b ∷ bytes) e = e

input_kept : (slot : Slot) (s : Session DeviceState) → session_in (kept_if_open slot) ≡ Some s → input_in (kept_if_open slot) ≡ slot.input.rest
input_kept slot z at = by slot.session slot.replies at
  where
    by : (o : Option (Session DeviceState)) (replies : List ℕ) → session_in (slot_if_open o replies slot) ≡ Some z → input_in (slot_if_open o replies slot) ≡ slot.input.rest
    by (Some s) replies e = refl
    by None [] e = absurd (let wrong : None ≡ Some z = e in cc)
    by None (b ∷ bytes) e = refl

number_kept : (slot new : Slot) → kept_if_open slot ≡ Some new → new.number ≡ slot.number
number_kept slot new e = by slot.session slot.replies e
  where
    same : Some slot ≡ Some new → new.number ≡ slot.number
    same h = let is : slot ≡ new = cc in ap (λ (x : Slot). x.number) (sym is)

    by : (o : Option (Session DeviceState)) (replies : List ℕ) → slot_if_open o replies slot ≡ Some new → new.number ≡ slot.number
    by (Some s) replies h = same h
    by None [] h = absurd (let wrong : None ≡ Some new = h in cc)
    by None (b ∷ bytes) h = same h

kept_alike : (bytes : List ℕ) (s t : Slot) → t.session ≡ s.session → t.input.rest ≡ s.input.rest → t.replies ≡ bytes ++ s.replies → SlotDiffersInFlight bytes (kept_if_open s) (kept_if_open t)
kept_alike bytes s t session input replies = record {
  session = session_kept t ∙ session ∙ sym (session_kept s);
  input = λ z at. input_kept t z (session_kept t ∙ session ∙ sym (session_kept s) ∙ at) ∙ input ∙ sym (input_kept s z at);
  replies = replies_kept t ∙ replies ∙ ap (λ (x : List ℕ). bytes ++ x) (sym (replies_kept s));
}

-- ---- replies that are taken

session_taken : (count : ℕ) (x : Option Slot) → session_in (option_and_then (after_taken count) x) ≡ session_in x
session_taken count None = refl
session_taken count (Some slot) = session_kept (after_reply_bytes count slot)

abbrev no_replies : List ℕ
no_replies = []

drop_none : (count : ℕ) → no_replies ≡ drop count no_replies
drop_none zero = refl
drop_none (suc count) = refl

replies_taken : (count : ℕ) (x : Option Slot) → replies_in (option_and_then (after_taken count) x) ≡ drop count (replies_in x)
replies_taken count None = drop_none count
replies_taken count (Some slot) = replies_kept (after_reply_bytes count slot)

input_taken : (count : ℕ) (x : Option Slot) (s : Session DeviceState) → session_in x ≡ Some s → input_in (option_and_then (after_taken count) x) ≡ input_in x
input_taken count None s at = refl
input_taken count (Some slot) s at = input_kept (after_reply_bytes count slot) s (session_kept (after_reply_bytes count slot) ∙ at)

pub keeps_taken : (count : ℕ) → KeepsNumber (after_taken count)
keeps_taken count slot new e = number_kept (after_reply_bytes count slot) new e

pub taken_here : (flying bytes : List ℕ) (x y : Option Slot) → bytes ≡ take (length bytes) (replies_in x) → SlotDiffersInFlight flying x y → SlotDiffersInFlight (flying ++ bytes) (option_and_then (after_taken (length bytes)) x) y
taken_here flying bytes x y front h =
    let count = length bytes in
    let left = drop count (replies_in x) in
    let whole : replies_in x ≡ bytes ++ left = sym (ap (λ (l : List ℕ). l ++ left) front ∙ take-append-drop count (replies_in x)) in
    record {
      session = h.session ∙ sym (session_taken count x);
      input = λ z at. let was = sym (session_taken count x) ∙ at in h.input z was ∙ sym (input_taken count x z was);
      replies = h.replies ∙ ap (λ (l : List ℕ). flying ++ l) whole ∙ sym (append_assoc flying bytes left) ∙ ap (λ (l : List ℕ). (flying ++ bytes) ++ l) (sym (replies_taken count x));
    }

pub taken_there : (piece rest : List ℕ) (x y : Option Slot) → SlotDiffersInFlight (piece ++ rest) x y → SlotDiffersInFlight rest x (option_and_then (after_taken (length piece)) y)
taken_there piece rest x y h = record {
  session = session_taken (length piece) y ∙ h.session;
  input = λ z at. input_taken (length piece) y z (h.session ∙ at) ∙ h.input z at;
  replies = replies_taken (length piece) y ∙ ap (drop (length piece)) (h.replies ∙ append_assoc piece rest (replies_in x)) ∙ drop-append_seam piece (rest ++ replies_in x);
}

-- ---- a piece that is fed

pub keeps_fed : (fed : Fed) (context : RequestContext) (rest text : List ℕ) → KeepsNumber (slot_or_none_after_feed fed context rest text)
keeps_fed Standing context rest text slot new e = number_kept (slot_after_feed Standing context.session rest text slot) new e
keeps_fed Over context rest text slot new e = number_kept (slot_after_feed Over context.session rest text slot) new e
keeps_fed Starved context rest text slot new e = number_kept (slot_after_feed Starved context.session rest text slot) new e

fed_both : (fed : Fed) (context : RequestContext) (rest text flying : List ℕ) (s t : Slot) → t.replies ≡ flying ++ s.replies
    → SlotDiffersInFlight (undelivered_after_feed fed flying) (slot_or_none_after_feed fed context rest text s) (slot_or_none_after_feed fed context rest text t)
fed_both fed context rest text flying s t replies = by fed
  where
    longer : t.replies ++ text ≡ flying ++ (s.replies ++ text)
    longer = ap (λ (l : List ℕ). l ++ text) replies ∙ append_assoc flying s.replies text

    by : (fed : Fed) → SlotDiffersInFlight (undelivered_after_feed fed flying) (slot_or_none_after_feed fed context rest text s) (slot_or_none_after_feed fed context rest text t)
    by Standing = kept_alike flying (slot_after_feed Standing context.session rest text s) (slot_after_feed Standing context.session rest text t) refl refl longer
    by Over = kept_alike flying (slot_after_feed Over context.session rest text s) (slot_after_feed Over context.session rest text t) refl refl longer
    by Starved = kept_alike [] (slot_after_feed Starved context.session rest text s) (slot_after_feed Starved context.session rest text t) refl refl refl

pub fed_alike : (fed : Fed) (context : RequestContext) (rest text flying : List ℕ) (x y : Option Slot) (z : Session DeviceState) → session_in x ≡ Some z → SlotDiffersInFlight flying x y
    → SlotDiffersInFlight (undelivered_after_feed fed flying) (option_and_then (slot_or_none_after_feed fed context rest text) x) (option_and_then (slot_or_none_after_feed fed context rest text) y)
fed_alike fed context rest text flying None y z at h = absurd (let wrong : None ≡ Some z = at in cc)
fed_alike fed context rest text flying (Some s) None z at h = absurd (let wrong : None ≡ Some z = h.session ∙ at in cc)
fed_alike fed context rest text flying (Some s) (Some t) z at h = fed_both fed context rest text flying s t h.replies

-- ---- a session that is another

some_number : (slot new : Slot) → Some slot ≡ Some new → new.number ≡ slot.number
some_number slot new e = let is : slot ≡ new = cc in ap (λ (x : Slot). x.number) (sym is)

pub keeps_on : (g : Session DeviceState → Session DeviceState) → KeepsNumber (on_session g)
keeps_on g slot new e = some_number (record slot { session = option_map g slot.session }) new e

pub keeps_with : (session : Session DeviceState) → KeepsNumber (with_session session)
keeps_with session slot new e = some_number (record slot { session = Some session }) new e

session_on : (g : Session DeviceState → Session DeviceState) (x : Option Slot) → session_in (option_and_then (on_session g) x) ≡ option_map g (session_in x)
session_on g None = refl
session_on g (Some slot) = refl

replies_on : (g : Session DeviceState → Session DeviceState) (x : Option Slot) → replies_in (option_and_then (on_session g) x) ≡ replies_in x
replies_on g None = refl
replies_on g (Some slot) = refl

input_on : (g : Session DeviceState → Session DeviceState) (x : Option Slot) → input_in (option_and_then (on_session g) x) ≡ input_in x
input_on g None = refl
input_on g (Some slot) = refl

some_before : (g : Session DeviceState → Session DeviceState) (o : Option (Session DeviceState)) (z : Session DeviceState) → option_map g o ≡ Some z → (s : Session DeviceState) × (o ≡ Some s)
some_before g None z e = absurd (let wrong : None ≡ Some z = e in cc)
some_before g (Some s) z e = (s, refl)

pub on_alike : (g : Session DeviceState → Session DeviceState) (flying : List ℕ) (x y : Option Slot) → SlotDiffersInFlight flying x y → SlotDiffersInFlight flying (option_and_then (on_session g) x) (option_and_then (on_session g) y)
on_alike g flying x y h = record {
  session = session_on g y ∙ ap (option_map g) h.session ∙ sym (session_on g x);
  input = λ z at. let was = some_before g (session_in x) z (sym (session_on g x) ∙ at) in input_on g y ∙ h.input was.0 was.1 ∙ sym (input_on g x);
  replies = replies_on g y ∙ h.replies ∙ ap (λ (l : List ℕ). flying ++ l) (sym (replies_on g x));
}

pub with_alike : (session : Session DeviceState) (flying : List ℕ) (x y : Option Slot) (z : Session DeviceState) → session_in x ≡ Some z → SlotDiffersInFlight flying x y
    → SlotDiffersInFlight flying (option_and_then (with_session session) x) (option_and_then (with_session session) y)
with_alike session flying None y z at h = absurd (let wrong : None ≡ Some z = at in cc)
with_alike session flying (Some s) None z at h = absurd (let wrong : None ≡ Some z = h.session ∙ at in cc)
with_alike session flying (Some s) (Some t) z at h = record { session = refl; input = λ w e. h.input z at; replies = h.replies }

-- ---- one that is no more

pub keeps_none : KeepsNumber no_more
keeps_none slot new e = absurd (let wrong : None ≡ Some new = e in cc)

gone : (x : Option Slot) → option_and_then no_more x ≡ None
gone None = refl
gone (Some slot) = refl

none_alike : SlotDiffersInFlight [] None None
none_alike = record { session = refl; input = λ z e. refl; replies = refl }

pub gone_alike : (x y : Option Slot) → SlotDiffersInFlight [] (option_and_then no_more x) (option_and_then no_more y)
gone_alike x y = rw (gone x, gone y) none_alike

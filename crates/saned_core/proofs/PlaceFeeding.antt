-- What a piece does to the session of a place, from what it does to the session.
use Rattle.std.proofs.Common.{◌≡◌, ◌∙◌, ℕ, List, [], ◌++◌, Option, Some, None, refl, ap}
use Rattle.rand_chacha.specs.ChaCha.{ChaCha}
use Rattle.md5_auth.specs.declared.users.Entry.{Entry}
use Rattle.device_api.specs.State.{DeviceState}
use Rattle.dispatch.specs.declared.table.place.Place.{Place}
use Rattle.dispatch.specs.Table.{table}
use Rattle.wire_codec.specs.Decoders.{DecoderState}
use Rattle.saned_requests.specs.Holding.{seen_session}
use Rattle.saned_requests.specs.RequestAnswers.{request_context}
use Rattle.saned_requests.specs.declared.session.Session.{Session}
use Rattle.saned_core.specs.declared.session_slot.Fed.TheVariants.{Standing, Over, Starved}
use Rattle.saned_core.specs.declared.session_slot.SessionSlot.{SessionSlot}
use Rattle.saned_core.specs.DaemonStates.{seen_session_slot}
use Rattle.saned_core.specs.Feeding.{no_input, table_let_go}
use Rattle.saned_core.specs.Inside.{FeedsPlace, FeedsReplies, place_state}

abbrev slot_as : {S : Type 0} → ℕ → DecoderState → List ℕ → Option (Session S) → SessionSlot S
slot_as n input replies session = record { number = n; input = input; replies = replies; session = session }

made_as : {S : Type 0} (n : ℕ) (a b : DecoderState) (x y : List ℕ) (session : Option (Session S)) → a ≡ b → x ≡ y → Some (slot_as n a x session) ≡ Some (slot_as n b y session)
made_as {S = S} n a b x y session e h =
    let make : DecoderState → List ℕ → Option (SessionSlot S) = λ i r. Some (slot_as n i r session) in
    ap (λ (i : DecoderState). make i x) e ∙ ap (make b) h

pub place_stands : {D : Type 0} (f : D → DeviceState) (users : List Entry) (piece : List ℕ) (n : ℕ) (input input_new : DecoderState) (replies replies_new : List ℕ) (s t : Session D) (registry registry_new : List (Place D)) (stream stream_new : ChaCha)
    → input_new.fault ≡ None → FeedsReplies Standing (record { users = users; context = request_context f s registry stream; before = input.rest; piece = piece }) replies (record { context = request_context f t registry_new stream_new; rest = input_new.rest; text = replies_new })
    → FeedsPlace users (place_state f (Some (slot_as n input replies (Some s))) registry stream) piece Standing (place_state f (Some (slot_as n input_new replies_new (Some t))) registry_new stream_new)
place_stands f users piece n input input_new replies replies_new s t registry registry_new stream stream_new clean r =
    let whole : input_new ≡ record { rest = input_new.rest; fault = None } = ap (λ (x : Option _). let i : DecoderState = record { rest = input_new.rest; fault = x } in i) clean in
    record {
      session = seen_session f s;
      stood = refl;
      context = request_context f t registry_new stream_new;
      rest = input_new.rest;
      text = r.text;
      feeds = r.feeds;
      slot = made_as n input_new (record { rest = input_new.rest; fault = None }) replies_new (replies ++ r.text) (Some (seen_session f t)) whole r.after_is;
      registry = refl;
      stream = refl;
    }

pub place_ends : {D : Type 0} (f : D → DeviceState) (users : List Entry) (piece : List ℕ) (n : ℕ) (input : DecoderState) (rest : List ℕ) (replies replies_new : List ℕ) (s t : Session D) (registry mid registry_new : List (Place D)) (stream stream_new : ChaCha) (closed : SessionSlot D)
    → closed ≡ slot_as n no_input replies_new None → table f registry_new ≡ table_let_go (request_context f t mid stream_new)
    → FeedsReplies Over (record { users = users; context = request_context f s registry stream; before = input.rest; piece = piece }) replies (record { context = request_context f t mid stream_new; rest = rest; text = replies_new })
    → FeedsPlace users (place_state f (Some (slot_as n input replies (Some s))) registry stream) piece Over (place_state f (Some closed) registry_new stream_new)
place_ends f users piece n input rest replies replies_new s t registry mid registry_new stream stream_new closed is back r = record {
  session = seen_session f s;
  stood = refl;
  context = request_context f t mid stream_new;
  rest = rest;
  text = r.text;
  feeds = r.feeds;
  slot = ap (λ (x : SessionSlot _). Some (seen_session_slot f x)) is ∙ made_as n no_input no_input replies_new (replies ++ r.text) None refl r.after_is;
  registry = back;
  stream = refl;
}

pub place_fails : {D : Type 0} (f : D → DeviceState) (users : List Entry) (piece : List ℕ) (n : ℕ) (input : DecoderState) (rest : List ℕ) (replies replies_new cleared : List ℕ) (s t : Session D) (registry mid registry_new : List (Place D)) (stream stream_new : ChaCha) (closed : SessionSlot D)
    → closed ≡ slot_as n no_input replies_new None → cleared ≡ [] → table f registry_new ≡ table_let_go (request_context f t mid stream_new)
    → FeedsReplies Starved (record { users = users; context = request_context f s registry stream; before = input.rest; piece = piece }) replies (record { context = request_context f t mid stream_new; rest = rest; text = replies_new })
    → FeedsPlace users (place_state f (Some (slot_as n input replies (Some s))) registry stream) piece Starved (place_state f (Some (slot_as closed.number closed.input cleared closed.session)) registry_new stream_new)
place_fails f users piece n input rest replies replies_new cleared s t registry mid registry_new stream stream_new closed is none back r = record {
  session = seen_session f s;
  stood = refl;
  context = request_context f t mid stream_new;
  rest = rest;
  text = r.text;
  feeds = r.feeds;
  slot = ap (λ (x : SessionSlot _). Some (seen_session_slot f (slot_as x.number x.input cleared x.session))) is ∙ made_as n no_input no_input cleared [] None refl none;
  registry = back;
  stream = refl;
}

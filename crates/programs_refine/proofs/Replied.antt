-- What the acts of the server for a session do in the world: they give replies and records out, and hear requests.
use Rattle.std.specs.Prelude.{◌<◌, ◌≤◌, ◌||◌, ◌&&◌, ◌+◌, IsSome}
use Rattle.std.proofs.Common.{◌≡◌, ◌⊎◌, ◌≢◌, ◌∙◌, inl, inr, ℕ, Bool, true, false, cond, Option, Some, None, List, [], ◌++◌, length, take, append_assoc, append-nil, refl, sym, ap, subst, arith}
use Rattle.client_replies.specs.declared.progress.Link.TheVariants as links
use Rattle.client_replies.specs.declared.progress.Progress.{Progress}
use Rattle.client_replies.specs.declared.progress.Progress.TheVariants as stages
use Rattle.client_replies.specs.ProtocolStates.{is_imaging, is_lost_by, is_receiving, is_running, wanted_port}
use Rattle.net_client.specs.ClientStates.{ClientState}
use Rattle.saned_core.specs.declared.session_slot.Fed.{Fed}
use Rattle.saned_core.specs.declared.session_slot.Fed.TheVariants as feds
use Rattle.saned_core.specs.declared.session_slot.FrameState.TheVariants as frames
use Rattle.saned_core.specs.declared.session_slot.DataStep.{DataStep}
use Rattle.saned_core.specs.declared.session_slot.DataStep.TheVariants.{Idle, Bytes, Last}
use Rattle.saned_core.specs.DaemonStates.{Core, after_connected, after_end_session, frame_in, is_waiting, on_session, on_session_slot, session_of}
use Rattle.saned_core.specs.Feeding.{Feeds}
use Rattle.saned_core.specs.Turns.{Turns}
use Rattle.saned_serve.specs.SessionActions.{is_end_record, written_by}
use Rattle.saned_serve.specs.Journal.{IsFront}
use Rattle.saned_serve.proofs.ActionSteps.{or_false}
use Rattle.event_world.specs.declared.event.JobEvent.TheVariants as events
use Rattle.event_world.specs.declared.endpoint.Endpoint.{Endpoint}
use Rattle.event_world.specs.declared.endpoint.Image.{Image}
use Rattle.event_world.specs.Endpoints.{after_link_loss, after_move, with_data_opened, with_image_link, without_image_link, without_link}
use Rattle.event_world.specs.JobEvents.{Can, Does, FeedsPiece, IsFlowing, SendsStep, TakesTurn, after_fed, bytes_not_delivered, frame_state_at, image_lost, with_data_record, with_image, without_sent}
use Rattle.programs_refine.proofs.Delivered.{if_linked}
use Rattle.programs_refine.proofs.Flowing.{waits_as}
use Rattle.programs_refine.proofs.Lists.{delivers, keeps_rest, left_of, more_behind, moves_on, some_bytes, some_wait}
use Rattle.programs_refine.proofs.Outgoing.{never_both, not_over, receiving_at, runs_by}
use Rattle.programs_refine.proofs.Passed.{Passed, Traffics}
use Rattle.programs_refine.proofs.Tracks.{Follows, HasLeft, ImageTracks, IsLinked, KeepsFiles, files_kept, image_bytes, lost_outcome, done_behind_loss, with_out}
use Rattle.programs_refine.proofs.Tracks.Follows.{Alike, Dialled, Lost, Cut}

-- ---- replies that are taken

pub takes_replies : (own : Passed) (flying : List ℕ) (x : Traffics) (k : ℕ) (c : ClientState) (p : Endpoint) (bytes : List ℕ) → IsLinked own flying x k c p → IsLinked (record own { said = own.said ++ bytes }) (flying ++ bytes) x k c p
takes_replies own flying x k c p bytes l = record {
  id = l.id;
  link = l.link;
  number = l.number;
  is_open = l.is_open;
  pending = l.pending;
  made = l.made;
  follows = l.follows;
  out = l.out;
  said = λ ok. more_behind x.heard own.said flying bytes (l.said ok);
  image = record { way = l.image.way; stands = l.image.stands; last_is = l.image.last_is };
  files = l.files;
}

-- the data connection is handed back
pub hangs_up : (own : Passed) (flying : List ℕ) (x : Traffics) (k : ℕ) (c : ClientState) (p : Endpoint) → IsLinked own flying x k c p → IsLinked (record own { imaging = false }) flying x k c p
hangs_up own flying x k c p l = record {
  id = l.id;
  link = l.link;
  number = l.number;
  is_open = l.is_open;
  pending = l.pending;
  made = l.made;
  follows = l.follows;
  out = l.out;
  said = l.said;
  image = record { way = l.image.way; stands = λ on last told. never_both false on refl; last_is = l.image.last_is };
  files = l.files;
}

-- ---- requests that are fed

follows_heard : (pending dropped : Bool) (c q : ClientState) (out : List ℕ) → Follows pending dropped c q → Follows pending dropped c (with_out out q)
follows_heard pending dropped c q out (Alike off same) = Alike off (ap (with_out out) same)
follows_heard pending dropped c q out (Dialled on wants runs same) = Dialled on wants runs same
follows_heard pending dropped c q out (Lost runs over wants) = Lost runs over wants
follows_heard pending dropped c q out (Cut off told over either) = Cut off told over either

pub record FedThere (w e : Core) (k : ℕ) (own : Passed) (flying : List ℕ) (x : Traffics) (c : ClientState) (p : Endpoint) (n : ℕ) : Type 0 where
  pub q : Endpoint
  pub can : Can w p (events.ToDaemon n)
  pub does : Does w p (events.ToDaemon n) e q
  pub tracks : IsLinked own flying x k c q

-- the endpoint behind it, whatever became of the session
record IsFedAs (fed : Fed) (p q : Endpoint) : Type 0 where
  is : q ≡ after_fed fed p
  client : q.client ≡ p.client
  link : q.link ≡ p.link
  image : q.image ≡ p.image
  keeps : KeepsFiles p q

fed_as : (fed : Fed) (p : Endpoint) → IsFedAs fed p (after_fed fed p)
fed_as feds.Standing p = record { is = refl; client = refl; link = refl; image = refl; keeps = record { file = refl; pages = refl; finished = refl; task = refl; done = λ done. done } }
fed_as feds.Over p = record { is = refl; client = refl; link = refl; image = refl; keeps = record { file = refl; pages = refl; finished = refl; task = refl; done = λ done. done } }
fed_as feds.Starved p = record { is = refl; client = refl; link = refl; image = refl; keeps = record { file = refl; pages = refl; finished = refl; task = refl; done = λ done. done } }

-- the client's bytes are fewer, and else it is the same
fed_linked : (own : Passed) (flying flying_new : List ℕ) (starved : Bool) (x : Traffics) (k : ℕ) (c : ClientState) (p q : Endpoint) (piece up rest out : List ℕ) → (l : IsLinked own flying x k c p) → l.out.up ≡ piece ++ up → out ≡ up ++ l.out.rest → q.client ≡ with_out out p.client → q.link ≡ p.link → q.image ≡ p.image → KeepsFiles p q
    → (starved ≡ false → (flying_new ≡ flying) × (own.starved ≡ false)) → IsLinked (record own { heard = own.heard ++ piece; starved = starved }) flying_new x k c q
fed_linked own flying flying_new starved x k c p q piece up rest out l is there client link image keeps still = record {
  id = l.id;
  link = link ∙ l.link;
  number = l.number;
  is_open = l.is_open;
  pending = l.pending;
  made = l.made;
  follows = subst (λ (z : ClientState). Follows l.pending own.dropped c z) (sym client) (follows_heard l.pending own.dropped c p.client out l.follows);
  out = record {
    up = up;
    rest = l.out.rest;
    sent_is = moves_on own.heard x.sent piece l.out.up up l.out.sent_is is;
    out_is = ap (λ (z : ClientState). z.out) client ∙ there;
    rest_is = l.out.rest_is;
  };
  said = λ ok. (let kept = still ok in l.said kept.1 ∙ ap (λ (z : List ℕ). x.heard ++ z) (sym kept.0));
  image = subst (λ (z : Option Image). ImageTracks l.pending (record own { heard = own.heard ++ piece; starved = starved }) x.taken z) (sym image) (record { way = l.image.way; stands = l.image.stands; last_is = l.image.last_is });
  files = files_kept x.turned x.given p q keeps l.files;
}

pub feeds : (w e : Core) (k : ℕ) (own : Passed) (flying flying_new : List ℕ) (starved : Bool) (x : Traffics) (c : ClientState) (p : Endpoint) (piece : List ℕ) (fed : Fed) → IsLinked own flying x k c p → (starved ≡ false → (flying_new ≡ flying) × (own.starved ≡ false)) → piece ≢ [] → length piece ≤ 4096 → IsFront (own.heard ++ piece) x.sent → Feeds k w piece fed e
    → FedThere w e k (record own { heard = own.heard ++ piece; starved = starved }) flying_new x c p (length piece)
feeds w e k own flying flying_new starved x c p piece fed l still some short front h =
    let n = length piece in
    let f = left_of own.heard x.sent piece l.out.up l.out.sent_is front in
    let waits : p.client.out ≡ piece ++ (f.0 ++ l.out.rest) = l.out.out_is ∙ ap (λ (z : List ℕ). z ++ l.out.rest) f.1 ∙ append_assoc piece f.0 l.out.rest in
    let just = delivers piece (f.0 ++ l.out.rest) p.client.out short waits in
    let kept = keeps_rest piece (f.0 ++ l.out.rest) p.client.out short waits in
    let mid : Endpoint = without_sent n p in
    let q : Endpoint = after_fed fed mid in
    let became = fed_as fed mid in
    record {
      q = q;
      can = (subst IsSome (sym l.link) refl, some_wait piece (f.0 ++ l.out.rest) p.client.out some waits, some_bytes piece some);
      does = if_linked p.link l.id k (λ j. FeedsPiece j n w p e q) l.link l.number (fed, subst (λ (z : List ℕ). Feeds k w z fed e) (sym just) h, refl);
      tracks = fed_linked own flying flying_new starved x k c p q piece f.0 l.out.rest (bytes_not_delivered n p.client.out) l f.1 kept became.client became.link became.image (record { file = became.keeps.file; pages = became.keeps.pages; finished = became.keeps.finished; task = became.keeps.task; done = became.keeps.done }) still;
    }

-- ---- the data connection is accepted

pub record ConnectedThere (w : Core) (k : ℕ) (own : Passed) (flying : List ℕ) (x : Traffics) (c : ClientState) (p : Endpoint) : Type 0 where
  pub q : Endpoint
  pub can : Can w p events.DataConnect
  pub does : Does w p events.DataConnect (record w { slots = on_session_slot (on_session after_connected) k w.slots }) q
  pub tracks : IsLinked own flying x k c q

pub is_pending : (accepted made : ℕ) (b : Bool) → made ≡ accepted + cond b 1 0 → accepted < made → b ≡ true
is_pending accepted made true e less = refl
is_pending accepted made false e less = absurd (let same : made ≡ accepted + 0 = e in omega (arith, same, less))

pub wants_there : (dropped : Bool) (c q : ClientState) (b : Bool) → b ≡ true → Follows b dropped c q → IsSome (wanted_port q.progress)
wants_there dropped c q b on (Alike off same) = never_both b on off
wants_there dropped c q b on (Dialled _ wants runs same) = wants
wants_there dropped c q b on (Lost runs over wants) = wants on
wants_there dropped c q b on (Cut off told over either) = never_both b on off

follows_accepted : (dropped b : Bool) (c q : ClientState) → b ≡ true → Follows b dropped c q → Follows false false c (with_data_opened q)
follows_accepted dropped b c q on (Alike off same) = never_both b on off
follows_accepted dropped b c q on (Dialled _ wants runs same) = Alike refl (ap (with_out q.out) (sym same))
follows_accepted dropped b c q on (Lost runs over wants) = Lost runs over (λ other. never_both false other refl)
follows_accepted dropped b c q on (Cut off told over either) = never_both b on off

pub connects : (w : Core) (k : ℕ) (own : Passed) (flying : List ℕ) (x : Traffics) (c : ClientState) (p : Endpoint) → (l : IsLinked own flying x k c p) → own.accepted < x.made → x.taken ≡ [] → is_waiting (frame_in (session_of w k)) ≡ true
    → ConnectedThere w k (record own { imaging = true; shown = []; last = false; dropped = false; accepted = own.accepted + 1 }) flying x c p
connects w k own flying x c p l less none waits =
    let on = is_pending own.accepted x.made l.pending l.made less in
    let one : x.made ≡ own.accepted + 1 = l.made ∙ ap (λ (b : Bool). own.accepted + cond b 1 0) on in
    let q : Endpoint = with_image_link (after_move p) in
    record {
      q = q;
      can = (wants_there own.dropped c p.client l.pending on l.follows, if_linked p.link l.id k (λ j. frame_state_at w j ≡ frames.Waiting) l.link l.number (waits_as (frame_in (session_of w k)) waits));
      does = if_linked p.link l.id k (λ j. (record w { slots = on_session_slot (on_session after_connected) k w.slots } ≡ record w { slots = on_session_slot (on_session after_connected) j w.slots }) × (q ≡ with_image_link (after_move p))) l.link l.number (refl, refl);
      tracks = record {
        id = l.id;
        link = l.link;
        number = l.number;
        is_open = l.is_open;
        pending = false;
        made = omega (arith, one);
        follows = follows_accepted own.dropped l.pending c p.client on l.follows;
        out = l.out;
        said = l.said;
        image = record { way = λ off told. sym (ap (λ (z : List ℕ). z ++ []) none); stands = λ a b d. refl; last_is = λ z at. (let same : record { bytes = []; is_last = false } ≡ z = cc in sym (ap (λ (y : Image). y.is_last) same)) };
        files = files_kept x.turned x.given p q (record { file = refl; pages = refl; finished = refl; task = refl; done = λ done. done }) l.files;
      };
    }

-- ---- a record

pub record TurnedThere (w e : Core) (k : ℕ) (own : Passed) (flying : List ℕ) (x : Traffics) (c : ClientState) (p : Endpoint) : Type 0 where
  pub q : Endpoint
  pub can : Can w p events.DataTurn
  pub does : Does w p events.DataTurn e q
  pub tracks : IsLinked own flying x k c q

record Shown (step : DataStep) (buf : List ℕ) (image new : Image) (e : Core) (p q : Endpoint) : Type 0 where
  bytes : new.bytes ≡ image.bytes ++ take (written_by step) buf
  last : image.is_last ≡ false → new.is_last ≡ (false || is_end_record step)
  sends : (k : ℕ) → SendsStep k step buf e p e q
  image_is : q.image ≡ Some new
  client : q.client ≡ p.client
  link : q.link ≡ p.link
  keeps : KeepsFiles p q

-- what a step makes of the image and of the endpoint
abbrev image_then : DataStep → List ℕ → Image → Image
image_then Idle buf image = image
image_then (Bytes n) buf image = with_data_record (take n buf) false image
image_then (Last n) buf image = with_data_record (take n buf) true image

shows : (step : DataStep) (buf : List ℕ) (image : Image) (e : Core) (p : Endpoint) → p.image ≡ Some image → Shown step buf image (image_then step buf image) e p (with_image (image_then step buf image) (after_move p))
shows Idle buf image e p at = record {
  bytes = sym (append-nil image.bytes);
  last = λ still. still;
  sends = λ k. (refl, ap (λ (z : Option Image). record (after_move p) { image = z }) (sym at));
  image_is = refl;
  client = refl;
  link = refl;
  keeps = record { file = refl; pages = refl; finished = refl; task = refl; done = λ done. done };
}
shows (Bytes n) buf image e p at = record { bytes = refl; last = λ still. refl; sends = λ k. inl (image, at, refl, refl); image_is = refl; client = refl; link = refl; keeps = record { file = refl; pages = refl; finished = refl; task = refl; done = λ done. done } }
shows (Last n) buf image e p at = record { bytes = refl; last = λ still. refl; sends = λ k. inl (image, at, refl, refl); image_is = refl; client = refl; link = refl; keeps = record { file = refl; pages = refl; finished = refl; task = refl; done = λ done. done } }

image_shown : (own : Passed) (pending : Bool) (taken bytes : List ℕ) (step : DataStep) (image new : Image) (old : Option Image) → own.last ≡ false → ImageTracks pending own taken old → old ≡ Some image → new.bytes ≡ image.bytes ++ bytes → (image.is_last ≡ false → new.is_last ≡ (false || is_end_record step))
    → ImageTracks pending (record own { shown = own.shown ++ bytes; last = own.last || is_end_record step }) taken (Some new)
image_shown own pending taken bytes step image new old open_still m at more last = record {
  way = λ off told. more_behind taken own.shown (image_bytes old) bytes (m.way off told) ∙ ap (λ (z : Option Image). taken ++ (image_bytes z ++ bytes)) at ∙ ap (λ (z : List ℕ). taken ++ z) (sym more);
  stands = λ a b d. refl;
  last_is = λ z there.
      let same : new ≡ z = cc in
      sym (ap (λ (y : Image). y.is_last) same) ∙ last (m.last_is image at ∙ open_still) ∙ ap (λ (b : Bool). b || is_end_record step) (sym open_still);
}

pub turns : (w e : Core) (k : ℕ) (own : Passed) (flying : List ℕ) (x : Traffics) (c : ClientState) (p : Endpoint) (step : DataStep) (buf bytes : List ℕ) → (l : IsLinked own flying x k c p) → IsSome p.image → own.last ≡ false → IsFlowing (frame_state_at w k) → bytes ≡ take (written_by step) buf
    → Turns k w step e buf → TurnedThere w e k (record own { shown = own.shown ++ bytes; last = own.last || is_end_record step }) flying x c p
turns w e k own flying x c p step buf bytes l there open_still flows front t = by p.image refl there
  where
    by : (o : Option Image) → p.image ≡ o → IsSome o → TurnedThere w e k (record own { shown = own.shown ++ bytes; last = own.last || is_end_record step }) flying x c p
    by None at some = absurd (let wrong : false ≡ true = some in cc)
    by (Some image) at some =
        let new = image_then step buf image in
        let q : Endpoint = with_image new (after_move p) in
        let s = shows step buf image e p at in
        let more : new.bytes ≡ image.bytes ++ bytes = s.bytes ∙ ap (λ (z : List ℕ). image.bytes ++ z) (sym front) in
        record {
          q = q;
          can = (subst IsSome (sym at) refl, if_linked p.link l.id k (λ j. IsFlowing (frame_state_at w j)) l.link l.number flows);
          does = if_linked p.link l.id k (λ j. TakesTurn j w p e q) l.link l.number (record { step = step; buf = buf; mid = e; turns = t; sends = s.sends k });
          tracks = record {
            id = l.id;
            link = l.link;
            number = l.number;
            is_open = l.is_open;
            pending = l.pending;
            made = l.made;
            follows = l.follows;
            out = l.out;
            said = l.said;
            image = image_shown own l.pending x.taken bytes step image new p.image open_still l.image at more s.last;
            files = files_kept x.turned x.given p q s.keeps l.files;
          };
        }

-- where nothing flows none is taken
pub turns_idle : (own : Passed) (flying : List ℕ) (x : Traffics) (k : ℕ) (c : ClientState) (p : Endpoint) (step : DataStep) (bytes : List ℕ) → step ≡ Idle → bytes ≡ [] → IsLinked own flying x k c p → IsLinked (record own { shown = own.shown ++ bytes; last = own.last || is_end_record step }) flying x k c p
turns_idle own flying x k c p step bytes idle none l =
    let shown : own.shown ≡ own.shown ++ bytes = sym (append-nil own.shown) ∙ ap (λ (z : List ℕ). own.shown ++ z) (sym none) in
    let last : own.last ≡ (own.last || is_end_record step) = sym (or_false own.last) ∙ ap (λ (z : DataStep). own.last || is_end_record z) (sym idle) in
    subst (λ (z : List ℕ). IsLinked (record own { shown = z; last = own.last || is_end_record step }) flying x k c p) shown (subst (λ (b : Bool). IsLinked (record own { last = b }) flying x k c p) last l)

-- ---- the data connection is lost

pub record LostThere (w : Core) (k : ℕ) (own : Passed) (flying : List ℕ) (x : Traffics) (c : ClientState) (p : Endpoint) : Type 0 where
  pub q : Endpoint
  pub can : Can w p events.LoseImage
  pub does : Does w p events.LoseImage (image_lost k w) q
  pub tracks : IsLinked own flying x k c q

loss_kept : (q : ClientState) (b : Bool) → is_lost_by links.Image q.outcome q.progress ≡ b → b ≡ false → after_link_loss links.Image q ≡ q
loss_kept q true e off = absurd (let wrong : true ≡ false = off in cc)
loss_kept q false e off = rw e refl

loss_told : (q : ClientState) → is_lost_by links.Image q.outcome q.progress ≡ true → (after_link_loss links.Image q).outcome ≡ lost_outcome
loss_told q e = rw e refl

pub loss_out_there : (q : ClientState) (b : Bool) → is_lost_by links.Image q.outcome q.progress ≡ b → (after_link_loss links.Image q).out ≡ q.out
loss_out_there q true e = rw e refl
loss_out_there q false e = rw e refl

-- a client that is to be lost with its data connection, and wants none, receives
lost_receives : (q : ClientState) → is_lost_by links.Image q.outcome q.progress ≡ true → (is_running q.outcome ≡ true → IsSome (wanted_port q.progress) → ⊥) → is_receiving q.outcome q.progress ≡ true
lost_receives q e no_wish = by q.progress e (λ w. no_wish (runs_by links.Image q.outcome q.progress e) w)
  where
    runs : is_running q.outcome ≡ true
    runs = runs_by links.Image q.outcome q.progress e

    never : (is_running q.outcome && false) ≡ true → ⊥
    never x = let y : (true && false) ≡ true = subst (λ (b : Bool). (b && false) ≡ true) runs x in let wrong : false ≡ true = y in cc

    by : (progress : Progress) → (is_running q.outcome && is_imaging progress) ≡ true → (IsSome (wanted_port progress) → ⊥) → is_receiving q.outcome progress ≡ true
    by (stages.Imaging port true) x no_port = x
    by (stages.Imaging port false) x no_port = absurd (no_port refl)
    by stages.Greeting x no_port = absurd (never x)
    by stages.Listing x no_port = absurd (never x)
    by stages.Opening x no_port = absurd (never x)
    by (stages.Allowing resource answer) x no_port = absurd (never x)
    by stages.Reopening x no_port = absurd (never x)
    by stages.Describing x no_port = absurd (never x)
    by (stages.Putting n kind name value) x no_port = absurd (never x)
    by (stages.Getting n kind size) x no_port = absurd (never x)
    by (stages.Starting first) x no_port = absurd (never x)
    by (stages.Shaping port order) x no_port = absurd (never x)
    by stages.Turning x no_port = absurd (never x)
    by stages.Over x no_port = absurd (never x)

follows_cut : (pending dropped b : Bool) (c q : ClientState) → is_lost_by links.Image q.outcome q.progress ≡ b → (is_running q.outcome ≡ true → IsSome (wanted_port q.progress) → ⊥) → Follows pending dropped c q → Follows pending true c (after_link_loss links.Image q)
follows_cut pending dropped true c q e no_wish (Alike off same) =
    Cut off refl (loss_told q e) (inl (sym (ap (λ (z : ClientState). is_receiving z.outcome z.progress) same) ∙ lost_receives q e no_wish))
follows_cut pending dropped true c q e no_wish (Dialled on wants runs same) = absurd (no_wish runs wants)
follows_cut pending dropped true c q e no_wish (Lost runs over wants) = by pending refl
  where
    by : (v : Bool) → pending ≡ v → Follows pending true c (after_link_loss links.Image q)
    by true on = absurd (no_wish runs (wants on))
    by false off = Cut off refl (loss_told q e) (inr over)
follows_cut pending dropped true c q e no_wish (Cut off told over either) = not_over q.outcome over (runs_by links.Image q.outcome q.progress e)
follows_cut pending dropped false c q e no_wish (Alike off same) = subst (λ (z : ClientState). Follows pending true c z) (sym (loss_kept q false e refl)) (Alike off same)
follows_cut pending dropped false c q e no_wish (Dialled on wants runs same) = absurd (no_wish runs wants)
follows_cut pending dropped false c q e no_wish (Lost runs over wants) = subst (λ (z : ClientState). Follows pending true c z) (sym (loss_kept q false e refl)) (Lost runs over wants)
follows_cut pending dropped false c q e no_wish (Cut off told over either) = subst (λ (z : ClientState). Follows pending true c z) (sym (loss_kept q false e refl)) (Cut off refl over either)

pub drops : (w : Core) (k : ℕ) (own : Passed) (flying : List ℕ) (x : Traffics) (c : ClientState) (p : Endpoint) → (l : IsLinked own flying x k c p) → IsSome p.image → (is_running p.client.outcome ≡ true → IsSome (wanted_port p.client.progress) → ⊥) → LostThere w k (record own { dropped = true }) flying x c p
drops w k own flying x c p l image no_wish =
    let q : Endpoint = without_image_link (after_move p) in
    let b = is_lost_by links.Image p.client.outcome p.client.progress in
    let out = loss_out_there p.client b refl in
    record {
      q = q;
      can = (image, subst IsSome (sym l.link) refl);
      does = if_linked p.link l.id k (λ j. (image_lost k w ≡ image_lost j w) × (q ≡ without_image_link (after_move p))) l.link l.number (refl, refl);
      tracks = record {
        id = l.id;
        link = l.link;
        number = l.number;
        is_open = l.is_open;
        pending = l.pending;
        made = l.made;
        follows = follows_cut l.pending own.dropped b c p.client refl no_wish l.follows;
        out = record { up = l.out.up; rest = l.out.rest; sent_is = l.out.sent_is; out_is = out ∙ l.out.out_is; rest_is = l.out.rest_is };
        said = l.said;
        image = record { way = λ off told. never_both true refl told; stands = λ a d told. never_both true refl told; last_is = λ z at. absurd (let wrong : None ≡ Some z = at in cc) };
        files = files_kept x.turned x.given p q (record { file = refl; pages = refl; finished = refl; task = refl; done = done_behind_loss links.Image p.client }) l.files;
      };
    }

-- where nothing flows the daemon only knows
follows_told : (pending dropped : Bool) (c q : ClientState) → Follows pending dropped c q → Follows pending true c q
follows_told pending dropped c q (Alike off same) = Alike off same
follows_told pending dropped c q (Dialled on wants runs same) = Dialled on wants runs same
follows_told pending dropped c q (Lost runs over wants) = Lost runs over wants
follows_told pending dropped c q (Cut off told over either) = Cut off refl over either

pub drops_idle : (own : Passed) (flying : List ℕ) (x : Traffics) (k : ℕ) (c : ClientState) (p : Endpoint) → IsLinked own flying x k c p → IsLinked (record own { dropped = true }) flying x k c p
drops_idle own flying x k c p l = record {
  id = l.id;
  link = l.link;
  number = l.number;
  is_open = l.is_open;
  pending = l.pending;
  made = l.made;
  follows = follows_told l.pending own.dropped c p.client l.follows;
  out = l.out;
  said = l.said;
  image = record { way = λ off told. never_both true refl told; stands = λ a d told. never_both true refl told; last_is = l.image.last_is };
  files = l.files;
}

-- ---- the session is left

pub record LeftThere (w : Core) (k : ℕ) (x : Traffics) (c : ClientState) (p : Endpoint) : Type 0 where
  pub q : Endpoint
  pub can : Can w p events.LoseControl
  pub does : Does w p events.LoseControl (after_end_session w k) q
  pub left : HasLeft x c q

pub ends_as : (pending dropped b : Bool) (c q : ClientState) → is_running q.outcome ≡ b → Follows pending dropped c q → is_running c.outcome ≡ false → (after_link_loss links.Control q).outcome ≡ c.outcome
ends_as pending dropped true c q e (Alike off same) over = never_both (is_running q.outcome) e (ap (λ (z : ClientState). is_running z.outcome) same ∙ over)
ends_as pending dropped true c q e (Dialled on wants runs same) over = never_both (is_running q.outcome) e (sym (ap (λ (z : ClientState). is_running z.outcome) same) ∙ over)
ends_as pending dropped true c q e (Lost runs lost wants) over = rw e (sym lost)
ends_as pending dropped true c q e (Cut off told gone either) over = not_over q.outcome gone e
ends_as pending dropped false c q e (Alike off same) over = rw e (ap (λ (z : ClientState). z.outcome) same)
ends_as pending dropped false c q e (Dialled on wants runs same) over = never_both (is_running q.outcome) runs e
ends_as pending dropped false c q e (Lost runs lost wants) over = never_both (is_running q.outcome) runs e
ends_as pending dropped false c q e (Cut off told gone (inl receives)) over = never_both (is_running c.outcome) (receiving_at c.outcome c.progress receives).runs over
ends_as pending dropped false c q e (Cut off told gone (inr lost)) over = rw e (gone ∙ sym lost)

-- a job that runs is lost in the world
lost_by_loss : (b : Bool) (q : ClientState) → is_running q.outcome ≡ b → (b ≡ true) ⊎ (q.outcome ≡ lost_outcome) → (after_link_loss links.Control q).outcome ≡ lost_outcome
lost_by_loss true q e either = rw e refl
lost_by_loss false q e (inl runs) = absurd (let clash : false ≡ true = runs in cc)
lost_by_loss false q e (inr lost) = rw e lost

pub stops_as : (pending dropped : Bool) (c q : ClientState) → Follows pending dropped c q → is_running c.outcome ≡ true → (after_link_loss links.Control q).outcome ≡ lost_outcome
stops_as pending dropped c q (Alike off same) runs = lost_by_loss (is_running q.outcome) q refl (inl (ap (λ (z : ClientState). is_running z.outcome) same ∙ runs))
stops_as pending dropped c q (Dialled on wants running same) runs = lost_by_loss (is_running q.outcome) q refl (inl running)
stops_as pending dropped c q (Lost running lost wants) runs = lost_by_loss (is_running q.outcome) q refl (inl running)
stops_as pending dropped c q (Cut off told gone either) runs = lost_by_loss (is_running q.outcome) q refl (inr gone)

pub leaves : (w : Core) (k : ℕ) (own : Passed) (flying : List ℕ) (x : Traffics) (c : ClientState) (p : Endpoint) → IsLinked own flying x k c p → LeftThere w k x c p
leaves w k own flying x c p l =
    let q : Endpoint = without_link (after_move p) in
    record {
      q = q;
      can = subst IsSome (sym l.link) refl;
      does = if_linked p.link l.id k (λ j. (after_end_session w k ≡ after_end_session w j) × (q ≡ without_link (after_move p))) l.link l.number (refl, refl);
      left = record { ended = λ over. ends_as l.pending own.dropped (is_running p.client.outcome) c p.client refl l.follows over; stopped = stops_as l.pending own.dropped c p.client l.follows; files = files_kept x.turned x.given p q (record { file = refl; pages = refl; finished = refl; task = refl; done = done_behind_loss links.Control p.client }) l.files; link = refl };
    }

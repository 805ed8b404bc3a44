-- A piece that a loop hears or takes is delivered to its client in the world, and does there what it did.
use Rattle.std.specs.Prelude.{◌<◌, ◌&&◌, ◌==◌, if◌then◌else◌, IsSome}
use Rattle.std.specs.Option.{option_and_then}
use Rattle.std.proofs.Common.{◌≡◌, ◌≢◌, ◌∙◌, ◌⊎◌, inl, inr, ℕ, suc, ◌+◌, Bool, true, false, cond, Option, Some, None, List, [], ◌∷◌, ◌++◌, length, append_assoc, refl, sym, ap, subst, arith}
use Rattle.std.proofs.lemmas.Bool.Decides.{nat_tests}
use Rattle.client_replies.specs.ProtocolStates.{is_batch, is_receiving, is_running, scans}
use Rattle.net_client.specs.ClientStates.{ClientRepresents, ClientState}
use Rattle.net_client.specs.ReplyPieces.{Heeds}
use Rattle.net_client.specs.FramePieces.{Receives}
use Rattle.net_jobs.specs.JobJournal.{given_by}
use Rattle.net_jobs.specs.JobSteps.{HearsAndGives, JobStep, TakesAndGives}
use Rattle.saned_core.specs.declared.session_slot.SessionId.{SessionId}
use Rattle.saned_core.specs.DaemonLimits.{HaveOwnNumbers}
use Rattle.saned_core.specs.DaemonStates.{Core, after_taken, on_session_slot, replies_of, session_slot_of}
use Rattle.saned_core.proofs.Apart.{apart}
use Rattle.saned_serve.specs.Journal.{IsFront}
use Rattle.in_flight.specs.InFlight.{DiffersInFlight, undelivered_with}
use Rattle.in_flight.specs.Requests.{with_unheard}
use Rattle.in_flight.proofs.Alike.{keeps_taken}
use Rattle.in_flight.proofs.Calls.{deliveries_unseen}
use Rattle.in_flight.proofs.Requests.{histories_alike, records_alike, replies_alike}
use Rattle.in_flight.proofs.Slots.{Change, KeepsNumber, Slot, decide, own_slot}
use Rattle.event_world.specs.declared.event.JobEvent.TheVariants as events
use Rattle.event_world.specs.declared.endpoint.Endpoint.{Endpoint}
use Rattle.event_world.specs.declared.endpoint.Image.{Image}
use Rattle.event_world.specs.Endpoints.{after_move}
use Rattle.event_world.specs.FileInvariant.{FilesRepresent}
use Rattle.event_world.specs.JobEvents.{Can, Does, HasImage, HeedsPiece, IfLinked, TakesDataPiece, bytes_not_delivered, delivered_bytes, is_done, still_open, with_image, with_last_page, without_ended_image, without_taken}
use Rattle.programs_refine.proofs.Giving.{Holds, drains_to, filed, filed_as, files_filed, holds_some, last_as, last_files, low_by, never_turned, running_files}
use Rattle.programs_refine.proofs.Lists.{delivers, keeps_rest, left_of, moves_on, some_bytes, some_wait}
use Rattle.programs_refine.proofs.Outgoing.{dialled_receives, never_both, not_over, receiving_at}
use Rattle.programs_refine.proofs.Passed.{Passed, Traffics, with_given}
use Rattle.programs_refine.proofs.Tracks.{Follows, ImageTracks, IsLinked, OutTracks, files_kept, image_bytes, with_out}
use Rattle.programs_refine.proofs.Tracks.FilesTrack.{UnderWay}
use Rattle.programs_refine.proofs.Tracks.Follows.{Alike, Dialled, Lost, Cut}

-- ---- a linked endpoint

pub if_linked : (link : Option SessionId) (id : SessionId) (k : ℕ) (Is : ℕ → Type 0) → link ≡ Some id → id.number ≡ k → Is k → IfLinked link Is
if_linked link id k Is e n x = subst (λ (l : Option SessionId). IfLinked l Is) (sym e) (subst Is (sym n) x)

-- a client that is alike, with the bytes on their way
pub alike_as : (c q : ClientState) (failed : Bool) (sent heard : List ℕ) → failed ≡ false → (o : OutTracks failed sent heard q.out c.out) → q ≡ with_out q.out c → q ≡ with_unheard o.up c
alike_as c q failed sent heard ok o e = e ∙ ap (λ (x : List ℕ). with_out x c) (o.out_is ∙ ap (λ (x : List ℕ). o.up ++ x) (o.rest_is ok))

-- behind a piece it stands so again
out_again : (failed : Bool) (sent heard there here : List ℕ) (c : ClientState) → (o : OutTracks failed sent heard there here) → OutTracks failed sent heard (with_unheard o.up c).out c.out
out_again failed sent heard there here c o = record { up = o.up; rest = c.out; sent_is = o.sent_is; out_is = refl; rest_is = λ _. refl }

-- a session whose slot changes had one
pub slot_was : (f : Change) (k opened n : ℕ) (slots : List (Option Slot)) → KeepsNumber f → HaveOwnNumbers opened slots → session_slot_of (on_session_slot f k slots) n ≢ None → session_slot_of slots n ≢ None
slot_was f k opened n slots keeps own some none = by (decide n k)
  where
    by : (n ≡ k) ⊎ (n ≢ k) → ⊥
    by (inl on) =
        let at : session_slot_of slots k ≡ None = ap (session_slot_of slots) (sym on) ∙ none in
        some (ap (session_slot_of (on_session_slot f k slots)) on ∙ own_slot f k opened slots keeps own ∙ ap (option_and_then f) at)
    by (inr off) = some (apart slots f k n keeps (λ same. off (sym same)) ∙ none)

-- ---- a reply's bytes

-- what hearing a piece does in the world
pub record HearsThere (w : Core) (flying : ℕ → List ℕ) (d : Core) (k : ℕ) (own : Passed) (x y : Traffics) (c : ClientState) (p : Endpoint) (n : ℕ) : Type 0 where
  pub q : Endpoint
  pub e : Core
  pub can : Can w p (events.ToClient n)
  pub does : Does w p (events.ToClient n) e q
  pub left : List ℕ
  pub differs : DiffersInFlight (undelivered_with k left flying) d e
  pub is_slot : (m : ℕ) → session_slot_of e.slots m ≢ None → session_slot_of w.slots m ≢ None
  pub tracks : IsLinked own left y k c q

heard_so : (piece up : List ℕ) (p : Endpoint) (old c : ClientState) (step : JobStep) → p.client ≡ with_unheard up old → p.task ≡ old.target.task → (h : HearsAndGives old piece step c) → HeedsPiece piece (after_move p) (filed step.turned (after_move p) (with_unheard up c) (given_by step.gives))
heard_so piece up p old c step there task h =
    let runs : is_running p.client.outcome ≡ true = ap (λ (z : ClientState). is_running z.outcome) there ∙ h.hears.running in
    record {
      over = λ e. never_both (is_running p.client.outcome) runs e;
      mid = with_unheard up h.heard;
      heeds = λ _ past serves. subst (λ (z : ClientState). Heeds z past piece (with_unheard up h.heard)) (sym there)
          (replies_alike up old past piece h.heard (h.hears.heeds past ((histories_alike up past old).1 (subst (ClientRepresents past) there serves))));
      drains = λ _. drains_to (scans old.target.task) step.turned (after_move p) up h.heard c step.gives (ap scans task) h.gives_out;
    }

replies_wait : (flying : ℕ → List ℕ) (d w : Core) (k : ℕ) (piece rest : List ℕ) → DiffersInFlight flying d w → flying k ≡ piece ++ rest → replies_of w k ≡ piece ++ (rest ++ replies_of d k)
replies_wait flying d w k piece rest differs e = (differs.sessions k).replies ∙ ap (λ (x : List ℕ). x ++ replies_of d k) e ∙ append_assoc piece rest (replies_of d k)

-- of a client that is alike and hears
hears_alike : (w : Core) (flying : ℕ → List ℕ) (d : Core) (k : ℕ) (own : Passed) (x : Traffics) (old c : ClientState) (p : Endpoint) (piece rest : List ℕ) (step : JobStep) → DiffersInFlight flying d w → Holds p → (l : IsLinked own (flying k) x k old p) → l.pending ≡ false → x.failed ≡ false
    → p.client ≡ with_unheard l.out.up old → p.task ≡ old.target.task → flying k ≡ piece ++ rest → HearsAndGives old piece step c → HearsThere w flying d k own x (with_given step (record x { heard = x.heard ++ piece })) c p (length piece)
hears_alike w flying d k own x old c p piece rest step differs holds l off ok there task flies h =
    let n = length piece in
    let up = l.out.up in
    let mid : Endpoint = after_move p in
    let q : Endpoint = filed step.turned mid (with_unheard up c) (given_by step.gives) in
    let went = filed_as step.turned mid (with_unheard up c) (given_by step.gives) in
    let runs : is_running p.client.outcome ≡ true = ap (λ (z : ClientState). is_running z.outcome) there ∙ h.hears.running in
    let room : step.turned ≡ true → p.finished < 16 = λ on. holds.room (ap is_batch task ∙ h.batch on) in
    let had = running_files x.turned x.given p mid (record { file = refl; pages = refl; finished = refl; task = refl; done = λ done. done }) runs l.files in
    let e : Core = record w { slots = on_session_slot (after_taken n) k w.slots } in
    let wait = replies_wait flying d w k piece rest differs flies in
    let just = delivers piece (rest ++ replies_of d k) (replies_of w k) h.is_piece.1 wait in
    let taken : e ≡ without_taken k n w = ap (λ (z : List ℕ). record w { slots = on_session_slot (after_taken (length z)) k w.slots }) (sym just) in
    let both = deliveries_unseen flying d w k piece rest differs flies in
    record {
      q = q;
      e = e;
      can = (if_linked p.link l.id k (λ j. replies_of w j ≢ []) l.link l.number (some_wait piece (rest ++ replies_of d k) (replies_of w k) h.is_piece.0 wait), some_bytes piece h.is_piece.0);
      does = if_linked p.link l.id k (λ j. (e ≡ without_taken j n w) × HeedsPiece (delivered_bytes n (replies_of w j)) (after_move p) q) l.link l.number
          (taken, subst (λ (z : List ℕ). HeedsPiece z (after_move p) q) (sym just) (heard_so piece up p old c step there task h));
      left = rest;
      differs = both.1;
      is_slot = λ m some. slot_was (after_taken n) k w.opened m w.slots (keeps_taken n) differs.limits_there.1 some;
      tracks = record {
        id = l.id;
        link = went.link ∙ l.link;
        number = l.number;
        is_open = l.is_open;
        pending = false;
        made = l.made ∙ ap (λ (b : Bool). own.accepted + cond b 1 0) off;
        follows = Alike refl (went.client ∙ ap (λ (v : ClientState). with_out v.out c) (sym went.client));
        out = subst (λ (v : ClientState). OutTracks x.failed x.sent own.heard v.out c.out) (sym went.client) (out_again x.failed x.sent own.heard p.client.out old.out c l.out);
        said = λ ok_now. moves_on x.heard own.said piece (flying k) rest (l.said ok_now) flies;
        image = subst (λ (z : Option Image). ImageTracks false own x.taken z) (sym went.image) (subst (λ (b : Bool). ImageTracks b own x.taken p.image) off l.image);
        files = UnderWay (files_filed step.turned x.turned x.given (given_by step.gives) mid (with_unheard up c) room had);
      };
    }

pub hears : (w : Core) (flying : ℕ → List ℕ) (d : Core) (k : ℕ) (own : Passed) (x : Traffics) (old c : ClientState) (p : Endpoint) (piece : List ℕ) (step : JobStep) → DiffersInFlight flying d w → FilesRepresent p → IsLinked own (flying k) x k old p → x.failed ≡ false → own.starved ≡ false → IsFront (x.heard ++ piece) own.said
    → HearsAndGives old piece step c → HearsThere w flying d k own x (with_given step (record x { heard = x.heard ++ piece })) c p (length piece)
hears w flying d k own x old c p piece step differs files l ok memory front h =
    let f = left_of x.heard own.said piece (flying k) (l.said memory) front in
    by l.follows f.0 f.1
  where
    by : Follows l.pending own.dropped old p.client → (rest : List ℕ) → flying k ≡ piece ++ rest → HearsThere w flying d k own x (with_given step (record x { heard = x.heard ++ piece })) c p (length piece)
    by (Alike off same) rest flies =
        let holds = holds_some p files (ap (λ (z : ClientState). is_running z.outcome) same ∙ h.hears.running) in
        hears_alike w flying d k own x old c p piece rest step differs holds l off ok (alike_as old p.client x.failed x.sent own.heard ok l.out same) (holds.holds.task ∙ ap (λ (z : ClientState). z.target.task) same) flies h
    by (Dialled on wants runs same) rest flies =
        never_both (is_receiving old.outcome old.progress) (ap (λ (z : ClientState). is_receiving z.outcome z.progress) same ∙ dialled_receives p.client runs wants) h.hears.quiet
    by (Lost runs over wants) rest flies = not_over old.outcome over h.hears.running
    by (Cut off told over (inl receives)) rest flies = never_both (is_receiving old.outcome old.progress) receives h.hears.quiet
    by (Cut off told over (inr lost)) rest flies = not_over old.outcome lost h.hears.running

-- ---- a frame's bytes

pub record TakesThere (w : Core) (flying : List ℕ) (k : ℕ) (own : Passed) (y : Traffics) (c : ClientState) (p : Endpoint) (n : ℕ) : Type 0 where
  pub q : Endpoint
  pub can : Can w p (events.DataToClient n)
  pub does : Does w p (events.DataToClient n) w q
  pub tracks : IsLinked own flying y k c q

-- the connection stands until its last byte is taken
abbrev open_if : Bool → Image → Option Image
open_if gone image = if gone then None else Some image

no_bytes_left : (bytes : List ℕ) → (length bytes == 0) ≡ true → [] ≡ bytes
no_bytes_left [] e = refl
no_bytes_left (b ∷ bytes) e = let n : length (b ∷ bytes) ≡ 0 = grind (arith, nat_tests) in absurd (let wrong : suc (length bytes) ≡ 0 = n in cc)

open_bytes : (image : Image) (a b : Bool) → (length image.bytes == 0) ≡ b → image.bytes ≡ image_bytes (open_if (a && b) image)
open_bytes image true true e = sym (no_bytes_left image.bytes e)
open_bytes image true false e = refl
open_bytes image false b e = refl

open_some : (image : Image) (a b : Bool) → a ≡ false → IsSome (open_if (a && b) image)
open_some image true b e = absurd (let wrong : true ≡ false = e in cc)
open_some image false b e = refl

open_last : (image x : Image) (v : Bool) → open_if v image ≡ Some x → x.is_last ≡ image.is_last
open_last image x true e = absurd (let wrong : None ≡ Some x = e in cc)
open_last image x false e = let same : image ≡ x = cc in ap (λ (z : Image). z.is_last) (sym same)

-- what is on the way of the records, once a piece of it is taken
image_taken : (own : Passed) (taken piece rest : List ℕ) (image : Option Image) (x : Image) → ImageTracks false own taken image → image ≡ Some x → x.bytes ≡ piece ++ rest → own.dropped ≡ false
    → ImageTracks false own (taken ++ piece) (still_open (Some (record x { bytes = rest })))
image_taken own taken piece rest image x m at e standing =
    let left : Image = record x { bytes = rest } in
    let empty = length rest == 0 in
    let last : x.is_last ≡ own.last = m.last_is x at in
    record {
      way = λ off told. moves_on taken own.shown piece (image_bytes image) rest (m.way off told) (ap image_bytes at ∙ e) ∙ ap (λ (z : List ℕ). (taken ++ piece) ++ z) (open_bytes left x.is_last empty refl);
      stands = λ on not_last_yet told. open_some left x.is_last empty (last ∙ not_last_yet);
      last_is = λ z there. open_last left z (x.is_last && empty) there ∙ last;
    }

-- the image has the piece in front
record HasPiece (piece rest : List ℕ) (image : Option Image) : Type 0 where
  x : Image
  at : image ≡ Some x
  bytes : x.bytes ≡ piece ++ rest

has_piece : (piece rest : List ℕ) (image : Option Image) → piece ≢ [] → image_bytes image ≡ piece ++ rest → HasPiece piece rest image
has_piece [] rest None some e = absurd (some refl)
has_piece (b ∷ piece) rest None some e = absurd (let wrong : [] ≡ b ∷ (piece ++ rest) = e in cc)
has_piece piece rest (Some x) some e = record { x = x; at = refl; bytes = e }

taken_so : (piece up : List ℕ) (old_p : Endpoint) (old c : ClientState) (step : JobStep) → old_p.client ≡ with_unheard up old → old_p.task ≡ old.target.task → (h : TakesAndGives old piece step c)
    → TakesDataPiece piece old_p (with_last_page (filed step.turned old_p (with_unheard up c) (given_by step.gives)))
taken_so piece up old_p old c step there task h =
    let receives : is_receiving old_p.client.outcome old_p.client.progress ≡ true = ap (λ (z : ClientState). is_receiving z.outcome z.progress) there ∙ h.takes.receiving in
    let runs = (receiving_at old_p.client.outcome old_p.client.progress receives).runs in
    record {
      over = λ e. never_both (is_running old_p.client.outcome) runs e;
      mid = with_unheard up h.taken;
      idle = λ e. never_both (is_receiving old_p.client.outcome old_p.client.progress) receives e;
      receives = λ _ past serves. subst (λ (z : ClientState). Receives z past piece (with_unheard up h.taken)) (sym there)
          (records_alike up old past piece h.taken (h.takes.receives past ((histories_alike up past old).1 (subst (ClientRepresents past) there serves))));
      after = filed step.turned old_p (with_unheard up c) (given_by step.gives);
      drains = λ _. drains_to (scans old.target.task) step.turned old_p up h.taken c step.gives (ap scans task) h.gives_out;
      finishes = λ _. refl;
    }

takes_alike : (w : Core) (flying : List ℕ) (k : ℕ) (own : Passed) (x : Traffics) (old c : ClientState) (p : Endpoint) (piece rest : List ℕ) (step : JobStep) → Holds p → (l : IsLinked own flying x k old p) → l.pending ≡ false → x.failed ≡ false → own.dropped ≡ false
    → p.client ≡ with_unheard l.out.up old → p.task ≡ old.target.task → HasPiece piece rest p.image → TakesAndGives old piece step c → TakesThere w flying k own (with_given step (record x { taken = x.taken ++ piece })) c p (length piece)
takes_alike w flying k own x old c p piece rest step holds l off ok standing there task has h =
    let n = length piece in
    let up = l.out.up in
    let image = has.x in
    let left : Image = record image { bytes = bytes_not_delivered n image.bytes } in
    let mid : Endpoint = with_image left (after_move p) in
    let r : Endpoint = with_last_page (filed step.turned mid (with_unheard up c) (given_by step.gives)) in
    let filed_there : Endpoint = filed step.turned mid (with_unheard up c) (given_by step.gives) in
    let first = filed_as step.turned mid (with_unheard up c) (given_by step.gives) in
    let went = last_as (with_unheard up c) mid filed_there first in
    let runs : is_running p.client.outcome ≡ true = ap (λ (z : ClientState). is_running z.outcome) there ∙ (receiving_at old.outcome old.progress h.takes.receiving).runs in
    let room : step.turned ≡ true → p.finished < 16 = λ on. holds.room (ap is_batch task ∙ h.batch on) in
    let had = running_files x.turned x.given p mid (record { file = refl; pages = refl; finished = refl; task = refl; done = λ done. done }) runs l.files in
    let low : is_done filed_there.client.outcome ≡ true → is_batch filed_there.task ≡ true → filed_there.finished < 16 = λ done batch.
    low_by step.turned mid (with_unheard up c) (given_by step.gives) (never_turned (scans old.target.task) step.turned h.taken step.gives c h.gives_out (sym (ap (λ (z : ClientState). is_done z.outcome) first.client) ∙ done)) (holds.room (sym (ap is_batch first.task) ∙ batch)) in
    let q : Endpoint = without_ended_image r in
    let just = delivers piece rest image.bytes h.is_piece.1 has.bytes in
    let kept : bytes_not_delivered n image.bytes ≡ rest = keeps_rest piece rest image.bytes h.is_piece.1 has.bytes in
    let still : q.image ≡ still_open (Some (record image { bytes = rest })) = ap still_open went.image ∙ ap (λ (z : List ℕ). still_open (Some (record image { bytes = z }))) kept in
    record {
      q = q;
      can = (subst (λ (z : Option Image). HasImage z (λ bytes. bytes ≢ [])) (sym has.at) (some_wait piece rest image.bytes h.is_piece.0 has.bytes), some_bytes piece h.is_piece.0);
      does = (refl, (image, has.at, (r, subst (λ (z : List ℕ). TakesDataPiece z mid r) (sym just) (taken_so piece up mid old c step there task h), refl)));
      tracks = record {
        id = l.id;
        link = went.link ∙ l.link;
        number = l.number;
        is_open = l.is_open;
        pending = false;
        made = l.made ∙ ap (λ (b : Bool). own.accepted + cond b 1 0) off;
        follows = Alike refl (went.client ∙ ap (λ (v : ClientState). with_out v.out c) (sym went.client));
        out = subst (λ (v : ClientState). OutTracks x.failed x.sent own.heard v.out c.out) (sym went.client) (out_again x.failed x.sent own.heard p.client.out old.out c l.out);
        said = l.said;
        image = subst (λ (z : Option Image). ImageTracks false own (x.taken ++ piece) z) (sym still)
            (image_taken own x.taken piece rest p.image image (subst (λ (b : Bool). ImageTracks b own x.taken p.image) off l.image) has.at has.bytes standing);
        files = files_kept (with_given step (record x { taken = x.taken ++ piece })).turned (with_given step (record x { taken = x.taken ++ piece })).given r q (record { file = refl; pages = refl; finished = refl; task = refl; done = λ done. done })
            (last_files (with_given step (record x { taken = x.taken ++ piece })).turned (with_given step (record x { taken = x.taken ++ piece })).given filed_there low (files_filed step.turned x.turned x.given (given_by step.gives) mid (with_unheard up c) room had));
      };
    }

none_pending : (accepted made : ℕ) (b : Bool) → made ≡ accepted + cond b 1 0 → accepted ≡ made → b ≡ false
none_pending accepted made true e same = absurd (let one : made ≡ accepted + 1 = e in omega (arith, one, same))
none_pending accepted made false e same = refl

pub takes : (w : Core) (flying : List ℕ) (k : ℕ) (own : Passed) (x : Traffics) (old c : ClientState) (p : Endpoint) (piece : List ℕ) (step : JobStep) → FilesRepresent p → IsLinked own flying x k old p → x.failed ≡ false → own.dropped ≡ false → own.accepted ≡ x.made → IsFront (x.taken ++ piece) own.shown
    → TakesAndGives old piece step c → TakesThere w flying k own (with_given step (record x { taken = x.taken ++ piece })) c p (length piece)
takes w flying k own x old c p piece step files l ok standing same_count front h = by l.follows
  where
    off : l.pending ≡ false
    off = none_pending own.accepted x.made l.pending l.made same_count

    f : IsFront piece (image_bytes p.image)
    f = left_of x.taken own.shown piece (image_bytes p.image) (l.image.way off standing) front

    by : Follows l.pending own.dropped old p.client → TakesThere w flying k own (with_given step (record x { taken = x.taken ++ piece })) c p (length piece)
    by (Alike none same) =
        let holds = holds_some p files (ap (λ (z : ClientState). is_running z.outcome) same ∙ (receiving_at old.outcome old.progress h.takes.receiving).runs) in
        takes_alike w flying k own x old c p piece f.0 step holds l off ok standing (alike_as old p.client x.failed x.sent own.heard ok l.out same) (holds.holds.task ∙ ap (λ (z : ClientState). z.target.task) same)
        (has_piece piece f.0 p.image h.is_piece.0 f.1) h
    by (Dialled on wants runs same) = never_both l.pending on off
    by (Lost runs over wants) = not_over old.outcome over (receiving_at old.outcome old.progress h.takes.receiving).runs
    by (Cut none told over either) = never_both own.dropped told standing

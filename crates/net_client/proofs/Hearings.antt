-- A reply, and replies one after another.
use Rattle.std.proofs.Common.{◌≡◌, ◌∙◌, ℕ, Option, Some, None, Bool, true, false, List, [], ◌∷◌, ◌++◌, refl, sym, ap, subst, append_assoc, inl, inr}
use Rattle.std.specs.Prelude.{Ok, Err, if◌then◌else◌, not}
use Rattle.std.proofs.lemmas.List.{append-nil}
use Rattle.sane_fixed.specs.declared.byte_order.ByteOrder.{ByteOrder}
use Rattle.page_picture.specs.Shows.{Frame}
use Rattle.frame_join.specs.declared.join_stage.JoinFault.{JoinFault}
use Rattle.frame_join.specs.declared.join_stage.JoinFault.TheVariants.{Shape, NoMem}
use Rattle.frame_join.specs.FrameHistory.{JoinHistory, with_fault, after_begin_at, after_begin, is_joined, is_accepted, answer_by}
use Rattle.frame_join.specs.JoinStates.{JoinState, Represents}
use Rattle.wire_message.specs.declared.message.Reply.{Reply}
use Rattle.wire_message.specs.declared.message.Reply.TheVariants as replies
use Rattle.sane_fixed.specs.declared.params.Params.{Params}
use Rattle.sane_fixed.specs.declared.status.Status.{Status}
use Rattle.sane_fixed.specs.declared.status.Status.TheVariants as statuses
use Rattle.scan_job.specs.declared.job.Task.{Task}
use Rattle.scan_job.specs.declared.outcome.Outcome.{Outcome}
use Rattle.scan_job.specs.declared.outcome.Outcome.TheVariants.{Running, Done, Ended}
use Rattle.client_replies.specs.declared.progress.JobTarget.{JobTarget}
use Rattle.client_replies.specs.declared.progress.Progress.{Progress}
use Rattle.client_replies.specs.declared.progress.Progress.TheVariants as stages
use Rattle.client_replies.specs.declared.progress.Notes.{Notes}
use Rattle.client_replies.specs.declared.progress.Next.{Next}
use Rattle.client_replies.specs.declared.progress.Next.TheVariants.{Wait, Finish, Stop}
use Rattle.client_replies.specs.ReplyTurns.{Turn}
use Rattle.net_client.specs.ClientStates.{ClientState, protocol_of, ClientRepresents, sent_by}
use Rattle.client_replies.specs.ProtocolStates.{ProtocolState, is_running, suits, FitsAt, HistoryFits, FitsEnded, NextFits, protocol_after_turn, next_outcome, next_progress, heard_at, after_reply, Answer, IsWait, after_params_reply, shaped_by}
use Rattle.net_client.specs.Inside.{GoesOnBy, after_out_of_memory, HearsReply, RepresentsOrOutOfMemory}
use Rattle.net_client.specs.ReplyPieces.{IsReply, HearsReplies, EndsOutOfMemoryHere}
use Rattle.client_replies.proofs.Fitting.{answer_fits, may_end, ended_unjoined, faulty_is_unjoined}

pub running_is : (o : Outcome) → is_running o ≡ true → o ≡ Running
running_is Running e = refl
running_is (Done reports) e = absurd (let clash : false ≡ true = e in cc)
running_is (Ended status why) e = absurd (let clash : false ≡ true = e in cc)

pub fits_at : (past : JoinHistory) (v : ClientState) → is_running v.outcome ≡ true → ClientRepresents past v → (suits v.target.task v.progress ≡ true) × FitsAt v.progress past
fits_at past v e s = subst (λ (o : Outcome). HistoryFits v.target.task o v.progress past) (running_is v.outcome e) s.fits

joined_is_calm : (fault : Option JoinFault) (under : Option Frame) (ended : List Frame) → answer_by fault under ended ≡ Ok true → fault ≡ None
joined_is_calm (Some f) under ended e = absurd (let clash : Err f ≡ Ok true = e in cc)
joined_is_calm None under ended e = refl

pub calm_at : (progress : Progress) (past : JoinHistory) → FitsAt progress past → past.fault ≡ None
calm_at (stages.Imaging port opened) past w = w.0
calm_at stages.Turning past j = joined_is_calm past.fault past.under past.ended j.0
calm_at progress past b = b.0

pub next_fits : (task : Task) (notes : Notes) (next : Next) (past : JoinHistory) → NextFits task past next → HistoryFits task (next_outcome task notes next) (next_progress next) past
next_fits task notes (Wait progress) past n = n
next_fits task notes (Finish devices) past n = n
next_fits task notes (Stop status why) past n = n

-- the client that has lost what it waited for, and knows what the reply told
abbrev pub between : ClientState → Progress → Notes → JoinState → ClientState
between old progress notes join = record old { progress = progress; notes = notes; join = join }

-- only these fields differ
pub differs : (old new : ClientState) (progress : Progress) (turn : Turn) (join : JoinState) → GoesOnBy (between old progress turn.notes join) turn.next new
    → new ≡ record old { outcome = new.outcome; progress = new.progress; notes = new.notes; out = new.out; join = new.join }
differs old new progress turn join s =
    let e : new.target ≡ old.target = ap (λ (v : ClientState). v.target) s.rest in
    let i : new.input ≡ old.input = ap (λ (v : ClientState). v.input) s.rest in
    let p : new.phase ≡ old.phase = ap (λ (v : ClientState). v.phase) s.rest in
    cc

pub settles_well : (old new : ClientState) (progress : Progress) (turn : Turn) (join : JoinState) (past : JoinHistory) → NextFits old.target.task past turn.next → Represents past join
    → GoesOnBy (between old progress turn.notes join) turn.next new
    → (protocol_of new past ≡ protocol_after_turn old.target.task turn past) × ClientRepresents past new
settles_well old new progress turn join past fits stands s = (
  ap (λ (v : ClientState). protocol_of v past) s.rest,
  subst (λ (v : ClientState). ClientRepresents past v) (sym s.rest) (record { stands = stands; fits = next_fits old.target.task turn.notes turn.next past fits }),
)

pub hears_reply : (old mid new : ClientState) (past : JoinHistory) (r : Reply) (next : Next) → is_running old.outcome ≡ true → ClientRepresents past old
    → next ≡ (heard_at old.progress old.target old.notes past r).turn.next → mid.notes ≡ (heard_at old.progress old.target old.notes past r).turn.notes
    → Represents (heard_at old.progress old.target old.notes past r).history mid.join → mid ≡ record old { progress = mid.progress; notes = mid.notes; join = mid.join }
    → GoesOnBy mid next new → HearsReply old past r new
hears_reply old mid new past r next running serves next_is notes_is stands mid_is s =
    let a : Answer = heard_at old.progress old.target old.notes past r in
    let at = fits_at past old running serves in
    let fits = answer_fits old.progress old.target old.notes past r at.0 at.1 in
    let same : mid ≡ between old mid.progress a.turn.notes mid.join = mid_is ∙ ap (λ (n : Notes). between old mid.progress n mid.join) notes_is in
    let settles : GoesOnBy (between old mid.progress a.turn.notes mid.join) a.turn.next new =
    subst (λ (v : ClientState). GoesOnBy v a.turn.next new) same (subst (λ (x : Next). GoesOnBy mid x new) next_is s) in
    let well = settles_well old new mid.progress a.turn mid.join a.history fits stands settles in
    record { protocol = well.0; serves = well.1; said = settles.text; rest = differs old new mid.progress a.turn mid.join settles }

begun_gives_by : (joined accepted after_out_of_memory : Bool) (past grown : JoinHistory) → grown.given ≡ past.given
    → (if joined then past else (if not accepted then with_fault Shape past else (if after_out_of_memory then with_fault NoMem past else grown))).given ≡ past.given
begun_gives_by true accepted after_out_of_memory past grown e = refl
begun_gives_by false false after_out_of_memory past grown e = refl
begun_gives_by false true true past grown e = refl
begun_gives_by false true false past grown e = e

-- out of memory
ends_starved : (past : JoinHistory) (task : Task) (progress : Progress) → suits task progress ≡ true → FitsAt progress past → (join : JoinState) → RepresentsOrOutOfMemory past join
    → (p : JoinHistory) × (p.given ≡ past.given) × (p.ended ≡ past.ended) × Represents p join × FitsEnded task p
ends_starved past task progress s f join (inl stands) = (past, refl, refl, stands, may_end task progress past s f)
ends_starved past task progress s f join (inr stands) = (with_fault NoMem past, refl, refl, stands, ended_unjoined task (with_fault NoMem past) (faulty_is_unjoined (with_fault NoMem past) NoMem refl))

pub is_starved : (old mid new : ClientState) (past : JoinHistory) → is_running old.outcome ≡ true → ClientRepresents past old → RepresentsOrOutOfMemory past mid.join
    → mid ≡ record old { progress = mid.progress; notes = mid.notes; join = mid.join } → new ≡ after_out_of_memory mid → EndsOutOfMemoryHere old past new
is_starved old mid new past running serves stands mid_is new_is =
    let at = fits_at past old running serves in
    let e = ends_starved past old.target.task old.progress at.0 at.1 mid.join stands in
    let target : mid.target ≡ old.target = ap (λ (v : ClientState). v.target) mid_is in
    record {
      starved = record {
        outcome = ap (λ (v : ClientState). v.outcome) new_is;
        progress = ap (λ (v : ClientState). v.progress) new_is;
        target = ap (λ (v : ClientState). v.target) new_is ∙ target;
        out = ap (λ (v : ClientState). v.out) new_is ∙ ap (λ (v : ClientState). v.out) mid_is;
        history_then = e.0;
        given = e.1;
        serves = subst (λ (v : ClientState). ClientRepresents e.0 v) (sym new_is) (record { stands = e.3; fits = subst (λ (x : JobTarget). FitsEnded x.task e.0) (sym target) e.4 });
      };
      ended = e.2;
    }

begun_gives : (p : Params) (o : ByteOrder) (after_out_of_memory : Bool) (fault : Option JoinFault) (under : Option Frame) (past : JoinHistory) → (after_begin_at fault under p o after_out_of_memory past).given ≡ past.given
begun_gives p o after_out_of_memory (Some f) under past = refl
begun_gives p o after_out_of_memory None (Some g) past = refl
begun_gives p o after_out_of_memory None None past = begun_gives_by (is_joined past.ended) (is_accepted past.ended p o) after_out_of_memory past (record past { under = Some (record { params = p; order = o; payload = [] }) }) refl

begin_gives : (p : Params) (o : ByteOrder) (past : JoinHistory) → (after_begin p o false past).given ≡ past.given
unfolding after_begin
begin_gives p o past = begun_gives p o false past.fault past.under past

shaped_gives_by : (status : Status) (port : ℕ) (order : ByteOrder) (p : Params) (past : JoinHistory) → (shaped_by status port order p past).history.given ≡ past.given
shaped_gives_by statuses.Good port order p past = begin_gives p order past
shaped_gives_by status port order p past = refl

shaped_gives : (port : ℕ) (order : ByteOrder) (past : JoinHistory) (r : Reply) → (after_params_reply port order past r).history.given ≡ past.given
shaped_gives port order past (replies.GetParameters status p) = shaped_gives_by status port order p past
shaped_gives port order past r = refl

answer_gives : (progress : Progress) (target : JobTarget) (notes : Notes) (past : JoinHistory) (r : Reply) → (heard_at progress target notes past r).history.given ≡ past.given
answer_gives (stages.Shaping port order) target notes past r = shaped_gives port order past r
answer_gives progress target notes past r = refl

-- nor does a frame end by a reply
begun_ends_by : (joined accepted after_out_of_memory : Bool) (past grown : JoinHistory) → grown.ended ≡ past.ended
    → (if joined then past else (if not accepted then with_fault Shape past else (if after_out_of_memory then with_fault NoMem past else grown))).ended ≡ past.ended
begun_ends_by true accepted after_out_of_memory past grown e = refl
begun_ends_by false false after_out_of_memory past grown e = refl
begun_ends_by false true true past grown e = refl
begun_ends_by false true false past grown e = e

begun_ends : (p : Params) (o : ByteOrder) (after_out_of_memory : Bool) (fault : Option JoinFault) (under : Option Frame) (past : JoinHistory) → (after_begin_at fault under p o after_out_of_memory past).ended ≡ past.ended
begun_ends p o after_out_of_memory (Some f) under past = refl
begun_ends p o after_out_of_memory None (Some g) past = refl
begun_ends p o after_out_of_memory None None past = begun_ends_by (is_joined past.ended) (is_accepted past.ended p o) after_out_of_memory past (record past { under = Some (record { params = p; order = o; payload = [] }) }) refl

begin_ends : (p : Params) (o : ByteOrder) (past : JoinHistory) → (after_begin p o false past).ended ≡ past.ended
unfolding after_begin
begin_ends p o past = begun_ends p o false past.fault past.under past

shaped_ends_by : (status : Status) (port : ℕ) (order : ByteOrder) (p : Params) (past : JoinHistory) → (shaped_by status port order p past).history.ended ≡ past.ended
shaped_ends_by statuses.Good port order p past = begin_ends p order past
shaped_ends_by status port order p past = refl

shaped_ends : (port : ℕ) (order : ByteOrder) (past : JoinHistory) (r : Reply) → (after_params_reply port order past r).history.ended ≡ past.ended
shaped_ends port order past (replies.GetParameters status p) = shaped_ends_by status port order p past
shaped_ends port order past r = refl

pub answer_ends : (progress : Progress) (target : JobTarget) (notes : Notes) (past : JoinHistory) (r : Reply) → (heard_at progress target notes past r).history.ended ≡ past.ended
answer_ends (stages.Shaping port order) target notes past r = shaped_ends port order past r
answer_ends progress target notes past r = refl

pub wait_may_end : (task : Task) (past : JoinHistory) (next : Next) → IsWait next → NextFits task past next → FitsEnded task past
wait_may_end task past (Wait progress) w f = may_end task progress past f.0 f.1
wait_may_end task past (Finish devices) w f = absurd w
wait_may_end task past (Stop status why) w f = absurd w

-- out of memory as the job goes on
pub settles_starved : (old mid new : ClientState) (past : JoinHistory) (r : Reply) (next : Next) → is_running old.outcome ≡ true → ClientRepresents past old
    → next ≡ (heard_at old.progress old.target old.notes past r).turn.next → Represents (heard_at old.progress old.target old.notes past r).history mid.join
    → mid ≡ record old { progress = mid.progress; notes = mid.notes; join = mid.join } → IsWait next → new ≡ after_out_of_memory mid → EndsOutOfMemoryHere old past new
settles_starved old mid new past r next running serves next_is stands mid_is waits new_is =
    let a : Answer = heard_at old.progress old.target old.notes past r in
    let at = fits_at past old running serves in
    let fits = answer_fits old.progress old.target old.notes past r at.0 at.1 in
    let target : mid.target ≡ old.target = ap (λ (v : ClientState). v.target) mid_is in
    let may : FitsEnded old.target.task a.history = wait_may_end old.target.task a.history a.turn.next (subst IsWait next_is waits) fits in
    record {
      starved = record {
        outcome = ap (λ (v : ClientState). v.outcome) new_is;
        progress = ap (λ (v : ClientState). v.progress) new_is;
        target = ap (λ (v : ClientState). v.target) new_is ∙ target;
        out = ap (λ (v : ClientState). v.out) new_is ∙ ap (λ (v : ClientState). v.out) mid_is;
        history_then = a.history;
        given = answer_gives old.progress old.target old.notes past r;
        serves = subst (λ (v : ClientState). ClientRepresents a.history v) (sym new_is) (record { stands = stands; fits = subst (λ (x : JobTarget). FitsEnded x.task a.history) (sym target) may });
      };
      ended = answer_ends old.progress old.target old.notes past r;
    }

-- ---- one after another

pub hears_none : (target : JobTarget) (t : ProtocolState) → HearsReplies target t [] [] [] t
hears_none target t = (refl, refl, refl)

pub hears_more : (target : JobTarget) (t u : ProtocolState) (rs : List Reply) (text sent front said : List ℕ) (r : Reply) → HearsReplies target t rs text sent u → IsReply u.progress front r → sent_by target u r ≡ Some said
    → HearsReplies target t (rs ++ r ∷ []) (text ++ front) (sent ++ said) (after_reply target u r)
hears_more target t u [] text sent front said r h is e = (
  front,
  [],
  said,
  [],
  ap (λ (l : List ℕ). l ++ front) h.0 ∙ sym (append-nil front),
  ap (λ (l : List ℕ). l ++ said) h.1 ∙ sym (append-nil said),
  subst (λ (v : ProtocolState). IsReply v.progress front r) h.2 is,
  subst (λ (v : ProtocolState). sent_by target v r ≡ Some said) h.2 e,
  (refl, refl, ap (λ (v : ProtocolState). after_reply target v r) h.2),
)
hears_more target t u (first ∷ rs) text sent front said r h is e =
    let rest = hears_more target (after_reply target t first) u rs h.1 h.3 front said r h.8 is e in (
      h.0,
      h.1 ++ front,
      h.2,
      h.3 ++ said,
      ap (λ (l : List ℕ). l ++ front) h.4 ∙ append_assoc h.0 h.1 front,
      ap (λ (l : List ℕ). l ++ said) h.5 ∙ append_assoc h.2 h.3 said,
      h.6,
      h.7,
      rest,
    )

-- replies give nothing of the file
pub hears_gives : (target : JobTarget) (t u : ProtocolState) (rs : List Reply) (text sent : List ℕ) → HearsReplies target t rs text sent u → u.history.given ≡ t.history.given
hears_gives target t u [] text sent h = ap (λ (x : ProtocolState). x.history.given) h.2
hears_gives target t u (r ∷ rs) text sent h = hears_gives target (after_reply target t r) u rs h.1 h.3 h.8 ∙ answer_gives t.progress target t.notes t.history r

-- nor do frames end with them
pub hears_ends : (target : JobTarget) (t u : ProtocolState) (rs : List Reply) (text sent : List ℕ) → HearsReplies target t rs text sent u → u.history.ended ≡ t.history.ended
hears_ends target t u [] text sent h = ap (λ (x : ProtocolState). x.history.ended) h.2
hears_ends target t u (r ∷ rs) text sent h = hears_ends target (after_reply target t r) u rs h.1 h.3 h.8 ∙ answer_ends t.progress target t.notes t.history r

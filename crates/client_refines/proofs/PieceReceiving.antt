-- What comes of a piece of a data connection, and the file of a page.
use Rattle.std.proofs.Common.{arith, ◌≡◌, ◌∙◌, ◌≤◌, ◌+◌, ℕ, inl, inr, Option, Some, None, Bool, true, false, List, [], ◌∷◌, ◌++◌, refl, sym, ap, subst, length, length-append, lt-ltb, le-ltb, ltb-true, ltb-false}
use Rattle.std.specs.Prelude.{if◌then◌else◌, nat_lt, option_map}
use Rattle.sane_fixed.specs.declared.status.Status.TheVariants as statuses
use Rattle.sane_fixed.specs.declared.device_info.DeviceInfo.{DeviceInfo}
use Rattle.page_picture.specs.Shows.{Frame}
use Rattle.frame_join.specs.AloneFrame.{most_bytes}
use Rattle.frame_join.specs.declared.join_stage.JoinFault.{JoinFault}
use Rattle.frame_join.specs.declared.join_stage.JoinFault.TheVariants as faults
use Rattle.frame_join.specs.declared.join_stage.Stage.{Stage}
use Rattle.frame_join.specs.declared.join_stage.Stage.TheVariants as joins
use Rattle.frame_join.specs.FrameHistory.{JoinHistory, empty_history, after_pull, with_fault, after_feed, after_feed_at as fed_past}
use Rattle.frame_join.specs.PixelJoinStates.{PixelRepresentsAt}
use Rattle.frame_join.specs.Pixels.{pixels_of, pixel_history}
use Rattle.frame_join.specs.JoinStates.{JoinState, Represents, HasCome, IsComing}
use Rattle.frame_join.specs.JoinStages.{fault_in, is_keeping}
use Rattle.frame_join.proofs.PixelParams.{pixels_same}
use Rattle.frame_join.proofs.PixelSteps.{alone_not_kept, some_same, under_alone}
use Rattle.scan_job.specs.declared.outcome.Outcome.{Outcome}
use Rattle.scan_job.specs.declared.outcome.Outcome.TheVariants.{Running, Done, Ended}
use Rattle.scan_job.specs.declared.outcome.Why.TheVariants as whys
use Rattle.client_replies.specs.declared.progress.JobTarget.{JobTarget}
use Rattle.client_replies.specs.declared.progress.Progress.{Progress}
use Rattle.client_replies.specs.declared.progress.Progress.TheVariants as stages
use Rattle.client_replies.specs.ReplyTurns.{stop_unjoined, frame_ended, turn, stop_malformed, FrameEnd, frame_ended_by}
use Rattle.sane_fixed.specs.Status.{status_of}
use Rattle.net_client.specs.ClientStates.{ClientState, protocol_of, ClientRepresents, sends, Stays, Turns}
use Rattle.client_replies.specs.ProtocolStates.{ProtocolState, turns, HistoryFits, FitsAt, next_outcome, is_receiving, with_payload, next_progress, protocol_after_turn}
use Rattle.scan_job.specs.JobSize.{HasCount}
use Rattle.net_client.specs.FramePieces.{TakesBytes, TakesFrameEnd, FailsAtBytes}
use Rattle.net_client.proofs.Ending.{ended_gives_by}
use Rattle.system_model.specs.AbstractMessages as words
use Rattle.system_model.specs.Client as model
use Rattle.system_model.specs.ClientReplies.{client_after_bytes, finish_in, client_after_stop}
use Rattle.client_refines.specs.ClientRefinement.{task_of, parts, wholes, OutcomeRefines, ClientRefines}
use Rattle.client_refines.specs.FrameRefinement.{protocol_after_bytes_by}
use Rattle.client_refines.specs.PieceRefinement as pieces
use Rattle.client_refines.specs.PieceRefinement.{RecordsBring, PagesAreTakenAlike, ReceivesPiece, PiecesAreReceivedAlike, SpellsSent, SpellsSentAt, EndByteRefines}
use Rattle.client_refines.proofs.Payload.{bytes_alike, ends_alike, turns_unseen}
use Rattle.client_refines.proofs.ClientEndings.{pulls_unseen}
use Rattle.wire_format.specs.Writer.{behind}
use Rattle.sane_fixed.specs.declared.status.Status.{Status}
use Rattle.scan_job.specs.declared.outcome.Why.{Why}
use Rattle.net_client.specs.Sending.{optional_request_text}
use Rattle.client_refines.proofs.Said.{one_text, settled_spells, next_word}
use Rattle.data_records.specs.declared.records.RecordPhase.{RecordPhase}
use Rattle.wire_message.specs.declared.message.Request.TheVariants as requests
use Rattle.client_replies.specs.Asking.{request_for}
use Rattle.client_refines.proofs.Replying.{ends_so}
use Rattle.client_refines.proofs.Apt.{end_is_later}
use Rattle.client_refines.specs.RequestRefinement.{asks_of}
use Rattle.option_desc.specs.declared.descriptor.Descriptor.{Descriptor}

-- ---- a data connection

-- a frame whose rows go straight through has no more than it may have
short_under : (past : JoinHistory) (f : Frame) (v : JoinState) → Represents past v → past.under ≡ Some f → past.fault ≡ None → is_keeping v.pixels.stage ≡ false → length f.payload ≤ most_bytes f.params
short_under past f v s u c through = by v.pixels.stage s.pixels.at_stage through (sym s.pixels.fault ∙ c)
  where
    told : option_map pixels_of past.under ≡ Some f
    told = ap (option_map pixels_of) u ∙ ap (λ (g : Frame). Some g) (pixels_same f (alone_not_kept f.params (under_alone past v s through c f u)))

    by : (t : Stage) → PixelRepresentsAt t (pixel_history past) v.pixels → is_keeping t ≡ false → fault_in t ≡ None → length f.payload ≤ most_bytes f.params
    by joins.Idle h keeps calm = absurd (let clash : None ≡ Some f = sym h.1 ∙ told in cc)
    by joins.Under h keeps calm = subst (λ (g : Frame). length g.payload ≤ most_bytes g.params) (some_same h.0 f (sym h.2 ∙ told)) h.3.most
    by joins.Keeping h keeps calm = absurd (let clash : true ≡ false = keeps in cc)
    by joins.Between h keeps calm = absurd (let clash : None ≡ Some f = sym h.0 ∙ told in cc)
    by joins.Whole h keeps calm = absurd (let clash : None ≡ Some f = sym h.2 ∙ told in cc)
    by joins.WholeColors h keeps calm = absurd (let clash : None ≡ Some f = sym h.4 ∙ told in cc)
    by (joins.Failed fault) h keeps calm = absurd (let clash : Some fault ≡ None = calm in cc)

-- what a join took of a frame is no more than the frame may have
short_payload : (past : JoinHistory) (f : Frame) (v : JoinState) → Represents past v → past.under ≡ Some f → past.fault ≡ None → length f.payload ≤ most_bytes f.params
short_payload past f v s u c = elim (is_keeping v.pixels.stage) as (λ t. is_keeping v.pixels.stage ≡ t → length f.payload ≤ most_bytes f.params) [
  | true ↦ λ keeping. (
      let come : HasCome f v = subst (λ (o : Option Frame). IsComing o v) u (s.coming keeping) in
      come.most)
  | false ↦ λ through. short_under past f v s u c through
] refl

feed_is : (past : JoinHistory) (f : Frame) (bytes : List ℕ) (starved b : Bool) → past.fault ≡ None → past.under ≡ Some f → nat_lt (most_bytes f.params) (length f.payload + length bytes) ≡ b
    → after_feed bytes starved past ≡ (if b then with_fault faults.Long past else (if starved then with_fault faults.NoMem past else with_payload past f bytes))
unfolding after_feed
feed_is past f bytes starved b c u e =
    ap (λ (o : Option JoinFault). fed_past o past.under bytes starved past) c ∙ ap (λ (o : Option Frame). fed_past None o bytes starved past) u
    ∙ ap (λ (t : Bool). if t then with_fault faults.Long past else (if starved then with_fault faults.NoMem past else with_payload past f bytes)) e

running_is : (o : Outcome) (p : Progress) → is_receiving o p ≡ true → (o ≡ Running) × ((port : ℕ) × ((made : Bool) × (p ≡ stages.Imaging port made)))
running_is Running (stages.Imaging port made) e = (refl, (port, (made, refl)))
running_is (Done reports) (stages.Imaging port made) e = absurd (let clash : false ≡ true = e in cc)
running_is (Ended status why) (stages.Imaging port made) e = absurd (let clash : false ≡ true = e in cc)
running_is o progress e = absurd (let clash : false ≡ true = e in cc)

-- what stands while a client receives
record At (old : ClientState) (past : JoinHistory) : Type 0 where
  running : old.outcome ≡ Running
  port : ℕ
  made : Bool
  progress : old.progress ≡ stages.Imaging port made
  fits : HistoryFits old.target.task Running old.progress past
  calm : past.fault ≡ None

at : (old : ClientState) (past : JoinHistory) → is_receiving old.outcome old.progress ≡ true → ClientRepresents past old → At old past
at old past e s =
    let r = running_is old.outcome old.progress e in
    let f : HistoryFits old.target.task Running old.progress past = subst (λ (o : Outcome). HistoryFits old.target.task o old.progress past) r.0 s.fits in
    let w : FitsAt (stages.Imaging r.1.0 r.1.1.0) past = subst (λ (p : Progress). FitsAt p past) r.1.1.1 f.1 in
    record { running = r.0; port = r.1.0; made = r.1.1.0; progress = r.1.1.1; fits = f; calm = w.0 }

-- so many bytes more, within what the frame may have
takes : (place : DeviceInfo → ℕ) (job : model.AbstractJob) (pages : List (List Frame)) (old : ClientState) (past : JoinHistory) (f : Frame) (bytes : List ℕ) (m : model.ClientView) → At old past → past.under ≡ Some f
    → length f.payload + length bytes ≤ most_bytes f.params → ClientRefines place old.target job pages (protocol_of old past) m → ClientRefines place old.target job pages (protocol_of old (with_payload past f bytes)) (client_after_bytes m.stage m bytes)
takes place job pages old past f bytes m a u most r =
    let h = bytes_alike place old.target job pages (protocol_of old past) m bytes (a.port, (a.made, a.progress)) a.running a.fits r in
    let e : after_feed bytes false past ≡ with_payload past f bytes = feed_is past f bytes false false a.calm u (le-ltb (most_bytes f.params) (length f.payload + length bytes) most) in
    subst (λ (y : Option JoinFault). ClientRefines place old.target job pages (protocol_after_bytes_by old.target.task (protocol_of old past) (with_payload past f bytes) y) (client_after_bytes m.stage m bytes)) a.calm
    (subst (λ (y : JoinHistory). ClientRefines place old.target job pages (protocol_after_bytes_by old.target.task (protocol_of old past) y y.fault) (client_after_bytes m.stage m bytes)) e h)

took_short : (past : JoinHistory) (f : Frame) (bytes : List ℕ) (v : JoinState) → past.fault ≡ None → Represents (with_payload past f bytes) v → length f.payload + length bytes ≤ most_bytes f.params
took_short past f bytes v c s =
    let b = short_payload (with_payload past f bytes) (record f { payload = f.payload ++ bytes }) v s refl c in
    let n : length (f.payload ++ bytes) ≡ length f.payload + length bytes = length-append f.payload bytes in
    omega arith

-- ---- what comes of a piece

went : (place : DeviceInfo → ℕ) (job : model.AbstractJob) (pages : List (List Frame)) (old new : ClientState) (past : JoinHistory) (piece : List ℕ) (m : model.ClientView) → At old past
    → ClientRefines place old.target job pages (protocol_of old past) m → TakesBytes old past piece new → ReceivesPiece place job pages m old past piece new
went place job pages old new past piece m a r g =
    let given = g.reads.given in
    let most = took_short past g.frame given new.join a.calm g.reads.stands in
    pieces.Goes given (with_payload past g.frame given) g.reads.carries g.rest g.going
    (record {
      serves = g.serves;
      given_is = refl;
      reads =
          subst (λ (t : ProtocolState). ClientRefines place old.target job pages t (client_after_bytes m.stage m given)) (sym (ap (λ (v : ClientState). protocol_of v (with_payload past g.frame given)) g.rest))
          (takes place job pages old past g.frame given m a g.under most r);
    })

-- ---- an end record

pub behind_some : (old new : List ℕ) (text : Option (List ℕ)) → behind old text ≡ Some new → (said : List ℕ) × (text ≡ Some said) × (new ≡ old ++ said)
behind_some old new None e = absurd (cc)
behind_some old new (Some said) e = (said, refl, sym (cc (e)))

-- an end record, by its status
closes : (place : DeviceInfo → ℕ) (job : model.AbstractJob) (pages : List (List Frame)) (old new : ClientState) (past : JoinHistory) (n : ℕ) (sent : List ℕ) (m : model.ClientView) (o : Option Status) → status_of n ≡ o → job.task ≡ task_of old.target.task
    → HasCount old.target.task → At old past → ClientRefines place old.target job pages (protocol_of old past) m → ClientRepresents (frame_ended old.target.task old.notes.file past n).history new
    → protocol_of new (frame_ended old.target.task old.notes.file past n).history ≡ protocol_after_turn old.target.task (turn old.notes (frame_ended old.target.task old.notes.file past n).next) (frame_ended old.target.task old.notes.file past n).history
    → sends old.target old.notes.word (frame_ended old.target.task old.notes.file past n).next ≡ Some sent
    → EndByteRefines place old.target job pages past.given (frame_ended old.target.task old.notes.file past n).history new m sent o
closes place job pages old new past n sent m None e t count a r serves protocol said =
    let is : frame_ended old.target.task old.notes.file past n ≡ record { next = stop_malformed; history = past } = ap (λ (o : Option Status). frame_ended_by old.target.task old.notes.file past o) e in
    let none : Some [] ≡ Some sent = sym (ap (λ (f : FrameEnd). sends old.target old.notes.word f.next) is) ∙ said in
    let outcome : new.outcome ≡ Ended statuses.IoError whys.Malformed = ap (λ (y : ProtocolState). y.outcome) protocol ∙ ap (λ (f : FrameEnd). next_outcome old.target.task old.notes f.next) is in (
      record {
        serves = serves;
        given_is = ended_gives_by old.target.task old.notes.file past (status_of n);
        reads =
            subst (λ (y : JoinHistory). ClientRefines place old.target job pages (protocol_of new y) (client_after_stop statuses.IoError whys.Malformed m)) (sym (ap (λ (f : FrameEnd). f.history) is))
            (ends_so place old.target job pages (protocol_of old past) new m statuses.IoError whys.Malformed a.running outcome r);
      },
      let s : [] ≡ sent = cc in sym s,
    )
closes place job pages old new past n sent m (Some status) e t count a r serves protocol said =
    let end = frame_ended old.target.task old.notes.file past n in
    let h = ends_alike place old.target job pages (protocol_of old past) m n status t count e (a.port, (a.made, a.progress)) a.running a.fits r in
    record {
      stands = record {
        serves = serves;
        given_is = ended_gives_by old.target.task old.notes.file past (status_of n);
        reads = subst (λ (y : ProtocolState). ClientRefines place old.target job pages y (finish_in m.stage job.task m status)) (sym protocol) h;
      };
      spells =
          subst (λ (y : ProtocolState). SpellsSentAt old.target y.notes.word y.progress sent job (finish_in m.stage job.task m status)) (sym protocol)
          (subst (λ (word : ℕ). SpellsSentAt old.target word (next_progress end.next) sent job (finish_in m.stage job.task m status)) (sym (next_word old.notes end.next))
          (settled_spells (record { place = place; job = job; pages = pages; history = end.history }) old.target end.next old.notes _ sent t (end_is_later old.target old.notes past n) h said));
    }

ended : (place : DeviceInfo → ℕ) (job : model.AbstractJob) (pages : List (List Frame)) (old new : ClientState) (past : JoinHistory) (piece : List ℕ) (m : model.ClientView) → job.task ≡ task_of old.target.task → HasCount old.target.task → At old past
    → ClientRefines place old.target job pages (protocol_of old past) m → TakesFrameEnd old past piece new → ReceivesPiece place job pages m old past piece new
ended place job pages old new past piece m t count a r g =
    let given = g.reads.reads.given in
    let most = took_short past g.frame given g.join a.calm g.reads.reads.stands in
    let read = takes place job pages old past g.frame given m a g.under most r in
    let fits : HistoryFits old.target.task Running old.progress (with_payload past g.frame given) =
    (a.fits.0, subst (λ (p : Progress). FitsAt p (with_payload past g.frame given)) (sym a.progress) (a.calm, (record g.frame { payload = g.frame.payload ++ given }, refl))) in
    let end = frame_ended old.target.task old.notes.file (with_payload past g.frame given) g.status in
    let said = behind_some old.out new.out (sends old.target old.notes.word end.next) g.ends.said in
    let here : At old (with_payload past g.frame given) = record { running = a.running; port = a.port; made = a.made; progress = a.progress; fits = fits; calm = a.calm } in
    pieces.Ends given g.status end.history said.0 (record { used = g.reads.used; rest = g.reads.rest; whole = g.reads.whole; carries = g.reads.reads.carries }) said.2
    (closes place job pages old new (with_payload past g.frame given) g.status said.0 (client_after_bytes m.stage m given) (status_of g.status) refl t count here read g.ends.serves g.ends.protocol said.1)

-- ---- out of memory behind so many bytes, and too many bytes

-- of a job that has ended another history of the same frames is read alike
other_past : (place : DeviceInfo → ℕ) (target : JobTarget) (job : model.AbstractJob) (pages : List (List Frame)) (new : ClientState) (past other : JoinHistory) (m : model.ClientView) (status : Status) (why : Why) → new.outcome ≡ Ended status why → other.ended ≡ past.ended
    → ClientRefines place target job pages (protocol_of new past) m → ClientRefines place target job pages (protocol_of new other) m
other_past place target job pages new past other m status why n e r = record {
  files = record {
    part = r.files.part ∙ ap (λ (fs : List Frame). parts fs) (sym e);
    all = r.files.all ∙ ap (λ (fs : List Frame). pages ++ wholes fs) (sym e);
  };
  stands =
      subst (λ (y : Outcome). OutcomeRefines place target job pages y new.progress new.notes other m) (sym n)
      (subst (λ (y : Outcome). OutcomeRefines place target job pages y new.progress new.notes past m) n r.stands);
}

starved : (place : DeviceInfo → ℕ) (job : model.AbstractJob) (pages : List (List Frame)) (old new : ClientState) (past now : JoinHistory) (piece : List ℕ) (f : Frame) (given more : List ℕ) (phase : RecordPhase) (m : model.ClientView) → At old past → past.under ≡ Some f
    → length f.payload + length given ≤ most_bytes f.params → ClientRefines place old.target job pages (protocol_of old past) m → RecordsBring old.phase phase piece (given ++ more) → new.out ≡ old.out → new.outcome ≡ Ended statuses.NoMem whys.Memory
    → now ≡ with_fault faults.NoMem (with_payload past f given) → ClientRepresents now new → ReceivesPiece place job pages m old past piece new
starved place job pages old new past now piece f given more phase m a u most r b o n is serves =
    let read = takes place job pages old past f given m a u most r in
    pieces.Starves given more phase now b o n
    (record {
      serves = serves;
      given_is = ap (λ (y : JoinHistory). y.given) is;
      reads =
          other_past place old.target job pages new (with_payload past f given) now (client_after_stop statuses.NoMem whys.Memory (client_after_bytes m.stage m given)) statuses.NoMem whys.Memory n (ap (λ (y : JoinHistory). y.ended) is)
          (ends_so place old.target job pages (protocol_of old (with_payload past f given)) new (client_after_bytes m.stage m given) statuses.NoMem whys.Memory a.running n read);
    })

long_reads : (place : DeviceInfo → ℕ) (job : model.AbstractJob) (pages : List (List Frame)) (old new : ClientState) (past : JoinHistory) (f : Frame) (bytes : List ℕ) (fault : JoinFault) (m : model.ClientView) → At old past → past.under ≡ Some f
    → nat_lt (most_bytes f.params) (length f.payload + length bytes) ≡ true → fault ≡ faults.Long → ClientRefines place old.target job pages (protocol_of old past) m
    → protocol_of new (with_fault faults.Long past) ≡ record { outcome = next_outcome old.target.task old.notes (stop_unjoined fault); progress = stages.Over; notes = old.notes; history = with_fault faults.Long past }
    → ClientRefines place old.target job pages (protocol_of new (with_fault faults.Long past)) (client_after_bytes m.stage m bytes)
long_reads place job pages old new past f bytes fault m a u b l r n =
    let h = bytes_alike place old.target job pages (protocol_of old past) m bytes (a.port, (a.made, a.progress)) a.running a.fits r in
    let e : after_feed bytes false past ≡ with_fault faults.Long past = feed_is past f bytes false true a.calm u b in
    subst (λ (t : ProtocolState). ClientRefines place old.target job pages t (client_after_bytes m.stage m bytes))
    (sym (n ∙ ap (λ (x : JoinFault). record { outcome = next_outcome old.target.task old.notes (stop_unjoined x); progress = stages.Over; notes = old.notes; history = with_fault faults.Long past }) l))
    (subst (λ (y : JoinHistory). ClientRefines place old.target job pages (protocol_after_bytes_by old.target.task (protocol_of old past) y y.fault) (client_after_bytes m.stage m bytes)) e h)

fails_by : (place : DeviceInfo → ℕ) (job : model.AbstractJob) (pages : List (List Frame)) (old new : ClientState) (past : JoinHistory) (piece : List ℕ) (m : model.ClientView) (g : FailsAtBytes old past piece new) (b s : Bool) → At old past
    → ClientRefines place old.target job pages (protocol_of old past) m → nat_lt (most_bytes g.frame.params) (length (g.frame.payload ++ g.reads.before) + length g.reads.last) ≡ b
    → after_feed g.reads.last g.reads.starved (with_payload past g.frame g.reads.before)
    ≡ (if b then with_fault faults.Long (with_payload past g.frame g.reads.before) else (if s then with_fault faults.NoMem (with_payload past g.frame g.reads.before) else with_payload (with_payload past g.frame g.reads.before) (record g.frame { payload = g.frame.payload ++ g.reads.before }) g.reads.last))
    → ReceivesPiece place job pages m old past piece new
fails_by place job pages old new past piece m g true s a r e w =
    let before = g.reads.before in
    let last = g.reads.last in
    let over = ltb-true (most_bytes g.frame.params) (length (g.frame.payload ++ before) + length last) e in
    let n : length (g.frame.payload ++ before) ≡ length g.frame.payload + length before = length-append g.frame.payload before in
    let k : length (before ++ last) ≡ length before + length last = length-append before last in
    let l : g.fault ≡ faults.Long = (let long : Some faults.Long ≡ Some g.fault = sym (ap (λ (y : JoinHistory). y.fault) w) ∙ g.reads.fails in cc) in
    let o : new.outcome ≡ Ended statuses.IoError whys.Long = ap (λ (v : ClientState). v.outcome) g.rest ∙ ap (λ (x : JoinFault). next_outcome old.target.task old.notes (stop_unjoined x)) l in
    let read = long_reads place job pages old new past g.frame (before ++ last) g.fault m a g.under (lt-ltb (most_bytes g.frame.params) (length g.frame.payload + length (before ++ last)) (omega arith)) l r
    (ap (λ (v : ClientState). protocol_of v (with_fault faults.Long past)) g.rest) in
    pieces.Overflows (before ++ last) (after_feed last g.reads.starved (with_payload past g.frame before)) (record { used = g.reads.used; rest = g.reads.rest; whole = g.reads.whole; carries = g.reads.carries }) (ap (λ (v : ClientState). v.out) g.rest) o
    (record {
      serves = g.serves;
      given_is = ap (λ (y : JoinHistory). y.given) w;
      reads = other_past place old.target job pages new (with_fault faults.Long past) (after_feed last g.reads.starved (with_payload past g.frame before)) (client_after_bytes m.stage m (before ++ last)) statuses.IoError whys.Long o (ap (λ (y : JoinHistory). y.ended) w) read;
    })
fails_by place job pages old new past piece m g false true a r e w =
    let before = g.reads.before in
    let last = g.reads.last in
    let within = ltb-false (most_bytes g.frame.params) (length (g.frame.payload ++ before) + length last) e in
    let n : length (g.frame.payload ++ before) ≡ length g.frame.payload + length before = length-append g.frame.payload before in
    let l : g.fault ≡ faults.NoMem = (let full : Some faults.NoMem ≡ Some g.fault = sym (ap (λ (y : JoinHistory). y.fault) w) ∙ g.reads.fails in cc) in
    starved place job pages old new past (after_feed last g.reads.starved (with_payload past g.frame before)) piece g.frame before last new.phase m a g.under (omega arith) r (record { used = g.reads.used; rest = g.reads.rest; whole = g.reads.whole; carries = g.reads.carries })
    (ap (λ (v : ClientState). v.out) g.rest) (ap (λ (v : ClientState). v.outcome) g.rest ∙ ap (λ (x : JoinFault). next_outcome old.target.task old.notes (stop_unjoined x)) l) w g.serves
fails_by place job pages old new past piece m g false false a r e w = absurd (let clash : None ≡ Some g.fault = sym a.calm ∙ sym (ap (λ (y : JoinHistory). y.fault) w) ∙ g.reads.fails in cc)

fails : (place : DeviceInfo → ℕ) (job : model.AbstractJob) (pages : List (List Frame)) (old new : ClientState) (past : JoinHistory) (piece : List ℕ) (m : model.ClientView) → At old past
    → ClientRefines place old.target job pages (protocol_of old past) m → FailsAtBytes old past piece new → ReceivesPiece place job pages m old past piece new
fails place job pages old new past piece m a r g =
    let b = nat_lt (most_bytes g.frame.params) (length (g.frame.payload ++ g.reads.before) + length g.reads.last) in
    fails_by place job pages old new past piece m g b g.reads.starved a r refl
    (feed_is (with_payload past g.frame g.reads.before) (record g.frame { payload = g.frame.payload ++ g.reads.before }) g.reads.last g.reads.starved b a.calm refl refl)

pub all_received : PiecesAreReceivedAlike
all_received place job pages old new past piece m t count e s r (inl g) = went place job pages old new past piece m (at old past e s) r g
all_received place job pages old new past piece m t count e s r (inr (inl g)) = ended place job pages old new past piece m t count (at old past e s) r g
all_received place job pages old new past piece m t count e s r (inr (inr g)) = fails place job pages old new past piece m (at old past e s) r g

-- ---- the file of a page

turning_is : (o : Outcome) (p : Progress) → turns o p ≡ true → (o ≡ Running) × (p ≡ stages.Turning)
turning_is Running stages.Turning e = (refl, refl)
turning_is Running p e = absurd (let clash : false ≡ true = e in cc)
turning_is (Done reports) p e = absurd (let clash : false ≡ true = e in cc)
turning_is (Ended status why) p e = absurd (let clash : false ≡ true = e in cc)

starts_spell : (target : JobTarget) (word : ℕ) (known : List Descriptor) (sent : List ℕ) → optional_request_text (request_for target word (stages.Starting true)) ≡ Some sent → SpellsSent target sent (asks_of word known (words.Start ∷ []))
starts_spell target word known sent e = record { requests = requests.Start word ∷ []; text = one_text (Some (requests.Start word)) ∙ e; same = (refl, tt) }

pub all_taken : PagesAreTakenAlike
all_taken place job pages old new past bytes m e s r (Stays short rest serves) = (
  ap (λ (v : ClientState). v.out) rest,
  subst (λ (t : ProtocolState). ClientRefines place old.target job pages t m) (sym (ap (λ (v : ClientState). protocol_of v (after_pull bytes past)) rest)) (pulls_unseen place old.target job pages (protocol_of old past) m bytes r).0,
)
all_taken place job pages old new past bytes m e s r (Turns whole shows next serves) =
    let t = turning_is old.outcome old.progress e in
    let fits : HistoryFits old.target.task Running old.progress past = subst (λ (o : Outcome). HistoryFits old.target.task o old.progress past) t.0 s.fits in
    let said = behind_some old.out new.out (optional_request_text (request_for old.target old.notes.word (stages.Starting true))) next.text in (
      said.0,
      said.2,
      starts_spell old.target old.notes.word m.known said.0 said.1,
      subst (λ (y : ProtocolState). ClientRefines place old.target job (pages ++ past.ended ∷ []) y m) (sym (ap (λ (v : ClientState). protocol_of v empty_history) next.rest)) (turns_unseen place old.target job pages (protocol_of old past) m t.0 t.1 fits r),
    )

-- What a client is told by a piece of replies, or of a frame's records.
use Rattle.std.proofs.Common.{◌≡◌, ◌∙◌, ℕ, ◌+◌, Bool, true, false, Option, Some, None, List, length, nat_lt, if◌then◌else◌, refl, sym, ap, subst, inl, inr}
use Rattle.page_picture.specs.Shows.{Frame}
use Rattle.frame_join.specs.declared.join_stage.JoinFault.TheVariants as faults
use Rattle.frame_join.specs.declared.join_stage.JoinFault.TheVariants.{Long, NoMem}
use Rattle.frame_join.specs.AloneFrame.{most_bytes}
use Rattle.frame_join.specs.FrameHistory.{JoinHistory, IsJoined, after_feed, with_fault, after_feed_at}
use Rattle.scan_job.specs.declared.job.Task.{Task}
use Rattle.scan_job.specs.declared.outcome.Outcome.{Outcome}
use Rattle.scan_job.specs.declared.outcome.Outcome.TheVariants.{Running, Done, Ended}
use Rattle.frame_join.specs.declared.join_stage.JoinFault.{JoinFault}
use Rattle.client_replies.specs.declared.progress.Notes.{Notes}
use Rattle.client_replies.specs.declared.progress.Next.{Next}
use Rattle.client_replies.specs.declared.progress.Next.TheVariants.{Wait, Finish, Stop}
use Rattle.client_replies.specs.declared.progress.Progress.{Progress}
use Rattle.client_replies.specs.ReplyTurns.{stop_unjoined}
use Rattle.sane_fixed.specs.Status.{status_of}
use Rattle.client_replies.specs.ProtocolStates.{ProtocolState, is_receiving, is_running, next_notes, next_outcome, next_progress, with_payload}
use Rattle.client_replies.proofs.Fitting.{may_end}
use Rattle.data_records.specs.declared.records.RecordPhase.TheVariants as phases
use Rattle.net_client.specs.ClientStates.{ClientState, ClientRepresents, protocol_of}
use Rattle.net_client.specs.ReplyPieces.{HasHeard, Heeds, Whole, Garbled, OutOfMemoryBehind, OutOfMemoryAtOnce, EndsOutOfMemory}
use Rattle.net_client.specs.FramePieces.{TakesEndRecord, TakesFrameEnd, FailsAtBytes, TakesBytes, Receives, frame_end_of}
use Rattle.net_client.proofs.Ending.{ended_gives_by, is_running_then}
use Rattle.net_client.proofs.Hearings.{fits_at, hears_gives}
use Rattle.event_world.specs.JobEvents.{is_done}
use Rattle.event_world.specs.FileInvariant.{HasNumber}
use Rattle.event_world.proofs.PageNumbers.{EndsBy, IsLast, end_numbered, frame_ends, hears_numbered, number_at}
use Rattle.event_world.proofs.FileInvariant.{IsTold}

-- ---- replies

ended_number : (task : Task) (o : Outcome) (progress : Progress) (file pages : ℕ) → (is_running o ≡ false) → HasNumber task o progress file pages
ended_number task Running progress file pages e = absurd (let clash : true ≡ false = e in cc)
ended_number task (Done reports) progress file pages e = tt
ended_number task (Ended status why) progress file pages e = tt

heard_number : (old : ClientState) (past : JoinHistory) (piece : List ℕ) (new : ClientState) → is_running old.outcome ≡ true → HasHeard old past piece new → (pages : ℕ)
    → HasNumber old.target.task old.outcome old.progress old.notes.file pages → HasNumber old.target.task new.outcome new.progress new.notes.file pages
heard_number old past piece new running h pages n =
    hears_numbered old.target (protocol_of old past) (protocol_of new h.history_then) h.told h.text h.sent pages h.hears (λ over. absurd (let clash : true ≡ false = sym running ∙ over in cc)) n

heard_given : (old : ClientState) (past : JoinHistory) (piece : List ℕ) (new : ClientState) (h : HasHeard old past piece new) → h.history_then.given ≡ past.given
heard_given old past piece new h = hears_gives old.target (protocol_of old past) (protocol_of new h.history_then) h.told h.text h.sent h.hears

starved_over : (old : ClientState) (past : JoinHistory) (new : ClientState) → EndsOutOfMemory old past new → is_running new.outcome ≡ false
starved_over old past new s = ap is_running s.outcome

pub heeded : (old : ClientState) (past : JoinHistory) (piece : List ℕ) (new : ClientState) → is_running old.outcome ≡ true → Heeds old past piece new → IsTold old past new
heeded old past piece new running (Whole h wants) = record {
  now = h.history_then;
  given = heard_given old past piece new h;
  serves = h.serves;
  target = h.target;
  number = heard_number old past piece new running h;
}
heeded old past piece new running (Garbled was h was_running g) =
    let at = fits_at h.history_then was was_running h.serves in
    record {
      now = h.history_then;
      given = heard_given old past piece was h;
      serves = subst (λ (v : ClientState). ClientRepresents h.history_then v) (sym g.ends) (record { stands = h.serves.stands; fits = may_end was.target.task was.progress h.history_then at.0 at.1 });
      target = ap (λ (v : ClientState). v.target) g.ends ∙ h.target;
      number = λ pages n. ended_number old.target.task new.outcome new.progress new.notes.file pages (ap (λ (v : ClientState). is_running v.outcome) g.ends);
    }
heeded old past piece new running (OutOfMemoryBehind was h was_running choked) = record {
  now = choked.starved.history_then;
  given = choked.starved.given ∙ heard_given old past piece was h;
  serves = choked.starved.serves;
  target = choked.starved.target ∙ h.target;
  number = λ pages n. ended_number old.target.task new.outcome new.progress new.notes.file pages (starved_over was h.history_then new choked.starved);
}
heeded old past piece new running (OutOfMemoryAtOnce choked) = record {
  now = choked.starved.history_then;
  given = choked.starved.given;
  serves = choked.starved.serves;
  target = choked.starved.target;
  number = λ pages n. ended_number old.target.task new.outcome new.progress new.notes.file pages (starved_over old past new choked.starved);
}

-- ---- records

fed_given : (long starved : Bool) (past grown : JoinHistory) → grown.given ≡ past.given → (if long then with_fault Long past else (if starved then with_fault NoMem past else grown)).given ≡ past.given
fed_given true starved past grown e = refl
fed_given false true past grown e = refl
fed_given false false past grown e = e

fed_with : (fault : Option JoinFault) (under : Option Frame) (bytes : List ℕ) (starved : Bool) (past : JoinHistory) → (after_feed_at fault under bytes starved past).given ≡ past.given
fed_with (Some f) under bytes starved past = refl
fed_with None None bytes starved past = refl
fed_with None (Some f) bytes starved past = fed_given (nat_lt (most_bytes f.params) (length f.payload + length bytes)) starved past _ refl

feed_gives : (bytes : List ℕ) (starved : Bool) (past : JoinHistory) → (after_feed bytes starved past).given ≡ past.given
unfolding after_feed
feed_gives bytes starved past = fed_with past.fault past.under bytes starved past

-- what is done with a frame has its whole picture, and of a batch the last page
pub record IsSeen (old : ClientState) (past : JoinHistory) (new : ClientState) : Type 0 where
  pub told : IsTold old past new
  pub done : is_done new.outcome ≡ true → IsJoined told.now × IsLast old.target.task old.notes.file

runs_not_done : (o : Outcome) → is_running o ≡ true → is_done o ≡ true → ⊥
runs_not_done Running r d = let clash : false ≡ true = d in cc
runs_not_done (Done reports) r d = let clash : false ≡ true = r in cc
runs_not_done (Ended status why) r d = let clash : false ≡ true = r in cc

is_ended_so : (o p : Outcome) → o ≡ p → is_done p ≡ false → is_done o ≡ true → ⊥
is_ended_so o p e f d = let clash : true ≡ false = sym d ∙ ap is_done e ∙ f in cc

went : (old : ClientState) (past : JoinHistory) (piece : List ℕ) (new : ClientState) → is_running old.outcome ≡ true → TakesBytes old past piece new → IsSeen old past new
went old past piece new running g = record {
  told = record {
    now = with_payload past g.frame g.reads.given;
    given = refl;
    serves = g.serves;
    target = ap (λ (v : ClientState). v.target) g.rest;
    number = λ pages n. subst (λ (v : ClientState). HasNumber old.target.task v.outcome v.progress v.notes.file pages) (sym g.rest) n;
  };
  done = λ d. absurd (runs_not_done new.outcome (ap (λ (v : ClientState). is_running v.outcome) g.rest ∙ running) d);
}

kept_file : (notes : Notes) (next : Next) → (next_notes notes next).file ≡ notes.file
kept_file notes (Wait progress) = refl
kept_file notes (Finish devices) = refl
kept_file notes (Stop status why) = refl

done_by : (task : Task) (file : ℕ) (notes : Notes) (past : JoinHistory) (next : Next) → EndsBy task file past next → is_done (next_outcome task notes next) ≡ true → IsJoined past × IsLast task file
done_by task file notes past (Wait progress) ends d = absurd (let clash : false ≡ true = d in cc)
done_by task file notes past (Finish devices) ends d = ends
done_by task file notes past (Stop status why) ends d = absurd (let clash : false ≡ true = d in cc)

frame_told : (mid : ClientState) (past : JoinHistory) (status : ℕ) (new : ClientState) → is_running mid.outcome ≡ true → TakesEndRecord mid past status new → IsSeen mid past new
frame_told mid past status new running e =
    let task = mid.target.task in
    let end = frame_end_of mid past status in
    let ends : EndsBy task mid.notes.file end.history end.next = frame_ends task mid.notes.file past (status_of status) in
    let outcome : new.outcome ≡ next_outcome task mid.notes end.next = ap (λ (t : ProtocolState). t.outcome) e.protocol in
    let progress : new.progress ≡ next_progress end.next = ap (λ (t : ProtocolState). t.progress) e.protocol in
    let notes : new.notes ≡ next_notes mid.notes end.next = ap (λ (t : ProtocolState). t.notes) e.protocol in
    record {
      told = record {
        now = end.history;
        given = ended_gives_by task mid.notes.file past (status_of status);
        serves = e.serves;
        target = ap (λ (v : ClientState). v.target) e.rest;
        number = λ pages n.
            let at = number_at task mid.outcome mid.progress mid.notes.file pages running n in
            subst (λ (t : ProtocolState). HasNumber task t.outcome t.progress t.notes.file pages) (sym e.protocol) (end_numbered task mid.notes end.history pages end.next at.0 at.1 ends);
      };
      done = λ d. done_by task mid.notes.file mid.notes end.history end.next ends (sym (ap is_done outcome) ∙ d);
    }

ended_told : (old : ClientState) (past : JoinHistory) (piece : List ℕ) (new : ClientState) → is_running old.outcome ≡ true → TakesFrameEnd old past piece new → IsSeen old past new
ended_told old past piece new running e =
    let s = frame_told (record old { phase = phases.Head; join = e.join }) (with_payload past e.frame e.reads.reads.given) e.status new running e.ends in
    record {
      told = record { now = s.told.now; given = s.told.given; serves = s.told.serves; target = s.told.target; number = s.told.number };
      done = s.done;
    }

unjoined_over : (task : Task) (notes : Notes) (fault : JoinFault) → is_running (next_outcome task notes (stop_unjoined fault)) ≡ false
unjoined_over task notes faults.Shape = refl
unjoined_over task notes faults.Long = refl
unjoined_over task notes faults.Short = refl
unjoined_over task notes faults.NoMem = refl

unjoined_not_done : (task : Task) (notes : Notes) (fault : JoinFault) → is_done (next_outcome task notes (stop_unjoined fault)) ≡ false
unjoined_not_done task notes faults.Shape = refl
unjoined_not_done task notes faults.Long = refl
unjoined_not_done task notes faults.Short = refl
unjoined_not_done task notes faults.NoMem = refl

failed_told : (old : ClientState) (past : JoinHistory) (piece : List ℕ) (new : ClientState) → FailsAtBytes old past piece new → IsSeen old past new
failed_told old past piece new f = record {
  told = record {
    now = after_feed f.reads.last f.reads.starved (with_payload past f.frame f.reads.before);
    given = feed_gives f.reads.last f.reads.starved (with_payload past f.frame f.reads.before);
    serves = f.serves;
    target = ap (λ (v : ClientState). v.target) f.rest;
    number = λ pages n. ended_number old.target.task new.outcome new.progress new.notes.file pages (ap (λ (v : ClientState). is_running v.outcome) f.rest ∙ unjoined_over old.target.task old.notes f.fault);
  };
  done = λ d. absurd (is_ended_so new.outcome _ (ap (λ (v : ClientState). v.outcome) f.rest) (unjoined_not_done old.target.task old.notes f.fault) d);
}

pub received : (old : ClientState) (past : JoinHistory) (piece : List ℕ) (new : ClientState) → is_receiving old.outcome old.progress ≡ true → Receives old past piece new → IsSeen old past new
received old past piece new on (inl g) = went old past piece new (is_running_then old.outcome old.progress on) g
received old past piece new on (inr (inl e)) = ended_told old past piece new (is_running_then old.outcome old.progress on) e
received old past piece new on (inr (inr f)) = failed_told old past piece new f

-- What has come of messages that are not whole yet.
use Rattle.std.specs.Prelude.{IsSome, ◌&&◌, ◌<◌}
use Rattle.std.proofs.Common.{◌≡◌, inl, inr, ◌∙◌, ℕ, List, [], ◌∷◌, ◌++◌, Bool, true, false, Some, None, refl, sym, ap, subst, length, append_assoc, append-nil, arith}
use Rattle.wire_format.specs.Limit.{NeedsMore}
use Rattle.wire_message.specs.Message.{message_limit, request as request_format}
use Rattle.wire_message.specs.declared.message.Procedure.{Procedure}
use Rattle.data_records.specs.declared.records.RecordPhase.{RecordPhase}
use Rattle.data_records.specs.Records.{HasEnded}
use Rattle.scan_job.specs.declared.outcome.Outcome.{Outcome}
use Rattle.client_replies.specs.declared.progress.Progress.{Progress}
use Rattle.client_replies.specs.declared.progress.Progress.TheVariants as stages
use Rattle.client_replies.specs.ProtocolStates.{progress_connected, is_imaging, is_receiving, is_running, wanted_port}
use Rattle.net_client.specs.ReplyPieces.{WantsReply, awaited_procedure}
use Rattle.net_client.specs.FramePieces.{Receives}
use Rattle.net_client.specs.ClientStates.{ClientState, phase_connected}
use Rattle.frame_join.specs.FrameHistory.{JoinHistory}
use Rattle.world_refines.specs.GhostStates.{Wires}
use Rattle.world_refines.specs.ClientDeliveries.{asking_left}
use Rattle.world_refines.specs.WorldPending.{HasNoReply, HasNoRequest, Pends}
use Rattle.world_refines.proofs.requests.Cut.{limited_is, same_take, some_text}
use Rattle.world_refines.proofs.frames.Drained.{awaits_next}
use Rattle.world_refines.proofs.replies.ReplyFronts.{more_left, reply_some}
use Rattle.world_refines.proofs.job_events.Lost.{ends_if}

-- ---- requests

front_none : (front back : List ℕ) → [] ≡ front ++ back → front ≡ []
front_none [] back e = refl
front_none (b ∷ front) back e = absurd (let clash : [] ≡ b ∷ (front ++ back) = e in cc)

pub no_request_none : HasNoRequest []
no_request_none front back q e s = some_text front q (limited_is front q s) (front_none front back e)

pub no_request_wants : (rest : List ℕ) → NeedsMore message_limit request_format rest → HasNoRequest rest
no_request_wants rest wants front back q e s =
    let all : front ++ (back ++ wants.behind) ≡ (rest ++ wants.behind) ++ [] =
    sym (append_assoc front back wants.behind) ∙ (ap (λ (l : List ℕ). l ++ wants.behind) (sym e) ∙ sym (append-nil (rest ++ wants.behind))) in
    let both = same_take front (rest ++ wants.behind) (back ++ wants.behind) [] q wants.value (limited_is front q s) wants.spelled all in
    by_tail back wants.behind both.1 wants.proper
  where
    by_tail : (back behind : List ℕ) → back ++ behind ≡ [] → 0 < length behind → ⊥
    by_tail [] behind e more = let none : length behind ≡ 0 = ap length e in omega (arith, none, more)
    by_tail (b ∷ back) behind e more = let clash : b ∷ (back ++ behind) ≡ [] = e in absurd (cc)

pub no_request_left : (served : Bool) (down asking : List ℕ) → HasNoRequest asking → HasNoRequest (asking_left served down asking)
no_request_left true down asking h = h
no_request_left false [] asking h = no_request_none
no_request_left false (b ∷ down) asking h = h

-- ---- replies

pub no_reply_none : (progress : Progress) → HasNoReply progress []
no_reply_none progress front back r e is = reply_some progress back front r (sym e) is

pub no_reply_wants : (progress : Progress) (rest : List ℕ) → WantsReply progress rest → HasNoReply progress rest
no_reply_wants progress rest wants front back r e is = more_left is.procedure rest [] front back r (append-nil rest ∙ e) is.spelled (wants is.procedure is.awaited_is) refl

-- ---- a client that reads a frame

and_left : (a b : Bool) → (a && b) ≡ true → a ≡ true
and_left true b e = refl
and_left false b e = absurd (let clash : false ≡ true = e in cc)

receives_runs : (o : Outcome) (p : Progress) → is_receiving o p ≡ true → is_running o ≡ true
receives_runs o (stages.Imaging port opened) e = and_left (is_running o) opened e
receives_runs o p e = absurd (let clash : false ≡ true = e in cc)

pub receives_none : (o : Outcome) (p : Progress) (procedure : Procedure) → awaited_procedure p ≡ Some procedure → is_receiving o p ≡ true → ⊥
receives_none o (stages.Imaging port opened) procedure is e = let clash : None ≡ Some procedure = is in absurd (cc)
receives_none o p procedure is e = let clash : false ≡ true = e in absurd (cc)

and_right : (a b : Bool) → (a && b) ≡ true → b ≡ true
and_right true b e = e
and_right false b e = absurd (let clash : false ≡ true = e in cc)

pub receives_unwanted : (o : Outcome) (p : Progress) → (is_imaging p ≡ true → IsSome (wanted_port p)) → is_receiving o p ≡ true → ⊥
receives_unwanted o (stages.Imaging port true) wants e = let clash : false ≡ true = wants refl in absurd (cc)
receives_unwanted o (stages.Imaging port false) wants e = let clash : false ≡ true = and_right (is_running o) false e in absurd (cc)
receives_unwanted o p wants e = let clash : false ≡ true = e in absurd (cc)

pub receives_greeting : (o : Outcome) (p : Progress) → p ≡ stages.Greeting → is_receiving o p ≡ true → ⊥
receives_greeting o p is e = let clash : false ≡ true = ap (is_receiving o) (sym is) ∙ e in absurd (cc)

-- ---- what pends

-- to a job that is over nothing is left
pub pends_off : (o : Outcome) (p : Progress) (phase : RecordPhase) (x : Wires) → is_running o ≡ false → HasNoRequest x.asking → Pends o p phase x
pends_off o p phase x off asking =
    record {
      asking = asking;
      telling = λ on. absurd (let clash : true ≡ false = sym on ∙ off in cc);
      reading = λ e. absurd (let clash : true ≡ false = sym (receives_runs o p e) ∙ off in cc);
    }

pub pends_same : (o : Outcome) (p : Progress) (phase : RecordPhase) (x y : Wires) → HasNoRequest y.asking → y.telling ≡ x.telling → Pends o p phase x → Pends o p phase y
pends_same o p phase x y asking telling h = record { asking = asking; telling = λ on. subst (HasNoReply p) (sym telling) (h.telling on); reading = h.reading }

pub pends_if : (b : Bool) (c : ClientState) (x y : Wires) → HasNoRequest y.asking → y.telling ≡ x.telling → Pends c.outcome c.progress c.phase x → Pends (ends_if b c).outcome (ends_if b c).progress (ends_if b c).phase y
pends_if true c x y asking telling h = pends_off _ _ _ y refl asking
pends_if false c x y asking telling h = pends_same c.outcome c.progress c.phase x y asking telling h

pub pends_connected : (o : Outcome) (p : Progress) (phase : RecordPhase) (x y : Wires) → HasNoRequest y.asking → y.telling ≡ x.telling → Pends o p phase x → Pends o (progress_connected p) (phase_connected p phase) y
pends_connected o (stages.Imaging port false) phase x y asking telling h =
    record { asking = asking; telling = λ on front back r e is. (let clash : None ≡ Some is.procedure = is.awaited_is in absurd (cc)); reading = λ e ended. ended }
pends_connected o (stages.Imaging port true) phase x y asking telling h = pends_same o (stages.Imaging port true) phase x y asking telling h
pends_connected o stages.Greeting phase x y asking telling h = pends_same o stages.Greeting phase x y asking telling h
pends_connected o stages.Listing phase x y asking telling h = pends_same o stages.Listing phase x y asking telling h
pends_connected o stages.Opening phase x y asking telling h = pends_same o stages.Opening phase x y asking telling h
pends_connected o (stages.Allowing resource answer) phase x y asking telling h = pends_same o (stages.Allowing resource answer) phase x y asking telling h
pends_connected o stages.Reopening phase x y asking telling h = pends_same o stages.Reopening phase x y asking telling h
pends_connected o stages.Describing phase x y asking telling h = pends_same o stages.Describing phase x y asking telling h
pends_connected o (stages.Putting n kind name asked) phase x y asking telling h = pends_same o (stages.Putting n kind name asked) phase x y asking telling h
pends_connected o (stages.Getting n kind size) phase x y asking telling h = pends_same o (stages.Getting n kind size) phase x y asking telling h
pends_connected o (stages.Starting first) phase x y asking telling h = pends_same o (stages.Starting first) phase x y asking telling h
pends_connected o (stages.Shaping port order) phase x y asking telling h = pends_same o (stages.Shaping port order) phase x y asking telling h
pends_connected o stages.Turning phase x y asking telling h = pends_same o stages.Turning phase x y asking telling h
pends_connected o stages.Over phase x y asking telling h = pends_same o stages.Over phase x y asking telling h

-- ---- behind a piece of a frame's data

over_reads : (o : Outcome) (b : Bool) → is_receiving o (awaits_next b stages.Over) ≡ true → ⊥
over_reads o true e = let clash : false ≡ true = e in absurd (cc)
over_reads o false e = let clash : false ≡ true = e in absurd (cc)

pub received_reading : (old : ClientState) (past : JoinHistory) (piece : List ℕ) (new : ClientState) (b : Bool) → Receives old past piece new → is_receiving new.outcome (awaits_next b new.progress) ≡ true → HasEnded new.phase → ⊥
received_reading old past piece new b (inl g) e ended = g.going ended
received_reading old past piece new b (inr (inl g)) e ended = subst HasEnded (ap (λ (v : ClientState). v.phase) g.ends.rest) ended
received_reading old past piece new b (inr (inr g)) e ended = over_reads new.outcome b (subst (λ (p : Progress). is_receiving new.outcome (awaits_next b p) ≡ true) (ap (λ (v : ClientState). v.progress) g.rest) e)

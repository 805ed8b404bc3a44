-- How far a job is, call by call of its client.
use Rattle.std.proofs.Common.{◌≡◌, ◌∙◌, ◌⊎◌, ◌≤◌, ℕ, Bool, true, false, Option, Some, None, Ok, Err, List, [], ◌∷◌, ◌++◌, length, refl, sym, ap, subst, inl, inr, arith}
use Rattle.std.specs.Prelude.{◌&&◌}
use Rattle.std.proofs.lemmas.List.{append-nil}
use Rattle.page_picture.specs.Shows.{Frame}
use Rattle.frame_join.specs.declared.join_stage.JoinFault.{JoinFault}
use Rattle.frame_join.specs.FrameHistory.{JoinHistory, empty_history, answer_by}
use Rattle.scan_job.specs.declared.job.Job.{Job}
use Rattle.scan_job.specs.declared.outcome.Outcome.{Outcome}
use Rattle.client_replies.specs.declared.progress.Progress.{Progress}
use Rattle.client_replies.specs.declared.progress.Progress.TheVariants as stages
use Rattle.client_replies.specs.ProtocolStates.{ProtocolState, target_of, is_running, is_receiving, FitsAt}
use Rattle.client_replies.proofs.Fitting.{may_end}
use Rattle.net_client.specs.ClientStates.{ClientState, protocol_of, ClientRepresents, IsNewClient}
use Rattle.net_client.specs.ReplyPieces.{awaited_procedure, HasHeard, Heeds, Whole, Garbled, OutOfMemoryBehind, OutOfMemoryAtOnce, IsGarbled, EndsOutOfMemory}
use Rattle.net_client.proofs.Hearings.{fits_at}
use Rattle.net_jobs.specs.JobTraces.{JobTrace, TraceEvent, BytesMatchTrace, initial_trace}
use Rattle.net_jobs.specs.Inside.{ports_opened}
use Rattle.net_jobs.specs.Links.{HasBrought, BeginWith}
use Rattle.net_jobs.specs.JobJournal.{JobMove, dialled_by, HasLoss}
use Rattle.net_jobs.specs.RunPromises.{EndsBy, ByLoss, ByMemory, ByGarble, ByLength}
use Rattle.net_jobs.proofs.InvariantRecords.{came_in, LinkMatchesTrace, ClientFollowsTrace, Falls, GivenFiles, no_files_given, RunInvariant, AsksPorts}
use Rattle.net_jobs.proofs.Tracing.{heard_on, did_hear, did_leave, did_read, did_nothing, fresh_is, hears_keep}

-- ---- what a job that runs is

pub following : {R : Type 0} (left_of : R → Option (List ℕ)) (moves : List JobMove) (coming0 coming : Option (List (List ℕ))) (trace : JobTrace) (rest : List ℕ) (stream : Option R) (c : ClientState) (past : JoinHistory) → is_running c.outcome ≡ true
    → ClientFollowsTrace left_of coming0 coming trace rest stream c past ⊎ Falls moves coming0 coming trace rest c → ClientFollowsTrace left_of coming0 coming trace rest stream c past
following left_of moves coming0 coming trace rest stream c past running (inl f) = f
following left_of moves coming0 coming trace rest stream c past running (inr f) = absurd (let clash : true ≡ false = sym running ∙ f.is_over in cc)

pub asked_now : (asked : List ℕ) (events : List TraceEvent) (protocol : ProtocolState) (outcome : Outcome) → is_running outcome ≡ true → AsksPorts asked events protocol outcome → asked ≡ ports_opened events
asked_now asked events protocol outcome running (inl e) = e
asked_now asked events protocol outcome running (inr x) = absurd (let clash : true ≡ false = sym running ∙ x.3 in cc)

-- a connection that is let go, if one is open
pub record LetsGo (coming0 coming : Option (List (List ℕ))) (streams : List (List ℕ)) : Type 0 where
  pub wholes : List (List ℕ)
  pub unread : List (List ℕ)
  pub begin : BeginWith wholes streams
  pub brought : HasBrought coming0 coming (wholes ++ unread)
  pub few : length unread ≤ 1

pub lets_go : {R : Type 0} (left_of : R → Option (List ℕ)) (coming0 coming : Option (List (List ℕ))) (streams : List (List ℕ)) (stream : Option R) (c : ClientState) (past : JoinHistory) → LinkMatchesTrace left_of coming0 coming streams stream c past
    → LetsGo coming0 coming streams
lets_go left_of coming0 coming streams None c past l = record {
  wholes = l.wholes;
  unread = [];
  begin = l.begin;
  brought = subst (λ (w : List (List ℕ)). HasBrought coming0 coming w) (sym (append-nil l.wholes)) l.brought;
  few = omega arith;
}
lets_go left_of coming0 coming streams (Some conn) c past l = record { wholes = l.wholes; unread = l.whole ∷ []; begin = l.begin; brought = l.brought; few = omega arith }

-- the job has ended otherwise
pub falls : {R : Type 0} (left_of : R → Option (List ℕ)) (moves : List JobMove) (coming0 coming : Option (List (List ℕ))) (trace : JobTrace) (was rest : List ℕ) (stream : Option R) (c new : ClientState) (past : JoinHistory)
    → ClientFollowsTrace left_of coming0 coming trace was stream c past → is_running c.outcome ≡ true → EndsBy moves trace.protocol rest new.outcome → is_running new.outcome ≡ false → Falls moves coming0 coming trace rest new
falls left_of moves coming0 coming trace was rest stream c new past f running cause over =
    let l = lets_go left_of coming0 coming trace.streams stream c past f.linked in
    record {
      cause = cause;
      is_over = over;
      was_running = ap (λ (t : ProtocolState). is_running t.outcome) (sym f.protocol_is) ∙ running;
      wholes = l.wholes;
      unread = l.unread;
      begin = l.begin;
      brought = l.brought;
      few = l.few;
    }

-- ---- a frame that has not begun has no byte

abbrev is_open : Progress → Bool
is_open (stages.Imaging port opened) = opened
is_open progress = false

joined_clean : (fault : Option JoinFault) (under : Option Frame) (ended : List Frame) → answer_by fault under ended ≡ Ok true → came_in under ≡ []
joined_clean (Some f) under ended e = absurd (let clash : Err f ≡ Ok true = e in cc)
joined_clean None (Some f) ended e = absurd (let clash : Ok false ≡ Ok true = e in cc)
joined_clean None None ended e = refl

clean_by : (progress : Progress) (past : JoinHistory) → (true && is_open progress) ≡ false → FitsAt progress past
    → ((port : ℕ) → progress ≡ stages.Imaging port false → came_in past.under ≡ []) → came_in past.under ≡ []
clean_by (stages.Imaging port true) past shut f empty = absurd (let clash : true ≡ false = shut in cc)
clean_by (stages.Imaging port false) past shut f empty = empty port refl
clean_by stages.Turning past shut f empty = joined_clean past.fault past.under past.ended f.0
clean_by progress past shut f empty = ap came_in f.1

shut_at : (outcome : Outcome) (progress : Progress) → is_running outcome ≡ true → is_receiving outcome progress ≡ false → (true && is_open progress) ≡ false
shut_at outcome (stages.Imaging port opened) running e = ap (λ (b : Bool). b && opened) (sym running) ∙ e
shut_at outcome progress running e = refl

pub clean_at : (c : ClientState) (past : JoinHistory) → is_running c.outcome ≡ true → is_receiving c.outcome c.progress ≡ false → ClientRepresents past c
    → ((port : ℕ) → c.progress ≡ stages.Imaging port false → came_in past.under ≡ []) → came_in past.under ≡ []
clean_at c past running shut serves empty =
    let at = fits_at past c running serves in
    clean_by c.progress past (shut_at c.outcome c.progress running shut) at.1 empty

-- ---- a new client

nothing_brought : (coming : Option (List (List ℕ))) → HasBrought coming coming []
nothing_brought None = tt
nothing_brought (Some all) = (all, refl, refl)

pub stage_begun : {R : Type 0} (left_of : R → Option (List ℕ)) (job : Job) (coming : Option (List (List ℕ))) (c : ClientState) → IsNewClient job c → (s : RunInvariant left_of job [] [] [] c.out coming coming no_files_given None c) × (s.history ≡ empty_history)
stage_begun left_of job coming c f = (
  record {
    target = ap (λ (v : ClientState). v.target) f.value;
    history = empty_history;
    serves = f.serves;
    given_is = refl;
    trace = initial_trace job;
    pages_is = refl;
    rest = [];
    did = did_nothing job c f;
    asked = inl refl;
    stands = inl (record {
      protocol_is = fresh_is job c f;
      rest_is = ap (λ (v : ClientState). v.input.rest) f.value;
      linked = record { wholes = []; begin = tt; brought = nothing_brought coming; empty = λ port e. refl };
    });
  },
  refl,
)

-- ---- a piece of the control connection

-- replies
pub follow_heard : {R : Type 0} (left_of : R → Option (List ℕ)) (coming0 coming : Option (List (List ℕ))) (trace : JobTrace) (rest : List ℕ) (old new : ClientState) (past : JoinHistory) (piece : List ℕ) → came_in past.under ≡ []
    → ClientFollowsTrace left_of coming0 coming trace rest None old past → (h : HasHeard old past piece new)
    → ClientFollowsTrace left_of coming0 coming (heard_on trace h.text h.sent (protocol_of new h.history_then)) new.input.rest None new h.history_then
follow_heard left_of coming0 coming trace rest old new past piece clean f h = record {
  protocol_is = refl;
  rest_is = refl;
  linked = record {
    wholes = f.linked.wholes;
    begin = f.linked.begin;
    brought = f.linked.brought;
    empty = λ port e. (hears_keep old.target (protocol_of old past) (protocol_of new h.history_then) h.told h.text h.sent clean h.hears).1;
  };
}

given_heard : (old new : ClientState) (past : JoinHistory) (piece given : List ℕ) → came_in past.under ≡ [] → past.given ≡ given → (h : HasHeard old past piece new) → h.history_then.given ≡ given
given_heard old new past piece given clean given_is h = (hears_keep old.target (protocol_of old past) (protocol_of new h.history_then) h.told h.text h.sent clean h.hears).0 ∙ given_is

-- bytes that begin no reply
stage_garbled : {R : Type 0} (left_of : R → Option (List ℕ)) (job : Job) (moves : List JobMove) (read_ wrote : List ℕ) (coming0 coming : Option (List (List ℕ))) (given : GivenFiles) (was new : ClientState) (past : JoinHistory) (trace : JobTrace)
    → is_running was.outcome ≡ true → was.target ≡ target_of job → ClientRepresents past was → past.given ≡ given.bytes → trace.pages ≡ given.pages → (did : BytesMatchTrace job trace (record { read_ = read_; wrote = wrote; rest = was.input.rest; left = was.out })) → dialled_by moves ≡ ports_opened did.events → ClientFollowsTrace left_of coming0 coming trace was.input.rest None was past
    → IsGarbled was new → RunInvariant left_of job moves read_ wrote new.out coming0 coming given None new
stage_garbled left_of job moves read_ wrote coming0 coming given was new past trace running target serves given_is pages_is did asked f g =
    let at = fits_at past was running serves in
    record {
      target = ap (λ (v : ClientState). v.target) g.ends ∙ target;
      history = past;
      serves = subst (λ (v : ClientState). ClientRepresents past v) (sym g.ends) (record { stands = serves.stands; fits = may_end was.target.task was.progress past at.0 at.1 });
      given_is = given_is;
      trace = trace;
      pages_is = pages_is;
      rest = was.input.rest;
      did = did_leave job trace read_ wrote was.input.rest was.out new.out (sym (ap (λ (v : ClientState). v.out) g.ends)) did;
      asked = inl asked;
      stands = inr (falls left_of moves coming0 coming trace was.input.rest was.input.rest None was new past f running
          (ByGarble g.procedure (ap (λ (t : ProtocolState). awaited_procedure t.progress) (sym f.protocol_is) ∙ g.awaited_is) g.no_start (ap (λ (v : ClientState). v.outcome) g.ends)) (ap (λ (v : ClientState). is_running v.outcome) g.ends));
    }

-- memory ran out
pub stage_starved : {R : Type 0} (left_of : R → Option (List ℕ)) (job : Job) (moves : List JobMove) (read_ wrote : List ℕ) (coming0 coming : Option (List (List ℕ))) (given : GivenFiles) (rest next : List ℕ) (stream after_ : Option R) (was new : ClientState) (past : JoinHistory) (trace : JobTrace)
    → is_running was.outcome ≡ true → was.target ≡ target_of job → past.given ≡ given.bytes → trace.pages ≡ given.pages → (did : BytesMatchTrace job trace (record { read_ = read_; wrote = wrote; rest = next; left = was.out })) → dialled_by moves ≡ ports_opened did.events → ClientFollowsTrace left_of coming0 coming trace rest stream was past
    → EndsOutOfMemory was past new → RunInvariant left_of job moves read_ wrote new.out coming0 coming given after_ new
stage_starved left_of job moves read_ wrote coming0 coming given rest next stream after_ was new past trace running target given_is pages_is did asked f s = record {
  target = s.target ∙ target;
  history = s.history_then;
  serves = s.serves;
  given_is = s.given ∙ given_is;
  trace = trace;
  pages_is = pages_is;
  rest = next;
  did = did_leave job trace read_ wrote next was.out new.out (sym s.out) did;
  asked = inl asked;
  stands = inr (falls left_of moves coming0 coming trace rest next stream was new past f running (ByMemory s.outcome) (ap is_running s.outcome));
}

heard_piece : {R : Type 0} (left_of : R → Option (List ℕ)) (job : Job) (moves : List JobMove) (read_ wrote : List ℕ) (coming0 coming : Option (List (List ℕ))) (given : GivenFiles) (old new : ClientState) (piece : List ℕ) → is_running old.outcome ≡ true
    → (s : RunInvariant left_of job moves read_ wrote old.out coming0 coming given None old) → ClientFollowsTrace left_of coming0 coming s.trace s.rest None old s.history → came_in s.history.under ≡ []
    → Heeds old s.history piece new → RunInvariant left_of job moves (read_ ++ piece) wrote new.out coming0 coming given None new
heard_piece left_of job moves read_ wrote coming0 coming given old new piece running s f clean (Whole h wants) = record {
  target = h.target ∙ s.target;
  history = h.history_then;
  serves = h.serves;
  given_is = given_heard old new s.history piece given.bytes clean s.given_is h;
  trace = heard_on s.trace h.text h.sent (protocol_of new h.history_then);
  pages_is = s.pages_is;
  rest = new.input.rest;
  did = (did_hear job s.trace read_ wrote s.rest old new s.history piece s.target f.protocol_is f.rest_is running s.did h).0;
  asked = inl (asked_now (dialled_by moves) s.did.events s.trace.protocol old.outcome running s.asked ∙ sym (did_hear job s.trace read_ wrote s.rest old new s.history piece s.target f.protocol_is f.rest_is running s.did h).1);
  stands = inl (follow_heard left_of coming0 coming s.trace s.rest old new s.history piece clean f h);
}
heard_piece left_of job moves read_ wrote coming0 coming given old new piece running s f clean (Garbled was h runs g) =
    stage_garbled left_of job moves (read_ ++ piece) wrote coming0 coming given was new h.history_then (heard_on s.trace h.text h.sent (protocol_of was h.history_then)) runs (h.target ∙ s.target) h.serves
    (given_heard old was s.history piece given.bytes clean s.given_is h) s.pages_is (did_hear job s.trace read_ wrote s.rest old was s.history piece s.target f.protocol_is f.rest_is running s.did h).0
    (asked_now (dialled_by moves) s.did.events s.trace.protocol old.outcome running s.asked ∙ sym (did_hear job s.trace read_ wrote s.rest old was s.history piece s.target f.protocol_is f.rest_is running s.did h).1)
    (follow_heard left_of coming0 coming s.trace s.rest old was s.history piece clean f h) g
heard_piece left_of job moves read_ wrote coming0 coming given old new piece running s f clean (OutOfMemoryBehind was h runs choked) =
    stage_starved left_of job moves (read_ ++ piece) wrote coming0 coming given was.input.rest was.input.rest None None was new h.history_then (heard_on s.trace h.text h.sent (protocol_of was h.history_then)) runs (h.target ∙ s.target)
    (given_heard old was s.history piece given.bytes clean s.given_is h) s.pages_is (did_hear job s.trace read_ wrote s.rest old was s.history piece s.target f.protocol_is f.rest_is running s.did h).0
    (asked_now (dialled_by moves) s.did.events s.trace.protocol old.outcome running s.asked ∙ sym (did_hear job s.trace read_ wrote s.rest old was s.history piece s.target f.protocol_is f.rest_is running s.did h).1)
    (follow_heard left_of coming0 coming s.trace s.rest old was s.history piece clean f h) choked.starved
heard_piece left_of job moves read_ wrote coming0 coming given old new piece running s f clean (OutOfMemoryAtOnce choked) =
    stage_starved left_of job moves (read_ ++ piece) wrote coming0 coming given s.rest (s.rest ++ piece) None None old new s.history s.trace running s.target s.given_is s.pages_is (did_read job s.trace read_ wrote s.rest old.out piece s.did) (asked_now (dialled_by moves) s.did.events s.trace.protocol old.outcome running s.asked) f choked.starved

pub stage_heard : {R : Type 0} (left_of : R → Option (List ℕ)) (job : Job) (moves : List JobMove) (read_ wrote : List ℕ) (coming0 coming : Option (List (List ℕ))) (given : GivenFiles) (old new : ClientState) (piece : List ℕ)
    → is_running old.outcome ≡ true → is_receiving old.outcome old.progress ≡ false
    → (s : RunInvariant left_of job moves read_ wrote old.out coming0 coming given None old) → Heeds old s.history piece new → RunInvariant left_of job moves (read_ ++ piece) wrote new.out coming0 coming given None new
stage_heard left_of job moves read_ wrote coming0 coming given old new piece running shut s heeds =
    let f = following left_of moves coming0 coming s.trace s.rest None old s.history running s.stands in
    let clean = clean_at old s.history running shut s.serves f.linked.empty in
    heard_piece left_of job moves read_ wrote coming0 coming given old new piece running s f clean heeds

-- ---- a journal that goes on

ends_on : (moves more : List JobMove) (protocol : ProtocolState) (rest : List ℕ) (outcome : Outcome) → (HasLoss moves → HasLoss more) → EndsBy moves protocol rest outcome → EndsBy more protocol rest outcome
ends_on moves more protocol rest outcome keeps (ByLoss loss e) = ByLoss (keeps loss) e
ends_on moves more protocol rest outcome keeps (ByMemory e) = ByMemory e
ends_on moves more protocol rest outcome keeps (ByGarble procedure awaits no_start e) = ByGarble procedure awaits no_start e
ends_on moves more protocol rest outcome keeps (ByLength frame bytes under long e) = ByLength frame bytes under long e

stands_on : {R : Type 0} (left_of : R → Option (List ℕ)) (moves more : List JobMove) (coming0 coming : Option (List (List ℕ))) (trace : JobTrace) (rest : List ℕ) (stream : Option R) (c : ClientState) (past : JoinHistory) → (HasLoss moves → HasLoss more)
    → ClientFollowsTrace left_of coming0 coming trace rest stream c past ⊎ Falls moves coming0 coming trace rest c → ClientFollowsTrace left_of coming0 coming trace rest stream c past ⊎ Falls more coming0 coming trace rest c
stands_on left_of moves more coming0 coming trace rest stream c past keeps (inl f) = inl f
stands_on left_of moves more coming0 coming trace rest stream c past keeps (inr f) = inr (record {
  cause = ends_on moves more trace.protocol rest c.outcome keeps f.cause;
  is_over = f.is_over;
  was_running = f.was_running;
  wholes = f.wholes;
  unread = f.unread;
  begin = f.begin;
  brought = f.brought;
  few = f.few;
})

-- by a move that asks for no data connection
pub stage_on : {R : Type 0} (left_of : R → Option (List ℕ)) (job : Job) (moves more : List JobMove) (read_ wrote left : List ℕ) (coming0 coming : Option (List (List ℕ))) (given : GivenFiles) (stream : Option R) (c : ClientState)
    → dialled_by more ≡ dialled_by moves → (HasLoss moves → HasLoss more) → (s : RunInvariant left_of job moves read_ wrote left coming0 coming given stream c)
    → (t : RunInvariant left_of job more read_ wrote left coming0 coming given stream c) × (t.history ≡ s.history)
stage_on left_of job moves more read_ wrote left coming0 coming given stream c asks keeps s = (
  record {
    target = s.target;
    history = s.history;
    serves = s.serves;
    given_is = s.given_is;
    trace = s.trace;
    pages_is = s.pages_is;
    rest = s.rest;
    did = s.did;
    asked = subst (λ (l : List ℕ). AsksPorts l s.did.events s.trace.protocol c.outcome) (sym asks) s.asked;
    stands = stands_on left_of moves more coming0 coming s.trace s.rest stream c s.history keeps s.stands;
  },
  refl,
)

-- A turn of a job's loop: how far the job is, move by move.
use Rattle.std.proofs.Common.{◌≡◌, ◌∙◌, ◌⊎◌, ℕ, Bool, true, false, Option, Some, None, List, [], ◌∷◌, ◌++◌, refl, sym, ap, subst, inl, inr}
use Rattle.std.specs.Prelude.{if◌then◌else◌, ◌&&◌}
use Rattle.std.specs.Io.KnownBytes.{Consumes}
use Rattle.std.proofs.lemmas.List.{append-nil}
use Rattle.sane_fixed.specs.declared.status.Status.TheVariants as statuses
use Rattle.frame_join.specs.FrameHistory.{JoinHistory, empty_history}
use Rattle.scan_job.specs.declared.job.Job.{Job}
use Rattle.scan_job.specs.declared.outcome.Why.TheVariants as whys
use Rattle.scan_job.specs.declared.outcome.Outcome.{Outcome}
use Rattle.client_replies.specs.declared.progress.JobTarget.{JobTarget}
use Rattle.client_replies.specs.declared.progress.Progress.{Progress}
use Rattle.client_replies.specs.declared.progress.Link.{Link}
use Rattle.client_replies.specs.declared.progress.Link.TheVariants as links
use Rattle.client_replies.specs.ProtocolStates.{is_running, is_receiving, is_imaging, is_lost_by}
use Rattle.net_client.specs.ClientStates.{ClientState, after_client_end, IsNewClient}
use Rattle.net_jobs.specs.declared.calls.Loss.TheVariants.{DialFailed}
use Rattle.net_jobs.specs.JobJournal.{StandsBehind, AreGives, JobMove, Writes, Fails, Hears, Resumes, Prepares, Dials, Takes, Gives, Loses, given_by, HearsPiece, TakesPiece, LosesLink, after_loss, dialled_by, heard_by, bytes_written_by, HasLoss}
use Rattle.net_jobs.specs.JobSteps.{IsDelivery}
use Rattle.net_jobs.specs.Inside.{AreOfTurn, AreQuiet, Quiet, Delivered, GivesAll, CallNotes, NotesMatch, no_notes, LoopState, Moves, MovesAll}
use Rattle.net_jobs.specs.JobTraces.{JobTrace}
use Rattle.net_jobs.specs.Links.{LinkViews}
use Rattle.net_jobs.specs.Outputs.{files_text}
use Rattle.net_jobs.proofs.InvariantRecords.{LinkMatchesTrace, ClientFollowsTrace, Falls, GivenFiles, no_files_given, RunInvariant, FullRunInvariant}
use Rattle.net_jobs.proofs.Giving.{leads_on, calls_on, heard_on_gives, written_on_gives, dialled_on_gives, loss_on_gives, failed_on_gives, lost_on_gives, given_on_gives}
use Rattle.net_jobs.proofs.Steps.{AllGiven, AreStepsSoFar, LastDelivers, NotDone, StepsSoFar, ToBeGiven, all_given, quiet_not_done, running_not_done, steps_begin, steps_quiet}
use Rattle.net_jobs.proofs.ToldPorts.{behind_on, delivery_behind, told_begun, told_gives, told_on}
use Rattle.net_jobs.proofs.Tracing.{did_write}
use Rattle.net_jobs.proofs.KeepingInvariant.{following, stage_begun, stage_heard, stage_on}
use Rattle.net_jobs.proofs.DataLoop.{stage_lost, stage_missed, stage_opened, stage_received, stage_let_go, receiving_runs}

-- ---- no data connection is open while none is received

pub none_open : {R : Type 0} (left_of : R → Option (List ℕ)) (coming0 coming : Option (List (List ℕ))) (streams : List (List ℕ)) (stream : Option R) (c : ClientState) (past : JoinHistory) → is_receiving c.outcome c.progress ≡ false
    → LinkMatchesTrace left_of coming0 coming streams stream c past → stream ≡ None
none_open left_of coming0 coming streams None c past e l = refl
none_open left_of coming0 coming streams (Some conn) c past e l = absurd (let clash : true ≡ false = sym l.receives ∙ e in cc)

stage_none : {R : Type 0} (left_of : R → Option (List ℕ)) (job : Job) (moves : List JobMove) (read_ wrote left : List ℕ) (coming0 coming : Option (List (List ℕ))) (given : GivenFiles) (stream : Option R) (c : ClientState) → is_running c.outcome ≡ true
    → is_receiving c.outcome c.progress ≡ false → RunInvariant left_of job moves read_ wrote left coming0 coming given stream c → stream ≡ None
stage_none left_of job moves read_ wrote left coming0 coming given stream c running shut s =
    none_open left_of coming0 coming s.trace.streams stream c s.history shut (following left_of moves coming0 coming s.trace s.rest stream c s.history running s.stands).linked

out_linked : {R : Type 0} (left_of : R → Option (List ℕ)) (coming0 coming : Option (List (List ℕ))) (streams : List (List ℕ)) (stream : Option R) (c : ClientState) (out : List ℕ) (past : JoinHistory)
    → LinkMatchesTrace left_of coming0 coming streams stream c past → LinkMatchesTrace left_of coming0 coming streams stream (record c { out = out }) past
out_linked left_of coming0 coming streams None c out past l = record { wholes = l.wholes; begin = l.begin; brought = l.brought; empty = l.empty }
out_linked left_of coming0 coming streams (Some conn) c out past l = record {
  wholes = l.wholes;
  begin = l.begin;
  whole = l.whole;
  brought = l.brought;
  bytes = l.bytes;
  reads = l.reads;
  frame = l.frame;
  under = l.under;
  carries = l.carries;
  receives = l.receives;
}

out_only : {R : Type 0} (left_of : R → Option (List ℕ)) (moves : List JobMove) (coming0 coming : Option (List (List ℕ))) (trace : JobTrace) (rest : List ℕ) (stream : Option R) (c : ClientState) (out : List ℕ) (past : JoinHistory)
    → ClientFollowsTrace left_of coming0 coming trace rest stream c past ⊎ Falls moves coming0 coming trace rest c → ClientFollowsTrace left_of coming0 coming trace rest stream (record c { out = out }) past ⊎ Falls moves coming0 coming trace rest (record c { out = out })
out_only left_of moves coming0 coming trace rest stream c out past (inl f) = inl (record { protocol_is = f.protocol_is; rest_is = f.rest_is; linked = out_linked left_of coming0 coming trace.streams stream c out past f.linked })
out_only left_of moves coming0 coming trace rest stream c out past (inr f) = inr (record {
  cause = f.cause;
  is_over = f.is_over;
  was_running = f.was_running;
  wholes = f.wholes;
  unread = f.unread;
  begin = f.begin;
  brought = f.brought;
  few = f.few;
})

-- bytes that went out, and those that are left
wrote_from : {R : Type 0} (left_of : R → Option (List ℕ)) (job : Job) (moves : List JobMove) (read_ wrote left piece after_ : List ℕ) (coming0 coming : Option (List (List ℕ))) (given : GivenFiles) (stream : Option R) (c : ClientState) (out : List ℕ) → left ≡ piece ++ after_
    → (s : RunInvariant left_of job moves read_ wrote left coming0 coming given stream c) → (t : RunInvariant left_of job moves read_ (wrote ++ piece) after_ coming0 coming given stream (record c { out = out })) × (t.history ≡ s.history)
wrote_from left_of job moves read_ wrote left piece after_ coming0 coming given stream c out e s = (
  record {
    target = s.target;
    history = s.history;
    serves = record { stands = s.serves.stands; fits = s.serves.fits };
    given_is = s.given_is;
    trace = s.trace;
    pages_is = s.pages_is;
    rest = s.rest;
    did = did_write job s.trace read_ wrote s.rest left piece after_ e s.did;
    asked = s.asked;
    stands = out_only left_of moves coming0 coming s.trace s.rest stream c out s.history s.stands;
  },
  refl,
)

pub stage_wrote : {R : Type 0} (left_of : R → Option (List ℕ)) (job : Job) (moves : List JobMove) (read_ wrote left piece after_ : List ℕ) (coming0 coming : Option (List (List ℕ))) (given : GivenFiles) (stream : Option R) (c new : ClientState) → left ≡ piece ++ after_
    → new ≡ record c { out = new.out } → (s : RunInvariant left_of job moves read_ wrote left coming0 coming given stream c) → (t : RunInvariant left_of job moves read_ (wrote ++ piece) after_ coming0 coming given stream new) × (t.history ≡ s.history)
stage_wrote left_of job moves read_ wrote left piece after_ coming0 coming given stream c new e new_is s =
    subst (λ (v : ClientState). (t : RunInvariant left_of job moves read_ (wrote ++ piece) after_ coming0 coming given stream v) × (t.history ≡ s.history)) (sym new_is)
    (wrote_from left_of job moves read_ wrote left piece after_ coming0 coming given stream c new.out e s)

-- ---- the control connection

pub going_begun : {C R : Type 0} (views : LinkViews C) (left_of : R → Option (List ℕ)) (job : Job) (control : C) (coming : Option (List (List ℕ))) (c : ClientState) → IsNewClient job c
    → (g : FullRunInvariant views left_of job control coming no_files_given no_notes control coming None c) × (g.stage.history ≡ empty_history) × StepsSoFar g.fresh g.moves c no_files_given
going_begun views left_of job control coming c f =
    let s = stage_begun left_of job coming c f in
    (record { moves = []; left = c.out; calls = refl; stage = s.0; left_is = λ e. refl; notes_are = record { loss = refl; write_failed = refl }; fresh = c; is_fresh = f; leads = refl; told = told_begun c; gave = refl }, s.1, steps_begin c)

-- a piece is heard while no data connection is open
stage_hears : {R : Type 0} (left_of : R → Option (List ℕ)) (job : Job) (moves : List JobMove) (read_ wrote : List ℕ) (coming0 coming : Option (List (List ℕ))) (given : GivenFiles) (stream : Option R) (old new : ClientState) (piece : List ℕ)
    → HearsPiece old piece new → RunInvariant left_of job moves read_ wrote old.out coming0 coming given stream old → RunInvariant left_of job moves (read_ ++ piece) wrote new.out coming0 coming given stream new
stage_hears {R} left_of job moves read_ wrote coming0 coming given stream old new piece h s =
    let none = stage_none left_of job moves read_ wrote old.out coming0 coming given stream old h.running h.quiet s in
    let from = subst (λ (o : Option R). RunInvariant left_of job moves read_ wrote old.out coming0 coming given o old) none s in
    subst (λ (o : Option R). RunInvariant left_of job moves (read_ ++ piece) wrote new.out coming0 coming given o new) (sym none)
    (stage_heard left_of job moves read_ wrote coming0 coming given old new piece h.running h.quiet from (h.heeds from.history from.serves))

-- the control connection is lost, if the job runs
lost_if : {R : Type 0} (left_of : R → Option (List ℕ)) (job : Job) (moves more : List JobMove) (read_ wrote left : List ℕ) (coming0 coming : Option (List (List ℕ))) (given : GivenFiles) (stream : Option R) (old new : ClientState) (runs : Bool) → is_running old.outcome ≡ runs
    → new ≡ (if runs then after_client_end statuses.IoError whys.Lost old else old) → HasLoss more → dialled_by more ≡ dialled_by moves
    → RunInvariant left_of job moves read_ wrote left coming0 coming given stream old → RunInvariant left_of job more read_ wrote left coming0 coming given stream new
lost_if left_of job moves more read_ wrote left coming0 coming given stream old new true runs lost loss asks s = (stage_lost left_of job moves more read_ wrote left coming0 coming given stream stream old new runs lost loss asks s).0
lost_if left_of job moves more read_ wrote left coming0 coming given stream old new false runs same loss asks s =
    subst (λ (v : ClientState). RunInvariant left_of job more read_ wrote left coming0 coming given stream v) (sym same) (stage_on left_of job moves more read_ wrote left coming0 coming given stream old asks (λ l. loss) s).0

out_of_loss : (runs : Bool) (c : ClientState) → (if runs then after_client_end statuses.IoError whys.Lost c else c).out ≡ c.out
out_of_loss true c = refl
out_of_loss false c = refl

pub out_lost : (link : Link) (old new : ClientState) → new ≡ after_loss link old → new.out ≡ old.out
out_lost link old new e = ap (λ (v : ClientState). v.out) e ∙ out_of_loss (is_lost_by link old.outcome old.progress) old

-- ---- one move

kept_stream : {R : Type 0} (left_of : R → Option (List ℕ)) (job : Job) (moves : List JobMove) (read_ wrote : List ℕ) (coming0 coming : Option (List (List ℕ))) (given : GivenFiles) (before behind : R) (old new : ClientState) (piece : List ℕ) (still : Bool)
    → is_receiving new.outcome new.progress ≡ still → TakesPiece old piece new → Consumes (left_of before) (left_of behind) piece
    → RunInvariant left_of job moves read_ wrote old.out coming0 coming given (Some before) old → RunInvariant left_of job moves read_ wrote new.out coming0 coming given (if still then Some behind else None) new
kept_stream left_of job moves read_ wrote coming0 coming given before behind old new piece true still t consumed s =
    stage_received left_of job moves read_ wrote coming0 coming given before behind old new piece (receiving_runs old.outcome old.progress t.receiving) consumed still s (t.receives s.history s.serves)
kept_stream left_of job moves read_ wrote coming0 coming given before behind old new piece false still t consumed s =
    stage_let_go left_of job moves read_ wrote coming0 coming given before behind old new piece t.receiving consumed still s (t.receives s.history s.serves)

and_left : (a b : Bool) → (a && b) ≡ true → a ≡ true
and_left true b e = refl
and_left false b e = e

lost_runs : (link : Link) (outcome : Outcome) (progress : Progress) → is_lost_by link outcome progress ≡ true → is_running outcome ≡ true
lost_runs links.Control outcome progress e = e
lost_runs links.Image outcome progress e = and_left (is_running outcome) (is_imaging progress) e

-- a connection is lost while the job runs
stage_loses : {R : Type 0} (left_of : R → Option (List ℕ)) (job : Job) (moves more : List JobMove) (read_ wrote : List ℕ) (coming0 coming : Option (List (List ℕ))) (given : GivenFiles) (stream after_ : Option R) (old new : ClientState) (link : Link)
    → LosesLink old link new → HasLoss more → dialled_by more ≡ dialled_by moves
    → RunInvariant left_of job moves read_ wrote old.out coming0 coming given stream old → RunInvariant left_of job more read_ wrote new.out coming0 coming given after_ new
stage_loses left_of job moves more read_ wrote coming0 coming given stream after_ old new link l loss asks s =
    subst (λ (o : List ℕ). RunInvariant left_of job more read_ wrote o coming0 coming given after_ new) (sym (ap (λ (v : ClientState). v.out) l.new_is))
    (stage_lost left_of job moves more read_ wrote old.out coming0 coming given stream after_ old new (lost_runs link old.outcome old.progress l.lost) l.new_is loss asks s).0

-- the data connections are as they were
relinked : {R : Type 0} (left_of : R → Option (List ℕ)) (job : Job) (moves : List JobMove) (read_ wrote left : List ℕ) (coming0 was now : Option (List (List ℕ))) (given : GivenFiles) (before behind : Option R) (c : ClientState) → now ≡ was → behind ≡ before
    → RunInvariant left_of job moves read_ wrote left coming0 was given before c → RunInvariant left_of job moves read_ wrote left coming0 now given behind c
relinked {R} left_of job moves read_ wrote left coming0 was now given before behind c same kept s =
    subst (λ (o : Option R). RunInvariant left_of job moves read_ wrote left coming0 now given o c) (sym kept) (subst (λ (o : Option (List (List ℕ))). RunInvariant left_of job moves read_ wrote left coming0 o given before c) (sym same) s)

-- what is left to go out is what the client has
here : {L R : Type 0} (views : LinkViews L) (left_of : R → Option (List ℕ)) (job : Job) (first : L) (coming0 : Option (List (List ℕ))) (given : GivenFiles) (was : LoopState L R) → was.notes.write_failed ≡ false
    → (g : FullRunInvariant views left_of job first coming0 given was.notes was.links was.coming was.stream was.client) → RunInvariant left_of job g.moves (heard_by g.moves) (bytes_written_by g.moves) was.client.out coming0 was.coming given was.stream was.client
here views left_of job first coming0 given was up g = subst (λ (l : List ℕ). RunInvariant left_of job g.moves (heard_by g.moves) (bytes_written_by g.moves) l coming0 was.coming given was.stream was.client) (g.left_is up) g.stage

noted : (moves : List JobMove) (was now : CallNotes) → now ≡ was → NotesMatch moves was → NotesMatch moves now
noted moves was now e n = subst (λ (x : CallNotes). NotesMatch moves x) (sym e) n

pub going_moved : {L R : Type 0} (views : LinkViews L) (left_of : R → Option (List ℕ)) (job : Job) (first : L) (coming0 : Option (List (List ℕ))) (given : GivenFiles) (was now : LoopState L R) (move : JobMove) → Moves views left_of was move now
    → (g : FullRunInvariant views left_of job first coming0 given was.notes was.links was.coming was.stream was.client) → StandsBehind move g.moves → FullRunInvariant views left_of job first coming0 given now.notes now.links now.coming now.stream now.client
going_moved views left_of job first coming0 given was now (Writes bytes) m g b =
    let moves : List JobMove = g.moves in
    let left : was.client.out ≡ bytes ++ [] = sym m.client.all ∙ sym (append-nil bytes) in
    let new_is : now.client ≡ record was.client { out = now.client.out } = m.client.new_is ∙ ap (λ (o : List ℕ). record was.client { out = o }) (sym (ap (λ (v : ClientState). v.out) m.client.new_is)) in
    let wrote = stage_wrote left_of job moves (heard_by moves) (bytes_written_by moves) was.client.out bytes [] coming0 was.coming given was.stream was.client now.client left new_is (here views left_of job first coming0 given was m.up g) in
    let on = stage_on left_of job moves (Writes bytes ∷ moves) (heard_by moves) (bytes_written_by moves ++ bytes) [] coming0 was.coming given was.stream now.client refl (λ l. l) wrote.0 in
    record {
      moves = Writes bytes ∷ moves;
      left = [];
      calls = (was.links, g.calls, m.links);
      stage = relinked left_of job (Writes bytes ∷ moves) (heard_by moves) (bytes_written_by moves ++ bytes) [] coming0 was.coming now.coming given was.stream now.stream now.client m.data_is.0 m.data_is.1 on.0;
      left_is = λ e. sym (ap (λ (v : ClientState). v.out) m.client.new_is);
      notes_are = noted (Writes bytes ∷ moves) was.notes now.notes m.notes (record { loss = g.notes_are.loss; write_failed = g.notes_are.write_failed });
      fresh = g.fresh;
      is_fresh = g.is_fresh;
      leads = (was.client, g.leads, m.client);
      told = told_on g.stage.history was.client (Writes bytes) now.client g.moves g.stage.serves m.client b g.told;
      gave = g.gave;
    }
going_moved views left_of job first coming0 given was now (Fails bytes) m g b =
    let moves : List JobMove = g.moves in
    let short : ClientState = record was.client { out = now.client.out } in
    let wrote = stage_wrote left_of job moves (heard_by moves) (bytes_written_by moves) was.client.out bytes m.client.rest coming0 was.coming given was.stream was.client short m.client.front refl (here views left_of job first coming0 given was m.up g) in
    let lost = lost_if left_of job moves (Fails bytes ∷ moves) (heard_by moves) (bytes_written_by moves ++ bytes) m.client.rest coming0 was.coming given was.stream short now.client (is_running was.client.outcome) refl m.client.new_is tt refl wrote.0 in
    record {
      moves = Fails bytes ∷ moves;
      left = m.client.rest;
      calls = (was.links, g.calls, m.links);
      stage = relinked left_of job (Fails bytes ∷ moves) (heard_by moves) (bytes_written_by moves ++ bytes) m.client.rest coming0 was.coming now.coming given was.stream now.stream now.client m.data_is.0 m.data_is.1 lost;
      left_is = λ e. absurd (let clash : true ≡ false = sym (ap (λ (n : CallNotes). n.write_failed) m.notes) ∙ e in cc);
      notes_are = noted (Fails bytes ∷ moves) (record was.notes { write_failed = true }) now.notes m.notes (record { loss = g.notes_are.loss; write_failed = refl });
      fresh = g.fresh;
      is_fresh = g.is_fresh;
      leads = (was.client, g.leads, m.client);
      told = told_on g.stage.history was.client (Fails bytes) now.client g.moves g.stage.serves m.client b g.told;
      gave = g.gave;
    }
going_moved views left_of job first coming0 given was now (Hears piece) m g b =
    let moves : List JobMove = g.moves in
    let heard = stage_hears left_of job moves (heard_by moves) (bytes_written_by moves) coming0 was.coming given was.stream was.client now.client piece m.client.0 (here views left_of job first coming0 given was m.up g) in
    let on = stage_on left_of job moves (Hears piece ∷ moves) (heard_by moves ++ piece) (bytes_written_by moves) now.client.out coming0 was.coming given was.stream now.client refl (λ l. l) heard in
    record {
      moves = Hears piece ∷ moves;
      left = now.client.out;
      calls = (was.links, g.calls, m.links);
      stage = relinked left_of job (Hears piece ∷ moves) (heard_by moves ++ piece) (bytes_written_by moves) now.client.out coming0 was.coming now.coming given was.stream now.stream now.client m.data_is.0 m.data_is.1 on.0;
      left_is = λ e. refl;
      notes_are = noted (Hears piece ∷ moves) was.notes now.notes m.notes (record { loss = g.notes_are.loss; write_failed = g.notes_are.write_failed });
      fresh = g.fresh;
      is_fresh = g.is_fresh;
      leads = (was.client, g.leads, m.client);
      told = told_on g.stage.history was.client (Hears piece) now.client g.moves g.stage.serves m.client b g.told;
      gave = g.gave;
    }
going_moved views left_of job first coming0 given was now Resumes m g b =
    let moves : List JobMove = g.moves in
    let heard = stage_hears left_of job moves (heard_by moves) (bytes_written_by moves) coming0 was.coming given was.stream was.client now.client [] m.client.0 (here views left_of job first coming0 given was m.up g) in
    let none = subst (λ (l : List ℕ). RunInvariant left_of job moves l (bytes_written_by moves) now.client.out coming0 was.coming given was.stream now.client) (append-nil (heard_by moves)) heard in
    let on = stage_on left_of job moves (Resumes ∷ moves) (heard_by moves) (bytes_written_by moves) now.client.out coming0 was.coming given was.stream now.client refl (λ l. l) none in
    record {
      moves = Resumes ∷ moves;
      left = now.client.out;
      calls = (was.links, g.calls, m.links);
      stage = relinked left_of job (Resumes ∷ moves) (heard_by moves) (bytes_written_by moves) now.client.out coming0 was.coming now.coming given was.stream now.stream now.client m.data_is.0 m.data_is.1 on.0;
      left_is = λ e. refl;
      notes_are = noted (Resumes ∷ moves) was.notes now.notes m.notes (record { loss = g.notes_are.loss; write_failed = g.notes_are.write_failed });
      fresh = g.fresh;
      is_fresh = g.is_fresh;
      leads = (was.client, g.leads, m.client);
      told = told_on g.stage.history was.client Resumes now.client g.moves g.stage.serves m.client b g.told;
      gave = g.gave;
    }
going_moved views left_of job first coming0 given was now (Prepares port) m g b =
    let moves : List JobMove = g.moves in
    let from = subst (λ (v : ClientState). RunInvariant left_of job moves (heard_by moves) (bytes_written_by moves) v.out coming0 was.coming given was.stream v) (sym m.client.same) (here views left_of job first coming0 given was m.up g) in
    let on = stage_on left_of job moves (Prepares port ∷ moves) (heard_by moves) (bytes_written_by moves) now.client.out coming0 was.coming given was.stream now.client refl (λ l. l) from in
    record {
      moves = Prepares port ∷ moves;
      left = now.client.out;
      calls = (was.links, g.calls, m.links);
      stage = relinked left_of job (Prepares port ∷ moves) (heard_by moves) (bytes_written_by moves) now.client.out coming0 was.coming now.coming given was.stream now.stream now.client m.data_is.0 m.data_is.1 on.0;
      left_is = λ e. refl;
      notes_are = noted (Prepares port ∷ moves) was.notes now.notes m.notes (record { loss = g.notes_are.loss; write_failed = g.notes_are.write_failed });
      fresh = g.fresh;
      is_fresh = g.is_fresh;
      leads = (was.client, g.leads, m.client);
      told = told_on g.stage.history was.client (Prepares port) now.client g.moves g.stage.serves m.client b g.told;
      gave = g.gave;
    }
going_moved {L} {R} views left_of job first coming0 given was now (Dials port true) m g b =
    let moves : List JobMove = g.moves in
    let opened = stage_opened left_of job moves (heard_by moves) (bytes_written_by moves) coming0 was.coming now.coming given was.stream m.data_is.0 was.client now.client port m.client.running m.client.wanted m.data_is.2 m.client.new_is m.client.serves
    (here views left_of job first coming0 given was m.up g) in
    record {
      moves = Dials port true ∷ moves;
      left = now.client.out;
      calls = (was.links, g.calls, m.links);
      stage = subst (λ (o : Option R). RunInvariant left_of job (Dials port true ∷ moves) (heard_by moves) (bytes_written_by moves) now.client.out coming0 now.coming given o now.client) (sym m.data_is.1) opened;
      left_is = λ e. refl;
      notes_are = noted (Dials port true ∷ moves) was.notes now.notes m.notes (record { loss = g.notes_are.loss; write_failed = g.notes_are.write_failed });
      fresh = g.fresh;
      is_fresh = g.is_fresh;
      leads = (was.client, g.leads, m.client);
      told = told_on g.stage.history was.client (Dials port true) now.client g.moves g.stage.serves m.client b g.told;
      gave = g.gave;
    }
going_moved views left_of job first coming0 given was now (Dials port false) m g b =
    let moves : List JobMove = g.moves in
    let missed = stage_missed left_of job moves (heard_by moves) (bytes_written_by moves) was.client.out coming0 was.coming given was.stream now.stream was.client now.client port m.client.running m.client.wanted m.client.new_is (here views left_of job first coming0 given was m.up g) in
    let left = subst (λ (l : List ℕ). RunInvariant left_of job (Dials port false ∷ moves) (heard_by moves) (bytes_written_by moves) l coming0 was.coming given now.stream now.client) (sym (out_lost links.Image was.client now.client m.client.new_is)) missed.0 in
    record {
      moves = Dials port false ∷ moves;
      left = now.client.out;
      calls = (was.links, g.calls, m.links);
      stage = relinked left_of job (Dials port false ∷ moves) (heard_by moves) (bytes_written_by moves) now.client.out coming0 was.coming now.coming given now.stream now.stream now.client m.data_is refl left;
      left_is = λ e. refl;
      notes_are = noted (Dials port false ∷ moves) (record was.notes { loss = Some DialFailed }) now.notes m.notes (record { loss = refl; write_failed = g.notes_are.write_failed });
      fresh = g.fresh;
      is_fresh = g.is_fresh;
      leads = (was.client, g.leads, m.client);
      told = told_on g.stage.history was.client (Dials port false) now.client g.moves g.stage.serves m.client b g.told;
      gave = g.gave;
    }
going_moved {L} {R} views left_of job first coming0 given was now (Takes piece) m g b =
    let moves : List JobMove = g.moves in
    let from = subst (λ (o : Option R). RunInvariant left_of job moves (heard_by moves) (bytes_written_by moves) was.client.out coming0 was.coming given o was.client) m.data_is.2 (here views left_of job first coming0 given was m.up g) in
    let took = kept_stream left_of job moves (heard_by moves) (bytes_written_by moves) coming0 was.coming given m.data_is.0 m.data_is.1 was.client now.client piece (is_receiving now.client.outcome now.client.progress) refl m.client.0 m.data_is.3 from in
    let on = stage_on left_of job moves (Takes piece ∷ moves) (heard_by moves) (bytes_written_by moves) now.client.out coming0 was.coming given _ now.client refl (λ l. l) took in
    record {
      moves = Takes piece ∷ moves;
      left = now.client.out;
      calls = (was.links, g.calls, m.links);
      stage = relinked left_of job (Takes piece ∷ moves) (heard_by moves) (bytes_written_by moves) now.client.out coming0 was.coming now.coming given _ now.stream now.client m.data_is.4 m.data_is.5 on.0;
      left_is = λ e. refl;
      notes_are = noted (Takes piece ∷ moves) was.notes now.notes m.notes (record { loss = g.notes_are.loss; write_failed = g.notes_are.write_failed });
      fresh = g.fresh;
      is_fresh = g.is_fresh;
      leads = (was.client, g.leads, m.client);
      told = told_on g.stage.history was.client (Takes piece) now.client g.moves g.stage.serves m.client b g.told;
      gave = g.gave;
    }
going_moved views left_of job first coming0 given was now (Loses link reason) m g b =
    let moves : List JobMove = g.moves in
    let lost = stage_loses left_of job moves (Loses link reason ∷ moves) (heard_by moves) (bytes_written_by moves) coming0 was.coming given was.stream now.stream was.client now.client link m.client tt refl (here views left_of job first coming0 given was m.up g) in
    record {
      moves = Loses link reason ∷ moves;
      left = now.client.out;
      calls = (was.links, g.calls, m.links);
      stage = relinked left_of job (Loses link reason ∷ moves) (heard_by moves) (bytes_written_by moves) now.client.out coming0 was.coming now.coming given now.stream now.stream now.client m.data_is refl lost;
      left_is = λ e. refl;
      notes_are = noted (Loses link reason ∷ moves) (record was.notes { loss = Some reason }) now.notes m.notes (record { loss = refl; write_failed = g.notes_are.write_failed });
      fresh = g.fresh;
      is_fresh = g.is_fresh;
      leads = (was.client, g.leads, m.client);
      told = told_on g.stage.history was.client (Loses link reason) now.client g.moves g.stage.serves m.client b g.told;
      gave = g.gave;
    }
going_moved views left_of job first coming0 given was now (Gives bytes) m g b = absurd m.of_links

-- ---- bytes of the files

-- what was given changes nothing of what was heard, written and asked for
gave_stage : {R : Type 0} (left_of : R → Option (List ℕ)) (job : Job) (gives moves : List JobMove) (left : List ℕ) (coming0 coming : Option (List (List ℕ))) (given : GivenFiles) (stream : Option R) (c : ClientState) → AreGives gives
    → (s : RunInvariant left_of job moves (heard_by moves) (bytes_written_by moves) left coming0 coming given stream c)
    → (t : RunInvariant left_of job (gives ++ moves) (heard_by (gives ++ moves)) (bytes_written_by (gives ++ moves)) left coming0 coming given stream c) × (t.history ≡ s.history)
gave_stage left_of job gives moves left coming0 coming given stream c are s =
    let on = stage_on left_of job moves (gives ++ moves) (heard_by moves) (bytes_written_by moves) left coming0 coming given stream c (dialled_on_gives gives moves are) (lost_on_gives gives moves are) s in
    subst (λ (h : List ℕ). (t : RunInvariant left_of job (gives ++ moves) h (bytes_written_by (gives ++ moves)) left coming0 coming given stream c) × (t.history ≡ s.history)) (sym (heard_on_gives gives moves are))
    (subst (λ (w : List ℕ). (t : RunInvariant left_of job (gives ++ moves) (heard_by moves) w left coming0 coming given stream c) × (t.history ≡ s.history)) (sym (written_on_gives gives moves are)) on)

pub gave_on : {L R : Type 0} (views : LinkViews L) (left_of : R → Option (List ℕ)) (job : Job) (first : L) (coming0 : Option (List (List ℕ))) (given more : GivenFiles) (notes : CallNotes) (links : L) (coming : Option (List (List ℕ))) (stream : Option R) (c now : ClientState) (gives : List JobMove) (left : List ℕ)
    → GivesAll c gives now → (g : FullRunInvariant views left_of job first coming0 given notes links coming stream c) → (s : RunInvariant left_of job g.moves (heard_by g.moves) (bytes_written_by g.moves) left coming0 coming more stream now)
    → (notes.write_failed ≡ false → left ≡ now.out) → files_text more.pages ++ more.bytes ≡ (files_text given.pages ++ given.bytes) ++ given_by gives
    → (h : FullRunInvariant views left_of job first coming0 more notes links coming stream now) × (h.stage.history ≡ s.history) × (h.moves ≡ gives ++ g.moves) × (h.fresh ≡ g.fresh)
gave_on views left_of job first coming0 given more notes links coming stream c now gives left all g s left_is files =
    let t = gave_stage left_of job gives g.moves left coming0 coming more stream now all.are s in (
      record {
        moves = gives ++ g.moves;
        left = left;
        calls = calls_on views first links gives g.moves all.are g.calls;
        stage = t.0;
        left_is = left_is;
        notes_are = record { loss = loss_on_gives gives g.moves all.are ∙ g.notes_are.loss; write_failed = failed_on_gives gives g.moves all.are ∙ g.notes_are.write_failed };
        fresh = g.fresh;
        is_fresh = g.is_fresh;
        leads = leads_on g.fresh c now gives g.moves g.leads all.leads;
        told = told_gives c gives now g.moves all.are all.leads g.told;
        gave = files ∙ ap (λ (l : List ℕ). l ++ given_by gives) g.gave ∙ sym (given_on_gives gives g.moves all.are);
      },
      t.1,
      refl,
      refl,
    )

-- ---- the moves of a turn are steps

moved_adds : {L R : Type 0} (views : LinkViews L) (left_of : R → Option (List ℕ)) (job : Job) (first : L) (coming0 : Option (List (List ℕ))) (given : GivenFiles) (was now : LoopState L R) (move : JobMove) (m : Moves views left_of was move now)
    (g : FullRunInvariant views left_of job first coming0 given was.notes was.links was.coming was.stream was.client) (b : StandsBehind move g.moves)
    → ((going_moved views left_of job first coming0 given was now move m g b).moves ≡ move ∷ g.moves) × ((going_moved views left_of job first coming0 given was now move m g b).fresh ≡ g.fresh)
unfolding going_moved
moved_adds views left_of job first coming0 given was now (Writes bytes) m g b = (refl, refl)
moved_adds views left_of job first coming0 given was now (Fails bytes) m g b = (refl, refl)
moved_adds views left_of job first coming0 given was now (Hears piece) m g b = (refl, refl)
moved_adds views left_of job first coming0 given was now Resumes m g b = (refl, refl)
moved_adds views left_of job first coming0 given was now (Prepares port) m g b = (refl, refl)
moved_adds views left_of job first coming0 given was now (Dials port true) m g b = (refl, refl)
moved_adds views left_of job first coming0 given was now (Dials port false) m g b = (refl, refl)
moved_adds views left_of job first coming0 given was now (Takes piece) m g b = (refl, refl)
moved_adds views left_of job first coming0 given was now (Loses link reason) m g b = (refl, refl)
moved_adds views left_of job first coming0 given was now (Gives bytes) m g b = absurd m.of_links

-- how far a job is that made steps alone, and is not done
record StandsBySteps {L R : Type 0} (views : LinkViews L) (left_of : R → Option (List ℕ)) (job : Job) (first : L) (coming0 : Option (List (List ℕ))) (given : GivenFiles) (now : LoopState L R) : Type 0 where
  going : FullRunInvariant views left_of job first coming0 given now.notes now.links now.coming now.stream now.client
  steps : StepsSoFar going.fresh going.moves now.client given
  not_done : NotDone now.client.outcome

quiet_turn : {L R : Type 0} (views : LinkViews L) (left_of : R → Option (List ℕ)) (job : Job) (first : L) (coming0 : Option (List (List ℕ))) (given : GivenFiles) (was now : LoopState L R) (moves : List JobMove) → AreQuiet moves → MovesAll views left_of was moves now
    → (s : StandsBySteps views left_of job first coming0 given was) → (r : StandsBySteps views left_of job first coming0 given now) × (r.going.moves ≡ moves ++ s.going.moves)
quiet_turn {L} {R} views left_of job first coming0 given was now [] quiet same s = subst (λ (l : LoopState L R). (r : StandsBySteps views left_of job first coming0 given l) × (r.going.moves ≡ s.going.moves)) (sym same) (s, refl)
quiet_turn views left_of job first coming0 given was now (move ∷ moves) quiet m s =
    let r = quiet_turn views left_of job first coming0 given was m.0 moves quiet.2 m.1 s in
    let b = subst (λ (l : List JobMove). StandsBehind move l) (sym r.1) (behind_on move moves s.going.moves quiet.1) in
    let h = going_moved views left_of job first coming0 given m.0 now move m.2 r.0.going b in
    let adds = moved_adds views left_of job first coming0 given m.0 now move m.2 r.0.going b in
    let steps = steps_quiet r.0.going.fresh r.0.going.moves m.0.client move now.client given r.0.steps (r.0.going.notes_are.write_failed ∙ m.2.up) quiet.0 m.2.client in (
      record {
        going = h;
        steps = subst (λ (l : List JobMove). StepsSoFar h.fresh l now.client given) (sym adds.0) (subst (λ (c : ClientState). StepsSoFar c (move ∷ r.0.going.moves) now.client given) (sym adds.1) steps);
        not_done = quiet_not_done m.0.client move now.client quiet.0 m.2.client r.0.not_done;
      },
      adds.0 ∙ ap (λ (l : List JobMove). move ∷ l) r.1,
    )

-- how far a job is behind a turn: all that came brought its bytes of the file, or what came last has still to
pub record HasTurned {L R : Type 0} (views : LinkViews L) (left_of : R → Option (List ℕ)) (job : Job) (first : L) (coming0 : Option (List (List ℕ))) (given : GivenFiles) (came : Bool) (now : LoopState L R) : Type 0 where
  pub going : FullRunInvariant views left_of job first coming0 given now.notes now.links now.coming now.stream now.client
  pub steps : (StepsSoFar going.fresh going.moves now.client given × NotDone now.client.outcome × (came ≡ true → is_running now.client.outcome ≡ false)) ⊎ (LastDelivers job.task going.fresh going.moves now.client given × (came ≡ true))

delivers_turn : {L R : Type 0} (views : LinkViews L) (left_of : R → Option (List ℕ)) (job : Job) (first : L) (coming0 : Option (List (List ℕ))) (given : GivenFiles) (came : Bool) (was now : LoopState L R) (move : JobMove) (before : List JobMove) → IsDelivery move → AreQuiet before → came ≡ true → MovesAll views left_of was (move ∷ before) now
    → StandsBySteps views left_of job first coming0 given was → HasTurned views left_of job first coming0 given came now
delivers_turn views left_of job first coming0 given came was now move before delivers quiet is m s =
    let r = (quiet_turn views left_of job first coming0 given was m.0 before quiet m.1 s).0 in
    let b = delivery_behind move r.going.moves delivers in
    let h = going_moved views left_of job first coming0 given m.0 now move m.2 r.going b in
    let adds = moved_adds views left_of job first coming0 given m.0 now move m.2 r.going b in
    record {
      going = h;
      steps = inr (
        record {
          before = r.going.moves;
          move = move;
          mid = m.0.client;
          moves_are = adds.0;
          steps = subst (λ (c : ClientState). StepsSoFar c r.going.moves m.0.client given) (sym adds.1) r.steps;
          up = r.going.notes_are.write_failed ∙ m.2.up;
          delivers = delivers;
          leads = m.2.client;
          task_is = ap (λ (x : JobTarget). x.task) r.going.stage.target;
        },
        is,
      );
    }

pub turns_on : {L R : Type 0} (views : LinkViews L) (left_of : R → Option (List ℕ)) (job : Job) (first : L) (coming0 : Option (List (List ℕ))) (given : GivenFiles) (came : Bool) (was now : LoopState L R) (moves : List JobMove) → AreOfTurn came now.client moves → MovesAll views left_of was moves now
    → is_running was.client.outcome ≡ true → (g : FullRunInvariant views left_of job first coming0 given was.notes was.links was.coming was.stream was.client) → AreStepsSoFar job.task g.fresh g.moves was.client given → HasTurned views left_of job first coming0 given came now
turns_on views left_of job first coming0 given came was now moves turn m runs g s = by turn
  where
    from : StandsBySteps views left_of job first coming0 given was
    from = record { going = g; steps = all_given job.task g.fresh g.moves was.client given runs s; not_done = running_not_done was.client.outcome runs }

    by : AreOfTurn came now.client moves → HasTurned views left_of job first coming0 given came now
    by (Quiet quiet over) = let r = (quiet_turn views left_of job first coming0 given was now moves quiet m from).0 in record { going = r.going; steps = inl (r.steps, r.not_done, over) }
    by (Delivered move before e delivers quiet is) = delivers_turn views left_of job first coming0 given came was now move before delivers quiet is (subst (λ (l : List JobMove). MovesAll views left_of was l now) e m) from

-- ---- behind it

-- nothing goes out: nothing came, or the job is over
pub turned_still : {L R : Type 0} (views : LinkViews L) (left_of : R → Option (List ℕ)) (job : Job) (first : L) (coming0 : Option (List (List ℕ))) (given : GivenFiles) (came : Bool) (now : LoopState L R) (t : HasTurned views left_of job first coming0 given came now) → (came ≡ false) ⊎ (is_running now.client.outcome ≡ false)
    → AreStepsSoFar job.task t.going.fresh t.going.moves now.client given
turned_still views left_of job first coming0 given came now t none = by t.steps none
  where
    by : (StepsSoFar t.going.fresh t.going.moves now.client given × NotDone now.client.outcome × (came ≡ true → is_running now.client.outcome ≡ false)) ⊎ (LastDelivers job.task t.going.fresh t.going.moves now.client given × (came ≡ true)) → (came ≡ false) ⊎ (is_running now.client.outcome ≡ false)
        → AreStepsSoFar job.task t.going.fresh t.going.moves now.client given
    by (inl all) either = AllGiven all.0 all.1
    by (inr last) (inl off) = absurd (let clash : true ≡ false = sym last.1 ∙ off in cc)
    by (inr last) (inr over) = ToBeGiven last.0 over

pub turned_delivers : {L R : Type 0} (views : LinkViews L) (left_of : R → Option (List ℕ)) (job : Job) (first : L) (coming0 : Option (List (List ℕ))) (given : GivenFiles) (came : Bool) (now : LoopState L R) (t : HasTurned views left_of job first coming0 given came now) → came ≡ true → is_running now.client.outcome ≡ true
    → LastDelivers job.task t.going.fresh t.going.moves now.client given
turned_delivers views left_of job first coming0 given came now t is runs = by t.steps
  where
    by : (StepsSoFar t.going.fresh t.going.moves now.client given × NotDone now.client.outcome × (came ≡ true → is_running now.client.outcome ≡ false)) ⊎ (LastDelivers job.task t.going.fresh t.going.moves now.client given × (came ≡ true)) → LastDelivers job.task t.going.fresh t.going.moves now.client given
    by (inl all) = absurd (let clash : true ≡ false = sym runs ∙ all.2 is in cc)
    by (inr last) = last.0

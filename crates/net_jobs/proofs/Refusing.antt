-- That no job stops with GOOD, or for its output, whatever the daemon says.
use Rattle.std.proofs.Common.{◌≡◌, ℕ, List, [], ◌∷◌, sym, subst}
use Rattle.std.specs.Prelude.{◌≢◌}
use Rattle.sane_fixed.specs.declared.status.Status.{Status}
use Rattle.sane_fixed.specs.declared.status.Status.TheVariants as statuses
use Rattle.frame_join.specs.FrameHistory.{JoinHistory}
use Rattle.wire_message.specs.declared.message.Reply.{Reply}
use Rattle.scan_job.specs.Outcomes.{IfEnded}
use Rattle.scan_job.specs.declared.job.Job.{Job}
use Rattle.scan_job.specs.declared.job.Task.{Task}
use Rattle.scan_job.specs.declared.outcome.Outcome.{Outcome}
use Rattle.scan_job.specs.declared.outcome.Outcome.TheVariants.{Running, Done, Ended}
use Rattle.scan_job.specs.declared.outcome.Why.{Why}
use Rattle.scan_job.specs.declared.outcome.Why.TheVariants as whys
use Rattle.client_replies.specs.declared.progress.JobTarget.{JobTarget}
use Rattle.client_replies.specs.declared.progress.Progress.{Progress}
use Rattle.client_replies.specs.declared.progress.Notes.{Notes}
use Rattle.client_replies.specs.declared.progress.Next.{Next}
use Rattle.client_replies.specs.declared.progress.Next.TheVariants.{Wait, Finish, Stop}
use Rattle.client_replies.proofs.TurnRows.{IsFailing, TurnRow, Stops, Misfits, turn_row, EndRow, EndStops, EndMisfits, end_row}
use Rattle.client_replies.specs.ReplyTurns.{FrameEnd}
use Rattle.sane_fixed.specs.Status.{status_of}
use Rattle.client_replies.specs.ProtocolStates.{Answer, next_outcome, target_of, answer_to}
use Rattle.net_jobs.specs.JobTraces.{TraceEvent, Replied, Opened, Came, Finished, Gave, Turned, JobTrace, EventsLead, EventLeads, initial_trace, frame_end_at}

-- the job does not stop so with GOOD, nor for its output
abbrev Refuses : Next → Type 0
Refuses (Wait progress) = Unit {0}
Refuses (Finish devices) = Unit {0}
Refuses (Stop status why) = IsFailing status why

row_refuses : (task : Task) (password : List ℕ) (notes : Notes) (past : JoinHistory) (progress : Progress) (r : Reply) (a : Answer) → TurnRow task password notes past progress r a → Refuses a.turn.next
row_refuses task password notes past progress r a (Stops now status why f k) = f
row_refuses task password notes past progress r a (Misfits fault status why f e) = f
row_refuses task password notes past progress r a _ = tt

end_refuses : (task : Task) (file : ℕ) (past : JoinHistory) (ending : FrameEnd) → EndRow task file past ending → Refuses ending.next
end_refuses task file past ending (EndStops status why f) = f
end_refuses task file past ending (EndMisfits fault status why f e) = f
end_refuses task file past ending _ = tt

-- ---- event by event

abbrev Names : Outcome → Type 0
Names Running = Unit {0}
Names (Done reports) = Unit {0}
Names (Ended status why) = IsFailing status why

outcome_names : (task : Task) (notes : Notes) (next : Next) → Refuses next → Names (next_outcome task notes next)
outcome_names task notes (Wait progress) r = tt
outcome_names task notes (Finish devices) r = tt
outcome_names task notes (Stop status why) r = r

names_on : (target : JobTarget) (was now : JobTrace) (event : TraceEvent) → Names was.protocol.outcome → EventLeads target was event now → Names now.protocol.outcome
names_on target was now (Replied r) n l =
    subst (λ (x : JobTrace). Names x.protocol.outcome) (sym l.5) (outcome_names target.task (answer_to target was.protocol r).turn.notes (answer_to target was.protocol r).turn.next (row_refuses target.task target.password was.protocol.notes was.protocol.history was.protocol.progress r _ (turn_row was.protocol.progress target was.protocol.notes was.protocol.history r)))
names_on target was now (Opened port) n l = subst (λ (x : JobTrace). Names x.protocol.outcome) (sym l.2) n
names_on target was now (Came bytes) n l = subst (λ (x : JobTrace). Names x.protocol.outcome) (sym l.3) n
names_on target was now (Finished status) n l =
    subst (λ (x : JobTrace). Names x.protocol.outcome) (sym l.7) (outcome_names target.task was.protocol.notes (frame_end_at target was.protocol status).next (end_refuses target.task was.protocol.notes.file was.protocol.history _ (end_row target.task was.protocol.notes.file was.protocol.history (status_of status))))
names_on target was now (Gave bytes) n l = subst (λ (x : JobTrace). Names x.protocol.outcome) (sym l) n
names_on target was now (Turned bytes) n l = subst (λ (x : JobTrace). Names x.protocol.outcome) (sym l.4) n

names_by : (target : JobTarget) (first : JobTrace) (events : List TraceEvent) (trace : JobTrace) → Names first.protocol.outcome → EventsLead target first events trace → Names trace.protocol.outcome
names_by target first [] trace n r = subst (λ (x : JobTrace). Names x.protocol.outcome) (sym r) n
names_by target first (event ∷ before) trace n r = names_on target r.0 trace event (names_by target first before r.0 n r.1) r.2

not_good : (status : Status) (why : Why) → IsFailing status why → status ≢ statuses.Good
not_good statuses.Good why f e = absurd f
not_good status why f e = absurd (let clash : status ≡ statuses.Good = e in cc)

not_for_output : (status : Status) (why : Why) → IsFailing status why → why ≢ whys.Sink
not_for_output statuses.Good why f e = absurd f
not_for_output status whys.Sink f e = absurd f
not_for_output status why f e = absurd (let clash : why ≡ whys.Sink = e in cc)

named_ends : (outcome : Outcome) → Names outcome → IfEnded outcome (λ status why. (status ≢ statuses.Good) × (why ≢ whys.Sink))
named_ends Running n = tt
named_ends (Done reports) n = tt
named_ends (Ended status why) n = (not_good status why n, not_for_output status why n)

first_of : (outcome : Outcome) → IfEnded outcome (λ status why. (status ≢ statuses.Good) × (why ≢ whys.Sink)) → IfEnded outcome (λ status why. status ≢ statuses.Good)
first_of Running n = tt
first_of (Done reports) n = tt
first_of (Ended status why) n = n.0

second_of : (outcome : Outcome) → IfEnded outcome (λ status why. (status ≢ statuses.Good) × (why ≢ whys.Sink)) → IfEnded outcome (λ status why. why ≢ whys.Sink)
second_of Running n = tt
second_of (Done reports) n = tt
second_of (Ended status why) n = n.1

-- whatever the daemon says, a job that has ended otherwise has another status than GOOD
pub course_refuses : (job : Job) (events : List TraceEvent) (trace : JobTrace) → EventsLead (target_of job) (initial_trace job) events trace → IfEnded trace.protocol.outcome (λ status why. status ≢ statuses.Good)
course_refuses job events trace r = first_of trace.protocol.outcome (named_ends trace.protocol.outcome (names_by (target_of job) (initial_trace job) events trace tt r))

-- and it has not ended for its output
pub course_spares : (job : Job) (events : List TraceEvent) (trace : JobTrace) → EventsLead (target_of job) (initial_trace job) events trace → IfEnded trace.protocol.outcome (λ status why. why ≢ whys.Sink)
course_spares job events trace r = second_of trace.protocol.outcome (named_ends trace.protocol.outcome (names_by (target_of job) (initial_trace job) events trace tt r))

use Rattle.std.proofs.Common.{◌≡◌, ℕ, List, length}
use Rattle.frame_join.specs.FrameHistory.{JoinHistory}
use Rattle.scan_job.specs.Shelves.{ReturnedOutput}
use Rattle.net_jobs.specs.JobJournal.{JobMove, given_by}
use Rattle.net_jobs.specs.Inside.{GivesAll, IsFiling, KeepsNotes, SinkState}
use Rattle.net_jobs.proofs.Pages.{IsPulled}
use Rattle.net_jobs.proofs.running.drain.Given as goal

abbrev pub invariant-loop-i : goal.invariant-loop-i
invariant-loop-i g l = record {
  room : length l.room ≡ length l.initial.room;
  calls : KeepsNotes l.initial.tally l.tally;
  outcome : l.client.outcome ≡ l.initial.client.outcome;
  gave : (gives : List JobMove) × GivesAll l.initial.client gives l.client
      × ((before : SinkState) (outputs : List ReturnedOutput) (k : ℕ) (past : JoinHistory) → IsFiling past l.initial.client k before outputs (g.K.FileSink.state l.initial.to l.initial.sink)
      → IsPulled past l.initial.client k before outputs (given_by gives) l._i l.client (g.K.FileSink.state l.to l.sink));
}

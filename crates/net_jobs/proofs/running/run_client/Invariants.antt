use Rattle.std.proofs.Common.{◌≡◌, true, false, None, length}
use Rattle.scan_job.specs.declared.job.Job.{Job}
use Rattle.scan_job.specs.JobSize.{HasCount}
use Rattle.client_replies.specs.ProtocolStates.{is_running, scans}
use Rattle.net_client.specs.ClientStates.{IsNewClient}
use Rattle.net_jobs.specs.Links.{views_of}
use Rattle.net_jobs.specs.Inside.{HoldsNone, IfOpenLiesWithin, ahead_of, left_ahead, notes_of, turns_to_go}
use Rattle.net_jobs.proofs.Shelving.{Lying}
use Rattle.net_jobs.proofs.running.run_client.Given as goal

abbrev pub invariant-loop-client : goal.invariant-loop-client
invariant-loop-client g l = record {
  ahead : length l.ahead ≡ length l.initial.ahead;
  room : length l.room ≡ length l.initial.room;
  within : IfOpenLiesWithin l.stream l.ahead;
  held : is_running l.client.outcome ≡ true → l.tally.loss ≡ None;
  up : is_running l.client.outcome ≡ true → l.tally.write_failed ≡ false;
  lying : (job : Job) → IsNewClient job l.fn.client → HasCount job.task → l.fn.is_scanning ≡ scans job.task → HoldsNone (g.K.FileSink.state l.initial.to l.initial.sink)
      → Lying (views_of g.C.Read.remaining g.C.Write.contents g.D.Dial.ports g.D.Dial.prepared) (left_ahead g.D.Conn.Read.remaining) job (record { control = l.initial.control; dial = l.initial.dial }) (g.D.Dial.coming l.initial.dial) (g.K.FileSink.state l.initial.to l.initial.sink)
      (notes_of l.tally) (record { control = l.control; dial = l.dial }) (g.D.Dial.coming l.dial) (ahead_of l.stream l.ahead) l.client (g.K.FileSink.state l.to l.sink);
}

abbrev pub decreases-loop-client : goal.decreases-loop-client
decreases-loop-client g l = turns_to_go l.client.outcome l.tally.turns

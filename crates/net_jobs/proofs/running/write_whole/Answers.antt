use Rattle.std.proofs.Common.{rules}
use Rattle.byte_output.proofs.Bytes.{appends_more}
use Rattle.net_jobs.proofs.running.write_whole.Goals as goal

pub loop-at-preserved-in-Ok : goal.loop-at-preserved-in-Ok
loop-at-preserved-in-Ok g c = record {
  within = search rules;
  took = appends_more _ _ _ _ _ _ c.loop-at.invariant.took c.in-Ok.ensures.bytes;
  up = search rules;
  reads = search rules;
}

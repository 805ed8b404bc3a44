use Rattle.std.proofs.Common.{rules}
use Rattle.byte_output.proofs.Bytes.{appends_more}
use Rattle.byte_output.proofs.output.put.Goals as goal

pub loop-at-preserved-in-Ok : goal.loop-at-preserved-in-Ok
loop-at-preserved-in-Ok g c = record {
  bound = search rules;
  bytes = appends_more _ _ _ _ _ _ c.loop-at.invariant.bytes c.in-Ok.ensures.bytes;
  kept = search rules;
  again = search rules;
}

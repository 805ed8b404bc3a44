use Rattle.std.proofs.Common.{ap}
use Rattle.net_jobs.specs.RunPromises.{streams}
use Rattle.net_jobs.proofs.BatchEnds.{batch_ok, batch_err}
use Rattle.net_jobs.proofs.OutputEnds.{closed_output}
use Rattle.net_jobs.proofs.net_batch.run_batch_with.Goals as goal

pub returns-clause-done : goal.returns-clause-done
returns-clause-done g c = rw c.closed.ensures (batch_ok _ c.args.job _ _ _ _ _ c.run_to-done.result c.put_back-is_taken.result c.run_to-done.ensures.done c.put_back-is_taken.ensures.back)

pub returns-clause-ended : goal.returns-clause-ended
returns-clause-ended g c =
    rw c.closed.ensures (batch_err _ _ c.args.job _ _ _ _ _ _ _ _ c.run_to-done.result c.put_back-is_taken.result c.run_to-done.ensures.done c.run_to-done.ensures.ended (λ same. ap (λ (o : g.row.S.Denot). streams c.run_to-done.new.control c.run_to-done.new.dial o) (c.put_back-is_taken.ensures.none (ap (λ s. s.under) same)).1) c.put_back-is_taken.ensures.back)

pub returns-clause-output : goal.returns-clause-output
returns-clause-output g c =
    rw c.closed.ensures (closed_output c.run_to-done.result c.put_back-is_taken.result c.run_to-done.new.outputs.failed c.put_back-is_taken.new.outputs.failed c.run_to-done.ensures.output c.put_back-is_taken.ensures.failed c.put_back-is_taken.ensures.kept)

use Rattle.net_jobs.proofs.SingleRuns.{single_by, single_err, single_ok}
use Rattle.net_jobs.proofs.running.run_job_with.Goals as goal

pub returns-clause-done : goal.returns-clause-done
returns-clause-done g c = single_ok _ c.args.job _ _ c.run_to.result (single_by c.args.job.task c.is_batch.result c.is_batch.ensures c.if-is_batch.false) c.run_to.ensures.done

pub returns-clause-ended : goal.returns-clause-ended
returns-clause-ended g c = single_err _ _ c.args.job _ _ _ _ c.run_to.result (single_by c.args.job.task c.is_batch.result c.is_batch.ensures c.if-is_batch.false) c.run_to.ensures.ended

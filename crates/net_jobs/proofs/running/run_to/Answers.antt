use Rattle.net_jobs.proofs.Batching.{came_ok, came_err}
use Rattle.net_jobs.proofs.running.run_to.Goals as goal

pub returns-clause-done : goal.returns-clause-done
returns-clause-done g c = came_ok _ c.args.job _ _ _ c.run_client-done.result (c.run_client-done.ensures.came c.args.job c.in-Ok.ensures.fresh c.requires.count c.is_scanning-is_scanning.ensures c.requires.none)

pub returns-clause-ended : goal.returns-clause-ended
returns-clause-ended g c = came_err _ _ c.args.job _ _ _ c.run_client-done.result (c.run_client-done.ensures.came c.args.job c.in-Ok.ensures.fresh c.requires.count c.is_scanning-is_scanning.ensures c.requires.none)

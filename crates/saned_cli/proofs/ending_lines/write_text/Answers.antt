use Rattle.saned_cli.proofs.LineLaws.{told_by_put}
use Rattle.saned_cli.proofs.ending_lines.write_text.Goals as goal

pub returns : goal.returns
returns g c = told_by_put _ c.put.result _ _ _ c.put.ensures.whole c.put.ensures.front c.put.ensures.failed

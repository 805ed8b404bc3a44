use Rattle.scanimage_cli.proofs.PlansRefused.{asks_a_port}
use Rattle.scanimage_cli.proofs.laws.a_plan_asks_a_port.Goals as goal

pub returns : goal.returns
returns c = asks_a_port

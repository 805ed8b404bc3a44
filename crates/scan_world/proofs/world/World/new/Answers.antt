use Rattle.std.proofs.Common.{rules}
use Rattle.scan_world.proofs.Calls.{few_in, new_led, none_starved}
use Rattle.scan_world.proofs.world.World.new.Goals as goal

pub returns-in-Ok-clause-led : goal.returns-in-Ok-clause-led
returns-in-Ok-clause-led g c =
    new_led _ c.args.devices.items _ c.args.users c.args.seed c.args.jobs.items _ (search rules) c.in-Ok.ensures.accepted.0 c.in-Ok.ensures.accepted.1 c.as_slice.ensures.value c.ask_limits.ensures

pub returns-in-Ok-clause-budget : goal.returns-in-Ok-clause-budget
returns-in-Ok-clause-budget g c i job at = few_in c.args.jobs.items c.over.result.endpoints (search rules) i job at

pub returns-in-Ok-clause-fresh : goal.returns-in-Ok-clause-fresh
returns-in-Ok-clause-fresh g c i = none_starved c.args.jobs.items c.over.result.endpoints (search rules) i

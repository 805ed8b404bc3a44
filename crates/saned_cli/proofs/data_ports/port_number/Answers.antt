use Rattle.std.proofs.Common.{arith, inl, inr}
use Rattle.saned_cli.proofs.PortRanges.{other_port}
use Rattle.saned_cli.proofs.data_ports.port_number.Goals as goal

pub returns-in_default-clause-none : goal.returns-in_default-clause-none
returns-in_default-clause-none c = other_port c.args.text.now c.in-Some.n (omega arith) c.in-Some.ensures.some (inr (omega arith))

pub returns-in_default-2-clause-none : goal.returns-in_default-2-clause-none
returns-in_default-2-clause-none c = other_port c.args.text.now c.in-Some.n (omega arith) c.in-Some.ensures.some (inl (omega arith))

use Rattle.std.proofs.Common.{arith}
use Rattle.saned_cli.proofs.PortRanges.{if_none, no_split, no_first, no_last, not_ordered}
use Rattle.saned_cli.proofs.data_ports.port_range.Goals as goal

pub returns-in_err-first-clause-none : goal.returns-in_err-first-clause-none
returns-in_err-first-clause-none c = if_none c.from_residual.result (no_split c.args.text.now c.in_err-first.ensures.none)

pub returns-in_err-first-2-clause-none : goal.returns-in_err-first-2-clause-none
returns-in_err-first-2-clause-none c =
    if_none c.from_residual-in_err-first-2.result (no_first c.args.text.now c.in_ok-first.first.now c.in_ok-first.last.now c.in_ok-first.ensures.found c.in_err-first-2.ensures.none)

pub returns-in_err-last-clause-none : goal.returns-in_err-last-clause-none
returns-in_err-last-clause-none c =
    if_none c.from_residual-in_err-last.result (no_last c.args.text.now c.in_ok-first.first.now c.in_ok-first.last.now c.in_ok-first.ensures.found c.in_err-last.ensures.none)

pub returns-else-first-last-clause-none : goal.returns-else-first-last-clause-none
returns-else-first-last-clause-none c =
    not_ordered c.args.text.now c.in_ok-first.first.now c.in_ok-first.last.now c.in_ok-first-2.first c.in_ok-last.last c.in_ok-first.ensures.found c.in_ok-first-2.ensures.some.0 c.in_ok-last.ensures.some.0 (omega arith) (omega arith) (omega arith)

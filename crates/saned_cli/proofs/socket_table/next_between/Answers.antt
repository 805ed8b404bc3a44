use Rattle.std.proofs.Common.{sym, ◌∙◌}
use Rattle.saned_cli.proofs.SocketLines.{found, passed, none_found}
use Rattle.saned_cli.proofs.socket_table.next_between.Goals as goal

pub returns-then-is_socket_between : goal.returns-then-is_socket_between
returns-then-is_socket_between c = sym c.loop-line.invariant ∙ found _ _ _ _ _ c.in-Some.ensures.lines (sym c.is_socket_between.ensures ∙ c.if-is_socket_between.true)

pub loop-line-preserved : goal.loop-line-preserved
loop-line-preserved c = sym (passed _ _ _ _ _ c.in-Some.ensures.lines (sym c.is_socket_between.ensures ∙ c.if-is_socket_between.false)) ∙ c.loop-line.invariant

pub returns : goal.returns
returns c = sym c.loop-line.invariant ∙ none_found _ _ _ c.in_default.ensures.lines

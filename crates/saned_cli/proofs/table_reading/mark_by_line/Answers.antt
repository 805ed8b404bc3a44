use Rattle.std.proofs.Common.{sym, ◌∙◌}
use Rattle.saned_cli.proofs.MarkLaws.{by_line, not_by_line}
use Rattle.saned_cli.proofs.table_reading.mark_by_line.Goals as goal

pub returns-then-is_socket_to : goal.returns-then-is_socket_to
returns-then-is_socket_to g c = c.mark.ensures ∙ by_line _ _ _ _ (sym c.is_socket_to.ensures ∙ c.if-is_socket_to.true)

pub returns-else-is_socket_to : goal.returns-else-is_socket_to
returns-else-is_socket_to g c = not_by_line _ _ _ _ (sym c.is_socket_to.ensures ∙ c.if-is_socket_to.false)

use Rattle.std.proofs.Common.{◌≡◌, ◌++◌, length}
use Rattle.std.specs.Prelude.{map}
use Rattle.saned_cli.specs.SocketTable.{held_lines}
use Rattle.saned_cli.proofs.socket_table.held_lines.Given as goal

abbrev pub invariant-loop-line : goal.invariant-loop-line
invariant-loop-line l = map (λ line. line.now) l.lines.items ++ held_lines l.peer l.user l.rest ≡ held_lines l.peer l.user l.table

abbrev pub decreases-loop-line : goal.decreases-loop-line
decreases-loop-line l = length l.rest

use Rattle.std.proofs.Common.{◌≡◌, drop}
use Rattle.std.specs.Prelude.{map}
use Rattle.saned_cli.specs.SocketTable.{is_end_among}
use Rattle.saned_cli.proofs.socket_table.is_end_among.Given as goal

abbrev pub invariant-loop-line : goal.invariant-loop-line
invariant-loop-line l = is_end_among l.own (map (λ line. line.now) (drop l.line-index l.lines)) ≡ is_end_among l.own (map (λ line. line.now) l.lines)

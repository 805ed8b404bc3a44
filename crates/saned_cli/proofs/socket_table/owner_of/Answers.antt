use Rattle.std.proofs.Common.{◌≡◌, [], ◌∷◌}
use Rattle.saned_cli.specs.SocketTable.{end_text, sockets_between}
use Rattle.saned_cli.proofs.SocketLines.{if_none_map, of_one_line}
use Rattle.saned_cli.proofs.socket_table.owner_of.Goals as goal

pub returns-clause-none : goal.returns-clause-none
returns-clause-none c =
    let only : sockets_between (end_text c.args.peer) (end_text c.args.ours) c.args.table.now ≡ c.in_ok-line.line.now ∷ [] = rw (c.end_text.ensures, c.end_text-2.ensures) at c.in_ok-line.ensures.some in
    if_none_map c.owner_in.result c.owner_in.ensures.none (λ refused user few. of_one_line c.args.table.now c.args.peer c.args.ours c.in_ok-line.line.now user only (refused user few))

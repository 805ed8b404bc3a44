use Rattle.std.proofs.Common.{refl}
use Rattle.saned_cli.specs.Inside.EndsAmong.{EndsThere, NowhereEnds}
use Rattle.saned_cli.proofs.KeptLaws.{no_port_of}
use Rattle.saned_cli.proofs.NetLaws.{keeps_without, without_port}
use Rattle.saned_cli.proofs.kept_ports.end_at.Goals as goal

pub returns-clause-ends : goal.returns-clause-ends
returns-clause-ends g c =
    EndsThere _ (without_port g.S.SocketCalls.number c.args.port c.args.ports.now.items c.as_slice.result.now _ c.in-Some.at c.remove-it.result c.as_slice.ensures.value c.in-Some.ensures.some c.remove-it.ensures.value c.remove-it.ensures.items)
    c.end.ensures

pub returns-clause-keeps : goal.returns-clause-keeps
returns-clause-keeps g c =
    keeps_without _ _ _ _ _ _ (without_port g.S.SocketCalls.number c.args.port c.args.ports.now.items c.as_slice.result.now _ c.in-Some.at c.remove-it.result c.as_slice.ensures.value c.in-Some.ensures.some c.remove-it.ensures.value
    c.remove-it.ensures.items) c.end.ensures c.requires

pub returns-in_default-clause-ends : goal.returns-in_default-clause-ends
returns-in_default-clause-ends g c = NowhereEnds (no_port_of g.S.SocketCalls.number c.args.port c.args.ports.now.items c.as_slice.result.now c.as_slice.ensures.value c.in_default.ensures.none) refl

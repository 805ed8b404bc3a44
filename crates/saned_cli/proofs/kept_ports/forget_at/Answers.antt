use Rattle.std.proofs.Common.{refl}
use Rattle.saned_cli.specs.Inside.ForgetsAmong.{ForgetsThere, NowhereForgets}
use Rattle.saned_cli.proofs.KeptLaws.{at_port_of, keeps_at, keeps_put, no_port_of}
use Rattle.saned_cli.proofs.kept_ports.forget_at.Goals as goal

pub forget_ended-requires : goal.forget_ended-requires
forget_ended-requires g c =
    keeps_at _ _ _ _ _ _ (at_port_of g.S.SocketCalls.number c.args.port c.args.ports.now.items c.as_slice.result.now c.in-Some.at c.index_mut.result.now c.index_mut.result.now c.as_slice.ensures.value c.in-Some.ensures.some
    c.index_mut.ensures.value) c.requires

pub returns-clause-forgets : goal.returns-clause-forgets
returns-clause-forgets g c =
    ForgetsThere _ _ (at_port_of g.S.SocketCalls.number c.args.port c.args.ports.now.items c.as_slice.result.now c.in-Some.at c.index_mut.result.now c.forget_ended.new.it c.as_slice.ensures.value c.in-Some.ensures.some
    c.index_mut.ensures.value) c.forget_ended.ensures.forgets

pub returns-clause-keeps : goal.returns-clause-keeps
returns-clause-keeps g c =
    keeps_put _ _ _ _ _ _ _ _ (at_port_of g.S.SocketCalls.number c.args.port c.args.ports.now.items c.as_slice.result.now c.in-Some.at c.index_mut.result.now c.forget_ended.new.it c.as_slice.ensures.value c.in-Some.ensures.some
    c.index_mut.ensures.value) c.forget_ended.ensures.forgets.grew c.requires c.forget_ended.ensures.his

pub returns-in_default-clause-forgets : goal.returns-in_default-clause-forgets
returns-in_default-clause-forgets g c = NowhereForgets (no_port_of g.S.SocketCalls.number c.args.port c.args.ports.now.items c.as_slice.result.now c.as_slice.ensures.value c.in_default.ensures.none) refl

use Rattle.std.proofs.Common.{refl, rules}
use Rattle.saned_cli.specs.Inside.GivesAmong.{AtPlace, NoPlace}
use Rattle.saned_cli.proofs.KeptLaws.{at_port_of, for_frame, keeps_at, keeps_none, keeps_put, no_port_of}
use Rattle.saned_cli.proofs.kept_ports.taken_at.Goals as goal

pub returns-clause-gives : goal.returns-clause-gives
returns-clause-gives g c =
    AtPlace _ _ (at_port_of g.S.SocketCalls.number c.args.port c.args.ports.now.items c.as_slice.result.now c.in_ok-at.at c.index_mut.result.now c.taken.new.it c.as_slice.ensures.value c.in_ok-at.ensures.some c.index_mut.ensures.value)
    c.taken.ensures.gives

pub returns-clause-his : goal.returns-clause-his
returns-clause-his g c =
    for_frame _ _ _ _ _ _ _ c.taken.result (at_port_of g.S.SocketCalls.number c.args.port c.args.ports.now.items c.as_slice.result.now c.in_ok-at.at c.index_mut.result.now c.taken.new.it c.as_slice.ensures.value c.in_ok-at.ensures.some
    c.index_mut.ensures.value) c.taken.ensures.his

pub returns-clause-keeps : goal.returns-clause-keeps
returns-clause-keeps g c =
    keeps_put _ _ _ _ _ _ _ _ (at_port_of g.S.SocketCalls.number c.args.port c.args.ports.now.items c.as_slice.result.now c.in_ok-at.at c.index_mut.result.now c.taken.new.it c.as_slice.ensures.value c.in_ok-at.ensures.some
    c.index_mut.ensures.value) c.taken.ensures.gives.grew c.requires (keeps_none _ _ c.taken.ensures.gives.none_standing c.taken.ensures.gives.none_ended)

pub taken-requires : goal.taken-requires
taken-requires g c =
    keeps_at _ _ _ _ _ _ (at_port_of g.S.SocketCalls.number c.args.port c.args.ports.now.items c.as_slice.result.now c.in_ok-at.at c.index_mut.result.now c.index_mut.result.now c.as_slice.ensures.value c.in_ok-at.ensures.some
    c.index_mut.ensures.value) c.requires

pub returns-in_err-at-clause-gives : goal.returns-in_err-at-clause-gives
returns-in_err-at-clause-gives g c = NoPlace (no_port_of g.S.SocketCalls.number c.args.port c.args.ports.now.items c.as_slice.result.now c.as_slice.ensures.value c.in_err-at.ensures.none) (search rules) refl

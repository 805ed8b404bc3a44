use Rattle.std.specs.Prelude.{map, vec_capacity}
use Rattle.socket_calls.specs.SocketCall.{comer_of, listening_port}
use Rattle.saned_cli.specs.Guarding.{port_view}
use Rattle.saned_cli.specs.NetViews.{NetView}
use Rattle.saned_cli.proofs.NetLaws.{accepted_seen, keeps_accepted, keeps_nobody, nobody_seen}
use Rattle.saned_cli.proofs.local.LocalNetListeners.accept.Goals as goal

pub invariant_of-self-in_default : goal.invariant_of-self-in_default
invariant_of-self-in_default g c = keeps_nobody g.S.SocketCalls.number _ _ _ _ c.in_default.ensures c.self.invariant

pub returns-in_default-clause-asked : goal.returns-in_default-clause-asked
returns-in_default-clause-asked g c =
    let inside : NetView = record {
      calls = g.S.SocketCalls.calls c.self.inside.sockets;
      control = listening_port c.self.inside.control;
      owner = c.self.inside.owner;
      range = c.self.inside.range;
      left_out = c.self.inside.left_out;
      room = vec_capacity c.self.inside.data_ports;
      ports = map (port_view g.S.SocketCalls.number) c.self.inside.data_ports.items;
    } in
    nobody_seen g.S.SocketCalls.number _ inside _ c.self.view_is c.in_default.ensures

pub invariant_of-self-2 : goal.invariant_of-self-2
invariant_of-self-2 g c =
    keeps_accepted _ _ (comer_of g.S.SocketCalls.number c.in-Some.it) _ _ _ _ _ _ _ c.in-Some.ensures c.owner_of_comer-self-inside.ensures c.socket_of.ensures c.self.invariant

pub returns-clause-asked : goal.returns-clause-asked
returns-clause-asked g c =
    let inside : NetView = record {
      calls = g.S.SocketCalls.calls c.self.inside.sockets;
      control = listening_port c.self.inside.control;
      owner = c.self.inside.owner;
      range = c.self.inside.range;
      left_out = c.self.inside.left_out;
      room = vec_capacity c.self.inside.data_ports;
      ports = map (port_view g.S.SocketCalls.number) c.self.inside.data_ports.items;
    } in
    accepted_seen _ inside (comer_of g.S.SocketCalls.number c.in-Some.it) _ _ _ _ _ c.self.view_is c.in-Some.ensures c.owner_of_comer-self-inside.ensures c.socket_of.ensures

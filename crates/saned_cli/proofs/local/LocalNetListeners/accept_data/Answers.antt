use Rattle.std.specs.Prelude.{IfSome, map, vec_capacity}
use Rattle.socket_calls.specs.SocketCall.{listening_port}
use Rattle.saned_cli.specs.Guarding.{port_view}
use Rattle.std.proofs.Common.{refl, subst}
use Rattle.saned_cli.specs.NetViews.{IsForFrame, NetView}
use Rattle.saned_cli.specs.NetViews.TakesOrCloses.{GivesNone}
use Rattle.saned_cli.specs.Inside.{ports_and_calls}
use Rattle.saned_cli.proofs.NetLaws.{dials_seen, frame_his, keeps_end}
use Rattle.saned_cli.proofs.local.LocalNetListeners.accept_data.Goals as goal

pub invariant_of-self-2 : goal.invariant_of-self-2
invariant_of-self-2 g c = keeps_end _ _ _ _ _ c.socket_of.ensures c.taken_at.ensures.keeps

pub returns-clause-his : goal.returns-clause-his
returns-clause-his g c =
    subst (λ (was : NetView). IfSome c.socket_of.result (λ socket. IsForFrame c.args.port was.ports (g.S.SocketCalls.taken_number socket.conn) (g.S.SocketCalls.calls c.socket_of.new.sockets))) c.self.view_is
    (frame_his (λ socket. g.S.SocketCalls.taken_number socket.conn) c.args.port _ _ _ _ c.socket_of.result c.socket_of.ensures c.in-Some.ensures.his)

pub returns-clause-newest : goal.returns-clause-newest
returns-clause-newest g c =
    let inside : NetView = record {
      calls = g.S.SocketCalls.calls c.self.inside.sockets;
      control = listening_port c.self.inside.control;
      owner = c.self.inside.owner;
      range = c.self.inside.range;
      left_out = c.self.inside.left_out;
      room = vec_capacity c.self.inside.data_ports;
      ports = map (port_view g.S.SocketCalls.number) c.self.inside.data_ports.items;
    } in
    dials_seen c.args.port _ inside (ports_and_calls g.S.SocketCalls.number c.taken_at.new.ports.items (g.S.SocketCalls.calls c.taken_at.new.sockets)) _ _ _ _ c.self.view_is c.taken_at.ensures.room c.in-Some.ensures.gives
    c.socket_of.ensures

pub returns-in_default-clause-newest : goal.returns-in_default-clause-newest
returns-in_default-clause-newest g c =
    let inside : NetView = record {
      calls = g.S.SocketCalls.calls c.self.inside.sockets;
      control = listening_port c.self.inside.control;
      owner = c.self.inside.owner;
      range = c.self.inside.range;
      left_out = c.self.inside.left_out;
      room = vec_capacity c.self.inside.data_ports;
      ports = map (port_view g.S.SocketCalls.number) c.self.inside.data_ports.items;
    } in
    dials_seen c.args.port _ inside (ports_and_calls g.S.SocketCalls.number c.taken_at.new.ports.items (g.S.SocketCalls.calls c.taken_at.new.sockets)) _ _ _ _ c.self.view_is c.taken_at.ensures.room c.in_default.ensures.gives
    (GivesNone refl refl refl)

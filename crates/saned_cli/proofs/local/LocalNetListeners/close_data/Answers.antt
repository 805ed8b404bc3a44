use Rattle.std.specs.Prelude.{map, vec_capacity}
use Rattle.socket_calls.specs.SocketCall.{listening_port}
use Rattle.saned_cli.specs.Guarding.{port_view}
use Rattle.saned_cli.specs.NetViews.{NetView}
use Rattle.saned_cli.specs.Inside.{ports_and_calls}
use Rattle.saned_cli.proofs.NetLaws.{shuts_seen}
use Rattle.saned_cli.proofs.local.LocalNetListeners.close_data.Goals as goal

pub returns-clause-shuts : goal.returns-clause-shuts
returns-clause-shuts g c =
    let inside : NetView = record {
      calls = g.S.SocketCalls.calls c.self.inside.sockets;
      control = listening_port c.self.inside.control;
      owner = c.self.inside.owner;
      range = c.self.inside.range;
      left_out = c.self.inside.left_out;
      room = vec_capacity c.self.inside.data_ports;
      ports = map (port_view g.S.SocketCalls.number) c.self.inside.data_ports.items;
    } in
    shuts_seen c.args.port _ inside (ports_and_calls g.S.SocketCalls.number c.end_at.new.ports.items (g.S.SocketCalls.calls c.end_at.new.sockets)) _ c.self.view_is c.end_at.ensures.room c.end_at.ensures.ends

use Rattle.std.proofs.lemmas.List.{length-map}
use Rattle.std.proofs.Common.{None, Some, ap, arith, refl, sym, ◌∙◌}
use Rattle.std.specs.Option.{option_map}
use Rattle.std.specs.Result.{result_ok}
use Rattle.std.specs.Prelude.{map, vec_capacity}
use Rattle.socket_calls.specs.SocketCall.{listening_port}
use Rattle.saned_cli.specs.Guarding.{port_view}
use Rattle.saned_cli.specs.NetViews.{NetView}
use Rattle.saned_cli.proofs.NetLaws.{keeps_listened, keeps_opened, opens_full, opens_none, opens_one, viewed_more}
use Rattle.saned_cli.proofs.local.LocalNetListeners.open_data.Goals as goal

pub returns-then-len-capacity-clause-port : goal.returns-then-len-capacity-clause-port
returns-then-len-capacity-clause-port g c =
    let inside : NetView = record {
      calls = g.S.SocketCalls.calls c.self.inside.sockets;
      control = listening_port c.self.inside.control;
      owner = c.self.inside.owner;
      range = c.self.inside.range;
      left_out = c.self.inside.left_out;
      room = vec_capacity c.self.inside.data_ports;
      ports = map (port_view g.S.SocketCalls.number) c.self.inside.data_ports.items;
    } in
    opens_full _ inside _ c.self.view_is (omega (arith, c.if-len-capacity.true, c.capacity.ensures, c.len.ensures, length-map c.self.inside.data_ports.items (port_view g.S.SocketCalls.number))) c.take-owner.ensures.after

pub invariant_of-self-in_default : goal.invariant_of-self-in_default
invariant_of-self-in_default g c = keeps_listened _ _ _ _ _ c.listen_within.ensures c.self.invariant

pub returns-in_default-clause-port : goal.returns-in_default-clause-port
returns-in_default-clause-port g c =
    let inside : NetView = record {
      calls = g.S.SocketCalls.calls c.self.inside.sockets;
      control = listening_port c.self.inside.control;
      owner = c.self.inside.owner;
      range = c.self.inside.range;
      left_out = c.self.inside.left_out;
      room = vec_capacity c.self.inside.data_ports;
      ports = map (port_view g.S.SocketCalls.number) c.self.inside.data_ports.items;
    } in
    opens_none _ inside _ _ _ c.self.view_is c.listen_within.ensures (ap (λ r. option_map listening_port (result_ok r)) c.in_default.is) c.take-owner.ensures.after

pub invariant_of-self-2 : goal.invariant_of-self-2
invariant_of-self-2 g c = keeps_opened _ _ _ _ _ _ _ _ c.listen_within.ensures
    (viewed_more g.S.SocketCalls.number c.self.inside.data_ports.items c.push_reserved.new.self.items (record { at = c.in-Ok.at; owner = c.take-owner.result; standing = None; ended = None }) (listening_port c.in-Ok.at) c.push_reserved.ensures.items refl) c.self.invariant

pub returns-clause-port : goal.returns-clause-port
returns-clause-port g c =
    let inside : NetView = record {
      calls = g.S.SocketCalls.calls c.self.inside.sockets;
      control = listening_port c.self.inside.control;
      owner = c.self.inside.owner;
      range = c.self.inside.range;
      left_out = c.self.inside.left_out;
      room = vec_capacity c.self.inside.data_ports;
      ports = map (port_view g.S.SocketCalls.number) c.self.inside.data_ports.items;
    } in
    opens_one _ inside _ _ _ _ _ _ _ c.self.view_is c.listen_within.ensures
    (ap (λ r. option_map listening_port (result_ok r)) c.in-Ok.is ∙ ap (λ n. Some n) (sym c.port-port.ensures)) c.push_reserved.ensures.capacity c.take-owner.ensures.value c.take-owner.ensures.after
    (viewed_more g.S.SocketCalls.number c.self.inside.data_ports.items c.push_reserved.new.self.items (record { at = c.in-Ok.at; owner = c.take-owner.result; standing = None; ended = None }) c.port-port.result c.push_reserved.ensures.items c.port-port.ensures)

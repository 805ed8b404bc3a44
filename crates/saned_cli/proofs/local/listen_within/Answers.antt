use Rattle.std.proofs.Common.{Some, ap, arith}
use Rattle.std.specs.Result.{result_ok}
use Rattle.std.specs.Option.{option_map}
use Rattle.socket_calls.specs.SocketCall.{listening_port}
use Rattle.saned_cli.proofs.NetLaws.{asked_any, asked_before, asked_last, none_refused, refused_too}
use Rattle.saned_cli.proofs.local.listen_within.Goals as goal

pub loop-port-init : goal.loop-port-init
loop-port-init g c = none_refused _ _ _

pub loop-port-preserved : goal.loop-port-preserved
loop-port-preserved g c = refused_too _ _ _ c.listen-in-loop-port.result _ _ _ c.loop-port.invariant c.listen-in-loop-port.ensures (ap (λ r. result_ok r) c.in_default-listen.is) c.loop-port-test.true

pub returns-in-Ok : goal.returns-in-Ok
returns-in-Ok g c = asked_before _ c.in-Some.field-0 _ (Some (listening_port c.in-Ok.listener)) c.listen-in-loop-port.result _ _ _ c.in-Some.is c.loop-port.invariant c.listen-in-loop-port.ensures c.loop-port-test.true
    (ap (λ r. option_map listening_port (result_ok r)) c.in-Ok.is) (λ e. cc)

pub returns : goal.returns
returns g c = asked_last _ c.in-Some.field-0 _ c.listen-2.result _ _ _ c.in-Some.is c.loop-port.invariant c.listen-2.ensures (omega (arith, c.loop-port-test.false))

pub returns-in_default : goal.returns-in_default
returns-in_default g c = asked_any _ c.listen.result _ _ c.in_default.is c.listen.ensures

use Rattle.std.proofs.Common.{◌≤◌, length, take, drop, ap, arith, rules}
use Rattle.std.proofs.lemmas.List.{length-take}
use Rattle.net_client.specs.ClientStates.{ClientState}
use Rattle.net_jobs.proofs.Writes.{none_written, more_written, stopped_short, only_out}
use Rattle.net_jobs.proofs.running.write_out.Goals as goal

pub loop-n-init : goal.loop-n-init
loop-n-init g c = record { room = search rules; rest = search rules; up = search rules; reads = search rules; to = none_written c.args.client.now.out (g.C.Write.contents c.args.control.now) }

pub returns-then-not-write_whole-clause-front : goal.returns-then-not-write_whole-clause-front
returns-then-not-write_whole-clause-front g c = λ short.
    let n : c.take_out-n.result ≤ length c.loop-n.client.out = omega (arith, c.take_out-n.ensures.count) in
    let f = c.write_whole.ensures.front (search rules) in
    stopped_short c.args.client.now.out (g.C.Write.contents c.args.control.now) (g.C.Write.contents c.loop-n.control) (g.C.Write.contents c.write_whole.new.control) c.loop-n.client.out (take c.take_out-n.result c.take_out-n.new.buf) c.take_out-n.result f.0
    c.loop-n.invariant.to n c.take_out-n.ensures.given (omega (arith, f.1, length-take c.take_out-n.result c.take_out-n.new.buf)) f.2

pub loop-n-preserved : goal.loop-n-preserved
loop-n-preserved g c =
    let n : c.take_out-n.result ≤ length c.loop-n.client.out = omega (arith, c.take_out-n.ensures.count) in
    record {
      room = search rules;
      rest = only_out c.args.client.now c.loop-n.client c.take_out-n.new.self (drop c.take_out-n.result c.loop-n.client.out) c.loop-n.invariant.rest c.take_out-n.ensures.left;
      up = search rules;
      reads = search rules;
      to = more_written c.args.client.now.out (g.C.Write.contents c.args.control.now) (g.C.Write.contents c.loop-n.control) (g.C.Write.contents c.write_whole.new.control) c.loop-n.client.out c.take_out-n.new.self.out (take c.take_out-n.result c.take_out-n.new.buf) c.take_out-n.result
          c.loop-n.invariant.to n c.take_out-n.ensures.given (ap (λ (v : ClientState). v.out) c.take_out-n.ensures.left) (c.write_whole.ensures.whole (search rules));
    }

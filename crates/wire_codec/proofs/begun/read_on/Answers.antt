use Rattle.std.proofs.Common.{arith}
use Rattle.wire_codec.proofs.ElementsReadOnce.{reads_same, reads_then}
use Rattle.wire_codec.proofs.begun.read_on.Goals as goal

pub loop-init : goal.loop-init
loop-init g c = (reads_same g.E.Element.format c.args.bytes.now c.args.elements.now c.requires, omega arith)

pub returns-in_err-read_one-clause-on : goal.returns-in_err-read_one-clause-on
returns-in_err-read_one-clause-on g c = reads_then g.E.Element.format c.args.bytes.now c.args.elements.now c.loop.elements c.read_one.new.elements c.loop.invariant.0 c.in_err-read_one.ensures.on

pub loop-preserved : goal.loop-preserved
loop-preserved g c =
    (reads_then g.E.Element.format c.args.bytes.now c.args.elements.now c.loop.elements c.read_one.new.elements c.loop.invariant.0 c.in_ok-read_one.ensures.on, omega (arith, c.in_ok-read_one.ensures.ok, c.loop.invariant.1))

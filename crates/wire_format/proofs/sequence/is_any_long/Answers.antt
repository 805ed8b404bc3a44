use Rattle.std.proofs.Common.{◌∙◌, sym, refl}
use Rattle.wire_format.proofs.Loops.{any_long, any_long_is, long_more, long_here, long_none}
use Rattle.wire_format.proofs.sequence.is_any_long.Goals as goal

pub loop-value-init : goal.loop-value-init
loop-value-init g c = refl

pub returns-then-is_long : goal.returns-then-is_long
returns-then-is_long g c =
    long_here g.E.Encoder.writer c.args.values.now c.loop-value.value-index c.value-item.result (any_long g.E.Encoder.writer c.args.values.now) c.loop-value-test.true (sym c.value-item.is) (sym c.is_long.ensures ∙ c.if-is_long.true) c.loop-value.invariant
    ∙ sym (any_long_is g.E.Encoder.writer c.args.values.now)

pub loop-value-preserved : goal.loop-value-preserved
loop-value-preserved g c =
    long_more g.E.Encoder.writer c.args.values.now c.loop-value.value-index c.value-item.result (any_long g.E.Encoder.writer c.args.values.now) c.loop-value-test.true (sym c.value-item.is) (sym c.is_long.ensures ∙ c.if-is_long.false) c.loop-value.invariant

pub returns : goal.returns
returns g c =
    long_none g.E.Encoder.writer c.args.values.now c.loop-value.value-index (any_long g.E.Encoder.writer c.args.values.now) c.loop-value-test.false c.loop-value.invariant
    ∙ sym (any_long_is g.E.Encoder.writer c.args.values.now)

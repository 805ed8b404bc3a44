use Rattle.std.proofs.Common.{◌∙◌, sym, refl, ap}
use Rattle.std.proofs.lemmas.Result.{err_from_is_err_and}
use Rattle.wire_format.specs.Writer.{behind}
use Rattle.wire_format.proofs.Loops.{texts, texts_are, puts_more, puts_error, puts_all}
use Rattle.wire_format.proofs.sequence.put_all.Goals as goal

pub loop-value-init : goal.loop-value-init
loop-value-init g c = refl

pub returns-in_err-put : goal.returns-in_err-put
returns-in_err-put g c =
    let p = err_from_is_err_and c.from_residual.result c.from_residual.ensures.1 in
    rw (p.1, p.2, texts_are g.E.Encoder.writer c.args.values.now) (puts_error g.E.Encoder.writer c.args.values.now c.loop-value.value-index c.value-item.result c.loop-value.out.items c.args.out.now.items c.put.new.out.items c.in_err-put.field-0.0 c.loop-value-test.true (sym c.value-item.is) c.in_err-put.ensures c.loop-value.invariant)

pub loop-value-preserved : goal.loop-value-preserved
loop-value-preserved g c =
    puts_more g.E.Encoder.writer c.args.values.now c.loop-value.value-index c.value-item.result c.loop-value.out.items c.put.new.out.items (behind c.args.out.now.items (texts g.E.Encoder.writer c.args.values.now)) c.loop-value-test.true (sym c.value-item.is) c.in_ok-put.ensures c.loop-value.invariant

pub returns : goal.returns
returns g c =
    ap (behind c.args.out.now.items) (texts_are g.E.Encoder.writer c.args.values.now)
    ∙ puts_all g.E.Encoder.writer c.args.values.now c.loop-value.value-index c.loop-value.out.items (behind c.args.out.now.items (texts g.E.Encoder.writer c.args.values.now)) c.loop-value-test.false c.loop-value.invariant

use Rattle.std.proofs.Common.{◌≡◌, ◌-◌, arith}
use Rattle.std.proofs.lemmas.Result.{err_from_is_err_and}
use Rattle.wire_format.specs.Format.{places}
use Rattle.wire_format.proofs.Loops.{no_front, goes_on, ends, is_done, places_length}
use Rattle.wire_format.proofs.sequence.places.Goals as goal

pub loop-init : goal.loop-init
loop-init g c =
    let all : c.args.count - 0 ≡ c.args.count = omega arith in
    rw (c.new-values.ensures.items, all) (no_front ((places c.args.count g.R.Reader.format).read c.args.bytes.now))

pub returns-in_err-value-clause-read : goal.returns-in_err-value-clause-read
returns-in_err-value-clause-read g c =
    let p = err_from_is_err_and c.from_residual.result c.from_residual.ensures.1 in
    rw (p.1, p.2) (ends g.R.Reader.format c.in_err-value.field-0.0 c.loop.values.items c.args.count c.loop.counter c.loop.rest.now _ c.loop-test.true c.in_err-value.ensures c.loop.invariant)

pub loop-preserved : goal.loop-preserved
loop-preserved g c =
    rw c.in_ok-push.ensures.items (goes_on g.R.Reader.format c.loop.values.items c.args.count c.loop.counter c.loop.rest.now c.in_ok-value.value c.in_ok-value.behind.now _ c.loop-test.true c.in_ok-value.ensures c.loop.invariant)

pub returns-clause-read : goal.returns-clause-read
returns-clause-read g c = is_done g.R.Reader.format c.loop.values.items c.args.count c.loop.counter c.loop.rest.now _ c.loop-test.false c.loop.invariant

pub returns-clause-count : goal.returns-clause-count
returns-clause-count g c =
    places_length g.R.Reader.format c.args.count c.args.bytes.now c.loop.rest.now c.loop.values.items
    (is_done g.R.Reader.format c.loop.values.items c.args.count c.loop.counter c.loop.rest.now _ c.loop-test.false c.loop.invariant)

use Rattle.std.proofs.lemmas.Result.{err_from_is_err_and}
use Rattle.wire_codec.proofs.Passing.{list_fails}
use Rattle.wire_codec.proofs.message_reading.string_list.Goals as goal

pub returns-in_err-places : goal.returns-in_err-places
returns-in_err-places c =
    let p = err_from_is_err_and c.from_residual-in_err-places.result c.from_residual-in_err-places.ensures.1 in
    rw (p.1, p.2) (list_fails c.args.bytes.now c.in_ok-count.rest.now c.in_ok-count.count c.in_err-places.field-0.0 c.in_ok-count.ensures.read c.in_err-places.ensures.read)

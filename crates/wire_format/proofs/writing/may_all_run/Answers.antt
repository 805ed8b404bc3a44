use Rattle.std.proofs.Common.{◌∙◌, sym, arith}
use Rattle.wire_format.proofs.Writers.{bytes_may_run}
use Rattle.wire_format.proofs.writing.may_all_run.Goals as goal

pub returns : goal.returns
returns c = c.all_from.ensures ∙ sym (bytes_may_run c.args.least c.args.bytes.now (λ i. omega (arith, c.type_inv.bytes i)))

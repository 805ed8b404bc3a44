use Rattle.std.proofs.Common.{arith, sym, rules}
use Rattle.page_sources.proofs.PageLemmas.{page_found, no_header, too_large}
use Rattle.page_sources.proofs.page_file.page_header.Goals as goal

pub returns-in_default-clause-fault : goal.returns-in_default-clause-fault
returns-in_default-clause-fault c = (search rules, search rules, no_header c.args.text.now (sym c.in_default.ensures.value))

pub returns-then-header-gt16384-clause-fault : goal.returns-then-header-gt16384-clause-fault
returns-then-header-gt16384-clause-fault c = (search rules, search rules, too_large c.args.text.now c.in-Some.header c.in-Some.raster.now (sym c.in-Some.ensures.value) c.then-header-gt16384.either)

pub returns-clause-found : goal.returns-clause-found
returns-clause-found c = page_found c.args.text.now c.in-Some.header c.in-Some.raster.now (sym c.in-Some.ensures.value) (search rules) (omega arith) (omega arith)

use Rattle.std.proofs.Common.{rules, arith, drop, ◌∙◌}
use Rattle.page_sources.specs.Inside.{file_row_size, rest_of}
use Rattle.page_sources.proofs.RowLemmas.{unused_none}
use Rattle.page_sources.proofs.ShownLemmas.{header_fault, raster_fault, opened, from_first}
use Rattle.page_sources.proofs.pnm_page.PnmPage.open.Goals as goal

pub returns-in-Err-page_header-clause-fault : goal.returns-in-Err-page_header-clause-fault
returns-in-Err-page_header-clause-fault g c = λ kept. header_fault c.in-Err-page_header.fault (g.R.Rereadable.text c.args.reader) c.args.dpi (search rules) (search rules)

pub invariant_of-result : goal.invariant_of-result
invariant_of-result g c = (
  search rules,
  (omega arith, omega arith),
  omega arith,
  search rules,
  omega arith,
  λ kept found. unused_none (file_row_size c.in-Ok-page_header.header) c.in-Ok-check_file.bytes.items (g.R.Rereadable.left c.check_file.new.reader) ∙ from_first (file_row_size c.in-Ok-page_header.header) (g.R.Rereadable.left c.check_file.new.reader) (drop c.end-reader.result.1 (g.R.Rereadable.text c.check_file.new.reader)) (search rules),
  λ kept. rw c.check_file.ensures.text (search rules),
)

pub returns-in-Ok-check_file-clause-found : goal.returns-in-Ok-check_file-clause-found
returns-in-Ok-check_file-clause-found g c = λ kept.
    opened (g.R.Rereadable.text c.args.reader) (g.R.Rereadable.text c.check_file.new.reader) (rest_of c.page_header.new.self) c.in-Ok-page_header.header c.args.dpi c.end-reader.result.1 (search rules) (search rules) (search rules)

pub returns-in-Err-check_file-clause-fault : goal.returns-in-Err-check_file-clause-fault
returns-in-Err-check_file-clause-fault g c = λ kept.
    raster_fault c.in-Err-check_file.fault (g.R.Rereadable.text c.args.reader) (rest_of c.page_header.new.self) c.in-Ok-page_header.header c.args.dpi (search rules) (search rules) (search rules)

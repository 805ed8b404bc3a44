use Rattle.std.proofs.Common.{◌≡◌, ◌+◌, ◌++◌, ◌∙◌, ◌≤◌, rules, ap, sym, subst, length}
use Rattle.std.specs.Prelude.{slice_range}
use Rattle.page_sources.specs.Inside.{file_row_size, unused_bytes}
use Rattle.page_sources.proofs.RowLemmas.{gives_part, length-row_at}
use Rattle.page_sources.proofs.raster_rows.read_row_bytes.Goals as goal

pub returns-clause-read : goal.returns-clause-read
returns-clause-read g c = λ kept.
    let header = c.args.header.now in
    let n = file_row_size header in
    let room = c.take_row.new.bytes in
    let from = c.in_ok-from.from in
    let size = c.raster_size-size.result in
    let left = unused_bytes n c.args.held.now c.args.bytes.now (g.R.Rereadable.left c.args.reader.now) in
    let more = unused_bytes n c.take_row.new.held room (g.R.Rereadable.left c.take_row.new.reader) in
    let same : size ≡ n = search rules in
    let within : from + size ≤ length room = subst (λ k. from + k ≤ length room) (sym same) c.in_ok-from.ensures.place in
    let step : left ≡ slice_range room from (from + size) ++ more = c.in_ok-from.ensures.read kept ∙ ap (λ k. slice_range room from (from + k) ++ more) (sym same) in
    gives_part header c.args.at left (slice_range room from (from + size)) more c.put_upper_bytes.new.part step (length-row_at size from room within ∙ same) (λ i less. c.put_upper_bytes.ensures i (search rules))

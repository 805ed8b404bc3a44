use Rattle.std.proofs.Common.{◌≡◌, ◌≤◌, ◌+◌, ◌-◌, ◌*◌, ◌++◌, rules, arith, ◌∙◌, length, ap}
use Rattle.std.specs.Prelude.{slice_range}
use Rattle.page_sources.specs.Inside.{file_row_size, unused_bytes}
use Rattle.page_sources.proofs.RowLemmas.{length-row_taken, row_fits, row_taken}
use Rattle.page_sources.proofs.raster_rows.take_row.Goals as goal

pub returns-then-not-all_fit-clause-failed : goal.returns-then-not-all_fit-clause-failed
returns-then-not-all_fit-clause-failed g c = λ kept has.
    let header = c.args.header.now in
    let size = c.raster_size-size.result in
    let held = c.hold_rows.new.held in
    let room = c.hold_rows.new.bytes in
    let bytes = slice_range room (length room - held * size) (length room - held * size + size) in
    let left = unused_bytes (file_row_size header) c.args.held.now c.args.bytes.now (g.R.Rereadable.left c.args.reader.now) in
    let more = unused_bytes (file_row_size header) (held - 1) room (g.R.Rereadable.left c.hold_rows.new.reader) in
    let same : size ≡ file_row_size header = search rules in
    let some : 1 ≤ held = c.in_ok-hold_rows.ensures.some (search rules) in
    let next : held ≡ held - 1 + 1 = omega arith in
    let within : held * size ≤ length room = c.hold_rows.ensures.within in
    let count : length bytes ≡ file_row_size header = length-row_taken size held (held - 1) room next within ∙ same in
    let step : left ≡ bytes ++ more = row_taken header size c.args.held.now held (held - 1) c.args.bytes.now room (g.R.Rereadable.left c.args.reader.now) (g.R.Rereadable.left c.hold_rows.new.reader) same (c.in_ok-hold_rows.ensures.same (search rules) kept) next within in
    absurd (row_fits header c.args.rows left bytes more has step count (search rules))

pub returns-clause-read : goal.returns-clause-read
returns-clause-read g c = λ kept.
    let header = c.args.header.now in
    let size = c.raster_size-size.result in
    let held = c.hold_rows.new.held in
    let room = c.hold_rows.new.bytes in
    let from = length room - held * size in
    let left = unused_bytes (file_row_size header) c.args.held.now c.args.bytes.now (g.R.Rereadable.left c.args.reader.now) in
    let more = unused_bytes (file_row_size header) (held - 1) room (g.R.Rereadable.left c.hold_rows.new.reader) in
    let same : size ≡ file_row_size header = search rules in
    let some : 1 ≤ held = c.in_ok-hold_rows.ensures.some (search rules) in
    let next : held ≡ held - 1 + 1 = omega arith in
    let within : held * size ≤ length room = c.hold_rows.ensures.within in
    let step : left ≡ slice_range room from (from + size) ++ more = row_taken header size c.args.held.now held (held - 1) c.args.bytes.now room (g.R.Rereadable.left c.args.reader.now) (g.R.Rereadable.left c.hold_rows.new.reader) same (c.in_ok-hold_rows.ensures.same (search rules) kept) next within in
    step ∙ ap (λ n. slice_range room from (from + n) ++ more) same

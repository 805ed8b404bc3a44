use Rattle.std.proofs.Common.{◌≡◌, ◌≤◌, ◌<◌, ◌+◌, ◌-◌, ◌*◌, ◌++◌, true, rules, arith, ap, ◌∙◌, length, subst}
use Rattle.std.specs.Prelude.{slice_range, MatchBool}
use Rattle.netpbm.specs.Raster.{NoneAbove, SomeAbove}
use Rattle.page_sources.specs.Inside.{ReadsRaster, row_count, file_row_size, unused_bytes}
use Rattle.page_sources.proofs.RowLemmas.{RowsRead, length-row_taken, none_step, row_taken, rows_all, rows_fit, rows_next, rows_short, some_step, unused_zero}
use Rattle.page_sources.proofs.raster_rows.check_rows.Goals as goal

pub returns-then-not-branch-clause-fault : goal.returns-then-not-branch-clause-fault
returns-then-not-branch-clause-fault g c = λ kept.
    let before = c.loop-y.invariant in
    let header = c.args.header.now in
    let raster = g.R.Rereadable.left c.args.reader.now in
    let rows = header.height - c.loop-y.y in
    let same : c.raster_size-size.result ≡ file_row_size header = search rules in
    let left = unused_bytes (file_row_size header) c.loop-y.held c.loop-y.bytes (g.R.Rereadable.left c.loop-y.reader) in
    let read : RowsRead header raster left c.loop-y.y = record { page = c.requires.page.format; left_is = before.left kept; within = before.within kept } in
    let short : length left < rows * file_row_size header = subst (λ s. length (unused_bytes s c.loop-y.held c.loop-y.bytes (g.R.Rereadable.left c.loop-y.reader)) < rows * s) same (c.in_ok-hold_rows.ensures.ended (search rules) (before.kept ∙ kept)) in
    rows_short header raster left c.loop-y.y rows read (omega arith) short

pub loop-y-preserved : goal.loop-y-preserved
loop-y-preserved g c =
    let before = c.loop-y.invariant in
    let header = c.args.header.now in
    let raster = g.R.Rereadable.left c.args.reader.now in
    let size = c.raster_size-size.result in
    let held = c.hold_rows.new.held in
    let room = c.hold_rows.new.bytes in
    let row = slice_range room (length room - held * size) (length room - held * size + size) in
    let left = unused_bytes (file_row_size header) c.loop-y.held c.loop-y.bytes (g.R.Rereadable.left c.loop-y.reader) in
    let after = unused_bytes (file_row_size header) (held - 1) room (g.R.Rereadable.left c.hold_rows.new.reader) in
    let same : size ≡ file_row_size header = search rules in
    let some : 1 ≤ held = c.in_ok-hold_rows.ensures.some (search rules) in
    let next : held ≡ held - 1 + 1 = omega arith in
    let within : held * size ≤ length room = c.hold_rows.ensures.within in
    let count : length row ≡ file_row_size header = length-row_taken size held (held - 1) room next within ∙ same in
    let was : c.loop-y.held * size ≡ c.loop-y.held * file_row_size header = ap (λ s. c.loop-y.held * s) same in
    let is : held * size ≡ held * file_row_size header = ap (λ s. held * s) same in
    let one : held * file_row_size header ≡ (held - 1) * file_row_size header + file_row_size header = ap (λ k. k * file_row_size header) next ∙ omega arith in
    let read : g.R.Rereadable.is_kept c.args.reader.now ≡ true → RowsRead header raster left c.loop-y.y = λ kept. record { page = c.requires.page.format; left_is = before.left kept; within = before.within kept } in
    let step : g.R.Rereadable.is_kept c.args.reader.now ≡ true → left ≡ row ++ after = λ kept. row_taken header size c.loop-y.held held (held - 1) c.loop-y.bytes room (g.R.Rereadable.left c.loop-y.reader) (g.R.Rereadable.left c.hold_rows.new.reader) same (c.in_ok-hold_rows.ensures.same (search rules) (before.kept ∙ kept)) next within in
    let numbers : c.sample_count-count.result ≡ row_count header = search rules in
    let tested : MatchBool c.all_fit.result (NoneAbove header.maxval row (row_count header)) (SomeAbove header.maxval row (row_count header)) = subst (λ n. MatchBool c.all_fit.result (NoneAbove header.maxval row n) (SomeAbove header.maxval row n)) numbers c.all_fit.ensures in
    record {
      kept = c.hold_rows.ensures.kept ∙ before.kept;
      text = c.hold_rows.ensures.text ∙ before.text;
      few = let reads = c.in_ok-hold_rows.ensures.few (search rules) in let most = before.few in omega arith;
      worked = λ kept. c.in_ok-hold_rows.ensures.worked (before.kept ∙ kept) ∙ before.worked kept;
      size = c.hold_rows.auto.bytes ∙ before.size;
      held = let most = c.hold_rows.ensures.most in omega arith;
      room = omega arith;
      left = λ kept. (rows_next header raster left row after c.loop-y.y (read kept) (step kept) count).left_is;
      within = λ kept. (rows_next header raster left row after c.loop-y.y (read kept) (step kept) count).within;
      none = λ kept. none_step header raster left row after c.loop-y.y c.loop-y.fit c.all_fit.result (read kept) (step kept) count (before.none kept) tested;
      some = λ kept. some_step header raster left row after c.loop-y.y c.loop-y.fit c.all_fit.result (read kept) (step kept) count (before.some kept) tested;
    }

pub returns-clause-read : goal.returns-clause-read
returns-clause-read g c = λ kept.
    let last = c.loop-y.invariant in
    let header = c.args.header.now in
    let raster = g.R.Rereadable.left c.args.reader.now in
    let left = unused_bytes (file_row_size header) c.loop-y.held c.loop-y.bytes (g.R.Rereadable.left c.loop-y.reader) in
    let read : RowsRead header raster left c.loop-y.y = record { page = c.requires.page.format; left_is = last.left kept; within = last.within kept } in
    let rows = last.held in
    subst (ReadsRaster header raster) (unused_zero (file_row_size header) c.loop-y.held c.loop-y.bytes (g.R.Rereadable.left c.loop-y.reader) (omega arith)) (rows_all header raster left c.loop-y.y read (omega arith))

pub returns-clause-fits : goal.returns-clause-fits
returns-clause-fits g c = λ kept.
    let last = c.loop-y.invariant in
    rows_fit c.args.header.now (g.R.Rereadable.left c.args.reader.now) c.loop-y.y c.loop-y.fit (omega arith) (last.none kept) (last.some kept)

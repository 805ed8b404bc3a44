-- What recorded outputs took.
use Rattle.std.specs.Prelude.{ℕ, List}
use Rattle.scan_job.specs.Shelves.{ReturnedOutput, Stock}
use Rattle.recorded.specs.Names.{stock_of}
use Rattle.recorded.specs.declared.recorded.Recorded.{Recorded}
use Rattle.recorded.specs.declared.recorded_shelf.RecordedShelf.{RecordedShelf}

-- **taken (`taken_text`, `returned_to`)**: all that the calls on an output took since its record began, and the names
-- of files among it; and each output that a shelf was given back since, with what it took.
abbrev pub taken_text : {W : Type 0} → Recorded W → List ℕ
taken_text output = output.taken.text

abbrev pub returned_to : {S : Type 0} → RecordedShelf S → List ReturnedOutput
returned_to shelf = shelf.returned.outputs

abbrev pub stock_told : {S : Type 0} → RecordedShelf S → Stock
stock_told shelf = stock_of shelf.number shelf.returned.outputs

use Rattle.std.proofs.Common.{◌≡◌, ◌++◌, drop, take}
use Rattle.std.specs.Prelude.{map}
use Rattle.saned_cli.specs.Inside.{marked_by}
use Rattle.saned_cli.proofs.table_reading.mark.Given as goal

abbrev pub invariant-loop-newcomer : goal.invariant-loop-newcomer
invariant-loop-newcomer g l = l.newcomers ≡ map (marked_by l.line) (take l.newcomer-index l.initial.newcomers) ++ drop l.newcomer-index l.initial.newcomers

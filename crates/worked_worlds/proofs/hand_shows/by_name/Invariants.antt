use Rattle.std.proofs.Common.{◌≡◌, map, take}
use Rattle.worked_worlds.specs.HandTable.{shown_by_name}
use Rattle.worked_worlds.proofs.hand_shows.by_name.Given as goal

abbrev pub invariant-loop-option : goal.invariant-loop-option
invariant-loop-option l = l.table.items ≡ map shown_by_name (take l.option-index l.options)

use Rattle.std.proofs.Common.{◌≡◌, ◌+◌, drop}
use Rattle.dispatch.specs.FieldCounts.{word_length}
use Rattle.saned_cli.proofs.table_fields.word_length.Given as goal

abbrev pub invariant-loop-i : goal.invariant-loop-i
invariant-loop-i l = l.i + word_length (drop l.i l.bytes) ≡ word_length l.bytes

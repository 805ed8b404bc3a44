use Rattle.std.proofs.Common.{◌≡◌, ◌+◌, drop}
use Rattle.dispatch.specs.FieldCounts.{blank_count}
use Rattle.saned_cli.proofs.table_fields.blank_count.Given as goal

abbrev pub invariant-loop-i : goal.invariant-loop-i
invariant-loop-i l = l.i + blank_count (drop l.i l.bytes) ≡ blank_count l.bytes

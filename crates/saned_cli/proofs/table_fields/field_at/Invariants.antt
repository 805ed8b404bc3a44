use Rattle.std.proofs.Common.{◌≡◌, drop}
use Rattle.dispatch.specs.ConfigLines.{fields_of}
use Rattle.saned_cli.proofs.table_fields.field_at.Given as goal

abbrev pub invariant-loop-i : goal.invariant-loop-i
invariant-loop-i l = fields_of l.rest ≡ drop l._i (fields_of l.line)

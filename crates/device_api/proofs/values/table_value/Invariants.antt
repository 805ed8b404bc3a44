use Rattle.std.proofs.Common.{◌≡◌, take, map, pos}
use Rattle.device_api.proofs.values.table_value.Given as goal

abbrev pub invariant-loop-byte : goal.invariant-loop-byte
invariant-loop-byte l = l.words.items ≡ map (λ b. pos b) (take l.byte-index l.table)

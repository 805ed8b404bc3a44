use Rattle.std.proofs.Common.{◌≡◌, take, map}
use Rattle.std.specs.Int.{w32, cast_unsigned}
use Rattle.wire_message.proofs.wire_values.unsigned.Given as goal

abbrev pub invariant-loop-word : goal.invariant-loop-word
invariant-loop-word l = l.unsigned.items ≡ map (cast_unsigned w32) (take l.word-index l.words)

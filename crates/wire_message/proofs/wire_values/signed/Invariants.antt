use Rattle.std.proofs.Common.{◌≡◌, take, map}
use Rattle.std.specs.Int.{w32, cast_signed}
use Rattle.wire_message.proofs.wire_values.signed.Given as goal

abbrev pub invariant-loop-word : goal.invariant-loop-word
invariant-loop-word l = l.signed.items ≡ map (cast_signed w32) (take l.word-index l.words)

use Rattle.std.proofs.Common.{◌≡◌, map}
use Rattle.client_replies.specs.ReplyTurns.{with_no_value}
use Rattle.client_replies.proofs.hearing.with_no_values.Given as goal

abbrev pub invariant-loop-descriptor : goal.invariant-loop-descriptor
invariant-loop-descriptor l = l.known.items ≡ map with_no_value l.yielded

use Rattle.std.proofs.Common.{◌≡◌, drop}
use Rattle.md5_auth.specs.ChallengeReading.{after_mark}
use Rattle.md5_auth.proofs.authorization.challenge.Given as goal

abbrev pub invariant-loop-start : goal.invariant-loop-start
invariant-loop-start l = after_mark (drop l.start l.resource) ≡ after_mark l.resource

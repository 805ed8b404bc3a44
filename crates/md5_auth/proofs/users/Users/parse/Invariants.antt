use Rattle.std.proofs.Common.{length}
use Rattle.md5_auth.proofs.UserReadingLemmas.{IsReadTo}
use Rattle.md5_auth.proofs.users.Users.parse.Given as goal

abbrev pub invariant-loop-line : goal.invariant-loop-line
invariant-loop-line l = IsReadTo l.text l.rest l.number l.entries.items

abbrev pub decreases-loop-line : goal.decreases-loop-line
decreases-loop-line l = length l.rest

use Rattle.std.proofs.Common.{take}
use Rattle.std.specs.Prelude.{◌↔◌, IsTrue, Any}
use Rattle.md5_auth.specs.Allowed.{GivesAnswer}
use Rattle.md5_auth.proofs.authorization.check.Given as goal

abbrev pub invariant-loop-entry : goal.invariant-loop-entry
invariant-loop-entry l = IsTrue l.allowed ↔ Any (GivesAnswer l.user l.backend l.challenge l.answer) (take l.entry-index l.entry-items)

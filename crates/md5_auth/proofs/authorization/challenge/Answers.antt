use Rattle.md5_auth.proofs.MarkLemmas.{challenge_here, not_here, nowhere}
use Rattle.md5_auth.proofs.authorization.challenge.Goals as goal

pub returns-in-Some : goal.returns-in-Some
returns-in-Some c = challenge_here _ _ c.loop-start.start _ c.loop-start.invariant c.in-Some.ensures.cases.0 c.in-Some.ensures.cases.1 c.min.ensures

pub loop-start-preserved : goal.loop-start-preserved
loop-start-preserved c = not_here _ c.loop-start.start c.loop-start-test.true c.loop-start.invariant c.in_default.ensures.cases

pub returns : goal.returns
returns c = nowhere _ c.loop-start.start c.loop-start-test.false c.loop-start.invariant

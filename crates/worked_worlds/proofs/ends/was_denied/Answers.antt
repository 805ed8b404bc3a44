use Rattle.std.proofs.Common.{rules}
use Rattle.sane_fixed.specs.declared.status.Status.TheVariants as statuses
use Rattle.worked_worlds.proofs.Worked.{says_answered}
use Rattle.worked_worlds.proofs.ends.was_denied.Goals as goal

pub returns-in-Some-Ended-AccessDenied-Answer : goal.returns-in-Some-Ended-AccessDenied-Answer
returns-in-Some-Ended-AccessDenied-Answer g c = λ yes.
    says_answered _ c.in-Some-Ended-AccessDenied-Answer.field-0.now statuses.AccessDenied
    (let a = c.in-Some-Ended-AccessDenied-Answer.field-0-is in let b = c.in-Some-Ended-AccessDenied-Answer.field-0-0-is in let d = c.in-Some-Ended-AccessDenied-Answer.field-0-1-is in search rules)
    c.in-Some-Ended-AccessDenied-Answer.ensures.kept

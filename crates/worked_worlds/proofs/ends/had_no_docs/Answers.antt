use Rattle.std.proofs.Common.{rules}
use Rattle.sane_fixed.specs.declared.status.Status.TheVariants as statuses
use Rattle.worked_worlds.proofs.Worked.{says_answered}
use Rattle.worked_worlds.proofs.ends.had_no_docs.Goals as goal

pub returns-in-Some-Ended-NoDocs-Answer : goal.returns-in-Some-Ended-NoDocs-Answer
returns-in-Some-Ended-NoDocs-Answer g c = λ yes.
    says_answered _ c.in-Some-Ended-NoDocs-Answer.field-0.now statuses.NoDocs
    (let a = c.in-Some-Ended-NoDocs-Answer.field-0-is in let b = c.in-Some-Ended-NoDocs-Answer.field-0-0-is in let d = c.in-Some-Ended-NoDocs-Answer.field-0-1-is in search rules)
    c.in-Some-Ended-NoDocs-Answer.ensures.kept

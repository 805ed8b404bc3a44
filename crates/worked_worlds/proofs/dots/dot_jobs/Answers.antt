use Rattle.std.proofs.Common.{rules}
use Rattle.worked_worlds.proofs.dots.dot_jobs.Goals as goal

pub returns : goal.returns
returns c = record {
  first = c.in_ok-first.first;
  second = c.in_ok-second.second;
  are = let a = c.push.ensures.items in let b = c.is_err.ensures in let d = c.in_ok-jobs.ensures in let e = c.if-is_err.false in search rules;
  first_is = c.in_ok-first.ensures;
  second_is = c.in_ok-second.ensures;
}

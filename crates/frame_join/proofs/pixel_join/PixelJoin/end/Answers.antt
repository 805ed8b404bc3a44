use Rattle.std.proofs.Common.{◌∙◌}
use Rattle.frame_join.proofs.JoinLaws.{end_carried}
use Rattle.frame_join.proofs.EndLaws.{end_answer, end_exact}
use Rattle.frame_join.proofs.pixel_join.PixelJoin.end.Goals as goal

pub returns-clause-carried : goal.returns-clause-carried
returns-clause-carried c = λ past stands. end_carried past c.args.self.now c.close.new.self c.close.ensures stands

pub returns-clause-answer : goal.returns-clause-answer
returns-clause-answer c = λ past stands. c.answer.ensures ∙ end_answer past c.args.self.now c.close.new.self c.close.ensures stands

pub returns-clause-exact : goal.returns-clause-exact
returns-clause-exact c = λ past stands.
    rw c.answer.ensures (end_exact past c.args.self.now c.close.new.self c.close.ensures stands)

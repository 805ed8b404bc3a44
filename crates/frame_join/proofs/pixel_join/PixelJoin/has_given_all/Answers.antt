use Rattle.std.proofs.Common.{◌≡◌, Ok, true, rules}
use Rattle.frame_join.specs.Inside.{answer_at}
use Rattle.frame_join.proofs.GivenLaws.{given_exactly, given_shown, given_whole, never_whole}
use Rattle.frame_join.proofs.pixel_join.PixelJoin.has_given_all.Goals as goal

pub returns-in_default-clause-whole : goal.returns-in_default-clause-whole
returns-in_default-clause-whole c = λ past stands. never_whole past c.args.self.now stands (search rules)

pub returns-in_default-2-clause-whole : goal.returns-in_default-2-clause-whole
returns-in_default-2-clause-whole c = λ past stands. never_whole past c.args.self.now stands (search rules)

pub returns-clause-exact : goal.returns-clause-exact
returns-clause-exact c = λ past stands.
    let whole : answer_at c.args.self.now.stage ≡ Ok true = search rules in
    given_exactly past c.args.self.now c.may_go.result stands whole c.may_go.ensures

pub returns-clause-whole : goal.returns-clause-whole
returns-clause-whole c = λ past stands.
    let whole : answer_at c.args.self.now.stage ≡ Ok true = search rules in
    given_whole past c.args.self.now c.may_go.result stands whole c.may_go.ensures

pub returns-clause-denotes : goal.returns-clause-denotes
returns-clause-denotes c = λ past stands.
    let whole : answer_at c.args.self.now.stage ≡ Ok true = search rules in
    given_shown past c.args.self.now c.may_go.result stands whole c.may_go.ensures

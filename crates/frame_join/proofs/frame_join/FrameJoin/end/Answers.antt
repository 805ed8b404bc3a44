use Rattle.std.proofs.Common.{◌≡◌, ◌∙◌, sym, ap, subst, true, false}
use Rattle.frame_join.specs.Pixels.{pixel_history}
use Rattle.frame_join.specs.JoinStates.{JoinState, Represents}
use Rattle.frame_join.specs.JoinInside.{join_view}
use Rattle.frame_join.proofs.EndSteps.{lacks, ends_short, short_answer, short_exact, ends_all, ends_answer, ends_exact}
use Rattle.frame_join.proofs.frame_join.FrameJoin.end.Goals as goal

pub returns-then-lacks_bytes-clause-carried : goal.returns-then-lacks_bytes-clause-carried
returns-then-lacks_bytes-clause-carried c = λ past stands.
    let s : Represents past (join_view c.self.inside) = subst (λ (v : JoinState). Represents past v) (sym c.self.view_is) stands in
    let short : lacks (join_view c.self.inside) ≡ true = ap lacks c.self.view_is ∙ (sym c.lacks_bytes.ensures ∙ c.if-lacks_bytes.true) in
    ends_short past (join_view c.self.inside) c.fail.new.self s short c.fail.ensures

pub returns-then-lacks_bytes-clause-answer : goal.returns-then-lacks_bytes-clause-answer
returns-then-lacks_bytes-clause-answer c = λ past stands. short_answer past c.args.self.now stands (sym c.lacks_bytes.ensures ∙ c.if-lacks_bytes.true)

pub returns-then-lacks_bytes-clause-exact : goal.returns-then-lacks_bytes-clause-exact
returns-then-lacks_bytes-clause-exact c = λ past stands. short_exact past c.args.self.now stands (sym c.lacks_bytes.ensures ∙ c.if-lacks_bytes.true)

pub returns-clause-carried : goal.returns-clause-carried
returns-clause-carried c = λ past stands.
    let s : Represents past (join_view c.self.inside) = subst (λ (v : JoinState). Represents past v) (sym c.self.view_is) stands in
    let all : lacks (join_view c.self.inside) ≡ false = ap lacks c.self.view_is ∙ (sym c.lacks_bytes.ensures ∙ c.if-lacks_bytes.false) in
    ends_all past (join_view c.self.inside) c.end.new.self s all (c.end.ensures.carried (pixel_history past) s.pixels)

pub returns-clause-answer : goal.returns-clause-answer
returns-clause-answer c = λ past stands.
    let s : Represents past (join_view c.self.inside) = subst (λ (v : JoinState). Represents past v) (sym c.self.view_is) stands in
    c.end.ensures.answer (pixel_history past) s.pixels ∙ ends_answer past c.args.self.now stands (sym c.lacks_bytes.ensures ∙ c.if-lacks_bytes.false)

pub returns-clause-exact : goal.returns-clause-exact
returns-clause-exact c = λ past stands.
    let s : Represents past (join_view c.self.inside) = subst (λ (v : JoinState). Represents past v) (sym c.self.view_is) stands in
    ends_exact past c.args.self.now c.end.result stands (sym c.lacks_bytes.ensures ∙ c.if-lacks_bytes.false) (c.end.ensures.exact (pixel_history past) s.pixels)

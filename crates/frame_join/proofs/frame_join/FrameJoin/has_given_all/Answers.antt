use Rattle.std.proofs.Common.{sym, subst}
use Rattle.frame_join.specs.Pixels.{pixel_history}
use Rattle.frame_join.specs.JoinStates.{JoinState, Represents}
use Rattle.frame_join.specs.JoinInside.{join_view}
use Rattle.frame_join.proofs.EndSteps.{given_exactly, shown_less}
use Rattle.frame_join.proofs.frame_join.FrameJoin.has_given_all.Goals as goal

pub returns-clause-exact : goal.returns-clause-exact
returns-clause-exact c = λ past stands.
    let s : Represents past (join_view c.self.inside) = subst (λ (v : JoinState). Represents past v) (sym c.self.view_is) stands in
    given_exactly past c.args.self.now c.has_given_all.result stands (c.has_given_all.ensures.exact (pixel_history past) s.pixels)

pub returns-clause-denotes : goal.returns-clause-denotes
returns-clause-denotes c = λ past stands done p shows.
    let s : Represents past (join_view c.self.inside) = subst (λ (v : JoinState). Represents past v) (sym c.self.view_is) stands in
    c.has_given_all.ensures.denotes (pixel_history past) s.pixels done p (shown_less past c.args.self.now stands p shows)

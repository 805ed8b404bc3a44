use Rattle.std.proofs.Common.{sym, subst, take}
use Rattle.frame_join.specs.Pixels.{pixel_history}
use Rattle.frame_join.specs.JoinStates.{JoinState, Represents}
use Rattle.frame_join.specs.JoinInside.{join_view}
use Rattle.frame_join.proofs.JoinedLaws.{pull_stands, all_gone, joined_less, joined_more, goes_less}
use Rattle.frame_join.proofs.EndSteps.{shown_less}
use Rattle.frame_join.proofs.pnm_out.PnmOut.pull.Goals as goal

pub returns-clause-carried : goal.returns-clause-carried
returns-clause-carried c = λ past stands.
    let s : Represents past (join_view c.join.inside) = subst (λ (v : JoinState). Represents past v) (sym c.join.view_is) stands in
    pull_stands past (join_view c.join.inside) (take c.pull.result c.pull.new.buf) c.pull.new.self s (c.pull.ensures.carried (pixel_history past) s.pixels)

pub returns-clause-gone : goal.returns-clause-gone
returns-clause-gone c = λ past stands calm none room.
    let s : Represents past (join_view c.join.inside) = subst (λ (v : JoinState). Represents past v) (sym c.join.view_is) stands in
    all_gone past (join_view c.join.inside) s calm (c.pull.ensures.gone (pixel_history past) s.pixels calm none room)

pub returns-clause-denotes : goal.returns-clause-denotes
returns-clause-denotes c = λ past stands joined none room p shows.
    let s : Represents past (join_view c.join.inside) = subst (λ (v : JoinState). Represents past v) (sym c.join.view_is) stands in
    c.pull.ensures.denotes (pixel_history past) s.pixels (joined_less past joined) none room p (shown_less past (join_view c.join.inside) s p shows)

pub returns-clause-whole : goal.returns-clause-whole
returns-clause-whole c = λ past stands unjoined.
    let s : Represents past (join_view c.join.inside) = subst (λ (v : JoinState). Represents past v) (sym c.join.view_is) stands in
    c.pull.ensures.whole (pixel_history past) s.pixels (λ j. unjoined (joined_more past j))

pub returns-clause-drained : goal.returns-clause-drained
returns-clause-drained c = λ past stands through none room.
    let s : Represents past (join_view c.join.inside) = subst (λ (v : JoinState). Represents past v) (sym c.join.view_is) stands in
    c.pull.ensures.drained (pixel_history past) s.pixels (goes_less past.under through) none room

use Rattle.std.proofs.Common.{◌≡◌, ◌∙◌, sym, ap, subst, true, false, rules, arith}
use Rattle.frame_join.specs.declared.join_stage.JoinFault.TheVariants.{Long}
use Rattle.frame_join.specs.FrameHistory.{with_fault}
use Rattle.frame_join.specs.JoinStages.{is_keeping}
use Rattle.frame_join.specs.PixelJoinStates.{PixelJoinState, PixelRepresents, is_pixel_out_of_memory}
use Rattle.frame_join.specs.Pixels.{pixel_history}
use Rattle.frame_join.specs.JoinStates.{JoinState, Represents}
use Rattle.frame_join.specs.JoinInside.{join_view}
use Rattle.frame_join.proofs.PixelSteps.{feed_stands, fails_kept}
use Rattle.frame_join.proofs.PixelKeeping.{is_in, too_long, long_stands}
use Rattle.frame_join.proofs.frame_join.FrameJoin.feed.Goals as goal

pub returns-then-not-is_keeping-clause-carried : goal.returns-then-not-is_keeping-clause-carried
returns-then-not-is_keeping-clause-carried c = λ past stands.
    let s : Represents past (join_view c.self.inside) = subst (λ (v : JoinState). Represents past v) (sym c.self.view_is) stands in
    let through : is_keeping c.self.inside.pixels.stage ≡ false = search rules in
    let new : JoinState = record { pixels = c.feed.new.self; line = c.self.inside.line; came = c.self.inside.came } in
    feed_stands c.args.bytes.now (is_pixel_out_of_memory c.feed.new.self) past (join_view c.self.inside) new s through (c.feed.ensures.carried (pixel_history past) s.pixels)

pub returns-then-room-bytes-clause-carried : goal.returns-then-room-bytes-clause-carried
returns-then-room-bytes-clause-carried c = λ past stands.
    let s : Represents past (join_view c.self.inside) = subst (λ (v : JoinState). Represents past v) (sym c.self.view_is) stands in
    let keeping : is_keeping c.self.inside.pixels.stage ≡ true = search rules in
    let told : is_keeping c.args.self.now.pixels.stage ≡ true = ap (λ (v : JoinState). is_keeping v.pixels.stage) (sym c.self.view_is) ∙ keeping in
    let i = is_in past c.args.self.now stands told in
    let new : JoinState = record { pixels = c.fail.new.self; line = c.self.inside.line; came = c.self.inside.came } in
    let long = too_long past c.args.self.now i c.args.bytes.now (omega (arith, c.if-room-bytes.true, c.room.ensures.most)) in
    long_stands c.args.bytes.now (is_pixel_out_of_memory c.fail.new.self) past c.args.self.now new stands i long
    (subst (λ (w : PixelJoinState). PixelRepresents (with_fault Long (pixel_history past)) w) (sym c.fail.ensures) (fails_kept Long (pixel_history past) c.self.inside.pixels s.pixels keeping))

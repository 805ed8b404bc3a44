use Rattle.std.proofs.Common.{◌≡◌, ◌∙◌, ap, refl, sym, subst, true, false}
use Rattle.sane_fixed.specs.declared.params.Params.{Params}
use Rattle.frame_join.specs.FrameHistory.{after_begin}
use Rattle.frame_join.specs.PixelJoinStates.{PixelRepresents, is_pixel_out_of_memory}
use Rattle.frame_join.specs.Pixels.{pixel_history}
use Rattle.frame_join.specs.JoinStates.{JoinState, Represents, is_out_of_memory}
use Rattle.frame_join.specs.JoinInside.{join_view}
use Rattle.frame_join.proofs.JoinedLaws.{some_more}
use Rattle.frame_join.proofs.PixelSteps.{begin_stands}
use Rattle.frame_join.proofs.frame_join.FrameJoin.begin.Goals as goal

pub returns-then-is_kept-clause-carried : goal.returns-then-is_kept-clause-carried
returns-then-is_kept-clause-carried c = λ past stands.
    let s : Represents past (join_view c.self.inside) = subst (λ (v : JoinState). Represents past v) (sym c.self.view_is) stands in
    let new : JoinState = record { pixels = c.begin.new.self; line = c.args.params.now.bytes_per_line; came = 0 } in
    begin_stands c.args.params.now c.args.order (is_pixel_out_of_memory c.begin.new.self) past (join_view c.self.inside) new s
    (subst (λ (p : Params). PixelRepresents (after_begin p c.args.order (is_pixel_out_of_memory c.begin.new.self) (pixel_history past)) c.begin.new.self) c.pixel_params.ensures (c.begin.ensures.carried (pixel_history past) s.pixels))
    (λ _. (refl, refl))

pub returns-then-is_kept-clause-later : goal.returns-then-is_kept-clause-later
returns-then-is_kept-clause-later c = λ past stands some.
    let s : Represents past (join_view c.self.inside) = subst (λ (v : JoinState). Represents past v) (sym c.self.view_is) stands in
    c.begin.ensures.later (pixel_history past) s.pixels (some_more past.ended some) ∙ ap is_out_of_memory c.self.view_is

pub returns-else-is_kept-clause-carried : goal.returns-else-is_kept-clause-carried
returns-else-is_kept-clause-carried c = λ past stands.
    let s : Represents past (join_view c.self.inside) = subst (λ (v : JoinState). Represents past v) (sym c.self.view_is) stands in
    let new : JoinState = record { pixels = c.begin.new.self; line = c.self.inside.line; came = c.self.inside.came } in
    begin_stands c.args.params.now c.args.order (is_pixel_out_of_memory c.begin.new.self) past (join_view c.self.inside) new s
    (subst (λ (p : Params). PixelRepresents (after_begin p c.args.order (is_pixel_out_of_memory c.begin.new.self) (pixel_history past)) c.begin.new.self) c.pixel_params.ensures (c.begin.ensures.carried (pixel_history past) s.pixels))
    (λ kept. absurd (let clash : false ≡ true = sym c.if-is_kept.false ∙ (c.is_kept.ensures ∙ kept) in cc))

pub returns-else-is_kept-clause-later : goal.returns-else-is_kept-clause-later
returns-else-is_kept-clause-later c = λ past stands some.
    let s : Represents past (join_view c.self.inside) = subst (λ (v : JoinState). Represents past v) (sym c.self.view_is) stands in
    c.begin.ensures.later (pixel_history past) s.pixels (some_more past.ended some) ∙ ap is_out_of_memory c.self.view_is

use Rattle.std.proofs.Common.{◌≡◌, true, rules, arith, sym, ap, ◌∙◌}
use Rattle.std.specs.Prelude.{◌||◌}
use Rattle.frame_join.specs.KeptFrame.{is_open_ended, is_pass}
use Rattle.frame_join.specs.PixelJoinStates.{PixelJoinState}
use Rattle.frame_join.specs.JoinStages.{is_keeping, is_between}
use Rattle.frame_join.proofs.KeptLaws.{accepted_is_kept, kept_shape, kept_lines}
use Rattle.frame_join.proofs.pixel_join.PixelJoin.open_next.Goals as goal

pub invariant_of-self : goal.invariant_of-self
invariant_of-self c =
    let p = c.args.params.now in
    let kept : (is_open_ended p || is_pass p) ≡ true = accepted_is_kept c.args.self.now p c.args.order (sym c.accepts_next.ensures ∙ c.if-accepts_next.true) in
    let shape = kept_shape p kept in
    let between : (is_keeping c.self.inside.stage || is_between c.self.inside.stage) ≡ true = ap (λ (v : PixelJoinState). is_keeping v.stage || is_between v.stage) c.self.view_is ∙ ap (λ s. is_keeping s || is_between s) c.requires in
    let collecting = c.self.invariant.collecting between in
    record {
      start = c.self.invariant.start;
      headed = c.self.invariant.headed;
      shape = shape;
      column = omega (arith, collecting.column, shape.row_some);
      row = c.self.invariant.row;
      lines = kept_lines p kept;
      room = search rules;
      kept = λ _. kept;
      collecting = λ _. record { start = collecting.start; column = collecting.column; room = collecting.room };
      deep = search rules;
    }

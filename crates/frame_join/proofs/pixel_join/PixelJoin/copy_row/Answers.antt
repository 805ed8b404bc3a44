use Rattle.std.proofs.Common.{ℕ, ◌≡◌, ◌<◌, ◌+◌, ◌-◌, ◌∙◌, List, ap, rules, arith, refl, sym, subst, take}
use Rattle.std.specs.Prelude.{slice_set, slice_index}
use Rattle.frame_join.specs.AloneFrame.{row_bytes}
use Rattle.frame_join.specs.FrameHistory.{after_pull}
use Rattle.frame_join.specs.PixelJoinStates.{PixelJoinState, PixelRepresents}
use Rattle.frame_join.specs.Inside.{after_samples, sample_at}
use Rattle.frame_join.proofs.PullLaws.{no_samples, row_step, step_take, step_drop}
use Rattle.frame_join.proofs.pixel_join.PixelJoin.copy_row.Goals as goal

pub loop-i-init : goal.loop-i-init
loop-i-init c =
    let column : c.args.self.now.column < row_bytes c.args.self.now.params = subst (λ (v : PixelJoinState). v.column < row_bytes v.params) c.self.view_is c.self.invariant.column in
    record {
      size = refl;
      rest = refl;
      carried = λ past stands. subst (λ (v : PixelJoinState). PixelRepresents (after_pull (take c.args.at c.args.buf.now) past) v) (sym (no_samples c.args.self.now (c.args.at - c.args.at) (omega arith) column)) stands;
    }

pub loop-i-preserved : goal.loop-i-preserved
loop-i-preserved c =
    let i = c.loop-i.i in
    let buf = c.loop-i.buf in
    let byte = slice_index c.lines-lines.result.now (c.self.inside.column + (i - c.args.at)) in
    let new = slice_set buf i byte in
    let on : i - c.args.at + 1 ≡ i + 1 - c.args.at = omega arith in
    let held : byte ≡ slice_index c.args.self.now.held (c.self.inside.column + (i - c.args.at)) = ap (λ (xs : List ℕ). slice_index xs (c.self.inside.column + (i - c.args.at))) c.lines-lines.ensures in
    let same : byte ≡ sample_at c.args.self.now (c.self.inside.column + (i - c.args.at)) = held ∙ sym (c.requires.straight (c.self.inside.column + (i - c.args.at))) in
    record {
      size = search rules;
      rest = step_drop buf c.args.buf.now i byte c.loop-i.invariant.rest;
      carried = λ past stands.
          subst (λ (n : ℕ). PixelRepresents (after_pull (take (i + 1) new) past) (after_samples n c.args.self.now)) on
          (row_step past c.args.self.now (i - c.args.at) (take i buf) (take (i + 1) new) byte c.requires.moves c.requires.head c.requires.ready (omega arith) (search rules) (step_take buf i byte (omega arith)) (c.loop-i.invariant.carried past stands));
    }

pub returns-clause-carried : goal.returns-clause-carried
returns-clause-carried c = λ past stands.
    let last : c.loop-i.i ≡ c.args.end = omega arith in
    subst (λ (n : ℕ). PixelRepresents (after_pull (take n c.loop-i.buf) past) (after_samples (n - c.args.at) c.args.self.now)) last (c.loop-i.invariant.carried past stands)

use Rattle.std.proofs.Common.{◌≡◌, ◌∙◌, ℕ, ◌+◌, ◌-◌, ◌%◌, ◌<◌, ◌≤◌, List, [], length, take, arith, refl, sym, ap, subst}
use Rattle.std.proofs.lemmas.List.{take_all}
use Rattle.sane_fixed.specs.declared.params.Params.{Params}
use Rattle.frame_join.specs.FrameHistory.{after_feed}
use Rattle.frame_join.specs.PixelJoinStates.{PixelJoinState, PixelRepresents, is_pixel_out_of_memory}
use Rattle.frame_join.specs.Pixels.{pixel_history}
use Rattle.frame_join.specs.JoinStates.{JoinState}
use Rattle.frame_join.specs.AloneFrame.{row_bytes}
use Rattle.frame_join.proofs.PixelKeeping.{pieces, run_to, skip_to, keep_begins, keep_stands, is_in, may_come}
use Rattle.frame_join.proofs.frame_join.FrameJoin.keep.Goals as goal

pub loop-at-init : goal.loop-at-init
loop-at-init c = record {
  within = omega arith;
  line = ap (λ (v : JoinState). v.line) c.self.view_is;
  came = ap (λ (v : JoinState). v.came) c.self.view_is;
  carried = λ past i stands may.
      subst (λ (w : PixelJoinState). PixelRepresents (after_feed (pieces i.frame []) (is_pixel_out_of_memory w) (pixel_history past)) w) (sym (ap (λ (v : JoinState). v.pixels) c.self.view_is)) (keep_begins past c.args.self.now i stands c.requires.keeping);
  first = λ _. ap (λ (v : JoinState). v.pixels) c.self.view_is;
}

pub overflow_add-place : goal.overflow_add-place
overflow_add-place c = omega (arith, c.loop-at.invariant.came, c.loop-at.invariant.within, c.requires.small)

pub nonzero_rem-place : goal.nonzero_rem-place
nonzero_rem-place c = omega (arith, c.loop-at.invariant.line, ap (λ (v : JoinState). v.line) c.self.view_is, c.self.invariant.line)

pub loop-at-preserved-then-place-size : goal.loop-at-preserved-then-place-size
loop-at-preserved-then-place-size c =
    let at = c.loop-at.at in
    let end = c.min-end.result in
    let bytes = c.args.bytes.now in
    let line : c.loop-at.self-inside.line ≡ c.args.self.now.line = c.loop-at.invariant.line in
    let came : c.loop-at.self-inside.came ≡ c.args.self.now.came = c.loop-at.invariant.came in
    let place : (c.loop-at.self-inside.came + at) % c.loop-at.self-inside.line ≡ (c.args.self.now.came + at) % c.args.self.now.line = ap (λ (n : ℕ). (n + at) % c.loop-at.self-inside.line) came ∙ ap (λ (n : ℕ). (c.args.self.now.came + at) % n) line in
    let low : at ≤ end = omega (arith, c.min-end.ensures, c.loop-at-test.true) in
    let high : end ≤ length bytes = omega (arith, c.min-end.ensures) in
    let most : (c.args.self.now.came + at) % c.args.self.now.line + (end - at) ≤ c.params-size.result.bytes_per_line = omega (arith, c.min-end.ensures, c.if-place-size.true, place) in
    record {
      within = high;
      line = line;
      came = came;
      carried = λ past i stands may.
          let size : c.params-size.result.bytes_per_line ≡ row_bytes i.frame.params = ap (λ (p : Params). p.bytes_per_line) (c.params-size.ensures ∙ (ap (λ (v : JoinState). v.pixels.params) c.self.view_is ∙ i.params)) in
          run_to past c.args.self.now i bytes at end (is_pixel_out_of_memory c.loop-at.self-inside.pixels) (is_pixel_out_of_memory c.feed.new.self) c.feed.new.self may low high (omega (arith, most, size))
          (c.feed.ensures.carried (after_feed (pieces i.frame (take at bytes)) (is_pixel_out_of_memory c.loop-at.self-inside.pixels) (pixel_history past)) (c.loop-at.invariant.carried past i stands may)) refl;
      first = λ e. absurd (omega (arith, e, c.min-end.ensures, c.loop-at-test.true, c.if-place-size.true));
    }

pub overflow_sub-self-inside : goal.overflow_sub-self-inside
overflow_sub-self-inside c = omega (arith, c.loop-at.invariant.line, ap (λ (v : JoinState). v.line) c.self.view_is, c.self.invariant.line)

pub overflow_add-at-else-place-size : goal.overflow_add-at-else-place-size
overflow_add-at-else-place-size c = omega (arith, c.loop-at.invariant.line, ap (λ (v : JoinState). v.line) c.self.view_is, c.self.invariant.line_most, c.loop-at.invariant.within, c.requires.small)

pub loop-at-smaller : goal.loop-at-smaller
loop-at-smaller c =
    let below : (c.loop-at.self-inside.came + c.loop-at.at) % c.loop-at.self-inside.line < c.loop-at.self-inside.line = omega (arith, c.loop-at.invariant.line, ap (λ (v : JoinState). v.line) c.self.view_is, c.self.invariant.line) in
    omega (arith, c.min-at.ensures, c.loop-at-test.true, below)

pub loop-at-preserved : goal.loop-at-preserved
loop-at-preserved c =
    let at = c.loop-at.at in
    let end = c.min-at.result in
    let bytes = c.args.bytes.now in
    let line : c.loop-at.self-inside.line ≡ c.args.self.now.line = c.loop-at.invariant.line in
    let came : c.loop-at.self-inside.came ≡ c.args.self.now.came = c.loop-at.invariant.came in
    let place : (c.loop-at.self-inside.came + at) % c.loop-at.self-inside.line ≡ (c.args.self.now.came + at) % c.args.self.now.line = ap (λ (n : ℕ). (n + at) % c.loop-at.self-inside.line) came ∙ ap (λ (n : ℕ). (c.args.self.now.came + at) % n) line in
    let below : (c.loop-at.self-inside.came + at) % c.loop-at.self-inside.line < c.loop-at.self-inside.line = omega (arith, line, ap (λ (v : JoinState). v.line) c.self.view_is, c.self.invariant.line) in
    let low : at ≤ end = omega (arith, c.min-at.ensures, c.loop-at-test.true) in
    let high : end ≤ length bytes = omega (arith, c.min-at.ensures) in
    let behind : c.params-size.result.bytes_per_line ≤ (c.args.self.now.came + at) % c.args.self.now.line = omega (arith, c.if-place-size.false, place) in
    let most : (c.args.self.now.came + at) % c.args.self.now.line + (end - at) ≤ c.args.self.now.line = omega (arith, c.min-at.ensures, place, below, line) in
    record {
      within = high;
      line = line;
      came = came;
      carried = λ past i stands may.
          let size : c.params-size.result.bytes_per_line ≡ row_bytes i.frame.params = ap (λ (p : Params). p.bytes_per_line) (c.params-size.ensures ∙ (ap (λ (v : JoinState). v.pixels.params) c.self.view_is ∙ i.params)) in
          subst (λ (l : List ℕ). PixelRepresents (after_feed l (is_pixel_out_of_memory c.loop-at.self-inside.pixels) (pixel_history past)) c.loop-at.self-inside.pixels)
          (sym (skip_to past c.args.self.now i bytes at end low high (omega (arith, behind, size)) most)) (c.loop-at.invariant.carried past i stands may);
      first = λ e. absurd (omega (arith, e, c.min-at.ensures, c.loop-at-test.true, below));
    }

pub overflow_add-self : goal.overflow_add-self
overflow_add-self c = omega (arith, c.loop-at.invariant.came, c.requires.small)

pub invariant_of-self : goal.invariant_of-self
invariant_of-self c =
    let line : c.loop-at.self-inside.line ≡ c.self.inside.line = c.loop-at.invariant.line ∙ sym (ap (λ (v : JoinState). v.line) c.self.view_is) in
    record {
      line = omega (arith, line, c.self.invariant.line);
      line_most = omega (arith, line, c.self.invariant.line_most);
      came = omega (arith, c.loop-at.invariant.came, c.requires.small);
    }

pub returns-clause-carried : goal.returns-clause-carried
returns-clause-carried c = λ past stands.
    let bytes = c.args.bytes.now in
    let i = is_in past c.args.self.now stands c.requires.keeping in
    let may = may_come past c.args.self.now i bytes c.requires.room in
    let all : take c.loop-at.at bytes ≡ bytes = take_all c.loop-at.at bytes (omega (arith, c.loop-at-test.false)) in
    let new : JoinState = record { pixels = c.loop-at.self-inside.pixels; line = c.loop-at.self-inside.line; came = c.loop-at.self-inside.came + length bytes } in
    keep_stands bytes past c.args.self.now new stands i may
    (subst (λ (l : List ℕ). PixelRepresents (after_feed (pieces i.frame l) (is_pixel_out_of_memory c.loop-at.self-inside.pixels) (pixel_history past)) c.loop-at.self-inside.pixels) all (c.loop-at.invariant.carried past i stands may))
    c.loop-at.invariant.line (ap (λ (n : ℕ). n + length bytes) c.loop-at.invariant.came)

pub returns-clause-nothing : goal.returns-clause-nothing
returns-clause-nothing c = λ none.
    ap is_pixel_out_of_memory (c.loop-at.invariant.first (omega (arith, none, c.loop-at.invariant.within)))

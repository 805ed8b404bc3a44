use Rattle.std.proofs.Common.{ℕ, ◌≡◌, ◌<◌, ◌+◌, ◌-◌, ◌++◌, ◌∙◌, List, ap, arith, length, get_or, sym, subst, take}
use Rattle.std.proofs.lemmas.List.{take_all}
use Rattle.std.proofs.lemmas.Slice.{take-put_mid, drop-put_mid}
use Rattle.frame_join.specs.AloneFrame.{row_bytes}
use Rattle.frame_join.specs.ColorPlanes.{side_byte}
use Rattle.frame_join.specs.FrameHistory.{after_pull}
use Rattle.frame_join.specs.PixelJoinStates.{PixelJoinState, PixelRepresents}
use Rattle.frame_join.specs.Inside.{after_samples}
use Rattle.frame_join.proofs.PullLaws.{row_steps, woven}
use Rattle.frame_join.proofs.pixel_join.PixelJoin.weave_row.Goals as goal

pub returns-clause-rest : goal.returns-clause-rest
returns-clause-rest c =
    drop-put_mid c.args.at (c.args.end - c.args.at) c.args.buf.now c.put_side.new.buf c.args.end (omega arith) (omega arith) (omega (arith, c.put_side.auto.buf))

pub returns-clause-carried : goal.returns-clause-carried
returns-clause-carried c = λ past stands.
    let v = c.args.self.now in
    let n = c.args.end - c.args.at in
    let bytes = c.put_side.new.buf in
    let size : length bytes ≡ n = omega (arith, c.put_side.auto.buf) in
    let column : v.column < row_bytes v.params = subst (λ (u : PixelJoinState). u.column < row_bytes u.params) c.self.view_is c.self.invariant.column in
    let written = take-put_mid c.args.at n c.args.buf.now bytes c.args.end (omega arith) (omega arith) in
    let whole : take n bytes ≡ bytes = take_all n bytes (omega arith) in
    subst (λ (xs : List ℕ). PixelRepresents (after_pull xs past) (after_samples n v)) (ap (λ (ys : List ℕ). take c.args.at c.args.buf.now ++ ys) whole ∙ sym written)
    (row_steps past v n (take c.args.at c.args.buf.now) bytes c.requires.moves c.requires.head c.requires.ready column c.requires.row (omega arith) (λ j less. subst (λ (u : PixelJoinState). get_or bytes j 0 ≡ side_byte u.planes 8 u.row (u.column + j)) c.self.view_is (c.put_side.ensures j (omega (arith, size))) ∙ woven v (v.column + j) c.requires.colors c.requires.depth) stands)

use Rattle.std.proofs.Common.{ℕ, ◌≡◌, ◌<◌, ◌+◌, ◌-◌, ◌++◌, ◌∙◌, List, ap, arith, length, get_or, sym, subst, take}
use Rattle.std.specs.Prelude.{slice_index}
use Rattle.std.proofs.lemmas.List.{take_all, get_or-take}
use Rattle.std.proofs.lemmas.Slice.{take-put_mid, drop-put_mid}
use Rattle.frame_join.specs.AloneFrame.{row_bytes}
use Rattle.frame_join.specs.FrameFile.{trimmed_byte}
use Rattle.frame_join.specs.FrameHistory.{after_pull}
use Rattle.frame_join.specs.PixelJoinStates.{PixelJoinState, PixelRepresents}
use Rattle.frame_join.specs.Inside.{after_samples}
use Rattle.frame_join.proofs.PullLaws.{row_steps, cut_off}
use Rattle.frame_join.proofs.pixel_join.PixelJoin.trim_row.Goals as goal

pub returns-clause-rest : goal.returns-clause-rest
returns-clause-rest c =
    drop-put_mid c.args.at (c.args.end - c.args.at) c.args.buf.now c.put_trimmed.new.buf c.args.end (omega arith) (omega arith) (omega (arith, c.put_trimmed.auto.buf))

pub returns-clause-carried : goal.returns-clause-carried
returns-clause-carried c = λ past stands.
    let v = c.args.self.now in
    let n = c.args.end - c.args.at in
    let bytes = c.put_trimmed.new.buf in
    let lines = c.lines.result.now in
    let row = c.row_size.result in
    let size : length bytes ≡ n = omega (arith, c.put_trimmed.auto.buf) in
    let column : v.column < row_bytes v.params = subst (λ (u : PixelJoinState). u.column < row_bytes u.params) c.self.view_is c.self.invariant.column in
    let row_is : row ≡ row_bytes v.params = subst (λ (u : PixelJoinState). row ≡ row_bytes u.params) c.self.view_is c.row_size.ensures.value in
    let written = take-put_mid c.args.at n c.args.buf.now bytes c.args.end (omega arith) (omega arith) in
    let whole : take n bytes ≡ bytes = take_all n bytes (omega arith) in
    let width = v.params.pixels_per_line in
    let each : (j : ℕ) → j < n → get_or bytes j 0 ≡ trimmed_byte width 1 (v.column + j) (slice_index (take row lines) (v.column + j)) = λ j less.
    subst (λ (u : PixelJoinState). get_or bytes j 0 ≡ trimmed_byte u.params.pixels_per_line 1 (u.column + j) (slice_index (take row lines) (u.column + j))) c.self.view_is (c.put_trimmed.ensures j (omega (arith, size))) in
    let below : (j : ℕ) → j < n → v.column + j < row = λ j less. omega (arith, c.requires.row, row_is) in
    subst (λ (xs : List ℕ). PixelRepresents (after_pull xs past) (after_samples n v)) (ap (λ (ys : List ℕ). take c.args.at c.args.buf.now ++ ys) whole ∙ sym written)
    (row_steps past v n (take c.args.at c.args.buf.now) bytes c.requires.moves c.requires.head c.requires.ready column c.requires.row (omega arith) (λ j less.
    each j less
    ∙ (ap (trimmed_byte width 1 (v.column + j)) (get_or-take row lines (v.column + j) 0 (below j less) ∙ ap (λ (xs : List ℕ). slice_index xs (v.column + j)) c.lines.ensures)
    ∙ cut_off v (v.column + j) c.requires.plain c.requires.bits)) stands)

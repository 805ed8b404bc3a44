use Rattle.std.proofs.Common.{ℕ, ◌≡◌, ◌<◌, ◌+◌, ◌-◌, ◌++◌, ◌∙◌, inr, List, ap, arith, length, get_or, sym, subst, take}
use Rattle.std.specs.Prelude.{slice_index}
use Rattle.std.proofs.lemmas.List.{take_all, get_or-take}
use Rattle.std.proofs.lemmas.Slice.{take-put_mid, drop-put_mid}
use Rattle.sane_fixed.specs.declared.byte_order.ByteOrder.TheVariants.{Little}
use Rattle.frame_join.specs.AloneFrame.{row_bytes}
use Rattle.frame_join.specs.FrameFile.{place_in}
use Rattle.frame_join.specs.FrameHistory.{after_pull}
use Rattle.frame_join.specs.PixelJoinStates.{PixelJoinState, PixelRepresents}
use Rattle.frame_join.specs.Inside.{after_samples}
use Rattle.frame_join.proofs.StreamLaws.{place_below_at}
use Rattle.frame_join.proofs.PullLaws.{row_steps, turned}
use Rattle.frame_join.proofs.pixel_join.PixelJoin.turn_row.Goals as goal

pub returns-clause-rest : goal.returns-clause-rest
returns-clause-rest c =
    drop-put_mid c.args.at (c.args.end - c.args.at) c.args.buf.now c.put_turned.new.buf c.args.end (omega arith) (omega arith) (omega (arith, c.put_turned.auto.buf))

pub returns-clause-carried : goal.returns-clause-carried
returns-clause-carried c = λ past stands.
    let v = c.args.self.now in
    let n = c.args.end - c.args.at in
    let bytes = c.put_turned.new.buf in
    let lines = c.lines.result.now in
    let row = c.row_size.result in
    let size : length bytes ≡ n = omega (arith, c.put_turned.auto.buf) in
    let column : v.column < row_bytes v.params = subst (λ (u : PixelJoinState). u.column < row_bytes u.params) c.self.view_is c.self.invariant.column in
    let row_is : row ≡ row_bytes v.params = subst (λ (u : PixelJoinState). row ≡ row_bytes u.params) c.self.view_is c.row_size.ensures.value in
    let written = take-put_mid c.args.at n c.args.buf.now bytes c.args.end (omega arith) (omega arith) in
    let whole : take n bytes ≡ bytes = take_all n bytes (omega arith) in
    let each : (j : ℕ) → j < n → get_or bytes j 0 ≡ slice_index (take row lines) (place_in Little 16 (v.column + j)) = λ j less.
    subst (λ (u : PixelJoinState). get_or bytes j 0 ≡ slice_index (take row lines) (place_in Little 16 (u.column + j))) c.self.view_is (c.put_turned.ensures j (omega (arith, size))) in
    let below : (j : ℕ) → j < n → place_in Little 16 (v.column + j) < row = λ j less.
    let inside : v.column + j < row_bytes v.params = omega (arith, c.requires.row) in
    let place = subst (λ (d : ℕ). place_in Little d (v.column + j) < row_bytes v.params) c.requires.deep (place_below_at Little v.params.format v.params.pixels_per_line v.params.depth (v.column + j) (inr (inr c.requires.deep)) inside) in
    omega (arith, place, row_is) in
    subst (λ (xs : List ℕ). PixelRepresents (after_pull xs past) (after_samples n v)) (ap (λ (ys : List ℕ). take c.args.at c.args.buf.now ++ ys) whole ∙ sym written)
    (row_steps past v n (take c.args.at c.args.buf.now) bytes c.requires.moves c.requires.head c.requires.ready column c.requires.row (omega arith) (λ j less.
    each j less
    ∙ (get_or-take row lines (place_in Little 16 (v.column + j)) 0 (below j less)
    ∙ (ap (λ (xs : List ℕ). slice_index xs (place_in Little 16 (v.column + j))) c.lines.ensures
    ∙ turned v (v.column + j) c.requires.plain c.requires.deep c.requires.little))) stands)

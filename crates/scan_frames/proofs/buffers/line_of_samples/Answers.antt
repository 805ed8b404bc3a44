use Rattle.std.proofs.Common.{◌≡◌, ℕ, ◌+◌, ◌++◌, take, drop, List, length, refl, arith, sym, ap, ◌∙◌, subst}
use Rattle.page_picture.specs.Shows.{channels_within}
use Rattle.scan_frames.specs.Line.{packing_of, line_of}
use Rattle.scan_frames.specs.Frames.{format_at}
use Rattle.scan_frames.specs.PassReading.{FrameProgress}
use Rattle.scan_frames.specs.Inside.{value_at, SeesRow, MakesLine, state_of}
use Rattle.scan_frames.proofs.Scans.{next_frame, put_back, seen_line}
use Rattle.scan_frames.proofs.Frames.{short_line}
use Rattle.scan_frames.proofs.buffers.line_of_samples.Goals as goal

pub make_line-requires-clause-short : goal.make_line-requires-clause-short
make_line-requires-clause-short g c =
    let most = short_line (g.S.PageSource.source c.args.source.now) c.args.setup.now (state_of c.args.buffers.now) c.requires.frame c.requires.setup.loss in
    let same = ap length c.deref_mut-2.ensures.value in
    omega arith

pub returns-clause-ok : goal.returns-clause-ok
returns-clause-ok g c =
    let s = g.S.PageSource.source c.args.source.now in
    let t = g.S.PageSource.source c.see.new.source in
    let setup = c.args.setup.now in
    let old = c.args.buffers.now in
    let columns = old.columns in
    let format = format_at setup old.pass in
    let row_lent : length c.see.new.row ≡ length old.row.items = c.see.auto.row ∙ ap length c.deref_mut.ensures.value in
    let line_lent : length c.make_line.new.line ≡ length old.line.items = c.make_line.auto.line ∙ ap length c.deref_mut-2.ensures.value in
    let row_back = put_back old.row.len old.row.items c.see.new.row old.row.ok.0 row_lent in
    let line_back = put_back old.line.len old.line.items c.make_line.new.line old.line.ok.0 line_lent in
    let n = c.in_ok-buffers.field-0 in
    let target = c.row_of-target.ensures in
    let behind = c.in_ok-buffers.ensures.behind in
    let white = c.in_ok-buffers.ensures.row in
    let sees = subst (λ (r : ℕ). SeesRow s r c.see.new.row) target c.in_ok-buffers.ensures.seen in
    let row_is : c.deref.result.now ≡ c.see.new.row = c.deref.ensures.value ∙ row_back in
    let line : List ℕ → List ℕ → List ℕ = λ row line. line_of (packing_of setup.scene.depth) setup.order (channels_within format) columns.count (value_at setup.scene format row columns) (length line) in
    let bytes : c.make_line.new.line ≡ line c.see.new.row old.line.items =
    ◌∙◌ {b = line c.deref.result.now c.deref_mut-2.result.now} c.make_line.ensures.bytes (ap (λ (r : List ℕ). line r c.deref_mut-2.result.now) row_is ∙ ap (λ (l : List ℕ). line c.see.new.row l) c.deref_mut-2.ensures.value) in
    let at : List ℕ → List ℕ → FrameProgress = λ row line. record {
      pass = old.pass;
      columns = old.columns;
      tables = old.tables;
      height = old.height;
      row = row;
      taken = n;
      line = line;
      made = old.made + 1;
      left = c.len-buffers.result;
    } in
    let left : c.len-buffers.result ≡ length c.make_line.new.line = c.len-buffers.ensures ∙ (old.line.ok.0 ∙ sym line_lent) in
    let made : MakesLine s setup (state_of old) t (at c.see.new.row c.make_line.new.line) =
    next_frame s t setup (state_of old) (at c.see.new.row c.make_line.new.line) n c.requires.frame c.requires.more c.in_ok-buffers.ensures.after c.in_ok-buffers.ensures.further c.in_ok-buffers.ensures.within white (omega arith) c.make_line.ensures.zeros line_lent
    (λ steady. seen_line s setup (state_of old) c.see.new.row c.make_line.new.line c.requires.frame (sees steady) bytes) refl refl refl refl refl refl left in
    subst (λ (r : List ℕ). MakesLine s setup (state_of old) t (at r (take old.line.len (c.make_line.new.line ++ drop (length c.make_line.new.line) old.line.items)))) (sym row_back)
    (subst (λ (l : List ℕ). MakesLine s setup (state_of old) t (at c.see.new.row l)) (sym line_back) made)

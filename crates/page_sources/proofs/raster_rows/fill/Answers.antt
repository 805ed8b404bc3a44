use Rattle.std.proofs.Common.{rules, arith, length, sym, ◌+◌, ◌-◌, ◌++◌, ap, ◌∙◌, append_assoc, le_refl, take}
use Rattle.std.proofs.lemmas.Slice.{take-put_mid_below}
use borrow.Rule.Slice.PartMut.{put_mid}
use Rattle.page_picture.proofs.PartLemmas.{slice_range-put_mid}
use Rattle.page_sources.proofs.RowLemmas.{take_split}
use Rattle.page_sources.proofs.raster_rows.fill.Goals as goal

pub loop-made-preserved : goal.loop-made-preserved
loop-made-preserved g c =
    let from = c.loop-made.at in
    let bytes = c.loop-made.bytes in
    let room = length bytes - from in
    let before = c.loop-made.invariant in
    let part = slice_range-put_mid from room c.in-Ok.count bytes c.read_on.new.buf before.within c.in-Ok.ensures.bound.0 in
    let joined = take_split from (from + c.in-Ok.count) bytes (put_mid from room bytes c.read_on.new.buf) (omega arith) (take-put_mid_below _ _ _ _ _ (le_refl _) before.within) in
    record {
      size = search rules;
      few = omega arith;
      same = search rules;
      worked = λ kept. c.in-Ok.ensures.faults (before.kept ∙ kept) ∙ before.worked kept;
      within = search rules;
      kept = c.in-Ok.ensures.kept ∙ before.kept;
      text = c.in-Ok.ensures.text ∙ before.text;
      consumed = λ kept.
          before.consumed kept ∙ ap (λ more. take from bytes ++ more) (c.in-Ok.ensures.bytes (before.kept ∙ kept)).0
          ∙ sym (append_assoc (take from bytes) (take c.in-Ok.count c.read_on.new.buf) (g.R.Rereadable.left c.read_on.new.self))
          ∙ ap (λ front. front ++ g.R.Rereadable.left c.read_on.new.self) (ap (λ more. take from bytes ++ more) (sym part) ∙ joined);
    }

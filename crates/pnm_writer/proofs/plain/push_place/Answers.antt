use Rattle.std.proofs.Common.{ℕ}
use Rattle.page_picture.specs.Meaning.{sample_of, greatest_at}
use Rattle.netpbm.specs.FileText.{sample_text}
use Rattle.netpbm.proofs.WritingLaws.{joined_none, joined_step}
use Rattle.pnm_writer.proofs.plain.push_place.Goals as goal

pub loop-k-init : goal.loop-k-init
loop-k-init c = joined_none _ c.args.file.now.items

pub loop-k-preserved : goal.loop-k-preserved
loop-k-preserved c =
    let f = λ (k : ℕ). sample_text (greatest_at c.args.scene.now.depth) (sample_of c.args.page.now c.args.scene.now c.args.x c.args.y k) in
    joined_step f c.args.file.now.items c.loop-k.file.items c.push_sample.new.file.items c.loop-k.k c.loop-k.invariant (rw (c.greatest.ensures, c.sample.ensures.value) at c.in_ok-push_sample.ensures)

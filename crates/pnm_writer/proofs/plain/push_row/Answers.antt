use Rattle.std.proofs.Common.{ℕ}
use Rattle.page_picture.specs.Meaning.{sample_of, greatest_at, channels_in}
use Rattle.netpbm.specs.FileText.{concat_up_to, sample_text}
use Rattle.netpbm.proofs.WritingLaws.{joined_none, joined_step}
use Rattle.pnm_writer.proofs.plain.push_row.Goals as goal

pub loop-x-init : goal.loop-x-init
loop-x-init c = joined_none _ c.args.file.now.items

pub loop-x-preserved : goal.loop-x-preserved
loop-x-preserved c =
    let f = λ (x : ℕ). concat_up_to (λ k. sample_text (greatest_at c.args.scene.now.depth) (sample_of c.args.page.now c.args.scene.now x c.args.y k)) (channels_in c.args.scene.now.mode) in
    joined_step f c.args.file.now.items c.loop-x.file.items c.push_place.new.file.items c.loop-x.x c.loop-x.invariant c.in_ok-push_place.ensures

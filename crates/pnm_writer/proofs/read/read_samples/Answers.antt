use Rattle.std.proofs.Common.{ℕ, [], ◌∙◌}
use Rattle.netpbm.specs.Pnm.{sample_in, channels_of}
use Rattle.netpbm.specs.FileText.{samples_text}
use Rattle.netpbm.proofs.WritingLaws.{joined_none, joined_step}
use Rattle.pnm_writer.proofs.read.read_samples.Goals as goal

pub loop-y-init : goal.loop-y-init
loop-y-init c = c.new-items.ensures.items ∙ joined_none _ []

pub loop-y-preserved : goal.loop-y-preserved
loop-y-preserved c =
    let f = λ (y : ℕ). samples_text (channels_of c.args.header.now.format) 0 c.args.header.now.width (λ x k. sample_in c.args.header.now.format c.args.header.now.width c.args.header.now.maxval c.args.raster.now x y k) in
    joined_step f [] c.loop-y.items.items c.push_row.new.samples.items c.loop-y.y c.loop-y.invariant c.in_ok-push_row.ensures

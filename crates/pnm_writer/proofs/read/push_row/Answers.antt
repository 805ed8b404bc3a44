use Rattle.std.proofs.Common.{ℕ, [], ◌∷◌}
use Rattle.netpbm.specs.Pnm.{sample_in, channels_of}
use Rattle.netpbm.specs.FileText.{concat_up_to}
use Rattle.netpbm.proofs.WritingLaws.{joined_none, joined_step}
use Rattle.pnm_writer.proofs.read.push_row.Goals as goal

pub loop-x-init : goal.loop-x-init
loop-x-init c = joined_none _ c.args.samples.now.items

pub loop-x-preserved : goal.loop-x-preserved
loop-x-preserved c =
    let f = λ (x : ℕ). concat_up_to (λ k. sample_in c.args.header.now.format c.args.header.now.width c.args.header.now.maxval c.args.raster.now x c.args.y k ∷ []) (channels_of c.args.header.now.format) in
    joined_step f c.args.samples.now.items c.loop-x.samples.items c.push_place.new.samples.items c.loop-x.x c.loop-x.invariant c.in_ok-push_place.ensures

use Rattle.std.proofs.Common.{ℕ, [], ◌∷◌}
use Rattle.netpbm.specs.Pnm.{sample_in}
use Rattle.netpbm.proofs.WritingLaws.{joined_none, joined_step}
use Rattle.pnm_writer.proofs.read.push_place.Goals as goal

pub loop-k-init : goal.loop-k-init
loop-k-init c = joined_none _ c.args.samples.now.items

pub loop-k-preserved : goal.loop-k-preserved
loop-k-preserved c =
    let f = λ (k : ℕ). sample_in c.args.header.now.format c.args.header.now.width c.args.header.now.maxval c.args.raster.now c.args.x c.args.y k ∷ [] in
    joined_step f c.args.samples.now.items c.loop-k.samples.items c.push.new.self.items c.loop-k.k c.loop-k.invariant (rw c.sample_at.ensures at c.in_ok-push.ensures.items)

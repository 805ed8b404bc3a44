use Rattle.std.proofs.Common.{ℕ, [], ◌∷◌}
use Rattle.page_picture.specs.Meaning.{sample_of}
use Rattle.netpbm.specs.FileText.{bits_byte}
use Rattle.netpbm.proofs.WritingLaws.{joined_none, joined_step}
use Rattle.pnm_writer.proofs.plain.push_bits.Goals as goal

pub loop-b-init : goal.loop-b-init
loop-b-init c = joined_none _ c.args.file.now.items

pub loop-b-preserved : goal.loop-b-preserved
loop-b-preserved c =
    let f = λ (b : ℕ). bits_byte c.args.size.0 (λ x. sample_of c.args.page.now c.args.scene.now x c.args.y 0) b ∷ [] in
    joined_step f c.args.file.now.items c.loop-b.file.items c.push.new.self.items c.loop-b.b c.loop-b.invariant (rw c.packed.ensures at c.in_ok-push.ensures.items)

use Rattle.std.proofs.Common.{◌≡◌, ◌++◌, []}
use Rattle.netpbm.specs.Pnm.{sample_in, channels_of}
use Rattle.netpbm.specs.FileText.{concat_up_to, samples_text}
use Rattle.pnm_writer.proofs.read.read_samples.Given as goal

abbrev pub invariant-loop-y : goal.invariant-loop-y
invariant-loop-y l = l.items.items ≡ [] ++ concat_up_to (λ y. samples_text (channels_of l.header.format) 0 l.header.width (λ x k. sample_in l.header.format l.header.width l.header.maxval l.raster x y k)) l.y

use Rattle.std.proofs.Common.{◌≡◌, ◌++◌}
use Rattle.netpbm.specs.Pnm.{sample_in, channels_of}
use Rattle.netpbm.specs.FileText.{samples_text}
use Rattle.pnm_writer.proofs.read.push_row.Given as goal

abbrev pub invariant-loop-x : goal.invariant-loop-x
invariant-loop-x l = l.samples.items ≡ l.fn.samples.items ++ samples_text (channels_of l.header.format) 0 l.x (λ x k. sample_in l.header.format l.header.width l.header.maxval l.raster x l.y k)

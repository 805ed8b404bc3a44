use Rattle.std.proofs.Common.{◌≡◌, ◌++◌, [], ◌∷◌}
use Rattle.netpbm.specs.Pnm.{sample_in}
use Rattle.netpbm.specs.FileText.{concat_up_to}
use Rattle.pnm_writer.proofs.read.push_place.Given as goal

abbrev pub invariant-loop-k : goal.invariant-loop-k
invariant-loop-k l = l.samples.items ≡ l.fn.samples.items ++ concat_up_to (λ k. sample_in l.header.format l.header.width l.header.maxval l.raster l.x l.y k ∷ []) l.k

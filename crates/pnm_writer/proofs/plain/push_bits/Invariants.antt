use Rattle.std.proofs.Common.{◌≡◌, ◌++◌, [], ◌∷◌}
use Rattle.page_picture.specs.Meaning.{sample_of}
use Rattle.netpbm.specs.FileText.{concat_up_to, bits_byte}
use Rattle.pnm_writer.proofs.plain.push_bits.Given as goal

abbrev pub invariant-loop-b : goal.invariant-loop-b
invariant-loop-b l = l.file.items ≡ l.fn.file.items ++ concat_up_to (λ b. bits_byte l.size.0 (λ x. sample_of l.page l.scene x l.y 0) b ∷ []) l.b

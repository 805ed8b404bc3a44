use Rattle.std.proofs.Common.{◌≡◌, ◌++◌}
use Rattle.page_picture.specs.Meaning.{sample_of, greatest_at}
use Rattle.netpbm.specs.FileText.{concat_up_to, sample_text}
use Rattle.pnm_writer.proofs.plain.push_place.Given as goal

abbrev pub invariant-loop-k : goal.invariant-loop-k
invariant-loop-k l = l.file.items ≡ l.fn.file.items ++ concat_up_to (λ k. sample_text (greatest_at l.scene.depth) (sample_of l.page l.scene l.x l.y k)) l.k

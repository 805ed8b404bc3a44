use Rattle.std.proofs.Common.{◌≡◌, ◌++◌}
use Rattle.page_picture.specs.Meaning.{sample_of, greatest_at}
use Rattle.netpbm.specs.FileText.{concat_up_to, row_text, header_text}
use Rattle.pnm_writer.specs.PnmWriting.{format_in, header_of}
use Rattle.pnm_writer.proofs.plain.scan_plain.Given as goal

abbrev pub invariant-loop-y : goal.invariant-loop-y
invariant-loop-y l = l.file.items ≡ header_text (header_of l.scene l.size.0 l.size.1) ++ concat_up_to (λ y. row_text (format_in l.scene.mode l.scene.depth) (greatest_at l.scene.depth) l.size.0 (λ x k. sample_of l.page l.scene x y k)) l.y

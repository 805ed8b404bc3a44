use Rattle.std.proofs.Common.{◌≡◌, ◌++◌}
use Rattle.page_picture.specs.Meaning.{sample_of, greatest_at, channels_in}
use Rattle.netpbm.specs.FileText.{samples_text}
use Rattle.pnm_writer.proofs.plain.push_row.Given as goal

abbrev pub invariant-loop-x : goal.invariant-loop-x
invariant-loop-x l = l.file.items ≡ l.fn.file.items ++ samples_text (channels_in l.scene.mode) (greatest_at l.scene.depth) l.x (λ x k. sample_of l.page l.scene x l.y k)

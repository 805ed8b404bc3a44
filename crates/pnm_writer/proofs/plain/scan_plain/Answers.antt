use Rattle.std.proofs.Common.{ℕ, ◌≡◌, ◌∙◌, arith, rules}
use Rattle.std.specs.Prelude.{Some}
use Rattle.page_picture.specs.Extent.{extent_of}
use Rattle.page_picture.specs.Meaning.{sample_of, greatest_at}
use Rattle.netpbm.specs.FileText.{row_text, header_text}
use Rattle.netpbm.proofs.WritingLaws.{joined_none, joined_step}
use Rattle.pnm_writer.specs.PnmWriting.{format_in, header_of}
use Rattle.pnm_writer.proofs.PlainLemmas.{file_found}
use Rattle.pnm_writer.proofs.plain.scan_plain.Goals as goal

pub loop-y-init : goal.loop-y-init
loop-y-init c =
    let start : c.in_ok-file.file.items ≡ header_text (header_of c.args.scene.now c.in-Some.size.0 c.in-Some.size.1) = search rules in
    start ∙ joined_none _ (header_text (header_of c.args.scene.now c.in-Some.size.0 c.in-Some.size.1))

pub loop-y-preserved : goal.loop-y-preserved
loop-y-preserved c =
    let f = λ (y : ℕ). row_text (format_in c.args.scene.now.mode c.args.scene.now.depth) (greatest_at c.args.scene.now.depth) c.in-Some.size.0 (λ x k. sample_of c.args.page.now c.args.scene.now x y k) in
    joined_step f (header_text (header_of c.args.scene.now c.in-Some.size.0 c.in-Some.size.1)) c.loop-y.file.items c.push_line.new.file.items c.loop-y.y c.loop-y.invariant c.in_ok-push_line.ensures

pub returns-clause-found : goal.returns-clause-found
returns-clause-found c =
    let whole : c.loop-y.y ≡ c.in-Some.size.1 = omega arith in
    let found : extent_of c.args.page.now c.args.scene.now ≡ Some c.in-Some.size = search rules in
    file_found c.args.page.now c.args.scene.now c.in-Some.size c.loop-y.file.items found c.in-Some.ensures.picture (rw whole at c.loop-y.invariant)

use Rattle.std.proofs.Common.{◌≡◌, ◌≢◌, [], ap, ◌∙◌, arith, length}
use Rattle.std.proofs.lemmas.Grind.{common_steps}
use Rattle.text_lines.specs.Lines.{lines_of}
use Rattle.text_lines.proofs.LineLemmas.{first_by_lf, lines_of-first, lines_of-nil, first_by_end}
use Rattle.text_lines.proofs.cutting.first_line.Goals as goal

pub returns-in-Some-clause-found : goal.returns-in-Some-clause-found
returns-in-Some-clause-found c = rw c.without_cr.ensures (first_by_lf _ c.in-Some.line.now _ c.in-Some.ensures.found)

pub returns-in-Some-clause-lines : goal.returns-in-Some-clause-lines
returns-in-Some-clause-lines c = lines_of-first _ _ _ (rw c.without_cr.ensures (first_by_lf _ c.in-Some.line.now _ c.in-Some.ensures.found))

pub returns-then-is_empty-clause-lines : goal.returns-then-is_empty-clause-lines
returns-then-is_empty-clause-lines c =
    let empty : c.args.text.now ≡ [] = grind (arith, common_steps) in
    ap lines_of empty ∙ lines_of-nil

pub returns-else-is_empty-clause-lines : goal.returns-else-is_empty-clause-lines
returns-else-is_empty-clause-lines c =
    let some : c.args.text.now ≢ [] = λ e. (let n : length c.args.text.now ≡ 0 = ap length e in grind (arith, common_steps)) in
    lines_of-first _ _ _ (first_by_end c.args.text.now _ c.in-None.ensures.none some (grind (arith, common_steps)))

use Rattle.text_lines.proofs.LineLemmas.{cut_so, cut_in_one_way}
use Rattle.text_lines.proofs.laws.lines_are_cut.Goals as goal

pub returns-clause-cut : goal.returns-clause-cut
returns-clause-cut c = cut_so

pub returns-clause-one_way : goal.returns-clause-one_way
returns-clause-one_way c = cut_in_one_way

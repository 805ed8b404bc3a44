use Rattle.scanimage_cli.proofs.CutLaw.{of_the_cut}
use Rattle.scanimage_cli.proofs.laws.options_are_those_of_the_cut.Goals as goal

pub returns : goal.returns
returns c = of_the_cut

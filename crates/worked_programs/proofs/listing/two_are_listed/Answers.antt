use Rattle.worked_programs.proofs.Listed.{two_listed, two_missed}
use Rattle.worked_programs.proofs.listing.two_are_listed.Goals as goal

pub returns : goal.returns
returns c = record { well = two_listed; otherwise = two_missed }

use Rattle.std.proofs.Common.{◌∙◌, sym}
use Rattle.saned_core.proofs.SlotNumbers.{found_first, found_none}
use Rattle.saned_core.proofs.session_slots.find.Goals as goal

pub returns-in-Some-clause-found : goal.returns-in-Some-clause-found
returns-in-Some-clause-found g c = found_first c.args.number c.args.slots.now c.in-Some.k (sym c.position_of-place.ensures ∙ c.in-Some.is)

pub returns-in-None-clause-none : goal.returns-in-None-clause-none
returns-in-None-clause-none g c = found_none c.args.number c.args.slots.now (sym c.position_of-place.ensures ∙ c.in-None.is)

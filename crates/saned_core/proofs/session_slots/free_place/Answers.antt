use Rattle.std.proofs.Common.{◌∙◌, sym, None}
use Rattle.std.proofs.lemmas.List.Quantifiers.{position-Some}
use Rattle.saned_core.specs.Inside.{is_vacant}
use Rattle.saned_core.proofs.session_slots.free_place.Goals as goal

pub returns-in-Some-clause-within : goal.returns-in-Some-clause-within
returns-in-Some-clause-within g c = (position-Some is_vacant c.args.slots.now c.in-Some.k None (sym c.vacant_place-place.ensures ∙ c.in-Some.is)).0

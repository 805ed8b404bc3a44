use Rattle.std.proofs.Common.{sym, ◌∙◌}
use Rattle.saned_core.proofs.SlotNumbers.{spent_slot, over_slot}
use Rattle.saned_core.proofs.session_slots.kept_if_open.Goals as goal

pub returns-then-is_empty : goal.returns-then-is_empty
returns-then-is_empty g c = sym (spent_slot c.args.slot c.in-Some.slot c.in-Some.is c.in-None-session.is (sym c.is_empty.ensures ∙ c.if-is_empty.true))

pub returns-else-is_empty : goal.returns-else-is_empty
returns-else-is_empty g c = sym (over_slot c.args.slot c.in-Some.slot c.in-Some.is c.in-None-session.is (sym c.is_empty.ensures ∙ c.if-is_empty.false))

use Rattle.scan_world.proofs.Refused.{busy, cancelled, denied, empty, failed, firm, inval, jammed, lost, memory, unheard, unscanned}
use Rattle.scan_world.proofs.lies.an_ending_is_no_lie.Goals as goal

pub returns : goal.returns
returns c = record { busy = busy; inval = inval; unheard = unheard; denied = denied; empty = empty; failed = failed; firm = firm; unscanned = unscanned; jammed = jammed; lost = lost; memory = memory; cancelled = cancelled }

use Rattle.std.proofs.Common.{sym, arith}
use Rattle.saned_requests.specs.Holding.{cancelled_lease}
use Rattle.saned_requests.proofs.LeaseWords.{on_word-seen, on_word-past}
use Rattle.saned_requests.proofs.cancelling.cancel_word.Goals as goal

pub returns-then-word-held : goal.returns-then-word-held
returns-then-word-held g c = on_word-seen g.D.Device.state cancelled_lease c.args.held.now c.args.word c.index-held-word.result c.cancel_lease.new.word (omega arith) c.index-held-word.is (rw (← c.index-held-word.is) at c.cancel_lease.ensures)

pub returns-else-word-held : goal.returns-else-word-held
returns-else-word-held g c = sym (on_word-past g.D.Device.state cancelled_lease c.args.held.now c.args.word (omega arith))

use Rattle.std.proofs.Common.{arith}
use Rattle.saned_requests.proofs.LeaseWords.{held_by-seen, held_by-past}
use Rattle.saned_requests.proofs.answering.word_replies.options_at.Goals as goal

pub returns-then-word-held : goal.returns-then-word-held
returns-then-word-held g c = rw (held_by-seen g.D.Device.state c.args.held.now c.args.word c.index-held-word.result (omega arith) c.index-held-word.is) c.options_of_lease.ensures

pub returns-else-word-held : goal.returns-else-word-held
returns-else-word-held g c = rw (held_by-past g.D.Device.state c.args.held.now c.args.word (omega arith)) c.new.ensures.items

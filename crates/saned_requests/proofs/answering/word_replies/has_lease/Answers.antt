use Rattle.std.proofs.Common.{◌∙◌, sym, ap, arith}
use Rattle.saned_requests.specs.Holding.{is_some_lease}
use Rattle.saned_requests.proofs.LeaseWords.{held_by-seen, held_by-past}
use Rattle.saned_requests.proofs.answering.word_replies.has_lease.Goals as goal

pub returns-then-word-held : goal.returns-then-word-held
returns-then-word-held g c = c.is_some_lease.ensures ∙ ap is_some_lease (sym (held_by-seen g.D.Device.state c.args.held.now c.args.word c.index-held-word.result (omega arith) c.index-held-word.is))

pub returns-else-word-held : goal.returns-else-word-held
returns-else-word-held g c = ap is_some_lease (sym (held_by-past g.D.Device.state c.args.held.now c.args.word (omega arith)))

use Rattle.std.proofs.Common.{◌∙◌, sym, ap, refl, arith}
use Rattle.saned_requests.specs.RequestAnswers.{params_reply_of}
use Rattle.saned_requests.proofs.LeaseWords.{held_by-seen, held_by-past}
use Rattle.saned_requests.proofs.answering.word_replies.params_at.Goals as goal

pub returns-then-word-held : goal.returns-then-word-held
returns-then-word-held g c = c.params_of_lease.ensures ∙ ap params_reply_of (sym (held_by-seen g.D.Device.state c.args.held.now c.args.word c.index-held-word.result (omega arith) c.index-held-word.is))

pub returns-else-word-held : goal.returns-else-word-held
returns-else-word-held g c = rw (held_by-past g.D.Device.state c.args.held.now c.args.word (omega arith)) (rw c.no_params.ensures refl)

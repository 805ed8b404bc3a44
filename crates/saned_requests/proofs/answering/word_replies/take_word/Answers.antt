use Rattle.std.proofs.Common.{◌∙◌, sym, ap, arith, None}
use Rattle.std.specs.Option.{option_map}
use Rattle.dispatch.specs.Table.{seen_lease}
use Rattle.saned_requests.proofs.LeaseWords.{on_word-seen, on_word-past, held_by-seen, held_by-past}
use Rattle.saned_requests.proofs.answering.word_replies.take_word.Goals as goal

pub returns-then-word-held-clause-lease : goal.returns-then-word-held-clause-lease
returns-then-word-held-clause-lease g c = sym (held_by-seen g.D.Device.state c.args.held.now c.args.word c.index-held-word.result (omega arith) c.index-held-word.is ∙ ap (option_map (seen_lease g.D.Device.state)) (c.index-held-word.is ∙ sym c.replace.ensures.value))

pub returns-then-word-held-clause-held : goal.returns-then-word-held-clause-held
returns-then-word-held-clause-held g c = on_word-seen g.D.Device.state (λ _. None) c.args.held.now c.args.word c.index-held-word.result c.replace.new.dest (omega arith) c.index-held-word.is (ap (option_map (seen_lease g.D.Device.state)) c.replace.ensures.after)

pub returns-else-word-held-clause-lease : goal.returns-else-word-held-clause-lease
returns-else-word-held-clause-lease g c = sym (held_by-past g.D.Device.state c.args.held.now c.args.word (omega arith))

pub returns-else-word-held-clause-held : goal.returns-else-word-held-clause-held
returns-else-word-held-clause-held g c = sym (on_word-past g.D.Device.state (λ _. None) c.args.held.now c.args.word (omega arith))

use Rattle.std.proofs.Common.{◌∙◌, sym}
use Rattle.saned_requests.proofs.Opening.{free_word-seen, free_word-within, free_word-free}
use Rattle.saned_requests.proofs.answering.open_requests.free_word.Goals as goal

pub returns-in-Some-clause-word : goal.returns-in-Some-clause-word
returns-in-Some-clause-word g c = sym (free_word-seen g.D.Device.state c.args.held.now ∙ sym c.free_place-place.ensures ∙ c.in-Some.is)

pub returns-in-Some-clause-within : goal.returns-in-Some-clause-within
returns-in-Some-clause-within g c = free_word-within c.args.held.now c.in-Some.word (sym c.free_place-place.ensures ∙ c.in-Some.is)

pub returns-in-Some-clause-free : goal.returns-in-Some-clause-free
returns-in-Some-clause-free g c = free_word-free g.D.Device.state c.args.held.now c.in-Some.word (sym c.free_place-place.ensures ∙ c.in-Some.is)

pub returns-in-None-clause-word : goal.returns-in-None-clause-word
returns-in-None-clause-word g c = sym (free_word-seen g.D.Device.state c.args.held.now ∙ sym c.free_place-place.ensures ∙ c.in-None.is)

use Rattle.std.proofs.Common.{◌∙◌, sym, ap, Some}
use Rattle.std.specs.Option.{option_map}
use Rattle.dispatch.specs.Table.{seen_lease}
use Rattle.saned_requests.proofs.LeaseWords.{on_word-seen, held_by-seen}
use Rattle.saned_requests.proofs.answering.open_requests.put_word.Goals as goal

pub returns-clause-old : goal.returns-clause-old
returns-clause-old g c = sym (held_by-seen g.D.Device.state c.args.held.now c.args.word c.index-held-word.result c.requires c.index-held-word.is ∙ ap (option_map (seen_lease g.D.Device.state)) (c.index-held-word.is ∙ sym c.replace.ensures.value))

pub returns-clause-new : goal.returns-clause-new
returns-clause-new g c = on_word-seen g.D.Device.state (λ _. Some (seen_lease g.D.Device.state c.args.lease)) c.args.held.now c.args.word c.index-held-word.result c.replace.new.dest c.requires c.index-held-word.is (ap (option_map (seen_lease g.D.Device.state)) c.replace.ensures.after)

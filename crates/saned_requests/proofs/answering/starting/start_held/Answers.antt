use Rattle.std.proofs.Common.{sym, refl, arith, None}
use Rattle.std.specs.Option.{option_map}
use Rattle.dispatch.specs.Table.{seen_lease}
use Rattle.saned_requests.proofs.LeaseWords.{on_word-seen, on_word-past, held_by-seen, held_by-past}
use Rattle.saned_requests.proofs.answering.starting.start_held.Goals as goal

pub returns-then-word-held : goal.returns-then-word-held
returns-then-word-held g c = record {
  lease = option_map (seen_lease g.D.Device.state) c.start_lease.new.lease;
  starts = rw (held_by-seen g.D.Device.state c.args.held.now c.args.word c.index-held-word.result (omega arith) c.index-held-word.is) (rw (← c.index-held-word.is) at c.start_lease.ensures);
  new_is = on_word-seen g.D.Device.state (λ _. option_map (seen_lease g.D.Device.state) c.start_lease.new.lease) c.args.held.now c.args.word c.index-held-word.result c.start_lease.new.lease (omega arith) c.index-held-word.is refl;
}

pub returns-else-word-held : goal.returns-else-word-held
returns-else-word-held g c = record {
  lease = None;
  starts = rw (held_by-past g.D.Device.state c.args.held.now c.args.word (omega arith)) (rw c.start_reply.ensures refl, refl);
  new_is = sym (on_word-past g.D.Device.state (λ _. None) c.args.held.now c.args.word (omega arith));
}

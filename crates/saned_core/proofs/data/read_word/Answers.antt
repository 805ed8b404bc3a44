use Rattle.std.proofs.Common.{◌≡◌, ◌∙◌, ap, sym, refl, arith, None, Some}
use Rattle.std.specs.Option.{option_map}
use Rattle.dispatch.specs.Table.{seen_lease}
use Rattle.saned_requests.proofs.LeaseWords.{on_word-seen, on_word-past, held_by-seen, held_by-past}
use Rattle.saned_core.proofs.data.read_word.Goals as goal

pub returns-then-word-held-clause-reads : goal.returns-then-word-held-clause-reads
returns-then-word-held-clause-reads g c = record {
  lease = None;
  reads = rw (held_by-past g.D.Device.state c.args.held.now c.args.word (omega arith)) (refl, refl);
  new_is = sym (on_word-past g.D.Device.state (λ _. None) c.args.held.now c.args.word (omega arith));
}

pub returns-in-Some-clause-reads : goal.returns-in-Some-clause-reads
returns-in-Some-clause-reads g c =
    let f = g.D.Device.state in
    let own : c.index-held-word.result ≡ Some c.in-Some.lease = c.index-held-word.is ∙ c.in-Some.is in
    record {
      lease = Some (record { device = f c.read.new.self; place = c.in-Some.lease.place });
      reads = rw (held_by-seen f c.args.held.now c.args.word c.index-held-word.result (omega arith) c.index-held-word.is, own) (record { answer = c.read.result; after = f c.read.new.self; told_is = refl; reads = c.read.ensures.reads; new_is = refl });
      new_is = on_word-seen f (λ _. Some (record { device = f c.read.new.self; place = c.in-Some.lease.place })) c.args.held.now c.args.word c.index-held-word.result (Some (record { device = c.read.new.self; place = c.in-Some.lease.place })) (omega arith) c.index-held-word.is refl;
    }

pub returns-in-None-clause-reads : goal.returns-in-None-clause-reads
returns-in-None-clause-reads g c =
    let f = g.D.Device.state in
    let own : c.index-held-word.result ≡ None = c.index-held-word.is ∙ c.in-None.is in
    record {
      lease = None;
      reads = rw (held_by-seen f c.args.held.now c.args.word c.index-held-word.result (omega arith) c.index-held-word.is, own) (refl, refl);
      new_is = on_word-seen f (λ _. None) c.args.held.now c.args.word c.index-held-word.result _ (omega arith) c.index-held-word.is (ap (option_map (seen_lease f)) c.in-None.is);
    }

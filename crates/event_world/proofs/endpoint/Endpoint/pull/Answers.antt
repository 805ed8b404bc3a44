use Rattle.std.proofs.Common.{◌≡◌, ◌∙◌, ℕ, List, true, false, rules, take, length, sym, ap, arith}
use Rattle.std.proofs.lemmas.List.{length-take}
use Rattle.client_replies.specs.ProtocolStates.{is_ended, turns}
use Rattle.event_world.proofs.Pulls.{dry, errand_kept, given_more, holds_more, kept_starved, laid_kept, not_ended, unmoved}
use Rattle.event_world.proofs.endpoint.Endpoint.pull.Goals as goal

pub returns-then-count-eq0-clause-pulls : goal.returns-then-count-eq0-clause-pulls
returns-then-count-eq0-clause-pulls c = λ past pages scan less h.
    let old = c.args.self.now in
    let mid = c.take_file-count.new.self in
    let buf = c.take_file-count.new.buf in
    let still : turns old.client.outcome old.client.progress ≡ false = sym c.is_turning.ensures ∙ c.if-is_turning.false in
    let same = unmoved (is_ended old.client.outcome) old.client mid (λ e. (c.take_file-count.ensures.ended e).1) (λ e. c.take_file-count.ensures.same e still) in
    dry c.keep.result past pages (take c.take_file-count.result buf) old c.keep.new.self mid (ap (λ (n : ℕ). take n buf) c.if-count-eq0.true) c.keep.ensures same ((c.take_file-count.ensures.taken past h.serves).carried still) still
    (λ alive joined p shows. (c.take_file-count.ensures.taken past h.serves).denotes alive joined (ap (λ (n : ℕ). take n c.take_file-count.new.buf) c.if-count-eq0.true) (search rules) p shows) h

pub returns-else-count-eq0-clause-pulls : goal.returns-else-count-eq0-clause-pulls
returns-else-count-eq0-clause-pulls c = λ past pages scan less h.
    let old = c.args.self.now in
    let mid = c.take_file-count.new.self in
    let buf = c.take_file-count.new.buf in
    let n = c.take_file-count.result in
    let still : turns old.client.outcome old.client.progress ≡ false = sym c.is_turning.ensures ∙ c.if-is_turning.false in
    let same = unmoved (is_ended old.client.outcome) old.client mid (λ e. (c.take_file-count.ensures.ended e).1) (λ e. c.take_file-count.ensures.same e still) in
    let size : length (take n buf) ≡ n = omega (arith, length-take n buf, c.take_file-count.ensures.count, c.take_file-count.auto.buf) in (
      take n buf,
      λ e. c.if-count-eq0.false (sym size ∙ ap (λ (l : List ℕ). length l) e),
      holds_more c.keep.result past pages (take n buf) old c.keep.new.self mid c.keep.ensures (errand_kept old.client mid same) ((c.take_file-count.ensures.taken past h.serves).carried still) h,
      given_more c.keep.result (take n buf) old c.keep.new.self mid c.keep.ensures same,
      not_ended (is_ended old.client.outcome) n c.if-count-eq0.false (λ e. (c.take_file-count.ensures.ended e).0),
    )

pub returns-then-is_turning-clause-pulls : goal.returns-then-is_turning-clause-pulls
returns-then-is_turning-clause-pulls c = λ past pages scan less h.
    let on : turns c.args.self.now.client.outcome c.args.self.now.client.progress ≡ true = sym c.is_turning.ensures ∙ c.if-is_turning.true in
    c.pull_page.ensures.pulls past pages scan (less on) h

pub returns-then-count-eq0-clause-rest : goal.returns-then-count-eq0-clause-rest
returns-then-count-eq0-clause-rest c = laid_kept c.keep.result (take c.take_file-count.result c.take_file-count.new.buf) c.args.self.now c.keep.new.self c.take_file-count.new.self c.keep.ensures

pub returns-else-count-eq0-clause-rest : goal.returns-else-count-eq0-clause-rest
returns-else-count-eq0-clause-rest c = laid_kept c.keep.result (take c.take_file-count.result c.take_file-count.new.buf) c.args.self.now c.keep.new.self c.take_file-count.new.self c.keep.ensures

pub returns-then-count-eq0-clause-starved : goal.returns-then-count-eq0-clause-starved
returns-then-count-eq0-clause-starved c = λ e. kept_starved c.keep.result (take c.take_file-count.result c.take_file-count.new.buf) _ c.keep.new.self c.keep.ensures e

pub returns-else-count-eq0-clause-starved : goal.returns-else-count-eq0-clause-starved
returns-else-count-eq0-clause-starved c = λ e. kept_starved c.keep.result (take c.take_file-count.result c.take_file-count.new.buf) _ c.keep.new.self c.keep.ensures e

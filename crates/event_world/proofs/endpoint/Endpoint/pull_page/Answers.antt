use Rattle.std.proofs.Common.{◌≡◌, ◌∙◌, ℕ, List, true, false, rules, take, length, sym, ap, arith}
use Rattle.std.proofs.lemmas.List.{length-take}
use Rattle.client_replies.specs.ProtocolStates.{turns}
use Rattle.event_world.proofs.Pulls.{kept_starved, laid_always, laid_kept, laid_starved, laid_then, page_dry, page_more, page_turns, still_alive}
use Rattle.event_world.proofs.endpoint.Endpoint.pull_page.Goals as goal

pub returns-then-not-is_turning-clause-pulls : goal.returns-then-not-is_turning-clause-pulls
returns-then-not-is_turning-clause-pulls c = λ past pages scan less h.
    let old = c.args.self.now in
    let off : turns c.keep.new.self.client.outcome c.keep.new.self.client.progress ≡ false = sym c.is_turning.ensures ∙ c.if-not-is_turning.true in
    rw c.lay_by.ensures (page_turns c.keep.result past pages (take c.take_file-count.result c.take_file-count.new.buf) old c.keep.new.self c.take_file-count.new.self ((c.take_file-count.ensures.taken past h.serves).page c.requires) c.keep.ensures off c.requires less h)

pub returns-then-count-eq0-clause-pulls : goal.returns-then-count-eq0-clause-pulls
returns-then-count-eq0-clause-pulls c = λ past pages scan less h.
    let old = c.args.self.now in
    let on : turns c.keep.new.self.client.outcome c.keep.new.self.client.progress ≡ true = sym c.is_turning.ensures ∙ c.if-not-is_turning.false in
    absurd (page_dry c.keep.result past (take c.take_file-count.result c.take_file-count.new.buf) old c.keep.new.self c.take_file-count.new.self ((c.take_file-count.ensures.taken past h.serves).page c.requires) c.keep.ensures on c.requires
    (ap (λ (n : ℕ). take n c.take_file-count.new.buf) c.if-count-eq0.true) c.whole_shows.ensures (λ p joined alive shows. (c.take_file-count.ensures.taken past h.serves).denotes alive joined (ap (λ (n : ℕ). take n c.take_file-count.new.buf) c.if-count-eq0.true) (search rules) p shows) h.serves)

pub returns-else-count-eq0-clause-pulls : goal.returns-else-count-eq0-clause-pulls
returns-else-count-eq0-clause-pulls c = λ past pages scan less h.
    let old = c.args.self.now in
    let buf = c.take_file-count.new.buf in
    let n = c.take_file-count.result in
    let on : turns c.keep.new.self.client.outcome c.keep.new.self.client.progress ≡ true = sym c.is_turning.ensures ∙ c.if-not-is_turning.false in
    let size : length (take n buf) ≡ n = omega (arith, length-take n buf, c.take_file-count.ensures.count, c.take_file-count.auto.buf) in
    let went = page_more c.keep.result past pages (take n buf) old c.keep.new.self c.take_file-count.new.self ((c.take_file-count.ensures.taken past h.serves).page c.requires) c.keep.ensures on c.requires h in
    (take n buf, λ e. c.if-count-eq0.false (sym size ∙ ap (λ (l : List ℕ). length l) e), went.0, went.1, still_alive old.client c.requires)

pub returns-then-not-is_turning-clause-rest : goal.returns-then-not-is_turning-clause-rest
returns-then-not-is_turning-clause-rest c =
    let old = c.args.self.now in
    let kept = c.keep.new.self in
    rw c.lay_by.ensures (laid_then old kept _ (laid_kept c.keep.result (take c.take_file-count.result c.take_file-count.new.buf) old kept c.take_file-count.new.self c.keep.ensures) (laid_always kept))

pub returns-then-count-eq0-clause-rest : goal.returns-then-count-eq0-clause-rest
returns-then-count-eq0-clause-rest c = laid_kept c.keep.result (take c.take_file-count.result c.take_file-count.new.buf) c.args.self.now c.keep.new.self c.take_file-count.new.self c.keep.ensures

pub returns-else-count-eq0-clause-rest : goal.returns-else-count-eq0-clause-rest
returns-else-count-eq0-clause-rest c = laid_kept c.keep.result (take c.take_file-count.result c.take_file-count.new.buf) c.args.self.now c.keep.new.self c.take_file-count.new.self c.keep.ensures

pub returns-then-not-is_turning-clause-starved : goal.returns-then-not-is_turning-clause-starved
returns-then-not-is_turning-clause-starved c = λ e.
    let kept = c.keep.new.self in
    rw c.lay_by.ensures (laid_starved kept ∙ kept_starved c.keep.result (take c.take_file-count.result c.take_file-count.new.buf) _ kept c.keep.ensures e)

pub returns-then-count-eq0-clause-starved : goal.returns-then-count-eq0-clause-starved
returns-then-count-eq0-clause-starved c = λ e. kept_starved c.keep.result (take c.take_file-count.result c.take_file-count.new.buf) _ c.keep.new.self c.keep.ensures e

pub returns-else-count-eq0-clause-starved : goal.returns-else-count-eq0-clause-starved
returns-else-count-eq0-clause-starved c = λ e. kept_starved c.keep.result (take c.take_file-count.result c.take_file-count.new.buf) _ c.keep.new.self c.keep.ensures e

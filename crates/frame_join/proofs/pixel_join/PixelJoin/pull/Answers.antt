use Rattle.std.proofs.Common.{ℕ, List, [], ◌≡◌, ◌∙◌, ◌++◌, arith, rules, refl, sym, ap, subst, take, false}
use Rattle.std.proofs.lemmas.List.{append-nil}
use Rattle.frame_join.specs.FrameHistory.{JoinHistory, after_pull}
use Rattle.frame_join.specs.PixelJoinStates.{PixelRepresents, IsPixelDrained}
use Rattle.frame_join.specs.Inside.{may_go}
use Rattle.frame_join.proofs.PullLaws.{run_on, went_on, spent, drained}
use Rattle.frame_join.proofs.EndLaws.{gone_file, joined_no_fault, not_whole}
use Rattle.frame_join.proofs.pixel_join.PixelJoin.pull.Goals as goal

pub loop-at-init : goal.loop-at-init
loop-at-init c = record {
  within = omega arith;
  size = refl;
  carried = λ past stands.
      let same : after_pull [] past ≡ past = ap (λ (l : List ℕ). record past { given = l }) (append-nil past.given) in
      subst (λ (q : JoinHistory). PixelRepresents q c.args.self.now) (sym same) stands;
  rest = refl;
  first = λ _. refl;
  went = λ no. absurd (omega (arith, no));
}

pub returns-then-end-at-clause-gone : goal.returns-then-end-at-clause-gone
returns-then-end-at-clause-gone c = λ past stands fault none some.
    let same = c.loop-at.invariant.first none in
    let stop : may_go c.args.self.now ≡ false = rw same at (c.next_run-end.ensures.none (search rules)).0 in
    spent past c.args.self.now stands stop fault

pub returns-then-end-at-clause-denotes : goal.returns-then-end-at-clause-denotes
returns-then-end-at-clause-denotes c = λ past stands joined none some p shows.
    let same = c.loop-at.invariant.first none in
    let stop : may_go c.args.self.now ≡ false = rw same at (c.next_run-end.ensures.none (search rules)).0 in
    gone_file past c.args.self.now stands joined (spent past c.args.self.now stands stop (joined_no_fault past c.args.self.now stands joined)) p shows

pub returns-then-end-at-clause-drained : goal.returns-then-end-at-clause-drained
returns-then-end-at-clause-drained c = λ past stands through none some.
    let same = c.loop-at.invariant.first none in
    let still = c.next_run-end.ensures.none (search rules) in
    let stop : may_go c.args.self.now ≡ false = rw same at still.0 in
    subst IsPixelDrained (sym (still.1 ∙ same)) (drained past c.args.self.now stands through stop)

pub returns-then-end-at-clause-whole : goal.returns-then-end-at-clause-whole
returns-then-end-at-clause-whole c = λ past stands unjoined.
    let same : c.next_run-end.result ≡ c.loop-at.at = search rules in
    let carried = subst (λ (n : ℕ). PixelRepresents (after_pull (take n c.next_run-end.new.buf) past) c.next_run-end.new.self) same (c.next_run-end.ensures.carried past (c.loop-at.invariant.carried past stands)) in
    not_whole (after_pull (take c.loop-at.at c.next_run-end.new.buf) past) c.next_run-end.new.self carried unjoined

pub loop-at-preserved : goal.loop-at-preserved
loop-at-preserved c = record {
  within = omega (arith, c.next_run-end.ensures.high, c.next_run-end.ensures.size);
  size = omega (arith, c.next_run-end.ensures.size, c.loop-at.invariant.size);
  carried = λ past stands. c.next_run-end.ensures.carried past (c.loop-at.invariant.carried past stands);
  rest = run_on c.loop-at.at c.next_run-end.result c.next_run-end.new.buf c.loop-at.buf c.args.buf.now c.next_run-end.ensures.low c.next_run-end.ensures.rest c.loop-at.invariant.rest;
  first = λ e. search rules;
  went = λ _. went_on c.loop-at.at c.args.self.now c.loop-at.self c.loop-at.invariant.first c.loop-at.invariant.went (c.next_run-end.ensures.some (search rules));
}

pub returns-clause-whole : goal.returns-clause-whole
returns-clause-whole c = λ past stands unjoined.
    not_whole (after_pull (take c.loop-at.at c.loop-at.buf) past) c.loop-at.self (c.loop-at.invariant.carried past stands) unjoined

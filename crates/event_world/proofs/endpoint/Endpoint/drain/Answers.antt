use Rattle.std.proofs.Common.{◌≡◌, ◌∙◌, true, false, refl, sym, arith}
use Rattle.frame_join.specs.FrameHistory.{after_pull}
use Rattle.event_world.proofs.AllPulls.{begun, place_then, scans_then, went_on, ran_dry, turned_on, as_dry, as_turned, never}
use Rattle.event_world.proofs.Pulls.{laid_then}
use Rattle.event_world.proofs.endpoint.Endpoint.drain.Goals as goal

pub loop-i-init : goal.loop-i-init
loop-i-init c = record { rest = refl; starved = λ e. e; under = λ past pages scan less h. begun past pages _ h }

pub loop-i-preserved : goal.loop-i-preserved
loop-i-preserved c = record {
  rest = laid_then c.args.self.now c.loop-i.self c.pull.new.self c.loop-i.invariant.rest c.in-More.ensures.rest;
  starved = λ e. c.in-More.ensures.starved (c.loop-i.invariant.starved e);
  under = λ past pages scan less h.
      let old = c.args.self.now in
      let mid = c.loop-i.self in
      let u = c.loop-i.invariant.under past pages scan less h in
      went_on past pages c.loop-i._i old mid c.pull.new.self u
      (c.in-More.ensures.pulls (after_pull u.bytes past) pages (scans_then old mid u.given scan) (place_then old mid pages u.given less) u.holds);
}

pub returns-in-Dry : goal.returns-in-Dry
returns-in-Dry c = record {
  none = λ off. absurd (let clash : true ≡ false = sym c.if-not-has_files.false ∙ c.has_files.ensures ∙ off in cc);
  rest = laid_then c.args.self.now c.loop-i.self c.pull.new.self c.loop-i.invariant.rest c.in-Dry.ensures.rest;
  starved = λ e. c.in-Dry.ensures.starved (c.loop-i.invariant.starved e);
  drains = λ past pages scan less h.
      let old = c.args.self.now in
      let mid = c.loop-i.self in
      let u = c.loop-i.invariant.under past pages scan less h in
      as_dry past pages old c.pull.new.self
      (ran_dry past pages c.loop-i._i old mid c.pull.new.self u (c.in-Dry.ensures.pulls (after_pull u.bytes past) pages (scans_then old mid u.given scan) (place_then old mid pages u.given less) u.holds));
}

pub returns-in-NextPage : goal.returns-in-NextPage
returns-in-NextPage c = record {
  none = λ off. absurd (let clash : true ≡ false = sym c.if-not-has_files.false ∙ c.has_files.ensures ∙ off in cc);
  rest = laid_then c.args.self.now c.loop-i.self c.pull.new.self c.loop-i.invariant.rest c.in-NextPage.ensures.rest;
  starved = λ e. c.in-NextPage.ensures.starved (c.loop-i.invariant.starved e);
  drains = λ past pages scan less h.
      let old = c.args.self.now in
      let mid = c.loop-i.self in
      let u = c.loop-i.invariant.under past pages scan less h in
      as_turned past pages old c.pull.new.self
      (turned_on past pages c.loop-i._i old mid c.pull.new.self u (c.in-NextPage.ensures.pulls (after_pull u.bytes past) pages (scans_then old mid u.given scan) (place_then old mid pages u.given less) u.holds));
}

pub returns : goal.returns
returns c = record {
  none = λ off. absurd (let clash : true ≡ false = sym c.if-not-has_files.false ∙ c.has_files.ensures ∙ off in cc);
  rest = c.loop-i.invariant.rest;
  starved = c.loop-i.invariant.starved;
  drains = λ past pages scan less h.
      absurd (never past pages c.loop-i._i c.args.self.now c.loop-i.self scan (omega (arith, c.loop-i-test.false)) c.no_file_is_endless.ensures (c.loop-i.invariant.under past pages scan less h));
}

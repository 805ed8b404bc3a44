use Rattle.std.proofs.Common.{◌≡◌, rules, arith, ap, take, length, refl, ℕ, List, []}
use Rattle.std.proofs.lemmas.List.{length-take}
use Rattle.std.specs.Io.KnownBytes.{Appends}
use Rattle.local_job.proofs.Drains.{begun, one_more, at_end, stopped, never}
use Rattle.local_job.proofs.drain.drain.Goals as goal

pub loop-i-init : goal.loop-i-init
loop-i-init g c = record { room = refl; becomes = λ first is. is; bytes = λ first past stands taken. begun past first _ _ stands taken }

pub loop-i-preserved : goal.loop-i-preserved
loop-i-preserved g c =
    let piece : List ℕ = take c.pull-n.result c.pull-n.new.buf in
    let took : Appends (g.W.Outlet.contents c.loop-i.out) (g.W.Outlet.contents c.put.new.self) piece = search rules in
    let size : length piece ≡ c.pull-n.result = omega (arith, length-take c.pull-n.result c.pull-n.new.buf, c.pull-n.ensures.count, c.pull-n.auto.buf) in
    record {
      room = search rules;
      becomes = λ first is. c.put.ensures.becomes first (c.loop-i.invariant.becomes first is);
      bytes = λ first past stands taken. one_more past first _ _ c.loop-i._i c.pull-n.result _ _ piece c.if-n-eq0.false size c.pull-n.ensures.carried took (c.loop-i.invariant.bytes first past stands taken);
    }

pub returns-then-n-eq0-clause-drained : goal.returns-then-n-eq0-clause-drained
returns-then-n-eq0-clause-drained g c = λ done first past stands taken.
    let none : take c.pull-n.result c.pull-n.new.buf ≡ [] = ap (λ (n : ℕ). take n c.pull-n.new.buf) c.if-n-eq0.true in
    at_end past first _ c.loop-i._i _ _ _ none c.pull-n.ensures.carried (λ q at joined p shows. c.pull-n.ensures.denotes q at joined c.if-n-eq0.true (omega (arith, c.loop-i.invariant.room, c.requires)) p shows) (c.loop-i.invariant.bytes first past stands taken)

pub returns-then-not-put-clause-short : goal.returns-then-not-put-clause-short
returns-then-not-put-clause-short g c = λ failed first past stands no_fault taken.
    let front = c.put.ensures.front c.if-not-put.true in
    stopped past first _ _ c.loop-i._i front.0 _ _ _ no_fault front.1 c.pull-n.ensures.carried c.no_front_is_whole.ensures front.2 (c.loop-i.invariant.bytes first past stands taken)

pub returns-clause-short : goal.returns-clause-short
returns-clause-short g c = λ failed first past stands no_fault taken.
    absurd (never past first _ c.loop-i._i _ no_fault (omega (arith, c.loop-i-test.false)) c.no_file_is_endless.ensures (c.loop-i.invariant.bytes first past stands taken))

pub returns-then-not-put-clause-failed : goal.returns-then-not-put-clause-failed
returns-then-not-put-clause-failed g c = λ short first past stands no_fault taken. c.put.ensures.failed c.if-not-put.true

pub returns-clause-failed : goal.returns-clause-failed
returns-clause-failed g c = λ short first past stands no_fault taken.
    absurd (never past first _ c.loop-i._i _ no_fault (omega (arith, c.loop-i-test.false)) c.no_file_is_endless.ensures (c.loop-i.invariant.bytes first past stands taken))

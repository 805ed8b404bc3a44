use Rattle.std.proofs.Common.{ap}
use Rattle.saned_core.proofs.FedPieces.{begins, starves_at_once, starves_in, garbles, ends, goes_on_so}
use Rattle.saned_core.proofs.Progress.{takes_less}
use Rattle.saned_requests.specs.RequestAnswers.RequestOutOfMemory.{All, Under}
use Rattle.saned_core.proofs.feeding.feed_session.Goals as goal

pub returns-in-Err-clause-context : goal.returns-in-Err-clause-context
returns-in-Err-clause-context g c = starves_at_once _ _ _ _ _ _ _

pub loop-request-init : goal.loop-request-init
loop-request-init g c = record { fault = ap (λ w. w.fault) c.in-Ok.ensures.ok; so_far = rw c.in-Ok.ensures.ok (begins _ _ _ _ _) }

pub returns-in-Err-BadCode : goal.returns-in-Err-BadCode
returns-in-Err-BadCode g c = record {
  context = garbles _ _ _ _ _ _ _ _ _ c.loop-request.invariant.so_far (c.in-Err-BadCode.ensures.first c.loop-request.invariant.fault (λ e. absurd (let f = c.in-Err-BadCode.field-0-is in cc)));
  fault = λ e. absurd (cc);
}

pub returns-in-Err-BadValue : goal.returns-in-Err-BadValue
returns-in-Err-BadValue g c = record {
  context = garbles _ _ _ _ _ _ _ _ _ c.loop-request.invariant.so_far (c.in-Err-BadValue.ensures.first c.loop-request.invariant.fault (λ e. absurd (let f = c.in-Err-BadValue.field-0-is in cc)));
  fault = λ e. absurd (cc);
}

pub returns-in-Err-TooLong : goal.returns-in-Err-TooLong
returns-in-Err-TooLong g c = record {
  context = garbles _ _ _ _ _ _ _ _ _ c.loop-request.invariant.so_far (c.in-Err-TooLong.ensures.first c.loop-request.invariant.fault (λ e. absurd (let f = c.in-Err-TooLong.field-0-is in cc)));
  fault = λ e. absurd (cc);
}

pub returns-in-Err-answer-clause-context : goal.returns-in-Err-answer-clause-context
returns-in-Err-answer-clause-context g c =
    let t = rw c.in-Ok-Some.field-0-is at c.in-Ok-Some.ensures.taken in
    starves_in _ _ _ _ _ _ _ _ _ _ _ _ c.in-Ok-Some.request c.loop-request.invariant.so_far t.1 (Under c.in-Err-answer.ensures.err)

pub loop-request-smaller : goal.loop-request-smaller
loop-request-smaller g c = let t = rw c.in-Ok-Some.field-0-is at c.in-Ok-Some.ensures.taken in takes_less _ _ _ t.1

pub loop-request-preserved : goal.loop-request-preserved
loop-request-preserved g c =
    let t = rw c.in-Ok-Some.field-0-is at c.in-Ok-Some.ensures.taken in
    record { fault = t.0; so_far = goes_on_so _ _ _ _ _ _ _ _ _ _ _ c.in-Ok-Some.request c.in-Ok-answer.said c.loop-request.invariant.so_far t.1 c.in-Ok-answer.ensures.ok c.in-Standing.ensures }

pub returns-in-Over-clause-context : goal.returns-in-Over-clause-context
returns-in-Over-clause-context g c =
    let t = rw c.in-Ok-Some.field-0-is at c.in-Ok-Some.ensures.taken in
    ends _ _ _ _ _ _ _ _ _ _ _ _ c.in-Ok-Some.request c.in-Ok-answer.said c.loop-request.invariant.so_far t.1 c.in-Ok-answer.ensures.ok c.in-Over.ensures

pub returns-in-Starved-clause-context : goal.returns-in-Starved-clause-context
returns-in-Starved-clause-context g c =
    let t = rw c.in-Ok-Some.field-0-is at c.in-Ok-Some.ensures.taken in
    starves_in _ _ _ _ _ _ _ _ _ _ _ _ c.in-Ok-Some.request c.loop-request.invariant.so_far t.1 (All c.in-Ok-answer.said c.in-Ok-answer.ensures.ok)

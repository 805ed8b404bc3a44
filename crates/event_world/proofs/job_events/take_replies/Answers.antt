use Rattle.std.proofs.Common.{◌≡◌, ◌≤◌, ◌⊎◌, inl, inr, ◌∙◌, ℕ, List, ◌++◌, min, take, drop, length, sym, ap, arith, subst, append_assoc}
use Rattle.std.proofs.lemmas.List.{length-take-le, take_all, take-append-le}
use Rattle.saned_core.specs.DaemonStates.{core, replies_of, after_taken, on_session_slot}
use Rattle.event_world.proofs.job_events.take_replies.Goals as goal

-- what was taken is as many as the buffer has room for, or all
took : (r m : ℕ) (all : List ℕ) → r ≤ m → r ≤ length all → (r ≡ m) ⊎ (r ≡ length all) → take r all ≡ take m all
took r m all within less (inl e) = ap (λ (n : ℕ). take n all) e
took r m all within less (inr e) = take_all r all (omega (arith, e)) ∙ sym (take_all m all (omega (arith, e, within)))

-- it stands in front
front_of : (r : ℕ) (all back more : List ℕ) → r ≤ length all → take r ((take r all ++ back) ++ more) ≡ take r all
front_of r all back more less =
    ap (take r) (append_assoc (take r all) back more)
    ∙ take-append-le r (take r all) (back ++ more) (omega (arith, length-take-le r all less))
    ∙ take_all r (take r all) (omega (arith, length-take-le r all less))

pub returns-clause-bytes : goal.returns-clause-bytes
returns-clause-bytes g c =
    let all = replies_of (core g.D.Device.state c.args.daemon.now) c.args.id.number in
    let r = c.take_reply.result in
    let m = min c.args.n 4096 in
    let size : length (take c.min-most.result c.args.piece.now) ≡ m = length-take-le c.min-most.result c.args.piece.now (omega (arith, c.min-most.ensures, c.requires)) ∙ c.min-most.ensures in
    ap (λ (l : List ℕ). take r (l ++ drop c.min-most.result c.args.piece.now)) c.take_reply.ensures.bytes
    ∙ front_of r all (drop r (take c.min-most.result c.args.piece.now)) (drop c.min-most.result c.args.piece.now) c.take_reply.ensures.all
    ∙ took r m all (omega (arith, c.take_reply.ensures.within, size)) c.take_reply.ensures.all (subst (λ (n : ℕ). (r ≡ n) ⊎ (r ≡ length all)) size c.take_reply.ensures.most)

pub returns-clause-daemon : goal.returns-clause-daemon
returns-clause-daemon g c =
    let old = core g.D.Device.state c.args.daemon.now in
    let all = replies_of old c.args.id.number in
    let r = c.take_reply.result in
    let m = min c.args.n 4096 in
    let size : length (take c.min-most.result c.args.piece.now) ≡ m = length-take-le c.min-most.result c.args.piece.now (omega (arith, c.min-most.ensures, c.requires)) ∙ c.min-most.ensures in
    let front : take r all ≡ take m all = took r m all (omega (arith, c.take_reply.ensures.within, size)) c.take_reply.ensures.all (subst (λ (n : ℕ). (r ≡ n) ⊎ (r ≡ length all)) size c.take_reply.ensures.most) in
    let count : r ≡ length (take m all) = sym (length-take-le r all c.take_reply.ensures.all) ∙ ap (λ (l : List ℕ). length l) front in
    c.take_reply.ensures.after ∙ ap (λ (n : ℕ). record old { slots = on_session_slot (after_taken n) c.args.id.number old.slots }) count

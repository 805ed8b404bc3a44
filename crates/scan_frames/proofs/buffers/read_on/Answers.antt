use Rattle.std.proofs.Common.{◌≡◌, true, ◌<◌, ◌≤◌, ◌+◌, ◌-◌, ℕ, length, take, drop, arith, rules, sym, ap, ◌∙◌}
use Rattle.std.specs.Prelude.{min}
use Rattle.std.proofs.lemmas.Slice.{take-put_mid_below}
use Rattle.page_picture.proofs.PartLemmas.{slice_range-put_mid}
use Rattle.scan_frames.specs.Inside.{is_frame_over, state_of}
use Rattle.scan_frames.proofs.Giving.{gives_on, gives_all, stops_on, fails_before_the_end}
use Rattle.scan_frames.proofs.buffers.read_on.Goals.{then-loop-n-test+else-not-is_frame_over, else-loop-n-test}
use Rattle.scan_frames.proofs.buffers.read_on.Goals as goal
use borrow.Rule.Slice.PartMut.{put_mid}

pub loop-n-preserved : goal.loop-n-preserved
loop-n-preserved g c =
    let n = c.loop-n.n in
    let m = c.in-Ok.given in
    let buf = c.loop-n.buf in
    let piece = c.give_of_line.new.buf in
    let k = c.min-most.result - n in
    let more = c.in-Ok.ensures.ok in
    let some = more.some in
    let lent = c.give_of_line.auto.buf in
    let count = more.count in
    let room : n ≤ length buf = search rules in
    let fits : m ≤ length piece = omega arith in
    let long : (n + m) - n ≡ m = omega arith in
    let back : take m (drop n (put_mid n k buf piece)) ≡ take m piece = ap (λ (j : ℕ). take j (drop n (put_mid n k buf piece))) (sym long) ∙ slice_range-put_mid n k m buf piece room fits in
    record {
      within = search rules;
      given = gives_on _ _ _ _ _ _ _ n m buf piece (put_mid n k buf piece) c.loop-n.invariant.given more.given (take-put_mid_below n k buf piece n (omega arith) room) back;
      none = λ e. absurd (omega arith);
      size = search rules;
    }

pub returns-in-Err-clause-read : goal.returns-in-Err-clause-read
returns-in-Err-clause-read g c =
    (fails_before_the_end _ _ _ _ _ _ _ c.loop-n.invariant.given (search rules), stops_on _ _ _ c.loop-n.invariant.given.source c.in-Err.ensures.err)

pub returns-then-n-gt0-clause-read : goal.returns-then-n-gt0-clause-read
returns-then-n-gt0-clause-read g c =
    let n = c.loop-n.n in
    let most = c.min-most.result in
    let most_is = c.min-most.ensures ∙ ap (λ (k : ℕ). min k c.args.setup.now.limit) (sym c.loop-n.auto.buf) in
    let over : n < most → is_frame_over (state_of c.loop-n.buffers) ≡ true = elim c.loop-n-test.branch [
      | then-loop-n-test+else-not-is_frame_over w ↦ λ less. search rules
      | else-loop-n-test w ↦ λ less. absurd (let h = w.loop-n-test.false in omega arith)
    ] in
    gives_all _ _ _ _ _ n most c.loop-n.buf most_is c.loop-n.invariant.within over c.if-n-gt0.true c.loop-n.invariant.given

use Rattle.std.proofs.Common.{◌≡◌, ◌∙◌, ◌<◌, ◌-◌, ◌+◌, ◌≤◌, ℕ, List, length, take, drop, sym, subst, arith, rules}
use Rattle.std.proofs.lemmas.List.{take_all}
use Rattle.frame_join.specs.JoinStates.{JoinState}
use Rattle.net_client.specs.FramePieces.{ReadsTo}
use Rattle.net_client.proofs.FrameRecords.{more_tells, bytes_tell, reads_none, reads_more, reads_bytes, reads_fault, reads_end, rest_length}
use Rattle.net_client.proofs.imaging.read_on.Goals as goal
use Rattle.net_client.proofs.imaging.read_on.Goals.{in-More, in-Bytes+in_default}

pub loop-at-init : goal.loop-at-init
loop-at-init c = record {
  within = omega arith;
  going = c.requires;
  reads = λ past frame here. reads_none c.args.reader.now past frame c.args.join.now here.stands here.under;
}

pub returns-in-Some-clause-read : goal.returns-in-Some-clause-read
returns-in-Some-clause-read c = λ past frame here.
    let goes = rw c.in-Bytes.is at c.step-used.ensures.goes_on in
    reads_fault c.args.reader.now c.loop-at.reader c.step-used.new.self past frame c.args.piece.now c.loop-at.at c.step-used.result.0 _ _ c.loop-at.join c.feed.new.self c.in-Some.fault
    (c.loop-at.invariant.reads past frame here) goes.2 c.feed.ensures.carried (λ q s. sym (c.fault.ensures q s) ∙ c.in-Some.is)

pub returns-in-End-clause-read : goal.returns-in-End-clause-read
returns-in-End-clause-read c = λ past frame here.
    let goes = rw c.in-End.is at c.step-used.ensures.goes_on in
    reads_end c.args.reader.now c.loop-at.reader c.step-used.new.self past frame c.args.piece.now c.loop-at.at c.step-used.result.0 c.in-End.status c.loop-at.join
    (c.loop-at.invariant.reads past frame here) goes.1 goes.0

pub loop-at-preserved : goal.loop-at-preserved
loop-at-preserved c =
    let rest : length (take (length c.args.piece.now - c.loop-at.at) (drop c.loop-at.at c.args.piece.now)) ≡ length c.args.piece.now - c.loop-at.at = rest_length c.args.piece.now c.loop-at.at in
    let within : c.loop-at.at + c.step-used.result.0 ≤ length c.args.piece.now = omega (arith, rest, c.step-used.ensures.within, c.loop-at-test.true) in
    let some : 0 < length (take (length c.args.piece.now - c.loop-at.at) (drop c.loop-at.at c.args.piece.now)) = omega (arith, rest, c.loop-at-test.true) in
    elim c.match-step.branch [
      | in-More w ↦ record {
        within = within;
        going = more_tells c.step-used.new.self (rw w.in-More.is at (c.step-used.ensures.tells some));
        reads = λ past frame here. subst (λ (j : JoinState). ReadsTo c.args.reader.now past frame (take (c.loop-at.at + c.step-used.result.0) c.args.piece.now) c.step-used.new.self j) (sym w.join-is)
            (reads_more c.args.reader.now c.loop-at.reader c.step-used.new.self past frame c.args.piece.now c.loop-at.at c.step-used.result.0 c.loop-at.join (c.loop-at.invariant.reads past frame here) (rw w.in-More.is at c.step-used.ensures.goes_on));
      }
      | in-Bytes+in_default w ↦ record {
        within = within;
        going = bytes_tell c.step-used.new.self _ _ (rw w.in-Bytes.is at (c.step-used.ensures.tells some));
        reads = λ past frame here. subst (λ (j : JoinState). ReadsTo c.args.reader.now past frame (take (c.loop-at.at + c.step-used.result.0) c.args.piece.now) c.step-used.new.self j) (sym w.join-is)
            (let goes = rw w.in-Bytes.is at c.step-used.ensures.goes_on in
            reads_bytes c.args.reader.now c.loop-at.reader c.step-used.new.self past frame c.args.piece.now c.loop-at.at c.step-used.result.0 _ _ c.loop-at.join w.feed.new.self (c.loop-at.invariant.reads past frame here)
            here.clear goes.2 w.feed.ensures.carried (λ q s. sym (w.fault.ensures q s) ∙ (search rules)));
      }
    ]

pub returns-clause-read : goal.returns-clause-read
returns-clause-read c = λ past frame here.
    let all : take c.loop-at.at c.args.piece.now ≡ c.args.piece.now = take_all _ _ (omega arith) in
    subst (λ (l : List ℕ). ReadsTo c.args.reader.now past frame l c.loop-at.reader c.loop-at.join) all (c.loop-at.invariant.reads past frame here)

use Rattle.std.proofs.Common.{◌≡◌, ◌∙◌, sym, subst, Ok, Err}
use Rattle.frame_join.specs.FrameHistory.{JoinHistory, after_end, answer_of_end}
use Rattle.frame_join.specs.JoinStates.{Represents}
use Rattle.local_job.proofs.Drains.{stopped_at_end}
use Rattle.local_job.proofs.JoinedPasses.{ended, ended_well, end_cause}
use Rattle.local_job.proofs.OutputEnds.{join_spares}
use Rattle.local_job.proofs.scan.end_frame.Goals as goal

pub returns-then-drain-clause-ended : goal.returns-then-drain-clause-ended
returns-then-drain-clause-ended g c = λ first past frame inside.
    let is : c.end.result ≡ Ok c.in-Ok.is_whole = c.in-Ok.is in
    let answer : answer_of_end (after_end past) ≡ Ok c.in-Ok.is_whole = sym (c.end.ensures.answer past inside.stands) ∙ is in
    let well = ended_well past frame c.in-Ok.is_whole inside.no_fault inside.under answer in
    let stood : Represents (ended past frame) c.end.new.self = subst (λ (q : JoinHistory). Represents q c.end.new.self) well.1 (c.end.ensures.carried past inside.stands) in
    record {
      full = well.0;
      joined = well.2;
      drained = c.drain.ensures.drained c.if-drain.true first (ended past frame) stood inside.taken;
    }

pub returns-else-drain-clause-short : goal.returns-else-drain-clause-short
returns-else-drain-clause-short g c = λ first past frame inside.
    let is : c.end.result ≡ Ok c.in-Ok.is_whole = c.in-Ok.is in
    let answer : answer_of_end (after_end past) ≡ Ok c.in-Ok.is_whole = sym (c.end.ensures.answer past inside.stands) ∙ is in
    let well = ended_well past frame c.in-Ok.is_whole inside.no_fault inside.under answer in
    let stood : Represents (ended past frame) c.end.new.self = subst (λ (q : JoinHistory). Represents q c.end.new.self) well.1 (c.end.ensures.carried past inside.stands) in
    c.drain.ensures.short c.if-drain.false first (ended past frame) stood inside.no_fault inside.taken

pub returns-in-Err-clause-short : goal.returns-in-Err-clause-short
returns-in-Err-clause-short g c = λ first past frame inside.
    let answer : answer_of_end (after_end past) ≡ Err c.in-Err.fault = sym (c.end.ensures.answer past inside.stands) ∙ c.in-Err.is in
    stopped_at_end first _ past _ c.in-Err.fault c.not_whole_before.ensures (c.end.ensures.carried past inside.stands) answer inside.taken

pub returns-in-Err-clause-cause : goal.returns-in-Err-clause-cause
returns-in-Err-clause-cause g c = λ first past frame inside.
    let answer : answer_of_end (after_end past) ≡ Err c.in-Err.fault = sym (c.end.ensures.answer past inside.stands) ∙ c.in-Err.is in
    rw c.stop_of_join.ensures (end_cause past frame c.in-Err.fault inside.no_fault inside.under answer)

pub returns-else-drain-clause-cause : goal.returns-else-drain-clause-cause
returns-else-drain-clause-cause g c = λ first past frame inside.
    let is : c.end.result ≡ Ok c.in-Ok.is_whole = c.in-Ok.is in
    let answer : answer_of_end (after_end past) ≡ Ok c.in-Ok.is_whole = sym (c.end.ensures.answer past inside.stands) ∙ is in
    let well = ended_well past frame c.in-Ok.is_whole inside.no_fault inside.under answer in
    rw well.0 c.failed_output.ensures

pub returns-in-Err-clause-output : goal.returns-in-Err-clause-output
returns-in-Err-clause-output g c = rw c.stop_of_join.ensures (λ sink first past frame inside. absurd (join_spares c.in-Err.fault sink))

pub returns-else-drain-clause-output : goal.returns-else-drain-clause-output
returns-else-drain-clause-output g c = λ sink first past frame inside.
    let is : c.end.result ≡ Ok c.in-Ok.is_whole = c.in-Ok.is in
    let answer : answer_of_end (after_end past) ≡ Ok c.in-Ok.is_whole = sym (c.end.ensures.answer past inside.stands) ∙ is in
    let well = ended_well past frame c.in-Ok.is_whole inside.no_fault inside.under answer in
    let stood : Represents (ended past frame) c.end.new.self = subst (λ (q : JoinHistory). Represents q c.end.new.self) well.1 (c.end.ensures.carried past inside.stands) in
    c.drain.ensures.failed c.if-drain.false first (ended past frame) stood inside.no_fault inside.taken

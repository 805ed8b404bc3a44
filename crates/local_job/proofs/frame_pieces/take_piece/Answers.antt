use Rattle.std.proofs.Common.{◌∙◌, ◌++◌, sym, subst, Some, inl}
use Rattle.frame_join.specs.FrameHistory.{JoinHistory, after_feed}
use Rattle.frame_join.specs.JoinStates.{Represents, is_out_of_memory}
use Rattle.frame_join.proofs.GivenKept.{feed_gives}
use Rattle.local_job.proofs.Drains.{refused}
use Rattle.local_job.proofs.Feeds.{fed_well, fed_cause, feeds}
use Rattle.local_job.proofs.OutputEnds.{join_spares}
use Rattle.local_job.proofs.frame_pieces.take_piece.Goals as goal

pub returns-then-drain-clause-taken : goal.returns-then-drain-clause-taken
returns-then-drain-clause-taken g c = λ first past frame is.
    let starved = is_out_of_memory c.feed.new.self in
    let fed = c.feed.ensures.carried past is.stands in
    let well = fed_well past frame c.args.bytes.now starved is.no_fault is.under (sym (c.fault.ensures (after_feed c.args.bytes.now starved past) fed) ∙ c.in_default.is) in
    let after : JoinHistory = record past { under = Some (record frame { payload = frame.payload ++ c.args.bytes.now }) } in
    feeds past (record frame { payload = frame.payload ++ c.args.bytes.now }) first _ _ (c.drain.ensures.drained c.if-drain.true first after (subst (λ (q : JoinHistory). Represents q c.feed.new.self) well fed) is.taken)

pub returns-else-drain-clause-short : goal.returns-else-drain-clause-short
returns-else-drain-clause-short g c = λ first past frame is.
    let starved = is_out_of_memory c.feed.new.self in
    let fed = c.feed.ensures.carried past is.stands in
    let well = fed_well past frame c.args.bytes.now starved is.no_fault is.under (sym (c.fault.ensures (after_feed c.args.bytes.now starved past) fed) ∙ c.in_default.is) in
    let after : JoinHistory = record past { under = Some (record frame { payload = frame.payload ++ c.args.bytes.now }) } in
    c.drain.ensures.short c.if-drain.false first after (subst (λ (q : JoinHistory). Represents q c.feed.new.self) well fed) is.no_fault is.taken

pub returns-in-Some-clause-short : goal.returns-in-Some-clause-short
returns-in-Some-clause-short g c = λ first past frame is.
    let starved = is_out_of_memory c.feed.new.self in
    let fed = c.feed.ensures.carried past is.stands in
    let after : JoinHistory = after_feed c.args.bytes.now starved past in
    let at = sym (c.fault.ensures after fed) ∙ c.in-Some.is in
    refused first _ past.given after _ c.in-Some.fault c.not_whole_before.ensures fed at (feed_gives c.args.bytes.now starved past) is.taken

pub returns-in-Some-clause-cause : goal.returns-in-Some-clause-cause
returns-in-Some-clause-cause g c = λ first past frame is room.
    let starved = is_out_of_memory c.feed.new.self in
    let fed = c.feed.ensures.carried past is.stands in
    inl (c.stop_of_join.ensures ∙ fed_cause past frame c.args.bytes.now starved c.in-Some.fault is.no_fault is.under room (sym (c.fault.ensures (after_feed c.args.bytes.now starved past) fed) ∙ c.in-Some.is))

pub returns-in-Some-clause-output : goal.returns-in-Some-clause-output
returns-in-Some-clause-output g c = rw c.stop_of_join.ensures (λ sink first past frame is. absurd (join_spares c.in-Some.fault sink))

pub returns-else-drain-clause-output : goal.returns-else-drain-clause-output
returns-else-drain-clause-output g c = λ sink first past frame is.
    let starved = is_out_of_memory c.feed.new.self in
    let fed = c.feed.ensures.carried past is.stands in
    let well = fed_well past frame c.args.bytes.now starved is.no_fault is.under (sym (c.fault.ensures (after_feed c.args.bytes.now starved past) fed) ∙ c.in_default.is) in
    let after : JoinHistory = record past { under = Some (record frame { payload = frame.payload ++ c.args.bytes.now }) } in
    c.drain.ensures.failed c.if-drain.false first after (subst (λ (q : JoinHistory). Represents q c.feed.new.self) well fed) is.no_fault is.taken

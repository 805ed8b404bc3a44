use Rattle.std.proofs.Common.{◌∙◌, ap}
use Rattle.client_replies.specs.ProtocolStates.{is_receiving}
use Rattle.net_client.specs.ClientStates.{ClientState}
use Rattle.net_client.proofs.Ending.{behind_frame, ends_frame, is_running_then, stops_so, waits_so}
use Rattle.net_client.proofs.client.Client.end_frame.Goals as goal

pub returns-in-Wait : goal.returns-in-Wait
returns-in-Wait c = rw (← c.self.view_is) (λ past stands scanning within.
    let next = c.in-Wait.ensures.next past stands in
    ends_frame _ c.wait_behind.new.self c.frame_ended-next.new.join past c.args.status _ stands scanning within next (c.in-Wait.ensures.past past stands)
    (waits_so _ c.wait_behind.new.self c.in-Wait.progress (is_running_then c.self.inside.outcome c.self.inside.progress (ap (λ (v : ClientState). is_receiving v.outcome v.progress) c.self.view_is ∙ c.requires)) c.wait_behind.ensures.rest (c.wait_behind.ensures.text (behind_frame c.self.inside.target.task c.self.inside.notes.file past c.args.status c.in-Wait.progress next))))

pub returns-in-Finish : goal.returns-in-Finish
returns-in-Finish c = rw (← c.self.view_is) (λ past stands scanning within.
    ends_frame _ c.finish.new.self c.frame_ended-next.new.join past c.args.status _ stands scanning within (c.in-Finish.ensures.next past stands) (c.in-Finish.ensures.past past stands) c.finish.ensures)

pub returns-in-Stop : goal.returns-in-Stop
returns-in-Stop c = rw (← c.self.view_is) (λ past stands scanning within.
    ends_frame _ c.stop.new.self c.frame_ended-next.new.join past c.args.status _ stands scanning within (c.in-Stop.ensures.next past stands) (c.in-Stop.ensures.past past stands) (stops_so _ c.stop.new.self c.in-Stop.status c.in-Stop.why c.stop.ensures))

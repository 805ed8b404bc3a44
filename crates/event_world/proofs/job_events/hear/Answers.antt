use Rattle.std.proofs.Common.{◌≡◌, ◌∙◌, true, false, refl, sym}
use Rattle.client_replies.specs.ProtocolStates.{is_running}
use Rattle.event_world.proofs.job_events.hear.Goals as goal

pub returns-then-not-is_running : goal.returns-then-not-is_running
returns-then-not-is_running c =
    let off : is_running c.args.endpoint.now.client.outcome ≡ false = sym c.is_running.ensures ∙ c.if-not-is_running.true in
    record {
      over = λ e. refl;
      mid = c.args.endpoint.now.client;
      heeds = λ on past s. absurd (let clash : true ≡ false = sym on ∙ off in cc);
      drains = λ on. absurd (let clash : true ≡ false = sym on ∙ off in cc);
    }

pub returns : goal.returns
returns c =
    let on : is_running c.args.endpoint.now.client.outcome ≡ true = sym c.is_running.ensures ∙ c.if-not-is_running.false in
    record {
      over = λ off. absurd (let clash : true ≡ false = sym on ∙ off in cc);
      mid = c.feed_control.new.self;
      heeds = c.feed_control.ensures.heeds;
      drains = λ e. c.drain.ensures;
    }

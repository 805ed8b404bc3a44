use Rattle.std.proofs.Common.{◌≡◌, ◌∙◌, true, false, refl, sym}
use Rattle.client_replies.specs.ProtocolStates.{is_running}
use Rattle.net_client.proofs.Ending.{is_running_then}
use Rattle.event_world.proofs.job_events.see.Goals as goal

pub returns-then-not-is_running : goal.returns-then-not-is_running
returns-then-not-is_running c =
    let old = c.args.endpoint.now in
    let off : is_running old.client.outcome ≡ false = sym c.is_running.ensures ∙ c.if-not-is_running.true in
    record {
      over = λ e. refl;
      mid = old.client;
      idle = λ e. refl;
      receives = λ e past s. absurd (let clash : true ≡ false = sym (is_running_then old.client.outcome old.client.progress e) ∙ off in cc);
      after = old;
      drains = λ on. absurd (let clash : true ≡ false = sym on ∙ off in cc);
      finishes = λ on. absurd (let clash : true ≡ false = sym on ∙ off in cc);
    }

pub returns : goal.returns
returns c =
    let on : is_running c.args.endpoint.now.client.outcome ≡ true = sym c.is_running.ensures ∙ c.if-not-is_running.false in
    record {
      over = λ off. absurd (let clash : true ≡ false = sym on ∙ off in cc);
      mid = c.feed_data.new.self;
      idle = c.feed_data.ensures.idle;
      receives = c.feed_data.ensures.receives;
      after = c.drain.new.self;
      drains = λ e. c.drain.ensures;
      finishes = λ e. c.finish.ensures;
    }

use Rattle.std.proofs.Common.{◌≢◌, ◌∙◌, inr, ap, subst}
use Rattle.wire_format.specs.Limit.{IsNoStart}
use Rattle.wire_message.specs.declared.message_fault.WireFault.TheVariants as wire
use Rattle.wire_message.specs.Message.{message_limit, reply}
use Rattle.net_client.specs.ClientStates.{ClientState}
use Rattle.client_replies.specs.ProtocolStates.{is_running}
use Rattle.net_client.proofs.client.Client.read.Goals as goal

pub returns-in-Err-clause-none : goal.returns-in-Err-clause-none
returns-in-Err-clause-none c = λ none.
    inr (record {
      fault = c.in-Err.fault;
      ends = rw (← c.self.view_is, c.outcome_by.ensures);
      no_start = subst (λ (v : ClientState). c.in-Err.fault ≢ wire.NoMem → IsNoStart message_limit (reply c.args.procedure) v.input.rest) c.self.view_is
          (c.in-Err.ensures.first (c.self.invariant.2 (ap (λ (v : ClientState). is_running v.outcome) c.self.view_is ∙ c.requires)));
    })

-- What a request context answers is what the model answers.
use Rattle.std.specs.Prelude.{ℕ, ◌≡◌, true, false, []}
use Rattle.dispatch.specs.Table.{listed_infos}
use Rattle.wire_message.specs.declared.message.Request.{Request as Asked}
use Rattle.saned_requests.specs.declared.request_answer.RequestAnswer.{RequestAnswer}
use Rattle.saned_requests.specs.Holding.{held_by, free_word}
use Rattle.saned_requests.specs.RequestAnswers.{RequestContext, ContextOutcome, options_of_lease}
use Rattle.saned_core.specs.Feeding.{session_goes_on, table_let_go}
use Rattle.system_model.specs.Devices.{Make}
use Rattle.system_model.specs.AbstractSessions.{FullEffect}
use Rattle.daemon_refines.specs.ContextRefinement.{ContextRefines, TableRefines}
use Rattle.daemon_refines.specs.Spelling.{Manner, SpellsSaid, order_by}

abbrev pub manner : RequestContext → ℕ → Manner
manner d word =
    record {
      port = d.session.port;
      strings = d.session.strings;
      free = free_word d.session.held;
      order = order_by (held_by d.session.held word);
      descriptors = options_of_lease (held_by d.session.held word);
      infos = listed_infos d.registry;
    }

-- **agrees (`Agrees`)**: the replies spell what comes by the model. Both go on, or both end. The request context behind
-- shows the devices and the session that come. A session that ends gives back what it held, as by the model.
pub record Agrees (i : ℕ) (make : ℕ → Make) (m : Manner) (q : Asked) (comes : FullEffect) (said : RequestAnswer)
    (new : RequestContext) : Type 0 where
  pub says : SpellsSaid m q comes.told said
  pub same_end : comes.goes_on ≡ session_goes_on said
  pub stands : session_goes_on said ≡ true → ContextRefines i make new comes.table comes.session
  pub ends : session_goes_on said ≡ false → TableRefines i make [] (table_let_go new) comes.table

abbrev pub AgreesOn : ℕ → (ℕ → Make) → RequestContext → ℕ → Asked → FullEffect → ContextOutcome → Type 0
AgreesOn i make d word q comes outcome = Agrees i make (manner d word) q comes outcome.0 outcome.1

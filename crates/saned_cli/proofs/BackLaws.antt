-- What the record of ports tells of the listeners that went back.
use Rattle.std.specs.Prelude.{map}
use Rattle.std.proofs.Common.{◌≡◌, ℕ, Option, Some, List, [], ◌∷◌}
use Rattle.saned_serve.specs.ListenerTraces.{ListenerTrace}
use Rattle.recorded_net.specs.Carried.{SocketsCarryTheirOwn}
use Rattle.recorded_net.specs.ListenerCalls.{ListenerCall, trace_of_calls}
use Rattle.recorded_net.specs.NetsBack.{back_nets}
use Rattle.config_pages.specs.InputTexts.{SeenInputs}
use Rattle.saned_cli.specs.WholeDaemon.{HasCarriedFor, HasServedFor}

-- where the newest went back so, all its calls are known
went_back : (back : List (List ListenerCall)) (listened : Option ListenerTrace) (before : List (Option ListenerTrace)) → back_nets back ≡ Some (listened ∷ before) → (calls : List ListenerCall) × (listened ≡ trace_of_calls calls)
went_back [] listened before e = absurd (let wrong : Some [] ≡ Some (listened ∷ before) = e in cc)
went_back (calls ∷ back) listened before e =
    let both : Some (trace_of_calls calls ∷ map trace_of_calls back) ≡ Some (listened ∷ before) = e in
    (calls, cc)

pub carried : SocketsCarryTheirOwn → (was now : SeenInputs) (nets back : List (List ListenerCall)) (words : List (List ℕ)) → HasServedFor was now (back_nets nets) (back_nets back) words → HasCarriedFor was now nets back words
carried carry was now nets back words served =
    let s = served.serves in
    let b = went_back back s.listened (map trace_of_calls nets) s.went_back in
    record {
      served = served;
      listened = b.0;
      told = b.1;
      own = carry _ _ _ s.end s.served b.0 s.unasked b.1;
    }

-- What listeners told as they went back.
use Rattle.std.specs.Prelude.{◌≡◌, Option, None, Some, List, [], ◌∷◌, map}
use Rattle.saned_serve.specs.ListenerTraces.{ListenerTrace}
use Rattle.recorded_net.specs.ListenerCalls.{ListenerCall, trace_of_calls}

-- **nets that went back (`BackNets`, `with_back`)**: what each set of listeners had told as it was handed back, the
-- newest first, where that is told.
abbrev pub BackNets : Type 0
BackNets = Option (List (Option ListenerTrace))

abbrev pub with_back : Option ListenerTrace → BackNets → BackNets
with_back trace None = None
with_back trace (Some back) = Some (trace ∷ back)

-- recorded ones tell all their calls
abbrev pub back_nets : List (List ListenerCall) → BackNets
back_nets nets = Some (map trace_of_calls nets)

-- listeners that tell what they were asked were asked for nothing
abbrev pub IsUnasked : Option ListenerTrace → Type 0
IsUnasked None = Unit {0}
IsUnasked (Some trace) = trace ≡ []

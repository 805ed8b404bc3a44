-- What a client waits for, by the request that is on its way.
use Rattle.std.proofs.Common.{◌≡◌, ℕ, List, ◌∷◌}
use Rattle.client_replies.specs.declared.progress.Progress.{Progress}
use Rattle.client_replies.specs.declared.progress.Progress.TheVariants as stages
use Rattle.system_model.specs.AbstractMessages.{AbstractRequest, GetDevices, Open, Authorize, Start}
use Rattle.system_model.specs.Transitions.{IsUnderWay}
use Rattle.event_world.specs.Worlds.{WorldCore}
use Rattle.world_refines.specs.GhostStates.{Ghost}
use Rattle.world_refines.specs.WorldRefinement.{WorldRefines}
use Rattle.world_refines.proofs.requests.Waiting.{AwaitsAnswer, waits_there as waits_so}
use Rattle.scan_world.specs.Sessions.{IsAtList, IsAtOpen, IsAtStart}
use Rattle.scan_world.proofs.Rows.{WaitsAt}

-- what a client waits for whose request this is
abbrev pub WaitsFor : AbstractRequest → Progress → Type 0
WaitsFor GetDevices progress = IsAtList progress
WaitsFor Open progress = IsAtOpen progress
WaitsFor (Authorize challenge) progress = IsAtOpen progress
WaitsFor Start progress = IsAtStart progress
WaitsFor q progress = Unit {0}

at_list : (progress : Progress) → AwaitsAnswer GetDevices progress → IsAtList progress
at_list stages.Listing h = tt
at_list progress h = absurd h

at_open : (progress : Progress) → AwaitsAnswer Open progress → IsAtOpen progress
at_open stages.Opening h = tt
at_open progress h = absurd h

at_allow : (challenge : _) (progress : Progress) → AwaitsAnswer (Authorize challenge) progress → IsAtOpen progress
at_allow challenge (stages.Allowing resource answer) h = tt
at_allow challenge progress h = absurd h

at_start : (progress : Progress) → AwaitsAnswer Start progress → IsAtStart progress
at_start (stages.Starting first) h = tt
at_start progress h = absurd h

pub waits_by : (q : AbstractRequest) (progress : Progress) → AwaitsAnswer q progress → WaitsFor q progress
waits_by GetDevices progress h = at_list progress h
waits_by Open progress h = at_open progress h
waits_by (Authorize challenge) progress h = at_allow challenge progress h
waits_by Start progress h = at_start progress h
waits_by q progress h = tt

-- in the world in front of an answer its client waits for that
pub waits_there : (t : Ghost) (w : WorldCore) (i : ℕ) (q : AbstractRequest) (rest : List AbstractRequest) → WorldRefines t w → IsUnderWay (t.system.job i).client.stage → (t.system.job i).todo ≡ q ∷ rest → WaitsAt w i (WaitsFor q)
waits_there t w i q rest h on todo =
    let s = waits_so t w i q rest h on todo in
    (s.0, s.1, waits_by q s.0.client.progress s.2)

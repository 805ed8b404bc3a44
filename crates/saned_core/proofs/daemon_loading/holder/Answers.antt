use Rattle.std.proofs.Common.{◌∙◌, sym, option_map}
use Rattle.saned_core.specs.DaemonStates.{seen_session_slot}
use Rattle.saned_core.specs.Loading.{holds}
use Rattle.saned_core.proofs.Firsts.{first_found, none_found}
use Rattle.saned_core.proofs.daemon_loading.holder.Goals as goal

pub returns-in-Some-clause-found : goal.returns-in-Some-clause-found
returns-in-Some-clause-found g c = first_found (λ slot. holds c.args.name.now (option_map (seen_session_slot g.D.Device.state) slot)) c.args.slots.now c.in-Some.k (sym c.place_of_slot-place.ensures ∙ c.in-Some.is)

pub returns-in-None-clause-none : goal.returns-in-None-clause-none
returns-in-None-clause-none g c = none_found (λ slot. holds c.args.name.now (option_map (seen_session_slot g.D.Device.state) slot)) c.args.slots.now (sym c.place_of_slot-place.ensures ∙ c.in-None.is)

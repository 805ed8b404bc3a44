use Rattle.std.proofs.Common.{sym, option_map}
use Rattle.dispatch.specs.Table.{seen_lease}
use Rattle.saned_core.specs.Loading.{is_lease_named}
use Rattle.saned_core.proofs.Firsts.{first_any, none_any}
use Rattle.saned_core.proofs.daemon_loading.is_held.Goals as goal

pub returns-in-Some : goal.returns-in-Some
returns-in-Some g c = sym (first_any (option_map (seen_lease g.D.Device.state)) (is_lease_named c.args.name.now) c.args.held.now c.in-Some.field-0 c.in-Some.ensures.found)

pub returns-in-None : goal.returns-in-None
returns-in-None g c = sym (none_any (option_map (seen_lease g.D.Device.state)) (is_lease_named c.args.name.now) c.args.held.now c.in-None.ensures.none)

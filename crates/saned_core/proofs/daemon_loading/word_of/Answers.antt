use Rattle.std.proofs.Common.{◌∙◌, sym, option_map}
use Rattle.dispatch.specs.Table.{seen_lease}
use Rattle.saned_core.specs.Loading.{is_lease_named}
use Rattle.saned_core.proofs.Firsts.{first_found, none_found}
use Rattle.saned_core.proofs.daemon_loading.word_of.Goals as goal

pub returns-in-Some-clause-found : goal.returns-in-Some-clause-found
returns-in-Some-clause-found g c = first_found (λ lease. is_lease_named c.args.name.now (option_map (seen_lease g.D.Device.state) lease)) c.args.held.now c.in-Some.k (sym c.place_of_word-place.ensures ∙ c.in-Some.is)

pub returns-in-None-clause-none : goal.returns-in-None-clause-none
returns-in-None-clause-none g c = none_found (λ lease. is_lease_named c.args.name.now (option_map (seen_lease g.D.Device.state) lease)) c.args.held.now (sym c.place_of_word-place.ensures ∙ c.in-None.is)

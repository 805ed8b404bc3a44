use Rattle.std.proofs.Common.{◌∙◌, sym, option_map, Err}
use Rattle.sane_fixed.specs.declared.status.Status.TheVariants.{Inval}
use Rattle.dispatch.specs.Table.{seen_lease}
use Rattle.saned_core.specs.Loading.{is_lease_named, lease_load}
use Rattle.saned_core.proofs.Firsts.{first_told, first_changed, none_told, none_changed}
use Rattle.saned_core.proofs.daemon_loading.load_held.Goals as goal

pub returns-in-Some-clause-answer : goal.returns-in-Some-clause-answer
returns-in-Some-clause-answer g c =
    (rw (← c.index-held-k.is) at c.load_lease.ensures.answer)
    ∙ sym (first_told (option_map (seen_lease g.D.Device.state)) (is_lease_named c.args.name.now) lease_load c.args.held.now c.in-Some.k c.index-held-k.result (Err Inval) c.in-Some.ensures.found c.index-held-k.is)

pub returns-in-Some-clause-after : goal.returns-in-Some-clause-after
returns-in-Some-clause-after g c =
    first_changed (option_map (seen_lease g.D.Device.state)) (is_lease_named c.args.name.now) _ c.args.held.now c.in-Some.k c.index-held-k.result c.load_lease.new.lease c.in-Some.ensures.found c.index-held-k.is
    (rw (← c.index-held-k.is) at c.load_lease.ensures.after)

pub returns-in-None-clause-answer : goal.returns-in-None-clause-answer
returns-in-None-clause-answer g c = sym (none_told (option_map (seen_lease g.D.Device.state)) (is_lease_named c.args.name.now) lease_load c.args.held.now (Err Inval) c.in-None.ensures.none)

pub returns-in-None-clause-after : goal.returns-in-None-clause-after
returns-in-None-clause-after g c = sym (none_changed (option_map (seen_lease g.D.Device.state)) (is_lease_named c.args.name.now) _ c.args.held.now c.in-None.ensures.none)

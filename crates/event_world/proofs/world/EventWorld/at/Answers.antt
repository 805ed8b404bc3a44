use Rattle.std.proofs.Common.{◌≡◌, ◌∙◌, ◌<◌, ◌≤◌, rules, arith, length, refl, subst}
use Rattle.std.proofs.lemmas.Option.{get_or_from_slice_get, slice_get_within}
use Rattle.saned_core.specs.DaemonStates.{core}
use Rattle.event_world.specs.declared.endpoint.Endpoint.{Endpoint}
use Rattle.event_world.specs.JobEvents.{Happens}
use Rattle.event_world.proofs.world.EventWorld.at.Goals as goal

pub returns-then-i-len : goal.returns-then-i-len
returns-then-i-len g c =
    rw (← c.self.view_is)
    (record {
      happens = λ p e.
          let same : c.index_mut.result.now ≡ p = c.index_mut.ensures.value ∙ get_or_from_slice_get c.self.inside.endpoints.items c.args.i p c.index_mut.result.now e in
          (c.happen.new.endpoint, subst (λ (x : Endpoint). Happens (core g.D.Device.state c.self.inside.daemon) x c.args.job_event (core g.D.Device.state c.happen.new.daemon) c.happen.new.endpoint) same c.happen.ensures, refl);
      beyond = λ h. absurd (let within : c.args.i < length c.self.inside.endpoints.items = search rules in omega (arith, h, within));
    })

pub returns-else-i-len : goal.returns-else-i-len
returns-else-i-len g c =
    rw (← c.self.view_is)
    (record {
      happens = λ p e. absurd (let beyond : length c.self.inside.endpoints.items ≤ c.args.i = search rules in omega (arith, beyond, slice_get_within c.self.inside.endpoints.items c.args.i p e));
      beyond = λ h. refl;
    })

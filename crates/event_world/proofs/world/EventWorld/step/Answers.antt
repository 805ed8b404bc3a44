use Rattle.std.proofs.Common.{◌∙◌, List, ℕ, ap}
use Rattle.page_sources.specs.SourceView.{source_state}
use Rattle.saned_core.specs.DaemonStates.{Core, core}
use Rattle.saned_core.specs.Loading.{core_after_load}
use Rattle.event_world.specs.declared.endpoint.Endpoint.{Endpoint}
use Rattle.event_world.specs.Worlds.{WorldCore}
use Rattle.event_world.proofs.world.EventWorld.step.Goals as goal

abbrev scene : List Endpoint → Core → WorldCore
scene endpoints d = record { daemon = d; endpoints = endpoints }

pub returns-in-Load : goal.returns-in-Load
returns-in-Load g c =
    rw c.in-Load.is
    (rw (← c.self.view_is)
    (ap (scene c.self.inside.endpoints.items) (c.load.ensures.after ∙ ap (λ (n : List ℕ). core_after_load (core g.D.Device.state c.self.inside.daemon) n (source_state c.in-Load.page)) c.as_bytes.ensures.bytes)))

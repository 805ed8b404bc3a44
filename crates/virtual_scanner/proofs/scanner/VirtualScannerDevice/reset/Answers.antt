use Rattle.std.proofs.Common.{◌≡◌, ap, sym, ◌∙◌, map, false}
use Rattle.page_sources.specs.SourceView.{source_state}
use Rattle.device_api.specs.Kinds.{is_feeder}
use Rattle.device_api.specs.State.Phase.{AtRest}
use Rattle.virtual_scanner.specs.Phases.{phase_of}
use Rattle.virtual_scanner.proofs.Limits.{limits_set, kind_default}
use Rattle.virtual_scanner.proofs.scanner.VirtualScannerDevice.reset.Goals as goal

pub invariant_of-self : goal.invariant_of-self
invariant_of-self c =
    let s = c.self.inside.setup in
    let t = c.reset_setup.new.setup in
    let kind : t.scene.kind ≡ s.scene.kind = kind_default s t c.reset_setup.ensures.value in
    record {
      limits = limits_set c.self.inside.info s t (map source_state c.self.inside.tray.items) (phase_of c.self.inside.at) (AtRest false) kind c.reset_setup.ensures.allowed c.self.invariant.limits;
      room = λ feeds. c.self.invariant.room (ap is_feeder (sym kind) ∙ feeds);
      frame = tt;
    }

pub returns-clause-limits : goal.returns-clause-limits
returns-clause-limits c =
    let s = c.self.inside.setup in
    let t = c.reset_setup.new.setup in
    limits_set c.self.inside.info s t (map source_state c.self.inside.tray.items) (phase_of c.self.inside.at) (AtRest false) (kind_default s t c.reset_setup.ensures.value) c.reset_setup.ensures.allowed c.self.invariant.limits

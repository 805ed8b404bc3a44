use Rattle.std.proofs.Common.{◌≡◌, ap, sym, ◌∙◌, map}
use Rattle.page_sources.specs.SourceView.{source_state}
use Rattle.device_api.specs.Kinds.{is_feeder}
use Rattle.virtual_scanner.specs.Phases.{phase_of}
use Rattle.virtual_scanner.proofs.Limits.{limits_set, kind_after, kept_frame}
use Rattle.virtual_scanner.proofs.scanner.VirtualScannerDevice.set.Goals as goal

pub invariant_of-self : goal.invariant_of-self
invariant_of-self c =
    let s = c.self.inside.setup in
    let t = c.set_option.new.setup in
    let kind : t.scene.kind ≡ s.scene.kind = kind_after s t c.args.n c.set_option.result c.set_option.ensures.ok c.set_option.ensures.err in
    record {
      limits = limits_set c.self.inside.info s t (map source_state c.self.inside.tray.items) (phase_of c.self.inside.at) (phase_of c.self.inside.at) kind (c.set_option.ensures.allowed c.self.invariant.limits.setup) c.self.invariant.limits;
      room = λ feeds. c.self.invariant.room (ap is_feeder (sym kind) ∙ feeds);
      frame = kept_frame c.self.inside.at c.in-Rest.field-0 t (map source_state c.self.inside.tray.items) c.in-Rest.is;
    }

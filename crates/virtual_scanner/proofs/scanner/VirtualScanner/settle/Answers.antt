use Rattle.std.proofs.Common.{◌≡◌, ◌∙◌, ap, sym, subst, map, List}
use Rattle.page_sources.specs.SourceView.{source_state}
use Rattle.page_picture.specs.Source.{SourceState}
use Rattle.device_api.specs.ScannerLimits.{HasLimits}
use Rattle.device_api.specs.Kinds.{is_feeder}
use Rattle.device_api.specs.State.{left_behind}
use Rattle.virtual_scanner.specs.Inside.{device_on}
use Rattle.virtual_scanner.specs.Phases.{phase_of}
use Rattle.virtual_scanner.proofs.Limits.{kept_frame, limits_left, map-left_behind, same_room}
use Rattle.virtual_scanner.proofs.scanner.VirtualScanner.settle.Goals as goal

pub invariant_of-self : goal.invariant_of-self
invariant_of-self c =
    let setup = c.self.inside.setup in
    let xs : List SourceState = map source_state c.self.inside.tray.items in
    let ys : List SourceState = map source_state c.let_go.new.tray.items in
    let at = c.self.inside.at in
    let left : ys ≡ left_behind (is_feeder setup.scene.kind) xs = ap (map source_state) c.let_go.ensures.left ∙ map-left_behind (is_feeder setup.scene.kind) c.self.inside.tray.items in
    record {
      limits = subst (λ (zs : List SourceState). HasLimits (device_on c.self.inside.info setup zs (phase_of at))) (sym left) (limits_left c.self.inside.info setup xs (phase_of at) (phase_of at) c.self.invariant.limits);
      room = same_room c.self.inside.tray c.let_go.new.tray setup.scene.kind c.let_go.ensures.room c.self.invariant.room;
      frame = kept_frame at c.in-Rest.field-0 setup ys c.in-Rest.is;
    }

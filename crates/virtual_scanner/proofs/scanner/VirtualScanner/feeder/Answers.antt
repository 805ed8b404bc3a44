use Rattle.std.proofs.Common.{◌≡◌, ◌≤◌, ◌∙◌, ap, sym, subst, map, rules, arith, false, List, length}
use Rattle.std.specs.Prelude.{All, vec_capacity}
use Rattle.page_sources.specs.SourceView.{source_state}
use Rattle.page_picture.specs.declared.scene.DeviceKind.TheVariants.{Feeder}
use Rattle.page_sources.specs.declared.kinds.Source.{Source}
use Rattle.device_api.specs.ScannerLimits.{IsHeldPage}
use Rattle.device_api.specs.State.{held_from, tray_room}
use Rattle.device_api.specs.State.Phase.{AtRest}
use Rattle.virtual_scanner.proofs.Limits.{count_of, limits_new}
use Rattle.virtual_scanner.proofs.scanner.VirtualScanner.feeder.Goals as goal

pub invariant_of-result : goal.invariant_of-result
invariant_of-result c =
    let setup = c.defaults.result in
    let same : c.reserve.new.self.items ≡ c.args.pages.items = c.reserve.ensures.items in
    let seen : c.reserve.new.self.items ≡ c.deref.result.now = same ∙ sym c.deref.ensures.value in
    let held : All IsHeldPage (map held_from (map source_state c.reserve.new.self.items)) = subst (λ (xs : List Source). All IsHeldPage (map held_from (map source_state xs))) (sym seen) c.see_limits.ensures in
    let count : length (map held_from (map source_state c.reserve.new.self.items)) ≡ length c.args.pages.items = count_of c.reserve.new.self.items ∙ ap length same in
    let room : tray_room ≤ vec_capacity c.reserve.new.self = search rules in
    record {
      limits = limits_new c.in-Ok.info Feeder c.args.order setup (map source_state c.reserve.new.self.items) (AtRest false) c.defaults.ensures.value c.defaults.ensures.allowed held (omega (arith, c.args.pages.ok.0));
      room = λ _. room;
      frame = tt;
    }

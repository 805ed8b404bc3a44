use Rattle.std.proofs.Common.{◌≡◌, ◌∙◌, ap, sym, subst, map, rules, refl, false, [], ◌∷◌, List, Bool}
use Rattle.std.proofs.lemmas.Bool.{false≢true}
use Rattle.std.proofs.lemmas.List.Elements.{All-cons, All-nil}
use Rattle.page_sources.specs.SourceView.{source_state}
use Rattle.page_sources.specs.declared.kinds.Source.{Source}
use Rattle.device_api.specs.ScannerLimits.{HasLimits, IsHeldPage, IsPageCount}
use Rattle.device_api.specs.Kinds.{is_feeder}
use Rattle.device_api.specs.State.{held_from}
use Rattle.device_api.specs.State.Phase.{AtRest}
use Rattle.virtual_scanner.specs.Inside.{device_on}
use Rattle.virtual_scanner.proofs.Limits.{kind_new, limits_new}
use Rattle.virtual_scanner.proofs.scanner.VirtualScanner.new.Goals as goal

pub invariant_of-result : goal.invariant_of-result
invariant_of-result c =
    let setup = c.defaults.result in
    let items : c.push.new.self.items ≡ c.args.source ∷ [] = search rules in
    let held = All-cons IsHeldPage (held_from (source_state c.args.source)) [] (record { shape = c.size-size.ensures.limits; view = c.size-size.ensures.page_view }) (All-nil IsHeldPage) in
    let one : IsPageCount (is_feeder c.args.kind) 1 = subst (λ (feeds : Bool). IsPageCount feeds 1) (sym c.requires) refl in
    record {
      limits = subst (λ (xs : List Source). HasLimits (device_on c.in-Ok.info setup (map source_state xs) (AtRest false))) (sym items)
          (limits_new c.in-Ok.info c.args.kind c.args.order setup (source_state c.args.source ∷ []) (AtRest false) c.defaults.ensures.value c.defaults.ensures.allowed held one);
      room = λ feeds. absurd (false≢true (sym c.requires ∙ (sym (ap is_feeder (kind_new c.args.kind c.args.order setup c.defaults.ensures.value)) ∙ feeds)));
      frame = tt;
    }

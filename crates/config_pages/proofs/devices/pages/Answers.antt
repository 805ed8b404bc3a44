use Rattle.std.proofs.Common.{rules, ◌≡◌, ◌+◌, ◌++◌, ◌∷◌, [], refl, subst, sym, map, take}
use Rattle.std.specs.List.{AllZip}
use Rattle.page_sources.specs.SourceView.{source_state}
use Rattle.config_pages.specs.InputTexts.{with_calls}
use Rattle.config_pages.specs.Pages.{HasNoPage, IsPageOfText, calls_of_page}
use Rattle.config_pages.proofs.CallLists.{page_more}
use Rattle.config_pages.proofs.NoScanners.{no_next, no_room}
use Rattle.config_pages.proofs.PageLists.{one_more}
use Rattle.config_pages.proofs.devices.pages.Goals as goal

pub returns-in-Err-clause-fault : goal.returns-in-Err-clause-fault
returns-in-Err-clause-fault g c =
    let is : c.as_bytes.result.now ≡ c.text-item.result = search rules in
    no_next c.args.line.now c.deref-text-items.result.now c.loop-text.text-index c.text-item.result _ _ _ c.in-Err.why c.device_fault.result c.requires (search rules) (search rules) (search rules) c.loop-text.invariant.asked
    (subst (λ text. HasNoPage text c.args.line.now.dpi (g.I.Inputs.seen c.loop-text.inputs) (g.I.Inputs.seen c.page_source.new.inputs) c.in-Err.why) is c.in-Err.ensures.fault) c.device_fault.ensures

pub returns-then-is_err-clause-fault : goal.returns-then-is_err-clause-fault
returns-then-is_err-clause-fault g c =
    let is : c.as_bytes.result.now ≡ c.text-item.result = search rules in
    let asked : g.I.Inputs.seen c.page_source.new.inputs ≡ with_calls (calls_of_page c.text-item.result) (g.I.Inputs.seen c.loop-text.inputs) =
    subst (λ text. g.I.Inputs.seen c.page_source.new.inputs ≡ with_calls (calls_of_page text) (g.I.Inputs.seen c.loop-text.inputs)) is c.in-Ok.ensures.asked in
    no_room c.args.line.now c.deref-text-items.result.now (c.loop-text.text-index + 1) _ _ _ c.requires (search rules)
    (page_more _ _ _ c.deref-text-items.result.now c.loop-text.text-index c.text-item.result (search rules) (search rules) c.loop-text.invariant.asked asked) refl

pub loop-text-preserved : goal.loop-text-preserved
loop-text-preserved g c =
    let is : c.as_bytes.result.now ≡ c.text-item.result = search rules in
    let pushed : c.push.new.self.items ≡ c.loop-text.sources.items ++ c.in-Ok.source ∷ [] = search rules in
    let texts = (g.I.Inputs.seen c.args.inputs.now).texts in
    let page : IsPageOfText (g.I.Inputs.seen c.loop-text.inputs).texts c.text-item.result c.args.line.now.dpi (source_state c.in-Ok.source) =
    subst (λ text. IsPageOfText (g.I.Inputs.seen c.loop-text.inputs).texts text c.args.line.now.dpi (source_state c.in-Ok.source)) is c.in-Ok.ensures.found in
    let asked : g.I.Inputs.seen c.page_source.new.inputs ≡ with_calls (calls_of_page c.text-item.result) (g.I.Inputs.seen c.loop-text.inputs) =
    subst (λ text. g.I.Inputs.seen c.page_source.new.inputs ≡ with_calls (calls_of_page text) (g.I.Inputs.seen c.loop-text.inputs)) is c.in-Ok.ensures.asked in
    record {
      pages = subst (λ l. AllZip (λ text source. IsPageOfText texts text c.args.line.now.dpi source) (take (c.loop-text.text-index + 1) c.deref-text-items.result.now) (map source_state l)) (sym pushed)
          (one_more (λ text source. IsPageOfText texts text c.args.line.now.dpi source) source_state c.deref-text-items.result.now c.loop-text.sources.items c.loop-text.text-index c.text-item.result c.in-Ok.source (search rules) (search rules) c.loop-text.invariant.pages
          (subst (λ seen. IsPageOfText seen.texts c.text-item.result c.args.line.now.dpi (source_state c.in-Ok.source)) c.loop-text.invariant.asked page));
      asked = page_more _ _ _ c.deref-text-items.result.now c.loop-text.text-index c.text-item.result (search rules) (search rules) c.loop-text.invariant.asked asked;
    }

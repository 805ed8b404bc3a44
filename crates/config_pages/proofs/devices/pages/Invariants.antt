use Rattle.std.proofs.Common.{◌≡◌, map, take}
use Rattle.page_sources.specs.SourceView.{source_state}
use Rattle.std.specs.List.{AllZip}
use Rattle.config_pages.specs.InputTexts.{with_calls}
use Rattle.config_pages.specs.Pages.{IsPageOfText, calls_of_pages}
use Rattle.config_pages.proofs.devices.pages.Given as goal

-- the pages so far have each its source, and were asked for
abbrev pub invariant-loop-text : goal.invariant-loop-text
invariant-loop-text g l = record {
  pages : AllZip (λ text source. IsPageOfText (g.I.Inputs.seen l.initial.inputs).texts text l.line.dpi source) (take l.text-index l.text-items) (map source_state l.sources.items);
  asked : g.I.Inputs.seen l.inputs ≡ with_calls (calls_of_pages (take l.text-index l.text-items)) (g.I.Inputs.seen l.initial.inputs);
}

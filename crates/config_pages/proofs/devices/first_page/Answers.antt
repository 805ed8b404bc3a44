use Rattle.std.proofs.Common.{rules, ◌≡◌, ◌∷◌, subst}
use Rattle.std.specs.Prelude.{drop}
use Rattle.config_pages.specs.Pages.{HasNoPage}
use Rattle.config_pages.proofs.NoScanners.{no_first}
use Rattle.config_pages.proofs.devices.first_page.Goals as goal

pub returns-in-Err-clause-fault : goal.returns-in-Err-clause-fault
returns-in-Err-clause-fault g c =
    let is : c.args.line.now.pages.items ≡ c.in-Some.text.now ∷ drop 1 c.args.line.now.pages.items = search rules in
    no_first c.args.line.now c.in-Some.text.now _ _ _ c.in-Err.why c.device_fault.result c.requires is
    (subst (λ text. HasNoPage text c.args.line.now.dpi (g.I.Inputs.seen c.args.inputs.now) (g.I.Inputs.seen c.page_source.new.inputs) c.in-Err.why) c.as_bytes.ensures.bytes c.in-Err.ensures.fault) c.device_fault.ensures

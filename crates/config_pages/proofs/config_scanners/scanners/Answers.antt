use Rattle.std.proofs.Common.{rules, ◌≡◌, ◌+◌, ◌++◌, ◌∷◌, [], ap, subst, sym, map, take}
use Rattle.std.specs.List.{AllZip}
use Rattle.config_pages.specs.Devices.{HasNoScanner, IsDeviceOfKind}
use Rattle.virtual_scanner.specs.Scanners.{scanner_state}
use Rattle.config_pages.proofs.CallLists.{line_more}
use Rattle.config_pages.proofs.NoScanners.{lines_without, no_memory}
use Rattle.config_pages.proofs.PageLists.{one_more}
use Rattle.config_pages.proofs.config_scanners.scanners.Goals as goal

pub returns-in-Err-clause-fault : goal.returns-in-Err-clause-fault
returns-in-Err-clause-fault g c =
    lines_without c.args.lines.now c.loop-line.line-index c.line-item.result _ _ _ c.fault_of.result (search rules) (search rules) c.loop-line.invariant.asked (ap (λ why. why.line) c.fault_of.ensures)
    (subst (λ why. HasNoScanner c.line-item.result (g.I.Inputs.seen c.loop-line.inputs) (g.I.Inputs.seen c.scanner_of.new.inputs) why.fault) (sym c.fault_of.ensures) c.in-Err.ensures.fault)

pub returns-in_default-clause-fault : goal.returns-in_default-clause-fault
returns-in_default-clause-fault g c =
    lines_without c.args.lines.now c.loop-line.line-index c.line-item.result _ _ _ c.fault_of-in_default.result (search rules) (search rules) c.loop-line.invariant.asked (ap (λ why. why.line) c.fault_of-in_default.ensures)
    (no_memory _ _ _ _ c.in-Ok.ensures.asked (ap (λ why. why.fault) c.fault_of-in_default.ensures))

pub loop-line-preserved : goal.loop-line-preserved
loop-line-preserved g c =
    let texts = (g.I.Inputs.seen c.args.inputs.now).texts in
    let pushed : c.push.new.self.items ≡ c.loop-line.scanners.items ++ c.in-Ok.scanner ∷ [] = search rules in
    record {
      devices = subst (λ l. AllZip (λ line device. IsDeviceOfKind texts line.kind line c.args.order device) (take (c.loop-line.line-index + 1) c.args.lines.now) (map scanner_state l)) (sym pushed)
          (one_more (λ line device. IsDeviceOfKind texts line.kind line c.args.order device) scanner_state c.args.lines.now c.loop-line.scanners.items c.loop-line.line-index c.line-item.result c.in-Ok.scanner (search rules) (search rules) c.loop-line.invariant.devices
          (subst (λ seen. IsDeviceOfKind seen.texts c.line-item.result.kind c.line-item.result c.args.order (scanner_state c.in-Ok.scanner)) c.loop-line.invariant.asked c.in-Ok.ensures.device));
      asked = line_more _ _ _ c.args.lines.now c.loop-line.line-index c.line-item.result (search rules) (search rules) c.loop-line.invariant.asked c.in-Ok.ensures.asked;
    }

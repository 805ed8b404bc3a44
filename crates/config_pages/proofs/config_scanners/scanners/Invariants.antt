use Rattle.std.proofs.Common.{◌≡◌, map, take}
use Rattle.config_pages.specs.Devices.{AreDevicesOf, calls_of_lines}
use Rattle.config_pages.specs.InputTexts.{with_calls}
use Rattle.virtual_scanner.specs.Scanners.{scanner_state}
use Rattle.config_pages.proofs.config_scanners.scanners.Given as goal

-- the lines so far have each its scanner, and their page files were asked for
abbrev pub invariant-loop-line : goal.invariant-loop-line
invariant-loop-line g l = record {
  devices : AreDevicesOf (g.I.Inputs.seen l.initial.inputs).texts l.order (take l.line-index l.lines) (map scanner_state l.scanners.items);
  asked : g.I.Inputs.seen l.inputs ≡ with_calls (calls_of_lines (take l.line-index l.lines)) (g.I.Inputs.seen l.initial.inputs);
}

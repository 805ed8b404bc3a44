use Rattle.std.proofs.Common.{rules, ◌≡◌, Some, ap, refl}
use Rattle.config_pages.specs.InputTexts.InputName.{FileText}
use Rattle.scanimage_cli.specs.declared.planning.Input.TheVariants.{StandardInput, Path}
use Rattle.scanimage_cli.proofs.InputsRead.{lines_at, refused_at}
use Rattle.scanimage_cli.proofs.inputs.config_lines.Goals as goal

pub returns-in-Some-StandardInput-clause-refused : goal.returns-in-Some-StandardInput-clause-refused
returns-in-Some-StandardInput-clause-refused g c =
    let is : c.args.config.now ≡ Some StandardInput = search rules in
    refused_at c.args.config.now StandardInput _ _ _ _ _ c.config_from.result is refl refl c.standard-read.ensures c.config_from.ensures.refused

pub returns-in-Some-Path-clause-lines : goal.returns-in-Some-Path-clause-lines
returns-in-Some-Path-clause-lines g c =
    let is : c.args.config.now ≡ Some (Path c.in-Some-Path.path) = search rules in
    lines_at (λ lines. lines.items) c.args.config.now (Path c.in-Some-Path.path) _ _ _ _ c.config_from-in-Some-Path.result is (ap FileText c.as_bytes-name.ensures.bytes) c.file-read.ensures c.config_from-in-Some-Path.ensures.lines

pub returns-in-Some-Path-clause-refused : goal.returns-in-Some-Path-clause-refused
returns-in-Some-Path-clause-refused g c =
    let is : c.args.config.now ≡ Some (Path c.in-Some-Path.path) = search rules in
    refused_at c.args.config.now (Path c.in-Some-Path.path) _ _ _ _ _ c.config_from-in-Some-Path.result is (ap FileText c.as_bytes-name.ensures.bytes) c.as_bytes-name.ensures.bytes c.file-read.ensures c.config_from-in-Some-Path.ensures.refused

use Rattle.std.proofs.Common.{rules, ◌≡◌, Some, ap}
use Rattle.config_pages.specs.InputTexts.InputName.{FileText}
use Rattle.scanimage_cli.proofs.InputsRead.{empty_is_taken, password_at}
use Rattle.scanimage_cli.proofs.inputs.password_of.Goals as goal

pub returns-in-Some-clause-password : goal.returns-in-Some-clause-password
returns-in-Some-clause-password g c =
    let is : c.args.file.now ≡ Some c.in-Some.path = search rules in
    password_at c.args.file.now c.in-Some.path _ _ _ _ c.password_from.result is (ap FileText c.as_bytes-name.ensures.bytes) c.file-read.ensures c.password_from.ensures.line

pub returns-in-None-clause-refused : goal.returns-in-None-clause-refused
returns-in-None-clause-refused g c =
    empty_is_taken _ c.new.result.items c.from_vec.result c.map_err.result c.new.ensures.items c.from_vec.ensures.nul.0 c.map_err.ensures.variant

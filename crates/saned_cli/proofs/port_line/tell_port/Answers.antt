use Rattle.std.proofs.Common.{◌++◌, List, ℕ, ap, ◌∙◌}
use Rattle.std.specs.Prelude.{codes}
use Rattle.saned_cli.proofs.LineLaws.{told_as}
use Rattle.saned_cli.proofs.port_line.tell_port.Goals as goal

pub returns : goal.returns
returns g c = told_as _ _ _ _ _ (ap (λ (d : List ℕ). codes "port " ++ (d ++ codes "\n")) (c.as_bytes.ensures.value ∙ c.format.ensures.text)) c.write_line.ensures

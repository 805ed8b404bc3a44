use Rattle.std.proofs.Common.{rules}
use Rattle.hex.specs.Hex.{encode_with}
use Rattle.saned_cli.proofs.socket_table.byte_digits.Goals as goal

pub returns : goal.returns
unfolding encode_with
returns c = simp (c.from.ensures, c.from-2.ensures) (search rules)

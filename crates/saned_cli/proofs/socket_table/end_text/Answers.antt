use Rattle.std.proofs.Common.{rules}
use Rattle.hex.specs.Hex.{encode_with}
use Rattle.saned_cli.proofs.socket_table.end_text.Goals as goal

pub returns : goal.returns
unfolding encode_with
returns c =
    simp
    (c.byte_digits.ensures, c.byte_digits-2.ensures, c.byte_digits-3.ensures, c.byte_digits-4.ensures, c.byte_digits-5.ensures, c.byte_digits-6.ensures, c.octets.ensures, c.ip.ensures, c.port.ensures, c.port-2.ensures)
    (search rules)

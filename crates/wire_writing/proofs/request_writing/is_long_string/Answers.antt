use Rattle.std.proofs.Common.{◌∙◌, sym, ap, length, List, ℕ}
use Rattle.std.specs.Prelude.{nat_lt}
use Rattle.wire_writing.proofs.Spelled.{string_long}
use Rattle.wire_writing.proofs.request_writing.is_long_string.Goals as goal

pub returns : goal.returns
returns c = ap (λ (t : List ℕ). nat_lt 1023 (length t)) c.as_bytes.ensures.bytes ∙ sym (string_long c.args.text.now)

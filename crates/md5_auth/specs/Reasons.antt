-- Why a line of a users file is refused: the texts of the reasons.
use Rattle.std.specs.Prelude.{ℕ, List, codes}
use Rattle.text_lines.specs.declared.limits.LimitFault.{LimitFault}
use Rattle.text_lines.specs.declared.limits.LimitFault.TheVariants.{TooMany as TooManyLines, TooLong as LineTooLong}
use Rattle.md5_auth.specs.declared.line_fault.LineReason.{LineReason}
use Rattle.md5_auth.specs.declared.line_fault.LineReason.TheVariants.{TooMany, TooLong, BadByte, Colons, EmptyField}
use Rattle.md5_auth.specs.declared.line_fault.LineReason.TheVariants.{NoMem}

abbrev pub reason_text : LineReason → List ℕ
reason_text TooMany = codes "too many lines"
reason_text TooLong = codes "line too long"
reason_text BadByte = codes "bad byte"
reason_text Colons = codes "wrong number of fields"
reason_text EmptyField = codes "empty field"
reason_text NoMem = codes "out of memory"

-- the reason that a broken limit is
abbrev pub limit_reason : LimitFault → LineReason
limit_reason TooManyLines = TooMany
limit_reason LineTooLong = TooLong

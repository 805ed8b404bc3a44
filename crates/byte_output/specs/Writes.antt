-- What a write to an output comes to, by the result that the writer gave.
use Rattle.std.specs.Prelude.{ℕ, zero, suc, Bool, true, false, Result, Ok, Err}
use Rattle.std.specs.IoError.{error_kind}
use Rattle.std.specs.declared.io.Error.{Error}
use Rattle.std.specs.declared.io.ErrorKind.{ErrorKind}
use Rattle.std.specs.declared.io.ErrorKind.TheVariants.{Interrupted}

abbrev pub is_interruption : ErrorKind → Bool
is_interruption Interrupted = true
is_interruption kind = false

abbrev pub fails_by_error : Bool → Bool
fails_by_error true = false
fails_by_error false = true

-- **failed write (`fails_to_write`)**: one that gave an error other than an interruption, or of which nothing was
-- taken.
abbrev pub fails_to_write : Result ℕ Error → Bool
fails_to_write (Ok zero) = true
fails_to_write (Ok (suc n)) = false
fails_to_write (Err e) = fails_by_error (is_interruption (error_kind e))

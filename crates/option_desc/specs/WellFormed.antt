-- What every constraint keeps.
use Rattle.std.specs.Prelude.{length}
use Rattle.constraint.specs.Admitted.{IsRange, HasRoom}
use Rattle.option_desc.specs.declared.descriptor.Constraint.{Constraint}
use Rattle.option_desc.specs.declared.descriptor.Constraint.TheVariants.{Free, Span, Words, Strings}

-- a range goes up from min to max, and a list has 1 to 1,023 entries
abbrev pub IsWellFormed : Constraint → Type 0
IsWellFormed Free = Unit {0}
IsWellFormed (Span range) = IsRange range
IsWellFormed (Words words) = HasRoom (length words)
IsWellFormed (Strings texts) = HasRoom (length texts)

-- The numbers of the units (SANE Standard 1.06, "Unit").
use Rattle.std.specs.Prelude.{ℕ}
use Rattle.sane_fixed.specs.declared.unit.Unit.{Unit as AnyUnit}
use Rattle.sane_fixed.specs.declared.unit.Unit.TheVariants.{None, Pixel, Bit, Mm, Dpi, Percent, Microsecond}

abbrev pub unit_code : AnyUnit → ℕ
unit_code None = 0
unit_code Pixel = 1
unit_code Bit = 2
unit_code Mm = 3
unit_code Dpi = 4
unit_code Percent = 5
unit_code Microsecond = 6

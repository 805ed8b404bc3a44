-- The numbers of the kinds of options (SANE Standard 1.06, "Value Type").
use Rattle.std.specs.Prelude.{ℕ}
use Rattle.sane_fixed.specs.declared.kind.Kind.{Kind}
use Rattle.sane_fixed.specs.declared.kind.Kind.TheVariants.{Bool, Int, Fixed, String, Button, Group}

abbrev pub kind_code : Kind → ℕ
kind_code Bool = 0
kind_code Int = 1
kind_code Fixed = 2
kind_code String = 3
kind_code Button = 4
kind_code Group = 5

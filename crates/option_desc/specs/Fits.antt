-- Which values fit an option: the kind agrees, and so does the size.
use Rattle.std.specs.Prelude.{◌≡◌, ◌<◌, ◌≤◌, ◌+◌, ◌/◌, ◌==◌, ◌&&◌, ℕ, Bool, true, false, nat_lt, ◌⊎◌, List, length}
use Rattle.sane_fixed.specs.declared.kind.Kind.{Kind}
use Rattle.sane_fixed.specs.declared.kind.Kind.TheVariants as kind
use Rattle.option_desc.specs.declared.descriptor.Constraint.{Constraint}
use Rattle.option_desc.specs.declared.descriptor.Constraint.TheVariants.{Free, Span, Words as WordsOf, Strings}
use Rattle.option_desc.specs.declared.descriptor.Descriptor.{Descriptor}
use Rattle.option_desc.specs.declared.value.Value.{Value}
use Rattle.option_desc.specs.declared.value.Value.TheVariants.{Flag, Int, Fixed, Words, Text}

-- a list of texts makes room for each of them; elsewhere a text and its NUL stay within the size
abbrev pub HasRoomFor : Constraint → ℕ → List ℕ → Type 0
HasRoomFor (Strings _) size text = Unit {0}
HasRoomFor Free size text = length text + 1 ≤ size
HasRoomFor (Span _) size text = length text + 1 ≤ size
HasRoomFor (WordsOf _) size text = length text + 1 ≤ size

-- **fits (`Fits`)**: the kind agrees, a vector has as many words as the option's size says, and a text that no list
-- binds has room for its NUL.
abbrev pub Fits : Descriptor → Value → Type 0
Fits desc (Flag _) = (desc.kind ≡ kind.Bool) × (desc.size / 4 ≡ 1)
Fits desc (Int _) = (desc.kind ≡ kind.Int) × (desc.size ≡ 4)
Fits desc (Fixed _) = (desc.kind ≡ kind.Fixed) × (desc.size ≡ 4)
Fits desc (Words words) = ((desc.kind ≡ kind.Int) ⊎ (desc.kind ≡ kind.Fixed)) × (4 < desc.size)
    × (length words ≡ desc.size / 4)
Fits desc (Text text) = (desc.kind ≡ kind.String) × HasRoomFor desc.constraint desc.size text

-- the same as tests
abbrev pub has_room_for : Constraint → ℕ → List ℕ → Bool
has_room_for (Strings _) size text = true
has_room_for Free size text = nat_lt (length text) size
has_room_for (Span _) size text = nat_lt (length text) size
has_room_for (WordsOf _) size text = nat_lt (length text) size

abbrev pub fits_as : Kind → ℕ → Constraint → Value → Bool
fits_as kind.Bool size constraint (Flag _) = size / 4 == 1
fits_as kind.Int size constraint (Int _) = size == 4
fits_as kind.Fixed size constraint (Fixed _) = size == 4
fits_as kind.Int size constraint (Words words) = nat_lt 4 size && (length words == size / 4)
fits_as kind.Fixed size constraint (Words words) = nat_lt 4 size && (length words == size / 4)
fits_as kind.String size constraint (Text text) = has_room_for constraint size text
fits_as _ size constraint _ = false

abbrev pub fits_of : Descriptor → Value → Bool
fits_of desc value = fits_as desc.kind desc.size desc.constraint value

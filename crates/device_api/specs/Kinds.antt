-- A kind of scanner: its names, its greatest resolution, whether it is a feeder, and its tray. The tray says what a
-- start leaves of it, what it is with a page laid in, and how many pages it can have.
use Rattle.std.specs.Prelude.{ℕ, ◌≡◌, ◌≤◌, List, [], ◌∷◌, ◌++◌, Bool, true, false, ltb, length, codes}
use Rattle.page_picture.specs.Page.{PageView}
use Rattle.page_picture.specs.declared.scene.DeviceKind.{DeviceKind}
use Rattle.page_picture.specs.declared.scene.DeviceKind.TheVariants.{Flatbed, Hand, ThreePass, Feeder}

-- **a kind of scanner (`model_of`, `class_of`, `greatest_resolution`, `is_feeder`)**: its names, and whether pages are
-- fed to it from a tray. What a start leaves in the tray, what a page laid in makes of it, when it has room, how many
-- pages it can have: `after_start`, `laid_in`, `has_room`, `IsStocked`.
abbrev pub model_of : DeviceKind → List ℕ
model_of Flatbed = codes "Flatbed"
model_of Hand = codes "Hand"
model_of ThreePass = codes "ThreePass"
model_of Feeder = codes "Feeder"

abbrev pub class_of : DeviceKind → List ℕ
class_of Flatbed = codes "flatbed scanner"
class_of Hand = codes "handheld scanner"
class_of ThreePass = codes "flatbed scanner"
class_of Feeder = codes "sheetfed scanner"

-- dots per inch
abbrev pub greatest_resolution : DeviceKind → ℕ
greatest_resolution Flatbed = 1200
greatest_resolution Hand = 300
greatest_resolution ThreePass = 1200
greatest_resolution Feeder = 1200

abbrev pub is_feeder : DeviceKind → Bool
is_feeder Flatbed = false
is_feeder Hand = false
is_feeder ThreePass = false
is_feeder Feeder = true

-- the kind of a scanner
abbrev pub Model : Type 0
Model = DeviceKind

abbrev pub Page : Type 0
Page = PageView

-- the tray once its first page is started: a feeder takes it out
abbrev pub after_start : Model → List Page → List Page
after_start Feeder [] = []
after_start Feeder (page ∷ tray) = tray
after_start Flatbed tray = tray
after_start Hand tray = tray
after_start ThreePass tray = tray

-- the tray with a page laid in: a feeder adds it, the others drop the one that they had
abbrev pub laid_in : Model → Page → List Page → List Page
laid_in Feeder page tray = tray ++ page ∷ []
laid_in Flatbed page tray = page ∷ []
laid_in Hand page tray = page ∷ []
laid_in ThreePass page tray = page ∷ []

abbrev pub has_room : Model → List Page → Bool
has_room Feeder tray = ltb (length tray) 16
has_room Flatbed tray = true
has_room Hand tray = true
has_room ThreePass tray = true

-- as many pages as a device of this model can have
abbrev pub IsStocked : Model → List Page → Type 0
IsStocked Feeder tray = length tray ≤ 16
IsStocked Flatbed tray = length tray ≡ 1
IsStocked Hand tray = length tray ≡ 1
IsStocked ThreePass tray = length tray ≡ 1

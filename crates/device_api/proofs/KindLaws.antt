-- FACTS OF EVERY KIND OF SCANNER, kind by kind: the crates above cite these, and take the kinds apart no more.
use Rattle.std.specs.Prelude.{◌&&◌, ◌||◌, not, nat_lt, ◌-ℤ◌, ◌+ℤ◌, Some, None}
use Rattle.std.specs.List.{list_any}
use Rattle.std.specs.Str.{bytes_eq}
use Rattle.std.proofs.Common.{◌≡◌, ◌⊎◌, inl, inr, ◌≤◌, ◌+◌, ◌*◌, ◌∙◌, ℕ, ℤ, pos, negsuc, Bool, true, List, [], ◌∷◌, length, length-append, refl, sym, ap, subst, arith}
use Rattle.std.proofs.Math.IntN.{pos-+ℤ-pos, -ℤ-+ℤ_cancel}
use Rattle.std.proofs.lemmas.Bool.{ltb-true}
use Rattle.std.proofs.lemmas.Nat.{mul-le}
use Rattle.sane_fixed.specs.Length.{px_of}
use Rattle.sane_fixed.specs.declared.fixed.Fixed.{Fixed as Length}
use Rattle.page_picture.specs.Page.{PageView}
use Rattle.page_picture.specs.Extent.{across, down, hand_width}
use Rattle.page_picture.specs.declared.scene.DeviceKind.{DeviceKind}
use Rattle.page_picture.specs.declared.scene.DeviceKind.TheVariants.{Hand, Feeder}
use Rattle.scan_frames.specs.Frames.{has_picture, height_of, lines_in_params, width_of}
use Rattle.scan_frames.specs.declared.setup.Setup.{Setup}
use Rattle.scan_frames.proofs.Frames.{has_sides}
use Rattle.device_api.specs.declared.scan_option.ScanOption.{ScanOption}
use Rattle.device_api.specs.Options.{option_name, options_of}
use Rattle.device_api.specs.Kinds.{greatest_resolution, is_feeder, Model, Page, after_start, has_room, laid_in, IsStocked}
use Rattle.device_api.specs.ScannerLimits.{IsAllowed, IsOnBed, IsPageCount}
use Rattle.device_api.specs.State.{left_behind, pages_with, tray_room}

-- ---- the pages in its tray: whether it is a feeder says all

pub start_leaves : (kind : Model) (tray : List Page) → after_start kind tray ≡ left_behind (is_feeder kind) tray
start_leaves Feeder [] = refl
start_leaves Feeder (page ∷ tray) = refl
start_leaves _ tray = refl

pub laid_is : (kind : Model) (page : Page) (tray : List Page) → laid_in kind page tray ≡ pages_with (is_feeder kind) tray page
laid_is Feeder page tray = refl
laid_is _ page tray = refl

pub room_is : (kind : Model) (tray : List Page) → has_room kind tray ≡ (not (is_feeder kind) || nat_lt (length tray) tray_room)
room_is Feeder tray = refl
room_is _ tray = refl

pub stocked_by : (kind : Model) (tray : List Page) → IsPageCount (is_feeder kind) (length tray) → IsStocked kind tray
stocked_by Feeder tray count = count
stocked_by _ tray count = count

pub start_stocked : (kind : Model) (tray : List Page) → IsStocked kind tray → IsStocked kind (after_start kind tray)
start_stocked Feeder [] stocked = stocked
start_stocked Feeder (page ∷ tray) stocked = omega (arith, stocked)
start_stocked _ tray stocked = stocked

pub laid_stocked : (kind : Model) (page : Page) (tray : List Page) → has_room kind tray ≡ true → IsStocked kind (laid_in kind page tray)
laid_stocked Feeder page tray room = let few = ltb-true (length tray) 16 room in let count = length-append tray (page ∷ []) in omega arith
laid_stocked _ page tray room = refl

-- ---- its frames: it tells how many lines one has, or nothing of it

pub lines_or_none : (kind : DeviceKind) (lines : ℕ) → (lines_in_params kind lines ≡ Some lines) ⊎ (lines_in_params kind lines ≡ None)
lines_or_none Hand lines = inr refl
lines_or_none _ lines = inl refl

-- ---- the sides of its pictures

-- a length of at most 200 mm has at most 9,448 dots
dots : (z : ℤ) (a b r : ℕ) → z ≡ pos a -ℤ pos b → a ≤ 200 * 65536 → r ≤ 1200 → px_of z r ≤ 9448
dots (pos n) a b r e few low =
    let sum : pos (n + b) ≡ pos a = sym (pos-+ℤ-pos n b) ∙ ap (λ (z : ℤ). z +ℤ pos b) e ∙ -ℤ-+ℤ_cancel (pos a) (pos b) in
    let all : n + b ≡ a = cc in
    let less : n ≤ a = omega arith in
    let most : n * r ≤ 13107200 * 1200 = mul-le n r 13107200 1200 (omega arith) low in
    omega arith
dots (negsuc n) a b r e few low = omega arith

bed : (from to : Length) (r : ℕ) → IsOnBed from → IsOnBed to → r ≤ 1200 → px_of (to.0 -ℤ from.0) r ≤ 9448
bed from to r a b low =
    dots (to.0 -ℤ from.0) b.number a.number r (ap (λ (z : ℤ). z -ℤ from.0) b.is ∙ ap (λ (z : ℤ). pos b.number -ℤ z) a.is) b.high_is low

hand : (r : ℕ) → r ≤ 300 → px_of hand_width r ≤ 1299
hand r low = omega arith

-- so many dots across and lines down at most, and with the most dots that a line loses at most 9,448 lines of 57,072 bytes
abbrev pub HasSides : Setup → PageView → Type 0
HasSides s page = (w h : ℕ) × (width_of s ≤ w) × (height_of s page ≤ h) × (h * (6 * (w + 64)) ≤ 9448 * 57072)

-- a picture of what lies in a window on the bed
in_window : (s : Setup) (page : PageView) → IsAllowed s → across s.scene.kind s.scene ≡ px_of (s.scene.br_x.0 -ℤ s.scene.tl_x.0) s.scene.resolution → height_of s page ≡ px_of (s.scene.br_y.0 -ℤ s.scene.tl_y.0) s.scene.resolution → HasSides s page
in_window s page a wide high =
    let r = a.limits.resolution_most in
    let w = bed s.scene.tl_x s.scene.br_x s.scene.resolution a.tl_x a.br_x r in
    let h = bed s.scene.tl_y s.scene.br_y s.scene.resolution a.tl_y a.br_y r in
    (9448, 9448, omega (arith, wide, w), omega (arith, high, h), omega arith)

sides_by : (kind : DeviceKind) (s : Setup) (page : PageView) → s.scene.kind ≡ kind → IsAllowed s → has_picture s page ≡ true → HasSides s page
sides_by Hand s page is a there =
    let r : s.scene.resolution ≤ 300 = subst (λ (k : DeviceKind). s.scene.resolution ≤ greatest_resolution k) is a.resolution in
    let w : width_of s ≤ 1299 = subst (λ (k : DeviceKind). across k s.scene ≤ 1299) (sym is) (hand s.scene.resolution r) in
    (1299, 65536, w, (has_sides s page there).height_most, omega arith)
sides_by _ s page is a there =
    in_window s page a (ap (λ (k : DeviceKind). across k s.scene) is) (ap (λ (k : DeviceKind). down k page.height page.dpi s.scene) is)

pub sides_most : (s : Setup) (page : PageView) → IsAllowed s → has_picture s page ≡ true → HasSides s page
sides_most s page = sides_by s.scene.kind s page refl

-- ---- its options

pub options_few : (kind : DeviceKind) → length (options_of kind) ≤ 32
options_few Hand = omega arith
options_few _ = omega arith

abbrev pub goes_by : ScanOption → ScanOption → Bool
goes_by a b = bytes_eq (option_name a) (option_name b)

-- no two of these options have one name
abbrev pub are_apart : List ScanOption → Bool
are_apart [] = true
are_apart (o ∷ os) = not (list_any (goes_by o) os) && are_apart os

pub options_apart : (kind : DeviceKind) → are_apart (options_of kind) ≡ true
options_apart Hand = refl
options_apart _ = refl

-- What an extent tells of its scene.
use Rattle.std.proofs.Common.{◌≡◌, ℕ, ◌<◌, ◌≤◌, ◌*◌, ◌+◌, ◌-◌, ◌/◌, ◌&&◌, Bool, true, false, ℤ, pos, negsuc, arith, zero, suc, ap, sym, refl, subst}
use Rattle.std.specs.Prelude.{Option, Some, None, IfSome, nat_le, nat_lt, ◌==◌, if◌then◌else◌, slice_index, get_or, List, [], ◌^◌}
use Rattle.std.proofs.lemmas.Option.{cond_some}
use Rattle.std.proofs.lemmas.Bool.{and_parts, eqb-true}
use Rattle.std.proofs.lemmas.Nat.{div_below, le-div, mod_below, div-add-mod'}
use Rattle.std.proofs.Math.Nat.{mul-le-mul_right}
use Rattle.std.proofs.lemmas.Bool.Decides.{nat_tests}
use Rattle.sane_fixed.specs.Length.{px_of}
use Rattle.page_picture.specs.Page.{PageView, IsPageView, page_sample_at}
use Rattle.netpbm.specs.Picture.{IsPicture}
use Rattle.page_picture.specs.declared.scene.Mode.{Mode}
use Rattle.page_picture.specs.declared.scene.Mode.TheVariants.{Gray, Color}
use Rattle.page_picture.specs.declared.scene.Scene.{Scene}
use Rattle.page_picture.specs.declared.scene.DeviceKind.{DeviceKind}
use Rattle.page_picture.specs.declared.scene.DeviceKind.TheVariants.{Hand}
use Rattle.page_picture.specs.Extent.{extent_of, across, down, is_side, shows_depth, hand_width, IsInside, lines_over}
use Rattle.page_picture.specs.Seen.{dot_at, seen_at}
use Rattle.page_picture.specs.Tone.{brightness, in_channel, tone}
use Rattle.page_picture.specs.Meaning.{sample_of, greatest_at, picture_of}

pub px_of-zero : (length : ℤ) → px_of length 0 ≡ 0
px_of-zero (pos n) = omega arith
px_of-zero (negsuc n) = omega arith

-- a length that spans a dot has a resolution
pub resolution_from_px : (length : ℤ) (resolution : ℕ) → 1 ≤ px_of length resolution → 1 ≤ resolution
resolution_from_px length zero h = absurd (omega (arith, px_of-zero length))
resolution_from_px length (suc r) h = omega arith

pub resolution_from_across : (kind : DeviceKind) (scene : Scene) → 1 ≤ across kind scene → 1 ≤ scene.resolution
resolution_from_across Hand scene h = resolution_from_px hand_width scene.resolution h
resolution_from_across _ scene h = resolution_from_px _ scene.resolution h

pub side_from_test : (n : ℕ) → is_side n ≡ true → (1 ≤ n) × (n ≤ 65536)
side_from_test n h = let p = and_parts (nat_le 1 n) (nat_le n 65536) h in (grind (arith, nat_tests), grind (arith, nat_tests))

-- the sides of an extent
pub record HasExtent (page_view : PageView) (scene : Scene) (size : ℕ × ℕ) : Type 0 where
  pub width : across scene.kind scene ≡ size.0
  pub height : down scene.kind page_view.height page_view.dpi scene ≡ size.1
  pub width_in : (1 ≤ size.0) × (size.0 ≤ 65536)
  pub height_in : (1 ≤ size.1) × (size.1 ≤ 65536)

pub has_extent : (page_view : PageView) (scene : Scene) (size : ℕ × ℕ) → extent_of page_view scene ≡ Some size → HasExtent page_view scene size
has_extent page_view scene size e =
    let found = cond_some (shows_depth scene.mode scene.depth && (is_side (across scene.kind scene) && is_side (down scene.kind page_view.height page_view.dpi scene))) (across scene.kind scene, down scene.kind page_view.height page_view.dpi scene) size e in
    let shown = and_parts (shows_depth scene.mode scene.depth) (is_side (across scene.kind scene) && is_side (down scene.kind page_view.height page_view.dpi scene)) found.0 in
    let sides = and_parts (is_side (across scene.kind scene)) (is_side (down scene.kind page_view.height page_view.dpi scene)) shown.1 in
    let w : across scene.kind scene ≡ size.0 = ap (λ (p : ℕ × ℕ). p.0) found.1 in
    let h : down scene.kind page_view.height page_view.dpi scene ≡ size.1 = ap (λ (p : ℕ × ℕ). p.1) found.1 in
    let a = side_from_test (across scene.kind scene) sides.0 in
    let b = side_from_test (down scene.kind page_view.height page_view.dpi scene) sides.1 in
    record { width = w; height = h; width_in = (omega arith, omega arith); height_in = (omega arith, omega arith) }

pub resolution_from_inside : (page_view : PageView) (scene : Scene) (x y : ℕ) → IsInside page_view scene x y → 1 ≤ scene.resolution
resolution_from_inside page_view scene x y inside =
    let e = has_extent page_view scene inside.size inside.extent in
    resolution_from_across scene.kind scene (omega arith)

-- a quotient is below a number just where the dividend is below the multiple
pub lines_over-lt : (height dpi resolution y : ℕ) → 1 ≤ dpi → 1 ≤ resolution → y < lines_over height dpi resolution → y * dpi / resolution < height
lines_over-lt height dpi resolution y a b less =
    let whole : (height * resolution + (dpi - 1)) / dpi * dpi ≤ height * resolution + (dpi - 1) = omega (arith, div-add-mod' (height * resolution + (dpi - 1)) dpi) in
    let up : suc y * dpi ≤ (height * resolution + (dpi - 1)) / dpi * dpi = mul-le-mul_right dpi less in
    div_below (y * dpi) resolution height b (omega arith)

pub lines_over-from : (height dpi resolution y : ℕ) → 1 ≤ dpi → 1 ≤ resolution → y * dpi / resolution < height → y < lines_over height dpi resolution
lines_over-from height dpi resolution y a b less =
    let part = div-add-mod' (y * dpi) resolution in
    let small = mod_below (y * dpi) resolution b in
    let up : suc (y * dpi / resolution) * resolution ≤ height * resolution = mul-le-mul_right resolution less in
    omega (arith, le-div (y + 1) (height * resolution + (dpi - 1)) dpi a (omega arith))

-- ---- samples are in range

pub dot_limit : (page_view : PageView) (column row k : ℕ) → IsPageView page_view → dot_at page_view column row k < 2 ^ 16
dot_limit page_view column row k is =
    let P : Bool → Type 0 = λ t. (if t then page_sample_at page_view column row k else 65535) < 2 ^ 16 in
    elim (nat_lt column page_view.width && nat_lt row page_view.height) as P [ true ↦ is.sixteen_bits ((row * page_view.width + column) * 3 + k) | false ↦ omega arith ]

pub brightness_limit : (mode : Mode) (seen : ℕ → ℕ) (k : ℕ) → ((k : ℕ) → seen k < 2 ^ 16) → brightness mode seen k < 2 ^ 16
brightness_limit Gray seen k all = omega (arith, all 0, all 1, all 2)
brightness_limit Color seen k all = all k

pub tone_limit : (depth : ℕ) (table : List ℕ) (v : ℕ) → v < 2 ^ 16 → ((i : ℕ) → slice_index table i < 2 ^ 8) → tone depth table v ≤ greatest_at depth
tone_limit depth table v small bytes =
    let P : Bool → Type 0 = λ t. (if t then v else (if depth == 8 then slice_index table (v / 256) else (if nat_lt (slice_index table (v / 256)) 128 then 1 else 0))) ≤ (if t then 65535 else (if depth == 8 then 255 else 1)) in
    let Q : Bool → Type 0 = λ t. (if t then slice_index table (v / 256) else (if nat_lt (slice_index table (v / 256)) 128 then 1 else 0)) ≤ (if t then 255 else 1) in
    let R : Bool → Type 0 = λ t. (if t then 1 else 0) ≤ 1 in
    elim (depth == 16) as P [
      | true ↦ omega arith
      | false ↦ elim (depth == 8) as Q [
        | true ↦ omega (arith, bytes (v / 256))
        | false ↦ elim (nat_lt (slice_index table (v / 256)) 128) as R [ true ↦ omega arith | false ↦ omega arith ]
      ]
    ]

-- the entries of each table are bytes
abbrev pub AreBytes : List (List ℕ) → Type 0
AreBytes tables = (k i : ℕ) → slice_index (get_or tables k []) i < 2 ^ 8

pub channel_limit : (mode : Mode) (depth : ℕ) (tables : List (List ℕ)) (k v : ℕ) → v ≤ greatest_at depth → AreBytes tables → in_channel mode depth tables k v ≤ greatest_at depth
channel_limit Gray depth tables k v small bytes = small
channel_limit Color depth tables k v small bytes = by_depth (depth == 8) refl
  where
    by_depth : (t : Bool) → (depth == 8) ≡ t → (if t then slice_index (get_or tables k []) v else v) ≤ greatest_at depth
    by_depth true e = subst (λ (d : ℕ). slice_index (get_or tables k []) v ≤ greatest_at d) (sym (eqb-true depth 8 e)) (omega (arith, bytes k v))
    by_depth false e = small

pub greatest_limits : (depth : ℕ) → (1 ≤ greatest_at depth) × (greatest_at depth ≤ 65535)
greatest_limits depth =
    let P : Bool → Type 0 = λ t. (1 ≤ (if t then 65535 else (if depth == 8 then 255 else 1))) × ((if t then 65535 else (if depth == 8 then 255 else 1)) ≤ 65535) in
    let Q : Bool → Type 0 = λ t. (1 ≤ (if t then 255 else 1)) × ((if t then 255 else 1) ≤ 65535) in
    elim (depth == 16) as P [ true ↦ (omega arith, omega arith) | false ↦ elim (depth == 8) as Q [ true ↦ (omega arith, omega arith) | false ↦ (omega arith, omega arith) ] ]

-- what a scene means on a page is a picture
pub is_picture : (page_view : PageView) (scene : Scene) (size : ℕ × ℕ) → IsPageView page_view → ((i : ℕ) → slice_index scene.gamma i < 2 ^ 8) → AreBytes scene.channel_gamma → extent_of page_view scene ≡ Some size → IsPicture (picture_of page_view scene size)
unfolding sample_of
is_picture page_view scene size is bytes channels e =
    let sides = has_extent page_view scene size e in
    let limits = greatest_limits scene.depth in
    record {
      width_some = sides.width_in.0;
      width_most = sides.width_in.1;
      height_some = sides.height_in.0;
      height_most = sides.height_in.1;
      greatest_some = limits.0;
      greatest_most = limits.1;
      in_range = λ x y k place.
          channel_limit scene.mode scene.depth scene.channel_gamma k _
          (tone_limit scene.depth scene.gamma (brightness scene.mode (seen_at page_view scene x y) k) (brightness_limit scene.mode (seen_at page_view scene x y) k (λ k. dot_limit page_view _ _ k is)) bytes) channels;
    }

-- where the extent is some, what the scene means is a picture
pub is_picture_where : (r : Option (ℕ × ℕ)) (page_view : PageView) (scene : Scene) → IsPageView page_view → ((i : ℕ) → slice_index scene.gamma i < 2 ^ 8) → AreBytes scene.channel_gamma → r ≡ extent_of page_view scene → IfSome r (λ size. IsPicture (picture_of page_view scene size))
is_picture_where None page_view scene is bytes channels e = tt
is_picture_where (Some size) page_view scene is bytes channels e = is_picture page_view scene size is bytes channels (sym e)

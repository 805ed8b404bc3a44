-- What the tests on frames that are kept say.
use Rattle.std.proofs.Common.{◌≡◌, ℕ, ◌<◌, ◌≤◌, ◌⊎◌, ◌+◌, length, inl, inr, Bool, true, false, not, arith, refl, sym, ap, ◌∙◌}
use Rattle.std.specs.Prelude.{nat_le, nat_lt, ◌&&◌, ◌||◌, if◌then◌else◌, Option, Some, None}
use Rattle.std.proofs.lemmas.Bool.{and_parts}
use Rattle.sane_fixed.specs.declared.params.Params.{Params}
use Rattle.sane_fixed.specs.declared.frame_format.FrameFormat.{FrameFormat}
use Rattle.sane_fixed.specs.declared.frame_format.FrameFormat.TheVariants.{Gray, Rgb, Red, Green, Blue}
use Rattle.frame_join.specs.AloneFrame.{is_alone_format, is_known, is_shaped, lines_in, ShapeParts}
use Rattle.frame_join.specs.KeptFrame.{is_unknown, is_open_ended, is_pass, is_pass_that}
use Rattle.frame_join.specs.declared.join_stage.Stage.{Stage}
use Rattle.frame_join.specs.declared.join_stage.Stage.TheVariants.{Idle, Under, Keeping, Between, Whole, WholeColors, Failed}
use Rattle.sane_fixed.specs.declared.byte_order.ByteOrder.{ByteOrder}
use Rattle.frame_join.specs.KeptFrame.{is_alike, color_number}
use Rattle.frame_join.specs.ColorPlanes.{nth_plane}
use Rattle.frame_join.specs.JoinStages.{is_keeping, is_between, is_colors}
use Rattle.frame_join.specs.PixelJoinStates.{PixelJoinState}
use Rattle.frame_join.specs.Inside.{is_whole, can_give, is_ready, is_held, accepts_next, has_two, is_there}
use Rattle.frame_join.proofs.TestLemmas.{lt_from, le_from, or_cases, or_left, or_right, not_true}
use Rattle.frame_join.proofs.FrameLaws.{shape_parts, known_parts}

unknown_is : (o : Option ℕ) → is_unknown o ≡ true → o ≡ None
unknown_is None h = refl
unknown_is (Some n) h = absurd (cc)

pub record OpenParts (p : Params) : Type 0 where
  pub format : is_alone_format p.format ≡ true
  pub last : p.last_frame ≡ true
  pub lines : p.lines ≡ None
  pub shape : ShapeParts p

pub open_parts : (p : Params) → is_open_ended p ≡ true → OpenParts p
open_parts p h =
    let one = and_parts (is_alone_format p.format) (p.last_frame && (is_unknown p.lines && is_shaped p)) h in
    let two = and_parts p.last_frame (is_unknown p.lines && is_shaped p) one.1 in
    let three = and_parts (is_unknown p.lines) (is_shaped p) two.1 in
    record { format = one.0; last = two.0; lines = unknown_is p.lines three.0; shape = shape_parts p three.1 }

pub record PassParts (p : Params) : Type 0 where
  pub format : is_alone_format p.format ≡ false
  pub lines_known : p.lines ≡ Some (lines_in p.lines)
  pub lines_some : 1 ≤ lines_in p.lines
  pub lines_most : lines_in p.lines ≤ 65536
  pub shape : ShapeParts p

pub pass_parts : (p : Params) → is_pass p ≡ true → PassParts p
pass_parts p h =
    let one = and_parts (not (is_alone_format p.format)) (is_known p.lines && is_shaped p) h in
    let two = and_parts (is_known p.lines) (is_shaped p) one.1 in
    let lines = known_parts p.lines two.0 in
    record { format = not_true (is_alone_format p.format) one.0; lines_known = lines.0; lines_some = lines.1; lines_most = lines.2; shape = shape_parts p two.1 }

pub pass_that_is_pass : (last : Bool) (p : Params) → is_pass_that last p ≡ true → is_pass p ≡ true
pass_that_is_pass last p h = (and_parts (is_pass p) (if last then p.last_frame else not p.last_frame) h).0

-- ---- what holds of a frame that is kept

pub kept_shape : (p : Params) → (is_open_ended p || is_pass p) ≡ true → ShapeParts p
kept_shape p h = elim (or_cases (is_open_ended p) (is_pass p) h) [
  | inl rolled ↦ (open_parts p rolled).shape
  | inr pass ↦ (pass_parts p pass).shape
]

pub kept_lines : (p : Params) → (is_open_ended p || is_pass p) ≡ true → lines_in p.lines ≤ 65536
kept_lines p h = elim (or_cases (is_open_ended p) (is_pass p) h) [
  | inl rolled ↦ (let none : lines_in p.lines ≡ 0 = ap lines_in (open_parts p rolled).lines in omega (arith, none))
  | inr pass ↦ (pass_parts p pass).lines_most
]

pub first_is_kept : (p : Params) → (is_open_ended p || is_pass_that false p) ≡ true → (is_open_ended p || is_pass p) ≡ true
first_is_kept p h = elim (or_cases (is_open_ended p) (is_pass_that false p) h) [
  | inl rolled ↦ or_left (is_open_ended p) (is_pass p) rolled
  | inr pass ↦ or_right (is_open_ended p) (is_pass p) (pass_that_is_pass false p pass)
]

pub next_is_kept : (last : Bool) (p : Params) → is_pass_that last p ≡ true → (is_open_ended p || is_pass p) ≡ true
next_is_kept last p h = or_right (is_open_ended p) (is_pass p) (pass_that_is_pass last p h)

-- a color has no bits
one_is_gray : (g : FrameFormat) → is_alone_format g ≡ false → g ≡ Gray → ⊥
one_is_gray Gray a b = cc
one_is_gray Rgb a b = cc
one_is_gray Red a b = cc
one_is_gray Green a b = cc
one_is_gray Blue a b = cc

pub pass_depth : (p : Params) → PassParts p → (p.depth ≡ 8) ⊎ (p.depth ≡ 16)
pass_depth p parts = elim parts.shape.depths [
  | inl bits ↦ absurd (one_is_gray p.format parts.format (parts.shape.bits bits))
  | inr more ↦ more
]

-- while frames are collected nothing moves
pub collecting_rests : (s : Stage) → can_give s ≡ true → (is_keeping s || is_between s) ≡ true → ⊥
collecting_rests Idle a b = cc
collecting_rests Under a b = cc
collecting_rests Keeping a b = cc
collecting_rests Between a b = cc
collecting_rests Whole a b = cc
collecting_rests WholeColors a b = cc
collecting_rests (Failed _) a b = cc

pub ready_row : (v : PixelJoinState) → is_ready v ≡ true → v.row < lines_in v.params.lines
ready_row v ready = lt_from v.row (lines_in v.params.lines) (and_parts (nat_lt v.row (lines_in v.params.lines)) (is_colors v.stage || is_held v) ready).0

pub ready_held : (v : PixelJoinState) → is_ready v ≡ true → is_colors v.stage ≡ false → is_held v ≡ true
ready_held v ready one = elim (or_cases (is_colors v.stage) (is_held v) (and_parts (nat_lt v.row (lines_in v.params.lines)) (is_colors v.stage || is_held v) ready).1) [
  | inl colors ↦ absurd (let clash : true ≡ false = sym colors ∙ one in cc)
  | inr held ↦ held
]

pub ready_line : (v : PixelJoinState) → is_ready v ≡ true → is_colors v.stage ≡ false → v.params.bytes_per_line ≤ length v.held
ready_line v ready one = le_from v.params.bytes_per_line (length v.held) (and_parts (nat_le v.params.bytes_per_line (length v.held)) (is_whole v.stage || nat_lt (v.row + 1) (lines_in v.params.lines)) (ready_held v ready one)).0

pub accepted_is_kept : (v : PixelJoinState) (p : Params) (o : ByteOrder) → accepts_next v p o ≡ true → (is_open_ended p || is_pass p) ≡ true
accepted_is_kept v p o h = next_is_kept (has_two v.planes) p (and_parts (is_pass_that (has_two v.planes) p) (not (is_there (nth_plane v.planes (color_number p.format))) && is_alike v.params v.order p o) h).0

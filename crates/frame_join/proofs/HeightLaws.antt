-- A frame told of the height that its bytes make.
use Rattle.std.proofs.Common.{◌≡◌, ℕ, ◌≤◌, ◌*◌, ◌/◌, true, length, arith, refl, sym, ap, ◌∙◌, subst}
use Rattle.std.specs.Prelude.{nat_le, ◌==◌, Option, Some, None}
use Rattle.std.proofs.lemmas.Bool.{and_parts}
use Rattle.std.proofs.Math.Nat.{mul-div_cancel}
use Rattle.netpbm.specs.Picture.{Picture}
use Rattle.sane_fixed.specs.declared.params.Params.{Params}
use Rattle.page_picture.specs.Shows.{Frame, HasLines, ShowsAlone}
use Rattle.frame_join.specs.AloneFrame.{lines_in, ShapeParts, AloneParts}
use Rattle.frame_join.specs.FrameHistory.{is_full, is_full_at}
use Rattle.frame_join.specs.FrameFile.{height_at, frame_height, with_height}
use Rattle.frame_join.proofs.TestLemmas.{eq_true, eq_from, le_true, le_from, and_true}
use Rattle.frame_join.proofs.KeptLaws.{OpenParts}
use Rattle.page_picture.specs.Extent.{is_side}

-- ---- the height that is known

pub height_known : (f : Frame) → f.params.lines ≡ Some (lines_in f.params.lines) → frame_height f ≡ lines_in f.params.lines
height_known f known = ap (λ (o : Option ℕ). height_at o f.params.bytes_per_line (length f.payload)) known

pub height_open : (f : Frame) → f.params.lines ≡ None → frame_height f ≡ length f.payload / f.params.bytes_per_line
height_open f open_end = ap (λ (o : Option ℕ). height_at o f.params.bytes_per_line (length f.payload)) open_end

pub settled_known : (f : Frame) → f.params.lines ≡ Some (lines_in f.params.lines) → with_height f ≡ f
settled_known f known = ap (λ (o : Option ℕ). record f { params = record f.params { lines = o } }) (ap (λ (n : ℕ). Some n) (height_known f known) ∙ sym known)

-- ---- a frame that has all its bytes

full_by : (o : Option ℕ) (line size : ℕ) → is_full_at o line size ≡ true → size ≡ height_at o line size * line
full_by None line size h = eq_from size (size / line * line) (and_parts (is_side (size / line)) (size == size / line * line) h).1
full_by (Some n) line size h = eq_from size (n * line) h

pub full_size : (f : Frame) → is_full f ≡ true → length f.payload ≡ frame_height f * f.params.bytes_per_line
full_size f full = full_by f.params.lines f.params.bytes_per_line (length f.payload) full

side_by : (line size : ℕ) → is_full_at None line size ≡ true → (1 ≤ size / line) × (size / line ≤ 65536)
side_by line size h =
    let side = and_parts (nat_le 1 (size / line)) (nat_le (size / line) 65536) (and_parts (is_side (size / line)) (size == size / line * line) h).0 in
    (le_from 1 (size / line) side.0, le_from (size / line) 65536 side.1)

pub open_side : (f : Frame) → f.params.lines ≡ None → is_full f ≡ true → (1 ≤ frame_height f) × (frame_height f ≤ 65536)
open_side f open_end full =
    let at : is_full_at None f.params.bytes_per_line (length f.payload) ≡ true = ap (λ (o : Option ℕ). is_full_at o f.params.bytes_per_line (length f.payload)) (sym open_end) ∙ full in
    subst (λ (n : ℕ). (1 ≤ n) × (n ≤ 65536)) (sym (height_open f open_end)) (side_by f.params.bytes_per_line (length f.payload) at)

pub size_full_by : (o : Option ℕ) (line size height : ℕ) → 1 ≤ line → HasLines o height → 1 ≤ height → height ≤ 65536 → size ≡ height * line → is_full_at o line size ≡ true
size_full_by None line size height some has low high e =
    let quotient : size / line ≡ height = ap (λ (n : ℕ). n / line) e ∙ mul-div_cancel height (omega (arith, some)) in
    and_true (is_side (size / line)) (size == size / line * line)
    (ap is_side quotient ∙ and_true (nat_le 1 height) (nat_le height 65536) (le_true 1 height low) (le_true height 65536 high))
    (eq_true size (size / line * line) (e ∙ ap (λ (n : ℕ). n * line) (sym quotient)))
size_full_by (Some n) line size height some has low high e = eq_true size (n * line) (e ∙ ap (λ (n : ℕ). n * line) (sym has))

-- a frame that shows a picture has all its bytes
pub shown_full : (f : Frame) (p : Picture) → ShowsAlone f p → 1 ≤ f.params.bytes_per_line → is_full f ≡ true
shown_full f p shows some =
    size_full_by f.params.lines f.params.bytes_per_line (length f.payload) p.height some shows.fits.height shows.fits.is_picture.height_some shows.fits.is_picture.height_most shows.fits.size

-- so has one of known height, whose bytes are its lines
pub color_full : (f : Frame) (height : ℕ) → f.params.lines ≡ Some height → length f.payload ≡ height * f.params.bytes_per_line → is_full f ≡ true
color_full f height known size = ap (λ (o : Option ℕ). is_full_at o f.params.bytes_per_line (length f.payload)) known ∙ eq_true (length f.payload) (height * f.params.bytes_per_line) size

pub height_by : (o : Option ℕ) (line size height : ℕ) → 1 ≤ line → HasLines o height → size ≡ height * line → height_at o line size ≡ height
height_by None line size height some has e = ap (λ (n : ℕ). n / line) e ∙ mul-div_cancel height (omega (arith, some))
height_by (Some n) line size height some has e = has

-- ---- what the frame shows

reshape : (p : Params) (o : Option ℕ) → ShapeParts p → ShapeParts (record p { lines = o })
reshape p o s = record {
  depth = s.depth;
  bits = s.bits;
  depths = s.depths;
  line_shape = record {
    depth = s.line_shape.depth;
    width_some = s.line_shape.width_some;
    width_most = s.line_shape.width_most;
    enough = s.line_shape.enough;
    line_most = s.line_shape.line_most;
  };
  width_some = s.width_some;
  width_most = s.width_most;
  row_some = s.row_some;
  fits = s.fits;
  line_most = s.line_most;
}

pub settled_alone : (f : Frame) → OpenParts f.params → is_full f ≡ true → AloneParts (with_height f).params
settled_alone f parts full =
    let side = open_side f parts.lines full in
    record {
      shape = reshape f.params (Some (frame_height f)) parts.shape;
      format = parts.format;
      last = parts.last;
      lines_known = refl;
      lines_some = side.0;
      lines_most = side.1;
    }

-- with its height told it shows the same
pub settled_shows : (f : Frame) (p : Picture) → 1 ≤ f.params.bytes_per_line → ShowsAlone f p → ShowsAlone (with_height f) p
settled_shows f p some shows = record {
  last = shows.last;
  channels = shows.channels;
  fits = record {
    shape = record {
      depth = shows.fits.shape.depth;
      width_some = shows.fits.shape.width_some;
      width_most = shows.fits.shape.width_most;
      enough = shows.fits.shape.enough;
      line_most = shows.fits.shape.line_most;
    };
    is_picture = shows.fits.is_picture;
    width = shows.fits.width;
    height = height_by f.params.lines f.params.bytes_per_line (length f.payload) p.height some shows.fits.height shows.fits.size;
    greatest = shows.fits.greatest;
    size = shows.fits.size;
  };
  samples = shows.samples;
}

pub told_by : (o : Option ℕ) (line size height : ℕ) → height_at o line size ≡ height → HasLines o height
told_by None line size height e = tt
told_by (Some n) line size height e = e

pub unsettled_shows : (f : Frame) (p : Picture) → ShowsAlone (with_height f) p → ShowsAlone f p
unsettled_shows f p shows = record {
  last = shows.last;
  channels = shows.channels;
  fits = record {
    shape = record {
      depth = shows.fits.shape.depth;
      width_some = shows.fits.shape.width_some;
      width_most = shows.fits.shape.width_most;
      enough = shows.fits.shape.enough;
      line_most = shows.fits.shape.line_most;
    };
    is_picture = shows.fits.is_picture;
    width = shows.fits.width;
    height = told_by f.params.lines f.params.bytes_per_line (length f.payload) p.height shows.fits.height;
    greatest = shows.fits.greatest;
    size = shows.fits.size;
  };
  samples = shows.samples;
}

-- What is told of a frame passes the same tests as what is kept of it.
use Rattle.std.proofs.Common.{◌≡◌, ℕ, ◌⊎◌, inl, inr, Bool, true, false, not, List, [], ◌∷◌, arith, refl, sym, ap, ◌∙◌, map}
use Rattle.std.specs.Prelude.{◌&&◌, ◌||◌, if◌then◌else◌, Option, None}
use Rattle.sane_fixed.specs.declared.params.Params.{Params}
use Rattle.sane_fixed.specs.declared.byte_order.ByteOrder.{ByteOrder}
use Rattle.page_picture.specs.Shows.{Frame}
use Rattle.frame_join.specs.AloneFrame.{is_alone_format, is_alone, is_known, is_shaped, row_bytes, ShapeParts}
use Rattle.frame_join.specs.KeptFrame.{is_unknown, is_open_ended, is_pass, is_pass_that, goes_with}
use Rattle.frame_join.specs.FrameHistory.{is_accepted, is_joined}
use Rattle.frame_join.specs.Pixels.{is_kept, pixel_params, pixels_of, pixels_from}
use Rattle.std.proofs.lemmas.Bool.{and_parts}
use Rattle.frame_join.proofs.TestLemmas.{and_true, or_cases, or_left, or_right}
use Rattle.frame_join.proofs.KeptLaws.{open_parts, pass_parts}
use Rattle.frame_join.proofs.AcceptLaws.{shaped_is}
use Rattle.frame_join.proofs.JoinLaws.{kept_sort}

-- the parameters with lines of just the pixels
abbrev pub narrow : Params → Params
narrow p = record p { bytes_per_line = row_bytes p }

-- what is kept of a frame that is kept
abbrev pub narrowed : Frame → Frame
narrowed f = record { params = narrow f.params; order = f.order; payload = pixels_from (row_bytes f.params) f.params.bytes_per_line 0 f.payload }

pub pixels_kept : (f : Frame) → is_kept f.params ≡ true → pixels_of f ≡ narrowed f
pixels_kept f kept = ap (λ (t : Bool). record { params = if t then narrow f.params else f.params; order = f.order; payload = if t then pixels_from (row_bytes f.params) f.params.bytes_per_line 0 f.payload else f.payload }) kept

pub pixels_same : (f : Frame) → is_kept f.params ≡ false → pixels_of f ≡ f
pixels_same f through = ap (λ (t : Bool). record { params = if t then narrow f.params else f.params; order = f.order; payload = if t then pixels_from (row_bytes f.params) f.params.bytes_per_line 0 f.payload else f.payload }) through

pub params_kept : (p : Params) → is_kept p ≡ true → pixel_params p ≡ narrow p
params_kept p kept = ap (λ (t : Bool). if t then narrow p else p) kept

-- ---- one frame

narrow_shaped : (p : Params) → ShapeParts p → is_shaped (narrow p) ≡ true
narrow_shaped p s = shaped_is (narrow p) (record {
  depth = s.line_shape.depth;
  width_some = s.line_shape.width_some;
  width_most = s.line_shape.width_most;
  enough = omega arith;
  line_most = omega (arith, s.fits, s.line_most);
})

-- a test that fails at one of its parts
dead_known : (a b c s : Bool) → c ≡ false → (a && (b && (c && s))) ≡ false
dead_known false b c s e = refl
dead_known true false c s e = refl
dead_known true true c s e = ap (λ (t : Bool). t && s) e

dead_format : (a b : Bool) → a ≡ false → (a && b) ≡ false
dead_format a b e = ap (λ (t : Bool). t && b) e

unknown_not_known : (o : Option ℕ) → o ≡ None → is_known o ≡ false
unknown_not_known o e = ap is_known e

no_alone : (p : Params) → (is_open_ended p ≡ true) ⊎ (is_pass p ≡ true) → is_alone p ≡ false
no_alone p (inl rolled) = dead_known (is_alone_format p.format) p.last_frame (is_known p.lines) (is_shaped p) (unknown_not_known p.lines (open_parts p rolled).lines)
no_alone p (inr pass) = dead_format (is_alone_format p.format) (p.last_frame && (is_known p.lines && is_shaped p)) (pass_parts p pass).format

pub kept_cases : (p : Params) → is_kept p ≡ true → (is_open_ended p ≡ true) ⊎ (is_pass p ≡ true)
kept_cases p kept = or_cases (is_open_ended p) (is_pass p) kept

pub kept_not_alone : (p : Params) → is_kept p ≡ true → is_alone p ≡ false
kept_not_alone p kept = no_alone p (kept_cases p kept)

-- the tests on a frame that is kept, on what is kept of it
record SameTests (p : Params) : Type 0 where
  alone : is_alone (narrow p) ≡ is_alone p
  rolled : is_open_ended (narrow p) ≡ is_open_ended p
  pass : is_pass (narrow p) ≡ is_pass p

same_tests : (p : Params) → (is_open_ended p ≡ true) ⊎ (is_pass p ≡ true) → SameTests p
same_tests p (inl rolled) =
    let parts = open_parts p rolled in
    let shaped = narrow_shaped p parts.shape in
    let unknown : is_unknown p.lines ≡ true = ap is_unknown parts.lines in
    let gray : not (is_alone_format p.format) ≡ false = ap not parts.format in
    record {
      alone = dead_known (is_alone_format p.format) p.last_frame (is_known p.lines) (is_shaped (narrow p)) (unknown_not_known p.lines parts.lines) ∙ sym (no_alone p (inl rolled));
      rolled = and_true (is_alone_format p.format) (p.last_frame && (is_unknown p.lines && is_shaped (narrow p))) parts.format (and_true p.last_frame (is_unknown p.lines && is_shaped (narrow p)) parts.last (and_true (is_unknown p.lines) (is_shaped (narrow p)) unknown shaped)) ∙ sym rolled;
      pass = dead_format (not (is_alone_format p.format)) (is_known p.lines && is_shaped (narrow p)) gray ∙ sym (dead_format (not (is_alone_format p.format)) (is_known p.lines && is_shaped p) gray);
    }
same_tests p (inr pass) =
    let parts = pass_parts p pass in
    let shaped = narrow_shaped p parts.shape in
    let color : not (is_alone_format p.format) ≡ true = ap not parts.format in
    let known : is_known p.lines ≡ true = known_of p pass in
    record {
      alone = dead_format (is_alone_format p.format) (p.last_frame && (is_known p.lines && is_shaped (narrow p))) parts.format ∙ sym (no_alone p (inr pass));
      rolled = dead_format (is_alone_format p.format) (p.last_frame && (is_unknown p.lines && is_shaped (narrow p))) parts.format ∙ sym (dead_format (is_alone_format p.format) (p.last_frame && (is_unknown p.lines && is_shaped p)) parts.format);
      pass = and_true (not (is_alone_format p.format)) (is_known p.lines && is_shaped (narrow p)) color (and_true (is_known p.lines) (is_shaped (narrow p)) known shaped) ∙ sym pass;
    }
  where
    known_of : (p : Params) → is_pass p ≡ true → is_known p.lines ≡ true
    known_of p pass = (and_parts (is_known p.lines) (is_shaped p) (and_parts (not (is_alone_format p.format)) (is_known p.lines && is_shaped p) pass).1).0

-- ---- the tests on what is told and on what is kept of it

record SameSort (p : Params) : Type 0 where
  alone : is_alone (pixel_params p) ≡ is_alone p
  rolled : is_open_ended (pixel_params p) ≡ is_open_ended p
  pass : is_pass (pixel_params p) ≡ is_pass p
  last : (pixel_params p).last_frame ≡ p.last_frame
  format : (pixel_params p).format ≡ p.format

same_sort : (p : Params) → SameSort p
same_sort p = elim (is_kept p) as (λ t. is_kept p ≡ t → SameSort p) [
  | true ↦ λ kept. (
      let same = same_tests p (kept_cases p kept) in
      let is = params_kept p kept in
      record { alone = ap is_alone is ∙ same.alone; rolled = ap is_open_ended is ∙ same.rolled; pass = ap is_pass is ∙ same.pass; last = ap (λ (q : Params). q.last_frame) is; format = ap (λ (q : Params). q.format) is })
  | false ↦ λ through. (
      let is : pixel_params p ≡ p = ap (λ (t : Bool). if t then narrow p else p) through in
      record { alone = ap is_alone is; rolled = ap is_open_ended is; pass = ap is_pass is; last = ap (λ (q : Params). q.last_frame) is; format = ap (λ (q : Params). q.format) is })
] refl

pub kept_is_alone : (p : Params) → is_alone (pixel_params p) ≡ is_alone p
kept_is_alone p = (same_sort p).alone

pub same_pass : (p : Params) → is_pass (pixel_params p) ≡ is_pass p
same_pass p = (same_sort p).pass

pub same_format : (p : Params) → (pixel_params p).format ≡ p.format
same_format p = (same_sort p).format

that_same : (last : Bool) (p : Params) → is_pass_that last (pixel_params p) ≡ is_pass_that last p
that_same last p = let s = same_sort p in ap (λ (t : Bool). t && (if last then (pixel_params p).last_frame else not (pixel_params p).last_frame)) s.pass ∙ ap (λ (t : Bool). is_pass p && (if last then t else not t)) s.last

goes_same : (f : Frame) (p : Params) (o : ByteOrder) → goes_with (pixels_of f) (pixel_params p) o ≡ goes_with f p o
goes_same f p o = elim (is_kept f.params) as (λ t. by t (is_kept p) ≡ goes_with f p o) [
  | true ↦ elim (is_kept p) as (λ u. by true u ≡ goes_with f p o) [ true ↦ refl | false ↦ refl ]
  | false ↦ elim (is_kept p) as (λ u. by false u ≡ goes_with f p o) [ true ↦ refl | false ↦ refl ]
]
  where
    by : Bool → Bool → Bool
    by t u = goes_with (record { params = if t then narrow f.params else f.params; order = f.order; payload = if t then pixels_from (row_bytes f.params) f.params.bytes_per_line 0 f.payload else f.payload }) (if u then narrow p else p) o

pub accepted_same : (frames : List Frame) (p : Params) (o : ByteOrder) → is_accepted (map pixels_of frames) (pixel_params p) o ≡ is_accepted frames p o
accepted_same [] p o =
    let s = same_sort p in
    ap (λ (t : Bool). t || (is_open_ended (pixel_params p) || is_pass_that false (pixel_params p))) s.alone
    ∙ (ap (λ (t : Bool). is_alone p || (t || is_pass_that false (pixel_params p))) s.rolled
    ∙ ap (λ (t : Bool). is_alone p || (is_open_ended p || t)) (that_same false p))
accepted_same (a ∷ []) p o =
    ap (λ (t : Bool). t && goes_with (pixels_of a) (pixel_params p) o) (that_same false p) ∙ ap (λ (t : Bool). is_pass_that false p && t) (goes_same a p o)
accepted_same (a ∷ b ∷ []) p o =
    ap (λ (t : Bool). t && (goes_with (pixels_of a) (pixel_params p) o && goes_with (pixels_of b) (pixel_params p) o)) (that_same true p)
    ∙ (ap (λ (t : Bool). is_pass_that true p && (t && goes_with (pixels_of b) (pixel_params p) o)) (goes_same a p o)
    ∙ ap (λ (t : Bool). is_pass_that true p && (goes_with a p o && t)) (goes_same b p o))
accepted_same (a ∷ b ∷ c ∷ rest) p o = refl

pub joined_same_frames : (frames : List Frame) → is_joined (map pixels_of frames) ≡ is_joined frames
joined_same_frames [] = refl
joined_same_frames (f ∷ []) = ap is_alone_format (same_format f.params)
joined_same_frames (f ∷ g ∷ []) = refl
joined_same_frames (f ∷ g ∷ h ∷ rest) = refl

-- a frame that is accepted and does not go straight through is kept
pub accepted_is_kept : (frames : List Frame) (p : Params) (o : ByteOrder) → is_accepted frames p o ≡ true → is_alone p ≡ false → is_kept p ≡ true
accepted_is_kept frames p o accepted apart = elim (kept_sort frames (record { params = p; order = o; payload = [] }) accepted apart) [
  | inl rolled ↦ or_left (is_open_ended p) (is_pass p) rolled.0
  | inr pass ↦ or_right (is_open_ended p) (is_pass p) pass
]

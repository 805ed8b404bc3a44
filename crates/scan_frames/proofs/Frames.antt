-- A frame from its beginning to its end.
use Rattle.std.proofs.Common.{◌≡◌, ℕ, ◌<◌, ◌≤◌, ◌+◌, ◌-◌, ◌*◌, inl, inr, Bool, true, false, length, arith, refl, sym, ap, ◌∙◌}
use Rattle.std.specs.Prelude.{◌==◌, ◌&&◌, nat_le}
use Rattle.std.proofs.lemmas.Bool.{cases_lt}
use Rattle.std.proofs.lemmas.Bool.Decides.{nat_tests}
use Rattle.std.proofs.lemmas.Nat.{mul-le}
use Rattle.sane_fixed.specs.declared.frame_format.FrameFormat.{FrameFormat}
use Rattle.sane_fixed.specs.declared.frame_format.FrameFormat.TheVariants.{Gray as GrayFrame, Rgb as RgbFrame, Red as RedFrame, Green as GreenFrame, Blue as BlueFrame}
use Rattle.page_picture.specs.Page.{PageView}
use Rattle.page_picture.specs.Extent.{is_side, shows_depth}
use Rattle.page_picture.specs.Shows.{channels_within}
use Rattle.page_picture.specs.Source.{SourceState}
use Rattle.scan_frames.specs.declared.setup.Packing.{Packing}
use Rattle.scan_frames.specs.declared.setup.Packing.TheVariants.{Bits, Bytes, Words}
use Rattle.scan_frames.specs.declared.setup.Setup.{Setup}
use Rattle.scan_frames.specs.Line.{packing_of, line_size}
use Rattle.scan_frames.specs.Frames.{has_picture, height_of, width_of, format_at, bytes_per_line, pass_length}
use Rattle.scan_frames.specs.PassReading.{FrameProgress, IsFrame, given_in}
use Rattle.scan_frames.specs.Inside.{IsLineCounted, IsNewFrame, MakesLine, KeepsCount, HasLineBytes}
use Rattle.scan_frames.proofs.Scans.{mul-split, left_in_line, left_whole, made_not_given}

-- ---- a picture has bytes

both : (a b : Bool) → (a && b) ≡ true → (a ≡ true) × (b ≡ true)
both true true e = (refl, refl)
both true false e = absurd cc
both false b e = absurd cc

-- the tests of a picture
pub picture_tests : (a b c : Bool) → (a && (b && c)) ≡ true → (a ≡ true) × ((b ≡ true) × (c ≡ true))
picture_tests a b c e =
    let first = both a (b && c) e in
    (first.0, both b c first.1)

pub side_limits : (n : ℕ) → is_side n ≡ true → (1 ≤ n) × (n ≤ 65536)
side_limits n e =
    let p = both (nat_le 1 n) (nat_le n 65536) e in
    let a = p.0 in
    let b = p.1 in
    (grind (arith, nat_tests), grind (arith, nat_tests))

-- what the tests of a picture say
pub record Picturesque (setup : Setup) (page : PageView) : Type 0 where
  pub depth : shows_depth setup.scene.mode setup.scene.depth ≡ true
  pub width_some : 1 ≤ width_of setup
  pub width_most : width_of setup ≤ 65536
  pub height_some : 1 ≤ height_of setup page
  pub height_most : height_of setup page ≤ 65536

pub has_sides : (setup : Setup) (page : PageView) → has_picture setup page ≡ true → Picturesque setup page
has_sides setup page e =
    let tests = picture_tests (shows_depth setup.scene.mode setup.scene.depth) (is_side (width_of setup)) (is_side (height_of setup page)) e in
    let wide = side_limits (width_of setup) tests.1.0 in
    let tall = side_limits (height_of setup page) tests.1.1 in
    record { depth = tests.0; width_some = wide.0; width_most = wide.1; height_some = tall.0; height_most = tall.1 }

some_size : (p : Packing) (m : FrameFormat) (pixels : ℕ) → 1 ≤ pixels → 0 < line_size p (channels_within m) pixels
some_size Bits m pixels some = omega arith
some_size Bytes GrayFrame pixels some = omega arith
some_size Bytes RgbFrame pixels some = omega arith
some_size Bytes RedFrame pixels some = omega arith
some_size Bytes GreenFrame pixels some = omega arith
some_size Bytes BlueFrame pixels some = omega arith
some_size Words GrayFrame pixels some = omega arith
some_size Words RgbFrame pixels some = omega arith
some_size Words RedFrame pixels some = omega arith
some_size Words GreenFrame pixels some = omega arith
some_size Words BlueFrame pixels some = omega arith

pub some_bytes : (s : SourceState) (setup : Setup) (f : FrameProgress) → IsFrame s setup f → 0 < length f.line
some_bytes s setup f is =
    let sides = has_sides setup s.page is.picture in
    let wide : 1 ≤ width_of setup + setup.loss = let w = sides.width_some in omega arith in
    let some : 0 < bytes_per_line setup f.pass = some_size (packing_of setup.scene.depth) (format_at setup f.pass) (width_of setup + setup.loss) wide in
    let size = is.line in
    omega arith

-- a line is short
size_most : (p : Packing) (m : FrameFormat) (pixels : ℕ) → pixels ≤ 65600 → line_size p (channels_within m) pixels ≤ 1048576
size_most Bits m pixels few = omega arith
size_most Bytes GrayFrame pixels few = omega arith
size_most Bytes RgbFrame pixels few = omega arith
size_most Bytes RedFrame pixels few = omega arith
size_most Bytes GreenFrame pixels few = omega arith
size_most Bytes BlueFrame pixels few = omega arith
size_most Words GrayFrame pixels few = omega arith
size_most Words RgbFrame pixels few = omega arith
size_most Words RedFrame pixels few = omega arith
size_most Words GreenFrame pixels few = omega arith
size_most Words BlueFrame pixels few = omega arith

pub line_most : (setup : Setup) (page : PageView) (pass : ℕ) → has_picture setup page ≡ true → setup.loss ≤ 64 → bytes_per_line setup pass ≤ 1048576
line_most setup page pass picture loss =
    let sides = has_sides setup page picture in
    let few : width_of setup + setup.loss ≤ 65600 = let w = sides.width_most in omega arith in
    size_most (packing_of setup.scene.depth) (format_at setup pass) (width_of setup + setup.loss) few

pub short_line : (s : SourceState) (setup : Setup) (f : FrameProgress) → IsFrame s setup f → setup.loss ≤ 64 → length f.line ≤ 1048576
short_line s setup f is loss = let most = line_most setup s.page f.pass is.picture loss in let size = is.line in omega arith

-- ---- the beginning

pub first_count : (page : PageView) (setup : Setup) (pass height : ℕ) (f : FrameProgress) → IsNewFrame page setup pass height f → IsLineCounted f
first_count page setup pass height f fresh = record {
  none = λ e. fresh.left;
  begun = λ some. absurd (let e = fresh.made in omega arith);
}

-- ---- a line to give from

pub ready_left : (s : SourceState) (setup : Setup) (f : FrameProgress) → IsFrame s setup f → IsLineCounted f → 0 < f.left → HasLineBytes s setup f s f
ready_left s setup f is counted some = record {
  source = record { further = omega arith; after = refl };
  frame = is;
  pass_is = refl;
  given = refl;
  left = left_in_line f counted some;
  some = some;
  made = elim (cases_lt 0 f.made) as (λ _. 0 < f.made) [ inl more ↦ more | inr none ↦ absurd (let e : f.left ≡ 0 = counted.none (omega arith) in omega arith) ];
}

pub ready_end : (s : SourceState) (setup : Setup) (f : FrameProgress) → IsFrame s setup f → f.left ≡ 0 → f.made ≡ f.height → given_in f ≡ pass_length setup s.page f.pass
ready_end s setup f is none all =
    ap (λ (n : ℕ). f.made * length f.line - n) none
    ∙ (ap (λ (n : ℕ). n * length f.line - 0) (all ∙ is.height)
    ∙ (ap (λ (n : ℕ). height_of setup s.page * n - 0) is.line ∙ omega arith))

pub ready_made : (s t : SourceState) (setup : Setup) (f g : FrameProgress) → IsFrame s setup f → f.left ≡ 0 → MakesLine s setup f t g → HasLineBytes s setup f t g
ready_made s t setup f g is none made =
    let some = some_bytes s setup f is in
    let whole = left_whole f none some in
    let line = made.line in
    let left = made.left in
    let count = made.made in
    record {
      source = made.source;
      frame = made.frame;
      pass_is = made.pass_is;
      given = made_not_given f g none made.line made.made made.left;
      left = left ∙ (line ∙ whole);
      some = omega arith;
      made = omega arith;
    }

pub more_left : (s : SourceState) (setup : Setup) (f : FrameProgress) → IsFrame s setup f → f.left ≡ 0 → f.made < f.height → given_in f < pass_length setup s.page f.pass
more_left s setup f is none more =
    let b = length f.line in
    let some = some_bytes s setup f is in
    let up : (f.made + 1) * b ≤ f.height * b = mul-le (f.made + 1) b f.height b (omega arith) (omega arith) in
    let one : (f.made + 1) * b ≡ f.made * b + b = omega arith in
    let all : f.height * b ≡ pass_length setup s.page f.pass = ap (λ (n : ℕ). n * b) is.height ∙ ap (λ (n : ℕ). height_of setup s.page * n) is.line in
    omega arith

pub same_count : (f g : FrameProgress) → IsLineCounted f → KeepsCount f g → IsLineCounted g
same_count f g counted same = record {
  none = λ e. same.left ∙ counted.none (sym same.made ∙ e);
  begun = λ some.
      let less : f.left < length f.line = counted.begun (let e = same.made in omega arith) in
      let line : length g.line ≡ length f.line = same.line in
      let left = same.left in
      omega arith;
}

-- nothing was given exactly where no line was made
pub given_none : (f : FrameProgress) → IsLineCounted f → (f.made == 0) ≡ (given_in f == 0)
given_none f is =
    let b = length f.line in
    elim (cases_lt 0 f.made) as (λ _. (f.made == 0) ≡ (given_in f == 0)) [
      | inl more ↦
          let some : f.left < b = is.begun more in
          let one : f.made * b ≡ (f.made - 1) * b + b = mul-split f.made b more in
          let given : 0 < given_in f = omega arith in
          grind (arith, nat_tests)
      | inr none ↦
          let made : f.made ≡ 0 = omega arith in
          let lines : f.made * b ≡ 0 = ap (λ (t : ℕ). t * b) made ∙ omega arith in
          let given : given_in f ≡ 0 = omega arith in
          grind (arith, nat_tests)
    ]

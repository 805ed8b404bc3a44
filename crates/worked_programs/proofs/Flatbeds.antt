-- A flatbed that a config's line tells of, and a scan on it.
use Rattle.std.proofs.Common.{◌≡◌, ◌∙◌, ℕ, List, [], ◌∷◌, ◌++◌, Some, refl, sym, ap, subst, ◌+◌, ◌*◌, ◌/◌, arith}
use Rattle.std.specs.Prelude.{IsSomeAnd, pos, codes, slice_index}
use Rattle.std.specs.Fmt.{digits}
use Rattle.sane_fixed.specs.DecimalReading.{fixed_of, fraction_in, whole_at}
use Rattle.sane_fixed.specs.declared.byte_order.ByteOrder.TheVariants.{Big}
use Rattle.constraint.specs.NearestComputed.{nearest_in_range}
use Rattle.netpbm.specs.FileText.{concat_up_to}
use Rattle.frame_join.specs.PictureText.{IsPictureFile, picture_text}
use Rattle.page_picture.specs.Meaning.{meaning_of, picture_of, sample_of}
use Rattle.page_picture.specs.Page.{PageView, page_sample_at}
use Rattle.page_picture.specs.Source.{SourceState}
use Rattle.page_picture.specs.declared.scene.DeviceKind.{DeviceKind}
use Rattle.page_picture.specs.declared.scene.DeviceKind.TheVariants.{Flatbed, Hand}
use Rattle.option_desc.specs.Put.{resolve}
use Rattle.option_desc.specs.Reads.{integer_of, read_value}
use Rattle.option_desc.specs.declared.value.Value.TheVariants.{Fixed, Int}
use Rattle.scan_frames.specs.declared.setup.Setup.{Setup}
use Rattle.device_api.specs.InForce.{Placement, in_force, placement}
use Rattle.device_api.specs.Options.{descriptor_of, option_at}
use Rattle.device_api.specs.State.{DeviceState}
use Rattle.device_api.specs.Values.{defaults, identity, mm, setup_after, with_value}
use Rattle.virtual_scanner.specs.New.{new_scanner}
use Rattle.dispatch.specs.ConfigLines.{device_name}
use Rattle.dispatch.specs.declared.config_line.ConfigLine.{ConfigLine}
use Rattle.config_pages.specs.Devices.{IsDeviceOfKind, IsScannerOfLine}
use Rattle.config_pages.specs.InputTexts.{InputTexts}
use Rattle.config_pages.specs.Pages.{GivesSpelled, hex_digits}
use Rattle.worked_programs.proofs.Basics.{head_is}
use Rattle.worked_programs.proofs.ConfigTexts.{IsOfLine}
use Rattle.worked_programs.proofs.Pages.{IsGrayPage}

-- ---- the scanner of a line

pub record IsScannerOn (kind : DeviceKind) (device : DeviceState) (name digits : List ℕ) (dpi : ℕ) : Type 0 where
  pub source : SourceState
  pub gives : GivesSpelled digits dpi source
  pub is_new : device ≡ new_scanner kind name source Big

-- a scanner of that kind has one page
abbrev pub HasOnePage : DeviceKind → Type 0
HasOnePage kind = (texts : InputTexts) (line : ConfigLine) (device : DeviceState) → IsDeviceOfKind texts kind line Big device
    → IsScannerOfLine texts kind line Big device

pub scanner_of : (kind : DeviceKind) (texts : InputTexts) (line : ConfigLine) (device : DeviceState) (number index dpi : ℕ) (page digits : List ℕ)
    → HasOnePage kind → IsOfLine line number kind index dpi (page ∷ []) → hex_digits page ≡ Some digits
    → IsDeviceOfKind texts line.kind line Big device → IsScannerOn kind device (device_name kind index) digits dpi
scanner_of kind texts line device number index dpi page digits one is spelled made =
    let of : IsScannerOfLine texts kind line Big device = one texts line device (subst (λ k. IsDeviceOfKind texts k line Big device) is.kind_is made) in
    let same : page ≡ of.page.text = head_is _ _ _ _ (sym is.pages_are ∙ of.page.first) in
    let gives : GivesSpelled digits line.dpi of.source = of.page.is_page.spelled digits (ap hex_digits (sym same) ∙ spelled) in
    record {
      source = of.source;
      gives = subst (λ (n : ℕ). GivesSpelled digits n of.source) is.dpi_is gives;
      is_new = of.is_new ∙ ap (λ (n : ℕ). new_scanner kind (device_name line.kind n) of.source Big) is.index_is
          ∙ ap (λ k. new_scanner kind (device_name k index) of.source Big) is.kind_is;
    }

pub one_of_flatbed : HasOnePage Flatbed
one_of_flatbed texts line device made = made

pub one_of_hand : HasOnePage Hand
one_of_hand texts line device made = made

-- ---- the settings of one dot

abbrev pub dot_options : List (List ℕ × List ℕ)
dot_options = (codes "resolution", codes "26") ∷ (codes "br-x", codes "1") ∷ (codes "br-y", codes "1") ∷ []

abbrev with_resolution : Setup
with_resolution = record (defaults Flatbed Big) { scene = record (defaults Flatbed Big).scene { resolution = 26 } }

abbrev with_side : Setup
with_side = record (defaults Flatbed Big) { scene = record (defaults Flatbed Big).scene { resolution = 26; br_x = mm 1 } }

abbrev pub dot_on_flatbed : Setup
dot_on_flatbed = record (defaults Flatbed Big) { scene = record (defaults Flatbed Big).scene { resolution = 26; br_x = mm 1; br_y = mm 1 } }

abbrev pub dot_placed : List Placement
dot_placed =
    record { setup = with_resolution; asked = Int (pos 26); given = Int (pos 26) } ∷ record { setup = with_side; asked = Fixed (mm 1); given = Fixed (mm 1) }
    ∷ record { setup = dot_on_flatbed; asked = Fixed (mm 1); given = Fixed (mm 1) } ∷ []

pub dot_forced : in_force Flatbed Big dot_options ≡ Some (dot_on_flatbed, dot_placed)
unfolding placement defaults setup_after with_value descriptor_of option_at resolve read_value integer_of fixed_of whole_at fraction_in nearest_in_range
dot_forced = refl

-- ---- the dot that is seen

-- the tone of these three samples
abbrev pub shade : ℕ → ℕ → ℕ → ℕ
shade red green blue = slice_index identity ((299 * red + 587 * green + 114 * blue) / 1000 / 256)

-- a page of two places in a row
abbrev small_page : List ℕ → PageView
small_page samples = record { width = 2; height = 1; dpi = 26; samples = samples }

by_samples : (samples : List ℕ) → sample_of (small_page samples) dot_on_flatbed.scene 0 0 0 ≡ shade (slice_index samples 0) (slice_index samples 1)
    (slice_index samples 2)
unfolding sample_of defaults
by_samples samples = refl

shade_of : (a b c n : ℕ) → a ≡ n → b ≡ n → c ≡ n → shade a b c ≡ shade n n n
shade_of a b c n p q r = ap (λ (a : ℕ). shade a b c) p ∙ ap (λ (b : ℕ). shade n b c) q ∙ ap (λ (c : ℕ). shade n n c) r

module _ (page : PageView) (first second : ℕ) (is : IsGrayPage page 2 1 26 255 (first ∷ second ∷ [])) where
  page_is : page ≡ small_page page.samples
  page_is = λ i. record { width = is.width i; height = is.height i; dpi = is.dots i; samples = page.samples }

  red_is : slice_index page.samples 0 ≡ first * 65535 / 255
  red_is = sym (ap (λ (p : PageView). page_sample_at p 0 0 0) page_is) ∙ is.grays 0 0 0 (omega arith) (omega arith) (omega arith)

  green_is : slice_index page.samples 1 ≡ first * 65535 / 255
  green_is = sym (ap (λ (p : PageView). page_sample_at p 0 0 1) page_is) ∙ is.grays 0 0 1 (omega arith) (omega arith) (omega arith)

  blue_is : slice_index page.samples 2 ≡ first * 65535 / 255
  blue_is = sym (ap (λ (p : PageView). page_sample_at p 0 0 2) page_is) ∙ is.grays 0 0 2 (omega arith) (omega arith) (omega arith)

  dot_seen : sample_of page dot_on_flatbed.scene 0 0 0 ≡ shade (first * 65535 / 255) (first * 65535 / 255) (first * 65535 / 255)
  dot_seen = ap (λ (p : PageView). sample_of p dot_on_flatbed.scene 0 0 0) page_is ∙ by_samples page.samples ∙ shade_of _ _ _ _ red_is green_is blue_is

-- ---- its file

dot_meant : (page : PageView) → meaning_of page dot_on_flatbed.scene ≡ Some (picture_of page dot_on_flatbed.scene (1, 1))
unfolding defaults
dot_meant page = refl

text_of_dot : (page : PageView) → picture_text (picture_of page dot_on_flatbed.scene
    (1, 1)) ≡ codes "P5\n# SANE data follows\n1 1\n255\n" ++ sample_of page dot_on_flatbed.scene 0 0 0 ∷ []
unfolding defaults concat_up_to digits
text_of_dot page = refl

pub dot_text : (page : PageView) (first second gray : ℕ) (text : List ℕ) → IsGrayPage page 2 1 26 255 (first ∷ second ∷ [])
    → shade (first * 65535 / 255) (first * 65535 / 255) (first * 65535 / 255) ≡ gray
    → IsSomeAnd (meaning_of page dot_on_flatbed.scene) (IsPictureFile text) → text ≡ codes "P5\n# SANE data follows\n1 1\n255\n" ++ gray ∷ []
dot_text page first second gray text is tone meant =
    let file : IsPictureFile text (picture_of page dot_on_flatbed.scene (1, 1)) = subst (λ o. IsSomeAnd o (IsPictureFile text)) (dot_meant page) meant in
    file.own ∙ text_of_dot page ∙ ap (λ (v : ℕ). codes "P5\n# SANE data follows\n1 1\n255\n" ++ v ∷ []) (dot_seen page first second is ∙ tone)

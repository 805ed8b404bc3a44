-- The scan of `make demo`, to its bytes.
use Rattle.std.proofs.Common.{◌≡◌, ◌∙◌, ℕ, List, [], ◌∷◌, refl, ap, subst, ◌*◌, ◌/◌, arith}
use Rattle.std.specs.Prelude.{Ok, codes}
use Rattle.std.specs.Fmt.{digits}
use Rattle.hex.specs.Hex.{decode_of, decode_pairs}
use Rattle.sane_fixed.specs.declared.byte_order.ByteOrder.TheVariants.{Big}
use Rattle.text_lines.specs.Lines.{lines_of}
use Rattle.page_picture.specs.Source.{SourceState}
use Rattle.page_picture.specs.declared.scene.DeviceKind.TheVariants.{Flatbed}
use Rattle.device_api.specs.State.{DeviceState}
use Rattle.device_api.specs.Values.{identity}
use Rattle.virtual_scanner.specs.New.{new_scanner}
use Rattle.dispatch.specs.ConfigLines.{TellsConfig, fields_of}
use Rattle.dispatch.specs.declared.config_line.ConfigLine.{ConfigLine}
use Rattle.config_pages.specs.Devices.{AreDevicesOf, IsDeviceOfKind}
use Rattle.config_pages.specs.InputTexts.{InputTexts}
use Rattle.config_pages.specs.Pages.{GivesSpelled}
use Rattle.worked_programs.proofs.Basics.{one_zip}
use Rattle.worked_programs.proofs.ConfigTexts.{IsGoodLine, line_bytes, one_line, telling_lines}
use Rattle.worked_programs.proofs.Flatbeds.{IsScannerOn, one_of_flatbed, scanner_of, shade}
use Rattle.worked_programs.proofs.LostPages.{IsGoodPage}
use Rattle.worked_programs.proofs.Pages.{IsGrayPage}
use Rattle.worked_programs.proofs.SmallPages.{good_page, two_dots, two_grays}
use Rattle.worked_programs.specs.DemoDot.{demo_config}

-- ---- the config

abbrev pub demo_line : List ℕ
demo_line = codes "flatbed 0 26 hex:50350a3220310a3235350a0ac8"

abbrev pub demo_page : List ℕ
demo_page = codes "hex:50350a3220310a3235350a0ac8"

abbrev pub demo_digits : List ℕ
demo_digits = codes "50350a3220310a3235350a0ac8"

pub demo_lines : lines_of demo_config ≡ demo_line ∷ []
unfolding lines_of
demo_lines = refl

pub demo_telling : telling_lines demo_config ≡ (1, demo_line) ∷ []
unfolding lines_of
demo_telling = refl

demo_fields : fields_of demo_line ≡ codes "flatbed" ∷ codes "0" ∷ codes "26" ∷ demo_page ∷ []
unfolding fields_of
demo_fields = refl

pub demo_good : IsGoodLine demo_line Flatbed 0 26 (demo_page ∷ [])
unfolding fields_of digits
demo_good = record {
  size = omega arith;
  bytes = line_bytes demo_line refl;
  fields = refl;
  few = omega arith;
  some_dots = omega arith;
  coarse = omega arith;
  count = record { some = omega arith; most = omega arith };
}

demo_decoded : decode_of demo_digits ≡ Ok (two_dots 10 200)
unfolding decode_pairs
demo_decoded = refl

pub demo_good_page : IsGoodPage demo_digits (two_dots 10 200) 26
demo_good_page = good_page demo_digits 10 200 demo_decoded (omega arith) (omega arith)

-- the one scanner
pub record HasOneFlatbed (devices : List DeviceState) : Type 0 where
  pub source : SourceState
  pub gives : GivesSpelled demo_digits 26 source
  pub are : devices ≡ new_scanner Flatbed (codes "flatbed:0") source Big ∷ []

pub one_flatbed : (lines : List ConfigLine) (texts : InputTexts) (devices : List DeviceState) → TellsConfig demo_config lines
    → AreDevicesOf texts Big lines devices → HasOneFlatbed devices
unfolding digits
one_flatbed lines texts devices tells made =
    let told = one_line demo_config demo_line lines Flatbed 0 26 (demo_page ∷ []) demo_telling demo_good tells in
    let one = one_zip (λ (line : ConfigLine) (device : DeviceState). IsDeviceOfKind texts line.kind line Big device) told.0 devices
    (subst (λ (ls : List ConfigLine). AreDevicesOf texts Big ls devices) told.1 made) in
    let flatbed : IsScannerOn Flatbed one.0
    (codes "flatbed:0") demo_digits 26 = scanner_of Flatbed texts told.0 one.0 1 0 26 demo_page demo_digits one_of_flatbed told.2 refl one.2 in
    record { source = flatbed.source; gives = flatbed.gives; are = one.1 ∙ ap (λ (d : DeviceState). d ∷ []) flatbed.is_new }

pub demo_grays : (source : SourceState) → GivesSpelled demo_digits 26 source → IsGrayPage source.page 2 1 26 255 (10 ∷ 200 ∷ [])
demo_grays source gives = two_grays demo_digits 10 200 source demo_decoded gives

pub demo_shade : shade (10 * 65535 / 255) (10 * 65535 / 255) (10 * 65535 / 255) ≡ 10
unfolding identity
demo_shade = refl

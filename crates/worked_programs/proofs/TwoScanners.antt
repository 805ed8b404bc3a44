-- The two scanners of a config of two lines, each with a page that stands there.
use Rattle.std.proofs.Common.{◌≡◌, ◌∙◌, ℕ, List, [], ◌∷◌, ap, subst, Some}
use Rattle.sane_fixed.specs.declared.byte_order.ByteOrder.TheVariants.{Big}
use Rattle.page_picture.specs.Source.{SourceState}
use Rattle.page_picture.specs.declared.scene.DeviceKind.{DeviceKind}
use Rattle.device_api.specs.State.{DeviceState}
use Rattle.virtual_scanner.specs.New.{new_scanner}
use Rattle.dispatch.specs.ConfigLines.{TellsConfig, device_name}
use Rattle.dispatch.specs.declared.config_line.ConfigLine.{ConfigLine}
use Rattle.config_pages.specs.Devices.{AreDevicesOf, IsDeviceOfKind}
use Rattle.config_pages.specs.InputTexts.{InputTexts}
use Rattle.config_pages.specs.Pages.{GivesSpelled, hex_digits}
use Rattle.worked_programs.proofs.Basics.{two_zip}
use Rattle.worked_programs.proofs.ConfigTexts.{IsGoodLine, telling_lines}
use Rattle.worked_programs.proofs.Flatbeds.{HasOnePage, IsScannerOn, scanner_of}
use Rattle.worked_programs.proofs.TwoLines.{two_lines}

-- a scanner's line: its text, what it tells, and the digits of its page
pub record PagedLine : Type 0 where
  pub line : List ℕ
  pub kind : DeviceKind
  pub index : ℕ
  pub page : List ℕ
  pub digits : List ℕ

pub record IsPagedLine (l : PagedLine) : Type 0 where
  pub good : IsGoodLine l.line l.kind l.index 26 (l.page ∷ [])
  pub one_page : HasOnePage l.kind
  pub spelled : hex_digits l.page ≡ Some l.digits

abbrev pub name_of : PagedLine → List ℕ
name_of l = device_name l.kind l.index

pub record HasTwoScanners (a b : PagedLine) (devices : List DeviceState) : Type 0 where
  pub source : SourceState
  pub gives : GivesSpelled a.digits 26 source
  pub other : SourceState
  pub other_gives : GivesSpelled b.digits 26 other
  pub are : devices ≡ new_scanner a.kind (name_of a) source Big ∷ new_scanner b.kind (name_of b) other Big ∷ []

pub two_scanners : (text : List ℕ) (a b : PagedLine) (lines : List ConfigLine) (texts : InputTexts) (devices : List DeviceState)
    → telling_lines text ≡ (1, a.line) ∷ (2, b.line) ∷ [] → IsPagedLine a → IsPagedLine b → TellsConfig text lines
    → AreDevicesOf texts Big lines devices → HasTwoScanners a b devices
two_scanners text a b lines texts devices telling good good2 tells made =
    let told = two_lines text a.line b.line lines a.kind b.kind a.index 26 b.index 26 (a.page ∷ []) (b.page ∷ []) telling good.good good2.good tells in
    let two = two_zip (λ (line : ConfigLine) (device : DeviceState). IsDeviceOfKind texts line.kind line Big device) told.0 told.1 devices
    (subst (λ (ls : List ConfigLine). AreDevicesOf texts Big ls devices) told.2 made) in
    let first : IsScannerOn a.kind two.0
    (name_of a) a.digits 26 = scanner_of a.kind texts told.0 two.0 1 a.index 26 a.page a.digits good.one_page told.3 good.spelled two.3 in
    let second : IsScannerOn b.kind two.1
    (name_of b) b.digits 26 = scanner_of b.kind texts told.1 two.1 2 b.index 26 b.page b.digits good2.one_page told.4 good2.spelled two.4 in
    record {
      source = first.source;
      gives = first.gives;
      other = second.source;
      other_gives = second.gives;
      are = two.2 ∙ ap (λ (d : DeviceState). d ∷ two.1 ∷ []) first.is_new
          ∙ ap (λ (d : DeviceState). new_scanner a.kind (name_of a) first.source Big ∷ d ∷ []) second.is_new;
    }

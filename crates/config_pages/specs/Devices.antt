-- The scanners that the lines of a config tell of.
use Rattle.std.specs.Prelude.{ℕ, ◌≡◌, if◌then◌else◌, List, [], ◌∷◌, ◌++◌, take}
use Rattle.std.specs.List.{AllZip}
use Rattle.sane_fixed.specs.declared.byte_order.ByteOrder.{ByteOrder}
use Rattle.page_picture.specs.Source.{SourceState}
use Rattle.page_picture.specs.declared.scene.DeviceKind.{DeviceKind}
use Rattle.page_picture.specs.declared.scene.DeviceKind.TheVariants as kinds
use Rattle.device_api.specs.Kinds.{is_feeder}
use Rattle.device_api.specs.State.{DeviceState}
use Rattle.virtual_scanner.specs.New.{new_device, new_scanner}
use Rattle.dispatch.specs.ConfigLines.{device_name}
use Rattle.dispatch.specs.declared.config_line.ConfigLine.{ConfigLine}
use Rattle.config_pages.specs.InputTexts.{InputCall, InputTexts, SeenInputs, with_calls}
use Rattle.config_pages.specs.Pages.{HasNoPage, IsPageOfText, calls_of_pages}
use Rattle.config_pages.specs.declared.config_scanners.ScannerFault.{ScannerFault}
use Rattle.config_pages.specs.declared.devices.DeviceFault.{DeviceFault}
use Rattle.config_pages.specs.declared.devices.DeviceFault.TheVariants as faults
use Rattle.config_pages.specs.declared.no_page.NoPage.TheVariants.{CannotRead}
use Rattle.config_pages.specs.declared.no_page.PageSourceFault.{PageSourceFault}
use Rattle.config_pages.specs.declared.no_page.PageSourceFault.TheVariants.{NoPage, BadDpi, NoMem}

-- the source of the first page that a line names, where the inputs have these texts
pub record HasFirstPage (texts : InputTexts) (line : ConfigLine) (source : SourceState) : Type 0 where
  pub text : List ℕ
  pub more : List (List ℕ)
  pub first : line.pages.items ≡ text ∷ more
  pub is_page : IsPageOfText texts text line.dpi source

-- of all its pages, in their order
abbrev pub HasPageSources : InputTexts → ConfigLine → List SourceState → Type 0
HasPageSources texts line sources =
    AllZip (λ text source. IsPageOfText texts text line.dpi source) line.pages.items sources

-- **scanner of a line (`IsScannerOfLine`, `IsFeederOfLine`)**: a new one of a kind, with the line's name, on the line's
-- first page, or with all its pages in the tray (`HasFirstPage`, `HasPageSources`).
pub record IsScannerOfLine (texts : InputTexts) (kind : DeviceKind) (line : ConfigLine) (order : ByteOrder)
    (device : DeviceState) : Type 0 where
  pub source : SourceState
  pub page : HasFirstPage texts line source
  pub is_new : device ≡ new_scanner kind (device_name line.kind line.index) source order

-- a new feeder with the line's name, all its pages in the tray
pub record IsFeederOfLine (texts : InputTexts) (line : ConfigLine) (order : ByteOrder) (device : DeviceState)
    : Type 0 where
  pub sources : List SourceState
  pub pages : HasPageSources texts line sources
  pub is_new : device ≡ new_device kinds.Feeder (device_name line.kind line.index) sources order

-- the scanner of a line is of the line's kind
abbrev pub IsDeviceOfKind : InputTexts → DeviceKind → ConfigLine → ByteOrder → DeviceState → Type 0
IsDeviceOfKind texts kinds.Flatbed line order device = IsScannerOfLine texts kinds.Flatbed line order device
IsDeviceOfKind texts kinds.Hand line order device = IsScannerOfLine texts kinds.Hand line order device
IsDeviceOfKind texts kinds.ThreePass line order device = IsScannerOfLine texts kinds.ThreePass line order device
IsDeviceOfKind texts kinds.Feeder line order device = IsFeederOfLine texts line order device

-- **the scanners of a config (`AreDevicesOf`, `IsDeviceOfKind`)**: one of each line, in their order, of the line's
-- kind.
abbrev pub AreDevicesOf : InputTexts → ByteOrder → List ConfigLine → List DeviceState → Type 0
AreDevicesOf texts order lines devices =
    AllZip (λ line device. IsDeviceOfKind texts line.kind line order device) lines devices

-- ---- the page files that are asked for

-- the pages that a scanner of the line has: all of a feeder's, else the first
abbrev pub pages_of_line : ConfigLine → List (List ℕ)
pages_of_line line = if is_feeder line.kind then line.pages.items else take 1 line.pages.items

-- **the page files of a config (`calls_of_lines`)**: those of the pages of each line, in their order, that do not stand
-- in the line.
abbrev pub calls_of_lines : List ConfigLine → List InputCall
calls_of_lines [] = []
calls_of_lines (line ∷ more) = calls_of_pages (pages_of_line line) ++ calls_of_lines more

-- ---- where there are none

-- a page without a source; the dots per inch of a config are right
abbrev pub device_fault : PageSourceFault → DeviceFault
device_fault (NoPage why) = faults.NoPage why
device_fault BadDpi = faults.NoPage CannotRead
device_fault NoMem = faults.NoMem

-- **a line without a scanner (`HasNoScanner`)**: one of its pages is not there, behind those before it; or memory ran
-- out behind some of them; or it names none.
pub data HasNoScanner (line : ConfigLine) (was now : SeenInputs) (fault : DeviceFault) : Type 0 where
  ForPage : (front : List (List ℕ)) → (text : List ℕ) → (back : List (List ℕ)) → (why : PageSourceFault)
      → pages_of_line line ≡ front ++ text ∷ back
      → HasNoPage text line.dpi (with_calls (calls_of_pages front) was) now why → fault ≡ device_fault why
      → HasNoScanner line was now fault
  ForMemory : (front back : List (List ℕ)) → pages_of_line line ≡ front ++ back
      → now ≡ with_calls (calls_of_pages front) was → fault ≡ faults.NoMem → HasNoScanner line was now fault
  ForNone : line.pages.items ≡ [] → now ≡ was → fault ≡ faults.NoPage CannotRead → HasNoScanner line was now fault

-- **a config without scanners (`HasNoScanners`)**: one of its lines has none, behind those before it, and its number is
-- told.
pub record HasNoScanners (lines : List ConfigLine) (was now : SeenInputs) (why : ScannerFault) : Type 0 where
  pub front : List ConfigLine
  pub line : ConfigLine
  pub back : List ConfigLine
  pub are : lines ≡ front ++ line ∷ back
  pub number : why.line ≡ line.line
  pub no_scanner : HasNoScanner line (with_calls (calls_of_lines front) was) now why.fault

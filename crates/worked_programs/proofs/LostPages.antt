-- A good page that stands in its line is missed for want of memory alone.
use Rattle.std.proofs.Common.{◌≡◌, ◌∙◌, ℕ, List, [], ◌∷◌, ◌++◌, Bool, true, false, refl, sym, ap, subst, length, arith, inl, inr, ◌⊎◌, Option, Some}
use Rattle.std.specs.Prelude.{IsErr, Ok, Result, take, if◌then◌else◌}
use Rattle.hex.specs.Hex.{decode_of}
use Rattle.hex.specs.declared.error.FromHexError.{FromHexError}
use Rattle.netpbm.specs.HeaderReading.{format_of}
use Rattle.netpbm.specs.Raster.{raster_size, sample_count}
use Rattle.netpbm.specs.declared.format.Header.{Header}
use Rattle.netpbm.proofs.HeaderLaws.{header_at-begins}
use Rattle.page_picture.specs.declared.scene.DeviceKind.{DeviceKind}
use Rattle.page_sources.specs.PageFile.{BeginsPage, HasPageFault, IsPageFormat, IsPageText}
use Rattle.page_sources.specs.declared.page_file.PageFault.{PageFault}
use Rattle.page_sources.specs.declared.page_file.PageFault.TheVariants as page_faults
use Rattle.device_api.specs.Kinds.{is_feeder}
use Rattle.dispatch.specs.declared.config_line.ConfigLine.{ConfigLine}
use Rattle.config_pages.specs.Devices.{HasNoScanner, HasNoScanners, calls_of_lines, device_fault, pages_of_line}
use Rattle.config_pages.specs.Devices.HasNoScanner.{ForPage, ForMemory, ForNone}
use Rattle.config_pages.specs.InputTexts.{SeenInputs, with_calls}
use Rattle.config_pages.specs.Pages.{HasNoPageBy, IsSpelledFault, calls_of_pages, hex_digits}
use Rattle.config_pages.specs.Texts.{source_fault}
use Rattle.config_pages.specs.declared.config_scanners.ScannerFault.{ScannerFault}
use Rattle.config_pages.specs.declared.devices.DeviceFault.{DeviceFault}
use Rattle.config_pages.specs.declared.devices.DeviceFault.TheVariants as faults
use Rattle.worked_programs.proofs.Basics.{head_is, not_empty, ok_is, some_is, tail_is}
use Rattle.worked_programs.proofs.ConfigTexts.{IsOfLine}

pub only_front_of : {A : Type 0} (x y : A) (before after : List A) → x ∷ [] ≡ before ++ y ∷ after → (before ≡ []) × (y ≡ x)
only_front_of x y [] after e = (refl, sym (head_is _ _ _ _ e))
only_front_of x y (b ∷ []) after e = absurd (not_empty _ _ (tail_is _ _ _ _ e))
only_front_of x y (b ∷ c ∷ before) after e = absurd (not_empty _ _ (tail_is _ _ _ _ e))

-- ---- a good file

-- the digits spell the text of a page
pub record IsGoodPage (digits file : List ℕ) (dpi : ℕ) : Type 0 where
  pub decoded : decode_of digits ≡ Ok file
  pub magic : IsPageFormat (format_of file)
  pub text : IsPageText file dpi

module _ (digits file : List ℕ) (dpi : ℕ) (good : IsGoodPage digits file dpi) where
  same_header : (h : Header) (raster : List ℕ) → BeginsPage file h raster → ◌≡◌ {A = Header × List ℕ} (good.text.header, good.text.raster) (h, raster)
  same_header h raster begins = some_is _ _ (sym (header_at-begins file good.text.header good.text.raster good.text.begins.begins)
      ∙ header_at-begins file h raster begins.begins)

  sizes : (h : Header) (raster : List ℕ) → BeginsPage file h raster → length raster ≡ raster_size h
  sizes h raster begins = subst (λ (x : Header × List ℕ). length x.1 ≡ raster_size x.0) (same_header h raster begins) good.text.size

  memory_alone : (fault : PageFault) → HasPageFault fault file dpi → fault ≡ page_faults.NoMem
  memory_alone page_faults.BadDpi bad = absurd (bad good.text.dots)
  memory_alone page_faults.BadMagic bad = absurd (bad.1 good.magic)
  memory_alone page_faults.BadHeader bad = absurd (bad.2 good.text.header good.text.raster good.text.begins)
  memory_alone page_faults.Short bad = absurd (omega (arith, bad.1.3, sizes bad.1.0 bad.1.1 bad.1.2))
  memory_alone page_faults.Trailing bad = absurd (omega (arith, bad.1.3, sizes bad.1.0 bad.1.1 bad.1.2))
  memory_alone page_faults.SampleTooLarge bad =
      let above = bad.1.4 in
      let none = subst (λ (x : Header × List ℕ). Rattle.netpbm.specs.Raster.NoneAbove x.0.maxval x.1 (sample_count x.0))
      (same_header bad.1.0 bad.1.1 bad.1.2) good.text.none_above in
      absurd (omega (arith, above.2, none above.0 above.1))
  memory_alone page_faults.NoMem bad = refl

  not_err : IsErr (decode_of digits) → ⊥
  not_err err = let clash : false ≡ true = subst (λ (r : Result (List ℕ) FromHexError). IsErr r) good.decoded err in cc

  spelled_fault : (why : _) → IsSpelledFault why digits dpi → why ≡ source_fault page_faults.NoMem
  spelled_fault why (fault, told, inl (inl memory)) = told ∙ ap source_fault memory
  spelled_fault why (fault, told, inl (inr bad)) = absurd (not_err bad.1)
  spelled_fault why (fault, told, inr (text, spelled, bad)) =
      let same : text ≡ file = ok_is _ _ (sym spelled ∙ good.decoded) in
      told ∙ ap source_fault (memory_alone fault (subst (λ (t : List ℕ). HasPageFault fault t dpi) same bad))

-- ---- a line with that page

module _ (kind : DeviceKind) (flat : is_feeder kind ≡ false) (line : ConfigLine) (number index dpi : ℕ) (page digits file : List ℕ)
    (is : IsOfLine line number kind index dpi (page ∷ [])) (spelled : hex_digits page ≡ Some digits) (good : IsGoodPage digits file dpi) where
  pages_are : pages_of_line line ≡ page ∷ []
  pages_are =
      ap (λ (k : DeviceKind). if is_feeder k then line.pages.items else take 1 line.pages.items) is.kind_is
      ∙ ap (λ (b : Bool). if b then line.pages.items else take 1 line.pages.items) flat ∙ ap (λ (ps : List (List ℕ)). take 1 ps) is.pages_are

  pub lacks_memory : (was now : SeenInputs) (fault : DeviceFault) → HasNoScanner line was now fault → fault ≡ faults.NoMem
  lacks_memory was now fault (ForPage front text back why are none told) =
      let one = only_front_of page text front back (sym pages_are ∙ are) in
      let by : HasNoPageBy (Some digits) text line.dpi (with_calls (calls_of_pages front) was) now why =
      subst (λ (o : Option (List ℕ)). HasNoPageBy o text line.dpi (with_calls (calls_of_pages front) was) now why) (ap hex_digits one.1 ∙ spelled) none in
      told ∙ ap device_fault (spelled_fault digits file dpi good why (subst (λ (n : ℕ). IsSpelledFault why digits n) is.dpi_is by.1))
  lacks_memory was now fault (ForMemory front back are behind told) = told
  lacks_memory was now fault (ForNone none behind told) = absurd (not_empty _ _ (sym none ∙ is.pages_are))

  pub one_lacks_memory : (lines : List ConfigLine) (was now : SeenInputs) (why : ScannerFault) → lines ≡ line ∷ [] → HasNoScanners lines was now why
      → why.fault ≡ faults.NoMem
  one_lacks_memory lines was now why one none =
      let at = only_front_of line none.line none.front none.back (sym one ∙ none.are) in
      lacks_memory (with_calls (calls_of_lines none.front) was) now why.fault
      (subst (λ (l : ConfigLine). HasNoScanner l (with_calls (calls_of_lines none.front) was) now why.fault) at.1 none.no_scanner)

-- ---- two lines with their pages

pub fronts_of : {A : Type 0} (x y line : A) (before after : List A) → x ∷ y ∷ [] ≡ before ++ line ∷ after → (line ≡ x) ⊎ (line ≡ y)
fronts_of x y line [] after e = inl (sym (head_is _ _ _ _ e))
fronts_of x y line (b ∷ []) after e = inr (sym (head_is _ _ _ _ (tail_is _ _ _ _ e)))
fronts_of x y line (b ∷ c ∷ []) after e = absurd (not_empty _ _ (tail_is _ _ _ _ (tail_is _ _ _ _ e)))
fronts_of x y line (b ∷ c ∷ d ∷ before) after e = absurd (not_empty _ _ (tail_is _ _ _ _ (tail_is _ _ _ _ e)))

-- a line has no scanner for want of memory alone
abbrev pub LacksMemory : ConfigLine → Type 0
LacksMemory line = (was now : SeenInputs) (fault : DeviceFault) → HasNoScanner line was now fault → fault ≡ faults.NoMem

pub two_lack_memory : (first second : ConfigLine) → LacksMemory first → LacksMemory second
    → (lines : List ConfigLine) (was now : SeenInputs) (why : ScannerFault) → lines ≡ first ∷ second ∷ [] → HasNoScanners lines was now why
    → why.fault ≡ faults.NoMem
two_lack_memory first second a b lines was now why two none =
    let own = with_calls (calls_of_lines none.front) was in
    elim (fronts_of first second none.line none.front none.back (sym two ∙ none.are)) [
      | inl same ↦ a own now why.fault (subst (λ (l : ConfigLine). HasNoScanner l own now why.fault) same none.no_scanner)
      | inr same ↦ b own now why.fault (subst (λ (l : ConfigLine). HasNoScanner l own now why.fault) same none.no_scanner)
    ]

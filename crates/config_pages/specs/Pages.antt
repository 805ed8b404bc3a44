-- The pages that the lines of a config name: `hex:` and the bytes of a page file in hexadecimal, or the path of one.
use Rattle.std.specs.Prelude.{ℕ, ◌≡◌, ◌⊎◌, if◌then◌else◌, nat_eq, Bool, true, false, Option, Some, None, Ok, IfSome}
use Rattle.std.specs.Prelude.{IsErr}
use Rattle.std.specs.Prelude.{List, [], ◌∷◌, ◌++◌, drop, codes}
use Rattle.std.specs.List.{starts_with}
use Rattle.hex.specs.Hex.{decode_of}
use Rattle.page_sources.specs.PageFile.{TellsPage, HasPageFault}
use Rattle.page_picture.specs.Source.{SourceState}
use Rattle.page_sources.specs.declared.page_file.PageFault.{PageFault}
use Rattle.page_sources.specs.declared.page_file.PageFault.TheVariants.{BadMagic, NoMem}
use Rattle.config_pages.specs.InputTexts.{AsksPage, InputCall, InputTexts, SeenInputs, page_asked}
use Rattle.config_pages.specs.InputTexts.InputCall.{AskedPage}
use Rattle.config_pages.specs.declared.no_page.NoPage.TheVariants.{CannotRead}
use Rattle.config_pages.specs.declared.no_page.PageSourceFault.{PageSourceFault}
use Rattle.config_pages.specs.declared.no_page.PageSourceFault.TheVariants.{NoPage}
use Rattle.config_pages.specs.Texts.{source_fault}

-- **a page in its line (`hex_digits`, `GivesSpelled`, `IsSpelledFault`)**: `hex:` and digits; the source gives the page
-- of the file that they spell; they spell none, which counts as a bad magic, or one that has the fault.
--
-- the digits of a page that stands in its line; none where a path stands there
abbrev pub hex_digits : List ℕ → Option (List ℕ)
hex_digits page = if starts_with nat_eq page (codes "hex:") then Some (drop 4 page) else None

-- the source gives, from the first row on and at each pass, the page of the file that the digits spell
pub record GivesSpelled (digits : List ℕ) (dpi : ℕ) (source : SourceState) : Type 0 where
  pub file : List ℕ
  pub spelled : decode_of digits ≡ Ok file
  pub told : TellsPage file dpi source.page
  pub begun : source ≡ record { page = source.page; given = 0; steady = true; infallible = true; failures = 0 }

-- the digits spell no file, which counts as a bad magic, or one that has the fault
abbrev pub HasSpelledFault : PageFault → List ℕ → ℕ → Type 0
HasSpelledFault fault digits dpi =
    ((fault ≡ NoMem) ⊎ ((fault ≡ BadMagic) × IsErr (decode_of digits)))
    ⊎ ((file : List ℕ) × (decode_of digits ≡ Ok file) × HasPageFault fault file dpi)

-- why a page that stands in its line is not there; it is always read
abbrev pub IsSpelledFault : PageSourceFault → List ℕ → ℕ → Type 0
IsSpelledFault why digits dpi = (fault : PageFault) × (why ≡ source_fault fault) × HasSpelledFault fault digits dpi

-- **a page in a file (`GivesText`, `HasNoFilePage`)**: the source gives, from the first row on and at each pass, the
-- page of the text in that file. There is none where the file was not opened; or for the fault of its text, or since it
-- cannot be read to its end.
pub record GivesText (text : List ℕ) (dpi : ℕ) (source : SourceState) : Type 0 where
  pub told : TellsPage text dpi source.page
  pub begun : source ≡ record { page = source.page; given = 0; steady = true; infallible = false; failures = 0 }

-- the file was opened, and cannot be read, or its text has the fault
abbrev pub IsTextFault : PageSourceFault → ℕ → List ℕ → Type 0
IsTextFault why dpi text = (why ≡ NoPage CannotRead)
    ⊎ ((fault : PageFault) × (why ≡ source_fault fault) × HasPageFault fault text dpi)

abbrev pub IsFileFault : Bool → Option (List ℕ) → ℕ → PageSourceFault → Type 0
IsFileFault false told dpi why = why ≡ NoPage CannotRead
IsFileFault true told dpi why = IfSome told (IsTextFault why dpi)

pub record HasNoFilePage (path : List ℕ) (dpi : ℕ) (was now : SeenInputs) (why : PageSourceFault) : Type 0 where
  pub is_open : Bool
  pub asked : AsksPage (page_asked path is_open) was now
  pub cause : IsFileFault is_open (was.texts.file path) dpi why

-- **a page that a line names (`IsPageOfText`, `calls_of_page`, `HasNoPage`)**: a page that stands in the line is read
-- from there, and no file is asked for. Any other is the page in the file of that path, which is asked for once.
pub record IsPageOfText (texts : InputTexts) (text : List ℕ) (dpi : ℕ) (source : SourceState) : Type 0 where
  pub dots : source.page.dpi ≡ dpi
  pub spelled : (digits : List ℕ) → hex_digits text ≡ Some digits → GivesSpelled digits dpi source
  pub filed : hex_digits text ≡ None → IfSome (texts.file text) (λ all. GivesText all dpi source)

abbrev pub calls_by_digits : Option (List ℕ) → List ℕ → List InputCall
calls_by_digits None text = AskedPage (page_asked text true) ∷ []
calls_by_digits (Some digits) text = []

abbrev pub calls_of_page : List ℕ → List InputCall
calls_of_page text = calls_by_digits (hex_digits text) text

-- those of all pages that are named, in their order
abbrev pub calls_of_pages : List (List ℕ) → List InputCall
calls_of_pages [] = []
calls_of_pages (text ∷ more) = calls_of_page text ++ calls_of_pages more

abbrev pub HasNoPageBy : Option (List ℕ) → List ℕ → ℕ → SeenInputs → SeenInputs → PageSourceFault → Type 0
HasNoPageBy None text dpi was now why = HasNoFilePage text dpi was now why
HasNoPageBy (Some digits) text dpi was now why = (now ≡ was) × IsSpelledFault why digits dpi

abbrev pub HasNoPage : List ℕ → ℕ → SeenInputs → SeenInputs → PageSourceFault → Type 0
HasNoPage text dpi was now why = HasNoPageBy (hex_digits text) text dpi was now why

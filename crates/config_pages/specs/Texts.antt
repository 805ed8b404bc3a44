-- Why a page is not there, and the texts of that.
use Rattle.std.specs.Prelude.{ℕ, List, codes}
use Rattle.page_sources.specs.declared.page_file.PageFault.{PageFault}
use Rattle.page_sources.specs.declared.page_file.PageFault.TheVariants as faults
use Rattle.config_pages.specs.declared.no_page.NoPage.{NoPage}
use Rattle.config_pages.specs.declared.no_page.NoPage.TheVariants.{CannotRead, BadMagic, BadHeader, SampleTooLarge}
use Rattle.config_pages.specs.declared.no_page.NoPage.TheVariants.{Short, Trailing}
use Rattle.config_pages.specs.declared.no_page.PageSourceFault.{PageSourceFault}
use Rattle.config_pages.specs.declared.no_page.PageSourceFault.TheVariants as sources

-- why the page of a file with that fault has no source
abbrev pub source_fault : PageFault → PageSourceFault
source_fault faults.BadMagic = sources.NoPage BadMagic
source_fault faults.BadHeader = sources.NoPage BadHeader
source_fault faults.SampleTooLarge = sources.NoPage SampleTooLarge
source_fault faults.Short = sources.NoPage Short
source_fault faults.Trailing = sources.NoPage Trailing
source_fault faults.BadDpi = sources.BadDpi
source_fault faults.NoMem = sources.NoMem

-- a fault of a page file is told by its number
abbrev pub no_page_text : NoPage → List ℕ
no_page_text CannotRead = codes "cannot read page"
no_page_text BadMagic = codes "page fault 1"
no_page_text BadHeader = codes "page fault 2"
no_page_text SampleTooLarge = codes "page fault 3"
no_page_text Short = codes "page fault 4"
no_page_text Trailing = codes "page fault 5"

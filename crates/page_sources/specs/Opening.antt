-- Why a page file is not opened: a fault of its text, or of the reader.
use Rattle.std.specs.Prelude.{ℕ, List}
use Rattle.page_sources.specs.declared.open_fault.OpenFault.{OpenFault}
use Rattle.page_sources.specs.declared.open_fault.OpenFault.TheVariants.{Page, Device}
use Rattle.page_sources.specs.PageFile.{HasPageFault}

-- **opening a page file (`HasOpenFault`)**: the faults of a page file by cases, as `read_page` has them, and the
-- reader's own.
abbrev pub HasOpenFault : OpenFault → List ℕ → ℕ → Type 0
HasOpenFault (Page fault) text dpi = HasPageFault fault text dpi
HasOpenFault Device text dpi = Unit {0}

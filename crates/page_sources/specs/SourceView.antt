-- What each kind of source shows.
use Rattle.page_picture.specs.Source.{SourceState}
use Rattle.page_sources.specs.declared.kinds.Source.{Source}
use Rattle.page_sources.specs.declared.kinds.Source.TheVariants.{Memory, Failing, Pnm}

abbrev pub source_state : Source → SourceState
source_state (Memory page) = page
source_state (Failing page) = page.shown
source_state (Pnm page) = page.shown

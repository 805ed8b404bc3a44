use Rattle.std.proofs.Common.{drop}
use Rattle.page_sources.proofs.ShownLemmas.{shown_shaped, shown_sheet}
use Rattle.page_sources.proofs.pnm_page.PnmPagePageSource.size.Goals as goal

pub returns-clause-limits : goal.returns-clause-limits
returns-clause-limits g c = rw (← c.self.view_is) (shown_shaped c.self.inside.header c.self.inside.dpi (drop c.self.inside.start (g.R.Rereadable.text c.self.inside.reader)) c.self.invariant.0 c.self.invariant.1)

pub returns-clause-page_view : goal.returns-clause-page_view
returns-clause-page_view g c = rw (← c.self.view_is)
    (λ kept. shown_sheet c.self.inside.header c.self.inside.dpi (drop c.self.inside.start (g.R.Rereadable.text c.self.inside.reader)) c.self.invariant.0 c.self.invariant.1 (c.self.invariant.6 kept))

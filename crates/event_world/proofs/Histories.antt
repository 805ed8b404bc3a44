-- Events one after another.
use Rattle.std.proofs.Common.{List, [], ◌∷◌, ◌++◌, refl, subst}
use Rattle.page_picture.specs.Source.{SourceState}
use Rattle.page_sources.specs.declared.kinds.Source.{Source}
use Rattle.event_world.specs.declared.event.Event.{Event}
use Rattle.event_world.specs.Worlds.{Leads, Runs, WorldCore}

-- one more behind them
pub runs_more : (source : Source → SourceState) (es : List Event) (e : Event) (u v w : WorldCore) → Runs source es u v → Leads source e v w → Runs source (es ++ e ∷ []) u w
runs_more source [] e u v w a b = (w, subst (λ (x : WorldCore). Leads source e x w) a b, refl)
runs_more source (d ∷ es) e u v w a b = (a.0, a.1, runs_more source es e a.0 v w a.2 b)

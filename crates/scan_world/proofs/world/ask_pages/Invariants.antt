use Rattle.std.proofs.Common.{ℕ, ◌<◌, length, slice_index_or}
use Rattle.page_sources.specs.SourceView.{source_state}
use Rattle.world_refines.specs.MainTheorem.{IsTrueLoad}
use Rattle.scan_world.proofs.world.ask_pages.Given as goal

-- it is so of each event so far
abbrev pub invariant-loop-event : goal.invariant-loop-event
invariant-loop-event l = (k : ℕ) (d : _) → k < l.event-index → k < length l.events → IsTrueLoad source_state (slice_index_or l.events k d)

-- What each event does, wherever it stands among others.
use Rattle.std.proofs.Common.{List, [], ◌∷◌}
use Rattle.page_sources.specs.SourceView.{source_state}
use Rattle.event_world.specs.declared.event.Event.{Event}
use Rattle.event_world.specs.Worlds.{Leads, WorldCore}
use Rattle.scan_world.specs.Calls.{IsHeldStep, IsWorldStep}
use Rattle.scan_world.specs.Histories.{History, LedTo, and_then}
use Rattle.scan_world.specs.Laws.{Below}
use Rattle.scan_world.proofs.Idle.{idle_stays, starves_by}
use Rattle.scan_world.proofs.Laid.{load_lays, unplug_takes}
use Rattle.scan_world.proofs.Over.{move_lowers}
use Rattle.scan_world.proofs.moments.Delivered.{page_stays, starts_on_first}
use Rattle.scan_world.proofs.moments.HeldOn.{holds_on}
use Rattle.scan_world.proofs.moments.ListedOn.{list_stays}

pub is_step : (e : Event) (w v : WorldCore) → Leads source_state e w v → IsWorldStep e w v
is_step e w v leads = record {
  lowers = move_lowers e w v leads;
  idle = idle_stays e w v leads;
  starves = starves_by e w v leads;
  loads = load_lays e w v leads;
  unplugs = unplug_takes e w v leads;
}

pub is_held_step : Below → (h : History) (e : Event) (w v : WorldCore) → LedTo h w → LedTo (and_then h (e ∷ [])) v → Leads source_state e w v → IsHeldStep e w v
is_held_step below h e w v l lv leads = record {
  page_stays = page_stays below.kept h e w v l lv leads;
  first_page = starts_on_first below.kept h e w v l lv leads;
  holds_on = holds_on below h e w v l leads;
  listed = list_stays below h e w v l leads;
}

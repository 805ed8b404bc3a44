-- Histories in which no stranger does anything: no session is a stranger's.
use Rattle.std.proofs.Common.{◌≡◌, ℕ, List, ◌++◌, inl, inr, sym, subst}
use Rattle.page_sources.specs.SourceView.{source_state}
use Rattle.scan_job.specs.declared.job.Job.{Job}
use Rattle.event_world.specs.declared.event.Event.{Event}
use Rattle.event_world.specs.Worlds.{WorldCore}
use Rattle.world_refines.specs.WorldRefinement.{HasNoStrangers}
use Rattle.strangers.specs.Together.{JointEvent, events_among}
use Rattle.strangers.specs.Together.JointEvent.{OfStranger}
use Rattle.scan_world.specs.Histories.{HasNoActs, History, LedTo, and_then, history_up_to, of_jobs}
use Rattle.scan_world.specs.Laws.{Below}
use Rattle.scan_world.specs.Sessions.{StrangerHas}
use Rattle.scan_world.proofs.Joint.{no_act_in, plain_runs}
use Rattle.scan_world.proofs.Lists.{In, contains_in, in_either, in_front, in_list}
use Rattle.scan_world.proofs.Scanned.{kept_by}
use Rattle.scan_world.proofs.Sources.{have_sources, loads_fit, sources_of}
use Rattle.scan_world.proofs.moments.Stands.{none_alone}

pub no_acts_front : (h : History) (front back : List JointEvent) → h.events ≡ front ++ back → HasNoActs h → HasNoActs (history_up_to h front)
no_acts_front h front back split none a there = none a (contains_in h.events (OfStranger a) (subst (λ (xs : List JointEvent). In (OfStranger a) xs) (sym split) (in_front front back (OfStranger a) (in_list front (OfStranger a) there))))

pub no_acts_then : (h : History) (es : List Event) → HasNoActs h → HasNoActs (and_then h es)
no_acts_then h es none a there = elim (in_either h.events (of_jobs es) (OfStranger a) (in_list (h.events ++ of_jobs es) (OfStranger a) there)) [
  | inl here ↦ none a (contains_in h.events (OfStranger a) here)
  | inr behind ↦ no_act_in es a behind
]

pub alone_there : Below → (h : History) (w : WorldCore) (job : Job) → HasNoActs h → LedTo h w → HasNoStrangers w
alone_there below h w job none l =
    (below.alone source_state (events_among h.events) (sources_of h) h.jobs job h.devices l.first w l.endpoints l.daemon l.names l.limits l.fit l.loads (have_sources h) (loads_fit h)
    (plain_runs h.events l.first w (λ a among. none a (contains_in h.events (OfStranger a) among)) l.runs)).alone

-- so none has a device
pub none_shared : Below → (h : History) (w : WorldCore) (job : Job) → HasNoActs h → LedTo h w → (name : List ℕ) → StrangerHas w name → ⊥
none_shared below h w job none l name x =
    let k = kept_by below.kept h w job l in
    none_alone k.run.ghost_then w name k.run.stands (alone_there below h w job none l) x

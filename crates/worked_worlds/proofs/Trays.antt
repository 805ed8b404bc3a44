-- What a batch on a feeder of its own comes to.
use Rattle.std.specs.Prelude.{All, slice_get, ◌≢◌, ◌-◌, map}
use Rattle.std.proofs.Common.{◌≡◌, ◌∙◌, ℕ, zero, suc, List, [], ◌∷◌, true, Some, None, refl, sym, ap, subst, arith}
use Rattle.md5_auth.specs.declared.users.Entry.{Entry}
use Rattle.page_picture.specs.Meaning.{meaning_of}
use Rattle.page_picture.specs.Page.{PageView}
use Rattle.page_picture.specs.Source.{SourceState}
use Rattle.page_picture.specs.declared.scene.DeviceKind.TheVariants.{Feeder}
use Rattle.device_api.specs.State.{DeviceState, feeds}
use Rattle.device_api.specs.Values.{defaults}
use Rattle.scan_job.specs.declared.job.Job.{Job}
use Rattle.scan_job.specs.declared.outcome.Outcome.TheVariants.{Done}
use Rattle.scan_job.specs.declared.report.Reports.{Reports}
use Rattle.event_world.specs.declared.event.Event.TheVariants.{Load}
use Rattle.event_world.specs.Worlds.{WorldCore}
use Rattle.scan_world.specs.Calls.{ForEach, KeepsPage, outcome_at}
use Rattle.scan_world.specs.Clear.{ClearsUp, FeederIsClear}
use Rattle.strangers.specs.Together.JointEvent.{OfJobs, OfStranger}
use Rattle.scan_world.specs.Histories.{LedTo, begun, of_jobs}
use Rattle.scan_world.specs.Page.{IsScan}
use Rattle.scan_world.specs.Trays.{BatchIsCounted, IsOfTray, KeepsTray, OwnTray, first_tray}
use Rattle.scan_world.proofs.Joint.{in_jobs, no_act_in}
use Rattle.scan_world.proofs.Lists.{in_list}
use Rattle.worked_worlds.specs.Inside.{IsKeptPage}
use Rattle.worked_worlds.specs.Worked.{HasBrokenOff, IsFedScanOf, IsPlainBatch, feeder_with, memory_source}
use Rattle.worked_worlds.proofs.Worked.{Came, IsOther, Moved, at_there, came_off, history_of, only_one, settled_on, steady_tray}

-- ---- a feeder of its own

pub only_job : (job other : Job) (j : ℕ) → slice_get (job ∷ []) j ≡ Some other → j ≡ 0
only_job job other zero at = refl
only_job job other (suc j) at = absurd (let clash : None ≡ Some other = at in cc)

pub is_fed : (name : List ℕ) (pages : List PageView) → feeds (feeder_with name pages) ≡ true
unfolding defaults
is_fed name pages = refl

abbrev pub own_tray : (name : List ℕ) (pages : List PageView) (users : List Entry) (seed : List ℕ) (job : Job) (new : WorldCore) (c : Came (feeder_with name pages ∷ []) users seed job new) → name ≡ job.device → OwnTray (history_of (feeder_with name pages ∷ []) users seed job new c) 0 job
own_tray name pages users seed job new c named = record {
  device = feeder_with name pages;
  is_there = (0, omega arith, refl);
  named = named;
  feeder = is_fed name pages;
  alone = λ j other at same. only_job job other j at;
  unladen = λ source among. c.unladen job.device source (in_jobs c.events (Load job.device source) (in_list (of_jobs c.events) (OfJobs (Load job.device source)) among));
  undisturbed = λ a among. no_act_in c.events a (in_list (of_jobs c.events) (OfStranger a) among);
}

-- ---- its files

same_page : (x y : PageView) → Some x ≡ Some y → x ≡ y
same_page x y e = cc

-- page k of a job is the scan of the k-th page
pub fed_scan : (name : List ℕ) (pages : List PageView) (users : List Entry) (seed : List ℕ) (job : Job) (new : WorldCore) (k : ℕ) (page : PageView) (file : List ℕ) → Moved (feeder_with name pages ∷ []) users seed job new → slice_get (first_tray (feeder_with name pages)) (k - 1) ≡ Some page → IsKeptPage new k file → IsFedScanOf page job file
fed_scan name pages users seed job new k page file m at given =
    let devices = feeder_with name pages ∷ [] in
    let h = history_of devices users seed job new m.came in
    let there = at_there devices users seed job new m.came in
    let steady = steady_tray name pages users seed job new m.came in
    let found : IsScan h new 0 job (k - 1) file = ((given.0 h job there).scanned file refl).2 steady in
    let named : name ≡ job.device = ap (λ (d : DeviceState). d.info.name) (only_one (feeder_with name pages) found.settled.device found.settled.is_there) ∙ found.settled.named in
    let own = own_tray name pages users seed job new m.came named in
    let taken : IsOfTray h new 0 job own k file = given.1 h job there own steady in
    let on : taken.0.held.page ≡ page = same_page taken.0.held.page page (sym taken.1 ∙ at) in
    record {
      setup = taken.0.settled.setup;
      placed = taken.0.settled.placed;
      in_force = settled_on Feeder name (map memory_source pages) users seed job new m.came taken.0.settled;
      picture = taken.0.picture;
      meant = subst (λ (p : PageView). meaning_of p taken.0.settled.setup.scene ≡ Some taken.0.picture) on taken.0.meant;
      denotes = taken.0.denotes;
      own = taken.0.own;
    }

pub given_copy : (w : WorldCore) (k : ℕ) (file copy : List ℕ) → copy ≡ file → KeepsPage w 0 k (Some file) → KeepsTray w 0 k file → IsKeptPage w k copy
given_copy w k file copy same kept tray = subst (IsKeptPage w k) (sym same) (kept, tray)

-- ---- a batch of two that is done

pub all_finished : (name : List ℕ) (first second : PageView) (users : List Entry) (seed : List ℕ) (job : Job) (new : WorldCore) (reports : Reports) (finished : ℕ) → Moved (feeder_with name (first ∷ second ∷ []) ∷ []) users seed job new → ForEach new 0 (λ h job. BatchIsCounted h new 0 job finished) → outcome_at new 0 ≡ Some (Done reports) → IsPlainBatch name first second users job → finished ≡ 2
all_finished name first second users seed job new reports finished m counted done plain =
    let pages = first ∷ second ∷ [] in
    let devices = feeder_with name pages ∷ [] in
    let h = history_of devices users seed job new m.came in
    (counted h job (at_there devices users seed job new m.came) 2 reports plain.batch done).fed (own_tray name pages users seed job new m.came (sym plain.named))

-- ---- one in whose way nothing stands

all_two : {X : Type 0} (P : X → Type 0) (x y : X) → P x → P y → All P (x ∷ y ∷ [])
all_two P x y h g zero d within = h
all_two P x y h g (suc zero) d within = g
all_two P x y h g (suc (suc k)) d within = absurd (omega (arith, within))

pub batch_broken_off : FeederIsClear → (name : List ℕ) (first second : PageView) (users : List Entry) (seed : List ℕ) (job : Job) (old new : WorldCore) → LedTo (begun (feeder_with name (first ∷ second ∷ []) ∷ []) users seed (job ∷ [])) old → ClearsUp old new → IsOther new → IsPlainBatch name first second users job → HasBrokenOff (feeder_with name (first ∷ second ∷ []) ∷ []) users job
batch_broken_off loaded name first second users seed job old new led clears other is =
    let sources = memory_source first ∷ memory_source second ∷ [] in
    came_off (feeder_with name (first ∷ second ∷ []) ∷ []) users seed job old new led clears other
    (loaded name sources users seed job is.setup is.named is.puts some
    (all_two (λ (s : SourceState). s.infallible ≡ true) (memory_source first) (memory_source second) refl refl)
    (all_two (λ (s : SourceState). meaning_of s.page is.setup.scene ≢ None) (memory_source first) (memory_source second) is.first_meant is.second_meant) is.allowed)
  where
    some : memory_source first ∷ memory_source second ∷ [] ≡ [] → ⊥
    some none = cc

-- The file of a scan at a host, by both programs' contracts.
use Rattle.std.specs.Prelude.{Contains, option_map, slice_get, unwrap_or, All, ◌≢◌}
use Rattle.std.specs.Io.KnownBytes.{Appends}
use Rattle.std.proofs.Common.{◌≡◌, ◌∙◌, inl, inr, ℕ, false, Option, Some, None, List, [], ◌∷◌, ◌++◌, refl, sym, ap, subst}
use Rattle.std.proofs.KnownBytes.{Appends-trans}
use Rattle.std.proofs.lemmas.List.{append-nil}
use Rattle.netpbm.specs.declared.format.PnmFormat.{PnmFormat}
use Rattle.netpbm.specs.declared.format.PnmFormat.TheVariants.{Pbm, Pgm, Ppm}
use Rattle.netpbm.specs.Pnm.{magic}
use Rattle.netpbm.specs.Picture.{Picture}
use Rattle.frame_join.specs.PictureText.{picture_format, picture_text}
use Rattle.device_api.specs.State.{DeviceState, HeldPage}
use Rattle.device_api.specs.Values.{defaults}
use Rattle.dispatch.specs.RegistryFault.{HaveOwnNames}
use Rattle.page_sources.specs.declared.kinds.Source.{Source}
use Rattle.scan_job.specs.declared.job.Task.{Task}
use Rattle.scan_job.specs.declared.job.Task.TheVariants.{Scan}
use Rattle.scan_job.specs.declared.outcome.Outcome.{Outcome}
use Rattle.scan_job.specs.declared.outcome.Outcome.TheVariants.{Done}
use Rattle.scan_job.specs.declared.report.Reports.{Reports}
use Rattle.client_replies.specs.ProtocolStates.{is_running}
use Rattle.net_client.specs.ClientStates.{ClientState}
use Rattle.net_jobs.specs.JobSteps.{files_by_steps, given_by_steps}
use Rattle.event_world.specs.declared.event.Event.TheVariants.{Load}
use Rattle.event_world.specs.Worlds.{WorldCore}
use Rattle.strangers.specs.Together.{JointEvent, events_among}
use Rattle.strangers.specs.Together.JointEvent.{OfJobs, OfStranger}
use Rattle.scan_world.specs.Histories.{History}
use Rattle.scan_world.specs.Page.{CameInTime, IsScan, IsSteady}
use Rattle.scan_world.specs.Settings.{AreSettingsPut}
use Rattle.scan_world.specs.Page.CameInTime.{AsItRan, FromFirst}
use Rattle.scan_world.proofs.Lists.{In, contains_in, in_list}
use Rattle.interleaving.specs.Interleavings.{job_journal}
use Rattle.programs_refine.specs.Programs.{WentOut}
use Rattle.programs_refine.specs.ToldAmong.{joint_history}
use Rattle.programs_refine.specs.WorldHistory.{AreOfConnections}
use Rattle.recorded.specs.Names.{IsNamed, named_behind}
use Rattle.scanimage_cli.specs.Plans.{destination_of}
use Rattle.scanimage_cli.specs.Programs.{GavePlanned, LoopThere, job_part}
use Rattle.scanimage_cli.specs.declared.planning.Destination.{Destination}
use Rattle.scanimage_cli.specs.declared.planning.Destination.TheVariants.{StandardOutput, Path, Folder}
use Rattle.scanimage_cli.proofs.Carried.{scan_there_prints_none}
use Rattle.programs_lead.specs.ExitLaws.{AreSteadyPages, AreLastClients, ExitsLead, ExitsScan, IsPictureOf, TookAt}
use Rattle.programs_lead.specs.Exits.{DaemonExit, NetExit, jobs_of}
use Rattle.programs_lead.proofs.Exits.{job_there}

-- ---- devices of one name are one

all_in : {X : Type 0} (P : X → Type 0) (xs : List X) (x : X) → All P xs → In x xs → P x
all_in P xs x all among = let c = contains_in xs x among in subst P c.2 (all c.0 x c.1)

pub one_device : (devices : List DeviceState) → HaveOwnNames devices → (a b : DeviceState) → In a devices → In b devices → a.info.name ≡ b.info.name → a ≡ b
one_device [] own a b in_a in_b same = absurd in_a
one_device (d ∷ devices) own a b (inl is_a) (inl is_b) same = is_a ∙ sym is_b
one_device (d ∷ devices) own a b (inl is_a) (inr in_b) same = absurd (all_in (λ other. d.info.name ≢ other.info.name) devices b own.0 in_b (subst (λ (x : DeviceState). x.info.name ≡ b.info.name) is_a same))
one_device (d ∷ devices) own a b (inr in_a) (inl is_b) same = absurd (all_in (λ other. d.info.name ≢ other.info.name) devices a own.0 in_a (subst (λ (x : DeviceState). x.info.name ≡ a.info.name) is_b (sym same)))
one_device (d ∷ devices) own a b (inr in_a) (inr in_b) same = one_device devices own.1 a b in_a in_b same

-- ---- no page was laid in

no_load : (front back : List JointEvent) (name : List ℕ) (source : Source) → AreOfConnections (events_among (front ++ OfJobs (Load name source) ∷ back)) → ⊥
no_load [] back name source are = are.0
no_load (OfJobs e ∷ front) back name source are = no_load front back name source are.1
no_load (OfStranger a ∷ front) back name source are = no_load front back name source are

-- the page is one of a device of that name
from_first : (h : History) (v : WorldCore) (i : ℕ) (name : List ℕ) (held : HeldPage) → AreOfConnections (events_among h.events) → CameInTime h v i name held
    → (device : DeviceState) × Contains h.devices device × (device.info.name ≡ name) × Contains device.pages held
from_first h v i name held are (FromFirst device there named has) = (device, there, named, has)
from_first h v i name held are (AsItRan source came is) =
    let at = came.0 in absurd (no_load at.front at.back name source (subst (λ events. AreOfConnections (events_among events)) at.split are))

-- ---- no picture's file is empty

begins : (format : PnmFormat) (more rows : List ℕ) → (magic format ++ more) ++ rows ≡ [] → ⊥
begins Pbm more rows e = cc
begins Pgm more rows e = cc
begins Ppm more rows e = cc

never_empty : (p : Picture) → [] ≡ picture_text p → ⊥
never_empty p e = begins (picture_format p) _ _ (sym e)

-- ---- what went out

abbrev last_at : List NetExit → ClientState → ℕ → ClientState
last_at exits other i = unwrap_or (option_map (λ (x : NetExit). x.done.ran.loop.last) (slice_get exits i)) other

last_is : (exits : List NetExit) (other : ClientState) → AreLastClients exits (last_at exits other)
last_is exits other i e at = ap (λ (o : Option NetExit). unwrap_or (option_map (λ (x : NetExit). x.done.ran.loop.last) o) other) at

is_over : (outcome : Outcome) (reports : Reports) → outcome ≡ Done reports → is_running outcome ≡ false
is_over outcome reports e = ap is_running e

no_batch : {DoneBatch : Type 0} (turned : List (List ℕ)) (last text : List ℕ) (finished : List (List ℕ)) → WentOut DoneBatch turned last finished text → (text ≡ [] → ⊥) → text ≡ last
no_batch turned last text finished (inl one) full = one.1
no_batch turned last text finished (inr batch) full = absurd (full batch.2)

-- ---- where it went

module _ (e : NetExit) where
  abbrev Loop : LoopThere e.done.job
  Loop = e.done.ran.loop

  abbrev Wrote : Type 0
  Wrote = (text : List ℕ) × (text ≡ given_by_steps Loop.steps.steps) × TookAt e.ran.plan.job.destination text e.was.outputs e.now.outputs

  -- where a scan's file goes
  to : (destination : Destination) → (destination ≡ Folder → ⊥)
      → GavePlanned destination e.done.job Loop (job_part e.was.outputs) (record { out = e.done.behind; files = e.now.outputs.files })
      → Appends e.done.behind e.now.outputs.out []
      → (text : List ℕ) × (text ≡ given_by_steps Loop.steps.steps) × TookAt destination text e.was.outputs e.now.outputs
  to StandardOutput file gave none =
      let own = gave.0 in (
        own.text,
        own.went_out,
        subst (λ t. Appends e.was.outputs.out e.now.outputs.out t) (append-nil own.text)
            (Appends-trans e.was.outputs.out e.done.behind e.now.outputs.out own.text [] own.taken none),
      )
  to (Path path) file gave none =
      let own = gave.0.2 in
      (own.text, own.went_out, λ before named. behind before (subst (λ o. IsNamed path o gave.0.0) named gave.0.1) gave.0.0 refl own.taken)
    where
      behind : (before : List ℕ) → IsNamed path (Some before) gave.0.0 → (begun : Option (List ℕ)) → begun ≡ gave.0.0 → Appends gave.0.0 e.now.outputs.files.named gave.0.2.text
          → Appends (Some (named_behind before path)) e.now.outputs.files.named gave.0.2.text
      behind before is None at taken = absurd (subst (λ o. IsNamed path (Some before) o) (sym at) is)
      behind before is (Some begun) at taken =
          let name = subst (λ o. IsNamed path (Some before) o) (sym at) is in
          subst (λ t. Appends (Some t) e.now.outputs.files.named gave.0.2.text) name (subst (λ o. Appends o e.now.outputs.files.named gave.0.2.text) (sym at) taken)
  to Folder file gave none = absurd (file refl)

  no_folder : (task : Task) (path : Option (List ℕ)) → task ≡ Scan → destination_of task path ≡ Folder → ⊥
  no_folder task None is e = let wrong : StandardOutput ≡ Folder = sym (ap (λ t. destination_of t None) is) ∙ e in cc
  no_folder task (Some path) is e = let wrong : Path path ≡ Folder = sym (ap (λ t. destination_of t (Some path)) is) ∙ e in cc

  scan_goes : e.ran.plan.job.task ≡ Scan → e.ran.plan.job.destination ≡ Folder → ⊥
  scan_goes task at =
      let planned = e.ran.is_plan.planned in
      no_folder e.ran.plan.job.task e.ran.is_plan.options.output_file task (sym planned.destination ∙ at)

  wrote : e.ran.plan.job.task ≡ Scan → Wrote
  wrote task =
      let destination = e.ran.plan.job.destination in
      let prints = scan_there_prints_none destination e.done.job e.remote.host _ _ _ e.done.printed (e.done.asked_for.task ∙ task) e.done.ran in
      to destination (scan_goes task) e.done.ran.gave (subst (λ t. Appends e.done.behind e.now.outputs.out t) prints e.done.printed_out)

-- ---- the picture

picture : (daemon : DaemonExit) (e : NetExit) (h : History) (v : WorldCore) (i : ℕ) (text : List ℕ) → h.devices ≡ daemon.served.devices → AreOfConnections (events_among h.events)
    → IsScan h v i e.done.job 0 text → IsPictureOf daemon.served.devices e text
picture daemon e h v i text devices are scan =
    let s = scan.settled in
    let page = from_first h v i e.done.job.device scan.held are scan.came in
    let there = subst (λ ds. Contains ds s.device) devices s.is_there in
    let one = one_device daemon.served.devices daemon.served.begun.names page.0 s.device
    (in_list daemon.served.devices page.0 (subst (λ ds. Contains ds page.0) devices page.1)) (in_list daemon.served.devices s.device there)
    (page.2 ∙ sym s.named) in
    record {
      device = s.device;
      is_there = there;
      named = s.named ∙ e.done.device;
      setup = s.setup;
      placed = s.placed;
      in_force = subst (λ settings. AreSettingsPut (defaults s.device.setup.scene.kind s.device.setup.order) settings.items s.placed s.setup) e.done.asked_for.settings_are s.in_force;
      held = scan.held;
      has = subst (λ (d : DeviceState). Contains d.pages scan.held) one page.3;
      picture = scan.picture;
      meant = scan.meant;
      is = scan.own;
    }

steady_then : (daemon : DaemonExit) (e : NetExit) (h : History) (v : WorldCore) (i : ℕ) → h.devices ≡ daemon.served.devices → AreOfConnections (events_among h.events)
    → AreSteadyPages daemon.served.devices e.remote.device → IsSteady h v i e.done.job.device
steady_then daemon e h v i devices are steady held came =
    let page = from_first h v i e.done.job.device held are came in
    steady page.0 (subst (λ ds. Contains ds page.0) devices page.1) (page.2 ∙ e.done.device) held page.3

pub scan : ExitsLead → ExitsScan
scan lead daemon exits owner acts act connected i e at task steady =
    let loop = e.done.ran.loop in
    let last = last_at exits loop.last in
    let told = lead daemon exits owner acts last act connected (last_is exits loop.last) in
    let h = joint_history daemon.served.devices told.seed (jobs_of exits) daemon.served.first told.events in
    let done = ap (λ (c : ClientState). c.outcome) (last_is exits loop.last i e at) ∙ loop.last_told in
    let kept = told.each i e.done.job (job_there exits i e at) (is_over (last i).outcome loop.reports done) in
    let scanned = kept.file.scanned loop.reports kept.ends.text (steady_then daemon e h told.v i refl told.are steady) (e.done.asked_for.task ∙ task) done refl in
    let given = no_batch (files_by_steps (job_journal i acts)) (given_by_steps (job_journal i acts)) kept.ends.text kept.ends.finished kept.ends.went_out
    (λ none. never_empty scanned.picture (sym none ∙ scanned.own)) in
    let w = wrote e task in
    let same : kept.ends.text ≡ w.0 = given ∙ ap given_by_steps (act.loops i e at) ∙ sym w.1 in
    (w.0, subst (λ t. IsPictureOf daemon.served.devices e t) same (picture daemon e h told.v i kept.ends.text refl told.are scanned), w.2)

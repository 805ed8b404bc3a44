-- From a new world of one flatbed and one job, among strangers, to the job's end.
use Rattle.std.specs.Prelude.{All, option_and_then, option_map, slice_get}
use Rattle.std.specs.List.{AllByRecursion}
use Rattle.std.proofs.Common.{◌≡◌, ◌∙◌, ℕ, zero, suc, List, [], ◌∷◌, ◌++◌, true, false, Option, Some, None, refl, sym, ap, subst}
use Rattle.page_picture.specs.Meaning.{meaning_of}
use Rattle.page_picture.specs.Page.{PageView}
use Rattle.page_sources.specs.SourceView.{source_state}
use Rattle.page_picture.specs.declared.scene.DeviceKind.TheVariants.{Flatbed}
use Rattle.sane_fixed.specs.declared.byte_order.ByteOrder.TheVariants.{Little}
use Rattle.sane_fixed.specs.declared.device_info.DeviceInfo.{DeviceInfo}
use Rattle.sane_fixed.specs.declared.status.Status.TheVariants.{DeviceBusy}
use Rattle.md5_auth.specs.declared.users.Entry.{Entry}
use Rattle.device_api.specs.InForce.{Placement}
use Rattle.device_api.specs.Kinds.{Page}
use Rattle.device_api.specs.ScannerLimits.{HasLimits}
use Rattle.device_api.specs.State.{DeviceState, after_cancel, after_reset}
use Rattle.device_api.specs.Values.{defaults}
use Rattle.scan_frames.specs.declared.setup.Setup.{Setup}
use Rattle.dispatch.specs.declared.table.place.Lease.{Lease}
use Rattle.dispatch.specs.declared.table.place.Slot.TheVariants.{In, Out}
use Rattle.dispatch.specs.Table.{Table, unplug_answer}
use Rattle.saned_requests.specs.declared.session.StringSize.{StringSize}
use Rattle.saned_requests.specs.Holding.{held_by}
use Rattle.saned_core.specs.DaemonStates.{Core, session_in, session_of}
use Rattle.scan_job.specs.declared.job.Job.{Job}
use Rattle.scan_job.specs.declared.job.Task.TheVariants as tasks
use Rattle.scan_job.specs.declared.outcome.Outcome.{Outcome}
use Rattle.scan_job.specs.declared.outcome.Outcome.TheVariants.{Done, Ended}
use Rattle.scan_job.specs.declared.outcome.Why.TheVariants.{Answer}
use Rattle.scan_job.specs.declared.report.Reports.{Reports}
use Rattle.daemon_refines.specs.ContextRefinement.{PlaceRefines, abstract_device}
use Rattle.system_model.specs.AbstractDevices.{AbstractDevice, Begin}
use Rattle.system_model.specs.Devices.{Make}
use Rattle.system_model.specs.Marks.{device_view}
use Rattle.system_model.specs.SystemStates.{JobState, SystemState, make_for, wanted_place}
use Rattle.system_model.specs.Transitions.{By, Loads, Transition, Unplugs, Uses}
use Rattle.event_world.specs.declared.endpoint.Endpoint.{Endpoint}
use Rattle.event_world.specs.declared.event.Event.{Event}
use Rattle.event_world.specs.JobEvents.{is_done}
use Rattle.event_world.specs.Rounds.{RoundsRunOut, all_made}
use Rattle.event_world.specs.Worlds.{AreNew, IsFitJob, WorldCore}
use Rattle.netpbm.specs.NoFile.{HoldsNoFile}
use Rattle.world_refines.specs.GhostStates.{Ghost}
use Rattle.world_refines.specs.MainTheorem.{AreFittingLoads}
use Rattle.world_refines.specs.NewWorlds.{IsNewDaemon, make_of}
use Rattle.world_refines.specs.WorldPromises.{IsMeant}
use Rattle.world_refines.specs.WorldRefinement.{stranger_of}
use Rattle.world_refines.proofs.job_events.Constant.{Fixed, all_fixed, makes_stay}
use Rattle.scan_world.specs.Calls.{file_answered, outcome_at}
use Rattle.scan_world.specs.Examples.{IsScanOf}
use Rattle.scan_world.specs.Settings.{AreSettingsPut}
use Rattle.scan_world.proofs.Begun.{wants_all}
use Rattle.scan_world.proofs.Marked.{IsThere, Slotted}
use Rattle.scan_world.proofs.Nearest.{nearest_for}
use Rattle.scan_world.proofs.NextMoves.{LoadsNothing, quiet_loads, quiet_moves, rounds_moves}
use Rattle.strangers.specs.Among.{StrangerAct}
use Rattle.strangers.specs.LeavingJobs.{IsUseOf, ghost_behind}
use Rattle.strangers.specs.Together.{AllIsKeptAmongStrangers, ComesAmong, JobsGoOn, JointEvent, KeptAmongStrangers, Leases, RunsAmong}
use Rattle.worked_worlds.specs.Worked.{flatbed_with}
use Rattle.worked_strangers.specs.Inside.{ActsAt, LawsBelow, HasGone, HasLeased}
use Rattle.scan_world.specs.Histories.{of_jobs}
use Rattle.worked_strangers.specs.Visits.{of_strangers, until_gone, until_taken}
use Rattle.worked_strangers.specs.Histories.{BusyAmong, HasNoWholeFile, IsJobAmong, ScannedAmong, UnscannedAmong, VisitedWorld}
use Rattle.worked_strangers.proofs.Slots.{IsAlone, IsEmpty, is_ended, is_lost, is_opened, session_is, slot_is}
use Rattle.worked_strangers.proofs.Visiting.{comes_back, greeted_session, holding, is_garbled, is_greeted, is_taken, one_place}
use Rattle.worked_strangers.proofs.Joined.{AreUnlinked, IsFirst, acts_run, ghost_of, job_fits, job_loads, jobs_run, kept_by, new_unlinked, nobodys, runs_join, stays_there, world_of}
use Rattle.worked_strangers.proofs.Scanned.{all_there, lays_none}

unsome : {X : Type 0} (a b : X) → Some a ≡ Some b → a ≡ b
unsome a b e = cc

-- ---- at the daemon

-- what the second one has
abbrev pub lease_of : List ℕ → PageView → Lease DeviceState
lease_of name page = record { device = after_reset (after_reset (flatbed_with name page)); place = 0 }

abbrev pub info_of : List ℕ → PageView → DeviceInfo
info_of name page = (flatbed_with name page).info

-- the flatbed as it came back
abbrev pub returned : List ℕ → PageView → DeviceState
returned name page = after_cancel (lease_of name page).device

pub record IsTaken (name : List ℕ) (page : PageView) (d : Core) : Type 0 where
  pub strings : StringSize
  pub alone : IsAlone d 1 (one_place (info_of name page) Out) (holding (greeted_session strings 1) (lease_of name page))

pub taken : (name : List ℕ) (page : PageView) (d e : Core) → IsNewDaemon (flatbed_with name page ∷ []) d → HasLeased name d e → IsTaken name page e
taken name page d e new h = by h.acts
  where
    by : ActsAt (until_taken h.greeting h.opening) d e → IsTaken name page e
    by (m1, a1, (m2, a2, (m3, a3, (m4, a4, (m5, a5, (m6, a6, last)))))) =
        let flatbed = after_reset (flatbed_with name page) in
        let t = one_place (info_of name page) (In flatbed) in
        let first : IsEmpty d 0 t = record { slots = new.slots; opened = new.opened; registry = new.registry } in
        let e1 = is_opened d m1 0 0 1 t first a1 in
        let e2 = is_garbled m1 m2 0 1 t d.strings e1 a2.0 in
        let e3 = is_ended m2 m3 0 t e2 a3 in
        let e4 = is_opened m3 m4 1 1 1 t e3 a4 in
        let e5 = is_greeted m4 m5 1 1 t m3.strings h.greeting e4 h.said.greets a5.0 in
        let out = ap (λ (c : Core). unplug_answer c.registry name) (sym last) ∙ h.out in
        let e6 = is_taken m5 m6 1 1 (info_of name page) flatbed m3.strings h.opening e5 h.said.opens a6.0 out in
        record { strings = m3.strings; alone = subst (λ (c : Core). IsAlone c 1 (one_place (info_of name page) Out) (holding (greeted_session m3.strings 1) (lease_of name page))) (sym last) e6 }

pub has_lease : (name : List ℕ) (page : PageView) (d : Core) (endpoints : List Endpoint) → IsTaken name page d → Leases (world_of d endpoints) 1 0
unfolding held_by
has_lease name page d endpoints h = record {
  session = holding (greeted_session h.strings 1) (lease_of name page);
  stands = session_is d 1 _ _ h.alone;
  word = 0;
  lease = lease_of name page;
  held = refl;
  of_place = refl;
}

pub record IsThird (name : List ℕ) (page : PageView) (d : Core) : Type 0 where
  pub strings : StringSize
  pub alone : IsAlone d 2 (one_place (info_of name page) (In (returned name page))) (greeted_session strings 1)

pub gone : (name : List ℕ) (page : PageView) (d e : Core) → IsTaken name page d → HasGone d e → IsThird name page e
gone name page d e h g = by g.acts
  where
    by : ActsAt (until_gone g.greeting) d e → IsThird name page e
    by (m1, a1, (m2, a2, (m3, a3, last))) =
        let t = one_place (info_of name page) (In (returned name page)) in
        let lost = is_lost d m1 1 _ _ h.alone a1 in
        let back = comes_back (info_of name page) (lease_of name page) (greeted_session h.strings 1) refl refl in
        let f1 : IsEmpty m1 2 t = subst (IsEmpty m1 2) back lost in
        let f2 = is_opened m1 m2 2 2 1 t f1 a2 in
        let f3 = is_greeted m2 m3 2 1 t m1.strings g.greeting f2 g.greets a3.0 in
        record { strings = m1.strings; alone = subst (λ (c : Core). IsAlone c 2 t (greeted_session m1.strings 1)) (sym last) f3 }

-- ---- the world

-- what the code comes to: a new daemon, strangers at it, and then the job's endpoint beside it
pub record IsBeside (name : List ℕ) (page : PageView) (users : List Entry) (job : Job) (d e : Core) (endpoints : List Endpoint) : Type 0 where
  pub devices : IsNewDaemon (flatbed_with name page ∷ []) d
  pub users_are : d.users ≡ users
  pub limits : HasLimits (flatbed_with name page)
  pub jobs : AreNew (job ∷ []) endpoints
  pub fit : All IsFitJob (job ∷ [])
  pub has : HasLeased name d e

unlinked : (name : List ℕ) (page : PageView) (users : List Entry) (job : Job) (d e : Core) (endpoints : List Endpoint) → IsBeside name page users job d e endpoints → AreUnlinked endpoints
unlinked name page users job d e endpoints b = new_unlinked (job ∷ []) endpoints b.jobs

pub visited : (name : List ℕ) (page : PageView) (users : List Entry) (job : Job) (d e : Core) (endpoints : List Endpoint) → IsBeside name page users job d e endpoints → VisitedWorld name page users job
visited name page users job d e endpoints b = record {
  first = world_of d endpoints;
  jobs = b.jobs;
  devices = b.devices;
  users_are = b.users_are;
  taken = world_of e endpoints;
  visits = record {
    greeting = b.has.greeting;
    opening = b.has.opening;
    said = b.has.said;
    came = acts_run (until_taken b.has.greeting b.has.opening) d e endpoints (unlinked name page users job d e endpoints b) b.has.acts;
    has = has_lease name page e endpoints (taken name page d e b.devices b.has);
  };
}

is_first : (name : List ℕ) (page : PageView) (users : List Entry) (job : Job) (d e : Core) (endpoints : List Endpoint) → IsBeside name page users job d e endpoints → IsFirst name page job (world_of d endpoints)
is_first name page users job d e endpoints b = record { jobs = b.jobs; devices = b.devices; limits = b.limits; fit = b.fit }

-- the bytes of one request are always the same
same_greeting : (name : List ℕ) (d e f : Core) (h : HasLeased name d e) (g : HasGone e f) → ActsAt (until_gone h.greeting) e f
same_greeting name d e f h g =
    let same : g.greeting ≡ h.greeting = unsome g.greeting h.greeting (sym g.greets ∙ h.said.greets) in
    subst (λ (x : List ℕ). ActsAt (until_gone x) e f) same g.acts

-- ---- rounds of the job's moves

pub made : List (List (Option Event)) → List Event
made rounds = all_made rounds

quiet_rounds : (w v : WorldCore) (r : RoundsRunOut source_state w v) → AllByRecursion LoadsNothing (all_made r.rounds)
quiet_rounds w v r = quiet_moves (all_made r.rounds) w v (rounds_moves r.rounds w v r.goes)

no_whole : (source : _) (xs : List JointEvent) (t : Ghost) (w v : WorldCore) (run : RunsAmong source xs w v) → KeptAmongStrangers source xs t w v run → ((outcome : Outcome) → outcome_at v 0 ≡ Some outcome → is_done outcome ≡ false) → HasNoWholeFile v
no_whole source xs t w v run k undone = λ file there. by file there (slice_get v.endpoints 0) refl
  where
    by : (file : List ℕ) → file_answered v 0 ≡ Some file → (o : Option Endpoint) → slice_get v.endpoints 0 ≡ o → HoldsNoFile file
    by file there None at = absurd (let clash : None ≡ Some file = sym (ap (option_and_then (λ (p : Endpoint). p.file)) at) ∙ there in cc)
    by file there (Some endpoint) at =
        k.promises.short 0 endpoint file at (undone endpoint.client.outcome (ap (option_map (λ (p : Endpoint). p.client.outcome)) at))
        (sym (ap (option_and_then (λ (p : Endpoint). p.file)) at) ∙ there)

-- ---- the stranger who has the flatbed stays

pub busy_among : AllIsKeptAmongStrangers → JobsGoOn → (name : List ℕ) (page : PageView) (users : List Entry) (job : Job) (d e : Core) (endpoints : List Endpoint) (v : WorldCore) → IsBeside name page users job d e endpoints → RoundsRunOut source_state (world_of e endpoints) v → outcome_at v 0 ≡ Some (Ended DeviceBusy Answer) → BusyAmong name page users job
unfolding held_by visited
busy_among kept goes name page users job d e endpoints v b r busy =
    let w = world_of e endpoints in
    let x = visited name page users job d e endpoints b in
    let first = is_first name page users job d e endpoints b in
    let quiet = quiet_rounds w v r in
    let moves = all_made r.rounds in
    let t = taken name page d e b.devices b.has in
    let runs = jobs_run moves w v r.events in
    let before = kept_by kept name page job (of_strangers (until_taken b.has.greeting b.has.opening)) x.first w first tt (λ infos make. tt) x.visits.came in
    let stays = stays_there goes moves before.all.ghost_then w v 1 t.alone.slot before.all.stands quiet r.events t.alone.number (slot_is e 1 _ _ t.alone) (nobodys e endpoints 1 (unlinked name page users job d e endpoints b)) in
    let whole = runs_join (of_strangers (until_taken b.has.greeting b.has.opening)) (of_jobs moves) x.first w v x.visits.came runs in
    let all = kept_by kept name page job (of_strangers (until_taken b.has.greeting b.has.opening) ++ of_jobs moves) x.first v first (job_loads moves quiet) (λ infos make. job_fits infos make moves quiet) whole in
    record {
      visited = x;
      last = v;
      moves = r;
      runs = runs;
      has = record {
        session = holding (greeted_session t.strings 1) (lease_of name page);
        stands = ap session_in stays.1 ∙ t.alone.session;
        word = 0;
        lease = lease_of name page;
        held = refl;
        of_place = refl;
      };
      busy = busy;
      short = no_whole source_state (of_strangers (until_taken b.has.greeting b.has.opening) ++ of_jobs moves) (ghost_of name page job x.first) x.first v whole all (λ outcome is. ap is_done (unsome outcome (Ended DeviceBusy Answer) (sym is ∙ busy)));
    }

-- ---- he is lost, and the job goes on beside a third one

pub is_job_among : AllIsKeptAmongStrangers → JobsGoOn → (name : List ℕ) (page : PageView) (users : List Entry) (job : Job) (d e f : Core) (endpoints : List Endpoint) (v : WorldCore) → IsBeside name page users job d e endpoints → HasGone e f → RoundsRunOut source_state (world_of f endpoints) v → IsJobAmong name page users job v
unfolding visited
is_job_among kept goes name page users job d e f endpoints v b g r =
    let w = world_of f endpoints in
    let free = unlinked name page users job d e endpoints b in
    let x = visited name page users job d e endpoints b in
    let first = is_first name page users job d e endpoints b in
    let quiet = quiet_rounds w v r in
    let moves = all_made r.rounds in
    let third = gone name page e f (taken name page d e b.devices b.has) g in
    let left = acts_run (until_gone b.has.greeting) e f endpoints free (same_greeting name d e f b.has g) in
    let both = runs_join (of_strangers (until_taken b.has.greeting b.has.opening)) (of_strangers (until_gone b.has.greeting)) x.first x.taken w x.visits.came left in
    let before = kept_by kept name page job (of_strangers (until_taken b.has.greeting b.has.opening) ++ of_strangers (until_gone b.has.greeting)) x.first w first tt (λ infos make. tt) both in
    let stays = stays_there goes moves before.all.ghost_then w v 2 third.alone.slot before.all.stands quiet r.events third.alone.number (slot_is f 2 _ _ third.alone) (nobodys f endpoints 2 free) in
    record {
      visited = x;
      left = w;
      goes = left;
      moves = r;
      runs = jobs_run moves w v r.events;
      third = record { nobodys = stays.0; session = greeted_session third.strings 1; stands = ap session_in stays.1 ∙ third.alone.session };
    }

pub scanned_among : AllIsKeptAmongStrangers → JobsGoOn → (name : List ℕ) (page : PageView) (users : List Entry) (job : Job) (d e f : Core) (endpoints : List Endpoint) (v : WorldCore) (reports : Reports) (file : List ℕ) → IsBeside name page users job d e endpoints → HasGone e f → RoundsRunOut source_state (world_of f endpoints) v
    → outcome_at v 0 ≡ Some (Done reports) → file_answered v 0 ≡ Some file → ScannedAmong name page users job file
scanned_among kept goes name page users job d e f endpoints v reports file b g r done file_is = record {
  last = v;
  history = is_job_among kept goes name page users job d e f endpoints v b g r;
  reports = reports;
  done = done;
  file_is = file_is;
}

pub unscanned_among : AllIsKeptAmongStrangers → JobsGoOn → (name : List ℕ) (page : PageView) (users : List Entry) (job : Job) (d e f : Core) (endpoints : List Endpoint) (v : WorldCore) → IsBeside name page users job d e endpoints → HasGone e f → RoundsRunOut source_state (world_of f endpoints) v
    → ((outcome : Outcome) → outcome_at v 0 ≡ Some outcome → is_done outcome ≡ false) → UnscannedAmong name page users job
unfolding visited is_job_among
unscanned_among kept goes name page users job d e f endpoints v b g r undone =
    let w = world_of f endpoints in
    let h = is_job_among kept goes name page users job d e f endpoints v b g r in
    let x = h.visited in
    let quiet = quiet_rounds w v r in
    let moves = all_made r.rounds in
    let greeting = b.has.greeting in
    let both = runs_join (of_strangers (until_taken greeting b.has.opening)) (of_strangers (until_gone greeting)) x.first x.taken w x.visits.came h.goes in
    let whole = runs_join (of_strangers (until_taken greeting b.has.opening) ++ of_strangers (until_gone greeting)) (of_jobs moves) x.first w v both h.runs in
    let all = kept_by kept name page job ((of_strangers (until_taken greeting b.has.opening) ++ of_strangers (until_gone greeting)) ++ of_jobs moves) x.first v (is_first name page users job d e endpoints b) (job_loads moves quiet) (λ infos make. job_fits infos make moves quiet) whole in
    record { last = v; history = h; not_done = undone; short = no_whole source_state ((of_strangers (until_taken greeting b.has.opening) ++ of_strangers (until_gone greeting)) ++ of_jobs moves) (ghost_of name page job x.first) x.first v whole all undone }

-- ---- the file

-- what a stranger's acts leave
abbrev Left : Type 0
Left = (ℕ → JobState) × (ℕ → Make) × (ℕ → Job)

abbrev left_of : Ghost → Left
left_of t = (t.system.job, t.system.make, t.jobs)

uses_leave : (u : ℕ) (steps : List Transition) (t : Ghost) → AllByRecursion (IsUseOf u) steps → left_of (ghost_behind steps t) ≡ left_of t
uses_leave u [] t all = refl
uses_leave u (By i x ∷ steps) t all = absurd all.0
uses_leave u (Loads d page ∷ steps) t all = absurd all.0
uses_leave u (Unplugs d ∷ steps) t all = absurd all.0
uses_leave u (Uses i d shown left ∷ steps) t all = uses_leave u steps (ghost_behind (Uses i d shown left ∷ []) t) all.1

acts_leave : (acts : List StrangerAct) (w v : WorldCore) (run : RunsAmong source_state (of_strangers acts) w v) (t u : Ghost) (steps : List Transition) → ComesAmong source_state (of_strangers acts) w v run t steps u → left_of u ≡ left_of t
acts_leave [] w v run t u steps comes = ap left_of comes.1
acts_leave (a ∷ acts) w v run t u steps comes = acts_leave acts run.0 v run.2 (ghost_behind comes.0 t) u comes.1 comes.5 ∙ uses_leave (stranger_of w a.session) comes.0 t comes.3

none_fit : (infos : List DeviceInfo) (make : ℕ → Make) (es : List Event) → AllByRecursion LoadsNothing es → AreFittingLoads source_state infos make es
none_fit infos make [] none = tt
none_fit infos make (e ∷ es) none = ((job_fits infos make (e ∷ []) (none.0, tt)).0, none_fit infos make es none.1)

-- what a page has that lies on the flatbed, by the place that a job wants
abbrev IsOn : ℕ → PageView → Page → Type 0
IsOn d page other = d ≡ 0 → other ≡ page

never_first : (d : ℕ) (page : PageView) (tray : List Page) → AllByRecursion (IsOn (suc d) page) tray
never_first d page [] = tt
never_first d page (p ∷ tray) = ((λ e. absurd (let clash : suc d ≡ 0 = e in cc)), never_first d page tray)

first_place : (info : DeviceInfo) (s : DeviceState) (i : ℕ) (make : ℕ → Make) (registry : Table) (device : ℕ → AbstractDevice) → registry ≡ one_place info (In s) → ((k : ℕ) → PlaceRefines i (make k) [] k (device k) (slice_get registry k)) → device 0 ≡ abstract_device None s
first_place info s i make registry device is places =
    let p : PlaceRefines i (make 0) [] 0 (device 0) (Some (record { info = info; slot = In s })) = subst (λ (r : Table). PlaceRefines i (make 0) [] 0 (device 0) (slice_get r 0)) is (places 0) in
    p.0

later_place : (info : DeviceInfo) (s : DeviceState) (i k : ℕ) (make : ℕ → Make) (registry : Table) (device : ℕ → AbstractDevice) → registry ≡ one_place info (In s) → ((k : ℕ) → PlaceRefines i (make k) [] k (device k) (slice_get registry k)) → ((device (suc k)).listed ≡ false) × ((device (suc k)).holder ≡ None)
later_place info s i k make registry device is places = subst (λ (r : Table). PlaceRefines i (make (suc k)) [] (suc k) (device (suc k)) (slice_get r (suc k))) is (places (suc k))

lies_there : (name : List ℕ) (page : PageView) (i d : ℕ) (k : Make) (make : ℕ → Make) (registry : Table) (device : ℕ → AbstractDevice) → registry ≡ one_place (info_of name page) (In (returned name page)) → ((k : ℕ) → PlaceRefines i (make k) [] k (device k) (slice_get registry k)) → Slotted (d ≡ 0) (IsOn d page) (device_view k (device d))
lies_there name page i zero k make registry device is places =
    subst (λ (x : AbstractDevice). Slotted (◌≡◌ {A = ℕ} 0 0) (IsOn 0 page) (device_view k x)) (sym (first_place (info_of name page) (returned name page) i make registry device is places))
    (record { listed = λ e. refl; held = λ j e. refl; pages = ((λ e. refl), tt) })
lies_there name page i (suc d) k make registry device is places =
    let none = later_place (info_of name page) (returned name page) i d make registry device is places in
    record {
      listed = λ e. absurd (let clash : false ≡ true = sym none.0 ∙ e in cc);
      held = λ j e. absurd (let clash : None ≡ Some j = sym none.1 ∙ e in cc);
      pages = never_first d page (device (suc d)).tray;
    }

on_flatbed : (name : List ℕ) (page : PageView) (placed : List Placement) (setup : Setup) (job : Job) → AreSettingsPut (defaults (flatbed_with name page).setup.scene.kind (flatbed_with name page).setup.order) job.settings.items placed setup → AreSettingsPut (defaults Flatbed Little) job.settings.items placed setup
unfolding defaults
on_flatbed name page placed setup job h = h

meant_on : (name : List ℕ) (page : PageView) (job : Job) (make : Make) (settings : List (List ℕ × List ℕ)) (begin : Begin) (file : List ℕ) → make ≡ make_of (record { fallible = false; steady = true }) (Some (flatbed_with name page)) → settings ≡ job.settings.items → begin.page ≡ page → IsMeant make settings begin file → IsScanOf page job file
meant_on name page job make settings begin file is own on m =
    let k = (flatbed_with name page).setup.scene.kind in
    let order = (flatbed_with name page).setup.order in
    let here : IsMeant (make_of (record { fallible = false; steady = true }) (Some (flatbed_with name page))) job.settings.items begin file = subst (λ (x : Make). IsMeant x job.settings.items begin file) is (subst (λ (x : List (List ℕ × List ℕ)). IsMeant make x begin file) own m) in
    let put = nearest_for k order job.settings.items begin.options here.in_force in
    record {
      setup = begin.options;
      placed = put.0;
      in_force = on_flatbed name page put.0 begin.options job put.1;
      picture = here.picture;
      meant = subst (λ (p : PageView). meaning_of p begin.options.scene ≡ Some here.picture) on here.meant;
      denotes = here.denotes.denotes;
      own = here.denotes.own;
    }

pub file_meant : LawsBelow → (name : List ℕ) (page : PageView) (users : List Entry) (job : Job) (d e f : Core) (endpoints : List Endpoint) (v : WorldCore) (endpoint : Endpoint) (reports : Reports) (file : List ℕ) → IsBeside name page users job d e endpoints → HasGone e f → RoundsRunOut source_state (world_of f endpoints) v
    → slice_get v.endpoints 0 ≡ Some endpoint → endpoint.client.outcome ≡ Done reports → endpoint.file ≡ Some file → job.task ≡ tasks.Scan → IsScanOf page job file
unfolding visited
file_meant laws name page users job d e f endpoints v endpoint reports file b g r at done file_is scan =
    let w = world_of f endpoints in
    let x = visited name page users job d e endpoints b in
    let third = gone name page e f (taken name page d e b.devices b.has) g in
    let acts = until_taken b.has.greeting b.has.opening ++ until_gone b.has.greeting in
    let left = acts_run (until_gone b.has.greeting) e f endpoints (unlinked name page users job d e endpoints b) (same_greeting name d e f b.has g) in
    let both : RunsAmong source_state (of_strangers acts) x.first w = runs_join (of_strangers (until_taken b.has.greeting b.has.opening)) (of_strangers (until_gone b.has.greeting)) x.first x.taken w x.visits.came left in
    let before = kept_by laws.kept name page job (of_strangers acts) x.first w (is_first name page users job d e endpoints b) tt (λ infos make. tt) both in
    let t0 = ghost_of name page job x.first in
    let t = before.all.ghost_then in
    let same = acts_leave acts x.first w both t0 t before.all.steps before.all.comes in
    let es = all_made r.rounds in
    let quiet = quiet_rounds w v r in
    let run = laws.follow source_state es t w v before.all.stands.refines (quiet_loads es quiet) (none_fit t.infos t.system.make es quiet) r.events in
    let u = run.ghost_then in
    let jobs : u.jobs 0 ≡ job = ap (λ (x : Fixed). x.3 0) (all_fixed source_state es t run.steps u run.comes) ∙ ap (λ (x : Left). x.2 0) same in
    let is = laws.scans u v 0 endpoint reports file run.stands at (ap (λ (x : Job). x.task) jobs ∙ scan) done file_is in
    let place = wanted_place t.system 0 in
    let nobody = before.all.stands.refines.strangers 0 in
    let none : session_of f 0 ≡ None = no_first third in
    let lies = lies_there name page (stranger_of w 0) place (t.system.make place) t.system.make f.registry t.system.device third.alone.registry (nobody.rests (Rattle.std.proofs.Common.inl none)).places in
    let first : (t.system.job 0).session.started ≡ [] = ap (λ (x : Left). (x.0 0).session.started) same in
    let all = all_there (record { notes = laws.notes; invariant = laws.invariant; marks = laws.marks }) (place ≡ 0) (IsOn place page) 0 place run.steps t.system before.all.stands.refines.sound run.legal (lays_none es t u run.steps quiet run.comes) refl lies (subst (AllByRecursion (IsThere (place ≡ 0) (IsOn place page))) (sym first) tt) in
    let begun = subst (AllByRecursion (IsThere (place ≡ 0) (IsOn place page))) is.started (subst (λ (s : SystemState). AllByRecursion (IsThere (place ≡ 0) (IsOn place page)) (s.job 0).session.started) (sym run.rules_are) all) in
    let on : place ≡ 0 = begun.0.0 in
    let wants : wanted_place u.system 0 ≡ 0 = ap (λ (s : SystemState). wanted_place s 0) run.rules_are ∙ (wants_all run.steps t.system 0 ∙ on) in
    let makes : u.system.make ≡ t0.system.make = ap (λ (s : SystemState). s.make) run.rules_are ∙ (makes_stay t.system run.steps ∙ ap (λ (x : Left). x.1) same) in
    let make : make_for u.system 0 ≡ t0.system.make 0 = ap (λ (m : ℕ → Make). m (wanted_place u.system 0)) makes ∙ ap t0.system.make wants in
    meant_on name page job (make_for u.system 0) (u.jobs 0).settings.items is.begin file make (ap (λ (x : Job). x.settings.items) jobs) (begun.0.1 on) (is.meant (ap (λ (m : Make). m.steady) make))
  where
    no_first : IsThird name page f → session_of f 0 ≡ None
    no_first third = Rattle.worked_strangers.proofs.Slots.other_none f 2 0 _ _ third.alone (λ e. let clash : 2 ≡ 0 = e in cc)

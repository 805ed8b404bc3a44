-- What the worked worlds come to.
use Rattle.std.specs.Prelude.{◌≢◌, ◌⊎◌, All, Contains, map}
use Rattle.std.specs.List.{AllByRecursion}
use Rattle.std.proofs.Common.{◌≡◌, ◌∙◌, ℕ, zero, suc, List, [], ◌∷◌, ◌++◌, true, false, Some, None, inl, inr, refl, sym, ap, subst, arith}
use Rattle.sane_fixed.specs.declared.byte_order.ByteOrder.TheVariants.{Little}
use Rattle.sane_fixed.specs.declared.status.Status.{Status}
use Rattle.sane_fixed.specs.declared.status.Status.TheVariants as statuses
use Rattle.md5_auth.specs.declared.users.Entry.{Entry}
use Rattle.page_picture.specs.Meaning.{meaning_of}
use Rattle.page_picture.specs.Page.{PageView}
use Rattle.page_picture.specs.Source.{SourceState}
use Rattle.page_picture.specs.declared.scene.DeviceKind.{DeviceKind}
use Rattle.page_picture.specs.declared.scene.DeviceKind.TheVariants.{Flatbed, Feeder}
use Rattle.page_sources.specs.declared.kinds.Source.{Source}
use Rattle.scan_frames.specs.declared.setup.Setup.{Setup}
use Rattle.device_api.specs.InForce.{Placement}
use Rattle.device_api.specs.State.{DeviceState, HeldPage, held_from}
use Rattle.device_api.specs.Values.{defaults}
use Rattle.virtual_scanner.specs.New.{new_device}
use Rattle.scan_job.specs.declared.job.Job.{Job}
use Rattle.scan_job.specs.declared.job.Task.TheVariants as tasks
use Rattle.scan_job.specs.declared.outcome.Outcome.{Outcome}
use Rattle.scan_job.specs.declared.outcome.Outcome.TheVariants.{Done, Ended}
use Rattle.scan_job.specs.declared.outcome.Why.TheVariants.{Answer, Memory}
use Rattle.scan_job.specs.declared.report.Reports.{Reports}
use Rattle.event_world.specs.declared.event.Event.{Event}
use Rattle.event_world.specs.declared.event.Event.TheVariants.{Load, Unplug}
use Rattle.event_world.specs.Worlds.{HasFaultAmong, IsFitJob, WorldCore}
use Rattle.event_world.specs.declared.world_fault.WorldFault.{WorldFault}
use Rattle.event_world.specs.declared.world_fault.WorldFault.TheVariants as faults
use Rattle.world_refines.specs.GhostStates.{backend_of, is_allowed, is_guarded}
use Rattle.scan_world.specs.Calls.{ForEach, IsJobAt, KeepsPage, RunsOut, outcome_at, starved_at}
use Rattle.scan_world.specs.Clear.{AllAreListed, ClearsUp, IsClear, PlainIsClear}
use Rattle.scan_world.specs.Examples.{IsScanOf}
use Rattle.scan_world.specs.Endings.{AnswerIsExplained, HadNoPage, HasPassed, NamesStatus}
use Rattle.strangers.specs.Together.{JointEvent}
use Rattle.strangers.specs.Together.JointEvent.{OfJobs}
use Rattle.scan_world.specs.Histories.{History, LedTo, and_then, begun, history_up_to, of_jobs}
use Rattle.scan_world.specs.Page.{CameInTime, IsSteady, Settled}
use Rattle.scan_world.specs.Page.CameInTime.{FromFirst, AsItRan}
use Rattle.scan_world.specs.Promise.{FileIsKept, OutcomeIsKept}
use Rattle.scan_world.specs.Settings.{AreSettingsPut}
use Rattle.scan_world.proofs.Joint.{in_jobs, of_jobs_then}
use Rattle.scan_world.proofs.Lists.{In, in_front, in_list, in_split}
use Rattle.scan_world.proofs.NextMoves.{LoadsNothing, quiet_moves}
use Rattle.worked_worlds.specs.Worked.{AreScans, DoneFrom, HasBrokenOff, IsPlainScan, LedFrom, ListsAll, IsDisallowed, IsUnlisted, SaysAnswered, SaysDone, ShowsOptions, WasPassed, feeder_with, flatbed_with, memory_source}

-- ---- where the world came from

-- a history of these devices, users and one job, of whose events none laid a page in, and the world
pub record Came (devices : List DeviceState) (users : List Entry) (seed : List ℕ) (job : Job) (new : WorldCore) : Type 0 where
  pub events : List Event
  pub led : LedTo (and_then (begun devices users seed (job ∷ [])) events) new
  pub unladen : (name : List ℕ) (source : Source) → In (Load name source) events → ⊥

pub record Moved (devices : List DeviceState) (users : List Entry) (seed : List ℕ) (job : Job) (new : WorldCore) : Type 0 where
  pub came : Came devices users seed job new
  pub whole : (name : List ℕ) → In (Unplug name) came.events → ⊥

pub quiet_in : (ms : List Event) (e : Event) → AllByRecursion LoadsNothing ms → In e ms → LoadsNothing e
quiet_in [] e all among = absurd among
quiet_in (m ∷ ms) e all (inl same) = subst LoadsNothing (sym same) all.0
quiet_in (m ∷ ms) e all (inr among) = quiet_in ms e all.1 among

-- by next moves alone
pub moved : (devices : List DeviceState) (users : List Entry) (seed : List ℕ) (job : Job) (old new : WorldCore) → LedTo (begun devices users seed (job ∷ [])) old → ((h : History) → LedTo h old → RunsOut h old new) → Moved devices users seed job new
moved devices users seed job old new led ran =
    let out = ran (begun devices users seed (job ∷ [])) led in
    let quiet = quiet_moves out.moves old new out.next in
    record {
      came = record { events = out.moves; led = out.led; unladen = λ name source among. quiet_in out.moves (Load name source) quiet among };
      whole = λ name among. quiet_in out.moves (Unplug name) quiet among;
    }

-- by one event and then next moves
pub moved_behind : (devices : List DeviceState) (users : List Entry) (seed : List ℕ) (job : Job) (old mid new : WorldCore) (taken : List ℕ) (events : List Event) → LedTo (begun devices users seed (job ∷ [])) old → events ≡ Unplug taken ∷ [] → ((h : History) → LedTo h old → LedTo (and_then h events) mid) → ((h : History) → LedTo h mid → RunsOut h mid new) → Came devices users seed job new
moved_behind devices users seed job old mid new taken events led are run ran =
    let first = and_then (begun devices users seed (job ∷ [])) events in
    let out = ran first (run (begun devices users seed (job ∷ [])) led) in
    let quiet = quiet_moves out.moves mid new out.next in
    let led_there = subst (λ (xs : List JointEvent). LedTo (history_up_to (begun devices users seed (job ∷ [])) xs) new) (sym (of_jobs_then events out.moves)) out.led in
    record { events = events ++ out.moves; led = led_there; unladen = λ name source among. not_laden events out.moves taken name source are quiet among }
  where
    unplugged : (taken name : List ℕ) (source : Source) → Load name source ≡ Unplug taken → ⊥
    unplugged taken name source e = cc

    not_laden : (events moves : List Event) (taken name : List ℕ) (source : Source) → events ≡ Unplug taken ∷ [] → AllByRecursion LoadsNothing moves → In (Load name source) (events ++ moves) → ⊥
    not_laden events moves taken name source are quiet among = by_case (subst (λ (es : List Event). In (Load name source) (es ++ moves)) are among)
      where
        by_case : In (Load name source) (Unplug taken ∷ moves) → ⊥
        by_case (inl same) = unplugged taken name source same
        by_case (inr there) = quiet_in moves (Load name source) quiet there

abbrev pub history_of : (devices : List DeviceState) (users : List Entry) (seed : List ℕ) (job : Job) (new : WorldCore) → Came devices users seed job new → History
history_of devices users seed job new c = and_then (begun devices users seed (job ∷ [])) c.events

abbrev pub led_from : (devices : List DeviceState) (users : List Entry) (seed : List ℕ) (job : Job) (new : WorldCore) → Came devices users seed job new → LedFrom devices users job
led_from devices users seed job new c = record { history = history_of devices users seed job new c; devices_are = refl; users_are = refl; jobs_are = refl; world = new; led = c.led }

abbrev pub at_there : (devices : List DeviceState) (users : List Entry) (seed : List ℕ) (job : Job) (new : WorldCore) (c : Came devices users seed job new) → IsJobAt (history_of devices users seed job new c) new 0 job
at_there devices users seed job new c = record { led = c.led; job_at = refl }

-- ---- a job that is done

pub says_done : (w : WorldCore) (given : Outcome) (reports : Reports) → given ≡ Done reports → Some given ≡ outcome_at w 0 → ForEach w 0 (λ h job. OutcomeIsKept h w 0 job (starved_at w 0) given) → SaysDone w
says_done w given reports is at kept h job j = (reports, sym at ∙ ap (λ (o : Outcome). Some o) is, (kept h job j).done reports is)

pub says_answered : (w : WorldCore) (given : Outcome) (status : Status) → given ≡ Ended status Answer → ForEach w 0 (λ h job. OutcomeIsKept h w 0 job (starved_at w 0) given) → SaysAnswered w status
says_answered w given status is kept h job j = ((kept h job j).ended status Answer is).2

abbrev done_from : (devices : List DeviceState) (users : List Entry) (seed : List ℕ) (job : Job) (new : WorldCore) → Came devices users seed job new → SaysDone new → DoneFrom devices users job
done_from devices users seed job new c told =
    let d = told (history_of devices users seed job new c) job (at_there devices users seed job new c) in
    record { from = led_from devices users seed job new c; reports = d.0; is = d.1; right = d.2 }

-- ---- a list

pub lists_all : AllAreListed → (devices : List DeviceState) (users : List Entry) (seed : List ℕ) (job : Job) (new : WorldCore) → Moved devices users seed job new → SaysDone new → job.task ≡ tasks.List → ListsAll devices users job
lists_all all devices users seed job new m told list =
    let h = history_of devices users seed job new m.came in
    let d = told h job (at_there devices users seed job new m.came) in
    let l = d.2.listed list in
    let at = l.0.at in
    let here : IsJobAt (history_up_to h at.front) at.before 0 job = record { led = at.led_before; job_at = refl } in (
      done_from devices users seed job new m.came told,
      l.1 ∙ all (history_up_to h at.front) at.before 0 job here (λ name among.
          m.whole name (in_jobs m.came.events (Unplug name) (subst (λ (es : List JointEvent). In (OfJobs (Unplug name)) es) (sym at.split) (in_front at.front (_ ∷ at.back) (OfJobs (Unplug name)) (in_list at.front (OfJobs (Unplug name)) among))))),
    )

-- ---- the device and its options

pub only_one : {X : Type 0} (x y : X) → Contains (x ∷ []) y → x ≡ y
only_one x y (zero, within, is) = is
only_one x y (suc k, within, is) = absurd (omega (arith, within))

on_kind : (k : DeviceKind) (name : List ℕ) (sources : List SourceState) (placed : List Placement) (setup : Setup) (settings : List (List ℕ × List ℕ)) (device : DeviceState) → new_device k name sources Little ≡ device → AreSettingsPut (defaults device.setup.scene.kind device.setup.order) settings placed setup → AreSettingsPut (defaults k Little) settings placed setup
unfolding defaults
on_kind k name sources placed setup settings device same put = subst (λ (d : DeviceState). AreSettingsPut (defaults d.setup.scene.kind d.setup.order) settings placed setup) (sym same) put

pub settled_on : (k : DeviceKind) (name : List ℕ) (sources : List SourceState) (users : List Entry) (seed : List ℕ) (job : Job) (new : WorldCore) (c : Came (new_device k name sources Little ∷ []) users seed job new) (s : Settled (history_of (new_device k name sources Little ∷ []) users seed job new c) job) → AreSettingsPut (defaults k Little) job.settings.items s.placed s.setup
settled_on k name sources users seed job new c s = on_kind k name sources s.placed s.setup job.settings.items s.device (only_one (new_device k name sources Little) s.device s.is_there) s.in_force

pub shows_options : (name : List ℕ) (page : PageView) (users : List Entry) (seed : List ℕ) (job : Job) (new : WorldCore) → Moved (flatbed_with name page ∷ []) users seed job new → SaysDone new → job.task ≡ tasks.Show → ShowsOptions (flatbed_with name page ∷ []) users job
shows_options name page users seed job new m told show =
    let devices = flatbed_with name page ∷ [] in
    let d = told (history_of devices users seed job new m.came) job (at_there devices users seed job new m.came) in
    let s = d.2.shown show in
    (done_from devices users seed job new m.came told, s.0.setup, s.0.placed, settled_on Flatbed name (memory_source page ∷ []) users seed job new m.came s.0, s.1)

-- ---- the right password

passed_by : (h : History) (before : WorldCore) (job : Job) → (is_guarded h.users (backend_of job.device) ≡ false) ⊎ HasPassed h before 0 job true → is_guarded h.users (backend_of job.device) ≡ true → (challenge : List ℕ) × (is_allowed h.users job.user job.password (backend_of job.device) challenge ≡ true)
passed_by h before job (inl unguarded) guarded = absurd (let clash : true ≡ false = sym guarded ∙ unguarded in cc)
passed_by h before job (inr passed) guarded = (passed.challenge, passed.is)

pub was_passed : (devices : List DeviceState) (users : List Entry) (seed : List ℕ) (job : Job) (new : WorldCore) → Moved devices users seed job new → SaysDone new → job.task ≡ tasks.Scan → WasPassed devices users job
was_passed devices users seed job new m told scan =
    let h = history_of devices users seed job new m.came in
    let d = told h job (at_there devices users seed job new m.came) in
    let o = d.2.opened (λ list. let clash : tasks.Scan ≡ tasks.List = sym scan ∙ list in cc) in
    (done_from devices users seed job new m.came told, passed_by h o.asked.at.before job o.permitted)

-- ---- refusals

put_none : (s t : Setup) (items : List (List ℕ × List ℕ)) (placed : List Placement) → items ≡ [] → AreSettingsPut s items placed t → t ≡ s
put_none s t [] [] none put = put
put_none s t [] (p ∷ placed) none put = absurd put
put_none s t (x ∷ items) placed none put = absurd (let clash : x ∷ items ≡ [] = none in cc)

told_none : (k : DeviceKind) → (defaults k Little).told ≡ None
unfolding defaults
told_none k = refl

-- what the answer comes from, where the job has no settings, since then its options name no status
answered : (k : DeviceKind) (name : List ℕ) (sources : List SourceState) (users : List Entry) (seed : List ℕ) (job : Job) (new : WorldCore) (status : Status) (c : Came (new_device k name sources Little ∷ []) users seed job new) → SaysAnswered new status → job.settings.items ≡ [] → AnswerIsExplained (history_of (new_device k name sources Little ∷ []) users seed job new c) new 0 job status
answered k name sources users seed job new status c told none = by_case (told h job (at_there (new_device k name sources Little ∷ []) users seed job new c))
  where
    h : History
    h = history_of (new_device k name sources Little ∷ []) users seed job new c

    unnamed : NamesStatus h new 0 job status → ⊥
    unnamed (turn, scanning, (s, says)) =
        let setup = put_none (defaults k Little) s.setup job.settings.items s.placed none (settled_on k name sources users seed job new c s) in
        let clash : None ≡ Some status = sym (told_none k) ∙ (ap (λ (x : Setup). x.told) (sym setup) ∙ says) in cc

    by_case : ((status ≢ statuses.Eof) × NamesStatus h new 0 job status) ⊎ AnswerIsExplained h new 0 job status → AnswerIsExplained h new 0 job status
    by_case (inl (other, named)) = absurd (unnamed named)
    by_case (inr explained) = explained

pub was_disallowed : (name : List ℕ) (page : PageView) (users : List Entry) (seed : List ℕ) (job : Job) (new : WorldCore) → Moved (flatbed_with name page ∷ []) users seed job new → SaysAnswered new statuses.AccessDenied → job.settings.items ≡ [] → (from : LedFrom (flatbed_with name page ∷ []) users job) × IsDisallowed from.history from.world 0 job
was_disallowed name page users seed job new m told none = (led_from (flatbed_with name page ∷ []) users seed job new m.came, answered Flatbed name (memory_source page ∷ []) users seed job new statuses.AccessDenied m.came told none)

pub had_no_page : (name : List ℕ) (pages : List PageView) (users : List Entry) (seed : List ℕ) (job : Job) (new : WorldCore) → Moved (feeder_with name pages ∷ []) users seed job new → SaysAnswered new statuses.NoDocs → job.settings.items ≡ [] → (from : LedFrom (feeder_with name pages ∷ []) users job) × HadNoPage from.history from.world 0 job 0
had_no_page name pages users seed job new m told none = (led_from (feeder_with name pages ∷ []) users seed job new m.came, answered Feeder name (map memory_source pages) users seed job new statuses.NoDocs m.came told none)

at_defaults : (name : List ℕ) (page : PageView) (job : Job) → job.settings.items ≡ [] → AreSettingsPut (defaults (flatbed_with name page).setup.scene.kind (flatbed_with name page).setup.order) job.settings.items [] (defaults Flatbed Little)
unfolding defaults
at_defaults name page job none = subst (λ (items : List (List ℕ × List ℕ)). AreSettingsPut (defaults Flatbed Little) items [] (defaults Flatbed Little)) (sym none) refl

page_is : (name : List ℕ) (page : PageView) (users : List Entry) (seed : List ℕ) (job : Job) (new : WorldCore) (c : Came (flatbed_with name page ∷ []) users seed job new) (held : HeldPage) → CameInTime (history_of (flatbed_with name page ∷ []) users seed job new c) new 0 job.device held → held_from (memory_source page) ≡ held
page_is name page users seed job new c held (FromFirst device there named among) =
    let same : flatbed_with name page ≡ device = only_one (flatbed_with name page) device there in
    only_one (held_from (memory_source page)) held (subst (λ (d : DeviceState). Contains d.pages held) (sym same) among)
page_is name page users seed job new c held (AsItRan laid happened is) = absurd (c.unladen job.device laid (in_jobs c.events (Load job.device laid) (in_list (of_jobs c.events) (OfJobs (Load job.device laid)) (in_split (of_jobs c.events) happened.0.front happened.0.back (OfJobs (Load job.device laid)) happened.0.split))))

pub was_unlisted : (name : List ℕ) (page : PageView) (users : List Entry) (seed : List ℕ) (job : Job) (new : WorldCore) → Came (flatbed_with name page ∷ []) users seed job new → SaysAnswered new statuses.Inval → job.settings.items ≡ [] → job.device ≡ name → meaning_of page (defaults Flatbed Little).scene ≢ None → (from : LedFrom (flatbed_with name page ∷ []) users job) × IsUnlisted from.history from.world 0 job
was_unlisted name page users seed job new c told none named meant = (led_from (flatbed_with name page ∷ []) users seed job new c, by_case (answered Flatbed name (memory_source page ∷ []) users seed job new statuses.Inval c told none))
  where
    h : History
    h = history_of (flatbed_with name page ∷ []) users seed job new c

    by_case : AnswerIsExplained h new 0 job statuses.Inval → IsUnlisted h new 0 job
    by_case (inl (unforced, opened)) = absurd (unforced.1 (record { device = flatbed_with name page; is_there = (0, omega arith, refl); named = sym named; setup = defaults Flatbed Little; placed = []; in_force = at_defaults name page job none }))
    by_case (inr (inr unlisted)) = unlisted
    by_case (inr (inl n)) =
        let setup = put_none (defaults Flatbed Little) n.settled.setup job.settings.items n.settled.placed none (settled_on Flatbed name (memory_source page ∷ []) users seed job new c n.settled) in
        let held = page_is name page users seed job new c n.held n.came in
        absurd (meant (ap (λ (x : HeldPage). meaning_of x.page (defaults Flatbed Little).scene) held ∙ (ap (λ (x : Setup). meaning_of n.held.page x.scene) (sym setup) ∙ n.none)))

-- ---- the pages of a tray

steady_in : (pages : List PageView) (held : HeldPage) → In held (map held_from (map memory_source pages)) → held.steady ≡ true
steady_in [] held among = absurd among
steady_in (page ∷ pages) held (inl same) = ap (λ (x : HeldPage). x.steady) same
steady_in (page ∷ pages) held (inr among) = steady_in pages held among

pub steady_tray : (name : List ℕ) (pages : List PageView) (users : List Entry) (seed : List ℕ) (job : Job) (new : WorldCore) (c : Came (feeder_with name pages ∷ []) users seed job new) → IsSteady (history_of (feeder_with name pages ∷ []) users seed job new c) new 0 job.device
steady_tray name pages users seed job new c held (FromFirst device there named among) =
    let same : feeder_with name pages ≡ device = only_one (feeder_with name pages) device there in
    steady_in pages held (in_list (map held_from (map memory_source pages)) held (subst (λ (d : DeviceState). Contains d.pages held) (sym same) among))
steady_tray name pages users seed job new c held (AsItRan laid happened is) = absurd (c.unladen job.device laid (in_jobs c.events (Load job.device laid) (in_list (of_jobs c.events) (OfJobs (Load job.device laid)) (in_split (of_jobs c.events) happened.0.front happened.0.back (OfJobs (Load job.device laid)) happened.0.split))))

pub are_scans : (name : List ℕ) (pages : List PageView) (users : List Entry) (seed : List ℕ) (job : Job) (new : WorldCore) (first second : List ℕ) → Moved (feeder_with name pages ∷ []) users seed job new → KeepsPage new 0 1 (Some first) → KeepsPage new 0 2 (Some second) → AreScans (feeder_with name pages ∷ []) users job first second
are_scans name pages users seed job new first second m one two =
    let devices = feeder_with name pages ∷ [] in
    let h = history_of devices users seed job new m.came in
    let at = at_there devices users seed job new m.came in
    let steady = steady_tray name pages users seed job new m.came in
    (led_from devices users seed job new m.came, ((one h job at).scanned first refl).2 steady, ((two h job at).scanned second refl).2 steady)

-- ---- a scan that surely gives a file

steady_flatbed : (name : List ℕ) (page : PageView) (users : List Entry) (seed : List ℕ) (job : Job) (new : WorldCore) (c : Came (flatbed_with name page ∷ []) users seed job new) → IsSteady (history_of (flatbed_with name page ∷ []) users seed job new c) new 0 job.device
steady_flatbed name page users seed job new c held came = ap (λ (x : HeldPage). x.steady) (sym (page_is name page users seed job new c held came))

pub scan_of : (name : List ℕ) (page : PageView) (users : List Entry) (seed : List ℕ) (job : Job) (new : WorldCore) (reports : Reports) (bytes : List ℕ) → Moved (flatbed_with name page ∷ []) users seed job new → ForEach new 0 (λ h job. (o : Outcome) → outcome_at new 0 ≡ Some o → FileIsKept h new 0 job (starved_at new 0) o (Some bytes)) → outcome_at new 0 ≡ Some (Done reports) → job.task ≡ tasks.Scan → IsScanOf page job bytes
scan_of name page users seed job new reports bytes m file is scan =
    let devices = flatbed_with name page ∷ [] in
    let h = history_of devices users seed job new m.came in
    let kept = file h job (at_there devices users seed job new m.came) (Done reports) is in
    let s = kept.scanned reports bytes (steady_flatbed name page users seed job new m.came) scan refl refl in
    let on : page ≡ s.held.page = ap (λ (x : HeldPage). x.page) (page_is name page users seed job new m.came s.held s.came) in
    record {
      setup = s.settled.setup;
      placed = s.settled.placed;
      in_force = settled_on Flatbed name (memory_source page ∷ []) users seed job new m.came s.settled;
      picture = s.picture;
      meant = subst (λ (p : PageView). meaning_of p s.settled.setup.scene ≡ Some s.picture) (sym on) s.meant;
      denotes = s.denotes;
      own = s.own;
    }

all_one : {X : Type 0} (P : X → Type 0) (x : X) → P x → All P (x ∷ [])
all_one P x h zero d within = h
all_one P x h (suc k) d within = absurd (omega (arith, within))

-- no world of one device and a job that a client takes is refused, but for want of memory
pub only_memory : (f : WorldFault) (d : DeviceState) (job : Job) → IsFitJob job → HasFaultAmong f (d ∷ []) (job ∷ []) → f ≡ faults.NoMem
only_memory faults.SameName d job fit fault = absurd (fault ((λ k x within. absurd (omega (arith, within))), tt))
only_memory faults.TooManyDevices d job fit (names, many) = absurd (omega (arith, many))
only_memory faults.TooManyJobs d job fit (some, many) = absurd (omega (arith, many))
only_memory faults.BadJob d job fit (some, (few, bad)) = absurd (bad (all_one IsFitJob job fit))
only_memory faults.NoMem d job fit fault = refl

-- what became of the job is neither of these
abbrev pub IsOther : WorldCore → Type 0
IsOther w = (starved_at w 0 ≡ false) × ((o : Outcome) → outcome_at w 0 ≡ Some o → ((reports : Reports) → o ≢ Done reports) × (o ≢ Ended statuses.NoMem Memory))

-- a job that was clear, and is over otherwise
pub came_off : (devices : List DeviceState) (users : List Entry) (seed : List ℕ) (job : Job) (old new : WorldCore) → LedTo (begun devices users seed (job ∷ [])) old → ClearsUp old new → IsOther new → IsClear (begun devices users seed (job ∷ [])) 0 job (λ (j : ℕ). j ≡ 0) → HasBrokenOff devices users job
came_off devices users seed job old new led clears other clear =
    let h = begun devices users seed (job ∷ []) in
    let c = clears h led 0 job refl clear in
    let o = other.1 c.outcome c.is in (
      record { history = and_then h c.out.moves; devices_are = refl; users_are = refl; jobs_are = refl; world = new; led = c.out.led },
      elim c.comes [
        | inl done ↦ absurd (o.0 done.0 done.1)
        | inr (inl (inl starved)) ↦ absurd (let clash : true ≡ false = sym starved ∙ other.0 in cc)
        | inr (inl (inr memory)) ↦ absurd (o.1 memory)
        | inr (inr broke) ↦ broke
      ],
    )

pub broken_off : PlainIsClear → (name : List ℕ) (page : PageView) (users : List Entry) (seed : List ℕ) (job : Job) (old new : WorldCore) → LedTo (begun (flatbed_with name page ∷ []) users seed (job ∷ [])) old → ClearsUp old new → IsOther new → IsPlainScan name page users job → HasBrokenOff (flatbed_with name page ∷ []) users job
broken_off plain name page users seed job old new led clears other is =
    came_off (flatbed_with name page ∷ []) users seed job old new led clears other (plain name (memory_source page) users seed job is.setup is.named is.puts refl is.meant is.allowed)

-- ---- of boxes

pub led_boxed : {D : Type 0} (state : D → DeviceState) (items : List D) (box : D) (d : DeviceState) (users : List Entry) (seed : List ℕ) (job : Job) (old : WorldCore) → items ≡ box ∷ [] → state box ≡ d → LedTo (begun (map state items) users seed (job ∷ [])) old → LedTo (begun (d ∷ []) users seed (job ∷ [])) old
led_boxed state items box d users seed job old is same led = subst (λ (ds : List DeviceState). LedTo (begun ds users seed (job ∷ [])) old) (ap (map state) is ∙ ap (λ (x : DeviceState). x ∷ []) same) led

pub led_boxes : {D : Type 0} (state : D → DeviceState) (items : List D) (box other : D) (d e : DeviceState) (users : List Entry) (seed : List ℕ) (job : Job) (old : WorldCore) → items ≡ box ∷ other ∷ [] → state box ≡ d → state other ≡ e → LedTo (begun (map state items) users seed (job ∷ [])) old → LedTo (begun (d ∷ e ∷ []) users seed (job ∷ [])) old
led_boxes state items box other d e users seed job old is same same_too led =
    subst (λ (ds : List DeviceState). LedTo (begun ds users seed (job ∷ [])) old) (ap (map state) is ∙ (ap (λ (x : DeviceState). x ∷ state other ∷ []) same ∙ ap (λ (x : DeviceState). d ∷ x ∷ []) same_too)) led

pub led_jobs : (states : List DeviceState) (users : List Entry) (seed : List ℕ) (jobs : List Job) (job : Job) (old : WorldCore) → jobs ≡ job ∷ [] → LedTo (begun states users seed jobs) old → LedTo (begun states users seed (job ∷ [])) old
led_jobs states users seed jobs job old is led = subst (λ (js : List Job). LedTo (begun states users seed js) old) is led

pub fault_boxed : {D : Type 0} (state : D → DeviceState) (items : List D) (box : D) (d : DeviceState) (jobs : List Job) (job : Job) (f : WorldFault) → items ≡ box ∷ [] → state box ≡ d → jobs ≡ job ∷ [] → HasFaultAmong f (map state items) jobs → HasFaultAmong f (d ∷ []) (job ∷ [])
fault_boxed state items box d jobs job f is same own fault =
    subst (λ (js : List Job). HasFaultAmong f (d ∷ []) js) own (subst (λ (ds : List DeviceState). HasFaultAmong f ds jobs) (ap (map state) is ∙ ap (λ (x : DeviceState). x ∷ []) same) fault)

pub scan_copied : (name : List ℕ) (page : PageView) (users : List Entry) (seed : List ℕ) (job : Job) (new : WorldCore) (reports : Reports) (file bytes : List ℕ) → bytes ≡ file → Moved (flatbed_with name page ∷ []) users seed job new → ForEach new 0 (λ h job. (o : Outcome) → outcome_at new 0 ≡ Some o → FileIsKept h new 0 job (starved_at new 0) o (Some file)) → outcome_at new 0 ≡ Some (Done reports) → job.task ≡ tasks.Scan → IsScanOf page job bytes
scan_copied name page users seed job new reports file bytes same m kept is scan = subst (IsScanOf page job) (sym same) (scan_of name page users seed job new reports file m kept is scan)

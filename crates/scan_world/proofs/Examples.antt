-- What the worked examples come to.
use Rattle.std.specs.Prelude.{All, map, Contains, ◌<◌, length, slice_get, slice_index_or, ◌≢◌, ◌⊎◌}
use Rattle.std.specs.List.{AllByRecursion}
use Rattle.std.proofs.Common.{◌≡◌, inl, inr, ◌∙◌, ℕ, zero, suc, arith, List, [], ◌∷◌, Some, true, false, refl, sym, ap, subst}
use Rattle.sane_fixed.specs.declared.byte_order.ByteOrder.TheVariants.{Little}
use Rattle.page_picture.specs.Page.{PageView}
use Rattle.page_picture.specs.Meaning.{meaning_of}
use Rattle.page_picture.specs.Source.{SourceState}
use Rattle.page_sources.specs.declared.kinds.Source.{Source}
use Rattle.page_picture.specs.declared.scene.DeviceKind.TheVariants.{Flatbed}
use Rattle.md5_auth.specs.declared.users.Entry.{Entry}
use Rattle.device_api.specs.State.{DeviceState, HeldPage, held_from}
use Rattle.dispatch.specs.RegistryFault.{HaveOwnNames}
use Rattle.scan_frames.specs.declared.setup.Setup.{Setup}
use Rattle.device_api.specs.InForce.{Placement}
use Rattle.device_api.specs.Values.{defaults}
use Rattle.virtual_scanner.specs.New.{new_scanner}
use Rattle.scan_job.specs.declared.job.Job.{Job}
use Rattle.scan_job.specs.declared.job.Task.TheVariants as tasks
use Rattle.scan_job.specs.declared.outcome.Outcome.{Outcome}
use Rattle.scan_job.specs.declared.outcome.Outcome.TheVariants.{Running, Done, Ended}
use Rattle.scan_job.specs.declared.report.Reports.{Reports}
use Rattle.scan_job.specs.declared.outcome.Why.TheVariants.{Answer}
use Rattle.sane_fixed.specs.declared.status.Status.TheVariants.{DeviceBusy}
use Rattle.event_world.specs.declared.event.Event.{Event}
use Rattle.event_world.specs.declared.event.Event.TheVariants.{Load}
use Rattle.event_world.specs.JobEvents.{is_done}
use Rattle.event_world.specs.Worlds.{WorldCore}
use Rattle.strangers.specs.Together.{JointEvent}
use Rattle.strangers.specs.Together.JointEvent.{OfJobs, OfStranger}
use Rattle.scan_world.specs.Histories.{History, LedTo, and_then, begun, of_jobs}
use Rattle.scan_world.specs.Settings.{AreSettingsPut}
use Rattle.scan_world.specs.Page.{CameInTime, IsScan, IsSteady}
use Rattle.scan_world.specs.Page.CameInTime.{FromFirst, AsItRan}
use Rattle.scan_world.specs.Promise.{FileIsKept, OutcomeIsKept}
use Rattle.scan_world.specs.Calls.{ForEach, IsJobAt, RunsOut, file_answered, outcome_at, starved_at}
use Rattle.scan_world.specs.Examples.{HasExplanation, IsScanOf, until_busy}
use Rattle.scan_world.proofs.Along.{get_at}
use Rattle.scan_world.proofs.Lists.{all_then, at_all, in_split}
use Rattle.scan_world.proofs.NextMoves.{LoadsNothing, quiet_moves}

only_one : {X : Type 0} → (x : X) (k : ℕ) (d : X) → k < length (x ∷ []) → slice_index_or (x ∷ []) k d ≡ x
only_one x zero d within = refl
only_one x (suc k) d within = absurd (omega (arith, within))

all_one : {X : Type 0} → (P : X → Type 0) (x : X) → P x → All P (x ∷ [])
all_one P x h = λ k d within. subst P (sym (only_one x k d within)) h

pub contains_one : {X : Type 0} (x y : X) → Contains (x ∷ []) y → x ≡ y
contains_one x y (zero, within, is) = is
contains_one x y (suc k, within, is) = absurd (omega (arith, within))

contains_two : {X : Type 0} (x y z : X) → Contains (x ∷ y ∷ []) z → (x ≡ z) ⊎ (y ≡ z)
contains_two x y z (zero, within, is) = inl is
contains_two x y z (suc zero, within, is) = inr is
contains_two x y z (suc (suc k), within, is) = absurd (omega (arith, within))

-- the device of the name is this flatbed
abbrev pub IsOnly : List DeviceState → List ℕ → SourceState → List ℕ → Type 0
IsOnly devices name source asked = (device : DeviceState) → Contains devices device → device.info.name ≡ asked → new_scanner Flatbed name source Little ≡ device

only_device : (devices : List DeviceState) (name asked : List ℕ) (source : SourceState) → devices ≡ new_scanner Flatbed name source Little ∷ [] → IsOnly devices name source asked
only_device devices name asked source are device there named =
    contains_one (new_scanner Flatbed name source Little) device (subst (λ (ds : List DeviceState). Contains ds device) are there)

-- beside another one, by their own names
only_of_two : (devices : List DeviceState) (name asked : List ℕ) (source : SourceState) (other : DeviceState) → devices ≡ new_scanner Flatbed name source Little ∷ other ∷ [] → asked ≡ name → HaveOwnNames devices → IsOnly devices name source asked
only_of_two devices name asked source other are asks own device there named =
    one (contains_two flatbed other device (subst (λ (ds : List DeviceState). Contains ds device) are there))
  where
    flatbed : DeviceState
    flatbed = new_scanner Flatbed name source Little

    names : HaveOwnNames (flatbed ∷ other ∷ [])
    names = subst HaveOwnNames are own

    differ : name ≢ other.info.name
    differ = names.0 0 other (omega arith)

    one : (flatbed ≡ device) ⊎ (other ≡ device) → flatbed ≡ device
    one (inl is) = is
    one (inr is) = absurd (differ (sym asks ∙ sym named ∙ ap (λ (d : DeviceState). d.info.name) (sym is)))

-- no event lays a page in or takes a device out, and no stranger's act does
abbrev BringsNothing : JointEvent → Type 0
BringsNothing (OfJobs e) = LoadsNothing e
BringsNothing (OfStranger a) = Unit {0}

quiet_jobs : (es : List Event) → AllByRecursion LoadsNothing es → AllByRecursion BringsNothing (of_jobs es)
quiet_jobs [] quiet = tt
quiet_jobs (e ∷ es) quiet = (quiet.0, quiet_jobs es quiet.1)

no_load : (events : List JointEvent) (name : List ℕ) (source : Source) → AllByRecursion BringsNothing events → Contains events (OfJobs (Load name source)) → ⊥
no_load events name source quiet there = at_all BringsNothing events there.0 (OfJobs (Load name source)) quiet (get_at events there.0 (OfJobs (Load name source)) there.1 ∙ ap (λ (e : JointEvent). Some e) there.2)

page_is : (h : History) (w : WorldCore) (i : ℕ) (name other : List ℕ) (source : SourceState) (held : HeldPage) → IsOnly h.devices name source other → AllByRecursion BringsNothing h.events → CameInTime h w i other held → held_from source ≡ held
page_is h w i name other source held only quiet (FromFirst device there named among) =
    let same : new_scanner Flatbed name source Little ≡ device = only device there named in
    contains_one (held_from source) held (subst (λ (d : DeviceState). Contains d.pages held) (sym same) among)
page_is h w i name other source held only quiet (AsItRan laid happened is) = absurd (no_load h.events other laid quiet (in_split h.events happened.0.front happened.0.back (OfJobs (Load other laid)) happened.0.split))

on_flatbed : (name : List ℕ) (source : SourceState) (placed : List Placement) (setup : Setup) (job : Job) → AreSettingsPut (defaults (new_scanner Flatbed name source Little).setup.scene.kind (new_scanner Flatbed name source Little).setup.order) job.settings.items placed setup → AreSettingsPut (defaults Flatbed Little) job.settings.items placed setup
unfolding defaults
on_flatbed name source placed setup job h = h

scan_of_one : (h : History) (w : WorldCore) (i count : ℕ) (job : Job) (bytes : List ℕ) (name : List ℕ) (source : SourceState) → IsOnly h.devices name source job.device → AllByRecursion BringsNothing h.events → IsScan h w i job count bytes → IsScanOf source.page job bytes
scan_of_one h w i count job bytes name source only quiet scan =
    let s = scan.settled in
    let same : new_scanner Flatbed name source Little ≡ s.device = only s.device s.is_there s.named in
    let page : source.page ≡ scan.held.page = ap (λ (x : HeldPage). x.page) (page_is h w i name job.device source scan.held only quiet scan.came) in
    record {
      setup = s.setup;
      placed = s.placed;
      in_force = on_flatbed name source s.placed s.setup job (subst (λ (d : DeviceState). AreSettingsPut (defaults d.setup.scene.kind d.setup.order) job.settings.items s.placed s.setup) (sym same) s.in_force);
      picture = scan.picture;
      meant = subst (λ (p : PageView). meaning_of p s.setup.scene ≡ Some scan.picture) (sym page) scan.meant;
      denotes = scan.denotes;
      own = scan.own;
    }

done_reports : (o : Outcome) → is_done o ≡ true → (reports : Reports) × (o ≡ Done reports)
done_reports Running e = absurd (let clash : false ≡ true = e in cc)
done_reports (Done reports) e = (reports, refl)
done_reports (Ended status why) e = absurd (let clash : false ≡ true = e in cc)

-- the pages of the flatbed, where events bring none, are that of its source
steady_for_all : (h : History) (w : WorldCore) (i : ℕ) (name other : List ℕ) (source : SourceState) → IsOnly h.devices name source other → source.steady ≡ true → AllByRecursion BringsNothing h.events → IsSteady h w i other
steady_for_all h w i name other source only steady quiet held came = ap (λ (x : HeldPage). x.steady) (sym (page_is h w i name other source held only quiet came)) ∙ steady

both_quiet : (events : List Event) → events ≡ until_busy → AllByRecursion LoadsNothing events
both_quiet events are = subst (AllByRecursion LoadsNothing) (sym are) (tt, (tt, (tt, (tt, (tt, (tt, (tt, (tt, (tt, tt)))))))))

-- the file is the one that was given
pub given_file : (w : WorldCore) (bytes : List ℕ) → Some bytes ≡ file_answered w 0 → ForEach w 0 (λ h job. (o : Outcome) → outcome_at w 0 ≡ Some o → FileIsKept h w 0 job (starved_at w 0) o (file_answered w 0)) → ForEach w 0 (λ h job. (o : Outcome) → outcome_at w 0 ≡ Some o → FileIsKept h w 0 job (starved_at w 0) o (Some bytes))
given_file w bytes is kept h job at o there = subst (FileIsKept h w 0 job (starved_at w 0) o) (sym is) (kept h job at o there)

pub once : (old new : WorldCore) (name : List ℕ) (source : SourceState) (states : List DeviceState) (users : List Entry) (seed : List ℕ) (job : Job) (jobs : List Job) (outcome : Outcome) (bytes : List ℕ) →
    (HaveOwnNames states → IsOnly states name source job.device) → jobs ≡ job ∷ [] → source.steady ≡ true → LedTo (begun states users seed jobs) old → ((h : History) → LedTo h old → RunsOut h old new) →
    outcome_at new 0 ≡ Some outcome → is_done outcome ≡ true → ForEach new 0 (λ h job. (o : Outcome) → outcome_at new 0 ≡ Some o → FileIsKept h new 0 job (starved_at new 0) o (Some bytes)) → job.task ≡ tasks.Scan → IsScanOf source.page job bytes
once old new name source states users seed job jobs outcome bytes only own steady led ran there done file scan =
    let out = ran (begun states users seed jobs) led in
    let h = and_then (begun states users seed jobs) out.moves in
    let at : IsJobAt h new 0 job = record { led = out.led; job_at = ap (λ (js : List Job). slice_get js 0) own } in
    let reports = done_reports outcome done in
    let kept : FileIsKept h new 0 job (starved_at new 0) outcome (Some bytes) = file h job at outcome there in
    let this : IsOnly states name source job.device = only out.led.names in
    let quiet = quiet_jobs out.moves (quiet_moves out.moves old new out.next) in
    scan_of_one h new 0 0 job bytes name source this quiet (kept.scanned reports.0 bytes (steady_for_all h new 0 name job.device source this steady quiet) scan reports.1 refl)

pub beside : (old mid new : WorldCore) (name : List ℕ) (source : SourceState) (states : List DeviceState) (users : List Entry) (seed : List ℕ) (first second : Job) (jobs : List Job) (outcome : Outcome) (bytes : List ℕ) (events : List Event) →
    states ≡ new_scanner Flatbed name source Little ∷ [] → jobs ≡ first ∷ second ∷ [] → source.steady ≡ true → LedTo (begun states users seed jobs) old → events ≡ until_busy → ((h : History) → LedTo h old → LedTo (and_then h events) mid) → ((h : History) → LedTo h mid → RunsOut h mid new) →
    outcome_at new 0 ≡ Some outcome → is_done outcome ≡ true → ForEach new 0 (λ h job. (o : Outcome) → outcome_at new 0 ≡ Some o → FileIsKept h new 0 job (starved_at new 0) o (Some bytes)) → first.task ≡ tasks.Scan → IsScanOf source.page first bytes
beside old mid new name source states users seed first second jobs outcome bytes events devices own steady led are run ran there done file scan =
    let asked = and_then (begun states users seed jobs) events in
    let out = ran asked (run (begun states users seed jobs) led) in
    let h = and_then asked out.moves in
    let at : IsJobAt h new 0 first = record { led = out.led; job_at = ap (λ (js : List Job). slice_get js 0) own } in
    let reports = done_reports outcome done in
    let kept : FileIsKept h new 0 first (starved_at new 0) outcome (Some bytes) = file h first at outcome there in
    let quiet = all_then BringsNothing (of_jobs events) (of_jobs out.moves) (quiet_jobs events (both_quiet events are)) (quiet_jobs out.moves (quiet_moves out.moves mid new out.next)) in
    let this : IsOnly states name source first.device = only_device states name first.device source devices in
    scan_of_one h new 0 0 first bytes name source this quiet (kept.scanned reports.0 bytes (steady_for_all h new 0 name first.device source this steady quiet) scan reports.1 refl)

pub busy : (old mid new : WorldCore) (name : List ℕ) (source : SourceState) (states : List DeviceState) (users : List Entry) (seed : List ℕ) (first second : Job) (jobs : List Job) (outcome : Outcome) (events : List Event) →
    states ≡ new_scanner Flatbed name source Little ∷ [] → jobs ≡ first ∷ second ∷ [] → source.steady ≡ true → LedTo (begun states users seed jobs) old → events ≡ until_busy → ((h : History) → LedTo h old → LedTo (and_then h events) mid) → ((h : History) → LedTo h mid → RunsOut h mid new) →
    ForEach new 1 (λ h job. OutcomeIsKept h new 1 job (starved_at new 1) outcome) → outcome ≡ Ended DeviceBusy Answer → HasExplanation first second
busy old mid new name source states users seed first second jobs outcome events devices own steady led are run ran kept told =
    let asked = and_then (begun states users seed jobs) events in
    let out = ran asked (run (begun states users seed jobs) led) in
    let h = and_then asked out.moves in
    let at : IsJobAt h new 1 second = record { led = out.led; job_at = ap (λ (js : List Job). slice_get js 1) own } in
    record { history = h; jobs = own; world = new; led = out.led; starved = starved_at new 1; caused = ((kept h second at).ended DeviceBusy Answer told).2 }

-- ---- the same of boxes

one_state : {D : Type 0} (state : D → DeviceState) (items : List D) (x : D) (s : DeviceState) → items ≡ x ∷ [] → state x ≡ s → map state items ≡ s ∷ []
one_state state items x s own is = ap (map state) own ∙ ap (λ (y : DeviceState). y ∷ []) is

pub once_boxed : {D : Type 0} (state : D → DeviceState) (items : List D) (box : D) (users : List Entry) (seed : List ℕ) (jobs : List Job) (job : Job) (old new : WorldCore) (name : List ℕ) (source : SourceState) (page : PageView) (outcome : Outcome) (file bytes : List ℕ) →
    LedTo (begun (map state items) users seed jobs) old → ((h : History) → LedTo h old → RunsOut h old new) → ForEach new 0 (λ h job. (o : Outcome) → outcome_at new 0 ≡ Some o → FileIsKept h new 0 job (starved_at new 0) o (Some file)) → items ≡ box ∷ [] → state box ≡ new_scanner Flatbed name source Little → jobs ≡ job ∷ [] → source.steady ≡ true → source.page ≡ page →
    outcome_at new 0 ≡ Some outcome → is_done outcome ≡ true → file ≡ bytes → job.task ≡ tasks.Scan → IsScanOf page job bytes
once_boxed state items box users seed jobs job old new name source page outcome file bytes led ran kept alone is own steady on there done same scan =
    subst (λ (p : PageView). IsScanOf p job bytes) on
    (subst (IsScanOf source.page job) same
    (once old new name source (map state items) users seed job jobs outcome file (λ names. only_device (map state items) name job.device source (one_state state items box (new_scanner Flatbed name source Little) alone is)) own steady led ran there done kept scan))

two_states : {D : Type 0} (state : D → DeviceState) (items : List D) (x y : D) (s : DeviceState) → items ≡ x ∷ y ∷ [] → state x ≡ s → map state items ≡ s ∷ state y ∷ []
two_states state items x y s own is = ap (map state) own ∙ ap (λ (d : DeviceState). d ∷ state y ∷ []) is

pub with_other_boxed : {D : Type 0} (state : D → DeviceState) (items : List D) (box other : D) (users : List Entry) (seed : List ℕ) (jobs : List Job) (job : Job) (old new : WorldCore) (name : List ℕ) (source : SourceState) (page : PageView) (outcome : Outcome) (file bytes : List ℕ) →
    LedTo (begun (map state items) users seed jobs) old → ((h : History) → LedTo h old → RunsOut h old new) → ForEach new 0 (λ h job. (o : Outcome) → outcome_at new 0 ≡ Some o → FileIsKept h new 0 job (starved_at new 0) o (Some file)) → items ≡ box ∷ other ∷ [] → state box ≡ new_scanner Flatbed name source Little → jobs ≡ job ∷ [] → source.steady ≡ true → source.page ≡ page →
    outcome_at new 0 ≡ Some outcome → is_done outcome ≡ true → file ≡ bytes → job.device ≡ name → job.task ≡ tasks.Scan → IsScanOf page job bytes
with_other_boxed state items box other users seed jobs job old new name source page outcome file bytes led ran kept both is own steady on there done same named scan =
    let are : map state items ≡ new_scanner Flatbed name source Little ∷ state other ∷ [] = two_states state items box other (new_scanner Flatbed name source Little) both is in
    subst (λ (p : PageView). IsScanOf p job bytes) on
    (subst (IsScanOf source.page job) same
    (once old new name source (map state items) users seed job jobs outcome file (only_of_two (map state items) name job.device source (state other) are named) own steady led ran there done kept scan))

pub beside_boxed : {D : Type 0} (state : D → DeviceState) (items : List D) (box : D) (users : List Entry) (seed : List ℕ) (jobs : List Job) (first second : Job) (events : List Event) (old mid new : WorldCore) (name : List ℕ) (source : SourceState) (page : PageView) (outcome : Outcome) (file bytes : List ℕ) →
    LedTo (begun (map state items) users seed jobs) old → ((h : History) → LedTo h old → LedTo (and_then h events) mid) → ((h : History) → LedTo h mid → RunsOut h mid new) → ForEach new 0 (λ h job. (o : Outcome) → outcome_at new 0 ≡ Some o → FileIsKept h new 0 job (starved_at new 0) o (Some file)) → items ≡ box ∷ [] → state box ≡ new_scanner Flatbed name source Little → jobs ≡ first ∷ second ∷ [] → source.steady ≡ true → source.page ≡ page → events ≡ until_busy →
    outcome_at new 0 ≡ Some outcome → is_done outcome ≡ true → file ≡ bytes → first.task ≡ tasks.Scan → IsScanOf page first bytes
beside_boxed state items box users seed jobs first second events old mid new name source page outcome file bytes led run ran kept alone is own steady on are there done same scan =
    subst (λ (p : PageView). IsScanOf p first bytes) on
    (subst (IsScanOf source.page first) same
    (beside old mid new name source (map state items) users seed first second jobs outcome file events (one_state state items box (new_scanner Flatbed name source Little) alone is) own steady led are run ran there done kept scan))

pub busy_boxed : {D : Type 0} (state : D → DeviceState) (items : List D) (box : D) (users : List Entry) (seed : List ℕ) (jobs : List Job) (first second : Job) (events : List Event) (old mid new : WorldCore) (name : List ℕ) (source : SourceState) (outcome : Outcome) →
    LedTo (begun (map state items) users seed jobs) old → ((h : History) → LedTo h old → LedTo (and_then h events) mid) → ((h : History) → LedTo h mid → RunsOut h mid new) → ForEach new 1 (λ h job. OutcomeIsKept h new 1 job (starved_at new 1) outcome) → items ≡ box ∷ [] → state box ≡ new_scanner Flatbed name source Little → jobs ≡ first ∷ second ∷ [] → source.steady ≡ true → events ≡ until_busy →
    outcome ≡ Ended DeviceBusy Answer → HasExplanation first second
busy_boxed state items box users seed jobs first second events old mid new name source outcome led run ran kept alone is own steady are told =
    busy old mid new name source (map state items) users seed first second jobs outcome events (one_state state items box (new_scanner Flatbed name source Little) alone is) own steady led are run ran kept told

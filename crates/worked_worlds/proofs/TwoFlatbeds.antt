-- Jobs that scan one gray dot, each on a flatbed of its own.
use Rattle.std.specs.Prelude.{All, Contains, IfErr, IfOk, Result, Ok, Err, codes, map, slice_get, slice_index, slice_index_or, ◌⊎◌, ◌<◌}
use Rattle.std.specs.List.{AllByRecursion}
use Rattle.std.proofs.Common.{◌≡◌, ◌∙◌, ℕ, zero, suc, List, [], ◌∷◌, true, false, Some, None, inl, inr, refl, sym, ap, subst, arith}
use Rattle.std.proofs.lemmas.List.Elements.{All-from_recursion}
use Rattle.sane_fixed.specs.declared.byte_order.ByteOrder.TheVariants.{Little}
use Rattle.md5_auth.specs.UserLines.{TellsUsers}
use Rattle.md5_auth.specs.declared.users.Entry.{Entry}
use Rattle.text_lines.specs.Lines.{lines_of}
use Rattle.page_picture.specs.Meaning.{meaning_of}
use Rattle.page_picture.specs.Page.{PageView}
use Rattle.page_picture.specs.declared.scene.DeviceKind.TheVariants.{Flatbed}
use Rattle.scan_frames.specs.declared.setup.Setup.{Setup}
use Rattle.device_api.specs.InForce.{Placement}
use Rattle.device_api.specs.State.{DeviceState, HeldPage, feeds, held_from}
use Rattle.device_api.specs.Values.{defaults}
use Rattle.dispatch.specs.RegistryFault.{HaveOwnNames}
use Rattle.scan_job.specs.declared.job.Job.{Job}
use Rattle.scan_job.specs.declared.job.Task.TheVariants as tasks
use Rattle.scan_job.specs.JobSize.{IsJobText}
use Rattle.scan_job.specs.declared.outcome.Outcome.TheVariants.{Done}
use Rattle.event_world.specs.declared.event.Event.{Event}
use Rattle.event_world.specs.declared.event.Event.TheVariants.{Load}
use Rattle.event_world.specs.declared.world_fault.WorldFault.{WorldFault}
use Rattle.event_world.specs.declared.world_fault.WorldFault.TheVariants as faults
use Rattle.event_world.specs.Worlds.{HasFaultAmong, IsFitJob, WorldCore}
use Rattle.strangers.specs.Together.JointEvent.{OfJobs, OfStranger}
use Rattle.scan_world.specs.Calls.{IsJobAt, RunsOut}
use Rattle.scan_world.specs.Clear.{ClearsUp, IsClear}
use Rattle.scan_world.specs.Examples.{IsScanOf}
use Rattle.scan_world.specs.Histories.{History, LedTo, and_then, begun, of_jobs}
use Rattle.scan_world.specs.Page.{CameFor, CameInTime, IsScan, IsSteady, Settled}
use Rattle.scan_world.specs.Page.CameFor.{AtFirst, WithEvent}
use Rattle.scan_world.specs.Page.CameInTime.{FromFirst, AsItRan}
use Rattle.scan_world.specs.Settings.{AreSettingsPut}
use Rattle.scan_world.proofs.Joint.{in_jobs}
use Rattle.scan_world.proofs.Lists.{in_list, in_split}
use Rattle.scan_world.proofs.NextMoves.{LoadsNothing, quiet_moves}
use Rattle.worked_worlds.specs.DotFiles.{CameOff, DotIsOneByte, IsDotJob, both_dots, dot_file, dot_setup, one_dot}
use Rattle.worked_worlds.specs.Inside.{AreDotJobs, HasDoneFile, HasNoFile}
use Rattle.worked_worlds.specs.Worked.{HasBrokenOff, IsPlainBatch, IsPlainScan, feeder_of_two, flatbed_with, memory_source}
use Rattle.worked_worlds.specs.declared.surely.NoFile.{NoFile}
use Rattle.worked_worlds.specs.declared.surely.NoFile.TheVariants as no_files
use Rattle.worked_worlds.proofs.GrayDots.{allowed_here, dot_fits, dot_means, dot_puts, dot_told, plain_dot, plain_dots, setup_is_dot}
use Rattle.worked_worlds.proofs.Worked.{only_one, quiet_in}

-- ---- the flatbed of a job

-- of these devices that of the name is this flatbed
abbrev IsIts : List DeviceState → List ℕ → PageView → List ℕ → Type 0
IsIts devices name page asked = (device : DeviceState) → Contains devices device → device.info.name ≡ asked → flatbed_with name page ≡ device

pub no_event : {X : Type 0} (x : X) → Contains [] x → ⊥
no_event x (k, within, is) = omega (arith, within)

no_feeder : (name : List ℕ) (page : PageView) → feeds (flatbed_with name page) ≡ true → ⊥
unfolding defaults
no_feeder name page feeder = let clash : false ≡ true = feeder in cc

flat_put : (name : List ℕ) (page : PageView) (items : List (List ℕ × List ℕ)) (placed : List Placement) (setup : Setup) → AreSettingsPut (defaults Flatbed Little) items placed setup → AreSettingsPut (defaults (flatbed_with name page).setup.scene.kind (flatbed_with name page).setup.order) items placed setup
unfolding defaults
flat_put name page items placed setup put = put

put_flat : (name : List ℕ) (page : PageView) (items : List (List ℕ × List ℕ)) (placed : List Placement) (setup : Setup) (device : DeviceState) → flatbed_with name page ≡ device → AreSettingsPut (defaults device.setup.scene.kind device.setup.order) items placed setup → AreSettingsPut (defaults Flatbed Little) items placed setup
unfolding defaults
put_flat name page items placed setup device same put = subst (λ (d : DeviceState). AreSettingsPut (defaults d.setup.scene.kind d.setup.order) items placed setup) (sym same) put

-- ---- its page, where next moves alone came

page_in : (devices : List DeviceState) (seed : List ℕ) (jobs : List Job) (moves : List Event) (w : WorldCore) (i : ℕ) (name : List ℕ) (page : PageView) (asked : List ℕ) (held : HeldPage) → IsIts devices name page asked → AllByRecursion LoadsNothing moves → CameInTime (and_then (begun devices [] seed jobs) moves) w i asked held → held_from (memory_source page) ≡ held
page_in devices seed jobs moves w i name page asked held its quiet (FromFirst device there named among) = only_one (held_from (memory_source page)) held (subst (λ (d : DeviceState). Contains d.pages held) (sym (its device there named)) among)
page_in devices seed jobs moves w i name page asked held its quiet (AsItRan laid happened is) = absurd (quiet_in moves (Load asked laid) quiet (in_jobs moves (Load asked laid) (in_list (of_jobs moves) (OfJobs (Load asked laid)) (in_split (of_jobs moves) happened.0.front happened.0.back (OfJobs (Load asked laid)) happened.0.split))))

scan_in : (devices : List DeviceState) (seed : List ℕ) (jobs : List Job) (moves : List Event) (w : WorldCore) (i : ℕ) (name : List ℕ) (page : PageView) (job : Job) (bytes : List ℕ) → IsIts devices name page job.device → AllByRecursion LoadsNothing moves → IsScan (and_then (begun devices [] seed jobs) moves) w i job 0 bytes → IsScanOf page job bytes
scan_in devices seed jobs moves w i name page job bytes its quiet scan =
    let s = scan.settled in
    let on : page ≡ scan.held.page = ap (λ (x : HeldPage). x.page) (page_in devices seed jobs moves w i name page job.device scan.held its quiet scan.came) in
    record {
      setup = s.setup;
      placed = s.placed;
      in_force = put_flat name page job.settings.items s.placed s.setup s.device (its s.device s.is_there s.named) s.in_force;
      picture = scan.picture;
      meant = subst (λ (p : PageView). meaning_of p s.setup.scene ≡ Some scan.picture) (sym on) scan.meant;
      denotes = scan.denotes;
      own = scan.own;
    }

-- the file of a job that is done
pub file_in : DotIsOneByte → (devices : List DeviceState) (seed : List ℕ) (jobs : List Job) (old new : WorldCore) (i : ℕ) (name : List ℕ) (gray : ℕ) (job : Job) (bytes : List ℕ) → gray < 256 → slice_get jobs i ≡ Some job → IsIts devices name (one_dot gray) job.device → IsDotJob name tasks.Scan job → LedTo (begun devices [] seed jobs) old → ((h : History) → LedTo h old → RunsOut h old new) → HasDoneFile new i bytes → bytes ≡ dot_file gray
file_in byte devices seed jobs old new i name gray job bytes low at its is led ran f =
    let out = ran (begun devices [] seed jobs) led in
    let h = and_then (begun devices [] seed jobs) out.moves in
    let quiet = quiet_moves out.moves old new out.next in
    let steady : IsSteady h new i job.device = λ held came. ap (λ (x : HeldPage). x.steady) (sym (page_in devices seed jobs out.moves new i name (one_dot gray) job.device held its quiet came)) in
    let here : IsJobAt h new i job = record { led = out.led; job_at = at } in
    let scan = (f.kept h job here (Done f.reports) f.is).scanned f.reports bytes steady is.does refl refl in
    byte gray job bytes low is.settings_are (scan_in devices seed jobs out.moves new i name (one_dot gray) job bytes its quiet scan)

-- ---- nothing stands in its way

first_page : (devices : List DeviceState) (seed : List ℕ) (jobs : List Job) (name : List ℕ) (page : PageView) (asked : List ℕ) (held : HeldPage) → IsIts devices name page asked → CameFor (begun devices [] seed jobs) asked held → held_from (memory_source page) ≡ held
first_page devices seed jobs name page asked held its (AtFirst device there named among) = only_one (held_from (memory_source page)) held (subst (λ (d : DeviceState). Contains d.pages held) (sym (its device there named)) among)
first_page devices seed jobs name page asked held its (WithEvent laid there is) = absurd (no_event (OfJobs (Load asked laid)) there)

clear_in : (devices : List DeviceState) (seed : List ℕ) (jobs : List Job) (i : ℕ) (name : List ℕ) (gray : ℕ) (job : Job) → Contains devices (flatbed_with name (one_dot gray)) → IsIts devices name (one_dot gray) job.device → IsDotJob name tasks.Scan job → ((j : ℕ) (other : Job) → slice_get jobs j ≡ Some other → other.device ≡ job.device → j ≡ i) → IsClear (begun devices [] seed jobs) i job (λ (j : ℕ). j ≡ i)
clear_in devices seed jobs i name gray job there its is alone =
    let device = flatbed_with name (one_dot gray) in
    let puts = dot_puts job.settings.items is.settings_are in
    let setup : (s : Settled (begun devices [] seed jobs) job) → s.setup ≡ dot_setup Flatbed = λ s. setup_is_dot s.setup s.placed job.settings.items is.settings_are (put_flat name (one_dot gray) job.settings.items s.placed s.setup s.device (its s.device s.is_there s.named) s.in_force) in
    record {
      device = device;
      is_there = there;
      named = sym is.named;
      supplied = λ scanning feeder. absurd (no_feeder name (one_dot gray) feeder);
      alone = alone;
      forced = λ unforced. unforced.1 (record { device = device; is_there = there; named = sym is.named; setup = dot_setup Flatbed; placed = puts.placed; in_force = flat_put name (one_dot gray) job.settings.items puts.placed (dot_setup Flatbed) puts.put });
      unnamed = λ s. ap (λ (t : Setup). t.told) (setup s) ∙ dot_told;
      meant = λ scanning s held came none. dot_means gray (ap (λ (x : HeldPage). meaning_of x.page (dot_setup Flatbed).scene) (first_page devices seed jobs name (one_dot gray) job.device held its came) ∙ ap (λ (t : Setup). meaning_of held.page t.scene) (sym (setup s)) ∙ none);
      firm = λ scanning held came. ap (λ (x : HeldPage). x.infallible) (sym (first_page devices seed jobs name (one_dot gray) job.device held its came));
      allowed = allowed_here job;
      left = λ event came. absurd (no_event (OfJobs event) came);
      undisturbed = λ a came. no_event (OfStranger a) came;
    }

-- a clear job that came to no file
pub off_of : (devices : List DeviceState) (seed : List ℕ) (jobs : List Job) (old new : WorldCore) (i : ℕ) (job : Job) (why : NoFile) → slice_get jobs i ≡ Some job → IsClear (begun devices [] seed jobs) i job (λ (j : ℕ). j ≡ i) → LedTo (begun devices [] seed jobs) old → ClearsUp old new → HasNoFile new i why → CameOff devices why
off_of devices seed jobs old new i job why at clear led clears (inl memory) = inl memory
off_of devices seed jobs old new i job why at clear led clears (inr (broken, other)) =
    let h = begun devices [] seed jobs in
    let c = clears h led i job at clear in
    let o = other.1 c.outcome c.is in
    inr (
      broken,
      elim c.comes [
        | inl done ↦ absurd (o.0 done.0 done.1)
        | inr (inl (inl starved)) ↦ absurd (let clash : true ≡ false = sym starved ∙ other.0 in cc)
        | inr (inl (inr memory)) ↦ absurd (o.1 memory)
        | inr (inr broke) ↦ record { history = and_then h c.out.moves; devices_are = refl; users_are = refl; world = new; place = i; job = job; at = record { led = c.out.led; job_at = at }; broke = broke }
      ],
    )

-- ---- two of them

two_of : {X : Type 0} (x y z : X) → Contains (x ∷ y ∷ []) z → (x ≡ z) ⊎ (y ≡ z)
two_of x y z (zero, within, is) = inl is
two_of x y z (suc zero, within, is) = inr is
two_of x y z (suc (suc k), within, is) = absurd (omega (arith, within))

names_differ : codes "flatbed:0" ≡ codes "flatbed:1" → ⊥
names_differ e = let clash : 48 ≡ 49 = ap (λ (name : List ℕ). slice_index name 8) e in omega (arith, clash)

first_its : (first second : ℕ) (asked : List ℕ) → asked ≡ codes "flatbed:0" → IsIts (both_dots first second) (codes "flatbed:0") (one_dot first) asked
first_its first second asked is device there named = by (two_of (flatbed_with (codes "flatbed:0") (one_dot first)) (flatbed_with (codes "flatbed:1") (one_dot second)) device there)
  where
    by : (flatbed_with (codes "flatbed:0") (one_dot first) ≡ device) ⊎ (flatbed_with (codes "flatbed:1") (one_dot second) ≡ device) → flatbed_with (codes "flatbed:0") (one_dot first) ≡ device
    by (inl same) = same
    by (inr same) = absurd (names_differ (sym is ∙ sym named ∙ ap (λ (d : DeviceState). d.info.name) (sym same)))

second_its : (first second : ℕ) (asked : List ℕ) → asked ≡ codes "flatbed:1" → IsIts (both_dots first second) (codes "flatbed:1") (one_dot second) asked
second_its first second asked is device there named = by (two_of (flatbed_with (codes "flatbed:0") (one_dot first)) (flatbed_with (codes "flatbed:1") (one_dot second)) device there)
  where
    by : (flatbed_with (codes "flatbed:0") (one_dot first) ≡ device) ⊎ (flatbed_with (codes "flatbed:1") (one_dot second) ≡ device) → flatbed_with (codes "flatbed:1") (one_dot second) ≡ device
    by (inl same) = absurd (names_differ (ap (λ (d : DeviceState). d.info.name) same ∙ named ∙ is))
    by (inr same) = same

-- the two jobs name two flatbeds
first_alone : (one two : Job) → IsDotJob (codes "flatbed:0") tasks.Scan one → IsDotJob (codes "flatbed:1") tasks.Scan two → (j : ℕ) (other : Job) → slice_get (one ∷ two ∷ []) j ≡ Some other → other.device ≡ one.device → j ≡ 0
first_alone one two is is_too zero other at same = refl
first_alone one two is is_too (suc zero) other at same =
    let own : two ≡ other = (let both : Some two ≡ Some other = at in cc) in
    absurd (names_differ (sym is.named ∙ sym same ∙ ap (λ (x : Job). x.device) (sym own) ∙ is_too.named))
first_alone one two is is_too (suc (suc j)) other at same = absurd (let clash : None ≡ Some other = at in cc)

second_alone : (one two : Job) → IsDotJob (codes "flatbed:0") tasks.Scan one → IsDotJob (codes "flatbed:1") tasks.Scan two → (j : ℕ) (other : Job) → slice_get (one ∷ two ∷ []) j ≡ Some other → other.device ≡ two.device → j ≡ 1
second_alone one two is is_too zero other at same =
    let own : one ≡ other = (let both : Some one ≡ Some other = at in cc) in
    absurd (names_differ (sym is.named ∙ ap (λ (x : Job). x.device) own ∙ same ∙ is_too.named))
second_alone one two is is_too (suc zero) other at same = refl
second_alone one two is is_too (suc (suc j)) other at same = absurd (let clash : None ≡ Some other = at in cc)

-- what is given of the world: its devices, its users and its jobs, as they were handed in
abbrev LedBy : List DeviceState → List ℕ → List Job → WorldCore → Type 0
LedBy devices seed jobs old = LedTo (begun devices [] seed jobs) old

pub first_file : DotIsOneByte → (first second : ℕ) (seed : List ℕ) (jobs : List Job) (old new : WorldCore) (bytes : List ℕ) → first < 256 → (a : AreDotJobs jobs) → LedTo (begun (both_dots first second) [] seed jobs) old → ((h : History) → LedTo h old → RunsOut h old new) → HasDoneFile new 0 bytes → bytes ≡ dot_file first
first_file byte first second seed jobs old new bytes low a led ran f =
    file_in byte (both_dots first second) seed (a.first ∷ a.second ∷ []) old new 0 (codes "flatbed:0") first a.first bytes low refl (first_its first second a.first.device a.first_is.named) a.first_is (subst (λ (js : List Job). LedBy (both_dots first second) seed js old) a.are led) ran f

pub second_file : DotIsOneByte → (first second : ℕ) (seed : List ℕ) (jobs : List Job) (old new : WorldCore) (bytes : List ℕ) → second < 256 → (a : AreDotJobs jobs) → LedTo (begun (both_dots first second) [] seed jobs) old → ((h : History) → LedTo h old → RunsOut h old new) → HasDoneFile new 1 bytes → bytes ≡ dot_file second
second_file byte first second seed jobs old new bytes low a led ran f =
    file_in byte (both_dots first second) seed (a.first ∷ a.second ∷ []) old new 1 (codes "flatbed:1") second a.second bytes low refl (second_its first second a.second.device a.second_is.named) a.second_is (subst (λ (js : List Job). LedBy (both_dots first second) seed js old) a.are led) ran f

pub first_off : (first second : ℕ) (seed : List ℕ) (jobs : List Job) (old new : WorldCore) (why : NoFile) → (a : AreDotJobs jobs) → LedTo (begun (both_dots first second) [] seed jobs) old → ClearsUp old new → HasNoFile new 0 why → CameOff (both_dots first second) why
first_off first second seed jobs old new why a led clears none =
    off_of (both_dots first second) seed (a.first ∷ a.second ∷ []) old new 0 a.first why refl
    (clear_in (both_dots first second) seed (a.first ∷ a.second ∷ []) 0 (codes "flatbed:0") first a.first (0, omega arith, refl) (first_its first second a.first.device a.first_is.named) a.first_is (first_alone a.first a.second a.first_is a.second_is))
    (subst (λ (js : List Job). LedBy (both_dots first second) seed js old) a.are led) clears none

pub second_off : (first second : ℕ) (seed : List ℕ) (jobs : List Job) (old new : WorldCore) (why : NoFile) → (a : AreDotJobs jobs) → LedTo (begun (both_dots first second) [] seed jobs) old → ClearsUp old new → HasNoFile new 1 why → CameOff (both_dots first second) why
second_off first second seed jobs old new why a led clears none =
    off_of (both_dots first second) seed (a.first ∷ a.second ∷ []) old new 1 a.second why refl
    (clear_in (both_dots first second) seed (a.first ∷ a.second ∷ []) 1 (codes "flatbed:1") second a.second (1, omega arith, refl) (second_its first second a.second.device a.second_is.named) a.second_is (second_alone a.first a.second a.first_is a.second_is))
    (subst (λ (js : List Job). LedBy (both_dots first second) seed js old) a.are led) clears none

-- no such world is refused, but for want of memory
other_name : (second k : ℕ) (d : DeviceState) → k < 1 → codes "flatbed:0" ≡ (slice_index_or (flatbed_with (codes "flatbed:1") (one_dot second) ∷ []) k d).info.name → ⊥
other_name second zero d low e = names_differ e
other_name second (suc k) d low e = omega (arith, low)

own_names : (first second : ℕ) → HaveOwnNames (both_dots first second)
own_names first second = (λ k d low e. other_name second k d low e, ((λ k d low e. omega (arith, low)), tt))

pub two_refused : (first second : ℕ) (jobs : List Job) (f : WorldFault) → AreDotJobs jobs → HasFaultAmong f (both_dots first second) jobs → f ≡ faults.NoMem
two_refused first second jobs f a fault = by f (subst (HasFaultAmong f (both_dots first second)) a.are fault)
  where
    all_fit : All IsFitJob (a.first ∷ a.second ∷ [])
    all_fit = All-from_recursion IsFitJob (a.first ∷ a.second ∷ []) (dot_fits (codes "flatbed:0") tasks.Scan a.first (omega arith) tt a.first_is, (dot_fits (codes "flatbed:1") tasks.Scan a.second (omega arith) tt a.second_is, tt))

    by : (g : WorldFault) → HasFaultAmong g (both_dots first second) (a.first ∷ a.second ∷ []) → g ≡ faults.NoMem
    by faults.SameName same = absurd (same (own_names first second))
    by faults.TooManyDevices (names, many) = absurd (omega (arith, many))
    by faults.TooManyJobs (some, many) = absurd (omega (arith, many))
    by faults.BadJob (some, (few, bad)) = absurd (bad all_fit)
    by faults.NoMem fault = refl

-- ---- of one job, as it was handed in

abbrev CameOffAs : NoFile → List DeviceState → List Entry → Job → Type 0
CameOffAs why devices users job = (why ≡ no_files.NoMem) ⊎ ((why ≡ no_files.BrokenOff) × HasBrokenOff devices users job)

-- one that broke off is among them
came_off_one : (devices : List DeviceState) (why : NoFile) (job : Job) → CameOffAs why devices [] job → CameOff devices why
came_off_one devices why job (inl memory) = inl memory
came_off_one devices why job (inr (broken, (from, broke))) = inr (broken, record { history = from.history; devices_are = from.devices_are; users_are = from.users_are; world = from.world; place = 0; job = job; at = record { led = from.led; job_at = ap (λ (js : List Job). slice_get js 0) from.jobs_are }; broke = broke })

pub one_off : (own name : List ℕ) (gray : ℕ) (page : PageView) (users : List Entry) (job : Job) (why : NoFile) → IsJobText own → name ≡ own → page ≡ one_dot gray → users ≡ [] → IsDotJob own tasks.Scan job → (IsPlainScan name page users job → (why ≡ no_files.NoMem) ⊎ ((why ≡ no_files.BrokenOff) × HasBrokenOff (flatbed_with name page ∷ []) users job)) → CameOff (flatbed_with own (one_dot gray) ∷ []) why
one_off own name gray page users job why short named shown nobody is off =
    let with_name = subst (λ (n : List ℕ). IsPlainScan n page users job → CameOffAs why (flatbed_with n page ∷ []) users job) named off in
    let with_page = subst (λ (p : PageView). IsPlainScan own p users job → CameOffAs why (flatbed_with own p ∷ []) users job) shown with_name in
    let with_users = subst (λ (us : List Entry). IsPlainScan own (one_dot gray) us job → CameOffAs why (flatbed_with own (one_dot gray) ∷ []) us job) nobody with_page in
    came_off_one (flatbed_with own (one_dot gray) ∷ []) why job (with_users (plain_dot own gray (one_dot gray) job short refl is))

pub fed_off : (own name : List ℕ) (first second : ℕ) (page other : PageView) (users : List Entry) (job : Job) (why : NoFile) → IsJobText own → name ≡ own → page ≡ one_dot first → other ≡ one_dot second → users ≡ [] → IsDotJob own (tasks.Batch 2) job →
    (IsPlainBatch name page other users job → (why ≡ no_files.NoMem) ⊎ ((why ≡ no_files.BrokenOff) × HasBrokenOff (feeder_of_two name page other) users job)) → CameOff (feeder_of_two own (one_dot first) (one_dot second)) why
fed_off own name first second page other users job why short named shown shown_too nobody is off =
    let with_name = subst (λ (n : List ℕ). IsPlainBatch n page other users job → CameOffAs why (feeder_of_two n page other) users job) named off in
    let with_page = subst (λ (p : PageView). IsPlainBatch own p other users job → CameOffAs why (feeder_of_two own p other) users job) shown with_name in
    let with_other = subst (λ (p : PageView). IsPlainBatch own (one_dot first) p users job → CameOffAs why (feeder_of_two own (one_dot first) p) users job) shown_too with_page in
    let with_users = subst (λ (us : List Entry). IsPlainBatch own (one_dot first) (one_dot second) us job → CameOffAs why (feeder_of_two own (one_dot first) (one_dot second)) us job) nobody with_other in
    came_off_one (feeder_of_two own (one_dot first) (one_dot second)) why job (with_users (plain_dots own first second (one_dot first) (one_dot second) job short refl refl is))

pub two_off : (first second : ℕ) (seed : List ℕ) (jobs : List Job) (old new : WorldCore) (why : NoFile) → (a : AreDotJobs jobs) → LedTo (begun (both_dots first second) [] seed jobs) old → ClearsUp old new → HasNoFile new 0 why ⊎ HasNoFile new 1 why → CameOff (both_dots first second) why
two_off first second seed jobs old new why a led clears (inl none) = first_off first second seed jobs old new why a led clears none
two_off first second seed jobs old new why a led clears (inr none) = second_off first second seed jobs old new why a led clears none

-- ---- of boxes

pub one_state : {D : Type 0} (state : D → DeviceState) (items : List D) (box : D) (d : DeviceState) → items ≡ box ∷ [] → state box ≡ d → map state items ≡ d ∷ []
one_state state items box d is same = ap (map state) is ∙ ap (λ (x : DeviceState). x ∷ []) same

pub two_states : {D : Type 0} (state : D → DeviceState) (items : List D) (box other : D) (d e : DeviceState) → items ≡ box ∷ other ∷ [] → state box ≡ d → state other ≡ e → map state items ≡ d ∷ e ∷ []
two_states state items box other d e is same same_too = ap (map state) is ∙ (ap (λ (x : DeviceState). x ∷ state other ∷ []) same ∙ ap (λ (x : DeviceState). d ∷ x ∷ []) same_too)

pub led_there : {D : Type 0} (state : D → DeviceState) (items : List D) (states : List DeviceState) (users : List Entry) (seed : List ℕ) (jobs : List Job) (old : WorldCore) → map state items ≡ states → users ≡ [] → LedTo (begun (map state items) users seed jobs) old → LedTo (begun states [] seed jobs) old
led_there state items states users seed jobs old are nobody led = subst (λ (us : List Entry). LedTo (begun states us seed jobs) old) nobody (subst (λ (ds : List DeviceState). LedTo (begun ds users seed jobs) old) are led)

pub fault_there : {D : Type 0} (state : D → DeviceState) (items : List D) (states : List DeviceState) (jobs : List Job) (f : WorldFault) → map state items ≡ states → HasFaultAmong f (map state items) jobs → HasFaultAmong f states jobs
fault_there state items states jobs f are fault = subst (λ (ds : List DeviceState). HasFaultAmong f ds jobs) are fault

-- of a value that is given, and of a refusal that comes for another reason
pub ok_into : {T E : Type 0} (r : Result T E) (P Q : T → Type 0) → ((t : T) → P t → Q t) → IfOk r P → IfOk r Q
ok_into (Ok given) P Q f h = f given h
ok_into (Err e) P Q f h = tt

pub err_into : {T E : Type 0} (r : Result T E) (P Q : E → Type 0) → ((e : E) → P e → Q e) → IfErr r P → IfErr r Q
err_into (Ok given) P Q f h = tt
err_into (Err e) P Q f h = f e h

-- a users file without bytes tells no users
pub told_nobody : (users : List Entry) → TellsUsers [] users → users ≡ []
unfolding lines_of
told_nobody [] told = refl
told_nobody (entry ∷ users) told = absurd told.entries_are

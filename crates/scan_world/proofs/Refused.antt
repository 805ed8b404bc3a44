-- Why the promise refuses what it refuses.
use Rattle.std.specs.Prelude.{◌≢◌, ◌<◌, map, option_map, slice_get}
use Rattle.std.proofs.Math.Nat.{min-eq_left}
use Rattle.std.proofs.Common.{◌≡◌, ◌∙◌, ◌⊎◌, ℕ, List, [], ◌∷◌, Bool, true, false, Option, Some, None, inl, inr, refl, sym, ap, subst, arith}
use Rattle.page_picture.specs.Meaning.{meaning_of}
use Rattle.page_picture.specs.Page.{PageView}
use Rattle.device_api.specs.State.{HeldPage}
use Rattle.rand_chacha.specs.ChaCha.{ChaCha}
use Rattle.sane_fixed.specs.declared.status.Status.{Status}
use Rattle.sane_fixed.specs.declared.status.Status.TheVariants as statuses
use Rattle.page_picture.specs.declared.scene.DeviceKind.{DeviceKind}
use Rattle.page_picture.specs.declared.scene.DeviceKind.TheVariants.{Flatbed, Hand, ThreePass, Feeder}
use Rattle.scan_frames.specs.declared.setup.Setup.{Setup}
use Rattle.device_api.specs.InForce.{Placement}
use Rattle.device_api.specs.Options.{options_of}
use Rattle.scan_laws.specs.SetInfo.{has_bit}
use Rattle.scan_job.specs.declared.report.Report.{Report}
use Rattle.world_refines.specs.GhostStates.{backend_of, is_guarded}
use Rattle.saned_core.specs.DaemonStates.{Core}
use Rattle.scan_job.specs.declared.job.Job.{Job}
use Rattle.scan_job.specs.declared.outcome.Outcome.{Outcome}
use Rattle.scan_job.specs.declared.outcome.Outcome.TheVariants.{Running, Done, Ended}
use Rattle.scan_job.specs.declared.outcome.Why.{Why}
use Rattle.scan_job.specs.declared.outcome.Why.TheVariants as whys
use Rattle.event_world.specs.declared.endpoint.Endpoint.{Endpoint}
use Rattle.event_world.specs.declared.event.Event.{Event}
use Rattle.event_world.specs.declared.event.Event.TheVariants as events
use Rattle.event_world.specs.declared.event.Event.TheVariants.{Cancel, Load, ToDaemon}
use Rattle.event_world.specs.declared.event.JobEvent.{JobEvent}
use Rattle.event_world.specs.declared.event.JobEvent.TheVariants as moves
use Rattle.event_world.specs.JobEvents.{job_event_of}
use Rattle.event_world.specs.JobMoves.{IsFirstMove, IsNext, in_order}
use Rattle.event_world.specs.Worlds.{WorldCore}
use Rattle.client_replies.specs.ProtocolStates.{is_running, scans}
use Rattle.scan_world.specs.Calls.{AreNextMoves, HadUnsaidReply, IsHeldStep, IsWorldStep, MovesNext, TakesMemory, left_at, outcome_at, starved_at}
use Rattle.scan_world.specs.Clear.{BothBusyIsNoLie, ComesTo, CameRefused, NeitherIsNoLie, RefusedIsNoLie, StoppedIsNoLie, TurnedAwayIsNoLie}
use Rattle.scan_world.specs.Page.CameInTime.{FromFirst, AsItRan}
use Rattle.scan_world.proofs.Led.{first_runs}
use Rattle.scan_world.proofs.Taken.{refused_same}
use Rattle.scan_world.proofs.moments.Entries.{unsome}
use Rattle.scan_world.specs.Endings.{AnswerIsExplained, HadNoPage, HasPassed, NamesStatus}
use Rattle.scan_world.specs.Histories.{History, EachStep, and_then}
use Rattle.scan_world.specs.Reports.{AreSettingsReported, IsSettingReported, told_option}
use Rattle.scan_world.specs.Lies.{AllowedIsNoLie, BusyIsNoLie, CancelledIsNoLie, CountIsNoLie, DeniedIsNoLie, EmptyIsNoLie, FailedIsNoLie, FewIsNoLie, FileIsNoLie, FirmIsNoLie, GivenAwayIsNoLie, GivenUpIsNoLie, GoneOnIsNoLie, HiddenIsNoLie, IdleIsNoLie, InvalIsNoLie, JammedIsNoLie, LaidIsNoLie, ListIsNoLie, LossIsNoLie, LostIsNoLie, MemoryIsNoLie, MissingIsNoLie, MovedIsNoLie, NamesNothing, NeverHadIsNoLie, NowhereIsNoLie, PageIsNoLie, RefusedStandAside, RoundedIsNoLie, SharedIsNoLie, ShownIsNoLie, SilentIsNoLie, StarvedIsNoLie, StillRunsIsNoLie, StuckIsNoLie, SwappedIsNoLie, TornOutIsNoLie, TrayPageIsNoLie, UnchangedStandAside, UnheardIsNoLie, UnscannedIsNoLie, UnseededIsNoLie, WholeIsNoLie}
use Rattle.scan_world.specs.Sessions.{CanAt, Has}
use Rattle.dispatch.specs.Table.{listed_infos}

-- ---- endings

unnamed : (h : History) (w : WorldCore) (i : ℕ) (job : Job) (status : Status) → NamesNothing h job → NamesStatus h w i job status → ⊥
unnamed h w i job status nothing (turn, scanning, (settled, told)) = let clash : None ≡ Some status = sym (nothing settled) ∙ told in cc

-- an answer whose status is not named comes from something
by_answer : (h : History) (w : WorldCore) (i : ℕ) (job : Job) (status : Status) → NamesNothing h job → (AnswerIsExplained h w i job status → ⊥) → ((status ≢ statuses.Eof) × NamesStatus h w i job status) ⊎ AnswerIsExplained h w i job status → ⊥
by_answer h w i job status nothing none (inl (other, named)) = unnamed h w i job status nothing named
by_answer h w i job status nothing none (inr answered) = none answered

pub busy : BusyIsNoLie
busy h w i job starved nothing alone unshared = by_answer h w i job statuses.DeviceBusy nothing by_case
  where
    by_case : AnswerIsExplained h w i job statuses.DeviceBusy → ⊥
    by_case (asked, inl (j, d, other, has)) = other (alone asked.n asked.at j d has)
    by_case (asked, inr shared) = unshared asked.n asked.at shared

pub inval : InvalIsNoLie
inval h w i job starved nothing forced listed meant = by_answer h w i job statuses.Inval nothing by_case
  where
    by_case : AnswerIsExplained h w i job statuses.Inval → ⊥
    by_case (inl refused) = forced refused.0
    by_case (inr (inr (asked, none))) = listed asked.n asked.at none
    by_case (inr (inl none)) = meant none.asked.n none.asked.at none.device none.has (ap (λ (x : PageView). meaning_of x none.device.setup.scene) (sym none.first) ∙ (ap (λ (x : Setup). meaning_of none.held.page x.scene) (sym none.options) ∙ none.none))

pub unheard : UnheardIsNoLie
unheard h w i job starved never (same, unforced, opened) = opened.listed (never opened.asked.n opened.asked.at)

pub denied : DeniedIsNoLie
denied h w i job starved nothing right = by_answer h w i job statuses.AccessDenied nothing (λ (asked, d). (let clash : true ≡ false = sym (right d.challenge) ∙ d.is in cc))

pub empty : EmptyIsNoLie
empty h w i job starved nothing some = by_answer h w i job statuses.NoDocs nothing (λ (scanning, asked, finished, (d, has, rests, none)). some asked.n asked.at d has none)

pub failed : FailedIsNoLie
failed h w i job starved nothing none = by_answer h w i job statuses.IoError nothing by_case
  where
    by_case : AnswerIsExplained h w i job statuses.IoError → ⊥
    by_case (scanning, can, inl (asked, failed)) = none (ToDaemon i asked.n) asked.at failed
    by_case (scanning, can, inr (turn, failed, sent)) = none _ turn.0 failed

pub firm : FirmIsNoLie
firm h w i job starved nothing all = by_answer h w i job statuses.IoError nothing (λ (scanning, can, rest). (let clash : true ≡ false = sym (all can.0 can.1) ∙ can.2 in cc))

-- a turn, a tray and a source are those of a job that scans
unscanned_by : (h : History) (w : WorldCore) (i : ℕ) (job : Job) (status : Status) → scans job.task ≡ false → (AnswerIsExplained h w i job status → scans job.task ≡ true) → ((status ≢ statuses.Eof) × NamesStatus h w i job status) ⊎ AnswerIsExplained h w i job status → ⊥
unscanned_by h w i job status off scanning (inl (other, (turn, on, named))) = let clash : true ≡ false = sym on ∙ off in cc
unscanned_by h w i job status off scanning (inr answered) = let clash : true ≡ false = sym (scanning answered) ∙ off in cc

pub unscanned : UnscannedIsNoLie
unscanned h w i job starved off (inl told) = unscanned_by h w i job statuses.NoDocs off (λ answered. answered.0) told
unscanned h w i job starved off (inr told) = unscanned_by h w i job statuses.IoError off (λ answered. answered.0) told

pub jammed : JammedIsNoLie
jammed h w i job starved nothing = by_answer h w i job statuses.Jammed nothing (λ answered. answered)

pub lost : LostIsNoLie
lost h w i job control image (same, inl (inl happened)) = control happened
lost h w i job control image (same, inl (inr happened)) = image happened
lost h w i job control image (same, inr starved) = let clash : false ≡ true = starved in cc

pub memory : MemoryIsNoLie
memory h w i job starved replies pieces (same, (n, inl happened)) = replies n happened
memory h w i job starved replies pieces (same, (n, inr happened)) = pieces n happened

pub cancelled : CancelledIsNoLie
cancelled h w i job starved none (same, among) = none among

-- ---- a job that is done

pub listed : ListIsNoLie
listed h w i job reports infos list always other done =
    let r = done.listed list in
    other (r.1 ∙ always r.0.n r.0.at)

not_empty : {A : Type 0} (x : A) (xs : List A) → [] ≡ x ∷ xs → ⊥
not_empty x xs e = let clash : [] ≡ x ∷ xs = e in cc

first_option : (setup : Setup) (k : DeviceKind) → [] ≡ map (told_option setup) (options_of k) → ⊥
first_option setup Flatbed e = not_empty _ _ e
first_option setup Feeder e = not_empty _ _ e
first_option setup Hand e = not_empty _ _ e
first_option setup ThreePass e = not_empty _ _ e

pub shown : ShownIsNoLie
shown h w i job reports show empty done =
    let s = done.shown show in
    first_option s.0.setup s.0.setup.scene.kind (sym empty ∙ s.1)

pub counted : CountIsNoLie
counted h w i job reports count finished batch other some kept = by_case (kept count reports batch refl)
  where
    by_case : (finished ≡ count) ⊎ ((0 < finished) × (finished < count) × HadNoPage h w i job finished) → ⊥
    by_case (inl all) = other all
    by_case (inr (more, fewer, (scanning, asked, behind, (d, has, rests, none)))) = some asked.n asked.at d has none

pub few : FewIsNoLie
few h w i job finished count tray enough other counts = other (counts.fed tray ∙ min-eq_left enough)

pub tray_page : TrayPageIsNoLie
tray_page h w i job tray k page file at none (scan, there) =
    let same : scan.held.page ≡ page = unsome scan.held.page page (sym there ∙ at) in
    none scan.settled scan.picture (ap (λ (p : PageView). meaning_of p scan.settled.setup.scene) (sym same) ∙ scan.meant) scan.denotes

-- the device that the settings of a job that is done are put on is there
pub nowhere : NowhereIsNoLie
nowhere h w i job reports list none done = let s = (done.answered list).0 in none s.device s.is_there s.named

pub hidden : HiddenIsNoLie
hidden h w i job reports list never done = let o = done.opened list in o.listed (never o.asked.n o.asked.at)

pub allowed : AllowedIsNoLie
allowed h w i job reports list guarded wrong done = by_case (done.opened list).permitted
  where
    by_case : (is_guarded h.users (backend_of job.device) ≡ false) ⊎ HasPassed h (done.opened list).asked.at.before i job true → ⊥
    by_case (inl unguarded) = let clash : true ≡ false = sym guarded ∙ unguarded in cc
    by_case (inr judged) = let clash : false ≡ true = sym (wrong judged.challenge) ∙ judged.is in cc

pub never_had : NeverHadIsNoLie
never_had h w i job reports list all done =
    let o = done.opened list in
    let a = all o.asked.n o.asked.at in
    let t = o.taken a.0.0 a.0.1 in
    a.1 t.0 t.1

silent_settings : (settings : List (List ℕ × List ℕ)) (placed : List Placement) (reports : List Report) (setting : List ℕ × List ℕ) (more : List (List ℕ × List ℕ)) → settings ≡ setting ∷ more → reports ≡ [] → AreSettingsReported settings placed reports → ⊥
silent_settings [] placed reports setting more e none h = let clash : [] ≡ setting ∷ more = e in cc
silent_settings (s ∷ settings) [] reports setting more e none h = h
silent_settings (s ∷ settings) (p ∷ placed) [] setting more e none h = h
silent_settings (s ∷ settings) (p ∷ placed) (r ∷ reports) setting more e none h = let clash : r ∷ reports ≡ [] = none in cc

pub silent : SilentIsNoLie
silent h w i job reports setting more list some none done = let a = done.answered list in silent_settings job.settings.items a.0.placed reports.settings setting more some none a.1

exact_first : (settings : List (List ℕ × List ℕ)) (placed : List Placement) (reports : List Report) (report : Report) (more : List Report) → reports ≡ report ∷ more → AreSettingsReported settings placed reports → report.given ≢ report.asked → has_bit report.info 1 ≡ false → ⊥
exact_first [] [] [] report more e h other off = let clash : [] ≡ report ∷ more = e in cc
exact_first [] [] (r ∷ reports) report more e h other off = h
exact_first [] (p ∷ placed) reports report more e h other off = h
exact_first (s ∷ settings) [] reports report more e h other off = h
exact_first (s ∷ settings) (p ∷ placed) [] report more e h other off = h
exact_first (s ∷ settings) (p ∷ placed) (r ∷ reports) report more e h other off =
    let same : r ≡ report = (let both : r ∷ reports ≡ report ∷ more = e in cc) in
    let on : has_bit report.info 1 ≡ true = (subst (IsSettingReported s p) same h.0).inexact.1 other in
    let clash : false ≡ true = sym off ∙ on in cc

pub rounded : RoundedIsNoLie
rounded h w i job reports report more list first other off done = let a = done.answered list in exact_first job.settings.items a.0.placed reports.settings report more first a.1 other off

-- ---- a file

pub filed : FileIsNoLie
filed h w i job starved reports bytes steady scan never kept =
    let s = kept.scanned reports bytes steady scan refl refl in
    never s.started.asked.n s.started.asked.at s.started.device s.settled s.picture s.started.has (ap (λ (p : PageView). meaning_of p s.settled.setup.scene) s.started.first ∙ s.meant) s.denotes

pub unchanged : UnchangedStandAside
unchanged h w i name first later held (FromFirst device there named among) = first device there named held among
unchanged h w i name first later held (AsItRan source happened is) = elim (later source happened.0) [
  | inl steady ↦ subst (λ (x : HeldPage). x.steady ≡ true) is steady
  | inr same ↦ absurd (happened.1.1 same)
]

pub aside : RefusedStandAside
aside h w i name first later = unchanged h w i name first (λ source at. elim (later source at) [
  | inl steady ↦ inl steady
  | inr refused ↦ inr (first_runs (λ (v : WorldCore). v ≡ at.before) (Load name source) [] at.before at.behind at.leads (λ u leads rest. rest ∙ refused_same name source at.before u refused leads))
])

pub paged : PageIsNoLie
paged h w i job starved finished k bytes steady never kept =
    let s = (kept.scanned bytes refl).2 steady in
    never s.started.asked.n s.started.asked.at s.started.finished s.started.device s.settled s.picture s.started.has (ap (λ (p : PageView). meaning_of p s.settled.setup.scene) s.started.first ∙ s.meant) s.denotes

pub whole : WholeIsNoLie
whole h w i job starved outcome bytes n undone is kept = let r = kept.whole bytes n refl is in undone r.0 r.2

pub missing : MissingIsNoLie
missing h w i job outcome kept = let clash : false ≡ true = kept.missing refl in cc

-- ---- a move

pub stuck : StuckIsNoLie
stuck kept = let clash : false ≡ true = kept.running refl in cc

none_move : (event : Event) → Some event ≡ None → ⊥
none_move event e = let clash : ◌≡◌ {A = Option Event} (Some event) None = e in cc

pub moved : MovedIsNoLie
moved reports event kept = none_move event (kept.over (λ same. (let clash : Done reports ≡ Running = same in cc)))

pub given_to_loss : LossIsNoLie
given_to_loss h w i job memory never good = by_case (good.loss refl)
  where
    by_case : (starved_at w i ≡ true) ⊎ HadUnsaidReply h w i job → ⊥
    by_case (inl out) = let clash : false ≡ true = sym memory ∙ out in cc
    by_case (inr (n, at, cut)) = never n at cut

-- ---- a run

pub idle : IdleIsNoLie
idle w i own can some (u, leads, step, same) =
    let less = step.lowers i own refl can some in
    let stays : left_at u i ≡ left_at w i = ap (λ (y : WorldCore). left_at y i) (sym same) in
    omega (arith, less, stays)

-- a cancel takes no memory
cancel_takes : (i : ℕ) (own : JobEvent) → Cancel i ≡ job_event_of i own → TakesMemory own → ⊥
cancel_takes i moves.Cancel is takes = takes
cancel_takes i moves.Connect is takes = let clash : Cancel i ≡ events.Connect i = is in cc
cancel_takes i (moves.ToDaemon n) is takes = let clash : Cancel i ≡ ToDaemon i n = is in cc
cancel_takes i (moves.ToClient n) is takes = let clash : Cancel i ≡ events.ToClient i n = is in cc
cancel_takes i moves.DataConnect is takes = takes
cancel_takes i moves.DataTurn is takes = let clash : Cancel i ≡ events.DataTurn i = is in cc
cancel_takes i (moves.DataToClient n) is takes = let clash : Cancel i ≡ events.DataToClient i n = is in cc
cancel_takes i moves.LoseControl is takes = takes
cancel_takes i moves.LoseImage is takes = takes

pub starved : StarvedIsNoLie
starved w v i enough out = (λ own never steps. by_idle own never steps, λ steps. by_cancel steps)
  where
    not_out : (u : WorldCore) → v ≡ u → u ≡ w → ⊥
    not_out u same stays = let clash : false ≡ true = sym enough ∙ (ap (λ (y : WorldCore). starved_at y i) (sym stays ∙ sym same) ∙ out) in cc

    by_idle : (own : JobEvent) → (CanAt w i own → ⊥) → EachStep IsWorldStep (job_event_of i own ∷ []) w v → ⊥
    by_idle own never (u, leads, step, same) = not_out u same (step.idle i own refl never)

    by_cancel : EachStep IsWorldStep (Cancel i ∷ []) w v → ⊥
    by_cancel (u, leads, step, same) =
        let found = step.starves i enough (ap (λ (y : WorldCore). starved_at y i) (sym same) ∙ out) in
        cancel_takes i found.0 found.1 found.3

pub laid : LaidIsNoLie
laid w name source taken changes (u, leads, step, same) = changes (ap (λ (y : WorldCore). y.daemon) (sym (same ∙ (step.loads name source refl).1 taken)))

pub torn_out : TornOutIsNoLie
torn_out w v name had gone (u, leads, step, same) = gone (ap (λ (y : WorldCore). listed_infos y.daemon.registry) (same ∙ (step.unplugs name refl).0 statuses.DeviceBusy had))

not_both : (o : Option Outcome) → o ≡ Some Running → o ≡ Some (Ended statuses.Cancelled whys.Cancelled) → ⊥
not_both o runs ended = let clash : ◌≡◌ {A = Option Outcome} (Some Running) (Some (Ended statuses.Cancelled whys.Cancelled)) = sym runs ∙ ended in cc

pub gone_on : GoneOnIsNoLie
gone_on w v i ran runs ends =
    let found = ends i [] [] refl in
    not_both (outcome_at v i) runs (found.3 (ap (λ (x : WorldCore). outcome_at x i) found.1 ∙ ran))

-- no next move is a cancel
abbrev AreOtherMoves : List JobEvent → Type 0
AreOtherMoves [] = Unit {0}
AreOtherMoves (m ∷ ms) = (moves.Cancel ≡ m → ⊥) × AreOtherMoves ms

no_cancel : (d : Core) (p : Endpoint) (ms : List JobEvent) → AreOtherMoves ms → IsFirstMove d p ms moves.Cancel → ⊥
no_cancel d p [] none (is, over, can) = let clash : moves.Cancel ≡ moves.LoseControl = is in cc
no_cancel d p (m ∷ ms) none (inl (can, is)) = none.0 is
no_cancel d p (m ∷ ms) none (inr (never, more)) = no_cancel d p ms none.1 more

other_moves : AreOtherMoves in_order
other_moves = (
  λ is. (let clash : moves.Cancel ≡ moves.Connect = is in cc),
  (
    λ is. (let clash : moves.Cancel ≡ moves.ToDaemon 4096 = is in cc),
    (
      λ is. (let clash : moves.Cancel ≡ moves.ToClient 4096 = is in cc),
      (
        λ is. (let clash : moves.Cancel ≡ moves.DataConnect = is in cc),
        (λ is. (let clash : moves.Cancel ≡ moves.DataToClient 4096 = is in cc), (λ is. (let clash : moves.Cancel ≡ moves.DataTurn = is in cc), tt)),
      ),
    ),
  ),
)

cancel_is : (j i : ℕ) (x : JobEvent) → Cancel i ≡ job_event_of j x → x ≡ moves.Cancel
cancel_is j i moves.Connect e = absurd (let clash : Cancel i ≡ events.Connect j = e in cc)
cancel_is j i (moves.ToDaemon n) e = absurd (let clash : Cancel i ≡ ToDaemon j n = e in cc)
cancel_is j i (moves.ToClient n) e = absurd (let clash : Cancel i ≡ events.ToClient j n = e in cc)
cancel_is j i moves.DataConnect e = absurd (let clash : Cancel i ≡ events.DataConnect j = e in cc)
cancel_is j i moves.DataTurn e = absurd (let clash : Cancel i ≡ events.DataTurn j = e in cc)
cancel_is j i (moves.DataToClient n) e = absurd (let clash : Cancel i ≡ events.DataToClient j n = e in cc)
cancel_is j i moves.LoseControl e = absurd (let clash : Cancel i ≡ events.LoseControl j = e in cc)
cancel_is j i moves.LoseImage e = absurd (let clash : Cancel i ≡ events.LoseImage j = e in cc)
cancel_is j i moves.Cancel e = refl

next_not : (d : Core) (j i : ℕ) (p : Endpoint) (o : Option JobEvent) (b : Bool) → is_running p.client.outcome ≡ b → Some (Cancel i) ≡ option_map (job_event_of j) o → (is_running p.client.outcome ≡ true → IsNext d p in_order o) → (is_running p.client.outcome ≡ false → o ≡ None) → ⊥
next_not d j i p None b at is runs over = let clash : Some (Cancel i) ≡ None = is in cc
next_not d j i p (Some x) true at is runs over =
    let same : Cancel i ≡ job_event_of j x = (let both : Some (Cancel i) ≡ Some (job_event_of j x) = is in cc) in
    no_cancel d p in_order other_moves (subst (IsFirstMove d p in_order) (cancel_is j i x same) (runs at))
next_not d j i p (Some x) false at is runs over = let clash : Some x ≡ None = over at in cc

pub cancel_next : (d : Core) (j i : ℕ) (o : Option Endpoint) → MovesNext d j o (Some (Cancel i)) → ⊥
cancel_next d j i None next = let clash : Some (Cancel i) ≡ None = next in cc
cancel_next d j i (Some p) next = next_not d j i p next.job_event (is_running p.client.outcome) refl next.event_is next.runs next.over

pub given_up : GivenUpIsNoLie
given_up h w v i out is = by_first (subst (λ (es : List Event). AreNextMoves es w v) is out.next)
  where
    by_first : AreNextMoves (Cancel i ∷ []) w v → ⊥
    by_first (u, leads, next, rest) = cancel_next w.daemon next.0 i (slice_get w.endpoints next.0) next.1

pub stopped : StoppedIsNoLie
stopped h w i job status why enough other never (inl (reports, same)) = let clash : Ended status why ≡ Done reports = same in cc
stopped h w i job status why enough other never (inr (inl (inl out))) = let clash : false ≡ true = sym enough ∙ out in cc
stopped h w i job status why enough other never (inr (inl (inr same))) = other (let both : Ended status why ≡ Ended statuses.NoMem whys.Memory = same in cc)
stopped h w i job status why enough other never (inr (inr broke)) = never broke

pub still_runs : StillRunsIsNoLie
still_runs h w v i job at runs out = out.over i job Running at runs refl

-- ---- a refusal

is_refused : (h : History) (events : List Event) (new : WorldCore) (i : ℕ) (job : Job) (status : Status) (why : Why) (outcome : Outcome) → CameRefused h new i job status why → outcome_at new i ≡ Some outcome → ComesTo (and_then h events) new i job outcome → ⊥
is_refused h events new i job status why outcome r there comes =
    let same : outcome ≡ Ended status why = unsome outcome (Ended status why) (sym there ∙ r.ended) in
    stopped (and_then h events) new i job status why r.enough r.other (r.whole events) (subst (ComesTo (and_then h events) new i job) same comes)

ended_not : (status : Status) (why : Why) → Ended status why ≢ Running
ended_not status why e = let clash : Ended status why ≡ Running = e in cc

pub refused : RefusedIsNoLie
refused events old new h i job status why led next at clear r clears =
    is_refused h events new i job status why (Ended status why) r r.ended (clears h led next i job at clear (Ended status why) r.ended (ended_not status why))

pub turned_away : TurnedAwayIsNoLie
turned_away old new h i job status why led at clear r clears = let c = clears h led i job at clear in is_refused h c.out.moves new i job status why c.outcome r c.is c.comes

pub both_busy : BothBusyIsNoLie
both_busy old new h i j a b c first second shares =
    let both = shares h c.led i j a b c.apart c.first_at c.second_at c.same c.first c.second in
    both.one (unsome both.first (Ended statuses.DeviceBusy whys.Answer) (sym both.first_is ∙ first)) (unsome both.second (Ended statuses.DeviceBusy whys.Answer) (sym both.second_is ∙ second))

pub neither : NeitherIsNoLie
neither old new h i j a b status why c other r shares =
    let both = shares h c.led i j a b c.apart c.first_at c.second_at c.same c.first c.second in
    elim both.comes [
      | inl comes ↦ is_refused h both.out.moves new i a status why both.first r both.first_is comes
      | inr busy ↦
          let same : ◌≡◌ {A = Outcome} (Ended status why) (Ended statuses.DeviceBusy whys.Answer) = unsome (Ended status why) both.first (sym r.ended ∙ both.first_is) ∙ busy in
          other (let both : Ended status why ≡ Ended statuses.DeviceBusy whys.Answer = same in cc)
    ]

-- ---- devices

pub shared : SharedIsNoLie
shared w i j name a b apart x y one = apart (one i j name a b x y)

pub given_away : GivenAwayIsNoLie
given_away w v i name d e x gone kept quiet (u, leads, step, same) = elim (step.holds_on i name d x) [
  | inl has ↦ gone has.0 (subst (λ (z : WorldCore). Has z i name has.0) (sym same) has.1)
  | inr (inl lost) ↦ kept lost
  | inr (inr asked) ↦ quiet asked.0 asked.1
]

pub unseeded : UnseededIsNoLie
unseeded h w led other = other (ap (λ (g : ChaCha). g.stream) led.seeded)

pub swapped : SwappedIsNoLie
swapped w v i name a b e x y was busy other (u, leads, step, same) = other (step.page_stays i name a b x (subst (λ (z : WorldCore). Has z i name b) same y) was busy)

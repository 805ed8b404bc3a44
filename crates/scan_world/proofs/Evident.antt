-- What each cause that a this_action notes comes from: a device is asked for by OPEN or AUTHORIZE, a page by START.
use Rattle.std.specs.List.{AllByRecursion}
use Rattle.std.proofs.Common.{◌≡◌, ◌⊎◌, ◌≢◌, ℕ, List, [], ◌∷◌, ◌++◌, true, false, Option, Some, inl, inr, refl, ap, ◌∙◌}
use Rattle.sane_fixed.specs.declared.status.Status.TheVariants.{Eof}
use Rattle.system_model.specs.AbstractMessages.{Challenge, AbstractRequest, Start}
use Rattle.device_api.specs.Kinds.{Page}
use Rattle.system_model.specs.Devices.{Make, picture_frames, read_status_of}
use Rattle.system_model.specs.AbstractDevices.{AbstractDevice, Resting}
use Rattle.system_model.specs.Daemon.{FailureCounts, Streaming}
use Rattle.system_model.specs.Causes.{Cause, GaveUp, LinkLost, LinkOutOfMemory, WasUnsaid, SourceFailed, NamesEof, Names, Unforced, WasUnlisted, HadNoPicture, WasHeld, Disallowed, TrayWasEmpty, TrayRanOut, ClientOutOfMemory}
use Rattle.system_model.specs.Grounds.{HasGround, HaveGrounds}
use Rattle.system_model.specs.SystemStates.{JobState}
use Rattle.system_model.specs.Actions
use Rattle.system_model.specs.Actions.{Action, answer_next, environment_of, is_some_begun, break_causes, loss_cause, job_after_action, served_by}
use Rattle.system_model.specs.Transitions.{IsActionEnabled, MayFail}
use Rattle.system_model.specs.ModelPromises.{CausesAreGrounded}
use Rattle.scan_world.proofs.moments.Requests.{IsOpening, MetAt, answers_met}

-- the causes that a this_action notes
abbrev pub causes_next : ℕ → Make → List ℕ → JobState → AbstractDevice → Challenge → Option FailureCounts → List AbstractRequest → List Cause
causes_next i k ds p dev challenge fault [] = []
causes_next i k ds p dev challenge fault (q ∷ rest) = (served_by i k ds p dev challenge fault q).causes

abbrev pub causes_by : ℕ → Make → List ℕ → JobState → AbstractDevice → Action → List Cause
causes_by i k ds p dev (Actions.Answers challenge fault) = causes_next i k ds p dev challenge fault p.todo
causes_by i k ds p dev (Actions.TurnsNamed status) = Names status ∷ []
causes_by i k ds p dev Actions.TurnsShort = NamesEof ∷ []
causes_by i k ds p dev (Actions.TurnsFault fault) = SourceFailed ∷ []
causes_by i k ds p dev (Actions.Loses memory) = loss_cause memory ∷ []
causes_by i k ds p dev (Actions.LosesImage memory) = loss_cause memory ∷ []
causes_by i k ds p dev (Actions.Breaks memory) = break_causes memory
causes_by i k ds p dev Actions.RunsOutOfMemory = ClientOutOfMemory ∷ []
causes_by i k ds p dev Actions.Stops = GaveUp ∷ []
causes_by i k ds p dev x = []

next_met : (i : ℕ) (k : Make) (ds : List ℕ) (p : JobState) (dev : AbstractDevice) (challenge : Challenge) (fault : Option FailureCounts) (qs : List AbstractRequest) → (answer_next i k ds p dev challenge fault qs).session.met ≡ causes_next i k ds p dev challenge fault qs ++ p.session.met
next_met i k ds p dev challenge fault [] = refl
next_met i k ds p dev challenge fault (q ∷ rest) = refl

pub met_by : (i : ℕ) (k : Make) (ds : List ℕ) (p : JobState) (dev : AbstractDevice) (x : Action) → (job_after_action i k ds p dev x).session.met ≡ causes_by i k ds p dev x ++ p.session.met
met_by i k ds p dev Actions.Connects = refl
met_by i k ds p dev (Actions.Answers challenge fault) = next_met i k ds p dev challenge fault p.todo
met_by i k ds p dev (Actions.Hears reply) = refl
met_by i k ds p dev Actions.Dials = refl
met_by i k ds p dev (Actions.Turns bytes) = refl
met_by i k ds p dev Actions.TurnsLast = refl
met_by i k ds p dev (Actions.TurnsNamed status) = refl
met_by i k ds p dev Actions.TurnsShort = refl
met_by i k ds p dev (Actions.TurnsFault fault) = refl
met_by i k ds p dev Actions.TurnsOff = refl
met_by i k ds p dev (Actions.Reads bytes) = refl
met_by i k ds p dev (Actions.Finishes status) = refl
met_by i k ds p dev (Actions.Loses memory) = refl
met_by i k ds p dev (Actions.LosesImage memory) = refl
met_by i k ds p dev (Actions.Breaks memory) = refl
met_by i k ds p dev Actions.RunsOutOfMemory = refl
met_by i k ds p dev Actions.Stops = refl

-- ---- what it comes from

abbrev pub IsAnswer : Action → Type 0
IsAnswer x = (challenge : Challenge) × (fault : Option FailureCounts) × (x ≡ Actions.Answers challenge fault)

-- one in which a source fails
abbrev pub IsFailedAnswer : Action → Type 0
IsFailedAnswer x = (challenge : Challenge) × (fault : FailureCounts) × (x ≡ Actions.Answers challenge (Some fault))

-- a START comes next, and the page that it would take has no frames by the options
abbrev pub StartsNothing : Make → JobState → AbstractDevice → Type 0
StartsNothing k p dev = (rest : List AbstractRequest) × (p.todo ≡ Start ∷ rest) × ((page : Page) × (later : List Page) × (dev.tray ≡ page ∷ later) × (picture_frames k dev.options page ≡ []))

-- a START comes next
abbrev pub Begins : JobState → Type 0
Begins p = (rest : List AbstractRequest) × (p.todo ≡ Start ∷ rest)

-- a request for a device comes next
abbrev pub Opens : JobState → Type 0
Opens p = (q : AbstractRequest) × (rest : List AbstractRequest) × (p.todo ≡ q ∷ rest) × IsOpening q

-- a START comes first of all, and there is no page for it
abbrev pub StartsEmpty : JobState → AbstractDevice → Type 0
StartsEmpty p dev = (rest : List AbstractRequest) × (p.todo ≡ Start ∷ rest) × (dev.tray ≡ []) × (is_some_begun p.session.started ≡ false)

-- a START comes next, of a device at rest, and there is no page for it
abbrev pub StartsDry : JobState → AbstractDevice → Type 0
StartsDry p dev = (rest : List AbstractRequest) × (p.todo ≡ Start ∷ rest) × (dev.phase ≡ Resting) × (dev.tray ≡ [])

abbrev pub Comes : ℕ → Make → JobState → AbstractDevice → Action → Cause → Type 0
Comes i k p dev x GaveUp = x ≡ Actions.Stops
Comes i k p dev x LinkLost = (x ≡ Actions.Loses false) ⊎ (x ≡ Actions.LosesImage false)
Comes i k p dev x LinkOutOfMemory = Unit {0}
Comes i k p dev x WasUnsaid = x ≡ Actions.Breaks false
Comes i k p dev x SourceFailed = (IsFailedAnswer x × Begins p) ⊎ ((fault : FailureCounts) × (x ≡ Actions.TurnsFault fault))
Comes i k p dev x NamesEof = (x ≡ Actions.TurnsShort) × (p.session.transfer ≡ Streaming) × (dev.holder ≡ Some i) × (read_status_of k dev.options ≡ Some Eof)
Comes i k p dev x (Names status) = (x ≡ Actions.TurnsNamed status) × (p.session.transfer ≡ Streaming) × (dev.holder ≡ Some i) × (read_status_of k dev.options ≡ Some status)
Comes i k p dev x Unforced = ⊥
Comes i k p dev x WasUnlisted = IsAnswer x × Opens p × (dev.listed ≡ false)
Comes i k p dev x HadNoPicture = IsAnswer x × StartsNothing k p dev × (dev.phase ≡ Resting)
Comes i k p dev x WasHeld = IsAnswer x × Opens p × ((j : ℕ) × (dev.holder ≡ Some j) × (j ≢ i))
Comes i k p dev x Disallowed = IsAnswer x × Opens p × ((c : Challenge) × (p.session.awaited ≡ Some c) × (p.session.job.allows c ≡ false))
Comes i k p dev x TrayWasEmpty = IsAnswer x × StartsEmpty p dev
Comes i k p dev x TrayRanOut = IsAnswer x × StartsDry p dev
Comes i k p dev x ClientOutOfMemory = x ≡ Actions.RunsOutOfMemory

grounds : (i : ℕ) (k : Make) (ds : List ℕ) (p : JobState) (dev : AbstractDevice) (challenge : Challenge) (fault : Option FailureCounts) (q : AbstractRequest) (rest : List AbstractRequest) → MayFail k fault → p.todo ≡ q ∷ rest → (c : Cause) → MetAt dev q c → HasGround i k dev p.session.awaited (environment_of p.session ds challenge fault) c → Comes i k p dev (Actions.Answers challenge fault) c
grounds i k ds p dev challenge fault q rest may todo GaveUp start g = absurd g
grounds i k ds p dev challenge fault q rest may todo LinkLost start g = absurd g
grounds i k ds p dev challenge fault q rest may todo LinkOutOfMemory start g = tt
grounds i k ds p dev challenge fault q rest may todo WasUnsaid start g = absurd g
grounds i k ds p dev challenge fault q rest may todo SourceFailed start g = inl ((challenge, g.0, ap (λ (o : Option FailureCounts). Actions.Answers challenge o) g.1), (rest, todo ∙ ap (λ (x : AbstractRequest). x ∷ rest) start))
grounds i k ds p dev challenge fault q rest may todo NamesEof start g = absurd g
grounds i k ds p dev challenge fault q rest may todo (Names status) start g = absurd g
grounds i k ds p dev challenge fault q rest may todo Unforced start g = absurd g
grounds i k ds p dev challenge fault q rest may todo WasUnlisted start g = ((challenge, fault, refl), (q, rest, todo, start), g)
grounds i k ds p dev challenge fault q rest may todo HadNoPicture start g = ((challenge, fault, refl), (rest, todo ∙ ap (λ (x : AbstractRequest). x ∷ rest) start, (g.0, g.1, g.3, g.4)), g.2)
grounds i k ds p dev challenge fault q rest may todo WasHeld start g = ((challenge, fault, refl), (q, rest, todo, start), g)
grounds i k ds p dev challenge fault q rest may todo Disallowed start g = ((challenge, fault, refl), (q, rest, todo, start), g)
grounds i k ds p dev challenge fault q rest may todo TrayWasEmpty start g = ((challenge, fault, refl), (rest, todo ∙ ap (λ (x : AbstractRequest). x ∷ rest) start, g.0, g.1))
grounds i k ds p dev challenge fault q rest may todo TrayRanOut start g = ((challenge, fault, refl), (rest, todo ∙ ap (λ (x : AbstractRequest). x ∷ rest) start.0, start.1, g.0))
grounds i k ds p dev challenge fault q rest may todo ClientOutOfMemory start g = absurd g

all_grounds : (i : ℕ) (k : Make) (ds : List ℕ) (p : JobState) (dev : AbstractDevice) (challenge : Challenge) (fault : Option FailureCounts) (q : AbstractRequest) (rest : List AbstractRequest) → MayFail k fault → p.todo ≡ q ∷ rest → (cs : List Cause) → AllByRecursion (MetAt dev q) cs → HaveGrounds i k dev p.session.awaited (environment_of p.session ds challenge fault) cs → AllByRecursion (Comes i k p dev (Actions.Answers challenge fault)) cs
all_grounds i k ds p dev challenge fault q rest may todo [] start g = tt
all_grounds i k ds p dev challenge fault q rest may todo (c ∷ cs) start g = (grounds i k ds p dev challenge fault q rest may todo c start.0 g.0, all_grounds i k ds p dev challenge fault q rest may todo cs start.1 g.1)

next_comes : CausesAreGrounded → (i : ℕ) (k : Make) (ds : List ℕ) (p : JobState) (dev : AbstractDevice) (challenge : Challenge) (fault : Option FailureCounts) (qs : List AbstractRequest) → MayFail k fault → p.todo ≡ qs → AllByRecursion (Comes i k p dev (Actions.Answers challenge fault)) (causes_next i k ds p dev challenge fault qs)
next_comes so i k ds p dev challenge fault [] may todo = tt
next_comes so i k ds p dev challenge fault (q ∷ rest) may todo =
    let x = environment_of p.session ds challenge fault in
    all_grounds i k ds p dev challenge fault q rest may todo (served_by i k ds p dev challenge fault q).causes (answers_met i k dev p.session.transfer p.session.awaited x q).0 (so i k dev p.session.transfer p.session.awaited x q)

pub all_come : CausesAreGrounded → (i : ℕ) (k : Make) (ds : List ℕ) (p : JobState) (dev : AbstractDevice) (x : Action) → IsActionEnabled i k p dev x → AllByRecursion (Comes i k p dev x) (causes_by i k ds p dev x)
all_come so i k ds p dev Actions.Connects may = tt
all_come so i k ds p dev (Actions.Answers challenge fault) may = next_comes so i k ds p dev challenge fault p.todo may.2 refl
all_come so i k ds p dev (Actions.Hears reply) may = tt
all_come so i k ds p dev Actions.Dials may = tt
all_come so i k ds p dev (Actions.Turns bytes) may = tt
all_come so i k ds p dev Actions.TurnsLast may = tt
all_come so i k ds p dev (Actions.TurnsNamed status) (f, rest, more, streams, is, a, b) = ((refl, streams.0, streams.1, is), tt)
all_come so i k ds p dev Actions.TurnsShort (f, rest, more, streams, is) = ((refl, streams.0, streams.1, is), tt)
all_come so i k ds p dev (Actions.TurnsFault fault) may = (inr (fault, refl), tt)
all_come so i k ds p dev Actions.TurnsOff may = tt
all_come so i k ds p dev (Actions.Reads bytes) may = tt
all_come so i k ds p dev (Actions.Finishes status) may = tt
all_come so i k ds p dev (Actions.Loses true) may = (tt, tt)
all_come so i k ds p dev (Actions.Loses false) may = (inl refl, tt)
all_come so i k ds p dev (Actions.LosesImage true) may = (tt, tt)
all_come so i k ds p dev (Actions.LosesImage false) may = (inr refl, tt)
all_come so i k ds p dev (Actions.Breaks true) may = (tt, tt)
all_come so i k ds p dev (Actions.Breaks false) may = (refl, tt)
all_come so i k ds p dev Actions.RunsOutOfMemory may = (refl, tt)
all_come so i k ds p dev Actions.Stops may = (refl, tt)

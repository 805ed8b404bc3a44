-- A first start that finds no page: its device is at rest and has none.
use Rattle.std.proofs.Common.{◌≡◌, ◌∙◌, ℕ, List, [], ◌∷◌, ◌++◌, true, false, Option, Some, inl, inr, refl, sym, ap}
use Rattle.page_picture.specs.Page.{PageView}
use Rattle.device_api.specs.State.{DeviceState, HeldPage, Phase as AnyPhase, first_page, is_at_rest, page_of}
use Rattle.device_api.specs.State.Phase.{AtRest as Rest, Between as Amid, Reading as Read}
use Rattle.scan_laws.specs.Passes.{IsInScan}
use Rattle.system_model.specs.AbstractMessages.{AbstractRequest, Start}
use Rattle.system_model.specs.AbstractDevices.{AbstractDevice, Begin, Between, Resting, is_resting}
use Rattle.system_model.specs.Actions.{is_some_begun}
use Rattle.system_model.specs.Client.{AbstractProgress, JobStage, Idle, Running, Done, Ended, Starting, ClientView, request_awaited}
use Rattle.system_model.specs.Devices.{Make}
use Rattle.system_model.specs.Invariants.{StageInvariant}
use Rattle.system_model.specs.SystemStates.{JobState, SessionView}
use Rattle.system_model.specs.Sync.{InSync, Ready}
use Rattle.system_model.specs.Transitions.{IsUnderWay}
use Rattle.daemon_refines.specs.ContextRefinement.{abstract_device, page_views, pages_to_come}
use Rattle.daemon_refines.proofs.Scanning.{rests}
use Rattle.scan_world.proofs.Evident.{StartsDry, StartsEmpty}
use Rattle.scan_world.proofs.NoPictures.{is_start}

no_views : (pages : List HeldPage) → page_views pages ≡ [] → pages ≡ []
no_views [] e = refl
no_views (p ∷ pages) e = absurd (let clash : p.page ∷ page_views pages ≡ [] = e in cc)

rests_so : (s : DeviceState) (phase : AnyPhase) → is_at_rest phase ≡ true → page_views (pages_to_come phase s) ≡ [] → s.pages ≡ []
rests_so s (Rest c) is none = no_views s.pages none
rests_so s (Amid ended) is none = absurd (let clash : false ≡ true = is in cc)
rests_so s (Read pass given) is none = absurd (let clash : false ≡ true = is in cc)

no_pages : (holder : Option ℕ) (dev : AbstractDevice) (s : DeviceState) → dev.phase ≡ Resting → dev.tray ≡ [] → dev ≡ abstract_device holder s → IsInScan s → s.pages ≡ []
no_pages holder dev s rest none is scans =
    let still : is_resting dev.phase ≡ true = ap is_resting rest in
    let at : is_at_rest s.phase ≡ true = sym (rests s scans) ∙ (sym (ap (λ (x : AbstractDevice). is_resting x.phase) is) ∙ still) in
    rests_so s s.phase at (sym (ap (λ (x : AbstractDevice). x.tray) is) ∙ none)

-- at the first start of a job its device is at rest
some_behind : (xs : List Begin) (b : Begin) → is_some_begun (xs ++ b ∷ []) ≡ true
some_behind [] b = refl
some_behind (x ∷ xs) b = refl

abbrev Rests : ℕ → AbstractDevice → Type 0
Rests i dev = (dev.holder ≡ Some i) × (dev.phase ≡ Resting)

synced_rests : (i : ℕ) (k : Make) (b : SessionView) (m : ClientView) (dev : AbstractDevice) (g : AbstractProgress) (rest : List AbstractRequest) → Start ∷ rest ≡ request_awaited g → is_some_begun b.started ≡ false → InSync i k b m dev g → Rests i dev
synced_rests i k b m dev Starting rest e first (inl h) = (h.held.mine, h.held.phase_is)
synced_rests i k b m dev Starting rest e first (inr h) =
    absurd (let clash : true ≡ false = sym (some_behind h.continues.earlier h.continues.begin) ∙ (sym (ap is_some_begun h.continues.started) ∙ first) in cc)
synced_rests i k b m dev g rest e first h = absurd (let clash : true ≡ false = ap is_start e in cc)

none_asked : {A : Type 0} (todo rest : List AbstractRequest) → todo ≡ [] → todo ≡ Start ∷ rest → A
none_asked todo rest none e = absurd (let clash : [] ≡ Start ∷ rest = sym none ∙ e in cc)

resting : (i : ℕ) (k : Make) (p : JobState) (dev : AbstractDevice) (stage : JobStage) (rest : List AbstractRequest) → IsUnderWay stage → StageInvariant i k p dev stage → p.todo ≡ Start ∷ rest → is_some_begun p.session.started ≡ false → Rests i dev
resting i k p dev Idle rest on h e first = none_asked p.todo rest h.1 e
resting i k p dev (Running g) rest on (inl h) e first = synced_rests i k p.session p.client dev g rest (sym e ∙ h.todo) first h.in_sync
resting i k p dev (Running g) rest on (inr (inl h)) e first = none_asked p.todo rest h.todo e
resting i k p dev (Running g) rest on (inr (inr h)) e first = none_asked p.todo rest h.todo e
resting i k p dev Done rest on h e first = absurd on
resting i k p dev (Ended status why) rest on h e first = absurd on

pub first_rests : (i : ℕ) (k : Make) (p : JobState) (dev : AbstractDevice) (stage : JobStage) → StageInvariant i k p dev stage → IsUnderWay stage → StartsEmpty p dev → dev.phase ≡ Resting
first_rests i k p dev stage inv on c = (resting i k p dev stage c.0 on inv c.1 c.3).1

pub empty_there : (i : ℕ) (k : Make) (p : JobState) (dev : AbstractDevice) (stage : JobStage) → StageInvariant i k p dev stage → IsUnderWay stage → StartsEmpty p dev → (dev.holder ≡ Some i) × ((d : DeviceState) → dev ≡ abstract_device (Some i) d → IsInScan d → d.pages ≡ [])
empty_there i k p dev stage inv on c =
    let r = resting i k p dev stage c.0 on inv c.1 c.3 in
    (r.0, λ d is scans. no_pages (Some i) dev d r.1 c.2 is scans)

-- ---- a device at rest has the page that a start would take

first_view : (pages : List HeldPage) (page : PageView) (later : List PageView) → page_views pages ≡ page ∷ later → (first_page pages).page ≡ page
first_view [] page later e = absurd (let clash : [] ≡ page ∷ later = e in cc)
first_view (p ∷ pages) page later e = (let both : p.page ∷ page_views pages ≡ page ∷ later = e in cc)

rests_on : (s : DeviceState) (phase : AnyPhase) (page : PageView) (later : List PageView) → is_at_rest phase ≡ true → page_views (pages_to_come phase s) ≡ page ∷ later → page_of s ≡ page
rests_on s (Rest c) page later is e = first_view s.pages page later e
rests_on s (Amid ended) page later is e = absurd (let clash : false ≡ true = is in cc)
rests_on s (Read pass given) page later is e = absurd (let clash : false ≡ true = is in cc)

pub rests_there : (holder : Option ℕ) (dev : AbstractDevice) (s : DeviceState) → dev.phase ≡ Resting → dev ≡ abstract_device holder s → IsInScan s → is_at_rest s.phase ≡ true
rests_there holder dev s rest is scans =
    let still : is_resting dev.phase ≡ true = ap is_resting rest in
    sym (rests s scans) ∙ (sym (ap (λ (x : AbstractDevice). is_resting x.phase) is) ∙ still)

pub page_there : (holder : Option ℕ) (dev : AbstractDevice) (s : DeviceState) (page : PageView) (later : List PageView) → dev.phase ≡ Resting → dev.tray ≡ page ∷ later → dev ≡ abstract_device holder s → IsInScan s → page_of s ≡ page
page_there holder dev s page later rest tray is scans =
    let at = rests_there holder dev s rest is scans in
    rests_on s s.phase page later at (sym (ap (λ (x : AbstractDevice). x.tray) is) ∙ tray)

-- ---- at a start of a page its device is at rest

synced_ready : (i : ℕ) (k : Make) (b : SessionView) (m : ClientView) (dev : AbstractDevice) (g : AbstractProgress) (rest : List AbstractRequest) → Start ∷ rest ≡ request_awaited g → dev.phase ≡ Resting → InSync i k b m dev g → Ready i k b m dev × (g ≡ Starting)
synced_ready i k b m dev Starting rest e rests (inl h) = (h, refl)
synced_ready i k b m dev Starting rest e rests (inr h) = absurd (let clash : Resting ≡ Between h.last (h.frame ∷ h.more) = sym rests ∙ h.held.phase_is in cc)
synced_ready i k b m dev g rest e rests h = absurd (let clash : true ≡ false = ap is_start e in cc)

-- it is ready to start a page
pub starts_ready : (i : ℕ) (k : Make) (p : JobState) (dev : AbstractDevice) (stage : JobStage) (rest : List AbstractRequest) → IsUnderWay stage → StageInvariant i k p dev stage → p.todo ≡ Start ∷ rest → dev.phase ≡ Resting → Ready i k p.session p.client dev × (stage ≡ Running Starting)
starts_ready i k p dev Idle rest on h e rests = none_asked p.todo rest h.1 e
starts_ready i k p dev (Running g) rest on (inl h) e rests = let r = synced_ready i k p.session p.client dev g rest (sym e ∙ h.todo) rests h.in_sync in (r.0, ap (λ (x : AbstractProgress). Running x) r.1)
starts_ready i k p dev (Running g) rest on (inr (inl h)) e rests = none_asked p.todo rest h.todo e
starts_ready i k p dev (Running g) rest on (inr (inr h)) e rests = none_asked p.todo rest h.todo e
starts_ready i k p dev Done rest on h e rests = absurd on
starts_ready i k p dev (Ended status why) rest on h e rests = absurd on

pub dry_there : (i : ℕ) (k : Make) (p : JobState) (dev : AbstractDevice) (stage : JobStage) → StageInvariant i k p dev stage → IsUnderWay stage → StartsDry p dev → (dev.holder ≡ Some i) × ((d : DeviceState) → dev ≡ abstract_device (Some i) d → IsInScan d → d.pages ≡ [])
dry_there i k p dev stage inv on c =
    let ready = starts_ready i k p dev stage c.0 on inv c.1 c.2 in
    (ready.0.held.mine, λ d is scans. no_pages (Some i) dev d c.2 c.3 is scans)

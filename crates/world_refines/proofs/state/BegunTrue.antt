-- A page that is started of a device whose sources give their rows is a page view: it is one of the device that the session holds.
use Rattle.std.specs.List.{AllByRecursion}
use Rattle.std.specs.Prelude.{option_map}
use Rattle.std.proofs.Common.{◌≡◌, ◌∙◌, ℕ, List, [], ◌∷◌, ◌++◌, Option, Some, None, Bool, true, false, cond, refl, sym, ap, subst}
use Rattle.page_picture.specs.Page.{IsPageView}
use Rattle.page_picture.specs.Shows.{Frame}
use Rattle.option_desc.specs.declared.value.Value.{Value}
use Rattle.device_api.specs.State.{DeviceState, HeldPage, Phase as AnyPhase, feeds}
use Rattle.device_api.specs.State.Phase.{AtRest as Rest, Between as Amid, Reading as Read}
use Rattle.dispatch.specs.declared.table.place.Lease.{Lease}
use Rattle.saned_requests.specs.Holding.{held_by}
use Rattle.saned_requests.specs.RequestAnswers.{RequestContext}
use Rattle.system_model.specs.AbstractMessages.{Authorize, Challenge, Get, Open, AbstractRequest, Set, Start, same_text}
use Rattle.device_api.specs.Kinds.{Page}
use Rattle.system_model.specs.Devices.{Make, AbstractAcceptedSet, picture_frames, accept_value, has_readable_value}
use Rattle.system_model.specs.AbstractDevices.{Begin, Between, AbstractDevice, ScanPhase, Reading, Resting, is_held_by, is_resting}
use Rattle.system_model.specs.Daemon.{Environment, TransferState, Ending, FailureCounts, Quiet, AnswerEffect, Streaming, Waiting, allow, answer, answer_awaited, answer_if, begin_page, begin_pass, get_reply, open_listed, put_reply, set_reply, start_at, start_or_fail, start_page, start_effect, hand_out_device, take_listed}
use Rattle.system_model.specs.Actions.{environment_of}
use Rattle.system_model.specs.SystemStates.{JobState}
use Rattle.daemon_refines.specs.ContextRefinement.{ContextRefines, HaveSources, pages_to_come, abstract_device, page_views, tray_of}
use Rattle.daemon_refines.proofs.Moved.{unsome}
use Rattle.daemon_refines.proofs.Sources.{left_sources}
use Rattle.world_refines.specs.WorldRefinement.{IsFaithful, IsFaithfulPage, session_by}
use Rattle.world_refines.proofs.state.Faithful.{left_true}
use Rattle.world_refines.proofs.state.ReadTrue.{held_true}
use Rattle.world_refines.proofs.requests.Served.{serving}
use Rattle.world_refines.proofs.state.StaysSteady.{IsTrueContext}

-- all that was started are page views
abbrev pub AreSheets : List Begin → Type 0
AreSheets begun = AllByRecursion (λ (b : Begin). IsPageView b.page) begun

take_begun : (i : ℕ) (k : Make) (dev : AbstractDevice) (c : TransferState) (h : Option ℕ) → (hand_out_device i k dev c h).begun ≡ []
take_begun i k dev c None = refl
take_begun i k dev c (Some j) = refl

take_listed_begun : (i : ℕ) (k : Make) (dev : AbstractDevice) (c : TransferState) (listed : Bool) → (take_listed i k dev c listed).begun ≡ []
take_listed_begun i k dev c false = refl
take_listed_begun i k dev c true = take_begun i k dev c dev.holder

open_begun : (i : ℕ) (k : Make) (dev : AbstractDevice) (c : TransferState) (challenge : Challenge) (listed guarded : Bool) → (open_listed i k dev c challenge listed guarded).begun ≡ []
open_begun i k dev c challenge false guarded = refl
open_begun i k dev c challenge true true = refl
open_begun i k dev c challenge true false = take_begun i k dev c dev.holder

allow_begun : (i : ℕ) (k : Make) (dev : AbstractDevice) (c : TransferState) (same allowed : Bool) → (allow i k dev c same allowed).begun ≡ []
allow_begun i k dev c true true = take_listed_begun i k dev c dev.listed
allow_begun i k dev c true false = refl
allow_begun i k dev c false allowed = refl

get_begun : (k : Make) (dev : AbstractDevice) (c : TransferState) (n : ℕ) (b : Bool) → (get_reply k dev c n b).begun ≡ []
get_begun k dev c n true = refl
get_begun k dev c n false = refl

put_begun : (dev : AbstractDevice) (c : TransferState) (o : Option AbstractAcceptedSet) → (put_reply dev c o).begun ≡ []
put_begun dev c None = refl
put_begun dev c (Some put) = refl

set_begun : (k : Make) (dev : AbstractDevice) (c : TransferState) (n : ℕ) (value : Value) (b : Bool) → (set_reply k dev c n value b).begun ≡ []
set_begun k dev c n value true = put_begun dev c (accept_value k dev.options n value)
set_begun k dev c n value false = refl

none_sheets : (v : AnswerEffect) → v.begun ≡ [] → AreSheets v.begun
none_sheets v e = subst AreSheets (sym e) tt

page_sheets : (k : Make) (dev : AbstractDevice) (c : TransferState) (page : Page) (frames : List Frame) → IsPageView page → AreSheets (begin_page k dev c page frames).begun
page_sheets k dev c page [] h = tt
page_sheets k dev c page (f ∷ more) h = (h, tt)

pass_sheets : (k : Make) (dev : AbstractDevice) (c : TransferState) (frames : List Frame) → AreSheets (begin_pass k dev c frames).begun
pass_sheets k dev c [] = tt
pass_sheets k dev c (f ∷ more) = tt

tray_sheets : (k : Make) (dev : AbstractDevice) (c : TransferState) (again : Bool) (tray : List Page) → AllByRecursion IsPageView tray → AreSheets (start_page k dev c again tray).begun
tray_sheets k dev c again [] h = tt
tray_sheets k dev c again (page ∷ tray) h = page_sheets k dev c page (picture_frames k dev.options page) h.0

at_sheets : (k : Make) (dev : AbstractDevice) (c : TransferState) (again : Bool) (phase : ScanPhase) → AllByRecursion IsPageView dev.tray → AreSheets (start_at k dev c again phase).begun
at_sheets k dev c again Resting h = tray_sheets k dev c again dev.tray h
at_sheets k dev c again (Between last more) h = pass_sheets k dev c more
at_sheets k dev c again (Reading frame rest more) h = tt

fail_sheets : (k : Make) (dev : AbstractDevice) (c : TransferState) (again : Bool) (fault : Option FailureCounts) → AllByRecursion IsPageView dev.tray → AreSheets (start_or_fail k dev c again fault).begun
fail_sheets k dev c again None h = at_sheets k dev c again dev.phase h
fail_sheets k dev c again (Some fault) h = tt

start_sheets : (k : Make) (dev : AbstractDevice) (x : Environment) (c : TransferState) → AllByRecursion IsPageView dev.tray → AreSheets (start_effect k dev x c).begun
start_sheets k dev x Quiet h = fail_sheets k dev Quiet x.again x.fault h
start_sheets k dev x Waiting h = tt
start_sheets k dev x Streaming h = tt
start_sheets k dev x Ending h = tt

if_sheets : (b : Bool) (i : ℕ) (k : Make) (dev : AbstractDevice) (c : TransferState) (x : Environment) (q : AbstractRequest) → (b ≡ true → AllByRecursion IsPageView dev.tray) → AreSheets (answer_if b i k dev c x q).begun
if_sheets true i k dev c x Open h = none_sheets (open_listed i k dev c x.challenge dev.listed x.guarded) (open_begun i k dev c x.challenge dev.listed x.guarded)
if_sheets true i k dev c x (Get o) h = none_sheets (get_reply k dev c o (has_readable_value k dev.options o)) (get_begun k dev c o (has_readable_value k dev.options o))
if_sheets true i k dev c x (Set o value) h = none_sheets (set_reply k dev c o value (is_resting dev.phase)) (set_begun k dev c o value (is_resting dev.phase))
if_sheets true i k dev c x Start h = start_sheets k dev x c (h refl)
if_sheets true i k dev c x q h = tt
if_sheets false i k dev c x Open h = none_sheets (open_listed i k dev c x.challenge dev.listed x.guarded) (open_begun i k dev c x.challenge dev.listed x.guarded)
if_sheets false i k dev c x q h = tt

awaited_sheets : (i : ℕ) (k : Make) (dev : AbstractDevice) (c : TransferState) (x : Environment) (sent : Challenge) (q : AbstractRequest) → AreSheets (answer_awaited i k dev c x sent q).begun
awaited_sheets i k dev c x sent (Authorize challenge) = none_sheets (allow i k dev c (same_text challenge sent) (x.allows sent)) (allow_begun i k dev c (same_text challenge sent) (x.allows sent))
awaited_sheets i k dev c x sent q = tt

answer_sheets : (i : ℕ) (k : Make) (dev : AbstractDevice) (c : TransferState) (awaited : Option Challenge) (x : Environment) (q : AbstractRequest) → (is_held_by i dev.holder ≡ true → AllByRecursion IsPageView dev.tray) → AreSheets (answer i k dev c awaited x q).begun
answer_sheets i k dev c None x q h = if_sheets (is_held_by i dev.holder) i k dev c x q h
answer_sheets i k dev c (Some sent) x q h = awaited_sheets i k dev c x sent q

-- ---- the pages of the device that is held

all_sheets : (k : Make) (pages : List HeldPage) → k.steady ≡ true → HaveSources k pages → AllByRecursion IsFaithfulPage pages → AllByRecursion IsPageView (page_views pages)
all_sheets k [] steady s h = tt
all_sheets k (held ∷ pages) steady s h = (h.0 (s.0.steady steady), all_sheets k pages steady s.1 h.1)

coming_sources : (k : Make) (phase : AnyPhase) (s : DeviceState) → HaveSources k s.pages → HaveSources k (pages_to_come phase s)
coming_sources k (Rest c) s h = h
coming_sources k (Amid n) s h = left_sources k (feeds s) s.pages h
coming_sources k (Read pass given) s h = left_sources k (feeds s) s.pages h

coming_true : (phase : AnyPhase) (s : DeviceState) → IsFaithful s → AllByRecursion IsFaithfulPage (pages_to_come phase s)
coming_true (Rest c) s h = h
coming_true (Amid n) s h = left_true (feeds s) s.pages h
coming_true (Read pass given) s h = left_true (feeds s) s.pages h

tray_true : (k : Make) (s : DeviceState) → k.steady ≡ true → HaveSources k s.pages → IsFaithful s → AllByRecursion IsPageView (tray_of s)
tray_true k s steady sources h = all_sheets k (pages_to_come s.phase s) steady (coming_sources k s.phase s sources) (coming_true s.phase s h)

pub lease_there : (wants : ℕ) (o : Option (Lease DeviceState)) → Some wants ≡ option_map (λ (l : Lease DeviceState). l.place) o → (l : Lease DeviceState) × (o ≡ Some l) × (l.place ≡ wants)
lease_there wants None e = absurd (let clash : Some wants ≡ None = e in cc)
lease_there wants (Some l) e = (l, refl, sym (unsome wants l.place e))

held_sheets : (i : ℕ) (make : ℕ → Make) (d : RequestContext) (device : ℕ → AbstractDevice) (p : JobState) → ContextRefines i make d device (session_by i device p) → IsTrueContext d → (make p.session.job.wants).steady ≡ true → is_held_by i (device p.session.job.wants).holder ≡ true → AllByRecursion IsPageView (device p.session.job.wants).tray
held_sheets i make d device p h t steady held =
    let wants = p.session.job.wants in
    let word : Some wants ≡ option_map (λ (l : Lease DeviceState). l.place) (held_by d.session.held 0) = sym (ap (λ (b : Bool). cond b (Some wants) None) held) ∙ h.words 0 in
    let l = lease_there wants (held_by d.session.held 0) word in
    let shown = h.devices.leases 0 l.0 l.1 in
    let dev : device wants ≡ abstract_device (Some i) l.0.device = ap device (sym l.2) ∙ shown.device in
    subst (λ (x : AbstractDevice). AllByRecursion IsPageView x.tray) (sym dev) (tray_true (make l.0.place) l.0.device (ap (λ (k : ℕ). (make k).steady) l.2 ∙ steady) shown.made.sources (held_true d.session.held 0 l.0 l.1 t.lent))

pub begun_sheets : (i : ℕ) (make : ℕ → Make) (listed : List ℕ) (d : RequestContext) (device : ℕ → AbstractDevice) (p : JobState) (r : AbstractRequest) (challenge : Challenge) (fault : Option FailureCounts) → ContextRefines i make d device (session_by i device p) → IsTrueContext d → (make p.session.job.wants).steady ≡ true → AreSheets (serving i make listed device p r challenge fault).begun
begun_sheets i make listed d device p r challenge fault h t steady =
    answer_sheets i (make p.session.job.wants) (device p.session.job.wants) p.session.transfer p.session.awaited (environment_of p.session listed challenge fault) r (λ held. held_sheets i make d device p h t steady held)

pub more_sheets : (begun more : List Begin) → AreSheets begun → AreSheets more → AreSheets (begun ++ more)
more_sheets [] more h m = m
more_sheets (b ∷ begun) more h m = (h.0, more_sheets begun more h.1 m)

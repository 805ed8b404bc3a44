-- AN ANSWER LOWERS THE NUMBER, by the request behind it and the reply.
use Rattle.std.proofs.Common.{◌≡◌, ◌∙◌, ◌≤◌, ◌+◌, ◌*◌, ℕ, suc, List, [], ◌∷◌, Bool, true, false, Option, Some, None, refl, sym, subst, ap, inl, inr, length, arith}
use Rattle.scan_job.specs.declared.outcome.Why.TheVariants.{Answer}
use Rattle.sane_fixed.specs.declared.status.Status.{Status}
use Rattle.sane_fixed.specs.declared.status.Status.TheVariants.{DeviceBusy, Inval, NoDocs, IoError, AccessDenied}
use Rattle.page_picture.specs.Shows.{Frame}
use Rattle.option_desc.specs.declared.value.Value.{Value}
use Rattle.option_desc.specs.declared.descriptor.Descriptor.{Descriptor}
use Rattle.sane_fixed.specs.declared.params.Params.{Params}
use Rattle.system_model.specs.AbstractMessages.{RequestedSetting, Challenge, AbstractRequest, Init, Open, Authorize, Describe, Get, Set, Parameters, Start, AbstractReply, Greeted, Opened, Challenged, Got, Gave, Listed, Described, Shaped, Begun, Refused}
use Rattle.device_api.specs.Kinds.{Page}
use Rattle.system_model.specs.Devices.{Make, OptionsInForce, AreOptionsAllowed, AbstractAcceptedSet, descriptors_in_force, readable_options, has_readable_value, readable_value, resolve_setting, accept_value, picture_frames, accepts}
use Rattle.system_model.specs.Client.{AbstractJob, AbstractTask, List_, Show, SetOnly, Scan, Batch, ClientView, Running, Ended, AbstractProgress, Greeting, Listing, Opening, Allowing, Describing, Putting, Getting, Starting, Shaping, Imaging, request_awaited, progress_after_init, stage_after_settings, asks_setting, stage_of_next_setting, stage_after_put, next_value}
use Rattle.system_model.specs.ClientReplies.{hear_at, begins_frame, start_refused}
use Rattle.system_model.specs.AbstractDevices.{AbstractDevice, DeviceInvariant, ScanPhase, Resting, is_resting}
use Rattle.system_model.specs.Daemon.{TransferState, Waiting, Environment, FailureCounts, AnswerEffect, reply_effect, abstract_params, answer, hand_out_device, take_listed, open_listed, allow, get_reply, put_reply, set_reply, begin_page, begin_pass, start_page, start_at, start_or_fail, start_effect}
use Rattle.system_model.specs.SystemStates.{SessionView}
use Rattle.system_model.specs.Sync.{InSync}
use Rattle.system_model.specs.Variant.{exchange_cost, page_cost, payload_total, frames_cost, tail_variant, start_variant, flow_variant, progress_variant, stage_variant}
use Rattle.system_model.proofs.Laws.{few, small}
use Rattle.system_model.proofs.Opened.{asked_is, free_answer, held_answer, same_same}
use Rattle.system_model.proofs.RightAnswers.{starting}

-- what a page costs
weigh_is : (fs : List Frame) → frames_cost fs ≡ 6 * payload_total fs + 10485770 * length fs
weigh_is [] = refl
weigh_is (f ∷ fs) = let h = weigh_is fs in omega arith

pub weighs : (k : Make) (o : OptionsInForce) (page : Page) → AreOptionsAllowed k o → frames_cost (picture_frames k o page) ≤ page_cost
weighs k o page y = let h = small k o page y in let a = h.0 in let b = h.1 in let w = weigh_is (picture_frames k o page) in omega arith

-- where v is told, and a client that waits at g hears it, so much is left
abbrev Lowers : ClientView → AbstractProgress → AbstractJob → ℕ → ℕ → Option Status → AnswerEffect → ℕ → Type 0
Lowers m g job n t e v before = (r : AbstractReply) → v.told ≡ r ∷ [] → 2 * exchange_cost + stage_variant (hear_at g job m r).stage n t v.device.phase v.transfer e ≤ before

as_lower : (m : ClientView) (g : AbstractProgress) (job : AbstractJob) (n t : ℕ) (e : Option Status) (v w : AnswerEffect) (before : ℕ) → v ≡ w → Lowers m g job n t e w before → Lowers m g job n t e v before
as_lower m g job n t e v w before p h = subst (λ (x : AnswerEffect). Lowers m g job n t e x before) (sym p) h

-- a reply that is told, as the one that is heard
told : (m : ClientView) (g : AbstractProgress) (job : AbstractJob) (n t : ℕ) (e : Option Status) (ph : ScanPhase) (c : TransferState) (r q : AbstractReply) (before : ℕ) → r ∷ [] ≡ q ∷ [] → 2 * exchange_cost + stage_variant (hear_at g job m r).stage n t ph c e ≤ before →
    2 * exchange_cost + stage_variant (hear_at g job m q).stage n t ph c e ≤ before
told m g job n t e ph c r q before p h = let z : r ≡ q = cc in subst (λ (x : AbstractReply). 2 * exchange_cost + stage_variant (hear_at g job m x).stage n t ph c e ≤ before) z h

-- STAGES
greeted_low : (task : AbstractTask) (n t : ℕ) (ph : ScanPhase) (c : TransferState) (e : Option Status) → 2 * exchange_cost + progress_variant (progress_after_init task) n t ph c e ≤ progress_variant Greeting n t ph c e
greeted_low List_ n t ph c e = omega arith
greeted_low Show n t ph c e = omega arith
greeted_low SetOnly n t ph c e = omega arith
greeted_low Scan n t ph c e = omega arith
greeted_low (Batch l) n t ph c e = omega arith

value_low : (ns : List ℕ) (n t : ℕ) (ph : ScanPhase) (c : TransferState) (e : Option Status) → stage_variant (next_value ns) n t ph c e ≤ 2 * exchange_cost * length ns
value_low [] n t ph c e = omega arith
value_low (x ∷ ns) n t ph c e = omega arith

settles_low : (task : AbstractTask) (known : List Descriptor) (n t : ℕ) (ph : ScanPhase) (c : TransferState) (e : Option Status) → length (readable_options known) ≤ 32 → ph ≡ Resting → stage_variant (stage_after_settings task known) n t ph c e ≤ tail_variant t
settles_low List_ known n t ph c e f p = omega arith
settles_low Show known n t ph c e f p = let h = value_low (readable_options known) n t ph c e in omega arith
settles_low SetOnly known n t ph c e f p = omega arith
settles_low Scan known n t ph c e f p = rw p (omega arith)
settles_low (Batch l) known n t ph c e f p = rw p (omega arith)

asks_low : (requested : RequestedSetting) (left : List RequestedSetting) (r : Option (ℕ × Value)) (n t : ℕ) (ph : ScanPhase) (c : TransferState) (e : Option Status) → stage_variant (asks_setting requested left r) n t ph c e ≤ 4 * exchange_cost * length (requested ∷ left) + tail_variant t
asks_low requested left None n t ph c e = omega arith
asks_low requested left (Some (o, v)) n t ph c e = omega arith

next_low : (task : AbstractTask) (known : List Descriptor) (left : List RequestedSetting) (n t : ℕ) (ph : ScanPhase) (c : TransferState) (e : Option Status) → length (readable_options known) ≤ 32 → ph ≡ Resting →
    stage_variant (stage_of_next_setting task known left) n t ph c e ≤ 4 * exchange_cost * length left + tail_variant t
next_low task known [] n t ph c e f p = let h = settles_low task known n t ph c e f p in omega arith
next_low task known (requested ∷ left) n t ph c e f p = asks_low requested left (resolve_setting known requested) n t ph c e

put_low : (task : AbstractTask) (known : List Descriptor) (left : List RequestedSetting) (x : Bool) (n t : ℕ) (ph : ScanPhase) (c : TransferState) (e : Option Status) → length (readable_options known) ≤ 32 → ph ≡ Resting →
    stage_variant (stage_after_put task known left x) n t ph c e ≤ 2 * exchange_cost + (4 * exchange_cost * length left + tail_variant t)
put_low task known left true n t ph c e f p = omega arith
put_low task known left false n t ph c e f p = let h = next_low task known left n t ph c e f p in omega arith

shaped_low : (params : Params) (x : Bool) (n t : ℕ) (ph : ScanPhase) → 2 * exchange_cost + stage_variant (begins_frame params x) n t ph Waiting None ≤ 2 * exchange_cost + (1 + flow_variant ph t)
shaped_low params true n t ph = omega arith
shaped_low params false n t ph = omega arith

refused_low : (status : Status) (fs : List Frame) (ps : List (List Frame)) (m : ClientView) (n t : ℕ) (ph : ScanPhase) (c : TransferState) (e : Option Status) → stage_variant (start_refused status fs ps m).stage n t ph c e ≡ 0
refused_low NoDocs [] (p ∷ ps) m n t ph c e = refl
refused_low status fs ps m n t ph c e = refl

-- OPEN AND AUTHORIZE
abbrev Opens : ClientView → AbstractProgress → AbstractJob → Type 0
Opens m g job = ((hear_at g job m Opened).stage ≡ Running (Describing job.settings)) × ((s : Status) → (hear_at g job m (Refused s)).stage ≡ Ended s Answer)

opened_low : (m : ClientView) (g : AbstractProgress) (job : AbstractJob) (n t : ℕ) (ph : ScanPhase) (c : TransferState) (e : Option Status) → Opens m g job → length job.settings ≡ n → 2 * exchange_cost + stage_variant (hear_at g job m Opened).stage n t ph c e ≤ progress_variant (Allowing []) n t ph c e
opened_low m g job n t ph c e o l = rw (o.0, l) (omega arith)

closed_low : (m : ClientView) (g : AbstractProgress) (job : AbstractJob) (s : Status) (n t : ℕ) (ph : ScanPhase) (c : TransferState) (e : Option Status) → Opens m g job → 2 * exchange_cost + stage_variant (hear_at g job m (Refused s)).stage n t ph c e ≤ progress_variant (Allowing []) n t ph c e
closed_low m g job s n t ph c e o = rw (o.1 s) (omega arith)

take_low : (i : ℕ) (k : Make) (m : ClientView) (dev : AbstractDevice) (c : TransferState) (g : AbstractProgress) (job : AbstractJob) (n t : ℕ) (e : Option Status) (h : Option ℕ) → Opens m g job → length job.settings ≡ n →
    Lowers m g job n t e (hand_out_device i k dev c h) (progress_variant (Allowing []) n t dev.phase c e)
take_low i k m dev c g job n t e None o l r z = told m g job n t e _ _ Opened r _ z (opened_low m g job n t _ _ e o l)
take_low i k m dev c g job n t e (Some j) o l r z = told m g job n t e _ _ (Refused DeviceBusy) r _ z (closed_low m g job DeviceBusy n t _ _ e o)

take_listed_low : (i : ℕ) (k : Make) (m : ClientView) (dev : AbstractDevice) (c : TransferState) (g : AbstractProgress) (job : AbstractJob) (n t : ℕ) (e : Option Status) (listed : Bool) → Opens m g job → length job.settings ≡ n →
    Lowers m g job n t e (take_listed i k dev c listed) (progress_variant (Allowing []) n t dev.phase c e)
take_listed_low i k m dev c g job n t e false o l r z = told m g job n t e _ _ (Refused Inval) r _ z (closed_low m g job Inval n t _ _ e o)
take_listed_low i k m dev c g job n t e true o l r z = take_low i k m dev c g job n t e dev.holder o l r z

open_low : (i : ℕ) (k : Make) (m : ClientView) (dev : AbstractDevice) (c : TransferState) (challenge : Challenge) (job : AbstractJob) (n t : ℕ) (e : Option Status) (listed guarded : Bool) → length job.settings ≡ n →
    Lowers m Opening job n t e (open_listed i k dev c challenge listed guarded) (progress_variant Opening n t dev.phase c e)
open_low i k m dev c challenge job n t e false guarded l r z = told m Opening job n t e _ _ (Refused Inval) r _ z (omega arith)
open_low i k m dev c challenge job n t e true true l r z = told m Opening job n t e _ _ (Challenged challenge) r _ z (omega arith)
open_low i k m dev c challenge job n t e true false l r z = let h = take_low i k m dev c Opening job n t e dev.holder (refl, λ s. refl) l r z in omega arith

allow_low : (i : ℕ) (k : Make) (m : ClientView) (dev : AbstractDevice) (c : TransferState) (challenge : Challenge) (job : AbstractJob) (n t : ℕ) (e : Option Status) (allowed : Bool) → length job.settings ≡ n →
    Lowers m (Allowing challenge) job n t e (allow i k dev c true allowed) (progress_variant (Allowing challenge) n t dev.phase c e)
allow_low i k m dev c challenge job n t e true l r z = take_listed_low i k m dev c (Allowing challenge) job n t e dev.listed (refl, λ s. refl) l r z
allow_low i k m dev c challenge job n t e false l r z = told m (Allowing challenge) job n t e _ _ (Refused AccessDenied) r _ z (omega arith)

-- A SETTING
reply_low : (k : Make) (o : OptionsInForce) (m : ClientView) (dev : AbstractDevice) (c : TransferState) (x : ℕ) (value : Value) (requested : RequestedSetting) (left : List RequestedSetting) (job : AbstractJob) (n t : ℕ) (e : Option Status) (put : Option AbstractAcceptedSet) →
    m.known ≡ descriptors_in_force k o → dev.phase ≡ Resting → Lowers m (Putting x value requested left) job n t e (put_reply dev c put) (progress_variant (Putting x value requested left) n t dev.phase c e)
reply_low k o m dev c x value requested left job n t e None d p r z = told m (Putting x value requested left) job n t e _ _ (Refused Inval) r _ z (omega arith)
reply_low k o m dev c x value requested left job n t e (Some put) d p r z =
    let f : length (readable_options m.known) ≤ 32 = subst (λ ds. length (readable_options ds) ≤ 32) (sym d) (few k o) in
    let h = put_low job.task m.known left put.info.reload_options n t dev.phase c e f p in
    told m (Putting x value requested left) job n t e _ _ (Gave put.given put.info) r _ z (omega arith)

-- START
page_low : (k : Make) (m : ClientView) (dev : AbstractDevice) (c : TransferState) (job : AbstractJob) (n t : ℕ) (page : Page) (fs : List Frame) → frames_cost fs ≤ page_cost → Lowers m Starting job n t None (begin_page k dev c page fs) (page_cost * suc t)
page_low k m dev c job n t page [] w r z = let q = refused_low Inval m.frames m.pages m n t dev.phase c None in told m Starting job n t None _ _ (Refused Inval) r _ z (omega arith)
page_low k m dev c job n t page (f ∷ more) w r z = told m Starting job n t None _ _ (Begun _) r _ z (omega arith)

tray_low : (k : Make) (m : ClientView) (dev : AbstractDevice) (c : TransferState) (again : Bool) (job : AbstractJob) (n t : ℕ) (tray : List Page) → AreOptionsAllowed k dev.options → Lowers m Starting job n t None (start_page k dev c again tray) (page_cost * suc t)
tray_low k m dev c again job n t [] y r z = let q = refused_low NoDocs m.frames m.pages m n t dev.phase c None in told m Starting job n t None _ _ (Refused NoDocs) r _ z (omega arith)
tray_low k m dev c again job n t (page ∷ tray) y r z = page_low k m dev c job n t page (picture_frames k dev.options page) (weighs k dev.options page y) r z

pass_low : (k : Make) (m : ClientView) (dev : AbstractDevice) (c : TransferState) (job : AbstractJob) (n t : ℕ) (f : Frame) (more : List Frame) → Lowers m Starting job n t None (begin_pass k dev c (f ∷ more)) (2 + (frames_cost (f ∷ more) + page_cost * t))
pass_low k m dev c job n t f more r z = told m Starting job n t None _ _ (Begun _) r _ z (omega arith)

fail_low : (m : ClientView) (ph : ScanPhase) (c : TransferState) (job : AbstractJob) (n t : ℕ) → 2 * exchange_cost + stage_variant (hear_at Starting job m (Refused IoError)).stage n t ph c None ≤ 2 * exchange_cost
fail_low m ph c job n t = let q = refused_low IoError m.frames m.pages m n t ph c None in omega arith

start_low : (i : ℕ) (k : Make) (b : SessionView) (m : ClientView) (dev : AbstractDevice) (again : Bool) (n t : ℕ) (fault : Option FailureCounts) → AreOptionsAllowed k dev.options → InSync i k b m dev Starting →
    Lowers m Starting b.job n t None (start_or_fail k dev b.transfer again fault) (start_variant dev.phase t)
start_low i k b m dev again n t (Some f) y (inl h) r z =
    rw h.held.phase_is (told m Starting b.job n t None Resting b.transfer (Refused IoError) r _ z (let q = fail_low m Resting b.transfer b.job n t in omega arith))
start_low i k b m dev again n t (Some f) y (inr h) r z =
    rw h.held.phase_is (told m Starting b.job n t None Resting b.transfer (Refused IoError) r _ z (let q = fail_low m Resting b.transfer b.job n t in omega arith))
start_low i k b m dev again n t None y (inl h) r z =
    subst (λ (x : ScanPhase). Lowers m Starting b.job n t None (start_at k dev b.transfer again x) (start_variant x t)) (sym h.held.phase_is) (tray_low k m dev b.transfer again b.job n t dev.tray y) r z
start_low i k b m dev again n t None y (inr h) r z =
    subst (λ (x : ScanPhase). Lowers m Starting b.job n t None (start_at k dev b.transfer again x) (start_variant x t)) (sym h.held.phase_is) (pass_low k m dev b.transfer b.job n t h.frame h.more) r z

ending_none : (i : ℕ) (k : Make) (b : SessionView) (m : ClientView) (dev : AbstractDevice) → InSync i k b m dev Starting → b.ending ≡ None
ending_none i k b m dev (inl h) = h.still.ending
ending_none i k b m dev (inr h) = h.still.ending

-- THE MAIN LEMMA
pub answers_low : (i : ℕ) (k : Make) (b : SessionView) (m : ClientView) (dev : AbstractDevice) (x : Environment) (g : AbstractProgress) (q : AbstractRequest) (t : ℕ) → DeviceInvariant k dev → request_awaited g ≡ q ∷ [] → InSync i k b m dev g →
    Lowers m g b.job (length b.job.settings) t b.ending (answer i k dev b.transfer b.awaited x q) (progress_variant g (length b.job.settings) t dev.phase b.transfer b.ending)
answers_low i k b m dev x Greeting q t y e h =
    let d = asked_is _ q e in
    rw d (as_lower m Greeting b.job _ t b.ending _ _ _ (free_answer i k dev b.transfer b.awaited x Init h.awaits h.free)
    (λ r z. told m Greeting b.job _ t b.ending dev.phase b.transfer Greeted r _ z (greeted_low b.job.task (length b.job.settings) t dev.phase b.transfer b.ending)))
answers_low i k b m dev x Listing q t y e h =
    let d = asked_is _ q e in
    rw d (as_lower m Listing b.job _ t b.ending _ _ _ (free_answer i k dev b.transfer b.awaited x _ h.0.awaits h.0.free)
    (λ r z. told m Listing b.job _ t b.ending dev.phase b.transfer (Listed x.listed) r _ z (omega arith)))
answers_low i k b m dev x Opening q t y e h =
    let d = asked_is _ q e in
    rw d (as_lower m Opening b.job _ t b.ending _ _ _ (free_answer i k dev b.transfer b.awaited x Open h.0.awaits h.0.free)
    (open_low i k m dev b.transfer x.challenge b.job _ t b.ending dev.listed x.guarded refl))
answers_low i k b m dev x (Allowing c) q t y e h =
    let d = asked_is _ q e in
    let r : answer i k dev b.transfer b.awaited x (Authorize c) ≡ allow i k dev b.transfer true (x.allows c) = rw (h.0.awaits, same_same c) refl in
    rw d (as_lower m (Allowing c) b.job _ t b.ending _ _ _ r (allow_low i k m dev b.transfer c b.job _ t b.ending (x.allows c) refl))
answers_low i k b m dev x (Describing left) q t y e h =
    let d = asked_is _ q e in
    rw d (as_lower m (Describing left) b.job _ t b.ending _ _ _ (held_answer i k dev b.transfer b.awaited x Describe h.1.still.awaited h.1.held.mine)
    (λ r z. told m (Describing left) b.job _ t b.ending dev.phase b.transfer (Described (descriptors_in_force k dev.options)) r _ z
    (let a = next_low b.job.task (descriptors_in_force k dev.options) left (length b.job.settings) t dev.phase b.transfer b.ending (few k dev.options) h.1.held.phase_is in omega arith)))
answers_low i k b m dev x (Putting o value requested left) q t y e h =
    let d = asked_is _ q e in
    let r : set_reply k dev b.transfer o value (is_resting dev.phase) ≡ put_reply dev b.transfer (accept_value k dev.options o value) = ap (λ (y : ScanPhase). set_reply k dev b.transfer o value (is_resting y)) h.settles.held.phase_is in
    rw d (as_lower m (Putting o value requested left) b.job _ t b.ending _ _ _ (held_answer i k dev b.transfer b.awaited x (Set o value) h.settles.still.awaited h.settles.held.mine ∙ r)
    (reply_low k h.options m dev b.transfer o value requested left b.job _ t b.ending (accept_value k dev.options o value) h.known h.settles.held.phase_is))
answers_low i k b m dev x (Getting o left) q t y e h =
    let d = asked_is _ q e in
    let r : get_reply k dev b.transfer o (has_readable_value k dev.options o) ≡ reply_effect (Got (readable_value k dev.options o)) dev b.transfer = rw (h.held.options_are, h.told.0) refl in
    rw d (as_lower m (Getting o left) b.job _ t b.ending _ _ _ (held_answer i k dev b.transfer b.awaited x (Get o) h.still.awaited h.held.mine ∙ r)
    (λ r z. told m (Getting o left) b.job _ t b.ending dev.phase b.transfer (Got (readable_value k dev.options o)) r _ z
    (let a = value_low left (length b.job.settings) t dev.phase b.transfer b.ending in omega arith)))
answers_low i k b m dev x Starting q t y e h =
    let d = asked_is _ q e in
    let c = starting i k b m dev h in
    let r : start_effect k dev x b.transfer ≡ start_or_fail k dev b.transfer x.again x.fault = rw c.0 refl in
    rw d (as_lower m Starting b.job _ t b.ending _ _ _ (held_answer i k dev b.transfer b.awaited x Start c.1 c.2 ∙ r)
    (subst (λ (z : Option Status). Lowers m Starting b.job (length b.job.settings) t z (start_or_fail k dev b.transfer x.again x.fault) (start_variant dev.phase t)) (sym (ending_none i k b m dev h))
    (start_low i k b m dev x.again (length b.job.settings) t x.fault y.allowed h)))
answers_low i k b m dev x Shaping q t y e h =
    let d = asked_is _ q e in
    rw d (as_lower m Shaping b.job _ t b.ending _ _ _ (held_answer i k dev b.transfer b.awaited x Parameters h.awaited h.held.mine)
    (λ r z. told m Shaping b.job _ t b.ending dev.phase b.transfer (Shaped (abstract_params k dev dev.phase)) r _ z
    (rw (h.ending, h.transfer) (shaped_low (abstract_params k dev dev.phase) (accepts m.frames (abstract_params k dev dev.phase) m.order) (length b.job.settings) t dev.phase))))
answers_low i k b m dev x (Imaging params heard) q t y e h = absurd (cc e)

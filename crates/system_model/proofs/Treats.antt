-- WHAT AN ACTION DOES TO ITS DEVICE: it leaves it alone, takes it, uses it, or gives it back.
use Rattle.std.proofs.Common.{◌≡◌, ◌∙◌, ◌≢◌, ◌⊎◌, ℕ, List, [], ◌∷◌, Bool, true, false, Option, Some, None, refl, sym, subst, ap, inl, inr, cond, eqb-true}
use Rattle.page_picture.specs.Shows.{Frame}
use Rattle.option_desc.specs.declared.value.Value.{Value}
use Rattle.system_model.specs.AbstractMessages.{same_text, Challenge, AbstractRequest, Open, Authorize, Get, Set, Start, Cancel, Close, Exit}
use Rattle.device_api.specs.Kinds.{Model, Page, IsStocked, after_start, is_feeder}
use Rattle.device_api.specs.State.{left_behind}
use Rattle.device_api.proofs.KindLaws.{start_leaves, start_stocked}
use Rattle.system_model.specs.Devices.{Make, OptionsInForce, AbstractAcceptedSet, AreOptionsAllowed, default_options, accept_value, has_readable_value, picture_frames}
use Rattle.system_model.specs.AbstractDevices.{AbstractDevice, ScanPhase, Resting, Between, Reading, DeviceInvariant, AreShaped, is_held_by, is_resting, put_down, put_back, device_let_go, read_on, ended_phase}
use Rattle.system_model.specs.Daemon.{TransferState, Quiet, Waiting, Streaming, Ending, Environment, FailureCounts, answer, answer_if, answer_awaited, serve, refuse, hand_out_device, take_listed, open_listed, allow, get_reply, put_reply, set_reply, begin_page, begin_pass, start_page, start_at, start_or_fail, start_effect}
use Rattle.system_model.specs.SystemStates.{JobState}
use Rattle.system_model.specs.Actions
use Rattle.system_model.specs.Actions.{Action, environment_of, device_after, device_after_answer, image_off}
use Rattle.system_model.specs.Transitions.{IsActionEnabled}
use Rattle.system_model.proofs.Laws.{defaults_allowed, put_allowed}
use Rattle.system_model.proofs.OtherJobs.{Same, same_self}

pub record Uses (i : ℕ) (k : Make) (dev new : AbstractDevice) : Type 0 where
  pub mine : dev.holder ≡ Some i
  pub options : OptionsInForce
  pub tray : List Page
  pub phase : ScanPhase
  pub is : new ≡ record dev { options = options; tray = tray; phase = phase }
  pub allowed : AreOptionsAllowed k dev.options → AreOptionsAllowed k options
  pub stocked : IsStocked k.model dev.tray → IsStocked k.model tray
  pub shaped : AreShaped dev.tray → AreShaped tray

abbrev pub Treats : ℕ → Make → AbstractDevice → AbstractDevice → Type 0
Treats i k dev new =
    (new ≡ dev) ⊎ (((dev.holder ≡ None) × (new ≡ record dev { holder = Some i; options = default_options k; phase = Resting })) ⊎ (Uses i k dev new ⊎ ((dev.holder ≡ Some i) × (new ≡ put_back dev))))

alone : (i : ℕ) (k : Make) (dev : AbstractDevice) → Treats i k dev dev
alone i k dev = inl refl

rested : (i : ℕ) (k : Make) (dev : AbstractDevice) → dev.holder ≡ Some i → Treats i k dev (put_down dev)
rested i k dev h = inr (inr (inl (record { mine = h; options = dev.options; tray = dev.tray; phase = Resting; is = refl; allowed = λ a. a; stocked = λ s. s; shaped = λ s. s })))

phased : (i : ℕ) (k : Make) (dev : AbstractDevice) (ph : ScanPhase) → dev.holder ≡ Some i → Treats i k dev (record dev { phase = ph })
phased i k dev ph h = inr (inr (inl (record { mine = h; options = dev.options; tray = dev.tray; phase = ph; is = refl; allowed = λ a. a; stocked = λ s. s; shaped = λ s. s })))

given_back : (i : ℕ) (k : Make) (dev : AbstractDevice) → dev.holder ≡ Some i → Treats i k dev (put_back dev)
given_back i k dev h = inr (inr (inr (h, refl)))

pub is_held : (i : ℕ) (h : Option ℕ) → is_held_by i h ≡ true → h ≡ Some i
is_held i None e = cc
is_held i (Some j) e = ap Some (eqb-true j i e)

if_held : (i : ℕ) (k : Make) (dev new : AbstractDevice) (x : Bool) → (x ≡ true → Treats i k dev new) → Treats i k dev (cond x new dev)
if_held i k dev new true h = h refl
if_held i k dev new false h = inl refl

lets_go : (i : ℕ) (k : Make) (dev : AbstractDevice) → Treats i k dev (device_let_go i dev)
lets_go i k dev = if_held i k dev (put_back dev) (is_held_by i dev.holder) (λ e. given_back i k dev (is_held i dev.holder e))

-- AN ANSWER
take_treats : (i : ℕ) (k : Make) (dev : AbstractDevice) (c : TransferState) (h : Option ℕ) → dev.holder ≡ h → Treats i k dev (hand_out_device i k dev c h).device
take_treats i k dev c None e = inr (inl (e, refl))
take_treats i k dev c (Some j) e = inl refl

take_listed_treats : (i : ℕ) (k : Make) (dev : AbstractDevice) (c : TransferState) (listed : Bool) → Treats i k dev (take_listed i k dev c listed).device
take_listed_treats i k dev c false = inl refl
take_listed_treats i k dev c true = take_treats i k dev c dev.holder refl

open_treats : (i : ℕ) (k : Make) (dev : AbstractDevice) (c : TransferState) (challenge : Challenge) (listed guarded : Bool) → Treats i k dev (open_listed i k dev c challenge listed guarded).device
open_treats i k dev c challenge false guarded = inl refl
open_treats i k dev c challenge true true = inl refl
open_treats i k dev c challenge true false = take_treats i k dev c dev.holder refl

allow_treats : (i : ℕ) (k : Make) (dev : AbstractDevice) (c : TransferState) (same allowed : Bool) → Treats i k dev (allow i k dev c same allowed).device
allow_treats i k dev c true true = take_listed_treats i k dev c dev.listed
allow_treats i k dev c true false = inl refl
allow_treats i k dev c false allowed = inl refl

get_treats : (i : ℕ) (k : Make) (dev : AbstractDevice) (c : TransferState) (n : ℕ) (x : Bool) → Treats i k dev (get_reply k dev c n x).device
get_treats i k dev c n true = inl refl
get_treats i k dev c n false = inl refl

put_treats : (i : ℕ) (k : Make) (dev : AbstractDevice) (c : TransferState) (n : ℕ) (v : Value) (o : Option AbstractAcceptedSet) → dev.holder ≡ Some i → accept_value k dev.options n v ≡ o → Treats i k dev (put_reply dev c o).device
put_treats i k dev c n v None h e = inl refl
put_treats i k dev c n v (Some o) h e = inr (inr (inl (record { mine = h; options = o.options; tray = dev.tray; phase = dev.phase; is = refl; allowed = λ a. put_allowed k dev.options n v o a e; stocked = λ s. s; shaped = λ s. s })))

set_treats : (i : ℕ) (k : Make) (dev : AbstractDevice) (c : TransferState) (n : ℕ) (v : Value) (x : Bool) → dev.holder ≡ Some i → Treats i k dev (set_reply k dev c n v x).device
set_treats i k dev c n v true h = put_treats i k dev c n v (accept_value k dev.options n v) h refl
set_treats i k dev c n v false h = inl refl

left_shaped : (feeder : Bool) (tray : List Page) → AreShaped tray → AreShaped (left_behind feeder tray)
left_shaped true [] s = s
left_shaped true (page ∷ tray) s = s.1
left_shaped false tray s = s

start_shaped : (m : Model) (tray : List Page) → AreShaped tray → AreShaped (after_start m tray)
start_shaped m tray s = subst AreShaped (sym (start_leaves m tray)) (left_shaped (is_feeder m) tray s)

page_treats : (i : ℕ) (k : Make) (dev : AbstractDevice) (c : TransferState) (page : Page) (fs : List Frame) → dev.holder ≡ Some i → Treats i k dev (begin_page k dev c page fs).device
page_treats i k dev c page [] h = inl refl
page_treats i k dev c page (f ∷ more) h =
    inr (inr (inl (record {
      mine = h;
      options = dev.options;
      tray = after_start k.model dev.tray;
      phase = Reading f f.payload more;
      is = refl;
      allowed = λ a. a;
      stocked = start_stocked k.model dev.tray;
      shaped = start_shaped k.model dev.tray;
    })))

pass_treats : (i : ℕ) (k : Make) (dev : AbstractDevice) (c : TransferState) (fs : List Frame) → dev.holder ≡ Some i → Treats i k dev (begin_pass k dev c fs).device
pass_treats i k dev c [] h = rested i k dev h
pass_treats i k dev c (f ∷ more) h = phased i k dev (Reading f f.payload more) h

tray_treats : (i : ℕ) (k : Make) (dev : AbstractDevice) (c : TransferState) (again : Bool) (tray : List Page) → dev.holder ≡ Some i → Treats i k dev (start_page k dev c again tray).device
tray_treats i k dev c again [] h = inl refl
tray_treats i k dev c again (page ∷ tray) h = page_treats i k dev c page (picture_frames k dev.options page) h

at_treats : (i : ℕ) (k : Make) (dev : AbstractDevice) (c : TransferState) (again : Bool) (ph : ScanPhase) → dev.holder ≡ Some i → Treats i k dev (start_at k dev c again ph).device
at_treats i k dev c again Resting h = tray_treats i k dev c again dev.tray h
at_treats i k dev c again (Between last more) h = pass_treats i k dev c more h
at_treats i k dev c again (Reading f rest more) h = inl refl

fail_treats : (i : ℕ) (k : Make) (dev : AbstractDevice) (c : TransferState) (again : Bool) (fault : Option FailureCounts) → dev.holder ≡ Some i → Treats i k dev (start_or_fail k dev c again fault).device
fail_treats i k dev c again None h = at_treats i k dev c again dev.phase h
fail_treats i k dev c again (Some f) h = rested i k dev h

start_treats : (i : ℕ) (k : Make) (dev : AbstractDevice) (x : Environment) (c : TransferState) → dev.holder ≡ Some i → Treats i k dev (start_effect k dev x c).device
start_treats i k dev x Quiet h = fail_treats i k dev Quiet x.again x.fault h
start_treats i k dev x Waiting h = inl refl
start_treats i k dev x Streaming h = inl refl
start_treats i k dev x Ending h = inl refl

serve_treats : (i : ℕ) (k : Make) (dev : AbstractDevice) (c : TransferState) (x : Environment) (q : AbstractRequest) → dev.holder ≡ Some i → Treats i k dev (serve i k dev c x q).device
serve_treats i k dev c x Open h = open_treats i k dev c x.challenge dev.listed x.guarded
serve_treats i k dev c x (Authorize challenge) h = given_back i k dev h
serve_treats i k dev c x (Get n) h = get_treats i k dev c n (has_readable_value k dev.options n)
serve_treats i k dev c x (Set n value) h = set_treats i k dev c n value (is_resting dev.phase) h
serve_treats i k dev c x Start h = start_treats i k dev x c h
serve_treats i k dev c x Cancel h = rested i k dev h
serve_treats i k dev c x Close h = given_back i k dev h
serve_treats i k dev c x Exit h = given_back i k dev h
serve_treats i k dev c x q h = inl refl

refuse_treats : (i : ℕ) (k : Make) (dev : AbstractDevice) (c : TransferState) (x : Environment) (q : AbstractRequest) → Treats i k dev (refuse i k dev c x q).device
refuse_treats i k dev c x Open = open_treats i k dev c x.challenge dev.listed x.guarded
refuse_treats i k dev c x q = inl refl

if_treats : (b : Bool) (i : ℕ) (k : Make) (dev : AbstractDevice) (c : TransferState) (x : Environment) (q : AbstractRequest) → (b ≡ true → dev.holder ≡ Some i) → Treats i k dev (answer_if b i k dev c x q).device
if_treats true i k dev c x q h = serve_treats i k dev c x q (h refl)
if_treats false i k dev c x q h = refuse_treats i k dev c x q

awaited_treats : (i : ℕ) (k : Make) (dev : AbstractDevice) (c : TransferState) (x : Environment) (sent : Challenge) (q : AbstractRequest) → Treats i k dev (answer_awaited i k dev c x sent q).device
awaited_treats i k dev c x sent (Authorize challenge) = allow_treats i k dev c (same_text challenge sent) (x.allows sent)
awaited_treats i k dev c x sent q = lets_go i k dev

pub answer_treats : (i : ℕ) (k : Make) (dev : AbstractDevice) (c : TransferState) (a : Option Challenge) (x : Environment) (q : AbstractRequest) → Treats i k dev (answer i k dev c a x q).device
answer_treats i k dev c None x q = if_treats (is_held_by i dev.holder) i k dev c x q (is_held i dev.holder)
answer_treats i k dev c (Some sent) x q = awaited_treats i k dev c x sent q

next_treats : (i : ℕ) (k : Make) (listed : List ℕ) (p : JobState) (dev : AbstractDevice) (challenge : Challenge) (fault : Option FailureCounts) (qs : List AbstractRequest) →
    Treats i k dev (device_after_answer i k listed p dev challenge fault qs)
next_treats i k listed p dev challenge fault [] = inl refl
next_treats i k listed p dev challenge fault (q ∷ rest) = answer_treats i k dev p.session.transfer p.session.awaited (environment_of p.session listed challenge fault) q

off_treats : (i : ℕ) (k : Make) (c : TransferState) (dev : AbstractDevice) → Treats i k dev (image_off i c dev)
off_treats i k Quiet dev = inl refl
off_treats i k Waiting dev = inl refl
off_treats i k Streaming dev = if_held i k dev (put_down dev) (is_held_by i dev.holder) (λ e. rested i k dev (is_held i dev.holder e))
off_treats i k Ending dev = inl refl

-- EACH ACTION
pub treats : (i : ℕ) (k : Make) (listed : List ℕ) (p : JobState) (dev : AbstractDevice) (x : Action) → IsActionEnabled i k p dev x → Treats i k dev (device_after i k listed p dev x)
treats i k listed p dev (Actions.Answers challenge fault) l = next_treats i k listed p dev challenge fault p.todo
treats i k listed p dev (Actions.Turns bytes) l = phased i k dev (read_on dev.phase bytes) l.3.reads.1
treats i k listed p dev Actions.TurnsLast l = phased i k dev (ended_phase dev.phase) l.2.1
treats i k listed p dev (Actions.TurnsNamed status) l = rested i k dev l.3.1
treats i k listed p dev Actions.TurnsShort l = phased i k dev (ended_phase dev.phase) l.3.1
treats i k listed p dev (Actions.TurnsFault fault) l = rested i k dev l.3.1
treats i k listed p dev (Actions.Loses memory) l = lets_go i k dev
treats i k listed p dev (Actions.LosesImage memory) l = off_treats i k p.session.transfer dev
treats i k listed p dev (Actions.Breaks memory) l = lets_go i k dev
treats i k listed p dev x l = inl refl

-- WHAT FOLLOWS
same_used : (i l : ℕ) (dev new : AbstractDevice) → l ≢ i → dev.holder ≡ Some i → (new.holder ≡ Some i) ⊎ (new.holder ≡ None) → Same l dev new
same_used i l dev new n h (inl e) = record { held = λ x. absurd (n (cc (x, h))); free = λ x y. n (cc (e, y)) }
same_used i l dev new n h (inr e) = record { held = λ x. absurd (n (cc (x, h))); free = λ x y. cc (e, y) }

-- others see their devices as they were
pub same_treated : (i l : ℕ) (k : Make) (dev new : AbstractDevice) → l ≢ i → Treats i k dev new → Same l dev new
same_treated i l k dev new n (inl e) = subst (λ (d : AbstractDevice). Same l dev d) (sym e) (same_self l dev)
same_treated i l k dev new n (inr (inl (h, e))) =
    subst (λ (d : AbstractDevice). Same l dev d) (sym e) (record { held = λ x. absurd (cc (x, h)); free = λ x y. n (cc y) })
same_treated i l k dev new n (inr (inr (inl u))) =
    same_used i l dev new n u.mine (inl (ap (λ (d : AbstractDevice). d.holder) u.is ∙ u.mine))
same_treated i l k dev new n (inr (inr (inr (h, e)))) = same_used i l dev new n h (inr (ap (λ (d : AbstractDevice). d.holder) e))

-- a fit device stays fit
pub fit_treated : (i : ℕ) (k : Make) (dev new : AbstractDevice) → Treats i k dev new → DeviceInvariant k dev → DeviceInvariant k new
fit_treated i k dev new (inl e) f = subst (λ (d : AbstractDevice). DeviceInvariant k d) (sym e) f
fit_treated i k dev new (inr (inl (h, e))) f = subst (λ (d : AbstractDevice). DeviceInvariant k d) (sym e) (record { laid_down = λ x. cc; allowed = defaults_allowed k; stocked = f.stocked; shaped = f.shaped })
fit_treated i k dev new (inr (inr (inl u))) f =
    subst (λ (d : AbstractDevice). DeviceInvariant k d) (sym u.is) (record { laid_down = λ x. absurd (cc (x, u.mine)); allowed = u.allowed f.allowed; stocked = u.stocked f.stocked; shaped = u.shaped f.shaped })
fit_treated i k dev new (inr (inr (inr (h, e)))) f = subst (λ (d : AbstractDevice). DeviceInvariant k d) (sym e) (record { laid_down = λ x. refl; allowed = f.allowed; stocked = f.stocked; shaped = f.shaped })

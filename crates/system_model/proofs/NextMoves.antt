-- THE NEXT MOVE OF A JOB.
use Rattle.std.proofs.Common.{◌≡◌, ◌∙◌, ◌≢◌, ◌≤◌, ℕ, List, [], ◌∷◌, ◌++◌, false, Option, Some, None, refl, sym, ap, inl, inr, arith}
use Rattle.std.proofs.lemmas.List.{append-nil}
use Rattle.sane_fixed.specs.declared.status.Status.{Status}
use Rattle.sane_fixed.specs.declared.status.Status.TheVariants.{Good, Unsupported, Cancelled, DeviceBusy, Inval, Eof}
use Rattle.sane_fixed.specs.declared.status.Status.TheVariants.{Jammed, NoDocs, CoverOpen, IoError, NoMem}
use Rattle.sane_fixed.specs.declared.status.Status.TheVariants.{AccessDenied}
use Rattle.page_picture.specs.Shows.{Frame}
use Rattle.sane_fixed.specs.declared.params.Params.{Params}
use Rattle.system_model.specs.AbstractMessages.{AbstractRequest}
use Rattle.system_model.specs.Devices.{Make, OptionsInForce, read_status_of}
use Rattle.system_model.specs.Client.{JobStage, Idle, Running, Done, Ended, AbstractProgress, Imaging, request_awaited}
use Rattle.system_model.specs.AbstractDevices.{AbstractDevice, DeviceInvariant, Reading}
use Rattle.system_model.specs.Daemon.{Waiting}
use Rattle.system_model.specs.SystemStates.{wanted_place, JobState, make_for, device_for}
use Rattle.system_model.specs.Actions
use Rattle.system_model.specs.Actions.{Action}
use Rattle.system_model.specs.Transitions.{IsUnderWay, IsActionEnabled, ReadsFrameOf}
use Rattle.system_model.specs.Sync.{DataUnderWay}
use Rattle.system_model.specs.Invariants.{RequestInFlight, SessionIsDead, StageInvariant}
use Rattle.system_model.specs.Moves.{IsMove, turn_of}
use Rattle.system_model.specs.ModelPromises.{NoDeadlock}
use Rattle.system_model.proofs.Laws.{never_good}

abbrev IsFirst : ℕ → Make → JobState → AbstractDevice → ℕ → Type 0
IsFirst i k p dev n = (y : Action) → IsMove p y → IsActionEnabled i k p dev y → n ≤ turn_of y

abbrev CanMove : ℕ → Make → JobState → AbstractDevice → Type 0
CanMove i k p dev = (x : Action) × IsMove p x × IsActionEnabled i k p dev x × IsFirst i k p dev (turn_of x)

none : (xs ys : List ℕ) → xs ≢ [] → [] ≡ xs ++ ys → ⊥
none [] ys n e = n refl
none (x ∷ xs) ys n e = cc

-- WHAT CAN'T COME
first_0 : (i : ℕ) (k : Make) (p : JobState) (dev : AbstractDevice) → IsFirst i k p dev 0
first_0 i k p dev y m l = omega arith

first_1 : (i : ℕ) (k : Make) (p : JobState) (dev : AbstractDevice) (g : AbstractProgress) → p.client.stage ≡ Running g → IsFirst i k p dev 1
first_1 i k p dev g e Actions.Connects m l = absurd (cc (e, l))
first_1 i k p dev g e y m l = omega arith

first_2 : (i : ℕ) (k : Make) (p : JobState) (dev : AbstractDevice) (g : AbstractProgress) → p.client.stage ≡ Running g → p.todo ≡ [] → IsFirst i k p dev 2
first_2 i k p dev g e t Actions.Connects m l = absurd (cc (e, l))
first_2 i k p dev g e t (Actions.Answers c f) m l = absurd (l.1 t)
first_2 i k p dev g e t y m l = omega arith

first_3 : (i : ℕ) (k : Make) (p : JobState) (dev : AbstractDevice) (g : AbstractProgress) → p.client.stage ≡ Running g → p.todo ≡ [] → p.due ≡ [] → IsFirst i k p dev 3
first_3 i k p dev g e t d Actions.Connects m l = absurd (cc (e, l))
first_3 i k p dev g e t d (Actions.Answers c f) m l = absurd (l.1 t)
first_3 i k p dev g e t d (Actions.Hears r) m l = let x = l.1.1 in absurd (cc (d, x))
first_3 i k p dev g e t d y m l = omega arith

first_4 : (i : ℕ) (k : Make) (p : JobState) (dev : AbstractDevice) (g : AbstractProgress) → p.client.stage ≡ Running g → p.todo ≡ [] → p.due ≡ [] → p.session.transfer ≢ Waiting → IsFirst i k p dev 4
first_4 i k p dev g e t d c Actions.Connects m l = absurd (cc (e, l))
first_4 i k p dev g e t d c (Actions.Answers x f) m l = absurd (l.1 t)
first_4 i k p dev g e t d c (Actions.Hears r) m l = let x = l.1.1 in absurd (cc (d, x))
first_4 i k p dev g e t d c Actions.Dials m l = absurd (c l.1)
first_4 i k p dev g e t d c y m l = omega arith

first_5 : (i : ℕ) (k : Make) (p : JobState) (dev : AbstractDevice) (g : AbstractProgress) → p.client.stage ≡ Running g → p.todo ≡ [] → p.due ≡ [] → p.session.transfer ≢ Waiting → p.session.flight ≡ [] → p.session.ending ≡ None →
    IsFirst i k p dev 5
first_5 i k p dev g e t d c f n Actions.Connects m l = absurd (cc (e, l))
first_5 i k p dev g e t d c f n (Actions.Answers x y) m l = absurd (l.1 t)
first_5 i k p dev g e t d c f n (Actions.Hears r) m l = let x = l.1.1 in absurd (cc (d, x))
first_5 i k p dev g e t d c f n Actions.Dials m l = absurd (c l.1)
first_5 i k p dev g e t d c f n (Actions.Reads bytes) m l = absurd (none bytes l.1.0 l.2 (sym f ∙ l.1.1))
first_5 i k p dev g e t d c f n (Actions.Finishes status) m l = let x = l.2 in absurd (cc (n, x))
first_5 i k p dev g e t d c f n y m l = omega arith

no_image : (g : AbstractProgress) (params : Params) (heard : List ℕ) → request_awaited g ≢ [] → Running g ≡ Running (Imaging params heard) → ⊥
no_image g params heard w e = let x : g ≡ Imaging params heard = cc in w (ap request_awaited x)

first_6 : (i : ℕ) (k : Make) (p : JobState) (dev : AbstractDevice) (g : AbstractProgress) → p.client.stage ≡ Running g → SessionIsDead p g → IsFirst i k p dev 6
first_6 i k p dev g e h Actions.Connects m l = absurd (cc (e, l))
first_6 i k p dev g e h (Actions.Answers x y) m l = absurd (l.1 h.todo)
first_6 i k p dev g e h (Actions.Hears r) m l = let x = l.1.1 in let y = h.due in absurd (cc (x, y))
first_6 i k p dev g e h Actions.Dials m l = absurd (no_image g l.0.0 l.0.1 h.waits (sym e ∙ l.0.2))
first_6 i k p dev g e h (Actions.Reads bytes) m l = absurd (no_image g l.0.0 l.0.1 h.waits (sym e ∙ l.0.2))
first_6 i k p dev g e h (Actions.Finishes status) m l = absurd (no_image g l.0.0 l.0.1 h.waits (sym e ∙ l.0.2))
first_6 i k p dev g e h (Actions.Turns bytes) m l = let x = h.transfer in let y = l.3.reads.0 in absurd (cc (x, y))
first_6 i k p dev g e h Actions.TurnsLast m l = let x = h.transfer in let y = l.2.0 in absurd (cc (x, y))
first_6 i k p dev g e h (Actions.TurnsNamed status) m l = let x = h.transfer in let y = l.3.0 in absurd (cc (x, y))
first_6 i k p dev g e h Actions.TurnsShort m l = let x = h.transfer in let y = l.3.0 in absurd (cc (x, y))
first_6 i k p dev g e h Actions.TurnsOff m l = let x = h.transfer in absurd (cc (x, l))
first_6 i k p dev g e h (Actions.TurnsFault fault) m l = absurd m
first_6 i k p dev g e h y m l = omega arith

-- AN IMAGE
takes : (i : ℕ) (k : Make) (p : JobState) (dev : AbstractDevice) (params : Params) (heard : List ℕ) (status : Status) (flight : List ℕ) → RequestInFlight i k p dev (Imaging params heard) → p.client.stage ≡ Running (Imaging params heard) →
    p.session.transfer ≢ Waiting → p.session.flight ≡ flight → p.session.ending ≡ Some status → CanMove i k p dev
takes i k p dev params heard status [] a e c f n = (Actions.Finishes status, tt, ((params, heard, e), f, n), first_4 i k p dev (Imaging params heard) e a.todo a.due c)
takes i k p dev params heard status (b ∷ bytes) a e c f n =
    (Actions.Reads (b ∷ bytes), tt, ((params, heard, e), ([], f ∙ sym (append-nil _)), λ z. cc), first_4 i k p dev (Imaging params heard) e a.todo a.due c)

turns_named : (i : ℕ) (k : Make) (p : JobState) (dev : AbstractDevice) (f : Frame) (rest : List ℕ) (more : List Frame) (status : Status) → ReadsFrameOf i p dev f rest more → read_status_of k dev.options ≡ Some status → status ≢ Good →
    IsFirst i k p dev 5 → CanMove i k p dev
turns_named i k p dev f rest more Eof h r n o = (Actions.TurnsShort, tt, (f, rest, more, h, r), o)
turns_named i k p dev f rest more Good h r n o = absurd (n refl)
turns_named i k p dev f rest more Unsupported h r n o = (Actions.TurnsNamed Unsupported, tt, (f, rest, more, h, r, λ z. cc, n), o)
turns_named i k p dev f rest more Cancelled h r n o = (Actions.TurnsNamed Cancelled, tt, (f, rest, more, h, r, λ z. cc, n), o)
turns_named i k p dev f rest more DeviceBusy h r n o = (Actions.TurnsNamed DeviceBusy, tt, (f, rest, more, h, r, λ z. cc, n), o)
turns_named i k p dev f rest more Inval h r n o = (Actions.TurnsNamed Inval, tt, (f, rest, more, h, r, λ z. cc, n), o)
turns_named i k p dev f rest more Jammed h r n o = (Actions.TurnsNamed Jammed, tt, (f, rest, more, h, r, λ z. cc, n), o)
turns_named i k p dev f rest more NoDocs h r n o = (Actions.TurnsNamed NoDocs, tt, (f, rest, more, h, r, λ z. cc, n), o)
turns_named i k p dev f rest more CoverOpen h r n o = (Actions.TurnsNamed CoverOpen, tt, (f, rest, more, h, r, λ z. cc, n), o)
turns_named i k p dev f rest more IoError h r n o = (Actions.TurnsNamed IoError, tt, (f, rest, more, h, r, λ z. cc, n), o)
turns_named i k p dev f rest more NoMem h r n o = (Actions.TurnsNamed NoMem, tt, (f, rest, more, h, r, λ z. cc, n), o)
turns_named i k p dev f rest more AccessDenied h r n o = (Actions.TurnsNamed AccessDenied, tt, (f, rest, more, h, r, λ z. cc, n), o)

turns : (i : ℕ) (k : Make) (p : JobState) (dev : AbstractDevice) (f : Frame) (rest : List ℕ) (more : List Frame) (r : Option Status) → ReadsFrameOf i p dev f rest more → read_status_of k dev.options ≡ r → IsFirst i k p dev 5 → DeviceInvariant k dev → CanMove i k p dev
turns i k p dev f [] more None h r o y = (Actions.TurnsLast, tt, (f, more, h, r), o)
turns i k p dev f (b ∷ rest) more None h r o y =
    (Actions.Turns (b ∷ rest), tt, (f, [], more, record { meant = b ∷ rest; as_many = refl; same = λ steady. refl; reads = (h.0, h.1, h.2 ∙ ap (λ (x : List ℕ). Reading f x more) (sym (append-nil (b ∷ rest)))) }, r, λ z. cc), o)
turns i k p dev f rest more (Some status) h r o y = turns_named i k p dev f rest more status h r (λ z. never_good _ _ y.allowed (r ∙ ap Some z)) o

-- where the frame streams, what is on the way comes first
streams : (i : ℕ) (k : Make) (p : JobState) (dev : AbstractDevice) (params : Params) (heard : List ℕ) (f : Frame) (more : List Frame) (rest flight : List ℕ) → RequestInFlight i k p dev (Imaging params heard) → p.client.stage ≡ Running (Imaging params heard) →
    ReadsFrameOf i p dev f rest more → p.session.flight ≡ flight → p.session.ending ≡ None → DeviceInvariant k dev → CanMove i k p dev
streams i k p dev params heard f more rest [] a e h l n y =
    turns i k p dev f rest more (read_status_of k dev.options) h refl
    (first_5 i k p dev (Imaging params heard) e a.todo a.due (λ z. let c = h.0 in cc (c, z)) l n) y
streams i k p dev params heard f more rest (b ∷ bytes) a e h l n y = (
  Actions.Reads (b ∷ bytes),
  tt,
  ((params, heard, e), ([], l ∙ sym (append-nil _)), λ z. cc),
  first_4 i k p dev (Imaging params heard) e a.todo a.due (λ z. let c = h.0 in cc (c, z)),
)

flows : (i : ℕ) (k : Make) (p : JobState) (dev : AbstractDevice) (params : Params) (heard : List ℕ) (o : OptionsInForce) (more : List Frame) (rest : List ℕ) → RequestInFlight i k p dev (Imaging params heard) → p.client.stage ≡ Running (Imaging params heard) →
    DataUnderWay i k p.session dev o more heard rest → DeviceInvariant k dev → CanMove i k p dev
flows i k p dev params heard o more rest a e (inl h) y =
    elim h.transfer [
      | inl c ↦ (Actions.Dials, tt, ((params, heard, e), c), first_3 i k p dev (Imaging params heard) e a.todo a.due)
      | inr c ↦ streams i k p dev params heard h.meant more rest p.session.flight a e (c, h.held.mine, h.held.phase_is) refl h.ending y
    ]
flows i k p dev params heard o more rest a e (inr (inl h)) y = takes i k p dev params heard Eof p.session.flight a e (λ z. let c = h.transfer in cc (c, z)) refl h.ending
flows i k p dev params heard o more rest a e (inr (inr (inl h))) y = takes i k p dev params heard Eof p.session.flight a e (λ z. let c = h.transfer in cc (c, z)) refl h.ending
flows i k p dev params heard o more rest a e (inr (inr (inr h))) y = takes i k p dev params heard h.status p.session.flight a e (λ z. let c = h.transfer in cc (c, z)) refl h.ending

-- EACH STAGE
asks : (i : ℕ) (k : Make) (p : JobState) (dev : AbstractDevice) (g : AbstractProgress) (q : AbstractRequest) → request_awaited g ≡ q ∷ [] → p.client.stage ≡ Running g → RequestInFlight i k p dev g → CanMove i k p dev
asks i k p dev g q e st h = (Actions.Answers [] None, refl, (h.served, λ z. let t = h.todo in cc (z, t, e), tt), first_1 i k p dev g st)

goes_on : (i : ℕ) (k : Make) (p : JobState) (dev : AbstractDevice) (g : AbstractProgress) → p.client.stage ≡ Running g → RequestInFlight i k p dev g → DeviceInvariant k dev → CanMove i k p dev
goes_on i k p dev (Imaging params heard) e h y = flows i k p dev params heard h.in_sync.continues.begin.options h.in_sync.more h.in_sync.rest h e h.in_sync.carries y
goes_on i k p dev g e h y = asks i k p dev g _ refl e h

moves : (i : ℕ) (k : Make) (p : JobState) (dev : AbstractDevice) (st : JobStage) → p.client.stage ≡ st → IsUnderWay st → StageInvariant i k p dev st → DeviceInvariant k dev → CanMove i k p dev
moves i k p dev Idle e u h y = (Actions.Connects, tt, e, first_0 i k p dev)
moves i k p dev (Running g) e u (inl h) y = goes_on i k p dev g e h y
moves i k p dev (Running g) e u (inr (inl h)) y = (Actions.Hears h.reply, tt, ((g, e), ([], h.due)), first_2 i k p dev g e h.todo)
moves i k p dev (Running g) e u (inr (inr h)) y = (Actions.Loses false, (refl, h.served), h.linked, first_6 i k p dev g e h)
moves i k p dev Done e u h y = absurd u
moves i k p dev (Ended status why) e u h y = absurd u

pub nobody_is_stuck : NoDeadlock
nobody_is_stuck s i h u = moves i (make_for s i) (s.job i) (device_for s i) (s.job i).client.stage refl u (h.exchanges i) (h.fit (wanted_place s i))

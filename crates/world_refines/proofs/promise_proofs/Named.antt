-- No cause names GOOD, so no job ends with it; nor with EOF.
use Rattle.std.proofs.Common.{◌≡◌, ◌≢◌, inl, inr, ◌∙◌, ℕ, List, [], ◌∷◌, ◌++◌, Bool, true, false, cond, eqb, Option, sym, ap, subst}
use Rattle.scan_job.specs.declared.outcome.Why.{Why}
use Rattle.sane_fixed.specs.declared.status.Status.TheVariants.{Good, Cancelled, DeviceBusy, Inval, Eof, NoDocs}
use Rattle.sane_fixed.specs.declared.status.Status.TheVariants.{IoError, NoMem, AccessDenied}
use Rattle.sane_fixed.specs.declared.status.Status.{Status}
use Rattle.sane_fixed.specs.declared.status.Status.TheVariants as codes
use Rattle.system_model.specs.AbstractMessages.{Challenge, AbstractRequest}
use Rattle.system_model.specs.Causes.{Cause, GaveUp, LinkLost, LinkOutOfMemory, WasUnsaid, SourceFailed, NamesEof, Names, Unforced, WasUnlisted, HadNoPicture, WasHeld, Disallowed, TrayWasEmpty, TrayRanOut, ClientOutOfMemory, IsExplained, Explains, IsCauseAmong}
use Rattle.system_model.specs.Daemon.{Environment, FailureCounts}
use Rattle.system_model.specs.Actions as actions
use Rattle.system_model.specs.Actions.{answer_next, environment_of, break_causes, loss_cause, job_after_action, served_by}
use Rattle.system_model.specs.Devices.{Make}
use Rattle.system_model.specs.Grounds.{HasGround, HaveGrounds}
use Rattle.system_model.specs.AbstractDevices.{AbstractDevice}
use Rattle.system_model.specs.Invariants.{IsCaused}
use Rattle.system_model.specs.SystemStates.{SessionView, JobState, SystemState, listed_devices, make_for, device_for}
use Rattle.system_model.specs.Transitions.{By, IsHistory, IsEnabled, Loads, IsActionEnabled, Transition, Unplugs, Uses, after_transition, after_all}
use Rattle.system_model.proofs.Grounds.{causes_grounded}

-- none of these causes names GOOD
abbrev Spares : List Cause → Type 0
Spares met = IsCauseAmong (Names Good) met → ⊥

joined : (xs ys : List Cause) → Spares xs → Spares ys → Spares (xs ++ ys)
joined [] ys a b h = b h
joined (c ∷ xs) ys a b (inl e) = a (inl e)
joined (c ∷ xs) ys a b (inr h) = joined xs ys (λ m. a (inr m)) b h

one : (c : Cause) → (Names Good ≡ c → ⊥) → Spares (c ∷ [])
one c n (inl e) = n e
one c n (inr h) = h

-- a request is answered for no cause that names a status
answer_spares : (i : ℕ) (k : Make) (dev : AbstractDevice) (awaited : Option Challenge) (x : Environment) (causes : List Cause) → HaveGrounds i k dev awaited x causes → Spares causes
answer_spares i k dev awaited x [] g h = h
answer_spares i k dev awaited x (c ∷ causes) g (inl e) = subst (HasGround i k dev awaited x) (sym e) g.0
answer_spares i k dev awaited x (c ∷ causes) g (inr h) = answer_spares i k dev awaited x causes g.1 h

loss_spares : (memory : Bool) → Spares (loss_cause memory ∷ [])
loss_spares true = one LinkOutOfMemory (λ e. let clash : Names Good ≡ LinkOutOfMemory = e in cc)
loss_spares false = one LinkLost (λ e. let clash : Names Good ≡ LinkLost = e in cc)

breaking_spares : (memory : Bool) → Spares (break_causes memory)
breaking_spares true = one LinkOutOfMemory (λ e. let clash : Names Good ≡ LinkOutOfMemory = e in cc)
breaking_spares false = one WasUnsaid (λ e. let clash : Names Good ≡ WasUnsaid = e in cc)

abbrev IsSpared : JobState → Type 0
IsSpared p = Spares p.session.met

next_spared : (i : ℕ) (k : Make) (places : List ℕ) (p : JobState) (dev : AbstractDevice) (challenge : Challenge) (fault : Option FailureCounts) (qs : List AbstractRequest) → IsSpared p → IsSpared (answer_next i k places p dev challenge fault qs)
next_spared i k places p dev challenge fault [] h = h
next_spared i k places p dev challenge fault (q ∷ rest) h =
    let x = environment_of p.session places challenge fault in
    joined (served_by i k places p dev challenge fault q).causes p.session.met (answer_spares i k dev p.session.awaited x (served_by i k places p dev challenge fault q).causes (causes_grounded i k dev p.session.transfer p.session.awaited x q)) h

action_spared : (i : ℕ) (k : Make) (places : List ℕ) (p : JobState) (dev : AbstractDevice) (x : actions.Action) → IsActionEnabled i k p dev x → IsSpared p → IsSpared (job_after_action i k places p dev x)
action_spared i k places p dev actions.Connects may h = h
action_spared i k places p dev (actions.Answers challenge fault) may h = next_spared i k places p dev challenge fault p.todo h
action_spared i k places p dev (actions.Hears reply) may h = h
action_spared i k places p dev actions.Dials may h = h
action_spared i k places p dev (actions.Turns bytes) may h = h
action_spared i k places p dev actions.TurnsLast may h = h
action_spared i k places p dev (actions.TurnsNamed status) may h = joined (Names status ∷ []) p.session.met (one (Names status) (λ e. may.6 (let same : Names Good ≡ Names status = e in let is : status ≡ Good = cc in is))) h
action_spared i k places p dev actions.TurnsShort may h = joined (NamesEof ∷ []) p.session.met (one NamesEof (λ e. let clash : Names Good ≡ NamesEof = e in cc)) h
action_spared i k places p dev (actions.TurnsFault fault) may h = joined (SourceFailed ∷ []) p.session.met (one SourceFailed (λ e. let clash : Names Good ≡ SourceFailed = e in cc)) h
action_spared i k places p dev actions.TurnsOff may h = h
action_spared i k places p dev (actions.Reads bytes) may h = h
action_spared i k places p dev (actions.Finishes status) may h = h
action_spared i k places p dev (actions.Loses memory) may h = joined (loss_cause memory ∷ []) p.session.met (loss_spares memory) h
action_spared i k places p dev (actions.LosesImage memory) may h = joined (loss_cause memory ∷ []) p.session.met (loss_spares memory) h
action_spared i k places p dev (actions.Breaks memory) may h = joined (break_causes memory) p.session.met (breaking_spares memory) h
action_spared i k places p dev actions.RunsOutOfMemory may h = joined (ClientOutOfMemory ∷ []) p.session.met (one ClientOutOfMemory (λ e. let clash : Names Good ≡ ClientOutOfMemory = e in cc)) h
action_spared i k places p dev actions.Stops may h = joined (GaveUp ∷ []) p.session.met (one GaveUp (λ e. let clash : Names Good ≡ GaveUp = e in cc)) h

-- ---- steps

abbrev pub AllSpared : SystemState → Type 0
AllSpared s = (i : ℕ) → IsSpared (s.job i)

either_spared : (b : Bool) (p q : JobState) → IsSpared p → IsSpared q → IsSpared (cond b p q)
either_spared true p q a h = a
either_spared false p q a h = h

step_spared : (s : SystemState) (x : Transition) → IsEnabled s x → AllSpared s → AllSpared (after_transition s x)
step_spared s (By i x) legal h =
    λ j. either_spared (eqb j i) (job_after_action i (make_for s i) (listed_devices s) (s.job i) (device_for s i) x) (s.job j) (action_spared i (make_for s i) (listed_devices s) (s.job i) (device_for s i) x legal (h i)) (h j)
step_spared s (Loads d page) legal h = h
step_spared s (Unplugs d) legal h = h
step_spared s (Uses i d shown left) legal h = h

pub all_spared : (s : SystemState) (xs : List Transition) → IsHistory s xs → AllSpared s → AllSpared (after_all s xs)
all_spared s [] legal h = h
all_spared s (x ∷ xs) legal h = all_spared (after_transition s x) xs legal.1 (step_spared s x legal.0 h)

-- ---- endings

abbrev IsRefusal : Status → Type 0
IsRefusal status = (status ≢ Good) × (status ≢ Eof)

given_up : (s : Status) → s ≡ Cancelled → IsRefusal s
given_up s e = (λ g. let clash : Good ≡ Cancelled = sym g ∙ e in cc, λ g. let clash : Eof ≡ Cancelled = sym g ∙ e in cc)

io_error : (s : Status) → s ≡ IoError → IsRefusal s
io_error s e = (λ g. let clash : Good ≡ IoError = sym g ∙ e in cc, λ g. let clash : Eof ≡ IoError = sym g ∙ e in cc)

inval : (s : Status) → s ≡ Inval → IsRefusal s
inval s e = (λ g. let clash : Good ≡ Inval = sym g ∙ e in cc, λ g. let clash : Eof ≡ Inval = sym g ∙ e in cc)

busy : (s : Status) → s ≡ DeviceBusy → IsRefusal s
busy s e = (λ g. let clash : Good ≡ DeviceBusy = sym g ∙ e in cc, λ g. let clash : Eof ≡ DeviceBusy = sym g ∙ e in cc)

denied : (s : Status) → s ≡ AccessDenied → IsRefusal s
denied s e = (λ g. let clash : Good ≡ AccessDenied = sym g ∙ e in cc, λ g. let clash : Eof ≡ AccessDenied = sym g ∙ e in cc)

no_docs : (s : Status) → s ≡ NoDocs → IsRefusal s
no_docs s e = (λ g. let clash : Good ≡ NoDocs = sym g ∙ e in cc, λ g. let clash : Eof ≡ NoDocs = sym g ∙ e in cc)

no_mem : (s : Status) → s ≡ NoMem → IsRefusal s
no_mem s e = (λ g. let clash : Good ≡ NoMem = sym g ∙ e in cc, λ g. let clash : Eof ≡ NoMem = sym g ∙ e in cc)

cause_refuses : (c : Cause) (s : Status) (w : Why) → (Names Good ≡ c → ⊥) → Explains c s w → IsRefusal s
cause_refuses GaveUp s w n h = given_up s h.0
cause_refuses LinkLost s w n h = io_error s h.0
cause_refuses LinkOutOfMemory s w n h = io_error s h.0
cause_refuses WasUnsaid s w n h = absurd h
cause_refuses SourceFailed s w n h = io_error s h.0
cause_refuses NamesEof s w n h = io_error s h.0
cause_refuses (Names status) s w n h = (λ g. n (ap (λ (x : Status). Names x) (sym g ∙ h.0)), λ g. h.1 (sym h.0 ∙ g))
cause_refuses Unforced s w n h = inval s h.0
cause_refuses WasUnlisted s w n h = inval s h.0
cause_refuses HadNoPicture s w n h = inval s h.0
cause_refuses WasHeld s w n h = busy s h.0
cause_refuses Disallowed s w n h = denied s h.0
cause_refuses TrayWasEmpty s w n h = no_docs s h.0
cause_refuses TrayRanOut s w n h = absurd h
cause_refuses ClientOutOfMemory s w n h = no_mem s h.0

explained_refuses : (s : Status) (w : Why) (met : List Cause) → Spares met → IsExplained s w met → IsRefusal s
explained_refuses s w [] n h = absurd h
explained_refuses s w (c ∷ met) n (inl h) = cause_refuses c s w (λ e. n (inl e)) h
explained_refuses s w (c ∷ met) n (inr h) = explained_refuses s w met (λ m. n (inr m)) h

caused_refuses : (k : Make) (b : SessionView) (s : Status) (w : Why) → Spares b.met → IsCaused k b s w → IsRefusal s
caused_refuses k b s w n (inl h) = explained_refuses s w b.met n h
caused_refuses k b s w n (inr h) = inval s h.1.0

-- the same of the codes
pub refuses : (k : Make) (p : JobState) (code : Status) (w : Why) → (IsCauseAmong (Names Good) p.session.met → ⊥) → IsCaused k p.session code w → (code ≢ codes.Good) × (code ≢ codes.Eof)
refuses k p code w n h =
    let r = caused_refuses k p.session code w n h in
    (λ g. r.0 (g), λ g. r.1 (g))

-- The page sources of a scanner: they are such as is said of its device behind each call too, and what failed can.
use Rattle.std.specs.Prelude.{◌≢◌, Result, Ok, Err}
use Rattle.std.proofs.Common.{◌≡◌, ◌∙◌, ℕ, List, [], ◌∷◌, ◌++◌, Bool, true, false, Option, Some, None, refl, sym, subst}
use Rattle.sane_fixed.specs.declared.status.Status.{Status as Code}
use Rattle.sane_fixed.specs.declared.status.Status.TheVariants as code
use Rattle.device_api.specs.State.{DeviceState, FrameReads, HasStopped, HeldPage, Phase as AnyPhase, Reads, ReadsIn, ReadsOn, Starts, StartsFrame, StartsIn, StartsOn, after_cancel, after_pass, after_read_status, after_reset, after_stop, cancelled_in, feeds, first_page, goes_to, is_infallible, left_behind, pages_with, read_status_at, stopped_in, with_failure_count, with_failures}
use Rattle.device_api.specs.State.Phase.{AtRest as Rest, Between as Amid, Reading as Read}
use Rattle.system_model.specs.Devices.{Make}
use Rattle.daemon_refines.specs.ContextRefinement.{HasSource, HaveSources, IsMade}
use Rattle.daemon_refines.specs.DeviceWords.{MayFailAt}

-- ---- lists of pages

pub left_sources : (k : Make) (b : Bool) (pages : List HeldPage) → HaveSources k pages → HaveSources k (left_behind b pages)
left_sources k false pages h = h
left_sources k true [] h = tt
left_sources k true (held ∷ pages) h = h.1

counted : (k : Make) (n : ℕ) (pages : List HeldPage) → HaveSources k pages → HaveSources k (with_failure_count n pages)
counted k n [] h = tt
counted k n (held ∷ pages) h = (record { infallible = h.0.infallible; steady = h.0.steady }, h.1)

added : (k : Make) (pages : List HeldPage) (page : HeldPage) → HasSource k page → HaveSources k pages → HaveSources k (pages ++ page ∷ [])
added k [] page is h = (is, tt)
added k (held ∷ pages) page is h = (h.0, added k pages page is h.1)

pub laid_sources : (k : Make) (b : Bool) (pages : List HeldPage) (page : HeldPage) → HasSource k page → HaveSources k pages → HaveSources k (pages_with b pages page)
laid_sources k false pages page is h = (is, tt)
laid_sources k true pages page is h = added k pages page is h

-- ---- each call

abbrev Stays : DeviceState → DeviceState → Type 0
Stays s t = (k : Make) → HaveSources k s.pages → HaveSources k t.pages

stays_as : (s t u : DeviceState) → t ≡ u → Stays s u → Stays s t
stays_as s t u e h = λ k a. subst (λ (d : DeviceState). HaveSources k d.pages) (sym e) (h k a)

cancelled : (phase : AnyPhase) (s : DeviceState) → Stays s (cancelled_in phase s)
cancelled (Rest c) s = λ k h. h
cancelled (Amid ended) s = λ k. left_sources k (feeds s) s.pages
cancelled (Read pass given) s = λ k. left_sources k (feeds s) s.pages

pub cancel_sources : (s : DeviceState) → Stays s (after_cancel s)
cancel_sources s = cancelled s.phase s

pub reset_sources : (s : DeviceState) → Stays s (after_reset s)
reset_sources s = cancelled s.phase s

stopped : (phase : AnyPhase) (s : DeviceState) → Stays s (stopped_in phase s)
stopped (Rest c) s = λ k h. h
stopped (Amid ended) s = λ k. left_sources k (feeds s) s.pages
stopped (Read pass given) s = λ k. left_sources k (feeds s) s.pages

goes : (phase : AnyPhase) (s : DeviceState) → Stays s (goes_to s phase)
goes (Rest c) s = λ k. left_sources k (feeds s) s.pages
goes (Amid ended) s = λ k h. h
goes (Read pass given) s = λ k h. h

failed : (s t : DeviceState) → HasStopped s t → Stays s t
failed s t h = stays_as s t (after_stop (with_failures s h.failures)) h.after (λ k a. stopped s.phase (with_failures s h.failures) k (counted k h.failures s.pages a))

frame : (s t : DeviceState) (r : Result Unit Code) → StartsFrame s r t → Stays s t
frame s t (Ok _) h = stays_as s t _ h.1 (λ k a. a)
frame s t (Err code.Inval) h = stays_as s t (after_stop s) h.1 (stopped s.phase s)
frame s t (Err code.IoError) h = failed s t h.1
frame s t (Err code.NoMem) h = stays_as s t (after_stop s) h.1 (stopped s.phase s)
frame s t (Err code.Good) h = absurd h
frame s t (Err code.Unsupported) h = absurd h
frame s t (Err code.Cancelled) h = absurd h
frame s t (Err code.DeviceBusy) h = absurd h
frame s t (Err code.Eof) h = absurd h
frame s t (Err code.Jammed) h = absurd h
frame s t (Err code.NoDocs) h = absurd h
frame s t (Err code.CoverOpen) h = absurd h
frame s t (Err code.AccessDenied) h = absurd h

on_pages : (pages : List HeldPage) (s t : DeviceState) (r : Result Unit Code) → StartsOn pages s r t → Stays s t
on_pages [] s t r h = stays_as s t (after_stop s) h.1 (stopped s.phase s)
on_pages (held ∷ pages) s t r h = frame s t r h

starts : (phase : AnyPhase) (s t : DeviceState) (r : Result Unit Code) → StartsIn phase s r t → Stays s t
starts (Rest c) s t r h = on_pages s.pages s t r h
starts (Amid ended) s t r h = on_pages s.pages s t r h
starts (Read pass given) s t r h = stays_as s t s h.1 (λ k a. a)

pub start_sources : (s t : DeviceState) (r : Result Unit Code) → Starts s r t → Stays s t
start_sources s t r h = starts s.phase s t r h

on_bytes : (s t : DeviceState) (pass given : ℕ) (r : Result ℕ Code) (buf : List ℕ) → ReadsOn s pass given r t buf → Stays s t
on_bytes s t pass given (Ok n) buf h = stays_as s t _ h.after (λ k a. a)
on_bytes s t pass given (Err code.Eof) buf h = stays_as s t _ h.1 (goes (after_pass s.setup pass) s)
on_bytes s t pass given (Err code.IoError) buf h = failed s t h.1
on_bytes s t pass given (Err code.Good) buf h = absurd h
on_bytes s t pass given (Err code.Unsupported) buf h = absurd h
on_bytes s t pass given (Err code.Cancelled) buf h = absurd h
on_bytes s t pass given (Err code.DeviceBusy) buf h = absurd h
on_bytes s t pass given (Err code.Inval) buf h = absurd h
on_bytes s t pass given (Err code.Jammed) buf h = absurd h
on_bytes s t pass given (Err code.NoDocs) buf h = absurd h
on_bytes s t pass given (Err code.CoverOpen) buf h = absurd h
on_bytes s t pass given (Err code.NoMem) buf h = absurd h
on_bytes s t pass given (Err code.AccessDenied) buf h = absurd h

frame_reads : (told : Option Code) (s t : DeviceState) (pass given : ℕ) (r : Result ℕ Code) (buf : List ℕ) → FrameReads told s pass given r t buf → Stays s t
frame_reads None s t pass given r buf h = on_bytes s t pass given r buf h
frame_reads (Some status) s t pass given r buf h = stays_as s t _ h.1 (goes (after_read_status s.setup pass status) s)

reads : (phase : AnyPhase) (s t : DeviceState) (r : Result ℕ Code) (buf : List ℕ) → ReadsIn phase s r t buf → Stays s t
reads (Rest c) s t r buf h = stays_as s t s h.1 (λ k a. a)
reads (Amid ended) s t r buf h = stays_as s t s h.1 (λ k a. a)
reads (Read pass given) s t r buf h = frame_reads (read_status_at s.setup.told given) s t pass given r buf h

pub read_sources : (s t : DeviceState) (r : Result ℕ Code) (buf : List ℕ) → Reads s r t buf → Stays s t
read_sources s t r buf h = reads s.phase s t r buf h

-- ---- what failed can fail

pub first_source : (k : Make) (pages : List HeldPage) → pages ≢ [] → HaveSources k pages → HasSource k (first_page pages)
first_source k [] some h = absurd (some refl)
first_source k (held ∷ pages) some h = h.0

by_make : (b : Bool) (s : DeviceState) → is_infallible s ≡ false → (b ≡ false → is_infallible s ≡ true) → b ≡ true
by_make true s can h = refl
by_make false s can h = absurd (let clash : true ≡ false = sym (h refl) ∙ can in cc)

pub failing_is_fallible : (k : Make) (s : DeviceState) → IsMade k s → s.pages ≢ [] → is_infallible s ≡ false → k.fallible ≡ true
failing_is_fallible k s made some can = by_make k.fallible s can (first_source k s.pages some made.sources).infallible

-- nothing failed
pub no_failure : (make : ℕ → Make) (place : Option ℕ) → MayFailAt make place None
no_failure make None = refl
no_failure make (Some k) = tt

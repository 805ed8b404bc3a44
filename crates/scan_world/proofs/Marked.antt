-- What is so of the pages of a device, and of its starts, by its marks.
use Rattle.std.specs.Prelude.{cond}
use Rattle.std.specs.List.{AllByRecursion}
use Rattle.std.proofs.Common.{◌≡◌, ℕ, List, [], ◌∷◌, Bool, true, false, Some, None, subst, sym}
use Rattle.device_api.specs.Kinds.{Model, Page, laid_in, is_feeder}
use Rattle.system_model.specs.AbstractDevices.{Begin, without_first}
use Rattle.system_model.specs.Marks.{IsMarkOf, Mark, Took, Started, Rested, Returned, Loaded, Removed, DeviceView, MarksLead, MayMark, view_after_mark, starts_in}
use Rattle.scan_world.proofs.Lists.{all_then}
use Rattle.device_api.specs.State.{pages_with}
use Rattle.device_api.proofs.KindLaws.{laid_is}

abbrev pub LoadsIt : (Page → Type 0) → Mark → Type 0
LoadsIt P (Took i d) = Unit {0}
LoadsIt P (Started i d begin) = Unit {0}
LoadsIt P (Rested i d) = Unit {0}
LoadsIt P (Returned i d) = Unit {0}
LoadsIt P (Loaded d page) = P page
LoadsIt P (Removed d) = Unit {0}

abbrev pub StartsIt : (Begin → Type 0) → Mark → Type 0
StartsIt R (Took i d) = Unit {0}
StartsIt R (Started i d begin) = R begin
StartsIt R (Rested i d) = Unit {0}
StartsIt R (Returned i d) = Unit {0}
StartsIt R (Loaded d page) = Unit {0}
StartsIt R (Removed d) = Unit {0}

-- a device that is listed, or held, is there, and its pages are such
pub record Slotted (D : Type 0) (P : Page → Type 0) (s : DeviceView) : Type 0 where
  pub listed : s.listed ≡ true → D
  pub held : (j : ℕ) → s.holder ≡ Some j → D
  pub pages : AllByRecursion P s.tray

abbrev pub IsThere : Type 0 → (Page → Type 0) → Begin → Type 0
IsThere D P begin = D × P begin.page

rest_all : (P : Page → Type 0) (tray : List Page) → AllByRecursion P tray → AllByRecursion P (without_first tray)
rest_all P [] a = tt
rest_all P (page ∷ tray) a = a.1

started_all : (P : Page → Type 0) (b : Bool) (tray : List Page) → AllByRecursion P tray → AllByRecursion P (cond b (without_first tray) tray)
started_all P true tray a = rest_all P tray a
started_all P false tray a = a

with_all : (P : Page → Type 0) (feeder : Bool) (page : Page) (tray : List Page) → P page → AllByRecursion P tray → AllByRecursion P (pages_with feeder tray page)
with_all P true page tray p a = all_then P tray (page ∷ []) a (p, tt)
with_all P false page tray p a = (p, tt)

laid_all : (P : Page → Type 0) (model : Model) (page : Page) (tray : List Page) → P page → AllByRecursion P tray → AllByRecursion P (laid_in model page tray)
laid_all P model page tray p a = subst (AllByRecursion P) (sym (laid_is model page tray)) (with_all P (is_feeder model) page tray p a)

first_page : (P : Page → Type 0) (tray : List Page) (page : Page) (later : List Page) → tray ≡ page ∷ later → AllByRecursion P tray → P page
first_page P tray page later e a = (subst (AllByRecursion P) e a).0

pub keeps : (D : Type 0) (P : Page → Type 0) (s : DeviceView) (m : Mark) → MayMark s m → LoadsIt P m → Slotted D P s → Slotted D P (view_after_mark s m) × StartsIt (IsThere D P) m
keeps D P s (Took i d) may l h = (record { listed = h.listed; held = λ j e. h.listed may.0; pages = h.pages }, tt)
keeps D P s (Started i d begin) may l h =
    (record { listed = h.listed; held = h.held; pages = started_all P (is_feeder s.model) s.tray h.pages }, (h.held i may.0, first_page P s.tray begin.page may.2.0 may.2.1 h.pages))
keeps D P s (Rested i d) may l h = (record { listed = h.listed; held = h.held; pages = h.pages }, tt)
keeps D P s (Returned i d) may l h = (record { listed = h.listed; held = λ j e. absurd (let clash : None ≡ Some j = e in cc); pages = h.pages }, tt)
keeps D P s (Loaded d page) may l h = (record { listed = h.listed; held = h.held; pages = laid_all P s.model page s.tray l h.pages }, tt)
keeps D P s (Removed d) may l h = (record { listed = λ e. absurd (let clash : false ≡ true = e in cc); held = h.held; pages = h.pages }, tt)

pub starts_there : (D : Type 0) (P : Page → Type 0) (ms : List Mark) (s t : DeviceView) → MarksLead s ms t → AllByRecursion (LoadsIt P) ms → Slotted D P s → AllByRecursion (StartsIt (IsThere D P)) ms
starts_there D P [] s t g l h = tt
starts_there D P (m ∷ ms) s t g l h = let k = keeps D P s m g.0 l.0 h in (k.1, starts_there D P ms (view_after_mark s m) t g.1 l.1 k.0)

pub starts_all : (R : Begin → Type 0) (ms : List Mark) → AllByRecursion (StartsIt R) ms → AllByRecursion R (starts_in ms)
starts_all R [] a = tt
starts_all R (Took i d ∷ ms) a = starts_all R ms a.1
starts_all R (Started i d begin ∷ ms) a = (a.0, starts_all R ms a.1)
starts_all R (Rested i d ∷ ms) a = starts_all R ms a.1
starts_all R (Returned i d ∷ ms) a = starts_all R ms a.1
starts_all R (Loaded d page ∷ ms) a = starts_all R ms a.1
starts_all R (Removed d ∷ ms) a = starts_all R ms a.1

-- a this_action lays no page in
pub mine_loads : (P : Page → Type 0) (i d : ℕ) (m : Mark) → IsMarkOf i d m → LoadsIt P m
mine_loads P i d (Took j e) h = tt
mine_loads P i d (Started j e begin) h = tt
mine_loads P i d (Rested j e) h = tt
mine_loads P i d (Returned j e) h = tt
mine_loads P i d (Loaded e page) h = absurd h
mine_loads P i d (Removed e) h = tt

pub slotted_then : (D : Type 0) (P : Page → Type 0) (ms : List Mark) (s t : DeviceView) → MarksLead s ms t → AllByRecursion (LoadsIt P) ms → Slotted D P s → Slotted D P t
slotted_then D P [] s t g l h = subst (Slotted D P) g h
slotted_then D P (m ∷ ms) s t g l h = slotted_then D P ms (view_after_mark s m) t g.1 l.1 (keeps D P s m g.0 l.0 h).0

-- The places that are shown to a client are those of devices, whatever steps come.
use Rattle.std.specs.List.{AllByRecursion}
use Rattle.std.proofs.Common.{◌≡◌, ◌∙◌, ℕ, suc, ◌+◌, ◌<◌, ◌≤◌, List, [], ◌∷◌, Option, Some, None, Bool, true, false, cond, eqb, refl, sym, ap, subst, length, arith}
use Rattle.system_model.specs.AbstractMessages.{Challenge, AbstractRequest}
use Rattle.system_model.specs.Devices.{Make}
use Rattle.system_model.specs.AbstractDevices.{AbstractDevice}
use Rattle.system_model.specs.Daemon.{FailureCounts}
use Rattle.system_model.specs.Actions as actions
use Rattle.system_model.specs.Actions.{Action, answer_next, first_noted, job_after_action, served_by}
use Rattle.system_model.specs.SystemStates.{JobState, SystemState, listed_devices, listed_of, make_for, device_for}
use Rattle.system_model.specs.Transitions.{By, Loads, Transition, Unplugs, Uses, after_transition, after_all}
use Rattle.system_model.proofs.Noted.{notes_true}
use Rattle.system_model.proofs.OtherJobs.{put_same}
use Rattle.daemon_refines.proofs.Moved.{unsome}
use Rattle.event_world.specs.Worlds.{WorldCore}
use Rattle.world_refines.specs.GhostStates.{Ghost}
use Rattle.world_refines.specs.WorldRefinement.{AreListedBelow, WorldRefines, numbers_from}

abbrev AreBelow : ℕ → List ℕ → Type 0
AreBelow n places = AllByRecursion (λ (k : ℕ). k < n) places

if_below : (n k : ℕ) (places : List ℕ) (b : Bool) → k < n → AreBelow n places → AreBelow n (cond b (k ∷ places) places)
if_below n k places true low h = (low, h)
if_below n k places false low h = h

listed_below : (n : ℕ) (device : ℕ → AbstractDevice) (places : List ℕ) → AreBelow n places → AreBelow n (listed_of device places)
listed_below n device [] h = tt
listed_below n device (k ∷ places) h = if_below n k (listed_of device places) (device k).listed h.0 (listed_below n device places h.1)

numbered_below : {X : Type 0} (n k : ℕ) (xs : List X) → k + length xs ≤ n → AreBelow n (numbers_from k xs)
numbered_below n k [] low = tt
numbered_below n k (x ∷ xs) low = (omega (arith, low), numbered_below n (suc k) xs (omega (arith, low)))

-- ---- what was shown first stays

noted_stays : (new old : Option (List ℕ)) (places : List ℕ) → old ≡ Some places → first_noted new old ≡ Some places
noted_stays None old places e = e
noted_stays (Some x) old places e = ap (first_noted (Some x)) e

next_stays : (i : ℕ) (k : Make) (ds : List ℕ) (p : JobState) (dev : AbstractDevice) (challenge : Challenge) (fault : Option FailureCounts) (qs : List AbstractRequest) (places : List ℕ) → p.session.shown ≡ Some places → (answer_next i k ds p dev challenge fault qs).session.shown ≡ Some places
next_stays i k ds p dev challenge fault [] places e = e
next_stays i k ds p dev challenge fault (q ∷ rest) places e = noted_stays (served_by i k ds p dev challenge fault q).shown p.session.shown places e

shown_stays : (i : ℕ) (k : Make) (ds : List ℕ) (p : JobState) (dev : AbstractDevice) (x : Action) (places : List ℕ) → p.session.shown ≡ Some places → (job_after_action i k ds p dev x).session.shown ≡ Some places
shown_stays i k ds p dev (actions.Answers challenge fault) places e = next_stays i k ds p dev challenge fault p.todo places e
shown_stays i k ds p dev x places e = e

-- ---- whatever step comes

abbrev party_then : SystemState → ℕ → Action → JobState
party_then s i x = job_after_action i (make_for s i) (listed_devices s) (s.job i) (device_for s i) x

own_below : (n : ℕ) (s : SystemState) (i : ℕ) (x : Action) (old new : Option (List ℕ)) → AreBelow n s.places → (s.job i).session.shown ≡ old → (party_then s i x).session.shown ≡ new → AreListedBelow n old → AreListedBelow n new
own_below n s i x old None low e f h = tt
own_below n s i x None (Some places) low e f h =
    let after_is : ((after_transition s (By i x)).job i).session.shown ≡ Some places = ap (λ (q : JobState). q.session.shown) (put_same s.job i (party_then s i x)) ∙ f in
    subst (AreBelow n) (sym ((notes_true s i x).1 places e after_is)) (listed_below n s.device s.places low)
own_below n s i x (Some first) (Some places) low e f h =
    subst (AreBelow n) (unsome first places (sym (shown_stays i (make_for s i) (listed_devices s) (s.job i) (device_for s i) x first e) ∙ f)) h

at_below : (n : ℕ) (p q : JobState) (b : Bool) → AreListedBelow n p.session.shown → AreListedBelow n q.session.shown → AreListedBelow n (cond b p q).session.shown
at_below n p q true h g = h
at_below n p q false h g = g

after_below : (n : ℕ) (s : SystemState) (x : Transition) → AreBelow n s.places → ((i : ℕ) → AreListedBelow n (s.job i).session.shown) → (j : ℕ) → AreListedBelow n ((after_transition s x).job j).session.shown
after_below n s (By i x) low h j = at_below n (party_then s i x) (s.job j) (eqb j i) (own_below n s i x (s.job i).session.shown (party_then s i x).session.shown low refl refl (h i)) (h j)
after_below n s (Loads d page) low h j = h j
after_below n s (Unplugs d) low h j = h j
after_below n s (Uses i d shown left) low h j = h j

places_after : (n : ℕ) (s : SystemState) (x : Transition) → AreBelow n s.places → AreBelow n (after_transition s x).places
places_after n s (By i x) low = low
places_after n s (Loads d page) low = low
places_after n s (Unplugs d) low = low
places_after n s (Uses i d shown left) low = low

after_all_below : (n : ℕ) (s : SystemState) (xs : List Transition) → AreBelow n s.places → ((i : ℕ) → AreListedBelow n (s.job i).session.shown) → (j : ℕ) → AreListedBelow n ((after_all s xs).job j).session.shown
after_all_below n s [] low h j = h j
after_all_below n s (x ∷ xs) low h j = after_all_below n (after_transition s x) xs (places_after n s x low) (after_below n s x low h) j

pub shown_after : (t : Ghost) (w : WorldCore) (steps : List Transition) → WorldRefines t w → (j : ℕ) → AreListedBelow (length t.infos) ((after_all t.system steps).job j).session.shown
shown_after t w steps h j =
    let n = length t.infos in
    let low : AreBelow n (numbers_from 0 t.infos) = numbered_below n 0 t.infos (omega arith) in
    after_all_below n t.system steps (subst (AreBelow n) (sym h.is_of.places) low) h.shown j

-- What a stranger's act does by the model: one step for each device that he used.
use Rattle.std.specs.List.{AllByRecursion}
use Rattle.std.proofs.lemmas.Bool.{ne_eqb}
use Rattle.std.proofs.Common.{◌≡◌, ◌≢◌, ◌∙◌, ◌⊎◌, inl, inr, ℕ, zero, suc, ◌≤◌, ◌<◌, List, [], ◌∷◌, Bool, true, false, cond, eqb, eqb-true, Option, Some, None, refl, sym, ap, subst, arith}
use Rattle.dispatch.specs.declared.table.place.Place.{Place}
use Rattle.device_api.specs.State.{DeviceState}
use Rattle.system_model.specs.Devices.{Make}
use Rattle.system_model.specs.AbstractDevices.{AbstractDevice}
use Rattle.system_model.specs.Actions.{device_after, job_after_action}
use Rattle.system_model.specs.Client.{AbstractJob}
use Rattle.system_model.specs.Marks.{Mark, device_view}
use Rattle.system_model.specs.SystemStates.{JobState, SystemState, device_for, listed_devices, make_for, wanted_place, with_entry}
use Rattle.system_model.specs.Transitions.{By, HasNoJob, IsEnabled, IsHisToUse, IsHistory, IsUsedBy, Loads, Transition, Unplugs, Uses, after_all, after_transition, with_page_laid_in, without_listing}
use Rattle.system_model.specs.Invariants.{Invariant}
use Rattle.system_model.specs.Variant.{control_variant}
use Rattle.system_model.proofs.InvariantAfter.{same_job, sound_after}
use Rattle.system_model.proofs.OtherJobs.{put_same}
use Rattle.system_model.proofs.Treats.{treats}
use Rattle.system_model.proofs.Using.{taken_listed, uses_leave}
use Rattle.system_model.proofs.VariantSteps.{others_raise_none}
use Rattle.daemon_refines.specs.ContextRefinement.{PlaceRefines}
use Rattle.daemon_refines.proofs.Changes.{Held}
use Rattle.in_flight.proofs.Slots.{decide}
use Rattle.strangers.specs.LeavingJobs.{IsLeftBy, IsUseOf, with_devices}
use Rattle.strangers.proofs.Calls.{treated_listed}
use Rattle.strangers.proofs.Leaving.{AllLeft}

-- ---- a step of the model lists no device that was not

by_wants : (b : Bool) (new old : JobState) → (b ≡ true → new.session.job.wants ≡ old.session.job.wants) → (cond b new old).session.job.wants ≡ old.session.job.wants
by_wants true new old h = h refl
by_wants false new old h = refl

wants_still : (s : SystemState) (x : Transition) (i : ℕ) → wanted_place (after_transition s x) i ≡ wanted_place s i
wants_still s (By j x) i =
    by_wants (eqb i j) (job_after_action j (make_for s j) (listed_devices s) (s.job j) (device_for s j) x) (s.job i)
    (λ e. ap (λ (job : AbstractJob). job.wants) (same_job j (make_for s j) (listed_devices s) (s.job j) (device_for s j) x) ∙ ap (λ (k : ℕ). (s.job k).session.job.wants) (sym (eqb-true i j e)))
wants_still s (Loads d page) i = refl
wants_still s (Unplugs d) i = refl
wants_still s (Uses u d shown left) i = refl

by_listed : (b : Bool) (new old : AbstractDevice) → (b ≡ true → new.listed ≡ false) → old.listed ≡ false → (cond b new old).listed ≡ false
by_listed true new old h e = h refl
by_listed false new old h e = e

unlisted_still : (s : SystemState) (x : Transition) (k : ℕ) → IsEnabled s x → (s.device k).listed ≡ false → ((after_transition s x).device k).listed ≡ false
unlisted_still s (By j x) k legal off =
    by_listed (eqb k (wanted_place s j)) (device_after j (make_for s j) (listed_devices s) (s.job j) (device_for s j) x) (s.device k)
    (λ e. treated_listed j (make_for s j) (device_for s j) _ (treats j (make_for s j) (listed_devices s) (s.job j) (device_for s j) x legal) ∙ subst (λ (d : ℕ). (s.device d).listed ≡ false) (eqb-true k (wanted_place s j) e) off) off
unlisted_still s (Loads d page) k legal off = by_listed (eqb k d) (with_page_laid_in (s.make d) page (s.device d)) (s.device k) (λ e. subst (λ (x : ℕ). (s.device x).listed ≡ false) (eqb-true k d e) off) off
unlisted_still s (Unplugs d) k legal off = by_listed (eqb k d) (without_listing (s.device d)) (s.device k) (λ e. refl) off
unlisted_still s (Uses u d shown left) k legal off =
    by_listed (eqb k d) left (s.device k) (λ e. (uses_leave s u d shown left legal).listed ∙ subst (λ (x : ℕ). (s.device x).listed ≡ false) (eqb-true k d e) off) off

pub nowhere_still : (s : SystemState) (xs : List Transition) (i : ℕ) → IsHistory s xs → (device_for s i).listed ≡ false → (device_for (after_all s xs) i).listed ≡ false
nowhere_still s [] i legal off = off
nowhere_still s (x ∷ xs) i legal off =
    nowhere_still (after_transition s x) xs i legal.1
    (subst (λ (k : ℕ). ((after_transition s x).device k).listed ≡ false) (sym (wants_still s x i)) (unlisted_still s x (wanted_place s i) legal.0 off))

-- ---- the steps

abbrev Devices : Type 0
Devices = ℕ → AbstractDevice

abbrev use_first : (i d : ℕ) (k : Make) (old new : AbstractDevice) → IsLeftBy i d k old new → List Transition → List Transition
use_first i d k old new (inl same) more = more
use_first i d k old new (inr used) more = Uses i d used.0 new ∷ more

-- a step for each of the devices of the first n places that was used
abbrev pub uses_below : (i : ℕ) (make : ℕ → Make) (table device : Devices) → AllLeft i make table device → ℕ → List Transition
uses_below i make table device left zero = []
uses_below i make table device left (suc n) = use_first i n (make n) (table n) (device n) (left n) (uses_below i make table device left n)

his_first : (i d : ℕ) (k : Make) (old new : AbstractDevice) (l : IsLeftBy i d k old new) (more : List Transition) → AllByRecursion (IsUseOf i) more → AllByRecursion (IsUseOf i) (use_first i d k old new l more)
his_first i d k old new (inl same) more h = h
his_first i d k old new (inr used) more h = (refl, h)

pub all_his : (i : ℕ) (make : ℕ → Make) (table device : Devices) (left : AllLeft i make table device) (n : ℕ) → AllByRecursion (IsUseOf i) (uses_below i make table device left n)
all_his i make table device left zero = tt
all_his i make table device left (suc n) = his_first i n (make n) (table n) (device n) (left n) (uses_below i make table device left n) (all_his i make table device left n)

put_away : (f : Devices) (d k : ℕ) (x : AbstractDevice) → k ≢ d → with_entry f d x k ≡ f k
put_away f d k x off = ap (λ (b : Bool). cond b x (f k)) (ne_eqb k d off)

-- the first n devices are these
abbrev AgreeBelow : ℕ → SystemState → Devices → Type 0
AgreeBelow n s table = (k : ℕ) → k < n → s.device k ≡ table k

agree_less : (n : ℕ) (s : SystemState) (table : Devices) → AgreeBelow (suc n) s table → AgreeBelow n s table
agree_less n s table at k low = at k (omega (arith, low))

agree_then : (n i : ℕ) (s : SystemState) (table : Devices) (shown : List Mark) (new : AbstractDevice) → AgreeBelow (suc n) s table → AgreeBelow n (after_transition s (Uses i n shown new)) table
agree_then n i s table shown new at k low = put_away s.device n k new (λ same. omega (arith, low, same)) ∙ at k (omega (arith, low))

none_then : (s : SystemState) (i d : ℕ) (shown : List Mark) (new : AbstractDevice) → IsEnabled s (Uses i d shown new) → HasNoJob (after_transition s (Uses i d shown new)) i
none_then s i d shown new legal = record { idle = legal.0.idle; linked = legal.0.linked; nowhere = unlisted_still s (Uses i d shown new) (wanted_place s i) legal legal.0.nowhere }

used_here : (i d : ℕ) (make : ℕ → Make) (table : Devices) (s : SystemState) (shown : List Mark) (new : AbstractDevice) → s.make ≡ make → s.device d ≡ table d → IsUsedBy i d (make d) (table d) shown new → IsUsedBy i d (s.make d) (s.device d) shown new
used_here i d make table s shown new e at used =
    subst (λ (m : ℕ → Make). IsUsedBy i d (m d) (s.device d) shown new) (sym e) (subst (λ (x : AbstractDevice). IsUsedBy i d (make d) x shown new) (sym at) used)

pub all_legal : (i : ℕ) (make : ℕ → Make) (table device : Devices) (left : AllLeft i make table device) (n : ℕ) (s : SystemState) → s.make ≡ make → HasNoJob s i → AgreeBelow n s table → IsHistory s (uses_below i make table device left n)
all_legal i make table device left zero s e none at = tt
all_legal i make table device left (suc n) s e none at = by (left n) (λ u same without agree. all_legal i make table device left n u same without agree)
  where
    by : (l : IsLeftBy i n (make n) (table n) (device n)) → ((u : SystemState) → u.make ≡ make → HasNoJob u i → AgreeBelow n u table → IsHistory u (uses_below i make table device left n)) →
        IsHistory s (use_first i n (make n) (table n) (device n) l (uses_below i make table device left n))
    by (inl same) more = more s e none (agree_less n s table at)
    by (inr used) more =
        let here : IsEnabled s (Uses i n used.0 (device n)) = (none, used_here i n make table s used.0 (device n) e (at n (omega arith)) used.1) in
        (here, more (after_transition s (Uses i n used.0 (device n))) e (none_then s i n used.0 (device n) here) (agree_then n i s table used.0 (device n) at))

-- ---- what they lead to

abbrev Then : (i : ℕ) (make : ℕ → Make) (table device : Devices) → AllLeft i make table device → ℕ → SystemState → Devices
Then i make table device left n s = (after_all s (uses_below i make table device left n)).device

high : (i : ℕ) (make : ℕ → Make) (table device : Devices) (left : AllLeft i make table device) (n : ℕ) (s : SystemState) (k : ℕ) → n ≤ k → Then i make table device left n s k ≡ s.device k
high i make table device left zero s k up = refl
high i make table device left (suc n) s k up = by (left n) (λ u more. high i make table device left n u k more)
  where
    by : (l : IsLeftBy i n (make n) (table n) (device n)) → ((u : SystemState) → n ≤ k → Then i make table device left n u k ≡ u.device k) → (after_all s (use_first i n (make n) (table n) (device n) l (uses_below i make table device left n))).device k ≡ s.device k
    by (inl same) more = more s (omega (arith, up))
    by (inr used) more = more (after_transition s (Uses i n used.0 (device n))) (omega (arith, up)) ∙ put_away s.device n k (device n) (λ same. omega (arith, up, same))

low : (i : ℕ) (make : ℕ → Make) (table device : Devices) (left : AllLeft i make table device) (n : ℕ) (s : SystemState) → AgreeBelow n s table → (k : ℕ) → k < n → Then i make table device left n s k ≡ device k
low i make table device left zero s at k down = absurd (omega (arith, down))
low i make table device left (suc n) s at k down = by (left n) (decide k n) (λ u agree less. low i make table device left n u agree k less)
  where
    by : (l : IsLeftBy i n (make n) (table n) (device n)) → (k ≡ n) ⊎ (k ≢ n) → ((u : SystemState) → AgreeBelow n u table → k < n → Then i make table device left n u k ≡ device k) → (after_all s (use_first i n (make n) (table n) (device n) l (uses_below i make table device left n))).device k ≡ device k
    by (inl same) (inl is) more =
        subst (λ (x : ℕ). Then i make table device left n s x ≡ device x) (sym is) (high i make table device left n s n (omega arith) ∙ (at n (omega arith) ∙ sym same))
    by (inl same) (inr off) more = more s (agree_less n s table at) (omega (arith, down, off))
    by (inr used) (inl is) more =
        let u = after_transition s (Uses i n used.0 (device n)) in
        subst (λ (x : ℕ). Then i make table device left n u x ≡ device x) (sym is) (high i make table device left n u n (omega arith) ∙ put_same s.device n (device n))
    by (inr used) (inr off) more = more (after_transition s (Uses i n used.0 (device n))) (agree_then n i s table used.0 (device n) at) (omega (arith, down, off))

-- and nothing else
rest_same : (i : ℕ) (make : ℕ → Make) (table device : Devices) (left : AllLeft i make table device) (n : ℕ) (s : SystemState) → after_all s (uses_below i make table device left n) ≡ with_devices (Then i make table device left n s) s
rest_same i make table device left zero s = refl
rest_same i make table device left (suc n) s = by (left n) (λ u. rest_same i make table device left n u)
  where
    by : (l : IsLeftBy i n (make n) (table n) (device n)) → ((u : SystemState) → after_all u (uses_below i make table device left n) ≡ with_devices (Then i make table device left n u) u) →
        after_all s (use_first i n (make n) (table n) (device n) l (uses_below i make table device left n)) ≡ with_devices (after_all s (use_first i n (make n) (table n) (device n) l (uses_below i make table device left n))).device s
    by (inl same) more = more s
    by (inr used) more = more (after_transition s (Uses i n used.0 (device n)))

shifted : (k m : ℕ) → (k < m) ⊎ (m ≤ k) → (suc k < suc m) ⊎ (suc m ≤ suc k)
shifted k m (inl less) = inl (omega (arith, less))
shifted k m (inr more) = inr (omega (arith, more))

pub is_low : (k m : ℕ) → (k < m) ⊎ (m ≤ k)
is_low k zero = inr (omega arith)
is_low zero (suc m) = inl (omega arith)
is_low (suc k) (suc m) = shifted k m (is_low k m)

pub leads_there : (i : ℕ) (device : Devices) (n : ℕ) (s : SystemState) (left : AllLeft i s.make s.device device) → ((k : ℕ) → n ≤ k → device k ≡ s.device k) → after_all s (uses_below i s.make s.device device left n) ≡ with_devices device s
leads_there i device n s left beyond = rest_same i s.make s.device device left n s ∙ ap (λ (f : Devices). with_devices f s) (λ z k. at k (is_low k n) z)
  where
    at : (k : ℕ) → (k < n) ⊎ (n ≤ k) → Then i s.make s.device device left n s k ≡ device k
    at k (inl down) = low i s.make s.device device left n s (λ j less. refl) k down
    at k (inr up) = high i s.make s.device device left n s k up ∙ sym (beyond k up)

-- ---- past the last place nothing is used

pub none_past : (i k : ℕ) (make : Make) (held : Held) (old new : AbstractDevice) (at : Option (Place DeviceState)) → at ≡ None → PlaceRefines i make held k old at → IsLeftBy i k make old new → new ≡ old
none_past i k make held old new (Some p) past shows left = absurd (let clash : Some p ≡ None = past in cc)
none_past i k make held old new None past shows (inl same) = same
none_past i k make held old new None past shows (inr used) = absurd (by used.1.his)
  where
    by : IsHisToUse i old.holder used.0 → ⊥
    by (inl mine) = let clash : None ≡ Some i = sym shows.1 ∙ mine in cc
    by (inr free) =
        let on = taken_listed i k used.0 (device_view make old) (device_view make new) free.0 free.1 used.1.own used.1.leads in
        let clash : true ≡ false = sym on ∙ shows.0 in
        cc

-- ---- what they leave to the jobs

pub jobs_stay : (i : ℕ) (s : SystemState) (xs : List Transition) → AllByRecursion (IsUseOf i) xs → (after_all s xs).job ≡ s.job
jobs_stay i s [] his = refl
jobs_stay i s (By j x ∷ xs) his = absurd his.0
jobs_stay i s (Loads d page ∷ xs) his = absurd his.0
jobs_stay i s (Unplugs d ∷ xs) his = absurd his.0
jobs_stay i s (Uses u d shown left ∷ xs) his = jobs_stay i (after_transition s (Uses u d shown left)) xs his.1

pub moves_stay : (i j : ℕ) (s : SystemState) (xs : List Transition) → Invariant s → IsHistory s xs → AllByRecursion (IsUseOf i) xs → control_variant (after_all s xs) j ≡ control_variant s j
moves_stay i j s [] h legal his = refl
moves_stay i j s (By m x ∷ xs) h legal his = absurd his.0
moves_stay i j s (Loads d page ∷ xs) h legal his = absurd his.0
moves_stay i j s (Unplugs d ∷ xs) h legal his = absurd his.0
moves_stay i j s (Uses u d shown left ∷ xs) h legal his =
    let t = after_transition s (Uses u d shown left) in
    moves_stay i j t xs (sound_after s (Uses u d shown left) h legal.0) legal.1 his.1 ∙ (others_raise_none s j (Uses u d shown left) h legal.0 tt).1

-- What a client without a job leaves of a device that it uses.
use Rattle.std.specs.List.{AllByRecursion}
use Rattle.std.specs.Prelude.{cond}
use Rattle.std.proofs.Common.{◌≡◌, ◌≢◌, ◌⊎◌, ◌∙◌, inl, inr, ℕ, List, [], ◌∷◌, ◌++◌, Bool, true, false, Option, Some, None, refl, sym, ap, subst, eqb, eqb-true, append_assoc}
use Rattle.std.proofs.lemmas.Bool.{eqb-false}
use Rattle.device_api.specs.Kinds.{Page, is_feeder}
use Rattle.system_model.specs.Client.{JobStage}
use Rattle.system_model.specs.AbstractDevices.{AbstractDevice, without_first}
use Rattle.system_model.specs.SystemStates.{SystemState, device_for, make_for, wanted_place}
use Rattle.system_model.specs.Marks.{Mark, Took, Started, Rested, Returned, Loaded, Removed, DeviceView, IsMarkOf, MarksLead, MayMark, device_view, is_busy, view_after_mark}
use Rattle.system_model.specs.Transitions.{HasNoJob, IsHisToUse, IsUsedBy}
use Rattle.system_model.specs.Invariants.{Invariant, StageInvariant}
use Rattle.system_model.specs.ModelPromises.{FreeDevicesAreUsed, HeldDevicesAreNotUsed, UsesLeave}
use Rattle.system_model.proofs.OtherJobs.{Same}

-- nobody holds it, or client i does
abbrev pub IsFreeOrHis : ℕ → Option ℕ → Type 0
IsFreeOrHis i holder = (holder ≡ None) ⊎ (holder ≡ Some i)

his_before : (i : ℕ) (holder : Option ℕ) (shown : List Mark) → IsHisToUse i holder shown → IsFreeOrHis i holder
his_before i holder shown (inl mine) = inr mine
his_before i holder shown (inr free) = inl free.0

his_mark : (i d : ℕ) (s : DeviceView) (m : Mark) → IsMarkOf i d m → IsFreeOrHis i s.holder → IsFreeOrHis i (view_after_mark s m).holder
his_mark i d s (Took j e) own h = inr (ap Some own.0)
his_mark i d s (Started j e begin) own h = h
his_mark i d s (Rested j e) own h = h
his_mark i d s (Returned j e) own h = inl refl
his_mark i d s (Loaded e page) own h = absurd own
his_mark i d s (Removed e) own h = absurd own

pub his_after : (i d : ℕ) (shown : List Mark) (s t : DeviceView) → AllByRecursion (IsMarkOf i d) shown → MarksLead s shown t → IsFreeOrHis i s.holder → IsFreeOrHis i t.holder
his_after i d [] s t own leads h = subst (λ (v : DeviceView). IsFreeOrHis i v.holder) leads h
his_after i d (m ∷ shown) s t own leads h = his_after i d shown (view_after_mark s m) t own.1 leads.1 (his_mark i d s m own.0 h)

not_anothers : (i j : ℕ) (holder : Option ℕ) → j ≢ i → IsFreeOrHis i holder → holder ≢ Some j
not_anothers i j holder off (inl free) e = let clash : None ≡ Some j = sym free ∙ e in cc
not_anothers i j holder off (inr mine) e = let both : Some i ≡ Some j = sym mine ∙ e in off (cc both)

-- what nobody holds he takes first, where it is listed
pub taken_listed : (i d : ℕ) (shown : List Mark) (s t : DeviceView) → s.holder ≡ None → shown ≢ [] → AllByRecursion (IsMarkOf i d) shown → MarksLead s shown t → s.listed ≡ true
taken_listed i d [] s t free some own leads = absurd (some refl)
taken_listed i d (Took j e ∷ ms) s t free some own leads = leads.0.0
taken_listed i d (Started j e begin ∷ ms) s t free some own leads = absurd (let clash : None ≡ Some j = sym free ∙ leads.0.0 in cc)
taken_listed i d (Rested j e ∷ ms) s t free some own leads = absurd (let clash : None ≡ Some j = sym free ∙ leads.0.0 in cc)
taken_listed i d (Returned j e ∷ ms) s t free some own leads = absurd (let clash : None ≡ Some j = sym free ∙ leads.0.0 in cc)
taken_listed i d (Loaded e page ∷ ms) s t free some own leads = absurd own.0
taken_listed i d (Removed e ∷ ms) s t free some own leads = absurd own.0

-- a client without a job holds no device that it names
names_none : (s : SystemState) (i : ℕ) → Invariant s → HasNoJob s i → (device_for s i).holder ≢ Some i
names_none s i h none =
    let st = subst (λ (g : JobStage). StageInvariant i (make_for s i) (s.job i) (device_for s i) g) none.idle (h.exchanges i) in
    st.3.free

never_named : (s : SystemState) (i d : ℕ) (shown : List Mark) (left : AbstractDevice) → Invariant s → HasNoJob s i → IsUsedBy i d (s.make d) (s.device d) shown left → wanted_place s i ≡ d → ⊥
never_named s i d shown left h none used named = by used.his
  where
    at_named : (device_for s i) ≡ s.device d
    at_named = ap s.device named

    by : IsHisToUse i (s.device d).holder shown → ⊥
    by (inl mine) = names_none s i h none (ap (λ (x : AbstractDevice). x.holder) at_named ∙ mine)
    by (inr free) =
        let on = taken_listed i d shown (device_view (s.make d) (s.device d)) (device_view (s.make d) left) free.0 free.1 used.own used.leads in
        let clash : true ≡ false = sym on ∙ (sym (ap (λ (x : AbstractDevice). x.listed) at_named) ∙ none.nowhere) in
        cc

-- what any client sees of the device that it names is as it was
pub used_same : (s : SystemState) (i d : ℕ) (shown : List Mark) (left : AbstractDevice) → Invariant s → HasNoJob s i → IsUsedBy i d (s.make d) (s.device d) shown left → (j : ℕ) → wanted_place s j ≡ d → Same j (s.device d) left
used_same s i d shown left h none used j named = by (eqb j i) refl
  where
    before : IsFreeOrHis i (s.device d).holder
    before = his_before i (s.device d).holder shown used.his

    after : IsFreeOrHis i left.holder
    after = his_after i d shown (device_view (s.make d) (s.device d)) (device_view (s.make d) left) used.own used.leads before

    by : (b : Bool) → eqb j i ≡ b → Same j (s.device d) left
    by true e = absurd (never_named s i d shown left h none used (subst (λ (n : ℕ). wanted_place s n ≡ d) (eqb-true j i e) named))
    by false e =
        let off = eqb-false j i e in
        record { held = λ x. absurd (not_anothers i j (s.device d).holder off before x); free = λ x. not_anothers i j left.holder off after }

-- ---- the pages in it

abbrev LeavesPages : DeviceView → DeviceView → Type 0
LeavesPages s t = (taken : List Page) × (s.tray ≡ taken ++ t.tray)

pages_mark : (i d : ℕ) (s : DeviceView) (m : Mark) → MayMark s m → IsMarkOf i d m → LeavesPages s (view_after_mark s m)
pages_mark i d s (Took j e) may own = ([], refl)
pages_mark i d s (Started j e begin) may own = by (is_feeder s.model)
  where
    by : (b : Bool) → (taken : List Page) × (s.tray ≡ taken ++ cond b (without_first s.tray) s.tray)
    by true = (begin.page ∷ [], may.2.1 ∙ ap (λ (tray : List Page). begin.page ∷ without_first tray) (sym may.2.1))
    by false = ([], refl)
pages_mark i d s (Rested j e) may own = ([], refl)
pages_mark i d s (Returned j e) may own = ([], refl)
pages_mark i d s (Loaded e page) may own = absurd own
pages_mark i d s (Removed e) may own = absurd own

pages_after : (i d : ℕ) (shown : List Mark) (s t : DeviceView) → AllByRecursion (IsMarkOf i d) shown → MarksLead s shown t → LeavesPages s t
pages_after i d [] s t own leads = ([], ap (λ (v : DeviceView). v.tray) leads)
pages_after i d (m ∷ shown) s t own leads =
    let one = pages_mark i d s m leads.0 own.0 in
    let more = pages_after i d shown (view_after_mark s m) t own.1 leads.1 in
    (one.0 ++ more.0, one.1 ∙ (ap (λ (tray : List Page). one.0 ++ tray) more.1 ∙ sym (append_assoc one.0 more.0 t.tray)))

listed_mark : (i d : ℕ) (s : DeviceView) (m : Mark) → IsMarkOf i d m → (view_after_mark s m).listed ≡ s.listed
listed_mark i d s (Took j e) own = refl
listed_mark i d s (Started j e begin) own = refl
listed_mark i d s (Rested j e) own = refl
listed_mark i d s (Returned j e) own = refl
listed_mark i d s (Loaded e page) own = absurd own
listed_mark i d s (Removed e) own = absurd own

pub listed_after : (i d : ℕ) (shown : List Mark) (s t : DeviceView) → AllByRecursion (IsMarkOf i d) shown → MarksLead s shown t → t.listed ≡ s.listed
listed_after i d [] s t own leads = sym (ap (λ (v : DeviceView). v.listed) leads)
listed_after i d (m ∷ shown) s t own leads = listed_after i d shown (view_after_mark s m) t own.1 leads.1 ∙ listed_mark i d s m own.0

-- ---- the laws

pub uses_leave : UsesLeave
uses_leave s i d shown left l =
    let u = l.1 in
    let before = device_view (s.make d) (s.device d) in
    let after = device_view (s.make d) left in
    let own = his_before i (s.device d).holder shown u.his in
    let pages = pages_after i d shown before after u.own u.leads in
    record { listed = listed_after i d shown before after u.own u.leads; before = own; after = his_after i d shown before after u.own u.leads own; taken = pages.0; pages = pages.1 }

pub free_used : FreeDevicesAreUsed
free_used s i d h none on free =
    let f = h.fit d in (
      none,
      record {
        his = inr (free, λ e. cc);
        own = ((refl, refl), tt);
        leads = ((on, free, ap is_busy (f.laid_down free)), refl);
        fit = record { laid_down = λ e. absurd (let clash : Some i ≡ None = e in cc); allowed = f.allowed; stocked = f.stocked; shaped = f.shaped };
      },
    )

pub held_unused : HeldDevicesAreNotUsed
held_unused s i j d shown left off held l = not_anothers i j (s.device d).holder off (his_before i (s.device d).holder shown l.1.his) held

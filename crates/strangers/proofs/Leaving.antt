-- A device that a client leaves: as it was, or used by that client.
use Rattle.std.specs.List.{AllByRecursion}
use Rattle.std.proofs.Common.{◌≡◌, ◌≢◌, ◌∙◌, inl, inr, ℕ, List, [], ◌∷◌, ◌++◌, true, false, Option, Some, None, refl, sym, ap, subst}
use Rattle.system_model.specs.AbstractMessages.{AbstractRequest, Challenge}
use Rattle.system_model.specs.Devices.{Make}
use Rattle.system_model.specs.AbstractDevices.{AbstractDevice, DeviceInvariant}
use Rattle.system_model.specs.Actions as actions
use Rattle.system_model.specs.Actions.{Action, device_after, image_off}
use Rattle.system_model.specs.Daemon.{Environment, TransferState, answer}
use Rattle.system_model.specs.Marks.{DeviceView, IsMarkOf, Mark, MarksLead, device_view}
use Rattle.system_model.specs.StepMarks.{action_marks, request_marks}
use Rattle.system_model.specs.SystemStates.{JobState}
use Rattle.system_model.specs.Transitions.{IsActionEnabled, IsHisToUse}
use Rattle.system_model.proofs.EnabledMarks.{action_goes, request_goes}
use Rattle.system_model.proofs.OwnMarks.{action_mine, request_mine}
use Rattle.system_model.proofs.RunMarks.{goes_then}
use Rattle.system_model.proofs.Treats.{Treats, answer_treats, fit_treated, treats}
use Rattle.strangers.specs.LeavingJobs.{IsLeftBy}

-- each device is fit
abbrev pub AllFit : (ℕ → Make) → (ℕ → AbstractDevice) → Type 0
AllFit make table = (k : ℕ) → DeviceInvariant (make k) (table k)

-- each device is left so
abbrev pub AllLeft : ℕ → (ℕ → Make) → (ℕ → AbstractDevice) → (ℕ → AbstractDevice) → Type 0
AllLeft i make table device = (k : ℕ) → IsLeftBy i k (make k) (table k) (device k)

-- ---- one after another

both_marks : (P : Mark → Type 0) (ms ns : List Mark) → AllByRecursion P ms → AllByRecursion P ns → AllByRecursion P (ms ++ ns)
both_marks P [] ns a b = b
both_marks P (m ∷ ms) ns a b = (a.0, both_marks P ms ns a.1 b)

some_still : (ms ns : List Mark) → ms ≢ [] → ms ++ ns ≢ []
some_still [] ns some e = some refl
some_still (m ∷ ms) ns some e = let clash : m ∷ (ms ++ ns) ≡ [] = e in cc

his_still : (i : ℕ) (holder : Option ℕ) (ms ns : List Mark) → IsHisToUse i holder ms → IsHisToUse i holder (ms ++ ns)
his_still i holder ms ns (inl mine) = inl mine
his_still i holder ms ns (inr free) = inr (free.0, some_still ms ns free.1)

one_then : (i d : ℕ) (k : Make) (a b c : AbstractDevice) → IsLeftBy i d k a b → IsLeftBy i d k b c → IsLeftBy i d k a c
one_then i d k a b c (inl same) more = subst (λ (x : AbstractDevice). IsLeftBy i d k x c) same more
one_then i d k a b c (inr first) (inl same) = subst (λ (x : AbstractDevice). IsLeftBy i d k a x) (sym same) (inr first)
one_then i d k a b c (inr first) (inr more) = inr (
  first.0 ++ more.0,
  record {
    his = his_still i a.holder first.0 more.0 first.1.his;
    own = both_marks (IsMarkOf i d) first.0 more.0 first.1.own more.1.own;
    leads = goes_then first.0 more.0 (device_view k a) (device_view k b) (device_view k c) first.1.leads more.1.leads;
    fit = more.1.fit;
  },
)

pub left_then : (i : ℕ) (make : ℕ → Make) (table mid device : ℕ → AbstractDevice) → AllLeft i make table mid → AllLeft i make mid device → AllLeft i make table device
left_then i make table mid device first more k = one_then i k (make k) (table k) (mid k) (device k) (first k) (more k)

one_fit : (i d : ℕ) (k : Make) (old new : AbstractDevice) → IsLeftBy i d k old new → DeviceInvariant k old → DeviceInvariant k new
one_fit i d k old new (inl same) f = subst (DeviceInvariant k) (sym same) f
one_fit i d k old new (inr used) f = used.1.fit

pub left_fit : (i : ℕ) (make : ℕ → Make) (table device : ℕ → AbstractDevice) → AllLeft i make table device → AllFit make table → AllFit make device
left_fit i make table device left fit k = one_fit i k (make k) (table k) (device k) (left k) (fit k)

-- ---- by what the model's rules do to it

marks_taken : (i : ℕ) (k : Make) (old new : AbstractDevice) (shown : List Mark) → old.holder ≡ None → new.holder ≡ Some i → MarksLead (device_view k old) shown (device_view k new) → shown ≢ []
marks_taken i k old new shown free taken leads none =
    let same : device_view k old ≡ device_view k new = subst (λ (ms : List Mark). MarksLead (device_view k old) ms (device_view k new)) none leads in
    let clash : None ≡ Some i = sym free ∙ (ap (λ (v : DeviceView). v.holder) same ∙ taken) in
    cc

treated_left : (i d : ℕ) (k : Make) (old new : AbstractDevice) (shown : List Mark) → Treats i k old new → AllByRecursion (IsMarkOf i d) shown → MarksLead (device_view k old) shown (device_view k new) → DeviceInvariant k old → IsLeftBy i d k old new
treated_left i d k old new shown (inl same) own leads f = inl same
treated_left i d k old new shown (inr (inl taken)) own leads f =
    inr (shown, record { his = inr (taken.0, marks_taken i k old new shown taken.0 (ap (λ (x : AbstractDevice). x.holder) taken.1) leads); own = own; leads = leads; fit = fit_treated i k old new (inr (inl taken)) f })
treated_left i d k old new shown (inr (inr (inl used))) own leads f = inr (shown, record { his = inl used.mine; own = own; leads = leads; fit = fit_treated i k old new (inr (inr (inl used))) f })
treated_left i d k old new shown (inr (inr (inr back))) own leads f = inr (shown, record { his = inl back.0; own = own; leads = leads; fit = fit_treated i k old new (inr (inr (inr back))) f })

-- a request is answered
pub answer_left : (i d : ℕ) (k : Make) (dev : AbstractDevice) (c : TransferState) (a : Option Challenge) (x : Environment) (q : AbstractRequest) → DeviceInvariant k dev → IsLeftBy i d k dev (answer i k dev c a x q).device
answer_left i d k dev c a x q f =
    treated_left i d k dev (answer i k dev c a x q).device (request_marks i d k dev c a x q) (answer_treats i k dev c a x q) (request_mine i d k dev c a x q) (request_goes i d k dev c a x q f.laid_down) f

-- an action of the model
pub action_left : (i d : ℕ) (k : Make) (p : JobState) (dev : AbstractDevice) (x : Action) → IsActionEnabled i k p dev x → DeviceInvariant k dev → IsLeftBy i d k dev (device_after i k [] p dev x)
action_left i d k p dev x may f =
    treated_left i d k dev (device_after i k [] p dev x) (action_marks i d k [] p dev x) (treats i k [] p dev x may) (action_mine i d k [] p dev x) (action_goes i d k [] p dev x f.laid_down may) f

-- the data connection is lost
pub off_left : (i d : ℕ) (k : Make) (p : JobState) (c : TransferState) (dev : AbstractDevice) → DeviceInvariant k dev → IsLeftBy i d k dev (image_off i c dev)
off_left i d k p c dev f = action_left i d k (record p { image = true; session = record p.session { transfer = c } }) dev (actions.LosesImage false) refl f

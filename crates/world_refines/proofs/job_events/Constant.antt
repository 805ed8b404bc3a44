-- What no event changes: the users, the devices' infos, the jobs, and what never changes of each device.
use Rattle.std.proofs.Common.{◌≡◌, ◌∙◌, ◌⊎◌, ℕ, List, [], ◌∷◌, inl, inr, refl, ap}
use Rattle.page_picture.specs.Source.{SourceState}
use Rattle.page_sources.specs.declared.kinds.Source.{Source}
use Rattle.sane_fixed.specs.declared.device_info.DeviceInfo.{DeviceInfo}
use Rattle.md5_auth.specs.declared.users.Entry.{Entry}
use Rattle.scan_job.specs.declared.job.Job.{Job}
use Rattle.system_model.specs.Actions as model_actions
use Rattle.system_model.specs.SystemStates.{SystemState}
use Rattle.system_model.specs.Transitions.{By, Loads, Transition, Unplugs, Uses, after_all, after_transition}
use Rattle.event_world.specs.declared.event.Event.{Event}
use Rattle.event_world.specs.declared.event.Event.TheVariants.{Connect, ToDaemon, ToClient, DataConnect, DataTurn, DataToClient, LoseControl, LoseImage, Cancel, Load, Unplug}
use Rattle.event_world.specs.declared.event.JobEvent.TheVariants as events
use Rattle.world_refines.specs.GhostStates.{Ghost, Wires}
use Rattle.world_refines.specs.Answering.{AnswersSome}
use Rattle.world_refines.specs.Answering.AnswersSome.{GoesOn, IsOver, BreaksOff, WasOver}
use Rattle.world_refines.specs.ClientDeliveries.{Delivers, GhostHears}
use Rattle.world_refines.specs.GhostEvents.{GhostCan, CanLoad, CanUnplug, GhostConnects, GhostHappens, GhostSends, GhostTakes}
use Rattle.world_refines.specs.MainTheorem.{GhostComes, GhostComesAll}

pub makes_stay : (s : SystemState) (xs : List Transition) → (after_all s xs).make ≡ s.make
makes_stay s [] = refl
makes_stay s (By i x ∷ xs) = makes_stay (after_transition s (By i x)) xs
makes_stay s (Loads d page ∷ xs) = makes_stay (after_transition s (Loads d page)) xs
makes_stay s (Unplugs d ∷ xs) = makes_stay (after_transition s (Unplugs d)) xs
makes_stay s (Uses i d shown left ∷ xs) = makes_stay (after_transition s (Uses i d shown left)) xs

abbrev pub Fixed : Type 0
Fixed = List Entry × List DeviceInfo × ℕ × (ℕ → Job)

abbrev pub fixed_of : Ghost → Fixed
fixed_of t = (t.users, t.infos, t.count, t.jobs)

fixed_way : (May What : Type 0) (t : Ghost) (steps : List Transition) (u : Ghost) → (What → fixed_of u ≡ fixed_of t) → GhostHappens May What t steps u → fixed_of u ≡ fixed_of t
fixed_way May What t steps u done h = by_case h.either
  where
    by_case : May ⊎ (May → ⊥) → fixed_of u ≡ fixed_of t
    by_case (inl m) = done (h.does m)
    by_case (inr n) = ap fixed_of (h.cannot n).1

takes : (t : Ghost) (i : ℕ) (steps : List Transition) (x : Wires) (u : Ghost) → GhostTakes t i steps x u → fixed_of u ≡ fixed_of t
takes t i steps x u h = ap fixed_of h.then_is

delivers : (t : Ghost) (i n : ℕ) (telling text : List ℕ) (steps : List Transition) (u : Ghost) → Delivers t i n telling text steps u → fixed_of u ≡ fixed_of t
delivers t i n telling text steps u h = ap fixed_of h.then_is

fixed_connects : (t : Ghost) (i : ℕ) (steps : List Transition) (u : Ghost) → GhostConnects t i steps u → fixed_of u ≡ fixed_of t
fixed_connects t i steps u (inl h) = takes t i steps _ u h.1
fixed_connects t i steps u (inr h) = takes t i steps _ u h.1

fixed_sends : (t : Ghost) (i : ℕ) (this_action : model_actions.Action) (text : List ℕ) (steps : List Transition) (u : Ghost) → GhostSends t i this_action text steps u → fixed_of u ≡ fixed_of t
fixed_sends t i this_action text steps u (inl h) = takes t i steps _ u h.1
fixed_sends t i this_action text steps u (inr h) = takes t i steps _ u h.1

fixed_answers : (n : ℕ) (t : Ghost) (i : ℕ) (steps : List Transition) (u : Ghost) → AnswersSome n t i steps u → fixed_of u ≡ fixed_of t
fixed_answers n t i steps u (GoesOn asked rest said a b c h on) = takes t i steps _ u h
fixed_answers n t i steps u (IsOver asked rest said a b h was over) = takes t i steps _ u h
fixed_answers n t i steps u (BreaksOff memory asked rest said before a b cut c h) = takes t i steps _ u h
fixed_answers n t i steps u (WasOver a b h) = takes t i [] _ u h

fixed_hears : (n : ℕ) (t : Ghost) (i : ℕ) (steps : List Transition) (u : Ghost) → GhostHears n t i steps u → fixed_of u ≡ fixed_of t
fixed_hears n t i steps u (inl h) = takes t i steps _ u h.takes
fixed_hears n t i steps u (inr (under, inl h)) = delivers t i n h.telling [] steps u h.delivers
fixed_hears n t i steps u (inr (under, inr (inl h))) = delivers t i n [] h.text steps u h.delivers
fixed_hears n t i steps u (inr (under, inr (inr (inl h)))) = delivers t i n h.telling [] steps u h.delivers
fixed_hears n t i steps u (inr (under, inr (inr (inr h)))) = delivers t i n h.telling h.text steps u h.delivers

pub stays_fixed : (source : Source → SourceState) (e : Event) (t : Ghost) (steps : List Transition) (u : Ghost) → GhostComes source e t steps u → fixed_of u ≡ fixed_of t
stays_fixed source (Connect i) t steps u h = fixed_way (GhostCan t i events.Connect) _ t steps u (fixed_connects t i steps u) h
stays_fixed source (ToDaemon i n) t steps u h = fixed_way (GhostCan t i (events.ToDaemon n)) _ t steps u (fixed_answers n t i steps u) h
stays_fixed source (ToClient i n) t steps u h = fixed_way (GhostCan t i (events.ToClient n)) _ t steps u (fixed_hears n t i steps u) h
stays_fixed source (DataConnect i) t steps u h = fixed_way (GhostCan t i events.DataConnect) _ t steps u (λ d. takes t i steps _ u d.1) h
stays_fixed source (DataTurn i) t steps u h = fixed_way (GhostCan t i events.DataTurn) _ t steps u (λ d. fixed_sends t i d.action d.text steps u d.sends) h
stays_fixed source (DataToClient i n) t steps u h = fixed_way (GhostCan t i (events.DataToClient n)) _ t steps u (λ d. ap fixed_of d.then_is) h
stays_fixed source (LoseControl i) t steps u h = fixed_way (GhostCan t i events.LoseControl) _ t steps u (λ d. takes t i steps _ u d.1) h
stays_fixed source (LoseImage i) t steps u h = fixed_way (GhostCan t i events.LoseImage) _ t steps u (λ d. takes t i steps _ u d.1) h
stays_fixed source (Cancel i) t steps u h = fixed_way (GhostCan t i events.Cancel) _ t steps u (λ d. takes t i steps _ u d.takes) h
stays_fixed source (Load name page) t steps u h = fixed_way (CanLoad t name) _ t steps u (λ d. ap fixed_of d.then_is) h
stays_fixed source (Unplug name) t steps u h = fixed_way (CanUnplug t name) _ t steps u (λ d. ap fixed_of d.then_is) h

pub all_fixed : (source : Source → SourceState) (es : List Event) (t : Ghost) (steps : List Transition) (u : Ghost) → GhostComesAll source es t steps u → fixed_of u ≡ fixed_of t
all_fixed source [] t steps u h = ap fixed_of h.1
all_fixed source (e ∷ es) t steps v (first, more, u, is, one, rest) = all_fixed source es u more v rest ∙ stays_fixed source e t first u one

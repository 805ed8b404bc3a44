-- Each event takes steps of its own kind.
use Rattle.std.specs.List.{AllByRecursion}
use Rattle.std.proofs.Common.{◌≡◌, ◌⊎◌, ℕ, List, [], ◌∷◌, ◌++◌, true, false, Some, inl, inr, refl, sym, ap, subst}
use Rattle.page_sources.specs.SourceView.{source_state}
use Rattle.sane_fixed.specs.declared.device_info.DeviceInfo.{DeviceInfo}
use Rattle.system_model.specs.Actions as model_actions
use Rattle.system_model.specs.Client.{JobStage, Idle, Running, Done, Ended}
use Rattle.system_model.specs.Deliveries.{Chance, answers}
use Rattle.system_model.specs.AbstractDevices.{AbstractDevice}
use Rattle.system_model.specs.Marks.{Mark}
use Rattle.system_model.specs.Transitions.{By, IsUnderWay, Loads, Transition, Unplugs, Uses}
use Rattle.event_world.specs.declared.event.Event.{Event}
use Rattle.event_world.specs.declared.event.Event.TheVariants.{Connect, ToDaemon, ToClient, DataConnect, DataTurn, DataToClient, LoseControl, LoseImage, Cancel, Load, Unplug}
use Rattle.event_world.specs.declared.event.JobEvent.{JobEvent}
use Rattle.event_world.specs.declared.event.JobEvent.TheVariants as events
use Rattle.world_refines.specs.GhostStates.{Ghost, name_at, job_state}
use Rattle.world_refines.specs.Answering.{AnswersEach, AnswersSome}
use Rattle.world_refines.specs.Answering.AnswersSome.{GoesOn, IsOver, BreaksOff, WasOver}
use Rattle.world_refines.specs.ClientDeliveries.{GhostHears}
use Rattle.world_refines.specs.GhostEvents.{GhostCan, CanLoad, CanUnplug, GhostConnects, GhostHappens, IsRecordOf, GhostSends}
use Rattle.world_refines.specs.DataDeliveries.{ReadsBytes, GhostReadsEnd, ReadsShort, GhostSees, by_all, read_actions}
use Rattle.world_refines.specs.MainTheorem.{GhostComes, GhostComesAll}
use Rattle.world_refines.proofs.job_events.Constant.{Fixed, stays_fixed}
use Rattle.scan_world.proofs.Lists.{In, all_each, all_then}

-- what an event of a job may do by the rules
abbrev pub ActionOf : JobEvent → model_actions.Action → Type 0
ActionOf events.Connect model_actions.Connects = Unit {0}
ActionOf events.Connect (model_actions.Loses true) = Unit {0}
ActionOf events.Connect x = ⊥
ActionOf (events.ToDaemon n) (model_actions.Answers challenge fault) = Unit {0}
ActionOf (events.ToDaemon n) (model_actions.Breaks memory) = Unit {0}
ActionOf (events.ToDaemon n) x = ⊥
ActionOf (events.ToClient n) (model_actions.Hears reply) = Unit {0}
ActionOf (events.ToClient n) model_actions.RunsOutOfMemory = Unit {0}
ActionOf (events.ToClient n) x = ⊥
ActionOf events.DataConnect model_actions.Dials = Unit {0}
ActionOf events.DataConnect x = ⊥
ActionOf events.DataTurn (model_actions.Turns bytes) = Unit {0}
ActionOf events.DataTurn model_actions.TurnsLast = Unit {0}
ActionOf events.DataTurn model_actions.TurnsShort = Unit {0}
ActionOf events.DataTurn (model_actions.TurnsNamed status) = Unit {0}
ActionOf events.DataTurn (model_actions.TurnsFault fault) = Unit {0}
ActionOf events.DataTurn model_actions.TurnsOff = Unit {0}
ActionOf events.DataTurn (model_actions.LosesImage true) = Unit {0}
ActionOf events.DataTurn x = ⊥
ActionOf (events.DataToClient n) (model_actions.Reads bytes) = Unit {0}
ActionOf (events.DataToClient n) (model_actions.Finishes status) = Unit {0}
ActionOf (events.DataToClient n) model_actions.RunsOutOfMemory = Unit {0}
ActionOf (events.DataToClient n) x = ⊥
ActionOf events.LoseControl (model_actions.Loses false) = Unit {0}
ActionOf events.LoseControl x = ⊥
ActionOf events.LoseImage (model_actions.LosesImage false) = Unit {0}
ActionOf events.LoseImage x = ⊥
ActionOf events.Cancel model_actions.Stops = Unit {0}
ActionOf events.Cancel x = ⊥

abbrev pub ByOf : ℕ → JobEvent → Transition → Type 0
ByOf i w (By j x) = (j ≡ i) × ActionOf w x
ByOf i w (Loads d page) = ⊥
ByOf i w (Unplugs d) = ⊥
ByOf i w (Uses u d shown left) = ⊥

abbrev pub StepOf : List DeviceInfo → Event → Transition → Type 0
StepOf infos (Connect i) x = ByOf i events.Connect x
StepOf infos (ToDaemon i n) x = ByOf i (events.ToDaemon n) x
StepOf infos (ToClient i n) x = ByOf i (events.ToClient n) x
StepOf infos (DataConnect i) x = ByOf i events.DataConnect x
StepOf infos (DataTurn i) x = ByOf i events.DataTurn x
StepOf infos (DataToClient i n) x = ByOf i (events.DataToClient n) x
StepOf infos (LoseControl i) x = ByOf i events.LoseControl x
StepOf infos (LoseImage i) x = ByOf i events.LoseImage x
StepOf infos (Cancel i) x = ByOf i events.Cancel x
StepOf infos (Load name source) (Loads d page) = (name_at infos d ≡ Some name) × ((source_state source).page ≡ page)
StepOf infos (Load name source) (By i x) = ⊥
StepOf infos (Load name source) (Unplugs d) = ⊥
StepOf infos (Load name source) (Uses u d shown left) = ⊥
StepOf infos (Unplug name) (Unplugs d) = name_at infos d ≡ Some name
StepOf infos (Unplug name) (By i x) = ⊥
StepOf infos (Unplug name) (Loads d page) = ⊥
StepOf infos (Unplug name) (Uses u d shown left) = ⊥

-- no event is a use by a client without a job
pub no_use : (infos : List DeviceInfo) (e : Event) (u d : ℕ) (shown : List Mark) (left : AbstractDevice) → StepOf infos e (Uses u d shown left) → ⊥
no_use infos (Connect i) u d shown left of = of
no_use infos (ToDaemon i n) u d shown left of = of
no_use infos (ToClient i n) u d shown left of = of
no_use infos (DataConnect i) u d shown left of = of
no_use infos (DataTurn i) u d shown left of = of
no_use infos (DataToClient i n) u d shown left of = of
no_use infos (LoseControl i) u d shown left of = of
no_use infos (LoseImage i) u d shown left of = of
no_use infos (Cancel i) u d shown left of = of
no_use infos (Load name source) u d shown left of = of
no_use infos (Unplug name) u d shown left of = of

abbrev pub AreOf : List DeviceInfo → Event → List Transition → Type 0
AreOf infos e steps = AllByRecursion (StepOf infos e) steps

abbrev AreBy : ℕ → JobEvent → List Transition → Type 0
AreBy i w steps = AllByRecursion (ByOf i w) steps

under_way : (stage : JobStage) → IsUnderWay stage ⊎ (IsUnderWay stage → ⊥)
under_way Idle = inl tt
under_way (Running g) = inl tt
under_way Done = inr (λ e. e)
under_way (Ended status why) = inr (λ e. e)

steps_by : (P : Transition → Type 0) (xs ys : List Transition) → xs ≡ ys → AllByRecursion P ys → AllByRecursion P xs
steps_by P xs ys e a = subst (λ (x : List Transition). AllByRecursion P x) (sym e) a

either_way : (P : Transition → Type 0) (May What : Type 0) (t : Ghost) (steps : List Transition) (u : Ghost) → (What → AllByRecursion P steps) → GhostHappens May What t steps u → AllByRecursion P steps
either_way P May What t steps u done h = by_case h.either
  where
    by_case : May ⊎ (May → ⊥) → AllByRecursion P steps
    by_case (inl m) = done (h.does m)
    by_case (inr n) = steps_by P steps [] (h.cannot n).0 tt

answers_by : (i n : ℕ) (chances : List Chance) → AreBy i (events.ToDaemon n) (answers i chances)
answers_by i n [] = tt
answers_by i n (chance ∷ chances) = ((refl, tt), answers_by i n chances)

each_by : (i n : ℕ) (asked : _) (steps : List Transition) → AnswersEach i asked steps → AreBy i (events.ToDaemon n) steps
each_by i n asked steps h = steps_by (ByOf i (events.ToDaemon n)) steps (answers i h.chances) h.steps_are (answers_by i n h.chances)

daemon_by : (n : ℕ) (t : Ghost) (i : ℕ) (steps : List Transition) (u : Ghost) → AnswersSome n t i steps u → AreBy i (events.ToDaemon n) steps
daemon_by n t i steps u (GoesOn asked rest said a b c h on) = each_by i n asked steps c
daemon_by n t i steps u (IsOver asked rest said a b h was over) = each_by i n asked steps b
daemon_by n t i steps u (BreaksOff memory asked rest said before a b cut c h) =
    steps_by (ByOf i (events.ToDaemon n)) steps (before ++ By i (model_actions.Breaks memory) ∷ []) c (all_then (ByOf i (events.ToDaemon n)) before (By i (model_actions.Breaks memory) ∷ []) (each_by i n asked before b) ((refl, tt), tt))
daemon_by n t i steps u (WasOver a b h) = steps_by (ByOf i (events.ToDaemon n)) steps [] b tt

hears_by : (n : ℕ) (t : Ghost) (i : ℕ) (steps : List Transition) (u : Ghost) → GhostHears n t i steps u → AreBy i (events.ToClient n) steps
hears_by n t i steps u (inl h) = steps_by _ steps [] h.steps_are tt
hears_by n t i steps u (inr (under, inl h)) = steps_by _ steps [] h.steps_are tt
hears_by n t i steps u (inr (under, inr (inl h))) = steps_by _ steps (By i (model_actions.Hears h.reply) ∷ []) h.steps_are ((refl, tt), tt)
hears_by n t i steps u (inr (under, inr (inr (inl h)))) = steps_by _ steps (By i model_actions.RunsOutOfMemory ∷ []) h.steps_are ((refl, tt), tt)
hears_by n t i steps u (inr (under, inr (inr (inr h)))) = steps_by _ steps (By i (model_actions.Hears h.reply) ∷ By i model_actions.RunsOutOfMemory ∷ []) h.steps_are ((refl, tt), ((refl, tt), tt))

connects_by : (t : Ghost) (i : ℕ) (steps : List Transition) (u : Ghost) → GhostConnects t i steps u → AreBy i events.Connect steps
connects_by t i steps u (inl h) = steps_by _ steps (By i model_actions.Connects ∷ []) h.0 ((refl, tt), tt)
connects_by t i steps u (inr h) = steps_by _ steps (By i model_actions.Connects ∷ By i (model_actions.Loses true) ∷ []) h.0 ((refl, tt), ((refl, tt), tt))

record_by : (this_action : model_actions.Action) (text : List ℕ) → IsRecordOf this_action text → ActionOf events.DataTurn this_action
record_by (model_actions.Turns bytes) text h = tt
record_by model_actions.TurnsLast text h = tt
record_by model_actions.TurnsShort text h = tt
record_by (model_actions.TurnsNamed status) text h = tt
record_by (model_actions.TurnsFault fault) text h = tt
record_by model_actions.TurnsOff text h = tt
record_by this_action text h = absurd h

sends_by : (t : Ghost) (i : ℕ) (this_action : model_actions.Action) (text : List ℕ) (steps : List Transition) (u : Ghost) → ActionOf events.DataTurn this_action → GhostSends t i this_action text steps u → AreBy i events.DataTurn steps
sends_by t i this_action text steps u d (inl h) = steps_by _ steps (By i this_action ∷ []) h.0 ((refl, d), tt)
sends_by t i this_action text steps u d (inr h) = steps_by _ steps (By i this_action ∷ By i (model_actions.LosesImage true) ∷ []) h.0 ((refl, d), ((refl, tt), tt))

come_by : (i n : ℕ) (come : List model_actions.Action) → AllByRecursion (ActionOf (events.DataToClient n)) come → AreBy i (events.DataToClient n) (by_all i come)
come_by i n [] a = tt
come_by i n (x ∷ xs) a = ((refl, a.0), come_by i n xs a.1)

reads_of : (n : ℕ) (bytes : List ℕ) → AllByRecursion (ActionOf (events.DataToClient n)) (read_actions bytes)
reads_of n [] = tt
reads_of n (b ∷ bytes) = (tt, tt)

abbrev AllOf : ℕ → List model_actions.Action → Type 0
AllOf n come = AllByRecursion (ActionOf (events.DataToClient n)) come

all_of : (n : ℕ) (xs ys : List model_actions.Action) → xs ≡ ys → AllOf n ys → AllOf n xs
all_of n xs ys e a = subst (AllOf n) (sym e) a

reads_by : (n : ℕ) (t : Ghost) (i : ℕ) (u : Ghost) (come : List model_actions.Action) (piece sent : List ℕ) (phase : _) → ReadsBytes phase piece come sent ⊎ (GhostReadsEnd phase piece come t i u sent ⊎ ReadsShort phase piece come sent) → AllOf n come
reads_by n t i u come piece sent phase (inl h) = all_of n come (read_actions h.given) h.steps_are (reads_of n h.given)
reads_by n t i u come piece sent phase (inr (inl h)) = all_of n come _ h.steps_are (all_then (ActionOf (events.DataToClient n)) (read_actions h.given) _ (reads_of n h.given) (tt, tt))
reads_by n t i u come piece sent phase (inr (inr h)) = all_of n come _ h.steps_are (all_then (ActionOf (events.DataToClient n)) (read_actions h.given) _ (reads_of n h.given) (tt, tt))

sees_by : (n : ℕ) (t : Ghost) (i : ℕ) (steps : List Transition) (u : Ghost) → GhostSees n t i steps u → AreBy i (events.DataToClient n) steps
sees_by n t i steps u h = steps_by _ steps (by_all i h.come) h.steps_are (come_by i n h.come (by_stage (under_way (job_state t i).client.stage)))
  where
    by_stage : IsUnderWay (job_state t i).client.stage ⊎ (IsUnderWay (job_state t i).client.stage → ⊥) → AllOf n h.come
    by_stage (inl on) = let r = h.reads_on on in reads_by n t i u h.come _ h.sent r.phase r.comes
    by_stage (inr off) = all_of n h.come [] (h.ignores off).0 tt

pub comes_of : (e : Event) (t : Ghost) (steps : List Transition) (u : Ghost) → GhostComes source_state e t steps u → AreOf t.infos e steps
comes_of (Connect i) t steps u h = either_way _ (GhostCan t i events.Connect) _ t steps u (connects_by t i steps u) h
comes_of (ToDaemon i n) t steps u h = either_way _ (GhostCan t i (events.ToDaemon n)) _ t steps u (daemon_by n t i steps u) h
comes_of (ToClient i n) t steps u h = either_way _ (GhostCan t i (events.ToClient n)) _ t steps u (hears_by n t i steps u) h
comes_of (DataConnect i) t steps u h = either_way _ (GhostCan t i events.DataConnect) _ t steps u (λ d. steps_by (ByOf i events.DataConnect) steps (By i model_actions.Dials ∷ []) d.0 ((refl, tt), tt)) h
comes_of (DataTurn i) t steps u h = either_way _ (GhostCan t i events.DataTurn) _ t steps u (λ d. sends_by t i d.action d.text steps u (record_by d.action d.text d.is) d.sends) h
comes_of (DataToClient i n) t steps u h = either_way _ (GhostCan t i (events.DataToClient n)) _ t steps u (sees_by n t i steps u) h
comes_of (LoseControl i) t steps u h = either_way _ (GhostCan t i events.LoseControl) _ t steps u (λ d. steps_by (ByOf i events.LoseControl) steps (By i (model_actions.Loses false) ∷ []) d.0 ((refl, tt), tt)) h
comes_of (LoseImage i) t steps u h = either_way _ (GhostCan t i events.LoseImage) _ t steps u (λ d. steps_by (ByOf i events.LoseImage) steps (By i (model_actions.LosesImage false) ∷ []) d.0 ((refl, tt), tt)) h
comes_of (Cancel i) t steps u h = either_way _ (GhostCan t i events.Cancel) _ t steps u (λ d. steps_by (ByOf i events.Cancel) steps (By i model_actions.Stops ∷ []) d.steps_are ((refl, tt), tt)) h
comes_of (Load name source) t steps u h = either_way _ (CanLoad t name) _ t steps u (λ d. steps_by (StepOf t.infos (Load name source)) steps (Loads d.place (source_state source).page ∷ []) d.steps_are ((d.named, refl), tt)) h
comes_of (Unplug name) t steps u h = either_way _ (CanUnplug t name) _ t steps u (λ d. steps_by (StepOf t.infos (Unplug name)) steps (Unplugs d.place ∷ []) d.steps_are (d.named, tt)) h

-- ---- the steps of a connection

abbrev pub IsConnection : Event → List Transition → Type 0
IsConnection (Connect i) steps = (steps ≡ []) ⊎ ((steps ≡ By i model_actions.Connects ∷ []) ⊎ (steps ≡ By i model_actions.Connects ∷ By i (model_actions.Loses true) ∷ []))
IsConnection e steps = Unit {0}

connects_so : (t : Ghost) (i : ℕ) (steps : List Transition) (u : Ghost) → GhostConnects t i steps u → IsConnection (Connect i) steps
connects_so t i steps u (inl h) = inr (inl h.0)
connects_so t i steps u (inr h) = inr (inr h.0)

connected_by : (t : Ghost) (i : ℕ) (steps : List Transition) (u : Ghost) → GhostHappens (GhostCan t i events.Connect) (GhostConnects t i steps u) t steps u → IsConnection (Connect i) steps
connected_by t i steps u h = by_case h.either
  where
    by_case : GhostCan t i events.Connect ⊎ (GhostCan t i events.Connect → ⊥) → IsConnection (Connect i) steps
    by_case (inl m) = connects_so t i steps u (h.does m)
    by_case (inr n) = inl (h.cannot n).0

connection_of : (e : Event) (t : Ghost) (steps : List Transition) (u : Ghost) → GhostComes source_state e t steps u → IsConnection e steps
connection_of (Connect i) t steps u h = connected_by t i steps u h
connection_of (ToDaemon i n) t steps u h = tt
connection_of (ToClient i n) t steps u h = tt
connection_of (DataConnect i) t steps u h = tt
connection_of (DataTurn i) t steps u h = tt
connection_of (DataToClient i n) t steps u h = tt
connection_of (LoseControl i) t steps u h = tt
connection_of (LoseImage i) t steps u h = tt
connection_of (Cancel i) t steps u h = tt
connection_of (Load name source) t steps u h = tt
connection_of (Unplug name) t steps u h = tt

-- ---- the steps of all events, one behind the other

abbrev pub Traced : List DeviceInfo → List Event → List Transition → Type 0
Traced infos [] steps = steps ≡ []
Traced infos (e ∷ es) steps = (first more : List Transition) × (steps ≡ first ++ more) × AreOf infos e first × IsConnection e first × Traced infos es more

pub traced : (es : List Event) (t : Ghost) (steps : List Transition) (u : Ghost) → GhostComesAll source_state es t steps u → Traced t.infos es steps
traced [] t steps u h = h.0
traced (e ∷ es) t steps v (first, more, u, is, one, rest) =
    (first, more, is, comes_of e t first u one, connection_of e t first u one, subst (λ (infos : List DeviceInfo). Traced infos es more) (ap (λ (f : Fixed). f.1) (stays_fixed source_state e t first u one)) (traced es u more v rest))

-- each of them is of one of the events
pub record IsOfSome (infos : List DeviceInfo) (es : List Event) (x : Transition) : Type 0 where
  pub event : Event
  pub among : In event es
  pub is : StepOf infos event x

pub each_of : (infos : List DeviceInfo) (es : List Event) (steps : List Transition) → Traced infos es steps → AllByRecursion (IsOfSome infos es) steps
each_of infos [] steps h = steps_of steps h
  where
    steps_of : (steps : List Transition) → steps ≡ [] → AllByRecursion (IsOfSome infos []) steps
    steps_of xs e = subst (λ (x : List Transition). AllByRecursion (IsOfSome infos []) x) (sym e) tt
each_of infos (e ∷ es) steps (first, more, is, of, link, rest) =
    subst (λ (x : List Transition). AllByRecursion (IsOfSome infos (e ∷ es)) x) (sym is)
    (all_then (IsOfSome infos (e ∷ es)) first more
    (all_each (StepOf infos e) (IsOfSome infos (e ∷ es)) first (λ x o. record { event = e; among = inl refl; is = o }) of)
    (all_each (IsOfSome infos es) (IsOfSome infos (e ∷ es)) more (λ x o. record { event = o.event; among = inr o.among; is = o.is }) (each_of infos es more rest)))

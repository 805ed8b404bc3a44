-- The page that a job starts, where strangers left it in its place and no event brings another.
use Rattle.std.specs.Prelude.{cond, eqb}
use Rattle.std.specs.List.{AllByRecursion}
use Rattle.std.proofs.Common.{◌≡◌, ◌∙◌, inl, inr, ℕ, List, [], ◌∷◌, ◌++◌, Bool, true, false, refl, sym, ap, subst, append-nil, eqb-true}
use Rattle.page_sources.specs.SourceView.{source_state}
use Rattle.sane_fixed.specs.declared.device_info.DeviceInfo.{DeviceInfo}
use Rattle.device_api.specs.Kinds.{Page}
use Rattle.system_model.specs.AbstractDevices.{Begin}
use Rattle.system_model.specs.Actions.{Action}
use Rattle.system_model.specs.Devices.{Make}
use Rattle.system_model.specs.Invariants.{Invariant}
use Rattle.system_model.specs.Marks.{IsMarkOf, Mark, MarksLead, device_view, starts_in}
use Rattle.system_model.specs.StepMarks.{marks, touched_device}
use Rattle.system_model.specs.ModelPromises.{HistoriesKeepInvariant, NotesAreTrue}
use Rattle.system_model.specs.MoveRuns.{HistoryMarksAreEnabled, marks_at}
use Rattle.system_model.specs.SystemStates.{JobState, SystemState, device_for, listed_devices, make_for, wanted_place}
use Rattle.system_model.specs.Transitions.{By, IsHistory, Loads, Transition, Unplugs, Uses, after_all, after_transition}
use Rattle.event_world.specs.declared.event.Event.{Event}
use Rattle.event_world.specs.declared.event.Event.TheVariants.{Connect, ToDaemon, ToClient, DataConnect, DataTurn, DataToClient, LoseControl, LoseImage, Cancel, Load, Unplug}
use Rattle.world_refines.specs.GhostStates.{Ghost}
use Rattle.world_refines.specs.MainTheorem.{GhostComesAll}
use Rattle.scan_world.proofs.Lists.{In, all_each, all_then}
use Rattle.scan_world.proofs.Begun.{party_stays, wants_same}
use Rattle.scan_world.proofs.Marked.{IsThere, LoadsIt, Slotted, StartsIt, mine_loads, slotted_then, starts_all, starts_there}
use Rattle.system_model.proofs.OwnMarks.{action_mine}
use Rattle.scan_world.proofs.NextMoves.{LoadsNothing}
use Rattle.scan_world.proofs.Traced.{IsOfSome, StepOf, each_of, traced}

-- ---- no step lays a page in

abbrev pub LaysNone : Transition → Type 0
LaysNone (By i x) = Unit {0}
LaysNone (Loads d page) = ⊥
LaysNone (Unplugs d) = ⊥
LaysNone (Uses u d shown left) = ⊥

of_quiet : (infos : List DeviceInfo) (e : Event) (x : Transition) → LoadsNothing e → StepOf infos e x → LaysNone x
of_quiet infos (Load name source) x none of = absurd none
of_quiet infos (Unplug name) x none of = absurd none
of_quiet infos (Connect i) (By j x) none of = tt
of_quiet infos (Connect i) (Loads d page) none of = absurd of
of_quiet infos (Connect i) (Unplugs d) none of = absurd of
of_quiet infos (Connect i) (Uses u d shown left) none of = absurd of
of_quiet infos (ToDaemon i n) (By j x) none of = tt
of_quiet infos (ToDaemon i n) (Loads d page) none of = absurd of
of_quiet infos (ToDaemon i n) (Unplugs d) none of = absurd of
of_quiet infos (ToDaemon i n) (Uses u d shown left) none of = absurd of
of_quiet infos (ToClient i n) (By j x) none of = tt
of_quiet infos (ToClient i n) (Loads d page) none of = absurd of
of_quiet infos (ToClient i n) (Unplugs d) none of = absurd of
of_quiet infos (ToClient i n) (Uses u d shown left) none of = absurd of
of_quiet infos (DataConnect i) (By j x) none of = tt
of_quiet infos (DataConnect i) (Loads d page) none of = absurd of
of_quiet infos (DataConnect i) (Unplugs d) none of = absurd of
of_quiet infos (DataConnect i) (Uses u d shown left) none of = absurd of
of_quiet infos (DataTurn i) (By j x) none of = tt
of_quiet infos (DataTurn i) (Loads d page) none of = absurd of
of_quiet infos (DataTurn i) (Unplugs d) none of = absurd of
of_quiet infos (DataTurn i) (Uses u d shown left) none of = absurd of
of_quiet infos (DataToClient i n) (By j x) none of = tt
of_quiet infos (DataToClient i n) (Loads d page) none of = absurd of
of_quiet infos (DataToClient i n) (Unplugs d) none of = absurd of
of_quiet infos (DataToClient i n) (Uses u d shown left) none of = absurd of
of_quiet infos (LoseControl i) (By j x) none of = tt
of_quiet infos (LoseControl i) (Loads d page) none of = absurd of
of_quiet infos (LoseControl i) (Unplugs d) none of = absurd of
of_quiet infos (LoseControl i) (Uses u d shown left) none of = absurd of
of_quiet infos (LoseImage i) (By j x) none of = tt
of_quiet infos (LoseImage i) (Loads d page) none of = absurd of
of_quiet infos (LoseImage i) (Unplugs d) none of = absurd of
of_quiet infos (LoseImage i) (Uses u d shown left) none of = absurd of
of_quiet infos (Cancel i) (By j x) none of = tt
of_quiet infos (Cancel i) (Loads d page) none of = absurd of
of_quiet infos (Cancel i) (Unplugs d) none of = absurd of
of_quiet infos (Cancel i) (Uses u d shown left) none of = absurd of

in_quiet : (es : List Event) (e : Event) → AllByRecursion LoadsNothing es → In e es → LoadsNothing e
in_quiet [] e none among = absurd among
in_quiet (x ∷ es) e none (inl is) = subst LoadsNothing (sym is) none.0
in_quiet (x ∷ es) e none (inr later) = in_quiet es e none.1 later

pub lays_none : (es : List Event) (t u : Ghost) (steps : List Transition) → AllByRecursion LoadsNothing es → GhostComesAll source_state es t steps u → AllByRecursion LaysNone steps
lays_none es t u steps none comes =
    all_each (IsOfSome t.infos es) LaysNone steps (λ x of. of_quiet t.infos of.event x (in_quiet es of.event none of.among) of.is) (each_of t.infos es steps (traced es t steps u comes))

-- ---- so what is started is what lay there

loads_so : (P : Page → Type 0) (d : ℕ) (s : SystemState) (x : Transition) (b : Bool) → LaysNone x → AllByRecursion (LoadsIt P) (cond b (marks s x) [])
loads_so P d s x false none = tt
loads_so P d s (By j x) true none = all_each (IsMarkOf j (wanted_place s j)) (LoadsIt P) (marks s (By j x)) (mine_loads P j (wanted_place s j)) (action_mine j (wanted_place s j) (make_for s j) (listed_devices s) (s.job j) (device_for s j) x)
loads_so P d s (Loads place page) true none = absurd none
loads_so P d s (Unplugs place) true none = absurd none
loads_so P d s (Uses u place shown left) true none = absurd none

abbrev AllThere : Type 0 → (Page → Type 0) → List Begin → Type 0
AllThere D P begins = AllByRecursion (IsThere D P) begins

begun_by : NotesAreTrue → (D : Type 0) (P : Page → Type 0) (i d : ℕ) (s : SystemState) (j : ℕ) (x : Action) (b : Bool) → eqb i j ≡ b → wanted_place s i ≡ d → AllByRecursion (StartsIt (IsThere D P)) (marks_at d s (By j x)) → AllThere D P (s.job i).session.started → AllThere D P ((after_transition s (By j x)).job i).session.started
begun_by notes D P i d s j x false other wants starts old = subst (λ (p : JobState). AllThere D P p.session.started) (sym (party_stays s j x i other)) old
begun_by notes D P i d s j x true mine wants starts old =
    let same : i ≡ j = eqb-true i j mine in
    let own : eqb d (wanted_place s j) ≡ true = ap (λ (k : ℕ). eqb d (wanted_place s k)) (sym same) ∙ (ap (eqb d) wants ∙ Rattle.daemon_refines.proofs.Moved.own d) in
    let shown : AllByRecursion (StartsIt (IsThere D P)) (marks s (By j x)) = subst (λ (b : Bool). AllByRecursion (StartsIt (IsThere D P)) (cond b (marks s (By j x)) [])) own starts in
    let begun : AllThere D P ((s.job j).session.started ++ starts_in (marks s (By j x))) =
    all_then (IsThere D P) (s.job j).session.started (starts_in (marks s (By j x))) (subst (λ (k : ℕ). AllThere D P (s.job k).session.started) same old) (starts_all (IsThere D P) (marks s (By j x)) shown) in
    subst (λ (k : ℕ). AllThere D P ((after_transition s (By j x)).job k).session.started) (sym same) (subst (AllThere D P) (sym (notes s j x).0) begun)

begun_at : NotesAreTrue → (D : Type 0) (P : Page → Type 0) (i d : ℕ) (s : SystemState) (x : Transition) → LaysNone x → wanted_place s i ≡ d → AllByRecursion (StartsIt (IsThere D P)) (marks_at d s x) → AllThere D P (s.job i).session.started → AllThere D P ((after_transition s x).job i).session.started
begun_at notes D P i d s (By j x) none wants starts old = begun_by notes D P i d s j x (eqb i j) refl wants starts old
begun_at notes D P i d s (Loads place page) none wants starts old = absurd none
begun_at notes D P i d s (Unplugs place) none wants starts old = absurd none
begun_at notes D P i d s (Uses u place shown left) none wants starts old = absurd none

-- the laws of the model that this rests on
pub record ModelLaws : Type 0 where
  pub notes : NotesAreTrue
  pub invariant : HistoriesKeepInvariant
  pub marks : HistoryMarksAreEnabled

same_make : (s : SystemState) (x : Transition) → (after_transition s x).make ≡ s.make
same_make s (By i x) = refl
same_make s (Loads d page) = refl
same_make s (Unplugs d) = refl
same_make s (Uses u d shown left) = refl

pub all_there : ModelLaws → (D : Type 0) (P : Page → Type 0) (i d : ℕ) (xs : List Transition) (s : SystemState) → Invariant s → IsHistory s xs → AllByRecursion LaysNone xs → wanted_place s i ≡ d → Slotted D P (device_view (s.make d) (s.device d)) → AllThere D P (s.job i).session.started → AllThere D P ((after_all s xs).job i).session.started
all_there laws D P i d [] s sound legal none wants there old = old
all_there laws D P i d (x ∷ xs) s sound legal none wants there old =
    let one : IsHistory s (x ∷ []) = (legal.0, tt) in
    let after = after_transition s x in
    let leads : MarksLead (device_view (s.make d) (s.device d)) (marks_at d s x) (device_view (s.make d) (after.device d)) = subst (λ (ms : List Mark). MarksLead (device_view (s.make d) (s.device d)) ms (device_view (s.make d) (after.device d))) (append-nil (marks_at d s x)) (laws.marks d s (x ∷ []) sound one) in
    let loads = loads_so P d s x (eqb d (touched_device s x)) none.0 in
    let starts = starts_there D P (marks_at d s x) _ _ leads loads there in
    let next : Slotted D P (device_view (after.make d) (after.device d)) = subst (λ (m : ℕ → Make). Slotted D P (device_view (m d) (after.device d))) (sym (same_make s x)) (slotted_then D P (marks_at d s x) _ _ leads loads there) in
    all_there laws D P i d xs after (laws.invariant s (x ∷ []) sound one) legal.1 none.1 (wants_same s x i ∙ wants) next (begun_at laws.notes D P i d s x none.0 wants starts old)

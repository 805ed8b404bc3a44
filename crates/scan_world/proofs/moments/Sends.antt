-- A turn in which a source fails puts the end with IO_ERROR onto its connection.
use Rattle.std.specs.Prelude.{cond, option_and_then, option_map, slice_get, IsSome}
use Rattle.std.specs.List.{AllByRecursion}
use Rattle.std.proofs.Common.{◌≡◌, ◌∙◌, ℕ, List, ◌++◌, Bool, true, false, Option, Some, None, inl, inr, refl, sym, ap, subst}
use Rattle.sane_fixed.specs.Status.{status_code}
use Rattle.sane_fixed.specs.declared.status.Status.TheVariants as codes
use Rattle.sane_fixed.specs.declared.device_info.DeviceInfo.{DeviceInfo}
use Rattle.data_records.specs.Records.{end_record}
use Rattle.page_sources.specs.SourceView.{source_state}
use Rattle.daemon_refines.proofs.Moved.{own}
use Rattle.system_model.specs.Actions as model_actions
use Rattle.system_model.specs.SystemStates.{with_entry}
use Rattle.system_model.specs.Transitions.{By, Transition}
use Rattle.event_world.specs.declared.endpoint.Endpoint.{Endpoint}
use Rattle.event_world.specs.declared.endpoint.Image.{Image}
use Rattle.event_world.specs.declared.event.Event.{Event}
use Rattle.event_world.specs.declared.event.Event.TheVariants.{Connect, ToDaemon, ToClient, DataConnect, DataTurn, DataToClient, LoseControl, LoseImage, Cancel, Load, Unplug}
use Rattle.event_world.specs.declared.event.JobEvent.TheVariants as moves
use Rattle.event_world.specs.Worlds.{WorldCore}
use Rattle.world_refines.specs.GhostEvents.{GhostCan, GhostHappens, GhostSends, GhostTurns, IsRecordOf, with_record, wires_with_image}
use Rattle.world_refines.specs.GhostStates.{Ghost, Wires, wires}
use Rattle.world_refines.specs.MainTheorem.{GhostComes}
use Rattle.world_refines.specs.WorldRefinement.{WorldRefines}
use Rattle.world_refines.proofs.requests.Waiting.{end_of}
use Rattle.scan_world.proofs.Rows.{SendsOrLoses, image_at}
use Rattle.scan_world.proofs.Events.{fault_event}
use Rattle.scan_world.proofs.Lists.{all_each}
use Rattle.scan_world.proofs.Traced.{StepOf, comes_of}

-- where a source fails in the step, its end came
abbrev pub FaultSends : WorldCore → WorldCore → Transition → Type 0
FaultSends before behind (By i (model_actions.TurnsFault fault)) = SendsOrLoses before behind i
FaultSends before behind x = Unit {0}

abbrev pub AllSend : WorldCore → WorldCore → List Transition → Type 0
AllSend before behind steps = AllByRecursion (FaultSends before behind) steps

-- ---- of no other event

abbrev IsNoTurn : Event → Type 0
IsNoTurn (DataTurn i) = ⊥
IsNoTurn e = Unit {0}

no_fault : (infos : List DeviceInfo) (before behind : WorldCore) (e : Event) → IsNoTurn e → (x : Transition) → StepOf infos e x → FaultSends before behind x
no_fault infos before behind e none (By i (model_actions.TurnsFault fault)) of = absurd (fault_event IsNoTurn infos i fault e none of)
no_fault infos before behind e none x of = tt

-- ---- the bytes on the way

image_in : (t : Ghost) (w : WorldCore) (i : ℕ) (o : Option Endpoint) → slice_get w.endpoints i ≡ o → WorldRefines t w → option_and_then (λ (p : Endpoint). option_map (λ (image : Image). image.bytes) p.image) o ≡ (t.wires i).image
image_in t w i None at h = sym (h.beyond i (end_of w.endpoints i at)).image
image_in t w i (Some p) at h = (h.endpoints i p at).carries.image

image_is : (t : Ghost) (w : WorldCore) (i : ℕ) → WorldRefines t w → image_at w i ≡ (t.wires i).image
image_is t w i h = image_in t w i (slice_get w.endpoints i) refl h

some_image : (o : Option (List ℕ)) → IsSome o → (sent : List ℕ) × (o ≡ Some sent)
some_image None h = absurd (let clash : false ≡ true = h in cc)
some_image (Some sent) h = (sent, refl)

-- the job's own, behind its steps
own_wires : (t g : Ghost) (i : ℕ) (x : Wires) → g.wires ≡ with_entry t.wires i x → g.wires i ≡ x
own_wires t g i x e = ap (λ (f : ℕ → Wires). f i) e ∙ ap (λ (b : Bool). cond b x (t.wires i)) (own i)

sends_end : (t g : Ghost) (before behind : WorldCore) (i : ℕ) (this_action : model_actions.Action) (text : List ℕ) (steps : List Transition) → WorldRefines t before → WorldRefines g behind → IsSome (wires t i).image → text ≡ end_record (status_code codes.IoError) → GhostSends t i this_action text steps g → SendsOrLoses before behind i
sends_end t g before behind i this_action text steps h k some ends (inl s) =
    let im = some_image (t.wires i).image some in
    let now : (g.wires i).image ≡ Some (im.0 ++ text) = ap (λ (x : Wires). x.image) (own_wires t g i (with_record text (wires t i)) (ap (λ (u : Ghost). u.wires) s.1.then_is)) ∙ ap (option_map (λ (bytes : List ℕ). bytes ++ text)) im.1 in
    (im.0, image_is t before i h ∙ im.1, inl (image_is g behind i k ∙ (now ∙ ap (λ (x : List ℕ). Some (im.0 ++ x)) ends)))
sends_end t g before behind i this_action text steps h k some ends (inr s) =
    let im = some_image (t.wires i).image some in
    let now : (g.wires i).image ≡ None = ap (λ (x : Wires). x.image) (own_wires t g i (wires_with_image None (wires t i)) (ap (λ (u : Ghost). u.wires) s.1.then_is)) in
    (im.0, image_is t before i h ∙ im.1, inr (image_is g behind i k ∙ now))

-- of the only record of a turn
by_record : (t g : Ghost) (before behind : WorldCore) (i : ℕ) (this_action : model_actions.Action) (text : List ℕ) (steps : List Transition) → WorldRefines t before → WorldRefines g behind → IsSome (wires t i).image → IsRecordOf this_action text → GhostSends t i this_action text steps g → FaultSends before behind (By i this_action)
by_record t g before behind i (model_actions.TurnsFault fault) text steps h k some is s = sends_end t g before behind i (model_actions.TurnsFault fault) text steps h k some is s
by_record t g before behind i this_action text steps h k some is s = tt

all_by : (t g : Ghost) (before behind : WorldCore) (i : ℕ) (this_action : model_actions.Action) (text : List ℕ) (steps : List Transition) → FaultSends before behind (By i this_action) → GhostSends t i this_action text steps g → AllSend before behind steps
all_by t g before behind i this_action text steps f (inl s) = subst (AllSend before behind) (sym s.0) (f, tt)
all_by t g before behind i this_action text steps f (inr s) = subst (AllSend before behind) (sym s.0) (f, (tt, tt))

by_turn : (t g : Ghost) (before behind : WorldCore) (i : ℕ) (steps : List Transition) → WorldRefines t before → WorldRefines g behind → GhostHappens (GhostCan t i moves.DataTurn) (GhostTurns t i steps g) t steps g → AllSend before behind steps
by_turn t g before behind i steps h k c = elim c.either [
  | inl may ↦
      let d = c.does may in
      all_by t g before behind i d.action d.text steps (by_record t g before behind i d.action d.text steps h k may.0 d.is d.sends) d.sends
  | inr never ↦ subst (AllSend before behind) (sym (c.cannot never).0) tt
]

pub event_sends : (e : Event) (t g : Ghost) (before behind : WorldCore) (steps : List Transition) → WorldRefines t before → WorldRefines g behind → GhostComes source_state e t steps g → AllSend before behind steps
event_sends (DataTurn i) t g before behind steps h k c = by_turn t g before behind i steps h k c
event_sends (Connect i) t g before behind steps h k c = all_each (StepOf t.infos (Connect i)) (FaultSends before behind) steps (no_fault t.infos before behind (Connect i) tt) (comes_of (Connect i) t steps g c)
event_sends (ToDaemon i n) t g before behind steps h k c = all_each (StepOf t.infos (ToDaemon i n)) (FaultSends before behind) steps (no_fault t.infos before behind (ToDaemon i n) tt) (comes_of (ToDaemon i n) t steps g c)
event_sends (ToClient i n) t g before behind steps h k c = all_each (StepOf t.infos (ToClient i n)) (FaultSends before behind) steps (no_fault t.infos before behind (ToClient i n) tt) (comes_of (ToClient i n) t steps g c)
event_sends (DataConnect i) t g before behind steps h k c = all_each (StepOf t.infos (DataConnect i)) (FaultSends before behind) steps (no_fault t.infos before behind (DataConnect i) tt) (comes_of (DataConnect i) t steps g c)
event_sends (DataToClient i n) t g before behind steps h k c = all_each (StepOf t.infos (DataToClient i n)) (FaultSends before behind) steps (no_fault t.infos before behind (DataToClient i n) tt) (comes_of (DataToClient i n) t steps g c)
event_sends (LoseControl i) t g before behind steps h k c = all_each (StepOf t.infos (LoseControl i)) (FaultSends before behind) steps (no_fault t.infos before behind (LoseControl i) tt) (comes_of (LoseControl i) t steps g c)
event_sends (LoseImage i) t g before behind steps h k c = all_each (StepOf t.infos (LoseImage i)) (FaultSends before behind) steps (no_fault t.infos before behind (LoseImage i) tt) (comes_of (LoseImage i) t steps g c)
event_sends (Cancel i) t g before behind steps h k c = all_each (StepOf t.infos (Cancel i)) (FaultSends before behind) steps (no_fault t.infos before behind (Cancel i) tt) (comes_of (Cancel i) t steps g c)
event_sends (Load name source) t g before behind steps h k c = all_each (StepOf t.infos (Load name source)) (FaultSends before behind) steps (no_fault t.infos before behind (Load name source) tt) (comes_of (Load name source) t steps g c)
event_sends (Unplug name) t g before behind steps h k c = all_each (StepOf t.infos (Unplug name)) (FaultSends before behind) steps (no_fault t.infos before behind (Unplug name) tt) (comes_of (Unplug name) t steps g c)

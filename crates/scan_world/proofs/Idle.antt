-- What cannot happen changes nothing, and memory runs out for a job only in an event of its own that takes memory.
use Rattle.std.specs.Prelude.{slice_get, slice_set}
use Rattle.std.proofs.Common.{◌≡◌, ◌∙◌, ℕ, zero, suc, List, [], ◌∷◌, true, false, Some, inl, inr, refl, sym, ap, subst}
use Rattle.page_sources.specs.SourceView.{source_state}
use Rattle.saned_core.specs.DaemonStates.{Core}
use Rattle.event_world.specs.declared.endpoint.Endpoint.{Endpoint}
use Rattle.event_world.specs.declared.event.Event.{Event}
use Rattle.event_world.specs.declared.event.Event.TheVariants as events
use Rattle.event_world.specs.declared.event.JobEvent.{JobEvent}
use Rattle.event_world.specs.declared.event.JobEvent.TheVariants.{Connect, ToDaemon, ToClient, DataConnect, DataTurn, DataToClient, LoseControl, LoseImage, Cancel}
use Rattle.event_world.specs.JobEvents.{Can, Does, Happens, job_event_of}
use Rattle.event_world.specs.Worlds.{AtEndpoint, Leads, WorldCore}
use Rattle.event_world.proofs.Deciding.{can_or_not}
use Rattle.event_world.proofs.Events.{linked_by}
use Rattle.scan_world.specs.Calls.{IdleStays, StarvesBy, TakesMemory, is_starved, starved_at}
use Rattle.scan_world.specs.Sessions.{CanAt}
use Rattle.scan_world.proofs.Over.{at_own}
use Rattle.scan_world.proofs.moments.Entries.{end_at, past_end, set_get, set_here, unsome}

-- ---- nothing happens

same_entries : {X : Type 0} (xs : List X) (i : ℕ) (x : X) → slice_get xs i ≡ Some x → slice_set xs i x ≡ xs
same_entries [] i x e = refl
same_entries (y ∷ xs) zero x e = ap (λ z. z ∷ xs) (sym (unsome y x e))
same_entries (y ∷ xs) (suc i) x e = ap (λ zs. y ∷ zs) (same_entries xs i x e)

same_world : (w v : WorldCore) → v.daemon ≡ w.daemon → v.endpoints ≡ w.endpoints → v ≡ w
same_world w v d e = ap (λ (y : Core). record { daemon = y; endpoints = v.endpoints }) d ∙ ap (λ (es : List Endpoint). record { daemon = w.daemon; endpoints = es }) e

pub idle_at : (w : WorldCore) (i : ℕ) (x : JobEvent) (v : WorldCore) → AtEndpoint w i x v → (CanAt w i x → ⊥) → v ≡ w
idle_at w i x v a never = elim (end_at (slice_get w.endpoints i)) [
  | inl none ↦ a.beyond (past_end w.endpoints i none)
  | inr there ↦
      let h = a.happens there.0 there.1 in
      let same = h.1.cannot (λ can. never (there.0, there.1, can)) in
      same_world w v same.0 (h.2 ∙ (ap (slice_set w.endpoints i) same.1 ∙ same_entries w.endpoints i there.0 there.1))
]

pub idle_stays : (e : Event) (w v : WorldCore) → Leads source_state e w v → IdleStays e w v
idle_stays e w v leads i own is never = idle_at w i own v (at_own i own w v (subst (λ (x : Event). Leads source_state x w v) is leads)) never

-- ---- memory runs out

out_of : (p q r : Endpoint) → q ≡ r → r.out_of_memory ≡ p.out_of_memory → p.out_of_memory ≡ false → q.out_of_memory ≡ true → ⊥
out_of p q r is same enough out = let clash : true ≡ false = sym out ∙ (ap (λ (x : Endpoint). x.out_of_memory) is ∙ (same ∙ enough)) in cc

does_take : (d : Core) (p : Endpoint) (x : JobEvent) (e : Core) (q : Endpoint) → Does d p x e q → p.out_of_memory ≡ false → q.out_of_memory ≡ true → TakesMemory x
does_take d p Connect e q does enough out = tt
does_take d p (ToDaemon n) e q does enough out = tt
does_take d p (ToClient n) e q does enough out = tt
does_take d p DataConnect e q does enough out = absurd (linked_by p.link _ ⊥ does (λ k it. out_of p q _ it.1 refl enough out))
does_take d p DataTurn e q does enough out = tt
does_take d p (DataToClient n) e q does enough out = tt
does_take d p LoseControl e q does enough out = absurd (linked_by p.link _ ⊥ does (λ k it. out_of p q _ it.1 refl enough out))
does_take d p LoseImage e q does enough out = absurd (linked_by p.link _ ⊥ does (λ k it. out_of p q _ it.1 refl enough out))
does_take d p Cancel e q does enough out = absurd (out_of p q _ does.1.rest refl enough out)

-- what happened to it can happen, and takes memory
abbrev Took : Core → Endpoint → JobEvent → Type 0
Took d p x = Can d p x × TakesMemory x

took : (d e : Core) (p q : Endpoint) (x : JobEvent) → Happens d p x e q → p.out_of_memory ≡ false → q.out_of_memory ≡ true → Took d p x
took d e p q x h enough out = elim (can_or_not d p x) [
  | inl can ↦ (can, does_take d p x e q (h.does can) enough out)
  | inr never ↦ absurd (out_of p q p (h.cannot never).1 refl enough out)
]

-- it came to that job
abbrev Starved : WorldCore → ℕ → JobEvent → ℕ → Type 0
Starved w i x k = (i ≡ k) × CanAt w k x × TakesMemory x

kept : {A : Type 0} (w v : WorldCore) (k : ℕ) → slice_get v.endpoints k ≡ slice_get w.endpoints k → starved_at w k ≡ false → starved_at v k ≡ true → A
kept w v k same enough out = absurd (let clash : true ≡ false = sym out ∙ (ap is_starved same ∙ enough) in cc)

starved_by : (w : WorldCore) (i : ℕ) (x : JobEvent) (v : WorldCore) (k : ℕ) → AtEndpoint w i x v → starved_at w k ≡ false → starved_at v k ≡ true → Starved w i x k
starved_by w i x v k a enough out = elim (end_at (slice_get w.endpoints i)) [
  | inl none ↦ kept w v k (ap (λ (y : WorldCore). slice_get y.endpoints k) (a.beyond (past_end w.endpoints i none))) enough out
  | inr there ↦
      let h = a.happens there.0 there.1 in
      let now : slice_get v.endpoints k ≡ slice_get (slice_set w.endpoints i h.0) k = ap (λ (es : List Endpoint). slice_get es k) h.2 in
      elim (set_get w.endpoints i k h.0) [
        | inl other ↦ kept w v k (now ∙ other) enough out
        | inr same ↦
            let at : slice_get w.endpoints k ≡ Some there.0 = ap (slice_get w.endpoints) (sym same) ∙ there.1 in
            let is : slice_get v.endpoints k ≡ Some h.0 = now ∙ (ap (slice_get (slice_set w.endpoints i h.0)) (sym same) ∙ set_here w.endpoints i there.0 h.0 there.1) in
            let t = took w.daemon v.daemon there.0 h.0 x h.1 (sym (ap is_starved at) ∙ enough) (sym (ap is_starved is) ∙ out) in
            (same, (there.0, at, t.0), t.1)
      ]
]

abbrev Found : WorldCore → ℕ → Event → Type 0
Found w k e = (own : JobEvent) × (e ≡ job_event_of k own) × CanAt w k own × TakesMemory own

found : (w : WorldCore) (i : ℕ) (x : JobEvent) (v : WorldCore) (k : ℕ) → AtEndpoint w i x v → starved_at w k ≡ false → starved_at v k ≡ true → Found w k (job_event_of i x)
found w i x v k a enough out = let s = starved_by w i x v k a enough out in (x, ap (λ (j : ℕ). job_event_of j x) s.0, s.1, s.2)

starves_led : (e : Event) (w v : WorldCore) (k : ℕ) → Leads source_state e w v → starved_at w k ≡ false → starved_at v k ≡ true → Found w k e
starves_led (events.Connect i) w v k l enough out = found w i Connect v k l enough out
starves_led (events.ToDaemon i n) w v k l enough out = found w i (ToDaemon n) v k l enough out
starves_led (events.ToClient i n) w v k l enough out = found w i (ToClient n) v k l enough out
starves_led (events.DataConnect i) w v k l enough out = found w i DataConnect v k l enough out
starves_led (events.DataTurn i) w v k l enough out = found w i DataTurn v k l enough out
starves_led (events.DataToClient i n) w v k l enough out = found w i (DataToClient n) v k l enough out
starves_led (events.LoseControl i) w v k l enough out = found w i LoseControl v k l enough out
starves_led (events.LoseImage i) w v k l enough out = found w i LoseImage v k l enough out
starves_led (events.Cancel i) w v k l enough out = found w i Cancel v k l enough out
starves_led (events.Load name page) w v k l enough out = kept w v k (ap (λ (y : WorldCore). slice_get y.endpoints k) l) enough out
starves_led (events.Unplug name) w v k l enough out = kept w v k (ap (λ (y : WorldCore). slice_get y.endpoints k) l) enough out

pub starves_by : (e : Event) (w v : WorldCore) → Leads source_state e w v → StarvesBy e w v
starves_by e w v leads i enough out = starves_led e w v i leads enough out

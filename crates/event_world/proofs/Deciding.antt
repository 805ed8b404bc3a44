-- An event can happen or it cannot.
use Rattle.std.proofs.Common.{◌≡◌, ◌≢◌, ℕ, zero, suc, ◌<◌, ◌⊎◌, Bool, true, false, Option, Some, None, IsSome, List, [], ◌∷◌, refl, arith, inl, inr}
use Rattle.saned_core.specs.declared.session_slot.SessionId.{SessionId}
use Rattle.saned_core.specs.declared.session_slot.FrameState.{FrameState}
use Rattle.saned_core.specs.declared.session_slot.FrameState.TheVariants as frames
use Rattle.saned_core.specs.DaemonStates.{Core, replies_of}
use Rattle.client_replies.specs.ProtocolStates.{is_running, wanted_port}
use Rattle.event_world.specs.declared.event.JobEvent.{JobEvent}
use Rattle.event_world.specs.declared.event.JobEvent.TheVariants.{Connect, ToDaemon, ToClient, DataConnect, DataTurn, DataToClient, LoseControl, LoseImage, Cancel}
use Rattle.event_world.specs.declared.endpoint.Image.{Image}
use Rattle.event_world.specs.declared.endpoint.Endpoint.{Endpoint}
use Rattle.event_world.specs.JobEvents.{Can, IsFlowing, HasImage, frame_state_at, IfLinked}

abbrev Either : Type 0 → Type 0
Either A = A ⊎ (A → ⊥)

both : (A B : Type 0) → Either A → Either B → Either (A × B)
both A B (inl a) (inl b) = inl (a, b)
both A B (inl a) (inr never) = inr (λ x. never x.1)
both A B (inr never) e = inr (λ x. never x.0)

is_true : (b : Bool) → Either (b ≡ true)
is_true true = inl refl
is_true false = inr (λ e. let clash : false ≡ true = e in cc)

is_false : (b : Bool) → Either (b ≡ false)
is_false true = inr (λ e. let clash : true ≡ false = e in cc)
is_false false = inl refl

is_there : {A : Type 0} (o : Option A) → Either (IsSome o)
is_there None = inr (λ e. let clash : false ≡ true = e in cc)
is_there (Some a) = inl refl

is_more : (xs : List ℕ) → Either (xs ≢ [])
is_more [] = inr (λ never. never refl)
is_more (x ∷ xs) = inl (λ e. let clash : (x ∷ xs) ≡ [] = e in cc)

is_positive : (n : ℕ) → Either (0 < n)
is_positive zero = inr (λ h. omega (arith, h))
is_positive (suc n) = inl (omega arith)

in_link : (link : Option SessionId) (Is : ℕ → Type 0) → ((k : ℕ) → Either (Is k)) → Either (IfLinked link Is)
in_link None Is each = inr (λ x. x)
in_link (Some id) Is each = each id.number

in_image : (image : Option Image) (Is : List ℕ → Type 0) → ((bytes : List ℕ) → Either (Is bytes)) → Either (HasImage image Is)
in_image None Is each = inr (λ x. x)
in_image (Some image) Is each = each image.bytes

is_waiting : (f : FrameState) → Either (f ≡ frames.Waiting)
is_waiting frames.Quiet = inr (λ e. let clash : frames.Quiet ≡ frames.Waiting = e in cc)
is_waiting frames.Waiting = inl refl
is_waiting frames.Streaming = inr (λ e. let clash : frames.Streaming ≡ frames.Waiting = e in cc)
is_waiting frames.Ending = inr (λ e. let clash : frames.Ending ≡ frames.Waiting = e in cc)

is_flowing : (f : FrameState) → Either (IsFlowing f)
is_flowing frames.Quiet = inr (λ x. x)
is_flowing frames.Waiting = inr (λ x. x)
is_flowing frames.Streaming = inl tt
is_flowing frames.Ending = inl tt

pub can_or_not : (d : Core) (p : Endpoint) (job_event : JobEvent) → Can d p job_event ⊎ (Can d p job_event → ⊥)
can_or_not d p Connect = both _ _ (is_true (is_running p.client.outcome)) (is_false p.was_connected)
can_or_not d p (ToDaemon n) = three (is_there p.link) (is_more p.client.out) (is_positive n)
  where
    three : {A B C : Type 0} → Either A → Either B → Either C → Either (A × B × C)
    three (inl a) (inl b) (inl c) = inl (a, b, c)
    three (inl a) (inl b) (inr never) = inr (λ x. never x.2)
    three (inl a) (inr never) e = inr (λ x. never x.1)
    three (inr never) e f = inr (λ x. never x.0)
can_or_not d p (ToClient n) = both _ _ (in_link p.link _ (λ k. is_more (replies_of d k))) (is_positive n)
can_or_not d p DataConnect = both _ _ (is_there (wanted_port p.client.progress)) (in_link p.link _ (λ k. is_waiting (frame_state_at d k)))
can_or_not d p DataTurn = both _ _ (is_there p.image) (in_link p.link _ (λ k. is_flowing (frame_state_at d k)))
can_or_not d p (DataToClient n) = both _ _ (in_image p.image _ is_more) (is_positive n)
can_or_not d p LoseControl = is_there p.link
can_or_not d p LoseImage = both _ _ (is_there p.image) (is_there p.link)
can_or_not d p Cancel = is_true (is_running p.client.outcome)

-- What a client waits for, with its requests on the way.
use Rattle.std.proofs.Common.{◌≡◌, ◌⊎◌, inl, inr, ◌∙◌, ℕ, List, [], ◌∷◌, ◌++◌, Bool, true, false, Some, None, refl, sym, ap, subst}
use Rattle.wire_message.specs.declared.message.Procedure.{Procedure}
use Rattle.frame_join.specs.FrameHistory.{JoinHistory}
use Rattle.client_replies.specs.declared.progress.Notes.{Notes}
use Rattle.client_replies.specs.declared.progress.Progress.{Progress}
use Rattle.client_replies.specs.declared.progress.Progress.TheVariants as stages
use Rattle.client_replies.specs.ProtocolStates.{progress_connected, is_running, turns}
use Rattle.net_client.specs.ReplyPieces.{awaited_procedure}
use Rattle.net_client.specs.ClientStates.{ClientState}
use Rattle.scan_job.specs.declared.outcome.Outcome.{Outcome}
use Rattle.scan_job.specs.declared.outcome.Outcome.TheVariants as outcomes
use Rattle.system_model.specs.AbstractMessages.{AbstractRequest}
use Rattle.system_model.specs.Client as model
use Rattle.system_model.specs.Devices.{Make}
use Rattle.system_model.specs.AbstractDevices.{AbstractDevice}
use Rattle.system_model.specs.SystemStates.{JobState}
use Rattle.system_model.specs.Invariants as sound
use Rattle.system_model.specs.Transitions.{IsUnderWay}
use Rattle.client_refines.specs.ClientRefinement.{WaitsAs}
use Rattle.world_refines.specs.Speaks.{WaitsQuietly}
use Rattle.world_refines.proofs.frames.Drained.{awaits_next}
use Rattle.world_refines.proofs.job_events.Lost.{ends_if}

-- ---- what it waits for is the same, and less is on the way

pub waits_less : (progress : Progress) (r : AbstractRequest) (rest : List AbstractRequest) → WaitsQuietly progress (r ∷ rest) → WaitsQuietly progress rest
waits_less progress r rest h = record { unturned = h.unturned; silent = λ e. absurd (let clash : r ∷ rest ≡ [] = h.silent e in cc) }

pub waits_behind : (progress : Progress) (first rest : List AbstractRequest) → WaitsQuietly progress (first ++ rest) → WaitsQuietly progress rest
waits_behind progress [] rest h = h
waits_behind progress (r ∷ first) rest h = waits_behind progress first rest (waits_less progress r (first ++ rest) h)

pub waits_none : (progress : Progress) (todo other : List AbstractRequest) → other ≡ [] → WaitsQuietly progress todo → WaitsQuietly progress other
waits_none progress todo other none h = record { unturned = h.unturned; silent = λ e. none }

-- ---- a job that is over

pub waits_over : (progress : Progress) (todo : List AbstractRequest) → progress ≡ stages.Over → WaitsQuietly progress todo
waits_over progress todo over =
    record {
      unturned = λ e. let clash : stages.Over ≡ stages.Turning = sym over ∙ e in absurd (cc);
      silent = λ e. absurd (let clash : stages.Over ≡ stages.Reopening = sym over ∙ e in cc);
    }

pub waits_if : (b : Bool) (c : ClientState) (todo : List AbstractRequest) → WaitsQuietly c.progress todo → WaitsQuietly (ends_if b c).progress todo
waits_if true c todo h = waits_over stages.Over todo refl
waits_if false c todo h = h

over_if : (b : Bool) (c : ClientState) → is_running c.outcome ≡ b → (is_running c.outcome ≡ false → c.progress ≡ stages.Over) → (ends_if b c).progress ≡ stages.Over
over_if true c e h = refl
over_if false c e h = h e

pub waits_lost : (c : ClientState) (todo : List AbstractRequest) → (is_running c.outcome ≡ false → c.progress ≡ stages.Over) → WaitsQuietly (ends_if (is_running c.outcome) c).progress todo
waits_lost c todo h = waits_over _ todo (over_if (is_running c.outcome) c refl h)

-- a session that is over has no request of a job that runs
ended_todo : (i : ℕ) (k : Make) (p : JobState) (dev : AbstractDevice) (st : model.JobStage) → sound.StageInvariant i k p dev st → p.served ≡ false → IsUnderWay st → p.todo ≡ []
ended_todo i k p dev model.Idle h off u = h.1
ended_todo i k p dev (model.Running g) (inl h) off u = absurd (let clash : true ≡ false = sym h.served ∙ off in cc)
ended_todo i k p dev (model.Running g) (inr (inl h)) off u = h.todo
ended_todo i k p dev (model.Running g) (inr (inr h)) off u = h.todo
ended_todo i k p dev model.Done h off u = absurd u
ended_todo i k p dev (model.Ended status why) h off u = absurd u

pub waits_ended : (i : ℕ) (k : Make) (p : JobState) (dev : AbstractDevice) (progress : Progress) (todo : List AbstractRequest) → sound.StageInvariant i k p dev p.client.stage → p.served ≡ false → (progress ≡ stages.Over) ⊎ IsUnderWay p.client.stage → WaitsQuietly progress todo → WaitsQuietly progress p.todo
waits_ended i k p dev progress todo h off (inl over) w = waits_over progress p.todo over
waits_ended i k p dev progress todo h off (inr u) w = waits_none progress todo p.todo (ended_todo i k p dev p.client.stage h off u) w

pub way_or : (o : Outcome) (progress : Progress) (st : model.JobStage) (b : Bool) → is_running o ≡ b → (is_running o ≡ false → progress ≡ stages.Over) → (is_running o ≡ true → IsUnderWay st) → (progress ≡ stages.Over) ⊎ IsUnderWay st
way_or o progress st true e over under = inr (under e)
way_or o progress st false e over under = inl (over e)

-- ---- it waits for something else

-- for a reply, and no request is on the way
pub waits_awaited : (progress : Progress) (procedure : Procedure) (todo : List AbstractRequest) → awaited_procedure progress ≡ Some procedure → todo ≡ [] → WaitsQuietly progress todo
waits_awaited progress procedure todo is none = record { unturned = λ e. let clash : None ≡ Some procedure = sym (ap awaited_procedure e) ∙ is in absurd (cc); silent = λ e. none }

-- for its greeting
pub waits_first : (progress : Progress) (todo : List AbstractRequest) → progress ≡ stages.Greeting → WaitsQuietly progress todo
waits_first progress todo is =
    record {
      unturned = λ e. let clash : stages.Greeting ≡ stages.Turning = sym is ∙ e in absurd (cc);
      silent = λ e. absurd (let clash : stages.Greeting ≡ stages.Reopening = sym is ∙ e in cc);
    }

pub waits_greeting : (job : model.AbstractJob) (progress : Progress) (notes : Notes) (past : JoinHistory) (m : model.ClientView) (todo : List AbstractRequest) → WaitsAs job progress notes past m → m.stage ≡ model.Running model.Greeting → WaitsQuietly progress todo
waits_greeting job progress notes past m todo w is =
    record {
      unturned = λ e. let turning = subst (λ (p : Progress). WaitsAs job p notes past m) e w in let clash : model.Running model.Greeting ≡ model.Running model.Starting = sym is ∙ turning.0 in absurd (cc);
      silent = λ e.
          let again = subst (λ (p : Progress). WaitsAs job p notes past m) e w in
          absurd (let clash : model.Running model.Greeting ≡ model.Running (model.Allowing again.0.0) = sym is ∙ again.0.1 in cc);
    }

-- for the data of a frame whose connection is made
pub waits_connected : (progress : Progress) (todo : List AbstractRequest) → WaitsQuietly progress todo → WaitsQuietly (progress_connected progress) todo
waits_connected (stages.Imaging port false) todo h =
    record {
      unturned = λ e. let clash : stages.Imaging port true ≡ stages.Turning = e in absurd (cc);
      silent = λ e. absurd (let clash : stages.Imaging port true ≡ stages.Reopening = e in cc);
    }
waits_connected (stages.Imaging port true) todo h = h
waits_connected stages.Greeting todo h = h
waits_connected stages.Listing todo h = h
waits_connected stages.Opening todo h = h
waits_connected (stages.Allowing resource answer) todo h = h
waits_connected stages.Reopening todo h = h
waits_connected stages.Describing todo h = h
waits_connected (stages.Putting n kind name asked) todo h = h
waits_connected (stages.Getting n kind size) todo h = h
waits_connected (stages.Starting first) todo h = h
waits_connected (stages.Shaping port order) todo h = h
waits_connected stages.Turning todo h = h
waits_connected stages.Over todo h = h

-- behind a frame, once the file of its page was taken
turned_else : (o : Outcome) (progress : Progress) → (is_running o ≡ false → progress ≡ stages.Over) → awaits_next (turns o progress) progress ≡ stages.Turning → ⊥
turned_else outcomes.Running stages.Turning over e = let clash : stages.Starting true ≡ stages.Turning = e in absurd (cc)
turned_else outcomes.Running progress over e = let clash : progress ≡ stages.Turning = e in absurd (cc)
turned_else (outcomes.Done reports) progress over e = let clash : stages.Over ≡ stages.Turning = sym (over refl) ∙ e in absurd (cc)
turned_else (outcomes.Ended status why) progress over e = let clash : stages.Over ≡ stages.Turning = sym (over refl) ∙ e in absurd (cc)

reopened_else : (b : Bool) (progress : Progress) → (progress ≡ stages.Reopening → ⊥) → awaits_next b progress ≡ stages.Reopening → ⊥
reopened_else true progress n e = let clash : stages.Starting true ≡ stages.Reopening = e in absurd (cc)
reopened_else false progress n e = n e

pub waits_turned : (o : Outcome) (progress : Progress) (todo : List AbstractRequest) → (is_running o ≡ false → progress ≡ stages.Over) → (progress ≡ stages.Reopening → ⊥) → WaitsQuietly (awaits_next (turns o progress) progress) todo
waits_turned o progress todo over n = record { unturned = turned_else o progress over; silent = λ e. absurd (reopened_else (turns o progress) progress n e) }

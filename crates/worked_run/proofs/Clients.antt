-- A job's client stays its client through what it does.
use Rattle.std.proofs.Common.{◌≡◌, ◌∙◌, ◌⊎◌, inl, inr, ℕ, Bool, true, false, List, [], ◌∷◌, refl, sym, ap, subst}
use Rattle.frame_join.specs.FrameHistory.{JoinHistory, empty_history}
use Rattle.scan_job.specs.declared.job.Job.{Job}
use Rattle.client_replies.specs.ProtocolStates.{is_ended, target_of, turns}
use Rattle.net_client.specs.ClientStates.{ClientRepresents, ClientState, IsNewClient}
use Rattle.net_client.specs.ReplyPieces.{Heeds}
use Rattle.net_client.specs.ReplyPieces.Heeds.{Whole, Garbled, OutOfMemoryBehind, OutOfMemoryAtOnce}
use Rattle.net_client.specs.FramePieces.{Receives}
use Rattle.net_jobs.specs.JobJournal.{AreGives, DialsPort, GivesFileBytes, HearsPiece, JobMove, MovesLead, TakesPiece}
use Rattle.net_jobs.specs.JobJournal.JobMove.{Writes, Fails, Hears, Resumes, Prepares, Dials, Takes, Gives, Loses}
use Rattle.net_jobs.specs.JobSteps.{GivesOut}
use Rattle.saned_serve.proofs.ActionSteps.{not_both}
use Rattle.worked_run.specs.Rounds.{GivesFile, said_all}
use Rattle.worked_run.specs.UnderWay.{IsClientOf}

pub first_client : (job : Job) (c : ClientState) → IsNewClient job c → IsClientOf job c
first_client job c new = record { past = empty_history; serves = new.serves; target = ap (λ (x : ClientState). x.target) new.value }

pub says_on : (job : Job) (c : ClientState) → IsClientOf job c → IsClientOf job (said_all c)
says_on job c k = record { past = k.past; serves = record { stands = k.serves.stands; fits = k.serves.fits }; target = k.target }

-- ---- a piece is heard

heeds_on : (job : Job) (old : ClientState) (past : JoinHistory) (piece : List ℕ) (new : ClientState) → old.target ≡ target_of job → is_ended new.outcome ≡ false → Heeds old past piece new → IsClientOf job new
heeds_on job old past piece new target lives (Whole h wants) = record { past = h.history_then; serves = h.serves; target = h.target ∙ target }
heeds_on job old past piece new target lives (Garbled was h running g) = absurd (not_both (ap (λ (x : ClientState). is_ended x.outcome) g.ends) lives)
heeds_on job old past piece new target lives (OutOfMemoryBehind was h running s) = absurd (not_both (ap is_ended s.starved.outcome) lives)
heeds_on job old past piece new target lives (OutOfMemoryAtOnce s) = absurd (not_both (ap is_ended s.starved.outcome) lives)

pub hears_on : (job : Job) (old : ClientState) (piece : List ℕ) (new : ClientState) → HearsPiece old piece new → is_ended new.outcome ≡ false → IsClientOf job old → IsClientOf job new
hears_on job old piece new h lives k = heeds_on job old k.past piece new k.target lives (h.heeds k.past k.serves)

-- ---- a data connection is made, and a piece of it taken

pub dials_on : (job : Job) (old : ClientState) (port : ℕ) (new : ClientState) → DialsPort old port new → IsClientOf job old → IsClientOf job new
dials_on job old port new d k = record { past = k.past; serves = d.serves k.past k.serves; target = ap (λ (x : ClientState). x.target) d.new_is ∙ k.target }

receives_on : (job : Job) (old : ClientState) (past : JoinHistory) (piece : List ℕ) (new : ClientState) → old.target ≡ target_of job → Receives old past piece new → IsClientOf job new
receives_on job old past piece new target (inl t) = record { past = _; serves = t.serves; target = ap (λ (x : ClientState). x.target) t.rest ∙ target }
receives_on job old past piece new target (inr (inl t)) = record { past = _; serves = t.ends.serves; target = ap (λ (x : ClientState). x.target) t.ends.rest ∙ target }
receives_on job old past piece new target (inr (inr t)) = record { past = _; serves = t.serves; target = ap (λ (x : ClientState). x.target) t.rest ∙ target }

pub takes_on : (job : Job) (old : ClientState) (piece : List ℕ) (new : ClientState) → TakesPiece old piece new → IsClientOf job old → IsClientOf job new
takes_on job old piece new t k = receives_on job old k.past piece new k.target (t.receives k.past k.serves)

-- ---- bytes of its file go out

record GoesOn (job : Job) (c : ClientState) : Type 0 where
  client : IsClientOf job c
  still : turns c.outcome c.progress ≡ false

gives_one : (job : Job) (old : ClientState) (bytes : List ℕ) (new : ClientState) (b : Bool) → is_ended old.outcome ≡ b → GivesFileBytes old bytes new → GoesOn job old → GoesOn job new
gives_one job old bytes new true ended g k = subst (GoesOn job) (sym (g.ended ended).1) k
gives_one job old bytes new false lives g k =
    let is = g.same lives k.still in
    record {
      client = record { past = _; serves = (g.taken k.client.past k.client.serves).carried k.still; target = ap (λ (x : ClientState). x.target) is ∙ k.client.target };
      still = ap (λ (x : ClientState). turns x.outcome x.progress) is ∙ k.still;
    }

gives_all : (job : Job) (old : ClientState) (gives : List JobMove) (new : ClientState) → AreGives gives → MovesLead old gives new → GoesOn job old → GoesOn job new
gives_all job old [] new are leads k = subst (GoesOn job) (sym leads) k
gives_all job old (Gives bytes ∷ gives) new are leads k = gives_one job leads.0 bytes new (is_ended leads.0.outcome) refl leads.2 (gives_all job old gives leads.0 are leads.1 k)
gives_all job old (Writes bytes ∷ gives) new are leads k = absurd are
gives_all job old (Fails bytes ∷ gives) new are leads k = absurd are
gives_all job old (Hears piece ∷ gives) new are leads k = absurd are
gives_all job old (Resumes ∷ gives) new are leads k = absurd are
gives_all job old (Prepares port ∷ gives) new are leads k = absurd are
gives_all job old (Dials port made ∷ gives) new are leads k = absurd are
gives_all job old (Takes piece ∷ gives) new are leads k = absurd are
gives_all job old (Loses link reason ∷ gives) new are leads k = absurd are

out_on : (scan : Bool) (job : Job) (old new : ClientState) (gives : List JobMove) → GivesOut scan false old gives new → IsClientOf job old → IsClientOf job new
out_on false job old new gives out k = subst (IsClientOf job) (sym out.1.1) k
out_on true job old new gives (inl out) k = (gives_all job old gives new out.runs_out.are out.runs_out.leads (record { client = k; still = out.still })).client
out_on true job old new gives (inr out) k = subst (IsClientOf job) (sym out.1.1) k

pub gives_on : (scan : Bool) (job : Job) (old : ClientState) (bytes : List ℕ) (new : ClientState) → GivesFile scan old bytes new → IsClientOf job old → IsClientOf job new
gives_on scan job old bytes new g k = out_on scan job old new g.gives g.out k

-- A client whose requests are taken, and the slot of its session behind them.
use Rattle.std.specs.Prelude.{if◌then◌else◌, map, slice_get}
use Rattle.std.specs.Option.{option_and_then}
use Rattle.std.proofs.Common.{◌≡◌, ◌≢◌, ◌⊎◌, ◌∙◌, ℕ, zero, suc, List, [], ◌∷◌, Option, Some, None, Bool, true, false, refl, sym, ap, subst, length, eqb-true, arith}
use Rattle.device_api.specs.State.{DeviceState}
use Rattle.sane_fixed.specs.declared.device_info.DeviceInfo.{DeviceInfo}
use Rattle.page_picture.specs.Shows.{Frame}
use Rattle.frame_join.specs.FrameHistory.{JoinHistory}
use Rattle.saned_core.specs.declared.session_slot.SessionSlot.{SessionSlot}
use Rattle.saned_core.specs.DaemonStates.{is_slot_number, on_session_slot, session_slot_of}
use Rattle.scan_job.specs.declared.job.Job.{Job}
use Rattle.client_replies.specs.declared.progress.Progress.TheVariants as stages
use Rattle.client_replies.specs.ProtocolStates.{target_of, is_running}
use Rattle.net_client.specs.ClientStates.{ClientRepresents, ClientState, protocol_of}
use Rattle.system_model.specs.Client as model
use Rattle.system_model.specs.Client.{Idle, ClientView}
use Rattle.system_model.specs.SystemStates.{JobState}
use Rattle.system_model.specs.Transitions.{IsUnderWay}
use Rattle.client_refines.specs.ClientRefinement.{ClientRefines}
use Rattle.event_world.specs.declared.endpoint.Endpoint.{Endpoint}
use Rattle.event_world.specs.FileDraining.{HasFiles, KeepsFile}
use Rattle.event_world.specs.JobEvents.{is_done}
use Rattle.world_refines.specs.WorldRefinement.{KeepsFiles, EndpointClientRefines, is_laid, client_at_greeting}
use Rattle.world_refines.proofs.job_events.Lost.{keeps_lost}
use Rattle.world_refines.proofs.state.EndpointSlots.{Single, later}

-- ---- the endpoint, of which what is left to send, the connection's end and out of memory are new

pub record IsSent (out : List ℕ) (old new : Endpoint) : Type 0 where
  pub client : new.client ≡ record old.client { out = out }
  pub task : new.task ≡ old.task
  pub file : new.file ≡ old.file
  pub pages : new.pages ≡ old.pages
  pub finished : new.finished ≡ old.finished
  pub was_connected : new.was_connected ≡ old.was_connected
  pub out_of_memory : (new.out_of_memory ≡ old.out_of_memory) ⊎ (new.out_of_memory ≡ true)

files_sent : (out given : List ℕ) (pages : List JoinHistory) (old new : Endpoint) → IsSent out old new → HasFiles given pages old → HasFiles given pages new
files_sent out given pages old new l h =
    record {
      file = subst (λ (x : Option (List ℕ)). KeepsFile new.out_of_memory given x) (sym l.file) (keeps_lost old.out_of_memory new.out_of_memory given old.file l.out_of_memory h.file);
      each = λ k q at. let f = h.each k q at in (f.0, ap (λ (x : List (Option (List ℕ))). slice_get x k) l.pages ∙ f.1, keeps_lost old.out_of_memory new.out_of_memory q.given f.0 l.out_of_memory f.2);
      count = l.finished ∙ h.count;
      room = ap length l.pages ∙ h.room;
    }

all_sent : (laid : Bool) (out : List ℕ) (past : JoinHistory) (pages : List JoinHistory) (old new : Endpoint) → IsSent out old new → KeepsFiles laid past pages old → KeepsFiles laid past pages new
all_sent true out past pages old new l h = files_sent out [] _ old new l h
all_sent false out past pages old new l h = files_sent out past.given pages old new l h

pub exchanges_sent : (place : DeviceInfo → ℕ) (job : Job) (out : List ℕ) (past : JoinHistory) (pages : List JoinHistory) (p q : JobState) (old new : Endpoint) → IsSent out old new → q.client ≡ p.client → q.session.job ≡ p.session.job → EndpointClientRefines place job past pages p old → EndpointClientRefines place job past pages q new
exchanges_sent place job out past pages p q old new l view same h =
    let shown : List (List Frame) = map (λ (x : JoinHistory). x.ended) pages in
    record {
      task = l.task ∙ h.task;
      target = ap (λ (c : ClientState). c.target) l.client ∙ h.target;
      word = subst (λ (c : ClientState). is_running c.outcome ≡ true → c.notes.word ≡ 0) (sym l.client) h.word;
      over = subst (λ (c : ClientState). is_running c.outcome ≡ false → c.progress ≡ stages.Over) (sym l.client) h.over;
      serves = subst (λ (c : ClientState). ClientRepresents past c) (sym l.client) (record { stands = h.serves.stands; fits = h.serves.fits });
      reads =
          subst (λ (c : ClientState). ClientRefines place (target_of job) q.session.job shown (protocol_of c past) (client_at_greeting q.client.stage q.client)) (sym l.client)
          (subst (λ (m : ClientView). ClientRefines place (target_of job) q.session.job shown (protocol_of old.client past) (client_at_greeting m.stage m)) (sym view)
          (subst (λ (x : model.AbstractJob). ClientRefines place (target_of job) x shown (protocol_of old.client past) (client_at_greeting p.client.stage p.client)) (sym same) h.reads));
      idle = λ idle. l.was_connected ∙ h.idle (sym (ap (λ (m : ClientView). m.stage) view) ∙ idle);
      begun = λ nay. subst (λ (m : ClientView). (m.stage ≡ Idle) ⊎ (IsUnderWay m.stage → ⊥)) (sym view) (h.begun (sym l.was_connected ∙ nay));
      files = subst (λ (x : Bool). KeepsFiles x past pages new) (sym (ap (λ (c : ClientState). is_laid job.task c.outcome past) l.client)) (all_sent (is_laid job.task old.client.outcome past) out past pages old new l h.files);
      finished = h.finished;
      alone = h.alone;
      done = λ e joined. h.done (sym (ap (λ (c : ClientState). is_done c.outcome) l.client) ∙ e) joined;
    }

-- ---- the slot of its session, or that there is none

abbrev TakesSlot : Type 0
TakesSlot = List (Option (SessionSlot DeviceState))

abbrev IsOff : Bool → Type 0
IsOff true = ⊥
IsOff false = Unit {0}

off_by : (b : Bool) → (b ≡ true → ⊥) → IsOff b
off_by true h = h refl
off_by false h = tt

absent_by : (n : ℕ) (x y : Option (SessionSlot DeviceState)) (b : Bool) → is_slot_number n x ≡ b → IsOff b → y ≡ None → (if b then x else y) ≡ None
absent_by n x y true e other none = absurd other
absent_by n x y false e other none = none

not_numbered : (n : ℕ) (x : Option (SessionSlot DeviceState)) (slots : TakesSlot) → ((k : ℕ) (s : SessionSlot DeviceState) → slice_get (x ∷ slots) k ≡ Some (Some s) → s.number ≢ n) → is_slot_number n x ≡ true → ⊥
not_numbered n None slots nay e = let clash : false ≡ true = e in absurd (cc)
not_numbered n (Some s) slots nay e = nay zero s refl (eqb-true s.number n e)

absent : (n : ℕ) (slots : TakesSlot) → ((k : ℕ) (s : SessionSlot DeviceState) → slice_get slots k ≡ Some (Some s) → s.number ≢ n) → session_slot_of slots n ≡ None
unfolding session_slot_of
absent n [] nay = refl
absent n (x ∷ slots) nay = absent_by n x (session_slot_of slots n) (is_slot_number n x) refl (off_by (is_slot_number n x) (not_numbered n x slots nay)) (absent n slots (λ k s at. nay (suc k) s at))

gone_by : (f : SessionSlot DeviceState → Option (SessionSlot DeviceState)) (n : ℕ) (x : Option (SessionSlot DeviceState)) (slots : TakesSlot) (slot : SessionSlot DeviceState) (b : Bool) → is_slot_number n x ≡ b → Single (x ∷ slots) → (if b then x else session_slot_of slots n) ≡ Some slot → f slot ≡ None →
    (session_slot_of slots n ≡ Some slot → session_slot_of (on_session_slot f n slots) n ≡ None) → session_slot_of (if b then option_and_then f x ∷ slots else x ∷ on_session_slot f n slots) n ≡ None
unfolding session_slot_of
gone_by f n x slots slot true e single is none more =
    let empty : option_and_then f x ≡ None = ap (option_and_then f) is ∙ none in
    let number : slot.number ≡ n = eqb-true slot.number n (ap (is_slot_number n) (sym is) ∙ e) in
    let others : session_slot_of slots n ≡ None = absent n slots (λ k s at same. let clash : zero ≡ suc k = single zero (suc k) slot s (ap (λ (o : Option (SessionSlot DeviceState)). Some o) is) at (number ∙ sym same) in omega (arith, clash)) in
    rw empty others
gone_by f n x slots slot false e single is none more = rw e (more is)

-- a slot that becomes none is there no more
pub gone_slot : (f : SessionSlot DeviceState → Option (SessionSlot DeviceState)) (n : ℕ) (slots : TakesSlot) (slot : SessionSlot DeviceState) → Single slots → session_slot_of slots n ≡ Some slot → f slot ≡ None → session_slot_of (on_session_slot f n slots) n ≡ None
unfolding session_slot_of on_session_slot
gone_slot f n [] slot single is none = absurd (let clash : None ≡ Some slot = is in cc)
gone_slot f n (x ∷ slots) slot single is none = gone_by f n x slots slot (is_slot_number n x) refl single is none (λ there. gone_slot f n slots slot (later x slots single) there none)

-- What a client makes of a piece of the reply that is due to it.
use Rattle.std.proofs.Common.{◌≡◌, ◌≢◌, ◌⊎◌, inl, inr, ◌∙◌, ℕ, List, [], ◌∷◌, ◌++◌, Some, true, false, refl, sym, ap, subst, append_assoc, append-nil}
use Rattle.std.specs.Prelude.{IsSome}
use Rattle.scan_job.specs.declared.outcome.Why.TheVariants.{Memory}
use Rattle.sane_fixed.specs.declared.status.Status.TheVariants.{NoMem}
use Rattle.sane_fixed.specs.declared.device_info.DeviceInfo.{DeviceInfo}
use Rattle.page_picture.specs.Shows.{Frame}
use Rattle.frame_join.specs.FrameHistory.{JoinHistory}
use Rattle.sane_fixed.specs.declared.status.Status.TheVariants as statuses
use Rattle.wire_format.specs.Limit.{IsNoStart}
use Rattle.wire_message.specs.declared.message.Procedure.{Procedure}
use Rattle.wire_message.specs.declared.message.Procedure.TheVariants as procedures
use Rattle.wire_message.specs.declared.message.Reply.{Reply as Answer}
use Rattle.wire_message.specs.declared.message.Request.{Request}
use Rattle.wire_message.specs.declared.message.Reply.TheVariants as replies
use Rattle.wire_message.specs.Message.{message_limit, reply}
use Rattle.scan_job.specs.declared.outcome.Outcome.{Outcome}
use Rattle.scan_job.specs.declared.outcome.Outcome.TheVariants.{Ended, Running}
use Rattle.scan_job.specs.declared.outcome.Why.TheVariants as whys
use Rattle.client_replies.specs.declared.progress.JobTarget.{JobTarget}
use Rattle.client_replies.specs.declared.progress.Notes.{Notes}
use Rattle.client_replies.specs.declared.progress.Progress.{Progress}
use Rattle.client_replies.specs.declared.progress.Progress.TheVariants as stages
use Rattle.client_replies.specs.ProtocolStates.{HistoryFits, IsBetweenFrames, ProtocolState, after_reply, is_imaging, is_running, wanted_port}
use Rattle.net_client.specs.Sending.{requests_text}
use Rattle.net_client.specs.ClientStates.{ClientRepresents, ClientState, protocol_of}
use Rattle.net_client.specs.ReplyPieces.{OutOfMemoryAtOnce, Garbled, HasHeard, HearsReplies, Heeds, EndsOutOfMemoryHere, IsGarbled, OutOfMemoryBehind, WantsReply, Whole, awaited_procedure}
use Rattle.net_client.proofs.Hearings.{hears_ends, hears_gives}
use Rattle.system_model.specs.AbstractMessages.{AbstractReply}
use Rattle.system_model.specs.Client as model
use Rattle.system_model.specs.Client.{ClientView, requests_sent}
use Rattle.system_model.specs.ClientReplies.{hear_in, client_after_stop}
use Rattle.client_refines.specs.DecodedReplies.{Says, DecodedReply, decoded_reply_at}
use Rattle.client_refines.specs.ClientRefinement.{ClientRefines, OutcomeRefines, parts, task_of, wholes}
use Rattle.client_refines.specs.RequestRefinement.{AreRequests, asks_of}
use Rattle.client_refines.specs.PieceRefinement.{ListeningRefines, ListeningClient, Hearing, HearingAll, HeedsAs, SpellsSent, new_listening_client}
use Rattle.client_refines.specs.PieceRefinement.{listening_after as learned}
use Rattle.client_refines.proofs.Outcomes.{outcomes_alike}
use Rattle.client_refines.proofs.Replying.{all_heard}
use Rattle.world_refines.specs.Wires.{SpellsAwaitedReply, HasFirstWord, SpellsReply, SpellsReplyBehind}
use Rattle.world_refines.proofs.replies.ReplyFronts.{Spells, more_left, none_garbled, not_garbled, one_reply, reply_of, reply_some}
use Rattle.world_refines.proofs.state.GhostClients.{run_is}
use Rattle.world_refines.proofs.replies.HeardReply.{reply_over, reply_wants, reply_word}
use Rattle.world_refines.proofs.state.Elsewhere.{reply_elsewhere}
use Rattle.world_refines.specs.Speaks.{WaitsQuietly}
use Rattle.system_model.specs.AbstractMessages as words
use Rattle.world_refines.specs.WorldPending.{HasNoReply}
use Rattle.world_refines.proofs.state.WorldPending.{no_reply_wants}
use Rattle.world_refines.proofs.state.ListEntries.{nil_both}

-- ---- what came so far of the reply that is due

-- the word that goes before it
abbrev pub IsWordAt : Progress → List ℕ → Type 0
IsWordAt (stages.Allowing resource answer) text = Spells procedures.Authorize text replies.Authorize
IsWordAt progress text = ⊥

-- no more than that word was told, and the rest of it is a part of the reply
pub record IsDue (place : DeviceInfo → ℕ) (target : JobTarget) (job : model.AbstractJob) (t u : ProtocolState) (told : List Answer) (text rest left : List ℕ) (r : AbstractReply) (Holds : ListeningClient → Type 0) : Type 0 where
  pub comes : SpellsAwaitedReply place u.progress r (rest ++ left)
  pub before : (text ≡ []) ⊎ IsWordAt t.progress text
  pub runs : is_running t.outcome ≡ true → is_running u.outcome ≡ true
  pub notes : u.notes ≡ t.notes
  pub history : u.history ≡ t.history
  pub holds : (h : ListeningClient) → HearingAll place target job t told Holds h → Holds h

-- it was told, and that was all
pub record IsTaken (place : DeviceInfo → ℕ) (target : JobTarget) (job : model.AbstractJob) (t u : ProtocolState) (told : List Answer) (rest left : List ℕ) (r : AbstractReply) (Holds : ListeningClient → Type 0) : Type 0 where
  pub rest_is : rest ≡ []
  pub left_is : left ≡ []
  pub last : ProtocolState
  pub answer : Answer
  pub then_is : u ≡ after_reply target last answer
  pub says : decoded_reply_at place last.progress answer ≡ Says r
  pub history : last.history ≡ t.history
  pub word : t.notes.word ≡ 0 → u.notes.word ≡ 0
  pub holds : (h : ListeningClient) → t.notes.word ≡ 0 → HearingAll place target job t told Holds h → Holds (learned job 0 h (hear_in h.client.stage job h.client r))

none_yet : (Holds : ListeningClient → Type 0) (place : DeviceInfo → ℕ) (target : JobTarget) (job : model.AbstractJob) (t u : ProtocolState) (text sent rest left all : List ℕ) (r : AbstractReply) → SpellsAwaitedReply place t.progress r all → (text ++ rest) ++ left ≡ all → HearsReplies target t [] text sent u → IsDue place target job t u [] text rest left r Holds
none_yet Holds place target job t u text sent rest left all r c e h =
    let whole : all ≡ rest ++ left = sym e ∙ ap (λ (l : List ℕ). (l ++ rest) ++ left) h.0 in
    record {
      comes = subst (λ (x : ProtocolState). SpellsAwaitedReply place x.progress r (rest ++ left)) (sym h.2) (subst (SpellsAwaitedReply place t.progress r) whole c);
      before = inl h.0;
      runs = λ runs. ap (λ (x : ProtocolState). is_running x.outcome) h.2 ∙ runs;
      notes = ap (λ (x : ProtocolState). x.notes) h.2;
      history = ap (λ (x : ProtocolState). x.history) h.2;
      holds = λ h holds. holds;
    }

-- so much of it stands behind the first reply
behind : (text front back rest left all : List ℕ) → text ≡ front ++ back → (text ++ rest) ++ left ≡ all → front ++ (back ++ (rest ++ left)) ≡ all
behind text front back rest left all is e = sym (append_assoc front back (rest ++ left)) ∙ (ap (λ (l : List ℕ). l ++ (rest ++ left)) (sym is) ∙ (sym (append_assoc text rest left) ∙ e))

-- ---- the reply itself

taken_by : (Holds : ListeningClient → Type 0) (place : DeviceInfo → ℕ) (target : JobTarget) (job : model.AbstractJob) (t u : ProtocolState) (a : Answer) (rs : List Answer) (text sent rest left : List ℕ) (r : AbstractReply) → decoded_reply_at place t.progress a ≡ Says r → HasFirstWord a → text ++ (rest ++ left) ≡ [] →
    HearsReplies target (after_reply target t a) rs text sent u → IsTaken place target job t u (a ∷ rs) rest left r Holds
taken_by Holds place target job t u a [] text sent rest left r says first nil h =
    let none = nil_both rest left (nil_both text (rest ++ left) nil).1 in
    record {
      rest_is = none.0;
      left_is = none.1;
      last = t;
      answer = a;
      then_is = h.2;
      says = says;
      history = refl;
      word = λ word. ap (λ (x : ProtocolState). x.notes.word) h.2 ∙ reply_word target t a first word;
      holds = λ n word hearing.
          subst (λ (k : ℕ). Holds (learned job k n (hear_in n.client.stage job n.client r))) (reply_word target t a first word)
          (subst (λ (s : DecodedReply). Hearing job (after_reply target t a).notes.word n s (λ x. Holds x)) says hearing);
    }
taken_by Holds place target job t u a (b ∷ rs) text sent rest left r says first nil h = absurd (reply_some (after_reply target t a).progress h.1 h.0 b (sym h.4 ∙ (nil_both text (rest ++ left) nil).0) h.6)

tells_taken : (Holds : ListeningClient → Type 0) (place : DeviceInfo → ℕ) (target : JobTarget) (job : model.AbstractJob) (t u : ProtocolState) (a : Answer) (rs : List Answer) (text sent rest left all : List ℕ) (r : AbstractReply) → SpellsReply place t.progress r all → (text ++ rest) ++ left ≡ all →
    HearsReplies target t (a ∷ rs) text sent u → IsTaken place target job t u (a ∷ rs) rest left r Holds
tells_taken Holds place target job t u a rs text sent rest left all r c e h =
    let whole : h.0 ++ (h.1 ++ (rest ++ left)) ≡ all ++ [] = behind text h.0 h.1 rest left all h.4 e ∙ sym (append-nil all) in
    let one = one_reply t.progress h.0 (h.1 ++ (rest ++ left)) all [] a c.answer whole h.6 c.is in
    taken_by Holds place target job t u a rs h.1 h.3 rest left r (ap (decoded_reply_at place t.progress) one.0 ∙ c.says) (subst HasFirstWord (sym one.0) c.word) one.1 h.8

-- ---- behind AUTHORIZE's word

abbrev allowing : Outcome → List ℕ → List ℕ → Notes → JoinHistory → ProtocolState
allowing outcome resource answer notes past = record { outcome = outcome; progress = stages.Allowing resource answer; notes = notes; history = past }

abbrev reopening : Notes → JoinHistory → ProtocolState
reopening notes past = record { outcome = Running; progress = stages.Reopening; notes = notes; history = past }

behind_word : (Holds : ListeningClient → Type 0) (place : DeviceInfo → ℕ) (target : JobTarget) (job : model.AbstractJob) (outcome : Outcome) (resource answer : List ℕ) (notes : Notes) (past : JoinHistory) (u : ProtocolState) (rs : List Answer) (text front back sent rest left all : List ℕ) (r : AbstractReply) → text ≡ front ++ back →
    Spells procedures.Authorize front replies.Authorize → back ++ (rest ++ left) ≡ all → SpellsReply place stages.Reopening r all → HearsReplies target (reopening notes past) rs back sent u →
    IsDue place target job (allowing outcome resource answer notes past) u (replies.Authorize ∷ rs) text rest left r Holds ⊎ IsTaken place target job (allowing outcome resource answer notes past) u (replies.Authorize ∷ rs) rest left r Holds
behind_word Holds place target job outcome resource answer notes past u [] text front back sent rest left all r is word e c h =
    let text_is : text ≡ front = is ∙ (ap (λ (l : List ℕ). front ++ l) h.0 ∙ append-nil front) in
    let whole : all ≡ rest ++ left = sym e ∙ ap (λ (l : List ℕ). l ++ (rest ++ left)) h.0 in
    inl (record {
      comes = subst (λ (x : ProtocolState). SpellsAwaitedReply place x.progress r (rest ++ left)) (sym h.2) (subst (SpellsReply place stages.Reopening r) whole c);
      before = inr (subst (λ (l : List ℕ). Spells procedures.Authorize l replies.Authorize) (sym text_is) word);
      runs = λ runs. ap (λ (x : ProtocolState). is_running x.outcome) h.2;
      notes = ap (λ (x : ProtocolState). x.notes) h.2;
      history = ap (λ (x : ProtocolState). x.history) h.2;
      holds = λ n holds. holds;
    })
behind_word Holds place target job outcome resource answer notes past u (b ∷ rs) text front back sent rest left all r is word e c h =
    let k = tells_taken Holds place target job (reopening notes past) u b rs back sent rest left all r c (append_assoc back rest left ∙ e) h in
    inr (record { rest_is = k.rest_is; left_is = k.left_is; last = k.last; answer = k.answer; then_is = k.then_is; says = k.says; history = k.history; word = k.word; holds = k.holds })

by_word : (Holds : ListeningClient → Type 0) (place : DeviceInfo → ℕ) (target : JobTarget) (job : model.AbstractJob) (outcome : Outcome) (resource answer : List ℕ) (notes : Notes) (past : JoinHistory) (u : ProtocolState) (a : Answer) (rs : List Answer) (text sent rest left all : List ℕ) (r : AbstractReply) → a ≡ replies.Authorize →
    (h : HearsReplies target (allowing outcome resource answer notes past) (a ∷ rs) text sent u) → h.1 ++ (rest ++ left) ≡ all → SpellsReply place stages.Reopening r all →
    IsDue place target job (allowing outcome resource answer notes past) u (a ∷ rs) text rest left r Holds ⊎ IsTaken place target job (allowing outcome resource answer notes past) u (a ∷ rs) rest left r Holds
by_word Holds place target job outcome resource answer notes past u replies.Authorize rs text sent rest left all r is h e c =
    behind_word Holds place target job outcome resource answer notes past u rs text h.0 h.1 h.3 rest left all r h.4 (reply_of (stages.Allowing resource answer) procedures.Authorize h.0 replies.Authorize refl h.6) e c h.8
by_word Holds place target job outcome resource answer notes past u a rs text sent rest left all r is h e c = absurd (let clash : a ≡ replies.Authorize = is in cc)

word_first : (Holds : ListeningClient → Type 0) (place : DeviceInfo → ℕ) (target : JobTarget) (job : model.AbstractJob) (outcome : Outcome) (resource answer : List ℕ) (notes : Notes) (past : JoinHistory) (u : ProtocolState) (a : Answer) (rs : List Answer) (text sent rest left all : List ℕ) (r : AbstractReply) →
    SpellsReplyBehind place (stages.Allowing resource answer) r all → (text ++ rest) ++ left ≡ all → HearsReplies target (allowing outcome resource answer notes past) (a ∷ rs) text sent u →
    IsDue place target job (allowing outcome resource answer notes past) u (a ∷ rs) text rest left r Holds ⊎ IsTaken place target job (allowing outcome resource answer notes past) u (a ∷ rs) rest left r Holds
word_first Holds place target job outcome resource answer notes past u a rs text sent rest left all r c e h =
    let whole : h.0 ++ (h.1 ++ (rest ++ left)) ≡ c.front ++ c.back = behind text h.0 h.1 rest left all h.4 e ∙ c.text_is in
    let one = one_reply (stages.Allowing resource answer) h.0 (h.1 ++ (rest ++ left)) c.front c.back a replies.Authorize whole h.6 c.word in
    by_word Holds place target job outcome resource answer notes past u a rs text sent rest left c.back r one.0 h one.1 c.tells

-- ---- any of it

pub so_far : (Holds : ListeningClient → Type 0) (place : DeviceInfo → ℕ) (target : JobTarget) (job : model.AbstractJob) (outcome : Outcome) (progress : Progress) (notes : Notes) (past : JoinHistory) (u : ProtocolState) (told : List Answer) (text sent rest left all : List ℕ) (r : AbstractReply) → SpellsAwaitedReply place progress r all → (text ++ rest) ++ left ≡ all →
    HearsReplies target (record { outcome = outcome; progress = progress; notes = notes; history = past }) told text sent u →
    IsDue place target job (record { outcome = outcome; progress = progress; notes = notes; history = past }) u told text rest left r Holds ⊎ IsTaken place target job (record { outcome = outcome; progress = progress; notes = notes; history = past }) u told rest left r Holds
so_far Holds place target job outcome progress notes past u [] text sent rest left all r c e h = inl (none_yet Holds place target job (record { outcome = outcome; progress = progress; notes = notes; history = past }) u text sent rest left all r c e h)
so_far Holds place target job outcome (stages.Allowing resource answer) notes past u (a ∷ rs) text sent rest left all r c e h = word_first Holds place target job outcome resource answer notes past u a rs text sent rest left all r c e h
so_far Holds place target job outcome progress notes past u (a ∷ rs) text sent rest left all r c e h = inr (tells_taken Holds place target job (record { outcome = outcome; progress = progress; notes = notes; history = past }) u a rs text sent rest left all r c e h)

-- the reply, or the word before it, stands at the front
pub record HasFront (progress : Progress) (text : List ℕ) : Type 0 where
  pub procedure : Procedure
  pub awaited_is : awaited_procedure progress ≡ Some procedure
  pub front : List ℕ
  pub back : List ℕ
  pub answer : Answer
  pub text_is : text ≡ front ++ back
  pub spelled : Spells procedure front answer

tells_front : (place : DeviceInfo → ℕ) (progress : Progress) (r : AbstractReply) (text : List ℕ) → SpellsReply place progress r text → HasFront progress text
tells_front place progress r text c = record { procedure = c.is.procedure; awaited_is = c.is.awaited_is; front = text; back = []; answer = c.answer; text_is = sym (append-nil text); spelled = c.is.spelled }

pub comes_front : (place : DeviceInfo → ℕ) (progress : Progress) (r : AbstractReply) (text : List ℕ) → SpellsAwaitedReply place progress r text → HasFront progress text
comes_front place (stages.Allowing resource answer) r text c = record { procedure = c.word.procedure; awaited_is = c.word.awaited_is; front = c.front; back = c.back; answer = replies.Authorize; text_is = c.text_is; spelled = c.word.spelled }
comes_front place progress r text c = tells_front place progress r text c

-- ---- what became of the client

-- it reads as that client view, has sent that, and stands for the same frames
pub record Reaches (place : DeviceInfo → ℕ) (job : model.AbstractJob) (pages : List (List Frame)) (old : ClientState) (past : JoinHistory) (m : ClientView) (text : List ℕ) (new : ClientState) : Type 0 where
  pub history_then : JoinHistory
  pub ended : history_then.ended ≡ past.ended
  pub given : history_then.given ≡ past.given
  pub target : new.target ≡ old.target
  pub word : is_running new.outcome ≡ true → new.notes.word ≡ 0
  pub over : is_running new.outcome ≡ false → new.progress ≡ stages.Over
  pub serves : ClientRepresents history_then new
  pub reads : ClientRefines place old.target job pages (protocol_of new history_then) m
  pub out : new.out ≡ old.out ++ text

-- it waits for the rest
pub record WaitsOn (place : DeviceInfo → ℕ) (job : model.AbstractJob) (pages : List (List Frame)) (m : ClientView) (old : ClientState) (past : JoinHistory) (piece left : List ℕ) (r : AbstractReply) (new : ClientState) : Type 0 where
  pub part : left ≢ []
  pub front : List ℕ
  pub came : old.input.rest ++ piece ≡ front ++ new.input.rest
  pub before : (front ≡ []) ⊎ IsWordAt old.progress front
  pub comes : SpellsAwaitedReply place new.progress r (new.input.rest ++ left)
  pub pending : HasNoReply new.progress new.input.rest
  pub runs : is_running new.outcome ≡ true
  pub reaches : Reaches place job pages old past m [] new

abbrev pub mind_then : model.AbstractJob → ClientView → AbstractReply → ClientView
mind_then job m r = hear_in m.stage job m r

-- it has heard the reply, and asked for what it waits for then
pub record HearsIt (place : DeviceInfo → ℕ) (job : model.AbstractJob) (pages : List (List Frame)) (m : ClientView) (old : ClientState) (past : JoinHistory) (piece left : List ℕ) (r : AbstractReply) (new : ClientState) : Type 0 where
  pub whole : left ≡ []
  pub rest : new.input.rest ≡ []
  pub text : List ℕ
  pub spells : SpellsSent old.target text (asks_of 0 (mind_then job m r).known (requests_sent job.task (mind_then job m r).stage))
  pub wants : is_imaging new.progress ≡ true → IsSome (wanted_port new.progress)
  pub elsewhere : (todo : List words.AbstractRequest) → WaitsQuietly new.progress todo
  pub reaches : Reaches place job pages old past (mind_then job m r) text new

-- memory ran out
pub record ChokesAt (place : DeviceInfo → ℕ) (job : model.AbstractJob) (pages : List (List Frame)) (m : ClientView) (old : ClientState) (past : JoinHistory) (new : ClientState) : Type 0 where
  pub over : is_running new.outcome ≡ false
  pub reaches : Reaches place job pages old past (client_after_stop NoMem Memory m) [] new

pub record ChokesBehind (place : DeviceInfo → ℕ) (job : model.AbstractJob) (pages : List (List Frame)) (m : ClientView) (old : ClientState) (past : JoinHistory) (piece left : List ℕ) (r : AbstractReply) (new : ClientState) : Type 0 where
  pub whole : left ≡ []
  pub over : is_running new.outcome ≡ false
  pub text : List ℕ
  pub spells : SpellsSent old.target text (asks_of 0 (mind_then job m r).known (requests_sent job.task (mind_then job m r).stage))
  pub running : (g : model.AbstractProgress) × ((mind_then job m r).stage ≡ model.Running g)
  pub reaches : Reaches place job pages old past (client_after_stop NoMem Memory (mind_then job m r)) text new

abbrev pub Comes4 : (DeviceInfo → ℕ) → model.AbstractJob → List (List Frame) → ClientView → ClientState → JoinHistory → List ℕ → List ℕ → AbstractReply → ClientState → Type 0
Comes4 place job pages m old past piece left r new =
    WaitsOn place job pages m old past piece left r new ⊎ (HearsIt place job pages m old past piece left r new ⊎ (ChokesAt place job pages m old past new ⊎ ChokesBehind place job pages m old past piece left r new))

-- ---- how it ends

no_text : (target : JobTarget) (requests : List Request) (sent : List ℕ) → AreRequests target requests [] → requests_text requests ≡ Some sent → sent ≡ []
no_text target [] sent a e = let same : [] ≡ sent = (let some : Some [] ≡ Some sent = e in cc) in sym same
no_text target (q ∷ qs) sent a e = absurd a

pub nothing_said : (target : JobTarget) (sent : List ℕ) → SpellsSent target sent [] → sent ≡ []
nothing_said target sent s = no_text target s.requests sent s.same s.text

-- a job that has ended is read alike by the same frames
ended_reads : (place : DeviceInfo → ℕ) (target : JobTarget) (job : model.AbstractJob) (pages : List (List Frame)) (new : ClientState) (p q : JoinHistory) (m : ClientView) → new.outcome ≡ Ended statuses.NoMem whys.Memory → q.ended ≡ p.ended → ClientRefines place target job pages (protocol_of new p) m →
    ClientRefines place target job pages (protocol_of new q) m
ended_reads place target job pages new p q m o e r =
    record {
      files = record { part = r.files.part ∙ ap parts (sym e); all = r.files.all ∙ ap (λ (frames : List Frame). pages ++ wholes frames) (sym e) };
      stands =
          subst (λ (y : Outcome). OutcomeRefines place target job pages y new.progress new.notes q m) (sym o)
          (subst (λ (y : Outcome). OutcomeRefines place target job pages y new.progress new.notes p m) o r.stands);
    }

-- the texts of all that came
all_came : (old : ClientState) (piece left text rest : List ℕ) → old.input.rest ++ piece ≡ text ++ rest → (text ++ rest) ++ left ≡ old.input.rest ++ (piece ++ left)
all_came old piece left text rest e = ap (λ (l : List ℕ). l ++ left) (sym e) ∙ append_assoc old.input.rest piece left

record Before (place : DeviceInfo → ℕ) (job : model.AbstractJob) (pages : List (List Frame)) (m : ClientView) (old : ClientState) (past : JoinHistory) (piece left : List ℕ) (r : AbstractReply) : Type 0 where
  pub runs : is_running old.outcome ≡ true
  pub word : old.notes.word ≡ 0
  pub between : IsBetweenFrames past
  pub comes : SpellsAwaitedReply place old.progress r (old.input.rest ++ (piece ++ left))

abbrev SoFar : (ListeningClient → Type 0) → (DeviceInfo → ℕ) → model.AbstractJob → (old : ClientState) → (past : JoinHistory) → (piece left : List ℕ) → AbstractReply → (u : ClientState) → HasHeard old past piece u → Type 0
SoFar Holds place job old past piece left r u h = IsDue place old.target job (protocol_of old past) (protocol_of u h.history_then) h.told h.text u.input.rest left r Holds ⊎ IsTaken place old.target job (protocol_of old past) (protocol_of u h.history_then) h.told u.input.rest left r Holds

heard_so : (Holds : ListeningClient → Type 0) (place : DeviceInfo → ℕ) (job : model.AbstractJob) (pages : List (List Frame)) (m : ClientView) (old : ClientState) (past : JoinHistory) (piece left : List ℕ) (r : AbstractReply) (u : ClientState) → Before place job pages m old past piece left r → (h : HasHeard old past piece u) → SoFar Holds place job old past piece left r u h
heard_so Holds place job pages m old past piece left r u b h =
    so_far Holds place old.target job old.outcome old.progress old.notes past (protocol_of u h.history_then) h.told h.text h.sent u.input.rest left (old.input.rest ++ (piece ++ left)) r b.comes (all_came old piece left h.text u.input.rest h.whole) h.hears

-- what is so of the client view then
abbrev AsHeard : (DeviceInfo → ℕ) → model.AbstractJob → List (List Frame) → (old : ClientState) → (past : JoinHistory) → (piece : List ℕ) → (u : ClientState) → HasHeard old past piece u → ListeningClient → Type 0
AsHeard place job pages old past piece u h n = ListeningRefines place old.target job pages (protocol_of u h.history_then) n.client h.sent n.asks

abbrev AsStarved : (DeviceInfo → ℕ) → model.AbstractJob → List (List Frame) → (old : ClientState) → (past : JoinHistory) → (piece : List ℕ) → (was new : ClientState) → HasHeard old past piece was → ListeningClient → Type 0
AsStarved place job pages old past piece was new h n = ListeningRefines place old.target job pages (protocol_of was h.history_then) n.client h.sent n.asks × ClientRefines place old.target job pages (protocol_of new h.history_then) (client_after_stop NoMem Memory n.client)

heard_ended : (old : ClientState) (past : JoinHistory) (piece : List ℕ) (u : ClientState) (h : HasHeard old past piece u) → h.history_then.ended ≡ past.ended
heard_ended old past piece u h = hears_ends old.target (protocol_of old past) (protocol_of u h.history_then) h.told h.text h.sent h.hears

heard_given : (old : ClientState) (past : JoinHistory) (piece : List ℕ) (u : ClientState) (h : HasHeard old past piece u) → h.history_then.given ≡ past.given
heard_given old past piece u h = hears_gives old.target (protocol_of old past) (protocol_of u h.history_then) h.told h.text h.sent h.hears

-- all replies were heard

waits_on : (place : DeviceInfo → ℕ) (job : model.AbstractJob) (pages : List (List Frame)) (m : ClientView) (old : ClientState) (past : JoinHistory) (piece left : List ℕ) (r : AbstractReply) (new : ClientState) → Before place job pages m old past piece left r → (h : HasHeard old past piece new) →
    (is_running new.outcome ≡ true → WantsReply new.progress new.input.rest) → HearingAll place old.target job (protocol_of old past) h.told (AsHeard place job pages old past piece new h) (new_listening_client m) →
    IsDue place old.target job (protocol_of old past) (protocol_of new h.history_then) h.told h.text new.input.rest left r (AsHeard place job pages old past piece new h) → WaitsOn place job pages m old past piece left r new
waits_on place job pages m old past piece left r new b h wants alike d =
    let runs = d.runs b.runs in
    let f = comes_front place new.progress r (new.input.rest ++ left) d.comes in
    let follows = d.holds (new_listening_client m) alike in
    record {
      part = more_left f.procedure new.input.rest left f.front f.back f.answer f.text_is f.spelled (wants runs f.procedure f.awaited_is);
      front = h.text;
      came = h.whole;
      before = d.before;
      comes = d.comes;
      pending = no_reply_wants new.progress new.input.rest (wants runs);
      runs = runs;
      reaches = record {
        history_then = h.history_then;
        ended = ap (λ (x : JoinHistory). x.ended) d.history;
        given = ap (λ (x : JoinHistory). x.given) d.history;
        target = h.target;
        word = λ _. ap (λ (x : Notes). x.word) d.notes ∙ b.word;
        over = λ e. absurd (let clash : true ≡ false = sym runs ∙ e in cc);
        serves = h.serves;
        reads = follows.reads;
        out = h.out ∙ ap (λ (l : List ℕ). old.out ++ l) (nothing_said old.target h.sent follows.spells);
      };
    }

taken_over : (target : JobTarget) (last u : ProtocolState) (a : Answer) → u ≡ after_reply target last a → is_running u.outcome ≡ false → u.progress ≡ stages.Over
taken_over target last u a e over = ap (λ (x : ProtocolState). x.progress) e ∙ reply_over target last a (sym (ap (λ (x : ProtocolState). is_running x.outcome) e) ∙ over)

taken_wants : (target : JobTarget) (last u : ProtocolState) (a : Answer) → u ≡ after_reply target last a → IsBetweenFrames last.history → HistoryFits target.task u.outcome u.progress u.history → is_imaging u.progress ≡ true → IsSome (wanted_port u.progress)
taken_wants target last u a e b f imaging =
    subst (λ (x : ProtocolState). IsSome (wanted_port x.progress)) (sym e) (reply_wants target last a b (subst (λ (x : ProtocolState). HistoryFits target.task x.outcome x.progress x.history) e f) (subst (λ (x : ProtocolState). is_imaging x.progress ≡ true) e imaging))

hears_it : (place : DeviceInfo → ℕ) (job : model.AbstractJob) (pages : List (List Frame)) (m : ClientView) (old : ClientState) (past : JoinHistory) (piece left : List ℕ) (r : AbstractReply) (new : ClientState) → Before place job pages m old past piece left r → (h : HasHeard old past piece new) →
    HearingAll place old.target job (protocol_of old past) h.told (AsHeard place job pages old past piece new h) (new_listening_client m) →
    IsTaken place old.target job (protocol_of old past) (protocol_of new h.history_then) h.told new.input.rest left r (AsHeard place job pages old past piece new h) → HearsIt place job pages m old past piece left r new
hears_it place job pages m old past piece left r new b h alike k =
    let follows = k.holds (new_listening_client m) b.word alike in
    let fits : HistoryFits old.target.task new.outcome new.progress h.history_then = subst (λ (x : JobTarget). HistoryFits x.task new.outcome new.progress h.history_then) h.target h.serves.fits in
    record {
      whole = k.left_is;
      rest = k.rest_is;
      text = h.sent;
      spells = follows.spells;
      wants = taken_wants old.target k.last (protocol_of new h.history_then) k.answer k.then_is (subst IsBetweenFrames (sym k.history) b.between) fits;
      elsewhere = λ todo. subst (λ (x : ProtocolState). WaitsQuietly x.progress todo) (sym k.then_is) (reply_elsewhere place old.target k.last k.answer r todo k.says);
      reaches = record {
        history_then = h.history_then;
        ended = heard_ended old past piece new h;
        given = heard_given old past piece new h;
        target = h.target;
        word = λ _. k.word b.word;
        over = taken_over old.target k.last (protocol_of new h.history_then) k.answer k.then_is;
        serves = h.serves;
        reads = follows.reads;
        out = h.out;
      };
    }

-- what is due is not garbled

never_garbled : (Holds : ListeningClient → Type 0) (place : DeviceInfo → ℕ) (job : model.AbstractJob) (old : ClientState) (past : JoinHistory) (piece left : List ℕ) (r : AbstractReply) (was new : ClientState) (h : HasHeard old past piece was) → IsGarbled was new → SoFar Holds place job old past piece left r was h → ⊥
never_garbled Holds place job old past piece left r was new h g (inl d) =
    let f = comes_front place was.progress r (was.input.rest ++ left) d.comes in
    let same : f.procedure ≡ g.procedure = (let one : Some f.procedure ≡ Some g.procedure = sym f.awaited_is ∙ g.awaited_is in cc) in
    not_garbled g.procedure was.input.rest left f.front f.back f.answer f.text_is (subst (λ (p : Procedure). Spells p f.front f.answer) same f.spelled) g.no_start
never_garbled Holds place job old past piece left r was new h g (inr k) =
    none_garbled was.progress g.procedure g.awaited_is (subst (λ (l : List ℕ). IsNoStart message_limit (reply g.procedure) l) k.rest_is g.no_start)

-- out of memory

choked_over : (old : ClientState) (past : JoinHistory) (new : ClientState) → EndsOutOfMemoryHere old past new → is_running new.outcome ≡ false
choked_over old past new c = ap is_running c.starved.outcome

reaches_choked : (place : DeviceInfo → ℕ) (job : model.AbstractJob) (pages : List (List Frame)) (old was : ClientState) (past then_ : JoinHistory) (text : List ℕ) (m : ClientView) (new : ClientState) → (c : EndsOutOfMemoryHere was then_ new) → was.target ≡ old.target → then_.ended ≡ past.ended → then_.given ≡ past.given → was.out ≡ old.out ++ text →
    ClientRefines place old.target job pages (protocol_of new then_) m → Reaches place job pages old past m text new
reaches_choked place job pages old was past then_ text m new c target ended given out r =
    record {
      history_then = c.starved.history_then;
      ended = c.ended ∙ ended;
      given = c.starved.given ∙ given;
      target = c.starved.target ∙ target;
      word = λ e. absurd (let clash : false ≡ true = sym (choked_over was then_ new c) ∙ e in cc);
      over = λ _. c.starved.progress;
      serves = c.starved.serves;
      reads = ended_reads place old.target job pages new then_ c.starved.history_then m c.starved.outcome c.ended r;
      out = c.starved.out ∙ out;
    }

chokes : (place : DeviceInfo → ℕ) (job : model.AbstractJob) (pages : List (List Frame)) (m : ClientView) (old : ClientState) (past : JoinHistory) (piece left : List ℕ) (r : AbstractReply) (was new : ClientState) → Before place job pages m old past piece left r → (h : HasHeard old past piece was) → is_running was.outcome ≡ true → EndsOutOfMemoryHere was h.history_then new →
    HearingAll place old.target job (protocol_of old past) h.told (AsStarved place job pages old past piece was new h) (new_listening_client m) →
    SoFar (AsStarved place job pages old past piece was new h) place job old past piece left r was h → ChokesAt place job pages m old past new ⊎ ChokesBehind place job pages m old past piece left r new
chokes place job pages m old past piece left r was new b h runs c alike (inl d) =
    let both = d.holds (new_listening_client m) alike in
    let silence : was.out ≡ old.out ++ [] = h.out ∙ ap (λ (l : List ℕ). old.out ++ l) (nothing_said old.target h.sent both.0.spells) in
    inl (record {
      over = choked_over was h.history_then new c;
      reaches = reaches_choked place job pages old was past h.history_then [] (client_after_stop NoMem Memory m) new c h.target (heard_ended old past piece was h) (heard_given old past piece was h) silence both.1;
    })
chokes place job pages m old past piece left r was new b h runs c alike (inr k) =
    let both = k.holds (new_listening_client m) b.word alike in
    inr (record {
      whole = k.left_is;
      over = choked_over was h.history_then new c;
      text = h.sent;
      spells = both.0.spells;
      running = (outcomes_alike place old.target job pages (protocol_of was h.history_then) (mind_then job m r) both.0.reads).runs (run_is was.outcome runs);
      reaches = reaches_choked place job pages old was past h.history_then h.sent (client_after_stop NoMem Memory (mind_then job m r)) new c h.target (heard_ended old past piece was h) (heard_given old past piece was h) h.out both.1;
    })

by_far : (place : DeviceInfo → ℕ) (job : model.AbstractJob) (pages : List (List Frame)) (m : ClientView) (old : ClientState) (past : JoinHistory) (piece left : List ℕ) (r : AbstractReply) (new : ClientState) → Before place job pages m old past piece left r → (h : HasHeard old past piece new) → (is_running new.outcome ≡ true → WantsReply new.progress new.input.rest) →
    HearingAll place old.target job (protocol_of old past) h.told (AsHeard place job pages old past piece new h) (new_listening_client m) → SoFar (AsHeard place job pages old past piece new h) place job old past piece left r new h → Comes4 place job pages m old past piece left r new
by_far place job pages m old past piece left r new b h wants alike (inl d) = inl (waits_on place job pages m old past piece left r new b h wants alike d)
by_far place job pages m old past piece left r new b h wants alike (inr k) = inr (inl (hears_it place job pages m old past piece left r new b h alike k))

choked_either : (place : DeviceInfo → ℕ) (job : model.AbstractJob) (pages : List (List Frame)) (m : ClientView) (old : ClientState) (past : JoinHistory) (piece left : List ℕ) (r : AbstractReply) (new : ClientState) → ChokesAt place job pages m old past new ⊎ ChokesBehind place job pages m old past piece left r new → Comes4 place job pages m old past piece left r new
choked_either place job pages m old past piece left r new (inl c) = inr (inr (inl c))
choked_either place job pages m old past piece left r new (inr c) = inr (inr (inr c))

by_heeds : (place : DeviceInfo → ℕ) (job : model.AbstractJob) (pages : List (List Frame)) (m : ClientView) (old : ClientState) (past : JoinHistory) (piece left : List ℕ) (r : AbstractReply) (new : ClientState) → Before place job pages m old past piece left r → (heeds : Heeds old past piece new) → HeedsAs place job pages m old past piece new heeds → Comes4 place job pages m old past piece left r new
by_heeds place job pages m old past piece left r new b (Whole h wants) alike = by_far place job pages m old past piece left r new b h wants alike (heard_so (AsHeard place job pages old past piece new h) place job pages m old past piece left r new b h)
by_heeds place job pages m old past piece left r new b (Garbled was h runs g) alike = absurd (never_garbled (λ n. Unit {0}) place job old past piece left r was new h g (heard_so (λ n. Unit {0}) place job pages m old past piece left r was b h))
by_heeds place job pages m old past piece left r new b (OutOfMemoryBehind was h runs c) alike =
    choked_either place job pages m old past piece left r new (chokes place job pages m old past piece left r was new b h runs c alike (heard_so (AsStarved place job pages old past piece was new h) place job pages m old past piece left r was b h))
by_heeds place job pages m old past piece left r new b (OutOfMemoryAtOnce c) alike =
    inr (inr (inl (record {
      over = choked_over old past new c;
      reaches = reaches_choked place job pages old old past past [] (client_after_stop NoMem Memory m) new c refl refl refl (sym (append-nil old.out)) alike;
    })))

pub heeded : (place : DeviceInfo → ℕ) (job : model.AbstractJob) (pages : List (List Frame)) (m : ClientView) (old : ClientState) (past : JoinHistory) (piece left : List ℕ) (r : AbstractReply) (new : ClientState) → job.task ≡ task_of old.target.task → is_running old.outcome ≡ true → old.notes.word ≡ 0 → IsBetweenFrames past → ClientRepresents past old →
    ClientRefines place old.target job pages (protocol_of old past) m → SpellsAwaitedReply place old.progress r (old.input.rest ++ (piece ++ left)) → Heeds old past piece new → Comes4 place job pages m old past piece left r new
heeded place job pages m old past piece left r new task runs word between serves reads comes heeds =
    by_heeds place job pages m old past piece left r new (record { runs = runs; word = word; between = between; comes = comes }) heeds (all_heard place job pages old new past piece m task runs serves reads heeds)

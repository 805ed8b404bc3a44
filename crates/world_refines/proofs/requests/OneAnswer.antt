-- ONE REQUEST of a job's client that the daemon answers, whole: what it leaves, and what is said of it to a client that is under way.
use Rattle.std.specs.Prelude.{length, option_map}
use Rattle.std.proofs.Common.{◌≡◌, ◌⊎◌, inl, inr, ◌∙◌, ℕ, List, [], ◌∷◌, ◌++◌, Option, Some, None, Bool, true, false, refl, sym, ap, subst, arith}
use Rattle.sane_fixed.specs.declared.status.Status.{Status as Code}
use Rattle.sane_fixed.specs.declared.status.Status.TheVariants as code
use Rattle.page_picture.specs.Shows.{Frame}
use Rattle.wire_message.specs.declared.message.Request.{Request as Asked}
use Rattle.wire_message.specs.declared.message.Request.TheVariants as requests
use Rattle.wire_message.specs.declared.message.Reply.{Reply as Wire}
use Rattle.wire_message.specs.declared.message.Reply.TheVariants as replies
use Rattle.wire_writing.specs.ReplyWriting.{write_reply}
use Rattle.wire_writing.proofs.Replies.{reply-writes}
use Rattle.scan_job.specs.declared.outcome.Outcome.{Outcome}
use Rattle.scan_job.specs.declared.outcome.Outcome.TheVariants as outcomes
use Rattle.client_replies.specs.ProtocolStates.{ProtocolState, target_of}
use Rattle.saned_requests.specs.declared.request_answer.RequestAnswer.{RequestAnswer}
use Rattle.saned_requests.specs.declared.request_answer.RequestAnswer.TheVariants.{One, Two}
use Rattle.saned_requests.specs.Holding.{free_word}
use Rattle.saned_requests.specs.RequestAnswers.{Answers, RequestContext}
use Rattle.saned_core.specs.Feeding.{IsUnsaid, session_goes_on, replies_to}
use Rattle.system_model.specs.AbstractMessages.{Authorize, Challenge, AbstractReply, AbstractRequest}
use Rattle.system_model.specs.Client.{ClientView, Running}
use Rattle.system_model.specs.Daemon.{FailureCounts}
use Rattle.system_model.specs.Actions.{environment_of}
use Rattle.system_model.specs.Invariants.{Invariant}
use Rattle.system_model.specs.SystemStates.{JobState, SystemState, listed_devices, make_for, device_for}
use Rattle.system_model.specs.Transitions.{IsUnderWay, after_transition}
use Rattle.system_model.proofs.JobPromises.{sound_after_all}
use Rattle.client_refines.specs.ClientRefinement.{ClientRefines, OutcomeRefines}
use Rattle.client_refines.specs.RequestRefinement.{IsRequest}
use Rattle.daemon_refines.specs.Agreeing.{manner}
use Rattle.world_refines.specs.GhostStates.{Ghost, place_of_info}
use Rattle.world_refines.specs.Speaks.{WaitsQuietly}
use Rattle.world_refines.specs.WorldRefinement.{client_at_greeting}
use Rattle.world_refines.proofs.requests.AnswersKeep.{stays}
use Rattle.world_refines.proofs.state.BegunTrue.{begun_sheets}
use Rattle.world_refines.proofs.requests.Folding.{InContext, IsReadAs, OneRequest, Replied, answers_to, legal_answer, todo_after}
use Rattle.world_refines.proofs.requests.Kinded.{AreFor, answer_for}
use Rattle.world_refines.proofs.state.GhostClients.{run_is, under_runs}
use Rattle.world_refines.proofs.replies.Offered.{IsAsking, authorize_free, comes_by, free_zero, is_asking, rests, told_one}
use Rattle.world_refines.proofs.requests.OneReply.{either_shape, open_reply, said_shape}
use Rattle.world_refines.proofs.requests.Replied.{IsAnswered, IsSaid}
use Rattle.world_refines.proofs.requests.FoldedRequest.{KeepsTrue, one_request, own_init, party_is, served_now}
use Rattle.world_refines.proofs.requests.Silent.{ends_silent}
use Rattle.world_refines.proofs.state.StaysSteady.{IsTrueContext, answers_keep}

-- ---- what it leaves

keeps_true : (t : Ghost) (i : ℕ) (s : SystemState) (d : RequestContext) (q : Asked) (r : AbstractRequest) (said : RequestAnswer) (new : RequestContext) (challenge : Challenge) (fault : Option FailureCounts) → InContext t i s d → Answers t.users d q said new → KeepsTrue (make_for s i) d new (served_now i s r challenge fault)
keeps_true t i s d q r said new challenge fault h g =
    let keeps = answers_keep t.users d q said new g in
    let own : IsTrueContext d = record { lying = h.lying; lent = h.held } in
    let still = keeps.stays own in
    record { infos = keeps.infos; held = still.lent; lying = still.lying; begun = begun_sheets i s.make (listed_devices s) d s.device (s.job i) r challenge fault h.shows own }

-- ---- its reply

-- what stands behind it is the reply that the model tells
record OneTold (i : ℕ) (s : SystemState) (r : AbstractRequest) (challenge : Challenge) (fault : Option FailureCounts) : Type 0 where
  reply : AbstractReply
  told : (served_now i s r challenge fault).told ≡ reply ∷ []
  due : ((after_transition s (answers_to i challenge fault)).job i).due ≡ (s.job i).due ++ reply ∷ []

tells_one : (t : Ghost) (i : ℕ) (s : SystemState) (d new : RequestContext) (q : Asked) (r : AbstractRequest) (rest : List AbstractRequest) (said : RequestAnswer) (challenge : Challenge) (fault : Option FailureCounts) → InContext t i s d → (s.job i).todo ≡ r ∷ rest → IsAnswered i s.make (listed_devices s) (t.jobs i).device s.device (s.job i) d q r said new challenge fault → session_goes_on said ≡ true →
    IsAsking i s r rest → OneTold i s r challenge fault
tells_one t i s d new q r rest said challenge fault h e a on asking =
    let next = after_transition s (answers_to i challenge fault) in
    let v = served_now i s r challenge fault in
    let job_state = party_is i s r rest challenge fault e in
    let sound : Invariant next = sound_after_all s (answers_to i challenge fault ∷ []) h.sound (legal_answer t i s d challenge fault r rest h e a.may, tt) in
    let view = (stays i s ((challenge, fault) ∷ [])).own.client in
    let stage : (next.job i).client.stage ≡ Running asking.progress = ap (λ (m : ClientView). m.stage) view ∙ asking.stage in
    let served : (next.job i).served ≡ true = ap (λ (p : JobState). p.served) job_state ∙ (a.behind.same_end ∙ on) in
    let todo : (next.job i).todo ≡ [] = todo_after i s challenge fault r rest e ∙ asking.none in
    let one = told_one i next r asking.progress sound stage asking.only served todo in
    let due : (next.job i).due ≡ (s.job i).due ++ v.told = ap (λ (p : JobState). p.due) job_state in
    let none = asking.asks.due in
    record {
      reply = one.0;
      told = sym (ap (λ (x : List AbstractReply). x ++ v.told) none) ∙ (sym due ∙ one.1);
      due = one.1 ∙ ap (λ (x : List AbstractReply). x ++ one.0 ∷ []) (sym none);
    }

replies_one : (t : Ghost) (i : ℕ) (s : SystemState) (d new : RequestContext) (q : Asked) (r : AbstractRequest) (rest : List AbstractRequest) (said : RequestAnswer) (challenge : Challenge) (fault : Option FailureCounts) → InContext t i s d → (s.job i).todo ≡ r ∷ rest → IsRequest (target_of (t.jobs i)) 0 (s.job i).client.known q r → Answers t.users d q said new →
    IsAnswered i s.make (listed_devices s) (t.jobs i).device s.device (s.job i) d q r said new challenge fault → session_goes_on said ≡ true → IsUnderWay (s.job i).client.stage → (pages : List (List Frame)) (protocol : ProtocolState) → IsReadAs t i s pages protocol → WaitsQuietly protocol.progress (s.job i).todo →
    Replied t i s (after_transition s (answers_to i challenge fault)) protocol.progress said
replies_one t i s d new q r rest said challenge fault h e is g a on u pages protocol reads waits =
    let p = s.job i in
    let place = place_of_info t.infos in
    let asking = is_asking i s r rest h.sound u h.served e in
    let one = tells_one t i s d new q r rest said challenge fault h e a on asking in
    let awake : client_at_greeting p.client.stage p.client ≡ p.client = ap (λ st. client_at_greeting st p.client) asking.stage in
    let runs = under_runs place (target_of (t.jobs i)) p.session.job pages protocol p.client reads u in
    let own : ClientRefines place (target_of (t.jobs i)) p.session.job pages protocol p.client = subst (λ (m : ClientView). ClientRefines place (target_of (t.jobs i)) p.session.job pages protocol m) awake reads in
    let stands : OutcomeRefines place (target_of (t.jobs i)) p.session.job pages outcomes.Running protocol.progress protocol.notes protocol.history p.client =
    subst (λ (o : Outcome). OutcomeRefines place (target_of (t.jobs i)) p.session.job pages o protocol.progress protocol.notes protocol.history p.client) (run_is protocol.outcome runs) own.stands in
    let kinds = subst (AreFor (make_for s i) (device_for s i).options (listed_devices s) r) one.told (answer_for i (make_for s i) (device_for s i) p.session.transfer p.session.awaited (environment_of p.session (listed_devices s) challenge fault) r) in
    let spelled = subst (λ (told : List AbstractReply). IsSaid (manner d 0) q told said) one.told (a.says (rests i s r rest asking)) in
    record {
      reply = one.reply;
      due = one.due;
      comes = λ text says.
          comes_by t i s d q r rest said one.reply text protocol.progress protocol.notes protocol.history (record { in_context = h; asking = asking; is = is; for_it = kinds; shape = said_shape t.users d q said new g on; spelled = spelled; says = says })
          stands.1 stands.2 stands.0.descriptors (subst (WaitsQuietly protocol.progress) e waits);
    }

-- ---- the reply of OPEN is never past a limit

open_length : (name : Code) → option_map length (write_reply.text (replies.Open name 0 [])) ≡ Some 12
open_length code.Good = refl
open_length code.Unsupported = refl
open_length code.Cancelled = refl
open_length code.DeviceBusy = refl
open_length code.Inval = refl
open_length code.Eof = refl
open_length code.Jammed = refl
open_length code.NoDocs = refl
open_length code.CoverOpen = refl
open_length code.IoError = refl
open_length code.NoMem = refl
open_length code.AccessDenied = refl

some_text : (o : Option (List ℕ)) (n : ℕ) → option_map length o ≡ Some n → (text : List ℕ) × (o ≡ Some text) × (length text ≡ n)
some_text None n e = absurd (let clash : None ≡ Some n = e in cc)
some_text (Some text) n e = (text, refl, let same : Some (length text) ≡ Some n = e in cc)

open_said : (name : Code) → IsUnsaid (replies.Open name 0 []) → ⊥
open_said name (inl (inl long)) = let clash : false ≡ true = long in absurd (cc)
open_said name (inl (inr past)) =
    let t = some_text (write_reply.text (replies.Open name 0 [])) 12 (open_length name) in
    let same : Some t.0 ≡ Some past.0 = sym t.1 ∙ past.1 in
    let is : t.0 ≡ past.0 = cc in
    let long : length past.0 ≡ 12 = sym (ap length is) ∙ t.2 in
    let over = past.2 in
    omega (arith, long, over)
open_said name (inr never) = let t = some_text (write_reply.text (replies.Open name 0 [])) 12 (open_length name) in never t.0 ((reply-writes (replies.Open name 0 [])).spelled t.0 t.1)

-- ---- what is cut off was not begun

no_front : (before behind : List Wire) (x w : Wire) → w ∷ [] ≡ before ++ x ∷ behind → before ≡ []
no_front [] behind x w e = refl
no_front (b ∷ []) behind x w e = absurd (let tail : [] ≡ x ∷ behind = (let both : w ∷ [] ≡ b ∷ x ∷ behind = e in cc) in cc)
no_front (b ∷ c ∷ before) behind x w e = absurd (let tail : [] ≡ c ∷ (before ++ x ∷ behind) = (let both : w ∷ [] ≡ b ∷ c ∷ (before ++ x ∷ behind) = e in cc) in cc)

nothing_front : (before behind : List Wire) (x : Wire) → [] ≡ before ++ x ∷ behind → before ≡ []
nothing_front [] behind x e = refl
nothing_front (b ∷ before) behind x e = absurd (let clash : [] ≡ b ∷ (before ++ x ∷ behind) = e in cc)

two_front : (before behind : List Wire) (x a w : Wire) → (IsUnsaid w → ⊥) → a ∷ w ∷ [] ≡ before ++ x ∷ behind → IsUnsaid x → before ≡ []
two_front [] behind x a w said e unsaid = refl
two_front (b ∷ before) behind x a w said e unsaid = absurd (by_tail before (let both : a ∷ w ∷ [] ≡ b ∷ (before ++ x ∷ behind) = e in let tail : w ∷ [] ≡ before ++ x ∷ behind = cc in tail))
  where
    by_tail : (before : List Wire) → w ∷ [] ≡ before ++ x ∷ behind → ⊥
    by_tail before tail =
        let none = no_front before behind x w tail in
        let both : w ∷ [] ≡ x ∷ behind = tail ∙ ap (λ (l : List Wire). l ++ x ∷ behind) none in
        let same : x ≡ w = cc in
        said (subst IsUnsaid same unsaid)

-- the word of a device that is opened behind AUTHORIZE is the first
authorized : (target : _) (known : _) (resource user password : List ℕ) (r : AbstractRequest) → IsRequest target 0 known (requests.Authorize resource user password) r → (c : Challenge) × (r ≡ Authorize c)
authorized target known resource user password (Authorize c) is = (c, refl)
authorized target known resource user password r is = absurd is

first_free : (t : Ghost) (i : ℕ) (s : SystemState) (d : RequestContext) (q : Asked) (r : AbstractRequest) (rest : List AbstractRequest) (resource user password : List ℕ) → InContext t i s d → IsAsking i s r rest → IsRequest (target_of (t.jobs i)) 0 (s.job i).client.known q r → q ≡ requests.Authorize resource user password → free_word d.session.held ≡ Some 0
first_free t i s d q r rest resource user password h asking is same =
    let c = authorized (target_of (t.jobs i)) (s.job i).client.known resource user password r (subst (λ (x : Asked). IsRequest (target_of (t.jobs i)) 0 (s.job i).client.known x r) same is) in
    free_zero i s.make d s.device (s.job i) h.shows (authorize_free i (make_for s i) (s.job i).session (s.job i).client (device_for s i) asking.progress c.0 (asking.only ∙ ap (λ (x : AbstractRequest). x ∷ []) c.1) asking.asks.in_sync)

least_zero : (word : ℕ) (free : Option ℕ) → free ≡ Some 0 → (word ≡ 0) ⊎ (free ≡ Some word) → word ≡ 0
least_zero word free e (inl is) = is
least_zero word free e (inr is) = let same : Some 0 ≡ Some word = sym e ∙ is in sym (let zero_is : 0 ≡ word = cc in zero_is)

never_cut : (t : Ghost) (i : ℕ) (s : SystemState) (d new : RequestContext) (q : Asked) (r : AbstractRequest) (rest : List AbstractRequest) (said : RequestAnswer) (b : Bool) → session_goes_on said ≡ b → InContext t i s d → (s.job i).todo ≡ r ∷ rest → IsRequest (target_of (t.jobs i)) 0 (s.job i).client.known q r → Answers t.users d q said new → IsUnderWay (s.job i).client.stage →
    (before behind : List Wire) (reply : Wire) → replies_to said ≡ before ++ reply ∷ behind → IsUnsaid reply → before ≡ []
never_cut t i s d new q r rest said false off h e is g u before behind reply at unsaid =
    nothing_front before behind reply (sym (ends_silent t.users d q said new (own_init (target_of (t.jobs i)) (s.job i).client.known q r is) g off) ∙ at)
never_cut t i s d new q r rest said true on h e is g u before behind reply at unsaid = by_shape (either_shape q said (said_shape t.users d q said new g on))
  where
    by_shape : ((w : Wire) × (said ≡ One w)) ⊎ ((resource user password : List ℕ) × (w : Wire) × (q ≡ requests.Authorize resource user password) × (said ≡ Two replies.Authorize w)) → before ≡ []
    by_shape (inl one) = no_front before behind reply one.0 (sym (ap replies_to one.1) ∙ at)
    by_shape (inr (resource, user, password, w, same, two)) =
        let asking = is_asking i s r rest h.sound u h.served e in
        let o = open_reply t.users d resource user password said new w (subst (λ (x : Asked). Answers t.users d x said new) same g) two in
        let free = first_free t i s d q r rest resource user password h asking is same in
        let word = least_zero o.word (free_word d.session.held) free o.least in
        let w_is : w ≡ replies.Open o.status 0 [] = o.is ∙ ap (λ (n : ℕ). replies.Open o.status n []) word in
        two_front before behind reply replies.Authorize w (λ x. open_said o.status (subst IsUnsaid w_is x)) (sym (ap replies_to two) ∙ at) unsaid

-- ---- any request

pub all_requests : (t : Ghost) (i : ℕ) → OneRequest t i
all_requests t i = one_request t i (λ s d new q r rest said h e is g a. record {
  keeps = keeps_true t i s d q r said new a.0 a.1 h g;
  replied = replies_one t i s d new q r rest said a.0 a.1 h e is g a.2;
  cut = λ u before behind reply at unsaid. never_cut t i s d new q r rest said (session_goes_on said) refl h e is g u before behind reply at unsaid;
})

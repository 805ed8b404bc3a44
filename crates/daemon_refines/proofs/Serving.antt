-- One request that the session goes on behind, and what stands behind it.
use Rattle.std.proofs.Common.{inl, inr, ◌≡◌, ◌∙◌, ℕ, List, [], Bool, true, false, Option, Some, None, refl, sym, ap, subst}
use Rattle.sane_fixed.specs.declared.status.Status.TheVariants as code
use Rattle.md5_auth.specs.declared.users.Entry.{Entry}
use Rattle.wire_message.specs.declared.message.ControlAction.TheVariants.{SetValue}
use Rattle.wire_message.specs.declared.message.Request.{Request as Asked}
use Rattle.wire_message.specs.declared.message.Request.TheVariants as requests
use Rattle.saned_requests.specs.declared.session.AwaitedAuthorization.{AwaitedAuthorization}
use Rattle.saned_requests.specs.declared.request_answer.RequestAnswer.{RequestAnswer}
use Rattle.saned_requests.specs.declared.request_answer.RequestAnswer.TheVariants.{One}
use Rattle.saned_requests.specs.RequestAnswers.{Answers, AnswersBy, AnswersGreeted, RequestContext, IsContextOutcome, ContextOutcome, control, first_answer, greet, session_ended, refused_control}
use Rattle.saned_core.specs.Feeding.{session_goes_on}
use Rattle.system_model.specs.AbstractMessages.{Challenge, Init}
use Rattle.system_model.specs.Devices.{Make}
use Rattle.system_model.specs.AbstractDevices.{AbstractDevice}
use Rattle.system_model.specs.Daemon.{Environment}
use Rattle.system_model.specs.AbstractSessions.{AddressedRequest, AbstractSession, answer_call}
use Rattle.daemon_refines.specs.ContextRefinement.{IsAwaited, ContextRefines}
use Rattle.daemon_refines.specs.Agreeing.{Agrees, manner}
use Rattle.daemon_refines.specs.ModelRequests.{IsCall, IsCallBy, RequestServed, with_chance}
use Rattle.daemon_refines.specs.OtherSessions.{LeavesOthers}
use Rattle.daemon_refines.specs.Feeds.{IsSessionBegun, ServesRequest, effect_by_model}
use Rattle.daemon_refines.specs.Feeds.ServesRequest.{ByTheRules, OfAnotherType}
use Rattle.daemon_refines.proofs.Sources.{no_failure}
use Rattle.daemon_refines.proofs.Calls.{Another, CallFor, around, call_for, greets}
use Rattle.daemon_refines.proofs.SessionEndings.{init_agrees}
use Rattle.daemon_refines.proofs.Greeted.{stays_greeted}
use Rattle.daemon_refines.proofs.Leaves.{requests_leave}
use Rattle.daemon_refines.proofs.OtherSessions.{leaves_all}
use Rattle.daemon_refines.proofs.AnyRequest.{given, requests_agree}
use Rattle.daemon_refines.proofs.SetRequests.{set_refuses}

-- what stands behind it
pub record Served (i : ℕ) (make : ℕ → Make) (users : List Entry) (d : RequestContext) (table : ℕ → AbstractDevice) (s : AbstractSession) (q : Asked) (said : RequestAnswer) (new : RequestContext) : Type 0 where
  pub devices : ℕ → AbstractDevice
  pub session : AbstractSession
  pub serves : ServesRequest i make users d table s q said new devices session
  pub shows : ContextRefines i make new devices session
  pub begun : IsSessionBegun new
  pub others : LeavesOthers i d.registry new.registry table devices

-- by the model
by_rules : (i : ℕ) (make : ℕ → Make) (users : List Entry) (d : RequestContext) (table : ℕ → AbstractDevice) (s : AbstractSession) (q : Asked) (said : RequestAnswer) (new : RequestContext) (call : AddressedRequest) (x : ℕ → Environment) → ContextRefines i make d table s → Answers users d q said new → session_goes_on said ≡ true → IsCall users d table s q call x →
    RequestServed i make d table s q call x said new → IsSessionBegun new → Served i make users d table s q said new
by_rules i make users d table s q said new call x old g on is r begun =
    let comes = effect_by_model i make table s x call r.challenge r.fault in
    record {
      devices = comes.table;
      session = comes.session;
      serves = ByTheRules call x r.challenge r.fault is r.may r.counted r.agrees refl refl;
      shows = r.agrees.stands on;
      begun = begun;
      others = requests_leave i make users d table s q call (with_chance x call.place r.challenge r.fault) said new old g;
    }

-- a SET of another type changes nothing
by_type : (i : ℕ) (make : ℕ → Make) (users : List Entry) (d : RequestContext) (table : ℕ → AbstractDevice) (s : AbstractSession) (q : Asked) (said : RequestAnswer) (new : RequestContext) → ContextRefines i make d table s → IsSessionBegun d → d.session.awaited ≡ None → d.session.greeted ≡ true → Answers users d q said new → Another d q → Served i make users d table s q said new
by_type i make users d table s q said new old begun none greeted g (w, n, kind, value, is, asks) =
    let o = requests.ControlOption w n SetValue kind value in
    let refused : control d w n SetValue kind value ≡ (One (refused_control code.Inval kind value), d) = set_refuses d w n kind value asks in
    let gives : IsContextOutcome (control d w n SetValue kind value) said new =
    subst (λ (a : Option AwaitedAuthorization). AnswersGreeted users d a o said new) none (subst (λ (b : Bool). AnswersBy b users d o said new) greeted (subst (λ (x : Asked). Answers users d x said new) is g)) in
    let said_is : said ≡ One (refused_control code.Inval kind value) = gives.0 ∙ ap (λ (t : ContextOutcome). t.0) refused in
    let new_is : new ≡ d = gives.1 ∙ ap (λ (t : ContextOutcome). t.1) refused in
    record {
      devices = table;
      session = s;
      serves = OfAnotherType w n kind value is asks said_is new_is refl refl;
      shows = subst (λ (t : RequestContext). ContextRefines i make t table s) (sym new_is) old;
      begun = subst (λ (t : RequestContext). IsSessionBegun t) (sym new_is) begun;
      others = subst (λ (t : RequestContext). LeavesOthers i d.registry t.registry table table) (sym new_is) (leaves_all i d.registry table);
    }

-- nothing of another type goes on while AUTHORIZE is awaited
not_awaiting : (users : List Entry) (d : RequestContext) (q : Asked) (said : RequestAnswer) (new : RequestContext) (aw : AwaitedAuthorization) → Another d q → session_goes_on said ≡ true → AnswersGreeted users d (Some aw) q said new → ⊥
not_awaiting users d q said new aw (w, n, kind, value, is, asks) on g =
    let gives : IsContextOutcome (session_ended d) said new = subst (λ (x : Asked). AnswersGreeted users d (Some aw) x said new) is g in
    let clash : false ≡ true = sym (ap session_goes_on gives.0) ∙ on in
    absurd (cc)

by_call : (i : ℕ) (make : ℕ → Make) (users : List Entry) (d : RequestContext) (table : ℕ → AbstractDevice) (s : AbstractSession) (a : Option AwaitedAuthorization) (q : Asked) (said : RequestAnswer) (new : RequestContext) → ContextRefines i make d table s → d.session.greeted ≡ true → d.session.awaited ≡ a → Answers users d q said new → session_goes_on said ≡ true →
    CallFor users d table d.session.awaited s.awaited q → Served i make users d table s q said new
by_call i make users d table s a q said new old greeted e g on (inl c) =
    let now = subst (λ (b : Bool). AnswersBy b users d q said new) greeted g in
    by_rules i make users d table s q said new c.0 c.1 old g on c.2 (requests_agree i make users d table s q c.0 c.1 said new old greeted c.2 g) (inl (stays_greeted users d d.session.awaited q said new now greeted))
by_call i make users d table s None q said new old greeted e g on (inr another) = by_type i make users d table s q said new old (inl greeted) e greeted g another
by_call i make users d table s (Some aw) q said new old greeted e g on (inr another) = absurd (not_awaiting users d q said new aw another on (subst (λ (a : Option AwaitedAuthorization). AnswersGreeted users d a q said new) e (subst (λ (b : Bool). AnswersBy b users d q said new) greeted g)))

served_greeted : (i : ℕ) (make : ℕ → Make) (users : List Entry) (d : RequestContext) (table : ℕ → AbstractDevice) (s : AbstractSession) (q : Asked) (said : RequestAnswer) (new : RequestContext) → ContextRefines i make d table s → d.session.greeted ≡ true → Answers users d q said new → session_goes_on said ≡ true → Served i make users d table s q said new
served_greeted i make users d table s q said new old greeted g on =
    by_call i make users d table s d.session.awaited q said new old greeted refl g on
    (call_for i make users d table s d.session.awaited s.awaited q said new old old.awaited (subst (λ (b : Bool). AnswersBy b users d q said new) greeted g) on)

-- ---- the first request is INIT

not_first : (said : RequestAnswer) (new d : RequestContext) → IsContextOutcome (session_ended d) said new → session_goes_on said ≡ true → ⊥
not_first said new d g on = let clash : false ≡ true = sym (ap session_goes_on g.0) ∙ on in absurd (cc)

none_sent : (i : ℕ) (make : ℕ → Make) (d : RequestContext) (table : ℕ → AbstractDevice) (s : AbstractSession) (a : Option AwaitedAuthorization) → a ≡ None → IsAwaited d.session.held d.registry table a s.awaited → s.awaited ≡ None
none_sent i make d table s None e h = h
none_sent i make d table s (Some aw) e h = absurd (let clash : Some aw ≡ None = e in cc)

init_first : (i : ℕ) (make : ℕ → Make) (users : List Entry) (d : RequestContext) (table : ℕ → AbstractDevice) (s : AbstractSession) (version : ℕ) (user : List ℕ) (said : RequestAnswer) (new : RequestContext) → ContextRefines i make d table s → d.session.awaited ≡ None → Answers users d (requests.Init version user) said new → session_goes_on said ≡ true → IsContextOutcome (greet d version) said new →
    Served i make users d table s (requests.Init version user) said new
init_first i make users d table s version user said new old none g on gives =
    let q = requests.Init version user in
    let major = greets version said gives.0 on in
    let x = around false false in
    let call : AddressedRequest = record { request = Init; word = 0; place = 0 } in
    let sent : s.awaited ≡ None = none_sent i make d table s d.session.awaited none old.awaited in
    let agrees = subst (λ (o : Option (Challenge × ℕ)). Agrees i make (manner d 0) q (answer_call i make table s (with_chance x 0 [] None) o call) said new) (sym sent)
    (given i make (manner d 0) q (answer_call i make table s (with_chance x 0 [] None) None call) (greet d version) said new gives (init_agrees i make d table s (with_chance x 0 [] None) version 0 0 user old none major)) in
    let is : IsCall users d table s q call x = subst (λ (a : Option AwaitedAuthorization). IsCallBy users d table a s.awaited q call x) (sym none) (refl, major) in
    by_rules i make users d table s q said new call x old g on is (record { challenge = []; fault = None; may = no_failure make (s.words call.word); counted = tt; agrees = agrees }) (inl (ap (λ (t : RequestContext). t.session.greeted) gives.1))

served_first : (i : ℕ) (make : ℕ → Make) (users : List Entry) (d : RequestContext) (table : ℕ → AbstractDevice) (s : AbstractSession) (q : Asked) (said : RequestAnswer) (new : RequestContext) → ContextRefines i make d table s → d.session.awaited ≡ None → Answers users d q said new → session_goes_on said ≡ true → IsContextOutcome (first_answer d q) said new → Served i make users d table s q said new
served_first i make users d table s (requests.Init version user) said new old none g on gives = init_first i make users d table s version user said new old none g on gives
served_first i make users d table s q said new old none g on gives = absurd (not_first said new d gives on)

ungreeted : (i : ℕ) (make : ℕ → Make) (users : List Entry) (d : RequestContext) (table : ℕ → AbstractDevice) (s : AbstractSession) (q : Asked) (said : RequestAnswer) (new : RequestContext) (b : Bool) → d.session.greeted ≡ b → ContextRefines i make d table s → IsSessionBegun d → Answers users d q said new → session_goes_on said ≡ true → Served i make users d table s q said new
ungreeted i make users d table s q said new true e old begun g on = served_greeted i make users d table s q said new old e g on
ungreeted i make users d table s q said new false e old (inl greeted) g on = absurd (let clash : true ≡ false = sym greeted ∙ e in cc)
ungreeted i make users d table s q said new false e old (inr none) g on = served_first i make users d table s q said new old none g on (subst (λ (b : Bool). AnswersBy b users d q said new) e g)

pub served : (i : ℕ) (make : ℕ → Make) (users : List Entry) (d : RequestContext) (table : ℕ → AbstractDevice) (s : AbstractSession) (q : Asked) (said : RequestAnswer) (new : RequestContext) → ContextRefines i make d table s → IsSessionBegun d → Answers users d q said new → session_goes_on said ≡ true → Served i make users d table s q said new
served i make users d table s q said new old begun g on = ungreeted i make users d table s q said new d.session.greeted refl old begun g on

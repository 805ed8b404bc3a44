-- One request of a job's client, with the challenge by the model: the resource that was sent.
use Rattle.std.proofs.Common.{◌≡◌, ◌⊎◌, inl, inr, ◌∙◌, ℕ, List, [], ◌∷◌, ◌++◌, Option, Some, None, option_map, Bool, true, false, refl, sym, ap, subst, take}
use Rattle.sane_fixed.specs.declared.status.Status.TheVariants as code
use Rattle.md5_auth.specs.declared.users.Entry.{Entry}
use Rattle.md5_auth.specs.Allowed.{NamesBackend, mark}
use Rattle.md5_auth.specs.ChallengeReading.{after_mark, challenge_of}
use Rattle.md5_auth.proofs.MarkLemmas.{none_found}
use Rattle.option_desc.specs.declared.descriptor.Descriptor.{Descriptor}
use Rattle.option_desc.specs.declared.value.Value.{Value}
use Rattle.dispatch.specs.Backend.{IsBackendOf}
use Rattle.dispatch.specs.Table.{Table, find_name}
use Rattle.wire_message.specs.declared.message.ControlAction.TheVariants as actions
use Rattle.wire_message.specs.declared.message.Request.{Request as Asked}
use Rattle.wire_message.specs.declared.message.Request.TheVariants as requests
use Rattle.wire_message.specs.declared.message.Reply.TheVariants as replies
use Rattle.client_replies.specs.ProtocolStates.{target_of}
use Rattle.saned_requests.specs.declared.request_answer.RequestAnswer.{RequestAnswer}
use Rattle.saned_requests.specs.declared.request_answer.RequestAnswer.TheVariants.{One}
use Rattle.saned_requests.specs.declared.session.AwaitedAuthorization.{AwaitedAuthorization}
use Rattle.saned_requests.specs.Holding.{free_word}
use Rattle.saned_requests.specs.RequestAnswers.{Answers, AnswersBy, AnswersGreeted, AsksAuthorization, RequestContext, OpensDevice, OpensAt, resource_of}
use Rattle.saned_core.specs.Feeding.{session_goes_on}
use Rattle.scan_job.specs.declared.job.Job.{Job}
use Rattle.system_model.specs.AbstractMessages.{Authorize, Challenge, Challenged, Get, Init, Open, AbstractReply, AbstractRequest, Set}
use Rattle.system_model.specs.Devices.{Make}
use Rattle.system_model.specs.AbstractDevices.{AbstractDevice, is_held_by, is_resting}
use Rattle.system_model.specs.Daemon.{TransferState, FailureCounts, AnswerEffect, reply_effect}
use Rattle.system_model.specs.Actions.{job_after_answer, environment_of}
use Rattle.system_model.specs.SystemStates.{JobState, with_entry}
use Rattle.saned_requests.specs.declared.session.Session.{Session as RequestSession}
use Rattle.device_api.specs.State.{DeviceState}
use Rattle.sane_fixed.specs.declared.device_info.DeviceInfo.{DeviceInfo}
use Rattle.system_model.specs.AbstractSessions.{least_free_word as free_of, one_word_session, only_word}
use Rattle.system_model.specs.Transitions.{MayFail}
use Rattle.client_refines.specs.RequestRefinement.{IsRequest}
use Rattle.daemon_refines.specs.Agreeing.{manner}
use Rattle.daemon_refines.specs.Failures.{IsCounted}
use Rattle.daemon_refines.specs.Feeds.{IsSessionBegun}
use Rattle.daemon_refines.specs.ContextRefinement.{IsAwaited, NamesPlace, ContextRefines}
use Rattle.daemon_refines.specs.Spelling.{Manner, SpellsSaid}
use Rattle.daemon_refines.specs.WholeSessions.{IsGuarded}
use Rattle.daemon_refines.proofs.Changes.{Held}
use Rattle.daemon_refines.proofs.OpenSteps.{free_same}
use Rattle.world_refines.specs.Speaks.{Awaits, IsGreeted, SetsAsHeld, SpeaksAs}
use Rattle.world_refines.specs.WorldRefinement.{session_by}
use Rattle.world_refines.proofs.requests.Asked.{IsSession, open_guarded, open_names}
use Rattle.world_refines.proofs.requests.PlainAnswers.{IsPlain, Plain, answer_asks, answer_plain}
use Rattle.world_refines.proofs.requests.Served.{Behind, IsRaw, Raw, devices_by, raw, serving}

-- an AUTHORIZE is asked for, with a resource that has a challenge in it
pub record Demands (told : List AbstractReply) (said : RequestAnswer) : Type 0 where
  pub resource : List ℕ
  pub told_is : told ≡ Challenged resource ∷ []
  pub said_is : said ≡ One (replies.Open code.Good 0 resource)
  pub challenge : List ℕ
  pub marked : challenge_of resource ≡ Some challenge

-- what is said is the model's answer
abbrev pub IsSaid : Manner → Asked → List AbstractReply → RequestAnswer → Type 0
IsSaid m q told said = (SpellsSaid m q told said × IsPlain told) ⊎ Demands told said

pub record IsAnswered (i : ℕ) (make : ℕ → Make) (listed : List ℕ) (name : List ℕ) (device : ℕ → AbstractDevice) (p : JobState) (d : RequestContext) (q : Asked) (r : AbstractRequest) (said : RequestAnswer) (new : RequestContext) (challenge : Challenge) (fault : Option FailureCounts) : Type 0 where
  pub may : MayFail (make p.session.job.wants) fault
  pub behind : Behind i make device p d said new (serving i make listed device p r challenge fault)
  pub counted : IsCounted d.session.held new.session.held 0 fault
  pub begun : IsSessionBegun new
  pub speaks : session_goes_on said ≡ true → SpeaksAs name (job_after_answer p (serving i make listed device p r challenge fault)) new.session
  pub says : ((n : ℕ) (value : Value) → r ≡ Set n value → is_resting (device p.session.job.wants).phase ≡ true) → IsSaid (manner d 0) q (serving i make listed device p r challenge fault).told said

abbrev pub Answering : ℕ → (ℕ → Make) → List ℕ → List ℕ → (ℕ → AbstractDevice) → JobState → RequestContext → Asked → AbstractRequest → RequestAnswer → RequestContext → Type 0
Answering i make listed name device p d q r said new = (challenge : Challenge) × (fault : Option FailureCounts) × IsAnswered i make listed name device p d q r said new challenge fault

-- ---- where nothing is asked for

speaks_as : (name : List ℕ) (p : JobState) (s : RequestSession DeviceState) → s.greeted ≡ true → s.awaited ≡ None → p.session.awaited ≡ None → SpeaksAs name p s
speaks_as name p s greeted none sent =
    record { greeted = subst (λ (b : Bool). IsGreeted b p.todo) (sym greeted) tt; awaits = subst (λ (a : Option AwaitedAuthorization). Awaits name a p.session.awaited) (sym none) sent }

none_awaited : (held : Held) (registry : Table) (table : ℕ → AbstractDevice) (a : Option AwaitedAuthorization) (sent : Option (Challenge × ℕ)) → sent ≡ None → IsAwaited held registry table a sent → a ≡ None
none_awaited held registry table None sent e h = refl
none_awaited held registry table (Some a) sent e h = absurd (subst (IsAwaited held registry table (Some a)) e h)

plain_answered : (i : ℕ) (make : ℕ → Make) (listed name : List ℕ) (device : ℕ → AbstractDevice) (p : JobState) (d : RequestContext) (q : Asked) (r : AbstractRequest) (said : RequestAnswer) (new : RequestContext) (challenge : Challenge) (fault : Option FailureCounts) → Raw i make listed device p d q r said new challenge fault → Plain (serving i make listed device p r challenge fault) →
    IsAnswered i make listed name device p d q r said new challenge fault
plain_answered i make listed name device p d q r said new challenge fault a plain =
    let v = serving i make listed device p r challenge fault in
    record {
      may = a.may;
      behind = a.behind;
      counted = a.counted;
      begun = inl a.greeted;
      speaks = λ on.
          let shows = a.behind.shows (a.behind.same_end ∙ on) in
          let table = devices_by device p v in
          speaks_as name (job_after_answer p v) new.session a.greeted (none_awaited new.session.held new.registry table new.session.awaited (session_by i table (job_after_answer p v)).awaited (ap (option_map (λ (c : Challenge). (c, p.session.job.wants))) plain.awaited) shows.awaited) plain.awaited;
      says = λ rests. inl (a.says rests, plain.told);
    }

-- ---- an OPEN of a guarded device

-- a word is free
words_free : (b : Bool) (d : ℕ) → free_of (only_word b d) ≡ None → ⊥
words_free true d e = let clash : ◌≡◌ {A = Option ℕ} (Some 1) None = e in absurd (cc)
words_free false d e = let clash : ◌≡◌ {A = Option ℕ} (Some 0) None = e in absurd (cc)

has_free : (i : ℕ) (make : ℕ → Make) (d : RequestContext) (device : ℕ → AbstractDevice) (p : JobState) → ContextRefines i make d device (session_by i device p) → free_word d.session.held ≡ None → ⊥
has_free i make d device p h e = words_free (is_held_by i (device p.session.job.wants).holder) p.session.job.wants (free_same d.session.held (session_by i device p).words h.four h.words ∙ e)

no_names : (b : Bool) (users : List Entry) (name backend : List ℕ) → b ≡ true → IsGuarded users name b → IsBackendOf name backend → ¬ NamesBackend users backend → ⊥
no_names true users name backend e h is none = none (h backend is)
no_names false users name backend e h is none = let clash : false ≡ true = e in absurd (cc)

asks_at : (users : List Entry) (d : RequestContext) (device : ℕ → AbstractDevice) (k : ℕ) (guarded : Bool) (name : List ℕ) (free place : Option ℕ) (said : RequestAnswer) (new : RequestContext) → (free ≡ None → ⊥) → NamesPlace place device k → (device k).listed ≡ true → guarded ≡ true → IsGuarded users name guarded → OpensAt users d name free place said new → AsksAuthorization users d name said new
asks_at users d device k guarded name None place said new some names listed on known h = absurd (some refl)
asks_at users d device k guarded name (Some w) None said new some names listed on known h = absurd (let clash : false ≡ true = sym names ∙ listed in cc)
asks_at users d device k guarded name (Some w) (Some place) said new some names listed on known (inl asks) = asks
asks_at users d device k guarded name (Some w) (Some place) said new some names listed on known (inr now) = absurd (no_names guarded users name now.backend on known now.backend_is now.unnamed)

marked_by : (resource : List ℕ) (o : Option (List ℕ)) → after_mark resource ≡ o → (before after : List ℕ) → resource ≡ before ++ (mark ++ after) → (c : List ℕ) × (challenge_of resource ≡ Some c)
unfolding challenge_of
marked_by resource None e before after is = absurd (none_found resource e before after is)
marked_by resource (Some rest) e before after is = (take 128 rest, ap (option_map (take 128)) e)

marked : (backend challenge : List ℕ) → (c : List ℕ) × (challenge_of (resource_of backend challenge) ≡ Some c)
marked backend challenge = marked_by (resource_of backend challenge) (after_mark (resource_of backend challenge)) refl backend challenge refl

-- the session awaits another challenge
awaits_other : (held : Held) (registry : Table) (table : ℕ → AbstractDevice) (a : Option AwaitedAuthorization) (c e : Challenge) (k : ℕ) → IsAwaited held registry table a (Some (c, k)) → IsAwaited held registry table a (Some (e, k))
awaits_other held registry table None c e k h = absurd (let clash : Some (c, k) ≡ None = h in cc)
awaits_other held registry table (Some a) c e k h = h

other_challenge : (i : ℕ) (make : ℕ → Make) (d : RequestContext) (table : ℕ → AbstractDevice) (b : Bool) (k : ℕ) (transfer : TransferState) (c e : Challenge) → ContextRefines i make d table (one_word_session b k transfer (Some c)) → ContextRefines i make d table (one_word_session b k transfer (Some e))
other_challenge i make d table b k transfer c e h =
    record { words = h.words; four = h.four; transfer = h.transfer; frame = h.frame; awaited = awaits_other d.session.held d.registry table d.session.awaited c e k h.awaited; devices = h.devices }

-- what is served is the same but for the challenge
asked_behind : (i : ℕ) (make : ℕ → Make) (device : ℕ → AbstractDevice) (p : JobState) (d : RequestContext) (said : RequestAnswer) (new : RequestContext) (c e : Challenge) (v u : AnswerEffect) → v ≡ record (reply_effect (Challenged c) (device p.session.job.wants) p.session.transfer) { awaited = Some c } →
    u ≡ record (reply_effect (Challenged e) (device p.session.job.wants) p.session.transfer) { awaited = Some e } → Behind i make device p d said new v → Behind i make device p d said new u
asked_behind i make device p d said new c e v u v_is u_is h =
    let wants = p.session.job.wants in
    let dev = device wants in
    let vs : AnswerEffect = record (reply_effect (Challenged c) dev p.session.transfer) { awaited = Some c } in
    let us : AnswerEffect = record (reply_effect (Challenged e) dev p.session.transfer) { awaited = Some e } in
    let b : Behind i make device p d said new vs = subst (Behind i make device p d said new) v_is h in
    subst (Behind i make device p d said new) (sym u_is) (record {
      same_end = b.same_end;
      shows = λ on. other_challenge i make new (with_entry device wants dev) (is_held_by i (with_entry device wants dev wants).holder) wants p.session.transfer c e (b.shows on);
      ends = λ off. b.ends off;
      others = b.others;
      others_end = λ off. b.others_end off;
    })

asked_answered : (i : ℕ) (make : ℕ → Make) (users : List Entry) (listed name : List ℕ) (device : ℕ → AbstractDevice) (p : JobState) (d : RequestContext) (q : Asked) (said : RequestAnswer) (new : RequestContext) (challenge : Challenge) (fault : Option FailureCounts) → Raw i make listed device p d q Open said new challenge fault →
    p.session.awaited ≡ None → (device p.session.job.wants).listed ≡ true → p.session.job.guarded ≡ true → AsksAuthorization users d name said new → Answering i make listed name device p d q Open said new
asked_answered i make users listed name device p d q said new challenge fault a none is_listed guarded asks =
    let k = make p.session.job.wants in
    let dev = device p.session.job.wants in
    let resource = resource_of asks.backend asks.challenge in
    let v_is = answer_asks i k dev p.session.transfer p.session.awaited (environment_of p.session listed challenge fault) none is_listed guarded in
    let u_is = answer_asks i k dev p.session.transfer p.session.awaited (environment_of p.session listed resource fault) none is_listed guarded in
    let m = marked asks.backend asks.challenge in (
      resource,
      fault,
      record {
        may = a.may;
        behind = asked_behind i make device p d said new challenge resource (serving i make listed device p Open challenge fault) (serving i make listed device p Open resource fault) v_is u_is a.behind;
        counted = a.counted;
        begun = inl a.greeted;
        speaks = λ on. record {
          greeted = subst (λ (b : Bool). IsGreeted b (job_after_answer p (serving i make listed device p Open resource fault)).todo) (sym a.greeted) tt;
          awaits =
              subst (λ (x : Option AwaitedAuthorization). Awaits name x (serving i make listed device p Open resource fault).awaited) (sym (ap (λ (t : RequestContext). t.session.awaited) asks.new_is))
              (refl, ap (λ (x : AnswerEffect). x.awaited) u_is);
        };
        says = λ rests. inr (record { resource = resource; told_is = ap (λ (x : AnswerEffect). x.told) u_is; said_is = asks.said_is; challenge = m.0; marked = m.1 });
      },
    )

-- ---- any request

is_open : (r : AbstractRequest) → (r ≡ Open) ⊎ (r ≡ Open → ⊥)
is_open Open = inl refl
is_open (Authorize challenge) = inr (λ e. let clash : Authorize challenge ≡ Open = e in absurd (cc))
is_open (Get n) = inr (λ e. let clash : Get n ≡ Open = e in absurd (cc))
is_open (Set n value) = inr (λ e. let clash : Set n value ≡ Open = e in absurd (cc))
is_open q = inr (λ e. let clash : q ≡ Open = e in absurd (cc))

is_true : (b : Bool) → (b ≡ true) ⊎ (b ≡ true → ⊥)
is_true true = inl refl
is_true false = inr (λ e. let clash : false ≡ true = e in absurd (cc))

is_none : (o : Option Challenge) → (o ≡ None) ⊎ (o ≡ None → ⊥)
is_none None = inl refl
is_none (Some c) = inr (λ e. let clash : Some c ≡ None = e in absurd (cc))

-- an OPEN that is answered by the resource
pub record AsksNow (device : ℕ → AbstractDevice) (p : JobState) (r : AbstractRequest) : Type 0 where
  pub open_is : r ≡ Open
  pub none : p.session.awaited ≡ None
  pub listed : (device p.session.job.wants).listed ≡ true
  pub guarded : p.session.job.guarded ≡ true

asks_or : (device : ℕ → AbstractDevice) (p : JobState) (r : AbstractRequest) → (r ≡ Open) ⊎ (r ≡ Open → ⊥) → (p.session.awaited ≡ None) ⊎ (p.session.awaited ≡ None → ⊥) → ((device p.session.job.wants).listed ≡ true) ⊎ ((device p.session.job.wants).listed ≡ true → ⊥) → (p.session.job.guarded ≡ true) ⊎ (p.session.job.guarded ≡ true → ⊥) →
    AsksNow device p r ⊎ (r ≡ Open → p.session.awaited ≡ None → (device p.session.job.wants).listed ≡ true → p.session.job.guarded ≡ true → ⊥)
asks_or device p r (inl a) (inl b) (inl c) (inl e) = inl (record { open_is = a; none = b; listed = c; guarded = e })
asks_or device p r (inr n) b c e = inr (λ x y z w. n x)
asks_or device p r (inl a) (inr n) c e = inr (λ x y z w. n y)
asks_or device p r (inl a) (inl b) (inr n) e = inr (λ x y z w. n z)
asks_or device p r (inl a) (inl b) (inl c) (inr n) = inr (λ x y z w. n w)

-- a session that awaits nothing, and answers an OPEN, was greeted
opens_free : (users : List Entry) (d : RequestContext) (p : JobState) (name : List ℕ) (device_name : List ℕ) (rest : List AbstractRequest) (said : RequestAnswer) (new : RequestContext) (b : Bool) (a : Option AwaitedAuthorization) → d.session.greeted ≡ b → d.session.awaited ≡ a → p.todo ≡ Open ∷ rest → p.session.awaited ≡ None → SpeaksAs device_name p d.session → Answers users d (requests.Open name) said new → OpensDevice users d name said new
opens_free users d p name device_name rest said new false a e f todo none s g =
    let first = subst (λ (x : Bool). IsGreeted x p.todo) e s.greeted in
    let clash : Open ∷ rest ≡ Init ∷ first.0 = sym todo ∙ first.1 in
    let other : Open ≡ Init = ap (λ (x : List AbstractRequest). first_or x) clash in absurd (cc)
  where
    first_or : List AbstractRequest → AbstractRequest
    first_or [] = Open
    first_or (x ∷ xs) = x
opens_free users d p name device_name rest said new true None e f todo none s g = subst (λ (x : Option AwaitedAuthorization). AnswersGreeted users d x (requests.Open name) said new) f (subst (λ (x : Bool). AnswersBy x users d (requests.Open name) said new) e g)
opens_free users d p name device_name rest said new true (Some awaited) e f todo none s g =
    let awaits = subst (λ (x : Option AwaitedAuthorization). Awaits device_name x p.session.awaited) f s.awaits in
    absurd (let clash : None ≡ Some awaited.resource = sym none ∙ awaits.1 in cc)

open_answered : (i : ℕ) (make : ℕ → Make) (users : List Entry) (infos : List DeviceInfo) (job : Job) (d : RequestContext) (device : ℕ → AbstractDevice) (p : JobState) (listed : List ℕ) (known : List Descriptor) (q : Asked) (rest : List AbstractRequest) (said : RequestAnswer) (new : RequestContext) → IsSession i make users infos job d device p → AsksNow device p Open → p.todo ≡ Open ∷ rest →
    IsRequest (target_of job) 0 known q Open → Answers users d q said new → IsRaw i make listed device p d q Open said new → Answering i make listed job.device device p d q Open said new
open_answered i make users infos job d device p listed known (requests.Open name) rest said new h asks todo is g a =
    let opens = opens_free users d p name job.device rest said new d.session.greeted d.session.awaited refl refl todo asks.none h.speaks g in
    let now = asks_at users d device p.session.job.wants p.session.job.guarded name (free_word d.session.held) (find_name name d.registry) said new (has_free i make d device p h.shows) (open_names i make users infos job d device p name h is) asks.listed asks.guarded (open_guarded i make users infos job d device p name h is) opens in
    asked_answered i make users listed job.device device p d (requests.Open name) said new a.0 a.1 a.2 asks.none asks.listed asks.guarded (subst (λ (n : List ℕ). AsksAuthorization users d n said new) is now)
open_answered i make users infos job d device p listed known (requests.ControlOption w o actions.GetValue kind value) rest said new h asks todo is g a = absurd is
open_answered i make users infos job d device p listed known (requests.ControlOption w o actions.SetValue kind value) rest said new h asks todo is g a = absurd is
open_answered i make users infos job d device p listed known q rest said new h asks todo is g a = absurd is

by_asks : (i : ℕ) (make : ℕ → Make) (users : List Entry) (infos : List DeviceInfo) (job : Job) (d : RequestContext) (device : ℕ → AbstractDevice) (p : JobState) (listed : List ℕ) (known : List Descriptor) (q : Asked) (r : AbstractRequest) (rest : List AbstractRequest) (said : RequestAnswer) (new : RequestContext) → IsSession i make users infos job d device p → p.todo ≡ r ∷ rest → IsRequest (target_of job) 0 known q r → Answers users d q said new →
    IsRaw i make listed device p d q r said new → AsksNow device p r ⊎ (r ≡ Open → p.session.awaited ≡ None → (device p.session.job.wants).listed ≡ true → p.session.job.guarded ≡ true → ⊥) → Answering i make listed job.device device p d q r said new
by_asks i make users infos job d device p listed known q r rest said new h todo is g a (inl asks) =
    subst (λ (x : AbstractRequest). Answering i make listed job.device device p d q x said new) (sym asks.open_is)
    (open_answered i make users infos job d device p listed known q rest said new h (record { open_is = refl; none = asks.none; listed = asks.listed; guarded = asks.guarded }) (subst (λ (x : AbstractRequest). p.todo ≡ x ∷ rest) asks.open_is todo)
    (subst (IsRequest (target_of job) 0 known q) asks.open_is is) g (subst (λ (x : AbstractRequest). IsRaw i make listed device p d q x said new) asks.open_is a))
by_asks i make users infos job d device p listed known q r rest said new h todo is g a (inr never) =
    (a.0, a.1, plain_answered i make listed job.device device p d q r said new a.0 a.1 a.2 (answer_plain i (make p.session.job.wants) (device p.session.job.wants) p.session.transfer p.session.awaited (environment_of p.session listed a.0 a.1) r never))

-- ONE REQUEST of a job's client that the daemon answers is answered by the model, with some challenge, where its page source fails or not
pub answers_as : (i : ℕ) (make : ℕ → Make) (users : List Entry) (infos : List DeviceInfo) (job : Job) (d : RequestContext) (device : ℕ → AbstractDevice) (p : JobState) (listed : List ℕ) (known : List Descriptor) (q : Asked) (r : AbstractRequest) (rest : List AbstractRequest) (said : RequestAnswer) (new : RequestContext) → IsSession i make users infos job d device p → IsSessionBegun d → p.todo ≡ r ∷ rest →
    SetsAsHeld i (make p.session.job.wants) known (device p.session.job.wants) (r ∷ rest) → IsRequest (target_of job) 0 known q r → Answers users d q said new → Answering i make listed job.device device p d q r said new
answers_as i make users infos job d device p listed known q r rest said new h begun todo as_held is g =
    by_asks i make users infos job d device p listed known q r rest said new h todo is g (raw i make users infos job d device p listed known q r rest said new h begun todo as_held is g)
    (asks_or device p r (is_open r) (is_none p.session.awaited) (is_true (device p.session.job.wants).listed) (is_true p.session.job.guarded))

-- The replies of a piece, one after another, and what is sent for them.
use Rattle.std.proofs.Common.{arith, ◌≡◌, ◌∙◌, ◌<◌, ℕ, append_assoc, append-nil, zero, suc, ◌⊎◌, inl, inr, Option, Some, None, Bool, true, false, ◌||◌, List, [], ◌∷◌, ◌++◌, refl, sym, ap, subst, length, lt-ltb, ltb-false}
use Rattle.std.specs.Prelude.{if◌then◌else◌, nat_lt, Ok, Err}
use Rattle.wire_format.specs.Format.{Format, places}
use Rattle.wire_format.specs.Limit.{limited_format}
use Rattle.wire_format.specs.declared.fault.Fault.TheVariants.{TooLong}
use Rattle.sane_fixed.specs.declared.status.Status.TheVariants as statuses
use Rattle.sane_fixed.specs.declared.device_info.DeviceInfo.{DeviceInfo}
use Rattle.page_picture.specs.Shows.{Frame}
use Rattle.frame_join.specs.FrameHistory.{JoinHistory}
use Rattle.wire_message.specs.declared.message.Procedure.{Procedure}
use Rattle.wire_message.specs.declared.message.Procedure.TheVariants as procedures
use Rattle.wire_message.specs.declared.message.Reply.{Reply}
use Rattle.wire_message.specs.Message.{message_limit, reply, descriptors, next_descriptor}
use Rattle.option_desc.specs.declared.descriptor.Descriptor.{Descriptor}
use Rattle.scan_job.specs.declared.job.Task.{Task}
use Rattle.scan_job.specs.declared.outcome.Outcome.{Outcome}
use Rattle.scan_job.specs.declared.outcome.Outcome.TheVariants.{Running, Done, Ended}
use Rattle.scan_job.specs.declared.outcome.Why.TheVariants as whys
use Rattle.client_replies.specs.declared.progress.JobTarget.{JobTarget}
use Rattle.client_replies.specs.declared.progress.Progress.{Progress}
use Rattle.client_replies.specs.declared.progress.Progress.TheVariants as stages
use Rattle.client_replies.specs.declared.progress.Notes.{Notes}
use Rattle.client_replies.specs.declared.progress.Next.{Next}
use Rattle.client_replies.specs.declared.progress.Next.TheVariants.{Wait, Finish, Stop}
use Rattle.net_client.specs.ClientStates.{ClientState, protocol_of, ClientRepresents}
use Rattle.client_replies.specs.ProtocolStates.{ProtocolState, HistoryFits, NextFits, next_outcome, next_progress, heard_at, after_reply, is_running}
use Rattle.net_client.specs.ReplyPieces.{HearsReplies, IsReply, awaited_procedure, HasHeard, Whole, Garbled, OutOfMemoryBehind, OutOfMemoryAtOnce}
use Rattle.client_replies.proofs.Fitting.{answer_fits}
use Rattle.system_model.specs.Client as model
use Rattle.system_model.specs.ClientReplies.{hear_in, client_after_stop}
use Rattle.client_refines.specs.DecodedReplies.{DecodedReply, Before, Says, Demands, decoded_reply_at, HasShortArray, IsShortAt}
use Rattle.client_refines.specs.ClientRefinement.{task_of, OutcomeRefines, ClientRefines}
use Rattle.client_refines.specs.Replies.{HeardAs}
use Rattle.client_refines.specs.ClientLives.{stopped_by}
use Rattle.client_refines.specs.PieceRefinement.{Hearing, PiecesAreHeardAlike, ListeningClient, listening_after, SpellsSent, HearingAll, ListeningRefines, new_listening_client}
use Rattle.client_refines.proofs.Heard.{replies_alike}
use Rattle.client_refines.proofs.ClientEndings.{stops_alike}
use Rattle.wire_format.specs.Writer.{append_text}
use Rattle.wire_writing.specs.RequestWriting.{write_request}
use Rattle.wire_message.specs.declared.message.Request.{Request}
use Rattle.sane_fixed.specs.declared.status.Status.{Status}
use Rattle.scan_job.specs.declared.outcome.Why.{Why}
use Rattle.net_client.specs.Sending.{requests_text}
use Rattle.client_refines.specs.RequestRefinement.{ExpectedRequest, asks_of, AreRequests}
use Rattle.client_refines.proofs.Said.{requests_by, sends_text, Saying, replies_said, next_word}
use Rattle.client_refines.specs.Replies.{client_refusing}

-- ---- a list of descriptors is short

places_spelled : {A : Type 0} (F : Format A) (n : ℕ) (text : List ℕ) (all : List A) → (places n F).spells text all → length all ≡ n
unfolding places
places_spelled F zero text all h = ap length h.1
places_spelled F (suc n) text all h = ap length h.behind.behind.1 ∙ ap suc (places_spelled F n h.behind.front h.behind.first h.behind.in_front)

within : (n : ℕ) (a b : Bool) (k : ℕ) → nat_lt 1024 k ≡ b → (if a || b then Err TooLong else Ok k) ≡ Ok n → n < 1025
within n true b k e h = absurd (let clash : Err TooLong ≡ Ok n = h in cc)
within n false true k e h = absurd (let clash : Err TooLong ≡ Ok n = h in cc)
within n false false k e h = let l = ltb-false 1024 k e in let same : k ≡ n = cc in omega arith

short_list : (text : List ℕ) (all : List Descriptor) → descriptors.spells text all → nat_lt (length all) 1025 ≡ true
unfolding descriptors
short_list text all h =
    let n : length all ≡ h.first = places_spelled next_descriptor h.first h.back all h.behind in
    let w : h.first < 1025 = within h.first (nat_lt h.in_front.n 0) (nat_lt 1024 h.in_front.n) h.in_front.n refl h.in_front.is in
    lt-ltb (length all) 1025 (omega arith)

short_from : (text : List ℕ) (r : Reply) → (limited_format message_limit (reply procedures.GetOptionDescriptors)).spells text r → HasShortArray r
unfolding limited_format reply
short_from text r h = subst (λ (x : Reply). HasShortArray x) (sym h.1.behind.1) (short_list h.1.front h.1.first h.1.in_front)

short_at : (progress : Progress) (text : List ℕ) (r : Reply) → IsReply progress text r → IsShortAt progress r
short_at stages.Describing text r i =
    let same : procedures.GetOptionDescriptors ≡ i.procedure = (let e : Some procedures.GetOptionDescriptors ≡ Some i.procedure = i.awaited_is in cc) in
    short_from text r (subst (λ (p : Procedure). (limited_format message_limit (reply p)).spells text r) (sym same) i.spelled)
short_at progress text r i = tt

-- ---- replies

-- the job runs, or nothing is waited for any more
abbrev Lives : Task → Outcome → Progress → JoinHistory → Type 0
Lives task outcome progress past = ((outcome ≡ Running) × HistoryFits task Running progress past) ⊎ (progress ≡ stages.Over)

lives : (task : Task) (notes : Notes) (next : Next) (past : JoinHistory) → NextFits task past next → Lives task (next_outcome task notes next) (next_progress next) past
lives task notes (Wait progress) past n = inl (refl, n)
lives task notes (Finish devices) past n = inr refl
lives task notes (Stop status why) past n = inr refl

-- ---- what is asked for

same_append : (target : JobTarget) (qs : List Request) (rs : List ExpectedRequest) (more : List Request) (last : List ExpectedRequest) → AreRequests target qs rs → AreRequests target more last → AreRequests target (qs ++ more) (rs ++ last)
same_append target [] [] more last a b = b
same_append target [] (r ∷ rs) more last a b = absurd a
same_append target (q ∷ qs) [] more last a b = absurd a
same_append target (q ∷ qs) (r ∷ rs) more last a b = (a.0, same_append target qs rs more last a.1 b)

text_by : (q : Option (List ℕ)) (qs more : Option (List ℕ)) (both : Option (List ℕ)) (front back : List ℕ) → append_text q qs ≡ Some front → more ≡ Some back
    → ((front : List ℕ) → qs ≡ Some front → both ≡ Some (front ++ back)) → append_text q both ≡ Some (front ++ back)
text_by None qs more both front back e f h = absurd (let clash : None ≡ Some front = e in cc)
text_by (Some t) None more both front back e f h = absurd (let clash : None ≡ Some front = e in cc)
text_by (Some t) (Some l) more both front back e f h =
    let same : t ++ l ≡ front = (let s : Some (t ++ l) ≡ Some front = e in cc) in
    ap (λ (o : Option (List ℕ)). append_text (Some t) o) (h l refl) ∙ ap (λ (x : List ℕ). Some x) (sym (append_assoc t l back) ∙ ap (λ (x : List ℕ). x ++ back) same)

text_append : (qs more : List Request) (front back : List ℕ) → requests_text qs ≡ Some front → requests_text more ≡ Some back → requests_text (qs ++ more) ≡ Some (front ++ back)
text_append [] more front back e f =
    let s : Some [] ≡ Some front = e in
    let same : [] ≡ front = cc in
    f ∙ ap (λ (x : List ℕ). Some (x ++ back)) same
text_append (q ∷ qs) more front back e f = text_by (write_request.text q) (requests_text qs) (requests_text more) (requests_text (qs ++ more)) front back e f (λ l d. text_append qs more l back d f)

-- so much more is sent, and asked for
spell_more : (target : JobTarget) (front back : List ℕ) (asks : List ExpectedRequest) (qs : List Request) (rs : List ExpectedRequest) → SpellsSent target front asks → requests_text qs ≡ Some back → AreRequests target qs rs → SpellsSent target (front ++ back) (asks ++ rs)
spell_more target front back asks qs rs s e a = record {
  requests = s.requests ++ qs;
  text = text_append s.requests qs front back s.text e;
  same = same_append target s.requests asks qs rs s.same a;
}

spell_none : (target : JobTarget) (front back : List ℕ) (asks : List ExpectedRequest) (qs : List Request) → SpellsSent target front asks → requests_text qs ≡ Some back → qs ≡ [] → SpellsSent target (front ++ back) asks
spell_none target front back asks qs s e n =
    subst (λ (l : List ExpectedRequest). SpellsSent target (front ++ back) l) (append-nil asks)
    (spell_more target front back asks [] [] s (ap (λ (l : List Request). requests_text l) (sym n) ∙ e) tt)

-- ---- one reply after another

-- a client that has heard a reply, and sent that, goes on so
abbrev Then : (DeviceInfo → ℕ) → JobTarget → model.AbstractJob → List (List Frame) → ProtocolState → List Reply → List ℕ → (ListeningClient → Type 0) → Type 0
Then place target job pages t rs sent Holds = (n : ListeningClient) → ClientRefines place target job pages t n.client → SpellsSent target sent n.asks → HearingAll place target job t rs Holds n

goes_on : (place : DeviceInfo → ℕ) (target : JobTarget) (job : model.AbstractJob) (pages : List (List Frame)) (t : ProtocolState) (rs : List Reply) (h : ListeningClient) (decoded : DecodedReply) (Holds : ListeningClient → Type 0) (word : ℕ) (next : Next) (front back : List ℕ)
    → SpellsSent target front h.asks → requests_text (requests_by target word next) ≡ Some back → HeardAs place target job pages t h.client decoded → Saying target word job next h.client decoded
    → Then place target job pages t rs (front ++ back) Holds → Hearing job word h decoded (λ n. HearingAll place target job t rs Holds n)
goes_on place target job pages t rs h Before Holds word next front back s e heard said more = more h heard (spell_none target front back h.asks (requests_by target word next) s e said)
goes_on place target job pages t rs h (Says answer) Holds word next front back s e heard said more =
    let m : model.ClientView = hear_in h.client.stage job h.client answer in
    more (listening_after job word h m) heard (spell_more target front back h.asks (requests_by target word next) (asks_of word m.known (model.requests_sent job.task m.stage)) s e said)
goes_on place target job pages t rs h Demands Holds word next front back s e heard said more =
    let m : model.ClientView = client_refusing h.client in
    more (listening_after job word h m) heard (spell_more target front back h.asks (requests_by target word next) (asks_of word m.known (model.requests_sent job.task m.stage)) s e said)

hears : (place : DeviceInfo → ℕ) (target : JobTarget) (job : model.AbstractJob) (pages : List (List Frame)) (t u : ProtocolState) (rs : List Reply) (text sent : List ℕ) (h : ListeningClient) (front : List ℕ) (Holds : ListeningClient → Type 0)
    → job.task ≡ task_of target.task → Lives target.task t.outcome t.progress t.history → ClientRefines place target job pages t h.client → SpellsSent target front h.asks → HearsReplies target t rs text sent u
    → ((n : ListeningClient) → ListeningRefines place target job pages u n.client (front ++ sent) n.asks → Holds n) → HearingAll place target job t rs Holds h
hears place target job pages t u [] text sent h front Holds e l r s hs k =
    k h (record {
      reads = subst (λ (x : ProtocolState). ClientRefines place target job pages x h.client) (sym hs.2) r;
      spells = subst (λ (x : List ℕ). SpellsSent target x h.asks) (sym (ap (λ (x : List ℕ). front ++ x) hs.1 ∙ append-nil front)) s;
    })
hears place target job pages t u (a ∷ rs) text sent h front Holds e (inl live) r s hs k =
    let heard = heard_at t.progress target t.notes t.history a in
    let fits = answer_fits t.progress target t.notes t.history a live.1.0 live.1.1 in
    let next = lives target.task heard.turn.notes heard.turn.next heard.history fits in
    let short = short_at t.progress hs.0 a hs.6 in
    subst (λ (word : ℕ). Hearing job word h (decoded_reply_at place t.progress a) (λ n. HearingAll place target job (after_reply target t a) rs Holds n)) (sym (next_word heard.turn.notes heard.turn.next))
    (goes_on place target job pages (after_reply target t a) rs h (decoded_reply_at place t.progress a) Holds heard.turn.notes.word heard.turn.next front hs.2 s
    (sends_text target heard.turn.notes.word heard.turn.next ∙ hs.7)
    (replies_alike place target job pages t h.client a e short live.0 live.1 r)
    (replies_said place target job pages t h.client a e short live.0 live.1 r)
    (λ n reads spells. hears place target job pages (after_reply target t a) u rs hs.1 hs.3 n (front ++ hs.2) Holds e next reads spells hs.8
    (λ n f. k n (subst (λ (x : List ℕ). ListeningRefines place target job pages u n.client x n.asks) (append_assoc front hs.2 hs.3 ∙ ap (λ (x : List ℕ). front ++ x) (sym hs.5)) f))))
hears place target job pages t u (a ∷ rs) text sent h front Holds e (inr over) r s hs k =
    let i = hs.6 in
    absurd (let clash : None ≡ Some i.procedure = sym (ap awaited_procedure over) ∙ i.awaited_is in cc)

-- ---- how a call ends

pub runs_is : (o : Outcome) → is_running o ≡ true → o ≡ Running
runs_is Running e = refl
runs_is (Done reports) e = absurd (let clash : false ≡ true = e in cc)
runs_is (Ended status why) e = absurd (let clash : false ≡ true = e in cc)

silence : (target : JobTarget) → SpellsSent target [] []
silence target = record { requests = []; text = refl; same = tt }

-- of a job that ran, and has ended so, no more is read than that
pub ends_so : (place : DeviceInfo → ℕ) (target : JobTarget) (job : model.AbstractJob) (pages : List (List Frame)) (protocol : ProtocolState) (new : ClientState) (m : model.ClientView) (status : Status) (why : Why)
    → protocol.outcome ≡ Running → new.outcome ≡ Ended status why → ClientRefines place target job pages protocol m → ClientRefines place target job pages (protocol_of new protocol.history) (client_after_stop status why m)
ends_so place target job pages protocol new m status why o n r =
    let h : ClientRefines place target job pages (stopped_by status why protocol Running) (client_after_stop status why m) =
    subst (λ (y : Outcome). ClientRefines place target job pages (stopped_by status why protocol y) (client_after_stop status why m)) o (stops_alike place target job pages protocol m status why r) in
    record { files = h.files; stands = subst (λ (y : Outcome). OutcomeRefines place target job pages y new.progress new.notes protocol.history (client_after_stop status why m)) (sym n) h.stands }

hears_all : (place : DeviceInfo → ℕ) (job : model.AbstractJob) (pages : List (List Frame)) (old was : ClientState) (past : JoinHistory) (piece : List ℕ) (m : model.ClientView) (Holds : ListeningClient → Type 0) (h : HasHeard old past piece was)
    → job.task ≡ task_of old.target.task → is_running old.outcome ≡ true → ClientRepresents past old → ClientRefines place old.target job pages (protocol_of old past) m
    → ((n : ListeningClient) → ListeningRefines place old.target job pages (protocol_of was h.history_then) n.client h.sent n.asks → Holds n) → HearingAll place old.target job (protocol_of old past) h.told Holds (new_listening_client m)
hears_all place job pages old was past piece m Holds h t o s r k =
    let running = runs_is old.outcome o in
    let fits : HistoryFits old.target.task Running old.progress past = subst (λ (y : Outcome). HistoryFits old.target.task y old.progress past) running s.fits in
    hears place old.target job pages (protocol_of old past) (protocol_of was h.history_then) h.told h.text h.sent (new_listening_client m) [] Holds t (inl (running, fits)) r (silence old.target) h.hears k

pub all_heard : PiecesAreHeardAlike
all_heard place job pages old new past piece m t o s r (Whole h wants) = hears_all place job pages old new past piece m _ h t o s r (λ n f. f)
all_heard place job pages old new past piece m t o s r (Garbled was h runs g) =
    hears_all place job pages old was past piece m _ h t o s r
    (λ n f. (f, ends_so place old.target job pages (protocol_of was h.history_then) new n.client statuses.IoError whys.Malformed (runs_is was.outcome runs) (ap (λ (v : ClientState). v.outcome) g.ends) f.reads))
all_heard place job pages old new past piece m t o s r (OutOfMemoryBehind was h runs x) =
    hears_all place job pages old was past piece m _ h t o s r
    (λ n f. (f, ends_so place old.target job pages (protocol_of was h.history_then) new n.client statuses.NoMem whys.Memory (runs_is was.outcome runs) x.starved.outcome f.reads))
all_heard place job pages old new past piece m t o s r (OutOfMemoryAtOnce x) =
    ends_so place old.target job pages (protocol_of old past) new m statuses.NoMem whys.Memory (runs_is old.outcome o) x.starved.outcome r

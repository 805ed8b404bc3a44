-- What a client asks for once it has heard a reply, or the end of a frame, and what the model asks for then.
use Rattle.std.proofs.Common.{◌≡◌, ◌∙◌, ℕ, Option, Some, None, List, [], refl, sym, ap, subst, append-nil}
use Rattle.wire_format.specs.Writer.{append_text}
use Rattle.wire_writing.specs.RequestWriting.{write_request}
use Rattle.sane_fixed.specs.declared.device_info.DeviceInfo.{DeviceInfo}
use Rattle.frame_join.specs.FrameHistory.{JoinHistory}
use Rattle.wire_message.specs.declared.message.Reply.{Reply}
use Rattle.wire_message.specs.declared.message.Request.{Request}
use Rattle.client_replies.specs.declared.progress.JobTarget.{JobTarget}
use Rattle.client_replies.specs.declared.progress.Progress.{Progress}
use Rattle.client_replies.specs.declared.progress.Progress.TheVariants as stages
use Rattle.client_replies.specs.declared.progress.Notes.{Notes}
use Rattle.client_replies.specs.declared.progress.Next.{Next}
use Rattle.client_replies.specs.declared.progress.Next.TheVariants.{Wait, Finish, Stop}
use Rattle.client_replies.specs.Asking.{request_for, goodbye}
use Rattle.client_replies.specs.ReplyTurns.{Turn, turn}
use Rattle.client_replies.specs.ProtocolStates.{heard_at, ProtocolState, HistoryFits, protocol_after_turn, next_outcome, next_progress, next_notes}
use Rattle.net_client.specs.Sending.{requests_text, optional_request_text}
use Rattle.net_client.specs.ClientStates.{sends}
use Rattle.system_model.specs.Client as model
use Rattle.system_model.specs.ClientReplies.{hear_in}
use Rattle.page_picture.specs.Shows.{Frame}
use Rattle.scan_job.specs.declared.outcome.Outcome.TheVariants.{Running}
use Rattle.client_refines.specs.DecodedReplies.{DecodedReply, Before, Says, Demands, decoded_reply_at, IsShortAt}
use Rattle.client_refines.specs.ClientRefinement.{task_of, descs, WaitsAs, OutcomeRefines, ClientRefines}
use Rattle.client_refines.specs.RequestRefinement.{asks_of, AreRequests, request_list}
use Rattle.client_refines.specs.PieceRefinement.{SpellsSentAt}
use Rattle.client_refines.proofs.Sides.{Side, NextAs, onto}
use Rattle.client_refines.proofs.Heard.{HearsIn, side_of, exchange_hears}
use Rattle.client_refines.proofs.Asking.{asks_alike, goodbyes_alike}
use Rattle.client_refines.proofs.Apt.{AsksNow, AsksNothing, IsAsked, AskedAt, IsLater, reply_asked}
use Rattle.client_refines.specs.Replies.{client_refusing}

-- ---- the requests of a client as its job goes on so

abbrev pub requests_by : JobTarget → ℕ → Next → List Request
requests_by target word (Wait progress) = request_list (request_for target word progress)
requests_by target word (Finish devices) = goodbye target.task word
requests_by target word (Stop status why) = []

joined_none : (text : Option (List ℕ)) → append_text text (Some []) ≡ text
joined_none None = refl
joined_none (Some text) = ap (λ (l : List ℕ). Some l) (append-nil text)

pub one_text : (q : Option Request) → requests_text (request_list q) ≡ optional_request_text q
one_text None = refl
one_text (Some q) = joined_none (write_request.text q)

pub sends_text : (target : JobTarget) (word : ℕ) (next : Next) → requests_text (requests_by target word next) ≡ sends target word next
sends_text target word (Wait progress) = one_text (request_for target word progress)
sends_text target word (Finish devices) = refl
sends_text target word (Stop status why) = refl

-- ---- what the model asks for then

abbrev AreAsked : JobTarget → ℕ → model.AbstractJob → Next → model.ClientView → Type 0
AreAsked target word job next m = AreRequests target (requests_by target word next) (asks_of word m.known (model.requests_sent job.task m.stage))

waits_ask : (target : JobTarget) (job : model.AbstractJob) (progress : Progress) (notes : Notes) (past : JoinHistory) (m : model.ClientView) → AsksNow target progress notes → WaitsAs job progress notes past m → m.known ≡ descs notes.known
    → AreRequests target (request_list (request_for target notes.word progress)) (asks_of notes.word m.known (model.requests_sent (task_of target.task) m.stage))
waits_ask target job stages.Reopening notes past m a w k = absurd a
waits_ask target job stages.Turning notes past m a w k = absurd a
waits_ask target job progress notes past m a w k = (asks_alike target job progress notes past m w a k).requests

next_asks : (x : Side) (target : JobTarget) (next : Next) (notes : Notes) (m : model.ClientView) → x.job.task ≡ task_of target.task → IsAsked target next notes → NextAs x target.task next notes m → AreAsked target notes.word x.job next m
next_asks x target (Wait progress) notes m t a n =
    subst (λ (y : model.AbstractTask). AreRequests target (request_list (request_for target notes.word progress)) (asks_of notes.word m.known (model.requests_sent y m.stage))) (sym t) (waits_ask target x.job progress notes x.history m a n.1 n.0.descriptors)
next_asks x target (Finish devices) notes m t a n =
    subst (λ (s : model.JobStage). AreRequests target (goodbye target.task notes.word) (asks_of notes.word m.known (model.requests_sent x.job.task s))) (sym n.stage)
    (subst (λ (y : model.AbstractTask). AreRequests target (goodbye target.task notes.word) (asks_of notes.word m.known (model.abstract_goodbye y))) (sym t) (goodbyes_alike target notes.word m.known))
next_asks x target (Stop status why) notes m t a n = subst (λ (s : model.JobStage). AreRequests target [] (asks_of notes.word m.known (model.requests_sent x.job.task s))) (sym n) tt

-- ---- by the decoded reply of a reply

abbrev pub Saying : JobTarget → ℕ → model.AbstractJob → Next → model.ClientView → DecodedReply → Type 0
Saying target word job next m Before = requests_by target word next ≡ []
Saying target word job next m (Says answer) = AreAsked target word job next (hear_in m.stage job m answer)
Saying target word job next m Demands = AreAsked target word job next (client_refusing m)

says_nothing : (target : JobTarget) (word : ℕ) (next : Next) → AsksNothing next → requests_by target word next ≡ []
says_nothing target word (Wait stages.Reopening) a = refl
says_nothing target word (Wait progress) a = absurd a
says_nothing target word (Finish devices) a = absurd a
says_nothing target word (Stop status why) a = refl

saying : (x : Side) (target : JobTarget) (t : Turn) (m : model.ClientView) (decoded : DecodedReply) → x.job.task ≡ task_of target.task → AskedAt target decoded t.next t.notes → HearsIn x target.task t m m.stage decoded
    → Saying target t.notes.word x.job t.next m decoded
saying x target t m Before e a h = says_nothing target t.notes.word t.next a
saying x target t m (Says answer) e a h = next_asks x target t.next t.notes (hear_in m.stage x.job m answer) e a h.1
saying x target t m Demands e a h = next_asks x target t.next t.notes (client_refusing m) e a h.1

pub replies_said : (place : DeviceInfo → ℕ) (target : JobTarget) (job : model.AbstractJob) (pages : List (List Frame)) (protocol : ProtocolState) (m : model.ClientView) (r : Reply) → job.task ≡ task_of target.task → IsShortAt protocol.progress r
    → protocol.outcome ≡ Running → HistoryFits target.task Running protocol.progress protocol.history → ClientRefines place target job pages protocol m
    → Saying target (heard_at protocol.progress target protocol.notes protocol.history r).turn.notes.word job (heard_at protocol.progress target protocol.notes protocol.history r).turn.next m (decoded_reply_at place protocol.progress r)
replies_said place target job pages protocol m r t short o fits reads =
    saying (onto (side_of place job pages protocol) (heard_at protocol.progress target protocol.notes protocol.history r).history) target (heard_at protocol.progress target protocol.notes protocol.history r).turn m (decoded_reply_at place protocol.progress r) t
    (reply_asked place protocol.progress target protocol.notes protocol.history r) (exchange_hears place target job pages protocol m r t short o fits reads)

-- the device word stays as the reports leave
pub next_word : (notes : Notes) (next : Next) → (next_notes notes next).word ≡ notes.word
next_word notes (Wait progress) = refl
next_word notes (Finish devices) = refl
next_word notes (Stop status why) = refl

-- ---- by the end of a frame

settled_next : (x : Side) (target : JobTarget) (next : Next) (notes : Notes) (m : model.ClientView)
    → OutcomeRefines x.place target x.job x.pages (next_outcome target.task notes next) (next_progress next) (next_notes notes next) x.history m → NextAs x target.task next notes m
settled_next x target (Wait progress) notes m n = (n.0, n.1)
settled_next x target (Finish devices) notes m n = n
settled_next x target (Stop status why) notes m n = n

turning_spells : (target : JobTarget) (job : model.AbstractJob) (notes : Notes) (past : JoinHistory) (m : model.ClientView) (sent : List ℕ) → job.task ≡ task_of target.task → WaitsAs job stages.Turning notes past m → m.known ≡ descs notes.known
    → Some [] ≡ Some sent → SpellsSentAt target notes.word stages.Turning sent job m
turning_spells target job notes past m sent t w k e = (
  let s : [] ≡ sent = cc in sym s,
  ap (λ (y : model.AbstractTask). model.requests_sent y m.stage) t ∙ (asks_alike target job stages.Turning notes past m w tt k).requests.1,
)

wait_spells : (x : Side) (target : JobTarget) (progress : Progress) (notes : Notes) (m : model.ClientView) (sent : List ℕ) → x.job.task ≡ task_of target.task → IsLater target (Wait progress) notes → NextAs x target.task (Wait progress) notes m
    → sends target notes.word (Wait progress) ≡ Some sent → SpellsSentAt target notes.word progress sent x.job m
wait_spells x target stages.Reopening notes m sent t a n e = absurd a
wait_spells x target stages.Turning notes m sent t a n e = turning_spells target x.job notes x.history m sent t n.1 n.0.descriptors e
wait_spells x target progress notes m sent t a n e = record {
  requests = requests_by target notes.word (Wait progress);
  text = sends_text target notes.word (Wait progress) ∙ e;
  same = next_asks x target (Wait progress) notes m t a n;
}

next_spells : (x : Side) (target : JobTarget) (next : Next) (notes : Notes) (m : model.ClientView) (sent : List ℕ) → x.job.task ≡ task_of target.task → IsLater target next notes → NextAs x target.task next notes m
    → sends target notes.word next ≡ Some sent → SpellsSentAt target notes.word (next_progress next) sent x.job m
next_spells x target (Wait progress) notes m sent t a n e = wait_spells x target progress notes m sent t a n e
next_spells x target (Finish devices) notes m sent t a n e = record { requests = goodbye target.task notes.word; text = e; same = next_asks x target (Finish devices) notes m t tt n }
next_spells x target (Stop status why) notes m sent t a n e = record { requests = []; text = e; same = next_asks x target (Stop status why) notes m t tt n }

pub settled_spells : (x : Side) (target : JobTarget) (next : Next) (notes : Notes) (m : model.ClientView) (sent : List ℕ) → x.job.task ≡ task_of target.task → IsLater target next notes
    → ClientRefines x.place target x.job x.pages (protocol_after_turn target.task (turn notes next) x.history) m → sends target notes.word next ≡ Some sent → SpellsSentAt target notes.word (next_progress next) sent x.job m
settled_spells x target next notes m sent t a r e = next_spells x target next notes m sent t a (settled_next x target next notes m r.stands) e

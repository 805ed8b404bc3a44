-- What becomes of a session that is fed, from what was answered so far.
use Rattle.std.proofs.Common.{ℕ, List, [], ◌++◌, append_assoc, inl, inr, refl, ap, subst, ◌∙◌, sym}
use Rattle.std.proofs.lemmas.List.{append-nil}
use Rattle.md5_auth.specs.declared.users.Entry.{Entry}
use Rattle.wire_format.specs.Lawful.{SpellsFront}
use Rattle.wire_format.specs.Limit.{limited_format, NeedsMore, IsNoStart}
use Rattle.wire_message.specs.Message.{message_limit, request as request_format}
use Rattle.wire_message.specs.declared.message.Request.{Request}
use Rattle.wire_message.specs.declared.message.Reply.{Reply}
use Rattle.saned_requests.specs.declared.request_answer.RequestAnswer.{RequestAnswer}
use Rattle.saned_core.specs.declared.session_slot.Fed.TheVariants.{Standing, Over, Starved}
use Rattle.saned_requests.specs.RequestAnswers.{RequestContext, Answers, RequestOutOfMemory}
use Rattle.saned_core.specs.Feeding.{SaysAll}
use Rattle.saned_core.specs.Inside.{SaysAs, GoesSoFar, FeedsReplies}
use Rattle.saned_core.specs.Feeding.FeedEndsSession.{Garbled, Ended}
use Rattle.saned_core.proofs.Progress.{progress_none, progress_more}

pub begins : (users : List Entry) (d : RequestContext) (old piece before : List ℕ) → GoesSoFar (record { users = users; context = d; before = old; piece = piece }) before (record { context = d; rest = old ++ piece; text = before })
begins users d old piece before = record { text = []; after_is = sym (append-nil before); progress = progress_none users d old piece }

pub starves_at_once : (users : List Entry) (d : RequestContext) (old piece left before after : List ℕ) → FeedsReplies Starved (record { users = users; context = d; before = old; piece = piece }) before (record { context = d; rest = left; text = after })
starves_at_once users d old piece left before after = record { text = []; after_is = tt; feeds = record { rest = old ++ piece; mid = d; text = []; so_far = progress_none users d old piece; out_of_memory = inl refl } }

pub starves : (users : List Entry) (d mid : RequestContext) (old piece rest left before after : List ℕ) → GoesSoFar (record { users = users; context = d; before = old; piece = piece }) before (record { context = mid; rest = rest; text = after }) → FeedsReplies Starved (record { users = users; context = d; before = old; piece = piece }) before (record { context = mid; rest = left; text = after })
starves users d mid old piece rest left before after s = record { text = []; after_is = tt; feeds = record { rest = rest; mid = mid; text = s.text; so_far = s.progress; out_of_memory = inl refl } }

pub starves_in : (users : List Entry) (d mid new : RequestContext) (old piece rest left behind before after end : List ℕ) (q : Request) → GoesSoFar (record { users = users; context = d; before = old; piece = piece }) before (record { context = mid; rest = rest; text = after }) → SpellsFront (limited_format message_limit request_format) rest behind q → RequestOutOfMemory users mid q new → FeedsReplies Starved (record { users = users; context = d; before = old; piece = piece }) before (record { context = new; rest = left; text = end })
starves_in users d mid new old piece rest left behind before after end q s k f = record { text = []; after_is = tt; feeds = record { rest = rest; mid = mid; text = s.text; so_far = s.progress; out_of_memory = inr (record { left = behind; request = q; takes = k; out_of_memory = f }) } }

pub waits : (users : List Entry) (d mid : RequestContext) (old piece rest before after : List ℕ) → GoesSoFar (record { users = users; context = d; before = old; piece = piece }) before (record { context = mid; rest = rest; text = after }) → NeedsMore message_limit request_format rest → FeedsReplies Standing (record { users = users; context = d; before = old; piece = piece }) before (record { context = mid; rest = rest; text = after })
waits users d mid old piece rest before after s w = record { text = s.text; after_is = s.after_is; feeds = record { so_far = s.progress; wants = w } }

pub garbles : (users : List Entry) (d mid : RequestContext) (old piece rest left before after : List ℕ) → GoesSoFar (record { users = users; context = d; before = old; piece = piece }) before (record { context = mid; rest = rest; text = after }) → IsNoStart message_limit request_format rest → FeedsReplies Over (record { users = users; context = d; before = old; piece = piece }) before (record { context = mid; rest = left; text = after })
garbles users d mid old piece rest left before after s n = record {
  text = s.text;
  after_is = s.after_is;
  feeds = record { rest = rest; mid = mid; front = s.text; back = []; last = []; so_far = s.progress; closes = Garbled n refl refl; says = refl; text_is = sym (append-nil s.text) };
}

pub ends : (users : List Entry) (d mid new : RequestContext) (old piece rest left behind before after end : List ℕ) (q : Request) (said : RequestAnswer) → GoesSoFar (record { users = users; context = d; before = old; piece = piece }) before (record { context = mid; rest = rest; text = after }) → SpellsFront (limited_format message_limit request_format) rest behind q → Answers users mid q said new → SaysAs said after Over end → FeedsReplies Over (record { users = users; context = d; before = old; piece = piece }) before (record { context = new; rest = left; text = end })
ends users d mid new old piece rest left behind before after end q said s k a t = record {
  text = s.text ++ t.text;
  after_is = t.after_is ∙ ap (λ (x : List ℕ). x ++ t.text) s.after_is ∙ append_assoc before s.text t.text;
  feeds = record { rest = rest; mid = mid; front = s.text; back = t.text; last = t.told; so_far = s.progress; closes = Ended behind q said k a (t.ends refl); says = t.says; text_is = refl };
}

pub goes_on_so : (users : List Entry) (d mid new : RequestContext) (old piece rest left before after end : List ℕ) (q : Request) (said : RequestAnswer) → GoesSoFar (record { users = users; context = d; before = old; piece = piece }) before (record { context = mid; rest = rest; text = after }) → SpellsFront (limited_format message_limit request_format) rest left q → Answers users mid q said new → SaysAs said after Standing end → GoesSoFar (record { users = users; context = d; before = old; piece = piece }) before (record { context = new; rest = left; text = end })
goes_on_so users d mid new old piece rest left before after end q said s k a t = record {
  text = s.text ++ t.text;
  after_is = t.after_is ∙ ap (λ (x : List ℕ). x ++ t.text) s.after_is ∙ append_assoc before s.text t.text;
  progress = progress_more users d mid new old piece rest left s.text t.text q said s.progress k a (t.whole refl).0 (subst (λ (rs : List Reply). SaysAll rs t.text) (t.whole refl).1 t.says);
}

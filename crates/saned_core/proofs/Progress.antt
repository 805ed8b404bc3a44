-- Requests of a piece, answered one after another.
use Rattle.std.proofs.Common.{◌≡◌, ℕ, ◌+◌, ◌<◌, true, List, [], ◌∷◌, ◌++◌, map, length, append_assoc, append-nil, refl, ap, subst, ◌∙◌, sym, arith, length-append}
use Rattle.md5_auth.specs.declared.users.Entry.{Entry}
use Rattle.wire_format.specs.Lawful.{SpellsFront}
use Rattle.wire_format.specs.Limit.{limited_format}
use Rattle.wire_message.specs.Message.{message_limit, request as request_format}
use Rattle.wire_codec.specs.Decoders.{AreSpelled, IsSpelled, TakenMessage}
use Rattle.wire_codec.specs.Decoders.TakenMessage.{TakenRequest}
use Rattle.wire_message.specs.declared.message.Request.{Request}
use Rattle.wire_message.specs.declared.message.Reply.{Reply}
use Rattle.saned_requests.specs.declared.request_answer.RequestAnswer.{RequestAnswer}
use Rattle.saned_requests.specs.RequestAnswers.{RequestContext, Answers}
use Rattle.saned_core.specs.Feeding.{AnswersAll, SaysAll, AnsweredSoFar, session_goes_on, replies_to}

spelled-more : (ms : List TakenMessage) (text more : List ℕ) (m : TakenMessage) → AreSpelled ms text → IsSpelled more m → AreSpelled (ms ++ m ∷ []) (text ++ more)
spelled-more [] text more m a s = (more, [], ap (λ (x : List ℕ). x ++ more) a ∙ sym (append-nil more), s, refl)
spelled-more (n ∷ ms) text more m a s = (a.0, a.1 ++ more, ap (λ (x : List ℕ). x ++ more) a.2 ∙ append_assoc a.0 a.1 more, a.3, spelled-more ms a.1 more m a.4 s)

says-more : (front back : List Reply) (text more : List ℕ) → SaysAll front text → SaysAll back more → SaysAll (front ++ back) (text ++ more)
says-more [] back text more a b = subst (λ (x : List ℕ). SaysAll back (x ++ more)) (sym a) b
says-more (r ∷ front) back text more a b = (a.0, a.1 ++ more, ap (λ (x : List ℕ). x ++ more) a.2 ∙ append_assoc a.0 a.1 more, a.3, says-more front back a.1 more a.4 b)

answers-more : (users : List Entry) (qs : List Request) (q : Request) (d mid new : RequestContext) (told : List Reply) (said : RequestAnswer) → AnswersAll users d qs told mid → Answers users mid q said new → session_goes_on said ≡ true → AnswersAll users d (qs ++ q ∷ []) (told ++ replies_to said) new
answers-more users [] q d mid new told said a b g =
    (said, new, [], subst (λ (x : RequestContext). Answers users x q said new) a.1 b, g, (refl, refl), ap (λ (x : List Reply). x ++ replies_to said) a.0 ∙ sym (append-nil (replies_to said)))
answers-more users (p ∷ qs) q d mid new told said a b g =
    (a.0, a.1, a.2 ++ replies_to said, a.3, a.4, answers-more users qs q a.1 mid new a.2 said a.5 b g, ap (λ (x : List Reply). x ++ replies_to said) a.6 ∙ append_assoc (replies_to a.0) a.2 (replies_to said))

map-more : (qs : List Request) (q : Request) → map (λ x. TakenRequest x) (qs ++ q ∷ []) ≡ map (λ x. TakenRequest x) qs ++ TakenRequest q ∷ []
map-more [] q = refl
map-more (p ∷ qs) q = ap (λ (x : List TakenMessage). TakenRequest p ∷ x) (map-more qs q)

-- before the first request
pub progress_none : (users : List Entry) (d : RequestContext) (old piece : List ℕ) → AnsweredSoFar (record { users = users; context = d; before = old; piece = piece }) (record { context = d; rest = old ++ piece; text = [] })
progress_none users d old piece = record { requests = []; told = []; reads = record { text = []; whole = refl; spelled = refl }; answers = (refl, refl); says = refl }

-- one request more
pub progress_more : (users : List Entry) (d mid new : RequestContext) (old piece rest left text more : List ℕ) (q : Request) (said : RequestAnswer)
    → AnsweredSoFar (record { users = users; context = d; before = old; piece = piece }) (record { context = mid; rest = rest; text = text }) → SpellsFront (limited_format message_limit request_format) rest left q → Answers users mid q said new → session_goes_on said ≡ true → SaysAll (replies_to said) more
    → AnsweredSoFar (record { users = users; context = d; before = old; piece = piece }) (record { context = new; rest = left; text = text ++ more })
progress_more users d mid new old piece rest left text more q said p t a g s = record {
  requests = p.requests ++ q ∷ [];
  told = p.told ++ replies_to said;
  reads = record {
    text = p.reads.text ++ t.text;
    whole = p.reads.whole ∙ ap (λ (x : List ℕ). p.reads.text ++ x) t.whole ∙ sym (append_assoc p.reads.text t.text left);
    spelled = subst (λ (ms : List TakenMessage). AreSpelled ms (p.reads.text ++ t.text)) (sym (map-more p.requests q)) (spelled-more (map (λ x. TakenRequest x) p.requests) p.reads.text t.text (TakenRequest q) p.reads.spelled t.spelled);
  };
  answers = answers-more users p.requests q d mid new p.told said p.answers a g;
  says = says-more p.told (replies_to said) text more p.says s;
}

-- ---- a request uses bytes

-- what is taken as a request has bytes, so less is left
pub takes_less : (rest left : List ℕ) (q : Request) → SpellsFront (limited_format message_limit request_format) rest left q → length left < length rest
unfolding limited_format request_format
takes_less rest left q t =
    let p = t.spelled.1 in
    let four : length p.front ≡ 4 = ap length p.in_front.text_is in
    let whole : length rest ≡ length t.text + length left = ap length t.whole ∙ length-append t.text left in
    let text : length t.text ≡ length p.front + length p.back = ap length p.whole ∙ length-append p.front p.back in
    omega arith

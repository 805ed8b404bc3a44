-- Requests that are sent one behind the other.
use Rattle.std.proofs.Common.{◌≡◌, ◌∙◌, ℕ, List, [], ◌∷◌, ◌++◌, Option, Some, None, refl, sym, ap, subst, append_assoc}
use Rattle.wire_format.specs.Writer.{append_text}
use Rattle.wire_message.specs.declared.message.Request.{Request}
use Rattle.wire_writing.specs.RequestWriting.{write_request}
use Rattle.net_client.specs.Sending.{requests_text}
use Rattle.option_desc.specs.declared.descriptor.Descriptor.{Descriptor}
use Rattle.client_replies.specs.declared.progress.JobTarget.{JobTarget}
use Rattle.system_model.specs.AbstractMessages as words
use Rattle.client_refines.specs.RequestRefinement.{AreRequests, ExpectedRequest, asks_of}
use Rattle.client_refines.specs.PieceRefinement.{SpellsSent}

joined_behind : (a b c : Option (List ℕ)) → append_text (append_text a b) c ≡ append_text a (append_text b c)
joined_behind None b c = refl
joined_behind (Some a) None c = refl
joined_behind (Some a) (Some b) None = refl
joined_behind (Some a) (Some b) (Some c) = ap (λ (x : List ℕ). Some x) (append_assoc a b c)

joined_first : (a : Option (List ℕ)) → append_text (Some []) a ≡ a
joined_first None = refl
joined_first (Some a) = refl

texts_behind : (qs rs : List Request) → requests_text (qs ++ rs) ≡ append_text (requests_text qs) (requests_text rs)
texts_behind [] rs = sym (joined_first (requests_text rs))
texts_behind (q ∷ qs) rs = ap (append_text (write_request.text q)) (texts_behind qs rs) ∙ sym (joined_behind (write_request.text q) (requests_text qs) (requests_text rs))

asks_behind : (word : ℕ) (known : List Descriptor) (a b : List words.AbstractRequest) → asks_of word known (a ++ b) ≡ asks_of word known a ++ asks_of word known b
asks_behind word known [] b = refl
asks_behind word known (r ∷ a) b = ap (λ (x : List ExpectedRequest). record { request = r; word = word; known = known } ∷ x) (asks_behind word known a b)

are_behind : (target : JobTarget) (qs rs : List Request) (a b : List ExpectedRequest) → AreRequests target qs a → AreRequests target rs b → AreRequests target (qs ++ rs) (a ++ b)
are_behind target [] rs [] b x y = y
are_behind target [] rs (c ∷ a) b x y = absurd x
are_behind target (q ∷ qs) rs [] b x y = absurd x
are_behind target (q ∷ qs) rs (c ∷ a) b x y = (x.0, are_behind target qs rs a b x.1 y)

pub spell_behind : (target : JobTarget) (word : ℕ) (known : List Descriptor) (front back : List ℕ) (a b : List words.AbstractRequest) → SpellsSent target front (asks_of word known a) → SpellsSent target back (asks_of word known b) → SpellsSent target (front ++ back) (asks_of word known (a ++ b))
spell_behind target word known front back a b x y =
    subst (λ (asks : List ExpectedRequest). SpellsSent target (front ++ back) asks) (sym (asks_behind word known a b)) (record {
      requests = x.requests ++ y.requests;
      text = texts_behind x.requests y.requests ∙ (ap (λ (t : Option (List ℕ)). append_text t (requests_text y.requests)) x.text ∙ ap (append_text (Some front)) y.text);
      same = are_behind target x.requests y.requests (asks_of word known a) (asks_of word known b) x.same y.same;
    })

-- A piece that is the bytes of one request is read as that; and four bytes are at most one.
use Rattle.std.specs.Prelude.{map}
use Rattle.std.proofs.Common.{◌≡◌, ◌∙◌, ℕ, ◌+◌, ◌≤◌, List, [], ◌∷◌, ◌++◌, Option, Some, refl, sym, ap, subst, length, append-nil, length-append, arith}
use Rattle.wire_format.specs.Limit.{NeedsMore}
use Rattle.wire_format.specs.Writer.{append_text}
use Rattle.wire_message.specs.Message.{message_limit, request}
use Rattle.wire_message.specs.declared.message.Request.{Request}
use Rattle.wire_writing.specs.RequestWriting.{write_request}
use Rattle.wire_codec.specs.Decoders.{AreSpelled}
use Rattle.wire_codec.specs.Decoders.TakenMessage.{TakenRequest}
use Rattle.net_client.specs.Sending.{requests_text}
use Rattle.world_refines.proofs.requests.Cut.{cut_at, limited_is, same_take, sent}

-- ---- one request

all_text : (q : Request) (piece : List ℕ) → write_request.text q ≡ Some piece → requests_text (q ∷ []) ≡ Some (piece ++ [])
all_text q piece is = ap (λ (x : Option (List ℕ)). append_text x (Some [])) is

is_spelled : (q : Request) (piece : List ℕ) → write_request.text q ≡ Some piece → request.spells piece q
is_spelled q piece is =
    let s = sent q [] (piece ++ []) (all_text q piece is) in
    let none : [] ≡ s.back = (let both : Some [] ≡ Some s.back = s.others in cc) in
    let whole : piece ≡ s.front = sym (append-nil piece) ∙ (s.whole ∙ (ap (λ (x : List ℕ). s.front ++ x) (sym none) ∙ append-nil s.front)) in
    subst (λ (x : List ℕ). request.spells x q) (sym whole) s.spelled

-- nothing goes on behind it
no_more_wanted : (q : Request) (piece : List ℕ) → request.spells piece q → NeedsMore message_limit request piece → ⊥
no_more_wanted q piece s n =
    let same = same_take piece (piece ++ n.behind) n.behind [] q n.value s n.spelled (sym (append-nil (piece ++ n.behind))) in
    let none : length n.behind ≡ 0 = ap length same.1 in
    omega (arith, none, n.proper)

pub record IsOne (q : Request) (requests : List Request) (rest : List ℕ) : Type 0 where
  pub are : requests ≡ q ∷ []
  pub none : rest ≡ []

by_read : (q : Request) (requests later : List Request) (piece rest : List ℕ) → request.spells piece q → q ∷ [] ≡ requests ++ later → requests_text later ≡ Some rest → requests_text (q ∷ []) ≡ Some piece → NeedsMore message_limit request rest → IsOne q requests rest
by_read q [] later piece rest s are text all wants =
    let same : piece ≡ rest = (let both : Some piece ≡ Some rest = sym all ∙ (ap requests_text are ∙ text) in cc) in
    absurd (no_more_wanted q piece s (subst (NeedsMore message_limit request) (sym same) wants))
by_read q (p ∷ []) later piece rest s are text all wants =
    let first : q ≡ p = cc in
    let none : [] ≡ later = cc in
    let both : Some [] ≡ Some rest = ap requests_text none ∙ text in
    record { are = ap (λ (x : Request). x ∷ []) (sym first); none = (let is : [] ≡ rest = cc in sym is) }
by_read q (p ∷ r ∷ requests) later piece rest s are text all wants = absurd (let clash : [] ≡ r ∷ (requests ++ later) = (let both : q ∷ [] ≡ p ∷ r ∷ (requests ++ later) = are in cc) in cc)

pub one_whole : (q : Request) (piece text rest : List ℕ) (requests : List Request) → write_request.text q ≡ Some piece → piece ≡ text ++ rest → AreSpelled (map (λ q. TakenRequest q) requests) text → NeedsMore message_limit request rest → IsOne q requests rest
one_whole q piece text rest requests is whole spelled wants =
    let all = all_text q piece is ∙ ap (λ (x : List ℕ). Some x) (append-nil piece) in
    let c = cut_at (q ∷ []) requests piece text rest all spelled whole in
    by_read q requests c.later piece rest (is_spelled q piece is) c.are c.text all wants

-- ---- four bytes

-- no request has fewer
pub four_bytes : (text : List ℕ) (q : Request) → request.spells text q → 4 ≤ length text
unfolding request
four_bytes text q s =
    let four : length s.front ≡ 4 = ap length s.in_front.text_is in
    let whole : length text ≡ length s.front + length s.back = ap length s.whole ∙ length-append s.front s.back in
    omega (arith, four, whole)

-- two have more, and behind one nothing is left
pub data AtMostOne (requests : List Request) (rest : List ℕ) : Type 0 where
  NoRequest : requests ≡ [] → AtMostOne requests rest
  OneRequest : (q : Request) → requests ≡ q ∷ [] → rest ≡ [] → AtMostOne requests rest

no_bytes : (text : List ℕ) → length text ≡ 0 → text ≡ []
no_bytes [] e = refl
no_bytes (b ∷ text) e = absurd (omega (arith, e))

pub at_most_one : (piece text rest : List ℕ) (requests : List Request) → length piece ≡ 4 → piece ≡ text ++ rest → AreSpelled (map (λ q. TakenRequest q) requests) text → AtMostOne requests rest
at_most_one piece text rest [] four whole spelled = NoRequest refl
at_most_one piece text rest (q ∷ []) four whole spelled =
    let front : 4 ≤ length spelled.0 = four_bytes spelled.0 q (limited_is spelled.0 q spelled.3) in
    let long : length text ≡ length spelled.0 + length spelled.1 = ap length spelled.2 ∙ length-append spelled.0 spelled.1 in
    let all : length piece ≡ length text + length rest = ap length whole ∙ length-append text rest in
    OneRequest q refl (no_bytes rest (omega (arith, four, front, long, all)))
at_most_one piece text rest (q ∷ r ∷ requests) four whole spelled =
    let next = spelled.4 in
    let front : 4 ≤ length spelled.0 = four_bytes spelled.0 q (limited_is spelled.0 q spelled.3) in
    let more : 4 ≤ length next.0 = four_bytes next.0 r (limited_is next.0 r next.3) in
    let long : length text ≡ length spelled.0 + length spelled.1 = ap length spelled.2 ∙ length-append spelled.0 spelled.1 in
    let behind : length spelled.1 ≡ length next.0 + length next.1 = ap length next.2 ∙ length-append next.0 next.1 in
    let all : length piece ≡ length text + length rest = ap length whole ∙ length-append text rest in
    absurd (omega (arith, four, front, more, long, behind, all))

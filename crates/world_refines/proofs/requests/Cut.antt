-- Requests that are read of what was written: they are the first of those, and the rest spells the others.
use Rattle.std.proofs.Common.{◌≡◌, ◌≢◌, ◌⊎◌, inl, inr, ◌∙◌, ℕ, ◌+◌, ◌≤◌, ◌<◌, List, [], ◌∷◌, ◌++◌, Option, Some, None, refl, sym, ap, subst, map, length, append_assoc, append-nil, length-append, arith}
use Rattle.wire_format.specs.Lawful.{SpellsFront}
use Rattle.wire_format.specs.Limit.{IsNoStart, limited_format}
use Rattle.wire_format.specs.Writer.{append_text}
use Rattle.wire_format.proofs.Combining.{ok_rest, ok_value}
use Rattle.wire_message.specs.Message.{message_limit, request}
use Rattle.wire_message.specs.declared.message.Request.{Request}
use Rattle.wire_message.proofs.Messages.{request_laws}
use Rattle.wire_writing.specs.RequestWriting.{write_request}
use Rattle.wire_writing.proofs.Requests.{request-writes}
use Rattle.wire_codec.specs.Decoders.{AreSpelled}
use Rattle.wire_codec.specs.Decoders.TakenMessage.{TakenRequest}
use Rattle.option_desc.specs.declared.descriptor.Descriptor.{Descriptor}
use Rattle.net_client.specs.Sending.{requests_text}
use Rattle.client_replies.specs.declared.progress.JobTarget.{JobTarget}
use Rattle.system_model.specs.AbstractMessages as words
use Rattle.client_refines.specs.RequestRefinement.{AreRequests, asks_of}
use Rattle.world_refines.proofs.frames.RecordLaws.{same_body}
use Rattle.world_refines.proofs.requests.Within.{request_within}

-- ---- one request

-- what begins one text is one request
pub same_take : (a b x y : List ℕ) (q r : Request) → request.spells a q → request.spells b r → a ++ x ≡ b ++ y → (q ≡ r) × (x ≡ y)
same_take a b x y q r s t e =
    let reads = request_laws.reads in
    let same = sym (reads.complete a x q s) ∙ (ap request.read e ∙ reads.complete b y r t) in
    (ok_value q r x y same, ok_rest q r x y same)

-- no request has an empty text
pub some_text : (text : List ℕ) (q : Request) → request.spells text q → text ≢ []
unfolding request
some_text text q s e =
    let four : length s.front ≡ 4 = ap length s.in_front.text_is in
    let whole : length text ≡ length s.front + length s.back = ap length s.whole ∙ length-append s.front s.back in
    let none : length text ≡ 0 = ap length e in
    omega (arith, four, whole, none)

pub limited_is : (text : List ℕ) (q : Request) → (limited_format message_limit request).spells text q → request.spells text q
unfolding limited_format
limited_is text q s = s.1

pub is_limited : (text : List ℕ) (q : Request) → request.spells text q → (limited_format message_limit request).spells text q
unfolding limited_format
is_limited text q s = (request_within text q s, s)

-- ---- what is written

-- the first of them and the others
pub record Sent (q : Request) (qs : List Request) (all : List ℕ) : Type 0 where
  pub front : List ℕ
  pub back : List ℕ
  pub whole : all ≡ front ++ back
  written : write_request.text q ≡ Some front
  pub spelled : request.spells front q
  pub others : requests_text qs ≡ Some back

sent_by : (q : Request) (qs : List Request) (all : List ℕ) (a b : Option (List ℕ)) → write_request.text q ≡ a → requests_text qs ≡ b → append_text a b ≡ Some all → Sent q qs all
sent_by q qs all None b is_a is_b e = absurd (let clash : None ≡ Some all = e in cc)
sent_by q qs all (Some a) None is_a is_b e = absurd (let clash : None ≡ Some all = e in cc)
sent_by q qs all (Some a) (Some b) is_a is_b e =
    let is : a ++ b ≡ all = cc in
    record { front = a; back = b; whole = sym is; written = is_a; spelled = (request-writes q).spelled a is_a; others = is_b }

pub sent : (q : Request) (qs : List Request) (all : List ℕ) → requests_text (q ∷ qs) ≡ Some all → Sent q qs all
sent q qs all e = sent_by q qs all (write_request.text q) (requests_text qs) refl refl e

joined_so : (q : Request) (qs : List Request) (a b : List ℕ) → write_request.text q ≡ Some a → requests_text qs ≡ Some b → requests_text (q ∷ qs) ≡ Some (a ++ b)
joined_so q qs a b e f = ap (λ (x : Option (List ℕ)). append_text x (requests_text qs)) e ∙ ap (λ (x : Option (List ℕ)). append_text (Some a) x) f

-- ---- the first of them are read

same_front : (a b x y : List ℕ) → a ++ x ≡ b ++ y → x ≡ y → a ≡ b
same_front a b x y e same =
    let long : length a ≡ length b =
    let left = length-append a x in let right = length-append b y in let whole = ap length e in let back = ap length same in
    omega (arith, left, right, whole, back) in
    sym (same_body a x b y long e).0

pub record CutAt (written qs : List Request) (front left : List ℕ) : Type 0 where
  pub later : List Request
  pub are : written ≡ qs ++ later
  pub first : requests_text qs ≡ Some front
  pub text : requests_text later ≡ Some left

pub cut_at : (written qs : List Request) (all text left : List ℕ) → requests_text written ≡ Some all → AreSpelled (map (λ q. TakenRequest q) qs) text → all ≡ text ++ left → CutAt written qs text left
cut_at written [] all text left w s e = record { later = written; are = refl; first = ap (λ (x : List ℕ). Some x) (sym s); text = w ∙ ap (λ (x : List ℕ). Some x) (e ∙ ap (λ (x : List ℕ). x ++ left) s) }
cut_at [] (q ∷ qs) all text left w s e =
    let none : [] ≡ all = cc in
    let empty : s.0 ++ (s.1 ++ left) ≡ [] = sym (append_assoc s.0 s.1 left) ∙ (ap (λ (x : List ℕ). x ++ left) (sym s.2) ∙ (sym e ∙ sym none)) in
    absurd (some_text s.0 q (limited_is s.0 q s.3) (front_empty s.0 (s.1 ++ left) empty))
  where
    front_empty : (a b : List ℕ) → a ++ b ≡ [] → a ≡ []
    front_empty [] b e = refl
    front_empty (x ∷ a) b e = absurd (let clash : x ∷ (a ++ b) ≡ [] = e in cc)
cut_at (p ∷ written) (q ∷ qs) all text left w s e =
    let f = sent p written all w in
    let both : s.0 ++ (s.1 ++ left) ≡ f.front ++ f.back = sym (append_assoc s.0 s.1 left) ∙ (ap (λ (x : List ℕ). x ++ left) (sym s.2) ∙ (sym e ∙ f.whole)) in
    let one = same_take s.0 f.front (s.1 ++ left) f.back q p (limited_is s.0 q s.3) f.spelled both in
    let more = cut_at written qs f.back s.1 left f.others s.4 (sym one.1) in
    let front : s.0 ≡ f.front = same_front s.0 f.front (s.1 ++ left) f.back both one.1 in
    record {
      later = more.later;
      are = ap (λ (r : Request). r ∷ written) (sym one.0) ∙ ap (λ (rs : List Request). q ∷ rs) more.are;
      first = joined_so q qs s.0 s.1 (ap write_request.text one.0 ∙ (f.written ∙ ap (λ (x : List ℕ). Some x) (sym front))) more.first ∙ ap (λ (x : List ℕ). Some x) (sym s.2);
      text = more.text;
    }

-- so is the next one
pub record TakenNext (written : List Request) (q : Request) (front behind : List ℕ) : Type 0 where
  pub later : List Request
  pub are : written ≡ q ∷ later
  pub first : requests_text (q ∷ []) ≡ Some front
  pub text : requests_text later ≡ Some behind

pub taken_next : (written : List Request) (rest left behind : List ℕ) (q : Request) → requests_text written ≡ Some (rest ++ behind) → (t : SpellsFront (limited_format message_limit request) rest left q) → TakenNext written q t.text (left ++ behind)
taken_next written rest left behind q w t =
    let c = cut_at written (q ∷ []) (rest ++ behind) t.text (left ++ behind) w (t.text, [], sym (append-nil t.text), t.spelled, refl) (ap (λ (x : List ℕ). x ++ behind) t.whole ∙ append_assoc t.text left behind) in
    record { later = c.later; are = c.are; first = c.first; text = c.text }

-- ---- what is left begins a request

either : (a b c d : List ℕ) → a ++ b ≡ c ++ d → ((x : List ℕ) × (c ≡ a ++ x)) ⊎ ((y : List ℕ) × (a ≡ c ++ y))
either [] b c d e = inl (c, refl)
either (x ∷ a) b [] d e = inr (x ∷ a, refl)
either (x ∷ a) b (y ∷ c) d e =
    let head : x ≡ y = cc in
    let tail : a ++ b ≡ c ++ d = cc in
    by_tail x y a c head (either a b c d tail)
  where
    by_tail : (x y : ℕ) (a c : List ℕ) → x ≡ y → ((z : List ℕ) × (c ≡ a ++ z)) ⊎ ((z : List ℕ) × (a ≡ c ++ z)) → ((z : List ℕ) × (y ∷ c ≡ (x ∷ a) ++ z)) ⊎ ((z : List ℕ) × (x ∷ a ≡ (y ∷ c) ++ z))
    by_tail x y a c head (inl t) = inl (t.0, ap (λ (k : ℕ). k ∷ c) (sym head) ∙ ap (λ (l : List ℕ). x ∷ l) t.1)
    by_tail x y a c head (inr t) = inr (t.0, ap (λ (k : ℕ). k ∷ a) head ∙ ap (λ (l : List ℕ). y ∷ l) t.1)

begins_none : (rest : List ℕ) → IsNoStart message_limit request rest → rest ≡ [] → ⊥
begins_none rest nay e = by_end nay.1
  where
    by_end : (message_limit < length rest) ⊎ ((behind : List ℕ) (a : Request) → request.spells (rest ++ behind) a → ⊥) → ⊥
    by_end (inl long) = let none : length rest ≡ 0 = ap length e in omega (arith, long, none)
    by_end (inr none) =
        let b = request_laws.some in
        none b.behind b.value (subst (λ (x : List ℕ). request.spells (x ++ b.behind) b.value) (sym e) b.spelled)

-- it is in front of one that was written, or that is in front of it
by_front : (rest front : List ℕ) (p : Request) → IsNoStart message_limit request rest → request.spells front p → ((x : List ℕ) × (front ≡ rest ++ x)) ⊎ ((y : List ℕ) × (rest ≡ front ++ y)) → ⊥
by_front rest front p nay s (inr t) = nay.0 front t.0 p t.1 (is_limited front p s)
by_front rest front p nay s (inl t) = by_end nay.1
  where
    by_end : (message_limit < length rest) ⊎ ((behind : List ℕ) (a : Request) → request.spells (rest ++ behind) a → ⊥) → ⊥
    by_end (inl long) =
        let short : length front ≤ message_limit = request_within front p s in
        let more : length front ≡ length rest + length t.0 = ap length t.1 ∙ length-append rest t.0 in
        omega (arith, long, short, more)
    by_end (inr none) = none t.0 p (subst (λ (x : List ℕ). request.spells x p) t.1 s)

-- so it is not spoiled
pub not_garbled : (written : List Request) (rest left : List ℕ) → requests_text written ≡ Some (rest ++ left) → IsNoStart message_limit request rest → ⊥
not_garbled [] [] left w nay = begins_none [] nay refl
not_garbled [] (x ∷ rest) left w nay = absurd (cc)
not_garbled (p ∷ written) rest left w nay =
    let f = sent p written (rest ++ left) w in
    by_front rest f.front p nay f.spelled (either rest left f.front f.back f.whole)

-- ---- by the model

-- what is asked for by the first of them, and by the others
pub record AskedFirst (target : JobTarget) (word : ℕ) (known : List Descriptor) (qs later : List Request) (asked : List words.AbstractRequest) : Type 0 where
  pub first : List words.AbstractRequest
  pub others : List words.AbstractRequest
  pub are : asked ≡ first ++ others
  pub of_first : AreRequests target qs (asks_of word known first)
  pub of_others : AreRequests target later (asks_of word known others)

pub asked_first : (target : JobTarget) (word : ℕ) (known : List Descriptor) (qs later : List Request) (asked : List words.AbstractRequest) → AreRequests target (qs ++ later) (asks_of word known asked) → AskedFirst target word known qs later asked
asked_first target word known [] later asked a = record { first = []; others = asked; are = refl; of_first = tt; of_others = a }
asked_first target word known (q ∷ qs) later [] a = absurd a
asked_first target word known (q ∷ qs) later (r ∷ asked) a =
    let more = asked_first target word known qs later asked a.1 in
    record { first = r ∷ more.first; others = more.others; are = ap (λ (x : List words.AbstractRequest). r ∷ x) more.are; of_first = (a.0, more.of_first); of_others = more.of_others }

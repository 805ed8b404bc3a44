-- What OPEN takes, by the free word and by what the table answers.
use Rattle.std.proofs.Common.{◌≡◌, ◌⊎◌, ◌↔◌, ℕ, ◌<◌, List, [], ◌∷◌, ◌++◌, drop, length, Bool, true, false, Option, Some, None, Result, Ok, Err, refl, ap, subst, ◌∙◌, sym, inl, inr, get_or, position, not, option_map, is_some, zero, suc, arith}
use Rattle.std.specs.List.{prefix_len}
use Rattle.std.specs.Prelude.{Contains, IsTrue, OnErr}
use Rattle.std.proofs.lemmas.List.Elements.{Contains-append_right}
use Rattle.std.proofs.lemmas.List.{length-map}
use Rattle.std.proofs.lemmas.List.Quantifiers.{position-Some}
use Rattle.sane_fixed.specs.declared.status.Status.{Status}
use Rattle.sane_fixed.specs.declared.status.Status.TheVariants as statuses
use Rattle.md5_auth.specs.declared.users.Entry.{Entry}
use Rattle.rand_chacha.specs.ChaCha.{ChaCha}
use Rattle.md5_auth.specs.Allowed.{NamesBackend, SentAllows}
use Rattle.device_api.specs.State.{DeviceState}
use Rattle.dispatch.specs.Backend.{IsBackendOf}
use Rattle.dispatch.specs.declared.table.place.Lease.{Lease}
use Rattle.dispatch.specs.Table.{Table, seen_lease, take_answer, after_take, after_take_answer, find_name}
use Rattle.wire_message.specs.declared.message.Reply.{Reply}
use Rattle.wire_message.specs.declared.message.Reply.TheVariants as replies
use Rattle.saned_requests.specs.declared.request_answer.RequestAnswer.{RequestAnswer}
use Rattle.saned_requests.specs.declared.request_answer.RequestAnswer.TheVariants.{One, Two}
use Rattle.saned_requests.specs.declared.session.AwaitedAuthorization.{AwaitedAuthorization}
use Rattle.saned_requests.specs.Holding.{seen_held, held_by, on_word, is_free, free_word}
use Rattle.saned_requests.specs.RequestAnswers.{RequestContext, Yields, refusal, reply_of_take, take_into, take_device, OpensDevice, OpensNow, AsksAuthorization, Challenges, Draws, resource_of, MayOpen, Authorizes, without_awaited}

-- ---- the least free word

free-seen : {D S : Type 0} (f : D → S) (h : Option (Lease D)) → is_free (option_map (seen_lease f) h) ≡ is_free h
free-seen f None = refl
free-seen f (Some lease) = refl

free_len-seen : {D S : Type 0} (f : D → S) (held : List (Option (Lease D))) → prefix_len (λ h. not (is_free h)) (seen_held f held) ≡ prefix_len (λ h. not (is_free h)) held
free_len-seen f [] = refl
free_len-seen f (h ∷ held) = rw (free-seen f h, free_len-seen f held)

pub free_word-seen : {D S : Type 0} (f : D → S) (held : List (Option (Lease D))) → free_word (seen_held f held) ≡ position is_free held
free_word-seen f held = rw (free_len-seen f held, length-map held (option_map (seen_lease f))) refl

none-free : {D S : Type 0} (f : D → S) (h : Option (Lease D)) → is_free h ≡ true → option_map (seen_lease f) h ≡ None
none-free f None e = refl
none-free f (Some lease) e = absurd (cc)

free-held : {D S : Type 0} (f : D → S) (held : List (Option (Lease D))) (word : ℕ) → word < length held → is_free (get_or held word None) ≡ true → held_by (seen_held f held) word ≡ None
unfolding held_by
free-held f [] word n e = absurd (omega arith)
free-held f (h ∷ held) zero n e = none-free f h e
free-held f (h ∷ held) (suc word) n e = free-held f held word (omega arith) e

pub free_word-within : {D : Type 0} (held : List (Option (Lease D))) (word : ℕ) → position is_free held ≡ Some word → word < length held
free_word-within held word e = (position-Some is_free held word None e).0

pub free_word-free : {D S : Type 0} (f : D → S) (held : List (Option (Lease D))) (word : ℕ) → position is_free held ≡ Some word → held_by (seen_held f held) word ≡ None
free_word-free f held word e = let p = position-Some is_free held word None e in free-held f held word p.0 p.1

-- ---- a take

pub takes_no_word : (d : RequestContext) (name : List ℕ) (reply : Reply) → free_word d.session.held ≡ None → reply ≡ refusal statuses.Unsupported → Yields (take_device d name) reply d
takes_no_word d name reply e r = (r ∙ sym (ap (λ (o : Option ℕ). (take_into d name o).0) e), sym (ap (λ (o : Option ℕ). (take_into d name o).1) e))

yields_took : (d : RequestContext) (name : List ℕ) (word : ℕ) (answer : Result (Lease DeviceState) Status) (reply : Reply) (new : RequestContext) → free_word d.session.held ≡ Some word → answer ≡ take_answer d.registry name → Yields (reply_of_take d word answer) reply new → Yields (take_device d name) reply new
yields_took d name word answer reply new e a y =
    let same : take_device d name ≡ reply_of_take d word answer = ap (take_into d name) e ∙ ap (reply_of_take d word) (sym a) in
    (y.0 ∙ sym (ap (λ (x : Reply × RequestContext). x.0) same), y.1 ∙ sym (ap (λ (x : Reply × RequestContext). x.1) same))

pub takes_refused : (d : RequestContext) (name : List ℕ) (word : ℕ) (status : Status) (registry : Table) (reply : Reply) → free_word d.session.held ≡ Some word → Err status ≡ take_answer d.registry name → registry ≡ after_take d.registry name → reply ≡ refusal status
    → Yields (take_device d name) reply (record d { registry = registry })
unfolding after_take
takes_refused d name word status registry reply e a t r =
    let same : registry ≡ d.registry = t ∙ ap (after_take_answer d.registry) (sym a) in
    yields_took d name word (Err status) reply (record d { registry = registry }) e a (r, ap (λ (x : Table). record d { registry = x }) same)

pub takes : (d : RequestContext) (name : List ℕ) (word : ℕ) (lease : Lease DeviceState) (held : List (Option (Lease DeviceState))) (registry : Table) (reply : Reply) → free_word d.session.held ≡ Some word → Ok lease ≡ take_answer d.registry name
    → held ≡ on_word (λ _. Some lease) d.session.held word → registry ≡ after_take d.registry name → reply ≡ replies.Open statuses.Good word []
    → Yields (take_device d name) reply (record d { session = record d.session { held = held }; registry = registry })
unfolding after_take
takes d name word lease held registry reply e a h t r =
    let same : registry ≡ after_take_answer d.registry (Ok lease) = t ∙ ap (after_take_answer d.registry) (sym a) in
    let make : List (Option (Lease DeviceState)) → Table → RequestContext = λ x y. record d { session = record d.session { held = x }; registry = y } in
    yields_took d name word (Ok lease) reply (make held registry) e a (r, ap (λ x. make x registry) h ∙ ap (make (on_word (λ _. Some lease) d.session.held word)) same)

-- ---- OPEN

some_place : (o : Option ℕ) → is_some o ≡ true → (k : ℕ) × (o ≡ Some k)
some_place None e = absurd (cc)
some_place (Some k) e = (k, refl)

no_place : (o : Option ℕ) → is_some o ≡ false → o ≡ None
no_place None e = refl
no_place (Some k) e = absurd (cc)

-- some word is free
pub has_word : (o : Option ℕ) (b : Bool) → is_some o ≡ not b → b ≡ false → is_some o ≡ true
has_word o b e f = e ∙ ap not f

pub opens_no_word : (users : List Entry) (d : RequestContext) (name : List ℕ) (said : RequestAnswer) (o : Option ℕ) (b : Bool) → o ≡ free_word d.session.held → is_some o ≡ not b → b ≡ true → said ≡ One (refusal statuses.Unsupported) → OpensDevice users d name said d
opens_no_word users d name said o b e n t s =
    let none : free_word d.session.held ≡ None = sym e ∙ no_place o (n ∙ ap not t) in
    rw none (s, refl)

pub opens_unknown : (users : List Entry) (d : RequestContext) (name : List ℕ) (said : RequestAnswer) → is_some (free_word d.session.held) ≡ true → is_some (find_name name d.registry) ≡ false → said ≡ One (refusal statuses.Inval) → OpensDevice users d name said d
opens_unknown users d name said w n s =
    let word = some_place (free_word d.session.held) w in
    rw (word.1, no_place (find_name name d.registry) n) (s, refl)

opens_known : (users : List Entry) (d : RequestContext) (name : List ℕ) (said : RequestAnswer) (new : RequestContext) → is_some (free_word d.session.held) ≡ true → is_some (find_name name d.registry) ≡ true → AsksAuthorization users d name said new ⊎ OpensNow users d name said new → OpensDevice users d name said new
opens_known users d name said new w n o =
    let word = some_place (free_word d.session.held) w in
    let place = some_place (find_name name d.registry) n in
    rw (word.1, place.1) o

pub opens_now : (users : List Entry) (d : RequestContext) (name backend : List ℕ) (reply : Reply) (new : RequestContext) (b : Bool) → is_some (free_word d.session.held) ≡ true → is_some (find_name name d.registry) ≡ true → IsBackendOf name backend → (IsTrue b ↔ NamesBackend users backend) → b ≡ false
    → Yields (take_device d name) reply new → OpensDevice users d name (One reply) new
opens_now users d name backend reply new b w n k i f y =
    opens_known users d name (One reply) new w n (inr (record {
      backend = backend;
      backend_is = k;
      unnamed = λ names. absurd (let t : b ≡ true = i.1 names in let z : true ≡ false = sym t ∙ f in cc);
      taken = (ap (λ (x : Reply). One x) y.0, y.1);
    }))

pub opens_asking : (users : List Entry) (d : RequestContext) (name backend challenge resource : List ℕ) (stream : ChaCha) (reply : Reply) (b : Bool) → is_some (free_word d.session.held) ≡ true → is_some (find_name name d.registry) ≡ true → IsBackendOf name backend → (IsTrue b ↔ NamesBackend users backend) → b ≡ true
    → Challenges d.stream challenge stream → resource ≡ resource_of backend challenge → reply ≡ replies.Open statuses.Good 0 resource
    → OpensDevice users d name (One reply) (record d { session = record d.session { awaited = Some (record { name = name; resource = resource }) }; stream = stream })
opens_asking users d name backend challenge resource stream reply b w n k i t c r y =
    let make : List ℕ → RequestContext = λ x. record d { session = record d.session { awaited = Some (record { name = name; resource = x }) }; stream = stream } in
    opens_known users d name (One reply) (make resource) w n (inl (record {
      backend = backend;
      challenge = challenge;
      stream = stream;
      backend_is = k;
      named = i.0 t;
      challenges = c;
      said_is = ap (λ (x : Reply). One x) (y ∙ ap (λ (x : List ℕ). replies.Open statuses.Good 0 x) r);
      new_is = ap make r;
    }))

pub drew : {A E : Type 0} (r : Result A E) (d : RequestContext) (challenge : List ℕ) (stream : ChaCha) → Challenges d.stream challenge stream → OnErr r (Draws d (record d { stream = stream }))
drew (Ok a) d challenge stream c = tt
drew (Err e) d challenge stream c = inr (challenge, stream, c, refl)

-- ---- the backend of a name

one_split : (b c i j : List ℕ) → b ++ 58 ∷ i ≡ c ++ 58 ∷ j → ¬ Contains b 58 → ¬ Contains c 58 → b ≡ c
one_split [] [] i j e m n = refl
one_split [] (y ∷ c) i j e m n = absurd (n (0, omega arith, sym (ap (λ (l : List ℕ). get_or l 0 58) e)))
one_split (x ∷ b) [] i j e m n = absurd (m (0, omega arith, ap (λ (l : List ℕ). get_or l 0 58) e))
one_split (x ∷ b) (y ∷ c) i j e m n =
    let head : x ≡ y = ap (λ (l : List ℕ). get_or l 0 58) e in
    let tail : b ≡ c = one_split b c i j (ap (λ (l : List ℕ). drop 1 l) e) (λ z. m (Contains-append_right (x ∷ []) b 58 z)) (λ z. n (Contains-append_right (y ∷ []) c 58 z)) in
    ap (λ (z : ℕ). z ∷ b) head ∙ ap (λ (l : List ℕ). y ∷ l) tail

has_colon : (b i : List ℕ) → Contains (b ++ 58 ∷ i) 58
has_colon b i = Contains-append_right b (58 ∷ i) 58 (0, omega arith, refl)

one_backend : (name b c : List ℕ) → IsBackendOf name b → IsBackendOf name c → b ≡ c
one_backend name b c (inl s) (inl t) = one_split b c s.0 t.0 (sym s.1.bytes_are ∙ t.1.bytes_are) s.1.first t.1.first
one_backend name b c (inl s) (inr t) = absurd (t.0 (subst (λ (l : List ℕ). Contains l 58) (sym s.1.bytes_are) (has_colon b s.0)))
one_backend name b c (inr s) (inl t) = absurd (s.0 (subst (λ (l : List ℕ). Contains l 58) (sym t.1.bytes_are) (has_colon c t.0)))
one_backend name b c (inr s) (inr t) = s.1 ∙ sym t.1

-- ---- AUTHORIZE

pub may_open_is : (users : List Entry) (awaited : AwaitedAuthorization) (resource user password backend : List ℕ) (b : Bool) → resource ≡ awaited.resource → IsBackendOf awaited.name backend → (IsTrue b ↔ SentAllows users user backend resource password) → IsTrue b ↔ MayOpen users awaited resource user password
may_open_is users awaited resource user password backend b e k i = (
  λ t. (e, (backend, k, i.0 t)),
  λ m. i.1 (subst (λ (x : List ℕ). SentAllows users user x resource password) (one_backend awaited.name m.1.0 backend m.1.1 k) m.1.2),
)

pub authorizes_yes : (users : List Entry) (d : RequestContext) (awaited : AwaitedAuthorization) (resource user password : List ℕ) (b : Bool) (reply : Reply) (new : RequestContext) → (IsTrue b ↔ MayOpen users awaited resource user password) → b ≡ true → d.session.awaited ≡ None
    → Yields (take_device d awaited.name) reply new → Authorizes users d awaited resource user password (Two replies.Authorize reply) new
authorizes_yes users d awaited resource user password b reply new i t a y =
    let same : d ≡ without_awaited d = ap (λ (x : Option AwaitedAuthorization). record d { session = record d.session { awaited = x } }) a in
    record {
      allowed = true;
      yes_where = λ _. i.0 t;
      no_where = λ e. absurd (cc);
      gives = (ap (λ (x : Reply). Two replies.Authorize x) (y.0 ∙ ap (λ (x : RequestContext). (take_device x awaited.name).0) same), y.1 ∙ ap (λ (x : RequestContext). (take_device x awaited.name).1) same);
    }

pub authorizes_no : (users : List Entry) (d : RequestContext) (awaited : AwaitedAuthorization) (resource user password : List ℕ) (b : Bool) (reply : Reply) → (IsTrue b ↔ MayOpen users awaited resource user password) → b ≡ false → d.session.awaited ≡ None
    → reply ≡ refusal statuses.AccessDenied → Authorizes users d awaited resource user password (Two replies.Authorize reply) d
authorizes_no users d awaited resource user password b reply i f a r =
    let same : d ≡ without_awaited d = ap (λ (x : Option AwaitedAuthorization). record d { session = record d.session { awaited = x } }) a in
    record {
      allowed = false;
      yes_where = λ e. absurd (cc);
      no_where = λ _ m. let t : b ≡ true = i.1 m in absurd (let z : true ≡ false = sym t ∙ f in cc);
      gives = (ap (λ (x : Reply). Two replies.Authorize x) r, same);
    }

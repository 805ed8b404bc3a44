-- Who may open a device: by the daemon's users, and by the model of a job.
use Rattle.std.specs.Prelude.{Contains, ◌==◌, ◌&&◌, if◌then◌else◌}
use Rattle.std.proofs.Common.{◌≡◌, ◌≢◌, ◌⊎◌, inl, inr, ◌∙◌, ℕ, zero, suc, ◌<◌, List, [], ◌∷◌, ◌++◌, Option, Some, None, option_map, Bool, true, false, cond, eqb, eqb-true, refl, sym, ap, subst, length, slice_index_or, arith}
use Rattle.std.proofs.lemmas.Bool.{eqb-false}
use Rattle.std.proofs.lemmas.List.Folds.{Any-from_list_any, list_any-from_Any}
use Rattle.md5.specs.Md5.{md5}
use Rattle.md5_auth.specs.declared.users.Entry.{Entry}
use Rattle.md5_auth.specs.Allowed.{HasDigest, IsAnswer, LineAllows, SentAllows, answer_text}
use Rattle.md5_auth.specs.ChallengeReading.{answer_of, challenge_of}
use Rattle.md5_auth.proofs.AllowedLemmas.{line_from_sent, sent_from_line}
use Rattle.md5_auth.proofs.MarkLemmas.{challenge_of-is, is_challenge_found}
use Rattle.dispatch.specs.Backend.{IsBackendOf}
use Rattle.saned_requests.specs.declared.session.AwaitedAuthorization.{AwaitedAuthorization}
use Rattle.saned_requests.specs.RequestAnswers.{MayOpen}
use Rattle.system_model.specs.AbstractMessages.{same_text}
use Rattle.daemon_refines.specs.WholeSessions.{IsGuarded, IsJudged}
use Rattle.daemon_refines.proofs.Backends.{one_backend}
use Rattle.daemon_refines.proofs.Moved.{own, unsome}
use Rattle.world_refines.specs.GhostStates.{backend_of, is_allowed, is_allowed_for, is_guarded}

-- ---- texts

pub same_self : (text : List ℕ) → same_text text text ≡ true
same_self [] = refl
same_self (x ∷ text) = ap (λ (b : Bool). cond b (same_text text text) false) (own x) ∙ same_self text

same_head : (x y : ℕ) (xs ys : List ℕ) (b : Bool) → eqb x y ≡ b → cond b (same_text xs ys) false ≡ true → (same_text xs ys ≡ true → xs ≡ ys) → x ∷ xs ≡ y ∷ ys
same_head x y xs ys true e h more = ap (λ (n : ℕ). n ∷ xs) (eqb-true x y e) ∙ ap (λ (t : List ℕ). y ∷ t) (more h)
same_head x y xs ys false e h more = absurd (let clash : false ≡ true = h in cc)

pub same_is : (a b : List ℕ) → same_text a b ≡ true → a ≡ b
same_is [] [] e = refl
same_is [] (y ∷ ys) e = absurd (let clash : false ≡ true = e in cc)
same_is (x ∷ xs) [] e = absurd (let clash : false ≡ true = e in cc)
same_is (x ∷ xs) (y ∷ ys) e = same_head x y xs ys (eqb x y) refl e (λ h. same_is xs ys h)

pub same_of : (a b : List ℕ) → a ≡ b → same_text a b ≡ true
same_of a b e = ap (same_text a) (sym e) ∙ same_self a

pub both_parts : (a b : Bool) → (a && b) ≡ true → (a ≡ true) × (b ≡ true)
both_parts true b e = (refl, e)
both_parts false b e = absurd (let clash : false ≡ true = e in cc)

pub both_true : (a b : Bool) → a ≡ true → b ≡ true → (a && b) ≡ true
both_true a b e f = ap (λ (x : Bool). x && b) e ∙ f

-- ---- the backend of a name

none_at : (c : ℕ) (xs : List ℕ) (k : ℕ) → c ≢ 58 → (Contains xs 58 → ⊥) → k < length (c ∷ xs) → slice_index_or (c ∷ xs) k 58 ≡ 58 → ⊥
none_at c xs zero n none low e = n e
none_at c xs (suc k) n none low e = none (k, omega (arith, low), e)

none_in : (c : ℕ) (xs : List ℕ) → c ≢ 58 → (Contains xs 58 → ⊥) → Contains (c ∷ xs) 58 → ⊥
none_in c xs n none h = none_at c xs h.0 n none h.1 h.2

no_byte : Contains {X = ℕ} [] 58 → ⊥
no_byte h = let low : h.0 < 0 = h.1 in omega (arith, low)

colon_by : (c : ℕ) (name : List ℕ) (b : Bool) → (c == 58) ≡ b → IsBackendOf name (backend_of name) → IsBackendOf (c ∷ name) (if b then [] else c ∷ backend_of name)
colon_by c name true e h = inl (name, record { bytes_are = ap (λ (x : ℕ). x ∷ name) (eqb-true c 58 e); first = no_byte })
colon_by c name false e (inl s) = inl (s.0, record { bytes_are = ap (λ (x : List ℕ). c ∷ x) s.1.bytes_are; first = none_in c (backend_of name) (eqb-false c 58 e) s.1.first })
colon_by c name false e (inr s) = inr (none_in c name (eqb-false c 58 e) s.0, ap (λ (x : List ℕ). c ∷ x) s.1)

pub is_backend : (name : List ℕ) → IsBackendOf name (backend_of name)
is_backend [] = inr (no_byte, refl)
is_backend (c ∷ name) = colon_by c name (c == 58) refl (is_backend name)

-- ---- whether users name it

guarded_by : (users : List Entry) (name : List ℕ) (b : Bool) → is_guarded users (backend_of name) ≡ b → IsGuarded users name b
guarded_by users name true e =
    λ backend is.
    let some = Any-from_list_any (λ (entry : Entry). same_text entry.backend (backend_of name)) users e in
    let backend_is : backend_of name ≡ backend = one_backend name (backend_of name) backend (is_backend name) is in
    (some.0, some.1, some.2, some.3, same_is some.1.backend (backend_of name) some.4 ∙ backend_is)
guarded_by users name false e =
    λ backend is some.
    let backend_is : backend_of name ≡ backend = one_backend name (backend_of name) backend (is_backend name) is in
    let test : is_guarded users (backend_of name) ≡ true =
    list_any-from_Any (λ (entry : Entry). same_text entry.backend (backend_of name)) users (some.0, some.1, some.2, some.3, same_of some.1.backend (backend_of name) (some.4 ∙ sym backend_is)) in
    let clash : true ≡ false = sym test ∙ e in absurd (cc)

pub guards : (users : List Entry) (name : List ℕ) → IsGuarded users name (is_guarded users (backend_of name))
guards users name = guarded_by users name (is_guarded users (backend_of name)) refl

-- ---- whether the user may use it

fits_test : (user backend challenge password : List ℕ) (entry : Entry) → ((same_text entry.user user && same_text entry.backend backend) && same_text (md5 (challenge ++ entry.password)) (md5 (challenge ++ password))) ≡ true →
    (entry.user ≡ user) × (entry.backend ≡ backend) × (md5 (challenge ++ entry.password) ≡ md5 (challenge ++ password))
fits_test user backend challenge password entry e =
    let outer = both_parts (same_text entry.user user && same_text entry.backend backend) (same_text (md5 (challenge ++ entry.password)) (md5 (challenge ++ password))) e in
    let inner = both_parts (same_text entry.user user) (same_text entry.backend backend) outer.0 in
    (same_is entry.user user inner.0, same_is entry.backend backend inner.1, same_is (md5 (challenge ++ entry.password)) (md5 (challenge ++ password)) outer.1)

test_fits : (user backend challenge password : List ℕ) (entry : Entry) → (entry.user ≡ user) × (entry.backend ≡ backend) × (md5 (challenge ++ entry.password) ≡ md5 (challenge ++ password)) →
    ((same_text entry.user user && same_text entry.backend backend) && same_text (md5 (challenge ++ entry.password)) (md5 (challenge ++ password))) ≡ true
test_fits user backend challenge password entry h =
    both_true (same_text entry.user user && same_text entry.backend backend) (same_text (md5 (challenge ++ entry.password)) (md5 (challenge ++ password)))
    (both_true (same_text entry.user user) (same_text entry.backend backend) (same_of entry.user user h.0) (same_of entry.backend backend h.1))
    (same_of (md5 (challenge ++ entry.password)) (md5 (challenge ++ password)) h.2)

digest_allows : (users : List Entry) (user password backend challenge : List ℕ) → HasDigest users user backend challenge (md5 (challenge ++ password)) → is_allowed users user password backend challenge ≡ true
digest_allows users user password backend challenge h =
    list_any-from_Any (λ (entry : Entry). (same_text entry.user user && same_text entry.backend backend) && same_text (md5 (challenge ++ entry.password)) (md5 (challenge ++ password))) users
    (h.0, h.1, h.2, h.3, test_fits user backend challenge password h.1 h.4)

allows_digest : (users : List Entry) (user password backend challenge : List ℕ) → is_allowed users user password backend challenge ≡ true → HasDigest users user backend challenge (md5 (challenge ++ password))
allows_digest users user password backend challenge e =
    let some = Any-from_list_any (λ (entry : Entry). (same_text entry.user user && same_text entry.backend backend) && same_text (md5 (challenge ++ entry.password)) (md5 (challenge ++ password))) users e in
    (some.0, some.1, some.2, some.3, fits_test user backend challenge password some.1 some.4)

-- an answer is to the challenge that is read in what was sent
answers_by : (resource password answer : List ℕ) (c : Option (List ℕ)) → challenge_of resource ≡ c → option_map (λ challenge. answer_text (md5 (challenge ++ password))) c ≡ Some answer → IsAnswer answer resource password
answers_by resource password answer None e h = absurd (let clash : None ≡ Some answer = h in cc)
answers_by resource password answer (Some c) e h = (c, is_challenge_found resource c e, sym (unsome (answer_text (md5 (c ++ password))) answer h))

is_answer : (resource password answer : List ℕ) → answer_of resource password ≡ Some answer → IsAnswer answer resource password
unfolding answer_of
is_answer resource password answer e = answers_by resource password answer (challenge_of resource) refl e

line_allows : (users : List Entry) (user password backend resource : List ℕ) → LineAllows users user password backend resource → is_allowed_for users user password backend (challenge_of resource) ≡ true
line_allows users user password backend resource h =
    ap (is_allowed_for users user password backend) (challenge_of-is resource h.0 h.1) ∙ digest_allows users user password backend h.0 h.2

allows_line : (users : List Entry) (user password backend resource : List ℕ) (c : Option (List ℕ)) → challenge_of resource ≡ c → is_allowed_for users user password backend c ≡ true → LineAllows users user password backend resource
allows_line users user password backend resource None e h = absurd (let clash : false ≡ true = h in cc)
allows_line users user password backend resource (Some c) e h = (c, is_challenge_found resource c e, allows_digest users user password backend c h)

-- ---- AUTHORIZE

false_or : (b : Bool) → (b ≡ true → ⊥) → b ≡ false
false_or true n = absurd (n refl)
false_or false n = refl

decide : (a b : Bool) → (a ≡ true → b ≡ true → ⊥) → (a ≡ false) ⊎ (b ≡ false)
decide false b n = inl refl
decide true b n = inr (false_or b (λ e. n refl e))

-- the answer of the job's client is judged by the daemon as by the model
pub judged : (users : List Entry) (awaited : AwaitedAuthorization) (name user password resource answer : List ℕ) → awaited.name ≡ name → answer_of resource password ≡ Some answer →
    IsJudged (MayOpen users awaited resource user answer) (same_text resource awaited.resource) (is_allowed_for users user password (backend_of name) (challenge_of awaited.resource))
judged users awaited name user password resource answer named answers =
    let is = is_answer resource password answer answers in
    record {
      yes_where = λ may.
          let backend : may.1.0 ≡ backend_of name = one_backend name may.1.0 (backend_of name) (subst (λ (n : List ℕ). IsBackendOf n may.1.0) named may.1.1) (is_backend name) in
          let line = line_from_sent users user password (backend_of name) resource answer is (subst (λ (b : List ℕ). SentAllows users user b resource answer) backend may.1.2) in
          (same_of resource awaited.resource may.0, sym (ap (λ (r : List ℕ). is_allowed_for users user password (backend_of name) (challenge_of r)) may.0) ∙ line_allows users user password (backend_of name) resource line);
      no_where = λ never.
          decide (same_text resource awaited.resource) (is_allowed_for users user password (backend_of name) (challenge_of awaited.resource)) (λ same allows.
          let resource_is = same_is resource awaited.resource same in
          let line = allows_line users user password (backend_of name) resource (challenge_of resource) refl (ap (λ (r : List ℕ). is_allowed_for users user password (backend_of name) (challenge_of r)) resource_is ∙ allows) in
          never (resource_is, (backend_of name, subst (λ (n : List ℕ). IsBackendOf n (backend_of name)) (sym named) (is_backend name), sent_from_line users user password (backend_of name) resource answer is line)));
    }

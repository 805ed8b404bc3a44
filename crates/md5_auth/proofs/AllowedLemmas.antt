-- The answer that a password gives is allowed exactly where the password is; what a look at each line finds.
use Rattle.std.proofs.Common.{◌≡◌, ℕ, ◌+◌, ◌<◌, List, ◌++◌, length, take, get_or, arith, refl, sym, ap, ◌∙◌, subst, inl, inr, ◌⊎◌}
use Rattle.std.specs.Prelude.{Any}
use Rattle.std.proofs.lemmas.List.{get_or-take, get_or_default, length-take}
use Rattle.std.proofs.lemmas.Bool.{cases_lt}
use Rattle.md5.specs.Md5.{md5}
use Rattle.md5_auth.specs.declared.users.Entry.{Entry}
use Rattle.md5_auth.specs.Allowed.{IsChallenge, IsAnswer, LineAllows, SentAllows, GivesAnswer, answer_text}
use Rattle.md5_auth.proofs.MarkLemmas.{same_challenge}
use Rattle.md5_auth.proofs.DigestLemmas.{IsBytes-md5, same_digest}

pub line_from_sent : (users : List Entry) (user password backend resource answer : List ℕ) → IsAnswer answer resource password
    → SentAllows users user backend resource answer → LineAllows users user password backend resource
line_from_sent users user password backend resource answer a s =
    let c = a.0 in
    let same : s.0 ≡ c = same_challenge resource s.0 c s.2 a.1 in
    let entry = s.4.1 in
    let fits = s.4.4 in
    let sent : answer_text (md5 (s.0 ++ entry.password)) ≡ answer_text (md5 (c ++ password)) = ap answer_text fits.2 ∙ (sym s.3 ∙ a.2) in
    let digest : md5 (s.0 ++ entry.password) ≡ md5 (c ++ password) = same_digest _ _ (IsBytes-md5 (s.0 ++ entry.password)) (IsBytes-md5 (c ++ password)) sent in
    (c, a.1, (s.4.0, entry, s.4.2, s.4.3, (fits.0, fits.1, ap (λ (x : List ℕ). md5 (x ++ entry.password)) (sym same) ∙ digest)))

pub sent_from_line : (users : List Entry) (user password backend resource answer : List ℕ) → IsAnswer answer resource password
    → LineAllows users user password backend resource → SentAllows users user backend resource answer
sent_from_line users user password backend resource answer a l =
    let c = a.0 in
    let same : l.0 ≡ c = same_challenge resource l.0 c l.1 a.1 in
    (l.0, md5 (l.0 ++ password), l.1, a.2 ∙ ap (λ (x : List ℕ). answer_text (md5 (x ++ password))) (sym same), l.2)

-- ---- what a look at each line finds

pub given_none : (P : Entry → Type 0) (users : List Entry) → ¬ Any P (take 0 users)
given_none P users h = absurd (let k : h.0 < 0 = h.2 in omega arith)

pub given_more : (P : Entry → Type 0) (users : List Entry) (i : ℕ) (entry : Entry) → i < length users → entry ≡ get_or users i entry
    → Any P (take (i + 1) users) → Any P (take i users) ⊎ P entry
given_more P users i entry in_range at h =
    let k = h.0 in
    let x = h.1 in
    let bound : k < i + 1 = omega (arith, length-take (i + 1) users, h.2) in
    let here : get_or users k x ≡ x = sym (get_or-take (i + 1) users k x bound) ∙ h.3 in
    elim (cases_lt k i) [
      | inl below ↦ inl (k, x, omega (arith, length-take i users), get_or-take i users k x below ∙ here, h.4)
      | inr last ↦
          let same_place : k ≡ i = omega arith in
          let same : x ≡ entry = sym here ∙ ap (λ (n : ℕ). get_or users n x) same_place ∙ get_or_default users i x entry in_range ∙ sym at in
          inr (subst P same h.4)
    ]

pub given_before : (P : Entry → Type 0) (users : List Entry) (i : ℕ) → i < length users → Any P (take i users) → Any P (take (i + 1) users)
given_before P users i in_range h =
    let bound : h.0 < i = omega (arith, length-take i users, h.2) in
    let wider : h.0 < i + 1 = omega arith in
    (h.0, h.1, omega (arith, length-take (i + 1) users), get_or-take (i + 1) users h.0 h.1 wider ∙ sym (get_or-take i users h.0 h.1 bound) ∙ h.3, h.4)

pub given_here : (P : Entry → Type 0) (users : List Entry) (i : ℕ) (entry : Entry) → i < length users → entry ≡ get_or users i entry
    → P entry → Any P (take (i + 1) users)
given_here P users i entry in_range at h =
    let bound : i < i + 1 = omega arith in
    (i, entry, omega (arith, length-take (i + 1) users), get_or-take (i + 1) users i entry bound ∙ sym at, h)

pub sent_from_given : (users : List Entry) (user backend resource answer challenge : List ℕ) → IsChallenge resource challenge
    → Any (GivesAnswer user backend challenge answer) users → SentAllows users user backend resource answer
sent_from_given users user backend resource answer challenge is_challenge h =
    let fits = h.4 in
    (challenge, md5 (challenge ++ h.1.password), is_challenge, sym fits.2, (h.0, h.1, h.2, h.3, (fits.0, fits.1, refl)))

pub given_from_sent : (users : List Entry) (user backend resource answer challenge : List ℕ) → IsChallenge resource challenge
    → SentAllows users user backend resource answer → Any (GivesAnswer user backend challenge answer) users
given_from_sent users user backend resource answer challenge is_challenge s =
    let same : s.0 ≡ challenge = same_challenge resource s.0 challenge s.2 is_challenge in
    let entry = s.4.1 in
    let fits = s.4.4 in
    (s.4.0, entry, s.4.2, s.4.3, (fits.0, fits.1, ap (λ (x : List ℕ). answer_text (md5 (x ++ entry.password))) (sym same) ∙ ap answer_text fits.2 ∙ sym s.3))

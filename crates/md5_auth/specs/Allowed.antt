-- Who is allowed to use a backend: the digest of a challenge and a password of a users line.
use Rattle.std.specs.Prelude.{ℕ, ◌≤◌, ◌≡◌, ◌⊎◌, List, ◌++◌, length, take, codes, Any}
use Rattle.md5.specs.Md5.{md5}
use Rattle.hex.specs.Hex.{encode_lower}
use Rattle.md5_auth.specs.declared.users.Entry.{Entry}

-- what stands before a challenge, and before the digits of a digest
abbrev pub mark : List ℕ
mark = codes "$MD5$"

-- **challenge of a resource (`IsChallenge`)**: what follows the first `$MD5$`, of that at most 128 bytes.
pub record IsChallenge (resource challenge : List ℕ) : Type 0 where
  pub before : List ℕ
  pub after : List ℕ
  pub resource_is : resource ≡ before ++ (mark ++ after)
  pub first : (earlier rest : List ℕ) → resource ≡ earlier ++ (mark ++ rest) → length before ≤ length earlier
  pub challenge_is : challenge ≡ take 128 after

-- some line names the backend
abbrev pub NamesBackend : List Entry → List ℕ → Type 0
NamesBackend users backend = Any (λ entry. entry.backend ≡ backend) users

-- some line of the user and the backend has a password that, after the challenge, has this digest
abbrev pub HasDigest : List Entry → List ℕ → List ℕ → List ℕ → List ℕ → Type 0
HasDigest users user backend challenge digest =
    Any (λ entry. (entry.user ≡ user) × (entry.backend ≡ backend) × (md5 (challenge ++ entry.password) ≡ digest)) users

-- some line allows the user the backend: one of its passwords has, after the challenge, the digest of the password
-- given
abbrev pub LineAllows : List Entry → List ℕ → List ℕ → List ℕ → List ℕ → Type 0
LineAllows users user password backend resource =
    (challenge : List ℕ) × IsChallenge resource challenge
    × HasDigest users user backend challenge (md5 (challenge ++ password))

-- **allowed (`UserIsAllowed`)**: no line names the backend, or some line of that user and backend has a password whose
-- MD5 after the challenge equals that of the password given. `SentAllows` is the second half, with the digest that was
-- sent.
abbrev pub UserIsAllowed : List Entry → List ℕ → List ℕ → List ℕ → List ℕ → Type 0
UserIsAllowed users user password backend resource = (¬ NamesBackend users backend)
    ⊎ LineAllows users user password backend resource

-- a digest as it is sent: `$MD5$` and two lower-case hexadecimal digits a byte
abbrev pub answer_text : List ℕ → List ℕ
answer_text digest = mark ++ encode_lower digest

-- the entry is of the user and the backend, and its password gives this answer to the challenge
abbrev pub GivesAnswer : List ℕ → List ℕ → List ℕ → List ℕ → Entry → Type 0
GivesAnswer user backend challenge answer entry =
    (entry.user ≡ user) × (entry.backend ≡ backend) × (answer_text (md5 (challenge ++ entry.password)) ≡ answer)

-- some line allows the user the backend with the digest sent
abbrev pub SentAllows : List Entry → List ℕ → List ℕ → List ℕ → List ℕ → Type 0
SentAllows users user backend resource answer =
    (challenge : List ℕ) × (digest : List ℕ) × IsChallenge resource challenge × (answer ≡ answer_text digest)
    × HasDigest users user backend challenge digest

-- the text sends the digest of the resource's challenge and the password
abbrev pub IsAnswer : List ℕ → List ℕ → List ℕ → Type 0
IsAnswer text resource password = (challenge : List ℕ) × IsChallenge resource challenge
    × (text ≡ answer_text (md5 (challenge ++ password)))

-- The challenge of a resource, read from the left.
use Rattle.std.specs.Prelude.{ℕ, Option, Some, None, option_map, if◌then◌else◌, nat_eq, List, [], ◌∷◌, ◌++◌, take, drop}
use Rattle.std.specs.Cmp.Lexicographic.{pointwise}
use Rattle.md5.specs.Md5.{md5}
use Rattle.md5_auth.specs.Allowed.{mark, answer_text}

-- what follows the first `$MD5$`
abbrev pub after_mark : List ℕ → Option (List ℕ)
after_mark [] = None
after_mark (byte ∷ bytes) =
    if pointwise nat_eq (take 5 (byte ∷ bytes)) mark then Some (drop 5 (byte ∷ bytes)) else after_mark bytes

unfoldable pub challenge_of : List ℕ → Option (List ℕ)
challenge_of resource = option_map (take 128) (after_mark resource)

-- the answer to a resource with a password
unfoldable pub answer_of : List ℕ → List ℕ → Option (List ℕ)
answer_of resource password =
    option_map (λ challenge. answer_text (md5 (challenge ++ password))) (challenge_of resource)

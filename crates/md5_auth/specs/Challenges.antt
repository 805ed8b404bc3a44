-- The challenges of a seed: the words of the stream that ChaCha with 20 rounds gives from it.
use Rattle.std.specs.Prelude.{ℕ, zero, suc, ◌+◌, ◌*◌, ◌%◌, ◌^◌, ◌≡◌, List, [], ◌++◌}
use Rattle.std.specs.Int.{w32, to_be_bytes}
use Rattle.hex.specs.Hex.{encode_lower}
use Rattle.rand_chacha.specs.ChaCha.{ChaCha, word_at, key_of}

-- a word's 8 lower-case hexadecimal digits
abbrev pub word_digits : ℕ → List ℕ
word_digits word = encode_lower (to_be_bytes w32 word)

-- the digits of that many words from that place on, in a stream of 2 ^ 68 words that then begins anew
unfoldable pub digits_from : List ℕ → ℕ → ℕ → ℕ → List ℕ
digits_from key stream place zero = []
digits_from key stream place (suc n) =
    digits_from key stream place n ++ word_digits (word_at 10 key stream ((place + n) % 2 ^ 68))

-- the seed's challenge of that number, counted from 0: words 4 k to 4 k + 3
abbrev pub challenge_at : List ℕ → ℕ → List ℕ
challenge_at seed k = digits_from (key_of seed) 0 (4 * k) 4

-- **challenges of a seed (`HasGiven`)**: number k, from 0, is words 4k to 4k+3 modulo 2^68 of ChaCha20's stream of the
-- seed, each as 8 lower-case hexadecimal digits.
--
-- the generator has given that many challenges of the seed
abbrev pub HasGiven : List ℕ → ℕ → ChaCha → Type 0
HasGiven seed k g = g ≡ record { key = key_of seed; stream = 0; word_pos = 4 * k % 2 ^ 68 }

-- An output that a shelf is asked for at the first byte of a file.
use Rattle.std.specs.Prelude.{ℕ, ◌≡◌, ⊤, Option, Some, None, List, []}
use Rattle.scan_job.specs.Shelves.{Stock}

-- what such an output holds, which is nothing before the first byte
abbrev pub bytes_held : Option Stock → Option (Option (List ℕ)) → Option (List ℕ)
bytes_held None None = None
bytes_held (Some stock) None = Some []
bytes_held stock (Some contents) = contents

-- the shelf took no output back since, and the one that it gave was asked for under that number
abbrev pub IsAsked : Option Stock → Option (Option (List ℕ)) → ℕ → Option Stock → Type 0
IsAsked None out k now = ⊤
IsAsked (Some before) out k None = ⊥
IsAsked (Some before) None k (Some now) = now.taken ≡ before.taken
IsAsked (Some before) (Some contents) k (Some now) = (now.taken ≡ before.taken) × (now.number ≡ k)

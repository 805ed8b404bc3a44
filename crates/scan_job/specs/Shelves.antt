-- The outputs of a batch's files, where what they take is known.
use Rattle.std.specs.Prelude.{ℕ, ◌≡◌, ⊤, Bool, Option, Some, None, List, [], ◌∷◌, ◌++◌}

-- an output that was given back: the number of its file, the bytes that it took, where they are known, and whether the
-- shelf kept it or refused it
pub record ReturnedOutput : Type 0 where
  pub number : ℕ
  pub text : Option (List ℕ)
  pub kept : Bool

-- the outputs that were given back, in their order, and the number that the last one was asked for
pub record Stock : Type 0 where
  pub taken : List ReturnedOutput
  pub number : ℕ

-- a new output has no bytes
abbrev pub IsEmpty : Option (List ℕ) → Type 0
IsEmpty None = ⊤
IsEmpty (Some bytes) = bytes ≡ []

-- where it is known what was put on a shelf, a new output tells that it has no bytes
abbrev pub IsNewOutput : Option Stock → Option (List ℕ) → Type 0
IsNewOutput None contents = ⊤
IsNewOutput (Some stock) contents = contents ≡ Some []

-- **what a shelf took (`stock`, `OpensOutput`, `Shelves`, `IsEmpty`)**: the outputs that were given back, in their
-- order, and the number that was asked for last. Each output has the number of its file, the bytes that it took, if
-- they are known, and whether the shelf kept or refused it. A new output holds no byte.
abbrev pub OpensOutput : Option Stock → ℕ → Option Stock → Type 0
OpensOutput None k new = ⊤
OpensOutput (Some old) k new = new ≡ Some (record old { number = k })

-- an output that took these bytes was given back, and the shelf kept or refused it
abbrev pub Shelves : Option Stock → Option (List ℕ) → Bool → Option Stock → Type 0
Shelves None text kept new = ⊤
Shelves (Some old) text kept new =
    new ≡ Some (record old { taken = old.taken ++ record { number = old.number; text = text; kept = kept } ∷ [] })

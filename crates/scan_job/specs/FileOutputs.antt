-- What a job leaves on its output, or on a shelf of outputs.
use Rattle.std.specs.Prelude.{ℕ, ◌≡◌, ⊤, Bool, true, false, Option, Some, None, List, [], ◌∷◌, ◌++◌}
use Rattle.std.specs.Io.KnownBytes.{Appends}
use Rattle.netpbm.specs.NoFile.{HoldsNoFile}
use Rattle.scan_job.specs.Shelves.{Stock, ReturnedOutput, Shelves}

-- the output took a text of which no front is a whole file
pub record StopsShort (first contents : Option (List ℕ)) : Type 0 where
  pub text : List ℕ
  pub taken : Appends first contents text
  pub none : HoldsNoFile text

-- an output, if there is one, was given back with what it holds, and kept or refused; where there is none, none is
-- refused
abbrev pub GivesBack : Option Stock → Option (Option (List ℕ)) → Bool → Option Stock → Type 0
GivesBack old None kept new = (new ≡ old) × (kept ≡ true)
GivesBack old (Some contents) kept new = Shelves old contents kept new

-- **Taken back, left** (`TakesBack`, `AreLeft`; `page_outputs_from`): the outputs that a shelf was given back since, if
-- it tells; an output for the file of each page, numbered on, and kept; what is left of a file that did not come to its
-- end, which is no output, or one that took some of it, kept or refused.
abbrev pub TakesBack : Option Stock → List ReturnedOutput → Option Stock → Type 0
TakesBack None outputs new = ⊤
TakesBack (Some old) outputs None = ⊥
TakesBack (Some old) outputs (Some new) = new.taken ≡ old.taken ++ outputs

-- the output of the file of that number, with these bytes, which was kept or refused
abbrev pub returned_output : ℕ → List ℕ → Bool → ReturnedOutput
returned_output k text kept = record { number = k; text = Some text; kept = kept }

abbrev pub output_of : ℕ → List ℕ → ReturnedOutput
output_of k text = returned_output k text true

abbrev pub refused_output : ℕ → List ℕ → ReturnedOutput
refused_output k text = returned_output k text false

-- what is left of the file of that number, of which these bytes went out: without bytes no output; else that one, which
-- was kept or refused
abbrev pub AreLeft : ℕ → List ℕ → List ReturnedOutput → Type 0
AreLeft k text [] = text ≡ []
AreLeft k text (output ∷ []) = (kept : Bool) × (output ≡ returned_output k text kept)
AreLeft k text (_ ∷ _ ∷ _) = ⊥

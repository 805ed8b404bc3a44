-- What is done with the first of the pages in a scanner.
use Rattle.std.specs.Prelude.{◌≡◌, List, [], ◌∷◌}
use Rattle.page_picture.specs.Source.{SourceState}

-- there is a first one, of which this holds
abbrev pub OfFirst : (SourceState → Type 0) → List SourceState → Type 0
OfFirst P [] = ⊥
OfFirst P (source ∷ _) = P source

-- this happened to the first one, and nothing to the others
abbrev pub OnFirst : (SourceState → SourceState → Type 0) → List SourceState → List SourceState → Type 0
OnFirst did [] new = ⊥
OnFirst did (source ∷ others) new = (after : SourceState) × did source after × (new ≡ after ∷ others)

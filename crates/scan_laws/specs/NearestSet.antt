-- What is given for what is asked: the nearest admitted value.
use Rattle.std.specs.Prelude.{◌≡◌, ℕ, true, Some, List, [], ◌∷◌, slice_get}
use Rattle.option_desc.specs.declared.descriptor.Descriptor.{Descriptor}
use Rattle.option_desc.specs.declared.value.Value.{Value}
use Rattle.option_desc.specs.Put.{Puts}
use Rattle.option_desc.specs.Reads.{ReadsAsValue}
use Rattle.scan_frames.specs.declared.setup.Setup.{Setup}
use Rattle.device_api.specs.InForce.{Placement, may_be_set, number_named}
use Rattle.device_api.specs.Options.{descriptors_of}
use Rattle.device_api.specs.Values.{setup_after}

-- option n, which may be set, was given the admitted value nearest to the one asked for
pub record GivesNearest (s : Setup) (n : ℕ) (asked given : Value) : Type 0 where
  pub desc : Descriptor
  pub at : slice_get (descriptors_of s) n ≡ Some desc
  pub may : may_be_set desc ≡ true
  pub puts : Puts desc asked given

-- a setting found its option by its name, its text was read, and the nearest value was put in
pub record PutsNearest (s : Setup) (setting : List ℕ × List ℕ) (p : Placement) : Type 0 where
  pub n : ℕ
  pub named : number_named setting.0 (descriptors_of s) ≡ Some n
  pub gives : GivesNearest s n p.asked p.given
  pub reads : ReadsAsValue gives.desc setting.1 p.asked
  pub after : p.setup ≡ setup_after s n p.given

-- each of the settings, from the options that those before it left
abbrev pub PutAllNearest : Setup → List (List ℕ × List ℕ) → List Placement → Setup → Type 0
PutAllNearest s [] [] t = t ≡ s
PutAllNearest s [] (p ∷ ps) t = ⊥
PutAllNearest s (setting ∷ settings) [] t = ⊥
PutAllNearest s (setting ∷ settings) (p ∷ ps) t = PutsNearest s setting p × PutAllNearest p.setup settings ps t

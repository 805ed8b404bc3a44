-- The values that a constraint admits (SANE Standard 1.06, "Option Descriptors").
use Rattle.std.specs.Prelude.{◌≡◌, ◌≤◌, ℕ, ℤ, pos, ◌+ℤ◌, ◌*ℤ◌, ◌≤ℤ◌, ◌⊎◌}

-- the three words of a range
pub record Bounds : Type 0 where
  pub min : ℤ
  pub max : ℤ
  pub quant : ℤ

-- what every range keeps
pub record IsRange (range : Bounds) : Type 0 where
  pub ordered : range.min ≤ℤ range.max
  pub no_step_back : pos 0 ≤ℤ range.quant

-- what every list of entries keeps, by their number
pub record HasRoom (entries : ℕ) : Type 0 where
  pub some : 1 ≤ entries
  pub most : entries ≤ 1023

-- min + k * quant, for some k from 0 on
abbrev pub IsStep : Bounds → ℤ → Type 0
IsStep range word = (k : ℕ) × (word ≡ (range.min +ℤ (pos k *ℤ range.quant)))

-- **admitted (`AdmittedByRange`)**: a range admits min + k * quant up to max, for k from 0 on. A range with quant 0
-- admits everything from min to max. A list admits its entries. No constraint admits everything.
abbrev pub AdmittedByRange : Bounds → ℤ → Type 0
AdmittedByRange range word = (word ≤ℤ range.max) × (((range.quant ≡ pos 0) × (range.min ≤ℤ word)) ⊎ IsStep range word)

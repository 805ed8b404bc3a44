-- What private functions alone promise.
use Rattle.std.specs.Prelude.{ℕ, ◌∷◌, List, codes, decimal, ◌++◌, Option, option_map, []}
use Rattle.std.specs.List.{concat}
use Rattle.scanimage_cli.specs.declared.word_cut.AwaitedValue.{AwaitedValue}
use Rattle.scanimage_cli.specs.declared.word_cut.Item.{Item}

-- The files of a batch.

-- **the name of a batch's file (`file_name`)**: `out`, the number, `.pnm`.
abbrev pub file_name : ℕ → List ℕ
file_name number = concat (codes "out" ∷ decimal number ∷ codes ".pnm" ∷ [])

-- Texts in a row.

-- each with a `|` before it
abbrev pub behind_bars : List (List ℕ) → List ℕ
behind_bars [] = []
behind_bars (text ∷ more) = (124 ∷ text) ++ behind_bars more

-- the items with those that a step completes behind them, and what is awaited then
abbrev pub with_cut_step : List Item → Option (List Item × Option AwaitedValue)
    → Option (List Item × Option AwaitedValue)
with_cut_step items step = option_map (λ s. (items ++ s.0, s.1)) step

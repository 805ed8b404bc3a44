use Rattle.std.proofs.Common.{◌≡◌, ◌∷◌, All, codes, map, take}
use Rattle.std.specs.Str.{IsUtf8}
use Rattle.scanimage_cli.proofs.options.as_strs.Given as goal

abbrev pub invariant-loop-word : goal.invariant-loop-word
invariant-loop-word l = (map (λ (s : _). s.now) l.strs.items ≡ codes "scanimage" ∷ take l.word-index l.words) × All IsUtf8 (take l.word-index l.words)

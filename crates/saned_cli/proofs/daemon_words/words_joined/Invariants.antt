use Rattle.std.proofs.Common.{◌≡◌, ◌++◌, drop}
use Rattle.std.specs.Prelude.{map, option_map, string_bytes}
use Rattle.saned_cli.specs.OptionWords.{joined_from, words_joined}
use Rattle.saned_cli.proofs.daemon_words.words_joined.Given as goal

abbrev pub invariant-loop-word : goal.invariant-loop-word
invariant-loop-word l = option_map (λ more. map string_bytes l.options.items ++ more) (joined_from (option_map (λ name. name.now) l.waiting) (map string_bytes (drop l.word-index l.words))) ≡ words_joined (map string_bytes l.words)

use Rattle.std.proofs.Common.{sym, ap, ◌∙◌}
use Rattle.scanimage_cli.specs.WordCut.{part_of_word}
use Rattle.scanimage_cli.proofs.CutLemmas.{awaits_step}
use Rattle.scanimage_cli.proofs.word_cut.take_word.Goals as goal

pub returns-in-Awaits-clause-taken : goal.returns-in-Awaits-clause-taken
returns-in-Awaits-clause-taken c = awaits_step c.args.items.now.items c.args.awaited c.args.word.now c.in-Awaits.awaited c.in-None.is (ap part_of_word (sym c.as_bytes.ensures.bytes) ∙ (sym c.in_ok-item-in-None.ensures ∙ c.in-Awaits.is))

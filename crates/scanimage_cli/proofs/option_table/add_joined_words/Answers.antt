use Rattle.std.proofs.Common.{◌∙◌, ℤ, pos, get_or, ap, rules, FitsSigned, w32}
use Rattle.std.proofs.lemmas.Int.{to_z-of_z}
use Rattle.option_desc.specs.ShownText.{word_text}
use Rattle.scanimage_cli.proofs.JoinLemmas.{joined_words}
use Rattle.scanimage_cli.proofs.option_table.add_joined_words.Goals as goal

pub returns-in_ok-add_more_words-in-len1-up : goal.returns-in_ok-add_more_words-in-len1-up
returns-in_ok-add_more_words-in-len1-up c =
    let word : ℤ = get_or c.args.words.now 0 (pos 0) in
    let fits : FitsSigned w32 word = search rules in
    let text = c.as_bytes.ensures.bytes ∙ c.in_ok-text-in-len1-up.ensures ∙ ap (word_text c.args.desc.now.kind) (to_z-of_z w32 word fits) in
    joined_words (word_text c.args.desc.now.kind) c.args.line.now.items _ _ c.as_bytes.result.now c.args.words.now c.in-len1-up.len_at_least text c.in_ok-extend_from_slice-in-len1-up.ensures.items c.in_ok-add_more_words-in-len1-up.ensures

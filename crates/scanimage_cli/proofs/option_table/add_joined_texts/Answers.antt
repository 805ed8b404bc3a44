use Rattle.scanimage_cli.proofs.JoinLemmas.{joined_texts}
use Rattle.scanimage_cli.proofs.option_table.add_joined_texts.Goals as goal

pub returns-in_ok-add_more_texts-in-len1-up : goal.returns-in_ok-add_more_texts-in-len1-up
returns-in_ok-add_more_texts-in-len1-up c = joined_texts c.args.line.now.items _ _ c.first-item.result c.args.texts.now c.in-len1-up.len_at_least c.first-item.is (rw c.as_bytes.ensures.bytes at c.in_ok-extend_from_slice-in-len1-up.ensures.items) c.in_ok-add_more_texts-in-len1-up.ensures

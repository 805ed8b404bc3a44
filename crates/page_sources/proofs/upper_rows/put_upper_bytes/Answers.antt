use Rattle.std.proofs.Common.{◌≤◌, ◌+◌, ◌*◌, ◌/◌, ◌∙◌, ℕ, length, ap, sym, subst, arith}
use Rattle.page_sources.proofs.EightLemmas.{byte_of_part, word_of_part}
use Rattle.page_sources.proofs.upper_rows.put_upper_bytes.Goals as goal

pub put_words-requires-clause-limit : goal.put_words-requires-clause-limit
put_words-requires-clause-limit c j less =
    let count = length c.args.part.now in
    subst (λ (v : ℕ). v ≤ c.args.maxval) (sym (word_of_part c.args.maxval c.args.bytes.now c.args.at count j (omega arith) less)) (c.requires.limit (c.args.at + j) (omega (arith, less)))

pub returns-in-0-to-254 : goal.returns-in-0-to-254
returns-in-0-to-254 c i less =
    c.put_bytes.ensures i less
    ∙ ap (λ (v : ℕ). v * 65535 / c.args.maxval / 256) (byte_of_part c.args.maxval c.args.bytes.now c.args.at (length c.args.part.now) i (omega arith) less)

pub returns-in_default : goal.returns-in_default
returns-in_default c i less =
    c.put_words.ensures i less
    ∙ ap (λ (v : ℕ). v * 65535 / c.args.maxval / 256) (word_of_part c.args.maxval c.args.bytes.now c.args.at (length c.args.part.now) i (omega arith) less)

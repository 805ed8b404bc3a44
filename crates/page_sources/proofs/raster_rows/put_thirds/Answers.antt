use Rattle.std.proofs.Common.{rules}
use Rattle.page_sources.proofs.ThirdLemmas.{third_words_are}
use Rattle.page_sources.proofs.raster_rows.put_thirds.Goals as goal

pub returns-else-maxval-lt256 : goal.returns-else-maxval-lt256
returns-else-maxval-lt256 c = λ j less.
    third_words_are c.args.maxval c.args.at c.args.bytes.now c.put_third_words.new.part (search rules) (search rules) (search rules) j (search rules)

use Rattle.std.proofs.Common.{rules, ◌≡◌, ◌∷◌, [], ◌++◌, ◌∙◌, subst, All}
use Rattle.std.specs.Str.{IsUtf8}
use Rattle.std.proofs.lemmas.List.{take_all}
use Rattle.scanimage_cli.proofs.OptionSteps.{strs_more, utf8_at, utf8_more}
use Rattle.scanimage_cli.proofs.options.as_strs.Goals as goal

pub returns-in_default-clause-refused : goal.returns-in_default-clause-refused
returns-in_default-clause-refused c = λ bad all.
    c.in_default.ensures.cases.0 (subst IsUtf8 (search rules) (utf8_at c.args.words.now c.loop-word.word-index c.word-item.result c.loop-word-test.true c.word-item.is all))

pub loop-word-preserved : goal.loop-word-preserved
loop-word-preserved c =
    let pushed : c.push-in-loop-word.new.self.items ≡ c.loop-word.strs.items ++ c.in-Ok.word ∷ [] = search rules in
    let utf8 : IsUtf8 c.word-item.result = subst IsUtf8 c.as_bytes.ensures.bytes c.in-Ok.ensures.cases.1 in (
      strs_more c.args.words.now c.loop-word.word-index c.word-item.result c.loop-word.strs.items _ c.in-Ok.word c.loop-word-test.true c.word-item.is
          (c.in-Ok.ensures.cases.0 ∙ c.as_bytes.ensures.bytes) pushed c.loop-word.invariant.0,
      utf8_more c.args.words.now c.loop-word.word-index c.word-item.result c.loop-word-test.true c.word-item.is utf8 c.loop-word.invariant.1,
    )

pub returns-clause-utf8 : goal.returns-clause-utf8
returns-clause-utf8 c = subst (All IsUtf8) (take_all c.loop-word.word-index c.args.words.now c.loop-word-test.false) c.loop-word.invariant.1

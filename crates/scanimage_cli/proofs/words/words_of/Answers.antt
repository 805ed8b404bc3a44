use Rattle.std.proofs.Common.{rules, ◌≡◌, ◌+◌, ◌-◌, ◌++◌, ◌∷◌, [], arith, Some, subst, sym}
use Rattle.std.specs.Prelude.{IfSome}
use Rattle.scanimage_cli.specs.Words.{IsWordAt}
use Rattle.scanimage_cli.proofs.WordLists.{AreFirstWords, none_yet, word_more, words_end}
use Rattle.scanimage_cli.proofs.words.words_of.Goals as goal

pub loop-i-init : goal.loop-i-init
loop-i-init g c = record { begun = omega arith; first = none_yet (g.W.WordSource.words c.args.env.now) c.new-words.result.items c.new-words.ensures.items }

pub loop-i-preserved : goal.loop-i-preserved
loop-i-preserved g c =
    let pushed : c.push.new.self.items ≡ c.loop-i.words.items ++ c.in-Some.text ∷ [] = search rules in
    let there : IfSome (g.W.WordSource.words c.args.env.now) (λ all. IsWordAt all c.loop-i.i (Some c.in-Some.text)) =
    subst (λ found. IfSome (g.W.WordSource.words c.args.env.now) (λ all. IsWordAt all c.loop-i.i found)) c.in-Some.is c.in_ok-text.ensures in
    record {
      begun = omega arith;
      first = subst (λ words. AreFirstWords (g.W.WordSource.words c.args.env.now) ((c.loop-i.i + 1) - 1) words) (sym pushed)
          (word_more (g.W.WordSource.words c.args.env.now) c.loop-i.i c.in-Some.text c.loop-i.words.items c.loop-i.invariant.begun c.loop-i.invariant.first there);
    }

pub returns-in-None : goal.returns-in-None
returns-in-None g c =
    words_end (g.W.WordSource.words c.args.env.now) c.loop-i.i c.loop-i.words.items c.loop-i.invariant.begun c.loop-i.invariant.first
    (subst (λ found. IfSome (g.W.WordSource.words c.args.env.now) (λ all. IsWordAt all c.loop-i.i found)) c.in-None.is c.in_ok-text.ensures)

use Rattle.std.proofs.Common.{◌∙◌, ◌≤◌, ◌++◌, ◌∷◌, [], length, take, sym, ap, FitsSigned, w32, rules, tests, arith}
use Rattle.std.specs.Prelude.{Some}
use Rattle.std.proofs.lemmas.Int.{to_z-of_z}
use Rattle.std.proofs.lemmas.List.{length_push}
use Rattle.std.proofs.lemmas.Iterator.Splits.{YieldsList-from_slice_split}
use Rattle.std.proofs.lemmas.Iterator.Consumers.{YieldsList-turn, YieldsList-end}
use Rattle.option_desc.specs.Reads.{pieces_of, words_in}
use Rattle.option_desc.proofs.ReadsLaws.{is_comma}
use Rattle.option_desc.proofs.RefusesLaws.{none_is}
use Rattle.option_desc.proofs.PieceLaws.{words_in-more, unread, all_below}
use Rattle.option_desc.proofs.reading.read_words.Goals as goal

pub returns-in-None-read_word : goal.returns-in-None-read_word
returns-in-None-read_word c =
    let t = YieldsList-turn (YieldsList-from_slice_split _ is_comma c.args.text.now (search rules) (search rules) (search rules) (λ x b q k. search (rules, tests))) c.loop-piece.yielded _ c.loop-piece.yielded_by _ _ c.in-Some.piece c.in-Some.is c.next.ensures.steps in
    none_is (words_in c.args.kind (pieces_of c.args.text.now)) (unread c.args.kind (pieces_of c.args.text.now) (length c.loop-piece.yielded) c.in-Some.piece.now t.0 t.1 (sym c.in-None-read_word.ensures))

pub loop-piece-preserved : goal.loop-piece-preserved
loop-piece-preserved c =
    let t = YieldsList-turn (YieldsList-from_slice_split _ is_comma c.args.text.now (search rules) (search rules) (search rules) (λ x b q k. search (rules, tests))) c.loop-piece.yielded _ c.loop-piece.yielded_by _ _ c.in-Some.piece c.in-Some.is c.next.ensures.steps in
    let fits : FitsSigned w32 c.in-Some-read_word.word = search rules in
    let items = c.in_ok-push-in-Some-read_word.ensures.items ∙ ap (λ z. c.loop-piece.words.items ++ z ∷ []) (to_z-of_z w32 c.in-Some-read_word.word fits) in
    let more = words_in-more c.args.kind (pieces_of c.args.text.now) (length c.loop-piece.yielded) c.in-Some.piece.now c.loop-piece.words.items c.in-Some-read_word.word t.0 t.1 c.loop-piece.invariant (sym c.in-Some-read_word.ensures) in
    ap (λ n. words_in c.args.kind (take n (pieces_of c.args.text.now))) (length_push c.loop-piece.yielded c.in-Some.piece) ∙ more ∙ ap Some (sym items)

pub returns : goal.returns
returns c =
    let t = YieldsList-end (YieldsList-from_slice_split _ is_comma c.args.text.now (search rules) (search rules) (search rules) (λ x b q k. search (rules, tests))) c.loop-piece.yielded _ c.loop-piece.yielded_by _ _ c.in-None.is c.next.ensures.steps in
    let end : length (pieces_of c.args.text.now) ≤ length c.loop-piece.yielded = omega (arith, t.1) in
    all_below c.args.kind (pieces_of c.args.text.now) (length c.loop-piece.yielded) c.loop-piece.words.items end c.loop-piece.invariant ∙ ap Some (sym c.from_vec.ensures)

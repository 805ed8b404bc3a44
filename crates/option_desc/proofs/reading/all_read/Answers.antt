use Rattle.std.proofs.Common.{length, sym, subst, rules, tests}
use Rattle.std.proofs.lemmas.List.{length_push}
use Rattle.std.proofs.lemmas.Iterator.Splits.{YieldsList-from_slice_split}
use Rattle.std.proofs.lemmas.Iterator.Consumers.{YieldsList-turn, YieldsList-end}
use Rattle.option_desc.specs.Reads.{pieces_of}
use Rattle.option_desc.proofs.ReadsLaws.{is_comma}
use Rattle.option_desc.proofs.PieceLaws.{ReadBelow, ReadBelow-none, ReadBelow-read, unread_piece, all_read_below}
use Rattle.option_desc.proofs.reading.all_read.Goals as goal

pub returns-then-is_none : goal.returns-then-is_none
returns-then-is_none c =
    let t = YieldsList-turn (YieldsList-from_slice_split _ is_comma c.args.text.now (search rules) (search rules) (search rules) (λ x b q k. search (rules, tests))) c.loop-piece.yielded _ c.loop-piece.yielded_by _ _ c.in-Some.piece c.in-Some.is c.next.ensures.steps in
    unread_piece c.args.kind (pieces_of c.args.text.now) (length c.loop-piece.yielded) c.in-Some.piece.now c.read_word.result t.0 t.1 c.read_word.ensures (search rules)

pub loop-piece-init : goal.loop-piece-init
loop-piece-init c = ReadBelow-none c.args.kind (pieces_of c.args.text.now)

pub loop-piece-preserved : goal.loop-piece-preserved
loop-piece-preserved c =
    let t = YieldsList-turn (YieldsList-from_slice_split _ is_comma c.args.text.now (search rules) (search rules) (search rules) (λ x b q k. search (rules, tests))) c.loop-piece.yielded _ c.loop-piece.yielded_by _ _ c.in-Some.piece c.in-Some.is c.next.ensures.steps in
    subst (ReadBelow c.args.kind (pieces_of c.args.text.now)) (sym (length_push c.loop-piece.yielded c.in-Some.piece))
    (ReadBelow-read c.args.kind (pieces_of c.args.text.now) (length c.loop-piece.yielded) c.in-Some.piece.now c.read_word.result t.0 t.1 c.loop-piece.invariant c.read_word.ensures (search rules))

pub returns : goal.returns
returns c =
    let t = YieldsList-end (YieldsList-from_slice_split _ is_comma c.args.text.now (search rules) (search rules) (search rules) (λ x b q k. search (rules, tests))) c.loop-piece.yielded _ c.loop-piece.yielded_by _ _ c.in-None.is c.next.ensures.steps in
    all_read_below c.args.kind (pieces_of c.args.text.now) (length c.loop-piece.yielded) (sym t.1) c.loop-piece.invariant

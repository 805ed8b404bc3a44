use Rattle.std.proofs.Common.{◌≡◌, ◌-◌, ◌∙◌, length, take, drop, refl, sym, ap, arith, true}
use Rattle.std.specs.List.{list_all}
use Rattle.std.proofs.lemmas.List.{take_all, length-drop}
use Rattle.wire_format.specs.Format.{is_from}
use Rattle.wire_codec.proofs.Pendings.{still_pending, seen_whole}
use Rattle.wire_codec.proofs.decoder.waits_on.Goals as goal

pub returns-clause-waits : goal.returns-clause-waits
returns-clause-waits c =
    let all : take (length c.args.rest.now - c.args.pending.seen) (drop c.args.pending.seen c.args.rest.now) ≡ drop c.args.pending.seen c.args.rest.now = take_all _ _ (omega (arith, length-drop c.args.pending.seen c.args.rest.now)) in
    let from : list_all (is_from c.args.pending.wanted.least) (drop c.args.pending.seen c.args.rest.now) ≡ true = ap (list_all (is_from c.args.pending.wanted.least)) (sym all) ∙ sym c.all_from.ensures ∙ c.if-not-all_from.false in
    rw all (still_pending c.args.rest.now c.args.pending (λ i. omega (arith, c.type_inv.rest i)) c.requires c.if-rest-gt-MESSAGE_LIMIT.false (omega (arith, ap length all, c.if-more-pending.false)) from, refl, refl)

pub returns-clause-stops : goal.returns-clause-stops
returns-clause-stops c =
    let all : take (length c.args.rest.now - c.args.pending.seen) (drop c.args.pending.seen c.args.rest.now) ≡ drop c.args.pending.seen c.args.rest.now = take_all _ _ (omega (arith, length-drop c.args.pending.seen c.args.rest.now)) in
    let from : list_all (is_from c.args.pending.wanted.least) (drop c.args.pending.seen c.args.rest.now) ≡ true = ap (list_all (is_from c.args.pending.wanted.least)) (sym all) ∙ sym c.all_from.ensures ∙ c.if-not-all_from.false in
    rw all (seen_whole c.args.rest.now _ (still_pending c.args.rest.now c.args.pending (λ i. omega (arith, c.type_inv.rest i)) c.requires c.if-rest-gt-MESSAGE_LIMIT.false (omega (arith, ap length all, c.if-more-pending.false)) from) refl)

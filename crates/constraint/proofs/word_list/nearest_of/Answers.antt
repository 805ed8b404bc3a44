use Rattle.std.proofs.Common.{◌≡◌, ◌<◌, ◌≤◌, ℤ, pos, length, get_or, ◌∙◌, sym, ap, subst, rules, FitsSigned, w32, arith, to_z, of_z}
use Rattle.std.proofs.lemmas.Int.{to_z-of_z}
use Rattle.constraint.specs.NearestComputed.{closer, nearest_in_list}
use Rattle.constraint.proofs.ListLaws.{best_more, best_all}
use Rattle.constraint.proofs.word_list.nearest_of.Goals as goal

pub loop-entry-preserved : goal.loop-entry-preserved
loop-entry-preserved c =
    let entry : ℤ = get_or c.args.entries.now c.loop-entry.entry-index (pos 0) in
    let fits : FitsSigned w32 entry = search rules in
    let found : FitsSigned w32 c.closer-nearest.result = search rules in
    to_z-of_z w32 c.closer-nearest.result found
    ∙ best_more (to_z w32 (of_z w32 c.args.word)) c.args.entries.now c.loop-entry.entry-index _ (to_z w32 c.loop-entry.nearest-bits) (to_z w32 (of_z w32 entry)) c.closer-nearest.result
    c.loop-entry-test.true (to_z-of_z w32 entry fits) c.loop-entry.invariant c.closer-nearest.ensures

pub loop-entry-init : goal.loop-entry-init
loop-entry-init c =
    let first : ℤ = get_or c.args.entries.now 0 (pos 0) in
    let fits : FitsSigned w32 first = search rules in
    to_z-of_z w32 first fits

pub returns : goal.returns
returns c =
    let asked : FitsSigned w32 c.args.word = search rules in
    best_all (to_z w32 (of_z w32 c.args.word)) c.args.entries.now c.loop-entry.entry-index (to_z w32 c.loop-entry.nearest-bits) c.requires c.loop-entry-test.false c.loop-entry.invariant
    ∙ ap (nearest_in_list c.args.entries.now) (to_z-of_z w32 c.args.word asked)

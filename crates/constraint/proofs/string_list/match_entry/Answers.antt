use Rattle.std.proofs.Common.{◌≡◌, ◌+◌, ◌∙◌, Bool, true, false, ap, sym, subst, get_or}
use Rattle.std.specs.Str.{bytes_eq}
use Rattle.constraint.specs.NearestComputed.{begins_with}
use Rattle.constraint.proofs.EntryLaws.{Searched, Searched-none, Searched-begins, Searched-passes, found_equal, equal_at, same_flag, other_flag, place_of, searched_all, none_equal_all}
use Rattle.constraint.proofs.string_list.match_entry.Goals as goal
use Rattle.constraint.proofs.string_list.match_entry.Goals.{then-begins_with, else-begins_with}

pub loop-i-init : goal.loop-i-init
loop-i-init c = Searched-none c.args.entries.now c.args.text.now

pub loop-i-preserved : goal.loop-i-preserved
loop-i-preserved c =
    let entry = c.as_bytes-entry.result.now in
    let entries = c.args.entries.now in
    let text = c.args.text.now in
    let at = c.as_bytes-entry.ensures.bytes ∙ c.index-entries-i.is ∙ ap (get_or entries c.loop-i.i) (sym c.as_bytes-entry.ensures.bytes) in
    let differs : bytes_eq entry text ≡ false = sym c.eq.ensures ∙ c.if-eq.false in
    elim c.if-begins_with.branch [
      | then-begins_with w ↦ Searched-begins entries text c.loop-i.i entry c.loop-i.beginning c.if-begins_with.beginning c.loop-i-test.true at c.loop-i.invariant differs (sym c.begins_with.ensures ∙ w.if-begins_with.true) (w.beginning-is ∙ w.with-beginning.ensures)
      | else-begins_with w ↦ subst (Searched entries text (c.loop-i.i + 1)) (sym w.beginning-is) (Searched-passes entries text c.loop-i.i entry c.loop-i.beginning c.loop-i-test.true at c.loop-i.invariant differs (sym c.begins_with.ensures ∙ w.if-begins_with.false))
    ]

pub returns-then-eq : goal.returns-then-eq
returns-then-eq c =
    let entries = c.args.entries.now in
    let text = c.args.text.now in
    let at = c.as_bytes-entry.ensures.bytes ∙ c.index-entries-i.is ∙ ap (get_or entries c.loop-i.i) (sym c.as_bytes-entry.ensures.bytes) in
    let equal : bytes_eq c.as_bytes-entry.result.now text ≡ true = sym c.eq.ensures ∙ c.if-eq.true in
    record {
      value = found_equal entries text c.loop-i.i c.as_bytes-entry.result.now c.loop-i.beginning c.loop-i-test.true at c.loop-i.invariant equal;
      differs = same_flag entries text c.loop-i.i (equal_at entries text c.loop-i.i c.as_bytes-entry.result.now c.loop-i-test.true at equal);
    }

pub returns-in-At : goal.returns-in-At
returns-in-At c = record {
  value = ap place_of (sym c.in-At.is) ∙ searched_all c.args.entries.now c.args.text.now c.loop-i.i c.loop-i.beginning c.loop-i-test.false c.loop-i.invariant;
  differs = other_flag c.args.entries.now c.args.text.now c.in-At.i (none_equal_all c.args.entries.now c.args.text.now c.loop-i.i c.loop-i.beginning c.loop-i-test.false c.loop-i.invariant);
}

pub returns-in-Nowhere-clause-value : goal.returns-in-Nowhere-clause-value
returns-in-Nowhere-clause-value c = ap place_of (sym c.in-Nowhere.is) ∙ searched_all c.args.entries.now c.args.text.now c.loop-i.i c.loop-i.beginning c.loop-i-test.false c.loop-i.invariant

pub returns-in-Several-clause-value : goal.returns-in-Several-clause-value
returns-in-Several-clause-value c = ap place_of (sym c.in-Several.is) ∙ searched_all c.args.entries.now c.args.text.now c.loop-i.i c.loop-i.beginning c.loop-i-test.false c.loop-i.invariant

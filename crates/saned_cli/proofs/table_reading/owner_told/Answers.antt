use Rattle.std.proofs.Common.{◌∷◌, ◌++◌, [], List, ℕ, arith, refl, subst}
use Rattle.socket_calls.specs.SocketCall.SocketCall.{EndsTable}
use Rattle.saned_cli.specs.Inside.{IsSeenIn}
use Rattle.saned_cli.specs.TableReadings.{lines_told}
use Rattle.saned_cli.specs.TableReadings.IsWholeReading.{ReadsMost, ReadsToEnd}
use Rattle.saned_cli.proofs.TableLaws.{begun, one_longer, told_end, told_line}
use Rattle.saned_cli.proofs.table_reading.owner_told.Goals as goal

pub loop-i-init : goal.loop-i-init
loop-i-init g c = record {
  lines = [];
  grew = begun c.begin_table.result _ _ c.begin_table.ensures c.if-not-begin_table.false;
  count = refl;
  seen = refl;
}

pub loop-i-preserved : goal.loop-i-preserved
loop-i-preserved g c = let i = c.loop-i.invariant in record {
  lines = i.lines ++ c.next_line.new.line.items ∷ [];
  grew = told_line i.lines _ _ _ _ _ i.grew c.next_line.ensures c.if-not-next_line.false;
  count = one_longer i.lines _ _ i.count;
  seen =
      subst (λ (line : List ℕ). IsSeenIn (i.lines ++ line ∷ []) c.args.peer c.args.ours c.seen_after-seen.result) c.as_slice.ensures.value (c.seen_after-seen.ensures i.lines i.seen);
}

pub returns-then-not-next_line : goal.returns-then-not-next_line
returns-then-not-next_line g c = let i = c.loop-i.invariant in record {
  since = EndsTable ∷ lines_told i.lines;
  grew = told_end i.lines _ _ _ _ _ i.grew c.next_line.ensures c.if-not-next_line.true;
  lines = i.lines;
  whole = ReadsToEnd (omega (arith, i.count)) refl;
  names = c.owner_seen.ensures i.lines c.args.peer c.args.ours i.seen;
}

pub returns : goal.returns
returns g c = let i = c.loop-i.invariant in record {
  since = lines_told i.lines;
  grew = i.grew;
  lines = i.lines;
  whole = ReadsMost (omega (arith, i.count)) refl;
  names = c.owner_seen-2.ensures i.lines c.args.peer c.args.ours i.seen;
}

use Rattle.std.proofs.Common.{◌≡◌, ◌∷◌, ◌++◌, [], List, ℕ, arith, refl, sym, ap, ◌∙◌, subst}
use Rattle.std.specs.Prelude.{map, decimal}
use Rattle.socket_calls.specs.SocketCall.SocketCall.{BeginsTable, EndsTable}
use Rattle.saned_cli.specs.TableReadings.{lines_told, own_end_text}
use Rattle.saned_cli.specs.TableReadings.IsWholeReading.{HasNoTable, ReadsMost, ReadsToEnd}
use Rattle.saned_cli.specs.Inside.{marked, marked_by_line}
use Rattle.saned_cli.proofs.TableLaws.{begun, one_longer, told_end, told_line, without_table}
use Rattle.saned_cli.proofs.MarkLaws.{marked_next, unmarked}
use Rattle.saned_cli.proofs.table_reading.mark_those_of.Goals as goal

pub returns-then-not-begin_table : goal.returns-then-not-begin_table
returns-then-not-begin_table g c = record {
  since = _;
  grew = without_table c.begin_table.result _ _ c.begin_table.ensures c.if-not-begin_table.true;
  lines = [];
  whole = HasNoTable refl refl;
  marks = unmarked c.args.port c.args.user c.args.newcomers.now;
}

pub loop-i-init : goal.loop-i-init
loop-i-init g c = record {
  lines = [];
  grew = begun c.begin_table.result _ _ c.begin_table.ensures c.if-not-begin_table.false;
  count = refl;
  marks = unmarked c.args.port c.args.user c.args.newcomers.now;
}

pub loop-i-preserved : goal.loop-i-preserved
loop-i-preserved g c = let i = c.loop-i.invariant in record {
  lines = i.lines ++ c.next_line.new.line.items ∷ [];
  grew = told_line i.lines _ _ _ _ _ i.grew c.next_line.ensures c.if-not-next_line.false;
  count = one_longer i.lines _ _ i.count;
  marks =
      marked_next c.args.port c.args.user i.lines c.next_line.new.line.items _ _ _ _ _ _ c.own_text-ours.ensures (c.as_bytes-user.ensures.value ∙ c.format.ensures.text) c.as_slice.ensures.value i.marks
      c.mark_by_line.ensures;
}

pub returns-then-not-next_line : goal.returns-then-not-next_line
returns-then-not-next_line g c = let i = c.loop-i.invariant in record {
  since = EndsTable ∷ lines_told i.lines;
  grew = told_end i.lines _ _ _ _ _ i.grew c.next_line.ensures c.if-not-next_line.true;
  lines = i.lines;
  whole = ReadsToEnd (omega (arith, i.count)) refl;
  marks = i.marks;
}

pub returns : goal.returns
returns g c = let i = c.loop-i.invariant in record {
  since = lines_told i.lines;
  grew = i.grew;
  lines = i.lines;
  whole = ReadsMost (omega (arith, i.count)) refl;
  marks = i.marks;
}

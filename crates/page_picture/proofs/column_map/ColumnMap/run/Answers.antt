use Rattle.std.proofs.Common.{◌+◌, sym, ap, ◌∙◌, rules}
use Rattle.page_picture.specs.Columns.{Columns}
use Rattle.page_picture.proofs.RunLemmas.{place_in_run}
use Rattle.page_picture.proofs.column_map.ColumnMap.run.Goals as goal

pub returns-then-end-from-clause-each : goal.returns-then-end-from-clause-each
returns-then-end-from-clause-each c = λ x h.
    place_in_run c.args.self.now (record { same = search rules; some = search rules; inside = search rules }) x h ∙ ap (λ (columns : Columns). columns.left + x) (sym c.self.view_is)

use Rattle.std.proofs.Common.{◌≡◌, ◌≤◌, ◌++◌, ◌+◌, ◌-◌, ◌*◌, rules, arith, refl, sym, ap, ◌∙◌, subst, drop, take, length, length-take-le, take-append-drop}
use Rattle.page_sources.specs.Inside.{file_row_size, unused_bytes}
use Rattle.page_sources.proofs.RowLemmas.{has_rows}
use Rattle.page_sources.proofs.ShownLemmas.{put_back, rest_after_row, shown_row}
use Rattle.page_sources.proofs.pnm_page.PnmPagePageSource.next_row.Goals as goal

pub returns-in-Ok-clause-row : goal.returns-in-Ok-clause-row
returns-in-Ok-clause-row g c =
    let inside = c.self.inside in
    let before = c.self.invariant in
    let n = file_row_size inside.header in
    let raster = drop inside.start (g.R.Rereadable.text inside.reader) in
    let left = unused_bytes n inside.held c.deref_mut.result.now (g.R.Rereadable.left inside.reader) in
    let whole : c.deref_mut.result.now ≡ inside.bytes.items = search rules in
    rw (← c.self.view_is) record {
      more = omega arith;
      after = search rules;
      is_row = λ kept.
          let is : left ≡ drop (inside.given * n) raster = ap (λ room. unused_bytes n inside.held room (g.R.Rereadable.left inside.reader)) whole ∙ before.5 kept (search rules) in
          let gives = c.in-Ok.ensures.read kept in
          shown_row inside.header inside.dpi inside.given raster (take n left) (drop n left) c.read_row.new.row
          before.0 (omega arith) (sym is ∙ sym (take-append-drop n left)) (length-take-le n left gives.size) gives.shows;
    }

pub invariant_of-self : goal.invariant_of-self
invariant_of-self g c =
    let inside = c.self.inside in
    let before = c.self.invariant in
    let n = file_row_size inside.header in
    let raster = drop inside.start (g.R.Rereadable.text inside.reader) in
    let left = unused_bytes n inside.held c.deref_mut.result.now (g.R.Rereadable.left inside.reader) in
    let whole : c.deref_mut.result.now ≡ inside.bytes.items = search rules in
    let bytes = c.read_row.new.bytes in
    let held = c.read_row.new.held in
    let same : length bytes ≡ length inside.bytes.items = search rules in
    let back : take inside.bytes.len (bytes ++ drop (length bytes) inside.bytes.items) ≡ bytes = put_back inside.bytes.len inside.bytes.items bytes (search rules) same in
    let next = c.in-Ok.ensures.next in
    let room = before.3 in (
      before.0,
      before.1,
      omega arith,
      subst (λ items. n ≤ length items) (sym back) (omega arith),
      subst (λ items. held * n ≤ length items) (sym back) c.in-Ok.ensures.within,
      λ kept found.
          let was = sym c.in-Ok.ensures.kept ∙ kept in
          let is : left ≡ drop (inside.given * n) raster = ap (λ room. unused_bytes n inside.held room (g.R.Rereadable.left inside.reader)) whole ∙ before.5 was (search rules) in
          let gives = c.in-Ok.ensures.read was in
          ap (λ items. unused_bytes n held items (g.R.Rereadable.left c.read_row.new.reader)) back ∙ gives.after_is
          ∙ rest_after_row inside.given n raster (take n left) (drop n left) (sym is ∙ sym (take-append-drop n left)) (length-take-le n left gives.size)
          ∙ ap (λ text. drop ((inside.given + 1) * n) (drop inside.start text)) (sym c.in-Ok.ensures.text),
      λ kept. rw c.in-Ok.ensures.text (before.6 (sym c.in-Ok.ensures.kept ∙ kept)),
    )

pub returns-in-Err-clause-failed : goal.returns-in-Err-clause-failed
returns-in-Err-clause-failed g c =
    let inside = c.self.inside in
    let before = c.self.invariant in
    let n = file_row_size inside.header in
    let raster = drop inside.start (g.R.Rereadable.text inside.reader) in
    let left = unused_bytes n inside.held c.deref_mut.result.now (g.R.Rereadable.left inside.reader) in
    let whole : c.deref_mut.result.now ≡ inside.bytes.items = search rules in
    rw (← c.self.view_is) (λ kept found.
    let is : left ≡ drop (inside.given * n) raster = ap (λ room. unused_bytes n inside.held room (g.R.Rereadable.left inside.reader)) whole ∙ before.5 kept (found) in
    let rows = has_rows inside.header raster left inside.given (inside.header.height - inside.given) before.0 (before.6 kept) (omega arith) refl is in
    rw c.fail-in-Err.ensures.faults (c.in-Err.ensures.failed kept rows))

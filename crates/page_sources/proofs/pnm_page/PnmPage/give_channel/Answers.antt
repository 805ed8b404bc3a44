use Rattle.std.proofs.Common.{◌≡◌, ◌-◌, ◌*◌, rules, arith, refl, sym, ap, ◌∙◌, drop, take, length-take-le, take-append-drop}
use Rattle.page_sources.specs.Inside.{file_row_size, unused_bytes}
use Rattle.page_sources.proofs.RowLemmas.{has_rows}
use Rattle.page_sources.proofs.ShownLemmas.{shown_thirds}
use Rattle.page_sources.proofs.pnm_page.PnmPage.give_channel.Goals as goal

pub returns-in-Ok-clause-bytes : goal.returns-in-Ok-clause-bytes
returns-in-Ok-clause-bytes g c =
    let inside = c.self.inside in
    let before = c.self.invariant in
    let n = file_row_size inside.header in
    let raster = drop inside.start (g.R.Rereadable.text inside.reader) in
    let left = unused_bytes n inside.held c.deref_mut.result.now (g.R.Rereadable.left inside.reader) in
    let whole : c.deref_mut.result.now ≡ inside.bytes.items = search rules in
    rw (← c.self.view_is) record {
      more = omega arith;
      after = search rules;
      shows = λ kept j.
          let is : left ≡ drop (inside.given * n) raster = ap (λ room. unused_bytes n inside.held room (g.R.Rereadable.left inside.reader)) whole ∙ before.5 kept (search rules) in
          let gives = c.in-Ok.ensures.read kept in
          shown_thirds inside.header inside.dpi inside.given c.args.which c.args.channel c.args.first raster (take n left) (drop n left) c.read_row_thirds.new.part
          before.0 (omega arith) (sym is ∙ sym (take-append-drop n left)) (length-take-le n left gives.size) (c.if-not-has_channels.ensures.own refl) (search rules) (search rules) (search rules) (search rules) gives.part_is j;
    }

pub returns-in-Err-clause-failed : goal.returns-in-Err-clause-failed
returns-in-Err-clause-failed g c =
    let inside = c.self.inside in
    let before = c.self.invariant in
    let n = file_row_size inside.header in
    let raster = drop inside.start (g.R.Rereadable.text inside.reader) in
    let left = unused_bytes n inside.held c.deref_mut.result.now (g.R.Rereadable.left inside.reader) in
    let whole : c.deref_mut.result.now ≡ inside.bytes.items = search rules in
    rw (← c.self.view_is) (λ kept found.
    let is : left ≡ drop (inside.given * n) raster = ap (λ room. unused_bytes n inside.held room (g.R.Rereadable.left inside.reader)) whole ∙ before.5 kept (found) in
    let rows = has_rows inside.header raster left inside.given (inside.header.height - inside.given) before.0 (before.6 kept) (omega arith) refl is in
    rw c.fail-in-Err.ensures.faults (c.in-Err.ensures.failed kept rows))

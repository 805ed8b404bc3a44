use Rattle.std.proofs.Common.{◌≡◌, ◌∙◌, ap, refl, sym, subst, None, ℕ}
use Rattle.std.specs.Prelude.{Option, option_map}
use Rattle.device_api.specs.State.{DeviceState}
use Rattle.scan_job.specs.Shelves.{Stock}
use Rattle.local_job.specs.Inside.{FilesPage, LeavesPage}
use Rattle.local_job.proofs.ShelfFiles.{asked_none, given_none, page_filed, page_left}
use Rattle.local_job.proofs.pages.scan_page.Goals as goal

pub returns-in-Ok-clause-done : goal.returns-in-Ok-clause-done
returns-in-Ok-clause-done g c =
    let old : DeviceState = (goal.Device-dyn g c.args.device.now).state c.args.device.now.1 in
    let before : Option Stock = g.S.Shelf.stock c.args.shelf.now in
    let same = c.scan_passes-scanned.ensures.becomes (record { shelf = record c.args.shelf { ghost_name = c.page-1.given }; number = c.args.number; out = None }) (refl, refl, λ none. asked_none before c.args.number) in
    let filed : FilesPage old c.args.number c.give_back-is_shelved.result before (g.S.Shelf.stock c.give_back-is_shelved.new.shelf) =
    subst (λ (n : ℕ). FilesPage old n c.give_back-is_shelved.result before (g.S.Shelf.stock c.give_back-is_shelved.new.shelf)) same.1
    (page_filed old _ _ before _ _ _ (same.2 refl) c.give_back-is_shelved.ensures.back c.in-Ok.ensures.done) in
    subst (λ (x : g.row.S.Denot). FilesPage old c.args.number c.give_back-is_shelved.result before (g.S.Shelf.stock x)) (sym (c.shelf-1.given.1 (sym same.0))) filed

pub returns-clause-short : goal.returns-clause-short
returns-clause-short g c =
    let before : Option Stock = g.S.Shelf.stock c.args.shelf.now in
    let same = c.scan_passes-scanned.ensures.becomes (record { shelf = record c.args.shelf { ghost_name = c.page-1.given }; number = c.args.number; out = None }) (refl, refl, λ none. asked_none before c.args.number) in
    let left : LeavesPage c.args.number before (g.S.Shelf.stock c.give_back-is_shelved.new.shelf) =
    subst (λ (n : ℕ). LeavesPage n before (g.S.Shelf.stock c.give_back-is_shelved.new.shelf)) same.1
    (page_left _ _ before _ _ _ (same.2 refl) c.give_back-is_shelved.ensures.back c.in-Err.ensures.short) in
    subst (λ (x : g.row.S.Denot). LeavesPage c.args.number before (g.S.Shelf.stock x)) (sym (c.shelf-1.given.1 (sym same.0))) left

pub returns-clause-silent : goal.returns-clause-silent
returns-clause-silent g c = λ none.
    let before : Option Stock = g.S.Shelf.stock c.args.shelf.now in
    let is = c.in-Err.ensures.silent none in
    let same = c.scan_passes-scanned.ensures.becomes (record { shelf = record c.args.shelf { ghost_name = c.page-1.given }; number = c.args.number; out = None }) (refl, refl, λ none. asked_none before c.args.number) in
    let back : g.S.Shelf.stock c.give_back-is_shelved.new.shelf ≡ before = given_none _ _ _ _ (ap (λ (p : _). option_map g.S.Out.Write.contents p.out) is) c.give_back-is_shelved.ensures.back ∙ ap (λ (p : _). g.S.Shelf.stock p.shelf.now) is in
    ap g.S.Shelf.stock (c.shelf-1.given.1 (sym same.0)) ∙ back

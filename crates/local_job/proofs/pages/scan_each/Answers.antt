use Rattle.std.proofs.Common.{◌≡◌, ◌∙◌, ◌<◌, ◌≤◌, rules, arith, refl, sym, subst, inr, ◌+◌, ℕ, Bool, true, false, Ok, length}
use Rattle.std.specs.Prelude.{Option}
use Rattle.std.proofs.lemmas.Bool.{false≢true}
use Rattle.device_api.specs.State.{DeviceState}
use Rattle.scan_job.specs.Shelves.{Stock}
use Rattle.local_job.specs.Inside.{FilesPage}
use Rattle.local_job.proofs.Batches.{HasRun, all_scanned, last_refused, no_memory_first, none_run, if_ok_has, ok_has, one_run, out_of_pages, page_ended, rests_run}
use Rattle.local_job.proofs.pages.scan_each.Goals.{then-behind-gt0+else-is_no_page, else-behind-gt0}
use Rattle.local_job.proofs.pages.scan_each.Goals as goal

pub scan_page-requires-clause-rest : goal.scan_page-requires-clause-rest
scan_page-requires-clause-rest g c =
    let old : DeviceState = (goal.Device-dyn g c.args.device.now).state c.args.device.now.1 in
    let now : DeviceState = (goal.Device-dyn g c.loop-behind.device.now).state c.loop-behind.device.now.1 in
    rests_run old now _ _ _ c.requires.rest c.loop-behind.invariant.run

pub returns-in-Ok-false-clause-stop : goal.returns-in-Ok-false-clause-stop
returns-in-Ok-false-clause-stop g c =
    let old : DeviceState = (goal.Device-dyn g c.args.device.now).state c.args.device.now.1 in
    let now : DeviceState = (goal.Device-dyn g c.loop-behind.device.now).state c.loop-behind.device.now.1 in
    let new : DeviceState = (goal.Device-dyn g c.loop-behind.device.now).state c.scan_page.new.device in
    let is : c.scan_page.result ≡ Ok false = search (rules, c.in-Ok-false.is) in
    last_refused old now new c.loop-behind.behind c.args.count _ _ _ _ c.loop-behind.invariant.run (if_ok_has c.scan_page.result _ (λ (kept : Bool). FilesPage now (c.loop-behind.behind + 1) kept (g.S.Shelf.stock c.loop-behind.shelf) (g.S.Shelf.stock c.scan_page.new.shelf)) is c.scan_page.ensures.done) (ok_has c.scan_page.result _ _ is c.scan_page.ensures.rest) (omega arith) c.failed_output.ensures

pub returns-in-Err-clause-done : goal.returns-in-Err-clause-done
returns-in-Err-clause-done g c =
    let old : DeviceState = (goal.Device-dyn g c.args.device.now).state c.args.device.now.1 in
    let now : DeviceState = (goal.Device-dyn g c.loop-behind.device.now).state c.loop-behind.device.now.1 in
    let new : DeviceState = (goal.Device-dyn g c.loop-behind.device.now).state c.scan_page.new.device in
    out_of_pages old now new c.loop-behind.behind c.args.count _ _ _ c.in-Err.stop c.loop-behind.invariant.run (omega arith) (omega arith) (c.is_no_page.ensures.0 c.if-is_no_page.true) c.in-Err.ensures.stays c.in-Err.ensures.silent c.in-Err.ensures.none c.in-Err.ensures.cause

pub returns-in-Err-2-clause-stop : goal.returns-in-Err-2-clause-stop
returns-in-Err-2-clause-stop g c =
    let old : DeviceState = (goal.Device-dyn g c.args.device.now).state c.args.device.now.1 in
    let now : DeviceState = (goal.Device-dyn g c.loop-behind.device.now).state c.loop-behind.device.now.1 in
    let new : DeviceState = (goal.Device-dyn g c.loop-behind.device.now).state c.scan_page.new.device in
    page_ended old now new c.loop-behind.behind c.args.count _ _ _ c.in-Err.stop c.loop-behind.invariant.run (omega arith) c.in-Err.ensures.short (record {
      no_page = λ none. (
        elim c.if-behind-gt0.branch [
          | then-behind-gt0+else-is_no_page w ↦ absurd (false≢true (sym w.if-is_no_page.false ∙ w.is_no_page.ensures.1 (c.in-Err.ensures.empty none)))
          | else-behind-gt0 w ↦ (omega arith)
        ],
        inr (c.in-Err.ensures.empty none),
      );
      no_picture = λ some none. inr (c.in-Err.ensures.none some none);
      cause = c.in-Err.ensures.cause;
      same = c.in-Err.ensures.same;
    })

pub loop-behind-preserved : goal.loop-behind-preserved
loop-behind-preserved g c =
    let old : DeviceState = (goal.Device-dyn g c.args.device.now).state c.args.device.now.1 in
    let now : DeviceState = (goal.Device-dyn g c.loop-behind.device.now).state c.loop-behind.device.now.1 in
    let new : DeviceState = (goal.Device-dyn g c.loop-behind.device.now).state c.scan_page.new.device in
    let is : c.scan_page.result ≡ Ok true = search (rules, c.in-Ok-true.is) in
    record {
      piece = search rules;
      room = search rules;
      run = one_run old now new c.loop-behind.behind _ _ _ c.loop-behind.invariant.run (if_ok_has c.scan_page.result _ (λ (kept : Bool). FilesPage now (c.loop-behind.behind + 1) kept (g.S.Shelf.stock c.loop-behind.shelf) (g.S.Shelf.stock c.scan_page.new.shelf)) is c.scan_page.ensures.done) (ok_has c.scan_page.result _ _ is c.scan_page.ensures.rest) (ok_has c.scan_page.result _ _ is c.scan_page.ensures.untold);
    }

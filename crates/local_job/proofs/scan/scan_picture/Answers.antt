use Rattle.std.proofs.Common.{◌≡◌, inr, refl, sym, subst, [], List, ℕ}
use Rattle.std.specs.Prelude.{Option, OnOk, OnErr}
use Rattle.std.specs.Io.KnownBytes.{Appends}
use Rattle.device_api.specs.State.{DeviceState}
use Rattle.scan_job.specs.FileOutputs.{StopsShort}
use Rattle.local_job.specs.FrameReading.{IsScanned}
use Rattle.local_job.proofs.Pictures.{if_err_map}
use Rattle.local_job.proofs.scan.scan_picture.Goals as goal

pub returns-clause-none : goal.returns-clause-none
returns-clause-none g c = if_err_map c.scan_passes-scanned.result (λ stop none some there. inr (none some there)) c.scan_passes-scanned.ensures.none

pub returns-clause-empty : goal.returns-clause-empty
returns-clause-empty g c = if_err_map c.scan_passes-scanned.result (λ stop empty none. inr (empty none)) c.scan_passes-scanned.ensures.empty

pub returns-clause-done : goal.returns-clause-done
returns-clause-done g c =
    let old : DeviceState = (goal.Device-dyn g c.args.device.now).state c.args.device.now.1 in
    let before : Option (List ℕ) = g.W.Write.contents c.args.out.now in
    let same = c.scan_passes-scanned.ensures.becomes (record { out = record c.args.out { ghost_name = c.plain-1.given } }) refl in
    let is = c.out-1.given.1 (sym same) in
    subst (λ (x : g.row.W.Denot). OnOk c.scan_passes-scanned.result ((first : Option (List ℕ)) → Appends first before [] → IsScanned old first (g.W.Write.contents x))) (sym is) c.scan_passes-scanned.ensures.done

pub returns-clause-short : goal.returns-clause-short
returns-clause-short g c =
    let before : Option (List ℕ) = g.W.Write.contents c.args.out.now in
    let same = c.scan_passes-scanned.ensures.becomes (record { out = record c.args.out { ghost_name = c.plain-1.given } }) refl in
    let is = c.out-1.given.1 (sym same) in
    subst (λ (x : g.row.W.Denot). OnErr c.scan_passes-scanned.result ((first : Option (List ℕ)) → Appends first before [] → StopsShort first (g.W.Write.contents x))) (sym is) c.scan_passes-scanned.ensures.short

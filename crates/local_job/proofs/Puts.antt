-- Settings put one after another.
use Rattle.std.proofs.Common.{◌≡◌, ℕ, ◌+◌, ◌<◌, List, [], ◌∷◌, ◌++◌, Result, Ok, Err, drop, length, get_or, refl, sym, ap, ◌∙◌, ◌⊎◌, inl, inr}
use Rattle.std.proofs.Common.{suc, add-one}
use Rattle.std.proofs.Math.Seq.{drop-cons}
use Rattle.std.proofs.lemmas.List.{append-nil, append_assoc}
use Rattle.device_api.specs.State.{DeviceState, with_setup}
use Rattle.scan_frames.specs.declared.setup.Setup.{Setup}
use Rattle.std.proofs.Common.{Option, Some, None}
use Rattle.sane_fixed.specs.declared.status.Status.{Status}
use Rattle.sane_fixed.specs.declared.status.Status.TheVariants.{Inval, Good, Eof}
use Rattle.option_desc.specs.declared.value.Value.{Value}
use Rattle.option_desc.specs.Put.{resolve}
use Rattle.device_api.specs.declared.scan_option.ScanOption.{ScanOption}
use Rattle.device_api.specs.Options.{descriptor_of}
use Rattle.device_api.specs.Values.{put_answer, set_to, option_set, option_to_set}
use Rattle.scan_job.specs.declared.report.Report.{Report}
use Rattle.scan_job.specs.declared.stop.Stop.{Stop}
use Rattle.std.proofs.Common.{subst}
use Rattle.local_job.specs.FrameReading.{IsRefusal}
use Rattle.local_job.specs.LocalStops.{stop_by_status}
use Rattle.scan_job.specs.Stops.{no_memory}
use Rattle.local_job.specs.Inside.{put_one, put_all, with_first, with_done}

with_one : (done : List Report) (report : Report) (more : Result (Setup × List Report) Stop) → with_done done (with_first report more) ≡ with_done (done ++ report ∷ []) more
with_one done report (Ok more) = ap (λ (all : List Report). Ok (more.0, all)) (sym (append_assoc done (report ∷ []) more.1))
with_one done report (Err stop) = refl

pub put_more : (done : List Report) (s next : Setup) (left rest : List (List ℕ × List ℕ)) (setting : List ℕ × List ℕ) (report : Report) (whole : Result (Setup × List Report) Stop)
    → left ≡ setting ∷ rest → put_one s setting ≡ Ok (next, report) → with_done done (put_all s left) ≡ whole → with_done (done ++ report ∷ []) (put_all next rest) ≡ whole
unfolding put_all
put_more done s next left rest setting report whole cut puts before =
    let step : put_all s left ≡ with_first report (put_all next rest) = rw (cut, puts) refl in
    sym (with_one done report (put_all next rest)) ∙ ap (with_done done) (sym step) ∙ before

put_fails : (done : List Report) (s : Setup) (left rest : List (List ℕ × List ℕ)) (setting : List ℕ × List ℕ) (stop : Stop) (whole : Result (Setup × List Report) Stop)
    → left ≡ setting ∷ rest → put_one s setting ≡ Err stop → with_done done (put_all s left) ≡ whole → whole ≡ Err stop
unfolding put_all
put_fails done s left rest setting stop whole cut fails before =
    let step : put_all s left ≡ Err stop = rw (cut, fails) refl in
    sym before ∙ ap (with_done done) step

pub put_ends : (done : List Report) (s : Setup) (left : List (List ℕ × List ℕ)) (whole : Result (Setup × List Report) Stop) → left ≡ [] → with_done done (put_all s left) ≡ whole → whole ≡ Ok (s, done)
unfolding put_all
put_ends done s left whole none before =
    let step : put_all s left ≡ Ok (s, []) = rw none refl in
    sym before ∙ ap (with_done done) step ∙ ap (λ (all : List Report). Ok (s, all)) (append-nil done)

-- only the setup changes, again and again
pub setups : (first now next : DeviceState) → now ≡ with_setup first now.setup → next ≡ with_setup now next.setup → next ≡ with_setup first next.setup
setups first now next a b = b ∙ ap (λ (s : DeviceState). with_setup s next.setup) a

pub cut_at : {X : Type 0} (xs : List X) (i : ℕ) (x : X) → i < length xs → x ≡ get_or xs i x → drop i xs ≡ x ∷ drop (i + 1) xs
cut_at xs i x h e = rw add-one (drop-cons xs i x h ∙ ap (λ y. y ∷ drop (suc i) xs) (sym e))

pub put_stops : (done : List Report) (s : Setup) (left rest : List (List ℕ × List ℕ)) (setting : List ℕ × List ℕ) (stop : Stop) (whole : Result (Setup × List Report) Stop)
    → left ≡ setting ∷ rest → (stop ≡ no_memory) ⊎ (put_one s setting ≡ Err stop) → with_done done (put_all s left) ≡ whole → (stop ≡ no_memory) ⊎ (whole ≡ Err stop)
put_stops done s left rest setting stop whole cut (inl memory) before = inl memory
put_stops done s left rest setting stop whole cut (inr fails) before = inr (put_fails done s left rest setting stop whole cut fails before)

-- what a set refuses is INVAL
given_refused : (s : Setup) (o : ScanOption) (asked : Value) (given : Option Value) (status : Status) → put_answer s o asked given ≡ Err status → status ≡ Inval
given_refused s o asked None status e = cc
given_refused s o asked (Some v) status e = absurd (cc)

option_refused : (s : Setup) (o : Option ScanOption) (asked : Value) (status : Status) → set_to s o asked ≡ Err status → status ≡ Inval
option_refused s None asked status e = cc
option_refused s (Some o) asked status e = given_refused s o asked (resolve (descriptor_of s o) asked) status e

set_refused : (s : Setup) (n : ℕ) (asked : Value) (status : Status) → option_set s n asked ≡ Err status → status ≡ Inval
unfolding option_set
set_refused s n asked status e = option_refused s (option_to_set s n) asked status e

memory_refuses : IsRefusal no_memory
memory_refuses = record { not_good = λ e. absurd (cc); not_eof = λ e. absurd (cc) }

inval_refuses : (status : Status) → status ≡ Inval → IsRefusal (stop_by_status status)
inval_refuses status e = record { not_good = λ g. (let clash : Inval ≡ Good = sym e ∙ g in absurd (cc)); not_eof = λ g. (let clash : Inval ≡ Eof = sym e ∙ g in absurd (cc)) }

pub set_refuses : (s : Setup) (n : ℕ) (asked : Value) (stop : Stop) → (stop ≡ no_memory) ⊎ ((status : Status) × (option_set s n asked ≡ Err status) × (stop ≡ stop_by_status status)) → IsRefusal stop
set_refuses s n asked stop (inl memory) = subst IsRefusal (sym memory) memory_refuses
set_refuses s n asked stop (inr refused) = subst IsRefusal (sym refused.2) (inval_refuses refused.0 (set_refused s n asked refused.0 refused.1))

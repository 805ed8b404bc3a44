-- What a scanner, a join or a setting answers is never told as an output that failed.
use Rattle.std.proofs.Common.{◌≡◌, ◌⊎◌, ℕ, Option, Some, None, Result, Ok, Err, List, [], ◌∷◌, inl, inr, sym, subst}
use Rattle.std.specs.Prelude.{◌≢◌}
use Rattle.sane_fixed.specs.declared.info.Info.{Info}
use Rattle.sane_fixed.specs.declared.status.Status.{Status}
use Rattle.sane_fixed.specs.declared.status.Status.TheVariants.{NoMem}
use Rattle.frame_join.specs.declared.join_stage.JoinFault.{JoinFault}
use Rattle.frame_join.specs.declared.join_stage.JoinFault.TheVariants as faults
use Rattle.option_desc.specs.declared.value.Value.{Value}
use Rattle.scan_frames.specs.declared.setup.Setup.{Setup}
use Rattle.device_api.specs.InForce.{number_named}
use Rattle.device_api.specs.Options.{descriptors_of}
use Rattle.device_api.specs.Values.{option_set}
use Rattle.scan_job.specs.declared.outcome.Why.TheVariants as whys
use Rattle.scan_job.specs.declared.report.Report.{Report}
use Rattle.scan_job.specs.declared.stop.Stop.{Stop}
use Rattle.scan_job.specs.Stops.{no_memory}
use Rattle.local_job.specs.Putting.{value_of_setting}
use Rattle.local_job.specs.Inside.{put_all, put_answered, put_found, put_one, put_read, stop_of_join, then_more, with_first}
use Rattle.local_job.specs.LocalStops.{bad_setting, stop_by_status}

pub join_spares : (fault : JoinFault) → (stop_of_join fault).why ≢ whys.Sink
join_spares faults.Shape e = absurd (let clash : whys.Malformed ≡ whys.Sink = e in cc)
join_spares faults.Long e = absurd (let clash : whys.Long ≡ whys.Sink = e in cc)
join_spares faults.Short e = absurd (let clash : whys.Short ≡ whys.Sink = e in cc)
join_spares faults.NoMem e = absurd (let clash : whys.Memory ≡ whys.Sink = e in cc)

pub status_spares : (status : Status) → (stop_by_status status).why ≢ whys.Sink
status_spares NoMem e = absurd (let clash : whys.Memory ≡ whys.Sink = e in cc)
status_spares status e = absurd (let clash : whys.Answer ≡ whys.Sink = e in cc)

-- ---- settings

abbrev Spares : {A : Type 0} → Result A Stop → Type 0
Spares (Ok put) = Unit {0}
Spares (Err stop) = stop.why ≢ whys.Sink

setting_spares : bad_setting.why ≢ whys.Sink
setting_spares e = absurd (let clash : whys.Setting ≡ whys.Sink = e in cc)

memory_spares : no_memory.why ≢ whys.Sink
memory_spares e = absurd (let clash : whys.Memory ≡ whys.Sink = e in cc)

answered_spares : (s : Setup) (name : List ℕ) (n : ℕ) (asked : Value) (set : Result (Value × Info) Status) → Spares (put_answered s name n asked set)
answered_spares s name n asked (Ok got) = tt
answered_spares s name n asked (Err status) = status_spares status

read_spares : (s : Setup) (name : List ℕ) (n : ℕ) (asked : Option Value) → Spares (put_read s name n asked)
read_spares s name n None = setting_spares
read_spares s name n (Some asked) = answered_spares s name n asked (option_set s n asked)

found_spares : (s : Setup) (setting : List ℕ × List ℕ) (place : Option ℕ) → Spares (put_found s setting place)
found_spares s setting None = setting_spares
found_spares s setting (Some n) = read_spares s setting.0 n (value_of_setting s n setting.1)

one_spares : (s : Setup) (setting : List ℕ × List ℕ) → Spares (put_one s setting)
unfolding put_one
one_spares s setting = found_spares s setting (number_named setting.0 (descriptors_of s))

first_spares : (report : Report) (more : Result (Setup × List Report) Stop) → Spares more → Spares (with_first report more)
first_spares report (Ok put) spares = tt
first_spares report (Err stop) spares = spares

then_spares : (first : Result (Setup × Report) Stop) (more : Setup → Result (Setup × List Report) Stop) → Spares first → ((s : Setup) → Spares (more s)) → Spares (then_more first more)
then_spares (Ok first) more spares all = first_spares first.1 (more first.0) (all first.0)
then_spares (Err stop) more spares all = spares

all_spares : (s : Setup) (settings : List (List ℕ × List ℕ)) → Spares (put_all s settings)
unfolding put_all
all_spares s [] = tt
all_spares s (setting ∷ settings) = then_spares (put_one s setting) (λ next. put_all next settings) (one_spares s setting) (λ next. all_spares next settings)

pub put_spares : (s : Setup) (settings : List (List ℕ × List ℕ)) (stop : Stop) → (stop ≡ no_memory) ⊎ (put_all s settings ≡ Err stop) → stop.why ≢ whys.Sink
put_spares s settings stop (inl is) = subst (λ (x : Stop). x.why ≢ whys.Sink) (sym is) memory_spares
put_spares s settings stop (inr is) = subst (λ (r : Result (Setup × List Report) Stop). Spares r) is (all_spares s settings)

-- The value that is read of an option which tells one.
use Rattle.std.proofs.Common.{◌≡◌, ◌+◌, ◌&&◌, ◌∙◌, sym, ap, refl, subst, ℕ, Bool, true, false, not, List, [], ◌∷◌, ◌++◌, map, add-one}
use Rattle.std.specs.List.{enumerate_from}
use Rattle.std.proofs.lemmas.List.{append-nil, append_assoc}
use Rattle.std.specs.Io.KnownBytes.{Appends}
use Rattle.device_api.specs.State.{DeviceState}
use Rattle.scan_job.specs.declared.job.Task.{Task}
use Rattle.scan_job.specs.declared.job.Task.TheVariants.{List as ListTask, Show, SetOnly, Scan, Batch}
use Rattle.local_job.specs.FrameReading.{IsScanned}
use Rattle.local_job.specs.LocalRun.{Writes}
use Rattle.local_job.specs.Showing.{value_reported, options_with_values}
use Rattle.option_desc.specs.declared.value.Value.{Value}
use Rattle.std.specs.Prelude.{◌≢◌, Option, Some, None, Result, Ok, Err, if◌then◌else◌, slice_get, option_map}
use Rattle.std.proofs.lemmas.Option.{slice_get-map}
use Rattle.sane_fixed.specs.declared.status.Status.{Status}
use Rattle.sane_fixed.specs.declared.status.Status.TheVariants.{NoMem}
use Rattle.local_job.specs.LocalStops.{stop_by_status}
use Rattle.scan_job.specs.Stops.{no_memory}
use Rattle.option_desc.specs.declared.descriptor.Descriptor.{Descriptor}
use Rattle.scan_frames.specs.declared.setup.Setup.{Setup}
use Rattle.device_api.specs.declared.scan_option.ScanOption.{ScanOption}
use Rattle.device_api.proofs.OptionForms.{active_is, active_is_read}
use Rattle.device_api.specs.Options.{options_of, option_at, option_caps, is_active, descriptor_of, descriptors_of}
use Rattle.sane_fixed.specs.Cap.{has_cap}
use Rattle.device_api.specs.Values.{option_passing, option_got, get_result, option_value}
use Rattle.scan_job.specs.KnownValues.{tells_value}

first_of : (a b : Bool) → (a && b) ≡ true → a ≡ true
first_of true b e = refl
first_of false b e = e

may_tell : (s : Setup) (o : ScanOption) → tells_value (descriptor_of s o) ≡ true → (is_active s o && has_cap (option_caps o) 4) ≡ true
may_tell s o e = active_is_read s o (sym (active_is s o) ∙ first_of (not (has_cap (descriptor_of s o).caps.0 32)) _ e)

got_by : (s : Setup) (o : ScanOption) (b : Bool) → b ≡ true → get_result s (if b then Some o else None) ≡ Ok (option_value s o)
got_by s o true e = refl
got_by s o false e = absurd (let f : false ≡ true = e in (cc))

got_at : (s : Setup) (oo : Option ScanOption) (desc : Descriptor) (status : Status) → option_map (descriptor_of s) oo ≡ Some desc → tells_value desc ≡ true
    → get_result s (option_passing (λ o. is_active s o && has_cap (option_caps o) 4) oo) ≡ Err status → ⊥
got_at s None desc status at tells refused = let e : None ≡ Some desc = at in (cc)
got_at s (Some o) desc status at tells refused =
    let same : desc ≡ descriptor_of s o = (let e : Some (descriptor_of s o) ≡ Some desc = at in (cc)) in
    let right : Ok (option_value s o) ≡ Err status = sym (got_by s o _ (may_tell s o (ap tells_value (sym same) ∙ tells))) ∙ refused in
    (cc)

-- the option that tells a value is not refused
pub tells_it : (s : Setup) (n : ℕ) (desc : Descriptor) (status : Status) → slice_get (descriptors_of s) n ≡ Some desc → tells_value desc ≡ true → option_got s n ≡ Err status → ⊥
unfolding option_at option_got
tells_it s n desc status at tells refused =
    got_at s (option_at s.scene.kind n) desc status (sym (slice_get-map (descriptor_of s) (options_of s.scene.kind) n) ∙ at) tells refused

-- the options from that number on, as they are shown
abbrev pub shown_rest : Setup → ℕ → List Descriptor → List (Descriptor × Option Value)
shown_rest s n options = map (λ option. (option.1, value_reported s option.0 option.1)) (enumerate_from n options)

pub shows_first : (s : Setup) → [] ++ shown_rest s 0 (descriptors_of s) ≡ options_with_values s
unfolding options_with_values
shows_first s = refl

pub shows_more : (s : Setup) (done : List (Descriptor × Option Value)) (n : ℕ) (left rest : List Descriptor) (desc : Descriptor) (value : Option Value) (whole : List (Descriptor × Option Value))
    → left ≡ desc ∷ rest → value ≡ value_reported s n desc → done ++ shown_rest s n left ≡ whole → (done ++ (desc, value) ∷ []) ++ shown_rest s (n + 1) rest ≡ whole
shows_more s done n left rest desc value whole cut told before =
    let step : shown_rest s n left ≡ (desc, value) ∷ shown_rest s (n + 1) rest = rw (cut, told, add-one n) refl in
    append_assoc done ((desc, value) ∷ []) (shown_rest s (n + 1) rest) ∙ ap (λ (more : List (Descriptor × Option Value)). done ++ more) (sym step) ∙ before

pub shows_ends : (s : Setup) (done : List (Descriptor × Option Value)) (n : ℕ) (left : List Descriptor) (whole : List (Descriptor × Option Value))
    → left ≡ [] → done ++ shown_rest s n left ≡ whole → done ≡ whole
shows_ends s done n left whole none before = sym (append-nil done) ∙ ap (λ (more : List Descriptor). done ++ shown_rest s n more) (sym none) ∙ before

-- a refusal that is not that of the option is out of memory
pub refused_is : (status : Status) (answer get_result : Result Value Status) → answer ≡ Err status → (answer ≢ Err NoMem → answer ≡ get_result) → (get_result ≡ Err status → ⊥) → stop_by_status status ≡ no_memory
refused_is NoMem answer get_result is right never = refl
refused_is _ answer get_result is right never = absurd (never (sym (right (λ memory. (let e : Err _ ≡ Err NoMem = sym is ∙ memory in cc))) ∙ is))

-- what a task writes, by whether it is a scan
pub others_write : (task : Task) (s : DeviceState) (before after : Option (List ℕ)) → task ≢ Scan → after ≡ before → Writes task s before after
others_write ListTask s before after other same = same
others_write Show s before after other same = same
others_write SetOnly s before after other same = same
others_write (Batch count) s before after other same = same
others_write Scan s before after other same = absurd (other refl)

pub scan_writes : (task : Task) (s : DeviceState) (before after : Option (List ℕ)) → task ≡ Scan → ((first : Option (List ℕ)) → Appends first before [] → IsScanned s first after) → Writes task s before after
scan_writes task s before after is wrote = subst (λ (t : Task). Writes t s before after) (sym is) wrote

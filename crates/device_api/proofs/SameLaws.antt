-- No call changes what a scanner is.
use Rattle.std.proofs.Common.{◌≡◌, sym, subst, refl, ℕ, List, [], ◌∷◌, map}
use Rattle.std.specs.Prelude.{Option, Some, None, Result, Ok, Err, unsigned_abs}
use Rattle.sane_fixed.specs.declared.fixed.Fixed.{Fixed as Length}
use Rattle.sane_fixed.specs.declared.status.Status.{Status}
use Rattle.sane_fixed.specs.declared.status.Status.TheVariants.{Good, Unsupported, Cancelled, DeviceBusy, Inval, Eof, Jammed, NoDocs, CoverOpen, IoError, NoMem, AccessDenied}
use Rattle.option_desc.specs.declared.value.Value.{Value}
use Rattle.option_desc.specs.declared.value.Value.TheVariants.{Flag, Int, Fixed, Words, Text}
use Rattle.scan_frames.specs.declared.setup.Setup.{Setup}
use Rattle.device_api.specs.declared.choice.Choice.{Choice}
use Rattle.device_api.specs.declared.choice.Choice.TheVariants as choice
use Rattle.device_api.specs.declared.scan_option.ScanOption.{ScanOption}
use Rattle.device_api.specs.declared.scan_option.ScanOption.TheVariants.{Depth, Resolution, TlX, TlY, BrX, BrY, GammaTable, RedGammaTable, GreenGammaTable, BlueGammaTable, PplLoss, ReadLimitSize}
use Rattle.device_api.specs.Options.{choices_of}
use Rattle.device_api.specs.Values.{defaults, with_number, with_length, with_table, choice_of, with_chosen, with_value, with_given, option_to_set, setup_after}
use Rattle.device_api.specs.State.{DeviceState, HeldPage, Phase, HasStopped, Starts, StartsIn, StartsOn, StartsFrame, Reads, ReadsIn, ReadsOn, FrameReads, read_status_at, after_cancel, cancelled_in, after_pass, after_reset, after_set, after_read_status, goes_to, after_stop, stopped_in, with_failures}
use Rattle.device_api.specs.State.Phase.{AtRest, Between, Reading}
use Rattle.device_api.specs.Same.{IsSameKind, IsSameDevice}

same : (s : Setup) → IsSameKind s s
same s = record { kind = refl; order = refl }

number_same : (s : Setup) (o : ScanOption) (n : ℕ) → IsSameKind s (with_number s o n)
number_same s Depth n = record { kind = refl; order = refl }
number_same s Resolution n = record { kind = refl; order = refl }
number_same s PplLoss n = record { kind = refl; order = refl }
number_same s ReadLimitSize n = record { kind = refl; order = refl }
number_same s _ n = same s

length_same : (s : Setup) (o : ScanOption) (l : Length) → IsSameKind s (with_length s o l)
length_same s TlX l = record { kind = refl; order = refl }
length_same s TlY l = record { kind = refl; order = refl }
length_same s BrX l = record { kind = refl; order = refl }
length_same s BrY l = record { kind = refl; order = refl }
length_same s _ l = same s

table_same : (s : Setup) (o : ScanOption) (t : List ℕ) → IsSameKind s (with_table s o t)
table_same s GammaTable t = record { kind = refl; order = refl }
table_same s RedGammaTable t = record { kind = refl; order = refl }
table_same s GreenGammaTable t = record { kind = refl; order = refl }
table_same s BlueGammaTable t = record { kind = refl; order = refl }
table_same s _ t = same s

chosen_same : (s : Setup) (c : Option Choice) → IsSameKind s (with_chosen s c)
chosen_same s None = same s
chosen_same s (Some (choice.Mode m)) = record { kind = refl; order = refl }
chosen_same s (Some (choice.Passes p)) = record { kind = refl; order = refl }
chosen_same s (Some (choice.ReadStatus t)) = record { kind = refl; order = refl }

pub value_same : (s : Setup) (o : ScanOption) (v : Value) → IsSameKind s (with_value s o v)
unfolding with_value
value_same s o (Flag _) = same s
value_same s o (Int w) = number_same s o (unsigned_abs w)
value_same s o (Fixed l) = length_same s o l
value_same s o (Words ws) = table_same s o (map (λ word. unsigned_abs word) ws)
value_same s o (Text t) = chosen_same s (choice_of (choices_of o) t)

given_same : (s : Setup) (o : Option ScanOption) (v : Value) → IsSameKind s (with_given s o v)
given_same s None v = same s
given_same s (Some o) v = value_same s o v

pub set_same : (s : DeviceState) (n : ℕ) (given : Value) → IsSameDevice s (after_set s n given)
unfolding setup_after
set_same s n given = record { info = refl; setup = given_same s.setup (option_to_set s.setup n) given }

-- the pages and the phase may change
kept : (s : DeviceState) (pages : List HeldPage) (phase : Phase) → IsSameDevice s (record s { pages = pages; phase = phase })
kept s pages phase = record { info = refl; setup = record { kind = refl; order = refl } }

cancelled_same : (p : Phase) (s : DeviceState) → IsSameDevice s (cancelled_in p s)
cancelled_same (AtRest _) s = kept s s.pages s.phase
cancelled_same (Between _) s = kept s _ _
cancelled_same (Reading _ _) s = kept s _ _

pub cancel_same : (s : DeviceState) → IsSameDevice s (after_cancel s)
cancel_same s = cancelled_same s.phase s

pub reset_same : (s : DeviceState) → IsSameDevice s (after_reset s)
unfolding defaults
reset_same s = let d = cancel_same s in record { info = d.info; setup = record { kind = d.setup.kind; order = d.setup.order } }

stopped_same : (p : Phase) (s : DeviceState) → IsSameDevice s (stopped_in p s)
stopped_same (AtRest _) s = kept s _ _
stopped_same (Between _) s = kept s _ _
stopped_same (Reading _ _) s = kept s _ _

goes_same : (s : DeviceState) (p : Phase) → IsSameDevice s (goes_to s p)
goes_same s (AtRest _) = kept s _ _
goes_same s (Between _) = kept s _ _
goes_same s (Reading _ _) = kept s _ _

equal : (s t u : DeviceState) → t ≡ u → IsSameDevice s u → IsSameDevice s t
equal s t u e d = subst (λ (x : DeviceState). IsSameDevice s x) (sym e) d

unchanged : (s t : DeviceState) → t ≡ s → IsSameDevice s t
unchanged s t e = equal s t s e (kept s s.pages s.phase)

stops_same : (s t : DeviceState) → t ≡ after_stop s → IsSameDevice s t
stops_same s t e = equal s t (after_stop s) e (stopped_same s.phase s)

failed_same : (s t : DeviceState) → HasStopped s t → IsSameDevice s t
failed_same s t h =
    let d = stopped_same s.phase (with_failures s h.failures) in
    equal s t (after_stop (with_failures s h.failures)) h.after (record { info = d.info; setup = d.setup })

frame_same : (s t : DeviceState) (r : Result Unit Status) → StartsFrame s r t → IsSameDevice s t
frame_same s t (Ok _) h = equal s t _ h.1 (kept s _ _)
frame_same s t (Err Inval) h = stops_same s t h.1
frame_same s t (Err IoError) h = failed_same s t h.1
frame_same s t (Err NoMem) h = stops_same s t h.1
frame_same s t (Err Good) h = absurd h
frame_same s t (Err Unsupported) h = absurd h
frame_same s t (Err Cancelled) h = absurd h
frame_same s t (Err DeviceBusy) h = absurd h
frame_same s t (Err Eof) h = absurd h
frame_same s t (Err Jammed) h = absurd h
frame_same s t (Err NoDocs) h = absurd h
frame_same s t (Err CoverOpen) h = absurd h
frame_same s t (Err AccessDenied) h = absurd h

on_pages : (pages : List HeldPage) (s t : DeviceState) (r : Result Unit Status) → StartsOn pages s r t → IsSameDevice s t
on_pages [] s t r h = stops_same s t h.1
on_pages (_ ∷ _) s t r h = frame_same s t r h

start_in : (p : Phase) (s t : DeviceState) (r : Result Unit Status) → StartsIn p s r t → IsSameDevice s t
start_in (AtRest _) s t r h = on_pages s.pages s t r h
start_in (Between _) s t r h = on_pages s.pages s t r h
start_in (Reading _ _) s t r h = unchanged s t h.1

pub start_same : (s t : DeviceState) (r : Result Unit Status) → Starts s r t → IsSameDevice s t
start_same s t r h = start_in s.phase s t r h

on_same : (s t : DeviceState) (p g : ℕ) (r : Result ℕ Status) (buf : List ℕ) → ReadsOn s p g r t buf → IsSameDevice s t
on_same s t p g (Ok n) buf h = equal s t _ h.after (kept s _ _)
on_same s t p g (Err Eof) buf h = equal s t _ h.1 (goes_same s (after_pass s.setup p))
on_same s t p g (Err IoError) buf h = failed_same s t h.1
on_same s t p g (Err Good) buf h = absurd h
on_same s t p g (Err Unsupported) buf h = absurd h
on_same s t p g (Err Cancelled) buf h = absurd h
on_same s t p g (Err DeviceBusy) buf h = absurd h
on_same s t p g (Err Inval) buf h = absurd h
on_same s t p g (Err Jammed) buf h = absurd h
on_same s t p g (Err NoDocs) buf h = absurd h
on_same s t p g (Err CoverOpen) buf h = absurd h
on_same s t p g (Err NoMem) buf h = absurd h
on_same s t p g (Err AccessDenied) buf h = absurd h

told_same : (o : Option Status) (s t : DeviceState) (p g : ℕ) (r : Result ℕ Status) (buf : List ℕ) → FrameReads o s p g r t buf → IsSameDevice s t
told_same None s t p g r buf h = on_same s t p g r buf h
told_same (Some st) s t p g r buf h = equal s t _ h.1 (goes_same s (after_read_status s.setup p st))

read_in : (p : Phase) (s t : DeviceState) (r : Result ℕ Status) (buf : List ℕ) → ReadsIn p s r t buf → IsSameDevice s t
read_in (AtRest _) s t r buf h = unchanged s t h.1
read_in (Between _) s t r buf h = unchanged s t h.1
read_in (Reading p g) s t r buf h = told_same (read_status_at s.setup.told g) s t p g r buf h

pub read_same : (s t : DeviceState) (r : Result ℕ Status) (buf : List ℕ) → Reads s r t buf → IsSameDevice s t
read_same s t r buf h = read_in s.phase s t r buf h

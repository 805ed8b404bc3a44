-- What is done with the first page, as a step of a scanner.
use Rattle.std.proofs.Common.{◌≡◌, ◌∙◌, sym, ap, subst, refl, ℕ, false, List, [], ◌∷◌, map}
use Rattle.std.specs.Prelude.{Option, Some, None, Result, Ok, Err}
use Rattle.sane_fixed.specs.declared.status.Status.{Status}
use Rattle.sane_fixed.specs.declared.status.Status.TheVariants.{Eof}
use Rattle.page_picture.specs.Source.{SourceState}
use Rattle.scan_frames.specs.StatusOf.{begin_status, end_status}
use Rattle.scan_frames.specs.Frames.{has_picture}
use Rattle.scan_frames.specs.PassReading.{BeginsPass, FrameProgress, ReadsFrame, given_in}
use Rattle.scan_frames.specs.declared.faults.BeginFault.{BeginFault}
use Rattle.scan_frames.specs.declared.faults.BeginFault.TheVariants.{NoPicture, SourceFailed as NotBegun, NoMem}
use Rattle.scan_frames.specs.declared.faults.ReadEnd.{ReadEnd}
use Rattle.scan_frames.specs.declared.faults.ReadEnd.TheVariants.{End, SourceFailed}
use Rattle.scan_frames.specs.declared.setup.Setup.{Setup}
use Rattle.device_api.specs.State.{DeviceState, Phase, FrameReads, StartsOn, Starts, after_read_status, goes_to, held_from, next_pass, state_at_rest, after_stop}
use Rattle.device_api.specs.State.Phase.{AtRest, Between, Reading}
use Rattle.sane_fixed.specs.declared.device_info.DeviceInfo.{DeviceInfo}
use Rattle.virtual_scanner.specs.Answers.{AnswersUnless}
use Rattle.virtual_scanner.specs.First.{OnFirst}
use Rattle.virtual_scanner.specs.Inside.{device_on}
use Rattle.virtual_scanner.specs.Phases.{pass_to_start}

-- ---- a start

begun_on : (info : DeviceInfo) (setup : Setup) (xs ys : List SourceState) (phase : Phase) (f : FrameProgress) → OnFirst (λ s t. BeginsPass s setup (next_pass phase) (Ok f) t) xs ys → StartsOn (map held_from xs) (device_on info setup xs phase) (Ok tt) (device_on info setup ys (Reading f.pass (given_in f)))
begun_on info setup [] ys phase f h = absurd h
begun_on info setup (s ∷ more) ys phase f h =
    let t : SourceState = h.0 in
    let begun = h.1 in (
      ap (λ (u : SourceState). has_picture setup u.page) (sym begun.after) ∙ begun.frame.picture,
      ap (λ (zs : List SourceState). device_on info setup zs (Reading f.pass (given_in f))) h.2
          ∙ ap (λ (u : SourceState). device_on info setup (u ∷ more) (Reading f.pass (given_in f))) begun.after
          ∙ ap (λ (n : ℕ). device_on info setup (s ∷ more) (Reading n (given_in f))) begun.pass_is
          ∙ ap (λ (n : ℕ). device_on info setup (s ∷ more) (Reading (next_pass phase) n)) begun.none,
    )

refused_on : (info : DeviceInfo) (setup : Setup) (xs ys : List SourceState) (phase : Phase) (fault : BeginFault) → OnFirst (λ s t. BeginsPass s setup (next_pass phase) (Err fault) t) xs ys → StartsOn (map held_from xs) (device_on info setup xs phase) (Err (begin_status fault)) (after_stop (device_on info setup ys phase))
refused_on info setup [] ys phase fault h = absurd h
refused_on info setup (s ∷ more) ys phase NoPicture h =
    (h.1.0, ap (λ (zs : List SourceState). after_stop (device_on info setup zs phase)) (h.2 ∙ ap (λ (u : SourceState). u ∷ more) h.1.1))
refused_on info setup (s ∷ more) ys phase NoMem h =
    (h.1.0, ap (λ (zs : List SourceState). after_stop (device_on info setup zs phase)) (h.2 ∙ ap (λ (u : SourceState). u ∷ more) h.1.1))
refused_on info setup (s ∷ more) ys phase NotBegun h =
    let t : SourceState = h.0 in (
      h.1.0,
      record {
        can_fail = h.1.1.fallible;
        failures = t.failures;
        counted = h.1.1.counted;
        after = ap (λ (zs : List SourceState). after_stop (device_on info setup zs phase)) (h.2 ∙ ap (λ (u : SourceState). u ∷ more) h.1.1.rest);
      },
    )

-- a start may begin a frame in these phases
by_phase : (info : DeviceInfo) (setup : Setup) (xs : List SourceState) (phase : Phase) (pass : ℕ) (new : DeviceState) (result : Result Unit Status) → pass_to_start phase ≡ Some pass → StartsOn (map held_from xs) (device_on info setup xs phase) result new → Starts (device_on info setup xs phase) result new
by_phase info setup xs (AtRest _) pass new result e h = h
by_phase info setup xs (Between _) pass new result e h = h
by_phase info setup xs (Reading _ _) pass new result e h = absurd (cc)

pass_is : (phase : Phase) (pass : ℕ) → pass_to_start phase ≡ Some pass → next_pass phase ≡ pass
pass_is (AtRest _) pass e = cc
pass_is (Between _) pass e = cc
pass_is (Reading _ _) pass e = absurd (cc)

pub starts : (info : DeviceInfo) (setup : Setup) (xs ys : List SourceState) (phase : Phase) (pass : ℕ) (f : FrameProgress) → pass_to_start phase ≡ Some pass → OnFirst (λ s t. BeginsPass s setup pass (Ok f) t) xs ys → Starts (device_on info setup xs phase) (Ok tt) (device_on info setup ys (Reading f.pass (given_in f)))
starts info setup xs ys phase pass f e h =
    by_phase info setup xs phase pass _ (Ok tt) e
    (begun_on info setup xs ys phase f (subst (λ (n : ℕ). OnFirst (λ s t. BeginsPass s setup n (Ok f) t) xs ys) (sym (pass_is phase pass e)) h))

pub refuses : (info : DeviceInfo) (setup : Setup) (xs ys : List SourceState) (phase : Phase) (pass : ℕ) (fault : BeginFault) → pass_to_start phase ≡ Some pass → OnFirst (λ s t. BeginsPass s setup pass (Err fault) t) xs ys → Starts (device_on info setup xs phase) (Err (begin_status fault)) (after_stop (device_on info setup ys phase))
refuses info setup xs ys phase pass fault e h =
    by_phase info setup xs phase pass _ (Err (begin_status fault)) e
    (refused_on info setup xs ys phase fault (subst (λ (n : ℕ). OnFirst (λ s t. BeginsPass s setup n (Err fault) t) xs ys) (sym (pass_is phase pass e)) h))

-- ---- a read

gives_on : (info : DeviceInfo) (setup : Setup) (s t : SourceState) (more : List SourceState) (f g : FrameProgress) (told : Option Status) (n : ℕ) (buf : List ℕ) → AnswersUnless told setup (record { source = s; frame = f }) (Ok n) (record { source = t; frame = g }) buf → FrameReads told (device_on info setup (s ∷ more) (Reading f.pass (given_in f))) f.pass (given_in f) (Ok n) (device_on info setup (t ∷ more) (Reading g.pass (given_in g))) buf
gives_on info setup s t more f g (Some status) n buf h = absurd (let e : Ok n ≡ Err status = h.0 in (cc))
gives_on info setup s t more f g None n buf h = record {
  count = h.count;
  some = h.some;
  room = h.room;
  limit = h.limit;
  left = h.inside;
  bytes = h.bytes;
  after = ap (λ (u : SourceState). device_on info setup (u ∷ more) (Reading g.pass (given_in g))) h.source.after
      ∙ ap (λ (p : ℕ). device_on info setup (s ∷ more) (Reading p (given_in g))) h.pass_is
      ∙ ap (λ (k : ℕ). device_on info setup (s ∷ more) (Reading f.pass k)) h.further;
}

pub gives : (info : DeviceInfo) (setup : Setup) (xs ys : List SourceState) (f g : FrameProgress) (told : Option Status) (n : ℕ) (buf : List ℕ) → OnFirst (λ s t. AnswersUnless told setup (record { source = s; frame = f }) (Ok n) (record { source = t; frame = g }) buf) xs ys → FrameReads told (device_on info setup xs (Reading f.pass (given_in f))) f.pass (given_in f) (Ok n) (device_on info setup ys (Reading g.pass (given_in g))) buf
gives info setup [] ys f g told n buf h = absurd h
gives info setup (s ∷ more) ys f g told n buf h =
    subst (λ (zs : List SourceState). FrameReads told (device_on info setup (s ∷ more) (Reading f.pass (given_in f))) f.pass (given_in f) (Ok n) (device_on info setup zs (Reading g.pass (given_in g))) buf) (sym h.2)
    (gives_on info setup s h.0 more f g told n buf h.1)

-- where a scanner goes to, it does not matter from which phase
moves : (info : DeviceInfo) (setup : Setup) (xs : List SourceState) (from to : Phase) → goes_to (device_on info setup xs to) to ≡ goes_to (device_on info setup xs from) to
moves info setup xs from (AtRest _) = refl
moves info setup xs from (Between _) = refl
moves info setup xs from (Reading _ _) = refl

ends_on : (info : DeviceInfo) (setup : Setup) (s t : SourceState) (more : List SourceState) (f g : FrameProgress) (end : ReadEnd) (buf : List ℕ) → ReadsFrame setup (record { source = s; frame = f }) (Err end) (record { source = t; frame = g }) buf → FrameReads None (device_on info setup (s ∷ more) (Reading f.pass (given_in f))) f.pass (given_in f) (Err (end_status end)) (goes_to (device_on info setup (t ∷ more) (after_read_status setup f.pass (end_status end))) (after_read_status setup f.pass (end_status end))) buf
ends_on info setup s t more f g End buf h = (
  h.0,
  ap (λ (u : SourceState). goes_to (device_on info setup (u ∷ more) (after_read_status setup f.pass Eof)) (after_read_status setup f.pass Eof)) h.1
      ∙ moves info setup (s ∷ more) (Reading f.pass (given_in f)) (after_read_status setup f.pass Eof),
)
ends_on info setup s t more f g SourceFailed buf h = (
  h.0,
  record {
    can_fail = h.1.fallible;
    failures = t.failures;
    counted = h.1.counted;
    after = ap (λ (u : SourceState). state_at_rest (device_on info setup (u ∷ more) (AtRest false)) false) h.1.after;
  },
)

answers_on : (info : DeviceInfo) (setup : Setup) (s t : SourceState) (more : List SourceState) (f g : FrameProgress) (told : Option Status) (status : Status) (buf : List ℕ) → AnswersUnless told setup (record { source = s; frame = f }) (Err status) (record { source = t; frame = g }) buf → FrameReads told (device_on info setup (s ∷ more) (Reading f.pass (given_in f))) f.pass (given_in f) (Err status) (goes_to (device_on info setup (t ∷ more) (after_read_status setup f.pass status)) (after_read_status setup f.pass status)) buf
answers_on info setup s t more f g None status buf h =
    subst (λ (st : Status). FrameReads None (device_on info setup (s ∷ more) (Reading f.pass (given_in f))) f.pass (given_in f) (Err st) (goes_to (device_on info setup (t ∷ more) (after_read_status setup f.pass st)) (after_read_status setup f.pass st)) buf) (sym h.told)
    (ends_on info setup s t more f g h.reason buf h.ends)
answers_on info setup s t more f g (Some told) status buf h =
    let same : status ≡ told = (let e : Err status ≡ Err told = h.0 in (cc)) in (
      h.0,
      ap (λ (u : SourceState). goes_to (device_on info setup (u ∷ more) (after_read_status setup f.pass status)) (after_read_status setup f.pass status)) h.1
          ∙ moves info setup (s ∷ more) (Reading f.pass (given_in f)) (after_read_status setup f.pass status)
          ∙ ap (λ (st : Status). goes_to (device_on info setup (s ∷ more) (Reading f.pass (given_in f))) (after_read_status setup f.pass st)) same,
    )

pub answers : (info : DeviceInfo) (setup : Setup) (xs ys : List SourceState) (f g : FrameProgress) (told : Option Status) (status : Status) (phase : Phase) (buf : List ℕ) → phase ≡ after_read_status setup f.pass status → OnFirst (λ s t. AnswersUnless told setup (record { source = s; frame = f }) (Err status) (record { source = t; frame = g }) buf) xs ys → FrameReads told (device_on info setup xs (Reading f.pass (given_in f))) f.pass (given_in f) (Err status) (goes_to (device_on info setup ys phase) phase) buf
answers info setup [] ys f g told status phase buf e h = absurd h
answers info setup (s ∷ more) ys f g told status phase buf e h =
    subst (λ (p : Phase). FrameReads told (device_on info setup (s ∷ more) (Reading f.pass (given_in f))) f.pass (given_in f) (Err status) (goes_to (device_on info setup ys p) p) buf) (sym e)
    (subst (λ (zs : List SourceState). FrameReads told (device_on info setup (s ∷ more) (Reading f.pass (given_in f))) f.pass (given_in f) (Err status) (goes_to (device_on info setup zs (after_read_status setup f.pass status)) (after_read_status setup f.pass status)) buf) (sym h.2)
    (answers_on info setup s h.0 more f g told status buf h.1))

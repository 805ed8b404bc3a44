-- What the reads of a frame give, one after another.
use Rattle.std.proofs.Common.{◌≡◌, ℕ, ◌+◌, ◌-◌, ◌<◌, List, [], ◌++◌, Option, Some, None, Result, Ok, Err, true, false, take, drop, refl, sym, ap, ◌∙◌, subst, arith, length-append}
use Rattle.std.specs.Io.KnownBytes.{Appends}
use Rattle.std.proofs.Math.Seq.{take-add}
use Rattle.std.proofs.lemmas.List.{length-take}
use Rattle.frame_join.proofs.GivenKept.{NoneBefore}
use Rattle.sane_fixed.specs.declared.status.Status.{Status}
use Rattle.sane_fixed.specs.declared.status.Status.TheVariants.{Good, Unsupported, Cancelled, DeviceBusy, Inval, Eof, Jammed, NoDocs, CoverOpen, IoError, NoMem, AccessDenied}
use Rattle.page_picture.specs.Shows.{Frame}
use Rattle.scan_frames.specs.Frames.{payload, pass_length}
use Rattle.device_api.specs.State.{DeviceState, Phase, AtRest, Between, Reading, with_phase, Reads, ReadsIn, ReadsOn, FrameReads, GivesBytes, read_status_at, after_pass, after_read_status, goes_to, is_at_rest, page_of, steady_of}
use Rattle.frame_join.specs.declared.join_stage.JoinFault.{JoinFault}
use Rattle.frame_join.specs.FrameHistory.{JoinHistory, IsJoined, answer_by}
use Rattle.frame_join.specs.JoinStates.{JoinState, Represents}
use Rattle.local_job.specs.Inside.{FeedsJoin, read_refused, IsAllOrNone, JoinIsInside, IsReadTo}
use Rattle.scan_job.specs.FileOutputs.{StopsShort}
use Rattle.std.proofs.Common.{cond, Bool, inl, inr}
use Rattle.std.specs.Prelude.{◌==◌}
use Rattle.std.proofs.lemmas.Bool.{eqb-true}
use Rattle.std.specs.Prelude.{◌≢◌}
use Rattle.page_picture.specs.Source.{CountsFailure}
use Rattle.local_job.specs.ScanCauses.{ScanHasCause}
use Rattle.scan_job.specs.Stops.{no_memory, failed_output}
use Rattle.scan_job.specs.declared.stop.Stop.{Stop}
use Rattle.std.proofs.Common.{◌≤◌, ◌⊎◌, length}
use Rattle.std.proofs.lemmas.Bool.{false≢true}
use Rattle.local_job.specs.FrameReading.{KeepsDevice}
use Rattle.local_job.proofs.Lets.{cause_before, failed, further, of_failure, of_goes, of_nothing, of_phase}

-- the pass under way, and how many of its bytes were given
abbrev pass_of : Phase → ℕ
pass_of (AtRest _) = 0
pass_of (Between ended) = ended
pass_of (Reading pass _) = pass

abbrev given_of : Phase → ℕ
given_of (AtRest _) = 0
given_of (Between _) = 0
given_of (Reading _ given) = given

-- the bytes that are left of the pass
abbrev pub left_in : DeviceState → ℕ
left_in s = pass_length s.setup (page_of s) (pass_of s.phase) - given_of s.phase

-- where a read gave bytes, the phase was that of a pass, and nothing was told in their place
gave : (phase : Phase) (old : DeviceState) (n : ℕ) (new : DeviceState) (buf : List ℕ) → ReadsIn phase old (Ok n) new buf → (pass given : ℕ) × (phase ≡ Reading pass given) × GivesBytes old pass given n new buf
gave (AtRest c) old n new buf reads = let clash = reads.0 in absurd (cc)
gave (Between p) old n new buf reads = let clash = reads.0 in absurd (cc)
gave (Reading pass given) old n new buf reads = (pass, given, refl, by_told (read_status_at old.setup.told given) reads)
  where
    by_told : (told : Option Status) → FrameReads told old pass given (Ok n) new buf → GivesBytes old pass given n new buf
    by_told None reads = reads
    by_told (Some status) reads = let clash = reads.0 in absurd (cc)

pub less_left : (old new : DeviceState) (n : ℕ) (buf : List ℕ) → Reads old (Ok n) new buf → left_in new < left_in old
less_left old new n buf reads =
    let g = gave old.phase old n new buf reads in
    let was : left_in old ≡ pass_length old.setup (page_of old) g.0 - g.1 = ap (λ (p : Phase). pass_length old.setup (page_of old) (pass_of p) - given_of p) g.2 in
    let now : left_in new ≡ pass_length old.setup (page_of old) g.0 - (g.1 + n) = ap left_in g.3.after in
    omega (arith, was, now, g.3.some, g.3.left)

-- ---- what a read leaves alone

keeps_on : (old : DeviceState) (pass given : ℕ) (result : Result ℕ Status) (new : DeviceState) (buf : List ℕ) → ReadsOn old pass given result new buf → KeepsDevice old new
keeps_on old pass given (Ok n) new buf reads = of_phase old new _ reads.after
keeps_on old pass given (Err Eof) new buf reads = of_goes old new (after_pass old.setup pass) reads.1
keeps_on old pass given (Err IoError) new buf reads = of_failure old new reads.1
keeps_on old pass given (Err Good) new buf reads = absurd reads
keeps_on old pass given (Err Unsupported) new buf reads = absurd reads
keeps_on old pass given (Err Cancelled) new buf reads = absurd reads
keeps_on old pass given (Err DeviceBusy) new buf reads = absurd reads
keeps_on old pass given (Err Inval) new buf reads = absurd reads
keeps_on old pass given (Err Jammed) new buf reads = absurd reads
keeps_on old pass given (Err NoDocs) new buf reads = absurd reads
keeps_on old pass given (Err CoverOpen) new buf reads = absurd reads
keeps_on old pass given (Err NoMem) new buf reads = absurd reads
keeps_on old pass given (Err AccessDenied) new buf reads = absurd reads

keeps_told : (told : Option Status) (old : DeviceState) (pass given : ℕ) (result : Result ℕ Status) (new : DeviceState) (buf : List ℕ) → FrameReads told old pass given result new buf → KeepsDevice old new
keeps_told None old pass given result new buf reads = keeps_on old pass given result new buf reads
keeps_told (Some status) old pass given result new buf reads = of_goes old new (after_read_status old.setup pass status) reads.1

keeps_in : (phase : Phase) (old : DeviceState) (result : Result ℕ Status) (new : DeviceState) (buf : List ℕ) → ReadsIn phase old result new buf → KeepsDevice old new
keeps_in (AtRest c) old result new buf reads = of_nothing old new reads.1
keeps_in (Between p) old result new buf reads = of_nothing old new reads.1
keeps_in (Reading pass given) old result new buf reads = keeps_told (read_status_at old.setup.told given) old pass given result new buf reads

-- a read of a scanner at rest leaves it
rests_on : (phase : Phase) (old : DeviceState) (result : Result ℕ Status) (new : DeviceState) (buf : List ℕ) → ReadsIn phase old result new buf → is_at_rest phase ≡ true → new ≡ old
rests_on (AtRest c) old result new buf reads rest = reads.1
rests_on (Between p) old result new buf reads rest = absurd (false≢true rest)
rests_on (Reading p n) old result new buf reads rest = absurd (false≢true rest)

pub keeps : (first old : DeviceState) (result : Result ℕ Status) (new : DeviceState) (buf : List ℕ) → KeepsDevice first old → Reads old result new buf → KeepsDevice first new
keeps first old result new buf before reads = further first old new before (keeps_in old.phase old result new buf reads) (rests_on old.phase old result new buf reads)

-- ---- the end of a frame

pub ends : (old now new : DeviceState) (pass given : ℕ) (buf : List ℕ) → now ≡ with_phase old (Reading pass given) → Reads now (Err Eof) new buf → new ≡ goes_to old (after_pass old.setup pass)
ends old now new pass given buf is reads =
    by_told (read_status_at now.setup.told given) (subst (λ (p : Phase). ReadsIn p now (Err Eof) new buf) (ap (λ (s : DeviceState). s.phase) is) reads)
    ∙ ap (λ (s : DeviceState). goes_to s (after_pass s.setup pass)) is ∙ goes_from old (Reading pass given) (after_pass old.setup pass)
  where
    goes_from : (s : DeviceState) (p q : Phase) → goes_to (with_phase s p) q ≡ goes_to s q
    goes_from s p (AtRest c) = refl
    goes_from s p (Between n) = refl
    goes_from s p (Reading k n) = refl

    by_told : (told : Option Status) → FrameReads told now pass given (Err Eof) new buf → new ≡ goes_to now (after_pass now.setup pass)
    by_told None reads = reads.1
    by_told (Some status) reads =
        let e = reads.0 in
        let same : status ≡ Eof = cc in
        reads.1 ∙ ap (λ (status : Status). goes_to now (after_read_status now.setup pass status)) same

-- the end of a pass comes behind its last byte, or, where it is told, in place of the first
told_by : (told : Option Status) (given : ℕ) (b : Bool) → (given == 0) ≡ b → (now new : DeviceState) (pass : ℕ) (buf : List ℕ) → now.setup.told ≡ told → FrameReads (cond b told None) now pass given (Err Eof) new buf → IsAllOrNone now pass given
told_by None given true e now new pass buf is reads = inl reads.0
told_by None given false e now new pass buf is reads = inl reads.0
told_by (Some status) given true e now new pass buf is reads =
    let told = reads.0 in
    let same : status ≡ Eof = cc in
    inr (eqb-true given 0 e, is ∙ ap (λ (status : Status). Some status) same)
told_by (Some status) given false e now new pass buf is reads = inl reads.0

pub all_or_none : (old now new : DeviceState) (pass given : ℕ) (buf : List ℕ) → now ≡ with_phase old (Reading pass given) → Reads now (Err Eof) new buf → IsAllOrNone old pass given
all_or_none old now new pass given buf is reads =
    let here : FrameReads (read_status_at now.setup.told given) now pass given (Err Eof) new buf = subst (λ (p : Phase). ReadsIn p now (Err Eof) new buf) (ap (λ (s : DeviceState). s.phase) is) reads in
    subst (λ (s : DeviceState). IsAllOrNone s pass given) is (told_by now.setup.told given (given == 0) refl now new pass buf refl here)

-- ---- what refuses a read

refused_on : (now new : DeviceState) (pass given : ℕ) (status : Status) (buf : List ℕ) → ReadsOn now pass given (Err status) new buf → status ≢ Eof → ScanHasCause (read_refused status) now new
refused_on now new pass given IoError buf reads other = inr (refl, failed now new reads.1)
refused_on now new pass given Eof buf reads other = absurd (other refl)
refused_on now new pass given Good buf reads other = absurd reads
refused_on now new pass given Unsupported buf reads other = absurd reads
refused_on now new pass given Cancelled buf reads other = absurd reads
refused_on now new pass given DeviceBusy buf reads other = absurd reads
refused_on now new pass given Inval buf reads other = absurd reads
refused_on now new pass given Jammed buf reads other = absurd reads
refused_on now new pass given NoDocs buf reads other = absurd reads
refused_on now new pass given CoverOpen buf reads other = absurd reads
refused_on now new pass given NoMem buf reads other = absurd reads
refused_on now new pass given AccessDenied buf reads other = absurd reads

refused_by : (told : Option Status) (b : Bool) (now new : DeviceState) (pass given : ℕ) (status : Status) (buf : List ℕ) → now.setup.told ≡ told → FrameReads (cond b told None) now pass given (Err status) new buf → status ≢ Eof
    → ScanHasCause (read_refused status) now new
refused_by None true now new pass given status buf is reads other = refused_on now new pass given status buf reads other
refused_by None false now new pass given status buf is reads other = refused_on now new pass given status buf reads other
refused_by (Some s) true now new pass given status buf is reads other =
    let told = reads.0 in
    let same : s ≡ status = cc in
    inl (is ∙ ap (λ (status : Status). Some status) same, other)
refused_by (Some s) false now new pass given status buf is reads other = refused_on now new pass given status buf reads other

pub read_cause : (old now new : DeviceState) (pass given : ℕ) (status : Status) (buf : List ℕ) → now ≡ with_phase old (Reading pass given) → Reads now (Err status) new buf → status ≢ Eof → ScanHasCause (read_refused status) old new
read_cause old now new pass given status buf is reads other =
    let here : FrameReads (read_status_at now.setup.told given) now pass given (Err status) new buf = subst (λ (p : Phase). ReadsIn p now (Err status) new buf) (ap (λ (s : DeviceState). s.phase) is) reads in
    cause_before old now new (Reading pass given) (read_refused status) is (refused_by now.setup.told (given == 0) now new pass given status buf refl here other)

-- ---- the bytes so far

-- the history with the bytes so far
abbrev pub so_far : JoinHistory → Frame → List ℕ → List ℕ → JoinHistory
so_far past frame bytes given = record past { under = Some (record frame { payload = bytes }); given = given }

pub first_bytes : (s : DeviceState) (pass : ℕ) (past : JoinHistory) (frame : Frame) (first contents : Option (List ℕ)) (join : JoinState) → JoinIsInside past frame first join contents → frame.payload ≡ []
    → IsReadTo s pass 0 (record { past = past; frame = frame; first = first }) (record { join = join; contents = contents })
first_bytes s pass past frame first contents join is empty =
    let same : past ≡ record past { under = Some (record frame { payload = [] }) } =
    ap (λ (u : Option Frame). record past { under = u }) (is.under ∙ ap (λ (l : List ℕ). Some (record frame { payload = l })) empty) in
    record {
      bytes = [];
      count = refl;
      feeds = record { given = past.given; stands = subst (λ (q : JoinHistory). Represents q join) same is.stands; taken = is.taken };
      right = λ steady. refl;
    }

-- so the join is inside the frame with the bytes so far
pub still_inside : (s : DeviceState) (pass given : ℕ) (past : JoinHistory) (frame : Frame) (first contents : Option (List ℕ)) (join : JoinState) → past.fault ≡ None → (r : IsReadTo s pass given (record { past = past; frame = frame; first = first }) (record { join = join; contents = contents }))
    → JoinIsInside (so_far past frame r.bytes r.feeds.given) (record frame { payload = r.bytes }) first join contents
still_inside s pass given past frame first contents join no_fault r = record { stands = r.feeds.stands; no_fault = no_fault; under = refl; taken = r.feeds.taken }

pub gives : (old now new : DeviceState) (pass given n : ℕ) (buf : List ℕ) → now ≡ with_phase old (Reading pass given) → Reads now (Ok n) new buf → GivesBytes now pass given n new buf
gives old now new pass given n buf is reads =
    by_told (read_status_at now.setup.told given) (subst (λ (p : Phase). ReadsIn p now (Ok n) new buf) (ap (λ (s : DeviceState). s.phase) is) reads)
  where
    by_told : (told : Option Status) → FrameReads told now pass given (Ok n) new buf → GivesBytes now pass given n new buf
    by_told None reads = reads
    by_told (Some status) reads = let clash = reads.0 in absurd (cc)

pub still : (old now new : DeviceState) (pass given n : ℕ) (buf : List ℕ) → now ≡ with_phase old (Reading pass given) → GivesBytes now pass given n new buf → new ≡ with_phase old (Reading pass (given + n))
still old now new pass given n buf is g = g.after ∙ ap (λ (s : DeviceState). with_phase s (Reading pass (given + n))) is

pub more_bytes : (old now new : DeviceState) (pass given n : ℕ) (buf : List ℕ) (past : JoinHistory) (frame : Frame) (first before after : Option (List ℕ)) (was join : JoinState)
    → now ≡ with_phase old (Reading pass given) → GivesBytes now pass given n new buf → (r : IsReadTo old pass given (record { past = past; frame = frame; first = first }) (record { join = was; contents = before }))
    → FeedsJoin (so_far past frame r.bytes r.feeds.given) (record frame { payload = r.bytes ++ take n buf }) first join after → IsReadTo old pass (given + n) (record { past = past; frame = frame; first = first }) (record { join = join; contents = after })
more_bytes old now new pass given n buf past frame first before after was join is g r f = record {
  bytes = r.bytes ++ take n buf;
  count = omega (arith, length-append r.bytes (take n buf), r.count, length-take n buf, g.room);
  feeds = record { given = f.given; stands = f.stands; taken = f.taken };
  right = λ steady.
      let all = payload old.setup (page_of old) pass in
      let here : take n buf ≡ take n (drop given all) =
      subst (λ (s : DeviceState). (steady_of s) ≡ true → take n buf ≡ take n (drop given (payload s.setup (page_of s) pass))) is g.bytes steady in
      ap (λ (l : List ℕ). l ++ take n buf) (r.right steady) ∙ ap (λ (l : List ℕ). take given all ++ l) here ∙ sym (take-add given n all);
}

pub cut_off : (s : DeviceState) (pass given : ℕ) (past : JoinHistory) (frame : Frame) (first contents : Option (List ℕ)) (join : JoinState) → past.fault ≡ None
    → NoneBefore → IsReadTo s pass given (record { past = past; frame = frame; first = first }) (record { join = join; contents = contents }) → StopsShort first contents
cut_off s pass given past frame first contents join no_fault law r = record {
  text = r.feeds.given;
  taken = r.feeds.taken;
  none = law (so_far past frame r.bytes r.feeds.given) join r.feeds.stands (λ joined.
      let clash : Ok false ≡ Ok true = ap (λ (o : Option JoinFault). answer_by o (Some (record frame { payload = r.bytes })) past.ended) (sym no_fault) ∙ joined in
      absurd (cc));
}

-- a piece for which there is room is refused for lack of memory, or by the output
pub piece_cause : (old now new : DeviceState) (pass given n : ℕ) (buf bytes : List ℕ) (most : ℕ) (stop : Stop) → now ≡ with_phase old (Reading pass given) → GivesBytes now pass given n new buf → length bytes ≡ given
    → pass_length old.setup (page_of old) pass ≤ most → (length bytes + length (take n buf) ≤ most → (stop ≡ no_memory) ⊎ (stop ≡ failed_output)) → ScanHasCause stop old new
piece_cause old now new pass given n buf bytes most stop is g count room cause =
    let left : given + n ≤ pass_length old.setup (page_of old) pass = subst (λ (s : DeviceState). given + n ≤ pass_length s.setup (page_of s) pass) is g.left in
    let fits : length bytes + length (take n buf) ≤ most = omega (arith, count, length-take n buf, g.room, left, room) in
    by_cause (cause fits)
  where
    by_cause : (stop ≡ no_memory) ⊎ (stop ≡ failed_output) → ScanHasCause stop old new
    by_cause (inl memory) = subst (λ (s : Stop). ScanHasCause s old new) (sym memory) refl
    by_cause (inr output) = subst (λ (s : Stop). ScanHasCause s old new) (sym output) refl

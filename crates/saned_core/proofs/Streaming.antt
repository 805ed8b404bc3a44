-- A turn of a data connection, by what its read gave.
use Rattle.std.proofs.Common.{◌≡◌, ℕ, ◌+◌, ◌-◌, ◌≤◌, List, min, ◌++◌, take, drop, length, Option, Some, None, Result, refl, ap, subst, ◌∙◌, sym, arith}
use Rattle.std.proofs.lemmas.Grind.{common_steps}
use borrow.Rule.Slice.PartMut.{put_mid, post_of}
use Rattle.std.proofs.Math.Seq.{drop-append_seam, take-append-add}
use Rattle.std.proofs.lemmas.List.{take-append-le}
use Rattle.sane_fixed.specs.declared.status.Status.{Status}
use Rattle.device_api.specs.State.{DeviceState, Reads}
use Rattle.dispatch.specs.declared.table.place.Lease.{Lease}
use Rattle.saned_requests.specs.declared.session.DataPhase.{DataPhase}
use Rattle.saned_requests.specs.declared.session.DataPhase.TheVariants.{Streaming}
use Rattle.saned_core.specs.declared.session_slot.DataStep.{DataStep}
use Rattle.saned_core.specs.declared.session_slot.DataStep.TheVariants.{Idle}
use Rattle.saned_requests.specs.declared.session.Session.{Session}
use Rattle.saned_requests.specs.Holding.{held_by, on_word}
use Rattle.saned_requests.proofs.LeaseWords.{on_word-none}
use Rattle.saned_core.specs.Turns.{Records, data_phase_after, StreamsFrom, StreamsIn, TurnsStream}
use Rattle.saned_core.specs.Inside.{ReadsLease, ReadsWord}

-- a read that gave an answer
answered : (l lease : Option (Lease DeviceState)) (s : Session DeviceState) (word : ℕ) (answer : Result ℕ Status) (window buf : List ℕ) (step : DataStep)
    → ReadsLease l (Some answer) lease window → 4 + length window ≡ min (length buf) 65540 → Records answer window step buf
    → StreamsFrom l word s step (record s { held = on_word (λ _. lease) s.held word; transfer = data_phase_after s.transfer answer }) buf
answered None lease s word answer window buf step r n w = absurd (let e : Some answer ≡ None = r.0 in cc)
answered (Some l) lease s word answer window buf step r n w =
    let e : answer ≡ r.answer = (let t : Some answer ≡ Some r.answer = r.told_is in cc) in
    record {
      answer = answer;
      after = r.after;
      window = window;
      whole = n;
      reads = subst (λ (a : Result ℕ Status). Reads l.device a r.after window) (sym e) r.reads;
      written = w;
      new_is = ap (λ (x : Option (Lease DeviceState)). record s { held = on_word (λ _. x) s.held word; transfer = data_phase_after s.transfer answer }) r.new_is;
    }

-- a read of a word that stands for nothing
unanswered : (l lease : Option (Lease DeviceState)) (s : Session DeviceState) (word : ℕ) (window buf : List ℕ)
    → l ≡ held_by s.held word → ReadsLease l None lease window
    → StreamsFrom l word s Idle (record s { held = on_word (λ _. lease) s.held word }) buf
unanswered None lease s word window buf e r =
    (refl, ap (λ (x : Option (Lease DeviceState)). record s { held = on_word (λ _. x) s.held word }) r.1 ∙ ap (λ (x : List (Option (Lease DeviceState))). record s { held = x }) (on_word-none s.held word (sym e)))
unanswered (Some l) lease s word window buf e r = absurd (let t : None ≡ Some r.answer = r.told_is in cc)

pub streams_answer : (s : Session DeviceState) (word : ℕ) (told : Option (Result ℕ Status)) (answer : Result ℕ Status) (held : List (Option (Lease DeviceState))) (window buf : List ℕ) (step : DataStep)
    → s.transfer ≡ Streaming word → ReadsWord s.held word told held window → told ≡ Some answer → 4 + length window ≡ min (length buf) 65540 → Records answer window step buf
    → TurnsStream s step (record s { held = held; transfer = data_phase_after s.transfer answer }) buf
streams_answer s word told answer held window buf step c r t n w =
    let reads = subst (λ (x : Option (Result ℕ Status)). ReadsLease (held_by s.held word) x r.lease window) t r.reads in
    let from = answered (held_by s.held word) r.lease s word answer window buf step reads n w in
    let at : StreamsIn s.transfer s step (record s { held = on_word (λ _. r.lease) s.held word; transfer = data_phase_after s.transfer answer }) buf =
    subst (λ (x : DataPhase). StreamsIn x s step (record s { held = on_word (λ _. r.lease) s.held word; transfer = data_phase_after s.transfer answer }) buf) (sym c) from in
    subst (λ (x : List (Option (Lease DeviceState))). TurnsStream s step (record s { held = x; transfer = data_phase_after s.transfer answer }) buf) (sym r.new_is) at

pub streams_nothing : (s : Session DeviceState) (word : ℕ) (told : Option (Result ℕ Status)) (held : List (Option (Lease DeviceState))) (window buf : List ℕ)
    → s.transfer ≡ Streaming word → ReadsWord s.held word told held window → told ≡ None
    → TurnsStream s Idle (record s { held = held }) buf
streams_nothing s word told held window buf c r t =
    let reads = subst (λ (x : Option (Result ℕ Status)). ReadsLease (held_by s.held word) x r.lease window) t r.reads in
    let from = unanswered (held_by s.held word) r.lease s word window buf refl reads in
    let at : StreamsIn s.transfer s Idle (record s { held = on_word (λ _. r.lease) s.held word }) buf =
    subst (λ (x : DataPhase). StreamsIn x s Idle (record s { held = on_word (λ _. r.lease) s.held word }) buf) (sym c) from in
    subst (λ (x : List (Option (Lease DeviceState))). TurnsStream s Idle (record s { held = x }) buf) (sym r.new_is) at

-- a head before what was read
pub record_written : (head xs ys : List ℕ) (k n : ℕ) → length head ≡ 4 → 4 ≤ length xs → n ≤ length ys → take (4 + n) (head ++ drop 4 (put_mid 4 k xs ys)) ≡ head ++ take n ys
record_written head xs ys k n h x y =
    let p : List ℕ = post_of 4 k xs in
    let four : length (take 4 xs) ≡ 4 = grind (arith, common_steps) in
    let behind : drop 4 (take 4 xs ++ (ys ++ p)) ≡ ys ++ p = subst (λ (m : ℕ). drop m (take 4 xs ++ (ys ++ p)) ≡ ys ++ p) four (drop-append_seam (take 4 xs) (ys ++ p)) in
    let first : take (4 + n) (head ++ (ys ++ p)) ≡ head ++ take n (ys ++ p) = subst (λ (m : ℕ). take (m + n) (head ++ (ys ++ p)) ≡ head ++ take n (ys ++ p)) h (take-append-add head (ys ++ p) n) in
    ap (λ (z : List ℕ). take (4 + n) (head ++ z)) behind ∙ first ∙ ap (λ (z : List ℕ). head ++ z) (take-append-le n ys p y)

-- what a read puts behind the head leaves the buffer's length as it was
pub mid_whole : (buf window : List ℕ) (room : ℕ) → 8 ≤ length buf → room ≡ min (length buf - 4) 65536
    → length window ≡ length (take (4 + room - 4) (drop 4 buf)) → length (put_mid 4 (4 + room - 4) buf window) ≡ length buf
mid_whole buf window room fits is same = grind (arith, common_steps)

-- and so does the head
pub head_whole : (head mid : List ℕ) → length head ≡ length (take 4 mid) → length (head ++ drop 4 mid) ≡ length mid
head_whole head mid same = grind (arith, common_steps)

pub window_whole : (window buf then : List ℕ) (room : ℕ) → 8 ≤ length buf → room ≡ min (length buf - 4) 65536
    → length window ≡ length (take (4 + room - 4) (drop 4 buf)) → length then ≡ length buf
    → 4 + length window ≡ min (length then) 65540
window_whole window buf then room fits is same long = grind (arith, common_steps)

-- and a window as long as the buffer lets is no longer than a record
pub window_short : (window buf : List ℕ) → 4 + length window ≡ min (length buf) 65540 → length window ≤ 65536
window_short window buf whole = grind (arith, common_steps)

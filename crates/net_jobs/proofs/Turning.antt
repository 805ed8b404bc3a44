-- The moves of a turn, call by call.
use Rattle.std.proofs.Common.{◌≡◌, ◌≢◌, ◌∙◌, ◌≤◌, ◌<◌, ℕ, Bool, true, false, not, Option, Some, None, List, [], ◌∷◌, length, take, drop, refl, sym, ap, subst, arith}
use Rattle.std.specs.Prelude.{◌==◌, if◌then◌else◌, IsTrue}
use Rattle.std.specs.Io.KnownBytes.{Appends, Consumes}
use Rattle.std.proofs.lemmas.List.{length-take, length-drop, take-append-drop}
use Rattle.sane_fixed.specs.declared.status.Status.TheVariants as statuses
use Rattle.scan_job.specs.declared.outcome.Why.TheVariants as whys
use Rattle.client_replies.specs.declared.progress.Link.TheVariants as links
use Rattle.client_replies.specs.ProtocolStates.{is_running}
use Rattle.net_client.specs.ClientStates.{ClientState, HasEarlyReply, after_client_end}
use Rattle.net_jobs.specs.declared.calls.Loss.{Loss}
use Rattle.net_jobs.specs.declared.calls.Loss.TheVariants.{UsedUp, DialFailed}
use Rattle.net_jobs.specs.JobJournal.{WritesRequest, JobMove, Writes, Fails, Hears, Resumes, Prepares, Dials, Takes, Loses, HearsPiece, after_loss}
use Rattle.net_client.specs.ToldPorts.{port_told}
use Rattle.net_jobs.specs.Links.{IsTold, JobLinks, LinkViews, PortsTold, views_of, with_port}
use Rattle.net_jobs.specs.Inside.{Heard, Lost, Took, Missed, Made, Refused, Whole, Short, CallNotes, LoopState, MovesAll, AreOfTurn, AreQuiet, Quiet, Delivered, HearsOrLoses, TakesOrLoses, DialsOrLoses, TakesLeave}
use Rattle.net_jobs.proofs.DataLoop.{lost_wanted}
use Rattle.net_jobs.proofs.RunInvariants.{out_lost}

abbrev pub noted_as : Option Loss → Bool → CallNotes
noted_as loss failed = record { loss = loss; write_failed = failed }

abbrev pub loop_at : {L R : Type 0} → ClientState → L → Option (List (List ℕ)) → Option R → Option Loss → Bool → LoopState L R
loop_at c links coming stream loss failed = record { client = c; links = links; coming = coming; stream = stream; notes = noted_as loss failed }

abbrev ports_told : Option (List ℕ) → Option (List ℕ) → PortsTold
ports_told asked prepared = record { asked = asked; prepared = prepared }

pub same_ports : (a b p q : Option (List ℕ)) → a ≡ b → p ≡ q → ports_told a p ≡ ports_told b q
same_ports a b p q asked prepared = ap (λ (x : Option (List ℕ)). ports_told x p) asked ∙ ap (λ (x : Option (List ℕ)). ports_told b x) prepared

pub same_notes : (a b : Option Loss) (f g : Bool) → a ≡ b → f ≡ g → noted_as a f ≡ noted_as b g
same_notes a b f g loss failed = ap (λ (l : Option Loss). noted_as l f) loss ∙ ap (λ (x : Bool). noted_as b x) failed

-- some bytes are not none
pub some_taken : (n : ℕ) (xs : List ℕ) → n ≤ length xs → (n ≡ 0 → ⊥) → take n xs ≢ []
some_taken n xs within some e = some (omega (arith, length-take n xs, ap (λ (l : List ℕ). length l) e))

pub few_taken : (n most : ℕ) (xs : List ℕ) → length xs ≤ most → length (take n xs) ≤ most
few_taken n most xs few = omega (arith, few, length-take n xs)

pub some_left : (n : ℕ) (xs : List ℕ) → n < length xs → drop n xs ≢ []
some_left n xs short e = absurd (omega (arith, length-drop n xs, ap (λ (l : List ℕ). length l) e))

-- ---- one call after another

pub turn_resumes : {L R : Type 0} (views : LinkViews L) (left_of : R → Option (List ℕ)) (old fed : ClientState) (at_links : L) (coming : Option (List (List ℕ))) (stream : Option R) (loss : Option Loss) (failed : Bool) → failed ≡ false → HearsPiece old [] fed → HasEarlyReply old
    → (more : List JobMove) × AreOfTurn true fed more × MovesAll views left_of (loop_at old at_links coming stream loss failed) more (loop_at fed at_links coming stream loss failed)
turn_resumes views left_of old fed at_links coming stream loss failed up hears early = (
  Resumes ∷ [],
  Delivered Resumes [] refl tt tt refl,
  (loop_at old at_links coming stream loss failed, refl, record { of_links = tt; up = up; client = (hears, early); links = refl; data_is = (refl, refl); notes = refl }),
)

-- a job that is not over runs
pub runs_by : (b result : Bool) → result ≡ not b → result ≡ false → b ≡ true
runs_by true result e off = refl
runs_by false result e off = absurd (let clash : true ≡ false = sym e ∙ off in cc)

pub is_over_by : (b result : Bool) → result ≡ not b → result ≡ true → b ≡ false
is_over_by true result e on = absurd (let clash : true ≡ false = sym on ∙ e in cc)
is_over_by false result e on = refl

-- nothing came
pub never_came : {b : Bool} → false ≡ true → b ≡ false
never_came e = absurd (let clash : false ≡ true = e in cc)

-- a job that has lost a connection is over
lost_over : (old new : ClientState) → new ≡ after_client_end statuses.IoError whys.Lost old → is_running new.outcome ≡ false
lost_over old new e = ap (λ (v : ClientState). is_running v.outcome) e

pub turn_writes : {C D R : Type 0} (remaining contents : C → Option (List ℕ)) (ports prepared : D → Option (List ℕ)) (left_of : R → Option (List ℕ)) (first : LoopState (JobLinks C D) R) (moves : List JobMove) (old new : ClientState) (control now : C) (dial : D) (coming : Option (List (List ℕ))) (stream : Option R) (loss lost : Option Loss) (failed fails : Bool)
    → failed ≡ false → lost ≡ loss → fails ≡ false → Appends (contents control) (contents now) old.out → new.out ≡ [] → new ≡ record old { out = new.out }
    → MovesAll (views_of remaining contents ports prepared) left_of first moves (loop_at old (record { control = control; dial = dial }) coming stream loss failed)
    → MovesAll (views_of remaining contents ports prepared) left_of first (Writes old.out ∷ moves) (loop_at new (record { control = now; dial = dial }) coming stream lost fails)
turn_writes remaining contents ports prepared left_of first moves old new control now dial coming stream loss lost failed fails up kept still took none new_is m = (
  loop_at old (record { control = control; dial = dial }) coming stream loss failed,
  m,
  record {
    of_links = tt;
    up = up;
    client = record { all = refl; new_is = new_is ∙ ap (λ (o : List ℕ). record old { out = o }) none };
    links = (took, refl);
    data_is = (refl, refl);
    notes = same_notes lost loss fails failed kept (still ∙ sym up);
  },
)

pub turn_fails : {C D R : Type 0} (remaining contents : C → Option (List ℕ)) (ports prepared : D → Option (List ℕ)) (left_of : R → Option (List ℕ)) (first : LoopState (JobLinks C D) R) (moves : List JobMove) (old short new : ClientState) (control now : C) (dial : D) (coming : Option (List (List ℕ))) (stream : Option R) (loss lost : Option Loss) (failed fails : Bool) (n : ℕ)
    → failed ≡ false → lost ≡ loss → fails ≡ true → n < length old.out → Appends (contents control) (contents now) (take n old.out) → short ≡ record old { out = short.out } → new ≡ after_loss links.Control short
    → MovesAll (views_of remaining contents ports prepared) left_of first moves (loop_at old (record { control = control; dial = dial }) coming stream loss failed)
    → MovesAll (views_of remaining contents ports prepared) left_of first (Fails (take n old.out) ∷ moves) (loop_at new (record { control = now; dial = dial }) coming stream lost fails)
turn_fails remaining contents ports prepared left_of first moves old short new control now dial coming stream loss lost failed fails n up kept fell few took short_is new_is m =
    let same : short ≡ record old { out = new.out } = short_is ∙ ap (λ (o : List ℕ). record old { out = o }) (sym (out_lost links.Control short new new_is)) in (
      loop_at old (record { control = control; dial = dial }) coming stream loss failed,
      m,
      record {
        of_links = tt;
        up = up;
        client = record { rest = drop n old.out; front = sym (take-append-drop n old.out); short = some_left n old.out few; new_is = new_is ∙ ap (λ (v : ClientState). after_loss links.Control v) same };
        links = (took, refl);
        data_is = (refl, refl);
        notes = same_notes lost loss fails true kept fell;
      },
    )

pub turn_dials : {C D R : Type 0} (remaining contents : C → Option (List ℕ)) (ports prepared : D → Option (List ℕ)) (left_of : R → Option (List ℕ)) (first : LoopState (JobLinks C D) R) (moves : List JobMove) (old new : ClientState) (control : C) (dial then_ : D) (was now : Option (List (List ℕ))) (stream made : Option R) (lost : Option Loss) (failed fails : Bool) (port : ℕ)
    → failed ≡ false → fails ≡ failed → ports then_ ≡ with_port port (ports dial) → prepared then_ ≡ prepared dial → DialsOrLoses left_of old was port new now made lost
    → MovesAll (views_of remaining contents ports prepared) left_of first moves (loop_at old (record { control = control; dial = dial }) was stream None failed)
    → AreQuiet moves → (more : List JobMove) × AreOfTurn false new more × MovesAll (views_of remaining contents ports prepared) left_of first more (loop_at new (record { control = control; dial = then_ }) now made lost fails)
turn_dials remaining contents ports prepared left_of first moves old new control dial then_ was now stream made lost failed fails port up still asked kept (Made conn made_is brings dials none) m quiet = (
  Dials port true ∷ moves,
  Quiet (tt, tt, quiet) never_came,
  (
    loop_at old (record { control = control; dial = dial }) was stream None failed,
    m,
    record { of_links = tt; up = up; client = dials; links = (refl, refl, same_ports (ports then_) _ (prepared then_) _ asked kept); data_is = (conn, made_is, brings); notes = same_notes lost None fails failed none still },
  ),
)
turn_dials remaining contents ports prepared left_of first moves old new control dial then_ was now stream made lost failed fails port up still asked kept (Refused same misses is) m quiet = (
  Dials port false ∷ moves,
  Quiet (tt, tt, quiet) never_came,
  (
    loop_at old (record { control = control; dial = dial }) was stream None failed,
    m,
    record { of_links = tt; up = up; client = misses; links = (refl, refl, same_ports (ports then_) _ (prepared then_) _ asked kept); data_is = same; notes = same_notes lost (Some DialFailed) fails failed is still },
  ),
)

-- ---- a port is told before it is wanted

-- Behind moves of a turn it is told of the port that the client was told, if there is one: so many moves more lead to where its views
-- are as they are then.
pub record HasPrepared {C D R : Type 0} (remaining contents : C → Option (List ℕ)) (ports prepared : D → Option (List ℕ)) (left_of : R → Option (List ℕ)) (first : LoopState (JobLinks C D) R) (c : ClientState) (control : C) (then_ : D) (later : Option (List (List ℕ))) (stream : Option R) (failed : Bool) : Type 0 where
  pub moves : List JobMove
  pub quiet : AreQuiet moves
  pub dial : D
  pub coming : Option (List (List ℕ))
  pub leads : MovesAll (views_of remaining contents ports prepared) left_of first moves (loop_at c (record { control = control; dial = dial }) coming stream None failed)
  pub ports_are : (ports then_ ≡ ports dial) × (prepared then_ ≡ prepared dial)
  pub coming_is : later ≡ coming

pub asks_told : (b : Bool) (o : Option ℕ) (port : ℕ) → (if b then o else None) ≡ Some port → o ≡ Some port
asks_told true o port e = e
asks_told false o port e = absurd (let clash : None ≡ Some port = e in cc)

-- what is told is told where something was to go out
pub asks_behind : (out : List ℕ) (b : Bool) (o : Option ℕ) (port : ℕ) → b ≡ not (length out == 0) → (if b then o else None) ≡ Some port → out ≢ []
asks_behind out true o port e asks none = let clash : true ≡ false = e ∙ ap (λ (l : List ℕ). not (length l == 0)) none in cc
asks_behind out false o port e asks none = let clash : None ≡ Some port = asks in cc

pub turn_prepares : {C D R : Type 0} (remaining contents : C → Option (List ℕ)) (ports prepared : D → Option (List ℕ)) (left_of : R → Option (List ℕ)) (first : LoopState (JobLinks C D) R) (moves : List JobMove) (c : ClientState) (control : C) (dial then_ : D) (coming later : Option (List (List ℕ))) (stream : Option R) (failed : Bool) (asks : Option ℕ)
    → failed ≡ false → is_running c.outcome ≡ true → c.out ≡ [] → ((port : ℕ) → asks ≡ Some port → port_told c.progress ≡ Some port) → ((port : ℕ) → asks ≡ Some port → WritesRequest moves) → IsTold asks (prepared dial) (prepared then_) → ports then_ ≡ ports dial → later ≡ coming
    → MovesAll (views_of remaining contents ports prepared) left_of first moves (loop_at c (record { control = control; dial = dial }) coming stream None failed)
    → AreQuiet moves → HasPrepared remaining contents ports prepared left_of first c control then_ later stream failed
turn_prepares remaining contents ports prepared left_of first moves c control dial then_ coming later stream failed None up running none tells behind told same none_come m quiet = record {
  moves = moves;
  quiet = quiet;
  dial = dial;
  coming = coming;
  leads = m;
  ports_are = (same, told);
  coming_is = none_come;
}
turn_prepares remaining contents ports prepared left_of first moves c control dial then_ coming later stream failed (Some port) up running none tells behind told same none_come m quiet = record {
  moves = Prepares port ∷ moves;
  quiet = (tt, behind port refl, quiet);
  dial = then_;
  coming = later;
  leads = (
    loop_at c (record { control = control; dial = dial }) coming stream None failed,
    m,
    record { of_links = tt; up = up; client = record { running = running; told = tells port refl; asked = none; same = refl }; links = (refl, refl, same, told); data_is = (none_come, refl); notes = refl },
  );
  ports_are = (refl, refl);
  coming_is = refl;
}

-- what makes the data connections may be told of one that is to come
pub turn_hears : {C D R : Type 0} (remaining contents : C → Option (List ℕ)) (ports prepared : D → Option (List ℕ)) (left_of : R → Option (List ℕ)) (first : LoopState (JobLinks C D) R) (moves : List JobMove) (old new : ClientState) (control now : C) (dial then_ : D) (coming later : Option (List (List ℕ))) (stream : Option R) (lost : Option Loss) (failed fails : Bool)
    → failed ≡ false → fails ≡ failed → (ports then_ ≡ ports dial) × (prepared then_ ≡ prepared dial) → later ≡ coming → HearsOrLoses old (remaining control) new (remaining now) lost
    → MovesAll (views_of remaining contents ports prepared) left_of first moves (loop_at old (record { control = control; dial = dial }) coming stream None failed)
    → AreQuiet moves → (more : List JobMove) × AreOfTurn true new more × MovesAll (views_of remaining contents ports prepared) left_of first more (loop_at new (record { control = now; dial = then_ }) later stream lost fails)
turn_hears remaining contents ports prepared left_of first moves old new control now dial then_ coming later stream lost failed fails up still told none_come (Heard piece some consumed hears none) m quiet = (
  Hears piece ∷ moves,
  Delivered (Hears piece) moves refl tt quiet refl,
  (
    loop_at old (record { control = control; dial = dial }) coming stream None failed,
    m,
    record { of_links = tt; up = up; client = (hears, some); links = (consumed, same_ports (ports then_) _ (prepared then_) _ told.0 told.1); data_is = (none_come, refl); notes = same_notes lost None fails failed none still },
  ),
)
turn_hears remaining contents ports prepared left_of first moves old new control now dial then_ coming later stream lost failed fails up still told none_come (Lost reason consumed loses is) m quiet = (
  Loses links.Control reason ∷ moves,
  Quiet (tt, tt, quiet) (λ _. lost_over old new loses.new_is),
  (
    loop_at old (record { control = control; dial = dial }) coming stream None failed,
    m,
    record { of_links = tt; up = up; client = loses; links = (consumed, same_ports (ports then_) _ (prepared then_) _ told.0 told.1); data_is = none_come; notes = same_notes lost (Some reason) fails failed is still },
  ),
)

pub turn_sees : {L R : Type 0} (views : LinkViews L) (left_of : R → Option (List ℕ)) (old new : ClientState) (at_links : L) (coming : Option (List (List ℕ))) (stream kept : Option R) (conn : R) (lost : Option Loss) (failed fails : Bool) → Consumes (views.remaining at_links) (views.remaining at_links) [] → stream ≡ Some conn
    → failed ≡ false → fails ≡ failed → TakesOrLoses left_of old conn new kept lost
    → (more : List JobMove) × AreOfTurn true new more × MovesAll views left_of (loop_at old at_links coming stream None failed) more (loop_at new at_links coming kept lost fails)
turn_sees views left_of old new at_links coming stream kept conn lost failed fails none_read is_open up still (Took piece behind some consumed takes kept_is none) = (
  Takes piece ∷ [],
  Delivered (Takes piece) [] refl tt tt refl,
  (
    loop_at old at_links coming stream None failed,
    refl,
    record { of_links = tt; up = up; client = (takes, some); links = refl; data_is = (conn, behind, is_open, consumed, refl, kept_is); notes = same_notes lost None fails failed none still },
  ),
)
turn_sees views left_of old new at_links coming stream kept conn lost failed fails none_read is_open up still (Missed reason loses is) = (
  Loses links.Image reason ∷ [],
  Quiet (tt, tt, tt) (λ _. lost_over old new loses.new_is),
  (
    loop_at old at_links coming stream None failed,
    refl,
    record { of_links = tt; up = up; client = loses; links = (none_read, refl); data_is = refl; notes = same_notes lost (Some reason) fails failed is still },
  ),
)

pub turn_used_up : {L R : Type 0} (views : LinkViews L) (left_of : R → Option (List ℕ)) (old new : ClientState) (at_links : L) (coming : Option (List (List ℕ))) (stream : Option R) (loss lost : Option Loss) (failed fails : Bool) → Consumes (views.remaining at_links) (views.remaining at_links) []
    → failed ≡ false → fails ≡ failed → lost ≡ Some UsedUp → is_running old.outcome ≡ true → new ≡ after_loss links.Control old
    → (more : List JobMove) × AreOfTurn false new more × MovesAll views left_of (loop_at old at_links coming stream loss failed) more (loop_at new at_links coming stream lost fails)
turn_used_up views left_of old new at_links coming stream loss lost failed fails none_read up still is running lost_is = (
  Loses links.Control UsedUp ∷ [],
  Quiet (tt, tt, tt) never_came,
  (
    loop_at old at_links coming stream loss failed,
    refl,
    record {
      of_links = tt;
      up = up;
      client = record { lost = running; new_is = lost_is ∙ ap (λ (b : Bool). if b then after_client_end statuses.IoError whys.Lost old else old) running };
      links = (none_read, refl);
      data_is = refl;
      notes = same_notes lost (Some UsedUp) fails failed is still;
    },
  ),
)

-- ---- while the job runs nothing is lost

over_by : (old new : ClientState) → new ≡ after_client_end statuses.IoError whys.Lost old → is_running new.outcome ≡ true → ⊥
over_by old new e running = let clash : false ≡ true = sym (ap (λ (v : ClientState). is_running v.outcome) e) ∙ running in cc

pub dials_held : {R : Type 0} (left_of : R → Option (List ℕ)) (old new : ClientState) (was now : Option (List (List ℕ))) (port : ℕ) (made : Option R) (lost : Option Loss) → DialsOrLoses left_of old was port new now made lost → is_running new.outcome ≡ true → lost ≡ None
dials_held left_of old new was now port made lost (Made conn is brings dials none) running = none
dials_held left_of old new was now port made lost (Refused same misses is) running =
    let new_is = misses.new_is ∙ ap (λ (b : Bool). if b then after_client_end statuses.IoError whys.Lost old else old) (lost_wanted old.outcome old.progress port misses.running misses.wanted) in
    absurd (over_by old new new_is running)

pub over_if : (runs : Bool) (old new : ClientState) → is_running old.outcome ≡ runs → new ≡ (if runs then after_client_end statuses.IoError whys.Lost old else old) → is_running new.outcome ≡ true → ⊥
over_if true old new is e running = over_by old new e running
over_if false old new is e running = let clash : false ≡ true = sym (ap (λ (v : ClientState). is_running v.outcome) e ∙ is) ∙ running in cc

-- the same notes to begin with
pub turn_from : {L R : Type 0} (views : LinkViews L) (left_of : R → Option (List ℕ)) (came : Bool) (old : ClientState) (at_links : L) (coming : Option (List (List ℕ))) (stream : Option R) (was loss : Option Loss) (before failed : Bool) (now : LoopState L R) → loss ≡ was → failed ≡ before
    → (moves : List JobMove) × AreOfTurn came now.client moves × MovesAll views left_of (loop_at old at_links coming stream loss failed) moves now → (moves : List JobMove) × AreOfTurn came now.client moves × MovesAll views left_of (loop_at old at_links coming stream was before) moves now
turn_from views left_of came old at_links coming stream was loss before failed now same still m =
    subst (λ (n : CallNotes). (moves : List JobMove) × AreOfTurn came now.client moves × MovesAll views left_of (record { client = old; links = at_links; coming = coming; stream = stream; notes = n }) moves now) (same_notes loss was failed before same still) m

-- ---- leave is taken

pub leaves_written : {C : Type 0} (contents : C → Option (List ℕ)) (was now : C) (out : List ℕ) (loss lost : Option Loss) (failed fails result : Bool) → failed ≡ false → lost ≡ loss → fails ≡ not result → (IsTrue result → Appends (contents was) (contents now) out)
    → (result ≡ false → (n : ℕ) × (n < length out) × Appends (contents was) (contents now) (take n out)) → TakesLeave contents was (noted_as loss failed) out now (noted_as lost fails)
leaves_written contents was now out loss lost failed fails true up same told whole front = Whole up (whole refl) (same_notes lost loss fails failed same (told ∙ sym up))
leaves_written contents was now out loss lost failed fails false up same told whole front =
    let some = front refl in
    Short up some.0 some.1 some.2 (same_notes lost loss fails true same told)

-- Actions on the data connection of a session that stands, and its leaving.
use Rattle.std.proofs.Common.{◌≡◌, ◌≢◌, ◌⊎◌, inl, inr, ℕ, Bool, true, false, not, ◌||◌, Option, None, Some, is_some, List, [], ◌∷◌, ◌++◌, take, drop, refl, sym, ap, ◌∙◌, subst, append_assoc, IsSome}
use Rattle.std.proofs.lemmas.Bool.{or_right, or_from}
use Rattle.saned_core.specs.DaemonStates.{Core, frame_in, session_of, is_waiting}
use Rattle.saned_core.specs.declared.session_slot.FrameState.{FrameState}
use Rattle.saned_core.specs.declared.session_slot.DataStep.TheVariants.{Idle, Bytes, Last}
use Rattle.saned_core.specs.declared.session_slot.DataStep.{DataStep}
use Rattle.saned_serve.specs.declared.sockets.Got.{Got}
use Rattle.saned_serve.specs.declared.sockets.Got.TheVariants.{Moved, Nothing, Lost}
use Rattle.saned_serve.specs.ConnectionTraces.{ConnectionTrace, IsTrace, after_write, bytes_moved, stirs, is_lost, trace_bytes_written, lost_in}
use Rattle.saned_serve.specs.ConnectionTraces.ConnectionCall.{Write}
use Rattle.saned_serve.specs.ListenerTraces.{ListenerTrace, with_notice}
use Rattle.saned_serve.specs.ListenerTraces.Notice.{Dialed as Dials, Shut, Back}
use Rattle.saned_serve.specs.SessionActions.{ActsOn, IsTurned, written_by, is_end_record, is_idle}
use Rattle.saned_serve.specs.SessionActions.SessionAction.{Looks, Misses, Connect, Turn, Shows, Lose, HangsUp, Leaves}
use Rattle.saned_serve.specs.Journal.{LoopAction, SessionProjection, projection_after, projection_of, listener_trace_act, AreEnds, Closing, JournalLeads, has_stopped, most_record, MayBeLeft, MayHandBackData}
use Rattle.saned_serve.specs.Inside.{TurnPhase, IsAt, ImageTraceMatches, ImageTraceMatchesIn, LinkMatches, HasGoneOn, JournalGoesOn, SendsTo, SendsIn, hung_up, SessionHasEnded, LeavesSession, session_turn}
use Rattle.saned_serve.specs.Journal.LoopAction.{Of}
use Rattle.saned_serve.specs.Inside.TurnPhase.{Spoken, Dialed, Loaded, Shown}
use Rattle.saned_serve.specs.declared.link.SessionLink.{SessionLink}
use Rattle.saned_serve.proofs.ActionSteps.{Trail, trail_begin, trail, trail_next, trail_on, went, told_write, rest_after, all_taken, none_on, carries_on, tells_at, goes_rests}

-- ---- the data connection

none_waits : (b : Bool) → (b ≡ true → ⊥) → b ≡ false
none_waits true h = absurd (h refl)
none_waits false h = refl

-- whether the data had their part is told anew
tells_dialed : {C : Type 0} {history : C → Option ConnectionTrace} {projection : SessionProjection} {l : SessionLink C} (tended : Bool) → LinkMatches history Spoken projection l → l.image ≡ None → tended ≡ true → LinkMatches history Dialed (record projection { tended = tended }) l
tells_dialed {C} {history} {projection} {l} tended tells none had = record {
  is_open = tells.is_open;
  port = tells.port;
  over = tells.over;
  told = tells.told;
  heard = tells.heard;
  said = tells.said;
  waits = tells.waits;
  quiet = tells.quiet;
  held = tells.held;
  carries = carries_on history l.image l.is_last l.records projection (record projection { tended = tended }) refl refl refl refl tells.carries;
  at = (tells.at.0, (λ off. had), λ some. let wrong : false ≡ true = sym (ap is_some none) ∙ some in absurd (let no = wrong in cc));
}

-- there is one
pub goes_images : {C : Type 0} (history : C → Option ConnectionTrace) (d : Core) (n : Option ListenerTrace) (l : SessionLink C) → is_some l.image ≡ true → JournalGoesOn history (session_turn Spoken d n l) false (session_turn Dialed d n l)
goes_images history d n l some = goes_rests history Spoken Dialed d n l l refl (λ projection tells. tells_at tells (tells.at.0, (λ none. let wrong : false ≡ true = sym (ap is_some none) ∙ some in absurd (let no = wrong in cc)), λ is. tells.at.1))

-- no frame waits
pub goes_looks : {C : Type 0} (history : C → Option ConnectionTrace) (d : Core) (n : Option ListenerTrace) (l : SessionLink C) (frame : FrameState) → l.image ≡ None → frame ≡ frame_in (session_of d l.id.number) → is_waiting frame ≡ false → JournalGoesOn history (session_turn Spoken d n l) false (session_turn Dialed d n l)
goes_looks history d n l frame was is rests = record {
  same = refl;
  goes = λ d0 n0 past leads tells.
      let projection = projection_of l.id.number past in
      let dark = subst (λ i. ImageTraceMatchesIn history i l.is_last l.records projection) was tells.carries in
      let first = trail_on (trail d0 n0 past d n l.id.number leads) (Looks frame) d refl (is, refl) (tells.is_open, dark, (tells.at.0.1, tells.at.1)) in
      went Dialed l first (tells_dialed (not (is_waiting frame)) tells was (ap not rests));
}

-- one does, and none came
pub goes_misses : {C : Type 0} (history : C → Option ConnectionTrace) (d : Core) (n : Option ListenerTrace) (l : SessionLink C) (m : Option ListenerTrace) (frame : FrameState) → l.image ≡ None → frame ≡ frame_in (session_of d l.id.number) → is_waiting frame ≡ true → m ≡ with_notice (Dials l.port false) n → JournalGoesOn history (session_turn Spoken d n l) false (session_turn Dialed d m l)
goes_misses history d n l m frame was is waits net = record {
  same = refl;
  goes = λ d0 n0 past leads tells.
      let projection = projection_of l.id.number past in
      let dark = subst (λ i. ImageTraceMatchesIn history i l.is_last l.records projection) was tells.carries in
      let first = trail_on (trail d0 n0 past d n l.id.number leads) (Looks frame) d refl (is, refl) (tells.is_open, dark, (tells.at.0.1, tells.at.1)) in
      let then = trail_on first (Misses l.port) d refl (sym (ap is_waiting is) ∙ waits, refl) (tells.is_open, dark, tells.port, (tells.at.0.1, ap not waits)) in
      subst (λ o. HasGoneOn history Dialed d0 n0 past l.id.number false d o l) (sym net) (went Dialed l then (tells_dialed true tells was refl));
}

-- one came
pub goes_dials : {C : Type 0} (history : C → Option ConnectionTrace) (d : Core) (n : Option ListenerTrace) (l : SessionLink C) (e : Core) (m : Option ListenerTrace) (frame : FrameState) (image : Option C) (records : List ℕ) (conn : C) → l.image ≡ None → frame ≡ frame_in (session_of d l.id.number) → image ≡ Some conn → records ≡ [] → IsTrace (history conn) [] → ActsOn l.id.number d (Connect l.port) e → m ≡ with_notice (Dials l.port true) n
    → JournalGoesOn history (session_turn Spoken d n l) true (session_turn Dialed e m (record l { image = image; records = records; is_last = false }))
goes_dials {C} history d n l e m frame image records conn was is now none fresh does net = record {
  same = refl;
  goes = λ d0 n0 past leads tells.
      let projection = projection_of l.id.number past in
      let dark = subst (λ i. ImageTraceMatchesIn history i l.is_last l.records projection) was tells.carries in
      let first = trail_on (trail d0 n0 past d n l.id.number leads) (Looks frame) d refl (is, refl) (tells.is_open, dark, (tells.at.0.1, tells.at.1)) in
      let then = trail_on first (Connect l.port) e refl does (tells.is_open, dark, tells.port, (tells.at.0.1, ap not (ap is_waiting is ∙ does.waits))) in
      let after = projection_after (Connect l.port) (projection_after (Looks frame) projection) in
      let carries : ImageTraceMatches (history conn) false records after = record { imaging = refl; told = fresh; shown = none; last = refl; more = λ wrong. absurd (let w : false ≡ true = wrong in cc); held = refl } in
      subst (λ o. HasGoneOn history Dialed d0 n0 past l.id.number true e o (record l { image = image; records = records; is_last = false })) (sym net)
      (went Dialed (record l { image = image; records = records; is_last = false }) then (record {
        is_open = tells.is_open;
        port = tells.port;
        over = tells.over;
        told = tells.told;
        heard = tells.heard;
        said = tells.said;
        waits = tells.waits;
        quiet = tells.quiet;
        held = tells.held;
        carries = subst (λ i. ImageTraceMatchesIn history i false records after) (sym now) carries;
        at = (tells.at.0, (λ off. absurd (let wrong : Some conn ≡ None = sym now ∙ off in cc)), λ some. refl);
      }));
}

last_some : (step : DataStep) → is_end_record step ≡ true → is_idle step ≡ false
last_some Idle e = cc
last_some (Bytes n) e = refl
last_some (Last n) e = refl

only_idle : (b : Bool) → (b ≡ false → ⊥) → b ≡ true
only_idle true h = refl
only_idle false h = absurd (h refl)

idle_none : (step : DataStep) (buffer : List ℕ) → is_idle step ≡ true → take (written_by step) buffer ≡ []
idle_none Idle buffer e = refl
idle_none (Bytes n) buffer e = cc
idle_none (Last n) buffer e = cc

never : (b : Bool) → (b ≡ true → ⊥) → b ≡ false
never true h = absurd (h refl)
never false h = refl

not_idle : (step : DataStep) (records : List ℕ) {d e : Core} {number room : ℕ} → records ≢ [] → IsTurned d number room step records e → is_idle step ≡ false
not_idle step records some turned = never (is_idle step) (λ idle. some (turned.front ∙ idle_none step turned.buffer idle))

-- a record is taken where none waits
goes_turns : {C : Type 0} (history : C → Option ConnectionTrace) (d : Core) (n : Option ListenerTrace) (l : SessionLink C) (e : Core) (records : List ℕ) (last : Bool) (step : DataStep) (conn : C) → l.image ≡ Some conn → l.records ≡ [] → last ≡ is_end_record step → (is_idle step ≡ false → records ≢ []) → ActsOn l.id.number d (Turn most_record step records) e
    → JournalGoesOn history (session_turn Dialed d n l) false (session_turn Loaded e n (record l { records = records; is_last = last }))
goes_turns history d n l e records last step conn was none ended some does = record {
  same = refl;
  goes = λ d0 n0 past leads tells.
      let projection = projection_of l.id.number past in
      let had : ImageTraceMatches (history conn) l.is_last l.records projection = subst (λ i. ImageTraceMatchesIn history i l.is_last l.records projection) was tells.carries in
      let alive = sym had.last ∙ none_waits l.is_last (λ b. had.more b none) in
      let all = all_taken (trace_bytes_written projection.image) l.records projection.shown none had.shown in
      let act = Turn most_record step records in
      let first = trail_on (trail d0 n0 past d n l.id.number leads) act e refl does (tells.is_open, had.imaging, refl, alive, all, (tells.at.0.1, tells.at.2 (ap is_some was))) in
      let after = projection_after act projection in
      let carries : ImageTraceMatches (history conn) last records after = record {
        imaging = had.imaging;
        told = had.told;
        shown = none_on (trace_bytes_written projection.image) records projection.shown all;
        last = ended ∙ sym (ap (λ b. b || is_end_record step) alive);
        more = λ b. some (last_some step (sym ended ∙ b));
        held = had.held;
      } in
      went Loaded (record l { records = records; is_last = last }) first (record {
        is_open = tells.is_open;
        port = tells.port;
        over = tells.over;
        told = tells.told;
        heard = tells.heard;
        said = tells.said;
        waits = tells.waits;
        quiet = tells.quiet;
        held = tells.held;
        carries = subst (λ i. ImageTraceMatchesIn history i last records after) (sym was) carries;
        at = (tells.at.0, (λ off. absurd (let wrong : Some conn ≡ None = sym was ∙ off in cc)), (λ empty. only_idle (is_idle step) (λ off. some off empty)), λ is. λ more. not_idle step records more does);
      });
}

pub goes_records : {C : Type 0} (history : C → Option ConnectionTrace) (d : Core) (n : Option ListenerTrace) (l : SessionLink C) (e : Core) (records : List ℕ) (last : Bool) (step : DataStep) (image : Option C) → l.image ≡ image → IsSome image → l.records ≡ [] → last ≡ is_end_record step → (is_idle step ≡ false → records ≢ []) → ActsOn l.id.number d (Turn most_record step records) e
    → JournalGoesOn history (session_turn Dialed d n l) false (session_turn Loaded e n (record l { records = records; is_last = last }))
goes_records history d n l e records last step None was some none ended more does = cc
goes_records history d n l e records last step (Some conn) was some none ended more does = goes_turns history d n l e records last step conn was none ended more does

-- one waits
pub goes_loaded : {C : Type 0} (history : C → Option ConnectionTrace) (d : Core) (n : Option ListenerTrace) (l : SessionLink C) → l.records ≢ [] → JournalGoesOn history (session_turn Dialed d n l) false (session_turn Loaded d n l)
goes_loaded history d n l some = goes_rests history Dialed Loaded d n l l refl (λ projection tells. tells_at tells (tells.at.0, tells.at.1, (λ empty. absurd (some empty)), λ is. λ more. tells.at.2 is))

-- there is no data connection
pub goes_dark : {C : Type 0} (history : C → Option ConnectionTrace) (d : Core) (n : Option ListenerTrace) (l : SessionLink C) → l.image ≡ None → JournalGoesOn history (session_turn Dialed d n l) false (session_turn Shown d n l)
goes_dark history d n l none = goes_rests history Dialed Shown d n l l refl (λ projection tells. tells_at tells (tells.at.0, tells.at.1 none))

-- what is the same once the calls of the data connection, and what waits for it, are others
with_image : {C : Type 0} (history : C → Option ConnectionTrace) (projection after : SessionProjection) (l : SessionLink C) (image : Option C) (records : List ℕ) → LinkMatches history Loaded projection l
    → after ≡ record projection { image = after.image; imaging = after.imaging; dropped = after.dropped; tended = after.tended } → after.tended ≡ true → ImageTraceMatchesIn history image l.is_last records after → LinkMatches history Shown after (record l { image = image; records = records })
with_image {C} history projection after l image records tells same tended carries =
    let v = record projection { image = after.image; imaging = after.imaging; dropped = after.dropped; tended = after.tended } in
    subst (λ w. LinkMatches history Shown w (record l { image = image; records = records })) (sym same) (record {
      is_open = tells.is_open;
      port = tells.port;
      over = tells.over;
      told = tells.told;
      heard = tells.heard;
      said = tells.said;
      waits = tells.waits;
      quiet = tells.quiet;
      held = tells.held;
      carries = subst (λ w. ImageTraceMatchesIn history image l.is_last records w) same carries;
      at = (tells.at.0, tended);
    })

-- a write of a record, where there is a connection and a record
pub record Sent {C : Type 0} (history : C → Option ConnectionTrace) (got : Got) (l k : SessionLink C) : Type 0 where
  pub conn : C
  pub was : l.image ≡ Some conn
  pub some : l.records ≢ []
  pub now : C
  pub image : k.image ≡ Some now
  pub told : history now ≡ after_write got l.records (history conn)
  pub rest : k.records ≡ drop (bytes_moved got) l.records

sent_to : {C : Type 0} (history : C → Option ConnectionTrace) (got : Got) (l k : SessionLink C) (conn : C) → l.image ≡ Some conn → (got ≡ Nothing → ⊥) → SendsTo history got conn l.records k.image k.records → Sent history got l k
sent_to history got l k conn was off (inl none) = absurd (off none.1)
sent_to history got l k conn was off (inr some) = record { conn = conn; was = was; some = some.0; now = some.1; image = some.2; told = some.3; rest = some.4 }

sent : {C : Type 0} (history : C → Option ConnectionTrace) (got : Got) (l k : SessionLink C) (image : Option C) → l.image ≡ image → (got ≡ Nothing → ⊥) → SendsIn history got image l.records k.image k.records → Sent history got l k
sent history got l k None was off sends = absurd (off sends.0)
sent history got l k (Some conn) was off sends = sent_to history got l k conn was off sends

-- after it
carries_sent : {C : Type 0} (history : C → Option ConnectionTrace) (got : Got) (l k : SessionLink C) (projection : SessionProjection) → (s : Sent history got l k) → ImageTraceMatches (history s.conn) l.is_last l.records projection → (l.is_last ≡ true → k.records ≢ []) → lost_in (Write got l.records ∷ projection.image) ≡ false
    → ImageTraceMatches (history s.now) l.is_last k.records (projection_after (Shows got l.records) projection)
carries_sent history got l k projection s had more held = record {
  imaging = had.imaging;
  told = told_write got l.records (history s.conn) (history s.now) projection.image s.told had.told;
  shown = ap (λ xs. trace_bytes_written (Write got l.records ∷ projection.image) ++ xs) s.rest ∙ rest_after (trace_bytes_written projection.image) l.records projection.shown (bytes_moved got) had.shown;
  last = had.last;
  more = more;
  held = held;
}

goes_sent : {C : Type 0} (history : C → Option ConnectionTrace) (got : Got) (d : Core) (n : Option ListenerTrace) (l k : SessionLink C) → k ≡ record l { image = k.image; records = k.records } → Sent history got l k → (l.is_last ≡ true → k.records ≢ []) → ((b : Bool) → b ≡ false → (b || is_lost got) ≡ false)
    → JournalGoesOn history (session_turn Loaded d n l) (stirs got) (session_turn Shown d n k)
goes_sent history got d n l k link s more held = record {
  same = ap (λ x. x.id) link;
  goes = λ d0 n0 past leads tells.
      let projection = projection_of l.id.number past in
      let had : ImageTraceMatches (history s.conn) l.is_last l.records projection = subst (λ i. ImageTraceMatchesIn history i l.is_last l.records projection) s.was tells.carries in
      let act = Shows got l.records in
      let first = trail_on (trail d0 n0 past d n l.id.number leads) act d refl refl (tells.is_open, had.imaging, s.some, had.shown, (tells.at.0.1, tells.at.3 (ap is_some s.was) s.some)) in
      let carries = carries_sent history got l k projection s had more (held (lost_in projection.image) had.held) in
      let now = with_image history projection (projection_after act projection) l k.image k.records tells refl refl (subst (λ i. ImageTraceMatchesIn history i l.is_last k.records (projection_after act projection)) (sym s.image) carries) in
      went Shown k first (subst (λ x. LinkMatches history Shown (projection_after act projection) x) (sym link) now);
}

-- nothing was written
pub goes_shows_none : {C : Type 0} (history : C → Option ConnectionTrace) (d : Core) (n : Option ListenerTrace) (l k : SessionLink C) → k ≡ record l { image = k.image; records = k.records } → SendsIn history Nothing l.image l.records k.image k.records → JournalGoesOn history (session_turn Loaded d n l) false (session_turn Shown d n k)
goes_shows_none {C} history d n l k link sends = by_image l.image refl sends
  where
    same : k.image ≡ l.image → k.records ≡ l.records → ((projection : SessionProjection) → IsAt Loaded projection l → projection.tended ≡ true) → JournalGoesOn history (session_turn Loaded d n l) false (session_turn Shown d n k)
    same image records tended =
        let whole = link ∙ ap (λ i. record l { image = i; records = k.records }) image ∙ ap (λ r. record l { image = l.image; records = r }) records in
        subst (λ x. JournalGoesOn history (session_turn Loaded d n l) false (session_turn Shown d n x)) (sym whole) (goes_rests history Loaded Shown d n l l refl (λ projection tells. tells_at tells (tells.at.0, tended projection tells.at)))

    by_case : (conn : C) → l.image ≡ Some conn → SendsTo history Nothing conn l.records k.image k.records → JournalGoesOn history (session_turn Loaded d n l) false (session_turn Shown d n k)
    by_case conn was (inl none) = same (none.2 ∙ sym was) none.3 (λ projection at. at.2 none.0)
    by_case conn was (inr some) =
        goes_sent history Nothing d n l k link (record { conn = conn; was = was; some = some.0; now = some.1; image = some.2; told = some.3; rest = some.4 })
        (λ last. λ none. some.0 (sym some.4 ∙ none)) (λ b e. or_from b false e refl)

    by_image : (image : Option C) → l.image ≡ image → SendsIn history Nothing image l.records k.image k.records → JournalGoesOn history (session_turn Loaded d n l) false (session_turn Shown d n k)
    by_image None was sends = same (sends.1 ∙ sym was) sends.2 (λ projection at. at.1 was)
    by_image (Some conn) was sends = by_case conn was sends

-- a piece was, and not all of the end record
pub goes_shows : {C : Type 0} (history : C → Option ConnectionTrace) (d : Core) (n : Option ListenerTrace) (l k : SessionLink C) (count : ℕ) → k ≡ record l { image = k.image; records = k.records } → SendsIn history (Moved count) l.image l.records k.image k.records → (l.is_last ≡ true → k.records ≢ []) → JournalGoesOn history (session_turn Loaded d n l) true (session_turn Shown d n k)
goes_shows history d n l k count link sends more =
    goes_sent history (Moved count) d n l k link (sent history (Moved count) l k l.image refl (λ e. let wrong : Moved count ≡ Nothing = e in cc) sends) more (λ b e. or_from b false e refl)

-- what the listeners are told of the connection
hung : {C : Type 0} (history : C → Option ConnectionTrace) (k : SessionLink C) (now : C) (n : Option ListenerTrace) → k.image ≡ Some now → hung_up history k.image n ≡ with_notice (Back (history now)) n
hung history k now n e = ap (λ i. hung_up history i n) e

-- the end record is written, and the connection handed back
pub goes_shows_last : {C : Type 0} (history : C → Option ConnectionTrace) (d : Core) (n : Option ListenerTrace) (l k j : SessionLink C) (m : Option ListenerTrace) (count : ℕ) → k ≡ record l { image = k.image; records = k.records } → SendsIn history (Moved count) l.image l.records k.image k.records
    → l.is_last ≡ true → k.records ≡ [] → j ≡ record k { image = None } → m ≡ hung_up history k.image n → JournalGoesOn history (session_turn Loaded d n l) true (session_turn Shown d m j)
goes_shows_last {C} history d n l k j m count link sends last none gone net =
    let s = sent history (Moved count) l k l.image refl (λ e. let wrong : Moved count ≡ Nothing = e in cc) sends in
    let whole = gone ∙ ap (λ (x : SessionLink C). record x { image = None }) link in
    record {
      same = ap (λ x. x.id) whole;
      goes = λ d0 n0 past leads tells.
          let projection = projection_of l.id.number past in
          let had : ImageTraceMatches (history s.conn) l.is_last l.records projection = subst (λ i. ImageTraceMatchesIn history i l.is_last l.records projection) s.was tells.carries in
          let act = Shows (Moved count) l.records in
          let projection1 = projection_after act projection in
          let first = trail_on (trail d0 n0 past d n l.id.number leads) act d refl refl (tells.is_open, had.imaging, s.some, had.shown, (tells.at.0.1, tells.at.3 (ap is_some s.was) s.some)) in
          let rest = rest_after (trace_bytes_written projection.image) l.records projection.shown count had.shown in
          let all = all_taken (trace_bytes_written projection1.image) (drop count l.records) projection.shown (sym s.rest ∙ none) rest in
          let told = told_write (Moved count) l.records (history s.conn) (history s.now) projection.image s.told had.told in
          let then = trail_on first (HangsUp (history s.now)) d refl refl (tells.is_open, had.imaging, told, (drop count l.records, sym rest), inl (inl (sym had.last ∙ last, all))) in
          let now = with_image history projection (projection_after (HangsUp (history s.now)) projection1) l None k.records tells refl refl refl in
          subst (λ o. HasGoneOn history Shown d0 n0 past l.id.number true d o j) (sym (net ∙ hung history k s.now n s.image))
          (went Shown j then (subst (λ x. LinkMatches history Shown (projection_after (HangsUp (history s.now)) projection1) x) (sym whole) now));
    }

-- the connection is found lost
pub goes_shows_lost : {C : Type 0} (history : C → Option ConnectionTrace) (d : Core) (n : Option ListenerTrace) (l k j : SessionLink C) (e : Core) (m : Option ListenerTrace) → k ≡ record l { image = k.image; records = k.records } → SendsIn history Lost l.image l.records k.image k.records
    → ActsOn l.id.number d Lose e → j ≡ record k { image = None } → m ≡ hung_up history k.image n → JournalGoesOn history (session_turn Loaded d n l) true (session_turn Shown e m j)
goes_shows_lost {C} history d n l k j e m link sends does gone net =
    let s = sent history Lost l k l.image refl (λ e. let wrong : Lost ≡ Nothing = e in cc) sends in
    let whole = gone ∙ ap (λ (x : SessionLink C). record x { image = None }) link in
    record {
      same = ap (λ x. x.id) whole;
      goes = λ d0 n0 past leads tells.
          let projection = projection_of l.id.number past in
          let had : ImageTraceMatches (history s.conn) l.is_last l.records projection = subst (λ i. ImageTraceMatchesIn history i l.is_last l.records projection) s.was tells.carries in
          let act = Shows Lost l.records in
          let projection1 = projection_after act projection in
          let projection2 = projection_after Lose projection1 in
          let first = trail_on (trail d0 n0 past d n l.id.number leads) act d refl refl (tells.is_open, had.imaging, s.some, had.shown, (tells.at.0.1, tells.at.3 (ap is_some s.was) s.some)) in
          let then = trail_on first Lose e refl does (tells.is_open, had.imaging, or_right (lost_in projection.image) true refl) in
          let told = told_write Lost l.records (history s.conn) (history s.now) projection.image s.told had.told in
          let last = trail_on then (HangsUp (history s.now)) e refl refl (tells.is_open, had.imaging, told, (drop 0 l.records, sym (rest_after (trace_bytes_written projection.image) l.records projection.shown 0 had.shown)), inl (inr (inl refl))) in
          let now = with_image history projection (projection_after (HangsUp (history s.now)) projection2) l None k.records tells refl refl refl in
          subst (λ o. HasGoneOn history Shown d0 n0 past l.id.number true e o j) (sym (net ∙ hung history k s.now n s.image))
          (went Shown j last (subst (λ x. LinkMatches history Shown (projection_after (HangsUp (history s.now)) projection2) x) (sym whole) now));
    }

-- ---- a session is left

pub parts_hung : {C : Type 0} (history : C → Option ConnectionTrace) (d : Core) (n : Option ListenerTrace) (l : SessionLink C) (m : Option ListenerTrace) (e : Core) (o : Option ListenerTrace) → m ≡ hung_up history l.image n → ActsOn l.id.number d (Leaves l.port (history l.conn)) e → o ≡ with_notice (Back (history l.conn)) (with_notice (Shut l.port) m) → LeavesSession history (record { daemon = d; listeners = n }) l (record { daemon = e; listeners = o })
parts_hung {C} history d n l m e o net does back = record {
  goes = λ phase d0 n0 past leads tells why. by_image phase d0 n0 past leads tells why l.image refl (back ∙ ap (λ x. with_notice (Back (history l.conn)) (with_notice (Shut l.port) x)) net);
}
  where
    ended : (id : ℕ) (d0 : Core) (n0 : Option ListenerTrace) (past since : List LoopAction) → AreEnds since → (q : Option ListenerTrace) (projection : SessionProjection) → (t : Trail d0 n0 past id 1 false e q projection) → t.journal ≡ since ++ past → projection.is_open ≡ false → projection.imaging ≡ false → o ≡ q
        → (w : SessionHasEnded d0 n0 past id false e o) × Closing past w.journal
    ended id d0 n0 past since ends q projection t is gone dark same = (
      record {
        journal = t.journal;
        more = (since, is);
        leads = subst (λ x. JournalLeads d0 n0 t.journal e x) (sym same) t.leads;
        gone = ap (λ v. v.is_open) t.at ∙ gone;
        dark = ap (λ v. v.imaging) t.at ∙ dark;
        others = t.others;
        tally = t.tally;
        stopped = t.stopped;
        asked = t.asked;
        crowd = t.crowd;
      },
      (since, ends, is),
    )

    by_image : (phase : TurnPhase) (d0 : Core) (n0 : Option ListenerTrace) (past : List LoopAction) → JournalLeads d0 n0 past d n → LinkMatches history phase (projection_of l.id.number past) l → MayBeLeft (projection_of l.id.number past) ⊎ (has_stopped past ≡ true)
        → (image : Option C) → l.image ≡ image → o ≡ with_notice (Back (history l.conn)) (with_notice (Shut l.port) (hung_up history image n)) → (w : SessionHasEnded d0 n0 past l.id.number false e o) × Closing past w.journal
    by_image phase d0 n0 past leads tells why None was same =
        let id = l.id.number in
        let projection = projection_of id past in
        let dark = subst (λ i. ImageTraceMatchesIn history i l.is_last l.records projection) was tells.carries in
        let act = Leaves l.port (history l.conn) in
        let begin = trail_begin d0 n0 past d n id leads in
        let next = trail_next begin.0 act e refl does (tells.is_open, dark, tells.port, tells.told, tells.heard, (l.replies, sym tells.said), why) in
        ended id d0 n0 past (Of id act ∷ []) (tt, tt) (listener_trace_act act n) (projection_after act projection) next.0 (next.1 ∙ ap (λ xs. Of id act ∷ xs) begin.1) refl dark same
    by_image phase d0 n0 past leads tells why (Some conn) was same =
        let id = l.id.number in
        let projection = projection_of id past in
        let had : ImageTraceMatches (history conn) l.is_last l.records projection = subst (λ i. ImageTraceMatchesIn history i l.is_last l.records projection) was tells.carries in
        let act1 = HangsUp (history conn) in
        let act = Leaves l.port (history l.conn) in
        let begin = trail_begin d0 n0 past d n id leads in
        let first = trail_next begin.0 act1 d refl refl (tells.is_open, had.imaging, had.told, (l.records, sym had.shown), reason projection why) in
        let next = trail_next first.0 act e refl does (tells.is_open, refl, tells.port, tells.told, tells.heard, (l.replies, sym tells.said), why) in
        ended id d0 n0 past (Of id act ∷ Of id act1 ∷ []) (tt, (tt, tt)) (listener_trace_act act (listener_trace_act act1 n)) (projection_after act (projection_after act1 projection)) next.0
        (next.1 ∙ ap (λ xs. Of id act ∷ xs) (first.1 ∙ ap (λ xs. Of id act1 ∷ xs) begin.1)) refl refl same
      where
        reason : (projection : SessionProjection) → MayBeLeft projection ⊎ (has_stopped past ≡ true) → MayHandBackData projection ⊎ (has_stopped past ≡ true)
        reason projection (inl done) = inl (inr (inr done))
        reason projection (inr stopped) = inr stopped

ends_append : (xs ys : List LoopAction) → AreEnds xs → AreEnds ys → AreEnds (xs ++ ys)
ends_append [] ys a b = b
ends_append (x ∷ xs) ys a b = (a.0, ends_append xs ys a.1 b)

pub closing_then : (past mid journal : List LoopAction) → Closing past mid → Closing mid journal → Closing past journal
closing_then past mid journal first then = (
  then.0 ++ first.0,
  ends_append then.0 first.0 then.1 first.1,
  then.2 ∙ ap (λ xs. then.0 ++ xs) first.2 ∙ sym (append_assoc then.0 first.0 past),
)

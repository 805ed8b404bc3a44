-- Parts of a turn, of what calls of a daemon and a client do.
use Rattle.std.specs.Prelude.{◌<◌, ◌≤◌, ◌+◌, ◌||◌, not}
use Rattle.std.proofs.Common.{◌≡◌, ◌≢◌, ◌∙◌, ◌⊎◌, inl, inr, ℕ, zero, suc, Bool, true, false, Option, Some, None, List, [], ◌∷◌, ◌++◌, length, take, refl, sym, ap, subst, arith, append-nil}
use Rattle.std.proofs.lemmas.List.{take_all}
use Rattle.scan_job.specs.declared.job.Job.{Job}
use Rattle.client_replies.specs.ProtocolStates.{scans}
use Rattle.client_replies.specs.declared.progress.JobTarget.{JobTarget}
use Rattle.net_client.specs.ClientStates.{ClientState, IsNewClient}
use Rattle.net_jobs.specs.JobJournal.{JobMove, given_by}
use Rattle.net_jobs.specs.JobJournal.JobMove.{Dials, Hears as HearsMove, Takes as TakesMove, Writes}
use Rattle.net_jobs.specs.JobSteps.{GivesOut, HearsAndGives, JobStep, TakesAndGives}
use Rattle.saned_core.specs.declared.session_slot.Fed.TheVariants.{Standing}
use Rattle.saned_core.specs.declared.session_slot.DataStep.{DataStep}
use Rattle.saned_core.specs.DaemonStates.{Core, frame_in, is_waiting, session_of}
use Rattle.saned_serve.specs.declared.sockets.Got.TheVariants.{Moved, Nothing}
use Rattle.saned_serve.specs.ConnectionTraces.{trace_bytes_written}
use Rattle.saned_serve.specs.SessionActions.{AreRepliesTaken, IsOpened, SessionAction, frame_begins, is_end_record, is_idle}
use Rattle.saned_serve.specs.SessionActions.SessionAction.{Opens, Hears, Feed, Forgets, Take, Says, Looks, Misses, Connect, Turn, Shows, HangsUp}
use Rattle.saned_serve.specs.ListenerTraces.{ListenerTrace}
use Rattle.saned_serve.specs.Journal.{IsBehindItsTurn, IsFront, JournalLeads, LoopAction, SessionProjection, empty_projection, listener_trace_act, projection_of}
use Rattle.saned_serve.specs.Journal.LoopAction.{Of}
use Rattle.saned_serve.proofs.ActionSteps.{eqb_off, life_off, not_both}
use Rattle.interleaving.specs.Interleavings.{bytes_heard, bytes_sent, bytes_taken, connections_accepted, connections_made, job_journal, server_journal}
use Rattle.interleaving.specs.Interleavings.Traffic.{Writes as WritesBytes, Reads as ReadsBytes, Dials as MakesConnection, Takes as TakesBytes}
use Rattle.interleaving.specs.Interleavings.JointAction.{OfJob, OfServer}
use Rattle.interleaving.specs.HandingOn.{HandsOn}
use Rattle.programs_refine.specs.WorkedRuns.{owned_by_first}
use Rattle.worked_run.specs.Rounds.{GivesFile, IsDialledOnce, IsRecord, IsCallRound, said_all}
use Rattle.worked_run.specs.UnderWay.{Flows, HasView, IsAtData, IsAtRest, IsClientOf, IsTurnDue, IsRunQuiet, IsRunUnderWay, Rests, View}
use Rattle.worked_run.proofs.Acts.{acted, acts_on, asked_view, moved, steps_on, turned_view, turns_on, waits_on}
use Rattle.worked_run.proofs.Clients.{dials_on, first_client, gives_on, hears_on, says_on, takes_on}

no_end : false ≡ true → {A : Type 0} → A
no_end e = absurd (let clash : false ≡ true = e in cc)

-- what is written whole is taken whole
whole : (bytes : List ℕ) → take (length bytes) bytes ≡ bytes
whole bytes = take_all (length bytes) bytes (let e : length bytes ≤ length bytes = omega arith in e)

-- ---- a turn begins, and nothing comes

pub begins : (imaging : Bool) (job : Job) (start d : Core) (c : ClientState) (file : List ℕ) → IsAtRest imaging job start d c file → IsAtData imaging job start d c file
begins imaging job start d c file r =
    let v = r.v in
    let q = r.rests.quiet in
    let waits = waits_on job start d c v r.under_way r.rests.asked in
    let hears = acts_on job start d d c (asked_view v) (Hears Nothing 4096 []) waits refl refl refl (λ stopped. (q.stands, q.drained, q.wrote, q.read, r.rests.visited, refl)) tt in
    record {
      v = acted (Hears Nothing 4096 []) (asked_view v);
      under_way = hears;
      due = record {
        quiet = record {
          stands = q.stands;
          over = q.over;
          drained = q.drained;
          begun = q.begun;
          held = ap (λ (b : Bool). b || false) q.held;
          wrote = q.wrote;
          read = append-nil _ ∙ q.read;
          sent = q.sent;
          heard = q.heard;
          images = q.images;
          accepted = q.accepted;
          flows = λ on. let f = q.flows on in record { going = f.going; up = f.up; known = f.known; shown = f.shown; taken = f.taken };
        };
        visited = refl;
        tended = r.rests.tended;
        asked = refl;
      };
      client = r.client;
      gave = r.gave;
    }

-- ---- and it ends, where no data connection is

-- the data had their part
abbrev tended_view : View → View
tended_view v = record v { projection = record v.projection { tended = true } }

tended_by : (job : Job) (start d : Core) (c : ClientState) (v : View) (b : Bool) → is_waiting (frame_in (session_of d 0)) ≡ b → IsRunUnderWay job start d c v → IsTurnDue false v → IsRunUnderWay job start d c (tended_view v)
tended_by job start d c v true waits u due = acts_on job start d d c v (Misses v.projection.port) u refl refl (waits, refl) (λ stopped. (due.quiet.stands, due.quiet.images, refl, (due.visited, due.tended))) tt
tended_by job start d c v false none u due =
    let looked = acts_on job start d d c v (Looks (frame_in (session_of d 0))) u refl refl (refl, refl) (λ stopped. (due.quiet.stands, due.quiet.images, (due.visited, due.tended))) tt in
    subst (λ (b : Bool). IsRunUnderWay job start d c (record v { projection = record v.projection { tended = not b } })) none looked

behind_quiet : (v : View) → IsRunQuiet false v → v.projection.visited ≡ true → v.projection.tended ≡ true → IsBehindItsTurn v.projection
behind_quiet v q visited tended = record {
  visited = visited;
  held = q.held;
  replies = λ over. absurd (not_both over q.over);
  tended = tended;
  shows = λ on. absurd (not_both on q.images);
}

-- no turn changes what is quiet
quiet_turned : (imaging : Bool) (v : View) → IsRunQuiet imaging v → IsRunQuiet imaging (turned_view v)
quiet_turned imaging v q = record {
  stands = q.stands;
  over = q.over;
  drained = q.drained;
  begun = q.begun;
  held = q.held;
  wrote = q.wrote;
  read = q.read;
  sent = q.sent;
  heard = q.heard;
  images = q.images;
  accepted = q.accepted;
  flows = λ on. let f = q.flows on in record { going = f.going; up = f.up; known = f.known; shown = f.shown; taken = f.taken };
}

quiet_tended : (v : View) → IsRunQuiet false v → IsRunQuiet false (tended_view v)
quiet_tended v q = record {
  stands = q.stands;
  over = q.over;
  drained = q.drained;
  begun = q.begun;
  held = q.held;
  wrote = q.wrote;
  read = q.read;
  sent = q.sent;
  heard = q.heard;
  images = q.images;
  accepted = q.accepted;
  flows = λ on. no_end on;
}

pub tends : (job : Job) (start d : Core) (c : ClientState) (file : List ℕ) → IsAtData false job start d c file → IsAtRest false job start d c file
tends job start d c file a =
    let v = a.v in
    let tended = tended_by job start d c v (is_waiting (frame_in (session_of d 0))) refl a.under_way a.due in
    let quiet = quiet_tended v a.due.quiet in
    record {
      v = turned_view (tended_view v);
      under_way = turns_on job start d c (tended_view v) tended a.due.asked (behind_quiet (tended_view v) quiet a.due.visited refl);
      rests = record { quiet = quiet_turned false (tended_view v) quiet; visited = refl; spoken = refl; tended = refl; asked = refl };
      client = a.client;
      gave = a.gave;
    }

-- ---- a request and its replies

abbrev writes_step : List ℕ → JobStep
writes_step bytes = record { move = Writes bytes; gives = []; turned = false }

abbrev hears_step : List ℕ → List JobMove → JobStep
hears_step piece gives = record { move = HearsMove piece; gives = gives; turned = false }

-- the listeners are asked to forget, if a frame began
forgets : (job : Job) (start d : Core) (c : ClientState) (v : View) (b : Bool) → v.projection.begun ≡ b → v.projection.is_open ≡ true → IsRunUnderWay job start d c v → IsRunUnderWay job start d c (record v { projection = record v.projection { begun = false } })
forgets job start d c v true begun here u = acts_on job start d d c v (Forgets false v.projection.port) u refl refl refl (λ stopped. (here, begun, refl)) tt
forgets job start d c v false none here u = subst (λ (b : Bool). IsRunUnderWay job start d c (record v { projection = record v.projection { begun = b } })) none u

scans_as : (job : Job) (c : ClientState) (scan : Bool) → scan ≡ scans job.task → IsClientOf job c → scan ≡ scans c.target.task
scans_as job c scan is client = is ∙ sym (ap (λ (t : JobTarget). scans t.task) client.target)

pub rounds : (scan : Bool) (job : Job) (start d : Core) (c : ClientState) (file bytes : List ℕ) (e : Core) (after : ClientState) → scan ≡ scans job.task → IsAtRest false job start d c file → IsCallRound scan d c bytes e after → IsAtRest false job start e after (file ++ bytes)
rounds scan job start d c file bytes e after is r x =
    let v = r.v in
    let q = r.rests.quiet in
    let said = said_all c in
    let out = c.out in
    let begins_frame = frame_begins d 0 x.fed in
    let said_client = says_on job c r.client in
    let v1 : View = moved (WritesBytes out) [] v in
    let u1 = steps_on job start d c said v (writes_step out) r.under_way (refl, refl, record { all = refl; new_is = refl }) refl refl tt in
    let v2 : View = asked_view v1 in
    let u2 = waits_on job start d said v1 u1 r.rests.asked in
    let v3 : View = acted (Hears (Moved (length out)) 4096 out) v2 in
    let u3 = acts_on job start d d said v2 (Hears (Moved (length out)) 4096 out) u2 refl refl refl (λ stopped. (q.stands, q.drained, q.wrote, q.read, r.rests.visited, refl)) tt in
    let v4 : View = acted (Feed out Standing begins_frame) v3 in
    let fed_front : IsFront (v.projection.heard ++ out) (v.sent ++ out) = ([], ap (λ (l : List ℕ). l ++ out) q.sent ∙ sym (append-nil _)) in
    let u4 = acts_on job start d x.fed said v3 (Feed out Standing begins_frame) u3 refl refl (x.feeds, refl) (λ stopped. (q.stands, ap (λ (l : List ℕ). l ++ out) (sym q.read), x.piece.0, x.piece.1)) fed_front in
    let v5 : View = record v4 { projection = record v4.projection { begun = false } } in
    let u5 = forgets job start x.fed said v4 begins_frame refl q.stands u4 in
    let v6 : View = acted (Take 4096 x.reply) v5 in
    let u6 = acts_on job start x.fed x.told said v5 (Take 4096 x.reply) u5 refl refl x.takes (λ stopped. (q.stands, refl, refl, q.wrote)) tt in
    let v7 : View = acted (Says (Moved (length x.reply)) x.reply) v6 in
    let u7 = acts_on job start x.told x.told said v6 (Says (Moved (length x.reply)) x.reply) u6 refl refl refl (λ stopped. (q.stands, x.is_piece.0, ap (λ (l : List ℕ). l ++ x.reply) q.wrote, r.rests.spoken)) tt in
    let v8 : View = moved (ReadsBytes x.reply) x.gives.gives v7 in
    let hears : HearsAndGives said x.reply (hears_step x.reply x.gives.gives) after = record {
      is_piece = x.is_piece;
      heard = x.heard;
      hears = x.hears;
      gives_out = subst (λ (b : Bool). GivesOut b false x.heard x.gives.gives after) (scans_as job said scan is said_client) x.gives.out;
      batch = λ on. no_end on;
    } in
    let heard_front : IsFront (v.heard ++ x.reply) (v.projection.said ++ x.reply) = ([], ap (λ (l : List ℕ). l ++ x.reply) (sym q.heard) ∙ sym (append-nil _)) in
    let u8 = steps_on job start x.told said after v7 (hears_step x.reply x.gives.gives) u7 hears refl refl heard_front in
    let v9 : View = acted (Take 4096 []) v8 in
    let wrote : trace_bytes_written v.projection.control ++ take (length x.reply) x.reply ≡ v.projection.said ++ x.reply = ap (λ (l : List ℕ). trace_bytes_written v.projection.control ++ l) (whole x.reply) ∙ ap (λ (l : List ℕ). l ++ x.reply) q.wrote in
    let u9 = acts_on job start x.told e after v8 (Take 4096 []) u8 refl refl x.none (λ stopped. (q.stands, refl, refl, wrote)) tt in
    tends job start e after (file ++ bytes) (record {
      v = v9;
      under_way = u9;
      due = record {
        quiet = record {
          stands = q.stands;
          over = ap (λ (b : Bool). b || false) q.over;
          drained = refl;
          begun = refl;
          held = ap (λ (b : Bool). (b || false) || false) q.held;
          wrote = wrote ∙ sym (append-nil _);
          read = ap (λ (l : List ℕ). l ++ out) q.read;
          sent = ap (λ (l : List ℕ). l ++ out) q.sent;
          heard = ap (λ (l : List ℕ). l ++ x.reply) q.heard ∙ sym (append-nil _);
          images = q.images;
          accepted = q.accepted;
          flows = λ on. no_end on;
        };
        visited = refl;
        tended = refl;
        asked = refl;
      };
      client = gives_on scan job x.heard bytes after x.gives (hears_on job said x.reply x.heard x.hears x.lives said_client);
      gave = ap (λ (l : List ℕ). (l ++ []) ++ given_by x.gives.gives) r.gave ∙ ap (λ (l : List ℕ). l ++ given_by x.gives.gives) (append-nil file) ∙ ap (λ (l : List ℕ). file ++ l) x.gives.gave;
    })

-- ---- a data connection

abbrev dials_step : ℕ → JobStep
dials_step port = record { move = Dials port true; gives = []; turned = false }

pub connects : (job : Job) (start d : Core) (c : ClientState) (file : List ℕ) (e : Core) (after : ClientState) → IsAtData false job start d c file → IsDialledOnce d c e after → IsAtData true job start e after file
connects job start d c file e after a x =
    let v = a.v in
    let q = a.due.quiet in
    let v1 : View = moved MakesConnection [] v in
    let u1 = steps_on job start d c after v (dials_step x.port) a.under_way (refl, refl, x.dials) refl refl tt in
    let more : v.accepted < v.made + 1 = (let same = q.accepted in omega (arith, same)) in
    let u2 = acts_on job start d e after v1 (Connect v.projection.port) u1 refl refl x.connects (λ stopped. (q.stands, q.images, refl, (a.due.visited, a.due.tended))) more in
    record {
      v = acted (Connect v.projection.port) v1;
      under_way = u2;
      due = record {
        quiet = record {
          stands = q.stands;
          over = q.over;
          drained = q.drained;
          begun = q.begun;
          held = q.held;
          wrote = q.wrote;
          read = q.read;
          sent = q.sent;
          heard = q.heard;
          images = refl;
          accepted = ap (λ (n : ℕ). n + 1) q.accepted;
          flows = λ on. record { going = refl; up = refl; known = refl; shown = refl; taken = refl };
        };
        visited = a.due.visited;
        tended = refl;
        asked = a.due.asked;
      };
      client = dials_on job c x.port after x.dials a.client;
      gave = append-nil _ ∙ a.gave;
    }

-- ---- a record

abbrev takes_step : List ℕ → List JobMove → JobStep
takes_step piece gives = record { move = TakesMove piece; gives = gives; turned = false }

-- where the record is taken and written
abbrev shown_view : DataStep → List ℕ → List JobMove → View → View
shown_view step bytes gives v = moved (TakesBytes bytes) gives (acted (Shows (Moved (length bytes)) bytes) (acted (Turn 65483 step bytes) v))

record IsShown (job : Job) (start e : Core) (after : ClientState) (step : DataStep) (bytes : List ℕ) (gives : List JobMove) (v : View) : Type 0 where
  under_way : IsRunUnderWay job start e after (shown_view step bytes gives v)
  wrote : trace_bytes_written v.projection.image ++ take (length bytes) bytes ≡ v.projection.shown ++ bytes
  client : IsClientOf job after

is_shown : (scan : Bool) (job : Job) (start d : Core) (c : ClientState) (file bytes : List ℕ) (step : DataStep) (e : Core) (after : ClientState) → scan ≡ scans job.task → (a : IsAtData true job start d c file) → (x : IsRecord scan d c step bytes e after) → IsShown job start e after step x.piece x.gives.gives a.v
is_shown scan job start d c file bytes step e after is a x =
    let v = a.v in
    let q = a.due.quiet in
    let f = q.flows refl in
    let v1 : View = acted (Turn 65483 step x.piece) v in
    let u1 = acts_on job start d e c v (Turn 65483 step x.piece) a.under_way refl refl x.turns (λ stopped. (q.stands, q.images, refl, f.going, f.shown, (a.due.visited, a.due.tended))) tt in
    let v2 : View = acted (Shows (Moved (length x.piece)) x.piece) v1 in
    let u2 = acts_on job start e e c v1 (Shows (Moved (length x.piece)) x.piece) u1 refl refl refl (λ stopped. (q.stands, q.images, x.is_piece.0, ap (λ (l : List ℕ). l ++ x.piece) f.shown, (a.due.visited, x.some))) tt in
    let takes : TakesAndGives c x.piece (takes_step x.piece x.gives.gives) after = record {
      is_piece = x.is_piece;
      taken = x.taken;
      takes = x.takes;
      gives_out = subst (λ (b : Bool). GivesOut b false x.taken x.gives.gives after) (scans_as job c scan is a.client) x.gives.out;
      batch = λ on. no_end on;
    } in
    let front : IsFront (v.taken ++ x.piece) (v.projection.shown ++ x.piece) = ([], ap (λ (l : List ℕ). l ++ x.piece) (sym f.taken) ∙ sym (append-nil _)) in
    record {
      under_way = steps_on job start e c after v2 (takes_step x.piece x.gives.gives) u2 takes refl refl (q.accepted, front, f.known);
      wrote = ap (λ (l : List ℕ). trace_bytes_written v.projection.image ++ l) (whole x.piece) ∙ ap (λ (l : List ℕ). l ++ x.piece) f.shown;
      client = gives_on scan job x.taken bytes after x.gives (takes_on job c x.piece x.taken x.takes a.client);
    }

quiet_shown : (step : DataStep) (bytes : List ℕ) (gives : List JobMove) (v : View) → trace_bytes_written v.projection.image ++ take (length bytes) bytes ≡ v.projection.shown ++ bytes → is_end_record step ≡ false → IsRunQuiet true v → IsRunQuiet true (shown_view step bytes gives v)
quiet_shown step bytes gives v wrote more q =
    let f = q.flows refl in
    record {
      stands = q.stands;
      over = q.over;
      drained = q.drained;
      begun = q.begun;
      held = q.held;
      wrote = q.wrote;
      read = q.read;
      sent = q.sent;
      heard = q.heard;
      images = q.images;
      accepted = q.accepted;
      flows = λ on. record {
        going = ap (λ (b : Bool). b || is_end_record step) f.going ∙ more;
        up = ap (λ (b : Bool). b || false) f.up;
        known = f.known;
        shown = wrote;
        taken = ap (λ (l : List ℕ). l ++ bytes) f.taken;
      };
    }

pub shows_more : (scan : Bool) (job : Job) (start d : Core) (c : ClientState) (file bytes : List ℕ) (step : DataStep) (e : Core) (after : ClientState) → scan ≡ scans job.task → is_end_record step ≡ false → IsAtData true job start d c file → IsRecord scan d c step bytes e after → IsAtRest true job start e after (file ++ bytes)
shows_more scan job start d c file bytes step e after is more a x =
    let v = a.v in
    let s = is_shown scan job start d c file bytes step e after is a x in
    let v3 : View = shown_view step x.piece x.gives.gives v in
    let quiet = quiet_shown step x.piece x.gives.gives v s.wrote more a.due.quiet in
    let f = quiet.flows refl in
    record {
      v = turned_view v3;
      under_way = turns_on job start e after v3 s.under_way a.due.asked (record {
        visited = a.due.visited;
        held = quiet.held;
        replies = λ over. absurd (not_both over quiet.over);
        tended = refl;
        shows = λ on. (f.up, λ last. absurd (not_both last f.going));
      });
      rests = record { quiet = quiet_turned true v3 quiet; visited = refl; spoken = refl; tended = refl; asked = refl };
      client = s.client;
      gave = ap (λ (l : List ℕ). l ++ given_by x.gives.gives) a.gave ∙ ap (λ (l : List ℕ). file ++ l) x.gives.gave;
    }

pub shows_last : (scan : Bool) (job : Job) (start d : Core) (c : ClientState) (file bytes : List ℕ) (step : DataStep) (e : Core) (after : ClientState) → scan ≡ scans job.task → is_end_record step ≡ true → IsAtData true job start d c file → IsRecord scan d c step bytes e after → IsAtRest false job start e after (file ++ bytes)
shows_last scan job start d c file bytes step e after is last a x =
    let v = a.v in
    let q = a.due.quiet in
    let s = is_shown scan job start d c file bytes step e after is a x in
    let v3 : View = shown_view step x.piece x.gives.gives v in
    let ended : v3.projection.last ≡ true = ap (λ (b : Bool). b || is_end_record step) (q.flows refl).going ∙ last in
    let v4 : View = acted (HangsUp (Some v3.projection.image)) v3 in
    let u4 = acts_on job start e e after v3 (HangsUp (Some v3.projection.image)) s.under_way refl refl refl (λ stopped. (q.stands, q.images, refl, ([], sym s.wrote ∙ sym (append-nil _)), inl (inl (ended, s.wrote)))) tt in
    let quiet : IsRunQuiet false v4 = record {
      stands = q.stands;
      over = q.over;
      drained = q.drained;
      begun = q.begun;
      held = q.held;
      wrote = q.wrote;
      read = q.read;
      sent = q.sent;
      heard = q.heard;
      images = refl;
      accepted = q.accepted;
      flows = λ on. no_end on;
    } in
    record {
      v = turned_view v4;
      under_way = turns_on job start e after v4 u4 a.due.asked (behind_quiet v4 quiet a.due.visited refl);
      rests = record { quiet = quiet_turned false v4 quiet; visited = refl; spoken = refl; tended = refl; asked = refl };
      client = s.client;
      gave = ap (λ (l : List ℕ). l ++ given_by x.gives.gives) a.gave ∙ ap (λ (l : List ℕ). file ++ l) x.gives.gave;
    }

-- ---- the first turn

abbrev opened_view : ℕ → View
opened_view port = record { projection = record empty_projection { is_open = true; port = port }; asked = true; sent = []; heard = []; taken = []; made = 0; accepted = 0; given = [] }

none_first : (id : ℕ) → projection_of id [] ≡ empty_projection
unfolding projection_of
none_first id = refl

unused_first : (id port : ℕ) → 1 ≤ id → projection_of id (Of 0 (Opens port) ∷ []) ≡ empty_projection
unused_first id port low = life_off id (Of 0 (Opens port)) [] (eqb_off 0 id (λ same. omega (arith, low, same))) ∙ none_first id

opens_first : (start d : Core) (port : ℕ) → start.opened ≡ 0 → IsOpened start port 0 d → JournalLeads start None (Of 0 (Opens port) ∷ []) d (listener_trace_act (Opens port) None)
unfolding projection_of
opens_first start d port none is = record {
  is_journal = (tt, (refl, λ e. (refl, omega arith)));
  run = (start, refl, is);
  net = refl;
  unused = λ id low. unused_first id port (let opened = ap (λ (x : Core). x.opened) is.after in omega (arith, low, opened));
}

under_way_first : (job : Job) (start d : Core) (c : ClientState) (port : ℕ) → start.opened ≡ 0 → IsOpened start port 0 d → IsNewClient job c → IsRunUnderWay job start d c (opened_view port)
unfolding server_journal job_journal HandsOn projection_of bytes_sent bytes_heard bytes_taken connections_made connections_accepted
under_way_first job start d c port none is new = record {
  acts = OfServer (Of 0 (Opens port)) ∷ [];
  view = record { projection = refl; asked = refl; sent = refl; heard = refl; taken = refl; made = refl; accepted = refl; given = refl };
  first = c;
  fresh = new;
  steps = refl;
  up = refl;
  after = listener_trace_act (Opens port) None;
  serves = opens_first start d port none is;
  opened = ap (λ (x : Core). x.opened) is.after ∙ ap (λ (n : ℕ). n + 1) none;
  one = refl;
  hands_on = (tt, (0, refl));
}

pub first_turn : (job : Job) (start d e : Core) (c : ClientState) (port : ℕ) → start.opened ≡ 0 → IsOpened start port 0 d → AreRepliesTaken d 0 4096 [] e → IsNewClient job c → IsAtRest false job start e c []
first_turn job start d e c port none is takes new =
    let v1 : View = acted (Take 4096 []) (opened_view port) in
    let u1 = acts_on job start d e c (opened_view port) (Take 4096 []) (under_way_first job start d c port none is new) refl refl takes (λ stopped. (refl, refl, refl, refl)) tt in
    let u2 = acts_on job start e e c v1 (Hears Nothing 4096 []) u1 refl refl refl (λ stopped. (refl, refl, refl, refl, refl, refl)) tt in
    tends job start e c [] (record {
      v = acted (Hears Nothing 4096 []) v1;
      under_way = u2;
      due = record {
        quiet = record { stands = refl; over = refl; drained = refl; begun = refl; held = refl; wrote = refl; read = refl; sent = refl; heard = refl; images = refl; accepted = refl; flows = λ on. no_end on };
        visited = refl;
        tended = refl;
        asked = refl;
      };
      client = first_client job c new;
      gave = refl;
    })

-- The trace of a job, event by event.
use Rattle.std.proofs.Common.{◌≡◌, ◌∙◌, ◌⊎◌, ℕ, Bool, true, false, Option, Some, None, List, [], ◌∷◌, ◌++◌, refl, sym, ap, subst, append_assoc, inl, inr}
use Rattle.std.specs.Prelude.{if◌then◌else◌, not}
use Rattle.std.proofs.lemmas.List.{append-nil}
use Rattle.sane_fixed.specs.declared.byte_order.ByteOrder.{ByteOrder}
use Rattle.sane_fixed.specs.declared.params.Params.{Params}
use Rattle.sane_fixed.specs.declared.status.Status.{Status}
use Rattle.sane_fixed.specs.declared.status.Status.TheVariants as statuses
use Rattle.page_picture.specs.Shows.{Frame}
use Rattle.frame_join.specs.declared.join_stage.JoinFault.{JoinFault}
use Rattle.frame_join.specs.declared.join_stage.JoinFault.TheVariants.{Shape, NoMem}
use Rattle.frame_join.specs.FrameHistory.{JoinHistory, empty_history, with_fault, after_begin_at as begun_past, after_begin, is_joined, is_accepted}
use Rattle.wire_message.specs.declared.message.Procedure.{Procedure}
use Rattle.wire_message.specs.declared.message.Reply.{Reply}
use Rattle.wire_message.specs.declared.message.Reply.TheVariants as replies
use Rattle.scan_job.specs.declared.job.Job.{Job}
use Rattle.scan_job.specs.declared.job.Task.{Task}
use Rattle.client_replies.specs.declared.progress.JobTarget.{JobTarget}
use Rattle.client_replies.specs.declared.progress.Progress.{Progress}
use Rattle.client_replies.specs.declared.progress.Progress.TheVariants as stages
use Rattle.client_replies.specs.declared.progress.Notes.{Notes}
use Rattle.client_replies.specs.declared.progress.Next.{Next}
use Rattle.client_replies.specs.declared.progress.Next.TheVariants.{Wait, Finish, Stop}
use Rattle.client_replies.specs.ProtocolStates.{ProtocolState, target_of, is_running, next_outcome, next_progress, heard_at, answer_to, after_reply, shaped_by}
use Rattle.net_client.specs.ClientStates.{ClientState, protocol_of, IsNewClient}
use Rattle.net_client.specs.ReplyPieces.{awaited_procedure, HearsReplies, HasHeard}
use Rattle.net_jobs.specs.JobTraces.{TraceEvent, Replied, JobTrace, EventLeads, EventsLead, initial_trace, BytesMatchTrace}
use Rattle.net_jobs.specs.Inside.{ports_opened}
use Rattle.net_jobs.proofs.InvariantRecords.{came_in}

-- ---- what a reply makes of the join's history

at_status : (status : Status) (port : ℕ) (order : ByteOrder) (params : Params) (past : JoinHistory) → ((shaped_by status port order params past).history ≡ past) ⊎ ((shaped_by status port order params past).history ≡ after_begin params order false past)
at_status statuses.Good port order params past = inr refl
at_status status port order params past = inl refl

with_params : (past then_ : JoinHistory) (order : ByteOrder) (params : Params) → (then_ ≡ past) ⊎ (then_ ≡ after_begin params order false past) → (then_ ≡ past) ⊎ ((params : Params) × (then_ ≡ after_begin params order false past))
with_params past then_ order params (inl e) = inl e
with_params past then_ order params (inr e) = inr (params, e)

with_order : (past then_ : JoinHistory) (order : ByteOrder) → (then_ ≡ past) ⊎ ((params : Params) × (then_ ≡ after_begin params order false past)) → (then_ ≡ past) ⊎ ((params : Params) × (order : ByteOrder) × (then_ ≡ after_begin params order false past))
with_order past then_ order (inl e) = inl e
with_order past then_ order (inr e) = inr (e.0, order, e.1)

at_shape : (port : ℕ) (order : ByteOrder) (target : JobTarget) (notes : Notes) (past : JoinHistory) (r : Reply)
    → ((heard_at (stages.Shaping port order) target notes past r).history ≡ past) ⊎ ((params : Params) × ((heard_at (stages.Shaping port order) target notes past r).history ≡ after_begin params order false past))
at_shape port order target notes past (replies.GetParameters status params) = with_params past _ order params (at_status status port order params past)
at_shape port order target notes past r = inl refl

pub at_reply : (progress : Progress) (target : JobTarget) (notes : Notes) (past : JoinHistory) (r : Reply)
    → ((heard_at progress target notes past r).history ≡ past) ⊎ ((params : Params) × (order : ByteOrder) × ((heard_at progress target notes past r).history ≡ after_begin params order false past))
at_reply (stages.Shaping port order) target notes past r = with_order past _ order (at_shape port order target notes past r)
at_reply progress target notes past r = inl refl

-- a frame that begins changes nothing of what was given, and has no byte
begun_if : (joined accepted : Bool) (params : Params) (order : ByteOrder) (past : JoinHistory) → came_in past.under ≡ []
    → ((if joined then past else (if not accepted then with_fault Shape past else (if false then with_fault NoMem past else record past { under = Some (record { params = params; order = order; payload = [] }) }))).given ≡ past.given)
    × (came_in (if joined then past else (if not accepted then with_fault Shape past else (if false then with_fault NoMem past else record past { under = Some (record { params = params; order = order; payload = [] }) }))).under ≡ [])
begun_if true accepted params order past clean = (refl, clean)
begun_if false false params order past clean = (refl, clean)
begun_if false true params order past clean = (refl, refl)

begun_with : (fault : Option JoinFault) (under : Option Frame) (params : Params) (order : ByteOrder) (past : JoinHistory) → came_in past.under ≡ []
    → ((begun_past fault under params order false past).given ≡ past.given) × (came_in (begun_past fault under params order false past).under ≡ [])
begun_with (Some f) under params order past clean = (refl, clean)
begun_with None (Some g) params order past clean = (refl, clean)
begun_with None None params order past clean = begun_if (is_joined past.ended) (is_accepted past.ended params order) params order past clean

begins : (params : Params) (order : ByteOrder) (past : JoinHistory) → came_in past.under ≡ [] → ((after_begin params order false past).given ≡ past.given) × (came_in (after_begin params order false past).under ≡ [])
unfolding after_begin
begins params order past clean = begun_with past.fault past.under params order past clean

keeps : (past then_ : JoinHistory) → came_in past.under ≡ [] → (then_ ≡ past) ⊎ ((params : Params) × (order : ByteOrder) × (then_ ≡ after_begin params order false past)) → (then_.given ≡ past.given) × (came_in then_.under ≡ [])
keeps past then_ clean (inl e) = (ap (λ (p : JoinHistory). p.given) e, ap (λ (p : JoinHistory). came_in p.under) e ∙ clean)
keeps past then_ clean (inr e) = (ap (λ (p : JoinHistory). p.given) e.2 ∙ (begins e.0 e.1 past clean).0, ap (λ (p : JoinHistory). came_in p.under) e.2 ∙ (begins e.0 e.1 past clean).1)

pub reply_keeps : (target : JobTarget) (t : ProtocolState) (r : Reply) → came_in t.history.under ≡ [] → ((after_reply target t r).history.given ≡ t.history.given) × (came_in (after_reply target t r).history.under ≡ [])
reply_keeps target t r clean = keeps t.history _ clean (at_reply t.progress target t.notes t.history r)

pub hears_keep : (target : JobTarget) (t u : ProtocolState) (rs : List Reply) (text sent : List ℕ) → came_in t.history.under ≡ [] → HearsReplies target t rs text sent u → (u.history.given ≡ t.history.given) × (came_in u.history.under ≡ [])
hears_keep target t u [] text sent clean h = (ap (λ (x : ProtocolState). x.history.given) h.2, ap (λ (x : ProtocolState). came_in x.history.under) h.2 ∙ clean)
hears_keep target t u (r ∷ rs) text sent clean h =
    let one = reply_keeps target t r clean in
    let more = hears_keep target (after_reply target t r) u rs h.1 h.3 one.1 h.8 in
    (more.0 ∙ one.0, more.1)

-- ---- replies one after another

-- the trace with replies more
abbrev pub heard_on : JobTrace → List ℕ → List ℕ → ProtocolState → JobTrace
heard_on was text sent u = record { text = was.text ++ text; streams = was.streams; pages = was.pages; sent = was.sent ++ sent; protocol = u }

live_next : (task : Task) (notes : Notes) (next : Next) (procedure : Procedure) → awaited_procedure (next_progress next) ≡ Some procedure → is_running (next_outcome task notes next) ≡ true
live_next task notes (Wait progress) procedure e = refl
live_next task notes (Finish devices) procedure e = absurd (let clash : None ≡ Some procedure = e in cc)
live_next task notes (Stop status why) procedure e = absurd (let clash : None ≡ Some procedure = e in cc)

heard_none : (was : JobTrace) (text sent : List ℕ) (u : ProtocolState) → text ≡ [] → sent ≡ [] → u ≡ was.protocol → was ≡ heard_on was text sent u
heard_none was text sent u a b e =
    ap (λ (l : List ℕ). record was { text = l }) (sym (ap (λ (l : List ℕ). was.text ++ l) a ∙ append-nil was.text))
    ∙ ap (λ (l : List ℕ). record was { text = was.text ++ text; sent = l }) (sym (ap (λ (l : List ℕ). was.sent ++ l) b ∙ append-nil was.sent))
    ∙ ap (λ (x : ProtocolState). heard_on was text sent x) (sym e)

heard_twice : (was : JobTrace) (front back said more : List ℕ) (t u : ProtocolState) → heard_on (heard_on was front said t) back more u ≡ heard_on was (front ++ back) (said ++ more) u
heard_twice was front back said more t u =
    ap (λ (l : List ℕ). record { text = l; streams = was.streams; pages = was.pages; sent = (was.sent ++ said) ++ more; protocol = u }) (append_assoc was.text front back)
    ∙ ap (λ (l : List ℕ). record { text = was.text ++ (front ++ back); streams = was.streams; pages = was.pages; sent = l; protocol = u }) (append_assoc was.sent said more)

pub runs_hear : (target : JobTarget) (first was : JobTrace) (events : List TraceEvent) (rs : List Reply) (text sent : List ℕ) (u : ProtocolState) → ((procedure : Procedure) → awaited_procedure was.protocol.progress ≡ Some procedure → is_running was.protocol.outcome ≡ true)
    → EventsLead target first events was → HearsReplies target was.protocol rs text sent u → (more : List TraceEvent) × EventsLead target first more (heard_on was text sent u) × (ports_opened more ≡ ports_opened events)
runs_hear target first was events [] text sent u live runs h = (events, subst (λ (c : JobTrace). EventsLead target first events c) (heard_none was text sent u h.0 h.1 h.2) runs, refl)
runs_hear target first was events (r ∷ rs) text sent u live runs h =
    let now : JobTrace = heard_on was h.0 h.2 (after_reply target was.protocol r) in
    let here : EventLeads target was (Replied r) now = (h.0, h.2, live h.6.procedure h.6.awaited_is, h.6, h.7, refl) in
    let rest = runs_hear target first now (Replied r ∷ events) rs h.1 h.3 u (λ procedure e. live_next target.task (answer_to target was.protocol r).turn.notes (answer_to target was.protocol r).turn.next procedure e) (was, runs, here) h.8 in (
      rest.0,
      subst (λ (c : JobTrace). EventsLead target first rest.0 c)
          (heard_twice was h.0 h.1 h.2 h.3 (after_reply target was.protocol r) u ∙ ap (λ (l : List ℕ). heard_on was l (h.2 ++ h.3) u) (sym h.4) ∙ ap (λ (l : List ℕ). heard_on was text l u) (sym h.5)) rest.1,
      rest.2,
    )

-- ---- what a job did

abbrev pub did_nothing : (job : Job) (c : ClientState) → IsNewClient job c → BytesMatchTrace job (initial_trace job) (record { read_ = []; wrote = []; rest = []; left = c.out })
did_nothing job c f = record { events = []; hello = c.out; runs = refl; read_is = refl; hello_is = f.text; wrote_is = append-nil c.out }

pub fresh_is : (job : Job) (c : ClientState) → IsNewClient job c → protocol_of c empty_history ≡ (initial_trace job).protocol
fresh_is job c f = ap (λ (v : ClientState). protocol_of v empty_history) f.value

-- replies of a piece
pub did_hear : (job : Job) (trace : JobTrace) (read_ wrote rest : List ℕ) (old new : ClientState) (past : JoinHistory) (piece : List ℕ) → old.target ≡ target_of job → protocol_of old past ≡ trace.protocol → old.input.rest ≡ rest
    → is_running old.outcome ≡ true → (d : BytesMatchTrace job trace (record { read_ = read_; wrote = wrote; rest = rest; left = old.out })) → (h : HasHeard old past piece new)
    → (e : BytesMatchTrace job (heard_on trace h.text h.sent (protocol_of new h.history_then)) (record { read_ = read_ ++ piece; wrote = wrote; rest = new.input.rest; left = new.out })) × (ports_opened e.events ≡ ports_opened d.events)
did_hear job trace read_ wrote rest old new past piece target exchange_is rest_is running d h =
    let hears : HearsReplies (target_of job) trace.protocol h.told h.text h.sent (protocol_of new h.history_then)
    = subst (λ (t : ProtocolState). HearsReplies (target_of job) t h.told h.text h.sent (protocol_of new h.history_then)) exchange_is (subst (λ (e : JobTarget). HearsReplies e (protocol_of old past) h.told h.text h.sent (protocol_of new h.history_then)) target h.hears) in
    let runs = runs_hear (target_of job) (initial_trace job) trace d.events h.told h.text h.sent (protocol_of new h.history_then) (λ procedure e. ap (λ (t : ProtocolState). is_running t.outcome) (sym exchange_is) ∙ running) d.runs hears in (
      record {
        events = runs.0;
        hello = d.hello;
        runs = runs.1;
        read_is = ap (λ (l : List ℕ). l ++ piece) d.read_is ∙ append_assoc trace.text rest piece ∙ ap (λ (l : List ℕ). trace.text ++ l) (ap (λ (l : List ℕ). l ++ piece) (sym rest_is) ∙ h.whole) ∙ sym (append_assoc trace.text h.text new.input.rest);
        hello_is = d.hello_is;
        wrote_is = sym (append_assoc d.hello trace.sent h.sent) ∙ ap (λ (l : List ℕ). l ++ h.sent) d.wrote_is ∙ append_assoc wrote old.out h.sent ∙ ap (λ (l : List ℕ). wrote ++ l) (sym h.out);
      },
      runs.2,
    )

-- bytes that go out
abbrev pub did_write : (job : Job) (trace : JobTrace) (read_ wrote rest left piece after_ : List ℕ) → left ≡ piece ++ after_ → BytesMatchTrace job trace (record { read_ = read_; wrote = wrote; rest = rest; left = left }) → BytesMatchTrace job trace (record { read_ = read_; wrote = wrote ++ piece; rest = rest; left = after_ })
did_write job trace read_ wrote rest left piece after_ e d = record {
  events = d.events;
  hello = d.hello;
  runs = d.runs;
  read_is = d.read_is;
  hello_is = d.hello_is;
  wrote_is = d.wrote_is ∙ ap (λ (l : List ℕ). wrote ++ l) e ∙ sym (append_assoc wrote piece after_);
}

-- the same bytes are left
abbrev pub did_leave : (job : Job) (trace : JobTrace) (read_ wrote rest left after_ : List ℕ) → left ≡ after_ → BytesMatchTrace job trace (record { read_ = read_; wrote = wrote; rest = rest; left = left }) → BytesMatchTrace job trace (record { read_ = read_; wrote = wrote; rest = rest; left = after_ })
did_leave job trace read_ wrote rest left after_ e d = record {
  events = d.events;
  hello = d.hello;
  runs = d.runs;
  read_is = d.read_is;
  hello_is = d.hello_is;
  wrote_is = d.wrote_is ∙ ap (λ (l : List ℕ). wrote ++ l) e;
}

-- bytes that were read and no more
abbrev pub did_read : (job : Job) (trace : JobTrace) (read_ wrote rest left piece : List ℕ) → BytesMatchTrace job trace (record { read_ = read_; wrote = wrote; rest = rest; left = left }) → BytesMatchTrace job trace (record { read_ = read_ ++ piece; wrote = wrote; rest = rest ++ piece; left = left })
did_read job trace read_ wrote rest left piece d = record {
  events = d.events;
  hello = d.hello;
  runs = d.runs;
  read_is = ap (λ (l : List ℕ). l ++ piece) d.read_is ∙ append_assoc trace.text rest piece;
  hello_is = d.hello_is;
  wrote_is = d.wrote_is;
}

-- an event for which nothing is sent
abbrev pub did_quiet : (job : Job) (trace now : JobTrace) (event : TraceEvent) (read_ wrote rest left : List ℕ) → EventLeads (target_of job) trace event now → now.text ≡ trace.text → now.sent ≡ trace.sent
    → BytesMatchTrace job trace (record { read_ = read_; wrote = wrote; rest = rest; left = left }) → BytesMatchTrace job now (record { read_ = read_; wrote = wrote; rest = rest; left = left })
did_quiet job trace now event read_ wrote rest left lives text sent d = record {
  events = event ∷ d.events;
  hello = d.hello;
  runs = (trace, d.runs, lives);
  read_is = d.read_is ∙ ap (λ (l : List ℕ). l ++ rest) (sym text);
  hello_is = d.hello_is;
  wrote_is = ap (λ (l : List ℕ). d.hello ++ l) sent ∙ d.wrote_is;
}

-- one for which this is sent
abbrev pub did_say : (job : Job) (trace now : JobTrace) (event : TraceEvent) (read_ wrote rest left said : List ℕ) → EventLeads (target_of job) trace event now → now.text ≡ trace.text → now.sent ≡ trace.sent ++ said
    → BytesMatchTrace job trace (record { read_ = read_; wrote = wrote; rest = rest; left = left }) → BytesMatchTrace job now (record { read_ = read_; wrote = wrote; rest = rest; left = left ++ said })
did_say job trace now event read_ wrote rest left said lives text sent d = record {
  events = event ∷ d.events;
  hello = d.hello;
  runs = (trace, d.runs, lives);
  read_is = d.read_is ∙ ap (λ (l : List ℕ). l ++ rest) (sym text);
  hello_is = d.hello_is;
  wrote_is = ap (λ (l : List ℕ). d.hello ++ l) sent ∙ sym (append_assoc d.hello trace.sent said) ∙ ap (λ (l : List ℕ). l ++ said) d.wrote_is ∙ append_assoc wrote left said;
}

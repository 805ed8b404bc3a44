-- The ports that a job asks for are those of its START replies.
use Rattle.std.proofs.Common.{◌≡◌, ◌∙◌, ◌⊎◌, inl, inr, ℕ, true, false, Option, Some, None, List, [], ◌∷◌, ◌++◌, refl, sym, ap, subst, append_assoc}
use Rattle.sane_fixed.specs.declared.status.Status.{Status}
use Rattle.sane_fixed.specs.declared.status.Status.TheVariants as statuses
use Rattle.sane_fixed.specs.declared.byte_order.ByteOrder.{ByteOrder}
use Rattle.sane_fixed.specs.declared.params.Params.{Params}
use Rattle.frame_join.specs.FrameHistory.{JoinHistory}
use Rattle.wire_format.specs.Limit.{limited_format}
use Rattle.wire_message.specs.Message.{message_limit, reply}
use Rattle.wire_message.specs.declared.message.Procedure.{Procedure}
use Rattle.wire_message.specs.declared.message.Procedure.TheVariants as procedures
use Rattle.wire_message.specs.declared.message.Reply.{Reply}
use Rattle.wire_message.specs.declared.message.Reply.TheVariants as replies
use Rattle.scan_job.specs.declared.job.Job.{Job}
use Rattle.scan_job.specs.declared.job.Task.{Task}
use Rattle.scan_job.specs.declared.job.Task.TheVariants as tasks
use Rattle.scan_job.specs.declared.outcome.Outcome.{Outcome}
use Rattle.scan_job.specs.declared.outcome.Outcome.TheVariants.{Running, Done, Ended}
use Rattle.client_replies.specs.declared.progress.JobTarget.{JobTarget}
use Rattle.client_replies.specs.declared.progress.Progress.{Progress}
use Rattle.client_replies.specs.declared.progress.Progress.TheVariants as stages
use Rattle.client_replies.specs.declared.progress.Notes.{Notes}
use Rattle.client_replies.specs.declared.progress.Next.{Next}
use Rattle.client_replies.specs.declared.progress.Next.TheVariants.{Wait, Finish, Stop}
use Rattle.client_replies.proofs.TurnRows.{BeforeStart, AtOpening, AtReopening, AtDescribing, AtPutting, AtGetting, TurnRow, Greets, Challenges, Admits, Allows, Reloads, Puts, Gets, Starts, Begins, Images, turn_row, EndRow, NextFrame, NextPage, end_row}
use Rattle.client_replies.specs.ReplyTurns.{FrameEnd, after_greeting}
use Rattle.sane_fixed.specs.Status.{status_of}
use Rattle.client_replies.specs.ProtocolStates.{Answer, is_running, is_receiving, wanted_port, next_outcome, target_of, next_progress, turns, answer_to, progress_connected}
use Rattle.net_client.specs.ReplyPieces.{IsReply}
use Rattle.net_jobs.specs.JobTraces.{TraceEvent, Replied, Opened, Came, Finished, Gave, Turned, JobTrace, EventsLead, EventLeads, initial_trace, frame_end_at, ports_named, port_named}
use Rattle.net_jobs.specs.Inside.{ports_opened}
use Rattle.net_jobs.specs.RunPromises.{AreAskedFor}
use Rattle.net_jobs.proofs.InvariantRecords.{AsksPorts}
use Rattle.net_jobs.proofs.FileNumbers.{is_turning_at}

-- a port that was named, and at which no connection was asked for yet
abbrev awaits : Progress → List ℕ
awaits (stages.Shaping port order) = port ∷ []
awaits (stages.Imaging port false) = port ∷ []
awaits progress = []

-- ---- each reply

abbrev IsOneAtMost : List ℕ → Type 0
IsOneAtMost ports = (ports ≡ []) ⊎ ((port : ℕ) × (ports ≡ port ∷ []))

-- the ports that are named then, and were not asked for: the job waits with them, or they are one at most and it is over
abbrev Lands : List ℕ → Next → Type 0
Lands ports (Wait progress) = ports ≡ awaits progress
Lands ports (Finish devices) = IsOneAtMost ports
Lands ports (Stop status why) = IsOneAtMost ports

named_by_start : (status : Status) (port : ℕ) (order : ByteOrder) (resource : List ℕ) → IsOneAtMost (port_named (replies.Start status port order resource) ++ [])
named_by_start statuses.Good port order [] = inr (port, refl)
named_by_start statuses.Good port order (b ∷ bytes) = inl refl
named_by_start status port order resource = inl refl

-- only a reply to GET_PARAMETERS is heard while it is waited for
is_params : (text : List ℕ) (r : Reply) → (limited_format message_limit (reply procedures.GetParameters)).spells text r → (status : Status) × (params : Params) × (r ≡ replies.GetParameters status params)
unfolding limited_format reply
is_params text r s = (s.1.first, s.1.behind.first, s.1.behind.behind.1)

-- each names one port at most, with the one that awaits its connection
named_few : (progress : Progress) (text : List ℕ) (r : Reply) → IsReply progress text r → IsOneAtMost (port_named r ++ awaits progress)
named_few (stages.Shaping port order) text r is =
    let same : procedures.GetParameters ≡ is.procedure = (let e : Some procedures.GetParameters ≡ Some is.procedure = is.awaited_is in cc) in
    let shaped = is_params text r (subst (λ (x : Procedure). (limited_format message_limit (reply x)).spells text r) (sym same) is.spelled) in
    subst (λ (x : Reply). IsOneAtMost (port_named x ++ port ∷ [])) (sym shaped.2) (inr (port, refl))
named_few (stages.Imaging port opened) text r is = absurd (let clash : None ≡ Some is.procedure = is.awaited_is in cc)
named_few progress text (replies.Start status port order resource) is = named_by_start status port order resource
named_few progress text r is = inl refl

before_start : {progress : Progress} {r : Reply} → BeforeStart progress r → port_named r ++ awaits progress ≡ []
before_start AtOpening = refl
before_start AtReopening = refl
before_start AtDescribing = refl
before_start AtPutting = refl
before_start AtGetting = refl

greeting : (task : Task) → [] ≡ awaits (after_greeting task)
greeting tasks.List = refl
greeting task = refl

row_lands : (task : Task) (password : List ℕ) (notes : Notes) (past : JoinHistory) (progress : Progress) (text : List ℕ) (r : Reply) (a : Answer) → TurnRow task password notes past progress r a → IsReply progress text r → Lands (port_named r ++ awaits progress) a.turn.next
row_lands task password notes past progress text r a Greets is = greeting task
row_lands task password notes past progress text r a (Challenges b bytes answer q e) is = before_start q
row_lands task password notes past progress text r a (Admits word q) is = before_start q
row_lands task password notes past progress text r a Allows is = refl
row_lands task password notes past progress text r a (Reloads now q k) is = before_start q
row_lands task password notes past progress text r a (Puts now n option name asked value e reads q k) is = before_start q
row_lands task password notes past progress text r a (Gets now n option e m q k) is = before_start q
row_lands task password notes past progress text r a (Starts now scanned q k) is = before_start q
row_lands task password notes past progress text r a Begins is = refl
row_lands task password notes past progress text r a (Images calm) is = refl
row_lands task password notes past progress text r a _ is = named_few progress text r is

-- ---- a frame's end

end_lands : (task : Task) (file : ℕ) (past : JoinHistory) (ending : FrameEnd) → EndRow task file past ending → Lands [] ending.next
end_lands task file past ending (NextFrame e) = refl
end_lands task file past ending (NextPage joined more) = refl
end_lands task file past ending _ = inl refl

-- ---- event by event

abbrev Names : Outcome → Progress → List ℕ → List ℕ → Type 0
Names Running progress opened named = named ≡ awaits progress ++ opened
Names (Done reports) progress opened named = AreAskedFor opened named
Names (Ended status why) progress opened named = AreAskedFor opened named

one_named : (ports opened named : List ℕ) → named ≡ ports ++ opened → IsOneAtMost ports → AreAskedFor opened named
one_named ports opened named e (inl none) = inl (e ∙ ap (λ (l : List ℕ). l ++ opened) none)
one_named ports opened named e (inr one) = inr (one.0, e ∙ ap (λ (l : List ℕ). l ++ opened) one.1)

names_then : (task : Task) (notes : Notes) (next : Next) (ports opened named : List ℕ) → named ≡ ports ++ opened → Lands ports next → Names (next_outcome task notes next) (next_progress next) opened named
names_then task notes (Wait progress) ports opened named e lands = e ∙ ap (λ (l : List ℕ). l ++ opened) lands
names_then task notes (Finish devices) ports opened named e lands = one_named ports opened named e lands
names_then task notes (Stop status why) ports opened named e lands = one_named ports opened named e lands

names_running : (outcome : Outcome) (progress : Progress) (opened named : List ℕ) → is_running outcome ≡ true → Names outcome progress opened named → named ≡ awaits progress ++ opened
names_running Running progress opened named e n = n
names_running (Done reports) progress opened named e n = absurd (let clash : false ≡ true = e in cc)
names_running (Ended status why) progress opened named e n = absurd (let clash : false ≡ true = e in cc)

running_names : (outcome : Outcome) (progress : Progress) (opened named : List ℕ) → is_running outcome ≡ true → named ≡ awaits progress ++ opened → Names outcome progress opened named
running_names Running progress opened named e n = n
running_names (Done reports) progress opened named e n = absurd (let clash : false ≡ true = e in cc)
running_names (Ended status why) progress opened named e n = absurd (let clash : false ≡ true = e in cc)

abbrev first_or : ℕ → Option ℕ → ℕ
first_or n None = n
first_or n (Some m) = m

wanted_awaits : (progress : Progress) (port : ℕ) → wanted_port progress ≡ Some port → (awaits progress ≡ port ∷ []) × (awaits (progress_connected progress) ≡ [])
wanted_awaits (stages.Imaging other false) port e = (ap (λ (o : Option ℕ). first_or other o ∷ []) e, refl)
wanted_awaits (stages.Imaging other true) port e = absurd (let clash : None ≡ Some port = e in cc)
wanted_awaits progress port e = absurd (let clash : None ≡ Some port = e in cc)

received_awaits : (outcome : Outcome) (progress : Progress) → is_receiving outcome progress ≡ true → (is_running outcome ≡ true) × (awaits progress ≡ [])
received_awaits Running (stages.Imaging port true) e = (refl, refl)
received_awaits Running (stages.Imaging port false) e = absurd (let clash : false ≡ true = e in cc)
received_awaits (Done reports) (stages.Imaging port opened) e = absurd (let clash : false ≡ true = e in cc)
received_awaits (Ended status why) (stages.Imaging port opened) e = absurd (let clash : false ≡ true = e in cc)
received_awaits outcome progress e = absurd (let clash : false ≡ true = e in cc)

turning_running : (outcome : Outcome) (progress : Progress) → turns outcome progress ≡ true → is_running outcome ≡ true
turning_running Running progress e = refl
turning_running (Done reports) progress e = absurd (let clash : false ≡ true = e in cc)
turning_running (Ended status why) progress e = absurd (let clash : false ≡ true = e in cc)

names_on : (target : JobTarget) (was now : JobTrace) (event : TraceEvent) (before : List TraceEvent) → Names was.protocol.outcome was.protocol.progress (ports_opened before) (ports_named before) → EventLeads target was event now
    → Names now.protocol.outcome now.protocol.progress (ports_opened (event ∷ before)) (ports_named (event ∷ before))
names_on target was now (Replied r) before n l =
    let named = names_running was.protocol.outcome was.protocol.progress (ports_opened before) (ports_named before) l.2 n in
    let e : port_named r ++ ports_named before ≡ (port_named r ++ awaits was.protocol.progress) ++ ports_opened before = ap (λ (x : List ℕ). port_named r ++ x) named ∙ sym (append_assoc (port_named r) (awaits was.protocol.progress) (ports_opened before)) in
    subst (λ (x : JobTrace). Names x.protocol.outcome x.protocol.progress (ports_opened before) (port_named r ++ ports_named before)) (sym l.5)
    (names_then target.task (answer_to target was.protocol r).turn.notes (answer_to target was.protocol r).turn.next (port_named r ++ awaits was.protocol.progress) (ports_opened before) (port_named r ++ ports_named before) e
    (row_lands target.task target.password was.protocol.notes was.protocol.history was.protocol.progress l.0 r _ (turn_row was.protocol.progress target was.protocol.notes was.protocol.history r) l.3))
names_on target was now (Opened port) before n l =
    let wanted = wanted_awaits was.protocol.progress port l.1 in
    let named = names_running was.protocol.outcome was.protocol.progress (ports_opened before) (ports_named before) l.0 n in
    subst (λ (x : JobTrace). Names x.protocol.outcome x.protocol.progress (port ∷ ports_opened before) (ports_named before)) (sym l.2)
    (running_names was.protocol.outcome (progress_connected was.protocol.progress) (port ∷ ports_opened before) (ports_named before) l.0
    (named ∙ ap (λ (x : List ℕ). x ++ ports_opened before) wanted.0 ∙ sym (ap (λ (x : List ℕ). x ++ port ∷ ports_opened before) wanted.1)))
names_on target was now (Came bytes) before n l = subst (λ (x : JobTrace). Names x.protocol.outcome x.protocol.progress (ports_opened before) (ports_named before)) (sym l.3) n
names_on target was now (Finished status) before n l =
    let received = received_awaits was.protocol.outcome was.protocol.progress l.3 in
    let named = names_running was.protocol.outcome was.protocol.progress (ports_opened before) (ports_named before) received.0 n in
    subst (λ (x : JobTrace). Names x.protocol.outcome x.protocol.progress (ports_opened before) (ports_named before)) (sym l.7)
    (names_then target.task was.protocol.notes (frame_end_at target was.protocol status).next [] (ports_opened before) (ports_named before) (named ∙ ap (λ (x : List ℕ). x ++ ports_opened before) received.1)
    (end_lands target.task was.protocol.notes.file was.protocol.history _ (end_row target.task was.protocol.notes.file was.protocol.history (status_of status))))
names_on target was now (Gave bytes) before n l = subst (λ (x : JobTrace). Names x.protocol.outcome x.protocol.progress (ports_opened before) (ports_named before)) (sym l) n
names_on target was now (Turned bytes) before n l =
    let turning = is_turning_at was.protocol.outcome was.protocol.progress l.1 in
    let running = turning_running was.protocol.outcome was.protocol.progress l.1 in
    let named = names_running was.protocol.outcome was.protocol.progress (ports_opened before) (ports_named before) running n in
    subst (λ (x : JobTrace). Names x.protocol.outcome x.protocol.progress (ports_opened before) (ports_named before)) (sym l.4)
    (running_names was.protocol.outcome (stages.Starting true) (ports_opened before) (ports_named before) running (named ∙ ap (λ (p : Progress). awaits p ++ ports_opened before) turning))

names_by : (target : JobTarget) (first : JobTrace) (events : List TraceEvent) (trace : JobTrace) → first.protocol.outcome ≡ Running → awaits first.protocol.progress ≡ [] → EventsLead target first events trace
    → Names trace.protocol.outcome trace.protocol.progress (ports_opened events) (ports_named events)
names_by target first [] trace running none r =
    subst (λ (x : JobTrace). Names x.protocol.outcome x.protocol.progress [] []) (sym r) (running_names first.protocol.outcome first.protocol.progress [] [] (ap is_running running) (sym (ap (λ (l : List ℕ). l ++ []) none)))
names_by target first (event ∷ before) trace running none r = names_on target r.0 trace event before (names_by target first before r.0 running none r.1) r.2

names_over : (outcome : Outcome) (progress : Progress) (opened named : List ℕ) → Names outcome progress opened named → AreAskedFor opened named
names_over Running (stages.Shaping port order) opened named n = inr (port, n)
names_over Running (stages.Imaging port false) opened named n = inr (port, n)
names_over Running progress opened named n = inl n
names_over (Done reports) progress opened named n = n
names_over (Ended status why) progress opened named n = n

asked_by : (events : List TraceEvent) (trace : JobTrace) (asked : List ℕ) (outcome : Outcome) → Names trace.protocol.outcome trace.protocol.progress (ports_opened events) (ports_named events) → AsksPorts asked events trace.protocol outcome
    → AreAskedFor asked (ports_named events)
asked_by events trace asked outcome n (inl same) = subst (λ (l : List ℕ). AreAskedFor l (ports_named events)) (sym same) (names_over trace.protocol.outcome trace.protocol.progress (ports_opened events) (ports_named events) n)
asked_by events trace asked outcome n (inr missed) =
    let wanted = wanted_awaits trace.protocol.progress missed.0 missed.1 in
    let named = names_running trace.protocol.outcome trace.protocol.progress (ports_opened events) (ports_named events) missed.2 n in
    inl (named ∙ ap (λ (l : List ℕ). l ++ ports_opened events) wanted.0 ∙ sym missed.4)

pub asked_for : (job : Job) (events : List TraceEvent) (trace : JobTrace) (asked : List ℕ) (outcome : Outcome) → EventsLead (target_of job) (initial_trace job) events trace → AsksPorts asked events trace.protocol outcome → AreAskedFor asked (ports_named events)
asked_for job events trace asked outcome runs asks = asked_by events trace asked outcome (names_by (target_of job) (initial_trace job) events trace refl refl runs) asks

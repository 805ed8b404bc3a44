-- What makes the data connections is told of a frame's port right behind the request for its parameters, and once.
use Rattle.std.proofs.Common.{◌≡◌, ◌≢◌, ◌∙◌, ◌⊎◌, inl, inr, ℕ, Bool, true, false, Option, Some, None, List, [], ◌∷◌, ◌++◌, refl, sym, ap, subst}
use Rattle.std.specs.Prelude.{◌&&◌, if◌then◌else◌}
use Rattle.std.proofs.lemmas.List.{append-nil}
use Rattle.sane_fixed.specs.declared.status.Status.{Status}
use Rattle.sane_fixed.specs.declared.status.Status.TheVariants as statuses
use Rattle.sane_fixed.specs.declared.byte_order.ByteOrder.{ByteOrder}
use Rattle.sane_fixed.specs.declared.params.Params.{Params}
use Rattle.frame_join.specs.declared.join_stage.JoinFault.{JoinFault}
use Rattle.frame_join.specs.declared.join_stage.JoinFault.TheVariants as faults
use Rattle.frame_join.specs.FrameHistory.{JoinHistory, after_begin}
use Rattle.wire_message.specs.declared.message.Reply.{Reply}
use Rattle.wire_message.specs.declared.message.Reply.TheVariants as replies
use Rattle.scan_job.specs.declared.outcome.Outcome.{Outcome}
use Rattle.scan_job.specs.declared.outcome.Why.TheVariants as whys
use Rattle.client_replies.specs.declared.progress.JobTarget.{JobTarget}
use Rattle.client_replies.specs.declared.progress.Progress.{Progress}
use Rattle.client_replies.specs.declared.progress.Progress.TheVariants as stages
use Rattle.client_replies.specs.declared.progress.Next.{Next}
use Rattle.client_replies.specs.declared.progress.Next.TheVariants.{Wait, Finish, Stop}
use Rattle.client_replies.specs.declared.progress.Notes.{Notes}
use Rattle.scan_job.specs.declared.job.Task.{Task}
use Rattle.client_replies.specs.ReplyTurns.{begun_by, stop_unjoined, turn}
use Rattle.client_replies.specs.ProtocolStates.{ProtocolState, after_reply, heard_at, is_ended, is_receiving, is_running, protocol_after_turn, shaped_by, after_params_reply, turns}
use Rattle.net_client.specs.ClientStates.{ClientState, ClientRepresents, after_client_end, protocol_of}
use Rattle.net_client.specs.ReplyPieces.{HearsReplies, HasHeard, Heeds, Whole, Garbled, OutOfMemoryBehind, OutOfMemoryAtOnce, awaited_procedure}
use Rattle.net_client.specs.ToldPorts.{port_told}
use Rattle.net_jobs.specs.JobJournal.{AreGives, GivesFileBytes, WritesRequest, JobMove, MoveLeads, MovesLead, PortsAreTold, PortsAreToldOnce, PortsFollowRequests, StandsBehind, is_port_told}
use Rattle.net_jobs.specs.JobJournal.JobMove.{Writes, Fails, Hears, Resumes, Prepares, Dials, Takes, Gives, Loses}
use Rattle.net_jobs.specs.JobSteps.{IsDelivery}

-- ---- while a port is told

-- The parameters are waited for and nothing is to go out; or they came, and a data connection is wanted; or the job is over.
pub data AwaitsTold (c : ClientState) : Type 0 where
  Asked : (port : ℕ) (order : ByteOrder) → c.progress ≡ stages.Shaping port order → c.out ≡ [] → AwaitsTold c
  Shaped : (port : ℕ) → c.progress ≡ stages.Imaging port false → AwaitsTold c
  Past : is_running c.outcome ≡ false → AwaitsTold c

-- what a journal tells of the ports that were told
pub record ToldSoFar (moves : List JobMove) (c : ClientState) : Type 0 where
  pub told : PortsAreTold moves
  pub waits : is_port_told moves ≡ true → AwaitsTold c
  pub asks : WritesRequest moves → (port : ℕ) → port_told c.progress ≡ Some port → is_running c.outcome ≡ true → is_port_told moves ≡ false

pub told_begun : (c : ClientState) → ToldSoFar [] c
told_begun c = record {
  told = record { behind = tt; once = tt };
  waits = λ e. absurd (let clash : false ≡ true = e in cc);
  asks = λ none port e running. absurd none;
}

-- ---- replies to the request for the parameters

-- a reply to it leads to a frame whose data connection is wanted, or ends the job
abbrev ShapesOrStops : Next → Type 0
ShapesOrStops (Wait (stages.Imaging port opened)) = opened ≡ false
ShapesOrStops (Wait progress) = ⊥
ShapesOrStops (Finish devices) = ⊥
ShapesOrStops (Stop status why) = Unit {0}

stops_unjoined : (fault : JoinFault) → ShapesOrStops (stop_unjoined fault)
stops_unjoined faults.Shape = tt
stops_unjoined faults.Long = tt
stops_unjoined faults.Short = tt
stops_unjoined faults.NoMem = tt

begins : (fault : Option JoinFault) (port : ℕ) → ShapesOrStops (begun_by fault port)
begins None port = refl
begins (Some fault) port = stops_unjoined fault

shapes_by : (status : Status) (port : ℕ) (order : ByteOrder) (params : Params) (past : JoinHistory) → ShapesOrStops (shaped_by status port order params past).next
shapes_by statuses.Good port order params past = begins (after_begin params order false past).fault port
shapes_by status port order params past = tt

shapes : (port : ℕ) (order : ByteOrder) (past : JoinHistory) (r : Reply) → ShapesOrStops (after_params_reply port order past r).next
shapes port order past (replies.GetParameters status params) = shapes_by status port order params past
shapes port order past r = tt

-- so no reply is waited for behind it
record HasShaped (u : ProtocolState) : Type 0 where
  none : awaited_procedure u.progress ≡ None
  goes : ((port : ℕ) × (u.progress ≡ stages.Imaging port false)) ⊎ (is_running u.outcome ≡ false)

shaped_next : (task : Task) (notes : Notes) (next : Next) (past : JoinHistory) → ShapesOrStops next → HasShaped (protocol_after_turn task (turn notes next) past)
shaped_next task notes (Wait (stages.Imaging port opened)) past e = record { none = refl; goes = inl (port, ap (λ (b : Bool). stages.Imaging port b) e) }
shaped_next task notes (Wait progress) past e = absurd e
shaped_next task notes (Finish devices) past e = absurd e
shaped_next task notes (Stop status why) past e = record { none = refl; goes = inr refl }

shaped_reply : (target : JobTarget) (t : ProtocolState) (r : Reply) (port : ℕ) (order : ByteOrder) → t.progress ≡ stages.Shaping port order → HasShaped (after_reply target t r)
shaped_reply target t r port order e =
    subst (λ (p : Progress). HasShaped (protocol_after_turn target.task (heard_at p target t.notes t.history r).turn (heard_at p target t.notes t.history r).history)) (sym e)
    (shaped_next target.task t.notes (after_params_reply port order t.history r).next (after_params_reply port order t.history r).history (shapes port order t.history r))

hears_none : (target : JobTarget) (t u : ProtocolState) (rs : List Reply) (text sent : List ℕ) → awaited_procedure t.progress ≡ None → HearsReplies target t rs text sent u → (u ≡ t) × (sent ≡ [])
hears_none target t u [] text sent none h = (h.2, h.1)
hears_none target t u (r ∷ rs) text sent none h = absurd (let clash : None ≡ Some h.6.procedure = sym none ∙ h.6.awaited_is in cc)

hears_shaping : (target : JobTarget) (t u : ProtocolState) (rs : List Reply) (text sent : List ℕ) (port : ℕ) (order : ByteOrder) → t.progress ≡ stages.Shaping port order → HearsReplies target t rs text sent u → ((u ≡ t) × (sent ≡ [])) ⊎ HasShaped u
hears_shaping target t u [] text sent port order e h = inl (h.2, h.1)
hears_shaping target t u (r ∷ rs) text sent port order e h =
    let a = shaped_reply target t r port order e in
    let n = hears_none target (after_reply target t r) u rs h.1 h.3 a.none h.8 in
    inr (subst HasShaped (sym n.0) a)

told_shaped : (c : ClientState) (past : JoinHistory) → HasShaped (protocol_of c past) → AwaitsTold c
told_shaped c past s = by s.goes
  where
    by : ((port : ℕ) × (c.progress ≡ stages.Imaging port false)) ⊎ (is_running c.outcome ≡ false) → AwaitsTold c
    by (inl wanted) = Shaped wanted.0 wanted.1
    by (inr over) = Past over

told_heard_all : (old now : ClientState) (past : JoinHistory) (piece : List ℕ) → is_running old.outcome ≡ true → HasHeard old past piece now → AwaitsTold old → AwaitsTold now
told_heard_all old now past piece running h (Asked port order e none) = by (hears_shaping old.target (protocol_of old past) (protocol_of now h.history_then) h.told h.text h.sent port order e h.hears)
  where
    by : ((protocol_of now h.history_then ≡ protocol_of old past) × (h.sent ≡ [])) ⊎ HasShaped (protocol_of now h.history_then) → AwaitsTold now
    by (inl s) = Asked port order (ap (λ (t : ProtocolState). t.progress) s.0 ∙ e) (h.out ∙ ap (λ (l : List ℕ). old.out ++ l) s.1 ∙ append-nil old.out ∙ none)
    by (inr shaped) = told_shaped now h.history_then shaped
told_heard_all old now past piece running h (Shaped port e) =
    let n = hears_none old.target (protocol_of old past) (protocol_of now h.history_then) h.told h.text h.sent (ap awaited_procedure e) h.hears in
    Shaped port (ap (λ (t : ProtocolState). t.progress) n.0 ∙ e)
told_heard_all old now past piece running h (Past over) = absurd (let clash : true ≡ false = sym running ∙ over in cc)

told_heard : (old now : ClientState) (past : JoinHistory) (piece : List ℕ) → is_running old.outcome ≡ true → Heeds old past piece now → AwaitsTold old → AwaitsTold now
told_heard old now past piece running (Whole h wants) told = told_heard_all old now past piece running h told
told_heard old now past piece running (Garbled was h runs g) told = Past (ap (λ (v : ClientState). is_running v.outcome) g.ends)
told_heard old now past piece running (OutOfMemoryBehind was h runs s) told = Past (ap is_running s.starved.outcome)
told_heard old now past piece running (OutOfMemoryAtOnce s) told = Past (ap is_running s.starved.outcome)

-- ---- the other moves

and_false : (b : Bool) → (b && false) ≡ false
and_false true = refl
and_false false = refl

told_wrote : (old now : ClientState) → now ≡ record old { out = [] } → AwaitsTold old → AwaitsTold now
told_wrote old now is (Asked port order e none) = Asked port order (ap (λ (v : ClientState). v.progress) is ∙ e) (ap (λ (v : ClientState). v.out) is)
told_wrote old now is (Shaped port e) = Shaped port (ap (λ (v : ClientState). v.progress) is ∙ e)
told_wrote old now is (Past over) = Past (ap (λ (v : ClientState). is_running v.outcome) is ∙ over)

-- while a port is told no other request goes out
no_other_request : (old now : ClientState) (bytes : List ℕ) (port : ℕ) → bytes ≢ [] → bytes ≡ old.out → now ≡ record old { out = [] } → port_told now.progress ≡ Some port → is_running now.outcome ≡ true → AwaitsTold old → ⊥
no_other_request old now bytes port some all is e running (Asked q order at none) = some (all ∙ none)
no_other_request old now bytes port some all is e running (Shaped q at) = let clash : None ≡ Some port = sym (ap port_told (ap (λ (v : ClientState). v.progress) is ∙ at)) ∙ e in cc
no_other_request old now bytes port some all is e running (Past over) = let clash : true ≡ false = sym running ∙ ap (λ (v : ClientState). is_running v.outcome) is ∙ over in cc

asks_anew : (b : Bool) (moves : List JobMove) (old : ClientState) → is_port_told moves ≡ b → (is_port_told moves ≡ true → AwaitsTold old) → (AwaitsTold old → ⊥) → is_port_told moves ≡ false
asks_anew true moves old e waits none = absurd (none (waits e))
asks_anew false moves old e waits none = e

lost_by : (runs : Bool) (c : ClientState) → is_running c.outcome ≡ runs → is_running (if runs then after_client_end statuses.IoError whys.Lost c else c).outcome ≡ false
lost_by true c e = refl
lost_by false c e = e

shaping_of : (progress : Progress) (port : ℕ) → port_told progress ≡ Some port → (order : ByteOrder) × (progress ≡ stages.Shaping port order)
shaping_of (stages.Shaping q order) port e = (order, (let same : q ≡ port = cc in ap (λ (n : ℕ). stages.Shaping n order) same))
shaping_of progress port e = absurd (let clash : None ≡ Some port = e in cc)

told_now : (c : ClientState) (port : ℕ) → port_told c.progress ≡ Some port → c.out ≡ [] → AwaitsTold c
told_now c port e none =
    let s = shaping_of c.progress port e in
    Asked port s.0 s.1 none

off : (outcome : Outcome) (progress : Progress) → is_running outcome ≡ false → is_receiving outcome progress ≡ false
off outcome (stages.Imaging port opened) e = ap (λ (b : Bool). b && opened) e
off outcome progress e = refl

nothing_taken : (c : ClientState) → is_receiving c.outcome c.progress ≡ true → AwaitsTold c → ⊥
nothing_taken c receiving (Asked port order e none) = let clash : true ≡ false = sym receiving ∙ ap (λ (p : Progress). is_receiving c.outcome p) e in cc
nothing_taken c receiving (Shaped port e) = let clash : true ≡ false = sym receiving ∙ ap (λ (p : Progress). is_receiving c.outcome p) e ∙ and_false (is_running c.outcome) in cc
nothing_taken c receiving (Past over) = let clash : true ≡ false = sym receiving ∙ off c.outcome c.progress over in cc

-- bytes of a file leave alone what is waited for, unless a page is turned
same_place : (b : Bool) (old now : ClientState) (bytes : List ℕ) → is_ended old.outcome ≡ b → GivesFileBytes old bytes now → turns old.outcome old.progress ≡ false → (now.progress ≡ old.progress) × (now.out ≡ old.out)
same_place true old now bytes e g still = (ap (λ (v : ClientState). v.progress) (g.ended e).1, ap (λ (v : ClientState). v.out) (g.ended e).1)
same_place false old now bytes e g still = (ap (λ (v : ClientState). v.progress) (g.same e still), ap (λ (v : ClientState). v.out) (g.same e still))

told_gave : (old now : ClientState) (bytes : List ℕ) → GivesFileBytes old bytes now → AwaitsTold old → AwaitsTold now
told_gave old now bytes g (Asked port order e none) =
    let same = same_place (is_ended old.outcome) old now bytes refl g (ap (λ (p : Progress). turns old.outcome p) e ∙ and_false (is_running old.outcome)) in
    Asked port order (same.0 ∙ e) (same.1 ∙ none)
told_gave old now bytes g (Shaped port e) =
    let same = same_place (is_ended old.outcome) old now bytes refl g (ap (λ (p : Progress). turns old.outcome p) e ∙ and_false (is_running old.outcome)) in
    Shaped port (same.0 ∙ e)
told_gave old now bytes g (Past over) = Past (ap is_running g.outcome ∙ over)

-- ---- one move

-- by a move that neither tells a port nor asks for a data connection
goes_on : (more : List JobMove) (now : ClientState) → PortsFollowRequests more → PortsAreToldOnce more → (is_port_told more ≡ true → AwaitsTold now) → (WritesRequest more → ⊥) → ToldSoFar more now
goes_on more now behind once waits none = record {
  told = record { behind = behind; once = once };
  waits = waits;
  asks = λ some port e running. absurd (none some);
}

pub told_on : (past : JoinHistory) (was : ClientState) (move : JobMove) (now : ClientState) (moves : List JobMove) → ClientRepresents past was → MoveLeads was move now → StandsBehind move moves → ToldSoFar moves was → ToldSoFar (move ∷ moves) now
told_on past was (Writes bytes) now moves serves m behind t = record {
  told = record { behind = (tt, t.told.behind); once = t.told.once };
  waits = λ e. told_wrote was now m.new_is (t.waits e);
  asks = λ some port e running. asks_anew (is_port_told moves) moves was refl t.waits (no_other_request was now bytes port some m.all m.new_is e running);
}
told_on past was (Fails bytes) now moves serves m behind t =
    let cut : ClientState = record was { out = now.out } in
    goes_on (Fails bytes ∷ moves) now (tt, t.told.behind) t.told.once (λ e. Past (ap (λ (v : ClientState). is_running v.outcome) m.new_is ∙ lost_by (is_running was.outcome) cut refl)) (λ none. none)
told_on past was (Hears piece) now moves serves m behind t =
    goes_on (Hears piece ∷ moves) now (tt, t.told.behind) t.told.once (λ e. told_heard was now past piece m.0.running (m.0.heeds past serves) (t.waits e)) (λ none. none)
told_on past was Resumes now moves serves m behind t =
    goes_on (Resumes ∷ moves) now (tt, t.told.behind) t.told.once (λ e. told_heard was now past [] m.0.running (m.0.heeds past serves) (t.waits e)) (λ none. none)
told_on past was (Prepares port) now moves serves m behind t =
    goes_on (Prepares port ∷ moves) now (behind, t.told.behind) (t.asks behind port m.told m.running, t.told.once) (λ e. subst AwaitsTold (sym m.same) (told_now was port m.told m.asked)) (λ none. none)
told_on past was (Dials port true) now moves serves m behind t =
    goes_on (Dials port true ∷ moves) now (tt, t.told.behind) t.told.once (λ e. absurd (let clash : false ≡ true = e in cc)) (λ none. none)
told_on past was (Dials port false) now moves serves m behind t =
    goes_on (Dials port false ∷ moves) now (tt, t.told.behind) t.told.once (λ e. absurd (let clash : false ≡ true = e in cc)) (λ none. none)
told_on past was (Takes piece) now moves serves m behind t =
    goes_on (Takes piece ∷ moves) now (tt, t.told.behind) t.told.once (λ e. absurd (nothing_taken was m.0.receiving (t.waits e))) (λ none. none)
told_on past was (Gives bytes) now moves serves m behind t =
    goes_on (Gives bytes ∷ moves) now (tt, t.told.behind) t.told.once (λ e. told_gave was now bytes m (t.waits e)) (λ none. none)
told_on past was (Loses link reason) now moves serves m behind t =
    goes_on (Loses link reason ∷ moves) now (tt, t.told.behind) t.told.once (λ e. Past (ap (λ (v : ClientState). is_running v.outcome) m.new_is)) (λ none. none)

-- ---- moves of a turn, and bytes of a file behind it

pub told_gives : (c : ClientState) (gives : List JobMove) (now : ClientState) (moves : List JobMove) → AreGives gives → MovesLead c gives now → ToldSoFar moves c → ToldSoFar (gives ++ moves) now
told_gives c [] now moves are m t = subst (λ (v : ClientState). ToldSoFar moves v) (sym m) t
told_gives c (Gives bytes ∷ gives) now moves are m t =
    let r = told_gives c gives m.0 moves are m.1 t in
    goes_on (Gives bytes ∷ (gives ++ moves)) now (tt, r.told.behind) r.told.once (λ e. told_gave m.0 now bytes m.2 (r.waits e)) (λ none. none)
told_gives c (move ∷ gives) now moves are m t = absurd are

request_on : (moves more : List JobMove) → WritesRequest moves → WritesRequest (moves ++ more)
request_on (Writes bytes ∷ moves) more some = some
request_on [] more none = absurd none
request_on (move ∷ moves) more none = absurd none

pub behind_on : (move : JobMove) (moves more : List JobMove) → StandsBehind move moves → StandsBehind move (moves ++ more)
behind_on (Prepares port) moves more b = request_on moves more b
behind_on move moves more b = tt

pub delivery_behind : (move : JobMove) (moves : List JobMove) → IsDelivery move → StandsBehind move moves
delivery_behind (Prepares port) moves none = absurd none
delivery_behind move moves delivers = tt

-- what a job that is over sends last tells no port
pub told_written : (bytes : List ℕ) (moves : List JobMove) → PortsAreTold moves → PortsAreTold (Writes bytes ∷ moves)
told_written bytes moves t = record { behind = (tt, t.behind); once = t.once }

pub told_short : (bytes : List ℕ) (moves : List JobMove) → PortsAreTold moves → PortsAreTold (Fails bytes ∷ moves)
told_short bytes moves t = record { behind = (tt, t.behind); once = t.once }

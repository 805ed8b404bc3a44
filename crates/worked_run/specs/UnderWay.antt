-- A run of one job over connections while it is under way.
use Rattle.std.specs.Prelude.{ℕ, ◌≡◌, Bool, true, false, Option, None, List}
use Rattle.frame_join.specs.FrameHistory.{JoinHistory}
use Rattle.scan_job.specs.declared.job.Job.{Job}
use Rattle.client_replies.specs.ProtocolStates.{target_of}
use Rattle.net_client.specs.ClientStates.{ClientRepresents, ClientState, IsNewClient}
use Rattle.net_jobs.specs.JobSteps.{StepsLead, given_by_steps, has_failed}
use Rattle.saned_core.specs.DaemonStates.{Core}
use Rattle.saned_serve.specs.ConnectionTraces.{lost_in, trace_bytes_read, trace_bytes_written}
use Rattle.saned_serve.specs.ListenerTraces.{ListenerTrace}
use Rattle.saned_serve.specs.Journal.{JournalLeads, SessionProjection, has_asked, open_sessions, projection_of}
use Rattle.interleaving.specs.Interleavings.{bytes_heard, bytes_sent, bytes_taken, connections_accepted}
use Rattle.interleaving.specs.Interleavings.{connections_made, job_journal, server_journal}
use Rattle.interleaving.specs.HandingOn.{HandsOn}
use Rattle.programs_refine.specs.Programs.{Acts}
use Rattle.programs_refine.specs.StepTraffic.{traffic_of}
use Rattle.programs_refine.specs.WorkedRuns.{owned_by_first}

-- what was done so far: the job's session in the server's journal, whether a connection was asked for in this turn, and
-- what passed over the job's connections
pub record View : Type 0 where
  pub projection : SessionProjection
  pub asked : Bool
  pub sent : List ℕ
  pub heard : List ℕ
  pub taken : List ℕ
  pub made : ℕ
  pub accepted : ℕ
  -- what went out of its file
  pub given : List ℕ

pub record HasView (acts : Acts) (v : View) : Type 0 where
  pub projection : projection_of 0 (server_journal acts) ≡ v.projection
  pub asked : has_asked (server_journal acts) ≡ v.asked
  pub sent : bytes_sent traffic_of (job_journal 0 acts) ≡ v.sent
  pub heard : bytes_heard traffic_of (job_journal 0 acts) ≡ v.heard
  pub taken : bytes_taken traffic_of (job_journal 0 acts) ≡ v.taken
  pub made : connections_made traffic_of (job_journal 0 acts) ≡ v.made
  pub accepted : connections_accepted 0 (server_journal acts) ≡ v.accepted
  pub given : given_by_steps (job_journal 0 acts) ≡ v.given

-- **under way (`IsRunUnderWay`, `View`)**: acts of a server and of one job, from a new client on, that led from the one
-- daemon and this client to these, over connections that hand on; what was done by them is seen by a view.
pub record IsRunUnderWay (job : Job) (start d : Core) (c : ClientState) (v : View) : Type 0 where
  pub acts : Acts
  pub view : HasView acts v
  pub first : ClientState
  pub fresh : IsNewClient job first
  pub steps : StepsLead first (job_journal 0 acts) c
  pub up : has_failed (job_journal 0 acts) ≡ false
  pub after : Option ListenerTrace
  pub serves : JournalLeads start None (server_journal acts) d after
  pub opened : d.opened ≡ 1
  pub one : open_sessions (server_journal acts) ≡ 1
  pub hands_on : HandsOn traffic_of owned_by_first acts

-- a data connection of which all records were written and taken, and the end record is still to come
pub record Flows (v : View) : Type 0 where
  pub going : v.projection.last ≡ false
  pub up : lost_in v.projection.image ≡ false
  pub known : v.projection.dropped ≡ false
  pub shown : trace_bytes_written v.projection.image ≡ v.projection.shown
  pub taken : v.taken ≡ v.projection.shown

-- a session that goes on, and all that either side wrote was read
pub record IsRunQuiet (imaging : Bool) (v : View) : Type 0 where
  pub stands : v.projection.is_open ≡ true
  pub over : v.projection.over ≡ false
  pub drained : v.projection.drained ≡ true
  pub begun : v.projection.begun ≡ false
  pub held : lost_in v.projection.control ≡ false
  pub wrote : trace_bytes_written v.projection.control ≡ v.projection.said
  pub read : trace_bytes_read v.projection.control ≡ v.projection.heard
  pub sent : v.sent ≡ v.projection.heard
  pub heard : v.heard ≡ v.projection.said
  pub images : v.projection.imaging ≡ imaging
  pub accepted : v.accepted ≡ v.made
  pub flows : imaging ≡ true → Flows v

-- between two turns of the server
pub record Rests (imaging : Bool) (v : View) : Type 0 where
  pub quiet : IsRunQuiet imaging v
  pub visited : v.projection.visited ≡ false
  pub spoken : v.projection.spoken ≡ false
  pub tended : v.projection.tended ≡ false
  pub asked : v.asked ≡ false

-- in a turn, where the data are to have their part
pub record IsTurnDue (imaging : Bool) (v : View) : Type 0 where
  pub quiet : IsRunQuiet imaging v
  pub visited : v.projection.visited ≡ true
  pub tended : v.projection.tended ≡ false
  pub asked : v.asked ≡ true

-- the client is that of the job
pub record IsClientOf (job : Job) (c : ClientState) : Type 0 where
  pub past : JoinHistory
  pub serves : ClientRepresents past c
  pub target : c.target ≡ target_of job

-- **at rest (`IsAtRest`, `IsAtData`)**: under way, with this file, between two turns of the server, or in one of them
-- where the data are to have their part.
pub record IsAtRest (imaging : Bool) (job : Job) (start d : Core) (c : ClientState) (file : List ℕ) : Type 0 where
  pub v : View
  pub under_way : IsRunUnderWay job start d c v
  pub rests : Rests imaging v
  pub client : IsClientOf job c
  pub gave : v.given ≡ file

pub record IsAtData (imaging : Bool) (job : Job) (start d : Core) (c : ClientState) (file : List ℕ) : Type 0 where
  pub v : View
  pub under_way : IsRunUnderWay job start d c v
  pub due : IsTurnDue imaging v
  pub client : IsClientOf job c
  pub gave : v.given ≡ file

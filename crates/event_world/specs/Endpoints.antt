-- The endpoint of a job, and what becomes of it.
use Rattle.std.specs.Prelude.{ℕ, ◌≡◌, ◌==◌, ◌||◌, ◌-◌, ◌+◌, ◌^◌, ◌++◌, nat_lt, if◌then◌else◌, Bool, true, false, Option}
use Rattle.std.specs.Prelude.{Some, None, option_map, List, [], ◌∷◌, slice_index_or, slice_set}
use Rattle.wire_format.specs.Writer.{behind}
use Rattle.sane_fixed.specs.declared.status.Status.TheVariants as statuses
use Rattle.scan_job.specs.declared.job.Job.{Job}
use Rattle.scan_job.specs.declared.job.Task.{Task}
use Rattle.scan_job.specs.declared.job.Task.TheVariants as tasks
use Rattle.scan_job.specs.declared.outcome.Why.TheVariants as whys
use Rattle.client_replies.specs.declared.progress.Link.{Link}
use Rattle.client_replies.specs.declared.progress.Link.TheVariants as links
use Rattle.client_replies.specs.Asking.{farewell}
use Rattle.client_replies.specs.ProtocolStates.{progress_connected, is_lost_by}
use Rattle.frame_join.specs.FrameHistory.{JoinHistory}
use Rattle.net_client.specs.Sending.{requests_text}
use Rattle.net_client.specs.ClientStates.{ClientState, IsNewClient, ClientRepresents, after_client_end, phase_connected}
use Rattle.saned_core.specs.declared.session_slot.SessionId.{SessionId}
use Rattle.event_world.specs.declared.endpoint.Endpoint.{Endpoint}

-- ---- a new one

-- more than the moves that a job may take: 2^34, or 2^36 with further pages
abbrev pub budget_of : Task → ℕ
budget_of (tasks.Batch count) = 2 ^ 36
budget_of tasks.List = 2 ^ 34
budget_of tasks.Show = 2 ^ 34
budget_of tasks.SetOnly = 2 ^ 34
budget_of tasks.Scan = 2 ^ 34

-- no file of sixteen
abbrev pub no_pages : List (Option (List ℕ))
no_pages =
    None ∷ None ∷ None ∷ None ∷ None ∷ None ∷ None ∷ None ∷ None ∷ None ∷ None ∷ None ∷ None ∷ None ∷ None ∷ None ∷ []

-- **endpoint (`Endpoint`, `IsNew`)**: of a job. It has the client, whether its control connection was made, the session
-- while that stands and whether the daemon has ended it, the data connection with its bytes and whether the end record
-- is among them, the file under way and those of the finished pages, and whether a growth was refused. It has more
-- moves than the job may still take: at first 2^34, and 2^36 for a batch.
--
-- a client that was just made, no connection and an empty file
pub record IsNew (job : Job) (p : Endpoint) : Type 0 where
  pub client : IsNewClient job p.client
  pub rest : p ≡ record {
    task = job.task;
    client = p.client;
    was_connected = false;
    link = None;
    is_over = false;
    image = None;
    file = Some [];
    pages = no_pages;
    finished = 0;
    out_of_memory = false;
    budget = budget_of job.task;
  }

-- ---- what becomes of it

abbrev pub after_move : Endpoint → Endpoint
after_move p = record p { budget = p.budget - 1 }

-- a link of the client is lost, which ends the job where the link counts
abbrev pub after_link_loss : Link → ClientState → ClientState
after_link_loss link c =
    if is_lost_by link c.outcome c.progress then after_client_end statuses.IoError whys.Lost c else c

-- **what becomes of it (`with_link`, `without_link`, `with_image_link`, `without_image_link`, `IsCancelled`,
-- `laid_by`)**: a connection is made or lost, and the client makes something of that; the job is given up and says
-- farewell; the file of a finished page is laid by, and an empty one is under way.
abbrev pub with_link : SessionId → Endpoint → Endpoint
with_link id p = record p { was_connected = true; link = Some id }

abbrev pub without_link : Endpoint → Endpoint
without_link p = record p { client = after_link_loss links.Control p.client; link = None; image = None }

abbrev pub shut_out : Endpoint → Endpoint
shut_out p = without_link (record p { was_connected = true; out_of_memory = true })

abbrev pub without_image_link : Endpoint → Endpoint
without_image_link p = record p { client = after_link_loss links.Image p.client; image = None }

abbrev pub image_out_of_memory : Endpoint → Endpoint
image_out_of_memory p = without_image_link (record p { out_of_memory = true })

abbrev pub with_data_opened : ClientState → ClientState
with_data_opened c = record c { progress = progress_connected c.progress; phase = phase_connected c.progress c.phase }

abbrev pub with_image_link : Endpoint → Endpoint
with_image_link p =
    record p { client = with_data_opened p.client; image = Some (record { bytes = []; is_last = false }) }

-- the client has ended as cancelled, and says farewell
pub record IsCancelled (old new : Endpoint) : Type 0 where
  pub out : List ℕ
  pub rest : new
      ≡ record old { client = record (after_client_end statuses.Cancelled whys.Cancelled old.client) { out = out } }
  pub text : behind old.client.out (requests_text (farewell old.client.notes.word old.client.progress)) ≡ Some out
  pub serves : (past : JoinHistory) → ClientRepresents past old.client → ClientRepresents past new.client

-- ---- its files

-- bytes of a file come; or, where there is no memory for them, the file is none any more
abbrev pub IsKept : Bool → List ℕ → Endpoint → Endpoint → Type 0
IsKept true bytes old new = new ≡ record old { file = option_map (λ f. f ++ bytes) old.file }
IsKept false bytes old new = new ≡ record old { file = None; out_of_memory = true }

-- the file of a finished page is laid by, and an empty one is under way
abbrev pub laid_by : Endpoint → Endpoint
laid_by p =
    if nat_lt p.finished 16
    then record p { file = Some []; pages = slice_set p.pages p.finished p.file; finished = p.finished + 1 }
    else record p { file = Some [] }

-- the file of the k-th finished page, from 1
abbrev pub finished_page : Endpoint → ℕ → Option (List ℕ)
finished_page p k =
    if ((k == 0) || nat_lt p.finished k) || nat_lt 16 k then None else slice_index_or p.pages (k - 1) None

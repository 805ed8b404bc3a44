-- What each move of a loop makes of the relation of its client to the world's.
use Rattle.std.specs.Prelude.{IsSome, ◌&&◌}
use Rattle.std.proofs.Common.{◌≡◌, ◌∙◌, inl, inr, ℕ, Bool, true, false, Some, List, [], ◌++◌, append_assoc, append-nil, refl, sym, ap, subst}
use Rattle.scan_job.specs.declared.outcome.Outcome.{Outcome}
use Rattle.client_replies.specs.declared.progress.Progress.{Progress}
use Rattle.client_replies.specs.declared.progress.Progress.TheVariants as stages
use Rattle.client_replies.specs.declared.progress.Link.{Link}
use Rattle.client_replies.specs.declared.progress.Link.TheVariants as links
use Rattle.client_replies.specs.ProtocolStates.{is_imaging, is_lost_by, is_receiving, is_running, wanted_port}
use Rattle.net_client.specs.ClientStates.{ClientState}
use Rattle.net_jobs.specs.JobJournal.{DialsPort, after_loss}
use Rattle.event_world.specs.Endpoints.{with_data_opened}
use Rattle.programs_refine.proofs.Lists.{more_behind}
use Rattle.programs_refine.proofs.Tracks.{Follows, OutTracks, lost_outcome, with_out}
use Rattle.programs_refine.proofs.Tracks.Follows.{Alike, Dialled, Lost, Cut}

-- ---- what a client waits for

pub record IsReceiving (o : Outcome) (progress : Progress) : Type 0 where
  pub port : ℕ
  pub stage : progress ≡ stages.Imaging port true
  pub runs : is_running o ≡ true

receiving_by : (o : Outcome) (port : ℕ) (b opened : Bool) → is_running o ≡ b → (b && opened) ≡ true → IsReceiving o (stages.Imaging port opened)
receiving_by o port true true e r = record { port = port; stage = refl; runs = e }
receiving_by o port true false e r = absurd (let wrong : false ≡ true = r in cc)
receiving_by o port false opened e r = absurd (let wrong : false ≡ true = r in cc)

pub receiving_at : (o : Outcome) (progress : Progress) → is_receiving o progress ≡ true → IsReceiving o progress
receiving_at o (stages.Imaging port opened) r = receiving_by o port (is_running o) opened refl r
receiving_at o stages.Greeting r = absurd (let wrong : false ≡ true = r in cc)
receiving_at o stages.Listing r = absurd (let wrong : false ≡ true = r in cc)
receiving_at o stages.Opening r = absurd (let wrong : false ≡ true = r in cc)
receiving_at o (stages.Allowing resource answer) r = absurd (let wrong : false ≡ true = r in cc)
receiving_at o stages.Reopening r = absurd (let wrong : false ≡ true = r in cc)
receiving_at o stages.Describing r = absurd (let wrong : false ≡ true = r in cc)
receiving_at o (stages.Putting n kind name value) r = absurd (let wrong : false ≡ true = r in cc)
receiving_at o (stages.Getting n kind size) r = absurd (let wrong : false ≡ true = r in cc)
receiving_at o (stages.Starting first) r = absurd (let wrong : false ≡ true = r in cc)
receiving_at o (stages.Shaping port order) r = absurd (let wrong : false ≡ true = r in cc)
receiving_at o stages.Turning r = absurd (let wrong : false ≡ true = r in cc)
receiving_at o stages.Over r = absurd (let wrong : false ≡ true = r in cc)

pub record IsWanting (progress : Progress) : Type 0 where
  pub port : ℕ
  pub stage : progress ≡ stages.Imaging port false

wanting_by : (port : ℕ) (opened : Bool) → IsSome (wanted_port (stages.Imaging port opened)) → IsWanting (stages.Imaging port opened)
wanting_by port false w = record { port = port; stage = refl }
wanting_by port true w = absurd (let wrong : false ≡ true = w in cc)

pub wanting_at : (progress : Progress) → IsSome (wanted_port progress) → IsWanting progress
wanting_at (stages.Imaging port opened) w = wanting_by port opened w
wanting_at stages.Greeting w = absurd (let wrong : false ≡ true = w in cc)
wanting_at stages.Listing w = absurd (let wrong : false ≡ true = w in cc)
wanting_at stages.Opening w = absurd (let wrong : false ≡ true = w in cc)
wanting_at (stages.Allowing resource answer) w = absurd (let wrong : false ≡ true = w in cc)
wanting_at stages.Reopening w = absurd (let wrong : false ≡ true = w in cc)
wanting_at stages.Describing w = absurd (let wrong : false ≡ true = w in cc)
wanting_at (stages.Putting n kind name value) w = absurd (let wrong : false ≡ true = w in cc)
wanting_at (stages.Getting n kind size) w = absurd (let wrong : false ≡ true = w in cc)
wanting_at (stages.Starting first) w = absurd (let wrong : false ≡ true = w in cc)
wanting_at (stages.Shaping port order) w = absurd (let wrong : false ≡ true = w in cc)
wanting_at stages.Turning w = absurd (let wrong : false ≡ true = w in cc)
wanting_at stages.Over w = absurd (let wrong : false ≡ true = w in cc)

-- ---- cases that cannot be

pub never_both : {A : Type 0} (b : Bool) → b ≡ true → b ≡ false → A
never_both b t f = absurd (let wrong : true ≡ false = sym t ∙ f in cc)

pub not_over : {A : Type 0} (o : Outcome) → o ≡ lost_outcome → is_running o ≡ true → A
not_over o e r = never_both (is_running o) r (ap is_running e)

-- one that receives has what it wanted
pub receives_not : {A : Type 0} (o : Outcome) (progress : Progress) → is_receiving o progress ≡ true → IsSome (wanted_port progress) → A
receives_not o progress r w =
    let x = receiving_at o progress r in
    let y = wanting_at progress w in
    absurd (let wrong : stages.Imaging x.port true ≡ stages.Imaging y.port false = sym x.stage ∙ y.stage in cc)

-- a client of the world that wants its data connection, once it has it, receives
abbrev progress_of : ClientState → Progress → Progress
progress_of q progress = (with_data_opened (record q { progress = progress })).progress

dialled_by : (q : ClientState) (progress : Progress) → is_running q.outcome ≡ true → IsWanting progress → is_receiving q.outcome (progress_of q progress) ≡ true
dialled_by q progress runs y = rw (y.stage, runs) refl

pub dialled_receives : (q : ClientState) → is_running q.outcome ≡ true → IsSome (wanted_port q.progress) → is_receiving (with_data_opened q).outcome (with_data_opened q).progress ≡ true
dialled_receives q runs wants = dialled_by q q.progress runs (wanting_at q.progress wants)

-- ---- bytes that wait alone change

pub follows_out : (pending dropped : Bool) (c q : ClientState) (out : List ℕ) → Follows pending dropped c q → Follows pending dropped (with_out out c) q
follows_out pending dropped c q out (Alike on e) = Alike on e
follows_out pending dropped c q out (Dialled on wants runs e) = Dialled on wants runs (ap (with_out out) e)
follows_out pending dropped c q out (Lost runs over wants) = Lost runs over wants
follows_out pending dropped c q out (Cut off told over either) = Cut off told over either

-- ---- the loop loses a connection

pub follows_lost : (pending dropped : Bool) (c lost q : ClientState) → is_running c.outcome ≡ true → lost.outcome ≡ lost_outcome → Follows pending dropped c q → Follows pending dropped lost q
follows_lost pending dropped c lost q runs e (Alike off same) = Lost (ap (λ (x : ClientState). is_running x.outcome) same ∙ runs) e (λ on. never_both pending on off)
follows_lost pending dropped c lost q runs e (Dialled on wants going same) = Lost going e (λ _. wants)
follows_lost pending dropped c lost q runs e (Lost going over wants) = not_over c.outcome over runs
follows_lost pending dropped c lost q runs e (Cut off told over either) = Cut off told over (inr e)

pub runs_by : (link : Link) (o : Outcome) (progress : Progress) → is_lost_by link o progress ≡ true → is_running o ≡ true
runs_by links.Control o progress e = e
runs_by links.Image o progress e = by (is_running o) e
  where
    by : (b : Bool) → (b && is_imaging progress) ≡ true → b ≡ true
    by true e = refl
    by false e = e

-- of a link, whether or not that ends its job
pub follows_loss : (link : Link) (pending dropped : Bool) (c q : ClientState) (b : Bool) → is_lost_by link c.outcome c.progress ≡ b → Follows pending dropped c q → Follows pending dropped (after_loss link c) q
follows_loss link pending dropped c q true e f = rw e (follows_lost pending dropped c _ q (runs_by link c.outcome c.progress e) refl f)
follows_loss link pending dropped c q false e f = rw e f

-- ---- what was written

pub out_written : (failed : Bool) (sent heard there here bytes : List ℕ) → failed ≡ false → OutTracks failed sent heard there here → bytes ≡ here → OutTracks failed (sent ++ bytes) heard there []
out_written failed sent heard there here bytes ok o e = record {
  up = o.up ++ bytes;
  rest = [];
  sent_is = more_behind heard sent o.up bytes o.sent_is;
  out_is = o.out_is ∙ ap (λ (x : List ℕ). o.up ++ x) (o.rest_is ok ∙ sym e) ∙ sym (append-nil (o.up ++ bytes));
  rest_is = λ _. refl;
}

pub out_failed : (failed : Bool) (sent heard there here bytes rest now : List ℕ) → failed ≡ false → OutTracks failed sent heard there here → here ≡ bytes ++ rest → OutTracks true (sent ++ bytes) heard there now
out_failed failed sent heard there here bytes rest now ok o e = record {
  up = o.up ++ bytes;
  rest = rest;
  sent_is = more_behind heard sent o.up bytes o.sent_is;
  out_is = o.out_is ∙ ap (λ (x : List ℕ). o.up ++ x) (o.rest_is ok ∙ e) ∙ sym (append_assoc o.up bytes rest);
  rest_is = λ f. never_both true refl f;
}

pub loss_out : (link : Link) (c : ClientState) (b : Bool) → is_lost_by link c.outcome c.progress ≡ b → (after_loss link c).out ≡ c.out
loss_out link c true e = rw e refl
loss_out link c false e = rw e refl

-- ---- the loop makes its data connection

pub follows_dialled : (dropped : Bool) (c q : ClientState) (port : ℕ) (new : ClientState) → DialsPort c port new → Follows false dropped c q → Follows true dropped new q
follows_dialled dropped c q port new d (Alike off same) =
    let wants : wanted_port q.progress ≡ Some port = ap (λ (x : ClientState). wanted_port x.progress) same ∙ d.wanted in
    Dialled refl (subst IsSome (sym wants) refl) (ap (λ (x : ClientState). is_running x.outcome) same ∙ d.running)
    (d.new_is ∙ ap (λ (x : ClientState). with_out c.out (with_data_opened x)) (sym same) ∙ ap (λ (o : List ℕ). with_out o (with_data_opened q)) (sym (ap (λ (x : ClientState). x.out) d.new_is)))
follows_dialled dropped c q port new d (Dialled on wants runs same) = never_both false on refl
follows_dialled dropped c q port new d (Lost runs over wants) = not_over c.outcome over d.running
follows_dialled dropped c q port new d (Cut off told over (inl receives)) = receives_not c.outcome c.progress receives (subst IsSome (sym d.wanted) refl)
follows_dialled dropped c q port new d (Cut off told over (inr lost)) = not_over c.outcome lost d.running

-- while one waits to be accepted, another is not made
pub dials_once : (dropped : Bool) (c q : ClientState) (port : ℕ) (new : ClientState) → DialsPort c port new → (b : Bool) → Follows b dropped c q → b ≡ false
dials_once dropped c q port new d b (Alike off same) = off
dials_once dropped c q port new d b (Dialled on wants runs same) =
    let receives : is_receiving c.outcome c.progress ≡ true = ap (λ (x : ClientState). is_receiving x.outcome x.progress) same ∙ dialled_receives q runs wants in
    receives_not c.outcome c.progress receives (subst IsSome (sym d.wanted) refl)
dials_once dropped c q port new d b (Lost runs over wants) = not_over c.outcome over d.running
dials_once dropped c q port new d b (Cut off told over either) = off

-- Strangers who come to a daemon, act by act.
use Rattle.std.specs.Prelude.{ℕ, ◌≡◌, false, Some, None, List, [], ◌∷◌}
use Rattle.page_sources.specs.SourceView.{source_state}
use Rattle.saned_core.specs.declared.session_slot.Fed.{Fed}
use Rattle.saned_core.specs.declared.session_slot.Fed.TheVariants.{Standing, Over}
use Rattle.saned_serve.specs.SessionActions.SessionAction.{Feed, Leaves, Opens}
use Rattle.saned_requests.specs.RequestAnswers.{own_version}
use Rattle.wire_message.specs.declared.message.Request.TheVariants as requests
use Rattle.wire_writing.specs.RequestWriting.{write_request}
use Rattle.event_world.specs.Worlds.{WorldCore}
use Rattle.strangers.specs.Among.{StrangerAct}
use Rattle.strangers.specs.Together.{JointEvent, Leases, RunsAmong}
use Rattle.strangers.specs.Together.JointEvent.{OfStranger}

-- ---- what a stranger does

-- the session of that number is opened
abbrev pub comes : ℕ → StrangerAct
comes n = record { session = n; act = Opens 1 }

-- it is fed a piece, with which no frame begins, and this becomes of it
abbrev pub says : ℕ → List ℕ → Fed → StrangerAct
says n piece fed = record { session = n; act = Feed piece fed false }

-- it is ended
abbrev pub is_cut_off : ℕ → StrangerAct
is_cut_off n = record { session = n; act = Leaves 1 None }

-- **visits (`garbage`, `until_taken`, `until_gone`, `HasVisits`)**: one stranger says four bytes that begin no request,
-- which ends his session, and is lost. Another one greets, and opens a device. Later he is lost, and a third one
-- greets, and stays.
--
-- a word that no request begins with
abbrev pub garbage : List ℕ
garbage = 0 ∷ 0 ∷ 0 ∷ 99 ∷ []

abbrev pub until_taken : List ℕ → List ℕ → List StrangerAct
until_taken greeting opening =
    comes 0 ∷ says 0 garbage Over ∷ is_cut_off 0 ∷ comes 1 ∷ says 1 greeting Standing ∷ says 1 opening Standing ∷ []

abbrev pub until_gone : List ℕ → List StrangerAct
until_gone greeting = is_cut_off 1 ∷ comes 2 ∷ says 2 greeting Standing ∷ []

-- as events among those of jobs
abbrev pub of_strangers : List StrangerAct → List JointEvent
of_strangers [] = []
of_strangers (a ∷ acts) = OfStranger a ∷ of_strangers acts

-- the bytes of an INIT and of an OPEN
pub record AreBytesSaid (name greeting opening : List ℕ) : Type 0 where
  pub greets : write_request.text (requests.Init own_version []) ≡ Some greeting
  pub opens : write_request.text (requests.Open name) ≡ Some opening

-- the first two came so from the first world to the second, and there the second one has the device of the first place
pub record HasVisits (name : List ℕ) (first taken : WorldCore) : Type 0 where
  pub greeting : List ℕ
  pub opening : List ℕ
  pub said : AreBytesSaid name greeting opening
  pub came : RunsAmong source_state (of_strangers (until_taken greeting opening)) first taken
  pub has : Leases taken 1 0

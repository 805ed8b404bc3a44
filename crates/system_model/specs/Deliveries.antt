-- Deliveries: messages come in pieces of bytes, and what a piece shows are the marks of the requests that it makes
-- whole.
use Rattle.std.specs.Prelude.{ℕ, ◌+◌, ◌-◌, ◌≡◌, suc, List, [], ◌∷◌, ◌++◌, Option, take, drop, if◌then◌else◌, nat_le}
use Rattle.system_model.specs.AbstractMessages.{Challenge}
use Rattle.system_model.specs.Daemon.{FailureCounts}
use Rattle.system_model.specs.SystemStates.{SystemState}
use Rattle.system_model.specs.Actions
use Rattle.system_model.specs.Transitions.{Transition, By, after_all}
use Rattle.system_model.specs.Marks.{Mark}
use Rattle.system_model.specs.MoveRuns.{all_marks}

-- a link: how many bytes each message on the way has, and how many of these bytes have come
pub record AbstractLink : Type 0 where
  pub sizes : List ℕ
  pub came : ℕ

-- how many messages are whole once so many bytes have come
abbrev pub whole_messages : List ℕ → ℕ → ℕ
whole_messages [] came = 0
whole_messages (size ∷ sizes) came = if nat_le size came then suc (whole_messages sizes (came - size)) else 0

-- the link without the messages that are whole
abbrev pub rest_of_link : List ℕ → ℕ → AbstractLink
rest_of_link [] came = record { sizes = []; came = came }
rest_of_link (size ∷ sizes) came =
    if nat_le size came then rest_of_link sizes (came - size) else record { sizes = size ∷ sizes; came = came }

-- n bytes more are delivered: so many messages become whole, and this link is left
abbrev pub messages_completed : AbstractLink → ℕ → ℕ
messages_completed link n = whole_messages link.sizes (link.came + n)

abbrev pub link_after : AbstractLink → ℕ → AbstractLink
link_after link n = rest_of_link link.sizes (link.came + n)

-- what chance decides of an answer: the challenge that is sent, and how a page source fails
abbrev pub Chance : Type 0
Chance = Challenge × Option FailureCounts

abbrev pub answers : ℕ → List Chance → List Transition
answers i [] = []
answers i (chance ∷ chances) = By i (Actions.Answers chance.0 chance.1) ∷ answers i chances

-- the steps of a delivery of n bytes to client i's session: an answer to each request that becomes whole
abbrev pub delivery : ℕ → AbstractLink → ℕ → List Chance → List Transition
delivery i link n chances = answers i (take (messages_completed link n) chances)

-- what it shows of device d
abbrev pub delivery_marks : ℕ → SystemState → ℕ → AbstractLink → ℕ → List Chance → List Mark
delivery_marks d s i link n chances = all_marks d s (delivery i link n chances)

-- In whatever pieces bytes are delivered, the same requests become whole,
abbrev pub PiecesComplete : Type 0
PiecesComplete = (link : AbstractLink) (n m : ℕ)
    → (messages_completed link (n + m) ≡ messages_completed link n + messages_completed (link_after link n) m)
    × (link_after link (n + m) ≡ link_after (link_after link n) m)

-- and the same marks are shown.
abbrev pub PiecesShowTheSame : Type 0
PiecesShowTheSame =
    (d : ℕ) (s : SystemState) (i : ℕ) (link : AbstractLink) (n m : ℕ) (chances : List Chance) →
    delivery_marks d s i link (n + m) chances
    ≡ delivery_marks d s i link n chances
    ++ delivery_marks d (after_all s (delivery i link n chances)) i (link_after link n) m
    (drop (messages_completed link n) chances)

-- Moves that give bytes alone.
use Rattle.std.proofs.Common.{◌≡◌, ◌∙◌, ◌<◌, ℕ, true, false, List, [], ◌∷◌, ◌++◌, length, refl, sym, ap, subst, append_assoc}
use Rattle.std.proofs.lemmas.List.{append-nil}
use Rattle.frame_join.specs.FrameHistory.{JoinHistory}
use Rattle.client_replies.specs.ProtocolStates.{is_ended, turns}
use Rattle.net_client.specs.ClientStates.{ClientState, ClientRepresents}
use Rattle.net_client.specs.Taking.{TakesFile}
use Rattle.net_jobs.specs.JobJournal.{AreGives, JobMove, Gives, GivesFileBytes, MovesLead, bytes_written_by, heard_by, given_by, dialled_by, has_write_failed, HasLoss}
use Rattle.net_jobs.specs.Inside.{GivesAll, loss_of}
use Rattle.net_jobs.specs.Links.{LinkViews, Calls}

-- ---- one call of the client's `take_file`

pub gives_by : (old new : ClientState) (piece : List ℕ) (n room : ℕ) → length piece ≡ n → 0 < room → new.outcome ≡ old.outcome → (is_ended old.outcome ≡ true → (n ≡ 0) × (new ≡ old))
    → (is_ended old.outcome ≡ false → turns old.outcome old.progress ≡ false → new ≡ record old { join = new.join }) → ((past : JoinHistory) → ClientRepresents past old → TakesFile old past room piece new) → GivesFileBytes old piece new
gives_by old new piece n room size some outcome ended same taken = record {
  room = room;
  some_room = some;
  outcome = outcome;
  ended = λ e. (size ∙ (ended e).0, (ended e).1);
  same = same;
  taken = taken;
}

pub gives_none : (old : ClientState) → GivesAll old [] old
gives_none old = record { are = tt; leads = refl }

pub gives_more : (old was new : ClientState) (gives : List JobMove) (piece : List ℕ) → GivesAll old gives was → GivesFileBytes was piece new → GivesAll old (Gives piece ∷ gives) new
gives_more old was new gives piece all more = record { are = all.are; leads = (was, all.leads, more) }

-- ---- behind a journal

pub leads_on : (first was now : ClientState) (gives moves : List JobMove) → MovesLead first moves was → MovesLead was gives now → MovesLead first (gives ++ moves) now
leads_on first was now [] moves m e = subst (λ (v : ClientState). MovesLead first moves v) (sym e) m
leads_on first was now (move ∷ gives) moves m g = (g.0, leads_on first was g.0 gives moves m g.1, g.2)

pub calls_on : {L : Type 0} (views : LinkViews L) (first at_links : L) (gives moves : List JobMove) → AreGives gives → Calls views first moves at_links → Calls views first (gives ++ moves) at_links
calls_on views first at_links [] moves are c = c
calls_on views first at_links (Gives bytes ∷ gives) moves are c = (at_links, calls_on views first at_links gives moves are c, refl)
calls_on views first at_links (move ∷ gives) moves are c = absurd are

pub heard_on_gives : (gives moves : List JobMove) → AreGives gives → heard_by (gives ++ moves) ≡ heard_by moves
heard_on_gives [] moves are = refl
heard_on_gives (Gives bytes ∷ gives) moves are = heard_on_gives gives moves are
heard_on_gives (move ∷ gives) moves are = absurd are

pub written_on_gives : (gives moves : List JobMove) → AreGives gives → bytes_written_by (gives ++ moves) ≡ bytes_written_by moves
written_on_gives [] moves are = refl
written_on_gives (Gives bytes ∷ gives) moves are = written_on_gives gives moves are
written_on_gives (move ∷ gives) moves are = absurd are

pub dialled_on_gives : (gives moves : List JobMove) → AreGives gives → dialled_by (gives ++ moves) ≡ dialled_by moves
dialled_on_gives [] moves are = refl
dialled_on_gives (Gives bytes ∷ gives) moves are = dialled_on_gives gives moves are
dialled_on_gives (move ∷ gives) moves are = absurd are

pub loss_on_gives : (gives moves : List JobMove) → AreGives gives → loss_of (gives ++ moves) ≡ loss_of moves
loss_on_gives [] moves are = refl
loss_on_gives (Gives bytes ∷ gives) moves are = loss_on_gives gives moves are
loss_on_gives (move ∷ gives) moves are = absurd are

pub failed_on_gives : (gives moves : List JobMove) → AreGives gives → has_write_failed (gives ++ moves) ≡ has_write_failed moves
failed_on_gives [] moves are = refl
failed_on_gives (Gives bytes ∷ gives) moves are = failed_on_gives gives moves are
failed_on_gives (move ∷ gives) moves are = absurd are

pub lost_on_gives : (gives moves : List JobMove) → AreGives gives → HasLoss moves → HasLoss (gives ++ moves)
lost_on_gives [] moves are loss = loss
lost_on_gives (Gives bytes ∷ gives) moves are loss = lost_on_gives gives moves are loss
lost_on_gives (move ∷ gives) moves are loss = absurd are

pub given_on_gives : (gives moves : List JobMove) → AreGives gives → given_by (gives ++ moves) ≡ given_by moves ++ given_by gives
given_on_gives [] moves are = sym (append-nil (given_by moves))
given_on_gives (Gives bytes ∷ gives) moves are = ap (λ (l : List ℕ). l ++ bytes) (given_on_gives gives moves are) ∙ append_assoc (given_by moves) (given_by gives) bytes
given_on_gives (move ∷ gives) moves are = absurd are

-- Requests in flight stay unseen by their client.
use Rattle.std.proofs.Common.{◌≡◌, ◌∙◌, inl, inr, ℕ, Option, Some, None, List, ◌++◌, append_assoc, sym, ap}
use Rattle.wire_format.specs.Writer.{behind}
use Rattle.frame_join.specs.FrameHistory.{JoinHistory}
use Rattle.net_client.specs.ClientStates.{ClientRepresents, ClientState, TurnsPage}
use Rattle.net_client.specs.ClientStates.TakesPage.{Stays, Turns}
use Rattle.net_client.specs.FramePieces.{FailsAtBytes, TakesBytes, TakesEndRecord, TakesFrameEnd}
use Rattle.net_client.specs.ReplyPieces.{EndsOutOfMemory, EndsOutOfMemoryHere, HasHeard, IsGarbled}
use Rattle.net_client.specs.ReplyPieces.Heeds.{Garbled, OutOfMemoryAtOnce, OutOfMemoryBehind, Whole}
use Rattle.in_flight.specs.Requests.{HistoriesAreAlike, TurnedPagesAreAlike, TakenRecordsAreAlike, HeardRepliesAreAlike, with_unheard}

-- ---- which histories a client stands for has nothing to do with what is to go out

represents_more : (up : List ℕ) (past : JoinHistory) (c : ClientState) → ClientRepresents past c → ClientRepresents past (with_unheard up c)
represents_more up past c s = record { stands = s.stands; fits = s.fits }

represents_less : (up : List ℕ) (past : JoinHistory) (c : ClientState) → ClientRepresents past (with_unheard up c) → ClientRepresents past c
represents_less up past c s = record { stands = s.stands; fits = s.fits }

pub histories_alike : HistoriesAreAlike
histories_alike up past c = (represents_more up past c, represents_less up past c)

in_front : (up old new : List ℕ) (text : Option (List ℕ)) → behind old text ≡ Some new → behind (up ++ old) text ≡ Some (up ++ new)
in_front up old new None e = absurd (let clash : None ≡ Some new = e in cc)
in_front up old new (Some text) e =
    let same : old ++ text ≡ new = (let s : Some (old ++ text) ≡ Some new = e in cc) in
    ap (λ (x : List ℕ). Some x) (append_assoc up old text ∙ ap (λ (x : List ℕ). up ++ x) same)

-- ---- the control connection

heard_more : (up : List ℕ) (old : ClientState) (past : JoinHistory) (piece : List ℕ) (new : ClientState) → HasHeard old past piece new → HasHeard (with_unheard up old) past piece (with_unheard up new)
heard_more up old past piece new h = record {
  told = h.told;
  text = h.text;
  sent = h.sent;
  history_then = h.history_then;
  whole = h.whole;
  hears = h.hears;
  serves = represents_more up h.history_then new h.serves;
  out = ap (λ (x : List ℕ). up ++ x) h.out ∙ sym (append_assoc up old.out h.sent);
  target = h.target;
}

garbled_more : (up : List ℕ) (was new : ClientState) → IsGarbled was new → IsGarbled (with_unheard up was) (with_unheard up new)
garbled_more up was new g = record { procedure = g.procedure; awaited_is = g.awaited_is; no_start = g.no_start; ends = ap (with_unheard up) g.ends }

starved_more : (up : List ℕ) (old : ClientState) (past : JoinHistory) (new : ClientState) → EndsOutOfMemory old past new → EndsOutOfMemory (with_unheard up old) past (with_unheard up new)
starved_more up old past new s = record {
  outcome = s.outcome;
  progress = s.progress;
  target = s.target;
  out = ap (λ (x : List ℕ). up ++ x) s.out;
  history_then = s.history_then;
  given = s.given;
  serves = represents_more up s.history_then new s.serves;
}

starved_here_more : (up : List ℕ) (old : ClientState) (past : JoinHistory) (new : ClientState) → EndsOutOfMemoryHere old past new → EndsOutOfMemoryHere (with_unheard up old) past (with_unheard up new)
unfolding starved_more
starved_here_more up old past new c = record { starved = starved_more up old past new c.starved; ended = c.ended }

pub replies_alike : HeardRepliesAreAlike
unfolding heard_more
replies_alike up old past piece new (Whole h wants) = Whole (heard_more up old past piece new h) wants
replies_alike up old past piece new (Garbled was h runs g) = Garbled (with_unheard up was) (heard_more up old past piece was h) runs (garbled_more up was new g)
replies_alike up old past piece new (OutOfMemoryBehind was h runs c) = OutOfMemoryBehind (with_unheard up was) (heard_more up old past piece was h) runs (starved_here_more up was h.history_then new c)
replies_alike up old past piece new (OutOfMemoryAtOnce c) = OutOfMemoryAtOnce (starved_here_more up old past new c)

-- ---- the data connection

bytes_more : (up : List ℕ) (old : ClientState) (past : JoinHistory) (piece : List ℕ) (new : ClientState) → TakesBytes old past piece new → TakesBytes (with_unheard up old) past piece (with_unheard up new)
bytes_more up old past piece new g =
    record { frame = g.frame; under = g.under; reads = g.reads; going = g.going; serves = represents_more up _ new g.serves; rest = ap (with_unheard up) g.rest }

end_more : (up : List ℕ) (old : ClientState) (past : JoinHistory) (status : ℕ) (new : ClientState) → TakesEndRecord old past status new → TakesEndRecord (with_unheard up old) past status (with_unheard up new)
end_more up old past status new e =
    record { protocol = e.protocol; serves = represents_more up _ new e.serves; said = in_front up old.out new.out _ e.said; rest = ap (with_unheard up) e.rest }

frame_more : (up : List ℕ) (old : ClientState) (past : JoinHistory) (piece : List ℕ) (new : ClientState) → TakesFrameEnd old past piece new → TakesFrameEnd (with_unheard up old) past piece (with_unheard up new)
frame_more up old past piece new e =
    record { frame = e.frame; under = e.under; status = e.status; join = e.join; reads = e.reads; ends = end_more up _ _ e.status new e.ends }

fails_more : (up : List ℕ) (old : ClientState) (past : JoinHistory) (piece : List ℕ) (new : ClientState) → FailsAtBytes old past piece new → FailsAtBytes (with_unheard up old) past piece (with_unheard up new)
fails_more up old past piece new f =
    record { frame = f.frame; under = f.under; fault = f.fault; reads = f.reads; serves = represents_more up _ new f.serves; rest = ap (with_unheard up) f.rest }

pub records_alike : TakenRecordsAreAlike
records_alike up old past piece new (inl g) = inl (bytes_more up old past piece new g)
records_alike up old past piece new (inr (inl e)) = inr (inl (frame_more up old past piece new e))
records_alike up old past piece new (inr (inr f)) = inr (inr (fails_more up old past piece new f))

-- ---- the pages of a batch

turns_more : (up : List ℕ) (old new : ClientState) → TurnsPage old new → TurnsPage (with_unheard up old) (with_unheard up new)
turns_more up old new t = record { rest = ap (with_unheard up) t.rest; text = in_front up old.out new.out _ t.text; stands = t.stands }

pub pages_alike : TurnedPagesAreAlike
pages_alike up old past bytes new (Stays partial rest serves) = Stays partial (ap (with_unheard up) rest) (represents_more up _ new serves)
pages_alike up old past bytes new (Turns whole denotes turns serves) = Turns whole denotes (turns_more up old new turns) (represents_more up _ new serves)

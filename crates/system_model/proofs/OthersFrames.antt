-- CANCEL AND CLOSE OF ONE WORD leave the frame of another as it is.
use Rattle.std.proofs.Common.{◌≡◌, ◌≢◌, ℕ, Bool, true, false, Option, Some, None, refl, sym, subst, inl, inr, eqb}
use Rattle.system_model.specs.AbstractMessages.{AbstractRequest, Cancel, Close}
use Rattle.system_model.specs.Devices.{Make}
use Rattle.system_model.specs.AbstractDevices.{AbstractDevice}
use Rattle.system_model.specs.Daemon.{TransferState, Quiet, Waiting, Streaming, Ending, Environment}
use Rattle.system_model.specs.AbstractSessions.{AbstractSession, FullEffect, framed_by, word_call, plain_call, OthersFramesStay}

-- the frame is that of before, and so is its word where there is one
abbrev Stays : AbstractSession → FullEffect → Type 0
Stays s comes = (comes.session.transfer ≡ s.transfer) × (s.transfer ≢ Quiet → comes.session.framed ≡ s.framed)

still_framed : (c : TransferState) (w framed : ℕ) → c ≢ Quiet → framed_by c c w framed ≡ framed
still_framed Quiet w framed n = absurd (n refl)
still_framed Waiting w framed n = refl
still_framed Streaming w framed n = refl
still_framed Ending w framed n = refl

cancels : (i : ℕ) (make : ℕ → Make) (table : ℕ → AbstractDevice) (s : AbstractSession) (x : Environment) (w : ℕ) (o : Option ℕ) (own : Bool) → eqb w s.framed ≡ own → own ≡ false → Stays s (word_call i make table s x Cancel w o)
cancels i make table s x w None own e f = (refl, λ n. refl)
cancels i make table s x w (Some d) true e f = cc
cancels i make table s x w (Some d) false e f = rw e (refl, still_framed s.transfer w s.framed)

closes : (i : ℕ) (make : ℕ → Make) (table : ℕ → AbstractDevice) (s : AbstractSession) (x : Environment) (w : ℕ) (o : Option ℕ) (own : Bool) → eqb w s.framed ≡ own → own ≡ false → Stays s (word_call i make table s x Close w o)
closes i make table s x w None own e f = (refl, λ n. refl)
closes i make table s x w (Some d) true e f = cc
closes i make table s x w (Some d) false e f = rw e (refl, still_framed s.transfer w s.framed)

pub others_frames : OthersFramesStay
others_frames i make table s x call (inl q) e =
    subst (λ (r : AbstractRequest). Stays s (plain_call i make table s x call r)) (sym q) (cancels i make table s (x call.place) call.word (s.words call.word) _ refl e)
others_frames i make table s x call (inr q) e =
    subst (λ (r : AbstractRequest). Stays s (plain_call i make table s x call r)) (sym q) (closes i make table s (x call.place) call.word (s.words call.word) _ refl e)

-- What pulls of a file make of a client, and an output that took nothing.
use Rattle.std.proofs.Common.{◌≡◌, ◌≢◌, ◌∙◌, ℕ, Ok, Err, Bool, true, false, List, [], ◌++◌, Option, Some, None, refl, sym, ap, append_assoc}
use Rattle.std.proofs.KnownBytes.{Appends-nil}
use Rattle.std.proofs.lemmas.List.{append-nil}
use Rattle.page_picture.specs.Shows.{Frame}
use Rattle.frame_join.specs.declared.join_stage.JoinFault.{JoinFault}
use Rattle.frame_join.specs.FrameHistory.{JoinHistory, after_pull, answer_by}
use Rattle.frame_join.proofs.StreamLaws.{nothing_holds_none}
use Rattle.frame_join.specs.JoinStates.{JoinState}
use Rattle.net_client.specs.ClientStates.{ClientState}
use Rattle.scan_job.specs.FileOutputs.{StopsShort}

-- no fault stands where the picture is whole
pub joined_calm : (fault : Option JoinFault) (under : Option Frame) (ended : List Frame) → answer_by fault under ended ≡ Ok true → fault ≡ None
joined_calm (Some f) under ended e = absurd (let clash : Err f ≡ Ok true = e in cc)
joined_calm None under ended e = refl

-- giving nothing changes nothing
pub pulled_none : (past : JoinHistory) → after_pull [] past ≡ past
pulled_none past = ap (λ (l : List ℕ). record past { given = l }) (append-nil past.given)

pub pulled_twice : (past : JoinHistory) (xs ys : List ℕ) → after_pull ys (after_pull xs past) ≡ after_pull (xs ++ ys) past
pulled_twice past xs ys = ap (λ (l : List ℕ). record past { given = l }) (append_assoc past.given xs ys)

pub join_only : (old was now : ClientState) → was ≡ record old { join = was.join } → now ≡ record was { join = now.join } → now ≡ record old { join = now.join }
join_only old was now a b = b ∙ ap (λ (v : ClientState). record v { join = now.join }) a

pub not_ended : (b : Bool) (n : ℕ) → n ≢ 0 → (b ≡ true → n ≡ 0) → b ≡ false
not_ended true n some none = absurd (some (none refl))
not_ended false n some none = refl

pub unmoved : (b : Bool) (was now : ClientState) → b ≡ b → (b ≡ true → now ≡ was) → (b ≡ false → now ≡ record was { join = now.join }) → now ≡ record was { join = now.join }
unmoved true was now e stopped same = stopped refl ∙ ap (λ (j : JoinState). record was { join = j }) (sym (ap (λ (v : ClientState). v.join) (stopped refl)))
unmoved false was now e stopped same = same refl

-- an output that took nothing took no whole file
pub stays_short : (held : Option (List ℕ)) → StopsShort held held
stays_short held = record { text = []; taken = Appends-nil held; none = nothing_holds_none }

-- The challenge that a session has sent is one that is read in what it sent: its client answered it.
use Rattle.std.specs.Prelude.{option_map}
use Rattle.std.proofs.Common.{◌≡◌, ◌∙◌, ℕ, List, [], ◌∷◌, ◌++◌, Bool, true, false, Option, Some, None, inl, inr, refl, sym, ap}
use Rattle.md5.specs.Md5.{md5}
use Rattle.md5_auth.specs.Allowed.{answer_text}
use Rattle.md5_auth.specs.ChallengeReading.{answer_of, challenge_of}
use Rattle.client_replies.specs.ProtocolStates.{target_of}
use Rattle.system_model.specs.AbstractDevices.{AbstractDevice}
use Rattle.system_model.specs.AbstractMessages.{AbstractRequest, Challenge, Authorize, Open}
use Rattle.system_model.specs.Client.{AbstractProgress, Allowing, ClientView, Done, Ended, Idle, JobStage, Opening, Running, request_awaited}
use Rattle.system_model.specs.Devices.{Make}
use Rattle.system_model.specs.Invariants.{StageInvariant}
use Rattle.system_model.specs.Sync.{InSync}
use Rattle.system_model.specs.SystemStates.{JobState, SessionView}
use Rattle.system_model.specs.Transitions.{IsUnderWay}
use Rattle.event_world.specs.Worlds.{WorldCore}
use Rattle.world_refines.specs.GhostStates.{Ghost}
use Rattle.world_refines.specs.WorldRefinement.{WorldRefines}
use Rattle.world_refines.proofs.requests.SameRequest.{allow_is, wrote_there}
use Rattle.world_refines.proofs.requests.Waiting.{none_asked}
use Rattle.scan_world.proofs.moments.Requests.{IsOpening}

-- what is asked begins with an OPEN, or with an AUTHORIZE
abbrev opens_first : List AbstractRequest → Bool
opens_first [] = false
opens_first (Open ∷ rest) = true
opens_first (Authorize challenge ∷ rest) = true
opens_first (q ∷ rest) = false

opening_first : (q : AbstractRequest) (rest : List AbstractRequest) → IsOpening q → opens_first (q ∷ rest) ≡ true
opening_first Open rest opening = refl
opening_first (Authorize challenge) rest opening = refl
opening_first q rest opening = absurd opening

synced_awaits : (i : ℕ) (k : Make) (b : SessionView) (m : ClientView) (dev : AbstractDevice) (g : AbstractProgress) (q : AbstractRequest) (rest : List AbstractRequest) (c : Challenge) → q ∷ rest ≡ request_awaited g → opens_first (q ∷ rest) ≡ true → InSync i k b m dev g → b.awaited ≡ Some c → q ≡ Authorize c
synced_awaits i k b m dev Opening q rest c e first s is = absurd (let clash : None ≡ Some c = sym s.0.awaits ∙ is in cc)
synced_awaits i k b m dev (Allowing d) q rest c e first s is =
    let same : d ≡ c = (let both : Some d ≡ Some c = sym s.0.awaits ∙ is in cc) in
    let asked : q ≡ Authorize d = (let both : q ∷ rest ≡ Authorize d ∷ [] = e in cc) in
    asked ∙ ap (λ (x : Challenge). Authorize x) same
synced_awaits i k b m dev g q rest c e first s is = absurd (let clash : true ≡ false = sym first ∙ ap opens_first e in cc)

-- a job that is under way, whose session awaits the answer to a challenge, and which asks for its device, asks by that answer
pub awaits_by : (i : ℕ) (k : Make) (p : JobState) (dev : AbstractDevice) (stage : JobStage) (q : AbstractRequest) (rest : List AbstractRequest) (c : Challenge) → IsUnderWay stage → StageInvariant i k p dev stage → p.todo ≡ q ∷ rest → IsOpening q → p.session.awaited ≡ Some c → q ≡ Authorize c
awaits_by i k p dev Idle q rest c on h e opening is = none_asked p.todo rest q h.1 e
awaits_by i k p dev (Running g) q rest c on (inl h) e opening is = synced_awaits i k p.session p.client dev g q rest c (sym e ∙ h.todo) (opening_first q rest opening) h.in_sync is
awaits_by i k p dev (Running g) q rest c on (inr (inl h)) e opening is = none_asked p.todo rest q h.todo e
awaits_by i k p dev (Running g) q rest c on (inr (inr h)) e opening is = none_asked p.todo rest q h.todo e
awaits_by i k p dev Done q rest c on h e opening is = absurd on
awaits_by i k p dev (Ended status why) q rest c on h e opening is = absurd on

-- what has an answer has a challenge
abbrev HasChallenge : List ℕ → Type 0
HasChallenge resource = (challenge : List ℕ) × (challenge_of resource ≡ Some challenge)

by_challenge : (resource password answer : List ℕ) (o : Option (List ℕ)) → challenge_of resource ≡ o → option_map (λ challenge. answer_text (md5 (challenge ++ password))) o ≡ Some answer → HasChallenge resource
by_challenge resource password answer None at e = absurd (let clash : None ≡ Some answer = e in cc)
by_challenge resource password answer (Some challenge) at e = (challenge, at)

answered_has : (resource password answer : List ℕ) → answer_of resource password ≡ Some answer → HasChallenge resource
unfolding answer_of
answered_has resource password answer e = by_challenge resource password answer (challenge_of resource) refl e

pub challenge_there : (t : Ghost) (w : WorldCore) (i : ℕ) (c : Challenge) (rest : List AbstractRequest) → WorldRefines t w → IsUnderWay (t.system.job i).client.stage → (t.system.job i).todo ≡ Authorize c ∷ rest → HasChallenge c
challenge_there t w i c rest h on todo =
    let a = wrote_there t w i (Authorize c) rest h on todo in
    let sent = allow_is (target_of (t.jobs i)) 0 (t.system.job i).client.known c a.0 a.1 in
    answered_has c (t.jobs i).password sent.0 sent.1

-- ONE REPLY to a client that is under way: what the daemon says of the request that it waits for is the model's reply.
use Rattle.std.specs.Prelude.{option_map}
use Rattle.std.proofs.Common.{◌≡◌, ◌≢◌, inl, inr, ◌∙◌, ℕ, List, [], ◌∷◌, Option, Some, None, Bool, true, false, cond, eqb, eqb-true, refl, sym, ap, subst, map, slice_get}
use Rattle.sane_fixed.specs.declared.kind.Kind.{Kind}
use Rattle.option_desc.specs.declared.descriptor.Descriptor.{Descriptor}
use Rattle.option_desc.specs.declared.value.Value.{Value}
use Rattle.device_api.specs.Options as table
use Rattle.device_api.specs.State.{DeviceState}
use Rattle.dispatch.specs.declared.table.place.Lease.{Lease}
use Rattle.frame_join.specs.FrameHistory.{JoinHistory}
use Rattle.wire_message.specs.declared.message.Request.{Request as Asked}
use Rattle.wire_message.specs.declared.message.WireValue.{WireValue}
use Rattle.client_replies.specs.declared.progress.JobTarget.{JobTarget}
use Rattle.client_replies.specs.declared.progress.Notes.{Notes}
use Rattle.client_replies.specs.declared.progress.Progress.{Progress}
use Rattle.client_replies.specs.declared.progress.Progress.TheVariants as stages
use Rattle.client_replies.specs.ReplyTurns.{of_kind}
use Rattle.client_replies.specs.ProtocolStates.{target_of}
use Rattle.client_replies.specs.GivenValues.{given_like, wire_value_in}
use Rattle.saned_requests.specs.declared.request_answer.RequestAnswer.{RequestAnswer}
use Rattle.scan_job.specs.KnownValues.{has_one_value}
use Rattle.saned_requests.specs.Holding.{free_word, held_by}
use Rattle.saned_requests.specs.RequestAnswers.{RequestContext, kind_of, options_of_lease}
use Rattle.wire_message.specs.WireValues.{wire_of}
use Rattle.saned_core.specs.Feeding as daemon
use Rattle.system_model.specs.AbstractMessages.{Authorize, Challenge, AbstractReply, AbstractRequest, Set}
use Rattle.system_model.specs.Client as model
use Rattle.system_model.specs.Client.{ClientView, Running, JobStage, request_awaited}
use Rattle.system_model.specs.Devices.{Make, OptionsInForce, AbstractAcceptedSet, accept_value, has_readable_value, readable_value}
use Rattle.system_model.specs.Devices as rules_devices
use Rattle.system_model.specs.AbstractDevices.{AbstractDevice, is_held_by, is_resting, without_first}
use Rattle.system_model.specs.AbstractSessions.{least_free_word as free_of, only_word}
use Rattle.system_model.specs.Invariants as sound
use Rattle.system_model.specs.Sync.{InSync}
use Rattle.system_model.specs.SystemStates.{SessionView, JobState, SystemState, listed_devices, listed_of, make_for, device_for}
use Rattle.system_model.specs.Transitions.{IsUnderWay}
use Rattle.client_refines.specs.ClientRefinement.{IsApt, WaitsAs, descs, values_wanted_from}
use Rattle.client_refines.specs.RequestRefinement.{IsGet, IsRequest, IsSet}
use Rattle.daemon_refines.specs.Agreeing.{manner}
use Rattle.daemon_refines.specs.ContextRefinement.{ContextRefines}
use Rattle.daemon_refines.proofs.Moved.{own}
use Rattle.daemon_refines.proofs.OpenSteps.{free_same}
use Rattle.world_refines.specs.GhostStates.{Ghost, place_of_info}
use Rattle.world_refines.specs.Speaks.{WaitsQuietly}
use Rattle.world_refines.specs.Wires.{SpellsAwaitedReply}
use Rattle.world_refines.specs.WorldRefinement.{session_by}
use Rattle.world_refines.proofs.requests.Asked.{is_word}
use Rattle.world_refines.proofs.state.BegunTrue.{lease_there}
use Rattle.world_refines.proofs.requests.Folding.{InContext}
use Rattle.world_refines.proofs.requests.Kinded.{IsFor}
use Rattle.world_refines.proofs.requests.Listing.{listed_told}
use Rattle.world_refines.proofs.requests.OneReply.{HasShape}
use Rattle.world_refines.proofs.requests.Replied.{IsSaid}
use Rattle.world_refines.proofs.replies.ReplyTelling.{authorize_comes, describing_comes, get_comes, greeting_comes, listing_comes, open_comes, set_comes, shaping_comes, start_comes}
use Rattle.world_refines.proofs.replies.Valued.{known_desc, value_given, value_got, wanted_single}

-- ---- its request is on the way

pub record IsAsking (i : ℕ) (s : SystemState) (r : AbstractRequest) (rest : List AbstractRequest) : Type 0 where
  pub progress : model.AbstractProgress
  pub stage : (s.job i).client.stage ≡ Running progress
  pub asks : sound.RequestInFlight i (make_for s i) (s.job i) (device_for s i) progress
  pub only : request_awaited progress ≡ r ∷ []
  pub none : rest ≡ []

tail_none : (g : model.AbstractProgress) → without_first (request_awaited g) ≡ []
tail_none model.Greeting = refl
tail_none model.Listing = refl
tail_none model.Opening = refl
tail_none (model.Allowing challenge) = refl
tail_none (model.Describing left) = refl
tail_none (model.Putting n value requested left) = refl
tail_none (model.Getting n left) = refl
tail_none model.Starting = refl
tail_none model.Shaping = refl
tail_none (model.Imaging params heard) = refl

asking_so : (i : ℕ) (s : SystemState) (r : AbstractRequest) (rest : List AbstractRequest) (g : model.AbstractProgress) → (s.job i).client.stage ≡ Running g → sound.RequestInFlight i (make_for s i) (s.job i) (device_for s i) g → (s.job i).todo ≡ r ∷ rest → IsAsking i s r rest
asking_so i s r rest g stage a e =
    let all : request_awaited g ≡ r ∷ rest = sym a.todo ∙ e in
    let none : rest ≡ [] = sym (ap without_first all) ∙ tail_none g in
    record { progress = g; stage = stage; asks = a; only = all ∙ ap (λ (x : List AbstractRequest). r ∷ x) none; none = none }

asking_at : (i : ℕ) (s : SystemState) (r : AbstractRequest) (rest : List AbstractRequest) (st : JobStage) → (s.job i).client.stage ≡ st → IsUnderWay st → (s.job i).served ≡ true → (s.job i).todo ≡ r ∷ rest → sound.StageInvariant i (make_for s i) (s.job i) (device_for s i) st → IsAsking i s r rest
asking_at i s r rest model.Idle stage u served e h = absurd (let clash : false ≡ true = sym h.0 ∙ served in cc)
asking_at i s r rest (Running g) stage u served e (inl a) = asking_so i s r rest g stage a e
asking_at i s r rest (Running g) stage u served e (inr (inl t)) = absurd (let clash : [] ≡ r ∷ rest = sym t.todo ∙ e in cc)
asking_at i s r rest (Running g) stage u served e (inr (inr dead)) = absurd (let clash : false ≡ true = sym dead.served ∙ served in cc)
asking_at i s r rest model.Done stage u served e h = absurd u
asking_at i s r rest (model.Ended status why) stage u served e h = absurd u

pub is_asking : (i : ℕ) (s : SystemState) (r : AbstractRequest) (rest : List AbstractRequest) → sound.Invariant s → IsUnderWay (s.job i).client.stage → (s.job i).served ≡ true → (s.job i).todo ≡ r ∷ rest → IsAsking i s r rest
is_asking i s r rest h u served e = asking_at i s r rest (s.job i).client.stage refl u served e (h.exchanges i)

-- behind the answer its reply is
told_at : (i : ℕ) (s : SystemState) (r : AbstractRequest) (g : model.AbstractProgress) → request_awaited g ≡ r ∷ [] → (s.job i).served ≡ true → (s.job i).todo ≡ [] → sound.StageInvariant i (make_for s i) (s.job i) (device_for s i) (Running g) → (reply : AbstractReply) × ((s.job i).due ≡ reply ∷ [])
told_at i s r g only served none (inl a) = absurd (let clash : [] ≡ r ∷ [] = sym none ∙ (a.todo ∙ only) in cc)
told_at i s r g only served none (inr (inl t)) = (t.reply, t.due)
told_at i s r g only served none (inr (inr dead)) = absurd (let clash : false ≡ true = sym dead.served ∙ served in cc)

pub told_one : (i : ℕ) (s : SystemState) (r : AbstractRequest) (g : model.AbstractProgress) → sound.Invariant s → (s.job i).client.stage ≡ Running g → request_awaited g ≡ r ∷ [] → (s.job i).served ≡ true → (s.job i).todo ≡ [] → (reply : AbstractReply) × ((s.job i).due ≡ reply ∷ [])
told_one i s r g h stage only served none = told_at i s r g only served none (subst (λ (st : JobStage). sound.StageInvariant i (make_for s i) (s.job i) (device_for s i) st) stage (h.exchanges i))

-- ---- what it waits for is what it asked for

same_progress : (g f : model.AbstractProgress) → Running g ≡ Running f → g ≡ f
same_progress g f e = cc

same_request : (x y : AbstractRequest) → x ∷ [] ≡ y ∷ [] → x ≡ y
same_request x y e = cc

-- a client that waits so has asked for that
asked_for : (i : ℕ) (s : SystemState) (r : AbstractRequest) (rest : List AbstractRequest) (a : IsAsking i s r rest) (f : model.AbstractProgress) → (s.job i).client.stage ≡ Running f → a.progress ≡ f
asked_for i s r rest a f e = same_progress a.progress f (sym a.stage ∙ e)

request_is : (i : ℕ) (s : SystemState) (r x : AbstractRequest) (rest : List AbstractRequest) (a : IsAsking i s r rest) (f : model.AbstractProgress) → (s.job i).client.stage ≡ Running f → request_awaited f ≡ x ∷ [] → r ≡ x
request_is i s r x rest a f e is = same_request r x (sym a.only ∙ (ap request_awaited (asked_for i s r rest a f e) ∙ is))

sync_at : (i : ℕ) (s : SystemState) (r : AbstractRequest) (rest : List AbstractRequest) (a : IsAsking i s r rest) (f : model.AbstractProgress) → (s.job i).client.stage ≡ Running f → InSync i (make_for s i) (s.job i).session (s.job i).client (device_for s i) f
sync_at i s r rest a f e = subst (λ (g : model.AbstractProgress). InSync i (make_for s i) (s.job i).session (s.job i).client (device_for s i) g) (asked_for i s r rest a f e) a.asks.in_sync

-- ---- its device is at rest where a setting is put

-- what is asked begins with a value put, or with an answer to a challenge
abbrev sets : List AbstractRequest → Bool
sets (Set n value ∷ rest) = true
sets asked = false

abbrev authorizes : List AbstractRequest → Bool
authorizes (Authorize challenge ∷ rest) = true
authorizes asked = false

rests_at : (i : ℕ) (k : Make) (b : SessionView) (m : ClientView) (dev : AbstractDevice) (g : model.AbstractProgress) (r : AbstractRequest) (n : ℕ) (value : Value) → request_awaited g ≡ r ∷ [] → r ≡ Set n value → InSync i k b m dev g → is_resting dev.phase ≡ true
rests_at i k b m dev (model.Putting o request_awaited requested left) r n value e f h = ap is_resting h.settles.held.phase_is
rests_at i k b m dev g r n value e f h = absurd (let clash : false ≡ true = ap sets e ∙ ap (λ (x : AbstractRequest). sets (x ∷ [])) f in cc)

pub rests : (i : ℕ) (s : SystemState) (r : AbstractRequest) (rest : List AbstractRequest) → IsAsking i s r rest → (n : ℕ) (value : Value) → r ≡ Set n value → is_resting (device_for s i).phase ≡ true
rests i s r rest a n value e = rests_at i (make_for s i) (s.job i).session (s.job i).client (device_for s i) a.progress r n value a.only e a.asks.in_sync

-- ---- the first word is free before a device is opened

not_mine : (i : ℕ) (h : Option ℕ) → h ≢ Some i → is_held_by i h ≡ false
not_mine i None n = refl
not_mine i (Some j) n = by_test (eqb j i) refl
  where
    by_test : (b : Bool) → eqb j i ≡ b → b ≡ false
    by_test true e = absurd (n (ap (λ (x : ℕ). Some x) (eqb-true j i e)))
    by_test false e = refl

word_zero : (b : Bool) (d : ℕ) → b ≡ false → free_of (only_word b d) ≡ Some 0
word_zero true d e = absurd (let clash : true ≡ false = e in cc)
word_zero false d e = refl

pub free_zero : (i : ℕ) (make : ℕ → Make) (d : RequestContext) (device : ℕ → AbstractDevice) (p : JobState) → ContextRefines i make d device (session_by i device p) → (device p.session.job.wants).holder ≢ Some i → free_word d.session.held ≡ Some 0
free_zero i make d device p h n =
    let wants = p.session.job.wants in
    sym (free_same d.session.held (session_by i device p).words h.four h.words) ∙ word_zero (is_held_by i (device wants).holder) wants (not_mine i (device wants).holder n)

-- so it is of one that asks to be allowed
pub authorize_free : (i : ℕ) (k : Make) (b : SessionView) (m : ClientView) (dev : AbstractDevice) (g : model.AbstractProgress) (c : Challenge) → request_awaited g ≡ Authorize c ∷ [] → InSync i k b m dev g → dev.holder ≢ Some i
authorize_free i k b m dev (model.Allowing challenge) c e h = h.0.free
authorize_free i k b m dev g c e h = absurd (let clash : false ≡ true = ap authorizes e in cc)

-- ---- what the client knows of its options is what the device has

table_is : (k : Make) (known : List Descriptor) (options dev : OptionsInForce) → known ≡ rules_devices.descriptors_in_force k options → dev ≡ options → known ≡ table.descriptors_of dev
unfolding rules_devices.descriptors_in_force
table_is k known options dev e is = e ∙ ap table.descriptors_of (sym is)

mine_held : (i : ℕ) (h : Option ℕ) → h ≡ Some i → is_held_by i h ≡ true
mine_held i h e = ap (is_held_by i) e ∙ own i

word_descriptors : (i : ℕ) (make : ℕ → Make) (d : RequestContext) (device : ℕ → AbstractDevice) (p : JobState) → ContextRefines i make d device (session_by i device p) → (device p.session.job.wants).holder ≡ Some i → options_of_lease (held_by d.session.held 0) ≡ table.descriptors_of (device p.session.job.wants).options
word_descriptors i make d device p h mine =
    let wants = p.session.job.wants in
    let word : Some wants ≡ option_map (λ (l : Lease DeviceState). l.place) (held_by d.session.held 0) = sym (ap (λ (b : Bool). cond b (Some wants) None) (mine_held i (device wants).holder mine)) ∙ h.words 0 in
    let l = lease_there wants (held_by d.session.held 0) word in
    ap options_of_lease l.1 ∙ ap table.descriptors_of (sym (is_word i make d device p l.0 h l.1).options)

-- a value that is given comes back
set_back : (k : Make) (options : OptionsInForce) (target : JobTarget) (known : List Descriptor) (notes : Notes) (n : ℕ) (kind : Kind) (name : List ℕ) (asked_ : Value) → known ≡ table.descriptors_of options → known ≡ descs notes.known → IsApt target (stages.Putting n kind name asked_) notes →
    (w on : ℕ) (sent : Kind) (value : WireValue) → IsSet 0 known n asked_ w on sent value → (put : AbstractAcceptedSet) → accept_value k options n asked_ ≡ Some put → of_kind kind sent (given_like asked_ (wire_of put.given)) ≡ Some put.given
set_back k options target known notes n kind name asked_ is told apt w on sent value set put e =
    let there : slice_get (descs notes.known) n ≡ Some set.desc = subst (λ (ds : List Descriptor). slice_get ds n ≡ Some set.desc) told set.stands in
    let desc = known_desc notes.known n apt.option set.desc apt.stands there in
    let kind_is : kind ≡ set.desc.kind = apt.kind_is ∙ ap (λ (x : Descriptor). x.kind) desc in
    let back = value_given k options n set.desc set.text asked_ put (subst (λ (ds : List Descriptor). slice_get ds n ≡ Some set.desc) is set.stands) set.reads e in
    subst (λ (x : Kind). of_kind kind x (given_like asked_ (wire_of put.given)) ≡ Some put.given) (sym set.kind_is)
    (subst (λ (x : Kind). of_kind x set.desc.kind (given_like asked_ (wire_of put.given)) ≡ Some put.given) (sym kind_is) back)

-- so does one that is told
get_back : (k : Make) (options : OptionsInForce) (target : JobTarget) (known descriptors : List Descriptor) (notes : Notes) (n : ℕ) (kind : Kind) (size : ℕ) (left : List ℕ) → known ≡ table.descriptors_of options → descriptors ≡ table.descriptors_of options → rules_devices.AreOptionsAllowed k options → known ≡ descs notes.known →
    values_wanted_from 0 notes.known ≡ n ∷ left → IsApt target (stages.Getting n kind size) notes → (w on : ℕ) (sent : Kind) (value : WireValue) → IsGet 0 known n w on sent value → has_readable_value k options n ≡ true →
    of_kind kind (kind_of (slice_get descriptors on) sent) (wire_value_in kind (wire_of (readable_value k options n))) ≡ Some (readable_value k options n)
get_back k options target known descriptors notes n kind size left is own_is allowed told wants apt w on sent value get e =
    let there : slice_get (descs notes.known) n ≡ Some get.desc = subst (λ (ds : List Descriptor). slice_get ds n ≡ Some get.desc) told get.stands in
    let desc = known_desc notes.known n apt.option get.desc apt.stands there in
    let kind_is : kind ≡ get.desc.kind = apt.kind_is ∙ ap (λ (x : Descriptor). x.kind) desc in
    let at : slice_get (table.descriptors_of options) n ≡ Some get.desc = subst (λ (ds : List Descriptor). slice_get ds n ≡ Some get.desc) is get.stands in
    let here : slice_get descriptors on ≡ Some get.desc = ap (λ (ds : List Descriptor). slice_get ds on) own_is ∙ (ap (slice_get (table.descriptors_of options)) get.number ∙ at) in
    let one = wanted_single notes.known n left apt.option wants apt.stands in
    let back = value_got k options n get.desc at allowed (subst (λ (x : Descriptor). has_one_value x.kind x.size ≡ true) desc one) e in
    subst (λ (o : Option Descriptor). of_kind kind (kind_of o sent) (wire_value_in kind (wire_of (readable_value k options n))) ≡ Some (readable_value k options n)) (sym here)
    (subst (λ (x : Kind). of_kind x get.desc.kind (wire_value_in x (wire_of (readable_value k options n))) ≡ Some (readable_value k options n)) (sym kind_is) back)

-- ---- by what it waits for

-- the answer to its request
pub record IsOffered (t : Ghost) (i : ℕ) (s : SystemState) (d : RequestContext) (q : Asked) (r : AbstractRequest) (rest : List AbstractRequest) (said : RequestAnswer) (reply : AbstractReply) (text : List ℕ) : Type 0 where
  pub in_context : InContext t i s d
  pub asking : IsAsking i s r rest
  pub is : IsRequest (target_of (t.jobs i)) 0 (s.job i).client.known q r
  pub for_it : IsFor (make_for s i) (device_for s i).options (listed_devices s) r reply
  pub shape : HasShape q said
  pub spelled : IsSaid (manner d 0) q (reply ∷ []) said
  pub says : daemon.SaysAll (daemon.replies_to said) text

offered_at : (t : Ghost) (i : ℕ) (s : SystemState) (d : RequestContext) (q : Asked) (r x : AbstractRequest) (rest : List AbstractRequest) (said : RequestAnswer) (reply : AbstractReply) (text : List ℕ) (f : model.AbstractProgress) → (s.job i).client.stage ≡ Running f → request_awaited f ≡ x ∷ [] → IsOffered t i s d q r rest said reply text → IsOffered t i s d q x rest said reply text
offered_at t i s d q r x rest said reply text f stage only o = subst (λ (y : AbstractRequest). IsOffered t i s d q y rest said reply text) (request_is i s r x rest o.asking f stage only) o

free_at : (t : Ghost) (i : ℕ) (s : SystemState) (d : RequestContext) → InContext t i s d → (device_for s i).holder ≢ Some i → (manner d 0).free ≡ Some 0
free_at t i s d h n = free_zero i s.make d s.device (s.job i) h.shows n

infos_at : (t : Ghost) (i : ℕ) (s : SystemState) (d : RequestContext) → InContext t i s d → map (place_of_info t.infos) (manner d 0).infos ≡ listed_devices s
infos_at t i s d h = listed_told i s.make d s.device (session_by i s.device (s.job i)) t.infos h.infos h.apart h.shows ∙ ap (listed_of s.device) (sym h.places)

allowed_here : (t : Ghost) (i : ℕ) (s : SystemState) (d : RequestContext) → InContext t i s d → rules_devices.AreOptionsAllowed (make_for s i) (device_for s i).options
allowed_here t i s d h = (h.sound.fit (s.job i).session.job.wants).allowed

pub comes_by : (t : Ghost) (i : ℕ) (s : SystemState) (d : RequestContext) (q : Asked) (r : AbstractRequest) (rest : List AbstractRequest) (said : RequestAnswer) (reply : AbstractReply) (text : List ℕ) (progress : Progress) (notes : Notes) (past : JoinHistory) → IsOffered t i s d q r rest said reply text → WaitsAs (s.job i).session.job progress notes past (s.job i).client → IsApt (target_of (t.jobs i)) progress notes →
    (s.job i).client.known ≡ descs notes.known → WaitsQuietly progress (r ∷ rest) → SpellsAwaitedReply (place_of_info t.infos) progress reply text
comes_by t i s d q r rest said reply text stages.Greeting notes past offer w apt known waits =
    let o = offered_at t i s d q r _ rest said reply text model.Greeting w.0 refl offer in
    greeting_comes (place_of_info t.infos) (make_for s i) (device_for s i).options (listed_devices s) (target_of (t.jobs i)) (s.job i).client.known (manner d 0) q reply said text o.is o.for_it o.shape o.spelled o.says
comes_by t i s d q r rest said reply text stages.Listing notes past offer w apt known waits =
    let o = offered_at t i s d q r _ rest said reply text model.Listing w.0 refl offer in
    listing_comes (place_of_info t.infos) (make_for s i) (device_for s i).options (listed_devices s) (target_of (t.jobs i)) (s.job i).client.known (manner d 0) q reply said text (infos_at t i s d o.in_context) o.is o.for_it o.shape o.spelled o.says
comes_by t i s d q r rest said reply text stages.Opening notes past offer w apt known waits =
    let o = offered_at t i s d q r _ rest said reply text model.Opening w.0 refl offer in
    let sync = sync_at i s r rest offer.asking model.Opening w.0 in
    open_comes (place_of_info t.infos) (make_for s i) (device_for s i).options (listed_devices s) (target_of (t.jobs i)) (s.job i).client.known (manner d 0) q reply said text (free_at t i s d o.in_context sync.0.free) o.is o.for_it o.shape o.spelled o.says
comes_by t i s d q r rest said reply text (stages.Allowing resource answer) notes past offer w apt known waits =
    let challenge = w.0.0 in
    let o = offered_at t i s d q r _ rest said reply text (model.Allowing challenge) w.0.1.0 refl offer in
    let sync = sync_at i s r rest offer.asking (model.Allowing challenge) w.0.1.0 in
    authorize_comes (place_of_info t.infos) (make_for s i) (device_for s i).options (listed_devices s) (target_of (t.jobs i)) (s.job i).client.known (manner d 0) challenge resource answer q reply said text (free_at t i s d o.in_context sync.0.free) o.is o.for_it o.shape o.spelled o.says
comes_by t i s d q r rest said reply text stages.Reopening notes past offer w apt known waits = absurd (let clash : r ∷ rest ≡ [] = waits.silent refl in cc)
comes_by t i s d q r rest said reply text stages.Describing notes past offer w apt known waits =
    let o = offered_at t i s d q r _ rest said reply text (model.Describing _) w.0 refl offer in
    describing_comes (place_of_info t.infos) (make_for s i) (device_for s i).options (listed_devices s) (target_of (t.jobs i)) (s.job i).client.known (manner d 0) q reply said text o.is o.for_it o.shape o.spelled o.says
comes_by t i s d q r rest said reply text (stages.Putting n kind name asked_) notes past offer w apt known waits =
    let requested = w.0.0 in
    let g = model.Putting n asked_ requested _ in
    let o = offered_at t i s d q r _ rest said reply text g w.0.1.0 refl offer in
    let sync = sync_at i s r rest offer.asking g w.0.1.0 in
    let is = table_is (make_for s i) (s.job i).client.known sync.options (device_for s i).options sync.known sync.settles.held.options_are in
    set_comes (place_of_info t.infos) (make_for s i) (device_for s i).options (listed_devices s) (target_of (t.jobs i)) (s.job i).client.known (manner d 0) q n kind name asked_ reply said text
    (λ w on sent value set. set_back (make_for s i) (device_for s i).options (target_of (t.jobs i)) (s.job i).client.known notes n kind name asked_ is known apt w on sent value set) o.is o.for_it o.shape o.spelled o.says
comes_by t i s d q r rest said reply text (stages.Getting n kind size) notes past offer w apt known waits =
    let left = w.0.0 in
    let g = model.Getting n left in
    let o = offered_at t i s d q r _ rest said reply text g w.0.1.0 refl offer in
    let sync = sync_at i s r rest offer.asking g w.0.1.0 in
    let is = table_is (make_for s i) (s.job i).client.known sync.options (device_for s i).options sync.known sync.held.options_are in
    let own_is = word_descriptors i s.make d s.device (s.job i) o.in_context.shows sync.held.mine in
    get_comes (place_of_info t.infos) (make_for s i) (device_for s i).options (listed_devices s) (target_of (t.jobs i)) (s.job i).client.known (manner d 0) q n kind size reply said text
    (λ w2 on sent value get. get_back (make_for s i) (device_for s i).options (target_of (t.jobs i)) (s.job i).client.known (manner d 0).descriptors notes n kind size left is own_is (allowed_here t i s d o.in_context) known w.0.1.1 apt w2 on sent value get) o.is o.for_it o.shape o.spelled o.says
comes_by t i s d q r rest said reply text (stages.Starting first) notes past offer w apt known waits =
    let o = offered_at t i s d q r _ rest said reply text model.Starting w.0 refl offer in
    start_comes (place_of_info t.infos) (make_for s i) (device_for s i).options (listed_devices s) (target_of (t.jobs i)) (s.job i).client.known (manner d 0) q first reply said text o.is o.for_it o.shape o.spelled o.says
comes_by t i s d q r rest said reply text (stages.Shaping port order) notes past offer w apt known waits =
    let o = offered_at t i s d q r _ rest said reply text model.Shaping w.0 refl offer in
    shaping_comes (place_of_info t.infos) (make_for s i) (device_for s i).options (listed_devices s) (target_of (t.jobs i)) (s.job i).client.known (manner d 0) q port order reply said text o.is o.for_it o.shape o.spelled o.says
comes_by t i s d q r rest said reply text (stages.Imaging port made) notes past offer w apt known waits =
    absurd (let clash : [] ≡ r ∷ [] = sym (ap request_awaited (asked_for i s r rest offer.asking (model.Imaging w.params w.payload) w.stage)) ∙ offer.asking.only in cc)
comes_by t i s d q r rest said reply text stages.Turning notes past offer w apt known waits = absurd (waits.unturned refl)
comes_by t i s d q r rest said reply text stages.Over notes past offer w apt known waits = absurd w

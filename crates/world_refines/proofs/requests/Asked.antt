-- A request of a job's client, as a call by the model.
use Rattle.std.specs.Prelude.{option_map, position, ◌/◌}
use Rattle.std.proofs.Common.{◌≡◌, ◌≢◌, ◌⊎◌, inl, inr, ◌∙◌, ℕ, zero, suc, List, [], ◌∷◌, Option, Some, None, Bool, false, eqb, refl, sym, ap, subst, map, length, slice_get}
use Rattle.std.proofs.lemmas.List.{length-map}
use Rattle.sane_fixed.specs.declared.kind.Kind.{Kind}
use Rattle.option_desc.specs.declared.descriptor.Descriptor.{Descriptor}
use Rattle.option_desc.specs.declared.value.Value.{Value}
use Rattle.md5_auth.specs.declared.users.Entry.{Entry}
use Rattle.device_api.specs.Options.{descriptors_of as table_options}
use Rattle.device_api.specs.State.{DeviceState}
use Rattle.sane_fixed.specs.declared.device_info.DeviceInfo.{DeviceInfo}
use Rattle.dispatch.specs.declared.table.place.Lease.{Lease}
use Rattle.dispatch.specs.declared.table.place.Place.{Place}
use Rattle.dispatch.specs.declared.table.place.Slot.{Slot}
use Rattle.dispatch.specs.declared.table.place.Slot.TheVariants.{In, Out, Gone}
use Rattle.dispatch.specs.Table.{Table, find_name}
use Rattle.wire_message.specs.declared.message.ControlAction.TheVariants as actions
use Rattle.wire_message.specs.declared.message.Request.{Request as Asked}
use Rattle.wire_message.specs.declared.message.Request.TheVariants as requests
use Rattle.wire_message.specs.declared.message.WireValue.{WireValue}
use Rattle.client_replies.specs.declared.progress.JobTarget.{JobTarget}
use Rattle.client_replies.specs.ProtocolStates.{target_of}
use Rattle.saned_requests.specs.declared.session.AwaitedAuthorization.{AwaitedAuthorization}
use Rattle.saned_requests.specs.Holding.{held_by}
use Rattle.saned_requests.specs.RequestAnswers.{RequestContext, MayOpen}
use Rattle.saned_requests.specs.OptionValues.{value_asked}
use Rattle.scan_job.specs.declared.job.Job.{Job}
use Rattle.system_model.specs.AbstractMessages.{Authorize, Cancel, Challenge, Close, Describe, Exit, Get, GetDevices, Init, Open, Parameters, AbstractRequest, Set, Start, same_text}
use Rattle.system_model.specs.Client as model
use Rattle.system_model.specs.Devices.{Make, OptionsInForce, descriptors_in_force, accept_value}
use Rattle.system_model.specs.AbstractDevices.{AbstractDevice, is_held_by}
use Rattle.system_model.specs.Daemon.{Environment}
use Rattle.system_model.specs.Actions.{environment_of}
use Rattle.system_model.specs.SystemStates.{JobState}
use Rattle.system_model.specs.AbstractSessions.{call_to, only_word}
use Rattle.client_refines.specs.RequestRefinement.{IsRequest, IsSet}
use Rattle.wire_message.specs.WireValues.{wire_of}
use Rattle.md5_auth.specs.ChallengeReading.{answer_of}
use Rattle.option_desc.specs.Reads.{read_value}
use Rattle.daemon_refines.specs.DeviceWords.{AsksFor, AsksNone, AsksOf}
use Rattle.daemon_refines.specs.ContextRefinement.{HoldsPlace, Names, NamesPlace, ContextRefines, PlaceRefines, SlotRefines, TableRefines}
use Rattle.daemon_refines.specs.ModelRequests.{IsAwaitedCall, IsCall, IsCallBy, IsFreeCall, device_word_of}
use Rattle.daemon_refines.specs.WholeSessions.{IsGuarded, IsJudged}
use Rattle.daemon_refines.proofs.Changes.{Held}
use Rattle.daemon_refines.proofs.Moved.{unsome}
use Rattle.daemon_refines.proofs.OtherSessions.{IsThere}
use Rattle.world_refines.specs.GhostStates.{place_or_length, name_at, place_named, abstract_job}
use Rattle.world_refines.specs.Speaks.{Awaits, SetsAsHeld, SpeaksAs}
use Rattle.world_refines.specs.WorldRefinement.{HaveDifferentNames, info_at, session_by}
use Rattle.world_refines.proofs.state.CoreCallsKeep.{word_wanted}
use Rattle.world_refines.proofs.state.Finding.{find_there, found_place, names_at}
use Rattle.world_refines.proofs.state.Infos.{is_name, name_here, place_is}
use Rattle.world_refines.proofs.state.Judged.{guards, judged}
use Rattle.world_refines.proofs.requests.SentValues.{asked_again}

-- ---- the place of a name

pub past_end : {X : Type 0} (xs : List X) → slice_get xs (length xs) ≡ None
past_end [] = refl
past_end (x ∷ xs) = past_end xs

named_at : (t : Table) (k : ℕ) (name : List ℕ) → name_at (map info_at t) k ≡ Some name → (p : Place DeviceState) × (slice_get t k ≡ Some p) × (p.info.name ≡ name)
named_at [] k name e = absurd (let clash : None ≡ Some name = e in cc)
named_at (p ∷ t) zero name e = (p, refl, unsome p.info.name name e)
named_at (p ∷ t) (suc k) name e = named_at t k name e

gone_or : (slot : Slot DeviceState) → (slot ≡ Gone) ⊎ IsThere slot
gone_or (In s) = inr tt
gone_or Out = inr tt
gone_or Gone = inl refl

unlisted_slot : (i : ℕ) (make : Make) (held : Held) (k : ℕ) (dev : AbstractDevice) (name : List ℕ) (slot : Slot DeviceState) → slot ≡ Gone → SlotRefines i make held k dev name slot → dev.listed ≡ false
unlisted_slot i make held k dev name slot e h = (subst (SlotRefines i make held k dev name) e h).0

unlisted_at : (i : ℕ) (make : Make) (held : Held) (k : ℕ) (dev : AbstractDevice) (o : Option (Place DeviceState)) (p : Place DeviceState) → o ≡ Some p → p.slot ≡ Gone → PlaceRefines i make held k dev o → dev.listed ≡ false
unlisted_at i make held k dev o p e gone h = unlisted_slot i make held k dev p.info.name p.slot gone (subst (PlaceRefines i make held k dev) e h)

-- a name that is not found is of a place that is not listed
nobody_found : (i : ℕ) (make : ℕ → Make) (held : Held) (registry : Table) (device : ℕ → AbstractDevice) (name : List ℕ) (o : Option ℕ) → HaveDifferentNames (map info_at registry) → TableRefines i make held registry device → find_name name registry ≡ None → position (is_name name) (map info_at registry) ≡ o →
    (device (place_or_length (length (map info_at registry)) o)).listed ≡ false
nobody_found i make held registry device name None apart h none e =
    let far : slice_get registry (length (map info_at registry)) ≡ None = ap (slice_get registry) (length-map registry info_at) ∙ past_end registry in
    (subst (PlaceRefines i (make (length (map info_at registry))) held (length (map info_at registry)) (device (length (map info_at registry)))) far (h.places (length (map info_at registry)))).0
nobody_found i make held registry device name (Some j) apart h none e =
    let p = named_at registry j name (name_here (map info_at registry) name j e) in
    by_slot p.0 p.1 p.2 (gone_or p.0.slot)
  where
    by_slot : (p : Place DeviceState) → slice_get registry j ≡ Some p → p.info.name ≡ name → (p.slot ≡ Gone) ⊎ IsThere p.slot → (device j).listed ≡ false
    by_slot p at named (inl gone) = unlisted_at i (make j) held j (device j) (slice_get registry j) p at gone (h.places j)
    by_slot p at named (inr there) = absurd (let clash : None ≡ Some j = sym none ∙ find_there registry name j p apart at named there in cc)

names_by : (i : ℕ) (make : ℕ → Make) (held : Held) (registry : Table) (device : ℕ → AbstractDevice) (name : List ℕ) (o : Option ℕ) → HaveDifferentNames (map info_at registry) → TableRefines i make held registry device → find_name name registry ≡ o → NamesPlace o device (place_named (map info_at registry) name)
names_by i make held registry device name None apart h e = nobody_found i make held registry device name (position (is_name name) (map info_at registry)) apart h e refl
names_by i make held registry device name (Some k) apart h e =
    let f = found_place registry name k e in
    sym (place_is (map info_at registry) name k apart (names_at registry k f.place f.at ∙ ap (λ (x : List ℕ). Some x) f.name_is))

pub names_place : (i : ℕ) (make : ℕ → Make) (held : Held) (registry : Table) (device : ℕ → AbstractDevice) (infos : List DeviceInfo) (name : List ℕ) → infos ≡ map info_at registry → HaveDifferentNames infos → TableRefines i make held registry device → Names name registry device (place_named infos name)
names_place i make held registry device infos name same apart h =
    subst (λ (all : List DeviceInfo). Names name registry device (place_named all name)) (sym same) (names_by i make held registry device name (find_name name registry) (subst HaveDifferentNames same apart) h refl)

-- ---- what the session holds

-- a place of what it holds is the job's
pub holds_wanted : (i : ℕ) (make : ℕ → Make) (d : RequestContext) (device : ℕ → AbstractDevice) (p : JobState) (k : ℕ) → ContextRefines i make d device (session_by i device p) → HoldsPlace d.session.held k → k ≡ p.session.job.wants
holds_wanted i make d device p k h holds =
    let at : only_word (is_held_by i (device p.session.job.wants).holder) p.session.job.wants holds.word ≡ Some k =
    h.words holds.word ∙ (ap (option_map (λ (l : Lease DeviceState). l.place)) holds.stands ∙ ap (λ (x : ℕ). Some x) holds.place) in
    word_wanted (is_held_by i (device p.session.job.wants).holder) p.session.job.wants holds.word k (eqb holds.word 0) refl at

other_holder : (i j : ℕ) (h : Option ℕ) → h ≡ Some j → j ≢ i → h ≢ Some i
other_holder i j h e n = λ is. n (unsome j i (sym e ∙ is))

no_holder : (i : ℕ) (h : Option ℕ) → h ≡ None → h ≢ Some i
no_holder i h e = λ is. let clash : None ≡ Some i = sym e ∙ is in absurd (cc)

slot_free : (i : ℕ) (make : Make) (held : Held) (k : ℕ) (dev : AbstractDevice) (name : List ℕ) (slot : Slot DeviceState) → (HoldsPlace held k → ⊥) → SlotRefines i make held k dev name slot → dev.holder ≢ Some i
slot_free i make held k dev name Gone n h = no_holder i dev.holder h.1
slot_free i make held k dev name (In s) n h = no_holder i dev.holder (ap (λ (x : AbstractDevice). x.holder) h.0)
slot_free i make held k dev name Out n (listed, inl holds) = absurd (n holds)
slot_free i make held k dev name Out n (listed, inr away) = other_holder i away.other dev.holder away.holder away.no_own

place_free : (i : ℕ) (make : Make) (held : Held) (k : ℕ) (dev : AbstractDevice) (at : Option (Place DeviceState)) → (HoldsPlace held k → ⊥) → PlaceRefines i make held k dev at → dev.holder ≢ Some i
place_free i make held k dev None n h = no_holder i dev.holder h.1
place_free i make held k dev (Some p) n h = slot_free i make held k dev p.info.name p.slot n h

-- it holds no device but the one that the job names
pub free_elsewhere : (i : ℕ) (make : ℕ → Make) (d : RequestContext) (device : ℕ → AbstractDevice) (p : JobState) → ContextRefines i make d device (session_by i device p) → (e : ℕ) → e ≢ p.session.job.wants → (device e).holder ≢ Some i
free_elsewhere i make d device p h e n = place_free i (make e) d.session.held e (device e) (slice_get d.registry e) (λ holds. n (holds_wanted i make d device p e h holds)) (h.devices.places e)

-- what word 0 stands for is the device that the job names
pub record IsWord (i : ℕ) (device : ℕ → AbstractDevice) (p : JobState) (l : Lease DeviceState) : Type 0 where
  pub place : l.place ≡ p.session.job.wants
  pub holder : (device p.session.job.wants).holder ≡ Some i
  pub options : (device p.session.job.wants).options ≡ l.device.setup

pub is_word : (i : ℕ) (make : ℕ → Make) (d : RequestContext) (device : ℕ → AbstractDevice) (p : JobState) (l : Lease DeviceState) → ContextRefines i make d device (session_by i device p) → held_by d.session.held 0 ≡ Some l → IsWord i device p l
is_word i make d device p l h e =
    let place = holds_wanted i make d device p l.place h (record { word = 0; lease = l; stands = e; place = refl }) in
    let shown = h.devices.leases 0 l e in
    record {
      place = place;
      holder = ap (λ (k : ℕ). (device k).holder) (sym place) ∙ ap (λ (x : AbstractDevice). x.holder) shown.device;
      options = ap (λ (k : ℕ). (device k).options) (sym place) ∙ ap (λ (x : AbstractDevice). x.options) shown.device;
    }

-- ---- a SET

-- its value is asked for, or the daemon and the model refuses it
abbrev pub SetComes : ℕ → (ℕ → AbstractDevice) → JobState → RequestContext → Make → ℕ → Kind → WireValue → Value → Type 0
SetComes i device p d k n kind value asked = AsksFor (held_by d.session.held 0) n kind value asked ⊎ (AsksNone (held_by d.session.held 0) n kind value × ((device p.session.job.wants).holder ≡ Some i) × (accept_value k (device p.session.job.wants).options n asked ≡ None))

known_there : (k : Make) (known : List Descriptor) (dev : AbstractDevice) (l : Lease DeviceState) → known ≡ descriptors_in_force k dev.options → dev.options ≡ l.device.setup → known ≡ table_options l.device.setup
unfolding descriptors_in_force
known_there k known dev l e options = e ∙ ap table_options options

set_at : (i : ℕ) (make : ℕ → Make) (d : RequestContext) (device : ℕ → AbstractDevice) (p : JobState) (k : Make) (known : List Descriptor) (n : ℕ) (kind : Kind) (value : WireValue) (asked : Value) (desc : Descriptor) (text : List ℕ) (h : Option (Lease DeviceState)) → held_by d.session.held 0 ≡ h → ContextRefines i make d device (session_by i device p) →
    known ≡ descriptors_in_force k (device p.session.job.wants).options → slice_get known n ≡ Some desc → kind ≡ desc.kind → read_value desc text ≡ Some asked → value ≡ wire_of asked →
    AsksFor h n kind value asked ⊎ (AsksNone h n kind value × ((device p.session.job.wants).holder ≡ Some i) × (accept_value k (device p.session.job.wants).options n asked ≡ None))
set_at i make d device p k known n kind value asked desc text None e h as_held stands kind_is reads value_is = inl tt
set_at i make d device p k known n kind value asked desc text (Some l) e h as_held stands kind_is reads value_is =
    let word = is_word i make d device p l h e in
    let dev = device p.session.job.wants in
    let at : slice_get (table_options l.device.setup) n ≡ Some desc = ap (λ (all : List Descriptor). slice_get all n) (sym (known_there k known dev l as_held word.options)) ∙ stands in
    by_comes (asked_again k l.device.setup n desc text asked at reads).comes
  where
    by_comes : (value_asked desc desc.kind (wire_of asked) ≡ Some asked) ⊎ ((value_asked desc desc.kind (wire_of asked) ≡ None) × (accept_value k l.device.setup n asked ≡ None)) →
        AsksFor (Some l) n kind value asked ⊎ (AsksNone (Some l) n kind value × ((device p.session.job.wants).holder ≡ Some i) × (accept_value k (device p.session.job.wants).options n asked ≡ None))
    by_comes (inl comes) =
        let word = is_word i make d device p l h e in
        let at : slice_get (table_options l.device.setup) n ≡ Some desc = ap (λ (all : List Descriptor). slice_get all n) (sym (known_there k known (device p.session.job.wants) l as_held word.options)) ∙ stands in
        inl (subst (λ (o : Option Descriptor). AsksOf o kind value asked) (sym at)
        (subst (λ (x : Kind). value_asked desc x value ≡ Some asked) (sym kind_is) (subst (λ (x : WireValue). value_asked desc desc.kind x ≡ Some asked) (sym value_is) comes)))
    by_comes (inr none) =
        let word = is_word i make d device p l h e in
        let at : slice_get (table_options l.device.setup) n ≡ Some desc = ap (λ (all : List Descriptor). slice_get all n) (sym (known_there k known (device p.session.job.wants) l as_held word.options)) ∙ stands in
        inr (
          (desc, at, subst (λ (x : Kind). value_asked desc x value ≡ None) (sym kind_is) (subst (λ (x : WireValue). value_asked desc desc.kind x ≡ None) (sym value_is) none.0)),
          word.holder,
          ap (λ (o : OptionsInForce). accept_value k o n asked) word.options ∙ none.1,
        )

-- ---- the surroundings of a request, the same everywhere

abbrev pub all_around : JobState → List ℕ → ℕ → Environment
all_around p listed k = environment_of p.session listed [] None

-- what the job's session stands on
pub record IsSession (i : ℕ) (make : ℕ → Make) (users : List Entry) (infos : List DeviceInfo) (job : Job) (d : RequestContext) (device : ℕ → AbstractDevice) (p : JobState) : Type 0 where
  pub job_is : p.session.job ≡ abstract_job users infos job
  pub infos_are : infos ≡ map info_at d.registry
  pub apart : HaveDifferentNames infos
  pub shows : ContextRefines i make d device (session_by i device p)
  pub speaks : SpeaksAs job.device p d.session

wants_is : (users : List Entry) (infos : List DeviceInfo) (job : Job) (p : JobState) → p.session.job ≡ abstract_job users infos job → p.session.job.wants ≡ place_named infos job.device
wants_is users infos job p e = ap (λ (j : model.AbstractJob). j.wants) e

-- a SET whose value is not of its option's type: the daemon and the model refuses it
pub record IsOdd (i : ℕ) (make : ℕ → Make) (d : RequestContext) (device : ℕ → AbstractDevice) (p : JobState) (q : Asked) (r : AbstractRequest) : Type 0 where
  pub option : ℕ
  pub kind : Kind
  pub value : WireValue
  pub asked : Value
  pub asked_is : r ≡ Set option asked
  pub is : q ≡ requests.ControlOption 0 option actions.SetValue kind value
  pub none : AsksNone (held_by d.session.held 0) option kind value
  pub holder : (device p.session.job.wants).holder ≡ Some i
  pub refused : accept_value (make p.session.job.wants) (device p.session.job.wants).options option asked ≡ None

abbrev pub IsFree : ℕ → (ℕ → Make) → List Entry → RequestContext → (ℕ → AbstractDevice) → JobState → List ℕ → Asked → AbstractRequest → Type 0
IsFree i make users d device p listed q r = IsFreeCall users d device q (call_to p.session.job.wants r) (all_around p listed) ⊎ IsOdd i make d device p q r

pub open_names : (i : ℕ) (make : ℕ → Make) (users : List Entry) (infos : List DeviceInfo) (job : Job) (d : RequestContext) (device : ℕ → AbstractDevice) (p : JobState) (name : List ℕ) → IsSession i make users infos job d device p → name ≡ job.device → Names name d.registry device p.session.job.wants
open_names i make users infos job d device p name h is =
    subst (λ (n : List ℕ). Names n d.registry device p.session.job.wants) (sym is)
    (subst (λ (k : ℕ). Names job.device d.registry device k) (sym (wants_is users infos job p h.job_is)) (names_place i make d.session.held d.registry device infos job.device h.infos_are h.apart h.shows.devices))

pub open_guarded : (i : ℕ) (make : ℕ → Make) (users : List Entry) (infos : List DeviceInfo) (job : Job) (d : RequestContext) (device : ℕ → AbstractDevice) (p : JobState) (name : List ℕ) → IsSession i make users infos job d device p → name ≡ job.device → IsGuarded users name p.session.job.guarded
open_guarded i make users infos job d device p name h is =
    subst (λ (n : List ℕ). IsGuarded users n p.session.job.guarded) (sym is) (subst (λ (b : Bool). IsGuarded users job.device b) (sym (ap (λ (j : model.AbstractJob). j.guarded) h.job_is)) (guards users job.device))

set_free : (i : ℕ) (make : ℕ → Make) (users : List Entry) (infos : List DeviceInfo) (job : Job) (d : RequestContext) (device : ℕ → AbstractDevice) (p : JobState) (listed : List ℕ) (known : List Descriptor) (n : ℕ) (kind : Kind) (value : WireValue) (asked : Value) → IsSession i make users infos job d device p → known ≡ descriptors_in_force (make p.session.job.wants) (device p.session.job.wants).options →
    IsSet 0 known n asked 0 n kind value → IsFree i make users d device p listed (requests.ControlOption 0 n actions.SetValue kind value) (Set n asked)
set_free i make users infos job d device p listed known n kind value asked h as_held is =
    by_set (set_at i make d device p (make p.session.job.wants) known n kind value asked is.desc is.text (held_by d.session.held 0) refl h.shows as_held is.stands is.kind_is is.reads is.value_is)
  where
    by_set : SetComes i device p d (make p.session.job.wants) n kind value asked → IsFree i make users d device p listed (requests.ControlOption 0 n actions.SetValue kind value) (Set n asked)
    by_set (inl asks) = inl (asked, asks, (refl, refl))
    by_set (inr odd) = inr (record { option = n; kind = kind; value = value; asked = asked; asked_is = refl; is = refl; none = odd.0; holder = odd.1; refused = odd.2 })

set_there : (i : ℕ) (make : ℕ → Make) (users : List Entry) (infos : List DeviceInfo) (job : Job) (d : RequestContext) (device : ℕ → AbstractDevice) (p : JobState) (listed : List ℕ) (known : List Descriptor) (w o n : ℕ) (kind : Kind) (value : WireValue) (asked : Value) → IsSession i make users infos job d device p → known ≡ descriptors_in_force (make p.session.job.wants) (device p.session.job.wants).options →
    IsSet 0 known n asked w o kind value → IsFree i make users d device p listed (requests.ControlOption w o actions.SetValue kind value) (Set n asked)
set_there i make users infos job d device p listed known w o n kind value asked h as_held is =
    subst (λ (x : ℕ). IsFree i make users d device p listed (requests.ControlOption x o actions.SetValue kind value) (Set n asked)) (sym is.device_is)
    (subst (λ (x : ℕ). IsFree i make users d device p listed (requests.ControlOption 0 x actions.SetValue kind value) (Set n asked)) (sym is.number)
    (set_free i make users infos job d device p listed known n kind value asked h as_held (record { device_is = refl; number = refl; desc = is.desc; stands = is.stands; kind_is = is.kind_is; text = is.text; reads = is.reads; value_is = is.value_is })))

-- of a session that awaits nothing
is_free : (i : ℕ) (make : ℕ → Make) (users : List Entry) (infos : List DeviceInfo) (job : Job) (d : RequestContext) (device : ℕ → AbstractDevice) (p : JobState) (listed : List ℕ) (known : List Descriptor) (q : Asked) (r : AbstractRequest) (rest : List AbstractRequest) → IsSession i make users infos job d device p →
    SetsAsHeld i (make p.session.job.wants) known (device p.session.job.wants) (r ∷ rest) → IsRequest (target_of job) 0 known q r → IsFree i make users d device p listed q r
is_free i make users infos job d device p listed known (requests.Init version user) Init rest h as_held is = inl (refl, subst (λ (v : ℕ). v / 16777216 ≡ 1) (sym is.0) refl)
is_free i make users infos job d device p listed known requests.GetDevices GetDevices rest h as_held is = inl refl
is_free i make users infos job d device p listed known (requests.Open name) Open rest h as_held is = inl (refl, open_names i make users infos job d device p name h is, λ free place_or_length. open_guarded i make users infos job d device p name h is)
is_free i make users infos job d device p listed known (requests.Authorize resource user answer) (Authorize challenge) rest h as_held is = inl (challenge, refl)
is_free i make users infos job d device p listed known (requests.GetOptionDescriptors w) Describe rest h as_held is = inl (refl, sym is)
is_free i make users infos job d device p listed known (requests.ControlOption w o actions.GetValue kind value) (Get n) rest h as_held is = inl (ap (λ (k : ℕ). Get k) (sym is.number), sym is.device_is)
is_free i make users infos job d device p listed known (requests.ControlOption w o actions.SetValue kind value) (Set n asked) rest h as_held is = set_there i make users infos job d device p listed known w o n kind value asked h as_held.1 is
is_free i make users infos job d device p listed known (requests.GetParameters w) Parameters rest h as_held is = inl (refl, sym is)
is_free i make users infos job d device p listed known (requests.Start w) Start rest h as_held is = inl (refl, sym is)
is_free i make users infos job d device p listed known (requests.Cancel w) Cancel rest h as_held is = inl (refl, sym is)
is_free i make users infos job d device p listed known (requests.Close w) Close rest h as_held is = inl (refl, sym is)
is_free i make users infos job d device p listed known requests.Exit Exit rest h as_held is = inl refl
is_free i make users infos job d device p listed known q r rest h as_held is = absurd is

-- of one that awaits AUTHORIZE
authorizes : (i : ℕ) (make : ℕ → Make) (users : List Entry) (infos : List DeviceInfo) (job : Job) (d : RequestContext) (device : ℕ → AbstractDevice) (p : JobState) (listed : List ℕ) (awaited : AwaitedAuthorization) (resource user answer : List ℕ) (challenge : Challenge) → IsSession i make users infos job d device p → awaited.name ≡ job.device →
    (resource ≡ challenge) × (user ≡ job.user) × (answer_of resource job.password ≡ Some answer) → IsJudged (MayOpen users awaited resource user answer) (same_text challenge awaited.resource) (p.session.job.allows awaited.resource)
authorizes i make users infos job d device p listed awaited resource user answer challenge h named is =
    subst (λ (u : List ℕ). IsJudged (MayOpen users awaited resource u answer) (same_text challenge awaited.resource) (p.session.job.allows awaited.resource)) (sym is.1)
    (subst (λ (c : List ℕ). IsJudged (MayOpen users awaited resource job.user answer) (same_text c awaited.resource) (p.session.job.allows awaited.resource)) is.0
    (subst (λ (b : Bool). IsJudged (MayOpen users awaited resource job.user answer) (same_text resource awaited.resource) b) (sym (ap (λ (j : model.AbstractJob). j.allows awaited.resource) h.job_is))
    (judged users awaited job.device job.user job.password resource answer named is.2)))

is_awaited : (i : ℕ) (make : ℕ → Make) (users : List Entry) (infos : List DeviceInfo) (job : Job) (d : RequestContext) (device : ℕ → AbstractDevice) (p : JobState) (listed : List ℕ) (known : List Descriptor) (awaited : AwaitedAuthorization) (q : Asked) (r : AbstractRequest) → IsSession i make users infos job d device p → awaited.name ≡ job.device →
    IsRequest (target_of job) 0 known q r → IsAwaitedCall users awaited awaited.resource p.session.job.wants q (call_to p.session.job.wants r) (all_around p listed)
is_awaited i make users infos job d device p listed known awaited (requests.Authorize resource user answer) (Authorize challenge) h named is = (challenge, refl, authorizes i make users infos job d device p listed awaited resource user answer challenge h named is)
is_awaited i make users infos job d device p listed known awaited (requests.Init version user) Init h named is = tt
is_awaited i make users infos job d device p listed known awaited requests.GetDevices GetDevices h named is = tt
is_awaited i make users infos job d device p listed known awaited (requests.Open name) Open h named is = tt
is_awaited i make users infos job d device p listed known awaited (requests.GetOptionDescriptors w) Describe h named is = tt
is_awaited i make users infos job d device p listed known awaited (requests.ControlOption w o actions.GetValue kind value) (Get n) h named is = tt
is_awaited i make users infos job d device p listed known awaited (requests.ControlOption w o actions.SetValue kind value) (Set n asked) h named is = tt
is_awaited i make users infos job d device p listed known awaited (requests.GetParameters w) Parameters h named is = tt
is_awaited i make users infos job d device p listed known awaited (requests.Start w) Start h named is = tt
is_awaited i make users infos job d device p listed known awaited (requests.Cancel w) Cancel h named is = tt
is_awaited i make users infos job d device p listed known awaited (requests.Close w) Close h named is = tt
is_awaited i make users infos job d device p listed known awaited requests.Exit Exit h named is = tt
is_awaited i make users infos job d device p listed known awaited q r h named is = absurd is

-- whatever it awaits
call_by : (i : ℕ) (make : ℕ → Make) (users : List Entry) (infos : List DeviceInfo) (job : Job) (d : RequestContext) (device : ℕ → AbstractDevice) (p : JobState) (listed : List ℕ) (known : List Descriptor) (q : Asked) (r : AbstractRequest) (rest : List AbstractRequest) (a : Option AwaitedAuthorization) (sent : Option Challenge) → IsSession i make users infos job d device p →
    SetsAsHeld i (make p.session.job.wants) known (device p.session.job.wants) (r ∷ rest) → IsRequest (target_of job) 0 known q r → Awaits job.device a sent →
    IsCallBy users d device a (option_map (λ (c : Challenge). (c, p.session.job.wants)) sent) q (call_to p.session.job.wants r) (all_around p listed) ⊎ ((a ≡ None) × (sent ≡ None) × IsOdd i make d device p q r)
call_by i make users infos job d device p listed known q r rest None sent h as_held is none = by_free (is_free i make users infos job d device p listed known q r rest h as_held is)
  where
    by_free : IsFree i make users d device p listed q r → IsCallBy users d device None (option_map (λ (c : Challenge). (c, p.session.job.wants)) sent) q (call_to p.session.job.wants r) (all_around p listed) ⊎ ((◌≡◌ {A = Option AwaitedAuthorization} None None) × (sent ≡ None) × IsOdd i make d device p q r)
    by_free (inl call) = inl call
    by_free (inr odd) = inr (refl, none, odd)
call_by i make users infos job d device p listed known q r rest (Some awaited) sent h as_held is awaits =
    inl (subst (λ (x : Option Challenge). IsCallBy users d device (Some awaited) (option_map (λ (c : Challenge). (c, p.session.job.wants)) x) q (call_to p.session.job.wants r) (all_around p listed)) (sym awaits.1)
    (is_awaited i make users infos job d device p listed known awaited q r h awaits.0 is))

-- the request is a call, or a SET that both refuse
abbrev pub Calls : ℕ → (ℕ → Make) → List Entry → RequestContext → (ℕ → AbstractDevice) → JobState → List ℕ → Asked → AbstractRequest → Type 0
Calls i make users d device p listed q r = IsCall users d device (session_by i device p) q (call_to p.session.job.wants r) (all_around p listed) ⊎ ((d.session.awaited ≡ None) × (p.session.awaited ≡ None) × IsOdd i make d device p q r)

pub is_call : (i : ℕ) (make : ℕ → Make) (users : List Entry) (infos : List DeviceInfo) (job : Job) (d : RequestContext) (device : ℕ → AbstractDevice) (p : JobState) (listed : List ℕ) (known : List Descriptor) (q : Asked) (r : AbstractRequest) (rest : List AbstractRequest) → IsSession i make users infos job d device p →
    SetsAsHeld i (make p.session.job.wants) known (device p.session.job.wants) (r ∷ rest) → IsRequest (target_of job) 0 known q r → Calls i make users d device p listed q r
is_call i make users infos job d device p listed known q r rest h as_held is = call_by i make users infos job d device p listed known q r rest d.session.awaited p.session.awaited h as_held is h.speaks.awaits

-- its word is 0
pub word_is : (target : JobTarget) (known : List Descriptor) (q : Asked) (r : AbstractRequest) → IsRequest target 0 known q r → device_word_of q ≡ 0
word_is target known (requests.Close w) Close is = is
word_is target known (requests.GetOptionDescriptors w) Describe is = is
word_is target known (requests.ControlOption w o actions.GetValue kind value) (Get n) is = is.device_is
word_is target known (requests.ControlOption w o actions.SetValue kind value) (Set n asked) is = is.device_is
word_is target known (requests.GetParameters w) Parameters is = is
word_is target known (requests.Start w) Start is = is
word_is target known (requests.Cancel w) Cancel is = is
word_is target known (requests.Init version user) Init is = refl
word_is target known requests.GetDevices GetDevices is = refl
word_is target known (requests.Open name) Open is = refl
word_is target known (requests.Authorize resource user answer) (Authorize challenge) is = refl
word_is target known requests.Exit Exit is = refl
word_is target known q r is = absurd is

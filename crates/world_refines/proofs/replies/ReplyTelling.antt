-- What is told to a client that waits for it, as a reply of the wire.
use Rattle.std.proofs.Common.{◌≡◌, ◌≢◌, ◌⊎◌, inl, inr, ◌∙◌, ℕ, List, [], ◌∷◌, ◌++◌, Option, Some, None, Bool, true, refl, sym, ap, subst, map, slice_get, append-nil}
use Rattle.sane_fixed.specs.declared.status.Status.TheVariants.{Good}
use Rattle.sane_fixed.specs.declared.byte_order.ByteOrder.{ByteOrder}
use Rattle.sane_fixed.specs.declared.kind.Kind.{Kind}
use Rattle.sane_fixed.specs.declared.status.Status.{Status}
use Rattle.sane_fixed.specs.declared.status.Status.TheVariants as code
use Rattle.option_desc.specs.declared.descriptor.Descriptor.{Descriptor}
use Rattle.option_desc.specs.declared.value.Value.{Value}
use Rattle.sane_fixed.specs.declared.device_info.DeviceInfo.{DeviceInfo}
use Rattle.md5_auth.specs.ChallengeReading.{challenge_of}
use Rattle.wire_format.specs.Limit.{limited_format}
use Rattle.wire_message.specs.declared.message.ControlAction.TheVariants as actions
use Rattle.wire_message.specs.declared.message.Procedure.{Procedure}
use Rattle.wire_message.specs.declared.message.Procedure.TheVariants as procedures
use Rattle.wire_message.specs.declared.message.Reply.{Reply as Wire}
use Rattle.wire_message.specs.declared.message.Reply.TheVariants as replies
use Rattle.wire_message.specs.declared.message.Request.{Request as Asked}
use Rattle.wire_message.specs.declared.message.Request.TheVariants as requests
use Rattle.wire_message.specs.declared.message.WireValue.{WireValue}
use Rattle.wire_writing.specs.ReplyWriting.{replied_procedure}
use Rattle.wire_writing.proofs.Replies.{reply-writes}
use Rattle.client_replies.specs.declared.progress.JobTarget.{JobTarget}
use Rattle.client_replies.specs.declared.progress.Progress.{Progress}
use Rattle.client_replies.specs.declared.progress.Progress.TheVariants as stages
use Rattle.client_replies.specs.ReplyTurns.{of_kind}
use Rattle.client_replies.specs.GivenValues.{given_like, wire_value_in}
use Rattle.net_client.specs.ReplyPieces.{awaited_procedure}
use Rattle.saned_requests.specs.declared.request_answer.RequestAnswer.{RequestAnswer}
use Rattle.saned_requests.specs.declared.request_answer.RequestAnswer.TheVariants.{One, Two}
use Rattle.saned_requests.specs.RequestAnswers.{kind_of, no_info, no_params, own_version, refused_control, start_reply}
use Rattle.saned_requests.specs.OptionValues.{sent_as, size_of}
use Rattle.wire_message.specs.WireValues.{wire_of}
use Rattle.saned_core.specs.Feeding as daemon
use Rattle.system_model.specs.AbstractMessages.{Authorize, Begun, Challenge, Challenged, Describe, Described, Gave, Get, GetDevices, Got, Greeted, Init, Listed, Open, Opened, Parameters, Refused, AbstractReply, Set, Shaped, Start}
use Rattle.system_model.specs.Devices.{Make, OptionsInForce, AbstractAcceptedSet, accept_value, has_readable_value, readable_value}
use Rattle.client_refines.specs.DecodedReplies.{Says, gave_or_acked, reply_if_good, got_or_acked, opened_reply, decoded_reply_at}
use Rattle.client_refines.specs.DecodedReplies as senses
use Rattle.client_refines.specs.RequestRefinement.{IsRequest}
use Rattle.daemon_refines.specs.Spelling.{Manner, SpellsSaid, refused_to}
use Rattle.daemon_refines.specs.Spelling as wire
use Rattle.world_refines.specs.Wires.{HasFirstWord, SpellsReply, SpellsReplyBehind}
use Rattle.world_refines.proofs.replies.ReplyFronts.{Spells}
use Rattle.world_refines.proofs.requests.Kinded.{IsFor}
use Rattle.world_refines.proofs.requests.OneReply.{HasShape}
use Rattle.world_refines.proofs.requests.PlainAnswers.{IsPlain}
use Rattle.world_refines.proofs.requests.Replied.{IsSaid}
use Rattle.world_refines.proofs.requests.SentValues.{given_alike, told_alike}

-- ---- a reply that is said is one to what is waited for

says_spelled : (v : Wire) (text : List ℕ) → daemon.Says v text → Spells (replied_procedure v) text v
unfolding limited_format
says_spelled v text s = (s.1, (reply-writes v).spelled text s.0)

told_as : (place : DeviceInfo → ℕ) (progress : Progress) (procedure : Procedure) (r : AbstractReply) (w v : Wire) (text : List ℕ) → awaited_procedure progress ≡ Some procedure → replied_procedure v ≡ procedure → w ≡ v → daemon.Says w text → decoded_reply_at place progress v ≡ Says r → HasFirstWord v → SpellsReply place progress r text
told_as place progress procedure r w v text waits is same says decoded first =
    record {
      answer = v;
      is = record { procedure = procedure; awaited_is = waits; spelled = subst (λ (p : Procedure). Spells p text v) is (says_spelled v text (subst (λ (x : Wire). daemon.Says x text) same says)) };
      says = decoded;
      word = first;
    }

good_refused : (name : Status) (r : AbstractReply) → name ≢ Good → reply_if_good name r ≡ Says (Refused name)
good_refused code.Good r n = absurd (n refl)
good_refused name r n = refl

-- an AUTHORIZE is asked for
record IsDemand (r : AbstractReply) (w : Wire) : Type 0 where
  resource : List ℕ
  is : r ≡ Challenged resource
  wire_is : w ≡ replies.Open code.Good 0 resource
  challenge : List ℕ
  marked : challenge_of resource ≡ Some challenge

abbrev IsTold : Manner → Asked → AbstractReply → Wire → Type 0
IsTold m q r w = (wire.Spells m q r w × IsPlain (r ∷ [])) ⊎ IsDemand r w

-- the reply to a request
record Offer (m : Manner) (q : Asked) (r : AbstractReply) (text : List ℕ) : Type 0 where
  wire_reply : Wire
  told : IsTold m q r wire_reply
  says : daemon.Says wire_reply text

head_is : (r a : AbstractReply) → r ∷ [] ≡ a ∷ [] → a ≡ r
head_is r a e = cc

spelled_one : (m : Manner) (q : Asked) (r : AbstractReply) (said : RequestAnswer) (w : Wire) → said ≡ One w → SpellsSaid m q (r ∷ []) said → wire.Spells m q r w
spelled_one m q r said w e s =
    let one : SpellsSaid m q (r ∷ []) (One w) = subst (λ (x : RequestAnswer). SpellsSaid m q (r ∷ []) x) e s in
    subst (λ (a : AbstractReply). wire.Spells m q a w) (head_is r one.0 one.1) one.2

told_one : (m : Manner) (q : Asked) (r : AbstractReply) (said : RequestAnswer) (w : Wire) → said ≡ One w → IsSaid m q (r ∷ []) said → IsTold m q r w
told_one m q r said w e (inl s) = inl (spelled_one m q r said w e s.0, s.1)
told_one m q r said w e (inr d) =
    let both : One w ≡ One (replies.Open code.Good 0 d.resource) = sym e ∙ d.said_is in
    let same : w ≡ replies.Open code.Good 0 d.resource = cc in
    inr (record { resource = d.resource; is = sym (head_is r (Challenged d.resource) d.told_is); wire_is = same; challenge = d.challenge; marked = d.marked })

offers : (m : Manner) (q : Asked) (r : AbstractReply) (said : RequestAnswer) (w : Wire) (text : List ℕ) → said ≡ One w → IsSaid m q (r ∷ []) said → daemon.SaysAll (daemon.replies_to said) text → Offer m q r text
offers m q r said w text e is says =
    let s : daemon.SaysAll (w ∷ []) text = subst (λ (x : RequestAnswer). daemon.SaysAll (daemon.replies_to x) text) e says in
    let whole : s.0 ≡ text = sym (s.2 ∙ (ap (λ (l : List ℕ). s.0 ++ l) s.4 ∙ append-nil s.0)) in
    record { wire_reply = w; told = told_one m q r said w e is; says = subst (daemon.Says w) whole s.3 }

-- one that asks for no AUTHORIZE
plain_told : (m : Manner) (q : Asked) (r : AbstractReply) (w : Wire) → ((c : Challenge) → r ≡ Challenged c → ⊥) → IsTold m q r w → wire.Spells m q r w × IsPlain (r ∷ [])
plain_told m q r w n (inl s) = s
plain_told m q r w n (inr d) = absurd (n d.resource d.is)

-- a refusal
refused_by : (place : DeviceInfo → ℕ) (progress : Progress) (procedure : Procedure) (m : Manner) (q : Asked) (status : Status) (w : Wire) (text : List ℕ) (v : Status → Wire) (answer : Status → AbstractReply) → awaited_procedure progress ≡ Some procedure → ((name : Status) → replied_procedure (v name) ≡ procedure) → ((name : Status) → refused_to q m.order name ≡ v name) →
    ((name : Status) → decoded_reply_at place progress (v name) ≡ reply_if_good name (answer name)) → ((name : Status) → HasFirstWord (v name)) → wire.Spells m q (Refused status) w × (status ≢ Good) → daemon.Says w text → SpellsReply place progress (Refused status) text
refused_by place progress procedure m q status w text v answer waits is same decoded first s says =
    let name = s.0.0 in
    let status_is : status ≡ name = s.0.1 in
    told_as place progress procedure (Refused status) w (v name) text waits (is name) (s.0.2 ∙ same name) says
    (decoded name ∙ (good_refused name (answer name) (λ e. s.1 (status_is ∙ e)) ∙ ap (λ (x : Status). Says (Refused x)) (sym status_is))) (first name)

refused_as : (place : DeviceInfo → ℕ) (progress : Progress) (procedure : Procedure) (m : Manner) (q : Asked) (status : Status) (text : List ℕ) (v : Status → Wire) (answer : Status → AbstractReply) → awaited_procedure progress ≡ Some procedure → ((name : Status) → replied_procedure (v name) ≡ procedure) → ((name : Status) → refused_to q m.order name ≡ v name) →
    ((name : Status) → decoded_reply_at place progress (v name) ≡ reply_if_good name (answer name)) → ((name : Status) → HasFirstWord (v name)) → Offer m q (Refused status) text → SpellsReply place progress (Refused status) text
refused_as place progress procedure m q status text v answer waits is same decoded first o =
    refused_by place progress procedure m q status o.wire_reply text v answer waits is same decoded first
    (plain_told m q (Refused status) o.wire_reply (λ c e. let clash : Refused status ≡ Challenged c = e in absurd (cc)) o.told) o.says

-- ---- INIT and GET_DEVICES

greeting_told : (place : DeviceInfo → ℕ) (k : Make) (options : OptionsInForce) (ds : List ℕ) (m : Manner) (q : Asked) (r : AbstractReply) (text : List ℕ) → IsFor k options ds Init r → Offer m q r text → SpellsReply place stages.Greeting r text
greeting_told place k options ds m q Greeted text f o =
    let s = plain_told m q Greeted o.wire_reply (λ c e. let clash : Greeted ≡ Challenged c = e in absurd (cc)) o.told in
    told_as place stages.Greeting procedures.Init Greeted o.wire_reply (replies.Init code.Good own_version) text refl refl s.0 o.says refl tt
greeting_told place k options ds m q r text f o = absurd f

pub greeting_comes : (place : DeviceInfo → ℕ) (k : Make) (options : OptionsInForce) (ds : List ℕ) (target : JobTarget) (known : List Descriptor) (m : Manner) (q : Asked) (r : AbstractReply) (said : RequestAnswer) (text : List ℕ) → IsRequest target 0 known q Init → IsFor k options ds Init r → HasShape q said → IsSaid m q (r ∷ []) said → daemon.SaysAll (daemon.replies_to said) text → SpellsReply place stages.Greeting r text
greeting_comes place k options ds target known m (requests.Init version user) r said text is f shape s says = greeting_told place k options ds m (requests.Init version user) r text f (offers m (requests.Init version user) r said shape.0 text shape.1 s says)
greeting_comes place k options ds target known m (requests.ControlOption w n actions.GetValue kind value) r said text is f shape s says = absurd is
greeting_comes place k options ds target known m (requests.ControlOption w n actions.SetValue kind value) r said text is f shape s says = absurd is
greeting_comes place k options ds target known m q r said text is f shape s says = absurd is

listing_told : (place : DeviceInfo → ℕ) (k : Make) (options : OptionsInForce) (ds : List ℕ) (m : Manner) (q : Asked) (r : AbstractReply) (text : List ℕ) → map place m.infos ≡ ds → IsFor k options ds GetDevices r → Offer m q r text → SpellsReply place stages.Listing r text
listing_told place k options ds m q (Listed devices) text infos f o =
    let s = plain_told m q (Listed devices) o.wire_reply (λ c e. let clash : Listed devices ≡ Challenged c = e in absurd (cc)) o.told in
    told_as place stages.Listing procedures.GetDevices (Listed devices) o.wire_reply (replies.GetDevices code.Good m.infos) text refl refl s.0 o.says (ap (λ (l : List ℕ). Says (Listed l)) (infos ∙ sym f)) tt
listing_told place k options ds m q r text infos f o = absurd f

pub listing_comes : (place : DeviceInfo → ℕ) (k : Make) (options : OptionsInForce) (ds : List ℕ) (target : JobTarget) (known : List Descriptor) (m : Manner) (q : Asked) (r : AbstractReply) (said : RequestAnswer) (text : List ℕ) → map place m.infos ≡ ds → IsRequest target 0 known q GetDevices → IsFor k options ds GetDevices r → HasShape q said → IsSaid m q (r ∷ []) said → daemon.SaysAll (daemon.replies_to said) text →
    SpellsReply place stages.Listing r text
listing_comes place k options ds target known m requests.GetDevices r said text infos is f shape s says = listing_told place k options ds m requests.GetDevices r text infos f (offers m requests.GetDevices r said shape.0 text shape.1 s says)
listing_comes place k options ds target known m (requests.ControlOption w n actions.GetValue kind value) r said text infos is f shape s says = absurd is
listing_comes place k options ds target known m (requests.ControlOption w n actions.SetValue kind value) r said text infos is f shape s says = absurd is
listing_comes place k options ds target known m q r said text infos is f shape s says = absurd is

-- ---- OPEN

opens_marked : (resource challenge : List ℕ) → challenge_of resource ≡ Some challenge → opened_reply code.Good resource ≡ Says (Challenged resource)
unfolding challenge_of
opens_marked [] challenge e = absurd (let clash : None ≡ Some challenge = e in cc)
opens_marked (b ∷ bytes) challenge e = ap (senses.challenge_reply (b ∷ bytes)) e

first_word : (m : Manner) (word : ℕ) → m.free ≡ Some word → m.free ≡ Some 0 → word ≡ 0
first_word m word e f = let same : Some word ≡ Some 0 = sym e ∙ f in cc

demanded : (place : DeviceInfo → ℕ) (c : Challenge) (text : List ℕ) (w : Wire) → IsDemand (Challenged c) w → daemon.Says w text → SpellsReply place stages.Opening (Challenged c) text
demanded place c text w d says =
    let same : Challenged c ≡ Challenged d.resource = d.is in
    let resource : d.resource ≡ c = cc in
    told_as place stages.Opening procedures.Open (Challenged c) w (replies.Open code.Good 0 d.resource) text refl refl d.wire_is says (opens_marked d.resource d.challenge d.marked ∙ ap (λ (x : List ℕ). Says (Challenged x)) resource) refl

challenged : (place : DeviceInfo → ℕ) (m : Manner) (q : Asked) (c : Challenge) (text : List ℕ) (w : Wire) → IsTold m q (Challenged c) w → daemon.Says w text → SpellsReply place stages.Opening (Challenged c) text
challenged place m q c text w (inl s) says = absurd s.1
challenged place m q c text w (inr d) says = demanded place c text w d says

open_told : (place : DeviceInfo → ℕ) (k : Make) (options : OptionsInForce) (ds : List ℕ) (m : Manner) (name : List ℕ) (r : AbstractReply) (text : List ℕ) → m.free ≡ Some 0 → IsFor k options ds Open r → Offer m (requests.Open name) r text → SpellsReply place stages.Opening r text
open_told place k options ds m name Opened text free f o =
    let s = plain_told m (requests.Open name) Opened o.wire_reply (λ c e. let clash : Opened ≡ Challenged c = e in absurd (cc)) o.told in
    told_as place stages.Opening procedures.Open Opened o.wire_reply (replies.Open code.Good s.0.0 []) text refl refl s.0.2 o.says refl (first_word m s.0.0 s.0.1 free)
open_told place k options ds m name (Challenged c) text free f o = challenged place m (requests.Open name) c text o.wire_reply o.told o.says
open_told place k options ds m name (Refused status) text free f o =
    refused_as place stages.Opening procedures.Open m (requests.Open name) status text (λ n. replies.Open n 0 []) (λ n. Opened) refl (λ n. refl) (λ n. refl) (λ n. refl) (λ n. refl) o
open_told place k options ds m name r text free f o = absurd f

pub open_comes : (place : DeviceInfo → ℕ) (k : Make) (options : OptionsInForce) (ds : List ℕ) (target : JobTarget) (known : List Descriptor) (m : Manner) (q : Asked) (r : AbstractReply) (said : RequestAnswer) (text : List ℕ) → m.free ≡ Some 0 → IsRequest target 0 known q Open → IsFor k options ds Open r → HasShape q said → IsSaid m q (r ∷ []) said → daemon.SaysAll (daemon.replies_to said) text →
    SpellsReply place stages.Opening r text
open_comes place k options ds target known m (requests.Open name) r said text free is f shape s says = open_told place k options ds m name r text free f (offers m (requests.Open name) r said shape.0 text shape.1 s says)
open_comes place k options ds target known m (requests.ControlOption w n actions.GetValue kind value) r said text free is f shape s says = absurd is
open_comes place k options ds target known m (requests.ControlOption w n actions.SetValue kind value) r said text free is f shape s says = absurd is
open_comes place k options ds target known m q r said text free is f shape s says = absurd is

-- ---- AUTHORIZE

spelled_two : (m : Manner) (q : Asked) (r : AbstractReply) (said : RequestAnswer) (w : Wire) → said ≡ Two replies.Authorize w → SpellsSaid m q (r ∷ []) said → wire.Spells m q r w
spelled_two m q r said w e s =
    let two : SpellsSaid m q (r ∷ []) (Two replies.Authorize w) = subst (λ (x : RequestAnswer). SpellsSaid m q (r ∷ []) x) e s in
    subst (λ (a : AbstractReply). wire.Spells m q a w) (head_is r two.1.0 two.1.1) two.1.2

told_two : (m : Manner) (q : Asked) (r : AbstractReply) (said : RequestAnswer) (w : Wire) → said ≡ Two replies.Authorize w → IsSaid m q (r ∷ []) said → wire.Spells m q r w × IsPlain (r ∷ [])
told_two m q r said w e (inl s) = (spelled_two m q r said w e s.0, s.1)
told_two m q r said w e (inr d) = absurd (let clash : Two replies.Authorize w ≡ One (replies.Open code.Good 0 d.resource) = sym e ∙ d.said_is in cc)

reopened_told : (place : DeviceInfo → ℕ) (k : Make) (options : OptionsInForce) (ds : List ℕ) (m : Manner) (challenge : Challenge) (resource user answer : List ℕ) (r : AbstractReply) (w : Wire) (text : List ℕ) → m.free ≡ Some 0 → IsFor k options ds (Authorize challenge) r → wire.Spells m (requests.Authorize resource user answer) r w × IsPlain (r ∷ []) → daemon.Says w text →
    SpellsReply place stages.Reopening r text
reopened_told place k options ds m challenge resource user answer Opened w text free f s says =
    told_as place stages.Reopening procedures.Open Opened w (replies.Open code.Good s.0.0 []) text refl refl s.0.2 says refl (first_word m s.0.0 s.0.1 free)
reopened_told place k options ds m challenge resource user answer (Refused status) w text free f s says =
    refused_by place stages.Reopening procedures.Open m (requests.Authorize resource user answer) status w text (λ n. replies.Open n 0 []) (λ n. Opened) refl (λ n. refl) (λ n. refl) (λ n. refl) (λ n. refl) s says
reopened_told place k options ds m challenge resource user answer r w text free f s says = absurd f

authorize_told : (place : DeviceInfo → ℕ) (k : Make) (options : OptionsInForce) (ds : List ℕ) (m : Manner) (challenge : Challenge) (resource user answer sent own : List ℕ) (r : AbstractReply) (said : RequestAnswer) (w : Wire) (text : List ℕ) → m.free ≡ Some 0 → IsFor k options ds (Authorize challenge) r → said ≡ Two replies.Authorize w →
    IsSaid m (requests.Authorize resource user answer) (r ∷ []) said → daemon.SaysAll (daemon.replies_to said) text → SpellsReplyBehind place (stages.Allowing sent own) r text
authorize_told place k options ds m challenge resource user answer sent own r said w text free f e s says =
    let all : daemon.SaysAll (replies.Authorize ∷ w ∷ []) text = subst (λ (x : RequestAnswer). daemon.SaysAll (daemon.replies_to x) text) e says in
    let last = all.4 in
    let whole : last.0 ≡ all.1 = sym (last.2 ∙ (ap (λ (l : List ℕ). last.0 ++ l) last.4 ∙ append-nil last.0)) in
    record {
      front = all.0;
      back = all.1;
      text_is = all.2;
      word = record { procedure = procedures.Authorize; awaited_is = refl; spelled = says_spelled replies.Authorize all.0 all.3 };
      tells = reopened_told place k options ds m challenge resource user answer r w all.1 free f (told_two m (requests.Authorize resource user answer) r said w e s) (subst (daemon.Says w) whole last.3);
    }

pub authorize_comes : (place : DeviceInfo → ℕ) (k : Make) (options : OptionsInForce) (ds : List ℕ) (target : JobTarget) (known : List Descriptor) (m : Manner) (challenge : Challenge) (sent own : List ℕ) (q : Asked) (r : AbstractReply) (said : RequestAnswer) (text : List ℕ) → m.free ≡ Some 0 → IsRequest target 0 known q (Authorize challenge) → IsFor k options ds (Authorize challenge) r → HasShape q said →
    IsSaid m q (r ∷ []) said → daemon.SaysAll (daemon.replies_to said) text → SpellsReplyBehind place (stages.Allowing sent own) r text
authorize_comes place k options ds target known m challenge sent own (requests.Authorize resource user answer) r said text free is f shape s says = authorize_told place k options ds m challenge resource user answer sent own r said shape.0 text free f shape.1 s says
authorize_comes place k options ds target known m challenge sent own (requests.ControlOption w n actions.GetValue kind value) r said text free is f shape s says = absurd is
authorize_comes place k options ds target known m challenge sent own (requests.ControlOption w n actions.SetValue kind value) r said text free is f shape s says = absurd is
authorize_comes place k options ds target known m challenge sent own q r said text free is f shape s says = absurd is

-- ---- GET_OPTION_DESCRIPTORS

describing_told : (place : DeviceInfo → ℕ) (k : Make) (options : OptionsInForce) (ds : List ℕ) (m : Manner) (q : Asked) (r : AbstractReply) (text : List ℕ) → IsFor k options ds Describe r → Offer m q r text → SpellsReply place stages.Describing r text
describing_told place k options ds m q (Described descriptors) text f o =
    let s = plain_told m q (Described descriptors) o.wire_reply (λ c e. let clash : Described descriptors ≡ Challenged c = e in absurd (cc)) o.told in
    told_as place stages.Describing procedures.GetOptionDescriptors (Described descriptors) o.wire_reply (replies.GetOptionDescriptors descriptors) text refl refl s.0 o.says refl tt
describing_told place k options ds m q r text f o = absurd f

pub describing_comes : (place : DeviceInfo → ℕ) (k : Make) (options : OptionsInForce) (ds : List ℕ) (target : JobTarget) (known : List Descriptor) (m : Manner) (q : Asked) (r : AbstractReply) (said : RequestAnswer) (text : List ℕ) → IsRequest target 0 known q Describe → IsFor k options ds Describe r → HasShape q said → IsSaid m q (r ∷ []) said → daemon.SaysAll (daemon.replies_to said) text →
    SpellsReply place stages.Describing r text
describing_comes place k options ds target known m (requests.GetOptionDescriptors w) r said text is f shape s says = describing_told place k options ds m (requests.GetOptionDescriptors w) r text f (offers m (requests.GetOptionDescriptors w) r said shape.0 text shape.1 s says)
describing_comes place k options ds target known m (requests.ControlOption w n actions.GetValue kind value) r said text is f shape s says = absurd is
describing_comes place k options ds target known m (requests.ControlOption w n actions.SetValue kind value) r said text is f shape s says = absurd is
describing_comes place k options ds target known m q r said text is f shape s says = absurd is

-- ---- CONTROL_OPTION

set_told : (place : DeviceInfo → ℕ) (k : Make) (options : OptionsInForce) (ds : List ℕ) (m : Manner) (w on : ℕ) (kind sent : Kind) (value : WireValue) (n : ℕ) (name : List ℕ) (asked : Value) (r : AbstractReply) (text : List ℕ) → ((put : AbstractAcceptedSet) → accept_value k options n asked ≡ Some put → of_kind kind sent (given_like asked (wire_of put.given)) ≡ Some put.given) →
    IsFor k options ds (Set n asked) r → Offer m (requests.ControlOption w on actions.SetValue sent value) r text → SpellsReply place (stages.Putting n kind name asked) r text
set_told place k options ds m w on kind sent value n name asked (Gave given info) text back f o =
    let q = requests.ControlOption w on actions.SetValue sent value in
    let s = plain_told m q (Gave given info) o.wire_reply (λ c e. let clash : Gave given info ≡ Challenged c = e in absurd (cc)) o.told in
    let sends : WireValue = sent_as m.strings (size_of (slice_get m.descriptors on)) given in
    let same : of_kind kind sent (given_like asked sends) ≡ Some given =
    ap (of_kind kind sent) (given_alike m.strings (size_of (slice_get m.descriptors on)) asked given) ∙ subst (λ (v : Value). of_kind kind sent (given_like asked (wire_of v)) ≡ Some v) (sym f.2) (back f.0 f.1) in
    told_as place (stages.Putting n kind name asked) procedures.ControlOption (Gave given info) o.wire_reply (replies.ControlOption code.Good s.0.0 sent sends []) text refl refl s.0.2 o.says
    (ap (λ (x : Option Value). Says (gave_or_acked x s.0.0)) same ∙ ap (λ x. Says (Gave given x)) (sym s.0.1)) tt
set_told place k options ds m w on kind sent value n name asked (Refused status) text back f o =
    refused_as place (stages.Putting n kind name asked) procedures.ControlOption m (requests.ControlOption w on actions.SetValue sent value) status text (λ c. refused_control c sent value) (λ c. gave_or_acked (of_kind kind sent (given_like asked value)) no_info) refl (λ c. refl) (λ c. refl) (λ c. refl) (λ c. tt) o
set_told place k options ds m w on kind sent value n name asked r text back f o = absurd f

pub set_comes : (place : DeviceInfo → ℕ) (k : Make) (options : OptionsInForce) (ds : List ℕ) (target : JobTarget) (known : List Descriptor) (m : Manner) (q : Asked) (n : ℕ) (kind : Kind) (name : List ℕ) (asked : Value) (r : AbstractReply) (said : RequestAnswer) (text : List ℕ) → ((w on : ℕ) (sent : Kind) (value : WireValue) → IsRequest target 0 known (requests.ControlOption w on actions.SetValue sent value) (Set n asked) → (put : AbstractAcceptedSet) →
    accept_value k options n asked ≡ Some put → of_kind kind sent (given_like asked (wire_of put.given)) ≡ Some put.given) → IsRequest target 0 known q (Set n asked) → IsFor k options ds (Set n asked) r → HasShape q said → IsSaid m q (r ∷ []) said → daemon.SaysAll (daemon.replies_to said) text → SpellsReply place (stages.Putting n kind name asked) r text
set_comes place k options ds target known m (requests.ControlOption w on actions.SetValue sent value) n kind name asked r said text back is f shape s says =
    set_told place k options ds m w on kind sent value n name asked r text (back w on sent value is) f (offers m (requests.ControlOption w on actions.SetValue sent value) r said shape.0 text shape.1 s says)
set_comes place k options ds target known m (requests.ControlOption w on actions.GetValue sent value) n kind name asked r said text back is f shape s says = absurd is
set_comes place k options ds target known m q n kind name asked r said text back is f shape s says = absurd is

get_told : (place : DeviceInfo → ℕ) (k : Make) (options : OptionsInForce) (ds : List ℕ) (m : Manner) (w on : ℕ) (kind sent : Kind) (value : WireValue) (n size : ℕ) (r : AbstractReply) (text : List ℕ) → (has_readable_value k options n ≡ true → of_kind kind (kind_of (slice_get m.descriptors on) sent) (wire_value_in kind (wire_of (readable_value k options n))) ≡ Some (readable_value k options n)) →
    IsFor k options ds (Get n) r → Offer m (requests.ControlOption w on actions.GetValue sent value) r text → SpellsReply place (stages.Getting n kind size) r text
get_told place k options ds m w on kind sent value n size (Got told) text back f o =
    let q = requests.ControlOption w on actions.GetValue sent value in
    let s = plain_told m q (Got told) o.wire_reply (λ c e. let clash : Got told ≡ Challenged c = e in absurd (cc)) o.told in
    let there = kind_of (slice_get m.descriptors on) sent in
    let sends : WireValue = sent_as m.strings (size_of (slice_get m.descriptors on)) told in
    let same : of_kind kind there (wire_value_in kind sends) ≡ Some told =
    ap (of_kind kind there) (told_alike m.strings (size_of (slice_get m.descriptors on)) kind told) ∙ subst (λ (v : Value). of_kind kind there (wire_value_in kind (wire_of v)) ≡ Some v) (sym f.1) (back f.0) in
    told_as place (stages.Getting n kind size) procedures.ControlOption (Got told) o.wire_reply (replies.ControlOption code.Good no_info there sends []) text refl refl s.0 o.says (ap (λ (x : Option Value). Says (got_or_acked x)) same) tt
get_told place k options ds m w on kind sent value n size (Refused status) text back f o =
    refused_as place (stages.Getting n kind size) procedures.ControlOption m (requests.ControlOption w on actions.GetValue sent value) status text (λ c. refused_control c sent value) (λ c. got_or_acked (of_kind kind sent (wire_value_in kind value))) refl (λ c. refl) (λ c. refl) (λ c. refl) (λ c. tt) o
get_told place k options ds m w on kind sent value n size r text back f o = absurd f

pub get_comes : (place : DeviceInfo → ℕ) (k : Make) (options : OptionsInForce) (ds : List ℕ) (target : JobTarget) (known : List Descriptor) (m : Manner) (q : Asked) (n : ℕ) (kind : Kind) (size : ℕ) (r : AbstractReply) (said : RequestAnswer) (text : List ℕ) → ((w on : ℕ) (sent : Kind) (value : WireValue) → IsRequest target 0 known (requests.ControlOption w on actions.GetValue sent value) (Get n) → has_readable_value k options n ≡ true →
    of_kind kind (kind_of (slice_get m.descriptors on) sent) (wire_value_in kind (wire_of (readable_value k options n))) ≡ Some (readable_value k options n)) → IsRequest target 0 known q (Get n) → IsFor k options ds (Get n) r → HasShape q said → IsSaid m q (r ∷ []) said → daemon.SaysAll (daemon.replies_to said) text → SpellsReply place (stages.Getting n kind size) r text
get_comes place k options ds target known m (requests.ControlOption w on actions.GetValue sent value) n kind size r said text back is f shape s says =
    get_told place k options ds m w on kind sent value n size r text (back w on sent value is) f (offers m (requests.ControlOption w on actions.GetValue sent value) r said shape.0 text shape.1 s says)
get_comes place k options ds target known m (requests.ControlOption w on actions.SetValue sent value) n kind size r said text back is f shape s says = absurd is
get_comes place k options ds target known m q n kind size r said text back is f shape s says = absurd is

-- ---- START and GET_PARAMETERS

start_told : (place : DeviceInfo → ℕ) (k : Make) (options : OptionsInForce) (ds : List ℕ) (m : Manner) (w : ℕ) (first : Bool) (r : AbstractReply) (text : List ℕ) → IsFor k options ds Start r → Offer m (requests.Start w) r text → SpellsReply place (stages.Starting first) r text
start_told place k options ds m w first (Begun order) text f o =
    let s = plain_told m (requests.Start w) (Begun order) o.wire_reply (λ c e. let clash : Begun order ≡ Challenged c = e in absurd (cc)) o.told in
    told_as place (stages.Starting first) procedures.Start (Begun order) o.wire_reply (start_reply code.Good m.port order) text refl refl s.0 o.says refl tt
start_told place k options ds m w first (Refused status) text f o =
    refused_as place (stages.Starting first) procedures.Start m (requests.Start w) status text (λ c. start_reply c 0 m.order) (λ c. Begun m.order) refl (λ c. refl) (λ c. refl) (λ c. refl) (λ c. tt) o
start_told place k options ds m w first r text f o = absurd f

pub start_comes : (place : DeviceInfo → ℕ) (k : Make) (options : OptionsInForce) (ds : List ℕ) (target : JobTarget) (known : List Descriptor) (m : Manner) (q : Asked) (first : Bool) (r : AbstractReply) (said : RequestAnswer) (text : List ℕ) → IsRequest target 0 known q Start → IsFor k options ds Start r → HasShape q said → IsSaid m q (r ∷ []) said → daemon.SaysAll (daemon.replies_to said) text →
    SpellsReply place (stages.Starting first) r text
start_comes place k options ds target known m (requests.Start w) first r said text is f shape s says = start_told place k options ds m w first r text f (offers m (requests.Start w) r said shape.0 text shape.1 s says)
start_comes place k options ds target known m (requests.ControlOption w n actions.GetValue kind value) first r said text is f shape s says = absurd is
start_comes place k options ds target known m (requests.ControlOption w n actions.SetValue kind value) first r said text is f shape s says = absurd is
start_comes place k options ds target known m q first r said text is f shape s says = absurd is

shaping_told : (place : DeviceInfo → ℕ) (k : Make) (options : OptionsInForce) (ds : List ℕ) (m : Manner) (w port : ℕ) (order : ByteOrder) (r : AbstractReply) (text : List ℕ) → IsFor k options ds Parameters r → Offer m (requests.GetParameters w) r text → SpellsReply place (stages.Shaping port order) r text
shaping_told place k options ds m w port order (Shaped params) text f o =
    let s = plain_told m (requests.GetParameters w) (Shaped params) o.wire_reply (λ c e. let clash : Shaped params ≡ Challenged c = e in absurd (cc)) o.told in
    told_as place (stages.Shaping port order) procedures.GetParameters (Shaped params) o.wire_reply (replies.GetParameters code.Good params) text refl refl s.0 o.says refl tt
shaping_told place k options ds m w port order (Refused status) text f o =
    refused_as place (stages.Shaping port order) procedures.GetParameters m (requests.GetParameters w) status text (λ c. replies.GetParameters c no_params) (λ c. Shaped no_params) refl (λ c. refl) (λ c. refl) (λ c. refl) (λ c. tt) o
shaping_told place k options ds m w port order r text f o = absurd f

pub shaping_comes : (place : DeviceInfo → ℕ) (k : Make) (options : OptionsInForce) (ds : List ℕ) (target : JobTarget) (known : List Descriptor) (m : Manner) (q : Asked) (port : ℕ) (order : ByteOrder) (r : AbstractReply) (said : RequestAnswer) (text : List ℕ) → IsRequest target 0 known q Parameters → IsFor k options ds Parameters r → HasShape q said → IsSaid m q (r ∷ []) said →
    daemon.SaysAll (daemon.replies_to said) text → SpellsReply place (stages.Shaping port order) r text
shaping_comes place k options ds target known m (requests.GetParameters w) port order r said text is f shape s says = shaping_told place k options ds m w port order r text f (offers m (requests.GetParameters w) r said shape.0 text shape.1 s says)
shaping_comes place k options ds target known m (requests.ControlOption w n actions.GetValue kind value) port order r said text is f shape s says = absurd is
shaping_comes place k options ds target known m (requests.ControlOption w n actions.SetValue kind value) port order r said text is f shape s says = absurd is
shaping_comes place k options ds target known m q port order r said text is f shape s says = absurd is

-- Each call leaves how string values are sent.
use Rattle.std.proofs.Common.{◌≡◌, ◌⊎◌, ◌∙◌, ℕ, List, [], ◌∷◌, Option, Some, None, Bool, true, false, cond, refl, sym, ap, subst, inl, inr}
use Rattle.std.specs.Option.{option_map, option_and_then}
use Rattle.std.specs.List.{list_any}
use Rattle.md5_auth.specs.declared.users.Entry.{Entry}
use Rattle.device_api.specs.State.{DeviceState}
use Rattle.page_picture.specs.Source.{SourceState}
use Rattle.dispatch.specs.declared.table.place.Lease.{Lease}
use Rattle.dispatch.specs.Table.{Table}
use Rattle.wire_message.specs.declared.message.Request.{Request}
use Rattle.wire_message.specs.declared.message.Reply.{Reply}
use Rattle.saned_requests.specs.declared.session.DataPhase.{DataPhase}
use Rattle.saned_requests.specs.declared.session.DataPhase.TheVariants as phases
use Rattle.saned_requests.specs.declared.session.Session.{Session}
use Rattle.saned_requests.specs.declared.session.StringSize.{StringSize}
use Rattle.saned_requests.specs.Holding.{held_by}
use Rattle.saned_requests.specs.RequestAnswers.{RequestContext}
use Rattle.saned_requests.proofs.StringSizes.{Same, is_same, answers_same, memory_same}
use Rattle.saned_core.specs.declared.session_slot.SessionSlot.{SessionSlot}
use Rattle.saned_core.specs.declared.session_slot.Fed.{Fed}
use Rattle.saned_core.specs.declared.session_slot.Fed.TheVariants.{Standing, Over, Starved}
use Rattle.saned_core.specs.declared.session_slot.DataStep.{DataStep}
use Rattle.saned_core.specs.DaemonStates.{Core, is_slot_number, session_slot_of, session_in, session_of, on_session_slot, on_session, with_session, with_session_slot, slot_if_open, after_taken, after_reply_bytes, no_more, new_session_slot, after_connected, after_lost, lost_from, after_open_session, after_end_session}
use Rattle.saned_core.specs.Feeding.{Feeds, FeedEndsSession, AnswersAll, AnsweredSoFar, OutOfMemoryNext, core_context, input_of}
use Rattle.saned_core.specs.Inside.{FeedsContext, slot_or_none_after_feed, slot_after_feed}
use Rattle.saned_core.specs.Feeding.FeedEndsSession.{Garbled, Ended}
use Rattle.saned_core.specs.Turns.{Turns, TurnsSessions, StreamsIn, StreamsFrom}
use Rattle.saned_core.specs.Loading.{holds, on_first, slot_with_page, session_with, core_after_load}
use Rattle.saned_core.proofs.FeedCases.{feeds_in}
use Rattle.saned_core.specs.StringSizes.{SendsStrings, SlotSendsStrings, SlotsSendStrings, HasOneStringSize}

abbrev Place : Type 0
Place = Option (SessionSlot DeviceState)

-- ---- a piece

all_same : (users : List Entry) (d : RequestContext) (qs : List Request) (told : List Reply) (new : RequestContext) → AnswersAll users d qs told new → Same d new
all_same users d [] told new g = is_same d d new g.1 refl
all_same users d (q ∷ qs) told new g = all_same users g.1 qs g.2 new g.5 ∙ answers_same users d g.1 q g.0 g.3

far_same : (users : List Entry) (d : RequestContext) (old piece rest : List ℕ) (mid : RequestContext) (text : List ℕ) → AnsweredSoFar (record { users = users; context = d; before = old; piece = piece }) (record { context = mid; rest = rest; text = text }) → Same d mid
far_same users d old piece rest mid text g = all_same users d g.requests g.told mid g.answers

ends_same : (users : List Entry) (d : RequestContext) (rest : List ℕ) (told : List Reply) (new : RequestContext) → FeedEndsSession users d rest told new → Same d new
ends_same users d rest told new (Garbled garbled none n) = is_same d d new n refl
ends_same users d rest told new (Ended left q said takes answers ends) = answers_same users d new q said answers

next_same : (users : List Entry) (d mid : RequestContext) (rest : List ℕ) (new : RequestContext) → (new ≡ mid) ⊎ OutOfMemoryNext users mid rest new → Same d mid → Same d new
next_same users d mid rest new (inl n) s = is_same d mid new n s
next_same users d mid rest new (inr g) s = memory_same users mid new g.request g.out_of_memory ∙ s

feeds_same : (fed : Fed) (users : List Entry) (d : RequestContext) (old piece rest : List ℕ) (new : RequestContext) (text : List ℕ) → FeedsContext fed (record { users = users; context = d; before = old; piece = piece }) (record { context = new; rest = rest; text = text }) → Same d new
feeds_same Standing users d old piece rest new text g = far_same users d old piece rest new text g.so_far
feeds_same Over users d old piece rest new text g = ends_same users g.mid g.rest g.last new g.closes ∙ far_same users d old piece g.rest g.mid g.front g.so_far
feeds_same Starved users d old piece rest new text g = next_same users d g.mid g.rest new g.out_of_memory (far_same users d old piece g.rest g.mid g.text g.so_far)

-- ---- a slot

abbrev Leaves : StringSize → (SessionSlot DeviceState → Place) → Type 0
Leaves strings f = (slot : SessionSlot DeviceState) → SendsStrings strings slot.session → SlotSendsStrings strings (f slot)

slot_left : (strings : StringSize) (f : SessionSlot DeviceState → Place) (slot : Place) → Leaves strings f → SlotSendsStrings strings slot → SlotSendsStrings strings (option_and_then f slot)
slot_left strings f None l h = tt
slot_left strings f (Some slot) l h = l slot h

if_left : (strings : StringSize) (b : Bool) (slot new : Place) (slots news : List Place) → SlotSendsStrings strings slot → SlotSendsStrings strings new → SlotsSendStrings strings slots → SlotsSendStrings strings news → SlotsSendStrings strings (cond b (new ∷ slots) (slot ∷ news))
if_left strings true slot new slots news h one all more = (one, all)
if_left strings false slot new slots news h one all more = (h, more)

on_left : (strings : StringSize) (f : SessionSlot DeviceState → Place) (n : ℕ) (slots : List Place) → Leaves strings f → SlotsSendStrings strings slots → SlotsSendStrings strings (on_session_slot f n slots)
unfolding on_session_slot
on_left strings f n [] l h = tt
on_left strings f n (slot ∷ slots) l h =
    if_left strings (is_slot_number n slot) slot (option_and_then f slot) slots (on_session_slot f n slots) h.0 (slot_left strings f slot l h.0) h.1 (on_left strings f n slots l h.1)

page_left : (strings : StringSize) (name : List ℕ) (source : SourceState) (o : Option (Session DeviceState)) → SendsStrings strings o → SendsStrings strings (session_with name source o)
page_left strings name source None h = tt
page_left strings name source (Some s) h = h

load_left : (strings : StringSize) (name : List ℕ) (source : SourceState) (slot : Place) → SlotSendsStrings strings slot → SlotSendsStrings strings (slot_with_page name source slot)
load_left strings name source None h = tt
load_left strings name source (Some slot) h = page_left strings name source slot.session h

first_left : (strings : StringSize) (name : List ℕ) (source : SourceState) (slots : List Place) → SlotsSendStrings strings slots → SlotsSendStrings strings (on_first (holds name) (slot_with_page name source) slots)
unfolding on_first
first_left strings name source [] h = tt
first_left strings name source (slot ∷ slots) h =
    if_left strings (holds name slot) slot (slot_with_page name source slot) slots (on_first (holds name) (slot_with_page name source) slots) h.0 (load_left strings name source slot h.0) h.1 (first_left strings name source slots h.1)

with_left : (strings : StringSize) (slots : List Place) (new : SessionSlot DeviceState) → SendsStrings strings new.session → SlotsSendStrings strings slots → SlotsSendStrings strings (with_session_slot slots new)
unfolding with_session_slot
with_left strings [] new one h = tt
with_left strings (None ∷ slots) new one h = (one, h.1)
with_left strings (Some slot ∷ slots) new one h = (h.0, with_left strings slots new one h.1)

open_left : (strings : StringSize) (o : Option (Session DeviceState)) (replies : List ℕ) (slot : SessionSlot DeviceState) → SendsStrings strings slot.session → SlotSendsStrings strings (slot_if_open o replies slot)
open_left strings (Some session) replies slot h = h
open_left strings None [] slot h = tt
open_left strings None (byte ∷ bytes) slot h = h

session_left : (strings : StringSize) (f : Session DeviceState → Session DeviceState) (o : Option (Session DeviceState)) → ((s : Session DeviceState) → (f s).strings ≡ s.strings) → SendsStrings strings o → SendsStrings strings (option_map f o)
session_left strings f None same h = tt
session_left strings f (Some s) same h = same s ∙ h

lost_same : (c : DataPhase) (s : Session DeviceState) → (lost_from c s).strings ≡ s.strings
lost_same phases.Quiet s = refl
lost_same (phases.Waiting w) s = refl
lost_same (phases.Streaming w) s = refl
lost_same phases.Ending s = refl

streamed_same : (o : Option (Lease DeviceState)) (w : ℕ) (old : Session DeviceState) (step : DataStep) (new : Session DeviceState) (buf : List ℕ) → StreamsFrom o w old step new buf → new.strings ≡ old.strings
streamed_same None w old step new buf g = ap (λ (s : Session DeviceState). s.strings) g.1
streamed_same (Some l) w old step new buf g = ap (λ (s : Session DeviceState). s.strings) g.new_is

turned_same : (c : DataPhase) (old : Session DeviceState) (step : DataStep) (new : Session DeviceState) (buf : List ℕ) → StreamsIn c old step new buf → new.strings ≡ old.strings
turned_same phases.Quiet old step new buf g = ap (λ (s : Session DeviceState). s.strings) g.1
turned_same (phases.Waiting w) old step new buf g = ap (λ (s : Session DeviceState). s.strings) g.1
turned_same (phases.Streaming w) old step new buf g = streamed_same (held_by old.held w) w old step new buf g
turned_same phases.Ending old step new buf g = ap (λ (s : Session DeviceState). s.strings) g.1

fed_left : (strings : StringSize) (fed : Fed) (d : RequestContext) (rest text : List ℕ) → d.session.strings ≡ strings → Leaves strings (slot_or_none_after_feed fed d rest text)
fed_left strings Standing d rest text s slot h = s
fed_left strings Over d rest text s slot h = open_left strings None (slot_after_feed Over d.session rest text slot).replies (slot_after_feed Over d.session rest text slot) tt
fed_left strings Starved d rest text s slot h = tt

-- ---- the session of a number

found_at : (strings : StringSize) (n : ℕ) (b : Bool) (slot other : Place) → SlotSendsStrings strings slot → SlotSendsStrings strings other → SlotSendsStrings strings (cond b slot other)
found_at strings n true slot other h o = h
found_at strings n false slot other h o = o

found : (strings : StringSize) (n : ℕ) (slots : List Place) → SlotsSendStrings strings slots → SlotSendsStrings strings (session_slot_of slots n)
unfolding session_slot_of
found strings n [] h = tt
found strings n (slot ∷ slots) h = found_at strings n (is_slot_number n slot) slot (session_slot_of slots n) h.0 (found strings n slots h.1)

in_slot : (strings : StringSize) (slot : Place) → SlotSendsStrings strings slot → SendsStrings strings (session_in slot)
in_slot strings None h = tt
in_slot strings (Some slot) h = h

found_session : (strings : StringSize) (n : ℕ) (slots : List Place) (o : Option (Session DeviceState)) → session_in (session_slot_of slots n) ≡ o → SlotsSendStrings strings slots → SendsStrings strings o
found_session strings n slots o e h = subst (λ (x : Option (Session DeviceState)). SendsStrings strings x) e (in_slot strings (session_slot_of slots n) (found strings n slots h))

-- ---- the calls

pub sizes_new : (d : Core) → d.slots ≡ None ∷ None ∷ None ∷ None ∷ None ∷ None ∷ None ∷ None ∷ [] → HasOneStringSize d
sizes_new d e = subst (λ (l : List Place). SlotsSendStrings d.strings l) (sym e) (tt, (tt, (tt, (tt, (tt, (tt, (tt, (tt, tt))))))))

pub sizes_opened : (d : Core) (port : ℕ) → HasOneStringSize d → HasOneStringSize (after_open_session d port)
sizes_opened d port h = with_left d.strings d.slots (new_session_slot d.strings d.opened port) refl h

fed_by : (o : Option (Session DeviceState)) (n : ℕ) (old : Core) (piece : List ℕ) (fed : Fed) (new : Core) → session_of old n ≡ o → Feeds n old piece fed new → HasOneStringSize old → SlotsSendStrings old.strings new.slots
fed_by None n old piece fed new e f h = subst (λ (d : Core). SlotsSendStrings old.strings d.slots) (sym (f.idle e).1) h
fed_by (Some s) n old piece fed new e f h =
    let g = feeds_in n old piece fed new s e f in
    let same = feeds_same fed old.users (core_context old s) (input_of old n) piece g.rest g.context g.text g.feeds in
    let own : s.strings ≡ old.strings = found_session old.strings n old.slots (Some s) e h in
    subst (λ (l : List Place). SlotsSendStrings old.strings l) (sym g.slots_is) (on_left old.strings (slot_or_none_after_feed fed g.context g.rest g.text) n old.slots (fed_left old.strings fed g.context g.rest g.text (same ∙ own)) h)

daemon_same : (old new : Core) → new.strings ≡ old.strings → SlotsSendStrings old.strings new.slots → HasOneStringSize new
daemon_same old new e h = subst (λ (x : StringSize). SlotsSendStrings x new.slots) (sym e) h

pub sizes_fed : (n : ℕ) (old : Core) (piece : List ℕ) (fed : Fed) (new : Core) → Feeds n old piece fed new → HasOneStringSize old → HasOneStringSize new
sizes_fed n old piece fed new f h = daemon_same old new (ap (λ (d : Core). d.strings) f.others.rest) (fed_by (session_of old n) n old piece fed new refl f h)

turned_by : (o : Option (Session DeviceState)) (strings : StringSize) (n : ℕ) (slots news : List Place) (step : DataStep) (buf : List ℕ) → SendsStrings strings o → TurnsSessions o n slots step news buf → SlotsSendStrings strings slots → SlotsSendStrings strings news
turned_by None strings n slots news step buf own t h = subst (λ (l : List Place). SlotsSendStrings strings l) (sym t.1) h
turned_by (Some s) strings n slots news step buf own t h =
    subst (λ (l : List Place). SlotsSendStrings strings l) (sym t.2) (on_left strings (with_session t.0) n slots (leaves (turned_same s.transfer s step t.0 buf t.1 ∙ own)) h)
  where
    leaves : t.0.strings ≡ strings → Leaves strings (with_session t.0)
    leaves same slot h = same

pub sizes_turned : (n : ℕ) (old : Core) (step : DataStep) (new : Core) (buf : List ℕ) → Turns n old step new buf → HasOneStringSize old → HasOneStringSize new
sizes_turned n old step new buf t h =
    daemon_same old new (ap (λ (d : Core). d.strings) t.others)
    (turned_by (session_in (session_slot_of old.slots n)) old.strings n old.slots new.slots step buf (found_session old.strings n old.slots (session_in (session_slot_of old.slots n)) refl h) t.slots h)

on_session_left : (strings : StringSize) (f : Session DeviceState → Session DeviceState) → ((s : Session DeviceState) → (f s).strings ≡ s.strings) → Leaves strings (on_session f)
on_session_left strings f same slot h = session_left strings f slot.session same h

pub sizes_connected : (d : Core) (n : ℕ) → HasOneStringSize d → HasOneStringSize (record d { slots = on_session_slot (on_session after_connected) n d.slots })
sizes_connected d n h = on_left d.strings (on_session after_connected) n d.slots (on_session_left d.strings after_connected (λ s. refl)) h

pub sizes_lost : (d : Core) (n : ℕ) → HasOneStringSize d → HasOneStringSize (record d { slots = on_session_slot (on_session after_lost) n d.slots })
sizes_lost d n h = on_left d.strings (on_session after_lost) n d.slots (on_session_left d.strings after_lost (λ s. lost_same s.transfer s)) h

taken_left : (strings : StringSize) (count : ℕ) → Leaves strings (after_taken count)
taken_left strings count slot h = open_left strings slot.session (after_reply_bytes count slot).replies (after_reply_bytes count slot) h

pub sizes_taken : (d : Core) (n count : ℕ) → HasOneStringSize d → HasOneStringSize (record d { slots = on_session_slot (after_taken count) n d.slots })
sizes_taken d n count h = on_left d.strings (after_taken count) n d.slots (taken_left d.strings count) h

gone_left : (strings : StringSize) → Leaves strings no_more
gone_left strings slot h = tt

pub sizes_ended : (d : Core) (n : ℕ) → HasOneStringSize d → HasOneStringSize (after_end_session d n)
sizes_ended d n h = on_left d.strings no_more n d.slots (gone_left d.strings) h

loaded_if : (b : Bool) (d : Core) (name : List ℕ) (source : SourceState) (registry : Table) → HasOneStringSize d
    → HasOneStringSize (cond b (record d { slots = on_first (holds name) (slot_with_page name source) d.slots }) (record d { registry = registry }))
loaded_if true d name source registry h = first_left d.strings name source d.slots h
loaded_if false d name source registry h = h

pub sizes_loaded : (d : Core) (name : List ℕ) (source : SourceState) → HasOneStringSize d → HasOneStringSize (core_after_load d name source)
sizes_loaded d name source h = loaded_if (list_any (holds name) d.slots) d name source _ h

pub sizes_unplugged : (d : Core) (registry : Table) → HasOneStringSize d → HasOneStringSize (record d { registry = registry })
sizes_unplugged d registry h = h

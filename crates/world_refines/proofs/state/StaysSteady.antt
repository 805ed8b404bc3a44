-- What the daemon answers, or makes of a request that it has no memory for, leaves its devices true to their pages, and its places named as they were.
use Rattle.std.specs.Prelude.{Result, Ok, Err}
use Rattle.std.specs.List.{AllByRecursion}
use Rattle.std.proofs.Common.{◌≡◌, inl, inr, ℕ, zero, suc, List, [], ◌∷◌, Option, Some, None, Bool, true, false, refl, sym, ap, subst, map, slice_get}
use Rattle.sane_fixed.specs.declared.info.Info.{Info}
use Rattle.sane_fixed.specs.declared.kind.Kind.{Kind}
use Rattle.sane_fixed.specs.declared.no_mem.NoMem.{NoMem}
use Rattle.sane_fixed.specs.declared.status.Status.{Status as Code}
use Rattle.sane_fixed.specs.declared.status.Status.TheVariants as code
use Rattle.option_desc.specs.declared.value.Value.{Value}
use Rattle.md5_auth.specs.declared.users.Entry.{Entry}
use Rattle.device_api.specs.Options.{descriptors_of}
use Rattle.device_api.specs.State.{DeviceState, HeldPage, Phase, Starts, StartsFrame, StartsIn, StartsOn, after_reset, set_answer}
use Rattle.device_api.specs.State.Phase.{AtRest, Between, Reading}
use Rattle.dispatch.specs.declared.table.place.Lease.{Lease}
use Rattle.dispatch.specs.declared.table.place.Slot.{Slot}
use Rattle.dispatch.specs.declared.table.place.Slot.TheVariants.{In, Out, Gone}
use Rattle.dispatch.specs.Table.{Table, after_give_back, find_name, held_at, after_take_answer, take_answer, take_at, take_of, with_slot}
use Rattle.wire_message.specs.declared.message.ControlAction.{ControlAction}
use Rattle.wire_message.specs.declared.message.ControlAction.TheVariants.{GetValue, SetValue}
use Rattle.wire_message.specs.declared.message.Request.{Request as Asked}
use Rattle.wire_message.specs.declared.message.Request.TheVariants as requests
use Rattle.wire_message.specs.declared.message.Reply.{Reply}
use Rattle.wire_message.specs.declared.message.WireValue.{WireValue}
use Rattle.saned_requests.specs.declared.request_answer.RequestAnswer.{RequestAnswer}
use Rattle.saned_requests.specs.declared.session.AwaitedAuthorization.{AwaitedAuthorization}
use Rattle.saned_requests.specs.declared.session.DataPhase.{DataPhase}
use Rattle.saned_requests.specs.declared.session.DataPhase.TheVariants as word
use Rattle.saned_requests.specs.Holding.{free_word, held_by, on_word, with_device}
use Rattle.saned_requests.specs.declared.session.StringSize.{StringSize}
use Rattle.saned_requests.specs.RequestAnswers.{Answers, AnswersAwaiting, AnswersBy, AnswersFree, AnswersGreeted, RequestContext, RequestOutOfMemory, OutOfMemoryBy, OutOfMemoryFree, OutOfMemoryGreeted, OpensAt, StartsInDataPhase as StartsHeldIn, StartsLease, StartsWord, reply_if_allowed, asked_at, cancel_held, close_lease, control_device, control_lease, did_set, first_answer, without_awaited, set_asked, take_device, take_into, reply_of_take}
use Rattle.saned_requests.specs.RequestAnswers.RequestOutOfMemory.{Under, All}
use Rattle.daemon_refines.proofs.Moved.{unsome}
use Rattle.world_refines.specs.WorldRefinement.{IsFaithful, IsFaithfulLease, IsFaithfulPlace, IsFaithfulSlot, info_at}
use Rattle.world_refines.proofs.state.CoreCallsKeep.{back_infos, slot_infos}
use Rattle.world_refines.proofs.state.Faithful.{back_true, cancel_true, cancelled_word_true, slot_true, word_true}
use Rattle.world_refines.proofs.state.ReadTrue.{failed_true, lease_at, same_true, stopped_true}

-- all devices of a request context, in their places and lent
pub record IsTrueContext (d : RequestContext) : Type 0 where
  pub lying : AllByRecursion IsFaithfulPlace d.registry
  pub lent : AllByRecursion IsFaithfulLease d.session.held

-- one becomes the other
pub record Keeps (d new : RequestContext) : Type 0 where
  pub infos : map info_at new.registry ≡ map info_at d.registry
  pub stays : IsTrueContext d → IsTrueContext new

keeps_same : (d new e : RequestContext) → new ≡ e → Keeps d e → Keeps d new
keeps_same d new e is h = subst (Keeps d) (sym is) h

-- with the same words and places
still : (d new : RequestContext) → new.registry ≡ d.registry → new.session.held ≡ d.session.held → Keeps d new
still d new registry held =
    record {
      infos = ap (map info_at) registry;
      stays = λ h. record { lying = subst (AllByRecursion IsFaithfulPlace) (sym registry) h.lying; lent = subst (AllByRecursion IsFaithfulLease) (sym held) h.lent };
    }

-- ---- a device that is taken

slot_held : (slot : Slot DeviceState) (s : DeviceState) → Rattle.dispatch.specs.Table.device_in slot ≡ Some s → IsFaithfulSlot slot → IsFaithful s
slot_held (In d) s e h = subst IsFaithful (unsome d s e) h
slot_held Out s e h = absurd (let clash : None ≡ Some s = e in cc)
slot_held Gone s e h = absurd (let clash : None ≡ Some s = e in cc)

there_true : (t : Table) (k : ℕ) (s : DeviceState) → held_at t k ≡ Some s → AllByRecursion IsFaithfulPlace t → IsFaithful s
unfolding held_at
there_true [] k s e h = absurd (let clash : None ≡ Some s = e in cc)
there_true (p ∷ t) zero s e h = slot_held p.slot s e h.0
there_true (p ∷ t) (suc k) s e h = there_true t k s e h.1

of_true : (k : ℕ) (o : Option DeviceState) (l : Lease DeviceState) → ((s : DeviceState) → o ≡ Some s → IsFaithful s) → take_of k o ≡ Ok l → IsFaithful l.device
of_true k None l h e = absurd (let clash : Err code.DeviceBusy ≡ Ok l = e in cc)
of_true k (Some s) l h e = let is : record { device = after_reset s; place = k } ≡ l = cc in subst (λ (x : Lease DeviceState). IsFaithful x.device) is (cancel_true s (h s refl))

at_true : (t : Table) (o : Option ℕ) (l : Lease DeviceState) → AllByRecursion IsFaithfulPlace t → take_at t o ≡ Ok l → IsFaithful l.device
at_true t None l h e = absurd (let clash : Err code.Inval ≡ Ok l = e in cc)
at_true t (Some k) l h e = of_true k (held_at t k) l (λ s at. there_true t k s at h) e

taken_true : (t : Table) (name : List ℕ) (l : Lease DeviceState) → AllByRecursion IsFaithfulPlace t → take_answer t name ≡ Ok l → IsFaithful l.device
unfolding take_answer
taken_true t name l h e = at_true t (find_name name t) l h e

took_keeps : (d : RequestContext) (name : List ℕ) (w : ℕ) (r : Result (Lease DeviceState) Code) → take_answer d.registry name ≡ r → Keeps d (reply_of_take d w r).1
took_keeps d name w (Ok l) e =
    record {
      infos = slot_infos d.registry l.place Out;
      stays = λ h. record {
        lying = slot_true d.registry l.place Out tt h.lying;
        lent = word_true (λ _. Some l) d.session.held w (λ o f. taken_true d.registry name l h.lying e) h.lent;
      };
    }
took_keeps d name w (Err status) e = still d d refl refl

into_keeps : (d : RequestContext) (name : List ℕ) (o : Option ℕ) → Keeps d (take_into d name o).1
into_keeps d name None = still d d refl refl
into_keeps d name (Some w) = took_keeps d name w (take_answer d.registry name) refl

take_keeps : (d : RequestContext) (name : List ℕ) → Keeps d (take_device d name).1
take_keeps d name = into_keeps d name (free_word d.session.held)

-- ---- OPEN and AUTHORIZE

open_keeps : (users : List Entry) (d : RequestContext) (name : List ℕ) (free place : Option ℕ) (said : RequestAnswer) (new : RequestContext) → OpensAt users d name free place said new → Keeps d new
open_keeps users d name None place said new g = keeps_same d new d g.1 (still d d refl refl)
open_keeps users d name (Some w) None said new g = keeps_same d new d g.1 (still d d refl refl)
open_keeps users d name (Some w) (Some k) said new (inl asks) = still d new (ap (λ (t : RequestContext). t.registry) asks.new_is) (ap (λ (t : RequestContext). t.session.held) asks.new_is)
open_keeps users d name (Some w) (Some k) said new (inr now) = keeps_same d new (take_device d name).1 now.taken.1 (take_keeps d name)

-- with nothing awaited any more
not_awaited_keeps : (d new : RequestContext) → Keeps (without_awaited d) new → Keeps d new
not_awaited_keeps d new h = record { infos = h.infos; stays = λ t. h.stays (record { lying = t.lying; lent = t.lent }) }

answered_keeps : (b : Bool) (d : RequestContext) (name : List ℕ) → Keeps d (reply_if_allowed b d name).1
answered_keeps true d name = take_keeps d name
answered_keeps false d name = still d d refl refl

-- ---- a device word

close_keeps : (d : RequestContext) (w : ℕ) (o : Option (Lease DeviceState)) → held_by d.session.held w ≡ o → Keeps d (close_lease d w o)
close_keeps d w None e = still d d refl refl
close_keeps d w (Some l) e =
    record {
      infos = back_infos d.registry (Some l);
      stays = λ h. record {
        lying = back_true d.registry (Some l) (subst IsFaithfulLease e (lease_at d.session.held w h.lent)) h.lying;
        lent = word_true (λ _. None) d.session.held w (λ o f. tt) h.lent;
      };
    }

cancel_keeps : (d : RequestContext) (w : ℕ) (o : Option (Lease DeviceState)) → Keeps d (cancel_held d w o)
cancel_keeps d w None = still d d refl refl
cancel_keeps d w (Some l) = record { infos = refl; stays = λ h. record { lying = h.lying; lent = cancelled_word_true d.session.held w h.lent } }

-- a word that stands for another lease
word_keeps : (d new : RequestContext) (w : ℕ) (lease : Option (Lease DeviceState)) → new.registry ≡ d.registry → new.session.held ≡ on_word (λ _. lease) d.session.held w → (IsFaithfulLease (held_by d.session.held w) → IsFaithfulLease lease) → Keeps d new
word_keeps d new w lease registry held h =
    record {
      infos = ap (map info_at) registry;
      stays = λ t. record {
        lying = subst (AllByRecursion IsFaithfulPlace) (sym registry) t.lying;
        lent = subst (AllByRecursion IsFaithfulLease) (sym held) (word_true (λ _. lease) d.session.held w (λ o f. h (lease_at d.session.held w t.lent)) t.lent);
      };
    }

did_true : (strings : StringSize) (s : DeviceState) (n : ℕ) (kind : Kind) (value : WireValue) (r : Result (Value × Info) Code) → IsFaithful s → IsFaithful (did_set strings s n kind value r).1
did_true strings s n kind value (Ok given) h = h
did_true strings s n kind value (Err status) h = h

asked_true : (strings : StringSize) (s : DeviceState) (n : ℕ) (kind : Kind) (value : WireValue) (o : Option Value) → IsFaithful s → IsFaithful (set_asked strings s n kind value o).1
asked_true strings s n kind value None h = h
asked_true strings s n kind value (Some asked) h = did_true strings s n kind value (set_answer s n asked) h

device_true : (strings : StringSize) (s : DeviceState) (n : ℕ) (action : ControlAction) (kind : Kind) (value : WireValue) → IsFaithful s → IsFaithful (control_device strings s n action kind value).1
device_true strings s n GetValue kind value h = h
device_true strings s n SetValue kind value h = asked_true strings s n kind value (asked_at (slice_get (descriptors_of s.setup) n) kind value) h

control_true : (strings : StringSize) (o : Option (Lease DeviceState)) (n : ℕ) (action : ControlAction) (kind : Kind) (value : WireValue) → IsFaithfulLease o → IsFaithfulLease (control_lease strings o n action kind value).1
control_true strings None n action kind value h = tt
control_true strings (Some l) n action kind value h = device_true strings l.device n action kind value h

-- ---- START

frame_true : (s t : DeviceState) (r : Result Unit Code) → StartsFrame s r t → IsFaithful s → IsFaithful t
frame_true s t (Ok _) f h = subst IsFaithful (sym f.1) h
frame_true s t (Err code.Inval) f h = subst IsFaithful (sym f.1) (stopped_true s.phase s h)
frame_true s t (Err code.IoError) f h = failed_true s t f.1 h
frame_true s t (Err code.NoMem) f h = subst IsFaithful (sym f.1) (stopped_true s.phase s h)
frame_true s t (Err code.Good) f h = absurd f
frame_true s t (Err code.Unsupported) f h = absurd f
frame_true s t (Err code.Cancelled) f h = absurd f
frame_true s t (Err code.DeviceBusy) f h = absurd f
frame_true s t (Err code.Eof) f h = absurd f
frame_true s t (Err code.Jammed) f h = absurd f
frame_true s t (Err code.NoDocs) f h = absurd f
frame_true s t (Err code.CoverOpen) f h = absurd f
frame_true s t (Err code.AccessDenied) f h = absurd f

pages_true : (pages : List HeldPage) (s t : DeviceState) (r : Result Unit Code) → StartsOn pages s r t → IsFaithful s → IsFaithful t
pages_true [] s t r f h = subst IsFaithful (sym f.1) (stopped_true s.phase s h)
pages_true (page ∷ pages) s t r f h = frame_true s t r f h

start_in : (phase : Phase) (s t : DeviceState) (r : Result Unit Code) → StartsIn phase s r t → IsFaithful s → IsFaithful t
start_in (AtRest c) s t r f h = pages_true s.pages s t r f h
start_in (Between n) s t r f h = pages_true s.pages s t r f h
start_in (Reading pass given) s t r f h = same_true s t f.1 h

pub start_true : (s t : DeviceState) (r : Result Unit Code) → Starts s r t → IsFaithful s → IsFaithful t
start_true s t r f h = start_in s.phase s t r f h

lease_same : (o lease : Option (Lease DeviceState)) → lease ≡ o → IsFaithfulLease o → IsFaithfulLease lease
lease_same o lease e h = subst IsFaithfulLease (sym e) h

in_starts : (c : DataPhase) (port w : ℕ) (l : Lease DeviceState) (told : Result (Reply × DataPhase) NoMem) (lease : Option (Lease DeviceState)) → StartsHeldIn c port w l told lease → IsFaithful l.device → IsFaithfulLease lease
in_starts word.Quiet port w l told lease g h = lease_same (with_device l g.after) lease g.new_is (start_true l.device g.after g.answer g.starts h)
in_starts (word.Waiting v) port w l told lease g h = lease_same (Some l) lease g.1 h
in_starts (word.Streaming v) port w l told lease g h = lease_same (Some l) lease g.1 h
in_starts word.Ending port w l told lease g h = lease_same (Some l) lease g.1 h

starts_lease : (c : DataPhase) (port w : ℕ) (o : Option (Lease DeviceState)) (told : Result (Reply × DataPhase) NoMem) (lease : Option (Lease DeviceState)) → StartsLease c port w o told lease → IsFaithfulLease o → IsFaithfulLease lease
starts_lease c port w None told lease g h = lease_same None lease g.1 tt
starts_lease c port w (Some l) told lease g h = in_starts c port w l told lease g h

word_starts : (d : RequestContext) (w : ℕ) (told : Result (Reply × DataPhase) NoMem) (new : RequestContext) → StartsWord d w told new → Keeps d new
word_starts d w told new g =
    word_keeps d new w g.lease (ap (λ (t : RequestContext). t.registry) g.new_is) (ap (λ (t : RequestContext). t.session.held) g.new_is) (λ h. starts_lease d.session.transfer d.session.port w (held_by d.session.held w) told g.lease g.starts h)

-- ---- any request

free_keeps : (users : List Entry) (d : RequestContext) (q : Asked) (said : RequestAnswer) (new : RequestContext) → AnswersFree users d q said new → Keeps d new
free_keeps users d (requests.Init version user) said new g = still d new (ap (λ (t : RequestContext). t.registry) g.1) (ap (λ (t : RequestContext). t.session.held) g.1)
free_keeps users d (requests.Open name) said new g = open_keeps users d name (free_word d.session.held) (find_name name d.registry) said new g
free_keeps users d (requests.Close w) said new g = keeps_same d new (close_lease d w (held_by d.session.held w)) g.1 (close_keeps d w (held_by d.session.held w) refl)
free_keeps users d (requests.ControlOption w n action kind value) said new g =
    word_keeps d new w (control_lease d.session.strings (held_by d.session.held w) n action kind value).1 (ap (λ (t : RequestContext). t.registry) g.1) (ap (λ (t : RequestContext). t.session.held) g.1) (λ h. control_true d.session.strings (held_by d.session.held w) n action kind value h)
free_keeps users d (requests.Start w) said new g =
    let k = word_starts d w (Ok (g.reply, g.transfer)) g.held g.starts in
    keeps_same d new _ g.gives.1 (record { infos = k.infos; stays = λ h. let t = k.stays h in record { lying = t.lying; lent = t.lent } })
free_keeps users d (requests.Cancel w) said new g = keeps_same d new (cancel_held d w (held_by d.session.held w)) g.1 (cancel_keeps d w (held_by d.session.held w))
free_keeps users d q said new g = keeps_same d new d g.1 (still d d refl refl)

awaiting_keeps : (users : List Entry) (d : RequestContext) (awaited : AwaitedAuthorization) (q : Asked) (said : RequestAnswer) (new : RequestContext) → AnswersAwaiting users d awaited q said new → Keeps d new
awaiting_keeps users d awaited (requests.Authorize resource user password) said new g = keeps_same d new (reply_if_allowed g.allowed (without_awaited d) awaited.name).1 g.gives.1 (not_awaited_keeps d (reply_if_allowed g.allowed (without_awaited d) awaited.name).1 (answered_keeps g.allowed (without_awaited d) awaited.name))
awaiting_keeps users d awaited q said new g = keeps_same d new d g.1 (still d d refl refl)

greeted_keeps : (users : List Entry) (d : RequestContext) (a : Option AwaitedAuthorization) (q : Asked) (said : RequestAnswer) (new : RequestContext) → AnswersGreeted users d a q said new → Keeps d new
greeted_keeps users d None q said new g = free_keeps users d q said new g
greeted_keeps users d (Some awaited) q said new g = awaiting_keeps users d awaited q said new g

first_keeps : (d : RequestContext) (q : Asked) → Keeps d (first_answer d q).1
first_keeps d (requests.Init version user) = still d (first_answer d (requests.Init version user)).1 refl refl
first_keeps d q = still d d refl refl

by_keeps : (users : List Entry) (d : RequestContext) (b : Bool) (q : Asked) (said : RequestAnswer) (new : RequestContext) → AnswersBy b users d q said new → Keeps d new
by_keeps users d true q said new g = greeted_keeps users d d.session.awaited q said new g
by_keeps users d false q said new g = keeps_same d new (first_answer d q).1 g.1 (first_keeps d q)

pub answers_keep : (users : List Entry) (d : RequestContext) (q : Asked) (said : RequestAnswer) (new : RequestContext) → Answers users d q said new → Keeps d new
answers_keep users d q said new g = by_keeps users d d.session.greeted q said new g

-- ---- out of memory

falters_free : (d : RequestContext) (q : Asked) (new : RequestContext) → OutOfMemoryFree d q new → Keeps d new
falters_free d (requests.Init version user) new g = absurd g
falters_free d (requests.Open name) new (inl g) = keeps_same d new d g (still d d refl refl)
falters_free d (requests.Open name) new (inr g) = still d new (ap (λ (t : RequestContext). t.registry) g.3) (ap (λ (t : RequestContext). t.session.held) g.3)
falters_free d (requests.Close w) new g = absurd g
falters_free d (requests.ControlOption w n action kind value) new (inl g) = keeps_same d new d g (still d d refl refl)
falters_free d (requests.ControlOption w n action kind value) new (inr g) =
    word_keeps d new w (control_lease d.session.strings (held_by d.session.held w) n action kind value).1 (ap (λ (t : RequestContext). t.registry) g) (ap (λ (t : RequestContext). t.session.held) g) (λ h. control_true d.session.strings (held_by d.session.held w) n action kind value h)
falters_free d (requests.GetParameters w) new g = absurd g
falters_free d (requests.Start w) new g = word_starts d w (Err (record {})) new g
falters_free d (requests.Cancel w) new g = absurd g
falters_free d (requests.Authorize resource user password) new g = absurd g
falters_free d requests.Exit new g = absurd g
falters_free d q new g = keeps_same d new d g (still d d refl refl)

falters_greeted : (d : RequestContext) (a : Option AwaitedAuthorization) (q : Asked) (new : RequestContext) → OutOfMemoryGreeted d a q new → Keeps d new
falters_greeted d None q new g = falters_free d q new g
falters_greeted d (Some awaited) q new g = absurd g

falters_by : (d : RequestContext) (b : Bool) (q : Asked) (new : RequestContext) → OutOfMemoryBy b d q new → Keeps d new
falters_by d true q new g = falters_greeted d d.session.awaited q new g
falters_by d false q new g = absurd g

pub falters_keep : (users : List Entry) (d : RequestContext) (q : Asked) (new : RequestContext) → RequestOutOfMemory users d q new → Keeps d new
falters_keep users d q new (Under g) = falters_by d d.session.greeted q new g
falters_keep users d q new (All said g) = answers_keep users d q said new g

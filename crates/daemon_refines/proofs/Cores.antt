-- A piece for one of a daemon's sessions.
use Rattle.std.proofs.Common.{◌≡◌, ◌≢◌, ◌∙◌, ℕ, List, [], ◌∷◌, Bool, true, false, Option, Some, None, refl, sym, ap, subst}
use Rattle.std.specs.Prelude.{◌==◌, if◌then◌else◌}
use Rattle.std.specs.Option.{option_and_then}
use Rattle.rand_chacha.specs.ChaCha.{ChaCha}
use Rattle.md5_auth.specs.declared.users.Entry.{Entry}
use Rattle.device_api.specs.State.{DeviceState}
use Rattle.dispatch.specs.Table.{Table}
use Rattle.saned_requests.specs.declared.session.Session.{Session as RequestSession}
use Rattle.saned_requests.specs.RequestAnswers.{RequestContext}
use Rattle.saned_core.specs.declared.session_slot.Fed.{Fed}
use Rattle.saned_core.specs.declared.session_slot.Fed.TheVariants.{Standing, Over, Starved}
use Rattle.saned_core.specs.declared.session_slot.SessionSlot.{SessionSlot}
use Rattle.saned_core.specs.DaemonStates.{Core, is_slot_number, on_session_slot, session_slot_of, session_in, session_of, slot_if_open}
use Rattle.saned_core.specs.Feeding.{input_in, core_context}
use Rattle.saned_core.specs.Inside.{FeedsIn, slot_after_feed, registry_after, slot_or_none_after_feed}
use Rattle.saned_core.proofs.Apart.{apart}
use Rattle.saned_core.proofs.FeedCases.{feeds_in}
use Rattle.system_model.specs.Devices.{Make}
use Rattle.system_model.specs.AbstractDevices.{AbstractDevice}
use Rattle.system_model.specs.AbstractSessions.{AbstractSession}
use Rattle.daemon_refines.specs.ContextRefinement.{ContextRefines, TableRefines}
use Rattle.daemon_refines.specs.OtherSessions.{LeavesOthers}
use Rattle.daemon_refines.specs.Feeds.{IsSessionBegun, IsFed}
use Rattle.daemon_refines.specs.Cores.{CoreFed, CoreFeeds, SessionRefines, RefinesAfterFeed, devices_behind}
use Rattle.daemon_refines.proofs.Changes.{Held}
use Rattle.daemon_refines.proofs.FeedRefines.{feeds_agree}
use Rattle.daemon_refines.proofs.Moved.{unsome}
use Rattle.daemon_refines.proofs.OtherSessions.{others_stand}

-- ---- slots

standing_number : (o : Option (RequestSession DeviceState)) (replies : List ℕ) (slot new : SessionSlot DeviceState) → slot_if_open o replies slot ≡ Some new → new.number ≡ slot.number
standing_number (Some session) replies slot new e = ap (λ (x : SessionSlot DeviceState). x.number) (sym (unsome slot new e))
standing_number None [] slot new e = absurd (let clash : None ≡ Some new = e in cc)
standing_number None (b ∷ bytes) slot new e = ap (λ (x : SessionSlot DeviceState). x.number) (sym (unsome slot new e))

fed_number : (fed : Fed) (session : RequestSession DeviceState) (rest text : List ℕ) (slot : SessionSlot DeviceState) → (slot_after_feed fed session rest text slot).number ≡ slot.number
fed_number Standing session rest text slot = refl
fed_number Over session rest text slot = refl
fed_number Starved session rest text slot = refl

keeps_number : (fed : Fed) (context : RequestContext) (rest text : List ℕ) (slot new : SessionSlot DeviceState) → slot_or_none_after_feed fed context rest text slot ≡ Some new → new.number ≡ slot.number
keeps_number fed context rest text slot new e =
    let now = slot_after_feed fed context.session rest text slot in
    standing_number now.session now.replies now new e ∙ fed_number fed context.session rest text slot

-- the slot of a number, once it became another
own_at : (f : SessionSlot DeviceState → Option (SessionSlot DeviceState)) (n : ℕ) (x : Option (SessionSlot DeviceState)) (slots : List (Option (SessionSlot DeviceState))) (slot new : SessionSlot DeviceState) (b : Bool) → is_slot_number n x ≡ b → (if b then x else session_slot_of slots n) ≡ Some slot → f slot ≡ Some new → new.number ≡ slot.number →
    (session_slot_of slots n ≡ Some slot → session_slot_of (on_session_slot f n slots) n ≡ Some new) → session_slot_of (if b then option_and_then f x ∷ slots else x ∷ on_session_slot f n slots) n ≡ Some new
unfolding session_slot_of
own_at f n x slots slot new true e is becomes same more =
    let now : option_and_then f x ≡ Some new = ap (option_and_then f) is ∙ becomes in
    let numbered : is_slot_number n (Some new) ≡ true = ap (λ (k : ℕ). k == n) same ∙ sym (ap (is_slot_number n) is) ∙ e in
    rw (now, numbered) refl
own_at f n x slots slot new false e is becomes same more = rw e (more is)

pub own_slot : (f : SessionSlot DeviceState → Option (SessionSlot DeviceState)) (n : ℕ) (slots : List (Option (SessionSlot DeviceState))) (slot new : SessionSlot DeviceState) → session_slot_of slots n ≡ Some slot → f slot ≡ Some new → new.number ≡ slot.number → session_slot_of (on_session_slot f n slots) n ≡ Some new
unfolding session_slot_of on_session_slot
own_slot f n [] slot new is becomes same = absurd (let clash : None ≡ Some slot = is in cc)
own_slot f n (x ∷ slots) slot new is becomes same = own_at f n x slots slot new (is_slot_number n x) refl is becomes same (λ there. own_slot f n slots slot new there becomes same)

-- the session that goes on
going_on : (o : Option (SessionSlot DeviceState)) (session : RequestSession DeviceState) (slots : List (Option (SessionSlot DeviceState))) (n : ℕ) (context : RequestContext) (rest text : List ℕ) → session_slot_of slots n ≡ o → session_in o ≡ Some session → session_in (session_slot_of (on_session_slot (slot_or_none_after_feed Standing context rest text) n slots) n) ≡ Some context.session
going_on None session slots n context rest text e is = absurd (let clash : None ≡ Some session = is in cc)
going_on (Some slot) session slots n context rest text e is =
    ap session_in (own_slot (slot_or_none_after_feed Standing context rest text) n slots slot (slot_after_feed Standing context.session rest text slot) e refl refl)

-- ---- the others

-- what the session of client i shows behind the piece
pub record Behind (i : ℕ) (make : ℕ → Make) (registry now : Table) (table new : ℕ → AbstractDevice) : Type 0 where
  pub held : Held
  pub shows : TableRefines i make held now new
  pub others : LeavesOthers i registry now table new

behind : (fed : Fed) (i : ℕ) (make : ℕ → Make) (users : List Entry) (d : RequestContext) (table : ℕ → AbstractDevice) (s : AbstractSession) (old piece rest : List ℕ) (new : RequestContext) → (ran : IsFed fed i make users d table s old piece rest new) →
    Behind i make d.registry (registry_after fed new) table (devices_behind fed i make users d table s old piece rest new ran)
behind Standing i make users d table s old piece rest new ran = record { held = new.session.held; shows = ran.2.shows.devices; others = ran.2.others }
behind Over i make users d table s old piece rest new ran = record { held = []; shows = ran.3.back; others = ran.3.others }
behind Starved i make users d table s old piece rest new ran = record { held = []; shows = ran.3.back; others = ran.3.others }

-- another session stands as it stood
pub stands_as : (i j m : ℕ) (make : ℕ → Make) (old new : Core) (table devices : ℕ → AbstractDevice) (u : AbstractSession) → j ≢ i → session_of new m ≡ session_of old m → Behind i make old.registry new.registry table devices → SessionRefines j make old m table u → SessionRefines j make new m devices u
stands_as i j m make old new table devices u n same b h =
    record {
      session = h.session;
      stands = same ∙ h.stands;
      shows = others_stand i j make b.held (core_context old h.session) new.registry new.stream table devices u (λ e. n (sym e)) b.shows b.others h.shows;
      begun = h.begun;
    }

-- ---- both

own_behind : (fed : Fed) (i : ℕ) (make : ℕ → Make) (n : ℕ) (old new : Core) (session : RequestSession DeviceState) (table : ℕ → AbstractDevice) (s : AbstractSession) (piece rest text : List ℕ) (context : RequestContext) → session_of old n ≡ Some session → new.slots ≡ on_session_slot (slot_or_none_after_feed fed context rest text) n old.slots →
    new.registry ≡ registry_after fed context → new.stream ≡ context.stream → (ran : IsFed fed i make old.users (core_context old session) table s (input_in (session_slot_of old.slots n)) piece rest context) →
    RefinesAfterFeed fed i make new n (devices_behind fed i make old.users (core_context old session) table s (input_in (session_slot_of old.slots n)) piece rest context ran)
own_behind Standing i make n old new session table s piece rest text context stands slots registry stream ran = (
  ran.2.session,
  record {
    session = context.session;
    stands = ap (λ (x : List (Option (SessionSlot DeviceState))). session_in (session_slot_of x n)) slots ∙ going_on (session_slot_of old.slots n) session old.slots n context rest text refl stands;
    shows = subst (λ (t : Table). ContextRefines i make (record { session = context.session; registry = t; stream = new.stream }) ran.2.devices ran.2.session) (sym registry)
        (subst (λ (c : ChaCha). ContextRefines i make (record { session = context.session; registry = context.registry; stream = c }) ran.2.devices ran.2.session) (sym stream) ran.2.shows);
    begun = ran.2.begun;
  },
)
own_behind Over i make n old new session table s piece rest text context stands slots registry stream ran = subst (λ (t : Table). TableRefines i make [] t (devices_behind Over i make old.users (core_context old session) table s (input_in (session_slot_of old.slots n)) piece rest context ran)) (sym registry) ran.3.back
own_behind Starved i make n old new session table s piece rest text context stands slots registry stream ran = subst (λ (t : Table). TableRefines i make [] t (devices_behind Starved i make old.users (core_context old session) table s (input_in (session_slot_of old.slots n)) piece rest context ran)) (sym registry) ran.3.back

fed_in : (i : ℕ) (make : ℕ → Make) (n : ℕ) (old new : Core) (session : RequestSession DeviceState) (table : ℕ → AbstractDevice) (s : AbstractSession) (piece : List ℕ) (fed : Fed) → session_of old n ≡ Some session → ContextRefines i make (core_context old session) table s → IsSessionBegun (core_context old session) →
    FeedsIn session old.users n (input_in (session_slot_of old.slots n)) old.slots old.registry old.stream piece fed new.slots new.registry new.stream → CoreFed i make n old session table s piece fed new
fed_in i make n old new session table s piece fed stands shows begun g =
    let ran = feeds_agree i make old.users (core_context old session) table s (input_in (session_slot_of old.slots n)) piece g.rest g.text fed g.context shows begun g.feeds in
    let devices = devices_behind fed i make old.users (core_context old session) table s (input_in (session_slot_of old.slots n)) piece g.rest g.context ran in
    let b = behind fed i make old.users (core_context old session) table s (input_in (session_slot_of old.slots n)) piece g.rest g.context ran in
    record {
      context = g.context;
      rest = g.rest;
      ran = ran;
      own = own_behind fed i make n old new session table s piece g.rest g.text g.context stands g.slots_is g.registry_is g.stream_is ran;
      others = λ j m u apart_i apart_n h.
          let same : session_of new m ≡ session_of old m = ap (λ (x : List (Option (SessionSlot DeviceState))). session_in (session_slot_of x m)) g.slots_is ∙ ap session_in (apart old.slots (slot_or_none_after_feed fed g.context g.rest g.text) n m (keeps_number fed g.context g.rest g.text) (λ e. apart_n (sym e))) in
          stands_as i j m make old new table devices u apart_i same (subst (λ (t : Table). Behind i make old.registry t table devices) (sym g.registry_is) b) h;
    }

pub core_feeds : CoreFeeds
core_feeds i make n old table s piece fed new stands g =
    fed_in i make n old new stands.session table s piece fed stands.stands stands.shows stands.begun (feeds_in n old piece fed new stands.session stands.stands g)

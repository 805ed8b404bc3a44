-- A piece of a session's bytes does to the other daemon what it does to the one.
use Rattle.std.proofs.Common.{◌≡◌, ◌∙◌, ℕ, List, Option, Some, None, refl, sym, ap, subst}
use Rattle.rand_chacha.specs.ChaCha.{ChaCha}
use Rattle.md5_auth.specs.declared.users.Entry.{Entry}
use Rattle.device_api.specs.State.{DeviceState}
use Rattle.dispatch.specs.Table.{Table}
use Rattle.saned_requests.specs.declared.session.Session.{Session}
use Rattle.saned_requests.specs.RequestAnswers.{RequestContext}
use Rattle.saned_core.specs.declared.session_slot.Fed.{Fed}
use Rattle.saned_core.specs.DaemonStates.{Core, on_session_slot, session_in, session_of, session_slot_of}
use Rattle.saned_core.specs.Feeding.{Feeds, input_in}
use Rattle.saned_core.specs.Inside.{FeedsContext, FeedsIn, registry_after, slot_or_none_after_feed}
use Rattle.saned_core.proofs.DaemonLimits.{limits_fed}
use Rattle.saned_core.proofs.FeedCases.{feeds_from, feeds_in, feeds_none}
use Rattle.in_flight.specs.InFlight.{CanFollow, DiffersInFlight, FeedsAreAlike, SlotDiffersInFlight, undelivered_after_feed, undelivered_with}
use Rattle.in_flight.proofs.Alike.{fed_alike, keeps_fed}
use Rattle.in_flight.proofs.Calls.{Flying, by_number, others_changed, own_changed}
use Rattle.in_flight.proofs.Slots.{Slots}

-- ---- a session that goes on

same_context : (fed : Fed) (u v : List Entry) (s : Session DeviceState) (r q : Table) (c b : ChaCha) (i j piece rest : List ℕ) (context : RequestContext) (text : List ℕ) → v ≡ u → q ≡ r → b ≡ c → j ≡ i
    → FeedsContext fed (record { users = u; context = record { session = s; registry = r; stream = c }; before = i; piece = piece }) (record { context = context; rest = rest; text = text }) → FeedsContext fed (record { users = v; context = record { session = s; registry = q; stream = b }; before = j; piece = piece }) (record { context = context; rest = rest; text = text })
same_context fed u v s r q c b i j piece rest context text users registry stream input f = rw (users, registry, stream, input) f

going_on : (flying : Flying) (d e d_new : Core) (n : ℕ) (piece : List ℕ) (fed : Fed) (z : Session DeviceState) → session_in (session_slot_of d.slots n) ≡ Some z → DiffersInFlight flying d e → Feeds n d piece fed d_new
    → FeedsIn z d.users n (input_in (session_slot_of d.slots n)) d.slots d.registry d.stream piece fed d_new.slots d_new.registry d_new.stream
    → CanFollow (undelivered_with n (undelivered_after_feed fed (flying n)) flying) d_new (λ e_new. Feeds n e piece fed e_new)
going_on flying d e d_new n piece fed z at h fed_here f =
    let change = slot_or_none_after_feed fed f.context f.rest f.text in
    let keeps = keeps_fed fed f.context f.rest f.text in
    let bytes = undelivered_after_feed fed (flying n) in
    let there : Core = record e { slots = on_session_slot change n e.slots; registry = registry_after fed f.context; stream = f.context.stream } in
    let inside : FeedsIn z e.users n (input_in (session_slot_of e.slots n)) e.slots e.registry e.stream piece fed there.slots there.registry there.stream = record {
      context = f.context;
      rest = f.rest;
      text = f.text;
      feeds = same_context fed d.users e.users z d.registry e.registry d.stream e.stream (input_in (session_slot_of d.slots n)) (input_in (session_slot_of e.slots n)) piece f.rest f.context f.text h.users h.registry h.stream ((h.sessions n).input z at) f.feeds;
      slots_is = refl;
      registry_is = refl;
      stream_is = refl;
    } in
    let follows : Feeds n e piece fed there = feeds_from n e piece fed there z ((h.sessions n).session ∙ at) inside refl in
    let both : (m : ℕ) → SlotDiffersInFlight (undelivered_with n bytes flying m) (session_slot_of (on_session_slot change n d.slots) m) (session_slot_of there.slots m) =
    by_number n bytes flying (on_session_slot change n d.slots) there.slots
    (own_changed change n bytes d e keeps h.limits h.limits_there (fed_alike fed f.context f.rest f.text (flying n) (session_slot_of d.slots n) (session_slot_of e.slots n) z at (h.sessions n)))
    (others_changed change n flying d e keeps h) in
    record {
      e_new = there;
      call = follows;
      differs = record {
        registry = sym f.registry_is;
        users = h.users ∙ sym (ap (λ (x : Core). x.users) fed_here.others.rest);
        strings = h.strings ∙ sym (ap (λ (x : Core). x.strings) fed_here.others.rest);
        stream = sym f.stream_is;
        opened = h.opened ∙ sym (ap (λ (x : Core). x.opened) fed_here.others.rest);
        sessions = subst (λ (l : Slots). (m : ℕ) → SlotDiffersInFlight (undelivered_with n bytes flying m) (session_slot_of l m) (session_slot_of there.slots m)) (sym f.slots_is) both;
        limits = limits_fed n d piece fed d_new fed_here h.limits;
        limits_there = limits_fed n e piece fed there follows h.limits_there;
      };
    }

-- ---- one that is over

is_over : (flying : Flying) (d e d_new : Core) (n : ℕ) (piece : List ℕ) (fed : Fed) → session_of d n ≡ None → DiffersInFlight flying d e → Feeds n d piece fed d_new
    → CanFollow (undelivered_with n (undelivered_after_feed fed (flying n)) flying) d_new (λ e_new. Feeds n e piece fed e_new)
is_over flying d e d_new n piece fed at h fed_here =
    let still = fed_here.idle at in
    let bytes = undelivered_after_feed fed (flying n) in
    let unchanged : bytes ≡ flying n = ap (λ (x : Fed). undelivered_after_feed x (flying n)) still.0 in
    let same : DiffersInFlight flying d_new e = subst (λ (x : Core). DiffersInFlight flying x e) (sym still.1) h in
    record {
      e_new = e;
      call = subst (λ (x : Fed). Feeds n e piece x e) (sym still.0) (feeds_none n e piece ((h.sessions n).session ∙ at));
      differs = record {
        registry = same.registry;
        users = same.users;
        strings = same.strings;
        stream = same.stream;
        opened = same.opened;
        sessions = by_number n bytes flying d_new.slots e.slots (subst (λ (l : List ℕ). SlotDiffersInFlight l (session_slot_of d_new.slots n) (session_slot_of e.slots n)) (sym unchanged) (same.sessions n)) (λ m off. same.sessions m);
        limits = same.limits;
        limits_there = same.limits_there;
      };
    }

feeds_by : (o : Option (Session DeviceState)) (flying : Flying) (d e d_new : Core) (n : ℕ) (piece : List ℕ) (fed : Fed) → session_of d n ≡ o → DiffersInFlight flying d e → Feeds n d piece fed d_new
    → CanFollow (undelivered_with n (undelivered_after_feed fed (flying n)) flying) d_new (λ e_new. Feeds n e piece fed e_new)
feeds_by None flying d e d_new n piece fed at h fed_here = is_over flying d e d_new n piece fed at h fed_here
feeds_by (Some z) flying d e d_new n piece fed at h fed_here = going_on flying d e d_new n piece fed z at h fed_here (feeds_in n d piece fed d_new z at fed_here)

pub feeds_alike : FeedsAreAlike
feeds_alike flying d e d_new n piece fed h fed_here = feeds_by (session_of d n) flying d e d_new n piece fed refl h fed_here

-- What `feed` promises case by case is what becomes of the session that was fed, and the other way round.
use Rattle.std.proofs.Common.{◌≡◌, ◌⊎◌, ℕ, List, [], Option, Some, None, inl, inr, refl, ap, sym, ◌∙◌, subst}
use Rattle.rand_chacha.specs.ChaCha.{ChaCha}
use Rattle.device_api.specs.State.{DeviceState}
use Rattle.dispatch.specs.Table.{Table}
use Rattle.saned_requests.specs.declared.session.Session.{Session}
use Rattle.saned_core.specs.declared.session_slot.SessionSlot.{SessionSlot}
use Rattle.saned_core.specs.declared.session_slot.Fed.{Fed}
use Rattle.saned_core.specs.declared.session_slot.Fed.TheVariants.{Standing, Over, Starved}
use Rattle.saned_core.specs.DaemonStates.{Core, session_of, session_slot_of}
use Rattle.saned_core.specs.Feeding.{EndsWithin, Feeds, HasNoSession, KeepsOtherSessions, input_of}
use Rattle.saned_core.specs.Inside.{FeedsIf, FeedsIn, slot_or_none_after_feed}
use Rattle.saned_core.proofs.Apart.{apart, feed_keeps}

-- ---- a session that goes on

abbrev pub FeedsHere : Session DeviceState → ℕ → Core → List ℕ → Fed → Core → Type 0
FeedsHere s n d piece fed e = FeedsIn s d.users n (input_of d n) d.slots d.registry d.stream piece fed e.slots e.registry e.stream

same_session : (o : Option (Session DeviceState)) (s t : Session DeviceState) → o ≡ Some s → o ≡ Some t → s ≡ t
same_session o s t e h = let both : Some s ≡ Some t = sym e ∙ h in cc

ended_in : (n : ℕ) (d : Core) (piece : List ℕ) (e : Core) (s : Session DeviceState) → session_of d n ≡ Some s → HasNoSession d n ⊎ EndsWithin n d piece e → FeedsHere s n d piece Over e
ended_in n d piece e s at (inl none) = absurd (let clash : None ≡ Some s = sym none ∙ at in cc)
ended_in n d piece e s at (inr w) =
    subst (λ (x : Session DeviceState). FeedsHere x n d piece Over e) (same_session (session_of d n) w.session s w.stood at)
    (record { context = w.context; rest = []; text = w.text; feeds = w.feeds; slots_is = w.slots; registry_is = w.registry; stream_is = w.stream })

pub feeds_in : (n : ℕ) (d : Core) (piece : List ℕ) (fed : Fed) (e : Core) (s : Session DeviceState) → session_of d n ≡ Some s → Feeds n d piece fed e → FeedsHere s n d piece fed e
feeds_in n d piece Standing e s at f =
    let w = f.standing refl in
    subst (λ (x : Session DeviceState). FeedsHere x n d piece Standing e) (same_session (session_of d n) w.session s w.stood at)
    (record { context = w.now.context; rest = w.now.rest; text = w.now.text; feeds = w.feeds; slots_is = w.slots; registry_is = w.registry; stream_is = w.stream })
feeds_in n d piece Over e s at f = ended_in n d piece e s at (f.over refl)
feeds_in n d piece Starved e s at f =
    let w = f.out_of_memory refl in
    subst (λ (x : Session DeviceState). FeedsHere x n d piece Starved e) (same_session (session_of d n) w.session s w.stood at)
    (record { context = w.context; rest = []; text = []; feeds = w.feeds; slots_is = w.slots; registry_is = w.registry; stream_is = w.stream })

others_kept : (n : ℕ) (d : Core) (piece : List ℕ) (fed : Fed) (e : Core) (s : Session DeviceState) → FeedsHere s n d piece fed e → e ≡ record d { slots = e.slots; registry = e.registry; stream = e.stream } → KeepsOtherSessions n d e
others_kept n d piece fed e s g r = record {
  slots = λ m h. ap (λ (l : List _). session_slot_of l m) g.slots_is ∙ apart d.slots (slot_or_none_after_feed fed g.context g.rest g.text) n m (feed_keeps fed g.context g.rest g.text) (λ q. h (sym q));
  rest = r;
}

pub feeds_from : (n : ℕ) (d : Core) (piece : List ℕ) (fed : Fed) (e : Core) (s : Session DeviceState) → session_of d n ≡ Some s → FeedsHere s n d piece fed e → e ≡ record d { slots = e.slots; registry = e.registry; stream = e.stream } → Feeds n d piece fed e
feeds_from n d piece Standing e s at g r = record {
  idle = λ none. absurd (let clash : None ≡ Some s = sym none ∙ at in cc);
  standing = λ q. record { session = s; stood = at; now = record { context = g.context; rest = g.rest; text = g.text }; feeds = g.feeds; slots = g.slots_is; registry = g.registry_is; stream = g.stream_is };
  over = λ q. absurd (cc);
  out_of_memory = λ q. absurd (cc);
  others = others_kept n d piece Standing e s g r;
}
feeds_from n d piece Over e s at g r = record {
  idle = λ none. absurd (let clash : None ≡ Some s = sym none ∙ at in cc);
  standing = λ q. absurd (cc);
  over = λ q. inr (record { session = s; stood = at; context = g.context; text = g.text; feeds = g.feeds; slots = g.slots_is; registry = g.registry_is; stream = g.stream_is });
  out_of_memory = λ q. absurd (cc);
  others = others_kept n d piece Over e s g r;
}
feeds_from n d piece Starved e s at g r = record {
  idle = λ none. absurd (let clash : None ≡ Some s = sym none ∙ at in cc);
  standing = λ q. absurd (cc);
  over = λ q. absurd (cc);
  out_of_memory = λ q. record { session = s; stood = at; context = g.context; feeds = g.feeds; slots = g.slots_is; registry = g.registry_is; stream = g.stream_is };
  others = others_kept n d piece Starved e s g r;
}

-- ---- one that is over, or was never opened

pub feeds_none : (n : ℕ) (d : Core) (piece : List ℕ) → HasNoSession d n → Feeds n d piece Over d
feeds_none n d piece none = record {
  idle = λ h. (refl, refl);
  standing = λ q. absurd (cc);
  over = λ q. inl none;
  out_of_memory = λ q. absurd (cc);
  others = record { slots = λ m h. refl; rest = refl };
}

-- ---- whichever it is

abbrev FeedsBy : Option (Session DeviceState) → ℕ → Core → List ℕ → Fed → Core → Type 0
FeedsBy o n d piece fed e = FeedsIf o d.users n (input_of d n) d.slots d.registry d.stream piece fed e.slots e.registry e.stream

same_core : (d e : Core) → e.slots ≡ d.slots → e.registry ≡ d.registry → e.stream ≡ d.stream → record d { slots = e.slots; registry = e.registry; stream = e.stream } ≡ d
same_core d e a b c =
    ap (λ (x : List (Option (SessionSlot DeviceState))). let y : Core = record d { slots = x; registry = e.registry; stream = e.stream } in y) a
    ∙ (ap (λ (x : Table). let y : Core = record d { registry = x; stream = e.stream } in y) b ∙ ap (λ (x : ChaCha). let y : Core = record d { stream = x } in y) c)

feeds_by : (o : Option (Session DeviceState)) (n : ℕ) (d : Core) (piece : List ℕ) (fed : Fed) (e : Core) → session_of d n ≡ o → FeedsBy o n d piece fed e → e ≡ record d { slots = e.slots; registry = e.registry; stream = e.stream } → Feeds n d piece fed e
feeds_by None n d piece fed e at g r =
    subst (λ (x : Core). Feeds n d piece fed x) (sym (r ∙ same_core d e g.1 g.2 g.3))
    (subst (λ (x : Fed). Feeds n d piece x d) (sym g.0) (feeds_none n d piece at))
feeds_by (Some s) n d piece fed e at g r = feeds_from n d piece fed e s at g r

pub feeds_among : (n : ℕ) (d : Core) (piece : List ℕ) (fed : Fed) (e : Core) → FeedsBy (session_of d n) n d piece fed e → e ≡ record d { slots = e.slots; registry = e.registry; stream = e.stream } → Feeds n d piece fed e
feeds_among n d piece fed e g r = feeds_by (session_of d n) n d piece fed e refl g r

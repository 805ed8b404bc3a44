-- Single actions of a session that stands.
use Rattle.std.proofs.Common.{◌≡◌, ◌≢◌, ◌≤◌, ◌⊎◌, inl, inr, ℕ, ◌+◌, ◌-◌, Bool, true, false, ◌||◌, cond, Option, None, Some, List, [], ◌∷◌, ◌++◌, length, take, drop, refl, sym, ap, ◌∙◌, subst, append_assoc, append-nil, arith}
use Rattle.std.proofs.lemmas.List.{length-take-le, take-append-drop}
use Rattle.std.proofs.Math.Dec.{eqb}
use Rattle.std.proofs.lemmas.Bool.{eq-eqb, eqb-true, or_left, or_right, or_from}
use Rattle.saned_core.specs.DaemonStates.{Core}
use Rattle.saned_core.specs.declared.session_slot.Fed.{Fed}
use Rattle.saned_serve.specs.declared.sockets.Got.{Got}
use Rattle.saned_serve.specs.declared.sockets.Got.TheVariants.{Moved, Nothing, Lost}
use Rattle.saned_serve.specs.ConnectionTraces.{ConnectionTrace, IsTrace, MovesWithin, after_read, after_write, bytes_moved, trace_bytes_read, trace_bytes_written, lost_in}
use Rattle.saned_serve.specs.ConnectionTraces.ConnectionCall.{Read, Write}
use Rattle.saned_serve.specs.ListenerTraces.{ListenerTrace, IsForgotten}
use Rattle.saned_serve.specs.SessionActions.{SessionAction, ActsOn, makes_progress, leaves, opens_session, ends_session}
use Rattle.saned_serve.specs.SessionActions.SessionAction.{Opens, Hears, Feed, Forgets, Take, Says, Looks, Misses, Connect, Turn, Shows, Lose, HangsUp, Leaves}
use Rattle.saned_serve.specs.Journal.{LoopAction, SessionProjection, empty_projection, no_bytes, concerns, projection_after, projection_after_action, projection_of, MayDo, listener_trace_act, JournalLeads, Tally, tally_of, after_tally, has_stopped, has_asked, open_sessions, MayBeLeft}
use Rattle.saned_serve.specs.Inside.{Extends, tally_with, TurnPhase, IsAt, ImageTraceMatchesIn, LinkMatches, HasGoneOn, JournalGoesOn, Attends, session_turn}
use Rattle.saned_serve.specs.Journal.LoopAction.{Of}
use Rattle.saned_serve.specs.Inside.TurnPhase.{Due, Filled, Heard, Ready, Spoken}
use Rattle.saned_serve.specs.declared.link.SessionLink.{SessionLink}

pub extends_then : (past mid journal : List LoopAction) → Extends past mid → Extends mid journal → Extends past journal
extends_then past mid journal first then = (then.0 ++ first.0, then.1 ∙ ap (λ xs. then.0 ++ xs) first.1 ∙ sym (append_assoc then.0 first.0 past))

pub life_at : (id : ℕ) (action : LoopAction) (past : List LoopAction) → concerns action id ≡ true → projection_of id (action ∷ past) ≡ projection_after_action action (projection_of id past)
unfolding projection_of
life_at id action past e = ap (λ b. cond b (projection_after_action action (projection_of id past)) (projection_of id past)) e

pub life_off : (id : ℕ) (action : LoopAction) (past : List LoopAction) → concerns action id ≡ false → projection_of id (action ∷ past) ≡ projection_of id past
unfolding projection_of
life_off id action past e = ap (λ b. cond b (projection_after_action action (projection_of id past)) (projection_of id past)) e

eqb_same : (a b : ℕ) (v : Bool) → eqb a b ≡ v → a ≢ b → v ≡ false
eqb_same a b true e h = absurd (h (eqb-true a b e))
eqb_same a b false e h = refl

pub eqb_off : (a b : ℕ) → a ≢ b → eqb a b ≡ false
eqb_off a b h = eqb_same a b (eqb a b) refl h

pub or_false : (b : Bool) → (b || false) ≡ b
or_false true = refl
or_false false = refl

or_assoc : (a b c : Bool) → ((a || b) || c) ≡ (a || (b || c))
or_assoc true b c = refl
or_assoc false b c = refl

pub not_both : {b : Bool} → b ≡ true → b ≡ false → ⊥
not_both t f = let wrong : true ≡ false = sym t ∙ f in cc

pub counted_then : (a b : ℕ) (x y : Bool) (t : Tally) → tally_with b y (tally_with a x t) ≡ tally_with (a + b) (x || y) t
counted_then a b x y t =
    let sum : t.left + a + b ≡ t.left + (a + b) = omega arith in
    ap (λ n. record t { left = n; stir = (t.stir || x) || y }) sum ∙ ap (λ v. record t { left = t.left + (a + b); stir = v }) (or_assoc t.stir x y)

-- a session that does not come
not_come : {A : Type 0} (act : SessionAction) → opens_session act ≡ false → opens_session act ≡ true → A
not_come act plain comes = absurd (not_both comes plain)

-- who stands, once sessions left
pub fewer_then : (n a b : ℕ) → (n - a) - b ≡ n - (a + b)
fewer_then n a b = omega arith

pub counted_none : (t : Tally) → t ≡ tally_with 0 false t
counted_none t =
    let sum : t.left ≡ t.left + 0 = omega arith in
    ap (λ n. record t { left = n }) sum ∙ ap (λ v. record t { left = t.left + 0; stir = v }) (sym (or_false t.stir))

-- ---- one act

-- what an act does to the count of sessions
pub opened_by : (act : SessionAction) (d e : Core) (id : ℕ) → opens_session act ≡ false → ActsOn id d act e → e.opened ≡ d.opened
opened_by (Opens port) d e id plain does = cc
opened_by (Hears got room bytes) d e id plain does = ap (λ (c : Core). c.opened) does
opened_by (Feed piece fed begins) d e id plain does = ap (λ (c : Core). c.opened) does.0.others.rest
opened_by (Forgets told port) d e id plain does = ap (λ (c : Core). c.opened) does
opened_by (Take room bytes) d e id plain does = ap (λ (c : Core). c.opened) does.after
opened_by (Says got bytes) d e id plain does = ap (λ (c : Core). c.opened) does
opened_by (Looks frame) d e id plain does = ap (λ (c : Core). c.opened) does.1
opened_by (Misses port) d e id plain does = ap (λ (c : Core). c.opened) does.1
opened_by (Connect port) d e id plain does = ap (λ (c : Core). c.opened) does.after
opened_by (Turn room step bytes) d e id plain does = ap (λ (c : Core). c.opened) does.turns.others
opened_by (Shows got bytes) d e id plain does = ap (λ (c : Core). c.opened) does
opened_by Lose d e id plain does = ap (λ (c : Core). c.opened) does
opened_by (HangsUp trace) d e id plain does = ap (λ (c : Core). c.opened) does
opened_by (Leaves port trace) d e id plain does = ap (λ (c : Core). c.opened) does

pub stands_for : (act : SessionAction) (projection : SessionProjection) (stopped : Bool) → opens_session act ≡ false → MayDo act projection stopped → projection.is_open ≡ true
stands_for (Opens port) projection stopped plain may = cc
stands_for (Hears got room bytes) projection stopped plain may = may.0
stands_for (Feed piece fed begins) projection stopped plain may = may.0
stands_for (Forgets told port) projection stopped plain may = may.0
stands_for (Take room bytes) projection stopped plain may = may.0
stands_for (Says got bytes) projection stopped plain may = may.0
stands_for (Looks frame) projection stopped plain may = may.0
stands_for (Misses port) projection stopped plain may = may.0
stands_for (Connect port) projection stopped plain may = may.0
stands_for (Turn room step bytes) projection stopped plain may = may.0
stands_for (Shows got bytes) projection stopped plain may = may.0
stands_for Lose projection stopped plain may = may.0
stands_for (HangsUp trace) projection stopped plain may = may.0
stands_for (Leaves port trace) projection stopped plain may = may.0

unused_act : (act : SessionAction) (past : List LoopAction) (id j : ℕ) (v : Bool) → eqb id j ≡ v → (projection_of id past).is_open ≡ true → projection_of j past ≡ empty_projection → projection_of j (Of id act ∷ past) ≡ empty_projection
unused_act act past id j false e standing none = life_off j (Of id act) past e ∙ none
unused_act act past id j true e standing none =
    let at = subst (λ k. (projection_of k past).is_open ≡ true) (eqb-true id j e) standing in
    absurd (not_both at (ap (λ projection. projection.is_open) none))

pub leads_act : (act : SessionAction) (d0 : Core) (n0 : Option ListenerTrace) (past : List LoopAction) (d : Core) (n : Option ListenerTrace) (e : Core) (id : ℕ) → opens_session act ≡ false → JournalLeads d0 n0 past d n → ActsOn id d act e → MayDo act (projection_of id past) (has_stopped past) → JournalLeads d0 n0 (Of id act ∷ past) e (listener_trace_act act n)
leads_act act d0 n0 past d n e id plain leads does may = record {
  is_journal = (leads.is_journal, (may, not_come act plain));
  run = (d, leads.run, does);
  net = ap (listener_trace_act act) leads.net;
  unused = λ j h. unused_act act past id j (eqb id j) refl (stands_for act (projection_of id past) (has_stopped past) plain may)
      (leads.unused j (subst (λ k. k ≤ j) (opened_by act d e id plain does) h));
}

-- acts of one session, one after another
pub record Trail (d0 : Core) (n0 : Option ListenerTrace) (past : List LoopAction) (id left : ℕ) (stir : Bool) (e : Core) (m : Option ListenerTrace) (projection : SessionProjection) : Type 0 where
  pub journal : List LoopAction
  pub more : Extends past journal
  pub leads : JournalLeads d0 n0 journal e m
  pub at : projection_of id journal ≡ projection
  pub others : (j : ℕ) → j ≢ id → projection_of j journal ≡ projection_of j past
  pub tally : tally_of journal ≡ tally_with left stir (tally_of past)
  pub stopped : has_stopped journal ≡ has_stopped past
  pub asked : has_asked journal ≡ has_asked past
  pub crowd : open_sessions journal ≡ open_sessions past - left

pub trail_begin : (d0 : Core) (n0 : Option ListenerTrace) (past : List LoopAction) (d : Core) (n : Option ListenerTrace) (id : ℕ) → JournalLeads d0 n0 past d n → (t : Trail d0 n0 past id 0 false d n (projection_of id past)) × (t.journal ≡ past)
trail_begin d0 n0 past d n id leads = (
  record {
    journal = past;
    more = ([], refl);
    leads = leads;
    at = refl;
    others = λ j off. refl;
    tally = counted_none (tally_of past);
    stopped = refl;
    asked = refl;
    crowd = (let same : open_sessions past ≡ open_sessions past - 0 = omega arith in same);
  },
  refl,
)

pub trail : (d0 : Core) (n0 : Option ListenerTrace) (past : List LoopAction) (d : Core) (n : Option ListenerTrace) (id : ℕ) → JournalLeads d0 n0 past d n → Trail d0 n0 past id 0 false d n (projection_of id past)
trail d0 n0 past d n id leads = (trail_begin d0 n0 past d n id leads).0

pub trail_next : {d0 : Core} {n0 : Option ListenerTrace} {past : List LoopAction} {id left : ℕ} {stir : Bool} {e : Core} {m : Option ListenerTrace} {projection : SessionProjection} → (t : Trail d0 n0 past id left stir e m projection)
    → (act : SessionAction) (f : Core) → opens_session act ≡ false → ActsOn id e act f → MayDo act projection (has_stopped past) → (u : Trail d0 n0 past id (left + leaves act) (stir || makes_progress act) f (listener_trace_act act m) (projection_after act projection)) × (u.journal ≡ Of id act ∷ t.journal)
trail_next {d0} {n0} {past} {id} {left} {stir} {e} {m} {projection} t act f plain does may =
    let may1 = subst (λ v. MayDo act projection v) (sym t.stopped) may in
    let may2 = subst (λ v. MayDo act v (has_stopped t.journal)) (sym t.at) may1 in (
      record {
        journal = Of id act ∷ t.journal;
        more = (Of id act ∷ t.more.0, ap (λ xs. Of id act ∷ xs) t.more.1);
        leads = leads_act act d0 n0 t.journal e m f id plain t.leads does may2;
        at = life_at id (Of id act) t.journal (eq-eqb id id refl) ∙ ap (projection_after act) t.at;
        others = λ j off. life_off j (Of id act) t.journal (eqb_off id j (λ same. off (sym same))) ∙ t.others j off;
        tally = ap (after_tally (Of id act)) t.tally ∙ counted_then left (leaves act) stir (makes_progress act) (tally_of past);
        stopped = t.stopped;
        asked = ap (λ b. has_asked t.journal || b) plain ∙ or_false (has_asked t.journal) ∙ t.asked;
        crowd = ap (λ b. cond b (open_sessions t.journal + 1) (open_sessions t.journal) - leaves act) plain ∙ ap (λ k. k - leaves act) t.crowd ∙ fewer_then (open_sessions past) left (leaves act);
      },
      refl,
    )

pub trail_on : {d0 : Core} {n0 : Option ListenerTrace} {past : List LoopAction} {id left : ℕ} {stir : Bool} {e : Core} {m : Option ListenerTrace} {projection : SessionProjection} → Trail d0 n0 past id left stir e m projection
    → (act : SessionAction) (f : Core) → opens_session act ≡ false → ActsOn id e act f → MayDo act projection (has_stopped past) → Trail d0 n0 past id (left + leaves act) (stir || makes_progress act) f (listener_trace_act act m) (projection_after act projection)
trail_on t act f plain does may = (trail_next t act f plain does may).0

pub went : {C : Type 0} {history : C → Option ConnectionTrace} {d0 : Core} {n0 : Option ListenerTrace} {past : List LoopAction} {id : ℕ} {stir : Bool} {e : Core} {m : Option ListenerTrace} {projection : SessionProjection} (to : TurnPhase) (k : SessionLink C) → Trail d0 n0 past id 0 stir e m projection → LinkMatches history to projection k → HasGoneOn history to d0 n0 past id stir e m k
went {C} {history} {d0} {n0} {past} to k t tells = record {
  journal = t.journal;
  more = t.more;
  leads = t.leads;
  tells = subst (λ v. LinkMatches history to v k) (sym t.at) tells;
  others = t.others;
  tally = t.tally;
  stopped = t.stopped;
  asked = t.asked;
  crowd = (let same : open_sessions past - 0 ≡ open_sessions past = omega arith in t.crowd ∙ same);
}

-- ---- what connections tell

told_read : (got : Got) (buf : List ℕ) (trace after : Option ConnectionTrace) (calls : ConnectionTrace) → after ≡ after_read got buf trace → IsTrace trace calls → IsTrace after (Read got (length buf) (take (bytes_moved got) buf) ∷ calls)
told_read got buf None after calls e told = subst (λ t. IsTrace t (Read got (length buf) (take (bytes_moved got) buf) ∷ calls)) (sym e) tt
told_read got buf (Some trace) after calls e told = subst (λ t. IsTrace t (Read got (length buf) (take (bytes_moved got) buf) ∷ calls)) (sym e) (ap (λ cs. Read got (length buf) (take (bytes_moved got) buf) ∷ cs) told)

pub told_write : (got : Got) (buf : List ℕ) (trace after : Option ConnectionTrace) (calls : ConnectionTrace) → after ≡ after_write got buf trace → IsTrace trace calls → IsTrace after (Write got buf ∷ calls)
told_write got buf None after calls e told = subst (λ t. IsTrace t (Write got buf ∷ calls)) (sym e) tt
told_write got buf (Some trace) after calls e told = subst (λ t. IsTrace t (Write got buf ∷ calls)) (sym e) (ap (λ cs. Write got buf ∷ cs) told)

-- what waits goes on behind what was taken
pub rest_after : (xs rest said : List ℕ) (n : ℕ) → xs ++ rest ≡ said → (xs ++ take n rest) ++ drop n rest ≡ said
rest_after xs rest said n e = append_assoc xs (take n rest) (drop n rest) ∙ ap (λ ys. xs ++ ys) (take-append-drop n rest) ∙ e

-- where nothing waits, all was taken
pub all_taken : (xs rest said : List ℕ) → rest ≡ [] → xs ++ rest ≡ said → xs ≡ said
all_taken xs rest said none e = sym (append-nil xs) ∙ ap (λ ys. xs ++ ys) (sym none) ∙ e

abbrev behind : List ℕ → List ℕ
behind [] = []
behind (x ∷ xs) = xs

append_self : (xs rest : List ℕ) → xs ++ rest ≡ xs → rest ≡ []
append_self [] rest e = e
append_self (x ∷ xs) rest e = append_self xs rest (ap behind e)

pub append_front : (xs rest said : List ℕ) → xs ++ rest ≡ said → xs ≡ said → rest ≡ []
append_front xs rest said e all = append_self xs rest (e ∙ sym all)

pub none_on : (xs ys said : List ℕ) → xs ≡ said → xs ++ ys ≡ said ++ ys
none_on xs ys said e = ap (λ zs. zs ++ ys) e

some_left : (bytes : List ℕ) → bytes ≢ [] → no_bytes bytes ≡ false
some_left [] some = absurd (some refl)
some_left (b ∷ bytes) some = refl

-- a data connection is not touched
pub carries_on : {C : Type 0} (history : C → Option ConnectionTrace) (image : Option C) (last : Bool) (records : List ℕ) (a b : SessionProjection) → b.imaging ≡ a.imaging → b.image ≡ a.image → b.shown ≡ a.shown → b.last ≡ a.last → ImageTraceMatchesIn history image last records a → ImageTraceMatchesIn history image last records b
carries_on history None last records a b imaging image shown ended carries = imaging ∙ carries
carries_on history (Some conn) last records a b imaging image shown ended carries = record {
  imaging = imaging ∙ carries.imaging;
  told = subst (λ t. IsTrace (history conn) t) (sym image) carries.told;
  shown = ap (λ t. trace_bytes_written t ++ records) image ∙ carries.shown ∙ sym shown;
  last = carries.last ∙ sym ended;
  more = carries.more;
  held = ap lost_in image ∙ carries.held;
}

-- the same link is in another phase
pub tells_at : {C : Type 0} {history : C → Option ConnectionTrace} {from to : TurnPhase} {projection : SessionProjection} {l : SessionLink C} → LinkMatches history from projection l → IsAt to projection l → LinkMatches history to projection l
tells_at tells at = record {
  is_open = tells.is_open;
  port = tells.port;
  over = tells.over;
  told = tells.told;
  heard = tells.heard;
  said = tells.said;
  waits = tells.waits;
  quiet = tells.quiet;
  held = tells.held;
  carries = tells.carries;
  at = at;
}

-- ---- nothing is done

pub goes_rests : {C : Type 0} (history : C → Option ConnectionTrace) (from to : TurnPhase) (d : Core) (n : Option ListenerTrace) (l k : SessionLink C) → k.id ≡ l.id → ((projection : SessionProjection) → LinkMatches history from projection l → LinkMatches history to projection k) → JournalGoesOn history (session_turn from d n l) false (session_turn to d n k)
goes_rests history from to d n l k same tells = record {
  same = same;
  goes = λ d0 n0 past leads was. went to k (trail d0 n0 past d n l.id.number leads) (tells (projection_of l.id.number past) was);
}

pub goes_same : {C : Type 0} (history : C → Option ConnectionTrace) (phase : TurnPhase) (d : Core) (n : Option ListenerTrace) (l : SessionLink C) → JournalGoesOn history (session_turn phase d n l) false (session_turn phase d n l)
goes_same history phase d n l = goes_rests history phase phase d n l l refl (λ projection tells. tells)

-- replies wait
pub goes_fresh : {C : Type 0} (history : C → Option ConnectionTrace) (d : Core) (n : Option ListenerTrace) (l : SessionLink C) → l.replies ≢ [] → JournalGoesOn history (session_turn Due d n l) false (session_turn Filled d n l)
goes_fresh history d n l some = goes_rests history Due Filled d n l l refl (λ projection tells. tells_at tells (tells.at.0, (λ none. absurd (some none)), tells.at.1))

pub goes_waits : {C : Type 0} (history : C → Option ConnectionTrace) (d : Core) (n : Option ListenerTrace) (l : SessionLink C) → l.replies ≢ [] → JournalGoesOn history (session_turn Filled d n l) false (session_turn Heard d n l)
goes_waits history d n l some = goes_rests history Filled Heard d n l l refl (λ projection tells. tells_at tells ((λ done. absurd (not_both done tells.at.0)), inr some, tells.at.2.1, tells.at.2.2))

pub goes_ready : {C : Type 0} (history : C → Option ConnectionTrace) (d : Core) (n : Option ListenerTrace) (l : SessionLink C) → l.replies ≢ [] → JournalGoesOn history (session_turn Heard d n l) false (session_turn Ready d n l)
goes_ready history d n l some = goes_rests history Heard Ready d n l l refl (λ projection tells. tells_at tells (tells.at.0, tells.at.1, (λ none. absurd (some none)), tells.at.2, tells.at.3))

-- ---- the control connection

may_hear : {C : Type 0} (history : C → Option ConnectionTrace) (projection : SessionProjection) (l : SessionLink C) (got : Got) (room : ℕ) (bytes : List ℕ) (stopped : Bool) → room ≡ 4096 → l.replies ≡ [] → LinkMatches history Filled projection l → MayDo (Hears got room bytes) projection stopped
may_hear history projection l got room bytes stopped size none tells = (tells.is_open, tells.at.1 none, all_taken (trace_bytes_written projection.control) l.replies projection.said none tells.said, tells.heard, tells.at.2.0, size)

-- what was read is fed
heard_some : {C : Type 0} (history : C → Option ConnectionTrace) (projection : SessionProjection) (l : SessionLink C) (c : C) (over : Bool) (count : ℕ) (buf : List ℕ) (fed : Fed) → history c ≡ after_read (Moved count) buf (history l.conn) → over ≡ (l.is_over || ends_session fed)
    → LinkMatches history Filled projection l → LinkMatches history Heard (projection_after (Feed (take count buf) fed false) (projection_after (Hears (Moved count) (length buf) (take count buf)) projection)) (record l { conn = c; is_over = over })
heard_some history projection l c over count buf fed told was tells =
    let piece = take count buf in
    record {
      is_open = tells.is_open;
      port = tells.port;
      over = was ∙ ap (λ b. b || ends_session fed) tells.over;
      told = told_read (Moved count) buf (history l.conn) (history c) projection.control told tells.told;
      heard = none_on (trace_bytes_read projection.control) piece projection.heard tells.heard;
      said = tells.said;
      waits = λ some. refl;
      quiet = refl;
      held = λ alive. or_from (lost_in projection.control) false (tells.held alive) refl;
      carries = carries_on history l.image l.is_last l.records projection (projection_after (Feed piece fed false) (projection_after (Hears (Moved count) (length buf) piece) projection)) refl refl refl refl tells.carries;
      at = ((λ done. absurd (not_both done tells.at.0)), inl refl, tells.at.2.1, refl);
    }

-- and where a frame begins with that, the listeners are asked to forget
cleared : {C : Type 0} (history : C → Option ConnectionTrace) {d0 : Core} {n0 : Option ListenerTrace} {past : List LoopAction} {id : ℕ} {e : Core} {n : Option ListenerTrace} {projection : SessionProjection} (port : ℕ) (k : SessionLink C) (m : Option ListenerTrace)
    → Trail d0 n0 past id 0 true e n projection → projection.is_open ≡ true → projection.begun ≡ true → port ≡ projection.port → IsForgotten port n m
    → LinkMatches history Heard (projection_after (Forgets true port) projection) k → HasGoneOn history Heard d0 n0 past id true e m k
cleared history {d0} {n0} {past} {id} {e} {n} {projection} port k m t standing begun at (inl same) tells =
    subst (λ o. HasGoneOn history Heard d0 n0 past id true e o k) (sym same) (went Heard k (trail_on t (Forgets false port) e refl refl (standing, begun, at)) tells)
cleared history {d0} {n0} {past} {id} {e} {n} {projection} port k m t standing begun at (inr told) tells =
    subst (λ o. HasGoneOn history Heard d0 n0 past id true e o k) (sym told) (went Heard k (trail_on t (Forgets true port) e refl refl (standing, begun, at)) tells)

fed_on : {C : Type 0} (history : C → Option ConnectionTrace) {d0 : Core} {n0 : Option ListenerTrace} {past : List LoopAction} {id : ℕ} {d : Core} {n : Option ListenerTrace} {projection : SessionProjection} (port : ℕ) (k : SessionLink C) (piece : List ℕ) (fed : Fed) (begins : Bool) (e : Core) (m : Option ListenerTrace)
    → Trail d0 n0 past id 0 true d n projection → projection.is_open ≡ true → projection.heard ++ piece ≡ trace_bytes_read projection.control → port ≡ projection.port → piece ≢ [] → length piece ≤ 4096 → ActsOn id d (Feed piece fed begins) e → (begins ≡ true → IsForgotten port n m) → (begins ≡ false → m ≡ n)
    → LinkMatches history Heard (projection_after (Feed piece fed false) projection) k → HasGoneOn history Heard d0 n0 past id true e m k
fed_on history {d0} {n0} {past} {id} {d} {n} {projection} port k piece fed false e m t standing all at some few does forgets keeps tells =
    let first = trail_on t (Feed piece fed false) e refl does (standing, all, some, few) in
    subst (λ o. HasGoneOn history Heard d0 n0 past id true e o k) (sym (keeps refl)) (went Heard k first tells)
fed_on history {d0} {n0} {past} {id} {d} {n} {projection} port k piece fed true e m t standing all at some few does forgets keeps tells =
    let first = trail_on t (Feed piece fed true) e refl does (standing, all, some, few) in
    cleared history port k m first standing refl at (forgets refl) tells

-- a read that moved brought something, and no more than its buffer has room for
long_of : (count : ℕ) (buf : List ℕ) → MovesWithin (Moved count) (length buf) → length (take count buf) ≡ count
long_of count buf within = length-take-le count buf within.1

some_of : (count : ℕ) (buf : List ℕ) → MovesWithin (Moved count) (length buf) → take count buf ≢ []
some_of count buf within none = let long = long_of count buf within in let short : length (take count buf) ≡ 0 = ap (λ (l : List ℕ). length l) none in omega (arith, long, short, within.0)

few_of : (count : ℕ) (buf : List ℕ) → length buf ≡ 4096 → MovesWithin (Moved count) (length buf) → length (take count buf) ≤ 4096
few_of count buf size within = let long = long_of count buf within in omega (arith, long, size, within.1)

pub goes_hears : {C : Type 0} (history : C → Option ConnectionTrace) (d : Core) (n : Option ListenerTrace) (l k : SessionLink C) (e : Core) (m : Option ListenerTrace) (c : C) (count : ℕ) (buf : List ℕ)
    → length buf ≡ 4096 → MovesWithin (Moved count) (length buf) → l.replies ≡ [] → history c ≡ after_read (Moved count) buf (history l.conn) → k ≡ record l { conn = c; is_over = k.is_over } → Attends l.id.number l.port (take count buf) (record { daemon = d; listeners = n; is_over = l.is_over }) (record { daemon = e; listeners = m; is_over = k.is_over })
    → JournalGoesOn history (session_turn Filled d n l) true (session_turn Heard e m k)
goes_hears history d n l k e m c count buf size within none told same attends = record {
  same = ap (λ x. x.id) same;
  goes = λ d0 n0 past leads tells.
      let projection = projection_of l.id.number past in
      let piece = take count buf in
      let first = trail_on (trail d0 n0 past d n l.id.number leads) (Hears (Moved count) (length buf) piece) d refl refl (may_hear history projection l (Moved count) (length buf) piece (has_stopped past) size none tells) in
      let now = heard_some history projection l c k.is_over count buf attends.fed told attends.is tells in
      let fed = projection_after (Feed piece attends.fed false) (projection_after (Hears (Moved count) (length buf) piece) projection) in
      fed_on history l.port k piece attends.fed attends.begins e m first tells.is_open (none_on projection.heard piece (trace_bytes_read projection.control) (sym tells.heard)) tells.port (some_of count buf within) (few_of count buf size within) attends.does attends.forgets attends.keeps
      (subst (λ x. LinkMatches history Heard fed x) (sym same) now);
}

-- a read that brings nothing
heard_none : {C : Type 0} (history : C → Option ConnectionTrace) (got : Got) (buf : List ℕ) (projection : SessionProjection) (l : SessionLink C) (c : C) (done : Bool) → take (bytes_moved got) buf ≡ [] → history c ≡ after_read got buf (history l.conn) → LinkMatches history Filled projection l
    → (done ≡ false → lost_in (Read got (length buf) (take (bytes_moved got) buf) ∷ projection.control) ≡ false) → (done ≡ true → lost_in (Read got (length buf) (take (bytes_moved got) buf) ∷ projection.control) ≡ true)
    → LinkMatches history Heard (projection_after (Hears got (length buf) (take (bytes_moved got) buf)) projection) (record l { conn = c; is_done = done })
heard_none history got buf projection l c done none told tells alive lost = record {
  is_open = tells.is_open;
  port = tells.port;
  over = tells.over;
  told = told_read got buf (history l.conn) (history c) projection.control told tells.told;
  heard = ap (λ xs. trace_bytes_read projection.control ++ xs) none ∙ append-nil (trace_bytes_read projection.control) ∙ tells.heard;
  said = tells.said;
  waits = tells.waits;
  quiet = tells.quiet;
  held = alive;
  carries = carries_on history l.image l.is_last l.records projection (projection_after (Hears got (length buf) (take (bytes_moved got) buf)) projection) refl refl refl refl tells.carries;
  at = (lost, inl refl, tells.at.2.1, tells.at.2.2);
}

pub goes_silent : {C : Type 0} (history : C → Option ConnectionTrace) (d : Core) (n : Option ListenerTrace) (l : SessionLink C) (c : C) (buf : List ℕ) → length buf ≡ 4096 → l.replies ≡ [] → history c ≡ after_read Nothing buf (history l.conn) → JournalGoesOn history (session_turn Filled d n l) false (session_turn Heard d n (record l { conn = c }))
goes_silent history d n l c buf size none told = record {
  same = refl;
  goes = λ d0 n0 past leads tells.
      let projection = projection_of l.id.number past in
      let first = trail_on (trail d0 n0 past d n l.id.number leads) (Hears Nothing (length buf) (take 0 buf)) d refl refl (may_hear history projection l Nothing (length buf) (take 0 buf) (has_stopped past) size none tells) in
      went Heard (record l { conn = c }) first
      (heard_none history Nothing buf projection l c l.is_done refl told tells (λ alive. or_from (lost_in projection.control) false (tells.held alive) refl) (λ done. absurd (not_both done tells.at.0)));
}

pub goes_cut : {C : Type 0} (history : C → Option ConnectionTrace) (d : Core) (n : Option ListenerTrace) (l : SessionLink C) (c : C) (buf : List ℕ) → length buf ≡ 4096 → l.replies ≡ [] → history c ≡ after_read Lost buf (history l.conn) → JournalGoesOn history (session_turn Filled d n l) true (session_turn Heard d n (record l { conn = c; is_done = true }))
goes_cut history d n l c buf size none told = record {
  same = refl;
  goes = λ d0 n0 past leads tells.
      let projection = projection_of l.id.number past in
      let first = trail_on (trail d0 n0 past d n l.id.number leads) (Hears Lost (length buf) (take 0 buf)) d refl refl (may_hear history projection l Lost (length buf) (take 0 buf) (has_stopped past) size none tells) in
      went Heard (record l { conn = c; is_done = true }) first
      (heard_none history Lost buf projection l c true refl told tells (λ alive. absurd (let wrong : true ≡ false = alive in cc)) (λ done. or_right (lost_in projection.control) true refl));
}

-- replies are asked for where none waited
goes_takes : {C : Type 0} (history : C → Option ConnectionTrace) (from to : TurnPhase) (d : Core) (n : Option ListenerTrace) (l : SessionLink C) (e : Core) (replies : List ℕ) → l.replies ≡ [] → ActsOn l.id.number d (Take 4096 replies) e
    → ((projection : SessionProjection) → IsAt from projection l → IsAt to (projection_after (Take 4096 replies) projection) (record l { replies = replies }))
    → JournalGoesOn history (session_turn from d n l) false (session_turn to e n (record l { replies = replies }))
goes_takes history from to d n l e replies none does at = record {
  same = refl;
  goes = λ d0 n0 past leads tells.
      let projection = projection_of l.id.number past in
      let all = all_taken (trace_bytes_written projection.control) l.replies projection.said none tells.said in
      let first = trail_on (trail d0 n0 past d n l.id.number leads) (Take 4096 replies) e refl does (tells.is_open, tells.quiet, refl, all) in
      went to (record l { replies = replies }) first (record {
        is_open = tells.is_open;
        port = tells.port;
        over = tells.over;
        told = tells.told;
        heard = tells.heard;
        said = none_on (trace_bytes_written projection.control) replies projection.said all;
        waits = λ some. some_left replies some;
        quiet = tells.quiet;
        held = tells.held;
        carries = carries_on history l.image l.is_last l.records projection (projection_after (Take 4096 replies) projection) refl refl refl refl tells.carries;
        at = at projection tells.at;
      });
}

pub goes_fills : {C : Type 0} (history : C → Option ConnectionTrace) (d : Core) (n : Option ListenerTrace) (l : SessionLink C) (e : Core) (replies : List ℕ) → l.replies ≡ [] → ActsOn l.id.number d (Take 4096 replies) e → JournalGoesOn history (session_turn Due d n l) false (session_turn Filled e n (record l { replies = replies }))
goes_fills history d n l e replies none does = goes_takes history Due Filled d n l e replies none does (λ projection at. (at.0, (λ empty. ap no_bytes empty), at.1))

pub goes_fills_again : {C : Type 0} (history : C → Option ConnectionTrace) (d : Core) (n : Option ListenerTrace) (l : SessionLink C) (e : Core) (replies : List ℕ) → l.replies ≡ [] → ActsOn l.id.number d (Take 4096 replies) e → JournalGoesOn history (session_turn Heard d n l) false (session_turn Ready e n (record l { replies = replies }))
goes_fills_again history d n l e replies none does =
    goes_takes history Heard Ready d n l e replies none does (λ projection at. (at.0, inl (visited projection at.1), (λ empty. ap no_bytes empty), at.2, at.3))
  where
    visited : (projection : SessionProjection) → (projection.visited ≡ true) ⊎ (l.replies ≢ []) → projection.visited ≡ true
    visited projection (inl seen) = seen
    visited projection (inr some) = absurd (some none)

-- no replies wait: a session that is over is done
pub goes_finishes : {C : Type 0} (history : C → Option ConnectionTrace) (d : Core) (n : Option ListenerTrace) (l : SessionLink C) → l.replies ≡ [] → JournalGoesOn history (session_turn Ready d n l) false (session_turn Spoken d n (record l { is_done = l.is_done || l.is_over }))
goes_finishes {C} history d n l none = goes_rests history Ready Spoken d n l (record l { is_done = l.is_done || l.is_over }) refl (λ projection tells. finished projection tells)
  where
    visited : (projection : SessionProjection) → (projection.visited ≡ true) ⊎ (l.replies ≢ []) → projection.visited ≡ true
    visited projection (inl seen) = seen
    visited projection (inr some) = absurd (some none)

    why : (projection : SessionProjection) → LinkMatches history Ready projection l → (done over : Bool) → l.is_done ≡ done → l.is_over ≡ over → (done || over) ≡ true → MayBeLeft projection
    why projection tells true over d o e = inl (tells.at.0 d)
    why projection tells false true d o e = inr (sym tells.over ∙ o, tells.at.2 none, all_taken (trace_bytes_written projection.control) l.replies projection.said none tells.said)
    why projection tells false false d o e = absurd (let wrong : false ≡ true = e in cc)

    finished : (projection : SessionProjection) → LinkMatches history Ready projection l → LinkMatches history Spoken projection (record l { is_done = l.is_done || l.is_over })
    finished projection tells = record {
      is_open = tells.is_open;
      port = tells.port;
      over = tells.over;
      told = tells.told;
      heard = tells.heard;
      said = tells.said;
      waits = tells.waits;
      quiet = tells.quiet;
      held = λ alive. tells.held (or_false_left l.is_done l.is_over alive);
      carries = tells.carries;
      at = ((why projection tells l.is_done l.is_over refl refl, visited projection tells.at.1, λ over. inl (or_right l.is_done l.is_over (tells.over ∙ over))), tells.at.4);
    }
      where
        or_false_left : (a b : Bool) → (a || b) ≡ false → a ≡ false
        or_false_left true b e = e
        or_false_left false b e = refl

-- a piece of what waits was written
said_on : {C : Type 0} (history : C → Option ConnectionTrace) (got : Got) (projection : SessionProjection) (l : SessionLink C) (c : C) (done : Bool) → l.replies ≢ [] → history c ≡ after_write got l.replies (history l.conn) → LinkMatches history Ready projection l
    → (done ≡ false → lost_in (Write got l.replies ∷ projection.control) ≡ false) → (done ≡ true → lost_in (Write got l.replies ∷ projection.control) ≡ true)
    → LinkMatches history Spoken (projection_after (Says got l.replies) projection) (record l { conn = c; replies = drop (bytes_moved got) l.replies; is_done = done })
said_on history got projection l c done some told tells alive lost = record {
  is_open = tells.is_open;
  port = tells.port;
  over = tells.over;
  told = told_write got l.replies (history l.conn) (history c) projection.control told tells.told;
  heard = tells.heard;
  said = rest_after (trace_bytes_written projection.control) l.replies projection.said (bytes_moved got) tells.said;
  waits = λ left. tells.waits some;
  quiet = tells.quiet;
  held = alive;
  carries = carries_on history l.image l.is_last l.records projection (projection_after (Says got l.replies) projection) refl refl refl refl tells.carries;
  at = (((λ is. inl (lost is)), refl, λ over. inr (tells.waits some)), tells.at.4);
}

pub goes_says : {C : Type 0} (history : C → Option ConnectionTrace) (d : Core) (n : Option ListenerTrace) (l : SessionLink C) (c : C) (count : ℕ) → l.replies ≢ [] → history c ≡ after_write (Moved count) l.replies (history l.conn)
    → JournalGoesOn history (session_turn Ready d n l) true (session_turn Spoken d n (record l { conn = c; replies = drop count l.replies }))
goes_says history d n l c count some told = record {
  same = refl;
  goes = λ d0 n0 past leads tells.
      let projection = projection_of l.id.number past in
      let first = trail_on (trail d0 n0 past d n l.id.number leads) (Says (Moved count) l.replies) d refl refl (tells.is_open, some, tells.said, tells.at.3) in
      went Spoken (record l { conn = c; replies = drop count l.replies }) first
      (said_on history (Moved count) projection l c l.is_done some told tells (λ alive. or_from (lost_in projection.control) false (tells.held alive) refl) (λ done. or_left (lost_in projection.control) false (tells.at.0 done)));
}

pub goes_unsaid : {C : Type 0} (history : C → Option ConnectionTrace) (d : Core) (n : Option ListenerTrace) (l : SessionLink C) (c : C) → l.replies ≢ [] → history c ≡ after_write Nothing l.replies (history l.conn)
    → JournalGoesOn history (session_turn Ready d n l) false (session_turn Spoken d n (record l { conn = c; replies = drop 0 l.replies }))
goes_unsaid history d n l c some told = record {
  same = refl;
  goes = λ d0 n0 past leads tells.
      let projection = projection_of l.id.number past in
      let first = trail_on (trail d0 n0 past d n l.id.number leads) (Says Nothing l.replies) d refl refl (tells.is_open, some, tells.said, tells.at.3) in
      went Spoken (record l { conn = c; replies = drop 0 l.replies }) first
      (said_on history Nothing projection l c l.is_done some told tells (λ alive. or_from (lost_in projection.control) false (tells.held alive) refl) (λ done. or_left (lost_in projection.control) false (tells.at.0 done)));
}

pub goes_dies : {C : Type 0} (history : C → Option ConnectionTrace) (d : Core) (n : Option ListenerTrace) (l : SessionLink C) (c : C) → l.replies ≢ [] → history c ≡ after_write Lost l.replies (history l.conn)
    → JournalGoesOn history (session_turn Ready d n l) true (session_turn Spoken d n (record l { conn = c; replies = drop 0 l.replies; is_done = true }))
goes_dies history d n l c some told = record {
  same = refl;
  goes = λ d0 n0 past leads tells.
      let projection = projection_of l.id.number past in
      let first = trail_on (trail d0 n0 past d n l.id.number leads) (Says Lost l.replies) d refl refl (tells.is_open, some, tells.said, tells.at.3) in
      went Spoken (record l { conn = c; replies = drop 0 l.replies; is_done = true }) first
      (said_on history Lost projection l c true some told tells (λ alive. absurd (let wrong : true ≡ false = alive in cc)) (λ done. or_right (lost_in projection.control) true refl));
}

-- ---- one after the other

pub goes_then : {C : Type 0} {history : C → Option ConnectionTrace} {p q r : TurnPhase} {d : Core} {n : Option ListenerTrace} {l : SessionLink C} {x : Bool} {e : Core} {m : Option ListenerTrace} {k : SessionLink C} {y : Bool} {f : Core} {o : Option ListenerTrace} {j : SessionLink C} → JournalGoesOn history (session_turn p d n l) x (session_turn q e m k) → JournalGoesOn history (session_turn q e m k) y (session_turn r f o j) → JournalGoesOn history (session_turn p d n l) (x || y) (session_turn r f o j)
goes_then {C} {history} {p} {q} {r} {d} {n} {l} {x} {e} {m} {k} {y} {f} {o} {j} a b = record {
  same = b.same ∙ a.same;
  goes = λ d0 n0 past leads tells.
      let w = a.goes d0 n0 past leads tells in
      let tells_k = subst (λ id. LinkMatches history q (projection_of id.number w.journal) k) (sym a.same) w.tells in
      went_after d0 n0 past l.id.number k.id.number (ap (λ id. id.number) a.same) w (b.goes d0 n0 w.journal w.leads tells_k);
}
  where
    went_after : (d0 : Core) (n0 : Option ListenerTrace) (past : List LoopAction) (id other : ℕ) → other ≡ id → (w : HasGoneOn history q d0 n0 past id x e m k) → HasGoneOn history r d0 n0 w.journal other y f o j → HasGoneOn history r d0 n0 past id (x || y) f o j
    went_after d0 n0 past id other same w v = record {
      journal = v.journal;
      more = extends_then past w.journal v.journal w.more v.more;
      leads = v.leads;
      tells = subst (λ i. LinkMatches history r (projection_of i v.journal) j) same v.tells;
      others = λ i off. v.others i (λ e. off (e ∙ same)) ∙ w.others i off;
      tally = v.tally ∙ ap (tally_with 0 y) w.tally ∙ counted_then 0 0 x y (tally_of past);
      stopped = v.stopped ∙ w.stopped;
      asked = v.asked ∙ w.asked;
      crowd = v.crowd ∙ w.crowd;
    }

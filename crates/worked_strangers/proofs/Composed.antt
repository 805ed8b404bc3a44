-- What the private calls come to, one behind another.
use Rattle.std.specs.Prelude.{not, Result, Ok, Err, map}
use Rattle.std.proofs.Common.{◌≡◌, ◌∙◌, ◌&&◌, ℕ, ◌+◌, List, [], ◌∷◌, Bool, true, false, Option, Some, None, refl, sym, ap, subst, arith}
use Rattle.sane_fixed.specs.declared.status.Status.TheVariants.{DeviceBusy}
use Rattle.sane_fixed.specs.declared.status.Status.{Status}
use Rattle.device_api.specs.State.{DeviceState}
use Rattle.dispatch.specs.declared.table.place.Place.{Place}
use Rattle.dispatch.specs.Table.{Table, after_unplug, find_name, fresh_table, held_at, seen_unplug, table, unplug_answer, unplug_at, unplug_of, unplugged_at, unplugged_of}
use Rattle.world_refines.specs.NewWorlds.{IsNewDaemon}
use Rattle.saned_core.specs.declared.session_slot.Fed.{Fed}
use Rattle.saned_core.specs.declared.session_slot.Fed.TheVariants.{Over, Standing}
use Rattle.saned_core.specs.declared.session_slot.FrameState.{FrameState}
use Rattle.saned_core.specs.declared.session_slot.FrameState.TheVariants as frames
use Rattle.saned_core.specs.DaemonStates.{Core, DaemonState, core, frame_in, is_waiting, seen_session_slots, session_of}
use Rattle.saned_core.specs.Feeding.{Feeds}
use Rattle.saned_serve.specs.SessionActions.{ActsOn, frame_begins}
use Rattle.saned_serve.specs.SessionActions.SessionAction.{Feed, Leaves, Opens}
use Rattle.worked_strangers.specs.Inside.{HasGarbled, HasGone, CameGreeting, HasOpened, HasLeased, IsLeft}
use Rattle.worked_strangers.specs.Visits.{garbage}

and_false : (a : Bool) → (a && false) ≡ false
and_false true = refl
and_false false = refl

none_begins : (d e : Core) (n : ℕ) → frame_in (session_of e n) ≡ frames.Quiet → false ≡ frame_begins d n e
none_begins d e n quiet = sym (ap (λ (f : FrameState). not (is_waiting (frame_in (session_of d n))) && is_waiting f) quiet ∙ and_false (not (is_waiting (frame_in (session_of d n)))))

pub fed_so : (d e : Core) (n : ℕ) (piece : List ℕ) (was fed : Fed) → was ≡ fed → Feeds n d piece was e → frame_in (session_of e n) ≡ frames.Quiet → ActsOn n d (Feed piece fed false) e
fed_so d e n piece was fed is f quiet = (subst (λ (x : Fed). Feeds n d piece x e) is f, none_begins d e n quiet)

pub opened_so : (d e f : Core) (n : ℕ) (name opening : List ℕ) → Rattle.wire_writing.specs.RequestWriting.write_request.text (Rattle.wire_message.specs.declared.message.Request.TheVariants.Open name) ≡ Some opening → ActsOn n d (Feed opening Standing false) e → IsLeft name e f → HasOpened n name d f
opened_so d e f n name opening is says left = record {
  opening = opening;
  opens = is;
  says = subst (λ (x : Core). ActsOn n d (Feed opening Standing false) x) (sym left.same) says;
  out = ap (λ (c : Core). unplug_answer c.registry name) left.same ∙ left.out;
}

pub garbled_so : (d first said e : Core) (n : ℕ) → ActsOn n d (Opens 1) first → ActsOn n first (Feed garbage Over false) said → ActsOn n said (Leaves 1 None) e → HasGarbled d e
garbled_so d first said e n a1 a2 a3 = (
  first,
  said,
  subst (λ (k : ℕ). ActsOn k d (Opens 1) first) a1.numbered a1,
  subst (λ (k : ℕ). ActsOn k first (Feed garbage Over false) said) a1.numbered a2,
  subst (λ (k : ℕ). ActsOn k said (Leaves 1 None) e) a1.numbered a3,
)

garbled_opened : (d e : Core) → d.opened ≡ 0 → HasGarbled d e → e.opened ≡ 1
garbled_opened d e none (first, said, a1, a2, a3) =
    let one : first.opened ≡ d.opened + 1 = ap (λ (c : Core). c.opened) a1.after in
    let two : said.opened ≡ first.opened = ap (λ (c : Core). c.opened) a2.0.others.rest in
    let three : e.opened ≡ said.opened = ap (λ (c : Core). c.opened) a3 in
    omega (arith, none, one, two, three)

pub taken_so : (name : List ℕ) (d e f h : Core) (n : ℕ) → d.opened ≡ 0 → HasGarbled d e → CameGreeting n e f → HasOpened n name f h → (n ≡ 1) × HasLeased name d h
taken_so name d e f h n none garbled greeted opened =
    let first : n ≡ 1 = greeted.comes.numbered ∙ garbled_opened d e none garbled in (
      first,
      record {
        greeting = greeted.greeting;
        opening = opened.opening;
        said = record { greets = greeted.greets; opens = opened.opens };
        acts = (
          garbled.0,
          subst (λ (k : ℕ). ActsOn k d (Opens 1) garbled.0) none garbled.2,
          (
            garbled.1,
            subst (λ (k : ℕ). ActsOn k garbled.0 (Feed garbage Over false) garbled.1) none garbled.3,
            (
              e,
              subst (λ (k : ℕ). ActsOn k garbled.1 (Leaves 1 None) e) none garbled.4,
              (
                greeted.opened,
                subst (λ (k : ℕ). ActsOn k e (Opens 1) greeted.opened) first greeted.comes,
                (
                  f,
                  subst (λ (k : ℕ). ActsOn k greeted.opened (Feed greeted.greeting Standing false) f) first greeted.says,
                  (h, subst (λ (k : ℕ). ActsOn k f (Feed opened.opening Standing false) h) first opened.says, refl),
                ),
              ),
            ),
          ),
        );
        out = opened.out;
      },
    )

pub gone_so : (d e f : Core) (m n : ℕ) → ActsOn m d (Leaves 1 None) e → CameGreeting n e f → d.opened ≡ 2 → m ≡ 1 → HasGone d f
gone_so d e f m n left greeted two first =
    let opened : e.opened ≡ 2 = ap (λ (c : Core). c.opened) left ∙ two in
    let third : n ≡ 2 = greeted.comes.numbered ∙ opened in
    record {
      greeting = greeted.greeting;
      greets = greeted.greets;
      acts = (
        e,
        subst (λ (k : ℕ). ActsOn k d (Leaves 1 None) e) first left,
        (
          greeted.opened,
          subst (λ (k : ℕ). ActsOn k e (Opens 1) greeted.opened) third greeted.comes,
          (f, subst (λ (k : ℕ). ActsOn k greeted.opened (Feed greeted.greeting Standing false) f) third greeted.says, refl),
        ),
      );
    }

-- ---- a device that does not come out

ok_not : (d : DeviceState) (s : Status) → ◌≡◌ {A = Result DeviceState Status} (Ok d) (Err s) → ⊥
ok_not d s clash = let never : ◌≡◌ {A = Result DeviceState Status} (Ok d) (Err s) = clash in cc

by_held : (t : Table) (k : ℕ) (o : Option DeviceState) (s : Status) → unplug_of o ≡ Err s → unplugged_of t k o ≡ t
by_held t k None s e = refl
by_held t k (Some d) s e = absurd (ok_not d s e)

by_name : (t : Table) (o : Option ℕ) (s : Status) → unplug_at t o ≡ Err s → unplugged_at t o ≡ t
by_name t None s e = refl
by_name t (Some k) s e = by_held t k (held_at t k) s e

unplug_refused : (t : Table) (name : List ℕ) (s : Status) → unplug_answer t name ≡ Err s → after_unplug t name ≡ t
unfolding unplug_answer after_unplug
unplug_refused t name s e = by_name t (find_name name t) s e

pub left_so : {D : Type 0} (state : D → DeviceState) (d e : Core) (name : List ℕ) (answer : Result D Status) → answer ≡ Err DeviceBusy → seen_unplug state answer ≡ unplug_answer d.registry name → e ≡ record d { registry = after_unplug d.registry name } → IsLeft name d e
left_so state d e name answer is told after =
    let out : unplug_answer d.registry name ≡ Err DeviceBusy = sym told ∙ ap (seen_unplug state) is in
    record { out = out; same = after ∙ ap (λ (t : Table). record d { registry = t }) (unplug_refused d.registry name DeviceBusy out) }

-- ---- a new daemon

pub new_so : {D : Type 0} (state : D → DeviceState) (flatbed : DeviceState) (x : D) (items : List D) (registry : List (Place D)) (d : DaemonState D) → state x ≡ flatbed → items ≡ x ∷ [] → table state registry ≡ fresh_table (map state items) → (core state d).registry ≡ table state registry
    → d.slots ≡ None ∷ None ∷ None ∷ None ∷ None ∷ None ∷ None ∷ None ∷ [] → d.opened ≡ 0 → IsNewDaemon (flatbed ∷ []) (core state d)
new_so state flatbed x items registry d is own made shown none opened = record {
  registry = shown ∙ (made ∙ (ap (λ (xs : List _). fresh_table (map state xs)) own ∙ ap (λ (s : DeviceState). fresh_table (s ∷ [])) is));
  slots = ap (seen_session_slots state) none;
  opened = opened;
}

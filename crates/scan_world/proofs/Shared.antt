-- Histories in which strangers act, and what is so where none does.
use Rattle.std.specs.Prelude.{Contains, length, slice_get, ◌<◌}
use Rattle.std.proofs.lemmas.Option.{slice_get_within}
use Rattle.std.proofs.Common.{◌≡◌, ◌∙◌, ◌+◌, ℕ, List, [], ◌∷◌, Some, inl, inr, refl, sym, ap, arith}
use Rattle.saned_core.specs.DaemonStates.{after_open_session, session_in}
use Rattle.saned_serve.specs.SessionActions.SessionAction.{Opens}
use Rattle.system_model.specs.AbstractDevices.{AbstractDevice}
use Rattle.event_world.specs.declared.endpoint.Endpoint.{Endpoint}
use Rattle.event_world.specs.declared.event.Event.TheVariants.{ToDaemon}
use Rattle.event_world.specs.Worlds.{WorldCore}
use Rattle.world_refines.specs.WorldRefinement.{IsNobodys, stranger_of}
use Rattle.strangers.specs.Among.{StrangerActs}
use Rattle.strangers.specs.Together.JointEvent.{OfJobs, OfStranger}
use Rattle.scan_world.specs.Histories.{history_up_to}
use Rattle.scan_world.specs.Laws.{Below}
use Rattle.scan_world.specs.Shared.{ActsLeaveSessions, BusyIsByJobs, EventsAreNoActs, HoldersStandApart, LedAlone, NoneSharesAlone, TakenIsNoLie, TheirPageIsNoLie, AStrangerMayCome}
use Rattle.scan_world.proofs.Clear.{came_ever}
use Rattle.scan_world.proofs.Joint.{plain_runs}
use Rattle.scan_world.proofs.Led.{led_on}
use Rattle.scan_world.proofs.Lists.{contains_in}
use Rattle.scan_world.proofs.Quiet.{no_acts_front, no_acts_then, none_shared}
use Rattle.scan_world.proofs.Scanned.{kept_by}
use Rattle.scan_world.proofs.moments.Stands.{has_holds, stranger_holds}

not_next : (opened n : ℕ) → n < opened → n ≡ opened → ⊥
not_next opened n less same = omega (arith, less, same)

pub strangers_may_come : Below → AStrangerMayCome
strangers_may_come below h w i port job at room =
    let k = kept_by below.kept h w job at.led in
    let links = k.run.stands.links in
    let n = w.daemon.opened in
    let nobodys : IsNobodys w n = λ j endpoint id there link same. not_next n id.number (links j endpoint id there link) same in
    let v : WorldCore = record w { daemon = after_open_session w.daemon port } in
    let acts : StrangerActs n (Opens port) w v = record { nobodys = nobodys; acts = record { room = room; numbered = refl; after = refl }; rest = refl } in
    record {
      world_then = v;
      led = led_on h (OfStranger (record { session = n; act = Opens port }) ∷ []) w v at.led tt (v, acts, refl);
      nobodys = λ j endpoint id there link same. nobodys j endpoint id there link same;
    }

-- ---- what he leaves to the jobs

too_far : (count j n : ℕ) → j < count → j ≡ count + n → ⊥
too_far count j n low same = omega (arith, low, same)

pub holders_apart : Below → HoldersStandApart
holders_apart below h w i job at j name d has x =
    let k = kept_by below.kept h w job at.led in
    let u = k.run.ghost_then in
    let m = has_holds u w j name d k.run.stands has in
    let s = stranger_holds u w name k.run.stands x in
    let one : m.place ≡ s.place = k.run.stands.is_of.apart m.place s.place name m.named s.named in
    let both : Some j ≡ Some (stranger_of w s.number) = sym (ap (λ (dev : AbstractDevice). dev.holder) m.is) ∙ (ap (λ (n : ℕ). (u.system.device n).holder) one ∙ s.held) in
    let same : j ≡ stranger_of w s.number = cc in
    too_far (length w.endpoints) j s.number (slice_get_within w.endpoints j has.at.endpoint has.at.is_there) same

pub acts_leave : Below → ActsLeaveSessions
acts_leave below h w v i job at a acts j s x =
    let k = kept_by below.kept h w job at.led in
    let one = below.acts k.run.ghost_then w v a.session a.act k.run.may acts in
    record {
      endpoint = x.endpoint;
      is_there = ap (λ (ps : List Endpoint). slice_get ps j) acts.rest ∙ x.is_there;
      id = x.id;
      linked = x.linked;
      stands = ap session_in (one.slots x.id.number (λ same. acts.nobodys j x.endpoint x.id x.is_there x.linked same)) ∙ x.stands;
    }

-- ---- where none acts

no_member : {X : Type 0} (x : X) → Contains [] x → ⊥
no_member x (k, within, is) = omega (arith, within)

pub events_are_no_acts : EventsAreNoActs
events_are_no_acts = record { first = λ devices users seed jobs a there. no_member (OfStranger a) there; then_none = no_acts_then }

pub led_alone : LedAlone
led_alone h w none l = record { first = l.first; endpoints = l.endpoints; daemon = l.daemon; runs = plain_runs h.events l.first w (λ a among. none a (contains_in h.events (OfStranger a) among)) l.runs }

pub none_shares : Below → NoneSharesAlone
none_shares below h w i job name at none x = none_shared below h w job none at.led name x

pub busy_is_by_jobs : Below → BusyIsByJobs
busy_is_by_jobs below h w i job at none (asked, inl (j, d, other, has)) = (asked, j, d, other, has)
busy_is_by_jobs below h w i job at none (asked, inr shared) =
    let front = no_acts_front h asked.at.front (OfJobs (ToDaemon i asked.n) ∷ asked.at.back) asked.at.split none in
    absurd (none_shared below (history_up_to h asked.at.front) asked.at.before job front asked.at.led_before job.device shared)

-- ---- lies

pub their_page : TheirPageIsNoLie
their_page h w i count job file never scan = never scan.held scan.settled scan.picture (came_ever h w i job.device scan.held scan.came) scan.meant scan.denotes

pub taken : TakenIsNoLie
taken h w i job reports list always done = let o = done.opened list in o.unshared (always o.asked.n o.asked.at)

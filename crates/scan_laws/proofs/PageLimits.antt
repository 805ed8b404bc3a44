-- The limits of a scanner's pages last.
use Rattle.std.proofs.Common.{◌≡◌, ◌<◌, ◌⊎◌, inl, inr, sym, ap, subst, refl, ℕ, Bool, true, false, List, [], ◌∷◌, ◌++◌, length, length-append, arith}
use Rattle.std.specs.Prelude.{All, nat_lt, ◌||◌, ◌&&◌, not}
use Rattle.std.proofs.lemmas.Bool.Decides.{nat_tests}
use Rattle.std.proofs.lemmas.List.Elements.{All-nil, All-cons, All-head, All-tail}
use Rattle.page_picture.specs.Source.{SourceState}
use Rattle.scan_frames.specs.declared.setup.Setup.{Setup}
use Rattle.device_api.specs.ScannerLimits.{HasLimits, IsAllowed, IsHeldPage, IsPageCount}
use Rattle.device_api.specs.Kinds.{is_feeder}
use Rattle.device_api.specs.State.{DeviceState, HeldPage, Phase, after_cancel, after_load, after_reset, cancelled_in, with_failure_count, feeds, held_from, is_at_rest, left_behind, pages_with, takes_page, tray_room}
use Rattle.device_api.specs.State.Phase.{AtRest, Between, Reading}
use Rattle.device_api.specs.Values.{defaults}
use Rattle.device_api.proofs.AllowedLaws.{defaults_allowed}
use Rattle.scan_laws.specs.Stays.{AreSamePages, IsSameScan, IsSourceShaped, LetsGo}

-- the pages of a scanner, and how many there may be
record AreHeld (feeder : Bool) (pages : List HeldPage) : Type 0 where
  all : All IsHeldPage pages
  count : IsPageCount feeder (length pages)

held_of : (s : DeviceState) → HasLimits s → AreHeld (feeds s) s.pages
held_of s h = record { all = h.pages; count = h.count }

-- ---- a page that is let go
fewer : (feeder : Bool) (pages : List HeldPage) → AreHeld feeder pages → AreHeld feeder (left_behind feeder pages)
fewer false pages h = h
fewer true [] h = h
fewer true (held ∷ pages) h = record { all = All-tail IsHeldPage held pages h.all; count = let n = h.count in omega arith }

-- ---- another count of failures
recounted : (feeder : Bool) (n : ℕ) (pages : List HeldPage) → AreHeld feeder pages → AreHeld feeder (with_failure_count n pages)
recounted feeder n [] h = h
recounted feeder n (held ∷ pages) h =
    let first = All-head IsHeldPage held pages h.all in
    record {
      all = All-cons IsHeldPage (record held { failures = n }) pages (record { shape = first.shape; view = first.view }) (All-tail IsHeldPage held pages h.all);
      count = h.count;
    }

-- ---- one page more
one_more : (pages : List HeldPage) (held : HeldPage) → IsHeldPage held → All IsHeldPage pages → All IsHeldPage (pages ++ held ∷ [])
one_more [] held h all = All-cons IsHeldPage held [] h (All-nil IsHeldPage)
one_more (p ∷ pages) held h all = All-cons IsHeldPage p (pages ++ held ∷ []) (All-head IsHeldPage p pages all) (one_more pages held h (All-tail IsHeldPage p pages all))

has_room : (rests : Bool) (n : ℕ) → (rests && (not true || nat_lt n tray_room)) ≡ true → n < tray_room
has_room true n e = grind (arith, nat_tests)
has_room false n e = cc

put_held : (feeder : Bool) (rests : Bool) (pages : List HeldPage) (held : HeldPage) → (rests && (not feeder || nat_lt (length pages) tray_room)) ≡ true → IsHeldPage held → AreHeld feeder pages → AreHeld feeder (pages_with feeder pages held)
put_held false rests pages held room h all = record { all = All-cons IsHeldPage held [] h (All-nil IsHeldPage); count = refl }
put_held true rests pages held room h all =
    record {
      all = one_more pages held h all.all;
      count = let n = length-append pages (held ∷ []) in let few = has_room rests (length pages) room in omega arith;
    }

-- ---- the laws
limits_at : (s t : DeviceState) → IsAllowed t.setup → feeds t ≡ feeds s → AreHeld (feeds s) t.pages → HasLimits t
limits_at s t allowed same h = record { setup = allowed; pages = h.all; count = subst (λ (b : Bool). IsPageCount b (length t.pages)) (sym same) h.count }

cancelled : (phase : Phase) (s : DeviceState) → HasLimits s → HasLimits (cancelled_in phase s)
cancelled (AtRest c) s h = h
cancelled (Between ended) s h = let left = fewer (feeds s) s.pages (held_of s h) in record { setup = h.setup; pages = left.all; count = left.count }
cancelled (Reading pass given) s h = let left = fewer (feeds s) s.pages (held_of s h) in record { setup = h.setup; pages = left.all; count = left.count }

kind_of_defaults : (s : Setup) → is_feeder (defaults s.scene.kind s.order).scene.kind ≡ is_feeder s.scene.kind
unfolding defaults
kind_of_defaults s = refl

pub reset_limits : (s : DeviceState) → HasLimits s → HasLimits (after_reset s)
reset_limits s h =
    let c = cancelled s.phase s h in
    limits_at (after_cancel s) (after_reset s) (defaults_allowed (after_cancel s).setup.scene.kind (after_cancel s).setup.order) (kind_of_defaults (after_cancel s).setup) (held_of (after_cancel s) c)

pub load_limits : (s : DeviceState) (source : SourceState) → HasLimits s → takes_page s ≡ true → IsSourceShaped source → HasLimits (after_load s source)
load_limits s source h room shaped =
    let put = put_held (feeds s) (is_at_rest s.phase) s.pages (held_from source) room (record { shape = shaped.page; view = shaped.view }) (held_of s h) in
    record { setup = h.setup; pages = put.all; count = put.count }

same_pages : (feeder : Bool) (old new : List HeldPage) → AreSamePages old new → AreHeld feeder old → AreHeld feeder new
same_pages feeder old new (inl e) h = subst (λ (pages : List HeldPage). AreHeld feeder pages) (sym e) h
same_pages feeder old new (inr (n, e)) h = subst (λ (pages : List HeldPage). AreHeld feeder pages) (sym e) (recounted feeder n old h)

pages_after : (s t : DeviceState) → AreSamePages s.pages t.pages ⊎ LetsGo s t → AreHeld (feeds s) s.pages → AreHeld (feeds s) t.pages
pages_after s t (inl same) h = same_pages (feeds s) s.pages t.pages same h
pages_after s t (inr gone) h =
    let left = subst (λ (b : Bool). AreHeld (feeds s) (left_behind b s.pages)) gone.is_feeder (fewer (feeds s) s.pages h) in
    subst (λ (pages : List HeldPage). AreHeld (feeds s) pages) (sym gone.pages) left

pub scan_limits : (s t : DeviceState) → HasLimits s → IsSameScan s t → HasLimits t
scan_limits s t h same =
    limits_at s t (subst (λ (x : Setup). IsAllowed x) (sym same.setup) h.setup) (ap (λ (x : Setup). is_feeder x.scene.kind) same.setup) (pages_after s t same.pages (held_of s h))

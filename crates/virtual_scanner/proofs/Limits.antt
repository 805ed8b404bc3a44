-- The limits of a scanner through its calls.
use Rattle.std.proofs.Common.{◌≡◌, ◌∙◌, ◌+◌, ◌≤◌, ◌<◌, sym, ap, subst, refl, arith, ℕ, suc, Bool, true, false, List, [], ◌∷◌, ◌++◌, map, length, drop, slice_index_or, slice_set}
use Rattle.std.specs.Prelude.{Option, Some, None, Result, Ok, Err, IfOk, OnOk, OnErr, All, Vec, vec_capacity, vec_len}
use Rattle.std.specs.Global.{Global}
use Rattle.page_picture.specs.declared.scene.DeviceKind.{DeviceKind}
use Rattle.std.proofs.lemmas.List.{drop_more, length-map, map-append}
use Rattle.std.proofs.lemmas.List.Elements.{All-nil, All-cons, All-head, All-tail}
use Rattle.sane_fixed.specs.declared.byte_order.ByteOrder.{ByteOrder}
use Rattle.sane_fixed.specs.declared.info.Info.{Info}
use Rattle.sane_fixed.specs.declared.status.Status.{Status}
use Rattle.option_desc.specs.declared.value.Value.{Value}
use Rattle.page_picture.specs.Page.{IsShaped, IsPageView, PageView}
use Rattle.page_sources.specs.SourceView.{source_state}
use Rattle.page_picture.specs.Source.{SourceState}
use Rattle.page_sources.specs.declared.kinds.Source.{Source}
use Rattle.scan_frames.specs.PassReading.{BeginsPass, FrameProgress, IsFrame, ReadsFrame}
use Rattle.scan_frames.specs.declared.faults.BeginFault.{BeginFault}
use Rattle.scan_frames.specs.declared.faults.BeginFault.TheVariants.{NoPicture, SourceFailed as NotBegun, NoMem}
use Rattle.scan_frames.specs.declared.faults.ReadEnd.{ReadEnd}
use Rattle.scan_frames.specs.declared.faults.ReadEnd.TheVariants.{End, SourceFailed}
use Rattle.scan_frames.specs.declared.setup.Setup.{Setup}
use Rattle.device_api.proofs.SameLaws.{set_same}
use Rattle.device_api.specs.ScannerLimits.{HasLimits, IsAllowed, IsHeldPage, IsPageCount}
use Rattle.device_api.specs.Kinds.{is_feeder}
use Rattle.device_api.specs.State.{Phase, held_from, left_behind, pages_with, tray_room}
use Rattle.device_api.specs.State.Phase.{AtRest}
use Rattle.device_api.specs.Values.{defaults, setup_after}
use Rattle.sane_fixed.specs.declared.device_info.DeviceInfo.{DeviceInfo}
use Rattle.virtual_scanner.specs.Answers.{AnswersUnless}
use Rattle.virtual_scanner.specs.First.{OfFirst, OnFirst}
use Rattle.virtual_scanner.specs.Inside.{HasFrameOfFirst, device_on}
use Rattle.virtual_scanner.specs.Phases.{IsStill, phase_of, pass_to_start}
use Rattle.virtual_scanner.specs.declared.at.At.{At}
use Rattle.virtual_scanner.specs.declared.at.At.TheVariants.{Rest, Between as IsBetween, Reading as IsReading}

-- it is the page that it was, and its rows are told of as before
pub record IsSamePage (s t : SourceState) : Type 0 where
  pub page : t.page ≡ s.page
  pub steady : t.steady ≡ s.steady

same_page : (s t u : SourceState) → t ≡ u → u.page ≡ s.page → u.steady ≡ s.steady → IsSamePage s t
same_page s t u e p q = record { page = ap (λ (x : SourceState). x.page) e ∙ p; steady = ap (λ (x : SourceState). x.steady) e ∙ q }

pub begins_same : (s t : SourceState) (setup : Setup) (pass : ℕ) (result : Result FrameProgress BeginFault) → BeginsPass s setup pass result t → IsSamePage s t
begins_same s t setup pass (Ok f) h = same_page s t _ h.after refl refl
begins_same s t setup pass (Err NoPicture) h = same_page s t s h.1 refl refl
begins_same s t setup pass (Err NoMem) h = same_page s t s h.1 refl refl
begins_same s t setup pass (Err NotBegun) h = same_page s t _ h.1.rest refl refl

ends_same : (s t : SourceState) (setup : Setup) (f g : FrameProgress) (end : ReadEnd) (buf : List ℕ) → ReadsFrame setup (record { source = s; frame = f }) (Err end) (record { source = t; frame = g }) buf → IsSamePage s t
ends_same s t setup f g End buf h = same_page s t s h.1 refl refl
ends_same s t setup f g SourceFailed buf h = same_page s t _ h.1.after refl refl

pub answers_same : (s t : SourceState) (setup : Setup) (f g : FrameProgress) (told : Option Status) (result : Result ℕ Status) (buf : List ℕ) → AnswersUnless told setup (record { source = s; frame = f }) result (record { source = t; frame = g }) buf → IsSamePage s t
answers_same s t setup f g None (Ok n) buf h = same_page s t _ h.source.after refl refl
answers_same s t setup f g None (Err status) buf h = ends_same s t setup f g h.reason buf h.ends
answers_same s t setup f g (Some told) result buf h = same_page s t s h.1 refl refl

held_same : (s t : SourceState) → IsSamePage s t → IsHeldPage (held_from s) → IsHeldPage (held_from t)
held_same s t same held = record {
  shape = subst (λ (p : PageView). IsShaped p) (sym same.page) held.shape;
  view = λ steady. subst (λ (p : PageView). IsPageView p) (sym same.page) (held.view (sym same.steady ∙ steady));
}

first_same : (did : SourceState → SourceState → Type 0) (xs ys : List SourceState) → ((s t : SourceState) → did s t → IsSamePage s t) → OnFirst did xs ys → All IsHeldPage (map held_from xs) → All IsHeldPage (map held_from ys)
first_same did [] ys same h all = absurd h
first_same did (s ∷ more) ys same h all =
    subst (λ (zs : List SourceState). All IsHeldPage (map held_from zs)) (sym h.2)
    (All-cons IsHeldPage (held_from h.0) (map held_from more) (held_same s h.0 (same s h.0 h.1) (All-head IsHeldPage (held_from s) (map held_from more) all)) (All-tail IsHeldPage (held_from s) (map held_from more) all))

first_count : (did : SourceState → SourceState → Type 0) (xs ys : List SourceState) → OnFirst did xs ys → length (map held_from ys) ≡ length (map held_from xs)
first_count did [] ys h = absurd h
first_count did (s ∷ more) ys h = ap (λ (zs : List SourceState). length (map held_from zs)) h.2

-- what happens to the first page keeps the limits
pub limits_on : (info : DeviceInfo) (setup : Setup) (did : SourceState → SourceState → Type 0) (xs ys : List SourceState) (p q : Phase) → ((s t : SourceState) → did s t → IsSamePage s t) → OnFirst did xs ys → HasLimits (device_on info setup xs p) → HasLimits (device_on info setup ys q)
limits_on info setup did xs ys p q same h limits = record {
  setup = limits.setup;
  pages = first_same did xs ys same h limits.pages;
  count = subst (λ (n : ℕ). IsPageCount (is_feeder setup.scene.kind) n) (sym (first_count did xs ys h)) limits.count;
}

-- a page that is let go keeps them
fewer : (feeder : Bool) (xs : List SourceState) → IsPageCount feeder (length (map held_from xs)) → IsPageCount feeder (length (map held_from (left_behind feeder xs)))
fewer false xs h = h
fewer true [] h = h
fewer true (s ∷ more) h = omega arith

left_held : (feeder : Bool) (xs : List SourceState) → All IsHeldPage (map held_from xs) → All IsHeldPage (map held_from (left_behind feeder xs))
left_held false xs all = all
left_held true [] all = all
left_held true (s ∷ more) all = All-tail IsHeldPage (held_from s) (map held_from more) all

pub limits_left : (info : DeviceInfo) (setup : Setup) (xs : List SourceState) (p q : Phase) → HasLimits (device_on info setup xs p) → HasLimits (device_on info setup (left_behind (is_feeder setup.scene.kind) xs) q)
limits_left info setup xs p q limits = record {
  setup = limits.setup;
  pages = left_held (is_feeder setup.scene.kind) xs limits.pages;
  count = fewer (is_feeder setup.scene.kind) xs limits.count;
}

-- so does a page that is put in where there is room
put_held : (feeder : Bool) (xs : List SourceState) (s : SourceState) → IsHeldPage (held_from s) → All IsHeldPage (map held_from xs) → All IsHeldPage (map held_from (pages_with feeder xs s))
put_held false xs s held all = All-cons IsHeldPage (held_from s) [] held (All-nil IsHeldPage)
put_held true [] s held all = All-cons IsHeldPage (held_from s) [] held (All-nil IsHeldPage)
put_held true (x ∷ xs) s held all =
    All-cons IsHeldPage (held_from x) (map held_from (xs ++ s ∷ [])) (All-head IsHeldPage (held_from x) (map held_from xs) all) (put_held true xs s held (All-tail IsHeldPage (held_from x) (map held_from xs) all))

one_more : (xs : List SourceState) (s : SourceState) → length (map held_from (xs ++ s ∷ [])) ≡ length xs + 1
one_more [] s = refl
one_more (x ∷ xs) s = let more = one_more xs s in omega arith

put_count : (feeder : Bool) (xs : List SourceState) (s : SourceState) → (feeder ≡ true → length xs < tray_room) → IsPageCount feeder (length (map held_from (pages_with feeder xs s)))
put_count false xs s room = refl
put_count true xs s room = let below = room refl in let count = one_more xs s in omega arith

pub limits_put : (info : DeviceInfo) (setup : Setup) (xs : List SourceState) (s : SourceState) (p q : Phase) → IsHeldPage (held_from s) → (is_feeder setup.scene.kind ≡ true → length xs < tray_room) → HasLimits (device_on info setup xs p) → HasLimits (device_on info setup (pages_with (is_feeder setup.scene.kind) xs s) q)
limits_put info setup xs s p q held room limits = record {
  setup = limits.setup;
  pages = put_held (is_feeder setup.scene.kind) xs s held limits.pages;
  count = put_count (is_feeder setup.scene.kind) xs s room;
}

-- so do other options of the same kind
pub limits_set : (info : DeviceInfo) (s t : Setup) (xs : List SourceState) (p q : Phase) → t.scene.kind ≡ s.scene.kind → IsAllowed t → HasLimits (device_on info s xs p) → HasLimits (device_on info t xs q)
limits_set info s t xs p q kind allowed limits = record {
  setup = allowed;
  pages = limits.pages;
  count = subst (λ k. IsPageCount (is_feeder k) (length (map held_from xs))) (sym kind) limits.count;
}

pub kind_after : (s t : Setup) (n : ℕ) (result : Result (Value × Info) Status) → IfOk result (λ given. t ≡ setup_after s n given.0) → OnErr result (t ≡ s) → t.scene.kind ≡ s.scene.kind
kind_after s t n (Ok given) ok err = ap (λ (x : Setup). x.scene.kind) ok ∙ kind_set s n given.0
  where
    kind_set : (s : Setup) (n : ℕ) (given : Value) → (setup_after s n given).scene.kind ≡ s.scene.kind
    kind_set s n given = (set_same (record { info = record { name = []; vendor = []; model = []; class = [] }; setup = s; pages = []; phase = AtRest false }) n given).setup.kind
kind_after s t n (Err _) ok err = ap (λ (x : Setup). x.scene.kind) err

-- ---- the frame that is read

pub frame_begun : (setup : Setup) (pass : ℕ) (f : FrameProgress) (xs ys : List SourceState) → OnFirst (λ s t. BeginsPass s setup pass (Ok f) t) xs ys → OfFirst (λ s. IsFrame s setup f) ys
frame_begun setup pass f [] ys h = absurd h
frame_begun setup pass f (s ∷ more) ys h = subst (λ (zs : List SourceState). OfFirst (λ s. IsFrame s setup f) zs) (sym h.2) h.1.frame

frame_read : (setup : Setup) (s t : SourceState) (f g : FrameProgress) (told : Option Status) (n : ℕ) (buf : List ℕ) → AnswersUnless told setup (record { source = s; frame = f }) (Ok n) (record { source = t; frame = g }) buf → IsFrame t setup g
frame_read setup s t f g None n buf h = h.frame
frame_read setup s t f g (Some status) n buf h = absurd (let e : Ok n ≡ Err status = h.0 in (cc))

pub frame_goes_on : (setup : Setup) (f g : FrameProgress) (told : Option Status) (n : ℕ) (buf : List ℕ) (xs ys : List SourceState) → OnFirst (λ s t. AnswersUnless told setup (record { source = s; frame = f }) (Ok n) (record { source = t; frame = g }) buf) xs ys → OfFirst (λ s. IsFrame s setup g) ys
frame_goes_on setup f g told n buf [] ys h = absurd h
frame_goes_on setup f g told n buf (s ∷ more) ys h = subst (λ (zs : List SourceState). OfFirst (λ s. IsFrame s setup g) zs) (sym h.2) (frame_read setup s h.0 f g told n buf h.1)

-- where no frame is read there is nothing to keep
pub still_frame : (at : At) (setup : Setup) (xs : List SourceState) → IsStill at → HasFrameOfFirst at setup xs
still_frame (Rest _) setup xs h = tt
still_frame (IsBetween _) setup xs h = tt
still_frame (IsReading _) setup xs h = absurd h

pub waiting_frame : (at : At) (pass : ℕ) (setup : Setup) (xs : List SourceState) → pass_to_start (phase_of at) ≡ Some pass → HasFrameOfFirst at setup xs
waiting_frame (Rest _) pass setup xs e = tt
waiting_frame (IsBetween _) pass setup xs e = tt
waiting_frame (IsReading _) pass setup xs e = absurd (cc)

-- the frame is one of the first source
pub frame_at : (setup : Setup) (f : FrameProgress) (xs : List Source) (x : Source) → x ≡ slice_index_or xs 0 x → OfFirst (λ s. IsFrame s setup f) (map source_state xs) → IsFrame (source_state x) setup f
frame_at setup f [] x e h = absurd h
frame_at setup f (y ∷ ys) x e h = subst (λ (z : Source). IsFrame (source_state z) setup f) (sym e) h

-- what was done with it
pub first_did : (did : SourceState → SourceState → Type 0) (there : SourceState → Type 0) (xs : List Source) (x y : Source) → x ≡ slice_index_or xs 0 x → OfFirst there (map source_state xs) → did (source_state x) (source_state y) → OnFirst did (map source_state xs) (map source_state (slice_set xs 0 y))
first_did did there [] x y e h d = absurd h
first_did did there (z ∷ zs) x y e h d = (source_state y, subst (λ (w : Source). did (source_state w) (source_state y)) e d, refl)

-- ---- one page after another

pub held_on : (xs : List Source) (i : ℕ) (x : Source) → i < length xs → x ≡ slice_index_or xs i x → IsHeldPage (held_from (source_state x)) → All IsHeldPage (map held_from (map source_state (drop (i + 1) xs))) → All IsHeldPage (map held_from (map source_state (drop i xs)))
held_on xs i x within at held rest =
    let here : drop i xs ≡ x ∷ drop (i + 1) xs = drop_more xs i x within ∙ ap (λ (y : Source). y ∷ drop (i + 1) xs) (sym at) in
    subst (λ (zs : List Source). All IsHeldPage (map held_from (map source_state zs))) (sym here) (All-cons IsHeldPage (held_from (source_state x)) _ held rest)

pub map-pages_with : (feeder : Bool) (xs : List Source) (x : Source) → map source_state (pages_with feeder xs x) ≡ pages_with feeder (map source_state xs) (source_state x)
map-pages_with false xs x = refl
map-pages_with true xs x = map-append source_state xs (x ∷ [])

pub map-left_behind : (feeder : Bool) (xs : List Source) → map source_state (left_behind feeder xs) ≡ left_behind feeder (map source_state xs)
map-left_behind false xs = refl
map-left_behind true [] = refl
map-left_behind true (x ∷ xs) = refl

-- at rest no frame is kept
pub kept_frame : (at : At) (cancelled : Bool) (setup : Setup) (xs : List SourceState) → at ≡ Rest cancelled → HasFrameOfFirst at setup xs
kept_frame at cancelled setup xs e = subst (λ (a : At). HasFrameOfFirst a setup xs) (sym e) tt

pub kind_default : (s t : Setup) → t ≡ defaults s.scene.kind s.order → t.scene.kind ≡ s.scene.kind
unfolding defaults
kind_default s t e = ap (λ (x : Setup). x.scene.kind) e

-- a tray keeps its room
pub same_room : (old new : Vec Source Global) (kind : DeviceKind) → vec_capacity new ≡ vec_capacity old → (is_feeder kind ≡ true → tray_room ≤ vec_capacity old) → is_feeder kind ≡ true → tray_room ≤ vec_capacity new
same_room old new kind same room feeds = let had = room feeds in omega arith

pub more_room : (old new : Vec Source Global) (kind : DeviceKind) → vec_capacity old ≤ vec_capacity new → (is_feeder kind ≡ true → tray_room ≤ vec_capacity old) → is_feeder kind ≡ true → tray_room ≤ vec_capacity new
more_room old new kind more room feeds = let had = room feeds in omega arith

-- a scanner that is made has them
pub limits_new : (info : DeviceInfo) (kind : DeviceKind) (order : ByteOrder) (setup : Setup) (xs : List SourceState) (p : Phase) → setup ≡ defaults kind order → IsAllowed setup → All IsHeldPage (map held_from xs) → IsPageCount (is_feeder kind) (length (map held_from xs)) → HasLimits (device_on info setup xs p)
unfolding defaults
limits_new info kind order setup xs p e allowed held count = record {
  setup = allowed;
  pages = held;
  count = subst (λ (t : Setup). IsPageCount (is_feeder t.scene.kind) (length (map held_from xs))) (sym e) count;
}

pub kind_new : (kind : DeviceKind) (order : ByteOrder) (setup : Setup) → setup ≡ defaults kind order → setup.scene.kind ≡ kind
unfolding defaults
kind_new kind order setup e = ap (λ (t : Setup). t.scene.kind) e

-- a load keeps them
pub limits_loaded : (info : DeviceInfo) (setup : Setup) (old new : Vec Source Global) (page : Source) (result : Result Unit Source) (p : Phase) → OnOk result (new.items ≡ pages_with (is_feeder setup.scene.kind) old.items page) → OnErr result (new ≡ old) → OnOk result (is_feeder setup.scene.kind ≡ true → vec_len old < tray_room) → IsHeldPage (held_from (source_state page)) → HasLimits (device_on info setup (map source_state old.items) p) → HasLimits (device_on info setup (map source_state new.items) p)
limits_loaded info setup old new page (Err _) p ok err fits held limits = subst (λ (v : Vec Source Global). HasLimits (device_on info setup (map source_state v.items) p)) (sym err) limits
limits_loaded info setup old new page (Ok _) p ok err fits held limits =
    let pages = ap (map source_state) ok ∙ map-pages_with (is_feeder setup.scene.kind) old.items page in
    let room : is_feeder setup.scene.kind ≡ true → length (map source_state old.items) < tray_room = λ feeds. rw length-map (let few = fits feeds in omega (arith, old.ok.0)) in
    subst (λ (zs : List SourceState). HasLimits (device_on info setup zs p)) (sym pages) (limits_put info setup (map source_state old.items) (source_state page) p p held room limits)

pub count_of : (xs : List Source) → length (map held_from (map source_state xs)) ≡ length xs
count_of [] = refl
count_of (x ∷ xs) = ap suc (count_of xs)

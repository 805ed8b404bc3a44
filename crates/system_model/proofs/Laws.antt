-- THE LAWS OF THE LAYERS BELOW: nothing else is known of them.
use Rattle.std.proofs.Common.{arith, ◌≤◌, ◌≡◌, ◌≢◌, ◌↔◌, ◌∙◌, ℕ, ◌+◌, List, [], ◌∷◌, ◌++◌, Bool, true, false, refl, sym, ap, subst, length, length-append, take, drop}
use Rattle.std.proofs.lemmas.Bool.{le-ltb}
use Rattle.std.proofs.lemmas.List.{length-take-le, take-append-drop}
use Rattle.std.specs.Prelude.{Option, Some, None, option_map, if◌then◌else◌, Result, Ok, Err, ◌==◌, ◌&&◌, not, nat_lt}
use Rattle.sane_fixed.specs.declared.status.Status.TheVariants.{Good}
use Rattle.sane_fixed.specs.declared.status.Status.{Status}
use Rattle.sane_fixed.specs.declared.status.Status.TheVariants as code
use Rattle.sane_fixed.specs.declared.info.Info.{Info as Bits}
use Rattle.sane_fixed.specs.declared.byte_order.ByteOrder.{ByteOrder as Order}
use Rattle.sane_fixed.specs.declared.params.Params.{Params}
use Rattle.option_desc.specs.declared.value.Value.{Value}
use Rattle.page_picture.specs.Shows.{Frame}
use Rattle.frame_join.specs.AloneFrame.{most_bytes}
use Rattle.frame_join.specs.FrameHistory.{is_accepted, is_full_at}
use Rattle.frame_join.specs.KeptFrame.{color_number, goes_with, is_alike, is_pass_that}
use Rattle.scan_frames.specs.Frames as scan
use Rattle.scan_frames.specs.declared.setup.Setup.{Setup}
use Rattle.device_api.specs.ScannerLimits as limits
use Rattle.device_api.specs.Values.{option_set, setup_after}
use Rattle.device_api.proofs.AllowedLaws as allowed
use Rattle.scan_laws.specs.SetInfo.{has_bit}
use Rattle.scan_laws.specs.Weights.{weight}
use Rattle.scan_laws.specs.SetAndJoin as rules
use Rattle.scan_laws.proofs.Ruled as ruled
use Rattle.scan_laws.proofs.Sets.{tells}
use Rattle.scan_laws.proofs.NearestSet.{set_nearest}
use Rattle.device_api.specs.Kinds.{Page}
use Rattle.system_model.specs.Devices.{Make, readable_options, OptionsInForce, AbstractAcceptedSet, AreOptionsAllowed, IsPageShaped, IsNearest, abstract_accepted_set, default_options, read_status_of, descriptors_in_force, accept_value, picture_frames, order_of, accepts, frame_overflows, frame_fills}
use Rattle.system_model.specs.Sync.{AreJoinable}
use Rattle.system_model.specs.AbstractInForce.{AreReadable}
use Rattle.system_model.proofs.Readable as readable_laws
use Rattle.system_model.specs.Variant.{payload_total}

-- OPTIONS
-- options stay within their limits
pub defaults_allowed : (k : Make) → AreOptionsAllowed k (default_options k)
unfolding AreOptionsAllowed default_options
defaults_allowed k = allowed.defaults_allowed k.model k.order

-- the put of an answer
record PutParts (o : Setup) (n : ℕ) (v : Value) (put : AbstractAcceptedSet) : Type 0 where
  real : rules.AcceptedSet
  is : rules.accept_set o n v ≡ Some real
  put_is : abstract_accepted_set real ≡ put

parts_of : (o : Setup) (n : ℕ) (v : Value) (put : AbstractAcceptedSet) (r : Option rules.AcceptedSet) → rules.accept_set o n v ≡ r → option_map abstract_accepted_set r ≡ Some put → PutParts o n v put
parts_of o n v put None e h = cc
parts_of o n v put (Some p) e h = record { real = p; is = e; put_is = cc }

parts : (k : Make) (o : OptionsInForce) (n : ℕ) (v : Value) (put : AbstractAcceptedSet) → accept_value k o n v ≡ Some put → PutParts o n v put
unfolding accept_value
parts k o n v put e = parts_of o n v put (rules.accept_set o n v) refl e

pub put_allowed : (k : Make) (o : OptionsInForce) (n : ℕ) (v : Value) (put : AbstractAcceptedSet) → AreOptionsAllowed k o → accept_value k o n v ≡ Some put → AreOptionsAllowed k put.options
unfolding AreOptionsAllowed
put_allowed k o n v put a e =
    let p = parts k o n v put e in
    subst (λ (t : Setup). limits.IsAllowed t) (ap (λ (x : AbstractAcceptedSet). x.options) p.put_is) (ruled.put_allowed o n v p.real a p.is)

-- descriptors change only where the info says so
pub steady : (k : Make) (o : OptionsInForce) (n : ℕ) (v : Value) (put : AbstractAcceptedSet) → accept_value k o n v ≡ Some put → put.info.reload_options ≡ false → descriptors_in_force k put.options ≡ descriptors_in_force k o
unfolding descriptors_in_force
steady k o n v put e r =
    let p = parts k o n v put e in
    let b : has_bit p.real.info 2 ≡ false = ap (λ (x : AbstractAcceptedSet). x.info.reload_options) p.put_is ∙ r in
    sym (ap (λ (x : AbstractAcceptedSet). descriptors_in_force k x.options) p.put_is) ∙ ruled.steady o n v p.real p.is b

answer_of : (o : Setup) (n : ℕ) (v : Value) (put : rules.AcceptedSet) (r : Result (Value × Bits) Status) → option_set o n v ≡ r → rules.accepted_set_by o n r ≡ Some put → option_set o n v ≡ Ok (put.given, put.info)
answer_of o n v put (Ok answer) e h =
    let same : record { given = answer.0; info = answer.1; setup = setup_after o n answer.0 } ≡ put = (let some : Some (record { given = answer.0; info = answer.1; setup = setup_after o n answer.0 }) ≡ Some put = h in cc) in
    e ∙ ap (λ (p : rules.AcceptedSet). Ok (p.given, p.info)) same
answer_of o n v put (Err _) e h = absurd (let clash : None ≡ Some put = h in cc)

answered : (o : Setup) (n : ℕ) (v : Value) (put : rules.AcceptedSet) → rules.accept_set o n v ≡ Some put → option_set o n v ≡ Ok (put.given, put.info)
unfolding rules.accept_set
answered o n v put e = answer_of o n v put (option_set o n v) refl e

-- what is given is the nearest admitted value, and INEXACT stands just where it differs
pub is_nearest : (k : Make) (o : OptionsInForce) (n : ℕ) (v : Value) (put : AbstractAcceptedSet) → accept_value k o n v ≡ Some put → IsNearest k o n v put.given × ((put.info.inexact ≡ true) ↔ (put.given ≢ v))
unfolding IsNearest
is_nearest k o n v put e =
    let p = parts k o n v put e in
    let a = answered o n v p.real p.is in
    let t = tells o n v p.real.given p.real.info a in
    subst (λ (x : AbstractAcceptedSet). IsNearest k o n v x.given × ((x.info.inexact ≡ true) ↔ (x.given ≢ v))) p.put_is
    (set_nearest o n v p.real.given p.real.info a, t.inexact)

-- no device answers GOOD in place of its data
never : (s : Option Status) → s ≡ Some Good → s ≡ Some code.Good
never None e = cc
never (Some code.Good) e = refl
never (Some s) e = cc

pub never_good : (k : Make) (o : OptionsInForce) → AreOptionsAllowed k o → read_status_of k o ≡ Some Good → ⊥
unfolding read_status_of AreOptionsAllowed
never_good k o a e = a.told (never o.told e)

-- FRAMES
abbrev AllIn : Order → List Frame → Type 0
AllIn order [] = Unit {0}
AllIn order (f ∷ more) = (f.order ≡ order) × AllIn order more

given_by : (o : Setup) (page_view : Page) (b c : Bool) → AllIn o.order (if b then (if c then scan.frame_of o page_view 0 ∷ scan.frame_of o page_view 1 ∷ scan.frame_of o page_view 2 ∷ [] else scan.frame_of o page_view 0 ∷ []) else [])
given_by o page_view true true = (refl, (refl, (refl, tt)))
given_by o page_view true false = (refl, tt)
given_by o page_view false c = tt

given_in : (o : Setup) (page_view : Page) → AllIn o.order (rules.frames_given o page_view)
unfolding rules.frames_given
given_in o page_view = given_by o page_view (scan.has_picture o page_view) (scan.takes_colors o.scene.kind o.scene.mode)

fits : (f : Frame) → ((front rest : List ℕ) → front ++ rest ≡ f.payload → length front ≤ most_bytes f.params) → (bytes rest : List ℕ) → bytes ++ rest ≡ f.payload → frame_overflows f.params bytes ≡ false
unfolding frame_overflows
fits f h bytes rest e = le-ltb (most_bytes f.params) (length bytes) (h bytes rest e)

properly : (order : Order) (done more : List Frame) → AllIn order more → rules.AreTakenInOrder done more → AreJoinable order done more
unfolding accepts frame_fills
properly order done [] a p = tt
properly order done (f ∷ more) a p = (
  subst (λ (x : Order). is_accepted done f.params x ≡ true) a.0 p.0.accepted,
  fits f p.0.fits,
  p.0.full,
  p.0.none_is_short,
  p.0.last,
  a.0,
  properly order (done ++ f ∷ []) more a.1 p.1,
)

-- the join of frames takes a device's frames
pub proper : (k : Make) (o : OptionsInForce) (page_view : Page) → AreOptionsAllowed k o → IsPageShaped page_view → AreJoinable (order_of k o) [] (picture_frames k o page_view)
unfolding picture_frames order_of AreOptionsAllowed IsPageShaped
proper k o page_view a s = properly o.order [] (rules.frames_given o page_view) (given_in o page_view) (ruled.proper o page_view a s)

same_total : (fs : List Frame) → payload_total fs ≡ weight fs
same_total [] = refl
same_total (f ∷ fs) = ap (λ (n : ℕ). length f.payload + n) (same_total fs)

three_by : (o : Setup) (page_view : Page) (b c : Bool) → length (if b then (if c then scan.frame_of o page_view 0 ∷ scan.frame_of o page_view 1 ∷ scan.frame_of o page_view 2 ∷ [] else scan.frame_of o page_view 0 ∷ []) else []) ≤ 3
three_by o page_view true true = omega arith
three_by o page_view true false = omega arith
three_by o page_view false c = omega arith

three : (o : Setup) (page_view : Page) → length (rules.frames_given o page_view) ≤ 3
unfolding rules.frames_given
three o page_view = three_by o page_view (scan.has_picture o page_view) (scan.takes_colors o.scene.kind o.scene.mode)

-- a page has three frames at most, and so many bytes: 9,448 lines of 57,072 bytes
pub small : (k : Make) (o : OptionsInForce) (page_view : Page) → AreOptionsAllowed k o → (payload_total (picture_frames k o page_view) ≤ 539216256) × (length (picture_frames k o page_view) ≤ 3)
unfolding picture_frames AreOptionsAllowed
small k o page_view a = (let h = ruled.few o page_view a in let e = same_total (rules.frames_given o page_view) in omega arith, three o page_view)

-- WHAT COMES IN PLACE OF A FRAME'S BYTES: as many are joined as they
-- frames of the same parameters and byte orders
abbrev AreLike : List Frame → List Frame → Type 0
AreLike [] [] = Unit {0}
AreLike (f ∷ fs) (g ∷ gs) = (f.params ≡ g.params) × (f.order ≡ g.order) × AreLike fs gs
AreLike fs gs = ⊥

like_themselves : (fs : List Frame) → AreLike fs fs
like_themselves [] = tt
like_themselves (f ∷ fs) = (refl, refl, like_themselves fs)

like_behind : (fs gs : List Frame) (f g : Frame) → AreLike fs gs → f.params ≡ g.params → f.order ≡ g.order → AreLike (fs ++ f ∷ []) (gs ++ g ∷ [])
like_behind [] [] f g h p o = (p, o, tt)
like_behind [] (y ∷ gs) f g h p o = absurd h
like_behind (x ∷ fs) [] f g h p o = absurd h
like_behind (x ∷ fs) (y ∷ gs) f g h p o = (h.0, h.1, like_behind fs gs f g h.2 p o)

same_goes : (f g : Frame) (params : Params) (order : Order) → f.params ≡ g.params → f.order ≡ g.order → goes_with f params order ≡ goes_with g params order
same_goes f g params order p o = ap (λ (x : Params). not (color_number x.format == color_number params.format) && is_alike x f.order params order) p ∙ ap (λ (x : Order). not (color_number g.params.format == color_number params.format) && is_alike g.params x params order) o

same_accepted : (fs gs : List Frame) (params : Params) (order : Order) → AreLike fs gs → is_accepted fs params order ≡ is_accepted gs params order
same_accepted [] [] params order h = refl
same_accepted [] (b ∷ gs) params order h = absurd h
same_accepted (a ∷ fs) [] params order h = absurd h
same_accepted (a ∷ []) (b ∷ []) params order h = ap (λ (x : Bool). is_pass_that false params && x) (same_goes a b params order h.0 h.1)
same_accepted (a ∷ []) (b ∷ d ∷ gs) params order h = absurd h.2
same_accepted (a ∷ c ∷ fs) (b ∷ []) params order h = absurd h.2
same_accepted (a ∷ c ∷ []) (b ∷ d ∷ []) params order h =
    ap (λ (x : Bool). is_pass_that true params && (x && goes_with c params order)) (same_goes a b params order h.0 h.1)
    ∙ ap (λ (x : Bool). is_pass_that true params && (goes_with b params order && x)) (same_goes c d params order h.2.0 h.2.1)
same_accepted (a ∷ c ∷ []) (b ∷ d ∷ e ∷ gs) params order h = absurd h.2.2
same_accepted (a ∷ c ∷ e ∷ fs) (b ∷ d ∷ []) params order h = absurd h.2.2
same_accepted (a ∷ c ∷ e ∷ fs) (b ∷ d ∷ g ∷ gs) params order h = refl

like_accepted : (fs gs : List Frame) (params : Params) (order : Order) → AreLike fs gs → accepts fs params order ≡ accepts gs params order
unfolding accepts
like_accepted fs gs params order h = same_accepted fs gs params order h

joined_like : (order : Order) (fs gs more : List Frame) → AreLike fs gs → AreJoinable order fs more → AreJoinable order gs more
joined_like order fs gs [] h p = tt
joined_like order fs gs (f ∷ more) h p = (
  sym (like_accepted fs gs f.params order h) ∙ p.0,
  p.1,
  p.2,
  p.3,
  p.4,
  p.5,
  joined_like order (fs ++ f ∷ []) (gs ++ f ∷ []) more (like_behind fs gs f f h refl refl) p.6,
)

overflows_alike : (params : Params) (xs ys : List ℕ) → length xs ≡ length ys → frame_overflows params xs ≡ frame_overflows params ys
unfolding frame_overflows
overflows_alike params xs ys e = ap (λ (n : ℕ). nat_lt (most_bytes params) n) e

fills_alike : (params : Params) (xs ys : List ℕ) → length xs ≡ length ys → frame_fills params xs ≡ frame_fills params ys
unfolding frame_fills
fills_alike params xs ys e = ap (λ (n : ℕ). is_full_at params.lines params.bytes_per_line n) e

-- the join takes a frame with as many other bytes, and those behind it
pub retaken : (order : Order) (done more : List Frame) (f : Frame) (bytes : List ℕ) → length bytes ≡ length f.payload → AreJoinable order done (f ∷ more) → AreJoinable order done (record f { payload = bytes } ∷ more)
retaken order done more f bytes e p = (
  p.0,
  (λ front rest is.
      let n = length-append front rest in
      let short : length (take (length front) f.payload) ≡ length front = length-take-le (length front) f.payload (let whole = ap length is in omega arith) in
      overflows_alike f.params front (take (length front) f.payload) (sym short) ∙ p.1 (take (length front) f.payload) (drop (length front) f.payload) (take-append-drop (length front) f.payload)),
  fills_alike f.params bytes f.payload e ∙ p.2,
  p.3,
  p.4,
  p.5,
  joined_like order (done ++ f ∷ []) (done ++ record f { payload = bytes } ∷ []) more (like_behind done done f (record f { payload = bytes }) (like_themselves done) refl refl) p.6,
)

-- VALUES
-- what a client asks the value of is told, and there are few such options
pub told : (k : Make) (o : OptionsInForce) → AreReadable k o (readable_options (descriptors_in_force k o))
told = readable_laws.told

pub few : (k : Make) (o : OptionsInForce) → length (readable_options (descriptors_in_force k o)) ≤ 32
few = readable_laws.few

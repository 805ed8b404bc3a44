-- What a join stands for, call by call, by what is kept of the frames.
use Rattle.std.proofs.Common.{◌≡◌, ℕ, ◌+◌, Bool, true, false, List, [], ◌++◌, length, arith, refl, sym, ap, ◌∙◌, subst}
use Rattle.std.specs.Prelude.{nat_lt, Option, Some, None, option_map}
use Rattle.netpbm.specs.NoFile.{HoldsNoFile}
use Rattle.sane_fixed.specs.declared.params.Params.{Params}
use Rattle.sane_fixed.specs.declared.byte_order.ByteOrder.{ByteOrder}
use Rattle.page_picture.specs.Shows.{Frame}
use Rattle.frame_join.specs.declared.join_stage.JoinFault.{JoinFault}
use Rattle.frame_join.specs.declared.join_stage.JoinFault.TheVariants.{Shape, Long, NoMem}
use Rattle.frame_join.specs.declared.join_stage.Stage.{Stage}
use Rattle.frame_join.specs.declared.join_stage.Stage.TheVariants.{Idle, Under, Keeping, Between, Whole, WholeColors, Failed}
use Rattle.frame_join.specs.AloneFrame.{is_alone, most_bytes}
use Rattle.frame_join.specs.FrameHistory.{JoinHistory, is_accepted, is_joined, with_fault, after_begin_at, after_feed_at, after_begin, after_feed}
use Rattle.frame_join.specs.JoinStages.{is_keeping, fault_in, is_out_of_memory_at, is_no_mem}
use Rattle.frame_join.specs.PixelJoinStates.{PixelJoinState, PixelRepresents, PixelRepresentsAt, is_pixel_out_of_memory, KeepsFrame}
use Rattle.frame_join.specs.Pixels.{is_kept, pixel_params, pixels_of, pixel_history}
use Rattle.frame_join.specs.JoinStates.{JoinState, Represents, IsComing, AreEnded}
use Rattle.frame_join.proofs.AcceptLaws.{alone_is}
use Rattle.frame_join.proofs.StreamLaws.{nothing_holds_none}
use Rattle.frame_join.proofs.PixelParams.{kept_not_alone, kept_is_alone, accepted_is_kept}
use Rattle.frame_join.proofs.PixelPasts.{new_frame, begins_by, feeds_by, begin_same, feed_same}

-- ---- the frame under way

pub some_same : {X : Type 0} (a b : X) → Some a ≡ Some b → a ≡ b
some_same a b e = cc

-- a frame under way that is not kept is a picture of known height
pub under_alone : (past : JoinHistory) (v : JoinState) → Represents past v → is_keeping v.pixels.stage ≡ false → past.fault ≡ None → (f : Frame) → past.under ≡ Some f → is_alone f.params ≡ true
under_alone past v stands keeps calm f under = by v.pixels.stage stands.pixels.at_stage keeps (sym stands.pixels.fault ∙ calm)
  where
    told : option_map pixels_of past.under ≡ Some (pixels_of f)
    told = ap (option_map pixels_of) under

    none : option_map pixels_of past.under ≡ None → is_alone f.params ≡ true
    none e = absurd (let clash : Some (pixels_of f) ≡ None = sym told ∙ e in cc)

    by : (s : Stage) → PixelRepresentsAt s (pixel_history past) v.pixels → is_keeping s ≡ false → fault_in s ≡ None → is_alone f.params ≡ true
    by Idle at keeps calm = none at.1
    by Under at keeps calm =
        let same : at.0 ≡ pixels_of f = some_same at.0 (pixels_of f) (sym at.2 ∙ told) in
        sym (kept_is_alone f.params) ∙ (ap (λ (g : Frame). is_alone g.params) (sym same) ∙ alone_is at.0.params at.3.goes.alone)
    by Keeping at keeps calm = absurd (let clash : true ≡ false = keeps in cc)
    by Between at keeps calm = none at.0
    by Whole at keeps calm = none at.2
    by WholeColors at keeps calm = none at.4
    by (Failed x) at keeps calm = absurd (let clash : Some x ≡ None = calm in cc)

pub alone_not_kept : (p : Params) → is_alone p ≡ true → is_kept p ≡ false
alone_not_kept p alone = elim (is_kept p) as (λ t. is_kept p ≡ t → t ≡ false) [
  | true ↦ λ kept. absurd (let clash : true ≡ false = sym alone ∙ kept_not_alone p kept in cc)
  | false ↦ λ through. refl
] refl

-- a value that keeps a frame has no fault, and is in that frame
pub record InKept (q : JoinHistory) (w : PixelJoinState) : Type 0 where
  pub fault : q.fault ≡ None
  pub frame : Frame
  pub under : q.under ≡ Some frame
  pub keeps : KeepsFrame frame q w

pub in_kept : (q : JoinHistory) (w : PixelJoinState) → PixelRepresents q w → is_keeping w.stage ≡ true → InKept q w
in_kept q w stands keeping = by w.stage stands.at_stage stands.fault keeping
  where
    by : (s : Stage) → PixelRepresentsAt s q w → q.fault ≡ fault_in s → is_keeping s ≡ true → InKept q w
    by Idle at fault keeping = absurd (let clash : false ≡ true = keeping in cc)
    by Under at fault keeping = absurd (let clash : false ≡ true = keeping in cc)
    by Keeping at fault keeping = record { fault = fault; frame = at.0; under = at.1; keeps = at.2 }
    by Between at fault keeping = absurd (let clash : false ≡ true = keeping in cc)
    by Whole at fault keeping = absurd (let clash : false ≡ true = keeping in cc)
    by WholeColors at fault keeping = absurd (let clash : false ≡ true = keeping in cc)
    by (Failed x) at fault keeping = absurd (let clash : false ≡ true = keeping in cc)

-- ---- a frame begins

ended_by : (joined accepted starved : Bool) (f : Frame) (past : JoinHistory) → (begins_by joined accepted starved f past).ended ≡ past.ended
ended_by true accepted starved f past = refl
ended_by false false starved f past = refl
ended_by false true true f past = refl
ended_by false true false f past = refl

begun_ended : (o : Option JoinFault) (u : Option Frame) (p : Params) (order : ByteOrder) (starved : Bool) (past : JoinHistory) → (after_begin_at o u p order starved past).ended ≡ past.ended
begun_ended (Some fault) u p order starved past = refl
begun_ended None (Some f) p order starved past = refl
begun_ended None None p order starved past = ended_by (is_joined past.ended) (is_accepted past.ended p order) starved (new_frame p order) past

begin_ended : (p : Params) (o : ByteOrder) (starved : Bool) (past : JoinHistory) → (after_begin p o starved past).ended ≡ past.ended
unfolding after_begin
begin_ended p o starved past = begun_ended past.fault past.under p o starved past

-- that a kept frame began
abbrev CameNew : Params → ByteOrder → JoinHistory → Option Frame → Type 0
CameNew p o past u = (u ≡ Some (new_frame p o)) × (is_accepted past.ended p o ≡ true)

new_by : (joined accepted starved : Bool) (p : Params) (o : ByteOrder) (past : JoinHistory) → is_accepted past.ended p o ≡ accepted → past.under ≡ None → (begins_by joined accepted starved (new_frame p o) past).fault ≡ None → (f : Frame) → (begins_by joined accepted starved (new_frame p o) past).under ≡ Some f → CameNew p o past (begins_by joined accepted starved (new_frame p o) past).under
new_by true accepted starved p o past is none calm f under = absurd (let clash : None ≡ Some f = sym none ∙ under in cc)
new_by false false starved p o past is none calm f under = absurd (let clash : Some Shape ≡ None = calm in cc)
new_by false true true p o past is none calm f under = absurd (let clash : Some NoMem ≡ None = calm in cc)
new_by false true false p o past is none calm f under = (refl, is)

begun_new : (x : Option JoinFault) (u : Option Frame) (p : Params) (o : ByteOrder) (starved : Bool) (past : JoinHistory) → past.fault ≡ x → past.under ≡ u → (after_begin_at x u p o starved past).fault ≡ None → (f : Frame) → (after_begin_at x u p o starved past).under ≡ Some f → CameNew p o past (after_begin_at x u p o starved past).under
begun_new (Some fault) u p o starved past a b calm f under = absurd (let clash : Some fault ≡ None = sym a ∙ calm in cc)
begun_new None (Some g) p o starved past a b calm f under = absurd (let clash : Some Shape ≡ None = calm in cc)
begun_new None None p o starved past a b calm f under = new_by (is_joined past.ended) (is_accepted past.ended p o) starved p o past refl b calm f under

begin_new : (p : Params) (o : ByteOrder) (starved : Bool) (past : JoinHistory) → (after_begin p o starved past).fault ≡ None → (f : Frame) → (after_begin p o starved past).under ≡ Some f → CameNew p o past (after_begin p o starved past).under
unfolding after_begin
begin_new p o starved past calm f under = begun_new past.fault past.under p o starved past refl refl calm f under

pub is_some : (u : Option Frame) (g : Frame) → option_map pixels_of u ≡ Some g → (f : Frame) × (u ≡ Some f) × (pixels_of f ≡ g)
is_some None g e = absurd (let clash : None ≡ Some g = e in cc)
is_some (Some f) g e = (f, refl, some_same (pixels_of f) g e)

pub begin_stands : (p : Params) (o : ByteOrder) (starved : Bool) (past : JoinHistory) (v new : JoinState) → Represents past v → PixelRepresents (after_begin (pixel_params p) o starved (pixel_history past)) new.pixels → (is_kept p ≡ true → (new.line ≡ p.bytes_per_line) × (new.came ≡ 0)) → Represents (after_begin p o starved past) new
begin_stands p o starved past v new stands pixels fields = record {
  pixels = standing;
  ended = subst AreEnded (sym (begin_ended p o starved past)) stands.ended;
  coming = λ keeping. (
      let in_it = in_kept (pixel_history (after_begin p o starved past)) new.pixels standing keeping in
      let f = is_some (after_begin p o starved past).under in_it.frame in_it.under in
      let came = begin_new p o starved past in_it.fault f.0 f.1 in
      let apart : is_alone p ≡ false = sym (kept_is_alone p) ∙ (ap (λ (g : Frame). is_alone g.params) (sym (let same : in_it.frame ≡ pixels_of (new_frame p o) = sym f.2 ∙ ap pixels_of (some_same f.0 (new_frame p o) (sym f.1 ∙ came.0)) in same)) ∙ in_it.keeps.kept) in
      let kept : is_kept p ≡ true = accepted_is_kept past.ended p o came.1 apart in
      subst (λ (u : Option Frame). IsComing u new) (sym came.0) (record { kept = kept; line = (fields kept).0; came = (fields kept).1; most = omega arith }));
}
  where
    standing : PixelRepresents (pixel_history (after_begin p o starved past)) new.pixels
    standing = subst (λ (q : JoinHistory). PixelRepresents q new.pixels) (sym (begin_same p o starved past)) pixels

-- ---- a fault comes to stand

-- behind a fault only that and what was given count
pub after_fault : (fault : JoinFault) (p q : JoinHistory) (w : PixelJoinState) → PixelRepresents p w → p.fault ≡ Some fault → q.fault ≡ Some fault → q.given ≡ p.given → PixelRepresents q w
after_fault fault p q w stands a b given = record { fault = b ∙ (sym a ∙ stands.fault); at_stage = by w.stage stands.at_stage (sym stands.fault ∙ a) }
  where
    by : (s : Stage) → PixelRepresentsAt s p w → fault_in s ≡ Some fault → PixelRepresentsAt s q w
    by Idle at e = absurd (let clash : None ≡ Some fault = e in cc)
    by Under at e = absurd (let clash : None ≡ Some fault = e in cc)
    by Keeping at e = absurd (let clash : None ≡ Some fault = e in cc)
    by Between at e = absurd (let clash : None ≡ Some fault = e in cc)
    by Whole at e = absurd (let clash : None ≡ Some fault = e in cc)
    by WholeColors at e = absurd (let clash : None ≡ Some fault = e in cc)
    by (Failed x) at e = subst HoldsNoFile (sym given) at

-- a frame that is kept has given nothing yet
pub fails_kept : (fault : JoinFault) (q : JoinHistory) (w : PixelJoinState) → PixelRepresents q w → is_keeping w.stage ≡ true → PixelRepresents (with_fault fault q) (record w { stage = Failed fault })
fails_kept fault q w stands keeping =
    let given : q.given ≡ [] = (in_kept q w stands keeping).keeps.silent.given_is in
    record { fault = refl; at_stage = subst HoldsNoFile (sym given) nothing_holds_none }

pub fault_starved : (w : PixelJoinState) → fault_in w.stage ≡ Some NoMem → is_pixel_out_of_memory w ≡ true
fault_starved w e = by w.stage e
  where
    by : (s : Stage) → fault_in s ≡ Some NoMem → is_out_of_memory_at s ≡ true
    by Idle e = absurd (let clash : None ≡ Some NoMem = e in cc)
    by Under e = absurd (let clash : None ≡ Some NoMem = e in cc)
    by Keeping e = absurd (let clash : None ≡ Some NoMem = e in cc)
    by Between e = absurd (let clash : None ≡ Some NoMem = e in cc)
    by Whole e = absurd (let clash : None ≡ Some NoMem = e in cc)
    by WholeColors e = absurd (let clash : None ≡ Some NoMem = e in cc)
    by (Failed x) e = ap is_no_mem (some_same x NoMem e)

-- ---- bytes come to a frame that is not kept

fed_ended_by : (long starved : Bool) (f : Frame) (bytes : List ℕ) (past : JoinHistory) → (feeds_by long starved f bytes past).ended ≡ past.ended
fed_ended_by true starved f bytes past = refl
fed_ended_by false true f bytes past = refl
fed_ended_by false false f bytes past = refl

fed_ended : (o : Option JoinFault) (u : Option Frame) (bytes : List ℕ) (starved : Bool) (past : JoinHistory) → (after_feed_at o u bytes starved past).ended ≡ past.ended
fed_ended (Some x) u bytes starved past = refl
fed_ended None None bytes starved past = refl
fed_ended None (Some f) bytes starved past = fed_ended_by (nat_lt (most_bytes f.params) (length f.payload + length bytes)) starved f bytes past

feed_ended : (bytes : List ℕ) (starved : Bool) (past : JoinHistory) → (after_feed bytes starved past).ended ≡ past.ended
unfolding after_feed
feed_ended bytes starved past = fed_ended past.fault past.under bytes starved past

-- a frame that goes straight through goes on so
still_by : (long starved : Bool) (f : Frame) (bytes : List ℕ) (past : JoinHistory) → is_alone f.params ≡ true → (feeds_by long starved f bytes past).fault ≡ None → past.under ≡ Some f → (g : Frame) → (feeds_by long starved f bytes past).under ≡ Some g → is_alone g.params ≡ true
still_by true starved f bytes past alone calm is g under = absurd (let clash : Some Long ≡ None = calm in cc)
still_by false true f bytes past alone calm is g under = absurd (let clash : Some NoMem ≡ None = calm in cc)
still_by false false f bytes past alone calm is g under = ap (λ (h : Frame). is_alone h.params) (sym (some_same (record f { payload = f.payload ++ bytes }) g under)) ∙ alone

still : (o : Option JoinFault) (u : Option Frame) (bytes : List ℕ) (starved : Bool) (past : JoinHistory) → past.fault ≡ o → past.under ≡ u → (o ≡ None → (f : Frame) → u ≡ Some f → is_alone f.params ≡ true) → (after_feed_at o u bytes starved past).fault ≡ None → (g : Frame) → (after_feed_at o u bytes starved past).under ≡ Some g → is_alone g.params ≡ true
still (Some x) u bytes starved past a b alone calm g under = absurd (let clash : Some x ≡ None = sym a ∙ calm in cc)
still None None bytes starved past a b alone calm g under = absurd (let clash : None ≡ Some g = sym b ∙ under in cc)
still None (Some f) bytes starved past a b alone calm g under = still_by (nat_lt (most_bytes f.params) (length f.payload + length bytes)) starved f bytes past (alone refl f refl) calm b g under

still_alone : (bytes : List ℕ) (starved : Bool) (past : JoinHistory) → (past.fault ≡ None → (f : Frame) → past.under ≡ Some f → is_alone f.params ≡ true) → (after_feed bytes starved past).fault ≡ None → (g : Frame) → (after_feed bytes starved past).under ≡ Some g → is_alone g.params ≡ true
unfolding after_feed
still_alone bytes starved past alone calm g under = still past.fault past.under bytes starved past refl refl alone calm g under

pub feed_stands : (bytes : List ℕ) (starved : Bool) (past : JoinHistory) (v new : JoinState) → Represents past v → is_keeping v.pixels.stage ≡ false → PixelRepresents (after_feed bytes starved (pixel_history past)) new.pixels → Represents (after_feed bytes starved past) new
feed_stands bytes starved past v new stands through pixels = record {
  pixels = standing;
  ended = subst AreEnded (sym (feed_ended bytes starved past)) stands.ended;
  coming = λ keeping. absurd (
      let in_it = in_kept (pixel_history (after_feed bytes starved past)) new.pixels standing keeping in
      let f = is_some (after_feed bytes starved past).under in_it.frame in_it.under in
      let alone = still_alone bytes starved past (under_alone past v stands through) in_it.fault f.0 f.1 in
      let clash : true ≡ false = sym alone ∙ (sym (kept_is_alone f.0.params) ∙ (ap (λ (g : Frame). is_alone g.params) f.2 ∙ in_it.keeps.kept)) in
      cc);
}
  where
    standing : PixelRepresents (pixel_history (after_feed bytes starved past)) new.pixels
    standing = subst (λ (q : JoinHistory). PixelRepresents q new.pixels) (sym (feed_same bytes starved past (λ calm f under. alone_not_kept f.params (under_alone past v stands through calm f under)))) pixels

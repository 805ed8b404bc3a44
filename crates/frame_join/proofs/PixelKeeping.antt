-- Bytes come to a frame that is kept, run by run, and the frame ends.
use Rattle.std.proofs.Common.{◌≡◌, ℕ, ◌<◌, ◌≤◌, ◌+◌, ◌-◌, ◌*◌, ◌%◌, Bool, true, false, List, [], ◌∷◌, ◌++◌, length, take, drop, arith, refl, sym, ap, ◌∙◌, subst, append_assoc, length-append}
use Rattle.std.specs.Prelude.{◌||◌, Option, Some, None, option_map}
use Rattle.std.specs.Prelude.{slice_range}
use Rattle.std.proofs.Math.Seq.{take-add}
use Rattle.std.proofs.lemmas.List.{append-nil, take-append-drop, length-take-le, length-drop}
use Rattle.std.proofs.lemmas.List.Folds.{drop_split}
use Rattle.sane_fixed.specs.declared.params.Params.{Params}
use Rattle.page_picture.specs.Shows.{Frame}
use Rattle.frame_join.specs.declared.join_stage.JoinFault.{JoinFault}
use Rattle.frame_join.specs.declared.join_stage.JoinFault.TheVariants.{Long, Short, NoMem}
use Rattle.frame_join.specs.declared.join_stage.Stage.{Stage}
use Rattle.frame_join.specs.declared.join_stage.Stage.TheVariants.{Idle, Under, Keeping, Between, Whole, WholeColors, Failed}
use Rattle.frame_join.specs.AloneFrame.{is_alone, most_bytes, most_lines, row_bytes}
use Rattle.frame_join.specs.FrameHistory.{JoinHistory, is_full, is_full_at, with_fault, after_feed_at, after_end_at, after_feed, after_end}
use Rattle.frame_join.specs.JoinStages.{is_keeping, is_out_of_memory_at}
use Rattle.frame_join.specs.PixelJoinStates.{PixelJoinState, PixelRepresents, is_pixel_out_of_memory}
use Rattle.frame_join.specs.Pixels.{is_kept, pixel_params, pixels_of, pixels_from, pixel_history}
use Rattle.frame_join.specs.JoinStates.{JoinState, Represents, HasCome, IsComing, IsEnded, AreEnded, is_out_of_memory}
use Rattle.frame_join.proofs.TestLemmas.{or_left, or_right, lt_false, lt_true}
use Rattle.frame_join.proofs.KeptLaws.{kept_shape}
use Rattle.frame_join.proofs.StreamLaws.{grown}
use Rattle.frame_join.proofs.PixelRows.{pixels-append, pixels_within, pixels_behind}
use Rattle.frame_join.proofs.PixelParams.{narrow, pixels_kept, pixels_same, params_kept}
use Rattle.frame_join.proofs.PixelFrames.{full_pixels, length_most}
use Rattle.frame_join.proofs.PixelPasts.{feeds_by, ends_by, end_same}
use Rattle.frame_join.proofs.PixelSteps.{some_same, in_kept, after_fault, fault_starved, under_alone, alone_not_kept, is_some}

-- ---- pieces one after another

fed_is : (p : JoinHistory) (g : Frame) (xs : List ℕ) (starved : Bool) → p.fault ≡ None → p.under ≡ Some g → length g.payload + length xs ≤ most_bytes g.params → after_feed xs starved p ≡ feeds_by false starved g xs p
unfolding after_feed
fed_is p g xs starved calm under fits =
    ap (λ (o : Option JoinFault). after_feed_at o p.under xs starved p) calm
    ∙ (ap (λ (u : Option Frame). after_feed_at None u xs starved p) under
    ∙ ap (λ (t : Bool). feeds_by t starved g xs p) (lt_false (most_bytes g.params) (length g.payload + length xs) fits))

fault_stays : (p : JoinHistory) (fault : JoinFault) (xs : List ℕ) (starved : Bool) → p.fault ≡ Some fault → after_feed xs starved p ≡ p
unfolding after_feed
fault_stays p fault xs starved e = ap (λ (o : Option JoinFault). after_feed_at o p.under xs starved p) e

-- a piece behind another
pub fed_on : (p : JoinHistory) (g : Frame) (xs ys : List ℕ) (s t : Bool) (x : PixelJoinState) → p.fault ≡ None → p.under ≡ Some g → length g.payload + (length xs + length ys) ≤ most_bytes g.params → PixelRepresents (after_feed ys t (after_feed xs s p)) x → t ≡ is_pixel_out_of_memory x → PixelRepresents (after_feed (xs ++ ys) t p) x
fed_on p g xs ys s t x calm under fits stands told =
    let front : length g.payload + length xs ≤ most_bytes g.params = omega (arith, fits) in
    let both : length g.payload + length (xs ++ ys) ≤ most_bytes g.params = omega (arith, fits, length-append xs ys) in
    subst (λ (q : JoinHistory). PixelRepresents q x) (sym (fed_is p g (xs ++ ys) t calm under both))
    (by s t (subst (λ (q : JoinHistory). PixelRepresents (after_feed ys t q) x) (fed_is p g xs s calm under front) stands) told)
  where
    last : (t : Bool) → PixelRepresents (feeds_by false t (grown g xs) ys (record p { under = Some (grown g xs) })) x → PixelRepresents (feeds_by false t g (xs ++ ys) p) x
    last true stands = after_fault NoMem (with_fault NoMem (record p { under = Some (grown g xs) })) (with_fault NoMem p) x stands refl refl refl
    last false stands = subst (λ (l : List ℕ). PixelRepresents (record p { under = Some (record g { payload = l }) }) x) (append_assoc g.payload xs ys) stands

    by : (s t : Bool) → PixelRepresents (after_feed ys t (feeds_by false s g xs p)) x → t ≡ is_pixel_out_of_memory x → PixelRepresents (feeds_by false t g (xs ++ ys) p) x
    by true t stands told =
        let q = with_fault NoMem p in
        let same = subst (λ (r : JoinHistory). PixelRepresents r x) (fault_stays q NoMem ys t refl) stands in
        let poor : t ≡ true = told ∙ fault_starved x (sym same.fault) in
        subst (λ (u : Bool). PixelRepresents (feeds_by false u g (xs ++ ys) p) x) (sym poor) same
    by false t stands told =
        let q : JoinHistory = record p { under = Some (grown g xs) } in
        let more : length (grown g xs).payload + length ys ≤ most_bytes g.params = omega (arith, fits, length-append g.payload xs) in
        last t (subst (λ (r : JoinHistory). PixelRepresents r x) (fed_is q (grown g xs) ys t calm refl more) stands)

-- no bytes
pub fed_none : (p : JoinHistory) (w : PixelJoinState) → PixelRepresents p w → is_keeping w.stage ≡ true → PixelRepresents (after_feed [] (is_pixel_out_of_memory w) p) w
fed_none p w stands keeping =
    let k = in_kept p w stands keeping in
    let fits : length k.frame.payload + length {A = ℕ} [] ≤ most_bytes k.frame.params = omega (arith, k.keeps.most) in
    let rich : is_pixel_out_of_memory w ≡ false = rich_by w.stage keeping in
    subst (λ (q : JoinHistory). PixelRepresents q w) (sym (ap (λ (s : Bool). after_feed [] s p) rich ∙ (fed_is p k.frame [] false k.fault k.under fits ∙ same p k.frame k.under))) stands
  where
    rich_by : (s : Stage) → is_keeping s ≡ true → is_out_of_memory_at s ≡ false
    rich_by Idle e = refl
    rich_by Under e = refl
    rich_by Keeping e = refl
    rich_by Between e = refl
    rich_by Whole e = refl
    rich_by WholeColors e = refl
    rich_by (Failed x) e = absurd (let clash : false ≡ true = e in cc)

    same : (p : JoinHistory) (g : Frame) → p.under ≡ Some g → record p { under = Some (record g { payload = g.payload ++ [] }) } ≡ p
    same p g under = ap (λ (l : List ℕ). record p { under = Some (record g { payload = l }) }) (append-nil g.payload) ∙ ap (λ (u : Option Frame). record p { under = u }) (sym under)

-- ---- the pixels of a piece

-- in a frame that is kept, and how far it has come
pub record IsIn (past : JoinHistory) (v : JoinState) : Type 0 where
  pub fault : past.fault ≡ None
  pub frame : Frame
  pub under : past.under ≡ Some frame
  pub come : HasCome frame v
  pub params : v.pixels.params ≡ narrow frame.params

come_of : (u : Option Frame) (v : JoinState) → IsComing u v → (f : Frame) × (u ≡ Some f) × HasCome f v
come_of None v c = absurd c
come_of (Some f) v c = (f, refl, c)

pub is_in : (past : JoinHistory) (v : JoinState) → Represents past v → is_keeping v.pixels.stage ≡ true → IsIn past v
is_in past v stands keeping =
    let k = in_kept (pixel_history past) v.pixels stands.pixels keeping in
    let c = come_of past.under v (stands.coming keeping) in
    let same : k.frame ≡ pixels_of c.0 = some_same k.frame (pixels_of c.0) (sym k.under ∙ ap (option_map pixels_of) c.1) in
    record {
      fault = k.fault;
      frame = c.0;
      under = c.1;
      come = c.2;
      params = k.keeps.params ∙ (ap (λ (g : Frame). g.params) same ∙ params_kept c.0.params c.2.kept);
    }

-- as many bytes as the frame may still have
pub record MayCome (f : Frame) (bytes : List ℕ) : Type 0 where
  pub kept : is_kept f.params ≡ true
  pub most : length f.payload + length bytes ≤ most_bytes f.params

pub pixels_of_more : (f : Frame) (bytes : List ℕ) → is_kept f.params ≡ true → (pixels_of (grown f bytes)).payload ≡ (pixels_of f).payload ++ pixels_from (row_bytes f.params) f.params.bytes_per_line (length f.payload) bytes
pixels_of_more f bytes kept =
    ap (λ (g : Frame). g.payload) (pixels_kept (grown f bytes) kept)
    ∙ (pixels-append (row_bytes f.params) f.params.bytes_per_line 0 f.payload bytes
    ∙ (ap (λ (n : ℕ). pixels_from (row_bytes f.params) f.params.bytes_per_line 0 f.payload ++ pixels_from (row_bytes f.params) f.params.bytes_per_line n bytes) (let e : 0 + length f.payload ≡ length f.payload = omega arith in e)
    ∙ ap (λ (l : List ℕ). l ++ pixels_from (row_bytes f.params) f.params.bytes_per_line (length f.payload) bytes) (sym (ap (λ (g : Frame). g.payload) (pixels_kept f kept)))))

-- the pixels of so many bytes are no more than those of the frame
pub pixels_fit : (f : Frame) (bytes : List ℕ) → MayCome f bytes → length (pixels_of f).payload + length (pixels_from (row_bytes f.params) f.params.bytes_per_line (length f.payload) bytes) ≤ most_bytes (pixels_of f).params
pixels_fit f bytes may =
    let shape = kept_shape f.params may.kept in
    let some : 1 ≤ f.params.bytes_per_line = omega (arith, shape.row_some, shape.fits) in
    let all : length (pixels_from (row_bytes f.params) f.params.bytes_per_line 0 (f.payload ++ bytes)) ≤ most_lines f.params.lines * row_bytes f.params = length_most (row_bytes f.params) f.params.bytes_per_line (most_lines f.params.lines) (f.payload ++ bytes) some shape.fits (omega (arith, may.most, length-append f.payload bytes)) in
    let cut : (pixels_of (grown f bytes)).payload ≡ pixels_from (row_bytes f.params) f.params.bytes_per_line 0 (f.payload ++ bytes) = ap (λ (g : Frame). g.payload) (pixels_kept (grown f bytes) may.kept) in
    let most : most_bytes (pixels_of f).params ≡ most_lines f.params.lines * row_bytes f.params = ap most_bytes (params_kept f.params may.kept) in
    omega (arith, all, most, ap length (sym (pixels_of_more f bytes may.kept) ∙ cut), length-append (pixels_of f).payload (pixels_from (row_bytes f.params) f.params.bytes_per_line (length f.payload) bytes))

-- what the bytes make of the history, by what is kept of them
fed_kept : (past : JoinHistory) (f : Frame) (bytes : List ℕ) (starved : Bool) → past.fault ≡ None → past.under ≡ Some f → MayCome f bytes → pixel_history (after_feed bytes starved past) ≡ after_feed (pixels_from (row_bytes f.params) f.params.bytes_per_line (length f.payload) bytes) starved (pixel_history past)
fed_kept past f bytes starved calm under may =
    let pieces = pixels_from (row_bytes f.params) f.params.bytes_per_line (length f.payload) bytes in
    let told : (pixel_history past).under ≡ Some (pixels_of f) = ap (option_map pixels_of) under in
    ap pixel_history (fed_is past f bytes starved calm under may.most)
    ∙ (by starved
    ∙ sym (fed_is (pixel_history past) (pixels_of f) pieces starved calm told (pixels_fit f bytes may)))
  where
    by : (s : Bool) → pixel_history (feeds_by false s f bytes past) ≡ feeds_by false s (pixels_of f) (pixels_from (row_bytes f.params) f.params.bytes_per_line (length f.payload) bytes) (pixel_history past)
    by true = refl
    by false = ap (λ (l : List ℕ). record (pixel_history past) { under = Some (record { params = pixel_params f.params; order = f.order; payload = l }) }) (pixels_of_more f bytes may.kept)

fed_ended_kept : (past : JoinHistory) (f : Frame) (bytes : List ℕ) (starved : Bool) → past.fault ≡ None → past.under ≡ Some f → length f.payload + length bytes ≤ most_bytes f.params → (after_feed bytes starved past).ended ≡ past.ended
fed_ended_kept past f bytes starved calm under fits = ap (λ (q : JoinHistory). q.ended) (fed_is past f bytes starved calm under fits) ∙ by starved
  where
    by : (s : Bool) → (feeds_by false s f bytes past).ended ≡ past.ended
    by true = refl
    by false = refl

-- all bytes of a piece came
pub keep_stands : (bytes : List ℕ) (past : JoinHistory) (v new : JoinState) → Represents past v → (i : IsIn past v) → MayCome i.frame bytes → PixelRepresents (after_feed (pixels_from (row_bytes i.frame.params) i.frame.params.bytes_per_line (length i.frame.payload) bytes) (is_out_of_memory new) (pixel_history past)) new.pixels → new.line ≡ v.line → new.came ≡ v.came + length bytes → Represents (after_feed bytes (is_out_of_memory new) past) new
keep_stands bytes past v new stands i may pixels line came = record {
  pixels = standing;
  ended = subst AreEnded (sym (fed_ended_kept past i.frame bytes (is_out_of_memory new) i.fault i.under may.most)) stands.ended;
  coming = λ keeping. (
      let k = in_kept (pixel_history (after_feed bytes (is_out_of_memory new) past)) new.pixels standing keeping in
      subst (λ (u : Option Frame). IsComing u new) (sym (grows (is_out_of_memory new) k.fault))
      (record { kept = may.kept; line = line ∙ i.come.line; came = came ∙ (ap (λ (n : ℕ). n + length bytes) i.come.came ∙ sym (length-append i.frame.payload bytes)); most = omega (arith, may.most, length-append i.frame.payload bytes) }));
}
  where
    standing : PixelRepresents (pixel_history (after_feed bytes (is_out_of_memory new) past)) new.pixels
    standing = subst (λ (q : JoinHistory). PixelRepresents q new.pixels) (sym (fed_kept past i.frame bytes (is_out_of_memory new) i.fault i.under may)) pixels

    by : (s : Bool) → (feeds_by false s i.frame bytes past).fault ≡ None → (feeds_by false s i.frame bytes past).under ≡ Some (grown i.frame bytes)
    by true calm = absurd (let clash : Some NoMem ≡ None = calm in cc)
    by false calm = refl

    grows : (s : Bool) → (after_feed bytes s past).fault ≡ None → (after_feed bytes s past).under ≡ Some (grown i.frame bytes)
    grows s calm =
        let is = fed_is past i.frame bytes s i.fault i.under may.most in
        ap (λ (q : JoinHistory). q.under) is ∙ by s (sym (ap (λ (q : JoinHistory). q.fault) is) ∙ calm)

-- more bytes came than the frame may have
is_long : (bytes : List ℕ) (starved : Bool) (past : JoinHistory) (f : Frame) → past.fault ≡ None → past.under ≡ Some f → most_bytes f.params < length f.payload + length bytes → after_feed bytes starved past ≡ with_fault Long past
unfolding after_feed
is_long bytes starved past f calm under long =
    ap (λ (o : Option JoinFault). after_feed_at o past.under bytes starved past) calm
    ∙ (ap (λ (u : Option Frame). after_feed_at None u bytes starved past) under
    ∙ ap (λ (t : Bool). feeds_by t starved f bytes past) (lt_true (most_bytes f.params) (length f.payload + length bytes) long))

-- a fault came to stand in a frame that is kept
pub fault_stands : (fault : JoinFault) (past : JoinHistory) (v new : JoinState) → Represents past v → PixelRepresents (with_fault fault (pixel_history past)) new.pixels → Represents (with_fault fault past) new
fault_stands fault past v new stands pixels = record {
  pixels = pixels;
  ended = stands.ended;
  coming = λ keeping. absurd (let clash : Some fault ≡ None = (in_kept (pixel_history (with_fault fault past)) new.pixels pixels keeping).fault in cc);
}

pub long_stands : (bytes : List ℕ) (starved : Bool) (past : JoinHistory) (v new : JoinState) → Represents past v → (i : IsIn past v) → most_bytes i.frame.params < length i.frame.payload + length bytes → PixelRepresents (with_fault Long (pixel_history past)) new.pixels → Represents (after_feed bytes starved past) new
long_stands bytes starved past v new stands i long pixels =
    subst (λ (q : JoinHistory). Represents q new) (sym (is_long bytes starved past i.frame i.fault i.under long)) (fault_stands Long past v new stands pixels)

-- ---- a frame ends

ended_is : (past : JoinHistory) (f : Frame) → past.fault ≡ None → past.under ≡ Some f → after_end past ≡ ends_by (is_full f) f past
unfolding after_end
ended_is past f calm under = ap (λ (o : Option JoinFault). after_end_at o past.under past) calm ∙ ap (λ (u : Option Frame). after_end_at None u past) under

ended_none : (past : JoinHistory) → past.under ≡ None → after_end past ≡ past
unfolding after_end
ended_none past none = ap (λ (u : Option Frame). after_end_at past.fault u past) none ∙ by past.fault
  where
    by : (o : Option JoinFault) → after_end_at o None past ≡ past
    by None = refl
    by (Some x) = refl

ended_fault : (past : JoinHistory) (fault : JoinFault) → past.fault ≡ Some fault → after_end past ≡ past
unfolding after_end
ended_fault past fault e = ap (λ (o : Option JoinFault). after_end_at o past.under past) e

ended-append : (frames : List Frame) (f : Frame) → AreEnded frames → IsEnded f → AreEnded (frames ++ f ∷ [])
ended-append [] f all one = (one, tt)
ended-append (g ∷ frames) f all one = (all.0, ended-append frames f all.1 one)

-- the frames that ended, one more
one_more : (full : Bool) (past : JoinHistory) (f : Frame) → is_full f ≡ full → (is_alone f.params || is_kept f.params) ≡ true → AreEnded past.ended → AreEnded (ends_by full f past).ended
one_more true past f full admitted all = ended-append past.ended f all (record { admitted = admitted; full = full })
one_more false past f full admitted all = all

after_ended : (past : JoinHistory) → AreEnded past.ended → (past.fault ≡ None → (f : Frame) → past.under ≡ Some f → (is_alone f.params || is_kept f.params) ≡ true) → AreEnded (after_end past).ended
after_ended past all admitted = by past.fault past.under refl refl
  where
    by : (o : Option JoinFault) (u : Option Frame) → past.fault ≡ o → past.under ≡ u → AreEnded (after_end past).ended
    by (Some x) u a b = subst (λ (q : JoinHistory). AreEnded q.ended) (sym (ended_fault past x a)) all
    by None None a b = subst (λ (q : JoinHistory). AreEnded q.ended) (sym (ended_none past b)) all
    by None (Some f) a b = subst (λ (q : JoinHistory). AreEnded q.ended) (sym (ended_is past f a b)) (one_more (is_full f) past f refl (admitted a f b) all)

-- behind an end no frame is under way, unless a fault stands
end_rests : (past : JoinHistory) → (after_end past).fault ≡ None → (f : Frame) → (after_end past).under ≡ Some f → ⊥
end_rests past calm f under = by past.fault past.under refl refl
  where
    rest : (full : Bool) (g : Frame) → past.fault ≡ None → (ends_by full g past).fault ≡ None → (ends_by full g past).under ≡ Some f → ⊥
    rest true g a calm under = let clash : None ≡ Some f = under in cc
    rest false g a calm under = let clash : Some Short ≡ None = calm in cc

    by : (o : Option JoinFault) (u : Option Frame) → past.fault ≡ o → past.under ≡ u → ⊥
    by (Some x) u a b = let clash : Some x ≡ None = sym a ∙ (sym (ap (λ (q : JoinHistory). q.fault) (ended_fault past x a)) ∙ calm) in cc
    by None None a b = let clash : None ≡ Some f = sym b ∙ (sym (ap (λ (q : JoinHistory). q.under) (ended_none past b)) ∙ under) in cc
    by None (Some g) a b =
        let is = ended_is past g a b in
        rest (is_full g) g a (sym (ap (λ (q : JoinHistory). q.fault) is) ∙ calm) (sym (ap (λ (q : JoinHistory). q.under) is) ∙ under)

-- the frame is not kept, or all its bytes came
pub end_stands : (past : JoinHistory) (v new : JoinState) → Represents past v → (past.fault ≡ None → (f : Frame) → past.under ≡ Some f → (is_full (pixels_of f) ≡ is_full f) × ((is_alone f.params || is_kept f.params) ≡ true)) → PixelRepresents (after_end (pixel_history past)) new.pixels → Represents (after_end past) new
end_stands past v new stands frame pixels = record {
  pixels = standing;
  ended = after_ended past stands.ended (λ calm f under. (frame calm f under).1);
  coming = λ keeping. absurd (
      let k = in_kept (pixel_history (after_end past)) new.pixels standing keeping in
      let f = is_some (after_end past).under k.frame k.under in
      end_rests past k.fault f.0 f.1);
}
  where
    standing : PixelRepresents (pixel_history (after_end past)) new.pixels
    standing = subst (λ (q : JoinHistory). PixelRepresents q new.pixels) (sym (end_same past (λ calm f under. (frame calm f under).0))) pixels

pub through_frame : (past : JoinHistory) (v : JoinState) → Represents past v → is_keeping v.pixels.stage ≡ false → past.fault ≡ None → (f : Frame) → past.under ≡ Some f → (is_full (pixels_of f) ≡ is_full f) × ((is_alone f.params || is_kept f.params) ≡ true)
through_frame past v stands through calm f under =
    let alone = under_alone past v stands through calm f under in
    (ap is_full (pixels_same f (alone_not_kept f.params alone)), or_left (is_alone f.params) (is_kept f.params) alone)

pub full_frame : (past : JoinHistory) (v : JoinState) → (i : IsIn past v) → is_full i.frame ≡ true → (f : Frame) → past.under ≡ Some f → (is_full (pixels_of f) ≡ is_full f) × ((is_alone f.params || is_kept f.params) ≡ true)
full_frame past v i full f under =
    let same : i.frame ≡ f = some_same i.frame f (sym i.under ∙ under) in
    subst (λ (g : Frame). (is_full (pixels_of g) ≡ is_full g) × ((is_alone g.params || is_kept g.params) ≡ true)) same
    (full_pixels i.frame i.come.kept full ∙ sym full, or_right (is_alone i.frame.params) (is_kept i.frame.params) i.come.kept)

-- the frame lacks bytes
pub short_is : (past : JoinHistory) (v : JoinState) → (i : IsIn past v) → is_full i.frame ≡ false → after_end past ≡ with_fault Short past
short_is past v i short = ended_is past i.frame i.fault i.under ∙ ap (λ (t : Bool). ends_by t i.frame past) short

-- ---- a run of a piece

-- the pixels of bytes of the frame that come next
abbrev pub pieces : Frame → List ℕ → List ℕ
pieces f bytes = pixels_from (row_bytes f.params) f.params.bytes_per_line (length f.payload) bytes

may_less : (f : Frame) (front rest : List ℕ) → MayCome f (front ++ rest) → MayCome f front
may_less f front rest may = record { kept = may.kept; most = omega (arith, may.most, length-append front rest) }

-- the next bytes of the piece show pixels
pub run_on : (past : JoinHistory) (v : JoinState) (i : IsIn past v) (front run rest : List ℕ) (s t : Bool) (x : PixelJoinState) → MayCome i.frame (front ++ (run ++ rest)) → (v.came + length front) % v.line + length run ≤ row_bytes i.frame.params → PixelRepresents (after_feed run t (after_feed (pieces i.frame front) s (pixel_history past))) x → t ≡ is_pixel_out_of_memory x → PixelRepresents (after_feed (pieces i.frame (front ++ run)) t (pixel_history past)) x
run_on past v i front run rest s t x may low stands told =
    let f = i.frame in
    let shape = kept_shape f.params may.kept in
    let place : (length f.payload + length front) % f.params.bytes_per_line ≡ (v.came + length front) % v.line = ap (λ (n : ℕ). (n + length front) % f.params.bytes_per_line) (sym i.come.came) ∙ ap (λ (n : ℕ). (v.came + length front) % n) (sym i.come.line) in
    let all : pixels_from (row_bytes f.params) f.params.bytes_per_line (length f.payload + length front) run ≡ run = pixels_within (row_bytes f.params) f.params.bytes_per_line (length f.payload + length front) run shape.fits (omega (arith, low, place)) in
    let cut : pieces f (front ++ run) ≡ pieces f front ++ run = pixels-append (row_bytes f.params) f.params.bytes_per_line (length f.payload) front run ∙ ap (λ (l : List ℕ). pieces f front ++ l) all in
    let less : MayCome f (front ++ run) = may_less f (front ++ run) rest (subst (λ (l : List ℕ). MayCome f l) (sym (append_assoc front run rest)) may) in
    let fits = pixels_fit f (front ++ run) less in
    let told_under : (pixel_history past).under ≡ Some (pixels_of f) = ap (option_map pixels_of) i.under in
    subst (λ (l : List ℕ). PixelRepresents (after_feed l t (pixel_history past)) x) (sym cut)
    (fed_on (pixel_history past) (pixels_of f) (pieces f front) run s t x i.fault told_under (omega (arith, fits, ap length cut, length-append (pieces f front) run)) stands told)

-- the next bytes of the piece stand behind the pixels of their line
pub skip_on : (past : JoinHistory) (v : JoinState) (i : IsIn past v) (front run : List ℕ) → row_bytes i.frame.params ≤ (v.came + length front) % v.line → (v.came + length front) % v.line + length run ≤ v.line → pieces i.frame (front ++ run) ≡ pieces i.frame front
skip_on past v i front run low high =
    let f = i.frame in
    let place : (length f.payload + length front) % f.params.bytes_per_line ≡ (v.came + length front) % v.line = ap (λ (n : ℕ). (n + length front) % f.params.bytes_per_line) (sym i.come.came) ∙ ap (λ (n : ℕ). (v.came + length front) % n) (sym i.come.line) in
    let none : pixels_from (row_bytes f.params) f.params.bytes_per_line (length f.payload + length front) run ≡ [] = pixels_behind (row_bytes f.params) f.params.bytes_per_line (length f.payload + length front) run (omega (arith, low, place)) (omega (arith, high, place, i.come.line)) in
    pixels-append (row_bytes f.params) f.params.bytes_per_line (length f.payload) front run ∙ (ap (λ (l : List ℕ). pieces f front ++ l) none ∙ append-nil (pieces f front))

-- a piece that is none
pub pieces_none : (f : Frame) → pieces f [] ≡ []
unfolding pixels_from
pieces_none f = refl

pub keep_begins : (past : JoinHistory) (v : JoinState) (i : IsIn past v) → Represents past v → is_keeping v.pixels.stage ≡ true → PixelRepresents (after_feed (pieces i.frame []) (is_pixel_out_of_memory v.pixels) (pixel_history past)) v.pixels
keep_begins past v i stands keeping = subst (λ (l : List ℕ). PixelRepresents (after_feed l (is_pixel_out_of_memory v.pixels) (pixel_history past)) v.pixels) (sym (pieces_none i.frame)) (fed_none (pixel_history past) v.pixels stands.pixels keeping)

-- as many bytes as there is room for
pub may_come : (past : JoinHistory) (v : JoinState) (i : IsIn past v) (bytes : List ℕ) → length bytes ≤ most_lines v.pixels.params.lines * v.line - v.came → MayCome i.frame bytes
may_come past v i bytes room =
    let lines : most_lines v.pixels.params.lines * v.line ≡ most_bytes i.frame.params = ap (λ (p : Params). most_lines p.lines * v.line) i.params ∙ ap (λ (n : ℕ). most_lines i.frame.params.lines * n) i.come.line in
    record { kept = i.come.kept; most = omega (arith, room, lines, i.come.came, i.come.most) }

pub too_long : (past : JoinHistory) (v : JoinState) (i : IsIn past v) (bytes : List ℕ) → most_lines v.pixels.params.lines * v.line - v.came < length bytes → most_bytes i.frame.params < length i.frame.payload + length bytes
too_long past v i bytes long =
    let lines : most_lines v.pixels.params.lines * v.line ≡ most_bytes i.frame.params = ap (λ (p : Params). most_lines p.lines * v.line) i.params ∙ ap (λ (n : ℕ). most_lines i.frame.params.lines * n) i.come.line in
    omega (arith, long, lines, i.come.came, i.come.most)

pub full_is : (past : JoinHistory) (v : JoinState) (i : IsIn past v) → is_full_at v.pixels.params.lines v.line v.came ≡ is_full i.frame
full_is past v i =
    ap (λ (p : Params). is_full_at p.lines v.line v.came) i.params
    ∙ (ap (λ (n : ℕ). is_full_at i.frame.params.lines n v.came) i.come.line ∙ ap (is_full_at i.frame.params.lines i.frame.params.bytes_per_line) i.come.came)

-- ---- as the loop goes

cut_at : (bytes : List ℕ) (at end : ℕ) → at ≤ end → take at bytes ++ (slice_range bytes at end ++ drop end bytes) ≡ bytes
cut_at bytes at end low = ap (λ (l : List ℕ). take at bytes ++ l) (sym (drop_split bytes at end low)) ∙ take-append-drop at bytes

-- the first bytes, and the next ones
taken_on : (bytes : List ℕ) (at end : ℕ) → at ≤ end → take at bytes ++ slice_range bytes at end ≡ take end bytes
taken_on bytes at end low = sym (take-add at (end - at) bytes) ∙ ap (λ (n : ℕ). take n bytes) (let e : at + (end - at) ≡ end = omega (arith, low) in e)

length_run : (bytes : List ℕ) (at end : ℕ) → at ≤ end → end ≤ length bytes → length (slice_range bytes at end) ≡ end - at
length_run bytes at end low high = length-take-le (end - at) (drop at bytes) (omega (arith, low, high, length-drop at bytes))

pub run_to : (past : JoinHistory) (v : JoinState) (i : IsIn past v) (bytes : List ℕ) (at end : ℕ) (s t : Bool) (x : PixelJoinState) → MayCome i.frame bytes → at ≤ end → end ≤ length bytes → (v.came + at) % v.line + (end - at) ≤ row_bytes i.frame.params → PixelRepresents (after_feed (slice_range bytes at end) t (after_feed (pieces i.frame (take at bytes)) s (pixel_history past))) x → t ≡ is_pixel_out_of_memory x → PixelRepresents (after_feed (pieces i.frame (take end bytes)) t (pixel_history past)) x
run_to past v i bytes at end s t x may low high fits stands told =
    let front : length (take at bytes) ≡ at = length-take-le at bytes (omega (arith, low, high)) in
    let run = length_run bytes at end low high in
    let place : (v.came + length (take at bytes)) % v.line ≡ (v.came + at) % v.line = ap (λ (n : ℕ). (v.came + n) % v.line) front in
    subst (λ (l : List ℕ). PixelRepresents (after_feed (pieces i.frame l) t (pixel_history past)) x) (taken_on bytes at end low)
    (run_on past v i (take at bytes) (slice_range bytes at end) (drop end bytes) s t x (subst (λ (l : List ℕ). MayCome i.frame l) (sym (cut_at bytes at end low)) may) (omega (arith, fits, run, place)) stands told)

pub skip_to : (past : JoinHistory) (v : JoinState) (i : IsIn past v) (bytes : List ℕ) (at end : ℕ) → at ≤ end → end ≤ length bytes → row_bytes i.frame.params ≤ (v.came + at) % v.line → (v.came + at) % v.line + (end - at) ≤ v.line → pieces i.frame (take end bytes) ≡ pieces i.frame (take at bytes)
skip_to past v i bytes at end low high behind most =
    let front : length (take at bytes) ≡ at = length-take-le at bytes (omega (arith, low, high)) in
    let run = length_run bytes at end low high in
    let place : (v.came + length (take at bytes)) % v.line ≡ (v.came + at) % v.line = ap (λ (n : ℕ). (v.came + n) % v.line) front in
    ap (pieces i.frame) (sym (taken_on bytes at end low)) ∙ skip_on past v i (take at bytes) (slice_range bytes at end) (omega (arith, behind, place)) (omega (arith, most, run, place))

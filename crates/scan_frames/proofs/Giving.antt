-- The bytes of a frame, given line after line.
use Rattle.std.proofs.Common.{◌≡◌, ℕ, ◌<◌, ◌≤◌, ◌+◌, ◌-◌, ◌*◌, inl, inr, true, false, List, ◌++◌, length, take, drop, length-append, arith, refl, sym, ap, ◌∙◌, subst}
use Rattle.std.specs.Prelude.{min}
use Rattle.std.proofs.lemmas.Bool.{cases_lt}
use Rattle.std.proofs.lemmas.Bool.Decides.{nat_tests}
use Rattle.std.proofs.lemmas.List.{drop-drop, get_or_past}
use Rattle.std.proofs.lemmas.Nat.{mul-le}
use Rattle.std.proofs.Math.Seq.{take-add, take-length, take-append_seam}
use Rattle.page_picture.specs.Page.{PageView}
use Rattle.page_picture.specs.Shows.{channels_within}
use Rattle.page_picture.specs.Source.{SourceState, CountsFailure}
use Rattle.scan_frames.specs.declared.setup.Setup.{Setup}
use Rattle.scan_frames.specs.declared.setup.Packing.{Packing}
use Rattle.scan_frames.specs.declared.setup.Packing.TheVariants.{Bits, Bytes, Words}
use Rattle.scan_frames.specs.Line.{packing_of, line_size}
use Rattle.scan_frames.specs.Frames.{height_of, width_of, format_at, bytes_per_line, line_bytes, payload, pass_length}
use Rattle.scan_frames.specs.Samples.{HasZeros}
use Rattle.scan_frames.specs.Rows.{TakesRows, StopsFailing}
use Rattle.scan_frames.specs.PassReading.{FrameProgress, IsFrame, GivesFrameBytes, given_in, row_of}
use Rattle.scan_frames.specs.Inside.{IsLineCounted, MakesLine, MakesOfRow, HasLineBytes, GivesLine, HasGivenOfFrame, GivesOfLine, is_frame_over}
use Rattle.scan_frames.proofs.Scans.{length-line_bytes, joined_part, mul-split, lines_and_front, next_frame}
use Rattle.scan_frames.proofs.Frames.{more_left, ready_end, ready_made, some_bytes}

-- ---- whether a frame is over

-- a frame that is over was given whole
pub over_whole : (s : SourceState) (setup : Setup) (f : FrameProgress) → IsFrame s setup f → is_frame_over f ≡ true → given_in f ≡ pass_length setup s.page f.pass
over_whole s setup f is over = ready_end s setup f is (grind (arith, nat_tests)) (grind (arith, nat_tests))

-- where no byte of the last line is left, another line is to be made
pub another_line : (s : SourceState) (setup : Setup) (f : FrameProgress) → IsFrame s setup f → is_frame_over f ≡ false → f.left ≡ 0 → f.made < f.height
another_line s setup f is more none =
    let within = is.made in
    elim (cases_lt f.made f.height) as (λ _. f.made < f.height) [
      | inl less ↦ less
      | inr all ↦ absurd (let e : f.made ≡ f.height = omega arith in grind (arith, nat_tests))
    ]

-- what was given is inside the frame
pub given_inside : (s : SourceState) (setup : Setup) (f : FrameProgress) → IsFrame s setup f → given_in f ≤ pass_length setup s.page f.pass
given_inside s setup f is =
    let b = length f.line in
    let up : f.made * b ≤ f.height * b = mul-le f.made b f.height b is.made (omega arith) in
    let all : f.height * b ≡ pass_length setup s.page f.pass = ap (λ (n : ℕ). n * b) is.height ∙ ap (λ (n : ℕ). height_of setup s.page * n) is.line in
    omega arith

-- and some byte is not given where it is not over
pub more_to_give : (s : SourceState) (setup : Setup) (f : FrameProgress) → IsFrame s setup f → IsLineCounted f → is_frame_over f ≡ false → given_in f < pass_length setup s.page f.pass
more_to_give s setup f is counted more =
    let b = length f.line in
    elim (cases_lt 0 f.left) as (λ _. given_in f < pass_length setup s.page f.pass) [
      | inl some ↦
          let made : 1 ≤ f.made = elim (cases_lt 0 f.made) as (λ _. 1 ≤ f.made) [ inl h ↦ h | inr none ↦ absurd (let e : f.left ≡ 0 = counted.none (omega arith) in omega arith) ] in
          let up : f.made * b ≤ f.height * b = mul-le f.made b f.height b is.made (omega arith) in
          let all : f.height * b ≡ pass_length setup s.page f.pass = ap (λ (n : ℕ). n * b) is.height ∙ ap (λ (n : ℕ). height_of setup s.page * n) is.line in
          let one : b ≤ f.made * b = omega (arith, mul-split f.made b made) in
          let fits = is.left in
          omega arith
      | inr none ↦ more_left s setup f is (omega arith) (another_line s setup f is more (omega arith))
    ]

-- ---- a piece of a line

pub gives_of_line : (s t : SourceState) (setup : Setup) (old mid new : FrameProgress) (n : ℕ) (buf : List ℕ) → 0 < length buf → HasLineBytes s setup old t mid → GivesLine mid n new buf → GivesOfLine setup (record { source = s; frame = old }) n (record { source = t; frame = new }) buf
gives_of_line s t setup old mid new n buf room has gives =
    let is = has.frame in
    let b = bytes_per_line setup mid.pass in
    let page : t.page ≡ s.page = ap (λ (u : SourceState). u.page) has.source.after in
    let h = height_of setup s.page in
    let height : mid.height ≡ h = is.height ∙ ap (height_of setup) page in
    let size = is.line in
    let some_left = has.some in
    let some_made = has.made in
    let count = gives.count in
    let some : 0 < n = omega arith in
    let enough : n ≤ mid.left = omega arith in
    let fits = is.left in
    let front : given_in mid ≡ (mid.made - 1) * length mid.line + (length mid.line - mid.left) = lines_and_front mid.made (length mid.line) mid.left some_made fits in
    let one : length mid.line ≤ mid.made * length mid.line = omega (arith, mul-split mid.made (length mid.line) some_made) in
    let given = has.given in
    let after : IsFrame t setup (record mid { left = mid.left - n }) = record {
      picture = is.picture;
      columns = is.columns;
      tables = is.tables;
      height = is.height;
      row = is.row;
      taken = is.taken;
      within = is.within;
      untaken = is.untaken;
      behind = is.behind;
      line = is.line;
      zeros = is.zeros;
      made = is.made;
      left = omega arith;
      bytes = λ steady some need. is.bytes steady some (inl has.some);
    } in
    let counted : IsLineCounted (record mid { left = mid.left - n }) = record {
      none = λ e. absurd (omega arith);
      begun = λ some. omega arith;
    } in
    record {
      count = gives.count ∙ ap (λ (k : ℕ). min k (length buf)) has.left;
      some = some;
      given = record {
        source = has.source;
        frame = subst (λ (f : FrameProgress). IsFrame t setup f) (sym gives.after) after;
        counted = subst IsLineCounted (sym gives.after) counted;
        pass_is = ap (λ (f : FrameProgress). f.pass) gives.after ∙ has.pass_is;
        further = ap given_in gives.after ∙ omega arith;
        bytes = λ steady.
            let steady_too : t.steady ≡ true = ap (λ (u : SourceState). u.steady) has.source.after ∙ steady in
            let line : mid.line ≡ line_bytes setup s.page mid.pass (mid.made - 1) = is.bytes steady_too some_made (inl has.some) ∙ ap (λ (p : PageView). line_bytes setup p mid.pass (mid.made - 1)) page in
            let last : mid.made - 1 < h = omega (arith, is.made) in
            let part = joined_part (line_bytes setup s.page mid.pass) b h (mid.made - 1) (b - mid.left) n (length-line_bytes setup s.page mid.pass) last (omega arith) in
            let place : given_in old ≡ (mid.made - 1) * b + (b - mid.left) = sym given ∙ (front ∙ ap (λ (k : ℕ). (mid.made - 1) * k + (k - mid.left)) size) in
            gives.bytes
            ∙ (ap (λ (l : List ℕ). take n (drop (length mid.line - mid.left) l)) line
            ∙ (ap (λ (k : ℕ). take n (drop (k - mid.left) (line_bytes setup s.page mid.pass (mid.made - 1)))) size
            ∙ (sym part
            ∙ (ap (λ (k : ℕ). take n (drop k (payload setup s.page mid.pass))) (sym place)
            ∙ ap (λ (p : ℕ). take n (drop (given_in old) (payload setup s.page p))) has.pass_is))));
      };
    }

-- ---- a whole line, given where it was made

-- in a line of samples of a byte each, which loses no pixel, nothing stands behind them
pub no_filler : (setup : Setup) (pass count : ℕ) (line : List ℕ) → setup.loss ≡ 0 → count ≡ width_of setup → length line ≡ bytes_per_line setup pass → HasZeros (packing_of setup.scene.depth) (channels_within (format_at setup pass) * count) line
no_filler setup pass count line loss wide size =
    let m = channels_within (format_at setup pass) in
    let all : width_of setup + setup.loss ≡ count = omega arith in
    by_packing (packing_of setup.scene.depth) (size ∙ ap (line_size (packing_of setup.scene.depth) m) all)
  where
    by_packing : (p : Packing) → length line ≡ line_size p (channels_within (format_at setup pass)) count → HasZeros p (channels_within (format_at setup pass) * count) line
    by_packing Bits long = tt
    by_packing Bytes long = λ j h. get_or_past line j 0 (omega arith)
    by_packing Words long = λ j h. get_or_past line j 0 (omega arith)

-- a frame between two lines, with another last line, where the next line shows another row
not_needed : (s t : SourceState) (setup : Setup) (f g : FrameProgress) → IsFrame s setup f → IsFrame t setup g → t.page ≡ s.page → f.left ≡ 0 → (row_of setup s.page f.made ≡ row_of setup s.page (f.made + 1) → ⊥)
    → g.pass ≡ f.pass → g.made ≡ f.made + 1 → length g.line ≡ length f.line → IsFrame t setup (record g { line = f.line; left = 0 })
not_needed s t setup f g was is page none alone pass made size = record {
  picture = is.picture;
  columns = is.columns;
  tables = is.tables;
  height = is.height;
  row = is.row;
  taken = is.taken;
  within = is.within;
  untaken = is.untaken;
  behind = is.behind;
  line = sym size ∙ is.line;
  zeros = subst (λ (p : ℕ). HasZeros (packing_of setup.scene.depth) (channels_within (format_at setup p) * width_of setup) f.line) (sym pass) was.zeros;
  made = is.made;
  left = omega arith;
  bytes = λ steady some need. elim need [
    | inl left ↦ absurd (omega arith)
    | inr same ↦ absurd (alone (
        let last : g.made - 1 ≡ f.made = omega arith in
        let here : row_of setup s.page (g.made - 1) ≡ row_of setup s.page g.made = subst (λ (p : PageView). row_of setup p (g.made - 1) ≡ row_of setup p g.made) page same in
        ap (row_of setup s.page) (sym last) ∙ (here ∙ ap (row_of setup s.page) made)))
  ];
}

pub gives_whole_line : (s t : SourceState) (setup : Setup) (f : FrameProgress) (line rest : List ℕ) → IsFrame s setup f → f.left ≡ 0 → f.made < f.height → row_of setup s.page f.made ≡ f.taken → (row_of setup s.page f.made ≡ row_of setup s.page (f.made + 1) → ⊥)
    → HasZeros (packing_of setup.scene.depth) (channels_within (format_at setup f.pass) * f.columns.count) line → length line ≡ length f.line → MakesOfRow s setup f.pass t line
    → GivesOfLine setup (record { source = s; frame = f }) (length f.line) (record { source = t; frame = record f { taken = f.taken + 1; made = f.made + 1 } }) (line ++ rest)
gives_whole_line s t setup f line rest is none more next alone zeros size makes =
    let b = length f.line in
    let buf = line ++ rest in
    let room : length line ≤ length buf = omega (arith, length-append line rest) in
    let n = f.taken + 1 in
    let g : FrameProgress = record f { taken = n; line = line; made = f.made + 1; left = length line } in
    let taken = is.taken in
    let below = makes.more in
    let after : t ≡ record s { given = n } = makes.after ∙ ap (λ (k : ℕ). record s { given = k + 1 }) (sym taken) in
    let made : MakesLine s setup f t g =
    next_frame s t setup f g n is more after (omega arith) (omega arith) is.row (omega arith) zeros size (λ steady. makes.bytes steady f.made (next ∙ taken)) refl refl refl refl refl refl refl in
    let has : HasLineBytes s setup f t g = ready_made s t setup f g is none made in
    let h : FrameProgress = record g { left = length line - b } in
    let some = some_bytes s setup f is in
    let gives : GivesLine g b h buf = record {
      count = omega arith;
      bytes = ap (λ (k : ℕ). take k buf) (sym size) ∙ (take-append_seam line rest ∙ (sym (take-length line) ∙ (ap (λ (k : ℕ). take k line) size ∙ ap (λ (k : ℕ). take b (drop k line)) (let e : 0 ≡ length line - length line = omega arith in e))));
      after = refl;
    } in
    let whole = gives_of_line s t setup f g h b buf (omega arith) has gives in
    let page : t.page ≡ s.page = ap (λ (u : SourceState). u.page) after in
    let frame : IsFrame t setup (record f { taken = n; made = f.made + 1; left = 0 }) = not_needed s t setup f h is whole.given.frame page none alone refl refl size in
    record {
      count = whole.count;
      some = whole.some;
      given = record {
        source = whole.given.source;
        frame = subst (λ (k : ℕ). IsFrame t setup (record f { taken = n; made = f.made + 1; left = k })) (sym none) frame;
        counted = record { none = λ e. none; begun = λ begun. omega arith };
        pass_is = refl;
        further = (let e : (f.made + 1) * length f.line ≡ f.made * length f.line + length f.line = omega arith in omega arith);
        bytes = whole.given.bytes;
      };
    }

-- ---- line after line

-- nothing was given yet
pub gives_none : (s : SourceState) (setup : Setup) (f : FrameProgress) (buf : List ℕ) → IsFrame s setup f → IsLineCounted f → HasGivenOfFrame s setup f 0 s f buf
gives_none s setup f buf is counted = record {
  source = record { further = omega arith; after = refl };
  frame = is;
  counted = counted;
  pass_is = refl;
  further = omega arith;
  bytes = λ steady. refl;
}

goes_on : (s t u : SourceState) → TakesRows s t → TakesRows t u → TakesRows s u
goes_on s t u a b = record {
  further = let x = a.further in let y = b.further in omega arith;
  after = b.after ∙ ap (λ (v : SourceState). record v { given = u.given }) a.after;
}

-- a source that gave rows and then failed
pub stops_on : (s t u : SourceState) → TakesRows s t → StopsFailing t u → StopsFailing s u
stops_on s t u a b = record {
  fallible = sym (ap (λ (v : SourceState). v.infallible) a.after) ∙ b.fallible;
  further = let x = a.further in let y = b.further in omega arith;
  counted = subst (λ (n : ℕ). CountsFailure n u.failures) (ap (λ (v : SourceState). v.failures) a.after) b.counted;
  after = b.after ∙ ap (λ (v : SourceState). record v { given = u.given; failures = u.failures }) a.after;
}

-- the length of a pass is that of the page as it was
same_length : (s t : SourceState) (setup : Setup) (old cur : FrameProgress) (n : ℕ) (buf : List ℕ) → HasGivenOfFrame s setup old n t cur buf → pass_length setup t.page cur.pass ≡ pass_length setup s.page old.pass
same_length s t setup old cur n buf has =
    ap (λ (u : SourceState). pass_length setup u.page cur.pass) has.source.after ∙ ap (pass_length setup s.page) has.pass_is

-- m bytes behind the n that were given
pub gives_on : (s t u : SourceState) (setup : Setup) (old cur new : FrameProgress) (n m : ℕ) (buf piece after : List ℕ) → HasGivenOfFrame s setup old n t cur buf → HasGivenOfFrame t setup cur m u new piece → take n after ≡ take n buf → take m (drop n after) ≡ take m piece → HasGivenOfFrame s setup old (n + m) u new after
gives_on s t u setup old cur new n m buf piece after a b front back = record {
  source = goes_on s t u a.source b.source;
  frame = b.frame;
  counted = b.counted;
  pass_is = b.pass_is ∙ a.pass_is;
  further = let x = a.further in let y = b.further in omega arith;
  bytes = λ steady.
      let g = given_in old in
      let p : List ℕ = payload setup s.page old.pass in
      let steady_too : t.steady ≡ true = ap (λ (v : SourceState). v.steady) a.source.after ∙ steady in
      let same : payload setup t.page cur.pass ≡ p = ap (λ (v : SourceState). payload setup v.page cur.pass) a.source.after ∙ ap (payload setup s.page) a.pass_is in
      let there : take m piece ≡ take m (drop n (drop g p)) =
      b.bytes steady_too
      ∙ (ap (λ (l : List ℕ). take m (drop (given_in cur) l)) same
      ∙ (ap (λ (k : ℕ). take m (drop k p)) a.further
      ∙ ap (take m) (sym (drop-drop n g p)))) in
      take-add n m after
      ∙ (ap (λ (l : List ℕ). l ++ take m (drop n after)) (front ∙ a.bytes steady)
      ∙ (ap (λ (l : List ℕ). take n (drop g p) ++ l) (back ∙ there)
      ∙ sym (take-add n m (drop g p))));
}

-- all that one read may give
pub gives_all : (s t : SourceState) (setup : Setup) (old cur : FrameProgress) (n most : ℕ) (buf : List ℕ) → most ≡ min (length buf) setup.limit → n ≤ most → (n < most → is_frame_over cur ≡ true) → 0 < n → HasGivenOfFrame s setup old n t cur buf → GivesFrameBytes s setup old n t cur buf
gives_all s t setup old cur n most buf most_is within over some has =
    let all = pass_length setup s.page old.pass in
    let inside : given_in cur ≤ all = let e = same_length s t setup old cur n buf has in let h = given_inside t setup cur has.frame in omega arith in
    let further = has.further in
    record {
      count = elim (cases_lt n most) as (λ _. n ≡ min (all - given_in old) (min (length buf) setup.limit)) [
        | inl less ↦
            let whole : given_in cur ≡ all = over_whole t setup cur has.frame (over less) ∙ same_length s t setup old cur n buf has in
            omega arith
        | inr full ↦ omega arith
      ];
      some = some;
      room = omega arith;
      limit = omega arith;
      inside = omega arith;
      bytes = has.bytes;
      further = has.further;
      pass_is = has.pass_is;
      source = has.source;
      frame = has.frame;
    }

-- a failure before the last byte
pub fails_before_the_end : (s t : SourceState) (setup : Setup) (old cur : FrameProgress) (n : ℕ) (buf : List ℕ) → HasGivenOfFrame s setup old n t cur buf → is_frame_over cur ≡ false → given_in old < pass_length setup s.page old.pass
fails_before_the_end s t setup old cur n buf has more =
    let same = same_length s t setup old cur n buf has in
    let less = more_to_give t setup cur has.frame has.counted more in
    let further = has.further in
    omega arith

-- Pages one after another, and how they end.
use Rattle.std.proofs.Common.{◌≡◌, ◌∙◌, ◌⊎◌, inl, inr, refl, sym, ap, subst, ℕ, zero, suc, ◌+◌, ◌<◌, ◌≤◌, arith, Bool, true, false, List, [], ◌∷◌, ◌++◌, Option, Some, None, length, length-append}
use Rattle.std.specs.Prelude.{◌≢◌, Result, Ok, Err, IfOk, OnOk}
use Rattle.std.proofs.lemmas.List.{append-nil, append_assoc}
use Rattle.sane_fixed.specs.declared.status.Status.TheVariants.{Inval, IoError, NoDocs}
use Rattle.frame_join.proofs.StreamLaws.{nothing_holds_none}
use Rattle.scan_frames.specs.Frames.{has_picture}
use Rattle.scan_frames.specs.declared.setup.Setup.{Setup}
use Rattle.device_api.specs.State.{DeviceState, HeldPage, Phase, AtRest, is_at_rest, page_of, state_at_rest, steady_of, with_phase}
use Rattle.scan_job.specs.Shelves.{Stock, ReturnedOutput}
use Rattle.scan_job.specs.declared.outcome.Why.TheVariants.{Answer, Memory, Sink}
use Rattle.scan_job.specs.declared.stop.Stop.{Stop}
use Rattle.local_job.specs.ScanCauses.{ScanHasCause}
use Rattle.local_job.specs.FrameReading.{KeepsDevice}
use Rattle.local_job.specs.LocalPages.{AreScanned, ArePageFiles, EndsPage, IsFileOfFirstPage, RefusesLast, EndsBehind, StopsAt, after_pages, outputs_from}
use Rattle.local_job.specs.Inside.{FilesPage, LeavesPage}
use Rattle.scan_job.specs.FileOutputs.{AreLeft, TakesBack, output_of, refused_output}
use Rattle.local_job.specs.LocalStops.{stop_by_status}
use Rattle.scan_job.specs.Stops.{no_memory, failed_output}
use Rattle.local_job.proofs.Lets.{of_nothing}

-- what is said of a success
pub ok_has : {A E : Type 0} (r : Result A E) (x : A) (P : Type 0) → r ≡ Ok x → OnOk r P → P
ok_has (Ok a) x P is p = p
ok_has (Err e) x P is p = absurd (cc)

pub if_ok_has : {A E : Type 0} (r : Result A E) (x : A) (P : A → Type 0) → r ≡ Ok x → IfOk r P → P x
if_ok_has {A} {E} r x P is p = subst (λ (q : Result A E). IfOk q P) is p

-- ---- one more

pub takes_then : (a b c : Option Stock) (xs ys : List ReturnedOutput) → TakesBack a xs b → TakesBack b ys c → TakesBack a (xs ++ ys) c
takes_then None b c xs ys p q = tt
takes_then (Some a) None c xs ys p q = absurd p
takes_then (Some a) (Some b) None xs ys p q = absurd q
takes_then (Some a) (Some b) (Some c) xs ys p q = q ∙ ap (λ (t : List ReturnedOutput). t ++ ys) p ∙ append_assoc a.taken xs ys

pub takes_none : (a : Option Stock) → TakesBack a [] a
takes_none None = tt
takes_none (Some a) = sym (append-nil a.taken)

pages_more : (files : List (List ℕ)) (s : DeviceState) (text : List ℕ) → ArePageFiles s files → IsFileOfFirstPage (after_pages (length files) s) text → ArePageFiles s (files ++ text ∷ [])
pages_more [] s text are is = (is, tt)
pages_more (file ∷ files) s text are is = (are.0, pages_more files (state_at_rest s false) text are.1 is)

outputs_more : (files : List (List ℕ)) (k : ℕ) (text : List ℕ) → outputs_from k files ++ output_of (k + length files) text ∷ [] ≡ outputs_from k (files ++ text ∷ [])
outputs_more [] k text = ap (λ (n : ℕ). output_of n text ∷ []) (omega arith)
outputs_more (file ∷ files) k text =
    ap (λ (n : ℕ). output_of k file ∷ (outputs_from (suc k) files ++ output_of n text ∷ [])) (let e : k + suc (length files) ≡ suc k + length files = omega arith in e)
    ∙ ap (λ (ts : List ReturnedOutput). output_of k file ∷ ts) (outputs_more files (suc k) text)

after_more : (n : ℕ) (s : DeviceState) → after_pages (suc n) s ≡ state_at_rest (after_pages n s) false
after_more zero s = refl
after_more (suc n) s = after_more n (state_at_rest s false)

after_one : (n : ℕ) (s : DeviceState) → after_pages (n + 1) s ≡ state_at_rest (after_pages n s) false
after_one n s = ap (λ (m : ℕ). after_pages m s) (let e : n + 1 ≡ suc n = omega arith in e) ∙ after_more n s

setup_behind : (n : ℕ) (s : DeviceState) → (after_pages n s).setup ≡ s.setup
setup_behind zero s = refl
setup_behind (suc n) s = setup_behind n (state_at_rest s false)

pub info_behind : (n : ℕ) (s : DeviceState) → (after_pages n s).info ≡ s.info
info_behind zero s = refl
info_behind (suc n) s = info_behind n (state_at_rest s false)

rest_from : (n : ℕ) (s : DeviceState) → s.phase ≡ AtRest false → (after_pages n s).phase ≡ AtRest false
rest_from zero s rest = rest
rest_from (suc n) s rest = rest_from n (state_at_rest s false) refl

rest_behind : (n : ℕ) (s : DeviceState) → 0 < n → (after_pages n s).phase ≡ AtRest false
rest_behind zero s some = absurd (omega (arith, some))
rest_behind (suc n) s some = rest_from n (state_at_rest s false) refl

pub at_rest_behind : (n : ℕ) (s : DeviceState) → is_at_rest s.phase ≡ true → is_at_rest (after_pages n s).phase ≡ true
at_rest_behind zero s rest = rest
at_rest_behind (suc n) s rest = ap is_at_rest (rest_behind (suc n) s (omega arith))

-- so many pages were scanned, and all went well
pub record HasRun (s now : DeviceState) (n : ℕ) (before stock : Option Stock) : Type 0 where
  pub files : List (List ℕ)
  pub count : length files ≡ n
  pub pages : ArePageFiles s files
  pub outputs : TakesBack before (outputs_from 1 files) stock
  pub left : now ≡ after_pages n s
  pub untold : 0 < n → s.setup.told ≢ Some NoDocs

pub none_run : (s : DeviceState) (before : Option Stock) → HasRun s s 0 before before
none_run s before = record { files = []; count = refl; pages = tt; outputs = takes_none before; left = refl; untold = λ some. absurd (omega (arith, some)) }

pub rests_run : (s now : DeviceState) (n : ℕ) (before stock : Option Stock) → is_at_rest s.phase ≡ true → HasRun s now n before stock → is_at_rest now.phase ≡ true
rests_run s now n before stock rest run = ap (λ (t : DeviceState). is_at_rest t.phase) run.left ∙ at_rest_behind n s rest

pub one_run : (s now new : DeviceState) (n : ℕ) (before stock next : Option Stock) → HasRun s now n before stock → FilesPage now (n + 1) true stock next → new ≡ state_at_rest now false → now.setup.told ≢ Some NoDocs → HasRun s new (n + 1) before next
one_run s now new n before stock next run filed is untold = record {
  files = run.files ++ filed.text ∷ [];
  count = omega (arith, length-append run.files (filed.text ∷ []), run.count);
  pages = pages_more run.files s filed.text run.pages (subst (λ (t : DeviceState). IsFileOfFirstPage t filed.text) (run.left ∙ ap (λ (m : ℕ). after_pages m s) (sym run.count)) filed.file);
  outputs =
      let both : TakesBack before (outputs_from 1 run.files ++ output_of (n + 1) filed.text ∷ []) next = takes_then before stock next (outputs_from 1 run.files) (output_of (n + 1) filed.text ∷ []) run.outputs filed.outputs in
      let number : n + 1 ≡ 1 + length run.files = omega (arith, run.count) in
      subst (λ (ts : List ReturnedOutput). TakesBack before ts next) (outputs_more run.files 1 filed.text)
      (subst (λ (m : ℕ). TakesBack before (outputs_from 1 run.files ++ output_of m filed.text ∷ []) next) number both);
  left = is ∙ ap (λ (t : DeviceState). state_at_rest t false) run.left ∙ sym (after_one n s);
  untold = λ _ told. untold (ap (λ (t : Setup). t.told) (ap (λ (t : DeviceState). t.setup) run.left ∙ setup_behind n s) ∙ told);
}

-- ---- the end

pub all_scanned : (s now : DeviceState) (n count : ℕ) (before stock : Option Stock) → HasRun s now n before stock → n ≡ count → AreScanned count (record { device = s; stock = before }) (record { device = now; stock = stock })
all_scanned s now n count before stock run same = record {
  files = run.files;
  pages = run.pages;
  all = inl (run.count ∙ same);
  outputs = run.outputs;
  left = run.left ∙ ap (λ (m : ℕ). after_pages m s) (sym run.count);
}

-- a page that is there is not refused as none
some_page : (now new : DeviceState) (stop : Stop) (there : Bool) → has_picture now.setup (page_of now) ≡ there → stop ≡ stop_by_status NoDocs → now.setup.told ≢ Some NoDocs
    → (there ≡ false → stop ≡ stop_by_status Inval) → (there ≡ true → ScanHasCause stop now new) → ⊥
some_page now new stop false _ is untold none cause = let clash : NoDocs ≡ Inval = ap (λ (t : Stop). t.status) (sym is ∙ none refl) in absurd (cc)
some_page now new stop true _ is untold none cause = by_cause (subst (λ (t : Stop). ScanHasCause t now new) is (cause refl))
  where
    by_cause : ScanHasCause (stop_by_status NoDocs) now new → ⊥
    by_cause (inl told) = untold told.0
    by_cause (inr failed) = let clash : NoDocs ≡ IoError = failed.0 in absurd (cc)

no_page_by : (now new : DeviceState) (stop : Stop) (pages : List HeldPage) → now.pages ≡ pages → stop ≡ stop_by_status NoDocs → now.setup.told ≢ Some NoDocs
    → (now.pages ≢ [] → has_picture now.setup (page_of now) ≡ false → stop ≡ stop_by_status Inval) → (now.pages ≢ [] → has_picture now.setup (page_of now) ≡ true → ScanHasCause stop now new) → now.pages ≡ []
no_page_by now new stop [] e is untold none cause = e
no_page_by now new stop (held ∷ pages) e is untold none cause =
    let some : now.pages ≢ [] = λ empty. (let clash : held ∷ pages ≡ [] = sym e ∙ empty in cc) in
    absurd (some_page now new stop (has_picture now.setup (page_of now)) refl is untold (none some) (cause some))

-- the tray is empty behind some pages
pub out_of_pages : (s now new : DeviceState) (n count : ℕ) (before stock next : Option Stock) (stop : Stop) → HasRun s now n before stock → 0 < n → n < count → stop ≡ stop_by_status NoDocs
    → (now.pages ≡ [] → new ≡ with_phase now (AtRest false)) → (now.pages ≡ [] → next ≡ stock)
    → (now.pages ≢ [] → has_picture now.setup (page_of now) ≡ false → stop ≡ stop_by_status Inval) → (now.pages ≢ [] → has_picture now.setup (page_of now) ≡ true → ScanHasCause stop now new)
    → AreScanned count (record { device = s; stock = before }) (record { device = new; stock = next })
out_of_pages s now new n count before stock next stop run some few is stays silent none cause =
    let told : now.setup.told ≡ s.setup.told = ap (λ (t : Setup). t.told) (ap (λ (t : DeviceState). t.setup) run.left ∙ setup_behind n s) in
    let empty : now.pages ≡ [] = no_page_by now new stop now.pages refl is (λ e. run.untold some (sym told ∙ e)) none cause in
    let phase : now.phase ≡ AtRest false = ap (λ (t : DeviceState). t.phase) run.left ∙ rest_behind n s some in
    let same : new ≡ now = stays empty ∙ ap (λ (p : Phase). with_phase now p) (sym phase) in
    record {
      files = run.files;
      pages = run.pages;
      all = inr (omega (arith, run.count, some), omega (arith, run.count, few), ap (λ (t : DeviceState). t.pages) same ∙ empty);
      outputs = subst (λ (t : Option Stock). TakesBack before (outputs_from 1 run.files) t) (sym (silent empty)) run.outputs;
      left = same ∙ run.left ∙ ap (λ (m : ℕ). after_pages m s) (sym run.count);
    }

-- the shelf refused the last output
pub last_refused : (s now new : DeviceState) (n count : ℕ) (before stock next : Option Stock) (stop : Stop) → HasRun s now n before stock → FilesPage now (n + 1) false stock next → new ≡ state_at_rest now false → n < count
    → stop ≡ failed_output → StopsAt count (record { device = s; stock = before }) (record { device = new; stock = next }) stop
last_refused s now new n count before stock next stop run filed rests few is =
    let size : length (run.files ++ filed.text ∷ []) ≡ n + 1 = omega (arith, length-append run.files (filed.text ∷ []), run.count) in
    record {
      files = run.files ++ filed.text ∷ [];
      pages = pages_more run.files s filed.text run.pages (subst (λ (t : DeviceState). IsFileOfFirstPage t filed.text) (run.left ∙ ap (λ (m : ℕ). after_pages m s) (sym run.count)) filed.file);
      few = omega (arith, size, few);
      ended = inl (record {
        shelved = run.files;
        last = filed.text;
        files_are = refl;
        outputs = subst (λ (m : ℕ). TakesBack before (outputs_from 1 run.files ++ refused_output (m + 1) filed.text ∷ []) next) (sym run.count)
            (takes_then before stock next (outputs_from 1 run.files) (refused_output (n + 1) filed.text ∷ []) run.outputs filed.outputs);
        refused = is;
        after = rests ∙ ap (λ (t : DeviceState). state_at_rest t false) run.left ∙ sym (after_one n s) ∙ ap (λ (m : ℕ). after_pages m s) (sym size);
      });
    }

-- a page was not scanned
pub page_ended : (s now new : DeviceState) (n count : ℕ) (before stock next : Option Stock) (stop : Stop) → HasRun s now n before stock → n < count → LeavesPage (n + 1) stock next
    → EndsPage now n new stop → StopsAt count (record { device = s; stock = before }) (record { device = new; stock = next }) stop
page_ended s now new n count before stock next stop run few left ends =
    let number : n ≡ length run.files = sym run.count in
    record {
      files = run.files;
      pages = run.pages;
      few = omega (arith, run.count, few);
      ended = inr (
        omega (arith, run.count, few),
        record {
          text = left.text;
          none = left.none;
          left = left.left;
          is_left = subst (λ (m : ℕ). AreLeft (m + 1) left.text left.left) number left.is_left;
          outputs = takes_then before stock next (outputs_from 1 run.files) left.left run.outputs left.outputs;
          cause = subst (λ (m : ℕ). EndsPage (after_pages m s) m new stop) number (subst (λ (t : DeviceState). EndsPage t n new stop) run.left ends);
        },
      );
    }

-- there is no memory for the first
pub no_memory_first : (s : DeviceState) (count : ℕ) (before : Option Stock) (stop : Stop) → 0 < count → stop ≡ no_memory → StopsAt count (record { device = s; stock = before }) (record { device = s; stock = before }) stop
no_memory_first s count before stop some is = page_ended s s s 0 count before before before stop (none_run s before) some (record { text = []; none = nothing_holds_none; left = []; is_left = refl; outputs = takes_none before })
    (record { no_page = λ _. (refl, inl is); no_picture = λ _ _. inl is; cause = λ _ _. subst (λ (t : Stop). ScanHasCause t s s) (sym is) refl; same = of_nothing s s refl })

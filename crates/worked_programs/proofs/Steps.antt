-- What a plan on a scanner here comes to, whose config is given on standard input.
use Rattle.std.proofs.Common.{◌≡◌, ◌∙◌, ℕ, List, [], ◌∷◌, ◌++◌, Option, Some, None, refl, sym, ap, subst}
use Rattle.std.specs.Prelude.{IfSome, codes, take}
use Rattle.sane_fixed.specs.declared.byte_order.ByteOrder.TheVariants.{Big}
use Rattle.sane_fixed.specs.declared.status.Status.TheVariants as statuses
use Rattle.scan_job.specs.declared.outcome.Why.TheVariants as whys
use Rattle.scan_job.specs.declared.job.Task.{Task}
use Rattle.device_api.specs.State.{DeviceState}
use Rattle.dispatch.specs.ConfigLines.{TellsConfig}
use Rattle.dispatch.specs.Table.{fresh_table}
use Rattle.dispatch.specs.declared.config_line.ConfigLine.{ConfigLine}
use Rattle.config_pages.specs.Devices.{AreDevicesOf, HasNoScanner, HasNoScanners, calls_of_lines}
use Rattle.config_pages.specs.Devices.HasNoScanner.{ForPage, ForMemory, ForNone}
use Rattle.config_pages.specs.InputTexts.{InputCall, InputTexts, IsConfigRead, SeenInputs, calls_behind, page_asked, text_read, with_calls}
use Rattle.config_pages.specs.InputTexts.InputCall.{AskedPage, ReadText}
use Rattle.config_pages.specs.InputTexts.InputName.{StandardText}
use Rattle.config_pages.specs.Pages.{HasNoPageBy, calls_of_pages, hex_digits}
use Rattle.config_pages.specs.declared.config_scanners.ScannerFault.{ScannerFault}
use Rattle.config_pages.specs.declared.devices.DeviceFault.{DeviceFault}
use Rattle.config_pages.specs.declared.no_page.PageSourceFault.{PageSourceFault}
use Rattle.scanimage_cli.specs.Causes.IsCauseOf.{OfWords, OfConfig, OfPage, OfMemory, OfPassword, OfTask}
use Rattle.scanimage_cli.specs.Causes.{EndsAt, EndsHere, IsCauseOf, IsConfigured}
use Rattle.scanimage_cli.specs.Ending.{ended_by_device}
use Rattle.scanimage_cli.specs.Inputs.{AreLinesOf, IsLineRefusal, IsPasswordIn, IsUnreadAt, RefusesConfigAt, RefusesConfigRead, RefusesNamedConfig}
use Rattle.scanimage_cli.specs.Programs.{IsDoneHere, asked_here}
use Rattle.scanimage_cli.specs.Whole.{HasRunFor, IsDoneAt, ProgramState}
use Rattle.scanimage_cli.specs.declared.ending.Ending.{Ending}
use Rattle.scanimage_cli.specs.declared.ending.Ending.TheVariants.{Ended}
use Rattle.scanimage_cli.specs.declared.planning.Destination.{Destination}
use Rattle.scanimage_cli.specs.declared.planning.Input.TheVariants.{StandardInput}
use Rattle.scanimage_cli.specs.declared.planning.Location.TheVariants.{Here}
use Rattle.scanimage_cli.specs.declared.planning.Plan.{Plan}
use Rattle.worked_programs.specs.Begun.{HasReadOnly, WasGivenText}
use Rattle.worked_programs.specs.Begun.WasGivenText.{IsThere, WasRead}
use Rattle.worked_programs.proofs.Basics.{not_empty, some_is}
use Rattle.worked_programs.proofs.Plans.{PlansHere, PlansOnly}

-- ---- the text that was read

abbrev call_gave : InputCall → Option (List ℕ)
call_gave (ReadText read) = read.gave
call_gave (AskedPage asked) = None

abbrev first_gave : Option (List InputCall) → Option (List ℕ)
first_gave None = None
first_gave (Some []) = None
first_gave (Some (call ∷ calls)) = call_gave call

-- the first reading gave what the only one gave
gave_is : (text : List ℕ) (gave : Option (List ℕ)) (was now configured : SeenInputs) (more : List InputCall) → HasReadOnly text was now
    → configured ≡ with_calls (ReadText (text_read StandardText 4194433 gave) ∷ []) was
    → now.calls ≡ calls_behind more configured.calls → gave ≡ Some text
gave_is text gave was now configured more only noted behind =
    let first : configured.calls ≡ Some (ReadText (text_read StandardText 4194433 gave) ∷ []) =
    ap (λ (s : SeenInputs). s.calls) noted ∙ ap (λ (calls : Option (List InputCall)). calls_behind
    (ReadText (text_read StandardText 4194433 gave) ∷ []) calls) only.before in
    let all : now.calls ≡ Some (ReadText (text_read StandardText 4194433 gave) ∷ more) = behind
    ∙ ap (λ (calls : Option (List InputCall)). calls_behind more calls) first in
    ap first_gave (sym all ∙ only.behind)

text_read_is : (text : List ℕ) (was now configured : SeenInputs) (lines : List ConfigLine) (more : List InputCall) → HasReadOnly text was now
    → (c : IsConfigRead StandardText was configured lines)
    → now.calls ≡ calls_behind more configured.calls → c.text ≡ text
text_read_is text was now configured lines more only c behind = some_is _ _ (gave_is text (Some c.text) was now configured more only c.read.noted behind)

pub text_is : (text : List ℕ) (was now configured : SeenInputs) (lines : List ConfigLine) → take 4194433 text ≡ text → WasGivenText text was now
    → (c : IsConfigRead StandardText was configured lines)
    → now ≡ with_calls (calls_of_lines lines) configured → c.text ≡ text
text_is text was now configured lines short (IsThere there) c behind = subst
    (λ (o : Option (List ℕ)). IfSome o (λ all. c.text ≡ take 4194433 all)) there c.read.told ∙ short
text_is text was now configured lines short (WasRead only) c behind = text_read_is text was now configured lines (calls_of_lines lines) only c
    (ap (λ (s : SeenInputs). s.calls) behind)

-- ---- where it is done

pub record HasDone (text : List ℕ) (named : Option (List ℕ)) (settings : List (List ℕ × List ℕ)) (task : Task) (destination : Destination)
    (was now : ProgramState) : Type 0 where
  pub plan : Plan
  pub plans : PlansHere plan (Some StandardInput) named settings task destination
  pub lines : List ConfigLine
  pub tells : TellsConfig text lines
  pub texts : InputTexts
  pub devices : List DeviceState
  pub of_lines : AreDevicesOf texts Big lines devices
  pub does : IsDoneHere (fresh_table devices) (asked_here named plan.job []) was.outputs now.outputs
  pub ports : now.ports ≡ was.ports

pub done_of : (words : List (List ℕ)) (text : List ℕ) (named : Option (List ℕ)) (settings : List (List ℕ × List ℕ)) (task : Task)
    (destination : Destination) (was now : ProgramState)
    → PlansOnly words named settings task destination → take 4194433 text ≡ text → WasGivenText text was.inputs now.inputs → HasRunFor words was now
    → HasDone text named settings task destination was now
done_of words text named settings task destination was now only short given h =
    let p = only h.plan h.is_plan in
    let c : IsConfigRead StandardText was.inputs h.configured h.lines = subst (λ o. AreLinesOf o was.inputs h.configured h.lines) p.config_is h.config in
    let password : (h.carried.password ≡ []) × (now.inputs ≡ with_calls (calls_of_lines h.lines) h.configured) =
    subst (λ o. IsPasswordIn o (with_calls (calls_of_lines h.lines) h.configured) now.inputs h.carried.password) p.password_file h.carried.named in
    let same : c.text ≡ text = text_is text was.inputs now.inputs h.configured h.lines short given c password.1 in
    let does : IsDoneAt (Here named) (fresh_table h.devices) h.plan.job h.carried.password
    (record was { inputs = with_calls (calls_of_lines h.lines) h.configured }) now =
    subst (λ l. IsDoneAt l (fresh_table h.devices) h.plan.job h.carried.password
    (record was { inputs = with_calls (calls_of_lines h.lines) h.configured }) now) p.here h.carried.does in
    record {
      plan = h.plan;
      plans = p;
      lines = h.lines;
      tells = subst (λ (t : List ℕ). TellsConfig t h.lines) same c.tells;
      texts = h.configured.texts;
      devices = h.devices;
      of_lines = h.of_lines;
      does = subst (λ (word : List ℕ). IsDoneHere (fresh_table h.devices) (asked_here named h.plan.job word) was.outputs now.outputs) password.0 does.0;
      ports = does.1;
    }

-- ---- where it ends otherwise

-- out of memory; by a line of the config; by a line's page; or by the task itself
pub data ComesTo (text : List ℕ) (named : Option (List ℕ)) (settings : List (List ℕ × List ℕ)) (task : Task) (destination : Destination)
    (was now : ProgramState) (ending : Ending) : Type 0 where
  ByMemory : (lines : List ConfigLine) → TellsConfig text lines → ending ≡ Ended statuses.NoMem whys.Memory
      → ComesTo text named settings task destination was now ending
  ByLine : IsLineRefusal text ending → ComesTo text named settings task destination was now ending
  ByPage : (lines : List ConfigLine) → TellsConfig text lines → (before behind : SeenInputs) → (why : ScannerFault) → HasNoScanners lines before behind why
      → ending ≡ ended_by_device why.line why.fault
      → ComesTo text named settings task destination was now ending
  ByTask : (plan : Plan) → PlansHere plan (Some StandardInput) named settings task destination → (lines : List ConfigLine) → TellsConfig text lines
      → (texts : InputTexts) → (devices : List DeviceState) → AreDevicesOf texts Big lines devices
      → EndsHere (fresh_table devices) (asked_here named plan.job []) was.outputs now.outputs ending
      → ComesTo text named settings task destination was now ending

-- the calls that stand behind
abbrev Grows : SeenInputs → SeenInputs → Type 0
Grows was now = (more : List InputCall) × (now.calls ≡ calls_behind more was.calls)

joined_calls : (a b : List InputCall) (calls : Option (List InputCall)) → calls_behind b (calls_behind a calls) ≡ calls_behind (a ++ b) calls
joined_calls a b None = refl
joined_calls a b (Some all) = ap Some (Rattle.std.proofs.lemmas.List.append_assoc all a b)

no_calls : (calls : Option (List InputCall)) → calls ≡ calls_behind [] calls
no_calls None = refl
no_calls (Some all) = ap Some (sym (Rattle.std.proofs.lemmas.List.append-nil all))

grows_by : (a b : List InputCall) (was now : SeenInputs) → now ≡ with_calls b (with_calls a was) → Grows was now
grows_by a b was now is = (a ++ b, ap (λ (s : SeenInputs). s.calls) is ∙ joined_calls a b was.calls)

page_grows : (digits : Option (List ℕ)) (text : List ℕ) (dpi : ℕ) (front : List InputCall) (was now : SeenInputs) (why : PageSourceFault)
    → HasNoPageBy digits text dpi (with_calls front was) now why → Grows was now
page_grows None text dpi front was now why none = grows_by front (AskedPage (page_asked text none.is_open) ∷ []) was now none.asked
page_grows (Some digits) text dpi front was now why none = (front, ap (λ (s : SeenInputs). s.calls) none.0)

line_grows : (line : ConfigLine) (front : List InputCall) (was now : SeenInputs) (fault : DeviceFault) → HasNoScanner line (with_calls front was) now fault
    → Grows was now
line_grows line front was now fault (ForPage pages text back why are none told) =
    let grown = page_grows (hex_digits text) text line.dpi (calls_of_pages pages) (with_calls front was) now why none in
    (front ++ grown.0, grown.1 ∙ joined_calls front grown.0 was.calls)
line_grows line front was now fault (ForMemory pages back are is told) = grows_by front (calls_of_pages pages) was now is
line_grows line front was now fault (ForNone none is told) = (front, ap (λ (s : SeenInputs). s.calls) is)

lines_grow : (lines : List ConfigLine) (was now : SeenInputs) (why : ScannerFault) → HasNoScanners lines was now why → Grows was now
lines_grow lines was now why none = line_grows none.line (calls_of_lines none.front) was now why.fault none.no_scanner

-- nothing was read where something was
none_read : (text : List ℕ) (was now : ProgramState) → HasReadOnly text was.inputs now.inputs → now ≡ was → ⊥
none_read text was now only same = not_empty _ _ (some_is _ _ (sym only.before ∙ ap (λ (s : ProgramState). s.inputs.calls) (sym same) ∙ only.behind))

-- the lines that were read are of the text
lines_are : (words : List (List ℕ)) (text : List ℕ) (named : Option (List ℕ)) (settings : List (List ℕ × List ℕ)) (task : Task) (destination : Destination)
    (was now : SeenInputs)
    → PlansOnly words named settings task destination → HasReadOnly text was now → (read : IsConfigured words was) → Grows read.configured now
    → TellsConfig text read.lines
lines_are words text named settings task destination was now plans only read grown =
    let p = plans read.plan read.is_plan in
    let c : IsConfigRead StandardText was read.configured read.lines = subst (λ o. AreLinesOf o was read.configured read.lines) p.config_is read.config in
    subst (λ (t : List ℕ). TellsConfig t read.lines) (text_read_is text was now read.configured read.lines grown.0 only c grown.1) c.tells

module _ (words : List (List ℕ)) (text : List ℕ) (named : Option (List ℕ)) (settings : List (List ℕ × List ℕ)) (task : Task) (destination : Destination)
    (was now : ProgramState) (ending : Ending) (plans : PlansOnly words named settings task destination) (only : HasReadOnly text was.inputs now.inputs) where
  pub comes_to : IsCauseOf words was now ending → ComesTo text named settings task destination was now ending
  comes_to (OfWords refusal same) = absurd (none_read text was now only same)
  comes_to (OfConfig plan is refuses reads) =
      let p = plans plan is in
      let r : RefusesConfigRead StandardInput was.inputs now.inputs ending = subst
      (λ o. RefusesConfigAt o was.inputs now.inputs ending) p.config_is refuses in
      let same : r.gave ≡ Some text = gave_is text r.gave was.inputs now.inputs now.inputs [] only r.read.noted (no_calls now.inputs.calls) in
      ByLine (subst (λ (o : Option (List ℕ)). RefusesNamedConfig (codes "-") o ending) same r.why)
  comes_to (OfPage read why none told reads) =
      ByPage read.lines (lines_are words text named settings task destination was.inputs now.inputs plans only read
      (lines_grow read.lines read.configured now.inputs why none)) read.configured now.inputs why none told
  comes_to (OfMemory read behind told reads) =
      ByMemory read.lines (lines_are words text named settings task destination was.inputs now.inputs plans only read
      (calls_of_lines read.lines, ap (λ (s : SeenInputs). s.calls) behind)) told
  comes_to (OfPassword read unread reads) =
      let p = plans read.plan read.is_plan in
      absurd (subst (λ o. IsUnreadAt o (with_calls (calls_of_lines read.lines) read.configured) now.inputs ending) p.password_file unread)
  comes_to (OfTask ended) =
      let read = ended.read in
      let p = plans read.plan read.is_plan in
      let password : (ended.password ≡ []) × (now.inputs ≡ with_calls (calls_of_lines read.lines) read.configured) =
      subst (λ o. IsPasswordIn o (with_calls (calls_of_lines read.lines) read.configured) now.inputs ended.password) p.password_file ended.named in
      let tells = lines_are words text named settings task destination was.inputs now.inputs plans only read
      (calls_of_lines read.lines, ap (λ (s : SeenInputs). s.calls) password.1) in
      let ends : EndsAt (Here named) (fresh_table ended.devices) read.plan.job ended.password was now ending = subst
      (λ l. EndsAt l (fresh_table ended.devices) read.plan.job ended.password was now ending) p.here ended.ends in
      ByTask read.plan p read.lines tells read.configured.texts ended.devices ended.of_lines
      (subst (λ (word : List ℕ). EndsHere (fresh_table ended.devices) (asked_here named read.plan.job word) was.outputs now.outputs ending) password.0 ends.0)

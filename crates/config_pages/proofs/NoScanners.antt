-- Lines of which there is no scanner.
use Rattle.std.proofs.Common.{◌≡◌, ◌∙◌, ◌<◌, ◌+◌, ℕ, Bool, true, false, cond, List, [], ◌∷◌, ap, subst, sym, take, drop, length}
use Rattle.std.specs.Prelude.{get_or}
use Rattle.std.proofs.lemmas.List.{append-nil, take-append-drop}
use Rattle.device_api.specs.Kinds.{is_feeder}
use Rattle.dispatch.specs.declared.config_line.ConfigLine.{ConfigLine}
use Rattle.config_pages.specs.InputTexts.{SeenInputs, with_calls}
use Rattle.config_pages.specs.Pages.{HasNoPage, calls_of_pages}
use Rattle.config_pages.specs.Devices.{HasNoScanner, HasNoScanners, calls_of_lines, device_fault, pages_of_line}
use Rattle.config_pages.specs.Devices.HasNoScanner.{ForPage, ForMemory}
use Rattle.config_pages.specs.declared.config_scanners.ScannerFault.{ScannerFault}
use Rattle.config_pages.specs.declared.devices.DeviceFault.{DeviceFault}
use Rattle.config_pages.specs.declared.devices.DeviceFault.TheVariants.{NoMem}
use Rattle.config_pages.specs.declared.no_page.PageSourceFault.{PageSourceFault}
use Rattle.config_pages.proofs.CallLists.{cut_there, no_calls}

pub one_page : (line : ConfigLine) (text : List ℕ) (more : List (List ℕ)) → is_feeder line.kind ≡ false → line.pages.items ≡ text ∷ more → pages_of_line line ≡ text ∷ []
one_page line text more solo is = ap (λ (b : Bool). cond b line.pages.items (take 1 line.pages.items)) solo ∙ ap (take 1) is

pub all_pages : (line : ConfigLine) → is_feeder line.kind ≡ true → pages_of_line line ≡ line.pages.items
all_pages line many = ap (λ (b : Bool). cond b line.pages.items (take 1 line.pages.items)) many

pub no_first : (line : ConfigLine) (text : List ℕ) (more : List (List ℕ)) (was now : SeenInputs) (why : PageSourceFault) (fault : DeviceFault) → is_feeder line.kind ≡ false → line.pages.items ≡ text ∷ more → HasNoPage text line.dpi was now why
    → fault ≡ device_fault why → HasNoScanner line was now fault
no_first line text more was now why fault solo is lacks told = ForPage [] text [] why (one_page line text more solo is) (subst (λ (s : SeenInputs). HasNoPage text line.dpi s now why) (sym (no_calls was)) lacks) told

pub no_next : (line : ConfigLine) (texts : List (List ℕ)) (i : ℕ) (text : List ℕ) (first was now : SeenInputs) (why : PageSourceFault) (fault : DeviceFault) → is_feeder line.kind ≡ true → texts ≡ line.pages.items → i < length texts → text ≡ get_or texts i text
    → was ≡ with_calls (calls_of_pages (take i texts)) first → HasNoPage text line.dpi was now why → fault ≡ device_fault why → HasNoScanner line first now fault
no_next line texts i text first was now why fault many are within at before lacks told =
    ForPage (take i texts) text (drop (i + 1) texts) why (all_pages line many ∙ (sym are ∙ cut_there texts i text within at)) (subst (λ (s : SeenInputs). HasNoPage text line.dpi s now why) before lacks) told

pub no_room : (line : ConfigLine) (texts : List (List ℕ)) (i : ℕ) (first now : SeenInputs) (fault : DeviceFault) → is_feeder line.kind ≡ true → texts ≡ line.pages.items → now ≡ with_calls (calls_of_pages (take i texts)) first
    → fault ≡ NoMem → HasNoScanner line first now fault
no_room line texts i first now fault many are asked told = ForMemory (take i texts) (drop i texts) (all_pages line many ∙ (sym are ∙ sym (take-append-drop i texts))) asked told

pub no_memory : (line : ConfigLine) (was now : SeenInputs) (fault : DeviceFault) → now ≡ with_calls (calls_of_pages (pages_of_line line)) was → fault ≡ NoMem → HasNoScanner line was now fault
no_memory line was now fault asked told = ForMemory (pages_of_line line) [] (sym (append-nil (pages_of_line line))) asked told

pub lines_without : (lines : List ConfigLine) (i : ℕ) (line : ConfigLine) (first was now : SeenInputs) (why : ScannerFault) → i < length lines → line ≡ get_or lines i line → was ≡ with_calls (calls_of_lines (take i lines)) first
    → why.line ≡ line.line → HasNoScanner line was now why.fault → HasNoScanners lines first now why
lines_without lines i line first was now why within at before number lacks = record {
  front = take i lines;
  line = line;
  back = drop (i + 1) lines;
  are = cut_there lines i line within at;
  number = number;
  no_scanner = subst (λ (s : SeenInputs). HasNoScanner line s now why.fault) before lacks;
}

-- The pages of scanners whose lines have them as digits.
use Rattle.std.specs.Prelude.{Contains, Ok, map}
use Rattle.std.specs.List.{AllZip}
use Rattle.std.proofs.Common.{◌≡◌, ◌∙◌, ℕ, inl, inr, true, List, [], ◌∷◌, refl, sym, ap, subst}
use Rattle.sane_fixed.specs.declared.byte_order.ByteOrder.{ByteOrder}
use Rattle.page_picture.specs.Source.{SourceState}
use Rattle.page_picture.specs.declared.scene.DeviceKind.{DeviceKind}
use Rattle.page_picture.specs.declared.scene.DeviceKind.TheVariants as kinds
use Rattle.page_sources.specs.PageFile.{TellsPage}
use Rattle.device_api.specs.State.{DeviceState, HeldPage, held_from}
use Rattle.config_pages.specs.Devices.{IsDeviceOfKind, IsFeederOfLine, IsScannerOfLine}
use Rattle.config_pages.specs.InputTexts.{InputTexts}
use Rattle.config_pages.specs.Pages.{IsPageOfText}
use Rattle.dispatch.specs.ConfigLines.{device_name}
use Rattle.dispatch.specs.declared.config_line.ConfigLine.{ConfigLine}
use Rattle.scan_world.proofs.Lists.{In, in_list}
use Rattle.programs_lead.specs.ExitLaws.{LinesArePages, StandsInLine}
use Rattle.programs_lead.proofs.Scans.{one_device}

zip_in : {A B : Type 0} (R : A → B → Type 0) (xs : List A) (ys : List B) (x : A) → AllZip R xs ys → In x xs → (y : B) × In y ys × R x y
zip_in R [] [] x zip among = absurd among
zip_in R [] (y ∷ ys) x zip among = absurd among
zip_in R (z ∷ xs) [] x zip among = absurd zip
zip_in R (z ∷ xs) (y ∷ ys) x zip (inl is) = (y, inl refl, subst (λ a. R a y) (sym is) zip.0)
zip_in R (z ∷ xs) (y ∷ ys) x zip (inr more) = let r = zip_in R xs ys x zip.1 more in (r.0, inr r.1, r.2)

-- a page of that file alone, and steady
abbrev HasPageOf : List ℕ → ℕ → HeldPage → Type 0
HasPageOf file dpi held = (held.steady ≡ true) × TellsPage file dpi held.page

spelled_page : (texts : InputTexts) (line : ConfigLine) (file : List ℕ) (s : StandsInLine line file) (source : SourceState) → IsPageOfText texts s.page line.dpi source → HasPageOf file line.dpi (held_from source)
spelled_page texts line file s source is =
    let g = is.spelled s.digits s.hex in
    let both : Ok g.file ≡ Ok file = sym g.spelled ∙ s.spelled in
    let same : g.file ≡ file = cc in
    (ap (λ (x : SourceState). x.steady) g.begun, subst (λ t. TellsPage t line.dpi source.page) same g.told)

-- the scanner has one page, of a source
record HasOnePage (line : ConfigLine) (texts : InputTexts) (page : List ℕ) (device : DeviceState) : Type 0 where
  pub source : SourceState
  pub is_page : IsPageOfText texts page line.dpi source
  pub pages : device.pages ≡ held_from source ∷ []
  pub name : device.info.name ≡ device_name line.kind line.index

of_scanner : (texts : InputTexts) (kind : DeviceKind) (line : ConfigLine) (order : ByteOrder) (device : DeviceState) (page : List ℕ) → line.pages.items ≡ page ∷ []
    → IsScannerOfLine texts kind line order device → HasOnePage line texts page device
of_scanner texts kind line order device page only s = record {
  source = s.source;
  is_page = subst (λ t. IsPageOfText texts t line.dpi s.source) first s.page.is_page;
  pages = ap (λ (d : DeviceState). d.pages) s.is_new;
  name = ap (λ (d : DeviceState). d.info.name) s.is_new;
}
  where
    first : s.page.text ≡ page
    first = let both : s.page.text ∷ s.page.more ≡ page ∷ [] = sym s.page.first ∙ only in cc

of_feeder : (texts : InputTexts) (line : ConfigLine) (order : ByteOrder) (device : DeviceState) (page : List ℕ) → line.pages.items ≡ page ∷ []
    → IsFeederOfLine texts line order device → HasOnePage line texts page device
of_feeder texts line order device page only f = by_sources f.sources refl (subst (λ texts_of. AllZip (λ text source. IsPageOfText texts text line.dpi source) texts_of f.sources) only f.pages)
  where
    by_sources : (sources : List SourceState) → sources ≡ f.sources → AllZip (λ text source. IsPageOfText texts text line.dpi source) (page ∷ []) f.sources → HasOnePage line texts page device
    by_sources [] are zip = absurd (subst (λ l. AllZip (λ text source. IsPageOfText texts text line.dpi source) (page ∷ []) l) (sym are) zip)
    by_sources (source ∷ []) are zip = record {
      source = source;
      is_page = (subst (λ l. AllZip (λ text source. IsPageOfText texts text line.dpi source) (page ∷ []) l) (sym are) zip).0;
      pages = ap (λ (d : DeviceState). d.pages) f.is_new ∙ ap (λ l. map held_from l) (sym are);
      name = ap (λ (d : DeviceState). d.info.name) f.is_new;
    }
    by_sources (source ∷ other ∷ more) are zip = absurd ((subst (λ l. AllZip (λ text source. IsPageOfText texts text line.dpi source) (page ∷ []) l) (sym are) zip).1)

of_kind : (texts : InputTexts) (kind : DeviceKind) (line : ConfigLine) (order : ByteOrder) (device : DeviceState) (page : List ℕ) → line.pages.items ≡ page ∷ []
    → IsDeviceOfKind texts kind line order device → HasOnePage line texts page device
of_kind texts kinds.Flatbed line order device page only is = of_scanner texts kinds.Flatbed line order device page only is
of_kind texts kinds.Hand line order device page only is = of_scanner texts kinds.Hand line order device page only is
of_kind texts kinds.ThreePass line order device page only is = of_scanner texts kinds.ThreePass line order device page only is
of_kind texts kinds.Feeder line order device page only is = of_feeder texts line order device page only is

pub lines : LinesArePages
lines daemon line file there stands device here named held has =
    let texts = daemon.served.configured.texts in
    let order = daemon.served.plan.options.byte_order in
    let devices = daemon.served.devices in
    let own = zip_in (λ line device. IsDeviceOfKind texts line.kind line order device) daemon.served.lines devices line daemon.served.of_lines (in_list daemon.served.lines line there) in
    let one = of_kind texts line.kind line order own.0 stands.page stands.only own.2 in
    let same = one_device devices daemon.served.begun.names device own.0 (in_list devices device here) own.1 (named ∙ sym one.name) in
    let among = subst (λ pages. In held pages) one.pages (in_list own.0.pages held (subst (λ (d : DeviceState). Contains d.pages held) same has)) in
    only_one held one.source among (spelled_page texts line file stands one.source one.is_page)
  where
    only_one : (held : HeldPage) (source : SourceState) → In held (held_from source ∷ []) → HasPageOf file line.dpi (held_from source) → HasPageOf file line.dpi held
    only_one held source (inl is) page = subst (λ h. HasPageOf file line.dpi h) (sym is) page
    only_one held source (inr never) page = absurd never

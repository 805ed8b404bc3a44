use Rattle.std.specs.Prelude.{Some, None}
use Rattle.std.proofs.Common.{◌≡◌, rules, arith, ◌∙◌}
use Rattle.page_sources.specs.PageFile.{IsPageFormat}
use Rattle.page_sources.specs.Inside.{rest_of, header_from}
use Rattle.page_sources.proofs.PageLemmas.{page_found, no_header, too_large}
use Rattle.page_sources.proofs.ScanLemmas.{header_at-start, page_format}
use Rattle.page_sources.proofs.header_scan.HeaderScan.page_header.Goals as goal

pub returns-in_default-2-clause-fault : goal.returns-in_default-2-clause-fault
returns-in_default-2-clause-fault g c = λ kept.
    let self = c.args.self.now in
    let is : IsPageFormat (Some c.in-Some.format) = search rules in
    let told = header_at-start self.text self.at c.in-Some.format (rest_of c.format.new.self) c.requires (search rules) is (search rules) in
    let none : header_from c.in-Some.format (rest_of c.format.new.self) ≡ None = search rules in
    (page_format self.text self.at c.in-Some.format c.requires (search rules) is, no_header self.text (told ∙ none))

pub returns-then-header-gt16384-clause-fault : goal.returns-then-header-gt16384-clause-fault
returns-then-header-gt16384-clause-fault g c = λ kept.
    let self = c.args.self.now in
    let header = c.in-Some-2.header in
    let raster = rest_of c.header.new.self in
    let is : IsPageFormat (Some c.in-Some.format) = search rules in
    let told = header_at-start self.text self.at c.in-Some.format (rest_of c.format.new.self) c.requires (search rules) is (search rules) in
    let some : header_from c.in-Some.format (rest_of c.format.new.self) ≡ Some (header, raster) = search rules in
    (page_format self.text self.at c.in-Some.format c.requires (search rules) is, too_large self.text header raster (told ∙ some) c.then-header-gt16384.either)

pub returns-clause-begins : goal.returns-clause-begins
returns-clause-begins g c = λ kept.
    let self = c.args.self.now in
    let header = c.in-Some-2.header in
    let raster = rest_of c.header.new.self in
    let is : IsPageFormat (Some c.in-Some.format) = search rules in
    let told = header_at-start self.text self.at c.in-Some.format (rest_of c.format.new.self) c.requires (search rules) is (search rules) in
    let some : header_from c.in-Some.format (rest_of c.format.new.self) ≡ Some (header, raster) = search rules in
    page_found self.text header raster (told ∙ some) (page_format self.text self.at c.in-Some.format c.requires (search rules) is) (omega arith) (omega arith)

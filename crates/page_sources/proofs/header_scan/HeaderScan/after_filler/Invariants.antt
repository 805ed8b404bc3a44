use Rattle.std.proofs.Common.{◌≡◌, ◌≤◌, ◌<◌, ◌^◌, true, false}
use Rattle.netpbm.specs.HeaderReading.{after_filler}
use Rattle.page_sources.specs.Inside.{rest_of}
use Rattle.page_sources.proofs.header_scan.HeaderScan.after_filler.Given as goal

abbrev pub invariant-loop-used : goal.invariant-loop-used
invariant-loop-used g l = record {
  same : l.self ≡ record l.fn.self { at = l.self.at; faults = l.self.faults };
  worked : l.fn.self.kept ≡ true → l.self.faults ≡ l.fn.self.faults;
  on : l._used ≤ l.self.at;
  limit : 0 < l._used → l.self.at ≤ 2 ^ 52;
  filler : l.fn.self.kept ≡ true → after_filler l.in_comment (rest_of l.self) ≡ after_filler false (rest_of l.fn.self);
}

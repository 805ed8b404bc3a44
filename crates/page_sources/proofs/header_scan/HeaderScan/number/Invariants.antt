use Rattle.std.proofs.Common.{◌≡◌, ◌<◌, ◌^◌, true}
use Rattle.page_sources.specs.Inside.{rest_of, from_hand, more_digits}
use Rattle.page_sources.proofs.header_scan.HeaderScan.number.Given as goal

abbrev pub invariant-loop-count : goal.invariant-loop-count
invariant-loop-count g l = record {
  same : l.self ≡ record l.fn.self { at = l.self.at; faults = l.self.faults };
  worked : l.fn.self.kept ≡ true → l.self.faults ≡ l.fn.self.faults;
  small : l.value < 10 ^ l.count;
  digits : l.fn.self.kept ≡ true → more_digits l.count l.value (from_hand l.hand (rest_of l.self)) ≡ more_digits 0 0 (from_hand l.fn.hand (rest_of l.fn.self));
}

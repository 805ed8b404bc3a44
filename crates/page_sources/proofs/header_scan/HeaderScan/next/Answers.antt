use Rattle.std.proofs.Common.{rules}
use Rattle.page_sources.proofs.ScanLemmas.{byte_taken, byte_counted}
use Rattle.page_sources.proofs.header_scan.HeaderScan.next.Goals as goal

pub invariant_of-self-in-Some : goal.invariant_of-self-in-Some
invariant_of-self-in-Some g c = (
  search rules,
  search rules,
  search rules,
  byte_counted _ _ _ _ c.self.inside.at c.in-Some.byte _ _ c.next_byte.ensures.kept c.next_byte.ensures.text c.self.invariant.3 c.in_ok-byte.field-0 c.in-Some.is c.in_ok-byte.ensures.ok,
  byte_taken _ _ _ _ c.self.inside.at c.in-Some.byte _ _ c.next_byte.ensures.kept c.next_byte.ensures.text c.self.invariant.4 c.in_ok-byte.field-0 c.in-Some.is c.in_ok-byte.ensures.ok,
)

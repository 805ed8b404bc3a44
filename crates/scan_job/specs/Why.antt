-- The words that scanimage prints for why a job ended.
use Rattle.std.specs.Prelude.{ℕ, List, codes}
use Rattle.scan_job.specs.declared.outcome.Why.{Why}
use Rattle.scan_job.specs.declared.outcome.Why.TheVariants.{Answer, Cancelled, Lost, Malformed, Short, Long, Setting}
use Rattle.scan_job.specs.declared.outcome.Why.TheVariants.{Plain, Memory, Sink}

abbrev pub why_word : Why → List ℕ
why_word Answer = codes "answer"
why_word Cancelled = codes "cancelled"
why_word Lost = codes "lost"
why_word Malformed = codes "malformed"
why_word Short = codes "short"
why_word Long = codes "long"
why_word Setting = codes "setting"
why_word Plain = codes "plain password asked"
why_word Memory = codes "memory"
why_word Sink = codes "output"

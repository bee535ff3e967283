use Rattle.std.proofs.Common.{rules}
use Rattle.aig_io.proofs.memory.MemorySinkSink.send.Goals as goal
use Rattle.aig_io.proofs.memory.MemorySinkSink.send.Goals.{then-fails_now-via-then-fails_now}
use Rattle.aig_io.proofs.memory.MemorySinkSink.send.Goals.{then-fails_now-via-else-fails_now+then-count-eq0}

pub returns-then-fails_now-clause-chosen : goal.returns-then-fails_now-clause-chosen
returns-then-fails_now-clause-chosen c = search rules

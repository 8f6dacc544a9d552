-- The blocks before the k-th are planned, and the counts are theirs (proofs/Progressing.antt).
use Rattle.bank.specs.Judging.{blocks_in}
use Rattle.bank.specs.Carried.{bank_in}
use Rattle.bank.proofs.Progressing.{Going}
use Rattle.bank.proofs.planning.plan_blocks.Given as goal

abbrev pub invariant-loop-k : goal.invariant-loop-k
invariant-loop-k l = Going (bank_in (blocks_in l.b) l.limit l.today l.kept) l.b.lengths.now l.initial.answers l.initial.depths l.b.count l.used l.depths l.answers l.sheet_at l.at l.k

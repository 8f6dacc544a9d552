-- The blocks before the k-th are accepted, and what is kept of them is theirs (proofs/Judges.antt).
use Rattle.bank.specs.Judging.{blocks_in}
use Rattle.bank.proofs.Judges.{Judging}
use Rattle.bank.proofs.judging.judge_blocks.Given as goal

abbrev pub invariant-loop-k : goal.invariant-loop-k
invariant-loop-k l = Judging (blocks_in l.b) l.b.count l.initial.kept l.kept l.first l.differ l.sheet_at l.area_at l.k

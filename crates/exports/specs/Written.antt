-- The numbers that an exported call writes for C and Rust: document 01's number (0 accepted or clean, 10 torn, else the refusal), the number
-- returned with it, then the answer. A loss, a plan, a probe, a table and a sheet written have the numbering that stands beside them.
use Rattle.std.specs.Prelude.{ℕ, List, [], ◌∷◌, ◌++◌}
use Rattle.answers.specs.Over.{written_over}
use Rattle.verdict.specs.Refusals.{Verdict, numbers_then, numbers_of}
use Rattle.journal.specs.Calls.{Recorded, Opened}
use Rattle.journal.specs.Opening.{Opening}
use Rattle.journal.specs.Opening as found
use Rattle.planner.specs.Answer.{Planned}
use Rattle.planner.specs.Answer as planner
use Rattle.decades.specs.Table.{Tabled}
use Rattle.decades.specs.Table as decades
use Rattle.sheet.specs.Writing.{Written}
use Rattle.sheet.specs.Writing as writer

-- Numbers that stand beside a ledger alone: a refusal has none.
abbrev pub with_ledger : Opening → List ℕ → List ℕ
with_ledger (found.Clean l) ns = ns
with_ledger (found.Torn l place) ns = ns
with_ledger (found.Refused number value) ns = []

-- Open: what it found, then the count and three places, highest first, 0 past the count.
abbrev pub opened_out : Opened → List ℕ
opened_out r = found.numbers_of r.opening ++ with_ledger r.opening (r.count ∷ r.places)

-- Rain, irrigation and close: the start, the count and four bytes, 0 past the count.
abbrev pub recorded_out : Recorded → List ℕ
recorded_out r = numbers_then r.verdict (r.stores.start ∷ r.stores.count ∷ r.stores.bytes)

-- Plan, table and both writers: the array and the lent buffer, of the answer and the buffer that the controller gives.
abbrev pub planned_over : List ℕ → Planned × List ℕ → List ℕ × List ℕ
planned_over out a = (written_over (planner.numbers_of a.0) out, a.1)

-- A bank has two lent buffers, the answers and the depths.
abbrev pub banked_over : List ℕ → Verdict × List ℕ × List ℕ → List ℕ × List ℕ × List ℕ
banked_over out a = (written_over (numbers_of a.0) out, a.1, a.2)

abbrev pub tabled_over : List ℕ → Tabled × List ℕ → List ℕ × List ℕ
tabled_over out a = (written_over (decades.numbers_of a.0) out, a.1)

abbrev pub sheet_over : List ℕ → Written × List ℕ → List ℕ × List ℕ
sheet_over out a = (written_over (writer.numbers_of a.0) out, a.1)

-- What is proved of this crate's definitions. `claims`, in proofs/Claims.antt, has a proof of each field.
use Rattle.std.specs.Prelude.{ℕ, ◌≤◌, Float, ◌≡◌, List, ◌++◌, length, drop}
use Rattle.verdict.specs.Refusals as verdicts
use Rattle.journal.specs.declared.Entry.{Entry}
use Rattle.journal.specs.Calls.{Recorded, Opened}
use Rattle.journal.specs.Loss.{loss_numbers}
use Rattle.journal.specs.Claims.{RecordedOccurs, OpenedOccurs}
use Rattle.planner.specs.Answer as planner
use Rattle.decades.specs.Table as decades
use Rattle.sheet.specs.Writing as writer
use Rattle.probes.specs.declared.Probe.{Probe}
use Rattle.probes.specs.declared.Probe.TheVariants.{Water, Low, Silent}
use Rattle.measuring.specs.Probing.{probed_numbers}
use Rattle.controller.specs.Roles.{opened_by, recorded_by, loss_by, planned_by, probed_by, banked_by, tabled_by, climate_written_by, block_written_by}
use Rattle.answers.specs.Over.{out_length, written_over}
use Rattle.exports.specs.Written.{opened_out, recorded_out}
use Rattle.exports.specs.Kinds.{probe_of}
use Rattle.exports.specs.Small.{SmallVerdict, SmallOpened, SmallRecorded, SmallLost, SmallPlanned, SmallProbed, SmallTabled, SmallWritten}

pub record Claims : Type 0 where
  -- Numbers that an array has room for stand first in it, and what stood beyond them stays.
  pub over_first : (ns out : List ℕ) → length ns ≤ length out → written_over ns out ≡ ns ++ drop (length ns) out
  -- The array has room for every answer.
  pub opened_fits : (role : ℕ) (climate block area : List ℕ) → length (opened_out (opened_by role climate block area)) ≤ out_length
  pub recorded_fits : (role : ℕ) (climate block area : List ℕ) (e : Entry) → length (recorded_out (recorded_by role climate block area e)) ≤ out_length
  pub lost_fits : (role : ℕ) (climate block area : List ℕ) (ky : ℕ) → length (loss_numbers (loss_by role climate block area ky)) ≤ out_length
  pub planned_fits : (role : ℕ) (climate block area depths : List ℕ) → length (planner.numbers_of (planned_by role climate block area depths).0) ≤ out_length
  pub probed_fits : (role : ℕ) (climate block area : List ℕ) (shallow deep : Probe) (f : ℕ) → length (probed_numbers (probed_by role climate block area shallow deep f)) ≤ out_length
  pub banked_fits : (role : ℕ) (climate : List ℕ) (blocks limit : ℕ) (lengths sheets areas depths answers : List ℕ)
      → length (verdicts.numbers_of (banked_by role climate blocks limit lengths sheets areas depths answers).0) ≤ out_length
  pub tabled_fits : (role : ℕ) (climate block rows : List ℕ) → length (decades.numbers_of (tabled_by role climate block rows).0) ≤ out_length
  pub climate_fits : (role : ℕ) (fields climate : List ℕ) → length (writer.numbers_of (climate_written_by role fields climate).0) ≤ out_length
  pub block_fits : (role : ℕ) (fields block : List ℕ) → length (writer.numbers_of (block_written_by role fields block).0) ≤ out_length
  -- No place, count or number returned with a refusal passes 8,192.
  pub opened_small : (role : ℕ) (climate block area : List ℕ) → SmallOpened (opened_by role climate block area)
  pub recorded_small : (role : ℕ) (climate block area : List ℕ) (e : Entry) → SmallRecorded (recorded_by role climate block area e)
  pub lost_small : (role : ℕ) (climate block area : List ℕ) (ky : ℕ) → SmallLost (loss_by role climate block area ky)
  pub planned_small : (role : ℕ) (climate block area depths : List ℕ) → SmallPlanned (planned_by role climate block area depths).0
  pub probed_small : (role : ℕ) (climate block area : List ℕ) (shallow deep : Probe) (f : ℕ) → SmallProbed (probed_by role climate block area shallow deep f)
  pub banked_small : (role : ℕ) (climate : List ℕ) (blocks limit : ℕ) (lengths sheets areas depths answers : List ℕ)
      → SmallVerdict (banked_by role climate blocks limit lengths sheets areas depths answers).0
  pub tabled_small : (role : ℕ) (climate block rows : List ℕ) → SmallTabled (tabled_by role climate block rows).0
  pub climate_small : (role : ℕ) (fields climate : List ℕ) → length fields ≡ 24 → SmallWritten (climate_written_by role fields climate).0
  pub block_small : (role : ℕ) (fields block : List ℕ) → length fields ≡ 17 → SmallWritten (block_written_by role fields block).0
  -- A probe's kind: 1 is a water content, 2 a low supply voltage, every other number silent.
  pub kind_water : (x : Float) → probe_of 1 x ≡ Water x
  pub kind_low : (x : Float) → probe_of 2 x ≡ Low x
  pub kind_silent : (kind : ℕ) (x : Float) → (kind ≡ 1 → ⊥) → (kind ≡ 2 → ⊥) → probe_of kind x ≡ Silent
  -- The numberings made here are one to one on the answers that occur.
  pub opened_one_to_one : (q r : Opened) → OpenedOccurs q → OpenedOccurs r → opened_out q ≡ opened_out r → q ≡ r
  pub recorded_one_to_one : (q r : Recorded) → RecordedOccurs q → RecordedOccurs r → recorded_out q ≡ recorded_out r → q ≡ r

-- Request T-03: what the call loss answers of a journal. Ky is in hundredths, a loss in ten-thousandths.
use Rattle.std.specs.Prelude.{ℕ, Bool, true, false, List, [], ◌∷◌, Result}
use Rattle.verdict.specs.declared.Refusal.{Refusal}
use Rattle.verdict.specs.Refusals.{by_result, Verdict, Accepted, first_of}
use Rattle.verdict.specs.Refusals as verdict
use Rattle.season.specs.declared.Season.{Season}
use Rattle.season.specs.Loss.{ky_outside, loss_of}
use Rattle.journal.specs.declared.StageSums.{StageSums}
use Rattle.journal.specs.declared.Ledger.{Ledger}
use Rattle.journal.specs.Opening.{Opening, Clean, Torn, opening}
use Rattle.journal.specs.Opening as found
use Rattle.journal.specs.declared.Losses.{Losses}

-- The season's loss by F and U, and each stage's by its own two sums, all by one Ky.
abbrev pub loss_by : ℕ → StageSums → ℕ
loss_by ky p = loss_of ky p.need p.used

abbrev pub losses_of : ℕ → Ledger → Losses
losses_of ky l =
    record {
      season = loss_of ky l.need l.used;
      initial = loss_by ky l.stages.initial;
      development = loss_by ky l.stages.development;
      middle = loss_by ky l.stages.middle;
      late = loss_by ky l.stages.late;
    }

-- Refusals 17 and 10, where the journal is torn at a place, or is not. Each line: a test, the number, the number returned with it.
abbrev pub loss_refusals : ℕ → Bool → ℕ → List (Bool × ℕ × ℕ)
loss_refusals ky torn place = (ky_outside ky, 17, 0) ∷ (torn, 10, place) ∷ []

-- What the call answers: the losses, or a refusal.
pub data Lost : Type 0 where
  Parts : Losses → Lost
  Refused : ℕ → ℕ → Lost

-- The losses, or the refusal.
abbrev pub lost_unless : Verdict → Losses → Lost
lost_unless Accepted p = Parts p
lost_unless (verdict.Refused number value) p = Refused number value

abbrev pub lost_by : ℕ → Ledger → Bool → ℕ → Lost
lost_by ky l torn place = lost_unless (first_of Accepted (loss_refusals ky torn place)) (losses_of ky l)

-- On a journal that opens so: 8 or 9, then 17, then 10.
unfoldable pub lost_on : ℕ → Opening → Lost
lost_on ky (Clean l) = lost_by ky l false 0
lost_on ky (Torn l place) = lost_by ky l true place
lost_on ky (found.Refused number place) = Refused number place

unfoldable pub lost : Season → List ℕ → ℕ → Lost
lost s area ky = lost_on ky (opening s area)

-- The numbers of an answer: 0 and 0, then the season's loss and the four stages'; or the refusal's.
abbrev pub loss_numbers : Lost → List ℕ
loss_numbers (Parts p) = 0 ∷ 0 ∷ p.season ∷ p.initial ∷ p.development ∷ p.middle ∷ p.late ∷ []
loss_numbers (Refused number value) = number ∷ value ∷ []

-- What a result of the code says.
abbrev pub lost_in : Result Losses Refusal → Lost
lost_in = by_result Parts Refused

-- What probe answers of a season and what its journal opens as, by what the two probes say; the calls on bytes have it over the sheets.
use Rattle.std.specs.Prelude.{ℕ, Bool, ◌||◌, List, [], ◌∷◌, ltb, Result}
use Rattle.season.specs.declared.Season.{Season}
use Rattle.season.specs.Sheet.{season_days}
use Rattle.season.specs.Day.{root_on, total_on}
use Rattle.verdict.specs.declared.Refusal.{Refusal}
use Rattle.verdict.specs.Refusals.{Verdict, Accepted, by_result, first_of}
use Rattle.verdict.specs.Refusals as verdict
use Rattle.journal.specs.Opening.{Opening}
use Rattle.journal.specs.Opening as found
use Rattle.probes.specs.Contents.{Reading, is_wrong, is_nothing, content_in}
use Rattle.probes.specs.Depletion.{measured}
use Rattle.measuring.specs.declared.Depletions.{Depletions as Code}

-- Probe (document 02, T-07), by the field capacity f, 1 to 6,000 ten-thousandths.
abbrev pub capacity_outside : ℕ → Bool
capacity_outside f = ltb f 1 || ltb 6000 f

-- Refusals 11, 18 and 19, where all days are closed, or are not. Each line: a test, the number, the number returned with it.
abbrev pub probe_refusals : Bool → Reading → ℕ → List (Bool × ℕ × ℕ)
probe_refusals closed r f = (closed, 11, 0) ∷ (is_wrong r || capacity_outside f, 18, 0) ∷ (is_nothing r, 19, 0) ∷ []

-- What probe answers: the ledger's depletion and the measured one, or a refusal.
pub data Probed : Type 0 where
  Depletions : ℕ → ℕ → Probed
  Refused : ℕ → ℕ → Probed

-- The depletions, or the refusal.
abbrev pub probed_unless : Verdict → Probed → Probed
probed_unless Accepted p = p
probed_unless (verdict.Refused number value) p = Refused number value

-- By an open day and its depletion: the ledger's, then the measured one with that day's Z and T.
abbrev pub probed_from : Season → Reading → ℕ → ℕ → ℕ → Probed
probed_from s r f day depletion =
    probed_unless (first_of Accepted (probe_refusals (ltb (season_days s) day) r f))
    (Depletions depletion (measured f (content_in r) (root_on s day) (total_on s day)))

-- On a journal that opens so: 8 to 10, then 11, 18 and 19. Waiting water plays no part.
unfoldable pub probed_on : Season → Reading → ℕ → Opening → Probed
probed_on s r f (found.Clean l) = probed_from s r f l.day l.depletion
probed_on s r f (found.Torn l place) = Refused 10 place
probed_on s r f (found.Refused number place) = Refused number place

-- The numbers of its answer: 0 and 0, the ledger's depletion, the measured one; or the refusal's.
abbrev pub probed_numbers : Probed → List ℕ
probed_numbers (Depletions ledger probes) = 0 ∷ 0 ∷ ledger ∷ probes ∷ []
probed_numbers (Refused number value) = number ∷ value ∷ []

-- What a result of the code says.
abbrev pub probed_in : Result Code Refusal → Probed
probed_in = by_result (λ d. Depletions d.ledger d.measured) Refused

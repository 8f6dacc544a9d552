-- Document 02, T-10: the plans of the blocks in the order given, each with the turn days that those before it leave; their answers and depths, put in
-- their places.
use Rattle.std.specs.Prelude.{ℕ, zero, suc, ◌+◌, ◌*◌, List, [], ◌∷◌, ◌++◌, length, take, replicate}
use Rattle.std.proofs.lemmas.List.Edits.{sets}
use Rattle.verdict.specs.Refusals.{Verdict, Accepted, Refused, or_refused}
use Rattle.season.specs.declared.Season.{Season}
use Rattle.sheet.specs.Sheets.{climate_of, block_with}
use Rattle.planner.specs.Answer.{Planned, numbers_of, answer_to}
use Rattle.planner.specs.Choices.{irrigated}
use Rattle.planner.specs.Plan.{Plan}
use Rattle.planner.specs.Outlook.{outlook, days_left}
use Rattle.planner.specs.Bank.{Ask, given, plan_behind}
use Rattle.bank.specs.Blocks.{start_of, part_of, bank_wrong}
use Rattle.bank.specs.Judging.{Blocks, blocks_of, judged_at, before, blocks_verdict}

-- What planning reads of the blocks: the limit, the open day that all have, and each block's season, depletion and waiting water.
pub record Bank : Type 0 where
  pub limit : ℕ
  pub day : ℕ
  pub season : ℕ → Season
  pub depletion : ℕ → ℕ
  pub waiting : ℕ → ℕ

abbrev pub ask_at : Bank → ℕ → Ask
ask_at b k =
    record {
      outlook = outlook (b.season k) b.day (b.waiting k);
      days = days_left (b.season k) b.day;
      depletion = b.depletion k;
    }

-- Block k behind the plans ps, and its answer with its part of the depths.
abbrev pub plan_at : Bank → List (List ℕ) → ℕ → Plan
plan_at b ps k = plan_behind b.limit b.day ps (ask_at b k)

abbrev pub reply_at : Bank → List (List ℕ) → ℕ → List ℕ → Planned × List ℕ
reply_at b ps k part = answer_to (b.season k).efficiency part (plan_at b ps k)

-- A block's five numbers: its plan's answer, with zeros to the fifth.
abbrev pub five : Planned → List ℕ
five p = take 5 (numbers_of p ++ replicate 3 0)

-- What the first k blocks leave: the plans given, the latest first, the answers and the depths, which are `depths` at first.
pub record Progress : Type 0 where
  pub plans : List (List ℕ)
  pub answers : List ℕ
  pub depths : List ℕ

abbrev pub onward : Bank → List ℕ → List ℕ → ℕ → Progress → Progress
onward b lengths depths k p =
    record {
      plans = given (plan_at b p.plans k) ∷ p.plans;
      answers = sets p.answers (5 * k) (five (reply_at b p.plans k (part_of lengths 2 depths k)).0);
      depths = sets p.depths (start_of lengths 2 k) (reply_at b p.plans k (part_of lengths 2 depths k)).1;
    }

unfoldable pub progress : Bank → List ℕ → List ℕ → List ℕ → ℕ → Progress
progress b lengths answers depths zero = record { plans = []; answers = answers; depths = depths }
progress b lengths answers depths (suc k) = onward b lengths depths k (progress b lengths answers depths k)

-- The counts of valves used, from the open day on, with one plan more.
unfoldable pub add_used : List ℕ → List ℕ → List ℕ
add_used [] xs = []
add_used (u ∷ us) [] = u ∷ us
add_used (u ∷ us) (x ∷ xs) = (irrigated (x ∷ []) + u) ∷ add_used us xs

-- ---- the bank's answer: the verdict, the answers and the depths

-- The bank of judged blocks.
abbrev pub bank_of : ℕ → Blocks → Bank
bank_of limit b =
    record {
      limit = limit;
      day = (judged_at b 0).start.day;
      season = λ k. (block_with b.climate (part_of b.lengths 0 b.sheets k)).season;
      depletion = λ k. (judged_at b k).depletion;
      waiting = λ k. (judged_at b k).waiting;
    }

-- Refused, both buffers are as they were.
abbrev pub banked_if : Verdict → Progress → List ℕ → List ℕ → Verdict × List ℕ × List ℕ
banked_if Accepted p answers depths = (Accepted, p.answers, p.depths)
banked_if (Refused number value) p answers depths = (Refused number value, answers, depths)

abbrev pub banked_on : Blocks → ℕ → ℕ → List ℕ → List ℕ → Verdict × List ℕ × List ℕ
banked_on b blocks limit depths answers =
    banked_if (blocks_verdict (judged_at b) blocks) (progress (bank_of limit b) b.lengths answers depths blocks) answers depths

-- 22; the climate sheet's refusals; the blocks', first block first; 23. The depths have so many numbers.
abbrev pub bank_verdict : List ℕ → ℕ → ℕ → List ℕ → List ℕ → List ℕ → ℕ → Verdict
bank_verdict climate blocks limit lengths sheets areas depths =
    before (or_refused Accepted (bank_wrong blocks limit lengths (length sheets) (length areas) depths) 22 0)
    (before (climate_of climate).verdict (blocks_verdict (judged_at (blocks_of (climate_of climate) lengths sheets areas)) blocks))

unfoldable pub banked : List ℕ → ℕ → ℕ → List ℕ → List ℕ → List ℕ → List ℕ → List ℕ → Verdict × List ℕ × List ℕ
banked climate blocks limit lengths sheets areas depths answers =
    banked_if (bank_verdict climate blocks limit lengths sheets areas (length depths))
    (progress (bank_of limit (blocks_of (climate_of climate) lengths sheets areas)) lengths answers depths blocks)
    answers
    depths

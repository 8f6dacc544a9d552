-- The climate's numbers, and then the block's with them; an accepted pair's season is accepted.
use mathlib.Core.List.{List, ◌++◌}
use Prim.Native.Nat.{ℕ}
use mathlib.Core.Path.{◌≡◌, sym, ap, ◌∙◌}
use lib.ListN.{take, drop, length-take}
use native.Mathlib.Omega.{arith}
use Rattle.std.specs.Prelude.{Result, Ok, Err}
use Rattle.verdict.specs.declared.Refusal.{Refusal}
use Rattle.verdict.specs.Refusals.{Accepted, Refused, number_of, verdict_in}
use Rattle.verdict.proofs.First.{handed_on}
use Rattle.fields.specs.Fields.{season_of, merged}
use Rattle.fields.specs.Refusals.{block_lines}
use Rattle.sheet.specs.Sheets.{Climate, Sheet, block_numbers, then_refused, climate_by, climate_of, sheet_is, refusal, block_with, sheets_of}
use Rattle.sheet.proofs.Verdicts.{with_refused, block_stopped, block_filled}
use Rattle.sheet.proofs.Accepted.{accepted_season}
use Rattle.sheet.proofs.read.Goals as goal

-- By the numbers that were read, c of the climate and b of the block.
module _ (climate block : List ℕ) where
  pub filled : (c b : List ℕ) → climate_by c Accepted ≡ climate_of climate → b ≡ (block_numbers block).fields → Accepted ≡ then_refused block_lines (block_numbers block)
      → sheet_is (season_of (merged (take 12 c ++ take 12 (drop 12 c)) b)) Accepted ≡ sheets_of climate block
  unfolding sheets_of block_with
  filled c b e f v = block_filled _ block b f v ∙ ap (λ (x : Climate). block_with x block) e

  pub climate_stopped : (c : List ℕ) (number value : ℕ) → climate_by c (Refused number value) ≡ climate_of climate → refusal number value ≡ sheets_of climate block
  unfolding sheets_of
  climate_stopped c number value e = with_refused (climate_of climate) block number value (ap (λ (x : Climate). x.verdict) (sym e))

  pub stopped : (c : List ℕ) (number value : ℕ) → climate_by c Accepted ≡ climate_of climate → then_refused block_lines (block_numbers block) ≡ Refused number value
      → refusal number value ≡ sheets_of climate block
  unfolding sheets_of block_with
  stopped c number value e v = block_stopped _ block number value v ∙ ap (λ (x : Climate). block_with x block) e

pub season_of-season-requires : goal.season_of-season-requires
season_of-season-requires c = omega (arith, length-take c.in_ok-count.count c.fill_block.new.block, c.in_ok-count.ensures.numbers.0, c.in_ok-count.ensures.numbers.1, c.fill_block.auto.block)

module _ (climate c : List ℕ) (r : Result (Unit {0}) Refusal) (e : climate_by c (verdict_in r) ≡ climate_of climate) where
  pub accepted : {u : Unit {0}} → r ≡ Ok u → climate_by c Accepted ≡ climate_of climate
  accepted g = sym (ap (λ (x : Result (Unit {0}) Refusal). climate_by c (verdict_in x)) g) ∙ e

  pub refused : (why : Refusal) → r ≡ Err why → climate_by c (Refused (number_of why.reason) why.value) ≡ climate_of climate
  refused why g = sym (ap (λ (x : Result (Unit {0}) Refusal). climate_by c (verdict_in x)) g) ∙ e

pub returns-in_err-fill_climate : goal.returns-in_err-fill_climate
returns-in_err-fill_climate c =
    rw (handed_on _ _ c.from_residual.ensures.1)
    (climate_stopped c.args.climate.now c.args.block.now c.fill_climate.new.c _ _ (refused _ _ _ c.fill_climate.ensures _ c.in_err-fill_climate.was))

pub returns-in_err-count : goal.returns-in_err-count
returns-in_err-count c =
    rw (handed_on _ _ c.from_residual-in_err-count.ensures.1)
    (stopped c.args.climate.now c.args.block.now c.fill_climate.new.c _ _ (accepted _ _ _ c.fill_climate.ensures c.in_ok-fill_climate.was)
    (sym c.fill_block.ensures.verdict ∙ ap verdict_in c.in_err-count.was))

pub returns : goal.returns
returns c =
    rw (c.season_of-season.ensures, c.months.ensures, c.months-2.ensures)
    (filled c.args.climate.now c.args.block.now c.fill_climate.new.c _ (accepted _ _ _ c.fill_climate.ensures c.in_ok-fill_climate.was) c.in_ok-count.ensures.numbers.2
    (sym (ap verdict_in c.in_ok-count.was) ∙ c.fill_block.ensures.verdict))

pub invariant_of-result : goal.invariant_of-result
invariant_of-result c =
    let same =
    filled c.args.climate.now c.args.block.now c.fill_climate.new.c _ (accepted _ _ _ c.fill_climate.ensures c.in_ok-fill_climate.was) c.in_ok-count.ensures.numbers.2
    (sym (ap verdict_in c.in_ok-count.was) ∙ c.fill_block.ensures.verdict) in
    record { accepted = rw (c.season_of-season.ensures, c.months.ensures, c.months-2.ensures, ap (λ (x : Sheet). x.season) same) (accepted_season c.args.climate.now c.args.block.now (ap (λ (x : Sheet). x.verdict) (sym same))) }

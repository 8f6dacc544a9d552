-- By what reading the sheet answered, and what its journal says.
use mathlib.Core.Path.{refl, sym, ap, ◌∙◌}
use Rattle.verdict.specs.Refusals.{verdict_in}
use Rattle.verdict.proofs.First.{handed_on}
use Rattle.sheet.specs.Sheets.{accepted_climate, season_in}
use Rattle.bank.proofs.Judges.{judged_refused, judged_fit, judged_unfit, read_accepted}
use Rattle.bank.proofs.judging.judge_block.Goals as goal

pub invariant_of-standing : goal.invariant_of-standing
invariant_of-standing c =
    record { accepted = read_accepted (accepted_climate c.args.climate) c.args.sheet.now c.args.area.now c.args.room _ (sym (ap season_in c.in_ok-season.was) ∙ c.read_season.ensures) c.requires refl }

pub returns : goal.returns
returns c = judged_fit (accepted_climate c.args.climate) c.args.sheet.now c.args.area.now c.args.room _ (sym (ap season_in c.in_ok-season.was) ∙ c.read_season.ensures) refl c.standing-stand.ensures (ap verdict_in c.in_ok-stand.was)

pub returns-in_err-stand : goal.returns-in_err-stand
returns-in_err-stand c =
    rw (handed_on _ _ c.from_residual-in_err-stand.ensures.1)
    (judged_unfit (accepted_climate c.args.climate) c.args.sheet.now c.args.area.now c.args.room _ (sym (ap season_in c.in_ok-season.was) ∙ c.read_season.ensures) refl c.standing-stand.ensures (ap verdict_in c.in_err-stand.was))

pub returns-in_err-season : goal.returns-in_err-season
returns-in_err-season c =
    rw (handed_on _ _ c.from_residual.ensures.1)
    (judged_refused (accepted_climate c.args.climate) c.args.sheet.now c.args.area.now c.args.room _ (sym (ap season_in c.in_err-season.was) ∙ c.read_season.ensures) refl)

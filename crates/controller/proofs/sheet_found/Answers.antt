-- What the opening on the sheets' bytes finds, by what reading them answered.
use Prim.Native.Nat.{ℕ}
use mathlib.Core.Path.{sym, ap, ◌∙◌}
use mathlib.Core.List.{[]}
use Rattle.journal.specs.Opening.{Refused}
use Rattle.journal.specs.Calls.{Opened, opened_with, opened}
use Rattle.journal.proofs.Answers.{opened_opening}
use Rattle.controller.proofs.Sheets.{reading_refused, reading_accepted}
use Rattle.controller.proofs.sheet_found.Goals as goal

abbrev unopened : ℕ → ℕ → Opened
unopened number value = opened_with (Refused number value) []

pub returns-in-Ok : goal.returns-in-Ok
returns-in-Ok c =
    c.find.ensures
    ∙ sym (opened_opening c.in-Ok.season.season c.args.area.now)
    ∙ ap (λ (r : Opened). r.opening) (sym (reading_accepted unopened (λ s. opened s c.args.area.now) c.args.climate.now c.args.block.now _ c.read.ensures _ c.in-Ok.is))

pub returns-in-Err : goal.returns-in-Err
returns-in-Err c =
    rw c.into.ensures
    (ap (λ (r : Opened). r.opening) (sym (reading_refused unopened (λ s. opened s c.args.area.now) c.args.climate.now c.args.block.now _ c.read.ensures _ c.in-Err.is)))

-- The answer goes by what reading the sheets answered.
use Prim.Native.Nat.{ℕ}
use mathlib.Core.Path.{sym, ◌∙◌}
use mathlib.Core.List.{[]}
use Rattle.journal.specs.Opening.{Refused}
use Rattle.journal.specs.Calls.{Opened, opened_with, opened}
use Rattle.controller.proofs.Sheets.{reading_refused, reading_accepted}
use Rattle.controller.proofs.sheet_opened.Goals as goal

-- A refused pair.
abbrev unopened : ℕ → ℕ → Opened
unopened number value = opened_with (Refused number value) []

pub returns-in-Ok : goal.returns-in-Ok
returns-in-Ok c = c.«open».ensures ∙ sym (reading_accepted unopened (λ s. opened s c.args.area.now) c.args.climate.now c.args.block.now _ c.read.ensures _ c.in-Ok.is)

pub returns-in-Err : goal.returns-in-Err
returns-in-Err c =
    c.without_stores.ensures
    ∙ rw c.into.ensures (sym (reading_refused unopened (λ s. opened s c.args.area.now) c.args.climate.now c.args.block.now _ c.read.ensures _ c.in-Err.is))

-- The tests are the definition's.
use mathlib.Core.Path.{sym}
use Rattle.season.specs.declared.Stage.TheVariants.{Initial, Development, Middle, Late}
use Rattle.season.proofs.Slopes.{stage_is}
use Rattle.season.proofs.day.stage_of.Goals as goal

pub returns-then-day-sown : goal.returns-then-day-sown
returns-then-day-sown c = sym (stage_is c.args.s c.args.day Initial c.if-day-sown.true)

pub returns-then-day-grown : goal.returns-then-day-grown
returns-then-day-grown c = sym (stage_is c.args.s c.args.day Development (c.if-day-sown.false, c.if-day-grown.true))

pub returns-then-day-grown-2 : goal.returns-then-day-grown-2
returns-then-day-grown-2 c = sym (stage_is c.args.s c.args.day Middle (c.if-day-grown.false, c.if-day-grown-2.true))

pub returns : goal.returns
returns c = sym (stage_is c.args.s c.args.day Late c.if-day-grown-2.false)

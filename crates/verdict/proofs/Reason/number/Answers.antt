-- `verdict::Reason::number` meets its contract: each reason's place in the enum, counted from 1, is its number.
use denote.Enum.Declared.{tag_of}
use Rattle.std.proofs.Common.{◌≡◌, refl, ◌+◌}
use Rattle.verdict.specs.declared.Reason.{Reason}
use Rattle.verdict.specs.declared.Reason.TheVariants as reason
use Rattle.verdict.specs.contracts.Reason.{the_type}
use Rattle.verdict.specs.Refusals.{number_of}
use Rattle.verdict.proofs.Reason.number.Goals as goal

places : (r : Reason) → tag_of the_type r + 1 ≡ number_of r
places reason.EndsEarly = refl
places reason.BadNumber = refl
places reason.BytesFollow = refl
places reason.FieldOutside = refl
places reason.SeasonTooLong = refl
places reason.RootsShrink = refl
places reason.OpeningAboveTotal = refl
places reason.AreaTooLong = refl
places reason.Damaged = refl
places reason.Torn = refl
places reason.AllDaysClosed = refl
places reason.AmountOutside = refl
places reason.DayOverfull = refl
places reason.AreaFull = refl
places reason.BufferShort = refl
places reason.NoChoice = refl
places reason.YieldFactorOutside = refl
places reason.ProbeWrong = refl
places reason.NoContent = refl
places reason.RoleOutside = refl
places reason.RoleLooksOnly = refl
places reason.BankWrong = refl
places reason.StartsDiffer = refl

pub returns : goal.returns
returns c = places c.args.self

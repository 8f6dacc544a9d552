-- Each field is read at its place (proofs/Merged.antt).
use mathlib.Core.Path.{sym}
use native.Mathlib.Omega.{arith}
use Rattle.fields.proofs.Merged.{season_merged}
use Rattle.fields.proofs.season_of.Goals as goal

pub returns : goal.returns
returns c = rw c.february_of.ensures (sym (season_merged c.args.eto c.args.rain c.args.block.now c.well_formed.0.1.0.1 c.well_formed.1.0.1.0.1 (omega (arith, c.requires))))

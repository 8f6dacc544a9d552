-- What a probe's kind and value stand for (document 02, T-07): 1 water content, 2 low supply voltage, any other number silent.
use Rattle.std.specs.Prelude.{ℕ, cond, eqb, Float}
use Rattle.probes.specs.declared.Probe.{Probe}
use Rattle.probes.specs.declared.Probe.TheVariants.{Water, Low, Silent}

unfoldable pub probe_of : ℕ → Float → Probe
probe_of kind x = cond (eqb kind 1) (Water x) (cond (eqb kind 2) (Low x) Silent)

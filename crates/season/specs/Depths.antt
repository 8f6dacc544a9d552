-- Document 01, 'The plan' and 'Decade table': net depths and gross depths are separate quantities. E is the efficiency in percent.
use Rattle.std.specs.Prelude.{ℕ, ◌+◌, ◌-◌, ◌*◌, ◌/◌}
use Rattle.season.specs.declared.Net.{Net}
use Rattle.season.specs.declared.Gross.{Gross}

abbrev pub net_is : ℕ → Net
net_is n = record { 0 = n }

-- Gross = ceil(net × 100 / E).
abbrev pub gross_of : ℕ → Net → Gross
gross_of e net = record { 0 = (net.0 * 100 + (e - 1)) / e }

-- Each step of the chain is the step of `first_of`; what it lets pass has an open day and a field capacity of at most 6,000.
use mathlib.Core.Path.{◌≡◌, sym, ap, ◌∙◌}
use mathlib.Core.Bool.{Bool, ◌||◌}
use Prim.Native.Nat.{ℕ}
use lib.Dec.{ltb}
use Rattle.verdict.specs.Refusals.{Verdict, Accepted, or_refused, first_of, verdict_in}
use Rattle.verdict.proofs.First.{said, handed_on}
use Rattle.season.specs.declared.Season.{Season}
use Rattle.season.specs.Sheet.{season_days}
use Rattle.season.specs.Day.{root_on, total_on}
use Rattle.probes.specs.Contents.{Reading, is_wrong, is_nothing, content_in, reading_in}
use Rattle.probes.specs.Depletion.{measured}
use Rattle.measuring.specs.Probing.{Depletions, capacity_outside, probe_refusals, probed_unless, probed_from}
use Rattle.measuring.proofs.Probing.{probe_passes}
use Rattle.measuring.proofs.probed_from.Goals as goal

module _ (s : Season) (r : Reading) (f day : ℕ) {days : ℕ} {wrong nothing : Bool} {u v w : Verdict} (n : days ≡ season_days s)
    (is-wrong : wrong ≡ (is_wrong r || capacity_outside f)) (is-nothing : nothing ≡ is_nothing r)
    (first : u ≡ or_refused Accepted (ltb days day) 11 0) (second : v ≡ or_refused u wrong 18 0) (third : w ≡ or_refused v nothing 19 0) where
  judged : w ≡ first_of Accepted (probe_refusals (ltb (season_days s) day) r f)
  judged = rw (third, second, first, is-nothing, is-wrong, n)

  answer_by : (depletion : ℕ) (x : Verdict) → w ≡ x
      → probed_unless x (Depletions depletion (measured f (content_in r) (root_on s day) (total_on s day))) ≡ probed_from s r f day depletion
  answer_by depletion x e = ap (λ (y : Verdict). probed_unless y (Depletions depletion (measured f (content_in r) (root_on s day) (total_on s day)))) (sym e ∙ judged)

pub measured_on-measured-requires : goal.measured_on-measured-requires
measured_on-measured-requires c =
    let chain = judged c.args.s (reading_in c.args.reading) c.args.capacity c.args.day c.season_days.ensures c.is_wrong-wrong.ensures c.is_nothing-nothing.ensures (said _ _ _ _ _ c.refuse_if.ensures) (said _ _ _ _ _ c.or_refused.ensures) (said _ _ _ _ _ c.or_refused-2.ensures) in
    let p = probe_passes c.args.s (reading_in c.args.reading) c.args.capacity c.args.day (sym chain ∙ ap verdict_in c.in_ok-or_refused.was) c.requires.le_day in
    record { valid = c.requires.valid; day_of = p.0; capacity_bound = p.1 }

pub returns : goal.returns
returns c =
    let a = c.args in
    ap (Depletions a.depletion) (c.measured_on-measured.ensures ∙ ap (λ (v : ℕ). measured a.capacity v (root_on a.s a.day) (total_on a.s a.day)) c.content_in.ensures)
    ∙ answer_by c.args.s (reading_in c.args.reading) c.args.capacity c.args.day c.season_days.ensures c.is_wrong-wrong.ensures c.is_nothing-nothing.ensures (said _ _ _ _ _ c.refuse_if.ensures) (said _ _ _ _ _ c.or_refused.ensures) (said _ _ _ _ _ c.or_refused-2.ensures) a.depletion Accepted (ap verdict_in c.in_ok-or_refused.was)

pub returns-in_err-or_refused : goal.returns-in_err-or_refused
returns-in_err-or_refused c =
    rw (handed_on _ _ c.from_residual.ensures.1) (answer_by c.args.s (reading_in c.args.reading) c.args.capacity c.args.day c.season_days.ensures c.is_wrong-wrong.ensures c.is_nothing-nothing.ensures (said _ _ _ _ _ c.refuse_if.ensures) (said _ _ _ _ _ c.or_refused.ensures) (said _ _ _ _ _ c.or_refused-2.ensures) c.args.depletion _ (ap verdict_in c.in_err-or_refused.was))

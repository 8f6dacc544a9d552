-- From the depths drawn to the answer: their numbers fit, and the answer is that of specs/Answer.antt.
use mathlib.Core.Path.{◌≡◌, refl, sym, ◌∙◌, ap}
use mathlib.Core.Bool.{true, false}
use mathlib.Core.List.{List, [], ◌++◌}
use Prim.Native.Nat.{ℕ, ◌+◌, ◌*◌, ◌≤◌, ◌<◌}
use native.Mathlib.Omega.{arith}
use lib.Dec.{ltb}
use lib.ListN.{length, take, drop, replicate, length-replicate}
use lib.Seq.{length-take-le}
use borrow.Author.Tests.{lt-ltb, le-ltb}
use Rattle.season.specs.declared.Season.{Season}
use Rattle.season.specs.Sheet.{Valid, DayOf, longest_season}
use Rattle.season.specs.declared.Net.{Net}
use Rattle.season.specs.declared.Gross.{Gross}
use Rattle.std.specs.Prelude.{Result, Ok, Err}
use Rattle.planner.specs.Answer.{Planned, Made, Refused, sum, net_of, settles, answer_to, answer}
use Rattle.planner.specs.Choices.{irrigated}
use Rattle.planner.specs.Plan.{Plan, depths, plan}
use Rattle.planner.specs.Outlook.{outlook, days_left}
use Rattle.season.specs.Depths.{gross_of}
use Rattle.planner.specs.Bank.{outlook_left, answer_left}
use Rattle.planner.proofs.Lists.{take_zeros}
use Rattle.planner.proofs.Bounds.{plan_made, net_at_most}
use Rattle.planner.proofs.Bank.{leaving_none}

-- The plan is made, and stands in l.
pub record Finished (s : Season) (today waiting : ℕ) (used : List ℕ) (limit D : ℕ) (l : List ℕ) : Type 0 where
  pub valid : Valid s
  pub is : plan (outlook_left s today waiting used limit) (days_left s today) today D ≡ depths l
  pub size : length l ≡ days_left s today
  pub short : length l ≤ longest_season
  pub small : sum l ≤ 120000 + 3000 * longest_season

pub finished : {s : Season} {today D : ℕ} {r : Result (Unit {0}) ℕ} {l : List ℕ} {x : Unit {0}} (waiting : ℕ) (used : List ℕ) (limit : ℕ) → Valid s → DayOf s today → D ≤ 120000
    → settles r l ≡ plan (outlook_left s today waiting used limit) (days_left s today) today D → r ≡ Ok x → Finished s today waiting used limit D l
finished {s} {today} {D} {r} {l} waiting used limit v d h e t =
    let is : plan (outlook_left s today waiting used limit) (days_left s today) today D ≡ depths l = rw t at (sym e) in
    let best = plan_made (outlook_left s today waiting used limit) (days_left s today) today D l is in
    let size = best.size in
    record {
      valid = v;
      is = is;
      size = size;
      short = omega (arith, d.from, v.year);
      small = omega (arith, h, net_at_most s (outlook_left s today waiting used limit) today D l v d.from refl best);
    }

pub answer_made : {s : Season} {today waiting : ℕ} {used : List ℕ} {limit D : ℕ} {l : List ℕ} (e : ℕ) (l₀ : List ℕ) {days : ℕ} {net : Net} {gross : Gross} {out : List ℕ} → Finished s today waiting used limit D l
    → days ≡ irrigated l → net ≡ net_of l → gross ≡ gross_of e net → out ≡ l ++ drop (length l) l₀
    → ◌≡◌ {A = Planned × List ℕ} (Made days net gross, out) (answer_to e l₀ (plan (outlook_left s today waiting used limit) (days_left s today) today D))
unfolding answer_to
answer_made e l₀ f a b c d = rw (f.is, a, c, b, d)

pub answer_lost : {r : Result (Unit {0}) ℕ} {p : Plan} {f : ℕ} (e : ℕ) (l l₀ : List ℕ) → settles r l ≡ p → r ≡ Err f → ◌≡◌ {A = Planned × List ℕ} (Refused 16 f, l₀) (answer_to e l₀ p)
unfolding answer_to
answer_lost e l l₀ h t = rw (← h, t)

module _ (s : Season) (today waiting D : ℕ) (used : List ℕ) (limit : ℕ) (l : List ℕ) where
  pub answer_short : length l < days_left s today → ◌≡◌ {A = Planned × List ℕ} (Refused 15 0, l) (answer_left s today D waiting used limit l)
  unfolding answer_left
  answer_short h = rw (lt-ltb (length l) (days_left s today) h, answer_left)

  pub answer_enough : {x : Planned × List ℕ} → days_left s today ≤ length l
      → x ≡ answer_to s.efficiency l (plan (outlook_left s today waiting used limit) (days_left s today) today D) → x ≡ answer_left s today D waiting used limit l
  unfolding answer_left
  answer_enough {x} h e = rw (le-ltb (length l) (days_left s today) h, answer_left) e

-- Where no valve is used the answer is that on all turn days.
pub answer_all : (s : Season) (today D waiting : ℕ) (l : List ℕ) → answer_left s today D waiting [] 1 l ≡ answer s today D waiting l
unfolding answer_left answer
answer_all s today D waiting l =
    ap (λ o. elim (ltb (length l) (days_left s today)) as (λ x. Planned × List ℕ) [ true ↦ (Refused 15 0, l) | false ↦ answer_to s.efficiency l (plan o (days_left s today) today D) ])
    (leaving_none 1 (λ i. 0) (outlook s today waiting) (λ i. omega arith))

-- the local array's first k numbers
pub draft_length : (n k : ℕ) → k ≤ n → k ≡ length (take k (replicate {A = ℕ} n 0))
draft_length n k h = sym (length-take-le k (replicate {A = ℕ} n 0) (rw (length-replicate {A = ℕ} n 0) h))

pub draft_zeros : (n k m : ℕ) → k ≡ m → k ≤ n → take k (replicate {A = ℕ} n 0) ≡ replicate m 0
draft_zeros n k m e h = take_zeros k n h ∙ ap (λ i. replicate {A = ℕ} i 0) e

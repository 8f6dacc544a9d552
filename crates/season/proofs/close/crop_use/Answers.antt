-- Where the need is at most T − R, its share is at most the rest.
use mathlib.Core.Path.{◌≡◌}
use Prim.Native.Nat.{◌-◌, ◌*◌, ◌/◌, ◌≤◌, min}
use native.Mathlib.Nat.{mul_comm}
use native.Mathlib.Omega.{arith}
use borrow.Author.Tests.{le-leb, lt-leb}
use Rattle.season.proofs.Laws.{product, part_le}
use Rattle.season.proofs.close.crop_use.Goals as goal

pub returns-then-d1-ready : goal.returns-then-d1-ready
returns-then-d1-ready c = simp (le-leb _ _ c.if-d1-ready.true, c.min.ensures)

pub overflow_mul-share : goal.overflow_mul-share
overflow_mul-share c = record { fits = omega (arith, product c.args.need (c.args.total - c.args.d1) 3000 120000 c.requires.need (omega arith)) }

pub returns-then-need-total : goal.returns-then-need-total
returns-then-need-total c = let a = c.args in
    let rest = a.total - a.d1 in
    let few : a.need * rest / (a.total - a.ready) ≤ rest = rw (mul_comm a.need rest) (part_le rest a.need (a.total - a.ready) (omega (arith, c.requires.ready)) c.if-need-total.true) in
    let least : min (a.need * rest / (a.total - a.ready)) rest ≡ a.need * rest / (a.total - a.ready) = omega arith in
    simp (lt-leb _ _ c.if-d1-ready.false, least)

pub returns : goal.returns
returns c = simp (lt-leb _ _ c.if-d1-ready.false, c.min-2.ensures)

-- The part `&s[a..]` of a slice, as the borrow checker states it, is the list without its first a elements.
use Prim.Native.Nat.{ℕ, ◌-◌}
use mathlib.Core.Path.{◌≡◌}
use mathlib.Core.List.{List}
use native.Mathlib.Omega.{arith}
use lib.ListN.{length, take, drop, length-drop}
use lib.Seq.{take_all}

pub tail_part : (a : ℕ) (s : List ℕ) → take (length s - a) (drop a s) ≡ drop a s
tail_part a s = take_all (length s - a) (drop a s) (omega (arith, length-drop a s))

-- The two answers of a table: refusal 15, or the rows.
use mathlib.Core.Path.{◌≡◌, refl, sym, ap}
use mathlib.Core.Bool.{Bool, true, false, cond}
use mathlib.Core.List.{List, ◌++◌}
use Prim.Native.Nat.{ℕ, ◌*◌, ◌<◌, ◌≤◌}
use native.Mathlib.Omega.{arith}
use lib.Dec.{ltb}
use lib.ListN.{length, drop}
use borrow.Author.Tests.{lt-ltb, le-ltb}
use Rattle.season.specs.declared.Season.{Season}
use Rattle.season.specs.Sheet.{Valid}
use Rattle.decades.specs.Table.{Tabled, Rows, Refused, row_count, table, tabled, numbers_of}
use Rattle.decades.proofs.Count.{rows_at_most}

pub tabled_short : (s : Season) (out : List ℕ) → length out < row_count s * 6 → tabled s out ≡ (Refused 15 0, out)
unfolding tabled
tabled_short s out h = rw (lt-ltb _ _ h)

pub tabled_whole : (s : Season) (out : List ℕ) → row_count s * 6 ≤ length out → tabled s out ≡ (Rows (row_count s), table s ++ drop (row_count s * 6) out)
unfolding tabled
tabled_whole s out h = rw (le-ltb _ _ h)

pub rows_refused : (k n v : ℕ) → Rows k ≡ Refused n v → ⊥
rows_refused k n v e = let z : ◌≡◌ {A = ℕ} 0 1 = cc in omega arith

-- The answer by the test of the buffer's length.
abbrev by_test : Season → List ℕ → Bool → Tabled × List ℕ
by_test s out b = cond b (Refused 15 0, out) (Rows (row_count s), table s ++ drop (row_count s * 6) out)

pub refused_unaltered : (s : Season) (out : List ℕ) (number value : ℕ) → (tabled s out).0 ≡ Refused number value → (tabled s out).1 ≡ out
unfolding tabled
refused_unaltered s out number value = go (ltb (length out) (row_count s * 6))
  where
    go : (b : Bool) → (by_test s out b).0 ≡ Refused number value → (by_test s out b).1 ≡ out
    go true e = refl
    go false e = absurd (rows_refused (row_count s) number value e)

pub tabled_rows_at_most : (s : Season) (out : List ℕ) (k : ℕ) → Valid s → (tabled s out).0 ≡ Rows k → k ≤ 29
unfolding tabled
tabled_rows_at_most s out k v = go (ltb (length out) (row_count s * 6))
  where
    go : (b : Bool) → (by_test s out b).0 ≡ Rows k → k ≤ 29
    go true e = absurd (rows_refused k 15 0 (sym e))
    go false e = let n : row_count s ≡ k = cc in omega (arith, rows_at_most s v)

pub numbers_one_to_one : (a b : Tabled) → numbers_of a ≡ numbers_of b → a ≡ b
numbers_one_to_one (Rows k) (Rows l) e = let h : k ≡ l = cc in rw h
numbers_one_to_one (Rows k) (Refused n v) e = absurd (omega (arith, ap length e))
numbers_one_to_one (Refused n v) (Rows k) e = absurd (omega (arith, ap length e))
numbers_one_to_one (Refused n v) (Refused m w) e = let h : n ≡ m = cc in let g : v ≡ w = cc in rw (h, g)

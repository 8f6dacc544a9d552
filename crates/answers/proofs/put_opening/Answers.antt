-- As many numbers as the array has are the whole array.
use mathlib.Core.Path.{◌≡◌, sym, ◌∙◌}
use mathlib.Core.List.{List, [], append-nil}
use Prim.Native.Nat.{ℕ, ◌+◌}
use native.Mathlib.Omega.{arith}
use lib.ListN.{length, drop, drop_of_length-le}
use lib.Seq.{sets, sets-eq}
use borrow.Author.Rules.{rules}
use Rattle.answers.proofs.put_opening.Goals as goal

whole : (vs l : List ℕ) → length vs ≡ length l → vs ≡ sets l 0 vs
whole vs l e =
    let rest : drop (0 + length vs) l ≡ [] = drop_of_length-le l {i = 0 + length vs} (omega arith) in
    sym (sets-eq vs l 0 (omega arith) ∙ rw rest (append-nil vs))

pub returns : goal.returns
returns c =
    let out-length : length c.args.out.now ≡ 24 = search rules in
    whole _ c.args.out.now (sym out-length)

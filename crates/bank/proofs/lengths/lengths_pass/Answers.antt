-- What is left of the buffer and the parts before make up its size.
use mathlib.Core.Path.{sym}
use Prim.Native.Nat.{◌+◌}
use native.Mathlib.Omega.{arith}
use borrow.Author.Tests.{le-ltb, lt-ltb}
use Rattle.bank.specs.Blocks.{start_of}
use Rattle.bank.proofs.Parts.{start_next, start_grows, length_read}
use Rattle.bank.proofs.lengths.lengths_pass.Goals as goal

pub loop-k-init : goal.loop-k-init
unfolding start_of
loop-k-init c = (omega arith, omega arith)

pub part_length-length-requires : goal.part_length-length-requires
part_length-length-requires c = length_read c.requires.counted c.requires.column_bound c.loop-k-test.true

pub returns-then-left-length : goal.returns-then-left-length
returns-then-left-length c = sym (lt-ltb c.args.size (start_of c.args.lengths.now c.args.column c.args.blocks) (omega (arith, c.part_length-length.ensures, c.loop-k.invariant.1, c.if-left-length.true, start_next c.args.lengths.now c.args.column c.loop-k.k, start_grows c.args.lengths.now c.args.column (c.loop-k.k + 1) c.args.blocks (omega (arith, c.loop-k-test.true)))))

pub loop-k-preserved : goal.loop-k-preserved
loop-k-preserved c = (omega arith, omega (arith, c.part_length-length.ensures, c.loop-k.invariant.1, c.if-left-length.false, start_next c.args.lengths.now c.args.column c.loop-k.k))

pub returns : goal.returns
returns c = sym (le-ltb c.args.size (start_of c.args.lengths.now c.args.column c.args.blocks) (omega (arith, c.loop-k.invariant.1, start_grows c.args.lengths.now c.args.column c.args.blocks c.loop-k.k (omega (arith, c.loop-k-test.false)))))

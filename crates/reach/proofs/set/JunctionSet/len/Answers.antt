use Rattle.std.proofs.Common.{◌<◌, get_or, refl, arith, rules}
use Rattle.reach.specs.Sets.{size}
use Rattle.reach.proofs.Digits.{size_byte}
use Rattle.std.proofs.lemmas.Nat.{ones-le}
use Rattle.reach.proofs.set.JunctionSet.len.Goals as goal

pub loop-byte-init : goal.loop-byte-init
unfolding size
loop-byte-init c = (refl, omega arith)

pub loop-byte-preserved : goal.loop-byte-preserved
loop-byte-preserved c =
    let b = get_or c.args.self.now.bytes c.loop-byte.byte-index 0 in
    let h : b < 256 = search rules in
    let o = ones-le 8 b h in
    (omega (arith, size_byte c.args.self.now.bytes c.loop-byte.byte-index h, c.loop-byte.invariant.0), omega (arith, o, c.loop-byte.invariant.1))

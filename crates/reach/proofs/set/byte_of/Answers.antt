use Rattle.std.proofs.Common.{◌≡◌, ◌+◌, ◌-◌, ap, arith}
use Rattle.plant.specs.Held.{marked}
use Rattle.reach.specs.Sets.{bits_from}
use Rattle.reach.proofs.Bytes.{horner, horner_fits}
use Rattle.reach.proofs.set.byte_of.Goals as goal

pub loop-w-init : goal.loop-w-init
unfolding bits_from
loop-w-init c = let z : 0 ≡ c.args.v + 8 - (c.args.v + 8) = omega arith in (omega arith, ap (bits_from (marked c.args.marks.now) (c.args.v + 8)) z)

pub overflow_mul-byte : goal.overflow_mul-byte
overflow_mul-byte c = omega (arith, horner_fits (marked c.args.marks.now) (c.loop-w.w - 1) c.loop-w.w _ (c.args.v + 8 - (c.loop-w.w - 1)) c.loop-w.byte (omega arith) (omega arith) (omega arith) c.loop-w.invariant.1)

pub overflow_add-byte : goal.overflow_add-byte
overflow_add-byte c = let h = horner_fits (marked c.args.marks.now) (c.loop-w.w - 1) c.loop-w.w _ (c.args.v + 8 - (c.loop-w.w - 1)) c.loop-w.byte (omega arith) (omega arith) (omega arith) c.loop-w.invariant.1 in omega (arith, h)

pub loop-w-preserved : goal.loop-w-preserved
loop-w-preserved c = (omega arith, horner (marked c.args.marks.now) (c.loop-w.w - 1) c.loop-w.w _ _ c.loop-w.byte (omega arith) (omega arith) c.loop-w.invariant.1)

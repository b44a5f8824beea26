use Rattle.std.proofs.Common.{arith, refl}
use Rattle.reach.proofs.Drying.{no_mark}
use Rattle.reach.proofs.marks.select.Goals as goal

pub loop-v-init : goal.loop-v-init
loop-v-init g c = (λ k h. absurd (omega arith), λ k h. no_mark 256 k, refl)

use Rattle.std.proofs.Common.{ℕ, ◌-◌, take, ap, rules}
use native.Mathlib.Nat.{sub-zero}
use Rattle.plant.proofs.Tested.{front_fine}
use Rattle.plant.proofs.held_plant.HeldPlant.lines.Goals as goal

pub returns : goal.returns
returns c =
    let p = c.args.self.now in
    let f = front_fine p.n p.count p.lines (take (p.count - 0) p.lines) (ap (λ (k : ℕ). take k p.lines) (sub-zero p.count)) p.few p.fine in
    record { value = search rules; few = f.few; fine = f.fine }

use lib.Bits.{bit_or}
use Rattle.std.proofs.Common.{◌≡◌, ℕ, ◌*◌, ◌/◌, ◌%◌, ◌^◌, get_or, set, ap, ◌∙◌, arith}
use Rattle.reach.specs.Sets.{member}
use Rattle.reach.proofs.Digits.{member_insert}
use Rattle.std.proofs.lemmas.Nat.{one_shl}
use Rattle.reach.proofs.set.JunctionSet.insert.Goals as goal

pub returns : goal.returns
returns c w =
    let v = c.args.v in
    let xs = c.args.self.now.bytes in
    let e : (1 * 2 ^ (v % 8)) % 256 ≡ 2 ^ (v % 8) = one_shl (v % 8) 8 (omega arith) in
    ap (λ (x : ℕ). member (set xs (v / 8) (bit_or (get_or xs (v / 8) 0) x)) w) e ∙ member_insert xs v w (omega arith)

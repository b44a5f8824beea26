-- The small plant.
use Rattle.std.proofs.Common.{◌≡◌, ℕ, zero, suc, ◌<◌, ◌≤◌, ◌≢◌, refl, arith}
use Rattle.plant.specs.Example.{full, small, Worked}
use Rattle.plant.specs.Plants.{at, high_of, inflow, line, low_of, outflow, SoundLine}

line_sound : (k : ℕ) → k < 3 → SoundLine 3 (line small k)
line_sound zero h = record { from_in = omega arith; to_in = omega arith; apart = λ e. omega arith; ordered = omega arith }
line_sound (suc zero) h = record { from_in = omega arith; to_in = omega arith; apart = λ e. omega arith; ordered = omega arith }
line_sound (suc (suc zero)) h = record { from_in = omega arith; to_in = omega arith; apart = λ e. omega arith; ordered = omega arith }
line_sound (suc (suc (suc k))) h = absurd (omega arith)

above : (k : ℕ) → k < 3 → low_of (line small k) ≤ at full k
above zero h = omega arith
above (suc zero) h = omega arith
above (suc (suc zero)) h = omega arith
above (suc (suc (suc k))) h = absurd (omega arith)

below : (k : ℕ) → k < 3 → at full k ≤ high_of (line small k)
below zero h = omega arith
below (suc zero) h = omega arith
below (suc (suc zero)) h = omega arith
below (suc (suc (suc k))) h = absurd (omega arith)

kept : (v : ℕ) → v < 3 → v ≢ 0 → v ≢ 1 → inflow small full v ≡ outflow small full v
kept zero h a b = absurd (a refl)
kept (suc zero) h a b = absurd (b refl)
kept (suc (suc zero)) h a b = refl
kept (suc (suc (suc v))) h a b = absurd (omega arith)

pub small_worked : Worked
small_worked =
    (record { both = omega arith; each = line_sound }, record { within = record { each = refl; above = above; below = below }; kept = kept }, refl, refl, refl, refl, λ l. let z : ◌≡◌ {A = ℕ} 0 1 = cc in omega arith)

-- What is known of cuts, best flows and hurdles.
use Rattle.std.specs.Prelude.{◌≡◌, ℕ, ◌<◌, true, ◌≢◌, ◌↔◌, length, pos, ◌<ℤ◌}
use Rattle.plant.specs.declared.aim.Aim.{Aim}
use Rattle.plant.specs.Plants.{Plant, Flow, Junctions, Sound, Feasible, Best, Cut, Tightest, NearCut, FarCut, Hurdle, WorstHurdle, Subset, NoBetter, Step, Reaches, Reached, Unreaching, Leads, Wider, line, at, total, bound, forward, backward, leads_out, leads_in, low_of, high_of, summed, widened}

-- each line that crosses S stands at the limit that a cut counts of it
pub record Filled (aim : Aim) (P : Plant) (f : Flow) (S : Junctions) : Type 0 where
  pub out : (k : ℕ) → k < length P.lines → leads_out S (line P k) ≡ true → at f k ≡ forward aim (line P k)
  pub into : (k : ℕ) → k < length P.lines → leads_in S (line P k) ≡ true → at f k ≡ backward aim (line P k)

-- a feasible flow's total is never better than a cut's bound
abbrev pub WeakDuality : Type 0
WeakDuality = (aim : Aim) (P : Plant) (f : Flow) (S : Junctions) → Sound P → Feasible P f → Cut P S → NoBetter aim (total P f) (bound aim P S)

-- a feasible flow's total equals a cut's bound exactly if each line that crosses the cut stands at the limit counted
abbrev pub Equality : Type 0
Equality = (aim : Aim) (P : Plant) (f : Flow) (S : Junctions) → Sound P → Feasible P f → Cut P S → total P f ≡ bound aim P S ↔ Filled aim P f S

-- a feasible flow is best exactly if residuals do not lead from the header to the tank
abbrev pub BestExactly : Type 0
BestExactly = (aim : Aim) (P : Plant) (f : Flow) → Sound P → Feasible P f → Best aim P f ↔ (Reaches (Step aim P f) 0 1 → ⊥)

-- what residuals of a best flow reach from the header is the near cut, and its bound is the total
abbrev pub NearSmallest : Type 0
NearSmallest = (aim : Aim) (P : Plant) (f : Flow) (N : Junctions) → Sound P → Best aim P f → Reached aim P f N → NearCut aim P N × (total P f ≡ bound aim P N)

-- all from which residuals of a best flow do not reach the tank is the far cut, and its bound is the total
abbrev pub FarLargest : Type 0
FarLargest = (aim : Aim) (P : Plant) (f : Flow) (F : Junctions) → Sound P → Best aim P f → Unreaching aim P f F → FarCut aim P F × (total P f ≡ bound aim P F)

-- where there is a feasible flow there are a near and a far cut
abbrev pub NearFar : Type 0
NearFar = (aim : Aim) (P : Plant) (f : Flow) → Sound P → Feasible P f → ((N : Junctions) × NearCut aim P N) × ((F : Junctions) × FarCut aim P F)

-- there is only one near cut
abbrev pub NearSame : Type 0
NearSame = (aim : Aim) (P : Plant) (N M : Junctions) → NearCut aim P N → NearCut aim P M → (v : ℕ) → N v ≡ M v

-- there is only one far cut
abbrev pub FarSame : Type 0
FarSame = (aim : Aim) (P : Plant) (F G : Junctions) → FarCut aim P F → FarCut aim P G → (v : ℕ) → F v ≡ G v

-- what residuals reach from the header, and from where they do not reach the tank, is the same for every best flow
abbrev pub AnyBest : Type 0
AnyBest = (aim : Aim) (P : Plant) (f g : Flow) (N M F G : Junctions) → Sound P → Best aim P f → Best aim P g → Reached aim P f N → Reached aim P g M → Unreaching aim P f F → Unreaching aim P g G → ((v : ℕ) → N v ≡ M v) × ((v : ℕ) → F v ≡ G v)

-- every tightest cut lies between near and far
abbrev pub Between : Type 0
Between = (aim : Aim) (P : Plant) (N F S : Junctions) → NearCut aim P N → FarCut aim P F → Tightest aim P S → Subset N S × Subset S F

-- where there is a feasible flow there is a best one, with a cut whose bound is its total
abbrev pub StrongDuality : Type 0
StrongDuality = (aim : Aim) (P : Plant) (f : Flow) → Sound P → Feasible P f → (g : Flow) × Best aim P g × ((S : Junctions) × Cut P S × (total P g ≡ bound aim P S))

-- a plant has a best flow exactly if it has a feasible one
abbrev pub BestExists : Type 0
BestExists = (aim : Aim) (P : Plant) → Sound P → ((f : Flow) × Best aim P f) ↔ ((f : Flow) × Feasible P f)

-- a wider limit leaves every feasible flow feasible
abbrev pub WideningKeeps : Type 0
WideningKeeps = (aim : Aim) (P : Plant) (f : Flow) (k x : ℕ) → k < length P.lines → Wider aim (line P k) x → Feasible P f → Feasible (widened aim P k x) f

-- a wider limit leaves the best total as it is exactly if its line does not lead from the near cut to beyond the far
abbrev pub Widening : Type 0
Widening = (aim : Aim) (P : Plant) (f f' : Flow) (N F : Junctions) (k x : ℕ) → Sound P → Best aim P f → NearCut aim P N → FarCut aim P F → k < length P.lines → Wider aim (line P k) x → Best aim (widened aim P k x) f' → total (widened aim P k x) f' ≡ total P f ↔ (Leads N F (line P k) → ⊥)

-- no line ends at the header
abbrev pub Outward : Plant → Type 0
Outward P = (k : ℕ) → k < length P.lines → (line P k).to ≢ 0

-- a set with both header and tank or neither, whose lows leading in exceed its highs leading out, excludes every feasible flow
abbrev pub NoCircuit : Type 0
NoCircuit = (P : Plant) (S : Junctions) (f : Flow) → Sound P → S 0 ≡ S 1 → summed (leads_out S) high_of P.lines < summed (leads_in S) low_of P.lines → Feasible P f → ⊥

-- under a hurdle every feasible flow has a total below zero
abbrev pub HurdleTotal : Type 0
HurdleTotal = (P : Plant) (S : Junctions) (f : Flow) → Sound P → Hurdle P S → Feasible P f → total P f <ℤ pos 0

-- where no line ends at the header, a hurdle excludes every feasible flow
abbrev pub NoFlow : Type 0
NoFlow = (P : Plant) (S : Junctions) (f : Flow) → Sound P → Outward P → Hurdle P S → Feasible P f → ⊥

-- every feasible flow has a total below zero exactly if there is a hurdle
abbrev pub HurdleTotalExactly : Type 0
HurdleTotalExactly = (P : Plant) → Sound P → ((f : Flow) → Feasible P f → total P f <ℤ pos 0) ↔ ((S : Junctions) × Hurdle P S)

-- where no line ends at the header, no flow is feasible exactly if there is a hurdle
abbrev pub HurdleExactly : Type 0
HurdleExactly = (P : Plant) → Sound P → Outward P → ((f : Flow) → Feasible P f → ⊥) ↔ ((S : Junctions) × Hurdle P S)

-- where no flow is feasible there is a smallest hurdle of largest shortfall
abbrev pub WorstExists : Type 0
WorstExists = (P : Plant) → Sound P → ((f : Flow) → Feasible P f → ⊥) → (S : Junctions) × WorstHurdle P S

-- there is only one smallest hurdle of largest shortfall
abbrev pub WorstSame : Type 0
WorstSame = (P : Plant) (S R : Junctions) → WorstHurdle P S → WorstHurdle P R → (v : ℕ) → S v ≡ R v

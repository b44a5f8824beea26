-- Marks kept below a bound, and the sets that they stand for.
use Rattle.std.proofs.Common.{◌≡◌, ℕ, ◌-◌, ◌<◌, ◌≤◌, Bool, true, not, ◌&&◌, ltb, List, sym, ap, ◌∙◌, subst, ⊎_elim, arith}
use Rattle.plant.specs.declared.aim.Aim.{Aim}
use Rattle.plant.specs.Held.{Arc, marked}
use Rattle.plant.specs.Plants.{Junctions}
use Rattle.reach.proofs.Bytes.{size_alike, size_past}
use Rattle.reach.proofs.Paths.{marks_alike}
use Rattle.reach.specs.Drawn.{turned}
use Rattle.reach.specs.Marking.{Marks}
use Rattle.reach.specs.Sets.{size}
use Rattle.std.proofs.lemmas.Bool.{and_from, and_parts, both_ways, cases_Bool, lt-ltb, ltb-true, not-true}
use Rattle.planner.specs.declared.answer.Side.{Side}
use Rattle.planner.specs.declared.answer.Side.TheVariants.{Far, Near}
use Rattle.planner.specs.Cuts.{CutSet, Found, Missed, edges}

-- the marks below m that a search made
pub found_set : (e : ℕ → ℕ → Bool) (n from m : ℕ) (marks : List Bool) (S : Junctions) → m ≤ n → Marks e n from marks
    → ((v : ℕ) → S v ≡ (ltb v m && marked marks v)) → Found e n from m S
found_set e n from m marks S h k s v = (
  (λ t. let p = and_parts (ltb v m) (marked marks v) (sym (s v) ∙ t) in
      let l = ltb-true v m p.0 in
      (l, (k v (omega arith)).0 p.1)),
  (λ l r. s v ∙ and_from (ltb v m) (marked marks v) (lt-ltb v m l) ((k v (omega arith)).1 r)),
)

-- and the others below m
pub missed_set : (e : ℕ → ℕ → Bool) (n from m : ℕ) (marks : List Bool) (S : Junctions) → m ≤ n → Marks e n from marks
    → ((v : ℕ) → S v ≡ (ltb v m && not (marked marks v))) → Missed e n from m S
missed_set e n from m marks S h k s v = (
  (λ t. let p = and_parts (ltb v m) (not (marked marks v)) (sym (s v) ∙ t) in
      let l = ltb-true v m p.0 in
      (l, λ r. both_ways (marked marks v) (not-true (marked marks v) p.1) ((k v (omega arith)).1 r))),
  (λ l f. (k v (omega arith)).0 (⊎_elim (λ t. t) (λ z. absurd (both_ways (S v) f (s v ∙ and_from (ltb v m) (not (marked marks v)) (lt-ltb v m l) (ap not z)))) (cases_Bool (marked marks v)))),
)

-- all members are below n, so all of them are counted
pub size_inside : (n : ℕ) (S T : Junctions) → n ≤ 256 → ((v : ℕ) → S v ≡ true → v < n) → ((v : ℕ) → T v ≡ S v) → size T 256 ≡ size S n
size_inside n S T h s t =
    size_alike T S 256 (λ v l. t v) ∙ ap (size S) (omega arith)
    ∙ size_past S n (256 - n) (λ v l. ⊎_elim (λ z. absurd (omega (arith, s v z))) (λ z. z) (cases_Bool (S v)))

-- the near and the far cut, from the marks of a search
pub near_cut : (side : Side) (aim : Aim) (n : ℕ) (as' : List Arc) (edge : ℕ → ℕ → Bool) (marks : List Bool) (S : Junctions) → side ≡ Near
    → ((v w : ℕ) → edge v w ≡ edges aim as' v w) → Marks edge n 0 marks → ((v : ℕ) → S v ≡ (ltb v n && marked marks v)) → CutSet side aim n as' S
near_cut side aim n as' edge marks S e a k s =
    subst (λ (z : Side). CutSet z aim n as' S) (sym e) (found_set (edges aim as') n 0 n marks S (omega arith) (marks_alike edge (edges aim as') n 0 marks a k) s)

pub far_cut : (side : Side) (aim : Aim) (n : ℕ) (as' : List Arc) (edge : ℕ → ℕ → Bool) (marks : List Bool) (S : Junctions) → side ≡ Far
    → ((v w : ℕ) → edge v w ≡ edges aim as' w v) → Marks edge n 1 marks → ((v : ℕ) → S v ≡ (ltb v n && not (marked marks v))) → CutSet side aim n as' S
far_cut side aim n as' edge marks S e a k s =
    subst (λ (z : Side). CutSet z aim n as' S) (sym e)
    (missed_set (turned (edges aim as')) n 1 n marks S (omega arith) (marks_alike edge (turned (edges aim as')) n 1 marks a k) s)

-- Best flows, and the cuts that meet them.
use Rattle.std.proofs.Common.{◌≡◌, ℕ, zero, suc, Bool, true, false, eqb, ℤ, pos, ◌+ℤ◌, ◌-ℤ◌, nat_abs, ◌≤ℤ◌, sym, refl, subst, inl, inr, arith}
use Rattle.std.proofs.lemmas.Int.{ints, by_lt_z}
use Rattle.std.proofs.lemmas.Bool.{both_ways, cases_Bool, eqb-true}
use Rattle.plant.specs.declared.aim.Aim.{Aim}
use Rattle.plant.specs.declared.aim.Aim.TheVariants.{Greatest, Least}
use Rattle.plant.specs.Plants.{Plant, Flow, Junctions, Sound, Feasible, Best, Cut, NearCut, Tightest, Subset, NoBetter, Step, Reaches, total, bound}
use Rattle.cuts.specs.Theorems.{BestExactly, NearSmallest, FarLargest, NearFar, NearSame, FarSame, AnyBest, Between, StrongDuality, BestExists}
use Rattle.cuts.proofs.Duality.{weak_duality, fills}
use Rattle.cuts.proofs.Search.{in_or, stays}
use Rattle.cuts.proofs.Reach.{filled_closed, tightest_meets, meets_tightest, near_meets, far_meets, reached_exists, unreaching_exists}
use Rattle.cuts.proofs.Augment.{better}

-- a flow whose total is a cut's bound is best
pub meets_best : (aim : Aim) (P : Plant) (f : Flow) (S : Junctions) → Sound P → Feasible P f → Cut P S → total P f ≡ bound aim P S → Best aim P f
meets_best aim P f S sound feasible cut e = record {
  feasible = feasible;
  best = λ g h. subst (NoBetter aim (total P g)) (sym e) (weak_duality aim P g S sound h cut);
}

best_apart : (aim : Aim) (P : Plant) (f : Flow) → Best aim P f → Reaches (Step aim P f) 0 1 → ⊥
best_apart aim P f best r = let b = better aim P f best.feasible r in b.2 (best.best b.0 b.1)

apart_best : (aim : Aim) (P : Plant) (f : Flow) → Sound P → Feasible P f → (Reaches (Step aim P f) 0 1 → ⊥) → Best aim P f
apart_best aim P f sound feasible apart =
    let n = reached_exists aim P f sound in
    let m = near_meets aim P f n.0 sound feasible apart n.1 in
    meets_best aim P f n.0 sound feasible m.0 m.1

pub best_exactly : BestExactly
best_exactly aim P f sound feasible = (best_apart aim P f, apart_best aim P f sound feasible)

-- every tightest cut meets the total of a best flow
pub best_meets : (aim : Aim) (P : Plant) (f : Flow) (S : Junctions) → Sound P → Best aim P f → Tightest aim P S → total P f ≡ bound aim P S
best_meets aim P f S sound best tight =
    let n = reached_exists aim P f sound in
    let m = near_meets aim P f n.0 sound best.feasible (best_apart aim P f best) n.1 in
    tightest_meets aim P f n.0 S sound best.feasible m.0 m.1 tight

-- a tightest cut holds all that is reached from its members
tightest_stays : (aim : Aim) (P : Plant) (f : Flow) (S : Junctions) → Sound P → Best aim P f → Tightest aim P S → (v w : ℕ) → S v ≡ true → Reaches (Step aim P f) v w → S w ≡ true
tightest_stays aim P f S sound best tight v w t r =
    let full = fills aim P f S sound best.feasible tight.cut (best_meets aim P f S sound best tight) in
    stays (Step aim P f) S (filled_closed aim P f S full) v t r

pub near_smallest : NearSmallest
near_smallest aim P f N sound best near =
    let m = near_meets aim P f N sound best.feasible (best_apart aim P f best) near in
    let is_near : NearCut aim P N = record {
      tightest = meets_tightest aim P f N sound best.feasible m.0 m.1;
      smallest = λ R tight v t. tightest_stays aim P f R sound best tight 0 v tight.cut.header (near.inside v t);
    } in
    (is_near, m.1)

pub far_largest : FarLargest
far_largest aim P f F sound best far =
    let m = far_meets aim P f F sound best.feasible (best_apart aim P f best) far in (
      record {
        tightest = meets_tightest aim P f F sound best.feasible m.0 m.1;
        largest = λ R tight v t. in_or (F v) (λ u. both_ways (R 1) tight.cut.tank (tightest_stays aim P f R sound best tight v 1 t (far.outside v (tight.cut.inside v t) u)));
      },
      m.1,
    )

both_in : (a b : Bool) → (a ≡ true → b ≡ true) → (b ≡ true → a ≡ true) → a ≡ b
both_in true b h k = sym (h refl)
both_in false true h k = k refl
both_in false false h k = refl

-- sets that contain each other are the same
pub same_set : (S R : Junctions) → Subset S R → Subset R S → (v : ℕ) → S v ≡ R v
same_set S R h k v = both_in (S v) (R v) (h v) (k v)

pub near_same : NearSame
near_same aim P N M n m = same_set N M (n.smallest M m.tightest) (m.smallest N n.tightest)

pub far_same : FarSame
far_same aim P F G f g = same_set F G (g.largest F f.tightest) (f.largest G g.tightest)

pub any_best : AnyBest
any_best aim P f g N M F G sound best best' n m k l = (
  near_same aim P N M (near_smallest aim P f N sound best n).0 (near_smallest aim P g M sound best' m).0,
  far_same aim P F G (far_largest aim P f F sound best k).0 (far_largest aim P g G sound best' l).0,
)

pub between : Between
between aim P N F S near far tight = (near.smallest S tight, far.largest S tight)

-- ---- one better flow after another
-- t falls short of b by at most m
abbrev Gap : Aim → ℤ → ℤ → ℕ → Type 0
Gap Greatest b t m = b ≤ℤ (t +ℤ pos m)
Gap Least b t m = t ≤ℤ (b +ℤ pos m)

closes : (aim : Aim) (b t u : ℤ) (m : ℕ) → Gap aim b t (suc m) → (NoBetter aim u t → ⊥) → Gap aim b u m
closes Greatest b t u m g h = by_lt_z t u (λ l. omega (arith, ints)) (λ l. absurd (h l))
closes Least b t u m g h = by_lt_z u t (λ l. omega (arith, ints)) (λ l. absurd (h l))

shut : (aim : Aim) (b t : ℤ) → Gap aim b t 0 → NoBetter aim t b → t ≡ b
shut Greatest b t g h = omega (arith, ints)
shut Least b t g h = omega (arith, ints)

gap : (aim : Aim) (b t : ℤ) → Gap aim b t (nat_abs (b -ℤ t))
gap Greatest b t = omega (arith, ints)
gap Least b t = omega (arith, ints)

abbrev Met : Aim → Plant → Type 0
Met aim P = (g : Flow) × Best aim P g × ((S : Junctions) × Cut P S × (total P g ≡ bound aim P S))

climb : (aim : Aim) (P : Plant) (S : Junctions) → Sound P → Cut P S → (m : ℕ) (f : Flow) → Feasible P f → Gap aim (bound aim P S) (total P f) m → Met aim P
climb aim P S sound cut zero f feasible g =
    let e : total P f ≡ bound aim P S = shut aim (bound aim P S) (total P f) g (weak_duality aim P f S sound feasible cut) in
    (f, meets_best aim P f S sound feasible cut e, (S, cut, e))
climb aim P S sound cut (suc m) f feasible g =
    let n = reached_exists aim P f sound in
    elim (cases_Bool (n.0 1)) [
      | inl t ↦
          let b = better aim P f feasible (n.1.inside 1 t) in
          climb aim P S sound cut m b.0 b.1 (closes aim (bound aim P S) (total P f) (total P b.0) m g b.2)
      | inr u ↦
          let e = near_meets aim P f n.0 sound feasible (n.1.outside 1 sound.both u) n.1 in
          (f, meets_best aim P f n.0 sound feasible e.0 e.1, (n.0, e.0, e.1))
    ]

pub strong_duality : StrongDuality
strong_duality aim P f sound feasible =
    let only : Junctions = λ v. eqb v 0 in
    let cut : Cut P only = record { inside = λ v t. omega (arith, sound.both, eqb-true v 0 t); header = refl; tank = refl } in
    climb aim P only sound cut (nat_abs (bound aim P only -ℤ total P f)) f feasible (gap aim (bound aim P only) (total P f))

pub best_exists : BestExists
best_exists aim P sound = (
  λ b. (b.0, b.1.feasible),
  λ f. let g = strong_duality aim P f.0 sound f.1 in (g.0, g.1),
)

pub near_far : NearFar
near_far aim P f sound feasible =
    let g = strong_duality aim P f sound feasible in
    let n = reached_exists aim P g.0 sound in
    let m = unreaching_exists aim P g.0 sound in
    ((n.0, (near_smallest aim P g.0 n.0 sound g.1 n.1).0), (m.0, (far_largest aim P g.0 m.0 sound g.1 m.1).0))

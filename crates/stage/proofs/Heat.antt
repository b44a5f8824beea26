-- What a discharge does to the labels of the active junctions.
use Rattle.std.proofs.Common.{◌≡◌, ℕ, ◌+◌, ◌-◌, ◌*◌, ◌<◌, ◌≤◌, cond, List, [], ◌∷◌, length, ap, ◌∙◌, ⊎_elim, mul-one, mul-add, arith}
use borrow.Author.Differences.{up}
use Rattle.std.specs.List.{AllByRecursion}
use Rattle.std.proofs.lemmas.Int.{ints}
use Rattle.std.proofs.lemmas.Bool.{cases_eq, cases_lt, eq-eqb, ne_eqb}
use Rattle.plant.specs.Held.{Arc}
use Rattle.stage.specs.declared.Row.{Row}
use Rattle.stage.specs.Model.{exc, lab, active, amount, moved, scan_rows}
use Rattle.plant.specs.Held.{residual, other}
use Rattle.stage.specs.States.{SoundArc, Active}
use Rattle.stage.proofs.Rows.{one_sided, length_sent, lab_sent}
use Rattle.stage.proofs.Ends.{pushed}
use Rattle.stage.proofs.Sweeps.{other_in, sent_by, swept_given}
use Rattle.stage.proofs.Cuts.{sum_to, besides, sum_le, sum_besides}
use Rattle.stage.proofs.Marks.{sat, scan_sats, sat_is}
use Rattle.stage.proofs.Actives.{true_active, idle, active_same}

-- the label of u if it is active, the sum of them, and the sum without v
unfoldable pub hot : ℕ → ℕ → List Row → ℕ → ℕ
hot s t rs u = cond (active s t rs u) (lab rs u) 0

abbrev pub heat : ℕ → ℕ → ℕ → List Row → ℕ
heat n s t rs = sum_to n (hot s t rs)

abbrev pub cold : ℕ → ℕ → ℕ → ℕ → List Row → ℕ
cold n s t v rs = sum_to n (besides v (hot s t rs))

-- one term grows by x at most
sum_one_more : (n w x : ℕ) (f g : ℕ → ℕ) → w < n → ((u : ℕ) → u < n → (u ≡ w → ⊥) → f u ≤ g u) → f w ≤ g w + x → sum_to n f ≤ sum_to n g + x
sum_one_more n w x f g k h i =
    let a = sum_besides n w f k in
    let b = sum_besides n w g k in
    let c : sum_to n (besides w f) ≤ sum_to n (besides w g) = sum_le n (besides w f) (besides w g) (λ u j. at u j) in
    omega arith
  where
    at : (u : ℕ) → u < n → besides w f u ≤ besides w g u
    at u j = ⊎_elim
        (λ (e : u ≡ w). rw (eq-eqb u w e) (omega arith))
        (λ (e : u ≡ w → ⊥). rw (ne_eqb u w e) (h u j e))
        (cases_eq u w)

pub hot_same : (s t : ℕ) (rs rs' : List Row) (u : ℕ) → exc rs u ≡ exc rs' u → lab rs u ≡ lab rs' u → hot s t rs u ≡ hot s t rs' u
unfolding hot
hot_same s t rs rs' u e f = rw (active_same s t rs rs' u e, f)

pub hot_le : (s t : ℕ) (rs : List Row) (u : ℕ) → hot s t rs u ≤ lab rs u
unfolding hot
hot_le s t rs u = grind arith

pub hot_active : (n s t : ℕ) (rs : List Row) (u : ℕ) → Active n s t rs u → hot s t rs u ≡ lab rs u
unfolding hot
hot_active n s t rs u a = rw (true_active n s t rs u a)

pub hot_idle : (s t : ℕ) (rs : List Row) (u : ℕ) → up (exc rs u) ≡ 0 → hot s t rs u ≡ 0
unfolding hot
hot_idle s t rs u e = rw (idle s t rs u e)

cold_step : (n s t v x : ℕ) (l : Arc) (rs : List Row) → length rs ≡ n → v < n → SoundArc n l → hot s t (moved v l rs) (other v l) ≤ hot s t rs (other v l) + x →
    cold n s t v (moved v l rs) ≤ cold n s t v rs + x
cold_step n s t v x l rs e k s' i =
    sum_one_more n (other v l) x (besides v (hot s t (moved v l rs))) (besides v (hot s t rs)) (other_in n v l s').0 (λ u j q. at u q)
    (rw (ne_eqb (other v l) v (other_in n v l s').1) i)
  where
    at : (u : ℕ) → (u ≡ other v l → ⊥) → besides v (hot s t (moved v l rs)) u ≤ besides v (hot s t rs) u
    at u q = ⊎_elim
        (λ (p : u ≡ v). rw (eq-eqb u v p) (omega arith))
        (λ (p : u ≡ v → ⊥). rw (ne_eqb u v p) (omega (arith, hot_same s t (moved v l rs) rs u ((sent_by n v (amount v l rs) l rs e k s').rest u p q) (lab_sent v (other v l) (amount v l rs) rs u))))
        (cases_eq u v)

-- one push: what it costs
record Pays (n s t v : ℕ) (l : Arc) (rs : List Row) : Type 0 where
  idle : amount v l rs ≡ 0 → cold n s t v (moved v l rs) ≤ cold n s t v rs
  push : 0 < amount v l rs → cold n s t v (moved v l rs) + 1 ≤ cold n s t v rs + lab rs v

pays : (n s t v : ℕ) (l : Arc) (rs : List Row) → length rs ≡ n → v < n → SoundArc n l → Pays n s t v l rs
pays n s t v l rs e k s' =
    let m = sent_by n v (amount v l rs) l rs e k s' in
    let p = pushed v l rs in
    let w = other v l in
    record {
      idle = λ q.
          let a : exc (moved v l rs) w ≡ exc rs w = omega (arith, ints, m.taker) in
          let b = hot_same s t (moved v l rs) rs w a (lab_sent v (other v l) (amount v l rs) rs w) in
          let c : cold n s t v (moved v l rs) ≤ cold n s t v rs + 0 = cold_step n s t v 0 l rs e k s' (omega (arith, b)) in
          omega (arith, c);
      push = λ q.
          let a = hot_le s t (moved v l rs) w in
          let b = lab_sent v (other v l) (amount v l rs) rs w in
          let c : cold n s t v (moved v l rs) ≤ cold n s t v rs + lab rs w = cold_step n s t v (lab rs w) l rs e k s' (omega (arith, a, b)) in
          omega (arith, c, p.falls q);
    }

pub record Heated (n s t v k c : ℕ) (rs rs' : List Row) : Type 0 where
  pub left : 0 < up (exc rs' v) → cold n s t v rs' ≤ cold n s t v rs + k * c
  pub done : 0 < up (exc rs v) → up (exc rs' v) ≡ 0 → cold n s t v rs' + 1 ≤ cold n s t v rs + k * c + lab rs v
  pub idle : up (exc rs v) ≡ 0 → cold n s t v rs' ≤ cold n s t v rs + k * c

pub heated : (n s t v k : ℕ) (ls : List Arc) (rs : List Row) → length rs ≡ n → v < n → lab rs v ≤ k → AllByRecursion (SoundArc n) ls → Heated n s t v k (scan_sats v ls rs) rs (scan_rows v ls rs)
heated n s t v k [] rs e j b a = record { left = λ q. omega arith; done = λ q r. absurd (omega arith); idle = λ q. omega arith }
heated n s t v k (l ∷ ls) rs e j b a =
    let d = amount v l rs in
    let rs₁ = moved v l rs in
    let rs₂ = scan_rows v ls rs₁ in
    let c = scan_sats v ls rs₁ in
    let p = pushed v l rs in
    let m = sent_by n v (amount v l rs) l rs e j a.0 in
    let e₁ : length rs₁ ≡ n = length_sent v (other v l) (amount v l rs) rs ∙ e in
    let lb : lab rs₁ v ≡ lab rs v = lab_sent v (other v l) (amount v l rs) rs v in
    let i = heated n s t v k ls rs₁ e₁ j (omega arith) a.1 in
    let sc = swept_given v (amount v) n ls rs₁ e₁ j a.1 in
    let y = pays n s t v l rs e j a.0 in
    let z = sat_is v l rs in
    let g : k * (sat v l rs + c) ≡ k * sat v l rs + k * c = mul-add k (sat v l rs) c in
    let up₁ : up (exc rs₁ v) ≡ up (exc rs v) - d = omega (arith, ints, m.giver, p.in_hand, one_sided (exc rs v), one_sided (exc rs₁ v)) in
    let mono : up (exc rs₂ v) ≤ up (exc rs₁ v) = omega (arith, ints, sc.fewer, one_sided (exc rs₂ v)) in
    ⊎_elim
    (λ (q : 0 < d).
    let y' = y.push q in
    ⊎_elim
    (λ (r : d < residual v l).
    let sat₀ = z.part r in
    let all : d ≡ up (exc rs v) = omega (arith, p.most (p.falls q)) in
    let i' = i.idle (omega arith) in
    record {
      left = λ x. absurd (omega arith);
      done = λ x x'. omega arith;
      idle = λ x. absurd (omega arith);
    })
    (λ (r : residual v l ≤ d).
    let sat₁ : sat v l rs ≡ 1 = z.one q (omega (arith, p.in_room)) in
    let k₁ : k * sat v l rs ≡ k = ap (λ x. k * x) sat₁ ∙ mul-one k in
    record {
      left = λ x. omega (arith, i.left x);
      done = λ x x'. ⊎_elim
          (λ (o : 0 < up (exc rs₁ v)). omega (arith, i.done o x'))
          (λ (o : up (exc rs₁ v) ≤ 0). omega (arith, i.idle (omega arith)))
          (cases_lt 0 (up (exc rs₁ v)));
      idle = λ x. absurd (omega (arith, p.in_hand));
    })
    (cases_lt d (residual v l)))
    (λ (q : d ≤ 0).
    let y' = y.idle (omega arith) in
    record {
      left = λ x. omega (arith, i.left x);
      done = λ x x'. omega (arith, i.done (omega arith) x');
      idle = λ x. omega (arith, i.idle (omega arith));
    })
    (cases_lt 0 d)

-- Numbers within the limits that leave nothing waiting at any junction, or else a set that shows why there are none.
use Rattle.std.proofs.Common.{◌≡◌, ℕ, zero, suc, ◌+◌, ◌-◌, ◌<◌, ◌≤◌, true, ◌&&◌, eqb, ltb, ◌≢◌, ◌⊎◌, List, [], ◌∷◌, length, get_or, sym, refl, ap, ◌∙◌, inl, inr, arith}
use Rattle.std.proofs.lemmas.Bool.{both_ways, cases_eq, cases_lt, cond-true, cond-false, eq-eqb, ne_eqb, and_from, and_parts, ltb-true, lt-ltb}
use Rattle.plant.specs.declared.line.Line.{Line}
use Rattle.plant.specs.declared.aim.Aim.TheVariants.{Greatest}
use Rattle.plant.specs.Plants.{Plant, Flow, Junctions, Sound, Within, Residual, Subset, no_line, low_of, high_of, summed, outflow, inflow, leads_out, leads_in}
use Rattle.cuts.proofs.Sums.{over, all, over_zero, over_add, over_same, over_but, over_le, over_holds, over_whole, over_nothing, carried_le, carried_ge}
use Rattle.cuts.proofs.Duality.{flow_out, flow_in, balance, filled, filled_out, filled_in}
use Rattle.cuts.proofs.Search.{any_below, both, less_or, is_or, Whole, reach, stays}
use Rattle.cuts.proofs.Reach.{residual_or, residual_below, filled_closed, closed_filled}
use Rattle.cuts.proofs.Augment.{units_at, Moves, one_more}

-- how much more comes in than goes out, and how much less
abbrev pub excess : Plant → Flow → ℕ → ℕ
excess P f v = inflow P f v - outflow P f v

abbrev pub lack : Plant → Flow → ℕ → ℕ
lack P f v = outflow P f v - inflow P f v

-- what waits at all junctions together
abbrev pub waiting : Plant → Flow → ℕ
waiting P f = over all (excess P f) P.junctions

-- the junctions where something waits
abbrev pub waits : Plant → Flow → Junctions
waits P f v = ltb v P.junctions && ltb (outflow P f v) (inflow P f v)

waits_is : (P : Plant) (f : Flow) (v : ℕ) → waits P f v ≡ true → (v < P.junctions) × (outflow P f v < inflow P f v)
waits_is P f v t =
    let tests = and_parts (ltb v P.junctions) (ltb (outflow P f v) (inflow P f v)) t in
    (ltb-true v P.junctions tests.0, ltb-true (outflow P f v) (inflow P f v) tests.1)

-- what a set takes in beyond what it sends out is the excess of its junctions less what they lack
excess_balance : (P : Plant) (f : Flow) (S : Junctions) → Sound P → flow_in P f S + over S (lack P f) P.junctions ≡ flow_out P f S + over S (excess P f) P.junctions
excess_balance P f S sound =
    let n = P.junctions in
    let a = over_add S (outflow P f) (excess P f) n in
    let b = over_add S (inflow P f) (lack P f) n in
    let e = over_same S (λ v. outflow P f v + excess P f v) (λ v. inflow P f v + lack P f v) n (λ v j t. omega arith) in
    omega (arith, balance P f S sound)

-- where nothing waits, as much comes in as goes out at every junction
pub nothing_waits : (P : Plant) (f : Flow) → Sound P → waiting P f ≡ 0 → (v : ℕ) → v < P.junctions → inflow P f v ≡ outflow P f v
nothing_waits P f sound e v j =
    let same : flow_in P f all ≡ flow_out P f all = refl in
    let none = over_nothing (lack P f) P.junctions (omega (arith, excess_balance P f all sound)) v j in
    omega (arith, over_nothing (excess P f) P.junctions e v j)

-- one unit goes from s, where something waits, to t, where something is lacking
less_waiting : (P : Plant) (f g : Flow) (s t : ℕ) → s < P.junctions → outflow P f s < inflow P f s → inflow P f t < outflow P f t → Moves P f g 1 s t → waiting P g + 1 ≡ waiting P f
less_waiting P f g s t j up down m =
    let apart : s ≢ t = λ e. omega (arith, ap (inflow P f) e, ap (outflow P f) e) in
    let at-s : units_at 1 s s ≡ 1 = cond-true (eqb s s) 1 0 (eq-eqb s s refl) in
    let not_t : units_at 1 t s ≡ zero = cond-false (eqb t s) 1 0 (ne_eqb t s (λ e. apart (sym e))) in
    let others : (v : ℕ) → v < P.junctions → v ≢ s → all v ≡ true → excess P g v ≡ excess P f v = λ v i q _.
    let not-s : units_at 1 s v ≡ zero = cond-false (eqb s v) 1 0 (ne_eqb s v (λ e. q (sym e))) in
    elim (cases_eq t v) [
      | inl e ↦
          let at-t : units_at 1 t v ≡ 1 = cond-true (eqb t v) 1 0 (eq-eqb t v e) in
          omega (arith, m.net v, ap (inflow P f) e, ap (outflow P f) e)
      | inr e ↦
          let not_t : units_at 1 t v ≡ zero = cond-false (eqb t v) 1 0 (ne_eqb t v e) in
          omega (arith, m.net v)
    ] in
    omega (arith, m.net s, over_but all (excess P g) (excess P f) s P.junctions refl j others)

-- something waits, and residuals do not lead from there to where something is lacking; M is what they reach
pub record Stuck (P : Plant) (f : Flow) (M : Junctions) : Type 0 where
  pub within : Within P f
  pub some : 0 < waiting P f
  pub whole : Whole (Residual P f) (waits P f) P.junctions M
  pub never : (v : ℕ) → v < P.junctions → M v ≡ true → inflow P f v < outflow P f v → ⊥

abbrev Settled : Plant → Type 0
Settled P = ((f : Flow) × Within P f × (waiting P f ≡ 0)) ⊎ ((f : Flow) × (M : Junctions) × Stuck P f M)

settle : (P : Plant) → Sound P → (m : ℕ) (f : Flow) → Within P f → waiting P f ≤ m → Settled P
settle P sound zero f within h = inl (f, within, omega arith)
settle P sound (suc m) f within h = elim (cases_eq (waiting P f) 0) [
  | inl e ↦ inl (f, within, e)
  | inr some ↦
      let n = P.junctions in
      let r = reach (Residual P f) (residual_or P f) n (λ v w s. (residual_below P f v w sound s).1) (waits P f) (λ v t. (waits_is P f v t).0) in
      elim (any_below (λ v. (r.0 v ≡ true) × (inflow P f v < outflow P f v)) (λ v. both (is_or (r.0 v) true) (less_or (inflow P f v) (outflow P f v))) n) [
        | inl q ↦
            let way = r.1.part.reached q.0 q.2.0 in
            let top = waits_is P f way.0 way.1 in
            let g = one_more P f way.0 q.0 within way.2 in
            let fewer = less_waiting P f g.0 way.0 q.0 top.0 top.1 q.2.1 g.2 in
            settle P sound m g.0 g.1 (omega arith)
        | inr never ↦ inr (f, r.0, record { within = within; some = omega arith; whole = r.1; never = λ v j t l. never v j (t, l) })
      ]
]

-- ---- every line at its low
lows : List Line → Flow
lows [] = []
lows (l ∷ ls) = low_of l ∷ lows ls

lows_length : (ls : List Line) → length (lows ls) ≡ length ls
unfolding lows
lows_length [] = refl
lows_length (l ∷ ls) = ap suc (lows_length ls)

lows_at : (ls : List Line) (k : ℕ) → k < length ls → get_or (lows ls) k 0 ≡ low_of (get_or ls k no_line)
unfolding lows
lows_at [] k j = absurd (omega arith)
lows_at (l ∷ ls) zero j = refl
lows_at (l ∷ ls) (suc k) j = lows_at ls k (omega arith)

pub settled : (P : Plant) → Sound P → Settled P
settled P sound =
    let f = lows P.lines in
    settle P sound (waiting P f) f (record {
      each = lows_length P.lines;
      above = λ k j. omega (arith, lows_at P.lines k j);
      below = λ k j. omega (arith, lows_at P.lines k j, (sound.each k j).ordered);
    }) (omega arith)

-- ---- what the set shows
module _ (P : Plant) (f : Flow) (M : Junctions) (sound : Sound P) (stuck : Stuck P f M) where
  -- no set's lows leading in exceed its highs leading out by more than what waits
  pub stuck_largest : (R : Junctions) → summed (leads_in R) low_of P.lines ≤ summed (leads_out R) high_of P.lines + waiting P f
  stuck_largest R =
      let w = stuck.within in
      omega (arith, excess_balance P f R sound, over_le R (excess P f) P.junctions, carried_ge (leads_in R) low_of P.lines f w.each w.above, carried_le (leads_out R) high_of P.lines f w.below)

  -- M's do by just that
  pub stuck_short : summed (leads_in M) low_of P.lines ≡ summed (leads_out M) high_of P.lines + waiting P f
  stuck_short =
      let n = P.junctions in
      let whole = stuck.whole in
      let full = closed_filled Greatest P f M stuck.within whole.closed in
      let no-lack : over M (lack P f) n ≡ 0 = over_same M (lack P f) (λ v. 0) n (λ v j t. elim (cases_lt (inflow P f v) (outflow P f v)) [ inl l ↦ absurd (stuck.never v j t l) | inr l ↦ omega arith ]) ∙ over_zero M n in
      let no_more : over M (excess P f) n ≡ waiting P f = over_whole M (excess P f) n (λ v j u. elim (cases_lt (outflow P f v) (inflow P f v)) [
        | inl l ↦ absurd (both_ways (M v) u (whole.part.holds v (and_from (ltb v n) (ltb (outflow P f v) (inflow P f v)) (lt-ltb v n j) (lt-ltb (outflow P f v) (inflow P f v) l))))
        | inr l ↦ omega arith
      ]) in
      omega (arith, excess_balance P f M sound, filled_out Greatest P f M stuck.within full, filled_in Greatest P f M stuck.within full)

  -- and every set that does so contains M
  pub stuck_smallest : (R : Junctions) → summed (leads_in R) low_of P.lines ≡ summed (leads_out R) high_of P.lines + waiting P f → Subset M R
  stuck_smallest R e v t =
      let n = P.junctions in
      let w = stuck.within in
      let a = excess_balance P f R sound in
      let b = over_le R (excess P f) n in
      let c = carried_ge (leads_in R) low_of P.lines f w.each w.above in
      let d = carried_le (leads_out R) high_of P.lines f w.below in
      let full = filled Greatest P f R w (omega arith) (omega arith) in
      let way = stuck.whole.part.reached v t in
      let top = waits_is P f way.0 way.1 in
      let there : R way.0 ≡ true = over_holds R (excess P f) n (omega arith) way.0 top.0 (omega (arith, top.1)) in
      stays (Residual P f) R (filled_closed Greatest P f R full) way.0 there way.2

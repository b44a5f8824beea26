-- What a stage has when it ends.
use Rattle.std.proofs.Common.{◌≡◌, ℕ, suc, ◌+◌, ◌*◌, ◌<◌, ◌≤◌, true, false, eqb, ◌⊎◌, List, [], ◌∷◌, sym, refl, ap, ◌∙◌, inl, inr, ⊎_elim, arith}
use borrow.Author.Differences.{up}
use Rattle.std.specs.List.{ContainsAt, AllByRecursion}
use Rattle.std.proofs.ByRecursion.{all-has, All-weaker}
use Rattle.std.proofs.lemmas.Int.{ints}
use Rattle.std.proofs.lemmas.Bool.{cases_eq, cases_lt, cases_Bool, eq-eqb, ne_eqb, eqb-true, ltb-true, both_ways}
use Rattle.plant.specs.Plants.{Junctions}
use Rattle.plant.specs.Held.{Arc}
use Rattle.stage.specs.declared.Row.{Row}
use Rattle.stage.specs.Model.{exc, lab, active, scan_arcs, scan_rows, lower, lowest, discharged_rows, come, gone}
use Rattle.plant.specs.Held.{residual, other}
use Rattle.stage.specs.States.{SoundArc, Balanced, Holds, Active, Tight, Reach, here, on}
use Rattle.stage.specs.Laws.{EndIsBest, GoalGetsAll, GoalOutOfReach, ActiveGoesOn, RelabelExact}
use Rattle.stage.proofs.Rows.{one_sided, lab_labelled}
use Rattle.stage.proofs.Cuts.{sum_to, besides, come_over, gone_over, cut, no_excess, start_alone, sum_besides, besides_same, carries}
use Rattle.stage.proofs.Levels.{start_parted}
use Rattle.stage.proofs.Ends.{Leaves, Enters, Apart, lies}
use Rattle.stage.proofs.Actives.{active_true, true_active}
use Rattle.stage.proofs.Keeps.{lowest_le, low_yes, low_no, in_hand, scan_holds, discharge_left, stuck}

-- a flow that is balanced gives the goal what it takes from the start
pub goal_gets_all : GoalGetsAll
goal_gets_all n s t ls js jt differ bal =
    let X : Junctions = λ u. true in
    let a : sum_to n (come ls) ≡ carries (λ l. true) ls = come_over n X ls bal.lines in
    let b : sum_to n (gone ls) ≡ carries (λ l. true) ls = gone_over n X ls bal.lines in
    let f : ℕ → ℕ = come ls in
    let g : ℕ → ℕ = gone ls in
    let c = sum_besides n s f js in
    let d = sum_besides n s g js in
    let c₂ : sum_to n (besides s f) ≡ sum_to n (besides t (besides s f)) + besides s f t = sum_besides n t (besides s f) jt in
    let d₂ : sum_to n (besides s g) ≡ sum_to n (besides t (besides s g)) + besides s g t = sum_besides n t (besides s g) jt in
    let e : sum_to n (besides t (besides s f)) ≡ sum_to n (besides t (besides s g)) = besides_same n t (besides s f) (besides s g) at in
    let ft : besides s f t ≡ f t = rw (ne_eqb t s (λ q. differ (sym q))) refl in
    let gt : besides s g t ≡ g t = rw (ne_eqb t s (λ q. differ (sym q))) refl in
    omega (arith, a, b, c, d, c₂, d₂, e, ft, gt)
  where
    at : (u : ℕ) → u < n → (u ≡ t → ⊥) → besides s (come ls) u ≡ besides s (gone ls) u
    at u k q = ⊎_elim
        (λ (z : u ≡ s). rw (eq-eqb u s z) refl)
        (λ (z : u ≡ s → ⊥). rw (ne_eqb u s z) (bal.even u k z q))
        (cases_eq u s)

-- the start has label n and the goal 0
differ : (n s t : ℕ) (ms ls : List Arc) (rs : List Row) → Holds n s t ms ls rs → s ≡ t → ⊥
differ n s t ms ls rs h e =
    let st = h.standing in
    omega (arith, ap (lab rs) e, st.start_label, st.goal_label, st.start_in)

pub end_is_best : EndIsBest
end_is_best n s t ms ls rs ended =
    let h = ended.holds in
    let st = h.standing in
    let apart = differ n s t ms ls rs h in
    let bal : Balanced n s t ls = record {
      lines = st.lines;
      even = λ u k p q.
          let z : up (exc rs u) ≡ 0 = ⊎_elim
          (λ (y : 0 < up (exc rs u)). absurd (both_ways (active s t rs u) (ended.quiet u) (true_active n s t rs u (record { inside = k; no_start = p; no_goal = q; some = y }))))
          (λ (y : up (exc rs u) ≤ 0). omega arith)
          (cases_lt 0 (up (exc rs u))) in
          omega (arith, ints, h.truth u k, h.off u k p q);
    } in
    let x = start_parted n s t ls rs st in (
      bal,
      λ ks bk same.
          let c = cut n x.0 ls ks x.3 bk.lines same in
          let a = start_alone n s t x.0 ls bal st.start_in x.1 x.2 in
          let b = start_alone n s t x.0 ks bk st.start_in x.1 x.2 in
          let g : come ls s + gone ks s ≤ gone ls s + come ks s = omega (arith, a, b, c) in
          let i = goal_gets_all n s t ls st.start_in st.goal_in apart bal in
          let j = goal_gets_all n s t ks st.start_in st.goal_in apart bk in
          record { start = g; goal = omega (arith, g, i, j) },
    )

-- what is in a set that no residual leaves reaches only that set
reach_inside : (n : ℕ) (X : Junctions) (ls : List Arc) {v w : ℕ} → AllByRecursion (SoundArc n) ls → AllByRecursion (Tight X) ls → X v ≡ true → Reach ls v w → X w ≡ true
reach_inside n X ls s t x here = x
reach_inside n X ls s t x (on {w} {x = y} r l has q e) =
    let i : X w ≡ true = reach_inside n X ls s t x r in
    let sl = all-has (SoundArc n) ls l s has in
    let tl = all-has (Tight X) ls l t has in
    ⊎_elim
    (λ (z : X y ≡ true). z)
    (λ (z : X y ≡ false). ⊎_elim
    (λ (d : Leaves w l).
    absurd (omega (arith, d.room, tl.out (ap X d.here ∙ i) (ap X (sym d.end ∙ sym e) ∙ z))))
    (λ (o : Enters w l ⊎ Apart w l). ⊎_elim
    (λ (d : Enters w l). absurd (omega (arith, d.room, tl.back (ap X d.here ∙ i) (ap X (sym d.end ∙ sym e) ∙ z))))
    (λ (d : Apart w l). absurd (omega (arith, d.room)))
    o)
    (lies n w l sl))
    (cases_Bool (X y))

pub goal_out_of_reach : GoalOutOfReach
goal_out_of_reach n s t ls rs st r =
    let x = start_parted n s t ls rs st in
    both_ways (x.0 t) x.2 (reach_inside n x.0 ls st.lines x.3 x.1 r)

-- a residual from v leads to the label x
abbrev Found : ℕ → List Arc → List Row → ℕ → Type 0
Found v ls rs x = (l : Arc) × ContainsAt ls l × (0 < residual v l) × (x ≡ lab rs (other v l))

lowest_reached : (v m : ℕ) (ls : List Arc) (rs : List Row) → (lowest v ls rs m ≡ m) ⊎ Found v ls rs (lowest v ls rs m)
lowest_reached v m [] rs = inl refl
lowest_reached v m (l ∷ ls) rs =
    let m' = lower v l rs m in
    let x = lowest v ls rs m' in
    ⊎_elim
    (λ (q : x ≡ m'). ⊎_elim
    (λ (z : 0 < residual v l). ⊎_elim
    (λ (y : lab rs (other v l) < m). inr (l, (0, omega arith, λ d. refl), z, omega (arith, low_yes v m l rs z)))
    (λ (y : m ≤ lab rs (other v l)). inl (omega (arith, low_yes v m l rs z)))
    (cases_lt (lab rs (other v l)) m))
    (λ (z : residual v l ≤ 0). inl (q ∙ low_no v m l rs z))
    (cases_lt 0 (residual v l)))
    (λ (q : Found v ls rs x). inr (q.0, (suc q.1.0, omega (arith, q.1.1), q.1.2), q.2, q.3))
    (lowest_reached v m' ls rs)

alone_tight : (n v : ℕ) (h : ℕ → ℕ) (ls : List Arc) → ((u : ℕ) → u < n → h u < 2 * n) → AllByRecursion (SoundArc n) ls → AllByRecursion (λ l. 0 < residual v l → 2 * n ≤ h (other v l)) ls → AllByRecursion (Tight (λ u. eqb u v)) ls
alone_tight n v h [] roof s a = tt
alone_tight n v h (l ∷ ls) roof s a = (
  ⊎_elim
      (λ (w : Leaves v l).
      let far : h (other v l) < 2 * n = rw w.end (roof l.line.to s.0.sound.to_in) in
      record {
        out = λ p q. ⊎_elim (λ (z : 0 < residual v l). absurd (omega (arith, a.0 z))) (λ (z : residual v l ≤ 0). omega (arith, w.room, s.0.below)) (cases_lt 0 (residual v l));
        back = λ p q. absurd (w.far (eqb-true l.line.to v p));
      })
      (λ (o : Enters v l ⊎ Apart v l). ⊎_elim
      (λ (w : Enters v l).
      let far : h (other v l) < 2 * n = rw w.end (roof l.line.from s.0.sound.from_in) in
      record {
        out = λ p q. absurd (w.far (eqb-true l.line.from v p));
        back = λ p q. ⊎_elim (λ (z : 0 < residual v l). absurd (omega (arith, a.0 z))) (λ (z : residual v l ≤ 0). omega (arith, w.room, s.0.above)) (cases_lt 0 (residual v l));
      })
      (λ (w : Apart v l). record { out = λ p q. absurd (w.here (eqb-true l.line.from v p)); back = λ p q. absurd (w.far (eqb-true l.line.to v p)) })
      o)
      (lies n v l s.0),
  alone_tight n v h ls roof s.1 a.1,
)

-- the smallest label that a residual from an active junction leads to
lowest_found : (n s t : ℕ) (ms ls : List Arc) (rs : List Row) (v : ℕ) → Holds n s t ms ls rs → Active n s t rs v → Found v ls rs (lowest v ls rs (2 * n))
lowest_found n s t ms ls rs v h w =
    let st = h.standing in
    let m = 2 * n in
    ⊎_elim
    (λ (q : lowest v ls rs m ≡ m).
    let le' : AllByRecursion (λ l. 0 < residual v l → m ≤ lab rs (other v l)) ls = rw q at (lowest_le v m ls rs) in
    let tg = alone_tight n v (lab rs) ls h.roof st.lines le' in
    let same : (u : ℕ) → eqb u v ≡ true → (u ≡ s → ⊥) × (u ≡ t → ⊥) = λ u x. ((λ y. w.no_start (sym (eqb-true u v x) ∙ y)), (λ y. w.no_goal (sym (eqb-true u v x) ∙ y))) in
    let c : come ls v ≤ gone ls v = no_excess n (λ u. eqb u v) ls ms st.lines h.balanced.lines h.alike tg
    (λ u k x. h.balanced.even u k (same u x).0 (same u x).1)
    (λ u k x. in_hand n s t ms ls rs h u k (same u x).0 (same u x).1)
    v w.inside (eq-eqb v v refl) in
    absurd (omega (arith, ints, c, h.truth v w.inside, w.some, one_sided (exc rs v))))
    (λ (q : Found v ls rs (lowest v ls rs m)). q)
    (lowest_reached v m ls rs)

pub active_goes_on : ActiveGoesOn
active_goes_on n s t ms ls rs v h o =
    let f = lowest_found n s t ms ls rs v h (active_true n s t rs v h.standing.size o) in
    (f.0, f.1, f.2)

pub relabel_exact : RelabelExact
relabel_exact n s t ms ls rs v h o left =
    let w = active_true n s t rs v h.standing.size o in
    let ls₁ = scan_arcs v ls rs in
    let rs₁ = scan_rows v ls rs in
    let q : 0 < up (exc rs₁ v) = ltb-true 0 (up (exc rs₁ v)) left in
    let h₁ = scan_holds n s t ms ls rs v h w in
    let w₁ : Active n s t rs₁ v = record { inside = w.inside; no_start = w.no_start; no_goal = w.no_goal; some = q } in
    let x = lowest v ls₁ rs₁ (2 * n) in
    let f = lowest_found n s t ms ls₁ rs₁ v h₁ w₁ in
    let e : lab (discharged_rows n v ls rs) v ≡ x + 1 = rw (discharge_left n v ls rs q) (lab_labelled rs₁ v (x + 1) (omega (arith, h₁.standing.size))) in
    rw e (record {
      stuck = (stuck n s t ms ls rs v h w q).spent;
      least = All-weaker (λ l. 0 < residual v l → x ≤ lab rs₁ (other v l)) (λ l. 0 < residual v l → x + 1 ≤ lab rs₁ (other v l) + 1) (λ l g z. omega (arith, g z)) ls₁ (lowest_le v (2 * n) ls₁ rs₁);
      met = (f.0, f.1, f.2, ap (λ y. y + 1) f.3);
    })

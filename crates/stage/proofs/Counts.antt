-- Runs are short.
use Rattle.std.proofs.Common.{◌≡◌, ℕ, zero, suc, ◌+◌, ◌-◌, ◌*◌, ◌<◌, ◌≤◌, cond, List, [], ◌∷◌, length, sym, refl, ap, ◌∙◌, ⊎_elim, mul-le-mul_right, mul_assoc, mul_comm, add-mul, mul-le-mul_left, one-mul, mul-one, mul-add, arith}
use borrow.Author.Differences.{up}
use Rattle.std.proofs.lemmas.Bool.{cases_eq, cases_lt, lt-ltb, le-ltb}
use Rattle.std.proofs.lemmas.List.{length-map}
use Rattle.plant.specs.Held.{Arc, line_of}
use Rattle.stage.specs.declared.Row.{Row}
use Rattle.stage.specs.Model.{State, exc, lab, amount, scan_arcs, scan_rows, unspent, lowest, discharged_rows, discharged}
use Rattle.stage.specs.States.{Holds, Active}
use Rattle.stage.specs.Runs.{ran, Run, relabels}
use Rattle.stage.specs.Laws.{RunsEnd}
use Rattle.stage.proofs.Rows.{exc_labelled}
use Rattle.stage.proofs.Sweeps.{swept_lines, swept_lab}
use Rattle.stage.proofs.Actives.{active_true}
use Rattle.stage.proofs.Keeps.{discharge_left, discharge_done, kept}
use Rattle.stage.proofs.Cuts.{sum_to, besides, sum_le, sum_besides, besides_same}
use Rattle.stage.proofs.Marks.{scan_sats, scan_marks, total, Marked, scan_marked, marked_grows, marked_total}
use Rattle.stage.proofs.Heat.{hot, heat, cold, hot_same, hot_le, hot_active, hot_idle, heated}

-- the sum of the labels
abbrev labels : ℕ → List Row → ℕ
labels n rs = sum_to n (lab rs)

-- a relabel leaves the excess
pub exc_discharged : (n v : ℕ) (ls : List Arc) (rs : List Row) (u : ℕ) → exc (discharged_rows n v ls rs) u ≡ exc (scan_rows v ls rs) u
exc_discharged n v ls rs u =
    let ls₁ = scan_arcs v ls rs in
    let rs₁ = scan_rows v ls rs in
    ⊎_elim
    (λ (q : 0 < up (exc rs₁ v)). rw (discharge_left n v ls rs q) (exc_labelled rs₁ v (lowest v ls₁ rs₁ (2 * n) + 1) u))
    (λ (q : up (exc rs₁ v) ≤ 0). rw (discharge_done n v ls rs q) refl)
    (cases_lt 0 (up (exc rs₁ v)))

-- what one discharge costs
record Cost (n s t k : ℕ) (ls : List Arc) (rs : List Row) (v : ℕ) (rs' : List Row) : Type 0 where
  paid : 1 + heat n s t rs' + 2 * labels n rs ≤ heat n s t rs + 2 * labels n rs' + k * scan_sats v ls rs
  relabel : cond (unspent v ls rs) 1 0 + labels n rs ≤ labels n rs'
  grows : (u : ℕ) → lab rs u ≤ lab rs' u

cost : (n s t k : ℕ) (ms ls : List Arc) (rs : List Row) (v : ℕ) → 2 * n ≡ k + 1 → Holds n s t ms ls rs → Active n s t rs v → Cost n s t k ls rs v (discharged_rows n v ls rs)
cost n s t k ms ls rs v e h w =
    let st = h.standing in
    let rs₁ = scan_rows v ls rs in
    let rs' = discharged_rows n v ls rs in
    let kp = kept n s t ms ls rs v h w in
    let ht = heated n s t v k ls rs st.size w.inside (omega (arith, h.roof v w.inside)) st.lines in
    let ex : (u : ℕ) → exc rs' u ≡ exc rs₁ u = exc_discharged n v ls rs in
    let cd : cold n s t v rs' ≡ cold n s t v rs₁ =
    besides_same n v (hot s t rs') (hot s t rs₁) (λ u j q. hot_same s t rs' rs₁ u (ex u) (kp.labels u q ∙ sym (swept_lab v (amount v) ls rs u))) in
    let lb : sum_to n (besides v (lab rs')) ≡ sum_to n (besides v (lab rs)) = besides_same n v (lab rs') (lab rs) (λ u j. kp.labels u) in
    let l₀ : labels n rs ≡ sum_to n (besides v (lab rs)) + lab rs v = sum_besides n v (lab rs) w.inside in
    let l₁ : labels n rs' ≡ sum_to n (besides v (lab rs')) + lab rs' v = sum_besides n v (lab rs') w.inside in
    let h₀ : heat n s t rs ≡ cold n s t v rs + hot s t rs v = sum_besides n v (hot s t rs) w.inside in
    let h₁ : heat n s t rs' ≡ cold n s t v rs' + hot s t rs' v = sum_besides n v (hot s t rs') w.inside in
    let w₀ : hot s t rs v ≡ lab rs v = hot_active n s t rs v w in
    let ev : up (exc rs' v) ≡ up (exc rs₁ v) = ap up (ex v) in
    let other' : (u : ℕ) → (u ≡ v → ⊥) → lab rs u ≤ lab rs' u = λ u q. omega (arith, kp.labels u q) in
    ⊎_elim
    (λ (q : 0 < up (exc rs₁ v)).
    let r : lab rs v < lab rs' v = kp.raised (omega arith) in
    let w₁ : hot s t rs' v ≡ lab rs' v = hot_active n s t rs' v (record { inside = w.inside; no_start = w.no_start; no_goal = w.no_goal; some = omega arith }) in
    let c = ht.left q in
    record {
      paid = omega arith;
      relabel = rw (lt-ltb 0 (up (exc rs₁ v)) q) (omega arith);
      grows = λ u. ⊎_elim (λ (z : u ≡ v). rw z (omega arith)) (λ (z : u ≡ v → ⊥). other' u z) (cases_eq u v);
    })
    (λ (q : up (exc rs₁ v) ≤ 0).
    let r : lab rs' v ≡ lab rs v = kp.stays (omega arith) in
    let w₁ : hot s t rs' v ≡ 0 = hot_idle s t rs' v (omega arith) in
    let c = ht.done w.some (omega arith) in
    record {
      paid = omega arith;
      relabel = rw (le-ltb 0 (up (exc rs₁ v)) q) (omega arith);
      grows = λ u. ⊎_elim (λ (z : u ≡ v). rw z (omega arith)) (λ (z : u ≡ v → ⊥). other' u z) (cases_eq u v);
    })
    (cases_lt 0 (up (exc rs₁ v)))

zeros : List Arc → List ℕ
zeros [] = []
zeros (l ∷ ls) = 0 ∷ zeros ls

zeros_marked : (n : ℕ) (h : ℕ → ℕ) (ls : List Arc) → 0 < n → Marked n h ls (zeros ls) × (total (zeros ls) ≡ 0)
unfolding zeros
zeros_marked n h [] k = (tt, refl)
zeros_marked n h (l ∷ ls) k =
    let r = zeros_marked n h ls k in
    ((record { on = λ q. omega arith; back = λ q. omega arith; few = omega arith }, r.0), omega (arith, r.1))

-- what a run has paid: e discharges and r relabels from the rows rs₀ on, with a count of marks for each line
record Tally (n s t k m : ℕ) (ms : List Arc) (rs₀ : List Row) (e r : ℕ) (st : State) : Type 0 where
  holds : Holds n s t ms st.arcs st.rows
  marks : List ℕ
  marked : Marked n (lab st.rows) st.arcs marks
  size : length st.arcs ≡ m
  paid : e + heat n s t st.rows + 2 * labels n rs₀ ≤ heat n s t rs₀ + 2 * labels n st.rows + k * total marks
  raised : r + labels n rs₀ ≤ labels n st.rows

tally_more : (n s t k m : ℕ) (ms : List Arc) (rs₀ : List Row) (e r : ℕ) (st : State) (v : ℕ) → 2 * n ≡ k + 1 → Active n s t st.rows v → Tally n s t k m ms rs₀ e r st →
    Tally n s t k m ms rs₀ (e + 1) (r + cond (unspent v st.arcs st.rows) 1 0) (discharged n v st)
tally_more n s t k m ms rs₀ e r st v q w i =
    let ls = st.arcs in
    let rs = st.rows in
    let h₁ = i.holds in
    let c = cost n s t k ms ls rs v q h₁ w in
    let y = scan_marked n v (lab rs) ls rs i.marks (λ x. refl) h₁.roof w.inside h₁.standing.lines i.marked in
    let g : k * total (scan_marks v ls rs i.marks) ≡ k * total i.marks + k * scan_sats v ls rs =
    ap (λ x. k * x) y.1 ∙ mul-add k (total i.marks) (scan_sats v ls rs) in
    record {
      holds = (kept n s t ms ls rs v h₁ w).holds;
      marks = scan_marks v ls rs i.marks;
      marked = marked_grows n (lab rs) (lab (discharged_rows n v ls rs)) (scan_arcs v ls rs) (scan_marks v ls rs i.marks) c.grows y.0;
      size = sym (length-map (scan_arcs v ls rs) line_of) ∙ ap length (swept_lines v (amount v) ls rs) ∙ length-map ls line_of ∙ i.size;
      paid = omega (arith, i.paid, c.paid);
      raised = omega (arith, i.raised, c.relabel);
    }

tally : (n s t k m : ℕ) (ms : List Arc) (rs₀ : List Row) (e r : ℕ) (vs : List ℕ) (st : State) → 2 * n ≡ k + 1 → Tally n s t k m ms rs₀ e r st → Run n s t vs st →
    Tally n s t k m ms rs₀ (e + length vs) (r + relabels n vs st) (ran n vs st)
tally n s t k m ms rs₀ e r [] st q i run =
    let a : e + 0 ≡ e = omega arith in
    let b : r + 0 ≡ r = omega arith in
    rw (a, b) i
tally n s t k m ms rs₀ e r (v ∷ vs) st q i run =
    let d : ℕ = cond (unspent v st.arcs st.rows) 1 0 in
    let w = active_true n s t st.rows v i.holds.standing.size run.0 in
    let a : e + length (v ∷ vs) ≡ (e + 1) + length vs = omega arith in
    let b : r + (d + relabels n vs (discharged n v st)) ≡ (r + d) + relabels n vs (discharged n v st) = omega arith in
    rw (a, b) (tally n s t k m ms rs₀ (e + 1) (r + d) vs (discharged n v st) q (tally_more n s t k m ms rs₀ e r st v q w i) run.1)

labels_few : (n k : ℕ) (f : ℕ → ℕ) → ((u : ℕ) → u < n → f u ≤ k) → sum_to n f ≤ n * k
labels_few zero k f h = omega arith
labels_few (suc n) k f h =
    let a : (1 + n) * k ≡ k + n * k = add-mul 1 n k ∙ ap (λ x. x + n * k) (one-mul k) in
    let b : suc n * k ≡ (1 + n) * k = ap (λ x. x * k) (omega arith) in
    omega (arith, labels_few n k f (λ u j. h u (omega arith)), h n (omega arith))

-- the invariant as two bounds
bounds : (n k m e r lab₀ lab₁ heat₀ heat₁ c : ℕ) → 2 * n ≡ k + 1 → heat₀ ≤ lab₀ → lab₁ ≤ n * k → c ≤ m * k →
    e + heat₁ + 2 * lab₀ ≤ heat₀ + 2 * lab₁ + k * c → r + lab₀ ≤ lab₁ → (r < 2 * (n * n)) × (e < 4 * (n * n) * (m + 1))
bounds n k m e r lab₀ lab₁ heat₀ heat₁ c q a b d p o =
    let kk = k * k in
    let nn : 2 * (n * k) ≡ k * k + k = sym (mul_assoc 2 n k) ∙ ap (λ x. x * k) q ∙ add-mul k 1 k ∙ ap (λ x. k * k + x) (one-mul k) in
    let n₂ : 2 * (n * n) ≡ n * k + n = sym (mul_assoc 2 n n) ∙ ap (λ x. x * n) q ∙ add-mul k 1 n ∙ omega (arith, mul_comm k n, one-mul n) in
    let sq : 4 * (n * n) ≡ kk + k + k + 1 = omega (arith, n₂, nn) in
    let cc' : k * c ≤ kk * m =
    (let f : k * c ≤ k * (m * k) = mul-le-mul_left k d in
    let g : k * (m * k) ≡ kk * m = ap (λ x. k * x) (mul_comm m k) ∙ sym (mul_assoc k k m) in
    omega (arith, f, g)) in
    let big : 4 * (n * n) * (m + 1) ≡ 4 * (n * n) * m + 4 * (n * n) = mul-add (4 * (n * n)) m 1 ∙ ap (λ x. 4 * (n * n) * m + x) (mul-one (4 * (n * n))) in
    let le : kk * m ≤ 4 * (n * n) * m = mul-le-mul_right m (omega (arith, sq)) in
    (omega (arith, n₂), omega (arith, big, le, cc', sq, nn))

pub runs_end : RunsEnd
runs_end n s t ms st vs h run =
    let k = 2 * n - 1 in
    let m = length st.arcs in
    let rs₀ = st.rows in
    let some : 0 < n = omega (arith, h.standing.start_in) in
    let q : 2 * n ≡ k + 1 = omega arith in
    let z = zeros_marked n (lab rs₀) st.arcs some in
    let y = tally n s t k m ms rs₀ 0 0 vs st q (record { holds = h; marks = zeros st.arcs; marked = z.0; size = refl; paid = omega arith; raised = omega arith }) run in
    let st₁ = ran n vs st in
    let hot₀ : heat n s t rs₀ ≤ labels n rs₀ = sum_le n (hot s t rs₀) (lab rs₀) (λ u j. hot_le s t rs₀ u) in
    let few : labels n st₁.rows ≤ n * k = labels_few n k (lab st₁.rows) (λ u j. omega (arith, y.holds.roof u j)) in
    let mk : total y.marks ≤ m * k = omega (arith, marked_total n k (lab st₁.rows) st₁.arcs y.marks q y.marked, ap (λ x. x * k) y.size) in
    let b = bounds n k m (0 + length vs) (0 + relabels n vs st) (labels n rs₀) (labels n st₁.rows) (heat n s t rs₀) (heat n s t st₁.rows) (total y.marks) q hot₀ few mk y.paid y.raised in
    (y.holds, record { relabels_few = omega (arith, b.0); discharges_few = omega (arith, b.1) })

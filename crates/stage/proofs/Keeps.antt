-- A discharge keeps what holds of a stage.
use Rattle.std.proofs.Common.{◌≡◌, ℕ, ◌+◌, ◌*◌, ◌<◌, ◌≤◌, min, ◌⊎◌, List, [], ◌∷◌, length, pos, ◌≤ℤ◌, sym, ap, ◌∙◌, ⊎_elim, arith}
use borrow.Author.Differences.{up}
use Rattle.std.specs.List.{AllByRecursion}
use Rattle.std.proofs.ByRecursion.{All-weaker}
use Rattle.std.proofs.lemmas.Int.{ints}
use Rattle.std.proofs.lemmas.Bool.{cases_eq, cases_lt, lt-ltb, le-ltb}
use Rattle.plant.specs.Held.{Arc}
use Rattle.stage.specs.declared.Row.{Row}
use Rattle.stage.specs.Model.{exc, lab, amount, scan_arcs, scan_rows, lower, lowest, labelled, relabelled, discharged_rows, come, gone}
use Rattle.plant.specs.Held.{residual, other}
use Rattle.stage.specs.States.{SoundArc, Valid, Standing, Holds, Active}
use Rattle.stage.specs.Laws.{Kept, DischargeKeeps}
use Rattle.stage.proofs.Rows.{one_sided, length_labelled, lab_labelled, lab_labelled_other, exc_labelled}
use Rattle.stage.proofs.Ends.{Leaves, Enters, Apart, lies}
use Rattle.stage.proofs.Sweeps.{swept_lines, swept_length, swept_lab, swept_sound, swept_balance, swept_given}
use Rattle.stage.proofs.Scan.{amount_fits, scan_valid, scan_kept, Spent, scan_spent}
use Rattle.stage.proofs.Levels.{labels_bounded}
use Rattle.stage.proofs.Actives.{active_true}

-- labels that are the same are valid alike
valid_like : (h k : ℕ → ℕ) → ((x : ℕ) → h x ≡ k x) → (ls : List Arc) → AllByRecursion (Valid h) ls → AllByRecursion (Valid k) ls
valid_like h k e ls s =
    All-weaker (Valid h) (Valid k)
    (λ l v. record { on = λ q. omega (arith, v.on q, e l.line.from, e l.line.to); back = λ q. omega (arith, v.back q, e l.line.from, e l.line.to) })
    ls s

-- the smallest label in reach: a lower bound, and the greatest of them
pub low_yes : (v m : ℕ) (l : Arc) (rs : List Row) → 0 < residual v l → lower v l rs m ≡ min m (lab rs (other v l))
low_yes v m l rs z = rw (lt-ltb 0 (residual v l) z)

pub low_no : (v m : ℕ) (l : Arc) (rs : List Row) → residual v l ≤ 0 → lower v l rs m ≡ m
low_no v m l rs z = rw (le-ltb 0 (residual v l) z)

low_le : (v m : ℕ) (l : Arc) (rs : List Row) → lower v l rs m ≤ m
low_le v m l rs = ⊎_elim (λ (z : 0 < residual v l). omega (arith, low_yes v m l rs z)) (λ (z : residual v l ≤ 0). omega (arith, low_no v m l rs z)) (cases_lt 0 (residual v l))

pub lowest_start : (v m : ℕ) (ls : List Arc) (rs : List Row) → lowest v ls rs m ≤ m
lowest_start v m [] rs = omega arith
lowest_start v m (l ∷ ls) rs = omega (arith, lowest_start v (lower v l rs m) ls rs, low_le v m l rs)

pub lowest_le : (v m : ℕ) (ls : List Arc) (rs : List Row) → AllByRecursion (λ l. 0 < residual v l → lowest v ls rs m ≤ lab rs (other v l)) ls
lowest_le v m ls rs = go m ls (lowest v ls rs m) (omega arith)
  where
    go : (m : ℕ) (ks : List Arc) (x : ℕ) → x ≤ lowest v ks rs m → AllByRecursion (λ l. 0 < residual v l → x ≤ lab rs (other v l)) ks
    go m [] x q = tt
    go m (l ∷ ks) x q =
        ((λ z. omega (arith, lowest_start v (lower v l rs m) ks rs, low_yes v m l rs z)), go (lower v l rs m) ks x q)

lowest_ge : (v m x : ℕ) (ls : List Arc) (rs : List Row) → x ≤ m → AllByRecursion (λ l. 0 < residual v l → x ≤ lab rs (other v l)) ls → x ≤ lowest v ls rs m
lowest_ge v m x [] rs k a = k
lowest_ge v m x (l ∷ ls) rs k a =
    let k' : x ≤ lower v l rs m = ⊎_elim
    (λ (z : 0 < residual v l). omega (arith, low_yes v m l rs z, a.0 z))
    (λ (z : residual v l ≤ 0). omega (arith, low_no v m l rs z))
    (cases_lt 0 (residual v l)) in
    lowest_ge v (lower v l rs m) x ls rs k' a.1

-- after a scan every neighbour in reach is at least as high
level : (n v : ℕ) (h : ℕ → ℕ) (ls : List Arc) → AllByRecursion (SoundArc n) ls → AllByRecursion (Valid h) ls → AllByRecursion (Spent h v) ls → AllByRecursion (λ l. 0 < residual v l → h v ≤ h (other v l)) ls
level n v h [] s st sp = tt
level n v h (l ∷ ls) s st sp = (
  (λ z. ⊎_elim
      (λ (w : Leaves v l).
      let a : h l.line.from ≡ h v = ap h w.here in
      let b : h (other v l) ≡ h l.line.to = ap h w.end in
      let c = st.0.on (omega (arith, w.room)) in
      omega (arith, sp.0 z))
      (λ (o : Enters v l ⊎ Apart v l). ⊎_elim
      (λ (w : Enters v l).
      let a : h l.line.to ≡ h v = ap h w.here in
      let b : h (other v l) ≡ h l.line.from = ap h w.end in
      let c = st.0.back (omega (arith, w.room)) in
      omega (arith, sp.0 z))
      (λ (w : Apart v l). absurd (omega (arith, w.room)))
      o)
      (lies n v l s.0)),
  level n v h ls s.1 st.1 sp.1,
)

-- a relabel keeps the labels valid
relabel_valid : (n v x : ℕ) (rs : List Row) (ls : List Arc) → length rs ≡ n → v < n → AllByRecursion (SoundArc n) ls → AllByRecursion (Valid (lab rs)) ls →
    lab rs v ≤ x → AllByRecursion (λ l. 0 < residual v l → x ≤ lab rs (other v l) + 1) ls → AllByRecursion (Valid (lab (labelled v x rs))) ls
relabel_valid n v x rs [] e k s st up' low = tt
relabel_valid n v x rs (l ∷ ls) e k s st up' low =
    let h' : lab (labelled v x rs) v ≡ x = lab_labelled rs v x (omega arith) in (
      ⊎_elim
          (λ (w : Leaves v l).
          let a : lab (labelled v x rs) l.line.from ≡ x = ap (lab (labelled v x rs)) w.here ∙ h' in
          let a' : lab rs l.line.from ≡ lab rs v = ap (lab rs) w.here in
          let b : lab (labelled v x rs) l.line.to ≡ lab rs l.line.to = lab_labelled_other rs v x l.line.to w.far in
          let c : lab rs (other v l) ≡ lab rs l.line.to = ap (lab rs) w.end in
          record {
            on = λ q. omega (arith, low.0 (omega (arith, w.room)));
            back = λ q. omega (arith, st.0.back q);
          })
          (λ (o : Enters v l ⊎ Apart v l). ⊎_elim
          (λ (w : Enters v l).
          let a : lab (labelled v x rs) l.line.to ≡ x = ap (lab (labelled v x rs)) w.here ∙ h' in
          let a' : lab rs l.line.to ≡ lab rs v = ap (lab rs) w.here in
          let b : lab (labelled v x rs) l.line.from ≡ lab rs l.line.from = lab_labelled_other rs v x l.line.from w.far in
          let c : lab rs (other v l) ≡ lab rs l.line.from = ap (lab rs) w.end in
          record {
            on = λ q. omega (arith, st.0.on q);
            back = λ q. omega (arith, low.0 (omega (arith, w.room)));
          })
          (λ (w : Apart v l).
          let a = lab_labelled_other rs v x l.line.from w.here in
          let b = lab_labelled_other rs v x l.line.to w.far in
          record { on = λ q. omega (arith, st.0.on q); back = λ q. omega (arith, st.0.back q) })
          o)
          (lies n v l s.0),
      relabel_valid n v x rs ls e k s.1 st.1 up' low.1,
    )

-- a scan keeps what holds
pub scan_holds : (n s t : ℕ) (ms ls : List Arc) (rs : List Row) (v : ℕ) → Holds n s t ms ls rs → Active n s t rs v → Holds n s t ms (scan_arcs v ls rs) (scan_rows v ls rs)
scan_holds n s t ms ls rs v h w =
    let st = h.standing in
    let rs' = scan_rows v ls rs in
    let ls' = scan_arcs v ls rs in
    let e : (x : ℕ) → lab rs x ≡ lab rs' x = λ x. sym (swept_lab v (amount v) ls rs x) in
    let sc = swept_given v (amount v) n ls rs st.size w.inside st.lines in
    record {
      standing = record {
        lines = swept_sound v (amount v) (amount_fits v) n ls rs st.lines;
        size = swept_length v (amount v) ls rs ∙ st.size;
        start_in = st.start_in;
        goal_in = st.goal_in;
        start_label = swept_lab v (amount v) ls rs s ∙ st.start_label;
        goal_label = swept_lab v (amount v) ls rs t ∙ st.goal_label;
        valid = scan_valid n v (lab rs') ls rs e st.lines (valid_like (lab rs) (lab rs') e ls st.valid);
      };
      balanced = h.balanced;
      alike = swept_lines v (amount v) ls rs ∙ h.alike;
      truth = λ u k. omega (arith, ints, swept_balance v (amount v) (amount_fits v) n ls rs st.size w.inside st.lines u, h.truth u k);
      off = λ u k p q. ⊎_elim
          (λ (z : u ≡ v). let a : pos 0 ≤ℤ exc rs v = rw z at (h.off u k p q) in rw z (scan_kept n v ls rs st.size w.inside st.lines a))
          (λ (z : u ≡ v → ⊥). omega (arith, ints, sc.more u z, h.off u k p q))
          (cases_eq u v);
      roof = λ u k. omega (arith, e u, h.roof u k);
    }

-- no more goes out than comes in, off the start and the goal
pub in_hand : (n s t : ℕ) (ms ls : List Arc) (rs : List Row) → Holds n s t ms ls rs → (u : ℕ) → u < n → (u ≡ s → ⊥) → (u ≡ t → ⊥) → gone ls u ≤ come ls u
in_hand n s t ms ls rs h u k p q = omega (arith, ints, h.truth u k, h.off u k p q)

-- a relabel to x, above the old label and at most 1 + each label in reach, keeps what holds
relabel_holds : (n s t : ℕ) (ms ls : List Arc) (rs : List Row) (v x : ℕ) → Holds n s t ms ls rs → Active n s t rs v → lab rs v ≤ x →
    AllByRecursion (λ l. 0 < residual v l → x ≤ lab rs (other v l) + 1) ls → Holds n s t ms ls (labelled v x rs)
relabel_holds n s t ms ls rs v x h w up' low =
    let st = h.standing in
    let rs' = labelled v x rs in
    let st' : Standing n s t ls rs' = record {
      lines = st.lines;
      size = length_labelled rs v x ∙ st.size;
      start_in = st.start_in;
      goal_in = st.goal_in;
      start_label = lab_labelled_other rs v x s (λ z. w.no_start (sym z)) ∙ st.start_label;
      goal_label = lab_labelled_other rs v x t (λ z. w.no_goal (sym z)) ∙ st.goal_label;
      valid = relabel_valid n v x rs ls st.size w.inside st.lines st.valid up' low;
    } in
    record {
      standing = st';
      balanced = h.balanced;
      alike = h.alike;
      truth = λ u k. rw (exc_labelled rs v x u) (h.truth u k);
      off = λ u k p q. rw (exc_labelled rs v x u) (h.off u k p q);
      roof = λ u k. ⊎_elim
          (λ (z : u ≡ v).
          let b : lab rs' v < 2 * n =
          labels_bounded n s t ls ms rs' st' h.balanced h.alike (in_hand n s t ms ls rs h) v w.inside w.no_start w.no_goal
          (omega (arith, ints, h.truth v w.inside, w.some, one_sided (exc rs v))) in
          rw z b)
          (λ (z : u ≡ v → ⊥). omega (arith, lab_labelled_other rs v x u z, h.roof u k))
          (cases_eq u v);
    }

-- a discharge with excess left, and one without
pub discharge_left : (n v : ℕ) (ls : List Arc) (rs : List Row) → 0 < up (exc (scan_rows v ls rs) v) →
    discharged_rows n v ls rs ≡ relabelled n v (scan_arcs v ls rs) (scan_rows v ls rs)
unfolding discharged_rows
discharge_left n v ls rs q = rw (lt-ltb 0 (up (exc (scan_rows v ls rs) v)) q)

pub discharge_done : (n v : ℕ) (ls : List Arc) (rs : List Row) → up (exc (scan_rows v ls rs) v) ≤ 0 → discharged_rows n v ls rs ≡ scan_rows v ls rs
unfolding discharged_rows
discharge_done n v ls rs q = rw (le-ltb 0 (up (exc (scan_rows v ls rs) v)) q)

-- after a scan that leaves excess: no push is possible, no label in reach is below v's own, and the new label is above it
pub record Stuck (n v : ℕ) (ls : List Arc) (rs : List Row) : Type 0 where
  pub spent : AllByRecursion (Spent (lab rs) v) ls
  pub higher : lab rs v ≤ lowest v ls rs (2 * n)

pub stuck : (n s t : ℕ) (ms ls : List Arc) (rs : List Row) (v : ℕ) → Holds n s t ms ls rs → Active n s t rs v → 0 < up (exc (scan_rows v ls rs) v) →
    Stuck n v (scan_arcs v ls rs) (scan_rows v ls rs)
stuck n s t ms ls rs v h w q =
    let st = h.standing in
    let ls₁ = scan_arcs v ls rs in
    let rs₁ = scan_rows v ls rs in
    let h₁ = scan_holds n s t ms ls rs v h w in
    let sp = scan_spent n v (lab rs₁) ls rs (λ x. sym (swept_lab v (amount v) ls rs x)) st.size w.inside st.lines q in
    let lv = level n v (lab rs₁) ls₁ h₁.standing.lines h₁.standing.valid sp in
    record { spent = sp; higher = lowest_ge v (2 * n) (lab rs₁ v) ls₁ rs₁ (omega (arith, h₁.roof v w.inside)) lv }

-- a discharge of an active junction
pub kept : (n s t : ℕ) (ms ls : List Arc) (rs : List Row) (v : ℕ) → Holds n s t ms ls rs → Active n s t rs v →
    Kept n s t ms rs v (scan_arcs v ls rs) (discharged_rows n v ls rs)
kept n s t ms ls rs v h w =
    let st = h.standing in
    let ls₁ = scan_arcs v ls rs in
    let rs₁ = scan_rows v ls rs in
    let h₁ = scan_holds n s t ms ls rs v h w in
    let st₁ = h₁.standing in
    let sc = swept_given v (amount v) n ls rs st.size w.inside st.lines in
    let e = swept_lab v (amount v) ls rs in
    ⊎_elim
    (λ (q : 0 < up (exc rs₁ v)).
    let w₁ : Active n s t rs₁ v = record { inside = w.inside; no_start = w.no_start; no_goal = w.no_goal; some = q } in
    let x = lowest v ls₁ rs₁ (2 * n) in
    let lo : lab rs₁ v ≤ x = (stuck n s t ms ls rs v h w q).higher in
    let rs₂ = labelled v (x + 1) rs₁ in
    let near = All-weaker (λ l. 0 < residual v l → x ≤ lab rs₁ (other v l)) (λ l. 0 < residual v l → x + 1 ≤ lab rs₁ (other v l) + 1) (λ l f z. omega (arith, f z)) ls₁ (lowest_le v (2 * n) ls₁ rs₁) in
    let z = lab_labelled rs₁ v (x + 1) (omega (arith, st₁.size, w.inside)) in
    let k : Kept n s t ms rs v ls₁ rs₂ = record {
      holds = relabel_holds n s t ms ls₁ rs₁ v (x + 1) h₁ w₁ (omega arith) near;
      goal = omega (arith, ints, exc_labelled rs₁ v (x + 1) t, sc.more t (λ y. w.no_goal (sym y)));
      labels = λ u y. lab_labelled_other rs₁ v (x + 1) u y ∙ e u;
      raised = λ y. omega (arith, e v);
      stays = λ y. absurd (omega (arith, ap up (exc_labelled rs₁ v (x + 1) v)));
    } in
    rw (discharge_left n v ls rs q) k)
    (λ (q : up (exc rs₁ v) ≤ 0).
    let k : Kept n s t ms rs v ls₁ rs₁ = record {
      holds = h₁;
      goal = sc.more t (λ y. w.no_goal (sym y));
      labels = λ u y. e u;
      raised = λ y. absurd (omega arith);
      stays = λ y. e v;
    } in
    rw (discharge_done n v ls rs q) k)
    (cases_lt 0 (up (exc rs₁ v)))

pub discharge_keeps : DischargeKeeps
discharge_keeps n s t ms ls rs v h on = kept n s t ms ls rs v h (active_true n s t rs v h.standing.size on)

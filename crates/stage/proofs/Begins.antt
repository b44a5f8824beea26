-- A stage begins as it should.
use Rattle.std.proofs.Common.{◌≡◌, ℕ, zero, suc, ◌-◌, ◌<◌, ◌≤◌, ◌⊎◌, List, [], ◌∷◌, length, get_or, pos, ◌+ℤ◌, sym, refl, ap, ◌∙◌, ⊎_elim, arith}
use Rattle.std.specs.List.{AllByRecursion}
use Rattle.std.proofs.lemmas.Int.{ints}
use Rattle.std.proofs.lemmas.List.{length-append, ext_get_or, get_or_append_left, get_or-append_right}
use Rattle.std.proofs.lemmas.Bool.{cases_eq, eq-eqb, ne_eqb}
use Rattle.plant.specs.Held.{Arc}
use Rattle.stage.specs.declared.Row.{Row}
use Rattle.stage.specs.Model.{row0, exc, lab, sent, whole, begun_arcs, begun_rows, listed, first_row, first_rows, come, gone}
use Rattle.plant.specs.Held.{residual, other}
use Rattle.stage.specs.States.{SoundArc, Valid}
use Rattle.stage.specs.Laws.{BeginningHolds}
use Rattle.stage.proofs.Ends.{Leaves, Enters, Apart, lies}
use Rattle.stage.proofs.Sweeps.{swept_lines, swept_length, swept_lab, swept_sound, swept_balance, swept_given}

-- a list of the values of f
pub length_listed : {A : Type 0} (n : ℕ) (f : ℕ → A) → length (listed n f) ≡ n
length_listed zero f = refl
length_listed (suc n) f = length-append (listed n f) (f n ∷ []) ∙ omega (arith, length_listed n f)

pub get_d_listed : {A : Type 0} (n : ℕ) (f : ℕ → A) (u : ℕ) (d : A) → u < n → get_or (listed n f) u d ≡ f u
get_d_listed zero f u d h = absurd (omega arith)
get_d_listed (suc n) f u d h =
    let e = length_listed n f in
    ⊎_elim
    (λ (q : u ≡ n).
    let z : u - n ≡ 0 = omega arith in
    get_or-append_right (listed n f) (f n ∷ []) n u d e (omega arith) ∙ rw z (ap f (sym q)))
    (λ (q : u ≡ n → ⊥). get_or_append_left (listed n f) (f n ∷ []) d u (omega arith) ∙ get_d_listed n f u d (omega arith))
    (cases_eq u n)

-- rows are the first rows if each is
pub rows_first : (n s : ℕ) (ls : List Arc) (rs : List Row) → length rs ≡ n → ((u : ℕ) → u < n → get_or rs u row0 ≡ first_row n s ls u) → rs ≡ first_rows n s ls
rows_first n s ls rs e h =
    ext_get_or row0 rs (first_rows n s ls) (e ∙ sym (length_listed n (first_row n s ls)))
    (λ u k. h u (omega arith) ∙ sym (get_d_listed n (first_row n s ls) u row0 (omega arith)))

-- what the first rows say
pub record First (n s : ℕ) (ls : List Arc) (rs : List Row) : Type 0 where
  pub size : length rs ≡ n
  pub start_label : s < n → lab rs s ≡ n
  pub other_label : (u : ℕ) → u < n → (u ≡ s → ⊥) → lab rs u ≡ 0
  pub truth : (u : ℕ) → u < n → exc rs u +ℤ pos (gone ls u) ≡ pos (come ls u)

pub first : (n s : ℕ) (ls : List Arc) → First n s ls (first_rows n s ls)
first n s ls =
    let f = first_row n s ls in
    let at : (u : ℕ) → u < n → get_or (first_rows n s ls) u row0 ≡ f u = λ u k. get_d_listed n f u row0 k in
    record {
      size = length_listed n f;
      start_label = λ k. ap (λ (r : Row). r.label) (at s k) ∙ rw (eq-eqb s s refl) refl;
      other_label = λ u k q. ap (λ (r : Row). r.label) (at u k) ∙ rw (ne_eqb u s q) refl;
      truth = λ u k. omega (arith, ints, ap (λ (r : Row). r.excess) (at u k));
    }

begun_valid : (n v : ℕ) (h : ℕ → ℕ) (ls : List Arc) (rs : List Row) → ((u : ℕ) → u < n → (u ≡ v → ⊥) → h u ≡ 0) → AllByRecursion (SoundArc n) ls → AllByRecursion (Valid h) (begun_arcs v ls rs)
begun_valid n v h [] rs z s = tt
begun_valid n v h (l ∷ ls) rs z s = (
  ⊎_elim
      (λ (w : Leaves v l). record {
        on = λ q. absurd (omega (arith, w.flows (residual v l), w.room, s.0.below));
        back = λ q. omega (arith, z l.line.to s.0.sound.to_in w.far);
      })
      (λ (o : Enters v l ⊎ Apart v l). ⊎_elim
      (λ (w : Enters v l). record {
        on = λ q. omega (arith, z l.line.from s.0.sound.from_in w.far);
        back = λ q. absurd (omega (arith, w.flows (residual v l), w.room, s.0.above));
      })
      (λ (w : Apart v l). record { on = λ q. omega (arith, z l.line.from s.0.sound.from_in w.here); back = λ q. omega (arith, z l.line.to s.0.sound.to_in w.far) })
      o)
      (lies n v l s.0),
  begun_valid n v h ls (sent v (other v l) (residual v l) rs) z s.1,
)

pub beginning_holds : BeginningHolds
beginning_holds n s t ls js jt differ bal =
    let rs = first_rows n s ls in
    let f = first n s ls in
    let rs' = begun_rows s ls rs in
    let fits : (l : Arc) (rs : List Row) → whole s l rs ≤ residual s l = λ l rs. omega arith in
    let e : (x : ℕ) → lab rs' x ≡ lab rs x = swept_lab s (whole s) ls rs in
    let z : (u : ℕ) → u < n → (u ≡ s → ⊥) → lab rs' u ≡ 0 = λ u k q. e u ∙ f.other_label u k q in
    record {
      standing = record {
        lines = swept_sound s (whole s) fits n ls rs bal.lines;
        size = swept_length s (whole s) ls rs ∙ f.size;
        start_in = js;
        goal_in = jt;
        start_label = e s ∙ f.start_label js;
        goal_label = z t jt (λ q. differ (sym q));
        valid = begun_valid n s (lab rs') ls rs z bal.lines;
      };
      balanced = bal;
      alike = swept_lines s (whole s) ls rs;
      truth = λ u k. omega (arith, ints, swept_balance s (whole s) fits n ls rs f.size js bal.lines u, f.truth u k);
      off = λ u k p q. omega (arith, ints, (swept_given s (whole s) n ls rs f.size js bal.lines).more u p, f.truth u k, bal.even u k p q);
      roof = λ u k. ⊎_elim
          (λ (y : u ≡ s). omega (arith, ap (lab rs') y, e s, f.start_label js))
          (λ (y : u ≡ s → ⊥). omega (arith, z u k y))
          (cases_eq u s);
    }

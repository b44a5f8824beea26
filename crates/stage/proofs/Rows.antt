-- What a change of a row leaves.
use Rattle.std.proofs.Common.{◌≡◌, ℕ, ◌<◌, ◌≤◌, ◌⊎◌, List, length, get_or, set, ℤ, pos, negsuc, ◌+ℤ◌, neg_ℤ, sym, refl, ap, ◌∙◌, inl, inr, ⊎_elim, arith}
use borrow.Author.Differences.{up, down}
use Rattle.std.proofs.lemmas.List.{length-set, get_or-set_same, get_or-set_other, set-get_or, set_past}
use Rattle.std.proofs.lemmas.Int.{ints}
use Rattle.std.proofs.lemmas.Bool.{cases_eq, cases_lt}
use Rattle.stage.specs.Model.{row0, exc, lab, grown, grow, sent, labelled}
use Rattle.stage.specs.declared.Row.{Row}

-- a number is not above zero and below it at once
pub one_sided : (z : ℤ) → (up z ≡ 0) ⊎ (down z ≡ 0)
one_sided (pos n) = inr refl
one_sided (negsuc n) = inl refl

-- a part of the rows that the new row has as the old one had it
kept_part : {A : Type 0} (f : Row → A) (rs : List Row) (u : ℕ) (r : Row) → f r ≡ f (get_or rs u row0) → (x : ℕ) → f (get_or (set rs u r) x row0) ≡ f (get_or rs x row0)
kept_part f rs u r e x =
    ⊎_elim
    (λ (q : x ≡ u). ⊎_elim
    (λ (h : u < length rs). rw q (ap f (get_or-set_same rs u r row0 h) ∙ e))
    (λ (h : length rs ≤ u). ap (λ (l : List Row). f (get_or l x row0)) (set_past rs u r h))
    (cases_lt u (length rs)))
    (λ (q : x ≡ u → ⊥). ap f (get_or-set_other rs u x r row0 q))
    (cases_eq x u)

module _ (rs : List Row) (u : ℕ) where
  lab_grow : (z : ℤ) (x : ℕ) → lab (grow u z rs) x ≡ lab rs x
  lab_grow z x = kept_part (λ r. r.label) rs u (grown z (get_or rs u row0)) refl x

  exc_grow : (z : ℤ) → u < length rs → exc (grow u z rs) u ≡ exc rs u +ℤ z
  exc_grow z h = ap (λ (r : Row). r.excess) (get_or-set_same rs u (grown z (get_or rs u row0)) row0 h)

  exc_grow_other : (z : ℤ) (x : ℕ) → (x ≡ u → ⊥) → exc (grow u z rs) x ≡ exc rs x
  exc_grow_other z x e = ap (λ (r : Row). r.excess) (get_or-set_other rs u x (grown z (get_or rs u row0)) row0 e)

  pub length_labelled : (h : ℕ) → length (labelled u h rs) ≡ length rs
  length_labelled h = length-set rs u (record { excess = exc rs u; label = h })

  pub lab_labelled : (h : ℕ) → u < length rs → lab (labelled u h rs) u ≡ h
  lab_labelled h k = ap (λ (r : Row). r.label) (get_or-set_same rs u (record { excess = exc rs u; label = h }) row0 k)

  pub lab_labelled_other : (h : ℕ) (x : ℕ) → (x ≡ u → ⊥) → lab (labelled u h rs) x ≡ lab rs x
  lab_labelled_other h x e = ap (λ (r : Row). r.label) (get_or-set_other rs u x (record { excess = exc rs u; label = h }) row0 e)

  pub exc_labelled : (h : ℕ) (x : ℕ) → exc (labelled u h rs) x ≡ exc rs x
  exc_labelled h x = kept_part (λ r. r.excess) rs u (record { excess = exc rs u; label = h }) refl x

module _ (v w d : ℕ) (rs : List Row) where
  pub length_sent : length (sent v w d rs) ≡ length rs
  unfolding sent
  length_sent =
      let rs' = grow v (neg_ℤ (pos d)) rs in
      length-set rs' w (grown (pos d) (get_or rs' w row0)) ∙ length-set rs v (grown (neg_ℤ (pos d)) (get_or rs v row0))

  pub lab_sent : (x : ℕ) → lab (sent v w d rs) x ≡ lab rs x
  unfolding sent
  lab_sent x = lab_grow (grow v (neg_ℤ (pos d)) rs) w (pos d) x ∙ lab_grow rs v (neg_ℤ (pos d)) x

  -- the excesses after d was sent from v to w
  pub record Sent : Type 0 where
    pub giver : exc (sent v w d rs) v ≡ exc rs v +ℤ neg_ℤ (pos d)
    pub taker : exc (sent v w d rs) w ≡ exc rs w +ℤ pos d
    pub rest : (u : ℕ) → (u ≡ v → ⊥) → (u ≡ w → ⊥) → exc (sent v w d rs) u ≡ exc rs u

  pub exc_sent : v < length rs → w < length rs → (w ≡ v → ⊥) → Sent
  unfolding sent
  exc_sent j k ne =
      let rs' = grow v (neg_ℤ (pos d)) rs in
      let k' : length rs' ≡ length rs = length-set rs v (grown (neg_ℤ (pos d)) (get_or rs v row0)) in
      record {
        giver = exc_grow_other rs' w (pos d) v (λ q. ne (sym q)) ∙ exc_grow rs v (neg_ℤ (pos d)) j;
        taker = exc_grow rs' w (pos d) (omega arith) ∙ ap (λ z. z +ℤ pos d) (exc_grow_other rs v (neg_ℤ (pos d)) w ne);
        rest = λ u p q. exc_grow_other rs' w (pos d) u q ∙ exc_grow_other rs v (neg_ℤ (pos d)) u p;
      }

pub sent_none : (v w : ℕ) (rs : List Row) → sent v w 0 rs ≡ rs
unfolding sent
sent_none v w rs = same w (pos 0) (grow v (neg_ℤ (pos 0)) rs) refl ∙ same v (neg_ℤ (pos 0)) rs refl
  where
    same : (u : ℕ) (z : ℤ) (rs : List Row) → z ≡ pos 0 → grow u z rs ≡ rs
    same u z rs e =
        let r = get_or rs u row0 in
        let f : r.excess +ℤ z ≡ r.excess = omega (arith, ints, e) in
        rw f (set-get_or rs u row0)

-- A stage on lists: lines with their flows, rows with excess and label, and what a discharge does.
use Rattle.std.specs.Prelude.{ℕ, zero, suc, ◌+◌, ◌*◌, min, Bool, cond, not, ◌&&◌, List, [], ◌∷◌, ◌++◌, ℤ, pos, ◌+ℤ◌, ◌-ℤ◌, neg_ℤ, ◌==◌, nat_lt, slice_index_or, slice_set}
use borrow.Author.Differences.{up}
use Rattle.plant.specs.Plants.{carried, leaves, ends}
use Rattle.plant.specs.Held.{Arc, lines_of, flows_of, residual, other, shift}
use Rattle.stage.specs.declared.Row.{Row}

-- stands for a row where there is none
abbrev pub row0 : Row
row0 = record { excess = pos 0; label = 0 }

-- the excess of u, and its label
abbrev pub exc : List Row → ℕ → ℤ
exc rs u = (slice_index_or rs u row0).excess

abbrev pub lab : List Row → ℕ → ℕ
lab rs u = (slice_index_or rs u row0).label

-- whether u has excess and is neither the start nor the goal
unfoldable pub active : ℕ → ℕ → List Row → ℕ → Bool
active s t rs u = nat_lt 0 (up (exc rs u)) && (not (u == s) && not (u == t))

-- what v pushes by l: as much as it can, if the labels fall by one
unfoldable pub amount : ℕ → Arc → List Row → ℕ
amount v l rs = cond (lab rs v == lab rs (other v l) + 1) (min (up (exc rs v)) (residual v l)) 0

-- a row with its excess grown by z, and rows with that of u grown
abbrev pub grown : ℤ → Row → Row
grown z r = record { excess = r.excess +ℤ z; label = r.label }

abbrev pub grow : ℕ → ℤ → List Row → List Row
grow u z rs = slice_set rs u (grown z (slice_index_or rs u row0))

-- rows with d sent from v to w
unfoldable pub sent : ℕ → ℕ → ℕ → List Row → List Row
sent v w d rs = grow w (pos d) (grow v (neg_ℤ (pos d)) rs)

-- lines and rows after v has sent by one line after another; d tells how much
abbrev pub swept_arcs : ℕ → (Arc → List Row → ℕ) → List Arc → List Row → List Arc
swept_arcs v d [] rs = []
swept_arcs v d (l ∷ ls) rs = shift v (d l rs) l ∷ swept_arcs v d ls (sent v (other v l) (d l rs) rs)

abbrev pub swept_rows : ℕ → (Arc → List Row → ℕ) → List Arc → List Row → List Row
swept_rows v d [] rs = rs
swept_rows v d (l ∷ ls) rs = swept_rows v d ls (sent v (other v l) (d l rs) rs)

-- rows after the push of v by l; lines and rows after the pushes of v by all lines
abbrev pub moved : ℕ → Arc → List Row → List Row
moved v l rs = sent v (other v l) (amount v l rs) rs

abbrev pub scan_arcs : ℕ → List Arc → List Row → List Arc
scan_arcs v ls rs = swept_arcs v (amount v) ls rs

abbrev pub scan_rows : ℕ → List Arc → List Row → List Row
scan_rows v ls rs = swept_rows v (amount v) ls rs

-- whether excess is left at v after the scan
abbrev pub unspent : ℕ → List Arc → List Row → Bool
unspent v ls rs = nat_lt 0 (up (exc (scan_rows v ls rs) v))

-- the smaller of m and the label that l leads to, if it has a residual
abbrev pub lower : ℕ → Arc → List Row → ℕ → ℕ
lower v l rs m = cond (nat_lt 0 (residual v l)) (min m (lab rs (other v l))) m

-- the smallest of m and the labels that residuals from v lead to
abbrev pub lowest : ℕ → List Arc → List Row → ℕ → ℕ
lowest v [] rs m = m
lowest v (l ∷ ls) rs m = lowest v ls rs (lower v l rs m)

-- rows with the label h at u
abbrev pub labelled : ℕ → ℕ → List Row → List Row
labelled u h rs = slice_set rs u (record { excess = exc rs u; label = h })

-- rows with v one above the smallest label that a residual from v leads to (no label is 2n)
abbrev pub relabelled : ℕ → ℕ → List Arc → List Row → List Row
relabelled n v ls rs = labelled v (lowest v ls rs (2 * n) + 1) rs

-- lines and rows after a discharge of v: the scan, and a relabel if excess is left
abbrev pub discharged_arcs : ℕ → List Arc → List Row → List Arc
discharged_arcs v ls rs = scan_arcs v ls rs

unfoldable pub discharged_rows : ℕ → ℕ → List Arc → List Row → List Row
discharged_rows n v ls rs = cond (unspent v ls rs) (relabelled n v (scan_arcs v ls rs) (scan_rows v ls rs)) (scan_rows v ls rs)

-- what comes into u, and what goes out of it
abbrev pub come : List Arc → ℕ → ℕ
come ls u = carried (ends u) (lines_of ls) (flows_of ls)

abbrev pub gone : List Arc → ℕ → ℕ
gone ls u = carried (leaves u) (lines_of ls) (flows_of ls)

-- the first row of u: what comes in less what goes out, and label n at the start and 0 elsewhere
abbrev pub first_row : ℕ → ℕ → List Arc → ℕ → Row
first_row n s ls u = record { excess = pos (come ls u) -ℤ pos (gone ls u); label = cond (u == s) n 0 }

-- the values of f at the numbers below n
abbrev pub listed : {A : Type 0} → ℕ → (ℕ → A) → List A
listed zero f = []
listed (suc n) f = listed n f ++ f n ∷ []

abbrev pub first_rows : ℕ → ℕ → List Arc → List Row
first_rows n s ls = listed n (first_row n s ls)

-- the beginning: the start s sends the whole of every residual
abbrev pub whole : ℕ → Arc → List Row → ℕ
whole s l rs = residual s l

abbrev pub begun_arcs : ℕ → List Arc → List Row → List Arc
begun_arcs s ls rs = swept_arcs s (whole s) ls rs

abbrev pub begun_rows : ℕ → List Arc → List Row → List Row
begun_rows s ls rs = swept_rows s (whole s) ls rs

-- a state of a stage
pub record State : Type 0 where
  pub arcs : List Arc
  pub rows : List Row

-- the state after the beginning over n junctions, and the state after a discharge of v
abbrev pub begun : ℕ → ℕ → List Arc → State
begun n s ls = record { arcs = begun_arcs s ls (first_rows n s ls); rows = begun_rows s ls (first_rows n s ls) }

abbrev pub discharged : ℕ → ℕ → State → State
discharged n v st = record { arcs = discharged_arcs v st.arcs st.rows; rows = discharged_rows n v st.arcs st.rows }

-- a junction with its label, if b
abbrev pub put_if : Bool → ℕ → ℕ → List (ℕ × ℕ)
put_if b u h = cond b ((u, h) ∷ []) []

-- whether the push of v by l makes its other end active
unfoldable pub wakes : ℕ → ℕ → ℕ → Arc → List Row → Bool
wakes s t v l rs = active s t (moved v l rs) (other v l) && not (active s t rs (other v l))

-- the junctions that become active while v is scanned, with their labels
abbrev pub scan_puts : ℕ → ℕ → ℕ → List Arc → List Row → List (ℕ × ℕ)
scan_puts s t v [] rs = []
scan_puts s t v (l ∷ ls) rs = put_if (wakes s t v l rs) (other v l) (lab rs (other v l)) ++ scan_puts s t v ls (moved v l rs)

-- those, and then v with its new label if excess is left
abbrev pub discharge_puts : ℕ → ℕ → ℕ → ℕ → List Arc → List Row → List (ℕ × ℕ)
discharge_puts n s t v ls rs = scan_puts s t v ls rs ++ put_if (unspent v ls rs) v (lab (discharged_rows n v ls rs) v)

-- the active junctions below n in rising order, with their labels
abbrev pub begin_puts : ℕ → ℕ → ℕ → List Row → List (ℕ × ℕ)
begin_puts zero s t rs = []
begin_puts (suc n) s t rs = begin_puts n s t rs ++ put_if (active s t rs n) n (lab rs n)

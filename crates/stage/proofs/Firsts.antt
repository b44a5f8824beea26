-- The first rows, line by line: a line sends its flow from its one end to the other.
use Rattle.std.proofs.Common.{◌≡◌, ℕ, zero, suc, ◌+◌, ◌<◌, ◌≤◌, Bool, cond, List, [], ◌∷◌, ◌++◌, length, get_or, take, ℤ, sym, ap, ◌∙◌, arith}
use Rattle.std.specs.List.{AllByRecursion}
use Rattle.std.proofs.ByRecursion.{All-take}
use Rattle.std.proofs.lemmas.List.{take_more}
use Rattle.std.proofs.lemmas.Int.{ints}
use Rattle.plant.specs.Plants.{summed, every, high_of, leaves, ends}
use Rattle.plant.specs.Held.{Arc, lines_of}
use Rattle.plant.specs.declared.line.Line.{Line}
use Rattle.stage.specs.declared.Row.{Row}
use Rattle.stage.specs.Model.{row0, sent, first_row, first_rows}
use Rattle.stage.specs.States.{SoundArc, Bounded}
use Rattle.stage.proofs.Cuts.{carries}
use Rattle.stage.proofs.Rows.{length_sent, lab_sent}
use Rattle.stage.proofs.Sweeps.{sent_at}
use Rattle.stage.proofs.Begins.{first, get_d_listed, rows_first}
use Rattle.stage.proofs.Bounds.{true_bounded}

carries_push : (p : Line → Bool) (ls : List Arc) (x : Arc) → carries p (ls ++ x ∷ []) ≡ carries p ls + cond (p x.line) x.flow 0
carries_push p [] x = omega arith
carries_push p (l ∷ ls) x = omega (arith, carries_push p ls x)

abbrev row : ℤ → ℕ → Row
row e h = record { excess = e; label = h }

same_row : (r q : Row) → r.excess ≡ q.excess → r.label ≡ q.label → r ≡ q
same_row r q e f = ap (λ z. row z r.label) e ∙ ap (row q.excess) f

-- one line more, x at place k
pub first_more : (n s k : ℕ) (ls : List Arc) (x : Arc) → k < length ls → get_or ls k x ≡ x → SoundArc n x →
    sent x.line.from x.line.to x.flow (first_rows n s (take k ls)) ≡ first_rows n s (take (k + 1) ls)
first_more n s k ls x j here sx =
    let xs = take k ls in
    let rs = first_rows n s xs in
    let a = x.line.from in
    let b = x.line.to in
    let f = first n s xs in
    let tm : take (k + 1) ls ≡ xs ++ x ∷ [] = take_more ls k x j ∙ ap (λ y. xs ++ y ∷ []) here in
    let at : (u : ℕ) → u < n → get_or (sent a b x.flow rs) u row0 ≡ first_row n s (xs ++ x ∷ []) u = λ u i.
    let m = sent_at a b x.flow rs (omega (arith, f.size, sx.sound.from_in)) (omega (arith, f.size, sx.sound.to_in)) (λ q. sx.sound.apart (sym q)) u in
    same_row (get_or (sent a b x.flow rs) u row0) (first_row n s (xs ++ x ∷ []) u)
    (omega (arith, ints, m, f.truth u i, carries_push (ends u) xs x, carries_push (leaves u) xs x))
    (lab_sent a b x.flow rs u ∙ ap (λ (r : Row). r.label) (get_d_listed n (first_row n s xs) u row0 i)) in
    rw tm (rows_first n s (xs ++ x ∷ []) (sent a b x.flow rs) (length_sent a b x.flow rs ∙ f.size) at)

summed_take : (p : Line → Bool) (g : Line → ℕ) (k : ℕ) (ls : List Arc) → summed p g (lines_of (take k ls)) ≤ summed p g (lines_of ls)
summed_take p g zero ls = omega arith
summed_take p g (suc k) [] = omega arith
summed_take p g (suc k) (l ∷ ls) = omega (arith, summed_take p g k ls)

-- the rows so far are bounded as all are
pub first_bounded : (n s k : ℕ) (ls : List Arc) → AllByRecursion (SoundArc n) ls → Bounded (summed every high_of (lines_of ls)) (first_rows n s (take k ls))
first_bounded n s k ls sound u =
    let f = first n s (take k ls) in
    let b = true_bounded n (take k ls) (first_rows n s (take k ls)) f.size (All-take (SoundArc n) k ls sound) f.truth u in
    let m = summed_take every high_of k ls in
    (omega (arith, ints, b.0, m), omega (arith, ints, b.1, m))

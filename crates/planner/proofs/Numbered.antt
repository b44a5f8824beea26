-- The numbers of the lines that lead out of a set, line by line.
use Rattle.std.proofs.Common.{◌≡◌, ℕ, suc, ◌+◌, ◌<◌, ◌≤◌, Bool, true, false, cond, List, [], ◌∷◌, ◌++◌, length, get_or, take, sym, ap, ◌∙◌, arith}
use Rattle.plant.specs.declared.line.Line.{Line}
use Rattle.plant.specs.Plants.{Junctions, crossing, leads_out, no_line}
use Rattle.std.proofs.lemmas.List.{append-nil, length_push, length-take-le, take_more}

one_more : (S : Junctions) (k k' : ℕ) (l : Line) → k ≡ k' → cond (leads_out S l) (k ∷ []) [] ≡ cond (leads_out S l) (k' ∷ []) []
one_more S k k' l e = ap (λ (i : ℕ). cond (leads_out S l) (i ∷ []) []) e

past_one : (b : Bool) (j : ℕ) (xs ys zs : List ℕ) → xs ≡ ys ++ zs → cond b (j ∷ xs) xs ≡ cond b (j ∷ ys) ys ++ zs
past_one true j xs ys zs e = ap (λ (ws : List ℕ). j ∷ ws) e
past_one false j xs ys zs e = e

-- one line more at the end
crossing_push : (S : Junctions) (j : ℕ) (ls : List Line) (l : Line) → crossing S j (ls ++ l ∷ []) ≡ crossing S j ls ++ cond (leads_out S l) ((j + length ls) ∷ []) []
crossing_push S j [] l = one_more S j (j + 0) l (omega arith)
crossing_push S j (x ∷ ls) l =
    past_one (leads_out S x) j (crossing S (j + 1) (ls ++ l ∷ [])) (crossing S (j + 1) ls) (cond (leads_out S l) ((j + suc (length ls)) ∷ []) [])
    (crossing_push S (j + 1) ls l ∙ ap (λ (xs : List ℕ). crossing S (j + 1) ls ++ xs) (one_more S (j + 1 + length ls) (j + suc (length ls)) l (omega arith)))

crossing_more : (S : Junctions) (ls : List Line) (k : ℕ) → k < length ls
    → crossing S 0 (take (k + 1) ls) ≡ crossing S 0 (take k ls) ++ cond (leads_out S (get_or ls k no_line)) (k ∷ []) []
crossing_more S ls k h =
    ap (crossing S 0) (take_more ls k no_line h) ∙ crossing_push S 0 (take k ls) (get_or ls k no_line)
    ∙ ap (λ (xs : List ℕ). crossing S 0 (take k ls) ++ xs)
    (one_more S (0 + length (take k ls)) k (get_or ls k no_line) (omega (arith, length-take-le k ls (omega arith))))

-- the numbers of the lines before k
abbrev pub Numbered : Junctions → List Line → ℕ → List ℕ → Type 0
Numbered S ls k numbers = (numbers ≡ crossing S 0 (take k ls)) × (length numbers ≤ k)

pub numbered_then : (S : Junctions) (ls : List Line) (k : ℕ) (numbers numbers' : List ℕ) → k < length ls
    → leads_out S (get_or ls k no_line) ≡ true → Numbered S ls k numbers → numbers' ≡ numbers ++ k ∷ [] → Numbered S ls (k + 1) numbers'
numbered_then S ls k numbers numbers' h e n ne =
    let more : crossing S 0 (take (k + 1) ls) ≡ crossing S 0 (take k ls) ++ k ∷ [] =
    crossing_more S ls k h ∙ ap (λ (b : Bool). crossing S 0 (take k ls) ++ cond b (k ∷ []) []) e in
    (ne ∙ ap (λ (xs : List ℕ). xs ++ k ∷ []) n.0 ∙ sym more, omega (arith, ap length ne, length_push numbers k, n.1))

pub numbered_else : (S : Junctions) (ls : List Line) (k : ℕ) (numbers numbers' : List ℕ) → k < length ls
    → leads_out S (get_or ls k no_line) ≡ false → Numbered S ls k numbers → numbers' ≡ numbers → Numbered S ls (k + 1) numbers'
numbered_else S ls k numbers numbers' h e n ne =
    let more : crossing S 0 (take (k + 1) ls) ≡ crossing S 0 (take k ls) =
    crossing_more S ls k h ∙ ap (λ (b : Bool). crossing S 0 (take k ls) ++ cond b (k ∷ []) []) e ∙ append-nil (crossing S 0 (take k ls)) in
    (ne ∙ n.0 ∙ sym more, omega (arith, ap length ne, n.1))

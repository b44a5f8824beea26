-- A listing has at most 16,384 bytes.
use Rattle.std.proofs.Common.{◌≡◌, ℕ, zero, suc, ◌+◌, ◌*◌, ◌^◌, ◌<◌, ◌≤◌, Bool, true, false, List, ◌++◌, length, get_or, Some, None, codes, decimal, Option, refl, mul-suc, arith, length-append}
use Rattle.std.proofs.lemmas.Fmt.{length-decimal-le}
use Rattle.plant.specs.declared.aim.Aim.{Aim}
use Rattle.plant.specs.declared.aim.Aim.TheVariants.{Greatest, Least}
use Rattle.text.specs.declared.sheets.Tried.{Tried}
use Rattle.text.specs.Text.{each_below, newline, flow_row, marked, member, members, cut_row, total_text, trial_row, head_row, nothing, declined_text, flow_rows, flow_text, hurdle_text, trial_rows, Sized, SmallFlows, SmallTrials}

below : (f : ℕ → List ℕ) (w n : ℕ) → ((i : ℕ) → i < n → length (f i) ≤ w) → length (each_below n f) ≤ w * n
below f w zero h = omega arith
below f w (suc n) h =
    let a = below f w n (λ i lt. h i (omega arith)) in
    let b = h n (omega arith) in
    let l = length-append (each_below n f) (f n) in
    let m : w * suc n ≡ w * n + w = mul-suc w n in
    omega arith

row_room : (i x : ℕ) → i < 1000 → x ≤ 1000000 → length (flow_row i x) ≤ 12
row_room i x a b =
    let p = length-decimal-le 3 i (omega arith) (omega arith) (omega arith) in
    let q = length-decimal-le 7 x (omega arith) (omega arith) (omega arith) in
    simp length-append (omega arith)

marked_room : (b : Bool) (v : ℕ) → v < 250 → length (marked b v) ≤ 4
marked_room true v h = let p = length-decimal-le 3 v (omega arith) (omega arith) (omega arith) in omega arith
marked_room false v h = omega arith

total_room : (o : Option ℕ) → ((x : ℕ) → o ≡ Some x → x < 2 ^ 32) → length (total_text o) ≤ 10
total_room None h = omega arith
total_room (Some x) h = length-decimal-le 10 x (omega arith) (let l = h x refl in omega arith) (let l = h x refl in omega arith)

trial_room : (t : Tried) → Sized t → length (trial_row t) ≤ 23
trial_room t h =
    let p = length-decimal-le 5 t.line (omega arith) (let l = h.0 in omega arith) (let l = h.0 in omega arith) in
    let q = total_room t.total h.1 in
    simp length-append (omega arith)

head_room : (a : Aim) (x : ℕ) → x < 2 ^ 32 → length (head_row a x) ≤ 20
head_room Greatest x h = let p = length-decimal-le 10 x (omega arith) (omega arith) (omega arith) in simp length-append (omega arith)
head_room Least x h = let p = length-decimal-le 10 x (omega arith) (omega arith) (omega arith) in simp length-append (omega arith)

rows_room : (ts : List Tried) → SmallTrials ts → length (trial_rows ts) ≤ 1472
rows_room ts h =
    let few = h.0 in
    let g = below (λ i. trial_row (get_or ts i nothing)) 23 (length ts) (λ i lt. trial_room (get_or ts i nothing) (h.1 i lt)) in
    omega arith

cut_room : (name : List ℕ) (set : List Bool) → length name ≤ 6 → length set ≤ 250 → length (cut_row name set) ≤ 1007
cut_room name set few n =
    let d = below (member set) 4 (length set) (λ v lt. marked_room (get_or set v false) v (omega arith)) in
    let l0 = length-append name (members set ++ newline) in
    let l1 = length-append (members set) newline in
    omega arith

flows_room : (fs : List ℕ) → SmallFlows fs → length (flow_rows fs) ≤ 12000
flows_room fs h =
    let lines = h.0 in
    let b = below (λ i. flow_row i (get_or fs i 0)) 12 (length fs) (λ i lt. row_room i (get_or fs i 0) (omega arith) (h.1 i lt)) in
    omega arith

pub flow_short : (aim : Aim) (total : ℕ) (fs : List ℕ) (near far : List Bool) (ts : List Tried) → total < 2 ^ 32 → SmallFlows fs → length near ≤ 250 → length far ≤ 250 → SmallTrials ts → length (flow_text aim total fs near far ts) ≤ 16384
flow_short aim total fs near far ts t f n m s =
    let one = cut_row (codes "NEAR") near in
    let two = cut_row (codes "FAR") far in
    let l0 = length-append (head_row aim total) (flow_rows fs ++ (one ++ (two ++ trial_rows ts))) in
    let l1 = length-append (flow_rows fs) (one ++ (two ++ trial_rows ts)) in
    let l2 = length-append one (two ++ trial_rows ts) in
    let l3 = length-append two (trial_rows ts) in
    -- 20 + 12000 + 1007 + 1007 + 1472
    omega (arith, head_room aim total t, flows_room fs f, cut_room (codes "NEAR") near (omega arith) n, cut_room (codes "FAR") far (omega arith) m, rows_room ts s)

pub hurdle_short : (shortfall : ℕ) (hurdle : List Bool) (ts : List Tried) → shortfall < 2 ^ 32 → length hurdle ≤ 250 → SmallTrials ts → length (hurdle_text shortfall hurdle ts) ≤ 16384
hurdle_short x hurdle ts t n s =
    let first = codes "IMPOSSIBLE " ++ (decimal x ++ newline) in
    let one = cut_row (codes "HURDLE") hurdle in
    let l0 = length-append first (one ++ trial_rows ts) in
    let l1 = length-append (decimal x) newline in
    let l2 = length-append one (trial_rows ts) in
    -- 22 + 1007 + 1472
    omega (arith, length-decimal-le 10 x (omega arith) (omega arith) (omega arith), cut_room (codes "HURDLE") hurdle (omega arith) n, rows_room ts s)

-- a number of one byte has three digits at most
pub declined_short : (n : ℕ) → n < 256 → length (declined_text n) ≤ 13
declined_short n h = omega (arith, length-append (decimal n) newline, length-decimal-le 3 n (omega arith) (omega arith) (omega arith))

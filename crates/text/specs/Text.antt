-- The listing, byte by byte.
use Rattle.std.specs.Prelude.{◌≡◌, ℕ, zero, suc, ◌^◌, ◌<◌, ◌≤◌, Bool, false, cond, List, [], ◌∷◌, ◌++◌, length, Some, None, codes, decimal, Option, slice_index, slice_index_or}
use Rattle.plant.specs.declared.aim.Aim.{Aim}
use Rattle.plant.specs.declared.aim.Aim.TheVariants.{Greatest, Least}
use Rattle.text.specs.declared.sheets.Tried.{Tried}

-- f 0, f 1 and so on, n of them, one after another
abbrev pub each_below : ℕ → (ℕ → List ℕ) → List ℕ
each_below zero f = []
each_below (suc n) f = each_below n f ++ f n

-- the rows of a list, each by its place, one after another; d stands where there is no item
abbrev pub rows_of : {A : Type 0} → (ℕ → A → List ℕ) → List A → A → List ℕ
rows_of f xs d = each_below (length xs) (λ i. f i (slice_index_or xs i d))

abbrev pub blank : List ℕ
blank = 32 ∷ []

abbrev pub newline : List ℕ
newline = 10 ∷ []

-- "0 5"
abbrev pub flow_row : ℕ → ℕ → List ℕ
flow_row i x = decimal i ++ (blank ++ (decimal x ++ newline))

-- " 2" for a junction that is in a set
abbrev pub marked : Bool → ℕ → List ℕ
marked b v = cond b (blank ++ decimal v) []

abbrev pub member : List Bool → ℕ → List ℕ
member set v = marked (slice_index_or set v false) v

-- "NEAR 0 2"
abbrev pub members : List Bool → List ℕ
members set = each_below (length set) (member set)

abbrev pub cut_row : List ℕ → List Bool → List ℕ
cut_row name set = name ++ (members set ++ newline)

abbrev pub total_text : Option ℕ → List ℕ
total_text None = codes "NONE"
total_text (Some x) = decimal x

-- "TRIAL 1 6"
abbrev pub trial_row : Tried → List ℕ
trial_row t = codes "TRIAL " ++ (decimal t.line ++ (blank ++ (total_text t.total ++ newline)))

abbrev pub aim_name : Aim → List ℕ
aim_name Greatest = codes "GREATEST "
aim_name Least = codes "LEAST "

-- "GREATEST 5"
abbrev pub head_row : Aim → ℕ → List ℕ
head_row a x = aim_name a ++ (decimal x ++ newline)

abbrev pub nothing : Tried
nothing = record { line = 0; total = None }

abbrev pub flow_rows : List ℕ → List ℕ
flow_rows xs = each_below (length xs) (λ i. flow_row i (slice_index xs i))

abbrev pub trial_rows : List Tried → List ℕ
trial_rows ts = each_below (length ts) (λ i. trial_row (slice_index_or ts i nothing))

-- aim and total, line number and flow, cuts, trials
abbrev pub flow_text : Aim → ℕ → List ℕ → List Bool → List Bool → List Tried → List ℕ
flow_text aim total flows near far trials =
    head_row aim total
    ++ (flow_rows flows
    ++ (cut_row (codes "NEAR") near
    ++ (cut_row (codes "FAR") far
    ++ trial_rows trials)))

-- shortfall, hurdle, trials
abbrev pub hurdle_text : ℕ → List Bool → List Tried → List ℕ
hurdle_text shortfall hurdle trials =
    (codes "IMPOSSIBLE " ++ (decimal shortfall ++ newline))
    ++ (cut_row (codes "HURDLE") hurdle
    ++ trial_rows trials)

-- "DECLINED 11"
abbrev pub declined_text : ℕ → List ℕ
declined_text d = codes "DECLINED " ++ (decimal d ++ newline)

-- the numbers of a trial
abbrev pub Sized : Tried → Type 0
Sized t = (t.line < 2 ^ 16) × ((x : ℕ) → t.total ≡ Some x → x < 2 ^ 32)

-- at most 64 trials of such numbers
abbrev pub SmallTrials : List Tried → Type 0
SmallTrials ts = (length ts ≤ 64) × ((i : ℕ) → i < length ts → Sized (slice_index_or ts i nothing))

-- at most 1,000 flows of at most 1,000,000
abbrev pub SmallFlows : List ℕ → Type 0
SmallFlows fs = (length fs ≤ 1000) × ((i : ℕ) → i < length fs → slice_index fs i ≤ 1000000)

-- Writing again what was read.
use Rattle.std.proofs.Common.{◌≡◌, ℕ, ◌+◌, ◌*◌, ◌/◌, ◌%◌, ◌^◌, ◌<◌, ◌≤◌, Bool, true, false, cond, eqb, ltb, ◌⊎◌, List, [], ◌∷◌, ◌++◌, map, length, get_or, drop, Ok, Err, Result, sym, refl, ap, ◌∙◌, subst, inl, inr, ⊎_elim, append_assoc, arith, length-append, eqb-true}
use Rattle.std.proofs.str.Laws.{order}
use Rattle.std.proofs.ByRecursion.{All-get_or}
use Rattle.std.proofs.lemmas.List.{drop_all, drop_more}
use Rattle.std.specs.List.{flat_map, AllByRecursion}
use Rattle.plant.specs.declared.aim.Aim.{Aim}
use Rattle.plant.specs.declared.aim.Aim.TheVariants.{Greatest, Least}
use Rattle.plant.specs.declared.decline.Decline.{Decline}
use Rattle.plant.specs.declared.decline.Decline.TheVariants.{FileEnds, NoCommand, TrialCount}
use Rattle.plant.specs.declared.line.Line.{Line}
use Rattle.plantfile.specs.declared.reader.Command.{Command}
use Rattle.plantfile.specs.declared.reader.Command.TheVariants.{End}
use Rattle.plant.specs.declared.line.Trial.{Trial}
use Rattle.plantfile.specs.Format.{Content, after, first, parse, word16, word32}
use Rattle.plantfile.specs.Round.{Byte, FitsLine, FitsTrial, Ten, WritesAgain, WritesInOrder, lettered}
use Rattle.plantfile.specs.Writing.{aim_byte, encoded, four, line_bytes, trial_bytes, two}
use Rattle.plantfile.proofs.Steps.{Gives, end_given, err_given, try_given, n_first}
use Rattle.plantfile.proofs.Round.{aim_first, lines_read, past_T, trial_first, trials_read}

-- bytes of a number that bytes make up
two_is : (a b : ℕ) → a < 256 → b < 256 → two (a * 256 + b) ≡ a ∷ b ∷ []
two_is a b p q =
    let x : (a * 256 + b) / 256 % 256 ≡ a = omega arith in
    let y : (a * 256 + b) % 256 ≡ b = omega arith in
    λ i. x i ∷ y i ∷ []

four_is : (a b c d : ℕ) → a < 256 → b < 256 → c < 256 → d < 256 → four (a * 16777216 + b * 65536 + c * 256 + d) ≡ a ∷ b ∷ c ∷ d ∷ []
four_is a b c d p q r s =
    let n = a * 16777216 + b * 65536 + c * 256 + d in
    let x : n / 16777216 % 256 ≡ a = omega arith in
    let y : n / 65536 % 256 ≡ b = omega arith in
    let z : n / 256 % 256 ≡ c = omega arith in
    let w : n % 256 ≡ d = omega arith in
    λ i. x i ∷ y i ∷ z i ∷ w i ∷ []

-- ten operands, one by one
ten_is : (o : List ℕ) → Ten o → o ≡ get_or o 0 0 ∷ get_or o 1 0 ∷ get_or o 2 0 ∷ get_or o 3 0 ∷ get_or o 4 0 ∷ get_or o 5 0 ∷ get_or o 6 0 ∷ get_or o 7 0 ∷ get_or o 8 0 ∷ get_or o 9 0 ∷ []
ten_is o ten =
    cut 0 (omega arith) (cut 1 (omega arith) (cut 2 (omega arith) (cut 3 (omega arith) (cut 4 (omega arith)
    (cut 5 (omega arith) (cut 6 (omega arith) (cut 7 (omega arith) (cut 8 (omega arith) (cut 9 (omega arith) (drop_all 10 o (omega arith)))))))))))
  where
    cut : (k : ℕ) {rest : List ℕ} → k < length o → drop (k + 1) o ≡ rest → drop k o ≡ get_or o k 0 ∷ rest
    cut k lt e = drop_more o k 0 lt ∙ ap (λ (l : List ℕ). get_or o k 0 ∷ l) e

module _ (o : List ℕ) (ten : Ten o) (bytes : AllByRecursion Byte o) where
  byte : (k : ℕ) → k < 10 → get_or o k 0 < 256
  byte k lt = All-get_or Byte o k 0 (omega arith) bytes

  four_at : (k : ℕ) → k + 3 < 10 → four (word32 o k) ≡ get_or o k 0 ∷ get_or o (k + 1) 0 ∷ get_or o (k + 2) 0 ∷ get_or o (k + 3) 0 ∷ []
  four_at k lt = four_is (get_or o k 0) (get_or o (k + 1) 0) (get_or o (k + 2) 0) (get_or o (k + 3) 0) (byte k (omega arith)) (byte (k + 1) (omega arith)) (byte (k + 2) (omega arith)) (byte (k + 3) lt)

  small : (k : ℕ) → k + 3 < 10 → word32 o k < 2 ^ 32
  small k lt =
      let a = byte k (omega arith) in
      let b = byte (k + 1) (omega arith) in
      let c = byte (k + 2) (omega arith) in
      let d = byte (k + 3) lt in
      omega arith

-- the line and the trial of ten operands
abbrev line_from : List ℕ → Line
line_from o = record { from = get_or o 0 0; to = get_or o 1 0; low = word32 o 2; high = word32 o 6 }

abbrev trial_from : List ℕ → Trial
trial_from o = record { line = word16 o 0; low = word32 o 2; high = word32 o 6 }

line_again : (o : List ℕ) → Ten o → AllByRecursion Byte o → lettered 76 o ≡ line_bytes (line_from o)
line_again o ten bytes =
    let x = four_at o ten bytes 2 (omega arith) in
    let y = four_at o ten bytes 6 (omega arith) in
    ap (λ (l : List ℕ). 76 ∷ l) (ten_is o ten) ∙ (λ i. 76 ∷ get_or o 0 0 ∷ get_or o 1 0 ∷ (sym x i ++ sym y i))

line_fits : (o : List ℕ) → Ten o → AllByRecursion Byte o → FitsLine (line_from o)
line_fits o ten bytes = (byte o ten bytes 0 (omega arith), byte o ten bytes 1 (omega arith), small o ten bytes 2 (omega arith), small o ten bytes 6 (omega arith))

trial_again : (o : List ℕ) → Ten o → AllByRecursion Byte o → lettered 84 o ≡ trial_bytes (trial_from o)
trial_again o ten bytes =
    let w = two_is (get_or o 0 0) (get_or o 1 0) (byte o ten bytes 0 (omega arith)) (byte o ten bytes 1 (omega arith)) in
    let x = four_at o ten bytes 2 (omega arith) in
    let y = four_at o ten bytes 6 (omega arith) in
    ap (λ (l : List ℕ). 84 ∷ l) (ten_is o ten) ∙ (λ i. 84 ∷ (sym w i ++ (sym x i ++ sym y i)))

trial_fits : (o : List ℕ) → Ten o → AllByRecursion Byte o → FitsTrial (trial_from o)
trial_fits o ten bytes =
    let a = byte o ten bytes 0 (omega arith) in
    let b = byte o ten bytes 1 (omega arith) in
    (omega arith, small o ten bytes 2 (omega arith), small o ten bytes 6 (omega arith))

all_left : {X : Type 0} (P : X → Type 0) (xs ys : List X) → AllByRecursion P (xs ++ ys) → AllByRecursion P xs
all_left P [] ys h = tt
all_left P (x ∷ xs) ys h = (h.0, all_left P xs ys h.1)

all_right : {X : Type 0} (P : X → Type 0) (xs ys : List X) → AllByRecursion P (xs ++ ys) → AllByRecursion P ys
all_right P [] ys h = h
all_right P (x ∷ xs) ys h = all_right P xs ys h.1

-- commands of one letter are what is written of what they say
module _ {X : Type 0} (letter : ℕ) (put : X → List ℕ) (from : List ℕ → X) (Fits : X → Type 0) (again : (o : List ℕ) → Ten o → AllByRecursion Byte o → lettered letter o ≡ put (from o)) (fits : (o : List ℕ) → Ten o → AllByRecursion Byte o → Fits (from o)) where
  all_again : (os : List (List ℕ)) → AllByRecursion Ten os → AllByRecursion Byte (flat_map (lettered letter) os) → flat_map (lettered letter) os ≡ flat_map put (map from os)
  all_again [] ten bytes = refl
  all_again (o ∷ os) ten bytes =
      let here = again o ten.0 (all_left Byte o (flat_map (lettered letter) os) bytes.1) in
      let on = all_again os ten.1 (all_right Byte o (flat_map (lettered letter) os) bytes.1) in
      λ i. here i ++ on i

  all_fit : (os : List (List ℕ)) → AllByRecursion Ten os → AllByRecursion Byte (flat_map (lettered letter) os) → AllByRecursion Fits (map from os)
  all_fit [] ten bytes = tt
  all_fit (o ∷ os) ten bytes = (fits o ten.0 (all_left Byte o (flat_map (lettered letter) os) bytes.1), all_fit os ten.1 (all_right Byte o (flat_map (lettered letter) os) bytes.1))

-- the last byte is an aim, or a fault
last_byte : (x t : ℕ) → ((a : Aim) × (x ≡ aim_byte a)) ⊎ ((d : Decline) × (first (x ∷ []) t ≡ Err d))
last_byte x t = go (eqb x 76) (eqb x 84) (ltb t 64) (eqb x 71) (eqb x 77) refl refl
  where
    go : (l t' few g m : Bool) → eqb x 71 ≡ g → eqb x 77 ≡ m →
        ((a : Aim) × (x ≡ aim_byte a)) ⊎ ((d : Decline) × (◌≡◌ {A = Result Command Decline} (cond l (Err FileEnds) (cond t' (cond few (Err FileEnds) (Err TrialCount)) (cond g (Ok (End Greatest)) (cond m (Ok (End Least)) (Err NoCommand))))) (Err d)))
    go true t' few g m p q = inr (FileEnds, refl)
    go false true true g m p q = inr (FileEnds, refl)
    go false true false g m p q = inr (TrialCount, refl)
    go false false few true m p q = inl (Greatest, eqb-true x 71 p)
    go false false few false true p q = inl (Least, eqb-true x 77 q)
    go false false few false false p q = inr (NoCommand, refl)

clash : (whole : Result Content Decline) (c : Content) (d : Decline) → whole ≡ Ok c → whole ≡ Err d → ⊥
clash whole c d p q = let z : ◌≡◌ {A = ℕ} 0 1 = cc in omega arith

-- a file that reads as a content has at most 64 trials
module _ (n : ℕ) (whole : Result Content Decline) (c : Content) (reads : whole ≡ Ok c) where
  few_trials : (ls : List Line) (ts more : List Trial) (rest : List ℕ) → length ts ≤ 64 → AllByRecursion FitsTrial more → Gives n ls ts (flat_map trial_bytes more ++ rest) whole → length ts + length more ≤ 64
  few_trials ls ts [] rest few fit h = omega arith
  few_trials ls ts (t ∷ more) rest few fit h =
      let here = rw append_assoc at h in
      let k = length-append ts (t ∷ []) in
      ⊎_elim
      (λ (lt : length ts < 64). let r = few_trials ls (ts ++ t ∷ []) more rest (omega arith) fit.1 (try_given here (trial_first t (flat_map trial_bytes more ++ rest) (length ts) lt fit.0) refl refl refl) in omega arith)
      (λ (le : 64 ≤ length ts). absurd (clash whole c TrialCount reads (err_given here (past_T (drop 1 (trial_bytes t ++ (flat_map trial_bytes more ++ rest))) (length ts) le))))
      (order (length ts) 64)

  ended : (ls : List Line) (ts : List Trial) (x : ℕ) → Gives n ls ts (x ∷ []) whole → encoded c ≡ (78 ∷ n ∷ []) ++ (flat_map line_bytes ls ++ (flat_map trial_bytes ts ++ x ∷ []))
  ended ls ts x h = ⊎_elim
      (λ (p : (a : Aim) × (x ≡ aim_byte a)).
      let e = end_given h (ap (λ y. first (y ∷ []) (length ts)) p.1 ∙ aim_first p.0 (length ts)) in
      let is : c ≡ record { junctions = n; lines = ls; trials = ts; aim = p.0 } = cc in
      ap encoded is ∙ ap (λ y. (78 ∷ n ∷ []) ++ (flat_map line_bytes ls ++ (flat_map trial_bytes ts ++ y ∷ []))) (sym p.1))
      (λ (p : (d : Decline) × (first (x ∷ []) (length ts) ≡ Err d)). absurd (clash whole c p.0 reads (err_given h p.1)))
      (last_byte x (length ts))

pub writes_again : WritesAgain
writes_again bs c bytes o reads =
    let n = o.junctions in
    let L = flat_map (lettered 76) o.ls in
    let T = flat_map (lettered 84) o.ts in
    let x = o.last in
    let ls = map line_from o.ls in
    let ts = map trial_from o.ts in
    let all : AllByRecursion Byte ((78 ∷ n ∷ []) ++ (L ++ (T ++ x ∷ []))) = subst (AllByRecursion Byte) o.is bytes in
    let in-L = all_left Byte L (T ++ x ∷ []) all.1.1 in
    let in-T = all_left Byte T (x ∷ []) (all_right Byte L (T ++ x ∷ []) all.1.1) in
    let a = all_again 76 line_bytes line_from FitsLine line_again line_fits o.ls o.ls_ten in-L in
    let b = all_again 84 trial_bytes trial_from FitsTrial trial_again trial_fits o.ts o.ts_ten in-T in
    let fit-L = all_fit 76 line_bytes line_from FitsLine line_again line_fits o.ls o.ls_ten in-L in
    let fit-T = all_fit 84 trial_bytes trial_from FitsTrial trial_again trial_fits o.ts o.ts_ten in-T in
    let tail = flat_map line_bytes ls ++ (flat_map trial_bytes ts ++ x ∷ []) in
    let same : bs ≡ (78 ∷ n ∷ []) ++ tail = o.is ∙ (λ i. (78 ∷ n ∷ []) ++ (a i ++ (b i ++ x ∷ []))) in
    let whole = after (length tail + 1) n [] [] tail in
    let from : Gives n [] [] tail whole = record { most = length tail + 1; enough = omega arith; gives = refl } in
    let ok : whole ≡ Ok c = sym (n_first ((78 ∷ n ∷ []) ++ tail) tail n refl (omega arith) refl refl) ∙ sym (ap parse same) ∙ reads in
    let one = lines_read n whole [] ls [] (flat_map trial_bytes ts ++ x ∷ []) fit-L from in
    let few = few_trials n whole c ok ls [] ts (x ∷ []) (omega arith) fit-T one in
    let two = trials_read n whole ls [] ts (x ∷ []) few fit-T one in
    ended n whole c ok ls ts x two ∙ sym same

-- the operands of each piece
module _ {X : Type 0} (letter : ℕ) (put : X → List ℕ) (of-letter : (x : X) → lettered letter (drop 1 (put x)) ≡ put x) (ten : (x : X) → Ten (drop 1 (put x))) where
  operands : List X → List (List ℕ)
  operands xs = map (λ x. drop 1 (put x)) xs

  each_ten : (xs : List X) → AllByRecursion Ten (operands xs)
  unfolding operands
  each_ten [] = tt
  each_ten (x ∷ xs) = (ten x, each_ten xs)

  in_letters : (xs : List X) → flat_map put xs ≡ flat_map (lettered letter) (operands xs)
  unfolding operands
  in_letters [] = refl
  in_letters (x ∷ xs) = λ i. sym (of-letter x) i ++ in_letters xs i

pub writes_in_order : WritesInOrder
writes_in_order c = record {
  junctions = c.junctions;
  ls = operands 76 line_bytes (λ _. refl) (λ _. refl) c.lines;
  ts = operands 84 trial_bytes (λ _. refl) (λ _. refl) c.trials;
  last = aim_byte c.aim;
  ls_ten = each_ten 76 line_bytes (λ _. refl) (λ _. refl) c.lines;
  ts_ten = each_ten 84 trial_bytes (λ _. refl) (λ _. refl) c.trials;
  is = λ i. (78 ∷ c.junctions ∷ []) ++ (in_letters 76 line_bytes (λ _. refl) (λ _. refl) c.lines i ++ (in_letters 84 trial_bytes (λ _. refl) (λ _. refl) c.trials i ++ aim_byte c.aim ∷ []));
}

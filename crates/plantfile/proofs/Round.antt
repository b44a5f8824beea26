-- Reading back what was written.
use Rattle.std.proofs.Common.{◌≡◌, ℕ, ◌+◌, ◌*◌, ◌/◌, ◌%◌, ◌^◌, ◌<◌, ◌≤◌, false, eqb, List, [], ◌∷◌, ◌++◌, length, drop, Ok, Err, Result, sym, refl, ◌∙◌, append_assoc, append-nil, arith, length-append, le-ltb, lt-ltb, ne_eqb}
use native.Mathlib.Nat.{div-div-eq-div-mul}
use Rattle.std.specs.List.{flat_map, AllByRecursion}
use Rattle.plant.specs.declared.aim.Aim.{Aim}
use Rattle.plant.specs.declared.aim.Aim.TheVariants.{Greatest, Least}
use Rattle.plant.specs.declared.decline.Decline.{Decline}
use Rattle.plant.specs.declared.decline.Decline.TheVariants.{TrialCount}
use Rattle.plant.specs.declared.line.Line.{Line}
use Rattle.plantfile.specs.declared.reader.Command.TheVariants.{Draw, Try, End}
use Rattle.plant.specs.declared.line.Trial.{Trial}
use Rattle.plantfile.specs.Format.{Content, after, first, line_of, trial_of}
use Rattle.plantfile.specs.Round.{FitsLine, FitsTrial, ReadsBack}
use Rattle.plantfile.specs.Writing.{aim_byte, encoded, line_bytes, trial_bytes}
use Rattle.plantfile.proofs.Steps.{Gives, end_given, draw_given, try_given, n_first}

four_parts : (x y z w : ℕ) → y ≡ x / 256 → z ≡ y / 256 → w ≡ z / 256 → w < 256 → w % 256 * 16777216 + z % 256 * 65536 + y % 256 * 256 + x % 256 ≡ x
four_parts x y z w a b d h =
    let w1 : w % 256 ≡ w = omega arith in
    let z1 : z % 256 + 256 * w ≡ z = omega arith in
    let y1 : y % 256 + 256 * z ≡ y = omega arith in
    let x1 : x % 256 + 256 * y ≡ x = omega arith in
    omega arith

four_back : (x : ℕ) → x < 2 ^ 32 → x / 16777216 % 256 * 16777216 + x / 65536 % 256 * 65536 + x / 256 % 256 * 256 + x % 256 ≡ x
four_back x h = four_parts x (x / 256) (x / 65536) (x / 16777216) refl (sym (div-div-eq-div-mul x 256 256)) (sym (div-div-eq-div-mul x 65536 256)) (omega arith)

two_back : (x : ℕ) → x < 2 ^ 16 → x / 256 % 256 * 256 + x % 256 ≡ x
two_back x h = omega arith

-- the command that each piece reads as
some : (b : ℕ) (bs : List ℕ) → eqb (length (b ∷ bs)) 0 ≡ false
some b bs = ne_eqb _ 0 (λ e. omega arith)

at_L : (bs : List ℕ) (t : ℕ) → first (76 ∷ bs) t ≡ line_of bs
at_L bs t = rw (some 76 bs) refl

at_T : (bs : List ℕ) (t : ℕ) → t < 64 → first (84 ∷ bs) t ≡ trial_of bs
at_T bs t few = rw (some 84 bs) (rw (lt-ltb t 64 few) refl)

pub past_T : (bs : List ℕ) (t : ℕ) → 64 ≤ t → first (84 ∷ bs) t ≡ Err TrialCount
past_T bs t many = rw (some 84 bs) (rw (le-ltb t 64 many) refl)

line_first : (l : Line) (rest : List ℕ) (t : ℕ) → FitsLine l → first (line_bytes l ++ rest) t ≡ Ok (Draw l)
line_first l rest t fit =
    let p = four_back l.low fit.2 in
    let q = four_back l.high fit.3 in
    at_L (drop 1 (line_bytes l ++ rest)) t ∙ rw (le-ltb (length (drop 1 (line_bytes l ++ rest))) 10 (omega arith)) (λ i. Ok (Draw (record { from = l.from; to = l.to; low = p i; high = q i })))

pub trial_first : (x : Trial) (rest : List ℕ) (t : ℕ) → t < 64 → FitsTrial x → first (trial_bytes x ++ rest) t ≡ Ok (Try x)
trial_first x rest t few fit =
    let m = two_back x.line fit.0 in
    let p = four_back x.low fit.1 in
    let q = four_back x.high fit.2 in
    at_T (drop 1 (trial_bytes x ++ rest)) t few ∙ rw (le-ltb (length (drop 1 (trial_bytes x ++ rest))) 10 (omega arith)) (λ i. Ok (Try (record { line = m i; low = p i; high = q i })))

pub aim_first : (a : Aim) (t : ℕ) → first (aim_byte a ∷ []) t ≡ Ok (End a)
aim_first Greatest t = refl
aim_first Least t = refl

-- all lines, and all trials
module _ (n : ℕ) (whole : Result Content Decline) where
  pub lines_read : (ls more : List Line) (ts : List Trial) (rest : List ℕ) → AllByRecursion FitsLine more → Gives n ls ts (flat_map line_bytes more ++ rest) whole → Gives n (ls ++ more) ts rest whole
  lines_read ls [] ts rest fit h = rw append-nil h
  lines_read ls (l ∷ more) ts rest fit h =
      let here = rw append_assoc at h in
      let on = draw_given here (line_first l (flat_map line_bytes more ++ rest) (length ts) fit.0) refl refl refl in
      rw append_assoc at (lines_read (ls ++ l ∷ []) more ts rest fit.1 on)

  pub trials_read : (ls : List Line) (ts more : List Trial) (rest : List ℕ) → length ts + length more ≤ 64 → AllByRecursion FitsTrial more → Gives n ls ts (flat_map trial_bytes more ++ rest) whole → Gives n ls (ts ++ more) rest whole
  trials_read ls ts [] rest few fit h = rw append-nil h
  trials_read ls ts (t ∷ more) rest few fit h =
      let here = rw append_assoc at h in
      let on = try_given here (trial_first t (flat_map trial_bytes more ++ rest) (length ts) (omega arith) fit.0) refl refl refl in
      let k = length-append ts (t ∷ []) in
      rw append_assoc at (trials_read ls (ts ++ t ∷ []) more rest (omega arith) fit.1 on)

pub reads_back : ReadsBack
reads_back c ok =
    let tail = flat_map line_bytes c.lines ++ (flat_map trial_bytes c.trials ++ aim_byte c.aim ∷ []) in
    let whole = after (length tail + 1) c.junctions [] [] tail in
    let from : Gives c.junctions [] [] tail whole = record { most = length tail + 1; enough = omega arith; gives = refl } in
    let one = lines_read c.junctions whole [] c.lines [] _ ok.lines from in
    let two = trials_read c.junctions whole c.lines [] c.trials _ (let f = ok.few in omega arith) ok.trials one in
    n_first (encoded c) tail c.junctions refl (omega arith) refl refl ∙ end_given two (aim_first c.aim (length c.trials))

-- One command of `after`.
use Rattle.std.proofs.Common.{◌≡◌, ℕ, zero, suc, ◌+◌, ◌-◌, ◌<◌, ◌≤◌, List, [], ◌∷◌, ◌++◌, length, get_or, take, drop, Ok, Err, Result, sym, ap, ◌∙◌, arith, length-drop, rules}
use Rattle.std.proofs.lemmas.Slice.{between_to_end}
use Rattle.plantfile.specs.declared.reader.Command.{Command}
use Rattle.plantfile.specs.declared.reader.Command.TheVariants.{Draw, Try, End}
use Rattle.plant.specs.declared.aim.Aim.{Aim}
use Rattle.plant.specs.declared.decline.Decline.{Decline}
use Rattle.plant.specs.declared.line.Line.{Line}
use Rattle.plant.specs.declared.line.Trial.{Trial}
use Rattle.plantfile.specs.Format.{Content, after, first, parse}

-- `&bs[a..]`
pub tail_is : (bs : List ℕ) (a : ℕ) → take (length bs - a) (drop a bs) ≡ drop a bs
tail_is bs a = between_to_end bs a (length bs) (omega arith)

-- what `after` goes on with
abbrev turn : ℕ → ℕ → List Line → List Trial → List ℕ → Result Command Decline → Result Content Decline
turn k n ls ts bs r =
    elim r [
      | Err d ↦ Err d
      | Ok c ↦ elim c [
        | Draw l ↦ after k n (ls ++ l ∷ []) ts (drop 11 bs)
        | Try t ↦ after k n ls (ts ++ t ∷ []) (drop 11 bs)
        | End a ↦ Ok (record { junctions = n; lines = ls; trials = ts; aim = a })
      ]
    ]

pub after_is : (k n : ℕ) (ls : List Line) (ts : List Trial) (bs : List ℕ) (r : Result Command Decline) → first bs (length ts) ≡ r → after (suc k) n ls ts bs ≡ turn k n ls ts bs r
unfolding after
after_is k n ls ts bs r e = ap (turn k n ls ts bs) e

-- L and T have ten operands
pub long_draw : (bs : List ℕ) (t : ℕ) (l : Line) → first bs t ≡ Ok (Draw l) → 11 ≤ length bs
long_draw bs t l e = search (rules, length-drop)

pub long_try : (bs : List ℕ) (t : ℕ) (x : Trial) → first bs t ≡ Ok (Try x) → 11 ≤ length bs
long_try bs t x e = search (rules, length-drop)

module _ (n : ℕ) (ls : List Line) (ts : List Trial) (bs : List ℕ) where
  pub at_err : (k : ℕ) (d : Decline) → length bs < k → first bs (length ts) ≡ Err d → after k n ls ts bs ≡ Err d
  at_err zero d lt e = absurd (omega arith)
  at_err (suc k) d lt e = after_is k n ls ts bs (Err d) e

  pub at_end : (k : ℕ) (a : Aim) → length bs < k → first bs (length ts) ≡ Ok (End a) → after k n ls ts bs ≡ Ok (record { junctions = n; lines = ls; trials = ts; aim = a })
  at_end zero a lt e = absurd (omega arith)
  at_end (suc k) a lt e = after_is k n ls ts bs (Ok (End a)) e

  -- k' is enough for what is left
  abbrev pub On : ℕ → List Line → List Trial → List ℕ → Type 0
  On k ls' ts' rest = (k' : ℕ) × (length rest < k') × (after k' n ls' ts' rest ≡ after k n ls ts bs)

  pub at_draw : (k : ℕ) (l : Line) → length bs < k → first bs (length ts) ≡ Ok (Draw l) → On k (ls ++ l ∷ []) ts (drop 11 bs)
  at_draw zero l lt e = absurd (omega arith)
  at_draw (suc k) l lt e = (k, omega (arith, long_draw bs (length ts) l e, length-drop 11 bs), sym (after_is k n ls ts bs (Ok (Draw l)) e))

  pub at_try : (k : ℕ) (t : Trial) → length bs < k → first bs (length ts) ≡ Ok (Try t) → On k ls (ts ++ t ∷ []) (drop 11 bs)
  at_try zero t lt e = absurd (omega arith)
  at_try (suc k) t lt e = (k, omega (arith, long_try bs (length ts) t e, length-drop 11 bs), sym (after_is k n ls ts bs (Ok (Try t)) e))

-- what is left, after what was read, gives `whole`
pub record Gives (n : ℕ) (ls : List Line) (ts : List Trial) (bs : List ℕ) (whole : Result Content Decline) : Type 0 where
  pub most : ℕ
  pub enough : length bs < most
  pub gives : after most n ls ts bs ≡ whole

module _ {n : ℕ} {ls : List Line} {ts : List Trial} {bs : List ℕ} {whole : Result Content Decline} (h : Gives n ls ts bs whole) where
  pub err_given : {d : Decline} → first bs (length ts) ≡ Err d → whole ≡ Err d
  err_given {d} e = sym h.gives ∙ at_err n ls ts bs h.most d h.enough e

  pub end_given : {a : Aim} → first bs (length ts) ≡ Ok (End a) → whole ≡ Ok (record { junctions = n; lines = ls; trials = ts; aim = a })
  end_given {a} e = sym h.gives ∙ at_end n ls ts bs h.most a h.enough e

  pub draw_given : {l : Line} {ls' : List Line} {ts' : List Trial} {rest : List ℕ} → first bs (length ts) ≡ Ok (Draw l) → ls' ≡ ls ++ l ∷ [] → ts' ≡ ts → rest ≡ drop 11 bs → Gives n ls' ts' rest whole
  draw_given {l} e a b d = let o = at_draw n ls ts bs h.most l h.enough e in rw (a, b, d) (record { most = o.0; enough = o.1; gives = o.2 ∙ h.gives })

  pub try_given : {t : Trial} {ls' : List Line} {ts' : List Trial} {rest : List ℕ} → first bs (length ts) ≡ Ok (Try t) → ls' ≡ ls → ts' ≡ ts ++ t ∷ [] → rest ≡ drop 11 bs → Gives n ls' ts' rest whole
  try_given {t} e a b d = let o = at_try n ls ts bs h.most t h.enough e in rw (a, b, d) (record { most = o.0; enough = o.1; gives = o.2 ∙ h.gives })

pub n_first : (bs rest : List ℕ) (n : ℕ) → get_or bs 0 0 ≡ 78 → 2 ≤ length bs → n ≡ get_or bs 1 0 → rest ≡ drop 2 bs → parse bs ≡ after (length rest + 1) n [] [] rest
n_first bs rest n e long a b = rw (a, b) (search rules)

-- T is read only after fewer than 64 others
pub few_try : (bs : List ℕ) (t : ℕ) (x : Trial) → first bs t ≡ Ok (Try x) → t < 64
few_try bs t x e = search rules

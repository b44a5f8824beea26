-- What a told answer says of the phase, and that readings in a piece that keeps the question speak of one plan.
use Rattle.plant.specs.declared.line.Trial as limits
use Rattle.std.proofs.Common.{◌≡◌, ℕ, Bool, true, false, not, ◌&&◌, ◌↔◌, List, [], ◌∷◌, ℤ, Some, None, Option, Vec, sym, refl, ap, ◌∙◌, subst, inl, inr, arith}
use Rattle.law.specs.declared.script.Answer.{Answer}
use Rattle.law.specs.declared.script.Answer.TheVariants as told
use Rattle.law.specs.declared.script.Call.{Call}
use Rattle.law.specs.declared.script.Call.TheVariants.{Crossing, Cut, Flow, Hurdle, Start, Tallies, Total, Trial, Work}
use Rattle.law.specs.declared.script.Given.{Given}
use Rattle.law.specs.Law.{Accepted, Decided, Follows, OnFlow, OnHurdle, Run, Settles, Widening, Works}
use Rattle.law.specs.Phases.{Counts, Phase, Plan, Question, counts_of, cut_of, flowing, tried}
use Rattle.law.specs.Promises.{DeclinesExactly}
use Rattle.law.specs.Refusal.{refusal}
use Rattle.law.specs.Scripts.{Script, Told, asked, asking, kept, taken}
use Rattle.planner.specs.declared.answer.Outcome.{Outcome}
use Rattle.planner.specs.declared.answer.Side.{Side}
use Rattle.planner.specs.declared.answer.Tally.{Tally}
use Rattle.plant.specs.declared.decline.Decline.{Decline}
use Rattle.plant.specs.Plants.{Junctions, at, bound, crossing, shortfall, total}
use Rattle.reach.specs.Sets.{set_bytes, size}
use Rattle.std.proofs.lemmas.Bool.{true≢false}
use Rattle.std.specs.declared.alloc.Global.{Global}

-- an accepted call is not declined
not_declined : (p : Phase) (c : Call) (d : Decline) (q : Phase) → Accepted p c (told.Declined d) q → ⊥
not_declined p (Start g) d q (i, j) = let z : ◌≡◌ {A = ℕ} 0 1 = cc in omega arith
not_declined p (Work k) d q (o, m, i, w) = let z : ◌≡◌ {A = ℕ} 0 1 = cc in omega arith
not_declined p (Trial g t) d q (o, i, s, w) = let z : ◌≡◌ {A = ℕ} 0 1 = cc in omega arith
not_declined p Total d q (j, a, s, t, is, i) = let z : ◌≡◌ {A = ℕ} 0 1 = cc in omega arith
not_declined p (Flow k) d q (j, a, s, t, is, i) = let z : ◌≡◌ {A = ℕ} 0 1 = cc in omega arith
not_declined p (Cut side room) d q (j, a, s, t, is, i) = let z : ◌≡◌ {A = ℕ} 0 1 = cc in omega arith
not_declined p (Crossing side room) d q (j, a, s, t, is, (v, i, c)) = let z : ◌≡◌ {A = ℕ} 0 1 = cc in omega arith
not_declined p (Hurdle room) d q (j, a, H, t, is, i) = let z : ◌≡◌ {A = ℕ} 0 1 = cc in omega arith
not_declined p Tallies d q (j, i) = let z : ◌≡◌ {A = ℕ} 0 1 = cc in omega arith

pub declines_exactly : DeclinesExactly
declines_exactly p q c r d f = go (refusal p c) f
  where
    never : Accepted p c r q → r ≡ told.Declined d → ⊥
    never x e = not_declined p c d q (subst (λ (s : Answer). Accepted p c s q) e x)

    go : (o : Option Decline) → Decided o p c r q → (r ≡ told.Declined d ↔ o ≡ Some d) × (r ≡ told.Declined d → q ≡ p)
    go None x = ((λ e. absurd (never x e), λ e. let z : ◌≡◌ {A = ℕ} 0 1 = cc in absurd (omega arith)), λ e. absurd (never x e))
    go (Some b) (i, j) = ((λ e. cc, λ e. cc), λ e. j)

-- an answer that is no decline was accepted
pub took : (p : Phase) (c : Call) (r : Answer) (q : Phase) → taken r ≡ true → Follows p c r q → Accepted p c r q
took p c r q t f = go (refusal p c) f
  where
    go : (o : Option Decline) → Decided o p c r q → Accepted p c r q
    go None x = x
    go (Some d) (i, j) = absurd (true≢false (sym t ∙ ap taken i))

-- ---- what each answer says
pub total_on : (t : ℤ) (p q : Phase) → Follows p Total (told.Total t) q → OnFlow p q (λ a s. t ≡ total a.plant s.flow)
total_on t p q f = let x = took p Total (told.Total t) q refl f in (x.0, x.1, x.2, x.3, x.4, is t _ x.5)
  where
    is : (x y : ℤ) → told.Total x ≡ told.Total y → x ≡ y
    is x y e = cc

pub flow_on : (k x : ℕ) (p q : Phase) → Follows p (Flow k) (told.Flow x) q → OnFlow p q (λ a s. x ≡ at s.flow k)
flow_on k x p q f = let y = took p (Flow k) (told.Flow x) q refl f in (y.0, y.1, y.2, y.3, y.4, is x _ y.5)
  where
    is : (x y : ℕ) → told.Flow x ≡ told.Flow y → x ≡ y
    is x y e = cc

abbrev pub IsCut : Side → List ℕ → ℕ → ℤ → Question → Plan → Type 0
IsCut side x n b a s = (x ≡ set_bytes (cut_of side s)) × (n ≡ size (cut_of side s) a.plant.junctions) × (b ≡ bound a.aim a.plant (cut_of side s))

pub cut_on : (side : Side) (room : ℕ) (x : List ℕ) (n : ℕ) (b : ℤ) (p q : Phase) → Follows p (Cut side room) (told.Cut x n b) q → OnFlow p q (IsCut side x n b)
cut_on side room x n b p q f = let y = took p (Cut side room) (told.Cut x n b) q refl f in (y.0, y.1, y.2, y.3, y.4, is x _ n _ b _ y.5)
  where
    is : (x y : List ℕ) (m n : ℕ) (b c : ℤ) → told.Cut x m b ≡ told.Cut y n c → (x ≡ y) × (m ≡ n) × (b ≡ c)
    is x y m n b c e = (cc, cc, cc)

pub crossing_on : (side : Side) (room : ℕ) (v : Vec ℕ Global) (p q : Phase) → Follows p (Crossing side room) (told.Crossing v) q → OnFlow p q (λ a s. v.items ≡ crossing (cut_of side s) 0 a.plant.lines)
crossing_on side room v p q f = let y = took p (Crossing side room) (told.Crossing v) q refl f in (y.0, y.1, y.2, y.3, y.4, ap (λ (w : Vec ℕ Global). w.items) (is v y.5.0 y.5.1) ∙ y.5.2)
  where
    is : (x y : Vec ℕ Global) → told.Crossing x ≡ told.Crossing y → x ≡ y
    is x y e = cc

abbrev pub IsHurdle : List ℕ → ℕ → ℕ → Question → Junctions → Type 0
IsHurdle x n d a H = (x ≡ set_bytes H) × (n ≡ size H a.plant.junctions) × (d ≡ shortfall a.plant H)

pub hurdle_on : (room : ℕ) (x : List ℕ) (n d : ℕ) (p q : Phase) → Follows p (Hurdle room) (told.Hurdle x n d) q → OnHurdle p q (IsHurdle x n d)
hurdle_on room x n d p q f = let y = took p (Hurdle room) (told.Hurdle x n d) q refl f in (y.0, y.1, y.2, y.3, y.4, is x _ n _ d _ y.5)
  where
    is : (x y : List ℕ) (m n b c : ℕ) → told.Hurdle x m b ≡ told.Hurdle y n c → (x ≡ y) × (m ≡ n) × (b ≡ c)
    is x y m n b c e = (cc, cc, cc)

pub tallies_on : (one two : Tally) (p q : Phase) → Follows p Tallies (told.Tallies one two) q → counts_of p ≡ record { one = one; two = two }
tallies_on one two p q f = let y = took p Tallies (told.Tallies one two) q refl f in is one _ two _ y.1
  where
    pair : Tally → Tally → Counts
    pair x y = record { one = x; two = y }

    is : (x y v w : Tally) → told.Tallies x v ≡ told.Tallies y w → pair y w ≡ pair x v
    is x y v w e = let i : y ≡ x = cc in let j : w ≡ v = cc in ap (λ (z : Tally). pair z w) i ∙ ap (λ (z : Tally). pair x z) j

pub work_on : (k : ℕ) (o : Outcome) (m : ℕ) (p q : Phase) → Follows p (Work k) (told.Worked o m) q → Works p k o m q
work_on k o m p q f = let y = took p (Work k) (told.Worked o m) q refl f in let e = is o y.0 m y.1 y.2 in subst (λ (x : ℕ). Works p k o x q) e.1 (subst (λ (x : Outcome). Works p k x y.1 q) e.0 y.3)
  where
    is : (x y : Outcome) (m n : ℕ) → told.Worked x m ≡ told.Worked y n → (y ≡ x) × (n ≡ m)
    is x y m n e = (cc, cc)

pub trial_on : (g : Given) (lim : limits.Trial) (o : Outcome) (p q : Phase) → Follows p (Trial g lim) (told.Tried o) q → Settles (tried g lim) o q × Widening p (tried g lim) q
trial_on g lim o p q f = let y = took p (Trial g lim) (told.Tried o) q refl f in (subst (λ (x : Outcome). Settles (tried g lim) x q) (is o y.0 y.1) y.2, y.3)
  where
    is : (x y : Outcome) → told.Tried x ≡ told.Tried y → y ≡ x
    is x y e = cc

-- ---- a piece that keeps the question
not_asking : (x : Bool) (b : Bool) → (not x && b) ≡ true → (x ≡ false) × (b ≡ true)
not_asking true b e = absurd (true≢false (sym e))
not_asking false b e = (refl, e)

pub asked_kept : (h : Script) (a : Option Question) → kept h ≡ true → asked a h ≡ a
asked_kept [] a e = refl
asked_kept (x ∷ h) a e = let n = not_asking (asking x) (kept h) e in rw n.0 (asked_kept h a n.1)

-- a settled flow stays
step_stays : (a : Question) (s : Plan) (u : Counts) (c : Call) (r : Answer) (q : Phase) → asking (c, r) ≡ false → Follows (flowing a s u) c r q → q ≡ flowing a s u
step_stays a s u c r q n f = go (refusal (flowing a s u) c) f
  where
    by : (c : Call) → asking (c, r) ≡ false → Accepted (flowing a s u) c r q → q ≡ flowing a s u
    by (Start g) n (i, j) = absurd (true≢false (sym (ap (λ (x : Answer). asking (Start g, x)) i) ∙ n))
    by (Work k) n (o, m, i, (b, sum, t, is, w, counted)) = let z : ◌≡◌ {A = ℕ} 0 1 = cc in absurd (omega arith)
    by (Trial g t) n (o, i, x, w) = absurd (true≢false (sym (ap (λ (x : Answer). asking (Trial g t, x)) i) ∙ n))
    by Total n x = x.0
    by (Flow k) n x = x.0
    by (Cut side room) n x = x.0
    by (Crossing side room) n x = x.0
    by (Hurdle room) n x = x.0
    by Tallies n x = x.0

    go : (o : Option Decline) → Decided o (flowing a s u) c r q → q ≡ flowing a s u
    go None x = by c n x
    go (Some d) (i, j) = j

pub flow_stays : (h : Script) (a : Question) (s : Plan) (u : Counts) (p q : Phase) → p ≡ flowing a s u → kept h ≡ true → Run p h q → q ≡ flowing a s u
flow_stays [] a s u p q i e r = r ∙ i
flow_stays (x ∷ h) a s u p q i e (m, f, r) =
    let n = not_asking (asking x) (kept h) e in
    let j = step_stays a s u x.0 x.1 m n.0 (subst (λ (z : Phase). Follows z x.0 x.1 m) i f) in
    flow_stays h a s u m q j n.1 r

-- what a reading says of the plan holds of the plan at the end
pub read_end : (c : Call) (r : Answer) (F : Question → Plan → Type 0) → ((p q : Phase) → Follows p c r q → OnFlow p q F)
    → (h : Script) (p q : Phase) → kept h ≡ true → Told h c r → Run p h q → (a : Question) × (s : Plan) × (u : Counts) × (q ≡ flowing a s u) × F a s
read_end c r F on [] p q e x run = absurd x
read_end c r F on (y ∷ h) p q e (inl i) (m, f, run) =
    let o = on p m (subst (λ (z : Call × Answer). Follows p z.0 z.1 m) i f) in
    (o.1, o.2, o.3, flow_stays h o.1 o.2 o.3 m q (o.0 ∙ o.4) (not_asking (asking y) (kept h) e).1 run, o.5)
read_end c r F on (y ∷ h) p q e (inr x) (m, f, run) = read_end c r F on h m q (not_asking (asking y) (kept h) e).1 x run

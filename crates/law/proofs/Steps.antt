-- One step of the law, where it is known whether a test fails; runs one after the other.
use Rattle.std.proofs.Common.{◌≡◌, [], ◌∷◌, ◌++◌, Some, None, Option, sym, refl, subst}
use Rattle.law.specs.declared.script.Answer.{Answer}
use Rattle.law.specs.declared.script.Answer.TheVariants as told
use Rattle.law.specs.declared.script.Call.{Call}
use Rattle.law.specs.Law.{Accepted, Decided, Follows, Run}
use Rattle.law.specs.Phases.{Phase}
use Rattle.law.specs.Refusal.{refusal}
use Rattle.law.specs.Scripts.{Script}
use Rattle.plant.specs.declared.decline.Decline.{Decline}

pub accepts : (p : Phase) (c : Call) (r : Answer) (q : Phase) → refusal p c ≡ None → Accepted p c r q → Follows p c r q
accepts p c r q e x = subst (λ (o : Option Decline). Decided o p c r q) (sym e) x

pub accepted : (p : Phase) (c : Call) (r : Answer) (q : Phase) → refusal p c ≡ None → Follows p c r q → Accepted p c r q
accepted p c r q e x = subst (λ (o : Option Decline). Decided o p c r q) e x

pub declines : (p : Phase) (c : Call) (r : Answer) (q : Phase) (d : Decline) → refusal p c ≡ Some d → r ≡ told.Declined d → q ≡ p → Follows p c r q
declines p c r q d e x y = subst (λ (o : Option Decline). Decided o p c r q) (sym e) (x, y)

pub declined : (p : Phase) (c : Call) (r : Answer) (q : Phase) (d : Decline) → refusal p c ≡ Some d → Follows p c r q → (r ≡ told.Declined d) × (q ≡ p)
declined p c r q d e x = subst (λ (o : Option Decline). Decided o p c r q) e x

pub run_split : (xs ys : Script) (p q : Phase) → Run p (xs ++ ys) q → (m : Phase) × Run p xs m × Run m ys q
run_split [] ys p q r = (p, refl, r)
run_split (x ∷ xs) ys p q (m, f, r) = let s = run_split xs ys m q r in (s.0, (m, f, s.1), s.2)

pub run_more : (h : Script) (a b d : Phase) (x : Call × Answer) → Run a h b → Follows b x.0 x.1 d → Run a (h ++ x ∷ []) d
run_more [] a b d x e s = (d, subst (λ (v : Phase). Follows v x.0 x.1 d) e s, refl)
run_more (y ∷ h) a b d x (m, s, r) t = (m, s, run_more h m b d x r t)

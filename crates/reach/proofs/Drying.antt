-- The dry junctions, from the marks of a search.
use Rattle.std.proofs.Common.{◌≡◌, ℕ, ◌-◌, ◌≤◌, Bool, false, not, ◌&&◌, ◌||◌, ltb, List, ◌++◌, length, get_or, drop, replicate, Some, None, Ok, Option, Result, sym, refl, ap, ◌∙◌, subst, ⊎_elim, arith}
use lib.ListN.{length-replicate}
use Rattle.std.proofs.lemmas.List.{get_or_past, get_or-replicate}
use Rattle.std.proofs.lemmas.Bool.{and_from, and_left, and_parts, both_ways, cases_Bool, cases_lt, le-ltb, lt-ltb, ltb-true, not_from_false, not-true}
use Rattle.plant.specs.declared.decline.Decline.{Decline}
use Rattle.plant.specs.declared.decline.Decline.TheVariants.{BufferLength}
use Rattle.plant.specs.declared.line.Line.{Line}
use Rattle.plant.specs.Held.{marked}
use Rattle.plant.specs.Plants.{Junctions}
use Rattle.plant.specs.Tests.{pass, test, test_list}
use Rattle.reach.specs.Drawn.{drawn}
use Rattle.reach.specs.Drying.{Dried, DrySet, Lent, first_of, test_dry}
use Rattle.reach.specs.Marking.{Marks, here}
use Rattle.reach.specs.Sets.{set_bytes, size}
use Rattle.reach.proofs.Bytes.{size_alike, size_past}

pub no_mark : (m w : ℕ) → get_or (replicate m false) w false ≡ false
no_mark m w = ⊎_elim (λ h. get_or-replicate m w false false h) (λ h. get_or_past (replicate m false) w false (omega (arith, length-replicate m false))) (cases_lt w m)

-- the unmarked junctions are the dry ones
pub dry_set : (n : ℕ) (ls : List Line) (marks : List Bool) (D : Junctions) → Marks (drawn ls) n 0 marks
    → ((v : ℕ) → D v ≡ (ltb v n && not (marked marks v))) → DrySet n ls D
dry_set n ls marks D m d v = (
  (λ e. let p = and_parts (ltb v n) (not (marked marks v)) (sym (d v) ∙ e) in
      let l = ltb-true v n p.0 in
      let f = not-true (marked marks v) p.1 in
      (l, (λ z. both_ways (marked marks v) f (ap (marked marks) z ∙ (m 0 (omega arith)).1 (here (omega arith)))), λ r. both_ways (marked marks v) f ((m v l).1 r))),
  (λ y. d v ∙ and_from (ltb v n) (not (marked marks v)) (lt-ltb v n y.0)
      (⊎_elim (λ t. absurd (y.2 ((m v y.0).0 t))) (λ f. not_from_false (marked marks v) f) (cases_Bool (marked marks v)))),
)

-- they are below n, so all of them are counted
pub dry_size : (n : ℕ) (marks : List Bool) (D S : Junctions) → n ≤ 256 → ((v : ℕ) → D v ≡ (ltb v n && not (marked marks v)))
    → ((v : ℕ) → S v ≡ D v) → size S 256 ≡ size D n
dry_size n marks D S h d s =
    size_alike S D 256 (λ v l. s v) ∙ ap (size D) (omega arith)
    ∙ size_past D n (256 - n) (λ v l. d v ∙ and_left (ltb v n) (not (marked marks v)) (le-ltb v n l))

pub passed : (o : Option Decline) → Ok tt ≡ pass o → o ≡ None
passed None e = refl
passed (Some d) e = absurd (let z : ◌≡◌ {A = ℕ} 0 1 = cc in omega arith)

-- the answer where no test failed
pub answered : (n : ℕ) (ls : List Line) (before after : Lent) (r : Result ℕ Decline) (D : Junctions)
    → test_list n ls None ≡ None → (ltb (length before.places) n || ltb (length before.bytes) 32) ≡ false
    → DrySet n ls D → r ≡ Ok (size D n) → after.bytes ≡ set_bytes D ++ drop 32 before.bytes
    → Dried n ls before after r (test_dry n ls (length before.places) (length before.bytes))
answered n ls before after r D t b d a w =
    subst (λ (o : Option Decline). Dried n ls before after r o)
    (sym (ap (λ (o : Option Decline). first_of o (test BufferLength (ltb (length before.places) n || ltb (length before.bytes) 32) None)) t
    ∙ ap (λ (f : Bool). test BufferLength f None) b))
    (D, d, a, w)

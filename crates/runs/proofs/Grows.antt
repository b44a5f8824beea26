-- One more call and its answer.
use Rattle.std.proofs.Common.{◌≡◌, ℕ, ◌+◌, ◌<◌, ◌≤◌, Bool, List, [], ◌∷◌, ◌++◌, length, get_or, take, set, Option, sym, refl, ap, ◌∙◌, subst, inl, inr, arith, length-take}
use Rattle.law.proofs.Steps.{run_more}
use Rattle.law.specs.declared.script.Answer.{Answer}
use Rattle.law.specs.declared.script.Call.{Call}
use Rattle.law.specs.declared.script.Call.TheVariants.{Tallies}
use Rattle.law.specs.Law.{Run, beside}
use Rattle.law.specs.Phases.{Phase, idle}
use Rattle.planner.specs.declared.machine.Planner.{Planner}
use Rattle.planner.specs.declared.machine.State.{State}
use Rattle.planner.specs.Calls.{Idles}
use Rattle.planner.specs.Standing.{Sound}
use Rattle.std.proofs.lemmas.List.{get_or_default, get_or-set_other, get_or-set_same, length-set, take_more}
use Rattle.std.proofs.lemmas.Bool.{cases_eq}
use Rattle.runs.specs.Played.{Played, Plays, SameCall, SameCalls}
use Rattle.runs.specs.Shows.{InPhase, Lawful, Shows}
use Rattle.runs.proofs.Steps.{same_call}

beside_more : (cs : List Call) (rs : List Answer) (c : Call) (r : Answer) → length cs ≡ length rs → beside (cs ++ c ∷ []) (rs ++ r ∷ []) ≡ beside cs rs ++ (c, r) ∷ []
beside_more [] [] c r e = refl
beside_more [] (y ∷ rs) c r e = absurd (omega arith)
beside_more (x ∷ cs) [] c r e = absurd (omega arith)
beside_more (x ∷ cs) (y ∷ rs) c r e = ap (λ (t : List (Call × Answer)). (x, y) ∷ t) (beside_more cs rs c r (omega arith))

-- the transcript of one call more
beside_grows : (cs : List Call) (rs rs' : List Answer) (i : ℕ) (r : Answer) → i < length cs → length rs ≡ i → rs' ≡ rs ++ r ∷ []
    → beside (take (i + 1) cs) rs' ≡ beside (take i cs) rs ++ (get_or cs i Tallies, r) ∷ []
beside_grows cs rs rs' i r lt long is =
    let same : length (take i cs) ≡ length rs = omega (arith, length-take i cs) in
    rw (take_more cs i Tallies lt, is) (beside_more (take i cs) rs (get_or cs i Tallies) r same)

-- a script as it was before, of which the first i calls were played
pub record Sofar (cs ds : List Call) (i : ℕ) : Type 0 where
  pub many : length ds ≡ length cs
  pub each : (k : ℕ) → k < length cs → SameCall (get_or cs k Tallies) (get_or ds k Tallies)
  pub later : (k : ℕ) → i ≤ k → get_or ds k Tallies ≡ get_or cs k Tallies

pub sofar_none : (cs : List Call) → Sofar cs cs 0
sofar_none cs = record { many = refl; each = λ k h. same_call (get_or cs k Tallies); later = λ k h. refl }

pub sofar_more : (cs ds : List Call) (i : ℕ) (c : Call) → i < length cs → Sofar cs ds i → SameCall (get_or cs i Tallies) c → Sofar cs (set ds i c) (i + 1)
sofar_more cs ds i c lt s same =
    record {
      many = length-set ds i c ∙ s.many;
      each = λ k h. elim (cases_eq k i) [
        | inl e ↦ subst (λ (j : ℕ). SameCall (get_or cs j Tallies) (get_or (set ds i c) j Tallies)) (sym e) (subst (λ (x : Call). SameCall (get_or cs i Tallies) x) (sym (get_or-set_same ds i c Tallies (omega (arith, s.many)))) same)
        | inr e ↦ subst (λ (x : Call). SameCall (get_or cs k Tallies) x) (sym (get_or-set_other ds i k c Tallies e)) (s.each k h)
      ];
      later = λ k h. get_or-set_other ds i k c Tallies (λ e. omega (arith, h, e)) ∙ s.later k (omega (arith, h));
    }

-- the call that is next
pub next_call : (cs ds : List Call) (i : ℕ) (x : Call) → i < length cs → Sofar cs ds i → get_or ds i x ≡ get_or cs i Tallies
next_call cs ds i x lt s = get_or_default ds i x Tallies (omega (arith, lt, s.many)) ∙ s.later i (omega arith)

pub sofar_same : (cs ds : List Call) (i : ℕ) → Sofar cs ds i → SameCalls cs ds
sofar_same cs ds i s = record { many = s.many; each = s.each }

module _ {C : Type 0} (has : C → ℕ → Bool) (clears : C → C → Type 0) (puts : C → ℕ → ℕ → C → Type 0) (takes : C → Option ℕ → C → Type 0) where
  plays_more : (h : List (Call × Answer)) (a b d : Planner C) (x : Call × Answer) → Plays has clears puts takes a h b → Played has clears puts takes b x.0 x.1 d → Plays has clears puts takes a (h ++ x ∷ []) d
  plays_more [] a b d x e s = (d, subst (λ (p : Planner C). Played has clears puts takes p x.0 x.1 d) e s, refl)
  plays_more (y ∷ h) a b d x e s = (e.0, e.1, plays_more h e.0 b d x e.2 s)

  -- the calls h were played on a planner that was idle, which then stands at p
  pub record Running (first : Planner C) (h : List (Call × Answer)) (p : Planner C) : Type 0 where
    pub plays : Plays has clears puts takes first h p
    pub phase : Phase
    pub run : Run idle h phase
    pub shows : Shows has p phase

  pub running_new : (c : C) (p : Planner C) → Idles c p → Sound has p → Running p [] p
  running_new c p n s = record { plays = refl; phase = idle; run = refl; shows = record { sound = s; phase = subst (λ (m : State). InPhase m p idle) (sym n.state) refl } }

  pub running_more : (first : Planner C) (cs : List Call) (rs rs' : List Answer) (i : ℕ) (r : Answer) (p p' : Planner C) → i < length cs → length rs ≡ i → rs' ≡ rs ++ r ∷ []
      → Running first (beside (take i cs) rs) p → Played has clears puts takes p (get_or cs i Tallies) r p' → Lawful has p (get_or cs i Tallies) r p'
      → Running first (beside (take (i + 1) cs) rs') p'
  running_more first cs rs rs' i r p p' lt long is w played lawful =
      let f = lawful w.phase w.shows in
      rw (beside_grows cs rs rs' i r lt long is)
      (record {
        plays = plays_more (beside (take i cs) rs) first p p' (get_or cs i Tallies, r) w.plays played;
        phase = f.0;
        run = run_more (beside (take i cs) rs) idle w.phase f.0 (get_or cs i Tallies, r) w.run f.1;
        shows = f.2;
      })

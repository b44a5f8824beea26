-- The arcs of stage one, part by part: the plant's, the line back, and those of the junctions.
use Rattle.std.proofs.Common.{◌≡◌, ℕ, zero, suc, ◌+◌, ◌-◌, ◌<◌, ◌≤◌, Bool, true, false, cond, eqb, ◌⊎◌, List, [], ◌∷◌, ◌++◌, map, length, get_or, drop, sym, refl, ap, ◌∙◌, subst, inl, inr, arith}
use Rattle.std.specs.List.{ContainsAt, AllByRecursion}
use Rattle.std.proofs.ByRecursion.{All-append, All-weaker, has_append_left, has_append_right}
use Rattle.std.proofs.lemmas.Bool.{cases_eq, eq-eqb, ne_eqb, cond-true, cond-false}
use Rattle.plant.specs.declared.line.Line.{Line}
use Rattle.plant.specs.Plants.{Plant, Flow, SoundLine, no_line, carried, summed, leaves, ends, low_of, high_of, inflow, outflow}
use Rattle.plant.specs.Held.{Arc, lines_of, flows_of}
use Rattle.cuts.proofs.Sums.{cond_zero}
use Rattle.cuts.proofs.Hurdles.{with_back}
use Rattle.stage.specs.Model.{come, gone}
use Rattle.stage.specs.States.{SoundArc}
use Rattle.stage.specs.First.{shifted, added_line, back_line, surplus_line, surplus_lines, first_lines, second_arcs}
use Rattle.stage.proofs.Cuts.{carries}
use Rattle.first.proofs.Network.{lows_in, lows_out, Surplus, source, sink, same, surplus_kind}

has_later : (x : Arc) (xs : List Arc) (a : Arc) → ContainsAt xs a → ContainsAt (x ∷ xs) a
has_later x xs a h = (suc h.0, omega (arith, h.1), h.2)

has_drop : (k : ℕ) (xs : List Arc) (a : Arc) → ContainsAt (drop k xs) a → ContainsAt xs a
has_drop zero xs a h = h
has_drop (suc k) [] a h = h
has_drop (suc k) (x ∷ xs) a h = has_later x xs a (has_drop k xs a h)

clash : {A : Type 0} (x : Line) (xs : List Line) → [] ≡ x ∷ xs → A
clash x xs e = let z : ◌≡◌ {A = ℕ} 0 1 = cc in absurd (omega arith)

-- the ends of equal lines
pub same_from : {k l : Line} → k ≡ l → k.from ≡ l.from
same_from e = ap (λ (l : Line). l.from) e

pub same_to : {k l : Line} → k ≡ l → k.to ≡ l.to
same_to e = ap (λ (l : Line). l.to) e

-- ---- the plant's arcs stand in front
-- a stands for line number k, and f has its flow with low added
pub record Own (ks : List Line) (f : Flow) (k : ℕ) (a : Arc) : Type 0 where
  pub inside : k < length ks
  pub is : a.line ≡ shifted (get_or ks k no_line)
  pub flow : get_or f k 0 ≡ low_of (get_or ks k no_line) + a.flow

abbrev pub Front : List Line → List Line → List Arc → Type 0
Front ks rest ls = lines_of ls ≡ map shifted ks ++ rest

front_rest : (ks rest : List Line) (ls : List Arc) → Front ks rest ls → lines_of (drop (length ks) ls) ≡ rest
front_rest [] rest ls e = e
front_rest (l ∷ ks) rest [] e = clash (shifted l) (map shifted ks ++ rest) e
front_rest (l ∷ ks) rest (a ∷ ls) e = front_rest ks rest ls (cc)

pub second_lines : (ks rest : List Line) (ls : List Arc) → Front ks rest ls → lines_of (second_arcs ks ls) ≡ ks
second_lines [] rest ls e = refl
second_lines (l ∷ ks) rest [] e = clash (shifted l) (map shifted ks ++ rest) e
second_lines (l ∷ ks) rest (a ∷ ls) e = ap (λ k. l ∷ k) (second_lines ks rest ls (cc))

pub second_sound : (n m : ℕ) (ks rest : List Line) (ls : List Arc) → Front ks rest ls → AllByRecursion (SoundLine n) ks → AllByRecursion (SoundArc m) ls → AllByRecursion (SoundArc n) (second_arcs ks ls)
second_sound n m [] rest ls e s t = tt
second_sound n m (l ∷ ks) rest [] e s t = tt
second_sound n m (l ∷ ks) rest (a ∷ ls) e s t =
    let is : a.line ≡ shifted l = cc in (
      record { sound = s.0; above = omega arith; below = omega (arith, t.0.below, ap high_of is, s.0.ordered) },
      second_sound n m ks rest ls (cc) s.1 t.1,
    )

front_all : (Q : Arc → Type 0) (ks rest : List Line) (ls : List Arc) → Front ks rest ls → ((k : ℕ) (a : Arc) → Own ks (flows_of (second_arcs ks ls)) k a → Q a) → AllByRecursion Q (drop (length ks) ls) → AllByRecursion Q ls
front_all Q [] rest ls e h r = r
front_all Q (l ∷ ks) rest [] e h r = tt
front_all Q (l ∷ ks) rest (a ∷ ls) e h r = (
  h 0 a (record { inside = omega arith; is = cc; flow = refl }),
  front_all Q ks rest ls (cc) (λ k b o. h (suc k) b (record { inside = omega arith; is = o.is; flow = o.flow })) r,
)

front_at : (ks rest : List Line) (ls : List Arc) → Front ks rest ls → (k : ℕ) → k < length ks → (a : Arc) × ContainsAt ls a × Own ks (flows_of (second_arcs ks ls)) k a
front_at [] rest ls e k j = absurd (omega arith)
front_at (l ∷ ks) rest [] e k j = clash (shifted l) (map shifted ks ++ rest) e
front_at (l ∷ ks) rest (a ∷ ls) e zero j = (a, (0, omega arith, λ d. refl), record { inside = j; is = cc; flow = refl })
front_at (l ∷ ks) rest (a ∷ ls) e (suc k) j =
    let r = front_at ks rest ls (cc) k (omega arith) in
    (r.0, has_later a ls r.0 r.1, record { inside = j; is = r.2.is; flow = r.2.flow })

-- what they carry, with low added
front_carries : (p : Line → Bool) → ((l : Line) → p (shifted l) ≡ p l) → (ks rest : List Line) (ls : List Arc) → Front ks rest ls →
    carries p ls + summed p low_of ks ≡ carried p ks (flows_of (second_arcs ks ls)) + carries p (drop (length ks) ls)
front_carries p s [] rest ls e = omega arith
front_carries p s (l ∷ ks) rest [] e = clash (shifted l) (map shifted ks ++ rest) e
front_carries p s (l ∷ ks) rest (a ∷ ls) e =
    let is : a.line ≡ shifted l = cc in
    omega (arith, one (p a.line) (p l) (ap p is ∙ s l), front_carries p s ks rest ls (cc))
  where
    one : (b c : Bool) → b ≡ c → cond b a.flow 0 + cond c (low_of l) 0 ≡ cond c (low_of l + a.flow) 0
    one true true q = omega arith
    one true false q = let z : ◌≡◌ {A = ℕ} 0 1 = cc in absurd (omega arith)
    one false true q = let z : ◌≡◌ {A = ℕ} 0 1 = cc in absurd (omega arith)
    one false false q = omega arith

-- ---- the arcs of the junctions
-- a leads from n to u and carries x
pub record Source (n : ℕ) (ks : List Line) (u x : ℕ) (a : Arc) : Type 0 where
  pub gap : lows_out ks u < lows_in ks u
  pub is : a.line ≡ added_line n u (lows_in ks u - lows_out ks u)
  pub flow : a.flow ≡ x

-- a leads from u to n + 1 and carries x
pub record Sink (n : ℕ) (ks : List Line) (u x : ℕ) (a : Arc) : Type 0 where
  pub gap : lows_in ks u < lows_out ks u
  pub is : a.line ≡ added_line u (n + 1) (lows_out ks u - lows_in ks u)
  pub flow : a.flow ≡ x

-- the arcs of one junction
record One (n : ℕ) (ks : List Line) (m : ℕ) (right : List Arc) : Type 0 where
  x : ℕ
  y : ℕ
  coming : (u : ℕ) → u < n → come right u ≡ cond (eqb m u) x 0
  going : (u : ℕ) → u < n → gone right u ≡ cond (eqb m u) y 0
  kinds : AllByRecursion (λ a. Source n ks m x a ⊎ Sink n ks m y a) right
  source_arc : lows_out ks m < lows_in ks m → (a : Arc) × ContainsAt right a × Source n ks m x a
  sink_arc : lows_in ks m < lows_out ks m → (a : Arc) × ContainsAt right a × Sink n ks m y a
  no_x : lows_in ks m ≤ lows_out ks m → x ≡ 0
  no_y : lows_out ks m ≤ lows_in ks m → y ≡ 0

-- a list of one
only : (l : Line) (ls : List Arc) → lines_of ls ≡ l ∷ [] → (a : Arc) × (ls ≡ a ∷ []) × (a.line ≡ l)
only l [] e = clash l [] e
only l (a ∷ []) e = (a, refl, cc)
only l (a ∷ b ∷ ls) e = let z : ◌≡◌ {A = ℕ} 0 1 = cc in absurd (omega arith)

none : (ls : List Arc) → lines_of ls ≡ [] → ls ≡ []
none [] e = refl
none (a ∷ ls) e = let z : ◌≡◌ {A = ℕ} 0 1 = cc in absurd (omega arith)

alone : (e u x : ℕ) → (e ≡ u → ⊥) → cond (eqb e u) x 0 + 0 ≡ 0
alone e u x h = omega (arith, cond-false (eqb e u) x 0 (ne_eqb e u h))

one : (n : ℕ) (ks : List Line) (m : ℕ) (right : List Arc) (xs : List Line) → m < n → Surplus n ks m xs → lines_of right ≡ xs → One n ks m right
one n ks m right xs j (source h) e =
    let o = only (added_line n m (lows_in ks m - lows_out ks m)) right e in
    let a = o.0 in
    let s : Source n ks m a.flow a = record { gap = h; is = o.2; flow = refl } in
    subst (One n ks m) (sym o.1) (record {
      x = a.flow;
      y = 0;
      coming = λ u i. omega (arith, ap (λ (l : Line). cond (eqb l.to u) a.flow 0) o.2);
      going = λ u i. omega (arith, ap (λ (l : Line). cond (eqb l.from u) a.flow 0) o.2, alone n u a.flow (λ q. omega arith), cond_zero (eqb m u));
      kinds = (inl s, tt);
      source_arc = λ _. (a, (0, omega arith, λ d. refl), s);
      sink_arc = λ g. absurd (omega arith);
      no_x = λ g. absurd (omega arith);
      no_y = λ g. refl;
    })
one n ks m right xs j (sink h) e =
    let o = only (added_line m (n + 1) (lows_out ks m - lows_in ks m)) right e in
    let a = o.0 in
    let s : Sink n ks m a.flow a = record { gap = h; is = o.2; flow = refl } in
    subst (One n ks m) (sym o.1) (record {
      x = 0;
      y = a.flow;
      coming = λ u i. omega (arith, ap (λ (l : Line). cond (eqb l.to u) a.flow 0) o.2, alone (n + 1) u a.flow (λ q. omega arith), cond_zero (eqb m u));
      going = λ u i. omega (arith, ap (λ (l : Line). cond (eqb l.from u) a.flow 0) o.2);
      kinds = (inr s, tt);
      source_arc = λ g. absurd (omega arith);
      sink_arc = λ _. (a, (0, omega arith, λ d. refl), s);
      no_x = λ g. refl;
      no_y = λ g. absurd (omega arith);
    })
one n ks m right xs j (same h) e =
    subst (One n ks m) (sym (none right e)) (record {
      x = 0;
      y = 0;
      coming = λ u i. sym (cond_zero (eqb m u));
      going = λ u i. sym (cond_zero (eqb m u));
      kinds = tt;
      source_arc = λ g. absurd (omega arith);
      sink_arc = λ g. absurd (omega arith);
      no_x = λ g. refl;
      no_y = λ g. refl;
    })

-- the arcs of the junctions below m; each carries what they bring its junction or take from it
pub record Surpluses (n : ℕ) (ks : List Line) (m : ℕ) (ss : List Arc) : Type 0 where
  pub kinds : AllByRecursion (λ a. (u : ℕ) × (u < m) × (Source n ks u (come ss u) a ⊎ Sink n ks u (gone ss u) a)) ss
  pub source_arc : (u : ℕ) → u < m → lows_out ks u < lows_in ks u → (a : Arc) × ContainsAt ss a × Source n ks u (come ss u) a
  pub sink_arc : (u : ℕ) → u < m → lows_in ks u < lows_out ks u → (a : Arc) × ContainsAt ss a × Sink n ks u (gone ss u) a
  pub no_come : (u : ℕ) → u < n → (u < m → lows_in ks u ≤ lows_out ks u) → come ss u ≡ 0
  pub no_gone : (u : ℕ) → u < n → (u < m → lows_out ks u ≤ lows_in ks u) → gone ss u ≡ 0

carries_append : (p : Line → Bool) (xs ys : List Arc) → carries p (xs ++ ys) ≡ carries p xs + carries p ys
carries_append p [] ys = omega arith
carries_append p (x ∷ xs) ys = omega (arith, carries_append p xs ys)

record Split (xs ys : List Line) (ss : List Arc) : Type 0 where
  left : List Arc
  right : List Arc
  is : ss ≡ left ++ right
  lefts : lines_of left ≡ xs
  rights : lines_of right ≡ ys

split : (xs ys : List Line) (ss : List Arc) → lines_of ss ≡ xs ++ ys → Split xs ys ss
split [] ys ss e = record { left = []; right = ss; is = refl; lefts = refl; rights = e }
split (x ∷ xs) ys [] e = clash x (xs ++ ys) e
split (x ∷ xs) ys (a ∷ ss) e =
    let r = split xs ys ss (cc) in
    let p = r.lefts in
    record { left = a ∷ r.left; right = r.right; is = ap (λ k. a ∷ k) r.is; lefts = cc; rights = r.rights }

next : (n : ℕ) (ks : List Line) (m : ℕ) (left right : List Arc) → m < n → Surpluses n ks m left → One n ks m right → Surpluses n ks (suc m) (left ++ right)
next n ks m left right j s o =
    let ss = left ++ right in
    let c : (u : ℕ) → u < n → come ss u ≡ come left u + cond (eqb m u) o.x 0 = λ u i. omega (arith, carries_append (ends u) left right, o.coming u i) in
    let g : (u : ℕ) → u < n → gone ss u ≡ gone left u + cond (eqb m u) o.y 0 = λ u i. omega (arith, carries_append (leaves u) left right, o.going u i) in
    let c-old : (u : ℕ) → u < n → (u ≡ m → ⊥) → come ss u ≡ come left u = λ u i q. omega (arith, c u i, alone m u o.x (λ e. q (sym e))) in
    let g-old : (u : ℕ) → u < n → (u ≡ m → ⊥) → gone ss u ≡ gone left u = λ u i q. omega (arith, g u i, alone m u o.y (λ e. q (sym e))) in
    let c-new : come ss m ≡ o.x = omega (arith, c m j, cond-true (eqb m m) o.x 0 (eq-eqb m m refl), s.no_come m j (λ l. absurd (omega arith))) in
    let g-new : gone ss m ≡ o.y = omega (arith, g m j, cond-true (eqb m m) o.y 0 (eq-eqb m m refl), s.no_gone m j (λ l. absurd (omega arith))) in
    let source-old : (u : ℕ) (a : Arc) → u < m → Source n ks u (come left u) a → Source n ks u (come ss u) a = λ u a i r. record { gap = r.gap; is = r.is; flow = r.flow ∙ sym (c-old u (omega arith) (λ e. omega arith)) } in
    let sink-old : (u : ℕ) (a : Arc) → u < m → Sink n ks u (gone left u) a → Sink n ks u (gone ss u) a = λ u a i r. record { gap = r.gap; is = r.is; flow = r.flow ∙ sym (g-old u (omega arith) (λ e. omega arith)) } in
    let source-new : (a : Arc) → Source n ks m o.x a → Source n ks m (come ss m) a = λ a r. record { gap = r.gap; is = r.is; flow = r.flow ∙ sym c-new } in
    let sink-new : (a : Arc) → Sink n ks m o.y a → Sink n ks m (gone ss m) a = λ a r. record { gap = r.gap; is = r.is; flow = r.flow ∙ sym g-new } in
    let Kind : Arc → Type 0 = λ a. (u : ℕ) × (u < suc m) × (Source n ks u (come ss u) a ⊎ Sink n ks u (gone ss u) a) in
    record {
      kinds = All-append Kind left right
          (All-weaker (λ a. (u : ℕ) × (u < m) × (Source n ks u (come left u) a ⊎ Sink n ks u (gone left u) a)) Kind (λ a k.
          let i = k.1 in
          (k.0, omega arith, elim k.2 [ inl r ↦ inl (source-old k.0 a i r) | inr r ↦ inr (sink-old k.0 a i r) ])) left s.kinds)
          (All-weaker (λ a. Source n ks m o.x a ⊎ Sink n ks m o.y a) Kind (λ a k.
          (m, omega arith, elim k [ inl r ↦ inl (source-new a r) | inr r ↦ inr (sink-new a r) ])) right o.kinds);
      source_arc = λ u i h. elim (cases_eq u m) [
        | inl e ↦
            let G : ℕ → Type 0 = λ v. (a : Arc) × ContainsAt ss a × Source n ks v (come ss v) a in
            let r = o.source_arc (omega (arith, ap (lows_in ks) e, ap (lows_out ks) e)) in
            subst G (sym e) (r.0, has_append_right left right r.0 r.1, source-new r.0 r.2)
        | inr q ↦
            let r = s.source_arc u (omega arith) h in
            (r.0, has_append_left left right r.0 r.1, source-old u r.0 (omega arith) r.2)
      ];
      sink_arc = λ u i h. elim (cases_eq u m) [
        | inl e ↦
            let G : ℕ → Type 0 = λ v. (a : Arc) × ContainsAt ss a × Sink n ks v (gone ss v) a in
            let r = o.sink_arc (omega (arith, ap (lows_in ks) e, ap (lows_out ks) e)) in
            subst G (sym e) (r.0, has_append_right left right r.0 r.1, sink-new r.0 r.2)
        | inr q ↦
            let r = s.sink_arc u (omega arith) h in
            (r.0, has_append_left left right r.0 r.1, sink-old u r.0 (omega arith) r.2)
      ];
      no_come = λ u i h. elim (cases_eq u m) [
        | inl e ↦ ap (come ss) e ∙ c-new ∙ o.no_x (omega (arith, h (omega arith), ap (lows_in ks) e, ap (lows_out ks) e))
        | inr q ↦ c-old u i q ∙ s.no_come u i (λ l. h (omega arith))
      ];
      no_gone = λ u i h. elim (cases_eq u m) [
        | inl e ↦ ap (gone ss) e ∙ g-new ∙ o.no_y (omega (arith, h (omega arith), ap (lows_in ks) e, ap (lows_out ks) e))
        | inr q ↦ g-old u i q ∙ s.no_gone u i (λ l. h (omega arith))
      ];
    }

surpluses : (n : ℕ) (ks : List Line) (m : ℕ) (ss : List Arc) → m ≤ n → lines_of ss ≡ surplus_lines n ks m → Surpluses n ks m ss
surpluses n ks zero ss h e =
    subst (Surpluses n ks zero) (sym (none ss e)) (record {
      kinds = tt;
      source_arc = λ u i. absurd (omega arith);
      sink_arc = λ u i. absurd (omega arith);
      no_come = λ u i g. refl;
      no_gone = λ u i g. refl;
    })
surpluses n ks (suc m) ss h e =
    let r = split (surplus_lines n ks m) (surplus_line n ks m) ss e in
    subst (Surpluses n ks (suc m)) (sym r.is) (next n ks m r.left r.right (omega arith) (surpluses n ks m r.left (omega arith) r.lefts) (one n ks m r.right (surplus_line n ks m) (omega arith) (surplus_kind n ks m) r.rights))

-- ---- all together
-- the flow of the plant with a line back, which carries x
abbrev pub back_flow : Plant → List Arc → ℕ → Flow
back_flow P ls x = x ∷ flows_of (second_arcs P.lines ls)

-- the parts that an arc can be of
pub data Kind (P : Plant) (ls : List Arc) (x : ℕ) (ss : List Arc) (a : Arc) : Type 0 where
  own : (k : ℕ) → Own P.lines (flows_of (second_arcs P.lines ls)) k a → Kind P ls x ss a
  back : a.line ≡ back_line P.lines → a.flow ≡ x → Kind P ls x ss a
  from_start : (u : ℕ) → u < P.junctions → Source P.junctions P.lines u (come ss u) a → Kind P ls x ss a
  to_goal : (u : ℕ) → u < P.junctions → Sink P.junctions P.lines u (gone ss u) a → Kind P ls x ss a

-- x is the flow of the line back, and ss are the arcs of the junctions
pub record Reading (P : Plant) (ls : List Arc) : Type 0 where
  pub x : ℕ
  pub ss : List Arc
  pub surplus_arcs : Surpluses P.junctions P.lines P.junctions ss
  pub kinds : AllByRecursion (Kind P ls x ss) ls
  pub later : (a : Arc) → ContainsAt ss a → ContainsAt ls a
  pub own_arc : (k : ℕ) → k < length P.lines → (a : Arc) × ContainsAt ls a × Own P.lines (flows_of (second_arcs P.lines ls)) k a
  pub back_arc : (a : Arc) × ContainsAt ls a × (a.line ≡ back_line P.lines) × (a.flow ≡ x)
  pub coming : (u : ℕ) → come ls u + lows_in P.lines u ≡ inflow (with_back P) (back_flow P ls x) u + come ss u
  pub going : (u : ℕ) → gone ls u + lows_out P.lines u ≡ outflow (with_back P) (back_flow P ls x) u + gone ss u

pub reading : (P : Plant) (ls : List Arc) → lines_of ls ≡ first_lines P → Reading P ls
reading P ls e = go (drop (length P.lines) ls) refl (front_rest P.lines (back_line P.lines ∷ surplus_lines P.junctions P.lines P.junctions) ls e)
  where
    go : (rest : List Arc) → drop (length P.lines) ls ≡ rest → lines_of rest ≡ back_line P.lines ∷ surplus_lines P.junctions P.lines P.junctions → Reading P ls
    go [] d q = clash (back_line P.lines) (surplus_lines P.junctions P.lines P.junctions) q
    go (b ∷ ss) d q =
        let n = P.junctions in
        let ks = P.lines in
        let rest = back_line ks ∷ surplus_lines n ks n in
        let is : b.line ≡ back_line ks = cc in
        let sur = surpluses n ks n ss (omega arith) (cc) in
        record {
          x = b.flow;
          ss = ss;
          surplus_arcs = sur;
          kinds = front_all (Kind P ls b.flow ss) ks rest ls e (λ k a o. own k o) (subst (AllByRecursion (Kind P ls b.flow ss)) (sym d) (
            back is refl,
            All-weaker (λ a. (u : ℕ) × (u < n) × (Source n ks u (come ss u) a ⊎ Sink n ks u (gone ss u) a)) (Kind P ls b.flow ss) (λ a k.
                elim k.2 [ inl r ↦ from_start k.0 k.1 r | inr r ↦ to_goal k.0 k.1 r ]) ss sur.kinds,
          ));
          later = λ a h. has_drop (length ks) ls a (subst (λ (zs : List Arc). ContainsAt zs a) (sym d) (has_later b ss a h));
          own_arc = front_at ks rest ls e;
          back_arc = (b, has_drop (length ks) ls b (subst (λ (zs : List Arc). ContainsAt zs b) (sym d) (0, omega arith, λ d. refl)), is, refl);
          coming = λ u. omega (arith, front_carries (ends u) (λ l. refl) ks rest ls e, ap (carries (ends u)) d, ap (λ (l : Line). cond (eqb l.to u) b.flow 0) is);
          going = λ u. omega (arith, front_carries (leaves u) (λ l. refl) ks rest ls e, ap (carries (leaves u)) d, ap (λ (l : Line). cond (eqb l.from u) b.flow 0) is);
        }

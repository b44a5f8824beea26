-- Flows of a plant as lines with flows.
use Rattle.std.proofs.Common.{◌≡◌, ℕ, ◌<◌, List, [], ◌∷◌, length, get_or, sym, refl, ap, ◌∙◌, subst, arith}
use Rattle.std.proofs.lemmas.Int.{ints}
use Rattle.std.proofs.lemmas.List.{length-map, get_or-map}
use Rattle.std.proofs.ByRecursion.{All-get_or, All-from_get_or}
use Rattle.plant.specs.Plants.{Plant, Sound, SoundLine, line, no_line, at, Flow, Feasible, inflow, outflow, carried, leaves, ends, low_of, high_of}
use Rattle.plant.specs.Held.{Arc, line_of, flow_of, lines_of, flows_of}
use Rattle.plant.specs.declared.line.Line.{Line}
use Rattle.stage.specs.Model.{come, gone}
use Rattle.stage.specs.States.{SoundArc, Balanced}
use Rattle.stage.specs.Laws.{SecondStageBest}
use Rattle.stage.proofs.Best.{end_is_best}

-- stands for an arc where there is none
abbrev pub arc0 : Arc
arc0 = record { line = no_line; flow = 0 }

module _ (P : Plant) (f : Flow) (ls : List Arc) (el : lines_of ls ≡ P.lines) (ef : flows_of ls ≡ f) where
  pub come_inflow : (u : ℕ) → come ls u ≡ inflow P f u
  come_inflow u = ap (λ k. carried (ends u) k (flows_of ls)) el ∙ ap (carried (ends u) P.lines) ef

  pub gone_outflow : (u : ℕ) → gone ls u ≡ outflow P f u
  gone_outflow u = ap (λ k. carried (leaves u) k (flows_of ls)) el ∙ ap (carried (leaves u) P.lines) ef

  long : length ls ≡ length P.lines
  long = sym (length-map ls line_of) ∙ ap length el

  line_at : (k : ℕ) → k < length ls → (get_or ls k arc0).line ≡ line P k
  line_at k h = sym (get_or-map line_of ls k arc0 no_line h) ∙ ap (λ (xs : List Line). get_or xs k no_line) el

  flow_at : (k : ℕ) → k < length ls → (get_or ls k arc0).flow ≡ at f k
  flow_at k h = sym (get_or-map flow_of ls k arc0 0 h) ∙ ap (λ (xs : List ℕ). get_or xs k 0) ef

  -- a feasible flow is balanced between header and tank
  pub feasible_balanced : Sound P → Feasible P f → Balanced P.junctions 0 1 ls
  feasible_balanced s b =
      record {
        lines = All-from_get_or (SoundArc P.junctions) ls arc0 (λ k h.
            let q = line_at k h in
            record {
              sound = subst (SoundLine P.junctions) (sym q) (s.each k (omega (arith, long)));
              above = omega (arith, b.within.above k (omega (arith, long)), flow_at k h, ap low_of q);
              below = omega (arith, b.within.below k (omega (arith, long)), flow_at k h, ap high_of q);
            });
        even = λ u k p q. come_inflow u ∙ b.kept u k p q ∙ sym (gone_outflow u);
      }

  -- and the other way round
  pub balanced_feasible : Balanced P.junctions 0 1 ls → Feasible P f
  balanced_feasible b =
      let at' : (k : ℕ) → k < length ls → SoundArc P.junctions (get_or ls k arc0) = λ k h. All-get_or (SoundArc P.junctions) ls k arc0 h b.lines in
      record {
        within = record {
          each = ap length (sym ef) ∙ length-map ls flow_of ∙ long;
          above = λ k h. let j : k < length ls = omega (arith, long) in omega (arith, (at' k j).above, flow_at k j, ap low_of (line_at k j));
          below = λ k h. let j : k < length ls = omega (arith, long) in omega (arith, (at' k j).below, flow_at k j, ap high_of (line_at k j));
        };
        kept = λ u k p q. sym (come_inflow u) ∙ b.even u k p q ∙ gone_outflow u;
      }

-- start and goal may change places
pub swapped : (n s t : ℕ) (ls : List Arc) → Balanced n s t ls → Balanced n t s ls
swapped n s t ls b = record { lines = b.lines; even = λ u k p q. b.even u k q p }

-- lines with the flows of a list
abbrev pub with_flows : List Line → Flow → List Arc
with_flows [] f = []
with_flows (l ∷ ls) [] = []
with_flows (l ∷ ls) (x ∷ f) = record { line = l; flow = x } ∷ with_flows ls f

pub with_flows_are : (ls : List Line) (f : Flow) → length f ≡ length ls → (lines_of (with_flows ls f) ≡ ls) × (flows_of (with_flows ls f) ≡ f)
with_flows_are [] [] e = (refl, refl)
with_flows_are [] (x ∷ f) e = absurd (omega arith)
with_flows_are (l ∷ ls) [] e = absurd (omega arith)
with_flows_are (l ∷ ls) (x ∷ f) e =
    let r = with_flows_are ls f (omega arith) in
    (ap (λ k. l ∷ k) r.0, ap (λ k. x ∷ k) r.1)

-- a feasible flow of P as a balanced flow of its lines
record Beside (P : Plant) (g : Flow) (ks : List Arc) : Type 0 where
  lines : lines_of ks ≡ P.lines
  balanced : Balanced P.junctions 0 1 ks
  come_in : come ks 0 ≡ inflow P g 0
  go_out : gone ks 0 ≡ outflow P g 0

beside : (P : Plant) (g : Flow) → Sound P → Feasible P g → Beside P g (with_flows P.lines g)
beside P g s b =
    let ks = with_flows P.lines g in
    let r = with_flows_are P.lines g b.within.each in
    record {
      lines = r.0;
      balanced = feasible_balanced P g ks r.0 r.1 s b;
      come_in = come_inflow P g ks r.0 r.1 0;
      go_out = gone_outflow P g ks r.0 r.1 0;
    }

pub second_stage_best : SecondStageBest
second_stage_best P ls s e =
    let f = flows_of ls in
    let ci = come_inflow P f ls e refl 0 in
    let go = gone_outflow P f ls e refl 0 in
    record {
      forth = feasible_balanced P f ls e refl s;
      back = λ b. swapped P.junctions 0 1 ls (feasible_balanced P f ls e refl s b);
      greatest = λ ms rs d.
          let r = end_is_best P.junctions 0 1 ms ls rs d in
          record {
            feasible = balanced_feasible P f ls e refl r.0;
            best = λ g b.
                let k = beside P g s b in
                let m = r.1 (with_flows P.lines g) k.balanced (e ∙ sym k.lines) in
                omega (arith, ints, m.start);
          };
      least = λ ms rs d.
          let r = end_is_best P.junctions 1 0 ms ls rs d in
          record {
            feasible = balanced_feasible P f ls e refl (swapped P.junctions 1 0 ls r.0);
            best = λ g b.
                let k = beside P g s b in
                let m = r.1 (with_flows P.lines g) (swapped P.junctions 0 1 (with_flows P.lines g) k.balanced) (e ∙ sym k.lines) in
                omega (arith, ints, m.goal);
          };
    }

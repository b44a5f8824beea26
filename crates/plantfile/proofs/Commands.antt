-- Commands on a page, one after another.
use Rattle.std.proofs.Common.{◌≡◌, ℕ, ◌+◌, ◌*◌, List, [], ◌∷◌, ◌++◌, map, length, sym, refl, ap, ◌∙◌, append_assoc, arith, length-append}
use Rattle.std.specs.List.{flat_map}
use Rattle.plant.specs.declared.aim.Aim.{Aim}
use Rattle.plant.specs.declared.line.Line.{Line}
use Rattle.plantfile.specs.declared.reader.Command.{Command}
use Rattle.plantfile.specs.declared.reader.Command.TheVariants.{Draw, Try, End}
use Rattle.plant.specs.declared.line.Trial.{Trial}
use Rattle.plantfile.specs.Writing.{command_bytes, encoded, line_bytes, trial_bytes}

-- pieces of eleven bytes
pub length_pieces : {X : Type 0} (f : X → List ℕ) (each : (x : X) → length (f x) ≡ 11) (xs : List X) → length (flat_map f xs) ≡ 11 * length xs
length_pieces f each [] = refl
length_pieces f each (x ∷ xs) = length-append (f x) (flat_map f xs) ∙ omega (arith, each x, length_pieces f each xs)

-- all L, then all T
abbrev pub drawn_tried : List Line → List Trial → List Command
drawn_tried ls ts = map Draw ls ++ map Try ts

pub drawn_tried_bytes : (ls : List Line) (ts : List Trial) → flat_map command_bytes (drawn_tried ls ts) ≡ flat_map line_bytes ls ++ flat_map trial_bytes ts
drawn_tried_bytes [] [] = refl
drawn_tried_bytes [] (t ∷ ts) = ap (λ bs. trial_bytes t ++ bs) (drawn_tried_bytes [] ts)
drawn_tried_bytes (l ∷ ls) ts = ap (λ bs. line_bytes l ++ bs) (drawn_tried_bytes ls ts)

pub encoded_is : (n : ℕ) (ls : List Line) (ts : List Trial) (a : Aim) → (78 ∷ n ∷ []) ++ (flat_map command_bytes (drawn_tried ls ts) ++ command_bytes (End a)) ≡ encoded (record { junctions = n; lines = ls; trials = ts; aim = a })
encoded_is n ls ts a = ap (λ bs. 78 ∷ n ∷ bs) (ap (λ bs. bs ++ command_bytes (End a)) (drawn_tried_bytes ls ts) ∙ append_assoc (flat_map line_bytes ls) (flat_map trial_bytes ts) (command_bytes (End a)))

pub length_encoded : (n : ℕ) (ls : List Line) (ts : List Trial) (a : Aim) → length (encoded (record { junctions = n; lines = ls; trials = ts; aim = a })) ≡ 3 + length (flat_map command_bytes (drawn_tried ls ts))
length_encoded n ls ts a = ap length (sym (encoded_is n ls ts a)) ∙ omega (arith, length-append (flat_map command_bytes (drawn_tried ls ts)) (command_bytes (End a)))

-- Items kept in the caller's memory.
use Rattle.std.proofs.Common.{◌≡◌, ℕ, ◌+◌, ◌-◌, ◌<◌, ◌≤◌, List, [], ◌∷◌, ◌++◌, length, get_or, take, drop, set, Ok, Err, Result, sym, refl, ap, ◌∙◌, ⊎_elim, arith, length-drop}
use Rattle.std.proofs.str.Laws.{order}
use Rattle.std.proofs.lemmas.List.{append-nil, append_assoc, length-append, length-take-le, take_all, take_at, take-append-le, set-append_right, set_past, drop_all, drop_more}
use Rattle.plant.specs.declared.aim.Aim.{Aim}
use Rattle.plant.specs.declared.decline.Decline.{Decline}
use Rattle.plant.specs.declared.line.Line.{Line}
use Rattle.plantfile.specs.declared.reader.Command.{Command}
use Rattle.plantfile.specs.declared.reader.Command.TheVariants.{Draw, Try, End}
use Rattle.plantfile.specs.declared.reader.Heading.{Heading}
use Rattle.plant.specs.declared.line.Trial.{Trial}
use Rattle.plantfile.specs.Format.{Content, Kept, Told, after, filled, first, queued}
use Rattle.plantfile.proofs.Steps.{Gives, err_given, end_given, draw_given, try_given, few_try, long_draw, long_try}

module _ {X : Type 0} where
  set_seam : (xs ys : List X) (i : ℕ) (x y : X) → length xs ≡ i → set (xs ++ (y ∷ ys)) i x ≡ xs ++ (x ∷ ys)
  set_seam xs ys i x y e =
      let z : i - i ≡ 0 = omega arith in
      set-append_right xs (y ∷ ys) i i x e (omega arith) ∙ ap (λ k. xs ++ set (y ∷ ys) k x) z

  -- one item more
  pub filled_more : (places xs : List X) (n : ℕ) (x : X) → n ≡ length xs → set (filled places xs) n x ≡ filled places (xs ++ x ∷ [])
  filled_more places xs n x is = ⊎_elim inside past (order (length xs) (length places))
    where
      inside : length xs < length places → set (filled places xs) n x ≡ filled places (xs ++ x ∷ [])
      inside lt =
          let l = length-append xs (x ∷ []) in
          let grown : length (xs ++ x ∷ []) ≡ length xs + 1 = omega arith in
          rw (take_all (length places) xs (omega arith), take_all (length places) (xs ++ x ∷ []) (omega arith), grown, drop_more places (length xs) x lt)
          (set_seam xs (drop (length xs + 1) places) n x (get_or places (length xs) x) (sym is) ∙ sym (append_assoc xs (x ∷ []) (drop (length xs + 1) places)))

      past : length places ≤ length xs → set (filled places xs) n x ≡ filled places (xs ++ x ∷ [])
      past le =
          let l = length-append xs (x ∷ []) in
          let t = length-take-le (length places) xs le in
          rw (drop_all (length xs) places le, drop_all (length (xs ++ x ∷ [])) places (omega arith), take-append-le (length places) xs (x ∷ []) le, append-nil)
          (set_past (take (length places) xs) n x (omega arith))

  pub filled_none : (places : List X) → filled places [] ≡ places
  filled_none [] = refl
  filled_none (x ∷ places) = refl

  -- the items stand in the front of places that suffice
  pub filled_front : (places xs : List X) → length xs ≤ length places → take (length xs) (filled places xs) ≡ xs
  filled_front places xs h = rw (take_all (length places) xs h) (take_at xs (drop (length xs) places) (length xs) refl)

  pub queued_more : (places : ℕ) (waiting xs : List X) (x : X) → length waiting ≤ places → queued places (queued places waiting xs) (x ∷ []) ≡ queued places waiting (xs ++ x ∷ [])
  queued_more places waiting xs x fits = ⊎_elim inside past (order (length xs) (places - length waiting))
    where
      inside : length xs < places - length waiting → queued places (queued places waiting xs) (x ∷ []) ≡ queued places waiting (xs ++ x ∷ [])
      inside lt =
          let l = length-append xs (x ∷ []) in
          let m = length-append waiting xs in
          rw (take_all (places - length waiting) xs (omega arith), take_all (places - length waiting) (xs ++ x ∷ []) (omega arith), take_all (places - length (waiting ++ xs)) (x ∷ []) (omega arith))
          (append_assoc waiting xs (x ∷ []))

      past : places - length waiting ≤ length xs → queued places (queued places waiting xs) (x ∷ []) ≡ queued places waiting (xs ++ x ∷ [])
      past le =
          let t = length-take-le (places - length waiting) xs le in
          let m = length-append waiting (take (places - length waiting) xs) in
          let z : places - length (waiting ++ take (places - length waiting) xs) ≡ 0 = omega arith in
          rw (z, take-append-le (places - length waiting) xs (x ∷ []) le, append-nil)

  pub queued_none : (places : ℕ) (waiting : List X) → waiting ≡ queued places waiting []
  queued_none places waiting =
      let none : take {A = X} (places - length waiting) [] ≡ [] = take_all {A = X} (places - length waiting) [] (omega arith) in
      sym (ap (λ (ys : List X). waiting ++ ys) none ∙ append-nil waiting)

  -- all items wait where there is room for them
  pub queued_all : (places : ℕ) (waiting xs : List X) → length waiting + length xs ≤ places → queued places waiting xs ≡ waiting ++ xs
  queued_all places waiting xs h = rw (take_all (places - length waiting) xs (omega arith))

  -- one put into a queue
  pub put_queued : (places : ℕ) (waiting waits : List X) (x : X) → (length waiting < places → waits ≡ waiting ++ x ∷ []) → (length waiting ≡ places → waits ≡ waiting) → length waiting ≤ places → waits ≡ queued places waiting (x ∷ [])
  put_queued places waiting waits x more full fits = ⊎_elim inside past (order (length waiting) places)
    where
      inside : length waiting < places → waits ≡ queued places waiting (x ∷ [])
      inside lt = more lt ∙ sym (queued_all places waiting (x ∷ []) (omega arith))

      past : places ≤ length waiting → waits ≡ queued places waiting (x ∷ [])
      past le = let z : places - length waiting ≡ 0 = omega arith in rw (z, append-nil) (full (omega arith))

-- what the loop has read, and keeps
pub record Sofar (n : ℕ) (before lines : List Line) (drawn : ℕ) (places : ℕ) (waiting waits : List Trial) (tried : ℕ) (rest : List ℕ) (size : ℕ) (whole : Result Content Decline) : Type 0 where
  pub ls : List Line
  pub ts : List Trial
  pub gives : Gives n ls ts rest whole
  pub line_count : drawn ≡ length ls
  pub trial_count : tried ≡ length ts
  pub few : tried ≤ 64
  pub bound : drawn + length rest ≤ size
  pub lines_held : lines ≡ filled before ls
  pub trials_held : waits ≡ queued places waiting ts

pub begins : (n : ℕ) (lines : List Line) (places : ℕ) (waiting : List Trial) (rest : List ℕ) → Sofar n lines lines 0 places waiting waiting 0 rest (length rest) (after (length rest + 1) n [] [] rest)
begins n lines places waiting rest = record {
  ls = [];
  ts = [];
  gives = record { most = length rest + 1; enough = omega arith; gives = refl };
  line_count = refl;
  trial_count = refl;
  few = omega arith;
  bound = omega arith;
  lines_held = sym (filled_none lines);
  trials_held = queued_none places waiting;
}

module _ {n : ℕ} {before lines : List Line} {drawn places : ℕ} {waiting waits : List Trial} {tried : ℕ} {rest : List ℕ} {size : ℕ} {whole : Result Content Decline} (s : Sofar n before lines drawn places waiting waits tried rest size whole) where
  as_read : {r : Result Command Decline} → first rest tried ≡ r → first rest (length s.ts) ≡ r
  as_read e = sym (ap (first rest) s.trial_count) ∙ e

  pub err_kept : {d : Decline} → first rest tried ≡ Err d → whole ≡ Err d
  err_kept e = err_given s.gives (as_read e)

  pub end_kept : {a : Aim} → first rest tried ≡ Ok (End a) → Told whole (Ok (record { n = n; lines = drawn; aim = a })) before lines places waiting waits
  end_kept {a} e = (
    record { junctions = n; lines = s.ls; trials = s.ts; aim = a },
    end_given s.gives (as_read e),
    record { junctions = refl; aim = refl; count = s.line_count; lines = s.lines_held; few = omega (arith, s.few, s.trial_count); trials = s.trials_held },
  )

  pub draw_kept : {l : Line} {lines' : List Line} {drawn' : ℕ} {rest' : List ℕ} → first rest tried ≡ Ok (Draw l) → lines' ≡ set lines drawn l → drawn' ≡ drawn + 1 → rest' ≡ drop 11 rest → Sofar n before lines' drawn' places waiting waits tried rest' size whole
  draw_kept {l} e held more cut =
      let long = long_draw rest tried l e in
      let left = ap length cut ∙ length-drop 11 rest in
      let grown = length-append s.ls (l ∷ []) in
      record {
        ls = s.ls ++ l ∷ [];
        ts = s.ts;
        gives = draw_given s.gives (as_read e) refl refl cut;
        line_count = omega arith;
        trial_count = s.trial_count;
        few = s.few;
        bound = omega arith;
        lines_held = held ∙ ap (λ (xs : List Line). set xs drawn l) s.lines_held ∙ filled_more before s.ls drawn l s.line_count;
        trials_held = s.trials_held;
      }

  pub try_kept : {t : Trial} {waits' : List Trial} {tried' : ℕ} {rest' : List ℕ} → length waiting ≤ places → first rest tried ≡ Ok (Try t) → waits' ≡ queued places waits (t ∷ []) → tried' ≡ tried + 1 → rest' ≡ drop 11 rest → Sofar n before lines drawn places waiting waits' tried' rest' size whole
  try_kept {t} fits e held more cut =
      let long = long_try rest tried t e in
      let left = ap length cut ∙ length-drop 11 rest in
      let grown = length-append s.ts (t ∷ []) in
      record {
        ls = s.ls;
        ts = s.ts ++ t ∷ [];
        gives = try_given s.gives (as_read e) refl refl cut;
        line_count = s.line_count;
        trial_count = omega arith;
        few = omega (arith, few_try rest tried t e);
        bound = omega arith;
        lines_held = s.lines_held;
        trials_held = held ∙ ap (λ (xs : List Trial). queued places xs (t ∷ [])) s.trials_held ∙ queued_more places waiting s.ts t fits;
      }

-- what a caller learns of memory that suffices
module _ {c : Content} {h : Heading} {before after : List Line} {places : ℕ} {waiting waits : List Trial} (k : Kept c h before after places waiting waits) where
  pub lines_front : h.lines ≤ length before → take h.lines after ≡ c.lines
  lines_front fits = let e = k.count in rw (k.lines, e) (filled_front before c.lines (omega arith))

  pub all_wait : waiting ≡ [] → 64 ≤ places → waits ≡ c.trials
  all_wait none room =
      let f = k.few in
      let z = ap length none in
      k.trials ∙ queued_all places waiting c.trials (omega arith) ∙ ap (λ (xs : List Trial). xs ++ c.trials) none

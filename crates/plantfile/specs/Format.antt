-- What the bytes of a plant file say.
use Rattle.std.specs.Prelude.{◌≡◌, ℕ, zero, suc, ◌+◌, ◌-◌, ◌*◌, ◌≤◌, cond, List, [], ◌∷◌, ◌++◌, length, take, drop, Ok, Err, Result, ◌==◌, nat_lt, slice_index}
use Rattle.plant.specs.declared.aim.Aim.{Aim}
use Rattle.plant.specs.declared.aim.Aim.TheVariants.{Greatest, Least}
use Rattle.plantfile.specs.declared.reader.Command.{Command}
use Rattle.plantfile.specs.declared.reader.Command.TheVariants.{Draw, Try, End}
use Rattle.plant.specs.declared.decline.Decline.{Decline}
use Rattle.plant.specs.declared.decline.Decline.TheVariants.{TrialCount, NoCommand, FileEnds, FileGoesOn}
use Rattle.plant.specs.declared.line.Line.{Line}
use Rattle.plantfile.specs.declared.reader.Heading.{Heading}
use Rattle.plant.specs.declared.line.Trial.{Trial}

-- what a plant file holds: the lines and the trials in the order of the file
pub record Content : Type 0 where
  pub junctions : ℕ
  pub lines : List Line
  pub trials : List Trial
  pub aim : Aim

-- two bytes and four bytes from place i on, highest byte first
abbrev pub word16 : List ℕ → ℕ → ℕ
word16 bs i = slice_index bs i * 256 + slice_index bs (i + 1)

abbrev pub word32 : List ℕ → ℕ → ℕ
word32 bs i = slice_index bs i * 16777216 + slice_index bs (i + 1) * 65536 + slice_index bs (i + 2) * 256 + slice_index bs (i + 3)

-- the operands of L and T: two bytes, then the limits
abbrev pub operands_of : List ℕ → Result (List ℕ × ℕ × ℕ) Decline
operands_of bs = cond (nat_lt (length bs) 10) (Err FileEnds) (Ok (slice_index bs 0 ∷ slice_index bs 1 ∷ [], word32 bs 2, word32 bs 6))

-- the operands of L, and of T
abbrev pub line_of : List ℕ → Result Command Decline
line_of bs = cond (nat_lt (length bs) 10) (Err FileEnds) (Ok (Draw (record { from = slice_index bs 0; to = slice_index bs 1; low = word32 bs 2; high = word32 bs 6 })))

abbrev pub trial_of : List ℕ → Result Command Decline
trial_of bs = cond (nat_lt (length bs) 10) (Err FileEnds) (Ok (Try (record { line = word16 bs 0; low = word32 bs 2; high = word32 bs 6 })))

-- an aim, which nothing may follow
abbrev pub aim_of : Aim → List ℕ → Result Command Decline
aim_of a bs = cond (length bs == 0) (Ok (End a)) (Err FileGoesOn)

-- the command of that byte and what follows it, after t trials: L, T, G or M
abbrev pub of_letter : ℕ → ℕ → List ℕ → Result Command Decline
of_letter c t bs =
    cond (c == 76) (line_of bs)
    (cond (c == 84) (cond (nat_lt t 64) (trial_of bs) (Err TrialCount))
    (cond (c == 71) (aim_of Greatest bs)
    (cond (c == 77) (aim_of Least bs)
    (Err NoCommand))))

abbrev pub first : List ℕ → ℕ → Result Command Decline
first bs t = cond (length bs == 0) (Err FileEnds) (of_letter (slice_index bs 0) t (drop 1 bs))

-- what follows N and its operand, after the lines ls and the trials ts; k is more than the commands to come
unfoldable pub after : ℕ → ℕ → List Line → List Trial → List ℕ → Result Content Decline
after zero n ls ts bs = Err FileEnds
after (suc k) n ls ts bs =
    elim (first bs (length ts)) [
      | Err d ↦ Err d
      | Ok c ↦ elim c [
        | Draw l ↦ after k n (ls ++ l ∷ []) ts (drop 11 bs)
        | Try t ↦ after k n ls (ts ++ t ∷ []) (drop 11 bs)
        | End a ↦ Ok (record { junctions = n; lines = ls; trials = ts; aim = a })
      ]
    ]

-- the whole file; each command has a byte at least
abbrev pub parse : List ℕ → Result Content Decline
parse bs =
    cond (length bs == 0) (Err FileEnds)
    (cond (slice_index bs 0 == 78) (cond (nat_lt (length bs) 2) (Err FileEnds) (after (length (drop 2 bs) + 1) (slice_index bs 1) [] [] (drop 2 bs)))
    (Err NoCommand))

-- places with the items xs from the front on, as many as have a place; the others are as they were
abbrev pub filled : {X : Type 0} → List X → List X → List X
filled places xs = take (length places) xs ++ drop (length xs) places

-- a queue of so many places with the items xs behind those that wait, as many as have a place
abbrev pub queued : {X : Type 0} → ℕ → List X → List X → List X
queued places waiting xs = waiting ++ take (places - length waiting) xs

-- the heading of c; the lines, from `before` to `after`; the trials, at most 64, behind those that wait
pub record Kept (c : Content) (h : Heading) (before after : List Line) (places : ℕ) (waiting waits : List Trial) : Type 0 where
  pub junctions : h.n ≡ c.junctions
  pub aim : h.aim ≡ c.aim
  pub count : h.lines ≡ length c.lines
  pub lines : after ≡ filled before c.lines
  pub few : length c.trials ≤ 64
  pub trials : waits ≡ queued places waiting c.trials

-- the answer to what the file says
abbrev pub Told : Result Content Decline → Result Heading Decline → List Line → List Line → ℕ → List Trial → List Trial → Type 0
Told o (Ok h) before after places waiting waits = (c : Content) × (o ≡ Ok c) × Kept c h before after places waiting waits
Told o (Err d) before after places waiting waits = o ≡ Err d

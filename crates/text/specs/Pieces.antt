-- A buffer that is written into, one piece of text after another.
use Rattle.std.specs.Prelude.{◌≡◌, ℕ, ◌+◌, ◌-◌, List, ◌++◌, length, take, drop}
use Rattle.text.specs.declared.page.Page.{Page}

-- buf with bs from place i on
unfoldable pub pasted : List ℕ → ℕ → List ℕ → List ℕ
pasted buf i bs = take i buf ++ (bs ++ drop (i + length bs) buf)

-- text was put into `before` from place i on, which left `after`, and ends before r
pub record Puts (text before : List ℕ) (i r : ℕ) (after : List ℕ) : Type 0 where
  pub end : r ≡ i + length text
  pub is : after ≡ pasted before i text

-- a page on which nothing is written yet, over such a buffer
pub record Begins (buf : List ℕ) (p : Page) : Type 0 where
  pub out : p.out.now ≡ buf
  pub at : p.at ≡ 0

-- how many bytes have room behind what is written
abbrev pub room : Page → ℕ
room p = length p.out.now - p.at

-- a text was put behind what was written: into the same buffer, all else of which is as it was
pub record Adds (text : List ℕ) (before after : Page) : Type 0 where
  pub same_reference : after.out.ghost_name ≡ before.out.ghost_name
  pub left : room after + length text ≡ room before
  pub puts : Puts text before.out.now before.at after.at after.out.now

use Rattle.std.proofs.Common.{◌++◌, ◌≤◌, ℕ, rules, decimal, length, ap, subst, arith}
use Rattle.plant.specs.Numbers.{number_of}
use Rattle.text.specs.Pieces.{Adds, room}
use Rattle.text.specs.Text.{declined_text, newline}
use Rattle.text.proofs.Paste.{begin_ends, first_fits, next_fits, then_adds}
use Rattle.text.proofs.Room.{declined_short}
use Rattle.text.proofs.sheets.put_declined.Goals as goal

pub put_number-requires : goal.put_number-requires
put_number-requires c =
    let n = c.from.result in
    let fits : length (declined_text n) ≤ room c.new-page.result = omega (arith, c.requires, declined_short n c.from.type_inv, c.new-page.ensures.begins.at, ap length c.new-page.ensures.begins.out) in
    first_fits (decimal n) newline (next_fits (decimal n ++ newline) fits c.put.ensures)

pub put-requires-2 : goal.put-requires-2
put-requires-2 c =
    let n = c.from.result in
    let fits : length (declined_text n) ≤ room c.new-page.result = omega (arith, c.requires, declined_short n c.from.type_inv, c.new-page.ensures.begins.at, ap length c.new-page.ensures.begins.out) in
    next_fits newline (next_fits (decimal n ++ newline) fits c.put.ensures) c.put_number.ensures

pub returns-clause-short : goal.returns-clause-short
returns-clause-short c =
    let text = then_adds c.put.ensures (then_adds c.put_number.ensures c.put-2.ensures) in
    omega (arith, begin_ends c.new-page.ensures.begins text, declined_short c.from.result c.from.type_inv)

pub returns-clause-text : goal.returns-clause-text
returns-clause-text c =
    let text = then_adds c.put.ensures (then_adds c.put_number.ensures c.put-2.ensures) in
    let is : Adds (declined_text (number_of c.args.decline)) c.new-page.result c.put-2.new.self = subst (λ (n : ℕ). Adds (declined_text n) c.new-page.result c.put-2.new.self) c.from.ensures text in
    search rules

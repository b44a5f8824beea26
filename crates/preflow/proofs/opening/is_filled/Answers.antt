use Rattle.std.proofs.Common.{◌∙◌, not, ◌&&◌, eqb, ltb, rules}
use Rattle.std.proofs.lemmas.Iterator.{YieldsList-from_slice}
use Rattle.std.proofs.lemmas.Iterator.Search.{all_from_yields_List}
use Rattle.plant.specs.Plants.{high_of}
use Rattle.preflow.proofs.Opens.{filled_listed}
use Rattle.preflow.proofs.opening.is_filled.Goals as goal

pub returns : goal.returns
returns c =
    all_from_yields_List (λ h. not (eqb h.line.from c.args.start && ltb h.flow (high_of h.line))) _ _ _ c.all.ensures.ran (YieldsList-from_slice c.args.lines.now (search rules)) (λ x b q k. search rules)
    ∙ filled_listed c.args.start c.args.lines.now

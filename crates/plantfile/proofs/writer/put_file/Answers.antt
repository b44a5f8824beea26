use Rattle.std.proofs.Common.{[], length, ap, rules, subst, arith}
use Rattle.std.specs.List.{flat_map}
use Rattle.std.proofs.lemmas.List.{flat_map_more}
use Rattle.std.proofs.lemmas.Iterator.{YieldsList-from_map, YieldsList-from_slice}
use Rattle.std.proofs.lemmas.Iterator.Consumers.{YieldsList-from_chain}
use Rattle.plantfile.specs.declared.reader.Command.TheVariants.{Draw, Try}
use Rattle.plantfile.specs.Writing.{command_bytes}
use Rattle.plantfile.proofs.Commands.{drawn_tried, encoded_is, length_encoded}
use Rattle.plantfile.proofs.Turns.{at_end, fits_turn}
use Rattle.text.specs.Pieces.{Adds}
use Rattle.text.proofs.Paste.{adds_nothing, then_adds}
use Rattle.plantfile.proofs.writer.put_file.Goals as goal

pub loop-command-init : goal.loop-command-init
loop-command-init c = (search rules, search rules, adds_nothing c.put.new.self)

pub put_command-requires : goal.put_command-requires
put_command-requires c =
    let ls = c.args.lines.now in
    let ts = c.args.trials.now in
    let t = fits_turn (drawn_tried ls ts) c.loop-command.yielded _ c.loop-command.yielded_by _ _ c.in-Some.command c.in-Some.is c.next.ensures.steps
    (YieldsList-from_chain (YieldsList-from_map _ Draw (YieldsList-from_slice ls (cc)) (cc) (λ x r q k. search rules)) (YieldsList-from_map _ Try (YieldsList-from_slice ts (cc)) (cc) (λ x r q k. search rules)) (cc) (cc))
    command_bytes in
    omega (arith, t, c.requires, length_encoded c.args.n ls ts c.args.aim, c.put.ensures.left, c.loop-command.invariant.2.left)

pub loop-command-preserved : goal.loop-command-preserved
loop-command-preserved c = (
  search rules,
  search rules,
  rw (← flat_map_more command_bytes [] c.loop-command.yielded c.in-Some.command) (then_adds c.loop-command.invariant.2 c.put_command.ensures),
)

pub put_command-requires-2 : goal.put_command-requires-2
put_command-requires-2 c =
    let ls = c.args.lines.now in
    let ts = c.args.trials.now in
    let all = at_end (drawn_tried ls ts) c.loop-command.yielded _ c.loop-command.yielded_by _ _ c.in-None.is c.next.ensures.steps
    (YieldsList-from_chain (YieldsList-from_map _ Draw (YieldsList-from_slice ls (cc)) (cc) (λ x r q k. search rules)) (YieldsList-from_map _ Try (YieldsList-from_slice ts (cc)) (cc) (λ x r q k. search rules)) (cc) (cc)) in
    omega (arith, ap (λ cs. length (flat_map command_bytes cs)) all, c.requires, length_encoded c.args.n ls ts c.args.aim, c.put.ensures.left, c.loop-command.invariant.2.left)

pub returns : goal.returns
returns c =
    let ls = c.args.lines.now in
    let ts = c.args.trials.now in
    let all = at_end (drawn_tried ls ts) c.loop-command.yielded _ c.loop-command.yielded_by _ _ c.in-None.is c.next.ensures.steps
    (YieldsList-from_chain (YieldsList-from_map _ Draw (YieldsList-from_slice ls (cc)) (cc) (λ x r q k. search rules)) (YieldsList-from_map _ Try (YieldsList-from_slice ts (cc)) (cc) (λ x r q k. search rules)) (cc) (cc)) in
    let commands = subst (λ cs. Adds (flat_map command_bytes cs) c.put.new.self c.loop-command.page) all c.loop-command.invariant.2 in
    subst (λ bs. Adds bs c.args.page.now c.put_command-2.new.page) (encoded_is c.args.n ls ts c.args.aim) (then_adds c.put.ensures (then_adds commands c.put_command-2.ensures))

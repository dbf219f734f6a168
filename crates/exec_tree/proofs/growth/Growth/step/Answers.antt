use Rattle.std.proofs.Common.{◌++◌, ◌∷◌, [], sym, ap, ◌∙◌}
use Rattle.exec_tree.specs.Keys.{key_of}
use Rattle.exec_tree.specs.Prefixes.{Prefix}
use Rattle.exec_tree.specs.Growths.{known, keys_at}
use Rattle.exec_tree.proofs.GrowthLemmas.{known_stays, known_added, keys_added, other_under}
use Rattle.exec_tree.proofs.growth.Growth.step.Goals as goal

pub returns-in-Some-clause-known : goal.returns-in-Some-clause-known
returns-in-Some-clause-known c =
    let nodes = c.args.self.now.nodes.items in
    let p : Prefix = record { above = keys_at (known nodes) c.args.at; cell = c.args.cell.now; inputs = c.args.inputs.now } in
    sym (known_stays nodes p c.in-Some.node c.in-Some.ensures.low (c.in-Some.ensures.found ∙ ap (λ i. keys_at (known nodes) c.args.at ++ key_of i c.args.cell.now ∷ []) c.get.ensures))

pub returns-in_ok-node-in-None-clause-known : goal.returns-in_ok-node-in-None-clause-known
returns-in_ok-node-in-None-clause-known c =
    known_added c.args.self.now.nodes.items _ c.args.cell.now c.args.inputs.now c.args.at c.in_ok-node-in-None.ensures.nodes
    (other_under c.args.self.now.nodes.items c.args.cell.now c.args.inputs.now _ c.args.at c.get.ensures c.in-None.ensures.none)

pub returns-in_ok-node-in-None-clause-at : goal.returns-in_ok-node-in-None-clause-at
returns-in_ok-node-in-None-clause-at c =
    keys_added c.args.self.now.nodes.items _ c.args.cell.now c.args.inputs.now c.args.at _ c.in_ok-node-in-None.ensures.nodes c.in_ok-node-in-None.ensures.last

use Rattle.std.proofs.Common.{arith, ◌≡◌, ◌∙◌, ◌-◌, suc, true, ap, sym, reverse}
use Rattle.std.proofs.lemmas.Grind.{common_steps}
use Rattle.std.proofs.Math.ListN.{set, get_or, length}
use Rattle.std.specs.Option.{is_some}
use Rattle.star_meaning.specs.Values.{named_in}
use Rattle.star_meaning.specs.World.{rebound, bound_in}
use Rattle.star_run.proofs.BlockLemmas.{held_block, some_copied}
use Rattle.star_run.proofs.blocks.Blocks.bind.Goals as goal

-- src/blocks.rt:78:17
pub returns-then-is_some : goal.returns-then-is_some
returns-then-is_some c =
    let name = c.args.name.now in
    let blocks = c.loop-left.self-inside.blocks.items in
    let has = ap (λ b. is_some (named_in b name)) (sym c.index.ensures) ∙ sym (ap is_some c.named.ensures) ∙ some_copied c.named.result ∙ sym c.is_some.ensures ∙ c.if-is_some.true in
    let e = held_block blocks c.loop-left.left (c.loop-left.left - 1) c.index.result.now c.index_mut.result.now name c.args.value (omega (arith, c.loop-left-test.true)) (omega (arith, c.loop-left-test.true, c.loop-left.invariant.0)) has in
    let same = ap (λ b. rebound b name c.args.value) (c.loop-left.invariant.1 ∙ c.self.view_is) in
    ap (λ b. reverse (set blocks (c.loop-left.left - 1) b)) (c.bind.ensures ∙ ap (λ b. bound_in b name c.args.value) c.index_mut.ensures.value)
    ∙ sym e ∙ sym c.loop-left.invariant.2 ∙ same

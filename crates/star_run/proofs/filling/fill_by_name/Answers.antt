use Rattle.star_run.specs.Filling.{seen}
use Rattle.star_run.proofs.ArgumentLemmas.{fills_default, fills_named, fills_nothing, fills_often}
use Rattle.star_run.proofs.filling.fill_by_name.Goals as goal

pub returns-in_ok-copy-in-Once : goal.returns-in_ok-copy-in-Once
returns-in_ok-copy-in-Once c =
    fills_named (seen c.args.parameter.now) c.in-Once.value c.in_ok-copy-in-Once.field-0 c.args.named.now (rw c.deref.ensures at c.in-Once.ensures) c.in_ok-copy-in-Once.ensures

pub returns-in-Often : goal.returns-in-Often
returns-in-Often c = fills_often (seen c.args.parameter.now) c.args.named.now (rw c.deref.ensures at c.in-Often.ensures)

pub returns-in_ok-copy-in-Some : goal.returns-in_ok-copy-in-Some
returns-in_ok-copy-in-Some c =
    fills_default c.args.parameter.now c.in-Some.value c.in_ok-copy-in-Some.field-0 c.weight.result c.args.named.now (rw c.deref.ensures at c.in-Never.ensures) c.in-Some.is c.in_ok-copy-in-Some.ensures c.weight.ensures

pub returns-in-None : goal.returns-in-None
returns-in-None c = fills_nothing c.args.parameter.now c.args.named.now (rw c.deref.ensures at c.in-Never.ensures) c.in-None.is

use Rattle.std.proofs.Common.{◌≡◌, Result, Ok, Err, refl}
use Rattle.kernel_api.specs.declared.fault.PutFault.{PutFault}
use Rattle.kernel_api.specs.declared.fault.PutFault.TheVariants.{Full}
use Rattle.star_kernel.proofs.SnapshotLemmas.{passes_as_well}
use Rattle.star_kernel.proofs.saving.put_snapshot.Goals as goal

ok_is_not_full : (done : Unit {0}) (r : Result (Unit {0}) PutFault) → r ≡ Ok done → r ≡ Err Full → ⊥
ok_is_not_full done r is never = cc

pub returns-in-Ok-clause-always : goal.returns-in-Ok-clause-always
returns-in-Ok-clause-always g c passes =
    ok_is_not_full _ _ refl (c.in-Ok.ensures.full.1 (passes_as_well _ (g.S.Store.stock c.args.store.now) _ c.ran-nodes.ensures.kept c.in_ok-bytes.ensures passes))

use Rattle.std.proofs.Common.{[], refl}
use Rattle.std.specs.Str.{encode_utf8_all}
use Rattle.chex_base.specs.declared.status.Status.TheVariants as ended
use Rattle.star_meaning.specs.Cells as meaning
use Rattle.chex_top.proofs.EndLemmas.{alone_other, end_of}
use Rattle.chex_top.proofs.carrying.carry_out.Goals as goal

pub returns-in-Alone-clause-ends : goal.returns-in-Alone-clause-ends
returns-in-Alone-clause-ends g c =
    let d = c.alone.result in
    rw c.in-Alone.is (
      end_of d.status d.plan (encode_utf8_all d.text) (meaning.steps c.in-Alone.version.cells c.in-Alone.version.inputs c.in-Alone.steps) [] (g.K.Kernel.live c.alone.new.kernel) (g.S.Store.stock c.args.store.now),
      record { ends = c.alone.ensures.ends; steps = refl; plan = c.alone.ensures.plan; untouched = (refl, refl) },
      (refl, refl, refl),
      (c.alone.ensures.steps, refl, refl),
      (refl, refl),
    )

pub returns-in-Shared-clause-ends : goal.returns-in-Shared-clause-ends
returns-in-Shared-clause-ends g c = rw c.in-Shared.is (rw c.as_slice.ensures at c.shared.ensures.ends)

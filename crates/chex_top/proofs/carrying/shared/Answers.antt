use Rattle.std.proofs.Common.{arith, refl, length, map, ◌+◌, ◌≡◌, ◌∙◌}
use Rattle.std.proofs.lemmas.List.{length-map}
use Rattle.std.specs.Str.{encode_utf8_all}
use Rattle.chex_base.specs.declared.status.Status.TheVariants as ended
use Rattle.audit_run.specs.Visits.{steps_of_all}
use Rattle.plan_type.specs.Plan.{work}
use Rattle.shared_run.specs.Written.{written}
use Rattle.chex_top.proofs.EndLemmas.{end_of, fault_kernel, fault_store, said_ends, said_other, stop_done, stop_ends}
use Rattle.chex_top.proofs.carrying.shared.Goals as goal

pub returns-in-Ok-clause-ends : goal.returns-in-Ok-clause-ends
returns-in-Ok-clause-ends g c =
    let versions = c.args.versions.now in
    let budget = c.args.budget.now in
    let n = c.args.steps in
    let before = g.S.Store.stock c.args.store.now in
    let stock = g.S.Store.stock c.run_versions.new.store in
    let live = g.K.Kernel.live c.run_versions.new.kernel in
    let shared = c.in-Ok.shared in
    let l = c.in-Ok.ensures.listeners in
    let d = c.said.result in
    let steps = steps_of_all versions n + work shared.costs shared.plan in (
      end_of d.status d.plan (encode_utf8_all d.text) steps l.0 live stock,
      said_ends versions budget n before stock live l.0 shared c.in-Ok.ensures.texts (length-map shared.ways (written shared.texts) ∙ c.in-Ok.ensures.many) c.in-Ok.ensures.alone c.requires.steps c.requires.ready
          c.in-Ok.ensures.rows c.in-Ok.ensures.least c.in-Ok.ensures.live c.in-Ok.ensures.store.0 c.in-Ok.ensures.store.1 c.in-Ok.ensures.bound l.1 d.status d.plan d.text c.said.ensures,
      (refl, refl, refl),
      (λ done. omega (arith, c.in-Ok.ensures.steps), refl, refl),
      l.2,
    )

pub returns-in-Err-clause-ends : goal.returns-in-Err-clause-ends
returns-in-Err-clause-ends g c =
    let versions = c.args.versions.now in
    let budget = c.args.budget.now in
    let n = c.args.steps in
    let before = g.S.Store.stock c.args.store.now in
    let stock = g.S.Store.stock c.run_versions.new.store in
    let live = g.K.Kernel.live c.run_versions.new.kernel in
    let l = c.in-Err.ensures.listeners in
    let d = c.stop.result in (
      end_of d.status d.plan (encode_utf8_all d.text) 0 l.0 live stock,
      stop_ends versions budget n before stock live l.0 c.in-Err.fault _ _ d.status d.plan (encode_utf8_all d.text) c.requires.ready.nodes c.in-Err.ensures.err l.1 c.in-Err.ensures.bound c.stop.ensures,
      (refl, refl, refl),
      (λ done. absurd (stop_done c.in-Err.fault d.status d.plan (encode_utf8_all d.text) c.stop.ensures done), refl, refl),
      l.2,
    )

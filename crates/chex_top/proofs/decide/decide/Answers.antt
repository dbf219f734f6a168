use Rattle.std.proofs.Common.{arith, refl, [], map, string_bytes}
use Rattle.std.specs.Str.{encode_utf8_all}
use Rattle.chex_base.specs.declared.status.Status.TheVariants as ended
use Rattle.chex_top.proofs.EndLemmas.{absent_counted, end_of, never_ok, read_counted, refusal_other, refused_due, task_due, task_other, usage_status}
use Rattle.chex_top.proofs.decide.decide.Goals as goal

pub returns-in-Ok-clause-due : goal.returns-in-Ok-clause-due
returns-in-Ok-clause-due g c =
    let e = c.carry_out.ensures.ends in (
      e.0,
      task_due (g.L.Library.files c.args.library.now) (map string_bytes c.args.words.now) (g.S.Store.stock c.args.store.now) e.0 c.in-Ok.task c.in-Ok.ensures.due e.1,
      e.2,
      e.3,
      e.4,
    )

pub returns-in-Err-clause-due : goal.returns-in-Err-clause-due
returns-in-Err-clause-due g c =
    let before = g.S.Store.stock c.args.store.now in
    let live = g.K.Kernel.live c.args.kernel.now in
    let d = c.refused.result in (
      end_of d.status d.plan (encode_utf8_all d.text) 0 [] live before,
      refused_due (g.L.Library.files c.args.library.now) (map string_bytes c.args.words.now) before live c.in-Err.refusal d.status d.plan (encode_utf8_all d.text) _ _ _ _ c.in-Err.ensures.due
          c.in-Err.ensures.counted c.refused.ensures,
      (refl, refl, refl),
      (λ done. omega arith, refl, refl),
      (refl, refl),
    )

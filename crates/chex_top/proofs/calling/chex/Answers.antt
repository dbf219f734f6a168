use Rattle.std.proofs.Common.{rules, ◌≡◌, ◌≢◌, map, string_bytes, refl, inl, inr, sym, ◌∙◌}
use Rattle.chex_base.specs.declared.status.Status.TheVariants as ended
use Rattle.chex_top.proofs.EndLemmas.{due_empty, grew_at, kept_at, view_done, view_refused}
use Rattle.chex_top.proofs.calling.chex.Goals as goal

pub returns-then-eq-clause-ended : goal.returns-then-eq-clause-ended
returns-then-eq-clause-ended g c =
    let e = c.decide-status.ensures.due in
    let is : c.decide-status.result.status ≡ ended.NoMemory = search rules in
    let empty = due_empty (g.L.Library.files c.args.library.now) (map string_bytes c.args.words.now) (g.S.Store.stock c.args.store.now) e.0 e.1 (sym e.2.0 ∙ is) in
    (e.0, e.1, inl (e.2.0, e.2.1, grew_at e.0.text (g.W.Sink.held c.args.out.now) empty), e.3, e.4)

pub returns-in-Ok-clause-ended : goal.returns-in-Ok-clause-ended
returns-in-Ok-clause-ended g c =
    let e = c.decide-status.ensures.due in
    (e.0, e.1, inl (e.2.0, e.2.1, rw e.2.2 at c.in-Ok.ensures.held), e.3, e.4)

pub returns-in-Ok-clause-refused : goal.returns-in-Ok-clause-refused
returns-in-Ok-clause-refused g c =
    let e = c.decide-status.ensures.due in
    view_refused (g.L.Library.files c.args.library.now) (map string_bytes c.args.words.now) (g.S.Store.stock c.args.store.now) e.0 c.decide-status.result.status e.1 (inl e.2.0)

pub returns-in-Ok-clause-done : goal.returns-in-Ok-clause-done
returns-in-Ok-clause-done g c =
    let e = c.decide-status.ensures.due in
    view_done (g.L.Library.files c.args.library.now) (map string_bytes c.args.words.now) (g.S.Store.stock c.args.store.now) e.0 c.decide-status.result.status e.1 (inl e.2.0)

pub returns-clause-ended : goal.returns-clause-ended
returns-clause-ended g c =
    let e = c.decide-status.ensures.due in
    let d = c.decide-status.result in
    let other : c.decide-status.result.status ≢ ended.NoMemory = search rules in
    (e.0, e.1, inr (refl, (λ none. other (e.2.0 ∙ none)), kept_at d.status e.0.status d.plan e.0.plan c.kept.result e.2.0 e.2.1 c.kept.ensures, rw e.2.2 at c.in-Err.ensures.held), e.3, e.4)

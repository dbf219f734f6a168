use Rattle.std.proofs.Common.{◌<◌, ◌++◌, ◌∷◌, [], get_or, length, map, take, zip, refl, subst, sym, ap, ap₂, ◌∙◌, arith, add-one}
use Rattle.std.specs.List.{AllByRecursion}
use Rattle.std.proofs.lemmas.Option.{slice_get-get_or, slice_get_read}
use Rattle.serde_json.specs.View.{view}
use Rattle.audit_record.specs.Record.{IsWide, node_data}
use Rattle.audit_record.proofs.RecordLemmas.{ByRecursion-push, map-push, zip-all, zip-step}
use Rattle.audit_record.proofs.writing.node_values.Goals as goal

pub loop-place-preserved : goal.loop-place-preserved
loop-place-preserved c =
    let keys = c.args.keys.now in
    let rows = c.args.rows.now in
    let k = c.loop-place.place in
    let row = c.index-rows-place.result in
    let key = get_or keys k [] in
    let within : k < length rows = c.loop-place-test.true in
    let step =
    zip-step keys rows k key row (slice_get-get_or keys k [] (omega (arith, within, c.requires))) (slice_get_read rows (length rows) k row refl within c.index-rows-place.is) in
    let longer = ap (λ n. take n (zip keys rows)) (add-one k) ∙ step in
    record {
      values = ap (map view) c.in_ok-push.ensures.items ∙ map-push view c.loop-place.values.items c.in_ok-node_value.field-0
          ∙ ap₂ (λ a b. a ++ b ∷ []) c.loop-place.invariant.values c.in_ok-node_value.ensures.value ∙ sym (ap (map node_data) longer ∙ map-push node_data (take k (zip keys rows)) (key, row));
      wide = subst (AllByRecursion IsWide) (sym longer) (ByRecursion-push IsWide (take k (zip keys rows)) (key, row) c.loop-place.invariant.wide c.in_ok-node_value.ensures.wide);
    }

pub returns-clause-values : goal.returns-clause-values
returns-clause-values c = c.loop-place.invariant.values ∙ ap (map node_data) (zip-all c.args.keys.now c.args.rows.now c.loop-place.place c.loop-place-test.false)

pub returns-clause-wide : goal.returns-clause-wide
returns-clause-wide c = subst (AllByRecursion IsWide) (zip-all c.args.keys.now c.args.rows.now c.loop-place.place c.loop-place-test.false) c.loop-place.invariant.wide

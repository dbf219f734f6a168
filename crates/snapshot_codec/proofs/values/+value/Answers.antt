use Rattle.std.proofs.Common.{[]}
use Rattle.std.proofs.lemmas.Result.{err_from_is_err_and}
use Rattle.snapshot_codec.specs.declared.tag.Tag.TheVariants as tag
use Rattle.snapshot_codec.specs.Reading.{many_at, value_at, value_of_tag}
use Rattle.snapshot_codec.proofs.ReadingSteps.{by_tag, ends, gives_as, goes_on, is_done, no_room, tuple_items, tuple_no_count, tuple_no_items}
use Rattle.snapshot_codec.proofs.values.+value.Goals as goal

pub items_at-returns-in_err-item : goal.items_at-returns-in_err-item
items_at-returns-in_err-item t c =
    let p = err_from_is_err_and c.from_residual.result c.from_residual.ensures.1 in
    rw (p.1, p.2) (ends (λ front. value_at c.args.room) c.in_err-item.field-0.0 c.loop.items c.args.count c.loop.counter c.loop.met c.loop.rest.now (many_at (λ front. value_at c.args.room) c.args.count [] c.args.before c.args.bytes.now) c.loop-test.true c.in_err-item.ensures c.loop.invariant)

pub items_at-loop-preserved : goal.items_at-loop-preserved
items_at-loop-preserved t c =
    rw c.in_ok-push.ensures.ok
    (goes_on (λ front. value_at c.args.room) c.loop.items c.args.count c.loop.counter c.loop.met c.loop.rest.now c.in_ok-item.item c.in_ok-item.now c.in_ok-item.after.now (many_at (λ front. value_at c.args.room) c.args.count [] c.args.before c.args.bytes.now) c.loop-test.true c.in_ok-item.ensures c.loop.invariant)

pub items_at-returns : goal.items_at-returns
items_at-returns t c =
    is_done (λ front. value_at c.args.room) c.loop.items c.args.count c.loop.counter c.loop.met c.loop.rest.now (many_at (λ front. value_at c.args.room) c.args.count [] c.args.before c.args.bytes.now) c.loop-test.false c.loop.invariant

pub tuple_at-returns-then-room-eq0 : goal.tuple_at-returns-then-room-eq0
tuple_at-returns-then-room-eq0 t c = no_room _ _ _ c.if-room-eq0.true

pub tuple_at-returns-in_err-count : goal.tuple_at-returns-in_err-count
tuple_at-returns-in_err-count t c =
    let p = err_from_is_err_and c.from_residual.result c.from_residual.ensures.1 in
    rw (p.1, p.2) (tuple_no_count c.args.room c.args.met c.args.bytes.now c.if-room-eq0.false c.in_err-count.field-0.0 c.in_err-count.ensures)

pub tuple_at-returns-in_err-items : goal.tuple_at-returns-in_err-items
tuple_at-returns-in_err-items t c =
    let p = err_from_is_err_and c.from_residual-in_err-items.result c.from_residual-in_err-items.ensures.1 in
    rw (p.1, p.2) (tuple_no_items c.args.room c.args.met c.args.bytes.now c.if-room-eq0.false c.in_err-items.field-0.0 c.in_ok-count.count c.in_ok-count.rest.now c.in_ok-count.ensures c.in_err-items.ensures)

pub tuple_at-returns : goal.tuple_at-returns
tuple_at-returns t c =
    tuple_items c.args.room c.args.met c.args.bytes.now c.if-room-eq0.false c.in_ok-count.count c.in_ok-count.rest.now c.in_ok-items.items c.in_ok-items.met c.in_ok-items.rest.now c.in_ok-count.ensures c.in_ok-items.ensures

pub value_at-returns-in-None : goal.value_at-returns-in-None
unfolding value_of_tag
value_at-returns-in-None t c = by_tag c.args.room c.args.met c.args.bytes.now c.in_ok-tag.rest.now c.in_ok-tag.tag tag.None c.in_ok-tag.ensures c.in-None.is

pub value_at-returns-in-False : goal.value_at-returns-in-False
unfolding value_of_tag
value_at-returns-in-False t c = by_tag c.args.room c.args.met c.args.bytes.now c.in_ok-tag.rest.now c.in_ok-tag.tag tag.False c.in_ok-tag.ensures c.in-False.is

pub value_at-returns-in-True : goal.value_at-returns-in-True
unfolding value_of_tag
value_at-returns-in-True t c = by_tag c.args.room c.args.met c.args.bytes.now c.in_ok-tag.rest.now c.in_ok-tag.tag tag.True c.in_ok-tag.ensures c.in-True.is

pub value_at-returns-in-Int : goal.value_at-returns-in-Int
unfolding value_of_tag
value_at-returns-in-Int t c =
    gives_as _ c.int_at.result _ _ (by_tag c.args.room c.args.met c.args.bytes.now c.in_ok-tag.rest.now c.in_ok-tag.tag tag.Int c.in_ok-tag.ensures c.in-Int.is) c.int_at.ensures

pub value_at-returns-in-Text : goal.value_at-returns-in-Text
unfolding value_of_tag
value_at-returns-in-Text t c =
    gives_as _ c.text_value_at.result _ _ (by_tag c.args.room c.args.met c.args.bytes.now c.in_ok-tag.rest.now c.in_ok-tag.tag tag.Text c.in_ok-tag.ensures c.in-Text.is) c.text_value_at.ensures

pub value_at-returns-in-Tuple : goal.value_at-returns-in-Tuple
unfolding value_of_tag
value_at-returns-in-Tuple t c =
    gives_as _ c.tuple_at.result _ _ (by_tag c.args.room c.args.met c.args.bytes.now c.in_ok-tag.rest.now c.in_ok-tag.tag tag.Tuple c.in_ok-tag.ensures c.in-Tuple.is) c.tuple_at.ensures

pub value_at-returns-in-Range : goal.value_at-returns-in-Range
unfolding value_of_tag
value_at-returns-in-Range t c =
    gives_as _ c.range_at.result _ _ (by_tag c.args.room c.args.met c.args.bytes.now c.in_ok-tag.rest.now c.in_ok-tag.tag tag.Range c.in_ok-tag.ensures c.in-Range.is) c.range_at.ensures

pub value_at-returns-in-List : goal.value_at-returns-in-List
unfolding value_of_tag
value_at-returns-in-List t c =
    gives_as _ c.list_at.result _ _ (by_tag c.args.room c.args.met c.args.bytes.now c.in_ok-tag.rest.now c.in_ok-tag.tag tag.List c.in_ok-tag.ensures c.in-List.is) c.list_at.ensures

pub value_at-returns-in-Dict : goal.value_at-returns-in-Dict
unfolding value_of_tag
value_at-returns-in-Dict t c =
    gives_as _ c.dict_at.result _ _ (by_tag c.args.room c.args.met c.args.bytes.now c.in_ok-tag.rest.now c.in_ok-tag.tag tag.Dict c.in_ok-tag.ensures c.in-Dict.is) c.dict_at.ensures

pub value_at-returns-in-Function : goal.value_at-returns-in-Function
unfolding value_of_tag
value_at-returns-in-Function t c =
    gives_as _ c.function_at.result _ _ (by_tag c.args.room c.args.met c.args.bytes.now c.in_ok-tag.rest.now c.in_ok-tag.tag tag.Function c.in_ok-tag.ensures c.in-Function.is) c.function_at.ensures

pub value_at-returns-in-Builtin : goal.value_at-returns-in-Builtin
unfolding value_of_tag
value_at-returns-in-Builtin t c =
    gives_as _ c.builtin_at.result _ _ (by_tag c.args.room c.args.met c.args.bytes.now c.in_ok-tag.rest.now c.in_ok-tag.tag tag.Builtin c.in_ok-tag.ensures c.in-Builtin.is) c.builtin_at.ensures

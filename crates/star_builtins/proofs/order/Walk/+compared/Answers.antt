use Rattle.std.proofs.Common.{◌≡◌, ◌∙◌, sym, ap, rules, arith, false, true, Ok, Err}
use Rattle.star_value.specs.declared.value.Value.TheVariants as value
use Rattle.star_value.specs.Charge.{charged}
use Rattle.star_meaning.specs.Comparing.{own_part, is_same}
use Rattle.star_meaning.specs.State.{dict}
use Rattle.star_builtins.specs.Weighing.{verdict_of}
use Rattle.star_builtins.proofs.Quoted.{drop_here, drop_got}
use Rattle.star_builtins.proofs.Weighed.{compared_failed, tuples_after, lists_after, dicts_after, items_after, items_before, items_same, items_failed, items_other, items_step, pairs_failed_first, pairs_missing, pairs_failed, pairs_other, pairs_step, pairs_end}
use Rattle.star_builtins.proofs.order.Walk.+compared.Goals as goal

pub compared-returns-in_err-charge : goal.compared-returns-in_err-charge
compared-returns-in_err-charge t c =
    let r : c.from_residual.result ≡ Err c.in_err-charge.field-0.0 = search rules in
    let h = c.in_err-charge.ensures in
    rw r (compared_failed _ _ _ _ _ _ _ _ (rw c.own_part.ensures at c.in_err-charge.ensures))

pub compared-returns-in-Some : goal.compared-returns-in-Some
compared-returns-in-Some t c =
    let paid : charged c.args.meter.now.left (own_part c.args.left.now c.args.right.now) ≡ (Ok tt, c.charge.new.self.left) = rw c.own_part.ensures at c.in_ok-charge.ensures in
    rw (tuples_after c.args.self.now.by_length c.args.deeper c.args.left.now c.args.right.now c.as_slice.result.now c.in-Some.others.now c.args.self.now.machine.now.state _ _ (c.in-Tuple.is ∙ ap value.Tuple (sym c.as_slice.ensures)) paid c.in-Some.ensures) c.sequences.ensures

pub compared-returns-in-Some-list_of : goal.compared-returns-in-Some-list_of
compared-returns-in-Some-list_of t c =
    let paid : charged c.args.meter.now.left (own_part c.args.left.now c.args.right.now) ≡ (Ok tt, c.charge.new.self.left) = rw c.own_part.ensures at c.in_ok-charge.ensures in
    rw (lists_after c.args.self.now.by_length c.args.deeper c.args.left.now c.args.right.now c.in-List.id c.in-Some-list_of.other c.args.self.now.machine.now.state _ _ c.in-List.is paid c.in-Some-list_of.ensures) c.lists.ensures

pub compared-returns-in-Some-dict_of : goal.compared-returns-in-Some-dict_of
compared-returns-in-Some-dict_of t c =
    let paid : charged c.args.meter.now.left (own_part c.args.left.now c.args.right.now) ≡ (Ok tt, c.charge.new.self.left) = rw c.own_part.ensures at c.in_ok-charge.ensures in
    rw (dicts_after c.args.self.now.by_length c.args.deeper c.args.left.now c.args.right.now c.in-Dict.id c.in-Some-dict_of.other c.args.self.now.machine.now.state _ _ c.in-Dict.is paid c.in-Some-dict_of.ensures) c.tables.ensures

pub items-returns-then-place-right : goal.items-returns-then-place-right
items-returns-then-place-right t c =
    sym c.loop-place.invariant ∙ items_after c.args.self.now.by_length c.args.inner c.args.left.now c.args.right.now _ _ _ (drop_here _ _ _ c.loop-place-test.true c.index-left-place.is) c.if-place-right.true

pub items-returns-in_err-order : goal.items-returns-in_err-order
items-returns-in_err-order t c =
    let r : c.from_residual.result ≡ Err c.in_err-order.field-0.0 = search rules in
    rw (← c.loop-place.invariant, r) (items_failed c.args.self.now.by_length c.args.inner c.args.left.now c.args.right.now _ _ _ _ _ _ (drop_here _ _ _ c.loop-place-test.true c.index-left-place.is) (drop_here _ _ _ c.if-place-right.false c.index-right-place.is) c.in_err-order.ensures)

pub items-returns-then-not-is_same : goal.items-returns-then-not-is_same
items-returns-then-not-is_same t c =
    let other : false ≡ is_same (verdict_of c.in_ok-order.order) = sym c.if-not-is_same.true ∙ c.is_same.ensures in
    sym c.loop-place.invariant ∙ items_other c.args.self.now.by_length c.args.inner c.args.left.now c.args.right.now _ _ _ _ _ _ (drop_here _ _ _ c.loop-place-test.true c.index-left-place.is) (drop_here _ _ _ c.if-place-right.false c.index-right-place.is) c.in_ok-order.ensures other

pub items-loop-place-preserved : goal.items-loop-place-preserved
items-loop-place-preserved t c =
    let same : true ≡ is_same (verdict_of c.in_ok-order.order) = sym c.if-not-is_same.false ∙ c.is_same.ensures in
    items_step c.args.self.now.by_length c.args.inner c.args.left.now c.args.right.now _ _ _ _ _ _ (drop_here _ _ _ c.loop-place-test.true c.index-left-place.is) (drop_here _ _ _ c.if-place-right.false c.index-right-place.is) c.in_ok-order.ensures same ∙ c.loop-place.invariant

pub items-returns-then-left-right : goal.items-returns-then-left-right
items-returns-then-left-right t c =
    sym c.loop-place.invariant ∙ items_before c.args.self.now.by_length c.args.inner c.args.left.now c.args.right.now _ _ c.loop-place-test.false (omega arith)

pub items-returns : goal.items-returns
items-returns t c =
    sym c.loop-place.invariant ∙ items_same c.args.self.now.by_length c.args.inner c.args.left.now c.args.right.now _ _ c.loop-place-test.false (omega arith)

pub pairs-returns-in_err-charge_key : goal.pairs-returns-in_err-charge_key
pairs-returns-in_err-charge_key t c =
    let xs = dict c.args.self.now.machine.now.state c.args.left in
    let ys = dict c.args.self.now.machine.now.state c.args.right in
    let r : c.from_residual.result ≡ Err c.in_err-charge_key.field-0.0 = search rules in
    rw (← c.loop-place.invariant, r) (pairs_failed_first c.args.self.now.by_length c.args.inner xs ys _ _ _ _ _ _ _ (drop_got xs c.loop-place.place _ c.dict_at.ensures.value) c.in_err-charge_key.ensures)

pub pairs-returns-in_default : goal.pairs-returns-in_default
pairs-returns-in_default t c =
    let xs = dict c.args.self.now.machine.now.state c.args.left in
    let ys = dict c.args.self.now.machine.now.state c.args.right in
    sym c.loop-place.invariant ∙ pairs_missing c.args.self.now.by_length c.args.inner xs ys _ _ _ _ _ _ (drop_got xs c.loop-place.place _ c.dict_at.ensures.value) c.in_ok-charge_key.ensures c.in_default.ensures.value

pub pairs-returns-in_err-order : goal.pairs-returns-in_err-order
pairs-returns-in_err-order t c =
    let xs = dict c.args.self.now.machine.now.state c.args.left in
    let ys = dict c.args.self.now.machine.now.state c.args.right in
    let r : c.from_residual-in_err-order.result ≡ Err c.in_err-order.field-0.0 = search rules in
    rw (← c.loop-place.invariant, r) (pairs_failed c.args.self.now.by_length c.args.inner xs ys _ _ _ _ _ _ _ _ _ (drop_got xs c.loop-place.place _ c.dict_at.ensures.value) c.in_ok-charge_key.ensures c.in-Some.ensures.value c.in_err-order.ensures)

pub pairs-returns-then-not-is_same : goal.pairs-returns-then-not-is_same
pairs-returns-then-not-is_same t c =
    let xs = dict c.args.self.now.machine.now.state c.args.left in
    let ys = dict c.args.self.now.machine.now.state c.args.right in
    let other : false ≡ is_same (verdict_of c.in_ok-order.order) = sym c.if-not-is_same.true ∙ c.is_same.ensures in
    sym c.loop-place.invariant ∙ pairs_other c.args.self.now.by_length c.args.inner xs ys _ _ _ _ _ _ _ _ _ (drop_got xs c.loop-place.place _ c.dict_at.ensures.value) c.in_ok-charge_key.ensures c.in-Some.ensures.value c.in_ok-order.ensures other

pub pairs-loop-place-preserved : goal.pairs-loop-place-preserved
pairs-loop-place-preserved t c =
    let xs = dict c.args.self.now.machine.now.state c.args.left in
    let ys = dict c.args.self.now.machine.now.state c.args.right in
    let same : true ≡ is_same (verdict_of c.in_ok-order.order) = sym c.if-not-is_same.false ∙ c.is_same.ensures in
    pairs_step c.args.self.now.by_length c.args.inner xs ys _ _ _ _ _ _ _ _ _ (drop_got xs c.loop-place.place _ c.dict_at.ensures.value) c.in_ok-charge_key.ensures c.in-Some.ensures.value c.in_ok-order.ensures same ∙ c.loop-place.invariant

pub pairs-returns : goal.pairs-returns
pairs-returns t c =
    let xs = dict c.args.self.now.machine.now.state c.args.left in
    let ys = dict c.args.self.now.machine.now.state c.args.right in
    sym c.loop-place.invariant ∙ pairs_end c.args.self.now.by_length c.args.inner xs ys _ _ (let e = c.dict_len-place-end.ensures.value in omega arith)

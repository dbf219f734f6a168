use Rattle.std.proofs.Common.{◌≡◌, refl, sym, ap, ◌∙◌, rules, true, Err, Some, slice_get, ◌<◌, length, subst, arith, ℕ, List, [], ◌∷◌, ◌++◌}
use Rattle.std.proofs.lemmas.List.{take_rest}
use Rattle.star_run.specs.Fixed.{fixed}
use Rattle.star_run.specs.Running.{world, Goes, IsPaid, HasCredit}
use Rattle.star_meaning.specs.Expressions.{named_values, values}
use Rattle.star_meaning.specs.Values.{is_true, items_in, new_list, new_dict}
use Rattle.star_builtins.proofs.FitLemmas.{fits_int}
use Rattle.star_run.proofs.LoopLemmas.{and_step, binary_step, named_step, or_step, values_step}
use Rattle.star_run.proofs.PlaceLemmas.{item_fits, not_index, parts_split, target_step, target_stops, targets_end}
use Rattle.star_run.proofs.ReadLemmas.{place_plain, place_reads, primary_plain, primary_reads}
use Rattle.star_run.proofs.TreeLemmas.{chain_at, conditional_at, dict_at, dictover_at}
use Rattle.star_syntax.specs.declared.expression.Expr.{the_lemmas}
use Rattle.star_run.proofs.WaitLemmas.{all_fit_later, all_fit_push, fits_bool, fits_none, goes_same, goes_then, named_fit_push, no_pairs_fit, none_fit, pairs_fit_later, fits_later}
use Rattle.std.specs.Prelude.{OnOk}
use Rattle.star_run.specs.Gathers.{gather, GatheredFit, gathering}
use Rattle.star_run.specs.Loops.{IsFor, IsReached, Reaches, Stays, loop_at, turn_at}
use Rattle.star_run.proofs.GatherLemmas.{paid_later, gathered_later, credit_later, paid_before, list_failed, list_gathered, paid_made, dict_failed, dict_gathered, nothing_fits}
use Rattle.star_run.proofs.ClauseLemmas.{entry_fails, entry_gathered, fails_made, fails_reach, for_is, for_reached, for_within, gather_stays, if_holds, item_fails, item_gathered, item_stays, key_fails, no_if, ok_always, ok_then, stays_same, stays_then, turn_stored, turn_unpaid, turn_unstored, value_stays, weight_paid, reach_fails_made, first_fails, made_fails, turns_end, turns_fail, unbound_fits, unpaid, made_fails_as, NoFor, for_first, none_first, only_charged, other_first}
use Rattle.star_meaning.specs.Steps.{Went, Gives, and_then}
use Rattle.star_run.specs.declared.loops.Loop.{Loop}
use Rattle.star_run.proofs.TurnLemmas.{Stands, Under, all_ended, all_failed, asked_within, begun_fails, comes_to, fewer_begun, fewer_ended, fewer_turned, later_under, loop_begins, loop_ends, popped_none, reached_some, reaches_none, reaches_some, stands_last, turn_begins, unbegun}
use Rattle.std.specs.List.{flat_map}
use Rattle.star_meaning.specs.World.{distinct, acting}
use Rattle.star_builtins.specs.Reached.{Fits}
use Rattle.star_run.specs.Locals.{clause_bound}
use Rattle.star_run.specs.Parts.{listed, paired}
use Rattle.star_syntax.specs.declared.expression.Clause.TheVariants as form
use Rattle.star_run.specs.declared.gathered.Element.TheVariants as element
use Rattle.star_run.proofs.level.Level.+value.Goals as goal
use Rattle.star_run.proofs.level.Level.+value.Goals.{chain-in-Or+else-is_true+in_ok-charge-in-Or+in_ok-value-in-Or, chain-in-And+else-not-is_true+in_ok-charge-in-And+in_ok-value-in-And, chain-in-Binary+in_ok-right-in-Binary+in_ok-value-in-Binary}

pub values-loop-tree-init : goal.values-loop-tree-init
unfolding values
values-loop-tree-init g t c = record { same = rw c.new-values.ensures refl; goes = goes_same _; fit = rw c.new-values.ensures (none_fit _) }

pub values-loop-tree-preserved : goal.values-loop-tree-preserved
values-loop-tree-preserved g t c = record {
  same = sym (values_step _ _ _ _ _ _ _ _ _ _ c.loop-tree-test.true c.tree-item.is c.in_ok-value.ensures.gives c.in_ok-push.ensures.ok) ∙ c.loop-tree.invariant.same;
  goes = goes_then _ _ _ c.loop-tree.invariant.goes c.value.ensures.goes;
  fit = all_fit_push c.loop-tree.run c.value.new.run c.loop-tree.values c.push.new.self c.in_ok-value.value c.in_ok-push.ensures.ok c.value.ensures.goes c.loop-tree.invariant.fit c.in_ok-value.ensures.fits;
}

pub named-loop-one-init : goal.named-loop-one-init
unfolding named_values
named-loop-one-init g t c = record { same = rw c.new-values.ensures refl; goes = goes_same _; fit = rw c.new-values.ensures (none_fit _) }

pub named-loop-one-preserved : goal.named-loop-one-preserved
named-loop-one-preserved g t c = record {
  same = sym (named_step _ _ _ _ _ _ _ _ _ _ _ c.loop-one-test.true c.one-item.is c.in_ok-value.ensures.gives c.in_ok-name.ensures c.in_ok-push.ensures.ok) ∙ c.loop-one.invariant.same;
  goes = goes_then _ _ _ c.loop-one.invariant.goes c.value.ensures.goes;
  fit = named_fit_push c.loop-one.run c.value.new.run c.loop-one.values c.push.new.self c.in_ok-name.name c.in_ok-value.value c.in_ok-push.ensures.ok c.value.ensures.goes c.loop-one.invariant.fit c.in_ok-value.ensures.fits;
}

pub pairs-loop-pair-init : goal.pairs-loop-pair-init
pairs-loop-pair-init g t c = record { same = rw c.new-pairs.ensures refl; goes = goes_same _; fit = rw c.new-pairs.ensures (no_pairs_fit _) }

pub chain-loop-link-preserved : goal.chain-loop-link-preserved
chain-loop-link-preserved g t c =
    elim c.match-link.branch [
      | chain-in-Or+else-is_true+in_ok-charge-in-Or+in_ok-value-in-Or w ↦ rw (w.run-is, w.value-is) (record {
        same = sym (or_step _ _ _ _ _ _ _ _ _ _ c.loop-link-test.true c.link-item.is w.in-Or.is (sym w.is_true.ensures ∙ w.if-is_true.false) w.in_ok-charge-in-Or.ensures.gives w.in_ok-value-in-Or.ensures.gives) ∙ c.loop-link.invariant.same;
        goes = goes_then _ _ _ c.loop-link.invariant.goes (goes_then _ _ _ w.charge.ensures.goes w.value-in-Or.ensures.goes);
        fit = w.in_ok-value-in-Or.ensures.fits;
      })
      | chain-in-And+else-not-is_true+in_ok-charge-in-And+in_ok-value-in-And w ↦
          let test : is_true c.loop-link.run.machine.state c.loop-link.value ≡ true = sym w.is_true-in-And.ensures ∙ w.if-not-is_true.false in
          rw (w.run-is, w.value-is) (record {
            same = sym (and_step _ _ _ _ _ _ _ _ _ _ c.loop-link-test.true c.link-item.is w.in-And.is test w.in_ok-charge-in-And.ensures.gives w.in_ok-value-in-And.ensures.gives) ∙ c.loop-link.invariant.same;
            goes = goes_then _ _ _ c.loop-link.invariant.goes (goes_then _ _ _ w.charge-in-And.ensures.goes w.value-in-And.ensures.goes);
            fit = w.in_ok-value-in-And.ensures.fits;
          })
      | chain-in-Binary+in_ok-right-in-Binary+in_ok-value-in-Binary w ↦ rw (w.run-is, w.value-is) (record {
        same = sym (binary_step _ _ _ _ _ _ _ _ _ _ _ _ c.loop-link-test.true c.link-item.is w.in-Binary.is w.in_ok-right-in-Binary.ensures.gives w.in_ok-value-in-Binary.ensures.gives) ∙ c.loop-link.invariant.same;
        goes = goes_then _ _ _ c.loop-link.invariant.goes (goes_then _ _ _ w.value-in-Binary.ensures.goes w.binary.ensures.goes);
        fit = w.in_ok-value-in-Binary.ensures.fits;
      })
    ]

pub suffix-returns-in-Method-clause-gives : goal.suffix-returns-in-Method-clause-gives
suffix-returns-in-Method-clause-gives g t c = rw c.in-Method.is c.method.ensures.gives

pub primary-returns-in_err-value-in-Some-clause-gives : goal.primary-returns-in_err-value-in-Some-clause-gives
primary-returns-in_err-value-in-Some-clause-gives g t c =
    rw (primary_reads (fixed c.args.self.now.given) c.args.self.now.depth c.args.head.now c.args.all.now c.in-Some.name.now (world c.args.run.now) (sym c.in-Some.ensures)) (search rules)

pub primary-returns-in_err-value-in-None-clause-gives : goal.primary-returns-in_err-value-in-None-clause-gives
primary-returns-in_err-value-in-None-clause-gives g t c =
    rw (primary_plain (fixed c.args.self.now.given) c.args.self.now.depth c.args.head.now c.args.all.now (world c.args.run.now) (sym c.in-None.ensures)) (search rules)

pub primary-returns-in-len1-up-clause-gives : goal.primary-returns-in-len1-up-clause-gives
primary-returns-in-len1-up-clause-gives g t c =
    rw (primary_reads (fixed c.args.self.now.given) c.args.self.now.depth c.args.head.now c.args.all.now c.in-Some.name.now (world c.args.run.now) (sym c.in-Some.ensures), c.in_ok-value-in-Some.ensures.gives) (rw (take_rest c.args.all.now 1) at c.suffixes.ensures.gives)

pub primary-returns-in_ok-value-in-None-clause-gives : goal.primary-returns-in_ok-value-in-None-clause-gives
primary-returns-in_ok-value-in-None-clause-gives g t c =
    rw (primary_plain (fixed c.args.self.now.given) c.args.self.now.depth c.args.head.now c.args.all.now (world c.args.run.now) (sym c.in-None.ensures), c.in_ok-value-in-None.ensures.gives) c.suffixes-in-None.ensures.gives

pub place-returns-in_err-value-in-Some-clause-gives : goal.place-returns-in_err-value-in-Some-clause-gives
place-returns-in_err-value-in-Some-clause-gives g t c =
    rw (place_reads (fixed c.args.self.now.given) c.args.self.now.depth c.args.head.now c.args.all.now c.in-Some.name.now (world c.args.run.now) (sym c.in-Some.ensures)) (search rules)

pub place-returns-in_err-value-in-None-clause-gives : goal.place-returns-in_err-value-in-None-clause-gives
place-returns-in_err-value-in-None-clause-gives g t c =
    rw (place_plain (fixed c.args.self.now.given) c.args.self.now.depth c.args.head.now c.args.all.now (world c.args.run.now) (sym c.in-None.ensures)) (search rules)

pub place-returns-in-len1-up-clause-gives : goal.place-returns-in-len1-up-clause-gives
place-returns-in-len1-up-clause-gives g t c =
    rw (place_reads (fixed c.args.self.now.given) c.args.self.now.depth c.args.head.now c.args.all.now c.in-Some.name.now (world c.args.run.now) (sym c.in-Some.ensures), c.in_ok-value-in-Some.ensures.gives) (rw (take_rest c.args.all.now 1) at c.parts.ensures.gives)

pub place-returns-in_ok-value-in-None-clause-gives : goal.place-returns-in_ok-value-in-None-clause-gives
place-returns-in_ok-value-in-None-clause-gives g t c =
    rw (place_plain (fixed c.args.self.now.given) c.args.self.now.depth c.args.head.now c.args.all.now (world c.args.run.now) (sym c.in-None.ensures), c.in_ok-value-in-None.ensures.gives) c.parts-in-None.ensures.gives

pub store_each-stored-requires : goal.store_each-stored-requires
store_each-stored-requires g t c =
    let there : slice_get c.args.items.now c.loop-place.place ≡ Some c.in_ok-item.item = sym c.in-Some.ensures ∙ ap Some (sym c.in_ok-item.ensures) in
    λ κs h. (first_of (search (rules, the_lemmas), search rules, grind (arith, the_lemmas)), (search rules, (c.requires.nests, item_fits _ c.args.items.now c.loop-place.place _ there c.loop-place.invariant.fit)))

pub store_each-loop-place-preserved : goal.store_each-loop-place-preserved
store_each-loop-place-preserved g t c =
    let there : slice_get c.args.items.now c.loop-place.place ≡ Some c.in_ok-item.item = sym c.in-Some.ensures ∙ ap Some (sym c.in_ok-item.ensures) in
    record {
      same = sym (target_step (fixed c.args.self.now.given) c.args.self.now.depth _ _ _ _ _ _ _ c.loop-place-test.true c.index-trees-place.is there c.in_ok-stored.ensures.gives) ∙ c.loop-place.invariant.same;
      goes = goes_then _ _ _ c.loop-place.invariant.goes c.stored.ensures.goes;
      fit = all_fit_later c.args.items.now c.stored.ensures.goes c.loop-place.invariant.fit;
    }

pub store_each-returns-in_default-clause-gives : goal.store_each-returns-in_default-clause-gives
store_each-returns-in_default-clause-gives g t c =
    sym c.loop-place.invariant.same ∙ targets_end (fixed c.args.self.now.given) c.args.self.now.depth c.args.trees.now c.args.items.now c.loop-place.place (world c.loop-place.run) (sym c.in_default.ensures)

pub store_each-returns-in_err-stored-clause-gives : goal.store_each-returns-in_err-stored-clause-gives
store_each-returns-in_err-stored-clause-gives g t c =
    let there : slice_get c.args.items.now c.loop-place.place ≡ Some c.in_ok-item.item = sym c.in-Some.ensures ∙ ap Some (sym c.in_ok-item.ensures) in
    let why : c.from_residual-in_err-stored.result ≡ Err c.in_err-stored.field-0.0 = search rules in
    rw (← c.loop-place.invariant.same, why) (target_stops (fixed c.args.self.now.given) c.args.self.now.depth c.args.trees.now c.args.items.now c.loop-place.place _ _ _ _ _ c.loop-place-test.true c.index-trees-place.is there c.in_err-stored.ensures.gives)

pub parts-returns-in_err-value-clause-gives : goal.parts-returns-in_err-value-clause-gives
parts-returns-in_err-value-clause-gives g t c =
    rw (parts_split (fixed c.args.self.now.given) c.args.self.now.depth c.args.all.now c.last-item.result c.args.of (world c.args.run.now) c.in-len1-up.len_at_least c.last-item.is) (search rules)

pub parts-returns-clause-gives : goal.parts-returns-clause-gives
parts-returns-clause-gives g t c =
    rw (parts_split (fixed c.args.self.now.given) c.args.self.now.depth c.args.all.now c.last-item.result c.args.of (world c.args.run.now) c.in-len1-up.len_at_least c.last-item.is, c.in_ok-value.ensures.gives) c.last_part.ensures.gives

pub last_part-returns-in_err-_value-in_default-clause-gives : goal.last_part-returns-in_err-_value-in_default-clause-gives
last_part-returns-in_err-_value-in_default-clause-gives g t c =
    rw (not_index (fixed c.args.self.now.given) c.args.self.now.depth c.args.last.now c.args.of (world c.args.run.now) c.in_default.not-Index) (search rules)

pub last_part-returns-in_ok-_value-in_default-clause-gives : goal.last_part-returns-in_ok-_value-in_default-clause-gives
last_part-returns-in_ok-_value-in_default-clause-gives g t c =
    rw (not_index (fixed c.args.self.now.given) c.args.self.now.depth c.args.last.now c.args.of (world c.args.run.now) c.in_default.not-Index, c.in_ok-_value-in_default.ensures.gives) refl

pub value-constant-requires : goal.value-constant-requires
value-constant-requires g t c = search (rules, fits_int)

pub value-constant-requires-in-None : goal.value-constant-requires-in-None
value-constant-requires-in-None g t c = fits_none _

pub value-constant-requires-in-True : goal.value-constant-requires-in-True
value-constant-requires-in-True g t c = fits_bool _ _

pub value-constant-requires-in-False : goal.value-constant-requires-in-False
value-constant-requires-in-False g t c = fits_bool _ _

pub value-returns-in-Dict-clause-gives : goal.value-returns-in-Dict-clause-gives
value-returns-in-Dict-clause-gives g t c =
    dict_at (fixed c.args.self.now.given) c.args.self.now.depth c.args.tree.now (world c.args.run.now) (world c.dict.new.run) c.dict.result c.in-Dict.all c.as_slice-in-Dict.result.now c.in-Dict.field-1
    c.in-Dict.is c.as_slice-in-Dict.ensures c.dict.ensures.gives

pub value-returns-in-DictOver-clause-gives : goal.value-returns-in-DictOver-clause-gives
value-returns-in-DictOver-clause-gives g t c =
    dictover_at (fixed c.args.self.now.given) c.args.self.now.depth c.args.tree.now (world c.args.run.now) (world c.dict_over.new.run) c.dict_over.result c.in-DictOver.key c.get-in-DictOver.result.now c.in-DictOver.value c.get-in-DictOver-2.result.now c.in-DictOver.all c.as_slice-in-DictOver.result.now
    c.in-DictOver.is c.get-in-DictOver.ensures c.get-in-DictOver-2.ensures c.as_slice-in-DictOver.ensures c.dict_over.ensures.gives

pub value-returns-in-Chain-clause-gives : goal.value-returns-in-Chain-clause-gives
value-returns-in-Chain-clause-gives g t c =
    chain_at (fixed c.args.self.now.given) c.args.self.now.depth c.args.tree.now (world c.args.run.now) (world c.chain.new.run) c.chain.result c.in-Chain.field-0 c.in-Chain.first c.get-in-Chain.result.now c.in-Chain.links c.as_slice-in-Chain.result.now
    c.in-Chain.is c.get-in-Chain.ensures c.as_slice-in-Chain.ensures c.chain.ensures.gives

pub value-returns-in-Conditional-clause-gives : goal.value-returns-in-Conditional-clause-gives
value-returns-in-Conditional-clause-gives g t c =
    conditional_at (fixed c.args.self.now.given) c.args.self.now.depth c.args.tree.now (world c.args.run.now) (world c.conditional.new.run) c.conditional.result c.in-Conditional.arms c.as_slice-in-Conditional.result.now c.in-Conditional.last c.get-in-Conditional.result.now
    c.in-Conditional.is c.as_slice-in-Conditional.ensures c.get-in-Conditional.ensures c.conditional.ensures.gives

pub gather-returns-in_err-value-in-Item-clause-gives : goal.gather-returns-in_err-value-in-Item-clause-gives
gather-returns-in_err-value-in-Item-clause-gives g t c =
    let r : c.from_residual.result ≡ Err c.in_err-value-in-Item.field-0.0 = search rules in
    rw r (fails_made _ _ (world c.value.new.run) (λ f h. item_fails (fixed c.args.self.now.given) c.args.self.now.depth c.args.element c.args.gathered.now (world c.args.run.now) c.in-Item.item c.in-Item.is (world c.value.new.run) f h)
    c.in_err-value-in-Item.field-0.0 c.args.gathered.now c.in_err-value-in-Item.ensures.gives)

pub gather-returns-in_err-key-in-Pair-clause-gives : goal.gather-returns-in_err-key-in-Pair-clause-gives
gather-returns-in_err-key-in-Pair-clause-gives g t c =
    let r : c.from_residual-in_err-key-in-Pair.result ≡ Err c.in_err-key-in-Pair.field-0.0 = search rules in
    rw r (fails_made _ _ (world c.value-in-Pair.new.run) (λ f h. key_fails (fixed c.args.self.now.given) c.args.self.now.depth c.args.element c.args.gathered.now (world c.args.run.now) c.in-Pair.key c.in-Pair.value c.in-Pair.is (world c.value-in-Pair.new.run) f h)
    c.in_err-key-in-Pair.field-0.0 c.args.gathered.now c.in_err-key-in-Pair.ensures.gives)

pub gather-returns-in_err-value-in-Pair-clause-gives : goal.gather-returns-in_err-value-in-Pair-clause-gives
gather-returns-in_err-value-in-Pair-clause-gives g t c =
    let r : c.from_residual-in_err-value-in-Pair.result ≡ Err c.in_err-value-in-Pair.field-0.0 = search rules in
    rw r (fails_made _ _ (world c.value-in-Pair-2.new.run)
    (λ f h. entry_fails (fixed c.args.self.now.given) c.args.self.now.depth c.args.element c.args.gathered.now (world c.args.run.now) c.in-Pair.key c.in-Pair.value c.in-Pair.is (world c.value-in-Pair.new.run) c.in_ok-key-in-Pair.key c.in_ok-key-in-Pair.ensures.gives (world c.value-in-Pair-2.new.run) f h)
    c.in_err-value-in-Pair.field-0.0 c.args.gathered.now c.in_err-value-in-Pair.ensures.gives)

pub gather-returns-in_ok-push-in-Item-clause-gives : goal.gather-returns-in_ok-push-in-Item-clause-gives
gather-returns-in_ok-push-in-Item-clause-gives g t c =
    item_gathered (fixed c.args.self.now.given) c.args.self.now.depth c.args.element c.args.gathered.now (world c.args.run.now) c.in-Item.item c.in-Item.is (world c.value.new.run) c.in_ok-value-in-Item.value c.push.new.self c.in_ok-value-in-Item.ensures.gives c.in_ok-push-in-Item.ensures.ok

pub gather-returns-in_ok-push-in-Item-clause-fit : goal.gather-returns-in_ok-push-in-Item-clause-fit
gather-returns-in_ok-push-in-Item-clause-fit g t c = record {
  items = all_fit_push c.args.run.now c.value.new.run c.args.gathered.now.items c.push.new.self c.in_ok-value-in-Item.value c.in_ok-push-in-Item.ensures.ok c.value.ensures.goes c.requires.gathered.items c.in_ok-value-in-Item.ensures.fits;
  pairs = pairs_fit_later c.args.gathered.now.pairs c.value.ensures.goes c.requires.gathered.pairs;
}

pub gather-returns-in_ok-value-in-Pair-clause-gives : goal.gather-returns-in_ok-value-in-Pair-clause-gives
gather-returns-in_ok-value-in-Pair-clause-gives g t c =
    entry_gathered (fixed c.args.self.now.given) c.args.self.now.depth c.args.element c.args.gathered.now (world c.args.run.now) c.in-Pair.key c.in-Pair.value c.in-Pair.is (world c.value-in-Pair.new.run) c.in_ok-key-in-Pair.key c.in_ok-key-in-Pair.ensures.gives
    (world c.value-in-Pair-2.new.run) (world c.put_entry.new.run) c.in_ok-value-in-Pair.value c.put_entry.result c.put_entry.new.pairs c.in_ok-value-in-Pair.ensures.gives c.put_entry.ensures.gives

pub clauses-loop-at-init : goal.clauses-loop-at-init
clauses-loop-at-init g t c = record { same = refl; stays = stays_same _ _; goes = goes_same _ }

pub clauses-returns-then-not-is_true-clause-stays : goal.clauses-returns-then-not-is_true-clause-stays
clauses-returns-then-not-is_true-clause-stays g t c =
    stays_then c.args.self.now.given.node c.args.run.now c.loop-at.run c.value.new.run c.loop-at.invariant.stays
    (value_stays (fixed c.args.self.now.given) c.args.self.now.depth c.in-If.condition c.in_ok-test-in-If.test c.loop-at.run c.value.new.run c.in_ok-test-in-If.ensures.gives)

pub clauses-returns-in-For-clause-gives : goal.clauses-returns-in-For-clause-gives
clauses-returns-in-For-clause-gives g t c =
    let within : c.loop-at.at < length c.args.all.now = omega arith in
    sym c.loop-at.invariant.same
    ∙ for_reached (fixed c.args.self.now.given) c.args.self.now.depth c.args.all.now c.args.element c.loop-at.at c.index-all-at.result within c.index-all-at.is c.in-For.field-0 c.in-For.over c.in-For.is c.args.gathered.now (world c.loop-at.run)
    (world c.value-in-For.new.run) c.in_ok-of-in-For.of c.in_ok-of-in-For.ensures.gives

pub clauses-returns-in-For-clause-reached : goal.clauses-returns-in-For-clause-reached
clauses-returns-in-For-clause-reached g t c =
    let within : c.loop-at.at < length c.args.all.now = omega arith in
    record {
      clause = for_is (fixed c.args.self.now.given) c.args.self.now.depth c.args.all.now c.args.element c.loop-at.at c.index-all-at.result within c.index-all-at.is c.in-For.field-0 c.in-For.over c.in-For.is c.args.gathered.now (world c.loop-at.run) (world c.value-in-For.new.run);
      fits = c.in_ok-of-in-For.ensures.fits;
    }

pub clauses-returns-in-For-clause-stays : goal.clauses-returns-in-For-clause-stays
clauses-returns-in-For-clause-stays g t c =
    stays_then c.args.self.now.given.node c.args.run.now c.loop-at.run c.value-in-For.new.run c.loop-at.invariant.stays
    (value_stays (fixed c.args.self.now.given) c.args.self.now.depth c.in-For.over c.in_ok-of-in-For.of c.loop-at.run c.value-in-For.new.run c.in_ok-of-in-For.ensures.gives)

pub clauses-loop-at-preserved : goal.clauses-loop-at-preserved
clauses-loop-at-preserved g t c =
    let within : c.loop-at.at < length c.args.all.now = omega arith in
    record {
      same =
          sym (if_holds (fixed c.args.self.now.given) c.args.self.now.depth c.args.all.now c.args.element c.loop-at.at c.index-all-at.result within c.index-all-at.is c.in-If.condition c.in-If.is c.args.gathered.now (world c.loop-at.run)
          (world c.value.new.run) c.in_ok-test-in-If.test c.in_ok-test-in-If.ensures.gives (sym c.is_true.ensures ∙ c.if-not-is_true.false))
          ∙ c.loop-at.invariant.same;
      stays =
          stays_then c.args.self.now.given.node c.args.run.now c.loop-at.run c.value.new.run c.loop-at.invariant.stays
          (value_stays (fixed c.args.self.now.given) c.args.self.now.depth c.in-If.condition c.in_ok-test-in-If.test c.loop-at.run c.value.new.run c.in_ok-test-in-If.ensures.gives);
      goes = goes_then c.args.run.now c.loop-at.run c.value.new.run c.loop-at.invariant.goes c.value.ensures.goes;
    }

pub clauses-returns-clause-stays : goal.clauses-returns-clause-stays
clauses-returns-clause-stays g t c =
    stays_then c.args.self.now.given.node c.args.run.now c.loop-at.run c.gather.new.run c.loop-at.invariant.stays
    (gather_stays (fixed c.args.self.now.given) c.args.self.now.depth c.args.element c.args.gathered.now c.gather.new.gathered c.loop-at.run c.gather.new.run c.in_ok-gather.ensures.gives)

pub clauses-gather-requires : goal.clauses-gather-requires
clauses-gather-requires g t c =
    λ κs h. (first_of (search (rules, the_lemmas), grind (arith, the_lemmas), search rules), (search rules, (c.requires.nests, gathered_later c.args.gathered.now c.loop-at.invariant.goes c.requires.gathered)))

pub turn-returns-in_err-charge_weight-in-For-clause-gives : goal.turn-returns-in_err-charge_weight-in-For-clause-gives
turn-returns-in_err-charge_weight-in-For-clause-gives g t c =
    let within : c.args.at < length c.args.all.now = for_within c.args.all.now c.args.at c.requires.at in
    let r : c.from_residual.result ≡ Err c.in_err-charge_weight-in-For.field-0.0 = search rules in
    rw r (fails_reach (fixed c.args.self.now.given) c.args.self.now.depth c.args.all.now c.args.element _ _ (world c.charge_weight.new.self)
    (λ f h. turn_unpaid (fixed c.args.self.now.given) c.args.self.now.depth c.args.all.now c.args.element c.args.at c.index-all-at.result within c.index-all-at.is c.in-For.targets c.in-For.field-1 c.in-For.is c.args.item c.args.gathered.now (world c.args.run.now) (world c.charge_weight.new.self) f h)
    c.in_err-charge_weight-in-For.field-0.0 c.args.gathered.now c.in_err-charge_weight-in-For.ensures.gives)

pub turn-returns-in_err-store_in-in-For-clause-gives : goal.turn-returns-in_err-store_in-in-For-clause-gives
turn-returns-in_err-store_in-in-For-clause-gives g t c =
    let within : c.args.at < length c.args.all.now = for_within c.args.all.now c.args.at c.requires.at in
    let is : c.index-all-at.result ≡ form.For c.as_slice.result.now c.in-For.field-1 = c.in-For.is ∙ ap (λ ts. form.For ts c.in-For.field-1) (sym c.as_slice.ensures) in
    let r : c.from_residual-in_err-store_in-in-For.result ≡ Err c.in_err-store_in-in-For.field-0.0 = search rules in
    rw r (fails_reach (fixed c.args.self.now.given) c.args.self.now.depth c.args.all.now c.args.element _ _ (world c.store_in.new.run)
    (λ f h. turn_unstored (fixed c.args.self.now.given) c.args.self.now.depth c.args.all.now c.args.element c.args.at c.index-all-at.result within c.index-all-at.is c.as_slice.result.now c.in-For.field-1 is c.args.item c.args.gathered.now (world c.args.run.now) (world c.charge_weight.new.self) (world c.store_in.new.run) f c.in_ok-charge_weight-in-For.ensures.gives h)
    c.in_err-store_in-in-For.field-0.0 c.args.gathered.now c.in_err-store_in-in-For.ensures.gives)

pub turn-unreachable-requires : goal.turn-unreachable-requires
turn-unreachable-requires g t c = no_if c.args.all.now c.args.at c.index-all-at.result c.in-If.field-0 c.requires.at (for_within c.args.all.now c.args.at c.requires.at) c.index-all-at.is c.in-If.is

pub turn-returns-clause-gives : goal.turn-returns-clause-gives
turn-returns-clause-gives g t c =
    let within : c.args.at < length c.args.all.now = for_within c.args.all.now c.args.at c.requires.at in
    let is : c.index-all-at.result ≡ form.For c.as_slice.result.now c.in-For.field-1 = c.in-For.is ∙ ap (λ ts. form.For ts c.in-For.field-1) (sym c.as_slice.ensures) in
    subst (λ o. Reaches (fixed c.args.self.now.given) c.args.self.now.depth c.args.all.now c.args.element o c.clauses.result c.clauses.new.gathered (world c.clauses.new.run))
    (sym (turn_stored (fixed c.args.self.now.given) c.args.self.now.depth c.args.all.now c.args.element c.args.at c.index-all-at.result within c.index-all-at.is c.as_slice.result.now c.in-For.field-1 is c.args.item c.args.gathered.now (world c.args.run.now) (world c.charge_weight.new.self) (world c.store_in.new.run) c.in_ok-charge_weight-in-For.ensures.gives c.in_ok-store_in-in-For.ensures.gives)) c.clauses.ensures.gives

pub turn-returns-clause-stays : goal.turn-returns-clause-stays
turn-returns-clause-stays g t c =
    let stored : Stays c.args.self.now.given.node c.args.run.now c.store_in.new.run =
    item_stays (fixed c.args.self.now.given) c.args.self.now.depth c.as_slice.result.now c.args.item c.args.run.now c.charge_weight.new.self c.store_in.new.run c.in_ok-charge_weight-in-For.ensures.gives c.in_ok-store_in-in-For.ensures.gives in
    ok_then c.clauses.result (Stays c.args.self.now.given.node c.store_in.new.run c.clauses.new.run) (Stays c.args.self.now.given.node c.args.run.now c.clauses.new.run)
    (λ k. stays_then c.args.self.now.given.node c.args.run.now c.store_in.new.run c.clauses.new.run stored k) c.clauses.ensures.stays

pub turn-returns-clause-paid : goal.turn-returns-clause-paid
turn-returns-clause-paid g t c =
    let paid : IsPaid c.args.run.now c.charge_weight.new.self = weight_paid c.args.run.now c.charge_weight.new.self c.args.item c.in_ok-charge_weight-in-For.ensures.gives c.charge_weight.ensures.same in
    ok_always c.clauses.result (IsPaid c.args.run.now c.clauses.new.run)
    (paid_later c.args.run.now c.store_in.new.run c.clauses.new.run (paid_later c.args.run.now c.charge_weight.new.self c.store_in.new.run paid c.store_in.ensures.goes) c.clauses.ensures.goes)

pub turn-store_in-requires : goal.turn-store_in-requires
turn-store_in-requires g t c =
    λ κs h. (first_of (search (rules, the_lemmas), grind (arith, the_lemmas), search rules), (search rules, (c.requires.nests, fits_later c.args.item c.charge_weight.ensures.goes c.requires.item)))

pub turn-clauses-requires : goal.turn-clauses-requires
turn-clauses-requires g t c =
    λ κs h. (first_of (search (rules, the_lemmas), grind (arith, the_lemmas), search rules), (search rules, (c.requires.nests, gathered_later c.args.gathered.now c.store_in.ensures.goes (gathered_later c.args.gathered.now c.charge_weight.ensures.goes c.requires.gathered))))

pub over-returns-in_err-begun-clause-gives : goal.over-returns-in_err-begun-clause-gives
over-returns-in_err-begun-clause-gives g t c =
    let r : c.from_residual.result ≡ Err c.in_err-begun.field-0.0 = search rules in
    rw r (begun_fails (fixed c.args.self.now.given) c.args.self.now.depth c.args.all.now c.args.element c.begun.new.run c.args.first c.args.gathered.now c.args.gathered.now c.in_err-begun.field-0.0 (unbegun (fixed c.args.self.now.given) c.args.self.now.depth c.args.all.now c.args.element c.args.run.now (loop_at (fixed c.args.self.now.given) c.args.self.now.depth c.args.all.now c.args.element c.args.first.clause c.args.first.of c.args.gathered.now (world c.args.run.now))) c.in_err-begun.ensures.failed)

pub over-loop-inner-init : goal.over-loop-inner-init
over-loop-inner-init g t c = record {
  under =
      loop_begins (fixed c.args.self.now.given) c.args.self.now.depth c.args.all.now c.args.element [] c.push.new.self c.args.first c.in_ok-begun.field-0 (unbegun (fixed c.args.self.now.given) c.args.self.now.depth c.args.all.now c.args.element c.args.run.now (loop_at (fixed c.args.self.now.given) c.args.self.now.depth c.args.all.now c.args.element c.args.first.clause c.args.first.of c.args.gathered.now (world c.args.run.now))) c.requires.first c.in_ok-begun.ensures.begins c.in_ok-begun.ensures.counted
      c.in_ok-begun.ensures.locked c.begun.ensures.goes (c.in_ok-push.ensures.ok ∙ ap (λ (ls : List Loop). ls ++ c.in_ok-begun.field-0 ∷ []) c.new-loops.ensures);
  fit = gathered_later c.args.gathered.now c.begun.ensures.goes c.requires.gathered;
}

pub over-loop-inner-smaller-then-place-count : goal.over-loop-inner-smaller-then-place-count
over-loop-inner-smaller-then-place-count g t c = fewer_ended c.loop-inner.run c.unlock.new.self c.loop-inner.loops c.pop.new.self c.in-Some.inner c.in-Some.ensures c.unlock.ensures.goes

pub over-loop-inner-preserved-then-place-count : goal.over-loop-inner-preserved-then-place-count
over-loop-inner-preserved-then-place-count g t c = record {
  under = loop_ends (fixed c.args.self.now.given) c.args.self.now.depth c.args.all.now c.args.element c.loop-inner.loops c.pop.new.self c.in-Some.inner c.loop-inner.invariant.under c.in-Some.ensures c.if-place-count.true c.unlock.ensures.gives c.unlock.ensures.goes;
  fit = gathered_later c.loop-inner.gathered c.unlock.ensures.goes c.loop-inner.invariant.fit;
}

pub over-item-requires-clause-of : goal.over-item-requires-clause-of
over-item-requires-clause-of g t c = (stands_last c.args.all.now c.loop-inner.run.machine c.pop.new.self c.loop-inner.loops c.in-Some.inner c.loop-inner.invariant.under.stand c.in-Some.ensures).fits

pub over-item-requires-clause-within : goal.over-item-requires-clause-within
over-item-requires-clause-within g t c =
    let last : Stands c.args.all.now c.loop-inner.run.machine c.in-Some.inner = stands_last c.args.all.now c.loop-inner.run.machine c.pop.new.self c.loop-inner.loops c.in-Some.inner c.loop-inner.invariant.under.stand c.in-Some.ensures in
    let less : c.in-Some.inner.place < c.in-Some.inner.count = omega (arith, last.within, c.if-place-count.false) in
    asked_within (items_in c.loop-inner.run.machine.state c.in-Some.inner.of) c.in-Some.inner.count c.in-Some.inner.place last.counted less

pub over-place_after-requires : goal.over-place_after-requires
over-place_after-requires g t c =
    let last : Stands c.args.all.now c.loop-inner.run.machine c.in-Some.inner = stands_last c.args.all.now c.loop-inner.run.machine c.pop.new.self c.loop-inner.loops c.in-Some.inner c.loop-inner.invariant.under.stand c.in-Some.ensures in
    let less : c.in-Some.inner.place < c.in-Some.inner.count = omega (arith, last.within, c.if-place-count.false) in
    less

pub over-returns-in_err-next-clause-gives : goal.over-returns-in_err-next-clause-gives
over-returns-in_err-next-clause-gives g t c =
    let last : Stands c.args.all.now c.loop-inner.run.machine c.in-Some.inner = stands_last c.args.all.now c.loop-inner.run.machine c.pop.new.self c.loop-inner.loops c.in-Some.inner c.loop-inner.invariant.under.stand c.in-Some.ensures in
    let less : c.in-Some.inner.place < c.in-Some.inner.count = omega (arith, last.within, c.if-place-count.false) in
    let turning : Under (fixed c.args.self.now.given) c.args.self.now.depth c.args.all.now c.args.element c.args.run.now (loop_at (fixed c.args.self.now.given) c.args.self.now.depth c.args.all.now c.args.element c.args.first.clause c.args.first.of c.args.gathered.now (world c.args.run.now)) c.loop-inner.run c.push-in-Some.new.self (turn_at (fixed c.args.self.now.given) c.args.self.now.depth c.args.all.now c.args.element c.in-Some.inner.clause c.in_ok-item.item c.loop-inner.gathered (world c.loop-inner.run)) = turn_begins (fixed c.args.self.now.given) c.args.self.now.depth c.args.all.now c.args.element c.loop-inner.loops c.pop.new.self c.push-in-Some.new.self c.in-Some.inner c.in_ok-item.item c.loop-inner.invariant.under c.in-Some.ensures less c.in_ok-item.ensures.value (c.in_ok-push-2.ensures.ok ∙ ap (λ (p : ℕ). c.pop.new.self ++ (record c.in-Some.inner { place = p }) ∷ []) c.place_after.ensures) in
    let r : c.from_residual-in_err-next.result ≡ Err c.in_err-next.field-0.0 = search rules in
    rw r (reach_fails_made (fixed c.args.self.now.given) c.args.self.now.depth c.args.all.now c.args.element (turn_at (fixed c.args.self.now.given) c.args.self.now.depth c.args.all.now c.args.element c.in-Some.inner.clause c.in_ok-item.item c.loop-inner.gathered (world c.loop-inner.run)) (loop_at (fixed c.args.self.now.given) c.args.self.now.depth c.args.all.now c.args.element c.args.first.clause c.args.first.of c.args.gathered.now (world c.args.run.now)) (world c.turn.new.run) (λ f h. all_failed (fixed c.args.self.now.given) c.args.self.now.depth c.args.all.now c.args.element f (world c.turn.new.run) turning h) c.in_err-next.field-0.0 c.turn.new.gathered c.turn.new.gathered c.in_err-next.ensures.gives)

pub over-loop-inner-smaller-in_default-2 : goal.over-loop-inner-smaller-in_default-2
over-loop-inner-smaller-in_default-2 g t c = fewer_turned c.loop-inner.run c.turn.new.run c.loop-inner.loops c.pop.new.self c.push-in-Some.new.self c.in-Some.inner _ c.in-Some.ensures c.in_ok-push-2.ensures.ok c.in_ok-next.ensures.paid

pub over-loop-inner-preserved-in_default-2 : goal.over-loop-inner-preserved-in_default-2
over-loop-inner-preserved-in_default-2 g t c =
    let last : Stands c.args.all.now c.loop-inner.run.machine c.in-Some.inner = stands_last c.args.all.now c.loop-inner.run.machine c.pop.new.self c.loop-inner.loops c.in-Some.inner c.loop-inner.invariant.under.stand c.in-Some.ensures in
    let less : c.in-Some.inner.place < c.in-Some.inner.count = omega (arith, last.within, c.if-place-count.false) in
    let turning : Under (fixed c.args.self.now.given) c.args.self.now.depth c.args.all.now c.args.element c.args.run.now (loop_at (fixed c.args.self.now.given) c.args.self.now.depth c.args.all.now c.args.element c.args.first.clause c.args.first.of c.args.gathered.now (world c.args.run.now)) c.loop-inner.run c.push-in-Some.new.self (turn_at (fixed c.args.self.now.given) c.args.self.now.depth c.args.all.now c.args.element c.in-Some.inner.clause c.in_ok-item.item c.loop-inner.gathered (world c.loop-inner.run)) = turn_begins (fixed c.args.self.now.given) c.args.self.now.depth c.args.all.now c.args.element c.loop-inner.loops c.pop.new.self c.push-in-Some.new.self c.in-Some.inner c.in_ok-item.item c.loop-inner.invariant.under c.in-Some.ensures less c.in_ok-item.ensures.value (c.in_ok-push-2.ensures.ok ∙ ap (λ (p : ℕ). c.pop.new.self ++ (record c.in-Some.inner { place = p }) ∷ []) c.place_after.ensures) in
    let after : Under (fixed c.args.self.now.given) c.args.self.now.depth c.args.all.now c.args.element c.args.run.now (loop_at (fixed c.args.self.now.given) c.args.self.now.depth c.args.all.now c.args.element c.args.first.clause c.args.first.of c.args.gathered.now (world c.args.run.now)) c.turn.new.run c.push-in-Some.new.self (turn_at (fixed c.args.self.now.given) c.args.self.now.depth c.args.all.now c.args.element c.in-Some.inner.clause c.in_ok-item.item c.loop-inner.gathered (world c.loop-inner.run)) = later_under (fixed c.args.self.now.given) c.args.self.now.depth c.args.all.now c.args.element c.args.self.now.given.node turning c.in_ok-next.ensures.stays c.turn.ensures.goes in
    record {
      under = comes_to (fixed c.args.self.now.given) c.args.self.now.depth c.args.all.now c.args.element _ after (reaches_none (fixed c.args.self.now.given) c.args.self.now.depth c.args.all.now c.args.element c.in_ok-next.field-0 (turn_at (fixed c.args.self.now.given) c.args.self.now.depth c.args.all.now c.args.element c.in-Some.inner.clause c.in_ok-item.item c.loop-inner.gathered (world c.loop-inner.run)) c.turn.new.gathered (world c.turn.new.run) c.in_default-2.is c.in_ok-next.ensures.gives);
      fit = c.in_ok-next.ensures.fit;
    }

pub over-returns-in_err-begun-2-clause-gives : goal.over-returns-in_err-begun-2-clause-gives
over-returns-in_err-begun-2-clause-gives g t c =
    let last : Stands c.args.all.now c.loop-inner.run.machine c.in-Some.inner = stands_last c.args.all.now c.loop-inner.run.machine c.pop.new.self c.loop-inner.loops c.in-Some.inner c.loop-inner.invariant.under.stand c.in-Some.ensures in
    let less : c.in-Some.inner.place < c.in-Some.inner.count = omega (arith, last.within, c.if-place-count.false) in
    let turning : Under (fixed c.args.self.now.given) c.args.self.now.depth c.args.all.now c.args.element c.args.run.now (loop_at (fixed c.args.self.now.given) c.args.self.now.depth c.args.all.now c.args.element c.args.first.clause c.args.first.of c.args.gathered.now (world c.args.run.now)) c.loop-inner.run c.push-in-Some.new.self (turn_at (fixed c.args.self.now.given) c.args.self.now.depth c.args.all.now c.args.element c.in-Some.inner.clause c.in_ok-item.item c.loop-inner.gathered (world c.loop-inner.run)) = turn_begins (fixed c.args.self.now.given) c.args.self.now.depth c.args.all.now c.args.element c.loop-inner.loops c.pop.new.self c.push-in-Some.new.self c.in-Some.inner c.in_ok-item.item c.loop-inner.invariant.under c.in-Some.ensures less c.in_ok-item.ensures.value (c.in_ok-push-2.ensures.ok ∙ ap (λ (p : ℕ). c.pop.new.self ++ (record c.in-Some.inner { place = p }) ∷ []) c.place_after.ensures) in
    let after : Under (fixed c.args.self.now.given) c.args.self.now.depth c.args.all.now c.args.element c.args.run.now (loop_at (fixed c.args.self.now.given) c.args.self.now.depth c.args.all.now c.args.element c.args.first.clause c.args.first.of c.args.gathered.now (world c.args.run.now)) c.turn.new.run c.push-in-Some.new.self (turn_at (fixed c.args.self.now.given) c.args.self.now.depth c.args.all.now c.args.element c.in-Some.inner.clause c.in_ok-item.item c.loop-inner.gathered (world c.loop-inner.run)) = later_under (fixed c.args.self.now.given) c.args.self.now.depth c.args.all.now c.args.element c.args.self.now.given.node turning c.in_ok-next.ensures.stays c.turn.ensures.goes in
    let next : Under (fixed c.args.self.now.given) c.args.self.now.depth c.args.all.now c.args.element c.args.run.now (loop_at (fixed c.args.self.now.given) c.args.self.now.depth c.args.all.now c.args.element c.args.first.clause c.args.first.of c.args.gathered.now (world c.args.run.now)) c.turn.new.run c.push-in-Some.new.self (loop_at (fixed c.args.self.now.given) c.args.self.now.depth c.args.all.now c.args.element c.in-Some-2.next.clause c.in-Some-2.next.of c.turn.new.gathered (world c.turn.new.run)) =
    comes_to (fixed c.args.self.now.given) c.args.self.now.depth c.args.all.now c.args.element _ after (reaches_some (fixed c.args.self.now.given) c.args.self.now.depth c.args.all.now c.args.element c.in_ok-next.field-0 c.in-Some-2.next (turn_at (fixed c.args.self.now.given) c.args.self.now.depth c.args.all.now c.args.element c.in-Some.inner.clause c.in_ok-item.item c.loop-inner.gathered (world c.loop-inner.run)) c.turn.new.gathered (world c.turn.new.run) c.in-Some-2.is c.in_ok-next.ensures.gives) in
    let r : c.from_residual-in_err-begun-2.result ≡ Err c.in_err-begun-2.field-0.0 = search rules in
    rw r (begun_fails (fixed c.args.self.now.given) c.args.self.now.depth c.args.all.now c.args.element c.begun-in-Some.new.run c.in-Some-2.next c.turn.new.gathered c.turn.new.gathered c.in_err-begun-2.field-0.0 next c.in_err-begun-2.ensures.failed)

pub over-loop-inner-smaller : goal.over-loop-inner-smaller
over-loop-inner-smaller g t c =
    fewer_begun c.loop-inner.run c.turn.new.run c.begun-in-Some.new.run c.loop-inner.loops c.pop.new.self c.push-in-Some.new.self c.push-in-Some-2.new.self c.in-Some.inner _ c.in_ok-begun-2.field-0 c.in-Some.ensures c.in_ok-push-2.ensures.ok c.in_ok-next.ensures.paid
    c.begun-in-Some.ensures.goes c.in_ok-push-3.ensures.ok

pub over-loop-inner-preserved : goal.over-loop-inner-preserved
over-loop-inner-preserved g t c =
    let last : Stands c.args.all.now c.loop-inner.run.machine c.in-Some.inner = stands_last c.args.all.now c.loop-inner.run.machine c.pop.new.self c.loop-inner.loops c.in-Some.inner c.loop-inner.invariant.under.stand c.in-Some.ensures in
    let less : c.in-Some.inner.place < c.in-Some.inner.count = omega (arith, last.within, c.if-place-count.false) in
    let turning : Under (fixed c.args.self.now.given) c.args.self.now.depth c.args.all.now c.args.element c.args.run.now (loop_at (fixed c.args.self.now.given) c.args.self.now.depth c.args.all.now c.args.element c.args.first.clause c.args.first.of c.args.gathered.now (world c.args.run.now)) c.loop-inner.run c.push-in-Some.new.self (turn_at (fixed c.args.self.now.given) c.args.self.now.depth c.args.all.now c.args.element c.in-Some.inner.clause c.in_ok-item.item c.loop-inner.gathered (world c.loop-inner.run)) = turn_begins (fixed c.args.self.now.given) c.args.self.now.depth c.args.all.now c.args.element c.loop-inner.loops c.pop.new.self c.push-in-Some.new.self c.in-Some.inner c.in_ok-item.item c.loop-inner.invariant.under c.in-Some.ensures less c.in_ok-item.ensures.value (c.in_ok-push-2.ensures.ok ∙ ap (λ (p : ℕ). c.pop.new.self ++ (record c.in-Some.inner { place = p }) ∷ []) c.place_after.ensures) in
    let after : Under (fixed c.args.self.now.given) c.args.self.now.depth c.args.all.now c.args.element c.args.run.now (loop_at (fixed c.args.self.now.given) c.args.self.now.depth c.args.all.now c.args.element c.args.first.clause c.args.first.of c.args.gathered.now (world c.args.run.now)) c.turn.new.run c.push-in-Some.new.self (turn_at (fixed c.args.self.now.given) c.args.self.now.depth c.args.all.now c.args.element c.in-Some.inner.clause c.in_ok-item.item c.loop-inner.gathered (world c.loop-inner.run)) = later_under (fixed c.args.self.now.given) c.args.self.now.depth c.args.all.now c.args.element c.args.self.now.given.node turning c.in_ok-next.ensures.stays c.turn.ensures.goes in
    let next : Under (fixed c.args.self.now.given) c.args.self.now.depth c.args.all.now c.args.element c.args.run.now (loop_at (fixed c.args.self.now.given) c.args.self.now.depth c.args.all.now c.args.element c.args.first.clause c.args.first.of c.args.gathered.now (world c.args.run.now)) c.turn.new.run c.push-in-Some.new.self (loop_at (fixed c.args.self.now.given) c.args.self.now.depth c.args.all.now c.args.element c.in-Some-2.next.clause c.in-Some-2.next.of c.turn.new.gathered (world c.turn.new.run)) =
    comes_to (fixed c.args.self.now.given) c.args.self.now.depth c.args.all.now c.args.element _ after (reaches_some (fixed c.args.self.now.given) c.args.self.now.depth c.args.all.now c.args.element c.in_ok-next.field-0 c.in-Some-2.next (turn_at (fixed c.args.self.now.given) c.args.self.now.depth c.args.all.now c.args.element c.in-Some.inner.clause c.in_ok-item.item c.loop-inner.gathered (world c.loop-inner.run)) c.turn.new.gathered (world c.turn.new.run) c.in-Some-2.is c.in_ok-next.ensures.gives) in
    record {
      under =
          loop_begins (fixed c.args.self.now.given) c.args.self.now.depth c.args.all.now c.args.element c.push-in-Some.new.self c.push-in-Some-2.new.self c.in-Some-2.next c.in_ok-begun-2.field-0 next
          (reached_some c.in_ok-next.field-0 c.in-Some-2.next (λ n. IsReached c.args.all.now c.turn.new.run.machine n) c.in-Some-2.is c.in_ok-next.ensures.reached) c.in_ok-begun-2.ensures.begins c.in_ok-begun-2.ensures.counted c.in_ok-begun-2.ensures.locked
          c.begun-in-Some.ensures.goes c.in_ok-push-3.ensures.ok;
      fit = gathered_later c.turn.new.gathered c.begun-in-Some.ensures.goes c.in_ok-next.ensures.fit;
    }

pub over-returns-clause-gives : goal.over-returns-clause-gives
over-returns-clause-gives g t c =
    let empty : c.loop-inner.loops ≡ [] = popped_none c.pop.result (c.loop-inner.loops ≡ []) (c.pop.new.self ≡ []) (λ inner. c.loop-inner.loops ≡ c.pop.new.self ++ inner ∷ []) c.in_default.is c.pop.ensures in
    all_ended (fixed c.args.self.now.given) c.args.self.now.depth c.args.all.now c.args.element (subst (λ ls. Under (fixed c.args.self.now.given) c.args.self.now.depth c.args.all.now c.args.element c.args.run.now (loop_at (fixed c.args.self.now.given) c.args.self.now.depth c.args.all.now c.args.element c.args.first.clause c.args.first.of c.args.gathered.now (world c.args.run.now)) c.loop-inner.run ls (Went c.loop-inner.gathered (world c.loop-inner.run))) empty c.loop-inner.invariant.under)

pub over-turn-requires : goal.over-turn-requires
over-turn-requires g t c =
    λ κs h. (first_of (search (rules, the_lemmas), grind (arith, the_lemmas), search rules), (search rules, (c.requires.nests, ((stands_last c.args.all.now c.loop-inner.run.machine c.pop.new.self c.loop-inner.loops c.in-Some.inner c.loop-inner.invariant.under.stand c.in-Some.ensures).clause, (c.in_ok-item.ensures.fits, c.loop-inner.invariant.fit)))))

pub comprehension-returns-in_default-clause-gives : goal.comprehension-returns-in_default-clause-gives
comprehension-returns-in_default-clause-gives g t c =
    let few : length c.args.all.now < 1 = omega arith in
    let none : NoFor c.args.all.now = none_first c.args.all.now few in
    only_charged (fixed c.args.self.now.given) c.args.self.now.depth c.args.element c.args.all.now c.args.gathered.now (world c.args.run.now) (world c.charge.new.self) c.charge.result none c.charge.ensures.gives

pub comprehension-returns-in_default-clause-fit : goal.comprehension-returns-in_default-clause-fit
comprehension-returns-in_default-clause-fit g t c = ok_always c.charge.result (GatheredFit c.charge.new.self.machine c.args.gathered.now) (gathered_later c.args.gathered.now c.charge.ensures.goes c.requires.gathered)

pub comprehension-returns-in_default-clause-credit : goal.comprehension-returns-in_default-clause-credit
comprehension-returns-in_default-clause-credit g t c = c.charge.ensures.credit (omega arith)

pub comprehension-returns-in_default-clause-paid : goal.comprehension-returns-in_default-clause-paid
comprehension-returns-in_default-clause-paid g t c = c.charge.ensures.paid (omega arith)

pub comprehension-returns-in_default-first-clause-gives : goal.comprehension-returns-in_default-first-clause-gives
comprehension-returns-in_default-first-clause-gives g t c =
    let none : NoFor c.args.all.now = other_first c.args.all.now c.first-item.result c.in-len1-up.len_at_least c.first-item.is c.in_default-first.not-For in
    only_charged (fixed c.args.self.now.given) c.args.self.now.depth c.args.element c.args.all.now c.args.gathered.now (world c.args.run.now) (world c.charge-in_default-first.new.self) c.charge-in_default-first.result none c.charge-in_default-first.ensures.gives

pub comprehension-returns-in_default-first-clause-fit : goal.comprehension-returns-in_default-first-clause-fit
comprehension-returns-in_default-first-clause-fit g t c = ok_always c.charge-in_default-first.result (GatheredFit c.charge-in_default-first.new.self.machine c.args.gathered.now) (gathered_later c.args.gathered.now c.charge-in_default-first.ensures.goes c.requires.gathered)

pub comprehension-returns-in_default-first-clause-credit : goal.comprehension-returns-in_default-first-clause-credit
comprehension-returns-in_default-first-clause-credit g t c = c.charge-in_default-first.ensures.credit (omega arith)

pub comprehension-returns-in_default-first-clause-paid : goal.comprehension-returns-in_default-first-clause-paid
comprehension-returns-in_default-first-clause-paid g t c = c.charge-in_default-first.ensures.paid (omega arith)

pub comprehension-returns-in_err-of-clause-gives : goal.comprehension-returns-in_err-of-clause-gives
comprehension-returns-in_err-of-clause-gives g t c =
    let found : slice_get c.args.all.now 0 ≡ Some (form.For c.in-For.field-0 c.in-For.over) = for_first c.args.all.now c.first-item.result c.in-For.field-0 c.in-For.over c.in-len1-up.len_at_least c.first-item.is c.in-For.is in
    let r : c.from_residual.result ≡ Err c.in_err-of.field-0.0 = search rules in
    rw r (fails_made _ _ (world c.value.new.run) (λ f h. first_fails (fixed c.args.self.now.given) c.args.self.now.depth c.args.element c.args.all.now c.in-For.field-0 c.in-For.over found c.args.gathered.now (world c.args.run.now) (world c.value.new.run) f h) c.in_err-of.field-0.0 c.args.gathered.now c.in_err-of.ensures.gives)

pub comprehension-returns-in_err-charge-clause-gives : goal.comprehension-returns-in_err-charge-clause-gives
comprehension-returns-in_err-charge-clause-gives g t c =
    let found : slice_get c.args.all.now 0 ≡ Some (form.For c.in-For.field-0 c.in-For.over) = for_first c.args.all.now c.first-item.result c.in-For.field-0 c.in-For.over c.in-len1-up.len_at_least c.first-item.is c.in-For.is in
    let r : c.from_residual-in_err-charge.result ≡ Err c.in_err-charge.field-0.0 = search rules in
    rw r (fails_made _ _ (world c.charge-2.new.self) (λ f h. unpaid (fixed c.args.self.now.given) c.args.self.now.depth c.args.element c.args.all.now c.in-For.field-0 c.in-For.over found c.args.gathered.now (world c.args.run.now) (world c.value.new.run) c.in_ok-of.of c.in_ok-of.ensures.gives f (world c.charge-2.new.self) h) c.in_err-charge.field-0.0 c.args.gathered.now c.in_err-charge.ensures.gives)

pub comprehension-enter_block-requires : goal.comprehension-enter_block-requires
comprehension-enter_block-requires g t c = unbound_fits c.charge-2.new.self.machine c.in_ok-block.block (distinct (flat_map clause_bound c.args.all.now)) c.in_ok-block.ensures

pub comprehension-returns-in_err-over-clause-gives : goal.comprehension-returns-in_err-over-clause-gives
comprehension-returns-in_err-over-clause-gives g t c =
    let found : slice_get c.args.all.now 0 ≡ Some (form.For c.in-For.field-0 c.in-For.over) = for_first c.args.all.now c.first-item.result c.in-For.field-0 c.in-For.over c.in-len1-up.len_at_least c.first-item.is c.in-For.is in
    let r : c.from_residual-in_err-over.result ≡ Err c.in_err-over.field-0.0 = search rules in
    rw r (made_fails _ _ (world c.over.new.run)
    (λ f h. turns_fail (fixed c.args.self.now.given) c.args.self.now.depth c.args.element c.args.all.now c.in-For.field-0 c.in-For.over found c.args.gathered.now (world c.args.run.now) (world c.value.new.run) c.in_ok-of.of c.in_ok-of.ensures.gives c.charge-2.new.self c.enter_block.new.self c.in_ok-block.block c.in_ok-charge.ensures.gives c.in_ok-block.ensures c.in_ok-enter_block.ensures.ok f (world c.over.new.run) h)
    c.in_err-over.field-0.0 c.over.new.gathered c.over.new.gathered c.in_err-over.ensures.gives)

pub comprehension-returns-clause-gives : goal.comprehension-returns-clause-gives
comprehension-returns-clause-gives g t c =
    let found : slice_get c.args.all.now 0 ≡ Some (form.For c.in-For.field-0 c.in-For.over) = for_first c.args.all.now c.first-item.result c.in-For.field-0 c.in-For.over c.in-len1-up.len_at_least c.first-item.is c.in-For.is in
    turns_end (fixed c.args.self.now.given) c.args.self.now.depth c.args.element c.args.all.now c.in-For.field-0 c.in-For.over found c.args.gathered.now (world c.args.run.now) (world c.value.new.run) c.in_ok-of.of c.in_ok-of.ensures.gives c.charge-2.new.self c.enter_block.new.self c.in_ok-block.block c.in_ok-charge.ensures.gives c.in_ok-block.ensures c.in_ok-enter_block.ensures.ok c.over.new.gathered c.over.new.run c.leave_block.new.self c.in_ok-over.ensures.gives c.leave_block.ensures.gives

pub comprehension-over-requires : goal.comprehension-over-requires
comprehension-over-requires g t c =
    let found : slice_get c.args.all.now 0 ≡ Some (form.For c.in-For.field-0 c.in-For.over) = for_first c.args.all.now c.first-item.result c.in-For.field-0 c.in-For.over c.in-len1-up.len_at_least c.first-item.is c.in-For.is in
    λ κs h. (first_of (search (rules, the_lemmas), grind (arith, the_lemmas), search rules), (search rules, (c.requires.nests, (record { clause = (c.in-For.field-0, c.in-For.over, found); fits = fits_later c.in_ok-of.of c.enter_block.ensures.goes (fits_later c.in_ok-of.of c.charge-2.ensures.goes c.in_ok-of.ensures.fits) }, gathered_later c.args.gathered.now c.enter_block.ensures.goes (gathered_later c.args.gathered.now c.charge-2.ensures.goes (gathered_later c.args.gathered.now c.value.ensures.goes c.requires.gathered))))))

pub list_over-returns-in_err-comprehension-clause-gives : goal.list_over-returns-in_err-comprehension-clause-gives
list_over-returns-in_err-comprehension-clause-gives g t c =
    let r : c.from_residual.result ≡ Err c.in_err-comprehension.field-0.0 = search rules in
    rw r (made_fails_as (gathering (fixed c.args.self.now.given) c.args.self.now.depth c.args.all.now (element.Item c.args.item) c.new-gathered.result (world c.args.run.now)) (and_then (listed (fixed c.args.self.now.given) c.args.self.now.depth c.args.all.now c.args.item.now (world c.args.run.now)) (λ vs. acting (new_list vs))) (world c.comprehension.new.run)
    (λ f h. ap (λ o. and_then o (λ vs. acting (new_list vs))) (list_failed (fixed c.args.self.now.given) c.args.self.now.depth c.args.all.now c.args.item c.new-gathered.result f (world c.args.run.now) (world c.comprehension.new.run) c.new-gathered.ensures.items c.new-gathered.ensures.pairs h))
    c.in_err-comprehension.field-0.0 c.comprehension.new.gathered c.in_err-comprehension.ensures.gives)

pub list_over-returns-clause-gives : goal.list_over-returns-clause-gives
list_over-returns-clause-gives g t c =
    subst (λ o. Gives (and_then o (λ vs. acting (new_list vs))) c.made_list.result (world c.made_list.new.self))
    (sym (list_gathered (fixed c.args.self.now.given) c.args.self.now.depth c.args.all.now c.args.item c.new-gathered.result c.comprehension.new.gathered (world c.args.run.now) (world c.comprehension.new.run) c.new-gathered.ensures.items c.new-gathered.ensures.pairs c.in_ok-comprehension.ensures.gives)) c.made_list.ensures.gives

pub list_over-returns-clause-goes : goal.list_over-returns-clause-goes
list_over-returns-clause-goes g t c = paid_made c.args.run.now c.comprehension.new.run c.made_list.new.self c.comprehension.ensures.goes c.in_ok-comprehension.ensures.paid c.made_list.ensures.made

pub list_over-comprehension-requires : goal.list_over-comprehension-requires
list_over-comprehension-requires g t c =
    λ κs h. (first_of (search (rules, the_lemmas), grind (arith, the_lemmas), search rules), (search rules, (c.requires, nothing_fits c.args.run.now.machine c.new-gathered.result c.new-gathered.ensures.items c.new-gathered.ensures.pairs)))

pub dict_over-returns-in_err-comprehension-clause-gives : goal.dict_over-returns-in_err-comprehension-clause-gives
dict_over-returns-in_err-comprehension-clause-gives g t c =
    let r : c.from_residual.result ≡ Err c.in_err-comprehension.field-0.0 = search rules in
    rw r (made_fails_as (gathering (fixed c.args.self.now.given) c.args.self.now.depth c.args.all.now (element.Pair c.args.key c.args.value) c.new-gathered.result (world c.args.run.now)) (and_then (paired (fixed c.args.self.now.given) c.args.self.now.depth c.args.all.now c.args.key.now c.args.value.now (world c.args.run.now)) (λ done. acting (new_dict done))) (world c.comprehension.new.run)
    (λ f h. ap (λ o. and_then o (λ done. acting (new_dict done))) (dict_failed (fixed c.args.self.now.given) c.args.self.now.depth c.args.all.now c.args.key c.args.value c.new-gathered.result f (world c.args.run.now) (world c.comprehension.new.run) c.new-gathered.ensures.items c.new-gathered.ensures.pairs h))
    c.in_err-comprehension.field-0.0 c.comprehension.new.gathered c.in_err-comprehension.ensures.gives)

pub dict_over-returns-clause-gives : goal.dict_over-returns-clause-gives
dict_over-returns-clause-gives g t c =
    subst (λ o. Gives (and_then o (λ done. acting (new_dict done))) c.made_dict.result (world c.made_dict.new.self))
    (sym (dict_gathered (fixed c.args.self.now.given) c.args.self.now.depth c.args.all.now c.args.key c.args.value c.new-gathered.result c.comprehension.new.gathered (world c.args.run.now) (world c.comprehension.new.run) c.new-gathered.ensures.items c.new-gathered.ensures.pairs c.in_ok-comprehension.ensures.gives)) c.made_dict.ensures.gives

pub dict_over-returns-clause-goes : goal.dict_over-returns-clause-goes
dict_over-returns-clause-goes g t c = paid_made c.args.run.now c.comprehension.new.run c.made_dict.new.self c.comprehension.ensures.goes c.in_ok-comprehension.ensures.paid c.made_dict.ensures.made

pub dict_over-comprehension-requires : goal.dict_over-comprehension-requires
dict_over-comprehension-requires g t c =
    λ κs h. (first_of (search (rules, the_lemmas), grind (arith, the_lemmas), search rules), (search rules, (c.requires, nothing_fits c.args.run.now.machine c.new-gathered.result c.new-gathered.ensures.items c.new-gathered.ensures.pairs)))

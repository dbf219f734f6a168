use Rattle.std.proofs.Common.{◌≡◌, ◌∙◌, map}
use Rattle.star_meaning.specs.Builtins.{sorted_items}
use Rattle.star_value.specs.declared.value.Value.TheVariants as value
use Rattle.star_builtins.specs.Sorting.{turned}
use Rattle.star_builtins.proofs.SortLemmas.{numbers_turned}
use Rattle.star_builtins.proofs.functions.sorting.sorted_numbers.Goals as goal

pub returns : goal.returns
returns c =
    let e : turned c.args.back (sorted_items (map value.Int c.args.numbers.items)) ≡ map value.Int c.as_slice.result.now =
    numbers_turned c.args.back c.args.numbers.items _ c.as_slice.result.now c.sort.ensures.permutation c.in_ok-sort.ensures.sorted (c.as_slice.ensures.value ∙ c.turn.ensures) in
    rw e c.numbers_as_values.ensures

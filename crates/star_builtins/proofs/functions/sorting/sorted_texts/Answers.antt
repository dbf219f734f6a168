use Rattle.std.proofs.Common.{◌≡◌, map}
use Rattle.star_meaning.specs.Builtins.{sorted_items}
use Rattle.star_value.specs.declared.value.Value.TheVariants as value
use Rattle.star_builtins.specs.Sorting.{turned}
use Rattle.star_builtins.proofs.SortLemmas.{texts_turned}
use Rattle.star_builtins.proofs.functions.sorting.sorted_texts.Goals as goal

pub returns : goal.returns
returns c =
    let e : turned c.args.back (sorted_items (map value.Text c.args.texts.items)) ≡ map value.Text c.turn.new.items.items =
    texts_turned c.args.back c.args.texts.items _ c.turn.new.items.items c.sort.ensures.permutation c.in_ok-sort.ensures.sorted c.turn.ensures in
    rw e c.texts_as_values.ensures

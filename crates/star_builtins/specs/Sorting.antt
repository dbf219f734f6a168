-- Items that are put in order, and the best of some items.
use Rattle.std.specs.Prelude.{ℕ, Bool, true, false, if◌then◌else◌, List, [], ◌∷◌, ◌++◌, reverse, Option, Some, None}
use Rattle.star_value.specs.declared.value.Value.{Value}
use Rattle.star_meaning.specs.Builtins.{best, best_item, is_before, sorted_items, walk_alike, walk_first}
use Rattle.star_meaning.specs.Steps.{Action, pure, ◌>>=◌, ◌>>◌}
use Rattle.star_meaning.specs.Values.{items_of}

-- whether an item is to be taken in place of another one: a greater one, or a lesser one
abbrev pub better : Bool → Value → Value → Bool
better true = λ y x. is_before x y
better false = is_before

-- the first of the best items, if there is one
abbrev pub leader : (Value → Value → Bool) → List Value → Option Value
leader better [] = None
leader better (x ∷ xs) = Some (best better x xs)

-- items in order, or in the opposite order
abbrev pub turned : Bool → List Value → List Value
turned back items = if back then reverse items else items

-- the items in order, once they are walked
abbrev pub ordered : {C : Type 0} → Bool → List Value → Action C (List Value)
ordered back items = walk_first items >> pure (turned back (sorted_items items))

-- the same of items some of which are walked already
unfoldable pub ordered_from : {C : Type 0} → Bool → Value → List Value → List Value → Action C (List Value)
ordered_from back first done items = walk_alike first items >> pure (turned back (sorted_items (done ++ items)))

-- the best item, where some are walked already and this is the best of them
unfoldable pub best_from : {C : Type 0} → Bool → Value → Value → List Value → Action C Value
best_from greatest first so_far items = walk_alike first items >> pure (best (better greatest) so_far items)

-- the best of the items that a value gives
abbrev pub best_given : {C : Type 0} → Bool → Value → Action C Value
best_given greatest v = items_of v >>= best_item (better greatest)

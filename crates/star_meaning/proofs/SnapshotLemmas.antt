-- The bytes and the references of single values, and which single values correspond.
use Rattle.std.proofs.Common.{◌≡◌, ℕ, ℤ, List, [], ◌∷◌, refl}
use Rattle.star_value.specs.declared.value.Value.{fold-roll-Value}
use Rattle.star_value.specs.declared.value.Value.TheVariants as value
use Rattle.star_meaning.specs.Snapshot.{id_bytes, integer_bytes, references, references_step, value_bytes, value_step}

pub bytes_int : (z : ℤ) → value_bytes (value.Int z) ≡ 3 ∷ integer_bytes z
unfolding value_bytes
bytes_int z = rw (← value.rolls-Int z, fold-roll-Value (List ℕ) value_step) refl

pub bytes_list : (id : ℕ) → value_bytes (value.List id) ≡ 7 ∷ id_bytes id
unfolding value_bytes
bytes_list id = rw (← value.rolls-List id, fold-roll-Value (List ℕ) value_step) refl

pub references_int : (z : ℤ) → references (value.Int z) ≡ []
unfolding references
references_int z = rw (← value.rolls-Int z, fold-roll-Value (List ℕ) references_step) refl

pub references_list : (id : ℕ) → references (value.List id) ≡ id ∷ []
unfolding references
references_list id = rw (← value.rolls-List id, fold-roll-Value (List ℕ) references_step) refl

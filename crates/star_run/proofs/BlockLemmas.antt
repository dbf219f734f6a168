-- Blocks, place by place.
use Rattle.std.proofs.Common.{◌≡◌, ◌∙◌, ◌<◌, ℕ, zero, suc, List, [], ◌∷◌, ◌++◌, Bool, true, Option, Some, None, length, map, get_or, take, take-suc, drop, reverse, refl, sym, ap, arith, bytes_eq, append_assoc, Bor, if◌then◌else◌}
use Rattle.std.proofs.Math.ListN.{set}
use Rattle.std.proofs.lemmas.List.{reverse-append, set_split, get_or_default}
use Rattle.std.specs.Option.{is_some, option_copied}
use Rattle.star_meaning.specs.Values.{named_in}
use Rattle.star_meaning.specs.World.{Block, bound_in, rebound}
use Rattle.star_value.specs.declared.value.Value.{Value}

-- the blocks up to a place, the last first
pub last_first : {A : Type 0} → (xs : List A) (i : ℕ) (d : A) → i < length xs → reverse (take (suc i) xs) ≡ get_or xs i d ∷ reverse (take i xs)
last_first xs i d within = ap reverse (take-suc xs i d within) ∙ reverse-append (take i xs) (get_or xs i d ∷ [])

-- the same of a block whose names are seen through a pointer
pub found_slot : {P : Type 0} → (name_of : P → List ℕ) (slots : List (P × Option Value)) (i : ℕ) (d e : P × Option Value) (name : List ℕ) (v : Value) → i < length slots
    → bytes_eq name (name_of (get_or slots i d).0) ≡ true
    → map {B = List ℕ × Option Value} (λ slot. (name_of slot.0, slot.1)) (take i slots) ++ bound_in (map {B = List ℕ × Option Value} (λ slot. (name_of slot.0, slot.1)) (drop i slots)) name v
    ≡ map {B = List ℕ × Option Value} (λ slot. (name_of slot.0, slot.1)) (set slots i ((get_or slots i e).0, Some v))
found_slot name_of [] i d e name v within same = absurd (omega (arith, within))
found_slot name_of (slot ∷ slots) zero d e name v within same = rw same refl
found_slot name_of (slot ∷ slots) (suc i) d e name v within same = ap (λ l. (name_of slot.0, slot.1) ∷ l) (found_slot name_of slots i d e name v (omega (arith, within)) same)

-- a block that has the name is bound in, and those before it stay
first_bound : (block : Block) (blocks : List Block) (name : List ℕ) (v : Value) → is_some (named_in block name) ≡ true
    → rebound (block ∷ blocks) name v ≡ bound_in block name v ∷ blocks
first_bound block blocks name v has = rw has refl

-- the innermost block that has a name stands at a place, counted from the outermost
pub held_block : (blocks : List Block) (left n : ℕ) (d e : Block) (name : List ℕ) (v : Value) → left ≡ suc n → n < length blocks
    → is_some (named_in (get_or blocks n d) name) ≡ true
    → reverse (drop left blocks) ++ rebound (reverse (take left blocks)) name v ≡ reverse (set blocks n (bound_in (get_or blocks n e) name v))
held_block blocks left n d e name v next within has =
    rw next
    let taken = ap (λ l. rebound l name v) (last_first blocks n d within) ∙ first_bound (get_or blocks n d) (reverse (take n blocks)) name v has in
    let split = ap reverse (set_split blocks n (bound_in (get_or blocks n e) name v) within) ∙ reverse-append (take n blocks) (bound_in (get_or blocks n e) name v ∷ drop (suc n) blocks) in
    ap (λ l. reverse (drop (suc n) blocks) ++ l) taken
    ∙ ap (λ b. reverse (drop (suc n) blocks) ++ bound_in b name v ∷ reverse (take n blocks)) (get_or_default blocks n d e within)
    ∙ sym (append_assoc (reverse (drop (suc n) blocks)) (bound_in (get_or blocks n e) name v ∷ []) (reverse (take n blocks)))
    ∙ sym (ap (λ l. l ++ reverse (take n blocks)) (reverse-append (bound_in (get_or blocks n e) name v ∷ []) (drop (suc n) blocks)))
    ∙ sym split

-- an option that is lent is there where the option is
pub some_copied : {A : Type 0} → (o : Option (Bor A)) → is_some (option_copied o) ≡ is_some o
some_copied None = refl
some_copied (Some x) = refl

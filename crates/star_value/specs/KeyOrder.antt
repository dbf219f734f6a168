-- Which keys are equal, and their order.
use Rattle.std.specs.Prelude.{ℕ, Bool, true, false, ◌&&◌, List, [], ◌∷◌, bytes_eq}
use Rattle.std.specs.Bool.{beq}
use Rattle.std.specs.Cmp.Lexicographic.{slice_cmp}
use Rattle.std.specs.Ordering.{int_eq, bool_cmp, int_cmp, nat_cmp}
use Rattle.std.specs.declared.cmp.Ordering.{Ordering}
use Rattle.chex_base.specs.TextOrder.{text_cmp}
use Rattle.star_value.specs.declared.key.Key.{Key, fold-Key, out-Key}
use Rattle.star_value.specs.declared.key.Key.TheOpen.{Key-F}

-- whether each test of one list holds of the thing at its place, and none is left over
abbrev pub all_hold : {X : Type 0} → List (X → Bool) → List X → Bool
all_hold [] [] = true
all_hold (test ∷ tests) (x ∷ xs) = test x && all_hold tests xs
all_hold _ _ = false

-- whether two keys are one and the same value; a bool is no integer
abbrev pub same_layer : Key-F (Key → Bool) → Key-F Key → Bool
same_layer Key-F.None Key-F.None = true
same_layer (Key-F.Bool a) (Key-F.Bool b) = beq a b
same_layer (Key-F.Int a) (Key-F.Int b) = int_eq a b
same_layer (Key-F.Text a) (Key-F.Text b) = bytes_eq a b
same_layer (Key-F.Tuple tests) (Key-F.Tuple parts) = all_hold tests parts
same_layer _ _ = false

unfoldable pub same_key : Key → Key → Bool
same_key = fold-Key (Key → Bool) (λ layer other. same_layer layer (out-Key other))

-- the place of a key's kind: None, bools, integers, texts, tuples
abbrev pub kind_place : {R : Type 0} → Key-F R → ℕ
kind_place Key-F.None = 0
kind_place (Key-F.Bool truth) = 1
kind_place (Key-F.Int number) = 2
kind_place (Key-F.Text text) = 3
kind_place (Key-F.Tuple parts) = 4

-- the order of two keys: of one kind by their values, a tuple by its first part that differs; else by their kinds
abbrev pub cmp_layer : Key-F (Key → Ordering) → Key-F Key → Ordering
cmp_layer (Key-F.Bool a) (Key-F.Bool b) = bool_cmp a b
cmp_layer (Key-F.Int a) (Key-F.Int b) = int_cmp a b
cmp_layer (Key-F.Text a) (Key-F.Text b) = text_cmp a b
cmp_layer (Key-F.Tuple orders) (Key-F.Tuple parts) = slice_cmp (λ order part. order part) orders parts
cmp_layer a b = nat_cmp (kind_place a) (kind_place b)

unfoldable pub key_cmp : Key → Key → Ordering
key_cmp = fold-Key (Key → Ordering) (λ layer other. cmp_layer layer (out-Key other))

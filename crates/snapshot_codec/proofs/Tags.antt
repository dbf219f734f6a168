-- A tag that is read is the one whose byte stands there.
use Rattle.std.proofs.Common.{◌≡◌, ℕ, Bool, true, false, cond, List, [], ◌∷◌, Option, Some, None, Ok, refl, sym, ap, ◌∙◌}
use Rattle.std.specs.Prelude.{◌==◌}
use Rattle.std.proofs.lemmas.Bool.Decides.{Decides-eqb}
use Rattle.heap_store.specs.declared.kind.Kind.{Kind}
use Rattle.heap_store.specs.declared.kind.Kind.TheVariants as kind
use Rattle.star_value.specs.declared.builtin.Builtin.{Builtin}
use Rattle.star_value.specs.declared.builtin.Builtin.TheVariants as builtin
use Rattle.star_meaning.specs.Snapshot.{builtin_byte}
use Rattle.star_meaning.specs.Values.{builtin_name}
use Rattle.snapshot_codec.specs.declared.tag.Tag.{Tag}
use Rattle.snapshot_codec.specs.declared.tag.Tag.TheVariants as tag
use Rattle.snapshot_codec.specs.Reading.{◌>>=◌, there, byte_at, tag_of, tag_at, kind_of, kind_at, builtin_of}
use Rattle.snapshot_codec.proofs.FieldLaws.{bind_ok, ok_is}

-- one test of a chain of them
one : {A : Type 0} (byte : A → ℕ) (b k : ℕ) (x t : A) (rest : Option A) → byte x ≡ k → (rest ≡ Some t → b ≡ byte t) → cond (b == k) (Some x) rest ≡ Some t → b ≡ byte t
one {A} byte b k x t rest is more e = by (b == k) refl e
  where
    by : (u : Bool) → (b == k) ≡ u → cond u (Some x) rest ≡ Some t → b ≡ byte t
    by true f g = let same : x ≡ t = cc in (Decides-eqb b k).0 f ∙ sym is ∙ ap byte same
    by false f g = more g

nothing : {A : Type 0} (byte : A → ℕ) (b : ℕ) (t : A) → ◌≡◌ {A = Option A} None (Some t) → b ≡ byte t
nothing byte b t e = absurd cc

there_is : {A : Type 0} (o : Option A) (rest : List ℕ) (t : A) (after : List ℕ) → there o rest ≡ Ok (t, after) → (o ≡ Some t) × (rest ≡ after)
there_is None rest t after e = absurd cc
there_is (Some a) rest t after e = let same = ok_is (a, rest) (t, after) e in (ap (λ p. Some p.0) same, ap (λ p. p.1) same)

-- the byte in front
pub byte_takes : (bytes : List ℕ) (b : ℕ) (rest : List ℕ) → byte_at bytes ≡ Ok (b, rest) → bytes ≡ b ∷ rest
byte_takes [] b rest e = absurd cc
byte_takes (x ∷ bytes) b rest e = let same = ok_is (x, bytes) (b, rest) e in λ i. (same i).0 ∷ (same i).1

-- ---- values

abbrev pub tag_byte : Tag → ℕ
tag_byte tag.None = 0
tag_byte tag.False = 1
tag_byte tag.True = 2
tag_byte tag.Int = 3
tag_byte tag.Text = 4
tag_byte tag.Tuple = 5
tag_byte tag.Range = 6
tag_byte tag.List = 7
tag_byte tag.Dict = 8
tag_byte tag.Function = 9
tag_byte tag.Builtin = 10

tag_told : (b : ℕ) (t : Tag) → tag_of b ≡ Some t → b ≡ tag_byte t
tag_told b t e =
    one tag_byte b 0 tag.None t _ refl (one tag_byte b 1 tag.False t _ refl (one tag_byte b 2 tag.True t _ refl (one tag_byte b 3 tag.Int t _ refl
    (one tag_byte b 4 tag.Text t _ refl (one tag_byte b 5 tag.Tuple t _ refl (one tag_byte b 6 tag.Range t _ refl (one tag_byte b 7 tag.List t _ refl
    (one tag_byte b 8 tag.Dict t _ refl (one tag_byte b 9 tag.Function t _ refl (one tag_byte b 10 tag.Builtin t _ refl (nothing tag_byte b t))))))))))) e

pub tag_takes : (bytes : List ℕ) (t : Tag) (rest : List ℕ) → tag_at bytes ≡ Ok (t, rest) → bytes ≡ tag_byte t ∷ rest
unfolding tag_at
tag_takes bytes t rest e =
    let a = bind_ok (byte_at bytes) (λ b. there (tag_of b.0) b.1) (t, rest) e in
    let w = there_is (tag_of a.0.0) a.0.1 t rest a.2 in
    byte_takes bytes a.0.0 a.0.1 a.1 ∙ (λ i. tag_told a.0.0 t w.0 i ∷ w.1 i)

pub tag_again : (t : Tag) (rest : List ℕ) → tag_at (tag_byte t ∷ rest) ≡ Ok (t, rest)
unfolding tag_at
tag_again tag.None rest = refl
tag_again tag.False rest = refl
tag_again tag.True rest = refl
tag_again tag.Int rest = refl
tag_again tag.Text rest = refl
tag_again tag.Tuple rest = refl
tag_again tag.Range rest = refl
tag_again tag.List rest = refl
tag_again tag.Dict rest = refl
tag_again tag.Function rest = refl
tag_again tag.Builtin rest = refl

-- ---- objects

abbrev pub kind_byte : Kind → ℕ
kind_byte kind.List = 0
kind_byte kind.Dict = 1
kind_byte kind.Function = 2

kind_told : (b : ℕ) (k : Kind) → kind_of b ≡ Some k → b ≡ kind_byte k
kind_told b k e = one kind_byte b 0 kind.List k _ refl (one kind_byte b 1 kind.Dict k _ refl (one kind_byte b 2 kind.Function k _ refl (nothing kind_byte b k))) e

pub kind_takes : (bytes : List ℕ) (k : Kind) (rest : List ℕ) → kind_at bytes ≡ Ok (k, rest) → bytes ≡ kind_byte k ∷ rest
unfolding kind_at
kind_takes bytes k rest e =
    let a = bind_ok (byte_at bytes) (λ b. there (kind_of b.0) b.1) (k, rest) e in
    let w = there_is (kind_of a.0.0) a.0.1 k rest a.2 in
    byte_takes bytes a.0.0 a.0.1 a.1 ∙ (λ i. kind_told a.0.0 k w.0 i ∷ w.1 i)

pub kind_again : (k : Kind) (rest : List ℕ) → kind_at (kind_byte k ∷ rest) ≡ Ok (k, rest)
unfolding kind_at
kind_again kind.List rest = refl
kind_again kind.Dict rest = refl
kind_again kind.Function rest = refl

-- ---- built-in functions

builtin_told : (b : ℕ) (which : Builtin) → builtin_of b ≡ Some which → b ≡ builtin_byte which
unfolding builtin_name
builtin_told b which e =
    one builtin_byte b 0 builtin.Abs which _ refl (one builtin_byte b 1 builtin.All which _ refl (one builtin_byte b 2 builtin.Any which _ refl (one builtin_byte b 3 builtin.Bool which _ refl (
    one builtin_byte b 4 builtin.Dict which _ refl (one builtin_byte b 5 builtin.Enumerate which _ refl (one builtin_byte b 6 builtin.Int which _ refl (one builtin_byte b 7 builtin.Len which _ refl (
    one builtin_byte b 8 builtin.List which _ refl (one builtin_byte b 9 builtin.Max which _ refl (one builtin_byte b 10 builtin.Min which _ refl (one builtin_byte b 11 builtin.Print which _ refl (
    one builtin_byte b 12 builtin.Range which _ refl (one builtin_byte b 13 builtin.Repr which _ refl (one builtin_byte b 14 builtin.Reversed which _ refl (one builtin_byte b 15 builtin.Sorted which _ refl (
    one builtin_byte b 16 builtin.Str which _ refl (one builtin_byte b 17 builtin.Tuple which _ refl (one builtin_byte b 18 builtin.Type which _ refl (one builtin_byte b 19 builtin.Zip which _ refl (nothing builtin_byte b which)))))))))))))))))))) e

pub builtin_again : (which : Builtin) → builtin_of (builtin_byte which) ≡ Some which
unfolding builtin_name
builtin_again builtin.Abs = refl
builtin_again builtin.All = refl
builtin_again builtin.Any = refl
builtin_again builtin.Bool = refl
builtin_again builtin.Dict = refl
builtin_again builtin.Enumerate = refl
builtin_again builtin.Int = refl
builtin_again builtin.Len = refl
builtin_again builtin.List = refl
builtin_again builtin.Max = refl
builtin_again builtin.Min = refl
builtin_again builtin.Print = refl
builtin_again builtin.Range = refl
builtin_again builtin.Repr = refl
builtin_again builtin.Reversed = refl
builtin_again builtin.Sorted = refl
builtin_again builtin.Str = refl
builtin_again builtin.Tuple = refl
builtin_again builtin.Type = refl
builtin_again builtin.Zip = refl

pub builtin_takes : (bytes : List ℕ) (which : Builtin) (rest : List ℕ) → (byte_at bytes >>= λ b. there (builtin_of b.0) b.1) ≡ Ok (which, rest) → bytes ≡ builtin_byte which ∷ rest
builtin_takes bytes which rest e =
    let a = bind_ok (byte_at bytes) (λ b. there (builtin_of b.0) b.1) (which, rest) e in
    let w = there_is (builtin_of a.0.0) a.0.1 which rest a.2 in
    byte_takes bytes a.0.0 a.0.1 a.1 ∙ (λ i. builtin_told a.0.0 which w.0 i ∷ w.1 i)

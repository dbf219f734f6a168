-- The meaning of the forms whose parts stand in lists of their own: each part with its meaning in its place.
use Rattle.std.proofs.Common.{◌≡◌, ℕ, List, [], ◌∷◌, map, Bool, false, refl, ap, ◌∙◌}
use Rattle.std.specs.Prelude.{Option, Some, None, option_map}
use Rattle.star_syntax.specs.declared.expression.Arguments.{Arguments}
use Rattle.star_syntax.specs.declared.expression.Arm.{Arm}
use Rattle.star_syntax.specs.declared.expression.ChainLevel.{ChainLevel}
use Rattle.star_syntax.specs.declared.expression.Expr.{Expr, map-Expr}
use Rattle.star_syntax.specs.declared.expression.Expr.TheOpen.{Expr-F}
use Rattle.star_syntax.specs.declared.expression.Expr.TheVariants as e
use Rattle.star_syntax.specs.declared.expression.Link.{Link}
use Rattle.star_syntax.specs.declared.expression.Named.{Named}
use Rattle.star_syntax.specs.declared.expression.Pair.{Pair}
use Rattle.star_syntax.specs.declared.expression.Suffix.{Suffix}
use Rattle.star_syntax.specs.declared.expression.Suffix.TheVariants as suffix
use Rattle.star_syntax.specs.declared.statement.Block.{Block}
use Rattle.star_syntax.specs.declared.statement.Block.TheVariants as blocks
use Rattle.star_syntax.specs.declared.statement.Branch.{Branch}
use Rattle.star_syntax.specs.declared.statement.Statement.{Statement, map-Statement}
use Rattle.star_syntax.specs.declared.statement.Statement.TheOpen.{Statement-F}
use Rattle.star_syntax.specs.declared.statement.Statement.TheVariants as s
use Rattle.star_meaning.specs.Steps.{◌>>=◌}
use Rattle.star_meaning.specs.World.{World}
use Rattle.star_meaning.specs.Expressions.{Callee, Meant, Setting, meant, step}
use Rattle.star_meaning.specs.Statements.{Doing, block_of, body_of, go_on, in_sequence, layer_of, statement_of}
use Rattle.star_meaning.proofs.Equations.{meant_chain, meant_conditional, meant_dict, meant_primary, statement_for, statement_if}

links_in : {X : Type 0} → Expr-F X → List (Link X)
links_in (Expr-F.Chain level first xs) = xs
links_in _ = []

pairs_in : {X : Type 0} → Expr-F X → List (Pair X)
pairs_in (Expr-F.Dict xs comma) = xs
pairs_in _ = []

arms_in : {X : Type 0} → Expr-F X → List (Arm X)
arms_in (Expr-F.Conditional xs last) = xs
arms_in _ = []

suffixes_in : {X : Type 0} → Expr-F X → List (Suffix X)
suffixes_in (Expr-F.Primary head xs) = xs
suffixes_in _ = []

named_in_call : {X : Type 0} → Expr-F X → List (Named X)
named_in_call (Expr-F.Primary head (suffix.Call given ∷ xs)) = given.named
named_in_call (Expr-F.Primary head (suffix.Method n given ∷ xs)) = given.named
named_in_call _ = []

module _ {C : Type 0} (setting : Setting C) (call : Callee C) where
  abbrev to : Expr → Meant C
  to = meant setting call

  abbrev pub link_meant : Link Expr → Link (Meant C)
  link_meant x = record { op = x.op; operand = meant setting call x.operand }

  abbrev pub arm_meant : Arm Expr → Arm (Meant C)
  arm_meant x = record { value = meant setting call x.value; condition = meant setting call x.condition }

  abbrev pub pair_meant : Pair Expr → Pair (Meant C)
  pair_meant x = record { key = meant setting call x.key; value = meant setting call x.value }

  abbrev pub named_meant : Named Expr → Named (Meant C)
  named_meant x = record { name = x.name; value = meant setting call x.value }

  abbrev pub arguments_meant : Arguments Expr → Arguments (Meant C)
  arguments_meant x = record { positional = map (meant setting call) x.positional; named = map named_meant x.named; comma = x.comma }

  abbrev pub suffix_meant : Suffix Expr → Suffix (Meant C)
  suffix_meant (suffix.Index at) = suffix.Index (meant setting call at)
  suffix_meant (suffix.Slice start stop by) = suffix.Slice (option_map (meant setting call) start) (option_map (meant setting call) stop) (option_map (option_map (meant setting call)) by)
  suffix_meant (suffix.Call given) = suffix.Call (arguments_meant given)
  suffix_meant (suffix.Method name given) = suffix.Method name (arguments_meant given)

  links_again : (level : ChainLevel) (first : Expr) (xs : List (Link Expr)) → links_in (map-Expr Expr (Meant C) to (Expr-F.Chain level first xs)) ≡ map link_meant xs
  unfolding links_in
  links_again level first [] = refl
  links_again level first (x ∷ xs) = ap (λ r. link_meant x ∷ r) (links_again level first xs)

  pairs_again : (b : Bool) (xs : List (Pair Expr)) → pairs_in (map-Expr Expr (Meant C) to (Expr-F.Dict xs b)) ≡ map pair_meant xs
  unfolding pairs_in
  pairs_again b [] = refl
  pairs_again b (x ∷ xs) = ap (λ r. pair_meant x ∷ r) (pairs_again b xs)

  slice_again : (head : Expr) (a b : Option Expr) (c : Option (Option Expr)) (xs : List (Suffix Expr)) → suffixes_in (map-Expr Expr (Meant C) to (Expr-F.Primary head (suffix.Slice a b c ∷ xs)))
      ≡ suffix_meant (suffix.Slice a b c) ∷ suffixes_in (map-Expr Expr (Meant C) to (Expr-F.Primary head xs))
  unfolding suffixes_in
  slice_again head None None None xs = refl
  slice_again head None None (Some None) xs = refl
  slice_again head None None (Some (Some c)) xs = refl
  slice_again head None (Some b) None xs = refl
  slice_again head None (Some b) (Some None) xs = refl
  slice_again head None (Some b) (Some (Some c)) xs = refl
  slice_again head (Some a) None None xs = refl
  slice_again head (Some a) None (Some None) xs = refl
  slice_again head (Some a) None (Some (Some c)) xs = refl
  slice_again head (Some a) (Some b) None xs = refl
  slice_again head (Some a) (Some b) (Some None) xs = refl
  slice_again head (Some a) (Some b) (Some (Some c)) xs = refl

  call_again : (head : Expr) (ps : List Expr) (b : Bool) (ns : List (Named Expr)) (xs : List (Suffix Expr))
      → named_in_call (map-Expr Expr (Meant C) to (Expr-F.Primary head (suffix.Call (record { positional = ps; named = ns; comma = b }) ∷ xs))) ≡ map named_meant ns
  unfolding named_in_call
  call_again head ps b [] xs = refl
  call_again head ps b (n ∷ ns) xs = ap (λ r. named_meant n ∷ r) (call_again head ps b ns xs)

  method_again : (head : Expr) (m : List ℕ) (ps : List Expr) (b : Bool) (ns : List (Named Expr)) (xs : List (Suffix Expr))
      → named_in_call (map-Expr Expr (Meant C) to (Expr-F.Primary head (suffix.Method m (record { positional = ps; named = ns; comma = b }) ∷ xs))) ≡ map named_meant ns
  unfolding named_in_call
  method_again head m ps b [] xs = refl
  method_again head m ps b (n ∷ ns) xs = ap (λ r. named_meant n ∷ r) (method_again head m ps b ns xs)

  suffixes_again : (head : Expr) (xs : List (Suffix Expr)) → suffixes_in (map-Expr Expr (Meant C) to (Expr-F.Primary head xs)) ≡ map suffix_meant xs
  unfolding suffixes_in named_in_call
  suffixes_again head [] = refl
  suffixes_again head (suffix.Index at ∷ xs) = ap (λ r. suffix_meant (suffix.Index at) ∷ r) (suffixes_again head xs)
  suffixes_again head (suffix.Slice a b c ∷ xs) = slice_again head a b c xs ∙ ap (λ r. suffix_meant (suffix.Slice a b c) ∷ r) (suffixes_again head xs)
  suffixes_again head (suffix.Call given ∷ xs) =
      ap (λ ns. suffix.Call (record { positional = map to given.positional; named = ns; comma = given.comma }) ∷ suffixes_in (map-Expr Expr (Meant C) to (Expr-F.Primary head xs))) (call_again head given.positional given.comma given.named xs)
      ∙ ap (λ r. suffix_meant (suffix.Call given) ∷ r) (suffixes_again head xs)
  suffixes_again head (suffix.Method m given ∷ xs) =
      ap (λ ns. suffix.Method m (record { positional = map to given.positional; named = ns; comma = given.comma }) ∷ suffixes_in (map-Expr Expr (Meant C) to (Expr-F.Primary head xs))) (method_again head m given.positional given.comma given.named xs)
      ∙ ap (λ r. suffix_meant (suffix.Method m given) ∷ r) (suffixes_again head xs)

  pub chain_is : (level : ChainLevel) (first : Expr) (links : List (Link Expr)) → meant setting call (e.Chain level first links) ≡ step setting call (Expr-F.Chain level (meant setting call first) (map link_meant links))
  unfolding links_in
  chain_is level first links = meant_chain setting call level first links ∙ ap (λ xs. step setting call (Expr-F.Chain level (to first) xs)) (links_again level first links)

  pub dict_is : (pairs : List (Pair Expr)) (comma : Bool) → meant setting call (e.Dict pairs comma) ≡ step setting call (Expr-F.Dict (map pair_meant pairs) comma)
  unfolding pairs_in
  dict_is pairs comma = meant_dict setting call pairs comma ∙ ap (λ xs. step setting call (Expr-F.Dict xs comma)) (pairs_again comma pairs)

  pub primary_is : (head : Expr) (suffixes : List (Suffix Expr)) → meant setting call (e.Primary head suffixes) ≡ step setting call (Expr-F.Primary (meant setting call head) (map suffix_meant suffixes))
  unfolding suffixes_in
  primary_is head suffixes = meant_primary setting call head suffixes ∙ ap (λ xs. step setting call (Expr-F.Primary (to head) xs)) (suffixes_again head suffixes)

  arms_again : (last : Expr) (xs : List (Arm Expr)) → arms_in (map-Expr Expr (Meant C) to (Expr-F.Conditional xs last)) ≡ map arm_meant xs
  unfolding arms_in
  arms_again last [] = refl
  arms_again last (x ∷ xs) = ap (λ ys. arm_meant x ∷ ys) (arms_again last xs)

  pub conditional_is : (arms : List (Arm Expr)) (last : Expr) → meant setting call (e.Conditional arms last) ≡ step setting call (Expr-F.Conditional (map arm_meant arms) (meant setting call last))
  unfolding arms_in
  conditional_is arms last = meant_conditional setting call arms last ∙ ap (λ xs. step setting call (Expr-F.Conditional xs (to last))) (arms_again last arms)

  -- ---- statements with blocks

  abbrev pub block_done : Block Statement → Block (Doing C)
  block_done (blocks.Inline line) = blocks.Inline line
  block_done (blocks.Indented all) = blocks.Indented (map (statement_of setting call) all)

  abbrev pub branch_done : Branch Statement → Branch (Doing C)
  branch_done branch = record { condition = branch.condition; body = block_done branch.body }

  body_in_loop : {X : Type 0} → Statement-F X → Block X
  body_in_loop (Statement-F.For at targets over body) = body
  body_in_loop _ = blocks.Inline (record { smalls = []; semicolon = false })

  body_again : (at : ℕ) (targets over : List Expr) (body : Block Statement) → body_in_loop (map-Statement Statement (Doing C) (statement_of setting call) (Statement-F.For at targets over body)) ≡ block_done body
  unfolding body_in_loop
  body_again at targets over (blocks.Inline line) = refl
  body_again at targets over (blocks.Indented all) = refl

  pub for_is : (at : ℕ) (targets over : List Expr) (body : Block Statement) (last : Bool) (number : Option ℕ) (w : World C)
      → statement_of setting call (s.For at targets over body) last number w ≡ layer_of setting call (Statement-F.For at targets over (block_done body)) last number w
  unfolding body_in_loop
  for_is at targets over body last number w =
      statement_for setting call at targets over body last number w ∙ ap (λ b. layer_of setting call (Statement-F.For at targets over b) last number w) (body_again at targets over body)

  else_in_if : {X : Type 0} → Statement-F X → Option (Block X)
  else_in_if (Statement-F.If at first more other) = other
  else_in_if _ = None

  more_in_if : {X : Type 0} → Statement-F X → List (Branch X)
  more_in_if (Statement-F.If at first more other) = more
  more_in_if _ = []

  first_in_if : {X : Type 0} → Branch X → Statement-F X → Branch X
  first_in_if given (Statement-F.If at first more other) = first
  first_in_if given _ = given

  first_again : (at : ℕ) (x : Expr) (body : Block Statement) (more : List (Branch Statement)) (other : Option (Block Statement)) (given : Branch (Doing C))
      → first_in_if given (map-Statement Statement (Doing C) (statement_of setting call) (Statement-F.If at (record { condition = x; body = body }) more other)) ≡ branch_done (record { condition = x; body = body })
  unfolding first_in_if
  first_again at x (blocks.Inline line) more other given = refl
  first_again at x (blocks.Indented all) more other given = refl

  more_again : (at : ℕ) (first : Branch Statement) (more : List (Branch Statement)) (other : Option (Block Statement))
      → more_in_if (map-Statement Statement (Doing C) (statement_of setting call) (Statement-F.If at first more other)) ≡ map branch_done more
  unfolding more_in_if first_in_if
  more_again at first [] other = refl
  more_again at first (b ∷ more) other =
      ap (λ x. x ∷ more_in_if (map-Statement Statement (Doing C) (statement_of setting call) (Statement-F.If at first more other))) (first_again at b.condition b.body more other (branch_done b))
      ∙ ap (λ xs. branch_done b ∷ xs) (more_again at first more other)

  else_again : (at : ℕ) (first : Branch Statement) (more : List (Branch Statement)) (other : Option (Block Statement))
      → else_in_if (map-Statement Statement (Doing C) (statement_of setting call) (Statement-F.If at first more other)) ≡ option_map block_done other
  unfolding else_in_if
  else_again at first more None = refl
  else_again at first more (Some (blocks.Inline line)) = refl
  else_again at first more (Some (blocks.Indented all)) = refl

  pub if_is : (at : ℕ) (first : Branch Statement) (more : List (Branch Statement)) (other : Option (Block Statement)) (last : Bool) (number : Option ℕ) (w : World C)
      → statement_of setting call (s.If at first more other) last number w ≡ layer_of setting call (Statement-F.If at (branch_done first) (map branch_done more) (option_map block_done other)) last number w
  unfolding more_in_if first_in_if else_in_if
  if_is at first more other last number w =
      statement_if setting call at first more other last number w
      ∙ ap (λ x. layer_of setting call (Statement-F.If at x (more_in_if (map-Statement Statement (Doing C) (statement_of setting call) (Statement-F.If at first more other)))
      (else_in_if (map-Statement Statement (Doing C) (statement_of setting call) (Statement-F.If at first more other)))) last number w) (first_again at first.condition first.body more other (branch_done first))
      ∙ ap (λ xs. layer_of setting call (Statement-F.If at (branch_done first) xs (else_in_if (map-Statement Statement (Doing C) (statement_of setting call) (Statement-F.If at first more other)))) last number w)
      (more_again at first more other)
      ∙ ap (λ o. layer_of setting call (Statement-F.If at (branch_done first) (map branch_done more) o) last number w) (else_again at first more other)

  -- statements in a block, one after another
  in_sequence_again : (last : Bool) (all : List Statement) → in_sequence (λ l s. s false None) last (map (statement_of setting call) all) ≡ in_sequence (λ l s. statement_of setting call s false None) last all
  in_sequence_again last [] = refl
  in_sequence_again last (x ∷ all) = ap (λ rest. statement_of setting call x false None >>= go_on rest) (in_sequence_again last all)

  pub block_is : (body : Block Statement) → block_of setting call (block_done body) ≡ body_of setting call body
  block_is (blocks.Inline line) = refl
  block_is (blocks.Indented all) = in_sequence_again false all

-- The rules of the grammar for expressions, as readers over a reader of the expressions of each level.
use Rattle.std.specs.Prelude.{ℕ, zero, suc, Bool, true, false, if◌then◌else◌, List, [], ◌∷◌, ◌++◌, length, Option, Some, None}
use Rattle.star_syntax.specs.declared.token.Token.{Token}
use Rattle.star_syntax.specs.declared.token.Token.TheVariants as t
use Rattle.star_syntax.specs.declared.token.Keyword.TheVariants as w
use Rattle.star_syntax.specs.declared.token.Mark.{Mark}
use Rattle.star_syntax.specs.declared.token.Mark.TheVariants as m
use Rattle.star_syntax.specs.declared.operator.UnaryOp.{UnaryOp}
use Rattle.star_syntax.specs.declared.operator.CompareOp.{CompareOp}
use Rattle.star_syntax.specs.declared.operator.CompareOp.TheVariants as cmp
use Rattle.star_syntax.specs.declared.expression.ChainLevel.{ChainLevel}
use Rattle.star_syntax.specs.declared.expression.ChainLevel.TheVariants as chain
use Rattle.star_syntax.specs.declared.expression.ChainOp.{ChainOp}
use Rattle.star_syntax.specs.declared.expression.Link.{Link}
use Rattle.star_syntax.specs.declared.expression.Arm.{Arm}
use Rattle.star_syntax.specs.declared.expression.Named.{Named}
use Rattle.star_syntax.specs.declared.expression.Pair.{Pair}
use Rattle.star_syntax.specs.declared.expression.Arguments.{Arguments}
use Rattle.star_syntax.specs.declared.expression.Clause.{Clause}
use Rattle.star_syntax.specs.declared.expression.Clause.TheVariants.{For, If}
use Rattle.star_syntax.specs.declared.expression.Suffix.{Suffix}
use Rattle.star_syntax.specs.declared.expression.Suffix.TheVariants.{Index, Slice, Call, Method}
use Rattle.star_syntax.specs.declared.expression.Expr.{Expr, out-Expr}
use Rattle.star_syntax.specs.declared.expression.Expr.TheOpen.{Expr-F}
use Rattle.star_syntax.specs.declared.expression.Expr.TheVariants as e
use Rattle.star_syntax.specs.Levels.{is_target}
use Rattle.star_parser.specs.declared.level.Level.{Level}
use Rattle.star_parser.specs.declared.level.Level.TheVariants as level
use Rattle.star_parser.specs.Reading.{Reader, ◌>>=◌, ◌>>◌, pure, refuse, peek, skip}
use Rattle.star_parser.specs.Tables.{is_mark, is_word, chain_op, compare_op, eat, expect, eat_word, expect_word, expect_name, signs_from, nots_from}

-- ---- trees, from the parts that were found

abbrev pub with_suffixes : Expr → List (Suffix Expr) → Expr
with_suffixes head [] = head
with_suffixes head (x ∷ more) = e.Primary head (x ∷ more)

abbrev pub with_links : ChainLevel → Expr → List (Link Expr) → Expr
with_links l first [] = first
with_links l first (x ∷ more) = e.Chain l first (x ∷ more)

abbrev pub with_arms : List (Arm Expr) → Expr → Expr
with_arms [] last = last
with_arms (x ∷ more) last = e.Conditional (x ∷ more) last

abbrev pub with_signs : List UnaryOp → Expr → Expr
with_signs [] operand = operand
with_signs (x ∷ more) operand = e.Signed (x ∷ more) operand

abbrev pub with_nots : ℕ → Expr → Expr
with_nots zero operand = operand
with_nots (suc n) operand = e.Not (suc n) operand

abbrev pub layer_name : Expr-F Expr → Option (List ℕ)
layer_name (Expr-F.Name name) = Some name
layer_name _ = None

-- the name that the expression is, if it is one
unfoldable pub name_of : Expr → Option (List ℕ)
name_of x = layer_name (out-Expr x)

-- positional arguments, named ones, and whether a comma stands at the end
abbrev pub arguments_of : List Expr → List (Named Expr) → Bool → Arguments Expr
arguments_of positional named comma = record { positional = positional; named = named; comma = comma }

module _ (expr : Level → Reader Expr) where
  -- ---- items in brackets

  -- The items up to the closing bracket, after those found. The number bounds the turns.
  unfoldable pub items_from : Mark → ℕ → List Expr → Reader (List Expr × Bool)
  items_from close zero found = refuse
  items_from close (suc n) found = do
    item ← expr level.Test
    ended ← eat close
    if ended then pure (found ++ item ∷ [], false) else (do
      expect m.Comma
      closed ← eat close
      if closed then pure (found ++ item ∷ [], true) else items_from close n (found ++ item ∷ []))

  -- after `(` and an expression
  unfoldable pub parenthesized : Expr → Reader Expr
  parenthesized inner = do
    closed ← eat m.CloseRound
    if closed then pure (e.Paren inner) else (do
      expect m.Comma
      single ← eat m.CloseRound
      if single then pure (e.Tuple (inner ∷ []) true) else (do
        found ← (λ ts. items_from m.CloseRound (length ts) (inner ∷ []) ts)
        pure (e.Tuple found.0 found.1)))

  -- after `(`
  unfoldable pub round : Reader Expr
  round = do
    closed ← eat m.CloseRound
    if closed then pure (e.Tuple [] false) else expr level.Test >>= parenthesized

  -- ---- clauses of a comprehension

  -- Targets up to what follows them: each is read as a primary, and is a target where it ends.
  unfoldable pub targets_from : ℕ → List Expr → Reader (List Expr)
  targets_from zero found = refuse
  targets_from (suc n) found = do
    x ← expr level.Primary
    if is_target x then (do
      more ← eat m.Comma
      if more then targets_from n (found ++ x ∷ []) else pure (found ++ x ∷ [])) else refuse

  -- after `for`
  unfoldable pub for_clause : Reader (Clause Expr)
  for_clause = do
    targets ← (λ ts. targets_from (length ts) [] ts)
    expect_word w.In
    over ← expr level.Or
    pure (For targets over)

  unfoldable pub clauses_from : ℕ → List (Clause Expr) → Reader (List (Clause Expr))
  clauses_from zero found = pure found
  clauses_from (suc n) found = do
    is_for ← eat_word w.For
    if is_for then (do x ← for_clause; clauses_from n (found ++ x ∷ [])) else (do
      is_if ← eat_word w.If
      if is_if then (do condition ← expr level.Or; clauses_from n (found ++ If condition ∷ [])) else pure found)

  -- ---- lists

  -- after `[`, an expression and a comma or the end of the list
  unfoldable pub listed_after : Expr → Reader Expr
  listed_after first = do
    closed ← eat m.CloseSquare
    if closed then pure (e.List (first ∷ []) false) else (do
      expect m.Comma
      single ← eat m.CloseSquare
      if single then pure (e.List (first ∷ []) true) else (do
        found ← (λ ts. items_from m.CloseSquare (length ts) (first ∷ []) ts)
        pure (e.List found.0 found.1)))

  -- after `[`, an expression and `for`
  unfoldable pub list_over : Expr → Reader Expr
  list_over item = do
    clauses ← (λ ts. clauses_from (length ts) [] ts)
    expect m.CloseSquare
    pure (e.ListOver item clauses)

  abbrev pub list_by : Expr → Option Token → Reader Expr
  list_by first token = if is_word w.For token then list_over first else listed_after first

  -- after `[`
  unfoldable pub square : Reader Expr
  square = do
    closed ← eat m.CloseSquare
    if closed then pure (e.List [] false) else (do
      first ← expr level.Test
      token ← peek
      list_by first token)

  -- ---- dicts

  unfoldable pub pair : Reader (Pair Expr)
  pair = do
    key ← expr level.Test
    expect m.Colon
    value ← expr level.Test
    pure (record { key = key; value = value })

  -- the pairs up to `}`, after those found
  unfoldable pub pairs_from : ℕ → List (Pair Expr) → Reader (List (Pair Expr) × Bool)
  pairs_from zero found = refuse
  pairs_from (suc n) found = do
    item ← pair
    ended ← eat m.CloseCurly
    if ended then pure (found ++ item ∷ [], false) else (do
      expect m.Comma
      closed ← eat m.CloseCurly
      if closed then pure (found ++ item ∷ [], true) else pairs_from n (found ++ item ∷ []))

  -- after `{`, a pair and a comma or the end of the dict
  unfoldable pub paired_after : Pair Expr → Reader Expr
  paired_after first = do
    closed ← eat m.CloseCurly
    if closed then pure (e.Dict (first ∷ []) false) else (do
      expect m.Comma
      single ← eat m.CloseCurly
      if single then pure (e.Dict (first ∷ []) true) else (do
        found ← (λ ts. pairs_from (length ts) (first ∷ []) ts)
        pure (e.Dict found.0 found.1)))

  -- after `{`, a pair and `for`
  unfoldable pub dict_over : Pair Expr → Reader Expr
  dict_over first = do
    clauses ← (λ ts. clauses_from (length ts) [] ts)
    expect m.CloseCurly
    pure (e.DictOver first.key first.value clauses)

  abbrev pub dict_by : Pair Expr → Option Token → Reader Expr
  dict_by first token = if is_word w.For token then dict_over first else paired_after first

  -- after `{`
  unfoldable pub curly : Reader Expr
  curly = do
    closed ← eat m.CloseCurly
    if closed then pure (e.Dict [] false) else (do
      first ← pair
      token ← peek
      dict_by first token)

  -- ---- atoms

  abbrev pub atom_by : Option Token → Reader Expr
  atom_by (Some (t.Name name)) = skip >> pure (e.Name name)
  atom_by (Some (t.Int number)) = skip >> pure (e.Int number)
  atom_by (Some (t.Text text)) = skip >> pure (e.Text text)
  atom_by (Some (t.Word w.None)) = skip >> pure e.None
  atom_by (Some (t.Word w.True)) = skip >> pure e.True
  atom_by (Some (t.Word w.False)) = skip >> pure e.False
  atom_by (Some (t.Mark m.OpenRound)) = skip >> round
  atom_by (Some (t.Mark m.OpenSquare)) = skip >> square
  atom_by (Some (t.Mark m.OpenCurly)) = skip >> curly
  atom_by _ = refuse

  unfoldable pub atom : Reader Expr
  atom = peek >>= atom_by

  -- ---- suffixes

  -- an expression, unless the bound of a slice is left out
  unfoldable pub bound : Reader (Option Expr)
  bound = do
    token ← peek
    if is_mark m.Colon token then pure None else (if is_mark m.CloseSquare token then pure None else (do x ← expr level.Test; pure (Some x)))

  -- after the first colon of a slice
  unfoldable pub slice_after : Option Expr → Reader (Suffix Expr)
  slice_after start = do
    stop ← bound
    stepped ← eat m.Colon
    if stepped then (do
      step ← last_bound
      expect m.CloseSquare
      pure (Slice start stop (Some step))) else (do
        expect m.CloseSquare
        pure (Slice start stop None))
    where
      last_bound : Reader (Option Expr)
      last_bound = do
        token ← peek
        if is_mark m.CloseSquare token then pure None else (do x ← expr level.Test; pure (Some x))

  -- after `[` and an expression
  unfoldable pub index_after : Expr → Reader (Suffix Expr)
  index_after at = do
    sliced ← eat m.Colon
    if sliced then slice_after (Some at) else (do expect m.CloseSquare; pure (Index at))

  -- after `[`
  unfoldable pub index : Reader (Suffix Expr)
  index = do
    sliced ← eat m.Colon
    if sliced then slice_after None else expr level.Test >>= index_after

  -- named arguments up to `)`, the first one's name and `=` being read
  unfoldable pub named_from : ℕ → List Expr → List (Named Expr) → List ℕ → Reader (Arguments Expr)
  named_from zero positional found name = refuse
  named_from (suc n) positional found name = do
    value ← expr level.Test
    ended ← eat m.CloseRound
    if ended then pure (arguments_of positional (found ++ record { name = name; value = value } ∷ []) false) else (do
      expect m.Comma
      closed ← eat m.CloseRound
      if closed then pure (arguments_of positional (found ++ record { name = name; value = value } ∷ []) true) else (do
        next_name ← expect_name
        expect m.Assign
        named_from n positional (found ++ record { name = name; value = value } ∷ []) next_name))

  -- after an argument that is no name of a named one
  abbrev pub positional_by : List Expr → (List Expr → Reader (Arguments Expr)) → Reader (Arguments Expr)
  positional_by found more = do
    ended ← eat m.CloseRound
    if ended then pure (arguments_of found [] false) else (do
      expect m.Comma
      closed ← eat m.CloseRound
      if closed then pure (arguments_of found [] true) else more found)

  -- after an argument: `=` makes a bare name that of a named one
  abbrev pub argument_by : ℕ → List Expr → Expr → (List Expr → Reader (Arguments Expr)) → Option (List ℕ) → Reader (Arguments Expr)
  argument_by n found item more None = positional_by (found ++ item ∷ []) more
  argument_by n found item more (Some name) = do
    is_named ← eat m.Assign
    if is_named then named_from n found [] name else positional_by (found ++ item ∷ []) more

  -- the arguments up to `)`, after the positional ones that were found
  unfoldable pub arguments_from : ℕ → List Expr → Reader (Arguments Expr)
  arguments_from zero found = refuse
  arguments_from (suc n) found = do
    item ← expr level.Test
    argument_by n found item (arguments_from n) (name_of item)

  -- after `(`
  unfoldable pub arguments : Reader (Arguments Expr)
  arguments = do
    closed ← eat m.CloseRound
    if closed then pure (arguments_of [] [] false) else (λ ts. arguments_from (length ts) [] ts)

  -- after `.`
  unfoldable pub method : Reader (Suffix Expr)
  method = do
    name ← expect_name
    expect m.OpenRound
    given ← arguments
    pure (Method name given)

  unfoldable pub suffixes_from : ℕ → List (Suffix Expr) → Reader (List (Suffix Expr))
  suffixes_from zero found = pure found
  suffixes_from (suc n) found = do
    is_index ← eat m.OpenSquare
    if is_index then (do x ← index; suffixes_from n (found ++ x ∷ [])) else (do
      is_call ← eat m.OpenRound
      if is_call then (do given ← arguments; suffixes_from n (found ++ Call given ∷ [])) else (do
        is_method ← eat m.Dot
        if is_method then (do x ← method; suffixes_from n (found ++ x ∷ [])) else pure found))

  unfoldable pub primary : Reader Expr
  primary = do
    head ← atom
    found ← (λ ts. suffixes_from (length ts) [] ts)
    pure (with_suffixes head found)

  -- ---- operators

  -- the operand after an operator, and then what `more` reads
  abbrev pub links_by : Level → List (Link Expr) → (List (Link Expr) → Reader (List (Link Expr))) → Option ChainOp → Reader (List (Link Expr))
  links_by inner found more None = pure found
  links_by inner found more (Some o) = do
    skip
    operand ← expr inner
    more (found ++ record { op = o; operand = operand } ∷ [])

  unfoldable pub links_from : ChainLevel → Level → ℕ → List (Link Expr) → Reader (List (Link Expr))
  links_from l inner zero found = pure found
  links_from l inner (suc n) found = peek >>= λ token. links_by inner found (links_from l inner n) (chain_op l token)

  unfoldable pub chained : ChainLevel → Level → Reader Expr
  chained l inner = do
    first ← expr inner
    found ← (λ ts. links_from l inner (length ts) [] ts)
    pure (with_links l first found)

  unfoldable pub unary : Reader Expr
  unary = do
    signs ← (λ ts. signs_from (length ts) [] ts)
    operand ← expr level.Primary
    pure (with_signs signs operand)

  -- the right side of a comparison
  unfoldable pub compared : Expr → CompareOp → Reader Expr
  compared left o = do
    right ← expr level.BitOr
    pure (e.Compare left o right)

  abbrev pub compare_by : Expr → Option CompareOp → Reader Expr
  compare_by left None = pure left
  compare_by left (Some cmp.NotWithin) = skip >> expect_word w.In >> compared left cmp.NotWithin
  compare_by left (Some o) = skip >> compared left o

  unfoldable pub compare : Reader Expr
  compare = do
    left ← expr level.BitOr
    token ← peek
    compare_by left (compare_op token)

  unfoldable pub negated : Reader Expr
  negated = do
    count ← (λ ts. nots_from (length ts) 0 ts)
    operand ← expr level.Compare
    pure (with_nots count operand)

  -- after `if`: the condition, and the value after `else`
  unfoldable pub alternative : Reader (Expr × Expr)
  alternative = do
    condition ← expr level.Or
    expect_word w.Else
    value ← expr level.Or
    pure (condition, value)

  -- after the arms that were found and a value. The number bounds the turns.
  unfoldable pub arms_from : ℕ → List (Arm Expr) → Expr → Reader Expr
  arms_from zero found value = pure (with_arms found value)
  arms_from (suc n) found value = do
    is_arm ← eat_word w.If
    if is_arm then (do
      other ← alternative
      arms_from n (found ++ record { value = value; condition = other.0 } ∷ []) other.1) else pure (with_arms found value)

  -- a test: a conditional, or its value alone
  unfoldable pub whole_test : Reader Expr
  whole_test = do
    value ← expr level.Or
    (λ ts. arms_from (length ts) [] value ts)

  abbrev pub at : Level → Reader Expr
  at level.Test = whole_test
  at level.Or = chained chain.Or level.And
  at level.And = chained chain.And level.Not
  at level.Not = negated
  at level.Compare = compare
  at level.BitOr = chained chain.BitOr level.BitXor
  at level.BitXor = chained chain.BitXor level.BitAnd
  at level.BitAnd = chained chain.BitAnd level.Sum
  at level.Sum = chained chain.Sum level.Product
  at level.Product = chained chain.Product level.Unary
  at level.Unary = unary
  at level.Primary = primary

-- with calls nested no deeper than the number
unfoldable pub expr : ℕ → Level → Reader Expr
expr zero l = refuse
expr (suc depth) l = at (expr depth) l

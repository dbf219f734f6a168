-- Each Dedent closes a column that an Indent opened, and all are closed at the end.
use Rattle.std.proofs.Common.{◌≡◌, ℕ, zero, suc, ◌+◌, ◌-◌, ◌≤◌, ◌||◌, ◌==◌, Bool, true, false, cond, List, [], ◌∷◌, ◌++◌, length, take, replicate, Option, Some, None, Ok, Err, refl, sym, ap, ◌∙◌, subst, length-append, length-take-le, arith}
use Rattle.std.specs.Prelude.{nat_lt, nat_le}
use Rattle.std.proofs.lemmas.List.Sums.{prefix_len-le-length}
use Rattle.star_lexer.specs.declared.error.LexKind.TheVariants.{BadIndent, TooNested}
use Rattle.star_lexer.specs.declared.layout.Layout.{Layout}
use Rattle.star_syntax.specs.declared.token.Mark.TheVariants as m
use Rattle.star_syntax.specs.declared.token.Token.{Token}
use Rattle.star_syntax.specs.declared.token.Token.TheVariants as t
use Rattle.star_syntax.specs.declared.token.Spanned.{Spanned}
use Rattle.star_syntax.specs.Nesting.{after_column, columns_after, IsBalanced}
use Rattle.star_lexer.specs.Lexeme.{Lexeme}
use Rattle.star_lexer.specs.Lexeme as lexeme
use Rattle.star_lexer.specs.Chars.{Chars}
use Rattle.star_lexer.specs.Layout.{spanned, start, settle, indented, opened, kept, top, bracket, advanced, line_end, ends, most_nested}
use Rattle.star_lexer.specs.Pieces.{Piece, Spells, IsWritten}
use Rattle.star_lexer.specs.Scan.{Lexed, at, ◌>>=◌}
use Rattle.star_lexer.specs.Tokens.{IsCut, step, step_by, lay, Tokens}
use Rattle.star_lexer.proofs.Whole.{split_lay, ok_same}
use Rattle.star_lexer.proofs.Nested.{done, laid, at_ok}

columns_none : (xs : List Spanned) → columns_after xs None ≡ None
columns_none [] = refl
columns_none (x ∷ xs) = refl

columns_append : (xs ys : List Spanned) (o : Option ℕ) → columns_after (xs ++ ys) o ≡ columns_after ys (columns_after xs o)
columns_append [] ys o = refl
columns_append (x ∷ xs) ys None = sym (columns_none ys)
columns_append (x ∷ xs) ys (Some n) = columns_append xs ys (after_column x.token n)

-- the tokens open and close as the layout does
record Moves (s : Layout) (given : List Spanned) (s2 : Layout) : Type 0 where
  columns : columns_after given (Some (length s.columns)) ≡ Some (length s2.columns)

joined : (s s2 s3 : Layout) (xs ys : List Spanned) → Moves s xs s2 → Moves s2 ys s3 → Moves s (xs ++ ys) s3
joined s s2 s3 xs ys a b = record { columns = columns_append xs ys (Some (length s.columns)) ∙ ap (columns_after ys) a.columns ∙ b.columns }

moves_pair : (s : Layout) (a : Layout × List Spanned) (s2 : Layout) (given : List Spanned) → done a.0 a.1 ≡ Ok (s2, given) → Moves s a.1 a.0 → Moves s given s2
moves_pair s a s2 given e moves = subst (λ (p : Layout × List Spanned). Moves s p.1 p.0) (ok_same _ _ e) moves

-- ---- indentation

dedents : (n c line : ℕ) → n ≤ c → columns_after (replicate n (spanned t.Dedent line)) (Some c) ≡ Some (c - n)
dedents zero c line few = let e : c ≡ c - 0 = omega arith in ap Some e
dedents (suc n) zero line few = absurd (omega arith)
dedents (suc n) (suc c) line few = let e : c - n ≡ suc c - suc n = omega arith in dedents n c line (omega arith) ∙ ap Some e

opened_moves : (s : Layout) (b : Bool) (s2 : Layout) (given : List Spanned) → cond b (done (record s { columns = s.columns ++ s.column ∷ []; is_start = false }) (spanned t.Indent s.line ∷ [])) (Err TooNested) ≡ Ok (s2, given) → Moves s given s2
opened_moves s true s2 given e =
    let long : suc (length s.columns) ≡ length (s.columns ++ s.column ∷ []) = omega (arith, length-append s.columns (s.column ∷ [])) in
    moves_pair s _ s2 given e (record { columns = ap Some long })
opened_moves s false s2 given e = cc

indented_moves : (s : Layout) (k : ℕ) (b d : Bool) (s2 : Layout) (given : List Spanned) → k ≤ length s.columns → cond b (done (record s { columns = take k s.columns; is_start = false }) (replicate (length s.columns - k) (spanned t.Dedent s.line))) (cond d (opened s) (Err BadIndent)) ≡ Ok (s2, given) → Moves s given s2
indented_moves s k true d s2 given few e =
    let left : length s.columns - (length s.columns - k) ≡ length (take k s.columns) = omega (arith, length-take-le k s.columns few) in
    moves_pair s _ s2 given e (record { columns = dedents (length s.columns - k) (length s.columns) s.line (omega arith) ∙ ap Some left })
indented_moves s k false true s2 given few e = opened_moves s (nat_lt (s.depth + length s.columns) most_nested) s2 given e
indented_moves s k false false s2 given few e = cc

settle_by : (s : Layout) (b d : Bool) (s2 : Layout) (given : List Spanned) → cond b (cond d (Err BadIndent) (indented s (kept s))) (done s []) ≡ Ok (s2, given) → Moves s given s2
settle_by s true true s2 given e = cc
settle_by s true false s2 given e = indented_moves s (kept s) (top s.columns (kept s) == s.column) (kept s == length s.columns) s2 given (prefix_len-le-length (λ c. nat_le c s.column) s.columns) e
settle_by s false d s2 given e = moves_pair s (s, []) s2 given e (record { columns = refl })

settle_moves : (s s2 : Layout) (given : List Spanned) → settle s ≡ Ok (s2, given) → Moves s given s2
unfolding settle
settle_moves s s2 given e = settle_by s s.is_start s.is_tabbed s2 given e

-- ---- brackets

deeper_columns : (s : Layout) (b : Bool) (s2 : Layout) → cond b (Ok (record s { depth = s.depth + 1 })) (Err TooNested) ≡ Ok s2 → s2.columns ≡ s.columns
deeper_columns s true s2 e = sym (ap (λ (x : Layout). x.columns) (ok_same _ _ e))
deeper_columns s false s2 e = cc

kept_columns : (s mid s2 : Layout) → mid.columns ≡ s.columns → mid ≡ s2 → s2.columns ≡ s.columns
kept_columns s mid s2 a b = sym (ap (λ (x : Layout). x.columns) b) ∙ a

bracket_columns : (s s2 : Layout) (token : Token) → bracket s token ≡ Ok s2 → s2.columns ≡ s.columns
unfolding bracket
bracket_columns s s2 (t.Mark m.OpenRound) e = deeper_columns s (nat_lt (s.depth + length s.columns) most_nested) s2 e
bracket_columns s s2 (t.Mark m.OpenSquare) e = deeper_columns s (nat_lt (s.depth + length s.columns) most_nested) s2 e
bracket_columns s s2 (t.Mark m.OpenCurly) e = deeper_columns s (nat_lt (s.depth + length s.columns) most_nested) s2 e
bracket_columns s s2 (t.Mark m.CloseRound) e = kept_columns s _ s2 refl (ok_same _ _ e)
bracket_columns s s2 (t.Mark m.CloseSquare) e = kept_columns s _ s2 refl (ok_same _ _ e)
bracket_columns s s2 (t.Mark m.CloseCurly) e = kept_columns s _ s2 refl (ok_same _ _ e)
bracket_columns s s2 _ e = kept_columns s s s2 refl (ok_same _ _ e)

-- a written token opens and closes no column
written_column : (token : Token) (w : Chars) (n : ℕ) → Spells token w → after_column token n ≡ Some n
written_column t.Newline w n is = absurd is
written_column t.Indent w n is = absurd is
written_column t.Dedent w n is = absurd is
written_column t.End w n is = absurd is
written_column _ w n is = refl

-- ---- pieces

after_bracket : (s mid s2 : Layout) (token : Token) (w : Chars) (front given : List Spanned) (b : Lexed Layout) → at s.line (bracket mid token) ≡ b → Spells token w → (b >>= (λ after. laid (advanced after w) (front ++ spanned token s.line ∷ []))) ≡ Ok (s2, given) → Moves s front mid → Moves s given s2
after_bracket s mid s2 token w front given (Ok x) eb is e moves =
    let same = bracket_columns mid x token (at_ok s.line (bracket mid token) x eb) in
    let one : Moves mid (spanned token s.line ∷ []) (advanced x w) = record { columns = written_column token w (length mid.columns) is ∙ ap (λ c. Some (length c)) (sym same) } in
    subst (λ (p : Layout × List Spanned). Moves s p.1 p.0) (ok_same _ _ e) (joined s mid (advanced x w) front (spanned token s.line ∷ []) moves one)
after_bracket s mid s2 token w front given (Err k) eb is e moves = cc

after_settle : (s s2 : Layout) (token : Token) (w : Chars) (given : List Spanned) (m : Lexed (Layout × List Spanned)) → at s.start (settle s) ≡ m → Spells token w → (m >>= (λ settled. at s.line (bracket settled.0 token) >>= (λ after. laid (advanced after w) (settled.1 ++ spanned token s.line ∷ [])))) ≡ Ok (s2, given) → Moves s given s2
after_settle s s2 token w given (Ok a) em is e = after_bracket s a.0 s2 token w a.1 given (at s.line (bracket a.0 token)) refl is e (settle_moves s a.0 a.1 (at_ok s.start (settle s) a em))
after_settle s s2 token w given (Err k) em is e = cc

line_columns : (b : Bool) (line : ℕ) (n : ℕ) → columns_after (cond b [] (spanned t.Newline line ∷ [])) (Some n) ≡ Some n
line_columns true line n = refl
line_columns false line n = refl

step_moves : (s s2 : Layout) (l : Lexeme) (w : Chars) (given : List Spanned) → IsWritten l w → step_by l s w ≡ Ok (s2, given) → Moves s given s2
step_moves s s2 lexeme.Blank w given is e = subst (λ (p : Layout × List Spanned). Moves s p.1 p.0) (ok_same _ _ e) (record { columns = refl })
step_moves s s2 lexeme.Line w given is e = subst (λ (p : Layout × List Spanned). Moves s p.1 p.0) (ok_same _ _ e) (record { columns = line_columns (s.is_start || nat_lt 0 s.depth) s.line (length s.columns) })
step_moves s s2 (lexeme.Token token) w given is e = after_settle s s2 token w given (at s.start (settle s)) refl is e

lay_moves : (ps : List Piece) (s last : Layout) (given : List Spanned) (rest : Chars) → IsCut ps rest → lay s ps ≡ Ok (last, given) → Moves s given last
lay_moves [] s last given rest cut e = subst (λ (p : Layout × List Spanned). Moves s p.1 p.0) (ok_same _ _ e) (record { columns = refl })
lay_moves (p ∷ ps) s last given rest cut e =
    let split = split_lay (step s p) ps last given e in
    let one = step_moves s split.next p.lexeme p.spelling split.front cut.0.written split.first_is in
    let more = lay_moves ps split.next last split.more rest cut.1 split.rest_is in
    subst (λ xs. Moves s xs last) (sym split.whole) (joined s split.next last split.front split.more one more)

-- what stands at the end closes all columns
ends_columns : (s : Layout) → columns_after (ends s) (Some (length s.columns)) ≡ Some 0
unfolding ends
ends_columns s =
    let line = line_end (record s { depth = 0 }) in
    let closing = replicate (length s.columns) (spanned t.Dedent s.line) in
    let last = spanned t.End s.line ∷ [] in
    let none : length s.columns - length s.columns ≡ 0 = omega arith in
    columns_append (line ++ closing) last (Some (length s.columns))
    ∙ ap (columns_after last)
    (columns_append line closing (Some (length s.columns))
    ∙ ap (columns_after closing) (line_columns (s.is_start || nat_lt 0 0) s.line (length s.columns))
    ∙ dedents (length s.columns) (length s.columns) s.line (omega arith)
    ∙ ap Some none)

pub tokens_balanced : (text : Chars) (list : List Spanned) → Tokens text list → IsBalanced list
tokens_balanced text list is =
    ap (λ xs. columns_after xs (Some 0)) is.all
    ∙ columns_append is.given (ends is.last) (Some 0)
    ∙ ap (columns_after (ends is.last)) (lay_moves is.pieces start is.last is.given [] is.cut is.laid).columns
    ∙ ends_columns is.last

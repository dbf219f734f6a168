-- The written tokens of a text are those of its pieces, in order, each with its line.
use Rattle.std.proofs.Common.{◌≡◌, ℕ, zero, suc, ◌+◌, ◌-◌, ◌||◌, ◌==◌, Bool, true, false, cond, List, [], ◌∷◌, ◌++◌, length, take, replicate, Ok, Err, refl, sym, ap, ◌∙◌, subst, append-nil}
use Rattle.std.specs.Prelude.{nat_lt}
use Rattle.star_lexer.specs.declared.error.LexKind.TheVariants.{BadIndent, TooNested}
use Rattle.star_lexer.specs.declared.layout.Layout.{Layout}
use Rattle.star_syntax.specs.declared.token.Mark.TheVariants as m
use Rattle.star_syntax.specs.declared.token.Token.{Token}
use Rattle.star_syntax.specs.declared.token.Token.TheVariants as t
use Rattle.star_lexer.specs.Lexeme.{Lexeme}
use Rattle.star_lexer.specs.Lexeme as lexeme
use Rattle.star_syntax.specs.declared.token.Spanned.{Spanned}
use Rattle.star_lexer.specs.Chars.{Chars, newlines}
use Rattle.star_lexer.specs.Layout.{spanned, start, settle, indented, opened, kept, top, bracket, advanced, line_end, ends, most_nested}
use Rattle.star_lexer.specs.Pieces.{Piece, Spells, IsWritten}
use Rattle.star_lexer.specs.Scan.{Lexed, at, ◌>>=◌}
use Rattle.star_lexer.specs.Tokens.{IsCut, step, step_by, lay, Tokens, written_by, written_in, is_written, only_written}
use Rattle.star_lexer.proofs.Whole.{split_lay, ok_same}
use Rattle.star_lexer.proofs.Nested.{done, laid, at_ok}

only_by : (x : Spanned) (xs ys : List Spanned) (b : Bool) → only_written (xs ++ ys) ≡ only_written xs ++ only_written ys → cond b (x ∷ only_written (xs ++ ys)) (only_written (xs ++ ys)) ≡ cond b (x ∷ only_written xs) (only_written xs) ++ only_written ys
only_by x xs ys true e = ap (λ zs. x ∷ zs) e
only_by x xs ys false e = e

only_append : (xs ys : List Spanned) → only_written (xs ++ ys) ≡ only_written xs ++ only_written ys
only_append [] ys = refl
only_append (x ∷ xs) ys = only_by x xs ys (is_written x.token) (only_append xs ys)

only_dedents : (n line : ℕ) → only_written (replicate n (spanned t.Dedent line)) ≡ []
only_dedents zero line = refl
only_dedents (suc n) line = only_dedents n line

-- no written token, and the line stays
record Quiet (s : Layout) (given : List Spanned) (s2 : Layout) : Type 0 where
  none : only_written given ≡ []
  line : s2.line ≡ s.line

quiet_pair : (s : Layout) (a : Layout × List Spanned) (s2 : Layout) (given : List Spanned) → done a.0 a.1 ≡ Ok (s2, given) → Quiet s a.1 a.0 → Quiet s given s2
quiet_pair s a s2 given e quiet = subst (λ (p : Layout × List Spanned). Quiet s p.1 p.0) (ok_same _ _ e) quiet

opened_quiet : (s : Layout) (b : Bool) (s2 : Layout) (given : List Spanned) → cond b (done (record s { columns = s.columns ++ s.column ∷ []; is_start = false }) (spanned t.Indent s.line ∷ [])) (Err TooNested) ≡ Ok (s2, given) → Quiet s given s2
opened_quiet s true s2 given e = quiet_pair s _ s2 given e (record { none = refl; line = refl })
opened_quiet s false s2 given e = cc

indented_quiet : (s : Layout) (k : ℕ) (b d : Bool) (s2 : Layout) (given : List Spanned) → cond b (done (record s { columns = take k s.columns; is_start = false }) (replicate (length s.columns - k) (spanned t.Dedent s.line))) (cond d (opened s) (Err BadIndent)) ≡ Ok (s2, given) → Quiet s given s2
indented_quiet s k true d s2 given e = quiet_pair s _ s2 given e (record { none = only_dedents (length s.columns - k) s.line; line = refl })
indented_quiet s k false true s2 given e = opened_quiet s (nat_lt (s.depth + length s.columns) most_nested) s2 given e
indented_quiet s k false false s2 given e = cc

settle_quiet_by : (s : Layout) (b d : Bool) (s2 : Layout) (given : List Spanned) → cond b (cond d (Err BadIndent) (indented s (kept s))) (done s []) ≡ Ok (s2, given) → Quiet s given s2
settle_quiet_by s true true s2 given e = cc
settle_quiet_by s true false s2 given e = indented_quiet s (kept s) (top s.columns (kept s) == s.column) (kept s == length s.columns) s2 given e
settle_quiet_by s false d s2 given e = quiet_pair s (s, []) s2 given e (record { none = refl; line = refl })

settle_quiet : (s s2 : Layout) (given : List Spanned) → settle s ≡ Ok (s2, given) → Quiet s given s2
unfolding settle
settle_quiet s s2 given e = settle_quiet_by s s.is_start s.is_tabbed s2 given e

deeper_line : (s : Layout) (b : Bool) (s2 : Layout) → cond b (Ok (record s { depth = s.depth + 1 })) (Err TooNested) ≡ Ok s2 → s2.line ≡ s.line
deeper_line s true s2 e = sym (ap (λ (x : Layout). x.line) (ok_same _ _ e))
deeper_line s false s2 e = cc

kept_line : (s mid s2 : Layout) → mid.line ≡ s.line → mid ≡ s2 → s2.line ≡ s.line
kept_line s mid s2 a b = sym (ap (λ (x : Layout). x.line) b) ∙ a

bracket_line : (s s2 : Layout) (token : Token) → bracket s token ≡ Ok s2 → s2.line ≡ s.line
unfolding bracket
bracket_line s s2 (t.Mark m.OpenRound) e = deeper_line s (nat_lt (s.depth + length s.columns) most_nested) s2 e
bracket_line s s2 (t.Mark m.OpenSquare) e = deeper_line s (nat_lt (s.depth + length s.columns) most_nested) s2 e
bracket_line s s2 (t.Mark m.OpenCurly) e = deeper_line s (nat_lt (s.depth + length s.columns) most_nested) s2 e
bracket_line s s2 (t.Mark m.CloseCurly) e = kept_line s _ s2 refl (ok_same _ _ e)
bracket_line s s2 (t.Mark m.CloseRound) e = kept_line s _ s2 refl (ok_same _ _ e)
bracket_line s s2 (t.Mark m.CloseSquare) e = kept_line s _ s2 refl (ok_same _ _ e)
bracket_line s s2 _ e = kept_line s s s2 refl (ok_same _ _ e)

spelled_written : (token : Token) (w : Chars) → Spells token w → is_written token ≡ true
spelled_written t.Newline w is = absurd is
spelled_written t.Indent w is = absurd is
spelled_written t.Dedent w is = absurd is
spelled_written t.End w is = absurd is
spelled_written _ w is = refl

-- a piece gives its token alone, and passes its newlines
record Says (s : Layout) (l : Lexeme) (w : Chars) (given : List Spanned) (s2 : Layout) : Type 0 where
  written : only_written given ≡ written_by l s.line
  line : s2.line ≡ s.line + newlines w

token_says : (s mid s2 : Layout) (token : Token) (w : Chars) (front given : List Spanned) (b : Lexed Layout) → at s.line (bracket mid token) ≡ b → Spells token w → (b >>= (λ after. laid (advanced after w) (front ++ spanned token s.line ∷ []))) ≡ Ok (s2, given) → Quiet s front mid → Says s (lexeme.Token token) w given s2
token_says s mid s2 token w front given (Ok x) eb is e quiet =
    let same_line = bracket_line mid x token (at_ok s.line (bracket mid token) x eb) ∙ quiet.line in
    let one : only_written (spanned token s.line ∷ []) ≡ spanned token s.line ∷ [] = ap (λ b. cond b (spanned token s.line ∷ []) []) (spelled_written token w is) in
    subst (λ (p : Layout × List Spanned). Says s (lexeme.Token token) w p.1 p.0) (ok_same _ _ e)
    (record { written = only_append front (spanned token s.line ∷ []) ∙ ap (λ xs. xs ++ only_written (spanned token s.line ∷ [])) quiet.none ∙ one; line = ap (λ n. n + newlines w) same_line })
token_says s mid s2 token w front given (Err k) eb is e quiet = cc

piece_says : (s s2 : Layout) (token : Token) (w : Chars) (given : List Spanned) (m : Lexed (Layout × List Spanned)) → at s.start (settle s) ≡ m → Spells token w → (m >>= (λ settled. at s.line (bracket settled.0 token) >>= (λ after. laid (advanced after w) (settled.1 ++ spanned token s.line ∷ [])))) ≡ Ok (s2, given) → Says s (lexeme.Token token) w given s2
piece_says s s2 token w given (Ok a) em is e = token_says s a.0 s2 token w a.1 given (at s.line (bracket a.0 token)) refl is e (settle_quiet s a.0 a.1 (at_ok s.start (settle s) a em))
piece_says s s2 token w given (Err k) em is e = cc

line_end_quiet : (s : Layout) (b : Bool) → only_written (cond b [] (spanned t.Newline s.line ∷ [])) ≡ []
line_end_quiet s true = refl
line_end_quiet s false = refl

step_says : (s s2 : Layout) (l : Lexeme) (w : Chars) (given : List Spanned) → IsWritten l w → step_by l s w ≡ Ok (s2, given) → Says s l w given s2
step_says s s2 lexeme.Blank w given is e = subst (λ (p : Layout × List Spanned). Says s lexeme.Blank w p.1 p.0) (ok_same _ _ e) (record { written = refl; line = refl })
step_says s s2 lexeme.Line w given is e = subst (λ (p : Layout × List Spanned). Says s lexeme.Line w p.1 p.0) (ok_same _ _ e) (record { written = line_end_quiet s (s.is_start || nat_lt 0 s.depth); line = ap (λ w. s.line + newlines w) (sym is) })
step_says s s2 (lexeme.Token token) w given is e = piece_says s s2 token w given (at s.start (settle s)) refl is e

lay_says : (ps : List Piece) (s last : Layout) (given : List Spanned) (rest : Chars) → IsCut ps rest → lay s ps ≡ Ok (last, given) → only_written given ≡ written_in s.line ps
lay_says [] s last given rest cut e = ap (λ (p : Layout × List Spanned). only_written p.1) (sym (ok_same _ _ e))
lay_says (p ∷ ps) s last given rest cut e =
    let split = split_lay (step s p) ps last given e in
    let one = step_says s split.next p.lexeme p.spelling split.front cut.0.written split.first_is in
    let more = lay_says ps split.next last split.more rest cut.1 split.rest_is in
    ap only_written split.whole ∙ only_append split.front split.more ∙ (λ i. one.written i ++ more i) ∙ ap (λ n. written_by p.lexeme s.line ++ written_in n ps) one.line

ends_quiet : (s : Layout) → only_written (ends s) ≡ []
unfolding ends
ends_quiet s =
    only_append (line_end (record s { depth = 0 }) ++ replicate (length s.columns) (spanned t.Dedent s.line)) (spanned t.End s.line ∷ [])
    ∙ append-nil _ ∙ only_append (line_end (record s { depth = 0 })) (replicate (length s.columns) (spanned t.Dedent s.line))
    ∙ (λ i. line_end_quiet s (s.is_start || nat_lt 0 0) i ++ only_dedents (length s.columns) s.line i)

pub tokens_written : (text : Chars) (list : List Spanned) → (is : Tokens text list) → only_written list ≡ written_in 1 is.pieces
tokens_written text list is =
    ap only_written is.all ∙ only_append is.given (ends is.last) ∙ (λ i. lay_says is.pieces start is.last is.given [] is.cut is.laid i ++ ends_quiet is.last i) ∙ append-nil _

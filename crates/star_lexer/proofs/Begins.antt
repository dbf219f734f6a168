-- Each piece that begins at a place.
use Rattle.std.proofs.Common.{◌≡◌, ℕ, ◌+◌, ◌≤◌, Bool, true, false, not, ◌&&◌, ◌==◌, inl, inr, [], ◌∷◌, ◌++◌, length, take, Ok, refl, sym, ap, ◌∙◌, subst, lt-ltb, arith}
use Rattle.std.specs.Prelude.{nat_lt}
use Rattle.std.specs.List.{prefix_len}
use Rattle.std.specs.Char.{is_ascii_digit}
use Rattle.star_lexer.specs.declared.chars.Class.TheVariants as class
use Rattle.star_syntax.specs.declared.token.Mark.{Mark}
use Rattle.star_syntax.specs.declared.token.Mark.TheVariants as m
use Rattle.star_syntax.specs.declared.token.Token.{Token}
use Rattle.star_syntax.specs.declared.token.Token.TheVariants as t
use Rattle.star_lexer.specs.Lexeme.{Lexeme}
use Rattle.star_lexer.specs.Lexeme as lexeme
use Rattle.star_lexer.specs.Chars.{Chars, newline, backslash, is_quote, is_in, is_name_start}
use Rattle.star_lexer.specs.Flaws.{here, ◌>>=◌}
use Rattle.star_lexer.specs.Reading.{piece_at, blank_at, mark_at}
use Rattle.star_lexer.specs.Words.{mark_text, keyword_text}
use Rattle.star_lexer.specs.Pieces.{IsWritten, IsBlank, IsComment, Spells}
use Rattle.star_lexer.proofs.Whole.{take_front}
use Rattle.star_lexer.proofs.Runs.{run_reaches, both_true}
use Rattle.star_lexer.proofs.MarkLemmas.{longest_mark, mark_same, take_own}
use Rattle.star_lexer.proofs.Places.{at_mark, IsMarkLike}
use Rattle.star_lexer.proofs.Takes.{Takes, takes_word, keyword_word, keyword_token, name_token, takes_number, takes_text}

-- ---- marks

not_true : (b : Bool) → not b ≡ true → b ≡ false
not_true true e = sym e
not_true false e = refl

abbrev begins_mark : ℕ → Bool
begins_mark c = not (c == newline) && (not (c == 32) && (not (c == 9) && (not (c == 35) && (not (c == backslash) && (not (is_name_start c) && (not (is_ascii_digit c) && not (is_quote c)))))))

mark_like : (c : ℕ) → begins_mark c ≡ true → IsMarkLike c
mark_like c h =
    let (a, h1) = both_true _ _ h in
    let (b, h2) = both_true _ _ h1 in
    let (d, h3) = both_true _ _ h2 in
    let (e, h4) = both_true _ _ h3 in
    let (f, h5) = both_true _ _ h4 in
    let (g, h6) = both_true _ _ h5 in
    let (i, j) = both_true _ _ h6 in
    record { solid = record { a = not_true _ a; b = not_true _ b; d = not_true _ d; e = not_true _ e; f = not_true _ f }; start = not_true _ g; digit = not_true _ i; quoted = not_true _ j }

pub record Head (s : Chars) : Type 0 where
  pub c : ℕ
  pub cs : Chars
  pub whole : s ≡ c ∷ cs
  pub like : IsMarkLike c

pub mark_head : (x : Mark) → Head (mark_text x)
mark_head m.Plus = record { c = 43; cs = []; whole = refl; like = mark_like 43 refl }
mark_head m.Minus = record { c = 45; cs = []; whole = refl; like = mark_like 45 refl }
mark_head m.Star = record { c = 42; cs = []; whole = refl; like = mark_like 42 refl }
mark_head m.FloorDivide = record { c = 47; cs = 47 ∷ []; whole = refl; like = mark_like 47 refl }
mark_head m.Percent = record { c = 37; cs = []; whole = refl; like = mark_like 37 refl }
mark_head m.Ampersand = record { c = 38; cs = []; whole = refl; like = mark_like 38 refl }
mark_head m.Bar = record { c = 124; cs = []; whole = refl; like = mark_like 124 refl }
mark_head m.Caret = record { c = 94; cs = []; whole = refl; like = mark_like 94 refl }
mark_head m.Tilde = record { c = 126; cs = []; whole = refl; like = mark_like 126 refl }
mark_head m.Equal = record { c = 61; cs = 61 ∷ []; whole = refl; like = mark_like 61 refl }
mark_head m.NotEqual = record { c = 33; cs = 61 ∷ []; whole = refl; like = mark_like 33 refl }
mark_head m.Less = record { c = 60; cs = []; whole = refl; like = mark_like 60 refl }
mark_head m.Greater = record { c = 62; cs = []; whole = refl; like = mark_like 62 refl }
mark_head m.AtMost = record { c = 60; cs = 61 ∷ []; whole = refl; like = mark_like 60 refl }
mark_head m.AtLeast = record { c = 62; cs = 61 ∷ []; whole = refl; like = mark_like 62 refl }
mark_head m.Assign = record { c = 61; cs = []; whole = refl; like = mark_like 61 refl }
mark_head m.PlusAssign = record { c = 43; cs = 61 ∷ []; whole = refl; like = mark_like 43 refl }
mark_head m.MinusAssign = record { c = 45; cs = 61 ∷ []; whole = refl; like = mark_like 45 refl }
mark_head m.StarAssign = record { c = 42; cs = 61 ∷ []; whole = refl; like = mark_like 42 refl }
mark_head m.FloorAssign = record { c = 47; cs = 47 ∷ 61 ∷ []; whole = refl; like = mark_like 47 refl }
mark_head m.PercentAssign = record { c = 37; cs = 61 ∷ []; whole = refl; like = mark_like 37 refl }
mark_head m.AmpersandAssign = record { c = 38; cs = 61 ∷ []; whole = refl; like = mark_like 38 refl }
mark_head m.BarAssign = record { c = 124; cs = 61 ∷ []; whole = refl; like = mark_like 124 refl }
mark_head m.CaretAssign = record { c = 94; cs = 61 ∷ []; whole = refl; like = mark_like 94 refl }
mark_head m.OpenRound = record { c = 40; cs = []; whole = refl; like = mark_like 40 refl }
mark_head m.CloseRound = record { c = 41; cs = []; whole = refl; like = mark_like 41 refl }
mark_head m.OpenSquare = record { c = 91; cs = []; whole = refl; like = mark_like 91 refl }
mark_head m.CloseSquare = record { c = 93; cs = []; whole = refl; like = mark_like 93 refl }
mark_head m.OpenCurly = record { c = 123; cs = []; whole = refl; like = mark_like 123 refl }
mark_head m.CloseCurly = record { c = 125; cs = []; whole = refl; like = mark_like 125 refl }
mark_head m.Comma = record { c = 44; cs = []; whole = refl; like = mark_like 44 refl }
mark_head m.Colon = record { c = 58; cs = []; whole = refl; like = mark_like 58 refl }
mark_head m.Semicolon = record { c = 59; cs = []; whole = refl; like = mark_like 59 refl }
mark_head m.Dot = record { c = 46; cs = []; whole = refl; like = mark_like 46 refl }

takes_mark : (x : Mark) (more : Chars) → Takes (lexeme.Token (t.Mark x)) (mark_text x) more (piece_at (mark_text x ++ more))
takes_mark x more =
    let h = mark_head x in
    let r = longest_mark x more in
    let text = mark_text x ++ more in
    let same : text ≡ h.c ∷ (h.cs ++ more) = ap (λ xs. xs ++ more) h.whole in
    let read : piece_at text ≡ Ok (lexeme.Token (t.Mark r.found), length (mark_text r.found)) =
    ap piece_at same ∙ at_mark h.c (h.cs ++ more) h.like
    ∙ ap (λ r. here r >>= (λ p. Ok (lexeme.Token (t.Mark p.0), p.1))) (ap mark_at (sym same) ∙ r.read) in
    let (n, front) = r.front in
    subst (Takes (lexeme.Token (t.Mark x)) (mark_text x) more) (sym read)
    (r.reaches, λ e. ap (λ y. lexeme.Token (t.Mark y)) (mark_same r.found x (front ∙ take_own n text ∙ ap (λ k. take k text) (ap length (sym front) ∙ e) ∙ take_front (mark_text x) more)))

-- ---- white space and comments

at_space : (more : Chars) → piece_at (32 ∷ more) ≡ Ok (lexeme.Blank, 1)
unfolding blank_at
at_space more = refl

at_tab : (more : Chars) → piece_at (9 ∷ more) ≡ Ok (lexeme.Blank, 1)
unfolding blank_at
at_tab more = refl

at_joined : (more : Chars) → piece_at (backslash ∷ newline ∷ more) ≡ Ok (lexeme.Blank, 2)
unfolding blank_at
at_joined more = refl

pub at_comment : (more : Chars) → piece_at (35 ∷ more) ≡ Ok (lexeme.Blank, prefix_len (is_in class.Line) (35 ∷ more))
unfolding blank_at
at_comment more = let some : nat_lt 0 (1 + prefix_len (is_in class.Line) more) ≡ true = lt-ltb 0 (1 + prefix_len (is_in class.Line) more) (omega arith) in rw some refl

takes_comment : (s more : Chars) → IsComment s → Takes lexeme.Blank s more (piece_at (s ++ more))
takes_comment [] more is = let no : 0 ≡ 35 = is.0 in absurd (omega arith)
takes_comment (c ∷ cs) more is =
    subst (Takes lexeme.Blank (c ∷ cs) more) (sym (ap (λ c. piece_at (c ∷ (cs ++ more))) is.0 ∙ at_comment (cs ++ more)))
    (subst (λ d. length (c ∷ cs) ≤ prefix_len (is_in class.Line) (d ∷ (cs ++ more))) is.0 (run_reaches (is_in class.Line) (c ∷ cs) more is.1), λ e. refl)

short_blank : (s fixed more : Chars) → s ≡ fixed → piece_at (fixed ++ more) ≡ Ok (lexeme.Blank, length fixed) → Takes lexeme.Blank s more (piece_at (s ++ more))
short_blank s fixed more is read =
    subst (λ s. Takes lexeme.Blank s more (piece_at (s ++ more))) (sym is) (subst (Takes lexeme.Blank fixed more) (sym read) (omega arith, λ e. refl))

takes_blank : (s more : Chars) → IsBlank s → Takes lexeme.Blank s more (piece_at (s ++ more))
takes_blank s more (inl e) = short_blank s (32 ∷ []) more e (at_space more)
takes_blank s more (inr (inl e)) = short_blank s (9 ∷ []) more e (at_tab more)
takes_blank s more (inr (inr (inl e))) = short_blank s (backslash ∷ newline ∷ []) more e (at_joined more)
takes_blank s more (inr (inr (inr is))) = takes_comment s more is

takes_line : (s more : Chars) → s ≡ newline ∷ [] → Takes lexeme.Line s more (piece_at (s ++ more))
takes_line s more is = subst (λ s. Takes lexeme.Line s more (piece_at (s ++ more))) (sym is) (omega arith, λ e. refl)

-- ---- any piece

takes_token : (token : Token) (s more : Chars) → Spells token s → Takes (lexeme.Token token) s more (piece_at (s ++ more))
takes_token (t.Name n) s more is = takes_word (t.Name n) s more refl is.word (name_token s is.free is.allowed ∙ ap (λ n. Ok (t.Name n)) (sym is.same))
takes_token (t.Word x) s more is = subst (λ s. Takes (lexeme.Token (t.Word x)) s more (piece_at (s ++ more))) (sym is) (takes_word (t.Word x) (keyword_text x) more refl (keyword_word x) (keyword_token x))
takes_token (t.Int v) s more is = let (n, same, number) = is in subst (λ v. Takes (lexeme.Token (t.Int v)) s more (piece_at (s ++ more))) (sym same) (takes_number n s more number)
takes_token (t.Text v) s more is = takes_text s v more is
takes_token (t.Mark x) s more is = subst (λ s. Takes (lexeme.Token (t.Mark x)) s more (piece_at (s ++ more))) (sym is) (takes_mark x more)
takes_token t.Newline s more is = absurd is
takes_token t.Indent s more is = absurd is
takes_token t.Dedent s more is = absurd is
takes_token t.End s more is = absurd is

pub takes : (l : Lexeme) (s more : Chars) → IsWritten l s → Takes l s more (piece_at (s ++ more))
takes lexeme.Blank s more is = takes_blank s more is
takes lexeme.Line s more is = takes_line s more is
takes (lexeme.Token token) s more is = takes_token token s more is

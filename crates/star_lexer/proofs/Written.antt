-- What the reader of a piece answers is so.
use Rattle.std.proofs.Common.{◌≡◌, ℕ, zero, suc, ◌+◌, ◌<◌, ◌≤◌, Bool, true, false, cond, ◌&&◌, ◌||◌, ◌==◌, inl, inr, ⊎_elim, [], ◌∷◌, ◌++◌, length, take, drop, Option, Some, None, Result, Ok, Err, refl, sym, ap, ◌∙◌, subst, length-append, take-append-drop, eqb-true, arith}
use Rattle.std.proofs.lemmas.Bool.Decides.{nat_tests}
use Rattle.std.proofs.lemmas.List.Sums.{prefix_len-le-length}
use Rattle.std.specs.Prelude.{pos, ℤ, nat_le}
use Rattle.std.specs.List.{prefix_len, list_all}
use Rattle.std.proofs.lemmas.List.Prefix.{front_rest}
use Rattle.std.specs.Char.{is_ascii_digit}
use Rattle.star_lexer.specs.declared.chars.Class.TheVariants as class
use Rattle.star_lexer.specs.declared.error.LexKind.{LexKind}
use Rattle.star_lexer.specs.declared.error.LexKind.TheVariants.{BadCharacter, BadIndent, OpenString, BadEscape, BadNumber, WideNumber, ReservedWord, TooNested}
use Rattle.star_lexer.specs.declared.literal.TextFault.TheVariants as f
use Rattle.star_lexer.specs.declared.reserved.Reserved.{Reserved}
use Rattle.star_syntax.specs.declared.token.Keyword.{Keyword}
use Rattle.star_syntax.specs.declared.token.Mark.{Mark}
use Rattle.star_syntax.specs.declared.token.Token.{Token}
use Rattle.star_syntax.specs.declared.token.Token.TheVariants as t
use Rattle.star_lexer.specs.Lexeme.{Lexeme}
use Rattle.star_lexer.specs.Lexeme as lexeme
use Rattle.star_lexer.specs.Words.{keyword_of, reserved_of, reserved_text, mark_text}
use Rattle.star_lexer.specs.declared.literal.Style.{Style}
use Rattle.star_lexer.specs.Chars.{Chars, newline, backslash, letter_r, is_quote, is_in, is_name_start, first}
use Rattle.star_lexer.specs.Flaws.{Read, here, ◌>>=◌}
use Rattle.star_lexer.specs.Numbers.{number, numeral, fits, widest}
use Rattle.star_lexer.specs.Texts.{Inside, is_text_start, delimiter, opening, style_at, far, content, blamed, literal}
use Rattle.star_lexer.specs.Reading.{piece_at, blank_at, word_token, named, mark_at}
use Rattle.star_lexer.specs.Pieces.{piece, is_word, is_opening, IsWritten, Spells, IsWord, IsEmptyText, IsStray, IsFaulty, Apart, parts_spelling}
use Rattle.star_lexer.proofs.Runs.{run_front, run_stops, two, both_true, differs}
use Rattle.star_lexer.proofs.Styles.{style, style_seen, opened, delimiter_some, opening_long}
use Rattle.star_lexer.proofs.Parts.{ContentIs, text_split, parts_alone}
use Rattle.star_lexer.proofs.Literals.{content_is}
use Rattle.star_lexer.proofs.MarkLemmas.{MarkIs, mark_is, mark_short, keyword_found, keyword_own, reserved_found, reserved_own}
use Rattle.star_lexer.proofs.Places.{at_word, at_digit, at_text, at_other, no_blank, unlettered, is_text_char, run}
use Rattle.star_lexer.proofs.Takes.{Takes, wide_long, quote_unnamed}
use Rattle.star_lexer.proofs.Begins.{takes, at_comment, mark_head}
use Rattle.star_lexer.proofs.Whole.{take_front}

abbrev pub ReaderIs : Chars → Read Lexeme → Type 0
ReaderIs text (Ok x) = (0 < x.1) × (x.1 ≤ length text) × IsWritten x.0 (take x.1 text) × Apart (piece x.0 (take x.1 text)) (drop x.1 text)
ReaderIs text (Err bad) = IsFaulty bad text

-- what begins as no text does
apart_by : (l : Lexeme) (s rest : Chars) → (is_word l ≡ true → is_in class.Name (first rest) ≡ false) → is_text_char (first s) ≡ false → Apart (piece l s) rest
apart_by l s rest word plain = record {
  word = word;
  raw = λ e. let no : true ≡ false = sym (ap (λ s. is_text_char (first s)) e) ∙ plain in cc;
  doubled = λ c quoted empty third. doubled_by c quoted empty;
} where
  doubled_by : (c : ℕ) → is_quote c ≡ true → IsEmptyText c s → ⊥
  doubled_by c quoted (inl e) = let one : is_text_char c ≡ false = sym (ap (λ s. is_text_char (first s)) e) ∙ plain in let no : true ≡ false = sym (rw quoted refl) ∙ one in cc
  doubled_by c quoted (inr e) = let no : true ≡ false = sym (ap (λ s. is_text_char (first s)) e) ∙ plain in cc

-- what is no word may stand before anything
unworded : (l : Lexeme) (s rest : Chars) → is_word l ≡ false → is_text_char (first s) ≡ false → Apart (piece l s) rest
unworded l s rest no_word plain = apart_by l s rest (λ h. let no : true ≡ false = sym h ∙ no_word in cc) plain

word_apart : (l : Lexeme) (w rest : Chars) → list_all (is_in class.Name) w ≡ true → is_in class.Name (first rest) ≡ false → is_text_start (w ++ rest) ≡ false → Apart (piece l w) rest
word_apart l w rest all stops bare = record {
  word = λ h. stops;
  raw = λ e. ap (λ w. is_text_start (w ++ rest)) (sym e) ∙ bare;
  doubled = λ c quoted empty third. doubled_by c quoted empty;
} where
  doubled_by : (c : ℕ) → is_quote c ≡ true → IsEmptyText c w → ⊥
  doubled_by c quoted (inl e) = quote_unnamed c quoted (both_true (is_in class.Name c) _ (ap (list_all (is_in class.Name)) (sym e) ∙ all)).0
  doubled_by c quoted (inr e) = quote_unnamed c quoted (both_true (is_in class.Name c) _ (both_true (is_in class.Name letter_r) (list_all (is_in class.Name) (c ∷ c ∷ [])) (ap (list_all (is_in class.Name)) (sym e) ∙ all)).1).0

-- ---- names and keywords

abbrev NamedIs : Chars → Result Token LexKind → Type 0
NamedIs w (Ok token) = Spells token w
NamedIs w (Err ReservedWord) = (x : Reserved) × (reserved_text x ≡ w)
NamedIs w (Err _) = ⊥

named_is : (w : Chars) (o : Option Keyword) (r : Option Reserved) → keyword_of w ≡ o → reserved_of w ≡ r → IsWord w → NamedIs w (named o r w)
named_is w (Some x) r e f word = sym (keyword_found w x e)
named_is w None (Some x) e f word = (x, reserved_found w x f)
named_is w None None e f word = record {
  same = refl;
  word = word;
  free = λ x h. let a : Some x ≡ None = sym (keyword_own x) ∙ ap keyword_of h ∙ e in cc;
  allowed = λ x h. let a : Some x ≡ None = sym (reserved_own x) ∙ ap reserved_of h ∙ f in cc;
}

word_is : (text : Chars) (r : Result Token LexKind) → 0 < run text → is_text_start text ≡ false → IsWord (take (run text) text) → NamedIs (take (run text) text) r → ReaderIs text (here r >>= (λ v. Ok (lexeme.Token v, run text)))
word_is text (Ok token) some bare word is =
    (some, prefix_len-le-length (is_in class.Name) text, is, word_apart (lexeme.Token token) (take (run text) text) (drop (run text) text) word.all (run_stops (is_in class.Name) text refl) (ap is_text_start (take-append-drop (run text) text) ∙ bare))
word_is text (Err ReservedWord) some bare word is =
    let (x, written) = is in
    (take (run text) text, drop (run text) text, x, sym (take-append-drop (run text) text), record { word = word; stops = run_stops (is_in class.Name) text refl }, written, refl)
word_is text (Err BadCharacter) some bare word is = absurd is
word_is text (Err BadIndent) some bare word is = absurd is
word_is text (Err OpenString) some bare word is = absurd is
word_is text (Err BadEscape) some bare word is = absurd is
word_is text (Err BadNumber) some bare word is = absurd is
word_is text (Err WideNumber) some bare word is = absurd is
word_is text (Err TooNested) some bare word is = absurd is

run_some : (c : ℕ) (cs : Chars) → is_in class.Name c ≡ true → (n : ℕ) × (run (c ∷ cs) ≡ suc n)
run_some c cs h = (run cs, rw h (omega arith))

word_first : (c : ℕ) (cs : Chars) (n : ℕ) (m : ℕ) → n ≡ suc m → first (take n (c ∷ cs)) ≡ c
word_first c cs n m e = ap (λ i. first (take i (c ∷ cs))) e

start_named : (c : ℕ) → is_name_start c ≡ true → is_in class.Name c ≡ true
start_named c h = rw h refl

by_word : (c : ℕ) (cs : Chars) → is_text_start (c ∷ cs) ≡ false → is_name_start c ≡ true → ReaderIs (c ∷ cs) (piece_at (c ∷ cs))
by_word c cs bare h =
    let n = run (c ∷ cs) in
    let w = take n (c ∷ cs) in
    let (m, long) = run_some c cs (start_named c h) in
    let word : IsWord w = record { starts = ap is_name_start (word_first c cs n m long) ∙ h; all = run_front (is_in class.Name) (c ∷ cs) } in
    subst (ReaderIs (c ∷ cs)) (sym (at_word c cs bare h))
    (word_is (c ∷ cs) (word_token w) (omega arith) bare word (named_is w (keyword_of w) (reserved_of w) refl refl word))

-- ---- numbers

FitsIs : Option ℕ → Result ℤ LexKind → Type 0
FitsIs o (Ok v) = (n : ℕ) × (v ≡ pos n) × (o ≡ Some n) × (n ≤ widest)
FitsIs o (Err BadNumber) = o ≡ None
FitsIs o (Err WideNumber) = (n : ℕ) × (o ≡ Some n) × (widest < n)
FitsIs o (Err _) = ⊥

fits_by : (n : ℕ) (b : Bool) → nat_le n widest ≡ b → FitsIs (Some n) (cond b (Ok (pos n)) (Err WideNumber))
unfolding FitsIs
fits_by n true e = (n, refl, refl, grind (arith, nat_tests))
fits_by n false e = (n, refl, grind (arith, nat_tests))

fits_is : (o : Option ℕ) → FitsIs o (fits o)
unfolding FitsIs
fits_is None = refl
fits_is (Some n) = fits_by n (nat_le n widest) refl

number_is : (w : Chars) → FitsIs (numeral w) (number w)
unfolding number
number_is w = fits_is (numeral w)

digit_plain : (c : ℕ) → is_ascii_digit c ≡ true → is_text_char c ≡ false
digit_plain c h = rw (differs is_ascii_digit c 34 h refl) (rw (differs is_ascii_digit c 39 h refl) (differs is_ascii_digit c letter_r h refl))

digit_is : (text : Chars) (r : Result ℤ LexKind) → 0 < run text → is_ascii_digit (first (take (run text) text)) ≡ true → FitsIs (numeral (take (run text) text)) r → ReaderIs text (here r >>= (λ v. Ok (lexeme.Token (t.Int v), run text)))
unfolding FitsIs
digit_is text (Ok v) some starts is =
    let (n, same, read, few) = is in
    (some, prefix_len-le-length (is_in class.Name) text, (n, same, record { starts = starts; numeral = read; fits = few }), apart_by (lexeme.Token (t.Int v)) (take (run text) text) (drop (run text) text) (λ h. run_stops (is_in class.Name) text refl) (digit_plain (first (take (run text) text)) starts))
digit_is text (Err BadNumber) some starts is =
    (take (run text) text, drop (run text) text, sym (take-append-drop (run text) text), record { starts = starts; all = run_front (is_in class.Name) text; stops = run_stops (is_in class.Name) text refl }, is, refl)
digit_is text (Err WideNumber) some starts is =
    let (n, read, wide) = is in
    (take (run text) text, drop (run text) text, n, sym (take-append-drop (run text) text), record { starts = starts; all = run_front (is_in class.Name) text; stops = run_stops (is_in class.Name) text refl }, read, wide, refl)
digit_is text (Err BadCharacter) some starts is = absurd is
digit_is text (Err BadIndent) some starts is = absurd is
digit_is text (Err OpenString) some starts is = absurd is
digit_is text (Err BadEscape) some starts is = absurd is
digit_is text (Err TooNested) some starts is = absurd is
digit_is text (Err ReservedWord) some starts is = absurd is

digit_in : (c : ℕ) → is_ascii_digit c ≡ true → is_in class.Name c ≡ true
digit_in c h = grind (arith, nat_tests)

by_digit : (c : ℕ) (cs : Chars) → is_ascii_digit c ≡ true → ReaderIs (c ∷ cs) (piece_at (c ∷ cs))
by_digit c cs h =
    let n = run (c ∷ cs) in
    let (m, long) = run_some c cs (digit_in c h) in
    subst (ReaderIs (c ∷ cs)) (sym (at_digit c cs h))
    (digit_is (c ∷ cs) (number (take n (c ∷ cs))) (omega arith) (ap is_ascii_digit (word_first c cs n m long) ∙ h) (number_is (take n (c ∷ cs))))

-- ---- texts

third_is : (c : ℕ) (rest : Chars) → is_quote c ≡ true → first rest ≡ c → rest ≡ c ∷ drop 1 rest
third_is c [] quoted e = let no : false ≡ true = ap is_quote e ∙ quoted in cc
third_is c (d ∷ ds) quoted e = ap (λ d. d ∷ ds) e

-- a text ends where it ends whatever follows, but for two quotes before a third
text_apart : (v s rest text : Chars) (q : Style) → style_at text ≡ q → text ≡ s ++ rest → length (opening q) + length (delimiter q) ≤ length s → Apart (piece (lexeme.Token (t.Text v)) s) rest
text_apart v s rest text q seen whole long = record {
  word = λ h. let no : false ≡ true = h in cc;
  raw = λ e. let l = ap length e in absurd (omega (arith, l, long, opening_long q, delimiter_some q));
  doubled = λ c quoted empty third. doubled_by c quoted third empty;
} where
  wide : (c : ℕ) (raw : Bool) → style_at text ≡ style c true raw → 6 ≤ length s
  wide c raw e = let six = wide_long c raw text e in omega (arith, six, long, ap (λ q. length (opening q)) seen, ap (λ q. length (delimiter q)) seen)

  doubled_by : (c : ℕ) → is_quote c ≡ true → first rest ≡ c → IsEmptyText c s → ⊥
  doubled_by c quoted third (inl e) =
      let six = wide c false (ap style_at whole ∙ ap (λ s. style_at (s ++ rest)) e ∙ ap (λ rest. style_at (c ∷ c ∷ rest)) (third_is c rest quoted third) ∙ style_seen (style c true false) (drop 1 rest) quoted (λ no. cc)) in
      let l = ap length e in omega (arith, six, l)
  doubled_by c quoted third (inr e) =
      let six = wide c true (ap style_at whole ∙ ap (λ s. style_at (s ++ rest)) e ∙ ap (λ rest. style_at (letter_r ∷ c ∷ c ∷ rest)) (third_is c rest quoted third) ∙ style_seen (style c true true) (drop 1 rest) quoted (λ no. cc)) in
      let l = ap length e in omega (arith, six, l)

text_is : (text xs : Chars) (q : Style) (r : Inside Chars) → style_at text ≡ q → is_quote q.quote ≡ true → text ≡ opening q ++ xs → ContentIs q xs r → ReaderIs text (blamed (far (length (opening q)) r) >>= (λ p. Ok (lexeme.Token (t.Text p.0), p.1)))
text_is text xs q (Ok x) seen quoted whole found =
    let (parts, more, inner, value, long) = found in
    let k = length (opening q) in
    let close = delimiter q in
    let s = opening q ++ (parts_spelling parts ++ close) in
    let split : text ≡ s ++ more = whole ∙ ap (λ xs. opening q ++ xs) inner.whole ∙ sym (text_split s more (opening q) (parts_spelling parts) close refl) in
    let n_is : k + x.1 ≡ length s = omega (arith, long, length-append (opening q) (parts_spelling parts ++ close), length-append (parts_spelling parts) close) in
    let front : take (k + x.1) text ≡ s = ap (λ n. take n text) n_is ∙ ap (take (length s)) split ∙ take_front s more in
    let back : drop (k + x.1) text ≡ more = ap (λ n. drop n text) n_is ∙ ap (drop (length s)) split ∙ front_rest (s ++ more) s more refl in
    let some = delimiter_some q in
    let whole_long = ap length split in (
      omega (arith, some, long),
      omega (arith, whole_long, n_is, length-append s more),
      record { style = q; quoted = quoted; parts = parts; each = parts_alone q parts more inner.each; whole = front; value = value },
      subst (Apart (piece (lexeme.Token (t.Text x.0)) (take (k + x.1) text))) (sym back)
          (subst (λ s. Apart (piece (lexeme.Token (t.Text x.0)) s) more) (sym front)
          (text_apart x.0 s more text q seen split (omega (arith, long, n_is)))),
    )
text_is text xs q (Err (f.Escape, n)) seen quoted whole found =
    let (parts, more, inner, cooked, none, long) = found in
    (q, parts, more, record { quoted = quoted; each = inner.each; whole = whole ∙ ap (λ xs. opening q ++ xs) inner.whole }, cooked, none, omega (arith, long))
text_is text xs q (Err (f.Open, n)) seen quoted whole found =
    let (parts, more, inner, stops) = found in
    (q, parts, more, record { quoted = quoted; each = inner.each; whole = whole ∙ ap (λ xs. opening q ++ xs) inner.whole }, stops, refl)

by_text : (text : Chars) → is_text_start text ≡ true → ReaderIs text (piece_at text)
unfolding literal
by_text text h =
    let q = style_at text in
    let o = opened text h in
    let xs = drop (length (opening q)) text in
    subst (ReaderIs text) (sym (at_text text h)) (text_is text xs q (content q 0 xs) refl o.quoted o.whole (content_is q xs))

-- ---- marks, and what is no piece

take_long : (n : ℕ) (xs : Chars) → length (take n xs) ≡ n → n ≤ length xs
take_long zero xs e = omega arith
take_long (suc n) [] e = absurd (omega arith)
take_long (suc n) (x ∷ xs) e = let h = take_long n xs (omega arith) in omega arith

stray : (c : ℕ) (cs : Chars) → is_opening c ≡ false → piece_at (c ∷ cs) ≡ Err (BadCharacter, 0) → IsStray (c ∷ cs)
stray c cs opening read = record {
  some = λ e. cc;
  opening = opening;
  none = λ q more is whole. (subst (Takes q.lexeme q.spelling more) (ap piece_at (sym whole) ∙ read) (takes q.lexeme q.spelling more is)).1 refl;
}

mark_plain : (x : Mark) → is_text_char (first (mark_text x)) ≡ false
mark_plain x = let h = mark_head x in ap (λ s. is_text_char (first s)) h.whole ∙ rw h.like.quoted (unlettered h.c h.like.start)

mark_piece : (c : ℕ) (cs : Chars) (r : Result (Mark × ℕ) LexKind) → MarkIs (c ∷ cs) r → (r ≡ Err BadCharacter → IsStray (c ∷ cs)) → ReaderIs (c ∷ cs) (here r >>= (λ p. Ok (lexeme.Token (t.Mark p.0), p.1)))
mark_piece c cs (Ok p) is none =
    let s = mark_short p.0 in
    let e = ap length is.1 in
    (omega arith, take_long p.1 (c ∷ cs) (sym e ∙ sym is.0), sym is.1, unworded (lexeme.Token (t.Mark p.0)) (take p.1 (c ∷ cs)) (drop p.1 (c ∷ cs)) refl (ap (λ s. is_text_char (first s)) (sym is.1) ∙ mark_plain p.0))
mark_piece c cs (Err bad) is none = subst (λ bad. IsFaulty (bad, 0) (c ∷ cs)) (sym is) (none (ap Err is), refl)

abbrev marked : Result (Mark × ℕ) LexKind → Read Lexeme
marked r = here r >>= (λ p. Ok (lexeme.Token (t.Mark p.0), p.1))

bad_read : (r : Result (Mark × ℕ) LexKind) → r ≡ Err BadCharacter → marked r ≡ Err (BadCharacter, 0)
bad_read r e = ap marked e

unquoted : (a b : Bool) → (a || b) ≡ false → a ≡ false
unquoted true b h = h
unquoted false b h = refl

by_other : (c : ℕ) (cs : Chars) → (c == newline) ≡ false → blank_at (c ∷ cs) ≡ 0 → is_name_start c ≡ false → is_ascii_digit c ≡ false → is_text_start (c ∷ cs) ≡ false → ReaderIs (c ∷ cs) (piece_at (c ∷ cs))
by_other c cs line blank start digit bare =
    let read = at_other c cs line blank start digit bare in
    subst (ReaderIs (c ∷ cs)) (sym read)
    (mark_piece c cs (mark_at (c ∷ cs)) (mark_is (c ∷ cs)) (λ e. stray c cs (rw start (rw digit (unquoted (is_quote c) _ bare))) (read ∙ bad_read (mark_at (c ∷ cs)) e)))

-- ---- white space, comments and newlines

by_space : (cs : Chars) → ReaderIs (32 ∷ cs) (piece_at (32 ∷ cs))
unfolding blank_at
by_space cs = (omega arith, omega arith, inl refl, unworded lexeme.Blank _ cs refl refl)

by_tab : (cs : Chars) → ReaderIs (9 ∷ cs) (piece_at (9 ∷ cs))
unfolding blank_at
by_tab cs = (omega arith, omega arith, inr (inl refl), unworded lexeme.Blank _ cs refl refl)

by_joined : (cs : Chars) → ReaderIs (backslash ∷ newline ∷ cs) (piece_at (backslash ∷ newline ∷ cs))
unfolding blank_at
by_joined cs = (omega arith, omega arith, inr (inr (inl refl)), unworded lexeme.Blank _ cs refl refl)

by_line : (cs : Chars) → ReaderIs (newline ∷ cs) (piece_at (newline ∷ cs))
by_line cs = (omega arith, omega arith, refl, unworded lexeme.Line _ cs refl refl)

by_comment : (cs : Chars) → ReaderIs (35 ∷ cs) (piece_at (35 ∷ cs))
by_comment cs =
    let n = prefix_len (is_in class.Line) (35 ∷ cs) in
    subst (ReaderIs (35 ∷ cs)) (sym (at_comment cs))
    (omega arith, prefix_len-le-length (is_in class.Line) (35 ∷ cs), inr (inr (inr (comment_first cs, run_front (is_in class.Line) (35 ∷ cs)))), unworded lexeme.Blank (take n (35 ∷ cs)) (drop n (35 ∷ cs)) refl (ap is_text_char (comment_first cs)))
  where
    comment_first : (cs : Chars) → first (take (prefix_len (is_in class.Line) (35 ∷ cs)) (35 ∷ cs)) ≡ 35
    comment_first cs = let e : prefix_len (is_in class.Line) (35 ∷ cs) ≡ suc (prefix_len (is_in class.Line) cs) = omega arith in ap (λ i. first (take i (35 ∷ cs))) e

-- ---- any text

at_head : (c d : ℕ) (cs : Chars) → (c == d) ≡ true → ReaderIs (d ∷ cs) (piece_at (d ∷ cs)) → ReaderIs (c ∷ cs) (piece_at (c ∷ cs))
at_head c d cs e is = subst (λ c. ReaderIs (c ∷ cs) (piece_at (c ∷ cs))) (sym (eqb-true c d e)) is

no_join : (c : ℕ) (cs : Chars) → (c == backslash && first cs == newline) ≡ true → ReaderIs (c ∷ cs) (piece_at (c ∷ cs))
no_join c [] h = let no : false ≡ true = (both_true (c == backslash) false h).1 in cc
no_join c (d ∷ cs) h =
    let (p, q) = both_true (c == backslash) (d == newline) h in
    subst (λ d. ReaderIs (c ∷ d ∷ cs) (piece_at (c ∷ d ∷ cs))) (sym (eqb-true d newline q)) (at_head c backslash (newline ∷ cs) p (by_joined cs))

pub reader_is : (text : Chars) → 0 < length text → ReaderIs text (piece_at text)
reader_is [] some = absurd (omega arith)
reader_is (c ∷ cs) some =
    ⊎_elim (λ e. at_head c newline cs e (by_line cs)) (λ line.
    ⊎_elim (λ e. at_head c 32 cs e (by_space cs)) (λ space.
    ⊎_elim (λ e. at_head c 9 cs e (by_tab cs)) (λ tab.
    ⊎_elim (λ e. at_head c 35 cs e (by_comment cs)) (λ hash.
    ⊎_elim (λ e. no_join c cs e) (λ joined.
    ⊎_elim (λ e. by_text (c ∷ cs) e) (λ bare.
    ⊎_elim (λ e. by_word c cs bare e) (λ start.
    ⊎_elim (λ e. by_digit c cs e) (λ digit. by_other c cs line (no_blank c cs space tab hash joined) start digit bare)
    (two (is_ascii_digit c))) (two (is_name_start c))) (two (is_text_start (c ∷ cs)))) (two (c == backslash && first cs == newline))) (two (c == 35))) (two (c == 9))) (two (c == 32))) (two (c == newline))

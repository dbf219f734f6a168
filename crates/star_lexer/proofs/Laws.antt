-- The reader of a piece is exact.
use Rattle.std.proofs.Common.{◌≡◌, ◌≢◌, ℕ, ◌+◌, ◌<◌, ◌≤◌, Bool, true, false, ◌==◌, inl, inr, List, [], ◌∷◌, ◌++◌, length, take, drop, Option, Some, None, Ok, Err, refl, sym, ap, ◌∙◌, subst, length-append, length-take-le, take-append-drop, append_assoc, ne_eqb, eqb-true, arith, ⊎_elim, ◌||◌, ◌&&◌}
use Rattle.std.proofs.lemmas.List.Prefix.{front_rest}
use Rattle.std.specs.Char.{is_ascii_digit}
use Rattle.std.proofs.lemmas.Bool.Decides.{nat_tests}
use Rattle.star_lexer.specs.declared.chars.Class.TheVariants as class
use Rattle.star_lexer.specs.declared.error.LexKind.{LexKind}
use Rattle.star_lexer.specs.declared.error.LexKind.TheVariants.{BadCharacter, BadIndent, OpenString, BadEscape, BadNumber, WideNumber, ReservedWord, TooNested}
use Rattle.star_lexer.specs.declared.literal.TextFault.{TextFault}
use Rattle.star_lexer.specs.declared.literal.TextFault.TheVariants as f
use Rattle.star_lexer.specs.declared.reserved.Reserved.{Reserved}
use Rattle.star_syntax.specs.declared.token.Keyword.{Keyword}
use Rattle.star_syntax.specs.declared.token.Token.{Token}
use Rattle.star_syntax.specs.declared.token.Token.TheVariants as t
use Rattle.star_lexer.specs.Lexeme.{Lexeme}
use Rattle.star_lexer.specs.Lexeme as lexeme
use Rattle.star_lexer.specs.Words.{keyword_text, reserved_text, mark_text}
use Rattle.star_lexer.specs.declared.literal.Style.{Style}
use Rattle.star_lexer.specs.Chars.{Chars, newline, backslash, letter_r, is_quote, is_in, is_name_start, first, begins}
use Rattle.star_lexer.specs.Flaws.{Read, Flaw, here, ◌>>=◌}
use Rattle.star_lexer.specs.Numbers.{number, numeral, fits, fitting, widest}
use Rattle.star_lexer.specs.Texts.{is_text_start, delimiter, opening, style_at, closes, escape_len, escaped, part_at, far, before, content, blamed, literal}
use Rattle.star_lexer.specs.Reading.{piece_at, word_token}
use Rattle.star_lexer.specs.Pieces.{Piece, piece, is_opening, IsWritten, Stands, IsBlank, Spells, IsStray, IsDigits, IsLongWord, IsFaulty, IsBegun, Part, AreParts, Stops, NoEscape, parts_spelling, parts_value}
use Rattle.star_lexer.proofs.Runs.{run_exact, two, both_true}
use Rattle.star_lexer.proofs.Styles.{style, style_seen, text_starts, delimiter_some, opening_long}
use Rattle.star_lexer.proofs.Contents.{content_refuses}
use Rattle.star_lexer.proofs.Parts.{content_parts}
use Rattle.star_lexer.proofs.Literals.{begins_less}
use Rattle.star_lexer.proofs.MarkLemmas.{mark_short}
use Rattle.star_lexer.proofs.Places.{at_word, at_digit, at_text, run}
use Rattle.star_lexer.proofs.Takes.{Takes, keyword_word, reserved_token, reserved_bare}
use Rattle.star_lexer.proofs.Begins.{takes}
use Rattle.star_lexer.proofs.Whole.{Exact, take_front}
use Rattle.star_lexer.proofs.Digits.{digit_not_start}
use Rattle.star_lexer.proofs.Written.{ReaderIs, reader_is}

-- ---- what is read stands

stands_read : (text : Chars) (l : Lexeme) (n : ℕ) → 0 < length text → piece_at text ≡ Ok (l, n) → (0 < n) × (n ≤ length text) × Stands (piece l (take n text)) (drop n text)
stands_read text l n some read =
    let (long, within, written, apart) = subst (ReaderIs text) read (reader_is text some) in
    let whole = take-append-drop n text in (
      long,
      within,
      record {
        written = written;
        longest = λ q more is e.
            let same : q.spelling ++ more ≡ text = sym e ∙ whole in
            let reach = (subst (Takes q.lexeme q.spelling more) (ap piece_at same ∙ read) (takes q.lexeme q.spelling more is)).0 in
            omega (arith, length-take-le n text within);
        apart = apart;
      },
    )

-- ---- what stands is read

some_first : (f : ℕ → Bool) (s : Chars) → f (first s) ≡ true → f 0 ≡ false → 0 < length s
some_first f [] h fails = let x : false ≡ true = sym fails ∙ h in cc
some_first f (c ∷ cs) h fails = omega arith

keyword_some : (x : Keyword) → 0 < length (keyword_text x)
keyword_some x = some_first is_name_start (keyword_text x) (keyword_word x).starts refl

some_same : (s fixed : Chars) → s ≡ fixed → 0 < length fixed → 0 < length s
some_same s fixed e h = let l = ap length e in omega arith

blank_some : (s : Chars) → IsBlank s → 0 < length s
blank_some s (inl e) = some_same s (32 ∷ []) e (omega arith)
blank_some s (inr (inl e)) = some_same s (9 ∷ []) e (omega arith)
blank_some s (inr (inr (inl e))) = some_same s (backslash ∷ newline ∷ []) e (omega arith)
blank_some s (inr (inr (inr e))) = some_first (λ c. c == 35) s (ap (λ c. c == 35) e.0) refl

token_some : (token : Token) (s : Chars) → Spells token s → 0 < length s
token_some (t.Name n) s is = some_first is_name_start s is.word.starts refl
token_some (t.Word x) s is = some_same s (keyword_text x) is (keyword_some x)
token_some (t.Int v) s is = let (n, same, number) = is in some_first is_ascii_digit s number.starts refl
token_some (t.Text v) s is =
    let q = is.style in
    some_same s (opening q ++ (parts_spelling is.parts ++ delimiter q)) is.whole (omega (arith, opening_long q, delimiter_some q, length-append (opening q) (parts_spelling is.parts ++ delimiter q)))
token_some (t.Mark x) s is = some_same s (mark_text x) is (mark_short x).some
token_some t.Newline s is = absurd is
token_some t.Indent s is = absurd is
token_some t.Dedent s is = absurd is
token_some t.End s is = absurd is

written_some : (l : Lexeme) (s : Chars) → IsWritten l s → 0 < length s
written_some lexeme.Blank s is = blank_some s is
written_some lexeme.Line s is = some_same s (newline ∷ []) is (omega arith)
written_some (lexeme.Token token) s is = token_some token s is

read_by : (p : Piece) (rest : Chars) (r : Read Lexeme) → Stands p rest → piece_at (p.spelling ++ rest) ≡ r → r ≡ Ok (p.lexeme, length p.spelling)
read_by p rest (Err bad) stands e = absurd ((subst (Takes p.lexeme p.spelling rest) e (takes p.lexeme p.spelling rest stands.written)).0 stands.apart)
read_by p rest (Ok x) stands e =
    let text = p.spelling ++ rest in
    let some : 0 < length text = omega (arith, written_some p.lexeme p.spelling stands.written, length-append p.spelling rest) in
    let took = subst (Takes p.lexeme p.spelling rest) e (takes p.lexeme p.spelling rest stands.written) in
    let (long, within, is) = stands_read text x.0 x.1 some e in
    let reach = stands.longest (piece x.0 (take x.1 text)) (drop x.1 text) is.written (sym (take-append-drop x.1 text)) in
    let same : x.1 ≡ length p.spelling = omega (arith, length-take-le x.1 text within, took.0) in
    λ i. Ok (took.1 same i, same i)

-- ---- faulty tokens

digits_read : (w more text : Chars) (o : Option ℕ) (bad : LexKind) → text ≡ w ++ more → IsDigits w more → numeral w ≡ o → fits o ≡ Err bad → (0 < length text) × (piece_at text ≡ Err (bad, 0))
unfolding number
digits_read [] more text o bad whole is e refused = let no : false ≡ true = is.starts in cc
digits_read (c ∷ cs) more text o bad whole is e refused =
    let long = run_exact (is_in class.Name) (c ∷ cs) more is.all is.stops in
    let w_is : take (run (c ∷ (cs ++ more))) (c ∷ (cs ++ more)) ≡ c ∷ cs = ap (λ n. take n (c ∷ (cs ++ more))) long ∙ take_front (c ∷ cs) more in
    let l = ap length whole in
    (omega arith, ap piece_at whole ∙ at_digit c (cs ++ more) is.starts ∙ ap (λ w. here (number w) >>= (λ v. Ok (lexeme.Token (t.Int v), run (c ∷ (cs ++ more))))) w_is ∙ ap (λ r. here r >>= (λ v. Ok (lexeme.Token (t.Int v), run (c ∷ (cs ++ more))))) (ap fits e ∙ refused))

wide_refused : (n : ℕ) → widest < n → fitting n ≡ Err WideNumber
wide_refused n h = grind (arith, nat_tests)

-- ---- faulty texts

-- a quote does not begin what begins otherwise
begins_not : (c : ℕ) (tail more : Chars) → is_quote c ≡ true → is_quote (first more) ≡ false → begins more (c ∷ tail) ≡ false
begins_not c tail [] quoted plain = refl
begins_not c tail (d ∷ ds) quoted plain = rw (ne_eqb d c (λ e. let no : false ≡ true = sym plain ∙ ap is_quote e ∙ quoted in cc)) refl

closes_not : (q : Style) (more : Chars) → is_quote q.quote ≡ true → is_quote (first more) ≡ false → closes q more ≡ false
closes_not q more quoted plain = by_width q.is_wide refl where
  by_width : (wide : Bool) → q.is_wide ≡ wide → closes q more ≡ false
  by_width true e = ap (λ w. closes (style q.quote w q.is_raw) more) e ∙ begins_not q.quote (q.quote ∷ q.quote ∷ []) more quoted plain
  by_width false e = ap (λ w. closes (style q.quote w q.is_raw) more) e ∙ begins_not q.quote [] more quoted plain

not_doubled : (c : ℕ) (text : Chars) → begins text (c ∷ []) ≡ false → begins text (c ∷ c ∷ []) ≡ false
not_doubled c text h = ⊎_elim (λ e. let no : true ≡ false = sym (begins_less c text e) ∙ h in cc) (λ e. e) (two (begins text (c ∷ c ∷ [])))

single_closes : (q : Style) (text : Chars) → q.is_wide ≡ false → closes q text ≡ false → begins text (q.quote ∷ []) ≡ false
single_closes q text single h = ap (λ w. closes (style q.quote w q.is_raw) text) (sym single) ∙ h

begun_single : (q : Style) (parts : List Part) (more : Chars) → is_quote q.quote ≡ true → AreParts q parts more → is_quote (first more) ≡ false → q.is_wide ≡ false → begins (parts_spelling parts ++ more) (q.quote ∷ q.quote ∷ []) ≡ false
begun_single q [] more quoted each plain single = begins_not q.quote (q.quote ∷ []) more quoted plain
begun_single q (p ∷ ps) more quoted each plain single =
    not_doubled q.quote (parts_spelling (p ∷ ps) ++ more) (ap (λ xs. begins xs (q.quote ∷ [])) (append_assoc p.spelling (parts_spelling ps) more) ∙ single_closes q (p.spelling ++ (parts_spelling ps ++ more)) single each.1)

begun_read : (q : Style) (parts : List Part) (more text : Chars) (bad : TextFault) → IsBegun q parts more text → is_quote (first more) ≡ false → content q 0 more ≡ Err (bad, 0) → (0 < length text) × (piece_at text ≡ (blamed (Err (bad, length (opening q) + (length (parts_spelling parts) + 0))) >>= (λ p. Ok (lexeme.Token (t.Text p.0), p.1))))
unfolding literal
begun_read q parts more text bad is plain refused =
    let n = length (opening q) in
    let xs = parts_spelling parts ++ more in
    let seen : style_at text ≡ q = ap style_at is.whole ∙ style_seen q xs is.quoted (begun_single q parts more is.quoted is.each plain) in
    let starts : is_text_start text ≡ true = ap is_text_start is.whole ∙ text_starts q xs is.quoted in
    let inside : content q 0 xs ≡ Err (bad, length (parts_spelling parts) + 0) = content_parts q parts more is.each ∙ ap (λ r. before (parts_value parts) (far (length (parts_spelling parts)) r)) refused in
    let read : literal text ≡ blamed (Err (bad, n + (length (parts_spelling parts) + 0))) =
    ap (λ q. blamed (far (length (opening q)) (content q 0 (drop (length (opening q)) text)))) seen
    ∙ ap (λ text. blamed (far n (content q 0 (drop n text)))) is.whole
    ∙ ap (λ xs. blamed (far n (content q 0 xs))) (front_rest (opening q ++ xs) (opening q) xs refl)
    ∙ ap (λ r. blamed (far n r)) inside in
    let long = ap length is.whole in
    (omega (arith, long, opening_long q, delimiter_some q, length-append (opening q) xs), at_text text starts ∙ ap (λ r. r >>= (λ p. Ok (lexeme.Token (t.Text p.0), p.1))) read)

escape_refused : (q : Style) (more : Chars) → is_quote q.quote ≡ true → q.is_raw ≡ false → NoEscape more → content q 0 (backslash ∷ more) ≡ Err (f.Escape, 0)
unfolding part_at
escape_refused q more quoted cooked none =
    content_refuses q (backslash ∷ more) f.Escape (omega arith) (closes_not q (backslash ∷ more) quoted refl)
    (rw cooked (ap (λ e. escaped e (length (take (escape_len (first more)) more))) (none (take (escape_len (first more)) more) (drop (escape_len (first more)) more) (sym (take-append-drop (escape_len (first more)) more)))))

line_refused : (q : Style) (more : Chars) → is_quote q.quote ≡ true → q.is_wide ≡ false → first more ≡ newline → content q 0 more ≡ Err (f.Open, 0)
unfolding part_at
line_refused q [] quoted single e = refl
line_refused q (c ∷ cs) quoted single e = ap (λ c. content q 0 (c ∷ cs)) e ∙ content_refuses q (newline ∷ cs) f.Open (omega arith) (closes_not q (newline ∷ cs) quoted refl) (rw single refl)

stop_refused : (q : Style) (more : Chars) → is_quote q.quote ≡ true → Stops q more → (is_quote (first more) ≡ false) × (content q 0 more ≡ Err (f.Open, 0))
unfolding part_at
stop_refused q more quoted (inl e) = (ap (λ xs. is_quote (first xs)) e, ap (content q 0) e)
stop_refused q more quoted (inr (inl (single, line))) = (ap is_quote line, line_refused q more quoted single line)
stop_refused q more quoted (inr (inr (raw, e))) = (ap (λ xs. is_quote (first xs)) e, ap (content q 0) e ∙ content_refuses q (backslash ∷ []) f.Open (omega arith) (closes_not q (backslash ∷ []) quoted refl) (rw raw refl))

faulty_there : (text : Chars) (bad : Flaw) → 0 < length text → piece_at text ≡ Err bad → IsFaulty bad text
faulty_there text bad some read = subst (ReaderIs text) read (reader_is text some)

-- a word that is refused
word_refused : (w more text : Chars) (x : Reserved) → text ≡ w ++ more → IsLongWord w more → reserved_text x ≡ w → (0 < length text) × (piece_at text ≡ Err (ReservedWord, 0))
word_refused [] more text x whole is written = let no : false ≡ true = is.word.starts in cc
word_refused (c ∷ cs) more text x whole is written =
    let long = run_exact (is_in class.Name) (c ∷ cs) more is.word.all is.stops in
    let w_is : take (run (c ∷ (cs ++ more))) (c ∷ (cs ++ more)) ≡ c ∷ cs = ap (λ n. take n (c ∷ (cs ++ more))) long ∙ take_front (c ∷ cs) more in
    let l = ap length whole in
    (omega arith, ap piece_at whole ∙ at_word c (cs ++ more) (reserved_bare x c cs more written) is.word.starts ∙ ap (λ w. here (word_token w) >>= (λ v. Ok (lexeme.Token v, run (c ∷ (cs ++ more))))) (w_is ∙ sym written) ∙ ap (λ r. here r >>= (λ v. Ok (lexeme.Token v, run (c ∷ (cs ++ more))))) (reserved_token x))

-- a stray character is not a faulty word, number or text
opens_not : (text : Chars) (w more : Chars) → IsStray text → text ≡ w ++ more → is_opening (first w) ≡ true → ⊥
opens_not text [] more is whole h = let no : false ≡ true = h in cc
opens_not text (c ∷ cs) more is whole h = let no : true ≡ false = sym h ∙ sym (ap (λ xs. is_opening (first xs)) whole) ∙ is.opening in cc

word_opens : (c : ℕ) → is_name_start c ≡ true → is_opening c ≡ true
word_opens c h = rw h refl

digit_opens : (c : ℕ) → is_ascii_digit c ≡ true → is_opening c ≡ true
digit_opens c h = rw (digit_not_start c h) (rw h refl)

quote_opens : (a b : Bool) → (a || (b || true)) ≡ true
quote_opens true b = refl
quote_opens false true = refl
quote_opens false false = refl

text_opens : (c : ℕ) (q r : Bool) → is_quote c ≡ q → (q || (c == letter_r && r)) ≡ true → is_opening c ≡ true
text_opens c true r e h = ap (λ b. is_name_start c || (is_ascii_digit c || b)) e ∙ quote_opens (is_name_start c) (is_ascii_digit c)
text_opens c false r e h = ap is_opening (eqb-true c letter_r (both_true (c == letter_r) r h).0)

begun_opens : (text : Chars) (q : Style) (parts : List Part) (more : Chars) → IsStray text → IsBegun q parts more text → ⊥
begun_opens [] q parts more is begun = absurd (is.some refl)
begun_opens (c ∷ cs) q parts more is begun =
    let starts : is_text_start (c ∷ cs) ≡ true = ap is_text_start begun.whole ∙ text_starts q (parts_spelling parts ++ more) begun.quoted in
    let no : true ≡ false = sym (text_opens c (is_quote c) (is_quote (first cs)) refl starts) ∙ is.opening in cc

stray_by : (text : Chars) (r : Read Lexeme) → 0 < length text → IsStray text → piece_at text ≡ r → r ≡ Err (BadCharacter, 0)
stray_by text (Ok x) some is e =
    let (long, within, stands) = stands_read text x.0 x.1 some e in
    absurd (is.none (piece x.0 (take x.1 text)) (drop x.1 text) stands.written (sym (take-append-drop x.1 text)))
stray_by text (Err (BadCharacter, n)) some is e = let (stray, none) = faulty_there text (BadCharacter, n) some e in ap (λ n. Err (BadCharacter, n)) none
stray_by text (Err (ReservedWord, n)) some is e = let (w, more, x, whole, word, written, none) = faulty_there text (ReservedWord, n) some e in absurd (opens_not text w more is whole (word_opens (first w) word.word.starts))
stray_by text (Err (BadNumber, n)) some is e = let (w, more, whole, digits, bad, none) = faulty_there text (BadNumber, n) some e in absurd (opens_not text w more is whole (digit_opens (first w) digits.starts))
stray_by text (Err (WideNumber, n)) some is e = let (w, more, v, whole, digits, read, wide, none) = faulty_there text (WideNumber, n) some e in absurd (opens_not text w more is whole (digit_opens (first w) digits.starts))
stray_by text (Err (BadEscape, n)) some is e = let (q, parts, more, begun, cooked, none, long) = faulty_there text (BadEscape, n) some e in absurd (begun_opens text q parts (backslash ∷ more) is begun)
stray_by text (Err (OpenString, n)) some is e = let (q, parts, more, begun, stops, none) = faulty_there text (OpenString, n) some e in absurd (begun_opens text q parts more is begun)
stray_by text (Err (BadIndent, n)) some is e = absurd (faulty_there text (BadIndent, n) some e)
stray_by text (Err (TooNested, n)) some is e = absurd (faulty_there text (TooNested, n) some e)

some_text : (text : Chars) → text ≢ [] → 0 < length text
some_text [] h = absurd (h refl)
some_text (c ∷ cs) h = omega arith

-- nothing stands before a fault of the whole token
placed_read : (text : Chars) (kind : LexKind) (n : ℕ) → n ≡ 0 → (0 < length text) × (piece_at text ≡ Err (kind, 0)) → (0 < length text) × (piece_at text ≡ Err (kind, n))
placed_read text kind n e read = (read.0, read.1 ∙ ap (λ n. Err (kind, n)) (sym e))

faulty_read : (text : Chars) (bad : Flaw) → IsFaulty bad text → (0 < length text) × (piece_at text ≡ Err bad)
faulty_read text (BadCharacter, n) is = let (stray, none) = is in let some = some_text text stray.some in placed_read text BadCharacter n none (some, stray_by text (piece_at text) some stray refl)
faulty_read text (ReservedWord, n) is = let (w, more, x, whole, word, written, none) = is in placed_read text ReservedWord n none (word_refused w more text x whole word written)
faulty_read text (BadNumber, n) is = let (w, more, whole, digits, bad, none) = is in placed_read text BadNumber n none (digits_read w more text None BadNumber whole digits bad refl)
faulty_read text (WideNumber, n) is = let (w, more, v, whole, digits, read, wide, none) = is in placed_read text WideNumber n none (digits_read w more text (Some v) WideNumber whole digits read (wide_refused v wide))
faulty_read text (BadEscape, n) is =
    let (q, parts, more, begun, cooked, none, long) = is in
    let (some, read) = begun_read q parts (backslash ∷ more) text f.Escape begun refl (escape_refused q more begun.quoted cooked none) in
    let place : length (opening q) + (length (parts_spelling parts) + 0) ≡ n = omega (arith, long) in
    (some, read ∙ ap (λ n. Err (BadEscape, n)) place)
faulty_read text (OpenString, n) is =
    let (q, parts, more, begun, stops, none) = is in
    let (plain, refused) = stop_refused q more begun.quoted stops in
    placed_read text OpenString n none (begun_read q parts more text f.Open begun plain refused)
faulty_read text (BadIndent, n) is = absurd is
faulty_read text (TooNested, n) is = absurd is

pub exact : Exact
exact = record {
  sound = stands_read;
  faulty = λ text bad some read. subst (ReaderIs text) read (reader_is text some);
  complete = λ p rest stands. (written_some p.lexeme p.spelling stands.written, read_by p rest (piece_at (p.spelling ++ rest)) stands refl);
  refuses = faulty_read;
}

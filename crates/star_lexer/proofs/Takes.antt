-- A piece that begins at a place: the reader takes at least as much.
use Rattle.std.proofs.Common.{◌≡◌, ◌≢◌, ℕ, ◌+◌, ◌≤◌, ◌&&◌, ◌||◌, ◌==◌, Bool, true, false, cond, ◌⊎◌, inl, inr, ⊎_elim, List, [], ◌∷◌, ◌++◌, length, take, drop, Option, Some, None, Result, Ok, Err, refl, sym, ap, ◌∙◌, subst, append_assoc, eqb-true, arith}
use Rattle.std.specs.Prelude.{pos, ℤ, nat_le}
use Rattle.std.specs.List.{prefix_len}
use Rattle.std.proofs.lemmas.Bool.Decides.{nat_tests}
use Rattle.star_lexer.specs.declared.chars.Class.TheVariants as class
use Rattle.star_lexer.specs.declared.error.LexKind.{LexKind}
use Rattle.star_lexer.specs.declared.error.LexKind.TheVariants.{BadCharacter, WideNumber, ReservedWord}
use Rattle.star_lexer.specs.declared.reserved.Reserved.{Reserved}
use Rattle.star_lexer.specs.declared.reserved.Reserved.TheVariants as r
use Rattle.star_syntax.specs.declared.token.Keyword.{Keyword}
use Rattle.star_syntax.specs.declared.token.Keyword.TheVariants as k
use Rattle.star_syntax.specs.declared.token.Token.{Token}
use Rattle.star_syntax.specs.declared.token.Token.TheVariants as t
use Rattle.star_lexer.specs.Lexeme.{Lexeme}
use Rattle.star_lexer.specs.Lexeme as lexeme
use Rattle.star_lexer.specs.Words.{keyword_of, keyword_text, reserved_of, reserved_text}
use Rattle.star_lexer.specs.Chars.{Chars, letter_r, is_quote, is_in, is_name_start, first, begins}
use Rattle.star_lexer.specs.Flaws.{Read, here, ◌>>=◌}
use Rattle.star_lexer.specs.Numbers.{number, numeral, fits, fitting, widest}
use Rattle.star_lexer.specs.Texts.{is_text_start, delimiter, opening, style_at, literal}
use Rattle.star_lexer.specs.Reading.{piece_at, word_token, named}
use Rattle.star_lexer.specs.Pieces.{piece, is_word, IsWord, IsNumber, IsText, IsEmptyText, Apart, Part, AreParts, parts_spelling}
use Rattle.star_lexer.proofs.Runs.{run_reaches, run_exact, both_true, two}
use Rattle.star_lexer.proofs.Styles.{style, quote_cases, style_seen, text_starts, begins_split, delimiter_some, opening_long}
use Rattle.star_lexer.proofs.Parts.{text_read, text_split, parts_before}
use Rattle.star_lexer.proofs.Literals.{literal_long, literal_bad, begins_less}
use Rattle.star_lexer.proofs.Places.{at_word, at_digit, at_text}
use Rattle.star_lexer.proofs.Whole.{take_front, ok_same}
use Rattle.star_lexer.proofs.MarkLemmas.{keyword_found, keyword_own, reserved_found, reserved_own, reserved_free}
use Rattle.star_lexer.proofs.Digits.{numeral_named}

-- what the reader answers where the piece begins
abbrev pub Takes : Lexeme → Chars → Chars → Read Lexeme → Type 0
Takes l s more (Ok x) = (length s ≤ x.1) × (x.1 ≡ length s → x.0 ≡ l)
Takes l s more (Err bad) = (Apart (piece l s) more → ⊥) × (bad.0 ≢ BadCharacter)

abbrev run : Chars → ℕ
run = prefix_len (is_in class.Name)

front_is : (s more : Chars) (n : ℕ) → n ≡ length s → take n (s ++ more) ≡ s
front_is s more n e = ap (λ i. take i (s ++ more)) e ∙ take_front s more

named_bad : (o : Option Keyword) (r : Option Reserved) (w : Chars) (bad : LexKind) → named o r w ≡ Err bad → bad ≢ BadCharacter
named_bad (Some k) r w bad e h = cc
named_bad None (Some r) w bad e h = cc
named_bad None None w bad e h = cc

takes_word_by : (token : Token) (s more : Chars) (r : Result Token LexKind) → is_word (lexeme.Token token) ≡ true → IsWord s → word_token s ≡ Ok token → word_token (take (run (s ++ more)) (s ++ more)) ≡ r → Takes (lexeme.Token token) s more (here r >>= (λ v. Ok (lexeme.Token v, run (s ++ more))))
takes_word_by token s more (Ok v) wordy word is e =
    (run_reaches (is_in class.Name) s more word.all, λ long. ap lexeme.Token (ok_same v token (sym e ∙ ap word_token (front_is s more (run (s ++ more)) long) ∙ is)))
takes_word_by token s more (Err bad) wordy word is e = (
  λ apart.
      let long = run_exact (is_in class.Name) s more word.all (apart.word wordy) in
      let fine : word_token (take (run (s ++ more)) (s ++ more)) ≡ Ok token = ap word_token (front_is s more (run (s ++ more)) long) ∙ is in cc,
  named_bad (keyword_of (take (run (s ++ more)) (s ++ more))) (reserved_of (take (run (s ++ more)) (s ++ more))) (take (run (s ++ more)) (s ++ more)) bad e,
)

-- a text is read where a word begins: the word is `r`
takes_raw_by : (token : Token) (more : Chars) (r : Read Chars) → literal (letter_r ∷ more) ≡ r → is_quote (first more) ≡ true → Takes (lexeme.Token token) (letter_r ∷ []) more (r >>= (λ p. Ok (lexeme.Token (t.Text p.0), p.1)))
takes_raw_by token more (Ok p) e quoted =
    let long = literal_long (letter_r ∷ more) p e in
    let some = delimiter_some (style_at (letter_r ∷ more)) in
    let reach = opening_long (style_at (letter_r ∷ more)) in
    (omega arith, λ short. absurd (omega (arith, short)))
takes_raw_by token more (Err bad) e quoted = (λ apart. let no : true ≡ false = sym quoted ∙ apart.raw refl in cc, literal_bad (letter_r ∷ more) bad e)

-- a quote is no part of a word
pub quote_unnamed : (c : ℕ) → is_quote c ≡ true → is_in class.Name c ≡ true → ⊥
quote_unnamed c quoted named = by_quote (quote_cases c quoted) where
  by_quote : (c ≡ 34) ⊎ (c ≡ 39) → ⊥
  by_quote (inl e) = let no : false ≡ true = sym (ap (is_in class.Name) e) ∙ named in cc
  by_quote (inr e) = let no : false ≡ true = sym (ap (is_in class.Name) e) ∙ named in cc

quote_unlettered : (c : ℕ) → is_quote c ≡ true → is_name_start c ≡ true → ⊥
quote_unlettered c quoted start = quote_unnamed c quoted (rw start refl)

raw_start : (c : ℕ) (text : Chars) → is_name_start c ≡ true → (is_quote c || (c == letter_r && is_quote (first text))) ≡ true → (c ≡ letter_r) × (is_quote (first text) ≡ true)
raw_start c text start h = by_quote (is_quote c) refl h where
  by_quote : (b : Bool) → is_quote c ≡ b → (b || (c == letter_r && is_quote (first text))) ≡ true → (c ≡ letter_r) × (is_quote (first text) ≡ true)
  by_quote true quoted h = absurd (quote_unlettered c quoted start)
  by_quote false quoted h = let (r, q) = both_true (c == letter_r) (is_quote (first text)) h in (eqb-true c letter_r r, q)

takes_raw : (token : Token) (c : ℕ) (cs more : Chars) → IsWord (c ∷ cs) → is_text_start (c ∷ (cs ++ more)) ≡ true → Takes (lexeme.Token token) (c ∷ cs) more (piece_at (c ∷ (cs ++ more)))
takes_raw token c [] more word h =
    let (r, q) = raw_start c more word.starts h in
    subst (λ c. Takes (lexeme.Token token) (c ∷ []) more (piece_at (c ∷ more))) (sym r)
    (subst (Takes (lexeme.Token token) (letter_r ∷ []) more) (sym (at_text (letter_r ∷ more) (subst (λ c. is_text_start (c ∷ more) ≡ true) r h))) (takes_raw_by token more (literal (letter_r ∷ more)) refl q))
takes_raw token c (d ∷ ds) more word h =
    let (r, q) = raw_start c (d ∷ (ds ++ more)) word.starts h in
    absurd (quote_unnamed d q (both_true (is_in class.Name d) _ (both_true (is_in class.Name c) _ word.all).1).0)

pub takes_word : (token : Token) (s more : Chars) → is_word (lexeme.Token token) ≡ true → IsWord s → word_token s ≡ Ok token → Takes (lexeme.Token token) s more (piece_at (s ++ more))
takes_word token [] more wordy word is = let no : false ≡ true = word.starts in cc
takes_word token (c ∷ cs) more wordy word is =
    ⊎_elim (λ h. takes_raw token c cs more word h)
    (λ bare. subst (Takes (lexeme.Token token) (c ∷ cs) more) (sym (at_word c (cs ++ more) bare word.starts))
    (takes_word_by token (c ∷ cs) more (word_token (take (run (c ∷ (cs ++ more))) (c ∷ (cs ++ more)))) wordy word is refl))
    (two (is_text_start (c ∷ (cs ++ more))))

pub keyword_word : (x : Keyword) → IsWord (keyword_text x)
keyword_word k.And = record { starts = refl; all = refl }
keyword_word k.Or = record { starts = refl; all = refl }
keyword_word k.Not = record { starts = refl; all = refl }
keyword_word k.In = record { starts = refl; all = refl }
keyword_word k.If = record { starts = refl; all = refl }
keyword_word k.Elif = record { starts = refl; all = refl }
keyword_word k.Else = record { starts = refl; all = refl }
keyword_word k.For = record { starts = refl; all = refl }
keyword_word k.Def = record { starts = refl; all = refl }
keyword_word k.Return = record { starts = refl; all = refl }
keyword_word k.Break = record { starts = refl; all = refl }
keyword_word k.Continue = record { starts = refl; all = refl }
keyword_word k.Pass = record { starts = refl; all = refl }
keyword_word k.None = record { starts = refl; all = refl }
keyword_word k.True = record { starts = refl; all = refl }
keyword_word k.False = record { starts = refl; all = refl }

pub reserved_word : (x : Reserved) → IsWord (reserved_text x)
reserved_word r.As = record { starts = refl; all = refl }
reserved_word r.Assert = record { starts = refl; all = refl }
reserved_word r.Class = record { starts = refl; all = refl }
reserved_word r.Del = record { starts = refl; all = refl }
reserved_word r.Except = record { starts = refl; all = refl }
reserved_word r.Finally = record { starts = refl; all = refl }
reserved_word r.From = record { starts = refl; all = refl }
reserved_word r.Global = record { starts = refl; all = refl }
reserved_word r.Import = record { starts = refl; all = refl }
reserved_word r.Is = record { starts = refl; all = refl }
reserved_word r.Lambda = record { starts = refl; all = refl }
reserved_word r.Load = record { starts = refl; all = refl }
reserved_word r.Nonlocal = record { starts = refl; all = refl }
reserved_word r.Raise = record { starts = refl; all = refl }
reserved_word r.Try = record { starts = refl; all = refl }
reserved_word r.While = record { starts = refl; all = refl }
reserved_word r.With = record { starts = refl; all = refl }
reserved_word r.Yield = record { starts = refl; all = refl }

reserved_begins : (x : Reserved) (more : Chars) → is_text_start (reserved_text x ++ more) ≡ false
reserved_begins r.As more = refl
reserved_begins r.Assert more = refl
reserved_begins r.Class more = refl
reserved_begins r.Del more = refl
reserved_begins r.Except more = refl
reserved_begins r.Finally more = refl
reserved_begins r.From more = refl
reserved_begins r.Global more = refl
reserved_begins r.Import more = refl
reserved_begins r.Is more = refl
reserved_begins r.Lambda more = refl
reserved_begins r.Load more = refl
reserved_begins r.Nonlocal more = refl
reserved_begins r.Raise more = refl
reserved_begins r.Try more = refl
reserved_begins r.While more = refl
reserved_begins r.With more = refl
reserved_begins r.Yield more = refl

-- no text begins where a reserved word stands
pub reserved_bare : (x : Reserved) (c : ℕ) (cs more : Chars) → reserved_text x ≡ c ∷ cs → is_text_start (c ∷ (cs ++ more)) ≡ false
reserved_bare x c cs more written = ap (λ w. is_text_start (w ++ more)) (sym written) ∙ reserved_begins x more

no_keyword : (s : Chars) (o : Option Keyword) (r : Option Reserved) → keyword_of s ≡ o → reserved_of s ≡ r → ((x : Keyword) → keyword_text x ≢ s) → ((x : Reserved) → reserved_text x ≢ s) → named o r s ≡ Ok (t.Name s)
no_keyword s (Some x) r e f free allowed = absurd (free x (keyword_found s x e))
no_keyword s None (Some x) e f free allowed = absurd (allowed x (reserved_found s x f))
no_keyword s None None e f free allowed = refl

pub name_token : (s : Chars) → ((x : Keyword) → keyword_text x ≢ s) → ((x : Reserved) → reserved_text x ≢ s) → word_token s ≡ Ok (t.Name s)
name_token s free allowed = no_keyword s (keyword_of s) (reserved_of s) refl refl free allowed

pub keyword_token : (x : Keyword) → word_token (keyword_text x) ≡ Ok (t.Word x)
keyword_token x = ap (λ o. named o (reserved_of (keyword_text x)) (keyword_text x)) (keyword_own x)

pub reserved_token : (x : Reserved) → word_token (reserved_text x) ≡ Err ReservedWord
reserved_token x =
    ap (λ o. named o (reserved_of (reserved_text x)) (reserved_text x)) (reserved_free x)
    ∙ ap (λ r. named None r (reserved_text x)) (reserved_own x)

-- ---- numbers

fitting_ok : (n : ℕ) → n ≤ widest → fitting n ≡ Ok (pos n)
fitting_ok n h = grind (arith, nat_tests)

pub number_ok : (s : Chars) (n : ℕ) → IsNumber n s → number s ≡ Ok (pos n)
unfolding number
number_ok s n is = ap fits is.numeral ∙ fitting_ok n is.fits

fitting_bad : (n : ℕ) (bad : LexKind) → fitting n ≡ Err bad → bad ≢ BadCharacter
fitting_bad n bad e h = by_fit (nat_le n widest) n bad e h where
  by_fit : (b : Bool) (n : ℕ) (bad : LexKind) → cond b (Ok (pos n)) (Err WideNumber) ≡ Err bad → bad ≡ BadCharacter → ⊥
  by_fit true n bad e h = cc
  by_fit false n bad e h = cc

number_bad_by : (o : Option ℕ) (bad : LexKind) → fits o ≡ Err bad → bad ≢ BadCharacter
number_bad_by None bad e h = cc
number_bad_by (Some n) bad e h = fitting_bad n bad e h

number_bad : (s : Chars) (bad : LexKind) → number s ≡ Err bad → bad ≢ BadCharacter
unfolding number
number_bad s bad e = number_bad_by (numeral s) bad e

takes_number_by : (n : ℕ) (s more : Chars) (r : Result ℤ LexKind) → IsNumber n s → number (take (run (s ++ more)) (s ++ more)) ≡ r → Takes (lexeme.Token (t.Int (pos n))) s more (here r >>= (λ v. Ok (lexeme.Token (t.Int v), run (s ++ more))))
takes_number_by n s more (Ok v) is e =
    (run_reaches (is_in class.Name) s more (numeral_named s n is.numeral), λ long. ap (λ v. lexeme.Token (t.Int v)) (ok_same v (pos n) (sym e ∙ ap number (front_is s more (run (s ++ more)) long) ∙ number_ok s n is)))
takes_number_by n s more (Err bad) is e = (
  λ apart.
      let long = run_exact (is_in class.Name) s more (numeral_named s n is.numeral) (apart.word refl) in
      let fine : number (take (run (s ++ more)) (s ++ more)) ≡ Ok (pos n) = ap number (front_is s more (run (s ++ more)) long) ∙ number_ok s n is in cc,
  number_bad (take (run (s ++ more)) (s ++ more)) bad e,
)

pub takes_number : (n : ℕ) (s more : Chars) → IsNumber n s → Takes (lexeme.Token (t.Int (pos n))) s more (piece_at (s ++ more))
takes_number n [] more is = let no : false ≡ true = is.starts in cc
takes_number n (c ∷ cs) more is = subst (Takes (lexeme.Token (t.Int (pos n))) (c ∷ cs) more) (sym (at_digit c (cs ++ more) is.starts)) (takes_number_by n (c ∷ cs) more (number (take (run (c ∷ (cs ++ more))) (c ∷ (cs ++ more)))) is refl)

-- ---- texts

-- a text that a third quote follows
doubled_by : (s v more : Chars) (r : Read Chars) → literal (s ++ more) ≡ r → length s ≤ 3 → 6 ≤ length (opening (style_at (s ++ more))) + length (delimiter (style_at (s ++ more))) → (Apart (piece (lexeme.Token (t.Text v)) s) more → ⊥) → Takes (lexeme.Token (t.Text v)) s more (r >>= (λ p. Ok (lexeme.Token (t.Text p.0), p.1)))
doubled_by s v more (Ok p) e short wide apart = let long = literal_long (s ++ more) p e in (omega arith, λ same. absurd (omega (arith, same)))
doubled_by s v more (Err bad) e short wide apart = (apart, literal_bad (s ++ more) bad e)

-- a text in three quotes stands in at least six
pub wide_long : (c : ℕ) (raw : Bool) (text : Chars) → style_at text ≡ style c true raw → 6 ≤ length (opening (style_at text)) + length (delimiter (style_at text))
wide_long c true text e = rw e (omega arith)
wide_long c false text e = rw e (omega arith)

starts_of : (s v more : Chars) → (is : IsText s v) → is_text_start (s ++ more) ≡ true
starts_of s v more is =
    let q = is.style in
    ap is_text_start (text_split s more (opening q) (parts_spelling is.parts) (delimiter q) is.whole) ∙ text_starts q (parts_spelling is.parts ++ (delimiter q ++ more)) is.quoted

-- a text that is read as it is written
takes_seen : (s v more : Chars) → (is : IsText s v) → style_at (s ++ more) ≡ is.style → Takes (lexeme.Token (t.Text v)) s more (piece_at (s ++ more))
takes_seen s v more is seen =
    let read : piece_at (s ++ more) ≡ Ok (lexeme.Token (t.Text v), length s) = at_text (s ++ more) (starts_of s v more is) ∙ ap (λ r. r >>= (λ p. Ok (lexeme.Token (t.Text p.0), p.1))) (text_read s v more is seen) in
    subst (Takes (lexeme.Token (t.Text v)) s more) (sym read) (omega arith, λ e. refl)

-- two quotes before a third
takes_doubled : (c : ℕ) (raw : Bool) (s v more : Chars) → is_quote c ≡ true → s ≡ opening (style c false raw) ++ c ∷ [] → begins more (c ∷ []) ≡ true → is_text_start (s ++ more) ≡ true → Takes (lexeme.Token (t.Text v)) s more (piece_at (s ++ more))
takes_doubled c raw s v more quoted whole third starts =
    subst (Takes (lexeme.Token (t.Text v)) s more) (sym (at_text (s ++ more) starts)) (doubled_by s v more (literal (s ++ more)) refl (short_by raw whole) (wide_long c raw (s ++ more) (wide_by raw whole)) (λ apart. apart.doubled c quoted (empty_by raw whole) (first_is more third))) where
      short_by : (raw : Bool) → s ≡ opening (style c false raw) ++ c ∷ [] → length s ≤ 3
      short_by true e = let l = ap length e in omega (arith, l)
      short_by false e = let l = ap length e in omega (arith, l)

      empty_by : (raw : Bool) → s ≡ opening (style c false raw) ++ c ∷ [] → IsEmptyText c s
      empty_by true e = inr e
      empty_by false e = inl e

      first_is : (more : Chars) → begins more (c ∷ []) ≡ true → first more ≡ c
      first_is more third = ap first (begins_split more (c ∷ []) third)

      wide_by : (raw : Bool) → s ≡ opening (style c false raw) ++ c ∷ [] → style_at (s ++ more) ≡ style c true raw
      wide_by true e = ap (λ s. style_at (s ++ more)) e ∙ ap (λ more. style_at (letter_r ∷ c ∷ c ∷ more)) (begins_split more (c ∷ []) third) ∙ style_seen (style c true true) (drop 1 more) quoted (λ no. cc)
      wide_by false e = ap (λ s. style_at (s ++ more)) e ∙ ap (λ more. style_at (c ∷ c ∷ more)) (begins_split more (c ∷ []) third) ∙ style_seen (style c true false) (drop 1 more) quoted (λ no. cc)

-- the parts of a text in one quote, by whether there are some
takes_single : (s v more : Chars) → (is : IsText s v) (parts : List Part) (raw b : Bool) → is.style ≡ style is.style.quote false raw → parts ≡ is.parts → begins (parts_spelling parts ++ (delimiter is.style ++ more)) (is.style.quote ∷ is.style.quote ∷ []) ≡ b → Takes (lexeme.Token (t.Text v)) s more (piece_at (s ++ more))
takes_single s v more is parts raw false single same double =
    takes_seen s v more is
    (ap style_at (text_split s more (opening is.style) (parts_spelling is.parts) (delimiter is.style) is.whole)
    ∙ style_seen is.style (parts_spelling is.parts ++ (delimiter is.style ++ more)) is.quoted (λ no. ap (λ ps. begins (parts_spelling ps ++ (delimiter is.style ++ more)) (is.style.quote ∷ is.style.quote ∷ [])) (sym same) ∙ double))
takes_single s v more is [] raw true single same double =
    let c = is.style.quote in
    let third : begins more (c ∷ []) ≡ true = third_by c more (delimiter is.style) (ap delimiter single) double in
    takes_doubled c raw s v more is.quoted
    (is.whole ∙ ap (λ ps. opening is.style ++ (parts_spelling ps ++ delimiter is.style)) (sym same) ∙ ap (λ q. opening q ++ delimiter q) single) third (starts_of s v more is) where
      third_by : (c : ℕ) (more close : Chars) → close ≡ c ∷ [] → begins (close ++ more) (c ∷ c ∷ []) ≡ true → begins more (c ∷ []) ≡ true
      third_by c more close e h = (both_true (c == c) (begins more (c ∷ [])) (ap (λ xs. begins (xs ++ more) (c ∷ c ∷ [])) (sym e) ∙ h)).1
takes_single s v more is (p ∷ ps) raw true single same double =
    let q = is.style in
    let each = subst (λ parts. AreParts q parts (delimiter q ++ more)) (sym same) (parts_before q is.parts more is.each) in
    let shut : begins (p.spelling ++ (parts_spelling ps ++ (delimiter q ++ more))) (q.quote ∷ []) ≡ true = begins_less q.quote (p.spelling ++ (parts_spelling ps ++ (delimiter q ++ more))) (ap (λ xs. begins xs (q.quote ∷ q.quote ∷ [])) (sym (append_assoc p.spelling (parts_spelling ps) (delimiter q ++ more))) ∙ double) in
    let no : true ≡ false = sym shut ∙ ap (begins (p.spelling ++ (parts_spelling ps ++ (delimiter q ++ more)))) (sym (ap delimiter single)) ∙ each.1 in cc

pub takes_text : (s v more : Chars) → IsText s v → Takes (lexeme.Token (t.Text v)) s more (piece_at (s ++ more))
takes_text s v more is = by_width is.style.is_wide refl where
  by_width : (wide : Bool) → is.style.is_wide ≡ wide → Takes (lexeme.Token (t.Text v)) s more (piece_at (s ++ more))
  by_width true wide =
      takes_seen s v more is
      (ap style_at (text_split s more (opening is.style) (parts_spelling is.parts) (delimiter is.style) is.whole)
      ∙ style_seen is.style (parts_spelling is.parts ++ (delimiter is.style ++ more)) is.quoted (λ single. let no : true ≡ false = sym wide ∙ single in cc))
  by_width false single =
      takes_single s v more is is.parts is.style.is_raw (begins (parts_spelling is.parts ++ (delimiter is.style ++ more)) (is.style.quote ∷ is.style.quote ∷ [])) (ap (λ w. style is.style.quote w is.style.is_raw) single) refl refl

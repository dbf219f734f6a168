-- What stands at a place, by its first character.
use Rattle.std.proofs.Common.{◌≡◌, ℕ, Bool, true, false, cond, ◌&&◌, ◌||◌, ◌==◌, [], ◌∷◌, take, Result, Ok, Err, refl, sym, ap, ◌∙◌, ne_eqb}
use Rattle.std.specs.List.{prefix_len}
use Rattle.std.specs.Char.{is_ascii_digit}
use Rattle.star_lexer.specs.declared.chars.Class.TheVariants as class
use Rattle.star_syntax.specs.declared.token.Token.{Token}
use Rattle.star_lexer.specs.Lexeme.{Lexeme}
use Rattle.star_syntax.specs.declared.token.Token.TheVariants as t
use Rattle.star_lexer.specs.Lexeme as lexeme
use Rattle.star_lexer.specs.Chars.{Chars, newline, backslash, letter_r, is_quote, is_in, is_name_start, first}
use Rattle.star_lexer.specs.Flaws.{Flaw, Read, here, ◌>>=◌}
use Rattle.star_lexer.specs.Numbers.{number}
use Rattle.star_lexer.specs.Texts.{is_text_start, literal}
use Rattle.star_lexer.specs.Reading.{piece_at, blank_at, token_at, word_token, mark_at}
use Rattle.star_lexer.proofs.Runs.{differs}
use Rattle.star_lexer.proofs.Digits.{digit_not_start}

-- no white space and no comment begins with c
pub record Solid (c : ℕ) : Type 0 where
  pub a : (c == newline) ≡ false
  pub b : (c == 32) ≡ false
  pub d : (c == 9) ≡ false
  pub e : (c == 35) ≡ false
  pub f : (c == backslash) ≡ false

solid_token : (c : ℕ) (cs : Chars) → Solid c → piece_at (c ∷ cs) ≡ (token_at (c ∷ cs) >>= (λ p. Ok (lexeme.Token p.0, p.1)))
unfolding blank_at
solid_token c cs s = rw s.a (rw s.b (rw s.d (rw s.e (rw s.f refl))))

by_test : (f : ℕ → Bool) (c : ℕ) → f c ≡ true → f newline ≡ false → f 32 ≡ false → f 9 ≡ false → f 35 ≡ false → f backslash ≡ false → Solid c
by_test f c h i j k l m = record { a = differs f c newline h i; b = differs f c 32 h j; d = differs f c 9 h k; e = differs f c 35 h l; f = differs f c backslash h m }

choose : Bool → Bool → Bool → Read Token → Read Token → Read Token → Read Token → Read Token
choose q b d w x y z = cond q y (cond b w (cond d x z))

twice : {A B C : Type 0} (r : Result A Flaw) (f : A → B) (g : B → C) → ((r >>= (λ a. Ok (f a))) >>= (λ b. Ok (g b))) ≡ (r >>= (λ a. Ok (g (f a))))
twice (Ok a) f g = refl
twice (Err e) f g = refl

abbrev pub run : Chars → ℕ
run = prefix_len (is_in class.Name)

abbrev word_read : Chars → Read Token
word_read text = here (word_token (take (run text) text)) >>= (λ v. Ok (v, run text))

abbrev number_read : Chars → Read Token
number_read text = here (number (take (run text) text)) >>= (λ v. Ok (t.Int v, run text))

abbrev literal_read : Chars → Read Token
literal_read text = literal text >>= (λ p. Ok (t.Text p.0, p.1))

abbrev mark_read : Chars → Read Token
mark_read text = here (mark_at text) >>= (λ p. Ok (t.Mark p.0, p.1))

token_choice : (text : Chars) (q b d : Bool) → is_text_start text ≡ q → is_name_start (first text) ≡ b → is_ascii_digit (first text) ≡ d → token_at text ≡ choose q b d (word_read text) (number_read text) (literal_read text) (mark_read text)
unfolding token_at choose
token_choice text q b d eq eb ed =
    ap (λ v. choose v (is_name_start (first text)) (is_ascii_digit (first text)) (word_read text) (number_read text) (literal_read text) (mark_read text)) eq
    ∙ ap (λ v. choose q v (is_ascii_digit (first text)) (word_read text) (number_read text) (literal_read text) (mark_read text)) eb
    ∙ ap (λ v. choose q b v (word_read text) (number_read text) (literal_read text) (mark_read text)) ed

abbrev lexed : Read Token → Read Lexeme
lexed r = r >>= (λ p. Ok (lexeme.Token p.0, p.1))

pub at_word : (c : ℕ) (cs : Chars) → is_text_start (c ∷ cs) ≡ false → is_name_start c ≡ true → piece_at (c ∷ cs) ≡ (here (word_token (take (run (c ∷ cs)) (c ∷ cs))) >>= (λ v. Ok (lexeme.Token v, run (c ∷ cs))))
unfolding choose
at_word c cs bare h = solid_token c cs (by_test is_name_start c h refl refl refl refl refl) ∙ ap lexed (token_choice (c ∷ cs) false true (is_ascii_digit c) bare h refl) ∙ twice (here (word_token (take (run (c ∷ cs)) (c ∷ cs)))) (λ v. (v, run (c ∷ cs))) (λ p. (lexeme.Token p.0, p.1))

-- a digit begins no text
pub digit_bare : (c : ℕ) (cs : Chars) → is_ascii_digit c ≡ true → is_text_start (c ∷ cs) ≡ false
digit_bare c cs h = rw (differs is_ascii_digit c 34 h refl) (rw (differs is_ascii_digit c 39 h refl) (rw (differs is_ascii_digit c letter_r h refl) refl))

pub at_digit : (c : ℕ) (cs : Chars) → is_ascii_digit c ≡ true → piece_at (c ∷ cs) ≡ (here (number (take (run (c ∷ cs)) (c ∷ cs))) >>= (λ v. Ok (lexeme.Token (t.Int v), run (c ∷ cs))))
unfolding choose
at_digit c cs h = solid_token c cs (by_test is_ascii_digit c h refl refl refl refl refl) ∙ ap lexed (token_choice (c ∷ cs) false false true (digit_bare c cs h) (digit_not_start c h) h) ∙ twice (here (number (take (run (c ∷ cs)) (c ∷ cs)))) (λ v. (t.Int v, run (c ∷ cs))) (λ p. (lexeme.Token p.0, p.1))

abbrev pub is_text_char : ℕ → Bool
is_text_char c = is_quote c || c == letter_r

text_char : (a b d : Bool) → (a || (b && d)) ≡ true → (a || b) ≡ true
text_char true b d h = refl
text_char false true d h = refl
text_char false false d h = h

pub at_text : (text : Chars) → is_text_start text ≡ true → piece_at text ≡ (literal text >>= (λ p. Ok (lexeme.Token (t.Text p.0), p.1)))
unfolding choose
at_text [] h = let no : false ≡ true = h in cc
at_text (c ∷ cs) h =
    let char = text_char (is_quote c) (c == letter_r) (is_quote (first cs)) h in
    solid_token c cs (by_test is_text_char c char refl refl refl refl refl) ∙ ap lexed (token_choice (c ∷ cs) true (is_name_start c) (is_ascii_digit c) h refl refl) ∙ twice (literal (c ∷ cs)) (λ p. (t.Text p.0, p.1)) (λ p. (lexeme.Token p.0, p.1))

-- a character that begins nothing else
pub record IsMarkLike (c : ℕ) : Type 0 where
  pub solid : Solid c
  pub start : is_name_start c ≡ false
  pub digit : is_ascii_digit c ≡ false
  pub quoted : is_quote c ≡ false

pub unlettered : (c : ℕ) → is_name_start c ≡ false → (c == letter_r) ≡ false
unlettered c h = ne_eqb c letter_r (λ e. let no : false ≡ true = sym h ∙ ap is_name_start e in cc)

bare : (c : ℕ) (cs : Chars) → is_name_start c ≡ false → is_quote c ≡ false → is_text_start (c ∷ cs) ≡ false
bare c cs start quoted = rw quoted (rw (unlettered c start) refl)

pub at_mark : (c : ℕ) (cs : Chars) → IsMarkLike c → piece_at (c ∷ cs) ≡ (here (mark_at (c ∷ cs)) >>= (λ p. Ok (lexeme.Token (t.Mark p.0), p.1)))
unfolding choose
at_mark c cs h = solid_token c cs h.solid ∙ ap lexed (token_choice (c ∷ cs) false false false (bare c cs h.start h.quoted) h.start h.digit) ∙ twice (here (mark_at (c ∷ cs))) (λ p. (t.Mark p.0, p.1)) (λ p. (lexeme.Token p.0, p.1))

-- at a character that begins no white space, comment, word, number or text
pub at_other : (c : ℕ) (cs : Chars) → (c == newline) ≡ false → blank_at (c ∷ cs) ≡ 0 → is_name_start c ≡ false → is_ascii_digit c ≡ false → is_text_start (c ∷ cs) ≡ false → piece_at (c ∷ cs) ≡ (here (mark_at (c ∷ cs)) >>= (λ p. Ok (lexeme.Token (t.Mark p.0), p.1)))
unfolding choose
at_other c cs line blank start digit plain =
    (rw line (rw blank refl)) ∙ ap lexed (token_choice (c ∷ cs) false false false plain start digit) ∙ twice (here (mark_at (c ∷ cs))) (λ p. (t.Mark p.0, p.1)) (λ p. (lexeme.Token p.0, p.1))

pub no_blank : (c : ℕ) (cs : Chars) → (c == 32) ≡ false → (c == 9) ≡ false → (c == 35) ≡ false → (c == backslash && first cs == newline) ≡ false → blank_at (c ∷ cs) ≡ 0
unfolding blank_at
no_blank c cs a b d e = rw a (rw b (rw d (ap (λ v. cond v 2 0) e)))

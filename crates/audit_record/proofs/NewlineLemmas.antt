-- A text of JSON and a newline reads as the text alone.
use Rattle.std.proofs.Common.{◌≡◌, ℕ, ◌≤◌, Bool, true, false, cond, ◌&&◌, List, [], ◌∷◌, ◌++◌, Option, Some, refl, sym, ap, ap₂, ◌∙◌, subst, append_assoc, append-nil, arith}
use Rattle.std.specs.Prelude.{option_and_then}
use Rattle.json.specs.Token.{Token, begin_object, end_object, begin_array, end_array, key, string, number, boolean, null, bad}
use Rattle.json.specs.Word.{ends_word, word}
use Rattle.json.specs.Lex.{Lexeme, token, comma, colon, string_token, lex, between, fresh, punctuate, tokens}
use Rattle.json.specs.Print.{escape, quoted, token_text, begins, ends, print_from, print, IsPrintable, ArePrintable, ArePrintableOrBad}
use Rattle.json.specs.Json as json
use Rattle.json.specs.Tree as tree
use Rattle.json.proofs.Printed.Strings.{content-escape, lex-escape}
use Rattle.json.proofs.Printed.Numbers.{lex-number, in_word-ended}
use Rattle.json.proofs.Printed.Trees.{value-json_tokens, ArePrintable-json_tokens}
use Rattle.json.proofs.Numbered.{ArePrintableOrBad-tokens, value-HasNumbers}
use Rattle.serde_json.specs.Data.{Data}
use Rattle.serde_json.specs.Read.{of_json, max_depth, read}
use Rattle.serde_json.specs.Written.{IsInOrder}

-- the lexemes that a token is printed as
abbrev spelled : Token → List Lexeme
spelled begin_object = token begin_object ∷ []
spelled end_object = token end_object ∷ []
spelled begin_array = token begin_array ∷ []
spelled end_array = token end_array ∷ []
spelled (key s) = token (string s) ∷ colon ∷ []
spelled (string s) = token (string s) ∷ []
spelled (number s) = token (number s) ∷ []
spelled (boolean b) = token (boolean b) ∷ []
spelled null = token null ∷ []
spelled bad = []

abbrev spelled_from : Bool → List Token → List Lexeme
spelled_from later [] = []
spelled_from later (t ∷ ts) = cond (later && begins t) (comma ∷ []) [] ++ (spelled t ++ spelled_from (ends t) ts)

-- what follows a value in a printed text ends a word, be it followed by such a text
ended : (ts : List Token) (r : List ℕ) → ends_word r ≡ true → ends_word (print_from true ts ++ r) ≡ true
unfolding print_from
ended [] r h = h
ended (begin_object ∷ ts) r h = refl
ended (end_object ∷ ts) r h = refl
ended (begin_array ∷ ts) r h = refl
ended (end_array ∷ ts) r h = refl
ended (key s ∷ ts) r h = refl
ended (string s ∷ ts) r h = refl
ended (number s ∷ ts) r h = refl
ended (boolean b ∷ ts) r h = refl
ended (null ∷ ts) r h = refl
ended (bad ∷ ts) r h = refl

lex_string : (s r : List ℕ) → lex between (quoted s ++ r) ≡ token (string s) ∷ lex between r
unfolding lex
lex_string s r =
    ap (λ l. lex between (34 ∷ l)) (append_assoc (escape s) (34 ∷ []) r) ∙ ap₂ (λ o l. token (string_token o) ∷ l) (content-escape s r) (lex-escape s r)

lex_token : (t : Token) (r : List ℕ) → IsPrintable t → (ends t ≡ true → ends_word r ≡ true) → lex between (token_text t ++ r) ≡ spelled t ++ lex between r
unfolding lex word
lex_token begin_object r h e = refl
lex_token end_object r h e = refl
lex_token begin_array r h e = refl
lex_token end_array r h e = refl
lex_token (key s) r h e = ap (lex between) (append_assoc (quoted s) (58 ∷ []) r) ∙ lex_string s (58 ∷ r)
lex_token (string s) r h e = lex_string s r
lex_token (number s) r h e = lex-number s r h (e refl)
lex_token (boolean true) r h e = ap₂ (λ b l. token (cond b (boolean true) bad) ∷ l) (e refl) (in_word-ended r (e refl))
lex_token (boolean false) r h e = ap₂ (λ b l. token (cond b (boolean false) bad) ∷ l) (e refl) (in_word-ended r (e refl))
lex_token null r h e = ap₂ (λ b l. token (cond b null bad) ∷ l) (e refl) (in_word-ended r (e refl))
lex_token bad r h e = absurd h

lex_comma : (b : Bool) (r : List ℕ) → lex between (cond b (44 ∷ []) [] ++ r) ≡ cond b (comma ∷ []) [] ++ lex between r
unfolding lex
lex_comma true r = refl
lex_comma false r = refl

lex_printed : (later : Bool) (ts : List Token) (r : List ℕ) → ArePrintable ts → ends_word r ≡ true → lex between (print_from later ts ++ r) ≡ spelled_from later ts ++ lex between r
unfolding print_from ArePrintable
lex_printed later [] r h e = refl
lex_printed later (t ∷ ts) r h e =
    let rest = print_from (ends t) ts ++ r in
    let comma_text = cond (later && begins t) (44 ∷ []) [] in
    let commas = cond (later && begins t) (comma ∷ []) [] in
    ap (lex between) (append_assoc comma_text (token_text t ++ print_from (ends t) ts) r ∙ ap (λ l. comma_text ++ l) (append_assoc (token_text t) (print_from (ends t) ts) r))
    ∙ lex_comma (later && begins t) (token_text t ++ rest)
    ∙ ap (λ l. commas ++ l) (lex_token t rest h.0 (λ is. ap (λ b. ends_word (print_from b ts ++ r)) is ∙ ended ts r e) ∙ ap (λ l. spelled t ++ l) (lex_printed (ends t) ts r h.1 e))
    ∙ sym (append_assoc commas (spelled t ++ spelled_from (ends t) ts) (lex between r) ∙ ap (λ l. commas ++ l) (append_assoc (spelled t) (spelled_from (ends t) ts) (lex between r)))

nothing_more : lex between (10 ∷ []) ≡ lex between []
unfolding lex
nothing_more = refl

tokens-newline : (ts : List Token) → ArePrintable ts → tokens (print ts ++ 10 ∷ []) ≡ tokens (print ts)
tokens-newline ts h =
    ap (punctuate fresh)
    (lex_printed false ts (10 ∷ []) h refl ∙ ap (λ l. spelled_from false ts ++ l) nothing_more ∙ sym (lex_printed false ts [] h refl) ∙ ap (lex between) (append-nil (print ts)))

same_depth : (n : ℕ) → n ≤ n
same_depth n = omega arith

-- the tokens of a text that stands for a value can be printed
printable : (text : List ℕ) (j : json.Json) → tokens text ≡ tree.json_tokens j → ArePrintable (tree.json_tokens j)
printable text j is =
    let whole = value-json_tokens j (tree.depth j) [] (same_depth (tree.depth j)) in
    ArePrintable-json_tokens j (value-HasNumbers (tree.depth j) (tree.json_tokens j ++ []) [] j (subst ArePrintableOrBad (is ∙ sym (append-nil (tree.json_tokens j))) (ArePrintableOrBad-tokens text)) whole)

abbrev whole : List Token → Option Data
whole ts = option_and_then of_json (option_and_then (λ (p : json.Json × List Token). json.if_last p.0 p.1) (json.value max_depth ts))

-- what a printed text reads as, it reads as with a newline after it
pub read-newline : (text : List ℕ) (d e : Data) → IsInOrder text e → text ≡ print (tokens text) → read text ≡ Some d → read (text ++ 10 ∷ []) ≡ Some d
read-newline text d e order compact is =
    let good = subst ArePrintable (sym order.1) (printable text order.0 order.1) in
    let same : tokens (text ++ 10 ∷ []) ≡ tokens text =
    ap (λ t. tokens (t ++ 10 ∷ [])) compact ∙ tokens-newline (tokens text) good ∙ ap tokens (sym compact) in
    ap whole same ∙ is

-- From the scan to what lex promises.
use Rattle.std.proofs.Common.{◌≡◌, ℕ, ◌⊎◌, inl, inr, List, length, Result, Ok, Err, sym, ap, ◌∙◌, subst, le_refl}
use Rattle.star_lexer.specs.declared.error.LexKind.{LexKind}
use Rattle.star_lexer.specs.declared.error.LexFault.{LexFault}
use Rattle.star_lexer.specs.declared.error.LexFault.TheVariants.{NoMemory, Bad}
use Rattle.star_syntax.specs.declared.token.Spanned.{Spanned}
use Rattle.star_lexer.specs.Chars.{Chars, passed_over}
use Rattle.star_lexer.specs.Layout.{start}
use Rattle.star_lexer.specs.Scan.{Lexed, Lexes, scan}
use Rattle.star_lexer.specs.Tokens.{Tokens, FirstFault}
use Rattle.star_lexer.specs.Lexing.{IsSo, Answers, Refuses, HasTokens, HasFault}
use Rattle.star_lexer.proofs.Whole.{Found, scan_found, tokens_scanned, first_fault_scanned, ok_same, err_same}
use Rattle.star_lexer.proofs.Laws.{exact}
use Rattle.star_lexer.proofs.Balanced.{tokens_balanced}
use Rattle.star_lexer.proofs.Nested.{tokens_shallow, last_end}
use Rattle.star_syntax.specs.Nesting.{IsShallow, IsBalanced, IsEnded}
use Rattle.std.specs.Prelude.{IfOk}

found : (text : Chars) → Found start (passed_over text) (scan start 0 (passed_over text))
found text = scan_found exact (length (passed_over text)) start (passed_over text) (le_refl _)

pub is_so : (text : Chars) (r : Result (List Spanned) LexFault) → Lexes r (scan start 0 (passed_over text)) → IsSo text r
is_so text (Ok x) e = subst (Found start (passed_over text)) e (found text)
is_so text (Err NoMemory) e = tt
is_so text (Err (Bad kind line)) e = subst (Found start (passed_over text)) e (found text)

pub answers : (text : Chars) (r : Result (List Spanned) LexFault) → Lexes r (scan start 0 (passed_over text)) → (list : List Spanned) → Tokens text list → Answers list r
answers text (Ok x) e list is = ok_same x list (sym e ∙ tokens_scanned exact start (passed_over text) list is)
answers text (Err NoMemory) e list is = tt
answers text (Err (Bad kind line)) e list is = let other = tokens_scanned exact start (passed_over text) list is in cc

pub refuses : (text : Chars) (r : Result (List Spanned) LexFault) → Lexes r (scan start 0 (passed_over text)) → (kind : LexKind) (line : ℕ) → FirstFault text kind line → Refuses line kind r
refuses text (Ok x) e kind line is = let other = first_fault_scanned exact start (passed_over text) kind line is in cc
refuses text (Err NoMemory) e kind line is = tt
refuses text (Err (Bad bad place)) e kind line is =
    let same = err_same (bad, place) (kind, line) (sym e ∙ first_fault_scanned exact start (passed_over text) kind line is) in
    (ap (λ (p : LexKind × ℕ). p.0) same, ap (λ (p : LexKind × ℕ). p.1) same)

some_by : (text : Chars) (r : Lexed (List Spanned)) → Found start (passed_over text) r → HasTokens text ⊎ HasFault text
some_by text (Ok list) is = inl (list, is)
some_by text (Err x) is = inr (x.0, x.1, is)

pub some_answer : (text : Chars) → HasTokens text ⊎ HasFault text
some_answer text = some_by text (scan start 0 (passed_over text)) (found text)

pub never_both : (text : Chars) → HasTokens text → HasFault text → ⊥
never_both text a b =
    let (list, is) = a in
    let (kind, line, bad) = b in
    let left = tokens_scanned exact start (passed_over text) list is in
    let right = first_fault_scanned exact start (passed_over text) kind line bad in
    cc

pub one_list : (text : Chars) (a b : List Spanned) → Tokens text a → Tokens text b → a ≡ b
one_list text a b p q = ok_same a b (sym (tokens_scanned exact start (passed_over text) a p) ∙ tokens_scanned exact start (passed_over text) b q)

pub one_fault : (text : Chars) (j k : LexKind) (m n : ℕ) → FirstFault text j m → FirstFault text k n → (j ≡ k) × (m ≡ n)
one_fault text j k m n p q =
    let same = err_same (j, m) (k, n) (sym (first_fault_scanned exact start (passed_over text) j m p) ∙ first_fault_scanned exact start (passed_over text) k n q) in
    (ap (λ (p : LexKind × ℕ). p.0) same, ap (λ (p : LexKind × ℕ). p.1) same)

pub nests : (text : Chars) (r : Result (List Spanned) LexFault) → IsSo text r → IfOk r IsShallow
nests text (Ok x) is = tokens_shallow text x is
nests text (Err e) is = tt

pub balances : (text : Chars) (r : Result (List Spanned) LexFault) → IsSo text r → IfOk r IsBalanced
balances text (Ok x) is = tokens_balanced text x is
balances text (Err e) is = tt

pub closes : (text : Chars) (r : Result (List Spanned) LexFault) → IsSo text r → IfOk r IsEnded
closes text (Ok x) is = last_end text x is
closes text (Err e) is = tt

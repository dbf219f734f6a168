-- The tokens of a text nest at most 32 deep.
use Rattle.std.proofs.Common.{◌≡◌, ℕ, zero, suc, ◌+◌, ◌-◌, ◌<◌, ◌≤◌, ◌==◌, ◌||◌, Bool, true, false, cond, List, [], ◌∷◌, ◌++◌, length, take, replicate, Result, Ok, Err, refl, sym, ap, ◌∙◌, subst, append_assoc, length-append, length-take-le, arith}
use Rattle.std.specs.Prelude.{nat_lt, nat_le}
use Rattle.std.proofs.lemmas.Bool.Decides.{nat_tests}
use Rattle.std.proofs.lemmas.List.Sums.{prefix_len-le-length}
use Rattle.star_lexer.specs.declared.error.LexKind.{LexKind}
use Rattle.star_lexer.specs.declared.error.LexKind.TheVariants.{BadIndent, TooNested}
use Rattle.star_lexer.specs.declared.layout.Layout.{Layout}
use Rattle.star_syntax.specs.declared.token.Mark.{Mark}
use Rattle.star_syntax.specs.declared.token.Mark.TheVariants as m
use Rattle.star_syntax.specs.declared.token.Token.{Token}
use Rattle.star_syntax.specs.declared.token.Token.TheVariants as t
use Rattle.star_lexer.specs.Lexeme.{Lexeme}
use Rattle.star_lexer.specs.Lexeme as lexeme
use Rattle.star_syntax.specs.declared.token.Spanned.{Spanned}
use Rattle.star_lexer.specs.Chars.{Chars}
use Rattle.star_lexer.specs.Layout.{spanned, start, settle, indented, opened, kept, top, bracket, shallower, advanced, ended, line_end, ends, IsNested, most_nested}
use Rattle.star_syntax.specs.Nesting.{Open, after_token, after_all, IsFew, IsShallowFrom, IsShallow}
use Rattle.star_lexer.specs.Pieces.{Piece, Spells, IsWritten}
use Rattle.star_lexer.specs.Scan.{Lexed, at, ◌>>=◌}
use Rattle.star_lexer.specs.Tokens.{IsCut, Laid, step, step_by, lay, Tokens}
use Rattle.star_lexer.proofs.Whole.{split_lay, ok_same}

abbrev pub done : Layout → List Spanned → Result (Layout × List Spanned) LexKind
done s given = Ok (s, given)

abbrev pub laid : Layout → List Spanned → Laid
laid s given = Ok (s, given)

abbrev open_in : Layout → Open
open_in s = (s.depth, length s.columns)

pub shallow_append : (o : Open) (xs ys : List Spanned) → IsShallowFrom o xs → IsShallowFrom (after_all o xs) ys → IsShallowFrom o (xs ++ ys)
shallow_append o [] ys a b = b
shallow_append o (x ∷ xs) ys a b = (a.0, shallow_append (after_token x.token o) xs ys a.1 b)

after_append : (o : Open) (xs ys : List Spanned) → after_all o (xs ++ ys) ≡ after_all (after_all o xs) ys
after_append o [] ys = refl
after_append o (x ∷ xs) ys = after_append (after_token x.token o) xs ys

-- tokens between two layouts
record Leads (s : Layout) (given : List Spanned) (s2 : Layout) : Type 0 where
  shallow : IsShallowFrom (open_in s) given
  after : after_all (open_in s) given ≡ open_in s2
  nested : IsNested s2

joined : (s s2 s3 : Layout) (xs ys : List Spanned) → Leads s xs s2 → Leads s2 ys s3 → Leads s (xs ++ ys) s3
joined s s2 s3 xs ys a b = record {
  shallow = shallow_append (open_in s) xs ys a.shallow (subst (λ o. IsShallowFrom o ys) (sym a.after) b.shallow);
  after = after_append (open_in s) xs ys ∙ ap (λ o. after_all o ys) a.after ∙ b.after;
  nested = b.nested;
}

-- ---- indentation

dedents : (n d c line : ℕ) → n ≤ c → d + c ≤ 32 → IsShallowFrom (d, c) (replicate n (spanned t.Dedent line)) × (after_all (d, c) (replicate n (spanned t.Dedent line)) ≡ (d, c - n))
dedents zero d c line few nested = (tt, let e : c ≡ c - 0 = omega arith in ap (λ c. (d, c)) e)
dedents (suc n) d c line few nested =
    let (a, b) = dedents n d (c - 1) line (omega arith) (omega arith) in
    let e : c - 1 - n ≡ c - suc n = omega arith in
    ((omega arith, a), b ∙ ap (λ c. (d, c)) e)

opened_leads : (s : Layout) (b : Bool) (s2 : Layout) (given : List Spanned) → nat_lt (s.depth + length s.columns) most_nested ≡ b → IsNested s → cond b (done (record s { columns = s.columns ++ s.column ∷ []; is_start = false }) (spanned t.Indent s.line ∷ [])) (Err TooNested) ≡ Ok (s2, given) → Leads s given s2
opened_leads s true s2 given room nested e =
    let less : s.depth + length s.columns < 32 = grind (arith, nat_tests) in
    let long = length-append s.columns (s.column ∷ []) in
    subst (λ (p : Layout × List Spanned). Leads s p.1 p.0) (ok_same _ _ e)
    (record { shallow = (omega arith, tt); after = ap (λ c. (s.depth, c)) (sym long); nested = omega (arith, long) })
opened_leads s false s2 given room nested e = cc

indented_leads : (s : Layout) (k : ℕ) (b d : Bool) (s2 : Layout) (given : List Spanned) → k ≤ length s.columns → IsNested s → cond b (done (record s { columns = take k s.columns; is_start = false }) (replicate (length s.columns - k) (spanned t.Dedent s.line))) (cond d (opened s) (Err BadIndent)) ≡ Ok (s2, given) → Leads s given s2
indented_leads s k true d s2 given few nested e =
    let long = length-take-le k s.columns few in
    let (shallow, after) = dedents (length s.columns - k) s.depth (length s.columns) s.line (omega arith) nested in
    let left : length s.columns - (length s.columns - k) ≡ length (take k s.columns) = omega (arith, long) in
    subst (λ (p : Layout × List Spanned). Leads s p.1 p.0) (ok_same _ _ e)
    (record { shallow = shallow; after = after ∙ ap (λ c. (s.depth, c)) left; nested = omega (arith, long) })
indented_leads s k false true s2 given few nested e = opened_leads s (nat_lt (s.depth + length s.columns) most_nested) s2 given refl nested e
indented_leads s k false false s2 given few nested e = cc

settle_by : (s : Layout) (b d : Bool) (s2 : Layout) (given : List Spanned) → IsNested s → cond b (cond d (Err BadIndent) (indented s (kept s))) (done s []) ≡ Ok (s2, given) → Leads s given s2
settle_by s true true s2 given nested e = cc
settle_by s true false s2 given nested e = indented_leads s (kept s) (top s.columns (kept s) == s.column) (kept s == length s.columns) s2 given (prefix_len-le-length (λ c. nat_le c s.column) s.columns) nested e
settle_by s false d s2 given nested e = subst (λ (p : Layout × List Spanned). Leads s p.1 p.0) (ok_same _ _ e) (record { shallow = tt; after = refl; nested = nested })

settle_leads : (s s2 : Layout) (given : List Spanned) → IsNested s → settle s ≡ Ok (s2, given) → Leads s given s2
unfolding settle
settle_leads s s2 given nested e = settle_by s s.is_start s.is_tabbed s2 given nested e

-- ---- brackets

deeper_leads : (s : Layout) (token : Token) (line : ℕ) (b : Bool) (s2 : Layout) → after_token token (open_in s) ≡ (s.depth + 1, length s.columns) → nat_lt (s.depth + length s.columns) most_nested ≡ b → cond b (Ok (record s { depth = s.depth + 1 })) (Err TooNested) ≡ Ok s2 → Leads s (spanned token line ∷ []) s2
deeper_leads s token line true s2 opens room e =
    let less : s.depth + length s.columns < 32 = grind (arith, nat_tests) in
    subst (Leads s (spanned token line ∷ [])) (ok_same _ _ e) (record { shallow = (subst IsFew (sym opens) (omega arith), tt); after = opens; nested = omega arith })
deeper_leads s token line false s2 opens room e = cc

same_leads : (s s2 s3 : Layout) (token : Token) (line : ℕ) → after_token token (open_in s) ≡ open_in s2 → IsNested s2 → s2 ≡ s3 → Leads s (spanned token line ∷ []) s3
same_leads s s2 s3 token line e nested same = subst (Leads s (spanned token line ∷ [])) same (record { shallow = (subst IsFew (sym e) nested, tt); after = e; nested = nested })

mark_leads : (s s2 : Layout) (x : Mark) (line : ℕ) → IsNested s → bracket s (t.Mark x) ≡ Ok s2 → Leads s (spanned (t.Mark x) line ∷ []) s2
unfolding bracket
mark_leads s s2 m.OpenRound line nested e = deeper_leads s (t.Mark m.OpenRound) line (nat_lt (s.depth + length s.columns) most_nested) s2 refl refl e
mark_leads s s2 m.OpenSquare line nested e = deeper_leads s (t.Mark m.OpenSquare) line (nat_lt (s.depth + length s.columns) most_nested) s2 refl refl e
mark_leads s s2 m.OpenCurly line nested e = deeper_leads s (t.Mark m.OpenCurly) line (nat_lt (s.depth + length s.columns) most_nested) s2 refl refl e
mark_leads s s2 m.CloseCurly line nested e = same_leads s (shallower s) s2 (t.Mark m.CloseCurly) line refl (omega arith) (ok_same _ _ e)
mark_leads s s2 m.CloseRound line nested e = same_leads s (shallower s) s2 (t.Mark m.CloseRound) line refl (omega arith) (ok_same _ _ e)
mark_leads s s2 m.CloseSquare line nested e = same_leads s (shallower s) s2 (t.Mark m.CloseSquare) line refl (omega arith) (ok_same _ _ e)
mark_leads s s2 _ line nested e = same_leads s s s2 _ line refl nested (ok_same _ _ e)

bracket_leads : (s s2 : Layout) (token : Token) (w : Chars) (line : ℕ) → Spells token w → IsNested s → bracket s token ≡ Ok s2 → Leads s (spanned token line ∷ []) s2
unfolding bracket
bracket_leads s s2 (t.Mark x) w line is nested e = mark_leads s s2 x line nested e
bracket_leads s s2 (t.Name n) w line is nested e = same_leads s s s2 (t.Name n) line refl nested (ok_same _ _ e)
bracket_leads s s2 (t.Int n) w line is nested e = same_leads s s s2 (t.Int n) line refl nested (ok_same _ _ e)
bracket_leads s s2 (t.Text n) w line is nested e = same_leads s s s2 (t.Text n) line refl nested (ok_same _ _ e)
bracket_leads s s2 (t.Word n) w line is nested e = same_leads s s s2 (t.Word n) line refl nested (ok_same _ _ e)
bracket_leads s s2 t.Newline w line is nested e = absurd is
bracket_leads s s2 t.Indent w line is nested e = absurd is
bracket_leads s s2 t.Dedent w line is nested e = absurd is
bracket_leads s s2 t.End w line is nested e = absurd is

-- ---- pieces

pub at_ok : {A : Type 0} (line : ℕ) (r : Result A LexKind) (a : A) → at line r ≡ Ok a → r ≡ Ok a
at_ok line (Ok x) a e = let same : x ≡ a = ok_same x a e in ap Ok same
at_ok line (Err k) a e = cc

after_bracket : (s mid s2 : Layout) (token : Token) (w : Chars) (front given : List Spanned) (b : Lexed Layout) → at s.line (bracket mid token) ≡ b → Spells token w → IsNested mid → (b >>= (λ after. laid (advanced after w) (front ++ spanned token s.line ∷ []))) ≡ Ok (s2, given) → Leads s front mid → Leads s given s2
after_bracket s mid s2 token w front given (Ok x) eb is nested e lead =
    let one = bracket_leads mid x token w s.line is nested (at_ok s.line (bracket mid token) x eb) in
    let one2 : Leads mid (spanned token s.line ∷ []) (advanced x w) = record { shallow = one.shallow; after = one.after; nested = one.nested } in
    subst (λ (p : Layout × List Spanned). Leads s p.1 p.0) (ok_same _ _ e) (joined s mid (advanced x w) front (spanned token s.line ∷ []) lead one2)
after_bracket s mid s2 token w front given (Err k) eb is nested e lead = cc

after_settle : (s s2 : Layout) (token : Token) (w : Chars) (given : List Spanned) (m : Lexed (Layout × List Spanned)) → at s.start (settle s) ≡ m → Spells token w → IsNested s → (m >>= (λ settled. at s.line (bracket settled.0 token) >>= (λ after. laid (advanced after w) (settled.1 ++ spanned token s.line ∷ [])))) ≡ Ok (s2, given) → Leads s given s2
after_settle s s2 token w given (Ok a) em is nested e =
    let lead = settle_leads s a.0 a.1 nested (at_ok s.start (settle s) a em) in
    after_bracket s a.0 s2 token w a.1 given (at s.line (bracket a.0 token)) refl is lead.nested e lead
after_settle s s2 token w given (Err k) em is nested e = cc

line_by : (s s2 : Layout) (b : Bool) (line : ℕ) → s2.depth ≡ s.depth → s2.columns ≡ s.columns → IsNested s → Leads s (cond b [] (spanned t.Newline line ∷ [])) s2
line_by s s2 true line d c nested = record { shallow = tt; after = λ i. (sym d i, length (sym c i)); nested = let l = ap length c in omega arith }
line_by s s2 false line d c nested = record { shallow = (nested, tt); after = λ i. (sym d i, length (sym c i)); nested = let l = ap length c in omega arith }

step_leads : (s s2 : Layout) (l : Lexeme) (w : Chars) (given : List Spanned) → IsWritten l w → IsNested s → step_by l s w ≡ Ok (s2, given) → Leads s given s2
step_leads s s2 lexeme.Blank w given is nested e = subst (λ (p : Layout × List Spanned). Leads s p.1 p.0) (ok_same _ _ e) (record { shallow = tt; after = refl; nested = nested })
step_leads s s2 lexeme.Line w given is nested e = subst (λ (p : Layout × List Spanned). Leads s p.1 p.0) (ok_same _ _ e) (line_by s (ended s) (s.is_start || nat_lt 0 s.depth) s.line refl refl nested)
step_leads s s2 (lexeme.Token token) w given is nested e = after_settle s s2 token w given (at s.start (settle s)) refl is nested e

lay_leads : (ps : List Piece) (s last : Layout) (given : List Spanned) (rest : Chars) → IsCut ps rest → IsNested s → lay s ps ≡ Ok (last, given) → Leads s given last
lay_leads [] s last given rest cut nested e = subst (λ (p : Layout × List Spanned). Leads s p.1 p.0) (ok_same _ _ e) (record { shallow = tt; after = refl; nested = nested })
lay_leads (p ∷ ps) s last given rest cut nested e =
    let split = split_lay (step s p) ps last given e in
    let one = step_leads s split.next p.lexeme p.spelling split.front cut.0.written nested split.first_is in
    let more = lay_leads ps split.next last split.more rest cut.1 one.nested split.rest_is in
    subst (λ xs. Leads s xs last) (sym split.whole) (joined s split.next last split.front split.more one more)

-- the tokens at the end
ends_shallow : (s : Layout) → IsNested s → IsShallowFrom (open_in s) (ends s)
unfolding ends
ends_shallow s nested =
    let newline = line_by s s (s.is_start || nat_lt 0 0) s.line refl refl nested in
    let (shallow, after) = dedents (length s.columns) s.depth (length s.columns) s.line (omega arith) nested in
    shallow_append (open_in s) (line_end (record s { depth = 0 }) ++ replicate (length s.columns) (spanned t.Dedent s.line)) (spanned t.End s.line ∷ [])
    (shallow_append (open_in s) (line_end (record s { depth = 0 })) (replicate (length s.columns) (spanned t.Dedent s.line)) newline.shallow (subst (λ o. IsShallowFrom o (replicate (length s.columns) (spanned t.Dedent s.line))) (sym newline.after) shallow))
    (subst IsFew (sym (after_append (open_in s) (line_end (record s { depth = 0 })) (replicate (length s.columns) (spanned t.Dedent s.line)) ∙ ap (λ o. after_all o (replicate (length s.columns) (spanned t.Dedent s.line))) newline.after ∙ after)) (omega (arith, nested)), tt)

pub tokens_shallow : (text : Chars) (list : List Spanned) → Tokens text list → IsShallow list
tokens_shallow text list is =
    let lead = lay_leads is.pieces start is.last is.given [] is.cut (omega arith) is.laid in
    subst IsShallow (sym is.all) (shallow_append (0, 0) is.given (ends is.last) lead.shallow (subst (λ o. IsShallowFrom o (ends is.last)) (sym lead.after) (ends_shallow is.last lead.nested)))

pub last_end : (text : Chars) (list : List Spanned) → Tokens text list → (front : List Spanned) × (line : ℕ) × (list ≡ front ++ spanned t.End line ∷ [])
unfolding ends
last_end text list is =
    let s = is.last in
    let front = line_end (record s { depth = 0 }) ++ replicate (length s.columns) (spanned t.Dedent s.line) in
    (is.given ++ front, s.line, is.all ∙ sym (append_assoc is.given front (spanned t.End s.line ∷ [])))

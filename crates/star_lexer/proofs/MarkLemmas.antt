-- Keywords and marks are found by their spelling, and the longest mark at the front.
use Rattle.std.proofs.Common.{◌≡◌, ◌≢◌, ℕ, zero, suc, ◌<◌, ◌≤◌, Bool, true, false, cond, List, [], ◌∷◌, ◌++◌, length, take, Option, Some, None, Result, Ok, Err, refl, sym, ap, ◌∙◌, length-append, arith}
use Rattle.std.specs.Str.{bytes_eq}
use Rattle.std.proofs.lemmas.Slice.Eq.{bytes_eq-Decides}
use Rattle.star_syntax.specs.declared.token.Keyword.{Keyword}
use Rattle.star_syntax.specs.declared.token.Keyword.TheVariants as k
use Rattle.star_syntax.specs.declared.token.Mark.{Mark}
use Rattle.star_syntax.specs.declared.token.Mark.TheVariants as m
use Rattle.star_lexer.specs.declared.error.LexKind.TheVariants.{BadCharacter}
use Rattle.star_lexer.specs.declared.error.LexKind.{LexKind}
use Rattle.star_lexer.specs.declared.keywords.TheConstants.{KEYWORDS}
use Rattle.star_lexer.specs.declared.marks.TheConstants.{MARKS}
use Rattle.star_lexer.specs.declared.reserved.TheConstants.{RESERVED}
use Rattle.star_lexer.specs.declared.reserved.Reserved.{Reserved}
use Rattle.star_lexer.specs.declared.reserved.Reserved.TheVariants as r
use Rattle.star_lexer.specs.Chars.{Chars}
use Rattle.star_lexer.specs.Reading.{mark_at, mark_len, or_else}
use Rattle.star_lexer.specs.Words.{lookup, keyword_of, keyword_text, reserved_of, reserved_text, mark_of, mark_text}
use Rattle.star_lexer.proofs.Whole.{take_front}

found_by : {X : Type 0} (text : X → Chars) (y : X) (w : Chars) (other : Option X) (x : X) (b : Bool) → bytes_eq (text y) w ≡ b → cond b (Some y) other ≡ Some x → (other ≡ Some x → text x ≡ w) → text x ≡ w
found_by text y w other x true e h more = let same : y ≡ x = cc in ap text (sym same) ∙ (bytes_eq-Decides (text y) w).0 e
found_by text y w other x false e h more = more h

lookup_found : {X : Type 0} (text : X → Chars) (xs : List X) (w : Chars) (x : X) → lookup text xs w ≡ Some x → text x ≡ w
lookup_found text [] w x e = cc
lookup_found text (y ∷ ys) w x e = found_by text y w (lookup text ys w) x (bytes_eq (text y) w) refl e (lookup_found text ys w x)

pub keyword_found : (w : Chars) (x : Keyword) → keyword_of w ≡ Some x → keyword_text x ≡ w
unfolding keyword_of
keyword_found w x e = lookup_found keyword_text KEYWORDS w x e

pub reserved_found : (w : Chars) (x : Reserved) → reserved_of w ≡ Some x → reserved_text x ≡ w
unfolding reserved_of
reserved_found w x e = lookup_found reserved_text RESERVED w x e

pub mark_found : (w : Chars) (x : Mark) → mark_of w ≡ Some x → mark_text x ≡ w
unfolding mark_of
mark_found w x e = lookup_found mark_text MARKS w x e

pub keyword_own : (x : Keyword) → keyword_of (keyword_text x) ≡ Some x
unfolding keyword_of
keyword_own k.And = refl
keyword_own k.Or = refl
keyword_own k.Not = refl
keyword_own k.In = refl
keyword_own k.If = refl
keyword_own k.Elif = refl
keyword_own k.Else = refl
keyword_own k.For = refl
keyword_own k.Def = refl
keyword_own k.Return = refl
keyword_own k.Break = refl
keyword_own k.Continue = refl
keyword_own k.Pass = refl
keyword_own k.None = refl
keyword_own k.True = refl
keyword_own k.False = refl

pub reserved_own : (x : Reserved) → reserved_of (reserved_text x) ≡ Some x
unfolding reserved_of
reserved_own r.As = refl
reserved_own r.Assert = refl
reserved_own r.Class = refl
reserved_own r.Del = refl
reserved_own r.Except = refl
reserved_own r.Finally = refl
reserved_own r.From = refl
reserved_own r.Global = refl
reserved_own r.Import = refl
reserved_own r.Is = refl
reserved_own r.Lambda = refl
reserved_own r.Load = refl
reserved_own r.Nonlocal = refl
reserved_own r.Raise = refl
reserved_own r.Try = refl
reserved_own r.While = refl
reserved_own r.With = refl
reserved_own r.Yield = refl

-- no reserved word is a keyword
pub reserved_free : (x : Reserved) → keyword_of (reserved_text x) ≡ None
unfolding keyword_of
reserved_free r.As = refl
reserved_free r.Assert = refl
reserved_free r.Class = refl
reserved_free r.Del = refl
reserved_free r.Except = refl
reserved_free r.Finally = refl
reserved_free r.From = refl
reserved_free r.Global = refl
reserved_free r.Import = refl
reserved_free r.Is = refl
reserved_free r.Lambda = refl
reserved_free r.Load = refl
reserved_free r.Nonlocal = refl
reserved_free r.Raise = refl
reserved_free r.Try = refl
reserved_free r.While = refl
reserved_free r.With = refl
reserved_free r.Yield = refl

pub mark_own : (x : Mark) → mark_of (mark_text x) ≡ Some x
unfolding mark_of
mark_own m.Plus = refl
mark_own m.Minus = refl
mark_own m.Star = refl
mark_own m.FloorDivide = refl
mark_own m.Percent = refl
mark_own m.Ampersand = refl
mark_own m.Bar = refl
mark_own m.Caret = refl
mark_own m.Tilde = refl
mark_own m.Equal = refl
mark_own m.NotEqual = refl
mark_own m.Less = refl
mark_own m.Greater = refl
mark_own m.AtMost = refl
mark_own m.AtLeast = refl
mark_own m.Assign = refl
mark_own m.PlusAssign = refl
mark_own m.MinusAssign = refl
mark_own m.StarAssign = refl
mark_own m.FloorAssign = refl
mark_own m.PercentAssign = refl
mark_own m.AmpersandAssign = refl
mark_own m.BarAssign = refl
mark_own m.CaretAssign = refl
mark_own m.OpenRound = refl
mark_own m.CloseRound = refl
mark_own m.OpenSquare = refl
mark_own m.CloseSquare = refl
mark_own m.OpenCurly = refl
mark_own m.CloseCurly = refl
mark_own m.Comma = refl
mark_own m.Colon = refl
mark_own m.Semicolon = refl
mark_own m.Dot = refl

pub record IsShort (n : ℕ) : Type 0 where
  pub some : 0 < n
  pub few : n ≤ 3

short : (n : ℕ) → 0 < n → n ≤ 3 → IsShort n
short n a b = record { some = a; few = b }

pub mark_short : (x : Mark) → IsShort (length (mark_text x))
mark_short m.Plus = short 1 (omega arith) (omega arith)
mark_short m.Minus = short 1 (omega arith) (omega arith)
mark_short m.Star = short 1 (omega arith) (omega arith)
mark_short m.FloorDivide = short 2 (omega arith) (omega arith)
mark_short m.Percent = short 1 (omega arith) (omega arith)
mark_short m.Ampersand = short 1 (omega arith) (omega arith)
mark_short m.Bar = short 1 (omega arith) (omega arith)
mark_short m.Caret = short 1 (omega arith) (omega arith)
mark_short m.Tilde = short 1 (omega arith) (omega arith)
mark_short m.Equal = short 2 (omega arith) (omega arith)
mark_short m.NotEqual = short 2 (omega arith) (omega arith)
mark_short m.Less = short 1 (omega arith) (omega arith)
mark_short m.Greater = short 1 (omega arith) (omega arith)
mark_short m.AtMost = short 2 (omega arith) (omega arith)
mark_short m.AtLeast = short 2 (omega arith) (omega arith)
mark_short m.Assign = short 1 (omega arith) (omega arith)
mark_short m.PlusAssign = short 2 (omega arith) (omega arith)
mark_short m.MinusAssign = short 2 (omega arith) (omega arith)
mark_short m.StarAssign = short 2 (omega arith) (omega arith)
mark_short m.FloorAssign = short 3 (omega arith) (omega arith)
mark_short m.PercentAssign = short 2 (omega arith) (omega arith)
mark_short m.AmpersandAssign = short 2 (omega arith) (omega arith)
mark_short m.BarAssign = short 2 (omega arith) (omega arith)
mark_short m.CaretAssign = short 2 (omega arith) (omega arith)
mark_short m.OpenRound = short 1 (omega arith) (omega arith)
mark_short m.CloseRound = short 1 (omega arith) (omega arith)
mark_short m.OpenSquare = short 1 (omega arith) (omega arith)
mark_short m.CloseSquare = short 1 (omega arith) (omega arith)
mark_short m.OpenCurly = short 1 (omega arith) (omega arith)
mark_short m.CloseCurly = short 1 (omega arith) (omega arith)
mark_short m.Comma = short 1 (omega arith) (omega arith)
mark_short m.Colon = short 1 (omega arith) (omega arith)
mark_short m.Semicolon = short 1 (omega arith) (omega arith)
mark_short m.Dot = short 1 (omega arith) (omega arith)

pub mark_same : (x y : Mark) → mark_text x ≡ mark_text y → x ≡ y
mark_same x y e = let a : Some x ≡ Some y = sym (mark_own x) ∙ ap mark_of e ∙ mark_own y in cc

pub take_own : (n : ℕ) (xs : Chars) → take n xs ≡ take (length (take n xs)) xs
take_own zero xs = refl
take_own (suc n) [] = refl
take_own (suc n) (x ∷ xs) = ap (λ ys. x ∷ ys) (take_own n xs)

-- what is read where a mark stands
pub record LongestMark (x : Mark) (text : Chars) : Type 0 where
  pub found : Mark
  pub read : mark_at text ≡ Ok (found, length (mark_text found))
  pub reaches : length (mark_text x) ≤ length (mark_text found)
  pub front : (n : ℕ) × (mark_text found ≡ take n text)

take_least : (n k : ℕ) (xs : Chars) → k ≤ n → k ≤ length xs → k ≤ length (take n xs)
take_least n k [] a b = omega arith
take_least zero k (x ∷ xs) a b = omega arith
take_least (suc n) zero (x ∷ xs) a b = omega arith
take_least (suc n) (suc k) (x ∷ xs) a b = let e = take_least n k xs (omega arith) (omega arith) in omega arith

at_three : (x : Mark) (text : Chars) (n : ℕ) → n ≡ length (mark_text x) → n ≤ length text → mark_of (take n text) ≡ Some x → (a b : Option Mark) → mark_of (take 3 text) ≡ a → mark_of (take 2 text) ≡ b → LongestMark x text
unfolding mark_at
at_three x text n long room own (Some y) b ea eb =
    let e = mark_found (take 3 text) y ea in
    let s = mark_short x in
    record { found = y; read = ap (λ o. mark_len (or_else o (or_else (mark_of (take 2 text)) (mark_of (take 1 text))))) ea; reaches = let r = take_least 3 n text (omega arith) room in let q = ap length e in omega arith; front = (3, e) }
at_three x text n long room own None (Some y) ea eb =
    let e = mark_found (take 2 text) y eb in
    let s = mark_short x in
    let not_three : n ≢ 3 = λ h. let a : Some x ≡ None = sym own ∙ ap (λ i. mark_of (take i text)) h ∙ ea in cc in
    record { found = y; read = ap (λ o. mark_len (or_else o (or_else (mark_of (take 2 text)) (mark_of (take 1 text))))) ea ∙ ap (λ o. mark_len (or_else o (mark_of (take 1 text)))) eb; reaches = let r = take_least 2 n text (omega (arith, not_three)) room in let q = ap length e in omega arith; front = (2, e) }
at_three x text n long room own None None ea eb =
    let s = mark_short x in
    let not_three : n ≢ 3 = λ h. let a : Some x ≡ None = sym own ∙ ap (λ i. mark_of (take i text)) h ∙ ea in cc in
    let not_two : n ≢ 2 = λ h. let a : Some x ≡ None = sym own ∙ ap (λ i. mark_of (take i text)) h ∙ eb in cc in
    let one : n ≡ 1 = omega (arith, not_three, not_two) in
    let own1 : mark_of (take 1 text) ≡ Some x = ap (λ i. mark_of (take i text)) (sym one) ∙ own in
    record { found = x; read = ap (λ o. mark_len (or_else o (or_else (mark_of (take 2 text)) (mark_of (take 1 text))))) ea ∙ ap (λ o. mark_len (or_else o (mark_of (take 1 text)))) eb ∙ ap mark_len own1; reaches = omega arith; front = (1, mark_found (take 1 text) x own1) }

pub longest_mark : (x : Mark) (more : Chars) → LongestMark x (mark_text x ++ more)
longest_mark x more =
    let text = mark_text x ++ more in
    at_three x text (length (mark_text x)) refl (omega (arith, length-append (mark_text x) more)) (ap mark_of (take_front (mark_text x) more) ∙ mark_own x) (mark_of (take 3 text)) (mark_of (take 2 text)) refl refl

-- ---- what the reader of marks answers

abbrev pub MarkIs : Chars → Result (Mark × ℕ) LexKind → Type 0
MarkIs text (Ok p) = (p.1 ≡ length (mark_text p.0)) × (mark_text p.0 ≡ take p.1 text)
MarkIs text (Err bad) = bad ≡ BadCharacter

mark_taken : (x : Mark) (n : ℕ) (text : Chars) → mark_of (take n text) ≡ Some x → mark_text x ≡ take (length (mark_text x)) text
mark_taken x n text e = let f = mark_found (take n text) x e in f ∙ take_own n text ∙ ap (λ k. take k text) (ap length (sym f))

mark_is_by : (text : Chars) (a b c : Option Mark) → mark_of (take 3 text) ≡ a → mark_of (take 2 text) ≡ b → mark_of (take 1 text) ≡ c → MarkIs text (mark_len (or_else a (or_else b c)))
mark_is_by text (Some x) b c ea eb ec = (refl, mark_taken x 3 text ea)
mark_is_by text None (Some x) c ea eb ec = (refl, mark_taken x 2 text eb)
mark_is_by text None None (Some x) ea eb ec = (refl, mark_taken x 1 text ec)
mark_is_by text None None None ea eb ec = refl

pub mark_is : (text : Chars) → MarkIs text (mark_at text)
unfolding mark_at
mark_is text = mark_is_by text (mark_of (take 3 text)) (mark_of (take 2 text)) (mark_of (take 1 text)) refl refl refl

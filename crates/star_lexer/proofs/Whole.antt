-- The scan finds the tokens of a text, or its first fault, and nothing else is one. Stands on what is known of one piece.
use Rattle.std.proofs.Common.{◌≡◌, ℕ, zero, suc, ◌+◌, ◌<◌, ◌≤◌, ◌==◌, Bool, true, false, cond, subst, inl, inr, List, [], ◌∷◌, ◌++◌, length, take, drop, Result, Ok, Err, refl, sym, ap, ◌∙◌, append_assoc, append-nil, take-append-drop, length-drop, length-append, arith}
use Rattle.std.specs.Prelude.{nat_lt}
use Rattle.std.proofs.lemmas.List.Prefix.{front_rest}
use Rattle.star_lexer.specs.declared.error.LexKind.{LexKind}
use Rattle.star_lexer.specs.declared.layout.Layout.{Layout}
use Rattle.star_syntax.specs.declared.token.Spanned.{Spanned}
use Rattle.star_syntax.specs.declared.token.Token.{Token}
use Rattle.star_lexer.specs.Lexeme.{Lexeme}
use Rattle.star_lexer.specs.Lexeme as lexeme
use Rattle.star_lexer.specs.Chars.{Chars, newline, newlines, first}
use Rattle.star_lexer.specs.Reading.{piece_at, blank_at, token_at}
use Rattle.star_lexer.specs.Layout.{spanned, settle, bracket, advanced, passed, ended, line_end, ends}
use Rattle.star_lexer.specs.Pieces.{Piece, piece, spelled, Stands, IsFaulty}
use Rattle.star_lexer.specs.Flaws as reading
use Rattle.star_lexer.specs.Scan.{Lexed, Turn, turn, scan, with_prefix, at, at_place, ◌>>=◌}
use Rattle.star_lexer.specs.Tokens.{IsCut, Laid, step, step_by, behind, lay, TokensFrom, FirstFaultFrom, FaultAt, faulty_token}
use Rattle.star_lexer.proofs.Scans.{scan_turn, prefix-prefix, prefix-nil}

-- a turn of this length
turned : ℕ → Laid → Lexed Turn
turned n a = a >>= (λ p. Ok (record { layout = p.0; given = p.1; len = n }))

-- the place of a piece in a turn, with its tests set apart
choose_piece : Bool → Bool → ℕ → reading.Read Token → reading.Read Lexeme
choose_piece b c k r = cond b (Ok (lexeme.Line, 1)) (cond c (Ok (lexeme.Blank, k)) (reading.◌>>=◌ r (λ p. Ok (lexeme.Token p.0, p.1))))

abbrev Next : Type 0
Next = Lexed Turn

after_token : Layout → Chars → reading.Read Token → Lexed (Layout × List Spanned) → Next
after_token s text r m = m >>= (λ settled. at_place s.line text r >>= (λ read. at s.line (bracket settled.0 read.0) >>= (λ after. Ok (record { layout = advanced after (take read.1 text); given = settled.1 ++ spanned read.0 s.line ∷ []; len = read.1 }))))

choose_turn : Layout → Chars → Bool → Bool → ℕ → reading.Read Token → Next
choose_turn s text b c k r = cond b (Ok (record { layout = ended s; given = line_end s; len = 1 })) (cond c (Ok (record { layout = passed s (take k text); given = []; len = k })) (after_token s text r (at s.start (settle s))))

bracket_case : (s : Layout) (text : Chars) (t : Token) (n : ℕ) (front : List Spanned) (b : Lexed Layout) → (b >>= (λ after. Ok (record { layout = advanced after (take n text); given = front ++ spanned t s.line ∷ []; len = n }))) ≡ turned n (b >>= (λ after. Ok (advanced after (take n text), front ++ spanned t s.line ∷ [])))
unfolding turned
bracket_case s text t n front (Ok b) = refl
bracket_case s text t n front (Err e) = refl

settle_case : (s : Layout) (text : Chars) (t : Token) (n : ℕ) (m : Lexed (Layout × List Spanned)) → after_token s text (Ok (t, n)) m ≡ turned n (m >>= (λ settled. at s.line (bracket settled.0 t) >>= (λ after. Ok (advanced after (take n text), settled.1 ++ spanned t s.line ∷ []))))
unfolding turned after_token
settle_case s text t n (Ok a) = bracket_case s text t n a.1 (at s.line (bracket a.0 t))
settle_case s text t n (Err e) = refl

abbrev okay : {A : Type 0} → (E : Type 0) → A → Result A E
okay E a = Ok a

abbrev bad_of : {E : Type 0} → (A : Type 0) → E → Result A E
bad_of A e = Err e

pub ok_same : {A E : Type 0} (a b : A) → okay E a ≡ okay E b → a ≡ b
ok_same a b e = cc

pub err_same : {A E : Type 0} (a b : E) → bad_of A a ≡ bad_of A b → a ≡ b
err_same a b e = cc

chosen_piece : (s : Layout) (text : Chars) (b c : Bool) (k : ℕ) (r : reading.Read Token) (l : Lexeme) (n : ℕ) → choose_piece b c k r ≡ Ok (l, n) → choose_turn s text b c k r ≡ turned n (step_by l s (take n text))
unfolding choose_piece choose_turn turned
chosen_piece s text true c k r l n e = subst (λ (p : Lexeme × ℕ). choose_turn s text true c k r ≡ turned p.1 (step_by p.0 s (take p.1 text))) (ok_same _ _ e) refl
chosen_piece s text false true k r l n e = subst (λ (p : Lexeme × ℕ). choose_turn s text false true k r ≡ turned p.1 (step_by p.0 s (take p.1 text))) (ok_same _ _ e) refl
chosen_piece s text false false k (Ok p) l n e = subst (λ (q : Lexeme × ℕ). choose_turn s text false false k (Ok p) ≡ turned q.1 (step_by q.0 s (take q.1 text))) (ok_same _ _ e) (settle_case s text p.0 p.1 (at s.start (settle s)))
chosen_piece s text false false k (Err x) l n e = cc

fault_case : (s : Layout) (text : Chars) (k : reading.Flaw) (m : Lexed (Layout × List Spanned)) → after_token s text (Err k) m ≡ turned 0 (m >>= (λ settled. Err (k.0, s.line + newlines (take k.1 text))))
unfolding turned after_token
fault_case s text k (Ok a) = refl
fault_case s text k (Err e) = refl

chosen_fault : (s : Layout) (text : Chars) (b c : Bool) (k : ℕ) (r : reading.Read Token) (bad : reading.Flaw) → choose_piece b c k r ≡ Err bad → choose_turn s text b c k r ≡ turned 0 (faulty_token s text bad)
unfolding choose_piece choose_turn
chosen_fault s text true c k r bad e = cc
chosen_fault s text false true k r bad e = cc
chosen_fault s text false false k (Ok p) bad e = cc
chosen_fault s text false false k (Err x) bad e = fault_case s text x (at s.start (settle s)) ∙ ap (λ y. turned 0 (faulty_token s text y)) (err_same _ _ e)

turn_piece : (s : Layout) (text : Chars) (l : Lexeme) (n : ℕ) → piece_at text ≡ Ok (l, n) → turn s text ≡ turned n (step_by l s (take n text))
unfolding turn choose_piece choose_turn after_token
turn_piece s text l n e = chosen_piece s text (first text == newline) (nat_lt 0 (blank_at text)) (blank_at text) (token_at text) l n e

turn_fault : (s : Layout) (text : Chars) (bad : reading.Flaw) → piece_at text ≡ Err bad → turn s text ≡ turned 0 (faulty_token s text bad)
unfolding turn choose_piece choose_turn after_token
turn_fault s text bad e = chosen_fault s text (first text == newline) (nat_lt 0 (blank_at text)) (blank_at text) (token_at text) bad e

-- a turn that gives tokens, or a fault
step_ok : (s s2 : Layout) (given : List Spanned) (text : Chars) (l : Lexeme) (n : ℕ) → piece_at text ≡ Ok (l, n) → step_by l s (take n text) ≡ Ok (s2, given) → turn s text ≡ Ok (record { layout = s2; given = given; len = n })
unfolding turned
step_ok s s2 given text l n read e = turn_piece s text l n read ∙ ap (turned n) e

step_err : (s : Layout) (text : Chars) (l : Lexeme) (n : ℕ) (x : LexKind × ℕ) → piece_at text ≡ Ok (l, n) → step_by l s (take n text) ≡ Err x → turn s text ≡ Err x
unfolding turned
step_err s text l n x read e = turn_piece s text l n read ∙ ap (turned n) e

fault_err : (s : Layout) (text : Chars) (bad : reading.Flaw) (x : LexKind × ℕ) → piece_at text ≡ Err bad → faulty_token s text bad ≡ Err x → turn s text ≡ Err x
unfolding turned
fault_err s text bad x read e = turn_fault s text bad read ∙ ap (turned 0) e

scan_stops : (s : Layout) (text : Chars) (x : LexKind × ℕ) → 0 < length text → turn s text ≡ Err x → scan s 0 text ≡ Err x
scan_stops s [] x some e = absurd (omega arith)
scan_stops s (c ∷ cs) x some e = rw e refl

refused : (m : Lexed (Layout × List Spanned)) (x : LexKind × ℕ) → (y : LexKind × ℕ) × ((m >>= (λ settled. bad_of (Layout × List Spanned) x)) ≡ Err y)
refused (Ok a) x = (x, refl)
refused (Err e) x = (e, refl)

-- what the scan answers
abbrev pub Found : Layout → Chars → Lexed (List Spanned) → Type 0
Found s text (Ok list) = TokensFrom s text list
Found s text (Err x) = FirstFaultFrom s text x.0 x.1

-- what is known of one piece
pub record Exact : Type 0 where
  pub sound : (text : Chars) (l : Lexeme) (n : ℕ) → 0 < length text → piece_at text ≡ Ok (l, n) → (0 < n) × (n ≤ length text) × Stands (piece l (take n text)) (drop n text)
  pub faulty : (text : Chars) (bad : reading.Flaw) → 0 < length text → piece_at text ≡ Err bad → IsFaulty bad text
  pub complete : (p : Piece) (rest : Chars) → Stands p rest → (0 < length p.spelling) × (piece_at (p.spelling ++ rest) ≡ Ok (p.lexeme, length p.spelling))
  pub refuses : (text : Chars) (bad : reading.Flaw) → IsFaulty bad text → (0 < length text) × (piece_at text ≡ Err bad)

extend : (s s2 : Layout) (p : Piece) (rest : Chars) (given : List Spanned) (r : Lexed (List Spanned)) → Stands p rest → step s p ≡ Ok (s2, given) → Found s2 rest r → Found s (p.spelling ++ rest) (with_prefix given r)
extend s s2 p rest given (Ok list) stands e found = record {
  pieces = p ∷ found.pieces;
  whole = ap (λ xs. p.spelling ++ xs) found.whole;
  cut = (subst (Stands p) (found.whole ∙ sym (append-nil (spelled found.pieces))) stands, found.cut);
  last = found.last;
  given = given ++ found.given;
  laid = ap (λ a. a >>= (λ a. behind a.1 (lay a.0 found.pieces))) e ∙ ap (behind given) found.laid;
  all = ap (λ xs. given ++ xs) found.all ∙ sym (append_assoc given found.given (ends found.last));
}
extend s s2 p rest given (Err x) stands e found = record {
  pieces = p ∷ found.pieces;
  rest = found.rest;
  whole = ap (λ xs. p.spelling ++ xs) found.whole ∙ sym (append_assoc p.spelling (spelled found.pieces) found.rest);
  cut = (subst (Stands p) found.whole stands, found.cut);
  last = found.last;
  given = given ++ found.given;
  laid = ap (λ a. a >>= (λ a. behind a.1 (lay a.0 found.pieces))) e ∙ ap (behind given) found.laid;
  fault = found.fault;
}

pub take_front : {A : Type 0} (xs ys : List A) → take (length xs) (xs ++ ys) ≡ xs
take_front [] ys = refl
take_front (x ∷ xs) ys = ap (λ zs. x ∷ zs) (take_front xs ys)

split_behind : (front : List Spanned) (b : Laid) (last : Layout) (given : List Spanned) → behind front b ≡ Ok (last, given) → (more : List Spanned) × (b ≡ Ok (last, more)) × (given ≡ front ++ more)
split_behind front (Ok b) last given e =
    let same = ok_same (b.0, front ++ b.1) (last, given) e in
    (b.1, ap (λ x. Ok (x, b.1)) (ap (λ (q : Layout × List Spanned). q.0) same), sym (ap (λ (q : Layout × List Spanned). q.1) same))
split_behind front (Err x) last given e = cc

pub record Split (a : Laid) (ps : List Piece) (last : Layout) (given : List Spanned) : Type 0 where
  pub next : Layout
  pub front : List Spanned
  pub more : List Spanned
  pub first_is : a ≡ Ok (next, front)
  pub rest_is : lay next ps ≡ Ok (last, more)
  pub whole : given ≡ front ++ more

pub split_lay : (a : Laid) (ps : List Piece) (last : Layout) (given : List Spanned) → (a >>= (λ a. behind a.1 (lay a.0 ps))) ≡ Ok (last, given) → Split a ps last given
split_lay (Ok a) ps last given e = let (more, is, whole) = split_behind a.1 (lay a.0 ps) last given e in record { next = a.0; front = a.1; more = more; first_is = refl; rest_is = is; whole = whole }
split_lay (Err x) ps last given e = cc

module _ (exact : Exact) where
  by_step : (s : Layout) (text : Chars) (l : Lexeme) (n : ℕ) (a : Laid) → 0 < length text → piece_at text ≡ Ok (l, n) → step_by l s (take n text) ≡ a → ((s2 : Layout) → Found s2 (drop n text) (scan s2 0 (drop n text))) → Found s text (scan s 0 text)
  by_step s text l n (Ok a) some read e more =
      let (long, within, stands) = exact.sound text l n some read in
      let go = scan_turn s a.0 a.1 n text some long (step_ok s a.0 a.1 text l n read e) in
      subst (Found s text) (sym go) (subst (λ xs. Found s xs (with_prefix a.1 (scan a.0 0 (drop n text)))) (take-append-drop n text) (extend s a.0 (piece l (take n text)) (drop n text) a.1 (scan a.0 0 (drop n text)) stands e (more a.0)))
  by_step s text l n (Err x) some read e more =
      let (long, within, stands) = exact.sound text l n some read in
      subst (Found s text) (sym (scan_stops s text x some (step_err s text l n x read e)))
      (record { pieces = []; rest = text; whole = refl; cut = tt; last = s; given = []; laid = refl; fault = inl (piece l (take n text), drop n text, sym (take-append-drop n text), stands, e) })

  by_piece : (s : Layout) (text : Chars) (r : reading.Read Lexeme) → 0 < length text → piece_at text ≡ r → ((n : ℕ) → 0 < n → (s2 : Layout) → Found s2 (drop n text) (scan s2 0 (drop n text))) → Found s text (scan s 0 text)
  by_piece s text (Ok p) some read more = by_step s text p.0 p.1 (step_by p.0 s (take p.1 text)) some read refl (more p.1 (exact.sound text p.0 p.1 some read).0)
  by_piece s text (Err bad) some read more =
      let (x, e) = refused (at s.start (settle s)) (bad.0, s.line + newlines (take bad.1 text)) in
      subst (Found s text) (sym (scan_stops s text x some (fault_err s text bad x read e)))
      (record { pieces = []; rest = text; whole = refl; cut = tt; last = s; given = []; laid = refl; fault = inr (bad, exact.faulty text bad some read, e) })

  -- what the scan answers is so
  pub scan_found : (bound : ℕ) (s : Layout) (text : Chars) → length text ≤ bound → Found s text (scan s 0 text)
  scan_found bound s [] few = record { pieces = []; whole = refl; cut = tt; last = s; given = []; laid = refl; all = refl }
  scan_found zero s (c ∷ cs) few = absurd (omega arith)
  scan_found (suc bound) s (c ∷ cs) few = by_piece s (c ∷ cs) (piece_at (c ∷ cs)) (omega arith) refl (λ n long s2. scan_found bound s2 (drop n (c ∷ cs)) (omega (arith, length-drop n (c ∷ cs))))

  -- a piece that stands is read
  piece_turn : (s s2 : Layout) (p : Piece) (rest : Chars) (given : List Spanned) → Stands p rest → step s p ≡ Ok (s2, given) → scan s 0 (p.spelling ++ rest) ≡ with_prefix given (scan s2 0 rest)
  piece_turn s s2 p rest given stands e =
      let (long, read) = exact.complete p rest stands in
      let n = length p.spelling in
      let front : take n (p.spelling ++ rest) ≡ p.spelling = take_front p.spelling rest in
      let back : drop n (p.spelling ++ rest) ≡ rest = front_rest (p.spelling ++ rest) p.spelling rest refl in
      scan_turn s s2 given n (p.spelling ++ rest) (omega (arith, length-append p.spelling rest)) long (step_ok s s2 given (p.spelling ++ rest) p.lexeme n read (ap (step_by p.lexeme s) front ∙ e))
      ∙ ap (λ xs. with_prefix given (scan s2 0 xs)) back

  -- the pieces of a cut are read, one after the other
  cut_scans : (ps : List Piece) (s last : Layout) (given : List Spanned) (rest : Chars) → IsCut ps rest → lay s ps ≡ Ok (last, given) → scan s 0 (spelled ps ++ rest) ≡ with_prefix given (scan last 0 rest)
  cut_scans [] s last given rest cut laid = subst (λ (a : Layout × List Spanned). scan s 0 rest ≡ with_prefix a.1 (scan a.0 0 rest)) (ok_same _ _ laid) (prefix-nil (scan s 0 rest))
  cut_scans (p ∷ ps) s last given rest cut laid =
      let split = split_lay (step s p) ps last given laid in
      ap (scan s 0) (append_assoc p.spelling (spelled ps) rest)
      ∙ piece_turn s split.next p (spelled ps ++ rest) split.front cut.0 split.first_is
      ∙ ap (with_prefix split.front) (cut_scans ps split.next last split.more rest cut.1 split.rest_is)
      ∙ prefix-prefix split.front split.more (scan last 0 rest)
      ∙ ap (λ xs. with_prefix xs (scan last 0 rest)) (sym split.whole)

  -- the tokens of a text are what the scan answers
  pub tokens_scanned : (s : Layout) (text : Chars) (list : List Spanned) → TokensFrom s text list → scan s 0 text ≡ Ok list
  tokens_scanned s text list is =
      ap (scan s 0) (is.whole ∙ sym (append-nil (spelled is.pieces)))
      ∙ cut_scans is.pieces s is.last is.given [] is.cut is.laid
      ∙ ap Ok (sym is.all)

  fault_scanned : (s : Layout) (rest : Chars) (kind : LexKind) (line : ℕ) → FaultAt s rest kind line → scan s 0 rest ≡ Err (kind, line)
  fault_scanned s rest kind line (inl f) =
      let (p, more, whole, stands, refused) = f in
      let (long, read) = exact.complete p more stands in
      let e = step_err s (p.spelling ++ more) p.lexeme (length p.spelling) (kind, line) read (ap (step_by p.lexeme s) (take_front p.spelling more) ∙ refused) in
      ap (scan s 0) whole ∙ scan_stops s (p.spelling ++ more) (kind, line) (omega (arith, length-append p.spelling more)) e
  fault_scanned s rest kind line (inr f) =
      let (bad, faulty, refused) = f in
      let (some, read) = exact.refuses rest bad faulty in
      scan_stops s rest (kind, line) some (fault_err s rest bad (kind, line) read refused)

  -- the first fault of a text is what the scan answers
  pub first_fault_scanned : (s : Layout) (text : Chars) (kind : LexKind) (line : ℕ) → FirstFaultFrom s text kind line → scan s 0 text ≡ Err (kind, line)
  first_fault_scanned s text kind line is =
      ap (scan s 0) is.whole
      ∙ cut_scans is.pieces s is.last is.given is.rest is.cut is.laid
      ∙ ap (with_prefix is.given) (fault_scanned is.last is.rest kind line is.fault)

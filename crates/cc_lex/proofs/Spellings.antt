-- Marks: what is found is what stands there.
use Rattle.std.proofs.Common.{◌≡◌, ℕ, Bool, true, false, cond, eqb, List, [], ◌∷◌, Option, Some, None, refl, sym, ◌∙◌, ap, inl, inr, arith}
use Rattle.std.proofs.lemmas.Bool.{eqb-true}
use Rattle.cc_lex.specs.Pieces.{Begins, spelling}
use Rattle.cc_lex.specs.Reading.{mark_at, mark_of, mark_of_two, mark_with_equal, mark_twice, short_mark, long_mark}
use Rattle.cc_lex.specs.declared.piece.Piece.{Piece}
use Rattle.cc_lex.specs.declared.piece.Piece.TheVariants as piece
use Rattle.cc_lex.specs.declared.token.Mark.{Mark}
use Rattle.cc_lex.specs.declared.token.Mark.TheVariants as mark
use Rattle.cc_lex.specs.declared.token.What.TheVariants as what
use Rattle.cc_lex.proofs.Runs.{Fits, Reaches}

row-test : (b k : ℕ) (here m : Mark) (tail : List ℕ) (others : Option Mark) → spelling here ≡ k ∷ tail → (t : Bool) → eqb b k ≡ t → cond t (Some here) others ≡ Some m
    → (others ≡ Some m → spelling m ≡ b ∷ tail) → spelling m ≡ b ∷ tail
row-test b k here m tail others s true p e more =
    let same : here ≡ m = cc in
    ap spelling (sym same) ∙ s ∙ ap (λ (x : ℕ). x ∷ tail) (sym (eqb-true b k p))
row-test b k here m tail others s false p e more = more e

-- one row of a table of marks, and the rows after it
row : (b k : ℕ) (here m : Mark) (tail : List ℕ) (others : Option Mark) → spelling here ≡ k ∷ tail → cond (eqb b k) (Some here) others ≡ Some m
    → (others ≡ Some m → spelling m ≡ b ∷ tail) → spelling m ≡ b ∷ tail
row b k here m tail others s e more = row-test b k here m tail others s (eqb b k) refl e more

no_row : (b : ℕ) (m : Mark) (tail : List ℕ) → ◌≡◌ {A = Option Mark} None (Some m) → spelling m ≡ b ∷ tail
no_row b m tail e = absurd cc

none_some : (m : Mark) → ◌≡◌ {A = Option Mark} None (Some m) → ⊥
none_some m e = cc

pub mark_of-spelling : (b : ℕ) (m : Mark) → mark_of b ≡ Some m → spelling m ≡ b ∷ []
mark_of-spelling b m e =
    row b 40 mark.OpenParenthesis m ([]) _ refl e (λ e1.
    row b 41 mark.CloseParenthesis m ([]) _ refl e1 (λ e2.
    row b 123 mark.OpenBrace m ([]) _ refl e2 (λ e3.
    row b 125 mark.CloseBrace m ([]) _ refl e3 (λ e4.
    row b 91 mark.OpenBracket m ([]) _ refl e4 (λ e5.
    row b 93 mark.CloseBracket m ([]) _ refl e5 (λ e6.
    row b 59 mark.Semicolon m ([]) _ refl e6 (λ e7.
    row b 44 mark.Comma m ([]) _ refl e7 (λ e8.
    row b 46 mark.Dot m ([]) _ refl e8 (λ e9.
    row b 58 mark.Colon m ([]) _ refl e9 (λ e10.
    row b 63 mark.Question m ([]) _ refl e10 (λ e11.
    row b 61 mark.Assign m ([]) _ refl e11 (λ e12.
    row b 43 mark.Plus m ([]) _ refl e12 (λ e13.
    row b 45 mark.Minus m ([]) _ refl e13 (λ e14.
    row b 42 mark.Star m ([]) _ refl e14 (λ e15.
    row b 47 mark.Slash m ([]) _ refl e15 (λ e16.
    row b 37 mark.Percent m ([]) _ refl e16 (λ e17.
    row b 60 mark.Less m ([]) _ refl e17 (λ e18.
    row b 62 mark.Greater m ([]) _ refl e18 (λ e19.
    row b 33 mark.Not m ([]) _ refl e19 (λ e20.
    no_row b m ([]) e20))))))))))))))))))))

pub mark_with_equal-spelling : (b : ℕ) (m : Mark) → mark_with_equal b ≡ Some m → spelling m ≡ b ∷ 61 ∷ []
mark_with_equal-spelling b m e =
    row b 60 mark.LessEqual m (61 ∷ []) _ refl e (λ e1.
    row b 62 mark.GreaterEqual m (61 ∷ []) _ refl e1 (λ e2.
    row b 61 mark.Equal m (61 ∷ []) _ refl e2 (λ e3.
    row b 33 mark.NotEqual m (61 ∷ []) _ refl e3 (λ e4.
    row b 43 mark.PlusAssign m (61 ∷ []) _ refl e4 (λ e5.
    row b 45 mark.MinusAssign m (61 ∷ []) _ refl e5 (λ e6.
    row b 42 mark.StarAssign m (61 ∷ []) _ refl e6 (λ e7.
    row b 47 mark.SlashAssign m (61 ∷ []) _ refl e7 (λ e8.
    row b 37 mark.PercentAssign m (61 ∷ []) _ refl e8 (λ e9.
    no_row b m (61 ∷ []) e9)))))))))

mark_twice-test : (b k : ℕ) (here m : Mark) (others : Option Mark) → spelling here ≡ k ∷ k ∷ [] → (t : Bool) → eqb b k ≡ t → cond t (Some here) others ≡ Some m
    → (others ≡ Some m → spelling m ≡ b ∷ b ∷ []) → spelling m ≡ b ∷ b ∷ []
mark_twice-test b k here m others s true p e more =
    let same : here ≡ m = cc in
    ap spelling (sym same) ∙ s ∙ ap (λ (x : ℕ). x ∷ x ∷ []) (sym (eqb-true b k p))
mark_twice-test b k here m others s false p e more = more e

pub mark_twice-spelling : (b : ℕ) (m : Mark) → mark_twice b ≡ Some m → spelling m ≡ b ∷ b ∷ []
mark_twice-spelling b m e =
    mark_twice-test b 38 mark.And m _ refl (eqb b 38) refl e (λ e1.
    mark_twice-test b 124 mark.Or m _ refl (eqb b 124) refl e1 (λ e2.
    mark_twice-test b 43 mark.Increment m _ refl (eqb b 43) refl e2 (λ e3.
    mark_twice-test b 45 mark.Decrement m _ refl (eqb b 45) refl e3 (λ e4. absurd (none_some m e4)))))

two-test : (a b : ℕ) (m : Mark) (s t : Bool) → eqb b 61 ≡ s → eqb a b ≡ t → cond s (mark_with_equal a) (cond t (mark_twice a) None) ≡ Some m → spelling m ≡ a ∷ b ∷ []
two-test a b m true t p q e = mark_with_equal-spelling a m e ∙ ap (λ (x : ℕ). a ∷ x ∷ []) (sym (eqb-true b 61 p))
two-test a b m false true p q e = mark_twice-spelling a m e ∙ ap (λ (x : ℕ). a ∷ x ∷ []) (eqb-true a b q)
two-test a b m false false p q e = absurd (none_some m e)

mark_of_two-spelling : (a b : ℕ) (m : Mark) → mark_of_two a b ≡ Some m → spelling m ≡ a ∷ b ∷ []
unfolding mark_of_two
mark_of_two-spelling a b m e = two-test a b m (eqb b 61) (eqb a b) refl refl e

-- ---- pieces

-- a byte of which no mark is spelled alone
pub no_mark : (b : ℕ) (m : Mark) → mark_of b ≡ None → spelling m ≡ b ∷ [] → ⊥
no_mark b mark.OpenParenthesis e s = let is : 40 ∷ [] ≡ b ∷ [] = s in let same : b ≡ 40 = cc in let h : mark_of b ≡ Some mark.OpenParenthesis = rw same refl in cc
no_mark b mark.CloseParenthesis e s = let is : 41 ∷ [] ≡ b ∷ [] = s in let same : b ≡ 41 = cc in let h : mark_of b ≡ Some mark.CloseParenthesis = rw same refl in cc
no_mark b mark.OpenBrace e s = let is : 123 ∷ [] ≡ b ∷ [] = s in let same : b ≡ 123 = cc in let h : mark_of b ≡ Some mark.OpenBrace = rw same refl in cc
no_mark b mark.CloseBrace e s = let is : 125 ∷ [] ≡ b ∷ [] = s in let same : b ≡ 125 = cc in let h : mark_of b ≡ Some mark.CloseBrace = rw same refl in cc
no_mark b mark.OpenBracket e s = let is : 91 ∷ [] ≡ b ∷ [] = s in let same : b ≡ 91 = cc in let h : mark_of b ≡ Some mark.OpenBracket = rw same refl in cc
no_mark b mark.CloseBracket e s = let is : 93 ∷ [] ≡ b ∷ [] = s in let same : b ≡ 93 = cc in let h : mark_of b ≡ Some mark.CloseBracket = rw same refl in cc
no_mark b mark.Semicolon e s = let is : 59 ∷ [] ≡ b ∷ [] = s in let same : b ≡ 59 = cc in let h : mark_of b ≡ Some mark.Semicolon = rw same refl in cc
no_mark b mark.Comma e s = let is : 44 ∷ [] ≡ b ∷ [] = s in let same : b ≡ 44 = cc in let h : mark_of b ≡ Some mark.Comma = rw same refl in cc
no_mark b mark.Dot e s = let is : 46 ∷ [] ≡ b ∷ [] = s in let same : b ≡ 46 = cc in let h : mark_of b ≡ Some mark.Dot = rw same refl in cc
no_mark b mark.Colon e s = let is : 58 ∷ [] ≡ b ∷ [] = s in let same : b ≡ 58 = cc in let h : mark_of b ≡ Some mark.Colon = rw same refl in cc
no_mark b mark.Question e s = let is : 63 ∷ [] ≡ b ∷ [] = s in let same : b ≡ 63 = cc in let h : mark_of b ≡ Some mark.Question = rw same refl in cc
no_mark b mark.Assign e s = let is : 61 ∷ [] ≡ b ∷ [] = s in let same : b ≡ 61 = cc in let h : mark_of b ≡ Some mark.Assign = rw same refl in cc
no_mark b mark.Plus e s = let is : 43 ∷ [] ≡ b ∷ [] = s in let same : b ≡ 43 = cc in let h : mark_of b ≡ Some mark.Plus = rw same refl in cc
no_mark b mark.Minus e s = let is : 45 ∷ [] ≡ b ∷ [] = s in let same : b ≡ 45 = cc in let h : mark_of b ≡ Some mark.Minus = rw same refl in cc
no_mark b mark.Star e s = let is : 42 ∷ [] ≡ b ∷ [] = s in let same : b ≡ 42 = cc in let h : mark_of b ≡ Some mark.Star = rw same refl in cc
no_mark b mark.Slash e s = let is : 47 ∷ [] ≡ b ∷ [] = s in let same : b ≡ 47 = cc in let h : mark_of b ≡ Some mark.Slash = rw same refl in cc
no_mark b mark.Percent e s = let is : 37 ∷ [] ≡ b ∷ [] = s in let same : b ≡ 37 = cc in let h : mark_of b ≡ Some mark.Percent = rw same refl in cc
no_mark b mark.Less e s = let is : 60 ∷ [] ≡ b ∷ [] = s in let same : b ≡ 60 = cc in let h : mark_of b ≡ Some mark.Less = rw same refl in cc
no_mark b mark.Greater e s = let is : 62 ∷ [] ≡ b ∷ [] = s in let same : b ≡ 62 = cc in let h : mark_of b ≡ Some mark.Greater = rw same refl in cc
no_mark b mark.Not e s = let is : 33 ∷ [] ≡ b ∷ [] = s in let same : b ≡ 33 = cc in let h : mark_of b ≡ Some mark.Not = rw same refl in cc
no_mark b mark.LessEqual e s = let is : 60 ∷ 61 ∷ [] ≡ b ∷ [] = s in cc
no_mark b mark.GreaterEqual e s = let is : 62 ∷ 61 ∷ [] ≡ b ∷ [] = s in cc
no_mark b mark.Equal e s = let is : 61 ∷ 61 ∷ [] ≡ b ∷ [] = s in cc
no_mark b mark.NotEqual e s = let is : 33 ∷ 61 ∷ [] ≡ b ∷ [] = s in cc
no_mark b mark.PlusAssign e s = let is : 43 ∷ 61 ∷ [] ≡ b ∷ [] = s in cc
no_mark b mark.MinusAssign e s = let is : 45 ∷ 61 ∷ [] ≡ b ∷ [] = s in cc
no_mark b mark.StarAssign e s = let is : 42 ∷ 61 ∷ [] ≡ b ∷ [] = s in cc
no_mark b mark.SlashAssign e s = let is : 47 ∷ 61 ∷ [] ≡ b ∷ [] = s in cc
no_mark b mark.PercentAssign e s = let is : 37 ∷ 61 ∷ [] ≡ b ∷ [] = s in cc
no_mark b mark.And e s = let is : 38 ∷ 38 ∷ [] ≡ b ∷ [] = s in cc
no_mark b mark.Or e s = let is : 124 ∷ 124 ∷ [] ≡ b ∷ [] = s in cc
no_mark b mark.Increment e s = let is : 43 ∷ 43 ∷ [] ≡ b ∷ [] = s in cc
no_mark b mark.Decrement e s = let is : 45 ∷ 45 ∷ [] ≡ b ∷ [] = s in cc

short-fits : (b : ℕ) (rest : List ℕ) (found : Option Mark) → mark_of b ≡ found → ((mark_of b ≡ None) → Begins b → ⊥) → Fits (short_mark found) (b ∷ rest)
short-fits b rest None e h = ((b, refl, h e), omega arith)
short-fits b rest (Some m) e h = (sym (mark_of-spelling b m e), omega arith)

long-fits : (b c : ℕ) (rest : List ℕ) (found : Option Mark) → mark_of_two b c ≡ found → ((mark_of b ≡ None) → Begins b → ⊥) → Fits (long_mark found b) (b ∷ c ∷ rest)
long-fits b c rest None e h = short-fits b (c ∷ rest) (mark_of b) refl h
long-fits b c rest (Some m) e h = (sym (mark_of_two-spelling b c m e), omega arith)

-- what a byte that begins nothing else begins, as far as no mark does
pub mark_at-fits : (b : ℕ) (rest : List ℕ) → ((mark_of b ≡ None) → Begins b → ⊥) → Fits (mark_at b rest) (b ∷ rest)
unfolding mark_at
mark_at-fits b [] h = short-fits b [] (mark_of b) refl h
mark_at-fits b (c ∷ rest) h = long-fits b c rest (mark_of_two b c) refl h

long-reaches : (x : Piece) (b : ℕ) (found : Option Mark) → ◌≡◌ {A = Piece × ℕ} (short_mark (mark_of b)) (x, 1) → Reaches x 1 (long_mark found b)
long-reaches x b None e = inl e
long-reaches x b (Some m) e = inr (omega arith)

-- what stands for one byte, or a longer mark
pub mark_at-reaches : (x : Piece) (b : ℕ) (rest : List ℕ) → ◌≡◌ {A = Piece × ℕ} (short_mark (mark_of b)) (x, 1) → Reaches x 1 (mark_at b rest)
unfolding mark_at
mark_at-reaches x b [] e = inl e
mark_at-reaches x b (c ∷ rest) e = long-reaches x b (mark_of_two b c) e

pub mark_at-two : (a b : ℕ) (m : Mark) (rest : List ℕ) → mark_of_two a b ≡ Some m → ◌≡◌ {A = Piece × ℕ} (mark_at a (b ∷ rest)) (piece.Token (what.Mark m), 2)
unfolding mark_at
mark_at-two a b m rest e = rw e refl

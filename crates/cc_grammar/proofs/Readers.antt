-- The readers of all symbols.
use Rattle.std.proofs.Common.{◌≡◌, ℕ, zero, suc, ◌+◌, ◌<◌, ◌≤◌, false, List, [], ◌∷◌, ◌++◌, refl, sym, ◌∙◌, ap, arith}
use Rattle.std.specs.Prelude.{nat_lt}
use Rattle.std.proofs.lemmas.Bool.{lt-ltb}
use Rattle.cc_lex.specs.declared.token.Token.{Token}
use Rattle.cc_grammar.specs.Begins.{has, starts, nullable}
use Rattle.cc_grammar.specs.Ebnf.{Ebnf, ref, nest}
use Rattle.cc_grammar.specs.Grammar.{rule}
use Rattle.cc_grammar.specs.Kinds.{Kind, kind}
use Rattle.cc_grammar.specs.Phrases.{Marked, words, Phrase, p_tok, p_seq, p_left, p_right, p_end, p_more, p_none, p_some, p_ref, p_nest}
use Rattle.cc_grammar.specs.Reading.{Got, Bad, Deep, Answer, Reader, answered, read, ranked, level, symbol, expected}
use Rattle.cc_grammar.specs.Symbols.{Symbol}
use Rattle.cc_grammar.specs.Trees.{TreeOf, Value, made}
use Rattle.cc_grammar.proofs.Basics.{cond_true, answered-expected}
use Rattle.cc_grammar.proofs.Complete.{Completes, complete}
use Rattle.cc_grammar.proofs.Facts.{plain, rank_low}
use Rattle.cc_grammar.proofs.First.{Starts, first}
use Rattle.cc_grammar.proofs.Locality.{Local, alike_answered, kept, if_alike, local}
use Rattle.cc_grammar.proofs.Samples.{nest_sample, nest_opens}
use Rattle.cc_grammar.proofs.Sound.{Follows, Sound, by_test, follows_as, begun_sample, sound}
use Rattle.cc_grammar.proofs.Tables.{rank}

below_top : (s : Symbol) → rank s ≤ 22
below_top s = let low = rank_low s in omega (arith, low)

-- ---- the symbols by rank

module _ (d : ℕ) (nests : (s : Symbol) → Reader (TreeOf s)) (hn : (s : Symbol) → Sound (nests s) (Phrase d (nest s))) where
  rule_sound : (r : ℕ) → ((s : Symbol) → rank s < r → Sound (ranked nests r s) (Phrase d (ref s))) → (s : Symbol) → rank s ≤ r
      → Sound (read (ranked nests r) nests (rule s)) (Phrase d (rule s))
  rule_sound r h s lt = sound d (rank s) (ranked nests r) nests (λ u below. h u (omega (arith, lt, below))) hn (rule s) (plain s)

  ranked_sound : (r : ℕ) (s : Symbol) → rank s < r → Sound (ranked nests r s) (Phrase d (ref s))
  ranked_sound zero s lt = absurd (omega arith)
  ranked_sound (suc r) s lt = λ ws.
      follows_as (Phrase d (rule s)) (Phrase d (ref s)) (made s) (λ x ms f p. p_ref p) ws (read (ranked nests r) nests (rule s) ws)
      (rule_sound r (ranked_sound r) s (omega (arith, lt)) ws)

  module _ (a : Token) (t u : List Token) (ln : (s : Symbol) → Local a t u (nests s)) where
    rule_local : (r : ℕ) → ((s : Symbol) → rank s < r → Local a t u (ranked nests r s)) → (s : Symbol) → rank s ≤ r
        → Local a t u (read (ranked nests r) nests (rule s))
    rule_local r h s lt =
        local a t u d (rank s) (ranked nests r) nests (λ v below. ranked_sound r v (omega (arith, lt, below))) hn
        (λ v below. h v (omega (arith, lt, below))) ln (rule s) (plain s)

    ranked_local : (r : ℕ) (s : Symbol) → rank s < r → Local a t u (ranked nests r s)
    ranked_local zero s lt = absurd (omega arith)
    ranked_local (suc r) s lt = λ front.
        let q : Reader (Value (rule s)) = read (ranked nests r) nests (rule s) in
        alike_answered a t u (made s) q q front (rule_local r (ranked_local r) s (omega (arith, lt)) front)

module _ (most d : ℕ) (fits : d ≤ most) (nests : (s : Symbol) → Reader (TreeOf s)) (hn : (s : Symbol) → nullable s ≡ false → Completes most (nests s) (Phrase d (nest s))) where
  rule_complete : (r : ℕ) → ((s : Symbol) → rank s < r → Completes most (ranked nests r s) (Phrase d (ref s))) → (s : Symbol) → rank s ≤ r
      → Completes most (read (ranked nests r) nests (rule s)) (Phrase d (rule s))
  rule_complete r h s lt = complete most d fits (rank s) (ranked nests r) nests (λ u below. h u (omega (arith, lt, below))) hn (rule s) (plain s)

  ranked_complete : (r : ℕ) (s : Symbol) → rank s < r → Completes most (ranked nests r s) (Phrase d (ref s))
  ranked_complete zero s lt x ms f rest p st = absurd (omega arith)
  ranked_complete (suc r) s lt x ms f rest (p_ref {v = v} p) st =
      ap (λ (y : Answer (Value (rule s))). answered (made s) y) (rule_complete r (ranked_complete r) s (omega (arith, lt)) v ms f rest p st)
      ∙ answered-expected most ms (made s) (Got v, rest) rest

-- ---- phrases that add to the nesting

pub level_sound : (n d : ℕ) (s : Symbol) → Sound (level n s) (Phrase d (nest s))
level_sound zero d s [] = ([], begun_sample d (nest_sample d s), refl)
level_sound zero d s (t ∷ over) =
    by_test (Follows (Phrase d (nest s)) (t ∷ over)) (has (starts s) (kind t)) (Deep, t ∷ over) (Bad, t ∷ over)
    (λ e. ([], t, over, nest_opens d s t e, refl, refl)) (λ e. ([], begun_sample d (nest_sample d s), refl))
level_sound (suc n) d s ws =
    follows_as (Phrase (suc d) (rule s)) (Phrase d (nest s)) (made s) (λ x ms f p. p_nest p) ws (read (ranked (level n) 22) (level n) (rule s) ws)
    (rule_sound (suc d) (level n) (level_sound n (suc d)) 22 (ranked_sound (suc d) (level n) (level_sound n (suc d)) 22) s (below_top s) ws)

-- how deep the first token of a phrase stands
abbrev Stands : ℕ → List Marked → Type 0
Stands d [] = Unit {0}
Stands d (m ∷ _) = d ≤ m.0

stands_append : (d : ℕ) (xs ys : List Marked) → Stands d xs → Stands d ys → Stands d (xs ++ ys)
stands_append d [] ys s t = t
stands_append d (x ∷ xs) ys s t = s

stands_less : (d : ℕ) (xs : List Marked) → Stands (suc d) xs → Stands d xs
stands_less d [] s = tt
stands_less d (x ∷ xs) s = omega (arith, s)

stands : {d : ℕ} {g : Ebnf} {v : Value g} {ms : List Marked} {f : List Kind} → Phrase d g v ms f → Stands d ms
stands (p_tok e) = omega arith
stands (p_seq {d = d} {xs = xs} {ys = ys} p q s) = stands_append d xs ys (stands p) (stands q)
stands (p_left p) = stands p
stands (p_right p) = stands p
stands p_end = tt
stands (p_more {d = d} {xs = xs} {ys = ys} p q s) = stands_append d xs ys (stands p) (stands q)
stands p_none = tt
stands (p_some p) = stands p
stands (p_ref p) = stands p
stands (p_nest {d = d} {xs = xs} p) = stands_less d xs (stands p)

too_deep : (most : ℕ) (s : Symbol) (x : TreeOf s) (ms : List Marked) (rest : List Token) → nullable s ≡ false → Starts (nest s) ms → Stands (suc most) ms
    → level zero s (words ms ++ rest) ≡ expected most ms (Got x, rest) rest
too_deep most s x [] rest n e st = absurd cc
too_deep most s x (m ∷ ms) rest n e st = cond_true _ _ _ e ∙ sym (cond_true (nat_lt most m.0) _ _ (lt-ltb most m.0 st))

level_complete : (most n d : ℕ) (s : Symbol) → d + n ≡ most → nullable s ≡ false → Completes most (level n s) (Phrase d (nest s))
level_complete most zero d s h o x ms f rest (p_nest {v = v} p) st =
    let at_limit : d ≡ most = omega (arith, h) in
    too_deep most s (made s v) ms rest o (first (p_nest {d = d} {s = s} p)) (rw at_limit at (stands p))
level_complete most (suc n) d s h o x ms f rest (p_nest {v = v} p) st =
    let hn : (u : Symbol) → nullable u ≡ false → Completes most (level n u) (Phrase (suc d) (nest u)) = λ u. level_complete most n (suc d) u (omega (arith, h)) in
    let fits : suc d ≤ most = omega (arith, h) in
    ap (λ (y : Answer (Value (rule s))). answered (made s) y)
    (rule_complete most (suc d) fits (level n) hn 22 (ranked_complete most (suc d) fits (level n) hn 22) s (below_top s) v ms f rest p st)
    ∙ answered-expected most ms (made s) (Got v, rest) rest

module _ (a : Token) (t u : List Token) where
  if_deep : (s : Symbol) → Local a t u (level zero s)
  if_deep s front = if_alike a t u (starts s) (λ ws. (Deep, ws)) (λ ws. (Deep, ws)) (λ ws. (Bad, ws)) (λ ws. (Bad, ws)) front
      (λ after o e. kept a t u Deep o front after e) (λ after o e. kept a t u Bad o front after e)

  level_local : (n d : ℕ) (s : Symbol) → Local a t u (level n s)
  level_local zero d s = if_deep s
  level_local (suc n) d s = λ front.
      let q : Reader (Value (rule s)) = read (ranked (level n) 22) (level n) (rule s) in
      let hn : (v : Symbol) → Sound (level n v) (Phrase (suc d) (nest v)) = level_sound n (suc d) in
      let ln : (v : Symbol) → Local a t u (level n v) = level_local n (suc d) in
      alike_answered a t u (made s) q q front (rule_local (suc d) (level n) hn a t u ln 22 (ranked_local (suc d) (level n) hn a t u ln 22) s (below_top s) front)

-- ---- the reader of a symbol

pub symbol_sound : (n d : ℕ) (s : Symbol) → Sound (symbol n s) (Phrase d (ref s))
unfolding symbol
symbol_sound n d s = ranked_sound d (level n) (level_sound n d) 23 s (rank_low s)

pub symbol_complete : (most n d : ℕ) (s : Symbol) → d + n ≡ most → Completes most (symbol n s) (Phrase d (ref s))
unfolding symbol
symbol_complete most n d s h =
    ranked_complete most d (omega (arith, h)) (level n) (λ u o. level_complete most n d u h o) 23 s (rank_low s)

pub symbol_local : (a : Token) (t u : List Token) (n : ℕ) (s : Symbol) → Local a t u (symbol n s)
unfolding symbol
symbol_local a t u n s = ranked_local 0 (level n) (level_sound n 0) a t u (level_local a t u n 0) 23 s (rank_low s)

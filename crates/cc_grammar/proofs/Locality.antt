-- A reader sees no further than the token at which it stops.
use Rattle.std.proofs.Common.{◌≡◌, ℕ, zero, suc, ◌<◌, ◌≤◌, Bool, true, false, List, [], ◌∷◌, ◌++◌, length, Some, None, inl, inr, refl, sym, ◌∙◌, ap, subst, append_assoc, arith, length-append}
use Rattle.std.specs.Prelude.{if◌then◌else◌, ◌==◌}
use Rattle.std.proofs.lemmas.List.{append_cancel_right}
use Rattle.cc_lex.specs.declared.token.Token.{Token}
use Rattle.cc_grammar.specs.Begins.{has, empty, begins}
use Rattle.cc_grammar.specs.Ebnf.{Ebnf, tok, seq, alt, many, opt, ref, nest}
use Rattle.cc_grammar.specs.Kinds.{Kind, kind}
use Rattle.cc_grammar.specs.Phrases.{Marked, words, Phrase}
use Rattle.cc_grammar.specs.Reading.{Outcome, Got, Bad, Deep, Answer, Reader, and_then, answered, at, expect, loop, read}
use Rattle.cc_grammar.specs.Symbols.{Symbol}
use Rattle.cc_grammar.specs.Trees.{TreeOf, Value}
use Rattle.cc_grammar.proofs.Facts.{Plain}
use Rattle.cc_grammar.proofs.First.{first}
use Rattle.cc_grammar.proofs.Sound.{Follows, Sound, shorter_by, sound}
use Rattle.cc_grammar.proofs.Tables.{rank}

pub suffix : {A : Type 0} (P : A → List Marked → List Kind → Type 0) (ws : List Token) (a : Answer A) → Follows P ws a → (used : List Token) × (ws ≡ used ++ a.1)
suffix P ws (Got x, rest) (ms, f, p, e, s) = (words ms, e)
suffix P ws (Bad, rest) (took, b, e) = (took, e)
suffix P ws (Deep, rest) (took, a, over, b, e, e') = (took, e)

answered_rest : {A C : Type 0} (h : A → C) (a : Answer A) → (answered h a).1 ≡ a.1
answered_rest h (Got x, rest) = refl
answered_rest h (Bad, rest) = refl
answered_rest h (Deep, rest) = refl

-- It leaves an end of the list.
abbrev pub Ends : {A : Type 0} → Reader A → Type 0
Ends q = (ws : List Token) → (used : List Token) × (ws ≡ used ++ (q ws).1)

ends_sound : {A : Type 0} (P : A → List Marked → List Kind → Type 0) (q : Reader A) → Sound q P → Ends q
ends_sound P q h ws = suffix P ws (q ws) (h ws)

ends_if : {A : Type 0} (b : Bool) (ws : List Token) (x y : Answer A) → (used : List Token) × (ws ≡ used ++ x.1) → (used : List Token) × (ws ≡ used ++ y.1) → (used : List Token) × (ws ≡ used ++ (if b then x else y).1)
ends_if true ws x y h k = h
ends_if false ws x y h k = k

ends_chain : {A B C : Type 0} (h : A → B → C) (ws : List Token) (x : Answer A) (q : Reader B) → (used : List Token) × (ws ≡ used ++ x.1) → Ends q
    → (used : List Token) × (ws ≡ used ++ (and_then x (λ x over. answered (h x) (q over))).1)
ends_chain h ws (Bad, rest) q u k = u
ends_chain h ws (Deep, rest) q u k = u
ends_chain h ws (Got x, over) q u k =
    let v = k over in
    (u.0 ++ v.0, u.1 ∙ ap (λ (l : List Token). u.0 ++ l) v.1 ∙ sym (append_assoc u.0 v.0 (q over).1) ∙ ap (λ (l : List Token). (u.0 ++ v.0) ++ l) (sym (answered_rest (h x) (q over))))

ends_loop : {A : Type 0} (r : Reader A) (p : List Kind) → Ends r → (n : ℕ) → Ends (loop r p n)
ends_loop r p h zero ws = ([], refl)
ends_loop r p h (suc n) ws = ends_if (at p ws) ws _ _ (ends_chain (λ x xs. x ∷ xs) ws (r ws) (loop r p n) (h ws) (ends_loop r p h n)) ([], refl)

if_same : {A : Type 0} (b : Bool) (x y u v z w : A) → (if b then x else y) ≡ z → (x ≡ z → u ≡ w) → (y ≡ z → v ≡ w) → (if b then u else v) ≡ w
if_same true x y u v z w e h k = h e
if_same false x y u v z w e h k = k e

-- The token a, and what may follow it.
module _ (a : Token) (s t : List Token) where
  -- The first reader's answer to a text with s behind the token is the second one's to that with t.
  abbrev pub Alike : {A : Type 0} → Reader A → Reader A → List Token → Type 0
  Alike {A} p q front = (after : List Token) (o : Outcome A) → p (front ++ a ∷ s) ≡ (o, after ++ a ∷ s) → q (front ++ a ∷ t) ≡ (o, after ++ a ∷ t)

  abbrev pub Local : {A : Type 0} → Reader A → Type 0
  Local p = (front : List Token) → Alike p p front

  pub kept : {A : Type 0} (o o' : Outcome A) (front after : List Token) → ◌≡◌ {A = Answer A} (o, front ++ a ∷ s) (o', after ++ a ∷ s) → ◌≡◌ {A = Answer A} (o, front ++ a ∷ t) (o', after ++ a ∷ t)
  kept {A = A} o o' front after e =
      let same_front = append_cancel_right front after (a ∷ s) (ap (λ (x : Answer A). x.1) e) in
      let same_outcome = ap (λ (x : Answer A). x.0) e in
      rw (same_front, same_outcome) refl

  not_passed : (after : List Token) → s ≡ after ++ a ∷ s → ⊥
  not_passed after e = omega (arith, ap length e, length-append after (a ∷ s))

  local_expect : (k : Kind) → Local (expect k)
  local_expect k [] after o = λ e. if_same (k == kind a) _ _ _ _ _ _ e
      (λ h. absurd (not_passed after (ap (λ (x : Answer Token). x.1) h)))
      (λ h. kept Bad o [] after h)
  local_expect k (c ∷ front) after o = λ e. if_same (k == kind c) _ _ _ _ _ _ e
      (λ h. kept (Got c) o front after h)
      (λ h. kept Bad o (c ∷ front) after h)

  same_test : (p : List Kind) (front : List Token) → at p (front ++ a ∷ s) ≡ at p (front ++ a ∷ t)
  same_test p [] = refl
  same_test p (c ∷ front) = refl

  pub alike_answered : {A C : Type 0} (h : A → C) (p q : Reader A) (front : List Token) → Alike p q front → Alike (λ ws. answered h (p ws)) (λ ws. answered h (q ws)) front
  alike_answered {A = A} {C = C} h p q front l after o e = go (p (front ++ a ∷ s)) refl e
    where
      go : (x : Answer A) → p (front ++ a ∷ s) ≡ x → answered h x ≡ (o, after ++ a ∷ s) → answered h (q (front ++ a ∷ t)) ≡ (o, after ++ a ∷ t)
      go (Got v, rest) ex ey =
          let er : rest ≡ after ++ a ∷ s = ap (λ (x : Answer C). x.1) ey in
          let eo : Got (h v) ≡ o = ap (λ (x : Answer C). x.0) ey in
          ap (λ (x : Answer A). answered h x) (l after (Got v) (ex ∙ ap (λ (r : List Token). (Got v, r)) er)) ∙ ap (λ (u : Outcome C). (u, after ++ a ∷ t)) eo
      go (Bad, rest) ex ey =
          let er : rest ≡ after ++ a ∷ s = ap (λ (x : Answer C). x.1) ey in
          let eo : Bad ≡ o = ap (λ (x : Answer C). x.0) ey in
          ap (λ (x : Answer A). answered h x) (l after Bad (ex ∙ ap (λ (r : List Token). (Bad, r)) er)) ∙ ap (λ (u : Outcome C). (u, after ++ a ∷ t)) eo
      go (Deep, rest) ex ey =
          let er : rest ≡ after ++ a ∷ s = ap (λ (x : Answer C). x.1) ey in
          let eo : Deep ≡ o = ap (λ (x : Answer C). x.0) ey in
          ap (λ (x : Answer A). answered h x) (l after Deep (ex ∙ ap (λ (r : List Token). (Deep, r)) er)) ∙ ap (λ (u : Outcome C). (u, after ++ a ∷ t)) eo

  -- p, and then the one reader or the other
  alike_chain : {A B C : Type 0} (P : A → List Marked → List Kind → Type 0) (h : A → B → C) (p : Reader A) (q q' : Reader B) (front : List Token)
      → Follows P (front ++ a ∷ s) (p (front ++ a ∷ s)) → Ends q → Alike p p front
      → ((x : A) (middle : List Token) → Follows P (front ++ a ∷ s) (Got x, middle ++ a ∷ s) → Alike q q' middle)
      → Alike (λ ws. and_then (p ws) (λ x over. answered (h x) (q over))) (λ ws. and_then (p ws) (λ x over. answered (h x) (q' over))) front
  alike_chain {A = A} {B = B} {C = C} P h p q q' front sp sq lp lq after o e = go (p (front ++ a ∷ s)) refl e
    where
      go : (x : Answer A) → p (front ++ a ∷ s) ≡ x → and_then x (λ x over. answered (h x) (q over)) ≡ (o, after ++ a ∷ s)
          → and_then (p (front ++ a ∷ t)) (λ x over. answered (h x) (q' over)) ≡ (o, after ++ a ∷ t)
      go (Bad, rest) ex ey =
          let er : rest ≡ after ++ a ∷ s = ap (λ (x : Answer C). x.1) ey in
          let eo : Bad ≡ o = ap (λ (x : Answer C). x.0) ey in
          ap (λ (x : Answer A). and_then x (λ x over. answered (h x) (q' over))) (lp after Bad (ex ∙ ap (λ (r : List Token). (Bad, r)) er)) ∙ ap (λ (u : Outcome C). (u, after ++ a ∷ t)) eo
      go (Deep, rest) ex ey =
          let er : rest ≡ after ++ a ∷ s = ap (λ (x : Answer C). x.1) ey in
          let eo : Deep ≡ o = ap (λ (x : Answer C). x.0) ey in
          ap (λ (x : Answer A). and_then x (λ x over. answered (h x) (q' over))) (lp after Deep (ex ∙ ap (λ (r : List Token). (Deep, r)) er)) ∙ ap (λ (u : Outcome C). (u, after ++ a ∷ t)) eo
      go (Got x, over) ex ey =
          let used = sq over in
          let end : (q over).1 ≡ after ++ a ∷ s = sym (answered_rest (h x) (q over)) ∙ ap (λ (x : Answer C). x.1) ey in
          let eover : over ≡ (used.0 ++ after) ++ a ∷ s = used.1 ∙ ap (λ (l : List Token). used.0 ++ l) end ∙ sym (append_assoc used.0 after (a ∷ s)) in
          let whole : p (front ++ a ∷ s) ≡ (Got x, (used.0 ++ after) ++ a ∷ s) = ex ∙ ap (λ (l : List Token). (Got x, l)) eover in
          let F : Answer A → Type 0 = λ z. Follows P (front ++ a ∷ s) z in
          let first_read = lp (used.0 ++ after) (Got x) whole in
          ap (λ (x : Answer A). and_then x (λ x over. answered (h x) (q' over))) first_read
          ∙ alike_answered (h x) q q' (used.0 ++ after) (lq x (used.0 ++ after) (subst F whole sp)) after o
          (ap (λ (l : List Token). answered (h x) (q l)) (sym eover) ∙ ey)

  pub if_alike : {A : Type 0} (p : List Kind) (x x' y y' : Reader A) (front : List Token) → Alike x x' front → Alike y y' front
      → Alike (λ ws. if at p ws then x ws else y ws) (λ ws. if at p ws then x' ws else y' ws) front
  if_alike p x x' y y' [] lx ly after o e = if_same (has p (kind a)) _ _ _ _ _ _ e (lx after o) (ly after o)
  if_alike p x x' y y' (c ∷ front) lx ly after o e = if_same (has p (kind c)) _ _ _ _ _ _ e (lx after o) (ly after o)

  module _ (d : ℕ) where
    -- what p leaves after a turn is less
    less_left : (g : Ebnf) (front middle : List Token) (x : Value g) → empty g ≡ false → Follows (Phrase d g) (front ++ a ∷ s) (Got x, middle ++ a ∷ s) → length middle < length front
    less_left g front middle x e (ms, f, p, h, st) =
        let less = shorter_by g ms (front ++ a ∷ s) (middle ++ a ∷ s) e (first p) h in
        omega (arith, less, length-append front (a ∷ s), length-append middle (a ∷ s))

    alike_loop : (g : Ebnf) (r : Reader (Value g)) → empty g ≡ false → Sound r (Phrase d g) → Local r → (n m : ℕ) (front : List Token)
        → length (front ++ a ∷ s) ≤ n → length (front ++ a ∷ t) ≤ m → Alike (loop r (begins g) n) (loop r (begins g) m) front
    alike_loop g r e h l zero m front ln lm = absurd (omega (arith, ln, length-append front (a ∷ s)))
    alike_loop g r e h l (suc n) zero front ln lm = absurd (omega (arith, lm, length-append front (a ∷ t)))
    alike_loop g r e h l (suc n) (suc m) front ln lm =
        if_alike (begins g)
        (λ ws. and_then (r ws) (λ x over. answered (λ xs. x ∷ xs) (loop r (begins g) n over)))
        (λ ws. and_then (r ws) (λ x over. answered (λ xs. x ∷ xs) (loop r (begins g) m over)))
        (λ ws. (Got [], ws)) (λ ws. (Got [], ws)) front
        (alike_chain (Phrase d g) (λ x xs. x ∷ xs) r (loop r (begins g) n) (loop r (begins g) m) front (h (front ++ a ∷ s)) (ends_loop r (begins g) (ends_sound (Phrase d g) r h) n) (l front)
        (λ x middle f.
        let less = less_left g front middle x e f in
        alike_loop g r e h l n m middle
        (omega (arith, less, ln, length-append front (a ∷ s), length-append middle (a ∷ s)))
        (omega (arith, less, lm, length-append front (a ∷ t), length-append middle (a ∷ t)))))
        (λ after o e. kept (Got []) o front after e)

    module _ (r : ℕ) (refs nests : (s : Symbol) → Reader (TreeOf s))
        (hr : (s : Symbol) → rank s < r → Sound (refs s) (Phrase d (ref s)))
        (hn : (s : Symbol) → Sound (nests s) (Phrase d (nest s)))
        (lr : (s : Symbol) → rank s < r → Local (refs s)) (ln : (s : Symbol) → Local (nests s)) where
      sounds : (g : Ebnf) → Plain r g → Sound (read refs nests g) (Phrase d g)
      sounds = sound d r refs nests hr hn

      pub local : (g : Ebnf) → Plain r g → Local (read refs nests g)
      local (tok k) pl = local_expect k
      local (seq b c) pl = λ front. alike_chain (Phrase d b) (λ x y. (x, y)) (read refs nests b) (read refs nests c) (read refs nests c) front
          (sounds b pl.0 (front ++ a ∷ s)) (ends_sound (Phrase d c) (read refs nests c) (sounds c pl.1)) (local b pl.0 front) (λ x middle f. local c pl.1 middle)
      local (alt b c) pl = λ front.
          let x : Reader (Value (alt b c)) = λ ws. answered inl (read refs nests b ws) in
          let y : Reader (Value (alt b c)) = λ ws. answered inr (read refs nests c ws) in
          if_alike (begins b) x x y y front
          (alike_answered inl (read refs nests b) (read refs nests b) front (local b pl.0 front))
          (alike_answered inr (read refs nests c) (read refs nests c) front (local c pl.1 front))
      local (many b) pl = λ front.
          alike_loop b (read refs nests b) pl.1 (sounds b pl.0) (local b pl.0) (length (front ++ a ∷ s)) (length (front ++ a ∷ t)) front (omega arith) (omega arith)
      local (opt b) pl = λ front.
          let x : Reader (Value (opt b)) = λ ws. answered (λ v. Some v) (read refs nests b ws) in
          let y : Reader (Value (opt b)) = λ ws. (Got None, ws) in
          if_alike (begins b) x x y y front
          (alike_answered (λ v. Some v) (read refs nests b) (read refs nests b) front (local b pl.0 front))
          (λ after o e. kept (Got None) o front after e)
      local (ref u) pl = lr u pl
      local (nest u) pl = ln u

-- Fronts of the grammar are what phrases begin with.
use Rattle.std.proofs.Common.{◌≡◌, ℕ, suc, Bool, true, false, ◌||◌, List, [], ◌∷◌, ◌++◌, ◌⊎◌, Option, Some, None, inl, inr, refl, sym, ◌∙◌, ap, subst, append_assoc, arith}
use Rattle.std.specs.Prelude.{◌==◌}
use Rattle.cc_lex.specs.declared.token.Token.{Token}
use Rattle.cc_grammar.specs.Begins.{has, begins}
use Rattle.cc_grammar.specs.Ebnf.{Ebnf, tok, seq, alt, many, opt, ref, nest}
use Rattle.cc_grammar.specs.Fronts.{Whole, w_tok, w_seq, w_left, w_right, w_end, w_more, w_none, w_some, w_ref, w_nest, Front, f_before, f_tok, f_first, f_second, f_left, f_right, f_end, f_last, f_more, f_none, f_some, f_ref, f_nest}
use Rattle.cc_grammar.specs.Grammar.{rule}
use Rattle.cc_grammar.specs.Kinds.{Kind, kind}
use Rattle.cc_grammar.specs.Phrases.{Marked, words, Stops, Phrase, p_tok, p_seq, p_left, p_right, p_end, p_more, p_none, p_some, p_ref, p_nest}
use Rattle.cc_grammar.specs.Symbols.{Symbol}
use Rattle.cc_grammar.specs.Symbols as the
use Rattle.cc_grammar.specs.Trees.{Value, made}
use Rattle.cc_grammar.proofs.Attach.{Found, found_along, found_as, found_row, ElsePart, else_kind, otherwise_is, attach}
use Rattle.cc_grammar.proofs.Basics.{and_first, and_second, or_split, both_ways, words-append, nil_right, apart, has_same}
use Rattle.cc_grammar.proofs.Exists.{token_of}
use Rattle.cc_grammar.proofs.Facts.{Plain, plain, rank_low, else_taken}
use Rattle.cc_grammar.proofs.First.{Starts, first}
use Rattle.cc_grammar.proofs.Parts.{Begun}
use Rattle.cc_grammar.proofs.Samples.{sample, clears, apart_tails}
use Rattle.cc_grammar.proofs.Tables.{tails, rank, is_otherwise, takes_else}

along : (g : Ebnf) (xs ys : List Token) → xs ≡ ys → Whole rule g xs → Whole rule g ys
along g xs ys e w = let F : List Token → Type 0 = λ l. Whole rule g l in subst F e w

along_front : (g : Ebnf) (xs ys : List Token) → xs ≡ ys → Front rule g xs → Front rule g ys
along_front g xs ys e w = let F : List Token → Type 0 = λ l. Front rule g l in subst F e w

-- ---- from phrases to fronts

pub whole : {d : ℕ} {g : Ebnf} {v : Value g} {ms : List Marked} {f : List Kind} → Phrase d g v ms f → Whole rule g (words ms)
whole (p_tok e) = w_tok e
whole (p_seq {a = a} {b = b} {xs = xs} {ys = ys} p q s) = along (seq a b) _ _ (sym (words-append xs ys)) (w_seq (whole p) (whole q))
whole (p_left p) = w_left (whole p)
whole (p_right p) = w_right (whole p)
whole p_end = w_end
whole (p_more {a = a} {xs = xs} {ys = ys} p q s) = along (many a) _ _ (sym (words-append xs ys)) (w_more (whole p) (whole q))
whole p_none = w_none
whole (p_some p) = w_some (whole p)
whole (p_ref p) = w_ref (whole p)
whole (p_nest p) = w_nest (whole p)

-- where a front of two lists ends
pub cut_of : {A : Type 0} (xs ys took more : List A) → xs ++ ys ≡ took ++ more → ((rest : List A) × (xs ≡ took ++ rest)) ⊎ ((next : List A) × (took ≡ xs ++ next) × (ys ≡ next ++ more))
cut_of [] ys took more e = inr (took, refl, e)
cut_of (x ∷ xs) ys [] more e = inl (x ∷ xs, refl)
cut_of {A = A} (x ∷ xs) ys (t ∷ took) more e =
    let same_head : x ≡ t = cc in
    let same_tail : xs ++ ys ≡ took ++ more = cc in
    elim (cut_of xs ys took more same_tail) [
      | inl c ↦ inl (c.0, ap (λ (l : List A). x ∷ l) c.1 ∙ ap (λ h. h ∷ (took ++ c.0)) same_head)
      | inr c ↦ inr (c.0, ap (λ (l : List A). t ∷ l) c.1 ∙ ap (λ h. h ∷ (xs ++ c.0)) (sym same_head), c.2)
    ]

pub front : {d : ℕ} {g : Ebnf} {v : Value g} {ms : List Marked} {f : List Kind} → Phrase d g v ms f → (took more : List Token) → words ms ≡ took ++ more → Front rule g took
front (p_tok e) [] more h = f_before
front (p_tok {k = k} {t = a} e) (t ∷ []) more h =
    let same_token : a ≡ t = cc in along_front (tok k) (a ∷ []) (t ∷ []) (ap (λ c. c ∷ []) same_token) (f_tok e)
front (p_tok e) (t ∷ u ∷ took) more h = absurd cc
front (p_seq {a = a} {b = b} {xs = xs} {ys = ys} p q s) took more h =
    elim (cut_of (words xs) (words ys) took more (sym (words-append xs ys) ∙ h)) [
      | inl c ↦ f_first (front p took c.0 c.1)
      | inr c ↦ along_front (seq a b) (words xs ++ c.0) took (sym c.1) (f_second (whole p) (front q c.0 more c.2))
    ]
front (p_left p) took more h = f_left (front p took more h)
front (p_right p) took more h = f_right (front p took more h)
front p_end [] more h = f_end
front p_end (t ∷ took) more h = absurd cc
front (p_more {a = a} {xs = xs} {ys = ys} p q s) took more h =
    elim (cut_of (words xs) (words ys) took more (sym (words-append xs ys) ∙ h)) [
      | inl c ↦ f_last (front p took c.0 c.1)
      | inr c ↦ along_front (many a) (words xs ++ c.0) took (sym c.1) (f_more (whole p) (front q c.0 more c.2))
    ]
front p_none [] more h = f_none
front p_none (t ∷ took) more h = absurd cc
front (p_some p) took more h = f_some (front p took more h)
front (p_ref p) took more h = f_ref (front p took more h)
front (p_nest p) took more h = f_nest (front p took more h)

-- ---- from fronts to whole phrases

-- what makes a front whole
record Filled (g : Ebnf) (xs : List Token) : Type 0 where
  more : List Token
  filled : Whole rule g (xs ++ more)

sample_whole : (r : ℕ) (g : Ebnf) → Plain r g → Filled g []
sample_whole r g pl = let x = sample r 0 g pl in record { more = words x.marks; filled = whole x.phrase }

fill : {g : Ebnf} {xs : List Token} → Front rule g xs → (r : ℕ) → Plain r g → Filled g xs
fill (f_before {k = k}) r pl = let t = token_of k pl in record { more = t.token ∷ []; filled = w_tok t.same }
fill (f_tok e) r pl = record { more = []; filled = w_tok e }
fill (f_first {a = a} {b = b} {xs = xs} p) r pl =
    let c = fill p r pl.0 in let n = sample_whole r b pl.1 in
    record { more = c.more ++ n.more; filled = along (seq a b) _ _ (append_assoc xs c.more n.more) (w_seq c.filled n.filled) }
fill (f_second {a = a} {b = b} {xs = xs} {ys = ys} w q) r pl =
    let c = fill q r pl.1 in record { more = c.more; filled = along (seq a b) _ _ (sym (append_assoc xs ys c.more)) (w_seq w c.filled) }
fill (f_left p) r pl = let c = fill p r pl.0 in record { more = c.more; filled = w_left c.filled }
fill (f_right p) r pl = let c = fill p r pl.1 in record { more = c.more; filled = w_right c.filled }
fill f_end r pl = record { more = []; filled = w_end }
fill (f_last {a = a} {xs = xs} p) r pl =
    let c = fill p r pl.0 in record { more = c.more; filled = along (many a) _ _ (nil_right (xs ++ c.more)) (w_more c.filled w_end) }
fill (f_more {a = a} {xs = xs} {ys = ys} w q) r pl =
    let c = fill q r pl in record { more = c.more; filled = along (many a) _ _ (sym (append_assoc xs ys c.more)) (w_more w c.filled) }
fill f_none r pl = record { more = []; filled = w_none }
fill (f_some p) r pl = let c = fill p r pl.0 in record { more = c.more; filled = w_some c.filled }
fill (f_ref {s = s} p) r pl = let c = fill p (rank s) (plain s) in record { more = c.more; filled = w_ref c.filled }
fill (f_nest {s = s} p) r pl = let c = fill p (rank s) (plain s) in record { more = c.more; filled = w_nest c.filled }

-- ---- from whole phrases to phrases

clear_else : (f : List Kind) (ms : List Marked) → Starts (opt (ref the.otherwise)) ms → has f else_kind ≡ false → Stops f (words ms)
clear_else f [] s h = tt
clear_else f (m ∷ ms) s h = lacks (has f (kind m.1)) refl
  where
    flipped : (kind m.1 == else_kind) ≡ true
    flipped = elim (or_split (else_kind == kind m.1) false s) [ inl i ↦ (let is = i in grind (arith, is)) | inr i ↦ absurd (no i.1) ]
      where
        no : false ≡ true → ⊥
        no i = cc

    lacks : (b : Bool) → has f (kind m.1) ≡ b → has f (kind m.1) ≡ false
    lacks false i = i
    lacks true i = let both = has_same f (kind m.1) else_kind flipped i in absurd cc

-- An `else` part that has a token is there at every depth.
else_part : (t : Token) (more ts : List Token) → ts ≡ t ∷ more → ((d : ℕ) → Found (Phrase d (opt (ref the.otherwise))) ts) → ElsePart ts
else_part t more ts e f = record { token = t; more = more; begins_so = e; is_else = is_first (f 0); part = λ d. part (f d) }
  where
    part_of : {d : ℕ} {v : Option (Value (ref the.otherwise))} {ms : List Marked} {g : List Kind} → Phrase d (opt (ref the.otherwise)) v ms g → words ms ≡ ts
        → Found (Phrase d (ref the.otherwise)) ts
    part_of p_none h = absurd (nothing (h ∙ e))
      where
        nothing : [] ≡ t ∷ more → ⊥
        nothing i = cc
    part_of (p_some {x = x} {xs = xs} {f = g} p) h = record { value = x; marks = xs; goes = g; phrase = p; spelled = h }

    part : {d : ℕ} → Found (Phrase d (opt (ref the.otherwise))) ts → Found (Phrase d (ref the.otherwise)) ts
    part x = part_of x.phrase x.spelled

    is_one : (ms : List Marked) → Starts (ref the.otherwise) ms → words ms ≡ t ∷ more → (else_kind == kind t) ≡ true
    is_one [] s h = absurd cc
    is_one (m ∷ ms) s h =
        let same : m.1 ≡ t = cc in
        let first_kind = elim (or_split (else_kind == kind m.1) false s) as (λ z. (else_kind == kind m.1) ≡ true) [ inl i ↦ i | inr i ↦ absurd (no i.1) ] in
        rw same at first_kind
      where
        no : false ≡ true → ⊥
        no i = cc

    is_first : Found (Phrase 0 (opt (ref the.otherwise))) ts → (else_kind == kind t) ≡ true
    is_first x = let y = part x in is_one y.marks (first y.phrase) (y.spelled ∙ e)

row_with_else : (d : ℕ) (a : Ebnf) (xs ys : List Token) → takes_else a ≡ true → Found (Phrase d a) xs → ((d : ℕ) → Found (Phrase d (opt (ref the.otherwise))) ys)
    → Found (Phrase d (seq a (opt (ref the.otherwise)))) (xs ++ ys)
row_with_else d a xs ys takes x y = go ys refl (both_ways (has x.goes else_kind))
  where
    row : (us vs : List Token) (p : Found (Phrase d a) us) (q : Found (Phrase d (opt (ref the.otherwise))) vs) → Stops p.goes (words q.marks)
        → Found (Phrase d (seq a (opt (ref the.otherwise)))) (us ++ vs)
    row us vs p q s =
        found_row (Phrase d a) (Phrase d (opt (ref the.otherwise))) (Phrase d (seq a (opt (ref the.otherwise)))) (λ x y. (x, y))
        (λ x y xs ys f g p q s. p_seq p q s) us vs p q s

    none : Found (Phrase d (opt (ref the.otherwise))) []
    none = record { value = None; marks = []; goes = begins (ref the.otherwise); phrase = p_none; spelled = refl }

    go : (zs : List Token) → ys ≡ zs → (has x.goes else_kind ≡ true) ⊎ (has x.goes else_kind ≡ false) → Found (Phrase d (seq a (opt (ref the.otherwise)))) (xs ++ ys)
    go zs e (inr i) = row xs ys x (y d) (clear_else x.goes (y d).marks (first (y d).phrase) i)
    go [] e (inl i) =
        found_along (Phrase d (seq a (opt (ref the.otherwise)))) (xs ++ []) (xs ++ ys) (ap (λ (l : List Token). xs ++ l) (sym e)) (row xs [] x none tt)
    go (t ∷ more) e (inl i) =
        let n = attach x.phrase takes i ys (else_part t more ys e y) in
        found_along (Phrase d (seq a (opt (ref the.otherwise)))) ((words x.marks ++ ys) ++ []) (xs ++ ys)
        (nil_right (words x.marks ++ ys) ∙ ap (λ (l : List Token). l ++ ys) x.spelled)
        (row (words x.marks ++ ys) [] n none tt)

row_of : (d : ℕ) (a b : Ebnf) (xs ys : List Token) → (apart (tails a) (begins b) || is_otherwise b) ≡ true → takes_else a ≡ true
    → Found (Phrase d a) xs → ((d : ℕ) → Found (Phrase d b) ys) → Found (Phrase d (seq a b)) (xs ++ ys)
row_of d a b xs ys e takes x y = go (or_split (apart (tails a) (begins b)) (is_otherwise b) e)
  where
    is_some : (c : Ebnf) → is_otherwise c ≡ true → c ≡ opt (ref the.otherwise)
    is_some (opt c) h = ap (λ c. opt c) (otherwise_is c h)
    is_some (tok k) h = absurd cc
    is_some (seq c c') h = absurd cc
    is_some (alt c c') h = absurd cc
    is_some (many c) h = absurd cc
    is_some (ref s) h = absurd cc
    is_some (nest s) h = absurd cc

    go : (apart (tails a) (begins b) ≡ true) ⊎ ((apart (tails a) (begins b) ≡ false) × (is_otherwise b ≡ true)) → Found (Phrase d (seq a b)) (xs ++ ys)
    go (inl h) =
        let z = y d in
        found_row (Phrase d a) (Phrase d b) (Phrase d (seq a b)) (λ x y. (x, y)) (λ x y xs ys f g p q s. p_seq p q s) xs ys x z
        (clears x.goes b z.marks (apart_tails b x.phrase h) (first z.phrase))
    go (inr h) =
        let F : Ebnf → Type 0 = λ c. (((d : ℕ) → Found (Phrase d c) ys) → Found (Phrase d (seq a c)) (xs ++ ys)) in
        subst F (sym (is_some b h.1)) (λ z. row_with_else d a xs ys takes x z) y

pub found : {g : Ebnf} {xs : List Token} → Whole rule g xs → (r : ℕ) → Plain r g → takes_else g ≡ true → (d : ℕ) → Found (Phrase d g) xs
found (w_tok {t = t} e) r pl te d = record { value = t; marks = (d, t) ∷ []; goes = []; phrase = p_tok e; spelled = refl }
found (w_seq {a = a} {b = b} {xs = xs} {ys = ys} p q) r pl te d =
    row_of d a b xs ys pl.2 (and_first (takes_else a) (takes_else b) te) (found p r pl.0 (and_first (takes_else a) (takes_else b) te) d)
    (λ n. found q r pl.1 (and_second (takes_else a) (takes_else b) te) n)
found (w_left {a = a} {b = b} {xs = xs} p) r pl te d =
    found_as (Phrase d a) (Phrase d (alt a b)) inl (λ x ms f p. p_left p) xs (found p r pl.0 (and_first (takes_else a) (takes_else b) te) d)
found (w_right {a = a} {b = b} {xs = xs} p) r pl te d =
    found_as (Phrase d b) (Phrase d (alt a b)) inr (λ x ms f p. p_right p) xs (found p r pl.1 (and_second (takes_else a) (takes_else b) te) d)
found (w_end {a = a}) r pl te d = record { value = []; marks = []; goes = begins a; phrase = p_end; spelled = refl }
found (w_more {a = a} {xs = xs} {ys = ys} p q) r pl te d =
    let x = found p r pl.0 (and_first (takes_else a) _ te) d in
    let y = found q r pl te d in
    found_row (Phrase d a) (Phrase d (many a)) (Phrase d (many a)) (λ x xs. x ∷ xs) (λ x y xs ys f g p q s. p_more p q s) xs ys x y
    (clears x.goes (many a) y.marks (apart_tails (many a) x.phrase pl.2) (first y.phrase))
found (w_none {a = a}) r pl te d = record { value = None; marks = []; goes = begins a; phrase = p_none; spelled = refl }
found (w_some {a = a} {xs = xs} p) r pl te d =
    found_as (Phrase d a) (Phrase d (opt a)) (λ x. Some x) (λ x ms f p. p_some p) xs (found p r pl.0 (and_first (takes_else a) _ te) d)
found (w_ref {s = s} {xs = xs} p) r pl te d =
    found_as (Phrase d (rule s)) (Phrase d (ref s)) (made s) (λ x ms f p. p_ref p) xs (found p (rank s) (plain s) (else_taken s) d)
found (w_nest {s = s} {xs = xs} p) r pl te d =
    found_as (Phrase (suc d) (rule s)) (Phrase d (nest s)) (made s) (λ x ms f p. p_nest p) xs (found p (rank s) (plain s) (else_taken s) (suc d))

-- A front of a symbol begins a phrase of it.
pub begun : (d : ℕ) (s : Symbol) (xs : List Token) → Front rule (ref s) xs → Begun (Phrase d (ref s)) xs
begun d s xs p =
    let c = fill p 23 (rank_low s) in
    let x = found c.filled 23 (rank_low s) refl d in
    record { value = x.value; marks = x.marks; goes = x.goes; phrase = x.phrase; more = c.more; spelled = x.spelled }

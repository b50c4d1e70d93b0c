-- One form beneath another: its phrases and its fronts are phrases and fronts of the other.
use Rattle.std.proofs.Common.{◌≡◌, List, [], sym, subst, append_assoc}
use Rattle.cc_lex.specs.declared.token.Token.{Token}
use Rattle.cc_grammar.specs.Ebnf.{Ebnf, seq, alt, many, opt, ref}
use Rattle.cc_grammar.specs.Fronts.{Whole, w_tok, w_seq, w_left, w_right, w_end, w_more, w_none, w_some, w_ref, w_nest, Front, f_tok, f_first, f_second, f_left, f_right, f_end, f_last, f_more, f_none, f_some, f_ref, f_nest}
use Rattle.cc_grammar.specs.Symbols.{Symbol}
use Rattle.cc_grammar.proofs.Basics.{nil_right}

pub record Under (rules : Symbol → Ebnf) (g h : Ebnf) : Type 0 where
  pub whole : (xs : List Token) → Whole rules g xs → Whole rules h xs
  pub front : (xs : List Token) → Front rules g xs → Front rules h xs

module _ (rules : Symbol → Ebnf) where
  along : (g : Ebnf) (xs ys : List Token) → xs ≡ ys → Whole rules g xs → Whole rules g ys
  along g xs ys e w = let F : List Token → Type 0 = λ l. Whole rules g l in subst F e w

  along_front : (g : Ebnf) (xs ys : List Token) → xs ≡ ys → Front rules g xs → Front rules g ys
  along_front g xs ys e w = let F : List Token → Type 0 = λ l. Front rules g l in subst F e w

  pub keep : (g : Ebnf) → Under rules g g
  keep g = record { whole = λ xs w. w; front = λ xs p. p }

  pub via : {g h k : Ebnf} → Under rules g h → Under rules h k → Under rules g k
  via u v = record { whole = λ xs w. v.whole xs (u.whole xs w); front = λ xs p. v.front xs (u.front xs p) }

  -- ---- the parts of a form

  pub in_seq : {a b c e : Ebnf} → Under rules a b → Under rules c e → Under rules (seq a c) (seq b e)
  in_seq {a = a} {b = b} {c = c} {e = e} u v = record { whole = whole; front = front }
    where
      whole : (xs : List Token) → Whole rules (seq a c) xs → Whole rules (seq b e) xs
      whole xs (w_seq {xs = ys} {ys = zs} p q) = w_seq (u.whole ys p) (v.whole zs q)

      front : (xs : List Token) → Front rules (seq a c) xs → Front rules (seq b e) xs
      front xs (f_first p) = f_first (u.front xs p)
      front xs (f_second {xs = ys} {ys = zs} p q) = f_second (u.whole ys p) (v.front zs q)

  pub from_alt : {a b h : Ebnf} → Under rules a h → Under rules b h → Under rules (alt a b) h
  from_alt {a = a} {b = b} {h = h} u v = record { whole = whole; front = front }
    where
      whole : (xs : List Token) → Whole rules (alt a b) xs → Whole rules h xs
      whole xs (w_left p) = u.whole xs p
      whole xs (w_right p) = v.whole xs p

      front : (xs : List Token) → Front rules (alt a b) xs → Front rules h xs
      front xs (f_left p) = u.front xs p
      front xs (f_right p) = v.front xs p

  pub to_left : {a b : Ebnf} → Under rules a (alt a b)
  to_left = record { whole = λ xs w. w_left w; front = λ xs p. f_left p }

  pub to_right : {a b : Ebnf} → Under rules b (alt a b)
  to_right = record { whole = λ xs w. w_right w; front = λ xs p. f_right p }

  pub in_alt : {a b c e : Ebnf} → Under rules a b → Under rules c e → Under rules (alt a c) (alt b e)
  in_alt u v = from_alt (via u to_left) (via v to_right)

  whole_many : {a b : Ebnf} → Under rules a b → (xs : List Token) → Whole rules (many a) xs → Whole rules (many b) xs
  whole_many u xs w_end = w_end
  whole_many u xs (w_more {xs = ys} {ys = zs} p q) = w_more (u.whole ys p) (whole_many u zs q)

  front_many : {a b : Ebnf} → Under rules a b → (xs : List Token) → Front rules (many a) xs → Front rules (many b) xs
  front_many u xs f_end = f_end
  front_many u xs (f_last p) = f_last (u.front xs p)
  front_many u xs (f_more {xs = ys} {ys = zs} p q) = f_more (u.whole ys p) (front_many u zs q)

  pub in_many : {a b : Ebnf} → Under rules a b → Under rules (many a) (many b)
  in_many u = record { whole = whole_many u; front = front_many u }

  pub in_opt : {a b : Ebnf} → Under rules a b → Under rules (opt a) (opt b)
  in_opt {a = a} {b = b} u = record { whole = whole; front = front }
    where
      whole : (xs : List Token) → Whole rules (opt a) xs → Whole rules (opt b) xs
      whole xs w_none = w_none
      whole xs (w_some p) = w_some (u.whole xs p)

      front : (xs : List Token) → Front rules (opt a) xs → Front rules (opt b) xs
      front xs f_none = f_none
      front xs (f_some p) = f_some (u.front xs p)

  pub unfold_ref : (s : Symbol) → Under rules (ref s) (rules s)
  unfold_ref s = record { whole = whole; front = front }
    where
      whole : (xs : List Token) → Whole rules (ref s) xs → Whole rules (rules s) xs
      whole xs (w_ref p) = p

      front : (xs : List Token) → Front rules (ref s) xs → Front rules (rules s) xs
      front xs (f_ref p) = p

  pub fold_ref : (s : Symbol) → Under rules (rules s) (ref s)
  fold_ref s = record { whole = λ xs w. w_ref w; front = λ xs p. f_ref p }

  -- ---- rows and choices

  -- a row whose last part is a choice is a choice of rows
  pub spread : (a b c : Ebnf) → Under rules (seq a (alt b c)) (alt (seq a b) (seq a c))
  spread a b c = record { whole = whole; front = front }
    where
      whole : (xs : List Token) → Whole rules (seq a (alt b c)) xs → Whole rules (alt (seq a b) (seq a c)) xs
      whole xs (w_seq p (w_left q)) = w_left (w_seq p q)
      whole xs (w_seq p (w_right q)) = w_right (w_seq p q)

      front : (xs : List Token) → Front rules (seq a (alt b c)) xs → Front rules (alt (seq a b) (seq a c)) xs
      front xs (f_first p) = f_left (f_first p)
      front xs (f_second p (f_left q)) = f_left (f_second p q)
      front xs (f_second p (f_right q)) = f_right (f_second p q)

  -- likewise where the first part is one
  pub spread_first : (a b c : Ebnf) → Under rules (seq (alt a b) c) (alt (seq a c) (seq b c))
  spread_first a b c = record { whole = whole; front = front }
    where
      whole : (xs : List Token) → Whole rules (seq (alt a b) c) xs → Whole rules (alt (seq a c) (seq b c)) xs
      whole xs (w_seq (w_left p) q) = w_left (w_seq p q)
      whole xs (w_seq (w_right p) q) = w_right (w_seq p q)

      front : (xs : List Token) → Front rules (seq (alt a b) c) xs → Front rules (alt (seq a c) (seq b c)) xs
      front xs (f_first (f_left p)) = f_left (f_first p)
      front xs (f_first (f_right p)) = f_right (f_first p)
      front xs (f_second (w_left p) q) = f_left (f_second p q)
      front xs (f_second (w_right p) q) = f_right (f_second p q)

  pub regroup : (a b c : Ebnf) → Under rules (seq (seq a b) c) (seq a (seq b c))
  regroup a b c = record { whole = whole; front = front }
    where
      whole : (xs : List Token) → Whole rules (seq (seq a b) c) xs → Whole rules (seq a (seq b c)) xs
      whole xs (w_seq {ys = zs} (w_seq {xs = us} {ys = vs} p q) r) = along (seq a (seq b c)) _ _ (sym (append_assoc us vs zs)) (w_seq p (w_seq q r))

      front : (xs : List Token) → Front rules (seq (seq a b) c) xs → Front rules (seq a (seq b c)) xs
      front xs (f_first (f_first p)) = f_first p
      front xs (f_first (f_second p q)) = f_second p (f_first q)
      front xs (f_second {ys = zs} (w_seq {xs = us} {ys = vs} p q) r) =
          along_front (seq a (seq b c)) _ _ (sym (append_assoc us vs zs)) (f_second p (f_second q r))

  pub group : (a b c : Ebnf) → Under rules (seq a (seq b c)) (seq (seq a b) c)
  group a b c = record { whole = whole; front = front }
    where
      whole : (xs : List Token) → Whole rules (seq a (seq b c)) xs → Whole rules (seq (seq a b) c) xs
      whole xs (w_seq {xs = us} p (w_seq {xs = vs} {ys = zs} q r)) = along (seq (seq a b) c) _ _ (append_assoc us vs zs) (w_seq (w_seq p q) r)

      front : (xs : List Token) → Front rules (seq a (seq b c)) xs → Front rules (seq (seq a b) c) xs
      front xs (f_first p) = f_first (f_first p)
      front xs (f_second p (f_first q)) = f_first (f_second p q)
      front xs (f_second {xs = us} p (f_second {xs = vs} {ys = zs} q r)) =
          along_front (seq (seq a b) c) _ _ (append_assoc us vs zs) (f_second (w_seq p q) r)

  -- ---- what may be left out

  pub some : {a : Ebnf} → Under rules a (opt a)
  some = record { whole = λ xs w. w_some w; front = λ xs p. f_some p }

  pub skip : {a b : Ebnf} → Under rules b (seq (opt a) b)
  skip = record { whole = λ xs w. w_seq w_none w; front = λ xs p. f_second w_none p }

  pub stop : {a b : Ebnf} → Under rules a (seq a (opt b))
  stop {a = a} {b = b} = record { whole = λ xs w. along (seq a (opt b)) _ _ (nil_right xs) (w_seq w w_none); front = λ xs p. f_first p }

  whole_front : {g : Ebnf} {xs : List Token} → Whole rules g xs → Front rules g xs
  whole_front (w_tok e) = f_tok e
  whole_front (w_seq p q) = f_second p (whole_front q)
  whole_front (w_left p) = f_left (whole_front p)
  whole_front (w_right p) = f_right (whole_front p)
  whole_front w_end = f_end
  whole_front (w_more p q) = f_more p (whole_front q)
  whole_front w_none = f_none
  whole_front (w_some p) = f_some (whole_front p)
  whole_front (w_ref p) = f_ref (whole_front p)
  whole_front (w_nest p) = f_nest (whole_front p)

  -- a row that begins with a part which may be left out
  pub first_or_not : (a b : Ebnf) → Front rules b [] → Under rules (seq (opt a) b) (alt (seq a b) b)
  first_or_not a b none = record { whole = whole; front = front }
    where
      whole : (xs : List Token) → Whole rules (seq (opt a) b) xs → Whole rules (alt (seq a b) b) xs
      whole xs (w_seq w_none q) = w_right q
      whole xs (w_seq (w_some p) q) = w_left (w_seq p q)

      front : (xs : List Token) → Front rules (seq (opt a) b) xs → Front rules (alt (seq a b) b) xs
      front xs (f_first f_none) = f_right none
      front xs (f_first (f_some p)) = f_left (f_first p)
      front xs (f_second w_none q) = f_right q
      front xs (f_second (w_some p) q) = f_left (f_second p q)

  -- a row that ends with one
  pub last_or_not : (a b : Ebnf) → Under rules (seq a (opt b)) (alt a (seq a b))
  last_or_not a b = record { whole = whole; front = front }
    where
      whole : (xs : List Token) → Whole rules (seq a (opt b)) xs → Whole rules (alt a (seq a b)) xs
      whole xs (w_seq {xs = ys} p w_none) = along (alt a (seq a b)) _ _ (sym (nil_right ys)) (w_left p)
      whole xs (w_seq p (w_some q)) = w_right (w_seq p q)

      front : (xs : List Token) → Front rules (seq a (opt b)) xs → Front rules (alt a (seq a b)) xs
      front xs (f_first p) = f_left p
      front xs (f_second {xs = ys} p f_none) = along_front (alt a (seq a b)) _ _ (sym (nil_right ys)) (f_left (whole_front p))
      front xs (f_second p (f_some q)) = f_right (f_second p q)

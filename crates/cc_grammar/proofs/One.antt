-- A list of tokens has one answer.
use Rattle.std.proofs.Common.{◌≡◌, ℕ, ◌<◌, List, [], ◌∷◌, ◌++◌, length, ◌⊎◌, inl, inr, Result, Ok, Err, refl, sym, ◌∙◌, ap, subst, append_assoc, arith}
use Rattle.std.proofs.lemmas.List.{append_cancel_left}
use Rattle.cc_base.specs.declared.names.Place.{Place}
use Rattle.cc_lex.specs.TokenList.{TokenList}
use Rattle.cc_lex.specs.declared.token.Token.{Token}
use Rattle.cc_grammar.specs.Phrases.{Marked, words}
use Rattle.cc_grammar.specs.Sentences.{Sentence, Viable, limit, Shallow, FirstTooDeep, Refused, place_of, IsTree, IsSyntax, IsTooDeep, Parses}
use Rattle.cc_grammar.specs.declared.fault.ParseError.{ParseError}
use Rattle.cc_grammar.specs.declared.fault.ParseError.TheVariants as error
use Rattle.cc_grammar.specs.declared.tree.Tree.{Tree}
use Rattle.cc_grammar.proofs.Basics.{nil_right}
use Rattle.cc_grammar.proofs.Fronts.{cut_of}
use Rattle.cc_grammar.proofs.Parsed.{one_tree}
use Rattle.cc_grammar.proofs.Viability.{begins_of, viable_of}

-- the marks of a list that goes on behind some tokens with this one
record Split (ms : List Marked) (took : List Token) (t : Token) (more : List Token) : Type 0 where
  front : List Marked
  mark : Marked
  back : List Marked
  whole : ms ≡ front ++ mark ∷ back
  before : words front ≡ took
  here : mark.1 ≡ t
  behind : words back ≡ more

split : (ms : List Marked) (took : List Token) (t : Token) (more : List Token) → words ms ≡ took ++ t ∷ more → Split ms took t more
split [] [] t more e = absurd cc
split [] (c ∷ took) t more e = absurd cc
split (m ∷ ms) [] t more e = record { front = []; mark = m; back = ms; whole = refl; before = refl; here = cc; behind = cc }
split (m ∷ ms) (c ∷ took) t more e =
    let same_head : m.1 ≡ c = cc in
    let same_tail : words ms ≡ took ++ t ∷ more = cc in
    let s = split ms took t more same_tail in
    record {
      front = m ∷ s.front;
      mark = s.mark;
      back = s.back;
      whole = ap (λ (l : List Marked). m ∷ l) s.whole;
      before = ap (λ (l : List Token). m.1 ∷ l) s.before ∙ ap (λ z. z ∷ took) same_head;
      here = s.here;
      behind = s.behind;
    }

shallow_at : (front back : List Marked) (m : Marked) → Shallow (front ++ m ∷ back) → limit < m.0 → ⊥
shallow_at [] back m s d = let low = s.0 in omega (arith, low, d)
shallow_at (n ∷ front) back m s d = shallow_at front back m s.1 d

viable_front : (xs ys : List Token) → Viable (xs ++ ys) → Viable xs
viable_front xs ys v =
    let b = begins_of (xs ++ ys) v in
    viable_of xs (record { tree = b.tree; marks = b.marks; sentence = b.sentence; more = ys ++ b.more; spelled = b.spelled ∙ append_assoc xs ys b.more })

viable_to : (xs ys : List Token) (t : Token) → Viable (xs ++ t ∷ ys) → Viable (xs ++ t ∷ [])
viable_to xs ys t v = let F : List Token → Type 0 = λ l. Viable l in viable_front (xs ++ t ∷ []) ys (subst F (sym (append_assoc xs (t ∷ []) ys)) v)

-- Tokens that are refused are no front of what is viable.
module _ (took rest : List Token) (out : Refused took rest) where
  not_beyond : (longer : List Token) (t : Token) (more over : List Token) → Viable longer → longer ≡ took ++ t ∷ more → rest ≡ t ∷ over → ⊥
  not_beyond longer t more over v e h =
      let F : List Token → Type 0 = λ l. Viable l in
      let G : List Token → Type 0 = λ l. Refused took l in
      let no_more : Viable (took ++ t ∷ []) → ⊥ = subst G h out in
      no_more (viable_to took more t (subst F e v))

-- The first token that is too deep is in no front without such tokens.
not_shallow : (took more : List Token) (t : Token) → FirstTooDeep took t → (x : Tree) (front back : List Marked) → Sentence x (front ++ back)
    → words front ≡ took ++ t ∷ more → Shallow front → ⊥
not_shallow took more t deep x front back p e shallow =
    let s = split front took t more e in
    let F : List Marked → Type 0 = λ l. Sentence x l in
    let G : List Marked → Type 0 = λ l. Shallow l in
    let line : front ++ back ≡ s.front ++ s.mark ∷ (s.back ++ back) = ap (λ (l : List Marked). l ++ back) s.whole ∙ append_assoc s.front (s.mark ∷ s.back) back in
    let too = deep x s.front (s.back ++ back) s.mark (subst F line p) s.before s.here in
    shallow_at s.front s.back s.mark (subst G s.whole shallow) too.1

cut_marks : (ms : List Marked) (xs ys : List Token) → words ms ≡ xs ++ ys → (front back : List Marked) × (ms ≡ front ++ back) × (words front ≡ xs)
cut_marks ms [] ys e = ([], ms, refl, refl)
cut_marks [] (x ∷ xs) ys e = absurd cc
cut_marks (m ∷ ms) (x ∷ xs) ys e =
    let same_head : m.1 ≡ x = cc in
    let same_tail : words ms ≡ xs ++ ys = cc in
    let c = cut_marks ms xs ys same_tail in
    (m ∷ c.0, c.1, ap (λ (l : List Marked). m ∷ l) c.2, ap (λ (l : List Token). m.1 ∷ l) c.3 ∙ ap (λ z. z ∷ xs) same_head)

-- ---- two answers

-- of two fronts of a list the one is a front of the other
fronts : (one rest other over : List Token) → one ++ rest ≡ other ++ over
    → ((more : List Token) × (one ≡ other ++ more) × (over ≡ more ++ rest)) ⊎ ((more : List Token) × (other ≡ one ++ more) × (rest ≡ more ++ over))
fronts one rest other over e =
    elim (cut_of one rest other over e) [
      | inl c ↦ inl (c.0, c.1, append_cancel_left other over (c.0 ++ rest) (sym e ∙ ap (λ (l : List Token). l ++ rest) c.1 ∙ append_assoc other c.0 rest))
      | inr c ↦ inr (c.0, c.1, c.2)
    ]

module _ (list : TokenList) where
  trees : (x y : Tree) → IsTree list x → IsTree list y → x ≡ y
  trees x y a b = one_tree x y a.marks b.marks a.sentence b.sentence (a.spelled ∙ sym b.spelled)

  tree_syntax : (x : Tree) (at : ℕ) (place : Place) → IsTree list x → IsSyntax list at place → ⊥
  tree_syntax x at place a b = go b.rest b.refused (a.spelled ∙ b.split)
    where
      go : (rest : List Token) → Refused b.took rest → words a.marks ≡ b.took ++ rest → ⊥
      go [] out e = out x a.marks a.sentence (e ∙ nil_right b.took)
      go (t ∷ over) out e = out (viable_of (b.took ++ t ∷ []) (record {
        tree = x;
        marks = a.marks;
        sentence = a.sentence;
        more = over;
        spelled = e ∙ sym (append_assoc b.took (t ∷ []) over);
      }))

  tree_deep : (x : Tree) (place : Place) → IsTree list x → IsTooDeep list place → ⊥
  tree_deep x place a b =
      let s = split a.marks b.took b.token b.rest (a.spelled ∙ b.split) in
      let F : List Marked → Type 0 = λ l. Sentence x l in
      let G : List Marked → Type 0 = λ l. Shallow l in
      let too = b.deep x s.front s.back s.mark (subst F s.whole a.sentence) s.before s.here in
      shallow_at s.front s.back s.mark (subst G s.whole a.shallow) too.1

  -- the one that took no more than the other
  syntax_first : (at at' : ℕ) (place place' : Place) (a : IsSyntax list at place) (b : IsSyntax list at' place') → (more : List Token) → b.took ≡ a.took ++ more → a.rest ≡ more ++ b.rest
      → (at ≡ at') × (place ≡ place')
  syntax_first at at' place place' a b [] e h =
      (sym a.counted ∙ ap length (sym (nil_right a.took) ∙ sym e) ∙ b.counted, a.placed ∙ ap (λ (l : List Token). place_of l list.end) h ∙ sym b.placed)
  syntax_first at at' place place' a b (t ∷ more) e h = absurd (not_beyond a.took a.rest a.refused b.took t more (more ++ b.rest) b.viable e h)

  syntaxes : (at at' : ℕ) (place place' : Place) → IsSyntax list at place → IsSyntax list at' place' → (at ≡ at') × (place ≡ place')
  syntaxes at at' place place' a b =
      elim (fronts a.took a.rest b.took b.rest (sym a.split ∙ b.split)) [
        | inl c ↦ (let s = syntax_first at' at place' place b a c.0 c.1 c.2 in (sym s.0, sym s.1))
        | inr c ↦ syntax_first at at' place place' a b c.0 c.1 c.2
      ]

  syntax_deep : (at : ℕ) (place place' : Place) → IsSyntax list at place → IsTooDeep list place' → ⊥
  syntax_deep at place place' a b = go (fronts a.took a.rest b.took (b.token ∷ b.rest) (sym a.split ∙ b.split))
    where
      -- the Syntax is at this token
      here : a.took ≡ b.took → a.rest ≡ b.token ∷ b.rest → ⊥
      here e h = not_beyond a.took a.rest a.refused (b.took ++ b.token ∷ []) b.token [] b.rest b.viable (ap (λ (l : List Token). l ++ b.token ∷ []) (sym e)) h

      -- it is behind it
      behind : (more : List Token) → a.took ≡ b.took ++ more → b.token ∷ b.rest ≡ more ++ a.rest → ⊥
      behind [] e h = here (e ∙ nil_right b.took) (sym h)
      behind (t ∷ more) e h =
          let same_token : t ≡ b.token = cc in
          let v = begins_of a.took a.viable in
          let c = cut_marks v.marks a.took v.more v.spelled in
          let F : List Marked → Type 0 = λ l. Sentence v.tree l in
          let p : Sentence v.tree (c.0 ++ c.1) = subst F c.2 v.sentence in
          not_shallow b.took more b.token b.deep v.tree c.0 c.1 p (c.3 ∙ e ∙ ap (λ z. b.took ++ z ∷ more) same_token) (a.shallow v.tree c.0 c.1 p c.3)

      -- it is before it
      before : (more : List Token) → b.took ≡ a.took ++ more → a.rest ≡ more ++ b.token ∷ b.rest → ⊥
      before [] e h = here (sym (e ∙ nil_right a.took)) h
      before (t ∷ more) e h =
          not_beyond a.took a.rest a.refused (b.took ++ b.token ∷ []) t (more ++ b.token ∷ []) (more ++ b.token ∷ b.rest) b.viable
          (ap (λ (l : List Token). l ++ b.token ∷ []) e ∙ append_assoc a.took (t ∷ more) (b.token ∷ [])) h

      go : ((more : List Token) × (a.took ≡ b.took ++ more) × (b.token ∷ b.rest ≡ more ++ a.rest))
          ⊎ ((more : List Token) × (b.took ≡ a.took ++ more) × (a.rest ≡ more ++ b.token ∷ b.rest)) → ⊥
      go (inl c) = behind c.0 c.1 c.2
      go (inr c) = before c.0 c.1 c.2

  -- the one that took no more than the other
  deep_first : (place place' : Place) (a : IsTooDeep list place) (b : IsTooDeep list place') → (more : List Token) → b.took ≡ a.took ++ more
      → a.token ∷ a.rest ≡ more ++ b.token ∷ b.rest → place ≡ place'
  deep_first place place' a b [] e h = let same_token : a.token ≡ b.token = cc in a.placed ∙ ap (λ (t : Token). t.place) same_token ∙ sym b.placed
  deep_first place place' a b (t ∷ more) e h =
      let same_token : t ≡ a.token = cc in
      let v = begins_of (b.took ++ b.token ∷ []) b.viable in
      let s = split v.marks b.took b.token v.more (v.spelled ∙ append_assoc b.took (b.token ∷ []) v.more) in
      let F : List Marked → Type 0 = λ l. Sentence v.tree l in
      let p : Sentence v.tree (s.front ++ s.mark ∷ s.back) = subst F s.whole v.sentence in
      absurd (not_shallow a.took more a.token a.deep v.tree s.front (s.mark ∷ s.back) p (s.before ∙ e ∙ ap (λ z. a.took ++ z ∷ more) same_token)
      (b.deep v.tree s.front s.back s.mark p s.before s.here).0)

  deeps : (place place' : Place) → IsTooDeep list place → IsTooDeep list place' → place ≡ place'
  deeps place place' a b =
      elim (fronts a.took (a.token ∷ a.rest) b.took (b.token ∷ b.rest) (sym a.split ∙ b.split)) [
        | inl c ↦ sym (deep_first place' place b a c.0 c.1 c.2)
        | inr c ↦ deep_first place place' a b c.0 c.1 c.2
      ]

-- but for want of memory
pub one_answer : (list : TokenList) (a b : Result Tree ParseError) → Parses list a → Parses list b → (a ≡ b) ⊎ ((a ≡ Err error.Memory) ⊎ (b ≡ Err error.Memory))
one_answer list (Err error.Memory) b p q = inr (inl refl)
one_answer list (Ok x) (Err error.Memory) p q = inr (inr refl)
one_answer list (Err (error.Syntax at place)) (Err error.Memory) p q = inr (inr refl)
one_answer list (Err (error.TooDeep place)) (Err error.Memory) p q = inr (inr refl)
one_answer list (Ok x) (Ok y) p q = inl (ap (λ (t : Tree). Ok t) (trees list x y p q))
one_answer list (Ok x) (Err (error.Syntax at place)) p q = absurd (tree_syntax list x at place p q)
one_answer list (Ok x) (Err (error.TooDeep place)) p q = absurd (tree_deep list x place p q)
one_answer list (Err (error.Syntax at place)) (Ok x) p q = absurd (tree_syntax list x at place q p)
one_answer list (Err (error.Syntax at place)) (Err (error.Syntax at' place')) p q =
    let same = syntaxes list at at' place place' p q in
    inl (ap (λ n. Err (error.Syntax n place)) same.0 ∙ ap (λ (c : Place). Err (error.Syntax at' c)) same.1)
one_answer list (Err (error.Syntax at place)) (Err (error.TooDeep place')) p q = absurd (syntax_deep list at place place' p q)
one_answer list (Err (error.TooDeep place)) (Ok x) p q = absurd (tree_deep list x place q p)
one_answer list (Err (error.TooDeep place)) (Err (error.Syntax at place')) p q = absurd (syntax_deep list at place' place q p)
one_answer list (Err (error.TooDeep place)) (Err (error.TooDeep place')) p q = inl (ap (λ (c : Place). Err (error.TooDeep c)) (deeps list place place' p q))

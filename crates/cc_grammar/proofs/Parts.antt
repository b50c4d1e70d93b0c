-- Fronts of phrases: from those of parts to those of the whole.
use Rattle.std.proofs.Common.{◌≡◌, List, [], ◌++◌, sym, ◌∙◌, ap, append_assoc}
use Rattle.cc_lex.specs.declared.token.Token.{Token}
use Rattle.cc_grammar.specs.Kinds.{Kind}
use Rattle.cc_grammar.specs.Phrases.{Marked, words, Stops, joined}
use Rattle.cc_grammar.proofs.Basics.{words-append}

-- which values, tokens and kinds that go on belong together, as for the phrases of one form
abbrev pub Relation : Type 0 → Type 1
Relation A = A → List Marked → List Kind → Type 0

-- These tokens begin a phrase.
pub record Begun {A : Type 0} (P : A → List Marked → List Kind → Type 0) (took : List Token) : Type 0 where
  pub value : A
  pub marks : List Marked
  pub goes : List Kind
  pub phrase : P value marks goes
  pub more : List Token
  pub spelled : words marks ≡ took ++ more

-- a phrase that may stand next
pub record Next {B : Type 0} (Q : B → List Marked → List Kind → Type 0) (f : List Kind) : Type 0 where
  pub value : B
  pub marks : List Marked
  pub goes : List Kind
  pub phrase : Q value marks goes
  pub clear : Stops f (words marks)

-- A value that is made of another's has the same tokens.
module _ {A C : Type 0} (P : A → List Marked → List Kind → Type 0) (R : C → List Marked → List Kind → Type 0) (h : A → C)
    (mk : (x : A) (ms : List Marked) (f : List Kind) → P x ms f → R (h x) ms f) where
  pub begun_as : (took : List Token) → Begun P took → Begun R took
  begun_as took b = record {
    value = h b.value;
    marks = b.marks;
    goes = b.goes;
    phrase = mk b.value b.marks b.goes b.phrase;
    more = b.more;
    spelled = b.spelled;
  }

-- the parts of a row
module _ {A B C : Type 0} (P : A → List Marked → List Kind → Type 0) (Q : B → List Marked → List Kind → Type 0) (R : C → List Marked → List Kind → Type 0)
    (h : A → B → C)
    (mk : (x : A) (y : B) (xs ys : List Marked) (f g : List Kind) → P x xs f → Q y ys g → Stops f (words ys) → R (h x y) (xs ++ ys) (joined f g ys)) where
  -- the first part is begun
  pub filled : ((x : A) (xs : List Marked) (f : List Kind) → P x xs f → Next Q f) → (took : List Token) → Begun P took → Begun R took
  filled next took b =
      let n = next b.value b.marks b.goes b.phrase in
      record {
        value = h b.value n.value;
        marks = b.marks ++ n.marks;
        goes = joined b.goes n.goes n.marks;
        phrase = mk b.value n.value b.marks n.marks b.goes n.goes b.phrase n.phrase n.clear;
        more = b.more ++ words n.marks;
        spelled = words-append b.marks n.marks ∙ ap (λ (l : List Token). l ++ words n.marks) b.spelled ∙ append_assoc took b.more (words n.marks);
      }

  -- the second part is begun
  pub begun_second : (x : A) (xs : List Marked) (f : List Kind) → P x xs f → (took : List Token) (b : Begun Q took) → Stops f (words b.marks)
      → Begun R (words xs ++ took)
  begun_second x xs f p took b s =
      record {
        value = h x b.value;
        marks = xs ++ b.marks;
        goes = joined f b.goes b.marks;
        phrase = mk x b.value xs b.marks f b.goes p b.phrase s;
        more = b.more;
        spelled = words-append xs b.marks ∙ ap (λ (l : List Token). words xs ++ l) b.spelled ∙ sym (append_assoc (words xs) took b.more);
      }

  -- only the first part is there
  pub none_begun : (x : A) (xs : List Marked) (f : List Kind) → P x xs f → Next Q f → Begun R (words xs ++ [])
  none_begun x xs f p n =
      record {
        value = h x n.value;
        marks = xs ++ n.marks;
        goes = joined f n.goes n.marks;
        phrase = mk x n.value xs n.marks f n.goes p n.phrase n.clear;
        more = words n.marks;
        spelled = words-append xs n.marks ∙ sym (append_assoc (words xs) [] (words n.marks));
      }

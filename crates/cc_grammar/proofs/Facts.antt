-- What the tests of the tables say.
use Rattle.std.proofs.Common.{◌≡◌, ℕ, ◌<◌, Bool, true, false, ◌||◌, ◌&&◌, not, sym}
use Rattle.std.specs.Prelude.{nat_lt}
use Rattle.std.proofs.lemmas.Bool.{ltb-true}
use Rattle.cc_grammar.specs.Begins.{has, starts, nullable, empty, begins}
use Rattle.cc_grammar.specs.Ebnf.{Ebnf, tok, seq, alt, many, opt, ref, nest}
use Rattle.cc_grammar.specs.Grammar.{rule}
use Rattle.cc_grammar.specs.Kinds.{Kind}
use Rattle.cc_grammar.specs.Symbols.{Symbol}
use Rattle.cc_grammar.proofs.Basics.{and_first, and_second, not_false, within, within_has, within_lacks, apart}
use Rattle.cc_grammar.proofs.Exists.{all_kinds}
use Rattle.cc_grammar.proofs.Tables.{ends, tails, rank, open_rank, sample_rank, is_otherwise, is_plain, is_sampled, is_opened, takes_else, same_test, tested}

-- the next token tells the way
abbrev pub Plain : ℕ → Ebnf → Type 0
Plain r (tok k) = has all_kinds k ≡ true
Plain r (seq a b) = Plain r a × Plain r b × ((apart (tails a) (begins b) || is_otherwise b) ≡ true)
Plain r (alt a b) = Plain r a × Plain r b × (empty a ≡ false) × (empty b ≡ false) × (apart (begins a) (begins b) ≡ true)
Plain r (many a) = Plain r a × (empty a ≡ false) × (apart (tails a) (begins a) ≡ true)
Plain r (opt a) = Plain r a × (empty a ≡ false)
Plain r (ref s) = rank s < r
Plain r (nest s) = nullable s ≡ false

plain_of : (r : ℕ) (g : Ebnf) → is_plain r g ≡ true → Plain r g
plain_of r (tok k) e = e
plain_of r (seq a b) e =
    let more = and_second (is_plain r a) _ e in
    (plain_of r a (and_first (is_plain r a) _ e), plain_of r b (and_first (is_plain r b) _ more), and_second (is_plain r b) _ more)
plain_of r (alt a b) e =
    let more = and_second (is_plain r a) _ e in
    let test = and_second (is_plain r b) _ more in
    let last = and_second (not (empty a)) _ test in (
      plain_of r a (and_first (is_plain r a) _ e),
      plain_of r b (and_first (is_plain r b) _ more),
      not_false (empty a) (and_first (not (empty a)) _ test),
      not_false (empty b) (and_first (not (empty b)) _ last),
      and_second (not (empty b)) _ last,
    )
plain_of r (many a) e =
    let test = and_second (is_plain r a) _ e in
    (plain_of r a (and_first (is_plain r a) _ e), not_false (empty a) (and_first (not (empty a)) _ test), and_second (not (empty a)) _ test)
plain_of r (opt a) e = (plain_of r a (and_first (is_plain r a) _ e), not_false (empty a) (and_second (is_plain r a) _ e))
plain_of r (ref s) e = ltb-true (rank s) r e
plain_of r (nest s) e = not_false (nullable s) e

-- ---- the tests, one by one

module _ (s : Symbol) where
  test_2 : (is_sampled (sample_rank s) (rule s) && (is_opened (open_rank s) (rule s) && (
      takes_else (rule s) && (same_test (empty (rule s)) (nullable s) && (within (begins (rule s)) (starts s) && (
      within (starts s) (begins (rule s)) && (within (tails (rule s)) (ends s) && (nat_lt (rank s) 23 && (
      nat_lt (sample_rank s) 17 && nat_lt (open_rank s) 20))))))))) ≡ true
  test_2 = and_second (is_plain (rank s) (rule s)) _ (tested s)

  test_3 : (is_opened (open_rank s) (rule s) && (
      takes_else (rule s) && (same_test (empty (rule s)) (nullable s) && (within (begins (rule s)) (starts s) && (
      within (starts s) (begins (rule s)) && (within (tails (rule s)) (ends s) && (nat_lt (rank s) 23 && (
      nat_lt (sample_rank s) 17 && nat_lt (open_rank s) 20)))))))) ≡ true
  test_3 = and_second (is_sampled (sample_rank s) (rule s)) _ test_2

  test_4 : (takes_else (rule s) && (same_test (empty (rule s)) (nullable s) && (within (begins (rule s)) (starts s) && (
      within (starts s) (begins (rule s)) && (within (tails (rule s)) (ends s) && (nat_lt (rank s) 23 && (
      nat_lt (sample_rank s) 17 && nat_lt (open_rank s) 20))))))) ≡ true
  test_4 = and_second (is_opened (open_rank s) (rule s)) _ test_3

  test_5 : (same_test (empty (rule s)) (nullable s) && (within (begins (rule s)) (starts s) && (
      within (starts s) (begins (rule s)) && (within (tails (rule s)) (ends s) && (nat_lt (rank s) 23 && (
      nat_lt (sample_rank s) 17 && nat_lt (open_rank s) 20)))))) ≡ true
  test_5 = and_second (takes_else (rule s)) _ test_4

  test_6 : (within (begins (rule s)) (starts s) && (
      within (starts s) (begins (rule s)) && (within (tails (rule s)) (ends s) && (nat_lt (rank s) 23 && (
      nat_lt (sample_rank s) 17 && nat_lt (open_rank s) 20))))) ≡ true
  test_6 = and_second (same_test (empty (rule s)) (nullable s)) _ test_5

  test_7 : (within (starts s) (begins (rule s)) && (within (tails (rule s)) (ends s) && (nat_lt (rank s) 23 && (
      nat_lt (sample_rank s) 17 && nat_lt (open_rank s) 20)))) ≡ true
  test_7 = and_second (within (begins (rule s)) (starts s)) _ test_6

  test_8 : (within (tails (rule s)) (ends s) && (nat_lt (rank s) 23 && (nat_lt (sample_rank s) 17 && nat_lt (open_rank s) 20))) ≡ true
  test_8 = and_second (within (starts s) (begins (rule s))) _ test_7

  test_9 : (nat_lt (rank s) 23 && (nat_lt (sample_rank s) 17 && nat_lt (open_rank s) 20)) ≡ true
  test_9 = and_second (within (tails (rule s)) (ends s)) _ test_8

  pub plain : Plain (rank s) (rule s)
  plain = plain_of (rank s) (rule s) (and_first (is_plain (rank s) (rule s)) _ (tested s))

  pub sampled : is_sampled (sample_rank s) (rule s) ≡ true
  sampled = and_first (is_sampled (sample_rank s) (rule s)) _ test_2

  pub opened : is_opened (open_rank s) (rule s) ≡ true
  opened = and_first (is_opened (open_rank s) (rule s)) _ test_3

  pub else_taken : takes_else (rule s) ≡ true
  else_taken = and_first (takes_else (rule s)) _ test_4

  same_tests : (a b : Bool) → same_test a b ≡ true → a ≡ b
  same_tests true b e = sym e
  same_tests false b e = sym (not_false b e)

  pub empty_is : empty (rule s) ≡ nullable s
  empty_is = same_tests (empty (rule s)) (nullable s) (and_first (same_test (empty (rule s)) (nullable s)) _ test_5)

  pub begun_is : (k : Kind) → has (begins (rule s)) k ≡ true → has (starts s) k ≡ true
  begun_is = within_has (begins (rule s)) (starts s) (and_first (within (begins (rule s)) (starts s)) _ test_6)

  pub begins_is : (k : Kind) → has (starts s) k ≡ true → has (begins (rule s)) k ≡ true
  begins_is = within_has (starts s) (begins (rule s)) (and_first (within (starts s) (begins (rule s))) _ test_7)

  pub begun_not : (k : Kind) → has (starts s) k ≡ false → has (begins (rule s)) k ≡ false
  begun_not = within_lacks (begins (rule s)) (starts s) (and_first (within (begins (rule s)) (starts s)) _ test_6)

  pub ends_not : (k : Kind) → has (ends s) k ≡ false → has (tails (rule s)) k ≡ false
  ends_not = within_lacks (tails (rule s)) (ends s) (and_first (within (tails (rule s)) (ends s)) _ test_8)

  pub rank_low : rank s < 23
  rank_low = ltb-true (rank s) 23 (and_first (nat_lt (rank s) 23) _ test_9)

  pub sample_low : nat_lt (sample_rank s) 17 ≡ true
  sample_low = and_first (nat_lt (sample_rank s) 17) _ (and_second (nat_lt (rank s) 23) _ test_9)

  pub open_low : open_rank s < 20
  open_low = ltb-true (open_rank s) 20 (and_second (nat_lt (sample_rank s) 17) _ (and_second (nat_lt (rank s) 23) _ test_9))

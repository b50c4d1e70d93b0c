-- The laws of the grammar, from what is proved of its forms.
use Rattle.std.proofs.Common.{◌≡◌, true, List, [], ◌∷◌, refl, subst}
use Rattle.cc_lex.specs.declared.token.Token.{Token}
use Rattle.cc_grammar.specs.Begins.{has, starts, nullable}
use Rattle.cc_grammar.specs.Ebnf.{ref}
use Rattle.cc_grammar.specs.Fronts.{Whole}
use Rattle.cc_grammar.specs.Kinds.{kind}
use Rattle.cc_grammar.specs.Laws.{EachHasAPhrase, StartsBegin, OnlyStartsBegin, NullableAreEmpty, OnlyNullableAreEmpty, WholesAreRead, ReadAreWhole}
use Rattle.cc_grammar.specs.Phrases.{Marked, words}
use Rattle.cc_grammar.specs.Productions.{production}
use Rattle.cc_grammar.specs.Symbols.{Symbol}
use Rattle.cc_grammar.proofs.Facts.{rank_low}
use Rattle.cc_grammar.proofs.First.{Starts, first}
use Rattle.cc_grammar.proofs.Fronts.{whole, front, found}
use Rattle.cc_grammar.proofs.Samples.{ref_sample, ref_opens, void}
use Rattle.cc_grammar.proofs.Viability.{as_written, as_read, front_as_written}

pub phrases : EachHasAPhrase
phrases s = let x = ref_sample 0 s in (words x.marks, as_written (whole x.phrase))

pub begin : StartsBegin
begin s t e = let b = ref_opens 0 s t e in front_as_written (front b.phrase (t ∷ []) b.more b.spelled)

pub read : WholesAreRead
read depth s ts w =
    let x = found (as_read w) 23 (rank_low s) refl depth in
    record { value = x.value; marks = x.marks; goes_on = x.goes; phrase = x.phrase; spelled = x.spelled }

pub written : ReadAreWhole
written depth s ts x = let F : List Token → Type 0 = λ l. Whole production (ref s) l in subst F x.spelled (as_written (whole x.phrase))

first_of_some : (s : Symbol) (ms : List Marked) (t : Token) (more : List Token) → Starts (ref s) ms → words ms ≡ t ∷ more → has (starts s) (kind t) ≡ true
first_of_some s [] t more e h = absurd cc
first_of_some s (m ∷ ms) t more e h = let same_token : m.1 ≡ t = cc in rw same_token at e

pub only_begin : OnlyStartsBegin
only_begin s t more w = let x = read 0 s (t ∷ more) w in first_of_some s x.marks t more (first x.phrase) x.spelled

pub empty : NullableAreEmpty
empty s e = let x = void 23 0 (ref s) (rank_low s) e in as_written (whole x.phrase)

none_starts : (s : Symbol) (ms : List Marked) → Starts (ref s) ms → words ms ≡ [] → nullable s ≡ true
none_starts s [] e h = e
none_starts s (m ∷ ms) e h = absurd cc

pub only_empty : OnlyNullableAreEmpty
only_empty s w = let x = read 0 s [] w in none_starts s x.marks (first x.phrase) x.spelled

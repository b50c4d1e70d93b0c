-- The site of an accept.
use Rattle.std.proofs.Common.{◌≡◌, ℕ, List, [], ◌∷◌, ◌++◌, length, Option, Some, refl, ap, ◌∙◌}
use Rattle.cc_typed.specs.Clauses.{all_noted}
use Rattle.cc_typed.specs.declared.tree.Expression.{Expression}
use Rattle.cc_typed.specs.declared.tree.Site.{Site}
use Rattle.cc_faults.specs.Judged.{after_each, answer_map, answer_pair, good_of, mapped}
use Rattle.cc_faults.specs.Scopes.{Scope}
use Rattle.cc_faults.specs.Statements.{clause_of, is_by, is_such_that, kind_of, named_outside, site_of}
use Rattle.cc_faults.specs.declared.answer.Answer.{Answer}
use Rattle.cc_faults.specs.declared.answer.Answer.TheVariants as an
use Rattle.cc_faults.specs.declared.plain.ClauseWord.{ClauseWord}
use Rattle.cc_faults.specs.declared.plain.ClauseWord.TheVariants as word
use Rattle.cc_faults.specs.declared.scope.Around.{Around}
use Rattle.cc_types.specs.Naming.{Accepted, clause_noted, in_site, parted, parted_before, site_with, with_clause}
use Rattle.cc_types.specs.declared.sites.Parted.{Parted}

-- clauses by their words
pub parted-nil : (p : Parted) → parted_before [] p ≡ p
unfolding parted_before
parted-nil p = refl

pub parted-end : (cs : List (ClauseWord × Expression)) (c : ClauseWord × Expression) (p : Parted) → parted_before (cs ++ c ∷ []) p ≡ parted_before cs (with_clause p c.0 c.1)
unfolding parted_before
parted-end [] c p = refl
parted-end (d ∷ cs) c p = ap (λ q. with_clause q d.0 d.1) (parted-end cs c p)

pub ruleset partings = (parted-nil, parted-end)

such_that-is : (cs : List (ClauseWord × Expression)) → (parted cs).such_that ≡ clause_of is_such_that cs
unfolding parted_before
such_that-is [] = refl
such_that-is ((word.SuchThat, e) ∷ cs) = refl
such_that-is ((word.By, e) ∷ cs) = such_that-is cs

least_by-is : (cs : List (ClauseWord × Expression)) → (parted cs).least_by ≡ clause_of is_by cs
unfolding parted_before
least_by-is [] = refl
least_by-is ((word.SuchThat, e) ∷ cs) = least_by-is cs
least_by-is ((word.By, e) ∷ cs) = refl

environment-is : (first count : ℕ) (seen : List ℕ) (cs : List (ClauseWord × Expression)) → after_each (clause_noted (record { first = first; count = count })) seen cs ≡ named_outside first count seen cs
unfolding after_each
environment-is first count seen [] = refl
environment-is first count seen (c ∷ cs) = environment-is first count (all_noted (record { first = first; count = count }) seen c.1) cs

abbrev made : ℕ → ℕ → ℕ → List ℕ → Option Expression → Option Expression → Site
made kind transaction first environment such_that least_by =
    record { kind = kind; transaction = transaction; first = first; environment = environment; such_that = such_that; least_by = least_by }

site-of : (w : Around) (s : Scope) (v : Accepted) (cs : List (ClauseWord × Expression)) → site_with w.role (length s.variables) (in_site v, cs) ≡ site_of w s (v, cs)
site-of w s v cs =
    ap (λ xs. made (kind_of w.role) v.0.0.number (length s.variables) xs (parted cs).such_that (parted cs).least_by) (environment-is (length s.variables) (length v.0.1.parameters) [] cs)
    ∙ ap (λ e. made (kind_of w.role) v.0.0.number (length s.variables) (named_outside (length s.variables) (length v.0.1.parameters) [] cs) e (parted cs).least_by) (such_that-is cs)
    ∙ ap (λ e. made (kind_of w.role) v.0.0.number (length s.variables) (named_outside (length s.variables) (length v.0.1.parameters) [] cs) (clause_of is_such_that cs) e) (least_by-is cs)

pub site-is : (w : Around) (s : Scope) (a : Answer Accepted) (c : Answer (List (ClauseWord × Expression))) → mapped (site_with w.role (length s.variables)) (good_of (answer_pair (answer_map in_site a) c)) ≡ mapped (site_of w s) (good_of (answer_pair a c))
site-is w s an.Faulty c = refl
site-is w s an.Typeless an.Faulty = refl
site-is w s an.Typeless an.Typeless = refl
site-is w s an.Typeless (an.Good cs) = refl
site-is w s (an.Good v) an.Faulty = refl
site-is w s (an.Good v) an.Typeless = refl
site-is w s (an.Good v) (an.Good cs) = ap Some (site-of w s v cs)

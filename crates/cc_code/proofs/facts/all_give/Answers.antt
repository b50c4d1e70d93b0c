use Rattle.std.proofs.Common.{◌≡◌, ℕ, Option, Some, None, get_or, refl, sym, ◌∙◌, subst, true, false, Bool, nat_eq, arith}
use Rattle.std.proofs.lemmas.Bool.Decides.{nat_tests}
use Rattle.cc_code.specs.Checked.{GivesOnly}
use Rattle.cc_code.specs.Reach.{place_of}
use Rattle.cc_code.proofs.facts.all_give.Goals as goal

equal : (a b : ℕ) → nat_eq a b ≡ true → a ≡ b
equal a b e = grind (arith, nat_tests)

equals : (a b : ℕ) → a ≡ b → nat_eq a b ≡ true
equals a b e = grind (arith, nat_tests)

not-true : (b : Bool) → b ≡ false → b ≡ true → ⊥
not-true b e f = let g : false ≡ true = sym e ∙ f in cc

pub returns-in-Some : goal.returns-in-Some
returns-in-Some c =
    let unmet = c.requires.functions.unmet c.args.at c.args.cells c.requires.address (λ m. not-true c.is_marked.result c.if-is_marked.false (c.is_marked.ensures.1 m)) in
    let e : Some c.in-Some.value ≡ get_or c.args.functions.now.labels.items (place_of c.args.raw.now c.args.at) None = sym c.in-Some.is ∙ c.label_of.ensures in (
      λ t. unmet.1 (subst (λ (o : Option ℕ). GivesOnly o c.args.cells) e (equal c.in-Some.value c.args.cells t)),
      λ all. equals c.in-Some.value c.args.cells (subst (λ (o : Option ℕ). GivesOnly o c.args.cells) (sym e) (unmet.0 all)),
    )

pub returns-in-None : goal.returns-in-None
returns-in-None c =
    let unmet = c.requires.functions.unmet c.args.at c.args.cells c.requires.address (λ m. not-true c.is_marked.result c.if-is_marked.false (c.is_marked.ensures.1 m)) in (
      λ t. unmet.1 (subst (λ (o : Option ℕ). GivesOnly o c.args.cells) (sym c.in-None.is ∙ c.label_of.ensures) tt),
      λ all. refl,
    )

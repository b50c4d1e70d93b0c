use Rattle.std.proofs.Common.{ℕ, ◌+◌, inl, inr, List, [], ◌∷◌, slice_get, Option, refl, sym, subst, arith, rules}
use native.Mathlib.Decide.{ℕ_discrete}
use Rattle.std.proofs.lemmas.Option.{slice_get_cases}
use Rattle.cc_code.specs.Control.{Reaches, GoesWithin}
use Rattle.cc_code.specs.Rules.{AgreesThere}
use Rattle.cc_code.specs.declared.instr.Instr.{Instr}
use Rattle.cc_code.proofs.offers.agrees_everywhere.Goals as goal

pub loop-wait-preserved : goal.loop-wait-preserved
loop-wait-preserved c = λ w b comes. elim (ℕ_discrete w c.loop-wait.wait) [
  | yes e ↦ (let way : Reaches (GoesWithin c.args.raw.now) ((c.args.at + 1) ∷ []) w = subst (λ (l : List ℕ). Reaches (GoesWithin c.args.raw.now) l w) c.requires.offer comes in
      let here : Reaches (GoesWithin c.args.raw.now) ((c.args.at + 1) ∷ []) c.loop-wait.wait = subst (λ (n : ℕ). Reaches (GoesWithin c.args.raw.now) ((c.args.at + 1) ∷ []) n) e way in
      subst (λ (n : ℕ). AgreesThere c.args.raw.now c.args.alt c.args.site (slice_get c.args.raw.now.instrs n)) (sym e)
      (c.agrees_if.ensures.0 (search rules) ((c.in_ok-labels.ensures c.loop-wait.wait (omega arith)).1 here)))
  | no n ↦ c.loop-wait.invariant w (omega arith) comes
]

pub returns : goal.returns
returns c = (
  λ t w comes. elim ((slice_get_cases c.args.raw.now.instrs w).1) [
    | inl h ↦ c.loop-wait.invariant w (omega (arith, h.1)) comes
    | inr h ↦ subst (λ (o : Option Instr). AgreesThere c.args.raw.now c.args.alt c.args.site o) (sym h.1) tt
  ],
  λ h. refl,
)

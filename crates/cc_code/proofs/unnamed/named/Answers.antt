use Rattle.std.proofs.Common.{rules, ◌≡◌, ℕ, zero, suc, ◌<◌, List, length, get_or, Bool, true, false, replicate, refl, sym, ◌∙◌, ap, subst, take, pos}
use Rattle.std.specs.Prelude.{◌↔◌}
use Rattle.std.proofs.lemmas.List.{length-replicate, take_more}
use Rattle.cc_code.proofs.Lists.{all-taken}
use Rattle.cc_code.proofs.Naming.{named-step, none-named}
use Rattle.cc_code.specs.Checked.{AreNamed, IsSet}
use Rattle.cc_code.specs.declared.instr.Instr.{Instr}
use Rattle.cc_code.specs.declared.instr.Instr.TheVariants as instr
use Rattle.cc_code.proofs.unnamed.named.Goals as goal

no_bit : (n x : ℕ) → get_or (replicate n false) x false ≡ false
no_bit zero x = refl
no_bit (suc n) zero = refl
no_bit (suc n) (suc x) = no_bit n x

no_bits : (n : ℕ) (bits : List Bool) → bits ≡ replicate n false → (x : ℕ) → IsSet bits x → ⊥
no_bits n bits e x h = let f : false ≡ true = sym (no_bit n x) ∙ subst (λ (b : List Bool). get_or b x false ≡ true) e h in cc

length-bits : (n : ℕ) (bits : List Bool) → bits ≡ replicate n false → length bits ≡ n
length-bits n bits e = ap length e ∙ length-replicate n false

pub loop-instr-init : goal.loop-instr-init
loop-instr-init c = record {
  long = length-bits _ c.in_ok-bits.bits.items (c.in_ok-bits.ensures.items_if_clones_equal (λ y h. search rules));
  exact = λ n b. (λ h. absurd (no_bits _ c.in_ok-bits.bits.items (c.in_ok-bits.ensures.items_if_clones_equal (λ y h. search rules)) n h), λ h. absurd (none-named c.args.thing n h));
}

pub loop-instr-preserved : goal.loop-instr-preserved
loop-instr-preserved c =
    let j : Instr = get_or c.args.instrs.now c.loop-instr.instr-index (instr.Const (pos 0)) in
    record {
      long = c.note_optional.ensures.long ∙ c.loop-instr.invariant.long;
      exact = subst (λ (is : List Instr). (n : ℕ) → n < c.args.count → IsSet c.note_optional.new.bits.items n ↔ AreNamed is c.args.thing n) (sym (take_more c.args.instrs.now c.loop-instr.instr-index (instr.Const (pos 0)) c.loop-instr-test.true))
          (named-step (take c.loop-instr.instr-index c.args.instrs.now) j c.args.thing c.args.count c.loop-instr.bits.items c.note_optional.new.bits.items c.named_by.result c.loop-instr.invariant.long c.loop-instr.invariant.exact c.named_by.ensures c.note_optional.ensures);
    }

pub returns-clause-exact : goal.returns-clause-exact
returns-clause-exact c = subst (λ (is : List Instr). (n : ℕ) → n < c.args.count → IsSet c.loop-instr.bits.items n ↔ AreNamed is c.args.thing n) (all-taken c.args.instrs.now c.loop-instr.instr-index c.loop-instr-test.false) c.loop-instr.invariant.exact

use Rattle.std.proofs.Common.{rules, ◌≡◌, ℕ, zero, suc, ◌+◌, List, length, get_or, Bool, true, false, replicate, refl, sym, ◌∙◌, ap, subst}
use Rattle.std.proofs.lemmas.List.{length-replicate}
use Rattle.cc_code.proofs.Holds.{StandAt, addresses-stand, entries-noted, parts-stand}
use Rattle.cc_code.specs.Checked.{IsSet, address_starts, part_starts}
use Rattle.cc_code.specs.Control.{entries, fragments}
use Rattle.cc_code.specs.declared.code.RawCode.{RawCode}
use Rattle.cc_code.specs.declared.reach.Start.{Start}
use Rattle.cc_code.proofs.parts.entries.Goals as goal

no_bit : (n x : ℕ) → get_or (replicate n false) x false ≡ false
no_bit zero x = refl
no_bit (suc n) zero = refl
no_bit (suc n) (suc x) = no_bit n x

no_bits : (n : ℕ) (bits : List Bool) → bits ≡ replicate n false → (x : ℕ) → IsSet bits x → ⊥
no_bits n bits e x h = let f : false ≡ true = sym (no_bit n x) ∙ subst (λ (b : List Bool). get_or b x false ≡ true) e h in cc

length-bits : (n : ℕ) (bits : List Bool) → bits ≡ replicate n false → length bits ≡ n
length-bits n bits e = ap length e ∙ length-replicate n false

stand : (k : RawCode) (list : List ℕ) (s t : List Start) → s ≡ t → StandAt k list t → StandAt k list s
stand k list s t e h = subst (λ (l : List Start). StandAt k list l) (sym e) h

pub returns : goal.returns
returns c =
    let k : RawCode = c.args.raw.now in
    entries-noted k (entries k.functions) (entries k.kinds) (fragments k.sites) c.as_slice.result.now c.as_slice-2.result.now c.as_slice-3.result.now c.in_ok-bits.bits.items _ _ c.note_starts-3.new.bits.items
    (stand k (entries k.functions) c.as_slice.result.now (part_starts k k.functions) (c.as_slice.ensures.value ∙ c.requires.starts.functions) (parts-stand k k.functions))
    (stand k (entries k.kinds) c.as_slice-2.result.now (part_starts k k.kinds) (c.as_slice-2.ensures.value ∙ c.requires.starts.kinds) (parts-stand k k.kinds))
    (stand k (fragments k.sites) c.as_slice-3.result.now (address_starts k (fragments k.sites)) (c.as_slice-3.ensures.value ∙ c.requires.starts.fragments) (addresses-stand k (fragments k.sites)))
    (no_bits _ c.in_ok-bits.bits.items (c.in_ok-bits.ensures.items_if_clones_equal (λ y h. search rules)))
    (length-bits _ c.in_ok-bits.bits.items (c.in_ok-bits.ensures.items_if_clones_equal (λ y h. search rules)) ∙ c.place_of-places.ensures ∙ ap (λ (n : ℕ). length k.tables + n) c.len.ensures)
    c.note_starts.ensures c.note_starts-2.ensures c.note_starts-3.ensures

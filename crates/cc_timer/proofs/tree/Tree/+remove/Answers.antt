use Rattle.std.proofs.Common.{◌≡◌, ℕ, ◌<◌, true, false, List, ◌∷◌, ◌++◌, length, sym, ap, ◌∙◌, subst, arith, rules, length-append}
use Rattle.cc_timer.specs.Deadlines.{is_due_before, without_deadline, AreInOrder}
use Rattle.cc_timer.specs.Tree.{listed, listed_root}
use Rattle.cc_timer.proofs.Order.{around, taken_left, taken_right, without_same}
use Rattle.cc_timer.specs.declared.tree.Fork.{Fork}
use Rattle.cc_timer.specs.declared.who.Who.{Who}
use Rattle.cc_timer.proofs.tree.Tree.+remove.Goals as goal

pub remove-requires : goal.remove-requires
remove-requires t c =
    let h = c.in-Node.here.value in
    let whole : c.args.self ≡ h.left ++ h.deadline ∷ h.right = sym c.self.view_is ∙ ap listed_root c.in-Node.is in
    let old : c.replace-left.result ≡ h.left = cc in
    let sides = around h.left h.deadline h.right (subst AreInOrder whole c.requires) in
    let shorter : length c.replace-left.result < length c.args.self =
    omega (arith, ap length whole, ap length old, length-append h.left (h.deadline ∷ h.right))
    in
    (search rules, subst AreInOrder (sym old) sides.left)

pub returns-then-is_before : goal.returns-then-is_before
returns-then-is_before t c =
    let h = c.in-Node.here.value in
    let whole : c.args.self ≡ h.left ++ h.deadline ∷ h.right = sym c.self.view_is ∙ ap listed_root c.in-Node.is in
    let earlier : is_due_before c.args.deadline h.deadline ≡ true = cc in
    let old : c.replace-left.result ≡ h.left = cc in
    let same : c.deref_mut.result.now ≡ h = cc in
    let sides = around h.left h.deadline h.right (subst AreInOrder whole c.requires) in
    let hung : Fork → List (ℕ × Who) = λ f. c.remove.result ++ f.deadline ∷ f.right in
    let out : c.of.result ≡ c.remove.result ++ h.deadline ∷ h.right =
    c.of.ensures ∙ c.settled.ensures ∙ ap hung c.deref_mut-then-is_before.ensures.value ∙ ap hung same
    in
    taken_left c.args.deadline h.deadline h.left h.right c.args.self c.replace-left.result c.remove.result c.of.result whole earlier sides.above old c.remove.ensures out

pub remove-requires-then-is_before-2 : goal.remove-requires-then-is_before-2
remove-requires-then-is_before-2 t c =
    let h = c.in-Node.here.value in
    let whole : c.args.self ≡ h.left ++ h.deadline ∷ h.right = sym c.self.view_is ∙ ap listed_root c.in-Node.is in
    let old : c.replace-right.result ≡ h.right = cc in
    let sides = around h.left h.deadline h.right (subst AreInOrder whole c.requires) in
    let shorter : length c.replace-right.result < length c.args.self =
    omega (arith, ap length whole, ap length old, length-append h.left (h.deadline ∷ h.right))
    in
    (search rules, subst AreInOrder (sym old) sides.right)

pub returns-then-is_before-2 : goal.returns-then-is_before-2
returns-then-is_before-2 t c =
    let h = c.in-Node.here.value in
    let whole : c.args.self ≡ h.left ++ h.deadline ∷ h.right = sym c.self.view_is ∙ ap listed_root c.in-Node.is in
    let later : is_due_before h.deadline c.args.deadline ≡ true = cc in
    let old : c.replace-right.result ≡ h.right = cc in
    let same : c.deref_mut-then-is_before-2-2.result.now ≡ h = cc in
    let sides = around h.left h.deadline h.right (subst AreInOrder whole c.requires) in
    let hung : Fork → List (ℕ × Who) = λ f. f.left ++ f.deadline ∷ c.remove-then-is_before-2.result in
    let out : c.of-then-is_before-2.result ≡ h.left ++ h.deadline ∷ c.remove-then-is_before-2.result =
    c.of-then-is_before-2.ensures ∙ c.settled-then-is_before-2.ensures ∙ ap hung c.deref_mut-then-is_before-2-3.ensures.value ∙ ap hung same
    in
    taken_right c.args.deadline h.deadline h.left h.right c.args.self c.replace-right.result c.remove-then-is_before-2.result c.of-then-is_before-2.result whole later sides.below old c.remove-then-is_before-2.ensures out

pub returns : goal.returns
returns t c =
    let h = c.in-Node.here.value in
    let whole : c.args.self ≡ h.left ++ h.deadline ∷ h.right = sym c.self.view_is ∙ ap listed_root c.in-Node.is in
    let not_earlier : is_due_before c.args.deadline h.deadline ≡ false = cc in
    let not_later : is_due_before h.deadline c.args.deadline ≡ false = cc in
    let sides = around h.left h.deadline h.right (subst AreInOrder whole c.requires) in
    let step = without_same c.args.deadline h.left h.deadline h.right not_earlier not_later sides.below sides.above in
    cc

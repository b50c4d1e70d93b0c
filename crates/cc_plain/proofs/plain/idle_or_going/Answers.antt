use Rattle.std.proofs.Common.{◌≡◌, ap, ◌∙◌, sym, refl, ℕ, Bool, true, false, ◌&&◌, not}
use Rattle.std.specs.Prelude.{if◌then◌else◌, is_some}
use Rattle.cc_plain.proofs.Least.{deadline-is, least-is}
use Rattle.cc_rules.specs.Ends.{has_deadline, has_running}
use Rattle.cc_rules.specs.Standing.{deadlines, least}
use Rattle.cc_rules.specs.declared.event.Standing.TheVariants.{Going, Idle}
use Rattle.cc_plain.proofs.plain.idle_or_going.Goals as goal

idle : (running deadline : Bool) (until n : ℕ) → running ≡ false → deadline ≡ true → n ≡ until → Idle until ≡ (if not running && deadline then Idle n else Going)
idle running deadline until n h k e = rw (h, k, e) refl

going : (running deadline : Bool) (n : ℕ) → deadline ≡ false → Going ≡ (if not running && deadline then Idle n else Going)
going true deadline n h = refl
going false deadline n h = rw h refl

pub returns-in-Some : goal.returns-in-Some
returns-in-Some c =
    let s = c.args.state.now in
    idle (has_running s) (has_deadline s) c.in-Some.until (least (deadlines s))
    (sym c.has_running.ensures ∙ c.if-has_running.false)
    (sym (deadline-is s) ∙ ap is_some (sym c.in-Some.ensures))
    (least-is (deadlines s) c.in-Some.until (sym c.in-Some.ensures))

pub returns-in-None : goal.returns-in-None
returns-in-None c =
    let s = c.args.state.now in
    going (has_running s) (has_deadline s) (least (deadlines s)) (sym (deadline-is s) ∙ ap is_some (sym c.in-None.ensures))

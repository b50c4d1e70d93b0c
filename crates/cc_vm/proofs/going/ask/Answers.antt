use Rattle.std.proofs.Common.{◌≡◌, ◌≤◌, ℤ, List, length, rules, subst, sym}
use Rattle.cc_vm.proofs.Asking.{has-operands, has-top}
use Rattle.cc_vm.proofs.Onward.{asking-left, not-held}
use Rattle.cc_vm.proofs.going.ask.Goals as goal

pub ask_request-requires : goal.ask_request-requires
ask_request-requires c =
    let same : c.as_slice.result.now ≡ c.args.lists.now.stack.items = search rules in
    record {
      operands = has-operands c.args.raw.now c.requires.verified c.args.room c.requires.room c.args.lists.now c.requires.ready c.args.instr c.requires.there;
      top = subst (λ (S : List ℤ). c.args.lists.now.registers.top ≤ length S) (sym same)
          (has-top c.args.raw.now c.requires.verified c.args.room c.requires.room c.args.lists.now c.requires.ready c.args.instr c.requires.there);
      asks = asking-left c.args.raw.now c.requires.verified c.args.room c.args.lists.now c.requires.ready c.args.instr c.requires.there c.args.lists.now.registers.ticks c.requires.left c.requires.stays
          (not-held c.args.instr c.in_default.not-Tick c.in_default.not-SelWait);
    }

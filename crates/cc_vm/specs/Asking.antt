-- What an instruction asks whose operands are in place.
use Rattle.std.specs.Prelude.{◌≡◌, ℕ, ◌-◌, ℤ, List, [], ◌∷◌, Option, Some, None, Result, Ok, Err}
use Rattle.cc_base.specs.Numbers.{byte_of, callee}
use Rattle.cc_base.specs.declared.names.FaultKind.{FaultKind}
use Rattle.cc_base.specs.declared.names.Pid.{Pid}
use Rattle.cc_base.specs.declared.request.Request.{Request}
use Rattle.cc_base.specs.declared.request.Request.TheVariants as request
use Rattle.cc_base.specs.Formats.{conversions, formatted}
use Rattle.cc_code.specs.Operands.{format_at, kind_at, shape_at}
use Rattle.cc_code.specs.declared.code.RawCode.{RawCode}
use Rattle.cc_code.specs.declared.instr.Instr.{Instr}
use Rattle.cc_code.specs.declared.instr.Instr.TheVariants as instr
use Rattle.cc_vm.specs.Machine.{between, cell_of}

-- a request to a process, or the fault that there is none of this number
abbrev pub addressed : Result Pid FaultKind → (Pid → Request) → Request
addressed (Ok target) f = f target
addressed (Err kind) f = request.Fault kind

-- what the instruction asks whose operands end at a place of the stack; none where it opens an alternative or selects, and
-- where it asks nothing
abbrev pub Requested : RawCode → Instr → List ℤ → ℕ → Option Request → Type 0
Requested k (instr.Create kind) S top o = o ≡ Some (request.Create kind (between (top - (kind_at k kind).args) top S))
Requested k (instr.Ask t) S top o =
    o ≡ Some (addressed (callee (cell_of S (top - (shape_at k t).args - 1))) (λ target. request.Call target t (between (top - (shape_at k t).args) top S)))
Requested k (instr.AskWithin t late) S top o =
    o
    ≡ Some (addressed (callee (cell_of S (top - (shape_at k t).args - 1)))
    (λ target. request.TimedCall target t (between (top - (shape_at k t).args) top S) (cell_of S (top - (shape_at k t).args - 2))))
Requested k (instr.Send t) S top o =
    o ≡ Some (addressed (callee (cell_of S (top - (shape_at k t).args - 1))) (λ target. request.Send target t (between (top - (shape_at k t).args) top S)))
Requested k instr.Wait S top o = o ≡ Some (request.Delay (cell_of S (top - 1)))
Requested k (instr.Reply n) S top o = o ≡ Some (request.Reply (between (top - n) top S))
Requested k instr.PutByte S top o = o ≡ Some (request.Print (byte_of (cell_of S (top - 1)) ∷ []))
Requested k instr.GetByte S top o = o ≡ Some request.Get
Requested k (instr.Format f) S top o = o ≡ Some (request.Print (formatted (format_at k f) (between (top - conversions (format_at k f)) top S)))
Requested k instr.End S top o = o ≡ Some request.Done
Requested k i S top o = o ≡ None

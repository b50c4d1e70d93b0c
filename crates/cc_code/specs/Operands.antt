-- The cells that each instruction takes from the operand stack, and those that it gives.
use Rattle.std.specs.Prelude.{ℕ, ◌+◌, ◌*◌, List, [], get_or, false}
use Rattle.cc_base.specs.Formats.{conversions}
use Rattle.cc_base.specs.declared.names.Shape.{Shape}
use Rattle.cc_code.specs.declared.code.Part.{Part}
use Rattle.cc_code.specs.declared.code.RawCode.{RawCode}
use Rattle.cc_code.specs.declared.instr.Instr.{Instr}
use Rattle.cc_code.specs.declared.instr.Instr.TheVariants as instr

abbrev pub no_part : Part
no_part = record { entry = 0; args = 0; cells = 0; value = 0 }

abbrev pub no_shape : Shape
no_shape = record { is_async = false; args = 0; value = 0 }

-- the function of this number, and one with nothing where there is none
abbrev pub function_at : RawCode → ℕ → Part
function_at k f = get_or k.functions f no_part

abbrev pub kind_at : RawCode → ℕ → Part
kind_at k kind = get_or k.kinds kind no_part

abbrev pub shape_at : RawCode → ℕ → Shape
shape_at k trans = get_or k.transactions trans no_shape

abbrev pub format_at : RawCode → ℕ → List ℕ
format_at k format = get_or k.formats format []

abbrev pub takes : RawCode → Instr → ℕ
takes k (instr.Const v) = 0
takes k (instr.Zeros n) = 0
takes k (instr.Drop n) = n
takes k instr.Dup = 1
takes k (instr.Field o) = 1
takes k (instr.Index l s) = 2
takes k (instr.Fetch n) = 1
takes k (instr.Put n) = 1 + n
takes k (instr.Bump t d) = 1
takes k (instr.Zero o n) = 0
takes k (instr.Part p n m) = n
takes k (instr.Pick l s) = l * s + 1
takes k (instr.Add t) = 2
takes k (instr.Sub t) = 2
takes k (instr.Mul t) = 2
takes k (instr.Div t) = 2
takes k (instr.Rem t) = 2
takes k (instr.Neg t) = 1
takes k instr.Lt = 2
takes k instr.Le = 2
takes k instr.Gt = 2
takes k instr.Ge = 2
takes k instr.Eq = 2
takes k instr.Ne = 2
takes k instr.Not = 1
takes k (instr.Narrow t) = 1
takes k (instr.Jump a) = 0
takes k (instr.JumpZero a) = 1
takes k instr.Tick = 0
takes k (instr.Call f) = (function_at k f).args
takes k (instr.Ret n) = n
takes k (instr.Create kind) = (kind_at k kind).args
takes k (instr.Ask t) = 1 + (shape_at k t).args
takes k (instr.AskWithin t a) = 2 + (shape_at k t).args
takes k (instr.Send t) = 1 + (shape_at k t).args
takes k instr.SelBegin = 0
takes k (instr.OfferAccept i s) = 0
takes k (instr.OfferAfter i) = 1
takes k (instr.OfferNow i) = 0
takes k (instr.OfferEnd i) = 0
takes k (instr.SelWait j) = 0
takes k instr.Wait = 1
takes k (instr.Reply n) = n
takes k instr.PutByte = 1
takes k instr.GetByte = 0
takes k (instr.Format f) = conversions (format_at k f)
takes k instr.Yield = 1
takes k instr.End = 0

-- `Ret`, `Yield` and `End` have no instruction after them that could find cells
abbrev pub gives : RawCode → Instr → ℕ
gives k (instr.Const v) = 1
gives k (instr.Zeros n) = n
gives k (instr.Drop n) = 0
gives k instr.Dup = 2
gives k (instr.Field o) = 1
gives k (instr.Index l s) = 1
gives k (instr.Fetch n) = n
gives k (instr.Put n) = n
gives k (instr.Bump t d) = 1
gives k (instr.Zero o n) = 0
gives k (instr.Part p n m) = m
gives k (instr.Pick l s) = s
gives k (instr.Add t) = 1
gives k (instr.Sub t) = 1
gives k (instr.Mul t) = 1
gives k (instr.Div t) = 1
gives k (instr.Rem t) = 1
gives k (instr.Neg t) = 1
gives k instr.Lt = 1
gives k instr.Le = 1
gives k instr.Gt = 1
gives k instr.Ge = 1
gives k instr.Eq = 1
gives k instr.Ne = 1
gives k instr.Not = 1
gives k (instr.Narrow t) = 1
gives k (instr.Jump a) = 0
gives k (instr.JumpZero a) = 0
gives k instr.Tick = 0
gives k (instr.Call f) = (function_at k f).value
gives k (instr.Ret n) = 0
gives k (instr.Create kind) = 1
gives k (instr.Ask t) = (shape_at k t).value
gives k (instr.AskWithin t a) = (shape_at k t).value
gives k (instr.Send t) = 0
gives k instr.SelBegin = 0
gives k (instr.OfferAccept i s) = 0
gives k (instr.OfferAfter i) = 0
gives k (instr.OfferNow i) = 0
gives k (instr.OfferEnd i) = 0
gives k (instr.SelWait j) = 0
gives k instr.Wait = 0
gives k (instr.Reply n) = 0
gives k instr.PutByte = 1
gives k instr.GetByte = 1
gives k (instr.Format f) = 1
gives k instr.Yield = 0
gives k instr.End = 0

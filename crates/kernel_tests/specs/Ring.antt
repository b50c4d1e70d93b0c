-- A ring of processes, each of a kind of its own. The first makes the others. Each waits for a call of the one before it, answers it,
-- calls the next and waits for the answer, again and again; the first begins with its call.
use Rattle.std.specs.Prelude.{ℕ, zero, suc, ◌+◌, ◌-◌, ℤ, pos, false, nat_eq, nat_lt, if◌then◌else◌, [], ◌∷◌, length, replicate, Option, Some, None}
use Rattle.cc_base.specs.Meaning.{Meaning}
use Rattle.cc_base.specs.declared.alternatives.Alt.TheVariants.{Accept}
use Rattle.cc_base.specs.declared.names.Shape.{Shape}
use Rattle.cc_base.specs.declared.request.Request.{Request}
use Rattle.cc_base.specs.declared.request.Request.TheVariants as request
use Rattle.kernel_tests.specs.declared.ring.Phase.{Phase}
use Rattle.kernel_tests.specs.declared.ring.Phase.TheVariants as phase
use Rattle.kernel_tests.specs.declared.ring.Stage.{Stage}

abbrev pub next_phase : Phase → Phase
next_phase phase.Call = phase.Wait
next_phase phase.Wait = phase.Answer
next_phase phase.Answer = phase.Call

abbrev pub next_stage : ℕ → Stage → Stage
next_stage others x = if nat_lt x.made others then record x { made = x.made + 1 } else record x { phase = next_phase x.phase }

abbrev pub first_stage : ℕ → ℕ → Stage
first_stage others kind = if nat_eq kind 0 then record { made = 0; phase = phase.Call } else record { made = others; phase = phase.Wait }

-- where a process of this kind is after so many requests
abbrev pub stage_after : ℕ → ℕ → ℕ → Stage
stage_after others kind zero = first_stage others kind
stage_after others kind (suc n) = next_stage others (stage_after others kind n)

-- the process after that of this kind
abbrev pub next_in_ring : ℕ → ℕ → ℕ
next_in_ring others kind = if nat_lt kind others then kind + 1 else 0

abbrev pub asked_in : ℕ → ℕ → Phase → Request
asked_in others kind phase.Call = request.Call (record { 0 = next_in_ring others kind }) 0 (pos 65 ∷ [])
asked_in others kind phase.Wait = request.Select ((0, Accept 0 0 []) ∷ [])
asked_in others kind phase.Answer = request.Reply (pos 65 ∷ [])

abbrev pub asked_at : ℕ → ℕ → Stage → Request
asked_at others kind x = if nat_lt x.made others then request.Create (x.made + 1) [] else asked_in others kind x.phase

abbrev pub shape : Shape
shape = record { is_async = false; args = 1; value = 1 }

abbrev pub rank_at : ℕ → Option ℤ
rank_at zero = Some (pos 0)
rank_at (suc site) = None

-- the ring with so many others than the first
abbrev pub ring : ℕ → Meaning
ring others =
    record {
      kinds = replicate (others + 1) 0;
      shapes = shape ∷ [];
      act = λ kind args grants. asked_at others kind (stage_after others kind (length grants - 1));
      fit = λ site env args. rank_at site;
    }

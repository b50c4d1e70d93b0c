-- The limits of the language and of the machine, as definitions cite them.
use Rattle.std.specs.Prelude.{ℕ}
use Rattle.cc_base.specs.declared.limits.TheConstants.{MOST_TEXT_BYTES, MOST_NESTING, MOST_INSTRUCTIONS, MOST_PARAMETER_CELLS, MOST_PURE_DEPTH, MOST_TYPE_CELLS, MOST_CALLS, MOST_CELLS, MOST_PROCESSES, MOST_INPUT_BYTES, MOST_WORKERS, MOST_TURNS, DEFAULT_TURNS, MOST_STAGES, MOST_ELEMENTS, GREATEST_READING, GREATEST_DEADLINE, TICKS_GRANTED, MOST_STEPS}

-- bytes of a text
abbrev pub most_text_bytes : ℕ
most_text_bytes = MOST_TEXT_BYTES

-- phrases that hold a phrase, itself included
abbrev pub most_nesting : ℕ
most_nesting = MOST_NESTING

-- instructions of a program's code
abbrev pub most_instructions : ℕ
most_instructions = MOST_INSTRUCTIONS

-- cells of the parameters of one function, transaction or kind of process
abbrev pub most_parameter_cells : ℕ
most_parameter_cells = MOST_PARAMETER_CELLS

-- the depth of a pure expression, and the cells on the operand stack of its code
abbrev pub most_pure_depth : ℕ
most_pure_depth = MOST_PURE_DEPTH

-- cells of one type
abbrev pub most_type_cells : ℕ
most_type_cells = MOST_TYPE_CELLS

-- active function calls of a process
abbrev pub most_calls : ℕ
most_calls = MOST_CALLS

-- cells of the active variables of a process
abbrev pub most_cells : ℕ
most_cells = MOST_CELLS

-- processes that a run makes, `main` among them
abbrev pub most_processes : ℕ
most_processes = MOST_PROCESSES

-- bytes of the input
abbrev pub most_input_bytes : ℕ
most_input_bytes = MOST_INPUT_BYTES

-- workers
abbrev pub most_workers : ℕ
most_workers = MOST_WORKERS

-- turns that can be allowed
abbrev pub most_turns : ℕ
most_turns = MOST_TURNS

-- turns that are allowed where nothing is said
abbrev pub default_turns : ℕ
default_turns = DEFAULT_TURNS

-- stages of the pipeline that `make` runs
abbrev pub most_stages : ℕ
most_stages = MOST_STAGES

-- elements of an array
abbrev pub most_elements : ℕ
most_elements = MOST_ELEMENTS

-- a reading of the clock, above which a greater one counts as this
abbrev pub greatest_reading : ℕ
greatest_reading = GREATEST_READING

-- a deadline, at which a later one is cut
abbrev pub greatest_deadline : ℕ
greatest_deadline = GREATEST_DEADLINE

-- ticks that a process may spend after each grant
abbrev pub ticks_granted : ℕ
ticks_granted = TICKS_GRANTED

-- instructions since the last grant or tick; one more is the fault Depth, where it neither spends a tick nor is granted anything
abbrev pub most_steps : ℕ
most_steps = MOST_STEPS

-- Where the scan of a tape stands: what is due, the functions so far, and of the present function its innermost open body. Assumes nothing:
-- these are definitions.
use Rattle.std.specs.Prelude.{ℕ, suc, ◌+◌, ◌-◌, ◌*◌, List, [], ◌∷◌, ◌++◌, cond, length, get_or, ltb, eqb}
use Rattle.word.specs.Slots.{upd, fixed, defined, Scope, begin}
use Rattle.tape.specs.Instruction.{Instruction, program, array, cfunc, lit, var, get, not, bin, call, def, set, put, for, end, ret, other}

pub data Due : Type 0 where
  a_program an_array a_function a_body nothing : Due

-- a function whose RET was passed: its parameters, its steps, and the record of its CFUNC
pub record Known : Type 0 where
  pub params : ℕ
  pub steps : ℕ
  pub place : ℕ

-- an open loop: its passes, and of the body round it the scope and the steps so far
pub record Open : Type 0 where
  pub passes : ℕ
  pub scope : Scope
  pub steps : ℕ

-- the innermost open body: its scope, the operands that wait, its steps so far, and the loops round it, the innermost first
pub record Body : Type 0 where
  pub scope : Scope
  pub operands : ℕ
  pub steps : ℕ
  pub loops : List Open

-- `functions` and `arrays` are PROGRAM's; `params`, `slots` and `place` the present CFUNC's
pub record Scan : Type 0 where
  pub due : Due
  pub functions : ℕ
  pub arrays : ℕ
  pub known : List Known
  pub params : ℕ
  pub slots : ℕ
  pub place : ℕ
  pub body : Body

abbrev pub known_at : Scan → ℕ → Known
known_at s f = get_or s.known f (record { params = 0; steps = 0; place = 0 })

-- the body of a function with p parameters, as it begins
unfoldable pub opening : ℕ → Body
opening p = record { scope = begin p; operands = 0; steps = 0; loops = [] }

unfoldable pub start : Scan
start = record { due = a_program; functions = 0; arrays = 0; known = []; params = 0; slots = 0; place = 0; body = opening 0 }

-- ---- the state after a record that has no fault
-- an expression's record takes n operands, leaves its value, and counts c steps
unfoldable pub leaves : Body → ℕ → ℕ → Body
leaves b n c = record { scope = b.scope; operands = suc (b.operands - n); steps = b.steps + c; loops = b.loops }

-- a statement's record counts one step and leaves no operands
unfoldable pub states : Body → Scope → Body
states b scope = record { scope = scope; operands = 0; steps = suc b.steps; loops = b.loops }

-- FOR opens a body, in which its slot is visible
unfoldable pub opens : Body → ℕ → ℕ → Body
opens b x passes =
    record { scope = upd b.scope x fixed; operands = 0; steps = 0; loops = record { passes = passes; scope = b.scope; steps = b.steps } ∷ b.loops }

-- END closes it: what was visible round it is visible again, and each pass counted its steps and FOR's one
unfoldable pub close_by : Body → List Open → Body
close_by b [] = b
close_by b (o ∷ loops) = record { scope = o.scope; operands = 0; steps = o.steps + o.passes * suc b.steps; loops = loops }

unfoldable pub closes : Body → Body
closes b = close_by b b.loops

unfoldable pub in_body : Scan → Body → Scan
in_body s b =
    record {
      due = s.due;
      functions = s.functions;
      arrays = s.arrays;
      known = s.known;
      params = s.params;
      slots = s.slots;
      place = s.place;
      body = b;
    }

-- PROGRAM: ARRAY is due next where there are arrays
unfoldable pub headed : ℕ → ℕ → Scan
headed functions arrays =
    record {
      due = cond (eqb arrays 0) a_function an_array;
      functions = functions;
      arrays = arrays;
      known = [];
      params = 0;
      slots = 0;
      place = 0;
      body = opening 0;
    }

-- ARRAY: they are records 1 to `arrays`
unfoldable pub arrayed : Scan → ℕ → Scan
arrayed s at =
    record {
      due = cond (ltb at s.arrays) an_array a_function;
      functions = s.functions;
      arrays = s.arrays;
      known = s.known;
      params = s.params;
      slots = s.slots;
      place = s.place;
      body = s.body;
    }

-- CFUNC
unfoldable pub enters : Scan → ℕ → ℕ → ℕ → Scan
enters s at params slots =
    record {
      due = a_body;
      functions = s.functions;
      arrays = s.arrays;
      known = s.known;
      params = params;
      slots = slots;
      place = at;
      body = opening params;
    }

-- RET counts one step and ends the function; then CFUNC is due, or nothing
unfoldable pub returns : Scan → Scan
returns s =
    record {
      due = cond (eqb (suc (length s.known)) s.functions) nothing a_function;
      functions = s.functions;
      arrays = s.arrays;
      known = s.known ++ (record { params = s.params; steps = suc s.body.steps; place = s.place } ∷ []);
      params = s.params;
      slots = s.slots;
      place = s.place;
      body = s.body;
    }

unfoldable pub next : Scan → ℕ → Instruction → Scan
next s at (program p q) = headed p q
next s at (array n) = arrayed s at
next s at (cfunc p q) = enters s at p q
next s at (lit v) = in_body s (leaves s.body 0 0)
next s at (var x) = in_body s (leaves s.body 0 1)
next s at (get a) = in_body s (leaves s.body 1 1)
next s at not = in_body s (leaves s.body 1 1)
next s at (bin o) = in_body s (leaves s.body 2 1)
next s at (call f) = in_body s (leaves s.body (known_at s f).params (suc (known_at s f).steps))
next s at (def x) = in_body s (states s.body (upd s.body.scope x defined))
next s at (set x) = in_body s (states s.body s.body.scope)
next s at (put a) = in_body s (states s.body s.body.scope)
next s at (for x q r) = in_body s (opens s.body x (r - q))
next s at end = in_body s (closes s.body)
next s at (ret x) = returns s
next s at other = s

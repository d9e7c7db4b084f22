-- A scan with its counts held at one more than the limit: all that a check's answer depends on, and all that its code keeps. No public contract
-- speaks of it. Assumes nothing: these are definitions.
use Rattle.std.specs.Prelude.{ℕ, suc, map, cond, leb}
use Rattle.tape.specs.Steps.{most}
use Rattle.tape.specs.Scan.{Known, Open, Body, Scan}

unfoldable pub hold : ℕ → ℕ
hold n = cond (leb n most) n (suc most)

unfoldable pub hold_known : Known → Known
hold_known k = record { params = k.params; steps = hold k.steps; place = k.place }

unfoldable pub hold_open : Open → Open
hold_open o = record { passes = o.passes; scope = o.scope; steps = hold o.steps }

abbrev pub hold_body : Body → Body
hold_body b = record { scope = b.scope; operands = b.operands; steps = hold b.steps; loops = map hold_open b.loops }

unfoldable pub held : Scan → Scan
held s =
    record {
      due = s.due;
      functions = s.functions;
      arrays = s.arrays;
      known = map hold_known s.known;
      params = s.params;
      slots = s.slots;
      place = s.place;
      body = hold_body s.body;
    }

-- The walk over a whole table that writes its translation: the functions one after another, with what is kept of each; and the answer, by the cost (12, 13) that was
-- counted before. Assumes nothing: these are definitions.
use Rattle.std.specs.Prelude.{ℕ, zero, suc, ◌+◌, ◌*◌, min, Bool, true, false, List, length, get_or, replicate, set as keep, leb}
use Rattle.word.specs.Value.{TRUE, FALSE}
use Rattle.word.specs.Reader.{read_at}
use Rattle.word.specs.declared.Record.{Record}
use Rattle.word.specs.declared.reader.Reader.{Reader}
use Rattle.word.specs.Reader.{Read}
use Rattle.std.specs.Prelude.{Some, None}
use Rattle.costing.specs.Totals.{Outcome as Known, counted}
use Rattle.tape.specs.Instruction.{cfunc, lit, def, ret}
use Rattle.tape.specs.Held.{hold}
use Rattle.translation.specs.Translate.{layout}
use Rattle.translation.specs.Compile.{Result}
use Rattle.emitting.specs.Emitting.{Sheet, place, puts}
use Rattle.emitting.specs.Walking.{Desk, desk, on, walk_s}
use Rattle.translation.specs.Compile.{Compiled}
use Rattle.std.specs.Prelude.{Ok, Err}
use Rattle.word.specs.Refusals.{refuse}
use Rattle.translation.specs.declared.Tape.{Tape}
use Rattle.script.specs.Shape.{times}

abbrev pub blank : List ℕ → Sheet
blank out = record { words = out; at = 0 }

-- the desk, and the parameters of each function so far
pub record Rolls : Type 0 where
  pub desk : Desk
  pub params : List ℕ

abbrev pub rolls : Desk → List ℕ → Rolls
rolls z params = record { desk = z; params = params }

-- a function with p parameters, n slots and the deepest IF nesting `depth`, before its body
unfoldable pub heads : ℕ → ℕ → ℕ → Sheet → Sheet
heads p n depth s = puts (def (n + 1)) (puts (lit TRUE) (puts (def n) (puts (lit FALSE) (puts (cfunc p (hold (n + 2 + depth))) s))))

module _ (t : List ℕ) where
  -- PROGRAM and ARRAY records are copied
  unfoldable pub copy_by : Desk → Read → Desk
  copy_by z (Some (x, i)) = desk (place x z.sheet) i.at
  copy_by z None = z

  unfoldable pub copy : Desk → Desk
  copy z = copy_by z (read_at t z.read)

-- the functions, where the row says how deep each one's IFs lie
module _ (t depths : List ℕ) where
  -- function f, whose body has n slots
  unfoldable pub body_of : ℕ → ℕ → Record → Reader → Rolls → Desk
  body_of f n x i z = on (puts (ret n)) (walk_s z.params t (layout n) 16 0 (desk (heads x.p n (get_or depths f 0) z.desk.sheet) i.at))

  unfoldable pub enter_f : ℕ → Rolls → Read → Rolls
  enter_f f z (Some (x, i)) = rolls (body_of f (min x.q 32) x i z) (keep z.params f x.p)
  enter_f f z None = z

  unfoldable pub walk_f : ℕ → Rolls → Rolls
  walk_f f z = enter_f f z (read_at t z.desk.read)

  -- function f and so many after it, and the words that they leave
  unfoldable pub walk_fs : ℕ → ℕ → Rolls → List ℕ
  walk_fs zero f z = z.desk.sheet.words
  walk_fs (suc n) f z = walk_fs n (f + 1) (walk_f f z)

  -- ---- the whole table
  unfoldable pub enter_p : List ℕ → Read → List ℕ
  enter_p out (Some (x, i)) = walk_fs x.p 0 (rolls (times x.q (copy t) (copy t (desk (blank out) 0))) (replicate 16 0))
  enter_p out None = out

  unfoldable pub walk_p : List ℕ → List ℕ
  walk_p out = enter_p out (read_at t 0)

-- ---- 12, 13, and the tape
abbrev pub answered : Compiled → List ℕ → Result
answered r out = record { answer = r; out = out }

unfoldable pub fitting : Bool → List ℕ → List ℕ → Tape → List ℕ → Result
fitting true t depths w out = answered (Ok w) (walk_p t depths out)
fitting false t depths w out = answered (refuse 13 w.records) out

unfoldable pub unless_cost : List ℕ → List ℕ → Compiled → List ℕ → Result
unless_cost t out (Ok w) depths = fitting (leb (w.records * 4) (length out)) t depths w out
unless_cost t out (Err r) depths = answered (Err r) out

-- the cost, and the deepest IF nestings, which the walk finds as they were counted
abbrev pub known : List ℕ → Known
known t = counted t (replicate 16 0)

unfoldable pub write_out : List ℕ → List ℕ → Result
write_out t out = unless_cost t out (known t).cost (known t).depths

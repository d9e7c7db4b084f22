-- The code's names of a function's records, and the records that they stand for. Assumes nothing: these are definitions.
use Rattle.tape.specs.Instruction.{Instruction, cfunc, lit, var, get, not, bin, call, def, set, put, for, end, ret}
use Rattle.tape.specs.declared.instruction.Instruction.{Instruction as Name}
use Rattle.tape.specs.declared.instruction.Instruction.TheVariants.{CFunc, Lit, Var, Get, Not, Bin, Call, Def, Set, Put, For, End, Ret}

unfoldable pub named : Name → Instruction
named (CFunc p q) = cfunc p q
named (Lit v) = lit v
named (Var x) = var x
named (Get a) = get a
named Not = not
named (Bin o) = bin o
named (Call f) = call f
named (Def x) = def x
named (Set x) = set x
named (Put a) = put a
named (For x q r) = for x q r
named End = end
named (Ret x) = ret x

-- Everything that computes in this crate's definitions, and in those below, opened by one name: `unfolding script_computes`. Assumes nothing.
use Prim.Native.Nat.{ℕ}

unfoldable pub script_computes : ℕ
unfolding Rattle.script.specs.Tree.size_e Rattle.script.specs.Tree.size_es Rattle.script.specs.Tree.size_s Rattle.script.specs.Tree.size_ss Rattle.script.specs.Tree.size_f Rattle.script.specs.Table.read_e Rattle.script.specs.Table.write_e Rattle.script.specs.Table.range_e Rattle.script.specs.Table.read_s Rattle.script.specs.Table.write_s Rattle.script.specs.Table.range_s Rattle.script.specs.Table.expression Rattle.script.specs.Table.statement Rattle.script.specs.Table.program Rattle.script.specs.Table.array Rattle.script.specs.Table.function Rattle.script.specs.Table.lead_by Rattle.script.specs.Table.lead Rattle.script.specs.Parse.and_then Rattle.script.specs.Parse.parts Rattle.script.specs.Parse.build_e Rattle.script.specs.Parse.enter_e Rattle.script.specs.Parse.too_deep Rattle.script.specs.Parse.parse_e Rattle.script.specs.Parse.nests Rattle.script.specs.Parse.inside Rattle.script.specs.Parse.sequence Rattle.script.specs.Parse.build_s Rattle.script.specs.Parse.enter_if Rattle.script.specs.Parse.enter_s Rattle.script.specs.Parse.parse_s Rattle.script.specs.Parse.entered Rattle.script.specs.Parse.passed Rattle.script.specs.Parse.func_of Rattle.script.specs.Parse.headed Rattle.script.specs.Parse.parse_funcs Rattle.script.specs.Parse.parse_arrays Rattle.script.specs.Parse.parse_program Rattle.script.specs.Parse.wholly Rattle.script.specs.Parse.read_table Rattle.script.specs.Stage.or_else Rattle.script.specs.Stage.after Rattle.script.specs.Stage.onward Rattle.script.specs.Stage.refuse_if Rattle.script.specs.Stage.ended Rattle.script.specs.Stage.each_func Rattle.script.specs.Stage.first_func Rattle.script.specs.Stage.over_program Rattle.script.specs.Scope.readable Rattle.script.specs.Scope.settable Rattle.script.specs.Scope.scope_e Rattle.script.specs.Scope.scope_es Rattle.script.specs.Scope.declare Rattle.script.specs.Scope.close Rattle.script.specs.Scope.scope_s Rattle.script.specs.Scope.scope_ss Rattle.script.specs.Scope.parameters Rattle.script.specs.Scope.scope_f Rattle.script.specs.Types.ty Rattle.script.specs.Types.numeric Rattle.script.specs.Types.numerics Rattle.script.specs.Types.fits Rattle.script.specs.Types.require Rattle.script.specs.Types.type_e Rattle.script.specs.Types.type_es Rattle.script.specs.Types.suits Rattle.script.specs.Types.type_s Rattle.script.specs.Types.type_ss Rattle.script.specs.Types.numbers Rattle.script.specs.Types.type_f Rattle.script.specs.Stores.store_s Rattle.script.specs.Stores.store_ss Rattle.script.specs.Stores.helpers Rattle.script.specs.Stores.stores Rattle.script.specs.Plain.onward Rattle.script.specs.Plain.branch Rattle.script.specs.Plain.passes Rattle.script.specs.Plain.ending Rattle.script.specs.Plain.value Rattle.script.specs.Plain.values Rattle.script.specs.Plain.run Rattle.script.specs.Plain.runs Rattle.script.specs.Plain.meaning Rattle.script.specs.Plain.exposed Rattle.script.specs.Plain.nothing Rattle.script.specs.Plain.plain Rattle.word.proofs.Computes.word_computes
script_computes = 0

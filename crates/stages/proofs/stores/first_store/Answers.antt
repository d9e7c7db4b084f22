-- `stages::stores::first_store` meets its contract: between two records what is left of the scan is the whole scan's answer. Assumes nothing.
use Prim.Native.Nat.{◌+◌, ◌<◌}
use native.Mathlib.Omega.{arith}
use mathlib.Core.Path.{◌≡◌, sym, ap, ◌∙◌}
use mathlib.Core.List.{◌∷◌}
use Rattle.word.specs.Records.{records}
use Rattle.std.specs.Prelude.{Err}
use Rattle.stages.specs.Stored.{storing}
use Rattle.script.proofs.Leading.{from}
use Rattle.scoping.proofs.Found.{found_on, found_none}
use Rattle.stages.proofs.Storing.{at_store, at_last, at_function, at_other}
use Rattle.stages.proofs.stores.first_store.Goals as goal
use Rattle.stages.proofs.stores.first_store.Goals.{In-Some}

-- the record that the cursor stands at
there : (c : In-Some) → let t = c.args.table.now in
    (c.loop-x.at.at < records t) × (from t c.loop-x.at.at ≡ c.in-Some.x ∷ from t (c.loop-x.at.at + 1)) × (c.in-Some.next.at ≡ c.loop-x.at.at + 1)
there c =
    found_on c.args.table.now c.loop-x.at.at _ _ (sym c.next.ensures ∙ c.in-Some.is)

-- what is left of the scan, from there on
rest : (c : In-Some) → let t = c.args.table.now in
    storing c.loop-x.left c.loop-x.at.at (c.in-Some.x ∷ from t (c.loop-x.at.at + 1)) ≡ storing c.args.functions c.args.start.at (from t c.args.start.at)
rest c = ap (storing _ _) (sym (there c).1) ∙ c.loop-x.invariant

pub returns-in-34 : goal.returns-in-34
returns-in-34 c = ap Err c.refusal.ensures ∙ sym (at_store _ _ _ _ c.in-34.is) ∙ rest (goal.at.returns-in-34 c).In-Some

pub returns-then-left-le-EXPOSED : goal.returns-then-left-le-EXPOSED
returns-then-left-le-EXPOSED c = sym (at_last _ _ _ _ c.in-3.is c.if-left-le-EXPOSED.true) ∙ rest (goal.at.returns-then-left-le-EXPOSED c).In-Some

pub loop-x-smaller-else-left-le-EXPOSED : goal.loop-x-smaller-else-left-le-EXPOSED
loop-x-smaller-else-left-le-EXPOSED c = omega (arith, (there (goal.at.loop-x-smaller-else-left-le-EXPOSED c).In-Some).0, (there (goal.at.loop-x-smaller-else-left-le-EXPOSED c).In-Some).2)

pub loop-x-preserved-else-left-le-EXPOSED : goal.loop-x-preserved-else-left-le-EXPOSED
loop-x-preserved-else-left-le-EXPOSED c = rw (there (goal.at.loop-x-preserved-else-left-le-EXPOSED c).In-Some).2 (sym (at_function _ _ _ _ c.in-3.is c.if-left-le-EXPOSED.false) ∙ rest (goal.at.loop-x-preserved-else-left-le-EXPOSED c).In-Some)

pub loop-x-smaller : goal.loop-x-smaller
loop-x-smaller c = omega (arith, (there (goal.at.loop-x-smaller c).In-Some).0, (there (goal.at.loop-x-smaller c).In-Some).2)

pub loop-x-preserved : goal.loop-x-preserved
loop-x-preserved c = rw (there (goal.at.loop-x-preserved c).In-Some).2 (sym (at_other _ _ _ _ (omega arith) (omega arith)) ∙ rest (goal.at.loop-x-preserved c).In-Some)

pub returns : goal.returns
unfolding storing
returns c =
    let over = found_none c.args.table.now c.loop-x.at.at (sym c.next.ensures ∙ c.in_default.is) in
    ap (storing c.loop-x.left c.loop-x.at.at) (sym over) ∙ c.loop-x.invariant

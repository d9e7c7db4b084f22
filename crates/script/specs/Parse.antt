-- Reading a script table: refusals 1 to 7 (01, "The script table", "Refusal numbers"). Parts are read in order, each from where the one before
-- ended, and the first fault is the whole's. Assumes nothing: these are definitions.
use Rattle.std.specs.Prelude.{ℕ, zero, suc, ◌+◌, List, [], ◌∷◌, Bool, true, cond, length, get_or, set, replicate, ltb}
use Rattle.word.specs.Records.{records, sized}
use Rattle.word.specs.Code.{op_of}
use Rattle.script.specs.Tree.{Expr, num, tru, fls, var, get, lnot, bnot, bin, call, Exprs, none, more, Stmt, skip, seq, def, set as assign, put, for, if, return, Stmts, done, next, Func, Program}
use Rattle.script.specs.Table.{HeadE, NUM, TRUE, FALSE, VAR, GET, LNOT, BNOT, BIN, CALL, HeadS, SKIP, SEQ, DEF, SET, PUT, FOR, IF, RETURN, HeadF, expression, statement, program, array, function, Lead, node, fault, lead}
use Rattle.script.specs.declared.Env.{Env}

-- what was read, with the record after it; or the refusal's number and place
pub data Parsed (A : Type 0) : Type 0 where
  parsed : A → ℕ → Parsed A
  refused : ℕ → ℕ → Parsed A

unfoldable pub and_then : {A B : Type 0} → Parsed A → (A → ℕ → Parsed B) → Parsed B
and_then (parsed a i) g = g a i
and_then (refused number place) g = refused number place

-- ---- expressions
unfoldable pub parts : (ℕ → Parsed Expr) → ℕ → ℕ → Parsed Exprs
parts f zero i = parsed none i
parts f (suc n) i = and_then (f i) (λ e j. and_then (parts f n j) (λ es k. parsed (more e es) k))

-- the expression with this head, whose parts stand from record i on; CALL has as many arguments as its function has parameters
unfoldable pub build_e : (ℕ → Parsed Expr) → Env → ℕ → HeadE → Parsed Expr
build_e f e i (NUM v) = parsed (num v) i
build_e f e i TRUE = parsed tru i
build_e f e i FALSE = parsed fls i
build_e f e i (VAR x) = parsed (var x) i
build_e f e i (GET a) = and_then (f i) (λ x j. parsed (get a x) j)
build_e f e i LNOT = and_then (f i) (λ x j. parsed (lnot x) j)
build_e f e i BNOT = and_then (f i) (λ x j. parsed (bnot x) j)
build_e f e i (BIN o) = and_then (f i) (λ l j. and_then (f j) (λ r k. parsed (bin (op_of o) l r) k))
build_e f e i (CALL g) = and_then (parts f (get_or e.params g 0) i) (λ es j. parsed (call g es) j)

unfoldable pub enter_e : (ℕ → Parsed Expr) → Env → ℕ → Lead HeadE → Parsed Expr
enter_e f e at (node h) = build_e f e (at + 1) h
enter_e f e at (fault number place) = refused number place

-- 7 names the record that lies too deep; there 2, 3, 4 and 5 win
unfoldable pub too_deep : {A B : Type 0} → ℕ → Lead A → Parsed B
too_deep at (node h) = refused 7 at
too_deep at (fault number place) = refused number place

-- "An expression may stand inside expressions, to a depth of 16": `left` is the depth that is left, this one counted
unfoldable pub parse_e : ℕ → Env → List ℕ → ℕ → Parsed Expr
parse_e zero e t at = too_deep at (lead expression e t at)
parse_e (suc left) e t at = enter_e (parse_e left e t) e at (lead expression e t at)

abbrev pub whole : Env → List ℕ → ℕ → Parsed Expr
whole e t at = parse_e 16 e t at

-- ---- statements
-- "at most 8 IFs and 8 FORs lie one within another": how many lie round a statement
pub record Nest : Type 0 where
  pub ifs : ℕ
  pub fors : ℕ

unfoldable pub nests : Nest → HeadS → Bool
nests n SKIP = true
nests n (SEQ p) = true
nests n (DEF x) = true
nests n (SET x) = true
nests n (PUT a) = true
nests n (FOR x q r) = ltb n.fors 8
nests n IF = ltb n.ifs 8
nests n RETURN = true

-- round the parts of a statement
unfoldable pub inside : Nest → HeadS → Nest
inside n SKIP = n
inside n (SEQ p) = n
inside n (DEF x) = n
inside n (SET x) = n
inside n (PUT a) = n
inside n (FOR x q r) = record { ifs = n.ifs; fors = suc n.fors }
inside n IF = record { ifs = suc n.ifs; fors = n.fors }
inside n RETURN = n

unfoldable pub sequence : (ℕ → Parsed Stmt) → ℕ → ℕ → Parsed Stmts
sequence f zero i = parsed done i
sequence f (suc n) i = and_then (f i) (λ s j. and_then (sequence f n j) (λ ss k. parsed (next s ss) k))

-- the statement with this head, whose parts, first expressions and then statements, stand from record i on
unfoldable pub build_s : (ℕ → Parsed Expr) → (ℕ → Parsed Stmt) → ℕ → HeadS → Parsed Stmt
build_s g f i SKIP = parsed skip i
build_s g f i (SEQ n) = and_then (sequence f n i) (λ ss j. parsed (seq ss) j)
build_s g f i (DEF x) = and_then (g i) (λ e j. parsed (def x e) j)
build_s g f i (SET x) = and_then (g i) (λ e j. parsed (assign x e) j)
build_s g f i (PUT a) = and_then (g i) (λ x j. and_then (g j) (λ e k. parsed (put a x e) k))
build_s g f i (FOR x q r) = and_then (f i) (λ s j. parsed (for x q r s) j)
build_s g f i IF = and_then (g i) (λ c j. and_then (f j) (λ s k. and_then (f k) (λ u l. parsed (if c s u) l)))
build_s g f i RETURN = and_then (g i) (λ e j. parsed (return e) j)

unfoldable pub enter_if : Bool → ℕ → Parsed Stmt → Parsed Stmt
enter_if nested at p = cond nested p (refused 7 at)

unfoldable pub enter_s : (ℕ → Parsed Expr) → (Nest → ℕ → Parsed Stmt) → Nest → ℕ → Lead HeadS → Parsed Stmt
enter_s g f n at (node h) = enter_if (nests n h) at (build_s g (f (inside n h)) (at + 1) h)
enter_s g f n at (fault number place) = refused number place

-- "Statements nest to 16": `left` is the depth that is left, this one counted
unfoldable pub parse_s : ℕ → Nest → Env → List ℕ → ℕ → Parsed Stmt
parse_s zero n e t at = too_deep at (lead statement e t at)
parse_s (suc left) n e t at = enter_s (whole e t) (λ m i. parse_s left m e t i) n at (lead statement e t at)

-- ---- functions and the program
abbrev pub outermost : Nest
outermost = record { ifs = 0; fors = 0 }

-- in a function, and past it
unfoldable pub entered : Env → HeadF → Env
entered e h = record { slots = h.slots; arrays = e.arrays; func = e.func; params = e.params }

unfoldable pub passed : Env → HeadF → Env
passed e h = record { slots = 0; arrays = e.arrays; func = suc e.func; params = set e.params e.func h.params }

unfoldable pub func_of : HeadF → Stmt → Func
func_of h s = record { params = h.params; slots = h.slots; body = s }

unfoldable pub headed : {A B : Type 0} → (A → ℕ → Parsed B) → ℕ → Lead A → Parsed B
headed g at (node h) = g h (at + 1)
headed g at (fault number place) = refused number place

unfoldable pub parse_funcs : ℕ → Env → List ℕ → ℕ → Parsed (List Func)
parse_funcs zero e t at = parsed [] at
parse_funcs (suc n) e t at =
    headed
    (λ h i. and_then (parse_s 16 outermost (entered e h) t i) (λ s j. and_then (parse_funcs n (passed e h) t j) (λ fs k. parsed (func_of h s ∷ fs) k)))
    at (lead function e t at)

abbrev pub nowhere : ℕ → Env
nowhere arrays = record { slots = 0; arrays = arrays; func = 0; params = replicate 16 0 }

unfoldable pub parse_arrays : ℕ → List ℕ → ℕ → Parsed (List ℕ)
parse_arrays zero t at = parsed [] at
parse_arrays (suc n) t at = headed (λ l i. and_then (parse_arrays n t i) (λ ls j. parsed (l ∷ ls) j)) at (lead array (nowhere 0) t at)

-- "Record 0 is PROGRAM; then its arrays; then its functions, each FUNC followed by one statement."
unfoldable pub parse_program : List ℕ → Parsed Program
parse_program t =
    headed
    (λ h i.
    and_then (parse_arrays h.arrays t i) (λ ls j.
    and_then (parse_funcs h.functions (nowhere h.arrays) t j) (λ fs k. parsed (record { arrays = ls; funcs = fs }) k)))
    0 (lead program (nowhere 0) t 0)

-- 6: records after the last function
unfoldable pub wholly : ℕ → Parsed Program → Parsed Program
wholly n (parsed p i) = cond (ltb i n) (refused 6 i) (parsed p i)
wholly n (refused number place) = refused number place

-- 1: no words, not whole records, over 4096 records
unfoldable pub read_table : List ℕ → Parsed Program
read_table t = cond (sized 4096 (length t)) (wholly (records t) (parse_program t)) (refused 1 0)

-- The swatch cases that 01 marks with *, and three more: scripts, what they are run on, and what must come out. Assumes nothing: these are
-- definitions.
use Rattle.std.specs.Prelude.{ℕ, ◌-◌, ◌*◌, Bool, true, false, ◌&&◌, List, [], ◌∷◌, ◌++◌, take, replicate, eqb}
use Rattle.word.specs.Records.{words_of}
use Rattle.word.specs.declared.Record.{Record}
use Rattle.script.specs.Parse.{Parsed, parsed, refused, read_table}
use Rattle.script.specs.Tree.{Program}
use Rattle.script.specs.Plain.{plain}
use Rattle.translation.specs.Compile.{Result, compile, case_of, values_of, Case, accepted, refusal}
use Rattle.machine.specs.Run.{run, case_of as end_of, values_of as endValues, Case as End, done, stopped, refusal as turnedAway}
use Rattle.promises.specs.Listing.{PROGRAM, ARRAY, FUNC, NUM, FLS, VAR, GET, BIN, CALL, SKIP, SEQ, DEF, SET, PUT, FOR, IF, RETURN, lit, var, not, bin, def, set, ret}

pub record Swatch : Type 0 where
  pub table : List Record
  pub arguments : List ℕ
  pub memory : List ℕ
  pub value : ℕ
  pub steps : ℕ
  pub after : List ℕ

-- ---- comparisons
unfoldable pub sames : List ℕ → List ℕ → Bool
sames [] [] = true
sames [] (b ∷ t) = false
sames (a ∷ s) [] = false
sames (a ∷ s) (b ∷ t) = eqb a b && sames s t

unfoldable pub is_accepted : Case → Bool
is_accepted accepted = true
is_accepted (refusal n) = false

unfoldable pub is_done : End → Bool
is_done done = true
is_done stopped = false
is_done (turnedAway n) = false

unfoldable pub is_stopped : End → Bool
is_stopped done = false
is_stopped stopped = true
is_stopped (turnedAway n) = false

-- ---- what must hold of a case
-- an output of 400 words, each 7, so that a word left alone is told from one written
unfoldable pub blank : List ℕ
blank = replicate 400 7

-- it compiles, with the steps; the rest of the output is as it was
unfoldable pub compiles : Swatch → Result → ℕ → Bool
compiles s r records =
    is_accepted (case_of r.answer)
    && (sames (values_of r.answer) (records ∷ s.steps ∷ [])
    && sames r.out (take (records * 4) r.out ++ replicate (400 - records * 4) 7))

-- its tape, run with a limit of its steps, is Done with value, steps and bytes; with one step less it is Stopped at RET, the last record
unfoldable pub runs : Swatch → List ℕ → ℕ → Bool
runs s tape records =
    let full = run tape s.arguments s.memory s.steps in
    let short = run tape s.arguments s.memory (s.steps - 1) in
    (is_done (end_of full.answer) && (sames (endValues full.answer) (s.value ∷ s.steps ∷ []) && sames full.memory s.after))
    && (is_stopped (end_of short.answer) && sames (endValues short.answer) ((s.steps - 1) ∷ (records - 1) ∷ []))

-- read plainly the script gives the same value and bytes
unfoldable pub means : Swatch → Parsed Program → Bool
means s (parsed p i) = let r = plain p s.arguments s.memory in eqb r.0 s.value && sames r.1 s.after
means s (refused number place) = false

unfoldable pub first_value : List ℕ → ℕ
first_value [] = 0
first_value (a ∷ s) = a

unfoldable pub holds : Swatch → Bool
holds s =
    let r = compile (words_of s.table) blank in
    let records = first_value (values_of r.answer) in
    compiles s r records && (runs s (take (records * 4) r.out) records && means s (read_table (words_of s.table)))

unfoldable pub all : List Swatch → Bool
all [] = true
all (s ∷ ss) = holds s && all ss

-- ---- the cases
-- one function without arrays
abbrev pub script : List Record → List ℕ → ℕ → ℕ → Swatch
script table arguments value steps =
    record { table = PROGRAM 1 0 ∷ table; arguments = arguments; memory = []; value = value; steps = steps; after = [] }

-- the same of one expression, which is returned
abbrev pub giving : List Record → ℕ → ℕ → Swatch
giving expression value steps = script (FUNC 0 0 ∷ RETURN ∷ expression) [] value steps

-- one function without slots, over an array of 4
abbrev pub over : List Record → ℕ → ℕ → List ℕ → Swatch
over body value steps after =
    record { table = PROGRAM 1 1 ∷ ARRAY 4 ∷ FUNC 0 0 ∷ body; arguments = []; memory = 5 ∷ 6 ∷ 7 ∷ 8 ∷ []; value = value; steps = steps; after = after }

-- parameter p is slot 0, f slot 1, x slot 2
unfoldable pub oatmeal : List Record
oatmeal =
    FUNC 1 3 ∷ SEQ 4 ∷ DEF 1 ∷ BIN 11 ∷ VAR 0 ∷ NUM 128 ∷ DEF 2 ∷ VAR 0
    ∷ IF ∷ VAR 1 ∷ SEQ 2 ∷ SET 1 ∷ FLS ∷ SET 2 ∷ BIN 3 ∷ VAR 2 ∷ NUM 2 ∷ SET 2 ∷ BIN 1 ∷ VAR 2 ∷ NUM 100
    ∷ RETURN ∷ VAR 2 ∷ []

-- s is slot 0, i slot 1
unfoldable pub summing : ℕ → ℕ → List Record
summing q r = FUNC 0 2 ∷ SEQ 3 ∷ DEF 0 ∷ NUM 0 ∷ FOR 1 q r ∷ SET 0 ∷ BIN 1 ∷ VAR 0 ∷ VAR 1 ∷ RETURN ∷ VAR 0 ∷ []

unfoldable pub finding : List Record
finding = FUNC 0 1 ∷ SEQ 2 ∷ FOR 0 0 10 ∷ IF ∷ BIN 8 ∷ VAR 0 ∷ NUM 4 ∷ RETURN ∷ VAR 0 ∷ SKIP ∷ RETURN ∷ NUM 99 ∷ []

-- a helper that doubles, and its caller, which calls it on its own result
unfoldable pub helped : Swatch
helped =
    record {
      table =
          PROGRAM 2 0 ∷ FUNC 1 1 ∷ RETURN ∷ BIN 1 ∷ VAR 0 ∷ VAR 0
          ∷ FUNC 1 1 ∷ RETURN ∷ CALL 0 ∷ CALL 0 ∷ VAR 0 ∷ [];
      arguments = 3 ∷ [];
      memory = [];
      value = 12;
      steps = 48;
      after = [];
    }

-- if p < 128 then a[0] := 1 else a[0] := 2; return a[0]
unfoldable pub untaken : ℕ → ℕ → Swatch
untaken p v =
    record {
      table =
          PROGRAM 1 1 ∷ ARRAY 4 ∷ FUNC 1 1 ∷ SEQ 2
          ∷ IF ∷ BIN 11 ∷ VAR 0 ∷ NUM 128 ∷ PUT 0 ∷ NUM 0 ∷ NUM 1 ∷ PUT 0 ∷ NUM 0 ∷ NUM 2
          ∷ RETURN ∷ GET 0 ∷ NUM 0 ∷ [];
      arguments = p ∷ [];
      memory = 5 ∷ 6 ∷ 7 ∷ 8 ∷ [];
      value = v;
      steps = 48;
      after = v ∷ 6 ∷ 7 ∷ 8 ∷ [];
    }

-- if p < 128 then for i 0 to 3: (a[i] := 9; return i + 40) else skip; a[3] := 1; return p
unfoldable pub leaving : ℕ → ℕ → List ℕ → Swatch
leaving p v after =
    record {
      table =
          PROGRAM 1 1 ∷ ARRAY 4 ∷ FUNC 1 2 ∷ SEQ 3
          ∷ IF ∷ BIN 11 ∷ VAR 0 ∷ NUM 128
          ∷ FOR 1 0 3 ∷ SEQ 2 ∷ PUT 0 ∷ VAR 1 ∷ NUM 9 ∷ RETURN ∷ BIN 1 ∷ VAR 1 ∷ NUM 40 ∷ SKIP
          ∷ PUT 0 ∷ NUM 3 ∷ NUM 1 ∷ RETURN ∷ VAR 0 ∷ [];
      arguments = p ∷ [];
      memory = 5 ∷ 6 ∷ 7 ∷ 8 ∷ [];
      value = v;
      steps = 129;
      after = after;
    }

unfoldable pub starred : List Swatch
starred =
    giving (NUM 7 ∷ []) 7 13
    ∷ script (FUNC 0 0 ∷ SKIP ∷ []) [] 0 3
    ∷ script oatmeal (10 ∷ []) 20 70
    ∷ script oatmeal (200 ∷ []) 300 70
    ∷ script (summing 0 3) [] 3 57
    ∷ script (summing 3 3) [] 0 15
    ∷ script finding [] 4 233
    ∷ giving (BIN 2 ∷ NUM 0 ∷ NUM 1 ∷ []) 4294967295 14
    ∷ giving (BIN 3 ∷ NUM 65536 ∷ NUM 65536 ∷ []) 0 14
    ∷ giving (BIN 4 ∷ NUM 1 ∷ NUM 31 ∷ []) 2147483648 14
    ∷ giving (BIN 4 ∷ NUM 1 ∷ NUM 32 ∷ []) 0 14
    ∷ over (RETURN ∷ GET 0 ∷ NUM 3 ∷ []) 8 14 (5 ∷ 6 ∷ 7 ∷ 8 ∷ [])
    ∷ over (RETURN ∷ GET 0 ∷ NUM 4 ∷ []) 0 14 (5 ∷ 6 ∷ 7 ∷ 8 ∷ [])
    ∷ over (SEQ 2 ∷ PUT 0 ∷ NUM 0 ∷ NUM 300 ∷ RETURN ∷ GET 0 ∷ NUM 0 ∷ []) 44 24 (44 ∷ 6 ∷ 7 ∷ 8 ∷ [])
    ∷ helped
    ∷ untaken 10 1
    ∷ untaken 200 2
    ∷ leaving 10 40 (9 ∷ 6 ∷ 7 ∷ 8 ∷ [])
    ∷ leaving 200 200 (5 ∷ 6 ∷ 7 ∷ 1 ∷ [])
    ∷ []

-- the tape of RETURN 7, as 01 lists it
unfoldable pub seven : List Record
seven =
    PROGRAM 1 0 ∷ FUNC 0 2 ∷ lit 0 ∷ def 0 ∷ lit 4294967295 ∷ def 1 ∷ lit 7 ∷ lit 4294967295 ∷ var 1 ∷ bin 6 ∷ bin 6 ∷ var 0 ∷ bin 7 ∷ set 0
    ∷ var 1 ∷ lit 4294967295 ∷ not ∷ bin 6 ∷ set 1 ∷ ret 0 ∷ []

unfoldable pub seven_ok : Bool
seven_ok =
    let r = compile (words_of (PROGRAM 1 0 ∷ FUNC 0 0 ∷ RETURN ∷ NUM 7 ∷ [])) blank in
    sames (take 80 r.out) (words_of seven)

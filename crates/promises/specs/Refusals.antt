-- A refusal of each number, 1 to 13 and 21 to 32: what is refused, and the number and place that must come out. Assumes nothing: these are
-- definitions.
use Rattle.std.specs.Prelude.{ℕ, zero, suc, Bool, true, false, ◌&&◌, List, [], ◌∷◌, ◌++◌, replicate, eqb}
use Rattle.word.specs.Records.{rec, words_of}
use Rattle.word.specs.declared.Record.{Record}
use Rattle.translation.specs.Compile.{compile, case_of, values_of, Case, accepted, refusal}
use Rattle.machine.specs.Run.{run, case_of as end_of, values_of as endValues, Case as End, done, stopped, refusal as turnedAway}
use Rattle.promises.specs.Listing.{PROGRAM, ARRAY, FUNC, NUM, TRU, VAR, LNOT, BIN, SKIP, SEQ, DEF, SET, PUT, FOR, IF, RETURN, lit, bin, call, def, for, end, ret}
use Rattle.promises.specs.Swatches.{sames}

-- ---- the compiler
pub record Refused : Type 0 where
  pub table : List ℕ
  pub room : ℕ
  pub number : ℕ
  pub place : ℕ

unfoldable pub is_refusal : ℕ → Case → Bool
is_refusal n accepted = false
is_refusal n (refusal m) = eqb m n

-- the number, the place, and an output that is as it was
unfoldable pub refuses : Refused → Bool
refuses c =
    let r = compile c.table (replicate c.room 7) in
    is_refusal c.number (case_of r.answer) && (sames (values_of r.answer) (c.place ∷ []) && sames r.out (replicate c.room 7))

unfoldable pub refuses_all : List Refused → Bool
refuses_all [] = true
refuses_all (c ∷ cs) = refuses c && refuses_all cs

-- a table of one function without arrays, and an output with room enough
abbrev pub table : List Record → ℕ → ℕ → Refused
table records number place = record { table = words_of (PROGRAM 1 0 ∷ records); room = 200; number = number; place = place }

-- n IFs, each in the then branch of the one before
unfoldable pub nested : ℕ → List Record → List Record
nested zero rest = rest
nested (suc n) rest = IF ∷ TRU ∷ nested n (rest ++ (SKIP ∷ []))

unfoldable pub compiler_refusals : List Refused
compiler_refusals =
    record { table = []; room = 8; number = 1; place = 0 }
    ∷ record { table = 1 ∷ 1 ∷ 0 ∷ []; room = 8; number = 1; place = 0 }
    ∷ table (NUM 7 ∷ []) 2 1
    ∷ table (FUNC 0 0 ∷ RETURN ∷ SKIP ∷ []) 2 3
    ∷ table (FUNC 0 0 ∷ RETURN ∷ []) 3 3
    ∷ table (FUNC 0 0 ∷ rec 37 1 0 0 ∷ NUM 7 ∷ []) 4 2
    ∷ table (FUNC 0 1 ∷ FOR 0 4 3 ∷ SKIP ∷ []) 5 2
    ∷ table (FUNC 0 0 ∷ RETURN ∷ VAR 0 ∷ []) 5 3
    ∷ table (FUNC 0 0 ∷ SKIP ∷ rec 99 9 9 9 ∷ []) 6 3
    ∷ table (FUNC 0 0 ∷ IF ∷ replicate 16 LNOT ++ (TRU ∷ SKIP ∷ SKIP ∷ [])) 7 19
    ∷ table (FUNC 0 0 ∷ nested 9 (SKIP ∷ [])) 7 18
    ∷ table (FUNC 0 1 ∷ RETURN ∷ VAR 0 ∷ []) 8 3
    ∷ table (FUNC 0 1 ∷ DEF 0 ∷ VAR 0 ∷ []) 8 3
    ∷ table (FUNC 0 1 ∷ SEQ 2 ∷ FOR 0 0 3 ∷ SKIP ∷ RETURN ∷ VAR 0 ∷ []) 8 6
    ∷ table (FUNC 0 1 ∷ IF ∷ TRU ∷ DEF 0 ∷ NUM 1 ∷ DEF 0 ∷ NUM 2 ∷ []) 8 6
    ∷ table (FUNC 1 1 ∷ SET 0 ∷ NUM 1 ∷ []) 9 2
    ∷ table (FUNC 0 1 ∷ FOR 0 0 3 ∷ SET 0 ∷ NUM 1 ∷ []) 9 3
    ∷ table (FUNC 0 0 ∷ IF ∷ NUM 1 ∷ SKIP ∷ SKIP ∷ []) 10 2
    ∷ table (FUNC 0 0 ∷ RETURN ∷ BIN 6 ∷ TRU ∷ NUM 1 ∷ []) 10 2
    ∷ record {
      table = words_of (PROGRAM 2 1 ∷ ARRAY 4 ∷ FUNC 0 0 ∷ PUT 0 ∷ NUM 0 ∷ NUM 1 ∷ FUNC 0 0 ∷ SKIP ∷ []);
      room = 200;
      number = 11;
      place = 3;
    }
    ∷ table (FUNC 0 1 ∷ FOR 0 0 4294967295 ∷ RETURN ∷ VAR 0 ∷ []) 12 1
    ∷ record { table = words_of (PROGRAM 1 0 ∷ FUNC 0 0 ∷ RETURN ∷ NUM 7 ∷ []); room = 79; number = 13; place = 20 }
    ∷ []

-- ---- the machine
pub record TurnedAway : Type 0 where
  pub tape : List ℕ
  pub arguments : List ℕ
  pub memory : List ℕ
  pub number : ℕ
  pub place : ℕ

unfoldable pub is_turned_away : ℕ → End → Bool
is_turned_away n done = false
is_turned_away n stopped = false
is_turned_away n (turnedAway m) = eqb m n

-- the number, the place, and a memory that is as it was, whatever the limit
unfoldable pub turns_away : TurnedAway → Bool
turns_away c =
    let r = run c.tape c.arguments c.memory 3 in
    is_turned_away c.number (end_of r.answer) && (sames (endValues r.answer) (c.place ∷ []) && sames r.memory c.memory)

unfoldable pub turns_away_all : List TurnedAway → Bool
turns_away_all [] = true
turns_away_all (c ∷ cs) = turns_away c && turns_away_all cs

-- a tape of one function without parameters, with so many slots
abbrev pub tape : ℕ → List Record → ℕ → ℕ → TurnedAway
tape slots records number place =
    record { tape = words_of (PROGRAM 1 0 ∷ FUNC 0 slots ∷ records); arguments = []; memory = 9 ∷ []; number = number; place = place }

-- the same with slot 0 DEF'd first, so that RET may name it
abbrev pub body : ℕ → List Record → ℕ → ℕ → TurnedAway
body slots records number place = tape slots (lit 0 ∷ def 0 ∷ records) number place

unfoldable pub machine_refusals : List TurnedAway
machine_refusals =
    record { tape = []; arguments = []; memory = []; number = 21; place = 0 }
    ∷ record { tape = 1 ∷ 1 ∷ 0 ∷ 0 ∷ 3 ∷ []; arguments = []; memory = []; number = 21; place = 0 }
    ∷ tape 1 (FUNC 0 1 ∷ []) 22 2
    ∷ tape 1 [] 23 2
    ∷ body 1 (lit 1 ∷ rec 13 1 0 0 ∷ []) 24 5
    ∷ body 2 (for 1 4 3 ∷ []) 25 4
    ∷ body 1 (lit 1 ∷ lit 1 ∷ bin 14 ∷ []) 25 6
    ∷ body 1 (call 0 ∷ []) 25 4
    ∷ body 1 (ret 0 ∷ rec 99 9 9 9 ∷ []) 26 5
    ∷ body 1 (end ∷ []) 27 4
    ∷ body 2 (for 1 0 1 ∷ ret 0 ∷ []) 27 5
    ∷ body 10 (for 1 0 1 ∷ for 2 0 1 ∷ for 3 0 1 ∷ for 4 0 1 ∷ for 5 0 1 ∷ for 6 0 1 ∷ for 7 0 1 ∷ for 8 0 1 ∷ for 9 0 1 ∷ []) 27 12
    ∷ body 1 (lit 1 ∷ bin 1 ∷ []) 28 5
    ∷ body 1 (lit 1 ∷ ret 0 ∷ []) 28 5
    ∷ body 1 (replicate 129 (lit 1)) 28 132
    ∷ tape 1 (ret 0 ∷ []) 29 2
    ∷ body 2 (for 1 0 3 ∷ end ∷ ret 1 ∷ []) 29 6
    ∷ body 2 (for 1 0 3 ∷ lit 1 ∷ def 1 ∷ []) 29 6
    ∷ body 2 (for 1 0 4294967295 ∷ end ∷ ret 0 ∷ []) 30 1
    ∷ record { tape = words_of (PROGRAM 1 0 ∷ FUNC 1 1 ∷ ret 0 ∷ []); arguments = []; memory = 9 ∷ []; number = 31; place = 0 }
    ∷ record { tape = words_of (PROGRAM 1 1 ∷ ARRAY 2 ∷ FUNC 1 1 ∷ ret 0 ∷ []); arguments = 1 ∷ []; memory = 9 ∷ []; number = 32; place = 0 }
    ∷ []

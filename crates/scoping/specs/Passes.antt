-- What the stages of scope and of types share as the code has them, over the words of a table: a walk over a statement's records, to a depth, and
-- one over the functions. A stage says what it does at a statement's record, its expressions included (`enter`), and at the end of a statement
-- within (`leave`). Assumes nothing: these are definitions.
use Rattle.std.specs.Prelude.{ℕ, zero, suc, ◌+◌, cond, List, ltb, eqb, get_or, set}
use Rattle.word.specs.Reader.{read_at}
use Rattle.word.specs.declared.Record.{Record}
use Rattle.word.specs.Reader.{Read}
use Rattle.std.specs.Prelude.{Some, None}
use Rattle.script.specs.Stage.{clean, fault, Walked, goes, stops, onward}
use Rattle.script.specs.Stage.{First}
use Rattle.std.specs.Prelude.{Ok}
use Rattle.word.specs.Refusals.{OrRefused, refuse}
use Rattle.word.specs.declared.reader.Reader.{Reader}
use Rattle.scoping.specs.declared.passes.Heading.{Heading}

-- what a stage carries, and the record that it has come to
pub record At (A : Type 0) : Type 0 where
  pub at : ℕ
  pub state : A

abbrev pub come : {A : Type 0} → ℕ → A → Walked (At A)
come at a = goes (record { at = at; state = a })

-- ---- PROGRAM
unfoldable pub heading_of : Read → Heading
heading_of (Some (x, next)) = record { functions = x.p; first = record { at = 1 + x.q } }
heading_of None = record { functions = 0; first = record { at = 0 } }

unfoldable pub heading : List ℕ → Heading
heading t = heading_of (read_at t 0)

-- ---- a record's parts
-- how many parameters each function before has: of one, with one more; there are 16 functions at most
unfoldable pub params_of : List ℕ → ℕ → ℕ
params_of params f = cond (ltb f 16) (get_or params f 0) 0

unfoldable pub noted : List ℕ → ℕ → ℕ → List ℕ
noted params f n = set params f n

-- how many expressions: an expression's, and a statement's
unfoldable pub arity_of : List ℕ → Record → ℕ
arity_of params x =
    cond (eqb x.kind 24) 1
    (cond (eqb x.kind 25) 1
    (cond (eqb x.kind 26) 1
    (cond (eqb x.kind 27) 2
    (cond (eqb x.kind 28) (params_of params x.p)
    0))))

unfoldable pub expressions_of : ℕ → ℕ
expressions_of kind =
    cond (eqb kind 32) 1
    (cond (eqb kind 33) 1
    (cond (eqb kind 34) 2
    (cond (eqb kind 36) 1
    (cond (eqb kind 37) 1
    0))))

-- how many statements: a statement's
unfoldable pub statements_of : Record → ℕ
statements_of x = cond (eqb x.kind 31) x.p (cond (eqb x.kind 35) 1 (cond (eqb x.kind 36) 2 0))

-- ---- statements
pub record Turn (A : Type 0) : Type 0 where
  -- the record at a place, with what is carried there
  pub enter : A → ℕ → Record → Walked (At A)
  -- after a statement within one of this kind: by what was carried before the one and after the other
  pub leave : ℕ → A → A → A

-- of a stage that is told too where the record's expressions begin: one further on
unfoldable pub turn : {A : Type 0} → (A → ℕ → ℕ → Record → Walked (At A)) → (ℕ → A → A → A) → Turn A
turn enter leave = record { enter = λ a at. enter a at (at + 1); leave = leave }

unfoldable pub closing : {A : Type 0} → (A → A) → Walked (At A) → Walked (At A)
closing g (goes b) = come b.at (g b.state)
closing g (stops number place) = stops number place

-- so many statements, one after another
unfoldable pub nested : {A : Type 0} → (ℕ → A → Walked (At A)) → (Walked (At A) → Walked (At A)) → ℕ → Walked (At A) → Walked (At A)
nested f leave zero w = w
nested f leave (suc n) w = nested f leave n (onward w (λ b. leave (f b.at b.state)))

unfoldable pub enter_by : {A : Type 0} → Turn A → (ℕ → A → Walked (At A)) → ℕ → A → Read → Walked (At A)
enter_by T f at a (Some (x, next)) = nested f (closing (T.leave x.kind a)) (statements_of x) (T.enter a at x)
enter_by T f at a None = come at a

-- the statement at a record, to the depth that is left
unfoldable pub walk : {A : Type 0} → Turn A → List ℕ → ℕ → ℕ → A → Walked (At A)
walk T t zero at a = come at a
walk T t (suc left) at a = enter_by T (walk T t left) at a (read_at t at)

-- ---- the code's answers: the reader past what was walked, with what is carried
unfoldable pub answered : {A : Type 0} → Walked (At A) → OrRefused (Reader × A)
answered (goes b) = Ok (record { at = b.at }, b.state)
answered (stops number place) = refuse number place

unfoldable pub past : Walked ℕ → OrRefused Reader
past (goes at) = Ok (record { at = at })
past (stops number place) = refuse number place

-- ---- functions
-- of a function by its FUNC: the record after its statement; and what is noted of it for the later ones
pub record Over (M : Type 0) : Type 0 where
  pub body : M → Record → ℕ → Walked ℕ
  pub note : M → Record → M

unfoldable pub then_first : Walked ℕ → (ℕ → First) → First
then_first (goes at) next = next at
then_first (stops number place) next = fault number place

unfoldable pub func_at : {M : Type 0} → Over M → (M → ℕ → First) → M → Read → First
func_at O next m (Some (x, on)) = then_first (O.body m x on.at) (next (O.note m x))
func_at O next m None = clean

-- so many functions
unfoldable pub funcs_from : {M : Type 0} → Over M → List ℕ → ℕ → M → ℕ → First
funcs_from O t zero m at = clean
funcs_from O t (suc n) m at = func_at O (funcs_from O t n) m (read_at t at)

-- as many as PROGRAM says
unfoldable pub staged : {M : Type 0} → Over M → List ℕ → M → First
staged O t m = funcs_from O t (heading t).functions m (heading t).first.at

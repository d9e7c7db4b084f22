-- `Standing::answer` meets its contract: each return is the case of the definition that its tests lead to. Assumes nothing.
use Prim.Native.Nat.{ℕ, ◌<◌}
use mathlib.Core.Path.{◌≡◌, refl, sym, ap, ◌∙◌}
use mathlib.Core.Bool.{true, false, false≢true, true≢false}
use Rattle.std.specs.Prelude.{Result, Ok, Err}
use Rattle.std.proofs.Common.{rules}
use Rattle.std.specs.Result.{is_ok, MatchResult, IsErrAnd}
use Rattle.word.specs.declared.reason.Reason.{Reason}
use Rattle.word.specs.Reasons.{number_of}
use Rattle.word.specs.declared.Refusal.{Refusal}
use Rattle.tape.specs.Check.{judge, at_end}
use Rattle.checker.specs.Standing.{due_of}
use Rattle.checker.specs.Ready.{said}
use Rattle.word.specs.Refusals.{refusal}
use Rattle.checker.proofs.Walk.{room_end, end_over, end_within}
use Rattle.checker.proofs.standing.Standing.answer.Goals as goal
use Rattle.checker.proofs.standing.Standing.answer.Goals.{After-first_over, In_ok-map_err}

-- nothing more is due, so a function is known
some : (c : After-first_over) → 0 < c.args.self.known
some c = room_end (due_of c.args.self.due) _ _ (sym c.more.ensures ∙ c.if-more.false) c.requires.1

-- what was found is Ok
clear : (r : Result (Unit {0}) Reason) → true ≡ is_ok r → said r ≡ 0
unfolding said
clear (Ok u) e = refl
clear (Err r) e = absurd (true≢false e)

-- it is a fault: its refusal names its number
mapped : (r : Result (Unit {0}) Reason) (m : Result (Unit {0}) Refusal) (at : ℕ) (e : Refusal) (P : Reason → Refusal → Type 0) → m ≡ Err e
    → MatchResult r (λ u. m ≡ Ok u) (λ q. IsErrAnd m (P q)) → ((q : Reason) (z : Refusal) → P q z → z ≡ refusal (number_of q) at) → e ≡ refusal (said r) at
unfolding said
mapped (Ok u) m at e P w c h = let bad : false ≡ true = ap is_ok (sym w ∙ c) in absurd (false≢true bad)
mapped (Err q) (Ok u) at e P w c h = let bad : true ≡ false = ap is_ok w in absurd (true≢false bad)
mapped (Err q) (Err d) at e P w c h = h q e (search rules)

-- no fault was found
none : (c : In_ok-map_err) → said c.args.found ≡ 0
none c = clear c.args.found c.in_ok-map_err.ensures.variant

pub returns-in_err-map_err : goal.returns-in_err-map_err
unfolding judge
returns-in_err-map_err c = λ b.
    let refused = mapped c.args.found c.map_err.result c.args.at.at c.in_err-map_err.field-0.0 _ c.in_err-map_err.was c.map_err.ensures.cases (λ q z p. search rules) in
    search rules

pub returns-then-more : goal.returns-then-more
unfolding judge at_end
returns-then-more c = λ b. rw (c.refusal.ensures, none (goal.at.returns-then-more c).In_ok-map_err, sym c.more.ensures ∙ c.if-more.true) refl

pub returns-in-Some : goal.returns-in-Some
unfolding judge
returns-in-Some c = λ b.
    rw (c.new.ensures, none (goal.at.returns-in-Some c).In_ok-map_err)
    (sym (end_over c.args.self c.args.functions.now b c.args.at.at (sym c.more.ensures ∙ c.if-more.false) c.in-Some.f c.in-Some.ensures))

pub overflow_sub-result : goal.overflow_sub-result
overflow_sub-result c = some (goal.at.overflow_sub-result c).After-first_over

pub returns : goal.returns
unfolding judge
returns c = λ b.
    rw (none (goal.at.returns c).In_ok-map_err)
    (sym (end_within c.args.self c.args.functions.now b c.args.at.at (sym c.more.ensures ∙ c.if-more.false) (some (goal.at.returns c).After-first_over) c.in_default.ensures))

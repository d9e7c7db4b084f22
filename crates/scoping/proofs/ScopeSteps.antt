-- The code's steps of scope: the scan over a statement's expressions by the record that is found, and the functions one by one. Assumes nothing.
use Rattle.std.proofs.Common.{◌≡◌, ℕ, ◌+◌, ◌-◌, ◌<◌, ◌≤◌, true, false, List, refl, ◌∙◌, arith}
use borrow.Author.Tests.{le-leb, lt-leb}
use Rattle.std.specs.Prelude.{Ok, Some, None}
use Rattle.word.specs.Records.{records}
use Rattle.word.specs.Reader.{read_at}
use Rattle.word.specs.Refusals.{refuse, ◌>>=◌}
use Rattle.word.specs.declared.Record.{Record}
use Rattle.word.specs.declared.reader.Reader.{Reader}
use Rattle.script.proofs.Leading.{from}
use Rattle.scoping.specs.Passes.{turn, answered, past, walk, funcs_from}
use Rattle.scoping.specs.Scoped.{hides, seek_at, seek, closed_by, entering, scoping, parameters_of, scoped_func}
use Rattle.scoping.specs.declared.scope.Slots.{Slots}
use Rattle.scoping.proofs.Found.{found_on, found_none}
use Rattle.scoping.proofs.Walking.{funcs_more, body_answered}

module _ (a : Slots) (t : List ℕ) (at : ℕ) where
  pub seek_over : read_at t at ≡ None → past (seek a at (from t at)) ≡ Ok (record { at = at })
  unfolding past seek
  seek_over end = rw (found_none t at end) refl

  module _ (x : Record) (m : Reader) (found : read_at t at ≡ Some (x, m)) where
    pub seek_hidden : 20 ≤ x.kind → x.kind ≤ 28 → hides a x ≡ true → past (seek a at (from t at)) ≡ refuse 8 at
    unfolding past seek seek_at
    seek_hidden low high h = rw ((found_on t at x m found).1, le-leb 20 x.kind low, le-leb x.kind 28 high, h) refl

    pub seek_on : 20 ≤ x.kind → x.kind ≤ 28 → hides a x ≡ false → past (seek a m.at (from t m.at)) ≡ past (seek a at (from t at))
    unfolding past seek seek_at
    seek_on low high h =
        let (there, is, on) = found_on t at x m found in
        rw (on, is, le-leb 20 x.kind low, le-leb x.kind 28 high, h) refl

    pub seek_low : x.kind < 20 → past (seek a at (from t at)) ≡ Ok (record { at = at })
    unfolding past seek seek_at
    seek_low low = rw ((found_on t at x m found).1, lt-leb 20 x.kind low) refl

    pub seek_high : 28 < x.kind → past (seek a at (from t at)) ≡ Ok (record { at = at })
    unfolding past seek seek_at
    seek_high high =
        let low : 20 ≤ x.kind = omega arith in
        rw ((found_on t at x m found).1, le-leb 20 x.kind low, lt-leb x.kind 28 high) refl

pub seek_smaller : (t : List ℕ) (at : ℕ) (x : Record) (m : Reader) → read_at t at ≡ Some (x, m) → records t - m.at < records t - at
seek_smaller t at x m found = let (there, is, on) = found_on t at x m found in omega arith

-- what is left of the functions after k of n: one, and those after it
pub scope_more : (t : List ℕ) (at n k : ℕ) (x : Record) (on : Reader) → k < n → read_at t at ≡ Some (x, on)
    → funcs_from (scoped_func t) t (n - k) tt at
    ≡ (answered (walk (turn (entering t) closed_by) t 16 on.at (parameters_of x.p)) >>= λ r. funcs_from (scoped_func t) t (n - (k + 1)) tt r.0.at)
unfolding scoped_func scoping
scope_more t at n k x on h found =
    funcs_more (scoped_func t) t at tt n k x on h found
    ∙ body_answered (walk (scoping t) t 16 on.at (parameters_of x.p)) (funcs_from (scoped_func t) t (n - (k + 1)) tt)

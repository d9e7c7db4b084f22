-- The operators' laws over words: masks, ranges, types. Each is proved here once. Assumes nothing.
use Rattle.std.proofs.Common.{◌≡◌, ℕ, suc, ◌+◌, ◌-◌, ◌*◌, ◌^◌, ◌<◌, ◌≤◌, Bool, true, false, cond, not, ◌&&◌, ◌||◌, T, eqb, ltb, leb, sym, refl, ap, ◌∙◌, ap₂, lt_of_le_of_lt, mod-lt, mod-eq_of_lt, div-le_self, arith, lit<, lit≤, eqb-true}
use borrow.Author.Tests.{eqb-false}
use lib.Bits.{and_zero_r, or_zero_r, and_comm, and_mask, and_lt, or_lt}
use Rattle.word.specs.Value.{TRUE, FALSE, mask, truth, Op, add, sub, mul, shl, shr, and, or, eq, ne, gt, lt, ge, le, land, lor, op, flip, negate, left, left_by, right, right_by}
use Rattle.word.specs.Code.{code, op_of}
use Rattle.word.specs.Types.{Ty, number, boolean, Val, is_number, is_boolean, alike, booleans, op_ty, op_fine}

-- ---- masks
mask_word : (b : Bool) → mask b < 2 ^ 32
mask_word true = lit< tt
mask_word false = lit< tt

pub truth_mask : (b : Bool) → truth (mask b) ≡ b
unfolding truth
truth_mask true = refl
truth_mask false = refl

pub and_true : {a : ℕ} → a < 2 ^ 32 → op and a TRUE ≡ a
unfolding op
and_true {a} h = and_mask a 32 ∙ mod-eq_of_lt h

pub true_and : {a : ℕ} → a < 2 ^ 32 → op and TRUE a ≡ a
unfolding op
true_and {a} h = and_comm TRUE a ∙ (and_mask a 32 ∙ mod-eq_of_lt h)

pub and_false : (a : ℕ) → op and a FALSE ≡ FALSE
unfolding op
and_false a = and_zero_r a

pub false_and : (a : ℕ) → op and FALSE a ≡ FALSE
unfolding op
false_and a = refl

pub or_false : (a : ℕ) → op or a FALSE ≡ a
unfolding op
or_false a = or_zero_r a

pub false_or : (a : ℕ) → op or FALSE a ≡ a
unfolding op
false_or a = refl

pub flip_mask : (b : Bool) → flip (mask b) ≡ mask (not b)
unfolding flip
flip_mask true = refl
flip_mask false = refl

pub negate_mask : (b : Bool) → negate (mask b) ≡ mask (not b)
unfolding negate
negate_mask b = ap (λ (c : Bool). mask (not c)) (truth_mask b)

and_mask_mask : (b c : Bool) → op and (mask b) (mask c) ≡ mask (b && c)
unfolding op
and_mask_mask true true = refl
and_mask_mask true false = refl
and_mask_mask false c = refl

or_mask_mask : (b c : Bool) → op or (mask b) (mask c) ≡ mask (b || c)
unfolding op
or_mask_mask true true = refl
or_mask_mask true false = refl
or_mask_mask false c = refl

-- a masked assignment under a mask that is TRUE, and under one that is FALSE
pub merge_on : {v : ℕ} (old : ℕ) → v < 2 ^ 32 → op or (op and v TRUE) (op and old (flip TRUE)) ≡ v
merge_on {v} old h = ap₂ (op or) (and_true h) (ap (op and old) (flip_mask true) ∙ and_false old) ∙ or_false v

pub merge_off : (v : ℕ) {old : ℕ} → old < 2 ^ 32 → op or (op and v FALSE) (op and old (flip FALSE)) ≡ old
merge_off v {old} h = ap₂ (op or) (and_false v) (ap (op and old) (flip_mask false) ∙ and_true h) ∙ false_or old

-- ---- ranges and types
pub word : {v : ℕ} {t : Ty} → Val v t → v < 2 ^ 32
word (is_number h) = h
word (is_boolean b e) = rw e (mask_word b)

pub flip_word : (v : ℕ) → flip v < 2 ^ 32
unfolding flip
flip_word v = omega arith

left_word : (t : Bool) (a n : ℕ) → left_by t a n < 2 ^ 32
unfolding left_by
left_word true a n = mod-lt (a * 2 ^ n) (lit< tt)
left_word false a n = lit< tt

right_word : (t : Bool) (a n : ℕ) → a < 2 ^ 32 → right_by t a n < 2 ^ 32
unfolding right_by
right_word true a n h = lt_of_le_of_lt (div-le_self a (2 ^ n)) h
right_word false a n h = lit< tt

-- every operator keeps words
pub op_word : (o : Op) {a b : ℕ} → a < 2 ^ 32 → b < 2 ^ 32 → op o a b < 2 ^ 32
unfolding op left right
op_word add {a} {b} h k = mod-lt (a + b) (lit< tt)
op_word sub {a} {b} h k = mod-lt (a + 2 ^ 32 - b) (lit< tt)
op_word mul {a} {b} h k = mod-lt (a * b) (lit< tt)
op_word shl {a} {b} h k = left_word (ltb b 32) a b
op_word shr {a} {b} h k = right_word (ltb b 32) a b h
op_word and {a} {b} h k = and_lt 32 a b h k
op_word or {a} {b} h k = or_lt 32 a b h k
op_word eq {a} {b} h k = mask_word (eqb a b)
op_word ne {a} {b} h k = mask_word (not (eqb a b))
op_word gt {a} {b} h k = mask_word (ltb b a)
op_word lt {a} {b} h k = mask_word (ltb a b)
op_word ge {a} {b} h k = mask_word (leb b a)
op_word le {a} {b} h k = mask_word (leb a b)
op_word land {a} {b} h k = mask_word (truth a && truth b)
op_word lor {a} {b} h k = mask_word (truth a || truth b)

-- & and | keep a type that both sides have
and_val : {l r : Ty} {a b : ℕ} → T (alike l r) → Val a l → Val b r → Val (op and a b) l
and_val h (is_number p) (is_number q) = is_number (op_word and p q)
and_val h (is_number p) (is_boolean c f) = absurd h
and_val h (is_boolean b e) (is_number q) = absurd h
and_val h (is_boolean b e) (is_boolean c f) = is_boolean (b && c) (rw (e, f) (and_mask_mask b c))

or_val : {l r : Ty} {a b : ℕ} → T (alike l r) → Val a l → Val b r → Val (op or a b) l
or_val h (is_number p) (is_number q) = is_number (op_word or p q)
or_val h (is_number p) (is_boolean c f) = absurd h
or_val h (is_boolean b e) (is_number q) = absurd h
or_val h (is_boolean b e) (is_boolean c f) = is_boolean (b || c) (rw (e, f) (or_mask_mask b c))

-- an operator's result has its type
pub op_val : (o : Op) {l r : Ty} {a b : ℕ} → T (op_fine o l r) → Val a l → Val b r → Val (op o a b) (op_ty o l)
unfolding op_ty op_fine
op_val add h p q = is_number (op_word add (word p) (word q))
op_val sub h p q = is_number (op_word sub (word p) (word q))
op_val mul h p q = is_number (op_word mul (word p) (word q))
op_val shl h p q = is_number (op_word shl (word p) (word q))
op_val shr h p q = is_number (op_word shr (word p) (word q))
op_val and h p q = and_val h p q
op_val or h p q = or_val h p q
op_val eq {a} {b} h p q = is_boolean (eqb a b) (unfold op in refl)
op_val ne {a} {b} h p q = is_boolean (not (eqb a b)) (unfold op in refl)
op_val gt {a} {b} h p q = is_boolean (ltb b a) (unfold op in refl)
op_val lt {a} {b} h p q = is_boolean (ltb a b) (unfold op in refl)
op_val ge {a} {b} h p q = is_boolean (leb b a) (unfold op in refl)
op_val le {a} {b} h p q = is_boolean (leb a b) (unfold op in refl)
op_val land {a} {b} h p q = is_boolean (truth a && truth b) (unfold op in refl)
op_val lor {a} {b} h p q = is_boolean (truth a || truth b) (unfold op in refl)

pub negate_val : {v : ℕ} → Val v boolean → Val (negate v) boolean
negate_val (is_boolean b e) = is_boolean (not b) (rw e (negate_mask b))

pub flip_val : (v : ℕ) → Val (flip v) number
flip_val v = is_number (flip_word v)

-- ---- on masks, `!` is `~`, `&&` is `&` and `||` is `|`
pub flip_negate : {v : ℕ} → Val v boolean → flip v ≡ negate v
flip_negate (is_boolean b e) = rw e (flip_mask b ∙ sym (negate_mask b))

both_boolean : {l r : Ty} {a b : ℕ} → T (booleans l r) → Val a l → Val b r → Val a boolean × Val b boolean
both_boolean h (is_number p) q = absurd h
both_boolean h (is_boolean b e) (is_number q) = absurd h
both_boolean h (is_boolean b e) (is_boolean c f) = (is_boolean b e, is_boolean c f)

mask_land : {a b : ℕ} → Val a boolean → Val b boolean → op and a b ≡ op land a b
mask_land (is_boolean b e) (is_boolean c f) =
    rw (e, f) (and_mask_mask b c ∙ sym (unfold op in ap₂ (λ (x y : Bool). mask (x && y)) (truth_mask b) (truth_mask c)))

mask_lor : {a b : ℕ} → Val a boolean → Val b boolean → op or a b ≡ op lor a b
mask_lor (is_boolean b e) (is_boolean c f) =
    rw (e, f) (or_mask_mask b c ∙ sym (unfold op in ap₂ (λ (x y : Bool). mask (x || y)) (truth_mask b) (truth_mask c)))

pub and_land : {l r : Ty} {a b : ℕ} → T (op_fine land l r) → Val a l → Val b r → op and a b ≡ op land a b
unfolding op_fine
and_land h p q = let both = both_boolean h p q in mask_land both.0 both.1

pub or_lor : {l r : Ty} {a b : ℕ} → T (op_fine lor l r) → Val a l → Val b r → op or a b ≡ op lor a b
unfolding op_fine
or_lor h p q = let both = both_boolean h p q in mask_lor both.0 both.1

-- ---- codes
pub op_of_code : (o : Op) → op_of (code o) ≡ o
unfolding op_of code
op_of_code add = refl
op_of_code sub = refl
op_of_code mul = refl
op_of_code shl = refl
op_of_code shr = refl
op_of_code and = refl
op_of_code or = refl
op_of_code eq = refl
op_of_code ne = refl
op_of_code gt = refl
op_of_code lt = refl
op_of_code ge = refl
op_of_code le = refl
op_of_code land = refl
op_of_code lor = refl

pub code_range : (o : Op) → (1 ≤ code o) × (code o ≤ 15)
unfolding code
code_range add = (lit≤ tt, lit≤ tt)
code_range sub = (lit≤ tt, lit≤ tt)
code_range mul = (lit≤ tt, lit≤ tt)
code_range shl = (lit≤ tt, lit≤ tt)
code_range shr = (lit≤ tt, lit≤ tt)
code_range and = (lit≤ tt, lit≤ tt)
code_range or = (lit≤ tt, lit≤ tt)
code_range eq = (lit≤ tt, lit≤ tt)
code_range ne = (lit≤ tt, lit≤ tt)
code_range gt = (lit≤ tt, lit≤ tt)
code_range lt = (lit≤ tt, lit≤ tt)
code_range ge = (lit≤ tt, lit≤ tt)
code_range le = (lit≤ tt, lit≤ tt)
code_range land = (lit≤ tt, lit≤ tt)
code_range lor = (lit≤ tt, lit≤ tt)

-- a code in that range is an operator's
choose : (P : Op → Type 0) (o n : ℕ) {a b : Op} → n ≤ o → (n ≡ o → P a) → (suc n ≤ o → P b) → P (cond (eqb o n) a b)
choose P o n {a} {b} l h k = by (eqb o n) refl
  where
    by : (t : Bool) → eqb o n ≡ t → P (cond t a b)
    by true e = h (sym (eqb-true o n e))
    by false e = let d = eqb-false o n e in k (omega arith)

pub code_op : (o : ℕ) → 1 ≤ o → o ≤ 15 → code (op_of o) ≡ o
unfolding code op_of
code_op o l h =
    choose P o 1 l (λ e. e) (λ l. choose P o 2 l (λ e. e) (λ l. choose P o 3 l (λ e. e) (λ l. choose P o 4 l (λ e. e) (λ l. choose P o 5 l (λ e. e)
    (λ l. choose P o 6 l (λ e. e) (λ l. choose P o 7 l (λ e. e) (λ l. choose P o 8 l (λ e. e) (λ l. choose P o 9 l (λ e. e) (λ l. choose P o 10 l (λ e. e)
    (λ l. choose P o 11 l (λ e. e) (λ l. choose P o 12 l (λ e. e) (λ l. choose P o 13 l (λ e. e) (λ l. choose P o 14 l (λ e. e) (λ l. last l))))))))))))))
  where
    P : Op → Type 0
    P a = code a ≡ o

    last : 15 ≤ o → P lor
    last l = omega arith

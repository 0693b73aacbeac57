-- What a call comes to, told from its answer: words written, or the number of a refusal.
use Rattle.std.specs.Prelude.{ℕ, ◌≤◌, ◌<◌, List, ◌≡◌, refl, length, take, drop}
use Rattle.std.proofs.Common.{arith, le-leb}
use Rattle.std.proofs.lemmas.Bool.{lt-leb}
use Rattle.std.proofs.Math.Seq.{take-append_seam}
use Rattle.semantics.specs.Answers.{number, answer_of, Result, write, leave, refuse, refuse_move, outcome_of, target_after, unless_denied, has_words}
use Rattle.semantics.specs.declared.Refusal.{Refusal}
use Rattle.semantics.specs.declared.Refusal.TheVariants.{TableSizes, TableContents, StateSizes, StateContents, MoveForm, TargetTooShort, WrongPick}
use Rattle.semantics.specs.declared.Refusal.TheVariants.{WrongOwner, NoTransaction, EndNotAllowed, NoMoreIds, TooManyEntries, LogSizes, BeginEmits}
use Rattle.semantics.specs.declared.Refusal.TheVariants.{TransactionOpen, SerialTooManyEntries, TransactionAborting, BudgetTooLarge}
use Rattle.semantics.specs.declared.Verdict.{Verdict}
use Rattle.semantics.specs.declared.Verdict.TheVariants.{Allowed, Denied}
use Rattle.wellformed.specs.Verdicts.{unless-intro, unless-false}

pub refuse≢leave : {r : Refusal} {ws : List ℕ} {k : ℕ} → refuse r ≡ leave ws k → ⊥
refuse≢leave h = let z : ◌≡◌ {A = ℕ} 0 1 = cc in omega arith

pub unless_denied-leave : (v : Verdict) (x : Result) (ws : List ℕ) (k : ℕ) → unless_denied v x ≡ leave ws k → (v ≡ Allowed) × (x ≡ leave ws k)
unless_denied-leave Allowed x ws k h = (refl, h)
unless_denied-leave (Denied r) x ws k h = absurd (refuse≢leave h)

pub leave_same : {a b : List ℕ} {k n : ℕ} → leave a k ≡ leave b n → (a ≡ b) × (k ≡ n)
leave_same {a} {b} {k} {n} h =
    let words : a ≡ b = cc in
    let members : k ≡ n = cc in
    (words, members)

-- no refusal has the number 0, and none but that of a log's move 16
pub number-own : (r : Refusal) → (1 ≤ number r) × (number r ≡ 16 → ⊥)
number-own TableSizes = omega arith
number-own TableContents = omega arith
number-own StateSizes = omega arith
number-own StateContents = omega arith
number-own MoveForm = omega arith
number-own TargetTooShort = omega arith
number-own WrongPick = omega arith
number-own WrongOwner = omega arith
number-own NoTransaction = omega arith
number-own EndNotAllowed = omega arith
number-own NoMoreIds = omega arith
number-own TooManyEntries = omega arith
number-own LogSizes = omega arith
number-own BeginEmits = omega arith
number-own TransactionOpen = omega arith
number-own SerialTooManyEntries = omega arith
number-own TransactionAborting = omega arith
number-own BudgetTooLarge = omega arith

-- an accepted call that makes moves, and so writes nothing but the state that they leave
pub leave-accepted : (v : Verdict) (x : Result) → ((ws : List ℕ) → x ≡ write ws → ⊥) → (answer_of (outcome_of (unless_denied v x))).number ≡ 0
    → (ws : List ℕ) × (k : ℕ) × (unless_denied v x ≡ leave ws k)
leave-accepted (Denied r) x n h = absurd (let p = (number-own r).0 in omega arith)
leave-accepted Allowed (write ws) n h = absurd (n ws refl)
leave-accepted Allowed (leave ws k) n h = (ws, k, refl)
leave-accepted Allowed (refuse r) n h = absurd (let p = (number-own r).0 in omega arith)
leave-accepted Allowed (refuse_move i r) n h = absurd (omega arith)

pub move-refused : (x : Result) → (answer_of (outcome_of x)).number ≡ 16 → (i : ℕ) × (r : Refusal) × (x ≡ refuse_move i r)
move-refused (write ws) h = absurd (omega arith)
move-refused (leave ws k) h = absurd (omega arith)
move-refused (refuse r) h = absurd ((number-own r).1 h)
move-refused (refuse_move i r) h = (i, r, refl)

-- the words that an accepted move or run wrote stand at the target's beginning, as many as its answer says
pub written : (x : Result) (target ws : List ℕ) {k : ℕ} → x ≡ leave ws k → take (answer_of (outcome_of x)).words (target_after x target) ≡ ws
written x target ws h = rw h (take-append_seam ws (drop (length ws) target))

-- 6, of a target of any length
pub too_short : (n : ℕ) (target : List ℕ) → length target < n → has_words n target ≡ Denied TargetTooShort
too_short n target h = unless-false TargetTooShort (lt-leb n (length target) h)

pub long-enough : (n : ℕ) (target : List ℕ) → n ≤ length target → has_words n target ≡ Allowed
long-enough n target h = unless-intro TargetTooShort (le-leb n (length target) h)

-- The longest input that is allowed has 8,200 words: 1,029 of table, 2,050 of state and 5,121 of log. Reading one byte more than its 32,800 is
-- enough: the verdict on what was read is that on the whole input, and where it is Allowed all was read.
use Rattle.std.specs.Prelude.{ℕ, zero, suc, ◌+◌, ◌-◌, ◌*◌, ◌≤◌, ◌<◌, Bool, true, false, ◌&&◌, List, [], ◌∷◌, ◌≡◌, refl, leb, eqb, length, take, drop}
use Rattle.std.proofs.Math.Path.{sym, ap}
use Rattle.std.proofs.Common.{◌∙◌, arith, leb-true, leb-false, eqb-true, ne_eqb, length-take, take-take, take_all, length-take-le}
use Rattle.std.proofs.Math.ListN.{get_or}
use Rattle.std.proofs.Math.Seq.{get_or-take}
use Rattle.lists.specs.Tests.{and_both}
use Rattle.lists.specs.Choices.{is_false}
use Rattle.lists.specs.Beginning.{drop-take}
use Rattle.semantics.specs.Table.{sizes_of, table_sizes_ok}
use Rattle.wellformed.specs.Tables.{table-sized, well-formed}
use Rattle.semantics.specs.State.{state_sizes_ok}
use Rattle.wellformed.specs.States.{state-sized, state-given}
use Rattle.semantics.specs.Log.{move_count, log_sizes_ok}
use Rattle.semantics.specs.Move.{unless, both}
use Rattle.semantics.specs.Answers.{table_verdict, state_own_verdict, state_verdict, log_verdict}
use Rattle.semantics.specs.Program.{words_of, Parts, table_part, state_part, after_table, parts_of, part_words, input_verdict}
use Rattle.semantics.specs.declared.Sizes.{Sizes}
use Rattle.semantics.specs.declared.Refusal.TheVariants.{TableSizes, StateSizes, LogSizes}
use Rattle.semantics.specs.declared.Verdict.{Verdict}
use Rattle.semantics.specs.declared.Verdict.TheVariants.{Allowed, Denied}
use Rattle.intake.specs.Split.{accepted-input}

-- ---- the words of the first bytes

word_more : (n : ℕ) → 4 * suc n + 1 ≡ suc (suc (suc (suc (4 * n + 1))))
word_more n = omega arith

pub words_take : (n : ℕ) (bytes : List ℕ) → words_of (take (4 * n + 1) bytes) ≡ take n (words_of bytes)
words_take zero [] = refl
words_take zero (a ∷ bytes) = refl
words_take (suc n) [] = rw (word_more n)
words_take (suc n) (a ∷ []) = rw (word_more n)
words_take (suc n) (a ∷ b ∷ []) = rw (word_more n)
words_take (suc n) (a ∷ b ∷ c ∷ []) = rw (word_more n)
words_take (suc n) (a ∷ b ∷ c ∷ d ∷ rest) = rw (word_more n, words_take n rest)

-- ---- table and state lie within the first 3,079 words, or a size is over its limit

module _ (ws : List ℕ) where
  table-over : 512 < get_or ws 4 0 → table_verdict (table_part ws) ≡ Denied TableSizes
  unfolding table_verdict
  table-over h =
      let same : get_or (table_part ws) 4 0 ≡ get_or ws 4 0 = get_or-take (5 + 2 * get_or ws 4 0) ws 4 0 (omega arith) in
      rw (is_false (table_sizes_ok (table_part ws)) (λ yes. let z = table-sized (table_part ws) yes in omega arith))

  state-over : (z : Sizes) → 1024 < get_or ws 0 0 → state_own_verdict z (state_part ws) ≡ Denied StateSizes
  unfolding state_own_verdict
  state-over z h =
      let same : get_or (state_part ws) 0 0 ≡ get_or ws 0 0 = get_or-take (2 + 2 * get_or ws 0 0) ws 0 0 (omega arith) in
      rw (is_false (state_sizes_ok (state_part ws)) (λ yes. let z = state-sized (state_part ws) yes in omega arith))

state-enough : (m : ℕ) (z : Sizes) (ws : List ℕ) → 2050 ≤ m → state_own_verdict z (state_part (take m ws)) ≡ state_own_verdict z (state_part ws)
state-enough m z ws h = go (leb (get_or ws 0 0) 1024) refl
  where
    same : get_or (take m ws) 0 0 ≡ get_or ws 0 0
    same = get_or-take m ws 0 0 (omega arith)

    go : (b : Bool) → leb (get_or ws 0 0) 1024 ≡ b → state_own_verdict z (state_part (take m ws)) ≡ state_own_verdict z (state_part ws)
    go true e =
        let l = leb-true (get_or ws 0 0) 1024 e in
        rw (same, take-take (2 + 2 * get_or ws 0 0) m ws (omega arith))
    go false e =
        let l = leb-false (get_or ws 0 0) 1024 e in
        state-over (take m ws) z (rw same l) ∙ sym (state-over ws z l)

table-enough :
    (m : ℕ) (ws : List ℕ) → 3079 ≤ m
    → state_verdict (table_part (take m ws)) (state_part (after_table (take m ws))) ≡ state_verdict (table_part ws) (state_part (after_table ws))
unfolding state_verdict
table-enough m ws h = go (leb (get_or ws 4 0) 512) refl
  where
    same : get_or (take m ws) 4 0 ≡ get_or ws 4 0
    same = get_or-take m ws 4 0 (omega arith)

    go : (b : Bool) → leb (get_or ws 4 0) 512 ≡ b
        → both (table_verdict (table_part (take m ws))) (state_own_verdict (sizes_of (table_part (take m ws))) (state_part (after_table (take m ws))))
        ≡ both (table_verdict (table_part ws)) (state_own_verdict (sizes_of (table_part ws)) (state_part (after_table ws)))
    go true e =
        let l = leb-true (get_or ws 4 0) 512 e in
        let t : table_part (take m ws) ≡ table_part ws = rw (same, take-take (5 + 2 * get_or ws 4 0) m ws (omega arith)) in
        let k = length (table_part ws) in
        let few : k ≤ 1029 = omega (arith, length-take (5 + 2 * get_or ws 4 0) ws) in
        let d : drop k (take m ws) ≡ take (m - k) (after_table ws) = drop-take k m ws in
        rw (t, d) (ap (both (table_verdict (table_part ws))) (state-enough (m - k) (sizes_of (table_part ws)) (after_table ws) (omega arith)))
    go false e =
        let l = leb-false (get_or ws 4 0) 512 e in
        rw (table-over (take m ws) (rw same l), table-over ws l)

-- ---- an input of more bytes than the longest one has some left over, whatever its log

log-few : (l : List ℕ) → log_sizes_ok l ≡ true → length l ≤ 5121
unfolding log_sizes_ok
log-few l h =
    let (a, h) = and_both (leb 1 (length l)) (leb (move_count l) 1024 && eqb (length l) (1 + 5 * move_count l)) h in
    let (b, c) = and_both (leb (move_count l) 1024) (eqb (length l) (1 + 5 * move_count l)) h in
    omega (arith, leb-true (move_count l) 1024 b, eqb-true (length l) (1 + 5 * move_count l) c)

parts-few : (p : Parts) → state_verdict p.table p.state ≡ Allowed → log_sizes_ok p.log ≡ true → part_words p ≤ 8200
parts-few p h l =
    let (t, s, _) = state-given p.state p.table h in
    let z = (well-formed p.table t).sizes in
    let n = state-sized p.state s in
    omega (arith, log-few p.log l)

long-verdict :
    (ws : List ℕ) (bytes : ℕ) → 32800 < bytes
    → input_verdict ws bytes ≡ both (state_verdict (parts_of ws).table (parts_of ws).state) (Denied LogSizes)
unfolding input_verdict log_verdict
long-verdict ws bytes h = go (state_verdict p.table p.state) refl
  where
    p : Parts
    p = parts_of ws

    go : (v : Verdict) → state_verdict p.table p.state ≡ v
        → both (both v (unless (log_sizes_ok p.log) LogSizes)) (unless (eqb bytes (4 * part_words p)) LogSizes) ≡ both v (Denied LogSizes)
    go (Denied r) e = refl
    go Allowed e = log (log_sizes_ok p.log) refl
      where
        log : (b : Bool) → log_sizes_ok p.log ≡ b → both (unless b LogSizes) (unless (eqb bytes (4 * part_words p)) LogSizes) ≡ Denied LogSizes
        log false f = refl
        log true f = rw (ne_eqb bytes (4 * part_words p) (λ same. let few = parts-few p e f in omega arith))

-- ---- the verdict

-- for any number of words from the longest input's on
module _ (bytes : List ℕ) (n : ℕ) (h : 8200 ≤ n) where
  read-cut : 4 * n + 1 < length bytes → input_verdict (take n (words_of bytes)) (4 * n + 1) ≡ input_verdict (words_of bytes) (length bytes)
  unfolding parts_of
  read-cut l =
      long-verdict (take n (words_of bytes)) (4 * n + 1) (omega arith)
      ∙ ap (λ (v : Verdict). both v (Denied LogSizes)) (table-enough n (words_of bytes) (omega arith))
      ∙ sym (long-verdict (words_of bytes) (length bytes) (omega arith))

  read-enough :
      input_verdict (words_of (take (4 * n + 1) bytes)) (length (take (4 * n + 1) bytes)) ≡ input_verdict (words_of bytes) (length bytes)
  read-enough = go (leb (length bytes) (4 * n + 1)) refl
    where
      go : (b : Bool) → leb (length bytes) (4 * n + 1) ≡ b
          → input_verdict (words_of (take (4 * n + 1) bytes)) (length (take (4 * n + 1) bytes)) ≡ input_verdict (words_of bytes) (length bytes)
      go true e = rw (take_all (4 * n + 1) bytes (leb-true (length bytes) (4 * n + 1) e))
      go false e =
          let l = leb-false (length bytes) (4 * n + 1) e in
          rw (length-take-le (4 * n + 1) bytes (omega arith), words_take n bytes) (read-cut l)

pub enough :
    (bytes : List ℕ) → input_verdict (words_of (take 32801 bytes)) (length (take 32801 bytes)) ≡ input_verdict (words_of bytes) (length bytes)
enough bytes = read-enough bytes 8200 (omega arith)

pub allowed-short : (ws : List ℕ) (bytes : ℕ) → input_verdict ws bytes ≡ Allowed → bytes ≤ 32800
allowed-short ws bytes h =
    let a = accepted-input h in
    let few = parts-few (parts_of ws) a.state a.log in
    omega arith

-- an allowed input is read whole, ..
pub enough-allowed : (bytes : List ℕ) → input_verdict (words_of bytes) (length bytes) ≡ Allowed → take 32801 bytes ≡ bytes
enough-allowed bytes h = go 32801 (omega arith)
  where
    go : (n : ℕ) → 32800 < n → take n bytes ≡ bytes
    go n l = take_all n bytes (omega (arith, allowed-short (words_of bytes) (length bytes) h))

-- .. so that its parts are those of the whole input
pub enough-parts :
    (bytes : List ℕ) → input_verdict (words_of bytes) (length bytes) ≡ Allowed → parts_of (words_of (take 32801 bytes)) ≡ parts_of (words_of bytes)
enough-parts bytes h = ap (λ (b : List ℕ). parts_of (words_of b)) (enough-allowed bytes h)

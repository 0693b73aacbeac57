-- 02, M-100: the length of the list is a number of 64 bits, with much to spare.
use Rattle.std.specs.Prelude.{ℕ, ◌-◌, ◌^◌, ◌≤◌, ◌<◌, List, ◌++◌, map, ◌≡◌, length}
use Rattle.std.proofs.Math.Nat.{pow-le-pow_left, pow-le-pow_right}
use Rattle.std.proofs.Common.{arith, length-append}
use Rattle.std.proofs.lemmas.List.{length-map}
use Rattle.lists.specs.Lists.{up_from, tuples}
use Rattle.lists.specs.Members.{Among}
use Rattle.lists.specs.TupleMembers.{among-up}
use Rattle.lists.specs.TupleCount.{length_up, keep-le, length-each-le, length-tuples}
use Rattle.semantics.specs.Table.{Table, table_of, rule_at, consumed}
use Rattle.semantics.specs.State.{State, state_of}
use Rattle.semantics.specs.Move.{react, commit, abort, move_verdict}
use Rattle.semantics.specs.Enabled.{reactions_of, candidates, is_allowed, enabled}
use Rattle.semantics.specs.Answers.{state_verdict, enabled_in}
use Rattle.semantics.specs.declared.Verdict.TheVariants.{Allowed}
use Rattle.enabled.specs.Candidates.{all_reactions, all_ids, FromWords, from-words}

module _ {t : Table} {s : State} (words : FromWords t s) where
  -- at most 1,024 entries for each of at most four consumes
  rule-length : (r : ℕ) → Among r (up_from 0 (length t.rules)) → length (reactions_of t (length s.entries) r) ≤ 1024 ^ 4
  rule-length r m =
      let n = length s.entries in
      let c = length (consumed (rule_at t r)) in
      let u = among-up 0 (length t.rules) r m in
      let a = length-map (tuples n c) (react r) in
      let b = length-tuples n c in
      let d : n ^ c ≤ 1024 ^ c = pow-le-pow_left words.few-entries c in
      let e : 1024 ^ c ≤ 1024 ^ 4 = pow-le-pow_right (omega arith) (words.right.rule r (omega arith)).consumes-le in
      omega arith

  candidates-length : length (candidates t s) < 2 ^ 63
  candidates-length =
      let rules = up_from 0 (length t.rules) in
      let a = length-append (all_reactions t s ++ map commit (all_ids t s)) (map abort (all_ids t s)) in
      let b = length-append (all_reactions t s) (map commit (all_ids t s)) in
      let c = length-map (all_ids t s) commit in
      let d = length-map (all_ids t s) abort in
      let e = length_up 1 (s.next - 1) in
      let f = length-each-le (reactions_of t (length s.entries)) (1024 ^ 4) rules rule-length in
      let g = length_up 0 (length t.rules) in
      let few = words.few-rules in
      let next = words.sound.next-high in
      omega arith

pub enabled-length : (ceiling : ℕ) (t s : List ℕ) → state_verdict t s ≡ Allowed → length (enabled_in ceiling t s) < 2 ^ 63
unfolding enabled
enabled-length ceiling t s h =
    let a = keep-le (λ m. is_allowed (move_verdict ceiling (table_of t) (state_of s) m)) (candidates (table_of t) (state_of s)) in
    let b = candidates-length (from-words t s h) in
    omega arith

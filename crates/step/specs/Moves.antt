-- What the functions of a whole move ask and say, and laws for their callers.
use Rattle.std.specs.Prelude.{ℕ, ◌-◌, ◌≤◌, ◌<◌, ◌≡◌, refl, Bool, ◌&&◌, cond, List, ◌∷◌, ltb, leb, eqb, drop, take}
use Rattle.std.proofs.Common.{sym, ap, ◌∙◌, arith}
use Rattle.std.proofs.Math.Bool.{true, false}
use Rattle.std.proofs.Math.ListN.{length}
use borrow.Author.Tests.{lt-ltb, le-ltb, eqb-true, eqb-false, eq-eqb, ne_eqb, le-leb}
use Rattle.lists.specs.Lists.{all}
use Rattle.lists.specs.Choices.{by_bool}
use Rattle.lists.specs.Tests.{false-and, true-and}
use Rattle.semantics.specs.Words.{head_kind, head_number}
use Rattle.semantics.specs.Table.{Table, sizes_of, table_of, rule_at, consumed}
use Rattle.semantics.specs.Move.{Move, react, commit, abort, unless, both, is_zero, move_ok, move_of, reacted, is_open, may_commit, may_abort, ended, allowed, applied, move_verdict}
use Rattle.semantics.specs.Members.{member_count, members_ended}
use Rattle.semantics.specs.declared.Refusal.TheVariants.{NoTransaction, EndNotAllowed}
use Rattle.semantics.specs.declared.Sizes.{Sizes}
use Rattle.semantics.specs.declared.Verdict.{Verdict}
use Rattle.semantics.specs.declared.Verdict.TheVariants.{Allowed, Denied}
use Rattle.wellformed.specs.Tables.{length-rules}
use Rattle.wellformed.specs.Length.{length-commit, length-abort}
use Rattle.rules.specs.declared.decode.Rule.{Rule}
use Rattle.rules.specs.Decode.{Decodes}
use Rattle.reaction.specs.Decoded.{rule_in, rule-in}
use Rattle.reaction.specs.Verdict.{react_verdict, react-verdict-is}
use Rattle.ending.specs.End.{end_verdict}
use Rattle.semantics.specs.State as semantics

-- x is the rule of a reaction's head; an end has none
abbrev pub RuleFor : Rule → Table → ℕ → Type 0
RuleFor x t head = head_kind head ≡ 0 → Decodes x (rule_at t (head_number head))

-- a move of table t in words, with its rule
pub record IsMove (t : Table) (x : Rule) (head : ℕ) (picks : List ℕ) : Type 0 where
  pub form : move_ok t (head ∷ picks) ≡ true
  pub rule : RuleFor x t head

-- ---- form

-- of an end: kind and id within their ranges, no pick
abbrev pub end_form : ℕ → List ℕ → Bool
end_form head picks = leb (head_kind head) 2 && leb 1 (head_number head) && leb (head_number head) 65535 && all is_zero (drop 0 picks)

module _ (t : Table) (head : ℕ) (picks : List ℕ) where
  module _ (four : length picks ≡ 4) where
    pub form-end : (head_kind head ≡ 0 → ⊥)
        → end_form head picks ≡ move_ok t (head ∷ picks)
    unfolding move_ok
    form-end h = rw (four, ne_eqb (head_kind head) 0 h)

    pub form-react : head_kind head ≡ 0
        → ltb (head_number head) (length t.rules) && all is_zero (drop (length (consumed (rule_at t (head_number head)))) picks) ≡ move_ok t (head ∷ picks)
    unfolding move_ok
    form-react h = rw (four, eq-eqb (head_kind head) 0 h)

-- in a table of words whose sizes were read
module _ (t : List ℕ) {z : Sizes} (e : z ≡ sizes_of t) where
  rules-read : z.rules ≡ (sizes_of t).rules
  rules-read = ap (λ (s : Sizes). s.rules) e

  pub below-rules : {n : ℕ} → n < z.rules → n < (sizes_of t).rules
  below-rules h = omega (arith, rules-read)

  module _ (head : ℕ) (picks : List ℕ) (four : length picks ≡ 4) (k : head_kind head ≡ 0) where
    pub form-no-rule : z.rules ≤ head_number head → false ≡ move_ok (table_of t) (head ∷ picks)
    form-no-rule h =
        let l : length (table_of t).rules ≤ head_number head = omega (arith, rules-read, length-rules t) in
        sym (false-and _ (le-ltb _ _ l)) ∙ form-react (table_of t) head picks four k

    pub form-rule : head_number head < z.rules → all is_zero (drop (length (consumed (rule_at (table_of t) (head_number head)))) picks)
        ≡ move_ok (table_of t) (head ∷ picks)
    form-rule h =
        let l : head_number head < length (table_of t).rules = omega (arith, rules-read, length-rules t) in
        sym (true-and _ (lt-ltb _ _ l)) ∙ form-react (table_of t) head picks four k

-- ---- the move in the words

module _ {t : Table} {x : Rule} {head : ℕ} {picks : List ℕ} (m : IsMove t x head picks) where
  pub move-react : head_kind head ≡ 0 → move_of t (head ∷ picks) ≡ react (head_number head) (take x.consumes picks)
  unfolding move_of
  move-react k = rw (eq-eqb (head_kind head) 0 k, (m.rule k).consumes)

-- an end: kind 1 is a commit
abbrev end_move : ℕ → ℕ → Move
end_move kind b = cond (eqb kind 1) (commit b) (abort b)

module _ (t : Table) (head : ℕ) (picks : List ℕ) (k : head_kind head ≡ 0 → ⊥) where
  move-end : move_of t (head ∷ picks) ≡ end_move (head_kind head) (head_number head)
  unfolding move_of
  move-end = rw (ne_eqb (head_kind head) 0 k)

  pub move-commit : head_kind head ≡ 1 → move_of t (head ∷ picks) ≡ commit (head_number head)
  move-commit e = move-end ∙ rw (eq-eqb (head_kind head) 1 e)

  pub move-abort : (head_kind head ≡ 1 → ⊥) → move_of t (head ∷ picks) ≡ abort (head_number head)
  move-abort e = move-end ∙ rw (ne_eqb (head_kind head) 1 e)

-- ---- the verdict

both_end : (v : Verdict) → both v Allowed ≡ v
both_end Allowed = refl
both_end (Denied r) = refl

-- an end adds no entries
module _ (ceiling : ℕ) (t : Table) (s : semantics.State) (room : length s.entries ≤ ceiling) where
  end-verdict : (b : ℕ) (c : Bool)
      → both (unless (is_open b s) NoTransaction) (unless (cond c (may_commit t b s) (may_abort b s)) EndNotAllowed)
      ≡ move_verdict ceiling t s (cond c (commit b) (abort b))
  unfolding move_verdict allowed
  end-verdict b true =
      let few : length (applied t 0 s (commit b)).entries ≤ ceiling = omega (arith, length-commit t 0 s b) in
      rw (le-leb _ _ few) (sym (both_end (allowed t s (commit b))))
  end-verdict b false =
      let few : length (applied t 0 s (abort b)).entries ≤ ceiling = omega (arith, length-abort t 0 s b) in
      rw (le-leb _ _ few) (sym (both_end (allowed t s (abort b))))

  pub verdict-end : (head : ℕ) (picks : List ℕ) → (head_kind head ≡ 0 → ⊥)
      → end_verdict (head_kind head) t.sizes.globals (head_number head) s ≡ move_verdict ceiling t s (move_of t (head ∷ picks))
  unfolding end_verdict
  verdict-end head picks k = rw (move-end t head picks k) (end-verdict (head_number head) (eqb (head_kind head) 1))

pub verdict-react : (ceiling : ℕ) {t : Table} {x : Rule} {head : ℕ} {picks : List ℕ} (m : IsMove t x head picks) (s : semantics.State) → head_kind head ≡ 0
    → react_verdict ceiling (rule_in x) s (take x.consumes picks) ≡ move_verdict ceiling t s (move_of t (head ∷ picks))
verdict-react ceiling {t} {x} {head} {picks} m s k =
    rw (move-react m k, rule-in x (rule_at t (head_number head)) (m.rule k)) (sym (react-verdict-is ceiling t s (head_number head) (take x.consumes picks)))

-- ---- what a move leaves

pub applied-react : {t : Table} {x : Rule} {head : ℕ} {picks : List ℕ} (m : IsMove t x head picks) (i : ℕ) (s : semantics.State) → head_kind head ≡ 0
    → applied t i s (move_of t (head ∷ picks)) ≡ reacted (rule_in x) i s (take x.consumes picks)
unfolding applied
applied-react {t} {x} {head} {picks} m i s k = rw (move-react m k, rule-in x (rule_at t (head_number head)) (m.rule k))

-- the members that it ends: none by a reaction, and those of its transaction by an end
pub members-react : {t : Table} {x : Rule} {head : ℕ} {picks : List ℕ} (m : IsMove t x head picks) (s : semantics.State) → head_kind head ≡ 0
    → members_ended s (move_of t (head ∷ picks)) ≡ 0
members-react m s k = ap (members_ended s) (move-react m k)

pub members-end : (t : Table) (head : ℕ) (picks : List ℕ) (s : semantics.State) → (head_kind head ≡ 0 → ⊥)
    → members_ended s (move_of t (head ∷ picks)) ≡ member_count (head_number head) s
members-end t head picks s k = ap (members_ended s) (move-end t head picks k) ∙ go (eqb (head_kind head) 1)
  where
    go : (c : Bool) → members_ended s (cond c (commit (head_number head)) (abort (head_number head))) ≡ member_count (head_number head) s
    go true = refl
    go false = refl

-- a commit frees the messages (kind 0), an abort (kind 2) the compensations (kind 1)
pub applied-end : (t : Table) (head : ℕ) (picks : List ℕ) (i : ℕ) (s : semantics.State) → (head_kind head ≡ 0 → ⊥) → head_kind head ≤ 2
    → applied t i s (move_of t (head ∷ picks)) ≡ ended (λ e. eqb e.kind (head_kind head - 1)) (head_number head) s
unfolding applied
applied-end t head picks i s k l =
    by_bool (eqb (head_kind head) 1)
    (λ e. let one = eqb-true (head_kind head) 1 e in rw (move-commit t head picks k one, one))
    (λ e.
    let ne = eqb-false (head_kind head) 1 e in
    let two : head_kind head ≡ 2 = omega arith in
    rw (move-abort t head picks k ne, two))

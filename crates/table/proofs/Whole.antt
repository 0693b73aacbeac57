-- The whole table: what the pass over the numbers and the pass over the rules say together, and what each answer of the check says.
use Prim.Native.Nat.{ℕ, ◌<◌}
use mathlib.Core.Bool.{Bool, true, false, false≢true}
use mathlib.Core.List.{List}
use mathlib.Core.Path.{◌≡◌, sym, ap, ◌∙◌}
use lib.ListN.{length}
use Rattle.lists.specs.Lists.{all_below}
use Rattle.lists.specs.Tests.{false-and, true-and}
use Rattle.lists.specs.Walk.{below-same}
use Rattle.semantics.specs.Table.{sizes_of, numbers_of, atom_words_of, rule_words, table_sizes_ok, numbers_ok, rule_ok, rules_ok, table_contents_ok}
use Rattle.wellformed.specs.Tables.{TableSized, numbers-length, words-length, numbers-rise, table-given}
use Rattle.semantics.specs.Move.{unless}
use Rattle.semantics.specs.Answers.{table_verdict}
use Rattle.semantics.specs.declared.Refusal.TheVariants.{TableSizes, TableContents}
use Rattle.semantics.specs.declared.Sizes.{Sizes}
use Rattle.semantics.specs.declared.Verdict.TheVariants.{Denied}
use Rattle.table.specs.Index.{Starts, IndexMade, Cut, cut, starts-within, starts-cut}
use Rattle.table.specs.Check.{CheckedAs}

-- an answer and an index of a table's rules, right where the test holds
abbrev pub IndexOf : List ℕ → Bool → Bool → List ℕ → Type 0
IndexOf t test b starts = IndexMade test (numbers_of t) (sizes_of t).rules b starts

-- the code's sizes, numbers and words are the table's; b and the index are what the pass over the numbers answers and leaves
module _
    (t : List ℕ)
    (s : TableSized t)
    {z : Sizes}
    {ns : List ℕ}
    {b : Bool}
    {starts : List ℕ}
    (ez : z ≡ sizes_of t)
    (en : ns ≡ numbers_of t)
    (h : IndexMade (numbers_ok z.rules ns) ns z.rules b starts)
  where
    first : IndexOf t (numbers_ok (sizes_of t).rules (numbers_of t)) b starts
    first = rw (en, ez) at h

    pub numbers-wrong : b ≡ false → IndexOf t (table_contents_ok t) false starts
    unfolding table_contents_ok
    numbers-wrong e =
        let no : table_contents_ok t ≡ false = false-and (rules_ok (sizes_of t) (numbers_of t) (atom_words_of t)) (sym first.answer ∙ e) in
        record { answer = sym no; room = h.room; right = λ yes. absurd (false≢true (sym no ∙ yes)) }

    module _ (e : b ≡ true) {ws : List ℕ} (ew : ws ≡ atom_words_of t) where
      right : numbers_ok (sizes_of t).rules (numbers_of t) ≡ true
      right = sym first.answer ∙ e

      indexed : Starts (numbers_of t) (sizes_of t).rules starts
      indexed = first.right right

      pub cuts : (r : ℕ) → r < z.rules → Cut starts r (length ws)
      cuts = rw (ez, ew) (starts-within indexed (length (atom_words_of t)) s.rules (numbers-length t s ∙ sym (words-length t s)))

      -- the rules by their numbers, and as they are cut out
      rules-same :
          rules_ok (sizes_of t) (numbers_of t) (atom_words_of t)
          ≡ all_below (sizes_of t).rules (λ r. rule_ok (sizes_of t) (cut starts r (atom_words_of t)))
      unfolding rules_ok
      rules-same =
          below-same
          (λ r. rule_ok (sizes_of t) (rule_words r (numbers_of t) (atom_words_of t)))
          (λ r. rule_ok (sizes_of t) (cut starts r (atom_words_of t)))
          (sizes_of t).rules
          (λ r l. ap (rule_ok (sizes_of t)) (starts-cut indexed r (atom_words_of t) l (numbers-rise (sizes_of t).rules (numbers_of t) right)))

      pub numbers-right : {c : Bool} → c ≡ all_below z.rules (λ r. rule_ok z (cut starts r ws)) → IndexOf t (table_contents_ok t) c starts
      unfolding table_contents_ok
      numbers-right {c} g =
          let g' : c ≡ all_below (sizes_of t).rules (λ r. rule_ok (sizes_of t) (cut starts r (atom_words_of t))) = rw (ez, ew) at g in
          record { answer = g' ∙ sym (true-and _ right ∙ rules-same); room = h.room; right = λ yes. indexed }

-- ---- the answers
module _ (t starts : List ℕ) where
  pub sizes-wrong : length starts ≡ 65 → table_sizes_ok t ≡ false → CheckedAs t (Denied TableSizes) starts
  unfolding table_verdict
  sizes-wrong room e =
      record { verdict = rw e; room = room; starts = λ yes. absurd (false≢true (sym e ∙ (table-given t yes).0)) }

  pub sizes-right :
      (b : Bool) {ok : Bool}
      → table_sizes_ok t ≡ true
      → IndexOf t (table_contents_ok t) ok starts
      → ok ≡ b
      → CheckedAs t (unless b TableContents) starts
  unfolding table_verdict
  sizes-right b e f g =
      let h : table_contents_ok t ≡ b = sym f.answer ∙ g in
      record { verdict = rw (e, h); room = f.room; starts = λ yes. f.right (table-given t yes).1 }
